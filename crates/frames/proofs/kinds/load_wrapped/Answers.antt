-- `load_wrapped` meets its contract: the slot that it names, and its kind.
-- Assumes nothing.
use Rattle.std.proofs.Common.{◌≡◌, ◌∙◌, ap, sym, Ok, List, ℕ}
use Rattle.std.proofs.lemmas.Result.{err_from_is_err_and}
use Rattle.rules.specs.Numbers.{wrapped_size}
use Rattle.rules.specs.Checks.{AllPass}
use Rattle.rules.specs.Fields.{byte, bytes}
use Rattle.rules.specs.State.{namespace, key_tag}
use Rattle.rules.specs.Frames.{Frame, load_wrapped, contents_at, load_checks, read_wrapped}
use Rattle.frames.specs.declared.FrameRead.TheVariants.{LoadWrapped}
use Rattle.frames.specs.Reading.{numbers_of}
use Rattle.frames.proofs.KindsLaws.{passed_on, read_by, counted}
use Rattle.frames.proofs.kinds.load_wrapped.Goals as goal

abbrev frame_of : List ℕ → Frame
frame_of f = load_wrapped (namespace (byte 1 f)) (key_tag (bytes 2 3 f)) (contents_at wrapped_size 5 (byte 4 f) f)

-- its numbers, where the checks pass
numbers : (f : List ℕ) → AllPass (load_checks wrapped_size f)
    → Ok (LoadWrapped (namespace (byte 1 f)) (key_tag (bytes 2 3 f)) (byte 4 f)) ≡ numbers_of (frame_of f)
numbers f p = ap (λ l. Ok (LoadWrapped (namespace (byte 1 f)) (key_tag (bytes 2 3 f)) l)) (sym (counted wrapped_size f p))

pub returns-in_err-ns : goal.returns-in_err-ns
unfolding read_wrapped
returns-in_err-ns c =
    let f = c.args.f.now in
    passed_on (err_from_is_err_and _ c.from_residual.ensures.1) ∙ read_by wrapped_size f LoadWrapped (frame_of f) (numbers f) c.in_err-ns.ensures

pub returns : goal.returns
unfolding read_wrapped
returns c =
    let f = c.args.f.now in
    read_by wrapped_size f LoadWrapped (frame_of f) (numbers f) c.in_ok-ns.ensures
