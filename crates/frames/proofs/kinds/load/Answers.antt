-- `load` meets its contract: the slot that it names, and its kind.
-- Assumes nothing.
use Rattle.std.proofs.Common.{◌≡◌, ◌∙◌, ap, sym, Ok, List, ℕ}
use Rattle.std.proofs.lemmas.Result.{err_from_is_err_and}
use Rattle.rules.specs.Numbers.{key_size}
use Rattle.rules.specs.Checks.{AllPass}
use Rattle.rules.specs.Fields.{byte, bytes}
use Rattle.rules.specs.State.{namespace, key_tag}
use Rattle.rules.specs.Frames.{Frame, load, contents_at, load_checks, read_load}
use Rattle.frames.specs.declared.FrameRead.TheVariants.{Load}
use Rattle.frames.specs.Reading.{numbers_of}
use Rattle.frames.proofs.KindsLaws.{passed_on, read_by, counted}
use Rattle.frames.proofs.kinds.load.Goals as goal

abbrev frame_of : List ℕ → Frame
frame_of f = load (namespace (byte 1 f)) (key_tag (bytes 2 3 f)) (contents_at key_size 5 (byte 4 f) f)

-- its numbers, where the checks pass
numbers : (f : List ℕ) → AllPass (load_checks key_size f)
    → Ok (Load (namespace (byte 1 f)) (key_tag (bytes 2 3 f)) (byte 4 f)) ≡ numbers_of (frame_of f)
numbers f p = ap (λ l. Ok (Load (namespace (byte 1 f)) (key_tag (bytes 2 3 f)) l)) (sym (counted key_size f p))

pub returns-in_err-ns : goal.returns-in_err-ns
unfolding read_load
returns-in_err-ns c =
    let f = c.args.f.now in
    passed_on (err_from_is_err_and _ c.from_residual.ensures.1) ∙ read_by key_size f Load (frame_of f) (numbers f) c.in_err-ns.ensures

pub returns : goal.returns
unfolding read_load
returns c =
    let f = c.args.f.now in
    read_by key_size f Load (frame_of f) (numbers f) c.in_ok-ns.ensures
