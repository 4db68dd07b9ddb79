-- `discovery::write` meets its contract: the three parts, one behind the other; an output that is too short stays.
-- Assumes nothing.
use Rattle.std.specs.Prelude.{Ok}
use Rattle.std.proofs.Common.{◌≡◌, length, sym, ap, ◌∙◌, length-take-le, le-ltb, arith, rules}
use Rattle.rules.specs.declared.Granted.TheVariants.{Done}
use Rattle.rules.specs.Numbers.{header_size, tper_size, key_per_io_size, discovery_size}
use Rattle.rules.specs.Discovering.{Responded, respond}
use Rattle.discovery.proofs.WritingLaws.{responded}
use Rattle.discovery.proofs.write.Goals as goal

pub slice_bounds-copy_from_slice-end-2 : goal.slice_bounds-copy_from_slice-end-2
slice_bounds-copy_from_slice-end-2 c = sym (length-take-le 48 c.args.out.now (omega arith))

pub copy_from_slice-requires : goal.copy_from_slice-requires
copy_from_slice-requires c =
    let size : length c.header_bytes.result ≡ header_size = search rules in
    length-take-le 48 c.args.out.now (omega arith) ∙ sym size

pub returns : goal.returns
unfolding respond
returns c =
    let header : length c.header_bytes.result ≡ header_size = search rules in
    let tper : length c.tper_bytes.result ≡ tper_size = search rules in
    let key_per_io : length c.key_per_io_bytes.result ≡ key_per_io_size = search rules in
    rw (
      le-ltb (length c.args.out.now) discovery_size (omega arith),
      c.copy_from_slice.ensures.after,
      c.copy_from_slice-2.ensures.after,
      c.copy_from_slice-3.ensures.after,
    )
    (ap {B = Responded} (λ o. record { answer = Ok Done; out = o })
    (responded c.args.fields c.args.out.now header tper key_per_io c.header_bytes.ensures c.tper_bytes.ensures c.key_per_io_bytes.ensures))
