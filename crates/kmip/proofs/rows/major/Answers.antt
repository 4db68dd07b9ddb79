-- `major` meets its contract.
-- Assumes nothing.
use mathlib.Core.Path.{refl, ◌≡◌, sym, ap, ◌∙◌}
use mathlib.Core.Bool.{Bool, ◌&&◌}
use mathlib.Core.List.{List}
use Prim.Native.Nat.{ℕ, ◌^◌}
use lib.Dec.{leb, ltb}
use Rattle.std.specs.Ordering.{nat_cmp, is_le, is_lt}
use Rattle.rules.specs.Fields.{big_endian}
use Rattle.rules.specs.Ttlv.{Integer}
use Rattle.rules.specs.Kmip.{two_or_more, ProtocolVersionMajor}
use Rattle.kmip.specs.Runs.{items_of}
use Rattle.kmip.proofs.NumberLaws.{in_range}
use Rattle.kmip.proofs.RowLaws.{value_missed, value_row_by}
use Rattle.kmip.proofs.rows.major.Goals as goal

pub returns-in_err-number : goal.returns-in_err-number
returns-in_err-number c =
    rw c.from_residual.ensures (value_missed ProtocolVersionMajor Integer two_or_more (items_of c.args.run) c.in_err-number.ensures)

-- whether the number is in the range, as the rules say it
tested : (n : ℕ) (bytes : List ℕ) (b : Bool) → n ≡ big_endian bytes
    → b ≡ is_le (nat_cmp 2 n) && is_lt (nat_cmp n (2 ^ 31)) → two_or_more bytes ≡ b
tested n bytes b e told = sym (told ∙ in_range 2 (2 ^ 31) n ∙ ap (λ k. leb 2 k && ltb k (2 ^ 31)) e)

pub returns : goal.returns
returns c =
    let found = c.in_ok-number.ensures in
    rw c.then_some.ensures
    (value_row_by ProtocolVersionMajor Integer two_or_more (items_of c.args.run) _ _ found.1 _
    (tested c.in_ok-number.number _ c.contains.result found.2 c.contains.ensures.value) c.in_ok-number.behind refl)
