-- What a host is told: the refusal, or the numbers.
-- Assumes nothing.
use Rattle.std.proofs.Common.{◌≡◌, ap, ◌∙◌, List, ◌++◌, append_assoc, length, length-append, take, drop}
use Rattle.std.proofs.Common.{ℕ, ◌+◌, ◌-◌, ◌≤◌, Result, Ok, Err, arith}
use Rattle.cells.proofs.CellsLaws.{push}
use borrow.Author.Tests.{le-ltb}
use Rattle.rules.specs.declared.Refusal.{Refusal}
use Rattle.rules.specs.declared.Granted.TheVariants.{Done}
use Rattle.rules.specs.declared.Discovered.{Discovered}
use Rattle.rules.specs.Answers.{refusal_number, number}
use Rattle.rules.specs.Discovering.{discovered}
use Rattle.tuffaleen_c.specs.Host.{header_places, tper_places, fields_size, numbers_of, CDiscovery, told, c_discovery}

-- the three parts, lent one behind the other from the front and filled
pub parts : (fields x y z : List ℕ) → length x ≡ header_places → length y ≡ tper_places
    → (let one : List ℕ = x ++ drop header_places fields in
    let at : ℕ = header_places + tper_places in
    let two : List ℕ = take header_places one ++ (y ++ drop (at - header_places) (drop header_places one)) in
    take at two ++ (z ++ drop (fields_size - at) (drop at two)) ≡ (x ++ (y ++ z)) ++ drop fields_size fields)
parts fields x y z lx ly =
    let l : length (x ++ y) ≡ header_places + tper_places = length-append x y ∙ omega (arith, lx, ly) in
    ap (λ (two : List ℕ). take 41 two ++ (z ++ drop 31 (drop 41 two))) (push x fields y header_places 41 lx (omega arith))
    ∙ push (x ++ y) fields z 41 fields_size l (omega arith)
    ∙ ap (λ l. l ++ drop fields_size fields) (append_assoc x y z)

module _ (bytes fields : List ℕ) (room : fields_size ≤ length fields) (o : Result Discovered Refusal) (is : o ≡ discovered bytes) where
  told_is : told fields o ≡ c_discovery bytes fields
  unfolding c_discovery
  told_is = rw (le-ltb (length fields) fields_size room, ← is)

  pub told_refused : (r : Refusal) → o ≡ Err r → (n : ℕ) → n ≡ refusal_number r
      → ◌≡◌ {A = CDiscovery} (record { number = n; fields = fields }) (c_discovery bytes fields)
  told_refused r a n e = rw (← told_is, a, e)

  pub told_numbers : (f : Discovered) → o ≡ Ok f → (n : ℕ) → n ≡ number (Ok Done)
      → (x : List ℕ) → x ≡ numbers_of f ++ drop fields_size fields
      → ◌≡◌ {A = CDiscovery} (record { number = n; fields = x }) (c_discovery bytes fields)
  told_numbers f a n e x p = rw (← told_is, a, e, p)
