-- The walk over the features: one feature further, a code's first feature is that found before, or this one, or among those behind it.
-- Assumes nothing.
use Rattle.std.proofs.Common.{◌≡◌, ℕ, ◌+◌, ◌<◌, ◌≤◌, true, false, cond, List, [], ◌∷◌, ◌++◌}
use Rattle.std.proofs.Common.{length, refl, sym, ap, ◌∙◌, get_or-take, arith, eqb, eq-eqb, ne_eqb}
use Rattle.discovery.specs.Walking.{First}
use Rattle.std.specs.Prelude.{Option, Some, None, unwrap_or, option_map}
use Rattle.std.specs.Option.{option_or}
use Rattle.std.proofs.lemmas.List.{take-append-drop}
use Rattle.std.specs.Borrow.{Bor}
use Rattle.std.specs.Prelude.{MatchOption, MatchResult, ok_or}
use Rattle.std.specs.List.{IsSplitAt}
use Rattle.rules.specs.Answers.{07·16}
use Rattle.rules.specs.Numbers.{head_size}
use Rattle.rules.specs.Fields.{byte}
use Rattle.rules.specs.Discovering.{features, runs_past, first_of, code_of}
use Rattle.rules.proofs.FeaturesLaws.{whole_then, length_past}

-- of a code, on the way: its first feature is that found, or is still to come
pub record Seen (found : Option (Bor (List ℕ))) (code : ℕ) (d rest : List ℕ) : Type 0 where
  pub is : first_of code (features 0 d) ≡ unwrap_or (option_map (λ b. b.now) found) (first_of code (features 0 rest))

pub none_seen : (code : ℕ) (d : List ℕ) → Seen None code d d
none_seen code d = record { is = refl }

module _ (d f more : List ℕ) (whole : length f ≡ head_size + byte 3 f) where
  pub runs_more : (rest : List ℕ) → rest ≡ f ++ more → runs_past (features 0 d) ≡ runs_past (features 0 rest)
      → runs_past (features 0 d) ≡ runs_past (features 0 more)
  unfolding runs_past
  runs_more rest is runs = runs ∙ ap (λ l. runs_past (features 0 l)) is ∙ ap runs_past (whole_then f more whole)

  module _ (rest : List ℕ) (is : rest ≡ f ++ more) {code : ℕ} {found : Option (Bor (List ℕ))} (seen : Seen found code d rest) where
    first_more : first_of code (features 0 rest) ≡ cond (eqb (code_of f) code) f (first_of code (features 0 more))
    unfolding first_of
    first_more = ap (λ l. first_of code (features 0 l)) is ∙ ap (first_of code) (whole_then f more whole)

    pub seen_other : (code_of f ≡ code → ⊥) → Seen found code d more
    seen_other other = record {
      is = seen.is ∙ ap (unwrap_or (option_map (λ b. b.now) found)) (first_more ∙ (rw (ne_eqb (code_of f) code other)));
    }

    pub seen_one : (b : Bor (List ℕ)) → b.now ≡ f → code_of f ≡ code → Seen (option_or found (Some b)) code d more
    seen_one b at one = record {
      is = seen.is ∙ ap (unwrap_or (option_map (λ b. b.now) found)) (first_more ∙ (rw (eq-eqb (code_of f) code one, ← at))) ∙ kept found b;
    }
      where
        kept : (o : Option (Bor (List ℕ))) (b : Bor (List ℕ))
            → unwrap_or (option_map (λ b. b.now) o) b.now
            ≡ unwrap_or (option_map (λ b. b.now) (option_or o (Some b))) (first_of code (features 0 more))
        kept None b = refl
        kept (Some a) b = refl

-- none is left
module _ (d rest : List ℕ) (none : length rest ≡ 0) where
  pub runs_none : runs_past (features 0 d) ≡ runs_past (features 0 rest) → runs_past (features 0 d) ≡ false
  unfolding features runs_past
  runs_none runs = runs ∙ by rest none
    where
      by : (l : List ℕ) → length l ≡ 0 → runs_past (features 0 l) ≡ false
      by [] e = refl
      by (x ∷ l) e = absurd (omega arith)

  pub seen_all : {code : ℕ} {found : Option (Bor (List ℕ))} → Seen found code d rest → First found code d
  unfolding features first_of
  seen_all {code} {found} seen = seen.is ∙ ap (unwrap_or (option_map (λ b. b.now) found)) (by rest none)
    where
      by : (l : List ℕ) → length l ≡ 0 → first_of code (features 0 l) ≡ []
      by [] e = refl
      by (x ∷ l) e = absurd (omega arith)

-- ------------------------------------------------------------------------
-- The first feature, split off

module _ (d : List ℕ) (enough : head_size ≤ length d) where
  pub split : (l : ℕ) → l ≡ byte 3 d → (parts : Option (Bor (List ℕ) × Bor (List ℕ)))
      → MatchOption parts (length d < head_size + l) (λ p. IsSplitAt d (head_size + l) p.0.now p.1.now)
      → MatchResult (ok_or parts 07·16)
      (λ p. (d ≡ p.0.now ++ p.1.now) × (length p.0.now ≡ head_size + byte 3 p.0.now))
      (λ r. (r ≡ 07·16) × (0 < length d → runs_past (features 0 d) ≡ true))
  split l is None short = (refl, λ _. length_past d enough (omega arith))
  split l is (Some p) at =
      let third : byte 3 p.0.now ≡ byte 3 d = ap (byte 3) at.1 ∙ get_or-take (head_size + l) d 3 0 (omega arith) in (
        rw (at.1, at.2) (sym (take-append-drop (head_size + l) d)),
        omega (arith, at.3, third),
      )
