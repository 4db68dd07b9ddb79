-- `access` meets its contract: an arm for each of the opcodes, and a range for the others.
-- Assumes nothing.
use Rattle.std.proofs.Common.{◌≡◌, ◌⊎◌, ℕ, inl, inr, ⊎_elim, ne_eqb, rules}
use Rattle.std.specs.Prelude.{Err}
use Rattle.rules.specs.Answers.{00·01}
use Rattle.drive.specs.Acting.{access_of}
use Rattle.drive.proofs.io.access.Goals as goal

neither : (n : ℕ) → (n ≡ 1 → ⊥) → ((n ≡ 2) ⊎ ((n ≡ 5) ⊎ (n ≡ 12)) → ⊥) → Err 00·01 ≡ access_of n
unfolding access_of
neither n a b = rw (ne_eqb n 1 a, ne_eqb n 2 (λ e. b (inl e)), ne_eqb n 5 (λ e. b (inr (inl e))), ne_eqb n 12 (λ e. b (inr (inr e))))

pub returns-in-1 : goal.returns-in-1
unfolding access_of
returns-in-1 c = rw c.in-1.is

pub returns-in-2 : goal.returns-in-2
unfolding access_of
returns-in-2 c = ⊎_elim (λ e. rw e) (⊎_elim (λ e. rw e) (λ e. rw e)) c.in-2.is

pub returns-in-0 : goal.returns-in-0
unfolding access_of
returns-in-0 c = let e : c.args.opcode ≡ 0 = search rules in rw e

pub returns-in-0-2 : goal.returns-in-0-2
returns-in-0-2 c = neither c.args.opcode (search rules) (search rules)
