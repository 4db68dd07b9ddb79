-- A call that is let in, or is not: its judgement, and what its lines may take
-- for granted.
-- Assumes nothing.
use Rattle.std.proofs.Common.{◌≡◌, ℕ, ◌≤◌, Bool, ltb, List, length, sym, ap, ◌∙◌, arith, ltb-false, eqb-true}
use borrow.Author.Tests.{not-false}
use Rattle.rules.specs.declared.Registers.{Registers}
use Rattle.rules.specs.declared.Refusal.{Refusal}
use Rattle.rules.specs.Numbers.{namespaces, store_size}
use Rattle.rules.specs.Checks.{Verdict, passed, refused, first_refusal, settle, judged, AllPass}
use Rattle.rules.specs.Call.{call_checks}
use Rattle.rules.proofs.ChecksLaws.{then_pass}
use Rattle.rules.proofs.SoundLaws.{sound_cache}
use Rattle.std.specs.Prelude.{Result, Ok, Err, ⊤}
use Rattle.drive.specs.Acting.{state, Ready, admitted}

refused_by : (v : Verdict Refusal) (r : Refusal) → ◌≡◌ {A = Result ⊤ Refusal} (Err r) (settle v Err (Ok tt)) → v ≡ refused r
refused_by passed r e = absurd (let z : ◌≡◌ {A = ℕ} 0 1 = cc in omega arith)
refused_by (refused q) r e = let z : q ≡ r = cc in ap refused z

opened_by : (v : Verdict Refusal) → ◌≡◌ {A = Result ⊤ Refusal} (Ok tt) (settle v Err (Ok tt)) → v ≡ passed
opened_by passed e = cc
opened_by (refused q) e = absurd (let z : ◌≡◌ {A = ℕ} 0 1 = cc in omega arith)

module _ (d : Registers) (keys marks : List ℕ) (room : ℕ) (out : List ℕ) (short : Bool) (is : short ≡ ltb (length out) room) where
  verdict : Verdict Refusal
  verdict = first_refusal (call_checks (state d keys marks) room out)

  admitted_is : admitted short (state d keys marks) ≡ settle verdict Err (Ok tt)
  unfolding admitted verdict
  admitted_is = rw is

  -- the refusal stands, whatever else the call would do
  pub shut : {B : Type 0} (r : Refusal) (f : Refusal → B) (o : B) → Err r ≡ admitted short (state d keys marks)
      → f r ≡ judged (call_checks (state d keys marks) room out) f o
  unfolding verdict
  shut r f o e = ap (λ v. settle v f o) (sym (refused_by verdict r (e ∙ admitted_is)))

  module _ (e : (Ok tt) ≡ admitted short (state d keys marks)) where
    opened : verdict ≡ passed
    opened = opened_by verdict (e ∙ admitted_is)

    -- nothing refuses the call
    pub let_in : {B : Type 0} (f : Refusal → B) (o : B) → o ≡ judged (call_checks (state d keys marks) room out) f o
    unfolding verdict
    let_in f o = ap (λ v. settle v f o) (sym opened)

    all_pass : AllPass (call_checks (state d keys marks) room out)
    unfolding verdict
    all_pass = then_pass (call_checks (state d keys marks) room out) opened

    pub has_room : room ≤ length out
    has_room = ltb-false (length out) room all_pass.0

    pub ready : length d.counts ≡ namespaces → Ready d keys marks
    ready counts =
        let sound = all_pass.1.1.0 in
        record {
          sized = record {
            counts = counts;
            cache = sound_cache (state d keys marks) sound;
            store = eqb-true (length marks) store_size (not-false _ all_pass.1.0);
          };
          sound = sound;
        }
