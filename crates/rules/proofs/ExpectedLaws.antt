-- The expected answer looks at no more of a view than `SameView` compares; and of an I/O command's room less still: its count, which
-- slots are empty, KeyUIDs and marks.
-- Assumes nothing.
use Rattle.std.specs.Prelude.{Ok, Err}
use mathlib.Core.Path.{◌≡◌, refl, sym, ap, ◌∙◌}
use mathlib.Core.Bool.{Bool, true, false, not, true≢false}
use mathlib.Core.List.{List, [], ◌∷◌}
use mathlib.Core.Option.{Option}
use Prim.Native.Nat.{ℕ, suc, ◌+◌, ◌≤◌, ◌<◌}
use native.Mathlib.Omega.{arith}
use lib.Dec.{eqb, leb, ltb}
use borrow.Author.Tests.{leb-false, ltb-false}
use Rattle.cells.specs.Predicates.{same}
use Rattle.rules.specs.declared.Namespace.{Namespace}
use Rattle.rules.specs.declared.Tag.{Tag}
use Rattle.rules.specs.declared.Lock.TheVariants.{WriteUnlocked}
use Rattle.rules.specs.Answer.{Answer}
use Rattle.rules.specs.declared.Granted.TheVariants.{LockStates}
use Rattle.rules.specs.declared.Command.{Command}
use Rattle.rules.specs.Numbers.{namespaces, blocks_each, pool_slots, tags_most, slot_places}
use Rattle.rules.specs.Checks.{Check, ◌when◌, judged, only_if}
use Rattle.rules.specs.Answers.{00·0B, 00·25, 07·06, 07·10, 07·09, 07·0C}
use Rattle.rules.specs.State.{namespace, IsNamespace, no_namespace}
use Rattle.rules.specs.Slots.{Contents, uid_held, namespace_at, tag_at}
use Rattle.rules.specs.Marks.{identity_of, differs}
use Rattle.rules.specs.Locks.{not_changeable, shown, partition, same_lock}
use Rattle.rules.specs.View.{View, SameView, managed, tag_above, all_tags, is_empty, has_other, other_key}
use Rattle.rules.specs.Frames.{Frame, manage, release, load, load_wrapped, replace, clear_one, clear_all, io, brings_nothing, brought}
use Rattle.rules.specs.Frames.{set_features, get_features, boot_write, reset, discovery, unknown}
use Rattle.rules.specs.Order as order
use Rattle.rules.specs.Order.{frame_rule, line_rule, frame_of, reading_checks, opened, wrong_key, is_reading, expected}
use Rattle.rules.proofs.ChecksLaws.{judged_append}
use Rattle.rules.proofs.StateLaws.{is_namespace_lem}
use Rattle.rules.proofs.SlotsLaws.{slot_at}
use Rattle.rules.proofs.ViewLaws.{below_same, together_same}

-- ------------------------------------------------------------------------
-- Two lists of checks that are the same as far as they are made

module _ {A : Type 0} where
  abbrev pub Alike : List (Check A) → List (Check A) → Type 0
  Alike [] [] = Unit {0}
  Alike [] (d ∷ ds) = ⊥
  Alike ((a when b) ∷ cs) [] = ⊥
  Alike ((a when b) ∷ cs) ((r when c) ∷ ds) = (a ≡ r) × ((b ≡ c) × (b ≡ false → Alike cs ds))

  pub alike_judged : {B : Type 0} (cs ds : List (Check A)) (f : A → B) (o : B) → Alike cs ds → judged cs f o ≡ judged ds f o
  alike_judged [] [] f o p = refl
  alike_judged [] (d ∷ ds) f o p = absurd p
  alike_judged ((a when b) ∷ cs) [] f o p = absurd p
  alike_judged ((a when true) ∷ cs) ((r when true) ∷ ds) f o p = ap f p.0
  alike_judged ((a when true) ∷ cs) ((r when false) ∷ ds) f o p = absurd (true≢false p.1.0)
  alike_judged ((a when false) ∷ cs) ((r when true) ∷ ds) f o p = absurd (true≢false (sym p.1.0))
  alike_judged ((a when false) ∷ cs) ((r when false) ∷ ds) f o p = alike_judged cs ds f o (p.1.1 refl)

  pub alike_only : (m n : Bool) (cs ds : List (Check A)) → m ≡ n → (m ≡ true → Alike cs ds) → Alike (only_if m cs) (only_if n ds)
  alike_only true true cs ds e h = h refl
  alike_only true false cs ds e h = absurd (true≢false e)
  alike_only false true cs ds e h = absurd (true≢false (sym e))
  alike_only false false cs ds e h = tt

-- one check, and what follows if it passes
next : {A : Type 0} {r : A} {b c : Bool} {X : Type 0} → b ≡ c → (b ≡ false → X) → (r ≡ r) × ((b ≡ c) × (b ≡ false → X))
next e h = (refl, (e, h))

-- ------------------------------------------------------------------------
-- What an I/O command looks at

pub record SameRoom (ns : Namespace) (v w : View) : Type 0 where
  pub tags : v.tags ns ≡ w.tags ns
  pub few : v.tags ns ≤ tags_most
  pub empty : (tag : Tag) → tag.0 < tags_most → is_empty (v.slots ns tag) ≡ is_empty (w.slots ns tag)
  pub identity : (tag : Tag) → tag.0 < tags_most → identity_of (v.slots ns tag) ≡ identity_of (w.slots ns tag)
  pub marks : (block : ℕ) → block < blocks_each → v.marks ns block ≡ w.marks ns block

module _ (v w : View) where
  -- a tag that is not above the Maximum Key Tag
  named : (ns : Namespace) (tag : Tag) → v.tags ns ≤ tags_most → tag_above v ns tag ≡ false → tag.0 < tags_most
  named ns tag few e = let a : tag.0 < v.tags ns = leb-false (v.tags ns) tag.0 e in omega arith

  module _ (c : Command) where
    wrong_same : SameRoom c.ns v w → c.tag.0 < tags_most → c.first + c.more + 1 ≤ blocks_each → wrong_key v c ≡ wrong_key w c
    unfolding wrong_key
    wrong_same r t range =
        below_same (c.more + 1) _ _ (λ k l.
        ap (λ i. differs i (v.marks c.ns (c.first + k))) (r.identity c.tag t)
        ∙ ap (differs (identity_of (w.slots c.ns c.tag))) (r.marks (c.first + k) (omega arith)))

    pub command_alike : (IsNamespace c.ns → SameRoom c.ns v w) → Alike (order.command v c).checks (order.command w c).checks
    unfolding order.command
    command_alike same =
        next refl (λ known. next refl (λ is. next refl (λ range.
        let r = same (is_namespace_lem c.ns is) in
        alike_only (managed v c.ns) (managed w c.ns) _ _ (ap (λ n. not (eqb n 0)) r.tags) (λ m.
        next refl (λ one. next (ap (λ n. leb n c.tag.0) r.tags) (λ above.
        let t = named c.ns c.tag r.few above in
        next (r.empty c.tag t) (λ full.
        alike_only (is_reading c) (is_reading c) _ _ refl (λ reads.
        next (wrong_same r t (ltb-false blocks_each _ range)) (λ right. tt)))))))))

-- ------------------------------------------------------------------------
-- Any frame

module _ (v w : View) (few : (ns : Namespace) → IsNamespace ns → v.tags ns ≤ tags_most) (e : SameView v w) where
  managed_same : (ns : Namespace) → IsNamespace ns → managed v ns ≡ managed w ns
  managed_same ns is = ap (λ n. not (eqb n 0)) (e.tags ns is)

  all_same : all_tags v ≡ all_tags w
  all_same = together_same namespaces v.tags w.tags (λ i l. e.tags (namespace (suc i)) (omega arith, omega arith))

  other_same : (x : Contents) → other_key v.slots x ≡ other_key w.slots x
  unfolding other_key
  other_same x = below_same slot_places _ _ (λ k l. ap (has_other x) (e.slots (namespace_at k) (tag_at k) (slot_at k l)))

  room : (ns : Namespace) → IsNamespace ns → SameRoom ns v w
  room ns is = record {
    tags = e.tags ns is;
    few = few ns is;
    empty = λ tag t. ap is_empty (e.slots ns tag (is, t));
    identity = λ tag t. ap identity_of (e.slots ns tag (is, t));
    marks = λ block b. e.marks ns is block b;
  }

  module _ (ns : Namespace) (tag : Tag) where
    -- the three checks of a slot, and then the rest, with the slot itself in hand
    slot_alike : {X : Type 0} → (v.slots ns tag ≡ w.slots ns tag → X)
        → (00·0B ≡ 00·0B) × ((no_namespace ns ≡ no_namespace ns) × (no_namespace ns ≡ false
        → (07·06 ≡ 07·06) × ((not (managed v ns) ≡ not (managed w ns)) × (not (managed v ns) ≡ false
        → (00·25 ≡ 00·25) × ((tag_above v ns tag ≡ tag_above w ns tag) × (tag_above v ns tag ≡ false → X))))))
    slot_alike h =
        next refl (λ p. let is = is_namespace_lem ns p in
        next (ap not (managed_same ns is)) (λ m.
        next (ap (λ n. leb n tag.0) (e.tags ns is)) (λ t.
        h (e.slots ns tag (is, named v w ns tag (few ns is) t)))))

    load_alike : (x : Contents) → Alike (order.load v ns tag x).checks (order.load w ns tag x).checks
    unfolding order.load
    load_alike x = slot_alike (λ s. next (ap (λ h. not (is_empty h)) s) (λ p. next (other_same x) (λ q. tt)))

    -- by what the wrapped key opens to under each key-encryption key
    opened_alike : (o p : Option Contents) → o ≡ p → v.slots ns tag ≡ w.slots ns tag
        → Alike (07·10 when brings_nothing o ∷ 07·09 when not (is_empty (v.slots ns tag)) ∷ 07·0C when other_key v.slots (brought o) ∷ [])
        (07·10 when brings_nothing p ∷ 07·09 when not (is_empty (w.slots ns tag)) ∷ 07·0C when other_key w.slots (brought p) ∷ [])
    opened_alike o p q s =
        next (ap brings_nothing q) (λ a. next (ap (λ h. not (is_empty h)) s) (λ b.
        next (other_same (brought o) ∙ ap (λ z. other_key w.slots (brought z)) q) (λ c. tt)))

    wrapped_alike : (x : Contents) → Alike (order.load_wrapped v ns tag x).checks (order.load_wrapped w ns tag x).checks
    unfolding order.load_wrapped
    wrapped_alike x = slot_alike (opened_alike (opened v.kek x) (opened w.kek x) (ap (λ k. opened k x) e.kek))

    replace_alike : (old : List ℕ) (x : Contents) → Alike (order.replace v ns tag old x).checks (order.replace w ns tag old x).checks
    unfolding order.replace
    replace_alike old x =
        slot_alike (λ s. next (ap is_empty s) (λ p. next (ap (λ h. not (same (uid_held h) old)) s) (λ q. next (other_same x) (λ r. tt))))

    clear_alike : Alike (order.clear_one v ns tag).checks (order.clear_one w ns tag).checks
    unfolding order.clear_one
    clear_alike = slot_alike (λ s. next (ap is_empty s) (λ p. tt))

  checks_alike : (f : Frame) → Alike (frame_rule v f).checks (frame_rule w f).checks
  unfolding frame_rule order.manage order.release order.clear_all order.set_features order.get_features order.boot_write order.reset order.discovery
  checks_alike (manage ns tags) =
      next refl (λ p. next (managed_same ns (is_namespace_lem ns p)) (λ q. next refl (λ r. next (ap (λ n. ltb pool_slots (n + tags)) all_same) (λ t. tt))))
  checks_alike (release ns) = next refl (λ p. next (ap not (managed_same ns (is_namespace_lem ns p))) (λ q. tt))
  checks_alike (load ns tag x) = load_alike ns tag x
  checks_alike (load_wrapped ns tag x) = wrapped_alike ns tag x
  checks_alike (replace ns tag old x) = replace_alike ns tag old x
  checks_alike (clear_one ns tag) = clear_alike ns tag
  checks_alike (clear_all ns) = next refl (λ p. next (ap not (managed_same ns (is_namespace_lem ns p))) (λ q. tt))
  checks_alike (io c) = command_alike v w c (room c.ns)
  checks_alike (set_features d) = next refl (λ p. next (ap (λ l. not_changeable l d) e.locks) (λ q. tt))
  checks_alike get_features = tt
  checks_alike (boot_write p) = next refl (λ q. next (ap (λ l. not (same_lock (partition p l) WriteUnlocked)) e.locks) (λ r. tt))
  checks_alike (reset level) = next refl (λ p. tt)
  checks_alike discovery = tt
  checks_alike unknown = next refl (λ p. tt)

  answer_same : (f : Frame) → (frame_rule v f).answer ≡ (frame_rule w f).answer
  unfolding frame_rule order.manage order.release order.load order.load_wrapped order.replace order.clear_one order.clear_all order.command order.set_features
      order.get_features order.boot_write order.reset order.discovery
  answer_same (manage ns tags) = refl
  answer_same (release ns) = refl
  answer_same (load ns tag x) = refl
  answer_same (load_wrapped ns tag x) = refl
  answer_same (replace ns tag old x) = refl
  answer_same (clear_one ns tag) = refl
  answer_same (clear_all ns) = refl
  answer_same (io c) = refl
  answer_same (set_features d) = refl
  answer_same get_features = ap (λ l. Ok (LockStates (shown l))) e.locks
  answer_same (boot_write p) = refl
  answer_same (reset level) = refl
  answer_same discovery = refl
  answer_same unknown = refl

-- ------------------------------------------------------------------------
-- A line

abbrev pub frame_answer : View → Frame → Answer
frame_answer v f = judged (frame_rule v f).checks Err (frame_rule v f).answer

-- the line's own checks, then the frame's
pub expected_frame : (v : View) (line : List ℕ) → expected v line ≡ judged (reading_checks line) Err (frame_answer v (frame_of line))
unfolding expected line_rule
expected_frame v line = judged_append (reading_checks line) (frame_rule v (frame_of line)).checks Err (frame_rule v (frame_of line)).answer

pub same_expected : (v w : View) → ((ns : Namespace) → IsNamespace ns → v.tags ns ≤ tags_most) → SameView v w → (line : List ℕ)
    → expected v line ≡ expected w line
same_expected v w few e line =
    let f = frame_of line in
    expected_frame v line
    ∙ ap (judged (reading_checks line) Err)
    (alike_judged (frame_rule v f).checks (frame_rule w f).checks Err (frame_rule v f).answer (checks_alike v w few e f)
    ∙ ap (judged (frame_rule w f).checks Err) (answer_same v w few e f))
    ∙ sym (expected_frame w line)
