-- `manage` meets its contract: each return is one of the checks.
-- Assumes nothing.
use Rattle.std.proofs.Common.{◌≡◌, ◌+◌, true, false, length, sym, ◌∙◌, ◌||◌, ltb, eqb, arith, rules, eq-eqb, ne_eqb}
use Rattle.std.proofs.Common.{lt-ltb, le-ltb, ⊎_elim}
use Rattle.cells.proofs.PredicatesLaws.{neither}
use Rattle.rules.specs.State.{no_namespace, total}
use Rattle.rules.specs.Numbers.{namespaces, tags_most, pool_slots}
use Rattle.rules.specs.Effects.{set_count}
use Rattle.rules.specs.Order.{manage}
use Rattle.rules.proofs.StateLaws.{is_namespace_lem}
use Rattle.rules.proofs.ViewLaws.{all_tags_lem}
use Rattle.drive.specs.Acting.{state}
use Rattle.drive.proofs.KeysLaws.{managed_by, unmanaged_by, bad_tags}
use Rattle.drive.proofs.keys.manage.Goals as goal

pub returns-then-no_namespace : goal.returns-then-no_namespace
unfolding manage
returns-then-no_namespace c =
    λ keys marks.
    rw (sym c.no_namespace.ensures ∙ c.if-no_namespace.true)

pub count-requires : goal.count-requires
count-requires c =
    is_namespace_lem _ (sym c.no_namespace.ensures ∙ c.if-no_namespace.false)

pub returns-then-count-ne0 : goal.returns-then-count-ne0
unfolding manage
returns-then-count-ne0 c =
    let named : no_namespace c.args.ns ≡ false = sym c.no_namespace.ensures ∙ c.if-no_namespace.false in
    λ keys marks.
    rw (named, managed_by c.args.registers.now c.args.ns _ c.count.ensures c.if-count-ne0.true)

pub returns-then-n-eq0 : goal.returns-then-n-eq0
unfolding manage
returns-then-n-eq0 c =
    let named : no_namespace c.args.ns ≡ false = sym c.no_namespace.ensures ∙ c.if-no_namespace.false in
    let bad : eqb c.args.tags 0 || ltb tags_most c.args.tags ≡ true =
    ⊎_elim (λ z. rw (eq-eqb c.args.tags 0 (sym c.from-n.ensures ∙ z)))
    (λ m. bad_tags c.args.tags (omega (arith, c.from-n.ensures, m.1))) c.then-n-eq0.either in
    λ keys marks.
    rw (named, unmanaged_by c.args.registers.now c.args.ns _ c.count.ensures c.if-count-ne0.false, bad)

pub returns-then-total-n-gt-POOL_SLOTS : goal.returns-then-total-n-gt-POOL_SLOTS
unfolding manage
returns-then-total-n-gt-POOL_SLOTS c =
    let named : no_namespace c.args.ns ≡ false = sym c.no_namespace.ensures ∙ c.if-no_namespace.false in
    let free = unmanaged_by c.args.registers.now c.args.ns _ c.count.ensures c.if-count-ne0.false in
    let good : eqb c.args.tags 0 || ltb tags_most c.args.tags ≡ false =
    neither (eqb c.args.tags 0) (ltb tags_most c.args.tags) (ne_eqb c.args.tags 0 (λ z. c.if-n-eq0.false (c.from-n.ensures ∙ z)))
    (le-ltb tags_most c.args.tags (omega (arith, c.from-n.ensures, c.if-n-gt-TAGS_MOST.false))) in
    let counted : length c.args.registers.now.counts ≡ namespaces = search rules in
    λ keys marks.
    let above : ltb pool_slots (total c.args.registers.now.counts + c.args.tags) ≡ true =
    lt-ltb pool_slots (total c.args.registers.now.counts + c.args.tags)
    (omega (arith, c.total.ensures.0, c.from-n.ensures, c.if-total-n-gt-POOL_SLOTS.true)) in
    rw (named, free, good, all_tags_lem (state c.args.registers.now keys marks) counted, above)

pub set_count-requires : goal.set_count-requires
set_count-requires c =
    is_namespace_lem _ (sym c.no_namespace.ensures ∙ c.if-no_namespace.false)

pub returns : goal.returns
unfolding manage set_count
returns c =
    let named : no_namespace c.args.ns ≡ false = sym c.no_namespace.ensures ∙ c.if-no_namespace.false in
    let free = unmanaged_by c.args.registers.now c.args.ns _ c.count.ensures c.if-count-ne0.false in
    let good : eqb c.args.tags 0 || ltb tags_most c.args.tags ≡ false =
    neither (eqb c.args.tags 0) (ltb tags_most c.args.tags) (ne_eqb c.args.tags 0 (λ z. c.if-n-eq0.false (c.from-n.ensures ∙ z)))
    (le-ltb tags_most c.args.tags (omega (arith, c.from-n.ensures, c.if-n-gt-TAGS_MOST.false))) in
    let counted : length c.args.registers.now.counts ≡ namespaces = search rules in
    λ keys marks.
    let room : ltb pool_slots (total c.args.registers.now.counts + c.args.tags) ≡ false =
    le-ltb pool_slots (total c.args.registers.now.counts + c.args.tags)
    (omega (arith, c.total.ensures.0, c.from-n.ensures, c.if-total-n-gt-POOL_SLOTS.false)) in
    rw (c.set_count.ensures, named, free, good, all_tags_lem (state c.args.registers.now keys marks) counted, room)
