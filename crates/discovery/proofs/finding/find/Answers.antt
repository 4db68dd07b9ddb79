-- `find` meets its contract: of each code the first feature is that found, or among those left, which run past where all did.
-- Assumes nothing.
use Rattle.std.proofs.Common.{◌≡◌, length, refl, sym, ◌∙◌, arith, rules}
use Rattle.discovery.proofs.WalkingLaws.{none_seen, runs_more, seen_one, seen_other, runs_none, seen_all}
use Rattle.discovery.proofs.finding.find.Goals as goal

pub loop-rest-init : goal.loop-rest-init
loop-rest-init c = (refl, none_seen _ _, none_seen _ _)

pub loop-rest-preserved-in-1 : goal.loop-rest-preserved-in-1
loop-rest-preserved-in-1 c =
    let d = c.args.features.now in
    let parts = c.in_ok-feature.ensures in
    let i = c.loop-rest.invariant in
    let code = sym c.word.ensures ∙ c.in-1.is in (
      runs_more d _ _ parts.1 _ parts.0 i.0,
      (rw c.or-tper.ensures (seen_one d _ _ parts.1 _ parts.0 i.1 c.in_ok-feature.feature refl code)),
      seen_other d _ _ parts.1 _ parts.0 i.2 (λ e. absurd (omega (arith, code, e))),
    )

pub loop-rest-preserved-in-773 : goal.loop-rest-preserved-in-773
loop-rest-preserved-in-773 c =
    let d = c.args.features.now in
    let parts = c.in_ok-feature.ensures in
    let i = c.loop-rest.invariant in
    let code = sym c.word.ensures ∙ c.in-773.is in (
      runs_more d _ _ parts.1 _ parts.0 i.0,
      seen_other d _ _ parts.1 _ parts.0 i.1 (λ e. absurd (omega (arith, code, e))),
      (rw c.or-key_per_io.ensures (seen_one d _ _ parts.1 _ parts.0 i.2 c.in_ok-feature.feature refl code)),
    )

pub loop-rest-preserved : goal.loop-rest-preserved
loop-rest-preserved c =
    let d = c.args.features.now in
    let parts = c.in_ok-feature.ensures in
    let i = c.loop-rest.invariant in (
      runs_more d _ _ parts.1 _ parts.0 i.0,
      seen_other d _ _ parts.1 _ parts.0 i.1 (λ e. absurd (omega (arith, e, c.word.ensures))),
      seen_other d _ _ parts.1 _ parts.0 i.2 (λ e. absurd (omega (arith, e, c.word.ensures))),
    )

pub returns : goal.returns
returns c =
    let d = c.args.features.now in
    let none : length c.loop-rest.rest.now ≡ 0 = search rules in
    let i = c.loop-rest.invariant in (
      runs_none d _ none i.0,
      (seen_all d _ none i.1, seen_all d _ none i.2),
    )
