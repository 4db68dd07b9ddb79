-- `write` meets its contract: each way out is an answer of `write_list`.
-- Assumes nothing.
use native.Mathlib.Omega.{arith}
use mathlib.Core.Path.{◌≡◌, sym, ◌∙◌}
use Prim.Native.Nat.{◌≤◌}
use lib.ListN.{length}
use Rattle.std.proofs.lemmas.Option.{MatchOption-at_some, MatchOption-at_none}
use Rattle.std.proofs.lemmas.Result.{err_from_is_err_and}
use Rattle.ttlv.specs.Pieces.{items_of}
use Rattle.ttlv.specs.Writing.{room_for}
use Rattle.ttlv.specs.declared.WriteError.TheVariants.{NoList}
use Rattle.ttlv.proofs.GoodLaws.{good_from_lem, good_inside}
use Rattle.ttlv.proofs.WroteLaws.{wrote_absent, wrote_short, wrote_bad, wrote_long, wrote_all}
use Rattle.ttlv.proofs.write.Goals as goal
use Rattle.ttlv.proofs.write.Goals.{then-not-are_good-via-then-not-are_good, then-not-are_good-via-else-not-are_good+then-n-ge-LENGTHS}

pub returns-in_err-items : goal.returns-in_err-items
returns-in_err-items c =
    let s = c.args in
    let none = c.in_err-items.ensures.ok_part in
    let absent = MatchOption-at_none _ _ none c.new.ensures in
    let e = rw none at c.in_err-items.ensures.value in
    let same : c.in_err-items.field-0.0 ≡ NoList = cc e in
    let p = err_from_is_err_and c.from_residual.result c.from_residual.ensures.1 in
    rw (p.1, p.2, same) (wrote_absent s.items.now s.count s.values.now s.out.now absent)

pub returns-then-out-n : goal.returns-then-out-n
returns-then-out-n c =
    let s = c.args in
    let there = MatchOption-at_some _ _ c.in_ok-items.items c.in_ok-items.ensures.ok_part c.new.ensures in
    let n = c.room-n.ensures in
    wrote_short s.items.now s.count s.values.now s.out.now _ there (omega arith)

pub returns-then-not-are_good : goal.returns-then-not-are_good
returns-then-not-are_good c =
    let s = c.args in
    let arrays = c.in_ok-items.items.arrays.now in
    let there = MatchOption-at_some _ _ c.in_ok-items.items c.in_ok-items.ensures.ok_part c.new.ensures in
    let n = c.room-n.ensures in
    let room : room_for (items_of arrays) ≤ length s.out.now = omega (arith, n) in
    elim c.then-not-are_good.branch [
      | then-not-are_good-via-then-not-are_good w ↦
          wrote_bad s.items.now s.count s.values.now s.out.now arrays there room (sym c.are_good.ensures ∙ w.if-not-are_good.true)
      | then-not-are_good-via-else-not-are_good+then-n-ge-LENGTHS w ↦
          let good = sym c.are_good.ensures ∙ w.if-not-are_good.false in
          wrote_long s.items.now s.count s.values.now s.out.now arrays there room good (omega arith)
    ]

pub lay-requires : goal.lay-requires
lay-requires c =
    let s = c.args in
    let is = items_of c.in_ok-items.items.arrays.now in
    let there = MatchOption-at_some _ _ c.in_ok-items.items c.in_ok-items.ensures.ok_part c.new.ensures in
    let n = c.room-n.ensures in
    let good = sym c.are_good.ensures ∙ c.if-not-are_good.false in
    record {
      inside = good_inside s.values.now is (good_from_lem s.values.now 1 is good);
      room = omega arith;
      fits = omega arith;
    }

pub returns : goal.returns
returns c =
    let s = c.args in
    let arrays = c.in_ok-items.items.arrays.now in
    let there = MatchOption-at_some _ _ c.in_ok-items.items c.in_ok-items.ensures.ok_part c.new.ensures in
    let n = c.room-n.ensures in
    let room : room_for (items_of arrays) ≤ length s.out.now = omega (arith, n) in
    let good = sym c.are_good.ensures ∙ c.if-not-are_good.false in
    wrote_all s.items.now s.count s.values.now s.out.now arrays there room good (omega arith) c.lay.result c.lay.new.out c.lay.ensures
