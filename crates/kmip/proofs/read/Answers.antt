-- `read` meets its contract: each refusal in its order, or both parts copied one behind the other.
-- Assumes nothing.
use mathlib.Core.Path.{refl}
use native.Mathlib.Omega.{arith}
use Prim.Native.Nat.{◌+◌}
use lib.ListN.{length, take}
use lib.Seq.{length-take-le}
use borrow.Author.Tests.{eq-eqb}
use Rattle.std.proofs.lemmas.Result.{err_from_is_err_and}
use Rattle.cells.proofs.CellsLaws.{push}
use Rattle.rules.specs.Numbers.{key_size}
use Rattle.kmip.proofs.ReadingLaws.{bad_length, good_length, nothing_found, no_room, no_load, bad_uid, brings}
use Rattle.kmip.proofs.read.Goals as goal

pub returns-then-out : goal.returns-then-out
returns-then-out c =
    let s = c.args in
    no_room s.ns s.tag s.bytes.now s.out.now c.if-out.true

pub returns-in_err-uid : goal.returns-in_err-uid
returns-in_err-uid c =
    let s = c.args in
    let nothing = nothing_found c.request.result _ _ c.in_err-uid.ensures.value in
    let passed_on = err_from_is_err_and c.from_residual.result c.from_residual.ensures.1 in
    rw (passed_on.1, passed_on.2, nothing.1) (no_load s.ns s.tag s.bytes.now s.out.now c.if-out.false c.request.result c.request.ensures nothing.0)

pub returns-then-n-eq0 : goal.returns-then-n-eq0
returns-then-n-eq0 c =
    let s = c.args in
    bad_uid s.ns s.tag s.bytes.now s.out.now c.if-out.false c.request.result c.request.ensures c.in_ok-uid.field-0
    (grind arith) (bad_length _ c.then-n-eq0.either)

pub returns : goal.returns
returns c =
    let s = c.args in
    let l = c.in_ok-uid.field-0 in
    let n = length l.uid.now in
    let as_long = eq-eqb (length (take n s.out.now)) n (length-take-le n s.out.now (grind arith)) in
    brings s.ns s.tag s.bytes.now s.out.now c.if-out.false c.request.result c.request.ensures l
    (grind arith) (good_length n c.if-n-eq0.false c.if-n-gt-UID_MOST.false) _
    (rw (c.copy.ensures, as_long, c.copy_from_slice.ensures.after) (push l.uid.now s.out.now l.key.now n (n + key_size) refl (omega arith)))
