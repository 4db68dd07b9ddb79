-- `replace` meets its contract: each return is one of the reading's tests.
-- Assumes nothing.
use Rattle.std.proofs.Common.{◌∙◌, ◌+◌, ap, refl, Err, arith}
use Rattle.std.proofs.lemmas.Result.{err_from_is_err_and}
use Rattle.rules.specs.Fields.{byte}
use Rattle.frames.proofs.FieldsLaws.{pair_at}
use Rattle.frames.proofs.KindsLaws.{uid_good, uid_bad, passed_on, replace_short, replace_bad_old, replace_no_new, replace_bad_new}
use Rattle.frames.proofs.KindsLaws.{replace_wrong, replace_right}
use Rattle.frames.proofs.kinds.replace.Goals as goal

pub returns-in_default : goal.returns-in_default
returns-in_default c =
    replace_short c.args.f.now c.in_default.len_below

pub returns-in_err-o : goal.returns-in_err-o
returns-in_err-o c =
    let f = c.args.f.now in
    let bad = uid_bad (byte 4 f) c.in_err-o.ensures in
    passed_on (err_from_is_err_and _ c.from_residual.ensures.1) ∙ ap Err bad.1 ∙ replace_bad_old f c.in-len5-up.len_at_least bad.0

pub returns-then-f-o : goal.returns-then-f-o
returns-then-f-o c =
    let f = c.args.f.now in
    let o = uid_good (byte 4 f) c.in_ok-o.ensures in
    let few = c.if-f-o.true in
    replace_no_new f c.in-len5-up.len_at_least o.0 (omega (arith, o.1))

pub returns-in_err-l : goal.returns-in_err-l
returns-in_err-l c =
    let f = c.args.f.now in
    let o = uid_good (byte 4 f) c.in_ok-o.ensures in
    let enough = c.if-f-o.false in
    let bad = uid_bad (byte (5 + byte 4 f) f) (rw o.1 at c.in_err-l.ensures) in
    passed_on (err_from_is_err_and _ c.from_residual-in_err-l.ensures.1)
    ∙ ap Err bad.1
    ∙ replace_bad_new f c.in-len5-up.len_at_least o.0 (omega (arith, o.1)) bad.0

pub returns-then-f-o-2 : goal.returns-then-f-o-2
returns-then-f-o-2 c =
    let f = c.args.f.now in
    let o = uid_good (byte 4 f) c.in_ok-o.ensures in
    let enough = c.if-f-o.false in
    let l = uid_good (byte (5 + byte 4 f) f) (rw o.1 at c.in_ok-l.ensures) in
    let other = c.if-f-o-2.true in
    replace_wrong f c.in-len5-up.len_at_least o.0 (omega (arith, o.1)) l.0 (λ e. other (omega (arith, o.1, l.1)))

pub returns : goal.returns
returns c =
    let f = c.args.f.now in
    let o = uid_good (byte 4 f) c.in_ok-o.ensures in
    let enough = c.if-f-o.false in
    let l = uid_good (byte (5 + byte 4 f) f) (rw o.1 at c.in_ok-l.ensures) in
    let size = c.if-f-o-2.false in
    rw (c.namespace_of.ensures, c.tag_of.ensures, ← pair_at 2 3 f refl (omega arith), o.1, l.1)
    (replace_right f c.in-len5-up.len_at_least o.0 (omega (arith, o.1)) l.0 (omega (arith, o.1, l.1)))
