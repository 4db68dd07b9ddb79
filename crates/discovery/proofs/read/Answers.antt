-- `discovery::read` meets its contract: the tests in their order, then what the walk found.
-- Assumes nothing.
use Rattle.std.proofs.Common.{◌+◌, ap, ◌∙◌}
use Rattle.rules.specs.Numbers.{length_size}
use Rattle.discovery.proofs.VerdictLaws.{no_features, past, whole, is_error}
use Rattle.discovery.proofs.read.Goals as goal

pub returns-in_default-get : goal.returns-in_default-get
returns-in_default-get c =
    let front = c.in-Some.ensures.cases in
    no_features c.args.bytes.now front.enough front.same (ap (λ n. length_size + n) c.dword.ensures) c.in_default-get.ensures.lookup.0

pub returns-in_err-found : goal.returns-in_err-found
returns-in_err-found c =
    let front = c.in-Some.ensures.cases in
    let lent = c.in-Some-get.ensures.lookup.0 in
    let error = c.in_err-found.ensures in
    is_error _ _ c.from_residual.ensures.1 ∙ (rw error.0
    (past c.args.bytes.now front.enough front.same (ap (λ n. length_size + n) c.dword.ensures) lent.0 lent.1 lent.2 error.1))

pub returns : goal.returns
returns c =
    let front = c.in-Some.ensures.cases in
    let lent = c.in-Some-get.ensures.lookup.0 in
    whole c.args.bytes.now front.enough front.same (ap (λ n. length_size + n) c.dword.ensures) lent.0 lent.1 lent.2
    c.in_ok-found.found c.header.ensures c.in_ok-found.ensures c.and_then.ensures c.and_then-2.ensures
