-- `tuffaleen_discovery` meets its contract: too few places, no response, or the numbers.
-- Assumes nothing.
use native.Mathlib.Omega.{arith}
use borrow.Author.Tests.{lt-ltb}
use Rattle.tuffaleen_c.specs.Host.{c_discovery}
use Rattle.tuffaleen_c.proofs.HostLaws.{told_refused, told_numbers}
use Rattle.tuffaleen_c.proofs.tuffaleen_discovery.Goals as goal

pub returns-then-fields-lt-FIELDS_SIZE : goal.returns-then-fields-lt-FIELDS_SIZE
unfolding c_discovery
returns-then-fields-lt-FIELDS_SIZE c =
    rw (lt-ltb _ _ c.if-fields-lt-FIELDS_SIZE.true, c.from.ensures)

pub returns-in-Ok : goal.returns-in-Ok
returns-in-Ok c =
    told_numbers c.args.bytes.now c.args.fields.now (omega arith) c.read.result c.read.ensures
    c.in-Ok.found c.in-Ok.is c.number.result c.number.ensures c.put.new.fields c.put.ensures

pub returns-in-Err : goal.returns-in-Err
returns-in-Err c =
    told_refused c.args.bytes.now c.args.fields.now (omega arith) c.read.result c.read.ensures
    c.in-Err.refusal c.in-Err.is c.from-in-Err.result c.from-in-Err.ensures
