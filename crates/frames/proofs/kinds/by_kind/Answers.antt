-- `by_kind` meets its contract: in each arm the table of kinds is read at that kind.
-- Assumes nothing.
use Rattle.std.proofs.Common.{rules}
use Rattle.rules.specs.Fields.{byte}
use Rattle.rules.specs.Frames.{kinds, read_frame}
use Rattle.frames.specs.Reading.{numbered}
use Rattle.frames.proofs.KindsLaws.{no_kind}
use Rattle.frames.proofs.kinds.by_kind.Goals as goal

pub returns-in-1 : goal.returns-in-1
unfolding read_frame kinds
returns-in-1 c = rw c.in-1.is c.manage.ensures

pub returns-in-2 : goal.returns-in-2
unfolding read_frame kinds
returns-in-2 c = rw c.in-2.is c.release.ensures

pub returns-in-3 : goal.returns-in-3
unfolding read_frame kinds
returns-in-3 c = rw c.in-3.is c.load.ensures

pub returns-in-4 : goal.returns-in-4
unfolding read_frame kinds
returns-in-4 c = rw c.in-4.is c.replace.ensures

pub returns-in-5 : goal.returns-in-5
unfolding read_frame kinds
returns-in-5 c = rw c.in-5.is c.clear_one.ensures

pub returns-in-6 : goal.returns-in-6
unfolding read_frame kinds
returns-in-6 c = rw c.in-6.is c.clear_all.ensures

pub returns-in-7 : goal.returns-in-7
unfolding read_frame kinds
returns-in-7 c = rw c.in-7.is c.io.ensures

pub returns-in-8 : goal.returns-in-8
unfolding read_frame kinds
returns-in-8 c = rw c.in-8.is c.set_features.ensures

pub returns-in-9 : goal.returns-in-9
unfolding read_frame kinds
returns-in-9 c = rw c.in-9.is c.get_features.ensures

pub returns-in-10 : goal.returns-in-10
unfolding read_frame kinds
returns-in-10 c = rw c.in-10.is c.boot_write.ensures

pub returns-in-11 : goal.returns-in-11
unfolding read_frame kinds
returns-in-11 c = rw c.in-11.is c.reset.ensures

pub returns-in-12 : goal.returns-in-12
unfolding read_frame kinds
returns-in-12 c = rw c.in-12.is c.discovery.ensures

pub returns-in-14 : goal.returns-in-14
unfolding read_frame kinds
returns-in-14 c = rw c.in-14.is c.load_wrapped.ensures

pub returns-in-13 : goal.returns-in-13
returns-in-13 c = absurd (c.requires.1 c.in-13.is)

pub returns-in-0 : goal.returns-in-0
unfolding read_frame kinds numbered
returns-in-0 c = rw c.in-0.is

pub returns-in-15-to-255 : goal.returns-in-15-to-255
unfolding read_frame numbered
returns-in-15-to-255 c =
    rw (no_kind c.args.f.now (byte 0 c.args.f.now) (search rules) (search rules))
