-- The courier's promises hold: RFC 3394's, of what the two calls leave.
-- Assumes nothing.
use mathlib.Core.Path.{ap, ◌∙◌}
use mathlib.Core.List.{◌++◌}
use lib.Seq.{drop_at}
use Rattle.rules.specs.KeyWrap.{initial_value, wrap, unwrap}
use Rattle.wrap.proofs.WrappingLaws.{unwraps_back}
use Rattle.tuffaleen_c.specs.Courier.{unwrapped, c_unwrap}
use Rattle.promises.specs.Courier.{OpensWhatWasShut, DriveOpensWhatWasShut, NothingOfWhatStaysShut, CourierDemands}
use Rattle.promises.proofs.LeavesLaws.{wrapped_is, unwrapped_is}

drive_opens : DriveOpensWhatWasShut
unfolding initial_value
drive_opens kek front key k f b shut l =
    ap (unwrap kek) (wrapped_is kek (front ++ key) shut l ∙ ap (wrap kek) (drop_at front key 8 f)) ∙ unwraps_back kek key k b

opens : OpensWhatWasShut
unfolding c_unwrap
opens kek front key k f b shut l o u = unwrapped_is kek shut o u ∙ ap unwrapped (drive_opens kek front key k f b shut l)

stays_shut : NothingOfWhatStaysShut
unfolding c_unwrap
stays_shut kek bytes o u e = unwrapped_is kek bytes o u ∙ ap unwrapped e

pub courier_demands : CourierDemands
courier_demands = record { opens_what_was_shut = opens; drive_opens_what_was_shut = drive_opens; nothing_of_what_stays_shut = stays_shut }
