-- What a frame that passes is answered: one of three, and no refusal.
-- Assumes nothing.
use Rattle.std.specs.Prelude.{Ok, Err}
use mathlib.Core.Path.{◌≡◌, refl}
use Rattle.rules.specs.Answer.{Answer}
use Rattle.rules.specs.declared.Granted.TheVariants.{Done, LockStates, Discovery}
use Rattle.rules.specs.Locks.{shown}
use Rattle.rules.specs.View.{View}
use Rattle.rules.specs.Frames.{Frame, manage, release, load, load_wrapped, replace, clear_one, clear_all, io}
use Rattle.rules.specs.Frames.{set_features, get_features, boot_write, reset, discovery, unknown}
use Rattle.rules.specs.Order as order
use Rattle.rules.specs.Order.{frame_rule}

abbrev pub Given : View → Frame → Answer → Type 0
Given v f (Ok Done) = Unit {0}
Given v f (Ok (LockStates dword)) = dword ≡ shown v.locks
Given v f (Ok Discovery) = f ≡ discovery
Given v f (Err r) = ⊥

pub given : (v : View) (f : Frame) → Given v f (frame_rule v f).answer
unfolding frame_rule order.manage order.release order.load order.load_wrapped order.replace order.clear_one order.clear_all order.command order.set_features
    order.get_features order.boot_write order.reset order.discovery
given v (manage ns tags) = tt
given v (release ns) = tt
given v (load ns tag x) = tt
given v (load_wrapped ns tag x) = tt
given v (replace ns tag old x) = tt
given v (clear_one ns tag) = tt
given v (clear_all ns) = tt
given v (io c) = tt
given v (set_features dword11) = tt
given v get_features = refl
given v (boot_write partition) = tt
given v (reset level) = tt
given v discovery = refl
given v unknown = tt
