-- `act` meets its contract: each arm is the rule of its frame.
-- Assumes nothing.
use Rattle.std.proofs.Common.{sym, refl, ◌∙◌}
use Rattle.rules.specs.Order.{frame_rule, discovery}
use Rattle.drive.specs.Acting.{Sound}
use Rattle.drive.proofs.ActingLaws.{sound_keys}
use Rattle.drive.proofs.act.act.Goals as goal

pub load-requires : goal.load-requires
load-requires c =
    let sound : Sound c.args.registers.now c.args.keys.now = sym (sound_keys c.args.registers.now c.args.keys.now c.args.marks.now) ∙ c.requires.0.sound in
    (sound, rw (c.in_ok-read.was, c.in-Load.is) at c.requires.1)

pub load-requires-in-LoadWrapped : goal.load-requires-in-LoadWrapped
load-requires-in-LoadWrapped c =
    let sound : Sound c.args.registers.now c.args.keys.now = sym (sound_keys c.args.registers.now c.args.keys.now c.args.marks.now) ∙ c.requires.0.sound in
    (sound, rw (c.in_ok-read.was, c.in-LoadWrapped.is) at c.requires.1)

pub replace-requires : goal.replace-requires
replace-requires c =
    let sound : Sound c.args.registers.now c.args.keys.now = sym (sound_keys c.args.registers.now c.args.keys.now c.args.marks.now) ∙ c.requires.0.sound in
    (sound, rw (c.in_ok-read.was, c.in-Replace.is) at c.requires.1)

pub clear_one-requires : goal.clear_one-requires
clear_one-requires c =
    let sound : Sound c.args.registers.now c.args.keys.now = sym (sound_keys c.args.registers.now c.args.keys.now c.args.marks.now) ∙ c.requires.0.sound in
    sound

pub clear_all-requires : goal.clear_all-requires
clear_all-requires c =
    let sound : Sound c.args.registers.now c.args.keys.now = sym (sound_keys c.args.registers.now c.args.keys.now c.args.marks.now) ∙ c.requires.0.sound in
    sound

pub reset-requires : goal.reset-requires
reset-requires c =
    let sound : Sound c.args.registers.now c.args.keys.now = sym (sound_keys c.args.registers.now c.args.keys.now c.args.marks.now) ∙ c.requires.0.sound in
    sound

pub returns-in-Manage : goal.returns-in-Manage
unfolding frame_rule
returns-in-Manage c =
    (rw (c.in_ok-read.was, c.in-Manage.is) (c.manage.ensures _ _), refl, λ z. z)

pub returns-in-Release : goal.returns-in-Release
unfolding frame_rule
returns-in-Release c =
    (rw (c.in_ok-read.was, c.in-Release.is) c.release.ensures, refl, λ z. z)

pub returns-in-Load : goal.returns-in-Load
unfolding frame_rule
returns-in-Load c =
    (rw (c.in_ok-read.was, c.in-Load.is) (c.load.ensures _), refl, λ z. z)

pub returns-in-Replace : goal.returns-in-Replace
unfolding frame_rule
returns-in-Replace c =
    (rw (c.in_ok-read.was, c.in-Replace.is) (c.replace.ensures _), refl, λ z. z)

pub returns-in-ClearOne : goal.returns-in-ClearOne
unfolding frame_rule
returns-in-ClearOne c =
    (rw (c.in_ok-read.was, c.in-ClearOne.is) (c.clear_one.ensures _), refl, λ z. z)

pub returns-in-ClearAll : goal.returns-in-ClearAll
unfolding frame_rule
returns-in-ClearAll c =
    (rw (c.in_ok-read.was, c.in-ClearAll.is) (c.clear_all.ensures _), refl, λ z. z)

pub returns-in-Io : goal.returns-in-Io
unfolding frame_rule
returns-in-Io c =
    (rw (c.in_ok-read.was, c.in-Io.is) c.command.ensures, refl, λ z. z)

pub returns-in-SetFeatures : goal.returns-in-SetFeatures
unfolding frame_rule
returns-in-SetFeatures c =
    (rw (c.in_ok-read.was, c.in-SetFeatures.is) (c.set_features.ensures _ _), refl, λ z. z)

pub returns-in-GetFeatures : goal.returns-in-GetFeatures
unfolding frame_rule
returns-in-GetFeatures c =
    (rw (c.in_ok-read.was, c.in-GetFeatures.is) (c.get_features.ensures _ _), refl, λ z. z)

pub returns-in-BootWrite : goal.returns-in-BootWrite
unfolding frame_rule
returns-in-BootWrite c =
    (rw (c.in_ok-read.was, c.in-BootWrite.is) (c.boot_write.ensures _ _), refl, λ z. z)

pub returns-in-Reset : goal.returns-in-Reset
unfolding frame_rule
returns-in-Reset c =
    (rw (c.in_ok-read.was, c.in-Reset.is) (c.reset.ensures _), refl, λ z. z)

pub returns-in-LoadWrapped : goal.returns-in-LoadWrapped
unfolding frame_rule
returns-in-LoadWrapped c =
    rw (c.in_ok-read.was, c.in-LoadWrapped.is) (c.load-in-LoadWrapped.ensures.0 _, c.load-in-LoadWrapped.ensures.1, c.load-in-LoadWrapped.ensures.2)

pub returns-in-Discovery : goal.returns-in-Discovery
unfolding frame_rule discovery
returns-in-Discovery c =
    (rw (c.in_ok-read.was, c.in-Discovery.is), refl, λ z. z)
