-- A KeyUID and a key, by their bytes, as what a slot holds.
-- Assumes nothing.
use Rattle.std.specs.Prelude.{List, ℕ}
use Rattle.rules.specs.Slots.{Contents}

abbrev pub contents : List ℕ → List ℕ → Contents
contents uid key = record { uid = uid; key = key }
