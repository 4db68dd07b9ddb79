-- A frame as the code has it: the numbers of a frame of the rules, and, with
-- the bytes that it was read from, the frame that it stands for.
-- Assumes nothing.
use Rattle.std.specs.Prelude.{List, [], ◌∷◌, ◌++◌, ℕ, ◌+◌, ◌≤◌, length, Result, Ok, Err}
use Rattle.cells.specs.Cells.{part, write}
use Rattle.rules.specs.declared.Refusal.{Refusal}
use Rattle.rules.specs.Checks.{◌when◌, judged}
use Rattle.rules.specs.Numbers.{key_size, wrapped_size}
use Rattle.rules.specs.Answers.{07·02, 07·04}
use Rattle.rules.specs.Slots.{FitKey, FitWrapped}
use Rattle.rules.specs.Frames.{Frame, Reading, bad_uid_length, contents_at}
use Rattle.rules.specs.Frames as frames
use Rattle.rules.specs.Order.{frame_of, reading_checks}
use Rattle.digits.specs.Digits.{read_into}
use Rattle.frames.specs.declared.FrameRead.{FrameRead}
use Rattle.frames.specs.declared.FrameRead.TheVariants.{Manage, Release, Load, LoadWrapped, Replace, ClearOne, ClearAll, Io, SetFeatures, GetFeatures}
use Rattle.frames.specs.declared.FrameRead.TheVariants.{BootWrite, Reset, Discovery}

-- a frame's numbers; of a KeyUID its length
abbrev pub numbers_of : Frame → Result FrameRead Refusal
numbers_of (frames.manage ns tags) = Ok (Manage ns tags)
numbers_of (frames.release ns) = Ok (Release ns)
numbers_of (frames.load ns tag x) = Ok (Load ns tag (length x.uid))
numbers_of (frames.load_wrapped ns tag x) = Ok (LoadWrapped ns tag (length x.uid))
numbers_of (frames.replace ns tag old x) = Ok (Replace ns tag (length old) (length x.uid))
numbers_of (frames.clear_one ns tag) = Ok (ClearOne ns tag)
numbers_of (frames.clear_all ns) = Ok (ClearAll ns)
numbers_of (frames.io c) = Ok (Io c)
numbers_of (frames.set_features dword11) = Ok (SetFeatures dword11)
numbers_of frames.get_features = Ok GetFeatures
numbers_of (frames.boot_write partition) = Ok (BootWrite partition)
numbers_of (frames.reset level) = Ok (Reset level)
numbers_of frames.discovery = Ok Discovery
numbers_of frames.unknown = Err 07·02

-- what such a frame stands for, with the bytes that KeyUIDs and key lie in: a frame, or the refusal
pub data Meant : Type 0 where
  frame : Frame → Meant
  refusal : Refusal → Meant

abbrev pub meant : List ℕ → Result FrameRead Refusal → Meant
meant f (Ok (Manage ns tags)) = frame (frames.manage ns tags)
meant f (Ok (Release ns)) = frame (frames.release ns)
meant f (Ok (Load ns tag l)) = frame (frames.load ns tag (contents_at key_size 5 l f))
meant f (Ok (LoadWrapped ns tag l)) = frame (frames.load_wrapped ns tag (contents_at wrapped_size 5 l f))
meant f (Ok (Replace ns tag o l)) = frame (frames.replace ns tag (part 5 o f) (contents_at key_size (6 + o) l f))
meant f (Ok (ClearOne ns tag)) = frame (frames.clear_one ns tag)
meant f (Ok (ClearAll ns)) = frame (frames.clear_all ns)
meant f (Ok (Io c)) = frame (frames.io c)
meant f (Ok (SetFeatures dword11)) = frame (frames.set_features dword11)
meant f (Ok GetFeatures) = frame frames.get_features
meant f (Ok (BootWrite partition)) = frame (frames.boot_write partition)
meant f (Ok (Reset level)) = frame (frames.reset level)
meant f (Ok Discovery) = frame frames.discovery
meant f (Err r) = refusal r

-- a reading's first refusal, or its frame's numbers
unfoldable pub numbered : Reading → Result FrameRead Refusal
numbered reading = judged reading.checks Err (numbers_of reading.frame)

-- a load's KeyUID and key stand from byte 5 on, wherever the line had them (a message has them elsewhere); the other kinds leave the bytes
abbrev pub placed : Frame → List ℕ → List ℕ
placed (frames.load ns tag x) f = write 5 (length x.uid + key_size) (x.uid ++ x.key) f
placed (frames.manage ns tags) f = f
placed (frames.release ns) f = f
placed (frames.load_wrapped ns tag x) f = f
placed (frames.replace ns tag old x) f = f
placed (frames.clear_one ns tag) f = f
placed (frames.clear_all ns) f = f
placed (frames.io c) f = f
placed (frames.set_features dword11) f = f
placed frames.get_features f = f
placed (frames.boot_write partition) f = f
placed (frames.reset level) f = f
placed frames.discovery f = f
placed frames.unknown f = f

pub record ReadFrom : Type 0 where
  pub read : Result FrameRead Refusal
  pub frame : List ℕ

-- a reading as numbers, and the bytes with what an accepted load brings
unfoldable pub read_as : Reading → List ℕ → ReadFrom
read_as reading f = record {
  read = numbered reading;
  frame = judged reading.checks (λ why. f) (placed reading.frame f);
}

-- what reading a line leaves: the rules' reading of the line, and its bytes at the front of the frame
unfoldable pub read_from : List ℕ → List ℕ → ReadFrom
read_from line bytes = read_as (record { checks = reading_checks line; frame = frame_of line }) (read_into line bytes).frame

-- how many bytes a KeyUID has, or 07 04
abbrev pub uid_length : ℕ → Result ℕ Refusal
uid_length l = judged (07·04 when bad_uid_length l ∷ []) Err (Ok l)

-- the KeyUID and key of a load, clear or wrapped, and of a replace fit, and lie in the bytes
abbrev pub Lies : List ℕ → Result FrameRead Refusal → Type 0
Lies f (Ok (Manage ns tags)) = Unit {0}
Lies f (Ok (Release ns)) = Unit {0}
Lies f (Ok (Load ns tag l)) = FitKey (contents_at key_size 5 l f) × (5 + l + key_size ≤ length f)
Lies f (Ok (LoadWrapped ns tag l)) = FitWrapped (contents_at wrapped_size 5 l f) × (5 + l + wrapped_size ≤ length f)
Lies f (Ok (Replace ns tag o l)) = FitKey (contents_at key_size (6 + o) l f) × (6 + o + l + key_size ≤ length f)
Lies f (Ok (ClearOne ns tag)) = Unit {0}
Lies f (Ok (ClearAll ns)) = Unit {0}
Lies f (Ok (Io c)) = Unit {0}
Lies f (Ok (SetFeatures dword11)) = Unit {0}
Lies f (Ok GetFeatures) = Unit {0}
Lies f (Ok (BootWrite partition)) = Unit {0}
Lies f (Ok (Reset level)) = Unit {0}
Lies f (Ok Discovery) = Unit {0}
Lies f (Err r) = Unit {0}
