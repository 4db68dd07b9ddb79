-- The whole state but the marks as one byte image, for callers in C: the tag
-- counts, the two boot locks, the key cache with the key-encryption key at its end.
-- And what a call leaves of it.
-- Assumes nothing.
use Rattle.std.specs.Prelude.{Bool, not, ◌||◌, cond, List, [], ◌∷◌, ◌++◌, ℕ, zero, suc, ◌+◌, length, take, drop, get_or, eqb, ltb}
use Rattle.rules.specs.declared.Lock.{Lock}
use Rattle.rules.specs.declared.Lock.TheVariants.{WriteUnlocked, WriteLocked, WriteLockedUntilPowerCycle}
use Rattle.rules.specs.declared.Registers.{Registers}
use Rattle.rules.specs.Numbers.{namespaces, cache_size}
use Rattle.rules.specs.Answers.{number}
use Rattle.rules.specs.State.{State}
use Rattle.rules.specs.Locks.{lock_value}
use Rattle.rules.specs.Start.{fresh_registers, start}
use Rattle.rules.specs.Call.{call}
use Rattle.rules.specs.Sessions.{session}

-- ------------------------------------------------------------------------
-- The image

-- a byte for each boot partition's lock
abbrev pub partitions : ℕ
partitions = 2

-- the registers: the tag counts, then the locks
abbrev pub registers_size : ℕ
registers_size = namespaces + partitions

abbrev pub image_size : ℕ
image_size = registers_size + cache_size

-- a lock is kept as its value in Dword 11; 0 is none (no_lock)
abbrev pub lock_of : ℕ → Lock
lock_of zero = WriteLocked
lock_of (suc zero) = WriteUnlocked
lock_of (suc (suc zero)) = WriteLocked
lock_of (suc (suc (suc b))) = WriteLockedUntilPowerCycle

abbrev pub no_lock : ℕ → Bool
no_lock b = eqb b 0 || ltb (lock_value WriteLockedUntilPowerCycle) b

abbrev pub lock_byte0 : List ℕ → ℕ
lock_byte0 image = get_or image namespaces 0

abbrev pub lock_byte1 : List ℕ → ℕ
lock_byte1 image = get_or image (namespaces + 1) 0

abbrev pub wrong_length : List ℕ → Bool
wrong_length image = not (eqb (length image) image_size)

-- another length, or a lock byte outside the three states
unfoldable pub no_image : List ℕ → Bool
no_image image = wrong_length image || no_lock (lock_byte0 image) || no_lock (lock_byte1 image)

-- the state that an image and a store are. What is no image has no cache: a state that is unsound.
unfoldable pub registers_in : Bool → List ℕ → Registers
registers_in none image =
    cond none
    fresh_registers
    (record {
      counts = take namespaces image;
      locks = record { partition0 = lock_of (lock_byte0 image); partition1 = lock_of (lock_byte1 image) };
    })

abbrev pub keys_in : Bool → List ℕ → List ℕ
keys_in none image = cond none [] (drop registers_size image)

abbrev pub state_in : List ℕ → List ℕ → State
state_in image marks = record { registers = registers_in (no_image image) image; keys = keys_in (no_image image) image; marks = marks }

-- the image of a state, and the image that a state is saved in: what is none stays
abbrev pub registers_bytes : Registers → List ℕ
registers_bytes registers = registers.counts ++ (lock_value registers.locks.partition0 ∷ lock_value registers.locks.partition1 ∷ [])

unfoldable pub image_of : State → List ℕ
image_of s = registers_bytes s.registers ++ s.keys

abbrev pub saved : Bool → List ℕ → State → List ℕ
saved none image s = cond none image (image_of s)

-- ------------------------------------------------------------------------
-- All that a call from C leaves

pub record CStarted : Type 0 where
  pub number : ℕ
  pub image : List ℕ
  pub marks : List ℕ

-- a fresh drive, in an image of the right length, whatever it held; another has no cache, and stays
unfoldable pub c_start : List ℕ → List ℕ → List ℕ → CStarted
c_start kek image marks =
    let none = wrong_length image in
    let o = start kek (keys_in none image) marks in
    record { number = number o.answer; image = saved none image o.state; marks = o.state.marks }

pub record CCalled : Type 0 where
  pub number : ℕ
  pub image : List ℕ
  pub marks : List ℕ
  pub bytes : ℕ
  pub out : List ℕ

unfoldable pub c_call : List ℕ → List ℕ → List ℕ → List ℕ → CCalled
c_call image marks line out =
    let c = call (state_in image marks) line out in
    record { number = number c.answer; image = saved (no_image image) image c.state; marks = c.state.marks; bytes = c.bytes; out = c.out }

pub record CSession : Type 0 where
  pub number : ℕ
  pub image : List ℕ
  pub marks : List ℕ
  pub lines : ℕ
  pub bytes : ℕ
  pub out : List ℕ

unfoldable pub c_session : List ℕ → List ℕ → List ℕ → List ℕ → CSession
c_session image marks text out =
    let c = session (state_in image marks) text out in
    record {
      number = number c.result;
      image = saved (no_image image) image c.state;
      marks = c.state.marks;
      lines = c.lines;
      bytes = c.bytes;
      out = c.out;
    }
