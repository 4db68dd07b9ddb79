-- What the drive's own functions leave, in terms of the rules.
-- Assumes nothing.
use Rattle.std.specs.Prelude.{◌≡◌, ℕ, ◌+◌, Bool, true, false, cond, not, ◌||◌, List, [], ◌∷◌, ◌==◌, nat_le}
use Rattle.std.specs.Prelude.{Option, Some, None, Result, Ok, Err, ⊤}
use Rattle.cells.specs.Cells.{part, cell, put, zeros}
use Rattle.cells.specs.Predicates.{same}
use Rattle.rules.specs.declared.Namespace.{Namespace}
use Rattle.rules.specs.declared.Tag.{Tag}
use Rattle.rules.specs.declared.Command.{Command}
use Rattle.rules.specs.declared.Registers.{Registers}
use Rattle.rules.specs.declared.Refusal.{Refusal}
use Rattle.rules.specs.Answer.{Answer}
use Rattle.rules.specs.declared.Granted.TheVariants.{Done}
use Rattle.rules.specs.Numbers.{slot_width, uid_most, key_size, store_size}
use Rattle.rules.specs.View.{view_of, managed, other_key}
use Rattle.rules.specs.Checks.{◌when◌, judged, only_if}
use Rattle.rules.specs.Answers.{00·01, 00·0B, 00·25, 00·80, 07·06, 07·09, 07·0A, 07·0B, 07·0C}
use Rattle.rules.specs.State.{State, Sized, Outcome, refuse, obey, no_namespace, count}
use Rattle.rules.specs.Slots.{Contents, place_of, slot_bytes, emptied, empty, loaded, uid_of}
use Rattle.rules.specs.Sound.{unsound}
use Rattle.rules.specs.Effects.{with_keys}
use Rattle.rules.specs.Order.{frame_rule, slot_checks, out_of_range, key_checks, is_write, is_reading}
use Rattle.rules.specs.Start.{start_checks}
use Rattle.rules.specs.Call.{admission}
use Rattle.frames.specs.Reading.{Meant, frame, refusal}
use Rattle.drive.specs.declared.Answered.{Answered}
use Rattle.drive.specs.declared.Access.{Access}
use Rattle.drive.specs.declared.Access.TheVariants.{Write, Read}

abbrev pub state : Registers → List ℕ → List ℕ → State
state registers keys marks = record { registers = registers; keys = keys; marks = marks }

-- an answer, and what is after it
abbrev pub after : Answer → Registers → List ℕ → List ℕ → Outcome
after answer registers keys marks = record { answer = answer; state = state registers keys marks }

-- an answer with the registers, and the two stores
abbrev pub outcome : Answered → List ℕ → List ℕ → Outcome
outcome r keys marks = after r.answer r.registers keys marks

-- what a step may take for granted
pub record Ready (registers : Registers) (keys marks : List ℕ) : Type 0 where
  pub sized : Sized (state registers keys marks)
  pub sound : unsound (state registers keys marks) ≡ false

-- the same of the keys alone
abbrev pub Sound : Registers → List ℕ → Type 0
Sound registers keys = unsound (state registers keys []) ≡ false

-- ------------------------------------------------------------------------
-- A frame that was read, or the refusal of its line

abbrev pub acted : State → Meant → Outcome
acted s (frame f) = obey s (frame_rule (view_of s) f)
acted s (refusal r) = refuse s r

-- the longest frame without a message
abbrev pub replace_most : ℕ
replace_most = 6 + uid_most + uid_most + key_size

-- a wrapped key that was opened where it lay: the KeyUID's l bytes lie from byte 5 on, the integrity value and the key behind them
abbrev pub opened_at : ℕ → List ℕ → Contents
opened_at l f = record { uid = part 5 l f; key = part (5 + l + 8) key_size f }

-- ------------------------------------------------------------------------
-- A start: 07 0D, 07 0E, then the store is zeroed

pub record Zeroed : Type 0 where
  pub answer : Answer
  pub marks : List ℕ

unfoldable pub zeroed : List ℕ → List ℕ → Zeroed
zeroed keys marks =
    judged (start_checks keys marks)
    (λ r. record { answer = Err r; marks = marks })
    (record { answer = Ok Done; marks = zeros store_size })

-- ------------------------------------------------------------------------
-- The checks that release and clear all begin with, and load, replace and clear one

-- the tag count of a namespace that is managed, or 00 0B, 07 06
unfoldable pub counted : State → Namespace → Result ℕ Refusal
counted s ns =
    judged
    (00·0B when no_namespace ns
    ∷ 07·06 when not (managed (view_of s) ns)
    ∷ [])
    Err
    (Ok (count s ns))

-- the place of a tag in a namespace with this count, or 00 25
unfoldable pub placed : ℕ → Namespace → Tag → Result ℕ Refusal
placed n ns tag = judged (00·25 when nat_le n tag.0 ∷ []) Err (Ok (place_of ns tag))

-- the place that the checks lead to, or their refusal
unfoldable pub located : State → Namespace → Tag → Result ℕ Refusal
located s ns tag = judged (slot_checks (view_of s) ns tag) Err (Ok (place_of ns tag))

-- load, replace and clear one at the place that was found; the last check of the first two, and what both then do
unfoldable pub put_at : State → ℕ → Contents → Outcome
put_at s place x =
    judged
    (07·0C when other_key (view_of s).slots x
    ∷ [])
    (refuse s)
    (record { answer = Ok Done; state = with_keys s (put slot_width place (slot_bytes x) s.keys) })

unfoldable pub load_at : State → ℕ → Contents → Outcome
load_at s place x =
    judged
    (07·09 when loaded (cell slot_width place s.keys)
    ∷ [])
    (refuse s)
    (put_at s place x)

unfoldable pub replace_at : State → ℕ → List ℕ → Contents → Outcome
replace_at s place old x =
    judged
    (07·0A when empty (cell slot_width place s.keys)
    ∷ 07·0B when not (same (uid_of (cell slot_width place s.keys)) old)
    ∷ [])
    (refuse s)
    (put_at s place x)

unfoldable pub clear_at : State → ℕ → Outcome
clear_at s place =
    judged
    (07·0A when empty (cell slot_width place s.keys)
    ∷ [])
    (refuse s)
    (record { answer = Ok Done; state = with_keys s (put slot_width place emptied s.keys) })

-- ------------------------------------------------------------------------
-- I/O

unfoldable pub access_of : ℕ → Result Access Refusal
access_of opcode = cond (opcode == 0x01) (Ok Write) (cond (opcode == 0x02 || opcode == 0x05 || opcode == 0x0C) (Ok Read) (Err 00·01))

-- a known opcode: a write's, or that of a read, compare or verify
abbrev pub Known : Command → Access → Type 0
Known c Write = is_write c ≡ true
Known c Read = is_reading c ≡ true

-- where the key checks of a managed namespace lead: a refusal, or a slot
unfoldable pub keyed : State → Command → Result ℕ Refusal
keyed s c = judged (key_checks (view_of s) c) Err (Ok (place_of c.ns c.tag))

-- where a known command leads before the marks are looked at: a refusal, a slot, or, in an unmanaged namespace, none
unfoldable pub reached : State → Command → Result (Option ℕ) Refusal
reached s c =
    judged
    (00·0B when no_namespace c.ns
    ∷ 00·80 when out_of_range c
    ∷ only_if (managed (view_of s) c.ns) (key_checks (view_of s) c))
    Err
    (Ok (cond (managed (view_of s) c.ns) (Some (place_of c.ns c.tag)) None))

-- ------------------------------------------------------------------------
-- The three checks of a call: 07 0F, 07 0D, 07 0E

unfoldable pub admitted : Bool → State → Result ⊤ Refusal
admitted short s = judged (admission short s) Err (Ok tt)
