-- What the checks look at, and no more. A drive shows it in its bytes (`view_of`), and so does a history (`view_told` of specs/History.antt).
-- Assumes nothing.
use Rattle.std.specs.Prelude.{◌≡◌, Bool, true, false, not, ◌&&◌, ◌||◌, List, ℕ, zero, suc, ◌+◌, ◌<◌, eqb, leb}
use Rattle.cells.specs.Predicates.{same}
use Rattle.rules.specs.declared.Namespace.{Namespace}
use Rattle.rules.specs.declared.Tag.{Tag}
use Rattle.rules.specs.declared.BootLocks.{BootLocks}
use Rattle.rules.specs.Numbers.{namespaces, blocks_each, slot_places}
use Rattle.rules.specs.State.{State, namespace, IsNamespace, count, key_encryption_key}
use Rattle.rules.specs.Slots.{Contents, Held, nothing, holding, held, slot, namespace_at, tag_at, IsSlot}
use Rattle.rules.specs.Marks.{mark}

pub record View : Type 0 where
  -- a namespace's tag count; 0: not managed
  pub tags : Namespace → ℕ
  pub slots : Namespace → Tag → Held
  -- the kept identity of the key that a block was last written under
  pub marks : Namespace → ℕ → List ℕ
  pub locks : BootLocks
  pub kek : List ℕ

-- as a drive shows it
abbrev pub view_of : State → View
view_of s = record {
  tags = λ ns. count s ns;
  slots = λ ns tag. held (slot s ns tag);
  marks = λ ns block. mark s ns block;
  locks = s.registers.locks;
  kek = key_encryption_key s;
}

-- ------------------------------------------------------------------------
-- Tags

-- a namespace is managed when its count is not 0
abbrev pub managed : View → Namespace → Bool
managed v ns = not (eqb (v.tags ns) 0)

-- the Maximum Key Tag is the count minus one
abbrev pub tag_above : View → Namespace → Tag → Bool
tag_above v ns tag = leb (v.tags ns) tag.0

-- of namespaces 1 to n together
unfoldable pub together : ℕ → (Namespace → ℕ) → ℕ
together zero tags = 0
together (suc n) tags = together n tags + tags (namespace (suc n))

abbrev pub all_tags : View → ℕ
all_tags v = together namespaces v.tags

-- ------------------------------------------------------------------------
-- Slots

abbrev pub is_empty : Held → Bool
is_empty nothing = true
is_empty (holding x) = false

-- this KeyUID and another key
abbrev pub has_other : Contents → Held → Bool
has_other x nothing = false
has_other x (holding y) = same y.uid x.uid && not (same y.key x.key)

-- one of the numbers below n is so
unfoldable pub some_below : ℕ → (ℕ → Bool) → Bool
some_below zero f = false
some_below (suc n) f = some_below n f || f n

-- 07 0C: a slot of any namespace has this KeyUID and another key
unfoldable pub other_key : (Namespace → Tag → Held) → Contents → Bool
other_key slots x = some_below slot_places (λ place. has_other x (slots (namespace_at place) (tag_at place)))

-- ------------------------------------------------------------------------
-- Two views show the same: of each namespace, of each slot that one may hold, of each block

pub record SameView (v w : View) : Type 0 where
  pub tags : (ns : Namespace) → IsNamespace ns → v.tags ns ≡ w.tags ns
  pub slots : (ns : Namespace) (tag : Tag) → IsSlot ns tag → v.slots ns tag ≡ w.slots ns tag
  pub marks : (ns : Namespace) → IsNamespace ns → (block : ℕ) → block < blocks_each → v.marks ns block ≡ w.marks ns block
  pub locks : v.locks ≡ w.locks
  pub kek : v.kek ≡ w.kek
