-- What the reader's own functions leave, in terms of the rules.
-- Assumes nothing.
use Rattle.std.specs.Prelude.{◌≡◌, ◌&&◌, cond, List, [], ◌∷◌, ℕ, ◌+◌, ◌-◌, ◌^◌, ◌≤◌, ◌<◌}
use Rattle.std.specs.Prelude.{length, leb}
use Rattle.std.specs.Prelude.{Option, Some, None}
use Rattle.cells.specs.Cells.{part}
use Rattle.rules.specs.Fields.{byte, big_endian}
use Rattle.rules.specs.Ttlv.{item_head, deepest, to_eight, no_item, a_value, a_structure, front}
use Rattle.rules.specs.Ttlv as ttlv
use Rattle.ttlv.specs.declared.reading.Head.{Head}
use Rattle.ttlv.specs.declared.Front.{Front}
use Rattle.ttlv.specs.declared.Front.TheVariants.{Value, Structure}

-- eight bytes as a head
pub record Headed (bytes : List ℕ) (r : Head) : Type 0 where
  pub tag_is : r.tag ≡ big_endian (byte 0 bytes ∷ byte 1 bytes ∷ byte 2 bytes ∷ [])
  pub kind_is : r.kind ≡ byte 3 bytes
  pub length_is : r.length ≡ big_endian (byte 4 bytes ∷ byte 5 bytes ∷ byte 6 bytes ∷ byte 7 bytes ∷ [])
  pub length_fits : r.length < 2 ^ 32

-- a front that begins at `at`, by places: a value's length and where the next item would start, a structure's length
unfoldable pub placed : ℕ → ttlv.Front → Option Front
placed at no_item = None
placed at (a_value tag type v rest) = Some (Value tag type (length v) (at + item_head + to_eight (length v)))
placed at (a_structure tag members rest) = Some (Structure tag (length members))

-- what stands at `at`, among the bytes up to `end`
unfoldable pub front_at : List ℕ → ℕ → ℕ → Option Front
front_at xs at end = placed at (front (part at (end - at) xs))

-- the same of any two numbers
unfoldable pub item_at : List ℕ → ℕ → ℕ → Option Front
item_at xs at end = cond (leb at end && leb end (length xs)) (front_at xs at end) None

-- a front by places, as the bytes that stand there
abbrev pub shown : List ℕ → ℕ → ℕ → Option Front → ttlv.Front
shown xs at end None = no_item
shown xs at end (Some (Value tag kind n next)) = a_value tag kind (part (at + item_head) n xs) (part next (end - next) xs)
shown xs at end (Some (Structure tag n)) = a_structure tag (part (at + item_head) n xs) (part (at + item_head + n) (end - (at + item_head + n)) xs)

-- its places lie in the run
abbrev pub Inside : ℕ → ℕ → Option Front → Type 0
Inside at end None = Unit {0}
Inside at end (Some (Value tag kind n next)) = (next ≡ at + item_head + to_eight n) × (next ≤ end)
Inside at end (Some (Structure tag n)) = at + item_head + n ≤ end

pub record Fronted (xs : List ℕ) (at end : ℕ) (r : Option Front) : Type 0 where
  pub is : front (part at (end - at) xs) ≡ shown xs at end r
  pub inside : Inside at end r
