-- The items that a run of bytes is, and what the functions that look for one of
-- them leave.
-- Assumes nothing.
use Rattle.std.specs.Prelude.{◌≡◌, Bool, true, false, List, ◌∷◌, ℕ, ◌<◌, length, Option, MatchOption}
use Rattle.std.proofs.Math.Option as math
use Rattle.std.specs.Borrow.{Bor}
use Rattle.rules.specs.Fields.{big_endian}
use Rattle.rules.specs.Ttlv as ttlv
use Rattle.rules.specs.Ttlv.{Items, end, value, structure, read_items}
use Rattle.rules.specs.Kmip.{Want, ◌is_a◌with◌, ◌holds◌, from, behind_of, members_of, value_then, structure_then, in_order, Operation, RequestPayload}
use Rattle.kmip.specs.declared.run.Run.{Run}
use Rattle.kmip.specs.declared.members.Body.{Body}
use Rattle.kmip.specs.declared.members.Body.TheVariants.{Value, Structure}
use Rattle.kmip.specs.declared.members.Item.{Item}
use Rattle.kmip.specs.declared.rows.NumberType.{NumberType}
use Rattle.kmip.specs.declared.rows.NumberType.TheVariants.{Integer, Enumeration}

abbrev pub or_end : math.Option Items → Items
or_end math.none = end
or_end (math.some items) = items

-- the items that some bytes are
unfoldable pub items_in : List ℕ → Items
items_in xs = or_end (read_items xs)

abbrev pub items_of : Run → Items
items_of run = items_in run.bytes.now

-- an item in front of others
abbrev pub with_body : ℕ → Body → Items → Items
with_body tag (Value kind bytes) behind = value tag kind bytes.now behind
with_body tag (Structure run) behind = structure tag (items_of run) behind

-- this item stands at the front of a run, and this run behind it
pub record First (run : Run) (item : Item) (behind : Run) : Type 0 where
  pub is : items_of run ≡ with_body item.tag item.body (items_of behind)
  pub shorter : length behind.bytes.now < length run.bytes.now

-- the first of these items with a tag was looked for; as a value of a type; as a number; as a structure
abbrev pub Found : ℕ → Items → Option (Body × Run) → Type 0
Found tag items r = MatchOption r (from tag items ≡ end) (λ p. from tag items ≡ with_body tag p.0 (items_of p.1))

abbrev pub FoundValue : ℕ → ℕ → Items → Option (Bor (List ℕ) × Run) → Type 0
FoundValue tag kind items r =
    MatchOption r ((good : List ℕ → Bool) (more : Items → Bool) → value_then kind good more (from tag items) ≡ false)
    (λ p. from tag items ≡ value tag kind p.0.now (items_of p.1))

abbrev pub type_of : NumberType → ℕ
type_of Integer = ttlv.Integer
type_of Enumeration = ttlv.Enumeration

abbrev pub FoundNumber : ℕ → ℕ → Items → Option (ℕ × Run) → Type 0
FoundNumber tag kind items r =
    MatchOption r ((good : List ℕ → Bool) (more : Items → Bool) → value_then kind good more (from tag items) ≡ false)
    (λ p. (bytes : List ℕ) × (from tag items ≡ value tag kind bytes (items_of p.1)) × (p.0 ≡ big_endian bytes))

abbrev pub FoundStructure : ℕ → Items → Option (Run × Run) → Type 0
FoundStructure tag items r =
    MatchOption r ((good more : Items → Bool) → structure_then good more (from tag items) ≡ false)
    (λ p. from tag items ≡ structure tag (items_of p.0) (items_of p.1))

abbrev pub tag_of : Want → ℕ
tag_of (tag is_a type with good) = tag
tag_of (tag holds good) = tag

-- a row of a table was looked for: the table fails, or the run behind the row's item decides
abbrev pub Row : Want → Items → Option Run → Type 0
Row want items r =
    MatchOption r ((wants : List Want) → in_order (want ∷ wants) items ≡ false)
    (λ behind. ((wants : List Want) → in_order (want ∷ wants) items ≡ in_order wants (items_of behind))
    × (behind_of (from (tag_of want) items) ≡ items_of behind))

-- something was looked for that is there where all is good; this is shown of it then
abbrev pub GivesIf : {A B : Type 0} → Bool → (A → B) → B → Option A → Type 0
GivesIf good shown x r = MatchOption r (good ≡ false) (λ a. (good ≡ true) × (shown a ≡ x))

-- the payload of a batch item
abbrev pub payload_of : Items → Items
payload_of batch = members_of (from RequestPayload (behind_of (from Operation batch)))
