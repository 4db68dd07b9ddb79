-- What the lister's own functions are lent, and leave.
-- Assumes nothing.
use Rattle.std.specs.Prelude.{◌≡◌, true, List, ℕ, ◌*◌, ◌≤◌, length, Result}
use Rattle.rules.specs.Ttlv.{read_items}
use Rattle.ttlv.specs.declared.ReadError.{ReadError}
use Rattle.ttlv.specs.ItemList.{is_some, list_at}
use Rattle.ttlv.specs.Listing.{item_places, items_most, message_most, laid}

-- a message that is items, and places for any message
pub record Listable (xs places : List ℕ) : Type 0 where
  pub sound : is_some (read_items xs) ≡ true
  pub short : length xs ≤ message_most
  pub enough : item_places * items_most ≤ length places

-- so many items of the bytes stand at the front of the places
abbrev pub Laid : List ℕ → List ℕ → Result ℕ ReadError → List ℕ → Type 0
Laid xs places r now = record { result = r; places = now } ≡ laid places (list_at 1 0 xs)
