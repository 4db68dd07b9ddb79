-- One call on what is lent of an image: its registers, and its cache where it lies.
-- What is no image has no cache, and stays; else what is handed back is saved.
-- Assumes nothing.
use Rattle.std.specs.Prelude.{◌≡◌, List, [], ℕ}
use Rattle.std.specs.Borrow.{MutBor}
use Rattle.rules.specs.declared.Registers.{Registers}
use Rattle.tuffaleen_c.specs.Image.{no_image, registers_in, keys_in, saved}

-- of a closure f, which the call leaves as f'
module _ {F R : Type 0} (step : F → Registers → MutBor (List ℕ) → Registers × R → MutBor (List ℕ) → F → Type 0) where
  pub record Lent (f : F) (image : List ℕ) (reply : R) (left : List ℕ) (f' : F) : Type 0 where
    pub registers : Registers
    pub shown : MutBor (List ℕ)
    pub keys : MutBor (List ℕ)
    pub shows : shown.now ≡ keys_in (no_image image) image
    pub met : step f (registers_in (no_image image) image) shown (registers, reply) keys f'
    pub saves : left ≡ saved (no_image image) image (record { registers = registers; keys = keys.now; marks = [] })
