-- The steps of key wrap over words: what the code does with whatever takes a block
-- to a block. With the cipher they are RFC 3394's (proofs/StepsLaws.antt).
-- Assumes nothing.
use Rattle.std.specs.Prelude.{List, ℕ, zero, suc, ◌+◌, ◌*◌, ◌≡◌}
use Rattle.cells.specs.Cells.{write}
use Rattle.rules.specs.Fields.{four_bytes}
use Rattle.rules.specs.AesBytes.{◌⊕◌}
use Rattle.rules.specs.KeyWrap.{block_of_step}
use Rattle.aes.specs.Words.{word_at}
use Rattle.aes.specs.declared.Block.{Block}

-- A | R[i], where R[i] begins at `at`
abbrev pub block_at : ℕ → List ℕ → Block
block_at at s = record { a = word_at s 0; b = word_at s 4; c = word_at s at; d = word_at s (at + 4) }

-- R[i], then A
unfoldable pub put_block : ℕ → Block → List ℕ → List ℕ
put_block at x s =
    write 4 4 (four_bytes x.b) (write 0 4 (four_bytes x.a) (write (at + 4) 4 (four_bytes x.d) (write at 4 (four_bytes x.c) s)))

-- A ^ t
abbrev pub counted : ℕ → Block → Block
counted t x = record { a = x.a; b = x.b ⊕ t; c = x.c; d = x.d }

-- where R[i] of step t begins
abbrev pub start_of : ℕ → ℕ
start_of t = block_of_step t * 8

abbrev pub wrap_step_by : (Block → Block) → ℕ → List ℕ → List ℕ
wrap_step_by f t s = put_block (start_of t) (counted t (f (block_at (start_of t) s))) s

abbrev pub unwrap_step_by : (Block → Block) → ℕ → List ℕ → List ℕ
unwrap_step_by f t s = put_block (start_of t) (f (counted t (block_at (start_of t) s))) s

-- what is told of each call is that f is computed
abbrev pub Computes : (Block → Block → Type 0) → (Block → Block) → Type 0
Computes post f = (x y : Block) → post x y → y ≡ f x

-- steps 1 to t; and t to 1
unfoldable pub wrap_steps_by : (Block → Block) → ℕ → List ℕ → List ℕ
wrap_steps_by f zero s = s
wrap_steps_by f (suc t) s = wrap_step_by f (suc t) (wrap_steps_by f t s)

unfoldable pub unwrap_steps_by : (Block → Block) → ℕ → List ℕ → List ℕ
unwrap_steps_by f zero s = s
unwrap_steps_by f (suc t) s = unwrap_steps_by f t (unwrap_step_by f (suc t) s)
