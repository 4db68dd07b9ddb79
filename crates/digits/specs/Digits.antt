-- What reading a line and writing an answer leave, with the buffers.
-- Assumes nothing.
use Rattle.std.specs.Prelude.{ℕ, ◌/◌, Bool, cond, not, ◌&&◌, List, ◌++◌, length, drop, ◌==◌, nat_le, Result}
use Rattle.rules.specs.Answer.{Answer}
use Rattle.rules.specs.declared.BadLine.{BadLine}
use Rattle.rules.specs.Numbers.{digits_most}
use Rattle.rules.specs.Answers.{answer_line}
use Rattle.rules.specs.FrameLine.{decoded, read_line}
use Rattle.rules.specs.Call.{written}

-- 1 to 1,024 bytes: a line of any other length is refused unread
abbrev pub line_length : List ℕ → Bool
line_length line = not (length line == 0) && nat_le (length line) digits_most

pub record ReadInto : Type 0 where
  pub read : Result ℕ BadLine
  pub frame : List ℕ

-- the pairs of digits at the front of the frame, the rest of it as it was
abbrev pub framed : List ℕ → List ℕ → List ℕ
framed line frame = decoded line ++ drop (length line / 2) frame

-- they go there also where one is bad
unfoldable pub read_into : List ℕ → List ℕ → ReadInto
read_into line frame = record {
  read = read_line line;
  frame = cond (line_length line) (framed line frame) frame;
}

pub record Wrote : Type 0 where
  pub bytes : ℕ
  pub out : List ℕ

-- an answer's line goes to the front of the output; one with no room is not written
unfoldable pub wrote : Answer → List ℕ → Wrote
wrote a out =
    cond (nat_le (length (answer_line a)) (length out))
    (record { bytes = length (answer_line a); out = written (answer_line a) out })
    (record { bytes = 0; out = out })
