-- Rows beside the paper's (house): the first values past the last, and the order
-- of checks, each computed from a fresh drive as the bench table is.
-- Assumes nothing.
use Rattle.std.specs.Prelude.{◌≡◌, true, List, [], ◌∷◌, ℕ, Err}
use Prim.Native.String.{String}
use Rattle.cells.specs.Cells.{zeros}
use Rattle.rules.specs.Answers.{07·0F}
use Rattle.rules.specs.Start.{fresh, program_kek}
use Rattle.rules.specs.Sessions.{session}
use Rattle.rules.specs.Examples.{codes, Entry, ◌answers◌, ◌⁀◌, K, L, command_with, all_right}

-- I/O to namespace 1, block 0 alone, tag 0
abbrev pub plain : String → String → String
plain opcode cetype = command_with opcode "01000000" "0000000000000000" "0000" cetype "0000"

unfoldable pub edges : List (List Entry)
edges =
    -- G1: Get shows 3 and 3, and 2 and 1: each state in its own field
    ("081B000000" answers "0000" ∷ "09" answers "00001B000000"
    ∷ "0B01" answers "0000" ∷ "0808000000" answers "0000" ∷ "09" answers "00000A000000" ∷ [])
    -- N1: namespaces 1 and 4 with tags 0 to 127, and no others: four slots at the corners, none the place of another
    ∷ ("010001" answers "000B" ∷ "010501" answers "000B" ∷ "010180" answers "0000" ∷ "010480" answers "0000"
    ∷ "0301000001A1" ⁀ K answers "0000" ∷ "03017F0001A2" ⁀ K answers "0000" ∷ "0301800001A2" ⁀ K answers "0025"
    ∷ "0304000001A3" ⁀ K answers "0000" ∷ "03047F0001A4" ⁀ K answers "0000" ∷ "0304800001A4" ⁀ K answers "0025"
    ∷ "05010000" answers "0000" ∷ "05017F00" answers "0000"
    ∷ "05040000" answers "0000" ∷ "05047F00" answers "0000" ∷ "05047F00" answers "070A" ∷ [])
    -- E1: the first value past the last: a partition, a reset level, a lock's field, the bits above both
    ∷ ("0A02" answers "0002" ∷ "0A01" answers "011E" ∷ "0B02" answers "0002" ∷ "0B00" answers "0000"
    ∷ "0804000000" answers "0002" ∷ "0820000000" answers "0002" ∷ "0840000000" answers "0002" ∷ "0800000080" answers "0002" ∷ [])
    -- E2: opcodes 01, 02, 05 and 0C, and none beside them; CETYPE 1 where there are keys, and none beside it
    ∷ (plain "00" "01" answers "0001" ∷ plain "03" "01" answers "0001" ∷ plain "04" "01" answers "0001" ∷ plain "06" "01" answers "0001"
    ∷ plain "0B" "01" answers "0001" ∷ plain "0D" "01" answers "0001"
    ∷ plain "01" "00" answers "0000" ∷ plain "02" "00" answers "0000" ∷ plain "05" "00" answers "0000" ∷ plain "0C" "00" answers "0000"
    ∷ "010101" answers "0000" ∷ "0301000001AA" ⁀ K answers "0000"
    ∷ plain "01" "00" answers "0002" ∷ plain "02" "02" answers "0002" ∷ plain "05" "03" answers "0002" ∷ plain "0C" "0F" answers "0002"
    ∷ plain "01" "01" answers "0000" ∷ plain "02" "F1" answers "0000" ∷ plain "05" "11" answers "0000" ∷ plain "0C" "21" answers "0000" ∷ [])
    -- E3: the bytes beside 0 to 9 and A to F are no digits, nor is a small letter
    ∷ ("0/" answers "0701030100" ∷ "0:" answers "0701030100" ∷ "0@" answers "0701030100" ∷ "0G" answers "0701030100" ∷ "0c" answers "0701030100"
    ∷ "0A0F" answers "0002" ∷ [])
    ∷ []

-- of each kind a line that several checks refuse, then one that the first of them lets pass, and so on
unfoldable pub orders : List (List Entry)
orders =
    -- O1: the line: 07 01, 07 02, 07 03, 07 04, 07 03 again, and then the frame's own
    ("FF0" answers "0701040000" ∷ "FF" answers "0702" ∷ "03050000" answers "0703" ∷ "0305000000" answers "0704" ∷ "0305000001AA" answers "0703"
    ∷ "0405000002AABB" answers "0703" ∷ "0405000002AABB11" answers "0704" ∷ "0405000002AABB01CC" answers "0703" ∷ "0105" answers "0703" ∷ [])
    -- O2: manage, release, clear all
    ∷ ("010581" answers "000B" ∷ "0205" answers "000B" ∷ "0605" answers "000B" ∷ "0201" answers "0706" ∷ "0601" answers "0706"
    ∷ "010180" answers "0000" ∷ "010100" answers "0705" ∷ "010280" answers "0000" ∷ "010300" answers "0707" ∷ "010381" answers "0707"
    ∷ "010301" answers "0708" ∷ [])
    -- O3: load and clear one
    ∷ ("0305FF0001AA" ⁀ K answers "000B" ∷ "0301FF0001AA" ⁀ K answers "0706" ∷ "0505FF00" answers "000B" ∷ "0501FF00" answers "0706"
    ∷ "010102" answers "0000" ∷ "0301FF0001AA" ⁀ K answers "0025" ∷ "0501FF00" answers "0025" ∷ "05010000" answers "070A"
    ∷ "0301000001AA" ⁀ K answers "0000" ∷ "0301000001AA" ⁀ L answers "0709" ∷ "0301010001AA" ⁀ L answers "070C" ∷ [])
    -- O4: replace
    ∷ ("0405FF0001BB01AA" ⁀ L answers "000B" ∷ "0401FF0001BB01AA" ⁀ L answers "0706" ∷ "010102" answers "0000"
    ∷ "0301000001AA" ⁀ K answers "0000" ∷ "0401FF0001BB01AA" ⁀ L answers "0025" ∷ "0401010001BB01AA" ⁀ L answers "070A"
    ∷ "0401000001BB01AA" ⁀ L answers "070B" ∷ "0401000001AA01AA" ⁀ L answers "070C" ∷ "0401000001AA01BB" ⁀ L answers "0000" ∷ [])
    -- O5: I/O; a write does not look at the marks, and leaves its own
    ∷ (command_with "03" "05000000" "0001000000000000" "0000" "00" "FF00" answers "0001"
    ∷ command_with "02" "05000000" "0001000000000000" "0000" "00" "FF00" answers "000B"
    ∷ "010102" answers "0000" ∷ "0301000001AA" ⁀ K answers "0000" ∷ plain "01" "01" answers "0000"
    ∷ command_with "02" "01000000" "0001000000000000" "0000" "00" "FF00" answers "0080"
    ∷ command_with "02" "01000000" "0000000000000000" "0000" "00" "FF00" answers "0002"
    ∷ command_with "02" "01000000" "0000000000000000" "0000" "01" "FF00" answers "0025"
    ∷ command_with "02" "01000000" "0000000000000000" "0000" "01" "0100" answers "0025"
    ∷ "0301010001BB" ⁀ L answers "0000"
    ∷ command_with "02" "01000000" "0000000000000000" "0000" "01" "0100" answers "0028"
    ∷ command_with "01" "01000000" "0000000000000000" "0000" "01" "0100" answers "0000"
    ∷ command_with "02" "01000000" "0000000000000000" "0000" "01" "0100" answers "0000"
    ∷ plain "02" "01" answers "0028" ∷ [])
    -- O6: Set Features and boot write
    ∷ ("081B000000" answers "0000" ∷ "0844000000" answers "0002" ∷ "0809000000" answers "010E" ∷ "0A02" answers "0002" ∷ "0A00" answers "011E" ∷ [])
    ∷ []

-- the session that the paper gives whole: its six lines ask for 13 bytes each
abbrev pub session_text : List ℕ
session_text = codes ("010102\n0301000001AA" ⁀ K ⁀ "\n05010100\n09\n0B01\n05010000\n")

pub record EdgesRight : Type 0 where
  pub edges_right : all_right edges ≡ true
  pub orders_right : all_right orders ≡ true
  -- with a byte less it is refused
  pub short_session : (session (fresh program_kek) session_text (zeros 77)).result ≡ Err 07·0F
