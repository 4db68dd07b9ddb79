-- What a line of each kind stands for. All bytes of a line are different, and those
-- of a command that the drive ignores are set: each field is at its place, in its
-- order, and as wide as the paper says.
-- Assumes nothing.
use Rattle.std.specs.Prelude.{◌≡◌, List, [], ◌∷◌, ℕ, zero, suc, replicate, Err}
use Prim.Native.String.{String}
use Rattle.rules.specs.Checks.{passed, refused, first_refusal}
use Rattle.rules.specs.Answers.{07·02, 07·0D}
use Rattle.rules.specs.State.{namespace, key_tag}
use Rattle.rules.specs.Slots.{place_of}
use Rattle.rules.specs.Marks.{block_of}
use Rattle.rules.specs.Frames.{Frame}
use Rattle.rules.specs.Frames as frames
use Rattle.rules.specs.Order.{frame_of, reading_checks}
use Rattle.rules.specs.Start.{program_kek, start}
use Rattle.rules.specs.Examples.{codes, ◌⁀◌, message}

-- n numbers, from the first on
unfoldable pub from : ℕ → ℕ → List ℕ
from first zero = []
from first (suc n) = first ∷ from (suc first) n

-- the line passes every check of reading, and is this frame
abbrev pub ◌stands_for◌ : String → Frame → Type 0
line stands_for frame = (first_refusal (reading_checks (codes line)) ≡ passed) × (frame_of (codes line) ≡ frame)

infix 60 ◌stands_for◌
abbrev pub IsUnknown : String → Type 0
IsUnknown line = first_refusal (reading_checks (codes line)) ≡ refused 07·02

-- bytes E0 to FF, a key; and C0 to E7, a wrapped one
abbrev pub key : String
key = "E0E1E2E3E4E5E6E7E8E9EAEBECEDEEEFF0F1F2F3F4F5F6F7F8F9FAFBFCFDFEFF"

abbrev pub wrapped_key : String
wrapped_key = "C0C1C2C3C4C5C6C7C8C9CACBCCCDCECFD0D1D2D3D4D5D6D7D8D9DADBDCDDDEDFE0E1E2E3E4E5E6E7"

-- a command: opcode; 3 bytes; namespace, 4; 32 bytes; first block, 8; count, 2; a byte whose low half is CETYPE; a byte; tag, 2; 10 bytes
abbrev pub command : String
command =
    "71" ⁀ "F1F2F3" ⁀ "11121314"
    ⁀ "A0A1A2A3A4A5A6A7A8A9AAABACADAEAFB0B1B2B3B4B5B6B7B8B9BABBBCBDBEBF"
    ⁀ "2122232425262728" ⁀ "3132" ⁀ "67" ⁀ "F4" ⁀ "4142" ⁀ "C1C2C3C4C5C6C7C8C9CA"

pub record ReadingsRight : Type 0 where
  pub kind_01 : "01A2B3" stands_for frames.manage (namespace 0xA2) 0xB3
  pub kind_02 : "02A2" stands_for frames.release (namespace 0xA2)
  pub kind_03 : "03A2B3C403D1D2D3" ⁀ key stands_for
      frames.load (namespace 0xA2) (key_tag 0xC4B3) (record { uid = 0xD1 ∷ 0xD2 ∷ 0xD3 ∷ []; key = from 0xE0 32 })
  pub kind_04 : "04A2B3C402D1D203D5D6D7" ⁀ key stands_for
      frames.replace (namespace 0xA2) (key_tag 0xC4B3) (0xD1 ∷ 0xD2 ∷ []) (record { uid = 0xD5 ∷ 0xD6 ∷ 0xD7 ∷ []; key = from 0xE0 32 })
  pub kind_05 : "05A2B3C4" stands_for frames.clear_one (namespace 0xA2) (key_tag 0xC4B3)
  pub kind_06 : "06A2" stands_for frames.clear_all (namespace 0xA2)
  pub kind_07 : "07" ⁀ command stands_for frames.io (record {
    opcode = 0x71;
    ns = namespace 0x14131211;
    first = 0x2827262524232221;
    more = 0x3231;
    cetype = 0x7;
    tag = key_tag 0x4241;
  })
  pub kind_08 : "08A2B3C4D5" stands_for frames.set_features 0xD5C4B3A2
  pub kind_09 : "09" stands_for frames.get_features
  pub kind_0A : "0AA2" stands_for frames.boot_write 0xA2
  pub kind_0B : "0BA2" stands_for frames.reset 0xA2
  pub kind_0C : "0C" stands_for frames.discovery
  pub kind_0D : "0D010000" ⁀ message stands_for frames.load (namespace 1) (key_tag 0) (record { uid = 0xAA ∷ []; key = replicate 32 0x11 })
  pub kind_0E : "0EA2B3C403D1D2D3" ⁀ wrapped_key stands_for
      frames.load_wrapped (namespace 0xA2) (key_tag 0xC4B3) (record { uid = 0xD1 ∷ 0xD2 ∷ 0xD3 ∷ []; key = from 0xC0 40 })
  -- no other kind is known
  pub kind_00 : IsUnknown "00"
  pub kind_0F : IsUnknown "0F"
  pub kind_FF : IsUnknown "FF"
  -- the four corners of the slots, and of the blocks
  pub first_slot : place_of (namespace 1) (key_tag 0) ≡ 0
  pub last_of_the_first : place_of (namespace 1) (key_tag 127) ≡ 127
  pub first_of_the_last : place_of (namespace 4) (key_tag 0) ≡ 384
  pub last_slot : place_of (namespace 4) (key_tag 127) ≡ 511
  pub first_block : block_of (namespace 1) 0 ≡ 0
  pub last_block_of_the_first : block_of (namespace 1) 255 ≡ 255
  pub first_block_of_the_last : block_of (namespace 4) 0 ≡ 768
  pub last_block : block_of (namespace 4) 255 ≡ 1023
  -- the program's key-encryption key; and a start with nothing right
  pub program_key : program_kek ≡ from 0x00 32
  pub all_wrong : (start program_kek [] []).answer ≡ Err 07·0D
