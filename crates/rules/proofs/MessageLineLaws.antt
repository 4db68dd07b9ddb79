-- The line that brings the message of a load is read as that load.
-- Assumes nothing.
use mathlib.Core.Path.{◌≡◌, refl, sym, ap, ◌∙◌}
use mathlib.Core.Bool.{Bool, true, false, ◌&&◌, ◌||◌, true≢false}
use mathlib.Core.List.{List, [], ◌∷◌, ◌++◌}
use Prim.Native.Nat.{ℕ, zero, suc, ◌+◌, ◌-◌, ◌*◌, ◌/◌, ◌%◌, ◌^◌, ◌≤◌, ◌<◌}
use native.Mathlib.Omega.{arith}
use lib.ListN.{length}
use lib.Dec.{eqb}
use borrow.Author.Tests.{eqb-true, ne_eqb, le-ltb}
use Rattle.cells.specs.Cells.{part, zeros}
use Rattle.rules.specs.declared.Namespace.{Namespace}
use Rattle.rules.specs.declared.Tag.{Tag}
use Rattle.rules.specs.Numbers.{uid_most}
use Rattle.rules.specs.Checks.{AllPass, refusing}
use Rattle.rules.specs.Answers.{07·01}
use Rattle.rules.specs.Fields.{little}
use Rattle.rules.specs.FrameLine.{line_checks, decoded}
use Rattle.rules.specs.Slots.{Contents, FitKey}
use Rattle.rules.specs.Ttlv.{Items, end, value, structure, Structure, Integer, Enumeration, Text, ByteString, is_value, head, to_eight}
use Rattle.rules.specs.Ttlv.{encode, size, AreBytes, FitItems}
use Rattle.rules.specs.KmipMessage.{message_of, message_frame, message_line, MessageLineLoads}
use Rattle.rules.specs.Frames.{load, read_message, kinds, read_frame}
use Rattle.rules.proofs.ChecksLaws.{append_pass, refusing_pass}
use Rattle.rules.proofs.DigitsLaws.{digits_decoded, digits_pass}
use Rattle.rules.proofs.KmipMessageLaws.{size_is, fit_message, message_reads_back}

-- ------------------------------------------------------------------------
-- Bytes

bytes_append : (xs ys : List ℕ) → AreBytes xs → AreBytes ys → AreBytes (xs ++ ys)
unfolding AreBytes
bytes_append [] ys p q = q
bytes_append (x ∷ xs) ys p q = (p.0, bytes_append xs ys p.1 q)

bytes_zeros : (n : ℕ) → AreBytes (zeros n)
unfolding AreBytes zeros
bytes_zeros zero = tt
bytes_zeros (suc n) = (omega arith, bytes_zeros n)

type_small : (type n : ℕ) → is_value type n ≡ true → type < 256
unfolding is_value
type_small type n e = by (eqb type Integer) (eqb type Enumeration) (eqb type Text) (eqb type ByteString) (eqb n 4) refl refl refl refl e
  where
    by : (i m t b f : Bool) → eqb type Integer ≡ i → eqb type Enumeration ≡ m → eqb type Text ≡ t → eqb type ByteString ≡ b
        → (i || m) && f || (t || b) ≡ true → type < 256
    by true m t b f p q r s e = omega (arith, eqb-true type Integer p)
    by false true t b f p q r s e = omega (arith, eqb-true type Enumeration q)
    by false false true b f p q r s e = omega (arith, eqb-true type Text r)
    by false false false true f p q r s e = omega (arith, eqb-true type ByteString s)
    by false false false false f p q r s e = absurd (true≢false (sym e))

head_bytes : (tag type n : ℕ) → type < 256 → AreBytes (head tag type n)
unfolding AreBytes head
head_bytes tag type n h =
    (omega arith, (omega arith, (omega arith, (h, (omega arith, (omega arith, (omega arith, (omega arith, tt))))))))

no_bytes : AreBytes []
unfolding AreBytes
no_bytes = tt

-- the encoding of items that fit
encode_bytes : (items : Items) → FitItems items → AreBytes (encode items)
unfolding encode FitItems
encode_bytes end fit = no_bytes
encode_bytes (value tag type v behind) fit =
    bytes_append _ _ (head_bytes tag type (length v) (type_small type (length v) fit.1))
    (bytes_append v _ fit.3 (bytes_append _ _ (bytes_zeros (to_eight (length v) - length v)) (encode_bytes behind fit.4)))
encode_bytes (structure tag members behind) fit =
    bytes_append _ _ (head_bytes tag Structure (length (encode members)) (omega arith))
    (bytes_append _ _ (encode_bytes members fit.2) (encode_bytes behind fit.3))

-- ------------------------------------------------------------------------
-- The frame, and its line

module _ (ns : Namespace) (tag : Tag) (x : Contents) (hn : ns.0 < 2 ^ 8) (ht : tag.0 < 2 ^ 16) (fit : FitKey x)
    (uid : AreBytes x.uid) (key : AreBytes x.key) where
  abbrev frame : List ℕ
  frame = message_frame ns tag x

  frame_bytes : AreBytes (message_frame ns tag x)
  unfolding AreBytes
  frame_bytes = (omega arith, (omega arith, (omega arith, (omega arith, encode_bytes (message_of ns.0 tag.0 x) (fit_message ns.0 tag.0 x fit uid key)))))

  few : length (encode (message_of ns.0 tag.0 x)) ≤ 408
  unfolding message_of size
  few = let short = fit.short in let whole = fit.whole in omega (arith, size_is (message_of ns.0 tag.0 x))

  reads_message : AllPass ((read_message (message_frame ns tag x)).checks) × ((read_message (message_frame ns tag x)).frame ≡ load ns tag x)
  unfolding read_message part little
  reads_message =
      let t : tag.0 % 256 + 256 * (tag.0 / 256 + 256 * 0) ≡ tag.0 = omega arith in
      let some = fit.some in
      let short = fit.short in
      let back = message_reads_back ns.0 tag.0 x (omega arith) (omega arith) fit uid key in
      rw (t, back) (
        (
          le-ltb (length (message_frame ns tag x)) 4 (omega arith),
          (refl, (rw (ne_eqb (length x.uid) 0 (omega arith), le-ltb uid_most (length x.uid) short), tt)),
        ),
        refl,
      )

pub message_line_loads : MessageLineLoads
unfolding message_line read_frame kinds
message_line_loads ns tag x hn ht fit uid key =
    let f = message_frame ns tag x in
    let b = frame_bytes ns tag x hn ht fit uid key in
    let m = few ns tag x hn ht fit uid key in
    let r = reads_message ns tag x hn ht fit uid key in
    let d = digits_decoded f b in (
      append_pass (refusing 07·01 (line_checks (message_line ns tag x))) (read_frame (decoded (message_line ns tag x))).checks
          (refusing_pass 07·01 (line_checks (message_line ns tag x)) (digits_pass f b (omega arith) (omega arith)))
          (rw d r.0),
      ap (λ g. (read_frame g).frame) d ∙ r.1,
    )
