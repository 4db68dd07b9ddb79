-- The message of a load is its pieces one after another.
-- Assumes nothing.
use mathlib.Core.Path.{◌≡◌, refl, sym, ap, ◌∙◌}
use mathlib.Core.Bool.{Bool, true, false}
use mathlib.Core.Logic.{◌⊎◌, inl, inr}
use mathlib.Core.List.{List, [], ◌++◌, append-nil, append_assoc}
use Prim.Native.Nat.{ℕ, ◌-◌, ◌/◌, ◌%◌, ◌<◌, ◌≤◌}
use native.Mathlib.Omega.{arith}
use lib.ListN.{length}
use lib.Dec.{leb}
use borrow.Author.Tests.{leb-true, leb-false}
use Rattle.cells.specs.Cells.{zeros}
use Rattle.rules.specs.Numbers.{key_size, uid_most}
use Rattle.rules.specs.Slots.{Contents}
use Rattle.rules.specs.Ttlv.{Items, end, value, structure, Structure, head, to_eight, padding, encode, size}
use Rattle.rules.specs.KmipMessage.{message_of}
use Rattle.rules.proofs.KmipMessageLaws.{size_is}
use Rattle.kmip.specs.Pieces.{before_uid, between_uid_and_key}

-- the encoding of items with something behind it, by their sizes
unfoldable coded : Items → List ℕ → List ℕ
coded end rest = rest
coded (value tag type bytes behind) rest = head tag type (length bytes) ++ (bytes ++ (padding (length bytes) ++ coded behind rest))
coded (structure tag members behind) rest = head tag Structure (size members) ++ coded members (coded behind rest)

coded_is : (items : Items) (rest : List ℕ) → encode items ++ rest ≡ coded items rest
unfolding encode coded
coded_is end rest = refl
coded_is (value tag type v behind) rest =
    let h = head tag type (length v) in
    let p = padding (length v) in
    append_assoc h (v ++ (p ++ encode behind)) rest
    ∙ ap (λ z. h ++ z) (append_assoc v (p ++ encode behind) rest)
    ∙ ap (λ z. h ++ (v ++ z)) (append_assoc p (encode behind) rest)
    ∙ ap (λ z. h ++ (v ++ (p ++ z))) (coded_is behind rest)
coded_is (structure tag members behind) rest =
    let h = head tag Structure (length (encode members)) in
    append_assoc h (encode members ++ encode behind) rest
    ∙ ap (λ z. h ++ z) (append_assoc (encode members) (encode behind) rest)
    ∙ ap (λ z. h ++ (encode members ++ z)) (coded_is behind rest)
    ∙ ap (λ z. h ++ z) (coded_is members (coded behind rest))
    ∙ ap (λ n. head tag Structure n ++ coded members (coded behind rest)) (size_is members)

-- the four bytes of a number below 65,536, and below 256
two_bytes : (n : ℕ) → n < 65536 → (n / 16777216 % 256 ≡ 0) × (n / 65536 % 256 ≡ 0) × (n / 256 % 256 ≡ n / 256)
two_bytes n h = (omega arith, omega arith, omega arith)

one_byte : (n : ℕ) → n < 256 → (n / 16777216 % 256 ≡ 0) × (n / 65536 % 256 ≡ 0) × (n / 256 % 256 ≡ 0) × (n % 256 ≡ n)
one_byte n h = (omega arith, omega arith, omega arith, omega arith)

-- a KeyUID takes 8 or 16 bytes with its padding
rooms_by : (l : ℕ) (b : Bool) → leb l 8 ≡ b → 0 < l → l ≤ uid_most → (to_eight l ≡ 8) ⊎ (to_eight l ≡ 16)
rooms_by l true e some few = inl (omega (arith, leb-true l 8 e))
rooms_by l false e some few = inr (omega (arith, leb-false l 8 e))

rooms : (l : ℕ) → 0 < l → l ≤ uid_most → (to_eight l ≡ 8) ⊎ (to_eight l ≡ 16)
rooms l some few = rooms_by l (leb l 8) refl some few

module _ (ns tag : ℕ) (x : Contents) (hn : ns < 256) (ht : tag < 65536) (few : length x.uid ≤ uid_most)
    (whole : length x.key ≡ key_size) where
  abbrev l : ℕ
  l = length x.uid

  -- one behind the other
  abbrev pub in_pieces : ℕ → List ℕ
  in_pieces r = (((before_uid l r ++ x.uid) ++ zeros (r - l)) ++ between_uid_and_key ns tag) ++ x.key

  by_room : (rest : List ℕ) (r : ℕ) → (r ≡ 8) ⊎ (r ≡ 16) → to_eight l ≡ r
      → coded (message_of ns tag x) rest ≡ before_uid l r ++ (x.uid ++ (zeros (r - l) ++ (between_uid_and_key ns tag ++ (x.key ++ rest))))
  unfolding coded message_of head size before_uid between_uid_and_key zeros
  by_room rest r (inl e) t =
      let a = one_byte l (omega arith) in
      let b = one_byte ns hn in
      let c = two_bytes tag ht in
      rw (whole, t, e, a.0, a.1, a.2, a.3, b.0, b.1, b.2, b.3, c.0, c.1, c.2)
  by_room rest r (inr e) t =
      let a = one_byte l (omega arith) in
      let b = one_byte ns hn in
      let c = two_bytes tag ht in
      rw (whole, t, e, a.0, a.1, a.2, a.3, b.0, b.1, b.2, b.3, c.0, c.1, c.2)

  pub message_pieces : 0 < l → encode (message_of ns tag x) ≡ in_pieces (to_eight l)
  message_pieces some =
      let r = to_eight l in
      let a = before_uid l r in
      let z = zeros (r - l) in
      let b = between_uid_and_key ns tag in
      sym (append-nil (encode (message_of ns tag x)))
      ∙ coded_is (message_of ns tag x) []
      ∙ by_room [] r (rooms l some few) refl
      ∙ ap (λ k. a ++ (x.uid ++ (z ++ (b ++ k)))) (append-nil x.key)
      ∙ sym (append_assoc a x.uid (z ++ (b ++ x.key)))
      ∙ sym (append_assoc (a ++ x.uid) z (b ++ x.key))
      ∙ sym (append_assoc ((a ++ x.uid) ++ z) b x.key)
