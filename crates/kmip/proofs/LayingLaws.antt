-- The pieces of a message, laid one after another over what is lent of an output.
-- Assumes nothing.
use mathlib.Core.Path.{◌≡◌, refl, sym, ap, ◌∙◌}
use mathlib.Core.Bool.{Bool, true, false, not, cond}
use mathlib.Core.List.{List, [], ◌++◌}
use Prim.Native.Nat.{ℕ, ◌+◌, ◌-◌, ◌<◌, ◌≤◌}
use native.Mathlib.Omega.{arith}
use lib.ListN.{length, take, drop, replicate, length-append, length-drop}
use lib.Seq.{take_at}
use lib.Dec.{eqb, ltb}
use borrow.Author.Tests.{lt-ltb, le-ltb, eq-eqb, ne_eqb, eqb-true, not-false}
use Rattle.std.specs.Prelude.{Ok, Err}
use Rattle.cells.specs.Cells.{zeros}
use Rattle.cells.proofs.CellsLaws.{push, copied, lent_length_to, length_zeros}
use Rattle.rules.specs.Numbers.{key_size, uid_most}
use Rattle.rules.specs.Slots.{FitKey}
use Rattle.rules.specs.Frames.{bad_uid_length}
use Rattle.rules.specs.Ttlv.{to_eight}
use Rattle.kmip.specs.Pieces.{before_size, between_size, before_uid, between_uid_and_key}
use Rattle.kmip.specs.Writing.{message_room, message_bytes, Wrote, write_message, WrittenReadsBack}
use Rattle.kmip.specs.declared.WriteError.TheVariants.{NoRoom, NoKey, BadKeyUid}
use Rattle.rules.proofs.KmipMessageLaws.{message_reads_back}
use Rattle.kmip.proofs.ReadingLaws.{few_bytes, some_bytes}
use Rattle.kmip.proofs.WritingLaws.{message_pieces}

-- v over the part from k to e
abbrev over : ℕ → ℕ → List ℕ → List ℕ → List ℕ
over k e v xs = take k xs ++ (v ++ drop (e - k) (drop k xs))

-- a piece v behind those in p, up to k, that lie over the output so far
module _ (out p v : List ℕ) (k e : ℕ) {so_far : List ℕ} (is : so_far ≡ p ++ drop k out) (lp : length p ≡ k) where
  grown : k ≤ e → over k e v so_far ≡ (p ++ v) ++ drop e out
  grown ke = rw is (push p out v k e lp ke)

  pub lent_size : k ≤ e → e ≤ length out → length (take (e - k) (drop k so_far)) ≡ e - k
  lent_size ke room =
      let as_long = ap length is ∙ length-append p (drop k out) in
      lent_length_to k e so_far (omega (arith, simp length-drop at as_long))

module _ (ns tag : ℕ) (uid key out : List ℕ) (hn : ns < 256) (ht : tag < 65536) (some : 0 < length uid) (few : length uid ≤ uid_most)
    (whole : length key ≡ key_size) (room : message_room ≤ length out) where
  abbrev r : ℕ
  r = to_eight (length uid)

  abbrev uid_end : ℕ
  uid_end = before_size + length uid

  abbrev at : ℕ
  at = before_size + r

  abbrev key_at : ℕ
  key_at = at + between_size

  abbrev stop : ℕ
  stop = key_at + key_size

  abbrev front : List ℕ
  front = before_uid (length uid) r

  pub before_long : length (before_uid (length uid) r) ≡ before_size
  unfolding before_uid
  before_long = refl

  pub between_long : length (between_uid_and_key ns tag) ≡ between_size
  unfolding between_uid_and_key
  between_long = refl

  abbrev two : List ℕ
  two = over before_size uid_end uid (front ++ drop before_size out)

  -- `copy` finds as much lent as the KeyUID has bytes
  pub uid_laid : (l k : ℕ) {so_far ys : List ℕ} → so_far ≡ before_uid l k ++ drop before_size out
      → ys ≡ cond (eqb (length (take (uid_end - before_size) (drop before_size so_far))) (length uid)) uid
      (take (uid_end - before_size) (drop before_size so_far))
      → ys ≡ uid
  unfolding before_uid
  uid_laid l k {so_far} is e =
      let as_long : length so_far ≡ before_size + length (drop before_size out) = ap length is ∙ length-append (before_uid l k) (drop before_size out) in
      e ∙ copied before_size uid_end so_far uid (omega (arith, simp length-drop at as_long)) (omega arith)

  second : two ≡ (front ++ uid) ++ drop uid_end out
  second = grown out front uid before_size uid_end refl before_long (omega arith)

  to_uid : length (front ++ uid) ≡ uid_end
  to_uid = length-append front uid ∙ ap (λ n. n + length uid) before_long

  -- as many zeros as are lent
  zero_padding : replicate (length (take (at - uid_end) (drop uid_end two))) 0 ≡ zeros (r - length uid)
  unfolding zeros
  zero_padding =
      let same : at - uid_end ≡ r - length uid = omega arith in
      ap (λ n. replicate n 0) (lent_size out (front ++ uid) [] uid_end at second to_uid (omega arith) (omega arith) ∙ same)

  abbrev padded : List ℕ
  padded = (front ++ uid) ++ zeros (r - length uid)

  abbrev three : List ℕ
  three = over uid_end at (replicate (length (take (at - uid_end) (drop uid_end two))) 0) two

  third : three ≡ padded ++ drop at out
  third =
      ap (λ z. over uid_end at z two) zero_padding
      ∙ grown out (front ++ uid) (zeros (r - length uid)) uid_end at second to_uid (omega arith)

  to_at : length padded ≡ at
  to_at = length-append (front ++ uid) (zeros (r - length uid)) ∙ omega (arith, to_uid, length_zeros (r - length uid))

  abbrev up_to_key : List ℕ
  up_to_key = padded ++ between_uid_and_key ns tag

  abbrev four : List ℕ
  four = over at key_at (between_uid_and_key ns tag) three

  fourth : four ≡ up_to_key ++ drop key_at out
  fourth = grown out padded (between_uid_and_key ns tag) at key_at third to_at (omega arith)

  to_key : length up_to_key ≡ key_at
  to_key = length-append padded (between_uid_and_key ns tag) ∙ omega (arith, to_at, between_long)

  are_message : message_bytes ns tag uid key ≡ up_to_key ++ key
  are_message = message_pieces ns tag (record { uid = uid; key = key }) hn ht few whole some

  pub message_long : stop ≡ length (message_bytes ns tag uid key)
  message_long = sym (ap length are_message ∙ length-append up_to_key key ∙ omega (arith, to_key))

  pub laid : over key_at stop key four ≡ message_bytes ns tag uid key ++ drop stop out
  laid =
      grown out up_to_key key key_at stop fourth to_key (omega arith)
      ∙ ap (λ m. m ++ drop stop out) (sym are_message)

-- ------------------------------------------------------------------------
-- The writer's answers, and that what was written is read back

module _ (ns tag : ℕ) (uid key out : List ℕ) where
  pub no_room : length out < message_room → record { result = Err NoRoom; out = out } ≡ write_message ns tag uid key out
  unfolding write_message
  no_room h = rw (lt-ltb (length out) message_room h)

  module _ (room : message_room ≤ length out) where
    pub no_key : (length key ≡ key_size → ⊥) → record { result = Err NoKey; out = out } ≡ write_message ns tag uid key out
    unfolding write_message
    no_key h = rw (le-ltb (length out) message_room room, ne_eqb (length key) key_size h)

    module _ (whole : length key ≡ key_size) where
      pub bad_uid : bad_uid_length (length uid) ≡ true → record { result = Err BadKeyUid; out = out } ≡ write_message ns tag uid key out
      unfolding write_message
      bad_uid h = rw (le-ltb (length out) message_room room, eq-eqb (length key) key_size whole, h)

      pub written : (n : ℕ) → bad_uid_length (length uid) ≡ false → n ≡ length (message_bytes ns tag uid key)
          → record { result = Ok n; out = message_bytes ns tag uid key ++ drop n out } ≡ write_message ns tag uid key out
      unfolding write_message
      written n h e = rw (le-ltb (length out) message_room room, eq-eqb (length key) key_size whole, h, e)

-- a writing that came to bytes passed every check
passed_all : (a b c : Bool) (message out : List ℕ) (n : ℕ)
    → (cond {A = Wrote} a (record { result = Err NoRoom; out = out })
    (cond b (record { result = Err NoKey; out = out })
    (cond c (record { result = Err BadKeyUid; out = out })
    (record { result = Ok (length message); out = message ++ drop (length message) out })))).result ≡ Ok n
    → (a ≡ false) × (b ≡ false) × (c ≡ false) × (n ≡ length message)
passed_all true b c message out n e = (cc, cc, cc, cc)
passed_all false true c message out n e = (cc, cc, cc, cc)
passed_all false false true message out n e = (cc, cc, cc, cc)
passed_all false false false message out n e = (refl, refl, refl, cc)

pub written_reads_back : WrittenReadsBack
unfolding write_message
written_reads_back ns tag uid key out n hn ht bu bk e =
    let m = message_bytes ns tag uid key in
    let p = passed_all (ltb (length out) message_room) (not (eqb (length key) key_size)) (bad_uid_length (length uid)) m out n e in
    let fit : FitKey (record { uid = uid; key = key }) = record {
      some = some_bytes (length uid) p.2;
      short = few_bytes (length uid) p.2;
      whole = eqb-true (length key) key_size (not-false _ p.1);
    } in
    rw (p.0, p.1, p.2, p.3, take_at m (drop (length m) out) (length m) refl)
    (message_reads_back ns tag (record { uid = uid; key = key }) hn ht fit bu bk)
