-- The three parts of a response, written one behind the other, are the response.
-- Assumes nothing.
use Rattle.std.proofs.Common.{◌≡◌, ℕ, List, ◌+◌, ◌++◌, length, refl, take_all, take}
use Rattle.std.proofs.Common.{drop, sym, ap, ◌∙◌, append_assoc, length-append, arith}
use Rattle.std.proofs.lemmas.List.{take_at, drop_at}
use Rattle.std.proofs.lemmas.Slice.{put_mid-paste}
use borrow.Rule.Slice.PartMut.{put_mid}
use lib.Seq.{drop-drop}
use Rattle.rules.specs.declared.DiscoveryFields.{DiscoveryFields}
use Rattle.rules.specs.Numbers.{header_size, tper_size, key_per_io_size, discovery_size}
use Rattle.rules.specs.Discovery.{header_bytes, tper_bytes, key_per_io_bytes, response}
use Rattle.rules.specs.Call.{written}

-- a part written behind a front as long as its place
over_next : (p out y : List ℕ) (n m : ℕ) → length p ≡ n → length y ≡ m → put_mid n m (p ++ drop n out) y ≡ (p ++ y) ++ drop (n + m) out
over_next p out y n m lp ly =
    let rest : drop (n + m) (p ++ drop n out) ≡ drop (n + m) out =
    sym (drop-drop m n (p ++ drop n out)) ∙ ap (drop m) (drop_at p (drop n out) n lp) ∙ drop-drop m n out in
    let all : take m y ≡ y = take_all m y (omega arith) in
    put_mid-paste n m (p ++ drop n out) y y m refl refl (sym ly) ∙ (rw (take_at p (drop n out) n lp, all, rest))

pub responded : (f : DiscoveryFields) (out : List ℕ) {h t k : List ℕ}
    → length h ≡ header_size → length t ≡ tper_size → length k ≡ key_per_io_size
    → h ≡ header_bytes f.header → t ≡ tper_bytes f.tper → k ≡ key_per_io_bytes f.key_per_io
    → put_mid (header_size + tper_size) key_per_io_size (put_mid header_size tper_size (h ++ drop header_size out) t) k ≡ written (response f) out
unfolding response
responded f out {h} {t} {k} lh lt lk p q r =
    let two : length (h ++ t) ≡ header_size + tper_size = length-append h t ∙ (rw (lh, lt)) in
    let all : length (h ++ (t ++ k)) ≡ discovery_size = length-append h (t ++ k) ∙ (omega (arith, length-append t k)) in
    let is : h ++ (t ++ k) ≡ response f = rw (p, q, r) in
    rw (over_next h out t header_size tper_size lh lt) (
    over_next (h ++ t) out k (header_size + tper_size) key_per_io_size two lk
    ∙ ap (λ l. l ++ drop discovery_size out) (append_assoc h t k)
    ∙ ap (λ m. (h ++ (t ++ k)) ++ drop m out) (sym all)
    ∙ ap (λ l. l ++ drop (length l) out) is
    )
