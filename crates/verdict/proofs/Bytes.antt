-- The bytes that the publics tell, doubleword after doubleword.
use Rattle.std.proofs.Common.{◌≡◌, ◌+◌, ◌*◌, ◌≤◌, ℕ, zero, suc, List, [], ◌∷◌, take, drop, length, ◌++◌, ap, sym, ◌∙◌, arith, add-one, length-append}
use Rattle.std.proofs.Math.Seq.{take-length}
use Rattle.std.proofs.lemmas.List.{length-take, take_at}
use Rattle.std.proofs.lemmas.Grind.{flat_map-append}
use Rattle.std.specs.List.{flat_map, range_with_len}
use Rattle.std.specs.Int.{to_le_bytes, w64}
use Rattle.gold.specs.declared.instances.Table.{Table}
use Rattle.verdict.specs.Told.{told_bytes, told_number}

shifted : (a n : ℕ) → range_with_len a (suc n) ≡ range_with_len a n ++ (a + n) ∷ []
shifted a zero = ap (λ k. k ∷ []) (none a)
  where
    none : (a : ℕ) → a ≡ a + 0
    none a = omega arith
shifted a (suc n) = ap (λ xs. a ∷ xs) (shifted (a + 1) n ∙ ap (λ k. range_with_len (a + 1) n ++ k ∷ []) (next a n))
  where
    next : (a n : ℕ) → (a + 1) + n ≡ a + suc n
    next a n = omega arith

range_more : (n : ℕ) → range_with_len 0 (n + 1) ≡ range_with_len 0 n ++ n ∷ []
range_more n = rw add-one (shifted 0 n ∙ ap (λ k. range_with_len 0 n ++ k ∷ []) (from n))
  where
    from : (n : ℕ) → 0 + n ≡ n
    from n = omega arith

bytes-more : (v : Table) (n : ℕ) → told_bytes v (n + 1) ≡ told_bytes v n ++ to_le_bytes w64 (told_number v (n + 1))
unfolding told_bytes
bytes-more v n =
    let f : ℕ → List ℕ = λ k. to_le_bytes w64 (told_number v (k + 1)) in
    ap (flat_map f) (range_more n) ∙ flat_map-append f (range_with_len 0 n) (n ∷ [])

pub bytes_step : (v : Table) (out bytes : List ℕ) (i : ℕ) → 8 * i + 8 ≤ length out → length bytes ≡ 8 → bytes ≡ to_le_bytes w64 (told_number v (i + 1)) → take (8 * i) out ≡ told_bytes v i
    → take (8 * (i + 1)) (take (8 * i) out ++ bytes ++ drop (8 * i + 8) out) ≡ told_bytes v (i + 1)
bytes_step v out bytes i room eight is known =
    let long : length (take (8 * i) out ++ bytes) ≡ 8 * (i + 1) = simp (length-append, length-take) (omega arith) in
    take_at (take (8 * i) out ++ bytes) (drop (8 * i + 8) out) (8 * (i + 1)) long ∙ ap (λ xs. xs ++ bytes) known ∙ ap (λ xs. told_bytes v i ++ xs) is ∙ sym (bytes-more v i)

pub bytes_all : (v : Table) (out : List ℕ) (i : ℕ) → i ≡ 32 → length out ≡ 256 → take (8 * i) out ≡ told_bytes v i → out ≡ told_bytes v 32
bytes_all v out i last long known =
    let all : 8 * i ≡ length out = omega arith in
    sym (rw all (take-length out)) ∙ known ∙ ap (told_bytes v) last
