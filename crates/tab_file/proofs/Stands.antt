-- What stands in the bytes at an offset, and the numbers that are read there.
use Rattle.std.proofs.Common.{◌≡◌, ℕ, ◌+◌, ◌^◌, ◌<◌, ◌≤◌, List, [], ◌++◌, length, get_or, take, drop, refl, sym, ap, ◌∙◌, append_assoc, arith, inl, inr}
use Rattle.std.specs.Int.{Width, w32, w64, byte_len, from_le_bytes, to_le_bytes}
use Rattle.std.proofs.lemmas.Bool.{cases_lt}
use Rattle.std.proofs.lemmas.List.{drop-drop, take_at, drop_at, take-append-drop, length-append, length-drop, length-take, get_or-drop, get_or-take, get_or_past}
use Rattle.std.proofs.lemmas.Nat.{le_bytes_4, le_bytes_8, from_le_bytes-to_le_bytes_4, from_le_bytes-to_le_bytes_8}
use Rattle.tab_file.specs.Items.{number_at}

-- the text stands at an offset, and ends at next
pub record Stands (bytes : List ℕ) (at : ℕ) (text : List ℕ) (next : ℕ) : Type 0 where
  pub len : next ≡ at + length text
  pub whole : next ≤ length bytes
  pub split : drop at bytes ≡ text ++ drop next bytes

pub Stands-none : (bytes : List ℕ) (at : ℕ) → at ≤ length bytes → Stands bytes at [] at
Stands-none bytes at h = record { len = omega arith; whole = h; split = refl }

pub Stands-then : (bytes : List ℕ) (at m n : ℕ) (xs ys : List ℕ) → Stands bytes at xs m → Stands bytes m ys n → Stands bytes at (xs ++ ys) n
Stands-then bytes at m n xs ys s t = record {
  len = omega (arith, s.len, t.len, length-append xs ys);
  whole = t.whole;
  split = s.split ∙ ap (λ (zs : List ℕ). xs ++ zs) t.split ∙ sym (append_assoc xs ys (drop n bytes));
}

pub Stands-first : (bytes : List ℕ) (at n : ℕ) (xs ys : List ℕ) → Stands bytes at (xs ++ ys) n → Stands bytes at xs (at + length xs)
Stands-first bytes at n xs ys s =
    let parted : drop at bytes ≡ xs ++ (ys ++ drop n bytes) = s.split ∙ append_assoc xs ys (drop n bytes) in
    let rest : drop (at + length xs) bytes ≡ ys ++ drop n bytes = sym (drop-drop (length xs) at bytes) ∙ ap (drop (length xs)) parted ∙ drop_at xs (ys ++ drop n bytes) (length xs) refl in
    record {
      len = refl;
      whole = omega (arith, s.len, s.whole, length-append xs ys);
      split = parted ∙ ap (λ (zs : List ℕ). xs ++ zs) (sym rest);
    }

pub Stands-second : (bytes : List ℕ) (at n : ℕ) (xs ys : List ℕ) → Stands bytes at (xs ++ ys) n → Stands bytes (at + length xs) ys n
Stands-second bytes at n xs ys s =
    let parted : drop at bytes ≡ xs ++ (ys ++ drop n bytes) = s.split ∙ append_assoc xs ys (drop n bytes) in
    let rest : drop (at + length xs) bytes ≡ ys ++ drop n bytes = sym (drop-drop (length xs) at bytes) ∙ ap (drop (length xs)) parted ∙ drop_at xs (ys ++ drop n bytes) (length xs) refl in
    record { len = omega (arith, s.len, length-append xs ys); whole = s.whole; split = rest }

-- ---- numbers

abbrev pub IsBytes : List ℕ → Type 0
IsBytes bytes = (i : ℕ) → get_or bytes i 0 < 256

IsBytes-drop : (n : ℕ) (bytes : List ℕ) → IsBytes bytes → IsBytes (drop n bytes)
IsBytes-drop n bytes h i = rw get_or-drop (h (n + i))

IsBytes-take : (n : ℕ) (bytes : List ℕ) → IsBytes bytes → IsBytes (take n bytes)
IsBytes-take n bytes h i =
    elim (cases_lt i n) [
      | inl lt ↦ rw (get_or-take n bytes i 0 lt) (h i)
      | inr le ↦ rw (get_or_past (take n bytes) i 0 (omega (arith, length-take n bytes))) (omega arith)
    ]

-- the numbers of a width are those below the limit
pub record IsWide (w : Width) (limit : ℕ) : Type 0 where
  pub len : (n : ℕ) → length (to_le_bytes w n) ≡ byte_len w
  pub back : (bytes : List ℕ) → length bytes ≡ byte_len w → IsBytes bytes → to_le_bytes w (from_le_bytes w bytes) ≡ bytes
  pub again : (n : ℕ) → n < limit → from_le_bytes w (to_le_bytes w n) ≡ n
  pub below : (bytes : List ℕ) → IsBytes bytes → from_le_bytes w bytes < limit

pub wide32 : IsWide w32 (2 ^ 32)
wide32 = record {
  len = λ n. refl;
  back = λ bytes len fits. le_bytes_4 bytes _ len fits refl;
  again = λ n lt. from_le_bytes-to_le_bytes_4 n lt;
  below = λ bytes fits. omega (arith, fits 0, fits 1, fits 2, fits 3);
}

pub wide64 : IsWide w64 (2 ^ 64)
wide64 = record {
  len = λ n. refl;
  back = λ bytes len fits. le_bytes_8 bytes _ len fits refl;
  again = λ n lt. from_le_bytes-to_le_bytes_8 n lt;
  below = λ bytes fits. omega (arith, fits 0, fits 1, fits 2, fits 3, fits 4, fits 5, fits 6, fits 7);
}

pub number_at-below : (w : Width) (limit : ℕ) (wide : IsWide w limit) (bytes : List ℕ) (at : ℕ) → IsBytes bytes → number_at w bytes at < limit
number_at-below w limit wide bytes at fits = wide.below (take (byte_len w) (drop at bytes)) (IsBytes-take (byte_len w) (drop at bytes) (IsBytes-drop at bytes fits))

-- the number that is read stands there
pub Stands-number : (w : Width) (limit : ℕ) (wide : IsWide w limit) (bytes : List ℕ) (at : ℕ) → IsBytes bytes → at + byte_len w ≤ length bytes → Stands bytes at (to_le_bytes w (number_at w bytes at)) (at + byte_len w)
Stands-number w limit wide bytes at fits le =
    let front = take (byte_len w) (drop at bytes) in
    let len : length (take (byte_len w) (drop at bytes)) ≡ byte_len w = omega (arith, le, length-take (byte_len w) (drop at bytes), length-drop at bytes) in
    let is : to_le_bytes w (number_at w bytes at) ≡ take (byte_len w) (drop at bytes) = wide.back front len (IsBytes-take (byte_len w) (drop at bytes) (IsBytes-drop at bytes fits)) in
    record {
      len = omega (arith, wide.len (number_at w bytes at));
      whole = le;
      split = sym (take-append-drop (byte_len w) (drop at bytes)) ∙ ap (λ (xs : List ℕ). xs ++ drop (byte_len w) (drop at bytes)) (sym is)
          ∙ ap (λ (xs : List ℕ). to_le_bytes w (number_at w bytes at) ++ xs) (drop-drop (byte_len w) at bytes);
    }

-- the number that stands there is read
pub number_at-Stands : (w : Width) (limit : ℕ) (wide : IsWide w limit) (bytes : List ℕ) (at n next : ℕ) → n < limit → Stands bytes at (to_le_bytes w n) next → number_at w bytes at ≡ n
number_at-Stands w limit wide bytes at n next lt s =
    ap (from_le_bytes w) (ap (take (byte_len w)) s.split ∙ take_at (to_le_bytes w n) (drop next bytes) (byte_len w) (wide.len n)) ∙ wide.again n lt
