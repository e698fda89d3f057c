-- A memory of doublewords under loads and stores is a memory of bytes.
use Rattle.std.proofs.Common.{◌≡◌, ◌&&◌, ◌+◌, ◌-◌, ◌*◌, ◌/◌, ◌%◌, ◌<◌, ◌≤◌, ℕ, zero, suc, true, false, nat_le, nat_lt, if◌then◌else◌, List, [], ◌∷◌, ◌++◌, length, take, drop, get_or, refl, ap, sym, subst, ◌∙◌, inl, inr, arith, length-append, length-drop, length-take}
use Rattle.std.proofs.lemmas.Grind.{common_steps}
use Rattle.std.proofs.lemmas.Bool.{cases_eq, cases_lt, eq-eqb, ne_eqb}
use Rattle.std.proofs.lemmas.Bool.Decides.{nat_tests}
use Rattle.std.proofs.lemmas.Nat.{le_bytes_8}
use Rattle.std.specs.Int.{cast_signed, cast_unsigned, w8, w16, w32, w64}
use Rattle.rv_word.specs.declared.instr.Kind.{Kind}
use Rattle.rv_word.specs.declared.instr.Kind.TheVariants.{Lb, Lh, Lw, Ld, Lbu, Lhu, Lwu, Sb, Sh, Sw, Sd}
use Rattle.rv_model.specs.Align.{width, bytes, part, put, aligned}
use Rattle.rv_model.specs.Bytes.{byte_at, half_at, word_at, Writes, ActsOnBytes}
use Rattle.rv_model.specs.State.{with_word}

-- each number of the list is a byte
record AreBytes (xs : List ℕ) : Type 0 where
  pub below : (i : ℕ) → get_or xs i 0 < 256

none : AreBytes []
none = record { below = λ i. grind (arith, common_steps) }

one_at : (x : ℕ) (xs : List ℕ) → x < 256 → AreBytes xs → (i : ℕ) → get_or (x ∷ xs) i 0 < 256
one_at x xs h k zero = h
one_at x xs h k (suc i) = k.below i

more : (x : ℕ) (xs : List ℕ) → x < 256 → AreBytes xs → AreBytes (x ∷ xs)
more x xs h k = record { below = one_at x xs h k }

small : (n : ℕ) → AreBytes (bytes n)
small n = more _ _ (omega arith) (more _ _ (omega arith) (more _ _ (omega arith) (more _ _ (omega arith) (more _ _ (omega arith) (more _ _ (omega arith) (more _ _ (omega arith) (more _ _ (omega arith) none)))))))

joined : (xs ys : List ℕ) → AreBytes xs → AreBytes ys → AreBytes (xs ++ ys)
joined xs ys h k = record { below = λ i. grind (arith, common_steps, h.below i, k.below (i - length xs)) }

front : (xs : List ℕ) (n : ℕ) → AreBytes xs → AreBytes (take n xs)
front xs n h = record { below = λ i. grind (arith, common_steps, h.below i) }

rest : (xs : List ℕ) (n : ℕ) → AreBytes xs → AreBytes (drop n xs)
rest xs n h = record { below = λ i. grind (arith, common_steps, h.below (n + i)) }

-- the bytes of a doubleword in which some were put
abbrev spliced : ℕ → ℕ → List ℕ → List ℕ → List ℕ
spliced n off xs ys = take off xs ++ take n ys ++ drop (off + n) xs

bytes-put : (n off old value : ℕ) → off + n ≤ 8 → bytes (put n off old value) ≡ spliced n off (bytes old) (bytes value)
bytes-put n off old value h =
    let xs : List ℕ = spliced n off (bytes old) (bytes value) in
    let long : length xs ≡ 8 = simp (length-append, length-take, length-drop) (omega arith) in
    let all : AreBytes xs = joined _ _ (joined _ _ (front (bytes old) off (small old)) (front (bytes value) n (small value))) (rest (bytes old) (off + n) (small old)) in
    le_bytes_8 xs (put n off old value) long all.below refl

spliced_before : (xs ys : List ℕ) (n off k : ℕ) → length xs ≡ 8 → length ys ≡ 8 → off + n ≤ 8 → k < off → get_or (spliced n off xs ys) k 0 ≡ get_or xs k 0
spliced_before xs ys n off k long_xs long_ys fits place = grind (arith, common_steps)

spliced_within : (xs ys : List ℕ) (n off k : ℕ) → length xs ≡ 8 → length ys ≡ 8 → off + n ≤ 8 → off ≤ k → k < off + n → get_or (spliced n off xs ys) k 0 ≡ get_or ys (k - off) 0
spliced_within xs ys n off k long_xs long_ys fits from until = grind (arith, common_steps)

spliced_after : (xs ys : List ℕ) (n off k : ℕ) → length xs ≡ 8 → length ys ≡ 8 → off + n ≤ 8 → off + n ≤ k → get_or (spliced n off xs ys) k 0 ≡ get_or xs k 0
spliced_after xs ys n off k long_xs long_ys fits place = grind (arith, common_steps)

get_or-spliced : (xs ys : List ℕ) (n off k : ℕ) → length xs ≡ 8 → length ys ≡ 8 → off + n ≤ 8 → get_or (spliced n off xs ys) k 0 ≡ (if nat_le off k && nat_lt k (off + n) then get_or ys (k - off) 0 else get_or xs k 0)
get_or-spliced xs ys n off k long_xs long_ys fits = elim (cases_lt k off) [
  | inl early ↦ let no : (nat_le off k && nat_lt k (off + n)) ≡ false = grind (arith, nat_tests) in spliced_before xs ys n off k long_xs long_ys fits early ∙ rw no refl
  | inr from ↦ elim (cases_lt k (off + n)) [
    | inl until ↦ let yes : (nat_le off k && nat_lt k (off + n)) ≡ true = grind (arith, nat_tests) in spliced_within xs ys n off k long_xs long_ys fits from until ∙ rw yes refl
    | inr late ↦ let no : (nat_le off k && nat_lt k (off + n)) ≡ false = grind (arith, nat_tests) in spliced_after xs ys n off k long_xs long_ys fits late ∙ rw no refl
  ]
]

-- a doubleword with such bytes at the address's place writes the bytes of memory
writes : (word : ℕ → ℕ) (n address value new : ℕ) → address % 8 + n ≤ 8 → bytes new ≡ spliced n (address % 8) (bytes (word (address / 8))) (bytes value) → Writes n address value word (with_word word (address / 8) new)
writes word n address value new fits is a = elim (cases_eq (address / 8) (a / 8)) [
  | inl same ↦
      let le_same : nat_le (address % 8) (a % 8) ≡ nat_le address a = grind (arith, nat_tests) in
      let lt_same : nat_lt (a % 8) (address % 8 + n) ≡ nat_lt a (address + n) = grind (arith, nat_tests) in
      let minus_same : a % 8 - address % 8 ≡ a - address = omega arith in
      let here : byte_at (with_word word (address / 8) new) a ≡ get_or (bytes new) (a % 8) 0 = rw (eq-eqb _ _ same) refl in
      here ∙ ap (λ xs. get_or xs (a % 8) 0) is ∙ get_or-spliced (bytes (word (address / 8))) (bytes value) n (address % 8) (a % 8) refl refl fits ∙ rw (le_same, lt_same, minus_same, same) refl
  | inr differs ↦
      let outside : (nat_le address a && nat_lt a (address + n)) ≡ false = grind (arith, nat_tests) in
      rw (ne_eqb _ _ differs, outside) refl
]

-- a part of a doubleword by its bytes
pub part_1 : (old off : ℕ) → off < 8 → part 1 off old ≡ get_or (bytes old) off 0
part_1 old zero below = omega arith
part_1 old (suc zero) below = omega arith
part_1 old (suc (suc zero)) below = omega arith
part_1 old (suc (suc (suc zero))) below = omega arith
part_1 old (suc (suc (suc (suc zero)))) below = omega arith
part_1 old (suc (suc (suc (suc (suc zero))))) below = omega arith
part_1 old (suc (suc (suc (suc (suc (suc zero)))))) below = omega arith
part_1 old (suc (suc (suc (suc (suc (suc (suc zero))))))) below = omega arith
part_1 old (suc (suc (suc (suc (suc (suc (suc (suc k)))))))) below = absurd (omega arith)

part_2 : (old half : ℕ) → half < 4 → part 2 (2 * half) old ≡ get_or (bytes old) (2 * half) 0 + get_or (bytes old) (2 * half + 1) 0 * 256
part_2 old zero below = omega arith
part_2 old (suc zero) below = omega arith
part_2 old (suc (suc zero)) below = omega arith
part_2 old (suc (suc (suc zero))) below = omega arith
part_2 old (suc (suc (suc (suc k)))) below = absurd (omega arith)

part_4 : (old half : ℕ) → half < 2 → part 4 (4 * half) old ≡ get_or (bytes old) (4 * half) 0 + get_or (bytes old) (4 * half + 1) 0 * 256 + get_or (bytes old) (4 * half + 2) 0 * 65536 + get_or (bytes old) (4 * half + 3) 0 * 16777216
part_4 old zero below = omega arith
part_4 old (suc zero) below = omega arith
part_4 old (suc (suc k)) below = absurd (omega arith)

-- the bytes after the address, as long as they lie in its doubleword
pub byte_next : (word : ℕ → ℕ) (a k : ℕ) → a % 8 + k < 8 → get_or (bytes (word (a / 8))) (a % 8 + k) 0 ≡ byte_at word (a + k)
byte_next word a k fits =
    let index : (a + k) / 8 ≡ a / 8 = omega arith in
    let place : (a + k) % 8 ≡ a % 8 + k = omega arith in
    sym (rw (index, place) refl)

pub half_is : (word : ℕ → ℕ) (a : ℕ) → a % 2 ≡ 0 → part 2 (a % 8) (word (a / 8)) ≡ half_at word a
half_is word a multiple =
    let xs : List ℕ = bytes (word (a / 8)) in
    let place : 2 * (a % 8 / 2) ≡ a % 8 = omega arith in
    let known : part 2 (a % 8) (word (a / 8)) ≡ get_or xs (a % 8) 0 + get_or xs (a % 8 + 1) 0 * 256 =
    subst (λ o. part 2 o (word (a / 8)) ≡ get_or xs o 0 + get_or xs (o + 1) 0 * 256) place (part_2 (word (a / 8)) (a % 8 / 2) (omega arith)) in
    known ∙ ap (λ b. get_or xs (a % 8) 0 + b * 256) (byte_next word a 1 (omega arith))

pub word_is : (word : ℕ → ℕ) (a : ℕ) → a % 4 ≡ 0 → part 4 (a % 8) (word (a / 8)) ≡ word_at word a
word_is word a multiple =
    let xs : List ℕ = bytes (word (a / 8)) in
    let place : 4 * (a % 8 / 4) ≡ a % 8 = omega arith in
    let known : part 4 (a % 8) (word (a / 8)) ≡ get_or xs (a % 8) 0 + get_or xs (a % 8 + 1) 0 * 256 + get_or xs (a % 8 + 2) 0 * 65536 + get_or xs (a % 8 + 3) 0 * 16777216 =
    subst (λ o. part 4 o (word (a / 8)) ≡ get_or xs o 0 + get_or xs (o + 1) 0 * 256 + get_or xs (o + 2) 0 * 65536 + get_or xs (o + 3) 0 * 16777216) place (part_4 (word (a / 8)) (a % 8 / 4) (omega arith)) in
    known
    ∙ ap (λ b. get_or xs (a % 8) 0 + b * 256 + get_or xs (a % 8 + 2) 0 * 65536 + get_or xs (a % 8 + 3) 0 * 16777216) (byte_next word a 1 (omega arith))
    ∙ ap (λ b. get_or xs (a % 8) 0 + byte_at word (a + 1) * 256 + b * 65536 + get_or xs (a % 8 + 3) 0 * 16777216) (byte_next word a 2 (omega arith))
    ∙ ap (λ b. get_or xs (a % 8) 0 + byte_at word (a + 1) * 256 + byte_at word (a + 2) * 65536 + b * 16777216) (byte_next word a 3 (omega arith))

pub acts_on_bytes : (kind : Kind) (address value : ℕ) (word : ℕ → ℕ) → address % width kind ≡ 0 → ActsOnBytes kind address value word (aligned kind (address % 8) (word (address / 8)) value)
unfolding aligned
acts_on_bytes Lb address value word multiple = ap (λ n. cast_unsigned w64 (cast_signed w8 n)) (part_1 (word (address / 8)) (address % 8) (omega arith))
acts_on_bytes Lh address value word multiple = ap (λ n. cast_unsigned w64 (cast_signed w16 n)) (half_is word address multiple)
acts_on_bytes Lw address value word multiple = ap (λ n. cast_unsigned w64 (cast_signed w32 n)) (word_is word address multiple)
acts_on_bytes Ld address value word multiple = refl
acts_on_bytes Lbu address value word multiple = part_1 (word (address / 8)) (address % 8) (omega arith)
acts_on_bytes Lhu address value word multiple = half_is word address multiple
acts_on_bytes Lwu address value word multiple = word_is word address multiple
acts_on_bytes Sb address value word multiple = writes word 1 address value _ (omega arith) (bytes-put 1 (address % 8) _ value (omega arith))
acts_on_bytes Sh address value word multiple = writes word 2 address value _ (omega arith) (bytes-put 2 (address % 8) _ value (omega arith))
acts_on_bytes Sw address value word multiple = writes word 4 address value _ (omega arith) (bytes-put 4 (address % 8) _ value (omega arith))
acts_on_bytes Sd address value word multiple =
    let zero_is : address % 8 ≡ 0 = omega arith in
    writes word 8 address value value (omega arith) (rw zero_is refl)
