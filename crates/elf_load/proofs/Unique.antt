-- A file has no two images for one input, and no two refusals.
use Rattle.std.proofs.Common.{◌≡◌, ℕ, zero, suc, ◌<◌, ◌⊎◌, inl, inr, List, [], ◌∷◌, length, get_or, AllPairs, Contains, refl, sym, ◌∙◌, ap, subst, arith}
use Rattle.rv_model.specs.Image.{Seg, Img}
use Rattle.elf_load.specs.Loads.{Loads}
use Rattle.elf_load.specs.Refusal.{Fails, Refused, IsBefore, place, index, second_index}
use Rattle.elf_load.specs.declared.error.ElfErr.{ElfErr}
use Rattle.elf_load.proofs.Order.{refusal, form}

compared : (a b : ℕ) → (a < b) ⊎ ((a ≡ b) ⊎ (b < a))
compared a b = grind arith

-- of two failing tests one is before the other, or they are one
ordered : (file : List ℕ) (e f : ElfErr) → Fails file e → Fails file f → IsBefore e f ⊎ ((e ≡ f) ⊎ IsBefore f e)
ordered file e f h k =
    elim (compared (place e) (place f)) [
      | inl less ↦ inl (inl less)
      | inr rest ↦ elim rest [
        | inr more ↦ inr (inr (inl more))
        | inl same ↦ elim (compared (index e) (index f)) [
          | inl less ↦ inl (inr (same, inl less))
          | inr others ↦ elim others [
            | inr more ↦ inr (inr (inr (sym same, inl more)))
            | inl alike ↦ elim (compared (second_index e) (second_index f)) [
              | inl less ↦ inl (inr (same, inr (alike, less)))
              | inr last ↦ elim last [
                | inr more ↦ inr (inr (inr (sym same, inr (sym alike, more))))
                | inl equal ↦ inr (inl (form file e h ∙ ap (λ i. refusal file i (second_index e) (place e)) alike ∙ ap (λ j. refusal file (index f) j (place e)) equal ∙ ap (refusal file (index f) (second_index f)) same ∙ sym (form file f k)))
              ]
            ]
          ]
        ]
      ]
    ]

pub one_refusal : (file : List ℕ) (e f : ElfErr) → Refused file e → Refused file f → e ≡ f
one_refusal file e f r s =
    elim (ordered file e f r.fails s.fails) [
      | inl before ↦ absurd (s.first e before r.fails)
      | inr rest ↦ elim rest [ inl same ↦ same | inr after ↦ absurd (r.first f after s.fails) ]
    ]

-- segments in ascending order of their starts
abbrev Ascend : List Seg → Type 0
Ascend xs = AllPairs (λ s t. s.start < t.start) xs

-- all that comes after the first begins above it
later : (x : Seg) (xs : List Seg) → Ascend (x ∷ xs) → (s : Seg) → Contains xs s → x.start < s.start
later x xs up s c = subst (λ y. x.start < y.start) c.2 (up 0 (suc c.0) s (omega arith) (omega (arith, c.1)))

rest_up : (x : Seg) (xs : List Seg) → Ascend (x ∷ xs) → Ascend xs
rest_up x xs up i j d l q = up (suc i) (suc j) d (omega arith) (omega arith)

-- an element is the first or a later one
first_or_later : (y : Seg) (ys : List Seg) (k : ℕ) (s : Seg) → k < length (y ∷ ys) → get_or (y ∷ ys) k s ≡ s → (y ≡ s) ⊎ Contains ys s
first_or_later y ys zero s l e = inl e
first_or_later y ys (suc k) s l e = inr (k, omega arith, e)

weaker : (x : Seg) (xs : List Seg) (s : Seg) → Contains xs s → Contains (x ∷ xs) s
weaker x xs s c = (suc c.0, omega (arith, c.1), c.2)

first_in : (x : Seg) (xs : List Seg) → Contains (x ∷ xs) x
first_in x xs = (0, omega arith, refl)

none_in : (s : Seg) → Contains [] s → ⊥
none_in s c = omega (arith, c.1)

same_firsts : (x y : Seg) (xs ys : List Seg) → Ascend (x ∷ xs) → Ascend (y ∷ ys) → Contains (y ∷ ys) x → Contains (x ∷ xs) y → x ≡ y
same_firsts x y xs ys up vp c d =
    elim (first_or_later y ys c.0 x c.1 c.2) [
      | inl e ↦ sym e
      | inr m ↦ elim (first_or_later x xs d.0 y d.1 d.2) [
        | inl e ↦ e
        | inr n ↦ let below = later y ys vp x m in let above = later x xs up y n in absurd (omega arith)
      ]
    ]

-- what is in both lists is in the rest of the second, if it is in the rest of the first
rest_in : (x y : Seg) (xs ys : List Seg) → Ascend (x ∷ xs) → x ≡ y → (s : Seg) → Contains xs s → Contains (y ∷ ys) s → Contains ys s
rest_in x y xs ys up e s m c =
    elim (first_or_later y ys c.0 s c.1 c.2) [
      | inl f ↦ let above = later x xs up s m in let same : x.start ≡ s.start = ap (λ z. z.start) (e ∙ f) in absurd (omega arith)
      | inr n ↦ n
    ]

-- ascending segments are told by which they are
same_segments : (xs ys : List Seg) → Ascend xs → Ascend ys → ((s : Seg) → Contains xs s → Contains ys s) → ((s : Seg) → Contains ys s → Contains xs s) → xs ≡ ys
same_segments [] [] up vp to from = refl
same_segments [] (y ∷ ys) up vp to from = absurd (none_in y (from y (first_in y ys)))
same_segments (x ∷ xs) [] up vp to from = absurd (none_in x (to x (first_in x xs)))
same_segments (x ∷ xs) (y ∷ ys) up vp to from =
    let e = same_firsts x y xs ys up vp (to x (first_in x xs)) (from y (first_in y ys)) in
    let rest = same_segments xs ys (rest_up x xs up) (rest_up y ys vp)
    (λ s m. rest_in x y xs ys up e s m (to s (weaker x xs s m)))
    (λ s m. rest_in y x ys xs vp (sym e) s m (from s (weaker y ys s m))) in
    ap (λ z. z ∷ xs) e ∙ ap (λ zs. y ∷ zs) rest

img : ℕ → List Seg → List ℕ → Img
img entry segments input = record { entry = entry; segments = segments; input = input }

pub one_image : (file input : List ℕ) (i j : Img) → Loads file input i → Loads file input j → i ≡ j
unfolding img
one_image file input i j l m =
    let segments = same_segments i.segments j.segments l.ascending m.ascending
    (λ s c. (m.segments s).1 ((l.segments s).0 c))
    (λ s c. (l.segments s).1 ((m.segments s).0 c)) in
    ap (λ n. img n i.segments i.input) (l.entry ∙ sym m.entry) ∙ ap (λ xs. img j.entry xs i.input) segments ∙ ap (λ bs. img j.entry j.segments bs) (l.given ∙ sym m.given)

pub not_both : (file input : List ℕ) (i : Img) (e : ElfErr) → Loads file input i → Refused file e → ⊥
not_both file input i e l r = l.passes e r.fails

-- another input changes nothing else
pub other_input : (file input given : List ℕ) (i : Img) → Loads file given i → Loads file input (record i { input = input })
other_input file input given i l = record { passes = l.passes; entry = l.entry; segments = l.segments; ascending = l.ascending; given = refl }
