-- Texts that are put together.
use Rattle.std.proofs.Common.{ℕ, zero, suc, ◌≡◌, ◌<◌, ◌+◌, List, [], ◌∷◌, ◌++◌, Bool, false, cond, nat_eq, length, map, take, get_or, append_assoc, refl, sym, ap, ◌∙◌, arith}
use Rattle.std.specs.Prelude.{flat_map}
use Rattle.std.proofs.lemmas.List.{append-nil, take_more, map-append}
use Rattle.std.proofs.lemmas.Grind.{common_steps}
use Rattle.pil_print.specs.Printed.{separated}

-- texts put behind one another
pub two : (t a b x y : List ℕ) → x ≡ t ++ a → y ≡ x ++ b → y ≡ t ++ (a ++ b)
two t a b x y p q = q ∙ ap (λ (s : List ℕ). s ++ b) p ∙ append_assoc t a b

pub put : (t a b d x y z : List ℕ) → x ≡ t ++ a → y ≡ x ++ b → z ≡ y ++ d → z ≡ t ++ (a ++ (b ++ d))
put t a b d x y z p q r = two t a (b ++ d) x z p (two x b d y z q r)

module _ {A : Type 0} (b : List ℕ) (f : A → List ℕ) where
  -- what stands before an element behind these
  before : List A → List ℕ
  before [] = []
  before (x ∷ xs) = b

  separated-snoc : (xs : List A) (y : A) → separated b f (xs ++ y ∷ []) ≡ separated b f xs ++ (before xs ++ f y)
  unfolding before
  separated-snoc [] y = refl
  separated-snoc (x ∷ []) y = refl
  separated-snoc (x ∷ z ∷ xs) y =
      ap (λ (s : List ℕ). f x ++ (b ++ s)) (separated-snoc (z ∷ xs) y)
      ∙ (ap (λ (s : List ℕ). f x ++ s) (sym (append_assoc b (separated b f (z ∷ xs)) (b ++ f y)))
      ∙ sym (append_assoc (f x) (b ++ separated b f (z ∷ xs)) (b ++ f y)))

-- one more element, twice mapped
pub separated-more : {X Y A : Type 0} (b : List ℕ) (f : A → List ℕ) (g : Y → A) (h : X → Y) (xs : List X) (i : ℕ) (x : X) (first : Bool) → i < length xs → x ≡ get_or xs i x → first ≡ nat_eq i 0
    → separated b f (map g (map h (take (i + 1) xs))) ≡ separated b f (map g (map h (take i xs))) ++ (cond first [] b ++ f (g (h x)))
unfolding before
separated-more {X = X} b f g h xs i x first l e t =
    ap (λ zs. separated b f (map g (map h zs))) (take_more xs i x l)
    ∙ (ap (λ zs. separated b f (map g zs)) (map-append h (take i xs) (get_or xs i x ∷ []))
    ∙ (ap (separated b f) (map-append g (map h (take i xs)) (h (get_or xs i x) ∷ []))
    ∙ (separated-snoc b f (map g (map h (take i xs))) (g (h (get_or xs i x)))
    ∙ (ap (λ z. separated b f (map g (map h (take i xs))) ++ (before b f (map g (map h (take i xs))) ++ f (g (h z)))) (sym e)
    ∙ ap (λ (s : List ℕ). separated b f (map g (map h (take i xs))) ++ (s ++ f (g (h x)))) (starts xs i l ∙ ap (λ c. cond c [] b) (sym t))))))
  where
    starts : (ys : List X) (k : ℕ) → k < length ys → before b f (map g (map h (take k ys))) ≡ cond (nat_eq k 0) [] b
    starts [] k l = absurd (omega arith)
    starts (y ∷ ys) zero l = refl
    starts (y ∷ ys) (suc k) l = let e : false ≡ nat_eq (suc k) 0 = grind (arith, common_steps) in ap (λ c. cond c [] b) e

pub flat-more : {X Y A Z : Type 0} (f : A → List Z) (g : Y → A) (h : X → Y) (xs : List X) (i : ℕ) (x : X) → i < length xs → x ≡ get_or xs i x
    → flat_map f (map g (map h (take (i + 1) xs))) ≡ flat_map f (map g (map h (take i xs))) ++ f (g (h x))
flat-more f g h [] i x l e = absurd (omega arith)
flat-more f g h (y ∷ ys) zero x l e = append-nil (f (g (h y))) ∙ ap (λ z. f (g (h z))) (sym e)
flat-more f g h (y ∷ ys) (suc i) x l e =
    let one : suc i + 1 ≡ suc (i + 1) = omega arith in
    ap (λ k. flat_map f (map g (map h (take k (y ∷ ys))))) one
    ∙ (ap (λ s. f (g (h y)) ++ s) (flat-more f g h ys i x (omega arith) e) ∙ sym (append_assoc (f (g (h y))) (flat_map f (map g (map h (take i ys)))) (f (g (h x)))))

pub flat-one-more : {X Y Z : Type 0} (f : Y → List Z) (h : X → Y) (xs : List X) (i : ℕ) (x : X) → i < length xs → x ≡ get_or xs i x
    → flat_map f (map h (take (i + 1) xs)) ≡ flat_map f (map h (take i xs)) ++ f (h x)
flat-one-more f h [] i x l e = absurd (omega arith)
flat-one-more f h (y ∷ ys) zero x l e = append-nil (f (h y)) ∙ ap (λ z. f (h z)) (sym e)
flat-one-more f h (y ∷ ys) (suc i) x l e =
    let one : suc i + 1 ≡ suc (i + 1) = omega arith in
    ap (λ k. flat_map f (map h (take k (y ∷ ys)))) one
    ∙ (ap (λ s. f (h y) ++ s) (flat-one-more f h ys i x (omega arith) e) ∙ sym (append_assoc (f (h y)) (flat_map f (map h (take i ys))) (f (h x))))
