-- Lists of syntax with a mark between their parts.
use Rattle.std.proofs.Common.{◌≡◌, List, [], ◌∷◌, ◌++◌, refl, ap, sym, ◌∙◌, append_assoc}
use Rattle.pil_token.specs.declared.token.Mark.{Mark}
use Rattle.pil_token.specs.declared.token.Placed.{Placed}
use Rattle.pil_syntax.specs.Spelling.{mark, joined}
use Rattle.pil_syntax.specs.Grammar.{EachOf}

-- the tokens of each, with such a mark behind
abbrev pub followed : {A : Type 0} → Mark → (A → List Placed) → List A → List Placed
followed m f [] = []
followed m f (x ∷ xs) = f x ++ (mark m ∷ followed m f xs)

abbrev pub AllOf : {A : Type 0} → (A → Type 0) → List A → Type 0
AllOf P [] = Unit {0}
AllOf P (x ∷ xs) = P x × AllOf P xs

module _ {A : Type 0} (m : Mark) (f : A → List Placed) where
  pub joined-snoc : (xs : List A) (x : A) → joined m f (xs ++ x ∷ []) ≡ followed m f xs ++ f x
  joined-snoc [] x = refl
  joined-snoc (y ∷ []) x = sym (append_assoc (f y) (mark m ∷ []) (f x))
  joined-snoc (y ∷ z ∷ zs) x = ap (λ (us : List Placed). f y ++ (mark m ∷ us)) (joined-snoc (z ∷ zs) x) ∙ sym (append_assoc (f y) (mark m ∷ followed m f (z ∷ zs)) (f x))

  pub followed-joined : (x : A) (xs : List A) → followed m f (x ∷ xs) ≡ joined m f (x ∷ xs) ++ mark m ∷ []
  followed-joined x [] = refl
  followed-joined x (y ∷ ys) = ap (λ (us : List Placed). f x ++ (mark m ∷ us)) (followed-joined y ys) ∙ sym (append_assoc (f x) (mark m ∷ joined m f (y ∷ ys)) (mark m ∷ []))

  pub followed-snoc : (xs : List A) (x : A) → followed m f (xs ++ x ∷ []) ≡ followed m f xs ++ (f x ++ mark m ∷ [])
  followed-snoc [] x = refl
  followed-snoc (y ∷ ys) x = ap (λ (us : List Placed). f y ++ (mark m ∷ us)) (followed-snoc ys x) ∙ sym (append_assoc (f y) (mark m ∷ followed m f ys) (f x ++ mark m ∷ []))

module _ {A : Type 0} (P : A → Type 0) where
  pub each_snoc : (xs : List A) (x : A) → AllOf P xs → P x → EachOf P (xs ++ x ∷ [])
  each_snoc [] x a p = p
  each_snoc (y ∷ []) x a p = (a.0, p)
  each_snoc (y ∷ z ∷ zs) x a p = (a.0, each_snoc (z ∷ zs) x a.1 p)

  pub all_of_each : (xs : List A) → EachOf P xs → AllOf P xs
  all_of_each [] e = absurd e
  all_of_each (x ∷ []) e = (e, tt)
  all_of_each (x ∷ y ∷ ys) e = (e.0, all_of_each (y ∷ ys) e.1)

  pub all_snoc : (xs : List A) (x : A) → AllOf P xs → P x → AllOf P (xs ++ x ∷ [])
  all_snoc [] x a p = (p, tt)
  all_snoc (y ∷ ys) x a p = (a.0, all_snoc ys x a.1 p)
