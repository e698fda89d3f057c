-- Joined lists that are empty, and what is wrong nowhere in a text.
use Rattle.std.proofs.Common.{ℕ, zero, suc, ◌≡◌, ◌<◌, ◌+◌, List, [], ◌∷◌, ◌++◌, length, All, Option, refl, ap, subst, ◌∙◌, arith}
use Rattle.std.specs.List.{flat_map}
use Rattle.std.proofs.lemmas.List.Elements.{All-nil, All-cons, All-head, All-tail}
use Rattle.pil_ast.specs.Term.{Term, Tuples}
use Rattle.pil_names.specs.Outline.{Draft, Home, Outline, home_at}
use Rattle.pil_names.specs.Wrongs.{each_from, each_item}

pub left_nil : {X : Type 0} (xs ys : List X) → xs ++ ys ≡ [] → xs ≡ []
left_nil [] ys e = refl
left_nil (x ∷ xs) ys e = let n : ⊥ = cc in absurd n

pub right_nil : {X : Type 0} (xs ys : List X) → xs ++ ys ≡ [] → ys ≡ []
right_nil [] ys e = e
right_nil (x ∷ xs) ys e = let n : ⊥ = cc in absurd n

pub all_nil : {X : Type 0} (f : X → List ℕ) (xs : List X) → flat_map f xs ≡ [] → All (λ x. f x ≡ []) xs
all_nil f [] e = All-nil (λ x. f x ≡ [])
all_nil f (x ∷ xs) e = All-cons (λ x. f x ≡ []) x xs (left_nil (f x) (flat_map f xs) e) (all_nil f xs (right_nil (f x) (flat_map f xs) e))

each_home : (f : ℕ → Home → List ℕ) (n : ℕ) (hs : List Home) (s : ℕ) → each_from f n hs ≡ [] → s < length hs → f (n + s) (home_at hs s) ≡ []
each_home f n [] s e l = absurd (omega arith)
each_home f n (h ∷ hs) zero e l = let z : n ≡ n + 0 = omega arith in subst (λ k. f k h ≡ []) z (left_nil (f n h) (each_from f (n + 1) hs) e)
each_home f n (h ∷ hs) (suc s) e l =
    let z : n + 1 + s ≡ n + suc s = omega arith in
    subst (λ k. f k (home_at hs s) ≡ []) z (each_home f (n + 1) hs s (right_nil (f n h) (each_from f (n + 1) hs) e) (omega arith))

-- what is wrong in no item of a text is wrong in none of a namespace
pub each_draft : (f : ℕ → Draft → List ℕ) (o : Outline) (s : ℕ) → each_item f o ≡ [] → s < length o.homes → All (λ d. f s d ≡ []) (home_at o.homes s).items
each_draft f o s e l =
    let z : 0 + s ≡ s = omega arith in
    all_nil (f s) (home_at o.homes s).items (subst (λ k. flat_map (f k) (home_at o.homes s).items ≡ []) z (each_home (λ s h. flat_map (f s) h.items) 0 o.homes s e l))

pub home_all : (P : Home → Type 0) (hs : List Home) (s : ℕ) → All P hs → s < length hs → P (home_at hs s)
home_all P [] s a l = absurd (omega arith)
home_all P (h ∷ hs) zero a l = All-head P h hs a
home_all P (h ∷ hs) (suc s) a l = home_all P hs s (All-tail P h hs a) (omega arith)

pub same-tuples : (s t : ℕ) (x y : Option Term) (es fs : List Term) → s ≡ t → x ≡ y → es ≡ fs → (let a : Tuples = record { space = s; sel = x; terms = es } in a) ≡ (let b : Tuples = record { space = t; sel = y; terms = fs } in b)
same-tuples s t x y es fs p q r =
    ap (λ n. let a : Tuples = record { space = n; sel = x; terms = es } in a) p
    ∙ ap (λ z. let a : Tuples = record { space = t; sel = z; terms = es } in a) q
    ∙ ap (λ gs. let a : Tuples = record { space = t; sel = y; terms = gs } in a) r
