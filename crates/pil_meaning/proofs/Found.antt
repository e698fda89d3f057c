-- What a name that is found stands for.
use Rattle.std.proofs.Common.{ℕ, zero, suc, ◌≡◌, ◌<◌, ◌+◌, List, [], ◌∷◌, length, map, Bool, true, false, Option, Some, None, arith}
use Rattle.std.specs.Prelude.{bytes_eq, if◌then◌else◌}
use Rattle.std.proofs.lemmas.List.{length-map}
use Rattle.pil_syntax.specs.declared.tree.Ident.{Ident}
use Rattle.pil_names.specs.Outline.{Draft, column, defined, published, equal, inside, against, Outline, draft_at}
use Rattle.pil_names.specs.Finding.{found, numbered, polynomials_from, home_named}

pub found_below : (x : List ℕ) (n : ℕ) (xs : List Ident) (k : ℕ) → found x (numbered n xs) ≡ Some k → k < n + length xs
found_below x n [] k e = let no : ⊥ = cc in absurd no
found_below x n (y ∷ ys) k e = test (bytes_eq y.name x) (found_below x (n + 1) ys k) e
  where
    test : (b : Bool) → (found x (numbered (n + 1) ys) ≡ Some k → k < n + 1 + length ys) → (if b then Some n else found x (numbered (n + 1) ys)) ≡ Some k → k < n + length (y ∷ ys)
    test true ih e = let same : n ≡ k = cc in omega arith
    test false ih e = omega (arith, ih e)

abbrev pub IsPolynomial : Draft → Type 0
IsPolynomial (column c d) = Unit {0}
IsPolynomial (defined x e) = Unit {0}
IsPolynomial _ = ⊥

-- the k-th of the items from number n on is a polynomial
pub record IsPolynomialAt (ds : List Draft) (n k : ℕ) : Type 0 where
  pub place : ℕ
  pub is : k ≡ n + place
  pub within : place < length ds
  pub polynomial : IsPolynomial (draft_at ds place)

later : (d : Draft) (ds : List Draft) (n k : ℕ) → IsPolynomialAt ds (n + 1) k → IsPolynomialAt (d ∷ ds) n k
later d ds n k w = record { place = suc w.place; is = omega (arith, w.is); within = omega (arith, w.within); polynomial = w.polynomial }

here : (d : Draft) (ds : List Draft) (n k : ℕ) → IsPolynomial d → n ≡ k → IsPolynomialAt (d ∷ ds) n k
here d ds n k p same = record { place = zero; is = omega arith; within = omega arith; polynomial = p }

step : (d : Draft) (ds : List Draft) (n k : ℕ) (x : List ℕ) (b : Bool) → IsPolynomial d → (found x (polynomials_from (n + 1) ds) ≡ Some k → IsPolynomialAt ds (n + 1) k) → (if b then Some n else found x (polynomials_from (n + 1) ds)) ≡ Some k → IsPolynomialAt (d ∷ ds) n k
step d ds n k x true p ih e = here d ds n k p (let same : n ≡ k = cc in same)
step d ds n k x false p ih e = later d ds n k (ih e)

pub found_polynomial : (x : List ℕ) (n : ℕ) (ds : List Draft) (k : ℕ) → found x (polynomials_from n ds) ≡ Some k → IsPolynomialAt ds n k
found_polynomial x n [] k e = let no : ⊥ = cc in absurd no
found_polynomial x n (column c d ∷ ds) k e = step (column c d) ds n k x (bytes_eq d.name.name x) tt (found_polynomial x (n + 1) ds k) e
found_polynomial x n (defined y t ∷ ds) k e = step (defined y t) ds n k x (bytes_eq y.name x) tt (found_polynomial x (n + 1) ds k) e
found_polynomial x n (published y r m ∷ ds) k e = later (published y r m) ds n k (found_polynomial x (n + 1) ds k e)
found_polynomial x n (equal a b ∷ ds) k e = later (equal a b) ds n k (found_polynomial x (n + 1) ds k e)
found_polynomial x n (inside a b ∷ ds) k e = later (inside a b) ds n k (found_polynomial x (n + 1) ds k e)
found_polynomial x n (against ls rs ∷ ds) k e = later (against ls rs) ds n k (found_polynomial x (n + 1) ds k e)

-- a namespace that is named is one of the text
pub home_below : (o : Outline) (s : ℕ) (space : Option Ident) (j : ℕ) → s < length o.homes → home_named o s space ≡ Some j → j < length o.homes
home_below o s None j l e = let same : s ≡ j = cc in omega arith
home_below o s (Some x) j l e = omega (arith, found_below x.name 0 (map (λ h. h.name) o.homes) j e, length-map o.homes (λ h. h.name))
