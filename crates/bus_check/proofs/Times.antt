-- The tuples that vectors hold.
use Rattle.std.proofs.Common.{ℕ, ◌≡◌, ◌≢◌, Bool, true, false, not, List, length, sym, ap, ◌∙◌, refl}
use Rattle.std.specs.List.Sorted.{IsPermutation}
use Rattle.std.specs.Str.{bytes_eq}
use Rattle.std.specs.Global.{Vec}
use Rattle.std.proofs.lemmas.List.{length-map}
use Rattle.std.proofs.lemmas.List.Sorted.{IsPermutation-map}
use Rattle.std.proofs.lemmas.Slice.Eq.{bytes_eq-Decides}
use Rattle.std.proofs.lemmas.Bool.{true≢false}
use Rattle.pil_ast.specs.Holds.{times}
use Rattle.pil_laws.proofs.Times.{often_from_permutation}
use Rattle.bus_check.specs.Bus.{numbers}

-- vectors in another order
pub times-sorted : (xs ys : List (Vec ℕ)) → IsPermutation xs ys → (t : List ℕ) → times t (numbers ys) ≡ times t (numbers xs)
times-sorted xs ys h t = sym (often_from_permutation (numbers xs) (numbers ys) (IsPermutation-map _ xs ys h) t)

pub numbers-long : (vs : List (Vec ℕ)) → length (numbers vs) ≡ length vs
numbers-long vs = length-map vs (λ v. v.items)

-- what a test by `!=` says
pub unlike : (x y : List ℕ) (b : Bool) → b ≡ not (bytes_eq x y) → b ≡ true → x ≢ y
unlike x y b e t q = true≢false (sym t ∙ e ∙ ap not ((bytes_eq-Decides x y).1 q))

pub alike : (x y : List ℕ) (b : Bool) → b ≡ not (bytes_eq x y) → b ≡ false → x ≡ y
alike x y b e f = (bytes_eq-Decides x y).0 (turned_true (bytes_eq x y) (sym e ∙ f))
  where
    turned_true : (b : Bool) → not b ≡ false → b ≡ true
    turned_true true e = refl
    turned_true false e = absurd (true≢false e)
