-- The maps of the polynomials of the namespaces so far.
use Rattle.std.proofs.Common.{◌≡◌, ◌<◌, ◌∙◌, refl, sym, ap, subst, ℕ, zero, suc, ◌+◌, List, [], ◌∷◌, ◌++◌, map, drop, drop-cons, add-one, length, length-append, get_or, slice_get, arith}
use Rattle.std.specs.Prelude.{Option, Some, flat_map}
use Rattle.std.proofs.lemmas.List.{length-map}
use Rattle.pil_names.specs.declared.names.Names.{Names}
use Rattle.pil_names.specs.declared.outline.Home as H
use Rattle.pil_names.specs.Outline.{Home, home_at}
use Rattle.pil_names.specs.Finding.{polynomial_entries}
use Rattle.pil_names.specs.Least.{least, lesser}
use Rattle.pil_names.specs.Directory.{Lists}
use Rattle.pil_names.specs.Shown.{draft, home}
use Rattle.pil_names.proofs.Leasts.{least-append, lesser_assoc}

-- maps of the polynomials of the first n namespaces
pub record ListsFirst (ns : List Names) (hs : List Home) (n : ℕ) : Type 0 where
  pub spaces : length ns ≡ n
  pub polynomials : (s : ℕ) (names : Names) → slice_get ns s ≡ Some names → Lists names (polynomial_entries (home_at hs s))

pub home_at-there : (hs : List H.Home) (s : ℕ) (d : H.Home) → s < length hs → home_at (map home hs) s ≡ home (get_or hs s d)
home_at-there [] s d h = absurd (omega arith)
home_at-there (y ∷ hs) zero d h = refl
home_at-there (y ∷ hs) (suc s) d h = home_at-there hs s d (omega arith)

-- what holds of each of a list, and of one more at the end
pushed : {A : Type 0} (P : ℕ → A → Type 0) (xs : List A) (x : A) → ((s : ℕ) (y : A) → slice_get xs s ≡ Some y → P s y) → P (length xs) x → (s : ℕ) (y : A) → slice_get (xs ++ x ∷ []) s ≡ Some y → P s y
pushed P [] x all last zero y e = let same : x ≡ y = cc in subst (P 0) same last
pushed P [] x all last (suc s) y e = cc
pushed P (z ∷ xs) x all last zero y e = all 0 y e
pushed P (z ∷ xs) x all last (suc s) y e = pushed (λ k. P (suc k)) xs x (λ k. all (suc k)) last s y e

pub ListsFirst-push : (ns : List Names) (x : Names) (hs : List Home) (n : ℕ) → ListsFirst ns hs n → Lists x (polynomial_entries (home_at hs n)) → ListsFirst (ns ++ x ∷ []) hs (n + 1)
ListsFirst-push ns x hs n h l = record {
  spaces = omega (arith, h.spaces, length-append ns (x ∷ []));
  polynomials = pushed (λ s names. Lists names (polynomial_entries (home_at hs s))) ns x h.polynomials (subst (λ k. Lists x (polynomial_entries (home_at hs k))) (sym h.spaces) l);
}

-- the least place with one namespace more
pub least-drop : (f : Home → List ℕ) (hs : List H.Home) (i : ℕ) (d : H.Home) (o w a : Option ℕ) → i < length hs → a ≡ least (f (home (get_or hs i d))) → lesser o (least (flat_map f (map home (drop i hs)))) ≡ w → lesser (lesser o a) (least (flat_map f (map home (drop (i + 1) hs)))) ≡ w
least-drop f hs i d o w a h e was =
    let rest = flat_map f (map home (drop (suc i) hs)) in
    let step : drop i hs ≡ get_or hs i d ∷ drop (suc i) hs = drop-cons hs i d h in
    rw
    add-one
    (lesser_assoc o a (least rest)
    ∙ ap (λ b. lesser o (lesser b (least rest))) e
    ∙ ap (lesser o) (sym (least-append (f (home (get_or hs i d))) rest))
    ∙ ap (λ l. lesser o (least (flat_map f (map home l)))) (sym step)
    ∙ was)

-- how many items the namespace x with number s has
pub items-there : (hs : List H.Home) (s : ℕ) (d x : H.Home) → s < length hs → x ≡ get_or hs s d → length (home_at (map home hs) s).items ≡ length x.items
items-there hs s d x h e = ap (λ y. length y.items) (home_at-there hs s d h) ∙ ap (λ y. length (map draft y.items)) (sym e) ∙ length-map x.items draft

-- a bound on the items of each namespace that is there is one of each number
pub items-all : (hs : List H.Home) (b : ℕ) → 0 < b → ((s : ℕ) → s < length hs → length (home_at (map home hs) s).items < b) → (s : ℕ) → length (home_at (map home hs) s).items < b
items-all [] b z h s = z
items-all (y ∷ hs) b z h zero = h 0 (omega arith)
items-all (y ∷ hs) b z h (suc s) = items-all hs b z (λ k w. h (suc k) (omega arith)) s
