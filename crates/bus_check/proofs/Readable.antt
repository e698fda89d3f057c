-- The small texts of the tests can be read.
use Rattle.std.proofs.Common.{ℕ, zero, suc, ◌<◌, ◌≡◌, false, List, [], ◌∷◌, ◌++◌, None, map, refl, ap, ◌∙◌, arith, All}
use Rattle.std.proofs.lemmas.List.Elements.{All-nil, All-cons}
use Rattle.pil_ast.specs.Term.{Line, col, commit, inter_at, space_at}
use Rattle.pil_ast.specs.Sound.{IsItem, IsList, IsSpace, IsSound, IsTerm, NamesOnly}
use Rattle.bus_check.specs.Small.{small_left, small_right, small_is, small_in, small_items, small_text}

all-one : {X : Type 0} (P : X → Type 0) (x : X) → P x → All P (x ∷ [])
all-one P x h = All-cons P x [] h (All-nil P)

all-four : (P : Line → Type 0) (l : Line) → P (commit [] None) → P l → All P (small_items l)
all-four P l c h =
    All-cons P (commit [] None) (commit [] None ∷ commit [] None ∷ l ∷ []) c
    (All-cons P (commit [] None) (commit [] None ∷ l ∷ []) c (All-cons P (commit [] None) (l ∷ []) c (all-one P l h)))

falling-is : (k : ℕ) → NamesOnly (λ j. 0 < 0) (inter_at (small_items small_is) k)
falling-is zero = tt
falling-is (suc zero) = tt
falling-is (suc (suc zero)) = tt
falling-is (suc (suc (suc zero))) = tt
falling-is (suc (suc (suc (suc k)))) = tt

falling-in : (k : ℕ) → NamesOnly (λ j. 0 < 0) (inter_at (small_items small_in) k)
falling-in zero = tt
falling-in (suc zero) = tt
falling-in (suc (suc zero)) = tt
falling-in (suc (suc (suc zero))) = tt
falling-in (suc (suc (suc (suc k)))) = tt

left-is : IsList (small_text small_is) 1 small_left
left-is = record { space = omega arith; sel = (refl, omega arith); terms = all-one (IsTerm (small_text small_is) 0) (col 0 0 false) (refl, omega arith); many = refl }

right-is : IsList (small_text small_is) 1 small_right
right-is = record { space = omega arith; sel = tt; terms = all-one (IsTerm (small_text small_is) 0) (col 0 1 false) (refl, omega arith); many = refl }

left-in : IsList (small_text small_in) 1 small_left
left-in = record { space = omega arith; sel = (refl, omega arith); terms = all-one (IsTerm (small_text small_in) 0) (col 0 0 false) (refl, omega arith); many = refl }

right-in : IsList (small_text small_in) 1 small_right
right-in = record { space = omega arith; sel = tt; terms = all-one (IsTerm (small_text small_in) 0) (col 0 1 false) (refl, omega arith); many = refl }

space-is : (s : ℕ) → s < 1 → IsSpace (small_text small_is) s (space_at (small_text small_is) s)
space-is zero h = record {
  some_rows = omega arith;
  few_rows = omega arith;
  items = all-four (IsItem (small_text small_is) 0) small_is tt (1, omega arith, omega arith, omega arith, all-one (IsList (small_text small_is) 1) small_left left-is, all-one (IsList (small_text small_is) 1) small_right right-is);
  acyclic = ((λ k. 0), record { bounded = λ k. omega arith; falling = falling-is });
}
space-is (suc s) h = absurd (omega arith)

space-in : (s : ℕ) → s < 1 → IsSpace (small_text small_in) s (space_at (small_text small_in) s)
space-in zero h = record {
  some_rows = omega arith;
  few_rows = omega arith;
  items = all-four (IsItem (small_text small_in) 0) small_in tt (1, omega arith, left-in, right-in);
  acyclic = ((λ k. 0), record { bounded = λ k. omega arith; falling = falling-in });
}
space-in (suc s) h = absurd (omega arith)

pub sound-is : IsSound (small_text small_is)
sound-is = record { spaces = space-is; signs = omega arith }

pub sound-in : IsSound (small_text small_in)
sound-in = record { spaces = space-in; signs = omega arith }

-- four items, put one after the other
pub four : {X Y : Type 0} (h : X → Y) (s0 s1 s2 s3 s4 : List X) (a b c d : X) → s0 ≡ [] → s1 ≡ s0 ++ a ∷ [] → s2 ≡ s1 ++ b ∷ [] → s3 ≡ s2 ++ c ∷ [] → s4 ≡ s3 ++ d ∷ [] → map h s4 ≡ h a ∷ h b ∷ h c ∷ h d ∷ []
four h s0 s1 s2 s3 s4 a b c d e0 e1 e2 e3 e4 =
    ap (map h) e4 ∙ ap (λ s. map h (s ++ d ∷ [])) e3 ∙ ap (λ s. map h ((s ++ c ∷ []) ++ d ∷ [])) e2 ∙ ap (λ s. map h (((s ++ b ∷ []) ++ c ∷ []) ++ d ∷ [])) e1 ∙ ap (λ s. map h ((((s ++ a ∷ []) ++ b ∷ []) ++ c ∷ []) ++ d ∷ [])) e0

pub same_items : (a b c l : Line) → a ≡ commit [] None → b ≡ commit [] None → c ≡ commit [] None → a ∷ b ∷ c ∷ l ∷ [] ≡ small_items l
same_items a b c l e f g = ap (λ x. x ∷ b ∷ c ∷ l ∷ []) e ∙ ap (λ x. commit [] None ∷ x ∷ c ∷ l ∷ []) f ∙ ap (λ x. commit [] None ∷ commit [] None ∷ x ∷ l ∷ []) g
