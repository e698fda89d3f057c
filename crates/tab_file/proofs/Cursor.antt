-- The instances that are still to come.
use Rattle.std.proofs.Common.{◌≡◌, ℕ, zero, suc, ◌+◌, ◌-◌, ◌≤◌, ◌<◌, List, [], ◌∷◌, ◌++◌, length, drop, get_or, refl, sym, ap, ◌∙◌, arith}
use Rattle.std.proofs.lemmas.List.{drop_more, drop_all}
use Rattle.gold.specs.declared.shapes.AirShape.{AirShape}
use Rattle.gold.specs.Shapes.{Place, instances_from, places_from}
use Rattle.tab_file.specs.Steps.{place}
use Rattle.tab_file.specs.Parts.{left_of}
use Rattle.tab_file.proofs.Places.{no_form, instances_from-more, instances_from-none}

pub left_of-start : (fs : List AirShape) (cs : List ℕ) (a : ℕ) → left_of fs cs a 0 ≡ places_from a fs cs
left_of-start [] cs a = refl
left_of-start (f ∷ fs) [] a = refl
left_of-start (f ∷ fs) (c ∷ cs) a =
    let z : c - 0 ≡ c = omega arith in
    rw z refl

pub left_of-here : (fs : List AirShape) (cs : List ℕ) (a i : ℕ) → a < length fs → a < length cs
    → left_of (drop a fs) (drop a cs) a i ≡ instances_from a (get_or fs a no_form) i (get_or cs a 0 - i) ++ places_from (suc a) (drop (a + 1) fs) (drop (a + 1) cs)
left_of-here fs cs a i h k = rw (drop_more fs a no_form h, drop_more cs a 0 k) refl

-- past the air's last instance
pub left_of-next_air : (fs : List AirShape) (cs : List ℕ) (a i : ℕ) → a < length fs → a < length cs → get_or cs a 0 ≤ i
    → left_of (drop (a + 1) fs) (drop (a + 1) cs) (a + 1) 0 ≡ left_of (drop a fs) (drop a cs) a i
left_of-next_air fs cs a i h k le =
    let s : suc a ≡ a + 1 = omega arith in
    left_of-start (drop (a + 1) fs) (drop (a + 1) cs) (a + 1)
    ∙ sym (left_of-here fs cs a i h k ∙ rw (instances_from-none a (get_or fs a no_form) i (get_or cs a 0) le, s) refl)

pub left_of-next : (fs : List AirShape) (cs : List ℕ) (a i : ℕ) → a < length fs → a < length cs → i < get_or cs a 0
    → left_of (drop a fs) (drop a cs) a i ≡ place a (get_or fs a no_form) i ∷ left_of (drop a fs) (drop a cs) a (i + 1)
left_of-next fs cs a i h k lt =
    left_of-here fs cs a i h k
    ∙ ap (λ (ps : List Place). ps ++ places_from (suc a) (drop (a + 1) fs) (drop (a + 1) cs)) (instances_from-more a (get_or fs a no_form) i (get_or cs a 0) lt)
    ∙ ap (λ (ps : List Place). place a (get_or fs a no_form) i ∷ ps) (sym (left_of-here fs cs a (i + 1) h k))

pub left_of-none : (fs : List AirShape) (cs : List ℕ) (a i : ℕ) → length fs ≤ a → left_of (drop a fs) (drop a cs) a i ≡ []
left_of-none fs cs a i le = rw (drop_all a fs le) refl

left_nil : (fs : List AirShape) (a i : ℕ) → left_of fs [] a i ≡ []
left_nil [] a i = refl
left_nil (f ∷ fs) a i = refl

pub left_of-none_counted : (fs : List AirShape) (cs : List ℕ) (a i : ℕ) → length cs ≤ a → left_of (drop a fs) (drop a cs) a i ≡ []
left_of-none_counted fs cs a i le = ap (λ (ds : List ℕ). left_of (drop a fs) ds a i) (drop_all a cs le) ∙ left_nil (drop a fs) a i
