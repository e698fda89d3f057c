-- What a loop over a list finds, where the list is read through a function h.
use Rattle.std.proofs.Common.{ℕ, ◌+◌, ◌<◌, ◌≡◌, List, [], ◌∷◌, ◌++◌, length, get_or, take, map, flat_map, sym, ap, subst, ◌∙◌, arith, All}
use Rattle.std.proofs.lemmas.List.Elements.{All-get_or}
use Rattle.std.proofs.lemmas.List.{get_or-map, length-map, map-append, map_more, take-map, flat_map_more}

module _ {X Y : Type 0} (h : X → Y) (xs : List X) (i : ℕ) (x : X) (inside : i < length xs) (is : x ≡ get_or xs i x) where
  -- the element at the place of the loop
  pub mapped-here : (d : Y) → get_or (map h xs) i d ≡ h x
  mapped-here d = get_or-map h xs i x d inside ∙ ap h (sym is)

  -- one more element
  pub mapped-more : take (i + 1) (map h xs) ≡ take i (map h xs) ++ h x ∷ []
  mapped-more =
      take-map h (i + 1) xs ∙ map_more h xs i x inside ∙ ap (λ l. l ++ h (get_or xs i x) ∷ []) (sym (take-map h i xs)) ∙ ap (λ y. take i (map h xs) ++ h y ∷ []) (sym is)

  -- one more value
  pub values-more : {Z : Type 0} (f : Y → Z) (vs ws : List Z) (v : Z) → vs ≡ map f (take i (map h xs)) → v ≡ f (h x) → ws ≡ vs ++ v ∷ [] → ws ≡ map f (take (i + 1) (map h xs))
  values-more f vs ws v e r w =
      w ∙ ap (λ l. l ++ v ∷ []) e ∙ ap (λ y. map f (take i (map h xs)) ++ y ∷ []) r ∙ sym (map-append f (take i (map h xs)) (h x ∷ [])) ∙ ap (map f) (sym mapped-more)

  -- what one more element gives
  pub pieces-more : {Z : Type 0} (f : Y → List Z) (bs ts us : List Z) → ts ≡ bs ++ flat_map f (take i (map h xs)) → us ≡ ts ++ f (h x) → us ≡ bs ++ flat_map f (take (i + 1) (map h xs))
  pieces-more f bs ts us e w = w ∙ ap (λ l. l ++ f (h x)) e ∙ flat_map_more f bs (take i (map h xs)) (h x) ∙ ap (λ l. bs ++ flat_map f l) (sym mapped-more)

-- a fact of each element, at the place of the loop
pub mapped-at : {X Y : Type 0} (h : X → Y) (P : Y → Type 0) (xs : List X) (i : ℕ) (x : X) → i < length xs → x ≡ get_or xs i x → All P (map h xs) → P (h x)
mapped-at h P xs i x l is all =
    let long = length-map xs h in
    subst P (mapped-here h xs i x l is (h x)) (All-get_or P (map h xs) i (h x) (omega arith) all)
