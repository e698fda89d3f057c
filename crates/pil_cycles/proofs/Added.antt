-- Users that are added.
use Rattle.std.proofs.Common.{ℕ, zero, suc, ◌≡◌, ◌≢◌, ◌<◌, ◌≤◌, ◌+◌, ◌↔◌, All, ◌⊎◌, inl, inr, List, [], ◌∷◌, ◌++◌, length, get_or, set, refl, sym, ◌∙◌, ap, subst, arith, replicate, Contains, length-set, get_or-set_same, get_or-set_other}
use Rattle.std.proofs.lemmas.Bool.{cases_eq}
use Rattle.std.proofs.lemmas.List.Elements.{Contains-append_left, Contains-append_right, Contains-append_cases, Contains-push, Contains-push_cases, Contains-get_or}
use Rattle.std.proofs.lemmas.List.{length-replicate}
use Rattle.pil_ast.specs.Term.{Term, num, col, mid, public, opp, ◌⊕◌, ◌⊖◌, ◌⊗◌, Line, inter_at}
use Rattle.pil_ast.specs.Sound.{Names}
use Rattle.pil_cycles.specs.Users.{Uses, AreUsers, AddsUser, named}
use Rattle.pil_ast.specs.Order.{NamesInside}
use Rattle.pil_cycles.proofs.Lists.{nothing_in, get_or-default}
use Rattle.pil_cycles.proofs.Parts.{named_one, naming_inside}

-- the list of what a term names has that and no other
pub named_is : (e : Term) (j : ℕ) → Contains (named e) j → Names e j
named_is (num n) j h = nothing_in j h
named_is (col s k b) j h = nothing_in j h
named_is (mid s k b) j h = elim (Contains-push_cases [] k j h) as (λ u. k ≡ j) [ inl c ↦ absurd (nothing_in j c) | inr c ↦ c ]
named_is (public k) j h = nothing_in j h
named_is (opp a) j h = named_is a j h
named_is (a ⊕ b) j h = elim (Contains-append_cases (named a) (named b) j h) as (λ u. Names a j ⊎ Names b j) [ inl c ↦ inl (named_is a j c) | inr c ↦ inr (named_is b j c) ]
named_is (a ⊖ b) j h = elim (Contains-append_cases (named a) (named b) j h) as (λ u. Names a j ⊎ Names b j) [ inl c ↦ inl (named_is a j c) | inr c ↦ inr (named_is b j c) ]
named_is (a ⊗ b) j h = elim (Contains-append_cases (named a) (named b) j h) as (λ u. Names a j ⊎ Names b j) [ inl c ↦ inl (named_is a j c) | inr c ↦ inr (named_is b j c) ]

pub named_has : (e : Term) (j : ℕ) → Names e j → Contains (named e) j
named_has (num n) j h = absurd h
named_has (col s k b) j h = absurd h
named_has (mid s k b) j h = subst (λ x. Contains (k ∷ []) x) h (Contains-push [] k)
named_has (public k) j h = absurd h
named_has (opp a) j h = named_has a j h
named_has (a ⊕ b) j h = elim h as (λ u. Contains (named a ++ named b) j) [ inl c ↦ Contains-append_left (named a) (named b) j (named_has a j c) | inr c ↦ Contains-append_right (named a) (named b) j (named_has b j c) ]
named_has (a ⊖ b) j h = elim h as (λ u. Contains (named a ++ named b) j) [ inl c ↦ Contains-append_left (named a) (named b) j (named_has a j c) | inr c ↦ Contains-append_right (named a) (named b) j (named_has b j c) ]
named_has (a ⊗ b) j h = elim h as (λ u. Contains (named a ++ named b) j) [ inl c ↦ Contains-append_left (named a) (named b) j (named_has a j c) | inr c ↦ Contains-append_right (named a) (named b) j (named_has b j c) ]

-- the users before any is added
pub adds_none : (users : List (List ℕ)) (user : ℕ) → AddsUser [] user users users
adds_none users user = record {
  long = refl;
  those = λ a b. (λ on. inl on, λ w. elim w as (λ u. Uses users a b) [ inl on ↦ on | inr n ↦ absurd (nothing_in b n.1) ]);
}

-- one more item gets the user
pub adds_more : (names : List ℕ) (user : ℕ) (old users : List (List ℕ)) (item : ℕ) (was more : List ℕ) → AddsUser names user old users → item < length users → was ≡ get_or users item was → more ≡ was ++ user ∷ [] → AddsUser (names ++ item ∷ []) user old (set users item more)
adds_more names user old users item was more h fits at pushed = record {
  long = length-set users _ _ ∙ h.long;
  those = λ a b. (forth a b, back a b);
}
  where
    here : get_or (set users item more) item [] ≡ get_or users item [] ++ user ∷ []
    here = get_or-set_same users item more [] fits ∙ pushed ∙ ap (λ l. l ++ user ∷ []) (at ∙ get_or-default users item was [] fits)

    there : (b : ℕ) → b ≢ item → get_or (set users item more) b [] ≡ get_or users b []
    there b ne = get_or-set_other users item b more [] ne

    before : (a b : ℕ) → Uses users a b → Uses old a b ⊎ ((a ≡ user) × Contains (names ++ item ∷ []) b)
    before a b on = elim ((h.those a b).0 on) as (λ u. Uses old a b ⊎ ((a ≡ user) × Contains (names ++ item ∷ []) b)) [
      | inl x ↦ inl x
      | inr w ↦ inr (w.0, Contains-append_left names (item ∷ []) b w.1)
    ]

    forth : (a b : ℕ) → Uses (set users item more) a b → Uses old a b ⊎ ((a ≡ user) × Contains (names ++ item ∷ []) b)
    forth a b on = elim (cases_eq b item) as (λ u. Uses old a b ⊎ ((a ≡ user) × Contains (names ++ item ∷ []) b)) [
      | inl e ↦ elim (Contains-push_cases (get_or users item []) user a (subst (λ s. Contains s a) here (subst (λ i. Contains (get_or (set users item more) i []) a) e on))) as (λ u. Uses old a b ⊎ ((a ≡ user) × Contains (names ++ item ∷ []) b)) [
        | inl c ↦ before a b (subst (λ i. Contains (get_or users i []) a) (sym e) c)
        | inr c ↦ inr (sym c, subst (λ x. Contains (names ++ item ∷ []) x) (sym e) (Contains-push names item))
      ]
      | inr ne ↦ before a b (subst (λ s. Contains s a) (there b ne) on)
    ]

    kept : (a b : ℕ) → Uses users a b → Uses (set users item more) a b
    kept a b on = elim (cases_eq b item) as (λ u. Uses (set users item more) a b) [
      | inl e ↦ subst (λ i. Contains (get_or (set users item more) i []) a) (sym e) (subst (λ s. Contains s a) (sym here) (Contains-append_left (get_or users item []) (user ∷ []) a (subst (λ i. Contains (get_or users i []) a) e on)))
      | inr ne ↦ subst (λ s. Contains s a) (sym (there b ne)) on
    ]

    back : (a b : ℕ) → Uses old a b ⊎ ((a ≡ user) × Contains (names ++ item ∷ []) b) → Uses (set users item more) a b
    back a b (inl on) = kept a b ((h.those a b).1 (inl on))
    back a b (inr w) = elim (Contains-push_cases names item b w.1) as (λ u. Uses (set users item more) a b) [
      | inl c ↦ kept a b ((h.those a b).1 (inr (w.0, c)))
      | inr e ↦ subst (λ i. Contains (get_or (set users item more) i []) a) e (subst (λ s. Contains s a) (sym here) (subst (λ x. Contains (get_or users item [] ++ user ∷ []) x) (sym w.0) (Contains-push (get_or users item []) user)))
    ]

-- the users of those that the items below a number name
pub record AreUsersBelow (items : List Line) (count : ℕ) (users : List (List ℕ)) : Type 0 where
  pub long : length users ≡ length items
  pub those : (a b : ℕ) → Uses users a b ↔ ((a < count) × Names (inter_at items a) b)

pub users_begin : (items : List Line) (users : List (List ℕ)) → users ≡ replicate (length items) [] → AreUsersBelow items 0 users
users_begin items users same = record {
  long = ap length same ∙ length-replicate (length items) [];
  those = λ a b. (λ on. absurd (nothing_in a (subst (λ s. Contains s a) (empty b) on)), λ w. absurd (omega arith));
}
  where
    none_at : (n b : ℕ) → get_or (replicate {A = List ℕ} n []) b [] ≡ []
    none_at zero b = refl
    none_at (suc n) zero = refl
    none_at (suc n) (suc b) = none_at n b

    empty : (b : ℕ) → get_or users b [] ≡ []
    empty b = ap (λ s. get_or s b []) same ∙ none_at (length items) b

pub users_more : (items : List Line) (item : ℕ) (names : List ℕ) (old now : List (List ℕ)) → AreUsersBelow items item old → names ≡ named (inter_at items item) → AddsUser names item old now → AreUsersBelow items (item + 1) now
users_more items item names old now h same f = record {
  long = f.long ∙ h.long;
  those = λ a b. (forth a b, back a b);
}
  where
    forth : (a b : ℕ) → Uses now a b → (a < item + 1) × Names (inter_at items a) b
    forth a b on = elim ((f.those a b).0 on) as (λ u. (a < item + 1) × Names (inter_at items a) b) [
      | inl old_one ↦ let w = (h.those a b).0 old_one in (omega (arith, w.0), w.1)
      | inr w ↦ (omega (arith, w.0), subst (λ x. Names (inter_at items x) b) (sym w.0) (named_is (inter_at items item) b (subst (λ s. Contains s b) same w.1)))
    ]

    back : (a b : ℕ) → (a < item + 1) × Names (inter_at items a) b → Uses now a b
    back a b w = elim (cases_eq a item) as (λ u. Uses now a b) [
      | inl e ↦ (f.those a b).1 (inr (e, subst (λ s. Contains s b) (sym same) (named_has (inter_at items item) b (subst (λ x. Names (inter_at items x) b) e w.1))))
      | inr ne ↦ (f.those a b).1 (inl ((h.those a b).1 (omega (arith, w.0), w.1)))
    ]

pub users_end : (items : List Line) (count : ℕ) (users : List (List ℕ)) → AreUsersBelow items count users → length items ≤ count → AreUsers items users
users_end items count users h past = record {
  long = h.long;
  those = λ a b. (λ on. ((h.those a b).0 on).1, λ w. (h.those a b).1 (let l = naming_inside items a b w in omega arith, w));
}

-- what a list that names items has is in range
pub named_within : (items : List Line) (item n : ℕ) (names : List ℕ) → names ≡ named (inter_at items item) → NamesInside items → length items ≡ n → All (λ k. k < n) names
named_within items item n names same inside long k d l =
    let on : Contains (named (inter_at items item)) (get_or names k d) = subst (λ s. Contains s (get_or names k d)) same (Contains-get_or names k d l) in
    let fits : get_or names k d < length items = named_one (λ j. j < length items) (inter_at items item) (get_or names k d) (inside item) (named_is (inter_at items item) (get_or names k d) on) in
    omega arith
