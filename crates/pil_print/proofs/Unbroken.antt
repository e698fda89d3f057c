-- A printed text breaks no rule, where what is printed is sound, its names aren't repeated and its lines are in their places.
use Rattle.std.proofs.Common.{ℕ, zero, suc, ◌≡◌, ◌<◌, ◌≤◌, ◌+◌, ◌^◌, List, [], ◌∷◌, ◌++◌, Bool, true, false, not, ◌&&◌, nat_lt, nat_le, nat_eq, length, map, Option, Some, None, refl, sym, ap, subst, ◌∙◌, arith, All, inl, inr}
use Rattle.std.specs.Prelude.{flat_map, option_map, is_some}
use Rattle.std.proofs.lemmas.Bool.{cases_lt}
use Rattle.std.proofs.lemmas.List.{length-map}
use Rattle.std.proofs.lemmas.List.Elements.{All-nil, All-cons, All-head, All-tail}
use Rattle.std.proofs.lemmas.Grind.{common_steps, flat_map-append}
use Rattle.gold.specs.Field.{p}
use Rattle.pil_syntax.specs.declared.tree.Ident.{Ident}
use Rattle.pil_syntax.specs.declared.tree.Number.{Number}
use Rattle.pil_syntax.specs.declared.tree.Reference.{Reference}
use Rattle.pil_syntax.specs.declared.tree.Size.TheVariants as sizes
use Rattle.pil_syntax.specs.Tree.{Term, num, col, constant, public, opp, group, ◌⊕◌, ◌⊖◌, ◌⊗◌}
use Rattle.pil_syntax.specs.Grammar.{Level, expr, term, fact}
use Rattle.pil_syntax.specs.Printing.{dressed}
use Rattle.pil_ast.specs.Term as ast
use Rattle.pil_ast.specs.Term.{Namespace, Line, Tuples, item_at, inter_at, space_at, columns_of, width}
use Rattle.pil_ast.specs.Written.{marked}
use Rattle.pil_ast.specs.Sound.{IsTerm, IsList, IsItem, IsLength, IsInter, IsAcyclic, IsSound}
use Rattle.pil_names.specs.Outline.{Draft, Home, Outline, home_at, draft_at}
use Rattle.pil_names.specs.Finding.{found, polynomials_from, polynomial_entries, home_named, item_named}
use Rattle.pil_names.specs.Wrongs.{each_from, each_item, unless, each_name, terms_of, terms_of_list, repeated, repeated_among, unknown_index, length_of, unknown_in_item, unknown_in_home, unknown_reference, unknown_constant, unknown_public, is_public_item, is_public_in, unknown_in_size, unknown_in_term, unknown_in_draft, bad_size, bad_public_row, bad_row_of_draft, rows_of, references, home_or, stray, strays, mixed_in, mixed_in_draft, wrong_length, other_width, other_widths, width_of_first, wrong_widths_of}
use Rattle.pil_meaning.specs.Meaning.{meaning}
use Rattle.pil_meaning.specs.Marks.{double_at, double_reference, double_in_term, double_in_draft}
use Rattle.pil_meaning.specs.Soundness.{IsUnbroken}
use Rattle.pil_print.specs.Statements.{ident, numeral, name_of, is_constant, is_commit, declared, spot_in, index_in, mark_of, reference_to, column_reference, inter_reference, named, expression, tuple}
use Rattle.pil_print.proofs.Printable.{publics-counted}
use Rattle.pil_print.proofs.Outlines.{draft, home, outline, home-at, draft-at, IsNamed, space-found, public-found, IsPolynomial, polynomial-found, column-place}
use Rattle.pil_print.proofs.Rereads.{spaces_in, sel_terms, IsPlacedList, IsPlaced, ArePlaced, column-again, inter-again, list-terms, constant-polynomial, commit-polynomial, spaces-of-all, home-again, list-all, meaning-again}

none-joined : (a b : List ℕ) → a ≡ [] → b ≡ [] → a ++ b ≡ []
none-joined a b p q = ap (λ s. s ++ b) p ∙ q

flat-two : {X : Type 0} (f : X → List ℕ) (xs ys : List X) → flat_map f xs ≡ [] → flat_map f ys ≡ [] → flat_map f (xs ++ ys) ≡ []
flat-two f xs ys p q = flat_map-append f xs ys ∙ none-joined (flat_map f xs) (flat_map f ys) p q

flat-none : {X Y : Type 0} (f : Y → List ℕ) (g : X → Y) (xs : List X) → All (λ x. f (g x) ≡ []) xs → flat_map f (map g xs) ≡ []
flat-none f g [] h = refl
flat-none f g (x ∷ xs) h = none-joined (f (g x)) (flat_map f (map g xs)) (All-head (λ x. f (g x) ≡ []) x xs h) (flat-none f g xs (All-tail (λ x. f (g x) ≡ []) x xs h))

unless-true : (b : Bool) (at : ℕ) → b ≡ true → unless b at ≡ []
unless-true b at e = ap (λ c. unless c at) e

below : (a b : ℕ) → a < b → nat_lt a b ≡ true
below a b l = grind (arith, common_steps)

at-most : (a b : ℕ) → a ≤ b → nat_le a b ≡ true
at-most a b l = grind (arith, common_steps)

equals : (a b : ℕ) → a ≡ b → nat_eq a b ≡ true
equals a b e = grind (arith, common_steps)

two-true : (a b : Bool) → a ≡ true → b ≡ true → (a && b) ≡ true
two-true a b p q = ap (λ x. x && b) p ∙ q

both-same : (a b c d : List ℕ) → a ≡ c → b ≡ d → a ++ b ≡ c ++ d
both-same a b c d p q = ap (λ x. x ++ b) p ∙ ap (λ x. c ++ x) q

each-dressed : (P : Reference → List ℕ) (C G : Ident → List ℕ) (l : Level) (t : Term) → each_name P C G (dressed l t) ≡ each_name P C G t
each-dressed P C G l (num n) = refl
each-dressed P C G l (col r) = refl
each-dressed P C G l (constant x) = refl
each-dressed P C G l (public x) = refl
each-dressed P C G l (opp a) = each-dressed P C G fact a
each-dressed P C G l (group a) = each-dressed P C G l a
each-dressed P C G expr (a ⊕ b) = both-same _ _ _ _ (each-dressed P C G expr a) (each-dressed P C G term b)
each-dressed P C G term (a ⊕ b) = both-same _ _ _ _ (each-dressed P C G expr a) (each-dressed P C G term b)
each-dressed P C G fact (a ⊕ b) = both-same _ _ _ _ (each-dressed P C G expr a) (each-dressed P C G term b)
each-dressed P C G expr (a ⊖ b) = both-same _ _ _ _ (each-dressed P C G expr a) (each-dressed P C G term b)
each-dressed P C G term (a ⊖ b) = both-same _ _ _ _ (each-dressed P C G expr a) (each-dressed P C G term b)
each-dressed P C G fact (a ⊖ b) = both-same _ _ _ _ (each-dressed P C G expr a) (each-dressed P C G term b)
each-dressed P C G expr (a ⊗ b) = both-same _ _ _ _ (each-dressed P C G term a) (each-dressed P C G fact b)
each-dressed P C G term (a ⊗ b) = both-same _ _ _ _ (each-dressed P C G term a) (each-dressed P C G fact b)
each-dressed P C G fact (a ⊗ b) = both-same _ _ _ _ (each-dressed P C G term a) (each-dressed P C G fact b)

-- each of the numbers is m
abbrev AreAll : ℕ → List ℕ → Type 0
AreAll m [] = Unit {0}
AreAll m (x ∷ xs) = (x ≡ m) × AreAll m xs

are-joined : (m : ℕ) (xs ys : List ℕ) → AreAll m xs → AreAll m ys → AreAll m (xs ++ ys)
are-joined m [] ys a b = b
are-joined m (x ∷ xs) ys a b = (a.0, are-joined m xs ys a.1 b)

spaces-are : (ns : List Namespace) (m : ℕ) (e : ast.Term) → IsTerm ns m e → AreAll m (spaces_in e)
spaces-are ns m (ast.num n) h = tt
spaces-are ns m (ast.col n k b) h = (h.0, tt)
spaces-are ns m (ast.mid n k b) h = (h.0, tt)
spaces-are ns m (ast.public k) h = tt
spaces-are ns m (ast.opp a) h = spaces-are ns m a h
spaces-are ns m (ast.◌⊕◌ a b) h = are-joined m (spaces_in a) (spaces_in b) (spaces-are ns m a h.0) (spaces-are ns m b h.1)
spaces-are ns m (ast.◌⊖◌ a b) h = are-joined m (spaces_in a) (spaces_in b) (spaces-are ns m a h.0) (spaces-are ns m b h.1)
spaces-are ns m (ast.◌⊗◌ a b) h = are-joined m (spaces_in a) (spaces_in b) (spaces-are ns m a h.0) (spaces-are ns m b h.1)

spaces-all-are : (ns : List Namespace) (m : ℕ) (es : List ast.Term) → All (IsTerm ns m) es → AreAll m (flat_map spaces_in es)
spaces-all-are ns m [] h = tt
spaces-all-are ns m (e ∷ es) h = are-joined m (spaces_in e) (flat_map spaces_in es) (spaces-are ns m e (All-head (IsTerm ns m) e es h)) (spaces-all-are ns m es (All-tail (IsTerm ns m) e es h))

strays-none : (o : Outline) (s m : ℕ) (rs : List Reference) → AreAll m (map (home_or o s) rs) → flat_map (stray o s m) rs ≡ []
strays-none o s m [] h = refl
strays-none o s m (r ∷ rs) h = none-joined (stray o s m r) (flat_map (stray o s m) rs) (unless-true (nat_eq (home_or o s r) m) r.name.at (equals (home_or o s r) m h.0)) (strays-none o s m rs h.1)

module _ (ns : List Namespace) (named' : IsNamed ns) where
  item-found : (m j : ℕ) (item : Line) (i : Option Number) (b : Bool) → m < length ns → j < length (space_at ns m).items → IsPolynomial item → item_at (space_at ns m).items j ≡ item
      → item_named (outline ns) m (reference_to ns m item i b) ≡ Some j
  item-found m j item i b l within is same =
      ap (λ (h : Home). found (name_of item) (polynomials_from 0 h.items)) (home-at ns ns m l)
      ∙ (ap (λ (x : Line). found (name_of x) (polynomials_from 0 (map (draft ns) (space_at ns m).items))) (sym same)
      ∙ polynomial-found ns m j named' l within (subst IsPolynomial (sym same) is))

  known-again : (s m j : ℕ) (item : Line) (i : Option Number) (b : Bool) → m < length ns → j < length (space_at ns m).items → IsPolynomial item → item_at (space_at ns m).items j ≡ item
      → unknown_reference (outline ns) s (reference_to ns m item i b) ≡ unknown_index 0 (length_of (draft ns item)) i
  known-again s m j item i b l within is same =
      let o = outline ns in
      let r = reference_to ns m item i b in
      ap (unknown_in_home o r) (space-found ns m named' l)
      ∙ (ap (unknown_in_item r (home_at o.homes m).items) (item-found m j item i b l within is same)
      ∙ (ap (λ (h : Home). unknown_index 0 (length_of (draft_at h.items j)) i) (home-at ns ns m l)
      ∙ ap (λ (d : Draft). unknown_index 0 (length_of d) i) (draft-at ns (space_at ns m).items j within ∙ ap (draft ns) same)))

  constant-known : (item : Line) (n : ℕ) → is_constant item ≡ true → n < columns_of item → unknown_index 0 (length_of (draft ns item)) (index_in item n) ≡ []
  constant-known (ast.constant x None) n e l = refl
  constant-known (ast.constant x (Some w)) n e l = unless-true (nat_lt n w) 0 (below n w l)
  constant-known (ast.commit x w) n e l = let no : ⊥ = cc in absurd no
  constant-known (ast.inter x w) n e l = let no : ⊥ = cc in absurd no
  constant-known (ast.published x w c r) n e l = let no : ⊥ = cc in absurd no
  constant-known (ast.identity w x y) n e l = let no : ⊥ = cc in absurd no
  constant-known (ast.lookup x y) n e l = let no : ⊥ = cc in absurd no
  constant-known (ast.bus x y) n e l = let no : ⊥ = cc in absurd no

  commit-known : (item : Line) (n : ℕ) → is_commit item ≡ true → n < columns_of item → unknown_index 0 (length_of (draft ns item)) (index_in item n) ≡ []
  commit-known (ast.commit x None) n e l = refl
  commit-known (ast.commit x (Some w)) n e l = unless-true (nat_lt n w) 0 (below n w l)
  commit-known (ast.constant x w) n e l = let no : ⊥ = cc in absurd no
  commit-known (ast.inter x w) n e l = let no : ⊥ = cc in absurd no
  commit-known (ast.published x w c r) n e l = let no : ⊥ = cc in absurd no
  commit-known (ast.identity w x y) n e l = let no : ⊥ = cc in absurd no
  commit-known (ast.lookup x y) n e l = let no : ⊥ = cc in absurd no
  commit-known (ast.bus x y) n e l = let no : ⊥ = cc in absurd no

  constant-public : (item : Line) (j : ℕ) → is_constant item ≡ true → is_public_item (draft ns item ∷ []) (Some 0) ≡ true
  constant-public (ast.constant x w) j e = refl
  constant-public (ast.commit x w) j e = refl
  constant-public (ast.inter x w) j e = let no : ⊥ = cc in absurd no
  constant-public (ast.published x w c r) j e = let no : ⊥ = cc in absurd no
  constant-public (ast.identity w x y) j e = let no : ⊥ = cc in absurd no
  constant-public (ast.lookup x y) j e = let no : ⊥ = cc in absurd no
  constant-public (ast.bus x y) j e = let no : ⊥ = cc in absurd no

  commit-public : (item : Line) (j : ℕ) → is_commit item ≡ true → is_public_item (draft ns item ∷ []) (Some 0) ≡ true
  commit-public (ast.constant x w) j e = refl
  commit-public (ast.commit x w) j e = refl
  commit-public (ast.inter x w) j e = let no : ⊥ = cc in absurd no
  commit-public (ast.published x w c r) j e = let no : ⊥ = cc in absurd no
  commit-public (ast.identity w x y) j e = let no : ⊥ = cc in absurd no
  commit-public (ast.lookup x y) j e = let no : ⊥ = cc in absurd no
  commit-public (ast.bus x y) j e = let no : ⊥ = cc in absurd no

  public-again : (s m j : ℕ) (item : Line) (i : Option Number) (b : Bool) → m < length ns → j < length (space_at ns m).items → IsPolynomial item → item_at (space_at ns m).items j ≡ item
      → is_public_item (draft ns item ∷ []) (Some 0) ≡ true
      → is_public_in (outline ns) (reference_to ns m item i b) (home_named (outline ns) s (Some (ident (space_at ns m).name))) ≡ true
  public-again s m j item i b l within is same h =
      let o = outline ns in
      let r = reference_to ns m item i b in
      ap (is_public_in o r) (space-found ns m named' l)
      ∙ (ap (is_public_item (home_at o.homes m).items) (item-found m j item i b l within is same)
      ∙ (ap (λ (k : Home). is_public_item (draft_at k.items j ∷ []) (Some 0)) (home-at ns ns m l)
      ∙ (ap (λ (d : Draft). is_public_item (d ∷ []) (Some 0)) (draft-at ns (space_at ns m).items j within ∙ ap (draft ns) same) ∙ h)))

  column-known : (s m k : ℕ) (b : Bool) → m < length ns → k < width (space_at ns m).items → unknown_reference (outline ns) s (column_reference ns m k b) ≡ []
  column-known s m k b l h =
      let spot = spot_in (declared (space_at ns m).items) k in
      elim (column-place (space_at ns m).items k h) [
        | inl at ↦ known-again s m at.place spot.item (index_in spot.item spot.index) b l at.within (constant-polynomial ns named' spot.item at.kind) at.item ∙ constant-known spot.item spot.index at.kind at.index
        | inr at ↦ known-again s m at.1.place spot.item (index_in spot.item spot.index) b l at.1.within (commit-polynomial ns named' spot.item at.1.kind) at.1.item ∙ commit-known spot.item spot.index at.1.kind at.1.index
      ]

  column-public : (s m k : ℕ) (b : Bool) → m < length ns → k < width (space_at ns m).items → is_public_in (outline ns) (column_reference ns m k b) (home_named (outline ns) s (column_reference ns m k b).space) ≡ true
  column-public s m k b l h =
      let spot = spot_in (declared (space_at ns m).items) k in
      elim (column-place (space_at ns m).items k h) [
        | inl at ↦ public-again s m at.place spot.item (index_in spot.item spot.index) b l at.within (constant-polynomial ns named' spot.item at.kind) at.item (constant-public spot.item 0 at.kind)
        | inr at ↦ public-again s m at.1.place spot.item (index_in spot.item spot.index) b l at.1.within (commit-polynomial ns named' spot.item at.1.kind) at.1.item (commit-public spot.item 0 at.1.kind)
      ]

  inter-known : (s m k : ℕ) (b : Bool) → m < length ns → k < length (space_at ns m).items → IsInter (item_at (space_at ns m).items k) → unknown_reference (outline ns) s (inter_reference ns m k b) ≡ []
  inter-known s m k b l within is = of-item (item_at (space_at ns m).items k) refl is
    where
      of-item : (item : Line) → item_at (space_at ns m).items k ≡ item → IsInter item → unknown_reference (outline ns) s (reference_to ns m item None b) ≡ []
      of-item (ast.constant x w) e i = absurd i
      of-item (ast.commit x w) e i = absurd i
      of-item (ast.inter x w) e i = known-again s m k (ast.inter x w) None b l within tt e
      of-item (ast.published x w c r) e i = absurd i
      of-item (ast.identity w x y) e i = absurd i
      of-item (ast.lookup x y) e i = absurd i
      of-item (ast.bus x y) e i = absurd i

  named-known : (s m : ℕ) (e : ast.Term) → m < length ns → IsTerm ns m e → unknown_in_term (outline ns) s (named ns e) ≡ []
  named-known s m (ast.num n) l h = refl
  named-known s m (ast.col n k b) l h = column-known s n k b (subst (λ j. j < length ns) (sym h.0) l) (subst (λ j. k < width (space_at ns j).items) (sym h.0) h.1)
  named-known s m (ast.mid n k b) l h = inter-known s n k b (subst (λ j. j < length ns) (sym h.0) l) (subst (λ j. k < length (space_at ns j).items) (sym h.0) h.1.0) (subst (λ j. IsInter (item_at (space_at ns j).items k)) (sym h.0) h.1.1)
  named-known s m (ast.public k) l h = unless-true _ 0 (ap is_some (public-found ns k named' (omega (arith, publics-counted ns))))
  named-known s m (ast.opp a) l h = named-known s m a l h
  named-known s m (ast.◌⊕◌ a b) l h = none-joined _ _ (named-known s m a l h.0) (named-known s m b l h.1)
  named-known s m (ast.◌⊖◌ a b) l h = none-joined _ _ (named-known s m a l h.0) (named-known s m b l h.1)
  named-known s m (ast.◌⊗◌ a b) l h = none-joined _ _ (named-known s m a l h.0) (named-known s m b l h.1)

  term-known : (s m : ℕ) (e : ast.Term) → m < length ns → IsTerm ns m e → unknown_in_term (outline ns) s (expression ns e) ≡ []
  term-known s m e l h = each-dressed (unknown_reference (outline ns) s) (unknown_constant (outline ns)) (unknown_public (outline ns)) expr (named ns e) ∙ named-known s m e l h

  -- marks
  double-column : (ms : List Namespace) (m k : ℕ) (b : Bool) (next : Option ℕ) → double_at ms (ast.col m k b) next ≡ []
  double-column ms m k b None = refl
  double-column ms m k b (Some at) = refl

  double-inter : (m k : ℕ) (b : Bool) → (b ≡ true → marked (space_at ns m).items (inter_at (space_at ns m).items k) ≡ false) → double_at ns (ast.mid m k b) (mark_of b) ≡ []
  double-inter m k false h = refl
  double-inter m k true h = unless-true _ 0 (ap not (h refl))

  named-single : (again : meaning (outline ns) ≡ ns) (s m : ℕ) (e : ast.Term) → m < length ns → IsTerm ns m e → double_in_term (outline ns) s (named ns e) ≡ []
  named-single again s m (ast.num n) l h = refl
  named-single again s m (ast.col n k b) l h =
      ap (λ t. double_at (meaning (outline ns)) t (mark_of b)) (column-again ns named' s n k b (subst (λ j. j < length ns) (sym h.0) l) (subst (λ j. k < width (space_at ns j).items) (sym h.0) h.1))
      ∙ double-column (meaning (outline ns)) n k b (mark_of b)
  named-single again s m (ast.mid n k b) l h =
      ap (λ t. double_at (meaning (outline ns)) t (mark_of b)) (inter-again ns named' s n k b (subst (λ j. j < length ns) (sym h.0) l) (subst (λ j. k < length (space_at ns j).items) (sym h.0) h.1.0) (subst (λ j. IsInter (item_at (space_at ns j).items k)) (sym h.0) h.1.1))
      ∙ (ap (λ ms. double_at ms (ast.mid n k b) (mark_of b)) again
      ∙ double-inter n k b (subst (λ j. b ≡ true → marked (space_at ns j).items (inter_at (space_at ns j).items k) ≡ false) (sym h.0) h.1.2))
  named-single again s m (ast.public k) l h = refl
  named-single again s m (ast.opp a) l h = named-single again s m a l h
  named-single again s m (ast.◌⊕◌ a b) l h = none-joined _ _ (named-single again s m a l h.0) (named-single again s m b l h.1)
  named-single again s m (ast.◌⊖◌ a b) l h = none-joined _ _ (named-single again s m a l h.0) (named-single again s m b l h.1)
  named-single again s m (ast.◌⊗◌ a b) l h = none-joined _ _ (named-single again s m a l h.0) (named-single again s m b l h.1)

  term-single : (again : meaning (outline ns) ≡ ns) (s m : ℕ) (e : ast.Term) → m < length ns → IsTerm ns m e → double_in_term (outline ns) s (expression ns e) ≡ []
  term-single again s m e l h = each-dressed (double_reference (outline ns) s) (λ x. []) (λ x. []) expr (named ns e) ∙ named-single again s m e l h

  -- what is true of each expression is true of those of a list and of an item
  module _ (f : Term → List ℕ) (each : (m : ℕ) (e : ast.Term) → m < length ns → IsTerm ns m e → f (expression ns e) ≡ []) where
    all-none : (m : ℕ) (es : List ast.Term) → m < length ns → All (IsTerm ns m) es → flat_map f (map (expression ns) es) ≡ []
    all-none m es l h = flat-none f (expression ns) es (λ k d w. each m _ l (h k d w))

    list-none : (wide : ℕ) (a : Tuples) → IsList ns wide a → flat_map f (terms_of_list (tuple ns a)) ≡ []
    list-none wide a h = ap (flat_map f) (list-terms ns a) ∙ all-none a.space (sel_terms a.sel ++ a.terms) h.space (list-all ns named' wide a h)

    lists-none : (wide : ℕ) (ls : List Tuples) → All (IsList ns wide) ls → flat_map f (flat_map terms_of_list (map (tuple ns) ls)) ≡ []
    lists-none wide [] h = refl
    lists-none wide (a ∷ ls) h = flat-two f (terms_of_list (tuple ns a)) (flat_map terms_of_list (map (tuple ns) ls)) (list-none wide a (All-head (IsList ns wide) a ls h)) (lists-none wide ls (All-tail (IsList ns wide) a ls h))

    item-none : (s : ℕ) (l : Line) → s < length ns → IsItem ns s l → flat_map f (terms_of (draft ns l)) ≡ []
    item-none s (ast.constant x n) l h = refl
    item-none s (ast.commit x n) l h = refl
    item-none s (ast.inter x e) l h = none-joined _ [] (each s e l h) refl
    item-none s (ast.published x m k r) l h = refl
    item-none s (ast.identity m a b) l h = none-joined _ _ (each m a h.0 h.1) (none-joined _ [] (each m b h.0 h.2) refl)
    item-none s (ast.lookup a b) l h = flat-two f (terms_of_list (tuple ns a)) (terms_of_list (tuple ns b)) (list-none h.0 a h.2) (list-none h.0 b h.3)
    item-none s (ast.bus ls rs) l h = flat-two f (flat_map terms_of_list (map (tuple ns) ls)) (flat_map terms_of_list (map (tuple ns) rs)) (lists-none h.0 ls h.4) (lists-none h.0 rs h.5)

module _ (ns : List Namespace) (sound : IsSound ns) (named' : IsNamed ns) (placed : ArePlaced ns) where
  item-known : (s : ℕ) (l : Line) → s < length ns → IsItem ns s l → unknown_in_draft (outline ns) s (draft ns l) ≡ []
  item-known s (ast.constant x n) l h = refl
  item-known s (ast.commit x n) l h = refl
  item-known s (ast.inter x e) l h = item-none ns named' (unknown_in_term (outline ns) s) (λ m e. term-known ns named' s m e) s (ast.inter x e) l h
  item-known s (ast.published x m k r) l h =
      none-joined (unknown_reference (outline ns) s (column_reference ns m k false) ++ unless (is_public_in (outline ns) (column_reference ns m k false) (home_named (outline ns) s (column_reference ns m k false).space)) 0) []
      (none-joined (unknown_reference (outline ns) s (column_reference ns m k false)) _ (column-known ns named' s m k false h.0 h.1) (unless-true _ 0 (column-public ns named' s m k false h.0 h.1))) refl
  item-known s (ast.identity m a b) l h = item-none ns named' (unknown_in_term (outline ns) s) (λ n e. term-known ns named' s n e) s (ast.identity m a b) l h
  item-known s (ast.lookup a b) l h = item-none ns named' (unknown_in_term (outline ns) s) (λ n e. term-known ns named' s n e) s (ast.lookup a b) l h
  item-known s (ast.bus ls rs) l h = item-none ns named' (unknown_in_term (outline ns) s) (λ n e. term-known ns named' s n e) s (ast.bus ls rs) l h

  item-rows : (s : ℕ) (l : Line) → IsItem ns s l → bad_row_of_draft (outline ns) s (draft ns l) ≡ []
  item-rows s (ast.constant x n) h = refl
  item-rows s (ast.commit x n) h = refl
  item-rows s (ast.inter x e) h = refl
  item-rows s (ast.published x m k r) h =
      ap (bad_public_row (outline ns) (numeral r)) (space-found ns m named' h.0)
      ∙ (ap (λ (k : Home). unless (nat_lt r (rows_of (outline ns) k.size)) 0) (home-at ns ns m h.0) ∙ unless-true (nat_lt r (space_at ns m).rows) 0 (below r (space_at ns m).rows h.2))
  item-rows s (ast.identity m a b) h = refl
  item-rows s (ast.lookup a b) h = refl
  item-rows s (ast.bus ls rs) h = refl

  terms-alike : (s m : ℕ) (es : List ast.Term) → m < length ns → All (IsTerm ns m) es → strays (outline ns) s m (map (expression ns) es) ≡ []
  terms-alike s m es l h = strays-none (outline ns) s m (flat_map references (map (expression ns) es)) (subst (AreAll m) (sym (spaces-of-all ns named' s m es l h)) (spaces-all-are ns m es h))

  list-alike : (s wide : ℕ) (a : Tuples) → IsList ns wide a → IsPlacedList s a → mixed_in (outline ns) s (terms_of_list (tuple ns a)) ≡ []
  list-alike s wide a h g =
      let es = sel_terms a.sel ++ a.terms in
      ap (mixed_in (outline ns) s) (list-terms ns a)
      ∙ (ap (λ m. strays (outline ns) s m (map (expression ns) es)) (home-again ns named' s a.space es h.space (list-all ns named' wide a h) ∙ g)
      ∙ terms-alike s a.space es h.space (list-all ns named' wide a h))

  lists-alike : (s wide : ℕ) (ls : List Tuples) → All (IsList ns wide) ls → All (IsPlacedList s) ls → flat_map (λ l. mixed_in (outline ns) s (terms_of_list l)) (map (tuple ns) ls) ≡ []
  lists-alike s wide ls h g = flat-none (λ l. mixed_in (outline ns) s (terms_of_list l)) (tuple ns) ls (λ k d w. list-alike s wide _ (h k d w) (g k d w))

  item-alike : (s : ℕ) (l : Line) → s < length ns → IsItem ns s l → IsPlaced s l → mixed_in_draft (outline ns) s (draft ns l) ≡ []
  item-alike s (ast.constant x n) l h g = refl
  item-alike s (ast.commit x n) l h g = refl
  item-alike s (ast.inter x e) l h g = terms-alike s s (e ∷ []) l (All-cons (IsTerm ns s) e [] h (All-nil (IsTerm ns s)))
  item-alike s (ast.published x m k r) l h g = refl
  item-alike s (ast.identity m a b) l h g =
      let all : All (IsTerm ns m) (a ∷ b ∷ []) = All-cons (IsTerm ns m) a (b ∷ []) h.1 (All-cons (IsTerm ns m) b [] h.2 (All-nil (IsTerm ns m))) in
      ap (λ n. strays (outline ns) s n (map (expression ns) (a ∷ b ∷ []))) (home-again ns named' s m (a ∷ b ∷ []) h.0 all ∙ g) ∙ terms-alike s m (a ∷ b ∷ []) h.0 all
  item-alike s (ast.lookup a b) l h g = none-joined _ _ (list-alike s h.0 a h.2 g.0) (list-alike s h.0 b h.3 g.1)
  item-alike s (ast.bus ls rs) l h g = none-joined _ _ (lists-alike s h.0 ls h.4 g.0) (lists-alike s h.0 rs h.5 g.1)

  length-right : (n : Option ℕ) → IsLength n → wrong_length (option_map numeral n) ≡ []
  length-right None h = refl
  length-right (Some n) h = unless-true _ 0 (two-true (nat_lt 0 n) (nat_le n 4096) (below 0 n (omega (arith, h.0))) (at-most n 4096 h.1))

  widths-alike : (wide n : ℕ) (ls : List Tuples) → n ≡ wide → All (IsList ns wide) ls → other_widths n (map (tuple ns) ls) ≡ []
  widths-alike wide n ls e h =
      flat-none (other_width n) (tuple ns) ls (λ k d w. unless-true _ 0 (equals _ n (length-map _ (expression ns) ∙ (h k d w).many ∙ sym e)))

  first-width : (wide : ℕ) (ls : List Tuples) → 1 ≤ length ls → All (IsList ns wide) ls → width_of_first (map (tuple ns) ls) ≡ wide
  first-width wide [] l h = absurd (omega arith)
  first-width wide (a ∷ ls) l h = length-map a.terms (expression ns) ∙ (All-head (IsList ns wide) a ls h).many

  item-wide : (s : ℕ) (l : Line) → IsItem ns s l → wrong_widths_of (draft ns l) ≡ []
  item-wide s (ast.constant x n) h = length-right n h
  item-wide s (ast.commit x n) h = length-right n h
  item-wide s (ast.inter x e) h = refl
  item-wide s (ast.published x m k r) h = refl
  item-wide s (ast.identity m a b) h = refl
  item-wide s (ast.lookup a b) h =
      unless-true _ 0 (equals _ _ (length-map b.terms (expression ns) ∙ h.3.many ∙ sym h.2.many ∙ sym (length-map a.terms (expression ns))))
  item-wide s (ast.bus ls rs) h =
      let n = first-width h.0 ls h.2 h.4 in
      none-joined _ _ (widths-alike h.0 _ ls n h.4) (widths-alike h.0 _ rs n h.5)

  each-none : (f : ℕ → Draft → List ℕ) (n : ℕ) (ms : List Namespace) → ((j : ℕ) → j < length ms → All (λ l. f (n + j) (draft ns l) ≡ []) (space_at ms j).items) → each_from (λ s (h : Home). flat_map (f s) h.items) n (map (home ns) ms) ≡ []
  each-none f n [] h = refl
  each-none f n (m ∷ ms) h =
      let z : n + 0 ≡ n = omega arith in
      none-joined (flat_map (f n) (map (draft ns) m.items)) _
      (flat-none (f n) (draft ns) m.items (subst (λ k. All (λ l. f k (draft ns l) ≡ []) m.items) z (h 0 (omega arith))))
      (each-none f (n + 1) ms (λ j l. let e : n + suc j ≡ n + 1 + j = omega arith in subst (λ k. All (λ l. f k (draft ns l) ≡ []) (space_at ms j).items) e (h (suc j) (omega arith))))

  items-none : (f : ℕ → Draft → List ℕ) → ((s : ℕ) (l : Line) → s < length ns → IsItem ns s l → IsPlaced s l → f s (draft ns l) ≡ []) → each_item f (outline ns) ≡ []
  items-none f g =
      each-none f 0 ns (λ j l. let z : j ≡ 0 + j = omega arith in subst (λ k. All (λ x. f k (draft ns x) ≡ []) (space_at ns j).items) z (λ k d w. g j _ l ((sound.spaces j l).items k d w) (placed.each j l k d w)))

  sizes-none : (f : Home → List ℕ) → ((s : ℕ) → s < length ns → f (home ns (space_at ns s)) ≡ []) → (ms : List Namespace) → ((j : ℕ) → j < length ms → f (home ns (space_at ms j)) ≡ []) → flat_map f (map (home ns) ms) ≡ []
  sizes-none f g [] h = refl
  sizes-none f g (m ∷ ms) h = none-joined (f (home ns m)) (flat_map f (map (home ns) ms)) (h 0 (omega arith)) (sizes-none f g ms (λ j l. h (suc j) (omega arith)))

  rank-none : IsAcyclic []
  rank-none = (λ k. 0, record { bounded = λ k. omega arith; falling = λ k. tt })

  acyclic-past : (ms : List Namespace) (s : ℕ) → length ms ≤ s → IsAcyclic (space_at ms s).items
  acyclic-past [] s l = rank-none
  acyclic-past (m ∷ ms) zero l = absurd (omega arith)
  acyclic-past (m ∷ ms) (suc s) l = acyclic-past ms s (omega arith)

  pub unbroken-again : IsUnbroken (outline ns)
  unbroken-again =
      let o = outline ns in
      let again = meaning-again ns sound named' placed in
      record {
        unknown = none-joined (flat_map (λ (h : Home). unknown_in_size o h.size) (map (home ns) ns)) (each_item (unknown_in_draft o) o)
            (sizes-none (λ (h : Home). unknown_in_size o h.size) (λ s l. refl) ns (λ s l. refl))
            (items-none (unknown_in_draft o) (λ s l w h g. item-known s l w h));
        bad_rows = none-joined (flat_map (λ (h : Home). bad_size o h.size) (map (home ns) ns)) (each_item (bad_row_of_draft o) o)
            (sizes-none (λ (h : Home). bad_size o h.size) rows-right ns rows-right)
            (items-none (bad_row_of_draft o) (λ s l w h g. item-rows s l h));
        mixed = items-none (mixed_in_draft o) item-alike;
        wrong_widths = items-none (λ s d. wrong_widths_of d) (λ s l w h g. item-wide s l h);
        acyclic = λ s. subst (λ ms. IsAcyclic (space_at ms s).items) (sym again) (elim (cases_lt s (length ns)) [
          | inl l ↦ (sound.spaces s l).acyclic
          | inr l ↦ acyclic-past ns s l
        ]);
        double = items-none (double_in_draft o) (λ s l w h g. item-none ns named' (double_in_term o s) (λ m e. term-single ns named' again s m e) s l w h);
      }
    where
      rows-right : (s : ℕ) → s < length ns → bad_size (outline ns) (sizes.Number (numeral (space_at ns s).rows)) ≡ []
      rows-right s l = let space = sound.spaces s l in unless-true _ 0 (two-true (nat_lt 0 (space_at ns s).rows) (nat_le (space_at ns s).rows (2 ^ 24)) (below 0 (space_at ns s).rows (omega (arith, space.some_rows))) (at-most (space_at ns s).rows (2 ^ 24) space.few_rows))

pub repeats-none : (ns : List Namespace) → IsNamed ns → repeated (outline ns) ≡ []
repeats-none ns h = none-joined _ _ h.homes (none-joined _ _ h.publics (each-home ns (λ s l. h.polynomials s l)))
  where
    each-home : (ms : List Namespace) → ((s : ℕ) → s < length ms → repeated_among (polynomials_from 0 (map (draft ns) (space_at ms s).items)) ≡ []) → flat_map (λ (k : Home). repeated_among (polynomial_entries k)) (map (home ns) ms) ≡ []
    each-home [] g = refl
    each-home (m ∷ ms) g = none-joined _ _ (g 0 (omega arith)) (each-home ms (λ s l. g (suc s) (omega arith)))
