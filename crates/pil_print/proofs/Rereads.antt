-- What is printed is read as what it was printed of.
use Rattle.std.proofs.Common.{ℕ, suc, ◌≡◌, ◌<◌, ◌≤◌, ◌+◌, ◌-◌, List, [], ◌∷◌, ◌++◌, Bool, true, false, length, map, take, filter, sum_by, Option, Some, None, refl, sym, ap, subst, ◌∙◌, arith, All, inl, inr}
use Rattle.std.specs.Prelude.{flat_map, unwrap_or, option_map, is_some}
use Rattle.std.proofs.lemmas.List.{map-append}
use Rattle.std.proofs.lemmas.List.Elements.{All-nil, All-cons, All-head, All-tail, All-append}
use Rattle.gold.specs.Field.{p}
use Rattle.pil_syntax.specs.declared.tree.Number.{Number}
use Rattle.pil_syntax.specs.declared.tree.Reference.{Reference}
use Rattle.pil_syntax.specs.Tree.{Term, num, col, constant, public, opp, group, ◌⊕◌, ◌⊖◌, ◌⊗◌}
use Rattle.pil_syntax.specs.Grammar.{Level, expr, term, fact}
use Rattle.pil_syntax.specs.Printing.{dressed}
use Rattle.pil_ast.specs.Term as ast
use Rattle.pil_ast.specs.Term.{Namespace, Line, Tuples, item_at, space_at, columns_of, width, publics}
use Rattle.pil_ast.specs.Sound.{IsTerm, IsSelector, IsList, IsItem, IsInter, IsSound}
use Rattle.pil_names.specs.Outline.{Draft, Home, Outline, draft_at}
use Rattle.pil_names.specs.Finding.{found, polynomials_from, item_named}
use Rattle.pil_names.specs.Wrongs.{terms_of_list, selectors_of, references, home_or, first_home, home_of_terms}
use Rattle.pil_meaning.specs.Meaning.{named_item, read_in, read_reference, read_term, read_filter, read_tuple, length_number, column_number, read_draft, read_homes, meaning}
use Rattle.pil_print.proofs.Parted.{same-tuples}
use Rattle.pil_print.specs.Statements.{numeral, name_of, is_constant, is_commit, declared, spot_in, index_in, mark_of, reference_to, column_reference, inter_reference, named, expression, selector_of, selector, tuple}
use Rattle.pil_print.proofs.Printable.{publics-counted}
use Rattle.pil_print.proofs.Outlines.{draft, home, outline, home-at, draft-at, IsNamed, space-found, public-found, IsPolynomial, polynomial-found, IsAt, column-place, start-constant, start-commit}

marked-again : (b : Bool) → is_some (mark_of b) ≡ b
marked-again true = refl
marked-again false = refl

pub joined-same : {X : Type 0} (a b c d : List X) → a ≡ c → b ≡ d → a ++ b ≡ c ++ d
joined-same a b c d p q = ap (λ x. x ++ b) p ∙ ap (λ x. c ++ x) q

cons-same : {X : Type 0} (a c : X) (b d : List X) → a ≡ c → b ≡ d → a ∷ b ≡ c ∷ d
cons-same a c b d p q = ap (λ x. x ∷ b) p ∙ ap (λ x. c ∷ x) q

read-selector : (o : Outline) (s : ℕ) (t : Term) → read_filter o s (selector_of t) ≡ Some (read_term o s t)
read-selector o s (num n) = refl
read-selector o s (col r) = refl
read-selector o s (constant x) = refl
read-selector o s (public x) = refl
read-selector o s (opp a) = refl
read-selector o s (group a) = refl
read-selector o s (a ⊕ b) = refl
read-selector o s (a ⊖ b) = refl
read-selector o s (a ⊗ b) = refl

pair : (f : ast.Term → ast.Term → ast.Term) (a b c d : ast.Term) → a ≡ c → b ≡ d → f a b ≡ f c d
pair f a b c d p q = ap (λ x. f x b) p ∙ ap (f c) q

read-dressed : (o : Outline) (s : ℕ) (l : Level) (t : Term) → read_term o s (dressed l t) ≡ read_term o s t
read-dressed o s l (num n) = refl
read-dressed o s l (col r) = refl
read-dressed o s l (constant x) = refl
read-dressed o s l (public x) = refl
read-dressed o s l (opp a) = ap ast.opp (read-dressed o s fact a)
read-dressed o s l (group a) = read-dressed o s l a
read-dressed o s expr (a ⊕ b) = pair ast.◌⊕◌ _ _ _ _ (read-dressed o s expr a) (read-dressed o s term b)
read-dressed o s term (a ⊕ b) = pair ast.◌⊕◌ _ _ _ _ (read-dressed o s expr a) (read-dressed o s term b)
read-dressed o s fact (a ⊕ b) = pair ast.◌⊕◌ _ _ _ _ (read-dressed o s expr a) (read-dressed o s term b)
read-dressed o s expr (a ⊖ b) = pair ast.◌⊖◌ _ _ _ _ (read-dressed o s expr a) (read-dressed o s term b)
read-dressed o s term (a ⊖ b) = pair ast.◌⊖◌ _ _ _ _ (read-dressed o s expr a) (read-dressed o s term b)
read-dressed o s fact (a ⊖ b) = pair ast.◌⊖◌ _ _ _ _ (read-dressed o s expr a) (read-dressed o s term b)
read-dressed o s expr (a ⊗ b) = pair ast.◌⊗◌ _ _ _ _ (read-dressed o s term a) (read-dressed o s fact b)
read-dressed o s term (a ⊗ b) = pair ast.◌⊗◌ _ _ _ _ (read-dressed o s term a) (read-dressed o s fact b)
read-dressed o s fact (a ⊗ b) = pair ast.◌⊗◌ _ _ _ _ (read-dressed o s term a) (read-dressed o s fact b)

module _ (ns : List Namespace) (named' : IsNamed ns) where
  -- a reference to an item stands for it
  named-again : (s m j : ℕ) (item : Line) (i : Option Number) (b : Bool) → m < length ns → j < length (space_at ns m).items → IsPolynomial item → item_at (space_at ns m).items j ≡ item
      → read_reference (outline ns) s (reference_to ns m item i b) ≡ named_item m (map (draft ns) (space_at ns m).items) j (draft ns item) i (is_some (mark_of b))
  named-again s m j item i b l within is same =
      let o = outline ns in
      let r = reference_to ns m item i b in
      let ls = (space_at ns m).items in
      let spaced = space-found ns m named' l in
      let here = home-at ns ns m l in
      let found-item : item_named (outline ns) m (reference_to ns m item i b) ≡ Some j
      = ap (λ (h : Home). found (name_of item) (polynomials_from 0 h.items)) here
      ∙ (ap (λ (x : Line). found (name_of x) (polynomials_from 0 (map (draft ns) ls))) (sym same)
      ∙ polynomial-found ns m j named' l within (subst IsPolynomial (sym same) is)) in
      ap (λ h. read_in o (unwrap_or h s) r (item_named o (unwrap_or h s) r)) spaced
      ∙ (ap (read_in o m r) found-item
      ∙ (ap (λ (h : Home). named_item m h.items j (draft_at h.items j) i (is_some (mark_of b))) here
      ∙ ap (λ (d : Draft). named_item m (map (draft ns) ls) j d i (is_some (mark_of b))) (draft-at ns ls j within ∙ ap (draft ns) same)))

  constant-again : (m j k n : ℕ) (ls : List Line) (item : Line) (b : Bool) → is_constant item ≡ true → sum_by columns_of (filter is_constant (take j ls)) + n ≡ k → n < columns_of item
      → named_item m (map (draft ns) ls) j (draft ns item) (index_in item n) b ≡ ast.col m k b
  constant-again m j k n ls (ast.constant x None) b e s l = ap (λ c. ast.col m c b) (omega (arith, start-constant ns ls j))
  constant-again m j k n ls (ast.constant x (Some w)) b e s l = ap (λ c. ast.col m c b) (omega (arith, start-constant ns ls j))
  constant-again m j k n ls (ast.commit x w) b e s l = let no : ⊥ = cc in absurd no
  constant-again m j k n ls (ast.inter x w) b e s l = let no : ⊥ = cc in absurd no
  constant-again m j k n ls (ast.published x w c r) b e s l = let no : ⊥ = cc in absurd no
  constant-again m j k n ls (ast.identity w x y) b e s l = let no : ⊥ = cc in absurd no
  constant-again m j k n ls (ast.lookup x y) b e s l = let no : ⊥ = cc in absurd no
  constant-again m j k n ls (ast.bus x y) b e s l = let no : ⊥ = cc in absurd no

  commit-again : (m j k n : ℕ) (ls : List Line) (item : Line) (b : Bool) → is_commit item ≡ true → sum_by columns_of (filter is_constant ls) + sum_by columns_of (filter is_commit (take j ls)) + n ≡ k → n < columns_of item
      → named_item m (map (draft ns) ls) j (draft ns item) (index_in item n) b ≡ ast.col m k b
  commit-again m j k n ls (ast.commit x None) b e s l = ap (λ c. ast.col m c b) (omega (arith, start-commit ns ls j))
  commit-again m j k n ls (ast.commit x (Some w)) b e s l = ap (λ c. ast.col m c b) (omega (arith, start-commit ns ls j))
  commit-again m j k n ls (ast.constant x w) b e s l = let no : ⊥ = cc in absurd no
  commit-again m j k n ls (ast.inter x w) b e s l = let no : ⊥ = cc in absurd no
  commit-again m j k n ls (ast.published x w c r) b e s l = let no : ⊥ = cc in absurd no
  commit-again m j k n ls (ast.identity w x y) b e s l = let no : ⊥ = cc in absurd no
  commit-again m j k n ls (ast.lookup x y) b e s l = let no : ⊥ = cc in absurd no
  commit-again m j k n ls (ast.bus x y) b e s l = let no : ⊥ = cc in absurd no

  pub constant-polynomial : (item : Line) → is_constant item ≡ true → IsPolynomial item
  constant-polynomial (ast.constant x w) e = tt
  constant-polynomial (ast.commit x w) e = tt
  constant-polynomial (ast.inter x w) e = tt
  constant-polynomial (ast.published x w c r) e = let no : ⊥ = cc in absurd no
  constant-polynomial (ast.identity w x y) e = let no : ⊥ = cc in absurd no
  constant-polynomial (ast.lookup x y) e = let no : ⊥ = cc in absurd no
  constant-polynomial (ast.bus x y) e = let no : ⊥ = cc in absurd no

  pub commit-polynomial : (item : Line) → is_commit item ≡ true → IsPolynomial item
  commit-polynomial (ast.constant x w) e = tt
  commit-polynomial (ast.commit x w) e = tt
  commit-polynomial (ast.inter x w) e = tt
  commit-polynomial (ast.published x w c r) e = let no : ⊥ = cc in absurd no
  commit-polynomial (ast.identity w x y) e = let no : ⊥ = cc in absurd no
  commit-polynomial (ast.lookup x y) e = let no : ⊥ = cc in absurd no
  commit-polynomial (ast.bus x y) e = let no : ⊥ = cc in absurd no

  pub column-again : (s m k : ℕ) (b : Bool) → m < length ns → k < width (space_at ns m).items → read_reference (outline ns) s (column_reference ns m k b) ≡ ast.col m k b
  column-again s m k b l h = elim (column-place (space_at ns m).items k h) [
    | inl at ↦ of-constant at
    | inr at ↦ of-commit at.0 at.1
  ]
    where
      of-constant : IsAt is_constant (space_at ns m).items k (spot_in (declared (space_at ns m).items) k) → read_reference (outline ns) s (column_reference ns m k b) ≡ ast.col m k b
      of-constant at =
          let spot = spot_in (declared (space_at ns m).items) k in
          named-again s m at.place spot.item (index_in spot.item spot.index) b l at.within (constant-polynomial spot.item at.kind) at.item
          ∙ (constant-again m at.place k spot.index (space_at ns m).items spot.item (is_some (mark_of b)) at.kind at.start at.index ∙ ap (ast.col m k) (marked-again b))

      of-commit : sum_by columns_of (filter is_constant (space_at ns m).items) ≤ k → IsAt is_commit (space_at ns m).items (k - sum_by columns_of (filter is_constant (space_at ns m).items)) (spot_in (declared (space_at ns m).items) k) → read_reference (outline ns) s (column_reference ns m k b) ≡ ast.col m k b
      of-commit small at =
          let spot = spot_in (declared (space_at ns m).items) k in
          let before = sum_by columns_of (filter is_constant (space_at ns m).items) in
          named-again s m at.place spot.item (index_in spot.item spot.index) b l at.within (commit-polynomial spot.item at.kind) at.item
          ∙ (commit-again m at.place k spot.index (space_at ns m).items spot.item (is_some (mark_of b)) at.kind (omega (arith, at.start, small)) at.index ∙ ap (ast.col m k) (marked-again b))

  pub inter-again : (s m k : ℕ) (b : Bool) → m < length ns → k < length (space_at ns m).items → IsInter (item_at (space_at ns m).items k) → read_reference (outline ns) s (inter_reference ns m k b) ≡ ast.mid m k b
  inter-again s m k b l within is = of-item (item_at (space_at ns m).items k) refl is
    where
      of-item : (item : Line) → item_at (space_at ns m).items k ≡ item → IsInter item → read_reference (outline ns) s (reference_to ns m item None b) ≡ ast.mid m k b
      of-item (ast.constant x w) e i = absurd i
      of-item (ast.commit x w) e i = absurd i
      of-item (ast.inter x w) e i = named-again s m k (ast.inter x w) None b l within tt e ∙ ap (ast.mid m k) (marked-again b)
      of-item (ast.published x w c r) e i = absurd i
      of-item (ast.identity w x y) e i = absurd i
      of-item (ast.lookup x y) e i = absurd i
      of-item (ast.bus x y) e i = absurd i

-- the namespaces that an expression names, in order
abbrev pub spaces_in : ast.Term → List ℕ
spaces_in (ast.num n) = []
spaces_in (ast.col s k b) = s ∷ []
spaces_in (ast.mid s k b) = s ∷ []
spaces_in (ast.public k) = []
spaces_in (ast.opp a) = spaces_in a
spaces_in (ast.◌⊕◌ a b) = spaces_in a ++ spaces_in b
spaces_in (ast.◌⊖◌ a b) = spaces_in a ++ spaces_in b
spaces_in (ast.◌⊗◌ a b) = spaces_in a ++ spaces_in b

abbrev pub first_or : ℕ → List ℕ → ℕ
first_or s [] = s
first_or s (x ∷ xs) = x

abbrev pub sel_terms : Option ast.Term → List ast.Term
sel_terms None = []
sel_terms (Some e) = e ∷ []

-- an identity or list that names no polynomial is over the namespace in which it stands
abbrev pub IsPlacedList : ℕ → Tuples → Type 0
IsPlacedList s a = first_or s (flat_map spaces_in (sel_terms a.sel ++ a.terms)) ≡ a.space

abbrev pub IsPlaced : ℕ → Line → Type 0
IsPlaced s (ast.identity m a b) = first_or s (flat_map spaces_in (a ∷ b ∷ [])) ≡ m
IsPlaced s (ast.lookup a b) = IsPlacedList s a × IsPlacedList s b
IsPlaced s (ast.bus ls rs) = All (IsPlacedList s) ls × All (IsPlacedList s) rs
IsPlaced s _ = Unit {0}

pub first-home : (o : Outline) (s : ℕ) (rs : List Reference) → unwrap_or (first_home o s rs) s ≡ first_or s (map (home_or o s) rs)
first-home o s [] = refl
first-home o s (r ∷ rs) = refl

pub references-dressed : (l : Level) (t : Term) → references (dressed l t) ≡ references t
references-dressed l (num n) = refl
references-dressed l (col r) = refl
references-dressed l (constant x) = refl
references-dressed l (public x) = refl
references-dressed l (opp a) = references-dressed fact a
references-dressed l (group a) = references-dressed l a
references-dressed expr (a ⊕ b) = joined-same _ _ _ _ (references-dressed expr a) (references-dressed term b)
references-dressed term (a ⊕ b) = joined-same _ _ _ _ (references-dressed expr a) (references-dressed term b)
references-dressed fact (a ⊕ b) = joined-same _ _ _ _ (references-dressed expr a) (references-dressed term b)
references-dressed expr (a ⊖ b) = joined-same _ _ _ _ (references-dressed expr a) (references-dressed term b)
references-dressed term (a ⊖ b) = joined-same _ _ _ _ (references-dressed expr a) (references-dressed term b)
references-dressed fact (a ⊖ b) = joined-same _ _ _ _ (references-dressed expr a) (references-dressed term b)
references-dressed expr (a ⊗ b) = joined-same _ _ _ _ (references-dressed term a) (references-dressed fact b)
references-dressed term (a ⊗ b) = joined-same _ _ _ _ (references-dressed term a) (references-dressed fact b)
references-dressed fact (a ⊗ b) = joined-same _ _ _ _ (references-dressed term a) (references-dressed fact b)

selected-again : (t : Term) → selectors_of (selector_of t) ≡ t ∷ []
selected-again (num n) = refl
selected-again (col r) = refl
selected-again (constant x) = refl
selected-again (public x) = refl
selected-again (opp a) = refl
selected-again (group a) = refl
selected-again (a ⊕ b) = refl
selected-again (a ⊖ b) = refl
selected-again (a ⊗ b) = refl

pub list-terms : (ns : List Namespace) (l : Tuples) → terms_of_list (tuple ns l) ≡ map (expression ns) (sel_terms l.sel ++ l.terms)
list-terms ns l = by-sel l.sel
  where
    by-sel : (sel : Option ast.Term) → selectors_of (selector ns sel) ++ map (expression ns) l.terms ≡ map (expression ns) (sel_terms sel ++ l.terms)
    by-sel None = refl
    by-sel (Some e) = ap (λ es. es ++ map (expression ns) l.terms) (selected-again (expression ns e))

length-again : (n : Option ℕ) → length_number (option_map numeral n) ≡ n
length-again None = refl
length-again (Some n) = refl

-- what is printed of an expression, list or item is read as it, where it is in range
module _ (ns : List Namespace) (named' : IsNamed ns) where
  term-again : (s m : ℕ) (e : ast.Term) → m < length ns → IsTerm ns m e → read_term (outline ns) s (named ns e) ≡ e
  term-again s m (ast.num n) l h = refl
  term-again s m (ast.col n k b) l h = column-again ns named' s n k b (subst (λ j. j < length ns) (sym h.0) l) (subst (λ j. k < width (space_at ns j).items) (sym h.0) h.1)
  term-again s m (ast.mid n k b) l h =
      inter-again ns named' s n k b (subst (λ j. j < length ns) (sym h.0) l) (subst (λ j. k < length (space_at ns j).items) (sym h.0) h.1.0) (subst (λ j. IsInter (item_at (space_at ns j).items k)) (sym h.0) h.1.1)
  term-again s m (ast.public k) l h = ap (λ j. ast.public (unwrap_or j 0)) (public-found ns k named' (omega (arith, publics-counted ns)))
  term-again s m (ast.opp a) l h = ap ast.opp (term-again s m a l h)
  term-again s m (ast.◌⊕◌ a b) l h = pair ast.◌⊕◌ _ _ _ _ (term-again s m a l h.0) (term-again s m b l h.1)
  term-again s m (ast.◌⊖◌ a b) l h = pair ast.◌⊖◌ _ _ _ _ (term-again s m a l h.0) (term-again s m b l h.1)
  term-again s m (ast.◌⊗◌ a b) l h = pair ast.◌⊗◌ _ _ _ _ (term-again s m a l h.0) (term-again s m b l h.1)

  expression-again : (s m : ℕ) (e : ast.Term) → m < length ns → IsTerm ns m e → read_term (outline ns) s (expression ns e) ≡ e
  expression-again s m e l h = read-dressed (outline ns) s expr (named ns e) ∙ term-again s m e l h

  terms-again : (s m : ℕ) (es : List ast.Term) → m < length ns → All (IsTerm ns m) es → map (read_term (outline ns) s) (map (expression ns) es) ≡ es
  terms-again s m [] l h = refl
  terms-again s m (e ∷ es) l h = cons-same _ _ _ _ (expression-again s m e l (All-head (IsTerm ns m) e es h)) (terms-again s m es l (All-tail (IsTerm ns m) e es h))

  -- the namespaces of an expression's references
  spaces-named : (s m : ℕ) (e : ast.Term) → m < length ns → IsTerm ns m e → map (home_or (outline ns) s) (references (named ns e)) ≡ spaces_in e
  spaces-named s m (ast.num n) l h = refl
  spaces-named s m (ast.col n k b) l h = ap (λ j. unwrap_or j s ∷ []) (space-found ns n named' (subst (λ j. j < length ns) (sym h.0) l))
  spaces-named s m (ast.mid n k b) l h = ap (λ j. unwrap_or j s ∷ []) (space-found ns n named' (subst (λ j. j < length ns) (sym h.0) l))
  spaces-named s m (ast.public k) l h = refl
  spaces-named s m (ast.opp a) l h = spaces-named s m a l h
  spaces-named s m (ast.◌⊕◌ a b) l h = map-append (home_or (outline ns) s) (references (named ns a)) (references (named ns b)) ∙ joined-same _ _ _ _ (spaces-named s m a l h.0) (spaces-named s m b l h.1)
  spaces-named s m (ast.◌⊖◌ a b) l h = map-append (home_or (outline ns) s) (references (named ns a)) (references (named ns b)) ∙ joined-same _ _ _ _ (spaces-named s m a l h.0) (spaces-named s m b l h.1)
  spaces-named s m (ast.◌⊗◌ a b) l h = map-append (home_or (outline ns) s) (references (named ns a)) (references (named ns b)) ∙ joined-same _ _ _ _ (spaces-named s m a l h.0) (spaces-named s m b l h.1)

  pub spaces-of-all : (s m : ℕ) (es : List ast.Term) → m < length ns → All (IsTerm ns m) es → map (home_or (outline ns) s) (flat_map references (map (expression ns) es)) ≡ flat_map spaces_in es
  spaces-of-all s m [] l h = refl
  spaces-of-all s m (e ∷ es) l h =
      map-append (home_or (outline ns) s) (references (expression ns e)) (flat_map references (map (expression ns) es))
      ∙ joined-same _ _ _ _ (ap (map (home_or (outline ns) s)) (references-dressed expr (named ns e)) ∙ spaces-named s m e l (All-head (IsTerm ns m) e es h)) (spaces-of-all s m es l (All-tail (IsTerm ns m) e es h))

  pub home-again : (s m : ℕ) (es : List ast.Term) → m < length ns → All (IsTerm ns m) es → home_of_terms (outline ns) s (map (expression ns) es) ≡ first_or s (flat_map spaces_in es)
  home-again s m es l h = first-home (outline ns) s (flat_map references (map (expression ns) es)) ∙ ap (first_or s) (spaces-of-all s m es l h)

  pub list-all : (wide : ℕ) (a : Tuples) → IsList ns wide a → All (IsTerm ns a.space) (sel_terms a.sel ++ a.terms)
  list-all wide a h = All-append (IsTerm ns a.space) (sel_terms a.sel) a.terms (by-sel a.sel h.sel) h.terms
    where
      by-sel : (sel : Option ast.Term) → IsSelector ns a.space sel → All (IsTerm ns a.space) (sel_terms sel)
      by-sel None g = All-nil (IsTerm ns a.space)
      by-sel (Some e) g = All-cons (IsTerm ns a.space) e [] g (All-nil (IsTerm ns a.space))

  selector-again : (s m : ℕ) (sel : Option ast.Term) → m < length ns → IsSelector ns m sel → read_filter (outline ns) s (selector ns sel) ≡ sel
  selector-again s m None l h = refl
  selector-again s m (Some e) l h = read-selector (outline ns) s (expression ns e) ∙ ap Some (expression-again s m e l h)

  tuple-again : (s wide : ℕ) (a : Tuples) → IsList ns wide a → IsPlacedList s a → read_tuple (outline ns) s (tuple ns a) ≡ a
  tuple-again s wide a h placed =
      same-tuples _ _ _ _ _ _
      (ap (home_of_terms (outline ns) s) (list-terms ns a) ∙ home-again s a.space (sel_terms a.sel ++ a.terms) h.space (list-all wide a h) ∙ placed)
      (selector-again s a.space a.sel h.space h.sel)
      (terms-again s a.space a.terms h.space h.terms)

  tuples-again : (s wide : ℕ) (ls : List Tuples) → All (IsList ns wide) ls → All (IsPlacedList s) ls → map (read_tuple (outline ns) s) (map (tuple ns) ls) ≡ ls
  tuples-again s wide [] h g = refl
  tuples-again s wide (a ∷ ls) h g =
      cons-same _ _ _ _ (tuple-again s wide a (All-head (IsList ns wide) a ls h) (All-head (IsPlacedList s) a ls g)) (tuples-again s wide ls (All-tail (IsList ns wide) a ls h) (All-tail (IsPlacedList s) a ls g))

  item-again : (s : ℕ) (l : Line) → s < length ns → IsItem ns s l → IsPlaced s l → read_draft (outline ns) s (draft ns l) ≡ l
  item-again s (ast.constant x n) l h g = ap (ast.constant x) (length-again n)
  item-again s (ast.commit x n) l h g = ap (ast.commit x) (length-again n)
  item-again s (ast.inter x e) l h g = ap (ast.inter x) (expression-again s s e l h)
  item-again s (ast.published x m k r) l h g =
      ap (λ j. ast.published x (unwrap_or j s) (column_number (read_reference (outline ns) s (column_reference ns m k false))) r) (space-found ns m named' h.0)
      ∙ ap (λ t. ast.published x m (column_number t) r) (column-again ns named' s m k false h.0 h.1)
  item-again s (ast.identity m a b) l h g =
      ap (λ j. ast.identity j (read_term (outline ns) s (expression ns a)) (read_term (outline ns) s (expression ns b)))
      (home-again s m (a ∷ b ∷ []) h.0 (All-cons (IsTerm ns m) a (b ∷ []) h.1 (All-cons (IsTerm ns m) b [] h.2 (All-nil (IsTerm ns m)))) ∙ g)
      ∙ (ap (λ t. ast.identity m t (read_term (outline ns) s (expression ns b))) (expression-again s m a h.0 h.1) ∙ ap (ast.identity m a) (expression-again s m b h.0 h.2))
  item-again s (ast.lookup a b) l h g =
      ap (λ t. ast.lookup t (read_tuple (outline ns) s (tuple ns b))) (tuple-again s h.0 a h.2 g.0) ∙ ap (ast.lookup a) (tuple-again s h.0 b h.3 g.1)
  item-again s (ast.bus ls rs) l h g =
      ap (λ t. ast.bus t (map (read_tuple (outline ns) s) (map (tuple ns) rs))) (tuples-again s h.0 ls h.4 g.0) ∙ ap (ast.bus ls) (tuples-again s h.0 rs h.5 g.1)

  items-again : (s : ℕ) (ls : List Line) → s < length ns → All (IsItem ns s) ls → All (IsPlaced s) ls → map (read_draft (outline ns) s) (map (draft ns) ls) ≡ ls
  items-again s [] l h g = refl
  items-again s (x ∷ ls) l h g = cons-same _ _ _ _ (item-again s x l (All-head (IsItem ns s) x ls h) (All-head (IsPlaced s) x ls g)) (items-again s ls l (All-tail (IsItem ns s) x ls h) (All-tail (IsPlaced s) x ls g))

  homes-again : (n : ℕ) (ms : List Namespace) → ((j : ℕ) → j < length ms → (n + j < length ns) × All (IsItem ns (n + j)) (space_at ms j).items × All (IsPlaced (n + j)) (space_at ms j).items) → read_homes (outline ns) n (map (home ns) ms) ≡ ms
  homes-again n [] h = refl
  homes-again n (m ∷ ms) h =
      let first = h 0 (omega arith) in
      let z : n + 0 ≡ n = omega arith in
      cons-same _ _ _ _
      (ap (λ ls. let a : Namespace = record { name = m.name; rows = m.rows; items = ls } in a)
      (items-again n m.items (subst (λ k. k < length ns) z first.0) (subst (λ k. All (IsItem ns k) m.items) z first.1) (subst (λ k. All (IsPlaced k) m.items) z first.2)))
      (homes-again (n + 1) ms (λ j l. let x = h (suc j) (omega arith) in let e : n + suc j ≡ n + 1 + j = omega arith in (subst (λ k. k < length ns) e x.0, subst (λ k. All (IsItem ns k) (space_at ms j).items) e x.1, subst (λ k. All (IsPlaced k) (space_at ms j).items) e x.2)))

-- each identity and list without polynomials is over the namespace in which it stands
pub record ArePlaced (ns : List Namespace) : Type 0 where
  pub each : (s : ℕ) → s < length ns → All (IsPlaced s) (space_at ns s).items

-- the outline of a printed text means what was printed
pub meaning-again : (ns : List Namespace) → IsSound ns → IsNamed ns → ArePlaced ns → meaning (outline ns) ≡ ns
meaning-again ns sound named' placed =
    homes-again ns named' 0 ns (λ j l. let z : j ≡ 0 + j = omega arith in (subst (λ k. k < length ns) z l, subst (λ k. All (IsItem ns k) (space_at ns j).items) z (sound.spaces j l).items, subst (λ k. All (IsPlaced k) (space_at ns j).items) z (placed.each j l)))
