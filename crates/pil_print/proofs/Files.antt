-- A printed text is a file within the limits of what was read.
use Rattle.std.proofs.Common.{ℕ, ◌≡◌, ◌+◌, List, [], ◌∷◌, ◌++◌, Bool, true, false, max, map, Option, Some, None, refl, sym, ap, subst, ◌∙◌, arith, All}
use Rattle.std.specs.Prelude.{flat_map}
use Rattle.std.proofs.lemmas.List.Elements.{All-nil, All-cons, All-head, All-tail, All-append}
use Rattle.pil_syntax.specs.declared.tree.Number.{Number}
use Rattle.pil_syntax.specs.declared.tree.Reference.{Reference}
use Rattle.pil_syntax.specs.declared.tree.Declaration.{Declaration}
use Rattle.pil_syntax.specs.declared.tree.ColumnKind.{ColumnKind}
use Rattle.pil_syntax.specs.declared.tree.ColumnKind.TheVariants.{Constant, Commit}
use Rattle.pil_syntax.specs.Tree.{Term, num, col, constant, public, opp, group, ◌⊕◌, ◌⊖◌, ◌⊗◌, Filter, every, by_col, by_group, Tuple, Sentence, constant_is, namespace_of, columns, intermediate, public_is, identity, lookup, bus}
use Rattle.pil_syntax.specs.Grammar.{Level, expr, term, fact, nesting, operators, limits, IsWhole, IsFilter, EachOf, IsTuple, IsSentence, IsFile}
use Rattle.pil_syntax.specs.Printing.{bare, dressed, IsDressing}
use Rattle.pil_ast.specs.Term.{Namespace}
use Rattle.pil_names.specs.Outline.{Draft, column, defined, published, equal, inside, against, Home, Outline, drafts_of, items_before, homes_of, outline_of, home_at, draft_at}
use Rattle.pil_names.specs.Finding.{item_named}
use Rattle.pil_meaning.specs.Meaning.{named_item, read_in, read_term, read_filter, read_tuple, read_draft, read_homes, meaning}
use Rattle.pil_print.specs.Statements.{numeral, named, expression, selector_of, selector, tuple, statement, statements_of, sentences_of}

-- an expression with 0 for each name and number
abbrev shape : Term → Term
shape (num n) = num (numeral 0)
shape (col r) = num (numeral 0)
shape (constant x) = num (numeral 0)
shape (public x) = num (numeral 0)
shape (opp a) = opp (shape a)
shape (group a) = group (shape a)
shape (a ⊕ b) = shape a ⊕ shape b
shape (a ⊖ b) = shape a ⊖ shape b
shape (a ⊗ b) = shape a ⊗ shape b

pair : (f : Term → Term → Term) (a b c d : Term) → a ≡ c → b ≡ d → f a b ≡ f c d
pair f a b c d p q = ap (λ x. f x b) p ∙ ap (f c) q

shape-dressed : (l : Level) (t : Term) → shape (dressed l t) ≡ dressed l (shape t)
shape-dressed l (num n) = refl
shape-dressed l (col r) = refl
shape-dressed l (constant x) = refl
shape-dressed l (public x) = refl
shape-dressed l (opp a) = ap opp (shape-dressed fact a)
shape-dressed l (group a) = shape-dressed l a
shape-dressed expr (a ⊕ b) = pair ◌⊕◌ _ _ _ _ (shape-dressed expr a) (shape-dressed term b)
shape-dressed term (a ⊕ b) = ap group (pair ◌⊕◌ _ _ _ _ (shape-dressed expr a) (shape-dressed term b))
shape-dressed fact (a ⊕ b) = ap group (pair ◌⊕◌ _ _ _ _ (shape-dressed expr a) (shape-dressed term b))
shape-dressed expr (a ⊖ b) = pair ◌⊖◌ _ _ _ _ (shape-dressed expr a) (shape-dressed term b)
shape-dressed term (a ⊖ b) = ap group (pair ◌⊖◌ _ _ _ _ (shape-dressed expr a) (shape-dressed term b))
shape-dressed fact (a ⊖ b) = ap group (pair ◌⊖◌ _ _ _ _ (shape-dressed expr a) (shape-dressed term b))
shape-dressed expr (a ⊗ b) = pair ◌⊗◌ _ _ _ _ (shape-dressed term a) (shape-dressed fact b)
shape-dressed term (a ⊗ b) = pair ◌⊗◌ _ _ _ _ (shape-dressed term a) (shape-dressed fact b)
shape-dressed fact (a ⊗ b) = ap group (pair ◌⊗◌ _ _ _ _ (shape-dressed term a) (shape-dressed fact b))

nesting-shape : (t : Term) → nesting (shape t) ≡ nesting t
nesting-shape (num n) = refl
nesting-shape (col r) = refl
nesting-shape (constant x) = refl
nesting-shape (public x) = refl
nesting-shape (opp a) = ap (λ n. n + 1) (nesting-shape a)
nesting-shape (group a) = ap (λ n. n + 1) (nesting-shape a)
nesting-shape (a ⊕ b) = ap (λ n. max n (nesting (shape b))) (nesting-shape a) ∙ ap (max (nesting a)) (nesting-shape b)
nesting-shape (a ⊖ b) = ap (λ n. max n (nesting (shape b))) (nesting-shape a) ∙ ap (max (nesting a)) (nesting-shape b)
nesting-shape (a ⊗ b) = ap (λ n. max n (nesting (shape b))) (nesting-shape a) ∙ ap (max (nesting a)) (nesting-shape b)

operators-shape : (t : Term) → operators (shape t) ≡ operators t
operators-shape (num n) = refl
operators-shape (col r) = refl
operators-shape (constant x) = refl
operators-shape (public x) = refl
operators-shape (opp a) = operators-shape a
operators-shape (group a) = operators-shape a
operators-shape (a ⊕ b) = omega (arith, operators-shape a, operators-shape b)
operators-shape (a ⊖ b) = omega (arith, operators-shape a, operators-shape b)
operators-shape (a ⊗ b) = omega (arith, operators-shape a, operators-shape b)

shape-item : (ns : List Namespace) (m k : ℕ) (ds : List Draft) (d : Draft) (i : Option Number) (b : Bool) → shape (named ns (named_item m ds k d i b)) ≡ num (numeral 0)
shape-item ns m k ds (column c d) i b = refl
shape-item ns m k ds (defined x e) i b = refl
shape-item ns m k ds (published x r n) i b = refl
shape-item ns m k ds (equal x y) i b = refl
shape-item ns m k ds (inside x y) i b = refl
shape-item ns m k ds (against x y) i b = refl

shape-in : (ns : List Namespace) (o : Outline) (m : ℕ) (r : Reference) (k : Option ℕ) → shape (named ns (read_in o m r k)) ≡ num (numeral 0)
shape-in ns o m r None = refl
shape-in ns o m r (Some k) = shape-item ns m k (home_at o.homes m).items (draft_at (home_at o.homes m).items k) r.index _

module _ (ns : List Namespace) (o : Outline) (s : ℕ) where
  shape-read : (e : Term) → shape (named ns (read_term o s e)) ≡ shape (bare e)
  shape-read (num n) = refl
  shape-read (col r) = shape-in ns o _ r (item_named o _ r)
  shape-read (constant x) = refl
  shape-read (public x) = refl
  shape-read (opp a) = ap opp (shape-read a)
  shape-read (group a) = shape-read a
  shape-read (a ⊕ b) = pair ◌⊕◌ _ _ _ _ (shape-read a) (shape-read b)
  shape-read (a ⊖ b) = pair ◌⊖◌ _ _ _ _ (shape-read a) (shape-read b)
  shape-read (a ⊗ b) = pair ◌⊗◌ _ _ _ _ (shape-read a) (shape-read b)

  shape-printed : (e : Term) → shape (expression ns (read_term o s e)) ≡ shape (dressed expr (bare e))
  shape-printed e = shape-dressed expr (named ns (read_term o s e)) ∙ ap (dressed expr) (shape-read e) ∙ sym (shape-dressed expr (bare e))

  nested-alike : (e : Term) → nesting (expression ns (read_term o s e)) ≡ nesting (dressed expr (bare e))
  nested-alike e = sym (nesting-shape (expression ns (read_term o s e))) ∙ ap nesting (shape-printed e) ∙ nesting-shape (dressed expr (bare e))

  operators-alike : (e : Term) → operators (expression ns (read_term o s e)) ≡ operators (dressed expr (bare e))
  operators-alike e = sym (operators-shape (expression ns (read_term o s e))) ∙ ap operators (shape-printed e) ∙ operators-shape (dressed expr (bare e))

  module _ (law : IsDressing) where
    whole : (e : Term) → IsWhole limits e → IsWhole limits (expression ns (read_term o s e))
    whole e h =
        let w = law.within limits e h in
        record { level = law.level expr (named ns (read_term o s e)); nesting = omega (arith, nested-alike e, w.nesting); operators = omega (arith, operators-alike e, w.operators) }

    whole-group : (e : Term) → IsWhole limits (group e) → IsWhole limits (group (expression ns (read_term o s e)))
    whole-group e h =
        let w = law.selector limits e h in
        record { level = law.level expr (named ns (read_term o s e)); nesting = omega (arith, nested-alike e, w.nesting); operators = omega (arith, operators-alike e, w.operators) }

    filter-of : (t : Term) → IsWhole limits (group t) → IsFilter limits (selector_of t)
    filter-of (num n) h = h
    filter-of (col r) h = tt
    filter-of (constant x) h = h
    filter-of (public x) h = h
    filter-of (opp a) h = h
    filter-of (group a) h = h
    filter-of (a ⊕ b) h = h
    filter-of (a ⊖ b) h = h
    filter-of (a ⊗ b) h = h

    alone : (r : Reference) → IsWhole limits (group (col r))
    alone r = record { level = tt; nesting = omega arith; operators = omega arith }

    filter-whole : (f : Filter) → IsFilter limits f → IsFilter limits (selector ns (read_filter o s f))
    filter-whole every h = tt
    filter-whole (by_col r) h = filter-of (expression ns (read_term o s (col r))) (whole-group (col r) (alone r))
    filter-whole (by_group e) h = filter-of (expression ns (read_term o s e)) (whole-group e h)

    each-mapped : {X Y : Type 0} (P : X → Type 0) (Q : Y → Type 0) (f : X → Y) (xs : List X) → ((x : X) → P x → Q (f x)) → EachOf P xs → EachOf Q (map f xs)
    each-mapped P Q f [] g h = absurd h
    each-mapped P Q f (x ∷ []) g h = g x h
    each-mapped P Q f (x ∷ y ∷ xs) g h = (g x h.0, each-mapped P Q f (y ∷ xs) g h.1)

    map-twice : {X Y Z : Type 0} (f : Y → Z) (g : X → Y) (xs : List X) → map f (map g xs) ≡ map (λ x. f (g x)) xs
    map-twice f g [] = refl
    map-twice f g (x ∷ xs) = ap (λ ys. f (g x) ∷ ys) (map-twice f g xs)

    tuple-whole : (l : Tuple) → IsTuple limits l → IsTuple limits (tuple ns (read_tuple o s l))
    tuple-whole l h = record {
      filter = filter-whole l.filter h.filter;
      entries = subst (EachOf (IsWhole limits)) (sym (map-twice (expression ns) (read_term o s) l.entries)) (each-mapped (IsWhole limits) (IsWhole limits) (λ e. expression ns (read_term o s e)) l.entries whole h.entries);
    }

    tuples-whole : (ls : List Tuple) → EachOf (IsTuple limits) ls → EachOf (IsTuple limits) (map (tuple ns) (map (read_tuple o s) ls))
    tuples-whole ls h = subst (EachOf (IsTuple limits)) (sym (map-twice (tuple ns) (read_tuple o s) ls)) (each-mapped (IsTuple limits) (IsTuple limits) (λ l. tuple ns (read_tuple o s l)) ls tuple-whole h)

-- an item is within the limits
abbrev FitsIn : Draft → Type 0
FitsIn (column k d) = Unit {0}
FitsIn (defined x e) = IsWhole limits e
FitsIn (published x r n) = Unit {0}
FitsIn (equal a b) = IsWhole limits a × IsWhole limits b
FitsIn (inside a b) = IsTuple limits a × IsTuple limits b
FitsIn (against ls rs) = EachOf (IsTuple limits) ls × EachOf (IsTuple limits) rs

draft-whole : (ns : List Namespace) (o : Outline) (s : ℕ) → IsDressing → (d : Draft) → FitsIn d → IsSentence limits (statement ns (read_draft o s d))
draft-whole ns o s law (column Constant d) h = tt
draft-whole ns o s law (column Commit d) h = tt
draft-whole ns o s law (defined x e) h = whole ns o s law e h
draft-whole ns o s law (published x r n) h = tt
draft-whole ns o s law (equal a b) h = (whole ns o s law a h.0, whole ns o s law b h.1)
draft-whole ns o s law (inside a b) h = (tuple-whole ns o s law a h.0, tuple-whole ns o s law b h.1)
draft-whole ns o s law (against ls rs) h = (tuples-whole ns o s law ls h.0, tuples-whole ns o s law rs h.1)

-- the items of a file are
columns-fit : (k : ColumnKind) (ds : List Declaration) → All FitsIn (map (column k) ds)
columns-fit k [] = All-nil FitsIn
columns-fit k (d ∷ ds) = All-cons FitsIn (column k d) (map (column k) ds) tt (columns-fit k ds)

one : (d : Draft) → FitsIn d → All FitsIn (d ∷ [])
one d h = All-cons FitsIn d [] h (All-nil FitsIn)

sentence-fits : (s : Sentence) → IsSentence limits s → All FitsIn (drafts_of s)
sentence-fits (constant_is x n) h = All-nil FitsIn
sentence-fits (namespace_of x n) h = All-nil FitsIn
sentence-fits (columns k ds) h = columns-fit k ds
sentence-fits (intermediate x e) h = one (defined x e) h
sentence-fits (public_is x r n) h = one (published x r n) tt
sentence-fits (identity a b) h = one (equal a b) h
sentence-fits (lookup a b) h = one (inside a b) h
sentence-fits (bus a b) h = one (against a b) h

record Fit (ss : List Sentence) : Type 0 where
  homes : All (λ (h : Home). All FitsIn h.items) (homes_of ss)
  before : All FitsIn (items_before ss)

more : (s : Sentence) (ss : List Sentence) → IsSentence limits s → All FitsIn (items_before ss) → All FitsIn (drafts_of s ++ items_before ss)
more s ss h a = All-append FitsIn (drafts_of s) (items_before ss) (sentence-fits s h) a

file-fits : (begun : Bool) (ss : List Sentence) → IsFile limits begun ss → Fit ss
file-fits begun [] f = record { homes = All-nil (λ (h : Home). All FitsIn h.items); before = All-nil FitsIn }
file-fits begun (constant_is x n ∷ ss) f = let r = file-fits begun ss f in record { homes = r.homes; before = r.before }
file-fits begun (namespace_of x n ∷ ss) f =
    let r = file-fits true ss f in
    record { homes = All-cons (λ (h : Home). All FitsIn h.items) (record { name = x; size = n; items = items_before ss }) (homes_of ss) r.before r.homes; before = All-nil FitsIn }
file-fits begun (columns k ds ∷ ss) f = let r = file-fits begun ss f.2 in record { homes = r.homes; before = more (columns k ds) ss f.1 r.before }
file-fits begun (intermediate x e ∷ ss) f = let r = file-fits begun ss f.2 in record { homes = r.homes; before = more (intermediate x e) ss f.1 r.before }
file-fits begun (public_is x c n ∷ ss) f = let r = file-fits begun ss f.2 in record { homes = r.homes; before = more (public_is x c n) ss f.1 r.before }
file-fits begun (identity a b ∷ ss) f = let r = file-fits begun ss f.2 in record { homes = r.homes; before = more (identity a b) ss f.1 r.before }
file-fits begun (lookup a b ∷ ss) f = let r = file-fits begun ss f.2 in record { homes = r.homes; before = more (lookup a b) ss f.1 r.before }
file-fits begun (bus ls rs ∷ ss) f = let r = file-fits begun ss f.2 in record { homes = r.homes; before = more (bus ls rs) ss f.1 r.before }

-- the statements of printed namespaces are a file
items-file : (ns : List Namespace) (o : Outline) (s : ℕ) → IsDressing → (ds : List Draft) (rest : List Sentence) → All FitsIn ds → IsFile limits true rest → IsFile limits true (map (statement ns) (map (read_draft o s) ds) ++ rest)
items-file ns o s law [] rest h f = f
items-file ns o s law (column Constant d ∷ ds) rest h f = (refl, tt, items-file ns o s law ds rest (All-tail FitsIn (column Constant d) ds h) f)
items-file ns o s law (column Commit d ∷ ds) rest h f = (refl, tt, items-file ns o s law ds rest (All-tail FitsIn (column Commit d) ds h) f)
items-file ns o s law (defined x e ∷ ds) rest h f = (refl, draft-whole ns o s law (defined x e) (All-head FitsIn (defined x e) ds h), items-file ns o s law ds rest (All-tail FitsIn (defined x e) ds h) f)
items-file ns o s law (published x r n ∷ ds) rest h f = (refl, draft-whole ns o s law (published x r n) (All-head FitsIn (published x r n) ds h), items-file ns o s law ds rest (All-tail FitsIn (published x r n) ds h) f)
items-file ns o s law (equal a b ∷ ds) rest h f = (refl, draft-whole ns o s law (equal a b) (All-head FitsIn (equal a b) ds h), items-file ns o s law ds rest (All-tail FitsIn (equal a b) ds h) f)
items-file ns o s law (inside a b ∷ ds) rest h f = (refl, draft-whole ns o s law (inside a b) (All-head FitsIn (inside a b) ds h), items-file ns o s law ds rest (All-tail FitsIn (inside a b) ds h) f)
items-file ns o s law (against ls rs ∷ ds) rest h f = (refl, draft-whole ns o s law (against ls rs) (All-head FitsIn (against ls rs) ds h), items-file ns o s law ds rest (All-tail FitsIn (against ls rs) ds h) f)

homes-file : (ns : List Namespace) (o : Outline) (n : ℕ) → IsDressing → (begun : Bool) (hs : List Home) → All (λ (h : Home). All FitsIn h.items) hs → IsFile limits begun (flat_map (statements_of ns) (read_homes o n hs))
homes-file ns o n law begun [] h = tt
homes-file ns o n law begun (k ∷ hs) h =
    items-file ns o n law k.items (flat_map (statements_of ns) (read_homes o (n + 1) hs)) (All-head (λ (j : Home). All FitsIn j.items) k hs h) (homes-file ns o (n + 1) law true hs (All-tail (λ (j : Home). All FitsIn j.items) k hs h))

pub file-again : IsDressing → (ss : List Sentence) → IsFile limits false ss → IsFile limits false (sentences_of (meaning (outline_of ss)))
file-again law ss f = homes-file (meaning (outline_of ss)) (outline_of ss) 0 law false (homes_of ss) (file-fits false ss f).homes
