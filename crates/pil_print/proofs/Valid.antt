-- A printed text has names and numbers that a text can have, and the printed numbers are of the field.
use Rattle.std.proofs.Common.{ℕ, zero, suc, ◌≡◌, ◌<◌, ◌≤◌, ◌+◌, List, [], ◌∷◌, ◌++◌, Bool, true, false, length, map, filter, Option, Some, None, refl, sym, ap, subst, arith, All, inl, inr}
use Rattle.std.specs.Prelude.{flat_map, option_map}
use Rattle.std.proofs.lemmas.List.Elements.{All-nil, All-cons, All-head, All-tail, All-append, All-map, All-weaker}
use Rattle.gold.specs.Field.{p}
use Rattle.pil_token.specs.declared.token.Placed.{Placed}
use Rattle.pil_token.specs.declared.token.Mark.{Mark}
use Rattle.pil_token.specs.declared.token.Mark.TheVariants.{Equals, Semicolon, OpenParen, CloseParen, OpenBrace, CloseBrace, Comma, Plus, Minus, Star}
use Rattle.pil_token.specs.declared.token.Word.TheVariants.{In, Is}
use Rattle.pil_token.specs.Spelling.{IsName}
use Rattle.pil_token.specs.Spelled.{IsToken}
use Rattle.pil_syntax.specs.declared.tree.Number.{Number}
use Rattle.pil_syntax.specs.declared.tree.Declaration.{Declaration}
use Rattle.pil_syntax.specs.declared.tree.ColumnKind.{ColumnKind}
use Rattle.pil_syntax.specs.declared.tree.ColumnKind.TheVariants.{Constant, Commit}
use Rattle.pil_syntax.specs.Tree.{Term, num, col, constant, public, opp, group, ◌⊕◌, ◌⊖◌, ◌⊗◌, Sentence, constant_is, namespace_of, columns, intermediate, public_is, identity, lookup, bus}
use Rattle.pil_syntax.specs.Grammar.{Level, expr, term, fact}
use Rattle.pil_syntax.specs.Printing.{dressed}
use Rattle.pil_syntax.specs.Spelling.{mark, marked, word, index_tokens, next_tokens, ref_tokens, term_tokens, filter_tokens, joined, tuple_tokens, declaration_tokens, sentence_tokens, tokens_of}
use Rattle.pil_ast.specs.Term as ast
use Rattle.pil_ast.specs.Term.{Namespace, Line, Tuples, item_at, space_at, columns_of, width}
use Rattle.pil_ast.specs.Sound.{IsTerm, IsSelector, IsList, IsItem, IsLength, IsInter, IsSound}
use Rattle.pil_names.specs.Outline.{Draft, column, defined, published, equal, inside, against, Named, Home, Outline, drafts_of, items_before, homes_of, outline_of, home_at}
use Rattle.pil_names.specs.Wrongs.{terms_of, terms_of_list}
use Rattle.pil_meaning.specs.Meaning.{read_draft, read_homes, meaning}
use Rattle.pil_meaning.specs.Soundness.{IsInField, HasNumbers}
use Rattle.pil_meaning.specs.Standing.{MeaningIsReading}
use Rattle.pil_print.proofs.Parted.{home_all}
use Rattle.pil_print.specs.Statements.{numeral, name_of, is_constant, is_commit, is_public, declared, spot_in, index_in, mark_of, reference_to, column_reference, published as published_of, named, expression, selector_of, selector, tuple, statement, statements_of, sentences_of}
use Rattle.pil_print.proofs.Printable.{publics-counted}
use Rattle.pil_print.proofs.Outlines.{draft, home, outline, column-place}
use Rattle.pil_print.proofs.Rereads.{sel_terms, list-terms}
use Rattle.pil_print.proofs.Lexed.{AreTokens, both, are-tokens}

from-tokens : (ps : List Placed) → AreTokens ps → All (λ t. IsToken t.token) ps
from-tokens [] h = All-nil (λ (t : Placed). IsToken t.token)
from-tokens (q ∷ ps) h = All-cons (λ (t : Placed). IsToken t.token) q ps h.0 (from-tokens ps h.1)

joined-tokens : (ps qs : List Placed) → AreTokens ps → AreTokens qs → AreTokens (ps ++ qs)
joined-tokens [] qs a b = b
joined-tokens (q ∷ ps) qs a b = (a.0, joined-tokens ps qs a.1 b)

parted-tokens : {A : Type 0} (m : Mark) (f : A → List Placed) (xs : List A) → All (λ x. AreTokens (f x)) xs → AreTokens (joined m f xs)
parted-tokens m f [] h = tt
parted-tokens m f (x ∷ []) h = All-head (λ x. AreTokens (f x)) x [] h
parted-tokens m f (x ∷ y ∷ xs) h = joined-tokens (f x) (mark m ∷ joined m f (y ∷ xs)) (All-head (λ x. AreTokens (f x)) x (y ∷ xs) h) (tt, parted-tokens m f (y ∷ xs) (All-tail (λ x. AreTokens (f x)) x (y ∷ xs) h))

closed-tokens : (ps : List Placed) → AreTokens ps → AreTokens (mark OpenParen ∷ (ps ++ mark CloseParen ∷ []))
closed-tokens ps h = (tt, joined-tokens ps (mark CloseParen ∷ []) h (tt, tt))

two-tokens : (ps qs : List Placed) (m : Mark) → AreTokens ps → AreTokens qs → AreTokens (ps ++ mark m ∷ qs)
two-tokens ps qs m a b = joined-tokens ps (mark m ∷ qs) a (tt, b)

dressed-tokens : (l : Level) (t : Term) → AreTokens (term_tokens t) → AreTokens (term_tokens (dressed l t))
dressed-tokens l (num n) h = h
dressed-tokens l (col r) h = h
dressed-tokens l (constant x) h = h
dressed-tokens l (public x) h = h
dressed-tokens l (opp a) h = (tt, dressed-tokens fact a h.1)
dressed-tokens l (group a) h = dressed-tokens l a (both (term_tokens a) (mark CloseParen ∷ []) h.1).0
dressed-tokens expr (a ⊕ b) h = let g = both (term_tokens a) (mark Plus ∷ term_tokens b) h in two-tokens (term_tokens (dressed expr a)) (term_tokens (dressed term b)) Plus (dressed-tokens expr a g.0) (dressed-tokens term b g.1.1)
dressed-tokens term (a ⊕ b) h = let g = both (term_tokens a) (mark Plus ∷ term_tokens b) h in closed-tokens (term_tokens (dressed expr a) ++ mark Plus ∷ term_tokens (dressed term b)) (two-tokens (term_tokens (dressed expr a)) (term_tokens (dressed term b)) Plus (dressed-tokens expr a g.0) (dressed-tokens term b g.1.1))
dressed-tokens fact (a ⊕ b) h = let g = both (term_tokens a) (mark Plus ∷ term_tokens b) h in closed-tokens (term_tokens (dressed expr a) ++ mark Plus ∷ term_tokens (dressed term b)) (two-tokens (term_tokens (dressed expr a)) (term_tokens (dressed term b)) Plus (dressed-tokens expr a g.0) (dressed-tokens term b g.1.1))
dressed-tokens expr (a ⊖ b) h = let g = both (term_tokens a) (mark Minus ∷ term_tokens b) h in two-tokens (term_tokens (dressed expr a)) (term_tokens (dressed term b)) Minus (dressed-tokens expr a g.0) (dressed-tokens term b g.1.1)
dressed-tokens term (a ⊖ b) h = let g = both (term_tokens a) (mark Minus ∷ term_tokens b) h in closed-tokens (term_tokens (dressed expr a) ++ mark Minus ∷ term_tokens (dressed term b)) (two-tokens (term_tokens (dressed expr a)) (term_tokens (dressed term b)) Minus (dressed-tokens expr a g.0) (dressed-tokens term b g.1.1))
dressed-tokens fact (a ⊖ b) h = let g = both (term_tokens a) (mark Minus ∷ term_tokens b) h in closed-tokens (term_tokens (dressed expr a) ++ mark Minus ∷ term_tokens (dressed term b)) (two-tokens (term_tokens (dressed expr a)) (term_tokens (dressed term b)) Minus (dressed-tokens expr a g.0) (dressed-tokens term b g.1.1))
dressed-tokens expr (a ⊗ b) h = let g = both (term_tokens a) (mark Star ∷ term_tokens b) h in two-tokens (term_tokens (dressed term a)) (term_tokens (dressed fact b)) Star (dressed-tokens term a g.0) (dressed-tokens fact b g.1.1)
dressed-tokens term (a ⊗ b) h = let g = both (term_tokens a) (mark Star ∷ term_tokens b) h in two-tokens (term_tokens (dressed term a)) (term_tokens (dressed fact b)) Star (dressed-tokens term a g.0) (dressed-tokens fact b g.1.1)
dressed-tokens fact (a ⊗ b) h = let g = both (term_tokens a) (mark Star ∷ term_tokens b) h in closed-tokens (term_tokens (dressed term a) ++ mark Star ∷ term_tokens (dressed fact b)) (two-tokens (term_tokens (dressed term a)) (term_tokens (dressed fact b)) Star (dressed-tokens term a g.0) (dressed-tokens fact b g.1.1))

-- the name that an item declares is a name
abbrev pub IsNamedLine : Line → Type 0
IsNamedLine (ast.constant x n) = IsName x
IsNamedLine (ast.commit x n) = IsName x
IsNamedLine (ast.inter x e) = IsName x
IsNamedLine (ast.published x s k r) = IsName x
IsNamedLine _ = Unit {0}

pub record HaveNames (ns : List Namespace) : Type 0 where
  pub spaces : (s : ℕ) → s < length ns → IsName (space_at ns s).name
  pub items : (s : ℕ) → s < length ns → All IsNamedLine (space_at ns s).items

all-at : (P : Line → Type 0) (ls : List Line) (k : ℕ) → All P ls → k < length ls → P (item_at ls k)
all-at P [] k h l = absurd (omega arith)
all-at P (x ∷ ls) zero h l = All-head P x ls h
all-at P (x ∷ ls) (suc k) h l = all-at P ls k (All-tail P x ls h) (omega arith)

public-names : (ls : List Line) → All IsNamedLine ls → All (λ l. IsName (name_of l)) (filter is_public ls)
public-names [] h = All-nil (λ l. IsName (name_of l))
public-names (ast.constant x n ∷ ls) h = public-names ls (All-tail IsNamedLine (ast.constant x n) ls h)
public-names (ast.commit x n ∷ ls) h = public-names ls (All-tail IsNamedLine (ast.commit x n) ls h)
public-names (ast.inter x e ∷ ls) h = public-names ls (All-tail IsNamedLine (ast.inter x e) ls h)
public-names (ast.published x s k r ∷ ls) h = All-cons (λ l. IsName (name_of l)) (ast.published x s k r) (filter is_public ls) (All-head IsNamedLine (ast.published x s k r) ls h) (public-names ls (All-tail IsNamedLine (ast.published x s k r) ls h))
public-names (ast.identity m a b ∷ ls) h = public-names ls (All-tail IsNamedLine (ast.identity m a b) ls h)
public-names (ast.lookup a b ∷ ls) h = public-names ls (All-tail IsNamedLine (ast.lookup a b) ls h)
public-names (ast.bus a b ∷ ls) h = public-names ls (All-tail IsNamedLine (ast.bus a b) ls h)

publics-names : (ms : List Namespace) → ((s : ℕ) → s < length ms → All IsNamedLine (space_at ms s).items) → All (λ l. IsName (name_of l)) (published_of ms)
publics-names [] h = All-nil (λ l. IsName (name_of l))
publics-names (m ∷ ms) h = All-append (λ l. IsName (name_of l)) (filter is_public m.items) (published_of ms) (public-names m.items (h 0 (omega arith))) (publics-names ms (λ s l. h (suc s) (omega arith)))

constant-name : (item : Line) → is_constant item ≡ true → IsNamedLine item → IsName (name_of item)
constant-name (ast.constant x n) e h = h
constant-name (ast.commit x n) e h = h
constant-name (ast.inter x w) e h = h
constant-name (ast.published x s k r) e h = h
constant-name (ast.identity m a b) e h = let no : ⊥ = cc in absurd no
constant-name (ast.lookup a b) e h = let no : ⊥ = cc in absurd no
constant-name (ast.bus a b) e h = let no : ⊥ = cc in absurd no

commit-name : (item : Line) → is_commit item ≡ true → IsNamedLine item → IsName (name_of item)
commit-name (ast.constant x n) e h = h
commit-name (ast.commit x n) e h = h
commit-name (ast.inter x w) e h = h
commit-name (ast.published x s k r) e h = h
commit-name (ast.identity m a b) e h = let no : ⊥ = cc in absurd no
commit-name (ast.lookup a b) e h = let no : ⊥ = cc in absurd no
commit-name (ast.bus a b) e h = let no : ⊥ = cc in absurd no

inter-name : (item : Line) → IsInter item → IsNamedLine item → IsName (name_of item)
inter-name (ast.inter x w) e h = h
inter-name (ast.constant x n) e h = absurd e
inter-name (ast.commit x n) e h = absurd e
inter-name (ast.published x s k r) e h = absurd e
inter-name (ast.identity m a b) e h = absurd e
inter-name (ast.lookup a b) e h = absurd e
inter-name (ast.bus a b) e h = absurd e

index-tokens : (item : Line) (i : ℕ) → i < 18446744069414584321 → AreTokens (index_tokens (index_in item i))
index-tokens (ast.constant x None) i l = tt
index-tokens (ast.constant x (Some n)) i l = (tt, (l, (tt, tt)))
index-tokens (ast.commit x None) i l = tt
index-tokens (ast.commit x (Some n)) i l = (tt, (l, (tt, tt)))
index-tokens (ast.inter x w) i l = tt
index-tokens (ast.published x s k r) i l = tt
index-tokens (ast.identity m a b) i l = tt
index-tokens (ast.lookup a b) i l = tt
index-tokens (ast.bus a b) i l = tt

mark-tokens : (b : Bool) → AreTokens (next_tokens (mark_of b))
mark-tokens true = (tt, tt)
mark-tokens false = tt

module _ (few-columns : (ns : List Namespace) (s : ℕ) (l : Line) → IsItem ns s l → columns_of l ≤ 4096) (ns : List Namespace) (names : HaveNames ns) (sound : IsSound ns) where
  ref-tokens : (m : ℕ) (item : Line) (i : Option Number) (b : Bool) → m < length ns → IsName (name_of item) → AreTokens (index_tokens i) → AreTokens (ref_tokens (reference_to ns m item i b))
  ref-tokens m item i b l n h = (names.spaces m l, (tt, (n, joined-tokens (index_tokens i) (next_tokens (mark_of b)) h (mark-tokens b))))

  column-tokens : (m k : ℕ) (b : Bool) → m < length ns → k < width (space_at ns m).items → AreTokens (ref_tokens (column_reference ns m k b))
  column-tokens m k b l h =
      let ls = (space_at ns m).items in
      let spot = spot_in (declared (space_at ns m).items) k in
      elim (column-place (space_at ns m).items k h) [
        | inl at ↦ ref-tokens m spot.item (index_in spot.item spot.index) b l (constant-name spot.item at.kind (subst IsNamedLine at.item (all-at IsNamedLine ls at.place (names.items m l) at.within)))
            (index-tokens spot.item spot.index (omega (arith, at.index, few-columns ns m spot.item (subst (IsItem ns m) at.item (all-at (IsItem ns m) ls at.place (sound.spaces m l).items at.within)))))
        | inr at ↦ ref-tokens m spot.item (index_in spot.item spot.index) b l (commit-name spot.item at.1.kind (subst IsNamedLine at.1.item (all-at IsNamedLine ls at.1.place (names.items m l) at.1.within)))
            (index-tokens spot.item spot.index (omega (arith, at.1.index, few-columns ns m spot.item (subst (IsItem ns m) at.1.item (all-at (IsItem ns m) ls at.1.place (sound.spaces m l).items at.1.within)))))
      ]

  named-tokens : (m : ℕ) (e : ast.Term) → m < length ns → IsTerm ns m e → AreTokens (term_tokens (named ns e))
  named-tokens m (ast.num n) l h = (h, tt)
  named-tokens m (ast.col n k b) l h = column-tokens n k b (subst (λ j. j < length ns) (sym h.0) l) (subst (λ j. k < width (space_at ns j).items) (sym h.0) h.1)
  named-tokens m (ast.mid n k b) l h =
      let l' = subst (λ j. j < length ns) (sym h.0) l in
      let within = subst (λ j. k < length (space_at ns j).items) (sym h.0) h.1.0 in
      let inter = subst (λ j. IsInter (item_at (space_at ns j).items k)) (sym h.0) h.1.1 in
      ref-tokens n (item_at (space_at ns n).items k) None b l' (inter-name (item_at (space_at ns n).items k) inter (all-at IsNamedLine (space_at ns n).items k (names.items n l') within)) tt
  named-tokens m (ast.public k) l h = (tt, (all-at (λ x. IsName (name_of x)) (published_of ns) k (publics-names ns names.items) (omega (arith, publics-counted ns)), tt))
  named-tokens m (ast.opp a) l h = (tt, named-tokens m a l h)
  named-tokens m (ast.◌⊕◌ a b) l h = two-tokens (term_tokens (named ns a)) (term_tokens (named ns b)) Plus (named-tokens m a l h.0) (named-tokens m b l h.1)
  named-tokens m (ast.◌⊖◌ a b) l h = two-tokens (term_tokens (named ns a)) (term_tokens (named ns b)) Minus (named-tokens m a l h.0) (named-tokens m b l h.1)
  named-tokens m (ast.◌⊗◌ a b) l h = two-tokens (term_tokens (named ns a)) (term_tokens (named ns b)) Star (named-tokens m a l h.0) (named-tokens m b l h.1)

  expr-tokens : (m : ℕ) (e : ast.Term) → m < length ns → IsTerm ns m e → AreTokens (term_tokens (expression ns e))
  expr-tokens m e l h = dressed-tokens expr (named ns e) (named-tokens m e l h)

  selected-tokens : (t : Term) → AreTokens (term_tokens t) → AreTokens (filter_tokens (selector_of t))
  selected-tokens (num n) h = closed-tokens (term_tokens (num n)) h
  selected-tokens (col r) h = h
  selected-tokens (constant x) h = closed-tokens (term_tokens (constant x)) h
  selected-tokens (public x) h = closed-tokens (term_tokens (public x)) h
  selected-tokens (opp a) h = closed-tokens (term_tokens (opp a)) h
  selected-tokens (group a) h = closed-tokens (term_tokens (group a)) h
  selected-tokens (a ⊕ b) h = closed-tokens (term_tokens (a ⊕ b)) h
  selected-tokens (a ⊖ b) h = closed-tokens (term_tokens (a ⊖ b)) h
  selected-tokens (a ⊗ b) h = closed-tokens (term_tokens (a ⊗ b)) h

  selector-tokens : (m : ℕ) (sel : Option ast.Term) → m < length ns → IsSelector ns m sel → AreTokens (filter_tokens (selector ns sel))
  selector-tokens m None l h = tt
  selector-tokens m (Some e) l h = selected-tokens (expression ns e) (expr-tokens m e l h)

  tuple-tokens : (wide : ℕ) (a : Tuples) → IsList ns wide a → AreTokens (tuple_tokens (tuple ns a))
  tuple-tokens wide a h =
      joined-tokens (filter_tokens (selector ns a.sel)) (marked OpenBrace 0 ∷ (joined Comma term_tokens (map (expression ns) a.terms) ++ mark CloseBrace ∷ [])) (selector-tokens a.space a.sel h.space h.sel) (
        tt,
        joined-tokens (joined Comma term_tokens (map (expression ns) a.terms)) (mark CloseBrace ∷ [])
            (parted-tokens Comma term_tokens (map (expression ns) a.terms) (All-map (λ t. AreTokens (term_tokens t)) (expression ns) a.terms (All-weaker (λ e. IsTerm ns a.space e) (λ e. AreTokens (term_tokens (expression ns e))) (λ e. expr-tokens a.space e h.space) a.terms h.terms))) (tt, tt),
      )

  tuples-tokens : (wide : ℕ) (ls : List Tuples) → All (IsList ns wide) ls → AreTokens (joined Plus tuple_tokens (map (tuple ns) ls))
  tuples-tokens wide ls h = parted-tokens Plus tuple_tokens (map (tuple ns) ls) (All-map (λ t. AreTokens (tuple_tokens t)) (tuple ns) ls (All-weaker (IsList ns wide) (λ a. AreTokens (tuple_tokens (tuple ns a))) (tuple-tokens wide) ls h))

  length-tokens : (n : Option ℕ) → IsLength n → AreTokens (index_tokens (option_map numeral n))
  length-tokens None h = tt
  length-tokens (Some n) h = (tt, (omega (arith, h.1), (tt, tt)))

  statement-tokens : (s : ℕ) (l : Line) → s < length ns → IsItem ns s l → IsNamedLine l → AreTokens (sentence_tokens (statement ns l))
  statement-tokens s (ast.constant x n) l h g = (tt, (tt, (g, length-tokens n h)))
  statement-tokens s (ast.commit x n) l h g = (tt, (tt, (g, length-tokens n h)))
  statement-tokens s (ast.inter x e) l h g = (tt, (g, (tt, expr-tokens s e l h)))
  statement-tokens s (ast.published x m k r) l h g =
      (tt, (g, (tt, joined-tokens (ref_tokens (column_reference ns m k false)) _ (column-tokens m k false h.0 h.1) (tt, (omega (arith, h.2, (sound.spaces m h.0).few_rows), (tt, tt))))))
  statement-tokens s (ast.identity m a b) l h g = two-tokens (term_tokens (expression ns a)) (term_tokens (expression ns b)) Equals (expr-tokens m a h.0 h.1) (expr-tokens m b h.0 h.2)
  statement-tokens s (ast.lookup a b) l h g = joined-tokens (tuple_tokens (tuple ns a)) (word In ∷ tuple_tokens (tuple ns b)) (tuple-tokens h.0 a h.2) (tt, tuple-tokens h.0 b h.3)
  statement-tokens s (ast.bus ls rs) l h g = joined-tokens (joined Plus tuple_tokens (map (tuple ns) ls)) (word Is ∷ joined Plus tuple_tokens (map (tuple ns) rs)) (tuples-tokens h.0 ls h.4) (tt, tuples-tokens h.0 rs h.5)

  items-tokens : (s : ℕ) (ls : List Line) (rest : List Sentence) → s < length ns → All (IsItem ns s) ls → All IsNamedLine ls → AreTokens (tokens_of rest) → AreTokens (tokens_of (map (statement ns) ls ++ rest))
  items-tokens s [] rest l h g r = r
  items-tokens s (x ∷ ls) rest l h g r =
      joined-tokens (sentence_tokens (statement ns x)) (mark Semicolon ∷ tokens_of (map (statement ns) ls ++ rest)) (statement-tokens s x l (All-head (IsItem ns s) x ls h) (All-head IsNamedLine x ls g))
      (tt, items-tokens s ls rest l (All-tail (IsItem ns s) x ls h) (All-tail IsNamedLine x ls g) r)

  spaces-tokens : (n : ℕ) (ms : List Namespace) → ((j : ℕ) → j < length ms → (n + j < length ns) × (space_at ns (n + j) ≡ space_at ms j)) → AreTokens (tokens_of (flat_map (statements_of ns) ms))
  spaces-tokens n [] h = tt
  spaces-tokens n (m ∷ ms) h =
      let first = h 0 (omega arith) in
      let space = sound.spaces (n + 0) first.0 in
      let few : m.rows < 18446744069414584321 = omega (arith, space.few_rows, ap (λ (k : Namespace). k.rows) first.1) in (
        tt,
        (
          subst (λ (k : Namespace). IsName k.name) first.1 (names.spaces (n + 0) first.0),
          (
            tt,
            (
              few,
              (
                tt,
                (
                  tt,
                  items-tokens (n + 0) m.items (flat_map (statements_of ns) ms) first.0 (subst (λ (k : Namespace). All (IsItem ns (n + 0)) k.items) first.1 space.items) (subst (λ (k : Namespace). All IsNamedLine k.items) first.1 (names.items (n + 0) first.0))
                      (spaces-tokens (n + 1) ms (λ j l. let e : n + suc j ≡ n + 1 + j = omega arith in let x = h (suc j) (omega arith) in (subst (λ k. k < length ns) e x.0, subst (λ k. space_at ns k ≡ space_at ms j) e x.1))),
                ),
              ),
            ),
          ),
        ),
      )

pub tokens-again : ((ns : List Namespace) (s : ℕ) (l : Line) → IsItem ns s l → columns_of l ≤ 4096) → (ns : List Namespace) → HaveNames ns → IsSound ns → All (λ t. IsToken t.token) (tokens_of (sentences_of ns))
tokens-again few ns names sound = from-tokens (tokens_of (sentences_of ns)) (spaces-tokens few ns names sound 0 ns (λ j l. let z : j ≡ 0 + j = omega arith in (subst (λ k. k < length ns) z l, ap (space_at ns) (sym z))))

-- the names of a file are names, and so are those of its meaning
abbrev IsNamedDraft : Draft → Type 0
IsNamedDraft (column k d) = IsName d.name.name
IsNamedDraft (defined x e) = IsName x.name
IsNamedDraft (published x r n) = IsName x.name
IsNamedDraft _ = Unit {0}

draft-named : (o : Outline) (s : ℕ) (d : Draft) → IsNamedDraft d → IsNamedLine (read_draft o s d)
draft-named o s (column Constant d) h = h
draft-named o s (column Commit d) h = h
draft-named o s (defined x e) h = h
draft-named o s (published x r n) h = h
draft-named o s (equal a b) h = tt
draft-named o s (inside a b) h = tt
draft-named o s (against ls rs) h = tt

columns-named : (k : ColumnKind) (ds : List Declaration) → AreTokens (joined Comma declaration_tokens ds) → All IsNamedDraft (map (column k) ds)
columns-named k [] h = All-nil IsNamedDraft
columns-named k (d ∷ []) h = All-cons IsNamedDraft (column k d) [] h.0 (All-nil IsNamedDraft)
columns-named k (d ∷ e ∷ ds) h =
    let parts = both (declaration_tokens d) (mark Comma ∷ joined Comma declaration_tokens (e ∷ ds)) h in
    All-cons IsNamedDraft (column k d) (map (column k) (e ∷ ds)) parts.0.0 (columns-named k (e ∷ ds) parts.1.1)

one : (d : Draft) → IsNamedDraft d → All IsNamedDraft (d ∷ [])
one d h = All-cons IsNamedDraft d [] h (All-nil IsNamedDraft)

sentence-named : (s : Sentence) → AreTokens (sentence_tokens s) → All IsNamedDraft (drafts_of s)
sentence-named (constant_is x n) h = All-nil IsNamedDraft
sentence-named (namespace_of x n) h = All-nil IsNamedDraft
sentence-named (columns k ds) h = columns-named k ds h.1.1
sentence-named (intermediate x e) h = one (defined x e) h.1.0
sentence-named (public_is x r n) h = one (published x r n) h.1.0
sentence-named (identity a b) h = one (equal a b) tt
sentence-named (lookup a b) h = one (inside a b) tt
sentence-named (bus a b) h = one (against a b) tt

record IsNamedHome (h : Home) : Type 0 where
  name : IsName h.name.name
  items : All IsNamedDraft h.items

record AreNamed (ss : List Sentence) : Type 0 where
  homes : All IsNamedHome (homes_of ss)
  before : All IsNamedDraft (items_before ss)

more : (s : Sentence) (ss : List Sentence) → AreTokens (sentence_tokens s) → All IsNamedDraft (items_before ss) → All IsNamedDraft (drafts_of s ++ items_before ss)
more s ss h a = All-append IsNamedDraft (drafts_of s) (items_before ss) (sentence-named s h) a

file-named : (ss : List Sentence) → AreTokens (tokens_of ss) → AreNamed ss
file-named [] h = record { homes = All-nil IsNamedHome; before = All-nil IsNamedDraft }
file-named (constant_is x n ∷ ss) h = let r = file-named ss (both (sentence_tokens (constant_is x n)) (mark Semicolon ∷ tokens_of ss) h).1.1 in record { homes = r.homes; before = r.before }
file-named (namespace_of x n ∷ ss) h =
    let parts = both (sentence_tokens (namespace_of x n)) (mark Semicolon ∷ tokens_of ss) h in
    let r = file-named ss parts.1.1 in
    record { homes = All-cons IsNamedHome (record { name = x; size = n; items = items_before ss }) (homes_of ss) (record { name = parts.0.1.0; items = r.before }) r.homes; before = All-nil IsNamedDraft }
file-named (columns k ds ∷ ss) h = let parts = both (sentence_tokens (columns k ds)) (mark Semicolon ∷ tokens_of ss) h in let r = file-named ss parts.1.1 in record { homes = r.homes; before = more (columns k ds) ss parts.0 r.before }
file-named (intermediate x e ∷ ss) h = let parts = both (sentence_tokens (intermediate x e)) (mark Semicolon ∷ tokens_of ss) h in let r = file-named ss parts.1.1 in record { homes = r.homes; before = more (intermediate x e) ss parts.0 r.before }
file-named (public_is x c n ∷ ss) h = let parts = both (sentence_tokens (public_is x c n)) (mark Semicolon ∷ tokens_of ss) h in let r = file-named ss parts.1.1 in record { homes = r.homes; before = more (public_is x c n) ss parts.0 r.before }
file-named (identity a b ∷ ss) h = let parts = both (sentence_tokens (identity a b)) (mark Semicolon ∷ tokens_of ss) h in let r = file-named ss parts.1.1 in record { homes = r.homes; before = more (identity a b) ss parts.0 r.before }
file-named (lookup a b ∷ ss) h = let parts = both (sentence_tokens (lookup a b)) (mark Semicolon ∷ tokens_of ss) h in let r = file-named ss parts.1.1 in record { homes = r.homes; before = more (lookup a b) ss parts.0 r.before }
file-named (bus ls rs ∷ ss) h = let parts = both (sentence_tokens (bus ls rs)) (mark Semicolon ∷ tokens_of ss) h in let r = file-named ss parts.1.1 in record { homes = r.homes; before = more (bus ls rs) ss parts.0 r.before }

space-name : (o : Outline) (n : ℕ) (hs : List Home) (s : ℕ) → s < length hs → (space_at (read_homes o n hs) s).name ≡ (home_at hs s).name.name
space-name o n [] s l = absurd (omega arith)
space-name o n (h ∷ hs) zero l = refl
space-name o n (h ∷ hs) (suc s) l = space-name o (n + 1) hs s (omega arith)

pub meaning-names : MeaningIsReading → (ss : List Sentence) → All (λ t. IsToken t.token) (tokens_of ss) → HaveNames (meaning (outline_of ss))
meaning-names reading ss h =
    let o = outline_of ss in
    let named' = file-named ss (are-tokens (tokens_of ss) h) in
    record {
      spaces = λ s l. let l' : s < length (homes_of ss) = omega (arith, (reading o).long) in subst IsName (sym (space-name o 0 (homes_of ss) s l')) (home_all IsNamedHome (homes_of ss) s named'.homes l').name;
      items = λ s l.
          let l' : s < length (homes_of ss) = omega (arith, (reading o).long) in
          subst (All IsNamedLine) (sym ((reading o).items s l')) (All-map IsNamedLine (read_draft o s) (home_at (homes_of ss) s).items (All-weaker IsNamedDraft (λ d. IsNamedLine (read_draft o s d)) (draft-named o s) (home_at (homes_of ss) s).items (home_all IsNamedHome (homes_of ss) s named'.homes l').items));
    }

-- numbers of the field
dressed-field : (l : Level) (t : Term) → IsInField t → IsInField (dressed l t)
dressed-field l (num n) h = h
dressed-field l (col r) h = h
dressed-field l (constant x) h = h
dressed-field l (public x) h = h
dressed-field l (opp a) h = dressed-field fact a h
dressed-field l (group a) h = dressed-field l a h
dressed-field expr (a ⊕ b) h = (dressed-field expr a h.0, dressed-field term b h.1)
dressed-field term (a ⊕ b) h = (dressed-field expr a h.0, dressed-field term b h.1)
dressed-field fact (a ⊕ b) h = (dressed-field expr a h.0, dressed-field term b h.1)
dressed-field expr (a ⊖ b) h = (dressed-field expr a h.0, dressed-field term b h.1)
dressed-field term (a ⊖ b) h = (dressed-field expr a h.0, dressed-field term b h.1)
dressed-field fact (a ⊖ b) h = (dressed-field expr a h.0, dressed-field term b h.1)
dressed-field expr (a ⊗ b) h = (dressed-field term a h.0, dressed-field fact b h.1)
dressed-field term (a ⊗ b) h = (dressed-field term a h.0, dressed-field fact b h.1)
dressed-field fact (a ⊗ b) h = (dressed-field term a h.0, dressed-field fact b h.1)

module _ (ns : List Namespace) where
  named-field : (m : ℕ) (e : ast.Term) → IsTerm ns m e → IsInField (named ns e)
  named-field m (ast.num n) h = h
  named-field m (ast.col n k b) h = tt
  named-field m (ast.mid n k b) h = tt
  named-field m (ast.public k) h = tt
  named-field m (ast.opp a) h = named-field m a h
  named-field m (ast.◌⊕◌ a b) h = (named-field m a h.0, named-field m b h.1)
  named-field m (ast.◌⊖◌ a b) h = (named-field m a h.0, named-field m b h.1)
  named-field m (ast.◌⊗◌ a b) h = (named-field m a h.0, named-field m b h.1)

  expr-field : (m : ℕ) (e : ast.Term) → IsTerm ns m e → IsInField (expression ns e)
  expr-field m e h = dressed-field expr (named ns e) (named-field m e h)

  terms-field : (m : ℕ) (es : List ast.Term) → All (IsTerm ns m) es → All IsInField (map (expression ns) es)
  terms-field m es h = All-map IsInField (expression ns) es (All-weaker (IsTerm ns m) (λ e. IsInField (expression ns e)) (expr-field m) es h)

  list-field : (wide : ℕ) (a : Tuples) → IsList ns wide a → All IsInField (terms_of_list (tuple ns a))
  list-field wide a h = subst (All IsInField) (sym (list-terms ns a)) (terms-field a.space (sel_terms a.sel ++ a.terms) (All-append (IsTerm ns a.space) (sel_terms a.sel) a.terms (by-sel a.sel h.sel) h.terms))
    where
      by-sel : (sel : Option ast.Term) → IsSelector ns a.space sel → All (IsTerm ns a.space) (sel_terms sel)
      by-sel None g = All-nil (IsTerm ns a.space)
      by-sel (Some e) g = All-cons (IsTerm ns a.space) e [] g (All-nil (IsTerm ns a.space))

  lists-field : (wide : ℕ) (ls : List Tuples) → All (IsList ns wide) ls → All IsInField (flat_map terms_of_list (map (tuple ns) ls))
  lists-field wide [] h = All-nil IsInField
  lists-field wide (a ∷ ls) h = All-append IsInField (terms_of_list (tuple ns a)) (flat_map terms_of_list (map (tuple ns) ls)) (list-field wide a (All-head (IsList ns wide) a ls h)) (lists-field wide ls (All-tail (IsList ns wide) a ls h))

  item-field : (s : ℕ) (l : Line) → IsItem ns s l → All IsInField (terms_of (draft ns l))
  item-field s (ast.constant x n) h = All-nil IsInField
  item-field s (ast.commit x n) h = All-nil IsInField
  item-field s (ast.inter x e) h = terms-field s (e ∷ []) (All-cons (IsTerm ns s) e [] h (All-nil (IsTerm ns s)))
  item-field s (ast.published x m k r) h = All-nil IsInField
  item-field s (ast.identity m a b) h = terms-field m (a ∷ b ∷ []) (All-cons (IsTerm ns m) a (b ∷ []) h.1 (All-cons (IsTerm ns m) b [] h.2 (All-nil (IsTerm ns m))))
  item-field s (ast.lookup a b) h = All-append IsInField (terms_of_list (tuple ns a)) (terms_of_list (tuple ns b)) (list-field h.0 a h.2) (list-field h.0 b h.3)
  item-field s (ast.bus ls rs) h = All-append IsInField (flat_map terms_of_list (map (tuple ns) ls)) (flat_map terms_of_list (map (tuple ns) rs)) (lists-field h.0 ls h.4) (lists-field h.0 rs h.5)

  homes-field : (ms : List Namespace) → ((j : ℕ) → j < length ms → (s : ℕ) × All (IsItem ns s) (space_at ms j).items) → All (λ (h : Home). All (λ d. All IsInField (terms_of d)) h.items) (map (home ns) ms)
  homes-field [] h = All-nil (λ (k : Home). All (λ d. All IsInField (terms_of d)) k.items)
  homes-field (m ∷ ms) h =
      let first = h 0 (omega arith) in
      All-cons (λ (k : Home). All (λ d. All IsInField (terms_of d)) k.items) (home ns m) (map (home ns) ms)
      (All-map (λ d. All IsInField (terms_of d)) (draft ns) m.items (All-weaker (IsItem ns first.0) (λ l. All IsInField (terms_of (draft ns l))) (item-field first.0) m.items first.1))
      (homes-field ms (λ j l. h (suc j) (omega arith)))

pub numbers-again : (ns : List Namespace) → IsSound ns → HasNumbers (outline ns)
numbers-again ns sound = record { constants = All-nil (λ (c : Named). c.value.value < p); terms = homes-field ns ns (λ j l. (j, (sound.spaces j l).items)) }
