-- What doesn't depend on the places of a text that has no constants.
use Rattle.std.proofs.Common.{ℕ, zero, suc, ◌≡◌, ◌+◌, ◌^◌, List, [], ◌∷◌, ◌++◌, Bool, true, false, ◌&&◌, nat_lt, nat_le, nat_eq, cond, length, map, take, sum_by, Option, Some, None, refl, sym, ap, subst, ◌∙◌, arith}
use Rattle.std.specs.Prelude.{flat_map, unwrap_or, option_map, is_some, is_none, bytes_eq}
use Rattle.std.proofs.lemmas.List.{map-append, length-map}
use Rattle.std.proofs.lemmas.List.Sums.{sum_by-cons}
use Rattle.pil_syntax.specs.declared.tree.Ident.{Ident}
use Rattle.pil_syntax.specs.declared.tree.Number.{Number}
use Rattle.pil_syntax.specs.declared.tree.Reference.{Reference}
use Rattle.pil_syntax.specs.declared.tree.Declaration.{Declaration}
use Rattle.pil_syntax.specs.declared.tree.ColumnKind.{ColumnKind}
use Rattle.pil_syntax.specs.declared.tree.ColumnKind.TheVariants.{Constant, Commit}
use Rattle.pil_syntax.specs.declared.tree.Size.{Size}
use Rattle.pil_syntax.specs.declared.tree.Size.TheVariants as sizes
use Rattle.pil_syntax.specs.Tree.{Term, num, col, constant, public, opp, group, ◌⊕◌, ◌⊖◌, ◌⊗◌, Filter, every, by_col, by_group, Tuple, Sentence, constant_is, namespace_of, columns, intermediate, public_is, identity, lookup, bus}
use Rattle.pil_syntax.specs.Placeless.{at_zero, unplaced_ident, unplaced_number, unplaced_reference, unplaced, unplaced_filter, unplaced_tuple, unplaced_declaration, unplaced_size, unplaced_sentence}
use Rattle.pil_ast.specs.Term as ast
use Rattle.pil_ast.specs.Term.{Namespace, space_at}
use Rattle.pil_names.specs.Outline.{Named, Draft, column, defined, published, equal, inside, against, Home, Outline, constants_of, drafts_of, items_before, homes_of, outline_of, home_at, draft_at}
use Rattle.pil_names.specs.Finding.{Entry, found, numbered, home_entries, published_name, public_names, public_entries, polynomials_from, polynomial_entries, home_named, item_named}
use Rattle.pil_names.specs.Wrongs.{each_from, each_item, unless, each_name, selectors_of, terms_of, terms_of_list, repeated_among, repeated, unknown, unknown_index, length_of, unknown_in_item, unknown_in_home, unknown_reference, unknown_constant, unknown_public, space_place, is_column, is_public_item, is_public_in, unknown_published, unknown_in_size, unknown_in_term, unknown_in_public, unknown_in_draft, bad_size, bad_public_row, bad_row_of_draft, bad_rows, rows_of, references, home_or, first_home, home_of_terms, stray, strays, mixed_in, mixed_in_draft, mixed, wrong_length, other_width, other_widths, width_of_first, wrong_widths_of, wrong_widths}
use Rattle.pil_meaning.specs.Meaning.{length_or_one, constant_columns, committed_columns, start_of_kind, number_or_zero, named_item, read_in, read_reference, read_term, read_filter, read_tuple, length_number, column_number, read_draft, read_homes, meaning}
use Rattle.pil_meaning.specs.Marks.{double_of, double_at, double_reference, double_in_term, double_in_draft, double}
use Rattle.pil_meaning.specs.Soundness.{IsUnbroken}
use Rattle.pil_print.proofs.Parted.{left_nil, right_nil, same-tuples}
use Rattle.pil_ast.specs.Sound.{IsAcyclic}
use Rattle.pil_print.proofs.Meanings.{bytes_of, numbered-same, repeats-same}

abbrev pub unplaced_draft : Draft → Draft
unplaced_draft (column k d) = column k (unplaced_declaration d)
unplaced_draft (defined x e) = defined (unplaced_ident x) (unplaced e)
unplaced_draft (published x r n) = published (unplaced_ident x) (unplaced_reference r) (unplaced_number n)
unplaced_draft (equal a b) = equal (unplaced a) (unplaced b)
unplaced_draft (inside a b) = inside (unplaced_tuple a) (unplaced_tuple b)
unplaced_draft (against ls rs) = against (map unplaced_tuple ls) (map unplaced_tuple rs)

abbrev pub unplaced_home : Home → Home
unplaced_home h = record { name = unplaced_ident h.name; size = unplaced_size h.size; items = map unplaced_draft h.items }

abbrev pub unplaced_named : Named → Named
unplaced_named c = record { name = unplaced_ident c.name; value = unplaced_number c.value }

-- an outline without constants
abbrev pub plain : List Home → Outline
plain hs = record { constants = []; homes = hs }

abbrev zeros : List ℕ → List ℕ
zeros xs = map at_zero xs

join : {X : Type 0} (a b c d : List X) → a ≡ c → b ≡ d → a ++ b ≡ c ++ d
join a b c d p q = ap (λ x. x ++ b) p ∙ ap (λ x. c ++ x) q

cons : {X : Type 0} (a c : X) (b d : List X) → a ≡ c → b ≡ d → a ∷ b ≡ c ∷ d
cons a c b d p q = ap (λ x. x ∷ b) p ∙ ap (λ x. c ∷ x) q

-- the outline of statements without places
columns-unplaced : (k : ColumnKind) (ds : List Declaration) → map (column k) (map unplaced_declaration ds) ≡ map unplaced_draft (map (column k) ds)
columns-unplaced k [] = refl
columns-unplaced k (d ∷ ds) = ap (λ xs. column k (unplaced_declaration d) ∷ xs) (columns-unplaced k ds)

drafts-unplaced : (s : Sentence) → drafts_of (unplaced_sentence s) ≡ map unplaced_draft (drafts_of s)
drafts-unplaced (constant_is x n) = refl
drafts-unplaced (namespace_of x n) = refl
drafts-unplaced (columns k ds) = columns-unplaced k ds
drafts-unplaced (intermediate x e) = refl
drafts-unplaced (public_is x r n) = refl
drafts-unplaced (identity a b) = refl
drafts-unplaced (lookup a b) = refl
drafts-unplaced (bus a b) = refl

constants-unplaced : (ss : List Sentence) → flat_map constants_of (map unplaced_sentence ss) ≡ map unplaced_named (flat_map constants_of ss)
constants-unplaced [] = refl
constants-unplaced (constant_is x n ∷ ss) = ap (λ cs. unplaced_named (let c : Named = record { name = x; value = n } in c) ∷ cs) (constants-unplaced ss)
constants-unplaced (namespace_of x n ∷ ss) = constants-unplaced ss
constants-unplaced (columns k ds ∷ ss) = constants-unplaced ss
constants-unplaced (intermediate x e ∷ ss) = constants-unplaced ss
constants-unplaced (public_is x r n ∷ ss) = constants-unplaced ss
constants-unplaced (identity a b ∷ ss) = constants-unplaced ss
constants-unplaced (lookup a b ∷ ss) = constants-unplaced ss
constants-unplaced (bus a b ∷ ss) = constants-unplaced ss

items-more : (s : Sentence) (ss : List Sentence) → items_before (map unplaced_sentence ss) ≡ map unplaced_draft (items_before ss) → drafts_of (unplaced_sentence s) ++ items_before (map unplaced_sentence ss) ≡ map unplaced_draft (drafts_of s ++ items_before ss)
items-more s ss e = join _ _ _ _ (drafts-unplaced s) e ∙ sym (map-append unplaced_draft (drafts_of s) (items_before ss))

items-unplaced : (ss : List Sentence) → items_before (map unplaced_sentence ss) ≡ map unplaced_draft (items_before ss)
items-unplaced [] = refl
items-unplaced (namespace_of x n ∷ ss) = refl
items-unplaced (constant_is x n ∷ ss) = items-more (constant_is x n) ss (items-unplaced ss)
items-unplaced (columns k ds ∷ ss) = items-more (columns k ds) ss (items-unplaced ss)
items-unplaced (intermediate x e ∷ ss) = items-more (intermediate x e) ss (items-unplaced ss)
items-unplaced (public_is x r n ∷ ss) = items-more (public_is x r n) ss (items-unplaced ss)
items-unplaced (identity a b ∷ ss) = items-more (identity a b) ss (items-unplaced ss)
items-unplaced (lookup a b ∷ ss) = items-more (lookup a b) ss (items-unplaced ss)
items-unplaced (bus a b ∷ ss) = items-more (bus a b) ss (items-unplaced ss)

homes-unplaced : (ss : List Sentence) → homes_of (map unplaced_sentence ss) ≡ map unplaced_home (homes_of ss)
homes-unplaced [] = refl
homes-unplaced (namespace_of x n ∷ ss) =
    cons _ _ _ _ (ap (λ ds. let h : Home = record { name = unplaced_ident x; size = unplaced_size n; items = ds } in h) (items-unplaced ss)) (homes-unplaced ss)
homes-unplaced (constant_is x n ∷ ss) = homes-unplaced ss
homes-unplaced (columns k ds ∷ ss) = homes-unplaced ss
homes-unplaced (intermediate x e ∷ ss) = homes-unplaced ss
homes-unplaced (public_is x r n ∷ ss) = homes-unplaced ss
homes-unplaced (identity a b ∷ ss) = homes-unplaced ss
homes-unplaced (lookup a b ∷ ss) = homes-unplaced ss
homes-unplaced (bus a b ∷ ss) = homes-unplaced ss

-- what stands at a number
home-unplaced : (hs : List Home) (m : ℕ) → home_at (map unplaced_home hs) m ≡ unplaced_home (home_at hs m)
home-unplaced [] m = refl
home-unplaced (h ∷ hs) zero = refl
home-unplaced (h ∷ hs) (suc m) = home-unplaced hs m

draft-unplaced : (ds : List Draft) (k : ℕ) → draft_at (map unplaced_draft ds) k ≡ unplaced_draft (draft_at ds k)
draft-unplaced [] k = refl
draft-unplaced (d ∷ ds) zero = refl
draft-unplaced (d ∷ ds) (suc k) = draft-unplaced ds k

-- what names stand for
found-home : (x : List ℕ) (n : ℕ) (hs : List Home) → found x (numbered n (map (λ (h : Home). h.name) (map unplaced_home hs))) ≡ found x (numbered n (map (λ (h : Home). h.name) hs))
found-home x n [] = refl
found-home x n (h ∷ hs) = ap (cond (bytes_eq h.name.name x) (Some n)) (found-home x (n + 1) hs)

names-unplaced : (ds : List Draft) → flat_map published_name (map unplaced_draft ds) ≡ map unplaced_ident (flat_map published_name ds)
names-unplaced [] = refl
names-unplaced (column k d ∷ ds) = names-unplaced ds
names-unplaced (defined x e ∷ ds) = names-unplaced ds
names-unplaced (published x r n ∷ ds) = ap (λ xs. unplaced_ident x ∷ xs) (names-unplaced ds)
names-unplaced (equal a b ∷ ds) = names-unplaced ds
names-unplaced (inside a b ∷ ds) = names-unplaced ds
names-unplaced (against a b ∷ ds) = names-unplaced ds

publics-unplaced : (hs : List Home) → public_names (map unplaced_home hs) ≡ map unplaced_ident (public_names hs)
publics-unplaced [] = refl
publics-unplaced (h ∷ hs) = join _ _ _ _ (names-unplaced h.items) (publics-unplaced hs) ∙ sym (map-append unplaced_ident (flat_map published_name h.items) (public_names hs))

found-unplaced : (x : List ℕ) (n : ℕ) (xs : List Ident) → found x (numbered n (map unplaced_ident xs)) ≡ found x (numbered n xs)
found-unplaced x n [] = refl
found-unplaced x n (y ∷ ys) = ap (cond (bytes_eq y.name x) (Some n)) (found-unplaced x (n + 1) ys)

found-public : (x : List ℕ) (hs : List Home) → found x (numbered 0 (public_names (map unplaced_home hs))) ≡ found x (numbered 0 (public_names hs))
found-public x hs = ap (λ xs. found x (numbered 0 xs)) (publics-unplaced hs) ∙ found-unplaced x 0 (public_names hs)

found-polynomial : (x : List ℕ) (n : ℕ) (ds : List Draft) → found x (polynomials_from n (map unplaced_draft ds)) ≡ found x (polynomials_from n ds)
found-polynomial x n [] = refl
found-polynomial x n (column k d ∷ ds) = ap (cond (bytes_eq d.name.name x) (Some n)) (found-polynomial x (n + 1) ds)
found-polynomial x n (defined y e ∷ ds) = ap (cond (bytes_eq y.name x) (Some n)) (found-polynomial x (n + 1) ds)
found-polynomial x n (published y r m ∷ ds) = found-polynomial x (n + 1) ds
found-polynomial x n (equal a b ∷ ds) = found-polynomial x (n + 1) ds
found-polynomial x n (inside a b ∷ ds) = found-polynomial x (n + 1) ds
found-polynomial x n (against a b ∷ ds) = found-polynomial x (n + 1) ds

constants-of : (d : Draft) → constant_columns (unplaced_draft d) ≡ constant_columns d
constants-of (column Constant d) = length-same d.length
  where
    length-same : (n : Option Number) → length_or_one (option_map unplaced_number n) ≡ length_or_one n
    length-same None = refl
    length-same (Some n) = refl
constants-of (column Commit d) = refl
constants-of (defined x e) = refl
constants-of (published x r n) = refl
constants-of (equal a b) = refl
constants-of (inside a b) = refl
constants-of (against a b) = refl

commits-of : (d : Draft) → committed_columns (unplaced_draft d) ≡ committed_columns d
commits-of (column Commit d) = length-same d.length
  where
    length-same : (n : Option Number) → length_or_one (option_map unplaced_number n) ≡ length_or_one n
    length-same None = refl
    length-same (Some n) = refl
commits-of (column Constant d) = refl
commits-of (defined x e) = refl
commits-of (published x r n) = refl
commits-of (equal a b) = refl
commits-of (inside a b) = refl
commits-of (against a b) = refl

sums-of : (f : Draft → ℕ) → ((d : Draft) → f (unplaced_draft d) ≡ f d) → (k : ℕ) (ds : List Draft) → sum_by f (take k (map unplaced_draft ds)) ≡ sum_by f (take k ds)
sums-of f e zero [] = refl
sums-of f e (suc k) [] = refl
sums-of f e zero (d ∷ ds) = refl
sums-of f e (suc k) (d ∷ ds) = omega (arith, sum_by-cons f (unplaced_draft d) (take k (map unplaced_draft ds)), sum_by-cons f d (take k ds), e d, sums-of f e k ds)

sum-of : (f : Draft → ℕ) → ((d : Draft) → f (unplaced_draft d) ≡ f d) → (ds : List Draft) → sum_by f (map unplaced_draft ds) ≡ sum_by f ds
sum-of f e [] = refl
sum-of f e (d ∷ ds) = omega (arith, sum_by-cons f (unplaced_draft d) (map unplaced_draft ds), sum_by-cons f d ds, e d, sum-of f e ds)

start-of : (c : ColumnKind) (ds : List Draft) (k : ℕ) → start_of_kind c (map unplaced_draft ds) k ≡ start_of_kind c ds k
start-of Constant ds k = sums-of constant_columns constants-of k ds
start-of Commit ds k = omega (arith, sum-of constant_columns constants-of ds, sums-of committed_columns commits-of k ds)

number-of : (n : Option Number) → number_or_zero (option_map unplaced_number n) ≡ number_or_zero n
number-of None = refl
number-of (Some n) = refl

some-of : (n : Option ℕ) → is_some (option_map at_zero n) ≡ is_some n
some-of None = refl
some-of (Some n) = refl

value-of : (n : Option Number) → length_number (option_map unplaced_number n) ≡ length_number n
value-of None = refl
value-of (Some n) = refl

item-of : (m : ℕ) (ds : List Draft) (k : ℕ) (d : Draft) (i : Option Number) (b : Bool) → named_item m (map unplaced_draft ds) k (unplaced_draft d) (option_map unplaced_number i) b ≡ named_item m ds k d i b
item-of m ds k (column c d) i b = ap (λ n. ast.col m (n + number_or_zero (option_map unplaced_number i)) b) (start-of c ds k) ∙ ap (λ n. ast.col m (start_of_kind c ds k + n) b) (number-of i)
item-of m ds k (defined x e) i b = refl
item-of m ds k (published x r n) i b = refl
item-of m ds k (equal x y) i b = refl
item-of m ds k (inside x y) i b = refl
item-of m ds k (against x y) i b = refl

references-of : (e : Term) → references (unplaced e) ≡ map unplaced_reference (references e)
references-of (num n) = refl
references-of (col r) = refl
references-of (constant x) = refl
references-of (public x) = refl
references-of (opp a) = references-of a
references-of (group a) = references-of a
references-of (a ⊕ b) = join _ _ _ _ (references-of a) (references-of b) ∙ sym (map-append unplaced_reference (references a) (references b))
references-of (a ⊖ b) = join _ _ _ _ (references-of a) (references-of b) ∙ sym (map-append unplaced_reference (references a) (references b))
references-of (a ⊗ b) = join _ _ _ _ (references-of a) (references-of b) ∙ sym (map-append unplaced_reference (references a) (references b))

references-all : (es : List Term) → flat_map references (map unplaced es) ≡ map unplaced_reference (flat_map references es)
references-all [] = refl
references-all (e ∷ es) = join _ _ _ _ (references-of e) (references-all es) ∙ sym (map-append unplaced_reference (references e) (flat_map references es))

list-terms : (l : Tuple) → terms_of_list (unplaced_tuple l) ≡ map unplaced (terms_of_list l)
list-terms l = by l.filter
  where
    by : (f : Filter) → selectors_of (unplaced_filter f) ++ map unplaced l.entries ≡ map unplaced (selectors_of f ++ l.entries)
    by every = refl
    by (by_col r) = refl
    by (by_group e) = refl

lists-terms : (ls : List Tuple) → flat_map terms_of_list (map unplaced_tuple ls) ≡ map unplaced (flat_map terms_of_list ls)
lists-terms [] = refl
lists-terms (l ∷ ls) = join _ _ _ _ (list-terms l) (lists-terms ls) ∙ sym (map-append unplaced (terms_of_list l) (flat_map terms_of_list ls))

terms-unplaced : (d : Draft) → terms_of (unplaced_draft d) ≡ map unplaced (terms_of d)
terms-unplaced (column k d) = refl
terms-unplaced (defined x e) = refl
terms-unplaced (published x r n) = refl
terms-unplaced (equal a b) = refl
terms-unplaced (inside a b) = join _ _ _ _ (list-terms a) (list-terms b) ∙ sym (map-append unplaced (terms_of_list a) (terms_of_list b))
terms-unplaced (against ls rs) = join _ _ _ _ (lists-terms ls) (lists-terms rs) ∙ sym (map-append unplaced (flat_map terms_of_list ls) (flat_map terms_of_list rs))

two : (f : ast.Term → ast.Term → ast.Term) (a b c d : ast.Term) → a ≡ c → b ≡ d → f a b ≡ f c d
two f a b c d p q = ap (λ x. f x b) p ∙ ap (f c) q

-- the outline with and without its places
module _ (hs : List Home) where
  home-same : (s : ℕ) (x : Option Ident) → home_named (plain (map unplaced_home hs)) s (option_map unplaced_ident x) ≡ home_named (plain hs) s x
  home-same s None = refl
  home-same s (Some x) = found-home x.name 0 hs

  item-same : (m : ℕ) (r : Reference) → item_named (plain (map unplaced_home hs)) m (unplaced_reference r) ≡ item_named (plain hs) m r
  item-same m r = ap (λ (h : Home). found r.name.name (polynomials_from 0 h.items)) (home-unplaced hs m) ∙ found-polynomial r.name.name 0 (home_at hs m).items

  read-in-same : (m : ℕ) (r : Reference) (k : Option ℕ) → read_in (plain (map unplaced_home hs)) m (unplaced_reference r) k ≡ read_in (plain hs) m r k
  read-in-same m r None = refl
  read-in-same m r (Some k) =
      ap (λ (h : Home). named_item m h.items k (draft_at h.items k) (option_map unplaced_number r.index) (is_some (option_map at_zero r.next))) (home-unplaced hs m)
      ∙ (ap (λ (d : Draft). named_item m (map unplaced_draft (home_at hs m).items) k d (option_map unplaced_number r.index) (is_some (option_map at_zero r.next))) (draft-unplaced (home_at hs m).items k)
      ∙ (ap (named_item m (map unplaced_draft (home_at hs m).items) k (unplaced_draft (draft_at (home_at hs m).items k)) (option_map unplaced_number r.index)) (some-of r.next)
      ∙ item-of m (home_at hs m).items k (draft_at (home_at hs m).items k) r.index (is_some r.next)))

  reference-same : (s : ℕ) (r : Reference) → read_reference (plain (map unplaced_home hs)) s (unplaced_reference r) ≡ read_reference (plain hs) s r
  reference-same s r =
      ap (λ h. read_in (plain (map unplaced_home hs)) (unwrap_or h s) (unplaced_reference r) (item_named (plain (map unplaced_home hs)) (unwrap_or h s) (unplaced_reference r))) (home-same s r.space)
      ∙ (ap (read_in (plain (map unplaced_home hs)) (home_or (plain hs) s r) (unplaced_reference r)) (item-same (home_or (plain hs) s r) r)
      ∙ read-in-same (home_or (plain hs) s r) r (item_named (plain hs) (home_or (plain hs) s r) r))

  term-same : (s : ℕ) (e : Term) → read_term (plain (map unplaced_home hs)) s (unplaced e) ≡ read_term (plain hs) s e
  term-same s (num n) = refl
  term-same s (col r) = reference-same s r
  term-same s (constant x) = refl
  term-same s (public x) = ap (λ k. ast.public (unwrap_or k 0)) (found-public x.name hs)
  term-same s (opp a) = ap ast.opp (term-same s a)
  term-same s (group a) = term-same s a
  term-same s (a ⊕ b) = two ast.◌⊕◌ _ _ _ _ (term-same s a) (term-same s b)
  term-same s (a ⊖ b) = two ast.◌⊖◌ _ _ _ _ (term-same s a) (term-same s b)
  term-same s (a ⊗ b) = two ast.◌⊗◌ _ _ _ _ (term-same s a) (term-same s b)

  terms-same : (s : ℕ) (es : List Term) → map (read_term (plain (map unplaced_home hs)) s) (map unplaced es) ≡ map (read_term (plain hs) s) es
  terms-same s [] = refl
  terms-same s (e ∷ es) = cons _ _ _ _ (term-same s e) (terms-same s es)

  filter-same : (s : ℕ) (f : Filter) → read_filter (plain (map unplaced_home hs)) s (unplaced_filter f) ≡ read_filter (plain hs) s f
  filter-same s every = refl
  filter-same s (by_col r) = ap Some (reference-same s r)
  filter-same s (by_group e) = ap Some (term-same s e)

  first-same : (s : ℕ) (rs : List Reference) → first_home (plain (map unplaced_home hs)) s (map unplaced_reference rs) ≡ first_home (plain hs) s rs
  first-same s [] = refl
  first-same s (r ∷ rs) = ap (λ h. Some (unwrap_or h s)) (home-same s r.space)

  home-of-same : (s : ℕ) (es : List Term) → home_of_terms (plain (map unplaced_home hs)) s (map unplaced es) ≡ home_of_terms (plain hs) s es
  home-of-same s es = ap (λ rs. unwrap_or (first_home (plain (map unplaced_home hs)) s rs) s) (references-all es) ∙ ap (λ h. unwrap_or h s) (first-same s (flat_map references es))

  tuple-same : (s : ℕ) (l : Tuple) → read_tuple (plain (map unplaced_home hs)) s (unplaced_tuple l) ≡ read_tuple (plain hs) s l
  tuple-same s l = same-tuples _ _ _ _ _ _ (ap (home_of_terms (plain (map unplaced_home hs)) s) (list-terms l) ∙ home-of-same s (terms_of_list l)) (filter-same s l.filter) (terms-same s l.entries)

  tuples-same : (s : ℕ) (ls : List Tuple) → map (read_tuple (plain (map unplaced_home hs)) s) (map unplaced_tuple ls) ≡ map (read_tuple (plain hs) s) ls
  tuples-same s [] = refl
  tuples-same s (l ∷ ls) = cons _ _ _ _ (tuple-same s l) (tuples-same s ls)

  draft-same : (s : ℕ) (d : Draft) → read_draft (plain (map unplaced_home hs)) s (unplaced_draft d) ≡ read_draft (plain hs) s d
  draft-same s (column Constant d) = ap (ast.constant d.name.name) (value-of d.length)
  draft-same s (column Commit d) = ap (ast.commit d.name.name) (value-of d.length)
  draft-same s (defined x e) = ap (ast.inter x.name) (term-same s e)
  draft-same s (published x r n) =
      ap (λ h. ast.published x.name (unwrap_or h s) (column_number (read_reference (plain (map unplaced_home hs)) s (unplaced_reference r))) n.value) (home-same s r.space)
      ∙ ap (λ t. ast.published x.name (home_or (plain hs) s r) (column_number t) n.value) (reference-same s r)
  draft-same s (equal a b) =
      ap (λ m. ast.identity m (read_term (plain (map unplaced_home hs)) s (unplaced a)) (read_term (plain (map unplaced_home hs)) s (unplaced b))) (home-of-same s (a ∷ b ∷ []))
      ∙ (ap (λ t. ast.identity (home_of_terms (plain hs) s (a ∷ b ∷ [])) t (read_term (plain (map unplaced_home hs)) s (unplaced b))) (term-same s a)
      ∙ ap (ast.identity (home_of_terms (plain hs) s (a ∷ b ∷ [])) (read_term (plain hs) s a)) (term-same s b))
  draft-same s (inside a b) = ap (λ t. ast.lookup t (read_tuple (plain (map unplaced_home hs)) s (unplaced_tuple b))) (tuple-same s a) ∙ ap (ast.lookup (read_tuple (plain hs) s a)) (tuple-same s b)
  draft-same s (against ls rs) = ap (λ t. ast.bus t (map (read_tuple (plain (map unplaced_home hs)) s) (map unplaced_tuple rs))) (tuples-same s ls) ∙ ap (ast.bus (map (read_tuple (plain hs) s) ls)) (tuples-same s rs)

  drafts-same : (s : ℕ) (ds : List Draft) → map (read_draft (plain (map unplaced_home hs)) s) (map unplaced_draft ds) ≡ map (read_draft (plain hs) s) ds
  drafts-same s [] = refl
  drafts-same s (d ∷ ds) = cons _ _ _ _ (draft-same s d) (drafts-same s ds)

  rows-same : (n : Size) → rows_of (plain (map unplaced_home hs)) (unplaced_size n) ≡ rows_of (plain hs) n
  rows-same (sizes.Number n) = refl
  rows-same (sizes.Constant x) = refl

  homes-same : (n : ℕ) (ks : List Home) → read_homes (plain (map unplaced_home hs)) n (map unplaced_home ks) ≡ read_homes (plain hs) n ks
  homes-same n [] = refl
  homes-same n (k ∷ ks) =
      cons _ _ _ _
      (ap (λ r. let a : Namespace = record { name = k.name.name; rows = r; items = map (read_draft (plain (map unplaced_home hs)) n) (map unplaced_draft k.items) } in a) (rows-same k.size)
      ∙ ap (λ ls. let a : Namespace = record { name = k.name.name; rows = rows_of (plain hs) k.size; items = ls } in a) (drafts-same n k.items))
      (homes-same (n + 1) ks)

  pub meaning-same : meaning (plain (map unplaced_home hs)) ≡ meaning (plain hs)
  meaning-same = homes-same 0 hs

-- lists of wrong places are as they are with each place at 0
zeros-two : (xs ys : List ℕ) → zeros (xs ++ ys) ≡ zeros xs ++ zeros ys
zeros-two xs ys = map-append at_zero xs ys

zeros-join : (a b c d : List ℕ) → a ≡ zeros c → b ≡ zeros d → a ++ b ≡ zeros (c ++ d)
zeros-join a b c d p q = join a b (zeros c) (zeros d) p q ∙ sym (zeros-two c d)

zeros-unless : (b c : Bool) (at : ℕ) → b ≡ c → unless b 0 ≡ zeros (unless c at)
zeros-unless b c at e = ap (λ x. unless x 0) e ∙ by c
  where
    by : (x : Bool) → unless x 0 ≡ zeros (unless x at)
    by true = refl
    by false = refl

none-zeros : (xs : List ℕ) → zeros xs ≡ [] → xs ≡ []
none-zeros [] e = refl
none-zeros (x ∷ xs) e = let no : ⊥ = cc in absurd no

flat-zeros : {X Y : Type 0} (f : X → List ℕ) (g : Y → List ℕ) (u : Y → X) → ((y : Y) → f (u y) ≡ zeros (g y)) → (ys : List Y) → flat_map f (map u ys) ≡ zeros (flat_map g ys)
flat-zeros f g u e [] = refl
flat-zeros f g u e (y ∷ ys) = zeros-join (f (u y)) (flat_map f (map u ys)) (g y) (flat_map g ys) (e y) (flat-zeros f g u e ys)

each-zeros : (f g : ℕ → Home → List ℕ) → ((s : ℕ) (h : Home) → f s (unplaced_home h) ≡ zeros (g s h)) → (n : ℕ) (hs : List Home) → each_from f n (map unplaced_home hs) ≡ zeros (each_from g n hs)
each-zeros f g e n [] = refl
each-zeros f g e n (h ∷ hs) = zeros-join _ _ (g n h) (each_from g (n + 1) hs) (e n h) (each-zeros f g e (n + 1) hs)

items-zeros : (f g : ℕ → Draft → List ℕ) (hs : List Home) → ((s : ℕ) (d : Draft) → f s (unplaced_draft d) ≡ zeros (g s d)) → each_item f (plain (map unplaced_home hs)) ≡ zeros (each_item g (plain hs))
items-zeros f g hs e = each-zeros (λ s h. flat_map (f s) h.items) (λ s h. flat_map (g s) h.items) (λ s h. flat-zeros (f s) (g s) unplaced_draft (e s) h.items) 0 hs

names-zeros : (P Q : Reference → List ℕ) (C D G H : Ident → List ℕ) → ((r : Reference) → P (unplaced_reference r) ≡ zeros (Q r)) → ((x : Ident) → C (unplaced_ident x) ≡ zeros (D x)) → ((x : Ident) → G (unplaced_ident x) ≡ zeros (H x)) → (e : Term) → each_name P C G (unplaced e) ≡ zeros (each_name Q D H e)
names-zeros P Q C D G H p c g (num n) = refl
names-zeros P Q C D G H p c g (col r) = p r
names-zeros P Q C D G H p c g (constant x) = c x
names-zeros P Q C D G H p c g (public x) = g x
names-zeros P Q C D G H p c g (opp a) = names-zeros P Q C D G H p c g a
names-zeros P Q C D G H p c g (group a) = names-zeros P Q C D G H p c g a
names-zeros P Q C D G H p c g (a ⊕ b) = zeros-join _ _ (each_name Q D H a) (each_name Q D H b) (names-zeros P Q C D G H p c g a) (names-zeros P Q C D G H p c g b)
names-zeros P Q C D G H p c g (a ⊖ b) = zeros-join _ _ (each_name Q D H a) (each_name Q D H b) (names-zeros P Q C D G H p c g a) (names-zeros P Q C D G H p c g b)
names-zeros P Q C D G H p c g (a ⊗ b) = zeros-join _ _ (each_name Q D H a) (each_name Q D H b) (names-zeros P Q C D G H p c g a) (names-zeros P Q C D G H p c g b)

length-of-unplaced : (d : Draft) → length_of (unplaced_draft d) ≡ option_map unplaced_number (length_of d)
length-of-unplaced (column k d) = refl
length-of-unplaced (defined x e) = refl
length-of-unplaced (published x r n) = refl
length-of-unplaced (equal a b) = refl
length-of-unplaced (inside a b) = refl
length-of-unplaced (against a b) = refl

is-column-unplaced : (d : Draft) → is_column (unplaced_draft d) ≡ is_column d
is-column-unplaced (column k d) = refl
is-column-unplaced (defined x e) = refl
is-column-unplaced (published x r n) = refl
is-column-unplaced (equal a b) = refl
is-column-unplaced (inside a b) = refl
is-column-unplaced (against a b) = refl

index-zeros : (at : ℕ) (n i : Option Number) → unknown_index 0 (option_map unplaced_number n) (option_map unplaced_number i) ≡ zeros (unknown_index at n i)
index-zeros at None None = refl
index-zeros at None (Some i) = refl
index-zeros at (Some n) None = refl
index-zeros at (Some n) (Some i) = zeros-unless (nat_lt i.value n.value) (nat_lt i.value n.value) i.at refl

space-zeros : (x : Option Ident) → space_place (option_map unplaced_ident x) ≡ zeros (space_place x)
space-zeros None = refl
space-zeros (Some x) = refl

none-of : (n : Option ℕ) → is_none (option_map at_zero n) ≡ is_none n
none-of None = refl
none-of (Some n) = refl

module _ (hs : List Home) where
  in-item-zeros : (m : ℕ) (r : Reference) (k : Option ℕ) → unknown_in_item (unplaced_reference r) (home_at (map unplaced_home hs) m).items k ≡ zeros (unknown_in_item r (home_at hs m).items k)
  in-item-zeros m r None = refl
  in-item-zeros m r (Some k) =
      ap (λ (h : Home). unknown_index 0 (length_of (draft_at h.items k)) (option_map unplaced_number r.index)) (home-unplaced hs m)
      ∙ (ap (λ (d : Draft). unknown_index 0 (length_of d) (option_map unplaced_number r.index)) (draft-unplaced (home_at hs m).items k)
      ∙ (ap (λ n. unknown_index 0 n (option_map unplaced_number r.index)) (length-of-unplaced (draft_at (home_at hs m).items k)) ∙ index-zeros r.name.at (length_of (draft_at (home_at hs m).items k)) r.index))

  in-home-zeros : (r : Reference) (m : Option ℕ) → unknown_in_home (plain (map unplaced_home hs)) (unplaced_reference r) m ≡ zeros (unknown_in_home (plain hs) r m)
  in-home-zeros r None = space-zeros r.space
  in-home-zeros r (Some m) = ap (unknown_in_item (unplaced_reference r) (home_at (map unplaced_home hs) m).items) (item-same hs m r) ∙ in-item-zeros m r (item_named (plain hs) m r)

  reference-zeros : (s : ℕ) (r : Reference) → unknown_reference (plain (map unplaced_home hs)) s (unplaced_reference r) ≡ zeros (unknown_reference (plain hs) s r)
  reference-zeros s r = ap (unknown_in_home (plain (map unplaced_home hs)) (unplaced_reference r)) (home-same hs s r.space) ∙ in-home-zeros r (home_named (plain hs) s r.space)

  constant-zeros : (x : Ident) → unknown_constant (plain (map unplaced_home hs)) (unplaced_ident x) ≡ zeros (unknown_constant (plain hs) x)
  constant-zeros x = refl

  public-zeros : (x : Ident) → unknown_public (plain (map unplaced_home hs)) (unplaced_ident x) ≡ zeros (unknown_public (plain hs) x)
  public-zeros x = zeros-unless _ (is_some (found x.name (public_entries (plain hs)))) x.at (ap is_some (found-public x.name hs))

  term-zeros : (s : ℕ) (e : Term) → unknown_in_term (plain (map unplaced_home hs)) s (unplaced e) ≡ zeros (unknown_in_term (plain hs) s e)
  term-zeros s e = names-zeros _ _ _ _ _ _ (reference-zeros s) constant-zeros public-zeros e

  public-item-same : (m : ℕ) (k : Option ℕ) → is_public_item (home_at (map unplaced_home hs) m).items k ≡ is_public_item (home_at hs m).items k
  public-item-same m None = refl
  public-item-same m (Some k) =
      ap (λ (h : Home). is_column (draft_at h.items k)) (home-unplaced hs m) ∙ (ap is_column (draft-unplaced (home_at hs m).items k) ∙ is-column-unplaced (draft_at (home_at hs m).items k))

  public-in-same : (r : Reference) (m : Option ℕ) → is_public_in (plain (map unplaced_home hs)) (unplaced_reference r) m ≡ is_public_in (plain hs) r m
  public-in-same r None = refl
  public-in-same r (Some m) = ap (is_public_item (home_at (map unplaced_home hs) m).items) (item-same hs m r) ∙ public-item-same m (item_named (plain hs) m r)

  published-zeros : (s : ℕ) (r : Reference) → unknown_published (plain (map unplaced_home hs)) s (unplaced_reference r) ≡ zeros (unknown_published (plain hs) s r)
  published-zeros s r =
      zeros-unless _ (is_none r.next && is_public_in (plain hs) r (home_named (plain hs) s r.space)) r.name.at
      (ap (λ b. b && is_public_in (plain (map unplaced_home hs)) (unplaced_reference r) (home_named (plain (map unplaced_home hs)) s (option_map unplaced_ident r.space))) (none-of r.next)
      ∙ ap (λ b. is_none r.next && b) (ap (is_public_in (plain (map unplaced_home hs)) (unplaced_reference r)) (home-same hs s r.space) ∙ public-in-same r (home_named (plain hs) s r.space)))

  in-public-zeros : (s : ℕ) (d : Draft) → unknown_in_public (plain (map unplaced_home hs)) s (unplaced_draft d) ≡ zeros (unknown_in_public (plain hs) s d)
  in-public-zeros s (column k d) = refl
  in-public-zeros s (defined x e) = refl
  in-public-zeros s (published x r n) = zeros-join _ _ (unknown_reference (plain hs) s r) (unknown_published (plain hs) s r) (reference-zeros s r) (published-zeros s r)
  in-public-zeros s (equal a b) = refl
  in-public-zeros s (inside a b) = refl
  in-public-zeros s (against a b) = refl

  draft-zeros : (f g : Term → List ℕ) → ((e : Term) → f (unplaced e) ≡ zeros (g e)) → (d : Draft) → flat_map f (terms_of (unplaced_draft d)) ≡ zeros (flat_map g (terms_of d))
  draft-zeros f g e d = ap (flat_map f) (terms-unplaced d) ∙ flat-zeros f g unplaced e (terms_of d)

  size-zeros : (n : Size) → unknown_in_size (plain (map unplaced_home hs)) (unplaced_size n) ≡ zeros (unknown_in_size (plain hs) n)
  size-zeros (sizes.Number n) = refl
  size-zeros (sizes.Constant x) = refl

  pub unknown-zeros : unknown (plain (map unplaced_home hs)) ≡ zeros (unknown (plain hs))
  unknown-zeros =
      zeros-join _ _ (flat_map (λ (h : Home). unknown_in_size (plain hs) h.size) hs) (each_item (unknown_in_draft (plain hs)) (plain hs))
      (flat-zeros (λ (h : Home). unknown_in_size (plain (map unplaced_home hs)) h.size) (λ (h : Home). unknown_in_size (plain hs) h.size) unplaced_home (λ h. size-zeros h.size) hs)
      (items-zeros (unknown_in_draft (plain (map unplaced_home hs))) (unknown_in_draft (plain hs)) hs
      (λ s d. zeros-join _ _ (unknown_in_public (plain hs) s d) (flat_map (unknown_in_term (plain hs) s) (terms_of d)) (in-public-zeros s d) (draft-zeros (unknown_in_term (plain (map unplaced_home hs)) s) (unknown_in_term (plain hs) s) (term-zeros s) d)))

  bad-size-zeros : (n : Size) → bad_size (plain (map unplaced_home hs)) (unplaced_size n) ≡ zeros (bad_size (plain hs) n)
  bad-size-zeros (sizes.Number n) = zeros-unless _ (nat_lt 0 n.value && nat_le n.value (2 ^ 24)) n.at refl
  bad-size-zeros (sizes.Constant x) = refl

  bad-row-zeros : (n : Number) (m : Option ℕ) → bad_public_row (plain (map unplaced_home hs)) (unplaced_number n) m ≡ zeros (bad_public_row (plain hs) n m)
  bad-row-zeros n None = refl
  bad-row-zeros n (Some m) =
      zeros-unless _ (nat_lt n.value (rows_of (plain hs) (home_at hs m).size)) n.at
      (ap (λ (h : Home). nat_lt n.value (rows_of (plain (map unplaced_home hs)) h.size)) (home-unplaced hs m) ∙ ap (nat_lt n.value) (rows-same hs (home_at hs m).size))

  row-zeros : (s : ℕ) (d : Draft) → bad_row_of_draft (plain (map unplaced_home hs)) s (unplaced_draft d) ≡ zeros (bad_row_of_draft (plain hs) s d)
  row-zeros s (column k d) = refl
  row-zeros s (defined x e) = refl
  row-zeros s (published x r n) = ap (bad_public_row (plain (map unplaced_home hs)) (unplaced_number n)) (home-same hs s r.space) ∙ bad-row-zeros n (home_named (plain hs) s r.space)
  row-zeros s (equal a b) = refl
  row-zeros s (inside a b) = refl
  row-zeros s (against a b) = refl

  pub bad-rows-zeros : bad_rows (plain (map unplaced_home hs)) ≡ zeros (bad_rows (plain hs))
  bad-rows-zeros =
      zeros-join _ _ (flat_map (λ (h : Home). bad_size (plain hs) h.size) hs) (each_item (bad_row_of_draft (plain hs)) (plain hs))
      (flat-zeros (λ (h : Home). bad_size (plain (map unplaced_home hs)) h.size) (λ (h : Home). bad_size (plain hs) h.size) unplaced_home (λ h. bad-size-zeros h.size) hs)
      (items-zeros (bad_row_of_draft (plain (map unplaced_home hs))) (bad_row_of_draft (plain hs)) hs row-zeros)

  stray-zeros : (s m : ℕ) (r : Reference) → stray (plain (map unplaced_home hs)) s m (unplaced_reference r) ≡ zeros (stray (plain hs) s m r)
  stray-zeros s m r = zeros-unless _ (nat_eq (home_or (plain hs) s r) m) r.name.at (ap (λ h. nat_eq (unwrap_or h s) m) (home-same hs s r.space))

  strays-zeros : (s m : ℕ) (es : List Term) → strays (plain (map unplaced_home hs)) s m (map unplaced es) ≡ zeros (strays (plain hs) s m es)
  strays-zeros s m es = ap (flat_map (stray (plain (map unplaced_home hs)) s m)) (references-all es) ∙ flat-zeros (stray (plain (map unplaced_home hs)) s m) (stray (plain hs) s m) unplaced_reference (stray-zeros s m) (flat_map references es)

  mixed-in-zeros : (s : ℕ) (es : List Term) → mixed_in (plain (map unplaced_home hs)) s (map unplaced es) ≡ zeros (mixed_in (plain hs) s es)
  mixed-in-zeros s es = ap (λ m. strays (plain (map unplaced_home hs)) s m (map unplaced es)) (home-of-same hs s es) ∙ strays-zeros s (home_of_terms (plain hs) s es) es

  list-zeros : (s : ℕ) (l : Tuple) → mixed_in (plain (map unplaced_home hs)) s (terms_of_list (unplaced_tuple l)) ≡ zeros (mixed_in (plain hs) s (terms_of_list l))
  list-zeros s l = ap (mixed_in (plain (map unplaced_home hs)) s) (list-terms l) ∙ mixed-in-zeros s (terms_of_list l)

  mixed-draft-zeros : (s : ℕ) (d : Draft) → mixed_in_draft (plain (map unplaced_home hs)) s (unplaced_draft d) ≡ zeros (mixed_in_draft (plain hs) s d)
  mixed-draft-zeros s (column k d) = refl
  mixed-draft-zeros s (defined x e) = strays-zeros s s (e ∷ [])
  mixed-draft-zeros s (published x r n) = refl
  mixed-draft-zeros s (equal a b) = mixed-in-zeros s (a ∷ b ∷ [])
  mixed-draft-zeros s (inside a b) = zeros-join _ _ (mixed_in (plain hs) s (terms_of_list a)) (mixed_in (plain hs) s (terms_of_list b)) (list-zeros s a) (list-zeros s b)
  mixed-draft-zeros s (against ls rs) =
      zeros-join _ _ (flat_map (λ l. mixed_in (plain hs) s (terms_of_list l)) ls) (flat_map (λ l. mixed_in (plain hs) s (terms_of_list l)) rs)
      (flat-zeros (λ l. mixed_in (plain (map unplaced_home hs)) s (terms_of_list l)) (λ l. mixed_in (plain hs) s (terms_of_list l)) unplaced_tuple (list-zeros s) ls)
      (flat-zeros (λ l. mixed_in (plain (map unplaced_home hs)) s (terms_of_list l)) (λ l. mixed_in (plain hs) s (terms_of_list l)) unplaced_tuple (list-zeros s) rs)

  pub mixed-zeros : mixed (plain (map unplaced_home hs)) ≡ zeros (mixed (plain hs))
  mixed-zeros = items-zeros (mixed_in_draft (plain (map unplaced_home hs))) (mixed_in_draft (plain hs)) hs mixed-draft-zeros

  length-zeros : (n : Option Number) → wrong_length (option_map unplaced_number n) ≡ zeros (wrong_length n)
  length-zeros None = refl
  length-zeros (Some n) = zeros-unless _ (nat_lt 0 n.value && nat_le n.value 4096) n.at refl

  width-zeros : (n : ℕ) (l : Tuple) → other_width n (unplaced_tuple l) ≡ zeros (other_width n l)
  width-zeros n l = zeros-unless _ (nat_eq (length l.entries) n) l.at (ap (λ k. nat_eq k n) (length-map l.entries unplaced))

  width-of-first : (ls : List Tuple) → width_of_first (map unplaced_tuple ls) ≡ width_of_first ls
  width-of-first [] = refl
  width-of-first (l ∷ ls) = length-map l.entries unplaced

  widths-zeros : (m n : ℕ) (ls : List Tuple) → m ≡ n → other_widths m (map unplaced_tuple ls) ≡ zeros (other_widths n ls)
  widths-zeros m n ls e = ap (λ k. other_widths k (map unplaced_tuple ls)) e ∙ flat-zeros (other_width n) (other_width n) unplaced_tuple (width-zeros n) ls

  wide-draft-zeros : (d : Draft) → wrong_widths_of (unplaced_draft d) ≡ zeros (wrong_widths_of d)
  wide-draft-zeros (column k d) = length-zeros d.length
  wide-draft-zeros (defined x e) = refl
  wide-draft-zeros (published x r n) = refl
  wide-draft-zeros (equal a b) = refl
  wide-draft-zeros (inside a b) = ap (λ n. other_width n (unplaced_tuple b)) (length-map a.entries unplaced) ∙ width-zeros (length a.entries) b
  wide-draft-zeros (against ls rs) =
      zeros-join _ _ (other_widths (width_of_first ls) ls) (other_widths (width_of_first ls) rs) (widths-zeros _ _ ls (width-of-first ls)) (widths-zeros _ _ rs (width-of-first ls))

  pub widths-are-zeros : wrong_widths (plain (map unplaced_home hs)) ≡ zeros (wrong_widths (plain hs))
  widths-are-zeros = items-zeros (λ s d. wrong_widths_of d) (λ s d. wrong_widths_of d) hs (λ s d. wide-draft-zeros d)

  double-of-zeros : (ns : List Namespace) (t : ast.Term) (at : ℕ) → double_of ns t 0 ≡ zeros (double_of ns t at)
  double-of-zeros ns (ast.num n) at = refl
  double-of-zeros ns (ast.col m k b) at = refl
  double-of-zeros ns (ast.mid m k b) at = zeros-unless _ _ at refl
  double-of-zeros ns (ast.public k) at = refl
  double-of-zeros ns (ast.opp a) at = refl
  double-of-zeros ns (ast.◌⊕◌ a b) at = refl
  double-of-zeros ns (ast.◌⊖◌ a b) at = refl
  double-of-zeros ns (ast.◌⊗◌ a b) at = refl

  double-at-zeros : (ns : List Namespace) (t : ast.Term) (n : Option ℕ) → double_at ns t (option_map at_zero n) ≡ zeros (double_at ns t n)
  double-at-zeros ns t None = refl
  double-at-zeros ns t (Some n) = double-of-zeros ns t n

  double-reference-zeros : (s : ℕ) (r : Reference) → double_reference (plain (map unplaced_home hs)) s (unplaced_reference r) ≡ zeros (double_reference (plain hs) s r)
  double-reference-zeros s r =
      ap (λ ns. double_at ns (read_reference (plain (map unplaced_home hs)) s (unplaced_reference r)) (option_map at_zero r.next)) (meaning-same hs)
      ∙ (ap (λ t. double_at (meaning (plain hs)) t (option_map at_zero r.next)) (reference-same hs s r) ∙ double-at-zeros (meaning (plain hs)) (read_reference (plain hs) s r) r.next)

  pub double-zeros : double (plain (map unplaced_home hs)) ≡ zeros (double (plain hs))
  double-zeros =
      items-zeros (double_in_draft (plain (map unplaced_home hs))) (double_in_draft (plain hs)) hs
      (λ s d. draft-zeros (double_in_term (plain (map unplaced_home hs)) s) (double_in_term (plain hs) s) (λ e. names-zeros _ _ _ _ _ _ (double-reference-zeros s) (λ x. refl) (λ x. refl) e) d)

-- repeated names
bytes-unplaced : (xs : List Ident) → map bytes_of (map unplaced_ident xs) ≡ map bytes_of xs
bytes-unplaced [] = refl
bytes-unplaced (x ∷ xs) = ap (λ ys. x.name ∷ ys) (bytes-unplaced xs)

home-bytes : (hs : List Home) → map bytes_of (map (λ (h : Home). h.name) (map unplaced_home hs)) ≡ map bytes_of (map (λ (h : Home). h.name) hs)
home-bytes [] = refl
home-bytes (h ∷ hs) = ap (λ xs. h.name.name ∷ xs) (home-bytes hs)

public-bytes : (hs : List Home) → map bytes_of (public_names (map unplaced_home hs)) ≡ map bytes_of (public_names hs)
public-bytes hs = ap (map bytes_of) (publics-unplaced hs) ∙ bytes-unplaced (public_names hs)

polynomial-bytes : (n : ℕ) (ds : List Draft) → map bytes_of (map (λ (e : Entry). e.name) (polynomials_from n (map unplaced_draft ds))) ≡ map bytes_of (map (λ (e : Entry). e.name) (polynomials_from n ds))
polynomial-bytes n [] = refl
polynomial-bytes n (column k d ∷ ds) = ap (λ xs. d.name.name ∷ xs) (polynomial-bytes (n + 1) ds)
polynomial-bytes n (defined x e ∷ ds) = ap (λ xs. x.name ∷ xs) (polynomial-bytes (n + 1) ds)
polynomial-bytes n (published x r m ∷ ds) = polynomial-bytes (n + 1) ds
polynomial-bytes n (equal a b ∷ ds) = polynomial-bytes (n + 1) ds
polynomial-bytes n (inside a b ∷ ds) = polynomial-bytes (n + 1) ds
polynomial-bytes n (against a b ∷ ds) = polynomial-bytes (n + 1) ds

abbrev polynomials_repeated : Home → List ℕ
polynomials_repeated h = repeated_among (polynomial_entries h)

nil-join : (a b : List ℕ) → a ≡ [] → b ≡ [] → a ++ b ≡ []
nil-join a b p q = ap (λ s. s ++ b) p ∙ q

forth-homes : (hs : List Home) → flat_map polynomials_repeated hs ≡ [] → flat_map polynomials_repeated (map unplaced_home hs) ≡ []
forth-homes [] e = refl
forth-homes (h ∷ hs) e =
    nil-join _ _ (repeats-same [] [] (map (λ (e : Entry). e.name) (polynomials_from 0 h.items)) (map (λ (e : Entry). e.name) (polynomials_from 0 (map unplaced_draft h.items))) refl (sym (polynomial-bytes 0 h.items)) (left_nil (polynomials_repeated h) (flat_map polynomials_repeated hs) e))
    (forth-homes hs (right_nil (polynomials_repeated h) (flat_map polynomials_repeated hs) e))

back-homes : (hs : List Home) → flat_map polynomials_repeated (map unplaced_home hs) ≡ [] → flat_map polynomials_repeated hs ≡ []
back-homes [] e = refl
back-homes (h ∷ hs) e =
    nil-join _ _ (repeats-same [] [] (map (λ (e : Entry). e.name) (polynomials_from 0 (map unplaced_draft h.items))) (map (λ (e : Entry). e.name) (polynomials_from 0 h.items)) refl (polynomial-bytes 0 h.items) (left_nil (polynomials_repeated (unplaced_home h)) (flat_map polynomials_repeated (map unplaced_home hs)) e))
    (back-homes hs (right_nil (polynomials_repeated (unplaced_home h)) (flat_map polynomials_repeated (map unplaced_home hs)) e))

pub repeated-forth : (hs : List Home) → repeated (plain hs) ≡ [] → repeated (plain (map unplaced_home hs)) ≡ []
repeated-forth hs h =
    let second = right_nil (repeated_among (home_entries (plain hs))) (repeated_among (public_entries (plain hs)) ++ flat_map polynomials_repeated hs) h in
    nil-join _ _ (numbered-same (map (λ (k : Home). k.name) hs) (map (λ (k : Home). k.name) (map unplaced_home hs)) (sym (home-bytes hs)) (left_nil (repeated_among (home_entries (plain hs))) (repeated_among (public_entries (plain hs)) ++ flat_map polynomials_repeated hs) h))
    (nil-join _ _ (numbered-same (public_names hs) (public_names (map unplaced_home hs)) (sym (public-bytes hs)) (left_nil (repeated_among (public_entries (plain hs))) (flat_map polynomials_repeated hs) second))
    (forth-homes hs (right_nil (repeated_among (public_entries (plain hs))) (flat_map polynomials_repeated hs) second)))

pub repeated-back : (hs : List Home) → repeated (plain (map unplaced_home hs)) ≡ [] → repeated (plain hs) ≡ []
repeated-back hs h =
    let us = map unplaced_home hs in
    let second = right_nil (repeated_among (home_entries (plain us))) (repeated_among (public_entries (plain us)) ++ flat_map polynomials_repeated us) h in
    nil-join _ _ (numbered-same (map (λ (k : Home). k.name) (map unplaced_home hs)) (map (λ (k : Home). k.name) hs) (home-bytes hs) (left_nil (repeated_among (home_entries (plain us))) (repeated_among (public_entries (plain us)) ++ flat_map polynomials_repeated us) h))
    (nil-join _ _ (numbered-same (public_names (map unplaced_home hs)) (public_names hs) (public-bytes hs) (left_nil (repeated_among (public_entries (plain us))) (flat_map polynomials_repeated us) second))
    (back-homes hs (right_nil (repeated_among (public_entries (plain us))) (flat_map polynomials_repeated us) second)))

-- namespaces that differ in places alone
module _ (hs ks : List Home) (alike : map unplaced_home ks ≡ map unplaced_home hs) where
  moved-meaning : meaning (plain ks) ≡ meaning (plain hs)
  moved-meaning = sym (meaning-same ks) ∙ ap (λ us. meaning (plain us)) alike ∙ meaning-same hs

  moved-none : (f : Outline → List ℕ) → ((gs : List Home) → f (plain (map unplaced_home gs)) ≡ zeros (f (plain gs))) → f (plain hs) ≡ [] → f (plain ks) ≡ []
  moved-none f e h = none-zeros (f (plain ks)) (sym (e ks) ∙ ap (λ us. f (plain us)) alike ∙ e hs ∙ ap zeros h)

  moved-unbroken : IsUnbroken (plain hs) → IsUnbroken (plain ks)
  moved-unbroken h = record {
    unknown = moved-none unknown unknown-zeros h.unknown;
    bad_rows = moved-none bad_rows bad-rows-zeros h.bad_rows;
    mixed = moved-none mixed mixed-zeros h.mixed;
    wrong_widths = moved-none wrong_widths widths-are-zeros h.wrong_widths;
    acyclic = subst (λ ns. (s : ℕ) → IsAcyclic (space_at ns s).items) (sym moved-meaning) h.acyclic;
    double = moved-none double double-zeros h.double;
  }

  moved-repeated : repeated (plain hs) ≡ [] → repeated (plain ks) ≡ []
  moved-repeated h = repeated-back ks (subst (λ us. repeated (plain us) ≡ []) (sym alike) (repeated-forth hs h))

no-constants : (cs : List Named) → map unplaced_named cs ≡ [] → cs ≡ []
no-constants [] e = refl
no-constants (c ∷ cs) e = let no : ⊥ = cc in absurd no

plain-outline : (ss : List Sentence) → flat_map constants_of ss ≡ [] → outline_of ss ≡ plain (homes_of ss)
plain-outline ss e = ap (λ cs. let o : Outline = record { constants = cs; homes = homes_of ss } in o) e

pub ignores-places : (ss qs : List Sentence) → flat_map constants_of ss ≡ [] → map unplaced_sentence qs ≡ map unplaced_sentence ss → repeated (outline_of ss) ≡ [] → IsUnbroken (outline_of ss)
    → (meaning (outline_of qs) ≡ meaning (outline_of ss)) × (repeated (outline_of qs) ≡ []) × IsUnbroken (outline_of qs)
ignores-places ss qs none alike new h =
    let none' : flat_map constants_of qs ≡ [] = no-constants (flat_map constants_of qs) (sym (constants-unplaced qs) ∙ ap (flat_map constants_of) alike ∙ constants-unplaced ss ∙ ap (map unplaced_named) none) in
    let homes : map unplaced_home (homes_of qs) ≡ map unplaced_home (homes_of ss) = sym (homes-unplaced qs) ∙ ap homes_of alike ∙ homes-unplaced ss in
    let o = plain-outline ss none in
    let o' = plain-outline qs none' in (
      ap meaning o' ∙ moved-meaning (homes_of ss) (homes_of qs) homes ∙ sym (ap meaning o),
      subst (λ p. repeated p ≡ []) (sym o') (moved-repeated (homes_of ss) (homes_of qs) homes (subst (λ p. repeated p ≡ []) o new)),
      subst IsUnbroken (sym o') (moved-unbroken (homes_of ss) (homes_of qs) homes (subst IsUnbroken o h)),
    )
