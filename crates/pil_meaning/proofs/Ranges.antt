-- The numbers of a text fit that breaks no rule of names, rows and widths.
use Rattle.std.proofs.Common.{ℕ, zero, suc, ◌≡◌, ◌<◌, ◌≤◌, ◌+◌, ◌*◌, ◌^◌, List, [], ◌∷◌, ◌++◌, length, map, sum_by, slice_index_or, All, Option, Some, None, refl, sym, ap, subst, arith}
use Rattle.std.specs.Prelude.{unwrap_or, is_some, nat_lt, nat_le, ◌&&◌}
use Rattle.std.specs.List.{flat_map}
use Rattle.std.proofs.lemmas.List.{length-map}
use Rattle.std.proofs.lemmas.List.Sums.{sum_by-cons}
use Rattle.std.proofs.lemmas.List.Elements.{All-head, All-tail, All-nil, All-cons, All-map}
use Rattle.std.proofs.lemmas.Bool.{ltb-true, leb-true, and_parts}
use Rattle.gold.specs.Field.{p}
use Rattle.pil_syntax.specs.declared.tree.Number.{Number}
use Rattle.pil_syntax.specs.declared.tree.Reference.{Reference}
use Rattle.pil_syntax.specs.declared.tree.ColumnKind.TheVariants.{Constant, Commit}
use Rattle.pil_syntax.specs.Tree.{Term, num, col, constant, public, opp, group, ◌⊕◌, ◌⊖◌, ◌⊗◌, Filter, every, by_col, by_group, Tuple}
use Rattle.pil_ast.specs.Term as ast
use Rattle.pil_ast.specs.Sound.{signs_of_item, signs}
use Rattle.pil_names.specs.Outline.{Draft, column, defined, published, equal, inside, against, Home, Outline, home_at, draft_at, outline_of}
use Rattle.pil_names.specs.Finding.{found, constant_entries, home_named, item_named}
use Rattle.pil_names.specs.Wrongs.{each_item, selectors_of, terms_of_list, terms_of, unknown, bad_rows, wrong_widths, unknown_index, unknown_in_item, unknown_in_home, unknown_reference, unknown_published, unknown_in_term, unknown_in_draft, unknown_in_size, length_of, rows_of, bad_size, bad_public_row, bad_row_of_draft, size_place, wrong_length, wrong_widths_of}
use Rattle.pil_meaning.specs.Meaning.{length_or_one, length_number, constant_columns, committed_columns, named_item, read_in, read_reference, read_term, read_filter, read_tuple, read_draft, column_number, meaning}
use Rattle.pil_meaning.specs.Soundness.{IsInField, HasNumbers}
use Rattle.pil_meaning.specs.Fitting.{FitsTerm, FitsSelector, FitsList, FitsLength, FitsLine, FitsSpace, NamedFits}
use Rattle.pil_meaning.proofs.Nothing.{left_nil, right_nil, all_nil, unless_true, each_draft, home_all, all_left, all_right, all_parts}
use Rattle.pil_meaning.proofs.Found.{found_polynomial, home_below}
use Rattle.pil_meaning.specs.Standing.{IsReading}
use Rattle.pil_meaning.proofs.Places.{reading}
use Rattle.pil_meaning.proofs.Widths.{width-read, column-within}
use Rattle.pil_meaning.proofs.Terms.{no_place, constant_known}
use Rattle.pil_meaning.proofs.Signs.{meaning-signs}

-- how many items and columns there are
signs-some : (l : ast.Line) → 1 ≤ signs_of_item l
signs-some (ast.constant n len) = omega arith
signs-some (ast.commit n len) = omega arith
signs-some (ast.inter n e) = omega arith
signs-some (ast.published n s k r) = omega arith
signs-some (ast.identity s a b) = omega arith
signs-some (ast.lookup a b) = omega arith
signs-some (ast.bus ls rs) = omega arith

pub items-signs : (ls : List ast.Line) → length ls ≤ sum_by signs_of_item ls
items-signs [] = omega arith
items-signs (l ∷ ls) = omega (arith, sum_by-cons signs_of_item l ls, signs-some l, items-signs ls)

abbrev pub space_signs : ast.Namespace → ℕ
space_signs n = 1 + sum_by signs_of_item n.items

pub space-within : (ns : List ast.Namespace) (s : ℕ) → s < length ns → space_signs (ast.space_at ns s) ≤ signs ns
space-within [] s l = absurd (omega arith)
space-within (n ∷ ns) zero l = omega (arith, sum_by-cons space_signs n ns)
space-within (n ∷ ns) (suc s) l = omega (arith, sum_by-cons space_signs n ns, space-within ns s (omega arith))

pub spaces-signs : (ns : List ast.Namespace) → length ns ≤ signs ns
spaces-signs [] = omega arith
spaces-signs (n ∷ ns) = omega (arith, sum_by-cons space_signs n ns, spaces-signs ns)

length-few : (n : Option Number) → wrong_length n ≡ [] → length_or_one n ≤ 4096
length-few None e = omega arith
length-few (Some n) e = leb-true n.value 4096 (and_parts (nat_lt 0 n.value) (nat_le n.value 4096) (unless_true (nat_lt 0 n.value && nat_le n.value 4096) n.at e)).1

columns-few : (d : Draft) → wrong_widths_of d ≡ [] → constant_columns d + committed_columns d ≤ 4096
columns-few (column Constant d) e = omega (arith, length-few d.length e)
columns-few (column Commit d) e = omega (arith, length-few d.length e)
columns-few (defined x t) e = omega arith
columns-few (published x r n) e = omega arith
columns-few (equal a b) e = omega arith
columns-few (inside a b) e = omega arith
columns-few (against ls rs) e = omega arith

all-few : (ds : List Draft) → All (λ d. wrong_widths_of d ≡ []) ds → sum_by constant_columns ds + sum_by committed_columns ds ≤ 4096 * length ds
all-few [] a = omega arith
all-few (d ∷ ds) a =
    omega (arith, sum_by-cons constant_columns d ds, sum_by-cons committed_columns d ds, columns-few d (All-head (λ d. wrong_widths_of d ≡ []) d ds a), all-few ds (All-tail (λ d. wrong_widths_of d ≡ []) d ds a))

length-fits : (n : Option Number) → wrong_length n ≡ [] → FitsLength (length_number n)
length-fits None e = tt
length-fits (Some n) e = omega (arith, length-few (Some n) e)

number-fits : (e : ast.Term) → FitsTerm e → column_number e < 2 ^ 32
number-fits (ast.num n) h = omega arith
number-fits (ast.col s k b) h = h
number-fits (ast.mid s k b) h = omega arith
number-fits (ast.public k) h = omega arith
number-fits (ast.opp a) h = omega arith
number-fits (ast.◌⊕◌ a b) h = omega arith
number-fits (ast.◌⊖◌ a b) h = omega arith
number-fits (ast.◌⊗◌ a b) h = omega arith

pub all-spaces : (P : ast.Namespace → Type 0) (ns : List ast.Namespace) → ((s : ℕ) → s < length ns → P (ast.space_at ns s)) → All P ns
all-spaces P [] f = All-nil P
all-spaces P (n ∷ ns) f = All-cons P n ns (f 0 (omega arith)) (all-spaces P ns (λ s l. f (suc s) (omega arith)))

module _ (o : Outline) (ns : List ast.Namespace) (read : IsReading o ns) (constants : All (λ c. c.value.value < p) o.constants) (few : (j : ℕ) → j < length o.homes → sum_by constant_columns (home_at o.homes j).items + sum_by committed_columns (home_at o.homes j).items < 2 ^ 32) where
  abbrev drafts : ℕ → List Draft
  drafts j = (home_at o.homes j).items

  named-fits : (j k : ℕ) (r : Reference) (d : Draft) → j < length o.homes → k < length (drafts j) → draft_at (drafts j) k ≡ d → unknown_index r.name.at (length_of d) r.index ≡ [] → FitsTerm (named_item j (drafts j) k d r.index (is_some r.next))
  named-fits j k r (column c d) l w same u = omega (arith, few j l, column-within (drafts j) k c d r.name.at r.index w same u)
  named-fits j k r (defined x e) l w same u = tt
  named-fits j k r (published x c n) l w same u = tt
  named-fits j k r (equal a b) l w same u = tt
  named-fits j k r (inside a b) l w same u = tt
  named-fits j k r (against ls rs) l w same u = tt

  item-fits : (j : ℕ) (r : Reference) (i : Option ℕ) → item_named o j r ≡ i → j < length o.homes → unknown_in_item r (drafts j) i ≡ [] → FitsTerm (read_in o j r i)
  item-fits j r None e l u = omega arith
  item-fits j r (Some k) e l u =
      let w = found_polynomial r.name.name 0 (drafts j) k e in
      let z : w.place ≡ k = omega (arith, w.is) in
      named-fits j k r (draft_at (drafts j) k) l (subst (λ i. i < length (drafts j)) z w.within) refl u

  home-fits : (s : ℕ) (r : Reference) (h : Option ℕ) → home_named o s r.space ≡ h → s < length o.homes → unknown_in_home o r h ≡ [] → FitsTerm (read_in o (unwrap_or h s) r (item_named o (unwrap_or h s) r))
  home-fits s r None e l u = absurd (no_place o ns read s r.space e u)
  home-fits s r (Some j) e l u = item-fits j r (item_named o j r) refl (home_below o s r.space j l e) u

  reference-fits : (s : ℕ) (r : Reference) → s < length o.homes → unknown_reference o s r ≡ [] → FitsTerm (read_reference o s r)
  reference-fits s r l u = home-fits s r (home_named o s r.space) refl l u

  term-fits : (s : ℕ) (e : Term) → s < length o.homes → unknown_in_term o s e ≡ [] → IsInField e → FitsTerm (read_term o s e)
  term-fits s (num n) l u f = f
  term-fits s (col r) l u f = reference-fits s r l u
  term-fits s (constant x) l u f = constant_known o ns read (found x.name (constant_entries o)) constants
  term-fits s (public x) l u f = tt
  term-fits s (opp a) l u f = term-fits s a l u f
  term-fits s (group a) l u f = term-fits s a l u f
  term-fits s (a ⊕ b) l u f = (term-fits s a l (left_nil (unknown_in_term o s a) (unknown_in_term o s b) u) f.0, term-fits s b l (right_nil (unknown_in_term o s a) (unknown_in_term o s b) u) f.1)
  term-fits s (a ⊖ b) l u f = (term-fits s a l (left_nil (unknown_in_term o s a) (unknown_in_term o s b) u) f.0, term-fits s b l (right_nil (unknown_in_term o s a) (unknown_in_term o s b) u) f.1)
  term-fits s (a ⊗ b) l u f = (term-fits s a l (left_nil (unknown_in_term o s a) (unknown_in_term o s b) u) f.0, term-fits s b l (right_nil (unknown_in_term o s a) (unknown_in_term o s b) u) f.1)

  abbrev Fit : ℕ → Term → Type 0
  Fit s e = FitsTerm (read_term o s e)

  terms-fit : (s : ℕ) (es : List Term) → s < length o.homes → flat_map (unknown_in_term o s) es ≡ [] → All IsInField es → All (Fit s) es
  terms-fit s es l u f =
      let known : All (λ e. unknown_in_term o s e ≡ []) es = all_nil (unknown_in_term o s) es u in
      λ k d w. term-fits s (slice_index_or es k d) l (known k d w) (f k d w)

  selector-fits : (s : ℕ) (f : Filter) → All (Fit s) (selectors_of f) → FitsSelector (read_filter o s f)
  selector-fits s every a = tt
  selector-fits s (by_col r) a = All-head (Fit s) (col r) [] a
  selector-fits s (by_group e) a = All-head (Fit s) e [] a

  list-fits : (s : ℕ) (l : Tuple) → All (Fit s) (terms_of_list l) → FitsList (read_tuple o s l)
  list-fits s l a = record {
    sel = selector-fits s l.filter (all_left (Fit s) (selectors_of l.filter) l.entries a);
    terms = All-map FitsTerm (read_term o s) l.entries (all_right (Fit s) (selectors_of l.filter) l.entries a);
  }

  lists-fit : (s : ℕ) (ls : List Tuple) → All (Fit s) (flat_map terms_of_list ls) → All FitsList (map (read_tuple o s) ls)
  lists-fit s ls a =
      let each : All (λ l. All (Fit s) (terms_of_list l)) ls = all_parts (Fit s) terms_of_list ls a in
      All-map FitsList (read_tuple o s) ls (λ k d w. list-fits s (slice_index_or ls k d) (each k d w))

  row-fits : (s : ℕ) (r : Reference) (n : Number) (h : Option ℕ) → home_named o s r.space ≡ h → s < length o.homes → unknown_in_home o r h ≡ [] → bad_public_row o n h ≡ [] → ((j : ℕ) → j < length o.homes → rows_of o (home_at o.homes j).size ≤ 2 ^ 24) → n.value < 2 ^ 32
  row-fits s r n None e l u b rows = absurd (no_place o ns read s r.space e u)
  row-fits s r n (Some j) e l u b rows =
      omega (arith, rows j (home_below o s r.space j l e), ltb-true n.value (rows_of o (home_at o.homes j).size) (unless_true (nat_lt n.value (rows_of o (home_at o.homes j).size)) n.at b))

  line-fits : (s : ℕ) (d : Draft) → s < length o.homes → unknown_in_draft o s d ≡ [] → bad_row_of_draft o s d ≡ [] → wrong_widths_of d ≡ [] → All IsInField (terms_of d) → ((j : ℕ) → j < length o.homes → rows_of o (home_at o.homes j).size ≤ 2 ^ 24) → FitsLine (read_draft o s d)
  line-fits s (column Constant d) l u b w f rows = length-fits d.length w
  line-fits s (column Commit d) l u b w f rows = length-fits d.length w
  line-fits s (defined x e) l u b w f rows = All-head (Fit s) e [] (terms-fit s (e ∷ []) l u f)
  line-fits s (published x r n) l u b w f rows =
      let known : unknown_reference o s r ≡ [] = left_nil (unknown_reference o s r) (unknown_published o s r) (left_nil (unknown_reference o s r ++ unknown_published o s r) [] u) in
      (number-fits (read_reference o s r) (reference-fits s r l known), row-fits s r n (home_named o s r.space) refl l known b rows)
  line-fits s (equal a c) l u b w f rows =
      let both : All (Fit s) (a ∷ c ∷ []) = terms-fit s (a ∷ c ∷ []) l u f in
      (All-head (Fit s) a (c ∷ []) both, All-head (Fit s) c [] (All-tail (Fit s) a (c ∷ []) both))
  line-fits s (inside a c) l u b w f rows =
      let all : All (Fit s) (terms_of_list a ++ terms_of_list c) = terms-fit s (terms_of_list a ++ terms_of_list c) l u f in
      (list-fits s a (all_left (Fit s) (terms_of_list a) (terms_of_list c) all), list-fits s c (all_right (Fit s) (terms_of_list a) (terms_of_list c) all))
  line-fits s (against ls rs) l u b w f rows =
      let all : All (Fit s) (flat_map terms_of_list ls ++ flat_map terms_of_list rs) = terms-fit s (flat_map terms_of_list ls ++ flat_map terms_of_list rs) l u f in
      (lists-fit s ls (all_left (Fit s) (flat_map terms_of_list ls) (flat_map terms_of_list rs) all), lists-fit s rs (all_right (Fit s) (flat_map terms_of_list ls) (flat_map terms_of_list rs) all))

few-rows : (o : Outline) → bad_rows o ≡ [] → (j : ℕ) → j < length o.homes → rows_of o (home_at o.homes j).size ≤ 2 ^ 24
few-rows o b j l =
    let n : ℕ = rows_of o (home_at o.homes j).size in
    let size : bad_size o (home_at o.homes j).size ≡ [] = home_all (λ h. bad_size o h.size ≡ []) o.homes j (all_nil (λ (h : Home). bad_size o h.size) o.homes (left_nil (flat_map (λ (h : Home). bad_size o h.size) o.homes) (each_item (bad_row_of_draft o) o) b)) l in
    leb-true n (2 ^ 24) (and_parts (nat_lt 0 n) (nat_le n (2 ^ 24)) (unless_true (nat_lt 0 n && nat_le n (2 ^ 24)) (size_place (home_at o.homes j).size) size)).1

space-fits : (o : Outline) → HasNumbers o → signs (meaning o) ≤ 2 ^ 20 → unknown o ≡ [] → bad_rows o ≡ [] → wrong_widths o ≡ [] → (s : ℕ) → s < length o.homes → FitsSpace (ast.space_at (meaning o) s)
space-fits o numbers short u b w s l =
    let r = reading o in
    let few = λ (j : ℕ) (k : j < length o.homes). (let bound : sum_by constant_columns (home_at o.homes j).items + sum_by committed_columns (home_at o.homes j).items < 2 ^ 32 =
    omega (arith, all-few (home_at o.homes j).items (each_draft (λ s d. wrong_widths_of d) o j w k), short, space-within (meaning o) j (omega (arith, r.long)), items-signs (ast.space_at (meaning o) j).items, ap length (r.items j k), length-map (home_at o.homes j).items (read_draft o j)) in bound) in
    let drafts : List Draft = (home_at o.homes s).items in
    let names : All (λ d. unknown_in_draft o s d ≡ []) drafts = each_draft (unknown_in_draft o) o s (right_nil (flat_map (λ (h : Home). unknown_in_size o h.size) o.homes) (each_item (unknown_in_draft o) o) u) l in
    let rows : All (λ d. bad_row_of_draft o s d ≡ []) drafts = each_draft (bad_row_of_draft o) o s (right_nil (flat_map (λ (h : Home). bad_size o h.size) o.homes) (each_item (bad_row_of_draft o) o) b) l in
    let widths : All (λ d. wrong_widths_of d ≡ []) drafts = each_draft (λ s d. wrong_widths_of d) o s w l in
    let small : All (λ d. All IsInField (terms_of d)) drafts = home_all (λ h. All (λ d. All IsInField (terms_of d)) h.items) o.homes s numbers.terms l in
    record {
      rows = omega (arith, r.rows s l, few-rows o b s l);
      columns = omega (arith, ap ast.width (r.items s l), width-read o s drafts, few s l);
      items = subst (All FitsLine) (sym (r.items s l)) (All-map FitsLine (read_draft o s) drafts (λ k d i. line-fits o (meaning o) r numbers.constants few s (slice_index_or drafts k d) l (names k d i) (rows k d i) (widths k d i) (small k d i) (few-rows o b)));
    }

pub fits : NamedFits
fits ss numbers short u b w =
    let o : Outline = outline_of ss in
    let few : signs (meaning o) ≤ 2 ^ 20 = omega (arith, short, meaning-signs ss) in
    record {
      spaces = omega (arith, few, spaces-signs (meaning o));
      each = all-spaces FitsSpace (meaning o) (λ s l. space-fits o numbers few u b w s (omega (arith, (reading o).long)));
    }
