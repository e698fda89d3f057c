-- Items that break no rule are read as sound ones, and so is a text.
use Rattle.std.proofs.Common.{ℕ, ◌≡◌, ◌<◌, ◌^◌, List, [], ◌∷◌, ◌++◌, length, map, slice_index_or, All, true, Option, Some, None, refl, sym, subst, ◌∙◌, arith}
use Rattle.std.specs.Prelude.{unwrap_or, is_none, nat_eq, nat_lt, nat_le, ◌&&◌}
use Rattle.std.specs.List.{flat_map}
use Rattle.std.proofs.lemmas.Grind.{flat_map-append}
use Rattle.std.proofs.lemmas.List.{length-map}
use Rattle.std.proofs.lemmas.List.Elements.{All-head, All-tail, All-nil, All-cons, All-map}
use Rattle.std.proofs.lemmas.Bool.{eqb-true, ltb-true, leb-true, and_parts}
use Rattle.gold.specs.Field.{p}
use Rattle.pil_syntax.specs.declared.tree.Ident.{Ident}
use Rattle.pil_syntax.specs.declared.tree.Number.{Number}
use Rattle.pil_syntax.specs.declared.tree.Reference.{Reference}
use Rattle.pil_syntax.specs.declared.tree.ColumnKind.TheVariants.{Constant, Commit}
use Rattle.pil_syntax.specs.Tree.{Term, col, Filter, every, by_col, by_group, Tuple}
use Rattle.pil_ast.specs.Term as ast
use Rattle.pil_ast.specs.Sound.{IsOf, IsSelector, IsList, IsLength, IsItem, IsSpace, IsAcyclic}
use Rattle.pil_names.specs.Outline.{Draft, column, defined, published, equal, inside, against, Outline, home_at}
use Rattle.pil_names.specs.Finding.{home_named}
use Rattle.pil_names.specs.Wrongs.{each_name, references, selectors_of, terms_of_list, terms_of, unknown_in_home, unknown_reference, unknown_published, unknown_in_term, unknown_in_public, unknown_in_draft, is_public_in, rows_of, bad_size, bad_public_row, bad_row_of_draft, size_place, first_home, home_of_terms, stray, strays, mixed_in, mixed_in_draft, wrong_length, other_widths, width_of_first, wrong_widths_of}
use Rattle.pil_meaning.specs.Meaning.{length_number, column_number, read_reference, read_term, read_filter, read_tuple, read_draft}
use Rattle.pil_meaning.specs.Marks.{double_at}
use Rattle.pil_meaning.specs.Soundness.{IsInField}
use Rattle.pil_meaning.proofs.Nothing.{left_nil, right_nil, all_nil, unless_true, all_left, all_right, all_parts}
use Rattle.pil_meaning.proofs.Found.{home_below}
use Rattle.pil_meaning.specs.Standing.{IsReading}
use Rattle.pil_meaning.proofs.Parts.{HasParts}
use Rattle.pil_meaning.proofs.Terms.{no_place, term-sound, public-sound, IsPublic}

length-sound : (n : Option Number) → wrong_length n ≡ [] → IsLength (length_number n)
length-sound None e = tt
length-sound (Some n) e =
    let both = and_parts (nat_lt 0 n.value) (nat_le n.value 4096) (unless_true (nat_lt 0 n.value && nat_le n.value 4096) n.at e) in
    (omega (arith, ltb-true 0 n.value both.0), leb-true n.value 4096 both.1)

wide-lists : (n : ℕ) (ls : List Tuple) → other_widths n ls ≡ [] → All (λ l. length l.entries ≡ n) ls
wide-lists n [] e = All-nil (λ l. length l.entries ≡ n)
wide-lists n (l ∷ ls) e =
    All-cons (λ l. length l.entries ≡ n) l ls
    (eqb-true (length l.entries) n (unless_true (nat_eq (length l.entries) n) l.at (left_nil _ (other_widths n ls) e)))
    (wide-lists n ls (right_nil _ (other_widths n ls) e))

module _ (o : Outline) (ns : List ast.Namespace) (reading : IsReading o ns) (constants : All (λ c. c.value.value < p) o.constants) where
  abbrev IsIn : ℕ → ast.Term → Type 0
  IsIn m e = IsOf (ast.space_at ns m).items (length (ast.publics ns)) m e

  abbrev marks : ℕ → Term → List ℕ
  marks s e = each_name (λ r. double_at ns (read_reference o s r) r.next) (λ x. []) (λ x. []) e

  record IsUsable (s : ℕ) (e : Term) : Type 0 where
    known : unknown_in_term o s e ≡ []
    single : marks s e ≡ []
    numbers : IsInField e

  terms-sound : (s m : ℕ) (es : List Term) → s < length o.homes → strays o s m es ≡ [] → All (IsUsable s) es → All (λ e. IsIn m (read_term o s e)) es
  terms-sound s m [] l h a = All-nil (λ e. IsIn m (read_term o s e))
  terms-sound s m (e ∷ es) l h a =
      let both : flat_map (stray o s m) (references e) ++ strays o s m es ≡ [] = sym (flat_map-append (stray o s m) (references e) (flat_map references es)) ∙ h in
      let first = All-head (IsUsable s) e es a in
      All-cons (λ e. IsIn m (read_term o s e)) e es
      (term-sound o ns reading s m e l constants (record { known = first.known; here = left_nil (flat_map (stray o s m) (references e)) (strays o s m es) both; single = first.single; numbers = first.numbers }))
      (terms-sound s m es l (right_nil (flat_map (stray o s m) (references e)) (strays o s m es) both) (All-tail (IsUsable s) e es a))

  named-below : (s : ℕ) (space : Option Ident) (h : Option ℕ) → home_named o s space ≡ h → s < length o.homes → unwrap_or h s < length o.homes
  named-below s space None e l = l
  named-below s space (Some j) e l = home_below o s space j l e

  first-below : (s : ℕ) (rs : List Reference) → s < length o.homes → unwrap_or (first_home o s rs) s < length o.homes
  first-below s [] l = l
  first-below s (r ∷ rs) l = named-below s r.space (home_named o s r.space) refl l

  terms-below : (s : ℕ) (es : List Term) → s < length o.homes → home_of_terms o s es < length ns
  terms-below s es l = omega (arith, first-below s (flat_map references es) l, reading.long)

  selector-sound : (s m : ℕ) (f : Filter) → All (λ e. IsIn m (read_term o s e)) (selectors_of f) → IsSelector ns m (read_filter o s f)
  selector-sound s m every a = tt
  selector-sound s m (by_col r) a = All-head (λ e. IsIn m (read_term o s e)) (col r) [] a
  selector-sound s m (by_group e) a = All-head (λ e. IsIn m (read_term o s e)) e [] a

  list-sound : (s wide : ℕ) (l : Tuple) → s < length o.homes → mixed_in o s (terms_of_list l) ≡ [] → All (IsUsable s) (terms_of_list l) → length l.entries ≡ wide → IsList ns wide (read_tuple o s l)
  list-sound s wide l below h a w =
      let m : ℕ = home_of_terms o s (terms_of_list l) in
      let all : All (λ e. IsIn m (read_term o s e)) (selectors_of l.filter ++ l.entries) = terms-sound s m (terms_of_list l) below h a in
      record {
        space = terms-below s (terms_of_list l) below;
        sel = selector-sound s m l.filter (all_left (λ e. IsIn m (read_term o s e)) (selectors_of l.filter) l.entries all);
        terms = All-map (λ e. IsIn m e) (read_term o s) l.entries (all_right (λ e. IsIn m (read_term o s e)) (selectors_of l.filter) l.entries all);
        many = length-map l.entries (read_term o s) ∙ w;
      }

  lists-sound : (s wide : ℕ) (ls : List Tuple) → s < length o.homes → flat_map (λ l. mixed_in o s (terms_of_list l)) ls ≡ [] → All (IsUsable s) (flat_map terms_of_list ls) → other_widths wide ls ≡ [] → All (IsList ns wide) (map (read_tuple o s) ls)
  lists-sound s wide ls below h a w =
      let here : All (λ l. mixed_in o s (terms_of_list l) ≡ []) ls = all_nil (λ l. mixed_in o s (terms_of_list l)) ls h in
      let usable : All (λ l. All (IsUsable s) (terms_of_list l)) ls = all_parts (IsUsable s) terms_of_list ls a in
      let wides : All (λ l. length l.entries ≡ wide) ls = wide-lists wide ls w in
      All-map (IsList ns wide) (read_tuple o s) ls (λ k d l. list-sound s wide (slice_index_or ls k d) below (here k d l) (usable k d l) (wides k d l))

  -- what an item keeps
  pub record IsKept (s : ℕ) (d : Draft) : Type 0 where
    pub known : unknown_in_draft o s d ≡ []
    pub rows : bad_row_of_draft o s d ≡ []
    pub here : mixed_in_draft o s d ≡ []
    pub widths : wrong_widths_of d ≡ []
    pub single : flat_map (marks s) (terms_of d) ≡ []
    pub numbers : All IsInField (terms_of d)
    pub parts : HasParts d

  usable-terms : (s : ℕ) (es : List Term) → flat_map (unknown_in_term o s) es ≡ [] → flat_map (marks s) es ≡ [] → All IsInField es → All (IsUsable s) es
  usable-terms s es u t f =
      let known : All (λ e. unknown_in_term o s e ≡ []) es = all_nil (unknown_in_term o s) es u in
      let single : All (λ e. marks s e ≡ []) es = all_nil (marks s) es t in
      λ k d l. record { known = known k d l; single = single k d l; numbers = f k d l }

  usable : (s : ℕ) (d : Draft) → IsKept s d → All (IsUsable s) (terms_of d)
  usable s d h = usable-terms s (terms_of d) (right_nil (unknown_in_public o s d) (flat_map (unknown_in_term o s) (terms_of d)) h.known) h.single h.numbers

  row-small : (s : ℕ) (r : Reference) (n : Number) (h : Option ℕ) → home_named o s r.space ≡ h → is_public_in o r h ≡ true → bad_public_row o n h ≡ [] → s < length o.homes → unknown_in_home o r h ≡ [] → n.value < (ast.space_at ns (unwrap_or h s)).rows
  row-small s r n None e q b l u = absurd (no_place o ns reading s r.space e u)
  row-small s r n (Some j) e q b l u =
      subst (λ k. n.value < k) (sym (reading.rows j (home_below o s r.space j l e))) (ltb-true n.value (rows_of o (home_at o.homes j).size) (unless_true (nat_lt n.value (rows_of o (home_at o.homes j).size)) n.at b))

  public-line : (s : ℕ) (x : Ident) (r : Reference) (n : Number) → s < length o.homes → IsKept s (published x r n) → IsItem ns s (read_draft o s (published x r n))
  public-line s x r n l h =
      let known = left_nil (unknown_reference o s r ++ unknown_published o s r) [] h.known in
      let reference : unknown_reference o s r ≡ [] = left_nil (unknown_reference o s r) (unknown_published o s r) known in
      let is_public : (is_none r.next && is_public_in o r (home_named o s r.space)) ≡ true = unless_true (is_none r.next && is_public_in o r (home_named o s r.space)) r.name.at (right_nil (unknown_reference o s r) (unknown_published o s r) known) in
      let is_column = (and_parts (is_none r.next) (is_public_in o r (home_named o s r.space)) is_public).1 in
      let w : IsPublic o ns reading (unwrap_or (home_named o s r.space) s) (column_number (read_reference o s r)) = public-sound o ns reading s r l reference is_column in
      (omega (arith, w.space, reading.long), w.column, row-small s r n (home_named o s r.space) refl is_column h.rows l reference)

  pair : (s m : ℕ) (a b : Term) → All (λ e. IsIn m (read_term o s e)) (a ∷ b ∷ []) → IsIn m (read_term o s a) × IsIn m (read_term o s b)
  pair s m a b h = (All-head (λ e. IsIn m (read_term o s e)) a (b ∷ []) h, All-head (λ e. IsIn m (read_term o s e)) b [] (All-tail (λ e. IsIn m (read_term o s e)) a (b ∷ []) h))

  equal-line : (s : ℕ) (a b : Term) → s < length o.homes → IsKept s (equal a b) → IsItem ns s (read_draft o s (equal a b))
  equal-line s a b l h =
      let m : ℕ = home_of_terms o s (a ∷ b ∷ []) in
      let both = pair s m a b (terms-sound s m (a ∷ b ∷ []) l h.here (usable s (equal a b) h)) in
      (terms-below s (a ∷ b ∷ []) l, both.0, both.1)

  inside-line : (s : ℕ) (a b : Tuple) → s < length o.homes → IsKept s (inside a b) → IsItem ns s (read_draft o s (inside a b))
  inside-line s a b l h =
      let all : All (IsUsable s) (terms_of_list a ++ terms_of_list b) = usable s (inside a b) h in
      let wide : length b.entries ≡ length a.entries = eqb-true (length b.entries) (length a.entries) (unless_true (nat_eq (length b.entries) (length a.entries)) b.at h.widths) in (
        length a.entries,
        h.parts,
        list-sound s (length a.entries) a l (left_nil (mixed_in o s (terms_of_list a)) (mixed_in o s (terms_of_list b)) h.here) (all_left (IsUsable s) (terms_of_list a) (terms_of_list b) all) refl,
        list-sound s (length a.entries) b l (right_nil (mixed_in o s (terms_of_list a)) (mixed_in o s (terms_of_list b)) h.here) (all_right (IsUsable s) (terms_of_list a) (terms_of_list b) all) wide,
      )

  abbrev mixed-lists : ℕ → List Tuple → List ℕ
  mixed-lists s ls = flat_map (λ l. mixed_in o s (terms_of_list l)) ls

  against-line : (s : ℕ) (ls rs : List Tuple) → s < length o.homes → IsKept s (against ls rs) → IsItem ns s (read_draft o s (against ls rs))
  against-line s ls rs l h =
      let n : ℕ = width_of_first ls in
      let all : All (IsUsable s) (flat_map terms_of_list ls ++ flat_map terms_of_list rs) = usable s (against ls rs) h in (
        n,
        h.parts.2,
        omega (arith, h.parts.0, length-map ls (read_tuple o s)),
        omega (arith, h.parts.1, length-map rs (read_tuple o s)),
        lists-sound s n ls l (left_nil (mixed-lists s ls) (mixed-lists s rs) h.here) (all_left (IsUsable s) (flat_map terms_of_list ls) (flat_map terms_of_list rs) all) (left_nil (other_widths n ls) (other_widths n rs) h.widths),
        lists-sound s n rs l (right_nil (mixed-lists s ls) (mixed-lists s rs) h.here) (all_right (IsUsable s) (flat_map terms_of_list ls) (flat_map terms_of_list rs) all) (right_nil (other_widths n ls) (other_widths n rs) h.widths),
      )

  pub line-sound : (s : ℕ) (d : Draft) → s < length o.homes → IsKept s d → IsItem ns s (read_draft o s d)
  line-sound s (column Constant d) l h = length-sound d.length h.widths
  line-sound s (column Commit d) l h = length-sound d.length h.widths
  line-sound s (defined x e) l h = All-head (λ e. IsIn s (read_term o s e)) e [] (terms-sound s s (e ∷ []) l h.here (usable s (defined x e) h))
  line-sound s (published x r n) l h = public-line s x r n l h
  line-sound s (equal a b) l h = equal-line s a b l h
  line-sound s (inside a b) l h = inside-line s a b l h
  line-sound s (against ls rs) l h = against-line s ls rs l h

  pub space-sound : (s : ℕ) → s < length o.homes → bad_size o (home_at o.homes s).size ≡ [] → All (IsKept s) (home_at o.homes s).items → IsAcyclic (ast.space_at ns s).items → IsSpace ns s (ast.space_at ns s)
  space-sound s l b a acyclic =
      let n : ℕ = rows_of o (home_at o.homes s).size in
      let both = and_parts (nat_lt 0 n) (nat_le n (2 ^ 24)) (unless_true (nat_lt 0 n && nat_le n (2 ^ 24)) (size_place (home_at o.homes s).size) b) in
      record {
        some_rows = omega (arith, reading.rows s l, ltb-true 0 n both.0);
        few_rows = omega (arith, reading.rows s l, leb-true n (2 ^ 24) both.1);
        items = subst (All (IsItem ns s)) (sym (reading.items s l)) (All-map (IsItem ns s) (read_draft o s) (home_at o.homes s).items (λ k d w. line-sound s (slice_index_or (home_at o.homes s).items k d) l (a k d w)));
        acyclic = acyclic;
      }
