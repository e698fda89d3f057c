-- References and expressions that break no rule are read as sound ones.
use Rattle.std.proofs.Common.{ℕ, zero, suc, ◌≡◌, ◌<◌, ◌+◌, List, [], ◌∷◌, ◌++◌, length, sum_by, All, Bool, true, false, Option, Some, None, refl, sym, ap, subst, ◌∙◌, arith}
use Rattle.std.specs.Prelude.{unwrap_or, is_some, nat_eq, not}
use Rattle.std.specs.List.{flat_map}
use Rattle.std.proofs.lemmas.Grind.{flat_map-append}
use Rattle.std.proofs.lemmas.List.{length-map}
use Rattle.std.proofs.lemmas.List.Elements.{All-head, All-tail}
use Rattle.std.proofs.lemmas.Bool.{eqb-true, not-true, false≢true}
use Rattle.gold.specs.Field.{p}
use Rattle.pil_syntax.specs.declared.tree.Ident.{Ident}
use Rattle.pil_syntax.specs.declared.tree.Reference.{Reference}
use Rattle.pil_syntax.specs.Tree.{Term, num, col, constant, public, opp, group, ◌⊕◌, ◌⊖◌, ◌⊗◌}
use Rattle.pil_ast.specs.Term as ast
use Rattle.pil_ast.specs.Sound.{IsInter, IsOf}
use Rattle.pil_names.specs.Outline.{Named, Draft, column, defined, published, equal, inside, against, Outline, home_at, draft_at, constant_at}
use Rattle.pil_names.specs.Finding.{found, constant_entries, public_entries, public_names, home_named, item_named}
use Rattle.pil_names.specs.Wrongs.{each_name, references, unknown_index, unknown_in_item, space_place, unknown_in_home, unknown_reference, unknown_in_term, length_of, stray, is_column, is_public_item, is_public_in, value_of_constant}
use Rattle.pil_meaning.specs.Meaning.{constant_columns, committed_columns, named_item, read_in, read_reference, read_term, read_draft, column_number}
use Rattle.pil_meaning.specs.Marks.{is_marked_in, double_at}
use Rattle.pil_meaning.specs.Soundness.{IsInField}
use Rattle.pil_meaning.proofs.Nothing.{left_nil, right_nil, unless_true}
use Rattle.pil_meaning.proofs.Found.{found_below, IsPolynomial, IsPolynomialAt, found_polynomial, home_below}
use Rattle.pil_meaning.specs.Standing.{IsReading}
use Rattle.pil_meaning.proofs.Places.{item_at-map}
use Rattle.pil_meaning.proofs.Widths.{width-read, column-within}

single : (ns : List ast.Namespace) (m k : ℕ) (b : Bool) (n : Option ℕ) → double_at ns (ast.mid m k b) n ≡ [] → is_some n ≡ true → is_marked_in (ast.space_at ns m).items k ≡ false
single ns m k b None e s = absurd (false≢true s)
single ns m k b (Some at) e s = not-true (is_marked_in (ast.space_at ns m).items k) (unless_true (not (is_marked_in (ast.space_at ns m).items k)) at e)

value-small : (cs : List Named) (k : ℕ) → All (λ c. c.value.value < p) cs → (constant_at cs k).value.value < p
value-small [] k a = omega arith
value-small (c ∷ cs) zero a = All-head (λ c. c.value.value < p) c cs a
value-small (c ∷ cs) (suc k) a = value-small cs k (All-tail (λ c. c.value.value < p) c cs a)

module _ (o : Outline) (ns : List ast.Namespace) (reading : IsReading o ns) where
  -- the items of the namespace j of the text
  abbrev drafts : ℕ → List Draft
  drafts j = (home_at o.homes j).items

  abbrev items : ℕ → List ast.Line
  items j = (ast.space_at ns j).items

  abbrev IsIn : ℕ → ast.Term → Type 0
  IsIn m e = IsOf (items m) (length (ast.publics ns)) m e

  wide : (j : ℕ) → j < length o.homes → ast.width (items j) ≡ sum_by constant_columns (drafts j) + sum_by committed_columns (drafts j)
  wide j l = ap ast.width (reading.items j l) ∙ width-read o j (drafts j)

  item-is : (j k : ℕ) → j < length o.homes → k < length (drafts j) → ast.item_at (items j) k ≡ read_draft o j (draft_at (drafts j) k)
  item-is j k l w = ap (λ ls. ast.item_at ls k) (reading.items j l) ∙ item_at-map (read_draft o j) (drafts j) k w

  many : (j : ℕ) → j < length o.homes → length (items j) ≡ length (drafts j)
  many j l = ap length (reading.items j l) ∙ length-map (drafts j) (read_draft o j)

  -- a polynomial that is named
  named : (j k : ℕ) (r : Reference) (d : Draft) → j < length o.homes → k < length (drafts j) → draft_at (drafts j) k ≡ d → IsPolynomial d → unknown_index r.name.at (length_of d) r.index ≡ [] → double_at ns (named_item j (drafts j) k d r.index (is_some r.next)) r.next ≡ [] → IsIn j (named_item j (drafts j) k d r.index (is_some r.next))
  named j k r (column c d) l w same q u t = (refl, omega (arith, wide j l, column-within (drafts j) k c d r.name.at r.index w same u))
  named j k r (defined x e) l w same q u t =
      (refl, (omega (arith, many j l, w), subst IsInter (sym (item-is j k l w ∙ ap (read_draft o j) same)) tt, single ns j k (is_some r.next) r.next t))
  named j k r (published x c n) l w same q u t = absurd q
  named j k r (equal a b) l w same q u t = absurd q
  named j k r (inside a b) l w same q u t = absurd q
  named j k r (against ls rs) l w same q u t = absurd q

  at_place : (j k : ℕ) (r : Reference) → IsPolynomialAt (drafts j) 0 k → j < length o.homes → unknown_index r.name.at (length_of (draft_at (drafts j) k)) r.index ≡ [] → double_at ns (read_in o j r (Some k)) r.next ≡ [] → IsIn j (read_in o j r (Some k))
  at_place j k r w l u t =
      let z : w.place ≡ k = omega (arith, w.is) in
      named j k r (draft_at (drafts j) k) l (subst (λ i. i < length (drafts j)) z w.within) refl (subst (λ i. IsPolynomial (draft_at (drafts j) i)) z w.polynomial) u t

  in_item : (j : ℕ) (r : Reference) (i : Option ℕ) → item_named o j r ≡ i → j < length o.homes → unknown_in_item r (drafts j) i ≡ [] → double_at ns (read_in o j r i) r.next ≡ [] → IsIn j (read_in o j r i)
  in_item j r None e l u t = let no : ⊥ = cc in absurd no
  in_item j r (Some k) e l u t = at_place j k r (found_polynomial r.name.name 0 (drafts j) k e) l u t

  pub no_place : (s : ℕ) (space : Option Ident) → home_named o s space ≡ None → space_place space ≡ [] → ⊥
  no_place s None e q = let no : ⊥ = cc in no
  no_place s (Some x) e q = let no : ⊥ = cc in no

  in_home : (s m : ℕ) (r : Reference) (h : Option ℕ) → home_named o s r.space ≡ h → s < length o.homes → unknown_in_home o r h ≡ [] → unwrap_or h s ≡ m → double_at ns (read_in o (unwrap_or h s) r (item_named o (unwrap_or h s) r)) r.next ≡ [] → IsIn m (read_in o (unwrap_or h s) r (item_named o (unwrap_or h s) r))
  in_home s m r None e l u same t = absurd (no_place s r.space e u)
  in_home s m r (Some j) e l u same t = subst (λ i. IsIn i (read_in o j r (item_named o j r))) same (in_item j r (item_named o j r) refl (home_below o s r.space j l e) u t)

  pub reference-sound : (s m : ℕ) (r : Reference) → s < length o.homes → unknown_reference o s r ≡ [] → stray o s m r ≡ [] → double_at ns (read_reference o s r) r.next ≡ [] → IsIn m (read_reference o s r)
  reference-sound s m r l u e t =
      in_home s m r (home_named o s r.space) refl l u (eqb-true (unwrap_or (home_named o s r.space) s) m (unless_true (nat_eq (unwrap_or (home_named o s r.space) s) m) r.name.at e)) t

  -- the column of a public
  public_column : (j k : ℕ) (r : Reference) (d : Draft) → j < length o.homes → k < length (drafts j) → draft_at (drafts j) k ≡ d → is_column d ≡ true → unknown_index r.name.at (length_of d) r.index ≡ [] → column_number (named_item j (drafts j) k d r.index (is_some r.next)) < ast.width (items j)
  public_column j k r (column c d) l w same q u = omega (arith, wide j l, column-within (drafts j) k c d r.name.at r.index w same u)
  public_column j k r (defined x e) l w same q u = absurd (false≢true q)
  public_column j k r (published x c n) l w same q u = absurd (false≢true q)
  public_column j k r (equal a b) l w same q u = absurd (false≢true q)
  public_column j k r (inside a b) l w same q u = absurd (false≢true q)
  public_column j k r (against ls rs) l w same q u = absurd (false≢true q)

  public_item : (j : ℕ) (r : Reference) (i : Option ℕ) → item_named o j r ≡ i → j < length o.homes → unknown_in_item r (drafts j) i ≡ [] → is_public_item (drafts j) i ≡ true → column_number (read_in o j r i) < ast.width (items j)
  public_item j r None e l u q = let no : ⊥ = cc in absurd no
  public_item j r (Some k) e l u q =
      let w = found_polynomial r.name.name 0 (drafts j) k e in
      let z : w.place ≡ k = omega (arith, w.is) in
      public_column j k r (draft_at (drafts j) k) l (subst (λ i. i < length (drafts j)) z w.within) refl q u

  pub record IsPublic (m k : ℕ) : Type 0 where
    pub space : m < length o.homes
    pub column : k < ast.width (items m)

  public_home : (s : ℕ) (r : Reference) (h : Option ℕ) → home_named o s r.space ≡ h → s < length o.homes → unknown_in_home o r h ≡ [] → is_public_in o r h ≡ true → IsPublic (unwrap_or h s) (column_number (read_in o (unwrap_or h s) r (item_named o (unwrap_or h s) r)))
  public_home s r None e l u q = absurd (no_place s r.space e u)
  public_home s r (Some j) e l u q =
      let below : j < length o.homes = home_below o s r.space j l e in
      record { space = below; column = public_item j r (item_named o j r) refl below u q }

  pub public-sound : (s : ℕ) (r : Reference) → s < length o.homes → unknown_reference o s r ≡ [] → is_public_in o r (home_named o s r.space) ≡ true → IsPublic (unwrap_or (home_named o s r.space) s) (column_number (read_reference o s r))
  public-sound s r l u q = public_home s r (home_named o s r.space) refl l u q

  public_known : (x : Ident) (i : Option ℕ) → found x.name (public_entries o) ≡ i → is_some i ≡ true → unwrap_or i 0 < length (ast.publics ns)
  public_known x None e q = absurd (false≢true q)
  public_known x (Some k) e q = omega (arith, found_below x.name 0 (public_names o.homes) k e, reading.publics)

  pub constant_known : (i : Option ℕ) → All (λ c. c.value.value < p) o.constants → value_of_constant o i < p
  constant_known None a = omega arith
  constant_known (Some k) a = value-small o.constants k a

  -- what an expression keeps
  pub record IsKept (s m : ℕ) (e : Term) : Type 0 where
    pub known : unknown_in_term o s e ≡ []
    pub here : flat_map (stray o s m) (references e) ≡ []
    pub single : each_name (λ r. double_at ns (read_reference o s r) r.next) (λ x. []) (λ x. []) e ≡ []
    pub numbers : IsInField e

  abbrev marks : ℕ → Term → List ℕ
  marks s e = each_name (λ r. double_at ns (read_reference o s r) r.next) (λ x. []) (λ x. []) e

  split : (s m : ℕ) (a b : Term) → flat_map (stray o s m) (references a ++ references b) ≡ [] → flat_map (stray o s m) (references a) ++ flat_map (stray o s m) (references b) ≡ []
  split s m a b e = sym (flat_map-append (stray o s m) (references a) (references b)) ∙ e

  kept-left : (s m : ℕ) (a b : Term) → unknown_in_term o s a ++ unknown_in_term o s b ≡ [] → flat_map (stray o s m) (references a ++ references b) ≡ [] → marks s a ++ marks s b ≡ [] → IsInField a → IsKept s m a
  kept-left s m a b u e t f =
      record { known = left_nil (unknown_in_term o s a) (unknown_in_term o s b) u; here = left_nil (flat_map (stray o s m) (references a)) (flat_map (stray o s m) (references b)) (split s m a b e); single = left_nil (marks s a) (marks s b) t; numbers = f }

  kept-right : (s m : ℕ) (a b : Term) → unknown_in_term o s a ++ unknown_in_term o s b ≡ [] → flat_map (stray o s m) (references a ++ references b) ≡ [] → marks s a ++ marks s b ≡ [] → IsInField b → IsKept s m b
  kept-right s m a b u e t f =
      record { known = right_nil (unknown_in_term o s a) (unknown_in_term o s b) u; here = right_nil (flat_map (stray o s m) (references a)) (flat_map (stray o s m) (references b)) (split s m a b e); single = right_nil (marks s a) (marks s b) t; numbers = f }

  pub term-sound : (s m : ℕ) (e : Term) → s < length o.homes → All (λ c. c.value.value < p) o.constants → IsKept s m e → IsIn m (read_term o s e)
  term-sound s m (num n) l cs h = h.numbers
  term-sound s m (col r) l cs h = reference-sound s m r l h.known (left_nil (stray o s m r) [] h.here) h.single
  term-sound s m (constant x) l cs h = constant_known (found x.name (constant_entries o)) cs
  term-sound s m (public x) l cs h = public_known x (found x.name (public_entries o)) refl (unless_true (is_some (found x.name (public_entries o))) x.at h.known)
  term-sound s m (opp a) l cs h = term-sound s m a l cs (record { known = h.known; here = h.here; single = h.single; numbers = h.numbers })
  term-sound s m (group a) l cs h = term-sound s m a l cs (record { known = h.known; here = h.here; single = h.single; numbers = h.numbers })
  term-sound s m (a ⊕ b) l cs h =
      (term-sound s m a l cs (kept-left s m a b h.known h.here h.single h.numbers.0), term-sound s m b l cs (kept-right s m a b h.known h.here h.single h.numbers.1))
  term-sound s m (a ⊖ b) l cs h =
      (term-sound s m a l cs (kept-left s m a b h.known h.here h.single h.numbers.0), term-sound s m b l cs (kept-right s m a b h.known h.here h.single h.numbers.1))
  term-sound s m (a ⊗ b) l cs h =
      (term-sound s m a l cs (kept-left s m a b h.known h.here h.single h.numbers.0), term-sound s m b l cs (kept-right s m a b h.known h.here h.single h.numbers.1))
