-- The intermediates of a namespace name each other alone where no name is unknown or of another namespace.
use Rattle.std.proofs.Common.{ℕ, zero, suc, ◌≡◌, ◌<◌, ◌≤◌, ◌^◌, List, [], ◌∷◌, ◌++◌, length, map, All, Option, Some, None, refl, sym, ap, subst, ◌∙◌, arith}
use Rattle.std.specs.Prelude.{unwrap_or, is_some, nat_eq}
use Rattle.std.specs.List.{flat_map}
use Rattle.std.proofs.lemmas.Grind.{flat_map-append}
use Rattle.std.proofs.lemmas.List.{length-map}
use Rattle.std.proofs.lemmas.List.Elements.{All-head, All-tail}
use Rattle.std.proofs.lemmas.Bool.{eqb-true}
use Rattle.pil_syntax.specs.declared.tree.Reference.{Reference}
use Rattle.pil_syntax.specs.declared.tree.ColumnKind.TheVariants.{Constant, Commit}
use Rattle.pil_syntax.specs.Tree.{Term, num, col, constant, public, opp, group, ◌⊕◌, ◌⊖◌, ◌⊗◌}
use Rattle.pil_ast.specs.Term as ast
use Rattle.pil_ast.specs.Sound.{NamesOnly, signs}
use Rattle.pil_names.specs.Outline.{Draft, column, defined, published, equal, inside, against, Home, Outline, home_at, draft_at, outline_of}
use Rattle.pil_names.specs.Finding.{home_named, item_named}
use Rattle.pil_names.specs.Wrongs.{each_item, references, unknown_in_home, unknown_reference, unknown_in_term, unknown_in_draft, unknown_in_size, stray, mixed_in_draft}
use Rattle.pil_meaning.specs.Meaning.{named_item, read_in, read_reference, read_term, read_draft, meaning}
use Rattle.pil_meaning.specs.Closed.{IsClosed, NamedIsClosed}
use Rattle.pil_meaning.proofs.Nothing.{left_nil, right_nil, unless_true, each_draft}
use Rattle.pil_meaning.proofs.Found.{found_polynomial, home_below}
use Rattle.pil_meaning.specs.Standing.{IsReading}
use Rattle.pil_meaning.proofs.Places.{reading}
use Rattle.pil_meaning.proofs.Terms.{no_place}
use Rattle.pil_meaning.proofs.Signs.{meaning-signs}
use Rattle.pil_meaning.proofs.Ranges.{all-spaces, items-signs, space-within}

module _ (o : Outline) (ns : List ast.Namespace) (read : IsReading o ns) where
  abbrev drafts : ℕ → List Draft
  drafts j = (home_at o.homes j).items

  abbrev IsInside : ℕ → ast.Term → Type 0
  IsInside m e = NamesOnly (λ k. k < length (ast.space_at ns m).items) e

  named-inside : (j k : ℕ) (r : Reference) (d : Draft) → k < length (ast.space_at ns j).items → IsInside j (named_item j (drafts j) k d r.index (is_some r.next))
  named-inside j k r (column c d) w = tt
  named-inside j k r (defined x e) w = w
  named-inside j k r (published x c n) w = w
  named-inside j k r (equal a b) w = w
  named-inside j k r (inside a b) w = w
  named-inside j k r (against ls rs) w = w

  item-inside : (j : ℕ) (r : Reference) (i : Option ℕ) → item_named o j r ≡ i → j < length o.homes → IsInside j (read_in o j r i)
  item-inside j r None e l = tt
  item-inside j r (Some k) e l =
      let w = found_polynomial r.name.name 0 (drafts j) k e in
      named-inside j k r (draft_at (drafts j) k) (omega (arith, w.is, w.within, ap length (read.items j l), length-map (drafts j) (read_draft o j)))

  home-inside : (s m : ℕ) (r : Reference) (h : Option ℕ) → home_named o s r.space ≡ h → s < length o.homes → unknown_in_home o r h ≡ [] → unwrap_or h s ≡ m → IsInside m (read_in o (unwrap_or h s) r (item_named o (unwrap_or h s) r))
  home-inside s m r None e l u same = absurd (no_place o ns read s r.space e u)
  home-inside s m r (Some j) e l u same = subst (λ i. IsInside i (read_in o j r (item_named o j r))) same (item-inside j r (item_named o j r) refl (home_below o s r.space j l e))

  reference-inside : (s m : ℕ) (r : Reference) → s < length o.homes → unknown_reference o s r ≡ [] → stray o s m r ≡ [] → IsInside m (read_reference o s r)
  reference-inside s m r l u e =
      home-inside s m r (home_named o s r.space) refl l u (eqb-true (unwrap_or (home_named o s r.space) s) m (unless_true (nat_eq (unwrap_or (home_named o s r.space) s) m) r.name.at e))

  split : (s m : ℕ) (a b : Term) → flat_map (stray o s m) (references a ++ references b) ≡ [] → flat_map (stray o s m) (references a) ++ flat_map (stray o s m) (references b) ≡ []
  split s m a b e = sym (flat_map-append (stray o s m) (references a) (references b)) ∙ e

  term-inside : (s m : ℕ) (e : Term) → s < length o.homes → unknown_in_term o s e ≡ [] → flat_map (stray o s m) (references e) ≡ [] → IsInside m (read_term o s e)
  term-inside s m (num n) l u e = tt
  term-inside s m (col r) l u e = reference-inside s m r l u (left_nil (stray o s m r) [] e)
  term-inside s m (constant x) l u e = tt
  term-inside s m (public x) l u e = tt
  term-inside s m (opp a) l u e = term-inside s m a l u e
  term-inside s m (group a) l u e = term-inside s m a l u e
  term-inside s m (a ⊕ b) l u e = (
    term-inside s m a l (left_nil (unknown_in_term o s a) (unknown_in_term o s b) u) (left_nil (flat_map (stray o s m) (references a)) (flat_map (stray o s m) (references b)) (split s m a b e)),
    term-inside s m b l (right_nil (unknown_in_term o s a) (unknown_in_term o s b) u) (right_nil (flat_map (stray o s m) (references a)) (flat_map (stray o s m) (references b)) (split s m a b e)),
  )
  term-inside s m (a ⊖ b) l u e = (
    term-inside s m a l (left_nil (unknown_in_term o s a) (unknown_in_term o s b) u) (left_nil (flat_map (stray o s m) (references a)) (flat_map (stray o s m) (references b)) (split s m a b e)),
    term-inside s m b l (right_nil (unknown_in_term o s a) (unknown_in_term o s b) u) (right_nil (flat_map (stray o s m) (references a)) (flat_map (stray o s m) (references b)) (split s m a b e)),
  )
  term-inside s m (a ⊗ b) l u e = (
    term-inside s m a l (left_nil (unknown_in_term o s a) (unknown_in_term o s b) u) (left_nil (flat_map (stray o s m) (references a)) (flat_map (stray o s m) (references b)) (split s m a b e)),
    term-inside s m b l (right_nil (unknown_in_term o s a) (unknown_in_term o s b) u) (right_nil (flat_map (stray o s m) (references a)) (flat_map (stray o s m) (references b)) (split s m a b e)),
  )

  -- what the k-th of these items of the namespace s names is among its items
  items-inside : (s : ℕ) (ds : List Draft) (k : ℕ) → s < length o.homes → All (λ d. unknown_in_draft o s d ≡ []) ds → All (λ d. mixed_in_draft o s d ≡ []) ds → IsInside s (ast.inter_at (map (read_draft o s) ds) k)
  items-inside s [] k l u e = tt
  items-inside s (column Constant d ∷ ds) zero l u e = tt
  items-inside s (column Commit d ∷ ds) zero l u e = tt
  items-inside s (defined x t ∷ ds) zero l u e =
      let known : flat_map (unknown_in_term o s) (t ∷ []) ≡ [] = All-head (λ d. unknown_in_draft o s d ≡ []) (defined x t) ds u in
      let here : flat_map (stray o s s) (references t ++ []) ≡ [] = All-head (λ d. mixed_in_draft o s d ≡ []) (defined x t) ds e in
      term-inside s s t l (left_nil (unknown_in_term o s t) [] known) (left_nil (flat_map (stray o s s) (references t)) [] (sym (flat_map-append (stray o s s) (references t) []) ∙ here))
  items-inside s (published x r n ∷ ds) zero l u e = tt
  items-inside s (equal a b ∷ ds) zero l u e = tt
  items-inside s (inside a b ∷ ds) zero l u e = tt
  items-inside s (against ls rs ∷ ds) zero l u e = tt
  items-inside s (d ∷ ds) (suc k) l u e = items-inside s ds k l (All-tail (λ d. unknown_in_draft o s d ≡ []) d ds u) (All-tail (λ d. mixed_in_draft o s d ≡ []) d ds e)

  pub space-closed : (s : ℕ) → s < length o.homes → signs ns ≤ 2 ^ 20 → All (λ d. unknown_in_draft o s d ≡ []) (drafts s) → All (λ d. mixed_in_draft o s d ≡ []) (drafts s) → IsClosed (ast.space_at ns s).items
  space-closed s l short u e = record {
    few = omega (arith, short, space-within ns s (omega (arith, read.long)), items-signs (ast.space_at ns s).items);
    inside = λ k. subst (λ (ls : List ast.Line). IsInside s (ast.inter_at ls k)) (sym (read.items s l)) (items-inside s (drafts s) k l u e);
  }

pub closed : NamedIsClosed
closed ss short u e =
    let o : Outline = outline_of ss in
    let few : signs (meaning o) ≤ 2 ^ 20 = omega (arith, short, meaning-signs ss) in
    all-spaces (λ n. IsClosed n.items) (meaning o) (λ s l.
    let l' : s < length o.homes = omega (arith, (reading o).long, l) in
    space-closed o (meaning o) (reading o) s l' few
    (each_draft (unknown_in_draft o) o s (right_nil (flat_map (λ (h : Home). unknown_in_size o h.size) o.homes) (each_item (unknown_in_draft o) o) u) l')
    (each_draft (mixed_in_draft o) o s e l'))
