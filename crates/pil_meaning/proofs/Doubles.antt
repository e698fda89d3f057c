-- A mark on what a reference names is double where the lists of marks tell so.
use Rattle.std.proofs.Common.{ℕ, zero, suc, ◌≡◌, ◌+◌, List, [], ◌∷◌, map, Bool, false, not, Option, Some, refl, sym, ap, subst, ◌∙◌, arith}
use Rattle.std.specs.Prelude.{unwrap_or, is_some}
use Rattle.pil_syntax.specs.declared.tree.Number.{Number}
use Rattle.pil_syntax.specs.declared.tree.Reference.{Reference}
use Rattle.pil_syntax.specs.declared.tree.ColumnKind.{ColumnKind}
use Rattle.pil_syntax.specs.declared.tree.ColumnKind.TheVariants.{Constant, Commit}
use Rattle.pil_syntax.specs.declared.tree.Declaration.{Declaration}
use Rattle.pil_ast.specs.Term.{num, body_of, inter_at, space_at}
use Rattle.pil_names.specs.Outline.{Draft, column, defined, published, equal, inside, against, Home, Outline, home_at, draft_at}
use Rattle.pil_names.specs.Finding.{home_named, item_named}
use Rattle.pil_names.specs.Wrongs.{unless}
use Rattle.pil_meaning.specs.Meaning.{named_item, read_in, read_reference, read_draft, read_homes, meaning}
use Rattle.pil_meaning.specs.Marks.{is_marked_in, mark_in, AreAllMarks, double_of}
use Rattle.pil_meaning.proofs.Marking.{unmarked}

items-all : (o : Outline) (n : ℕ) (hs : List Home) (s : ℕ) → (space_at (read_homes o n hs) s).items ≡ map (read_draft o (n + s)) (home_at hs s).items
items-all o n [] s = refl
items-all o n (h ∷ hs) zero = let z : n ≡ n + 0 = omega arith in ap (λ k. map (read_draft o k) h.items) z
items-all o n (h ∷ hs) (suc s) = let z : n + 1 + s ≡ n + suc s = omega arith in items-all o (n + 1) hs s ∙ ap (λ k. map (read_draft o k) (home_at hs s).items) z

column-none : (o : Outline) (s : ℕ) (c : ColumnKind) (d : Declaration) → body_of (read_draft o s (column c d)) ≡ num 0
column-none o s Constant d = refl
column-none o s Commit d = refl

column-body : (o : Outline) (s : ℕ) (ds : List Draft) (k : ℕ) (c : ColumnKind) (d : Declaration) → draft_at ds k ≡ column c d → inter_at (map (read_draft o s) ds) k ≡ num 0
column-body o s [] k c d e = refl
column-body o s (x ∷ ds) zero c d e = ap (λ y. body_of (read_draft o s y)) e ∙ column-none o s c d
column-body o s (x ∷ ds) (suc k) c d e = column-body o s ds k c d e

module _ (o : Outline) (marks : List (List Bool)) (all : AreAllMarks (meaning o) marks) where
  here : (m k : ℕ) (at : ℕ) → unless (not (is_marked_in (space_at (meaning o) m).items k)) at ≡ unless (not (mark_in marks m k)) at
  here m k at = ap (λ b. unless (not b) at) (sym (all m k))

  column-unmarked : (m k : ℕ) (c : ColumnKind) (d : Declaration) → draft_at (home_at o.homes m).items k ≡ column c d → mark_in marks m k ≡ false
  column-unmarked m k c d e =
      let z : 0 + m ≡ m = omega arith in
      let items = items-all o 0 o.homes m ∙ ap (λ n. map (read_draft o n) (home_at o.homes m).items) z in
      all m k ∙ unmarked (space_at (meaning o) m).items k (ap (λ ls. inter_at ls k) items ∙ column-body o m (home_at o.homes m).items k c d e)

  by_draft : (m k : ℕ) (i : Option Number) (b : Bool) (at : ℕ) (d : Draft) → draft_at (home_at o.homes m).items k ≡ d → double_of (meaning o) (named_item m (home_at o.homes m).items k d i b) at ≡ unless (not (mark_in marks m k)) at
  by_draft m k i b at (column c d) e = sym (ap (λ t. unless (not t) at) (column-unmarked m k c d e))
  by_draft m k i b at (defined x t) e = here m k at
  by_draft m k i b at (published x r n) e = here m k at
  by_draft m k i b at (equal s t) e = here m k at
  by_draft m k i b at (inside s t) e = here m k at
  by_draft m k i b at (against ls rs) e = here m k at

  by_item : (m : ℕ) (r : Reference) (at k : ℕ) (i : Option ℕ) → Some k ≡ i → double_of (meaning o) (read_in o m r i) at ≡ unless (not (mark_in marks m k)) at
  by_item m r at k i e = subst (λ j. double_of (meaning o) (read_in o m r j) at ≡ unless (not (mark_in marks m k)) at) e (by_draft m k r.index (is_some r.next) at (draft_at (home_at o.homes m).items k) refl)

  pub double-is : (s : ℕ) (r : Reference) (at : ℕ) (h : Option ℕ) (m k : ℕ) (b : Bool) → h ≡ home_named o s r.space → m ≡ unwrap_or h s → Some k ≡ item_named o m r → b ≡ mark_in marks m k → unless (not b) at ≡ double_of (meaning o) (read_reference o s r) at
  double-is s r at h m k b eh em ei eb =
      let n : m ≡ unwrap_or (home_named o s r.space) s = em ∙ ap (λ g. unwrap_or g s) eh in
      ap (λ t. unless (not t) at) eb ∙ sym (by_item m r at k (item_named o m r) ei) ∙ ap (λ j. double_of (meaning o) (read_in o j r (item_named o j r)) at) n
