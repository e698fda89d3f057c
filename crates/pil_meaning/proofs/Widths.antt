-- How many columns the items of a namespace have, and that those that are named are among them.
use Rattle.std.proofs.Common.{ℕ, zero, suc, ◌≡◌, ◌<◌, ◌≤◌, ◌+◌, List, [], ◌∷◌, length, map, take, sum_by, Option, Some, None, refl, ap, arith}
use Rattle.std.specs.Prelude.{unwrap_or, nat_lt}
use Rattle.std.proofs.lemmas.List.Sums.{sum_by-cons}
use Rattle.std.proofs.lemmas.Bool.{ltb-true}
use Rattle.pil_syntax.specs.declared.tree.Number.{Number}
use Rattle.pil_syntax.specs.declared.tree.Declaration.{Declaration}
use Rattle.pil_syntax.specs.declared.tree.ColumnKind.{ColumnKind}
use Rattle.pil_syntax.specs.declared.tree.ColumnKind.TheVariants.{Constant, Commit}
use Rattle.pil_ast.specs.Term.{columns_of, width}
use Rattle.pil_names.specs.Outline.{Draft, column, defined, published, equal, inside, against, Outline, draft_at}
use Rattle.pil_names.specs.Wrongs.{unknown_index}
use Rattle.pil_meaning.specs.Meaning.{length_or_one, length_number, constant_columns, committed_columns, start_of_kind, number_or_zero, read_draft}
use Rattle.pil_meaning.proofs.Nothing.{unless_true}

one-length : (n : Option Number) → unwrap_or (length_number n) 1 ≡ length_or_one n
one-length None = refl
one-length (Some n) = refl

columns-one : (o : Outline) (s : ℕ) (d : Draft) → columns_of (read_draft o s d) ≡ constant_columns d + committed_columns d
columns-one o s (column Constant d) = omega (arith, one-length d.length)
columns-one o s (column Commit d) = omega (arith, one-length d.length)
columns-one o s (defined x e) = omega arith
columns-one o s (published x r n) = omega arith
columns-one o s (equal a b) = omega arith
columns-one o s (inside a b) = omega arith
columns-one o s (against ls rs) = omega arith

pub width-read : (o : Outline) (s : ℕ) (ds : List Draft) → width (map (read_draft o s) ds) ≡ sum_by constant_columns ds + sum_by committed_columns ds
width-read o s [] = omega arith
width-read o s (d ∷ ds) =
    omega (arith, sum_by-cons columns_of (read_draft o s d) (map (read_draft o s) ds), sum_by-cons constant_columns d ds, sum_by-cons committed_columns d ds, columns-one o s d, width-read o s ds)

sum-take : (f : Draft → ℕ) (ds : List Draft) (k : ℕ) → k < length ds → sum_by f (take k ds) + f (draft_at ds k) ≤ sum_by f ds
sum-take f [] k l = absurd (omega arith)
sum-take f (d ∷ ds) zero l = omega (arith, sum_by-cons f d ds)
sum-take f (d ∷ ds) (suc k) l = omega (arith, sum_by-cons f d ds, sum_by-cons f d (take k ds), sum-take f ds k (omega arith))

index-within : (at : ℕ) (n i : Option Number) → unknown_index at n i ≡ [] → number_or_zero i < length_or_one n
index-within at None None e = omega arith
index-within at None (Some i) e = let no : ⊥ = cc in absurd no
index-within at (Some n) None e = let no : ⊥ = cc in absurd no
index-within at (Some n) (Some i) e = ltb-true i.value n.value (unless_true (nat_lt i.value n.value) i.at e)

pub column-within : (ds : List Draft) (k : ℕ) (c : ColumnKind) (d : Declaration) (at : ℕ) (i : Option Number) → k < length ds → draft_at ds k ≡ column c d → unknown_index at d.length i ≡ [] → start_of_kind c ds k + number_or_zero i < sum_by constant_columns ds + sum_by committed_columns ds
column-within ds k Constant d at i l same e =
    omega (arith, index-within at d.length i e, sum-take constant_columns ds k l, ap constant_columns same)
column-within ds k Commit d at i l same e =
    omega (arith, index-within at d.length i e, sum-take committed_columns ds k l, ap committed_columns same)
