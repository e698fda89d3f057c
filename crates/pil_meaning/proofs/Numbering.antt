-- The number of an item's first column gives what a reference to it stands for.
use Rattle.std.proofs.Common.{ℕ, zero, suc, ◌≡◌, ◌≤◌, ◌+◌, List, [], ◌∷◌, length, map, slice_get, slice_index_or, Bool, Option, Some, None, refl, sym, ap, ◌∙◌, arith, inl, inr}
use Rattle.std.specs.Prelude.{is_some}
use Rattle.std.proofs.lemmas.Bool.{cases_lt}
use Rattle.std.proofs.lemmas.List.{get_or_past}
use Rattle.std.proofs.lemmas.List.FromFn.{get_or-map-range_with_len, length-map-range_with_len}
use Rattle.pil_syntax.specs.declared.tree.Number.{Number}
use Rattle.pil_syntax.specs.declared.tree.Reference.{Reference}
use Rattle.pil_syntax.specs.declared.tree.ColumnKind.TheVariants.{Constant, Commit}
use Rattle.pil_ast.specs.Term.{col, mid}
use Rattle.pil_names.specs.Outline.{Draft, column, defined, published, equal, inside, against, Home, Outline, home_at, draft_at}
use Rattle.pil_meaning.specs.Meaning.{start_of_kind, number_or_zero, named_item, read_in}
use Rattle.pil_meaning.specs.Firsts.{first_of, first_at, first_in, firsts_of_items, firsts_of}

pub none-at : (xs : List (Option ℕ)) (k : ℕ) → slice_get xs k ≡ None → slice_index_or xs k None ≡ None
none-at [] k e = refl
none-at (x ∷ xs) zero e = let no : ⊥ = cc in absurd no
none-at (x ∷ xs) (suc k) e = none-at xs k e

past : (ds : List Draft) (k : ℕ) → length ds ≤ k → draft_at ds k ≡ against [] []
past [] k l = refl
past (d ∷ ds) zero l = absurd (omega arith)
past (d ∷ ds) (suc k) l = past ds k (omega arith)

items-first : (ds : List Draft) (k : ℕ) → slice_index_or (firsts_of_items ds) k None ≡ first_at ds k
items-first ds k = elim (cases_lt k (length ds)) [
  | inl l ↦ get_or-map-range_with_len (first_at ds) 0 (length ds) k k None l (omega arith)
  | inr l ↦ get_or_past (firsts_of_items ds) k None (omega (arith, length-map-range_with_len (first_at ds) 0 (length ds))) ∙ sym (ap (first_of (start_of_kind Constant ds k) (start_of_kind Commit ds k)) (past ds k l))
]

homes-first : (hs : List Home) (s : ℕ) → slice_index_or (map (λ (h : Home). firsts_of_items h.items) hs) s [] ≡ firsts_of_items (home_at hs s).items
homes-first [] s = refl
homes-first (h ∷ hs) zero = refl
homes-first (h ∷ hs) (suc s) = homes-first hs s

first-is : (o : Outline) (s k : ℕ) → first_in (firsts_of o) s k ≡ first_at (home_at o.homes s).items k
first-is o s k = ap (λ fs. slice_index_or fs k None) (homes-first o.homes s) ∙ items-first (home_at o.homes s).items k

module _ (m : ℕ) (ds : List Draft) (k : ℕ) (i : Option Number) (b : Bool) where
  a-column : (d : Draft) (f : ℕ) → Some f ≡ first_of (start_of_kind Constant ds k) (start_of_kind Commit ds k) d → col m (f + number_or_zero i) b ≡ named_item m ds k d i b
  a-column (column Constant d) f e = let same : f ≡ start_of_kind Constant ds k = cc in ap (λ n. col m (n + number_or_zero i) b) same
  a-column (column Commit d) f e = let same : f ≡ start_of_kind Commit ds k = cc in ap (λ n. col m (n + number_or_zero i) b) same
  a-column (defined x t) f e = let no : ⊥ = cc in absurd no
  a-column (published x r n) f e = let no : ⊥ = cc in absurd no
  a-column (equal s t) f e = let no : ⊥ = cc in absurd no
  a-column (inside s t) f e = let no : ⊥ = cc in absurd no
  a-column (against ls rs) f e = let no : ⊥ = cc in absurd no

  no-column : (d : Draft) → None ≡ first_of (start_of_kind Constant ds k) (start_of_kind Commit ds k) d → mid m k b ≡ named_item m ds k d i b
  no-column (column Constant d) e = let no : ⊥ = cc in absurd no
  no-column (column Commit d) e = let no : ⊥ = cc in absurd no
  no-column (defined x t) e = refl
  no-column (published x r n) e = refl
  no-column (equal s t) e = refl
  no-column (inside s t) e = refl
  no-column (against ls rs) e = refl

-- what a reference stands for, by the number of its item's first column
pub column-read : (o : Outline) (fs : List (List (Option ℕ))) (m k f : ℕ) (r : Reference) → fs ≡ firsts_of o → Some f ≡ first_in fs m k → col m (f + number_or_zero r.index) (is_some r.next) ≡ read_in o m r (Some k)
column-read o fs m k f r same e =
    a-column m (home_at o.homes m).items k r.index (is_some r.next) (draft_at (home_at o.homes m).items k) f (e ∙ ap (λ gs. first_in gs m k) same ∙ first-is o m k)

pub other-read : (o : Outline) (fs : List (List (Option ℕ))) (m k : ℕ) (r : Reference) → fs ≡ firsts_of o → None ≡ first_in fs m k → mid m k (is_some r.next) ≡ read_in o m r (Some k)
other-read o fs m k r same e =
    no-column m (home_at o.homes m).items k r.index (is_some r.next) (draft_at (home_at o.homes m).items k) (e ∙ ap (λ gs. first_in gs m k) same ∙ first-is o m k)
