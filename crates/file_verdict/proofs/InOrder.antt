-- Tables that are added one after the other.
use Rattle.std.proofs.Common.{◌≡◌, ℕ, zero, suc, ◌+◌, ◌<◌, ◌≤◌, List, [], ◌∷◌, ◌++◌, length, take, drop, get_or, refl, sym, ap, subst, ◌∙◌, append_assoc, append-nil, add-one, arith}
use Rattle.gold.specs.declared.instances.Table.{Table}
use Rattle.gold.specs.Shapes.{Fill}
use Rattle.rv_model.specs.Image.{Img}
use Rattle.fixed_cols.specs.declared.sizes.Sizes.{Sizes}
use Rattle.verdict.specs.declared.run.VerdictRun.{VerdictRun}
use Rattle.verdict.specs.Standing.{ComesNext, StandsForTables, places_of}
use Rattle.file_verdict.specs.Standing.{FillPlaces}

split_at : (xs : List Table) (n : ℕ) (t : Table) → n < length xs → t ≡ get_or xs n t → xs ≡ take n xs ++ t ∷ drop (suc n) xs
split_at [] n t l e = absurd (omega arith)
split_at (x ∷ xs) zero t l e = ap (λ (y : Table). y ∷ xs) (sym e)
split_at (x ∷ xs) (suc n) t l e = ap (λ (ys : List Table). x ∷ ys) (split_at xs n t (omega arith) e)

take_one : (xs : List Table) (n : ℕ) (t : Table) → n < length xs → t ≡ get_or xs n t → take (suc n) xs ≡ take n xs ++ t ∷ []
take_one [] n t l e = absurd (omega arith)
take_one (x ∷ xs) zero t l e = ap (λ (y : Table). y ∷ []) (sym e)
take_one (x ∷ xs) (suc n) t l e = ap (λ (ys : List Table). x ∷ ys) (take_one xs n t (omega arith) e)

take_all : (xs : List Table) (n : ℕ) → length xs ≤ n → take n xs ≡ xs
take_all [] zero h = refl
take_all [] (suc n) h = refl
take_all (x ∷ xs) zero h = absurd (omega arith)
take_all (x ∷ xs) (suc n) h = ap (λ (ys : List Table). x ∷ ys) (take_all xs n (omega arith))

abbrev pub NextLaw : Type 0
NextLaw = (sizes : Sizes) (before : List Table) (table : Table) (rest : List Table) → Fill (take (length (before ++ table ∷ rest)) (places_of sizes)) (before ++ table ∷ rest) → ComesNext sizes before table

pub comes_next : (law : NextLaw) (sizes : Sizes) (before ts : List Table) (n : ℕ) (t : Table) → FillPlaces sizes (before ++ ts) → n < length ts → t ≡ get_or ts n t → ComesNext sizes (before ++ take n ts) t
comes_next law sizes before ts n t fill l e =
    law sizes (before ++ take n ts) t (drop (suc n) ts)
    (subst (FillPlaces sizes) (ap (λ (ys : List Table). before ++ ys) (split_at ts n t l e) ∙ sym (append_assoc before (take n ts) (t ∷ drop (suc n) ts))) fill)

pub stands_one_more : (image : Img) (sizes : Sizes) (before ts : List Table) (n : ℕ) (t : Table) (run : VerdictRun) → n < length ts → t ≡ get_or ts n t → StandsForTables image sizes ((before ++ take n ts) ++ t ∷ []) run → StandsForTables image sizes (before ++ take (n + 1) ts) run
stands_one_more image sizes before ts n t run l e s =
    rw add-one
    (subst (λ (ys : List Table). StandsForTables image sizes ys run) (append_assoc before (take n ts) (t ∷ []) ∙ ap (λ (ys : List Table). before ++ ys) (sym (take_one ts n t l e))) s)

pub stands_at_first : (image : Img) (sizes : Sizes) (before ts : List Table) (run : VerdictRun) → StandsForTables image sizes before run → StandsForTables image sizes (before ++ take 0 ts) run
stands_at_first image sizes before ts run s = subst (λ (ys : List Table). StandsForTables image sizes ys run) (sym (append-nil before)) s

pub stands_at_last : (image : Img) (sizes : Sizes) (before ts : List Table) (n : ℕ) (run : VerdictRun) → length ts ≤ n → StandsForTables image sizes (before ++ take n ts) run → StandsForTables image sizes (before ++ ts) run
stands_at_last image sizes before ts n run l s = subst (λ (ys : List Table). StandsForTables image sizes (before ++ ys) run) (take_all ts n l) s
