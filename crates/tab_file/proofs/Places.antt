-- Going over the instances that a header promises.
use Rattle.std.proofs.Common.{◌≡◌, ℕ, suc, ◌+◌, ◌-◌, ◌≤◌, ◌<◌, List, [], ◌∷◌, ◌++◌, length, drop, get_or, refl, sym, ap, ◌∙◌, append_assoc, arith}
use Rattle.std.specs.Prelude.{Bool}
use Rattle.std.proofs.lemmas.List.{append-nil, drop_more, drop_all}
use Rattle.std.proofs.lemmas.List.Concat.{flat_map-append}
use Rattle.gold.specs.declared.instances.Table.{Table}
use Rattle.gold.specs.declared.shapes.AirShape.{AirShape}
use Rattle.tab_file.specs.declared.fault.TabErr.{TabErr}
use Rattle.gold.specs.Shapes.{Place, instances_from, places_from}
use Rattle.tab_file.specs.Items.{Item, first_failure, instance_items, places_items, count_item, count_items}
use Rattle.tab_file.specs.Steps.{Pass, Fail, table_at, tables_from, instance_len, place, places_len, Leaves}

-- ---- two lists of places, one after the other

pub places_len-append : (xs ys : List Place) → places_len (xs ++ ys) ≡ places_len xs + places_len ys
places_len-append [] ys = omega arith
places_len-append (x ∷ xs) ys = omega (arith, places_len-append xs ys)

pub tables_from-append : (bytes : List ℕ) (at : ℕ) (xs ys : List Place) → tables_from bytes at (xs ++ ys) ≡ tables_from bytes at xs ++ tables_from bytes (at + places_len xs) ys
tables_from-append bytes at [] ys =
    let e : at + 0 ≡ at = omega arith in
    rw e refl
tables_from-append bytes at (x ∷ xs) ys =
    let e : at + instance_len x + places_len xs ≡ at + (instance_len x + places_len xs) = omega arith in
    ap (λ (ts : List Table). table_at bytes at x ∷ ts) (rw (← e) (tables_from-append bytes (at + instance_len x) xs ys))

-- ---- the instances that are left

pub Leaves-start : (bytes : List ℕ) (airs start : ℕ) (ps : List Place) (before : List Table) → start ≤ length bytes → Leaves bytes airs start ps before start ps before
Leaves-start bytes airs start ps before h = record { whole = h; tables = refl; len = refl; rest = λ more. refl }

pub Leaves-step : (bytes : List ℕ) (airs start : ℕ) (ps : List Place) (before : List Table) (at : ℕ) (p : Place) (qs : List Place) (so_far : List Table) (next : ℕ)
    → Leaves bytes airs start ps before at (p ∷ qs) so_far → Pass bytes at (instance_items airs p) next → next ≡ at + instance_len p
    → Leaves bytes airs start ps before next qs (so_far ++ table_at bytes at p ∷ [])
Leaves-step bytes airs start ps before at p qs so_far next left pass is = record {
  whole = pass.whole;
  tables = append_assoc so_far (table_at bytes at p ∷ []) (tables_from bytes next qs) ∙ ap (λ (n : ℕ). so_far ++ table_at bytes at p ∷ tables_from bytes n qs) is ∙ left.tables;
  len = omega (arith, is, left.len);
  rest = λ more. left.rest more ∙ ap (first_failure bytes at) (append_assoc (instance_items airs p) (places_items airs qs) more) ∙ pass.rest (places_items airs qs ++ more);
}

pub Leaves-fail : (bytes : List ℕ) (airs start : ℕ) (ps : List Place) (before : List Table) (at : ℕ) (p : Place) (qs : List Place) (so_far : List Table) (e : TabErr)
    → Leaves bytes airs start ps before at (p ∷ qs) so_far → Fail bytes at (instance_items airs p) e → Fail bytes start (places_items airs ps) e
Leaves-fail bytes airs start ps before at p qs so_far e left fail fault more =
    left.rest more ∙ ap (first_failure bytes at) (append_assoc (instance_items airs p) (places_items airs qs) more) ∙ fail fault (places_items airs qs ++ more)

pub Leaves-many : (bytes : List ℕ) (airs start : ℕ) (ps : List Place) (before : List Table) (at : ℕ) (xs qs : List Place) (so_far : List Table) (next : ℕ) (now : List Table)
    → Leaves bytes airs start ps before at (xs ++ qs) so_far → Leaves bytes airs at xs so_far next [] now → Leaves bytes airs start ps before next qs now
Leaves-many bytes airs start ps before at xs qs so_far next now left read =
    let end : next ≡ at + places_len xs = omega (arith, read.len) in
    let now-is : now ≡ so_far ++ tables_from bytes at xs = sym (append-nil now) ∙ read.tables in
    record {
      whole = read.whole;
      tables = rw (now-is, end) (append_assoc so_far (tables_from bytes at xs) (tables_from bytes (at + places_len xs) qs) ∙ ap (λ (ts : List Table). so_far ++ ts) (sym (tables_from-append bytes at xs qs)) ∙ left.tables);
      len = omega (arith, end, left.len, places_len-append xs qs);
      rest = λ more. left.rest more ∙ ap (λ (is : List Item). first_failure bytes at (is ++ more)) (flat_map-append (instance_items airs) xs qs)
          ∙ ap (first_failure bytes at) (append_assoc (places_items airs xs) (places_items airs qs) more) ∙ read.rest (places_items airs qs ++ more);
    }

pub Leaves-many_fail : (bytes : List ℕ) (airs start : ℕ) (ps : List Place) (before : List Table) (at : ℕ) (xs qs : List Place) (so_far : List Table) (e : TabErr)
    → Leaves bytes airs start ps before at (xs ++ qs) so_far → Fail bytes at (places_items airs xs) e → Fail bytes start (places_items airs ps) e
Leaves-many_fail bytes airs start ps before at xs qs so_far e left fail fault more =
    left.rest more ∙ ap (λ (is : List Item). first_failure bytes at (is ++ more)) (flat_map-append (instance_items airs) xs qs)
    ∙ ap (first_failure bytes at) (append_assoc (places_items airs xs) (places_items airs qs) more) ∙ fail fault (places_items airs qs ++ more)

-- ---- one more instance, one more air

-- what is read past the end of the airs
abbrev pub no_form : AirShape
no_form = record { rows = 0; columns = 0; most = 0 }

pub instances_from-more : (a : ℕ) (f : AirShape) (i n : ℕ) → i < n → instances_from a f i (n - i) ≡ place a f i ∷ instances_from a f (i + 1) (n - (i + 1))
instances_from-more a f i n lt =
    let k : n - i ≡ suc (n - (i + 1)) = omega arith in
    let s : suc i ≡ i + 1 = omega arith in
    rw k (ap (λ (j : ℕ). place a f i ∷ instances_from a f j (n - (i + 1))) s)

pub instances_from-none : (a : ℕ) (f : AirShape) (i n : ℕ) → n ≤ i → instances_from a f i (n - i) ≡ []
instances_from-none a f i n le =
    let k : n - i ≡ 0 = omega arith in
    rw k refl

pub places_from-more : (fs : List AirShape) (cs : List ℕ) (a : ℕ) (f : AirShape) (d : ℕ) → a < length fs → a < length cs
    → places_from a (drop a fs) (drop a cs) ≡ instances_from a (get_or fs a f) 0 (get_or cs a d) ++ places_from (a + 1) (drop (a + 1) fs) (drop (a + 1) cs)
places_from-more fs cs a f d h k =
    let s : suc a ≡ a + 1 = omega arith in
    rw (drop_more fs a f h, drop_more cs a d k) (ap (λ (j : ℕ). instances_from a (get_or fs a f) 0 (get_or cs a d) ++ places_from j (drop (a + 1) fs) (drop (a + 1) cs)) s)

pub places_from-none : (fs : List AirShape) (cs : List ℕ) (a : ℕ) → length fs ≤ a → places_from a (drop a fs) (drop a cs) ≡ []
places_from-none fs cs a le = rw (drop_all a fs le) refl

pub count_items-more : (machine : Bool) (fs : List AirShape) (a : ℕ) (f : AirShape) → a < length fs → count_items machine a (drop a fs) ≡ count_item machine a (get_or fs a f) ∷ count_items machine (a + 1) (drop (a + 1) fs)
count_items-more machine fs a f h =
    let s : suc a ≡ a + 1 = omega arith in
    rw (drop_more fs a f h) (ap (λ (j : ℕ). count_item machine a (get_or fs a f) ∷ count_items machine j (drop (a + 1) fs)) s)

-- the counts that are left after the first a airs, one more
pub counts_pass : (bytes : List ℕ) (start : ℕ) (machine : Bool) (fs : List AirShape) (at a : ℕ) → a < length fs
    → ((more : List Item) → first_failure bytes start (count_items machine 0 fs ++ more) ≡ first_failure bytes at (count_items machine a (drop a fs) ++ more))
    → Pass bytes at (count_item machine a (get_or fs a no_form) ∷ []) (at + 4)
    → (more : List Item) → first_failure bytes start (count_items machine 0 fs ++ more) ≡ first_failure bytes (at + 4) (count_items machine (a + 1) (drop (a + 1) fs) ++ more)
counts_pass bytes start machine fs at a h left pass more =
    left more ∙ ap (λ (is : List Item). first_failure bytes at (is ++ more)) (count_items-more machine fs a no_form h) ∙ pass.rest (count_items machine (a + 1) (drop (a + 1) fs) ++ more)

pub counts_fail : (bytes : List ℕ) (start : ℕ) (machine : Bool) (fs : List AirShape) (at a : ℕ) (e : TabErr) → a < length fs
    → ((more : List Item) → first_failure bytes start (count_items machine 0 fs ++ more) ≡ first_failure bytes at (count_items machine a (drop a fs) ++ more))
    → Fail bytes at (count_item machine a (get_or fs a no_form) ∷ []) e → Fail bytes start (count_items machine 0 fs) e
counts_fail bytes start machine fs at a e h left fail fault more =
    left more ∙ ap (λ (is : List Item). first_failure bytes at (is ++ more)) (count_items-more machine fs a no_form h) ∙ fail fault (count_items machine (a + 1) (drop (a + 1) fs) ++ more)
