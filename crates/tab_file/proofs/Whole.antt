-- From the header to the last instance.
use Rattle.std.proofs.Common.{◌≡◌, ◌≢◌, ℕ, ◌+◌, ◌*◌, ◌≤◌, ◌<◌, Bool, List, [], length, refl, sym, ap, subst, ◌∙◌}
use Rattle.std.specs.Prelude.{None, Some}
use Rattle.std.specs.Int.{w32}
use Rattle.std.proofs.lemmas.Bool.{lt-ltb, le-ltb}
use Rattle.std.proofs.lemmas.List.{append-nil}
use Rattle.gold.specs.declared.instances.Table.{Table}
use Rattle.gold.specs.declared.instances.Witness.{Witness}
use Rattle.gold.specs.declared.shapes.AirShape.{AirShape}
use Rattle.gold.specs.declared.shapes.Profile.{Profile}
use Rattle.gold.specs.declared.shapes.Shape.{Shape}
use Rattle.tab_file.specs.declared.fault.TabErr.{TabErr}
use Rattle.tab_file.specs.declared.fault.TabKind.TheVariants.{Trailing}
use Rattle.gold.specs.Shapes.{is_machine, places_from}
use Rattle.tab_file.specs.Items.{failure, first_failure, count_items, places_items}
use Rattle.tab_file.specs.Reading.{numbers_from, front_items, front_end, promised_profile, promised_airs, promised_counts, body_items, items, TabFails}
use Rattle.tab_file.specs.Steps.{Pass, Fail, out_of_memory, body_tables, promised, Leaves}

-- ---- the front, and what follows it

pub front_fails : (bytes : List ℕ) (shape : Shape) (e : TabErr) → Fail bytes 0 (front_items shape.form (length shape.airs)) e → e ≢ out_of_memory → TabFails bytes shape e.kind e.at
front_fails bytes shape e f fault = f fault (body_items (is_machine shape.form) (promised_airs bytes shape) (promised_counts bytes shape))

pub after_front : (bytes : List ℕ) (shape : Shape) (start : ℕ) (machine : Bool) (fs : List AirShape) → Pass bytes 0 (front_items shape.form (length shape.airs)) start → start ≡ front_end shape.form → machine ≡ is_machine shape.form
    → fs ≡ promised_airs bytes shape → first_failure bytes 0 (items bytes shape) ≡ first_failure bytes start (body_items machine fs (numbers_from w32 bytes start (length fs)))
after_front bytes shape start machine fs pass s m f =
    pass.rest (body_items (is_machine shape.form) (promised_airs bytes shape) (promised_counts bytes shape)) ∙ rw (s, m, f) refl

abbrev made : Profile → List Table → Witness
made profile tables = record { profile = profile; tables = tables }

pub promised_is : (bytes : List ℕ) (shape : Shape) (profile : Profile) (start : ℕ) (fs : List AirShape) (tables : List Table) → profile ≡ promised_profile bytes shape.form → start ≡ front_end shape.form → fs ≡ promised_airs bytes shape
    → tables ≡ body_tables bytes start fs (numbers_from w32 bytes start (length fs)) → made profile tables ≡ promised bytes shape
promised_is bytes shape profile start fs tables p s f t =
    ap (λ (q : Profile). made q tables) p ∙ ap (λ (ts : List Table). made (promised_profile bytes shape.form) ts) (t ∙ rw (s, f) refl)

-- ---- the numbers of instances, and the instances

pub at_tables : (bytes : List ℕ) (start at : ℕ) (machine : Bool) (fs : List AirShape) (cs : List ℕ) → Pass bytes start (count_items machine 0 fs) at
    → first_failure bytes start (body_items machine fs cs) ≡ first_failure bytes at (places_items (length fs) (places_from 0 fs cs))
at_tables bytes start at machine fs cs p = p.rest (places_items (length fs) (places_from 0 fs cs))

pub counts_fail : (bytes : List ℕ) (start : ℕ) (machine : Bool) (fs : List AirShape) (cs : List ℕ) (e : TabErr) → Fail bytes start (count_items machine 0 fs) e → e ≢ out_of_memory → first_failure bytes start (body_items machine fs cs) ≡ Some e
counts_fail bytes start machine fs cs e f fault = f fault (places_items (length fs) (places_from 0 fs cs))

pub tables_fail : (bytes : List ℕ) (start at : ℕ) (machine : Bool) (fs : List AirShape) (cs ds : List ℕ) (e : TabErr) → Pass bytes start (count_items machine 0 fs) at → ds ≡ cs
    → Fail bytes at (places_items (length fs) (places_from 0 fs ds)) e → e ≢ out_of_memory → first_failure bytes start (body_items machine fs cs) ≡ Some e
tables_fail bytes start at machine fs cs ds e p same f fault =
    let here = subst (λ (xs : List ℕ). Fail bytes at (places_items (length fs) (places_from 0 fs xs)) e) same f in
    at_tables bytes start at machine fs cs p ∙ ap (first_failure bytes at) (sym (append-nil (places_items (length fs) (places_from 0 fs cs)))) ∙ here fault []

pub ends : (bytes : List ℕ) (start at end : ℕ) (machine : Bool) (fs : List AirShape) (cs ds : List ℕ) (tables : List Table) → Pass bytes start (count_items machine 0 fs) at → ds ≡ cs
    → Leaves bytes (length fs) at (places_from 0 fs ds) [] end [] tables → first_failure bytes start (body_items machine fs cs) ≡ first_failure bytes end []
ends bytes start at end machine fs cs ds tables p same left =
    let here = subst (λ (xs : List ℕ). Leaves bytes (length fs) at (places_from 0 fs xs) [] end [] tables) same left in
    at_tables bytes start at machine fs cs p ∙ ap (first_failure bytes at) (sym (append-nil (places_items (length fs) (places_from 0 fs cs)))) ∙ here.rest []

pub ends_whole : (bytes : List ℕ) (end : ℕ) → length bytes ≤ end → first_failure bytes end [] ≡ None
ends_whole bytes end le = rw (le-ltb end (length bytes) le) refl

pub ends_early : (bytes : List ℕ) (end : ℕ) → end < length bytes → first_failure bytes end [] ≡ Some (failure Trailing end)
ends_early bytes end lt = rw (lt-ltb end (length bytes) lt) refl

pub tables_are : (bytes : List ℕ) (start at end : ℕ) (fs : List AirShape) (cs ds : List ℕ) (tables : List Table) → at ≡ start + 4 * length fs → ds ≡ cs
    → Leaves bytes (length fs) at (places_from 0 fs ds) [] end [] tables → tables ≡ body_tables bytes start fs cs
tables_are bytes start at end fs cs ds tables at-is same left = sym (append-nil tables) ∙ left.tables ∙ rw (same, at-is) refl
