-- No item of a file fails for want of memory.
use Rattle.std.proofs.Common.{◌≡◌, ◌≢◌, ℕ, zero, suc, ◌+◌, ◌*◌, ◌-◌, Bool, true, false, cond, ltb, leb, eqb, List, [], ◌∷◌, ◌++◌, length, replicate, Option, None, Some, refl, ap, subst}
use Rattle.std.proofs.lemmas.Bool.{eqb-true, eqb-false}
use Rattle.std.specs.Prelude.{◌&&◌, ◌||◌}
use Rattle.std.specs.Option.{option_or}
use Rattle.std.specs.Int.{byte_len}
use Rattle.std.specs.List.{AllByRecursion}
use Rattle.gold.specs.Field.{p}
use Rattle.gold.specs.declared.shapes.AirShape.{AirShape}
use Rattle.gold.specs.declared.shapes.Form.{Form}
use Rattle.gold.specs.declared.shapes.Form.TheVariants.{Plain, One, Two}
use Rattle.gold.specs.declared.shapes.Shape.{Shape}
use Rattle.gold.specs.Shapes.{Place, is_machine, is_main, is_out, places_from}
use Rattle.tab_file.specs.declared.fault.TabErr.{TabErr}
use Rattle.tab_file.specs.declared.fault.TabKind.{TabKind}
use Rattle.tab_file.specs.declared.fault.TabKind.TheVariants.{Short, BadMagic, BadVersion, BadProfile, BadAir, NoMain, NotOneOut, TooMany, BadOrder, BadShape, NotCanonical, Trailing, NoMemory}
use Rattle.tab_file.specs.Items.{Item, failure, number_at, wrong_at, first_failure, exactly, profile_item, count_item, count_items, air_item, value_item, instance_items, places_items}
use Rattle.tab_file.specs.Steps.{out_of_memory}
use Rattle.tab_file.specs.Reading.{version_items, front_items, promised_airs, promised_counts, body_items, items, TabFails}

-- what is wrong is of the file
abbrev IsOfFile : Option TabErr → Type 0
IsOfFile None = Unit {0}
IsOfFile (Some e) = e.kind ≢ NoMemory

-- the item can't be wrong but by what the file has
record IsItem (item : Item) : Type 0 where
  pub of_file : (at v : ℕ) → IsOfFile (item.wrong at v)

abbrev AreItems : List Item → Type 0
AreItems items = AllByRecursion IsItem items

of_cond : (b : Bool) (x y : Option TabErr) → IsOfFile x → IsOfFile y → IsOfFile (cond b x y)
of_cond true x y h k = h
of_cond false x y h k = k

of_or : (x y : Option TabErr) → IsOfFile x → IsOfFile y → IsOfFile (option_or x y)
of_or None y h k = k
of_or (Some e) y h k = h

of_first : (bytes : List ℕ) (at : ℕ) (items : List Item) → AreItems items → IsOfFile (first_failure bytes at items)
of_first bytes at [] h = of_cond (ltb at (length bytes)) (Some (failure Trailing at)) None (λ e. cc) tt
of_first bytes at (item ∷ items) h =
    let v = number_at item.width bytes at in
    of_or (wrong_at bytes at item) (first_failure bytes (at + byte_len item.width) items)
    (of_cond (ltb (length bytes) (at + byte_len item.width)) (Some (failure Short (length bytes))) (item.wrong at v) (λ e. cc) (h.0.of_file at v))
    (of_first bytes (at + byte_len item.width) items h.1)

-- ---- the items of the format

exactly_item : (n : ℕ) (kind : TabKind) (back : ℕ) → kind ≢ NoMemory → IsItem (exactly n kind back)
exactly_item n kind back h = record { of_file = λ at v. of_cond (eqb v n) None (Some (failure kind (at - back))) tt h }

one_profile : IsItem profile_item
one_profile = record { of_file = λ at v. of_cond (eqb v 1 || eqb v 2) None (Some (failure BadProfile at)) tt (λ e. cc) }

one_count : (machine : Bool) (a : ℕ) (form : AirShape) → IsItem (count_item machine a form)
one_count machine a form = record {
  of_file = λ at v.
      let one = of_cond (eqb v 1) None (Some (failure NotOneOut at)) tt (λ e. cc) in
      let most = of_cond (leb v form.most) None (Some (failure TooMany at)) tt (λ e. cc) in
      let few = of_cond (is_main machine a && eqb v 0) (Some (failure NoMain at)) (cond (leb v form.most) None (Some (failure TooMany at))) (λ e. cc) most in
      of_cond (is_out machine a) (cond (eqb v 1) None (Some (failure NotOneOut at)))
      (cond (is_main machine a && eqb v 0) (Some (failure NoMain at)) (cond (leb v form.most) None (Some (failure TooMany at)))) one few;
}

one_air : (airs a : ℕ) → IsItem (air_item airs a)
one_air airs a = record {
  of_file = λ at v. of_cond (ltb v airs) (cond (eqb v a) None (Some (failure BadOrder at))) (Some (failure BadAir at)) (of_cond (eqb v a) None (Some (failure BadOrder at)) tt (λ e. cc)) (λ e. cc);
}

one_value : IsItem value_item
one_value = record { of_file = λ at v. of_cond (ltb v p) None (Some (failure NotCanonical at)) tt (λ e. cc) }

-- ---- the items of a file

join : (xs ys : List Item) → AreItems xs → AreItems ys → AreItems (xs ++ ys)
join [] ys h k = k
join (x ∷ xs) ys h k = (h.0, join xs ys h.1 k)

values : (n : ℕ) → AreItems (replicate n value_item)
values zero = tt
values (suc n) = (one_value, values n)

counts : (machine : Bool) (a : ℕ) (fs : List AirShape) → AreItems (count_items machine a fs)
counts machine a [] = tt
counts machine a (f ∷ fs) = (one_count machine a f, counts machine (suc a) fs)

instance : (airs : ℕ) (place : Place) → AreItems (instance_items airs place)
instance airs place = (
  one_air airs place.air,
  (exactly_item place.instance BadOrder 4 (λ e. cc), (exactly_item place.form.columns BadShape 0 (λ e. cc), (exactly_item place.form.rows BadShape 0 (λ e. cc), values (place.form.columns * place.form.rows)))),
)

places : (airs : ℕ) (ps : List Place) → AreItems (places_items airs ps)
places airs [] = tt
places airs (q ∷ qs) = join (instance_items airs q) (places_items airs qs) (instance airs q) (places airs qs)

versions : (form : Form) → AreItems (version_items form)
versions Plain = (exactly_item 1 BadVersion 0 (λ e. cc), tt)
versions One = (exactly_item 1 BadVersion 0 (λ e. cc), tt)
versions Two = (exactly_item 2 BadVersion 0 (λ e. cc), (one_profile, tt))

all_items : (bytes : List ℕ) (shape : Shape) → AreItems (items bytes shape)
all_items bytes shape =
    let fs = promised_airs bytes shape in
    let cs = promised_counts bytes shape in
    let airs = exactly (length shape.airs) BadAir 0 in
    join (front_items shape.form (length shape.airs)) (body_items (is_machine shape.form) fs cs)
    (exactly_item 0x5457_4b5a BadMagic 0 (λ e. cc), join (version_items shape.form) (airs ∷ []) (versions shape.form) (exactly_item (length shape.airs) BadAir 0 (λ e. cc), tt))
    (join (count_items (is_machine shape.form) 0 fs) (places_items (length fs) (places_from 0 fs cs)) (counts (is_machine shape.form) 0 fs) (places (length fs) (places_from 0 fs cs)))

pub never_memory : (bytes : List ℕ) (shape : Shape) (at : ℕ) → TabFails bytes shape NoMemory at → ⊥
never_memory bytes shape at fails =
    let same : NoMemory ≡ NoMemory = refl in
    subst IsOfFile fails (of_first bytes 0 (items bytes shape) (all_items bytes shape)) same

-- want of memory stands at offset 0, where every other failure is an item's
pub memory_place : (bytes : List ℕ) (shape : Shape) (e : TabErr) → (e ≢ out_of_memory → TabFails bytes shape e.kind e.at) → e.kind ≡ NoMemory → e.at ≡ 0
memory_place bytes shape e fails kind =
    elim (eqb e.at 0) as (λ b. eqb e.at 0 ≡ b → e.at ≡ 0) [
      | true ↦ λ h. eqb-true e.at 0 h
      | false ↦ λ h. absurd (never_memory bytes shape e.at (subst (λ (k : TabKind). TabFails bytes shape k e.at) kind (fails (λ same. eqb-false e.at 0 h (ap (λ (x : TabErr). x.at) same)))))
    ] refl
