-- The text of a machine's tables tells each table's rows by its first column.
use Rattle.std.proofs.Common.{◌≡◌, ℕ, zero, suc, ◌+◌, ◌^◌, ◌<◌, ◌≤◌, Bool, true, List, [], ◌∷◌, ◌++◌, length, All, get_or, take, refl, sym, ap, subst, ◌∙◌, append_assoc, arith}
use Rattle.std.specs.Prelude.{◌==◌, count_by, codes}
use Rattle.std.proofs.lemmas.List.{flat_map_more, take_more, take_all}
use Rattle.std.specs.List.{flat_map, AllByRecursion}
use Rattle.std.proofs.lemmas.List.Elements.{All-head, All-from_recursion}
use Rattle.gold.specs.declared.instances.Table.{Table}
use Rattle.gold.specs.declared.instances.Witness.{Witness}
use Rattle.gold.specs.declared.shapes.AirShape.{AirShape}
use Rattle.gold.specs.declared.shapes.Form.TheVariants.{Two}
use Rattle.gold.specs.declared.shapes.Profile.{Profile}
use Rattle.gold.specs.declared.shapes.Profile.TheVariants.{Small, Wide}
use Rattle.gold.specs.declared.shapes.Shape.{Shape}
use Rattle.gold.specs.Shapes.{Place, in_profile, instances_from, places_from, Fill, AreCounts, HaveShape, airs_of, counts_from, counts_of}
use Rattle.zk_layout.specs.Air.{columns_per, machine_airs, machine_shape_of}
use Rattle.tab_file.specs.Format.{number, version, header, instance_text, rows_at, text}
use Rattle.tab_file.specs.Steps.{height}
use Rattle.tab_file.specs.Pieces.{IsSmall}
use Rattle.tab_file.proofs.Takes.{AreKnown}
use Rattle.tab_file.proofs.Counts.{known}

-- ---- each place has a column

abbrev HaveColumns : List Place → Type 0
HaveColumns places = AllByRecursion (λ q. 0 < q.form.columns) places

columns-append : (xs ys : List Place) → HaveColumns xs → HaveColumns ys → HaveColumns (xs ++ ys)
columns-append [] ys h k = k
columns-append (x ∷ xs) ys h k = (h.0, columns-append xs ys h.1 k)

instances_have : (a : ℕ) (f : AirShape) (i n : ℕ) → 0 < f.columns → HaveColumns (instances_from a f i n)
instances_have a f i zero h = tt
instances_have a f i (suc n) h = (h, instances_have a f (suc i) n h)

places_have : (a : ℕ) (fs : List AirShape) (cs : List ℕ) → AllByRecursion (λ f. 0 < f.columns) fs → HaveColumns (places_from a fs cs)
places_have a [] cs h = tt
places_have a (f ∷ fs) [] h = tt
places_have a (f ∷ fs) (c ∷ cs) h = columns-append (instances_from a f 0 c) (places_from (suc a) fs cs) (instances_have a f 0 c h.0) (places_have (suc a) fs cs h.1)

-- ---- the rows of a table are its height

no_less : (n : ℕ) → 0 < n → 0 ≡ n → ⊥
no_less n h e = omega (arith, h, e)

height_is : (columns : List (List ℕ)) (n rows : ℕ) → 0 < n → length columns ≡ n → All (λ c. length c ≡ rows) columns → height columns ≡ rows
height_is [] n rows h e all = absurd (no_less n h e)
height_is (c ∷ cs) n rows h e all = All-head (λ (d : List ℕ). length d ≡ rows) c cs all

same_texts : (airs : ℕ) (rows : ℕ → ℕ) (places : List Place) (tables : List Table) → AreKnown airs rows places → HaveColumns places → Fill places tables
    → flat_map (λ t. instance_text (rows t.air) t) tables ≡ flat_map (λ t. instance_text (height t.columns) t) tables
same_texts airs rows [] [] known have fill = refl
same_texts airs rows [] (t ∷ ts) known have fill = absurd fill
same_texts airs rows (q ∷ qs) [] known have fill = absurd fill
same_texts airs rows (q ∷ qs) (t ∷ ts) known have fill =
    let its : rows t.air ≡ height t.columns = ap rows fill.0.air ∙ known.0.height ∙ sym (height_is t.columns q.form.columns q.form.rows have.0 fill.0.columns fill.0.rows) in
    ap (λ (r : ℕ). instance_text r t ++ flat_map (λ (u : Table). instance_text (rows u.air) u) ts) its
    ∙ ap (λ (xs : List ℕ). instance_text (height t.columns) t ++ xs) (same_texts airs rows qs ts known.1 have.1 fill.1)

machine_columns : (profile : Profile) → AllByRecursion (λ f. 0 < f.columns) (in_profile profile machine_airs)
unfolding columns_per
machine_columns Small = (omega arith, (omega arith, (omega arith, (omega arith, (omega arith, (omega arith, (omega arith, tt)))))))
machine_columns Wide = (omega arith, (omega arith, (omega arith, (omega arith, (omega arith, (omega arith, (omega arith, tt)))))))

abbrev texts : List Table → List ℕ
texts tables = flat_map (λ t. instance_text (height t.columns) t) tables

abbrev machine : Shape
machine = machine_shape_of Two

pub text_is : (witness : Witness) → HaveShape (machine_shape_of Two) witness → header Two witness.profile 7 (counts_from 0 7 witness.tables) ++ flat_map (λ t. instance_text (height t.columns) t) witness.tables ≡ text (machine_shape_of Two) witness
text_is witness shaped =
    let fs = airs_of machine witness in
    let cs = counts_of machine witness in
    let same = same_texts (length fs) (rows_at fs) (places_from 0 fs cs) witness.tables (known fs cs) (places_have 0 fs cs (machine_columns witness.profile)) shaped.filled in
    ap (λ (xs : List ℕ). header Two witness.profile 7 cs ++ xs) (sym same)

-- ---- the numbers of a machine's tables have 32 bits

small_height : (columns : List (List ℕ)) (rows : ℕ) → rows < 2 ^ 32 → All (λ c. length c ≡ rows) columns → height columns < 2 ^ 32
small_height [] rows lt all = omega arith
small_height (c ∷ cs) rows lt all = omega (arith, lt, All-head (λ (d : List ℕ). length d ≡ rows) c cs all)

small_tables : (places : List Place) (tables : List Table) → Fill places tables → AllByRecursion IsSmall tables
small_tables [] [] fill = tt
small_tables [] (t ∷ ts) fill = absurd fill
small_tables (q ∷ qs) [] fill = absurd fill
small_tables (q ∷ qs) (t ∷ ts) fill =
    (record { columns = omega (arith, fill.0.columns, fill.0.bits.columns); rows = small_height t.columns q.form.rows fill.0.bits.rows fill.0.rows }, small_tables qs ts fill.1)

pub tables_small : (witness : Witness) → HaveShape (machine_shape_of Two) witness → All IsSmall witness.tables
tables_small witness h = All-from_recursion IsSmall witness.tables (small_tables (places_from 0 (airs_of machine witness) (counts_of machine witness)) witness.tables h.filled)

small_counts : (machine : Bool) (a : ℕ) (fs : List AirShape) (n : ℕ) (tables : List Table) → AreCounts machine a fs (counts_from a n tables) → (k : ℕ) → k < n → count_by (λ t. t.air == a + k) tables < 2 ^ 32
small_counts machine a fs zero tables h k lt = absurd (no_less 0 (omega (arith, lt)) refl)
small_counts machine a [] (suc n) tables h k lt = absurd h
small_counts machine a (f ∷ fs) (suc n) tables h zero lt =
    let z : a ≡ a + 0 = omega arith in
    subst (λ (b : ℕ). count_by (λ (t : Table). t.air == b) tables < 2 ^ 32) z h.0.bits
small_counts machine a (f ∷ fs) (suc n) tables h (suc k) lt =
    let s : suc a + k ≡ a + suc k = omega arith in
    subst (λ (b : ℕ). count_by (λ (t : Table). t.air == b) tables < 2 ^ 32) s (small_counts machine (suc a) fs n tables h.1 k (omega (arith, lt)))

pub counts_small : (witness : Witness) → HaveShape (machine_shape_of Two) witness → (air : ℕ) → air < 7 → count_by (λ t. t.air == air) witness.tables < 2 ^ 32
counts_small witness h air lt =
    let z : 0 + air ≡ air = omega arith in
    subst (λ (b : ℕ). count_by (λ (t : Table). t.air == b) witness.tables < 2 ^ 32) z (small_counts true 0 (airs_of machine witness) 7 witness.tables h.counted air lt)

-- ---- one more count

pub counts_from-more : (tables : List Table) (a n : ℕ) → counts_from a (n + 1) tables ≡ counts_from a n tables ++ count_by (λ t. t.air == a + n) tables ∷ []
counts_from-more tables a zero =
    let z : a ≡ a + 0 = omega arith in
    ap (λ (b : ℕ). count_by (λ (t : Table). t.air == b) tables ∷ []) z
counts_from-more tables a (suc n) =
    let k : suc n + 1 ≡ suc (n + 1) = omega arith in
    let s : suc a + n ≡ a + suc n = omega arith in
    let moved : counts_from (suc a) n tables ++ count_by (λ (t : Table). t.air == suc a + n) tables ∷ [] ≡ counts_from (suc a) n tables ++ count_by (λ (t : Table). t.air == a + suc n) tables ∷ [] =
    ap (λ (b : ℕ). counts_from (suc a) n tables ++ count_by (λ (t : Table). t.air == b) tables ∷ []) s in
    rw k (ap (λ (cs : List ℕ). count_by (λ (t : Table). t.air == a) tables ∷ cs) (counts_from-more tables (suc a) n ∙ moved))

pub header_more : (base : List ℕ) (profile : Profile) (tables : List Table) (a : ℕ) (out next : List ℕ) → out ≡ base ++ header Two profile 7 (counts_from 0 a tables) → next ≡ out ++ number (count_by (λ t. t.air == a) tables)
    → next ≡ base ++ header Two profile 7 (counts_from 0 (a + 1) tables)
header_more base profile tables a out next o n =
    let front = codes "ZKWT" ++ version Two profile ++ number 7 in
    let cs = counts_from 0 a tables in
    let c = count_by (λ (t : Table). t.air == a) tables in
    let z : 0 + a ≡ a = omega arith in
    let more : counts_from 0 (a + 1) tables ≡ counts_from 0 a tables ++ count_by (λ (t : Table). t.air == a) tables ∷ [] =
    counts_from-more tables 0 a ∙ ap (λ (b : ℕ). counts_from 0 a tables ++ count_by (λ (t : Table). t.air == b) tables ∷ []) z in
    n ∙ ap (λ (xs : List ℕ). xs ++ number c) (o ∙ sym (append_assoc base front (flat_map number cs))) ∙ flat_map_more number (base ++ front) cs c
    ∙ append_assoc base front (flat_map number (cs ++ c ∷ [])) ∙ ap (λ (ds : List ℕ). base ++ header Two profile 7 ds) (sym more)

-- ---- one more table

pub texts_more : (tables : List Table) (i : ℕ) (t : Table) (base out next : List ℕ) → i < length tables → t ≡ get_or tables i t → out ≡ base ++ texts (take i tables) → next ≡ out ++ instance_text (height t.columns) t
    → next ≡ base ++ texts (take (i + 1) tables)
texts_more tables i t base out next lt is o n =
    let more : take (i + 1) tables ≡ take i tables ++ t ∷ [] = take_more tables i t lt ∙ ap (λ (u : Table). take i tables ++ u ∷ []) (sym is) in
    n ∙ ap (λ (xs : List ℕ). xs ++ instance_text (height t.columns) t) o ∙ flat_map_more (λ (u : Table). instance_text (height u.columns) u) base (take i tables) t
    ∙ ap (λ (us : List Table). base ++ texts us) (sym more)

pub texts_all : (witness : Witness) (tables : List Table) (i : ℕ) (out : List ℕ) → HaveShape (machine_shape_of Two) witness → length tables ≤ i → tables ≡ witness.tables
    → out ≡ header Two witness.profile 7 (counts_from 0 7 witness.tables) ++ flat_map (λ t. instance_text (height t.columns) t) (take i tables) → out ≡ text (machine_shape_of Two) witness
texts_all witness tables i out shaped le same o =
    o ∙ ap (λ (us : List Table). header Two witness.profile 7 (counts_from 0 7 witness.tables) ++ texts us) (take_all i tables le ∙ same) ∙ text_is witness shaped
