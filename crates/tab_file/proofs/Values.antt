-- An instance of which more values have come, and the whole instance.
use Rattle.std.proofs.Common.{◌≡◌, ◌≢◌, ℕ, zero, suc, ◌+◌, ◌*◌, ◌-◌, ◌≤◌, ◌<◌, List, [], ◌∷◌, ◌++◌, length, replicate, take, drop, refl, sym, ap, subst, ◌∙◌, append_assoc, arith, ◌⊎◌, inl, inr}
use Rattle.std.specs.Int.{Width, w32, w64, byte_len}
use Rattle.std.proofs.Math.Nat.{mul-le-mul_right}
use Rattle.std.proofs.lemmas.List.{length-append, append-nil, drop_all, drop-drop, take_all, length-drop, take-append-drop, replicate-append-replicate}
use Rattle.gold.specs.Shapes.{Place}
use Rattle.gold.specs.declared.shapes.AirShape.{AirShape}
use Rattle.gold.specs.declared.instances.Table.{Table}
use Rattle.tab_file.specs.declared.fault.TabErr.{TabErr}
use Rattle.tab_file.specs.declared.partial.Partial.{Partial}
use Rattle.tab_file.specs.Items.{Item, number_at, first_failure, value_item, instance_items}
use Rattle.tab_file.specs.Reading.{numbers_from}
use Rattle.tab_file.specs.Steps.{Pass, Fail, columns_from, table_at, instance_len}
use Rattle.tab_file.specs.Parts.{place_of, head_items, values_so_far, Grows, Fails, Adds, IsWhole, IsTableAt}
use Rattle.tab_file.proofs.Going.{Pass-then, Pass-fail, Fail-then, columns_from-more, length-numbers_from}
use Rattle.tab_file.proofs.InPiece.{drop_on}
use Rattle.tab_file.proofs.Grown.{whole_head, SameButPart, part_grows}

numbers_from-append : (w : Width) (file : List ℕ) (at a b : ℕ) → numbers_from w file at (a + b) ≡ numbers_from w file at a ++ numbers_from w file (at + a * byte_len w) b
numbers_from-append w file at zero b =
    let e : at + 0 * byte_len w ≡ at = omega arith in
    let z : 0 + b ≡ b = omega arith in
    rw (e, z) refl
numbers_from-append w file at (suc a) b =
    let e : at + byte_len w + a * byte_len w ≡ at + suc a * byte_len w = omega arith in
    let k : suc a + b ≡ suc (a + b) = omega arith in
    rw k (ap (λ (ns : List ℕ). number_at w file at ∷ ns) (rw (← e) (numbers_from-append w file (at + byte_len w) a b)))

-- more values of the next column have passed
pub record ValuesTaken (g h : Partial) (file : List ℕ) (count : ℕ) : Type 0 where
  pub due : h.due ≡ g.due
  pub air : h.air ≡ g.air
  pub heads : h.heads ≡ g.heads
  pub columns : h.columns ≡ g.columns
  pub at : h.at ≡ g.at + 8 * count
  pub part : h.part.items ≡ []
  pub adds : Adds file g.at count g.column h.column

abbrev pub size : Partial → ℕ
size g = g.due.form.columns * g.due.form.rows

-- where a value is wanted, so many values at most are
pub wanted : (file : List ℕ) (begin n : ℕ) (q : Place) (g : Partial) (rest : List ℕ) (count : ℕ) → Grows file begin n q g rest → length g.columns < g.due.form.columns → length g.column + count ≤ g.due.form.rows
    → values_so_far g + count ≤ size g
wanted file begin n q g rest count s lt le =
    let below : length g.columns + 1 ≤ g.due.form.columns = omega (arith, lt) in
    let product : (length g.columns + 1) * g.due.form.rows ≤ g.due.form.columns * g.due.form.rows = mul-le-mul_right g.due.form.rows below in
    let more : (length g.columns + 1) * g.due.form.rows ≡ length g.columns * g.due.form.rows + g.due.form.rows = omega arith in
    omega (arith, le, product, more)

pub place_size : (file : List ℕ) (begin n : ℕ) (q : Place) (g : Partial) (rest : List ℕ) → Grows file begin n q g rest → size g ≡ q.form.columns * q.form.rows
place_size file begin n q g rest s = ap (λ (r : Place). r.form.columns * r.form.rows) s.place

pub values_fail : (file : List ℕ) (begin n : ℕ) (q : Place) (g : Partial) (rest : List ℕ) (count : ℕ) (e : TabErr) → Grows file begin n q g rest → 4 ≤ g.heads → length g.columns < g.due.form.columns → length g.column + count ≤ g.due.form.rows
    → Fails file g.at (replicate count value_item) e → Fails file begin (instance_items n q) e
values_fail file begin n q g rest count e s four lt le f =
    let v = values_so_far g in
    let room = wanted file begin n q g rest count s lt le in
    let four_heads : g.heads ≡ 4 = omega (arith, four, s.heads) in
    let head : List Item = head_items n q g.heads in
    let left = size g - (values_so_far g + count) in
    let sum : values_so_far g + (count + (size g - (values_so_far g + count))) ≡ size g = omega (arith, room) in
    let later : Fail file g.at (replicate (count + left) value_item) e =
    subst (λ (is : List Item). Fail file g.at is e) (replicate-append-replicate count left value_item) (Fail-then file g.at (replicate count value_item) (replicate left value_item) e f.fail) in
    let all = Pass-fail file begin g.at (head ++ replicate v value_item) (replicate (count + left) value_item) e s.passed later in
    let shape : (head_items n q g.heads ++ replicate v value_item) ++ replicate (count + left) value_item ≡ instance_items n q =
    append_assoc head (replicate v value_item) (replicate (count + left) value_item)
    ∙ ap (λ (is : List Item). head_items n q g.heads ++ is) (replicate-append-replicate v (count + left) value_item)
    ∙ ap (λ (h : ℕ). head_items n q h ++ replicate (v + (count + left)) value_item) four_heads
    ∙ ap (λ (k : ℕ). head_items n q 4 ++ replicate k value_item) (sum ∙ place_size file begin n q g rest s)
    ∙ sym (whole_head n q) in
    record { kind = f.kind; fail = subst (λ (is : List Item). Fail file begin is e) shape all }

pub values_grow : (file : List ℕ) (begin n : ℕ) (q : Place) (g h : Partial) (rest after : List ℕ) (count : ℕ) → Grows file begin n q g rest → 4 ≤ g.heads → length g.columns < g.due.form.columns → length g.column + count ≤ g.due.form.rows
    → ValuesTaken g h file count → drop h.at file ≡ after → Grows file begin n q h after
values_grow file begin n q g h rest after count s four lt le t ahead =
    let four_heads : g.heads ≡ 4 = omega (arith, four, s.heads) in
    let start = begin + 16 + 8 * (length g.columns * g.due.form.rows) in
    let added : h.column ≡ g.column ++ numbers_from w64 file g.at count = t.adds.values in
    let len : length h.column ≡ length g.column + count = ap length added ∙ length-append g.column (numbers_from w64 file g.at count) ∙ ap (λ (k : ℕ). length g.column + k) (length-numbers_from w64 file g.at count) in
    let place : g.at ≡ begin + 16 + 8 * (length g.columns * g.due.form.rows) + length g.column * 8 = omega (arith, s.next, four_heads) in
    let column : h.column ≡ numbers_from w64 file (begin + 16 + 8 * (length g.columns * g.due.form.rows)) (length g.column + count) =
    added ∙ ap (λ (c : List ℕ). c ++ numbers_from w64 file g.at count) s.column ∙ ap (λ (m : ℕ). numbers_from w64 file start (length g.column) ++ numbers_from w64 file m count) place
    ∙ sym (numbers_from-append w64 file start (length g.column) count) in
    let head : List Item = head_items n q g.heads in
    let v = values_so_far g in
    let all = Pass-then file begin g.at (g.at + 8 * count) (head ++ replicate v value_item) (replicate count value_item) s.passed t.adds.pass in
    let sum : values_so_far g + count ≡ length g.columns * g.due.form.rows + (length g.column + count) = omega arith in
    let shape : (head_items n q g.heads ++ replicate v value_item) ++ replicate count value_item ≡ head_items n q g.heads ++ replicate (length g.columns * g.due.form.rows + (length g.column + count)) value_item =
    append_assoc head (replicate v value_item) (replicate count value_item)
    ∙ ap (λ (is : List Item). head_items n q g.heads ++ is) (replicate-append-replicate v count value_item)
    ∙ ap (λ (k : ℕ). head_items n q g.heads ++ replicate k value_item) sum in
    record {
      airs = rw t.due s.airs;
      place = rw t.due s.place;
      heads = rw t.heads s.heads;
      early = λ few. absurd (omega (arith, four, t.heads, few));
      most = rw (t.due, t.columns) s.most;
      rows = rw (t.due, len) le;
      over = rw (t.due, t.columns) (λ no. absurd (omega (arith, lt, no)));
      passed = rw (t.at, t.heads, t.due, t.columns, len) (subst (λ (is : List Item). Pass file begin is (g.at + 8 * count)) shape all);
      next = rw (t.at, t.heads, t.due, t.columns, len) (omega (arith, s.next));
      air = rw (t.heads, t.air) s.air;
      instance = rw (t.heads, t.due) s.instance;
      columns = rw (t.due, t.columns) s.columns;
      column = rw (t.due, t.columns, len) column;
      head_part = λ few. rw t.part (omega arith);
      value_part = rw t.part (omega arith);
      busy = rw t.part (λ some. absurd (omega (arith, some)));
      ahead = rw t.part ahead;
    }

-- the next column is whole
pub record ColumnTaken (g h : Partial) : Type 0 where
  pub due : h.due ≡ g.due
  pub air : h.air ≡ g.air
  pub heads : h.heads ≡ g.heads
  pub at : h.at ≡ g.at
  pub part : h.part ≡ g.part
  pub columns : h.columns ≡ g.columns ++ g.column ∷ []
  pub column : h.column ≡ []

pub column_grows : (file : List ℕ) (begin n : ℕ) (q : Place) (g h : Partial) (rest : List ℕ) → Grows file begin n q g rest → 4 ≤ g.heads → length g.columns < g.due.form.columns → g.due.form.rows ≤ length g.column
    → ColumnTaken g h → Grows file begin n q h rest
column_grows file begin n q g h rest s four lt whole t =
    let full : length g.column ≡ g.due.form.rows = omega (arith, whole, s.rows) in
    let len : length h.columns ≡ length g.columns + 1 = ap length t.columns ∙ length-append g.columns (g.column ∷ []) in
    let none : length h.column ≡ 0 = ap length t.column in
    let start = begin + 16 + 8 * (length g.columns * g.due.form.rows) in
    let cells : h.columns ≡ columns_from file (begin + 16) (length g.columns + 1) g.due.form.rows =
    t.columns ∙ ap (λ (cs : List (List ℕ)). cs ++ g.column ∷ []) s.columns
    ∙ ap (λ (c : List ℕ). columns_from file (begin + 16) (length g.columns) g.due.form.rows ++ c ∷ []) (s.column ∙ ap (numbers_from w64 file start) full)
    ∙ sym (columns_from-more file (begin + 16) (length g.columns) g.due.form.rows) in
    let same : length h.columns * h.due.form.rows + length h.column ≡ length g.columns * g.due.form.rows + length g.column = rw (t.due, len, none) (omega (arith, full)) in
    record {
      airs = rw t.due s.airs;
      place = rw t.due s.place;
      heads = rw t.heads s.heads;
      early = λ few. absurd (omega (arith, four, t.heads, few));
      most = rw (t.due, len) (omega (arith, lt));
      rows = rw none (omega arith);
      over = λ _. none;
      passed = rw (t.at, t.heads, same) s.passed;
      next = rw (t.at, t.heads, same) s.next;
      air = rw (t.heads, t.air) s.air;
      instance = rw (t.heads, t.due) s.instance;
      columns = rw (t.due, len) cells;
      column = rw (none, t.column) refl;
      head_part = rw (t.heads, t.part) s.head_part;
      value_part = rw t.part s.value_part;
      busy = λ some. elim (s.busy (subst (λ (k : ℕ). 0 < k) (ap (λ v. length v.items) t.part) some)) [
        | inl few ↦ absurd (omega (arith, few, four))
        | inr due ↦ absurd (omega (arith, due.1, whole))
      ];
      ahead = rw (t.at, t.part) s.ahead;
    }

abbrev made : ℕ → ℕ → List (List ℕ) → Table
made x y z = record { air = x; instance = y; columns = z }

same_table : (t u : Table) → t.air ≡ u.air → t.instance ≡ u.instance → t.columns ≡ u.columns → t ≡ u
same_table t u a i c =
    ap (λ (x : ℕ). made x t.instance t.columns) a ∙ ap (λ (y : ℕ). made u.air y t.columns) i ∙ ap (λ (z : List (List ℕ)). made u.air u.instance z) c

no_part : (file : List ℕ) (begin n : ℕ) (q : Place) (g : Partial) (rest : List ℕ) → Grows file begin n q g rest → IsWhole g → g.part.items ≡ []
no_part file begin n q g rest s w =
    elim g.part.items as (λ xs. (0 < length xs → (g.heads < 4) ⊎ ((length g.columns < g.due.form.columns) × (length g.column < g.due.form.rows))) → xs ≡ []) [
      | [] ↦ λ busy. refl
      | x ∷ xs ↦ λ busy. elim (busy (omega arith)) [
        | inl few ↦ absurd (omega (arith, few, w.heads))
        | inr due ↦ absurd (omega (arith, due.0, w.columns))
      ]
    ] s.busy

-- the table of an instance that is whole
pub table_whole : (file : List ℕ) (begin n : ℕ) (q : Place) (g : Partial) (rest : List ℕ) (t : Table) → Grows file begin n q g rest → IsWhole g → t.air ≡ g.air → t.instance ≡ g.due.instance → t.columns ≡ g.columns
    → IsTableAt file begin n q t g rest
table_whole file begin n q g rest t s w air instance columns =
    let four_heads : g.heads ≡ 4 = omega (arith, w.heads, s.heads) in
    let all : length g.columns ≡ g.due.form.columns = omega (arith, w.columns, s.most) in
    let none : length g.column ≡ 0 = s.over w.columns in
    let sum : length g.columns * g.due.form.rows + length g.column ≡ g.due.form.columns * g.due.form.rows = rw (all, none) (omega arith) in
    let sized : length g.columns * g.due.form.rows + length g.column ≡ q.form.columns * q.form.rows = sum ∙ place_size file begin n q g rest s in
    let shape : head_items n q g.heads ++ replicate (length g.columns * g.due.form.rows + length g.column) value_item ≡ instance_items n q =
    rw (four_heads, sized) refl in
    let empty : g.part.items ≡ [] = no_part file begin n q g rest s w in
    let form : g.due.form ≡ q.form = ap (λ (r : Place). r.form) s.place in
    let cells : g.columns ≡ columns_from file (begin + 16) q.form.columns q.form.rows =
    s.columns ∙ ap (λ (k : ℕ). columns_from file (begin + 16) k g.due.form.rows) all ∙ ap (λ (f : AirShape). columns_from file (begin + 16) f.columns f.rows) form in
    record {
      table = same_table t (table_at file begin q) (air ∙ s.air (omega (arith, four_heads))) (instance ∙ s.instance (omega (arith, four_heads))) (columns ∙ cells);
      pass = subst (λ (is : List Item). Pass file begin is g.at) shape s.passed;
      end = omega (arith, s.next, four_heads, sized);
      part = empty;
      ahead = s.ahead ∙ ap (λ (xs : List ℕ). xs ++ rest) empty;
    }

-- ---- a piece of values

-- what is left of a piece, as a slice of it reads
pub rest_of : (piece : List ℕ) (d : ℕ) → take (length piece - d) (drop d piece) ≡ drop d piece
rest_of piece d = take_all (length piece - d) (drop d piece) (omega (arith, length-drop d piece))

-- the part isn't empty, so a value is wanted
pub wants : (file : List ℕ) (begin n : ℕ) (q : Place) (g : Partial) (rest : List ℕ) → Grows file begin n q g rest → 4 ≤ g.heads → 0 < length g.part.items → (length g.columns < g.due.form.columns) × (length g.column < g.due.form.rows)
wants file begin n q g rest s four some = elim (s.busy some) [
  | inl few ↦ absurd (omega (arith, few, four))
  | inr due ↦ due
]

pub part_filled : (file : List ℕ) (begin n : ℕ) (q : Place) (g h : Partial) (piece more : List ℕ) (k : ℕ) → Grows file begin n q g (piece ++ more) → 4 ≤ g.heads → 0 < length g.part.items → SameButPart g h
    → h.part.items ≡ g.part.items ++ take k piece → (length g.part.items ≤ 8 → length h.part.items ≤ 8) → Grows file begin n q h (drop k piece ++ more)
part_filled file begin n q g h piece more k s four some t part most =
    part_grows file begin n q g h piece more k s t part (λ few. absurd (omega (arith, few, four))) (most s.value_part) (λ _. inr (wants file begin n q g (piece ++ more) s four some))

-- the part is a whole value
pub part_taken : (file : List ℕ) (begin n : ℕ) (q : Place) (g h : Partial) (rest : List ℕ) → Grows file begin n q g rest → 4 ≤ g.heads → length g.part.items ≡ 8 → ValuesTaken g h file 1 → Grows file begin n q h rest
part_taken file begin n q g h rest s four eight t =
    let due = wants file begin n q g rest s four (omega (arith, eight)) in
    let past : drop (g.at + length g.part.items) file ≡ rest = drop_on file g.at g.part.items rest (length g.part.items) (omega arith) s.ahead ∙ ap (λ (xs : List ℕ). xs ++ rest) (drop_all (length g.part.items) g.part.items (omega arith)) in
    let at : g.at + length g.part.items ≡ h.at = omega (arith, eight, t.at) in
    values_grow file begin n q g h rest rest 1 s four due.0 (omega (arith, due.1)) t (subst (λ (m : ℕ). drop m file ≡ rest) at past)

pub part_wrong : (file : List ℕ) (begin n : ℕ) (q : Place) (g : Partial) (rest : List ℕ) (e : TabErr) → Grows file begin n q g rest → 4 ≤ g.heads → length g.part.items ≡ 8 → Fails file g.at (replicate 1 value_item) e → Fails file begin (instance_items n q) e
part_wrong file begin n q g rest e s four eight f =
    let due = wants file begin n q g rest s four (omega (arith, eight)) in
    values_fail file begin n q g rest 1 e s four due.0 (omega (arith, due.1)) f

-- the bytes of a run of values, and those after it
pub run_stands : (file : List ℕ) (begin n : ℕ) (q : Place) (g : Partial) (piece more : List ℕ) (end : ℕ) → Grows file begin n q g (piece ++ more) → g.part.items ≡ [] → drop g.at file ≡ take end piece ++ (drop end piece ++ more)
run_stands file begin n q g piece more end s none =
    s.ahead ∙ ap (λ (xs : List ℕ). xs ++ (piece ++ more)) none ∙ ap (λ (xs : List ℕ). xs ++ more) (sym (take-append-drop end piece)) ∙ append_assoc (take end piece) (drop end piece) more

pub run_taken : (file : List ℕ) (begin n : ℕ) (q : Place) (g h : Partial) (piece more : List ℕ) (count : ℕ) → Grows file begin n q g (piece ++ more) → 4 ≤ g.heads → length g.columns < g.due.form.columns → g.part.items ≡ []
    → 8 * count ≤ length piece → length g.column + count ≤ g.due.form.rows → ValuesTaken g h file count → Grows file begin n q h (drop (8 * count) piece ++ more)
run_taken file begin n q g h piece more count s four lt none inside le t =
    let stands : drop g.at file ≡ piece ++ more = s.ahead ∙ ap (λ (xs : List ℕ). xs ++ (piece ++ more)) none in
    let past = drop_on file g.at piece more (8 * count) inside stands in
    values_grow file begin n q g h (piece ++ more) (drop (8 * count) piece ++ more) count s four lt le t (ap (λ (m : ℕ). drop m file) t.at ∙ past)

-- what follows the run is a part
pub tail_kept : (file : List ℕ) (begin n : ℕ) (q : Place) (g h : Partial) (piece more : List ℕ) (d : ℕ) → Grows file begin n q g (drop d piece ++ more) → 4 ≤ g.heads → g.part.items ≡ [] → SameButPart g h
    → (length g.columns < g.due.form.columns) × (length g.column < g.due.form.rows) → h.part.items ≡ g.part.items ++ take (length piece - d) (drop d piece) → length piece < d + 8 → Grows file begin n q h (drop (length piece) piece ++ more)
tail_kept file begin n q g h piece more d s four none t due part few =
    let k = length piece - d in
    let tail = drop d piece in
    let all : take (length piece - d) (drop d piece) ≡ drop d piece = rest_of piece d in
    let len : length h.part.items ≡ length piece - d = ap length (part ∙ ap (λ (xs : List ℕ). xs ++ take k tail) none ∙ all) ∙ length-drop d piece in
    let grown = part_grows file begin n q g h (drop d piece) more k s t part (λ lt. absurd (omega (arith, lt, four))) (omega (arith, len, few)) (λ _. inr due) in
    let gone : drop (length piece - d) (drop d piece) ≡ drop (length piece) piece = drop_all k tail (omega (arith, length-drop d piece)) ∙ sym (drop_all (length piece) piece (omega arith)) in
    subst (λ (xs : List ℕ). Grows file begin n q h (xs ++ more)) gone grown

-- ---- one step after another

further : (file : List ℕ) (begin n : ℕ) (q : Place) (h : Partial) (piece more : List ℕ) (d k : ℕ) → Grows file begin n q h (drop k (drop d piece) ++ more) → Grows file begin n q h (drop (d + k) piece ++ more)
further file begin n q h piece more d k s = subst (λ (xs : List ℕ). Grows file begin n q h (xs ++ more)) (drop-drop k d piece) s

pub step_on : (file : List ℕ) (begin n : ℕ) (q : Place) (g h : Partial) (piece more : List ℕ) (d k : ℕ)
    → (Grows file begin n q g (take (length piece - d) (drop d piece) ++ more) → Grows file begin n q h (drop k (take (length piece - d) (drop d piece)) ++ more))
    → Grows file begin n q g (drop d piece ++ more) → Grows file begin n q h (drop (d + k) piece ++ more)
step_on file begin n q g h piece more d k step s =
    let before = subst (λ (xs : List ℕ). Grows file begin n q g (xs ++ more)) (sym (rest_of piece d)) s in
    further file begin n q h piece more d k (subst (λ (xs : List ℕ). Grows file begin n q h (drop k xs ++ more)) (rest_of piece d) (step before))

pub fail_on : (P : Type 0) (file : List ℕ) (begin n : ℕ) (q : Place) (g : Partial) (piece more : List ℕ) (d : ℕ)
    → (Grows file begin n q g (take (length piece - d) (drop d piece) ++ more) → P) → Grows file begin n q g (drop d piece ++ more) → P
fail_on P file begin n q g piece more d fail s = fail (subst (λ (xs : List ℕ). Grows file begin n q g (xs ++ more)) (sym (rest_of piece d)) s)
