-- An instance of which one item more has come.
use Rattle.std.proofs.Common.{◌≡◌, ◌≢◌, ℕ, zero, suc, ◌+◌, ◌*◌, ◌-◌, ◌≤◌, ◌<◌, List, [], ◌∷◌, ◌++◌, length, replicate, take, drop, Option, None, Some, refl, sym, ap, subst, ◌∙◌, append_assoc, arith, ◌⊎◌, inl, inr}
use Rattle.std.specs.Option.{option_or}
use Rattle.std.specs.Int.{Width, w32, w64, byte_len}
use Rattle.std.proofs.lemmas.Bool.{cases_lt}
use Rattle.std.proofs.lemmas.List.{length-append, append-nil, drop_all, take-append-drop}
use Rattle.gold.specs.Field.{p}
use Rattle.gold.specs.declared.shapes.AirShape.{AirShape}
use Rattle.gold.specs.Shapes.{Place}
use Rattle.tab_file.specs.declared.fault.TabErr.{TabErr}
use Rattle.tab_file.specs.declared.fault.TabKind.TheVariants.{Short, NotCanonical}
use Rattle.tab_file.specs.declared.partial.Partial.{Partial}
use Rattle.tab_file.specs.Items.{Item, failure, number_at, wrong_at, first_failure, value_item, instance_items}
use Rattle.tab_file.specs.Reading.{numbers_from}
use Rattle.tab_file.specs.Steps.{Pass, Fail, columns_from, out_of_memory}
use Rattle.tab_file.specs.Parts.{place_of, head_item, head_items, values_so_far, Grows, Fails, Adds}
use Rattle.tab_file.proofs.Going.{Pass-none, Pass-then, Pass-fail, Fail-then, Pass-more, Fail-more, numbers_from-more, length-numbers_from}
use Rattle.tab_file.proofs.InPiece.{drop_on, long_enough, number_in_piece, Pass-item, Fail-item, wrong_item, value_right, value_wrong}

-- ---- values

pub Adds-none : (file : List ℕ) (at : ℕ) (old : List ℕ) → at ≤ length file → Adds file at 0 old old
Adds-none file at old le =
    let e : at + 8 * 0 ≡ at = omega arith in
    record { values = sym (append-nil old); pass = rw e (Pass-none file at le) }

pub Adds-more : (file bytes more : List ℕ) (at count : ℕ) (old now new : List ℕ) (v : ℕ) → at ≤ length file → drop at file ≡ bytes ++ more → 8 * count + 8 ≤ length bytes
    → v ≡ number_at w64 bytes (8 * count) → v < p → new ≡ now ++ v ∷ [] → Adds file at count old now → Adds file at (count + 1) old new
Adds-more file bytes more at count old now new v le stands room is below pushed adds =
    let place : number_at w64 file (at + 8 * count) ≡ v = number_in_piece w64 file at bytes more (8 * count) room stands ∙ sym is in
    let whole : at + 8 * count + 8 ≤ length file = omega (arith, room, long_enough file at bytes more le stands) in
    let here : at + count * 8 ≡ at + 8 * count = omega arith in
    let next : at + 8 * count + 8 ≡ at + 8 * (count + 1) = omega arith in
    let one : Pass file (at + 8 * count) (value_item ∷ []) (at + 8 * count + 8) = Pass-item file (at + 8 * count) value_item whole (rw place (value_right (at + 8 * count) v below)) in
    let last : number_at w64 file (at + count * 8) ≡ v = rw here place in
    record {
      values = rw (pushed, adds.values, numbers_from-more w64 file at count, last) (append_assoc old (numbers_from w64 file at count) (v ∷ []));
      pass = subst (λ (m : ℕ). Pass file at (replicate (count + 1) value_item) m) next (Pass-more file at (at + 8 * count) (at + 8 * count + 8) count 1 value_item adds.pass one);
    }

pub Adds-fail : (file bytes more : List ℕ) (at count total : ℕ) (old now : List ℕ) → at ≤ length file → drop at file ≡ bytes ++ more → 8 * count + 8 ≤ length bytes → count < total
    → p ≤ number_at w64 bytes (8 * count) → Adds file at count old now → Fails file at (replicate total value_item) (failure NotCanonical (at + 8 * count))
Adds-fail file bytes more at count total old now le stands room lt above adds =
    let place : number_at w64 file (at + 8 * count) ≡ number_at w64 bytes (8 * count) = number_in_piece w64 file at bytes more (8 * count) room stands in
    let whole : at + 8 * count + 8 ≤ length file = omega (arith, room, long_enough file at bytes more le stands) in
    let wrong = wrong_item file (at + 8 * count) value_item (failure NotCanonical (at + 8 * count)) whole (rw place (value_wrong (at + 8 * count) (number_at w64 bytes (8 * count)) above)) in
    record {
      kind = λ e. cc;
      fail = Fail-more file at (at + 8 * count) count 1 total value_item (failure NotCanonical (at + 8 * count)) (omega (arith, lt)) adds.pass (Fail-item file (at + 8 * count) value_item (failure NotCanonical (at + 8 * count)) wrong);
    }

-- ---- the four numbers at the beginning

pub width_of_head : (n : ℕ) (q : Place) (h : ℕ) → (head_item n q h).width ≡ w32
width_of_head n q zero = refl
width_of_head n q (suc zero) = refl
width_of_head n q (suc (suc zero)) = refl
width_of_head n q (suc (suc (suc k))) = refl

abbrev first : List ℕ → ℕ → ℕ → Place → List Item → Option TabErr
first file begin n q more = first_failure file begin (instance_items n q ++ more)

-- what follows so many of the four numbers
pub after_head : ℕ → Place → ℕ → List Item
after_head n q zero = head_item n q 1 ∷ head_item n q 2 ∷ head_item n q 3 ∷ replicate (q.form.columns * q.form.rows) value_item
after_head n q (suc zero) = head_item n q 2 ∷ head_item n q 3 ∷ replicate (q.form.columns * q.form.rows) value_item
after_head n q (suc (suc zero)) = head_item n q 3 ∷ replicate (q.form.columns * q.form.rows) value_item
after_head n q (suc (suc (suc k))) = replicate (q.form.columns * q.form.rows) value_item

pub parted : (n : ℕ) (q : Place) (h : ℕ) → h < 4 → instance_items n q ≡ head_items n q h ++ head_item n q h ∷ after_head n q h
unfolding after_head
parted n q zero lt = refl
parted n q (suc zero) lt = refl
parted n q (suc (suc zero)) lt = refl
parted n q (suc (suc (suc zero))) lt = refl
parted n q (suc (suc (suc (suc k)))) lt = absurd (omega (arith, lt))

pub whole_head : (n : ℕ) (q : Place) → instance_items n q ≡ head_items n q 4 ++ replicate (q.form.columns * q.form.rows) value_item
whole_head n q = refl

pub next_head : (n : ℕ) (q : Place) (h : ℕ) → head_items n q (h + 1) ≡ head_items n q h ++ head_item n q h ∷ []
next_head n q h =
    let s : h + 1 ≡ suc h = omega arith in
    ap (head_items n q) s

-- where only numbers of the beginning have passed
pub only_head : (file : List ℕ) (begin n : ℕ) (q : Place) (g : Partial) (rest : List ℕ) → Grows file begin n q g rest → g.heads < 4 → Pass file begin (head_items n q g.heads) g.at × (g.at ≡ begin + 4 * g.heads)
only_head file begin n q g rest s lt =
    let none : values_so_far g ≡ 0 = s.early lt in
    let bare : head_items n q g.heads ++ replicate (values_so_far g) value_item ≡ head_items n q g.heads = ap (λ (k : ℕ). head_items n q g.heads ++ replicate k value_item) none ∙ append-nil (head_items n q g.heads) in
    (subst (λ (is : List Item). Pass file begin is g.at) bare s.passed, omega (arith, none, s.next))

same_item : (file : List ℕ) (begin n : ℕ) (q : Place) (g : Partial) (rest : List ℕ) → Grows file begin n q g rest → head_item g.due.airs (place_of g.due) g.heads ≡ head_item n q g.heads
same_item file begin n q g rest s = ap (λ (m : ℕ). head_item m (place_of g.due) g.heads) s.airs ∙ ap (λ (r : Place). head_item n r g.heads) s.place

pub head_fails : (file : List ℕ) (begin n : ℕ) (q : Place) (g : Partial) (rest : List ℕ) (v : ℕ) (e : TabErr) → Grows file begin n q g rest → g.heads < 4 → length g.part.items ≡ 4 → v ≡ number_at w32 g.part.items 0
    → (head_item g.due.airs (place_of g.due) g.heads).wrong g.at v ≡ Some e → e.kind ≢ Short → Fails file begin (instance_items n q) e
head_fails file begin n q g rest v e s lt four is wrong_due kind =
    let wrong : (head_item n q g.heads).wrong g.at v ≡ Some e = subst (λ (i : Item). i.wrong g.at v ≡ Some e) (same_item file begin n q g rest s) wrong_due in
    let passed = only_head file begin n q g rest s lt in
    let item = head_item n q g.heads in
    let width : (head_item n q g.heads).width ≡ w32 = width_of_head n q g.heads in
    let room : 0 + 4 ≤ length g.part.items = omega (arith, four) in
    let zero_on : g.at + 0 ≡ g.at = omega arith in
    let number : number_at w32 file g.at ≡ v = subst (λ (m : ℕ). number_at w32 file m ≡ number_at w32 g.part.items 0) zero_on (number_in_piece w32 file g.at g.part.items rest 0 room s.ahead) ∙ sym is in
    let whole : g.at + byte_len w32 ≤ length file = omega (arith, four, long_enough file g.at g.part.items rest s.passed.whole s.ahead) in
    let bad = wrong_item file g.at (head_item n q g.heads) e (rw width whole) (rw (width, number) wrong) in
    let here = Fail-then file g.at (item ∷ []) (after_head n q g.heads) e (Fail-item file g.at item e bad) in
    record {
      kind = kind;
      fail = subst (λ (is : List Item). Fail file begin is e) (sym (parted n q g.heads lt)) (Pass-fail file begin g.at (head_items n q g.heads) (item ∷ after_head n q g.heads) e passed.0 here);
    }

-- what a number at the beginning changes
pub record HeadTaken (g h : Partial) (v : ℕ) : Type 0 where
  pub due : h.due ≡ g.due
  pub heads : h.heads ≡ g.heads + 1
  pub at : h.at ≡ g.at + 4
  pub part : h.part.items ≡ []
  pub columns : h.columns ≡ g.columns
  pub column : h.column ≡ g.column
  pub first : g.heads ≡ 0 → h.air ≡ v
  pub later : 0 < g.heads → h.air ≡ g.air
  pub instance : g.heads ≡ 1 → g.due.instance ≡ v

pub head_grows : (file : List ℕ) (begin n : ℕ) (q : Place) (g h : Partial) (rest : List ℕ) (v : ℕ) → Grows file begin n q g rest → g.heads < 4 → length g.part.items ≡ 4 → v ≡ number_at w32 g.part.items 0
    → (head_item g.due.airs (place_of g.due) g.heads).wrong g.at v ≡ None → HeadTaken g h v → Grows file begin n q h rest
head_grows file begin n q g h rest v s lt four is right_due t =
    let right : (head_item n q g.heads).wrong g.at v ≡ None = subst (λ (i : Item). i.wrong g.at v ≡ None) (same_item file begin n q g rest s) right_due in
    let passed = only_head file begin n q g rest s lt in
    let item = head_item n q g.heads in
    let width : (head_item n q g.heads).width ≡ w32 = width_of_head n q g.heads in
    let room : 0 + 4 ≤ length g.part.items = omega (arith, four) in
    let zero_on : g.at + 0 ≡ g.at = omega arith in
    let number : number_at w32 file g.at ≡ v = subst (λ (m : ℕ). number_at w32 file m ≡ number_at w32 g.part.items 0) zero_on (number_in_piece w32 file g.at g.part.items rest 0 room s.ahead) ∙ sym is in
    let whole : g.at + byte_len w32 ≤ length file = omega (arith, four, long_enough file g.at g.part.items rest s.passed.whole s.ahead) in
    let one : Pass file g.at (item ∷ []) (g.at + byte_len (head_item n q g.heads).width) = Pass-item file g.at item (rw width whole) (rw (width, number) right) in
    let one4 : Pass file g.at (item ∷ []) (g.at + 4) = subst (λ (w : Width). Pass file g.at (item ∷ []) (g.at + byte_len w)) width one in
    let both : Pass file begin (head_items n q (g.heads + 1)) (g.at + 4) = rw (next_head n q g.heads) (Pass-then file begin g.at (g.at + 4) (head_items n q g.heads) (item ∷ []) passed.0 one4) in
    let none : length g.columns * g.due.form.rows + length g.column ≡ 0 = s.early lt in
    let none_now : values_so_far h ≡ 0 = rw (t.due, t.columns, t.column) none in
    let bare : head_items n q (g.heads + 1) ≡ head_items n q h.heads ++ replicate (values_so_far h) value_item =
    sym (append-nil (head_items n q (g.heads + 1))) ∙ rw (t.heads, none_now) refl in
    let past : drop (g.at + length g.part.items) file ≡ rest = drop_on file g.at g.part.items rest (length g.part.items) (omega arith) s.ahead ∙ ap (λ (xs : List ℕ). xs ++ rest) (drop_all (length g.part.items) g.part.items (omega arith)) in
    record {
      airs = rw t.due s.airs;
      place = rw t.due s.place;
      heads = omega (arith, t.heads, lt);
      early = λ _. none_now;
      most = rw (t.due, t.columns) s.most;
      rows = rw (t.due, t.column) s.rows;
      over = rw (t.due, t.columns, t.column) s.over;
      passed = rw t.at (subst (λ (is : List Item). Pass file begin is (g.at + 4)) bare both);
      next = omega (arith, t.at, t.heads, none_now, passed.1);
      air = λ _. elim (cases_lt 0 g.heads) [
        | inl some ↦ t.later some ∙ s.air some
        | inr none ↦
            let zero_heads : g.heads ≡ 0 = omega (arith, none) in
            let at_begin : g.at ≡ begin = omega (arith, zero_heads, passed.1) in
            t.first zero_heads ∙ sym number ∙ ap (number_at w32 file) at_begin
      ];
      instance = λ two. elim (cases_lt 1 g.heads) [
        | inl some ↦ rw t.due (s.instance some)
        | inr few ↦
            let one_head : g.heads ≡ 1 = omega (arith, few, two, t.heads) in
            let at_second : g.at ≡ begin + 4 = omega (arith, one_head, passed.1) in
            rw t.due (t.instance one_head ∙ sym number ∙ ap (number_at w32 file) at_second)
      ];
      columns = rw (t.due, t.columns) s.columns;
      column = rw (t.due, t.columns, t.column) s.column;
      head_part = λ _. rw t.part (omega arith);
      value_part = rw t.part (omega arith);
      busy = rw t.part (λ some. absurd (omega (arith, some)));
      ahead = rw (t.at, t.part) (subst (λ (k : ℕ). drop (g.at + k) file ≡ rest) four past);
    }

-- ---- the part grows

-- only the part changes
pub record SameButPart (g h : Partial) : Type 0 where
  pub due : h.due ≡ g.due
  pub air : h.air ≡ g.air
  pub heads : h.heads ≡ g.heads
  pub columns : h.columns ≡ g.columns
  pub column : h.column ≡ g.column
  pub at : h.at ≡ g.at

moved : (part piece more : List ℕ) (k : ℕ) → part ++ (piece ++ more) ≡ (part ++ take k piece) ++ (drop k piece ++ more)
moved part piece more k =
    ap (λ (xs : List ℕ). part ++ (xs ++ more)) (sym (take-append-drop k piece))
    ∙ ap (λ (xs : List ℕ). part ++ xs) (append_assoc (take k piece) (drop k piece) more)
    ∙ sym (append_assoc part (take k piece) (drop k piece ++ more))

abbrev IsBusy : Partial → Type 0
IsBusy g = (g.heads < 4) ⊎ ((length g.columns < g.due.form.columns) × (length g.column < g.due.form.rows))

pub part_grows : (file : List ℕ) (begin n : ℕ) (q : Place) (g h : Partial) (piece more : List ℕ) (k : ℕ) → Grows file begin n q g (piece ++ more) → SameButPart g h → h.part.items ≡ g.part.items ++ take k piece
    → (g.heads < 4 → length h.part.items ≤ 4) → length h.part.items ≤ 8 → (0 < length h.part.items → IsBusy g) → Grows file begin n q h (drop k piece ++ more)
part_grows file begin n q g h piece more k s t part few most busy = record {
  airs = rw t.due s.airs;
  place = rw t.due s.place;
  heads = rw t.heads s.heads;
  early = rw (t.heads, t.due, t.columns, t.column) s.early;
  most = rw (t.due, t.columns) s.most;
  rows = rw (t.due, t.column) s.rows;
  over = rw (t.due, t.columns, t.column) s.over;
  passed = rw (t.at, t.heads, t.due, t.columns, t.column) s.passed;
  next = rw (t.at, t.heads, t.due, t.columns, t.column) s.next;
  air = rw (t.heads, t.air) s.air;
  instance = rw (t.heads, t.due) s.instance;
  columns = rw (t.due, t.columns) s.columns;
  column = rw (t.due, t.columns, t.column) s.column;
  head_part = λ lt. few (subst (λ (m : ℕ). m < 4) t.heads lt);
  value_part = most;
  busy = λ some. rw (t.heads, t.due, t.columns, t.column) (busy some);
  ahead = rw (t.at, part) (s.ahead ∙ moved g.part.items piece more k);
}
