-- What a reader by pieces knows of the bytes so far, where the header is whole.
use Rattle.std.proofs.Common.{◌≡◌, ◌≢◌, ℕ, zero, suc, ◌+◌, ◌*◌, ◌-◌, ◌≤◌, ◌<◌, Bool, true, false, cond, List, [], ◌∷◌, ◌++◌, length, replicate, take, drop, get_or, Option, None, Some, refl, sym, ap, subst, ◌∙◌, append_assoc, arith, ◌⊎◌, inl, inr}
use Rattle.std.specs.Prelude.{MatchBool, MatchOption, MatchResult, IfOk, Result, Ok, Err}
use Rattle.std.specs.Option.{option_or}
use Rattle.std.specs.Int.{Width, w32, w64, byte_len}
use Rattle.std.proofs.Math.Nat.{mul-le-mul_right}
use Rattle.std.proofs.lemmas.Bool.{lt-leb, le-leb, cases_lt}
use Rattle.std.proofs.lemmas.List.{append-nil, length-append, length-drop, drop_all, replicate-append-replicate, get_or-append-add, get_or_append_left}
use Rattle.gold.specs.declared.instances.Table.{Table}
use Rattle.gold.specs.declared.shapes.Profile.{Profile}
use Rattle.gold.specs.declared.shapes.Shape.{Shape}
use Rattle.gold.specs.Shapes.{Place, is_machine}
use Rattle.tab_file.specs.declared.fault.TabErr.{TabErr}
use Rattle.tab_file.specs.declared.fault.TabKind.TheVariants.{Short, NoMemory}
use Rattle.tab_file.specs.declared.partial.Partial.{Partial}
use Rattle.tab_file.specs.declared.body.Body.{Body}
use Rattle.tab_file.specs.Items.{Item, failure, wrong_at, first_failure, value_item, instance_items, places_items, count_items}
use Rattle.tab_file.specs.Reading.{front_items, promised_airs, promised_counts, items, TabFails}
use Rattle.tab_file.specs.Steps.{Pass, out_of_memory, table_at, tables_from, instance_len, places_len}
use Rattle.tab_file.specs.Front.{header_items, header_end, promised_places, whole_from, whole_tables, CountsHaveCome, NoneFailsYet}
use Rattle.tab_file.specs.Parts.{place_of, head_item, head_items, values_so_far, left, places_left, Grows, Waits, WaitsForHead, WaitsForValue, Done, StandsAt, BodyAt, BodyFails, reach}
use Rattle.tab_file.specs.Stands.{Knows, InBody, InAll, GoesOn, HasFailed, AreBytes}
use Rattle.tab_file.proofs.Places.{places_len-append, tables_from-append}
use Rattle.tab_file.proofs.InPiece.{short_item}
use Rattle.tab_file.proofs.Grown.{only_head, parted, after_head, width_of_head, whole_head}
use Rattle.tab_file.proofs.Values.{wanted, size, place_size}
use Rattle.tab_file.proofs.Whole.{ends_whole}
use Rattle.tab_file.proofs.Bodies.{begun}
use Rattle.std.proofs.lemmas.List.Concat.{flat_map-append}
use Rattle.tab_file.proofs.OfFile.{never_memory}

-- ---- an instance that isn't whole

all_come : (fed : List ℕ) (begin n : ℕ) (q : Place) (g : Partial) → Grows fed begin n q g [] → length fed ≡ reach g
all_come fed begin n q g s =
    let len : length (drop g.at fed) ≡ length g.part.items = ap length (s.ahead ∙ append-nil g.part.items) in
    omega (arith, len, length-drop g.at fed, s.passed.whole)

pub head_short : (fed : List ℕ) (begin n : ℕ) (q : Place) (g : Partial) (more : List Item) → Grows fed begin n q g [] → WaitsForHead g
    → (first_failure fed begin (instance_items n q ++ more) ≡ Some (failure Short (length fed))) × (length fed < begin + instance_len q)
head_short fed begin n q g more s w =
    let passed = only_head fed begin n q g [] s w.heads in
    let len = all_come fed begin n q g s in
    let item = head_item n q g.heads in
    let width : byte_len (head_item n q g.heads).width ≡ 4 = ap byte_len (width_of_head n q g.heads) in
    let short : length fed < g.at + byte_len (head_item n q g.heads).width = omega (arith, len, width, w.part) in (
      ap (λ (is : List Item). first_failure fed begin (is ++ more)) (parted n q g.heads w.heads) ∙ ap (first_failure fed begin) (append_assoc (head_items n q g.heads) (item ∷ after_head n q g.heads) more)
          ∙ passed.0.rest ((item ∷ after_head n q g.heads) ++ more)
          ∙ ap (λ (o : Option TabErr). option_or o (first_failure fed (g.at + byte_len item.width) (after_head n q g.heads ++ more))) (short_item fed g.at item short),
      omega (arith, len, w.part, w.heads, passed.1),
    )

pub value_short : (fed : List ℕ) (begin n : ℕ) (q : Place) (g : Partial) (more : List Item) → Grows fed begin n q g [] → WaitsForValue g
    → (first_failure fed begin (instance_items n q ++ more) ≡ Some (failure Short (length fed))) × (length fed < begin + instance_len q)
value_short fed begin n q g more s w =
    let len = all_come fed begin n q g s in
    let four : g.heads ≡ 4 = omega (arith, w.heads, s.heads) in
    let v = values_so_far g in
    let room : values_so_far g + 1 ≤ size g = wanted fed begin n q g [] 1 s w.columns (omega (arith, w.rows)) in
    let sized : size g ≡ q.form.columns * q.form.rows = place_size fed begin n q g [] s in
    let left = size g - (values_so_far g + 1) in
    let sum : values_so_far g + (1 + (size g - (values_so_far g + 1))) ≡ size g = omega (arith, room) in
    let head : List Item = head_items n q g.heads in
    let shape : instance_items n q ≡ (head_items n q g.heads ++ replicate v value_item) ++ value_item ∷ replicate left value_item =
    whole_head n q ∙ ap (λ (k : ℕ). head_items n q 4 ++ replicate k value_item) (sym (sum ∙ sized)) ∙ ap (λ (h : ℕ). head_items n q h ++ replicate (v + (1 + left)) value_item) (sym four)
    ∙ ap (λ (is : List Item). head_items n q g.heads ++ is) (sym (replicate-append-replicate v (1 + left) value_item)) ∙ sym (append_assoc head (replicate v value_item) (replicate (1 + left) value_item))
    ∙ ap (λ (is : List Item). (head_items n q g.heads ++ replicate v value_item) ++ is) (sym (replicate-append-replicate 1 left value_item)) in
    let short : length fed < g.at + 8 = omega (arith, len, w.part) in
    let tail : List Item = value_item ∷ replicate left value_item in (
      ap (λ (is : List Item). first_failure fed begin (is ++ more)) shape ∙ ap (first_failure fed begin) (append_assoc (head ++ replicate v value_item) tail more)
          ∙ s.passed.rest (tail ++ more)
          ∙ ap (λ (o : Option TabErr). option_or o (first_failure fed (g.at + 8) (replicate left value_item ++ more))) (short_item fed g.at value_item short),
      omega (arith, len, w.part, four, s.next, room, sized),
    )

pub waits_short : (fed : List ℕ) (begin n : ℕ) (q : Place) (g : Partial) (more : List Item) → Grows fed begin n q g [] → Waits g
    → (first_failure fed begin (instance_items n q ++ more) ≡ Some (failure Short (length fed))) × (length fed < begin + instance_len q)
waits_short fed begin n q g more s (inl w) = head_short fed begin n q g more s w
waits_short fed begin n q g more s (inr w) = value_short fed begin n q g more s w

-- ---- the tables that are whole

whole_done : (file : List ℕ) (start : ℕ) (done qs : List Place) → start + places_len done ≤ length file → whole_from file start (done ++ qs) ≡ tables_from file start done ++ whole_from file (start + places_len done) qs
whole_done file start [] qs le =
    let e : start + 0 ≡ start = omega arith in
    rw e refl
whole_done file start (p ∷ ps) qs le =
    let here : start + instance_len p ≤ length file = omega (arith, le) in
    let e : start + instance_len p + places_len ps ≡ start + (instance_len p + places_len ps) = omega arith in
    let later = whole_done file (start + instance_len p) ps qs (omega (arith, le)) in
    rw (le-leb (start + instance_len p) (length file) here) (ap (λ (ts : List Table). table_at file start p ∷ ts) (rw (← e) later))

pub whole_none : (file : List ℕ) (at : ℕ) (q : Place) (qs : List Place) → length file < at + instance_len q → whole_from file at (q ∷ qs) ≡ []
whole_none file at q qs lt = rw (lt-leb (at + instance_len q) (length file) lt) refl

-- what the bytes so far are, where these tables have come whole
pub record Now (fed : List ℕ) (n start : ℕ) (ps : List Place) (so_far : List Table) (b : Body) : Type 0 where
  pub whole : whole_from fed start ps ≡ so_far
  pub first : first_failure fed start (places_items n ps) ≡ cond b.going (Some (failure Short (length fed))) None
  pub all : length fed ≡ reach b.partial
  pub ended : b.going ≡ false → tables_from fed start ps ≡ so_far

now_going : (fed : List ℕ) (n start : ℕ) (ps : List Place) (so_far : List Table) (b : Body) → b.going ≡ true → Waits b.partial → BodyAt fed n start ps so_far [] b → Now fed n start ps so_far b
now_going fed n start ps so_far b e w at =
    let s = begun fed n start ps so_far [] b e at in
    let p = place_of b.partial.due in
    let later = left b.coming in
    let short = waits_short fed s.begin n p b.partial (places_items n later) s.grows w in
    let split : places_items n ps ≡ places_items n s.before ++ (instance_items n p ++ places_items n later) = ap (places_items n) s.places ∙ flat_map-append (instance_items n) s.before (p ∷ later) in
    record {
      whole = ap (whole_from fed start) s.places ∙ whole_done fed start s.before (p ∷ later) (subst (λ (m : ℕ). m ≤ length fed) s.done.begin_is s.done.pass.whole)
          ∙ ap (λ (m : ℕ). tables_from fed start s.before ++ whole_from fed m (p ∷ later)) (sym s.done.begin_is)
          ∙ ap (λ (ts : List Table). tables_from fed start s.before ++ ts) (whole_none fed s.begin p later short.1) ∙ append-nil (tables_from fed start s.before) ∙ sym s.done.tables;
      first = rw e (ap (first_failure fed start) split ∙ s.done.pass.rest (instance_items n p ++ places_items n later) ∙ short.0);
      all = all_come fed s.begin n p b.partial s.grows;
      ended = λ no. absurd cc;
    }

now_ended : (fed : List ℕ) (n start : ℕ) (ps : List Place) (so_far : List Table) (b : Body) → b.going ≡ false → BodyAt fed n start ps so_far [] b → Now fed n start ps so_far b
now_ended fed n start ps so_far b e s =
    let none : places_left b ≡ [] = rw e refl in
    let here : (b.partial.at ≡ s.begin) × (b.partial.part.items ≡ []) × (drop s.begin fed ≡ []) =
    subst (λ (x : Bool). MatchBool x (Grows fed s.begin n (place_of b.partial.due) b.partial []) ((b.partial.at ≡ s.begin) × (b.partial.part.items ≡ []) × (drop s.begin fed ≡ []))) e s.now in
    let all : ps ≡ s.before = s.places ∙ ap (λ (qs : List Place). s.before ++ qs) none ∙ append-nil s.before in
    let end : length fed ≤ s.begin = omega (arith, length-drop s.begin fed, ap length here.2) in
    let tables : tables_from fed start ps ≡ so_far = ap (tables_from fed start) all ∙ sym s.done.tables in
    record {
      whole = ap (whole_from fed start) (all ∙ sym (append-nil s.before)) ∙ whole_done fed start s.before [] (subst (λ (m : ℕ). m ≤ length fed) s.done.begin_is s.done.pass.whole)
          ∙ append-nil (tables_from fed start s.before) ∙ sym s.done.tables;
      first = rw e (ap (λ (qs : List Place). first_failure fed start (places_items n qs)) all ∙ ap (first_failure fed start) (sym (append-nil (places_items n s.before))) ∙ s.done.pass.rest [] ∙ ends_whole fed s.begin end);
      all = omega (arith, here.0, ap length here.1, end, s.done.pass.whole);
      ended = λ _. tables;
    }

pub now : (fed : List ℕ) (n start : ℕ) (ps : List Place) (so_far : List Table) (b : Body) → (b.going ≡ true → Waits b.partial) → BodyAt fed n start ps so_far [] b → Now fed n start ps so_far b
now fed n start ps so_far b waits s =
    elim b.going as (λ x. b.going ≡ x → Now fed n start ps so_far b) [
      | true ↦ λ e. now_going fed n start ps so_far b e (waits e) s
      | false ↦ λ e. now_ended fed n start ps so_far b e s
    ] refl

-- ---- from the header on

pub header_then : (file : List ℕ) (shape : Shape) (next : ℕ) → Pass file 0 (header_items file shape) next → first_failure file 0 (items file shape) ≡ first_failure file next (places_items (length (promised_airs file shape)) (promised_places file shape))
header_then file shape next pass =
    let front = front_items shape.form (length shape.airs) in
    let counts = count_items (is_machine shape.form) 0 (promised_airs file shape) in
    let places = places_items (length (promised_airs file shape)) (promised_places file shape) in
    ap (first_failure file 0) (sym (append_assoc front counts places)) ∙ pass.rest places

pub same_counts : (profile : Option Profile) (b c : Body) (shape : Shape) (file : List ℕ) → c.coming.counts.items ≡ b.coming.counts.items → Knows profile (Some b) shape file → Knows profile (Some c) shape file
same_counts profile b c shape file e k = record { profile_is = k.profile_is; counts_are = (k.counts_are.0, e ∙ k.counts_are.1) }

pub both_bytes : (fed piece : List ℕ) → AreBytes fed → AreBytes piece → AreBytes (fed ++ piece)
both_bytes fed piece f p i =
    elim (cases_lt i (length fed)) [
      | inl lt ↦ rw (get_or_append_left fed piece 0 i lt) (f i)
      | inr le ↦
          let e : length fed + (i - length fed) ≡ i = omega (arith, le) in
          subst (λ (k : ℕ). get_or (fed ++ piece) k 0 < 256) e (rw (get_or-append-add fed piece (i - length fed) 0) (p (i - length fed)))
    ]

pub body_feeds : (profile : Option Profile) (b c : Body) (header : List ℕ) (shape : Shape) (fed piece : List ℕ) (tables : List Table) → GoesOn profile (Some b) header shape fed → AreBytes piece
    → (c.going ≡ true → Waits c.partial) → c.coming.counts.items ≡ b.coming.counts.items
    → ((file : List ℕ) (n start : ℕ) (ps : List Place) (before : List Table) (more : List ℕ) → BodyAt file n start ps (before ++ []) (piece ++ more) b → BodyAt file n start ps (before ++ tables) more c)
    → GoesOn profile (Some c) header shape (fed ++ piece) × (whole_tables fed shape ++ tables ≡ whole_tables (fed ++ piece) shape)
body_feeds profile b c header shape fed piece tables s bytes waits counts takes =
    let so_far = whole_tables fed shape in
    let each : (more : List ℕ) → InBody profile c shape (fed ++ (piece ++ more)) (so_far ++ tables) more = λ more.
    let one = s.state.each (piece ++ more) in
    let file = fed ++ (piece ++ more) in
    let start = subst (λ (ts : List Table). BodyAt file (length (promised_airs file shape)) (header_end file shape) (promised_places file shape) ts (piece ++ more) b) (sym (append-nil so_far)) one.body in
    record {
      knows = same_counts profile b c shape file counts one.knows;
      header = one.header;
      body = takes file (length (promised_airs file shape)) (header_end file shape) (promised_places file shape) so_far more start;
    } in
    let here : InBody profile c shape (fed ++ piece) (so_far ++ tables) [] = subst (λ (xs : List ℕ). InBody profile c shape (fed ++ xs) (so_far ++ tables) []) (append-nil piece) (each []) in
    let at = now (fed ++ piece) (length (promised_airs (fed ++ piece) shape)) (header_end (fed ++ piece) shape) (promised_places (fed ++ piece) shape) (so_far ++ tables) c waits here.body in (
      record {
        bytes = both_bytes fed piece s.bytes bytes;
        knows = here.knows;
        state = record {
          waits = waits;
          each = λ more. subst (λ (xs : List ℕ). InBody profile c shape xs (whole_tables (fed ++ piece) shape) more) (sym (append_assoc fed piece more)) (subst (λ (ts : List Table). InBody profile c shape (fed ++ (piece ++ more)) ts more) (sym at.whole) (each more));
        };
      },
      sym at.whole,
    )

pub body_has_failed : (profile : Option Profile) (b c : Body) (header : List ℕ) (shape : Shape) (fed piece : List ℕ) (e : TabErr) → GoesOn profile (Some b) header shape fed → c.coming.counts.items ≡ b.coming.counts.items
    → ((file : List ℕ) (n start : ℕ) (ps : List Place) (before : List Table) (more : List ℕ) → BodyAt file n start ps (before ++ []) (piece ++ more) b → BodyFails file n start ps e)
    → e ≢ out_of_memory → HasFailed profile (Some c) shape (fed ++ piece) e
body_has_failed profile b c header shape fed piece e s counts fails other =
    let so_far = whole_tables fed shape in
    let each : (more : List ℕ) → BodyFails (fed ++ (piece ++ more)) (length (promised_airs (fed ++ (piece ++ more)) shape)) (header_end (fed ++ (piece ++ more)) shape) (promised_places (fed ++ (piece ++ more)) shape) e = λ more.
    let one = s.state.each (piece ++ more) in
    let file = fed ++ (piece ++ more) in
    fails file (length (promised_airs file shape)) (header_end file shape) (promised_places file shape) so_far more
    (subst (λ (ts : List Table). BodyAt file (length (promised_airs file shape)) (header_end file shape) (promised_places file shape) ts (piece ++ more) b) (sym (append-nil so_far)) one.body) in
    let failing : (more : List ℕ) → TabFails (fed ++ (piece ++ more)) shape e.kind e.at = λ more.
    let file = fed ++ (piece ++ more) in
    header_then file shape (header_end file shape) (s.state.each (piece ++ more)).header ∙ (each more).fail other in
    record {
      kind = (each []).kind;
      item = λ same. never_memory (fed ++ (piece ++ [])) shape e.at (subst (λ k. TabFails (fed ++ (piece ++ [])) shape k e.at) same (failing []));
      knows = λ more. subst (λ (xs : List ℕ). Knows profile (Some c) shape xs) (sym (append_assoc fed piece more)) (same_counts profile b c shape (fed ++ (piece ++ more)) counts (s.state.each (piece ++ more)).knows);
      fails = λ more. subst (λ (xs : List ℕ). TabFails xs shape e.kind e.at) (sym (append_assoc fed piece more)) (failing more);
    }

pub feeds_body : (profile : Option Profile) (b c : Body) (header : List ℕ) (shape : Shape) (fed piece : List ℕ) (none tables : List Table) (result : Result (Unit {0}) TabErr) → GoesOn profile (Some b) header shape fed → AreBytes piece → none ≡ []
    → IfOk result (λ _. c.going ≡ true → Waits c.partial) → c.coming.counts.items ≡ b.coming.counts.items
    → ((file : List ℕ) (n start : ℕ) (ps : List Place) (before : List Table) (more : List ℕ) → BodyAt file n start ps (before ++ none) (piece ++ more) b → MatchResult result (λ _. BodyAt file n start ps (before ++ tables) more c) (λ e. BodyFails file n start ps e))
    → MatchResult result (λ _. GoesOn profile (Some c) header shape (fed ++ piece) × (whole_tables fed shape ++ tables ≡ whole_tables (fed ++ piece) shape)) (λ e. e ≢ out_of_memory → HasFailed profile (Some c) shape (fed ++ piece) e)
feeds_body profile b c header shape fed piece none tables (Ok u) s bytes empty waits counts takes =
    body_feeds profile b c header shape fed piece tables s bytes waits counts (λ file n start ps before more at. takes file n start ps before more (subst (λ (ts : List Table). BodyAt file n start ps (before ++ ts) (piece ++ more) b) (sym empty) at))
feeds_body profile b c header shape fed piece none tables (Err e) s bytes empty waits counts takes = λ other.
    body_has_failed profile b c header shape fed piece e s counts (λ file n start ps before more at. takes file n start ps before more (subst (λ (ts : List Table). BodyAt file n start ps (before ++ ts) (piece ++ more) b) (sym empty) at)) other
