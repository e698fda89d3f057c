-- The instances that have come, one more, or a failure.
use Rattle.std.proofs.Common.{◌≡◌, ◌≢◌, ℕ, zero, suc, ◌+◌, ◌*◌, ◌-◌, ◌≤◌, ◌<◌, Bool, true, false, List, [], ◌∷◌, ◌++◌, length, take, drop, Option, None, Some, refl, sym, ap, subst, ◌∙◌, append_assoc, arith}
use Rattle.std.specs.Prelude.{MatchBool}
use Rattle.std.proofs.lemmas.List.{append-nil, length-append, length-drop, drop_all}
use Rattle.std.proofs.lemmas.List.Concat.{flat_map-append}
use Rattle.std.proofs.lemmas.Bool.{lt-ltb}
use Rattle.gold.specs.declared.instances.Table.{Table}
use Rattle.gold.specs.Shapes.{Place}
use Rattle.tab_file.specs.declared.fault.TabErr.{TabErr}
use Rattle.tab_file.specs.declared.fault.TabKind.TheVariants.{Short, Trailing}
use Rattle.tab_file.specs.declared.partial.Partial.{Partial}
use Rattle.tab_file.specs.declared.body.Body.{Body}
use Rattle.tab_file.specs.Items.{Item, failure, first_failure, instance_items, places_items}
use Rattle.tab_file.specs.Steps.{Pass, Fail, out_of_memory, table_at, tables_from, instance_len, places_len}
use Rattle.tab_file.specs.Parts.{place_of, left, places_left, Grows, Fails, IsTableAt, Done, StandsAt, BodyAt, BodyFails}
use Rattle.tab_file.proofs.Going.{Pass-none, Pass-then, Pass-fail}
use Rattle.tab_file.proofs.Places.{places_len-append, tables_from-append}
use Rattle.tab_file.proofs.Whole.{ends_early}

pub Done-none : (file : List ℕ) (n at : ℕ) → at ≤ length file → Done file n at at [] []
Done-none file n at le = record { begin_is = omega arith; tables = refl; pass = Pass-none file at le }

one_place : (n : ℕ) (p : Place) → places_items n (p ∷ []) ≡ instance_items n p
one_place n p = append-nil (instance_items n p)

pub Done-more : (file : List ℕ) (n start begin next : ℕ) (done : List Place) (so_far : List Table) (p : Place) → Done file n start begin done so_far → Pass file begin (instance_items n p) next → next ≡ begin + instance_len p
    → Done file n start next (done ++ p ∷ []) (so_far ++ table_at file begin p ∷ [])
Done-more file n start begin next done so_far p d pass end = record {
  begin_is = omega (arith, end, d.begin_is, places_len-append done (p ∷ []));
  tables = ap (λ (ts : List Table). ts ++ table_at file begin p ∷ []) d.tables ∙ ap (λ (m : ℕ). tables_from file start done ++ table_at file m p ∷ []) d.begin_is ∙ sym (tables_from-append file start done (p ∷ []));
  pass = subst (λ (is : List Item). Pass file start is next) (sym (flat_map-append (instance_items n) done (p ∷ [])))
      (Pass-then file start begin next (places_items n done) (places_items n (p ∷ [])) d.pass (subst (λ (is : List Item). Pass file begin is next) (sym (one_place n p)) pass));
}

-- ---- an instance has begun

going_now : (file : List ℕ) (begin n : ℕ) (b : Body) (rest : List ℕ) → b.going ≡ true → StandsAt file begin n b rest → Grows file begin n (place_of b.partial.due) b.partial rest
going_now file begin n b rest e s = subst (λ (x : Bool). MatchBool x (Grows file begin n (place_of b.partial.due) b.partial rest) ((b.partial.at ≡ begin) × (b.partial.part.items ≡ []) × (drop begin file ≡ rest))) e s

still_now : (file : List ℕ) (begin n : ℕ) (b : Body) (rest : List ℕ) → b.going ≡ true → Grows file begin n (place_of b.partial.due) b.partial rest → StandsAt file begin n b rest
still_now file begin n b rest e g = subst (λ (x : Bool). MatchBool x (Grows file begin n (place_of b.partial.due) b.partial rest) ((b.partial.at ≡ begin) × (b.partial.part.items ≡ []) × (drop begin file ≡ rest))) (sym e) g

going_left : (b : Body) → b.going ≡ true → places_left b ≡ place_of b.partial.due ∷ left b.coming
going_left b e = rw e refl

-- the instance that has begun
pub record Begun (file : List ℕ) (n start : ℕ) (ps : List Place) (so_far : List Table) (rest : List ℕ) (b : Body) : Type 0 where
  pub begin : ℕ
  pub before : List Place
  pub airs : n ≡ length b.coming.airs.items
  pub places : ps ≡ before ++ place_of b.partial.due ∷ left b.coming
  pub done : Done file n start begin before so_far
  pub grows : Grows file begin n (place_of b.partial.due) b.partial rest

pub begun : (file : List ℕ) (n start : ℕ) (ps : List Place) (so_far : List Table) (rest : List ℕ) (b : Body) → b.going ≡ true → BodyAt file n start ps so_far rest b → Begun file n start ps so_far rest b
begun file n start ps so_far rest b e s = record {
  begin = s.begin;
  before = s.before;
  airs = s.airs;
  places = s.places ∙ ap (λ (qs : List Place). s.before ++ qs) (going_left b e);
  done = s.done;
  grows = going_now file s.begin n b rest e s.now;
}

-- more of it has come
pub body_grows : (file : List ℕ) (n start : ℕ) (ps : List Place) (so_far : List Table) (rest after : List ℕ) (b c : Body) (s : Begun file n start ps so_far rest b) → c.going ≡ true → c.coming ≡ b.coming
    → Grows file s.begin n (place_of b.partial.due) c.partial after → BodyAt file n start ps so_far after c
body_grows file n start ps so_far rest after b c s going coming g =
    let same : place_of c.partial.due ≡ place_of b.partial.due = g.place in
    record {
      airs = rw coming s.airs;
      begin = s.begin;
      before = s.before;
      places = s.places ∙ ap (λ (p : Place). s.before ++ p ∷ left b.coming) (sym same) ∙ ap (λ k. s.before ++ place_of c.partial.due ∷ left k) (sym coming) ∙ ap (λ (qs : List Place). s.before ++ qs) (sym (going_left c going));
      done = s.done;
      now = still_now file s.begin n c after going (rw same g);
    }

pub body_fails : (file : List ℕ) (n start : ℕ) (ps : List Place) (so_far : List Table) (rest : List ℕ) (b : Body) (e : TabErr) (s : Begun file n start ps so_far rest b) → Fails file s.begin (instance_items n (place_of b.partial.due)) e → BodyFails file n start ps e
body_fails file n start ps so_far rest b e s f =
    let p = place_of b.partial.due in
    let later = left b.coming in
    let split : places_items n ps ≡ places_items n s.before ++ (instance_items n p ++ places_items n later) =
    ap (places_items n) s.places ∙ flat_map-append (instance_items n) s.before (p ∷ later) in
    record {
      kind = f.kind;
      fail = λ other.
          ap (first_failure file start) (sym (append-nil (places_items n ps)) ∙ ap (λ (is : List Item). is ++ []) split ∙ append_assoc (places_items n s.before) (instance_items n p ++ places_items n later) [])
          ∙ s.done.pass.rest ((instance_items n p ++ places_items n later) ++ [])
          ∙ ap (first_failure file s.begin) (append_assoc (instance_items n p) (places_items n later) [])
          ∙ f.fail other (places_items n later ++ []);
    }

-- ---- all instances have passed

pub body_trails : (file : List ℕ) (n start : ℕ) (ps : List Place) (so_far : List Table) (rest : List ℕ) (b : Body) → b.going ≡ false → 0 < length rest → BodyAt file n start ps so_far rest b
    → BodyFails file n start ps (failure Trailing b.partial.at)
body_trails file n start ps so_far rest b e some s =
    let none : places_left b ≡ [] = rw e refl in
    let here : (b.partial.at ≡ s.begin) × (b.partial.part.items ≡ []) × (drop s.begin file ≡ rest) =
    subst (λ (x : Bool). MatchBool x (Grows file s.begin n (place_of b.partial.due) b.partial rest) ((b.partial.at ≡ s.begin) × (b.partial.part.items ≡ []) × (drop s.begin file ≡ rest))) e s.now in
    let all : ps ≡ s.before = s.places ∙ ap (λ (qs : List Place). s.before ++ qs) none ∙ append-nil s.before in
    let longer : s.begin < length file = omega (arith, some, length-drop s.begin file, ap length here.2) in
    record {
      kind = λ q. cc;
      fail = λ _. ap (λ (qs : List Place). first_failure file start (places_items n qs)) all ∙ ap (first_failure file start) (sym (append-nil (places_items n s.before))) ∙ s.done.pass.rest []
          ∙ ends_early file s.begin longer ∙ ap (λ (m : ℕ). Some (failure Trailing m)) (sym here.0);
    }

-- ---- a whole instance, and the next

pub body_next : (file : List ℕ) (n start : ℕ) (ps : List Place) (so_far : List Table) (rest after : List ℕ) (b : Body) (g : Partial) (t : Table) (s : Begun file n start ps so_far rest b) → IsTableAt file s.begin n (place_of b.partial.due) t g after
    → (ps ≡ (s.before ++ place_of b.partial.due ∷ []) ++ left b.coming) × Done file n start g.at (s.before ++ place_of b.partial.due ∷ []) (so_far ++ t ∷ [])
body_next file n start ps so_far rest after b g t s whole =
    let p = place_of b.partial.due in
    let done = Done-more file n start s.begin g.at s.before so_far p s.done whole.pass whole.end in
    (s.places ∙ sym (append_assoc s.before (p ∷ []) (left b.coming)), subst (λ (u : Table). Done file n start g.at (s.before ++ p ∷ []) (so_far ++ u ∷ [])) (sym whole.table) done)

pub all_gone : (piece more : List ℕ) (k : ℕ) → k ≡ length piece → drop k piece ++ more ≡ more
all_gone piece more k e = ap (λ (xs : List ℕ). xs ++ more) (drop_all k piece (omega (arith, e)))
