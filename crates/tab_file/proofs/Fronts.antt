-- A front of a file: its header, and the tables that are whole.
use Rattle.std.proofs.Common.{◌≡◌, ◌≢◌, ℕ, zero, suc, ◌+◌, ◌*◌, ◌-◌, ◌≤◌, ◌<◌, Bool, true, false, cond, ltb, leb, eqb, List, [], ◌∷◌, ◌++◌, length, replicate, take, Option, None, Some, refl, sym, ap, subst, ◌∙◌, append_assoc, arith, ⊎_elim}
use Rattle.std.specs.Prelude.{MatchOption}
use Rattle.std.specs.Option.{option_or}
use Rattle.std.specs.Int.{Width, w8, w32, byte_len}
use Rattle.std.proofs.lemmas.Bool.{le-ltb, le-leb, lt-leb, cases_lt}
use Rattle.std.proofs.lemmas.List.{append-nil}
use Rattle.gold.specs.Field.{p}
use Rattle.gold.specs.declared.instances.Table.{Table}
use Rattle.gold.specs.declared.instances.Witness.{Witness}
use Rattle.gold.specs.declared.shapes.AirShape.{AirShape}
use Rattle.gold.specs.declared.shapes.Shape.{Shape}
use Rattle.gold.specs.Shapes.{Place, Fits, Fill, AreCounts, is_machine}
use Rattle.tab_file.specs.declared.fault.TabErr.{TabErr}
use Rattle.tab_file.specs.declared.fault.TabKind.TheVariants.{Short, BadAir, BadOrder, BadShape, NotCanonical}
use Rattle.tab_file.specs.Items.{Item, failure, number_at, wrong_at, first_failure, exactly, air_item, value_item, count_items, instance_items, places_items}
use Rattle.tab_file.specs.Reading.{front_items, front_end, promised_airs, promised_counts, items, TabReads}
use Rattle.tab_file.specs.Steps.{Pass, instance_len, promised, table_at, tables_from}
use Rattle.tab_file.specs.Front.{AllPass, CountsHaveCome, NoneFailsYet, ProfileHasCome, SameHeader, IsAllOf, header_items, header_end, promised_places, whole_from, whole_tables, witness_of}
use Rattle.tab_file.proofs.Stands.{IsBytes}
use Rattle.tab_file.proofs.Takes.{both_none, counts_taken, instance_taken, item_taken}
use Rattle.tab_file.proofs.Extends.{AllPass-len, AllPass-front, AreWholeItems, IsWholeItem, Pass-AllPass, items_len}
use Rattle.tab_file.proofs.Headers.{counts_stay, counts_come, exact_whole, front_has_profile, front_len, header_len, header_passes, header_whole, join, none_whole, profile_stays, before_front, same_err, two}
use Rattle.tab_file.proofs.Readers.{header_then}
use Rattle.tab_file.proofs.Again.{file_again}

-- no item fails of which all has come
abbrev NoneFails : Option TabErr → Type 0
NoneFails o = MatchOption o (Unit {0}) (λ e. e.kind ≡ Short)

-- ---- items whose bytes have all come

-- they pass, where the first failure is that an item isn't whole
come_pass : (bytes : List ℕ) (at : ℕ) (is more : List Item) → AreWholeItems is → at + items_len is ≤ length bytes → NoneFails (first_failure bytes at (is ++ more)) → AllPass bytes at is
come_pass bytes at [] more w le h = tt
come_pass bytes at (i ∷ is) more w le h =
    let room : at + byte_len i.width ≤ length bytes = omega (arith, le) in
    let here : wrong_at bytes at i ≡ i.wrong at (number_at i.width bytes at) = rw (le-ltb (length bytes) (at + byte_len i.width) room) refl in
    let told : NoneFails (option_or (i.wrong at (number_at i.width bytes at)) (first_failure bytes (at + byte_len i.width) (is ++ more))) = subst (λ o. NoneFails (option_or o (first_failure bytes (at + byte_len i.width) (is ++ more)))) here h in
    elim (i.wrong at (number_at i.width bytes at)) as (λ o. i.wrong at (number_at i.width bytes at) ≡ o → NoneFails (option_or o (first_failure bytes (at + byte_len i.width) (is ++ more))) → AllPass bytes at (i ∷ is)) [
      | None ↦ λ none g. (here ∙ none, come_pass bytes (at + byte_len i.width) is more w.1 (omega (arith, le)) g)
      | Some d ↦ λ some g. absurd (w.0.not_short at (number_at i.width bytes at) d some g)
    ] refl told

-- they pass, where nothing fails
none_pass : (bytes : List ℕ) (at : ℕ) (is more : List Item) → first_failure bytes at (is ++ more) ≡ None → AllPass bytes at is
none_pass bytes at [] more h = tt
none_pass bytes at (i ∷ is) more h =
    let split = both_none (wrong_at bytes at i) (first_failure bytes (at + byte_len i.width) (is ++ more)) h in
    (split.0, none_pass bytes (at + byte_len i.width) is more split.1)

pass_back : (bytes : List ℕ) (at : ℕ) (xs ys : List Item) → AllPass bytes at (xs ++ ys) → AllPass bytes (at + items_len xs) ys
pass_back bytes at [] ys h = let e : at + 0 ≡ at = omega arith in rw e h
pass_back bytes at (x ∷ xs) ys h =
    let e : at + (byte_len x.width + items_len xs) ≡ at + byte_len x.width + items_len xs = omega arith in
    rw e (pass_back bytes (at + byte_len x.width) xs ys h.1)

-- an item that is never wrong, of one byte
abbrev any : Item
any = record { width = w8; wrong = λ at v. None }

-- so many of them fill a file up
fill_up : (bytes : List ℕ) (at n : ℕ) → at + n ≡ length bytes → first_failure bytes at (replicate n any) ≡ None
fill_up bytes at zero h = let le : length bytes ≤ at = omega (arith, h) in rw (le-ltb at (length bytes) le) refl
fill_up bytes at (suc n) h =
    let le : at + 1 ≤ length bytes = omega (arith, h) in
    rw (le-ltb (length bytes) (at + 1) le) (fill_up bytes (at + 1) n (omega (arith, h)))

-- nothing fails in them and what fills the file up
passed_up : (bytes : List ℕ) (at : ℕ) (is : List Item) → at ≤ length bytes → AllPass bytes at is → first_failure bytes at (is ++ replicate (length bytes - (at + items_len is)) any) ≡ None
passed_up bytes at is le h =
    let p = AllPass-len bytes at is le h in
    p.rest (replicate (length bytes - (at + items_len is)) any) ∙ fill_up bytes (at + items_len is) (length bytes - (at + items_len is)) (omega (arith, p.whole))

-- ---- an instance

values_len : (n : ℕ) → items_len (replicate n value_item) ≡ 8 * n
values_len zero = refl
values_len (suc n) = omega (arith, values_len n)

place_len : (n : ℕ) (p : Place) → items_len (instance_items n p) ≡ instance_len p
place_len n p = omega (arith, values_len (p.form.columns * p.form.rows))

values_whole : (n : ℕ) → AreWholeItems (replicate n value_item)
values_whole zero = tt
values_whole (suc n) = (record { not_short = λ at v e w. two (ltb v p) (failure NotCanonical at) e (λ q. cc) w }, values_whole n)

four : (a b : Bool) (x y e : TabErr) → x.kind ≢ Short → y.kind ≢ Short → cond a (cond b None (Some x)) (Some y) ≡ Some e → e.kind ≢ Short
four true b x y e h k w = two b x e h w
four false b x y e h k w = λ q. k (ap (λ (t : TabErr). t.kind) (same_err y e w) ∙ q)

instance_whole : (n : ℕ) (q : Place) → AreWholeItems (instance_items n q)
instance_whole n q = (
  record { not_short = λ at v e w. four (ltb v n) (eqb v q.air) (failure BadOrder at) (failure BadAir at) e (λ q. cc) (λ q. cc) w },
  (exact_whole q.instance BadOrder 4 (λ q. cc), (exact_whole q.form.columns BadShape 0 (λ q. cc), (exact_whole q.form.rows BadShape 0 (λ q. cc), values_whole (q.form.columns * q.form.rows)))),
)

-- an instance whose items pass is the one of its place
fits_place : (bytes : List ℕ) (at n : ℕ) (p : Place) → IsBytes bytes → at ≤ length bytes → AllPass bytes at (instance_items n p) → Fits p (table_at bytes at p)
fits_place bytes at n p fits le h = (instance_taken bytes at n p (replicate (length bytes - (at + items_len (instance_items n p))) any) fits (passed_up bytes at (instance_items n p) le h)).1

-- ---- the instances

-- those that are whole fill the first of the places
pub whole_fill : (bytes : List ℕ) (at n : ℕ) (ps : List Place) → IsBytes bytes → at ≤ length bytes → NoneFails (first_failure bytes at (places_items n ps)) → Fill (take (length (whole_from bytes at ps)) ps) (whole_from bytes at ps)
whole_fill bytes at n [] fits le h = tt
whole_fill bytes at n (p ∷ ps) fits le h =
    ⊎_elim
    (λ lt. let none : whole_from bytes at (p ∷ ps) ≡ [] = rw (lt-leb (at + instance_len p) (length bytes) lt) refl in subst (λ (ts : List Table). Fill (take (length ts) (p ∷ ps)) ts) (sym none) tt)
    (λ room.
    let some : whole_from bytes at (p ∷ ps) ≡ table_at bytes at p ∷ whole_from bytes (at + instance_len p) ps = rw (le-leb (at + instance_len p) (length bytes) room) refl in
    let come : AllPass bytes at (instance_items n p) = come_pass bytes at (instance_items n p) (places_items n ps) (instance_whole n p) (omega (arith, place_len n p, room)) h in
    let pass = AllPass-len bytes at (instance_items n p) le come in
    let next : at + items_len (instance_items n p) ≡ at + instance_len p = omega (arith, place_len n p) in
    let after : first_failure bytes at (places_items n (p ∷ ps)) ≡ first_failure bytes (at + instance_len p) (places_items n ps) = pass.rest (places_items n ps) ∙ ap (λ (m : ℕ). first_failure bytes m (places_items n ps)) next in
    let rest = whole_fill bytes (at + instance_len p) n ps fits room (subst NoneFails after h) in
    subst (λ (ts : List Table). Fill (take (length ts) (p ∷ ps)) ts) (sym some) (fits_place bytes at n p fits le come, rest))
    (cases_lt (length bytes) (at + instance_len p))

-- where nothing fails all are whole
all_whole : (bytes : List ℕ) (at n : ℕ) (ps : List Place) → at ≤ length bytes → first_failure bytes at (places_items n ps) ≡ None → whole_from bytes at ps ≡ tables_from bytes at ps
all_whole bytes at n [] le h = refl
all_whole bytes at n (p ∷ ps) le h =
    let come : AllPass bytes at (instance_items n p) = none_pass bytes at (instance_items n p) (places_items n ps) h in
    let pass = AllPass-len bytes at (instance_items n p) le come in
    let next : at + items_len (instance_items n p) ≡ at + instance_len p = omega (arith, place_len n p) in
    let room : at + instance_len p ≤ length bytes = omega (arith, next, pass.whole) in
    let after : first_failure bytes (at + instance_len p) (places_items n ps) ≡ None = ap (λ (m : ℕ). first_failure bytes m (places_items n ps)) (sym next) ∙ sym (pass.rest (places_items n ps)) ∙ h in
    rw (le-leb (at + instance_len p) (length bytes) room) (ap (λ (ts : List Table). table_at bytes at p ∷ ts) (all_whole bytes (at + instance_len p) n ps room after))

-- ---- the header

pub header_pass : (bytes : List ℕ) (shape : Shape) → CountsHaveCome bytes shape → Pass bytes 0 (header_items bytes shape) (header_end bytes shape)
header_pass bytes shape come =
    let z : 0 + items_len (header_items bytes shape) ≡ header_end bytes shape = omega (arith, header_len bytes shape) in
    subst (λ (n : ℕ). Pass bytes 0 (header_items bytes shape) n) z (AllPass-len bytes 0 (header_items bytes shape) (omega arith) come)

pub come_counts : (bytes : List ℕ) (shape : Shape) → IsBytes bytes → CountsHaveCome bytes shape → AreCounts (is_machine shape.form) 0 (promised_airs bytes shape) (promised_counts bytes shape)
come_counts bytes shape fits come =
    let front = front_items shape.form (length shape.airs) in
    let counts = count_items (is_machine shape.form) 0 (promised_airs bytes shape) in
    let at : 0 + items_len front ≡ front_end shape.form = omega (arith, front_len shape.form (length shape.airs)) in
    let back : AllPass bytes (front_end shape.form) counts = subst (λ (n : ℕ). AllPass bytes n counts) at (pass_back bytes 0 front counts come) in
    let whole = (header_pass bytes shape come).whole in
    let le : front_end shape.form ≤ length bytes = omega (arith, whole) in
    (counts_taken bytes (front_end shape.form) (is_machine shape.form) 0 (promised_airs bytes shape) (replicate (length bytes - (front_end shape.form + items_len counts)) any) fits le
    (passed_up bytes (front_end shape.form) counts le back)).1

pub come_profile : (bytes : List ℕ) (shape : Shape) → CountsHaveCome bytes shape → ProfileHasCome bytes shape.form
come_profile bytes shape come = front_has_profile bytes shape.form (length shape.airs) (AllPass-front bytes 0 (front_items shape.form (length shape.airs)) (count_items (is_machine shape.form) 0 (promised_airs bytes shape)) come)

pub come_fill : (bytes : List ℕ) (shape : Shape) → IsBytes bytes → CountsHaveCome bytes shape → NoneFailsYet bytes shape → Fill (take (length (whole_tables bytes shape)) (promised_places bytes shape)) (whole_tables bytes shape)
come_fill bytes shape fits come none =
    let pass = header_pass bytes shape come in
    whole_fill bytes (header_end bytes shape) (length (promised_airs bytes shape)) (promised_places bytes shape) fits pass.whole (subst NoneFails (header_then bytes shape (header_end bytes shape) pass) none)

pub none_come : (bytes : List ℕ) (shape : Shape) → NoneFailsYet bytes shape → (CountsHaveCome bytes shape → ⊥) → whole_tables bytes shape ≡ []
none_come bytes shape none never =
    ⊎_elim
    (λ lt. none_whole bytes (header_end bytes shape) (promised_places bytes shape) lt)
    (λ le.
    let front = front_items shape.form (length shape.airs) in
    let counts = count_items (is_machine shape.form) 0 (promised_airs bytes shape) in
    let places = places_items (length (promised_airs bytes shape)) (promised_places bytes shape) in
    let parted : first_failure bytes 0 (items bytes shape) ≡ first_failure bytes 0 (header_items bytes shape ++ places) = ap (first_failure bytes 0) (sym (append_assoc front counts places)) in
    absurd (never (come_pass bytes 0 (header_items bytes shape) places (header_whole bytes shape) (omega (arith, header_len bytes shape, le)) (subst NoneFails parted none))))
    (cases_lt (length bytes) (header_end bytes shape))

pub come_later : (bytes more : List ℕ) (shape : Shape) → CountsHaveCome bytes shape → SameHeader bytes (bytes ++ more) shape
come_later bytes more shape come =
    let pass = header_pass bytes shape come in
    record {
      come = counts_come (bytes ++ more) shape (header_passes bytes more shape pass);
      profile = profile_stays bytes more shape.form (omega (arith, pass.whole, before_front shape.form));
      counts = counts_stay bytes more shape pass.whole;
    }

-- ---- the file

made : (w : Witness) (ts : List Table) → w.tables ≡ ts → w ≡ record { profile = w.profile; tables = ts }
made w ts e = ap (λ (us : List Table). record { profile = w.profile; tables = us }) e

pub all_of : (bytes : List ℕ) (shape : Shape) (witness : Witness) → TabReads bytes shape witness → IsAllOf bytes shape witness
all_of bytes shape witness reads =
    let read = file_again bytes shape witness reads in
    let front = front_items shape.form (length shape.airs) in
    let counts = count_items (is_machine shape.form) 0 (promised_airs bytes shape) in
    let places = places_items (length (promised_airs bytes shape)) (promised_places bytes shape) in
    let none : first_failure bytes 0 (header_items bytes shape ++ places) ≡ None = ap (first_failure bytes 0) (append_assoc front counts places) ∙ read.fine in
    let come : CountsHaveCome bytes shape = none_pass bytes 0 (header_items bytes shape) places none in
    let pass = header_pass bytes shape come in
    let rest : first_failure bytes (header_end bytes shape) places ≡ None = sym (header_then bytes shape (header_end bytes shape) pass) ∙ read.fine in
    let whole : whole_tables bytes shape ≡ tables_from bytes (header_end bytes shape) (promised_places bytes shape) = all_whole bytes (header_end bytes shape) (length (promised_airs bytes shape)) (promised_places bytes shape) pass.whole rest in
    record {
      come = come;
      none = rw read.fine tt;
      is = sym read.same ∙ made (promised bytes shape) (whole_tables bytes shape) (sym whole);
      counts = read.counts;
    }
