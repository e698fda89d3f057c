-- A header that passes, fails or isn't whole, and what is known of it then.
use Rattle.std.proofs.Common.{◌≡◌, ◌≢◌, ℕ, zero, suc, ◌+◌, ◌*◌, ◌-◌, ◌≤◌, ◌<◌, Bool, true, false, cond, ltb, leb, eqb, List, [], ◌∷◌, ◌++◌, length, drop, take, Option, None, Some, refl, sym, ap, subst, ◌∙◌, append_assoc, arith, ◌⊎◌, inl, inr}
use Rattle.std.specs.Prelude.{MatchOption, MatchResult, IfOk, Result, Ok, Err, ◌||◌, ◌&&◌}
use Rattle.std.specs.Int.{w32, byte_len}
use Rattle.std.proofs.lemmas.List.{append-nil, drop-append-le, length-append}
use Rattle.gold.specs.declared.instances.Table.{Table}
use Rattle.gold.specs.declared.shapes.AirShape.{AirShape}
use Rattle.gold.specs.declared.shapes.Form.{Form}
use Rattle.gold.specs.declared.shapes.Form.TheVariants.{Plain, One, Two}
use Rattle.gold.specs.declared.shapes.Profile.{Profile}
use Rattle.gold.specs.declared.shapes.Shape.{Shape}
use Rattle.gold.specs.Shapes.{Place, is_machine, is_main, is_out, in_profile, places_from}
use Rattle.tab_file.specs.declared.fault.TabErr.{TabErr}
use Rattle.tab_file.specs.declared.fault.TabKind.{TabKind}
use Rattle.tab_file.specs.declared.fault.TabKind.TheVariants.{Short, BadMagic, BadVersion, BadProfile, BadAir, NoMain, NotOneOut, TooMany, NoMemory}
use Rattle.tab_file.specs.declared.body.Body.{Body}
use Rattle.tab_file.specs.Items.{Item, failure, number_at, wrong_at, first_failure, exactly, profile_item, count_item, count_items, places_items}
use Rattle.tab_file.specs.Reading.{numbers_from, version_items, version_end, front_items, front_end, profile_of, promised_profile, promised_airs, promised_counts, items, TabFails}
use Rattle.tab_file.specs.Steps.{Pass, Fail, out_of_memory}
use Rattle.tab_file.specs.Front.{AllPass, profile_items, profile_end, ProfileHasCome, CountsHaveCome, header_items, header_end, promised_places, whole_from, whole_tables}
use Rattle.tab_file.specs.Parts.{HeaderFails, CountsFail, ProfileFails, BodyAt, BodyFails, Waits}
use Rattle.tab_file.specs.Stands.{Knows, InHeader, InBody, InAll, GoesOn, HasFailed, AreBytes, Opened, OpenFails, Opens}
use Rattle.tab_file.proofs.Going.{Pass-fail, Fail-then}
use Rattle.tab_file.proofs.Extends.{number_stays, numbers_stay, never_constant, Fail-AllPass, Pass-AllPass, AllPass-front, AllPass-on, Fail-on, items_len, AllPass-len, IsWholeItem, AreWholeItems, short_where}
use Rattle.tab_file.proofs.Whole.{front_fails}
use Rattle.tab_file.proofs.OfFile.{never_memory}
use Rattle.tab_file.proofs.Readers.{whole_none, now, header_then, both_bytes}
use Rattle.tab_file.proofs.Values.{rest_of}

short_memory : Short ≡ NoMemory → ⊥
short_memory h = cc

-- ---- how long the header is

items_len-append : (xs ys : List Item) → items_len (xs ++ ys) ≡ items_len xs + items_len ys
items_len-append [] ys = omega arith
items_len-append (x ∷ xs) ys = omega (arith, items_len-append xs ys)

counts_len : (machine : Bool) (a : ℕ) (fs : List AirShape) → items_len (count_items machine a fs) ≡ 4 * length fs
counts_len machine a [] = refl
counts_len machine a (f ∷ fs) = omega (arith, counts_len machine (suc a) fs)

pub front_len : (form : Form) (airs : ℕ) → items_len (front_items form airs) ≡ front_end form
front_len Plain airs = refl
front_len One airs = refl
front_len Two airs = refl

pub header_len : (bytes : List ℕ) (shape : Shape) → items_len (header_items bytes shape) ≡ header_end bytes shape
header_len bytes shape =
    let front = front_items shape.form (length shape.airs) in
    let counts = count_items (is_machine shape.form) 0 (promised_airs bytes shape) in
    items_len-append front counts ∙ ap (λ (n : ℕ). n + items_len counts) (front_len shape.form (length shape.airs)) ∙ ap (λ (n : ℕ). front_end shape.form + n) (counts_len (is_machine shape.form) 0 (promised_airs bytes shape))

-- ---- what the header promises, whatever follows

pub profile_stays : (bytes more : List ℕ) (form : Form) → profile_end form ≤ length bytes → promised_profile (bytes ++ more) form ≡ promised_profile bytes form
profile_stays bytes more Plain le = refl
profile_stays bytes more One le = refl
profile_stays bytes more Two le = ap profile_of (number_stays w32 bytes more 8 le)

pub before_front : (form : Form) → profile_end form ≤ front_end form
before_front Plain = omega arith
before_front One = omega arith
before_front Two = omega arith

airs_stay : (bytes more : List ℕ) (shape : Shape) → front_end shape.form ≤ length bytes → promised_airs (bytes ++ more) shape ≡ promised_airs bytes shape
airs_stay bytes more shape le = ap (λ (p : Profile). in_profile p shape.airs) (profile_stays bytes more shape.form (omega (arith, le, before_front shape.form)))

pub counts_stay : (bytes more : List ℕ) (shape : Shape) → header_end bytes shape ≤ length bytes → promised_counts (bytes ++ more) shape ≡ promised_counts bytes shape
counts_stay bytes more shape le =
    let front : front_end shape.form ≤ length bytes = omega (arith, le) in
    let room : front_end shape.form + length (promised_airs bytes shape) * 4 ≤ length bytes = omega (arith, le) in
    ap (λ (fs : List AirShape). numbers_from w32 (bytes ++ more) (front_end shape.form) (length fs)) (airs_stay bytes more shape front)
    ∙ numbers_stay w32 bytes more (front_end shape.form) (length (promised_airs bytes shape)) room

items_stay : (bytes more : List ℕ) (shape : Shape) → front_end shape.form ≤ length bytes → header_items (bytes ++ more) shape ≡ header_items bytes shape
items_stay bytes more shape le = ap (λ (fs : List AirShape). front_items shape.form (length shape.airs) ++ count_items (is_machine shape.form) 0 fs) (airs_stay bytes more shape le)

end_stays : (bytes more : List ℕ) (shape : Shape) → front_end shape.form ≤ length bytes → header_end (bytes ++ more) shape ≡ header_end bytes shape
end_stays bytes more shape le = ap (λ (fs : List AirShape). front_end shape.form + 4 * length fs) (airs_stay bytes more shape le)

-- ---- a header that passes

pub header_passes : (bytes more : List ℕ) (shape : Shape) → Pass bytes 0 (header_items bytes shape) (header_end bytes shape) → Pass (bytes ++ more) 0 (header_items (bytes ++ more) shape) (header_end (bytes ++ more) shape)
header_passes bytes more shape pass =
    let front : front_end shape.form ≤ length bytes = omega (arith, pass.whole) in
    let all = AllPass-on bytes more 0 (header_items bytes shape) (Pass-AllPass bytes 0 (header_end bytes shape) (header_items bytes shape) pass.rest) in
    let here = AllPass-len (bytes ++ more) 0 (header_items bytes shape) (omega arith) all in
    let z : 0 + items_len (header_items bytes shape) ≡ header_end bytes shape = omega (arith, header_len bytes shape) in
    subst (λ (is : List Item). Pass (bytes ++ more) 0 is (header_end (bytes ++ more) shape)) (sym (items_stay bytes more shape front))
    (subst (λ (n : ℕ). Pass (bytes ++ more) 0 (header_items bytes shape) n) (z ∙ sym (end_stays bytes more shape front)) here)

pub counts_come : (bytes : List ℕ) (shape : Shape) → Pass bytes 0 (header_items bytes shape) (header_end bytes shape) → CountsHaveCome bytes shape
counts_come bytes shape pass = Pass-AllPass bytes 0 (header_end bytes shape) (header_items bytes shape) pass.rest

-- ---- a header that fails

other_than : (e : TabErr) → e.kind ≢ NoMemory → e ≢ out_of_memory
other_than e h same = h (ap (λ (x : TabErr). x.kind) same)

header_fail : (bytes : List ℕ) (shape : Shape) (e : TabErr) → HeaderFails bytes shape e → Fail bytes 0 (header_items bytes shape) e
header_fail bytes shape e (inl f) = Fail-then bytes 0 (front_items shape.form (length shape.airs)) (count_items (is_machine shape.form) 0 (promised_airs bytes shape)) e f
header_fail bytes shape e (inr f) = Pass-fail bytes 0 (front_end shape.form) (front_items shape.form (length shape.airs)) (count_items (is_machine shape.form) 0 (promised_airs bytes shape)) e f.pass f.fail

front_passes : (bytes more : List ℕ) (form : Form) (airs : ℕ) → Pass bytes 0 (front_items form airs) (front_end form) → Pass (bytes ++ more) 0 (front_items form airs) (front_end form)
front_passes bytes more form airs pass =
    let all = AllPass-on bytes more 0 (front_items form airs) (Pass-AllPass bytes 0 (front_end form) (front_items form airs) pass.rest) in
    let z : 0 + items_len (front_items form airs) ≡ front_end form = omega (arith, front_len form airs) in
    subst (λ (n : ℕ). Pass (bytes ++ more) 0 (front_items form airs) n) z (AllPass-len (bytes ++ more) 0 (front_items form airs) (omega arith) all)

header_fails_on : (bytes more : List ℕ) (shape : Shape) (e : TabErr) → e ≢ out_of_memory → e.kind ≢ Short → HeaderFails bytes shape e → HeaderFails (bytes ++ more) shape e
header_fails_on bytes more shape e other kind (inl f) = inl (Fail-on bytes more 0 (front_items shape.form (length shape.airs)) e other kind f)
header_fails_on bytes more shape e other kind (inr f) =
    let counts = Fail-on bytes more (front_end shape.form) (count_items (is_machine shape.form) 0 (promised_airs bytes shape)) e other kind f.fail in
    inr (record {
      pass = front_passes bytes more shape.form (length shape.airs) f.pass;
      fail = subst (λ (fs : List AirShape). Fail (bytes ++ more) (front_end shape.form) (count_items (is_machine shape.form) 0 fs) e) (sym (airs_stay bytes more shape f.pass.whole)) counts;
    })

header_tab_fails : (bytes : List ℕ) (shape : Shape) (e : TabErr) → e ≢ out_of_memory → HeaderFails bytes shape e → first_failure bytes 0 (items bytes shape) ≡ Some e
header_tab_fails bytes shape e other f =
    let front = front_items shape.form (length shape.airs) in
    let counts = count_items (is_machine shape.form) 0 (promised_airs bytes shape) in
    let places = places_items (length (promised_airs bytes shape)) (promised_places bytes shape) in
    ap (first_failure bytes 0) (sym (append_assoc front counts places)) ∙ header_fail bytes shape e f other places

-- ---- a header that isn't whole

pub same_err : (a b : TabErr) → Some a ≡ Some b → a ≡ b
same_err a b e = cc

no_error : (e : TabErr) → None ≡ Some e → ⊥
no_error e h = cc

pub two : (b : Bool) (d e : TabErr) → d.kind ≢ Short → cond b None (Some d) ≡ Some e → e.kind ≢ Short
two true d e h w = absurd (no_error e w)
two false d e h w = λ k. h (ap (λ (x : TabErr). x.kind) (same_err d e w) ∙ k)

pub exact_whole : (n : ℕ) (kind : TabKind) (back : ℕ) → kind ≢ Short → IsWholeItem (exactly n kind back)
exact_whole n kind back h = record { not_short = λ at v e w. two (eqb v n) (failure kind (at - back)) e h w }

profile_whole : IsWholeItem profile_item
profile_whole = record { not_short = λ at v e w. two (eqb v 1 || eqb v 2) (failure BadProfile at) e (λ q. cc) w }

three : (a b c d : Bool) (x y z e : TabErr) → x.kind ≢ Short → y.kind ≢ Short → z.kind ≢ Short → cond a (cond b None (Some x)) (cond c (Some y) (cond d None (Some z))) ≡ Some e → e.kind ≢ Short
three true b c d x y z e h k l w = two b x e h w
three false b true d x y z e h k l w = λ q. k (ap (λ (t : TabErr). t.kind) (same_err y e w) ∙ q)
three false b false d x y z e h k l w = two d z e l w

count_whole : (machine : Bool) (a : ℕ) (form : AirShape) → IsWholeItem (count_item machine a form)
count_whole machine a form = record { not_short = λ at v e w. three (is_out machine a) (eqb v 1) (is_main machine a && eqb v 0) (leb v form.most) (failure NotOneOut at) (failure NoMain at) (failure TooMany at) e (λ q. cc) (λ q. cc) (λ q. cc) w }

counts_whole : (machine : Bool) (a : ℕ) (fs : List AirShape) → AreWholeItems (count_items machine a fs)
counts_whole machine a [] = tt
counts_whole machine a (f ∷ fs) = (count_whole machine a f, counts_whole machine (suc a) fs)

pub join : (xs ys : List Item) → AreWholeItems xs → AreWholeItems ys → AreWholeItems (xs ++ ys)
join [] ys h k = k
join (x ∷ xs) ys h k = (h.0, join xs ys h.1 k)

versions_whole : (form : Form) → AreWholeItems (version_items form)
versions_whole Plain = (exact_whole 1 BadVersion 0 (λ q. cc), tt)
versions_whole One = (exact_whole 1 BadVersion 0 (λ q. cc), tt)
versions_whole Two = (exact_whole 2 BadVersion 0 (λ q. cc), (profile_whole, tt))

pub header_whole : (bytes : List ℕ) (shape : Shape) → AreWholeItems (header_items bytes shape)
header_whole bytes shape =
    let airs = exactly (length shape.airs) BadAir 0 in
    join (front_items shape.form (length shape.airs)) (count_items (is_machine shape.form) 0 (promised_airs bytes shape))
    (exact_whole 0x5457_4b5a BadMagic 0 (λ q. cc), join (version_items shape.form) (airs ∷ []) (versions_whole shape.form) (exact_whole (length shape.airs) BadAir 0 (λ q. cc), tt))
    (counts_whole (is_machine shape.form) 0 (promised_airs bytes shape))

pub none_whole : (bytes : List ℕ) (at : ℕ) (ps : List Place) → length bytes < at → whole_from bytes at ps ≡ []
none_whole bytes at [] lt = refl
none_whole bytes at (q ∷ qs) lt = whole_none bytes at q qs (omega (arith, lt))

pub header_short : (bytes : List ℕ) (shape : Shape) (e : TabErr) → e.kind ≡ Short → HeaderFails bytes shape e → InHeader bytes shape bytes
header_short bytes shape e kind f =
    let other : e ≢ out_of_memory = λ same. short_memory (sym kind ∙ ap (λ (x : TabErr). x.kind) same) in
    let whole : first_failure bytes 0 (header_items bytes shape) ≡ Some e = ap (first_failure bytes 0) (sym (append-nil (header_items bytes shape))) ∙ header_fail bytes shape e f other [] in
    let ends = short_where bytes 0 (header_items bytes shape) e (header_whole bytes shape) whole kind in
    let lt : length bytes < header_end bytes shape = omega (arith, ends.1, header_len bytes shape) in
    record {
      all = refl;
      short = header_tab_fails bytes shape e other f ∙ ap (λ (x : TabErr). Some x) ends.0;
      none = none_whole bytes (header_end bytes shape) (promised_places bytes shape) lt;
    }

-- ---- the profile

abbrev pub Told : Option Profile → List ℕ → Form → Type 0
Told profile bytes form = MatchOption profile (ProfileFails bytes form) (λ p. (p ≡ promised_profile bytes form) × Pass bytes 0 (profile_items form) (profile_end form))

told : (profile : Option Profile) (bytes : List ℕ) (form : Form) → Told profile bytes form → MatchOption profile (ProfileHasCome bytes form → ⊥) (λ p. ProfileHasCome bytes form × (p ≡ promised_profile bytes form))
told None bytes form f = Fail-AllPass bytes 0 (profile_items form) f.failure (other_than f.failure f.item) f.fail
told (Some p) bytes form t = (Pass-AllPass bytes 0 (profile_end form) (profile_items form) t.1.rest, t.0)

told_on : (p : Profile) (bytes more : List ℕ) (form : Form) → Told (Some p) bytes form → ProfileHasCome (bytes ++ more) form × (p ≡ promised_profile (bytes ++ more) form)
told_on p bytes more form t = (AllPass-on bytes more 0 (profile_items form) (Pass-AllPass bytes 0 (profile_end form) (profile_items form) t.1.rest), t.0 ∙ sym (profile_stays bytes more form t.1.whole))

pub front_has_profile : (bytes : List ℕ) (form : Form) (airs : ℕ) → AllPass bytes 0 (front_items form airs) → ProfileHasCome bytes form
front_has_profile bytes Plain airs h = tt
front_has_profile bytes One airs h = tt
front_has_profile bytes Two airs h = AllPass-front bytes 0 (profile_items Two) (exactly airs BadAir 0 ∷ []) h

told_passed : (profile : Option Profile) (bytes more : List ℕ) (form : Form) → Told profile bytes form → ProfileHasCome bytes form → MatchOption profile (ProfileHasCome (bytes ++ more) form → ⊥) (λ p. ProfileHasCome (bytes ++ more) form × (p ≡ promised_profile (bytes ++ more) form))
told_passed None bytes more form f come = absurd (told None bytes form f come)
told_passed (Some p) bytes more form t come = told_on p bytes more form t

same_fail : (bytes : List ℕ) (form : Form) (airs : ℕ) (d e : TabErr) → d ≢ out_of_memory → e ≢ out_of_memory → Fail bytes 0 (profile_items form) d → Fail bytes 0 (front_items form airs) e → d ≡ e
same_fail bytes Plain airs d e p q f g = absurd (never_constant bytes 0 d (λ more. f p more))
same_fail bytes One airs d e p q f g = absurd (never_constant bytes 0 d (λ more. f p more))
same_fail bytes Two airs d e p q f g = same_err d e (sym (Fail-then bytes 0 (profile_items Two) (exactly airs BadAir 0 ∷ []) d f p []) ∙ g q [])

told_failed : (profile : Option Profile) (bytes more : List ℕ) (shape : Shape) (e : TabErr) → e ≢ out_of_memory → e.kind ≢ Short → HeaderFails bytes shape e → Told profile bytes shape.form
    → MatchOption profile (ProfileHasCome (bytes ++ more) shape.form → ⊥) (λ p. ProfileHasCome (bytes ++ more) shape.form × (p ≡ promised_profile (bytes ++ more) shape.form))
told_failed (Some p) bytes more shape e other kind h t = told_on p bytes more shape.form t
told_failed None bytes more shape e other kind (inl g) f =
    let d = f.failure in
    let same = same_fail bytes shape.form (length shape.airs) d e (other_than d f.item) other f.fail g in
    let real : Fail bytes 0 (profile_items shape.form) e = subst (λ (x : TabErr). Fail bytes 0 (profile_items shape.form) x) same f.fail in
    Fail-AllPass (bytes ++ more) 0 (profile_items shape.form) e other (Fail-on bytes more 0 (profile_items shape.form) e other kind real)
told_failed None bytes more shape e other kind (inr g) f =
    absurd (told None bytes shape.form f (front_has_profile bytes shape.form (length shape.airs) (Pass-AllPass bytes 0 (front_end shape.form) (front_items shape.form (length shape.airs)) g.pass.rest)))

-- ---- the three ends of a header

pub goes_on_short : (profile : Option Profile) (shape : Shape) (bytes : List ℕ) (e : TabErr) → AreBytes bytes → Told profile bytes shape.form → HeaderFails bytes shape e → e.kind ≡ Short → GoesOn profile None bytes shape bytes
goes_on_short profile shape bytes e are t f kind =
    let other : e ≢ out_of_memory = λ same. short_memory (sym kind ∙ ap (λ (x : TabErr). x.kind) same) in
    record {
      bytes = are;
      knows = record { profile_is = told profile bytes shape.form t; counts_are = Fail-AllPass bytes 0 (header_items bytes shape) e other (header_fail bytes shape e f) };
      state = header_short bytes shape e kind f;
    }

pub fails_in_header : (profile : Option Profile) (shape : Shape) (bytes : List ℕ) (e : TabErr) → Told profile bytes shape.form → HeaderFails bytes shape e → e ≢ out_of_memory → e.kind ≢ Short → HasFailed profile None shape bytes e
fails_in_header profile shape bytes e t f other kind =
    let each = λ (more : List ℕ). header_fails_on bytes more shape e other kind f in
    let fails = λ (more : List ℕ). header_tab_fails (bytes ++ more) shape e other (each more) in
    record {
      kind = kind;
      item = λ same. never_memory (bytes ++ []) shape e.at (subst (λ (k : TabKind). TabFails (bytes ++ []) shape k e.at) same (fails []));
      knows = λ more. record {
        profile_is = told_failed profile bytes more shape e other kind f t;
        counts_are = Fail-AllPass (bytes ++ more) 0 (header_items (bytes ++ more) shape) e other (header_fail (bytes ++ more) shape e (each more));
      };
      fails = fails;
    }

knows_on : (profile : Option Profile) (b : Body) (shape : Shape) (bytes more : List ℕ) (counts : List ℕ) → Told profile bytes shape.form → Pass bytes 0 (header_items bytes shape) (header_end bytes shape) → counts ≡ promised_counts bytes shape
    → b.coming.counts.items ≡ counts → Knows profile (Some b) shape (bytes ++ more)
knows_on profile b shape bytes more counts t pass is same =
    let all = counts_come bytes shape pass in
    let front = AllPass-front bytes 0 (front_items shape.form (length shape.airs)) (count_items (is_machine shape.form) 0 (promised_airs bytes shape)) all in
    record {
      profile_is = told_passed profile bytes more shape.form t (front_has_profile bytes shape.form (length shape.airs) front);
      counts_are = (counts_come (bytes ++ more) shape (header_passes bytes more shape pass), same ∙ is ∙ sym (counts_stay bytes more shape pass.whole));
    }

-- the body of a header as that of the file
moved_body : (bytes more : List ℕ) (shape : Shape) (airs : List AirShape) (counts : List ℕ) (end : ℕ) (P : ℕ → ℕ → List Place → Type 0) → airs ≡ promised_airs bytes shape → counts ≡ promised_counts bytes shape → end ≡ header_end bytes shape
    → header_end bytes shape ≤ length bytes → P (length airs) end (places_from 0 airs counts) → P (length (promised_airs (bytes ++ more) shape)) (header_end (bytes ++ more) shape) (promised_places (bytes ++ more) shape)
moved_body bytes more shape airs counts end P a c e le h =
    let front : front_end shape.form ≤ length bytes = omega (arith, le) in
    let a2 = a ∙ sym (airs_stay bytes more shape front) in
    let c2 = c ∙ sym (counts_stay bytes more shape le) in
    let e2 = e ∙ sym (end_stays bytes more shape front) in
    subst (λ (fs : List AirShape). P (length fs) (header_end (bytes ++ more) shape) (places_from 0 fs (promised_counts (bytes ++ more) shape))) a2
    (subst (λ (cs : List ℕ). P (length airs) (header_end (bytes ++ more) shape) (places_from 0 airs cs)) c2 (subst (λ (n : ℕ). P (length airs) n (places_from 0 airs counts)) e2 h))

pub opens_feeds : (profile : Option Profile) (body : Option Body) (header : List ℕ) (shape : Shape) (bytes : List ℕ) (airs : List AirShape) (counts : List ℕ) (end : ℕ) (tables : List Table) (result : Result (Unit {0}) TabErr)
    → AreBytes bytes → Told profile bytes shape.form → airs ≡ promised_airs bytes shape → counts ≡ promised_counts bytes shape → end ≡ header_end bytes shape → Pass bytes 0 (header_items bytes shape) end
    → Opens airs counts end bytes body tables result
    → MatchResult result (λ _. GoesOn profile body header shape bytes × (tables ≡ whole_tables bytes shape)) (λ e. e ≢ out_of_memory → HasFailed profile body shape bytes e)
opens_feeds profile None header shape bytes airs counts end tables (Ok u) are t a c e pass o = absurd o
opens_feeds profile (Some b) header shape bytes airs counts end tables (Ok u) are t a c e pass o =
    let passed : Pass bytes 0 (header_items bytes shape) (header_end bytes shape) = subst (λ (n : ℕ). Pass bytes 0 (header_items bytes shape) n) e pass in
    let each : (more : List ℕ) → InBody profile b shape (bytes ++ more) tables more = λ more. record {
      knows = knows_on profile b shape bytes more counts t passed c o.counts_are;
      header = header_passes bytes more shape passed;
      body = moved_body bytes more shape airs counts end (λ n at ps. BodyAt (bytes ++ more) n at ps tables more b) a c e passed.whole (o.at more);
    } in
    let here : InBody profile b shape bytes tables [] = subst (λ (xs : List ℕ). InBody profile b shape xs tables []) (append-nil bytes) (each []) in
    let at = now bytes (length (promised_airs bytes shape)) (header_end bytes shape) (promised_places bytes shape) tables b o.waits here.body in (
      record {
        bytes = are;
        knows = here.knows;
        state = record { waits = o.waits; each = λ more. subst (λ (ts : List Table). InBody profile b shape (bytes ++ more) ts more) (sym at.whole) (each more) };
      },
      sym at.whole,
    )
opens_feeds profile None header shape bytes airs counts end tables (Err d) are t a c e pass o = λ other. absurd ((o other).counts_are)
opens_feeds profile (Some b) header shape bytes airs counts end tables (Err d) are t a c e pass o = λ other.
    let f = o other in
    let passed : Pass bytes 0 (header_items bytes shape) (header_end bytes shape) = subst (λ (n : ℕ). Pass bytes 0 (header_items bytes shape) n) e pass in
    let each : (more : List ℕ) → BodyFails (bytes ++ more) (length (promised_airs (bytes ++ more) shape)) (header_end (bytes ++ more) shape) (promised_places (bytes ++ more) shape) d = λ more.
    moved_body bytes more shape airs counts end (λ n at ps. BodyFails (bytes ++ more) n at ps d) a c e passed.whole (f.fails more) in
    let fails : (more : List ℕ) → TabFails (bytes ++ more) shape d.kind d.at = λ more.
    header_then (bytes ++ more) shape (header_end (bytes ++ more) shape) (header_passes bytes more shape passed) ∙ (each more).fail other in
    record {
      kind = (each []).kind;
      item = λ same. never_memory (bytes ++ []) shape d.at (subst (λ (k : TabKind). TabFails (bytes ++ []) shape k d.at) same (fails []));
      knows = λ more. knows_on profile b shape bytes more counts t passed c f.counts_are;
      fails = fails;
    }

-- ---- the instances after a header

begins : (airs : List AirShape) (counts : List ℕ) (end : ℕ) (bytes piece : List ℕ) (first : Body) (none : List Table) → end ≤ length bytes → piece ≡ drop end bytes → none ≡ []
    → ((file rest : List ℕ) → end ≤ length file → drop end file ≡ rest → BodyAt file (length airs) end (places_from 0 airs counts) [] rest first)
    → (more : List ℕ) → BodyAt (bytes ++ more) (length airs) end (places_from 0 airs counts) ([] ++ none) (piece ++ more) first
begins airs counts end bytes piece first none le is empty stands more =
    let longer : end ≤ length (bytes ++ more) = omega (arith, le, length-append bytes more) in
    subst (λ (ts : List Table). BodyAt (bytes ++ more) (length airs) end (places_from 0 airs counts) ts (piece ++ more) first) (sym empty)
    (stands (bytes ++ more) (piece ++ more) longer (drop-append-le end bytes more le ∙ ap (λ (xs : List ℕ). xs ++ more) (sym is)))

pub opens : (airs : List AirShape) (counts : List ℕ) (end : ℕ) (bytes piece : List ℕ) (first b : Body) (none tables : List Table) (result : Result (Unit {0}) TabErr) → end ≤ length bytes → piece ≡ drop end bytes → none ≡ []
    → first.coming.counts.items ≡ counts → b.coming.counts.items ≡ first.coming.counts.items → IfOk result (λ _. b.going ≡ true → Waits b.partial)
    → ((file rest : List ℕ) → end ≤ length file → drop end file ≡ rest → BodyAt file (length airs) end (places_from 0 airs counts) [] rest first)
    → ((file : List ℕ) (n start : ℕ) (ps : List Place) (before : List Table) (more : List ℕ) → BodyAt file n start ps (before ++ none) (piece ++ more) first → MatchResult result (λ _. BodyAt file n start ps (before ++ tables) more b) (λ e. BodyFails file n start ps e))
    → Opens airs counts end bytes (Some b) tables result
opens airs counts end bytes piece first b none tables (Ok u) le is empty told_counts same waits stands takes = record {
  counts_are = same ∙ told_counts;
  waits = waits;
  at = λ more. takes (bytes ++ more) (length airs) end (places_from 0 airs counts) [] more (begins airs counts end bytes piece first none le is empty stands more);
}
opens airs counts end bytes piece first b none tables (Err e) le is empty told_counts same waits stands takes = λ other. record {
  counts_are = same ∙ told_counts;
  fails = λ more. takes (bytes ++ more) (length airs) end (places_from 0 airs counts) [] more (begins airs counts end bytes piece first none le is empty stands more);
}

-- ---- a feed before the header is whole

pub header_goes_on : (before profile : Option Profile) (header : List ℕ) (shape : Shape) (fed piece kept bytes : List ℕ) (tables : List Table) (e : TabErr) → GoesOn before None header shape fed → AreBytes piece → kept ≡ header ++ piece → bytes ≡ kept
    → Told profile bytes shape.form → HeaderFails bytes shape e → e.kind ≡ Short → tables ≡ [] → GoesOn profile None kept shape (fed ++ piece) × (whole_tables fed shape ++ tables ≡ whole_tables (fed ++ piece) shape)
header_goes_on before profile header shape fed piece kept bytes tables e s are k b t f kind empty =
    let all : kept ≡ fed ++ piece = k ∙ ap (λ (xs : List ℕ). xs ++ piece) s.state.all in
    let fine : AreBytes kept = subst AreBytes (sym all) (both_bytes fed piece s.bytes are) in
    let told_kept = subst (λ (xs : List ℕ). Told profile xs shape.form) b t in
    let fails_kept = subst (λ (xs : List ℕ). HeaderFails xs shape e) b f in
    let here : GoesOn profile None kept shape kept = goes_on_short profile shape kept e fine told_kept fails_kept kind in (
      subst (λ (xs : List ℕ). GoesOn profile None kept shape xs) all here,
      ap (λ (ts : List Table). ts ++ tables) s.state.none ∙ empty ∙ sym here.state.none ∙ ap (λ (xs : List ℕ). whole_tables xs shape) all,
    )

pub header_has_failed : (before profile : Option Profile) (header : List ℕ) (shape : Shape) (fed piece kept bytes : List ℕ) (e : TabErr) → GoesOn before None header shape fed → kept ≡ header ++ piece → bytes ≡ kept
    → Told profile bytes shape.form → HeaderFails bytes shape e → e.kind ≢ Short → e ≢ out_of_memory → HasFailed profile None shape (fed ++ piece) e
header_has_failed before profile header shape fed piece kept bytes e s k b t f kind other =
    let all : bytes ≡ fed ++ piece = b ∙ k ∙ ap (λ (xs : List ℕ). xs ++ piece) s.state.all in
    subst (λ (xs : List ℕ). HasFailed profile None shape xs e) all (fails_in_header profile shape bytes e t f other kind)

with_none : (result : Result (Unit {0}) TabErr) (profile : Option Profile) (body : Option Body) (after : List ℕ) (shape : Shape) (bytes fed : List ℕ) (tables : List Table) → whole_tables fed shape ++ tables ≡ tables
    → MatchResult result (λ _. GoesOn profile body after shape bytes × (tables ≡ whole_tables bytes shape)) (λ e. e ≢ out_of_memory → HasFailed profile body shape bytes e)
    → MatchResult result (λ _. GoesOn profile body after shape bytes × (whole_tables fed shape ++ tables ≡ whole_tables bytes shape)) (λ e. e ≢ out_of_memory → HasFailed profile body shape bytes e)
with_none (Ok u) profile body after shape bytes fed tables none h = (h.0, none ∙ h.1)
with_none (Err e) profile body after shape bytes fed tables none h = h

pub header_opens : (before profile : Option Profile) (body : Option Body) (header after : List ℕ) (shape : Shape) (fed piece kept bytes : List ℕ) (airs : List AirShape) (counts : List ℕ) (end : ℕ) (tables : List Table) (result : Result (Unit {0}) TabErr)
    → GoesOn before None header shape fed → AreBytes piece → kept ≡ header ++ piece → bytes ≡ kept → Told profile bytes shape.form → airs ≡ promised_airs bytes shape → counts ≡ promised_counts bytes shape → end ≡ header_end bytes shape
    → Pass bytes 0 (header_items bytes shape) end → Opens airs counts end kept body tables result
    → MatchResult result (λ _. GoesOn profile body after shape (fed ++ piece) × (whole_tables fed shape ++ tables ≡ whole_tables (fed ++ piece) shape)) (λ e. e ≢ out_of_memory → HasFailed profile body shape (fed ++ piece) e)
header_opens before profile body header after shape fed piece kept bytes airs counts end tables result s are k b t a c e pass o =
    let all : bytes ≡ fed ++ piece = b ∙ k ∙ ap (λ (xs : List ℕ). xs ++ piece) s.state.all in
    let fine : AreBytes bytes = subst AreBytes (sym all) (both_bytes fed piece s.bytes are) in
    let opened = subst (λ (xs : List ℕ). Opens airs counts end xs body tables result) (sym b) o in
    let fed_here = opens_feeds profile body after shape bytes airs counts end tables result fine t a c e pass opened in
    let none : whole_tables fed shape ++ tables ≡ tables = ap (λ (ts : List Table). ts ++ tables) s.state.none in
    subst (λ (xs : List ℕ). MatchResult result (λ _. GoesOn profile body after shape xs × (whole_tables fed shape ++ tables ≡ whole_tables xs shape)) (λ d. d ≢ out_of_memory → HasFailed profile body shape xs d)) all
    (with_none result profile body after shape bytes fed tables none fed_here)

-- ---- a reader of which nothing has come

pub nothing : (profile : Option Profile) (shape : Shape) (bytes : List ℕ) → bytes ≡ [] → Told profile bytes shape.form → GoesOn profile None [] shape []
nothing profile shape bytes is t =
    let fails : HeaderFails [] shape (failure Short 0) = inl (λ _ more. refl) in
    goes_on_short profile shape [] (failure Short 0) (λ i. omega arith) (subst (λ (xs : List ℕ). Told profile xs shape.form) is t) fails refl

begins_later : (form : Form) (n : ℕ) → 0 < front_end form + 4 * n
begins_later Plain n = omega arith
begins_later One n = omega arith
begins_later Two n = omega arith

pub no_tables : (shape : Shape) → whole_tables [] shape ≡ []
no_tables shape = none_whole [] (header_end [] shape) (promised_places [] shape) (begins_later shape.form (length (promised_airs [] shape)))

abbrev shape_of : List AirShape → Form → Shape
shape_of airs form = record { airs = airs; form = form }

pub same_shape : (airs : List AirShape) (shape : Shape) → airs ≡ shape.airs → shape_of airs shape.form ≡ shape
same_shape airs shape e = ap (λ (fs : List AirShape). shape_of fs shape.form) e
