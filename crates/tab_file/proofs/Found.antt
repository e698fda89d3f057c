-- A file in which no item fails is the text of the tables that it reads as.
use Rattle.std.proofs.Common.{◌≡◌, ℕ, ◌+◌, ◌*◌, ◌<◌, ◌≤◌, ◌^◌, Bool, true, false, cond, ltb, eqb, List, [], ◌∷◌, ◌++◌, length, None, refl, sym, ap, subst, ◌∙◌, append_assoc}
use Rattle.std.specs.Prelude.{◌||◌, codes}
use Rattle.std.specs.Int.{w32}
use Rattle.std.specs.List.{flat_map}
use Rattle.std.proofs.lemmas.Bool.{ltb-false, eqb-true}
use Rattle.std.proofs.lemmas.List.{append-nil, drop_all}
use Rattle.gold.specs.declared.shapes.AirShape.{AirShape}
use Rattle.gold.specs.declared.shapes.Form.{Form}
use Rattle.gold.specs.declared.shapes.Form.TheVariants.{Plain, One, Two}
use Rattle.gold.specs.declared.shapes.Profile.{Profile}
use Rattle.gold.specs.declared.shapes.Profile.TheVariants.{Small, Wide}
use Rattle.gold.specs.declared.shapes.Shape.{Shape}
use Rattle.tab_file.specs.declared.fault.TabKind.TheVariants.{BadMagic, BadVersion, BadProfile, BadAir, Trailing}
use Rattle.tab_file.specs.Format.{number, profile_number, version, header, rows_at, instances_text}
use Rattle.gold.specs.Shapes.{Place, IsProfileOf, is_machine, in_profile, places_from, counts_from, counts_of, AreCounts, Fill}
use Rattle.tab_file.specs.Items.{Item, failure, number_at, first_failure, exactly, profile_item, count_items, places_items}
use Rattle.tab_file.specs.Reading.{version_items, version_end, front_end, profile_of, promised_profile, promised_airs, promised_counts, items, TabReads}
use Rattle.tab_file.specs.Steps.{places_len, promised}
use Rattle.tab_file.proofs.Going.{length-numbers_from}
use Rattle.tab_file.proofs.Stands.{Stands, IsBytes, wide32, Stands-number}
use Rattle.tab_file.proofs.Takes.{Text, Text-then, item_taken, exactly_taken, counts_taken, tables_taken, passed, not_short}
use Rattle.tab_file.proofs.Counts.{counts_are, known}

-- what ends where the bytes end is all of them
pub all_stands : (bytes text : List ℕ) (end : ℕ) → Stands bytes 0 text end → length bytes ≤ end → bytes ≡ text
all_stands bytes text end s le = s.split ∙ ap (λ (xs : List ℕ). text ++ xs) (drop_all end bytes le) ∙ append-nil text

ended : (bytes : List ℕ) (end : ℕ) → first_failure bytes end [] ≡ None → length bytes ≤ end
ended bytes end h = ltb-false end (length bytes) (not_short (ltb end (length bytes)) (failure Trailing end) None h).0

-- ---- the version and the profile

profile_back : (v : ℕ) (b c : Bool) → eqb v 1 ≡ b → eqb v 2 ≡ c → (b || c) ≡ true → profile_number (cond c Wide Small) ≡ v
profile_back v b true e f h = sym (eqb-true v 2 f)
profile_back v true false e f h = sym (eqb-true v 1 e)
profile_back v false false e f h = absurd cc

profile_taken : (bytes : List ℕ) (at : ℕ) (more : List Item) → IsBytes bytes → first_failure bytes at (profile_item ∷ more) ≡ None → Text bytes at (number (profile_number (profile_of (number_at w32 bytes at)))) (at + 4) more
profile_taken bytes at more fits h =
    let t = item_taken bytes at profile_item more h in
    let v = number_at w32 bytes at in
    let is : profile_number (profile_of (number_at w32 bytes at)) ≡ number_at w32 bytes at = profile_back v (eqb v 1) (eqb v 2) refl refl (passed (eqb v 1 || eqb v 2) (failure BadProfile at) t.right) in
    record { stands = subst (λ (u : ℕ). Stands bytes at (number u) (at + 4)) (sym is) (Stands-number w32 (2 ^ 32) wide32 bytes at fits t.whole); rest = t.rest }

version_taken : (bytes : List ℕ) (form : Form) (more : List Item) → IsBytes bytes → first_failure bytes 4 (version_items form ++ more) ≡ None → Text bytes 4 (version form (promised_profile bytes form)) (version_end form) more
version_taken bytes Plain more fits h = (exactly_taken bytes 4 1 BadVersion 0 more fits h).0
version_taken bytes One more fits h = (exactly_taken bytes 4 1 BadVersion 0 more fits h).0
version_taken bytes Two more fits h =
    let t0 = exactly_taken bytes 4 2 BadVersion 0 (profile_item ∷ more) fits h in
    let t1 = profile_taken bytes 8 more fits t0.0.rest in
    Text-then bytes 4 8 12 (number 2) (number (profile_number (profile_of (number_at w32 bytes 8)))) (profile_item ∷ more) more t0.0 t1

promised_fits : (bytes : List ℕ) (form : Form) → IsProfileOf form (promised_profile bytes form)
promised_fits bytes Plain = refl
promised_fits bytes One = refl
promised_fits bytes Two = tt

-- ---- the header

-- the header's numbers, and where they end
pub record Header (bytes : List ℕ) (shape : Shape) (more : List Item) : Type 0 where
  pub text : Text bytes 0 (header shape.form (promised_profile bytes shape.form) (length shape.airs) (promised_counts bytes shape)) (front_end shape.form + 4 * length (promised_airs bytes shape)) more
  pub bits : length shape.airs < 2 ^ 32
  pub counts : AreCounts (is_machine shape.form) 0 (promised_airs bytes shape) (promised_counts bytes shape)

abbrev last : List ℕ → Shape → List Item
last bytes shape = places_items (length (promised_airs bytes shape)) (places_from 0 (promised_airs bytes shape) (promised_counts bytes shape))

header_taken : (bytes : List ℕ) (shape : Shape) → IsBytes bytes → first_failure bytes 0 (items bytes shape) ≡ None → Header bytes shape (last bytes shape)
header_taken bytes shape fits h =
    let form = shape.form in
    let fs = promised_airs bytes shape in
    let airs = length shape.airs in
    let counted : List Item = count_items (is_machine shape.form) 0 (promised_airs bytes shape) ++ last bytes shape in
    let second : List Item = exactly airs BadAir 0 ∷ counted in
    let first : List Item = version_items shape.form ++ second in
    let grouped : first_failure bytes 0 (exactly 0x5457_4b5a BadMagic 0 ∷ first) ≡ None =
    ap (λ (is : List Item). first_failure bytes 0 (exactly 0x5457_4b5a BadMagic 0 ∷ is)) (sym (append_assoc (version_items shape.form) (exactly airs BadAir 0 ∷ []) counted)) ∙ h in
    let t0 = exactly_taken bytes 0 0x5457_4b5a BadMagic 0 first fits grouped in
    let t1 = version_taken bytes form second fits t0.0.rest in
    let t2 = exactly_taken bytes (version_end form) airs BadAir 0 counted fits t1.rest in
    let t3 = counts_taken bytes (front_end form) (is_machine form) 0 fs (last bytes shape) fits t2.0.stands.whole t2.0.rest in
    let cs = flat_map number (promised_counts bytes shape) in
    let v = version form (promised_profile bytes form) in
    let two = Text-then bytes 0 4 (version_end form) (codes "ZKWT") v first second t0.0 t1 in
    let three = Text-then bytes 0 (version_end form) (front_end form) (codes "ZKWT" ++ v) (number airs) second counted two t2.0 in
    record {
      text = Text-then bytes 0 (front_end form) (front_end form + 4 * length fs) (codes "ZKWT" ++ v ++ number airs) cs counted (last bytes shape) three t3.0;
      bits = t2.1;
      counts = t3.1;
    }

-- ---- the file

pub length_in : (profile : Profile) (airs : List AirShape) → length (in_profile profile airs) ≡ length airs
length_in Small airs = refl
length_in Wide [] = refl
length_in Wide (f ∷ fs) = refl

pub file_taken : (bytes : List ℕ) (shape : Shape) → IsBytes bytes → first_failure bytes 0 (items bytes shape) ≡ None → TabReads bytes shape (promised bytes shape)
file_taken bytes shape fits h =
    let fs = promised_airs bytes shape in
    let cs = promised_counts bytes shape in
    let profile = promised_profile bytes shape.form in
    let start = front_end shape.form + 4 * length fs in
    let places : List Place = places_from 0 fs cs in
    let head = header_taken bytes shape fits h in
    let body = tables_taken bytes start (length fs) (rows_at fs) places [] fits head.text.stands.whole (known fs cs) (ap (first_failure bytes start) (append-nil (last bytes shape)) ∙ head.text.rest) in
    let tables = (promised bytes shape).tables in
    let end = start + places_len places in
    let front = header shape.form profile (length shape.airs) cs in
    let all = (Text-then bytes 0 start end front (instances_text fs tables) (last bytes shape) [] head.text body.0).stands in
    let spelled = all_stands bytes (front ++ instances_text fs tables) end all (ended bytes end body.0.rest) in
    let counts : counts_of shape (promised bytes shape) ≡ promised_counts bytes shape =
    ap (λ (n : ℕ). counts_from 0 n tables) (sym (length_in profile shape.airs)) ∙ counts_are fs cs tables (length-numbers_from w32 bytes (front_end shape.form) (length fs)) body.1 in
    record {
      shaped = record {
        profile = promised_fits bytes shape.form;
        bits = head.bits;
        counted = subst (λ (ds : List ℕ). AreCounts (is_machine shape.form) 0 fs ds) (sym counts) head.counts;
        filled = subst (λ (ds : List ℕ). Fill (places_from 0 fs ds) tables) (sym counts) body.1;
      };
      spelled = spelled ∙ ap (λ (ds : List ℕ). header shape.form profile (length shape.airs) ds ++ instances_text fs tables) (sym counts);
    }
