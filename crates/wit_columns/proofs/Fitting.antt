-- Tables that have the shape of a text.
use Rattle.std.proofs.Common.{◌≡◌, ℕ, zero, suc, ◌+◌, ◌*◌, ◌^◌, ◌<◌, ◌≤◌, Bool, false, List, [], ◌∷◌, length, map, refl, sym, ap, ◌∙◌, subst, arith}
use Rattle.std.specs.Prelude.{slice_get}
use Rattle.std.specs.Option.{option_map_or}
use Rattle.std.proofs.Math.Nat.{mul-le-mul_right}
use Rattle.std.proofs.lemmas.List.{length-map}
use Rattle.gold.specs.declared.instances.Table.{Table}
use Rattle.gold.specs.declared.shapes.AirShape.{AirShape}
use Rattle.gold.specs.declared.instances.Witness.{Witness}
use Rattle.gold.specs.declared.shapes.Form.{Form}
use Rattle.gold.specs.declared.shapes.Form.TheVariants.{Plain, One, Two}
use Rattle.gold.specs.declared.shapes.Profile.{Profile}
use Rattle.gold.specs.declared.shapes.Profile.TheVariants.{Small}
use Rattle.gold.specs.declared.shapes.Shape.{Shape}
use Rattle.gold.specs.Shapes.{AreCounts, IsCount, IsProfileOf, is_machine, in_profile, airs_of, counts_from, HaveShape}
use Rattle.pil_ast.specs.Term.{Namespace, space_at, width}
use Rattle.pil_ast.specs.Columns.{Fits}
use Rattle.pil_ast.specs.Shape.{air_shape}
use Rattle.pil_ast.specs.Sound.{IsSound}
use Rattle.wit_columns.specs.Values.{instances_of, width_of, rows_of, values_of}

-- the most instances that an air may have
abbrev most_of : List AirShape → ℕ → ℕ
most_of airs s = option_map_or (λ f. f.most) (slice_get airs s) 0

-- an air has no more instances than its shape allows
within : (machine : Bool) (fs : List AirShape) (tables : List Table) (a s b : ℕ) → machine ≡ false → b ≡ a + s → s < length fs
    → AreCounts machine a fs (counts_from a (length fs) tables) → instances_of tables b ≤ most_of fs s
within machine [] tables a s b flag is lt h = absurd (omega (arith, lt))
within machine (f ∷ fs) tables a zero b flag is lt h =
    let e : b ≡ a = omega (arith, is) in
    let counted : IsCount false a f (instances_of tables a) = subst (λ (m : Bool). IsCount m a f (instances_of tables a)) flag h.0 in
    subst (λ (n : ℕ). instances_of tables n ≤ f.most) (sym e) counted.most
within machine (f ∷ fs) tables a (suc s) b flag is lt h = within machine fs tables (suc a) s b flag (omega (arith, is)) (omega (arith, lt)) h.1

width_same : (ns : List Namespace) (s : ℕ) → s < length ns → width_of (map air_shape ns) s ≡ width (space_at ns s).items
width_same [] s lt = absurd (omega (arith, lt))
width_same (n ∷ ns) zero lt = refl
width_same (n ∷ ns) (suc s) lt = width_same ns s (omega (arith, lt))

rows_same : (ns : List Namespace) (s : ℕ) → s < length ns → rows_of (map air_shape ns) s ≡ (space_at ns s).rows
rows_same [] s lt = absurd (omega (arith, lt))
rows_same (n ∷ ns) zero lt = refl
rows_same (n ∷ ns) (suc s) lt = rows_same ns s (omega (arith, lt))

most_same : (ns : List Namespace) (s : ℕ) → s < length ns → most_of (map air_shape ns) s ≡ 2 ^ 20
most_same [] s lt = absurd (omega (arith, lt))
most_same (n ∷ ns) zero lt = refl
most_same (n ∷ ns) (suc s) lt = most_same ns s (omega (arith, lt))

few_in_all : (count rows : ℕ) → count ≤ 2 ^ 20 → rows ≤ 2 ^ 24 → count * rows ≤ 2 ^ 44
few_in_all count rows few low =
    let le : count * rows ≤ 2 ^ 20 * rows = mul-le-mul_right rows few in
    omega (arith, le, low)

few_more : (count : ℕ) → count ≤ 2 ^ 20 → count ≤ 2 ^ 22
few_more count few = omega (arith, few)

few : (ns : List Namespace) (machine : Bool) (tables : List Table) (s : ℕ) → machine ≡ false → s < length ns
    → AreCounts machine 0 (map air_shape ns) (counts_from 0 (length (map air_shape ns)) tables) → instances_of tables s ≤ 2 ^ 20
few ns machine tables s flag lt h =
    let inside : s < length (map air_shape ns) = subst (λ (m : ℕ). s < m) (sym (length-map ns air_shape)) lt in
    subst (λ (m : ℕ). instances_of tables s ≤ m) (most_same ns s lt) (within machine (map air_shape ns) tables 0 s s flag (omega arith) inside h)

-- tables of form Plain have profile Small
plain_small : (form : Form) (profile : Profile) → form ≡ Plain → IsProfileOf form profile → profile ≡ Small
plain_small Plain profile is h = h
plain_small One profile is h = h
plain_small Two profile is h = absurd cc

pub fitting : (ns : List Namespace) (shape : Shape) (witness : Witness) → IsSound ns → shape.airs ≡ map air_shape ns
    → shape.form ≡ Plain → HaveShape shape witness → Fits ns (values_of shape witness)
fitting ns shape witness sound airs plain h =
    let tables = witness.tables in
    let machine = is_machine shape.form in
    let flag : is_machine shape.form ≡ false = ap is_machine plain in
    let same : airs_of shape witness ≡ map air_shape ns = ap (λ (p : Profile). in_profile p shape.airs) (plain_small shape.form witness.profile plain h.profile) ∙ airs in
    let counted : AreCounts (is_machine shape.form) 0 (map air_shape ns) (counts_from 0 (length (map air_shape ns)) witness.tables) =
    subst (λ (n : ℕ). AreCounts machine 0 (map air_shape ns) (counts_from 0 n tables)) (ap length airs)
    (subst (λ (fs : List AirShape). AreCounts machine 0 fs (counts_from 0 (length shape.airs) tables)) same h.counted) in
    record {
      spaces = ap length airs ∙ length-map ns air_shape;
      width = λ s lt. ap (λ (fs : List AirShape). width_of fs s) same ∙ width_same ns s lt;
      rows = λ s lt. ap (λ (fs : List AirShape). rows_of fs s) same ∙ rows_same ns s lt;
      instances = λ s lt. few_more (instances_of tables s) (few ns machine tables s flag lt counted);
      in_all = λ s lt. few_in_all (instances_of tables s) (space_at ns s).rows (few ns machine tables s flag lt counted) (sound.spaces s lt).few_rows;
    }
