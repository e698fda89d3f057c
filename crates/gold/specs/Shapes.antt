-- What it means that tables have a shape.
use Rattle.std.specs.Prelude.{◌≡◌, ℕ, zero, suc, ◌^◌, ◌<◌, ◌≤◌, Bool, true, false, ◌==◌, ◌&&◌, List, [], ◌∷◌, ◌++◌, length, count_by, All, MatchBool}
use Rattle.gold.specs.Field.{AreCanonical}
use Rattle.gold.specs.declared.instances.Table.{Table}
use Rattle.gold.specs.declared.instances.Witness.{Witness}
use Rattle.gold.specs.declared.shapes.AirShape.{AirShape}
use Rattle.gold.specs.declared.shapes.Shape.{Shape}
use Rattle.gold.specs.declared.shapes.Form.{Form}
use Rattle.gold.specs.declared.shapes.Form.TheVariants.{Plain, One, Two}
use Rattle.gold.specs.declared.shapes.Profile.{Profile}
use Rattle.gold.specs.declared.shapes.Profile.TheVariants.{Small, Wide}

-- tables of this form are the machine's
abbrev pub is_machine : Form → Bool
is_machine Plain = false
is_machine One = true
is_machine Two = true

-- the profiles of tables of a form: format 1 has no profile but Small
abbrev pub IsProfileOf : Form → Profile → Type 0
IsProfileOf Plain profile = profile ≡ Small
IsProfileOf One profile = profile ≡ Small
IsProfileOf Two profile = Unit {0}

-- Main in profile Wide has its own rows and most instances
abbrev pub widened : AirShape → AirShape
widened main = record { rows = 16384; columns = main.columns; most = 2 ^ 18 }

-- the airs in a profile, where those of a shape are Small's: Wide's Main in place of Main, which is air 0
abbrev pub in_profile : Profile → List AirShape → List AirShape
in_profile Small airs = airs
in_profile Wide [] = []
in_profile Wide (main ∷ others) = widened main ∷ others

-- where an instance stands: its air, its number, and the air's shape
pub record Place : Type 0 where
  pub air : ℕ
  pub instance : ℕ
  pub form : AirShape

-- so many instances of an air, from the number i on
abbrev pub instances_from : ℕ → AirShape → ℕ → ℕ → List Place
instances_from a form i zero = []
instances_from a form i (suc n) = record { air = a; instance = i; form = form } ∷ instances_from a form (suc i) n

-- the instances of the airs from the air a on, of which there are so many each: in order of air, then number
abbrev pub places_from : ℕ → List AirShape → List ℕ → List Place
places_from a [] counts = []
places_from a (f ∷ fs) [] = []
places_from a (f ∷ fs) (c ∷ cs) = instances_from a f 0 c ++ places_from (suc a) fs cs

-- the place's numbers have 32 bits
pub record Has32Bits (p : Place) : Type 0 where
  pub air : p.air < 2 ^ 32
  pub instance : p.instance < 2 ^ 32
  pub columns : p.form.columns < 2 ^ 32
  pub rows : p.form.rows < 2 ^ 32

-- the table is the instance that stands at the place
pub record Fits (p : Place) (t : Table) : Type 0 where
  pub air : t.air ≡ p.air
  pub instance : t.instance ≡ p.instance
  pub columns : length t.columns ≡ p.form.columns
  pub rows : All (λ c. length c ≡ p.form.rows) t.columns
  pub canonical : AreCanonical t.columns
  pub bits : Has32Bits p

-- each table is the instance of its place
abbrev pub Fill : List Place → List Table → Type 0
Fill [] [] = Unit {0}
Fill [] (t ∷ ts) = ⊥
Fill (p ∷ ps) [] = ⊥
Fill (p ∷ ps) (t ∷ ts) = Fits p t × Fill ps ts

-- in a machine's shape air 0 is Main and air 6 is Out
abbrev pub is_main : Bool → ℕ → Bool
is_main machine a = machine && (a == 0)

abbrev pub is_out : Bool → ℕ → Bool
is_out machine a = machine && (a == 6)

-- an air may have so many instances: Main at least one, Out exactly one, and each other at most its shape's most
pub record IsCount (machine : Bool) (a : ℕ) (form : AirShape) (count : ℕ) : Type 0 where
  pub main : is_main machine a ≡ true → 0 < count
  pub most : MatchBool (is_out machine a) (count ≡ 1) (count ≤ form.most)
  pub bits : count < 2 ^ 32

-- the airs from the air a on may have so many instances each
abbrev pub AreCounts : Bool → ℕ → List AirShape → List ℕ → Type 0
AreCounts machine a [] [] = Unit {0}
AreCounts machine a [] (c ∷ cs) = ⊥
AreCounts machine a (f ∷ fs) [] = ⊥
AreCounts machine a (f ∷ fs) (c ∷ cs) = IsCount machine a f c × AreCounts machine (suc a) fs cs

-- how many of the tables are of each of so many airs, from the air a on
abbrev pub counts_from : ℕ → ℕ → List Table → List ℕ
counts_from a zero tables = []
counts_from a (suc n) tables = count_by (λ t. t.air == a) tables ∷ counts_from (suc a) n tables

-- the airs that tables of a shape have in their profile
abbrev pub airs_of : Shape → Witness → List AirShape
airs_of shape witness = in_profile witness.profile shape.airs

-- how many tables there are of each air of the shape
abbrev pub counts_of : Shape → Witness → List ℕ
counts_of shape witness = counts_from 0 (length shape.airs) witness.tables

-- the tables have the shape in their profile, in order of air, then number
pub record HaveShape (shape : Shape) (witness : Witness) : Type 0 where
  pub profile : IsProfileOf shape.form witness.profile
  pub bits : length shape.airs < 2 ^ 32
  pub counted : AreCounts (is_machine shape.form) 0 (airs_of shape witness) (counts_of shape witness)
  pub filled : Fill (places_from 0 (airs_of shape witness) (counts_of shape witness)) witness.tables
