-- What is supposed of the constants of Mem, Init and Out. They are those of the machine: see MemConstantsLaw and the laws below it.
use Rattle.std.specs.Prelude.{◌^◌, All, ℕ, ◌+◌, ◌-◌, ◌*◌, ◌<◌, ◌≤◌, ◌≡◌, ◌==◌, ◌&&◌, nat_lt, cond, List, length, slice_get, Option, Some, None}
use Rattle.pil_ast.specs.Columns.{Columns}
use Rattle.pil_laws.specs.Joints.{Joints}
use Rattle.step_rows.specs.Words.{low, high}
use Rattle.step_rows.specs.Initial.{initial_doublewords}
use Rattle.step_rows.specs.declared.doubleword.Doubleword.{Doubleword}
use Rattle.rv_model.specs.Image.{Img}
use Rattle.zk_layout.specs.declared.namespace.Namespace.TheVariants as spaces
use Rattle.fixed_cols.specs.declared.sizes.Sizes.{Sizes}
use Rattle.fixed_cols.specs.Columns.{HasConstants}

-- INST, CLAST and CFIRST, then LAST and L0
pub record MemConstants (c : Columns) : Type 0 where
  pub joints : Joints c 7 0 3 4
  pub rows : c.rows 7 ≡ 8192
  pub is_last : (i r : ℕ) → i < c.instances 7 → r < c.rows 7 → c.at 7 i 1 r ≡ cond (r + 1 == c.rows 7) 1 0
  pub is_first : (i r : ℕ) → i < c.instances 7 → r < c.rows 7 → c.at 7 i 2 r ≡ cond (i == 0 && r == 0) 1 0

-- the key of Out's row r
abbrev pub out_key : ℕ → ℕ
out_key r = cond (r == 0) 536870922 (cond (nat_lt r 33) (167772160 + r - 1) 0)

pub record OutConstants (c : Columns) : Type 0 where
  pub instances : c.instances 8 ≡ 1
  pub rows : c.rows 8 ≡ 64
  pub is_sel : (r : ℕ) → r < 64 → c.at 8 0 0 r ≡ cond (nat_lt r 33) 1 0
  pub is_key : (r : ℕ) → r < 64 → c.at 8 0 1 r ≡ out_key r

abbrev pub of_initial : (Doubleword → ℕ) → Option Doubleword → ℕ
of_initial f None = 0
of_initial f (Some d) = f d

-- Init has these doublewords, in order of its rows; a doubleword's key is its number
pub record InitConstants (c : Columns) (ds : List Doubleword) : Type 0 where
  pub room : length ds ≤ c.instances 5 * c.rows 5
  pub is_sel : (i r : ℕ) → i < c.instances 5 → r < c.rows 5 → c.at 5 i 0 r ≡ of_initial (λ d. 1) (slice_get ds (i * c.rows 5 + r))
  pub is_key : (i r : ℕ) → i < c.instances 5 → r < c.rows 5 → c.at 5 i 1 r ≡ of_initial (λ d. d.number) (slice_get ds (i * c.rows 5 + r))
  pub is_lo : (i r : ℕ) → i < c.instances 5 → r < c.rows 5 → c.at 5 i 2 r ≡ of_initial (λ d. low d.value) (slice_get ds (i * c.rows 5 + r))
  pub is_hi : (i r : ℕ) → i < c.instances 5 → r < c.rows 5 → c.at 5 i 3 r ≡ of_initial (λ d. high d.value) (slice_get ds (i * c.rows 5 + r))

-- The machine's constants are so, where the instances are not too many.
abbrev pub MemConstantsLaw : Type 0
MemConstantsLaw = (image : Img) (sizes : Sizes) (c : Columns) → HasConstants image sizes c spaces.Mem 8192 5 → c.instances 7 ≤ 2 ^ 22 → MemConstants c

abbrev pub InitConstantsLaw : Type 0
InitConstantsLaw = (image : Img) (sizes : Sizes) (c : Columns) → HasConstants image sizes c spaces.Init 1024 4 → InitConstants c (initial_doublewords image)

abbrev pub OutConstantsLaw : Type 0
OutConstantsLaw = (image : Img) (sizes : Sizes) (c : Columns) → HasConstants image sizes c spaces.Out 64 2 → c.instances 8 ≡ 1 → OutConstants c

-- The initial doublewords' keys are those of memory.
abbrev pub InitReach : Type 0
InitReach = (image : Img) → All (λ d. d.number < 2 ^ 29) (initial_doublewords image)
