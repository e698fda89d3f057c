-- The machine's constants are as the laws suppose.
use Rattle.std.proofs.Common.{ℕ, ◌+◌, ◌*◌, ◌/◌, ◌%◌, ◌^◌, ◌<◌, ◌≤◌, ◌≡◌, Bool, true, false, cond, eqb, ltb, ◌&&◌, if◌then◌else◌, max, List, length, refl, sym, ap, subst, ◌∙◌, lit<, arith}
use Rattle.std.specs.Prelude.{slice_get, slice_index}
use Rattle.std.proofs.Math.Nat.{mod-lt}
use Rattle.std.proofs.lemmas.Nat.{div-add-mod'}
use Rattle.std.proofs.lemmas.Bool.Decides.{nat_tests}
use Rattle.gold.specs.declared.shapes.Profile.{Profile}
use Rattle.gold.specs.declared.shapes.Profile.TheVariants.{Small, Wide}
use Rattle.zk_layout.specs.declared.air.Air.TheVariants as airs
use Rattle.zk_layout.specs.Air.{rows_per, rows_in, air_number}
use Rattle.zk_layout.specs.Namespaces.{namespace_number}
use Rattle.zk_layout.specs.declared.namespace.Namespace.TheVariants as spaces
use Rattle.rv_model.specs.Image.{Img}
use Rattle.pil_ast.specs.Columns.{Columns}
use Rattle.machine_text.specs.Machine.{main_rows}
use Rattle.step_rows.specs.Rom.{rom_rows}
use Rattle.fixed_cols.specs.declared.sizes.Sizes.{Sizes}
use Rattle.fixed_cols.specs.Columns.{HasConstants}
use Rattle.fixed_cols.specs.Constants.{constant, instruction, instances_for, of_main, enters}
use Rattle.air_main.specs.Constants.{RomConstants, RomConstantsLaw, MainConstants, MainConstantsLaw}

-- Rom

rounded : (n : ℕ) → n ≤ 1024 * max 1 ((n + 1023) / 1024)
rounded n = at ((n + 1023) / 1024) ((n + 1023) % 1024) (div-add-mod' (n + 1023) 1024) (mod-lt (n + 1023) {m = 1024} (lit< tt))
  where
    at : (q r : ℕ) → q * 1024 + r ≡ n + 1023 → r < 1024 → n ≤ 1024 * max 1 q
    at q r e h = grind (arith, nat_tests)

rom_row : (image : Img) (sizes : Sizes) (i k r : ℕ) → constant image sizes spaces.Rom i k r ≡ slice_index (instruction (slice_get (rom_rows image) (1024 * i + r))) k
unfolding constant
rom_row image sizes i k r = refl

pub rom_constants_law : RomConstantsLaw
unfolding namespace_number
rom_constants_law image sizes c h =
    record {
      rows_are = h.rows;
      enough = subst (λ m. length (rom_rows image) ≤ 1024 * m) (sym h.instances) (rounded _);
      values = λ j q k jl ql kl. h.values j k q jl ql kl ∙ rom_row image sizes j k q;
    }

-- Main

rows_of_main : (p : Profile) → rows_in p airs.Main ≡ main_rows p
unfolding rows_per
rows_of_main Small = refl
rows_of_main Wide = refl

some_rows : (p : Profile) → 0 < main_rows p
some_rows Small = lit< tt
some_rows Wide = lit< tt

main_row : (image : Img) (sizes : Sizes) (i k r : ℕ) → constant image sizes spaces.Main i k r ≡ slice_index (of_main image.entry i (slice_index sizes.counts (air_number airs.Main)) r (rows_in sizes.profile airs.Main)) k
unfolding constant
main_row image sizes i k r = refl

entering : (i r : ℕ) → enters i r ≡ cond (eqb r 0 && ltb 0 i) 1 0
entering i r = grind (arith, nat_tests)

module _ (image : Img) (sizes : Sizes) (c : Columns) (h : HasConstants image sizes c spaces.Main (main_rows sizes.profile) 8) where
  count : c.instances 6 ≡ slice_index sizes.counts (air_number airs.Main)
  unfolding namespace_number
  count = h.instances

  height : c.rows 6 ≡ main_rows sizes.profile
  unfolding namespace_number
  height = h.rows

  main_at : (i k r : ℕ) → i < c.instances 6 → r < c.rows 6 → k < 8 → c.at 6 i k r ≡ slice_index (of_main image.entry i (c.instances 6) r (c.rows 6)) k
  unfolding namespace_number
  main_at i k r hi hr hk =
      h.values i k r hi hr hk ∙ main_row image sizes i k r ∙ ap (λ n. slice_index (of_main image.entry i n r (rows_in sizes.profile airs.Main)) k) (sym count) ∙ ap (λ m. slice_index (of_main image.entry i (c.instances 6) r m) k) (rows_of_main sizes.profile ∙ sym height)

  main_constants : c.instances 6 ≤ 2 ^ 22 → MainConstants image (main_rows sizes.profile) c
  main_constants few =
      record {
        rows = height;
        joints = record {
          instances = few;
          rows = subst (λ m. 0 < m) (sym height) (some_rows sizes.profile);
          is_inst = λ i r hi hr. main_at i 1 r hi hr (omega arith);
          is_clast = λ i r hi hr. main_at i 4 r hi hr (omega arith);
          is_cfirst = λ i r hi hr. main_at i 5 r hi hr (omega arith) ∙ entering i r;
        };
        is_step = λ i r hi hr. main_at i 0 r hi hr (omega arith);
        is_last = λ i r hi hr. main_at i 2 r hi hr (omega arith);
        is_first = λ i r hi hr. main_at i 3 r hi hr (omega arith);
        is_end = λ i r hi hr. main_at i 6 r hi hr (omega arith);
        is_entry = λ i r hi hr. main_at i 7 r hi hr (omega arith);
      }

pub main_constants_law : MainConstantsLaw
main_constants_law image sizes c h few = main_constants image sizes c h few
