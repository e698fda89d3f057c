-- The small tables and ShiftTab have their constants.
use Rattle.std.proofs.Common.{ℕ, ◌+◌, ◌*◌, ◌/◌, ◌%◌, ◌^◌, ◌<◌, ◌≤◌, ◌≡◌, Bool, true, false, if◌then◌else◌, List, [], refl, sym, ap, subst, ◌∙◌, arith}
use Rattle.std.specs.Prelude.{slice_index, bit_and, nat_lt}
use Rattle.std.proofs.lemmas.Bool.Decides.{nat_tests}
use Rattle.gold.specs.declared.shapes.Profile.{Profile}
use Rattle.gold.specs.declared.shapes.Profile.TheVariants.{Small, Wide}
use Rattle.zk_layout.specs.Air.{most_per, shape_in}
use Rattle.zk_layout.specs.Namespaces.{namespace_number}
use Rattle.zk_layout.specs.declared.air.Air.TheVariants as airs
use Rattle.zk_layout.specs.declared.namespace.Namespace.TheVariants as spaces
use Rattle.rv_model.specs.Image.{Img}
use Rattle.step_rows.specs.ShiftRow.{table_row}
use Rattle.pil_ast.specs.Columns.{Columns}
use Rattle.pil_exact.specs.Tables.{SmallTables, IsSingle}
use Rattle.fixed_cols.specs.declared.sizes.Sizes.{Sizes}
use Rattle.fixed_cols.specs.Columns.{HasConstants}
use Rattle.fixed_cols.specs.Constants.{constant, shift_amount}
use Rattle.machine_text.specs.Machine.{main_rows}
use Rattle.air_ops.specs.Tables.{ShiftTable}

one_below : (n : ℕ) → n ≡ 1 → 0 < n
one_below n e = omega arith

all_below : (q n m : ℕ) → n ≡ m → q < m → q < n
all_below q n m e l = omega arith

constant_of_bits : (image : Img) (sizes : Sizes) (q : ℕ) → constant image sizes spaces.Bit 0 0 q ≡ q
unfolding constant
constant_of_bits image sizes q = refl

constant_of_words : (image : Img) (sizes : Sizes) (q : ℕ) → constant image sizes spaces.Range16 0 0 q ≡ q
unfolding constant
constant_of_words image sizes q = refl

constant_of_pairs : (image : Img) (sizes : Sizes) (q : ℕ) → (constant image sizes spaces.BinTab 0 0 q ≡ q / 256) × (constant image sizes spaces.BinTab 0 1 q ≡ q % 256) × (constant image sizes spaces.BinTab 0 2 q ≡ bit_and (q / 256) (q % 256))
unfolding constant
constant_of_pairs image sizes q = (refl, refl, refl)

constant_of_shifts : (image : Img) (sizes : Sizes) (k q : ℕ) → constant image sizes spaces.ShiftTab 0 k q ≡ slice_index (shift_amount q) k
unfolding constant
constant_of_shifts image sizes k q = refl

amount_in : (b : Bool) (x : List ℕ) → b ≡ true → (if b then x else []) ≡ x
amount_in true x h = refl
amount_in false x h = absurd cc

amount_past : (b : Bool) (x : List ℕ) → b ≡ false → (if b then x else []) ≡ []
amount_past false x h = refl
amount_past true x h = absurd cc

below_is : (q n : ℕ) → q < n → nat_lt q n ≡ true
below_is q n h = grind (arith, nat_tests)

past_is : (q n : ℕ) → n ≤ q → nat_lt q n ≡ false
past_is q n h = grind (arith, nat_tests)

module _ (image : Img) (sizes : Sizes) (c : Columns) where
  module _ (bits : HasConstants image sizes c spaces.Bit 2 1) (words : HasConstants image sizes c spaces.Range16 65536 1) (pairs : HasConstants image sizes c spaces.BinTab 65536 3) where
    bit : IsSingle c 0 2
    unfolding namespace_number
    bit = record { instances = bits.instances; rows = bits.rows }

    word : IsSingle c 1 65536
    unfolding namespace_number
    word = record { instances = words.instances; rows = words.rows }

    pair : IsSingle c 2 65536
    unfolding namespace_number
    pair = record { instances = pairs.instances; rows = pairs.rows }

    bit_at : (q : ℕ) → q < 2 → c.at 0 0 0 q ≡ q
    unfolding namespace_number
    bit_at q l = bits.values 0 0 q (one_below _ bit.instances) (all_below q _ _ bit.rows l) (omega arith) ∙ constant_of_bits image sizes q

    word_at : (q : ℕ) → q < 65536 → c.at 1 0 0 q ≡ q
    unfolding namespace_number
    word_at q l = words.values 0 0 q (one_below _ word.instances) (all_below q _ _ word.rows l) (omega arith) ∙ constant_of_words image sizes q

    pair_at : (k q : ℕ) → k < 3 → q < 65536 → c.at 2 0 k q ≡ constant image sizes spaces.BinTab 0 k q
    unfolding namespace_number
    pair_at k q h l = pairs.values 0 k q (one_below _ pair.instances) (all_below q _ _ pair.rows l) h

    pub small_tables : SmallTables c
    small_tables = record {
      bit = bit;
      bit_value = bit_at;
      word = word;
      word_value = word_at;
      pair = pair;
      first = λ q l. pair_at 0 q (omega arith) l ∙ (constant_of_pairs image sizes q).0;
      second = λ q l. pair_at 1 q (omega arith) l ∙ (constant_of_pairs image sizes q).1;
      and = λ q l. pair_at 2 q (omega arith) l ∙ (constant_of_pairs image sizes q).2;
    }

  module _ (shifts : HasConstants image sizes c spaces.ShiftTab 512 11) where
    single : IsSingle c 3 512
    unfolding namespace_number
    single = record { instances = shifts.instances; rows = shifts.rows }

    shift_at : (k q : ℕ) → k < 11 → q < 512 → c.at 3 0 k q ≡ slice_index (shift_amount q) k
    unfolding namespace_number
    shift_at k q h l = shifts.values 0 k q (one_below _ single.instances) (all_below q _ _ single.rows l) h ∙ constant_of_shifts image sizes k q

    fewer : (q : ℕ) → q < 384 → q < 512
    fewer q h = omega arith

    pub shift_table : ShiftTable c
    shift_table = record {
      single = single;
      row = λ q k l h. shift_at k q h (fewer q l) ∙ ap (λ x. slice_index x k) (amount_in (nat_lt q 384) (table_row (q / 64) (q % 64)) (below_is q 384 l));
      rest = λ q h l. shift_at 0 q (omega arith) l ∙ ap (λ x. slice_index x 0) (amount_past (nat_lt q 384) (table_row (q / 64) (q % 64)) (past_is q 384 h));
    }

-- instances and rows of Main
pub main_most : (q : Profile) (m n : ℕ) → m ≤ (shape_in q airs.Main).most → n ≡ main_rows q → (m * n ≤ 2 ^ 32) × (m ≤ 2 ^ 22)
unfolding most_per
main_most Small m n h e = (subst (λ n. m * n ≤ 2 ^ 32) (sym e) (omega arith), omega arith)
main_most Wide m n h e = (subst (λ n. m * n ≤ 2 ^ 32) (sym e) (omega arith), omega arith)

pub mem_most : (q : Profile) (m : ℕ) → m ≤ (shape_in q airs.Mem).most → m ≤ 2 ^ 22
unfolding most_per
mem_most Small m h = h
mem_most Wide m h = h
