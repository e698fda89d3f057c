-- The constants that don't depend on the image are numbers of the field.
use Rattle.std.proofs.Common.{ℕ, Bool, true, false, zero, suc, ◌<◌, ◌≤◌, ◌+◌, ◌-◌, ◌/◌, ◌%◌, ◌^◌, List, [], ◌∷◌, cond, arith}
use Rattle.std.specs.Prelude.{slice_index, if◌then◌else◌, ◌==◌, nat_lt}
use Rattle.std.proofs.lemmas.Nat.{and_le_l}
use Rattle.std.proofs.Math.Pow.{pow_mono}
use Rattle.gold.specs.Field.{p}
use Rattle.gold.specs.declared.shapes.Profile.{Profile}
use Rattle.gold.specs.declared.shapes.Profile.TheVariants.{Small, Wide}
use Rattle.zk_layout.specs.Air.{rows_per, rows_in}
use Rattle.zk_layout.specs.declared.air.Air.TheVariants as airs
use Rattle.step_rows.specs.Words.{one_if}
use Rattle.step_rows.specs.ShiftRow.{table_row, amount, factor}
use Rattle.fixed_cols.specs.Constants.{byte_pair, shift_amount, of_main, of_mem, of_out}

-- each number is below p
abbrev pub AreSmall : List ℕ → Type 0
AreSmall [] = Unit {0}
AreSmall (x ∷ xs) = (x < p) × AreSmall xs

pub small_at : (xs : List ℕ) (k : ℕ) → AreSmall xs → slice_index xs k < p
small_at [] k h = omega arith
small_at (x ∷ xs) zero h = h.0
small_at (x ∷ xs) (suc k) h = small_at xs k h.1

pub either_small : (b : Bool) (xs ys : List ℕ) → AreSmall xs → AreSmall ys → AreSmall (if b then xs else ys)
either_small true xs ys h l = h
either_small false xs ys h l = l

pub one_small : (t : Bool) → one_if t < p
one_small true = omega arith
one_small false = omega arith

bit_small : (t : Bool) → cond t 0 1 < p
bit_small true = omega arith
bit_small false = omega arith

flag_small : (t : Bool) → cond t 1 0 < p
flag_small true = omega arith
flag_small false = omega arith

entry_small : (t : Bool) (entry : ℕ) → entry < 2 ^ 32 → (if t then entry else 0) < p
entry_small true entry h = omega arith
entry_small false entry h = omega arith

pub pair_small : (r : ℕ) → r < 65536 → AreSmall (byte_pair r)
pair_small r h = let a = and_le_l (r / 256) (r % 256) in (omega arith, (omega arith, (omega arith, tt)))

power_small : (t : ℕ) → t ≤ 16 → 2 ^ t < p
power_small t h = let a : 2 ^ t ≤ 2 ^ 16 = pow_mono h in omega arith

digit_small : (t : ℕ) → t % 16 ≤ 16
digit_small t = omega arith

rest_small : (t : ℕ) → 16 - t ≤ 16
rest_small t = omega arith

either_power : (b : Bool) (t u : ℕ) → t ≤ 16 → u ≤ 16 → cond b (2 ^ t) (2 ^ u) < p
either_power true t u h l = power_small t h
either_power false t u h l = power_small u l

factor_small : (n t : ℕ) → factor n t < p
factor_small n t = either_power (n % 3 == 0) (t % 16) (16 - t % 16) (digit_small t) (rest_small (t % 16))

row_small : (n s : ℕ) → n < 8 → s < 64 → AreSmall (table_row n s)
row_small n s h l =
    (omega arith, (omega arith, (omega arith, (bit_small _, (flag_small _, (bit_small _, (flag_small _, (flag_small _, (flag_small _, (flag_small _, (factor_small n (amount n s), tt)))))))))))

pub shift_small : (r : ℕ) → r < 512 → AreSmall (shift_amount r)
shift_small r h = either_small (nat_lt r 384) (table_row (r / 64) (r % 64)) [] (row_small (r / 64) (r % 64) (omega arith) (omega arith)) tt

pub main_small : (q : Profile) (entry i n r : ℕ) → entry < 2 ^ 32 → i < n → n ≤ 2 ^ 20 → r < rows_in q airs.Main → AreSmall (of_main entry i n r (rows_in q airs.Main))
unfolding rows_per
main_small Small entry i n r e h m l = (omega arith, (omega arith, (one_small _, (one_small _, (one_small _, (one_small _, (one_small _, (entry_small _ entry e, tt))))))))
main_small Wide entry i n r e h m l = (omega arith, (omega arith, (one_small _, (one_small _, (one_small _, (one_small _, (one_small _, (entry_small _ entry e, tt))))))))

pub mem_small : (i n r m : ℕ) → i < n → n ≤ 2 ^ 22 → AreSmall (of_mem i n r m)
mem_small i n r m h l = (omega arith, (one_small _, (one_small _, (one_small _, (one_small _, tt)))))

pub out_small : (r : ℕ) → r < 64 → AreSmall (of_out r)
out_small r h =
    either_small (r == 0) (1 ∷ 536870922 ∷ []) (if nat_lt r 33 then 1 ∷ (167772160 + r - 1) ∷ [] else []) (omega arith, (omega arith, tt))
    (either_small (nat_lt r 33) (1 ∷ (167772160 + r - 1) ∷ []) [] (omega arith, (omega arith, tt)) tt)
