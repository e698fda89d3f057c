-- The rows of Rom and Init hold numbers of the field, and there are not too many.
use Rattle.std.proofs.Common.{ℕ, ℤ, Bool, true, false, suc, ◌≡◌, ◌<◌, ◌≤◌, ◌+◌, ◌*◌, ◌%◌, ◌^◌, ◌&&◌, List, [], ◌∷◌, length, Option, Some, None, IfSome, refl, sym, subst, arith}
use Rattle.std.specs.Prelude.{slice_get, if◌then◌else◌, ◌==◌, nat_lt, All}
use Rattle.std.specs.List.{filter_map, cons_option, range_with_len}
use Rattle.std.proofs.lemmas.Bool.{ltb-true, and_parts}
use Rattle.std.proofs.lemmas.Int.{ints}
use Rattle.std.proofs.lemmas.List.FromFn.{length-range_with_len}
use Rattle.std.proofs.lemmas.Option.{none-some, get_or_from_slice_get, slice_get_within}
use Rattle.gold.specs.Field.{p}
use Rattle.rv_word.specs.declared.instr.Kind.{Kind}
use Rattle.rv_word.specs.declared.instr.Kind.TheVariants as kinds
use Rattle.rv_word.specs.declared.instr.Cond.{Cond}
use Rattle.rv_word.specs.declared.instr.Cond.TheVariants as conds
use Rattle.rv_word.specs.declared.instr.OpNo.{OpNo}
use Rattle.rv_word.specs.declared.instr.OpNo.TheVariants as ops
use Rattle.rv_word.specs.declared.instr.Instr.{Instr}
use Rattle.rv_word.specs.declared.instr.Instr.TheVariants.{Lui, Auipc, Jal, Jalr, Branch, Load, Store, OpImm, Op, Fence, Ecall, Ebreak}
use Rattle.rv_word.specs.Is.{Is, decoded}
use Rattle.rv_word.specs.Numbers.{op_number, kind_number}
use Rattle.rv_word.specs.Ranges.{IsSigned, IsAmount, IsImmOf, InRange}
use Rattle.rv_model.specs.Code.{instr_of}
use Rattle.rv_model.specs.Image.{Img, IsLoadable, fetch, initial_word}
use Rattle.rv_model.specs.Op.{bits_of}
use Rattle.rv_model.specs.State.{wrapped}
use Rattle.step_rows.specs.Words.{low, high}
use Rattle.step_rows.specs.Rom.{rom_row, rom_rows, row_at, cells, target, turned, words, writes}
use Rattle.step_rows.specs.Initial.{doublewords, initial_doublewords, unless_zero}
use Rattle.step_rows.specs.declared.doubleword.Doubleword.{Doubleword}
use Rattle.step_rows.specs.declared.rom_row.RomRow.{RomRow}
use Rattle.image_rows.specs.Laws.{IsRom, IsRowOf, AreInitial, IsInitial}
use Rattle.fixed_cols.specs.Constants.{instances_for, instruction, doubleword}
use Rattle.machine_columns.proofs.Small.{AreSmall, one_small}

-- what the laws of the crates below say of an image
pub record ImageLaws : Type 0 where
  pub words : (image : Img) (k : ℕ) → IsLoadable image → initial_word image k < 2 ^ 64
  pub entry : (image : Img) → IsLoadable image → image.entry < 2 ^ 32
  pub found : (w : ℕ) → IfSome (decoded w) (Is w)
  pub range : (w : ℕ) (i : Instr) → Is w i → InRange i
  pub rom : (image : Img) → IsLoadable image → IsRom image (rom_rows image)
  pub initial : (image : Img) → AreInitial image (initial_doublewords image)

-- ---- how many there are

cons_le : {Y : Type 0} (o : Option Y) (ys : List Y) → length (cons_option o ys) ≤ suc (length ys)
cons_le None ys = omega arith
cons_le (Some y) ys = omega arith

filter_map_le : {X Y : Type 0} (f : X → Option Y) (xs : List X) → length (filter_map f xs) ≤ length xs
filter_map_le f [] = omega arith
filter_map_le f (x ∷ xs) = let a = cons_le (f x) (filter_map f xs) in let b = filter_map_le f xs in omega arith

all_words : words ≡ 2 ^ 30
unfolding words
all_words = refl

all_doublewords : doublewords ≡ 2 ^ 29
unfolding doublewords
all_doublewords = refl

pub few_rows : (image : Img) → length (rom_rows image) ≤ 2 ^ 30
unfolding rom_rows
few_rows image =
    let a = filter_map_le (λ k. row_at image (4 * k)) (range_with_len 0 words) in
    let b = length-range_with_len 0 words in
    let c = all_words in
    omega arith

pub few_doublewords : (image : Img) → length (initial_doublewords image) ≤ 2 ^ 29
unfolding initial_doublewords
few_doublewords image =
    let a = filter_map_le (λ k. unless_zero k (initial_word image k)) (range_with_len 0 doublewords) in
    let b = length-range_with_len 0 doublewords in
    let c = all_doublewords in
    omega arith

pub few_instances : (n : ℕ) → n ≤ 2 ^ 30 → instances_for n ≤ 2 ^ 20
few_instances n h = omega arith

-- ---- the fields of an instruction

low_small : (n : ℕ) → low n < p
unfolding low
low_small n = omega arith

high_small : (n : ℕ) → n < 2 ^ 64 → high n < p
unfolding high
high_small n h = omega arith

wrapped_below : (n : ℕ) → wrapped n < 2 ^ 64
wrapped_below n = omega arith

target_by : (b : Bool) (t : ℕ) → (b ≡ true → t < 2 ^ 32) → (if b then t else 1) < p
target_by true t h = let l = h refl in omega arith
target_by false t h = omega arith

target_small : (pc : ℕ) (imm : ℤ) → target pc imm < p
unfolding target
target_small pc imm = target_by (wrapped (pc + bits_of imm) % 4 == 0 && nat_lt (wrapped (pc + bits_of imm)) (2 ^ 32)) _ (λ h. ltb-true _ _ (and_parts _ _ h).1)

writes_by : (b : Bool) → (if b then 0 else 1) < p
writes_by true = omega arith
writes_by false = omega arith

writes_small : (rd : ℕ) → writes rd < p
unfolding writes
writes_small rd = writes_by (rd == 0)

turned_small : (c : Cond) → turned c < p
turned_small conds.Eq = omega arith
turned_small conds.Ne = omega arith
turned_small conds.Lt = omega arith
turned_small conds.Ge = omega arith
turned_small conds.Ltu = omega arith
turned_small conds.Geu = omega arith

kind_small : (k : Kind) → kind_number k < p
unfolding kind_number
kind_small kinds.Lb = omega arith
kind_small kinds.Lh = omega arith
kind_small kinds.Lw = omega arith
kind_small kinds.Ld = omega arith
kind_small kinds.Lbu = omega arith
kind_small kinds.Lhu = omega arith
kind_small kinds.Lwu = omega arith
kind_small kinds.Sb = omega arith
kind_small kinds.Sh = omega arith
kind_small kinds.Sw = omega arith
kind_small kinds.Sd = omega arith

-- the number of an operation is below p, and an immediate that it can have has 64 bits
pub record OpFits (o : OpNo) : Type 0 where
  pub number : op_number o < p
  pub imm : (z : ℤ) → IsImmOf o z → bits_of z < 2 ^ 64

fits_12 : (z : ℤ) → IsSigned 12 z → bits_of z < 2 ^ 64
fits_12 z h = grind (arith, ints)

fits_32 : (z : ℤ) → IsSigned 32 z → bits_of z < 2 ^ 64
fits_32 z h = grind (arith, ints)

amount_64 : (z : ℤ) → IsAmount 64 z → bits_of z < 2 ^ 64
amount_64 z h = grind (arith, ints)

amount_32 : (z : ℤ) → IsAmount 32 z → bits_of z < 2 ^ 64
amount_32 z h = grind (arith, ints)

op_fits : (o : OpNo) → OpFits o
unfolding op_number
op_fits ops.Add = record { number = omega arith; imm = fits_12 }
op_fits ops.Sub = record { number = omega arith; imm = fits_12 }
op_fits ops.Ltu = record { number = omega arith; imm = fits_12 }
op_fits ops.Lt = record { number = omega arith; imm = fits_12 }
op_fits ops.Eq = record { number = omega arith; imm = fits_12 }
op_fits ops.And = record { number = omega arith; imm = fits_12 }
op_fits ops.Or = record { number = omega arith; imm = fits_12 }
op_fits ops.Xor = record { number = omega arith; imm = fits_12 }
op_fits ops.Addw = record { number = omega arith; imm = fits_12 }
op_fits ops.Subw = record { number = omega arith; imm = fits_12 }
op_fits ops.Sll = record { number = omega arith; imm = amount_64 }
op_fits ops.Srl = record { number = omega arith; imm = amount_64 }
op_fits ops.Sra = record { number = omega arith; imm = amount_64 }
op_fits ops.Sllw = record { number = omega arith; imm = amount_32 }
op_fits ops.Srlw = record { number = omega arith; imm = amount_32 }
op_fits ops.Sraw = record { number = omega arith; imm = amount_32 }
op_fits ops.Mul = record { number = omega arith; imm = fits_12 }
op_fits ops.Mulh = record { number = omega arith; imm = fits_12 }
op_fits ops.Mulhsu = record { number = omega arith; imm = fits_12 }
op_fits ops.Mulhu = record { number = omega arith; imm = fits_12 }
op_fits ops.Div = record { number = omega arith; imm = fits_12 }
op_fits ops.Divu = record { number = omega arith; imm = fits_12 }
op_fits ops.Rem = record { number = omega arith; imm = fits_12 }
op_fits ops.Remu = record { number = omega arith; imm = fits_12 }
op_fits ops.Mulw = record { number = omega arith; imm = fits_12 }
op_fits ops.Divw = record { number = omega arith; imm = fits_12 }
op_fits ops.Divuw = record { number = omega arith; imm = fits_12 }
op_fits ops.Remw = record { number = omega arith; imm = fits_12 }
op_fits ops.Remuw = record { number = omega arith; imm = fits_12 }
op_fits ops.Sh1add = record { number = omega arith; imm = fits_12 }
op_fits ops.Sh2add = record { number = omega arith; imm = fits_12 }
op_fits ops.Sh3add = record { number = omega arith; imm = fits_12 }
op_fits ops.Czeqz = record { number = omega arith; imm = fits_12 }
op_fits ops.Cznez = record { number = omega arith; imm = fits_12 }

z : 0 < p
z = omega arith

u : 1 < p
u = omega arith

reg_small : (r : ℕ) → r < 32 → r < p
reg_small r h = omega arith

n_of : (o : OpNo) → op_number o < p
n_of o = (op_fits o).number

-- ---- a row of Rom

cells_small : (pc : ℕ) (i : Instr) → pc < p → InRange i → AreSmall (cells (rom_row pc i))
cells_small pc (Lui rd imm) l h = (l, (z, (z, (reg_small rd h.0, (n_of ops.Add, (low_small _, (high_small _ (fits_32 imm h.1), (z, (z, (z, (z, (u, (writes_small rd, (z, (z, (z, (z, (z, (z, (z, (z, tt)))))))))))))))))))))
cells_small pc (Auipc rd imm) l h = (l, (z, (z, (reg_small rd h.0, (n_of ops.Add, (low_small _, (high_small _ (wrapped_below _), (z, (z, (z, (z, (u, (writes_small rd, (z, (z, (z, (z, (z, (z, (z, (z, tt)))))))))))))))))))))
cells_small pc (Jal rd imm) l h = (l, (z, (z, (reg_small rd h.0, (n_of ops.Add, (low_small _, (high_small _ (wrapped_below _), (z, (z, (target_small pc imm, (z, (u, (writes_small rd, (z, (z, (z, (u, (z, (z, (z, (z, tt)))))))))))))))))))))
cells_small pc (Jalr rd rs1 imm) l h = (l, (reg_small rs1 h.1, (z, (reg_small rd h.0, (n_of ops.Add, (low_small _, (high_small _ (fits_12 imm h.2), (low_small _, (high_small _ (wrapped_below _), (z, (z, (u, (writes_small rd, (z, (z, (u, (z, (z, (z, (z, (z, tt)))))))))))))))))))))
cells_small pc (Branch c rs1 rs2 imm) l h = (l, (reg_small rs1 h.0, (reg_small rs2 h.1, (z, (n_of _, (z, (z, (z, (z, (target_small pc imm, (z, (z, (z, (z, (z, (z, (z, (u, (turned_small c, (z, (z, tt)))))))))))))))))))))
cells_small pc (Load k rd rs1 imm) l h = (l, (reg_small rs1 h.2, (z, (reg_small rd h.1, (n_of ops.Add, (low_small _, (high_small _ (fits_12 imm h.3), (z, (z, (z, (kind_small k, (u, (writes_small rd, (u, (z, (z, (z, (z, (z, (z, (z, tt)))))))))))))))))))))
cells_small pc (Store k rs1 rs2 imm) l h = (l, (reg_small rs1 h.1, (reg_small rs2 h.2, (z, (n_of ops.Add, (low_small _, (high_small _ (fits_12 imm h.3), (z, (z, (z, (kind_small k, (u, (z, (z, (u, (z, (z, (z, (z, (z, (z, tt)))))))))))))))))))))
cells_small pc (OpImm o rd rs1 imm uw) l h = (l, (reg_small rs1 h.2, (z, (reg_small rd h.1, (n_of o, (low_small _, (high_small _ ((op_fits o).imm imm h.3), (z, (z, (z, (z, (u, (writes_small rd, (z, (z, (z, (z, (z, (z, (z, (one_small uw, tt)))))))))))))))))))))
cells_small pc (Op o rd rs1 rs2 uw) l h = (l, (reg_small rs1 h.2, (reg_small rs2 h.3, (reg_small rd h.1, (n_of o, (z, (z, (z, (z, (z, (z, (z, (writes_small rd, (z, (z, (z, (z, (z, (z, (z, (one_small uw, tt)))))))))))))))))))))
cells_small pc Fence l h = (l, (z, (z, (z, (n_of ops.Add, (z, (z, (z, (z, (z, (z, (u, (z, (z, (z, (z, (z, (z, (z, (z, (z, tt)))))))))))))))))))))
cells_small pc Ecall l h = (l, (reg_small 17 (omega arith), (z, (z, (n_of ops.Add, (z, (z, (z, (z, (z, (z, (u, (z, (z, (z, (z, (z, (z, (z, (u, (z, tt)))))))))))))))))))))
cells_small pc Ebreak l h = (l, (z, (z, (z, (n_of ops.Add, (z, (z, (z, (z, (z, (z, (u, (z, (z, (z, (z, (z, (z, (z, (z, (z, tt)))))))))))))))))))))

in_range : ImageLaws → (o : Option ℕ) (i : Instr) → instr_of o ≡ Some i → InRange i
in_range laws None i h = absurd (none-some i h)
in_range laws (Some w) i h = laws.range w i (subst (λ o. IfSome o (Is w)) h (laws.found w))

row_of_image : ImageLaws → (image : Img) (row : RomRow) → IsRowOf image row → AreSmall (cells row)
row_of_image laws image row h = subst (λ r. AreSmall (cells r)) (sym h.is) (cells_small row.pc h.instr (omega (arith, h.below)) (in_range laws (fetch image row.pc) h.instr h.at))

-- a fact of each item is one of what is found
found_in : {X : Type 0} (P : X → Type 0) (xs : List X) (k : ℕ) (x : X) → All P xs → slice_get xs k ≡ Some x → P x
found_in P xs k x h e = subst P (get_or_from_slice_get xs k x x e) (h k x (slice_get_within xs k x e))

pub rom_small : ImageLaws → (image : Img) → IsLoadable image → (k : ℕ) → AreSmall (instruction (slice_get (rom_rows image) k))
rom_small laws image loadable k = by (slice_get (rom_rows image) k) refl
  where
    by : (o : Option RomRow) → slice_get (rom_rows image) k ≡ o → AreSmall (instruction o)
    by None e = tt
    by (Some row) e = (u, row_of_image laws image row (found_in (IsRowOf image) (rom_rows image) k row (laws.rom image loadable).each e))

-- ---- a row of Init

word_small : ImageLaws → (image : Img) (d : Doubleword) → IsLoadable image → IsInitial image d → AreSmall (doubleword (Some d))
word_small laws image d loadable h =
    let v : d.value < 2 ^ 64 = subst (λ n. n < 2 ^ 64) (sym h.value) (laws.words image d.number loadable) in
    (u, (omega (arith, h.below), (low_small d.value, (high_small d.value v, tt))))

pub init_small : ImageLaws → (image : Img) → IsLoadable image → (k : ℕ) → AreSmall (doubleword (slice_get (initial_doublewords image) k))
init_small laws image loadable k = by (slice_get (initial_doublewords image) k) refl
  where
    by : (o : Option Doubleword) → slice_get (initial_doublewords image) k ≡ o → AreSmall (doubleword o)
    by None e = tt
    by (Some d) e = word_small laws image d loadable (found_in (IsInitial image) (initial_doublewords image) k d (laws.initial image).each e)
