-- What the look-ups alone say of a selected row.
use Rattle.std.proofs.Common.{ℕ, zero, suc, Bool, true, false, not, cond, eqb, ◌⊎◌, inl, inr, ◌≡◌, ◌≢◌, ◌<◌, ◌≤◌, List, refl, sym, ap, subst, arith}
use Rattle.std.proofs.lemmas.Bool.{ne_eqb}
use Rattle.gold.specs.Field.{add_mod, sub_mod, mul_mod}
use Rattle.pil_ast.specs.Term.{Namespace}
use Rattle.pil_ast.specs.Columns.{Columns}
use Rattle.pil_exact.proofs.Small.{word_entry}
use Rattle.machine_text.specs.Main
use Rattle.rv_word.specs.declared.instr.Instr.{Instr}
use Rattle.rv_word.specs.declared.instr.Instr.TheVariants.{Lui, Auipc, Jal, Jalr, Branch, Load, Store, OpImm, Op, Fence, Ecall, Ebreak}
use Rattle.rv_model.specs.Image.{Img}
use Rattle.step_rows.specs.Rom.{rom_row, writes}
use Rattle.step_rows.specs.declared.rom_row.RomRow.{RomRow}
use Rattle.air_main.specs.Law.{HasMain, Meets, at_row}
use Rattle.air_main.specs.Selected.{IsSelected, SelectedLaw}
use Rattle.air_main.proofs.Decoded.{Ranges}
use Rattle.air_main.proofs.Selected as Row
use Rattle.air_main.proofs.Chain.{says, pc_in_rom}
use Rattle.air_main.proofs.Fields.{Regs, row_regs}

zero_chosen : (x y : ℕ) → y < 4294967296 → add_mod (mul_mod 0 x) (mul_mod (sub_mod 1 0) y) < 4294967296
zero_chosen x y l = omega arith

one_chosen : (x y : ℕ) → x < 4294967296 → add_mod (mul_mod 1 x) (mul_mod (sub_mod 1 1) y) < 4294967296
one_chosen x y l = omega arith

chosen : (b x y : ℕ) → (b ≡ 0) ⊎ (b ≡ 1) → x < 4294967296 → y < 4294967296 → add_mod (mul_mod b x) (mul_mod (sub_mod 1 b) y) < 4294967296
chosen b x y (inl h) k l = subst (λ z. add_mod (mul_mod z x) (mul_mod (sub_mod 1 z) y) < 4294967296) (sym h) (zero_chosen x y l)
chosen b x y (inr h) k l = subst (λ z. add_mod (mul_mod z x) (mul_mod (sub_mod 1 z) y) < 4294967296) (sym h) (one_chosen x y k)

small_place : (a b v : ℕ) → a ≤ 65535 → b ≤ 65535 → mul_mod 8 b ≤ 65535 → v ≡ add_mod a (mul_mod 65536 b) → v < 536870912
small_place a b v h k l e = omega (arith, e, l)

below_of : (x : ℕ) → x ≤ 4294967295 → x < 4294967296
below_of x h = omega arith

set_of : (v : ℕ) → v ≢ 0 → not (eqb v 0) ≡ true
set_of v h = ap not (ne_eqb v 0 h)

stores_on : (s ld st : ℕ) → s ≡ 1 → st ≡ 1 → ld ≡ 0 → mul_mod s (add_mod ld st) ≢ 0
stores_on s ld st e h k = subst (λ z. mul_mod z (add_mod ld st) ≢ 0) (sym e) (subst (λ z. mul_mod 1 (add_mod ld z) ≢ 0) (sym h) (subst (λ z. mul_mod 1 (add_mod z 1) ≢ 0) (sym k) some))
  where
    some : mul_mod 1 (add_mod 0 1) ≢ 0
    some e = omega arith

writes_bit : (rd : ℕ) → (writes rd ≡ 0) ⊎ (writes rd ≡ 1)
unfolding writes
writes_bit rd = choice (eqb rd 0) (writes rd) refl
  where
    choice : (b : Bool) (x : ℕ) → x ≡ cond b 0 1 → (x ≡ 0) ⊎ (x ≡ 1)
    choice true x e = inl e
    choice false x e = inr e

-- the flags of a row of Rom
record Bits (r : RomRow) : Type 0 where
  bi : (r.bi ≡ 0) ⊎ (r.bi ≡ 1)
  wr : (r.wr ≡ 0) ⊎ (r.wr ≡ 1)
  st : (r.st ≡ 0) ⊎ (r.st ≡ 1)
  halt : (r.halt ≡ 0) ⊎ (r.halt ≡ 1)
  loads : r.st ≡ 1 → r.ld ≡ 0
  writes_none : r.halt ≡ 1 → (r.wr ≡ 0) × (r.st ≡ 0)

no : (P : Type 0) → zero ≡ suc zero → P
no P e = absurd (omega arith)

row_bits : (pc : ℕ) (i : Instr) → Bits (rom_row pc i)
row_bits pc (Lui rd imm) = record { bi = inr refl; wr = writes_bit rd; st = inl refl; halt = inl refl; loads = λ e. refl; writes_none = λ e. no _ e }
row_bits pc (Auipc rd imm) = record { bi = inr refl; wr = writes_bit rd; st = inl refl; halt = inl refl; loads = λ e. refl; writes_none = λ e. no _ e }
row_bits pc (Jal rd imm) = record { bi = inr refl; wr = writes_bit rd; st = inl refl; halt = inl refl; loads = λ e. refl; writes_none = λ e. no _ e }
row_bits pc (Jalr rd rs1 imm) = record { bi = inr refl; wr = writes_bit rd; st = inl refl; halt = inl refl; loads = λ e. refl; writes_none = λ e. no _ e }
row_bits pc (Branch c rs1 rs2 imm) = record { bi = inl refl; wr = inl refl; st = inl refl; halt = inl refl; loads = λ e. refl; writes_none = λ e. no _ e }
row_bits pc (Load k rd rs1 imm) = record { bi = inr refl; wr = writes_bit rd; st = inl refl; halt = inl refl; loads = λ e. no _ e; writes_none = λ e. no _ e }
row_bits pc (Store k rs1 rs2 imm) = record { bi = inr refl; wr = inl refl; st = inr refl; halt = inl refl; loads = λ e. refl; writes_none = λ e. no _ e }
row_bits pc (OpImm o rd rs1 imm uw) = record { bi = inr refl; wr = writes_bit rd; st = inl refl; halt = inl refl; loads = λ e. refl; writes_none = λ e. no _ e }
row_bits pc (Op o rd rs1 rs2 uw) = record { bi = inl refl; wr = writes_bit rd; st = inl refl; halt = inl refl; loads = λ e. refl; writes_none = λ e. no _ e }
row_bits pc Fence = record { bi = inr refl; wr = inl refl; st = inl refl; halt = inl refl; loads = λ e. refl; writes_none = λ e. no _ e }
row_bits pc Ecall = record { bi = inr refl; wr = inl refl; st = inl refl; halt = inr refl; loads = λ e. refl; writes_none = λ e. (refl, refl) }
row_bits pc Ebreak = record { bi = inr refl; wr = inl refl; st = inl refl; halt = inl refl; loads = λ e. refl; writes_none = λ e. no _ e }

module _ (ns : List Namespace) (c : Columns) (n : ℕ) (image : Img) (ranges : Ranges) (i r : ℕ) (has : HasMain ns c n image) (meets : Meets ns c i r) (on : c.at 6 i 8 r ≢ 0) where
  -- lines 15 to 17: the number of a doubleword is below 2^29
  in_memory : at_row ns c i r Main.ms ≢ 0 → at_row ns c i r Main.w < 536870912
  in_memory some =
      let s = says ns c n image ranges i r has meets in
      let wl = word_entry ns c has.tables _ (s 68 (set_of _ some)) in
      let wh = word_entry ns c has.tables _ (s 69 (set_of _ some)) in
      let w8 = word_entry ns c has.tables _ (s 70 (set_of _ some)) in
      small_place (c.at 6 i 38 r) (c.at 6 i 39 r) _ wl wh w8 refl

  regs : Regs (Row.R ns c n image ranges has i r meets on)
  regs =
      let e = Row.entry ns c n image ranges has i r meets on in
      subst (λ q. Regs q) (sym e.is) (row_regs e.pc e.instr (Row.fits_of ns c n image ranges has i r meets on).1)

  bits : Bits (Row.R ns c n image ranges has i r meets on)
  bits =
      let e = Row.entry ns c n image ranges has i r meets on in
      subst (λ q. Bits q) (sym e.is) (row_bits e.pc e.instr)

  pub is_selected : IsSelected ns c i r
  is_selected = record {
    sel = Row.selected ns c n image ranges has i r meets on;
    pc = pc_in_rom ns c n image ranges i r has meets on;
    rs1 = regs.rs1;
    rs2 = regs.rs2;
    rd = regs.rd;
    wr = bits.wr;
    st = bits.st;
    halt = bits.halt;
    stores = λ st. stores_on (c.at 6 i 8 r) (c.at 6 i 22 r) (c.at 6 i 23 r) (Row.selected ns c n image ranges has i r meets on) st (bits.loads st);
    writes_none = bits.writes_none;
    w_below = in_memory;
    b_high = λ l. chosen (c.at 6 i 20 r) (c.at 6 i 15 r) (c.at 6 i 33 r) bits.bi (below_of _ (Row.small_row ns c n image ranges has i r meets on).ihi) l;
  }

pub selected_law : Ranges → SelectedLaw
selected_law ranges ns c n image i r has meets on = is_selected ns c n image ranges i r has meets on
