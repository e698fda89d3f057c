-- The row of a shift meets the lines, and has the shift's tuple.
use Rattle.std.proofs.Common.{ℕ, ◌+◌, ◌*◌, ◌/◌, ◌%◌, ◌<◌, ◌≡◌, ◌≢◌, List, get_or, map, refl, sym, ◌∙◌, subst, lit<, arith}
use Rattle.rv_word.specs.declared.instr.OpNo.{OpNo}
use Rattle.rv_word.specs.declared.instr.OpNo.TheVariants as ops
use Rattle.rv_word.specs.Numbers.{op_number}
use Rattle.zk_layout.specs.declared.air.Air.TheVariants as airs
use Rattle.pil_ast.specs.Term.{Namespace}
use Rattle.pil_ast.specs.Columns.{Columns}
use Rattle.pil_ast.specs.Value.{Cells, around, value}
use Rattle.pil_ast.specs.Holds.{tuple}
use Rattle.pil_exact.proofs.Flags.{Each}
use Rattle.step_rows.specs.Tuples.{op_tuple}
use Rattle.step_rows.specs.ShiftRow.{shift_row}
use Rattle.machine_text.specs.Shift.{items, operation}
use Rattle.air_ops.specs.Tables.{Meets, HasRow}
use Rattle.air_ops.specs.Shift.{HasShift, IsComplete}
use Rattle.air_ops.proofs.Airs.{operations, of_shift}
use Rattle.air_ops.proofs.ShiftSound.{Selected, IsOp, own, second, case0, case1, case2, case3, case4, case5}
use Rattle.air_ops.proofs.Digits.{whole}
use Rattle.air_ops.proofs.ShiftLaws.{selected}
use Rattle.air_ops.proofs.ShiftRows.{IsRowOf, at}
use Rattle.air_ops.proofs.ShiftComplete.{own_is, sll_meets, srl_meets, sra_meets, sllw_meets, srlw_meets, sraw_meets}

parts : (b s t u v : ℕ) → b < 18446744073709551616 → s ≡ b % 64 → t ≡ b / 64 % 65536 → u ≡ b / 4194304 % 1024 → v ≡ b / 4294967296 → (s + 64 * (t + 65536 * u)) + 4294967296 * v ≡ b
parts b s t u v l e f g h = omega arith

small_high : (x b : ℕ) → b < 18446744073709551616 → x ≡ b / 4294967296 → x < 4294967296
small_high x b l e = omega arith

not_none : (x : ℕ) → x ≡ 1 → x ≢ 0
not_none x e z = omega arith

same_number : (x m n : ℕ) → x ≡ 11 + m → x ≡ 11 + n → m ≡ n
same_number x m n e f = omega arith

module _ (ns : List Namespace) (c : Columns) (i r : ℕ) (has : HasShift ns c) (a b : ℕ) (la : a < 18446744073709551616) (lb : b < 18446744073709551616) where
  abbrev x : Cells
  x = around ns c 11 i r

  -- the lines and the tuple of a shift
  abbrev pub Whole : OpNo → Type 0
  Whole o = HasRow c 11 i r (shift_row o a b) → Meets ns c i r items × (tuple ns c 11 i r operation.terms ≡ op_tuple o a b)

  -- a shift's number in the list, and what its tuple is where its lines are met
  with_tuple : (o : OpNo) (n : ℕ) (h : IsRowOf c i r n a b) → n < 6 → Meets ns c i r items → ((sel : Selected x) → sel.asks.o ≡ n → x.column 0 11 6 < 4294967296 → IsOp x sel o) → Meets ns c i r items × (tuple ns c 11 i r operation.terms ≡ op_tuple o a b)
  with_tuple o n h l m f =
      let sel = selected ns c i r has m (not_none _ (at c i r n a b h 0 refl)) in
      let v = f sel (same_number _ _ n sel.asks.op (at c i r n a b h 1 refl)) (small_high _ b lb (at c i r n a b h 6 refl)) in
      let qa : whole (own x sel) ≡ a = sym (own_is ns c i r has a b la n l h) in
      let qb : second x sel ≡ b = parts b _ _ _ _ lb (at c i r n a b h 7 refl) (at c i r n a b h 8 refl) (at c i r n a b h 9 refl) (at c i r n a b h 6 refl) in
      (m, subst (λ s. map (value s.items x) operation.terms ≡ op_tuple o a b) (sym has.stands) (v.1 ∙ (λ j. op_tuple o (qa j) (qb j))))

  sll_whole : Whole ops.Sll
  unfolding op_number
  sll_whole h = with_tuple ops.Sll 0 h (lit< tt) (sll_meets ns c i r a b has la h) (λ s e g. case0 x s g e)

  srl_whole : Whole ops.Srl
  unfolding op_number
  srl_whole h = with_tuple ops.Srl 1 h (lit< tt) (srl_meets ns c i r a b has la h) (λ s e g. case1 x s g e)

  sra_whole : Whole ops.Sra
  unfolding op_number
  sra_whole h = with_tuple ops.Sra 2 h (lit< tt) (sra_meets ns c i r a b has la h) (λ s e g. case2 x s g e)

  sllw_whole : Whole ops.Sllw
  unfolding op_number
  sllw_whole h = with_tuple ops.Sllw 3 h (lit< tt) (sllw_meets ns c i r a b has la h) (λ s e g. case3 x s g e)

  srlw_whole : Whole ops.Srlw
  unfolding op_number
  srlw_whole h = with_tuple ops.Srlw 4 h (lit< tt) (srlw_meets ns c i r a b has la h) (λ s e g. case4 x s g e)

  sraw_whole : Whole ops.Sraw
  unfolding op_number
  sraw_whole h = with_tuple ops.Sraw 5 h (lit< tt) (sraw_meets ns c i r a b has la h) (λ s e g. case5 x s g e)

  pub wholes : Each (λ j. Whole (get_or (operations airs.Shift) j ops.Sll)) 6
  wholes = (sll_whole, (srl_whole, (sra_whole, (sllw_whole, (srlw_whole, (sraw_whole, tt))))))

pub shift_complete : IsComplete
shift_complete ns c i r o a b has e la lb = of_shift (Whole ns c i r has a b la lb) (wholes ns c i r has a b la lb) o e
