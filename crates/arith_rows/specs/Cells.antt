-- What a row of Arith is made of, and its cells.
use Rattle.std.specs.Prelude.{ℕ, zero, suc, ◌+◌, ◌-◌, ◌*◌, ◌/◌, ◌%◌, ◌^◌, ◌==◌}
use Rattle.rv_word.specs.declared.instr.OpNo.{OpNo}
use Rattle.rv_word.specs.Numbers.{op_number}
use Rattle.min_trace.specs.Laws.{first_of}
use Rattle.min_trace.specs.declared.record.StepRecord.{StepRecord}
use Rattle.step_rows.specs.Words.{one_if, digit}
use Rattle.step_rows.specs.ArithRow.{first_sign, second_sign, first_size, second_size, used, x_of, r_of, z_of, result_sign, result_size, kn_of, n_of, zb_of, g_of, kg_of, k1_of, k2_of, unless_zero, carry_of, sign_bit, top_digit, c0, c1, c2, c3, c4, c5, c6}
use Rattle.arith_rows.specs.declared.carrying.Carries.{Carries}
use Rattle.arith_rows.specs.declared.sizes.Sizes.{Sizes}
use Rattle.arith_rows.specs.declared.made.Made.{Made}
use Rattle.arith_rows.specs.declared.cells.ArithCell.{ArithCell}
use Rattle.arith_rows.specs.declared.cells.ArithCell.TheVariants as cells

-- the carries of x * y + r
abbrev pub carries : ℕ → ℕ → ℕ → Carries
carries x y r = record { c0 = c0 x y r; c1 = c1 x y r; c2 = c2 x y r; c3 = c3 x y r; c4 = c4 x y r; c5 = c5 x y r; c6 = c6 x y r }

abbrev pub carry : ℕ → Carries → ℕ
carry zero c = c.c0
carry (suc zero) c = c.c1
carry (suc (suc zero)) c = c.c2
carry (suc (suc (suc zero))) c = c.c3
carry (suc (suc (suc (suc zero)))) c = c.c4
carry (suc (suc (suc (suc (suc zero))))) c = c.c5
carry (suc (suc (suc (suc (suc (suc i)))))) c = c.c6

-- the operands of the operation n, with their signs and magnitudes
abbrev pub sized : ℕ → ℕ → ℕ → ℕ → ℕ → ℕ → ℕ → Sizes
sized n a b s t u v = record {
  number = n;
  a = a;
  b = b;
  s = s;
  t = t;
  u = u;
  v = v;
  first_turn = carry_of s u (used n s a);
  second_turn = carry_of t v (used n t b);
}

abbrev pub sizes : ℕ → ℕ → ℕ → Sizes
sizes n a b = sized n a b (first_sign n a) (second_sign n b) (first_size n a) (second_size n b)

-- with x, r and w = x * v + r, and the result
abbrev pub finished : Sizes → ℕ → ℕ → ℕ → Made
finished o x r w = record {
  of = o;
  x = x;
  r = r;
  w = w;
  z = z_of o.number o.v (result_sign o.number o.s o.t) (result_size o.number x r w) (kn_of o.number w);
  carries = carries x o.v r;
}

abbrev pub made : Sizes → Made
made o = finished o (x_of o.number o.u o.v) (r_of o.number o.u o.v) (x_of o.number o.u o.v * o.v + r_of o.number o.u o.v)

abbrev pub made_by : StepRecord → Made
made_by r = made (sizes (op_number r.op - 17) (first_of r) r.b)

-- the carries of a result that is turned
abbrev pub low_turn : Made → ℕ
low_turn x = unless_zero x.of.number x.of.v (k1_of (result_sign x.of.number x.of.s x.of.t) (result_size x.of.number x.x x.r x.w) x.z (kn_of x.of.number x.w))

abbrev pub high_turn : Made → ℕ
high_turn x = unless_zero x.of.number x.of.v (k2_of (result_sign x.of.number x.of.s x.of.t) (result_size x.of.number x.x x.r x.w) x.z (kn_of x.of.number x.w))

-- a cell of the operation's row
unfoldable pub cell_of : ArithCell → Made → ℕ
cell_of cells.Selector x = 1
cell_of (cells.IsOperation k) x = one_if (x.of.number == k)
cell_of (cells.FirstDigit i) x = digit x.of.a i
cell_of (cells.SecondDigit i) x = digit x.of.b i
cell_of (cells.FactorDigit i) x = digit x.x i
cell_of (cells.SizeDigit i) x = digit x.of.v i
cell_of (cells.RestDigit i) x = digit x.r i
cell_of (cells.SumDigit i) x = digit x.w i
cell_of (cells.CarryLow i) x = carry i x.carries % 2 ^ 16
cell_of (cells.CarryHigh i) x = carry i x.carries / 2 ^ 16
cell_of cells.FirstSign x = sign_bit x.of.number x.of.a
cell_of cells.FirstRest x = top_digit x.of.number x.of.a % 2 ^ 15
cell_of cells.SecondSign x = sign_bit x.of.number x.of.b
cell_of cells.SecondRest x = top_digit x.of.number x.of.b % 2 ^ 15
cell_of cells.FirstTurn x = x.of.first_turn
cell_of cells.SecondTurn x = x.of.second_turn
cell_of cells.LowIsSome x = kn_of x.of.number x.w
cell_of cells.ExcessLow x = n_of x.of.number x.w % 2 ^ 16
cell_of cells.ExcessHigh x = n_of x.of.number x.w / 2 ^ 16
cell_of cells.ByZero x = zb_of x.of.number x.of.v
cell_of (cells.GapDigit i) x = digit (g_of x.of.number x.of.v x.r) i
cell_of cells.GapCarry x = kg_of x.of.number x.of.v x.r
cell_of (cells.ResultDigit i) x = digit x.z i
cell_of cells.LowTurn x = low_turn x
cell_of cells.HighTurn x = high_turn x
cell_of cells.WordSign x = x.z / 2 ^ 31 % 2
cell_of cells.WordRest x = x.z / 2 ^ 16 % 2 ^ 15
