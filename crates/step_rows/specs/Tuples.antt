-- What steps say to each other's tables: the tuples of operations and of loads and stores (docs/WITNESS.md, "Tuples").
use Rattle.std.specs.Prelude.{ℕ, ◌/◌, ◌%◌, ◌^◌, ◌<◌, ◌≡◌, List, [], ◌∷◌}
use Rattle.rv_word.specs.declared.instr.Kind.{Kind}
use Rattle.rv_word.specs.declared.instr.OpNo.{OpNo}
use Rattle.rv_word.specs.Numbers.{op_number, kind_number}
use Rattle.rv_model.specs.Op.{value_of, flag_of}
use Rattle.rv_model.specs.Align.{width, aligned}
use Rattle.zk_layout.specs.Air.{air_of}
use Rattle.zk_layout.specs.declared.air.Air.{Air}
use Rattle.step_rows.specs.Words.{one_if}

-- an operation: its number, the limbs of both operands and of the value, and the flag
abbrev pub op_tuple : OpNo → ℕ → ℕ → List ℕ
op_tuple o a b =
    op_number o ∷ a % 2 ^ 32 ∷ a / 2 ^ 32 ∷ b % 2 ^ 32 ∷ b / 2 ^ 32 ∷ value_of o a b % 2 ^ 32 ∷ value_of o a b / 2 ^ 32 ∷ one_if (flag_of o a b) ∷ []

-- the tuple is that of an operation on numbers of 64 bits, so that each of its limbs is below 2^32
pub record IsOperation (t : List ℕ) : Type 0 where
  pub o : OpNo
  pub a : ℕ
  pub b : ℕ
  pub a_fits : a < 2 ^ 64
  pub b_fits : b < 2 ^ 64
  pub value_fits : value_of o a b < 2 ^ 64
  pub is : t ≡ op_tuple o a b

-- and the operation is one of the air's
abbrev pub IsOperationOf : Air → List ℕ → Type 0
IsOperationOf air t = (h : IsOperation t) × (air_of h.o ≡ air)

-- a load or a store: the kind's number, the place in the doubleword, and the limbs of the old doubleword, of the value and of
-- what comes of them
abbrev pub access_tuple : Kind → ℕ → ℕ → ℕ → List ℕ
access_tuple k off old value =
    kind_number k ∷ off ∷ old % 2 ^ 32 ∷ old / 2 ^ 32 ∷ value % 2 ^ 32 ∷ value / 2 ^ 32 ∷ aligned k off old value % 2 ^ 32 ∷ aligned k off old value / 2 ^ 32 ∷ []

-- the tuple is that of an access within a doubleword, at a multiple of its width
pub record IsAccess (t : List ℕ) : Type 0 where
  pub kind : Kind
  pub off : ℕ
  pub old : ℕ
  pub value : ℕ
  pub off_below : off < 8
  pub even : off % width kind ≡ 0
  pub old_fits : old < 2 ^ 64
  pub value_fits : value < 2 ^ 64
  pub result_fits : aligned kind off old value < 2 ^ 64
  pub is : t ≡ access_tuple kind off old value
