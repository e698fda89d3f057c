-- Binary: sums, comparisons, bitwise operations, sums with a shifted operand and conditional zeros, a row each
-- (docs/CONSTRAINTS.md, "Binary").
--
-- A selected row says by one of its flags q, x which of the 15 operations it is. Its operands stand as bytes a and b, and n
-- has the bitwise and of each pair, all found in BinTab: OR and XOR are the sum less the and, once and twice. z is the sum
-- or the difference in four digits of 16 bits, so that its limbs are below 2^32 and the two lines of sums leave one z for
-- given carries k, j: for a difference the lines say b + z = a, and k are borrows. The bits k, looked up in Bit, are what
-- LTU tells; the j are carries of SHnADD, which go up to 8, and stand apart since k is a bit. sa, sb, sw are the signs of
-- a, b and of z's low limb: the top byte, or digit, is the sign at its place plus a rest, whose multiple in Range16 bounds
-- it below the sign. `eq` says that the difference, or b, is 0; that it is not 0 is shown by e, one less than a sum of
-- digits or bytes that can't wrap.
use Rattle.std.specs.Prelude.{ℕ, ◌^◌, ◌<◌, ◌≡◌, ◌≢◌, ◌⊎◌, List}
use Rattle.rv_word.specs.declared.instr.OpNo.{OpNo}
use Rattle.gold.specs.Field.{p}
use Rattle.zk_layout.specs.Air.{air_of}
use Rattle.zk_layout.specs.declared.air.Air.TheVariants as airs
use Rattle.step_rows.specs.Tuples.{op_tuple, IsOperationOf}
use Rattle.step_rows.specs.BinaryRow.{binary_row}
use Rattle.pil_ast.specs.Term.{Namespace, item_at, space_at}
use Rattle.pil_ast.specs.Columns.{Columns}
use Rattle.pil_ast.specs.Value.{around}
use Rattle.pil_ast.specs.Holds.{tuple, times, sent, Holds, AllHold}
use Rattle.pil_exact.specs.Exact.{HoldsExactly}
use Rattle.pil_exact.specs.Tables.{SmallTables}
use Rattle.machine_text.specs.Binary.{here, items, operation, space}
use Rattle.air_ops.specs.Tables.{Meets, HasRow}

-- Binary stands in the text, the small tables have their constants, and the values are those of a field.
pub record HasBinary (ns : List Namespace) (c : Columns) : Type 0 where
  pub stands : space_at ns here ≡ space
  pub tables : SmallTables c
  pub in_field : (s i k r : ℕ) → c.at s i k r < p

-- A selected row that meets the lines has the tuple of one of Binary's operations.
abbrev pub IsSound : Type 0
IsSound = (ns : List Namespace) (c : Columns) (i r : ℕ) → HasBinary ns c → Meets ns c i r items → c.at here i 0 r ≢ 0 → IsOperationOf airs.Binary (tuple ns c here i r operation.terms)

-- No wrap: where a row meets the lines, selected or not, each identity holds in whole numbers.
abbrev pub IsExact : Type 0
IsExact = (ns : List Namespace) (c : Columns) (i r : ℕ) → HasBinary ns c → Meets ns c i r items → (k : ℕ) → HoldsExactly items (around ns c here i r) (item_at items k)

-- The row of an operation meets the lines, and has the operation's tuple.
abbrev pub IsComplete : Type 0
IsComplete =
    (ns : List Namespace) (c : Columns) (i r : ℕ) (o : OpNo) (a b : ℕ) → HasBinary ns c → air_of o ≡ airs.Binary → a < 2 ^ 64 → b < 2 ^ 64 → HasRow c here i r (binary_row o a b)
    → Meets ns c i r items × (tuple ns c here i r operation.terms ≡ op_tuple o a b)

-- A row that isn't selected meets the lines, whatever its other values.
abbrev pub AllowsPadding : Type 0
AllowsPadding = (ns : List Namespace) (c : Columns) (i r : ℕ) → HasBinary ns c → c.at here i 0 r ≡ 0 → Meets ns c i r items

-- Where a text holds, each tuple that Binary gives to Main's operations is that of one of Binary's.
abbrev pub SendsOperations : Type 0
SendsOperations = (ns : List Namespace) (c : Columns) (t : List ℕ) → HasBinary ns c → AllHold ns c → times t (sent ns c operation) ≢ 0 → IsOperationOf airs.Binary t

-- row r of instance i is that of an operation, or isn't selected
abbrev pub IsFilled : Columns → ℕ → ℕ → Type 0
IsFilled c i r = (c.at here i 0 r ≡ 0) ⊎ ((o : OpNo) × (a : ℕ) × (b : ℕ) × (air_of o ≡ airs.Binary) × (a < 2 ^ 64) × (b < 2 ^ 64) × HasRow c here i r (binary_row o a b))

-- Where each row is filled so, each line of Binary holds.
abbrev pub HoldsFilled : Type 0
HoldsFilled = (ns : List Namespace) (c : Columns) → HasBinary ns c → ((i r : ℕ) → i < c.instances here → r < c.rows here → IsFilled c i r) → (k : ℕ) → Holds ns c (item_at items k)
