-- Third: the induction over rows. Row number j has the pc of state j, and the writes before it leave state j; so it reads
-- state j, its second operand is one of 64 bits, its tuples are right, and it is step j.
use Rattle.std.specs.Prelude.{ℕ, suc, ◌+◌, ◌*◌, ◌^◌, ◌<◌, ◌≤◌, ◌≡◌, ◌≢◌, false, List, length, Contains}
use Rattle.pil_ast.specs.Term.{Namespace}
use Rattle.pil_ast.specs.Columns.{Columns}
use Rattle.pil_ast.specs.Holds.{tuple}
use Rattle.machine_text.specs.Main
use Rattle.rv_model.specs.Image.{Img, IsLoadable}
use Rattle.rv_model.specs.State.{State, Halt, reg}
use Rattle.rv_model.specs.Run.{state_at, step_at, IsNext}
use Rattle.rv_model.specs.declared.machine.TheConstants.{MEMORY_WORDS}
use Rattle.step_rows.specs.Tuples.{IsOperation, IsAccess}
use Rattle.step_rows.specs.declared.key.TheConstants.{REGISTERS}
use Rattle.air_main.specs.Step.{Limbs}
use Rattle.air_main.specs.Law.{at_row}
use Rattle.air_mem.specs.Access.{Access, IsEarlierWrite, IsLastWrite}
use Rattle.main_run.specs.Chain.{MainStands, IsPlace}
use Rattle.main_run.specs.Bus.{IsBus}

-- a read of the key at the time, whatever its value
abbrev pub reading : ℕ → ℕ → Access
reading k t = record { key = k; time = t; write = false; lo = 0; hi = 0 }

-- the writes of the key before the time leave the number: it is that of the last one, or 0 where there is none
pub data Leaves (xs : List Access) (k t v : ℕ) : Type 0 where
  by : (w : Access) → IsLastWrite xs (reading k t) w → Limbs w.lo w.hi v → Leaves xs k t v
  untouched : ((w : Access) → Contains xs w → IsEarlierWrite (reading k t) w → ⊥) → v ≡ 0 → Leaves xs k t v

-- the writes before the time leave the registers and doublewords of the state
pub record Keeps (xs : List Access) (t : ℕ) (s : State) : Type 0 where
  pub registers : (k : ℕ) → k < 32 → Leaves xs (REGISTERS + k) t (reg s k)
  pub words : (k : ℕ) → k < MEMORY_WORDS → Leaves xs k t (s.word k)
  pub zero : reg s 0 ≡ 0
  pub len : length s.x ≡ 32

-- What is supposed: the image was loaded, Main's lines, what the other airs promise of the tuples of lines 18 and 19, and line 20's accesses. The
-- promise of operations needs that the high limb of the second operand is one.
pub record Supposed (ns : List Namespace) (c : Columns) (n : ℕ) (image : Img) (xs : List Access) : Type 0 where
  pub stands : MainStands ns c n image
  pub operation : (i r : ℕ) → i < c.instances Main.here → r < c.rows Main.here → at_row ns c i r Main.sel ≢ 0 → at_row ns c i r Main.bhi < 2 ^ 32 → IsOperation (tuple ns c Main.here i r Main.operation.terms)
  pub access : (i r : ℕ) → i < c.instances Main.here → r < c.rows Main.here → at_row ns c i r Main.ms ≢ 0 → IsAccess (tuple ns c Main.here i r Main.access.terms)
  pub loadable : IsLoadable image
  pub bus : IsBus ns c image xs

-- The fact at row number j: it is selected, has the pc of state j, and the writes before it leave state j.
pub record Fact (ns : List Namespace) (c : Columns) (image : Img) (xs : List Access) (j : ℕ) : Type 0 where
  pub instance : ℕ
  pub row : ℕ
  pub place : IsPlace c j instance row
  pub selected : at_row ns c instance row Main.sel ≢ 0
  pub on : (g : ℕ) → g < j → IsNext (step_at image g)
  pub pc : at_row ns c instance row Main.pc ≡ (state_at image j).pc
  pub keeps : Keeps xs (8 * j + 1) (state_at image j)

-- what the row reads is the state's
pub record Reads (ns : List Namespace) (c : Columns) (i r : ℕ) (s : State) : Type 0 where
  pub first : Limbs (at_row ns c i r Main.alo) (at_row ns c i r Main.ahi) (reg s (at_row ns c i r Main.rs1))
  pub second : Limbs (at_row ns c i r Main.slo) (at_row ns c i r Main.shi) (reg s (at_row ns c i r Main.rs2))
  pub old : at_row ns c i r Main.ms ≢ 0 → Limbs (at_row ns c i r Main.olo) (at_row ns c i r Main.ohi) (s.word (at_row ns c i r Main.w))

-- From row number j to the next: it reads the state, and halts or goes on.
pub record Steps (ns : List Namespace) (c : Columns) (image : Img) (xs : List Access) (j : ℕ) (f : Fact ns c image xs j) : Type 0 where
  pub reads : Reads ns c f.instance f.row (state_at image j)
  pub halts : at_row ns c f.instance f.row Main.halt ≡ 1 → step_at image j ≡ Halt
  pub goes : at_row ns c f.instance f.row Main.halt ≢ 1 → Fact ns c image xs (suc j)

-- Row 0 is selected and has the start.
abbrev pub BeginLaw : Type 0
BeginLaw = (ns : List Namespace) (c : Columns) (n : ℕ) (image : Img) (xs : List Access) → Supposed ns c n image xs → Fact ns c image xs 0

abbrev pub StepsLaw : Type 0
StepsLaw = (ns : List Namespace) (c : Columns) (n : ℕ) (image : Img) (xs : List Access) → Supposed ns c n image xs → (j : ℕ) (f : Fact ns c image xs j) → Steps ns c image xs j f

-- The run halts at row number `last`: the rows up to it have their facts, it is the Halt, and no later row is selected.
pub record Halted (ns : List Namespace) (c : Columns) (image : Img) (xs : List Access) : Type 0 where
  pub last : ℕ
  pub facts : (j : ℕ) → j ≤ last → Fact ns c image xs j
  pub reads : (j : ℕ) (h : j ≤ last) → Reads ns c (facts j h).instance (facts j h).row (state_at image j)
  pub fact : Fact ns c image xs last
  pub halt : at_row ns c fact.instance fact.row Main.halt ≡ 1
  pub halts : step_at image last ≡ Halt
  pub rest : (k i r : ℕ) → last < k → IsPlace c k i r → at_row ns c i r Main.sel ≡ 0
  pub below : last < 2 ^ 32

abbrev pub HaltLaw : Type 0
HaltLaw = (ns : List Namespace) (c : Columns) (n : ℕ) (image : Img) (xs : List Access) → Supposed ns c n image xs → Halted ns c image xs
