-- Chunks of a run.
use Rattle.std.specs.Prelude.{◌≡◌, ℕ, ◌+◌, ◌-◌, ◌*◌, ◌<◌, ◌≤◌, ◌⊎◌, List, drop}
use Rattle.rv_model.specs.Image.{Img}
use Rattle.rv_model.specs.State.{Answer, Next, Halt, Fault}
use Rattle.rv_model.specs.Run.{step_at, IsNext, IsHalt}
use Rattle.rv_model.specs.declared.cpu.Cpu.{Cpu}
use Rattle.min_trace.specs.Record.{records_between, olds_between, cpu_at}
use Rattle.min_trace.specs.declared.chunk.TheConstants.{STEPS_PER_CHUNK, MOST_CHUNKS}
use Rattle.min_trace.specs.declared.record.StepRecord.{StepRecord}

-- a chunk: its number, pc and registers before it, its count of steps, and the old doublewords in order
pub record Piece : Type 0 where
  pub number : ℕ
  pub start : Cpu
  pub steps : ℕ
  pub olds : List ℕ

-- a step of a run: it leads on or halts
abbrev pub IsStep : Answer → Type 0
IsStep (Next t) = Unit {0}
IsStep Halt = Unit {0}
IsStep (Fault f) = ⊥

-- the first step of chunk k
abbrev pub first_step : ℕ → ℕ
first_step k = STEPS_PER_CHUNK * k

-- a chunk of the image's run: the steps from its first on, as many as a chunk has, or up to the halt
pub record IsChunk (image : Img) (c : Piece) : Type 0 where
  pub number : c.number < MOST_CHUNKS
  pub some : 0 < c.steps
  pub most : c.steps ≤ STEPS_PER_CHUNK
  pub start : c.start ≡ cpu_at image (first_step c.number)
  pub on : (j : ℕ) → j + 1 < first_step c.number + c.steps → IsNext (step_at image j)
  pub last : IsStep (step_at image (first_step c.number + c.steps - 1))
  pub whole : (c.steps ≡ STEPS_PER_CHUNK) ⊎ IsHalt (step_at image (first_step c.number + c.steps - 1))
  pub olds : c.olds ≡ olds_between image (first_step c.number) c.steps

-- the records of its steps that are left after some
abbrev pub left : Img → Piece → ℕ → List StepRecord
left image c taken = records_between image (first_step c.number + taken) (c.steps - taken)

-- a replay that has taken some of the steps, and some of the old doublewords with them
pub record IsReplay (image : Img) (c : Piece) (taken at : ℕ) (now : Cpu) : Type 0 where
  pub chunk : IsChunk image c
  pub most : taken ≤ c.steps
  pub low : at ≤ taken
  pub cpu : now ≡ cpu_at image (first_step c.number + taken)
  pub olds : drop at c.olds ≡ olds_between image (first_step c.number + taken) (c.steps - taken)
