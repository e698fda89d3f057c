-- How far the chunks so far lead in an air.
use Rattle.std.specs.Prelude.{◌≡◌, ℕ, ◌+◌, ◌-◌, ◌*◌, ◌/◌, ◌^◌, ◌≤◌, List, length}
use Rattle.zk_layout.specs.Air.{rows_per}
use Rattle.zk_layout.specs.declared.air.Air.{Air}
use Rattle.zk_layout.specs.declared.air.Air.TheVariants.{Main, Mem, Binary, Shift, Arith, Align, Out}
use Rattle.min_trace.specs.declared.chunk.TheConstants.{STEPS_PER_CHUNK, MOST_CHUNKS}
use Rattle.planner.specs.declared.counts.Counts.{Counts}
use Rattle.planner.specs.declared.job.Job.{Job}
use Rattle.planner.specs.declared.track.Track.{Track}
use Rattle.planner.specs.declared.track.Tracks.{Tracks}
use Rattle.planner.specs.Jobs.{jobs, total, first_row}

-- job i takes nothing of the chunks before chunk k, which begins with row first
pub record IsBefore (air : Air) (counts : List Counts) (i k first : ℕ) : Type 0 where
  pub there : k ≤ length counts
  pub row : first ≡ first_row air counts k
  pub low : first ≤ i * rows_per air

pub record IsTrack (air : Air) (counts : List Counts) (t : Track) : Type 0 where
  pub exact : t.rows ≡ total air counts
  pub most : t.rows ≤ STEPS_PER_CHUNK * length counts
  pub open_job : IsBefore air counts (t.rows / rows_per air) t.chunk t.before

unfoldable pub track_in : Air → Tracks → Track
track_in Main t = t.main
track_in Mem t = record { rows = 0; chunk = 0; before = 0 }
track_in Binary t = t.binary
track_in Shift t = t.shift
track_in Arith t = t.arith
track_in Align t = t.align
track_in Out t = record { rows = 0; chunk = 0; before = 0 }

-- what a plan keeps
pub record IsKept (counts : List Counts) (t : Tracks) : Type 0 where
  pub each : (air : Air) → IsTrack air counts (track_in air t)
  pub few : length counts ≤ MOST_CHUNKS

-- a track that one more chunk led from one to the other, the new chunk among the counts
pub record IsNext (air : Air) (counts : List Counts) (a b : Track) : Type 0 where
  pub open_job : IsBefore air counts (a.rows / rows_per air) a.chunk a.before
  pub most : b.rows ≤ 2 ^ 32
  pub order : a.rows ≤ b.rows
  pub near : b.rows ≤ a.rows + rows_per air

-- an air's jobs that became whole between two tracks
abbrev pub made_of : Air → List Counts → Tracks → Tracks → List Job
made_of air counts a b = jobs air counts ((track_in air a).rows / rows_per air) ((track_in air b).rows / rows_per air - (track_in air a).rows / rows_per air)
