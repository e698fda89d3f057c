use Rattle.std.proofs.Common.{◌≡◌}
use Rattle.rv_model.specs.Plain.{state_of}
use Rattle.rv_model.specs.Run.{state_at, MeetsLimit}
use Rattle.rv_model.proofs.runs.run.Given as goal

abbrev pub invariant-loop-step : goal.invariant-loop-step
invariant-loop-step l = (l.cpu.image ≡ l.image) × (state_of l.cpu ≡ state_at l.image l.step) × MeetsLimit l.image l.step
