use Rattle.std.proofs.Common.{ℕ, ◌<◌, ◌≤◌, length}
use Rattle.pil_checker.specs.Programs.{nodes_at}
use Rattle.pil_checker.proofs.checker.most_steps.Given as goal

abbrev pub invariant-loop-program : goal.invariant-loop-program
invariant-loop-program l = (s : ℕ) → s < l.program-index → length (nodes_at l.programs s) ≤ l.most
