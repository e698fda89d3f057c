use Rattle.std.proofs.Common.{ℕ, ◌≡◌, ◌<◌, ◌≤◌, ◌-◌, List, length, All, MatchOption}
use Rattle.pil_ast.specs.Term.{Namespace}
use Rattle.pil_ast.specs.Columns.{Columns}
use Rattle.pil_program.specs.declared.nodes.Node.{Node}
use Rattle.instance_pass.specs.Parts.{IsPartIn}
use Rattle.instance_pass.specs.Passes.{Says, IsSameInstance, AreChecksOf, AreTabled, IsPassed, TakesRows, AtEach}
use Rattle.instance_pass.proofs.passes.pass.Given as goal

abbrev pub invariant-loop-base : goal.invariant-loop-base
invariant-loop-base g l = record {
  room : length l.blocks ≡ length l.fn.blocks;
  low : l.base ≤ l.place.rows;
  limit : l.limit ≤ l.asked.limit;
  spot : MatchOption l.found (Unit {0}) (λ f. (f.check < l.asked.limit) × (f.row < l.base));
  inside : All (IsPartIn l.place.space (length l.blocks)) l.parts;
  passed : (ns : List Namespace) (c : Columns) (nodes : ℕ → List Node) → IsSameInstance (g.C.Columns.values l.columns) c l.place.space l.place.instance → nodes l.place.space ≡ l.asked.nodes.now → AreChecksOf ns nodes (length l.asked.tables.now) l.asked.checks.now → AreTabled ns c l.asked.tables.now l.asked.checks.now → IsPassed (Says ns c l.place.space l.place.instance) l.asked.limit l.limit l.base l.found;
  parts : (ns : List Namespace) (c : Columns) → IsSameInstance (g.C.Columns.values l.columns) c l.place.space l.place.instance → AtEach (TakesRows ns c l.place.space l.place.instance l.base l.asked.nodes.now) l.fn.parts l.parts;
}

abbrev pub decreases-loop-base : goal.decreases-loop-base
decreases-loop-base g l = l.place.rows - l.base
