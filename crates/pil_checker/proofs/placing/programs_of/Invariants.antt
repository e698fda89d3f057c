use Rattle.std.proofs.Common.{ℕ, ◌≡◌, Some, length, slice_get}
use Rattle.pil_ast.specs.Tree.{namespaces}
use Rattle.pil_program.specs.declared.compiling.Program.{Program}
use Rattle.pil_program.specs.Program.{IsProgramOf}
use Rattle.pil_checker.proofs.placing.programs_of.Given as goal

abbrev pub invariant-loop-space : goal.invariant-loop-space
invariant-loop-space l = record {
  long : length l.programs.items ≡ l.space;
  each : (s : ℕ) (p : Program) → slice_get l.programs.items s ≡ Some p → IsProgramOf (namespaces l.pil) s p.nodes p.here p.next;
}
