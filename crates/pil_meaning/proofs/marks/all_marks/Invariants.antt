use Rattle.std.proofs.Common.{map}
use Rattle.pil_ast.specs.Tree.{namespace}
use Rattle.pil_meaning.proofs.Marking.{FirstMarks}
use Rattle.pil_meaning.proofs.marks.all_marks.Given as goal

abbrev pub invariant-loop-space : goal.invariant-loop-space
invariant-loop-space l = FirstMarks (map namespace l.pil.spaces) l.space-index l.marks
