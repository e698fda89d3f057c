use Rattle.std.proofs.Common.{◌≡◌, length, ap, arith}
use Rattle.mem_rows.specs.declared.columns.Step.{Step}
use Rattle.mem_rows.proofs.Cells.{length-steps}
use Rattle.mem_rows.proofs.columns.columns_of.Goals as goal

pub push_steps-requires : goal.push_steps-requires
push_steps-requires c = let e = ap (length {A = Step}) c.deref.ensures.value in let s = ap (length {A = Step}) c.in_ok-steps.ensures in omega (arith, length-steps c.args.before c.args.accesses.now, c.requires.few)
