use Rattle.std.proofs.Common.{◌≡◌, ◌+◌, ◌*◌, ◌≤◌, ℕ, List, length, take, drop, refl, ap, sym, ◌∙◌, subst, arith, Option, None}
use Rattle.std.specs.Prelude.{IfSome}
use Rattle.mem_rows.specs.declared.access.Access.{Access}
use Rattle.mem_rows.specs.declared.access.TheConstants.{END}
use Rattle.mem_rows.specs.Columns.{last_from}
use Rattle.mem_rows.proofs.Cells.{last_time, table_is, rest_is}
use Rattle.mem_rows.proofs.instances.instance_of.Goals as goal

pub columns_of-requires-clause-before : goal.columns_of-requires-clause-before
columns_of-requires-clause-before c =
    subst (λ (o : Option Access). IfSome o (λ (a : Access). a.time ≤ END)) (sym c.before-2.ensures) (last_time None c.args.accesses.now _ tt c.requires.times)

pub returns : goal.returns
returns c =
    table_is c.args.accesses.now _ c.args.instance _ c.rows-rows.result _ _ _ c.number.ensures.value c.rows-rows.ensures.value (omega arith) refl (omega (arith, ap (λ m. c.args.instance * m) c.rows-rows.ensures.value)) (c.front-own.ensures ∙ ap (take c.rows-rows.result) (rest_is c.args.accesses.now _)) c.before-2.ensures c.in_ok-columns.ensures
