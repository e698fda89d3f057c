use Rattle.std.proofs.Common.{ℕ, ◌<◌, get_or, map, sym, subst, below_more}
use Rattle.pil_ast.specs.Tree.{tuples}
use Rattle.pil_program.specs.Publics.{NoneInList}
use Rattle.pil_program.proofs.Unnamed.{map-read}
use Rattle.pil_program.proofs.publics.none_in_lists.Goals as goal

pub loop-list-preserved : goal.loop-list-preserved
loop-list-preserved c = λ k d. below_more (λ j. NoneInList (get_or (map tuples c.args.lists.now) j d)) c.loop-list.list-index (λ j l. c.loop-list.invariant j d l)
    (subst NoneInList (sym (map-read tuples c.args.lists.now c.loop-list.list-index c.list-item.result d c.loop-list-test.true c.list-item.is)) (c.none_in_list.ensures c.if-not-none_in_list.false)) k
