use Rattle.std.proofs.Common.{◌≤◌, Some, refl, sym, ap, ◌∙◌, subst, arith}
use Rattle.pil_names.specs.Shown.{outlined}
use Rattle.pil_meaning.specs.Marks.{double, AreWritable}
use Rattle.pil_text.specs.declared.error.PilKind.TheVariants.{CyclicPol, DoubleMark}
use Rattle.pil_text.specs.Refusal.{IsCyclic}
use Rattle.pil_text.proofs.Order.{unless, breaks, told, past_cyclic}
use Rattle.pil_text.proofs.Spaces.{none_cyclic, cyclic_at, cyclic_least, writable}
use Rattle.pil_text.proofs.resolve.check_tree.Goals as goal

pub returns-in-Some-clause-told : goal.returns-in-Some-clause-told
returns-in-Some-clause-told c =
    let o = outlined c.args.outline.now in
    let e = c.refusal.result in
    unless o e (breaks o CyclicPol e c.requires.named (omega arith) c.refusal.ensures.kind
    (subst (IsCyclic o) (sym c.refusal.ensures.at) (cyclic_at o c.in_ok-at.field-0 c.in-Some.at c.in-Some.is c.in_ok-at.ensures))
    (λ at w. subst (λ m. m ≤ at) (sym c.refusal.ensures.at) (cyclic_least o c.in_ok-at.field-0 c.in-Some.at c.in-Some.is c.in_ok-at.ensures at w)))

pub least_double_mark-requires-clause-writable : goal.least_double_mark-requires-clause-writable
least_double_mark-requires-clause-writable c =
    let o = outlined c.args.outline.now in
    let closed = c.requires.readable.closed (c.requires.named.unknown (omega arith)) (c.requires.named.mixed (omega arith)) in
    subst AreWritable (sym c.requires.meant) (writable o closed c.without_cycle_are_ranked.ensures (none_cyclic o c.in_ok-at.field-0 c.in_default.is c.in_ok-at.ensures))

pub returns-in-Some-2-clause-told : goal.returns-in-Some-2-clause-told
returns-in-Some-2-clause-told c =
    let o = outlined c.args.outline.now in
    let first = past_cyclic o c.requires.named (none_cyclic o c.in_ok-at.field-0 c.in_default.is c.in_ok-at.ensures) in
    unless o c.refusal-in-Some-2.result (told c.least_is_least.ensures.least o DoubleMark (double o) c.in_ok-at-2.field-0 c.refusal-in-Some-2.result first (omega arith) (λ at. refl) c.in_ok-at-2.ensures c.refusal-in-Some-2.ensures.kind (c.in-Some-2.is ∙ ap Some (sym c.refusal-in-Some-2.ensures.at)))
