use Rattle.std.proofs.Common.{ap, sym, ◌∙◌}
use Rattle.std.proofs.lemmas.List.{append-nil}
use Rattle.demo_program.specs.Draws.{draw}
use Rattle.demo_program.specs.Program.{drawn}
use Rattle.demo_program.proofs.Listing.{pushed, state_none, state_more, draw_is}
use Rattle.demo_program.proofs.program.push_drawn.Goals as goal

pub loop-init : goal.loop-init
loop-init c = record { items = sym (append-nil _); drawn = state_none _ }

pub loop-preserved : goal.loop-preserved
loop-preserved c = record {
  items = pushed (λ k. drawn c.args.kind (draw c.args.draws.now.state k)) c.args.program.now.items c.loop.program.items c.push.new.self.items _ c.loop.counter c.loop.invariant.items c.in_ok-push.ensures.items
      (c.drawn.ensures ∙ ap (drawn c.args.kind) (c.draw.ensures.value ∙ draw_is _ _ c.loop.counter c.loop.invariant.drawn));
  drawn = c.draw.ensures.state ∙ state_more _ _ c.loop.counter c.loop.invariant.drawn;
}
