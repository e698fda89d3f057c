use Rattle.std.proofs.Common.{sym, ◌∙◌}
use Rattle.std.proofs.lemmas.List.{append-nil}
use Rattle.demo_program.specs.Program.{set_value}
use Rattle.demo_program.proofs.Listing.{pushed, state_none, state_more, set_value_is}
use Rattle.demo_program.proofs.program.push_values.Goals as goal

pub loop-j-init : goal.loop-j-init
loop-j-init c = record { items = sym (append-nil _); drawn = state_none _ }

pub loop-j-preserved : goal.loop-j-preserved
unfolding set_value
loop-j-preserved c = record {
  items = pushed (set_value c.args.draws.now.state) c.args.program.now.items c.loop-j.program.items c.push.new.self.items _ c.loop-j.j c.loop-j.invariant.items c.in_ok-push.ensures.items (c.set.ensures ∙ set_value_is _ _ c.loop-j.j _ _ c.loop-j.invariant.drawn c.value.ensures c.draw.ensures.value);
  drawn = c.draw.ensures.state ∙ state_more _ _ c.loop-j.j c.loop-j.invariant.drawn;
}
