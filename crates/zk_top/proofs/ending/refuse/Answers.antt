use Rattle.std.proofs.Common.{rules, inr, refl, ◌∙◌, arith}
use Rattle.zk_top.specs.Parts.{IsDecided}
use Rattle.zk_top.proofs.Stages.{stops_early, refused_ends}
use Rattle.zk_top.proofs.ending.refuse.Goals as goal

pub returns-in-Ok : goal.returns-in-Ok
returns-in-Ok g c = record {
  told = c.finish.ensures.told;
  ends = λ told start o stops.
      let decided : IsDecided c.args.status = search rules in
      refused_ends o c.args.status c.finish.result c.deref.result.now start (g.H.Host.world c.args.host.now) (g.H.Host.world c.finish.new.host) decided (c.deref.ensures.value ∙ c.in-Ok.ensures) stops
      (λ ended is ready. c.finish.ensures.ends told start o ended is ready);
  status = c.finish.ensures.status;
  later = c.finish.ensures.later;
  fault = λ e. inr (c.finish.ensures.fault e);
}

pub returns-in-Err : goal.returns-in-Err
returns-in-Err g c = record {
  told = λ told. told;
  ends = λ told start o stops. stops_early o c.args.status start (g.H.Host.world c.args.host.now) stops;
  status = inr (inr refl);
  later = omega arith;
  fault = λ e. absurd (cc (e));
}
