use Rattle.zk_top.proofs.Stages.{early_report, final_report}
use Rattle.zk_top.proofs.ending.finish.Goals as goal

pub returns-in-Ok-clause-ends : goal.returns-in-Ok-clause-ends
returns-in-Ok-clause-ends g c = λ told start o ended is ready. final_report o c.args.status c.args.text.now start (g.H.Host.world c.args.host.now) (g.H.Host.world c.report_all.new.host) c.requires ended is ready (c.in-Ok.ensures.all told)

pub returns-in-Err-WriteFault-clause-ends : goal.returns-in-Err-WriteFault-clause-ends
returns-in-Err-WriteFault-clause-ends g c = λ told start o ended is ready. early_report o c.args.text.now start (g.H.Host.world c.args.host.now) (g.H.Host.world c.report_all.new.host) is ready (c.in-Err-WriteFault.ensures.front told)

pub returns-clause-ends : goal.returns-clause-ends
returns-clause-ends g c = λ told start o ended is ready. early_report o c.args.text.now start (g.H.Host.world c.args.host.now) (g.H.Host.world c.report_all.new.host) is ready (c.in-Err-NoMemory.ensures.front told)
