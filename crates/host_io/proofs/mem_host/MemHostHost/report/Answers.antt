use Rattle.std.proofs.Common.{subst, List, ℕ}
use Rattle.std.specs.Prelude.{Contains}
use Rattle.host_io.specs.Memory.{calls_of}
use Rattle.host_io.specs.declared.call.HostCall.{HostCall}
use Rattle.host_io.specs.declared.call.HostCall.TheVariants as calls
use Rattle.host_io.proofs.mem_host.MemHostHost.report.Goals as goal

pub returns-then-begin_call-clause-only : goal.returns-then-begin_call-clause-only
returns-then-begin_call-clause-only c = λ failed. subst (λ (xs : List (HostCall × ℕ)). Contains xs (calls.Report, calls_of c.args.self.now.counts calls.Report)) c.deref.ensures.value (c.begin_call.ensures.listed.0 c.if-begin_call.true)
