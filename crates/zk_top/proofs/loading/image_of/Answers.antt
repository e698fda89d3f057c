use Rattle.std.proofs.Common.{⊎_elim}
use Rattle.zk_top.proofs.loading.image_of.Goals as goal

pub returns-in-Ok-clause-only : goal.returns-in-Ok-clause-only
returns-in-Ok-clause-only c = (
  λ other loads. ⊎_elim (λ e. cc (e, c.in-Ok.is)) (λ e. absurd (cc (e, c.in-Ok.is))) (c.load.ensures.loads other loads),
  λ e refused. ⊎_elim (λ is. absurd (cc (is, c.in-Ok.is))) (λ is. absurd (cc (is, c.in-Ok.is))) (c.load.ensures.refuses e refused),
)
