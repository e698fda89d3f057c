use Rattle.std.proofs.Common.{◌≡◌, refl, ap, ◌∙◌}
use Rattle.std.specs.Int.{w32}
use Rattle.std.proofs.lemmas.Result.{err_from_is_err_and}
use Rattle.tab_file.specs.Items.{number_at}
use Rattle.tab_file.proofs.Grown.{head_fails, head_grows}
use Rattle.tab_file.proofs.partial.Partial.take_head.Goals as goal

pub returns-in_err-check_head-clause-takes : goal.returns-in_err-check_head-clause-takes
returns-in_err-check_head-clause-takes c four file begin n q more s =
    let e = c.in_err-check_head.field-0.0 in
    let r = err_from_is_err_and c.from_residual.result c.from_residual.ensures.1 in
    let number : c.number_in-number.result ≡ number_at w32 c.args.self.now.part.items 0 = c.number_in-number.ensures ∙ ap (λ xs. number_at w32 xs 0) c.deref.ensures.value in
    rw (r.1, r.2) (head_fails file begin n q c.args.self.now more c.number_in-number.result e s c.requires.heads four number c.in_err-check_head.ensures.right.0 c.in_err-check_head.ensures.right.1)

pub returns-clause-takes : goal.returns-clause-takes
returns-clause-takes c four file begin n q more s =
    let number : c.number_in-number.result ≡ number_at w32 c.args.self.now.part.items 0 = c.number_in-number.ensures ∙ ap (λ xs. number_at w32 xs 0) c.deref.ensures.value in
    head_grows file begin n q c.args.self.now _ more c.number_in-number.result s c.requires.heads four number c.in_ok-check_head.ensures.right
    (record {
      due = refl;
      heads = refl;
      at = refl;
      part = c.clear.ensures.items;
      columns = refl;
      column = refl;
      first = c.air_after-self.ensures.first;
      later = c.air_after-self.ensures.later;
      instance = c.in_ok-check_head.ensures.instance;
    })
