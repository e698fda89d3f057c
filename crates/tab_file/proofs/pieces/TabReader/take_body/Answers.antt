use Rattle.std.proofs.Common.{◌≡◌, ◌≤◌, ◌-◌, ℕ, List, length, drop, take, Some, sym, ap, subst, ◌∙◌, arith}
use Rattle.tab_file.specs.Stands.{Opens}
use Rattle.tab_file.proofs.Values.{rest_of}
use Rattle.tab_file.proofs.Headers.{opens}
use Rattle.tab_file.proofs.pieces.TabReader.take_body.Goals as goal

pub returns-clause-opens : goal.returns-clause-opens
returns-clause-opens c =
    let h = c.args.header in
    let all = c.deref.ensures.value ∙ ap (λ v. v.items) c.replace-bytes.ensures.value in
    let body = ap (λ r. r.body) c.set_body.ensures in
    subst (λ b. Opens h.airs.items h.counts.items h.end c.args.self.now.header.items b c.take-read.new.tables c.take-read.result) (sym body)
    (opens h.airs.items h.counts.items h.end c.args.self.now.header.items _ c.in_ok-body.body c.take-read.new.self c.args.tables.now c.take-read.new.tables c.take-read.result c.requires.end
    (rest_of c.deref.result.now h.end ∙ ap (drop h.end) all) c.requires.empty c.in_ok-body.ensures.counts c.take-read.ensures.counts c.take-read.ensures.waits c.in_ok-body.ensures.stands c.take-read.ensures.takes)
