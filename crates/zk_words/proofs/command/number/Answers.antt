use Rattle.std.proofs.Common.{◌≡◌, ◌<◌, ◌^◌, ℕ, Some, None, Ok, List, [], ◌∷◌, true, decimal, refl, eq-eqb, sym, ◌∙◌, ap, arith}
use Rattle.std.proofs.lemmas.Fmt.{parse-decimal}
use Rattle.std.proofs.Math.Dec.{eqb}
use Rattle.std.proofs.lemmas.Slice.Eq.{bytes_eq-Decides}
use Rattle.std.specs.Cmp.Lexicographic.{pointwise}
use Rattle.zk_words.proofs.command.number.Goals as goal

pub returns-then-eq-clause-only : goal.returns-then-eq-clause-only
returns-then-eq-clause-only c = λ n below e.
    let parsed : c.parse-parsed.result ≡ Ok n = parse-decimal 64 n c.args.text.now c.parse-parsed.result below (omega arith) e c.parse-parsed.ensures.value.0 in
    cc (parsed, c.in-Ok.is)

pub returns-else-eq-clause-only : goal.returns-else-eq-clause-only
returns-else-eq-clause-only c = λ n below e.
    let parsed : c.parse-parsed.result ≡ Ok n = parse-decimal 64 n c.args.text.now c.parse-parsed.result below (omega arith) e c.parse-parsed.ensures.value.0 in
    let same : c.in-Ok.n ≡ n = cc (parsed, c.in-Ok.is) in
    let equal : c.format.result.now ≡ c.args.text.now = c.format.ensures.text ∙ ap decimal same ∙ sym e in
    let yes : pointwise eqb c.format.result.now c.args.text.now ≡ true = (bytes_eq-Decides c.format.result.now c.args.text.now).1 equal in
    absurd (cc (c.eq.ensures, yes, c.if-eq.false))

pub returns-in-Err-clause-only : goal.returns-in-Err-clause-only
returns-in-Err-clause-only c = λ n below e.
    let parsed : c.parse-parsed.result ≡ Ok n = parse-decimal 64 n c.args.text.now c.parse-parsed.result below (omega arith) e c.parse-parsed.ensures.value.0 in
    cc (parsed, c.in-Err.is)
