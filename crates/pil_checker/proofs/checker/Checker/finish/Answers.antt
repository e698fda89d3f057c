use Rattle.std.proofs.Common.{◌≡◌, ◌+◌, ◌<◌, length, refl, ◌∙◌, ap, subst, arith, below_more, MatchOption}
use Rattle.pil_ast.specs.Tree.{namespaces}
use Rattle.pil_ast.specs.Term.{item_at}
use Rattle.pil_ast.specs.Holds.{lines}
use Rattle.pil_laws.proofs.Lines.{holds-within}
use Rattle.row_check.specs.Breaks.{IsBreakOf}
use Rattle.pil_checker.specs.Standing.{AgreesIfBus, AllUpTo, IsFound, added, limit_of}
use Rattle.pil_checker.proofs.Grown.{few-lines}
use Rattle.pil_checker.proofs.Finished.{have-all, line-holds, line-breaks, first-broken, known-before}
use Rattle.pil_checker.proofs.checker.Checker.finish.Goals as goal

pub loop-line-preserved : goal.loop-line-preserved
loop-line-preserved c =
    let ns = namespaces c.args.pil.now in
    let h = c.loop-line.invariant in
    let e = c.in_ok-broken.ensures in
    record {
      planned = e.planned;
      rest = λ cs all. e.rest cs (h.rest cs all);
      done = λ cs all. below_more (λ k. AgreesIfBus ns cs (item_at (lines ns) k)) _ (h.done cs all)
          (subst (λ o. MatchOption o (AgreesIfBus ns cs (item_at (lines ns) c.loop-line.line)) (λ b. IsBreakOf ns cs (item_at (lines ns) c.loop-line.line) (c.loop-line.line + 1) b)) c.in-None.is (e.found cs (h.rest cs all)));
    }

pub returns-in-Some : goal.returns-in-Some
returns-in-Some c = λ cs stands added_all.
    let ns = namespaces c.args.pil.now in
    let k0 = c.args.self in
    let built = c.requires.built in
    let line = c.loop-line.line in
    let h = c.loop-line.invariant in
    let all = have-all ns cs k0 built stands added_all in
    let breaks : IsBreakOf ns cs (item_at (lines ns) line) (line + 1) c.in-Some.broken =
    subst (λ o. MatchOption o (AgreesIfBus ns cs (item_at (lines ns) line)) (λ b. IsBreakOf ns cs (item_at (lines ns) line) (line + 1) b)) c.in-Some.is (c.in_ok-broken.ensures.found cs (h.rest cs all)) in
    let low : line < limit_of k0.found (length (lines ns)) = let e = c.limit-limit.ensures ∙ ap (limit_of k0.found) built.planned.checks_long in let t = c.loop-line-test.true in omega arith in
    let known = known-before ns cs k0 built stands in
    first-broken ns cs line c.in-Some.broken (let a = known.0 in omega arith) breaks
    (λ j l. line-holds ns cs (added k0) added_all j (limit_of k0.found (length (lines ns))) c.requires.sound (let a = known.0 in omega arith) (omega arith) known.1 (h.done cs all j l))

pub overflow_cast-result : goal.overflow_cast-result
overflow_cast-result c =
    let ns = namespaces c.args.pil.now in
    let inside : c.in-Some-found.spot.line < length (lines ns) = subst (λ o. MatchOption o (Unit {0}) (λ f. f.line < length (lines ns))) c.in-Some-found.is c.requires.built.spot in
    let few = few-lines ns c.requires.sound in
    omega arith

pub overflow_add-result : goal.overflow_add-result
overflow_add-result c =
    let ns = namespaces c.args.pil.now in
    let inside : c.in-Some-found.spot.line < length (lines ns) = subst (λ o. MatchOption o (Unit {0}) (λ f. f.line < length (lines ns))) c.in-Some-found.is c.requires.built.spot in
    let few = few-lines ns c.requires.sound in
    omega arith

pub returns-in-Some-found : goal.returns-in-Some-found
returns-in-Some-found c = λ cs stands added_all.
    let ns = namespaces c.args.pil.now in
    let k0 = c.args.self in
    let built = c.requires.built in
    let f = c.in-Some-found.spot in
    let found : IsFound ns cs (added k0) f = subst (λ o. MatchOption o (AllUpTo ns cs (added k0) (length (lines ns))) (λ f. IsFound ns cs (added k0) f)) c.in-Some-found.is stands.found in
    let all = have-all ns cs k0 built stands added_all in
    let end : c.limit-limit.result ≡ f.line = c.limit-limit.ensures ∙ ap (λ o. limit_of o (length k0.plan.checks.items)) c.in-Some-found.is in
    let past = c.loop-line-test.false in
    let inside = found.inside in
    first-broken ns cs f.line _ inside (refl, line-breaks ns cs (added k0) added_all f c.requires.sound found)
    (λ j l. line-holds ns cs (added k0) added_all j f.line c.requires.sound (omega arith) l found.before (c.loop-line.invariant.done cs all j (omega arith)))

pub returns : goal.returns
returns c = λ cs stands added_all.
    let ns = namespaces c.args.pil.now in
    let k0 = c.args.self in
    let built = c.requires.built in
    let upto : AllUpTo ns cs (added k0) (length (lines ns)) = subst (λ o. MatchOption o (AllUpTo ns cs (added k0) (length (lines ns))) (λ f. IsFound ns cs (added k0) f)) c.in-None-found.is stands.found in
    let all = have-all ns cs k0 built stands added_all in
    let end : c.limit-limit.result ≡ length (lines ns) = c.limit-limit.ensures ∙ ap (λ o. limit_of o (length k0.plan.checks.items)) c.in-None-found.is ∙ built.planned.checks_long in
    let past = c.loop-line-test.false in
    holds-within ns cs (lines ns) (λ k l. line-holds ns cs (added k0) added_all k (length (lines ns)) c.requires.sound l l upto (c.loop-line.invariant.done cs all k (omega arith)))
