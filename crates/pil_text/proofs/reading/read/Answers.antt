use Rattle.std.proofs.Common.{◌≡◌, Result, Ok, Err, refl, ap, ◌∙◌}
use Rattle.std.specs.Result.{IfErr}
use Rattle.std.proofs.lemmas.Result.{IfOk-weaker, IfErr-weaker}
use Rattle.pil_ast.specs.Tree.{namespaces}
use Rattle.pil_text.specs.declared.error.PilErr.{PilErr}
use Rattle.pil_text.specs.declared.error.PilKind.{PilKind}
use Rattle.pil_text.specs.declared.error.PilKind.TheVariants.{BadByte, NumberTooLarge, Unexpected, TooDeep, Repeated, UnknownName, BadRow, Mixed, WrongWidth, CyclicPol, DoubleMark, NoMemory}
use Rattle.pil_text.specs.Refusal.{HasPlace, UnlessMemory, no_memory}
use Rattle.pil_text.proofs.reading.read.Goals as goal

only_memory : (k : PilKind) (P : Type 0) → (P → ⊥) → UnlessMemory k P → k ≡ NoMemory
only_memory NoMemory P f h = refl
only_memory BadByte P f h = absurd (f h)
only_memory NumberTooLarge P f h = absurd (f h)
only_memory Unexpected P f h = absurd (f h)
only_memory TooDeep P f h = absurd (f h)
only_memory Repeated P f h = absurd (f h)
only_memory UnknownName P f h = absurd (f h)
only_memory BadRow P f h = absurd (f h)
only_memory Mixed P f h = absurd (f h)
only_memory WrongWidth P f h = absurd (f h)
only_memory CyclicPol P f h = absurd (f h)
only_memory DoubleMark P f h = absurd (f h)

without_place : (e : PilErr) → e.kind ≡ NoMemory → HasPlace e → e ≡ no_memory
without_place e is place = ap (λ k. let x : PilErr = record { kind = k; at = e.at } in x) is ∙ ap (λ n. let x : PilErr = record { kind = NoMemory; at = n } in x) (place is)

at_once : {T : Type 0} (r : Result T PilErr) → IfErr r (λ e. e.kind ≡ NoMemory) → IfErr r HasPlace → IfErr r (λ e. e ≡ no_memory)
at_once (Ok x) is place = tt
at_once (Err e) is place = without_place e is place

pub returns-clause-same : goal.returns-clause-same
returns-clause-same c = λ ns r. IfOk-weaker c.parse.result _ _ (λ pil h. (c.one_answer.ensures.decided c.args.text.now).one_reading (namespaces pil) ns h r) c.parse.ensures.found

pub returns-clause-only : goal.returns-clause-only
returns-clause-only c = λ ns r.
    let refused = IfErr-weaker c.parse.result _ (λ e. e.kind ≡ NoMemory) (λ e h. only_memory e.kind _ (λ f. (c.one_answer.ensures.decided c.args.text.now).not_both ns e r f) h) c.parse.ensures.refused in
    at_once c.parse.result refused c.parse.ensures.place
