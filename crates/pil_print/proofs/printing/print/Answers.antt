use Rattle.std.proofs.Common.{ℕ, ◌≡◌, ◌<◌, List, ◌++◌, All, map, length, take, ap, sym, ◌∙◌, subst, arith}
use Rattle.std.specs.Prelude.{flat_map}
use Rattle.std.proofs.lemmas.List.{length-map, take_all}
use Rattle.std.proofs.lemmas.Grind.{flat_map-append}
use Rattle.pil_ast.specs.Tree.{line, namespace, namespaces}
use Rattle.pil_ast.specs.Term.{Namespace, space_at}
use Rattle.pil_syntax.specs.Tree.{Sentence}
use Rattle.pil_print.specs.Statements.{statements_of}
use Rattle.pil_print.specs.Printed.{text_of, line_text}
use Rattle.pil_print.specs.Levels.{IsPrintableItem}
use Rattle.pil_print.proofs.Starts.{space-here, all-mapped}
use Rattle.pil_print.proofs.Texts.{flat-one-more}
use Rattle.pil_print.proofs.Printable.{printable-space}
use Rattle.pil_print.proofs.printing.print.Goals as goal

pub write_space-requires-clause-printable : goal.write_space-requires-clause-printable
write_space-requires-clause-printable c =
    let ns = namespaces c.args.pil.now in
    let ss = c.in_ok-names.names.spaces.now in
    let i = c.loop-space.space-index in
    let same : map namespace ss ≡ namespaces c.args.pil.now = c.in_ok-names.ensures.text in
    let inside : i < length (namespaces c.args.pil.now) = omega (arith, ap length same, length-map ss namespace) in
    let here : space_at (namespaces c.args.pil.now) i ≡ namespace c.space-item.result
    = ap (λ (ms : List Namespace). space_at ms i) (sym same) ∙ space-here namespace ss i c.space-item.result (omega arith) c.space-item.is in
    let all : All (IsPrintableItem ns) (map line c.space-item.result.items) = subst (λ (n : Namespace). All (IsPrintableItem ns) n.items) here (printable-space ns i c.requires inside) in
    subst (λ (ms : List Namespace). All (λ i. IsPrintableItem ms (line i)) c.space-item.result.items) (sym same) (all-mapped (IsPrintableItem ns) line c.space-item.result.items all)

pub loop-space-preserved : goal.loop-space-preserved
loop-space-preserved c =
    let ns = namespaces c.args.pil.now in
    let ss = c.in_ok-names.names.spaces.now in
    let i = c.loop-space.space-index in
    let x = namespace c.space-item.result in
    let front : List Sentence = flat_map (statements_of ns) (map namespace (take i ss)) in
    c.in_ok-write_space.ensures
    ∙ (ap (λ (t : List ℕ). t ++ text_of (statements_of (map namespace ss) x)) c.loop-space.invariant
    ∙ (ap (λ (ms : List Namespace). text_of front ++ text_of (statements_of ms x)) c.in_ok-names.ensures.text
    ∙ (sym (flat_map-append line_text front (statements_of ns x))
    ∙ ap text_of (sym (flat-one-more (statements_of ns) namespace ss i c.space-item.result (omega arith) c.space-item.is)))))

pub returns : goal.returns
returns c =
    let ns = namespaces c.args.pil.now in
    let ss = c.in_ok-names.names.spaces.now in
    c.loop-space.invariant
    ∙ ap (λ (ms : List Namespace). text_of (flat_map (statements_of ns) ms)) (ap (map namespace) (take_all c.loop-space.space-index ss c.loop-space-test.false) ∙ c.in_ok-names.ensures.text)
