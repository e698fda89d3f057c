use Rattle.std.proofs.Common.{◌≡◌, ◌+◌, length, map, sym, ap, subst, arith}
use Rattle.std.proofs.lemmas.List.{length-map}
use Rattle.pil_ast.specs.Term.{bus}
use Rattle.pil_ast.specs.Tree.{namespaces, tuples, line}
use Rattle.pil_checker.specs.declared.lines.Span.{Span}
use Rattle.pil_checker.specs.Programs.{nodes_at}
use Rattle.pil_checker.specs.Plans.{HaveParts, IsSpanOf}
use Rattle.pil_checker.proofs.Lined.{have-grown, have-extended}
use Rattle.pil_checker.proofs.lines.place_span.Goals as goal

pub returns-in_ok-place_parts-in-Bus-2-clause-span : goal.returns-in_ok-place_parts-in-Bus-2-clause-span
returns-in_ok-place_parts-in-Bus-2-clause-span c =
    let ns = namespaces c.args.pil.now in
    let ls = map tuples c.in-Bus.left in
    let rs = map tuples c.in-Bus.right in
    let old = c.args.parts.now.items in
    let part = c.place_parts.new.parts.items in
    let new = c.place_parts-in-Bus.new.parts.items in
    let before = c.place_parts.new.programs.items in
    let after = c.place_parts-in-Bus.new.programs.items in
    let f = c.in_ok-place_parts-in-Bus.ensures in
    let g = c.in_ok-place_parts-in-Bus-2.ensures in
    let first : c.len-first.result ≡ length old = let ok = c.args.parts.now.ok.0 in let e = c.len-first.ensures in omega arith in
    let middle : c.len-middle.result ≡ length part = let ok = c.place_parts.new.parts.ok.0 in let e = c.len-middle.ensures in omega arith in
    let end : c.len.result ≡ length new = let ok = c.place_parts-in-Bus.new.parts.ok.0 in let e = c.len.ensures in omega arith in
    let left : HaveParts ns (nodes_at after) new (length old) ls =
    have-extended ns (nodes_at after) part new (length old) ls g.extends
    (have-grown ns before after part (length old) ls g.placing.grows (subst (λ xs. HaveParts ns (nodes_at before) part (length old) (map tuples xs)) c.as_slice.ensures f.have)) in
    let right : HaveParts ns (nodes_at after) new (length part) rs = subst (λ xs. HaveParts ns (nodes_at after) new (length part) (map tuples xs)) c.as_slice-in-Bus.ensures g.have in
    let x : Span = record { first = c.len-first.result; middle = c.len-middle.result; end = c.len.result } in
    let m : x.middle ≡ x.first + length ls = let a = f.long in let b = ap length c.as_slice.ensures in let d = length-map c.in-Bus.left tuples in omega arith in
    let n : x.end ≡ x.middle + length rs = let a = g.long in let b = ap length c.as_slice-in-Bus.ensures in let d = length-map c.in-Bus.right tuples in omega arith in
    let is : IsSpanOf ns (nodes_at after) new x (bus ls rs) = (m, n, omega arith, subst (λ k. HaveParts ns (nodes_at after) new k ls) (sym first) left, subst (λ k. HaveParts ns (nodes_at after) new k rs) (sym middle) right) in
    subst (IsSpanOf ns (nodes_at after) new x) (sym (ap line c.in-Bus.is)) is
