use Rattle.std.proofs.Common.{◌≡◌, ◌+◌, ◌∷◌, ◌++◌, [], Some, slice_get, length, length-append, length-take, take, map, sym, ◌∙◌, ap, subst, arith}
use Rattle.std.proofs.lemmas.List.{length-map}
use Rattle.pil_ast.specs.Tree.{namespaces, tuples}
use Rattle.instance_pass.specs.declared.parts.Part.{Part}
use Rattle.pil_checker.specs.Programs.{nodes_at, IsPlain}
use Rattle.pil_checker.specs.Plans.{Extends, HaveParts}
use Rattle.pil_checker.proofs.Elements.{get-last, map-all, map-take}
use Rattle.pil_checker.proofs.Grown.{placing-both}
use Rattle.pil_checker.proofs.Lined.{extends-both, extends-push, have-grown, have-extended, have-push, known-grown, known-push, idle-push}
use Rattle.pil_checker.proofs.lines.place_parts.Goals as goal

pub place_list-requires-clause-list : goal.place_list-requires-clause-list
place_list-requires-clause-list c = map-all tuples (IsPlain (namespaces c.args.pil.now)) c.args.lists.now c.loop-list.list-index c.list-item.result c.loop-list-test.true c.list-item.is c.requires.lists

pub loop-list-preserved : goal.loop-list-preserved
loop-list-preserved c =
    let ns = namespaces c.args.pil.now in
    let h = c.loop-list.invariant in
    let a = tuples c.list-item.result in
    let plain : IsPlain ns a = map-all tuples (IsPlain ns) c.args.lists.now c.loop-list.list-index c.list-item.result c.loop-list-test.true c.list-item.is c.requires.lists in
    let old = c.loop-list.programs.items in
    let new = c.place_list.new.programs.items in
    let parts = c.loop-list.parts.items in
    let p : Part = record { sender = c.in_ok-sender.sender; tuples = c.new.result } in
    let placing = c.in_ok-sender.ensures.placing in
    let of = c.in_ok-sender.ensures.sender in
    let same : c.push.new.self.items ≡ parts ++ p ∷ [] = c.in_ok-push.ensures.items in
    let more : Extends parts c.push.new.self.items = extends-push parts c.push.new.self.items p same in
    let at : slice_get c.push.new.self.items (length parts) ≡ Some p = ap (λ ps. slice_get ps (length parts)) same ∙ get-last parts p in
    let front = take c.loop-list.list-index (map tuples c.args.lists.now) in
    let count : length front ≡ c.loop-list.list-index =
    let cut = length-take c.loop-list.list-index (map tuples c.args.lists.now) in let long = length-map c.args.lists.now tuples in let test = c.loop-list-test.true in omega arith in
    record {
      placing = placing-both ns c.args.programs.now.items old new h.placing placing;
      extends = extends-both c.args.parts.now.items parts c.push.new.self.items h.extends more;
      long = ap length same ∙ length-append parts (p ∷ []) ∙ (let l = h.long in omega arith);
      have = subst (HaveParts ns (nodes_at new) c.push.new.self.items (length c.args.parts.now.items)) (sym (map-take tuples c.args.lists.now c.loop-list.list-index c.list-item.result c.loop-list-test.true c.list-item.is))
          (have-push ns (nodes_at new) c.push.new.self.items (length c.args.parts.now.items) front a p (length parts)
          (have-extended ns (nodes_at new) parts c.push.new.self.items (length c.args.parts.now.items) front more (have-grown ns old new parts (length c.args.parts.now.items) front placing.grows h.have))
          (h.long ∙ ap (λ n. length c.args.parts.now.items + n) (sym count)) at of);
      known = known-push ns (nodes_at new) parts c.push.new.self.items a p same (known-grown ns old new parts placing.grows h.known) of plain.space;
      idle = idle-push parts c.push.new.self.items p same h.idle c.new.ensures;
    }
