use Rattle.std.proofs.Common.{◌≡◌, ◌<◌, ◌∙◌, map, length, sym, ap, subst, arith}
use Rattle.std.proofs.lemmas.List.{length-map}
use Rattle.pil_ast.specs.Tree.{line, namespace, namespaces}
use Rattle.pil_ast.specs.Term.{space_at}
use Rattle.pil_ast.specs.Sound.{IsAcyclic}
use Rattle.pil_ast.specs.Turns.{IsPlan}
use Rattle.pil_program.proofs.Places.{items-at, few_items, few_enough, names-inside}
use Rattle.pil_program.proofs.compiling.Program.new.Goals as goal

pub plan-requires : goal.plan-requires
plan-requires c =
    let ns = namespaces c.args.pil.now in
    let inside : c.args.space < length c.args.pil.now.spaces = (let l = c.requires.space in omega (arith, length-map c.args.pil.now.spaces namespace)) in
    let same : map line c.as_slice-items.result.now ≡ (space_at ns c.args.space).items = items-at c.args.pil.now.spaces c.as_slice.result.now c.args.space c.index-as_slice-space.result c.as_slice-items.result.now c.as_slice.ensures inside c.index-as_slice-space.is c.as_slice-items.ensures in
    let space = c.requires.sound.spaces c.args.space c.requires.space in
    record {
      few = few_enough (length c.as_slice-items.result.now) (length (space_at ns c.args.space).items) (sym (length-map c.as_slice-items.result.now line) ∙ ap length same) (few_items ns c.args.space c.requires.sound c.requires.space);
      inside = names-inside ns c.args.space (map line c.as_slice-items.result.now) same space;
      acyclic = subst IsAcyclic (sym same) space.acyclic;
    }

pub place_turns-requires : goal.place_turns-requires
place_turns-requires c =
    let ns = namespaces c.args.pil.now in
    let inside : c.args.space < length c.args.pil.now.spaces = (let l = c.requires.space in omega (arith, length-map c.args.pil.now.spaces namespace)) in
    let same : map line c.as_slice-items.result.now ≡ (space_at ns c.args.space).items = items-at c.args.pil.now.spaces c.as_slice.result.now c.args.space c.index-as_slice-space.result c.as_slice-items.result.now c.as_slice.ensures inside c.index-as_slice-space.is c.as_slice-items.ensures in
    let long : length c.as_slice-items.result.now ≡ length (space_at ns c.args.space).items = sym (length-map c.as_slice-items.result.now line) ∙ ap length same in
    record {
      sound = c.requires.sound;
      unnamed = c.requires.unnamed;
      space = c.requires.space;
      items = same;
      plan = subst (λ ls. IsPlan ls c.as_slice-2.result.now) same (subst (IsPlan (map line c.as_slice-items.result.now)) (sym c.as_slice-2.ensures) c.in_ok-turns.ensures);
      empty = ap length c.in_ok-nodes.ensures;
      here = ap length c.from_vec-here.ensures ∙ (let e : length c.in_ok-vec.field-0.items ≡ length c.as_slice-items.result.now = (let ok = c.in_ok-vec.field-0.ok.0 in let l = c.in_ok-vec.ensures.len in omega arith) in e) ∙ long;
      next = ap length c.from_vec-next.ensures ∙ (let e : length c.in_ok-vec-2.field-0.items ≡ length c.as_slice-items.result.now = (let ok = c.in_ok-vec-2.field-0.ok.0 in let l = c.in_ok-vec-2.ensures.len in omega arith) in e) ∙ long;
    }
