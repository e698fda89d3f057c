use Rattle.std.proofs.Common.{◌≡◌, ◌==◌, ◌++◌, ◌∷◌, [], ℕ, List, ap, ◌∙◌, append_assoc, codes, decimal}
use Rattle.std.specs.List.{count_by}
use Rattle.gold.specs.declared.instances.Table.{Table}
use Rattle.zk_top.proofs.Demos.{counts_more}
use Rattle.zk_top.proofs.report.push_instances.Goals as goal

pub loop-air-preserved : goal.loop-air-preserved
loop-air-preserved c =
    let tables : List Table = c.args.witness.now.tables in
    let count : ℕ → ℕ = λ air. count_by (λ t. t.air == air) tables in
    let out : List ℕ = c.loop-air.text.items in
    let digits : c.as_bytes.result.now ≡ decimal (count c.loop-air.air) =
    c.as_bytes.ensures.value ∙ c.format.ensures.text ∙ ap decimal (c.tables_of_air-count.ensures ∙ ap (λ (ts : List Table). count_by (λ t. t.air == c.loop-air.air) ts) c.as_slice.ensures.items) in
    let next : c.extend_from_slice-in-loop-air.new.self.items ≡ out ++ (codes " " ++ decimal (count c.loop-air.air)) =
    c.in_ok-extend_from_slice-2.ensures.items ∙ ap (λ (xs : List ℕ). xs ++ c.as_bytes.result.now) c.in_ok-push.ensures.items ∙ append_assoc out (codes " ") c.as_bytes.result.now
    ∙ ap (λ (bs : List ℕ). out ++ (codes " " ++ bs)) digits in
    counts_more (λ air. codes " " ++ decimal (count air)) c.extend_from_slice.new.self.items out c.extend_from_slice-in-loop-air.new.self.items c.loop-air.air c.loop-air.invariant next
