use Rattle.std.proofs.Common.{rules, ◌≡◌, ℕ, List, length, inl, ap, ◌∙◌, arith}
use Rattle.rv_model.specs.Image.{Img}
use Rattle.chain_pool.specs.Lists.{list_of}
use Rattle.mem_rows.specs.declared.access.Access.{Access}
use Rattle.mem_rows.proofs.Added.{none_of}
use Rattle.mem_rows.proofs.Covered.{all_begun}
use Rattle.mem_rows.proofs.initial.first_accesses.Goals as goal

pub loop-segment-init : goal.loop-segment-init
loop-segment-init c = record { part = λ q. inl (ap (λ (l : List (ℕ × List Access)). list_of l q) c.empty-accesses.ensures ∙ none_of q); written = λ j d lt. absurd (omega arith) }

pub returns : goal.returns
returns c = all_begun c.args.image.now _ _ _ c.loop-segment.segment-index c.deref-segment-items.result.now c.loop-segment.invariant.written c.loop-segment-test.false (c.deref-segment-items.ensures.value ∙ ap (λ (i : Img). i.segments) c.image.view_is) (let l : c.len.result ≡ length c.image.inside.input.items = search rules in l ∙ ap (λ (i : Img). length i.input) c.image.view_is) c.in_ok-write_range-2.ensures
