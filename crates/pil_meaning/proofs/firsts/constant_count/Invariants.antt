use Rattle.std.proofs.Common.{◌≡◌, sum_by, take}
use Rattle.pil_names.specs.Shown.{draft}
use Rattle.pil_meaning.specs.Meaning.{constant_columns}
use Rattle.pil_meaning.proofs.firsts.constant_count.Given as goal

abbrev pub invariant-loop-item : goal.invariant-loop-item
invariant-loop-item l = l.columns ≡ sum_by (λ item. constant_columns (draft item)) (take l.item-index l.items)
