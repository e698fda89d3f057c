use Rattle.std.proofs.Common.{◌≡◌, ◌≤◌, ◌+◌, length, map, drop}
use Rattle.std.specs.Prelude.{flat_map}
use Rattle.pil_names.specs.Finding.{published_name}
use Rattle.pil_names.specs.Shown.{draft}
use Rattle.pil_names.proofs.counting.count_publics_of.Given as goal

abbrev pub invariant-loop-item : goal.invariant-loop-item
invariant-loop-item l = record {
  counted : l.count + length (flat_map published_name (map draft (drop l.item-index l.items))) ≡ length (flat_map published_name (map draft l.items));
  within : l.count ≤ l.item-index;
}
