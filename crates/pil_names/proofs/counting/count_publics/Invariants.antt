use Rattle.std.proofs.Common.{◌≡◌, ◌≤◌, ◌+◌, ◌-◌, ◌^◌, length, map, drop, min}
use Rattle.pil_names.specs.Finding.{public_names}
use Rattle.pil_names.specs.Shown.{home}
use Rattle.pil_names.proofs.counting.count_publics.Given as goal

abbrev pub invariant-loop-home : goal.invariant-loop-home
invariant-loop-home l = record {
  counted : min (l.count + length (public_names (map home (drop l.home-index l.homes)))) (2 ^ 64 - 1) ≡ min (length (public_names (map home l.homes))) (2 ^ 64 - 1);
  within : l.count ≤ 2 ^ 64 - 1;
}
