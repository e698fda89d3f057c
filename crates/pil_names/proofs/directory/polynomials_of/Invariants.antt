use Rattle.std.proofs.Common.{◌≡◌, map, drop}
use Rattle.std.specs.Prelude.{flat_map}
use Rattle.pil_names.specs.Finding.{polynomial_entries}
use Rattle.pil_names.specs.Least.{least, lesser}
use Rattle.pil_names.specs.Wrongs.{repeated_among}
use Rattle.pil_names.specs.Shown.{home}
use Rattle.pil_names.proofs.Each.{ListsFirst}
use Rattle.pil_names.proofs.directory.polynomials_of.Given as goal

abbrev pub invariant-loop-home : goal.invariant-loop-home
invariant-loop-home l = record {
  listed : ListsFirst l.names.items (map home l.homes) l.home-index;
  repeated : lesser l.repeated (least (flat_map (λ h. repeated_among (polynomial_entries h)) (map home (drop l.home-index l.homes)))) ≡ least (flat_map (λ h. repeated_among (polynomial_entries h)) (map home l.homes));
}
