-- Where the airs of memory stand in the machine's text, and the publics.
use Rattle.std.proofs.Common.{ℕ, ◌+◌, ◌*◌, ◌≡◌, cond, ltb, refl, ap}
use Rattle.pil_ast.specs.Columns.{Columns}
use Rattle.pil_ast.specs.Value.{public_value}
use Rattle.pil_exact.proofs.Flags.{Each, each}
use Rattle.gold.specs.declared.shapes.Profile.{Profile}
use Rattle.gold.specs.declared.shapes.Profile.TheVariants.{Small, Wide}
use Rattle.machine_text.specs.Machine.{machine}
use Rattle.air_mem.specs.Laws.{MachineHas, OutPublics}

pub machine_has : MachineHas
machine_has Small = (refl, refl, refl)
machine_has Wide = (refl, refl, refl)

there : (m v : ℕ) → m ≡ 1 → cond (ltb 0 m) v 0 ≡ v
there m v e = ap (λ m. cond (ltb 0 m) v 0) e

abbrev IsPublic : Profile → Columns → ℕ → Type 0
IsPublic q c k = (public_value (machine q) c (2 * k) ≡ c.at 8 0 2 k) × (public_value (machine q) c (2 * k + 1) ≡ c.at 8 0 3 k)

all_public : (q : Profile) (c : Columns) → c.instances 8 ≡ 1 → Each (IsPublic q c) 33
unfolding public_value
all_public Small c e = ((there _ _ e, there _ _ e), ((there _ _ e, there _ _ e), ((there _ _ e, there _ _ e), ((there _ _ e, there _ _ e), ((there _ _ e, there _ _ e), ((there _ _ e, there _ _ e), ((there _ _ e, there _ _ e), ((there _ _ e, there _ _ e), ((there _ _ e, there _ _ e), ((there _ _ e, there _ _ e), ((there _ _ e, there _ _ e), ((there _ _ e, there _ _ e), ((there _ _ e, there _ _ e), ((there _ _ e, there _ _ e), ((there _ _ e, there _ _ e), ((there _ _ e, there _ _ e), ((there _ _ e, there _ _ e), ((there _ _ e, there _ _ e), ((there _ _ e, there _ _ e), ((there _ _ e, there _ _ e), ((there _ _ e, there _ _ e), ((there _ _ e, there _ _ e), ((there _ _ e, there _ _ e), ((there _ _ e, there _ _ e), ((there _ _ e, there _ _ e), ((there _ _ e, there _ _ e), ((there _ _ e, there _ _ e), ((there _ _ e, there _ _ e), ((there _ _ e, there _ _ e), ((there _ _ e, there _ _ e), ((there _ _ e, there _ _ e), ((there _ _ e, there _ _ e), ((there _ _ e, there _ _ e), tt)))))))))))))))))))))))))))))))))
all_public Wide c e = ((there _ _ e, there _ _ e), ((there _ _ e, there _ _ e), ((there _ _ e, there _ _ e), ((there _ _ e, there _ _ e), ((there _ _ e, there _ _ e), ((there _ _ e, there _ _ e), ((there _ _ e, there _ _ e), ((there _ _ e, there _ _ e), ((there _ _ e, there _ _ e), ((there _ _ e, there _ _ e), ((there _ _ e, there _ _ e), ((there _ _ e, there _ _ e), ((there _ _ e, there _ _ e), ((there _ _ e, there _ _ e), ((there _ _ e, there _ _ e), ((there _ _ e, there _ _ e), ((there _ _ e, there _ _ e), ((there _ _ e, there _ _ e), ((there _ _ e, there _ _ e), ((there _ _ e, there _ _ e), ((there _ _ e, there _ _ e), ((there _ _ e, there _ _ e), ((there _ _ e, there _ _ e), ((there _ _ e, there _ _ e), ((there _ _ e, there _ _ e), ((there _ _ e, there _ _ e), ((there _ _ e, there _ _ e), ((there _ _ e, there _ _ e), ((there _ _ e, there _ _ e), ((there _ _ e, there _ _ e), ((there _ _ e, there _ _ e), ((there _ _ e, there _ _ e), ((there _ _ e, there _ _ e), tt)))))))))))))))))))))))))))))))))

pub out_publics : OutPublics
out_publics q c is k h = each (IsPublic q c) 33 (all_public q c is.instances) k h
