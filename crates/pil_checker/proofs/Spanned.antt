-- The span of an `is` that a plan has.
use Rattle.std.proofs.Common.{ℕ, ◌≡◌, ◌+◌, ◌≤◌, List, Some, slice_get, length, subst}
use Rattle.pil_ast.specs.Term.{Tuples, bus, Namespace, item_at}
use Rattle.pil_ast.specs.Holds.{lines}
use Rattle.instance_pass.specs.declared.checks.Check.{Check}
use Rattle.instance_pass.specs.declared.checks.Check.TheVariants.{Nothing}
use Rattle.instance_pass.specs.Checks.{IsCheckOf}
use Rattle.pil_checker.specs.declared.lines.Span.{Span}
use Rattle.pil_checker.specs.declared.plans.Plan.{Plan}
use Rattle.pil_checker.specs.Programs.{nodes_at}
use Rattle.pil_checker.specs.Plans.{IsPlanOf, IsSpanOf, HaveParts}
use Rattle.pil_checker.proofs.Compared.{bus-of}

pub record IsBusAt (ns : List Namespace) (plan : Plan) (k : ℕ) (x : Span) : Type 0 where
  pub left : List Tuples
  pub right : List Tuples
  pub is : item_at (lines ns) k ≡ bus left right
  pub middle : x.middle ≡ x.first + length left
  pub end : x.end ≡ x.middle + length right
  pub inside : x.end ≤ length plan.parts.items
  pub lefts : HaveParts ns (nodes_at plan.programs.items) plan.parts.items x.first left
  pub rights : HaveParts ns (nodes_at plan.programs.items) plan.parts.items x.middle right

pub bus-at : (ns : List Namespace) (plan : Plan) (k : ℕ) (check : Check) (x : Span) → IsPlanOf ns plan → slice_get plan.checks.items k ≡ Some check → check ≡ Nothing → slice_get plan.spans.items k ≡ Some x → IsBusAt ns plan k x
bus-at ns plan k check x h is none at =
    let w = bus-of ns (nodes_at plan.programs.items) (length plan.tables.items) (item_at (lines ns) k) (subst (λ y. IsCheckOf ns (nodes_at plan.programs.items) (length plan.tables.items) y (item_at (lines ns) k)) none (h.checks k check is)) in
    let s : IsSpanOf ns (nodes_at plan.programs.items) plan.parts.items x (bus w.0 w.1) = subst (IsSpanOf ns (nodes_at plan.programs.items) plan.parts.items x) w.2 (h.spans k x at) in
    record { left = w.0; right = w.1; is = w.2; middle = s.0; end = s.1; inside = s.2; lefts = s.3; rights = s.4 }
