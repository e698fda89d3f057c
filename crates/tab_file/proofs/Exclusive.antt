-- Bytes read as tables or fail, and not both.
use Rattle.std.proofs.Common.{◌≡◌, ◌≢◌, ℕ, List, Option, None, Some, ◌⊎◌, inl, inr, refl}
use Rattle.gold.specs.declared.instances.Witness.{Witness}
use Rattle.gold.specs.declared.shapes.Shape.{Shape}
use Rattle.tab_file.specs.declared.fault.TabErr.{TabErr}
use Rattle.tab_file.specs.declared.fault.TabKind.{TabKind}
use Rattle.tab_file.specs.declared.fault.TabKind.TheVariants.{NoMemory}
use Rattle.tab_file.specs.Items.{failure, first_failure}
use Rattle.tab_file.specs.Reading.{items, TabReads, TabFails}
use Rattle.tab_file.specs.Steps.{promised}
use Rattle.tab_file.proofs.Stands.{IsBytes}
use Rattle.tab_file.proofs.Found.{file_taken}
use Rattle.tab_file.proofs.Again.{file_again}

none_is_not_some : (e : TabErr) (o : Option TabErr) → o ≡ None → o ≡ Some e → ⊥
none_is_not_some e o n s = cc

pub never_both : (bytes : List ℕ) (shape : Shape) (witness : Witness) (kind : TabKind) (at : ℕ) → TabReads bytes shape witness → TabFails bytes shape kind at → ⊥
never_both bytes shape witness kind at reads fails = none_is_not_some (failure kind at) (first_failure bytes 0 (items bytes shape)) (file_again bytes shape witness reads).fine fails

-- a kind that can't be another than NoMemory
pub memory_alone : (kind : TabKind) → (kind ≢ NoMemory → ⊥) → kind ≡ NoMemory
memory_alone NoMemory h = refl
memory_alone kind h = absurd (h (λ e. cc))

pub one_of_both : (bytes : List ℕ) (shape : Shape) → IsBytes bytes → ((witness : Witness) × TabReads bytes shape witness) ⊎ ((kind : TabKind) × (at : ℕ) × TabFails bytes shape kind at)
one_of_both bytes shape fits =
    let first = first_failure bytes 0 (items bytes shape) in
    elim first as (λ o. first ≡ o → ((witness : Witness) × TabReads bytes shape witness) ⊎ ((kind : TabKind) × (at : ℕ) × TabFails bytes shape kind at)) [
      | None ↦ λ none. inl (promised bytes shape, file_taken bytes shape fits none)
      | Some e ↦ λ some. inr (e.kind, e.at, some)
    ] refl
