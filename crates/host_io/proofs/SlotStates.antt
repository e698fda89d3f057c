-- The slot at a number as the list of states has it.
use Rattle.std.proofs.Common.{◌≡◌, ◌<◌, ℕ, zero, suc, List, [], ◌∷◌, Bool, false, Some, None, Option, IsTrue, refl, ap, sym, length, arith, get_or, set}
use Rattle.std.specs.Prelude.{slice_get}
use Rattle.host_io.specs.Memory.{SlotState}
use Rattle.host_io.specs.States.{slot_state, slot_states}
use Rattle.host_io.specs.declared.slots.MemSlot.{MemSlot}
use Rattle.host_io.proofs.SlotLists.{never}

pub found : (f : Option SlotState → Bool) (items : List MemSlot) (k : ℕ) (s : MemSlot) → f None ≡ false → IsTrue (f (slice_get (slot_states items) k)) → s ≡ get_or items k s → slice_get (slot_states items) k ≡ Some (slot_state s)
found f [] k s none holds e = never _ none holds
found f (t ∷ items) zero s none holds e = ap (λ (x : MemSlot). Some (slot_state x)) (sym e)
found f (t ∷ items) (suc k) s none holds e = found f items k s none holds e

pub within : (f : Option SlotState → Bool) (slots : List SlotState) (k : ℕ) → f None ≡ false → IsTrue (f (slice_get slots k)) → k < length slots
within f [] k none holds = never _ none holds
within f (t ∷ slots) zero none holds = omega arith
within f (t ∷ slots) (suc k) none holds = let again : k < length slots = within f slots k none holds in omega (arith, again)

pub set-set : {A : Type 0} (xs : List A) (k : ℕ) (a b : A) → set (set xs k a) k b ≡ set xs k b
set-set {A} [] k a b = refl
set-set {A} (x ∷ xs) zero a b = refl
set-set {A} (x ∷ xs) (suc k) a b = ap (λ (ys : List A). x ∷ ys) (set-set xs k a b)
