use Rattle.std.proofs.Common.{◌≡◌, ◌-◌, ◌∙◌, ◌++◌, ◌∷◌, [], ℕ, zero, suc, refl, ap, List, arith, length, take, length-append}
use Rattle.std.proofs.lemmas.List.{take_at, length-map}
use Rattle.host_io.specs.Memory.{SlotState}
use Rattle.host_io.specs.States.{slot_state, slot_states}
use Rattle.host_io.specs.declared.slots.MemSlot.{MemSlot}
use Rattle.host_io.proofs.slots.drop_last.Goals as goal

states-take : (n : ℕ) (items : List MemSlot) → slot_states (take n items) ≡ take n (slot_states items)
states-take zero items = refl
states-take (suc n) [] = refl
states-take (suc n) (s ∷ items) = ap (λ (slots : List SlotState). slot_state s ∷ slots) (states-take n items)

dropped : (items rest : List MemSlot) (n : ℕ) (before : List SlotState) (slot : SlotState) → rest ≡ take n items → n ≡ length items - 1 → slot_states items ≡ before ++ slot ∷ [] → slot_states rest ≡ before
dropped items rest n before slot e at states =
    let long : length before ≡ n = omega (arith, ap length states, length-map items slot_state, length-append before (slot ∷ [])) in
    ap slot_states e ∙ states-take n items ∙ ap (take n) states ∙ take_at before (slot ∷ []) n long

pub returns : goal.returns
returns c = λ before slot e. dropped c.args.slots.now.items c.pop.new.self.items _ before slot c.pop.ensures.rest (ap (λ (n : ℕ). n - 1) (c.args.slots.now.ok.0)) e
