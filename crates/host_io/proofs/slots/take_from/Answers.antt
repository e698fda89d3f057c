use Rattle.std.proofs.Common.{◌≡◌, ◌∙◌, refl, sym, ap, List, ℕ, drop, Some, Option, set}
use Rattle.std.specs.Prelude.{slice_get}
use Rattle.std.proofs.lemmas.List.{map-set}
use Rattle.host_io.specs.Memory.{SlotState, Reading, Ended, is_reading, left_of}
use Rattle.host_io.specs.States.{slot_state, slot_states}
use Rattle.host_io.specs.declared.slots.MemSlot.{MemSlot}
use Rattle.host_io.proofs.SlotStates.{found, set-set}
use Rattle.host_io.proofs.slots.take_from.Goals as goal

pub returns-else-count-eq0-clause-count : goal.returns-else-count-eq0-clause-count
returns-else-count-eq0-clause-count c =
    let e : slice_get (slot_states c.args.slots.now.items) c.args.number ≡ Some (Reading (drop c.in-Reading.source.at c.in-Reading.source.bytes.items)) =
    found is_reading c.args.slots.now.items c.args.number c.index_mut.result.now refl c.requires.reading c.index_mut.ensures.value ∙ ap (λ (s : MemSlot). Some (slot_state s)) c.in-Reading.is in
    rw e c.take-count.ensures.count

pub returns-else-count-eq0-clause-front : goal.returns-else-count-eq0-clause-front
returns-else-count-eq0-clause-front c =
    let e : slice_get (slot_states c.args.slots.now.items) c.args.number ≡ Some (Reading (drop c.in-Reading.source.at c.in-Reading.source.bytes.items)) =
    found is_reading c.args.slots.now.items c.args.number c.index_mut.result.now refl c.requires.reading c.index_mut.ensures.value ∙ ap (λ (s : MemSlot). Some (slot_state s)) c.in-Reading.is in
    rw e c.take-count.ensures.front

pub returns-else-count-eq0-clause-moved : goal.returns-else-count-eq0-clause-moved
returns-else-count-eq0-clause-moved c = λ more.
    let e : slice_get (slot_states c.args.slots.now.items) c.args.number ≡ Some (Reading (drop c.in-Reading.source.at c.in-Reading.source.bytes.items)) =
    found is_reading c.args.slots.now.items c.args.number c.index_mut.result.now refl c.requires.reading c.index_mut.ensures.value ∙ ap (λ (s : MemSlot). Some (slot_state s)) c.in-Reading.is in
    map-set slot_state c.args.slots.now.items c.args.number _
    ∙ ap (λ (left : List ℕ). set (slot_states c.args.slots.now.items) c.args.number (Reading left)) (c.take-count.ensures.rest ∙ ap (λ (o : Option SlotState). drop c.take-count.result (left_of o)) (sym e))

pub returns-then-count-eq0-clause-ended : goal.returns-then-count-eq0-clause-ended
returns-then-count-eq0-clause-ended c = λ none.
    map-set slot_state (set c.args.slots.now.items c.args.number _) c.args.number _
    ∙ ap (λ (slots : List SlotState). set slots c.args.number Ended) (map-set slot_state c.args.slots.now.items c.args.number _)
    ∙ set-set (slot_states c.args.slots.now.items) c.args.number _ Ended
