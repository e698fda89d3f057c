use Rattle.std.proofs.Common.{◌≡◌, ◌∙◌, refl, sym, ap, Some, List, ℕ, set}
use Rattle.std.specs.Prelude.{slice_get, string_bytes}
use Rattle.std.proofs.lemmas.List.{map-set}
use Rattle.std.proofs.Math.Seq.{map-set_same}
use Rattle.host_io.specs.Memory.{Writing, is_writing}
use Rattle.host_io.specs.States.{slot_state, slot_states}
use Rattle.host_io.specs.declared.slots.MemSlot.{MemSlot}
use Rattle.host_io.proofs.SlotStates.{found}
use Rattle.host_io.proofs.slots.append.Goals as goal

pub returns-in-Ok-clause-slot : goal.returns-in-Ok-clause-slot
returns-in-Ok-clause-slot c =
    let e : slice_get (slot_states c.args.slots.now.items) c.args.number ≡ Some (Writing (string_bytes c.in-Writing.target.name) c.in-Writing.target.written.items) =
    found is_writing c.args.slots.now.items c.args.number c.index_mut.result.now refl c.requires.writing c.index_mut.ensures.value ∙ ap (λ (s : MemSlot). Some (slot_state s)) c.in-Writing.is in
    rw e (map-set slot_state c.args.slots.now.items c.args.number _
    ∙ ap (λ (name : List ℕ). set (slot_states c.args.slots.now.items) c.args.number (Writing name c.append.new.self.written.items)) c.in-Ok.ensures.name
    ∙ ap (λ (bytes : List ℕ). set (slot_states c.args.slots.now.items) c.args.number (Writing (string_bytes c.in-Writing.target.name) bytes)) c.in-Ok.ensures.written)

pub returns-in-Ok-clause-file : goal.returns-in-Ok-clause-file
returns-in-Ok-clause-file c =
    let e : slice_get (slot_states c.args.slots.now.items) c.args.number ≡ Some (Writing (string_bytes c.in-Writing.target.name) c.in-Writing.target.written.items) =
    found is_writing c.args.slots.now.items c.args.number c.index_mut.result.now refl c.requires.writing c.index_mut.ensures.value ∙ ap (λ (s : MemSlot). Some (slot_state s)) c.in-Writing.is in
    rw e c.in-Ok.ensures.file

pub returns-in-Err-clause-slot_stays : goal.returns-in-Err-clause-slot_stays
returns-in-Err-clause-slot_stays c =
    map-set_same slot_state c.args.slots.now.items c.args.number _ c.index_mut.result.now
    (ap (λ (name : List ℕ). Writing name c.append.new.self.written.items) c.in-Err.ensures.name
    ∙ ap (λ (bytes : List ℕ). Writing (string_bytes c.in-Writing.target.name) bytes) c.in-Err.ensures.written_stays
    ∙ ap slot_state (sym c.in-Writing.is) ∙ ap slot_state c.index_mut.ensures.value)
