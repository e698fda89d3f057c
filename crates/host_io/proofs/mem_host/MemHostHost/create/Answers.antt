use Rattle.std.proofs.Common.{◌≡◌, ◌-◌, ◌∙◌, ◌++◌, ◌∷◌, [], refl, sym, ap, subst, List, ℕ, arith, length, Option}
use Rattle.std.specs.Prelude.{Contains, is_some}
use Rattle.std.proofs.lemmas.List.{length-map}
use Rattle.host_io.specs.World.{Asked, Created, after_create}
use Rattle.host_io.specs.Memory.{SlotState, calls_of, is_reading, is_writing, contents_of, Writing}
use Rattle.host_io.specs.States.{file_states, slot_state, slot_states, asked_of, all_asked}
use Rattle.host_io.specs.declared.call.HostCall.{HostCall}
use Rattle.host_io.specs.declared.call.HostCall.TheVariants as calls
use Rattle.host_io.proofs.MemCalls.{gains_added, same_added, same_states, fresh_number, map-dropped}
use Rattle.host_io.proofs.MemWorlds.{mem_world, world-create}
use Rattle.host_io.proofs.mem_host.MemHostHost.create.Goals as goal

pub returns-then-fails-clause-only : goal.returns-then-fails-clause-only
returns-then-fails-clause-only c = λ failed. subst (λ (xs : List (HostCall × ℕ)). Contains xs (calls.Create, calls_of c.args.self.now.counts calls.Create)) c.deref.ensures.value (c.begin_call-fails.ensures.listed.0 c.if-fails.true)

pub returns-in_default-empty_file-clause-given : goal.returns-in_default-empty_file-clause-given
returns-in_default-empty_file-clause-given c = same_states is_some _ _ (c.drop_last.ensures _ _ c.in-Ok-add_slot.ensures.ok)

pub returns-in_default-empty_file-clause-may_read : goal.returns-in_default-empty_file-clause-may_read
returns-in_default-empty_file-clause-may_read c = same_states is_reading _ _ (c.drop_last.ensures _ _ c.in-Ok-add_slot.ensures.ok)

pub returns-in_default-empty_file-clause-may_write : goal.returns-in_default-empty_file-clause-may_write
returns-in_default-empty_file-clause-may_write c = same_states is_writing _ _ (c.drop_last.ensures _ _ c.in-Ok-add_slot.ensures.ok)

pub returns-in_default-empty_file-clause-no_memory : goal.returns-in_default-empty_file-clause-no_memory
returns-in_default-empty_file-clause-no_memory c = λ refused.
    let contents = ap (λ (files : _). contents_of (file_states files)) c.in_default-empty_file.ensures.err in
    let slots : slot_states c.drop_last.new.slots.items ≡ slot_states c.args.self.now.slots.items = c.drop_last.ensures _ _ c.in-Ok-add_slot.ensures.ok in
    let asked : all_asked c.pop-in_default-empty_file.new.self.items ≡ all_asked c.args.self.now.asked.items = map-dropped asked_of c.ask.new.asked.items c.pop-in_default-empty_file.new.self.items _ _ _ c.pop-in_default-empty_file.ensures.rest (ap (λ (n : ℕ). n - 1) c.ask.new.asked.ok.0) c.in-Ok-ask.ensures.ok in
    ap (λ (x : List ℕ → Option (List ℕ)). mem_world x (slot_states c.drop_last.new.slots.items) (all_asked c.pop-in_default-empty_file.new.self.items) c.args.self.now.reported.items) contents
    ∙ ap (λ (x : List SlotState). mem_world (contents_of (file_states c.args.self.now.files.items)) x (all_asked c.pop-in_default-empty_file.new.self.items) c.args.self.now.reported.items) slots
    ∙ ap (λ (x : List Asked). mem_world (contents_of (file_states c.args.self.now.files.items)) (slot_states c.args.self.now.slots.items) x c.args.self.now.reported.items) asked

pub returns-clause-fresh : goal.returns-clause-fresh
returns-clause-fresh c = fresh_number (slot_states c.args.self.now.slots.items) c.len-number.result (omega (arith, length-map c.args.self.now.slots.items slot_state, c.args.self.now.slots.ok.0, c.len-number.ensures))

pub returns-clause-given : goal.returns-clause-given
returns-clause-given c = gains_added is_some _ _ _ c.len-number.result c.in-Ok-add_slot.ensures.ok (omega (arith, length-map c.args.self.now.slots.items slot_state, c.args.self.now.slots.ok.0, c.len-number.ensures)) refl refl

pub returns-clause-may_read : goal.returns-clause-may_read
returns-clause-may_read c = same_added is_reading _ _ _ c.in-Ok-add_slot.ensures.ok refl

pub returns-clause-may_write : goal.returns-clause-may_write
returns-clause-may_write c = gains_added is_writing _ _ _ c.len-number.result c.in-Ok-add_slot.ensures.ok (omega (arith, length-map c.args.self.now.slots.items slot_state, c.args.self.now.slots.ok.0, c.len-number.ensures)) refl refl

pub returns-clause-ok : goal.returns-clause-ok
returns-clause-ok c =
    let at_end : c.len-number.result ≡ length (slot_states c.args.self.now.slots.items) = omega (arith, length-map c.args.self.now.slots.items slot_state, c.args.self.now.slots.ok.0, c.len-number.ensures) in
    world-create (contents_of (file_states c.args.self.now.files.items)) (contents_of (file_states c.empty_file.new.files.items)) (slot_states c.args.self.now.slots.items) (slot_states c.add_slot.new.slots.items) (all_asked c.args.self.now.asked.items) (all_asked c.ask.new.asked.items)
    c.args.self.now.reported.items c.args.name.now c.in-Ok-empty_file.ensures.ok
    (c.in-Ok-add_slot.ensures.ok
    ∙ ap (λ (name : List ℕ). slot_states c.args.self.now.slots.items ++ Writing name c.new-written.result.items ∷ []) c.in-Ok-from_str.ensures.ok
    ∙ ap (λ (bytes : List ℕ). slot_states c.args.self.now.slots.items ++ Writing c.args.name.now bytes ∷ []) c.new-written.ensures.items)
    (c.in-Ok-ask.ensures.ok ∙ ap (λ (name : List ℕ). all_asked c.args.self.now.asked.items ++ Created name ∷ []) c.in-Ok.ensures.ok)
    ∙ ap (λ (n : ℕ). after_create (mem_world (contents_of (file_states c.args.self.now.files.items)) (slot_states c.args.self.now.slots.items) (all_asked c.args.self.now.asked.items) c.args.self.now.reported.items) c.args.name.now n) (sym at_end)
