use Rattle.std.proofs.Common.{refl, subst, List, ℕ}
use Rattle.std.specs.Prelude.{Contains}
use Rattle.host_io.specs.Memory.{calls_of, is_writing, contents_of}
use Rattle.host_io.specs.States.{file_states, slot_states, all_asked}
use Rattle.host_io.specs.declared.call.HostCall.{HostCall}
use Rattle.host_io.specs.declared.call.HostCall.TheVariants as calls
use Rattle.host_io.proofs.MemCalls.{write_given, write_readable, write_writable, writing_left}
use Rattle.host_io.proofs.SlotStates.{within}
use Rattle.host_io.proofs.MemWorlds.{world-write}
use Rattle.host_io.proofs.mem_host.MemHostHost.write.Goals as goal

pub returns-then-begin_call-clause-only : goal.returns-then-begin_call-clause-only
returns-then-begin_call-clause-only c = λ failed. subst (λ (xs : List (HostCall × ℕ)). Contains xs (calls.Write, calls_of c.args.self.now.counts calls.Write)) c.deref.ensures.value (c.begin_call.ensures.listed.0 c.if-begin_call.true)

pub returns-in-Ok-clause-given : goal.returns-in-Ok-clause-given
returns-in-Ok-clause-given c = write_given _ _ c.args.slot.number _ _ c.requires.may c.in-Ok.ensures.slot

pub returns-in-Ok-clause-may_read : goal.returns-in-Ok-clause-may_read
returns-in-Ok-clause-may_read c = write_readable _ _ c.args.slot.number _ _ c.requires.may c.in-Ok.ensures.slot

pub returns-in-Ok-clause-may_write : goal.returns-in-Ok-clause-may_write
returns-in-Ok-clause-may_write c = write_writable _ _ c.args.slot.number _ _ c.requires.may c.in-Ok.ensures.slot

pub returns-in-Ok-clause-ok : goal.returns-in-Ok-clause-ok
returns-in-Ok-clause-ok c =
    world-write (contents_of (file_states c.args.self.now.files.items)) (contents_of (file_states c.append.new.files.items)) (slot_states c.args.self.now.slots.items) (slot_states c.append.new.slots.items)
    (all_asked c.args.self.now.asked.items) c.args.self.now.reported.items c.args.slot.number _ _
    (within is_writing (slot_states c.args.self.now.slots.items) c.args.slot.number refl c.requires.may) c.in-Ok.ensures.slot (writing_left _ c.requires.may) refl refl c.in-Ok.ensures.file
