use Rattle.std.proofs.Common.{subst, List, ℕ, arith}
use Rattle.std.specs.Prelude.{Contains}
use Rattle.host_io.specs.Memory.{calls_of, contents_of}
use Rattle.host_io.specs.States.{file_states, slot_states, all_asked}
use Rattle.host_io.specs.declared.call.HostCall.{HostCall}
use Rattle.host_io.specs.declared.call.HostCall.TheVariants as calls
use Rattle.host_io.proofs.MemCalls.{ReadsSlot, read_given, read_readable, read_writable, read_world}
use Rattle.host_io.proofs.mem_host.MemHostHost.read.Goals as goal

pub returns-then-begin_call-clause-only : goal.returns-then-begin_call-clause-only
returns-then-begin_call-clause-only c = λ failed. subst (λ (xs : List (HostCall × ℕ)). Contains xs (calls.Read, calls_of c.args.self.now.counts calls.Read)) c.deref.ensures.value (c.begin_call.ensures.listed.0 c.if-begin_call.true)

pub returns-clause-given : goal.returns-clause-given
returns-clause-given c =
    let r : ReadsSlot (slot_states c.args.self.now.slots.items) (slot_states c.take_from.new.slots.items) c.args.slot.number c.take_from.result = record { may = c.requires.may; ended = c.take_from.ensures.ended; moved = c.take_from.ensures.moved } in
    read_given _ _ c.args.slot.number c.take_from.result r

pub returns-clause-may_read : goal.returns-clause-may_read
returns-clause-may_read c =
    let r : ReadsSlot (slot_states c.args.self.now.slots.items) (slot_states c.take_from.new.slots.items) c.args.slot.number c.take_from.result = record { may = c.requires.may; ended = c.take_from.ensures.ended; moved = c.take_from.ensures.moved } in
    read_readable _ _ c.args.slot.number c.take_from.result r

pub returns-clause-may_write : goal.returns-clause-may_write
returns-clause-may_write c =
    let r : ReadsSlot (slot_states c.args.self.now.slots.items) (slot_states c.take_from.new.slots.items) c.args.slot.number c.take_from.result = record { may = c.requires.may; ended = c.take_from.ensures.ended; moved = c.take_from.ensures.moved } in
    read_writable _ _ c.args.slot.number c.take_from.result r

pub returns-clause-ok : goal.returns-clause-ok
returns-clause-ok c =
    let r : ReadsSlot (slot_states c.args.self.now.slots.items) (slot_states c.take_from.new.slots.items) c.args.slot.number c.take_from.result = record { may = c.requires.may; ended = c.take_from.ensures.ended; moved = c.take_from.ensures.moved } in
    read_world (contents_of (file_states c.args.self.now.files.items)) _ _ (all_asked c.args.self.now.asked.items) c.args.self.now.reported.items c.args.slot.number c.min-most.result c.take_from.result c.args.into.now c.take_from.new.into r (omega arith) c.take_from.ensures.count c.take_from.ensures.front
