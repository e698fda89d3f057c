use Rattle.std.proofs.Common.{◌≡◌, ◌∙◌, ◌++◌, ◌∷◌, [], refl, sym, ap, subst, List, ℕ, arith, inl, length, Some}
use Rattle.std.specs.Prelude.{Contains, is_some}
use Rattle.std.proofs.lemmas.List.{length-map}
use Rattle.host_io.specs.World.{Opened, after_open}
use Rattle.host_io.specs.Memory.{calls_of, is_reading, is_writing, contents_of}
use Rattle.host_io.specs.States.{file_states, slot_state, slot_states, all_asked}
use Rattle.host_io.specs.declared.call.HostCall.{HostCall}
use Rattle.host_io.specs.declared.call.HostCall.TheVariants as calls
use Rattle.host_io.proofs.MemCalls.{gains_added, same_added}
use Rattle.host_io.proofs.MemWorlds.{mem_world, world-open}
use Rattle.host_io.proofs.mem_host.MemHostHost.open.Goals as goal

pub returns-then-fails-clause-only : goal.returns-then-fails-clause-only
returns-then-fails-clause-only c = λ failed. inl (subst (λ (xs : List (HostCall × ℕ)). Contains xs (calls.Open, calls_of c.args.self.now.counts calls.Open)) c.deref.ensures.value (c.begin_call-fails.ensures.listed.0 c.if-fails.true))

pub returns-clause-given : goal.returns-clause-given
returns-clause-given c =
    let at_end : c.len-number.result ≡ length (slot_states c.args.self.now.slots.items) = omega (arith, length-map c.args.self.now.slots.items slot_state, c.args.self.now.slots.ok.0, c.len-number.ensures) in
    gains_added is_some _ _ _ c.len-number.result c.in-Ok-add_slot.ensures.ok at_end refl refl

pub returns-clause-may_read : goal.returns-clause-may_read
returns-clause-may_read c =
    let at_end : c.len-number.result ≡ length (slot_states c.args.self.now.slots.items) = omega (arith, length-map c.args.self.now.slots.items slot_state, c.args.self.now.slots.ok.0, c.len-number.ensures) in
    gains_added is_reading _ _ _ c.len-number.result c.in-Ok-add_slot.ensures.ok at_end refl refl

pub returns-clause-may_write : goal.returns-clause-may_write
returns-clause-may_write c = same_added is_writing _ _ _ c.in-Ok-add_slot.ensures.ok refl

pub returns-clause-ok : goal.returns-clause-ok
returns-clause-ok c =
    let at_end : c.len-number.result ≡ length (slot_states c.args.self.now.slots.items) = omega (arith, length-map c.args.self.now.slots.items slot_state, c.args.self.now.slots.ok.0, c.len-number.ensures) in
    let fact : contents_of (file_states c.deref-2.result.now) c.args.name.now ≡ Some c.in-Some.bytes.items = rw c.in-Some.is at c.in-Ok.ensures in
    record {
      bytes = c.in-Some.bytes.items;
      found = ap (λ (files : _). contents_of (file_states files) c.args.name.now) (sym c.deref-2.ensures.value) ∙ fact;
      after =
          world-open (contents_of (file_states c.args.self.now.files.items)) (slot_states c.args.self.now.slots.items) (slot_states c.add_slot.new.slots.items) (all_asked c.args.self.now.asked.items) (all_asked c.ask.new.asked.items)
          c.args.self.now.reported.items c.args.name.now c.in-Some.bytes.items c.in-Ok-add_slot.ensures.ok
          (c.in-Ok-ask.ensures.ok ∙ ap (λ (name : List ℕ). all_asked c.args.self.now.asked.items ++ Opened name ∷ []) c.in-Ok-from_str.ensures.ok)
          ∙ ap (λ (n : ℕ). after_open (mem_world (contents_of (file_states c.args.self.now.files.items)) (slot_states c.args.self.now.slots.items) (all_asked c.args.self.now.asked.items) c.args.self.now.reported.items) c.args.name.now n c.in-Some.bytes.items) (sym at_end);
    }
