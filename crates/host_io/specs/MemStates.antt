-- The host in memory as lists.
use Rattle.std.specs.Prelude.{ℕ, List, [], Vec, String}
use Rattle.std.specs.declared.alloc.Global.{Global}
use Rattle.host_io.specs.Memory.{MemState}
use Rattle.host_io.specs.States.{file_states, slot_states, all_asked}
use Rattle.host_io.specs.declared.call.HostCall.{HostCall}
use Rattle.host_io.specs.declared.mem_host.MemHost.{MemHost}

abbrev pub state_of : MemHost → MemState
state_of host = record {
  files = file_states host.files.items;
  slots = slot_states host.slots.items;
  asked = all_asked host.asked.items;
  reported = host.reported.items;
  faults = host.faults;
  grain = host.grain;
  failing = host.failing.items;
  counts = host.counts;
}

-- a host before its first call
abbrev pub first_state : List (String Global × Vec ℕ Global) → ℕ → List (HostCall × ℕ) → MemState
first_state files grain failing = record {
  files = file_states files;
  slots = [];
  asked = [];
  reported = [];
  faults = 0;
  grain = grain;
  failing = failing;
  counts = record { open_calls = 0; read_calls = 0; create_calls = 0; write_calls = 0; report_calls = 0 };
}
