use Rattle.std.proofs.Common.{◌≡◌, drop}
use Rattle.host_io.specs.Memory.{contents_of}
use Rattle.host_io.specs.States.{file_states}
use Rattle.host_io.proofs.files.bytes_of.Given as goal

abbrev pub invariant-loop-file : goal.invariant-loop-file
invariant-loop-file l = contents_of (file_states (drop l.file-index l.files)) l.name ≡ contents_of (file_states l.files) l.name
