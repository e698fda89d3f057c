-- What a file and an input are can be run.
use Rattle.std.proofs.Common.{◌+◌, ◌≤◌, ℕ, List, length, filter, subst}
use Rattle.rv_model.specs.Image.{Img, AreBytes, IsLoadable}
use Rattle.rv_model.specs.declared.machine.TheConstants.{INPUT_LEN}
use Rattle.elf_load.specs.File.{headers_of}
use Rattle.elf_load.specs.Header.{has_memory}
use Rattle.elf_load.specs.Layout.{Ascends}
use Rattle.elf_load.specs.Loads.{Loads}
use Rattle.elf_load.proofs.Placing.{image, loadable, loads}
use Rattle.elf_load.proofs.Unique.{one_image}
use Rattle.elf_load.proofs.Decided.{in_order}

pub loaded_loadable : (file input : List ℕ) (i : Img) → AreBytes file → AreBytes input → length input + 8 ≤ INPUT_LEN → Loads file input i → IsLoadable i
loaded_loadable file input i octets given fits l =
    let sorted = in_order (filter has_memory (headers_of file)) in
    let ascends : Ascends (headers_of file) sorted.0 = record { same = sorted.1; up = sorted.2 } in
    subst IsLoadable (one_image file input (image file input sorted.0) i (loads file input sorted.0 l.passes ascends) l)
    (loadable file input sorted.0 octets given l.passes ascends fits)
