use Rattle.std.proofs.Common.{◌≡◌, ◌+◌, ◌-◌, ◌<◌, arith}
use Rattle.std.proofs.lemmas.List.Elements.{All-from_get_or}
use Rattle.rv_model.specs.Image.{AreBytes, IsSegment}
use Rattle.elf_load.specs.declared.header.ProgramHeader.{ProgramHeader}
use Rattle.elf_load.specs.Loads.{segment}
use Rattle.elf_load.proofs.Placing.{segment_fits}
use Rattle.elf_load.proofs.loading.segment_of.Goals as goal

pub invariant_of-result : goal.invariant_of-result
invariant_of-result c =
    let file = c.args.file.now in
    let octets : AreBytes file = All-from_get_or (λ b. b < 256) file 0 (λ i below. omega (arith, c.type_inv.file i)) in
    let h : ProgramHeader = c.args.header.now in
    let fits : IsSegment (segment file h) = segment_fits file h octets c.requires in
    let size : h.p_offset + h.p_filesz - h.p_offset ≡ h.p_filesz = omega arith in
    rw (c.is_executable.ensures, c.in_ok-bytes.ensures.items, size) fits
