-- How far the tests have come.
use Rattle.std.specs.Prelude.{◌≡◌, ℕ, ◌<◌, ◌⊎◌, List}
use Rattle.elf_load.specs.Refusal.{Fails, Refused, place}
use Rattle.elf_load.specs.declared.error.ElfErr.{ElfErr}
use Rattle.elf_load.specs.declared.error.ElfErr.TheVariants.{NoMemory}

-- none of the first n tests fails
abbrev pub PassesFirst : ℕ → List ℕ → Type 0
PassesFirst n file = (e : ElfErr) → place e < n → Fails file e → ⊥

-- what the loader may answer in place of an image
abbrev pub IsAnswer : List ℕ → ElfErr → Type 0
IsAnswer file e = (e ≡ NoMemory) ⊎ Refused file e
