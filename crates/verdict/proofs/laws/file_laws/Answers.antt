use Rattle.std.proofs.Common.{ℕ, ◌≡◌, List, [], ◌∷◌, ◌++◌, Some, length, take, refl}
use Rattle.std.specs.Prelude.{slice_get}
use Rattle.gold.specs.declared.instances.Table.{Table}
use Rattle.gold.specs.Shapes.{Fill, Fits, Place}
use Rattle.verdict.specs.Standing.{places_of}
use Rattle.verdict.proofs.laws.file_laws.Goals as goal

-- the place of a table among those of these places
next_at : (places : List Place) (before : List Table) (table : Table) (rest : List Table) → Fill (take (length (before ++ table ∷ rest)) places) (before ++ table ∷ rest) → (place : Place) × (slice_get places (length before) ≡ Some place) × Fits place table
next_at [] [] table rest h = absurd h
next_at [] (t ∷ before) table rest h = absurd h
next_at (p ∷ places) [] table rest h = (p, refl, h.0)
next_at (p ∷ places) (t ∷ before) table rest h = next_at places before table rest h.1

pub returns-clause-next : goal.returns-clause-next
returns-clause-next c = λ sizes before table rest fill.
    let at = next_at (places_of sizes) before table rest fill in
    record { place = at.0; is_place = at.1; fits = at.2 }

pub returns-clause-all : goal.returns-clause-all
returns-clause-all c = λ tables formed. record { formed = formed; sized = refl }
