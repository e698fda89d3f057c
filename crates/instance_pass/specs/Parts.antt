-- The lists of an `is`, and the tuples that their rows sent.
use Rattle.std.specs.Prelude.{ℕ, ◌≡◌, ◌≢◌, ◌++◌, List}
use Rattle.instance_pass.specs.declared.parts.Part.{Part}
use Rattle.instance_pass.specs.Senders.{IsSenderIn}

-- the steps of a part of the namespace s are among m steps
abbrev pub IsPartIn : ℕ → ℕ → Part → Type 0
IsPartIn s m p = p.sender.space ≡ s → IsSenderIn m p.sender

-- a part of the namespace s has these tuples more; another stays
pub record Takes (s : ℕ) (more : List (List ℕ)) (old new : Part) : Type 0 where
  pub sender : new.sender ≡ old.sender
  pub here : old.sender.space ≡ s → new.tuples ≡ old.tuples ++ more
  pub elsewhere : old.sender.space ≢ s → new.tuples ≡ old.tuples
