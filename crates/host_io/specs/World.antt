-- What a host tells that tells contents, and what its calls change of it.
use Rattle.std.specs.Prelude.{◌==◌, ℕ, List, [], ◌∷◌, ◌++◌, drop, Option, Some, None, nat_eq, if◌then◌else◌}
use Rattle.std.specs.Option.{option_map}
use Rattle.std.specs.Cmp.Lexicographic.{pointwise}

-- a name that was asked for, and by which call; names are the bytes of their text
pub data Asked : Type 0 where
  Opened : List ℕ → Asked
  Created : List ℕ → Asked

pub record World : Type 0 where
  -- behind a name, if it has a file
  pub contents : List ℕ → Option (List ℕ)
  -- what is left of a slot
  pub left : ℕ → List ℕ
  -- written to a slot since it was created, and the name for which it was created
  pub written : ℕ → List ℕ
  pub target : ℕ → List ℕ
  -- the bytes reported, and the names asked for in order
  pub reported : List ℕ
  pub asked : List Asked

-- a function whose value at one slot is changed
abbrev pub with_slot : (ℕ → List ℕ) → ℕ → (List ℕ → List ℕ) → ℕ → List ℕ
with_slot f slot change n = if n == slot then change (f n) else f n

-- a function whose value at one name is changed
abbrev pub with_file : (List ℕ → Option (List ℕ)) → List ℕ → (Option (List ℕ) → Option (List ℕ)) → List ℕ → Option (List ℕ)
with_file f name change other = if pointwise nat_eq other name then change (f other) else f other

-- a name was asked for
abbrev pub after_asking : World → Asked → World
after_asking w name = record w { asked = w.asked ++ name ∷ [] }

-- a slot was opened with these bytes left
abbrev pub after_open : World → List ℕ → ℕ → List ℕ → World
after_open w name slot bytes = record w {
  left = with_slot w.left slot (λ old. bytes);
  asked = w.asked ++ Opened name ∷ [];
}

-- a slot was created for the name, whose contents are empty then
abbrev pub after_create : World → List ℕ → ℕ → World
after_create w name slot = record w {
  contents = with_file w.contents name (λ old. Some []);
  written = with_slot w.written slot (λ old. []);
  target = with_slot w.target slot (λ old. name);
  asked = w.asked ++ Created name ∷ [];
}

-- the first count bytes were taken off what was left of the slot
abbrev pub after_read : World → ℕ → ℕ → World
after_read w slot count = record w { left = with_slot w.left slot (drop count) }

-- the bytes were appended to the slot and to the contents of its name
abbrev pub after_write : World → ℕ → List ℕ → World
after_write w slot bytes = record w {
  contents = with_file w.contents (w.target slot) (option_map (λ old. old ++ bytes));
  written = with_slot w.written slot (λ old. old ++ bytes);
}

-- the bytes were reported
abbrev pub after_report : World → List ℕ → World
after_report w bytes = record w { reported = w.reported ++ bytes }

-- the world of a host that tells nothing
abbrev pub nothing_told : World
nothing_told = record {
  contents = λ name. None;
  left = λ n. [];
  written = λ n. [];
  target = λ n. [];
  reported = [];
  asked = [];
}
