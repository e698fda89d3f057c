-- Accesses that are kept in a list for each key.
use Rattle.std.specs.Prelude.{◌≡◌, ℕ, ◌≤◌, List, [], ◌++◌, All}
use Rattle.chain_pool.specs.Lists.{list_of}
use Rattle.rv_model.specs.Image.{Img}
use Rattle.mem_rows.specs.declared.access.Access.{Access}
use Rattle.mem_rows.specs.declared.access.TheConstants.{END}
use Rattle.mem_rows.specs.Accesses.{accesses_to}
use Rattle.mem_rows.specs.Order.{of_key, key_end}

-- each key's list has its accesses among these, in order
abbrev pub Keeps : List (ℕ × List Access) → List Access → Type 0
Keeps lists xs = (k : ℕ) → list_of lists k ≡ of_key xs k

-- the accesses kept are those before step n of the image's run
abbrev pub KeepsTo : Img → ℕ → List (ℕ × List Access) → Type 0
KeepsTo image n lists = Keeps lists (accesses_to image n)

-- these were put behind the lists of their keys
abbrev pub Adds : List (ℕ × List Access) → List (ℕ × List Access) → List Access → Type 0
Adds old new xs = (k : ℕ) → list_of new k ≡ list_of old k ++ of_key xs k

-- keys have 32 bits, and no time is past the end
pub record AreInReach (lists : List (ℕ × List Access)) : Type 0 where
  pub keys : (k : ℕ) → key_end ≤ k → list_of lists k ≡ []
  pub times : (k : ℕ) → All (λ (a : Access). a.time ≤ END) (list_of lists k)
