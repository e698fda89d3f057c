-- What the maps of names hold: the first declaration of each name, for each kind of name.
use Rattle.std.specs.Prelude.{ℕ, ◌≡◌, ◌<◌, ◌^◌, List, length, Option, Some, None, is_some, slice_get, bytes_eq, if◌then◌else◌}
use Rattle.std.specs.Ordering.{nat_cmp}
use Rattle.std.specs.Cmp.Lexicographic.{slice_cmp}
use Rattle.std.specs.BTreeMap.{get_by}
use Rattle.pil_names.specs.declared.names.Names.{Names}
use Rattle.pil_names.specs.declared.directory.Directory.{Directory}
use Rattle.pil_names.specs.declared.register.Register.{Register}
use Rattle.pil_names.specs.Outline.{Outline, Home, home_at}
use Rattle.pil_names.specs.Finding.{Entry, found, constant_entries, home_entries, public_names, public_entries, polynomial_entries}
use Rattle.pil_names.specs.Least.{least}
use Rattle.pil_names.specs.Wrongs.{repeated_among}

-- the number that a map has for a name
abbrev pub number_of : Names → List ℕ → Option ℕ
number_of n x = get_by (λ k. slice_cmp nat_cmp x k.items) n.numbers

-- n has the number v for the name x, unless m has one, and else what m has
abbrev pub Adds : Names → List ℕ → ℕ → Names → Type 0
Adds m x v n = (y : List ℕ) → number_of n y ≡ (if is_some (number_of m y) then number_of m y else (if bytes_eq x y then Some v else None))

-- the map has the number of each name's first entry, and no other
abbrev pub Lists : Names → List Entry → Type 0
Lists n es = (x : List ℕ) → number_of n x ≡ found x es

pub record IsDirectory (o : Outline) (d : Directory) : Type 0 where
  pub constants : Lists d.constants (constant_entries o)
  pub homes : Lists d.homes (home_entries o)
  pub publics : Lists d.publics (public_entries o)
  pub spaces : length d.polynomials.items ≡ length o.homes
  pub polynomials : (s : ℕ) (names : Names) → slice_get d.polynomials.items s ≡ Some names → Lists names (polynomial_entries (home_at o.homes s))

-- there are few enough names of each kind that their numbers have 32 bits
pub record IsCountable (o : Outline) : Type 0 where
  pub constants : length o.constants < 2 ^ 32
  pub homes : length o.homes < 2 ^ 32
  pub publics : length (public_names o.homes) < 2 ^ 32
  pub items : (s : ℕ) → length (home_at o.homes s).items < 2 ^ 32

-- a register of the names of these entries: a map of them, and the least place of one that stood before
pub record Registers (r : Register) (es : List Entry) : Type 0 where
  pub names : Lists r.names es
  pub repeated : r.repeated ≡ least (repeated_among es)

-- maps of the polynomials of each namespace
pub record ListsEach (ns : List Names) (hs : List Home) : Type 0 where
  pub spaces : length ns ≡ length hs
  pub polynomials : (s : ℕ) (names : Names) → slice_get ns s ≡ Some names → Lists names (polynomial_entries (home_at hs s))
