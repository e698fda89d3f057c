-- Which declaration a name stands for: the first of its kind (docs/PIL.md, "Names").
use Rattle.std.specs.Prelude.{ℕ, ◌+◌, List, [], ◌∷◌, map, flat_map, Option, Some, None, bytes_eq, if◌then◌else◌}
use Rattle.pil_syntax.specs.declared.tree.Ident.{Ident}
use Rattle.pil_syntax.specs.declared.tree.Reference.{Reference}
use Rattle.pil_names.specs.Outline.{Draft, column, defined, published, Home, Outline, home_at}

-- a declared name and the number of what it names
pub record Entry : Type 0 where
  pub name : Ident
  pub number : ℕ

-- the number of the first entry with this name
abbrev pub found : List ℕ → List Entry → Option ℕ
found x [] = None
found x (e ∷ es) = if bytes_eq e.name.name x then Some e.number else found x es

-- names with the numbers from n on
abbrev pub numbered : ℕ → List Ident → List Entry
numbered n [] = []
numbered n (x ∷ xs) = record { name = x; number = n } ∷ numbered (n + 1) xs

abbrev pub constant_entries : Outline → List Entry
constant_entries o = numbered 0 (map (λ c. c.name) o.constants)

abbrev pub home_entries : Outline → List Entry
home_entries o = numbered 0 (map (λ h. h.name) o.homes)

abbrev pub published_name : Draft → List Ident
published_name (published x r n) = x ∷ []
published_name _ = []

abbrev pub public_names : List Home → List Ident
public_names hs = flat_map (λ h. flat_map published_name h.items) hs

-- publics are counted over the whole text
abbrev pub public_entries : Outline → List Entry
public_entries o = numbered 0 (public_names o.homes)

-- the polynomials among the items from number k on, each with its number
abbrev pub polynomials_from : ℕ → List Draft → List Entry
polynomials_from k [] = []
polynomials_from k (column c d ∷ ds) = record { name = d.name; number = k } ∷ polynomials_from (k + 1) ds
polynomials_from k (defined x e ∷ ds) = record { name = x; number = k } ∷ polynomials_from (k + 1) ds
polynomials_from k (d ∷ ds) = polynomials_from (k + 1) ds

abbrev pub polynomial_entries : Home → List Entry
polynomial_entries h = polynomials_from 0 h.items

-- the namespace that a reference names, which is s where it names none
abbrev pub home_named : Outline → ℕ → Option Ident → Option ℕ
home_named o s None = Some s
home_named o s (Some x) = found x.name (home_entries o)

-- the number of the item that a reference from the namespace s names in its namespace m
abbrev pub item_named : Outline → ℕ → Reference → Option ℕ
item_named o m r = found r.name.name (polynomial_entries (home_at o.homes m))
