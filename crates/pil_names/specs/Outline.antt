-- A file as its constants and its namespaces, each with its items in order of the text.
use Rattle.std.specs.Prelude.{ℕ, zero, suc, List, [], ◌∷◌, ◌++◌, map, flat_map}
use Rattle.pil_syntax.specs.declared.tree.Ident.{Ident}
use Rattle.pil_syntax.specs.declared.tree.Number.{Number}
use Rattle.pil_syntax.specs.declared.tree.Reference.{Reference}
use Rattle.pil_syntax.specs.declared.tree.Declaration.{Declaration}
use Rattle.pil_syntax.specs.declared.tree.ColumnKind.{ColumnKind}
use Rattle.pil_syntax.specs.declared.tree.Size.{Size}
use Rattle.pil_syntax.specs.declared.tree.Size.TheVariants as sizes
use Rattle.pil_syntax.specs.Tree.{Term, Tuple, Sentence, constant_is, namespace_of, columns, intermediate, public_is, identity, lookup, bus}

-- `constant %name = value;`
pub record Named : Type 0 where
  pub name : Ident
  pub value : Number

-- an item of a namespace, with one declaration
pub data Draft : Type 0 where
  column : ColumnKind → Declaration → Draft
  defined : Ident → Term → Draft
  published : Ident → Reference → Number → Draft
  equal : Term → Term → Draft
  inside : Tuple → Tuple → Draft
  against : List Tuple → List Tuple → Draft

-- a namespace
pub record Home : Type 0 where
  pub name : Ident
  pub size : Size
  pub items : List Draft

pub record Outline : Type 0 where
  pub constants : List Named
  pub homes : List Home

abbrev pub constants_of : Sentence → List Named
constants_of (constant_is x n) = record { name = x; value = n } ∷ []
constants_of _ = []

abbrev pub drafts_of : Sentence → List Draft
drafts_of (constant_is x n) = []
drafts_of (namespace_of x n) = []
drafts_of (columns k ds) = map (column k) ds
drafts_of (intermediate x e) = defined x e ∷ []
drafts_of (public_is x r n) = published x r n ∷ []
drafts_of (identity a b) = equal a b ∷ []
drafts_of (lookup a b) = inside a b ∷ []
drafts_of (bus ls rs) = against ls rs ∷ []

-- the items up to the next namespace
abbrev pub items_before : List Sentence → List Draft
items_before [] = []
items_before (namespace_of x n ∷ ss) = []
items_before (s ∷ ss) = drafts_of s ++ items_before ss

abbrev pub homes_of : List Sentence → List Home
homes_of [] = []
homes_of (namespace_of x n ∷ ss) = record { name = x; size = n; items = items_before ss } ∷ homes_of ss
homes_of (s ∷ ss) = homes_of ss

abbrev pub outline_of : List Sentence → Outline
outline_of ss = record { constants = flat_map constants_of ss; homes = homes_of ss }

-- the namespace with number s, from 0
abbrev pub home_at : List Home → ℕ → Home
home_at [] s = record { name = record { name = []; at = 0 }; size = sizes.Number (record { value = 0; at = 0 }); items = [] }
home_at (h ∷ hs) zero = h
home_at (h ∷ hs) (suc s) = home_at hs s

-- the item with number k, from 0
abbrev pub draft_at : List Draft → ℕ → Draft
draft_at [] k = against [] []
draft_at (d ∷ ds) zero = d
draft_at (d ∷ ds) (suc k) = draft_at ds k

-- the constant with number k, from 0
abbrev pub constant_at : List Named → ℕ → Named
constant_at [] k = record { name = record { name = []; at = 0 }; value = record { value = 0; at = 0 } }
constant_at (c ∷ cs) zero = c
constant_at (c ∷ cs) (suc k) = constant_at cs k
