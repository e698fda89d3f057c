-- Lists of tuples, and the lines that speak of them (docs/PIL.md, "Lines").
use Rattle.std.specs.Prelude.{ℕ, ◌<◌, ◌≤◌, ◌≡◌, ◌≢◌, true, List, length, map, All, slice_index_or}
use Rattle.std.specs.Ordering.{nat_cmp}
use Rattle.std.specs.Cmp.Lexicographic.{slice_cmp}
use Rattle.std.specs.List.Sorted.{IsSorted}
use Rattle.std.specs.Global.{Vec}
use Rattle.pil_ast.specs.Term.{Tuples, Line, lookup, bus, Namespace}
use Rattle.pil_ast.specs.Columns.{Columns}
use Rattle.pil_ast.specs.Holds.{times, selected, tuple}
use Rattle.pil_ast.specs.Broken.{ComesBefore, DiffersFirst}
use Rattle.row_check.specs.declared.broken.Broken.{Broken}
use Rattle.row_check.specs.declared.broken.Broken.TheVariants.{At, Counts}
use Rattle.bus_check.specs.declared.arrays.Kept.{Kept}
use Rattle.bus_check.specs.declared.arrays.Kept.TheVariants.{One, Two, Three, Four, Five, Six, Seven, Eight, Mixed}
use Rattle.pil_ast.specs.Sound.{IsTerm, IsSelector}

-- the line is an `in` or an `is`
abbrev pub IsBus : Line → Type 0
IsBus (lookup a b) = Unit {0}
IsBus (bus ls rs) = Unit {0}
IsBus _ = ⊥

-- a list over a namespace of the text
pub record IsListOf (ns : List Namespace) (a : Tuples) : Type 0 where
  pub space : a.space < length ns
  pub sel : IsSelector ns a.space a.sel
  pub terms : All (IsTerm ns a.space) a.terms

-- the line is an `in` or an `is` whose lists are over namespaces of the text
abbrev pub IsBusOf : List Namespace → Line → Type 0
IsBusOf ns (lookup a b) = IsListOf ns a × IsListOf ns b
IsBusOf ns (bus ls rs) = All (IsListOf ns) ls × All (IsListOf ns) rs
IsBusOf ns _ = ⊥

-- what the vectors hold
abbrev pub numbers : List (Vec ℕ) → List (List ℕ)
numbers vs = map (λ v. v.items) vs

-- the tuples that are kept
abbrev pub held : Kept → List (List ℕ)
held (One arrays) = arrays.items
held (Two arrays) = arrays.items
held (Three arrays) = arrays.items
held (Four arrays) = arrays.items
held (Five arrays) = arrays.items
held (Six arrays) = arrays.items
held (Seven arrays) = arrays.items
held (Eight arrays) = arrays.items
held (Mixed vectors) = numbers vectors.items

-- the tuples ascend, compared number by number; one that stands several times stays so
abbrev pub Ascend : List (List ℕ) → Type 0
Ascend ts = IsSorted (slice_cmp nat_cmp) ts

-- t is the least tuple that two lists don't have equally often
pub record IsLeast (xs ys : List (List ℕ)) (t : List ℕ) : Type 0 where
  pub differ : times t xs ≢ times t ys
  pub first : (u : List ℕ) → ComesBefore u t → times u xs ≡ times u ys

-- two lists have the same tuples before place n, and other ones there, or an end
pub record PartAt (xs ys : List (List ℕ)) (n : ℕ) : Type 0 where
  pub left : n ≤ length xs
  pub right : n ≤ length ys
  pub same : (k : ℕ) (d : List ℕ) → k < n → slice_index_or xs k d ≡ slice_index_or ys k d
  pub differ : (d : List ℕ) → n < length xs → n < length ys → slice_index_or xs n d ≢ slice_index_or ys n d

-- the tuples are those of another list, each as often, and they ascend
pub record IsOrdered (xs ts : List (List ℕ)) : Type 0 where
  pub ascend : Ascend ts
  pub times : (t : List ℕ) → times t ts ≡ times t xs

-- the answer names line k, and the least tuple that two lists don't have equally often, with both counts
abbrev pub DiffersBy : ℕ → List (List ℕ) → List (List ℕ) → Broken → Type 0
DiffersBy k xs ys (Counts line t m n) = (line ≡ k) × DiffersFirst xs ys t m n
DiffersBy k xs ys (At line i r) = ⊥

-- the tuple of row r of instance i is among ts, or the row isn't selected
abbrev pub StandsAt : List Namespace → Columns → Tuples → List (List ℕ) → ℕ → ℕ → Type 0
StandsAt ns c a ts i r = selected ns c a.space i r a.sel ≡ true → times (tuple ns c a.space i r a.terms) ts ≢ 0

-- a fact of each row of an instance of the namespace s
abbrev pub AtEachRowOf : Columns → ℕ → (ℕ → ℕ → Type 0) → ℕ → Type 0
AtEachRowOf c s P i = (r : ℕ) → r < c.rows s → P i r

-- P fails at row r of an instance, and at no row of it before
pub record FailsFirstOf (c : Columns) (s : ℕ) (P : ℕ → ℕ → Type 0) (i r : ℕ) : Type 0 where
  pub row : r < c.rows s
  pub fails : ¬ P i r
  pub first : (q : ℕ) → q < r → P i q
