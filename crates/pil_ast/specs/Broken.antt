-- Where a line is first broken (docs/PIL.md, "The first broken line").
use Rattle.std.specs.Prelude.{ℕ, ◌<◌, ◌≡◌, ◌≢◌, ◌⊎◌, List}
use Rattle.std.specs.Ordering.{nat_cmp}
use Rattle.std.specs.declared.cmp.Ordering.TheVariants.{Less}
use Rattle.std.specs.Cmp.Lexicographic.{slice_cmp}
use Rattle.pil_ast.specs.Term.{Line, identity, lookup, bus, Namespace}
use Rattle.pil_ast.specs.Columns.{Columns}
use Rattle.pil_ast.specs.Holds.{EqualAt, FoundAt, all_sent, times}

-- row q of instance j comes before row r of instance i
abbrev pub IsBefore : ℕ → ℕ → ℕ → ℕ → Type 0
IsBefore j q i r = (j < i) ⊎ ((j ≡ i) × (q < r))

-- P fails at row r of instance i of the namespace s, and at no row before
pub record FailsFirst (c : Columns) (s : ℕ) (P : ℕ → ℕ → Type 0) (i r : ℕ) : Type 0 where
  pub instance : i < c.instances s
  pub row : r < c.rows s
  pub fails : ¬ P i r
  pub first : (j q : ℕ) → j < c.instances s → q < c.rows s → IsBefore j q i r → P j q

-- the least (instance, row) at which an identity or an `in` is broken
abbrev pub BreaksAt : List Namespace → Columns → Line → ℕ → ℕ → Type 0
BreaksAt ns c (identity s a b) i r = FailsFirst c s (EqualAt ns c s a b) i r
BreaksAt ns c (lookup a b) i r = FailsFirst c a.space (FoundAt ns c a b) i r
BreaksAt ns c _ i r = ⊥

-- a tuple that stands before another, compared number by number
abbrev pub ComesBefore : List ℕ → List ℕ → Type 0
ComesBefore t u = slice_cmp nat_cmp t u ≡ Less

-- t is the least tuple that two lists don't have equally often, and they have it m and n times
pub record DiffersFirst (xs ys : List (List ℕ)) (t : List ℕ) (m n : ℕ) : Type 0 where
  pub left : times t xs ≡ m
  pub right : times t ys ≡ n
  pub differ : m ≢ n
  pub first : (u : List ℕ) → ComesBefore u t → times u xs ≡ times u ys

-- the least tuple at which an `is` is broken, with both counts
abbrev pub BreaksBy : List Namespace → Columns → Line → List ℕ → ℕ → ℕ → Type 0
BreaksBy ns c (bus ls rs) t m n = DiffersFirst (all_sent ns c ls) (all_sent ns c rs) t m n
BreaksBy ns c _ t m n = ⊥
