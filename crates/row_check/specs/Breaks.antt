-- What an answer says of a line of a text (docs/PIL.md, "The first broken line").
use Rattle.std.specs.Prelude.{ℕ, ◌<◌, ◌≤◌, ◌≡◌, ◌-◌, List, length}
use Rattle.row_check.specs.declared.broken.Broken.{Broken}
use Rattle.row_check.specs.declared.broken.Broken.TheVariants.{At, Counts}
use Rattle.pil_ast.specs.Term.{Term, Line, identity, Namespace, item_at}
use Rattle.pil_ast.specs.Columns.{Columns}
use Rattle.pil_ast.specs.Holds.{EqualAt, Holds, lines}
use Rattle.pil_ast.specs.Sound.{IsTerm}
use Rattle.pil_ast.specs.Broken.{BreaksAt, BreaksBy}

-- the line is an identity
abbrev pub IsIdentity : Line → Type 0
IsIdentity (identity s a b) = Unit {0}
IsIdentity _ = ⊥

-- the line is an identity over a namespace of the text
abbrev pub IsIdentityOf : List Namespace → Line → Type 0
IsIdentityOf ns (identity s a b) = (s < length ns) × IsTerm ns s a × IsTerm ns s b
IsIdentityOf ns _ = ⊥

-- the answer names line k, which is l, and the place or the tuple at which it is first broken
abbrev pub IsBreakOf : List Namespace → Columns → Line → ℕ → Broken → Type 0
IsBreakOf ns c l k (At line i r) = (line ≡ k) × BreaksAt ns c l i r
IsBreakOf ns c l k (Counts line t m n) = (line ≡ k) × BreaksBy ns c l t m n

-- the answer names line k, and the place or the tuple at which it is first broken
abbrev pub IsBreak : List Namespace → Columns → ℕ → Broken → Type 0
IsBreak ns c k b = IsBreakOf ns c (item_at (lines ns) (k - 1)) k b

-- the line that an answer names
abbrev pub line_of : Broken → ℕ
line_of (At line i r) = line
line_of (Counts line t m n) = line

-- the answer names the first broken line of a text
pub record IsFirstBroken (ns : List Namespace) (c : Columns) (b : Broken) : Type 0 where
  pub some : 1 ≤ line_of b
  pub inside : line_of b ≤ length (lines ns)
  pub breaks : IsBreak ns c (line_of b) b
  pub before : (k : ℕ) → 1 ≤ k → k < line_of b → Holds ns c (item_at (lines ns) (k - 1))

-- two terms have one value at each row of an instance
abbrev pub IsEqual : List Namespace → Columns → ℕ → Term → Term → ℕ → Type 0
IsEqual ns c s a b i = (r : ℕ) → r < c.rows s → EqualAt ns c s a b i r

-- they differ at a row of an instance, and at none before
pub record IsUnequalFirst (ns : List Namespace) (c : Columns) (s : ℕ) (a b : Term) (i r : ℕ) : Type 0 where
  pub inside : r < c.rows s
  pub differ : ¬ EqualAt ns c s a b i r
  pub first : (q : ℕ) → q < r → EqualAt ns c s a b i q

-- the namespace that an identity speaks of
abbrev pub space_of : Line → ℕ
space_of (identity s a b) = s
space_of _ = 0

-- an identity holds at each row of instance i
abbrev pub HoldsIn : List Namespace → Columns → ℕ → Line → Type 0
HoldsIn ns c i (identity s a b) = IsEqual ns c s a b i
HoldsIn ns c i _ = Unit {0}

-- the answer names line k, which is the identity l, and the least row of instance i at which it is broken
abbrev pub IsBreakIn : List Namespace → Columns → ℕ → Line → ℕ → Broken → Type 0
IsBreakIn ns c i (identity s a b) k (At line j r) = (line ≡ k) × (j ≡ i) × IsUnequalFirst ns c s a b i r
IsBreakIn ns c i _ k _ = ⊥
