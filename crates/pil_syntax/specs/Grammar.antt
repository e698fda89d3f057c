-- Which syntax is in the grammar, and which is within the limits.
use Rattle.std.specs.Prelude.{ℕ, ◌+◌, ◌≤◌, List, [], ◌∷◌, max, Bool, true, IsTrue}
use Rattle.pil_syntax.specs.Tree.{Term, num, col, constant, public, opp, group, ◌⊕◌, ◌⊖◌, ◌⊗◌, Filter, every, by_col, by_group, Tuple, Sentence, constant_is, namespace_of, columns, intermediate, public_is, identity, lookup, bus}

pub data Level : Type 0 where
  expr : Level
  term : Level
  fact : Level

-- e may stand where the level is asked for
abbrev pub IsOf : Level → Term → Type 0
IsOf l (num n) = Unit {0}
IsOf l (col r) = Unit {0}
IsOf l (constant x) = Unit {0}
IsOf l (public x) = Unit {0}
IsOf l (opp f) = IsOf fact f
IsOf l (group e) = IsOf expr e
IsOf expr (e ⊕ t) = IsOf expr e × IsOf term t
IsOf expr (e ⊖ t) = IsOf expr e × IsOf term t
IsOf expr (t ⊗ f) = IsOf term t × IsOf fact f
IsOf term (t ⊗ f) = IsOf term t × IsOf fact f
IsOf term (e ⊕ t) = ⊥
IsOf term (e ⊖ t) = ⊥
IsOf fact (e ⊕ t) = ⊥
IsOf fact (e ⊖ t) = ⊥
IsOf fact (t ⊗ f) = ⊥

-- how deep parentheses and prefix minuses are nested
abbrev pub nesting : Term → ℕ
nesting (num n) = 0
nesting (col r) = 0
nesting (constant x) = 0
nesting (public x) = 0
nesting (opp f) = nesting f + 1
nesting (group e) = nesting e + 1
nesting (a ⊕ b) = max (nesting a) (nesting b)
nesting (a ⊖ b) = max (nesting a) (nesting b)
nesting (a ⊗ b) = max (nesting a) (nesting b)

-- how many operators stand between expressions, in parentheses too
abbrev pub operators : Term → ℕ
operators (num n) = 0
operators (col r) = 0
operators (constant x) = 0
operators (public x) = 0
operators (opp f) = operators f
operators (group e) = operators e
operators (a ⊕ b) = operators a + 1 + operators b
operators (a ⊖ b) = operators a + 1 + operators b
operators (a ⊗ b) = operators a + 1 + operators b

-- how deep parentheses and prefix minuses may be nested, and how many operators an expression may have
pub record Limits : Type 0 where
  pub nested : ℕ
  pub operators : ℕ

abbrev pub limits : Limits
limits = record { nested = 32; operators = 128 }

-- a side of an identity, an intermediate, a selector or an entry of a list, within the limits
pub record IsWhole (m : Limits) (e : Term) : Type 0 where
  pub level : IsOf expr e
  pub nesting : nesting e ≤ m.nested
  pub operators : operators e ≤ m.operators

abbrev pub IsFilter : Limits → Filter → Type 0
IsFilter m every = Unit {0}
IsFilter m (by_col r) = Unit {0}
IsFilter m (by_group e) = IsWhole m (group e)

-- each of one or more
abbrev pub EachOf : {A : Type 0} → (A → Type 0) → List A → Type 0
EachOf P [] = ⊥
EachOf P (x ∷ []) = P x
EachOf P (x ∷ y ∷ xs) = P x × EachOf P (y ∷ xs)

pub record IsTuple (m : Limits) (l : Tuple) : Type 0 where
  pub filter : IsFilter m l.filter
  pub entries : EachOf (IsWhole m) l.entries

abbrev pub IsSentence : Limits → Sentence → Type 0
IsSentence m (constant_is x n) = Unit {0}
IsSentence m (namespace_of x n) = Unit {0}
IsSentence m (columns k ds) = EachOf (λ d. Unit {0}) ds
IsSentence m (intermediate x e) = IsWhole m e
IsSentence m (public_is x r n) = Unit {0}
IsSentence m (identity a b) = IsWhole m a × IsWhole m b
IsSentence m (lookup a b) = IsTuple m a × IsTuple m b
IsSentence m (bus a b) = EachOf (IsTuple m) a × EachOf (IsTuple m) b

-- file = { const | space }: an item that is no constant has a namespace before it
abbrev pub IsFile : Limits → Bool → List Sentence → Type 0
IsFile m begun [] = Unit {0}
IsFile m begun (constant_is x n ∷ ss) = IsFile m begun ss
IsFile m begun (namespace_of x n ∷ ss) = IsFile m true ss
IsFile m begun (s ∷ ss) = IsTrue begun × IsSentence m s × IsFile m begun ss
