-- The parentheses that are printed: those that are needed, and no others.
use Rattle.std.specs.Prelude.{◌≡◌}
use Rattle.pil_syntax.specs.Tree.{Term, num, col, constant, public, opp, group, ◌⊕◌, ◌⊖◌, ◌⊗◌}
use Rattle.pil_syntax.specs.Grammar.{Level, expr, term, fact, IsOf, Limits, IsWhole}

-- the expression without its parentheses
abbrev pub bare : Term → Term
bare (num n) = num n
bare (col r) = col r
bare (constant x) = constant x
bare (public x) = public x
bare (opp a) = opp (bare a)
bare (group a) = bare a
bare (a ⊕ b) = bare a ⊕ bare b
bare (a ⊖ b) = bare a ⊖ bare b
bare (a ⊗ b) = bare a ⊗ bare b

-- A sum or difference has parentheses where a term or a fact is asked for, a product where a fact is.
abbrev pub dressed : Level → Term → Term
dressed l (num n) = num n
dressed l (col r) = col r
dressed l (constant x) = constant x
dressed l (public x) = public x
dressed l (opp a) = opp (dressed fact a)
dressed l (group a) = dressed l a
dressed expr (a ⊕ b) = dressed expr a ⊕ dressed term b
dressed term (a ⊕ b) = group (dressed expr a ⊕ dressed term b)
dressed fact (a ⊕ b) = group (dressed expr a ⊕ dressed term b)
dressed expr (a ⊖ b) = dressed expr a ⊖ dressed term b
dressed term (a ⊖ b) = group (dressed expr a ⊖ dressed term b)
dressed fact (a ⊖ b) = group (dressed expr a ⊖ dressed term b)
dressed expr (a ⊗ b) = dressed term a ⊗ dressed fact b
dressed term (a ⊗ b) = dressed term a ⊗ dressed fact b
dressed fact (a ⊗ b) = group (dressed term a ⊗ dressed fact b)

-- A dressed expression is of its level and is the same without parentheses, and that of a text is within the limits of the text.
pub record IsDressing : Type 0 where
  pub level : (l : Level) (e : Term) → IsOf l (dressed l e)
  pub same : (l : Level) (e : Term) → bare (dressed l e) ≡ bare e
  pub bare_once : (e : Term) → bare (bare e) ≡ bare e
  pub within : (m : Limits) (e : Term) → IsWhole m e → IsWhole m (dressed expr (bare e))
  pub selector : (m : Limits) (e : Term) → IsWhole m (group e) → IsWhole m (group (dressed expr (bare e)))
