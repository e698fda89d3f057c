-- Printing keeps an expression.
use Rattle.std.proofs.Common.{◌≡◌, ◌+◌, ◌≤◌, refl, ap, arith}
use Rattle.pil_syntax.specs.Tree.{Term, num, col, constant, public, opp, group, ◌⊕◌, ◌⊖◌, ◌⊗◌}
use Rattle.pil_syntax.specs.Grammar.{Level, expr, term, fact, IsOf, nesting, operators, Limits, IsWhole}
use Rattle.pil_syntax.specs.Printing.{bare, dressed, IsDressing}

pub dressed_is : (l : Level) (e : Term) → IsOf l (dressed l e)
dressed_is l (num n) = tt
dressed_is l (col r) = tt
dressed_is l (constant x) = tt
dressed_is l (public x) = tt
dressed_is l (opp a) = dressed_is fact a
dressed_is l (group a) = dressed_is l a
dressed_is expr (a ⊕ b) = (dressed_is expr a, dressed_is term b)
dressed_is term (a ⊕ b) = (dressed_is expr a, dressed_is term b)
dressed_is fact (a ⊕ b) = (dressed_is expr a, dressed_is term b)
dressed_is expr (a ⊖ b) = (dressed_is expr a, dressed_is term b)
dressed_is term (a ⊖ b) = (dressed_is expr a, dressed_is term b)
dressed_is fact (a ⊖ b) = (dressed_is expr a, dressed_is term b)
dressed_is expr (a ⊗ b) = (dressed_is term a, dressed_is fact b)
dressed_is term (a ⊗ b) = (dressed_is term a, dressed_is fact b)
dressed_is fact (a ⊗ b) = (dressed_is term a, dressed_is fact b)

pub bare_dressed : (l : Level) (e : Term) → bare (dressed l e) ≡ bare e
bare_dressed l (num n) = refl
bare_dressed l (col r) = refl
bare_dressed l (constant x) = refl
bare_dressed l (public x) = refl
bare_dressed l (opp a) = ap (λ (x : Term). opp x) (bare_dressed fact a)
bare_dressed l (group a) = bare_dressed l a
bare_dressed expr (a ⊕ b) = let p = bare_dressed expr a in let q = bare_dressed term b in cc
bare_dressed term (a ⊕ b) = let p = bare_dressed expr a in let q = bare_dressed term b in cc
bare_dressed fact (a ⊕ b) = let p = bare_dressed expr a in let q = bare_dressed term b in cc
bare_dressed expr (a ⊖ b) = let p = bare_dressed expr a in let q = bare_dressed term b in cc
bare_dressed term (a ⊖ b) = let p = bare_dressed expr a in let q = bare_dressed term b in cc
bare_dressed fact (a ⊖ b) = let p = bare_dressed expr a in let q = bare_dressed term b in cc
bare_dressed expr (a ⊗ b) = let p = bare_dressed term a in let q = bare_dressed fact b in cc
bare_dressed term (a ⊗ b) = let p = bare_dressed term a in let q = bare_dressed fact b in cc
bare_dressed fact (a ⊗ b) = let p = bare_dressed term a in let q = bare_dressed fact b in cc

pub dressed_operators : (l : Level) (e : Term) → operators (dressed l (bare e)) ≡ operators e
dressed_operators l (num n) = refl
dressed_operators l (col r) = refl
dressed_operators l (constant x) = refl
dressed_operators l (public x) = refl
dressed_operators l (opp a) = dressed_operators fact a
dressed_operators l (group a) = dressed_operators l a
dressed_operators expr (a ⊕ b) = omega (arith, dressed_operators expr a, dressed_operators term b)
dressed_operators term (a ⊕ b) = omega (arith, dressed_operators expr a, dressed_operators term b)
dressed_operators fact (a ⊕ b) = omega (arith, dressed_operators expr a, dressed_operators term b)
dressed_operators expr (a ⊖ b) = omega (arith, dressed_operators expr a, dressed_operators term b)
dressed_operators term (a ⊖ b) = omega (arith, dressed_operators expr a, dressed_operators term b)
dressed_operators fact (a ⊖ b) = omega (arith, dressed_operators expr a, dressed_operators term b)
dressed_operators expr (a ⊗ b) = omega (arith, dressed_operators term a, dressed_operators fact b)
dressed_operators term (a ⊗ b) = omega (arith, dressed_operators term a, dressed_operators fact b)
dressed_operators fact (a ⊗ b) = omega (arith, dressed_operators term a, dressed_operators fact b)

-- one pair of parentheses serves any level
pub one_pair : (l : Level) (e : Term) → nesting (dressed l e) ≤ nesting (dressed expr e) + 1
one_pair l (num n) = omega arith
one_pair l (col r) = omega arith
one_pair l (constant x) = omega arith
one_pair l (public x) = omega arith
one_pair l (opp a) = omega arith
one_pair l (group a) = one_pair l a
one_pair expr (a ⊕ b) = omega arith
one_pair term (a ⊕ b) = omega arith
one_pair fact (a ⊕ b) = omega arith
one_pair expr (a ⊖ b) = omega arith
one_pair term (a ⊖ b) = omega arith
one_pair fact (a ⊖ b) = omega arith
one_pair expr (a ⊗ b) = omega arith
one_pair term (a ⊗ b) = omega arith
one_pair fact (a ⊗ b) = omega arith

-- printing nests no deeper than the text that was read
pub dressed_nesting : (l : Level) (e : Term) → IsOf l e → nesting (dressed l (bare e)) ≤ nesting e
dressed_nesting l (num n) h = omega arith
dressed_nesting l (col r) h = omega arith
dressed_nesting l (constant x) h = omega arith
dressed_nesting l (public x) h = omega arith
dressed_nesting l (opp a) h = omega (arith, dressed_nesting fact a h)
dressed_nesting l (group a) h = omega (arith, dressed_nesting expr a h, one_pair l (bare a))
dressed_nesting expr (a ⊕ b) h = omega (arith, dressed_nesting expr a h.0, dressed_nesting term b h.1)
dressed_nesting term (a ⊕ b) h = absurd h
dressed_nesting fact (a ⊕ b) h = absurd h
dressed_nesting expr (a ⊖ b) h = omega (arith, dressed_nesting expr a h.0, dressed_nesting term b h.1)
dressed_nesting term (a ⊖ b) h = absurd h
dressed_nesting fact (a ⊖ b) h = absurd h
dressed_nesting expr (a ⊗ b) h = omega (arith, dressed_nesting term a h.0, dressed_nesting fact b h.1)
dressed_nesting term (a ⊗ b) h = omega (arith, dressed_nesting term a h.0, dressed_nesting fact b h.1)
dressed_nesting fact (a ⊗ b) h = absurd h

pub bare_bare : (e : Term) → bare (bare e) ≡ bare e
bare_bare (num n) = refl
bare_bare (col r) = refl
bare_bare (constant x) = refl
bare_bare (public x) = refl
bare_bare (opp a) = ap (λ (x : Term). opp x) (bare_bare a)
bare_bare (group a) = bare_bare a
bare_bare (a ⊕ b) = let p = bare_bare a in let q = bare_bare b in cc
bare_bare (a ⊖ b) = let p = bare_bare a in let q = bare_bare b in cc
bare_bare (a ⊗ b) = let p = bare_bare a in let q = bare_bare b in cc

dressed_within : (m : Limits) (e : Term) → IsWhole m e → IsWhole m (dressed expr (bare e))
dressed_within m e h = record { level = dressed_is expr (bare e); nesting = omega (arith, dressed_nesting expr e h.level, h.nesting); operators = omega (arith, dressed_operators expr e, h.operators) }

dressed_selector : (m : Limits) (e : Term) → IsWhole m (group e) → IsWhole m (group (dressed expr (bare e)))
dressed_selector m e h = record { level = dressed_is expr (bare e); nesting = omega (arith, dressed_nesting expr e h.level, h.nesting); operators = omega (arith, dressed_operators expr e, h.operators) }

pub dressing : IsDressing
dressing = record { level = dressed_is; same = bare_dressed; bare_once = bare_bare; within = dressed_within; selector = dressed_selector }
