-- Paths, and dependence as a path.
use Rattle.std.proofs.Common.{ℕ, inl, inr, List, subst, sym}
use Rattle.pil_ast.specs.Term.{Line}
use Rattle.pil_cycles.specs.Cycles.{DependsOn, on_named, on_deeper}
use Rattle.pil_cycles.specs.Paths.{Path, step, walk, Reaches, NamesAt}

pub join : (E : ℕ → ℕ → Type 0) (a b c : ℕ) → Path E a b → Path E b c → Path E a c
join E a b c (step x y e) q = walk a b c e q
join E a b c (walk x y z e p) q = walk a y c e (join E y b c p q)

-- a path, and one from its end or none
pub path_then : (E : ℕ → ℕ → Type 0) (a b c : ℕ) → Path E a b → Reaches E b c → Path E a c
path_then E a b c p r = elim r as (λ x. Path E a c) [ inl e ↦ subst (λ x. Path E a x) e p | inr q ↦ join E a b c p q ]

-- a step, and a path from its end or none
pub step_then : (E : ℕ → ℕ → Type 0) (a b c : ℕ) → E a b → Reaches E b c → Path E a c
step_then E a b c e r = path_then E a b c (step a b e) r

pub reaches_join : (E : ℕ → ℕ → Type 0) (a b c : ℕ) → Reaches E a b → Reaches E b c → Reaches E a c
reaches_join E a b c r s = elim r as (λ x. Reaches E a c) [ inl e ↦ subst (λ x. Reaches E x c) (sym e) s | inr p ↦ inr (path_then E a b c p s) ]

-- a path in one relation is one in another that has its steps
pub path_mapped : (E F : ℕ → ℕ → Type 0) → ((a b : ℕ) → E a b → F a b) → (a b : ℕ) → Path E a b → Path F a b
path_mapped E F f a b (step x y e) = step a b (f a b e)
path_mapped E F f a b (walk x y z e p) = walk a y b (f a y e) (path_mapped E F f y b p)

pub reaches_mapped : (E F : ℕ → ℕ → Type 0) → ((a b : ℕ) → E a b → F a b) → (a b : ℕ) → Reaches E a b → Reaches F a b
reaches_mapped E F f a b r = elim r as (λ x. Reaches F a b) [ inl e ↦ inl e | inr p ↦ inr (path_mapped E F f a b p) ]

-- what holds where a step leads to b, and where one leads to what it holds of, holds where a path leads to b
pub along : (E : ℕ → ℕ → Type 0) (P : ℕ → Type 0) (a b : ℕ) → ((x : ℕ) → E x b → P x) → ((x y : ℕ) → E x y → P y → P x) → Path E a b → P a
along E P a b first more (step x y e) = first a e
along E P a b first more (walk x y z e p) = more a y e (along E P y b first more p)

-- a path begins where a step does
pub begins : (E : ℕ → ℕ → Type 0) (P : ℕ → Type 0) (a b : ℕ) → ((x y : ℕ) → E x y → P x) → Path E a b → P a
begins E P a b h (step x y e) = h a b e
begins E P a b h (walk x y z e p) = h a y e

pub path_from : (items : List Line) (a b : ℕ) → DependsOn items a b → Path (NamesAt items) a b
path_from items a b (on_named x y e) = step a b e
path_from items a b (on_deeper x y z e d) = walk a y b e (path_from items y b d)

pub depends_from : (items : List Line) (a b : ℕ) → Path (NamesAt items) a b → DependsOn items a b
depends_from items a b (step x y e) = on_named a b e
depends_from items a b (walk x y z e p) = on_deeper a y b e (depends_from items y b p)
