-- What stands at a number.
use Rattle.std.proofs.Common.{◌≡◌, ◌≤◌, refl, ℕ, zero, suc, List, [], ◌∷◌, map, length, slice_get, arith}
use Rattle.std.specs.Prelude.{Some, None}
use Rattle.pil_names.specs.declared.outline.Constant as C
use Rattle.pil_names.specs.declared.outline.Home as H
use Rattle.pil_names.specs.Outline.{constant_at, home_at}
use Rattle.pil_names.specs.Finding.{polynomial_entries}
use Rattle.pil_names.specs.Shown.{named, home}

pub constant_at-there : (cs : List C.Constant) (k : ℕ) (c : C.Constant) → slice_get cs k ≡ Some c → constant_at (map named cs) k ≡ named c
constant_at-there [] k c h = cc
constant_at-there (x ∷ xs) zero c h = cc
constant_at-there (x ∷ xs) (suc k) c h = constant_at-there xs k c h

pub constant_at-none : (cs : List C.Constant) (k : ℕ) → slice_get cs k ≡ None → (constant_at (map named cs) k).value.value ≡ 0
constant_at-none [] k h = refl
constant_at-none (x ∷ xs) zero h = cc
constant_at-none (x ∷ xs) (suc k) h = constant_at-none xs k h

-- a namespace that isn't there has no polynomials
pub no_home : (hs : List H.Home) (s : ℕ) → length hs ≤ s → polynomial_entries (home_at (map home hs) s) ≡ []
no_home [] s h = refl
no_home (y ∷ hs) zero h = absurd (omega arith)
no_home (y ∷ hs) (suc s) h = no_home hs s (omega arith)
