-- What stands at a number among the constants, the namespaces and the items.
use Rattle.std.proofs.Common.{◌≡◌, ℕ, zero, suc, List, [], ◌∷◌, map, Some, None, slice_get, unwrap_or, refl, ap, rules}
use Rattle.pil_names.specs.declared.outline.Constant as C
use Rattle.pil_names.specs.declared.outline.Home as H
use Rattle.pil_names.specs.Outline.{Draft, against, home_at, draft_at, constant_at}
use Rattle.pil_names.specs.Shown.{named, home}

pub constant-past : (cs : List C.Constant) (k : ℕ) → slice_get cs k ≡ None → constant_at (map named cs) k ≡ constant_at [] k
constant-past [] k e = refl
constant-past (d ∷ ds) zero e = search rules
constant-past (d ∷ ds) (suc k) e = constant-past ds k e

pub home-within : (hs : List H.Home) (s : ℕ) (h : H.Home) → slice_get hs s ≡ Some h → home_at (map home hs) s ≡ home h
home-within [] s h e = search rules
home-within (g ∷ gs) zero h e = ap (λ o. home (unwrap_or o g)) e
home-within (g ∷ gs) (suc s) h e = home-within gs s h e

pub home-missing : (hs : List H.Home) (s : ℕ) → slice_get hs s ≡ None → home_at (map home hs) s ≡ home_at [] s
home-missing [] s e = refl
home-missing (g ∷ gs) zero e = search rules
home-missing (g ∷ gs) (suc s) e = home-missing gs s e

pub draft-within : (ds : List Draft) (k : ℕ) (d : Draft) → slice_get ds k ≡ Some d → draft_at ds k ≡ d
draft-within [] k d e = search rules
draft-within (c ∷ ds) zero d e = ap (λ o. unwrap_or o c) e
draft-within (c ∷ ds) (suc k) d e = draft-within ds k d e

pub draft-past : (ds : List Draft) (k : ℕ) → slice_get ds k ≡ None → draft_at ds k ≡ against [] []
draft-past [] k e = refl
draft-past (c ∷ ds) zero e = search rules
draft-past (c ∷ ds) (suc k) e = draft-past ds k e
