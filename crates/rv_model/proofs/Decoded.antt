-- Instructions decoded one after the other.
use Rattle.std.proofs.Common.{◌≡◌, ◌+◌, ◌*◌, ℕ, zero, suc, List, [], ◌∷◌, ◌++◌, length, Option, Some, None, ◌⊎◌, inl, inr, refl, ap, sym, ◌∙◌}
use Rattle.std.specs.List.{slice_get}
use Rattle.rv_word.specs.declared.instr.Instr.{Instr}
use Rattle.rv_model.specs.Image.{Img, fetch}
use Rattle.rv_model.specs.Code.{instr_of, AreInstructions}

-- an element of a list with one more is an element of the list, or the last
slice_get-more : {X : Type 0} (xs : List X) (y z : X) (k : ℕ) → slice_get (xs ++ y ∷ []) k ≡ Some z → (slice_get xs k ≡ Some z) ⊎ ((k ≡ length xs) × (y ≡ z))
slice_get-more [] y z zero e = inr (refl, cc)
slice_get-more [] y z (suc k) e = absurd (let clash : None ≡ Some z = e in cc)
slice_get-more (x ∷ xs) y z zero e = inl e
slice_get-more (x ∷ xs) y z (suc k) e = elim (slice_get-more xs y z k e) [ inl there ↦ inl there | inr (at, is) ↦ inr (ap suc at, is) ]

pub instructions_none : (image : Img) (start : ℕ) (instrs : List (Option Instr)) → instrs ≡ [] → AreInstructions image start instrs
instructions_none image start instrs none = rw none (λ k i e. absurd (let clash : None ≡ Some (Some i) = e in cc))

pub instructions_more : (image : Img) (start : ℕ) (instrs : List (Option Instr)) (x : Option Instr) → x ≡ instr_of (fetch image (start + 4 * length instrs)) → AreInstructions image start instrs → AreInstructions image start (instrs ++ x ∷ [])
instructions_more image start instrs x is before k i e = elim (slice_get-more instrs x (Some i) k e) [
  | inl there ↦ before k i there
  | inr (at, same) ↦ ap (λ n. instr_of (fetch image (start + 4 * n))) at ∙ sym is ∙ same
]
