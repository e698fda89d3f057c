-- What is left to show of the row of an access, at each kind and offset: that the sign's column is the sign.
use Rattle.std.proofs.Common.{ℕ, zero, suc, ◌+◌, ◌*◌, ◌/◌, ◌%◌, ◌<◌, ◌≡◌, List, [], ◌∷◌, ◌++◌, refl, ◌∙◌, subst, div-add-mod', mul_comm, arith}
use Rattle.rv_word.specs.declared.instr.Kind.{Kind}
use Rattle.rv_word.specs.declared.instr.Kind.TheVariants as kinds
use Rattle.rv_word.specs.Numbers.{kind_number}
use Rattle.rv_model.specs.Align.{width}
use Rattle.pil_ast.specs.Term.{Tuples}
use Rattle.pil_ast.specs.Value.{Cells}
use Rattle.pil_exact.proofs.Row.{Fact, is, most, here}
use Rattle.pil_exact.proofs.Flags.{Each, each}
use Rattle.pil_exact.proofs.Follows.{Rest}
use Rattle.machine_text.specs.Align.{items}
use Rattle.step_rows.specs.Words.{flags}

-- columns that have the values of a list
abbrev pub exactly_from : ℕ → List ℕ → List (ℕ × Fact)
exactly_from k [] = []
exactly_from k (v ∷ vs) = (k, is v) ∷ exactly_from (suc k) vs

abbrev pub bounded : List (ℕ × Fact)
bounded =
    (20, most 255) ∷ (21, most 255) ∷ (22, most 255) ∷ (23, most 255) ∷ (24, most 255) ∷ (25, most 255) ∷ (26, most 255) ∷ (27, most 255)
    ∷ (28, most 255) ∷ (29, most 255) ∷ (30, most 255) ∷ (31, most 255) ∷ (32, most 255) ∷ (33, most 255) ∷ (34, most 255) ∷ (35, most 255)
    ∷ (36, most 1) ∷ (37, most 127) ∷ []

-- what is known of the row of the kind with the number n at this offset
abbrev pub known : ℕ → ℕ → List (ℕ × Fact)
known n off = exactly_from 0 (1 ∷ flags n 1 11 ++ flags off 0 8) ++ bounded

-- the byte of the old doubleword that has the sign, where it counts
abbrev pub sign_byte : Kind → (ℕ → ℕ) → ℕ → ℕ
sign_byte kinds.Lb f off = f (20 + off)
sign_byte kinds.Lh f off = f (20 + (off + 1))
sign_byte kinds.Lw f off = f (20 + (off + 3))
sign_byte _ f off = 0

abbrev pub Step : Kind → ℕ → Type 0
Step k off =
    (x : Cells) (sent : Tuples → List (List ℕ)) → sign_byte k (x.column 0 9) off ≡ 128 * x.column 0 9 36 + x.column 0 9 37 → Rest items x 9 (here (known (kind_number k) off)) sent items

-- the offsets of a kind are the multiples of its width
steps : (k : Kind) → Each (λ j. Step k (width k * j)) (8 / width k)
unfolding kind_number
steps kinds.Lb = (λ x f h. ((h, refl), tt), (λ x f h. ((h, refl), tt), (λ x f h. ((h, refl), tt), (λ x f h. ((h, refl), tt), (λ x f h. ((h, refl), tt), (λ x f h. ((h, refl), tt), (λ x f h. ((h, refl), tt), (λ x f h. ((h, refl), tt), tt))))))))
steps kinds.Lh = (λ x f h. ((h, refl), tt), (λ x f h. ((h, refl), tt), (λ x f h. ((h, refl), tt), (λ x f h. ((h, refl), tt), tt))))
steps kinds.Lw = (λ x f h. ((h, refl), tt), (λ x f h. ((h, refl), tt), tt))
steps kinds.Ld = (λ x f h. ((h, refl), tt), tt)
steps kinds.Lbu = (λ x f h. ((h, refl), tt), (λ x f h. ((h, refl), tt), (λ x f h. ((h, refl), tt), (λ x f h. ((h, refl), tt), (λ x f h. ((h, refl), tt), (λ x f h. ((h, refl), tt), (λ x f h. ((h, refl), tt), (λ x f h. ((h, refl), tt), tt))))))))
steps kinds.Lhu = (λ x f h. ((h, refl), tt), (λ x f h. ((h, refl), tt), (λ x f h. ((h, refl), tt), (λ x f h. ((h, refl), tt), tt))))
steps kinds.Lwu = (λ x f h. ((h, refl), tt), (λ x f h. ((h, refl), tt), tt))
steps kinds.Sb = (λ x f h. ((h, refl), tt), (λ x f h. ((h, refl), tt), (λ x f h. ((h, refl), tt), (λ x f h. ((h, refl), tt), (λ x f h. ((h, refl), tt), (λ x f h. ((h, refl), tt), (λ x f h. ((h, refl), tt), (λ x f h. ((h, refl), tt), tt))))))))
steps kinds.Sh = (λ x f h. ((h, refl), tt), (λ x f h. ((h, refl), tt), (λ x f h. ((h, refl), tt), (λ x f h. ((h, refl), tt), tt))))
steps kinds.Sw = (λ x f h. ((h, refl), tt), (λ x f h. ((h, refl), tt), tt))
steps kinds.Sd = (λ x f h. ((h, refl), tt), tt)

pub places : (k : Kind) (off : ℕ) → off < 8 → off / width k < 8 / width k
places kinds.Lb off l = omega arith
places kinds.Lh off l = omega arith
places kinds.Lw off l = omega arith
places kinds.Ld off l = omega arith
places kinds.Lbu off l = omega arith
places kinds.Lhu off l = omega arith
places kinds.Lwu off l = omega arith
places kinds.Sb off l = omega arith
places kinds.Sh off l = omega arith
places kinds.Sw off l = omega arith
places kinds.Sd off l = omega arith

pub multiple : (off w : ℕ) → off % w ≡ 0 → w * (off / w) ≡ off
multiple off w e = mul_comm w (off / w) ∙ without (off / w * w) (off % w) off (div-add-mod' off w) e
  where
    without : (p q m : ℕ) → p + q ≡ m → q ≡ 0 → p ≡ m
    without p q m e h = omega arith

pub step : (k : Kind) (off : ℕ) → off < 8 → off % width k ≡ 0 → Step k off
step k off l e = subst (Step k) (multiple off (width k) e) (each (λ j. Step k (width k * j)) (8 / width k) (steps k) (off / width k) (places k off l))
