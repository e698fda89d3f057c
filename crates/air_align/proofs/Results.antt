-- The limbs of a result are those of what the kind makes of the doubleword.
use Rattle.std.proofs.Common.{ℕ, zero, suc, ◌+◌, ◌-◌, ◌*◌, ◌/◌, ◌%◌, ◌<◌, ◌≤◌, ◌≡◌, ◌&&◌, Bool, true, false, cond, List, [], ◌∷◌, ◌++◌, take, drop, get_or, refl, sym, ap, ◌∙◌, subst, lit<, lit≤, arith}
use Rattle.std.specs.Prelude.{nat_le, nat_lt}
use Rattle.std.specs.Int.{cast_signed, cast_unsigned, from_le_bytes, w8, w16, w32, w64}
use Rattle.rv_word.specs.declared.instr.Kind.{Kind}
use Rattle.rv_word.specs.declared.instr.Kind.TheVariants as kinds
use Rattle.rv_model.specs.Align.{width, aligned, part, put}
use Rattle.pil_exact.proofs.Flags.{Each, each}
use Rattle.air_align.proofs.Limbs.{Limbs}
use Rattle.air_align.proofs.Bytes.{four, whole, Bytes, AreBytes, part_1, part_2, part_4, bytes_are, put_is, extended_8, extended_16, extended_32, limbs_of, limbs_low}
use Rattle.air_align.proofs.Steps.{sign_byte, multiple}
use Rattle.air_align.proofs.Said.{stored, one_byte, two_bytes, four_bytes, low_result, high_result}

half_place : (off : ℕ) → off < 8 → off / 2 < 4
half_place off l = omega arith

word_place : (off : ℕ) → off < 8 → off / 4 < 2
word_place off l = omega arith

after : (off k m : ℕ) → off < m → k + m ≤ 8 → off + k < 8
after off k m l h = omega arith

even_below : (off : ℕ) → off < 8 → off % 2 ≡ 0 → off < 7
even_below off l e = omega arith

four_below : (off : ℕ) → off < 8 → off % 4 ≡ 0 → off < 5
four_below off l e = omega arith

low_one : (a : ℕ) → a ≤ 255 → a < 4294967296
low_one a l = omega arith

low_two : (a b : ℕ) → a ≤ 255 → b ≤ 255 → a + 256 * b < 4294967296
low_two a b l m = omega arith

low_four : (a b c d : ℕ) → a ≤ 255 → b ≤ 255 → c ≤ 255 → d ≤ 255 → four a b c d < 4294967296
low_four a b c d l m n o = omega arith

either_le : (t : Bool) (p q : ℕ) → p ≤ 255 → q ≤ 255 → cond t p q ≤ 255
either_le true p q h k = h
either_le false p q h k = k

not_first : (off : ℕ) → suc off < 8 → suc off % 8 ≡ 0 → ⊥
not_first off l e = omega arith

before : (m off : ℕ) → m < 8 → m - off < 8
before m off l = omega arith

module _ (f : ℕ → ℕ) (old : AreBytes f 20) (value : AreBytes f 28) where
  byte_le : (j : ℕ) → j < 8 → f (20 + j) ≤ 255
  byte_le j l = each (λ j. f (20 + j) ≤ 255) 8 (old.b0, (old.b1, (old.b2, (old.b3, (old.b4, (old.b5, (old.b6, (old.b7, tt)))))))) j l

  value_le : (j : ℕ) → j < 8 → f (28 + j) ≤ 255
  value_le j l = each (λ j. f (28 + j) ≤ 255) 8 (value.b0, (value.b1, (value.b2, (value.b3, (value.b4, (value.b5, (value.b6, (value.b7, tt)))))))) j l

  -- what is read
  is_byte : (off : ℕ) → off < 8 → part 1 off (whole f 20) ≡ one_byte f off
  is_byte off l =
      part_1 (f 20) (f 21) (f 22) (f 23) (f 24) (f 25) (f 26) (f 27) old off l
      ∙ each (λ j. get_or (f 20 ∷ f 21 ∷ f 22 ∷ f 23 ∷ f 24 ∷ f 25 ∷ f 26 ∷ f 27 ∷ []) j 0 ≡ one_byte f j) 8 (refl, (refl, (refl, (refl, (refl, (refl, (refl, (refl, tt)))))))) off l

  is_half : (off : ℕ) → off < 8 → off % 2 ≡ 0 → part 2 off (whole f 20) ≡ two_bytes f off
  is_half off l e =
      subst (λ z. part 2 z (whole f 20) ≡ two_bytes f z) (multiple off 2 e)
      (part_2 (f 20) (f 21) (f 22) (f 23) (f 24) (f 25) (f 26) (f 27) old (off / 2) (half_place off l)
      ∙ each (λ j. get_or ((f 20 + 256 * f 21) ∷ (f 22 + 256 * f 23) ∷ (f 24 + 256 * f 25) ∷ (f 26 + 256 * f 27) ∷ []) j 0 ≡ two_bytes f (2 * j)) 4 (refl, (refl, (refl, (refl, tt)))) (off / 2) (half_place off l))

  is_word : (off : ℕ) → off < 8 → off % 4 ≡ 0 → part 4 off (whole f 20) ≡ four_bytes f off
  is_word off l e =
      subst (λ z. part 4 z (whole f 20) ≡ four_bytes f z) (multiple off 4 e)
      (part_4 (f 20) (f 21) (f 22) (f 23) (f 24) (f 25) (f 26) (f 27) old (off / 4) (word_place off l)
      ∙ each (λ j. get_or ((four (f 20) (f 21) (f 22) (f 23)) ∷ (four (f 24) (f 25) (f 26) (f 27)) ∷ []) j 0 ≡ four_bytes f (4 * j)) 2 (refl, (refl, tt)) (off / 4) (word_place off l))

  -- what is stored
  abbrev Puts : ℕ → ℕ → Type 0
  Puts n off = put n off (whole f 20) (whole f 28) ≡ four (stored n off f 0) (stored n off f 1) (stored n off f 2) (stored n off f 3) + 4294967296 * four (stored n off f 4) (stored n off f 5) (stored n off f 6) (stored n off f 7)

  puts : (n off : ℕ) → put n off (whole f 20) (whole f 28) ≡ from_le_bytes w64 (take off (f 20 ∷ f 21 ∷ f 22 ∷ f 23 ∷ f 24 ∷ f 25 ∷ f 26 ∷ f 27 ∷ []) ++ take n (f 28 ∷ f 29 ∷ f 30 ∷ f 31 ∷ f 32 ∷ f 33 ∷ f 34 ∷ f 35 ∷ []) ++ drop (off + n) (f 20 ∷ f 21 ∷ f 22 ∷ f 23 ∷ f 24 ∷ f 25 ∷ f 26 ∷ f 27 ∷ []))
  puts n off = put_is n off (whole f 20) (whole f 28) _ _ (bytes_are (f 20) (f 21) (f 22) (f 23) (f 24) (f 25) (f 26) (f 27) old) (bytes_are (f 28) (f 29) (f 30) (f 31) (f 32) (f 33) (f 34) (f 35) value)

  put_byte : (off : ℕ) → off < 8 → Puts 1 off
  put_byte off l = each (λ j. Puts 1 j) 8 (puts 1 0 ∙ omega arith, (puts 1 1 ∙ omega arith, (puts 1 2 ∙ omega arith, (puts 1 3 ∙ omega arith, (puts 1 4 ∙ omega arith, (puts 1 5 ∙ omega arith, (puts 1 6 ∙ omega arith, (puts 1 7 ∙ omega arith, tt)))))))) off l

  put_half : (off : ℕ) → off < 8 → off % 2 ≡ 0 → Puts 2 off
  put_half off l e = subst (Puts 2) (multiple off 2 e) (each (λ j. Puts 2 (2 * j)) 4 (puts 2 0 ∙ omega arith, (puts 2 2 ∙ omega arith, (puts 2 4 ∙ omega arith, (puts 2 6 ∙ omega arith, tt)))) (off / 2) (half_place off l))

  put_word : (off : ℕ) → off < 8 → off % 4 ≡ 0 → Puts 4 off
  put_word off l e = subst (Puts 4) (multiple off 4 e) (each (λ j. Puts 4 (4 * j)) 2 (puts 4 0 ∙ omega arith, (puts 4 4 ∙ omega arith, tt)) (off / 4) (word_place off l))

  stored_le : (n off m : ℕ) → m < 8 → stored n off f m ≤ 255
  stored_le n off m l = either_le (nat_le off m && nat_lt m (off + n)) _ _ (value_le (m - off) (before m off l)) (byte_le m l)

  stored_limbs : (n off lo hi v : ℕ) → lo ≡ four (stored n off f 0) (stored n off f 1) (stored n off f 2) (stored n off f 3) → hi ≡ four (stored n off f 4) (stored n off f 5) (stored n off f 6) (stored n off f 7) → v ≡ put n off (whole f 20) (whole f 28) → Puts n off → Limbs lo hi v
  stored_limbs n off lo hi v el eh e h =
      limbs_of lo hi v _ _ _ _ _ _ _ _ el eh (e ∙ h) (record { b0 = stored_le n off 0 (lit< tt); b1 = stored_le n off 1 (lit< tt); b2 = stored_le n off 2 (lit< tt); b3 = stored_le n off 3 (lit< tt); b4 = stored_le n off 4 (lit< tt); b5 = stored_le n off 5 (lit< tt); b6 = stored_le n off 6 (lit< tt); b7 = stored_le n off 7 (lit< tt) })

  pub result : (k : Kind) (off lo hi : ℕ) → off < 8 → off % width k ≡ 0 → lo ≡ low_result k off f → hi ≡ high_result k off f → sign_byte k f off ≡ 128 * f 36 + f 37 → f 36 ≤ 1 → f 37 ≤ 127 → Limbs lo hi (aligned k off (whole f 20) (whole f 28))
  unfolding aligned
  result kinds.Lb off lo hi l e el eh s st rt = subst (λ z. Limbs lo hi (cast_unsigned w64 (cast_signed w8 z))) (sym (is_byte off l)) (extended_8 _ (f 36) (f 37) lo hi s rt st el eh)
  result kinds.Lh off lo hi l e el eh s st rt = subst (λ z. Limbs lo hi (cast_unsigned w64 (cast_signed w16 z))) (sym (is_half off l e)) (extended_16 _ _ _ (f 36) (f 37) lo hi refl s (byte_le off l) rt st el eh)
  result kinds.Lw off lo hi l e el eh s st rt =
      let h = four_below off l e in
      subst (λ z. Limbs lo hi (cast_unsigned w64 (cast_signed w32 z))) (sym (is_word off l e)) (extended_32 _ _ _ _ _ (f 36) (f 37) lo hi refl s (byte_le off l) (byte_le (off + 1) (after off 1 5 h (lit≤ tt))) (byte_le (off + 2) (after off 2 5 h (lit≤ tt))) rt st el eh)
  result kinds.Ld off lo hi l e el eh s st rt = limbs_of lo hi _ _ _ _ _ _ _ _ _ el eh refl old
  result kinds.Lbu off lo hi l e el eh s st rt = limbs_low lo hi _ (one_byte f off) el eh (is_byte off l) (low_one _ (byte_le off l))
  result kinds.Lhu off lo hi l e el eh s st rt = limbs_low lo hi _ (two_bytes f off) el eh (is_half off l e) (low_two _ _ (byte_le off l) (byte_le (off + 1) (after off 1 7 (even_below off l e) (lit≤ tt))))
  result kinds.Lwu off lo hi l e el eh s st rt =
      let h = four_below off l e in
      limbs_low lo hi _ (four_bytes f off) el eh (is_word off l e) (low_four _ _ _ _ (byte_le off l) (byte_le (off + 1) (after off 1 5 h (lit≤ tt))) (byte_le (off + 2) (after off 2 5 h (lit≤ tt))) (byte_le (off + 3) (after off 3 5 h (lit≤ tt))))
  result kinds.Sb off lo hi l e el eh s st rt = stored_limbs 1 off lo hi _ el eh refl (put_byte off l)
  result kinds.Sh off lo hi l e el eh s st rt = stored_limbs 2 off lo hi _ el eh refl (put_half off l e)
  result kinds.Sw off lo hi l e el eh s st rt = stored_limbs 4 off lo hi _ el eh refl (put_word off l e)
  result kinds.Sd zero lo hi l e el eh s st rt = limbs_of lo hi _ _ _ _ _ _ _ _ _ el eh refl value
  result kinds.Sd (suc off) lo hi l e el eh s st rt = absurd (not_first off l e)
