-- The laws of Align.
use Rattle.std.proofs.Common.{ℕ, zero, suc, ◌+◌, ◌-◌, ◌<◌, ◌≤◌, ◌≡◌, inl, inr, true, List, [], ◌∷◌, map, refl, sym, subst, arith}
use Rattle.std.proofs.lemmas.Bool.{cases_eq}
use Rattle.pil_ast.specs.Value.{Cells, value, around}
use Rattle.pil_exact.proofs.Row.{row_at, Fact, is, AllMeet, here, exact_lines, all_settled}
use Rattle.pil_exact.proofs.Flags.{flags, each}
use Rattle.machine_text.specs.Align.{items, access}
use Rattle.air_align.specs.Laws.{AlignSound, AlignExact}
use Rattle.air_align.proofs.Limbs.{low_of, high_of, fits}
use Rattle.step_rows.specs.Tuples.{IsAccess}
use Rattle.air_align.proofs.Known.{Selected, selected, all_sides, told, base, bound, rs_small, one_kind, one_offset}
use Rattle.air_align.proofs.Rows.{IsTuple, Accesses, old_bytes, value_bytes, access_of}
use Rattle.air_align.proofs.Said.{said, is_multiple}
use Rattle.air_align.proofs.Results.{result}
use Rattle.rv_word.specs.declared.instr.Kind.{Kind}
use Rattle.rv_word.specs.declared.instr.Kind.TheVariants as kinds
use Rattle.rv_word.specs.Numbers.{kind_number}

-- the kind with a number
kind_of : (n : ℕ) → 1 ≤ n → n < 12 → (k : Kind) × (kind_number k ≡ n)
unfolding kind_number
kind_of zero l m = absurd (omega arith)
kind_of (suc n) l m = each (λ j. (k : Kind) × (kind_number k ≡ suc j)) 11 ((kinds.Lb, refl), ((kinds.Lh, refl), ((kinds.Lw, refl), ((kinds.Ld, refl), ((kinds.Lbu, refl), ((kinds.Lhu, refl), ((kinds.Lwu, refl), ((kinds.Sb, refl), ((kinds.Sh, refl), ((kinds.Sw, refl), ((kinds.Sd, refl), tt))))))))))) n (omega arith)

less : (n : ℕ) → 12 ≤ n → n < 20 → n - 12 < 8
less n h l = omega arith

back : (n : ℕ) → 12 ≤ n → 12 + (n - 12) ≡ n
back n h = omega arith

pub tuple_holds : (x : Cells) (s : Selected x) → IsTuple x s
tuple_holds x s =
    let f = x.column 0 9 in
    let n = one_kind x s in
    let o = one_offset x s in
    let k = kind_of n.0 n.1 n.2 in
    let j = o.0 - 12 in
    let l = less o.0 o.1 o.2 in
    let kind = subst (λ n. AllMeet (flags n 1 11) f) (sym k.1) n.3 in
    let offset = subst (λ n. AllMeet (flags n 12 8) f) (sym (back o.0 o.1)) o.3 in
    let m = is_multiple x s j l offset k.0 kind in
    let w = said k.0 j l m x (record { selected = s; kind = kind; offset = offset }) in
    access_of x s k.0 j w.number w.offset l m (result f (old_bytes x s) (value_bytes x s) k.0 j _ _ l m w.low w.high w.sign (bound x s 36) (rs_small x s))

-- the tuple with these entries
access_of_limbs : (number off olo ohi vlo vhi mlo mhi : ℕ) → Accesses number off olo ohi vlo vhi mlo mhi → IsAccess (number ∷ off ∷ olo ∷ ohi ∷ vlo ∷ vhi ∷ mlo ∷ mhi ∷ [])
access_of_limbs number off olo ohi vlo vhi mlo mhi w =
    record {
      kind = w.k;
      off = off;
      old = w.old;
      value = w.value;
      off_below = w.inside;
      even = w.multiple;
      old_fits = fits _ _ _ w.old_is;
      value_fits = fits _ _ _ w.value_is;
      result_fits = fits _ _ _ w.result;
      is = λ j. w.number_is j ∷ off ∷ low_of _ _ _ w.old_is j ∷ high_of _ _ _ w.old_is j ∷ low_of _ _ _ w.value_is j ∷ high_of _ _ _ w.value_is j ∷ low_of _ _ _ w.result j ∷ high_of _ _ _ w.result j ∷ [];
    }

pub align_sound : AlignSound
align_sound ns c i r has meets on =
    subst (λ n. IsAccess (map (value n.items (around ns c 9 i r)) access.terms)) (sym has.stands) (access_of_limbs _ _ _ _ _ _ _ _ (tuple_holds (around ns c 9 i r) (selected ns c i r has meets on)))

-- No wrap.
abbrev other_facts : List (ℕ × Fact)
other_facts = (0, is 0) ∷ []

settled_chosen : (x : Cells) → all_settled items x 9 (here ((0, is 1) ∷ told)) items ≡ true
settled_chosen x = refl

settled_other : (x : Cells) → all_settled items x 9 (here other_facts) items ≡ true
settled_other x = refl

pub align_exact : AlignExact
align_exact ns c i r has meets = elim (cases_eq (c.at 9 i 0 r) 0) [
  | inl z ↦ exact_lines (row_at items ns c 9 i r other_facts has.in_field (z, tt)) items (settled_other (around ns c 9 i r)) (all_sides ns c i r has meets)
  | inr z ↦ (let s = selected ns c i r has meets z in exact_lines (base (around ns c 9 i r) s) items (settled_chosen (around ns c 9 i r)) s.meets)
]
