-- The row of an access has the tuple of the access.
use Rattle.std.proofs.Common.{ℕ, zero, suc, ◌+◌, ◌*◌, ◌/◌, ◌%◌, ◌<◌, ◌≡◌, ◌≢◌, ◌==◌, List, [], ◌∷◌, ◌++◌, map, refl, sym, ap, ◌∙◌, subst, arith}
use Rattle.rv_word.specs.declared.instr.Kind.{Kind}
use Rattle.rv_word.specs.declared.instr.Kind.TheVariants as kinds
use Rattle.rv_word.specs.Numbers.{kind_number}
use Rattle.rv_model.specs.Align.{aligned}
use Rattle.pil_ast.specs.Term.{Namespace}
use Rattle.pil_ast.specs.Columns.{Columns}
use Rattle.pil_ast.specs.Value.{around, value}
use Rattle.pil_exact.proofs.Row.{amount}
use Rattle.pil_exact.proofs.Flags.{each}
use Rattle.air_align.proofs.Limbs.{low_of, high_of}
use Rattle.machine_text.specs.Align.{items, kind, olo, ohi, vlo, vhi, access}
use Rattle.machine_text.specs.Align as A
use Rattle.step_rows.specs.Words.{one_if}
use Rattle.step_rows.specs.Tuples.{access_tuple}
use Rattle.air_align.specs.Laws.{AlignComplete, IsRowOf}
use Rattle.air_align.proofs.Known.{Selected, selected, told, base}
use Rattle.air_align.proofs.Aligns.{tuple_holds}
use Rattle.air_align.proofs.Complete.{at, row_meets}

-- the kind with a number
abbrev kind_at : ℕ → Kind
kind_at zero = kinds.Lb
kind_at (suc zero) = kinds.Lb
kind_at (suc (suc zero)) = kinds.Lh
kind_at (suc (suc (suc zero))) = kinds.Lw
kind_at (suc (suc (suc (suc zero)))) = kinds.Ld
kind_at (suc (suc (suc (suc (suc zero))))) = kinds.Lbu
kind_at (suc (suc (suc (suc (suc (suc zero)))))) = kinds.Lhu
kind_at (suc (suc (suc (suc (suc (suc (suc zero))))))) = kinds.Lwu
kind_at (suc (suc (suc (suc (suc (suc (suc (suc zero)))))))) = kinds.Sb
kind_at (suc (suc (suc (suc (suc (suc (suc (suc (suc zero))))))))) = kinds.Sh
kind_at (suc (suc (suc (suc (suc (suc (suc (suc (suc (suc zero)))))))))) = kinds.Sw
kind_at _ = kinds.Sd

back : (k : Kind) → kind_at (kind_number k) ≡ k
unfolding kind_number
back kinds.Lb = refl
back kinds.Lh = refl
back kinds.Lw = refl
back kinds.Ld = refl
back kinds.Lbu = refl
back kinds.Lhu = refl
back kinds.Lwu = refl
back kinds.Sb = refl
back kinds.Sh = refl
back kinds.Sw = refl
back kinds.Sd = refl

one_number : (k l : Kind) → kind_number k ≡ kind_number l → k ≡ l
one_number k l e = sym (back k) ∙ (ap kind_at e ∙ back l)

whole_of : (lo hi v a : ℕ) → v ≡ lo + 4294967296 * hi → lo ≡ a % 4294967296 → hi ≡ a / 4294967296 → v ≡ a
whole_of lo hi v a e f g = omega arith

low_bytes : (x x0 x1 x2 x3 v : ℕ) → x ≡ x0 + 256 * x1 + 65536 * x2 + 16777216 * x3 → x0 ≡ v % 256 → x1 ≡ v / 256 % 256 → x2 ≡ v / 65536 % 256 → x3 ≡ v / 16777216 % 256 → x ≡ v % 4294967296
low_bytes x x0 x1 x2 x3 v e e0 e1 e2 e3 = omega arith

high_bytes : (x x0 x1 x2 x3 v : ℕ) → v < 18446744073709551616 → x ≡ x0 + 256 * x1 + 65536 * x2 + 16777216 * x3 → x0 ≡ v / 4294967296 % 256 → x1 ≡ v / 1099511627776 % 256 → x2 ≡ v / 281474976710656 % 256 → x3 ≡ v / 72057594037927936 % 256 → x ≡ v / 4294967296
high_bytes x x0 x1 x2 x3 v h e e0 e1 e2 e3 = omega arith

not_none : (x : ℕ) → x ≡ 1 → x ≢ 0
not_none x e z = omega arith

-- the flags by their numbers make the number
kind_sum : (k : Kind) → one_if (kind_number k == 1) + 2 * one_if (kind_number k == 2) + 3 * one_if (kind_number k == 3) + 4 * one_if (kind_number k == 4) + 5 * one_if (kind_number k == 5) + 6 * one_if (kind_number k == 6) + 7 * one_if (kind_number k == 7) + 8 * one_if (kind_number k == 8) + 9 * one_if (kind_number k == 9) + 10 * one_if (kind_number k == 10) + 11 * one_if (kind_number k == 11) ≡ kind_number k
unfolding kind_number
kind_sum kinds.Lb = refl
kind_sum kinds.Lh = refl
kind_sum kinds.Lw = refl
kind_sum kinds.Ld = refl
kind_sum kinds.Lbu = refl
kind_sum kinds.Lhu = refl
kind_sum kinds.Lwu = refl
kind_sum kinds.Sb = refl
kind_sum kinds.Sh = refl
kind_sum kinds.Sw = refl
kind_sum kinds.Sd = refl

off_sum : (off : ℕ) → off < 8 → one_if (off == 1) + 2 * one_if (off == 2) + 3 * one_if (off == 3) + 4 * one_if (off == 4) + 5 * one_if (off == 5) + 6 * one_if (off == 6) + 7 * one_if (off == 7) ≡ off
off_sum off l = each (λ off. one_if (off == 1) + 2 * one_if (off == 2) + 3 * one_if (off == 3) + 4 * one_if (off == 4) + 5 * one_if (off == 5) + 6 * one_if (off == 6) + 7 * one_if (off == 7) ≡ off) 8 (refl, (refl, (refl, (refl, (refl, (refl, (refl, (refl, tt)))))))) off l

module _ (ns : List Namespace) (c : Columns) (i r : ℕ) (k : Kind) (off old new : ℕ) (h : IsRowOf c i r k off old new) (s : Selected (around ns c 9 i r)) where
  kind_is : value items (around ns c 9 i r) kind ≡ kind_number k
  kind_is = amount (base (around ns c 9 i r) s) kind refl ∙ (λ j. at c i r k off old new h 1 refl j + 2 * at c i r k off old new h 2 refl j + 3 * at c i r k off old new h 3 refl j + 4 * at c i r k off old new h 4 refl j + 5 * at c i r k off old new h 5 refl j + 6 * at c i r k off old new h 6 refl j + 7 * at c i r k off old new h 7 refl j + 8 * at c i r k off old new h 8 refl j + 9 * at c i r k off old new h 9 refl j + 10 * at c i r k off old new h 10 refl j + 11 * at c i r k off old new h 11 refl j) ∙ kind_sum k

  off_is : off < 8 → value items (around ns c 9 i r) A.off ≡ off
  off_is l = amount (base (around ns c 9 i r) s) A.off refl ∙ (λ j. at c i r k off old new h 13 refl j + 2 * at c i r k off old new h 14 refl j + 3 * at c i r k off old new h 15 refl j + 4 * at c i r k off old new h 16 refl j + 5 * at c i r k off old new h 17 refl j + 6 * at c i r k off old new h 18 refl j + 7 * at c i r k off old new h 19 refl j) ∙ off_sum off l

pub align_complete : AlignComplete
align_complete ns c i r k j old new has l e lo ln h =
    let m = row_meets ns c i r k j old new has l e h in
    let x = around ns c 9 i r in
    let s = selected ns c i r has m (not_none _ (at c i r k j old new h 0 refl)) in
    let w = tuple_holds (around ns c 9 i r) s in
    let row = base (around ns c 9 i r) s in
    let g = at c i r k j old new h in
    let nk = kind_is ns c i r k j old new h s in
    let nj = off_is ns c i r k j old new h s l in
    let e0 = low_bytes _ _ _ _ _ old (amount row olo refl) (g 20 refl) (g 21 refl) (g 22 refl) (g 23 refl) in
    let e1 = high_bytes _ _ _ _ _ old lo (amount row ohi refl) (g 24 refl) (g 25 refl) (g 26 refl) (g 27 refl) in
    let e2 = low_bytes _ _ _ _ _ new (amount row vlo refl) (g 28 refl) (g 29 refl) (g 30 refl) (g 31 refl) in
    let e3 = high_bytes _ _ _ _ _ new ln (amount row vhi refl) (g 32 refl) (g 33 refl) (g 34 refl) (g 35 refl) in
    let qk : w.k ≡ k = one_number w.k k (sym w.number_is ∙ nk) in
    let qo : w.old ≡ old = whole_of _ _ w.old old w.old_is.value e0 e1 in
    let qv : w.value ≡ new = whole_of _ _ w.value new w.value_is.value e2 e3 in
    let v = (λ (t : aligned w.k (value items (around ns c 9 i r) A.off) w.old w.value ≡ aligned k j old new). t) (λ q. aligned (qk q) (nj q) (qo q) (qv q)) in
    let rl = low_of _ _ _ w.result ∙ ap (λ z. z % 4294967296) v in
    let rh = high_of _ _ _ w.result ∙ ap (λ z. z / 4294967296) v in
    (m, subst (λ z. map (value z.items (around ns c 9 i r)) access.terms ≡ access_tuple k j old new) (sym has.stands) (λ q. nk q ∷ nj q ∷ e0 q ∷ e1 q ∷ e2 q ∷ e3 q ∷ rl q ∷ rh q ∷ []))
