-- Tables that have the accesses of a run meet each of Mem's lines.
use Rattle.std.proofs.Common.{ℕ, zero, suc, ◌+◌, ◌*◌, ◌<◌, ◌≡◌, ◌⊎◌, inl, inr, Bool, true, false, cond, eqb, List, [], ◌∷◌, length, Option, Some, None, refl, sym, ap, subst, ◌∙◌, arith}
use Rattle.std.specs.Prelude.{slice_get, slice_index}
use Rattle.std.proofs.lemmas.Bool.{cases_lt}
use Rattle.std.proofs.lemmas.Bool.Decides.{nat_tests}
use Rattle.std.proofs.lemmas.Option.{slice_get_past, slice_get-get_or, slice_get_within}
use Rattle.pil_ast.specs.Term.{Namespace}
use Rattle.pil_ast.specs.Columns.{Columns}
use Rattle.pil_ast.specs.Value.{row_after}
use Rattle.pil_ast.specs.Holds.{tuple}
use Rattle.pil_laws.proofs.Join.{joins}
use Rattle.pil_laws.proofs.Lines.{all_hold}
use Rattle.machine_text.specs.Mem
use Rattle.air_mem.specs.Access.{Access, IsSequence}
use Rattle.air_mem.specs.Rows.{of, mem_row, before, IsMemOf}
use Rattle.air_mem.specs.Laws.{HasMem, MemFilled}
use Rattle.air_mem.proofs.MemRow.{column, Before, Meets}
use Rattle.air_mem.proofs.Along.{not_first, is_first', zero_times, row_after_is}
use Rattle.air_mem.proofs.Sequence.{At, reach_at, comes_before, read_same, read_other, read_first}
use Rattle.air_mem.proofs.FilledRow.{IsRow, padding_row, first_row, later_row}

zero_or_one : (t : Bool) (v : ℕ) → v ≡ cond t 1 0 → (v ≡ 0) ⊎ (v ≡ 1)
zero_or_one true v e = inr e
zero_or_one false v e = inl e

goes_on : (v r n : ℕ) → v ≡ cond (eqb (r + 1) n) 1 0 → v ≡ 0 → r < n → r + 1 < n
goes_on v r n e z h = grind (arith, nat_tests)

not_the_last : (v r n : ℕ) → v ≡ cond (eqb (r + 1) n) 1 0 → r + 1 < n → v ≡ 0
not_the_last v r n e h = grind (arith, nat_tests)

none_before : (i n r : ℕ) → n ≡ 8192 → i * n + r ≡ 0 → (i ≡ 0) × (r ≡ 0)
none_before i n r e h = at (subst (λ n. i * n + r ≡ 0) e h)
  where
    at : i * 8192 + r ≡ 0 → (i ≡ 0) × (r ≡ 0)
    at h = (omega arith, omega arith)

next_row : (a r : ℕ) → a + (r + 1) ≡ suc (a + r)
next_row a r = omega arith

next_instance : (i n r : ℕ) → r + 1 ≡ n → (i + 1) * n + 0 ≡ suc (i * n + r)
next_instance i n r e = omega arith

five : (a b d e f a' b' d' e' f' : ℕ) → a' ≡ a → b' ≡ b → d' ≡ d → e' ≡ e → f' ≡ f → a ∷ b ∷ d ∷ e ∷ f ∷ [] ≡ a' ∷ b' ∷ d' ∷ e' ∷ f' ∷ []
five a b d e f a' b' d' e' f' h i j k l = cc

module _ (ns : List Namespace) (c : Columns) (xs : List Access) (has : HasMem ns c) (s : IsSequence xs) (filled : IsMemOf c xs) where
  abbrev n : ℕ
  n = c.rows 7

  -- the row after a row, wherever it stands
  carried : (i r j q : ℕ) → i < c.instances 7 → r < n → j < c.instances 7 → q < n → j * n + q ≡ suc (i * n + r) → Before c j q i r
  carried i r j q hi hr hj hq e =
      let b : before xs (j * n + q) ≡ slice_get xs (i * n + r) = ap (before xs) e in
      record {
        sel = filled.row j q 10 hj hq (omega arith) ∙ ap (of (λ x. 1)) b ∙ sym (filled.row i r 0 hi hr (omega arith));
        key = filled.row j q 11 hj hq (omega arith) ∙ ap (of (λ x. x.key)) b ∙ sym (filled.row i r 1 hi hr (omega arith));
        time = filled.row j q 12 hj hq (omega arith) ∙ ap (of (λ x. x.time)) b ∙ sym (filled.row i r 2 hi hr (omega arith));
        lo = filled.row j q 13 hj hq (omega arith) ∙ ap (of (λ x. x.lo)) b ∙ sym (filled.row i r 4 hi hr (omega arith));
        hi = filled.row j q 14 hj hq (omega arith) ∙ ap (of (λ x. x.hi)) b ∙ sym (filled.row i r 5 hi hr (omega arith));
      }

  module _ (i r : ℕ) (hi : i < c.instances 7) (hr : r < n) where
    last : (column c i r 1 ≡ 0) ⊎ (column c i r 1 ≡ 1)
    last = zero_or_one _ _ (has.constants.is_last i r hi hr)

    next : column c i r 1 ≡ 0 → Before c i (row_after n r) i r
    next z =
        let l = goes_on _ r n (has.constants.is_last i r hi hr) z hr in
        subst (λ q. Before c i q i r) (sym (row_after_is n r l)) (carried i r i (r + 1) hi hr hi l (next_row (i * n) r))

    is_row : (m : ℕ) (b a : Option Access) → i * n + r ≡ m → before xs m ≡ b → slice_get xs m ≡ a → IsRow c i r b a
    is_row m b a e eb ea k h =
        filled.row i r k hi hr h ∙ ap (λ m. slice_index (mem_row (before xs m) (slice_get xs m)) k) e ∙ ap (λ b. slice_index (mem_row b (slice_get xs m)) k) eb ∙ ap (λ a. slice_index (mem_row b a) k) ea

    -- the first access of all
    at_first : i * n + r ≡ 0 → (a : Access) → At xs 0 a → Meets ns c i r
    at_first e a ea =
        let z = none_before i n r has.constants.rows e in
        let size = has.constants.rows in
        let more : column c i r 1 ≡ 0 = not_the_last _ r n (has.constants.is_last i r hi hr) (let q = z.1 in omega arith) in
        first_row ns c i r has a (is_row 0 None (Some a) e refl ea) (is_first' _ i r (has.constants.is_first i r hi hr) z.0 z.1) more (next more) (read_first xs s a ea)

    -- an access after another
    at_later : (m : ℕ) → i * n + r ≡ suc m → (b a : Access) → At xs m b → At xs (suc m) a → Meets ns c i r
    at_later m e b a eb ea =
        later_row ns c i r has b a (is_row (suc m) (Some b) (Some a) e eb ea) (not_first _ i r m (i * n) (has.constants.is_first i r hi hr) e (zero_times i n)) (reach_at xs s (suc m) a ea) (comes_before xs s m b a eb ea) last next (read_same xs s m b a eb ea) (read_other xs s m b a eb ea)

    at_place : (m : ℕ) → i * n + r ≡ m → (a : Access) → At xs m a → Meets ns c i r
    at_place zero e a ea = at_first e a ea
    at_place (suc m) e a ea = at_later m e _ a (slice_get-get_or xs m a (let l = slice_get_within xs (suc m) a ea in omega arith)) ea

    row_meets : Meets ns c i r
    row_meets =
        elim (cases_lt (i * n + r) (length xs)) [
          | inl z ↦ at_place (i * n + r) refl _ (slice_get-get_or xs (i * n + r) (record { key = 0; time = 0; write = false; lo = 0; hi = 0 }) z)
          | inr z ↦ padding_row ns c i r has (before xs (i * n + r)) (is_row (i * n + r) (before xs (i * n + r)) None refl refl (slice_get_past xs (i * n + r) (omega arith))) last next
        ]

  instances_join : (i r : ℕ) → i + 1 < c.instances 7 → r + 1 ≡ n → tuple ns c 7 i r (Mem.sel ∷ Mem.key ∷ Mem.time ∷ Mem.lo ∷ Mem.hi ∷ []) ≡ tuple ns c 7 (i + 1) 0 (Mem.psel ∷ Mem.pkey ∷ Mem.ptime ∷ Mem.plo ∷ Mem.phi ∷ [])
  instances_join i r l e =
      let b = carried i r (i + 1) 0 (omega arith) (omega arith) l (omega arith) (next_instance i n r e) in
      five _ _ _ _ _ _ _ _ _ _ b.sel b.key b.time b.lo b.hi

pub mem_filled : MemFilled
mem_filled ns c xs has s filled =
    all_hold ns c 7 Mem.items refl (joins ns c 7 0 3 4 (Mem.sel ∷ Mem.key ∷ Mem.time ∷ Mem.lo ∷ Mem.hi ∷ []) (Mem.psel ∷ Mem.pkey ∷ Mem.ptime ∷ Mem.plo ∷ Mem.phi ∷ []) has.constants.joints (instances_join ns c xs has s filled), tt) (row_meets ns c xs has s filled)
