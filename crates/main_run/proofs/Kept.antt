-- What a row leaves is the state after it.
use Rattle.std.proofs.Common.{ℕ, suc, Bool, true, false, ◌≡◌, ◌≢◌, ◌<◌, ◌≤◌, ◌+◌, ◌*◌, ◌⊎◌, inl, inr, List, length, refl, sym, ap, subst, arith, ⊎_elim, ◌∙◌, length-set, get_or-set_same, get_or-set_other}
use Rattle.std.specs.Prelude.{slice_index, slice_set, if◌then◌else◌, ◌==◌}
use Rattle.std.specs.List.{Contains}
use Rattle.std.proofs.lemmas.Bool.{eq-eqb, ne_eqb, cases_eq}
use Rattle.pil_ast.specs.Term.{Namespace}
use Rattle.pil_ast.specs.Columns.{Columns}
use Rattle.machine_text.specs.Main
use Rattle.rv_model.specs.State.{State, with_word}
use Rattle.air_main.specs.Step.{Limbs, joined}
use Rattle.air_main.specs.Law.{at_row, left}
use Rattle.air_mem.specs.Access.{Access}
use Rattle.rv_model.specs.Image.{Img}
use Rattle.main_run.specs.Chain.{IsPlace}
use Rattle.main_run.specs.Bus.{IsBus, memory_write, register_write}
use Rattle.main_run.specs.Run.{Leaves, Keeps}
use Rattle.main_run.proofs.Leaves.{Recent, earlier, of_memory, of_register, recent, later, wrote}

made : (a b v : ℕ) → v ≡ joined a b → a < 4294967296 → b < 4294967296 → Limbs a b v
made a b v e h k = record { lo_below = h; hi_below = k; is = e }

if_true : {A : Type 0} (b : Bool) (x y : A) → b ≡ true → (if b then x else y) ≡ x
if_true true x y h = refl
if_true false x y h = absurd cc

if_false : {A : Type 0} (b : Bool) (x y : A) → b ≡ false → (if b then x else y) ≡ y
if_false false x y h = refl
if_false true x y h = absurd cc

-- registers and doublewords after a write
reg_on : (x : List ℕ) (wr rd v k : ℕ) → wr ≡ 1 → rd ≡ k → rd < length x → slice_index (if wr == 1 then slice_set x rd v else x) k ≡ v
reg_on x wr rd v k h e l = ap (λ z. slice_index z k) (if_true (wr == 1) (slice_set x rd v) x (eq-eqb _ _ h)) ∙ subst (λ z. slice_index (slice_set x rd v) z ≡ v) e (get_or-set_same x rd v 0 l)

reg_off : (x : List ℕ) (wr rd v k : ℕ) → (wr ≡ 1 → rd ≡ k → ⊥) → slice_index (if wr == 1 then slice_set x rd v else x) k ≡ slice_index x k
reg_off x wr rd v k h =
    ⊎_elim
    (λ e. ap (λ z. slice_index z k) (if_true (wr == 1) (slice_set x rd v) x (eq-eqb _ _ e)) ∙ get_or-set_other x rd k v 0 (λ q. h e (sym q)))
    (λ n. ap (λ z. slice_index z k) (if_false (wr == 1) (slice_set x rd v) x (ne_eqb _ _ n)))
    (cases_eq wr 1)

long : (x : List ℕ) (wr rd v : ℕ) → length (if wr == 1 then slice_set x rd v else x) ≡ length x
long x wr rd v =
    ⊎_elim
    (λ e. ap length (if_true (wr == 1) (slice_set x rd v) x (eq-eqb _ _ e)) ∙ length-set x rd v)
    (λ n. ap length (if_false (wr == 1) (slice_set x rd v) x (ne_eqb _ _ n)))
    (cases_eq wr 1)

word_on : (word : ℕ → ℕ) (st w m k : ℕ) → st ≡ 1 → w ≡ k → (if st == 1 then with_word word w m else word) k ≡ m
word_on word st w m k h e = ap (λ z. z k) (if_true (st == 1) (with_word word w m) word (eq-eqb _ _ h)) ∙ if_true (w == k) m (word k) (eq-eqb _ _ e)

word_off : (word : ℕ → ℕ) (st w m k : ℕ) → (st ≡ 1 → w ≡ k → ⊥) → (if st == 1 then with_word word w m else word) k ≡ word k
word_off word st w m k h =
    ⊎_elim
    (λ e. ap (λ z. z k) (if_true (st == 1) (with_word word w m) word (eq-eqb _ _ e)) ∙ if_false (w == k) m (word k) (ne_eqb _ _ (h e)))
    (λ n. ap (λ z. z k) (if_false (st == 1) (with_word word w m) word (ne_eqb _ _ n)))
    (cases_eq st 1)

times_of : (t j : ℕ) → t < 8 * j + 1 → t ≤ 8 * j + 4
times_of t j h = omega arith

more_of : (t j : ℕ) → t ≤ 8 * j + 4 → t ≤ 8 * j + 5
more_of t j h = omega arith

le_of : (t u : ℕ) → t ≡ u → t ≤ u
le_of t u e = omega arith

same_key : (a b d : ℕ) → a ≡ 536870912 + b → a ≡ 536870912 + d → b ≡ d
same_key a b d h k = omega arith

apart : (a w k : ℕ) → a ≡ w → a ≡ 536870912 + k → w < 536870912 → ⊥
apart a w k h e l = omega arith

module _ (ns : List Namespace) (c : Columns) (image : Img) (xs : List Access) (bus : IsBus ns c image xs) (j i r : ℕ) (place : IsPlace c j i r) (on : c.at 6 i 8 r ≢ 0)
    (w_below : c.at 6 i 23 r ≡ 1 → at_row ns c i r Main.w < 536870912) (m_low : c.at 6 i 23 r ≡ 1 → c.at 6 i 43 r < 4294967296) (m_high : c.at 6 i 23 r ≡ 1 → c.at 6 i 44 r < 4294967296)
    (v_low : at_row ns c i r Main.vlo < 4294967296) (v_high : at_row ns c i r Main.vhi < 4294967296) (rd_below : c.at 6 i 12 r < 32) where
  of : (w : Access) → Contains xs w → w.write ≡ true → w.time < 8 * suc j + 1 → Recent ns c j i r w
  of w m e l = recent ns c image j i r place w (bus.writes w m e) l

  abbrev next : ℕ
  next = 8 * suc j + 1

  step : 8 * j + 1 ≤ next
  step = omega arith

  -- a register that the row doesn't write
  reg_quiet : (k v : ℕ) → (c.at 6 i 21 r ≡ 1 → c.at 6 i 12 r ≡ k → ⊥) → Leaves xs (536870912 + k) (8 * j + 1) v → Leaves xs (536870912 + k) next v
  reg_quiet k v h l =
      later xs (536870912 + k) (8 * j + 1) next v step (λ w m e q t. by w q (of w m e t)) l
    where
      by : (w : Access) → w.key ≡ 536870912 + k → Recent ns c j i r w → w.time < 8 * j + 1
      by w q (earlier t) = t
      by w q (of_memory st e) = absurd (apart w.key _ k (ap (λ a. a.key) e) q (w_below st))
      by w q (of_register wr e) = absurd (h wr (same_key w.key _ _ (ap (λ a. a.key) e) q))

  reg_wrote : (k v : ℕ) → c.at 6 i 21 r ≡ 1 → c.at 6 i 12 r ≡ k → v ≡ joined (at_row ns c i r Main.vlo) (at_row ns c i r Main.vhi) → Leaves xs (536870912 + k) next v
  reg_wrote k v wr e q =
      wrote xs (536870912 + k) next v (register_write ns c j i r) (bus.register j i r place on wr) refl (ap (λ z. 536870912 + z) e) (omega arith) (λ w m o _ t. by w (of w m o t)) (made _ _ v q v_low v_high)
    where
      by : (w : Access) → Recent ns c j i r w → w.time ≤ 8 * j + 5
      by w (earlier t) = more_of _ j (times_of _ j t)
      by w (of_memory st e) = more_of _ j (le_of _ _ (ap (λ a. a.time) e))
      by w (of_register wr e) = le_of _ _ (ap (λ a. a.time) e)

  word_quiet : (k v : ℕ) → k < 536870912 → (c.at 6 i 23 r ≡ 1 → at_row ns c i r Main.w ≡ k → ⊥) → Leaves xs k (8 * j + 1) v → Leaves xs k next v
  word_quiet k v d h l =
      later xs k (8 * j + 1) next v step (λ w m e q t. by w q (of w m e t)) l
    where
      by : (w : Access) → w.key ≡ k → Recent ns c j i r w → w.time < 8 * j + 1
      by w q (earlier t) = t
      by w q (of_memory st e) = absurd (h st (sym (ap (λ a. a.key) e) ∙ q))
      by w q (of_register wr e) = absurd (apart w.key k _ q (ap (λ a. a.key) e) d)

  word_wrote : (k v : ℕ) → k < 536870912 → c.at 6 i 23 r ≡ 1 → at_row ns c i r Main.w ≡ k → v ≡ joined (c.at 6 i 43 r) (c.at 6 i 44 r) → Leaves xs k next v
  word_wrote k v d st e q =
      wrote xs k next v (memory_write ns c j i r) (bus.memory j i r place on st) refl e (omega arith) (λ w m o h t. by w h (of w m o t)) (made _ _ v q (m_low st) (m_high st))
    where
      by : (w : Access) → w.key ≡ k → Recent ns c j i r w → w.time ≤ 8 * j + 4
      by w h (earlier t) = times_of _ j t
      by w h (of_memory st e) = le_of _ _ (ap (λ a. a.time) e)
      by w h (of_register wr e) = absurd (apart w.key k _ h (ap (λ a. a.key) e) d)

  module _ (s : State) (keeps : Keeps xs (8 * j + 1) s) (rd_above : c.at 6 i 21 r ≡ 1 → c.at 6 i 12 r ≢ 0) where
    abbrev v : ℕ
    v = joined (at_row ns c i r Main.vlo) (at_row ns c i r Main.vhi)

    abbrev m : ℕ
    m = joined (c.at 6 i 43 r) (c.at 6 i 44 r)

    both : (k : ℕ) → ((c.at 6 i 21 r ≡ 1) × (c.at 6 i 12 r ≡ k)) ⊎ (c.at 6 i 21 r ≡ 1 → c.at 6 i 12 r ≡ k → ⊥)
    both k = ⊎_elim (λ e. ⊎_elim (λ q. inl (e, q)) (λ n. inr (λ _ q. n q)) (cases_eq (c.at 6 i 12 r) k)) (λ n. inr (λ e _. n e)) (cases_eq (c.at 6 i 21 r) 1)

    both_words : (k : ℕ) → ((c.at 6 i 23 r ≡ 1) × (at_row ns c i r Main.w ≡ k)) ⊎ (c.at 6 i 23 r ≡ 1 → at_row ns c i r Main.w ≡ k → ⊥)
    both_words k = ⊎_elim (λ e. ⊎_elim (λ q. inl (e, q)) (λ n. inr (λ _ q. n q)) (cases_eq (at_row ns c i r Main.w) k)) (λ n. inr (λ e _. n e)) (cases_eq (c.at 6 i 23 r) 1)

    inside : c.at 6 i 12 r < length s.x
    inside = subst (λ z. c.at 6 i 12 r < z) (sym keeps.len) rd_below

    pub kept : Keeps xs next (left ns c i r s)
    kept = record {
      registers = λ k d. ⊎_elim
          (λ h. reg_wrote k _ h.0 h.1 (reg_on s.x (c.at 6 i 21 r) (c.at 6 i 12 r) v k h.0 h.1 inside))
          (λ h. subst (λ z. Leaves xs (536870912 + k) next z) (sym (reg_off s.x (c.at 6 i 21 r) (c.at 6 i 12 r) v k h)) (reg_quiet k _ h (keeps.registers k d)))
          (both k);
      words = λ k d. ⊎_elim
          (λ h. word_wrote k _ d h.0 h.1 (word_on s.word (c.at 6 i 23 r) (at_row ns c i r Main.w) m k h.0 h.1))
          (λ h. subst (λ z. Leaves xs k next z) (sym (word_off s.word (c.at 6 i 23 r) (at_row ns c i r Main.w) m k h)) (word_quiet k _ d h (keeps.words k d)))
          (both_words k);
      zero = reg_off s.x (c.at 6 i 21 r) (c.at 6 i 12 r) v 0 (λ e q. rd_above e q) ∙ keeps.zero;
      len = long s.x (c.at 6 i 21 r) (c.at 6 i 12 r) v ∙ keeps.len;
    }
