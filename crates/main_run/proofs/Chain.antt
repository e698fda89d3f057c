-- The row after a row, in the same instance or the next; and the rows after the halt.
use Rattle.std.proofs.Common.{ℕ, zero, suc, Bool, true, false, cond, eqb, ◌&&◌, ◌≡◌, ◌≢◌, ◌<◌, ◌≤◌, ◌+◌, ◌-◌, ◌*◌, ◌^◌, ◌⊎◌, inl, inr, List, [], ◌∷◌, map, refl, sym, ap, subst, arith, ⊎_elim}
use Rattle.std.proofs.lemmas.Bool.{cases_lt}
use Rattle.std.proofs.lemmas.Bool.Decides.{nat_tests}
use Rattle.gold.specs.Field.{p, sub_mod, mul_mod}
use Rattle.pil_ast.specs.Term.{Namespace, ◌⊗◌}
use Rattle.pil_ast.specs.Columns.{Columns}
use Rattle.pil_ast.specs.Value.{around, row_after, value}
use Rattle.pil_exact.proofs.Row.{is, row_at, amount, small_value}
use Rattle.pil_laws.proofs.Lines.{row_meets}
use Rattle.pil_laws.proofs.Join.{joined}
use Rattle.machine_text.specs.Main
use Rattle.machine_text.specs.Main.{items}
use Rattle.rv_model.specs.Image.{Img}
use Rattle.air_main.specs.Constants.{MainConstants}
use Rattle.air_main.specs.Law.{HasMain, Meets, RowConstants, IsRomPc, at_row}
use Rattle.air_main.specs.Selected.{IsSelected}
use Rattle.main_run.proofs.Below.{MainLaws}
use Rattle.main_run.specs.Chain.{MainStands, IsPlace, GoesOn, ChainLaw, RestLaw}
use Rattle.main_run.proofs.Place.{prior, places_same, inner, outer, after_is}

bit_le : (v : ℕ) (b : Bool) → v ≡ cond b 1 0 → v ≤ 1
bit_le v true h = omega arith
bit_le v false h = omega arith

entry_le : (v e : ℕ) (b : Bool) → v ≡ cond b e 0 → e < 2 ^ 32 → v < 2 ^ 32
entry_le v e true h l = omega arith
entry_le v e false h l = omega arith

not_last : (v r n : ℕ) → v ≡ cond (eqb (r + 1) n) 1 0 → r + 1 < n → v ≡ 0
not_last v r n h l = grind (arith, nat_tests)

at_end : (v r n i m : ℕ) → v ≡ cond (eqb (r + 1) n && eqb (i + 1) m) 1 0 → r + 1 ≡ n → i + 1 ≡ m → v ≡ 1
at_end v r n i m h l k = grind (arith, nat_tests)

not_none : (x : ℕ) → x ≡ 1 → x ≢ 0
not_none x h z = omega arith

two_same : (a b x y : ℕ) → a ∷ b ∷ [] ≡ x ∷ y ∷ [] → (a ≡ x) × (b ≡ y)
two_same a b x y h = (cc, cc)

times_one : (a b x y : ℕ) → mul_mod a x ≡ mul_mod b y → a ≡ 1 → b ≡ 1 → x < p → y < p → x ≡ y
times_one a b x y e h k l m = ones x y (subst (λ z. mul_mod 1 x ≡ mul_mod z y) k (subst (λ z. mul_mod z x ≡ mul_mod b y) h e)) l m
  where
    ones : (x y : ℕ) → mul_mod 1 x ≡ mul_mod 1 y → x < p → y < p → x ≡ y
    ones x y e l m = omega arith

-- a row that isn't selected, or halts, doesn't go on
gone : (s h : ℕ) → (s ≡ 0) ⊎ (h ≡ 1) → mul_mod s (sub_mod 1 h) ≡ 0
gone s h (inl e) = subst (λ z. mul_mod z (sub_mod 1 h) ≡ 0) (sym e) (none h)
  where
    none : (h : ℕ) → mul_mod 0 (sub_mod 1 h) ≡ 0
    none h = omega arith
gone s h (inr e) = subst (λ z. mul_mod s (sub_mod 1 z) ≡ 0) (sym e) (none s)
  where
    none : (s : ℕ) → mul_mod s (sub_mod 1 1) ≡ 0
    none s = omega arith

last_row : (r n : ℕ) → r < n → n ≤ r + 1 → r + 1 ≡ n
last_row r n h l = omega arith

module _ (laws : MainLaws) (ns : List Namespace) (c : Columns) (n : ℕ) (image : Img) (stands : MainStands ns c n image) where
  abbrev constants : MainConstants image n c
  constants = stands.constants

  abbrev has : HasMain ns c n image
  has = stands.has

  pub meets : (i r : ℕ) → i < c.instances 6 → r < c.rows 6 → Meets ns c i r
  meets i r h l = row_meets ns c 6 items refl stands.holds i r h l

  pub told : (i r : ℕ) → i < c.instances 6 → r < c.rows 6 → c.at 6 i 8 r ≢ 0 → IsSelected ns c i r
  told i r h l on = laws.selected ns c n image i r has (meets i r h l) on

  pub fixed : (i r : ℕ) → i < c.instances 6 → r < c.rows 6 → RowConstants ns c i r
  fixed i r h l = record {
    last = bit_le _ _ (constants.is_last i r h l);
    first = bit_le _ _ (constants.is_first i r h l);
    end = bit_le _ _ (constants.is_end i r h l);
    entry = entry_le _ _ _ (constants.is_entry i r h l) stands.entry_below;
  }

  -- line 7
  crossed : (i r : ℕ) → i + 1 < c.instances 6 → r + 1 ≡ c.rows 6 → (at_row ns c i r Main.go ≡ c.at 6 (i + 1) 8 0) × (at_row ns c i r (Main.go ⊗ Main.nx) ≡ mul_mod (c.at 6 (i + 1) 8 0) (c.at 6 (i + 1) 9 0))
  crossed i r h l =
      let e = joined ns c 6 1 4 5 (Main.go ∷ (Main.go ⊗ Main.nx) ∷ []) (Main.sel ∷ (Main.sel ⊗ Main.pc) ∷ []) constants.joints (stands.holds 60) i r h l in
      two_same _ _ _ _ (subst (λ s. map (value s.items (around ns c 6 i r)) (Main.go ∷ (Main.go ⊗ Main.nx) ∷ []) ≡ map (value s.items (around ns c 6 (i + 1) 0)) (Main.sel ∷ (Main.sel ⊗ Main.pc) ∷ [])) has.main e)

  module _ (j i r : ℕ) (place : IsPlace c j i r) where
    here : Meets ns c i r
    here = meets i r place.is_instance place.is_row

    following : r + 1 < c.rows 6 → Meets ns c i (row_after (c.rows 6) r)
    following l = subst (λ z. Meets ns c i z) (sym (after_is c r l)) (meets i (r + 1) place.is_instance l)

    module _ (on : c.at 6 i 8 r ≢ 0) (goes : c.at 6 i 28 r ≢ 1) where
      sel : c.at 6 i 8 r ≡ 1
      sel = (told i r place.is_instance place.is_row on).sel

      halt : c.at 6 i 28 r ≡ 0
      halt = ⊎_elim (λ z. z) (λ z. absurd (goes z)) (told i r place.is_instance place.is_row on).halt

      same : r + 1 < c.rows 6 → GoesOn ns c j i r
      same l =
          let last = not_last _ r (c.rows 6) (constants.is_last i r place.is_instance place.is_row) l in
          let f = (laws.follows ns c n image i r has here (following l) last).goes_on on goes in
          let e = after_is c r l in
          record {
            instance = i;
            row = r + 1;
            place = inner c j i r place l;
            selected = not_none _ (subst (λ z. c.at 6 i 8 z ≡ 1) e f.0);
            pc = subst (λ z. c.at 6 i 9 z ≡ at_row ns c i r Main.nx) e f.1;
            known = f.2;
          }

      cross : r + 1 ≡ c.rows 6 → i + 1 < c.instances 6 → GoesOn ns c j i r
      cross e l =
          let t = crossed i r l e in
          let row = row_at items ns c 6 i r ((8, is 1) ∷ (28, is 0) ∷ []) has.canonical (sel, (halt, tt)) in
          let go : at_row ns c i r Main.go ≡ 1 = amount row Main.go refl in
          let on' : c.at 6 (i + 1) 8 0 ≡ 1 = subst (λ z. z ≡ 1) t.0 go in
          let pc : at_row ns c i r Main.nx ≡ c.at 6 (i + 1) 9 0 = times_one (at_row ns c i r Main.go) (c.at 6 (i + 1) 8 0) (at_row ns c i r Main.nx) (c.at 6 (i + 1) 9 0) t.1 go on' (small_value row Main.nx refl) (has.canonical 6 (i + 1) 9 0) in
          let at = outer c j i r place e l in
          record {
            instance = i + 1;
            row = 0;
            place = at;
            selected = not_none _ on';
            pc = sym pc;
            known = subst (IsRomPc c) (sym pc) (told (i + 1) 0 l at.is_row (not_none _ on')).pc;
          }

      stops : r + 1 ≡ c.rows 6 → c.instances 6 ≤ i + 1 → GoesOn ns c j i r
      stops e l =
          let q = last_row i _ place.is_instance l in
          let end = at_end _ r (c.rows 6) i (c.instances 6) (constants.is_end i r place.is_instance place.is_row) e q in
          ⊎_elim (λ z. absurd (on z)) (λ z. absurd (goes z)) ((laws.ends ns c n image i r has (fixed i r place.is_instance place.is_row) here).1 end)

      pub goes_on : GoesOn ns c j i r
      goes_on =
          ⊎_elim same (λ h. let e = last_row r _ place.is_row h in ⊎_elim (cross e) (stops e) (cases_lt (i + 1) (c.instances 6))) (cases_lt (r + 1) (c.rows 6))

    -- the row after one that doesn't go on
    next_off : (c.at 6 i 8 r ≡ 0) ⊎ (c.at 6 i 28 r ≡ 1) → (a b : ℕ) → IsPlace c (suc j) a b → c.at 6 a 8 b ≡ 0
    next_off off a b at =
        ⊎_elim
        (λ l.
        let last = not_last _ r (c.rows 6) (constants.is_last i r place.is_instance place.is_row) l in
        let f = (laws.follows ns c n image i r has here (following l) last).stops off in
        let e = places_same c (suc j) i (r + 1) a b (inner c j i r place l) at in
        subst (λ z. c.at 6 z 8 b ≡ 0) e.0 (subst (λ z. c.at 6 i 8 z ≡ 0) e.1 (subst (λ z. c.at 6 i 8 z ≡ 0) (after_is c r l) f)))
        (λ h.
        let q = last_row r _ place.is_row h in
        let l = inside at q in
        let e = places_same c (suc j) (i + 1) 0 a b (outer c j i r place q l) at in
        let f : c.at 6 (i + 1) 8 0 ≡ 0 = subst (λ z. z ≡ 0) (crossed i r l q).0 (gone _ _ off) in
        subst (λ z. c.at 6 z 8 b ≡ 0) e.0 (subst (λ z. c.at 6 (i + 1) 8 z ≡ 0) e.1 f))
        (cases_lt (r + 1) (c.rows 6))
      where
        inside : IsPlace c (suc j) a b → r + 1 ≡ c.rows 6 → i + 1 < c.instances 6
        inside at q = over_place i a (c.rows 6) r b j (c.instances 6) place.is_number at.is_number q at.is_row at.is_instance
          where
            times_le : (a d n : ℕ) → a * n ≤ (a + d) * n
            times_le a zero n = omega arith
            times_le a (suc d) n = let h = times_le a d n in omega arith

            over_place : (i a n r b j m : ℕ) → j ≡ i * n + r → suc j ≡ a * n + b → r + 1 ≡ n → b < n → a < m → i + 1 < m
            over_place i a n r b j m h k q l d = ⊎_elim (λ z. absurd (by (i - a) (omega arith))) (λ z. omega arith) (cases_lt a (i + 1))
              where
                by : (d : ℕ) → i ≡ a + d → ⊥
                by d e = let t = times_le a d n in let s = ap (λ z. z * n) e in omega arith

pub chain_law : MainLaws → ChainLaw
chain_law laws ns c n image stands j i r place on goes = goes_on laws ns c n image stands j i r place on goes

pub rest_law : MainLaws → RestLaw
rest_law laws ns c n image stands j i r place off k a b l at = later (k - suc j) a b (subst (λ z. IsPlace c z a b) (add (suc j) k l) at)
  where
    add : (j k : ℕ) → j ≤ k → k ≡ j + (k - j)
    add j k h = omega arith

    later : (d a b : ℕ) → IsPlace c (suc j + d) a b → c.at 6 a 8 b ≡ 0
    later zero a b at = next_off laws ns c n image stands j i r place off a b (subst (λ z. IsPlace c z a b) (none (suc j)) at)
      where
        none : (j : ℕ) → j + 0 ≡ j
        none j = omega arith
    later (suc d) a b at =
        let w = prior c (suc j + d) a b (subst (λ z. IsPlace c z a b) (more (suc j) d) at) in
        next_off laws ns c n image stands (suc j + d) w.0 w.1 w.2 (inl (later d w.0 w.1 w.2)) a b (subst (λ z. IsPlace c z a b) (more (suc j) d) at)
      where
        more : (j d : ℕ) → j + suc d ≡ suc (j + d)
        more j d = omega arith
