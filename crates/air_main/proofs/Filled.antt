-- The rows of a whole run meet Main's lines, and the instances are joined.
use Rattle.std.proofs.Common.{ℕ, suc, ◌≡◌, ◌≢◌, ◌<◌, ◌≤◌, ◌+◌, ◌-◌, ◌*◌, ◌%◌, ◌^◌, ◌&&◌, inl, inr, ◌⊎◌, Bool, true, false, cond, eqb, List, [], ◌∷◌, map, Option, None, Some, IfSome, refl, sym, ap, subst, ◌∙◌, arith}
use Rattle.std.proofs.Math.Nat.{mod-eq_of_lt}
use Rattle.std.proofs.lemmas.Bool.{cases_lt, eqb-true, and_parts}
use Rattle.std.proofs.lemmas.Bool.Decides.{nat_tests}
use Rattle.gold.specs.Field.{mul_mod}
use Rattle.pil_ast.specs.Term.{Namespace, ◌⊗◌}
use Rattle.pil_ast.specs.Columns.{Columns}
use Rattle.pil_ast.specs.Value.{around, row_after, value}
use Rattle.pil_ast.specs.Holds.{tuple}
use Rattle.pil_exact.proofs.Row.{is, row_at}
use Rattle.pil_laws.proofs.Join.{joins}
use Rattle.machine_text.specs.Main
use Rattle.machine_text.specs.Main.{items}
use Rattle.rv_model.specs.Image.{Img, IsLoadable}
use Rattle.rv_model.specs.Run.{state_at, step_at, RunsTo}
use Rattle.rv_model.specs.declared.answer.Public.{Public}
use Rattle.min_trace.specs.Record.{record_at}
use Rattle.min_trace.specs.Bounds.{IsAct}
use Rattle.min_trace.specs.declared.record.MemAct.{MemAct}
use Rattle.step_rows.specs.MainRow.{main_row, of_access}
use Rattle.air_main.specs.Constants.{MainConstants}
use Rattle.air_main.specs.Law.{HasMain, Meets, RowConstants}
use Rattle.air_main.specs.Rows.{HasRow, IsFollowing, Sends, StandsAt}
use Rattle.air_main.specs.Table.{IsMainOf, MainFilled, RunSends}
use Rattle.air_main.proofs.Decoded.{Ranges}
use Rattle.air_main.proofs.Fields.{row_pc}
use Rattle.air_main.proofs.Facts.{go_none}
use Rattle.air_main.proofs.Runs.{Bounds, entry_below, has_row, is_step, goes_on, halts_last, next_on, next_off, pc_below}
use Rattle.air_main.proofs.Complete.{main_complete, main_padding, main_sends, row_leads, row_stops}

flag_le : (b : Bool) → cond b 1 0 ≤ 1
flag_le true = omega arith
flag_le false = omega arith

choice_below : (b : Bool) (n : ℕ) → n < 2 ^ 32 → cond b n 0 < 2 ^ 32
choice_below true n h = h
choice_below false n h = omega arith

same_le : (v w m : ℕ) → v ≡ w → w ≤ m → v ≤ m
same_le v w m e h = omega arith

same_lt : (v w m : ℕ) → v ≡ w → w < m → v < m
same_lt v w m e h = omega arith

set : (b : Bool) (v : ℕ) → v ≡ cond b 1 0 → v ≢ 0 → b ≡ true
set true v e h = refl
set false v e h = absurd (h e)

-- a row that isn't the last of its instance
before_last : (v r n : ℕ) → v ≡ cond (eqb (r + 1) n) 1 0 → v ≢ 1 → r < n → r + 1 < n
before_last v r n e h l = grind (arith, nat_tests)

-- a row with a place before it
not_first : (v i r a m : ℕ) → v ≡ cond (eqb i 0 && eqb r 0) 1 0 → 0 < m → m ≤ a + r → (i ≡ 0 → a ≡ 0) → v ≡ 0
not_first v i r a m e l h f = grind (arith, nat_tests)

zero_times : (i n : ℕ) → i ≡ 0 → i * n ≡ 0
zero_times i n e = ap (λ z. z * n) e ∙ none n
  where
    none : (n : ℕ) → 0 * n ≡ 0
    none n = omega arith

first_place : (i r n : ℕ) → i ≡ 0 → r ≡ 0 → i * n + r ≡ 0
first_place i r n e f = ap (λ z. z * n + r) e ∙ at n r f
  where
    at : (n r : ℕ) → r ≡ 0 → 0 * n + r ≡ 0
    at n r f = omega arith

last_place : (i r n m : ℕ) → r + 1 ≡ n → i + 1 ≡ m → i * n + r + 1 ≡ m * n
last_place i r n m e f = at (i * n) ∙ ap (λ z. z * n) f
  where
    at : (a : ℕ) → i * n + r + 1 ≡ (i + 1) * n
    at a = omega arith

next_place : (a r : ℕ) → a + (r + 1) ≡ a + r + 1
next_place a r = omega arith

next_instance : (i r n : ℕ) → r + 1 ≡ n → (i + 1) * n + 0 ≡ i * n + r + 1
next_instance i r n e = omega arith

row_after_is : (n r : ℕ) → r + 1 < n → row_after n r ≡ r + 1
unfolding row_after
row_after_is n r h = mod-eq_of_lt h

two : (a b d e : ℕ) → a ≡ d → b ≡ e → a ∷ b ∷ [] ≡ d ∷ e ∷ []
two a b d e h k = cc

products : (a b d e : ℕ) → a ≡ d → b ≡ e → mul_mod a b ≡ mul_mod d e
products a b d e h k = ap (λ z. mul_mod z b) h ∙ ap (mul_mod d) k

nothing : (a b d e : ℕ) → a ≡ 0 → d ≡ 0 → mul_mod a b ≡ mul_mod d e
nothing a b d e h k = ap (λ z. mul_mod z b) h ∙ (none b e ∙ ap (λ z. mul_mod z e) (sym k))
  where
    none : (b e : ℕ) → mul_mod 0 b ≡ mul_mod 0 e
    none b e = omega arith

result_below : (o : Option MemAct) → IfSome o IsAct → of_access (λ m. m.result) o < 2 ^ 64
result_below None h = omega arith
result_below (Some m) h = h.result

module _ (ranges : Ranges) (bounds : Bounds) (ns : List Namespace) (c : Columns) (height : ℕ) (image : Img) (n : ℕ) (public : Public) (has : HasMain ns c height image) (k : MainConstants image height c) (loadable : IsLoadable image) (run : RunsTo image n public) (room : n ≤ c.instances 6 * c.rows 6) (table : IsMainOf c image n) where
  abbrev place : ℕ → ℕ → ℕ
  place i r = i * c.rows 6 + r

  steps : (j : ℕ) → j < n → HasRow image j
  steps = has_row image n public loadable run bounds

  sel_at : (i r : ℕ) → i < c.instances 6 → r < c.rows 6 → place i r < n → c.at 6 i 8 r ≡ 1
  sel_at i r hi hr l = table.row i r hi hr l 0 (omega arith)

  off_at : (i r : ℕ) → i < c.instances 6 → r < c.rows 6 → n ≤ place i r → c.at 6 i 8 r ≡ 0
  off_at i r hi hr l = table.padding i r hi hr l 0 (omega arith)

  record_pc : (j : ℕ) → (record_at image j).pc ≡ (state_at image j).pc
  unfolding record_at
  record_pc j = refl

  pc_at : (i r : ℕ) → i < c.instances 6 → r < c.rows 6 → place i r < n → c.at 6 i 9 r ≡ (state_at image (place i r)).pc
  pc_at i r hi hr l = table.row i r hi hr l 1 (omega arith) ∙ (row_pc (record_at image (place i r)).pc (record_at image (place i r)).instr ∙ record_pc (place i r))

  starts : (state_at image 0).pc ≡ image.entry
  unfolding state_at
  starts = refl

  -- what follows the row of a step, at the place after it
  following : (j i r : ℕ) → i < c.instances 6 → r < c.rows 6 → j < n → place i r ≡ j + 1 → IsFollowing c i r (record_at image j).next
  following j i r hi hr l e = elim (cases_lt (j + 1) n) [
    | inl h ↦ subst (IsFollowing c i r) (sym (next_on image n public loadable run j h)) (sel_at i r hi hr (same_lt _ _ _ e h), pc_at i r hi hr (same_lt _ _ _ e h) ∙ ap (λ m. (state_at image m).pc) e)
    | inr h ↦ subst (IsFollowing c i r) (sym (next_off image n public loadable run j (omega arith))) (off_at i r hi hr (omega arith))
  ]

  module _ (i r : ℕ) (hi : i < c.instances 6) (hr : r < c.rows 6) where
    fixed : RowConstants ns c i r
    fixed =
        record {
          last = same_le _ _ _ (k.is_last i r hi hr) (flag_le _);
          first = same_le _ _ _ (k.is_first i r hi hr) (flag_le _);
          end = same_le _ _ _ (k.is_end i r hi hr) (flag_le _);
          entry = same_lt _ _ _ (k.is_entry i r hi hr) (choice_below _ _ (entry_below image loadable));
        }

    inner : c.at 6 i 2 r ≢ 1 → r + 1 < c.rows 6
    inner h = before_last _ r (c.rows 6) (k.is_last i r hi hr) h hr

    begins : c.at 6 i 3 r ≢ 0 → (record_at image (place i r)).pc ≡ c.at 6 i 7 r
    begins h =
        let b = set _ _ (k.is_first i r hi hr) h in
        let p = and_parts _ _ b in
        record_pc (place i r) ∙ (ap (λ j. (state_at image j).pc) (first_place i r (c.rows 6) (eqb-true i 0 p.0) (eqb-true r 0 p.1)) ∙ (starts ∙ sym (k.is_entry i r hi hr ∙ ap (λ b. cond b image.entry 0) b)))

    end_is : c.at 6 i 6 r ≢ 0 → place i r < n → (record_at image (place i r)).next ≡ None
    end_is h l =
        let p = and_parts _ _ (set _ _ (k.is_end i r hi hr) h) in
        let e = last_place i r (c.rows 6) (c.instances 6) (eqb-true _ _ p.0) (eqb-true _ _ p.1) in
        next_off image n public loadable run (place i r) (at (place i r) (c.instances 6 * c.rows 6) e l room)
      where
        at : (j m : ℕ) → j + 1 ≡ m → j < n → n ≤ m → j + 1 ≡ n
        at j m e l h = omega arith

    stands : place i r < n → StandsAt ns c i r (record_at image (place i r))
    stands l =
        record {
          constants = fixed;
          begins = begins;
          goes_on = λ h. let q = inner h in subst (λ z. IsFollowing c i z (record_at image (place i r)).next) (sym (row_after_is (c.rows 6) r q)) (following (place i r) i (r + 1) hi q l (next_place (i * c.rows 6) r));
          ends = λ h. end_is h l;
        }

    pub row_sends : place i r < n → Sends ns c i r (record_at image (place i r))
    row_sends l =
        main_sends ranges ns c height image i r (place i r) (steps (place i r) l) has (stands l) (result_below (record_at image (place i r)).mem (bounds image loadable (place i r) (is_step image n public loadable run (place i r) l)).mem) (table.row i r hi hr l)

    pub meets : Meets ns c i r
    meets = elim (cases_lt (place i r) n) [
      | inl l ↦ main_complete ranges ns c height image i r (place i r) (steps (place i r) l) has (stands l) (table.row i r hi hr l)
      | inr l ↦ main_padding ranges ns c height image i r has fixed (not_first _ i r (i * c.rows 6) n (k.is_first i r hi hr) run.some l (zero_times i (c.rows 6))) (λ h. let q = inner h in subst (λ z. c.at 6 i 8 z ≡ 0) (sym (row_after_is (c.rows 6) r q)) (off_at i (r + 1) hi q (later (i * c.rows 6) l))) (off_at i r hi hr l)
    ]
      where
        later : (a : ℕ) → n ≤ a + r → n ≤ a + (r + 1)
        later a l = omega arith

    abbrev goes : ℕ
    goes = value items (around ns c 6 i r) Main.go

    abbrev leads : ℕ
    leads = value items (around ns c 6 i r) Main.nx

    on_leads : (l : place i r + 1 < n) → (goes ≡ 1) × (leads ≡ (state_at image (place i r + 1)).pc)
    on_leads l =
        let m : place i r < n = less (place i r) l in
        row_leads ranges ns c height image i r (place i r) (steps (place i r) m) has (stands m) (table.row i r hi hr m) (state_at image (place i r + 1)) (goes_on image n public loadable run (place i r) l) (pc_below image n public loadable run (place i r + 1) l)
      where
        less : (j : ℕ) → j + 1 < n → j < n
        less j l = omega arith

    off_stops : n ≤ place i r + 1 → goes ≡ 0
    off_stops h = elim (cases_lt (place i r) n) [
      | inl l ↦ row_stops ranges ns c height image i r (place i r) (steps (place i r) l) has (stands l) (table.row i r hi hr l) (halts_last image n public loadable run (place i r) (same_end (place i r) l h))
      | inr l ↦ go_none ns c i r (row_at items ns c 6 i r ((8, is 0) ∷ []) has.canonical (off_at i r hi hr l, tt))
    ]
      where
        same_end : (j : ℕ) → j < n → n ≤ j + 1 → j + 1 ≡ n
        same_end j l h = omega arith

  -- the last row of an instance leads to the first of the next
  agree : (i r : ℕ) → i + 1 < c.instances 6 → r + 1 ≡ c.rows 6 → tuple ns c 6 i r (Main.go ∷ (Main.go ⊗ Main.nx) ∷ []) ≡ tuple ns c 6 (i + 1) 0 (Main.sel ∷ (Main.sel ⊗ Main.pc) ∷ [])
  agree i r l e =
      let hi : i < c.instances 6 = omega arith in
      let hr : r < c.rows 6 = omega arith in
      let some : 0 < c.rows 6 = k.joints.rows in
      let p = next_instance i r (c.rows 6) e in
      ap (λ n. map (value n.items (around ns c 6 i r)) (Main.go ∷ (Main.go ⊗ Main.nx) ∷ [])) has.main
      ∙ (elim (cases_lt (place i r + 1) n) [
        | inl h ↦ (
            let a = on_leads i r hi hr h in
            let q = sel_at (i + 1) 0 l some (same_lt _ _ _ p h) in
            let z = pc_at (i + 1) 0 l some (same_lt _ _ _ p h) ∙ ap (λ m. (state_at image m).pc) p in
            two _ _ _ _ (a.0 ∙ sym q) (products _ _ _ _ (a.0 ∙ sym q) (a.1 ∙ sym z)))
        | inr h ↦ (
            let a = off_stops i r hi hr h in
            let q = off_at (i + 1) 0 l some (subst (λ m. n ≤ m) (sym p) h) in
            two _ _ _ _ (a ∙ sym q) (nothing _ _ _ _ a q))
      ] ∙ sym (ap (λ n. map (value n.items (around ns c 6 (i + 1) 0)) (Main.sel ∷ (Main.sel ⊗ Main.pc) ∷ [])) has.main))

pub main_filled : Ranges → Bounds → MainFilled
main_filled ranges bounds ns c height image n public has k loadable run room table =
    (meets ranges bounds ns c height image n public has k loadable run room table, joins ns c 6 1 4 5 (Main.go ∷ (Main.go ⊗ Main.nx) ∷ []) (Main.sel ∷ (Main.sel ⊗ Main.pc) ∷ []) k.joints (agree ranges bounds ns c height image n public has k loadable run room table))

pub run_sends : Ranges → Bounds → RunSends
run_sends ranges bounds ns c height image n public has k loadable run room table i r hi hr l = row_sends ranges bounds ns c height image n public has k loadable run room table i r hi hr l
