-- Binary, Shift, Arith and Align: their lines, and what they send.
use Rattle.std.proofs.Common.{ℕ, ◌+◌, ◌*◌, ◌%◌, ◌^◌, ◌<◌, ◌≡◌, inl, inr, true, false, not, cond, eqb, List, [], ◌∷◌, Option, Some, None, flat_map, refl, sym, ap, ◌∙◌, subst, arith}
use Rattle.std.specs.Prelude.{All, slice_get, slice_index, slice_index_or, is_some, IfSome}
use Rattle.std.specs.Option.{option_map_or}
use Rattle.std.proofs.lemmas.Bool.{eqb-true, false≢true}
use Rattle.std.proofs.lemmas.Option.{none-some, same_Some}
use Rattle.std.proofs.lemmas.List.Elements.{All-filter, filter_passes}
use Rattle.rv_model.specs.Align.{width}
use Rattle.rv_model.specs.Image.{Img}
use Rattle.rv_model.specs.declared.answer.Public.{Public}
use Rattle.zk_layout.specs.Air.{air_number, air_of, airs as all_airs}
use Rattle.zk_layout.specs.declared.air.Air.{Air}
use Rattle.zk_layout.specs.declared.air.Air.TheVariants as airs
use Rattle.pil_ast.specs.Term.{Term, col, Namespace, item_at}
use Rattle.pil_ast.specs.Columns.{Columns}
use Rattle.pil_ast.specs.Holds.{Holds, sent, tuple}
use Rattle.pil_laws.specs.Table.{AreHeld, held}
use Rattle.pil_laws.proofs.Table.{sent-laws}
use Rattle.fixed_cols.specs.declared.sizes.Sizes.{Sizes}
use Rattle.machine_text.specs.Words.{rows_with}
use Rattle.machine_text.specs.Machine.{machine}
use Rattle.machine_text.specs.Binary
use Rattle.machine_text.specs.Shift
use Rattle.machine_text.specs.Arith
use Rattle.machine_text.specs.Align
use Rattle.min_trace.specs.Bounds.{IsAct}
use Rattle.min_trace.specs.Laws.{first_of}
use Rattle.min_trace.specs.Operands.{uw_of}
use Rattle.min_trace.specs.Record.{records_between}
use Rattle.min_trace.specs.declared.record.MemAct.{MemAct}
use Rattle.min_trace.specs.declared.record.StepRecord.{StepRecord}
use Rattle.planner.specs.Rows.{has_row}
use Rattle.run_rows.specs.Tables.{records_of}
use Rattle.step_rows.specs.Rows.{row_in, access_row}
use Rattle.step_rows.specs.Tuples.{op_tuple, access_tuple}
use Rattle.air_ops.specs.Binary as BinaryLaws
use Rattle.air_ops.specs.Shift as ShiftLaws
use Rattle.air_arith.specs.Laws as ArithLaws
use Rattle.air_align.specs.Laws as AlignLaws
use Rattle.main_run.specs.Stands.{AirsStand}
use Rattle.run_lines.specs.Rows.{AreRunOf}
use Rattle.run_lines.proofs.Below.{AirLaws}
use Rattle.run_lines.proofs.Known.{IsKnown, Moves, none, some, first_below}
use Rattle.run_lines.proofs.Lists.{at_place, kept_pieces}
use Rattle.run_lines.proofs.Held.{binary_held, shift_held, arith_held, align_held}

-- ---- an air whose columns hold rows of steps, the first of them 1
module _ (ns : List Namespace) (c : Columns) (s width : ℕ) (row : StepRecord → List ℕ) (rs : List StepRecord) (are : AreHeld c s 0 width (λ x k. slice_index (row x) k) rs) (some_columns : 0 < width) (P : StepRecord → Type 0) (all : All P rs) where
  -- row r of instance i is the step's
  abbrev Has : ℕ → ℕ → StepRecord → Type 0
  Has i r x = (k : ℕ) → k < width → c.at s i k r ≡ slice_index (row x) k

  held_at : (i r k : ℕ) → i < c.instances s → r < c.rows s → k < width → (o : Option StepRecord) → slice_get rs (i * c.rows s + r) ≡ o → c.at s i k r ≡ held (λ x k. slice_index (row x) k) o k
  held_at i r k hi hr hk o e = ap (λ m. c.at s i m r) (omega arith) ∙ are.each i r k hi hr hk ∙ ap (λ o. held (λ x k. slice_index (row x) k) o k) e

  -- each row is a step's, or isn't selected
  pub each_row : (Q : ℕ → ℕ → Type 0) → ((i r : ℕ) → c.at s i 0 r ≡ 0 → Q i r) → ((i r : ℕ) (x : StepRecord) → P x → Has i r x → Q i r) → (i r : ℕ) → i < c.instances s → r < c.rows s → Q i r
  each_row Q off on i r hi hr = by (slice_get rs (i * c.rows s + r)) refl
    where
      by : (o : Option StepRecord) → slice_get rs (i * c.rows s + r) ≡ o → Q i r
      by None e = off i r (held_at i r 0 hi hr some_columns None e)
      by (Some x) e = on i r x (at_place P rs all (i * c.rows s + r) x e) (λ k hk. held_at i r k hi hr hk (Some x) e)

  pub sends : (t : StepRecord → List ℕ) (es : List Term) → ((x : StepRecord) → P x → slice_index (row x) 0 ≡ 1) → ((i r : ℕ) (x : StepRecord) → P x → Has i r x → tuple ns c s i r es ≡ t x) → sent ns c (rows_with s (col s 0 false) es) ≡ flat_map (λ x. t x ∷ []) rs
  sends t es one tuples =
      sent-laws ns c (λ x. t x ∷ []) rs (rows_with s (col s 0 false) es) are.room
      (λ i r x hi hr e. let h = at_place P rs all (i * c.rows s + r) x e in
      ap (λ v. cond (not (eqb v 0)) (tuple ns c s i r es ∷ []) []) (held_at i r 0 hi hr some_columns (Some x) e ∙ one x h) ∙ ap (λ u. u ∷ []) (tuples i r x h (λ k hk. held_at i r k hi hr hk (Some x) e)))
      (λ i r hi hr e. ap (λ v. cond (not (eqb v 0)) (tuple ns c s i r es ∷ []) []) (held_at i r 0 hi hr some_columns None e))

-- ---- the steps of the airs
back : (a : Air) → slice_index_or all_airs (air_number a) airs.Main ≡ a
unfolding air_number
back airs.Main = refl
back airs.Mem = refl
back airs.Binary = refl
back airs.Shift = refl
back airs.Arith = refl
back airs.Align = refl
back airs.Out = refl

same_air : (a b : Air) → eqb (air_number a) (air_number b) ≡ true → a ≡ b
same_air a b e = sym (back a) ∙ ap (λ m. slice_index_or all_airs m airs.Main) (eqb-true _ _ e) ∙ back b

-- what a step tells the air of its operation
abbrev pub operation_of : StepRecord → List ℕ
operation_of x = op_tuple x.op (first_of x) x.b

-- what it tells Align of its access, if it makes one
abbrev pub access_of : StepRecord → List ℕ
access_of x = option_map_or (λ (m : MemAct). access_tuple m.kind m.off m.old x.s) x.mem []

abbrev pub one : (StepRecord → List ℕ) → StepRecord → List (List ℕ)
one t x = t x ∷ []

-- where the step has a row of the air
abbrev pub piece : Air → (StepRecord → List ℕ) → StepRecord → List (List ℕ)
piece air t x = cond (has_row air x) (one t x) []

-- a step that has a row of the air
record IsIn (n : ℕ) (air : Air) (x : StepRecord) : Type 0 where
  known : IsKnown n x
  has : has_row air x ≡ true

-- the access that it makes
record Acts (n : ℕ) (x : StepRecord) : Type 0 where
  act : MemAct
  is : x.mem ≡ Some act
  fits : IsAct act
  even : act.off % width act.kind ≡ 0

module _ (n : ℕ) (x : StepRecord) where
  binary_of : IsIn n airs.Binary x → air_of x.op ≡ airs.Binary
  unfolding has_row
  binary_of h = same_air _ _ h.has

  shift_of : IsIn n airs.Shift x → air_of x.op ≡ airs.Shift
  unfolding has_row
  shift_of h = same_air _ _ h.has

  arith_of : IsIn n airs.Arith x → air_of x.op ≡ airs.Arith
  unfolding has_row
  arith_of h = same_air _ _ h.has

  acts : IsIn n airs.Align x → Acts n x
  unfolding has_row
  acts h = by x.mem refl h.known.bounds.mem h.has h.known.moves
    where
      by : (o : Option MemAct) → x.mem ≡ o → IfSome o IsAct → is_some o ≡ true → Moves x.instr x.s o → Acts n x
      by None e f s m = absurd (false≢true s)
      by (Some a) e f s (none z b) = absurd (none-some a (sym z))
      by (Some a) e f s (some m z v w) = let q = same_Some a m z in record { act = a; is = e; fits = f; even = subst (λ b. b.off % width b.kind ≡ 0) (sym q) v }

module _ (airs_laws : AirLaws) (image : Img) (n : ℕ) (public : Public) (sizes : Sizes) (c : Columns) (are : AreRunOf image n public sizes c) (stands : AirsStand image sizes.profile c) (all : All (IsKnown n) (records_between image 0 n)) where
  abbrev ns : List Namespace
  ns = machine sizes.profile

  in_air : (air : Air) → All (IsIn n air) (records_of air image n)
  in_air air =
      let known = All-filter (has_row air) (IsKnown n) (records_between image 0 n) all in
      let has = filter_passes (has_row air) (records_between image 0 n) in
      λ k d l. record { known = known k d l; has = has k d l }

  first_fits : (x : StepRecord) → IsKnown n x → first_of x < 2 ^ 64
  first_fits x h = first_below (uw_of x.instr) x.a h.bounds.a

  -- Binary
  pub binary_lines : (k : ℕ) → Holds ns c (item_at Binary.items k)
  binary_lines = airs_laws.binary_filled ns c stands.binary (each_row ns c 10 57 (row_in airs.Binary) (records_of airs.Binary image n) (binary_held image n public sizes c are) (omega arith) (IsIn n airs.Binary) (in_air airs.Binary) (λ i r. BinaryLaws.IsFilled c i r) (λ i r z. inl z)
      (λ i r x h row. inr (x.op, first_of x, x.b, binary_of n x h, first_fits x h.known, h.known.bounds.b, row)))

  pub binary_sends : sent ns c Binary.operation ≡ flat_map (piece airs.Binary operation_of) (records_between image 0 n)
  binary_sends =
      sends ns c 10 57 (row_in airs.Binary) (records_of airs.Binary image n) (binary_held image n public sizes c are) (omega arith) (IsIn n airs.Binary) (in_air airs.Binary) operation_of Binary.operation.terms (λ x h. refl)
      (λ i r x h row. (airs_laws.binary ns c i r x.op (first_of x) x.b stands.binary (binary_of n x h) (first_fits x h.known) h.known.bounds.b row).1)
      ∙ kept_pieces (has_row airs.Binary) (one operation_of) (records_between image 0 n)

  -- Shift
  pub shift_lines : (k : ℕ) → Holds ns c (item_at Shift.items k)
  shift_lines = airs_laws.shift_filled ns c stands.shift (each_row ns c 11 30 (row_in airs.Shift) (records_of airs.Shift image n) (shift_held image n public sizes c are) (omega arith) (IsIn n airs.Shift) (in_air airs.Shift) (λ i r. ShiftLaws.IsFilled c i r) (λ i r z. inl z)
      (λ i r x h row. inr (x.op, first_of x, x.b, shift_of n x h, first_fits x h.known, h.known.bounds.b, row)))

  pub shift_sends : sent ns c Shift.operation ≡ flat_map (piece airs.Shift operation_of) (records_between image 0 n)
  shift_sends =
      sends ns c 11 30 (row_in airs.Shift) (records_of airs.Shift image n) (shift_held image n public sizes c are) (omega arith) (IsIn n airs.Shift) (in_air airs.Shift) operation_of Shift.operation.terms (λ x h. refl)
      (λ i r x h row. (airs_laws.shift ns c i r x.op (first_of x) x.b stands.shift (shift_of n x h) (first_fits x h.known) h.known.bounds.b row).1)
      ∙ kept_pieces (has_row airs.Shift) (one operation_of) (records_between image 0 n)

  -- Arith
  pub arith_lines : (k : ℕ) → Holds ns c (item_at Arith.items k)
  arith_lines = airs_laws.arith_filled ns c stands.arith (each_row ns c 12 79 (row_in airs.Arith) (records_of airs.Arith image n) (arith_held image n public sizes c are) (omega arith) (IsIn n airs.Arith) (in_air airs.Arith) (λ i r. ArithLaws.IsFilled c i r) (λ i r z. inl z)
      (λ i r x h row. inr (x.op, first_of x, x.b, arith_of n x h, first_fits x h.known, h.known.bounds.b, row)))

  pub arith_sends : sent ns c Arith.operation ≡ flat_map (piece airs.Arith operation_of) (records_between image 0 n)
  arith_sends =
      sends ns c 12 79 (row_in airs.Arith) (records_of airs.Arith image n) (arith_held image n public sizes c are) (omega arith) (IsIn n airs.Arith) (in_air airs.Arith) operation_of Arith.operation.terms (λ x h. refl)
      (λ i r x h row. (airs_laws.arith ns c i r x.op (first_of x) x.b stands.arith (arith_of n x h) (first_fits x h.known) h.known.bounds.b row).1)
      ∙ kept_pieces (has_row airs.Arith) (one operation_of) (records_between image 0 n)

  -- Align
  act_row : (i r : ℕ) (x : StepRecord) (a : MemAct) → x.mem ≡ Some a → ((k : ℕ) → k < 38 → c.at 9 i k r ≡ slice_index (row_in airs.Align x) k) → AlignLaws.IsRowOf c i r a.kind a.off a.old x.s
  act_row i r x a e row k hk = row k hk ∙ ap (λ o. slice_index (access_row o x.s) k) e

  pub align_lines : (k : ℕ) → Holds ns c (item_at Align.items k)
  align_lines = airs_laws.align_filled ns c stands.align (each_row ns c 9 38 (row_in airs.Align) (records_of airs.Align image n) (align_held image n public sizes c are) (omega arith) (IsIn n airs.Align) (in_air airs.Align) (λ i r. AlignLaws.IsFilled c i r) (λ i r z. inl z)
      (λ i r x h row. let a = acts n x h in inr (a.act.kind, a.act.off, a.act.old, x.s, a.fits.off, a.even, a.fits.old, h.known.bounds.s, act_row i r x a.act a.is row)))

  pub align_sends : sent ns c Align.access ≡ flat_map (piece airs.Align access_of) (records_between image 0 n)
  align_sends =
      sends ns c 9 38 (row_in airs.Align) (records_of airs.Align image n) (align_held image n public sizes c are) (omega arith) (IsIn n airs.Align) (in_air airs.Align) access_of Align.access.terms
      (λ x h. let a = acts n x h in ap (λ o. slice_index (access_row o x.s) 0) a.is)
      (λ i r x h row. let a = acts n x h in
      (airs_laws.align ns c i r a.act.kind a.act.off a.act.old x.s stands.align a.fits.off a.even a.fits.old h.known.bounds.s (act_row i r x a.act a.is row)).1 ∙ sym (ap (λ o. option_map_or (λ (m : MemAct). access_tuple m.kind m.off m.old x.s) o []) a.is))
      ∙ kept_pieces (has_row airs.Align) (one access_of) (records_between image 0 n)
