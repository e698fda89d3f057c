-- What Main sends: the operations, the accesses and all that is read and written, of each step.
use Rattle.std.proofs.Common.{ℕ, ◌+◌, ◌*◌, ◌^◌, ◌<◌, ◌≤◌, ◌≡◌, ◌⊎◌, inl, inr, Bool, true, false, cond, if◌then◌else◌, List, [], ◌∷◌, ◌++◌, Some, None, map, flat_map, refl, sym, ap, ◌∙◌, arith, append-nil}
use Rattle.std.specs.Prelude.{All, slice_get, ◌==◌, nat_le}
use Rattle.std.proofs.lemmas.Bool.{cases_lt}
use Rattle.std.proofs.lemmas.List.Elements.{All-weaker}
use Rattle.std.proofs.lemmas.Option.{none-some, same_Some}
use Rattle.pil_ast.specs.Term.{Term, Namespace, bus}
use Rattle.pil_ast.specs.Columns.{Columns}
use Rattle.pil_ast.specs.Value.{value_in}
use Rattle.pil_ast.specs.Holds.{AsOften, Holds, sent, all_sent, row_sent, times}
use Rattle.pil_laws.proofs.Sent.{unsent}
use Rattle.pil_laws.proofs.Table.{sent-laws}
use Rattle.fixed_cols.specs.declared.sizes.Sizes.{Sizes}
use Rattle.machine_text.specs.Words.{rows_with}
use Rattle.machine_text.specs.Machine.{machine, main_rows}
use Rattle.machine_text.specs.Main
use Rattle.machine_text.specs.Binary
use Rattle.machine_text.specs.Shift
use Rattle.machine_text.specs.Arith
use Rattle.machine_text.specs.Align
use Rattle.rv_word.specs.Numbers.{op_number}
use Rattle.rv_model.specs.Image.{Img, IsLoadable}
use Rattle.rv_model.specs.Run.{RunsTo}
use Rattle.rv_model.specs.declared.answer.Public.{Public}
use Rattle.zk_layout.specs.Air.{air_number, air_of}
use Rattle.zk_layout.specs.declared.air.Air.TheVariants as airs
use Rattle.min_trace.specs.Record.{record_at, records_between}
use Rattle.min_trace.specs.declared.record.StepRecord.{StepRecord}
use Rattle.planner.specs.Rows.{has_row}
use Rattle.mem_rows.specs.Accesses.{of_step, of_steps}
use Rattle.air_main.specs.Law.{Meets}
use Rattle.air_mem.specs.Access.{memory_tuple}
use Rattle.main_run.specs.Stands.{AirsStand}
use Rattle.run_lines.specs.Rows.{AreRunOf}
use Rattle.run_lines.proofs.Below.{Laws}
use Rattle.run_lines.proofs.Known.{IsKnown, IsStepOf, all_steps, known}
use Rattle.run_lines.proofs.Lists.{value_there, value_past, map_pieces, regroup, sends_all}
use Rattle.run_lines.proofs.Held.{main_held, main_of, main_room}
use Rattle.run_lines.proofs.Airs.{operation_of, access_of, one, piece, binary_sends, shift_sends, arith_sends, align_sends}
use Rattle.run_lines.proofs.Slots.{limbed, tuples_of, first_read, second_read, memory_read, memory_write, register_write, in_slots, is_off, first_off, first_list, second_list, old_list, new_list, put_list, HasStep, first_sent, second_sent, old_sent, new_sent, put_sent, operation_sent, access_sent}

-- ---- each operation is one air's
in_one : (p q s : Bool) (ts : List (List ℕ)) → ts ++ [] ≡ cond (air_number (if p then airs.Binary else if q then airs.Shift else if s then airs.Arith else airs.Binary) == air_number airs.Binary) ts []
    ++ (cond (air_number (if p then airs.Binary else if q then airs.Shift else if s then airs.Arith else airs.Binary) == air_number airs.Shift) ts []
    ++ (cond (air_number (if p then airs.Binary else if q then airs.Shift else if s then airs.Arith else airs.Binary) == air_number airs.Arith) ts [] ++ []))
unfolding air_number
in_one true q s ts = refl
in_one false true s ts = refl
in_one false false true ts = refl
in_one false false false ts = refl

in_one_air : (x : StepRecord) (ts : List (List ℕ)) → ts ++ [] ≡ cond (has_row airs.Binary x) ts [] ++ (cond (has_row airs.Shift x) ts [] ++ (cond (has_row airs.Arith x) ts [] ++ []))
unfolding has_row air_of
in_one_air x ts = in_one (nat_le (op_number x.op) 10) (nat_le (op_number x.op) 16) (nat_le (op_number x.op) 29) ts

module _ (laws : Laws) (image : Img) (n : ℕ) (public : Public) (sizes : Sizes) (c : Columns) (loadable : IsLoadable image) (few : n < 2 ^ 32) (run : RunsTo image n public) (are : AreRunOf image n public sizes c) where
  abbrev ns : List Namespace
  ns = machine sizes.profile

  abbrev rs : List StepRecord
  rs = records_between image 0 n

  pub stands : AirsStand image sizes.profile c
  stands = laws.stands image sizes c are.machine

  known_of : (x : StepRecord) → IsStepOf image n x → IsKnown n x
  known_of = known laws.steps image n public loadable run

  pub all_known : All (IsKnown n) rs
  all_known = All-weaker (IsStepOf image n) (IsKnown n) known_of rs (all_steps laws.steps image n public loadable run)

  -- ---- the rows of Main
  pub filled : ((i r : ℕ) → i < c.instances 6 → r < c.rows 6 → Meets ns c i r) × Holds ns c (bus (Main.leaves ∷ []) (Main.enters ∷ []))
  filled = laws.main.filled ns c (main_rows sizes.profile) image n public stands.main stands.main_constants loadable run (main_room image n public sizes c are) (main_of image n public sizes c are)

  module _ (i r : ℕ) (hi : i < c.instances 6) (hr : r < c.rows 6) where
    abbrev place : ℕ
    place = i * c.rows 6 + r

    abbrev x : StepRecord
    x = record_at image place

    numbered : c.at 6 i 0 r ≡ x.step
    unfolding record_at
    numbered = stands.main_constants.is_step i r hi hr

    step_there : place < n → HasStep sizes.profile c i r n x
    step_there l = record {
      known = known_of x (record { number = place; below = l; is = refl });
      sends = laws.main.sends ns c (main_rows sizes.profile) image n public stands.main stands.main_constants loadable run (main_room image n public sizes c are) (main_of image n public sizes c are) i r hi hr l;
      row = (main_of image n public sizes c are).row i r hi hr l;
      numbered = numbered;
    }

    unselected : n ≤ place → c.at 6 i 8 r ≡ 0
    unselected l = (main_of image n public sizes c are).padding i r hi hr l 0 (omega arith)

  -- what each step's row sends, all rows send
  sent_of : (e : Term) (es : List Term) (f : StepRecord → List (List ℕ)) → ((i r : ℕ) → c.at 6 i 8 r ≡ 0 → value_in ns c 6 i r e ≡ 0)
      → ((i r : ℕ) (hi : i < c.instances 6) (hr : r < c.rows 6) → i * c.rows 6 + r < n → row_sent ns c (rows_with 6 e es) i r ≡ f (record_at image (i * c.rows 6 + r))) → sent ns c (rows_with 6 e es) ≡ flat_map f rs
  sent_of e es f off on =
      sent-laws ns c f rs (rows_with 6 e es) (main_held image n public sizes c are).room
      (λ i r x hi hr z. some i r x hi hr z (cases_lt (i * c.rows 6 + r) n))
      (λ i r hi hr z. none i r hi hr z (cases_lt (i * c.rows 6 + r) n))
    where
      some : (i r : ℕ) (x : StepRecord) (hi : i < c.instances 6) (hr : r < c.rows 6) → slice_get rs (i * c.rows 6 + r) ≡ Some x → (i * c.rows 6 + r < n) ⊎ (n ≤ i * c.rows 6 + r) → row_sent ns c (rows_with 6 e es) i r ≡ f x
      some i r x hi hr z (inl l) = on i r hi hr l ∙ ap f (same_Some _ x (sym (value_there (record_at image) n (i * c.rows 6 + r) l) ∙ z))
      some i r x hi hr z (inr l) = absurd (none-some x (sym (value_past (record_at image) n (i * c.rows 6 + r) l) ∙ z))

      none : (i r : ℕ) (hi : i < c.instances 6) (hr : r < c.rows 6) → slice_get rs (i * c.rows 6 + r) ≡ None → (i * c.rows 6 + r < n) ⊎ (n ≤ i * c.rows 6 + r) → row_sent ns c (rows_with 6 e es) i r ≡ []
      none i r hi hr z (inl l) = absurd (none-some _ (sym z ∙ value_there (record_at image) n (i * c.rows 6 + r) l))
      none i r hi hr z (inr l) = unsent ns c (rows_with 6 e es) i r (is_off _ (off i r (unselected i r hi hr l)))

  first_is : sent ns c first_list ≡ flat_map first_read rs
  first_is = sent_of _ _ first_read (λ i r z. z)
      (λ i r hi hr l. first_sent sizes.profile c i r n few (x i r hi hr) (step_there i r hi hr l))

  second_is : sent ns c second_list ≡ flat_map second_read rs
  second_is = sent_of _ _ second_read (λ i r z. z)
      (λ i r hi hr l. second_sent sizes.profile c i r n few (x i r hi hr) (step_there i r hi hr l))

  old_is : sent ns c old_list ≡ flat_map memory_read rs
  old_is = sent_of _ _ memory_read (λ i r z. first_off _ _ z)
      (λ i r hi hr l. old_sent sizes.profile c i r n few (x i r hi hr) (step_there i r hi hr l))

  new_is : sent ns c new_list ≡ flat_map memory_write rs
  new_is = sent_of _ _ memory_write (λ i r z. first_off _ _ z)
      (λ i r hi hr l. new_sent sizes.profile c i r n few (x i r hi hr) (step_there i r hi hr l))

  put_is : sent ns c put_list ≡ flat_map register_write rs
  put_is = sent_of _ _ register_write (λ i r z. first_off _ _ z)
      (λ i r hi hr l. put_sent sizes.profile c i r n few (x i r hi hr) (step_there i r hi hr l))

  operation_is : sent ns c Main.operation ≡ flat_map (one operation_of) rs
  operation_is = sent_of _ _ (one operation_of) (λ i r z. z)
      (λ i r hi hr l. operation_sent sizes.profile c i r n few (x i r hi hr) (step_there i r hi hr l))

  access_is : sent ns c Main.access ≡ flat_map (piece airs.Align access_of) rs
  access_is = sent_of _ _ (piece airs.Align access_of) (λ i r z. first_off _ _ z)
      (λ i r hi hr l. access_sent sizes.profile c i r n few (x i r hi hr) (step_there i r hi hr l))

  -- ---- the lines
  abbrev air_pieces : List (StepRecord → List (List ℕ))
  air_pieces = piece airs.Binary operation_of ∷ piece airs.Shift operation_of ∷ piece airs.Arith operation_of ∷ []

  pub operations_line : Holds ns c (bus (Main.operation ∷ []) (Binary.operation ∷ Shift.operation ∷ Arith.operation ∷ []))
  operations_line t =
      ap (times t) (sends_all ns c rs (Main.operation ∷ []) (one operation_of ∷ []) (operation_is, tt))
      ∙ regroup (IsKnown n) (one operation_of ∷ []) air_pieces (λ x h. in_one_air x (one operation_of x)) rs all_known t
      ∙ sym (ap (times t) (sends_all ns c rs (Binary.operation ∷ Shift.operation ∷ Arith.operation ∷ []) air_pieces
      (binary_sends laws.airs image n public sizes c are stands all_known, (shift_sends laws.airs image n public sizes c are stands all_known, (arith_sends laws.airs image n public sizes c are stands all_known, tt)))))

  pub access_line : Holds ns c (bus (Main.access ∷ []) (Align.access ∷ []))
  access_line t =
      ap (times t) (sends_all ns c rs (Main.access ∷ []) (piece airs.Align access_of ∷ []) (access_is, tt)
      ∙ sym (sends_all ns c rs (Align.access ∷ []) (piece airs.Align access_of ∷ []) (align_sends laws.airs image n public sizes c are stands all_known, tt)))

  abbrev slots : List (StepRecord → List (List ℕ))
  slots = first_read ∷ second_read ∷ memory_read ∷ memory_write ∷ register_write ∷ []

  -- what Main sends to memory are the accesses of the steps
  pub accesses_sent : AsOften (all_sent ns c Main.accesses) (map memory_tuple (map limbed (of_steps rs)))
  accesses_sent t =
      ap (times t) (sends_all ns c rs Main.accesses slots (first_is, (second_is, (old_is, (new_is, (put_is, tt))))))
      ∙ regroup (IsKnown n) slots ((λ x. tuples_of (of_step x)) ∷ []) (λ x h. in_slots x ∙ sym (append-nil (tuples_of (of_step x)))) rs all_known t
      ∙ ap (times t) (append-nil (flat_map (λ x. tuples_of (of_step x)) rs) ∙ sym (ap (map memory_tuple) (map_pieces limbed of_step rs) ∙ map_pieces memory_tuple (λ x. map limbed (of_step x)) rs))
