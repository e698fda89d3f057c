-- The row of a step meets Main's lines.
use Rattle.std.proofs.Common.{ℕ, ℤ, Bool, true, false, not, ◌≡◌, ◌≢◌, ◌<◌, ◌≤◌, ◌+◌, ◌*◌, ◌/◌, ◌%◌, ◌^◌, ◌++◌, inl, inr, ◌⊎◌, List, [], ◌∷◌, map, None, Some, refl, sym, ap, subst, ◌∙◌, arith}
use Rattle.std.specs.Prelude.{if◌then◌else◌, ◌==◌}
use Rattle.std.proofs.lemmas.Bool.{cases_eq, eqb-true}
use Rattle.pil_ast.specs.Term.{Term, Namespace, Tuples, num, ◌⊖◌, ◌⊗◌, item_at}
use Rattle.pil_ast.specs.Columns.{Columns}
use Rattle.pil_ast.specs.Value.{around, row_after, value}
use Rattle.pil_ast.specs.Holds.{sent, tuple}
use Rattle.pil_exact.specs.Row.{Says}
use Rattle.pil_exact.proofs.Row.{Fact, is, most, AllMeet, meet_both, row_at, knowing, rows_at, both, all_hold}
use Rattle.pil_exact.proofs.Small.{AllTables}
use Rattle.pil_laws.proofs.Sent.{into_sent}
use Rattle.pil_exact.proofs.Follows.{all_told, Rest}
use Rattle.machine_text.specs.Main
use Rattle.machine_text.specs.Main.{items}
use Rattle.machine_text.specs.Rom
use Rattle.rv_word.specs.declared.instr.Cond.{Cond}
use Rattle.rv_word.specs.declared.instr.Kind.{Kind}
use Rattle.rv_word.specs.declared.instr.Instr.{Instr}
use Rattle.rv_word.specs.declared.instr.Instr.TheVariants.{Lui, Auipc, Jal, Jalr, Branch, Load, Store, OpImm, Op, Fence, Ecall, Ebreak}
use Rattle.rv_model.specs.Image.{Img}
use Rattle.rv_model.specs.Run.{state_at, step_at}
use Rattle.rv_model.specs.Op.{flag_of, bits_of}
use Rattle.rv_model.specs.State.{State, Answer, Next, Halt, executed, operand, wrapped, reg, next, jump, is_taken}
use Rattle.min_trace.specs.Operands.{rs1_of, op_of, uw_of, compared_by}
use Rattle.min_trace.specs.Record.{record_at}
use Rattle.min_trace.specs.declared.record.StepRecord.{StepRecord}
use Rattle.step_rows.specs.Words.{low, high, one_if}
use Rattle.step_rows.specs.Rom.{target, rom_row, cells, turned}
use Rattle.step_rows.specs.declared.rom_row.RomRow.{RomRow}
use Rattle.step_rows.specs.Tuples.{op_tuple}
use Rattle.step_rows.specs.MainRow.{main_row, of_access}
use Rattle.rv_word.specs.Numbers.{op_number, kind_number}
use Rattle.min_trace.specs.Laws.{value_in}
use Rattle.air_main.specs.Law.{HasMain, Meets, RowConstants, at_row}
use Rattle.air_main.specs.Rows.{HasRow, SendsAccess, Sends, MainSends, IsRow, StandsAt, MainComplete, MainPadding}
use Rattle.air_main.proofs.Rom.{RowOf}
use Rattle.air_main.proofs.Recorded.{recorded, Ends, Stepped, stepped, step_is, record_is, ends_as}
use Rattle.air_main.proofs.Decoded.{Ranges, ImmFits, decoded_as}
use Rattle.air_main.proofs.Fields.{nth, row_of, row_pc, Small, row_small, low_below, high_below, one_le}
use Rattle.air_main.proofs.Table.{listed, listed_is, tail, Found, found_in}
use Rattle.air_main.proofs.Moves.{taken_is}
use Rattle.air_main.proofs.Facts.{limb, flags, always, moves, Known, b_read, b_constant, ld_on, st_on, go_on, go_off, to_next, to_jump, to_register', to_taken, to_taken', to_passed, to_passed', ms_off, w_is, v_result, v_link, v_loaded, whole_first, low_first}
use Rattle.air_main.proofs.Selected.{set_to}
use Rattle.air_main.proofs.Outcomes.{pc_of, no_halt, halted, not_on, jumps, jump_on, loads, stores, load_on, store_on, branch_on, target_as, on_4, jump_sum, register_sum, register_high, rest_bit, address_high, address_sum, address_bounds, sum_is, low_93, high_93, no_fault}

pub tables : AllTables items
tables = assumption

below_le : (x : ℕ) → x < 2 ^ 32 → x ≤ 4294967295
below_le x h = omega arith

bit_is : (x : ℕ) → x ≤ 1 → (x ≡ 0) ⊎ (x ≡ 1)
bit_is x h = elim (cases_eq x 0) [ inl z ↦ inl z | inr z ↦ inr (set x h z) ]
  where
    set : (x : ℕ) → x ≤ 1 → (x ≡ 0 → ⊥) → x ≡ 1
    set x h z = omega arith

not_one : (x : ℕ) → x ≡ 0 → x ≢ 1
not_one x h z = omega arith

none_some : {A : Type 0} (a : A) → Some a ≡ None → ⊥
none_some a h = absurd cc

zero_unless : (x : ℕ) → (x ≢ 0 → ⊥) → x ≡ 0
zero_unless x h = elim (cases_eq x 0) [ inl z ↦ z | inr z ↦ absurd (h z) ]

same_product : (l a b : ℕ) → (l ≢ 0 → a ≡ b) → l * a ≡ l * b
same_product l a b h = elim (cases_eq l 0) [ inl z ↦ ap (λ z. z * a) z ∙ (nothing a b ∙ ap (λ z. z * b) (sym z)) | inr z ↦ ap (λ z. l * z) (h z) ]
  where
    nothing : (a b : ℕ) → 0 * a ≡ 0 * b
    nothing a b = omega arith

le_same : (a b m : ℕ) → a ≡ b → b ≤ m → a ≤ m
le_same a b m h l = omega arith

module _ (ns : List Namespace) (c : Columns) (n : ℕ) (image : Img) (ranges : Ranges) (i r : ℕ) (has : HasMain ns c n image) (fixed : RowConstants ns c i r) where
  abbrev at : ℕ → ℕ
  at k = c.at 6 i k r

  abbrev after : ℕ → ℕ
  after k = c.at 6 i k (row_after (c.rows 6) r)

  finish : (es fs : List (ℕ × Fact)) → AllMeet es at → AllMeet fs after → Rest items (around ns c 6 i r) 6 (both es fs) (sent ns c) items → Meets ns c i r
  finish es fs h k rest = all_hold ns c 6 i r (Main.space n) has.main items refl (all_told ns c has.tables (rows_at items ns c 6 i r es fs has.canonical h k) items tables rest)

  padding : at 3 ≡ 0 → (at 2 ≢ 1 → after 8 ≡ 0) → at 8 ≡ 0 → Meets ns c i r
  padding first on z =
      elim (bit_is _ fixed.last) [
        | inl l ↦ finish ((8, is 0) ∷ (3, is 0) ∷ (2, is 0) ∷ []) ((8, is 0) ∷ []) (z, (first, (l, tt))) (on (not_one _ l), tt) tt
        | inr l ↦ finish ((8, is 0) ∷ (3, is 0) ∷ (2, is 1) ∷ []) [] (z, (first, (l, tt))) tt tt
      ]

  -- line 3, and line 8
  module _ (line_3 : at 3 * at 9 ≡ at 3 * at 7) (line_8 : Says items (around ns c 6 i r) (sent ns c) (item_at items 61)) where
    abbrev facts : ℕ → ℕ → ℕ → ℕ → ℕ → ℕ → ℕ → List (ℕ × Fact)
    facts bi ld st jr jp br halt = flags bi ld st jr jp br halt ++ always

    abbrev constants : List (ℕ × Fact)
    constants = (3, most 1) ∷ (7, most limb) ∷ []

    constants_meet : AllMeet constants at
    constants_meet = (fixed.first, (below_le _ fixed.entry, tt))

    -- a row that goes on is the last of its instance, or P holds of the next
    abbrev Next' : Type 0 → Type 0
    Next' P = (at 6 ≡ 0) × ((at 2 ≡ 1) ⊎ ((at 2 ≡ 0) × (after 8 ≡ 1) × (after 9 ≤ limb) × P))

    abbrev last : List (ℕ × Fact) → List (ℕ × Fact)
    last es = (2, is 1) ∷ (6, is 0) ∷ constants ++ es

    abbrev inner : List (ℕ × Fact) → List (ℕ × Fact)
    inner es = (2, is 0) ∷ (6, is 0) ∷ constants ++ es

    abbrev onward' : List (ℕ × Fact)
    onward' = (8, is 1) ∷ (9, most limb) ∷ []

    -- what is left to be shown of the last row of an instance, and of another row
    abbrev AtLast : List (ℕ × Fact) → Type 0
    AtLast es = Rest items (around ns c 6 i r) 6 (both (last es) []) (sent ns c) items

    abbrev Inside : List (ℕ × Fact) → Type 0
    Inside es = Rest items (around ns c 6 i r) 6 (both (inner es) onward') (sent ns c) items

    on_going : {P : Type 0} (es : List (ℕ × Fact)) → AllMeet es at → Next' P → AtLast es → (P → Inside es) → Meets ns c i r
    on_going es h z p q =
        elim z.1 [
          | inl l ↦ finish (last es) [] (l, (z.0, meet_both constants es at constants_meet h)) tt p
          | inr l ↦ finish (inner es) onward' (l.0, (z.0, meet_both constants es at constants_meet h)) (l.1, (l.2, tt)) (q l.3)
        ]

    abbrev Meet : List (ℕ × Fact) → Type 0
    Meet es = AllMeet es at

    l3 : (at 3 * at 9 ≡ at 3 * at 7) × (true ≡ true)
    l3 = (line_3, refl)

    -- each kind of row
    constant : Meet (facts 1 0 0 0 0 0 0) → Next' (after 9 ≡ at 9 + 4) → Meets ns c i r
    constant h z = on_going (facts 1 0 0 0 0 0 0) h z (l3, (line_8, tt)) (λ e. (l3, ((e, refl), (line_8, tt))))

    register : Meet (facts 0 0 0 0 0 0 0) → Next' (after 9 ≡ at 9 + 4) → Meets ns c i r
    register h z = on_going (facts 0 0 0 0 0 0 0) h z (l3, (line_8, tt)) (λ e. (l3, ((e, refl), (line_8, tt))))

    jumping : Meet (facts 1 0 0 0 1 0 0) → Next' (after 9 + (at 9 + 4) ≡ at 9 + 4 + at 18) → Meets ns c i r
    jumping h z = on_going (facts 1 0 0 0 1 0 0) h z (l3, (line_8, tt)) (λ e. (l3, ((e, refl), (line_8, tt))))

    to_register : Meet ((37, most 1) ∷ (35, is 0) ∷ facts 1 0 0 1 0 0 0) → Next' (after 9 + (at 37 + at 9 + 4) ≡ at 9 + 4 + at 34) → Meets ns c i r
    to_register h z = on_going ((37, most 1) ∷ (35, is 0) ∷ facts 1 0 0 1 0 0 0) h z (l3, (line_8, tt)) (λ e. (l3, ((e, refl), (line_8, tt))))

    taken : Meet ((27, is 0) ∷ (36, is 1) ∷ facts 0 0 0 0 0 1 0) → Next' (after 9 + (at 9 + 4) ≡ at 9 + 4 + at 18) → Meets ns c i r
    taken h z = on_going ((27, is 0) ∷ (36, is 1) ∷ facts 0 0 0 0 0 1 0) h z (l3, (line_8, tt)) (λ e. (l3, ((e, refl), (line_8, tt))))

    taken' : Meet ((27, is 1) ∷ (36, is 0) ∷ facts 0 0 0 0 0 1 0) → Next' (after 9 + (at 9 + 4) ≡ at 9 + 4 + at 18) → Meets ns c i r
    taken' h z = on_going ((27, is 1) ∷ (36, is 0) ∷ facts 0 0 0 0 0 1 0) h z (l3, (line_8, tt)) (λ e. (l3, ((e, refl), (line_8, tt))))

    not_taken : Meet ((27, is 0) ∷ (36, is 0) ∷ facts 0 0 0 0 0 1 0) → Next' (after 9 ≡ at 9 + 4) → Meets ns c i r
    not_taken h z = on_going ((27, is 0) ∷ (36, is 0) ∷ facts 0 0 0 0 0 1 0) h z (l3, (line_8, tt)) (λ e. (l3, ((e, refl), (line_8, tt))))

    not_taken' : Meet ((27, is 1) ∷ (36, is 1) ∷ facts 0 0 0 0 0 1 0) → Next' (after 9 ≡ at 9 + 4) → Meets ns c i r
    not_taken' h z = on_going ((27, is 1) ∷ (36, is 1) ∷ facts 0 0 0 0 0 1 0) h z (l3, (line_8, tt)) (λ e. (l3, ((e, refl), (line_8, tt))))

    abbrev moved : List (ℕ × Fact)
    moved = (38, most 65535) ∷ (39, most 8191) ∷ (40, most 7) ∷ (35, is 0) ∷ []

    abbrev Address : Type 0
    Address = at 34 ≡ 8 * (at 38 + 65536 * at 39) + at 40

    loading : Meet (moved ++ facts 1 1 0 0 0 0 0) → Address → Next' (after 9 ≡ at 9 + 4) → Meets ns c i r
    loading h a z = on_going (moved ++ facts 1 1 0 0 0 0 0) h z (l3, (line_8, ((a, refl), tt))) (λ e. (l3, ((e, refl), (line_8, ((a, refl), tt)))))

    storing : Meet (moved ++ facts 1 0 1 0 0 0 0) → Address → Next' (after 9 ≡ at 9 + 4) → Meets ns c i r
    storing h a z = on_going (moved ++ facts 1 0 1 0 0 0 0) h z (l3, (line_8, ((a, refl), tt))) (λ e. (l3, ((e, refl), (line_8, ((a, refl), tt)))))

    abbrev halt_facts : List (ℕ × Fact)
    halt_facts = (6, most 1) ∷ constants ++ ((30, is 93) ∷ (31, is 0) ∷ facts 1 0 0 0 0 0 1)

    halting : Meet ((30, is 93) ∷ (31, is 0) ∷ facts 1 0 0 0 0 0 1) → (at 2 ≢ 1 → after 8 ≡ 0) → Meets ns c i r
    halting h on =
        elim (bit_is _ fixed.last) [
          | inl l ↦ finish ((2, is 0) ∷ halt_facts) ((8, is 0) ∷ []) (l, (fixed.end, meet_both constants ((30, is 93) ∷ (31, is 0) ∷ facts 1 0 0 0 0 0 1) at constants_meet h)) (on (not_one _ l), tt) (l3, (line_8, tt))
          | inr l ↦ finish ((2, is 1) ∷ halt_facts) [] (l, (fixed.end, meet_both constants ((30, is 93) ∷ (31, is 0) ∷ facts 1 0 0 0 0 0 1) at constants_meet h)) tt (l3, (line_8, tt))
        ]

pub main_padding : Ranges → MainPadding
main_padding ranges ns c n image i r has fixed first on z = padding ns c n image ranges i r has fixed first on z

pub pc_le : (a b : ℕ) → a ≡ b → b < 2 ^ 32 → a ≤ limb
pc_le a b h l = omega arith

le_low : (a v : ℕ) → a ≡ low v → a ≤ limb
le_low a v h = le_same _ _ _ h (low_below v)

le_high : (a v : ℕ) → a ≡ high v → v < 2 ^ 64 → a ≤ limb
le_high a v h l = le_same _ _ _ h (high_below v l)

low_is : (v : ℕ) → low v ≡ v % 2 ^ 32
unfolding low
low_is v = refl

high_is : (v : ℕ) → high v ≡ v / 2 ^ 32
unfolding high
high_is v = refl

low_low : (v : ℕ) → low v ≡ v % 2 ^ 32 % 2 ^ 32
unfolding low
low_low v = omega arith

low_high : (v : ℕ) → 0 ≡ v % 2 ^ 32 / 2 ^ 32
low_high v = omega arith

low_0 : 0 ≡ low 0
unfolding low
low_0 = refl

high_0 : 0 ≡ high 0
unfolding high
high_0 = refl

few_le : (x : ℕ) → x ≤ 8191 → x ≤ 65535
few_le x h = omega arith

index_is : (wl wh v : ℕ) → wl ≡ v / 8 % 2 ^ 16 → wh ≡ v / 8 / 2 ^ 16 → wl + 65536 * wh ≡ v / 8
index_is wl wh v h k = omega arith

eight : {a b c d e f g h A B C D E F G H : ℕ} → a ≡ A → b ≡ B → c ≡ C → d ≡ D → e ≡ E → f ≡ F → g ≡ G → h ≡ H → a ∷ b ∷ c ∷ d ∷ e ∷ f ∷ g ∷ h ∷ [] ≡ A ∷ B ∷ C ∷ D ∷ E ∷ F ∷ G ∷ H ∷ []
eight a b c d e f g h = λ j. a j ∷ b j ∷ c j ∷ d j ∷ e j ∷ f j ∷ g j ∷ h j ∷ []

op_as : (pc : ℕ) (k : Instr) → (rom_row pc k).op ≡ op_number (op_of k)
op_as pc (Lui rd imm) = refl
op_as pc (Auipc rd imm) = refl
op_as pc (Jal rd imm) = refl
op_as pc (Jalr rd rs1 imm) = refl
op_as pc (Branch b rs1 rs2 imm) = refl
op_as pc (Load k rd rs1 imm) = refl
op_as pc (Store k rs1 rs2 imm) = refl
op_as pc (OpImm o rd rs1 imm uw) = refl
op_as pc (Op o rd rs1 rs2 uw) = refl
op_as pc Fence = refl
op_as pc Ecall = refl
op_as pc Ebreak = refl

uw_as : (pc : ℕ) (k : Instr) → (rom_row pc k).uw ≡ one_if (uw_of k)
uw_as pc (Lui rd imm) = refl
uw_as pc (Auipc rd imm) = refl
uw_as pc (Jal rd imm) = refl
uw_as pc (Jalr rd rs1 imm) = refl
uw_as pc (Branch b rs1 rs2 imm) = refl
uw_as pc (Load k rd rs1 imm) = refl
uw_as pc (Store k rs1 rs2 imm) = refl
uw_as pc (OpImm o rd rs1 imm uw) = refl
uw_as pc (Op o rd rs1 rs2 uw) = refl
uw_as pc Fence = refl
uw_as pc Ecall = refl
uw_as pc Ebreak = refl

cancelled : (a b d e : ℕ) → a + b ≡ b + d → d ≡ e → a ≡ e
cancelled a b d e h k = omega arith

-- the lowest bit of a register's target is no more than its low limb
bit_le : (bit lo v : ℕ) → bit ≡ v % 2 → lo ≡ low v → bit ≤ lo
unfolding low
bit_le bit lo v h k = omega arith

register_leads : (a bit q lo v p : ℕ) → bit ≡ v % 2 → lo ≡ low v → v / 2 * 2 ≡ p → p < 2 ^ 32 → a + (bit + q + 4) ≡ q + 4 + lo → a ≡ p
unfolding low
register_leads a bit q lo v p h k e l s = omega arith

module _ (ns : List Namespace) (c : Columns) (n : ℕ) (image : Img) (ranges : Ranges) (i r : ℕ) (has : HasMain ns c n image) (number : ℕ) (s : State) (below : s.pc < 2 ^ 32) where
  abbrev cell : ℕ → ℕ
  cell k = c.at 6 i k r

  abbrev ahead : ℕ → ℕ
  ahead k = c.at 6 i k (row_after (c.rows 6) r)

  -- what is supposed of the row of an instruction with this answer
  record Setting (k : Instr) (answer : Answer) : Type 0 where
    found : Found c (rom_row s.pc k)
    fits : ImmFits k
    stands : StandsAt ns c i r (recorded number k s answer)
    a_fits : reg s (rs1_of k) < 2 ^ 64
    s_fits : (recorded number k s answer).s < 2 ^ 64
    c_fits : (recorded number k s answer).c < 2 ^ 64
    row : IsRow c i r (main_row (recorded number k s answer))

  module _ (k : Instr) (answer : Answer) (x : Setting k answer) where
    values : listed cell 8 37 ≡ main_row (recorded number k s answer)
    values = listed_is cell 8 (main_row (recorded number k s answer)) x.row

    -- the column with number 8 + j
    column : (j : ℕ) → nth (listed cell 8 37) j ≡ nth (main_row (recorded number k s answer)) j
    column j = ap (λ t. nth t j) values

    abbrev R : RomRow
    R = row_of (listed cell 9 21)

    R_is : R ≡ rom_row s.pc k
    R_is = ap (λ t. row_of (tail t)) values

    pc_is : cell 9 ≡ s.pc
    pc_is = ap (λ z. z.pc) R_is ∙ row_pc s.pc k

    within : AllMeet always cell
    within =
        let b = subst (λ q. Small q) (sym R_is) (row_small s.pc k x.fits) in
        (pc_le _ _ pc_is below, (b.ilo, (b.ihi, (b.klo, (b.khi, (b.jt, (b.inv, (b.uw, (le_low _ _ (column 22), (le_high _ _ (column 23) x.a_fits, (le_low _ _ (column 24), (le_high _ _ (column 25) x.s_fits, (le_low _ _ (column 26), (le_high _ _ (column 27) x.c_fits, (le_same _ _ _ (column 28) (one_le _), tt)))))))))))))))

    met : (q : RomRow) → R ≡ q → AllMeet (flags q.bi q.ld q.st q.jr q.jp q.br q.halt ++ always) cell
    met q e = meet_both (flags q.bi q.ld q.st q.jr q.jp q.br q.halt) always cell (column 0, (ap (λ z. z.bi) e, (ap (λ z. z.ld) e, (ap (λ z. z.st) e, (ap (λ z. z.jr) e, (ap (λ z. z.jp) e, (ap (λ z. z.br) e, (ap (λ z. z.halt) e, tt)))))))) within

    line_3 : cell 3 * cell 9 ≡ cell 3 * cell 7
    line_3 = same_product (cell 3) (cell 9) (cell 7) (λ z. pc_is ∙ x.stands.begins z)

    line_8 : Says items (around ns c 6 i r) (sent ns c) (item_at items 61)
    line_8 =
        let f = x.found in
        λ _. into_sent ns c Rom.instruction (listed cell 9 21) (record {
          instance = f.instance;
          row = f.place;
          is_instance = f.is_instance;
          is_row = f.is_place;
          is_selected = set_to _ (ap (λ t. nth t 0) f.is);
          is_tuple = ap tail f.is ∙ sym (ap cells R_is);
        })

  module _ (k : Instr) (t : State) (x : Setting k (Next t)) (l : t.pc < 2 ^ 32) where
    -- a row that goes on, where P follows of the next row's pc
    go : (P : Type 0) → (ahead 9 ≡ t.pc → P) → (cell 6 ≡ 0) × ((cell 2 ≡ 1) ⊎ ((cell 2 ≡ 0) × (ahead 8 ≡ 1) × (ahead 9 ≤ limb) × P))
    go P f = (zero_unless _ (λ z. none_some _ (x.stands.ends z)), by (bit_is _ x.stands.constants.last))
      where
        by : (cell 2 ≡ 0) ⊎ (cell 2 ≡ 1) → (cell 2 ≡ 1) ⊎ ((cell 2 ≡ 0) × (ahead 8 ≡ 1) × (ahead 9 ≤ limb) × P)
        by (inl z) = let g = x.stands.goes_on (not_one _ z) in inr (z, g.0, pc_le _ _ g.1 l, f g.1)
        by (inr z) = inl z

    plainly : wrapped (s.pc + 4) ≡ t.pc → (cell 6 ≡ 0) × ((cell 2 ≡ 1) ⊎ ((cell 2 ≡ 0) × (ahead 8 ≡ 1) × (ahead 9 ≤ limb) × (ahead 9 ≡ cell 9 + 4)))
    plainly h = go _ (λ e. on_4 _ _ _ _ (pc_is _ _ x) below h e)

    to_jt : (imm : ℤ) → cell 18 ≡ target s.pc imm → wrapped (s.pc + bits_of imm) % 4 ≡ 0 → wrapped (s.pc + bits_of imm) ≡ t.pc → (cell 6 ≡ 0) × ((cell 2 ≡ 1) ⊎ ((cell 2 ≡ 0) × (ahead 8 ≡ 1) × (ahead 9 ≤ limb) × (ahead 9 + (cell 9 + 4) ≡ cell 9 + 4 + cell 18)))
    to_jt imm j m e = go _ (λ p. jump_sum _ _ _ _ p (j ∙ target_as s.pc imm t.pc m e l))

  module _ (b : Cond) (rs1 rs2 : ℕ) (imm : ℤ) (t : State) (x : Setting (Branch b rs1 rs2 imm) (Next t)) (l : t.pc < 2 ^ 32) where
    abbrev F : ℕ
    F = one_if (flag_of (compared_by b) (reg s rs1) (reg s rs2))

    abbrev k : Instr
    k = Branch b rs1 rs2 imm

    met_branch : AllMeet (flags 0 0 0 0 0 1 0 ++ always) cell
    met_branch = met k (Next t) x _ (R_is k (Next t) x)

    inv_is : cell 27 ≡ turned b
    inv_is = ap (λ z. z.inv) (R_is k (Next t) x)

    jt_is : cell 18 ≡ target s.pc imm
    jt_is = ap (λ z. z.jt) (R_is k (Next t) x)

    flag_is : cell 36 ≡ F
    flag_is = column k (Next t) x 28

    by_branch : (T : Bool) → ((turned b ≡ 0) × (F ≡ one_if T)) ⊎ ((turned b ≡ 1) × (F ≡ one_if (not T))) → (if T then jump s s.x (wrapped (s.pc + bits_of imm)) else next s) ≡ Next t → Meets ns c i r
    by_branch true (inl q) h =
        let j = jumps s _ _ t h in
        taken ns c n image ranges i r has x.stands.constants (line_3 _ _ x) (line_8 _ _ x) (inv_is ∙ q.0, (flag_is ∙ q.1, met_branch)) (to_jt _ t x l imm jt_is j.0 j.1)
    by_branch true (inr q) h =
        let j = jumps s _ _ t h in
        taken' ns c n image ranges i r has x.stands.constants (line_3 _ _ x) (line_8 _ _ x) (inv_is ∙ q.0, (flag_is ∙ q.1, met_branch)) (to_jt _ t x l imm jt_is j.0 j.1)
    by_branch false (inl q) h = not_taken ns c n image ranges i r has x.stands.constants (line_3 _ _ x) (line_8 _ _ x) (inv_is ∙ q.0, (flag_is ∙ q.1, met_branch)) (plainly _ t x l (ap pc_of h))
    by_branch false (inr q) h = not_taken' ns c n image ranges i r has x.stands.constants (line_3 _ _ x) (line_8 _ _ x) (inv_is ∙ q.0, (flag_is ∙ q.1, met_branch)) (plainly _ t x l (ap pc_of h))

  by_next : (k : Instr) (t : State) (x : Setting k (Next t)) → t.pc < 2 ^ 32 → executed k s ≡ Next t → Meets ns c i r
  by_next (Lui rd imm) t x l h = constant ns c n image ranges i r has x.stands.constants (line_3 _ _ x) (line_8 _ _ x) (met _ _ x _ (R_is _ _ x)) (plainly _ t x l (ap pc_of h))
  by_next (Auipc rd imm) t x l h = constant ns c n image ranges i r has x.stands.constants (line_3 _ _ x) (line_8 _ _ x) (met _ _ x _ (R_is _ _ x)) (plainly _ t x l (ap pc_of h))
  by_next (Jal rd imm) t x l h =
      let j = jumps s _ _ t h in
      jumping ns c n image ranges i r has x.stands.constants (line_3 _ _ x) (line_8 _ _ x) (met _ _ x _ (R_is _ _ x)) (to_jt _ t x l imm (ap (λ z. z.jt) (R_is _ _ x)) j.0 j.1)
  by_next (Jalr rd rs1 imm) t x l h =
      let j = jumps s _ _ t h in
      let k = Jalr rd rs1 imm in
      let v = wrapped (reg s rs1 + bits_of imm) in
      let lo : cell 34 ≡ low v = column k (Next t) x 26 ∙ ap low (sum_is (reg s rs1) (bits_of imm)) in
      let hi : cell 35 ≡ high v = column k (Next t) x 27 ∙ ap high (sum_is (reg s rs1) (bits_of imm)) in
      let bit : cell 37 ≡ v % 2 = column k (Next t) x 29 ∙ ap (λ z. z % 2) (sum_is (reg s rs1) (bits_of imm)) in
      to_register ns c n image ranges i r has x.stands.constants (line_3 k (Next t) x) (line_8 k (Next t) x) (rest_bit _ _ bit, (register_high _ v t.pc j.1 l hi, met k (Next t) x _ (R_is k (Next t) x))) (go k t x l _ (λ e. register_sum _ _ _ _ (cell 35) v t.pc e j.1 l bit lo))
  by_next (Branch b rs1 rs2 imm) t x l h = by_branch b rs1 rs2 imm t x l (is_taken b (reg s rs1) (reg s rs2)) (taken_is b (reg s rs1) (reg s rs2)) h
  by_next (Load q rd rs1 imm) t x l h =
      let k = Load q rd rs1 imm in
      let v = wrapped (reg s rs1 + bits_of imm) in
      let a = loads s q rd v t h in
      let lo : cell 34 ≡ low v = column k (Next t) x 26 ∙ ap low (sum_is (reg s rs1) (bits_of imm)) in
      let hi : cell 35 ≡ high v = column k (Next t) x 27 ∙ ap high (sum_is (reg s rs1) (bits_of imm)) in
      let wl : cell 38 ≡ v / 8 % 2 ^ 16 = column k (Next t) x 30 in
      let wh : cell 39 ≡ v / 8 / 2 ^ 16 = column k (Next t) x 31 in
      let off : cell 40 ≡ v % 8 = column k (Next t) x 32 in
      let m = address_bounds _ _ _ v a.0 wl wh off in
      loading ns c n image ranges i r has x.stands.constants (line_3 k (Next t) x) (line_8 k (Next t) x) (m.0, (m.1, (m.2, (address_high _ v a.0 hi, met k (Next t) x _ (R_is k (Next t) x))))) (address_sum _ _ _ _ v a.0 lo wl wh off) (plainly k t x l a.1)
  by_next (Store q rs1 rs2 imm) t x l h =
      let k = Store q rs1 rs2 imm in
      let v = wrapped (reg s rs1 + bits_of imm) in
      let a = stores s q v (reg s rs2) t h in
      let lo : cell 34 ≡ low v = column k (Next t) x 26 ∙ ap low (sum_is (reg s rs1) (bits_of imm)) in
      let hi : cell 35 ≡ high v = column k (Next t) x 27 ∙ ap high (sum_is (reg s rs1) (bits_of imm)) in
      let wl : cell 38 ≡ v / 8 % 2 ^ 16 = column k (Next t) x 30 in
      let wh : cell 39 ≡ v / 8 / 2 ^ 16 = column k (Next t) x 31 in
      let off : cell 40 ≡ v % 8 = column k (Next t) x 32 in
      let m = address_bounds _ _ _ v a.0 wl wh off in
      storing ns c n image ranges i r has x.stands.constants (line_3 k (Next t) x) (line_8 k (Next t) x) (m.0, (m.1, (m.2, (address_high _ v a.0 hi, met k (Next t) x _ (R_is k (Next t) x))))) (address_sum _ _ _ _ v a.0 lo wl wh off) (plainly k t x l a.1)
  by_next (OpImm o rd rs1 imm uw) t x l h = constant ns c n image ranges i r has x.stands.constants (line_3 _ _ x) (line_8 _ _ x) (met _ _ x _ (R_is _ _ x)) (plainly _ t x l (ap pc_of h))
  by_next (Op o rd rs1 rs2 uw) t x l h = register ns c n image ranges i r has x.stands.constants (line_3 _ _ x) (line_8 _ _ x) (met _ _ x _ (R_is _ _ x)) (plainly _ t x l (ap pc_of h))
  by_next Fence t x l h = constant ns c n image ranges i r has x.stands.constants (line_3 _ _ x) (line_8 _ _ x) (met _ _ x _ (R_is _ _ x)) (plainly _ t x l (ap pc_of h))
  by_next Ecall t x l h = absurd (not_on (reg s 17 == 93) _ t h)
  by_next Ebreak t x l h = absurd (not_on false _ t h)

  -- ECALL alone halts
  halts_only : (k : Instr) → executed k s ≡ Halt → Ecall ≡ k
  halts_only (Lui rd imm) h = absurd (no_halt _ h)
  halts_only (Auipc rd imm) h = absurd (no_halt _ h)
  halts_only (Jal rd imm) h = absurd (jump_on s _ _ h)
  halts_only (Jalr rd rs1 imm) h = absurd (jump_on s _ _ h)
  halts_only (Branch b rs1 rs2 imm) h = absurd (branch_on (is_taken b (reg s rs1) (reg s rs2)) s _ _ h)
  halts_only (Load q rd rs1 imm) h = absurd (load_on s q rd _ h)
  halts_only (Store q rs1 rs2 imm) h = absurd (store_on s q _ _ h)
  halts_only (OpImm o rd rs1 imm uw) h = absurd (no_halt _ h)
  halts_only (Op o rd rs1 rs2 uw) h = absurd (no_halt _ h)
  halts_only Fence h = absurd (no_halt _ h)
  halts_only Ecall h = refl
  halts_only Ebreak h = absurd (no_fault _ h)

  by_ecall : Setting Ecall Halt → executed Ecall s ≡ Halt → Meets ns c i r
  by_ecall x h =
      let e : reg s 17 ≡ 93 = eqb-true _ _ (halted (reg s 17 == 93) _ h) in
      halting ns c n image ranges i r has x.stands.constants (line_3 _ _ x) (line_8 _ _ x) (low_93 _ _ (column Ecall Halt x 22) e, (high_93 _ _ (column Ecall Halt x 23) e, met Ecall Halt x _ (R_is Ecall Halt x))) (λ z. x.stands.goes_on z)

  by_halt : (k : Instr) (x : Setting k Halt) → executed k s ≡ Halt → Meets ns c i r
  by_halt k x h = subst (λ k. Setting k Halt → executed k s ≡ Halt → Meets ns c i r) (halts_only k h) by_ecall x h

  -- what the row sends
  module _ (k : Instr) (answer : Answer) (x : Setting k answer) where
    abbrev value_at : Term → ℕ
    value_at e = value items (around ns c 6 i r) e

    kind_row : (q : RomRow) → R k answer x ≡ q → Known ns c i r (flags q.bi q.ld q.st q.jr q.jp q.br q.halt ++ always)
    kind_row q e = row_at items ns c 6 i r (flags q.bi q.ld q.st q.jr q.jp q.br q.halt ++ always) has.canonical (met k answer x q e)

    bare : Known ns c i r always
    bare = row_at items ns c 6 i r always has.canonical (within k answer x)

    abbrev step : StepRecord
    step = recorded number k s answer

    first_by : (u : Bool) → cell 29 ≡ one_if u → cell 30 ≡ low step.a → cell 31 ≡ high step.a → (cell 30 ≡ operand u step.a % 2 ^ 32) × (value_at ((num 1 ⊖ Main.uw) ⊗ Main.ahi) ≡ operand u step.a / 2 ^ 32)
    first_by false e lo hi = (lo ∙ low_is step.a, whole_first ns c i r (knowing ((29, is 0) ∷ []) (e, tt) bare) ∙ (hi ∙ high_is step.a))
    first_by true e lo hi = (lo ∙ low_low step.a, low_first ns c i r (knowing ((29, is 1) ∷ []) (e, tt) bare) ∙ low_high step.a)

  constant_is : (k : Instr) (answer : Answer) (x : Setting k answer) (b ld st jr jp br halt : ℕ) → Known ns c i r (flags 1 ld st jr jp br halt ++ always) → cell 14 ≡ low b → cell 15 ≡ high b → (value_at k answer x Main.blo ≡ low b) × (value_at k answer x Main.bhi ≡ high b)
  constant_is k answer x b ld st jr jp br halt row lo hi = let f = b_constant ns c i r 1 ld st jr jp br halt row in (f.0 ∙ lo, f.1 ∙ hi)

  b_is : (k : Instr) (answer : Answer) (x : Setting k answer) → (value_at k answer x Main.blo ≡ low (recorded number k s answer).b) × (value_at k answer x Main.bhi ≡ high (recorded number k s answer).b)
  b_is (Lui rd imm) a x = constant_is _ a x _ 0 0 0 0 0 0 (kind_row _ _ x _ (R_is _ _ x)) (ap (λ z. z.ilo) (R_is _ _ x)) (ap (λ z. z.ihi) (R_is _ _ x))
  b_is (Auipc rd imm) a x = constant_is _ a x _ 0 0 0 0 0 0 (kind_row _ _ x _ (R_is _ _ x)) (ap (λ z. z.ilo) (R_is _ _ x)) (ap (λ z. z.ihi) (R_is _ _ x))
  b_is (Jal rd imm) a x = constant_is _ a x _ 0 0 0 1 0 0 (kind_row _ _ x _ (R_is _ _ x)) (ap (λ z. z.ilo) (R_is _ _ x)) (ap (λ z. z.ihi) (R_is _ _ x))
  b_is (Jalr rd rs1 imm) a x = constant_is _ a x _ 0 0 1 0 0 0 (kind_row _ _ x _ (R_is _ _ x)) (ap (λ z. z.ilo) (R_is _ _ x)) (ap (λ z. z.ihi) (R_is _ _ x))
  b_is (Branch b rs1 rs2 imm) a x = let f = b_read ns c i r 0 0 0 0 0 1 0 (kind_row _ _ x _ (R_is _ _ x)) in (f.0 ∙ column _ _ x 24, f.1 ∙ column _ _ x 25)
  b_is (Load q rd rs1 imm) a x = constant_is _ a x _ 1 0 0 0 0 0 (kind_row _ _ x _ (R_is _ _ x)) (ap (λ z. z.ilo) (R_is _ _ x)) (ap (λ z. z.ihi) (R_is _ _ x))
  b_is (Store q rs1 rs2 imm) a x = constant_is _ a x _ 0 1 0 0 0 0 (kind_row _ _ x _ (R_is _ _ x)) (ap (λ z. z.ilo) (R_is _ _ x)) (ap (λ z. z.ihi) (R_is _ _ x))
  b_is (OpImm o rd rs1 imm uw) a x = constant_is _ a x _ 0 0 0 0 0 0 (kind_row _ _ x _ (R_is _ _ x)) (ap (λ z. z.ilo) (R_is _ _ x)) (ap (λ z. z.ihi) (R_is _ _ x))
  b_is (Op o rd rs1 rs2 uw) a x = let f = b_read ns c i r 0 0 0 0 0 0 0 (kind_row _ _ x _ (R_is _ _ x)) in (f.0 ∙ column _ _ x 24, f.1 ∙ column _ _ x 25)
  b_is Fence a x = constant_is _ a x 0 0 0 0 0 0 0 (kind_row _ _ x _ (R_is _ _ x)) (ap (λ z. z.ilo) (R_is _ _ x) ∙ low_0) (ap (λ z. z.ihi) (R_is _ _ x) ∙ high_0)
  b_is Ecall a x = constant_is _ a x 0 0 0 0 0 0 1 (kind_row _ _ x _ (R_is _ _ x)) (ap (λ z. z.ilo) (R_is _ _ x) ∙ low_0) (ap (λ z. z.ihi) (R_is _ _ x) ∙ high_0)
  b_is Ebreak a x = constant_is _ a x 0 0 0 0 0 0 0 (kind_row _ _ x _ (R_is _ _ x)) (ap (λ z. z.ilo) (R_is _ _ x) ∙ low_0) (ap (λ z. z.ihi) (R_is _ _ x) ∙ high_0)

  operation_is : (k : Instr) (answer : Answer) (x : Setting k answer) → tuple ns c 6 i r Main.operation.terms ≡ op_tuple (op_of k) (operand (uw_of k) (recorded number k s answer).a) (recorded number k s answer).b
  operation_is k answer x =
      let f = first_by k answer x (uw_of k) (ap (λ z. z.uw) (R_is k answer x) ∙ uw_as s.pc k) (column k answer x 22) (column k answer x 23) in
      let b = b_is k answer x in
      ap (λ n. map (value n.items (around ns c 6 i r)) Main.operation.terms) has.main
      ∙ eight (ap (λ z. z.op) (R_is k answer x) ∙ op_as s.pc k) f.0 f.1 (b.0 ∙ low_is _) (b.1 ∙ high_is _) (column k answer x 26 ∙ low_is _) (column k answer x 27 ∙ high_is _) (column k answer x 28)

  moving_is : (k : Instr) (answer : Answer) (x : Setting k answer) (es : List (ℕ × Fact)) (v : ℕ) (ms : ℕ) → Known ns c i r es → cell 38 ≡ v / 8 % 2 ^ 16 → cell 39 ≡ v / 8 / 2 ^ 16 → cell 40 ≡ v % 8 → v < 2 ^ 32 → cell 43 ≡ low ms → cell 44 ≡ high ms → ms < 2 ^ 64 → Known ns c i r (moves ++ es)
  moving_is k answer x es v ms row wl wh off l lo hi fits =
      let b = address_bounds _ _ _ v l wl wh off in
      knowing moves (b.0, (few_le _ b.1, (b.2, (le_low _ _ lo, (le_high _ _ hi fits, tt))))) row

  abbrev Sent : Instr → Answer → Type 0
  Sent k answer = SendsAccess ns c i r (recorded number k s answer).s (recorded number k s answer).mem × (at_row ns c i r Main.vlo ≡ low (value_in k (recorded number k s answer))) × (at_row ns c i r Main.vhi ≡ high (value_in k (recorded number k s answer)))

  -- a load or a store whose address is below 2^32
  moved_by : (ld st : ℕ) (k : Instr) (q : Kind) (answer : Answer) (x : Setting k answer) (v old result : ℕ) → Known ns c i r (flags 1 ld st 0 0 0 0 ++ always) → value_at k answer x Main.ms ≡ 1 → cell 19 ≡ kind_number q → cell 38 ≡ v / 8 % 2 ^ 16 → cell 39 ≡ v / 8 / 2 ^ 16 → cell 40 ≡ v % 8 → v < 2 ^ 32 → cell 41 ≡ low old → cell 42 ≡ high old → cell 43 ≡ low result → cell 44 ≡ high result → result < 2 ^ 64
      → (value_at k answer x Main.ms ≡ 1) × (value_at k answer x Main.w ≡ v / 8) × (tuple ns c 6 i r Main.access.terms ≡ kind_number q ∷ v % 8 ∷ low old ∷ high old ∷ low (recorded number k s answer).s ∷ high (recorded number k s answer).s ∷ low result ∷ high result ∷ [])
  moved_by ld st k q answer x v old result row on kind wl wh off l olo ohi mlo mhi fits = (
    on,
    w_is ns c i r 1 ld st 0 0 0 0 (moving_is k answer x (flags 1 ld st 0 0 0 0 ++ always) v result row wl wh off l mlo mhi fits) ∙ index_is _ _ v wl wh,
    ap (λ n. map (value n.items (around ns c 6 i r)) Main.access.terms) has.main ∙ eight kind off olo ohi (column k answer x 24) (column k answer x 25) mlo mhi,
  )

  sent_by : (k : Instr) (t : State) (x : Setting k (Next t)) → executed k s ≡ Next t → of_access (λ m. m.result) (recorded number k s (Next t)).mem < 2 ^ 64 → Sent k (Next t)
  sent_by (Lui rd imm) t x h l = let f = v_result ns c i r 1 0 0 0 0 0 0 (kind_row _ _ x _ (R_is _ _ x)) in (ms_off ns c i r 1 0 0 0 0 0 0 (kind_row _ _ x _ (R_is _ _ x)), f.0 ∙ column _ _ x 26, f.1 ∙ column _ _ x 27)
  sent_by (Auipc rd imm) t x h l = let f = v_result ns c i r 1 0 0 0 0 0 0 (kind_row _ _ x _ (R_is _ _ x)) in (ms_off ns c i r 1 0 0 0 0 0 0 (kind_row _ _ x _ (R_is _ _ x)), f.0 ∙ column _ _ x 26, f.1 ∙ column _ _ x 27)
  sent_by (Jal rd imm) t x h l = let f = v_result ns c i r 1 0 0 0 1 0 0 (kind_row _ _ x _ (R_is _ _ x)) in (ms_off ns c i r 1 0 0 0 1 0 0 (kind_row _ _ x _ (R_is _ _ x)), f.0 ∙ column _ _ x 26, f.1 ∙ column _ _ x 27)
  sent_by (Jalr rd rs1 imm) t x h l = let f = v_link ns c i r 1 0 0 1 0 0 0 (kind_row _ _ x _ (R_is _ _ x)) in (ms_off ns c i r 1 0 0 1 0 0 0 (kind_row _ _ x _ (R_is _ _ x)), f.0 ∙ ap (λ z. z.klo) (R_is _ _ x), f.1 ∙ ap (λ z. z.khi) (R_is _ _ x))
  sent_by (Branch b rs1 rs2 imm) t x h l = let f = v_result ns c i r 0 0 0 0 0 1 0 (kind_row _ _ x _ (R_is _ _ x)) in (ms_off ns c i r 0 0 0 0 0 1 0 (kind_row _ _ x _ (R_is _ _ x)), f.0 ∙ column _ _ x 26, f.1 ∙ column _ _ x 27)
  sent_by (OpImm o rd rs1 imm uw) t x h l = let f = v_result ns c i r 1 0 0 0 0 0 0 (kind_row _ _ x _ (R_is _ _ x)) in (ms_off ns c i r 1 0 0 0 0 0 0 (kind_row _ _ x _ (R_is _ _ x)), f.0 ∙ column _ _ x 26, f.1 ∙ column _ _ x 27)
  sent_by (Op o rd rs1 rs2 uw) t x h l = let f = v_result ns c i r 0 0 0 0 0 0 0 (kind_row _ _ x _ (R_is _ _ x)) in (ms_off ns c i r 0 0 0 0 0 0 0 (kind_row _ _ x _ (R_is _ _ x)), f.0 ∙ column _ _ x 26, f.1 ∙ column _ _ x 27)
  sent_by Fence t x h l = let f = v_result ns c i r 1 0 0 0 0 0 0 (kind_row _ _ x _ (R_is _ _ x)) in (ms_off ns c i r 1 0 0 0 0 0 0 (kind_row _ _ x _ (R_is _ _ x)), f.0 ∙ column _ _ x 26, f.1 ∙ column _ _ x 27)
  sent_by Ecall t x h l = let f = v_result ns c i r 1 0 0 0 0 0 1 (kind_row _ _ x _ (R_is _ _ x)) in (ms_off ns c i r 1 0 0 0 0 0 1 (kind_row _ _ x _ (R_is _ _ x)), f.0 ∙ column _ _ x 26, f.1 ∙ column _ _ x 27)
  sent_by Ebreak t x h l = let f = v_result ns c i r 1 0 0 0 0 0 0 (kind_row _ _ x _ (R_is _ _ x)) in (ms_off ns c i r 1 0 0 0 0 0 0 (kind_row _ _ x _ (R_is _ _ x)), f.0 ∙ column _ _ x 26, f.1 ∙ column _ _ x 27)
  sent_by (Load q rd rs1 imm) t x h l =
      let k = Load q rd rs1 imm in
      let v = wrapped (reg s rs1 + bits_of imm) in
      let a = loads s q rd v t h in
      let row = kind_row k (Next t) x _ (R_is k (Next t) x) in
      let wl : cell 38 ≡ v / 8 % 2 ^ 16 = column k (Next t) x 30 in
      let wh : cell 39 ≡ v / 8 / 2 ^ 16 = column k (Next t) x 31 in
      let off : cell 40 ≡ v % 8 = column k (Next t) x 32 in
      let f = v_loaded ns c i r 1 1 0 0 0 0 0 (moving_is k (Next t) x (flags 1 1 0 0 0 0 0 ++ always) v _ row wl wh off a.0 (column k (Next t) x 35) (column k (Next t) x 36) l) in
      (moved_by 1 0 k q (Next t) x v _ _ row (ld_on ns c i r 1 0 0 0 0 0 0 row) (ap (λ z. z.kind) (R_is k (Next t) x)) wl wh off a.0 (column k (Next t) x 33) (column k (Next t) x 34) (column k (Next t) x 35) (column k (Next t) x 36) l, f.0 ∙ column k (Next t) x 35, f.1 ∙ column k (Next t) x 36)
  sent_by (Store q rs1 rs2 imm) t x h l =
      let k = Store q rs1 rs2 imm in
      let v = wrapped (reg s rs1 + bits_of imm) in
      let a = stores s q v (reg s rs2) t h in
      let row = kind_row k (Next t) x _ (R_is k (Next t) x) in
      let f = v_result ns c i r 1 0 1 0 0 0 0 row in
      (moved_by 0 1 k q (Next t) x v _ _ row (st_on ns c i r 1 0 0 0 0 0 0 row) (ap (λ z. z.kind) (R_is k (Next t) x)) (column k (Next t) x 30) (column k (Next t) x 31) (column k (Next t) x 32) a.0 (column k (Next t) x 33) (column k (Next t) x 34) (column k (Next t) x 35) (column k (Next t) x 36) l, f.0 ∙ column k (Next t) x 26, f.1 ∙ column k (Next t) x 27)

  sent_by_ecall : Setting Ecall Halt → Sent Ecall Halt
  sent_by_ecall x = let f = v_result ns c i r 1 0 0 0 0 0 1 (kind_row _ _ x _ (R_is _ _ x)) in (ms_off ns c i r 1 0 0 0 0 0 1 (kind_row _ _ x _ (R_is _ _ x)), f.0 ∙ column _ _ x 26, f.1 ∙ column _ _ x 27)

  sent_at_halt : (k : Instr) (x : Setting k Halt) → executed k s ≡ Halt → Sent k Halt
  sent_at_halt k x h = subst (λ k. Setting k Halt → Sent k Halt) (halts_only k h) sent_by_ecall x

  -- where the row says that it goes
  abbrev to : ℕ
  to = value items (around ns c 6 i r) Main.nx

  onto : (p : ℕ) → cell 9 ≡ s.pc → wrapped (s.pc + 4) ≡ p → to ≡ cell 9 + 4 → to ≡ p
  onto p h e q = q ∙ sym (on_4 (cell 9) s.pc p p h below e refl)

  to_target : (imm : ℤ) (p : ℕ) → cell 18 ≡ target s.pc imm → wrapped (s.pc + bits_of imm) % 4 ≡ 0 → wrapped (s.pc + bits_of imm) ≡ p → p < 2 ^ 32 → to + (cell 9 + 4) ≡ cell 9 + 4 + cell 18 → to ≡ p
  to_target imm p j m e l q = cancelled _ _ _ _ q (j ∙ target_as s.pc imm p m e l)

  branch_leads : (b : Cond) (rs1 rs2 : ℕ) (imm : ℤ) (t : State) (x : Setting (Branch b rs1 rs2 imm) (Next t)) → t.pc < 2 ^ 32 → (T : Bool) → ((turned b ≡ 0) × (one_if (flag_of (compared_by b) (reg s rs1) (reg s rs2)) ≡ one_if T)) ⊎ ((turned b ≡ 1) × (one_if (flag_of (compared_by b) (reg s rs1) (reg s rs2)) ≡ one_if (not T)))
      → (if T then jump s s.x (wrapped (s.pc + bits_of imm)) else next s) ≡ Next t → to ≡ t.pc
  branch_leads b rs1 rs2 imm t x l true (inl q) h =
      let j = jumps s _ _ t h in
      to_target imm t.pc (jt_is b rs1 rs2 imm t x l) j.0 j.1 l (to_taken ns c i r 0 0 0 0 0 1 0 (knowing ((27, is 0) ∷ (36, is 1) ∷ []) (inv_is b rs1 rs2 imm t x l ∙ q.0, (flag_is b rs1 rs2 imm t x l ∙ q.1, tt)) (kind_row _ _ x _ (R_is _ _ x))))
  branch_leads b rs1 rs2 imm t x l true (inr q) h =
      let j = jumps s _ _ t h in
      to_target imm t.pc (jt_is b rs1 rs2 imm t x l) j.0 j.1 l (to_taken' ns c i r 0 0 0 0 0 1 0 (knowing ((27, is 1) ∷ (36, is 0) ∷ []) (inv_is b rs1 rs2 imm t x l ∙ q.0, (flag_is b rs1 rs2 imm t x l ∙ q.1, tt)) (kind_row _ _ x _ (R_is _ _ x))))
  branch_leads b rs1 rs2 imm t x l false (inl q) h =
      onto t.pc (pc_is _ _ x) (ap pc_of h) (to_passed ns c i r 0 0 0 0 0 1 0 (knowing ((27, is 0) ∷ (36, is 0) ∷ []) (inv_is b rs1 rs2 imm t x l ∙ q.0, (flag_is b rs1 rs2 imm t x l ∙ q.1, tt)) (kind_row _ _ x _ (R_is _ _ x))))
  branch_leads b rs1 rs2 imm t x l false (inr q) h =
      onto t.pc (pc_is _ _ x) (ap pc_of h) (to_passed' ns c i r 0 0 0 0 0 1 0 (knowing ((27, is 1) ∷ (36, is 1) ∷ []) (inv_is b rs1 rs2 imm t x l ∙ q.0, (flag_is b rs1 rs2 imm t x l ∙ q.1, tt)) (kind_row _ _ x _ (R_is _ _ x))))

  leads : (k : Instr) (t : State) (x : Setting k (Next t)) → t.pc < 2 ^ 32 → executed k s ≡ Next t → (value items (around ns c 6 i r) Main.go ≡ 1) × (to ≡ t.pc)
  leads (Lui rd imm) t x l h = (go_on ns c i r 1 0 0 0 0 0 0 (kind_row _ _ x _ (R_is _ _ x)), onto t.pc (pc_is _ _ x) (ap pc_of h) (to_next ns c i r 1 0 0 0 0 0 0 (kind_row _ _ x _ (R_is _ _ x))))
  leads (Auipc rd imm) t x l h = (go_on ns c i r 1 0 0 0 0 0 0 (kind_row _ _ x _ (R_is _ _ x)), onto t.pc (pc_is _ _ x) (ap pc_of h) (to_next ns c i r 1 0 0 0 0 0 0 (kind_row _ _ x _ (R_is _ _ x))))
  leads (Jal rd imm) t x l h =
      let j = jumps s _ _ t h in
      (go_on ns c i r 1 0 0 0 1 0 0 (kind_row _ _ x _ (R_is _ _ x)), to_target imm t.pc (ap (λ z. z.jt) (R_is _ _ x)) j.0 j.1 l (to_jump ns c i r 1 0 0 0 1 0 0 (kind_row _ _ x _ (R_is _ _ x))))
  leads (Jalr rd rs1 imm) t x l h =
      let j = jumps s _ _ t h in
      let k = Jalr rd rs1 imm in
      let v = wrapped (reg s rs1 + bits_of imm) in
      let row = kind_row k (Next t) x _ (R_is k (Next t) x) in
      let lo : cell 34 ≡ low v = column k (Next t) x 26 ∙ ap low (sum_is (reg s rs1) (bits_of imm)) in
      let bit : cell 37 ≡ v % 2 = column k (Next t) x 29 ∙ ap (λ z. z % 2) (sum_is (reg s rs1) (bits_of imm)) in
      (go_on ns c i r 1 0 0 1 0 0 0 row, register_leads _ _ _ _ v t.pc bit lo j.1 l (to_register' ns c i r 1 0 0 1 0 0 0 (knowing ((37, most 1) ∷ []) (rest_bit _ _ bit, tt) row) (bit_le _ _ v bit lo)))
  leads (Branch b rs1 rs2 imm) t x l h = (go_on ns c i r 0 0 0 0 0 1 0 (kind_row _ _ x _ (R_is _ _ x)), branch_leads b rs1 rs2 imm t x l (is_taken b (reg s rs1) (reg s rs2)) (taken_is b (reg s rs1) (reg s rs2)) h)
  leads (Load q rd rs1 imm) t x l h =
      let a = loads s q rd (wrapped (reg s rs1 + bits_of imm)) t h in
      (go_on ns c i r 1 1 0 0 0 0 0 (kind_row _ _ x _ (R_is _ _ x)), onto t.pc (pc_is _ _ x) a.1 (to_next ns c i r 1 1 0 0 0 0 0 (kind_row _ _ x _ (R_is _ _ x))))
  leads (Store q rs1 rs2 imm) t x l h =
      let a = stores s q (wrapped (reg s rs1 + bits_of imm)) (reg s rs2) t h in
      (go_on ns c i r 1 0 1 0 0 0 0 (kind_row _ _ x _ (R_is _ _ x)), onto t.pc (pc_is _ _ x) a.1 (to_next ns c i r 1 0 1 0 0 0 0 (kind_row _ _ x _ (R_is _ _ x))))
  leads (OpImm o rd rs1 imm uw) t x l h = (go_on ns c i r 1 0 0 0 0 0 0 (kind_row _ _ x _ (R_is _ _ x)), onto t.pc (pc_is _ _ x) (ap pc_of h) (to_next ns c i r 1 0 0 0 0 0 0 (kind_row _ _ x _ (R_is _ _ x))))
  leads (Op o rd rs1 rs2 uw) t x l h = (go_on ns c i r 0 0 0 0 0 0 0 (kind_row _ _ x _ (R_is _ _ x)), onto t.pc (pc_is _ _ x) (ap pc_of h) (to_next ns c i r 0 0 0 0 0 0 0 (kind_row _ _ x _ (R_is _ _ x))))
  leads Fence t x l h = (go_on ns c i r 1 0 0 0 0 0 0 (kind_row _ _ x _ (R_is _ _ x)), onto t.pc (pc_is _ _ x) (ap pc_of h) (to_next ns c i r 1 0 0 0 0 0 0 (kind_row _ _ x _ (R_is _ _ x))))
  leads Ecall t x l h = absurd (not_on (reg s 17 == 93) _ t h)
  leads Ebreak t x l h = absurd (not_on false _ t h)

  stops : (k : Instr) (x : Setting k Halt) → executed k s ≡ Halt → value items (around ns c 6 i r) Main.go ≡ 0
  stops k x h = subst (λ k. Setting k Halt → value items (around ns c 6 i r) Main.go ≡ 0) (halts_only k h) (λ x. go_off ns c i r 1 0 0 0 0 0 1 (kind_row _ _ x _ (R_is _ _ x))) x

  no_break : (k : Instr) → ((t : State) × (executed k s ≡ Next t) × (t.pc < 2 ^ 32)) ⊎ (executed k s ≡ Halt) → k ≢ Ebreak
  no_break k (inl h) e = not_on false _ h.0 (subst (λ z. executed z s ≡ Next h.0) e h.1)
  no_break k (inr h) e = no_fault _ (subst (λ z. executed z s ≡ Halt) e h)

  complete : (step : StepRecord) (k : Instr) → Found c (rom_row s.pc k) → ImmFits k → StandsAt ns c i r step → step.a < 2 ^ 64 → step.s < 2 ^ 64 → step.c < 2 ^ 64 → IsRow c i r (main_row step) → step ≡ recorded number k s (executed k s)
      → ((t : State) × (executed k s ≡ Next t) × (t.pc < 2 ^ 32)) ⊎ (executed k s ≡ Halt) → Meets ns c i r
  complete step k found fits st a v w row e (inl h) =
      let f : step ≡ recorded number k s (Next h.0) = e ∙ ap (λ z. recorded number k s z) h.1 in
      by_next k h.0 (record { found = found; fits = fits; stands = subst (λ z. StandsAt ns c i r z) f st; a_fits = subst (λ z. z.a < 2 ^ 64) f a; s_fits = subst (λ z. z.s < 2 ^ 64) f v; c_fits = subst (λ z. z.c < 2 ^ 64) f w; row = subst (λ z. IsRow c i r (main_row z)) f row }) h.2 h.1
  complete step k found fits st a v w row e (inr h) =
      let f : step ≡ recorded number k s Halt = e ∙ ap (λ z. recorded number k s z) h in
      by_halt k (record { found = found; fits = fits; stands = subst (λ z. StandsAt ns c i r z) f st; a_fits = subst (λ z. z.a < 2 ^ 64) f a; s_fits = subst (λ z. z.s < 2 ^ 64) f v; c_fits = subst (λ z. z.c < 2 ^ 64) f w; row = subst (λ z. IsRow c i r (main_row z)) f row }) h

-- the row of Rom of the instruction of a step
of_step : (image : Img) (j : ℕ) (h : HasRow image j) (x : Stepped image (state_at image j)) → x.instr ≢ Ebreak → RowOf image (rom_row (state_at image j).pc x.instr)
of_step image j h x n = record { pc = (state_at image j).pc; word = x.word; instr = x.instr; below = h.below; fetched = x.fetched; decoded = x.decoded; no_break = n; is = refl }

pub main_complete : Ranges → MainComplete
main_complete ranges ns c n image i r j h has st row =
    let s = state_at image j in
    let x = stepped image s h.ends in
    let e = ends_as image j x h.ends in
    let found = found_in image c has.rom _ (of_step image j h x (no_break ns c n image ranges i r has j s h.below x.instr e)) in
    complete ns c n image ranges i r has j s h.below (record_at image j) x.instr found (decoded_as ranges x.word x.instr x.decoded).0 st h.a_fits h.s_fits h.c_fits row (record_is image j x) e

module _ (ns : List Namespace) (c : Columns) (n : ℕ) (image : Img) (ranges : Ranges) (i r : ℕ) (has : HasMain ns c n image) (number : ℕ) (s : State) (below : s.pc < 2 ^ 32) where
  sends : (step : StepRecord) (k : Instr) → Found c (rom_row s.pc k) → ImmFits k → StandsAt ns c i r step → step.a < 2 ^ 64 → step.s < 2 ^ 64 → step.c < 2 ^ 64 → of_access (λ m. m.result) step.mem < 2 ^ 64 → IsRow c i r (main_row step) → step ≡ recorded number k s (executed k s)
      → ((t : State) × (executed k s ≡ Next t) × (t.pc < 2 ^ 32)) ⊎ (executed k s ≡ Halt) → Sends ns c i r step
  sends step k found fits st a v w m row e (inl h) =
      let f : step ≡ recorded number k s (Next h.0) = e ∙ ap (λ z. recorded number k s z) h.1 in
      let x : Setting ns c n image ranges i r has number s below k (Next h.0) = record { found = found; fits = fits; stands = subst (λ z. StandsAt ns c i r z) f st; a_fits = subst (λ z. z.a < 2 ^ 64) f a; s_fits = subst (λ z. z.s < 2 ^ 64) f v; c_fits = subst (λ z. z.c < 2 ^ 64) f w; row = subst (λ z. IsRow c i r (main_row z)) f row } in
      let g = sent_by ns c n image ranges i r has number s below k h.0 x h.1 (subst (λ z. of_access (λ m. m.result) z.mem < 2 ^ 64) f m) in
      subst (λ z. Sends ns c i r z) (sym f) (record { operation = operation_is ns c n image ranges i r has number s below k (Next h.0) x; access = g.0; v_low = g.1; v_high = g.2 })
  sends step k found fits st a v w m row e (inr h) =
      let f : step ≡ recorded number k s Halt = e ∙ ap (λ z. recorded number k s z) h in
      let x : Setting ns c n image ranges i r has number s below k Halt = record { found = found; fits = fits; stands = subst (λ z. StandsAt ns c i r z) f st; a_fits = subst (λ z. z.a < 2 ^ 64) f a; s_fits = subst (λ z. z.s < 2 ^ 64) f v; c_fits = subst (λ z. z.c < 2 ^ 64) f w; row = subst (λ z. IsRow c i r (main_row z)) f row } in
      let g = sent_at_halt ns c n image ranges i r has number s below k x h in
      subst (λ z. Sends ns c i r z) (sym f) (record { operation = operation_is ns c n image ranges i r has number s below k Halt x; access = g.0; v_low = g.1; v_high = g.2 })

pub main_sends : Ranges → MainSends
main_sends ranges ns c n image i r j h has st m row =
    let s = state_at image j in
    let x = stepped image s h.ends in
    let e = ends_as image j x h.ends in
    let found = found_in image c has.rom _ (of_step image j h x (no_break ns c n image ranges i r has j s h.below x.instr e)) in
    sends ns c n image ranges i r has j s h.below (record_at image j) x.instr found (decoded_as ranges x.word x.instr x.decoded).0 st h.a_fits h.s_fits h.c_fits m row (record_is image j x) e

-- The setting of a step's row, with the instruction and the answer.
module _ (ranges : Ranges) (ns : List Namespace) (c : Columns) (n : ℕ) (image : Img) (i r j : ℕ) (h : HasRow image j) (has : HasMain ns c n image) (st : StandsAt ns c i r (record_at image j)) (row : IsRow c i r (main_row (record_at image j))) where
  abbrev x : Stepped image (state_at image j)
  x = stepped image (state_at image j) h.ends

  setting : (answer : Answer) → step_at image j ≡ answer → Setting ns c n image ranges i r has j (state_at image j) h.below x.instr answer
  setting answer a =
      let e = sym (step_is image j x) ∙ a in
      let f : record_at image j ≡ recorded j x.instr (state_at image j) answer = record_is image j x ∙ ap (recorded j x.instr (state_at image j)) e in
      record {
        found = found_in image c has.rom _ (of_step image j h x (no_break ns c n image ranges i r has j (state_at image j) h.below x.instr (ends_as image j x h.ends)));
        fits = (decoded_as ranges x.word x.instr x.decoded).0;
        stands = subst (λ z. StandsAt ns c i r z) f st;
        a_fits = subst (λ z. z.a < 2 ^ 64) f h.a_fits;
        s_fits = subst (λ z. z.s < 2 ^ 64) f h.s_fits;
        c_fits = subst (λ z. z.c < 2 ^ 64) f h.c_fits;
        row = subst (λ z. IsRow c i r (main_row z)) f row;
      }

  -- where the row goes
  pub row_leads : (t : State) → step_at image j ≡ Next t → t.pc < 2 ^ 32 → (value items (around ns c 6 i r) Main.go ≡ 1) × (value items (around ns c 6 i r) Main.nx ≡ t.pc)
  row_leads t a l = leads ns c n image ranges i r has j (state_at image j) h.below x.instr t (setting (Next t) a) l (sym (step_is image j x) ∙ a)

  pub row_stops : step_at image j ≡ Halt → value items (around ns c 6 i r) Main.go ≡ 0
  row_stops a = stops ns c n image ranges i r has j (state_at image j) h.below x.instr (setting Halt a) (sym (step_is image j x) ∙ a)
