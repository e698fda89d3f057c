-- What is known of each selected row of Main.
use Rattle.std.proofs.Common.{ℕ, Bool, true, false, not, eqb, ◌≡◌, ◌≢◌, ◌<◌, ◌≤◌, ◌^◌, ◌++◌, List, [], ◌∷◌, map, Some, refl, sym, ap, subst, ◌∙◌, arith}
use Rattle.std.proofs.lemmas.Bool.{true≢false}
use Rattle.pil_ast.specs.Term.{Namespace, num, ◌⊖◌, ◌⊗◌, item_at}
use Rattle.pil_ast.specs.Columns.{Columns}
use Rattle.pil_ast.specs.Value.{around, value}
use Rattle.pil_ast.specs.Holds.{sent, tuple}
use Rattle.pil_exact.specs.Row.{Says}
use Rattle.pil_exact.proofs.Row.{Fact, Meets, AllMeet, row_at, knowing, all_say}
use Rattle.pil_exact.proofs.Small.{bit_entry, word_entry}
use Rattle.pil_laws.proofs.Sent.{from_sent}
use Rattle.machine_text.specs.Main
use Rattle.machine_text.specs.Main.{items}
use Rattle.machine_text.specs.Rom
use Rattle.rv_model.specs.Image.{Img}
use Rattle.step_rows.specs.Words.{one_if}
use Rattle.step_rows.specs.Rom.{rom_row}
use Rattle.step_rows.specs.declared.rom_row.RomRow.{RomRow}
use Rattle.step_rows.specs.Tuples.{IsOperation, IsAccess}
use Rattle.air_main.proofs.Rom.{RowOf}
use Rattle.air_main.specs.Law.{HasMain, Meets as MeetsMain, IsRomPc}
use Rattle.air_main.proofs.Table.{listed, rom_at, rom_selected, Operates, operates, Aligns, aligns}
use Rattle.air_main.proofs.Fields.{row_of, row_pc, Small, row_small}
use Rattle.air_main.proofs.Decoded.{Ranges, decoded_as, ImmFits, RegsBelow}
use Rattle.air_main.proofs.Facts.{limb, flags, always, moves, Known}

le_of : (x : ℕ) → x < 4294967296 → x ≤ limb
le_of x h = omega arith

le_off : (x : ℕ) → x < 8 → x ≤ 7
le_off x h = omega arith

pub flag_le : (f : ℕ) (b : Bool) → f ≡ one_if b → f ≤ 1
flag_le f true h = omega arith
flag_le f false h = omega arith

one_of : (x : ℕ) → x ≢ 0 → x ≤ 1 → x ≡ 1
one_of x h l = omega arith

pc_le : (a b : ℕ) → a ≡ b → b < 2 ^ 32 → a ≤ limb
pc_le a b h l = omega arith

pub set_from : (v : ℕ) → not (eqb v 0) ≡ true → v ≢ 0
set_from v h z = true≢false (sym h ∙ ap (λ v. not (eqb v 0)) z)

pub set_to : (v : ℕ) → v ≡ 1 → not (eqb v 0) ≡ true
set_to v h = ap (λ v. not (eqb v 0)) h

pub not_none : (x : ℕ) → x ≡ 0 → x ≡ 1 → ⊥
not_none x h k = omega arith

module _ (ns : List Namespace) (c : Columns) (n : ℕ) (image : Img) (ranges : Ranges) (has : HasMain ns c n image) where
  -- where a number is the PC of a selected row of Rom, it is that of an instruction
  pub rom_pc : (pc : ℕ) → IsRomPc c pc → (row : RomRow) × RowOf image row × (pc ≡ row.pc)
  rom_pc pc h = (rom_at c h.0 h.1, rom_selected image c has.rom h.0 h.1 h.2 h.3 h.4, h.5)

  module _ (i r : ℕ) (meets : MeetsMain ns c i r) where
    abbrev pub at : ℕ → ℕ
    at k = c.at 6 i k r

    pub says : (k : ℕ) → Says items (around ns c 6 i r) (sent ns c) (item_at items k)
    says = all_say ns c 6 i r (Main.space n) has.main items refl meets

    pub sel_bit : at 8 ≤ 1
    sel_bit = bit_entry ns c has.tables _ (says 54 refl)

    module _ (on : at 8 ≢ 0) where
      pub selected : at 8 ≡ 1
      selected = one_of _ on sel_bit

      -- the row's columns that lie in Rom
      abbrev pub R : RomRow
      R = row_of (listed at 9 21)

      pub entry : RowOf image R
      entry =
          let s = from_sent ns c Rom.instruction (map (value items (around ns c 6 i r)) Main.instruction.terms) (says 61 (set_to _ selected)) in
          let e : rom_at c s.instance s.row ≡ R = ap row_of s.is_tuple in
          subst (λ q. RowOf image q) e (rom_selected image c has.rom s.instance s.row s.is_instance s.is_row (set_from _ s.is_selected))

      pub is_row : R ≡ rom_row entry.pc entry.instr
      is_row = entry.is

      pub fits_of : ImmFits entry.instr × RegsBelow entry.instr
      fits_of = decoded_as ranges entry.word entry.instr entry.decoded

      pub small_row : Small R
      small_row = subst (λ q. Small q) (sym is_row) (row_small entry.pc entry.instr fits_of.0)

      pub pc_entry : at 9 ≡ entry.pc
      pc_entry = ap (λ q. q.pc) is_row ∙ row_pc _ _

      -- the pc of a selected row has 32 bits
      pub pc_below : at 9 ≤ limb
      pc_below = pc_le _ _ pc_entry entry.below

      abbrev pub high_first : ℕ
      high_first = value items (around ns c 6 i r) ((num 1 ⊖ Main.uw) ⊗ Main.ahi)

      abbrev pub b_low : ℕ
      b_low = value items (around ns c 6 i r) Main.blo

      abbrev pub b_high : ℕ
      b_high = value items (around ns c 6 i r) Main.bhi

      abbrev pub stores : ℕ
      stores = value items (around ns c 6 i r) Main.ms

      module _ (operation : IsOperation (tuple ns c 6 i r Main.operation.terms)) (access : stores ≢ 0 → IsAccess (tuple ns c 6 i r Main.access.terms)) (a_high : at 31 < 4294967296) (s_low : at 32 < 4294967296) (s_high : at 33 < 4294967296) where
        pub op : Operates (at 13) (at 30) high_first b_low b_high (at 34) (at 35) (at 36)
        op = operates _ _ _ _ _ _ _ _ (subst IsOperation (ap (λ n. map (value n.items (around ns c 6 i r)) Main.operation.terms) has.main) operation)

        pub moved : stores ≢ 0 → Aligns (at 19) (at 40) (at 41) (at 42) (at 32) (at 33) (at 43) (at 44)
        moved some = aligns _ _ _ _ _ _ _ _ (subst IsAccess (ap (λ n. map (value n.items (around ns c 6 i r)) Main.access.terms) has.main) (access some))

        pub within : AllMeet always at
        within =
            let b = small_row in
            (pc_below, (b.ilo, (b.ihi, (b.klo, (b.khi, (b.jt, (b.inv, (b.uw, (le_of _ op.a_low, (le_of _ a_high, (le_of _ s_low, (le_of _ s_high, (le_of _ op.c.lo_below, (le_of _ op.c.hi_below, (flag_le _ _ op.flag_is, tt)))))))))))))))

        pub bare : Known ns c i r always
        bare = row_at items ns c 6 i r always has.canonical within

        pub known : (q : RomRow) → R ≡ q → Known ns c i r (flags q.bi q.ld q.st q.jr q.jp q.br q.halt ++ always)
        known q e = knowing (flags q.bi q.ld q.st q.jr q.jp q.br q.halt) (selected, (ap (λ z. z.bi) e, (ap (λ z. z.ld) e, (ap (λ z. z.st) e, (ap (λ z. z.jr) e, (ap (λ z. z.jp) e, (ap (λ z. z.br) e, (ap (λ z. z.halt) e, tt)))))))) bare

        pub also : (es : List (ℕ × Fact)) (k : ℕ) (f : Fact) → Meets (at k) f → Known ns c i r es → Known ns c i r ((k, f) ∷ es)
        also es k f h row = knowing ((k, f) ∷ []) (h, tt) row

        -- the bounds of a row that loads or stores
        pub moving : (es : List (ℕ × Fact)) → stores ≡ 1 → Known ns c i r es → Known ns c i r (moves ++ es)
        moving es on row =
            let a = moved (λ z. not_none _ z on) in
            let wl = word_entry ns c has.tables _ (says 68 (set_to _ on)) in
            let wh = word_entry ns c has.tables _ (says 69 (set_to _ on)) in
            knowing moves (wl, (wh, (le_off _ a.off_below, (le_of _ a.m.lo_below, (le_of _ a.m.hi_below, tt))))) row
