-- All lines of the machine's text hold of the rows of a run.
use Rattle.std.proofs.Common.{ℕ, zero, suc, ◌^◌, ◌<◌, ◌≡◌, Bool, true, not, ◌&&◌, List, [], ◌∷◌, refl}
use Rattle.std.proofs.lemmas.Bool.{and_parts, false≢true}
use Rattle.pil_ast.specs.Term.{Line, identity, lookup, bus, Namespace, is_line, space_at}
use Rattle.pil_ast.specs.Columns.{Columns}
use Rattle.pil_ast.specs.Holds.{AllHold, Holds}
use Rattle.pil_laws.specs.Lines.{EachHolds}
use Rattle.pil_laws.proofs.Lines.{all_hold, text_holds}
use Rattle.fixed_cols.specs.declared.sizes.Sizes.{Sizes}
use Rattle.machine_text.specs.Machine.{machine}
use Rattle.machine_text.specs.Bit
use Rattle.machine_text.specs.Range16
use Rattle.machine_text.specs.BinTab
use Rattle.machine_text.specs.ShiftTab
use Rattle.machine_text.specs.Rom
use Rattle.machine_text.specs.Init
use Rattle.machine_text.specs.Main
use Rattle.rv_model.specs.Image.{Img, IsLoadable}
use Rattle.rv_model.specs.Run.{RunsTo}
use Rattle.rv_model.specs.declared.answer.Public.{Public}
use Rattle.run_lines.specs.Laws.{RunHolds}
use Rattle.run_lines.specs.Rows.{AreRunOf}
use Rattle.run_lines.proofs.Below.{Laws}
use Rattle.run_lines.proofs.Airs.{binary_lines, shift_lines, arith_lines, align_lines}
use Rattle.run_lines.proofs.Main.{stands, all_known, filled, operations_line, access_line}
use Rattle.run_lines.proofs.Mem.{mem_lines, memory_line}

-- ---- namespaces of declarations alone
abbrev all_declare : List Line → Bool
all_declare [] = true
all_declare (l ∷ ls) = not (is_line l) && all_declare ls

module _ (ns : List Namespace) (c : Columns) where
  says_nothing : (l : Line) → not (is_line l) ≡ true → Holds ns c l
  says_nothing (identity s a b) e = absurd (false≢true e)
  says_nothing (lookup a b) e = absurd (false≢true e)
  says_nothing (bus a b) e = absurd (false≢true e)
  says_nothing _ e = tt

  say_nothing : (ls : List Line) → all_declare ls ≡ true → EachHolds ns c ls
  say_nothing [] e k = λ i r _ _. refl
  say_nothing (l ∷ ls) e zero = says_nothing l (and_parts _ _ e).0
  say_nothing (l ∷ ls) e (suc k) = say_nothing ls (and_parts _ _ e).1 k

  -- each namespace of a list
  abbrev EachSpace : List Namespace → Type 0
  EachSpace [] = Unit {0}
  EachSpace (m ∷ ms) = EachHolds ns c m.items × EachSpace ms

  space_by : (ms : List Namespace) → EachSpace ms → (s : ℕ) → EachHolds ns c (space_at ms s).items
  space_by [] h s k = λ i r _ _. refl
  space_by (m ∷ ms) h zero k = h.0 k
  space_by (m ∷ ms) h (suc s) k = space_by ms h.1 s k

module _ (laws : Laws) (image : Img) (n : ℕ) (public : Public) (sizes : Sizes) (c : Columns) (loadable : IsLoadable image) (few : n < 2 ^ 32) (run : RunsTo image n public) (are : AreRunOf image n public sizes c) where
  abbrev ns : List Namespace
  ns = machine sizes.profile

  main_lines : EachHolds ns c Main.items
  main_lines =
      let main = filled laws image n public sizes c loadable few run are in
      all_hold ns c 6 Main.items refl
      (main.1, (operations_line laws image n public sizes c loadable few run are, (access_line laws image n public sizes c loadable few run are, (memory_line laws image n public sizes c loadable few run are, tt)))) main.0

  all_spaces : EachSpace ns c ns
  all_spaces =
      let air = stands laws image n public sizes c loadable few run are in
      let known = all_known laws image n public sizes c loadable few run are in (
        say_nothing ns c Bit.items refl,
        (
          say_nothing ns c Range16.items refl,
          (
            say_nothing ns c BinTab.items refl,
            (
              say_nothing ns c ShiftTab.items refl,
              (
                say_nothing ns c Rom.items refl,
                (
                  say_nothing ns c Init.items refl,
                  (
                    main_lines,
                    (
                      mem_lines laws image n public sizes c loadable few run are,
                      (
                        laws.mem.out ns c,
                        (align_lines laws.airs image n public sizes c are air known, (binary_lines laws.airs image n public sizes c are air known, (shift_lines laws.airs image n public sizes c are air known, (arith_lines laws.airs image n public sizes c are air known, tt)))),
                      ),
                    ),
                  ),
                ),
              ),
            ),
          ),
        ),
      )

  all_lines : AllHold ns c
  all_lines = text_holds ns c (space_by ns c ns all_spaces)

pub run_holds : Laws → RunHolds
run_holds laws image n public sizes c loadable few run are = all_lines laws image n public sizes c loadable few run are
