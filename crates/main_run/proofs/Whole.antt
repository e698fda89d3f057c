-- From what is known of the machine's tables to the run.
use Rattle.std.proofs.Common.{ℕ, not, eqb, true, ◌≡◌, ◌≢◌, ◌<◌, ◌^◌, List, [], ◌∷◌, refl, sym, ap, subst, arith, ◌∙◌}
use Rattle.std.proofs.lemmas.Bool.{ne_eqb}
use Rattle.pil_ast.specs.Term.{Term, Namespace, item_at}
use Rattle.pil_ast.specs.Columns.{Columns}
use Rattle.pil_ast.specs.Value.{around, value, value_in}
use Rattle.pil_ast.specs.Holds.{Holds, all_sent, times, tuple}
use Rattle.pil_laws.proofs.Lines.{space_holds}
use Rattle.pil_laws.proofs.Sums.{into_all, times_single}
use Rattle.gold.specs.declared.shapes.Profile.{Profile}
use Rattle.machine_text.specs.Machine.{machine, main_rows}
use Rattle.machine_text.specs.Words.{rows_with}
use Rattle.machine_text.specs.Align
use Rattle.machine_text.specs.Main
use Rattle.rv_model.specs.Image.{Img, IsLoadable}
use Rattle.step_rows.specs.Tuples.{IsOperation, IsAccess}
use Rattle.air_main.specs.Law.{at_row}
use Rattle.air_mem.specs.Laws.{HasMem, MemHolds, MachineHas, OutPublics}
use Rattle.main_run.specs.Chain.{MainStands}
use Rattle.main_run.specs.Bus.{accesses, BusSupposed}
use Rattle.main_run.specs.Run.{Supposed}
use Rattle.main_run.specs.Headline.{Headline}
use Rattle.main_run.proofs.Known.{Machine}
use Rattle.main_run.proofs.Below.{MainLaws, StartLaws, MemLaws, TextLaws}
use Rattle.main_run.proofs.Bus.{run_bus_law}
use Rattle.main_run.proofs.Headline.{headline_law}

module _ (laws : MainLaws) (starts : StartLaws) (mem : MemLaws) (text : TextLaws) (q : Profile) (c : Columns) (image : Img) (m : Machine q c image) where
  abbrev ns : List Namespace
  ns = machine q

  main_holds : (k : ℕ) → Holds ns c (item_at Main.items k)
  main_holds = subst (λ n. (k : ℕ) → Holds ns c (item_at n.items k)) m.main.main (space_holds ns c m.holds 6)

  stands : MainStands ns c (main_rows q) image
  stands = record { has = m.main; constants = m.main_constants; some = m.some; few = m.few; entry_below = starts.entry image m.loadable; holds = main_holds }

  has_mem : HasMem ns c
  has_mem = record { mem = (text.stands q).1; tables = m.main.tables; constants = m.mem_constants; canonical = m.main.canonical }

  mem_holds : MemHolds ns c
  mem_holds = subst (λ n. (k : ℕ) → Holds ns c (item_at n.items k)) (text.stands q).1 (space_holds ns c m.holds 7)

  pub bus_supposed : BusSupposed ns c (main_rows q) image
  bus_supposed = record { stands = stands; mem = has_mem; mem_holds = mem_holds; init = m.init; out = m.out }

  at_is : (i r : ℕ) (e : Term) → value_in ns c 6 i r e ≡ at_row ns c i r e
  at_is i r e = ap (λ n. value n.items (around ns c 6 i r) e) m.main.main

  -- a selected row's tuple is counted on the left of a line, and so on its right
  counted : (i r : ℕ) (e : Term) (es : List Term) → i < c.instances 6 → r < c.rows 6 → at_row ns c i r e ≢ 0 → times (tuple ns c 6 i r es) (all_sent ns c (rows_with 6 e es ∷ [])) ≢ 0
  counted i r e es h l on =
      into_all ns c (tuple ns c 6 i r es) (rows_with 6 e es ∷ []) (rows_with 6 e es) (0, one, refl) (record {
        instance = i;
        row = r;
        is_instance = h;
        is_row = l;
        is_selected = subst (λ z. not (eqb z 0) ≡ true) (sym (at_is i r e)) (ap not (ne_eqb _ 0 on));
        is_tuple = refl;
      })
    where
      one : 0 < 1
      one = omega arith

  operation : (i r : ℕ) → i < c.instances 6 → r < c.rows 6 → c.at 6 i 8 r ≢ 0 → at_row ns c i r Main.bhi < 2 ^ 32 → IsOperation (tuple ns c 6 i r Main.operation.terms)
  operation i r h l on small =
      m.operations (tuple ns c 6 i r Main.operation.terms) (λ z. counted i r Main.sel Main.operation.terms h l on (main_holds 71 _ ∙ z)) (subst (λ z. z < 2 ^ 32) (sym (at_is i r Main.bhi)) small)

  access : (i r : ℕ) → i < c.instances 6 → r < c.rows 6 → at_row ns c i r Main.ms ≢ 0 → IsAccess (tuple ns c 6 i r Main.access.terms)
  access i r h l on =
      m.aligned (tuple ns c 6 i r Main.access.terms) (λ z. counted i r Main.ms Main.access.terms h l on (main_holds 72 _ ∙ times_single ns c Align.access _ ∙ z))

  pub supposed : Supposed ns c (main_rows q) image (accesses ns c image)
  supposed = record {
    loadable = m.loadable;
    stands = stands;
    operation = operation;
    access = access;
    bus = run_bus_law laws starts mem ns c (main_rows q) image bus_supposed;
  }

  pub whole : Headline ns c image
  whole = headline_law laws starts ns c (main_rows q) image (accesses ns c image) supposed (text.publics q c m.out)
