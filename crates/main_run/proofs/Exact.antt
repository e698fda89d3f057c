-- No identity of Main wraps.
use Rattle.std.proofs.Common.{ℕ, Bool, ◌≢◌, ◌<◌, ◌≤◌, ◌+◌, ◌*◌, List, refl, subst, ⊎_elim}
use Rattle.std.proofs.lemmas.Bool.{cases_lt}
use Rattle.std.proofs.Math.Nat.{mod-lt}
use Rattle.pil_ast.specs.Term.{Namespace, item_at}
use Rattle.pil_ast.specs.Columns.{Columns}
use Rattle.pil_ast.specs.Value.{around, row_after}
use Rattle.pil_exact.specs.Exact.{HoldsExactly}
use Rattle.machine_text.specs.Main
use Rattle.gold.specs.declared.shapes.Profile.{Profile}
use Rattle.machine_text.specs.Machine.{machine, main_rows}
use Rattle.rv_model.specs.Image.{Img}
use Rattle.rv_model.specs.Run.{state_at}
use Rattle.air_main.specs.Law.{RowSends, MainExact}
use Rattle.air_mem.specs.Access.{Access}
use Rattle.main_run.specs.Chain.{IsPlace}
use Rattle.main_run.specs.Bus.{accesses}
use Rattle.main_run.specs.Run.{Supposed, Reads, Halted}
use Rattle.main_run.proofs.Known.{Machine}
use Rattle.main_run.proofs.Place.{places_same}
use Rattle.main_run.proofs.Below.{MainLaws, StartLaws, MemLaws, TextLaws}
use Rattle.main_run.proofs.Chain.{meets, fixed, told as told_of}
use Rattle.main_run.proofs.Run.{halt_law}
use Rattle.main_run.proofs.Whole.{supposed}

after_below : (r n : ℕ) → 0 < n → row_after n r < n
unfolding row_after
after_below r n h = mod-lt (r + 1) h

module _ (laws : MainLaws) (starts : StartLaws) (mem : MemLaws) (text : TextLaws) (q : Profile) (c : Columns) (image : Img) (m : Machine q c image) where
  abbrev ns : List Namespace
  ns = machine q

  abbrev xs : List Access
  xs = accesses ns c image

  a : Supposed ns c (main_rows q) image xs
  a = supposed laws starts mem text q c image m

  h : Halted ns c image xs
  h = halt_law laws starts ns c (main_rows q) image xs a

  module _ (j i r : ℕ) (place : IsPlace c j i r) (on : c.at 6 i 8 r ≢ 0) where
    told : j ≤ h.last → RowSends ns c i r
    told z =
        let f = h.facts j z in
        let e = places_same c j f.instance f.row i r f.place place in
        let reads : Reads ns c i r (state_at image j) = subst (λ b. Reads ns c i b (state_at image j)) e.1 (subst (λ b. Reads ns c b f.row (state_at image j)) e.0 (h.reads j z)) in
        record {
          operation = a.operation i r place.is_instance place.is_row on ((told_of laws ns c (main_rows q) image a.stands i r place.is_instance place.is_row on).b_high reads.second.hi_below);
          access = λ some. a.access i r place.is_instance place.is_row some;
          first_high = reads.first.hi_below;
          second_low = reads.second.lo_below;
          second_high = reads.second.hi_below;
        }

    sends_at : RowSends ns c i r
    sends_at = ⊎_elim (λ z. absurd (on (h.rest j i r z place))) told (cases_lt h.last j)

  sends : (i r : ℕ) → i < c.instances 6 → r < c.rows 6 → c.at 6 i 8 r ≢ 0 → RowSends ns c i r
  sends i r l k on = sends_at (i * c.rows 6 + r) i r (record { is_instance = l; is_row = k; is_number = refl }) on

pub main_exact : (laws : MainLaws) (starts : StartLaws) (mem : MemLaws) (text : TextLaws) → MainExact → (q : Profile) (c : Columns) (image : Img) → Machine q c image
    → (i r : ℕ) → i < c.instances 6 → r < c.rows 6 → (k : ℕ) → HoldsExactly Main.items (around (machine q) c 6 i r) (item_at Main.items k)
main_exact laws starts mem text exact q c image m i r l k =
    let stands = (a laws starts mem text q c image m).stands in
    exact (machine q) c (main_rows q) image i r stands.has (fixed laws (machine q) c (main_rows q) image stands i r l k) (meets laws (machine q) c (main_rows q) image stands i r l k)
    (meets laws (machine q) c (main_rows q) image stands i (row_after (c.rows 6) r) l (after_below r (c.rows 6) stands.constants.joints.rows)) (sends laws starts mem text q c image m i r l k)
