-- Accepted tables are the run.
use Rattle.std.proofs.Common.{ℕ, ◌≡◌, ◌<◌, ◌≤◌, ◌+◌, ◌-◌, ◌*◌, ◌^◌, refl, sym, ap, subst, ◌∙◌, ⊎_elim, arith}
use Rattle.std.proofs.Math.Nat.{mul-le-mul_right}
use Rattle.std.proofs.lemmas.Bool.{cases_lt}
use Rattle.gold.specs.declared.instances.Witness.{Witness}
use Rattle.gold.specs.declared.shapes.Profile.{Profile}
use Rattle.gold.specs.declared.shapes.Profile.TheVariants.{Small, Wide}
use Rattle.zk_layout.specs.Air.{air_number, columns_per, rows_per, rows_in}
use Rattle.zk_layout.specs.Namespaces.{namespace_number, namespace_of}
use Rattle.zk_layout.specs.declared.air.Air.{Air}
use Rattle.zk_layout.specs.declared.air.Air.TheVariants as airs
use Rattle.rv_model.specs.Image.{Img, IsLoadable}
use Rattle.rv_model.specs.State.{Answer, Halt}
use Rattle.rv_model.specs.Run.{RunsTo, IsNext, step_at}
use Rattle.rv_model.specs.declared.answer.Public.{Public}
use Rattle.pil_ast.specs.Value.{public_value}
use Rattle.wit_columns.specs.Values.{instances_of, value_at}
use Rattle.machine_text.specs.Machine.{machine, main_rows}
use Rattle.main_run.specs.Bus.{accesses}
use Rattle.main_run.specs.Chain.{IsPlace}
use Rattle.main_run.specs.Exact.{NoWrapLaw}
use Rattle.main_run.specs.Headline.{Headline, told}
use Rattle.main_run.specs.Run.{Halted}
use Rattle.main_run.specs.Whole.{IsMachine, MachineLaw, RowsLaw}
use Rattle.machine_columns.specs.Values.{constants_per, sizes_of, values_of}
use Rattle.machine_columns.specs.Accepted.{AreAccepted, AreWellFormed, public_of}
use Rattle.verdict.specs.Steps.{AreSteps, NothingWraps, RunsBy, steps_of}
use Rattle.verdict.proofs.Count.{AreFirst, Chosen, steps_counted}

-- the laws of machine_columns and main_run
pub record RunLaws : Type 0 where
  pub columns : (image : Img) (w : Witness) → IsLoadable image → AreWellFormed w → IsMachine image (sizes_of w) (values_of image w)
  pub tables : (image : Img) (w : Witness) (a : Air) (i k r : ℕ) → i < instances_of w.tables (air_number a) → k < columns_per a → r < rows_in w.profile a
      → (values_of image w).at (namespace_number (namespace_of a)) i (constants_per (namespace_of a) + k) r ≡ value_at w.tables (air_number a) i k r
  pub public : (image : Img) (w : Witness) → IsLoadable image → AreWellFormed w → AreAccepted image w → public_of image w ≡ told (public_value (machine w.profile) (values_of image w))
  pub machine : MachineLaw
  pub rows : RowsLaw
  pub exact : NoWrapLaw

-- ---- the halt is one step alone

no_next : (a : Answer) → a ≡ Halt → IsNext a → ⊥
no_next a e h = subst IsNext e h

-- the step before the n-th, and one that is the halt
same_end : (image : Img) (n last : ℕ) → 0 < n → ((j : ℕ) → j + 1 < n → IsNext (step_at image j)) → step_at image (n - 1) ≡ Halt → ((g : ℕ) → g < last → IsNext (step_at image g)) → step_at image last ≡ Halt → last + 1 ≡ n
same_end image n last some on halt before halts =
    ⊎_elim (λ l. absurd (no_next _ halts (on last l)))
    (λ l. ⊎_elim (λ m. absurd (no_next _ halt (before (n - 1) (omega arith)))) (λ m. omega arith) (cases_lt n (last + 1)))
    (cases_lt (last + 1) n)

-- ---- Main's rows

main_high : (q : Profile) → rows_in q airs.Main ≡ main_rows q
unfolding rows_per
main_high Small = refl
main_high Wide = refl

some_of : (n : ℕ) → n ≡ 37 → 0 < n
some_of n e = omega arith

main_some : 0 < columns_per airs.Main
unfolding columns_per
main_some = some_of 37 refl

module _ (laws : RunLaws) (image : Img) (w : Witness) (loadable : IsLoadable image) (h : AreWellFormed w) (accepted : AreAccepted image w) where
  machine_is : IsMachine image (sizes_of w) (values_of image w)
  machine_is = laws.columns image w loadable h

  headline : Headline (machine w.profile) (values_of image w) image
  unfolding AreAccepted
  headline = laws.machine image (sizes_of w) (values_of image w) loadable machine_is accepted

  halted : Halted (machine w.profile) (values_of image w) image (accesses (machine w.profile) (values_of image w) image)
  unfolding AreAccepted
  halted = laws.rows image (sizes_of w) (values_of image w) loadable machine_is accepted

  exact : NothingWraps image w
  unfolding AreAccepted
  exact = laws.exact image (sizes_of w) (values_of image w) loadable machine_is accepted

  many : (values_of image w).instances 6 ≡ instances_of w.tables 0
  unfolding air_number
  many = refl

  high : (values_of image w).rows 6 ≡ rows_in w.profile airs.Main
  high = sym (main_high w.profile)

  selector : (i r : ℕ) → i < instances_of w.tables 0 → r < rows_in w.profile airs.Main → (values_of image w).at 6 i 8 r ≡ value_at w.tables 0 i 0 r
  unfolding air_number namespace_number namespace_of constants_per
  selector i r l m = laws.tables image w airs.Main i 0 r l main_some m

  all : halted.last + 1 ≡ headline.n
  all = same_end image headline.n halted.last headline.runs.some headline.runs.on headline.runs.halt halted.fact.on halted.halts

  place : (i r : ℕ) → i < instances_of w.tables 0 → r < rows_in w.profile airs.Main → IsPlace (values_of image w) (i * rows_in w.profile airs.Main + r) i r
  place i r l m = record { is_instance = subst (λ n. i < n) (sym many) l; is_row = subst (λ n. r < n) (sym high) m; is_number = ap (λ n. i * n + r) (sym high) }

  first_rows : AreFirst (rows_in w.profile airs.Main) headline.n w.tables
  first_rows i r l m =
      let p = place i r l m in
      subst (λ v. Chosen headline.n (i * rows_in w.profile airs.Main + r) v) (selector i r l m)
      (record { on = λ b. headline.first (i * rows_in w.profile airs.Main + r) i r p b; off = λ b. headline.others (i * rows_in w.profile airs.Main + r) i r p b })

  within : (last i r m n high : ℕ) → last ≡ i * high + r → i < m → r < high → last + 1 ≡ n → n ≤ m * high
  within last i r m n high e l q f = let a = mul-le-mul_right high l in omega arith

  few : headline.n ≤ instances_of w.tables 0 * rows_in w.profile airs.Main
  few =
      let p = halted.fact.place in
      within halted.last halted.fact.instance halted.fact.row (instances_of w.tables 0) headline.n (rows_in w.profile airs.Main) (p.is_number ∙ ap (λ n. halted.fact.instance * n + halted.fact.row) high)
      (subst (λ n. halted.fact.instance < n) many p.is_instance) (subst (λ n. halted.fact.row < n) high p.is_row) all

  steps : steps_of w ≡ headline.n
  steps = steps_counted w headline.n h first_rows few

  told_is : public_of image w ≡ told (public_value (machine w.profile) (values_of image w))
  told_is = laws.public image w loadable h accepted

  pub runs : RunsBy image w (public_of image w)
  runs = record {
    runs = subst (λ n. RunsTo image n (public_of image w)) (sym steps) (subst (λ (x : Public). RunsTo image headline.n x) (sym told_is) headline.runs);
    most = subst (λ n. n ≤ 2 ^ 32) (sym steps) headline.most;
  }

  pub are_steps : AreSteps image w
  are_steps = record {
    first = λ j i r p l. headline.first j i r p (subst (λ n. j < n) steps l);
    others = λ j i r p l. headline.others j i r p (subst (λ n. n ≤ j) steps l);
    rows = halted;
    all = all ∙ sym steps;
  }

  pub nothing_wraps : NothingWraps image w
  nothing_wraps = exact
