-- A run to which no table was added, and one to which all were.
use Rattle.std.proofs.Common.{ℕ, zero, suc, ◌≡◌, ◌<◌, ◌≤◌, ◌+◌, ◌^◌, ◌⊎◌, List, [], ◌∷◌, All, Option, Some, None, length, map, refl, sym, ap, subst, ◌∙◌, ⊎_elim, arith, MatchOption}
use Rattle.std.specs.Prelude.{slice_get, slice_index_or}
use Rattle.std.specs.List.{range_with_len}
use Rattle.std.proofs.lemmas.Bool.{cases_lt}
use Rattle.std.proofs.lemmas.Option.{none-some}
use Rattle.std.proofs.lemmas.List.FromFn.{length-map-range_with_len}
use Rattle.gold.specs.Field.{AreCanonical}
use Rattle.gold.specs.declared.instances.Table.{Table}
use Rattle.gold.specs.declared.instances.Witness.{Witness}
use Rattle.gold.specs.declared.shapes.Profile.{Profile}
use Rattle.rv_model.specs.Image.{Img}
use Rattle.zk_layout.specs.Namespaces.{namespace_at}
use Rattle.pil_ast.specs.Term.{Namespace, space_at, width}
use Rattle.pil_ast.specs.Tree.{namespaces}
use Rattle.pil_ast.specs.Columns.{Columns}
use Rattle.pil_ast.specs.Sound.{IsSound}
use Rattle.pil_ast.specs.Holds.{AllHold}
use Rattle.row_check.specs.declared.broken.Broken.{Broken as Spot}
use Rattle.row_check.specs.Breaks.{IsFirstBroken}
use Rattle.fixed_cols.specs.declared.sizes.Sizes.{Sizes}
use Rattle.fixed_cols.specs.Constants.{Fixed, fixed_of, instances_in}
use Rattle.machine_text.specs.Machine.{machine}
use Rattle.machine_columns.specs.Accepted.{AreAccepted}
use Rattle.machine_columns.specs.Values.{sizes_of, values_of}
use Rattle.instance_pass.specs.Passes.{IsSameInstance}
use Rattle.pil_checker.specs.declared.checker.Checker.{Checker}
use Rattle.pil_checker.specs.Standing.{AreAllAdded, IsBuilt, SendAlike, StandsFor, added}
use Rattle.whole_columns.specs.Whole.{AreWhole, Held, IsHeld, columns_at, values_of_held}
use Rattle.verdict.specs.declared.run.VerdictRun.{VerdictRun}
use Rattle.verdict.specs.Frames.{constants_at, held_of, instances_at, rows_at}
use Rattle.verdict.specs.Standing.{AreAll, AreAllowed, BeginsWith, StandsForTables, witness_with}
use Rattle.verdict.proofs.Alike.{machine_alike}
use Rattle.verdict.proofs.Cases.{constant_space}
use Rattle.verdict.proofs.Same.{constants_high, constants_long, held_columns, held_count, held_same}
use Rattle.verdict.proofs.Whole.{all_added, begins_all, counted_none}

-- ---- the constants that are written out are whole

past : {X : Type 0} (xs : List X) (k : ℕ) (d : X) → length xs ≤ k → slice_index_or xs k d ≡ d
past [] k d h = refl
past (x ∷ xs) zero d h = absurd (omega arith)
past (x ∷ xs) (suc k) d h = past xs k d (omega arith)

pub is_held : (f : Fixed) (q : Profile) (spaces : List (List (List (List ℕ)))) → spaces ≡ map (instances_at f q) (range_with_len 0 6) → All (λ (x : List (List (List ℕ))). length x < 2 ^ 32) spaces → All (All AreCanonical) spaces
    → IsHeld (record { profile = q; spaces = spaces })
is_held f q spaces e few canonical =
    let long : length spaces ≡ 6 = ap length e ∙ length-map-range_with_len (instances_at f q) 0 6 in
    record {
      spaces = omega arith;
      few = λ s. ⊎_elim (λ l. few s [] l) (λ l. subst (λ (x : List (List (List ℕ))). length x < 2 ^ 32) (sym (past spaces s [] l)) (omega arith)) (cases_lt s (length spaces));
      columns = λ s i m. ⊎_elim (λ l. whole s i m l (subst (λ n. s < n) long l)) (λ l. absurd (none s i m (past spaces s [] l))) (cases_lt s (length spaces));
    }
  where
    none : (s i : ℕ) → i < length (slice_index_or spaces s []) → slice_index_or spaces s [] ≡ [] → ⊥
    none s i m e = (let n = ap length e in omega arith)

    whole : (s i : ℕ) → i < length (slice_index_or spaces s []) → s < length spaces → s < 6 → AreWhole (space_at (machine q) s) (columns_at (record { profile = q; spaces = spaces }) s i)
    whole s i m l low =
        let there : i < instances_in f (namespace_at s) = subst (λ n. i < n) (ap (λ x. length (slice_index_or x s [])) e ∙ held_count f q s low) m in
        let is : slice_index_or (slice_index_or spaces s []) i [] ≡ constants_at f s i (rows_at q s) = ap (λ x. slice_index_or (slice_index_or x s []) i []) e ∙ held_columns f q s i low there in
        record {
          wide = ap length is ∙ constants_long f s i (rows_at q s) ∙ sym (constant_space q s low).wide;
          high = subst (All (λ c. length c ≡ rows_at q s)) (sym is) (constants_high f s i (rows_at q s));
          canonical = canonical s [] l i [] m;
        }

-- ---- no table

pub started : (image : Img) (sizes : Sizes) (run : VerdictRun) (d : Held) (k : Checker) → AreAllowed sizes
    → namespaces run.pil ≡ machine sizes.profile → IsSound (namespaces run.pil) → run.profile ≡ sizes.profile → run.fixed ≡ fixed_of image sizes → d ≡ held_of (fixed_of image sizes) sizes.profile
    → IsBuilt (namespaces run.pil) run.checker → ((s : ℕ) → s < 6 → added run.checker s ≡ (values_of_held d).instances s) → ((s : ℕ) → 6 ≤ s → added run.checker s ≡ 0)
    → ((c : Columns) → SendAlike (namespaces run.pil) (values_of_held d) c → StandsFor (namespaces run.pil) c k)
    → ((c : Columns) → StandsFor (namespaces run.pil) c k → ((s i : ℕ) → s < 6 → i < (values_of_held d).instances s → IsSameInstance (values_of_held d) c s i) → StandsFor (namespaces run.pil) c run.checker)
    → StandsForTables image sizes [] run
started image sizes run d k allowed text sound profile fixed is built first others fresh stands = record {
  allowed = allowed;
  filled = tt;
  profile = profile;
  text = text;
  sound = subst IsSound text sound;
  fixed = fixed;
  built = subst (λ ns. IsBuilt ns run.checker) text built;
  counted = counted_none image sizes run.checker (λ s l. first s l ∙ ap (λ (x : Held). (values_of_held x).instances s) is) others;
  stands = λ w h.
      let same : held_of (fixed_of image (sizes_of w)) w.profile ≡ d = ap (λ (z : Sizes). held_of (fixed_of image z) z.profile) h.sized ∙ sym is in
      let ns : machine w.profile ≡ namespaces run.pil = ap (λ (z : Sizes). machine z.profile) h.sized ∙ sym text in
      let alike : SendAlike (machine w.profile) (values_of_held (held_of (fixed_of image (sizes_of w)) w.profile)) (values_of image w) =
      machine_alike w.profile (values_of_held (held_of (fixed_of image (sizes_of w)) w.profile)) (values_of image w) (λ s l. held_count (fixed_of image (sizes_of w)) w.profile s l) (λ s. refl) (λ s. refl) (held_same image w) in
      let alike' : SendAlike (namespaces run.pil) (values_of_held d) (values_of image w) = subst (λ n. SendAlike n (values_of_held d) (values_of image w)) ns (subst (λ (x : Held). SendAlike (machine w.profile) (values_of_held x) (values_of image w)) same alike) in
      let all : (s i : ℕ) → s < 6 → i < (values_of_held d).instances s → IsSameInstance (values_of_held d) (values_of image w) s i =
      subst (λ (x : Held). (s i : ℕ) → s < 6 → i < (values_of_held x).instances s → IsSameInstance (values_of_held x) (values_of image w) s i) same
      (λ s i l m. held_same image w s i l (subst (λ n. i < n) (held_count (fixed_of image (sizes_of w)) w.profile s l) m)) in
      subst (λ n. StandsFor n (values_of image w) run.checker) text (stands (values_of image w) (fresh (values_of image w) alike') all);
  told = λ k t at e. absurd (none-some t at);
}

-- ---- all tables

pub verdict_of : (image : Img) (sizes : Sizes) (tables : List Table) (run : VerdictRun) (found : Option Spot) → StandsForTables image sizes tables run → AreAll sizes tables
    → ((c : Columns) → StandsFor (namespaces run.pil) c run.checker → AreAllAdded (namespaces run.pil) c run.checker → MatchOption found (AllHold (namespaces run.pil) c) (λ b. IsFirstBroken (namespaces run.pil) c b))
    → MatchOption found (AreAccepted image (witness_with sizes tables)) (λ b. IsFirstBroken (machine sizes.profile) (values_of image (witness_with sizes tables)) b)
unfolding AreAccepted
verdict_of image sizes tables run found st all h =
    let c : Columns = values_of image (witness_with sizes tables) in
    subst (λ ns. MatchOption found (AllHold ns c) (λ b. IsFirstBroken ns c b)) st.text
    (h c (subst (λ ns. StandsFor ns c run.checker) (sym st.text) (st.stands (witness_with sizes tables) (begins_all sizes tables all))) (subst (λ ns. AreAllAdded ns c run.checker) (sym st.text) (all_added image sizes tables run.checker all st.counted)))
