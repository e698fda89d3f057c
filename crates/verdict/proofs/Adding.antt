-- One more table.
use Rattle.std.proofs.Common.{ℕ, ◌≡◌, ◌≢◌, ◌<◌, ◌≤◌, ◌+◌, ◌^◌, ◌⊎◌, inl, inr, eqb, Bool, true, false, List, [], ◌∷◌, ◌++◌, All, length, refl, sym, ap, subst, ◌∙◌, arith}
use Rattle.std.proofs.Common.{Option, Some}
use Rattle.std.specs.Prelude.{slice_get, slice_set, slice_index}
use Rattle.wit_columns.specs.Values.{instances_of}
use Rattle.machine_columns.specs.Values.{values_of}
use Rattle.std.proofs.lemmas.Bool.{eq-eqb, eqb-true, false≢true}
use Rattle.gold.specs.Field.{AreCanonical}
use Rattle.gold.specs.declared.instances.Table.{Table}
use Rattle.gold.specs.declared.shapes.Profile.{Profile}
use Rattle.gold.specs.declared.shapes.Profile.TheVariants.{Small, Wide}
use Rattle.rv_model.specs.Image.{Img}
use Rattle.zk_layout.specs.Air.{air_number, columns_per, rows_in, rows_per}
use Rattle.zk_layout.specs.declared.air.Air.TheVariants as airs
use Rattle.zk_layout.specs.Namespaces.{namespace_number, namespace_of}
use Rattle.pil_ast.specs.Term.{Namespace, space_at}
use Rattle.pil_ast.specs.Tree.{namespaces}
use Rattle.pil_ast.specs.Columns.{Columns, Fits}
use Rattle.fixed_cols.specs.declared.sizes.Sizes.{Sizes}
use Rattle.fixed_cols.specs.Constants.{Fixed, fixed_of}
use Rattle.machine_text.specs.Machine.{machine}
use Rattle.instance_pass.specs.Passes.{IsSameInstance}
use Rattle.pil_checker.specs.Standing.{IsBuilt, StandsFor, added}
use Rattle.whole_columns.specs.Whole.{AreFew, Framed, IsFramed, values_of_frame}
use Rattle.verdict.specs.declared.run.VerdictRun.{VerdictRun}
use Rattle.verdict.specs.Frames.{constants_at, framed_of, rows_at}
use Rattle.verdict.specs.Told.{told_by}
use Rattle.verdict.specs.Standing.{ComesNext, IsNext, StandsForTables, air_at, count_in, places_of}
use Rattle.verdict.proofs.Cases.{of_air}
use Rattle.verdict.proofs.Next.{Next, next, framed, few, instance_same, begins_before, counted_more, told_else, told_out}
use Rattle.verdict.proofs.Places.{fill_more}
use Rattle.verdict.proofs.Same.{TablesLaw}

abbrev pub space : Table → ℕ
space t = namespace_number (namespace_of (air_at t.air))

abbrev pub frame_with : Profile → ℕ → ℕ → List (List ℕ) → Framed
frame_with q s i columns = record { profile = q; space = s; instance = i; columns = columns }

same_frame : (p q : Profile) (s u i : ℕ) (x y : List (List ℕ)) → p ≡ q → s ≡ u → x ≡ y → frame_with p s i x ≡ frame_with q u i y
same_frame p q s u i x y a b c =
    ap (λ z. frame_with z s i x) a ∙ ap (λ z. frame_with q z i x) b ∙ ap (frame_with q u i) c

module _ (image : Img) (sizes : Sizes) (tables : List Table) (run : VerdictRun) (t : Table) (st : StandsForTables image sizes tables run) where
  pub spaces : length (namespaces run.pil) ≡ 13
  spaces = ap length st.text

  -- the frame that is made is the instance of the table
  pub frame_is : (s rows : ℕ) (first others : List (List ℕ)) → s ≡ space t → rows ≡ (space_at (namespaces run.pil) s).rows → first ≡ constants_at run.fixed s t.instance rows → others ≡ t.columns
      → frame_with run.profile s t.instance (first ++ others) ≡ framed_of (fixed_of image sizes) sizes.profile (space t) t
  frame_is s rows first others a b c d =
      let high : rows ≡ rows_at sizes.profile (space t) = b ∙ ap (λ ns. (space_at ns s).rows) st.text ∙ ap (rows_at sizes.profile) a in
      let front : first ≡ constants_at (fixed_of image sizes) (space t) t.instance (rows_at sizes.profile (space t)) =
      c ∙ ap (λ (f : Fixed). constants_at f s t.instance rows) st.fixed ∙ ap (λ u. constants_at (fixed_of image sizes) u t.instance rows) a ∙ ap (constants_at (fixed_of image sizes) (space t) t.instance) high in
      same_frame run.profile sizes.profile s (space t) t.instance _ _ st.profile a (ap (λ x. x ++ others) front ∙ ap (λ x. constants_at (fixed_of image sizes) (space t) t.instance (rows_at sizes.profile (space t)) ++ x) d)

  module _ (comes : ComesNext sizes tables t) where
    pub known : Next sizes tables t
    known = next sizes tables t st.allowed st.filled comes

    pub is_framed : (s rows : ℕ) (first others : List (List ℕ)) → s ≡ space t → rows ≡ (space_at (namespaces run.pil) s).rows → first ≡ constants_at run.fixed s t.instance rows → others ≡ t.columns → AreCanonical first
        → IsFramed (frame_with run.profile s t.instance (first ++ others))
    is_framed s rows first others a b c d canonical =
        let high : rows ≡ rows_at sizes.profile (space t) = b ∙ ap (λ ns. (space_at ns s).rows) st.text ∙ ap (rows_at sizes.profile) a in
        let front : first ≡ constants_at (fixed_of image sizes) (space t) t.instance (rows_at sizes.profile (space t)) =
        c ∙ ap (λ (f : Fixed). constants_at f s t.instance rows) st.fixed ∙ ap (λ u. constants_at (fixed_of image sizes) u t.instance rows) a ∙ ap (constants_at (fixed_of image sizes) (space t) t.instance) high in
        subst IsFramed (sym (frame_is s rows first others a b c d)) (framed image sizes tables t known (fixed_of image sizes) (subst AreCanonical front canonical))

    pub fits : ((f : Framed) → AreFew (f.instance + 1) (space_at (machine f.profile) f.space).rows → Fits (machine f.profile) (values_of_frame f)) → (frame : Framed) → frame ≡ framed_of (fixed_of image sizes) sizes.profile (space t) t
        → Fits (namespaces run.pil) (values_of_frame frame)
    fits law frame is =
        subst (λ ns. Fits ns (values_of_frame frame)) (sym st.text)
        (subst (λ (f : Framed). Fits (machine sizes.profile) (values_of_frame f)) (sym is) (law (framed_of (fixed_of image sizes) sizes.profile (space t) t) (few image sizes tables t known)))

    pub next_is : (s : ℕ) → s ≡ space t → added run.checker s ≡ t.instance
    next_is s a =
        subst (λ u. added run.checker u ≡ t.instance) (sym a)
        (st.counted (space t) (of_air sizes.profile (air_at t.air)).below ∙ ap (λ o. count_in image sizes tables (space t) o) (of_air sizes.profile (air_at t.air)).air ∙ ap (instances_of tables) known.number ∙ known.count)

    pub stands_more : TablesLaw → (new : VerdictRun) (frame : Framed) (s : ℕ) → frame ≡ framed_of (fixed_of image sizes) sizes.profile (space t) t → s ≡ space t
        → new.profile ≡ run.profile → new.pil ≡ run.pil → new.fixed ≡ run.fixed → IsBuilt (namespaces run.pil) new.checker → new.checker.counts.items ≡ slice_set run.checker.counts.items s (t.instance + 1)
        → ((c : Columns) → StandsFor (namespaces run.pil) c run.checker → IsSameInstance (values_of_frame frame) c s t.instance → StandsFor (namespaces run.pil) c new.checker)
        → (t.air ≡ air_number airs.Out → new.public ≡ told_by t) → (t.air ≢ air_number airs.Out → new.public ≡ run.public)
        → StandsForTables image sizes (tables ++ t ∷ []) new
    stands_more law new frame s is here profile pil fixed built counts stands out others = record {
      allowed = st.allowed;
      filled = fill_more (places_of sizes) tables t comes.place st.filled comes.is_place comes.fits;
      profile = profile ∙ st.profile;
      text = ap namespaces pil ∙ st.text;
      sound = st.sound;
      fixed = fixed ∙ st.fixed;
      built = subst (λ ns. IsBuilt ns new.checker) st.text built;
      counted = counted_more image sizes tables t known (machine sizes.profile) run.checker new.checker st.built refl (subst (λ u. new.checker.counts.items ≡ slice_set run.checker.counts.items u (t.instance + 1)) here counts) st.counted;
      stands = λ w h.
          subst (λ ns. StandsFor ns (values_of image w) new.checker) st.text
          (stands (values_of image w) (subst (λ ns. StandsFor ns (values_of image w) run.checker) (sym st.text) (st.stands w (begins_before image sizes tables t known w h)))
          (subst (λ (f : Framed). IsSameInstance (values_of_frame f) (values_of image w) s t.instance) (sym is) (subst (λ u. IsSameInstance (values_of_frame (framed_of (fixed_of image sizes) sizes.profile (space t) t)) (values_of image w) u t.instance) (sym here) (instance_same image sizes tables t known law w h))));
      told = by (eqb t.air (air_number airs.Out)) refl;
    }
      where
        by : (b : Bool) → eqb t.air (air_number airs.Out) ≡ b → (k : ℕ) (x : Table) → slice_get (tables ++ t ∷ []) k ≡ Some x → x.air ≡ air_number airs.Out → new.public ≡ told_by x
        by true e = told_out image sizes tables t known new.public st.allowed (eqb-true _ _ e) (out (eqb-true _ _ e))
        by false e =
            let ne : t.air ≢ air_number airs.Out = λ f. false≢true (sym e ∙ eq-eqb _ _ f) in
            told_else image sizes tables t known new.public ne (λ k x a b. others ne ∙ st.told k x a b)

    -- ---- Out's table

    pub out_columns : t.air ≡ air_number airs.Out → length t.columns ≡ 2
    unfolding columns_per air_number
    out_columns e = known.columns ∙ ap (λ n. columns_per (air_at n)) e

    pub out_rows : t.air ≡ air_number airs.Out → All (λ c. length c ≡ 64) t.columns
    unfolding air_number rows_per
    out_rows e = subst (λ n. All (λ c. length c ≡ n) t.columns) (ap (λ n. rows_in sizes.profile (air_at n)) e ∙ high sizes.profile) known.rows
      where
        high : (q : Profile) → rows_in q (air_at 6) ≡ 64
        high Small = refl
        high Wide = refl
