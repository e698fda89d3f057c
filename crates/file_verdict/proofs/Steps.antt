-- From the bytes that have come to those with a piece after them.
use Rattle.std.proofs.Common.{◌≡◌, ◌≢◌, ℕ, suc, ◌+◌, ◌-◌, ◌<◌, inl, inr, Bool, List, [], ◌∷◌, ◌++◌, length, take, get_or, Option, None, Some, refl, sym, ap, subst, ◌∙◌, arith}
use Rattle.std.specs.Prelude.{IfSome, MatchOption}
use Rattle.std.proofs.lemmas.Bool.{cases_lt}
use Rattle.std.proofs.lemmas.List.{get_or-append-add, get_or_append_left}
use Rattle.gold.specs.Shapes.{AreCounts, Fill, in_profile, is_machine}
use Rattle.gold.specs.declared.instances.Table.{Table}
use Rattle.gold.specs.declared.instances.Witness.{Witness}
use Rattle.gold.specs.declared.shapes.Form.TheVariants.{Two}
use Rattle.gold.specs.declared.shapes.AirShape.{AirShape}
use Rattle.gold.specs.declared.shapes.Profile.{Profile}
use Rattle.gold.specs.declared.shapes.Profile.TheVariants.{Small, Wide}
use Rattle.gold.specs.declared.shapes.Shape.{Shape}
use Rattle.rv_model.specs.Image.{Img}
use Rattle.zk_layout.specs.Air.{machine_airs}
use Rattle.fixed_cols.specs.declared.sizes.Sizes.{Sizes}
use Rattle.machine_columns.specs.Values.{sizes_of}
use Rattle.tab_file.specs.declared.fault.TabErr.{TabErr}
use Rattle.tab_file.specs.declared.fault.TabKind.{TabKind}
use Rattle.tab_file.specs.declared.fault.TabKind.TheVariants.{Short}
use Rattle.tab_file.specs.Items.{first_failure}
use Rattle.tab_file.specs.Reading.{TabFails, items, promised_airs, promised_counts, promised_profile}
use Rattle.tab_file.specs.Front.{CountsHaveCome, IsAllOf, NoneFailsYet, SameHeader, promised_places, whole_tables, witness_of}
use Rattle.tab_file.specs.Stands.{AreBytes, StandsFor}
use Rattle.tab_file.specs.declared.pieces.TabReader.{TabReader}
use Rattle.verdict.specs.declared.run.VerdictRun.{VerdictRun}
use Rattle.verdict.specs.Standing.{AreAll, StandsForTables, witness_with}
use Rattle.file_verdict.specs.declared.judging.FileVerdict.{FileVerdict}
use Rattle.file_verdict.specs.Standing.{AreNext, FillPlaces, HasBegun, IsRun, IsRunOf, StandsForFile, sizes_in, the_shape}

pub both_bytes : (fed piece : List ℕ) → AreBytes fed → AreBytes piece → AreBytes (fed ++ piece)
both_bytes fed piece f p i =
    elim (cases_lt i (length fed)) [
      | inl lt ↦ rw (get_or_append_left fed piece 0 i lt) (f i)
      | inr le ↦
          let e : length fed + (i - length fed) ≡ i = omega (arith, le) in
          subst (λ (k : ℕ). get_or (fed ++ piece) k 0 < 256) e (rw (get_or-append-add fed piece (i - length fed) 0) (p (i - length fed)))
    ]

-- ---- where no item fails

short_alone : (kind : TabKind) → (kind ≢ Short → ⊥) → kind ≡ Short
short_alone Short h = refl
short_alone kind h = absurd (h (λ e. cc))

pub none_fails : (bytes : List ℕ) → ((e : TabErr) → TabFails bytes the_shape e.kind e.at → e.kind ≢ Short → ⊥) → NoneFailsYet bytes the_shape
none_fails bytes never =
    elim (first_failure bytes 0 (items bytes the_shape)) as (λ o. first_failure bytes 0 (items bytes the_shape) ≡ o → MatchOption o (Unit {0}) (λ e. e.kind ≡ Short)) [
      | None ↦ λ none. tt
      | Some e ↦ λ some. short_alone e.kind (λ other. never e some other)
    ] refl

pub fails_once : (bytes : List ℕ) (e : TabErr) → TabFails bytes the_shape e.kind e.at → e.kind ≢ Short → NoneFailsYet bytes the_shape → ⊥
fails_once bytes e fails other none = other (subst (λ (o : Option TabErr). MatchOption o (Unit {0}) (λ d. d.kind ≡ Short)) fails none)

-- ---- what a header tells

pub nothing_came : CountsHaveCome [] the_shape → ⊥
nothing_came come = absurd (no_error _ come.0)
  where
    no_error : (e : TabErr) → Some e ≡ None → ⊥
    no_error e h = cc

pub sizes_are : (sizes : Sizes) (profile : Profile) (counts bytes : List ℕ) → sizes ≡ record { profile = profile; counts = counts } → profile ≡ promised_profile bytes Two → counts ≡ promised_counts bytes the_shape → sizes ≡ sizes_in bytes
sizes_are sizes profile counts bytes is p c = is ∙ ap (λ (q : Profile). record { profile = q; counts = counts }) p ∙ ap (λ (cs : List ℕ). record { profile = promised_profile bytes Two; counts = cs }) c

counts_long : (machine : Bool) (a : ℕ) (fs : List AirShape) (cs : List ℕ) → AreCounts machine a fs cs → length cs ≡ length fs
counts_long machine a [] [] h = refl
counts_long machine a [] (c ∷ cs) h = absurd h
counts_long machine a (f ∷ fs) [] h = absurd h
counts_long machine a (f ∷ fs) (c ∷ cs) h = omega (arith, counts_long machine (suc a) fs cs h.1)

pub seven : (law : (bytes : List ℕ) (shape : Shape) → AreBytes bytes → CountsHaveCome bytes shape → AreCounts (is_machine shape.form) 0 (promised_airs bytes shape) (promised_counts bytes shape)) (bytes counts : List ℕ) → AreBytes bytes → CountsHaveCome bytes the_shape → counts ≡ promised_counts bytes the_shape → length counts ≡ 7
seven law bytes counts are come is = ap length is ∙ counts_long _ 0 _ _ (law bytes the_shape are come) ∙ as_many (promised_profile bytes Two)
  where
    as_many : (q : Profile) → length (in_profile q machine_airs) ≡ 7
    as_many Small = refl
    as_many Wide = refl

same_sizes : (bytes longer : List ℕ) → SameHeader bytes longer the_shape → sizes_in bytes ≡ sizes_in longer
same_sizes bytes longer same = ap (λ (q : Profile). record { profile = q; counts = promised_counts bytes the_shape }) (sym same.profile) ∙ ap (λ (cs : List ℕ). record { profile = promised_profile longer Two; counts = cs }) (sym same.counts)

-- the run so far, of the bytes with more after them
pub run_stays : (image : Img) (bytes longer : List ℕ) (tables : List Table) (run : Option VerdictRun) → ((CountsHaveCome bytes the_shape → ⊥) → tables ≡ []) → (CountsHaveCome bytes the_shape → SameHeader bytes longer the_shape) → HasBegun image bytes tables run → IsRunOf image longer tables run
run_stays image bytes longer tables None none same h = none h
run_stays image bytes longer tables (Some r) none same h = record {
  come = (same h.come).come;
  stands = subst (λ (z : Sizes). StandsForTables image z tables r) (same_sizes bytes longer (same h.come)) h.stands;
}

pub no_table : (image : Img) (bytes : List ℕ) (tables : List Table) (run : Option VerdictRun) → ((r : VerdictRun) → run ≡ Some r → ⊥) → IsRunOf image bytes tables run → tables ≡ []
no_table image bytes tables None not h = h
no_table image bytes tables (Some r) not h = absurd (not r refl)

-- ---- a verdict

-- a header that has come, and what it tells of tables
pub record Laws : Type 0 where
  pub places : (bytes : List ℕ) (shape : Shape) → AreBytes bytes → CountsHaveCome bytes shape → NoneFailsYet bytes shape → Fill (take (length (whole_tables bytes shape)) (promised_places bytes shape)) (whole_tables bytes shape)
  pub none : (bytes : List ℕ) (shape : Shape) → NoneFailsYet bytes shape → (CountsHaveCome bytes shape → ⊥) → whole_tables bytes shape ≡ []
  pub later : (bytes more : List ℕ) (shape : Shape) → CountsHaveCome bytes shape → SameHeader bytes (bytes ++ more) shape

-- what is known after a piece of which no item fails
pub record Fed (bytes piece : List ℕ) (tables : List Table) (reader : TabReader) : Type 0 where
  pub are : AreBytes (bytes ++ piece)
  pub reads : StandsFor reader the_shape (bytes ++ piece)
  pub before : NoneFailsYet bytes the_shape
  pub none : NoneFailsYet (bytes ++ piece) the_shape
  pub tables_are : whole_tables bytes the_shape ++ tables ≡ whole_tables (bytes ++ piece) the_shape

-- what a feed did that gave these tables
pub record Feed (piece : List ℕ) (tables : List Table) (old new : TabReader) : Type 0 where
  pub are : AreBytes piece
  pub reads : (shape : Shape) (bytes : List ℕ) → StandsFor old shape bytes → StandsFor new shape (bytes ++ piece)
  pub none : (shape : Shape) (bytes : List ℕ) → StandsFor old shape bytes → NoneFailsYet (bytes ++ piece) shape
  pub again : (shape : Shape) (bytes : List ℕ) (e : TabErr) → StandsFor old shape bytes → TabFails bytes shape e.kind e.at → e.kind ≢ Short → ⊥
  pub tables_are : (shape : Shape) (bytes : List ℕ) → StandsFor old shape bytes → whole_tables bytes shape ++ tables ≡ whole_tables (bytes ++ piece) shape

pub fed_of : (image : Img) (bytes piece : List ℕ) (tables : List Table) (v : FileVerdict) (reader : TabReader) → Feed piece tables v.reader reader → StandsForFile image bytes v → Fed bytes piece tables reader
fed_of image bytes piece tables v reader feed s = record {
  are = both_bytes bytes piece s.are feed.are;
  reads = feed.reads the_shape bytes s.reader;
  before = none_fails bytes (λ e fails other. feed.again the_shape bytes e s.reader fails other);
  none = feed.none the_shape bytes s.reader;
  tables_are = feed.tables_are the_shape bytes s.reader;
}

-- the run so far is that of the bytes with the piece
pub fed_run : (laws : Laws) (image : Img) (bytes piece : List ℕ) (tables : List Table) (reader : TabReader) (v : FileVerdict) (run : Option VerdictRun) → run ≡ v.run → StandsForFile image bytes v → Fed bytes piece tables reader
    → IsRunOf v.image (bytes ++ piece) (whole_tables bytes the_shape) run
fed_run laws image bytes piece tables reader v run is s fed =
    subst (λ (o : Option VerdictRun). IsRunOf v.image (bytes ++ piece) (whole_tables bytes the_shape) o) (sym is)
    (run_stays v.image bytes (bytes ++ piece) (whole_tables bytes the_shape) v.run (laws.none bytes the_shape fed.before) (laws.later bytes piece the_shape) (s.run fed.before))

-- the new tables stand at the next places
pub fed_fill : (laws : Laws) (bytes piece : List ℕ) (tables : List Table) (reader : TabReader) → Fed bytes piece tables reader → CountsHaveCome (bytes ++ piece) the_shape → FillPlaces (sizes_in (bytes ++ piece)) (whole_tables bytes the_shape ++ tables)
fed_fill laws bytes piece tables reader fed come =
    subst (FillPlaces (sizes_in (bytes ++ piece))) (sym fed.tables_are) (laws.places (bytes ++ piece) the_shape fed.are come fed.none)

pub fed_next : (laws : Laws) (image : Img) (bytes piece : List ℕ) (tables : List Table) (reader : TabReader) (run : Option VerdictRun) → Fed bytes piece tables reader → HasBegun image (bytes ++ piece) (whole_tables bytes the_shape) run → IfSome run (λ r. AreNext image r tables)
fed_next laws image bytes piece tables reader None fed h = tt
fed_next laws image bytes piece tables reader (Some r) fed h = record {
  sizes = sizes_in (bytes ++ piece);
  before = whole_tables bytes the_shape;
  stands = h.stands;
  fill = fed_fill laws bytes piece tables reader fed h.come;
}

-- an item fails, and goes on to fail
pub stands_failed : (image : Img) (bytes piece : List ℕ) (v new : FileVerdict) (e : TabErr) → StandsForFile image bytes v → AreBytes piece → new.image ≡ v.image → StandsFor new.reader the_shape (bytes ++ piece)
    → (e.kind ≢ Short) × TabFails (bytes ++ piece) the_shape e.kind e.at → StandsForFile image (bytes ++ piece) new
stands_failed image bytes piece v new e s p same reads told = record {
  image_is = same ∙ s.image_is;
  are = both_bytes bytes piece s.are p;
  reader = reads;
  run = λ none. absurd (fails_once (bytes ++ piece) e told.1 told.0 none);
}

-- ---- the file

pub all_added : (bytes : List ℕ) (witness : Witness) → IsAllOf bytes the_shape witness → AreAll (sizes_of witness) witness.tables → AreAll (sizes_in bytes) (whole_tables bytes the_shape) × (witness ≡ witness_with (sizes_in bytes) (whole_tables bytes the_shape))
all_added bytes witness all are =
    let tables : witness.tables ≡ whole_tables bytes the_shape = ap (λ (w : Witness). w.tables) all.is in
    let sizes : sizes_of witness ≡ sizes_in bytes = ap (λ (q : Profile). record { profile = q; counts = (sizes_of witness).counts }) (ap (λ (w : Witness). w.profile) all.is) ∙ ap (λ (cs : List ℕ). record { profile = promised_profile bytes Two; counts = cs }) all.counts in
    (subst (λ (ts : List Table). AreAll (sizes_in bytes) ts) tables (subst (λ (z : Sizes). AreAll z witness.tables) sizes are), all.is)

pub run_at_end : (v : FileVerdict) (image : Img) (bytes : List ℕ) (run : VerdictRun) → v.run ≡ Some run → StandsForFile image bytes v → IsAllOf bytes the_shape (witness_of bytes the_shape) → IsRun v.image bytes (whole_tables bytes the_shape) run
run_at_end v image bytes run is s all = subst (λ (o : Option VerdictRun). HasBegun v.image bytes (whole_tables bytes the_shape) o) is (s.run all.none)

pub some_run_at_end : (v : FileVerdict) (image : Img) (bytes : List ℕ) → v.run ≡ None → StandsForFile image bytes v → IsAllOf bytes the_shape (witness_of bytes the_shape) → ⊥
some_run_at_end v image bytes is s all = subst (λ (o : Option VerdictRun). HasBegun v.image bytes (whole_tables bytes the_shape) o) is (s.run all.none) all.come

pub all_at_end : (bytes : List ℕ) → IsAllOf bytes the_shape (witness_of bytes the_shape) → AreAll (sizes_of (witness_of bytes the_shape)) (whole_tables bytes the_shape) → AreAll (sizes_in bytes) (whole_tables bytes the_shape)
all_at_end bytes all are = (all_added bytes (witness_of bytes the_shape) all are).0
