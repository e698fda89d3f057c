-- What the command `demo` comes to.
use Rattle.std.proofs.Common.{◌≡◌, ℕ, zero, suc, ◌+◌, ◌≤◌, List, [], ◌∷◌, ◌++◌, Some, Result, Ok, Err, IfOk, refl, sym, ap, subst, ◌∙◌, arith, append_assoc}
use Rattle.std.specs.List.{flat_map, range_with_len}
use Rattle.std.proofs.lemmas.Grind.{flat_map-append}
use Rattle.std.proofs.lemmas.List.{append-nil}
use Rattle.host_io.specs.World.{Asked}
use Rattle.gold.specs.declared.instances.Witness.{Witness}
use Rattle.rv_model.specs.Image.{Img}
use Rattle.rv_model.specs.Run.{End, Halted, end_within, EndsOnce, RunsTo}
use Rattle.rv_model.specs.declared.answer.Public.{Public}
use Rattle.elf_load.specs.Loads.{Loads}
use Rattle.run_tables.specs.Sequential.{sequential_witness}
use Rattle.run_tables.specs.declared.made.Made.{Made}
use Rattle.machine_columns.specs.Accepted.{AreAccepted}
use Rattle.demo_program.specs.Demo.{demo_file}
use Rattle.demo_program.specs.declared.kind.DemoKind.{DemoKind}
use Rattle.zk_words.specs.declared.status.Status.TheVariants.{Done}
use Rattle.zk_top.specs.Outcome.{Outcome, reporting, demo_report, IsDemoOutcome}
use Rattle.zk_top.specs.Parts.{IsHalted}

-- ---- the counts of tables

range_more : (a n : ℕ) → range_with_len a (n + 1) ≡ range_with_len a n ++ (a + n) ∷ []
range_more a zero = let e : a ≡ a + 0 = omega arith in ap (λ (b : ℕ). b ∷ []) e
range_more a (suc n) =
    let k : suc n + 1 ≡ suc (n + 1) = omega arith in
    let s : a + 1 + n ≡ a + suc n = omega arith in
    rw k (ap (λ (xs : List ℕ). a ∷ xs) (range_more (a + 1) n ∙ ap (λ (b : ℕ). range_with_len (a + 1) n ++ b ∷ []) s))

pub counts_more : (f : ℕ → List ℕ) (base out next : List ℕ) (n : ℕ) → out ≡ base ++ flat_map f (range_with_len 0 n) → next ≡ out ++ f n → next ≡ base ++ flat_map f (range_with_len 0 (n + 1))
counts_more f base out next n before after =
    let z : 0 + n ≡ n = omega arith in
    let last : flat_map f ((0 + n) ∷ []) ≡ f n = append-nil (f (0 + n)) ∙ ap f z in
    let whole : flat_map f (range_with_len 0 (n + 1)) ≡ flat_map f (range_with_len 0 n) ++ f n = ap (flat_map f) (range_more 0 n) ∙ flat_map-append f (range_with_len 0 n) ((0 + n) ∷ []) ∙ ap (λ (xs : List ℕ). flat_map f (range_with_len 0 n) ++ xs) last in
    after ∙ ap (λ (xs : List ℕ). xs ++ f n) before ∙ append_assoc base (flat_map f (range_with_len 0 n)) (f n) ∙ ap (λ (xs : List ℕ). base ++ xs) (sym whole)

-- what is so of each answer that isn't for want of memory
pub ok_then : {X E : Type 0} (r : Result X E) (P Q : X → Type 0) → IfOk r P → ((x : X) → P x → Q x) → IfOk r Q
ok_then (Ok x) P Q h then = then x h
ok_then (Err e) P Q h then = tt

-- ---- the outcome

abbrev report_of : Img → ℕ → Public → List ℕ
report_of image n public = demo_report n public (sequential_witness image n public)

same_report : (image : Img) (n m : ℕ) (p q : Public) → Halted n p ≡ Halted m q → report_of image n p ≡ report_of image m q
same_report image n m p q e =
    let steps : n ≡ m = cc in
    let told : p ≡ q = cc in
    ap (λ (k : ℕ). report_of image k p) steps ∙ ap (λ (r : Public). report_of image m r) told

abbrev OneImage : List ℕ → Type 0
OneImage file = (i j : Img) → Loads file [] i → Loads file [] j → i ≡ j

pub demo_same : (names : List Asked) (number : ℕ) (kind : DemoKind) (size : ℕ) (image : Img) (n : ℕ) (public : Public) (o : Outcome) → OneImage (demo_file number kind size) → Loads (demo_file number kind size) [] image → end_within image 4294967295 ≡ Halted n public → IsDemoOutcome names number kind size o → o ≡ reporting names Done (report_of image n public)
demo_same names number kind size image n public o one loads halts is =
    let same : is.image ≡ image = one is.image image is.loads loads in
    let own : end_within image 4294967295 ≡ Halted is.steps is.public = subst (λ (i : Img). end_within i 4294967295 ≡ Halted is.steps is.public) same is.halts in
    is.is ∙ ap (λ (i : Img). reporting names Done (report_of i is.steps is.public)) same
    ∙ ap (reporting names Done) (same_report image is.steps n is.public public (sym own ∙ halts))

pub demo_one : (names : List Asked) (number : ℕ) (kind : DemoKind) (size : ℕ) (o p : Outcome) → OneImage (demo_file number kind size) → IsDemoOutcome names number kind size o → IsDemoOutcome names number kind size p → o ≡ p
demo_one names number kind size o p one h k = demo_same names number kind size k.image k.steps k.public o one k.loads k.halts h ∙ sym k.is

-- the report that was made is the outcome's
pub demo_reported : (names : List Asked) (number : ℕ) (kind : DemoKind) (size : ℕ) (image : Img) (made : Made) (text : List ℕ) (o : Outcome) → OneImage (demo_file number kind size) → Loads (demo_file number kind size) [] image → IsHalted image made → text ≡ demo_report made.steps made.public made.witness → IsDemoOutcome names number kind size o → o ≡ reporting names Done text
demo_reported names number kind size image made text o one loads halted is demo =
    demo_same names number kind size image made.steps made.public o one loads halted.0 demo
    ∙ ap (λ (w : Witness). reporting names Done (demo_report made.steps made.public w)) (sym halted.1) ∙ ap (reporting names Done) (sym is)

-- there is one
pub demo_some : (names : List Asked) (number : ℕ) (kind : DemoKind) (size : ℕ) (image : Img) (n : ℕ) (public : Public) → Loads (demo_file number kind size) [] image → EndsOnce image 4294967295 → n ≤ 4294967295 → RunsTo image n public → AreAccepted image (sequential_witness image n public) → (o : Outcome) × IsDemoOutcome names number kind size o
demo_some names number kind size image n public loads once few runs accepted = (
  reporting names Done (report_of image n public),
  record {
    image = image;
    loads = loads;
    steps = n;
    public = public;
    halts = sym (once.only (Halted n public) (few, runs));
    accepted = accepted;
    is = refl;
  },
)
