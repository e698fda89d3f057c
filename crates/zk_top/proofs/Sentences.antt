-- The headline's sentences.
use Rattle.std.proofs.Common.{◌≡◌, inl, inr, ℕ, ◌+◌, ◌^◌, ◌<◌, ◌≤◌, List, [], length, Some, slice_index, refl, sym, ap, ◌∙◌, subst, arith}
use Rattle.std.specs.Prelude.{decimal}
use Rattle.std.proofs.lemmas.List.Elements.{All-from_get_or}
use Rattle.host_io.specs.World.{Asked}
use Rattle.rv_model.specs.Image.{Img, IsLoadable, AreBytes as AreOctets}
use Rattle.rv_model.specs.Run.{Halted, end_within, EndsOnce, RunsTo}
use Rattle.rv_model.specs.declared.answer.Public.{Public}
use Rattle.rv_model.specs.declared.machine.TheConstants.{INPUT_LEN}
use Rattle.elf_load.specs.Loads.{Loads}
use Rattle.elf_load.specs.Refusal.{Refused}
use Rattle.elf_load.specs.declared.error.ElfErr.{ElfErr}
use Rattle.gold.specs.declared.instances.Witness.{Witness}
use Rattle.gold.specs.declared.shapes.Form.TheVariants.{Two}
use Rattle.gold.specs.declared.shapes.Shape.{Shape}
use Rattle.zk_layout.specs.Air.{machine_shape_of}
use Rattle.tab_file.specs.declared.fault.TabErr.{TabErr}
use Rattle.tab_file.specs.declared.fault.TabKind.{TabKind}
use Rattle.tab_file.specs.Items.{failure}
use Rattle.tab_file.specs.Reading.{TabReads, TabFails}
use Rattle.pil_ast.specs.Term.{Namespace}
use Rattle.pil_ast.specs.Columns.{Columns}
use Rattle.pil_ast.specs.Holds.{AllHold}
use Rattle.row_check.specs.declared.broken.Broken.{Broken}
use Rattle.row_check.specs.Breaks.{IsFirstBroken}
use Rattle.machine_text.specs.Machine.{machine}
use Rattle.machine_columns.specs.Values.{values_of}
use Rattle.machine_columns.specs.Accepted.{AreAccepted, public_of}
use Rattle.zk_words.specs.Words.{Command, Witness as MakeWitness, Check, Reads}
use Rattle.zk_words.specs.declared.command.TheConstants.{MOST_WORKERS}
use Rattle.zk_words.specs.declared.status.Which.TheVariants as files
use Rattle.zk_words.specs.declared.status.Status.TheVariants as statuses
use Rattle.zk_top.specs.Outcome.{Outcome, Contents, AreBytes, with_input, program_names, check_names, check_report, of_making, WithProgram, OfVerdict, OfMachineTables, IsWitnessOutcome, IsCheckOutcome, IsOutcomeOf, IsOutcome}
use Rattle.zk_top.specs.Headline.{AreProgram, AreTables, witness_words, check_words, WritesRun, Judges}
use Rattle.zk_top.proofs.Stages.{file_on}
use Rattle.zk_top.proofs.FileTables.{tables_on, refused_so, only_failure}
use Rattle.zk_top.proofs.Programs.{given_program}
use Rattle.zk_top.proofs.Checks.{OnProgram}

-- ---- the command of the words

module _ (one : (words : List (List ℕ)) (a b : Command) → Reads words a → Reads words b → a ≡ b) where
  -- words that read as a command come to what it comes to
  of_command : (contents : Contents) (words : List (List ℕ)) (command : Command) (o : Outcome) → Reads words command → IsOutcome contents words o → IsOutcomeOf contents command o
  of_command contents words command o reads (inl h) = subst (λ (c : Command). IsOutcomeOf contents c o) (one words h.0 command h.1 reads) h.2
  of_command contents words command o reads (inr h) = absurd (h.0 command reads)

  pub witness_outcome : (contents : Contents) (elf input tables : List ℕ) (steps workers : ℕ) (o : Outcome) → 0 < steps → steps < 2 ^ 32 → workers ≤ MOST_WORKERS
      → IsOutcome contents (witness_words elf input tables steps workers) o → IsWitnessOutcome contents elf input tables steps o
  witness_outcome contents elf input tables steps workers o some below few is =
      let words = witness_words elf input tables steps workers in
      let command = MakeWitness elf input tables steps workers in
      let reads : Reads words command = (decimal steps, decimal workers, refl, (refl, omega arith, below), (refl, omega arith, omega arith)) in
      of_command contents words command o reads is

  pub check_outcome : (contents : Contents) (elf input tables : List ℕ) (o : Outcome) → IsOutcome contents (check_words elf input tables) o → IsCheckOutcome contents elf input tables o
  check_outcome contents elf input tables o is = of_command contents (check_words elf input tables) (Check elf input tables) o refl is

-- ---- the program

module _ (one_image : (file : List ℕ) (a b : Img) → Loads file [] a → Loads file [] b → a ≡ b) (not_both : (file : List ℕ) (image : Img) (e : ElfErr) → Loads file [] image → Refused file e → ⊥) where
  -- what follows a program that is given
  on_program : (contents : Contents) (elf input : List ℕ) (image : Img) (On : Img → Outcome → Type 0) (o : Outcome) → AreProgram contents elf input image → WithProgram contents elf input On o → On image o
  on_program contents elf input image On o given h =
      subst (λ (i : Img). On i o) (sym given.image_is)
      (given_program contents elf input On given.file given.bare given.bytes o given.elf_is given.elf_fits
      (λ other loads. one_image given.file other given.bare loads given.loads, λ e refused. not_both given.file given.bare e given.loads refused) given.input_is given.input_fits h)

  -- ---- the first sentence

  pub writes : (contents : Contents) (elf input tables : List ℕ) (steps n : ℕ) (image : Img) (public : Public) (o : Outcome) → EndsOnce image steps → AreProgram contents elf input image → n ≤ steps → RunsTo image n public
      → IsWitnessOutcome contents elf input tables steps o → WritesRun tables image n public o
  unfolding IsWitnessOutcome
  writes contents elf input tables steps n image public o once given le runs is =
      let names = program_names elf input in
      let made : o ≡ of_making names tables image steps (end_within image steps) = on_program contents elf input image (λ i p. p ≡ of_making names tables i steps (end_within i steps)) o given is in
      let halts : Halted n public ≡ end_within image steps = once.only (Halted n public) (le, runs) in
      let e : o ≡ of_making names tables image steps (Halted n public) = made ∙ ap (of_making names tables image steps) (sym halts) in
      record { status = ap (λ (p : Outcome). p.status) e; file = ap (λ (p : Outcome). p.file) e; report = ap (λ (p : Outcome). p.report) e }

  -- ---- the second

  pub on_tables : (contents : Contents) (elf input tables file : List ℕ) (image : Img) (o : Outcome) → AreProgram contents elf input image → AreTables contents tables file → IsCheckOutcome contents elf input tables o
      → OfMachineTables (check_names elf input tables) image file o
  unfolding IsCheckOutcome
  on_tables contents elf input tables file image o given there is =
      let names = check_names elf input tables in
      file_on names (contents tables) (2 ^ 48) files.Tables (OfMachineTables names image) o file there.is there.fits
      (on_program contents elf input image (OnProgram contents elf input tables) o given is)

module _ (never_both : (ns : List Namespace) (c : Columns) (b : Broken) → AllHold ns c → IsFirstBroken ns c b → ⊥) (one_broken : (ns : List Namespace) (c : Columns) (a b : Broken) → IsFirstBroken ns c a → IsFirstBroken ns c b → a ≡ b) (one_reading : (bytes : List ℕ) (shape : Shape) (a b : Witness) → TabReads bytes shape a → TabReads bytes shape b → a ≡ b) (reads_xor_fails : (bytes : List ℕ) (shape : Shape) (witness : Witness) (kind : TabKind) (at : ℕ) → TabReads bytes shape witness → TabFails bytes shape kind at → ⊥) where
  abbrev shape : Shape
  shape = machine_shape_of Two

  read_on : (names : List Asked) (image : Img) (file : List ℕ) (witness : Witness) (o : Outcome) → TabReads file shape witness → OfMachineTables names image file o → OfVerdict names image witness o
  read_on names image file witness o reads on =
      tables_on names shape file (OfVerdict names image) witness o (λ other is. one_reading file shape other witness is reads, λ kind at fails. reads_xor_fails file shape witness kind at reads fails) on

  abbrev Breaks : Img → List ℕ → Broken → Type 0
  Breaks image file b = (witness : Witness) × TabReads file shape witness × IsFirstBroken (machine witness.profile) (values_of image witness) b

  -- tables that are read are accepted where the status is Done, and the report is theirs
  read_done : (names : List Asked) (image : Img) (file : List ℕ) (witness : Witness) (o : Outcome) → OfVerdict names image witness o → o.status ≡ Some statuses.Done → AreAccepted image witness × (o.report ≡ check_report (public_of image witness))
  read_done names image file witness o (inl p) e = (p.0, ap (λ (p : Outcome). p.report) p.1)
  read_done names image file witness o (inr q) e = let s : o.status ≡ Some (statuses.Broken q.0) = ap (λ (p : Outcome). p.status) q.2 in cc

  pub done_tables : (names : List Asked) (image : Img) (file : List ℕ) (o : Outcome) → OfMachineTables names image file o → o.status ≡ Some statuses.Done
      → (witness : Witness) × TabReads file shape witness × AreAccepted image witness × (o.report ≡ check_report (public_of image witness))
  done_tables names image file o (inl p) e =
      let told = read_done names image file p.0 o p.2 e in
      (p.0, p.1, told.0, told.1)
  done_tables names image file o (inr q) e = let s : o.status ≡ Some (statuses.BadTables (record { kind = q.0; at = q.1 })) = ap (λ (p : Outcome). p.status) q.3 in cc

  read_accepted : (names : List Asked) (image : Img) (witness : Witness) (o : Outcome) → AreAccepted image witness → OfVerdict names image witness o → o.status ≡ Some statuses.Done
  unfolding AreAccepted
  read_accepted names image witness o accepted (inl p) = ap (λ (p : Outcome). p.status) p.1
  read_accepted names image witness o accepted (inr q) = absurd (never_both (machine witness.profile) (values_of image witness) q.0 accepted q.1)

  read_breaks : (names : List Asked) (image : Img) (file : List ℕ) (witness : Witness) (o : Outcome) (b : Broken) → TabReads file shape witness → OfVerdict names image witness o → o.status ≡ Some (statuses.Broken b) → Breaks image file b
  read_breaks names image file witness o b reads (inl p) e = let s : o.status ≡ Some statuses.Done = ap (λ (p : Outcome). p.status) p.1 in cc
  read_breaks names image file witness o b reads (inr q) e =
      let s : o.status ≡ Some (statuses.Broken q.0) = ap (λ (p : Outcome). p.status) q.2 in
      let same : q.0 ≡ b = cc in
      (witness, reads, subst (λ (a : Broken). IsFirstBroken (machine witness.profile) (values_of image witness) a) same q.1)

  breaks_told : (names : List Asked) (image : Img) (file : List ℕ) (o : Outcome) (b : Broken) → OfMachineTables names image file o → o.status ≡ Some (statuses.Broken b) → Breaks image file b
  breaks_told names image file o b (inl p) e = read_breaks names image file p.0 o b p.1 p.2 e
  breaks_told names image file o b (inr q) e = let s : o.status ≡ Some (statuses.BadTables (record { kind = q.0; at = q.1 })) = ap (λ (p : Outcome). p.status) q.3 in cc

  tells_broken : (names : List Asked) (image : Img) (witness : Witness) (o : Outcome) (b : Broken) → IsFirstBroken (machine witness.profile) (values_of image witness) b → OfVerdict names image witness o → o.status ≡ Some (statuses.Broken b)
  unfolding AreAccepted
  tells_broken names image witness o b first (inl p) = absurd (never_both (machine witness.profile) (values_of image witness) b p.0 first)
  tells_broken names image witness o b first (inr q) =
      ap (λ (p : Outcome). p.status) q.2 ∙ ap (λ (a : Broken). Some (statuses.Broken a)) (one_broken (machine witness.profile) (values_of image witness) q.0 b q.1 first)

  read_never_bad : (names : List Asked) (image : Img) (witness : Witness) (o : Outcome) (kind : TabKind) (at : ℕ) → OfVerdict names image witness o → o.status ≡ Some (statuses.BadTables (record { kind = kind; at = at })) → ⊥
  read_never_bad names image witness o kind at (inl p) e = let s : o.status ≡ Some statuses.Done = ap (λ (p : Outcome). p.status) p.1 in cc
  read_never_bad names image witness o kind at (inr q) e = let s : o.status ≡ Some (statuses.Broken q.0) = ap (λ (p : Outcome). p.status) q.2 in cc

  same_bad : (k kind : TabKind) (n at : ℕ) → Some (statuses.BadTables (record { kind = k; at = n })) ≡ Some (statuses.BadTables (record { kind = kind; at = at })) → (k ≡ kind) × (n ≡ at)
  same_bad k kind n at e = let same : failure k n ≡ failure kind at = cc in (ap (λ (f : TabErr). f.kind) same, ap (λ (f : TabErr). f.at) same)

  bad_told : (names : List Asked) (image : Img) (file : List ℕ) (o : Outcome) (kind : TabKind) (at : ℕ) → OfMachineTables names image file o → o.status ≡ Some (statuses.BadTables (record { kind = kind; at = at })) → TabFails file shape kind at
  bad_told names image file o kind at (inl p) e = absurd (read_never_bad names image p.0 o kind at p.2 e)
  bad_told names image file o kind at (inr q) e =
      let s : o.status ≡ Some (statuses.BadTables (record { kind = q.0; at = q.1 })) = ap (λ (p : Outcome). p.status) q.3 in
      let same = same_bad q.0 kind q.1 at (sym s ∙ e) in
      subst (λ (m : TabKind). TabFails file shape m at) same.0 (subst (λ (m : ℕ). TabFails file shape q.0 m) same.1 q.2)

  tells_bad : (names : List Asked) (image : Img) (file : List ℕ) (o : Outcome) (kind : TabKind) (at : ℕ) → TabFails file shape kind at → OfMachineTables names image file o → o.status ≡ Some (statuses.BadTables (record { kind = kind; at = at }))
  tells_bad names image file o kind at fails on =
      ap (λ (p : Outcome). p.status) (refused_so names shape file (OfVerdict names image) kind at o (only_failure file shape kind at (λ witness reads. reads_xor_fails file shape witness kind at reads fails) fails) on)

  pub judges : (names : List Asked) (image : Img) (file : List ℕ) (o : Outcome) → OfMachineTables names image file o → Judges image file o
  judges names image file o on = record {
    accepted = (
      λ e. let told = done_tables names image file o on e in (told.0, told.1, told.2),
      λ h. read_accepted names image h.0 o h.2 (read_on names image file h.0 o h.1 on),
    );
    broken = λ b. (
      λ e. breaks_told names image file o b on e,
      λ h. tells_broken names image h.0 o b h.2 (read_on names image file h.0 o h.1 on),
    );
    bad = λ kind at. (
      λ e. bad_told names image file o kind at on e,
      λ fails. tells_bad names image file o kind at fails on,
    );
  }

-- ---- a program that is given can be run

octets : (bytes : List ℕ) → ((i : ℕ) → slice_index bytes i < 256) → AreOctets bytes
octets bytes all = All-from_get_or (λ b. b < 256) bytes 0 (λ i below. all i)

module _ (loadable : (file input : List ℕ) (image : Img) → AreOctets file → AreOctets input → length input + 8 ≤ INPUT_LEN → Loads file input image → IsLoadable image) (apart : (file input given : List ℕ) (i : Img) → Loads file given i → Loads file input (record i { input = input })) where
  pub program_loadable : (contents : Contents) (elf input : List ℕ) (image : Img) → AreBytes contents → AreProgram contents elf input image → IsLoadable image
  program_loadable contents elf input image bytes given =
      subst IsLoadable (sym given.image_is)
      (loadable given.file given.bytes (with_input given.bare given.bytes) (octets given.file (bytes elf given.file given.elf_is)) (octets given.bytes (bytes input given.bytes given.input_is))
      (omega (arith, given.input_fits)) (apart given.file given.bytes [] given.bare given.loads))
