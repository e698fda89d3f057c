-- The stage of a table file, whatever follows it.
use Rattle.std.proofs.Common.{◌≡◌, ◌⊎◌, inl, inr, ℕ, List, Some, Ok, Err, refl, sym, ap, ◌∙◌, subst}
use Rattle.host_io.specs.World.{Asked}
use Rattle.gold.specs.declared.instances.Witness.{Witness}
use Rattle.gold.specs.declared.shapes.Shape.{Shape}
use Rattle.tab_file.specs.declared.fault.TabErr.{TabErr}
use Rattle.tab_file.specs.declared.fault.TabKind.{TabKind}
use Rattle.tab_file.specs.Items.{failure}
use Rattle.tab_file.specs.Reading.{TabReads, TabFails}
use Rattle.zk_words.specs.declared.status.Status.{Status}
use Rattle.zk_words.specs.declared.status.Status.TheVariants as statuses
use Rattle.zk_top.specs.Outcome.{Outcome, refused, WithTables}
use Rattle.zk_top.specs.Parts.{Comes, IsOnlyTables, IsOnlyFailure, IsTablesRefusal}

-- a table file that fails does so in one way
same_failure : (k kind : TabKind) (n at : ℕ) → Some (failure k n) ≡ Some (failure kind at) → (k ≡ kind) × (n ≡ at)
same_failure k kind n at e = let same : failure k n ≡ failure kind at = cc in (ap (λ (f : TabErr). f.kind) same, ap (λ (f : TabErr). f.at) same)

pub only_failure : (file : List ℕ) (shape : Shape) (kind : TabKind) (at : ℕ) → ((witness : Witness) → TabReads file shape witness → ⊥) → TabFails file shape kind at → IsOnlyFailure file shape kind at
only_failure file shape kind at never fails = (never, λ k n is. same_failure k kind n at (sym is ∙ fails))

-- what the tables come to, where the file reads as them and as no others
pub tables_on : (names : List Asked) (shape : Shape) (file : List ℕ) (On : Witness → Outcome → Type 0) (witness : Witness) (o : Outcome) → IsOnlyTables file shape witness → WithTables names shape file On o → On witness o
tables_on names shape file On witness o only (inl p) = subst (λ (w : Witness). On w o) (only.0 p.0 p.1) p.2
tables_on names shape file On witness o only (inr q) = absurd (only.1 q.0 q.1 q.2)

-- the names of an outcome that the tables decide
pub tables_names : (names : List Asked) (shape : Shape) (file : List ℕ) (On : Witness → Outcome → Type 0) (o : Outcome) → ((witness : Witness) → On witness o → o.names ≡ names) → WithTables names shape file On o → o.names ≡ names
tables_names names shape file On o on (inl p) = on p.0 p.2
tables_names names shape file On o on (inr q) = ap (λ (p : Outcome). p.names) q.3

-- a table file that was refused ends the command so
pub refused_so : (names : List Asked) (shape : Shape) (file : List ℕ) (On : Witness → Outcome → Type 0) (kind : TabKind) (at : ℕ) (o : Outcome) → IsOnlyFailure file shape kind at → WithTables names shape file On o → o ≡ refused names (statuses.BadTables (record { kind = kind; at = at }))
refused_so names shape file On kind at o only (inl p) = absurd (only.0 p.0 p.1)
refused_so names shape file On kind at o only (inr q) =
    let same = only.1 q.0 q.1 q.2 in
    subst (λ (k : TabKind). o ≡ refused names (statuses.BadTables (record { kind = k; at = at }))) same.0
    (subst (λ (n : ℕ). o ≡ refused names (statuses.BadTables (record { kind = q.0; at = n }))) same.1 q.3)

pub refusal_comes : (shape : Shape) (file : List ℕ) (On : List Asked → Witness → Outcome → Type 0) (status : Status) → IsTablesRefusal file shape status → Comes (λ names. WithTables names shape file (On names)) (Err status)
refusal_comes shape file On status (inl none) = subst (λ (s : Status). Comes (λ names. WithTables names shape file (On names)) (Err s)) (sym none) tt
refusal_comes shape file On status (inr told) =
    subst (λ (s : Status). Comes (λ names. WithTables names shape file (On names)) (Err s)) (sym told.2)
    (λ names o on. refused_so names shape file (On names) told.0 told.1 o told.3 on)

-- the report of tables that the file alone reads as
pub tables_come : (shape : Shape) (file : List ℕ) (On : List Asked → Witness → Outcome → Type 0) (witness : Witness) (result : _) → IsOnlyTables file shape witness → Comes (λ names. On names witness) result → Comes (λ names. WithTables names shape file (On names)) result
tables_come shape file On witness (Ok text) only comes = λ names o on. comes names o (tables_on names shape file (On names) witness o only on)
tables_come shape file On witness (Err statuses.HostFault) only comes = comes
tables_come shape file On witness (Err statuses.NoMemory) only comes = tt
tables_come shape file On witness (Err statuses.Done) only comes = λ names o on. comes names o (tables_on names shape file (On names) witness o only on)
tables_come shape file On witness (Err (statuses.Broken b)) only comes = λ names o on. comes names o (tables_on names shape file (On names) witness o only on)
tables_come shape file On witness (Err statuses.BadWords) only comes = λ names o on. comes names o (tables_on names shape file (On names) witness o only on)
tables_come shape file On witness (Err (statuses.BadElf e)) only comes = λ names o on. comes names o (tables_on names shape file (On names) witness o only on)
tables_come shape file On witness (Err (statuses.RunFault f)) only comes = λ names o on. comes names o (tables_on names shape file (On names) witness o only on)
tables_come shape file On witness (Err (statuses.StepLimit n)) only comes = λ names o on. comes names o (tables_on names shape file (On names) witness o only on)
tables_come shape file On witness (Err (statuses.BadTables e)) only comes = λ names o on. comes names o (tables_on names shape file (On names) witness o only on)
tables_come shape file On witness (Err (statuses.BadPil e)) only comes = λ names o on. comes names o (tables_on names shape file (On names) witness o only on)
tables_come shape file On witness (Err (statuses.TooLarge w)) only comes = λ names o on. comes names o (tables_on names shape file (On names) witness o only on)

-- some outcome of a table file, where what follows has one
pub some_with_tables : (names : List Asked) (shape : Shape) (file : List ℕ) (On : Witness → Outcome → Type 0) → ((witness : Witness) → (o : Outcome) × On witness o)
    → ((witness : Witness) × TabReads file shape witness) ⊎ ((kind : TabKind) × (at : ℕ) × TabFails file shape kind at) → (o : Outcome) × WithTables names shape file On o
some_with_tables names shape file On on (inl reads) =
    let rest = on reads.0 in
    (rest.0, inl (reads.0, reads.1, rest.1))
some_with_tables names shape file On on (inr fails) = (refused names (statuses.BadTables (record { kind = fails.0; at = fails.1 })), inr (fails.0, fails.1, fails.2, refl))

-- and only one, where what follows has only one
pub one_with_tables : (names : List Asked) (shape : Shape) (file : List ℕ) (On : Witness → Outcome → Type 0)
    → ((a b : Witness) → TabReads file shape a → TabReads file shape b → a ≡ b) → ((witness : Witness) (kind : TabKind) (at : ℕ) → TabReads file shape witness → TabFails file shape kind at → ⊥)
    → ((witness : Witness) (o p : Outcome) → On witness o → On witness p → o ≡ p) → (o p : Outcome) → WithTables names shape file On o → WithTables names shape file On p → o ≡ p
one_with_tables names shape file On one never on o p (inl h) k =
    on h.0 o p h.2 (tables_on names shape file On h.0 p (λ other reads. one other h.0 reads h.1, λ kind at fails. never h.0 kind at h.1 fails) k)
one_with_tables names shape file On one never on o p (inr h) k =
    h.3 ∙ sym (refused_so names shape file On h.0 h.1 p (only_failure file shape h.0 h.1 (λ witness reads. never witness h.0 h.1 reads h.2) h.2) k)
