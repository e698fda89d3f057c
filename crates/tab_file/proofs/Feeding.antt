-- A reader that stands for a shape and bytes, after a feed and at the end.
use Rattle.std.proofs.Common.{◌≡◌, ◌≢◌, ℕ, ◌+◌, ◌≤◌, ◌<◌, Bool, true, false, cond, List, [], ◌∷◌, ◌++◌, length, Option, None, Some, refl, sym, ap, subst, ◌∙◌, append_assoc, arith}
use Rattle.std.specs.Prelude.{MatchOption, MatchResult, IfOk, Result, Ok, Err}
use Rattle.std.proofs.lemmas.List.{append-nil}
use Rattle.gold.specs.declared.instances.Table.{Table}
use Rattle.gold.specs.declared.shapes.Profile.{Profile}
use Rattle.gold.specs.declared.shapes.Shape.{Shape}
use Rattle.tab_file.specs.declared.fault.TabErr.{TabErr}
use Rattle.tab_file.specs.declared.fault.TabKind.TheVariants.{Short, NoMemory}
use Rattle.tab_file.specs.declared.body.Body.{Body}
use Rattle.tab_file.specs.declared.pieces.TabReader.{TabReader}
use Rattle.tab_file.specs.Items.{failure, first_failure}
use Rattle.tab_file.specs.Reading.{promised_airs, promised_counts, items, TabFails, TabReads}
use Rattle.tab_file.specs.Steps.{out_of_memory, promised, tables_from}
use Rattle.tab_file.specs.Front.{CountsHaveCome, header_end, promised_places, whole_tables, NoneFailsYet, witness_of}
use Rattle.tab_file.specs.Parts.{reach}
use Rattle.tab_file.specs.Stands.{Knows, InHeader, InBody, InAll, GoesOn, HasFailed, StandsFor, Feeds}
use Rattle.tab_file.proofs.Found.{file_taken}
use Rattle.tab_file.proofs.Readers.{Now, now, header_then}

-- ---- a reader that has failed

pub failed_on : (profile : Option Profile) (body : Option Body) (shape : Shape) (fed piece : List ℕ) (e : TabErr) → HasFailed profile body shape fed e → HasFailed profile body shape (fed ++ piece) e
failed_on profile body shape fed piece e s = record {
  kind = s.kind;
  item = s.item;
  knows = λ more. subst (λ (xs : List ℕ). Knows profile body shape xs) (sym (append_assoc fed piece more)) (s.knows (piece ++ more));
  fails = λ more. subst (λ (xs : List ℕ). TabFails xs shape e.kind e.at) (sym (append_assoc fed piece more)) (s.fails (piece ++ more));
}

pub has_failed : (r : TabReader) (shape : Shape) (fed : List ℕ) (e : TabErr) → r.failed ≡ Some e → StandsFor r shape fed → HasFailed r.profile r.body shape fed e
has_failed r shape fed e is s = subst (λ (o : Option TabErr). MatchOption o (GoesOn r.profile r.body r.header.items shape fed) (λ d. HasFailed r.profile r.body shape fed d)) is s.state

pub goes_on : (r : TabReader) (shape : Shape) (fed : List ℕ) → r.failed ≡ None → StandsFor r shape fed → GoesOn r.profile r.body r.header.items shape fed
goes_on r shape fed is s = subst (λ (o : Option TabErr). MatchOption o (GoesOn r.profile r.body r.header.items shape fed) (λ d. HasFailed r.profile r.body shape fed d)) is s.state

pub stands_failed : (r : TabReader) (shape : Shape) (fed : List ℕ) (e : TabErr) → r.shape ≡ shape → r.failed ≡ Some e → HasFailed r.profile r.body shape fed e → StandsFor r shape fed
stands_failed r shape fed e same is s = record { shape_is = same; state = subst (λ (o : Option TabErr). MatchOption o (GoesOn r.profile r.body r.header.items shape fed) (λ d. HasFailed r.profile r.body shape fed d)) (sym is) s }

pub stands_going : (r : TabReader) (shape : Shape) (fed : List ℕ) → r.shape ≡ shape → r.failed ≡ None → GoesOn r.profile r.body r.header.items shape fed → StandsFor r shape fed
stands_going r shape fed same is s = record { shape_is = same; state = subst (λ (o : Option TabErr). MatchOption o (GoesOn r.profile r.body r.header.items shape fed) (λ d. HasFailed r.profile r.body shape fed d)) (sym is) s }

pub failed_here : (profile : Option Profile) (body : Option Body) (shape : Shape) (fed : List ℕ) (e : TabErr) → HasFailed profile body shape fed e → TabFails fed shape e.kind e.at
failed_here profile body shape fed e s = subst (λ (xs : List ℕ). TabFails xs shape e.kind e.at) (append-nil fed) (s.fails [])

one_failure : (d e : TabErr) → Some (failure d.kind d.at) ≡ Some (failure e.kind e.at) → d ≡ e
one_failure d e h = cc

pub only_failure : (bytes : List ℕ) (shape : Shape) (d e : TabErr) → TabFails bytes shape d.kind d.at → TabFails bytes shape e.kind e.at → d ≡ e
only_failure bytes shape d e f g = one_failure d e (sym f ∙ g)

-- ---- a reader that goes on

body_now : (profile : Option Profile) (b : Body) (shape : Shape) (fed : List ℕ) → InAll profile b shape fed → Now fed (length (promised_airs fed shape)) (header_end fed shape) (promised_places fed shape) (whole_tables fed shape) b
body_now profile b shape fed s =
    let here : InBody profile b shape fed (whole_tables fed shape) [] = subst (λ (xs : List ℕ). InBody profile b shape xs (whole_tables fed shape) []) (append-nil fed) (s.each []) in
    now fed (length (promised_airs fed shape)) (header_end fed shape) (promised_places fed shape) (whole_tables fed shape) b s.waits here.body

pub body_first : (profile : Option Profile) (b : Body) (shape : Shape) (fed : List ℕ) → InAll profile b shape fed
    → (first_failure fed 0 (items fed shape) ≡ cond b.going (Some (failure Short (length fed))) None) × (length fed ≡ reach b.partial) × (b.going ≡ false → tables_from fed (header_end fed shape) (promised_places fed shape) ≡ whole_tables fed shape)
body_first profile b shape fed s =
    let here : InBody profile b shape fed (whole_tables fed shape) [] = subst (λ (xs : List ℕ). InBody profile b shape xs (whole_tables fed shape) []) (append-nil fed) (s.each []) in
    let at = body_now profile b shape fed s in
    (header_then fed shape (header_end fed shape) here.header ∙ at.first, at.all, at.ended)

none_yet : (o : Option TabErr) (b : Bool) (len : ℕ) → o ≡ cond b (Some (failure Short len)) None → MatchOption o (Unit {0}) (λ e. e.kind ≡ Short)
none_yet o true len h = rw h refl
none_yet o false len h = rw h tt

pub goes_none_fails : (profile : Option Profile) (body : Option Body) (header : List ℕ) (shape : Shape) (fed : List ℕ) → GoesOn profile body header shape fed → NoneFailsYet fed shape
goes_none_fails profile None header shape fed s = none_yet (first_failure fed 0 (items fed shape)) true (length fed) s.state.short
goes_none_fails profile (Some b) header shape fed s = none_yet (first_failure fed 0 (items fed shape)) b.going (length fed) (body_first profile b shape fed s.state).0

some_is : (a b : TabErr) → Some a ≡ Some b → a ≡ b
some_is a b h = cc

not_yet : (o : Option TabErr) (e : TabErr) → MatchOption o (Unit {0}) (λ d. d.kind ≡ Short) → o ≡ Some (failure e.kind e.at) → e.kind ≡ Short
not_yet None e m h = absurd cc
not_yet (Some d) e m h =
    let short : d.kind ≡ Short = m in
    let same : d.kind ≡ e.kind = ap (λ (x : TabErr). x.kind) (some_is d (failure e.kind e.at) h) in
    sym same ∙ short

pub no_failure : (profile : Option Profile) (body : Option Body) (header : List ℕ) (shape : Shape) (fed : List ℕ) (e : TabErr) → GoesOn profile body header shape fed → TabFails fed shape e.kind e.at → e.kind ≢ Short → ⊥
no_failure profile body header shape fed e s f kind = kind (not_yet (first_failure fed 0 (items fed shape)) e (goes_none_fails profile body header shape fed s) f)

-- ---- the end

pub ended : (profile : Option Profile) (b : Body) (header : List ℕ) (shape : Shape) (fed : List ℕ) → GoesOn profile (Some b) header shape fed → b.going ≡ false → TabReads fed shape (witness_of fed shape)
ended profile b header shape fed s e =
    let first = body_first profile b shape fed s.state in
    let none : first_failure fed 0 (items fed shape) ≡ None = first.0 ∙ ap (λ (x : Bool). cond x (Some (failure Short (length fed))) None) e in
    let tables : (promised fed shape).tables ≡ whole_tables fed shape = first.2 e in
    let same : promised fed shape ≡ witness_of fed shape = rw tables refl in
    subst (TabReads fed shape) same (file_taken fed shape s.bytes none)

pub ends_short : (profile : Option Profile) (b : Body) (header : List ℕ) (shape : Shape) (fed : List ℕ) → GoesOn profile (Some b) header shape fed → b.going ≡ true → TabFails fed shape Short (reach b.partial)
ends_short profile b header shape fed s e =
    let first = body_first profile b shape fed s.state in
    first.0 ∙ ap (λ (x : Bool). cond x (Some (failure Short (length fed))) None) e ∙ ap (λ (n : ℕ). Some (failure Short n)) first.1

pub other_memory : (e : TabErr) → e.kind ≢ NoMemory → e ≢ out_of_memory
other_memory e h same = h (ap (λ (x : TabErr). x.kind) same)

-- ---- what is known of the header

pub known_of : (o : Option TabErr) (profile : Option Profile) (body : Option Body) (header : List ℕ) (shape : Shape) (fed : List ℕ) → MatchOption o (GoesOn profile body header shape fed) (λ e. HasFailed profile body shape fed e) → Knows profile body shape fed
known_of None profile body header shape fed s = s.knows
known_of (Some e) profile body header shape fed s = subst (λ (xs : List ℕ). Knows profile body shape xs) (append-nil fed) (s.knows [])

pub known : (r : TabReader) (shape : Shape) (fed : List ℕ) → StandsFor r shape fed → Knows r.profile r.body shape fed
known r shape fed s = known_of r.failed r.profile r.body r.header.items shape fed s.state

pub known_counts : (r : TabReader) (shape : Shape) (fed : List ℕ) → StandsFor r shape fed → {o : Option Body} → r.body ≡ o → MatchOption o (CountsHaveCome fed shape → ⊥) (λ b. CountsHaveCome fed shape × (b.coming.counts.items ≡ promised_counts fed shape))
known_counts r shape fed s is = subst (λ (o : Option Body). MatchOption o (CountsHaveCome fed shape → ⊥) (λ b. CountsHaveCome fed shape × (b.coming.counts.items ≡ promised_counts fed shape))) is (known r shape fed s).counts_are
