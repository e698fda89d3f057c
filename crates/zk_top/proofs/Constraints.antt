-- The stages of `pil`, read against its outcome.
use Rattle.std.proofs.Common.{◌≡◌, ◌≢◌, inl, inr, ℕ, ◌^◌, List, [], ◌∷◌, map, refl, sym, ap, ◌∙◌, subst}
use Rattle.host_io.specs.World.{World, Asked, Opened}
use Rattle.gold.specs.declared.shapes.AirShape.{AirShape}
use Rattle.gold.specs.declared.shapes.Form.{Form}
use Rattle.gold.specs.declared.shapes.Form.TheVariants.{Plain}
use Rattle.gold.specs.declared.shapes.Shape.{Shape}
use Rattle.pil_ast.specs.Term.{Namespace}
use Rattle.pil_ast.specs.Columns.{Columns}
use Rattle.pil_ast.specs.Shape.{air_shape}
use Rattle.pil_text.specs.Refusal.{UnlessMemory}
use Rattle.pil_text.specs.Text.{Reads, Fails, IsDecided}
use Rattle.pil_text.specs.declared.error.PilErr.{PilErr}
use Rattle.pil_text.specs.declared.error.PilKind.{PilKind}
use Rattle.pil_text.specs.declared.error.PilKind.TheVariants as kinds
use Rattle.wit_columns.specs.Values.{values_of}
use Rattle.zk_words.specs.declared.status.Which.TheVariants as files
use Rattle.zk_words.specs.declared.status.Status.{Status}
use Rattle.zk_words.specs.declared.status.Status.TheVariants as statuses
use Rattle.zk_top.specs.Outcome.{Outcome, Contents, refused, shape_of, WithFile, WithText, OfLines, OfTables}
use Rattle.zk_top.specs.Ends.{AreReadOut, Asks}
use Rattle.zk_top.specs.Parts.{Stops, IsOnlyText, IsOnlyFault, IsTextRefusal}
use Rattle.zk_top.proofs.FileTables.{tables_names}
use Rattle.zk_top.proofs.Stages.{Begins, begins_exactly, file_begins, front_asked, refused_asks}

-- a text that reads in one way, or is refused in one way
pub only_text : (text : List ℕ) (ns : List Namespace) → IsDecided text → Reads text ns → IsOnlyText text ns
only_text text ns decided reads = (λ other is. decided.one_reading other ns is reads, λ e fails. decided.not_both ns e reads fails)

pub only_fault : (text : List ℕ) (e : PilErr) → IsDecided text → Fails text e → IsOnlyFault text e
only_fault text e decided fails = (λ ns reads. decided.not_both ns e reads fails, λ other is. decided.one_refusal other e is fails)

-- what a refusal says where memory didn't run out
pub unless_memory : (k : PilKind) (P : Type 0) → k ≢ kinds.NoMemory → UnlessMemory k P → P
unless_memory kinds.NoMemory P other told = absurd (other refl)
unless_memory kinds.BadByte P other told = told
unless_memory kinds.NumberTooLarge P other told = told
unless_memory kinds.Unexpected P other told = told
unless_memory kinds.TooDeep P other told = told
unless_memory kinds.Repeated P other told = told
unless_memory kinds.UnknownName P other told = told
unless_memory kinds.BadRow P other told = told
unless_memory kinds.Mixed P other told = told
unless_memory kinds.WrongWidth P other told = told
unless_memory kinds.CyclicPol P other told = told
unless_memory kinds.DoubleMark P other told = told

abbrev shaped : List AirShape → Form → Shape
shaped airs form = record { airs = airs; form = form }

pub same_shape : (shape : Shape) (ns : List Namespace) → shape.airs ≡ map air_shape ns → shape.form ≡ Plain → shape ≡ shape_of ns
same_shape shape ns airs form = ap (λ (a : List AirShape). shaped a shape.form) airs ∙ ap (λ (f : Form). shaped (map air_shape ns) f) form

-- the names of an outcome that the tables decide
lines_names : (names : List Asked) (ns : List Namespace) (c : Columns) (o : Outcome) → OfLines names ns c o → o.names ≡ names
lines_names names ns c o (inl p) = ap (λ (p : Outcome). p.names) p.1
lines_names names ns c o (inr q) = ap (λ (p : Outcome). p.names) q.2

pub text_names : (names : List Asked) (ns : List Namespace) (file : List ℕ) (o : Outcome) → OfTables names ns file o → o.names ≡ names
text_names names ns file o h = tables_names names (shape_of ns) file (λ witness. OfLines names ns (values_of (shape_of ns) witness)) o (λ witness. lines_names names ns (values_of (shape_of ns) witness) o) h

module _ (contents : Contents) (pil tables : List ℕ) where
  abbrev pub pair : List Asked
  pair = Opened pil ∷ Opened tables ∷ []

  -- the stage of the tables
  abbrev pub OnText : List Namespace → Outcome → Type 0
  OnText ns o = WithFile pair (contents tables) (2 ^ 48) files.Tables (OfTables pair ns) o

  -- the stage of the text
  abbrev pub OnPil : List ℕ → Outcome → Type 0
  OnPil text o = WithText (Opened pil ∷ []) text OnText o

  pub text_begins : (ns : List Namespace) (o : Outcome) → OnText ns o → Begins pair o
  text_begins ns o h = file_begins pair (contents tables) (2 ^ 48) files.Tables (OfTables pair ns) o (λ file on. begins_exactly pair o (text_names pair ns file o on)) h

  shorter : (o : Outcome) → Begins pair o → Begins (Opened pil ∷ []) o
  shorter o b = record { rest = Opened tables ∷ b.rest; whole = b.whole }

  pub on_pil_begins : (text : List ℕ) (o : Outcome) → OnPil text o → Begins (Opened pil ∷ []) o
  on_pil_begins text o (inl p) = shorter o (text_begins p.0 o p.2)
  on_pil_begins text o (inr q) = begins_exactly (Opened pil ∷ []) o (ap (λ (p : Outcome). p.names) q.2)

  pub pil_begins : (o : Outcome) → WithFile (Opened pil ∷ []) (contents pil) (2 ^ 20) files.Pil OnPil o → Begins (Opened pil ∷ []) o
  pil_begins o h = file_begins (Opened pil ∷ []) (contents pil) (2 ^ 20) files.Pil OnPil o (λ text. on_pil_begins text o) h

  -- the namespaces that were read are the outcome's
  pub text_on : (text : List ℕ) (ns : List Namespace) (o : Outcome) → IsOnlyText text ns → OnPil text o → OnText ns o
  text_on text ns o only (inl p) = subst (λ (m : List Namespace). OnText m o) (only.0 p.0 p.1) p.2
  text_on text ns o only (inr q) = absurd (only.1 q.0 q.1)

  -- the refusal that was told is the outcome's
  pub text_stops : (text : List ℕ) (status : Status) (o : Outcome) (old new : World) → Asks (Opened pil ∷ []) old new → AreReadOut old new → IsTextRefusal text status → OnPil text o → Stops o status old new
  text_stops text status o old new asks read (inl none) h = subst (λ (s : Status). Stops o s old new) (sym none) (inl (front_asked (Opened pil ∷ []) o old new (on_pil_begins text o h) asks))
  text_stops text status o old new asks read (inr told) h = subst (λ (s : Status). Stops o s old new) (sym told.1) (by h)
    where
      by : OnPil text o → Stops o (statuses.BadPil told.0) old new
      by (inl p) = absurd (told.2.0 p.0 p.1)
      by (inr q) = refused_asks (Opened pil ∷ []) (statuses.BadPil told.0) o old new (q.2 ∙ ap (λ (e : PilErr). refused (Opened pil ∷ []) (statuses.BadPil e)) (told.2.1 q.0 q.1)) asks (inr read)
