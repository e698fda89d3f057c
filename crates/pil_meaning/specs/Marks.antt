-- The places of marks on an intermediate whose expression has a mark when it is written out: the row after the
-- next has no value (docs/PIL.md, "Refusals").
use Rattle.std.specs.Prelude.{ℕ, ◌≡◌, ◌<◌, ◌^◌, List, [], length, flat_map, slice_index_or, All, not, Bool, false, Option, Some, None}
use Rattle.pil_syntax.specs.declared.tree.Reference.{Reference}
use Rattle.pil_syntax.specs.Tree.{Term}
use Rattle.pil_ast.specs.Term as ast
use Rattle.pil_ast.specs.Written.{marked}
use Rattle.pil_ast.specs.Sound.{IsAcyclic}
use Rattle.pil_ast.specs.Order.{NamesInside}
use Rattle.pil_names.specs.Outline.{Draft, Outline}
use Rattle.pil_names.specs.Wrongs.{each_item, each_name, unless, terms_of}
use Rattle.pil_meaning.specs.Meaning.{read_reference, meaning}

-- whether the item k of these has a mark when it is written out
abbrev pub is_marked_in : List ast.Line → ℕ → Bool
is_marked_in items k = marked items (ast.inter_at items k)

-- a mark at this place on what is read so
abbrev pub double_of : List ast.Namespace → ast.Term → ℕ → List ℕ
double_of ns (ast.mid m k b) at = unless (not (is_marked_in (ast.space_at ns m).items k)) at
double_of ns _ at = []

abbrev pub double_at : List ast.Namespace → ast.Term → Option ℕ → List ℕ
double_at ns e None = []
double_at ns e (Some at) = double_of ns e at

-- a reference from the namespace s
abbrev pub double_reference : Outline → ℕ → Reference → List ℕ
double_reference o s r = double_at (meaning o) (read_reference o s r) r.next

abbrev pub double_in_term : Outline → ℕ → Term → List ℕ
double_in_term o s e = each_name (double_reference o s) (λ x. []) (λ x. []) e

abbrev pub double_in_draft : Outline → ℕ → Draft → List ℕ
double_in_draft o s d = flat_map (double_in_term o s) (terms_of d)

abbrev pub double : Outline → List ℕ
double o = each_item (double_in_draft o) o

-- a list tells of each item whether it has a mark when it is written out
abbrev pub AreMarks : List ast.Line → List Bool → Type 0
AreMarks items marks = (k : ℕ) → slice_index_or marks k false ≡ is_marked_in items k

-- what lists of marks have for the item k of the namespace s
abbrev pub mark_in : List (List Bool) → ℕ → ℕ → Bool
mark_in marks s k = slice_index_or (slice_index_or marks s []) k false

-- such a list for each namespace
abbrev pub AreAllMarks : List ast.Namespace → List (List Bool) → Type 0
AreAllMarks ns marks = (s k : ℕ) → mark_in marks s k ≡ is_marked_in (ast.space_at ns s).items k

-- the intermediates of these items can be written out
pub record IsWritable (items : List ast.Line) : Type 0 where
  pub few : length items < 2 ^ 32
  pub inside : NamesInside items
  pub acyclic : IsAcyclic items

-- those of each namespace
abbrev pub AreWritable : List ast.Namespace → Type 0
AreWritable ns = All (λ n. IsWritable n.items) ns
