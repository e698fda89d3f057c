-- A text that breaks no rule reads as its meaning, which is sound.
use Rattle.std.proofs.Common.{ℕ, ◌≡◌, List, arith, sym, ap, ◌∙◌, subst}
use Rattle.pil_syntax.specs.Tree.{Sentence}
use Rattle.pil_syntax.specs.Spelling.{tokens_of}
use Rattle.pil_ast.specs.Term.{Line, Namespace}
use Rattle.pil_ast.specs.Sound.{IsSound, IsAcyclic}
use Rattle.pil_ast.specs.Order.{NamesInside}
use Rattle.pil_cycles.specs.Cycles.{IsOnCycle}
use Rattle.pil_names.specs.Outline.{Outline, outline_of}
use Rattle.pil_meaning.specs.Meaning.{meaning}
use Rattle.pil_meaning.specs.Closed.{NamedIsClosed}
use Rattle.pil_meaning.specs.Given.{TokensHaveNumbers, TokensHaveSigns, TextHasSigns}
use Rattle.pil_meaning.specs.Soundness as sound
use Rattle.pil_text.specs.Refusal.{IsClear}
use Rattle.pil_text.specs.Text.{Reads, IsShort, Spells}
use Rattle.pil_text.proofs.Order.{right}
use Rattle.pil_text.proofs.Spaces.{writable, all_ranked}

pub reads : (text : List ℕ) (ss : List Sentence) (o : Outline) (ns : List Namespace) → Spells text ss → o ≡ outline_of ss → IsClear 9 o → ns ≡ meaning o → Reads text ns
reads text ss o ns spelled same clear meant = record {
  tokens = spelled.tokens;
  statements = ss;
  lexed = spelled.lexed;
  parsed = spelled.parsed;
  means = record { right = right (outline_of ss) (subst (IsClear 9) same clear); meant = meant ∙ ap meaning same };
}

pub short : (text : List ℕ) (ss : List Sentence) → TokensHaveSigns → TextHasSigns → Spells text ss → IsShort text → sound.IsShort (tokens_of ss)
short text ss signs bytes spelled few =
    let a = signs spelled.tokens ss spelled.parsed in
    let b = bytes text spelled.tokens spelled.lexed in
    omega (arith, a, b, few)

pub is_sound : (text : List ℕ) (ss : List Sentence) (o : Outline) (ns : List Namespace) → TokensHaveNumbers → TokensHaveSigns → TextHasSigns → NamedIsClosed → sound.UnbrokenIsSound → ((items : List Line) → NamesInside items → ((k : ℕ) → ¬ IsOnCycle items k) → IsAcyclic items) → Spells text ss → IsShort text → o ≡ outline_of ss → IsClear 9 o → ns ≡ meaning o → IsSound ns
is_sound text ss o ns numbers signs bytes closed law ranked spelled few same clear meant =
    let short_one = short text ss signs bytes spelled few in
    let c = subst (IsClear 9) same clear in
    let all = writable (outline_of ss) (closed ss short_one (c.unknown (omega arith)) (c.mixed (omega arith))) ranked (c.cyclic (omega arith)) in
    let unbroken : sound.IsUnbroken (outline_of ss) = record { unknown = c.unknown (omega arith); bad_rows = c.rows (omega arith); mixed = c.mixed (omega arith); wrong_widths = c.widths (omega arith); acyclic = all_ranked (outline_of ss) all; double = c.double (omega arith) } in
    subst IsSound (sym (meant ∙ ap meaning same)) (law ss spelled.parsed.file (numbers spelled.tokens ss spelled.parsed spelled.valid) short_one unbroken)
