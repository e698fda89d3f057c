-- What a text reads as is sound, and its printed text is read as the same.
use Rattle.std.proofs.Common.{ℕ, zero, suc, ◌≡◌, List, [], ◌∷◌, All, map, Ok, arith, refl, sym, subst}
use Rattle.pil_token.specs.declared.token.Mark.{Mark}
use Rattle.pil_token.specs.declared.token.Mark.TheVariants.{Percent, Equals, Semicolon, OpenParen, CloseParen, OpenBrace, CloseBrace, OpenBracket, CloseBracket, Comma, Dot, Prime, Plus, Minus, Star, Colon}
use Rattle.pil_token.specs.declared.token.Token.{Token}
use Rattle.pil_token.specs.declared.token.Token.TheVariants as tokens
use Rattle.pil_token.specs.declared.token.Placed.{Placed}
use Rattle.pil_token.specs.Tokens.{lexed}
use Rattle.pil_token.specs.Spelled.{IsToken}
use Rattle.pil_syntax.specs.Spelling.{seen, kept}
use Rattle.pil_ast.specs.Term.{Line, Namespace, space_at}
use Rattle.pil_ast.specs.Sound.{IsAcyclic, IsSound}
use Rattle.pil_ast.specs.Order.{NamesInside}
use Rattle.pil_cycles.specs.Cycles.{IsOnCycle}
use Rattle.pil_names.specs.Outline.{outline_of}
use Rattle.pil_meaning.specs.Meaning.{meaning}
use Rattle.pil_meaning.specs.Closed.{NamedIsClosed}
use Rattle.pil_meaning.specs.Given.{TokensHaveNumbers, TokensHaveSigns, TextHasSigns}
use Rattle.pil_meaning.specs.Soundness as sound
use Rattle.pil_print.specs.Printed.{printed}
use Rattle.pil_print.specs.Laws.{IsAccepted, IsReadBack, ReadsBack}
use Rattle.pil_text.specs.Refusal.{IsClear}
use Rattle.pil_text.specs.Text.{Reads, IsShort, Spells}
use Rattle.pil_text.proofs.Order.{right, clear_of}
use Rattle.pil_text.proofs.Whole.{short}
use Rattle.pil_text.proofs.Spaces.{writable, all_ranked}

-- what the syntax keeps of a token is the token
seen_token : (t : Token) (i : ℕ) → (kept t i).token ≡ t
seen_token (tokens.Name x) i = refl
seen_token (tokens.Number n) i = refl
seen_token (tokens.Word w) i = refl
seen_token (tokens.Mark m) i = by m
  where
    by : (k : Mark) → (kept (tokens.Mark k) i).token ≡ tokens.Mark k
    by Percent = refl
    by Equals = refl
    by Semicolon = refl
    by OpenParen = refl
    by CloseParen = refl
    by OpenBrace = refl
    by CloseBrace = refl
    by OpenBracket = refl
    by CloseBracket = refl
    by Comma = refl
    by Dot = refl
    by Prime = refl
    by Plus = refl
    by Minus = refl
    by Star = refl
    by Colon = refl

seen_valid : (ts : List Placed) → All (λ t. IsToken t.token) ts → All (λ t. IsToken t.token) (map seen ts)
seen_valid [] h k d l = absurd (omega (arith, l))
seen_valid (t ∷ ts) h zero d l = subst IsToken (sym (seen_token t.token t.at)) (h zero t (omega arith))
seen_valid (t ∷ ts) h (suc k) d l = seen_valid ts (λ j e m. h (suc j) e (omega (arith, m))) k d (omega (arith, l))

module _ (numbers : TokensHaveNumbers) (signs : TokensHaveSigns) (bytes : TextHasSigns) (closed : NamedIsClosed) (ranked : (items : List Line) → NamesInside items → ((k : ℕ) → ¬ IsOnCycle items k) → IsAcyclic items) (valid : (text : List ℕ) (ts : List Placed) → lexed text ≡ Ok ts → All (λ t. IsToken t.token) ts) where
  abbrev spelled : (text : List ℕ) (ns : List Namespace) (r : Reads text ns) → Spells text r.statements
  spelled text ns r = record { tokens = r.tokens; lexed = r.lexed; valid = valid text r.tokens r.lexed; parsed = r.parsed }

  accepted : (text : List ℕ) (ns : List Namespace) → IsShort text → (r : Reads text ns) → IsAccepted r.statements
  accepted text ns few r =
      let s = spelled text ns r in
      let short_one = short text r.statements signs bytes s few in
      let o = outline_of r.statements in
      let c = clear_of o r.means.right in
      let all = writable o (closed r.statements short_one (c.unknown (omega arith)) (c.mixed (omega arith))) ranked (c.cyclic (omega arith)) in
      record {
        tokens = subst (λ ts. All (λ t. IsToken t.token) ts) r.parsed.spelled (seen_valid r.tokens s.valid);
        file = r.parsed.file;
        numbers = numbers r.tokens r.statements r.parsed s.valid;
        short = short_one;
        repeated = c.repeated (omega arith);
        unbroken = record { unknown = c.unknown (omega arith); bad_rows = c.rows (omega arith); mixed = c.mixed (omega arith); wrong_widths = c.widths (omega arith); acyclic = all_ranked o all; double = c.double (omega arith) };
      }

  pub sound_text : sound.UnbrokenIsSound → (text : List ℕ) (ns : List Namespace) → IsShort text → Reads text ns → IsSound ns
  sound_text is_sound text ns few r =
      let a = accepted text ns few r in
      subst IsSound (sym r.means.meant) (is_sound r.statements a.file a.numbers a.short a.unbroken)

  module _ (no_cycle : (items : List Line) → IsAcyclic items → (k : ℕ) → ¬ IsOnCycle items k) (law : ReadsBack) where
    back : (text : List ℕ) (ns : List Namespace) → IsShort text → Reads text ns → IsReadBack ns
    back text ns few r = subst IsReadBack (sym r.means.meant) (law r.statements (accepted text ns few r))

    pub reads_back : (text : List ℕ) (ns : List Namespace) → IsShort text → Reads text ns → Reads (printed ns) ns
    reads_back text ns few r =
        let b = back text ns few r in
        let o = outline_of b.statements in
        let u = b.unbroken in
        let clear : IsClear 9 o = record { repeated = λ l. b.repeated; unknown = λ l. u.unknown; rows = λ l. u.bad_rows; mixed = λ l. u.mixed; widths = λ l. u.wrong_widths; cyclic = λ l at c. no_cycle (space_at (meaning o) c.0).items (u.acyclic c.0) c.1.item c.1.cycle; double = λ l. u.double } in
        record { tokens = b.tokens; statements = b.statements; lexed = b.lexed; parsed = b.reads; means = record { right = right o clear; meant = sym b.same } }

    pub few_signs : (text : List ℕ) (ns : List Namespace) → IsShort text → Reads text ns → IsShort (printed ns)
    few_signs text ns few r = (back text ns few r).few
