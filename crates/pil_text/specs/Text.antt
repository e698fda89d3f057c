-- What a text reads as, and how it fails: by its tokens, its grammar, or a rule of names.
use Rattle.std.specs.Prelude.{ℕ, ◌≤◌, ◌^◌, ◌≡◌, ◌==◌, ◌||◌, Bool, List, length, count_by, All, ◌⊎◌, Ok, Err}
use Rattle.pil_token.specs.declared.token.Placed.{Placed}
use Rattle.pil_token.specs.declared.token.LexErr.{LexErr}
use Rattle.pil_token.specs.declared.token.LexKind.{LexKind}
use Rattle.pil_token.specs.declared.token.LexKind.TheVariants as lex
use Rattle.pil_token.specs.Tokens.{lexed}
use Rattle.pil_token.specs.Spelled.{IsToken}
use Rattle.pil_syntax.specs.declared.tree.SyntaxErr.{SyntaxErr}
use Rattle.pil_syntax.specs.declared.tree.SyntaxErrKind.{SyntaxErrKind}
use Rattle.pil_syntax.specs.declared.tree.SyntaxErrKind.TheVariants as syntax
use Rattle.pil_syntax.specs.Tree.{Sentence}
use Rattle.pil_syntax.specs.Grammar.{limits}
use Rattle.pil_syntax.specs.Refusal as grammar
use Rattle.pil_ast.specs.Term.{Namespace}
use Rattle.pil_names.specs.Outline.{outline_of}
use Rattle.pil_text.specs.declared.error.PilErr.{PilErr}
use Rattle.pil_text.specs.declared.error.PilKind.{PilKind}
use Rattle.pil_text.specs.declared.error.PilKind.TheVariants.{BadByte, NumberTooLarge, Unexpected, TooDeep, NoMemory}
use Rattle.pil_text.specs.Refusal.{Means, Breaks}

abbrev pub kind_of_lex : LexKind → PilKind
kind_of_lex lex.BadByte = BadByte
kind_of_lex lex.NumberTooLarge = NumberTooLarge
kind_of_lex lex.NoMemory = NoMemory

abbrev pub kind_of_syntax : SyntaxErrKind → PilKind
kind_of_syntax syntax.Unexpected = Unexpected
kind_of_syntax syntax.TooDeep = TooDeep
kind_of_syntax syntax.NoMemory = NoMemory

-- the text is spelled by statements that break no rule, and these are its namespaces
pub record Reads (text : List ℕ) (ns : List Namespace) : Type 0 where
  pub tokens : List Placed
  pub statements : List Sentence
  pub lexed : lexed text ≡ Ok tokens
  pub parsed : grammar.Reads limits tokens statements
  pub means : Means (outline_of statements) ns

-- a place begins no token
pub record FailsAsTokens (text : List ℕ) (e : PilErr) : Type 0 where
  pub fault : LexErr
  pub lexed : lexed text ≡ Err fault
  pub kind : e.kind ≡ kind_of_lex fault.kind
  pub at : e.at ≡ fault.at

-- a token is refused by the grammar
pub record FailsAsFile (text : List ℕ) (e : PilErr) : Type 0 where
  pub tokens : List Placed
  pub fault : SyntaxErr
  pub lexed : lexed text ≡ Ok tokens
  pub parsed : grammar.Refuses limits tokens (length text) fault
  pub kind : e.kind ≡ kind_of_syntax fault.kind
  pub at : e.at ≡ fault.at

-- a rule of names is broken
pub record FailsAsNames (text : List ℕ) (e : PilErr) : Type 0 where
  pub tokens : List Placed
  pub statements : List Sentence
  pub lexed : lexed text ≡ Ok tokens
  pub parsed : grammar.Reads limits tokens statements
  pub breaks : Breaks (outline_of statements) e

abbrev pub Fails : List ℕ → PilErr → Type 0
Fails text e = FailsAsTokens text e ⊎ (FailsAsFile text e ⊎ FailsAsNames text e)

-- the characters `;`, `,` and `{`
abbrev pub is_sign : ℕ → Bool
is_sign b = (b == 59) || (b == 44) || (b == 123)

-- how many of them a text has
abbrev pub signs : List ℕ → ℕ
signs text = count_by is_sign text

abbrev pub IsShort : List ℕ → Type 0
IsShort text = signs text ≤ 2 ^ 20

-- the tokens of the text, and the statements that they spell
pub record Spells (text : List ℕ) (statements : List Sentence) : Type 0 where
  pub tokens : List Placed
  pub lexed : lexed text ≡ Ok tokens
  pub valid : All (λ t. IsToken t.token) tokens
  pub parsed : grammar.Reads limits tokens statements

-- A text reads as one list of namespaces, or fails in one way, and not both.
pub record IsDecided (text : List ℕ) : Type 0 where
  pub some : ((ns : List Namespace) × Reads text ns) ⊎ ((e : PilErr) × Fails text e)
  pub one_reading : (a b : List Namespace) → Reads text a → Reads text b → a ≡ b
  pub one_refusal : (a b : PilErr) → Fails text a → Fails text b → a ≡ b
  pub not_both : (ns : List Namespace) (e : PilErr) → Reads text ns → Fails text e → ⊥
