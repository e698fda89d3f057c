-- What is true of each printed text.
use Rattle.std.specs.Prelude.{◌≡◌, ◌≤◌, ◌^◌, false, List, [], map, count_by, All, Ok}
use Rattle.pil_token.specs.declared.token.Placed.{Placed}
use Rattle.pil_token.specs.Spelled.{IsToken}
use Rattle.pil_token.specs.Tokens.{lexed}
use Rattle.pil_syntax.specs.Tree.{Sentence}
use Rattle.pil_syntax.specs.Spelling.{tokens_of}
use Rattle.pil_syntax.specs.Grammar.{limits, IsFile}
use Rattle.pil_syntax.specs.Placeless.{token_of}
use Rattle.pil_syntax.specs.Refusal.{Reads}
use Rattle.pil_ast.specs.Term.{Namespace}
use Rattle.pil_names.specs.Outline.{outline_of}
use Rattle.pil_names.specs.Wrongs.{repeated}
use Rattle.pil_meaning.specs.Meaning.{meaning}
use Rattle.pil_meaning.specs.Soundness.{HasNumbers, IsShort, IsUnbroken}
use Rattle.pil_meaning.specs.Given.{is_sign_byte}
use Rattle.pil_print.specs.Statements.{sentences_of}
use Rattle.pil_print.specs.Printed.{text_of, printed}

-- the text of statements has their tokens, which may stand at other places
abbrev pub IsReadAsTokens : Type 0
IsReadAsTokens = (ss : List Sentence) → All (λ t. IsToken t.token) (tokens_of ss) → (ts : List Placed) × (lexed (text_of ss) ≡ Ok ts) × (map token_of ts ≡ map token_of (tokens_of ss))

-- statements that are no reason for a refusal
pub record IsAccepted (ss : List Sentence) : Type 0 where
  pub tokens : All (λ t. IsToken t.token) (tokens_of ss)
  pub file : IsFile limits false ss
  pub numbers : HasNumbers (outline_of ss)
  pub short : IsShort (tokens_of ss)
  pub repeated : repeated (outline_of ss) ≡ []
  pub unbroken : IsUnbroken (outline_of ss)

-- the meaning of such statements is printed as such statements, which mean the same
pub record IsReprinted (ss : List Sentence) : Type 0 where
  pub accepted : IsAccepted (sentences_of (meaning (outline_of ss)))
  pub same : meaning (outline_of (sentences_of (meaning (outline_of ss)))) ≡ meaning (outline_of ss)

abbrev pub KeepsMeaning : Type 0
KeepsMeaning = (ss : List Sentence) → IsAccepted ss → IsReprinted ss

-- the printed text of a meaning has few `;`, `,` and `{` and is read as statements within the limits, which break no
-- rule and have this meaning
pub record IsReadBack (ns : List Namespace) : Type 0 where
  pub tokens : List Placed
  pub statements : List Sentence
  pub lexed : lexed (printed ns) ≡ Ok tokens
  pub reads : Reads limits tokens statements
  pub few : count_by is_sign_byte (printed ns) ≤ 2 ^ 20
  pub short : IsShort tokens
  pub repeated : repeated (outline_of statements) ≡ []
  pub unbroken : IsUnbroken (outline_of statements)
  pub same : meaning (outline_of statements) ≡ ns

abbrev pub ReadsBack : Type 0
ReadsBack = (ss : List Sentence) → IsAccepted ss → IsReadBack (meaning (outline_of ss))
