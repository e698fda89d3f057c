-- What the text and the tokens of a file give: its numbers are of the field, it has as many signs as
-- they, and can be counted where they are few.
use Rattle.std.specs.Prelude.{ℕ, ◌≡◌, ◌≤◌, ◌==◌, ◌||◌, Bool, List, All, Ok, count_by}
use Rattle.pil_token.specs.declared.token.Placed.{Placed}
use Rattle.pil_token.specs.Spelled.{IsToken}
use Rattle.pil_token.specs.Tokens.{lexed}
use Rattle.pil_syntax.specs.Tree.{Sentence}
use Rattle.pil_syntax.specs.Spelling.{tokens_of}
use Rattle.pil_syntax.specs.Grammar.{limits}
use Rattle.pil_syntax.specs.Refusal.{Reads}
use Rattle.pil_names.specs.Outline.{outline_of}
use Rattle.pil_names.specs.Directory.{IsCountable}
use Rattle.pil_meaning.specs.Soundness.{HasNumbers, is_sign, IsShort}

abbrev pub TokensHaveNumbers : Type 0
TokensHaveNumbers = (ts : List Placed) (ss : List Sentence) → Reads limits ts ss → All (λ t. IsToken t.token) ts → HasNumbers (outline_of ss)

abbrev pub TokensHaveSigns : Type 0
TokensHaveSigns = (ts : List Placed) (ss : List Sentence) → Reads limits ts ss → count_by is_sign (tokens_of ss) ≡ count_by is_sign ts

-- the characters `;`, `,` and `{`
abbrev pub is_sign_byte : ℕ → Bool
is_sign_byte b = (b == 59) || (b == 44) || (b == 123)

-- a text has as many of them as its tokens, or more in comments
abbrev pub TextHasSigns : Type 0
TextHasSigns = (text : List ℕ) (ts : List Placed) → lexed text ≡ Ok ts → count_by is_sign ts ≤ count_by is_sign_byte text

-- the names of a short file can be counted
abbrev pub ShortIsCountable : Type 0
ShortIsCountable = (ss : List Sentence) → IsShort (tokens_of ss) → IsCountable (outline_of ss)
