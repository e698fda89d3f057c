-- How tokens are spelled, and what makes their spelling read back.
use Rattle.std.specs.Prelude.{◌≡◌, ◌<◌, ◌+◌, ℕ, List, [], ◌∷◌, ◌++◌, length, map, Bool, true, false, ◌&&◌, decimal, All, Ok}
use Rattle.std.specs.List.{list_all}
use Rattle.pil_token.specs.declared.token.Token.{Token}
use Rattle.pil_token.specs.declared.token.Token.TheVariants as token
use Rattle.pil_token.specs.declared.token.Placed.{Placed}
use Rattle.pil_token.specs.Spelling.{IsName, continues_name, word_bytes, mark_byte}
use Rattle.pil_token.specs.Tokens.{after, is_blank, lexed, lexed_from}

-- a token that a text can have: a name's bytes are a name, a number is below the order of the field
abbrev pub IsToken : Token → Type 0
IsToken (token.Name n) = IsName n
IsToken (token.Number n) = n < 18446744069414584321
IsToken (token.Word w) = Unit {0}
IsToken (token.Mark m) = Unit {0}

-- the bytes of a token; a number in decimal
abbrev pub spelling : Token → List ℕ
spelling (token.Name n) = n
spelling (token.Number n) = decimal n
spelling (token.Word w) = word_bytes w
spelling (token.Mark m) = mark_byte m ∷ []

-- the first byte is a letter, a digit or `_`
abbrev pub starts_word : List ℕ → Bool
starts_word [] = false
starts_word (b ∷ bs) = continues_name b

-- the last byte is one
abbrev pub ends_word : List ℕ → Bool
ends_word [] = false
ends_word (b ∷ []) = continues_name b
ends_word (b ∷ c ∷ bs) = ends_word (c ∷ bs)

-- no name or number goes on from the first bytes into the others
abbrev pub IsApart : List ℕ → List ℕ → Type 0
IsApart a b = (ends_word a && starts_word b) ≡ false

-- in front of any bytes that are apart from it, the text is these tokens
abbrev pub LexesTo : List ℕ → List Token → Type 0
LexesTo text ts =
    (at : ℕ) (rest : List ℕ) → IsApart text rest
    → (ps : List Placed) × (map (λ p. p.token) ps ≡ ts) × (lexed_from 0 at (text ++ rest) ≡ after ps (lexed_from 0 (at + length text) rest))

-- the tokens that are read of a text are tokens that a text can have
abbrev pub TextHasTokens : Type 0
TextHasTokens = (text : List ℕ) (ts : List Placed) → lexed text ≡ Ok ts → All (λ t. IsToken t.token) ts

-- the spelling of a token is this token
abbrev pub SpellingLexes : Type 0
SpellingLexes = (t : Token) → IsToken t → LexesTo (spelling t) (t ∷ [])

-- a blank is no token
abbrev pub BlankLexes : Type 0
BlankLexes = (b : ℕ) → is_blank b ≡ true → LexesTo (b ∷ []) []

-- texts that are apart have the tokens of one, then those of the other
abbrev pub ApartLexes : Type 0
ApartLexes = (a b : List ℕ) (ts us : List Token) → 0 < length b → IsApart a b → LexesTo a ts → LexesTo b us → LexesTo (a ++ b) (ts ++ us)

-- and with nothing behind it a text has its tokens alone
abbrev pub WholeLexes : Type 0
WholeLexes = (text : List ℕ) (ts : List Token) → LexesTo text ts → (ps : List Placed) × (map (λ p. p.token) ps ≡ ts) × (lexed text ≡ Ok ps)

abbrev pub is_mark : Token → Bool
is_mark (token.Mark m) = true
is_mark _ = false

-- but for the marks, tokens are spelled in letters, digits and `_`
abbrev pub SpellingContinues : Type 0
SpellingContinues = (t : Token) → IsToken t → is_mark t ≡ false → list_all continues_name (spelling t) ≡ true
