-- Tokens, blanks and comments in words, and that the longest bytes at the front that spell a token are taken.
use Rattle.std.specs.Prelude.{◌≡◌, ◌<◌, ◌≤◌, ◌⊎◌, ℕ, List, [], ◌∷◌, ◌++◌, ◌+◌, length, take, drop, codes, not, nat_eq, IsTrue}
use Rattle.std.specs.List.{list_all, starts_with}
use Rattle.std.specs.Str.Parse.{IsNumeral, digits_value}
use Rattle.pil_token.specs.declared.token.Token.{Token}
use Rattle.pil_token.specs.declared.token.Token.TheVariants as token
use Rattle.pil_token.specs.declared.token.Piece.{Piece}
use Rattle.pil_token.specs.declared.token.Piece.TheVariants.{Blank, Whole, Broken}
use Rattle.pil_token.specs.declared.token.LexKind.TheVariants.{BadByte, NumberTooLarge, NoMemory}
use Rattle.pil_token.specs.Spelling.{IsName, word_bytes, mark_byte}
use Rattle.pil_token.specs.Spelled.{IsToken}
use Rattle.pil_token.specs.Tokens.{is_blank, is_feed}

-- decimal digits that write n
abbrev pub IsDecimal : ℕ → List ℕ → Type 0
IsDecimal n bs = IsNumeral 10 bs × (digits_value 10 bs ≡ n)

-- `0x` and hexadecimal digits that write n
abbrev pub IsHexadecimal : ℕ → List ℕ → Type 0
IsHexadecimal n bs = (ds : List ℕ) × (bs ≡ codes "0x" ++ ds) × IsNumeral 16 ds × (digits_value 16 ds ≡ n)

-- the bytes are this token, however large its number
abbrev pub Spells : Token → List ℕ → Type 0
Spells (token.Name n) bs = IsName bs × (n ≡ bs)
Spells (token.Number n) bs = IsDecimal n bs ⊎ IsHexadecimal n bs
Spells (token.Word w) bs = bs ≡ word_bytes w
Spells (token.Mark m) bs = bs ≡ mark_byte m ∷ []

-- the first n bytes are this token, and no more of them are any
pub record IsLongest (bs : List ℕ) (t : Token) (n : ℕ) : Type 0 where
  pub spelled : Spells t (take n bs)
  pub longest : (k : ℕ) (u : Token) → k ≤ length bs → Spells u (take k bs) → k ≤ n

-- no first bytes are a token
abbrev pub BeginsNone : List ℕ → Type 0
BeginsNone bs = (k : ℕ) (u : Token) → Spells u (take k bs) → ⊥

-- `*/` stands at place i
abbrev pub ClosesAt : List ℕ → ℕ → Type 0
ClosesAt bs i = IsTrue (starts_with nat_eq (drop i bs) (codes "*/"))

-- a line feed comes first, or nothing
abbrev pub EndsAtFeed : List ℕ → Type 0
EndsAtFeed [] = Unit {0}
EndsAtFeed (b ∷ bs) = b ≡ 10

-- the first n bytes are one blank
abbrev pub IsOneBlank : List ℕ → ℕ → Type 0
IsOneBlank bs n = (b : ℕ) × (take n bs ≡ b ∷ []) × IsTrue (is_blank b)

-- they are a `//` and all that its line has
abbrev pub IsLineComment : List ℕ → ℕ → Type 0
IsLineComment bs n = IsTrue (starts_with nat_eq bs (codes "//")) × IsTrue (list_all (λ b. not (is_feed b)) (take n bs)) × EndsAtFeed (drop n bs)

-- they are a `/*` and all up to the first `*/` behind it
abbrev pub IsBlockComment : List ℕ → ℕ → Type 0
IsBlockComment bs n = IsTrue (starts_with nat_eq bs (codes "/*")) × (i : ℕ) × (n ≡ i + 4) × ClosesAt (drop 2 bs) i × ((j : ℕ) → j < i → ClosesAt (drop 2 bs) j → ⊥)

-- they are a blank or a comment
abbrev pub IsPassedOver : List ℕ → ℕ → Type 0
IsPassedOver bs n = IsOneBlank bs n ⊎ (IsLineComment bs n ⊎ IsBlockComment bs n)

-- what a piece says of a text: a blank or comment and no token; or the longest bytes that spell a
-- token, with a number below the order of the field or not; or neither token, blank nor comment
abbrev pub IsFront : List ℕ → Piece → Type 0
IsFront bs (Blank n) = BeginsNone bs × IsPassedOver bs n
IsFront bs (Whole t n) = IsLongest bs t n × IsToken t
IsFront bs (Broken BadByte) = BeginsNone bs × ((n : ℕ) → IsPassedOver bs n → ⊥)
IsFront bs (Broken NumberTooLarge) = (v : ℕ) × (n : ℕ) × IsLongest bs (token.Number v) n × (18446744069414584321 ≤ v)
IsFront bs (Broken NoMemory) = ⊥
