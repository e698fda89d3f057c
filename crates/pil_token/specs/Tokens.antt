-- What a text is as tokens: what begins at each place, one after another.
use Rattle.std.specs.Prelude.{◌≡◌, ◌==◌, ℕ, zero, suc, ◌+◌, ◌-◌, List, [], ◌∷◌, ◌++◌, length, drop, Bool, ◌||◌, not, Result, Ok, Err, Option, Some, None, nat_lt, if◌then◌else◌, codes, take_while, nat_eq}
use Rattle.std.specs.List.{starts_with}
use Rattle.std.specs.Char.{is_digit}
use Rattle.std.specs.Str.Parse.{digits_value}
use Rattle.pil_token.specs.Spelling.{begins_name, continues_name, word_of, mark_of}
use Rattle.pil_token.specs.declared.token.Token.{Token}
use Rattle.pil_token.specs.declared.token.Token.TheVariants as token
use Rattle.pil_token.specs.declared.token.Word.{Word}
use Rattle.pil_token.specs.declared.token.Mark.{Mark}
use Rattle.pil_token.specs.declared.token.Piece.{Piece}
use Rattle.pil_token.specs.declared.token.Piece.TheVariants.{Blank, Whole, Broken}
use Rattle.pil_token.specs.declared.token.LexKind.{LexKind}
use Rattle.pil_token.specs.declared.token.LexKind.TheVariants.{BadByte, NumberTooLarge, NoMemory}
use Rattle.pil_token.specs.declared.token.Placed.{Placed}
use Rattle.pil_token.specs.declared.token.LexErr.{LexErr}

-- a blank is a space, a tab, a line feed or a carriage return
abbrev pub is_blank : ℕ → Bool
is_blank b = b == 32 || b == 9 || b == 10 || b == 13

-- a reserved word, or else the name of these bytes
abbrev pub worded : Option Word → List ℕ → Token
worded (Some w) bs = token.Word w
worded None bs = token.Name bs

abbrev pub word_like : List ℕ → Piece
word_like bs = Whole (worded (word_of bs) bs) (length bs)

-- the digits at the front
abbrev pub digits_at : ℕ → List ℕ → List ℕ
digits_at radix bs = take_while (λ c. is_digit c radix) bs

-- a number of so many bytes, below the order of the field
abbrev pub numbered : ℕ → ℕ → Piece
numbered n size = if nat_lt n 18446744069414584321 then Whole (token.Number n) size else Broken NumberTooLarge

-- the hexadecimal digits behind a `0x` at the front, none where no `0x` stands there
abbrev pub hexadecimal_at : List ℕ → List ℕ
hexadecimal_at bs = if starts_with nat_eq bs (codes "0x") then digits_at 16 (drop 2 bs) else []

-- the number at the front; `0x` with no digit behind it is the number 0
abbrev pub numeral : List ℕ → Piece
numeral bs =
    if nat_lt 0 (length (hexadecimal_at bs)) then numbered (digits_value 16 (hexadecimal_at bs)) (2 + length (hexadecimal_at bs))
    else numbered (digits_value 10 (digits_at 10 bs)) (length (digits_at 10 bs))

-- a count from so many bytes further on
abbrev pub further : ℕ → Option ℕ → Option ℕ
further n None = None
further n (Some k) = Some (n + k)

-- how many bytes there are up to the end of the first `*/`
abbrev pub closed : List ℕ → Option ℕ
closed [] = None
closed (b ∷ bs) = if starts_with nat_eq (b ∷ bs) (codes "*/") then Some 2 else further 1 (closed bs)

abbrev pub enclosed : Option ℕ → Piece
enclosed None = Broken BadByte
enclosed (Some n) = Blank (n + 2)

abbrev pub is_feed : ℕ → Bool
is_feed b = b == 10

-- the comment that a slash begins, by the bytes behind the slash
abbrev pub comment : List ℕ → Piece
comment bs =
    if starts_with nat_eq bs (codes "/") then Blank (1 + length (take_while (λ b. not (is_feed b)) bs))
    else if starts_with nat_eq bs (codes "*") then enclosed (closed (drop 1 bs))
    else Broken BadByte

abbrev pub marked : Option Mark → Piece
marked (Some m) = Whole (token.Mark m) 1
marked None = Broken BadByte

-- what begins at the front of these bytes
unfoldable pub begins : List ℕ → Piece
begins [] = Broken BadByte
begins (b ∷ bs) =
    if is_blank b then Blank 1
    else if b == 47 then comment bs
    else if begins_name b then word_like (take_while continues_name (b ∷ bs))
    else if is_digit b 10 then numeral (b ∷ bs)
    else marked (mark_of b)

-- how many bytes a piece takes
abbrev pub size : Piece → ℕ
size (Blank n) = n
size (Whole t n) = n
size (Broken k) = 1

-- a token before the others
abbrev pub led : Placed → Result (List Placed) LexErr → Result (List Placed) LexErr
led t (Ok ts) = Ok (t ∷ ts)
led t (Err e) = Err e

-- the tokens from place `at` on, by what begins there and what follows the bytes passed over
abbrev pub pieced : Piece → ℕ → (ℕ → Result (List Placed) LexErr) → Result (List Placed) LexErr
pieced (Blank n) at follows = follows (n - 1)
pieced (Whole t n) at follows = led (record { token = t; at = at }) (follows (n - 1))
pieced (Broken k) at follows = Err (record { kind = k; at = at })

-- the tokens of the bytes from place `at` on, after so many bytes that are passed over
abbrev pub lexed_from : ℕ → ℕ → List ℕ → Result (List Placed) LexErr
lexed_from passed at [] = Ok []
lexed_from (suc k) at (b ∷ bs) = lexed_from k (at + 1) bs
lexed_from zero at (b ∷ bs) = pieced (begins (b ∷ bs)) at (λ k. lexed_from k (at + 1) bs)

-- the tokens of a text, or the first place that begins none
abbrev pub lexed : List ℕ → Result (List Placed) LexErr
lexed text = lexed_from 0 0 text

-- tokens before what is read of the rest
abbrev pub after : List Placed → Result (List Placed) LexErr → Result (List Placed) LexErr
after ts (Ok us) = Ok (ts ++ us)
after ts (Err e) = Err e

-- the kind and place of a refusal are those of the text, but for want of memory
abbrev pub Refuses : Result (List Placed) LexErr → LexKind → ℕ → Type 0
Refuses read NoMemory at = at ≡ 0
Refuses read BadByte at = read ≡ Err (record { kind = BadByte; at = at })
Refuses read NumberTooLarge at = read ≡ Err (record { kind = NumberTooLarge; at = at })
