-- A text has the signs of its tokens.
use Rattle.std.proofs.Common.{ℕ, zero, suc, ◌≡◌, ◌≤◌, ◌+◌, ◌-◌, List, [], ◌∷◌, length, drop, sum_by, cond, Bool, true, false, Result, Ok, Err, Option, Some, None, refl, sym, subst, arith}
use Rattle.std.specs.Prelude.{◌==◌, if◌then◌else◌, take_while, nat_lt, codes, nat_eq, not}
use Rattle.std.specs.List.{starts_with}
use Rattle.std.specs.Char.{is_digit}
use Rattle.std.specs.Str.Parse.{digits_value}
use Rattle.std.proofs.lemmas.Bool.{eqb-true, false≢true}
use Rattle.std.proofs.lemmas.List.Sums.{sum_by-cons}
use Rattle.pil_token.specs.declared.token.Mark.{Mark}
use Rattle.pil_token.specs.declared.token.Mark.TheVariants.{Percent, Equals, Semicolon, OpenParen, CloseParen, OpenBrace, CloseBrace, OpenBracket, CloseBracket, Comma, Dot, Prime, Plus, Minus, Star, Colon}
use Rattle.pil_token.specs.declared.token.Word.{Word}
use Rattle.pil_token.specs.declared.token.Token.{Token}
use Rattle.pil_token.specs.declared.token.Token.TheVariants as tokens
use Rattle.pil_token.specs.declared.token.Piece.{Piece}
use Rattle.pil_token.specs.declared.token.Piece.TheVariants.{Blank, Whole, Broken}
use Rattle.pil_token.specs.declared.token.LexKind.TheVariants.{BadByte, NumberTooLarge}
use Rattle.pil_token.specs.declared.token.LexErr.{LexErr}
use Rattle.pil_token.specs.declared.token.Placed.{Placed}
use Rattle.pil_token.specs.Spelling.{begins_name, continues_name, word_of, mark_of}
use Rattle.pil_token.specs.Tokens.{is_blank, worded, word_like, digits_at, numbered, hexadecimal_at, numeral, closed, enclosed, is_feed, comment, marked, begins, led, pieced, lexed_from}
use Rattle.pil_meaning.specs.Soundness.{is_sign_of}
use Rattle.pil_meaning.specs.Given.{is_sign_byte, TextHasSigns}
use Rattle.pil_meaning.proofs.Signs.{weight}

module _ {A : Type 0} (P : A → Type 0) where
  if_case : (c : Bool) (x y : A) → (c ≡ true → P x) → P y → P (if c then x else y)
  if_case true x y f g = f refl
  if_case false x y f g = g

-- a token that is a sign begins with its character
abbrev IsSignOf : ℕ → Token → Type 0
IsSignOf b t = is_sign_of t ≡ true → is_sign_byte b ≡ true

abbrev IsMarkOf : ℕ → Option Mark → Type 0
IsMarkOf b None = Unit {0}
IsMarkOf b (Some m) = IsSignOf b (tokens.Mark m)

abbrev IsPieceOf : ℕ → Piece → Type 0
IsPieceOf b (Blank n) = Unit {0}
IsPieceOf b (Whole t n) = IsSignOf b t
IsPieceOf b (Broken k) = Unit {0}

no-sign : {P : Type 0} → false ≡ true → P
no-sign e = absurd (false≢true e)

at-byte : (b k : ℕ) → is_sign_byte k ≡ true → (b == k) ≡ true → is_sign_byte b ≡ true
at-byte b k s e = subst (λ c. is_sign_byte c ≡ true) (sym (eqb-true b k e)) s

marks : (b : ℕ) → IsMarkOf b (mark_of b)
unfolding mark_of
marks b =
    if_case (IsMarkOf b) (b == 37) (Some Percent) _ (λ c e. no-sign e)
    (if_case (IsMarkOf b) (b == 61) (Some Equals) _ (λ c e. no-sign e)
    (if_case (IsMarkOf b) (b == 59) (Some Semicolon) _ (λ c e. at-byte b 59 refl c)
    (if_case (IsMarkOf b) (b == 40) (Some OpenParen) _ (λ c e. no-sign e)
    (if_case (IsMarkOf b) (b == 41) (Some CloseParen) _ (λ c e. no-sign e)
    (if_case (IsMarkOf b) (b == 123) (Some OpenBrace) _ (λ c e. at-byte b 123 refl c)
    (if_case (IsMarkOf b) (b == 125) (Some CloseBrace) _ (λ c e. no-sign e)
    (if_case (IsMarkOf b) (b == 91) (Some OpenBracket) _ (λ c e. no-sign e)
    (if_case (IsMarkOf b) (b == 93) (Some CloseBracket) _ (λ c e. no-sign e)
    (if_case (IsMarkOf b) (b == 44) (Some Comma) _ (λ c e. at-byte b 44 refl c)
    (if_case (IsMarkOf b) (b == 46) (Some Dot) _ (λ c e. no-sign e)
    (if_case (IsMarkOf b) (b == 39) (Some Prime) _ (λ c e. no-sign e)
    (if_case (IsMarkOf b) (b == 43) (Some Plus) _ (λ c e. no-sign e)
    (if_case (IsMarkOf b) (b == 45) (Some Minus) _ (λ c e. no-sign e)
    (if_case (IsMarkOf b) (b == 42) (Some Star) _ (λ c e. no-sign e)
    (if_case (IsMarkOf b) (b == 58) (Some Colon) _ (λ c e. no-sign e)
    tt)))))))))))))))

mark-piece : (b : ℕ) (o : Option Mark) → IsMarkOf b o → IsPieceOf b (marked o)
mark-piece b None h = tt
mark-piece b (Some m) h = h

word-piece : (b n : ℕ) (o : Option Word) (bs : List ℕ) → IsPieceOf b (Whole (worded o bs) n)
word-piece b n None bs e = no-sign e
word-piece b n (Some w) bs e = no-sign e

number-piece : (b n size : ℕ) → IsPieceOf b (numbered n size)
number-piece b n size = if_case (IsPieceOf b) (nat_lt n 18446744069414584321) (Whole (tokens.Number n) size) (Broken NumberTooLarge) (λ c e. no-sign e) tt

numeral-piece : (b : ℕ) (bs : List ℕ) → IsPieceOf b (numeral bs)
numeral-piece b bs =
    if_case (IsPieceOf b) (nat_lt 0 (length (hexadecimal_at bs))) (numbered (digits_value 16 (hexadecimal_at bs)) (2 + length (hexadecimal_at bs))) (numbered (digits_value 10 (digits_at 10 bs)) (length (digits_at 10 bs)))
    (λ c. number-piece b (digits_value 16 (hexadecimal_at bs)) (2 + length (hexadecimal_at bs))) (number-piece b (digits_value 10 (digits_at 10 bs)) (length (digits_at 10 bs)))

enclosed-piece : (b : ℕ) (o : Option ℕ) → IsPieceOf b (enclosed o)
enclosed-piece b None = tt
enclosed-piece b (Some n) = tt

comment-piece : (b : ℕ) (bs : List ℕ) → IsPieceOf b (comment bs)
comment-piece b bs =
    if_case (IsPieceOf b) (starts_with nat_eq bs (codes "/")) (Blank (1 + length (take_while (λ b. not (is_feed b)) bs))) (if starts_with nat_eq bs (codes "*") then enclosed (closed (drop 1 bs)) else Broken BadByte)
    (λ c. tt) (if_case (IsPieceOf b) (starts_with nat_eq bs (codes "*")) (enclosed (closed (drop 1 bs))) (Broken BadByte) (λ c. enclosed-piece b (closed (drop 1 bs))) tt)

begins-piece : (b : ℕ) (bs : List ℕ) → IsPieceOf b (begins (b ∷ bs))
unfolding begins
begins-piece b bs =
    if_case (IsPieceOf b) (is_blank b) (Blank 1) _ (λ c. tt)
    (if_case (IsPieceOf b) (b == 47) (comment bs) _ (λ c. comment-piece b bs)
    (if_case (IsPieceOf b) (begins_name b) (word_like (take_while continues_name (b ∷ bs))) _ (λ c. word-piece b (length (take_while continues_name (b ∷ bs))) (word_of (take_while continues_name (b ∷ bs))) (take_while continues_name (b ∷ bs)))
    (if_case (IsPieceOf b) (is_digit b 10) (numeral (b ∷ bs)) (marked (mark_of b)) (λ c. numeral-piece b (b ∷ bs)) (mark-piece b (mark_of b) (marks b)))))

abbrev byte_weight : ℕ → ℕ
byte_weight b = cond (is_sign_byte b) 1 0

token-weight : (b : ℕ) (t : Token) → IsSignOf b t → cond (is_sign_of t) 1 0 ≤ byte_weight b
token-weight b t h = by_sign (is_sign_of t) (is_sign_byte b) h
  where
    by_sign : (c d : Bool) → (c ≡ true → d ≡ true) → cond c 1 0 ≤ cond d 1 0
    by_sign false d h = omega arith
    by_sign true true h = omega arith
    by_sign true false h = no-sign (h refl)

led-signs : (b : ℕ) (bs : List ℕ) (t : Token) (at : ℕ) (r : Result (List Placed) LexErr) → IsSignOf b t → ((us : List Placed) → r ≡ Ok us → sum_by weight us ≤ sum_by byte_weight bs) → (ts : List Placed) → led (record { token = t; at = at }) r ≡ Ok ts → sum_by weight ts ≤ sum_by byte_weight (b ∷ bs)
led-signs b bs t at (Ok us) h rest ts e =
    let p : Placed = record { token = t; at = at } in
    let same : p ∷ us ≡ ts = cc in
    subst (λ xs. sum_by weight xs ≤ sum_by byte_weight (b ∷ bs)) same
    (let all : sum_by weight (p ∷ us) ≤ sum_by byte_weight (b ∷ bs) = omega (arith, sum_by-cons weight p us, sum_by-cons byte_weight b bs, token-weight b t h, rest us refl) in all)
led-signs b bs t at (Err x) h rest ts e = let no : ⊥ = cc in absurd no

piece-signs : (b : ℕ) (bs : List ℕ) (q : Piece) (at : ℕ) → IsPieceOf b q → ((k : ℕ) (us : List Placed) → lexed_from k (at + 1) bs ≡ Ok us → sum_by weight us ≤ sum_by byte_weight bs) → (ts : List Placed) → pieced q at (λ k. lexed_from k (at + 1) bs) ≡ Ok ts → sum_by weight ts ≤ sum_by byte_weight (b ∷ bs)
piece-signs b bs (Blank n) at h rest ts e = omega (arith, sum_by-cons byte_weight b bs, rest (n - 1) ts e)
piece-signs b bs (Whole t n) at h rest ts e = led-signs b bs t at (lexed_from (n - 1) (at + 1) bs) h (rest (n - 1)) ts e
piece-signs b bs (Broken k) at h rest ts e = let no : ⊥ = cc in absurd no

signs-from : (passed at : ℕ) (bs : List ℕ) (ts : List Placed) → lexed_from passed at bs ≡ Ok ts → sum_by weight ts ≤ sum_by byte_weight bs
signs-from passed at [] ts e = let same : [] ≡ ts = cc in subst (λ (xs : List Placed). sum_by weight xs ≤ 0) same (omega arith)
signs-from (suc k) at (b ∷ bs) ts e = omega (arith, sum_by-cons byte_weight b bs, signs-from k (at + 1) bs ts e)
signs-from zero at (b ∷ bs) ts e = piece-signs b bs (begins (b ∷ bs)) at (begins-piece b bs) (λ k us f. signs-from k (at + 1) bs us f) ts e

pub text_signs : TextHasSigns
text_signs text ts e = signs-from 0 0 text ts e
