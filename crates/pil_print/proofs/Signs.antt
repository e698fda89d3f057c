-- A printed token has as many of the characters `;`, `,` and `{` as it is such a token.
use Rattle.std.proofs.Common.{ℕ, ◌≡◌, List, [], ◌∷◌, ◌++◌, Bool, true, false, ◌&&◌, cond, sum_by, count_by, refl, sym, ap, ◌∙◌, arith}
use Rattle.std.specs.Prelude.{◌==◌, decimal}
use Rattle.std.specs.List.{list_all}
use Rattle.std.proofs.lemmas.Bool.{eqb-true, false≢true}
use Rattle.std.proofs.lemmas.List.Sums.{sum_by-cons, sum_by-append}
use Rattle.pil_token.specs.declared.token.Token.{Token}
use Rattle.pil_token.specs.declared.token.Token.TheVariants as token
use Rattle.pil_token.specs.declared.token.Mark.TheVariants.{Percent, Equals, Semicolon, OpenParen, CloseParen, OpenBrace, CloseBrace, OpenBracket, CloseBracket, Comma, Dot, Prime, Plus, Minus, Star, Colon}
use Rattle.pil_token.specs.declared.token.Placed.{Placed}
use Rattle.pil_token.specs.Spelling.{continues_name, word_bytes}
use Rattle.pil_token.specs.Spelled.{IsToken, spelling, SpellingContinues}
use Rattle.pil_meaning.specs.Soundness.{is_sign_of, is_sign}
use Rattle.pil_meaning.specs.Given.{is_sign_byte}

abbrev weight : Placed → ℕ
weight t = cond (is_sign t) 1 0

abbrev byte_weight : ℕ → ℕ
byte_weight b = cond (is_sign_byte b) 1 0

-- a text has as many signs as these tokens
abbrev pub HasSignsOf : List ℕ → List Placed → Type 0
HasSignsOf text ps = count_by is_sign_byte text ≡ count_by is_sign ps

pub signs-join : (xs ys : List ℕ) (ps qs : List Placed) → HasSignsOf xs ps → HasSignsOf ys qs → HasSignsOf (xs ++ ys) (ps ++ qs)
signs-join xs ys ps qs a b = omega (arith, a, b, sum_by-append byte_weight xs ys, sum_by-append weight ps qs)

-- a letter, a digit or `_` is none of the three characters
no-sign-at : (b k : ℕ) → continues_name k ≡ false → continues_name b ≡ true → (b == k) ≡ false
no-sign-at b k n c = one-of (b == k) refl
  where
    one-of : (e : Bool) → (b == k) ≡ e → (b == k) ≡ false
    one-of true e = absurd (false≢true (sym n ∙ (sym (ap continues_name (eqb-true b k e)) ∙ c)))
    one-of false e = e

no-sign : (b : ℕ) → continues_name b ≡ true → is_sign_byte b ≡ false
no-sign b c = rw (no-sign-at b 59 refl c, no-sign-at b 44 refl c, no-sign-at b 123 refl c) refl

both : (b c : Bool) → (b && c) ≡ true → (b ≡ true) × (c ≡ true)
both true c h = (refl, h)
both false c h = absurd (false≢true h)

word-signs : (bs : List ℕ) → list_all continues_name bs ≡ true → sum_by byte_weight bs ≡ 0
word-signs [] h = refl
word-signs (b ∷ bs) h =
    let parts = both (continues_name b) (list_all continues_name bs) h in
    let none : byte_weight b ≡ 0 = ap {B = ℕ} (λ c. cond c 1 0) (no-sign b parts.0) in
    omega (arith, sum_by-cons byte_weight b bs, none, word-signs bs parts.1)

module _ (continues : SpellingContinues) where
  spelling-signs : (t : Token) → IsToken t → count_by is_sign_byte (spelling t) ≡ cond (is_sign_of t) 1 0
  spelling-signs (token.Name n) h = word-signs n (continues (token.Name n) h refl)
  spelling-signs (token.Number n) h = word-signs (decimal n) (continues (token.Number n) h refl)
  spelling-signs (token.Word w) h = word-signs (word_bytes w) (continues (token.Word w) h refl)
  spelling-signs (token.Mark Percent) h = refl
  spelling-signs (token.Mark Equals) h = refl
  spelling-signs (token.Mark Semicolon) h = refl
  spelling-signs (token.Mark OpenParen) h = refl
  spelling-signs (token.Mark CloseParen) h = refl
  spelling-signs (token.Mark OpenBrace) h = refl
  spelling-signs (token.Mark CloseBrace) h = refl
  spelling-signs (token.Mark OpenBracket) h = refl
  spelling-signs (token.Mark CloseBracket) h = refl
  spelling-signs (token.Mark Comma) h = refl
  spelling-signs (token.Mark Dot) h = refl
  spelling-signs (token.Mark Prime) h = refl
  spelling-signs (token.Mark Plus) h = refl
  spelling-signs (token.Mark Minus) h = refl
  spelling-signs (token.Mark Star) h = refl
  spelling-signs (token.Mark Colon) h = refl

  pub signs-one : (p : Placed) → IsToken p.token → HasSignsOf (spelling p.token) (p ∷ [])
  signs-one p h = omega (arith, spelling-signs p.token h, sum_by-cons weight p [])
