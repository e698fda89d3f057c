-- Reading on behind what begins at the front.
use Rattle.std.proofs.Common.{◌≡◌, ℕ, zero, suc, ◌+◌, ◌-◌, ◌<◌, List, [], ◌∷◌, ◌++◌, length, drop, false, nat_eq, Result, Ok, Err, refl, ap, subst, ◌∙◌, sym, arith, append_assoc}
use Rattle.pil_token.specs.declared.token.Token.{Token}
use Rattle.pil_token.specs.declared.token.Placed.{Placed}
use Rattle.pil_token.specs.declared.token.LexErr.{LexErr}
use Rattle.pil_token.specs.declared.token.LexKind.{LexKind}
use Rattle.pil_token.specs.declared.token.Piece.{Piece}
use Rattle.pil_token.specs.declared.token.Piece.TheVariants.{Blank, Whole, Broken}
use Rattle.pil_token.specs.declared.token.LexKind.TheVariants.{BadByte, NumberTooLarge, NoMemory}
use Rattle.pil_token.specs.Tokens.{lexed_from, begins, pieced, led, after, Refuses}
use Rattle.pil_token.proofs.Pieces.{IsPieceOf, begins_piece}

-- passing over k bytes is going k places on
pub passed : (k i : ℕ) (bs : List ℕ) → lexed_from k i bs ≡ lexed_from 0 (i + k) (drop k bs)
passed zero i [] = refl
passed (suc k) i [] = refl
passed zero i (b ∷ bs) = ap (λ (j : ℕ). lexed_from 0 j (b ∷ bs)) (omega arith)
passed (suc k) i (b ∷ bs) = passed k (i + 1) bs ∙ ap (λ (j : ℕ). lexed_from 0 j (drop k bs)) (omega arith)

passed_on : (n i : ℕ) (b : ℕ) (bs : List ℕ) → 0 < n → lexed_from (n - 1) (i + 1) bs ≡ lexed_from 0 (i + n) (drop n (b ∷ bs))
passed_on zero i b bs h = absurd (omega arith)
passed_on (suc n) i b bs h = let e : suc n - 1 ≡ n = omega arith in rw e (passed n (i + 1) bs ∙ ap (λ (j : ℕ). lexed_from 0 j (drop n bs)) (omega arith))

-- what begins at the front is whole or broken, or nothing
at_front : (us : List ℕ) (i : ℕ) (p : Piece) → 0 < length us → begins us ≡ p → (lexed_from 0 i us ≡ pieced p i (λ k. lexed_from k (i + 1) (drop 1 us))) × IsPieceOf us p
at_front [] i p l e = absurd (omega arith)
at_front (b ∷ bs) i p l e = (ap (λ (q : Piece). pieced q i (λ k. lexed_from k (i + 1) bs)) e, let P : Piece → Type 0 = IsPieceOf (b ∷ bs) in subst P e (begins_piece b bs))

-- the tokens behind blanks
pub blank_step : (us : List ℕ) (i n : ℕ) → 0 < length us → begins us ≡ Blank n → lexed_from 0 i us ≡ lexed_from 0 (i + n) (drop n us)
blank_step [] i n l e = absurd (omega arith)
blank_step (b ∷ bs) i n l e = let f = at_front (b ∷ bs) i (Blank n) l e in f.0 ∙ passed_on n i b bs f.1.some

-- a token, and the tokens behind it
pub whole_step : (us : List ℕ) (i n : ℕ) (t : Token) → 0 < length us → begins us ≡ Whole t n → lexed_from 0 i us ≡ led (record { token = t; at = i }) (lexed_from 0 (i + n) (drop n us))
whole_step [] i n t l e = absurd (omega arith)
whole_step (b ∷ bs) i n t l e = let f = at_front (b ∷ bs) i (Whole t n) l e in f.0 ∙ ap (λ (r : Result (List Placed) LexErr). led (record { token = t; at = i }) r) (passed_on n i b bs f.1.some)

-- a piece that is broken
pub broken_step : (us : List ℕ) (i : ℕ) (k : LexKind) → 0 < length us → begins us ≡ Broken k → lexed_from 0 i us ≡ Err (record { kind = k; at = i })
broken_step us i k l e = (at_front us i (Broken k) l e).0

pub piece_at : (us : List ℕ) (p : Piece) → 0 < length us → begins us ≡ p → IsPieceOf us p
piece_at us p l e = (at_front us 0 p l e).1

-- a refusal of the text, which is never for want of memory
pub refuses : (read : Result (List Placed) LexErr) (k : LexKind) (i : ℕ) → (k ≡ NoMemory → ⊥) → read ≡ Err (record { kind = k; at = i }) → Refuses read k i
refuses read NoMemory i known e = absurd (known refl)
refuses read BadByte i known e = e
refuses read NumberTooLarge i known e = e

-- tokens before others, one by one
pub after_led : (ts : List Placed) (t : Placed) (r : Result (List Placed) LexErr) → after ts (led t r) ≡ after (ts ++ t ∷ []) r
after_led ts t (Ok us) = ap Ok (sym (append_assoc ts (t ∷ []) us))
after_led ts t (Err e) = refl

pub some_left : (us : List ℕ) → false ≡ nat_eq (length us) 0 → 0 < length us
some_left [] e = cc
some_left (b ∷ bs) e = omega arith
