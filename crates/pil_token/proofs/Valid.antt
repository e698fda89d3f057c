-- Every token that is read is one that a text can have.
use Rattle.std.proofs.Common.{◌≡◌, ℕ, zero, suc, ◌+◌, ◌-◌, ◌<◌, List, [], ◌∷◌, length, drop, codes, true, Option, Some, None, nat_lt, Result, Ok, Err, IfOk, All, take_while, nat_eq, refl, ap, subst, ◌∙◌, append-nil, arith}
use Rattle.std.specs.List.{starts_with}
use Rattle.std.proofs.lemmas.List.Elements.{All-nil, All-cons}
use Rattle.std.proofs.lemmas.Grind.{common_steps}
use Rattle.pil_token.specs.declared.token.Word.{Word}
use Rattle.pil_token.specs.declared.token.Mark.{Mark}
use Rattle.pil_token.specs.declared.token.Placed.{Placed}
use Rattle.pil_token.specs.declared.token.LexErr.{LexErr}
use Rattle.pil_token.specs.declared.token.Piece.{Piece}
use Rattle.pil_token.specs.declared.token.Piece.TheVariants.{Blank, Whole, Broken}
use Rattle.pil_token.specs.Spelling.{continues_name, IsWordLike, word_of, mark_of}
use Rattle.pil_token.specs.Tokens.{begins, enclosed, closed, hexadecimal_at, numbered, worded, marked, lexed_from, led, pieced, after}
use Rattle.pil_token.specs.Spelled.{IsToken}
use Rattle.pil_token.proofs.Fronts.{word_like_front}
use Rattle.pil_token.proofs.Pieces.{begins_cases, chosen}

-- the token of a piece, if it is one, is one that a text can have
abbrev pub HasToken : Piece → Type 0
HasToken (Blank n) = Unit {0}
HasToken (Whole t n) = IsToken t
HasToken (Broken k) = Unit {0}

pub record IsValid (p : Piece) : Type 0 where
  pub token : HasToken p

enclosed_valid : (o : Option ℕ) → IsValid (enclosed o)
enclosed_valid None = record { token = tt }
enclosed_valid (Some n) = record { token = tt }

pub worded_valid : (w : Option Word) (bs : List ℕ) → word_of bs ≡ w → IsWordLike bs → IsToken (worded w bs)
worded_valid None bs e h = (h, rw e refl)
worded_valid (Some w) bs e h = tt

marked_valid : (m : Option Mark) → IsValid (marked m)
marked_valid None = record { token = tt }
marked_valid (Some m) = record { token = tt }

numbered_valid : (n size : ℕ) → IsValid (numbered n size)
numbered_valid n size =
    chosen IsValid (nat_lt n 18446744069414584321) _ _
    (λ e. let h : n < 18446744069414584321 = grind (arith, common_steps) in record { token = h })
    (λ _. record { token = tt })

begins_valid : (b : ℕ) (bs : List ℕ) → IsValid (begins (b ∷ bs))
begins_valid b bs =
    begins_cases IsValid b bs
    (λ _. record { token = tt })
    (λ _ _. chosen IsValid (starts_with nat_eq bs (codes "/")) _ _ (λ _. record { token = tt }) (λ _. chosen IsValid (starts_with nat_eq bs (codes "*")) _ _ (λ _. enclosed_valid (closed (drop 1 bs))) (λ _. record { token = tt })))
    (λ _ _ l. record { token = worded_valid (word_of (take_while continues_name (b ∷ bs))) (take_while continues_name (b ∷ bs)) refl (word_like_front b bs l) })
    (λ _ _ _ _. chosen IsValid (nat_lt 0 (length (hexadecimal_at (b ∷ bs)))) _ _ (λ _. numbered_valid _ _) (λ _. numbered_valid _ _))
    (λ _ _ _ _. marked_valid (mark_of b))

abbrev pub AllValid : Result (List Placed) LexErr → Type 0
AllValid read = IfOk read (All (λ p. IsToken p.token))

led_valid : (t : Placed) (read : Result (List Placed) LexErr) → IsToken t.token → AllValid read → AllValid (led t read)
led_valid t (Ok ts) h all = All-cons (λ p. IsToken p.token) t ts h all
led_valid t (Err e) h all = tt

pieced_valid : (p : Piece) (i : ℕ) (follows : ℕ → Result (List Placed) LexErr) → HasToken p → ((k : ℕ) → AllValid (follows k)) → AllValid (pieced p i follows)
pieced_valid (Blank n) i follows h all = all (n - 1)
pieced_valid (Whole t n) i follows h all = led_valid (record { token = t; at = i }) (follows (n - 1)) h (all (n - 1))
pieced_valid (Broken k) i follows h all = tt

pub lexed_valid : (passed i : ℕ) (bs : List ℕ) → AllValid (lexed_from passed i bs)
lexed_valid passed i [] = All-nil (λ p. IsToken p.token)
lexed_valid (suc k) i (b ∷ bs) = lexed_valid k (i + 1) bs
lexed_valid zero i (b ∷ bs) = pieced_valid (begins (b ∷ bs)) i (λ k. lexed_from k (i + 1) bs) ((begins_valid b bs).token) (λ k. lexed_valid k (i + 1) bs)

-- the tokens that are read of a whole text
pub read_valid : (text rest : List ℕ) (i : ℕ) (ts : List Placed) → lexed_from 0 0 text ≡ after ts (lexed_from 0 i rest) → true ≡ nat_eq (length rest) 0 → All (λ p. IsToken p.token) ts
read_valid text [] i ts same end =
    let whole : lexed_from 0 0 text ≡ Ok ts = same ∙ ap Ok (append-nil ts) in
    subst AllValid whole (lexed_valid 0 0 text)
read_valid text (b ∷ rest) i ts same end = let none : length (b ∷ rest) ≡ 0 = grind (arith, common_steps, end) in absurd (omega (arith, none))
