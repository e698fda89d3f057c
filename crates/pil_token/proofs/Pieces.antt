-- What begins at the front, case by case, and how long it is.
use Rattle.std.proofs.Common.{◌≡◌, ℕ, ◌+◌, ◌≤◌, ◌<◌, List, [], ◌∷◌, ◌++◌, length, length-append, drop, IfSome, not, Bool, true, false, Option, Some, None, nat_lt, if◌then◌else◌, ◌==◌, take_while, nat_eq, codes, refl, ap, sym, ◌∙◌, arith}
use Rattle.std.specs.Char.{is_digit}
use Rattle.std.specs.List.{starts_with}
use Rattle.std.proofs.lemmas.List.Sums.{prefix_len-le-length}
use Rattle.std.proofs.lemmas.List.Folds.{length-prefix_len}
use Rattle.std.proofs.lemmas.Slice.Eq.{starts_is}
use Rattle.std.proofs.lemmas.Bool.Decides.{Decides-eqb}
use Rattle.pil_token.specs.Spelling.{begins_name, continues_name, mark_of}
use Rattle.pil_token.specs.declared.token.Mark.{Mark}
use Rattle.pil_token.specs.declared.token.Piece.{Piece}
use Rattle.pil_token.specs.declared.token.Piece.TheVariants.{Blank, Broken}
use Rattle.pil_token.specs.declared.token.LexKind.TheVariants.{BadByte, NoMemory}
use Rattle.pil_token.specs.Tokens.{is_blank, is_feed, digits_at, hexadecimal_at, numbered, numeral, closed, further, enclosed, comment, begins, word_like, marked, size}
use Rattle.pil_token.proofs.Fronts.{front_some, begins_continues}

-- what holds of both answers holds of the one that a test chooses
pub chosen : {X : Type 0} (P : X → Type 0) (c : Bool) (x y : X) → (c ≡ true → P x) → (c ≡ false → P y) → P (if c then x else y)
chosen P true x y when_true when_false = when_true refl
chosen P false x y when_true when_false = when_false refl

-- a text that begins with p is p and what is behind it
pub starts_front : (p bs : List ℕ) → starts_with nat_eq bs p ≡ true → bs ≡ p ++ drop (length p) bs
starts_front p bs e = (starts_is Decides-eqb bs p (starts_with nat_eq bs p) refl).0 e

pub front_starts : (p bs : List ℕ) → starts_with nat_eq (p ++ bs) p ≡ true
front_starts p bs = (starts_is Decides-eqb (p ++ bs) p (starts_with nat_eq (p ++ bs) p) refl).1 bs refl

starts_fits : (p bs : List ℕ) → starts_with nat_eq bs p ≡ true → length p + length (drop (length p) bs) ≡ length bs
starts_fits p bs e = sym (ap (λ (l : List ℕ). length l) (starts_front p bs e) ∙ length-append p (drop (length p) bs))

-- what holds in each case of `begins` holds of it
pub begins_cases : (P : Piece → Type 0) (b : ℕ) (bs : List ℕ)
    → (is_blank b ≡ true → P (Blank 1))
    → (is_blank b ≡ false → (b == 47) ≡ true → P (comment bs))
    → (is_blank b ≡ false → (b == 47) ≡ false → begins_name b ≡ true → P (word_like (take_while continues_name (b ∷ bs))))
    → (is_blank b ≡ false → (b == 47) ≡ false → begins_name b ≡ false → is_digit b 10 ≡ true → P (numeral (b ∷ bs)))
    → (is_blank b ≡ false → (b == 47) ≡ false → begins_name b ≡ false → is_digit b 10 ≡ false → P (marked (mark_of b)))
    → P (begins (b ∷ bs))
unfolding begins
begins_cases P b bs blank slash name number mark =
    chosen P (is_blank b) _ _ blank
    (λ w. chosen P (b == 47) _ _ (slash w)
    (λ s. chosen P (begins_name b) _ _ (name w s)
    (λ l. chosen P (is_digit b 10) _ _ (number w s l) (mark w s l))))

-- a piece takes a byte at least, and no more than there are, and is never broken for want of memory
pub record IsPieceOf (bs : List ℕ) (p : Piece) : Type 0 where
  pub some : 0 < size p
  pub fits : size p ≤ length bs
  pub known : p ≡ Broken NoMemory → ⊥

front_le : (p : ℕ → Bool) (bs : List ℕ) → length (take_while p bs) ≤ length bs
front_le p bs = rw length-prefix_len (prefix_len-le-length p bs)

broken_piece : (b : ℕ) (bs : List ℕ) → IsPieceOf (b ∷ bs) (Broken BadByte)
broken_piece b bs = record { some = omega arith; fits = omega arith; known = λ e. cc }

closed_inside : (bs : List ℕ) → IfSome (closed bs) (λ n. n ≤ length bs)
closed_inside [] = tt
closed_inside (b ∷ bs) =
    chosen (λ o. IfSome o (λ n. n ≤ length (b ∷ bs))) (starts_with nat_eq (b ∷ bs) (codes "*/")) (Some 2) (further 1 (closed bs))
    (λ e. omega (arith, starts_fits (codes "*/") (b ∷ bs) e))
    (λ _. one_further (closed bs) (closed_inside bs))
  where
    one_further : (o : Option ℕ) → IfSome o (λ n. n ≤ length bs) → IfSome (further 1 o) (λ n. n ≤ length (b ∷ bs))
    one_further None h = tt
    one_further (Some n) h = omega (arith, h)

comment_piece : (b : ℕ) (bs : List ℕ) → IsPieceOf (b ∷ bs) (comment bs)
comment_piece b bs =
    chosen (IsPieceOf (b ∷ bs)) (starts_with nat_eq bs (codes "/")) _ _
    (λ _. record { some = omega arith; fits = omega (arith, front_le (λ c. not (is_feed c)) bs); known = λ e. cc })
    (λ _. chosen (IsPieceOf (b ∷ bs)) (starts_with nat_eq bs (codes "*")) _ _
    (λ e. enclosed_piece (closed (drop 1 bs)) (closed_inside (drop 1 bs)) (starts_fits (codes "*") bs e))
    (λ _. broken_piece b bs))
  where
    enclosed_piece : (o : Option ℕ) → IfSome o (λ n. n ≤ length (drop 1 bs)) → 1 + length (drop 1 bs) ≡ length bs → IsPieceOf (b ∷ bs) (enclosed o)
    enclosed_piece None h e = broken_piece b bs
    enclosed_piece (Some n) h e = record { some = omega arith; fits = omega (arith, h, e); known = λ e. cc }

numbered_piece : (b : ℕ) (bs : List ℕ) (n k : ℕ) → 0 < k → k ≤ length (b ∷ bs) → IsPieceOf (b ∷ bs) (numbered n k)
numbered_piece b bs n k some most =
    chosen (IsPieceOf (b ∷ bs)) (nat_lt n 18446744069414584321) _ _
    (λ _. record { some = some; fits = most; known = λ e. cc })
    (λ _. record { some = omega arith; fits = omega arith; known = λ e. cc })

-- the digits behind `0x` are two bytes behind the front
hexadecimal_fits : (bs : List ℕ) → nat_lt 0 (length (hexadecimal_at bs)) ≡ true → 2 + length (hexadecimal_at bs) ≤ length bs
hexadecimal_fits bs =
    chosen (λ (ds : List ℕ). nat_lt 0 (length ds) ≡ true → 2 + length ds ≤ length bs) (starts_with nat_eq bs (codes "0x")) (digits_at 16 (drop 2 bs)) []
    (λ e _. omega (arith, starts_fits (codes "0x") bs e, front_le (λ c. is_digit c 16) (drop 2 bs)))
    (λ _ e. cc)

numeral_piece : (b : ℕ) (bs : List ℕ) → is_digit b 10 ≡ true → IsPieceOf (b ∷ bs) (numeral (b ∷ bs))
numeral_piece b bs digit =
    chosen (IsPieceOf (b ∷ bs)) (nat_lt 0 (length (hexadecimal_at (b ∷ bs)))) _ _
    (λ e. numbered_piece b bs _ _ (omega arith) (hexadecimal_fits (b ∷ bs) e))
    (λ _. numbered_piece b bs _ _ (front_some (λ c. is_digit c 10) b bs digit) (front_le (λ c. is_digit c 10) (b ∷ bs)))

marked_piece : (b : ℕ) (bs : List ℕ) (m : Option Mark) → IsPieceOf (b ∷ bs) (marked m)
marked_piece b bs None = broken_piece b bs
marked_piece b bs (Some m) = record { some = omega arith; fits = omega arith; known = λ e. cc }

pub begins_piece : (b : ℕ) (bs : List ℕ) → IsPieceOf (b ∷ bs) (begins (b ∷ bs))
begins_piece b bs =
    begins_cases (IsPieceOf (b ∷ bs)) b bs
    (λ _. record { some = omega arith; fits = omega arith; known = λ e. cc })
    (λ _ _. comment_piece b bs)
    (λ _ _ l. record { some = front_some continues_name b bs (begins_continues b l); fits = front_le continues_name (b ∷ bs); known = λ e. cc })
    (λ _ _ _ d. numeral_piece b bs d)
    (λ _ _ _ _. marked_piece b bs (mark_of b))
