-- The spelling of a token reads back us the token, and texts that are apart read one after another.
use Rattle.std.proofs.Common.{◌≡◌, ℕ, ◌+◌, ◌<◌, ◌≤◌, List, [], ◌∷◌, ◌++◌, length, map, Bool, true, false, ◌&&◌, Option, Some, None, IsNone, Result, Ok, Err, nat_lt, nat_eq, decimal, take_while, refl, ap, sym, ◌∙◌, arith, append_assoc, append-nil, length-append}
use Rattle.std.specs.Char.{is_digit, digit_value}
use Rattle.std.specs.List.{list_all}
use Rattle.std.specs.Str.Parse.{digits_value, AllDigits}
use Rattle.std.proofs.lemmas.List.{map-append}
use Rattle.std.proofs.Math.Seq.{drop-append_seam}
use Rattle.std.proofs.lemmas.Fmt.{decimal_is_IsNumeral, decimal_nonempty}
use Rattle.std.proofs.lemmas.Str.Parse.{digit_from_value}
use Rattle.std.proofs.lemmas.Grind.{common_steps}
use Rattle.pil_token.specs.declared.token.Token.{Token}
use Rattle.pil_token.specs.declared.token.Token.TheVariants as token
use Rattle.pil_token.specs.declared.token.Word.{Word}
use Rattle.pil_token.specs.declared.token.Word.TheVariants.{Constant, Namespace, Pol, Commit, Public, In, Is}
use Rattle.pil_token.specs.declared.token.Mark.{Mark}
use Rattle.pil_token.specs.declared.token.Mark.TheVariants.{Percent, Equals, Semicolon, OpenParen, CloseParen, OpenBrace, CloseBrace, OpenBracket, CloseBracket, Comma, Dot, Prime, Plus, Minus, Star, Colon}
use Rattle.pil_token.specs.declared.token.Placed.{Placed}
use Rattle.pil_token.specs.declared.token.LexErr.{LexErr}
use Rattle.pil_token.specs.declared.token.Piece.TheVariants.{Blank, Whole}
use Rattle.pil_token.specs.Spelling.{begins_name, continues_name, IsWordLike, word_bytes, word_of, mark_byte, mark_of}
use Rattle.pil_token.specs.Tokens.{is_blank, begins, word_like, worded, numeral, digits_at, hexadecimal_at, lexed, lexed_from, after, led}
use Rattle.pil_token.specs.Spelled.{IsToken, spelling, ends_word, IsApart, LexesTo, is_mark}
use Rattle.pil_token.proofs.Fronts.{front_goes_on, front_stops, begins_continues}
use Rattle.pil_token.proofs.Pieces.{begins_cases}
use Rattle.pil_token.proofs.Passing.{blank_step, whole_step}

-- the first byte, if any, fails the test
abbrev pub Stops : (ℕ → Bool) → List ℕ → Type 0
Stops p [] = Unit {0}
Stops p (b ∷ bs) = p b ≡ false

pub both : (b c : Bool) → (b && c) ≡ true → (b ≡ true) × (c ≡ true)
both true c e = (refl, e)
both false c e = cc

neither_way : (c : Bool) → (c && false) ≡ false
neither_way true = refl
neither_way false = refl

pub front_all : (p : ℕ → Bool) (bs rest : List ℕ) → list_all p bs ≡ true → Stops p rest → take_while p (bs ++ rest) ≡ bs
front_all p [] [] h s = refl
front_all p [] (b ∷ rest) h s = front_stops p b rest s
front_all p (b ∷ bs) rest h s =
    let parts = both (p b) (list_all p bs) h in
    front_goes_on p b (bs ++ rest) parts.0 ∙ ap (λ (l : List ℕ). b ∷ l) (front_all p bs rest parts.1 s)

-- a text of name bytes alone ends with one
ends_all : (b : ℕ) (bs : List ℕ) → list_all continues_name (b ∷ bs) ≡ true → ends_word (b ∷ bs) ≡ true
ends_all b [] h = (both (continues_name b) true h).0
ends_all b (c ∷ bs) h = ends_all c bs (both (continues_name b) (list_all continues_name (c ∷ bs)) h).1

stops_apart : (us rest : List ℕ) → ends_word us ≡ true → IsApart us rest → Stops continues_name rest
stops_apart us [] e h = tt
stops_apart us (b ∷ rest) e h = rw e at h

pub no_letter_blank : (b : ℕ) → begins_name b ≡ true → is_blank b ≡ true → ⊥
no_letter_blank b l w = grind (arith, common_steps)

pub no_letter_slash : (b : ℕ) → begins_name b ≡ true → nat_eq b 47 ≡ true → ⊥
no_letter_slash b l s = grind (arith, common_steps)

begins_word_like : (b : ℕ) (bs : List ℕ) → begins_name b ≡ true → begins (b ∷ bs) ≡ word_like (take_while continues_name (b ∷ bs))
begins_word_like b bs l =
    begins_cases (λ p. p ≡ word_like (take_while continues_name (b ∷ bs))) b bs
    (λ w. absurd (no_letter_blank b l w))
    (λ _ s. absurd (no_letter_slash b l s))
    (λ _ _ _. refl)
    (λ _ _ n _. absurd (cc))
    (λ _ _ n _. absurd (cc))

-- the bytes of a name or a reserved word
word_like_begins : (us rest : List ℕ) → IsWordLike us → IsApart us rest → begins (us ++ rest) ≡ word_like us
word_like_begins [] rest h s = absurd h
word_like_begins (b ∷ bs) rest h s =
    let all : list_all continues_name (b ∷ bs) ≡ true = rw (begins_continues b h.0) h.1 in
    begins_word_like b (bs ++ rest) h.0 ∙ ap word_like (front_all continues_name (b ∷ bs) rest all (stops_apart (b ∷ bs) rest (ends_all b bs all) s))

name_worded : (n : List ℕ) (w : Option Word) → IsNone w → worded w n ≡ token.Name n
name_worded n None h = refl
name_worded n (Some w) h = cc

pub word_bytes_like : (w : Word) → IsWordLike (word_bytes w)
word_bytes_like Constant = (refl, refl)
word_bytes_like Namespace = (refl, refl)
word_bytes_like Pol = (refl, refl)
word_bytes_like Commit = (refl, refl)
word_bytes_like Public = (refl, refl)
word_bytes_like In = (refl, refl)
word_bytes_like Is = (refl, refl)

pub word_of-word_bytes : (w : Word) → word_of (word_bytes w) ≡ Some w
unfolding word_of
word_of-word_bytes Constant = refl
word_of-word_bytes Namespace = refl
word_of-word_bytes Pol = refl
word_of-word_bytes Commit = refl
word_of-word_bytes Public = refl
word_of-word_bytes In = refl
word_of-word_bytes Is = refl

mark_begins : (m : Mark) (rest : List ℕ) → begins (mark_byte m ∷ rest) ≡ Whole (token.Mark m) 1
unfolding begins mark_of
mark_begins Percent rest = refl
mark_begins Equals rest = refl
mark_begins Semicolon rest = refl
mark_begins OpenParen rest = refl
mark_begins CloseParen rest = refl
mark_begins OpenBrace rest = refl
mark_begins CloseBrace rest = refl
mark_begins OpenBracket rest = refl
mark_begins CloseBracket rest = refl
mark_begins Comma rest = refl
mark_begins Dot rest = refl
mark_begins Prime rest = refl
mark_begins Plus rest = refl
mark_begins Minus rest = refl
mark_begins Star rest = refl
mark_begins Colon rest = refl

digit_range : (b : ℕ) → is_digit b 10 ≡ true → (48 ≤ b) × (b ≤ 57)
digit_range b d = let h : digit_value b < 10 = grind (arith, common_steps) in let r = digit_from_value b h in (r.0, r.1)

-- digits are no blanks, slashes or letters, and they go on with a name
pub digit_cases : (b : ℕ) → is_digit b 10 ≡ true → (is_blank b ≡ false) × (nat_eq b 47 ≡ false) × (begins_name b ≡ false) × (continues_name b ≡ true) × (nat_eq 120 b ≡ false)
digit_cases b d =
    let low : 48 ≤ b = (digit_range b d).0 in
    let high : b ≤ 57 = (digit_range b d).1 in
    (grind (arith, common_steps), grind (arith, common_steps), grind (arith, common_steps), grind (arith, common_steps), grind (arith, common_steps))

begins_numeral : (b : ℕ) (bs : List ℕ) → is_digit b 10 ≡ true → begins (b ∷ bs) ≡ numeral (b ∷ bs)
begins_numeral b bs d =
    let h = digit_cases b d in
    begins_cases (λ p. p ≡ numeral (b ∷ bs)) b bs
    (λ w. absurd (let e = h.0 in cc))
    (λ _ s. absurd (let e = h.1 in cc))
    (λ _ _ l. absurd (let e = h.2 in cc))
    (λ _ _ _ _. refl)
    (λ _ _ _ n. absurd (cc))

pub all_digits : (ds : List ℕ) → AllDigits 10 ds → list_all (λ c. is_digit c 10) ds ≡ true
all_digits [] h = refl
all_digits (d ∷ ds) h = let digit : is_digit d 10 ≡ true = grind (arith, common_steps, h.0) in rw digit (all_digits ds h.1)

pub all_digits_continue : (ds : List ℕ) → list_all (λ c. is_digit c 10) ds ≡ true → list_all continues_name ds ≡ true
all_digits_continue [] h = refl
all_digits_continue (d ∷ ds) h =
    let parts = both (is_digit d 10) (list_all (λ c. is_digit c 10) ds) h in
    rw ((digit_cases d parts.0).3) (all_digits_continue ds parts.1)

stops_digits : (rest : List ℕ) → Stops continues_name rest → Stops (λ c. is_digit c 10) rest
stops_digits [] h = tt
stops_digits (b ∷ rest) h = no_digit (is_digit b 10) refl
  where
    no_digit : (c : Bool) → is_digit b 10 ≡ c → is_digit b 10 ≡ false
    no_digit true e = absurd (let f = (digit_cases b e).3 in cc)
    no_digit false e = e

no_x : (b c : ℕ) (bs : List ℕ) → nat_eq 120 c ≡ false → hexadecimal_at (b ∷ c ∷ bs) ≡ []
no_x b c bs e = rw (neither (nat_eq 48 b) (nat_eq 120 c) e)
  where
    neither : (x y : Bool) → y ≡ false → (x && (y && true)) ≡ false
    neither true y e = rw e
    neither false y e = refl

no_hexadecimal : (d : ℕ) (ds rest : List ℕ) → list_all (λ c. is_digit c 10) (d ∷ ds) ≡ true → Stops continues_name rest → hexadecimal_at ((d ∷ ds) ++ rest) ≡ []
no_hexadecimal d [] [] h s = rw (neither_way (nat_eq 48 d))
no_hexadecimal d [] (b ∷ rest) h s = no_x d b rest (grind (arith, common_steps))
no_hexadecimal d (c ∷ ds) rest h s =
    let more = (both (is_digit d 10) (list_all (λ x. is_digit x 10) (c ∷ ds)) h).1 in
    no_x d c (ds ++ rest) (digit_cases c (both (is_digit c 10) (list_all (λ x. is_digit x 10) ds) more).0).4

decimal_numeral : (bs ds : List ℕ) (n : ℕ) → hexadecimal_at bs ≡ [] → digits_at 10 bs ≡ ds → digits_value 10 ds ≡ n → nat_lt n 18446744069414584321 ≡ true → numeral bs ≡ Whole (token.Number n) (length ds)
decimal_numeral bs ds n none front value small = rw (none, front, value, small)

number_begins : (n : ℕ) (ds rest : List ℕ) → 0 < length ds → AllDigits 10 ds → digits_value 10 ds ≡ n → n < 18446744069414584321 → IsApart ds rest → begins (ds ++ rest) ≡ Whole (token.Number n) (length ds)
number_begins n [] rest some digits value small s = absurd (omega arith)
number_begins n (d ∷ ds) rest some digits value small s =
    let all = all_digits (d ∷ ds) digits in
    let apart : Stops continues_name rest = stops_apart (d ∷ ds) rest (ends_all d ds (all_digits_continue (d ∷ ds) all)) s in
    let none = no_hexadecimal d ds rest all apart in
    let front : digits_at 10 ((d ∷ ds) ++ rest) ≡ d ∷ ds = front_all (λ c. is_digit c 10) (d ∷ ds) rest all (stops_digits rest apart) in
    begins_numeral d (ds ++ rest) (both (is_digit d 10) (list_all (λ c. is_digit c 10) ds) all).0 ∙ decimal_numeral ((d ∷ ds) ++ rest) (d ∷ ds) n none front value (grind (arith, common_steps))

pub spelling_begins : (t : Token) (rest : List ℕ) → IsToken t → IsApart (spelling t) rest → begins (spelling t ++ rest) ≡ Whole t (length (spelling t))
spelling_begins (token.Name n) rest h s = word_like_begins n rest h.0 s ∙ ap (λ (t : Token). Whole t (length n)) (name_worded n (word_of n) h.1)
spelling_begins (token.Word w) rest h s = word_like_begins (word_bytes w) rest (word_bytes_like w) s ∙ ap (λ (o : Option Word). Whole (worded o (word_bytes w)) (length (word_bytes w))) (word_of-word_bytes w)
spelling_begins (token.Mark m) rest h s = mark_begins m rest
spelling_begins (token.Number n) rest h s = let d = decimal_is_IsNumeral n (omega arith) in number_begins n (decimal n) rest d.0.0 d.0.1 d.1 h s

-- a token before others, as a list before others
led_after : (t : Placed) (r : Result (List Placed) LexErr) → led t r ≡ after (t ∷ []) r
led_after t (Ok ts) = refl
led_after t (Err e) = refl

after_after : (ps qs : List Placed) (r : Result (List Placed) LexErr) → after ps (after qs r) ≡ after (ps ++ qs) r
after_after ps qs (Ok ts) = ap Ok (sym (append_assoc ps qs ts))
after_after ps qs (Err e) = refl

after_none : (r : Result (List Placed) LexErr) → after [] r ≡ r
after_none (Ok ts) = refl
after_none (Err e) = refl

word_like_some : (us : List ℕ) → IsWordLike us → 0 < length us
word_like_some [] h = absurd h
word_like_some (b ∷ bs) h = omega arith

pub some_spelled : (t : Token) → IsToken t → 0 < length (spelling t)
some_spelled (token.Name n) h = word_like_some n h.0
some_spelled (token.Number n) h = decimal_nonempty n (omega arith)
some_spelled (token.Word w) h = word_like_some (word_bytes w) (word_bytes_like w)
some_spelled (token.Mark m) h = omega arith

-- a token's spelling is read as the token
pub spelling_lexes : (t : Token) → IsToken t → LexesTo (spelling t) (t ∷ [])
spelling_lexes t h at rest apart =
    let bs = spelling t in
    let some : 0 < length (bs ++ rest) = omega (arith, length-append bs rest, some_spelled t h) in
    let p : Placed = record { token = t; at = at } in
    (p ∷ [], refl, whole_step (bs ++ rest) at (length bs) t some (spelling_begins t rest h apart) ∙ (led_after p _ ∙ ap (λ (left : List ℕ). after (p ∷ []) (lexed_from 0 (at + length bs) left)) (drop-append_seam bs rest)))

blank_begins : (b : ℕ) (bs : List ℕ) → is_blank b ≡ true → begins (b ∷ bs) ≡ Blank 1
blank_begins b bs w =
    begins_cases (λ p. p ≡ Blank 1) b bs
    (λ _. refl)
    (λ n _. absurd (cc))
    (λ n _ _. absurd (cc))
    (λ n _ _ _. absurd (cc))
    (λ n _ _ _. absurd (cc))

-- a blank is read as no token
pub blank_lexes : (b : ℕ) → is_blank b ≡ true → LexesTo (b ∷ []) []
blank_lexes b w at rest apart = ([], refl, blank_step (b ∷ rest) at 1 (omega arith) (blank_begins b rest w) ∙ sym (after_none (lexed_from 0 (at + 1) rest)))

ends_append : (xs : List ℕ) (y : ℕ) (ys : List ℕ) → ends_word (xs ++ y ∷ ys) ≡ ends_word (y ∷ ys)
ends_append [] y ys = refl
ends_append (x ∷ []) y ys = refl
ends_append (x ∷ z ∷ xs) y ys = ends_append (z ∷ xs) y ys

-- texts that are apart are read one after another
pub append_lexes : (xs ys : List ℕ) (ts us : List Token) → 0 < length ys → IsApart xs ys → LexesTo xs ts → LexesTo ys us → LexesTo (xs ++ ys) (ts ++ us)
append_lexes xs [] ts us some apart first second at rest off = absurd (omega arith)
append_lexes xs (y ∷ ys) ts us some apart first second at rest off =
    let f = first at ((y ∷ ys) ++ rest) apart in
    let s = second (at + length xs) rest (rw ends_append at off) in
    let place : at + length xs + length (y ∷ ys) ≡ at + length (xs ++ y ∷ ys) = omega (arith, length-append xs (y ∷ ys)) in (
      f.0 ++ s.0,
      map-append (λ (p : Placed). p.token) f.0 s.0 ∙ (ap (λ (l : List Token). l ++ map (λ (p : Placed). p.token) s.0) f.1 ∙ ap (λ (l : List Token). ts ++ l) s.1),
      ap (λ (l : List ℕ). lexed_from 0 at l) (append_assoc xs (y ∷ ys) rest) ∙ (f.2 ∙ (ap (after f.0) s.2 ∙ (after_after f.0 s.0 _ ∙ ap (λ (n : ℕ). after (f.0 ++ s.0) (lexed_from 0 n rest)) place))),
    )

-- a whole text
pub lexes_whole : (text : List ℕ) (ts : List Token) → LexesTo text ts → (ps : List Placed) × (map (λ p. p.token) ps ≡ ts) × (lexed text ≡ Ok ps)
lexes_whole text ts h =
    let w = h 0 [] (neither_way (ends_word text)) in
    (w.0, w.1, ap (λ (l : List ℕ). lexed l) (sym (append-nil text)) ∙ (w.2 ∙ ap Ok (append-nil w.0)))

word_like_continues : (bs : List ℕ) → IsWordLike bs → list_all continues_name bs ≡ true
word_like_continues [] h = absurd h
word_like_continues (b ∷ bs) h = rw (begins_continues b h.0) h.1

pub spelling_continues : (t : Token) → IsToken t → is_mark t ≡ false → list_all continues_name (spelling t) ≡ true
spelling_continues (token.Name n) h e = word_like_continues n h.0
spelling_continues (token.Number n) h e = all_digits_continue (decimal n) (all_digits (decimal n) (decimal_is_IsNumeral n (omega arith)).0.1)
spelling_continues (token.Word w) h e = word_like_continues (word_bytes w) (word_bytes_like w)
spelling_continues (token.Mark m) h e = grind arith
