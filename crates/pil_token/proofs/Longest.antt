-- What begins a text is the longest token at its front, or none where no token begins there.
use Rattle.std.proofs.Common.{◌≡◌, ℕ, zero, suc, ◌+◌, ◌<◌, ◌≤◌, inl, inr, List, [], ◌∷◌, ◌++◌, length, take, drop, Bool, true, false, Option, Some, None, nat_lt, nat_eq, codes, take_while, if◌then◌else◌, ◌==◌, refl, ap, subst, sym, ◌∙◌, arith, length-append}
use Rattle.std.specs.Char.{is_digit, digit_value}
use Rattle.std.specs.List.{list_all, starts_with, prefix_len}
use Rattle.std.specs.Str.{bytes_eq}
use Rattle.std.specs.Str.Parse.{digits_value, AllDigits}
use Rattle.std.proofs.lemmas.Slice.Eq.{bytes_eq-Decides}
use Rattle.std.proofs.lemmas.List.{take-append-drop}
use Rattle.std.proofs.Math.Seq.{take-append_seam, take-append-add}
use Rattle.std.proofs.lemmas.List.Folds.{length-prefix_len}
use Rattle.std.proofs.lemmas.Grind.{common_steps}
use Rattle.pil_token.specs.declared.token.Token.{Token}
use Rattle.pil_token.specs.declared.token.Token.TheVariants as token
use Rattle.pil_token.specs.declared.token.Word.{Word}
use Rattle.pil_token.specs.declared.token.Word.TheVariants.{Constant, Namespace, Pol, Commit, Public, In, Is}
use Rattle.pil_token.specs.declared.token.Mark.{Mark}
use Rattle.pil_token.specs.declared.token.Mark.TheVariants.{Percent, Equals, Semicolon, OpenParen, CloseParen, OpenBrace, CloseBrace, OpenBracket, CloseBracket, Comma, Dot, Prime, Plus, Minus, Star, Colon}
use Rattle.pil_token.specs.Spelling.{begins_name, continues_name, IsWordLike, word_bytes, word_of, mark_byte, mark_of}
use Rattle.pil_token.specs.Tokens.{is_blank, digits_at, hexadecimal_at, begins, word_like, worded, numbered, marked, enclosed, closed, comment}
use Rattle.pil_token.specs.Longest.{Spells, IsLongest, BeginsNone, IsFront}
use Rattle.pil_token.proofs.Fronts.{all_front, take_front, starts_byte, front_some, begins_continues, word_like_front}
use Rattle.pil_token.proofs.Pieces.{begins_cases, chosen, starts_front}
use Rattle.pil_token.proofs.Valid.{worded_valid}
use Rattle.pil_token.proofs.Comments.{ClosedBy, closed_by, line_passed, block_passed, not_passed, no_longer}
use Rattle.pil_token.proofs.Spelled.{both, all_digits, all_digits_continue, word_bytes_like, digit_cases, no_letter_blank, no_letter_slash}

abbrev decimal_digit : ℕ → Bool
decimal_digit c = is_digit c 10

abbrev hexadecimal_digit : ℕ → Bool
hexadecimal_digit c = is_digit c 16

-- the bytes of a token, by how it looks
data Shape (us : List ℕ) : Type 0 where
  word_shape : IsWordLike us → Shape us
  decimal_shape : list_all decimal_digit us ≡ true → 0 < length us → Shape us
  hexadecimal_shape : (ds : List ℕ) → us ≡ codes "0x" ++ ds → list_all hexadecimal_digit ds ≡ true → 0 < length ds → Shape us
  mark_shape : (m : Mark) → us ≡ mark_byte m ∷ [] → Shape us

all_hexadecimal : (ds : List ℕ) → AllDigits 16 ds → list_all hexadecimal_digit ds ≡ true
all_hexadecimal [] h = refl
all_hexadecimal (d ∷ ds) h = let digit : is_digit d 16 ≡ true = grind (arith, common_steps, h.0) in rw digit (all_hexadecimal ds h.1)

shape_of : (u : Token) (us : List ℕ) → Spells u us → Shape us
shape_of (token.Name n) us h = word_shape h.0.0
shape_of (token.Word w) us h = word_shape (subst IsWordLike (sym h) (word_bytes_like w))
shape_of (token.Mark m) us h = mark_shape m h
shape_of (token.Number n) us (inl h) = decimal_shape (all_digits us h.0.1) h.0.0
shape_of (token.Number n) us (inr h) = hexadecimal_shape h.0 h.1 (all_hexadecimal h.0 h.2.1) h.2.0

hexadecimal_continues : (c : ℕ) → is_digit c 16 ≡ true → continues_name c ≡ true
hexadecimal_continues c h = grind (arith, common_steps)

all_hexadecimal_continue : (ds : List ℕ) → list_all hexadecimal_digit ds ≡ true → list_all continues_name ds ≡ true
all_hexadecimal_continue [] h = refl
all_hexadecimal_continue (d ∷ ds) h = let parts = both (is_digit d 16) (list_all hexadecimal_digit ds) h in rw (hexadecimal_continues d parts.0) (all_hexadecimal_continue ds parts.1)

word_like_all : (us : List ℕ) → IsWordLike us → list_all continues_name us ≡ true
word_like_all [] h = absurd h
word_like_all (b ∷ bs) h = rw (begins_continues b h.0) h.1

-- first bytes that pass a test are no more than all that pass
covers : (p : ℕ → Bool) (bs : List ℕ) (k : ℕ) → k ≤ length bs → list_all p (take k bs) ≡ true → k ≤ length (take_while p bs)
covers p bs k le all = rw length-prefix_len (counted p bs k le all)
  where
    counted : (p : ℕ → Bool) (bs : List ℕ) (k : ℕ) → k ≤ length bs → list_all p (take k bs) ≡ true → k ≤ prefix_len p bs
    counted p bs zero le all = omega arith
    counted p [] (suc k) le all = absurd (omega arith)
    counted p (b ∷ bs) (suc k) le all =
        let parts = both (p b) (list_all p (take k bs)) all in
        let more : k ≤ prefix_len p bs = counted p bs k (omega arith) parts.1 in
        rw parts.0 (omega (arith, more))

take_size : (bs : List ℕ) (k : ℕ) → k ≤ length bs → length (take k bs) ≡ k
take_size bs k le = grind (arith, common_steps)

one_long : (bs : List ℕ) (k b : ℕ) → k ≤ length bs → take k bs ≡ b ∷ [] → k ≡ 1
one_long bs k b le e = sym (take_size bs k le) ∙ ap (λ (l : List ℕ). length l) e

-- at a letter the longest token is the word
word_longest : (b : ℕ) (bs : List ℕ) (k : ℕ) → 0 < length (take_while continues_name (b ∷ bs)) → k ≤ length (b ∷ bs) → Shape (take k (b ∷ bs)) → k ≤ length (take_while continues_name (b ∷ bs))
word_longest b bs k some le (word_shape h) = covers continues_name (b ∷ bs) k le (word_like_all (take k (b ∷ bs)) h)
word_longest b bs k some le (decimal_shape h n) = covers continues_name (b ∷ bs) k le (all_digits_continue (take k (b ∷ bs)) h)
word_longest b bs k some le (hexadecimal_shape ds e h n) = covers continues_name (b ∷ bs) k le (rw e (all_hexadecimal_continue ds h))
word_longest b bs k some le (mark_shape m e) = omega (arith, one_long (b ∷ bs) k (mark_byte m) le e)

-- the first byte of a token
starts_letter : (b : ℕ) (bs : List ℕ) (k : ℕ) → IsWordLike (take k (b ∷ bs)) → begins_name b ≡ true
starts_letter b bs zero h = absurd h
starts_letter b bs (suc k) h = h.0

starts_digit : (b : ℕ) (bs : List ℕ) (k : ℕ) → list_all decimal_digit (take k (b ∷ bs)) ≡ true → 0 < length (take k (b ∷ bs)) → is_digit b 10 ≡ true
starts_digit b bs zero h some = absurd (omega (arith, some))
starts_digit b bs (suc k) h some = (both (is_digit b 10) (list_all decimal_digit (take k bs)) h).0

-- a byte that begins no letter, digit or mark begins no token
none_begins : (b : ℕ) (bs : List ℕ) → begins_name b ≡ false → is_digit b 10 ≡ false → ((m : Mark) → b ≡ mark_byte m → ⊥) → BeginsNone (b ∷ bs)
none_begins b bs letter digit mark k u h = shaped (shape_of u _ h)
  where
    shaped : Shape (take k (b ∷ bs)) → ⊥
    shaped (word_shape h) = let l : begins_name b ≡ true = starts_letter b bs k h in let x : true ≡ false = cc in absurd (cc)
    shaped (decimal_shape h some) = let d : is_digit b 10 ≡ true = starts_digit b bs k h some in absurd (cc)
    shaped (hexadecimal_shape ds e h some) = let z : b ≡ 48 = starts_byte b 48 bs (120 ∷ ds) k e in let d : is_digit b 10 ≡ true = rw z refl in absurd (cc)
    shaped (mark_shape m e) = mark m (starts_byte b (mark_byte m) bs [] k e)

blank_unmarked : (m : Mark) → is_blank (mark_byte m) ≡ false
blank_unmarked Percent = refl
blank_unmarked Equals = refl
blank_unmarked Semicolon = refl
blank_unmarked OpenParen = refl
blank_unmarked CloseParen = refl
blank_unmarked OpenBrace = refl
blank_unmarked CloseBrace = refl
blank_unmarked OpenBracket = refl
blank_unmarked CloseBracket = refl
blank_unmarked Comma = refl
blank_unmarked Dot = refl
blank_unmarked Prime = refl
blank_unmarked Plus = refl
blank_unmarked Minus = refl
blank_unmarked Star = refl
blank_unmarked Colon = refl

slash_unmarked : (m : Mark) → nat_eq (mark_byte m) 47 ≡ false
slash_unmarked Percent = refl
slash_unmarked Equals = refl
slash_unmarked Semicolon = refl
slash_unmarked OpenParen = refl
slash_unmarked CloseParen = refl
slash_unmarked OpenBrace = refl
slash_unmarked CloseBrace = refl
slash_unmarked OpenBracket = refl
slash_unmarked CloseBracket = refl
slash_unmarked Comma = refl
slash_unmarked Dot = refl
slash_unmarked Prime = refl
slash_unmarked Plus = refl
slash_unmarked Minus = refl
slash_unmarked Star = refl
slash_unmarked Colon = refl

pub mark_of-mark_byte : (m : Mark) → mark_of (mark_byte m) ≡ Some m
unfolding mark_of
mark_of-mark_byte Percent = refl
mark_of-mark_byte Equals = refl
mark_of-mark_byte Semicolon = refl
mark_of-mark_byte OpenParen = refl
mark_of-mark_byte CloseParen = refl
mark_of-mark_byte OpenBrace = refl
mark_of-mark_byte CloseBrace = refl
mark_of-mark_byte OpenBracket = refl
mark_of-mark_byte CloseBracket = refl
mark_of-mark_byte Comma = refl
mark_of-mark_byte Dot = refl
mark_of-mark_byte Prime = refl
mark_of-mark_byte Plus = refl
mark_of-mark_byte Minus = refl
mark_of-mark_byte Star = refl
mark_of-mark_byte Colon = refl

-- a mark or a reserved word that is found is spelled so
mark_link : (m : Mark) (b c : ℕ) (x : Mark) (more : Option Mark) → c ≡ mark_byte x → (more ≡ Some m → b ≡ mark_byte m) → (if b == c then Some x else more) ≡ Some m → b ≡ mark_byte m
mark_link m b c x more spelled rest =
    chosen (λ (o : Option Mark). o ≡ Some m → b ≡ mark_byte m) (b == c) (Some x) more
    (λ e same. let there : b ≡ c = grind (arith, common_steps, e) in let found : x ≡ m = cc in there ∙ (spelled ∙ ap mark_byte found))
    (λ _. rest)

mark_found : (b : ℕ) (m : Mark) → mark_of b ≡ Some m → b ≡ mark_byte m
unfolding mark_of
mark_found b m =
    mark_link m b 37 Percent _ refl (mark_link m b 61 Equals _ refl (mark_link m b 59 Semicolon _ refl (mark_link m b 40 OpenParen _ refl
    (mark_link m b 41 CloseParen _ refl (mark_link m b 123 OpenBrace _ refl (mark_link m b 125 CloseBrace _ refl (mark_link m b 91 OpenBracket _ refl
    (mark_link m b 93 CloseBracket _ refl (mark_link m b 44 Comma _ refl (mark_link m b 46 Dot _ refl (mark_link m b 39 Prime _ refl
    (mark_link m b 43 Plus _ refl (mark_link m b 45 Minus _ refl (mark_link m b 42 Star _ refl (mark_link m b 58 Colon None refl (λ e. cc))))))))))))))))

word_link : (w : Word) (ws cs : List ℕ) (x : Word) (more : Option Word) → cs ≡ word_bytes x → (more ≡ Some w → ws ≡ word_bytes w) → (if bytes_eq ws cs then Some x else more) ≡ Some w → ws ≡ word_bytes w
word_link w ws cs x more spelled rest =
    chosen (λ (o : Option Word). o ≡ Some w → ws ≡ word_bytes w) (bytes_eq ws cs) (Some x) more
    (λ e same. let there : ws ≡ cs = (bytes_eq-Decides ws cs).0 e in let found : x ≡ w = cc in there ∙ (spelled ∙ ap word_bytes found))
    (λ _. rest)

word_found : (ws : List ℕ) (w : Word) → word_of ws ≡ Some w → ws ≡ word_bytes w
unfolding word_of
word_found ws w =
    word_link w ws (codes "constant") Constant _ refl (word_link w ws (codes "namespace") Namespace _ refl (word_link w ws (codes "pol") Pol _ refl
    (word_link w ws (codes "commit") Commit _ refl (word_link w ws (codes "public") Public _ refl (word_link w ws (codes "in") In _ refl
    (word_link w ws (codes "is") Is None refl (λ e. cc)))))))

worded_spells : (o : Option Word) (ws : List ℕ) → word_of ws ≡ o → IsWordLike ws → Spells (worded o ws) ws
worded_spells None ws e like = ((like, rw e refl), refl)
worded_spells (Some w) ws e like = word_found ws w e

word_front : (b : ℕ) (bs : List ℕ) → begins_name b ≡ true → IsFront (b ∷ bs) (word_like (take_while continues_name (b ∷ bs)))
word_front b bs letter =
    let ws = take_while continues_name (b ∷ bs) in
    let like : IsWordLike ws = word_like_front b bs letter in
    let some : 0 < length ws = front_some continues_name b bs (begins_continues b letter) in (
      record {
        spelled = subst (Spells (worded (word_of ws) ws)) (sym (take_front continues_name (b ∷ bs))) (worded_spells (word_of ws) ws refl like);
        longest = λ k u le h. word_longest b bs k some le (shape_of u (take k (b ∷ bs)) h);
      },
      worded_valid (word_of ws) ws refl like,
    )

-- a number is whole where it is small
numbered_front : (bs : List ℕ) (n size : ℕ) → IsLongest bs (token.Number n) size → IsFront bs (numbered n size)
numbered_front bs n size h =
    chosen (IsFront bs) (nat_lt n 18446744069414584321) _ _
    (λ e. let small : n < 18446744069414584321 = grind (arith, common_steps, e) in (h, small))
    (λ e. let large : 18446744069414584321 ≤ n = grind (arith, common_steps, e) in (n, size, h, large))

digits_all : (radix : ℕ) (ds : List ℕ) → list_all (λ c. is_digit c radix) ds ≡ true → AllDigits radix ds
digits_all radix [] h = tt
digits_all radix (d ∷ ds) h =
    let parts = both (is_digit d radix) (list_all (λ c. is_digit c radix) ds) h in
    let digit : digit_value d < radix = below (digit_value d) radix parts.0 in
    (digit, digits_all radix ds parts.1)
  where
    below : (n m : ℕ) → nat_lt n m ≡ true → n < m
    below n m e = grind (arith, common_steps, e)

-- `0x` and digits at the front of a text
split_hexadecimal : (bs ds : List ℕ) (k : ℕ) → take k bs ≡ codes "0x" ++ ds → bs ≡ codes "0x" ++ (ds ++ drop k bs)
split_hexadecimal bs ds k e = sym (take-append-drop k bs) ∙ ap (λ (l : List ℕ). l ++ drop k bs) e

covered_digits : (ds more : List ℕ) → list_all hexadecimal_digit ds ≡ true → length ds ≤ length (digits_at 16 (ds ++ more))
covered_digits ds more all =
    let front : take (length ds) (ds ++ more) ≡ ds = take-append_seam ds more in
    covers hexadecimal_digit (ds ++ more) (length ds) (omega (arith, length-append ds more)) (rw front all)

-- the digits behind a `0x` are those of the definition
hexadecimal_found : (bs ds : List ℕ) (k : ℕ) → take k bs ≡ codes "0x" ++ ds → list_all hexadecimal_digit ds ≡ true → length ds ≤ length (hexadecimal_at bs)
hexadecimal_found bs ds k e all =
    let P : List ℕ → Type 0 = λ l. length ds ≤ length (hexadecimal_at l) in
    subst P (sym (split_hexadecimal bs ds k e)) (covered_digits ds (drop k bs) all)

hexadecimal_parts : (bs : List ℕ) → nat_lt 0 (length (hexadecimal_at bs)) ≡ true → (starts_with nat_eq bs (codes "0x") ≡ true) × (hexadecimal_at bs ≡ digits_at 16 (drop 2 bs))
hexadecimal_parts bs =
    chosen (λ (hs : List ℕ). nat_lt 0 (length hs) ≡ true → (starts_with nat_eq bs (codes "0x") ≡ true) × (hs ≡ digits_at 16 (drop 2 bs))) (starts_with nat_eq bs (codes "0x")) (digits_at 16 (drop 2 bs)) []
    (λ e _. (e, refl))
    (λ _ e. let x : true ≡ false = cc in absurd (cc))

-- at a digit, a token is a number, or else has no letter
number_longest : (b : ℕ) (bs : List ℕ) (k n : ℕ) → is_digit b 10 ≡ true → 1 ≤ n → k ≤ length (b ∷ bs)
    → length (digits_at 10 (b ∷ bs)) ≤ n
    → ((ds : List ℕ) → take k (b ∷ bs) ≡ codes "0x" ++ ds → list_all hexadecimal_digit ds ≡ true → 0 < length ds → k ≤ n)
    → Shape (take k (b ∷ bs)) → k ≤ n
number_longest b bs k n digit one le decimal hexadecimal (word_shape h) = absurd (let l : begins_name b ≡ true = starts_letter b bs k h in let d : begins_name b ≡ false = (digit_cases b digit).2 in cc)
number_longest b bs k n digit one le decimal hexadecimal (decimal_shape h some) = omega (arith, covers decimal_digit (b ∷ bs) k le h, decimal)
number_longest b bs k n digit one le decimal hexadecimal (hexadecimal_shape ds e h some) = hexadecimal ds e h some
number_longest b bs k n digit one le decimal hexadecimal (mark_shape m e) = omega (arith, one_long (b ∷ bs) k (mark_byte m) le e, one)

hexadecimal_size : (bs ds : List ℕ) (k : ℕ) → k ≤ length bs → take k bs ≡ codes "0x" ++ ds → k ≡ 2 + length ds
hexadecimal_size bs ds k le e = sym (take_size bs k le) ∙ ap (λ (l : List ℕ). length l) e ∙ length-append (codes "0x") ds

decimal_front : (b : ℕ) (bs : List ℕ) → is_digit b 10 ≡ true → nat_lt 0 (length (hexadecimal_at (b ∷ bs))) ≡ false → IsLongest (b ∷ bs) (token.Number (digits_value 10 (digits_at 10 (b ∷ bs)))) (length (digits_at 10 (b ∷ bs)))
decimal_front b bs digit none =
    let ds = digits_at 10 (b ∷ bs) in
    let some : 0 < length ds = front_some decimal_digit b bs digit in
    let few : length (hexadecimal_at (b ∷ bs)) ≡ 0 = grind (arith, common_steps, none) in
    record {
      spelled = subst (Spells (token.Number (digits_value 10 ds))) (sym (take_front decimal_digit (b ∷ bs))) (inl ((some, digits_all 10 ds (all_front decimal_digit (b ∷ bs))), refl));
      longest = λ k u le h. number_longest b bs k (length ds) digit some le (omega arith)
          (λ hs e all more. let found = hexadecimal_found (b ∷ bs) hs k e all in absurd (omega (arith, found, few, more)))
          (shape_of u (take k (b ∷ bs)) h);
    }

hexadecimal_front : (b : ℕ) (bs : List ℕ) → is_digit b 10 ≡ true → nat_lt 0 (length (hexadecimal_at (b ∷ bs))) ≡ true → IsLongest (b ∷ bs) (token.Number (digits_value 16 (hexadecimal_at (b ∷ bs)))) (2 + length (hexadecimal_at (b ∷ bs)))
hexadecimal_front b bs digit some =
    let hs = hexadecimal_at (b ∷ bs) in
    let left = drop 2 (b ∷ bs) in
    let parts = hexadecimal_parts (b ∷ bs) some in
    let whole : b ∷ bs ≡ codes "0x" ++ left = starts_front (codes "0x") (b ∷ bs) parts.0 in
    let positive : 0 < length hs = grind (arith, common_steps, some) in
    let few : length (digits_at 10 (b ∷ bs)) ≤ 1 = (let P : List ℕ → Type 0 = λ l. length (digits_at 10 l) ≤ 1 in subst P (sym whole) (omega arith)) in
    let behind : take (length hs) left ≡ hs = ap (λ (ds : List ℕ). take (length ds) left) parts.1 ∙ (take_front hexadecimal_digit left ∙ sym parts.1) in
    let front : take (2 + length hs) (b ∷ bs) ≡ codes "0x" ++ hs = ap (take (2 + length hs)) whole ∙ (take-append-add (codes "0x") left (length hs) ∙ ap (λ (l : List ℕ). codes "0x" ++ l) behind) in
    let all : list_all hexadecimal_digit hs ≡ true = (let P : List ℕ → Type 0 = λ l. list_all hexadecimal_digit l ≡ true in subst P (sym parts.1) (all_front hexadecimal_digit left)) in
    record {
      spelled = inr (hs, front, (positive, digits_all 16 hs all), refl);
      longest = λ k u le h. number_longest b bs k (2 + length hs) digit (omega arith) le (omega (arith, few))
          (λ ds e all more. omega (arith, hexadecimal_size (b ∷ bs) ds k le e, hexadecimal_found (b ∷ bs) ds k e all))
          (shape_of u (take k (b ∷ bs)) h);
    }

-- at a byte that is no blank, slash, letter or digit
marked_front : (b : ℕ) (bs : List ℕ) (o : Option Mark) → is_blank b ≡ false → nat_eq b 47 ≡ false → begins_name b ≡ false → is_digit b 10 ≡ false → mark_of b ≡ o → IsFront (b ∷ bs) (marked o)
marked_front b bs None blank slash letter digit found = (
  none_begins b bs letter digit (λ m e. let known = mark_of-mark_byte m in let x : None ≡ Some m = sym found ∙ (ap mark_of e ∙ known) in absurd (cc)),
  not_passed b bs blank (λ e _. absurd (slashed e)) (λ e _. absurd (slashed e)),
)
  where
    slashed : nat_eq 47 b ≡ true → ⊥
    slashed e = let x : b ≡ 47 = grind (arith, common_steps, e) in let y : nat_eq b 47 ≡ true = rw x refl in no_longer (nat_eq b 47) slash y
marked_front b bs (Some m) blank slash letter digit found = (
  record {
    spelled = ap (λ (c : ℕ). c ∷ []) (mark_found b m found);
    longest = λ k u le h. shaped k le (shape_of u (take k (b ∷ bs)) h);
  },
  tt,
)
  where
    shaped : (k : ℕ) → k ≤ length (b ∷ bs) → Shape (take k (b ∷ bs)) → k ≤ 1
    shaped k le (word_shape h) = absurd (let l : begins_name b ≡ true = starts_letter b bs k h in cc)
    shaped k le (decimal_shape h some) = absurd (let d : is_digit b 10 ≡ true = starts_digit b bs k h some in cc)
    shaped k le (hexadecimal_shape ds e h some) = absurd (let z : b ≡ 48 = starts_byte b 48 bs (120 ∷ ds) k e in let d : is_digit b 10 ≡ true = rw z refl in cc)
    shaped k le (mark_shape m e) = omega (arith, one_long (b ∷ bs) k (mark_byte m) le e)

-- a blank or a comment, closed or not, begins no token
no_letter : (b : ℕ) (c : Bool) → begins_name b ≡ c → (begins_name b ≡ true → ⊥) → begins_name b ≡ false
no_letter b true e h = absurd (h e)
no_letter b false e h = e

no_digit : (b : ℕ) (c : Bool) → is_digit b 10 ≡ c → (is_digit b 10 ≡ true → ⊥) → is_digit b 10 ≡ false
no_digit b true e h = absurd (h e)
no_digit b false e h = e

blank_none : (b : ℕ) (bs : List ℕ) → is_blank b ≡ true → BeginsNone (b ∷ bs)
blank_none b bs blank =
    none_begins b bs (no_letter b (begins_name b) refl (λ l. no_letter_blank b l blank)) (no_digit b (is_digit b 10) refl (λ d. let e = (digit_cases b d).0 in cc))
    (λ m e. let f = blank_unmarked m in let g : is_blank (mark_byte m) ≡ true = ap is_blank (sym e) ∙ blank in cc)

slash_none : (b : ℕ) (bs : List ℕ) → nat_eq b 47 ≡ true → BeginsNone (b ∷ bs)
slash_none b bs slash =
    none_begins b bs (no_letter b (begins_name b) refl (λ l. no_letter_slash b l slash)) (no_digit b (is_digit b 10) refl (λ d. let e = (digit_cases b d).1 in cc))
    (λ m e. let f = slash_unmarked m in let g : nat_eq (mark_byte m) 47 ≡ true = ap (λ (c : ℕ). nat_eq c 47) (sym e) ∙ slash in cc)

enclosed_front : (bs : List ℕ) (o : Option ℕ) → closed (drop 1 bs) ≡ o → starts_with nat_eq bs (codes "*") ≡ true → BeginsNone (47 ∷ bs) → IsFront (47 ∷ bs) (enclosed o)
enclosed_front bs None found star h = (
  h,
  not_passed 47 bs refl
      (λ _ line. two_seconds bs line star)
      (λ _ _ j closes. let none : ClosedBy (drop 1 bs) None = (let P : Option ℕ → Type 0 = λ o. ClosedBy (drop 1 bs) o in subst P found (closed_by (drop 1 bs))) in none j closes),
)
  where
    two_seconds : (bs : List ℕ) → starts_with nat_eq bs (codes "/") ≡ true → starts_with nat_eq bs (codes "*") ≡ true → ⊥
    two_seconds bs line star = let same = sym (starts_front (codes "/") bs line) ∙ starts_front (codes "*") bs star in let x : ◌≡◌ {A = ℕ} 47 42 = cc in absurd (omega (arith, x))
enclosed_front bs (Some n) found star h = (h, inr (inr (block_passed bs n star found)))

comment_front : (bs : List ℕ) → BeginsNone (47 ∷ bs) → IsFront (47 ∷ bs) (comment bs)
comment_front bs h =
    chosen (IsFront (47 ∷ bs)) (starts_with nat_eq bs (codes "/")) _ _
    (λ e. (h, inr (inl (line_passed bs e))))
    (λ n. chosen (IsFront (47 ∷ bs)) (starts_with nat_eq bs (codes "*")) _ _
    (λ e. enclosed_front bs (closed (drop 1 bs)) refl e h)
    (λ s. (h, not_passed 47 bs refl (λ _ line. no_longer (starts_with nat_eq bs (codes "/")) n line) (λ _ star. absurd (no_longer (starts_with nat_eq bs (codes "*")) s star)))))

slash_front : (b : ℕ) (bs : List ℕ) → nat_eq b 47 ≡ true → IsFront (b ∷ bs) (comment bs)
slash_front b bs slash =
    let same : b ≡ 47 = grind (arith, common_steps, slash) in
    let P : ℕ → Type 0 = λ c. IsFront (c ∷ bs) (comment bs) in
    subst P (sym same) (comment_front bs (slash_none 47 bs refl))

pub begins_front : (b : ℕ) (bs : List ℕ) → IsFront (b ∷ bs) (begins (b ∷ bs))
begins_front b bs =
    begins_cases (IsFront (b ∷ bs)) b bs
    (λ w. (blank_none b bs w, inl (b, refl, w)))
    (λ _ s. slash_front b bs s)
    (λ _ _ l. word_front b bs l)
    (λ _ _ _ d. chosen (IsFront (b ∷ bs)) (nat_lt 0 (length (hexadecimal_at (b ∷ bs)))) _ _ (λ e. numbered_front (b ∷ bs) _ _ (hexadecimal_front b bs d e)) (λ e. numbered_front (b ∷ bs) _ _ (decimal_front b bs d e)))
    (λ w s l d. marked_front b bs (mark_of b) w s l d refl)

-- of a text that isn't empty
pub front_of : (bs : List ℕ) → 0 < length bs → IsFront bs (begins bs)
front_of [] some = absurd (omega arith)
front_of (b ∷ bs) some = begins_front b bs
