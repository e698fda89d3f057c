-- The printed text of statements has the tokens of the statements, and as many signs as they.
use Rattle.std.proofs.Common.{ℕ, ◌≡◌, ◌<◌, ◌+◌, List, [], ◌∷◌, ◌++◌, Bool, true, false, ◌&&◌, length, map, count_by, All, Option, Some, None, Result, Ok, Err, refl, sym, ap, subst, ◌∙◌, arith, append_assoc}
use Rattle.std.specs.Prelude.{codes, decimal}
use Rattle.std.proofs.lemmas.List.{append-nil, map-append}
use Rattle.std.proofs.lemmas.List.Elements.{All-head, All-tail}
use Rattle.pil_token.specs.declared.token.Token.{Token}
use Rattle.pil_token.specs.declared.token.Token.TheVariants as token
use Rattle.pil_token.specs.declared.token.Word.{Word}
use Rattle.pil_token.specs.declared.token.Word.TheVariants.{Constant, Namespace, Pol, Commit, Public, In, Is}
use Rattle.pil_token.specs.declared.token.Mark.{Mark}
use Rattle.pil_token.specs.declared.token.Mark.TheVariants.{Percent, Equals, Semicolon, OpenParen, CloseParen, OpenBrace, CloseBrace, OpenBracket, CloseBracket, Comma, Dot, Prime, Plus, Minus, Star, Colon}
use Rattle.pil_token.specs.declared.token.Placed.{Placed}
use Rattle.pil_token.specs.declared.token.LexErr.{LexErr}
use Rattle.pil_token.specs.Spelled.{IsToken, spelling, starts_word, ends_word, IsApart, LexesTo, SpellingLexes, BlankLexes, ApartLexes, WholeLexes, SpellingContinues}
use Rattle.pil_token.specs.Tokens.{lexed, lexed_from, after}
use Rattle.pil_syntax.specs.declared.tree.Ident.{Ident}
use Rattle.pil_syntax.specs.declared.tree.Number.{Number}
use Rattle.pil_syntax.specs.declared.tree.Reference.{Reference}
use Rattle.pil_syntax.specs.declared.tree.Declaration.{Declaration}
use Rattle.pil_syntax.specs.declared.tree.ColumnKind.{ColumnKind}
use Rattle.pil_syntax.specs.declared.tree.ColumnKind.TheVariants as kinds
use Rattle.pil_syntax.specs.declared.tree.Size.{Size}
use Rattle.pil_syntax.specs.declared.tree.Size.TheVariants as sizes
use Rattle.pil_syntax.specs.Tree.{Term, num, col, constant, public, opp, group, ◌⊕◌, ◌⊖◌, ◌⊗◌, Filter, every, by_col, by_group, Tuple, Sentence, constant_is, namespace_of, columns, intermediate, public_is, identity, lookup, bus}
use Rattle.pil_syntax.specs.Spelling.{mark, marked, word, name, numeral, space_tokens, index_tokens, next_tokens, ref_tokens, term_tokens, filter_tokens, joined, tuple_tokens, declaration_tokens, kind_word, size_tokens, sentence_tokens, tokens_of}
use Rattle.pil_syntax.specs.Placeless.{token_of}
use Rattle.pil_meaning.specs.Soundness.{is_sign}
use Rattle.pil_meaning.specs.Given.{is_sign_byte}
use Rattle.pil_print.proofs.Signs.{HasSignsOf, signs-join, signs-one}
use Rattle.pil_print.specs.Printed.{space_text, index_text, next_text, reference_text, term_text, filter_text, separated, tuple_text, declaration_text, kind_text, size_text, sentence_text, text_of}

-- a text is read as these tokens, whatever follows that is apart from it, and has as many signs
record Lexes (text : List ℕ) (ps : List Placed) : Type 0 where
  lexes : LexesTo text (map token_of ps)
  signs : HasSignsOf text ps

-- each is a token that a text can have
abbrev pub AreTokens : List Placed → Type 0
AreTokens [] = Unit {0}
AreTokens (t ∷ ts) = IsToken t.token × AreTokens ts

pub both : (ps qs : List Placed) → AreTokens (ps ++ qs) → AreTokens ps × AreTokens qs
both [] qs h = (tt, h)
both (p ∷ ps) qs h = let rest = both ps qs h.1 in ((h.0, rest.0), rest.1)

pub are-tokens : (ps : List Placed) → All (λ t. IsToken t.token) ps → AreTokens ps
are-tokens [] h = tt
are-tokens (p ∷ ps) h = (All-head (λ t. IsToken t.token) p ps h, are-tokens ps (All-tail (λ t. IsToken t.token) p ps h))

no-word : (b : Bool) → (b && false) ≡ false
no-word true = refl
no-word false = refl

apart-left : (xs ys : List ℕ) → ends_word xs ≡ false → IsApart xs ys
apart-left xs ys e = ap (λ b. b && starts_word ys) e

apart-right : (xs ys : List ℕ) → starts_word ys ≡ false → IsApart xs ys
apart-right xs ys e = ap (λ b. ends_word xs && b) e ∙ no-word (ends_word xs)

-- nothing is read of no bytes
nothing : (ts : List Token) → LexesTo [] ts → ts ≡ []
nothing ts h =
    let w = h 0 [] refl in
    let none : w.0 ≡ [] = sym (append-nil w.0) ∙ oks (w.0 ++ []) w.2 in
    sym w.1 ∙ ap (map (λ (p : Placed). p.token)) none
  where
    oks : (ps : List Placed) → (let r : Result (List Placed) LexErr = Ok [] in r) ≡ Ok ps → ps ≡ []
    oks ps e = cc

-- by the laws of spelling
module _ (spelling_lexes : SpellingLexes) (blank_lexes : BlankLexes) (append_lexes : ApartLexes) (lexes_whole : WholeLexes) (continues : SpellingContinues) where
  join : (xs ys : List ℕ) (ts us : List Token) → IsApart xs ys → LexesTo xs ts → LexesTo ys us → LexesTo (xs ++ ys) (ts ++ us)
  join xs [] ts us apart first second =
      subst (λ s. LexesTo s (ts ++ us)) (sym (append-nil xs)) (subst (λ vs. LexesTo xs vs) (sym (ap (λ vs. ts ++ vs) (nothing us second) ∙ append-nil ts)) first)
  join xs (y ∷ ys) ts us apart first second = append_lexes xs (y ∷ ys) ts us (omega arith) apart first second

  left : {xs ys : List ℕ} {ps qs : List Placed} → ends_word xs ≡ false → Lexes xs ps → Lexes ys qs → Lexes (xs ++ ys) (ps ++ qs)
  left {xs = xs} {ys = ys} {ps = ps} {qs = qs} e a b =
      record { lexes = subst (LexesTo (xs ++ ys)) (sym (map-append token_of ps qs)) (join xs ys (map token_of ps) (map token_of qs) (apart-left xs ys e) a.lexes b.lexes); signs = signs-join xs ys ps qs a.signs b.signs }

  right : {xs ys : List ℕ} {ps qs : List Placed} → starts_word ys ≡ false → Lexes xs ps → Lexes ys qs → Lexes (xs ++ ys) (ps ++ qs)
  right {xs = xs} {ys = ys} {ps = ps} {qs = qs} e a b =
      record { lexes = subst (LexesTo (xs ++ ys)) (sym (map-append token_of ps qs)) (join xs ys (map token_of ps) (map token_of qs) (apart-right xs ys e) a.lexes b.lexes); signs = signs-join xs ys ps qs a.signs b.signs }

  one : (t : Token) (i : ℕ) → IsToken t → Lexes (spelling t) ((let p : Placed = record { token = t; at = i } in p) ∷ [])
  one t i h = record { lexes = spelling_lexes t h; signs = signs-one continues (record { token = t; at = i }) h }

  none : Lexes [] []
  none = record { lexes = λ at rest apart. ([], refl, after-none (lexed_from 0 (at + 0) rest) at rest); signs = refl }
    where
      after-none : (r : Result (List Placed) LexErr) (at : ℕ) (rest : List ℕ) → lexed_from 0 at rest ≡ after [] (lexed_from 0 (at + 0) rest)
      after-none r at rest = ap (λ k. lexed_from 0 k rest) (let e : at ≡ at + 0 = omega arith in e) ∙ kept (lexed_from 0 (at + 0) rest)
        where
          kept : (q : Result (List Placed) LexErr) → q ≡ after [] q
          kept (Ok ts) = refl
          kept (Err e) = refl

  a-mark : (m : Mark) (i : ℕ) → Lexes (spelling (token.Mark m)) (marked m i ∷ [])
  a-mark m i = one (token.Mark m) i tt

  a-word : (w : Word) → Lexes (spelling (token.Word w)) (word w ∷ [])
  a-word w = one (token.Word w) 0 tt

  space : Lexes (codes " ") []
  space = record { lexes = blank_lexes 32 refl; signs = refl }

  feed : Lexes (codes "\n") []
  feed = record { lexes = blank_lexes 10 refl; signs = refl }

  a-name : (x : Ident) → IsToken (token.Name x.name) → Lexes x.name (name x ∷ [])
  a-name x h = one (token.Name x.name) x.at h

  a-number : (n : Number) → IsToken (token.Number n.value) → Lexes (decimal n.value) (numeral n ∷ [])
  a-number n h = one (token.Number n.value) n.at h

  -- a mark with a space on both sides, and a word
  around : (m : Mark) → starts_word (spelling (token.Mark m)) ≡ false → ends_word (spelling (token.Mark m)) ≡ false → Lexes (codes " " ++ (spelling (token.Mark m) ++ codes " ")) (mark m ∷ [])
  around m s e = left refl space (left e (a-mark m 0) space)

  around-word : (w : Word) → Lexes (codes " " ++ (spelling (token.Word w) ++ codes " ")) (word w ∷ [])
  around-word w = left refl space (right refl (a-word w) space)

  -- a word and a space
  behind : (w : Word) → Lexes (spelling (token.Word w) ++ codes " ") (word w ∷ [])
  behind w = right refl (a-word w) space

  ends-append : (xs : List ℕ) (y : ℕ) (ys : List ℕ) → ends_word (xs ++ y ∷ ys) ≡ ends_word (y ∷ ys)
  ends-append [] y ys = refl
  ends-append (x ∷ []) y ys = refl
  ends-append (x ∷ z ∷ xs) y ys = ends-append (z ∷ xs) y ys

  starts-next : (n : Option ℕ) → starts_word (next_text n) ≡ false
  starts-next None = refl
  starts-next (Some i) = refl

  starts-index : (n : Option Number) (m : Option ℕ) → starts_word (index_text n ++ next_text m) ≡ false
  starts-index None m = starts-next m
  starts-index (Some n) m = refl

  starts-length : (n : Option Number) → starts_word (index_text n) ≡ false
  starts-length None = refl
  starts-length (Some n) = refl

  ends-space : (x : Option Ident) → ends_word (space_text x) ≡ false
  ends-space None = refl
  ends-space (Some x) = ends-append x.name 46 []

  space-lexes : (x : Option Ident) → AreTokens (space_tokens x) → Lexes (space_text x) (space_tokens x)
  space-lexes None h = none
  space-lexes (Some x) h = right refl (a-name x h.0) (a-mark Dot 0)

  index-lexes : (n : Option Number) → AreTokens (index_tokens n) → Lexes (index_text n) (index_tokens n)
  index-lexes None h = none
  index-lexes (Some n) h = left refl (a-mark OpenBracket 0) (right refl (a-number n h.1.0) (a-mark CloseBracket 0))

  next-lexes : (n : Option ℕ) → Lexes (next_text n) (next_tokens n)
  next-lexes None = none
  next-lexes (Some i) = a-mark Prime i

  ref-lexes : (r : Reference) → AreTokens (ref_tokens r) → Lexes (reference_text r) (ref_tokens r)
  ref-lexes r h =
      let parts = both (space_tokens r.space) (name r.name ∷ (index_tokens r.index ++ next_tokens r.next)) h in
      let rest = both (index_tokens r.index) (next_tokens r.next) parts.1.1 in
      left (ends-space r.space) (space-lexes r.space parts.0) (right (starts-index r.index r.next) (a-name r.name parts.1.0) (right (starts-next r.next) (index-lexes r.index rest.0) (next-lexes r.next)))

  term-lexes : (e : Term) → AreTokens (term_tokens e) → Lexes (term_text e) (term_tokens e)
  term-lexes (num n) h = a-number n h.0
  term-lexes (col r) h = ref-lexes r h
  term-lexes (constant x) h = left refl (a-mark Percent 0) (a-name x h.1.0)
  term-lexes (public x) h = left refl (a-mark Colon 0) (a-name x h.1.0)
  term-lexes (opp e) h = left refl (a-mark Minus 0) (term-lexes e h.1)
  term-lexes (group e) h = left refl (a-mark OpenParen 0) (right refl (term-lexes e (both (term_tokens e) (mark CloseParen ∷ []) h.1).0) (a-mark CloseParen 0))
  term-lexes (a ⊕ b) h =
      let parts = both (term_tokens a) (mark Plus ∷ term_tokens b) h in
      right refl (term-lexes a parts.0) (left refl (around Plus refl refl) (term-lexes b parts.1.1))
  term-lexes (a ⊖ b) h =
      let parts = both (term_tokens a) (mark Minus ∷ term_tokens b) h in
      right refl (term-lexes a parts.0) (left refl (around Minus refl refl) (term-lexes b parts.1.1))
  term-lexes (a ⊗ b) h =
      let parts = both (term_tokens a) (mark Star ∷ term_tokens b) h in
      right refl (term-lexes a parts.0) (left refl (around Star refl refl) (term-lexes b parts.1.1))

  filter-lexes : (f : Filter) → AreTokens (filter_tokens f) → Lexes (filter_text f) (filter_tokens f)
  filter-lexes every h = none
  filter-lexes (by_col r) h = subst (λ ts. Lexes (filter_text (by_col r)) ts) (append-nil (ref_tokens r)) (right refl (ref-lexes r h) space)
  filter-lexes (by_group e) h = left refl (a-mark OpenParen 0) (right refl (term-lexes e (both (term_tokens e) (mark CloseParen ∷ []) h.1).0) (left refl (a-mark CloseParen 0) space))

  comma : Lexes (codes ", ") (mark Comma ∷ [])
  comma = left refl (a-mark Comma 0) space

  separated-lexes : {A : Type 0} (m : Mark) (between : List ℕ) (f : A → List ℕ) (g : A → List Placed) (xs : List A) → starts_word between ≡ false → ends_word between ≡ false → 0 < length between → Lexes between (mark m ∷ [])
      → ((x : A) → AreTokens (g x) → Lexes (f x) (g x)) → AreTokens (joined m g xs) → Lexes (separated between f xs) (joined m g xs)
  separated-lexes m between f g [] s e some l each h = none
  separated-lexes m between f g (x ∷ []) s e some l each h = each x h
  separated-lexes m between f g (x ∷ y ∷ xs) s e some l each h =
      let parts = both (g x) (mark m ∷ joined m g (y ∷ xs)) h in
      right (starts-more between (separated between f (y ∷ xs)) some s) (each x parts.0) (left e l (separated-lexes m between f g (y ∷ xs) s e some l each parts.1.1))
    where
      starts-more : (xs ys : List ℕ) → 0 < length xs → starts_word xs ≡ false → starts_word (xs ++ ys) ≡ false
      starts-more [] ys some s = absurd (omega arith)
      starts-more (x ∷ xs) ys some s = s

  tuple-lexes : (l : Tuple) → AreTokens (tuple_tokens l) → Lexes (tuple_text l) (tuple_tokens l)
  tuple-lexes l h =
      let parts = both (filter_tokens l.filter) (marked OpenBrace l.at ∷ (joined Comma term_tokens l.entries ++ mark CloseBrace ∷ [])) h in
      let rest = both (joined Comma term_tokens l.entries) (mark CloseBrace ∷ []) parts.1.1 in
      right refl (filter-lexes l.filter parts.0)
      (left refl (a-mark OpenBrace l.at) (right refl (separated-lexes Comma (codes ", ") term_text term_tokens l.entries refl refl (omega arith) comma term-lexes rest.0) (a-mark CloseBrace 0)))

  tuples-lexes : (ls : List Tuple) → AreTokens (joined Plus tuple_tokens ls) → Lexes (separated (codes " + ") tuple_text ls) (joined Plus tuple_tokens ls)
  tuples-lexes ls h = separated-lexes Plus (codes " + ") tuple_text tuple_tokens ls refl refl (omega arith) (around Plus refl refl) tuple-lexes h

  declaration-lexes : (d : Declaration) → AreTokens (declaration_tokens d) → Lexes (declaration_text d) (declaration_tokens d)
  declaration-lexes d h = right (starts-length d.length) (a-name d.name h.0) (index-lexes d.length h.1)

  kind-lexes : (k : ColumnKind) → Lexes (kind_text k) (word (kind_word k) ∷ [])
  kind-lexes kinds.Constant = behind Constant
  kind-lexes kinds.Commit = behind Commit

  ends-kind : (k : ColumnKind) → ends_word (kind_text k) ≡ false
  ends-kind kinds.Constant = refl
  ends-kind kinds.Commit = refl

  size-lexes : (n : Size) → AreTokens (size_tokens n) → Lexes (size_text n) (size_tokens n)
  size-lexes (sizes.Number n) h = a-number n h.0
  size-lexes (sizes.Constant x) h = left refl (a-mark Percent 0) (a-name x h.1.0)

  equals : Lexes (codes " = ") (mark Equals ∷ [])
  equals = around Equals refl refl

  sentence-lexes : (s : Sentence) → AreTokens (sentence_tokens s) → Lexes (sentence_text s) (sentence_tokens s)
  sentence-lexes (constant_is x n) h = left refl (left refl (behind Constant) (a-mark Percent 0)) (right refl (a-name x h.1.1.0) (left refl equals (a-number n h.1.1.1.1.0)))
  sentence-lexes (namespace_of x n) h =
      left refl (behind Namespace) (right refl (a-name x h.1.0) (left refl (a-mark OpenParen 0) (right refl (size-lexes n (both (size_tokens n) (mark CloseParen ∷ []) h.1.1.1).0) (a-mark CloseParen 0))))
  sentence-lexes (columns k ds) h =
      left refl (behind Pol) (left (ends-kind k) (kind-lexes k) (separated-lexes Comma (codes ", ") declaration_text declaration_tokens ds refl refl (omega arith) comma declaration-lexes h.1.1))
  sentence-lexes (intermediate x e) h = left refl (behind Pol) (right refl (a-name x h.1.0) (left refl equals (term-lexes e h.1.1.1)))
  sentence-lexes (public_is x r n) h =
      let parts = both (ref_tokens r) (mark OpenParen ∷ numeral n ∷ mark CloseParen ∷ []) h.1.1.1 in
      left refl (behind Public) (right refl (a-name x h.1.0)
      (left refl equals (right refl (ref-lexes r parts.0) (left refl (a-mark OpenParen 0) (right refl (a-number n parts.1.1.0) (a-mark CloseParen 0))))))
  sentence-lexes (identity a b) h =
      let parts = both (term_tokens a) (mark Equals ∷ term_tokens b) h in
      right refl (term-lexes a parts.0) (left refl equals (term-lexes b parts.1.1))
  sentence-lexes (lookup a b) h =
      let parts = both (tuple_tokens a) (word In ∷ tuple_tokens b) h in
      right refl (tuple-lexes a parts.0) (left refl (around-word In) (tuple-lexes b parts.1.1))
  sentence-lexes (bus a b) h =
      let parts = both (joined Plus tuple_tokens a) (word Is ∷ joined Plus tuple_tokens b) h in
      right refl (tuples-lexes a parts.0) (left refl (around-word Is) (tuples-lexes b parts.1.1))

  text-lexes : (ss : List Sentence) → AreTokens (tokens_of ss) → Lexes (text_of ss) (tokens_of ss)
  text-lexes [] h = none
  text-lexes (s ∷ ss) h =
      let parts = both (sentence_tokens s) (mark Semicolon ∷ tokens_of ss) h in
      subst (Lexes (text_of (s ∷ ss))) (append_assoc (sentence_tokens s) (mark Semicolon ∷ []) (tokens_of ss))
      (left (ends-append (sentence_text s) 59 (10 ∷ [])) (right refl (sentence-lexes s parts.0) (left refl (a-mark Semicolon 0) feed)) (text-lexes ss parts.1.1))

  pub whole_text : (ss : List Sentence) → All (λ t. IsToken t.token) (tokens_of ss) → (ts : List Placed) × (lexed (text_of ss) ≡ Ok ts) × (map token_of ts ≡ map token_of (tokens_of ss))
  whole_text ss h =
      let w = lexes_whole (text_of ss) (map token_of (tokens_of ss)) (text-lexes ss (are-tokens (tokens_of ss) h)).lexes in
      (w.0, w.2, w.1)

  -- each `;`, `,` and `{` of the printed text is a token
  pub text-signs : (ss : List Sentence) → All (λ t. IsToken t.token) (tokens_of ss) → count_by is_sign_byte (text_of ss) ≡ count_by is_sign (tokens_of ss)
  text-signs ss h = (text-lexes ss (are-tokens (tokens_of ss) h)).signs
