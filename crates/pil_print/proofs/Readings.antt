-- A printed text is read as statements that are accepted and mean what was printed.
use Rattle.std.proofs.Common.{ℕ, ◌≡◌, ◌≤◌, ◌^◌, List, [], ◌∷◌, ◌++◌, map, cond, sum_by, Option, Some, None, refl, sym, ap, subst, ◌∙◌, arith}
use Rattle.std.proofs.lemmas.List.{map-append}
use Rattle.std.proofs.lemmas.List.Sums.{sum_by-cons}
use Rattle.pil_token.specs.declared.token.Token.{Token}
use Rattle.pil_token.specs.declared.token.Placed.{Placed}
use Rattle.pil_token.specs.Spelled.{SpellingLexes, BlankLexes, ApartLexes, WholeLexes, SpellingContinues}
use Rattle.pil_token.specs.declared.token.Mark.{Mark}
use Rattle.pil_token.specs.declared.token.Mark.TheVariants.{Equals, Semicolon, OpenParen, CloseParen, OpenBrace, CloseBrace, Comma, Plus, Minus, Star}
use Rattle.pil_token.specs.declared.token.Word.TheVariants as words
use Rattle.pil_syntax.specs.declared.tree.Ident.{Ident}
use Rattle.pil_syntax.specs.declared.tree.Number.{Number}
use Rattle.pil_syntax.specs.declared.tree.Reference.{Reference}
use Rattle.pil_syntax.specs.declared.tree.Declaration.{Declaration}
use Rattle.pil_syntax.specs.declared.tree.Size.{Size}
use Rattle.pil_syntax.specs.declared.tree.Size.TheVariants as sizes
use Rattle.pil_syntax.specs.Tree.{Term, num, col, constant, public, opp, group, ◌⊕◌, ◌⊖◌, ◌⊗◌, Filter, every, by_col, by_group, Tuple, Sentence, constant_is, namespace_of, columns, intermediate, public_is, identity, lookup, bus}
use Rattle.pil_syntax.specs.Spelling.{mark, marked, word, name, numeral, seen, space_tokens, index_tokens, next_tokens, ref_tokens, term_tokens, filter_tokens, joined, tuple_tokens, declaration_tokens, kind_word, size_tokens, sentence_tokens, tokens_of}
use Rattle.pil_syntax.specs.Grammar.{limits}
use Rattle.pil_syntax.specs.Placeless.{token_of, IsPlaceless}
use Rattle.pil_syntax.specs.Printing.{IsDressing}
use Rattle.pil_ast.specs.Term.{Line, Namespace, columns_of}
use Rattle.pil_ast.specs.Sound.{IsItem}
use Rattle.pil_names.specs.Outline.{Outline, outline_of}
use Rattle.pil_meaning.specs.Meaning.{meaning}
use Rattle.pil_meaning.specs.Soundness.{is_sign_of, is_sign, IsShort, UnbrokenIsSound}
use Rattle.pil_meaning.specs.Standing.{MeaningIsReading}
use Rattle.pil_print.specs.Statements.{sentences_of}
use Rattle.pil_print.specs.Laws.{ReadsBack}
use Rattle.pil_print.proofs.Lexed.{whole_text, text-signs}
use Rattle.pil_print.proofs.Outlines.{outline-is}
use Rattle.pil_print.proofs.Roundtrip.{keeps_meaning}
use Rattle.pil_print.proofs.Moved.{ignores-places}

-- the tokens of a syntax are as the syntax keeps them
abbrev IsSeen : List Placed → Type 0
IsSeen ts = map seen ts ≡ ts

seen-join : (ts us : List Placed) → IsSeen ts → IsSeen us → IsSeen (ts ++ us)
seen-join ts us p q = map-append seen ts us ∙ (ap (λ xs. xs ++ map seen us) p ∙ ap (λ xs. ts ++ xs) q)

behind : (t : Placed) (ts : List Placed) → seen t ≡ t → IsSeen ts → IsSeen (t ∷ ts)
behind t ts p q = ap (λ x. x ∷ map seen ts) p ∙ ap (λ xs. t ∷ xs) q

seen-parts : {A : Type 0} (m : Mark) (f : A → List Placed) → seen (mark m) ≡ mark m → ((x : A) → IsSeen (f x)) → (xs : List A) → IsSeen (joined m f xs)
seen-parts m f e each [] = refl
seen-parts m f e each (x ∷ []) = each x
seen-parts m f e each (x ∷ y ∷ xs) = seen-join (f x) (mark m ∷ joined m f (y ∷ xs)) (each x) (behind (mark m) (joined m f (y ∷ xs)) e (seen-parts m f e each (y ∷ xs)))

seen-space : (x : Option Ident) → IsSeen (space_tokens x)
seen-space None = refl
seen-space (Some x) = refl

seen-index : (n : Option Number) → IsSeen (index_tokens n)
seen-index None = refl
seen-index (Some n) = refl

seen-next : (n : Option ℕ) → IsSeen (next_tokens n)
seen-next None = refl
seen-next (Some n) = refl

seen-ref : (r : Reference) → IsSeen (ref_tokens r)
seen-ref r = seen-join (space_tokens r.space) (name r.name ∷ (index_tokens r.index ++ next_tokens r.next)) (seen-space r.space) (behind (name r.name) _ refl (seen-join (index_tokens r.index) (next_tokens r.next) (seen-index r.index) (seen-next r.next)))

seen-term : (e : Term) → IsSeen (term_tokens e)
seen-term (num n) = refl
seen-term (col r) = seen-ref r
seen-term (constant x) = refl
seen-term (public x) = refl
seen-term (opp a) = behind (mark Minus) (term_tokens a) refl (seen-term a)
seen-term (group a) = behind (mark OpenParen) _ refl (seen-join (term_tokens a) (mark CloseParen ∷ []) (seen-term a) refl)
seen-term (a ⊕ b) = seen-join (term_tokens a) (mark Plus ∷ term_tokens b) (seen-term a) (behind (mark Plus) (term_tokens b) refl (seen-term b))
seen-term (a ⊖ b) = seen-join (term_tokens a) (mark Minus ∷ term_tokens b) (seen-term a) (behind (mark Minus) (term_tokens b) refl (seen-term b))
seen-term (a ⊗ b) = seen-join (term_tokens a) (mark Star ∷ term_tokens b) (seen-term a) (behind (mark Star) (term_tokens b) refl (seen-term b))

seen-filter : (f : Filter) → IsSeen (filter_tokens f)
seen-filter every = refl
seen-filter (by_col r) = seen-ref r
seen-filter (by_group e) = seen-term (group e)

seen-tuple : (l : Tuple) → IsSeen (tuple_tokens l)
seen-tuple l =
    seen-join (filter_tokens l.filter) (marked OpenBrace l.at ∷ (joined Comma term_tokens l.entries ++ mark CloseBrace ∷ [])) (seen-filter l.filter)
    (behind (marked OpenBrace l.at) _ refl (seen-join (joined Comma term_tokens l.entries) (mark CloseBrace ∷ []) (seen-parts Comma term_tokens refl seen-term l.entries) refl))

seen-declaration : (d : Declaration) → IsSeen (declaration_tokens d)
seen-declaration d = behind (name d.name) (index_tokens d.length) refl (seen-index d.length)

seen-size : (n : Size) → IsSeen (size_tokens n)
seen-size (sizes.Number n) = refl
seen-size (sizes.Constant x) = refl

seen-sentence : (s : Sentence) → IsSeen (sentence_tokens s)
seen-sentence (constant_is x n) = refl
seen-sentence (namespace_of x n) =
    behind (word words.Namespace) _ refl (behind (name x) _ refl (behind (mark OpenParen) _ refl (seen-join (size_tokens n) (mark CloseParen ∷ []) (seen-size n) refl)))
seen-sentence (columns k ds) = behind (word words.Pol) _ refl (behind (word (kind_word k)) _ refl (seen-parts Comma declaration_tokens refl seen-declaration ds))
seen-sentence (intermediate x e) = behind (word words.Pol) _ refl (behind (name x) _ refl (behind (mark Equals) _ refl (seen-term e)))
seen-sentence (public_is x r n) = behind (word words.Public) _ refl (behind (name x) _ refl (behind (mark Equals) _ refl (seen-join (ref_tokens r) (mark OpenParen ∷ numeral n ∷ mark CloseParen ∷ []) (seen-ref r) refl)))
seen-sentence (identity a b) = seen-join (term_tokens a) (mark Equals ∷ term_tokens b) (seen-term a) (behind (mark Equals) (term_tokens b) refl (seen-term b))
seen-sentence (lookup a b) = seen-join (tuple_tokens a) (word words.In ∷ tuple_tokens b) (seen-tuple a) (behind (word words.In) (tuple_tokens b) refl (seen-tuple b))
seen-sentence (bus a b) =
    seen-join (joined Plus tuple_tokens a) (word words.Is ∷ joined Plus tuple_tokens b) (seen-parts Plus tuple_tokens refl seen-tuple a) (behind (word words.Is) (joined Plus tuple_tokens b) refl (seen-parts Plus tuple_tokens refl seen-tuple b))

seen-all : (ss : List Sentence) → IsSeen (tokens_of ss)
seen-all [] = refl
seen-all (s ∷ ss) = seen-join (sentence_tokens s) (mark Semicolon ∷ tokens_of ss) (seen-sentence s) (behind (mark Semicolon) (tokens_of ss) refl (seen-all ss))

-- signs don't depend on places
signs-counted : (ts : List Placed) → sum_by (λ t. cond (is_sign t) 1 0) ts ≡ sum_by (λ (t : Token). cond (is_sign_of t) 1 0) (map token_of ts)
signs-counted [] = refl
signs-counted (t ∷ ts) = omega (arith, sum_by-cons (λ (u : Placed). cond (is_sign u) 1 0) t ts, sum_by-cons (λ (u : Token). cond (is_sign_of u) 1 0) t.token (map token_of ts), signs-counted ts)

signs-same : (ts us : List Placed) → map token_of ts ≡ map token_of us → IsShort us → IsShort ts
signs-same ts us e h = omega (arith, h, signs-counted ts, signs-counted us, ap (sum_by (λ (t : Token). cond (is_sign_of t) 1 0)) e)

module _ (spelling : SpellingLexes) (blank : BlankLexes) (apart : ApartLexes) (whole : WholeLexes) (continues : SpellingContinues) (placeless : IsPlaceless) (few : (ns : List Namespace) (s : ℕ) (l : Line) → IsItem ns s l → columns_of l ≤ 4096) (dressing : IsDressing) (reading : MeaningIsReading) (sound : UnbrokenIsSound) where
  pub reads_back : ReadsBack
  reads_back ss h =
      let ns : List Namespace = meaning (outline_of ss) in
      let qs = sentences_of ns in
      let again = keeps_meaning few dressing reading sound ss h in
      let text = whole_text spelling blank apart whole continues qs again.accepted.tokens in
      let moved = placeless.moved limits text.0 (tokens_of qs) qs text.2 (record { spelled = seen-all qs; file = again.accepted.file }) in
      let alike = ignores-places qs moved.0 (ap (λ (o : Outline). o.constants) (outline-is ns)) moved.2 again.accepted.repeated again.accepted.unbroken in
      record {
        tokens = text.0;
        statements = moved.0;
        lexed = text.1;
        reads = moved.1;
        few = subst (λ n. n ≤ 2 ^ 20) (sym (text-signs spelling blank apart whole continues qs again.accepted.tokens)) again.accepted.short;
        short = signs-same text.0 (tokens_of qs) text.2 again.accepted.short;
        repeated = alike.1;
        unbroken = alike.2;
        same = alike.0 ∙ again.same;
      }
