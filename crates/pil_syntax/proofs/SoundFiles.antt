-- A file that is read is spelled so, and within the limits.
use Rattle.std.proofs.Common.{◌≡◌, ℕ, List, [], ◌∷◌, ◌++◌, length, map, Bool, true, false, nat_lt, cond, Ok, Err, refl, ap, sym, subst, ◌∙◌, append_assoc, append-nil}
use borrow.Author.Tests.{ltb-true}
use Rattle.pil_token.specs.declared.token.Word.TheVariants.{Constant, Namespace}
use Rattle.pil_token.specs.declared.token.Mark.{Mark}
use Rattle.pil_token.specs.declared.token.Mark.TheVariants.{Percent, Equals, Semicolon, OpenParen, CloseParen, OpenBrace, CloseBrace, OpenBracket, CloseBracket, Comma, Dot, Prime, Plus, Minus, Star, Colon}
use Rattle.pil_token.specs.declared.token.Token.{Token}
use Rattle.pil_token.specs.declared.token.Token.TheVariants as tokens
use Rattle.pil_token.specs.declared.token.Placed.{Placed}
use Rattle.pil_syntax.specs.declared.tree.Ident.{Ident}
use Rattle.pil_syntax.specs.declared.tree.Number.{Number}
use Rattle.pil_syntax.specs.declared.tree.Size.TheVariants as sizes
use Rattle.pil_syntax.specs.declared.tree.SyntaxErrKind.TheVariants.{TooDeep}
use Rattle.pil_syntax.specs.Tree.{Sentence, constant_is, namespace_of, columns, intermediate, public_is, identity, lookup, bus}
use Rattle.pil_syntax.specs.Spelling.{mark, seen, sentence_tokens, tokens_of}
use Rattle.pil_syntax.specs.Grammar.{Limits, IsSentence, IsFile}
use Rattle.pil_syntax.specs.State.{State, between, constant_word, constant_percent, constant_name, constant_equals, namespace_word, namespace_name, namespace_paren, namespace_percent, namespace_size, ending}
use Rattle.pil_syntax.specs.Machine.{Move, go, end, nest, count, no, mark_move, name_move, number_move, size_move, ending_move, opened_move, between_move, wish, granted, has_namespace, Read, fault, stop, onward, run, begun_after}
use Rattle.pil_syntax.specs.Refusal.{Reads}
use Rattle.pil_syntax.proofs.CompleteFiles.{Needed, file_parts}
use Rattle.pil_syntax.proofs.Reached.{state_tokens, IsState, sentence_needs, needs, AllowedBy}
use Rattle.pil_syntax.proofs.Sound.{IsNext, step_is}

-- the next state, or the ended statement, may stand there
abbrev pub AllowedMove : Bool → Move → Type 0
AllowedMove b (go s) = AllowedBy b (needs s)
AllowedMove b (end q) = AllowedBy b (sentence_needs q)
AllowedMove b (nest c s) = AllowedBy b (needs s)
AllowedMove b (count n s) = AllowedBy b (needs s)
AllowedMove b no = Unit {0}

allowed_any : (b x : Bool) → b ≡ true → AllowedBy b x
allowed_any b true e = e
allowed_any b false e = tt

move_any : (b : Bool) (v : Move) → b ≡ true → AllowedMove b v
move_any b (go s) e = allowed_any b (needs s) e
move_any b (end q) e = allowed_any b (sentence_needs q) e
move_any b (nest c s) e = allowed_any b (needs s) e
move_any b (count n s) e = allowed_any b (needs s) e
move_any b no e = tt

mark_allowed : (b : Bool) (k : Mark) (s : State) (t : Token) → AllowedBy b (needs s) → AllowedMove b (mark_move k s t)
mark_allowed b Percent s (tokens.Mark Percent) h = h
mark_allowed b Equals s (tokens.Mark Equals) h = h
mark_allowed b Semicolon s (tokens.Mark Semicolon) h = h
mark_allowed b OpenParen s (tokens.Mark OpenParen) h = h
mark_allowed b CloseParen s (tokens.Mark CloseParen) h = h
mark_allowed b OpenBrace s (tokens.Mark OpenBrace) h = h
mark_allowed b CloseBrace s (tokens.Mark CloseBrace) h = h
mark_allowed b OpenBracket s (tokens.Mark OpenBracket) h = h
mark_allowed b CloseBracket s (tokens.Mark CloseBracket) h = h
mark_allowed b Comma s (tokens.Mark Comma) h = h
mark_allowed b Dot s (tokens.Mark Dot) h = h
mark_allowed b Prime s (tokens.Mark Prime) h = h
mark_allowed b Plus s (tokens.Mark Plus) h = h
mark_allowed b Minus s (tokens.Mark Minus) h = h
mark_allowed b Star s (tokens.Mark Star) h = h
mark_allowed b Colon s (tokens.Mark Colon) h = h
mark_allowed b k s t h = tt

name_allowed : (b : Bool) (f : Ident → State) (t : Token) (i : ℕ) → ((x : Ident) → AllowedBy b (needs (f x))) → AllowedMove b (name_move f t i)
name_allowed b f (tokens.Name x) i h = h (record { name = x; at = i })
name_allowed b f t i h = tt

number_allowed : (b : Bool) (f : Number → State) (t : Token) (i : ℕ) → ((n : Number) → AllowedBy b (needs (f n))) → AllowedMove b (number_move f t i)
number_allowed b f (tokens.Number v) i h = h (record { value = v; at = i })
number_allowed b f t i h = tt

size_allowed : (b : Bool) (x : Ident) (t : Token) (i : ℕ) → AllowedMove b (size_move x t i)
size_allowed b x (tokens.Number v) i = tt
size_allowed b x (tokens.Mark Percent) i = tt
size_allowed b x t i = tt

ending_allowed : (b : Bool) (q : Sentence) (t : Token) → AllowedBy b (sentence_needs q) → AllowedMove b (ending_move q t)
ending_allowed b q (tokens.Mark Semicolon) h = h
ending_allowed b q t h = tt

opened_allowed : (b : Bool) (t : Token) (i : ℕ) → AllowedMove b (opened_move b t i)
opened_allowed true t i = move_any true (opened_move true t i) refl
opened_allowed false t i = tt

between_allowed : (b : Bool) (t : Token) (i : ℕ) → AllowedMove b (between_move b t i)
between_allowed b (tokens.Word Constant) i = tt
between_allowed b (tokens.Word Namespace) i = tt
between_allowed b t i = opened_allowed b t i

pub step_allowed : (b : Bool) (s : State) (t : Token) (i : ℕ) → AllowedBy b (needs s) → AllowedMove b (granted b (wish s) t i)
step_allowed b between t i h = between_allowed b t i
step_allowed b constant_word t i h = mark_allowed b Percent constant_percent t tt
step_allowed b constant_percent t i h = name_allowed b constant_name t i (λ x. tt)
step_allowed b (constant_name x) t i h = mark_allowed b Equals (constant_equals x) t tt
step_allowed b (constant_equals x) t i h = number_allowed b (λ (n : Number). ending (constant_is x n)) t i (λ n. tt)
step_allowed b namespace_word t i h = name_allowed b namespace_name t i (λ x. tt)
step_allowed b (namespace_name x) t i h = mark_allowed b OpenParen (namespace_paren x) t tt
step_allowed b (namespace_paren x) t i h = size_allowed b x t i
step_allowed b (namespace_percent x) t i h = name_allowed b (λ (y : Ident). namespace_size x (sizes.Constant y)) t i (λ y. tt)
step_allowed b (namespace_size x n) t i h = mark_allowed b CloseParen (ending (namespace_of x n)) t tt
step_allowed b (ending q) t i h = ending_allowed b q t h
step_allowed b s t i h = move_any b (granted b (wish s) t i) h

-- whether a namespace stands before what follows these statements
abbrev begun_by : Bool → List Sentence → Bool
begun_by b [] = b
begun_by b (q ∷ d) = begun_by (begun_after b q) d

begun_true : (d : List Sentence) → begun_by true d ≡ true
begun_true [] = refl
begun_true (namespace_of x n ∷ d) = begun_true d
begun_true (q ∷ d) = begun_true d

begun_has : (d : List Sentence) → begun_by false d ≡ has_namespace d
begun_has [] = refl
begun_has (namespace_of x n ∷ d) = begun_true d
begun_has (q ∷ d) = begun_has d

file_joined : (m : Limits) (b : Bool) (q : Sentence) (ss : List Sentence) → Needed b q × IsSentence m q × IsFile m (begun_after b q) ss → IsFile m b (q ∷ ss)
file_joined m b (constant_is x n) ss h = h.2
file_joined m b (namespace_of x n) ss h = h.2
file_joined m b (columns k ds) ss h = h
file_joined m b (intermediate x e) ss h = h
file_joined m b (public_is x r n) ss h = h
file_joined m b (identity e f) ss h = h
file_joined m b (lookup x y) ss h = h
file_joined m b (bus xs ys) ss h = h

needed : (b : Bool) (q : Sentence) → AllowedBy b (sentence_needs q) → Needed b q
needed b (constant_is x n) h = tt
needed b (namespace_of x n) h = tt
needed b (columns k ds) h = h
needed b (intermediate x e) h = h
needed b (public_is x r n) h = h
needed b (identity e f) h = h
needed b (lookup x y) h = h
needed b (bus xs ys) h = h

file_snoc : (m : Limits) (b : Bool) (d : List Sentence) (q : Sentence) → IsFile m b d → Needed (begun_by b d) q → IsSentence m q → IsFile m b (d ++ q ∷ [])
file_snoc m b [] q f n h = file_joined m b q [] (n, h, tt)
file_snoc m b (p ∷ d) q f n h = let g : Needed b p × IsSentence m p × IsFile m (begun_after b p) d = file_parts m b p d f in file_joined m b p (d ++ q ∷ []) (g.0, g.1, file_snoc m (begun_after b p) d q g.2 n h)

tokens_snoc : (d : List Sentence) (q : Sentence) → tokens_of (d ++ q ∷ []) ≡ tokens_of d ++ (sentence_tokens q ++ mark Semicolon ∷ [])
tokens_snoc [] q = refl
tokens_snoc (p ∷ d) q = ap (λ (us : List Placed). sentence_tokens p ++ (mark Semicolon ∷ us)) (tokens_snoc d q) ∙ sym (append_assoc (sentence_tokens p) (mark Semicolon ∷ tokens_of d) (sentence_tokens q ++ mark Semicolon ∷ []))

abbrev Sound : Limits → List Placed → Read → Type 0
Sound m us (Ok ss) = (us ≡ tokens_of ss) × IsFile m false ss
Sound m us (Err f) = Unit {0}

stop_sound : (m : Limits) (d : List Sentence) (s : State) → IsFile m false d → Sound m (tokens_of d ++ (state_tokens s ++ [])) (stop d (wish s))
stop_sound m d between f = (append-nil (tokens_of d), f)
stop_sound m d s f = tt

-- a test that lets a state pass
passed : (m : Limits) (us : List Placed) (b : Bool) (r : Read) (left : ℕ) → (b ≡ true → Sound m us r) → Sound m us (cond b r (fault TooDeep left))
passed m us true r left f = f refl
passed m us false r left f = tt

module _ (m : Limits) (d : List Sentence) (us : List Placed) (t : Placed) (ts : List Placed) (left : ℕ)
    (file : IsFile m false d)
    (later : (d' : List Sentence) (s : State) → IsFile m false d' → IsState m s → AllowedBy (has_namespace d') (needs s) → Sound m (tokens_of d' ++ (state_tokens s ++ map seen ts)) (run m d' s ts)) where
  go_sound : (s : State) → IsNext m (us ++ seen t ∷ []) (go s) → AllowedBy (has_namespace d) (needs s) → Sound m (tokens_of d ++ (us ++ seen t ∷ map seen ts)) (run m d s ts)
  go_sound s h a =
      let e : tokens_of d ++ (state_tokens s ++ map seen ts) ≡ tokens_of d ++ (us ++ seen t ∷ map seen ts) = ap (λ (ws : List Placed). tokens_of d ++ (ws ++ map seen ts)) h.1 ∙ ap (λ (ws : List Placed). tokens_of d ++ ws) (append_assoc us (seen t ∷ []) (map seen ts)) in
      subst (λ (ws : List Placed). Sound m ws (run m d s ts)) e (later d s file h.0 a)

  end_sound : (q : Sentence) → IsNext m (us ++ seen t ∷ []) (end q) → AllowedBy (has_namespace d) (sentence_needs q) → Sound m (tokens_of d ++ (us ++ seen t ∷ map seen ts)) (run m (d ++ q ∷ []) between ts)
  end_sound q h a =
      let n : Needed (begun_by false d) q = subst (λ (b : Bool). Needed b q) (sym (begun_has d)) (needed (has_namespace d) q a) in
      let e : tokens_of (d ++ q ∷ []) ++ map seen ts ≡ tokens_of d ++ (us ++ seen t ∷ map seen ts) = ap (λ (ws : List Placed). ws ++ map seen ts) (tokens_snoc d q ∙ ap (λ (ws : List Placed). tokens_of d ++ ws) h.1) ∙ simp append_assoc in
      subst (λ (ws : List Placed). Sound m ws (run m (d ++ q ∷ []) between ts)) e (later (d ++ q ∷ []) between (file_snoc m false d q file n h.0) tt tt)

  onward_sound : (v : Move) → IsNext m (us ++ seen t ∷ []) v → AllowedMove (has_namespace d) v → Sound m (tokens_of d ++ (us ++ seen t ∷ map seen ts)) (onward m v (λ s. run m d s ts) (λ q. run m (d ++ q ∷ []) between ts) left)
  onward_sound (go s) h a = go_sound s h a
  onward_sound (end q) h a = end_sound q h a
  onward_sound (nest c s) h a = passed m _ (nat_lt c m.nested) (run m d s ts) left (λ e. go_sound s (h (ltb-true c m.nested e)) a)
  onward_sound (count n s) h a = passed m _ (nat_lt n m.operators) (run m d s ts) left (λ e. go_sound s (h (ltb-true n m.operators e)) a)
  onward_sound no h a = tt

pub sound : (m : Limits) (ts : List Placed) (d : List Sentence) (s : State) → IsFile m false d → IsState m s → AllowedBy (has_namespace d) (needs s) → Sound m (tokens_of d ++ (state_tokens s ++ map seen ts)) (run m d s ts)
sound m [] d s f h a = stop_sound m d s f
sound m (t ∷ ts) d s f h a = onward_sound m d (state_tokens s) t ts (length (t ∷ ts)) f (λ d' u g i b. sound m ts d' u g i b) (granted (has_namespace d) (wish s) t.token t.at) (step_is m (has_namespace d) s t.token t.at h) (step_allowed (has_namespace d) s t.token t.at a)

reads_from : (m : Limits) (ts : List Placed) (r : Read) (ss : List Sentence) → Sound m (map seen ts) r → r ≡ Ok ss → Reads m ts ss
reads_from m ts (Ok qs) ss h e = let g : qs ≡ ss = cc in record { spelled = h.0 ∙ ap tokens_of g; file = subst (λ (us : List Sentence). IsFile m false us) g h.1 }
reads_from m ts (Err f) ss h e = cc

-- what is read is a file within the limits
pub file_of : (m : Limits) (ts : List Placed) (ss : List Sentence) → run m [] between ts ≡ Ok ss → Reads m ts ss
file_of m ts ss e = reads_from m ts (run m [] between ts) ss (sound m ts [] between tt tt tt) e
