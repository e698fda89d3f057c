-- A step over the first token, whose rest is written as a slice.
use Rattle.std.proofs.Common.{◌≡◌, ℕ, ◌-◌, List, [], ◌∷◌, ◌++◌, length, Bool, true, false, nat_lt, cond, take, drop, refl, ap, sym, subst, ◌∙◌, arith}
use Rattle.std.proofs.lemmas.List.{take_all}
use Rattle.pil_token.specs.declared.token.Word.TheVariants.{Constant, Namespace, Pol, Public, In, Is}
use Rattle.pil_token.specs.declared.token.Mark.TheVariants.{Semicolon, OpenBrace, Plus, Minus, Star}
use Rattle.pil_token.specs.declared.token.Token.{Token}
use Rattle.pil_token.specs.declared.token.Token.TheVariants as tokens
use Rattle.pil_token.specs.declared.token.Placed.{Placed}
use Rattle.pil_syntax.specs.declared.tree.SyntaxErrKind.TheVariants.{Unexpected, TooDeep}
use Rattle.pil_syntax.specs.declared.failure.ReadError.{ReadError}
use Rattle.pil_syntax.specs.declared.failure.ReadError.TheVariants as errors
use Rattle.pil_syntax.specs.Tree.{Term, Tuple, Sentence, identity, bus}
use Rattle.pil_syntax.specs.Grammar.{Limits}
use Rattle.pil_syntax.specs.State.{leftmost, right, first, plain, State, between, want, have, first_list, right_lists, ending}
use Rattle.pil_syntax.specs.Machine.{Move, go, nest, no, have_move, want_move, right_move, first_move, ending_move, between_move, opened_move, wish, granted, has_namespace, Read, fault, onward, run, Fails, IsNoStar, IsNoSign, NoOperator, IsNoPlus, NoPlus, IsNoJoiner, NoJoiner, IsInner, StartsInner}

abbrev pub tail_of : List Placed → List Placed
tail_of ts = take (length ts - 1) (drop 1 ts)

pub tail_cons : (t : Placed) (ts : List Placed) → tail_of (t ∷ ts) ≡ ts
tail_cons t ts = take_all (length (t ∷ ts) - 1) ts (omega arith)

-- the first token
abbrev pub StartsWith : Token → List Placed → Type 0
StartsWith k [] = ⊥
StartsWith k (t ∷ ts) = t.token ≡ k

pub stepped : (m : Limits) (d : List Sentence) (s s' : State) (k : Token) (ts : List Placed) → StartsWith k ts → ((i : ℕ) → granted (has_namespace d) (wish s) k i ≡ go s') → run m d s ts ≡ run m d s' (tail_of ts)
stepped m d s s' k [] h g = absurd h
stepped m d s s' k (t ∷ ts) h g =
    let f : Move → Type 0 = λ v. onward m v (λ u. run m d u ts) (λ q. run m (d ++ q ∷ []) between ts) (length (t ∷ ts)) ≡ run m d s' (tail_of (t ∷ ts)) in
    let e : granted (has_namespace d) (wish s) t.token t.at ≡ go s' = ap (λ (j : Token). granted (has_namespace d) (wish s) j t.at) h ∙ g t.at in
    subst f (sym e) (ap (λ (us : List Placed). run m d s' us) (sym (tail_cons t ts)))

-- the first token is this name, which stands there
abbrev pub StartsWithPlaced : Placed → List Placed → Type 0
StartsWithPlaced k [] = ⊥
StartsWithPlaced k (t ∷ ts) = t ≡ k

pub stepped_at : (m : Limits) (d : List Sentence) (s s' : State) (k : Placed) (ts : List Placed) → StartsWithPlaced k ts → granted (has_namespace d) (wish s) k.token k.at ≡ go s' → run m d s ts ≡ run m d s' (tail_of ts)
stepped_at m d s s' k [] h g = absurd h
stepped_at m d s s' k (t ∷ ts) h g =
    let f : Move → Type 0 = λ v. onward m v (λ u. run m d u ts) (λ q. run m (d ++ q ∷ []) between ts) (length (t ∷ ts)) ≡ run m d s' (tail_of (t ∷ ts)) in
    let e : granted (has_namespace d) (wish s) t.token t.at ≡ go s' = ap (λ (j : Placed). granted (has_namespace d) (wish s) j.token j.at) h ∙ g in
    subst f (sym e) (ap (λ (us : List Placed). run m d s' us) (sym (tail_cons t ts)))

pub stepped_nest : (m : Limits) (d : List Sentence) (s s' : State) (c : ℕ) (k : Token) (ts : List Placed) → nat_lt c m.nested ≡ true → StartsWith k ts → ((i : ℕ) → granted (has_namespace d) (wish s) k i ≡ nest c s') → run m d s ts ≡ run m d s' (tail_of ts)
stepped_nest m d s s' c k [] l h g = absurd h
stepped_nest m d s s' c k (t ∷ ts) l h g =
    let f : Move → Type 0 = λ v. onward m v (λ u. run m d u ts) (λ q. run m (d ++ q ∷ []) between ts) (length (t ∷ ts)) ≡ run m d s' (tail_of (t ∷ ts)) in
    let e : granted (has_namespace d) (wish s) t.token t.at ≡ nest c s' = ap (λ (j : Token). granted (has_namespace d) (wish s) j t.at) h ∙ g t.at in
    subst f (sym e) (ap (λ (b : Bool). cond b (run m d s' ts) (fault TooDeep (length (t ∷ ts)))) l ∙ ap (λ (us : List Placed). run m d s' us) (sym (tail_cons t ts)))

first_refused : (l : Tuple) (t : Token) → IsNoJoiner t → first_move l t ≡ no
first_refused l (tokens.Word In) p = absurd p
first_refused l (tokens.Word Is) p = absurd p
first_refused l (tokens.Mark Plus) p = absurd p
first_refused l t p = refl

-- without an operator an identity waits for its `;`
right_waits : (a e : Term) (n : ℕ) (t : Token) (i : ℕ) → IsNoStar t → IsNoSign t → have_move (first (right a)) e n t i ≡ ending_move (identity a e) t
right_waits a e n (tokens.Mark Star) i p q = absurd p
right_waits a e n (tokens.Mark Plus) i p q = absurd q
right_waits a e n (tokens.Mark Minus) i p q = absurd q
right_waits a e n (tokens.Mark Semicolon) i p q = refl
right_waits a e n t i p q = refl

lists_wait : (ls rs : List Tuple) (t : Token) → IsNoPlus t → right_move ls rs t ≡ ending_move (bus ls rs) t
lists_wait ls rs (tokens.Mark Plus) p = absurd p
lists_wait ls rs (tokens.Mark Semicolon) p = refl
lists_wait ls rs t p = refl

-- the first token of a line that begins with an expression, if with any
abbrev IsOfLine : Token → Type 0
IsOfLine (tokens.Word Constant) = ⊥
IsOfLine (tokens.Word Namespace) = ⊥
IsOfLine (tokens.Word Pol) = ⊥
IsOfLine (tokens.Word Public) = ⊥
IsOfLine (tokens.Mark OpenBrace) = ⊥
IsOfLine _ = Unit {0}

abbrev pub StartsLine : List Placed → Type 0
StartsLine [] = ⊥
StartsLine (t ∷ ts) = IsOfLine t.token

line_waits : (b : Bool) (t : Token) (i : ℕ) → b ≡ true → IsOfLine t → between_move b t i ≡ want_move (plain (first leftmost)) 0 t i
line_waits b (tokens.Word Constant) i e p = absurd p
line_waits b (tokens.Word Namespace) i e p = absurd p
line_waits b (tokens.Word Pol) i e p = absurd p
line_waits b (tokens.Word Public) i e p = absurd p
line_waits b (tokens.Mark OpenBrace) i e p = absurd p
line_waits b t i e p = ap (λ (c : Bool). opened_move c t i) e

inner_refused : (b : Bool) (t : Token) (i : ℕ) → b ≡ false → IsInner t → between_move b t i ≡ no
inner_refused b (tokens.Word Constant) i e p = absurd p
inner_refused b (tokens.Word Namespace) i e p = absurd p
inner_refused b t i e p = ap (λ (c : Bool). opened_move c t i) e

module _ (m : Limits) (d : List Sentence) where
  same_move : (s s' : State) (t : Placed) (ts : List Placed) → granted (has_namespace d) (wish s) t.token t.at ≡ granted (has_namespace d) (wish s') t.token t.at → run m d s (t ∷ ts) ≡ run m d s' (t ∷ ts)
  same_move s s' t ts e = ap (λ (v : Move). onward m v (λ u. run m d u ts) (λ q. run m (d ++ q ∷ []) between ts) (length (t ∷ ts))) e

  refused_at : (s : State) (t : Placed) (ts : List Placed) → granted (has_namespace d) (wish s) t.token t.at ≡ no → run m d s (t ∷ ts) ≡ fault Unexpected (length (t ∷ ts))
  refused_at s t ts e = ap (λ (v : Move). onward m v (λ u. run m d u ts) (λ q. run m (d ++ q ∷ []) between ts) (length (t ∷ ts))) e

  pub identity_waits : (a e : Term) (n : ℕ) (ts : List Placed) → NoOperator ts → run m d (have (first (right a)) e n) ts ≡ run m d (ending (identity a e)) ts
  identity_waits a e n [] o = refl
  identity_waits a e n (t ∷ ts) o = same_move (have (first (right a)) e n) (ending (identity a e)) t ts (right_waits a e n t.token t.at o.0 o.1)

  pub bus_waits : (ls rs : List Tuple) (ts : List Placed) → NoPlus ts → run m d (right_lists ls rs) ts ≡ run m d (ending (bus ls rs)) ts
  bus_waits ls rs [] p = refl
  bus_waits ls rs (t ∷ ts) p = same_move (right_lists ls rs) (ending (bus ls rs)) t ts (lists_wait ls rs t.token p)

  pub first_stops : (l : Tuple) (ts : List Placed) → NoJoiner ts → run m d (first_list l) ts ≡ fault Unexpected (length ts)
  first_stops l [] p = refl
  first_stops l (t ∷ ts) p = refused_at (first_list l) t ts (first_refused l t.token p)

  pub line_begins : (ts : List Placed) → has_namespace d ≡ true → StartsLine ts → run m d between ts ≡ run m d (want (plain (first leftmost)) 0) ts
  line_begins [] b p = absurd p
  line_begins (t ∷ ts) b p = same_move between (want (plain (first leftmost)) 0) t ts (line_waits (has_namespace d) t.token t.at b p)

  pub inner_stops : (ts : List Placed) → has_namespace d ≡ false → StartsInner ts → run m d between ts ≡ fault Unexpected (length ts)
  inner_stops [] b p = absurd p
  inner_stops (t ∷ ts) b p = refused_at between t ts (inner_refused (has_namespace d) t.token t.at b p)

-- a fault that is reached by an equation
pub fails_by : (e : ReadError) (n : ℕ) (r : Read) → e ≡ errors.Fault (record { kind = Unexpected; left = n }) → r ≡ fault Unexpected n → Fails e r
fails_by e n r h p = subst (λ (y : ReadError). Fails y r) (sym h) p
