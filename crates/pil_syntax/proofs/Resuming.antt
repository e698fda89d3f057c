-- Where a reference ends.
use Rattle.std.proofs.Common.{◌≡◌, ℕ, List, [], ◌∷◌, ◌++◌, length, Bool, Option, None, refl, ap, sym, ◌∙◌}
use Rattle.pil_token.specs.declared.token.Mark.TheVariants.{Dot, Prime, OpenBracket}
use Rattle.pil_token.specs.declared.token.Token.{Token}
use Rattle.pil_token.specs.declared.token.Token.TheVariants as tokens
use Rattle.pil_token.specs.declared.token.Placed.{Placed}
use Rattle.pil_syntax.specs.declared.tree.Ident.{Ident}
use Rattle.pil_syntax.specs.declared.tree.Number.{Number}
use Rattle.pil_syntax.specs.declared.tree.Reference.{Reference}
use Rattle.pil_syntax.specs.declared.tree.SyntaxErrKind.TheVariants.{Unexpected}
use Rattle.pil_syntax.specs.Tree.{Term, col, opp, Sentence}
use Rattle.pil_syntax.specs.Grammar.{Limits}
use Rattle.pil_syntax.specs.State.{Factor, plain, times, minus, Holder, in_fact, in_filter, in_public, between, ref_name, ref_spaced, ref_indexed, settle, referred}
use Rattle.pil_syntax.specs.Machine.{Move, settle_move, referred_move, indexed_move, spaced_move, named_move, refer, Wish, choice, wish, granted, has_namespace, fault, stop, onward, run}

pub settled_wish : (k : Factor) (e : Term) (n : ℕ) → wish (settle k e n) ≡ choice (settle_move k e n)
settled_wish (plain k) e n = refl
settled_wish (times a k) e n = refl
settled_wish (minus k) e n = settled_wish k (opp e) n

pub referred_goes : (b : Bool) (h : Holder) (r : Reference) (t : Token) (i : ℕ) → granted b (wish (referred h r)) t i ≡ referred_move h r t i
referred_goes b (in_fact k n) r t i = ap (λ (w : Wish). granted b w t i) (settled_wish k (col r) n)
referred_goes b (in_filter j) r t i = refl
referred_goes b (in_public x) r t i = refl

pub referred_stops : (d : List Sentence) (h : Holder) (r : Reference) → stop d (wish (referred h r)) ≡ fault Unexpected 0
referred_stops d (in_fact k n) r = ap (λ (w : Wish). stop d w) (settled_wish k (col r) n)
referred_stops d (in_filter j) r = refl
referred_stops d (in_public x) r = refl

abbrev IsNoPrime : Token → Type 0
IsNoPrime (tokens.Mark Prime) = ⊥
IsNoPrime _ = Unit {0}

-- no `'` follows
abbrev pub NoPrime : List Placed → Type 0
NoPrime [] = Unit {0}
NoPrime (t ∷ ts) = IsNoPrime t.token

unprimed_move : (h : Holder) (s : Option Ident) (x : Ident) (n : Option Number) (t : Token) (i : ℕ) → IsNoPrime t → indexed_move h s x n t i ≡ referred_move h (refer s x n None) t i
unprimed_move h s x n (tokens.Mark Prime) i p = absurd p
unprimed_move h s x n t i p = refl

pub unprimed : (m : Limits) (d : List Sentence) (h : Holder) (s : Option Ident) (x : Ident) (n : Option Number) (ts : List Placed) → NoPrime ts → run m d (ref_indexed h s x n) ts ≡ run m d (referred h (refer s x n None)) ts
unprimed m d h s x n [] p = sym (referred_stops d h (refer s x n None))
unprimed m d h s x n (t ∷ ts) p = ap (λ (v : Move). onward m v (λ s'. run m d s' ts) (λ q. run m (d ++ q ∷ []) between ts) (length (t ∷ ts))) (unprimed_move h s x n t.token t.at p ∙ sym (referred_goes (has_namespace d) h (refer s x n None) t.token t.at))

abbrev IsFollowing : Token → Type 0
IsFollowing (tokens.Mark Dot) = ⊥
IsFollowing (tokens.Mark OpenBracket) = ⊥
IsFollowing (tokens.Mark Prime) = ⊥
IsFollowing _ = Unit {0}

-- no reference goes on with these tokens
abbrev pub Follows : List Placed → Type 0
Follows [] = Unit {0}
Follows (t ∷ ts) = IsFollowing t.token

primeless : (t : Token) → IsFollowing t → IsNoPrime t
primeless (tokens.Mark Prime) p = absurd p
primeless (tokens.Mark Dot) p = absurd p
primeless t p = tt

pub no_prime : (ts : List Placed) → Follows ts → NoPrime ts
no_prime [] p = tt
no_prime (t ∷ ts) p = primeless t.token p

unspaced_move : (h : Holder) (s : Option Ident) (x : Ident) (t : Token) (i : ℕ) → IsFollowing t → spaced_move h s x t i ≡ indexed_move h s x None t i
unspaced_move h s x (tokens.Mark OpenBracket) i p = absurd p
unspaced_move h s x t i p = refl

unnamed_move : (h : Holder) (x : Ident) (t : Token) (i : ℕ) → IsFollowing t → named_move h x t i ≡ spaced_move h None x t i
unnamed_move h x (tokens.Mark Dot) i p = absurd p
unnamed_move h x t i p = refl

module _ (m : Limits) (d : List Sentence) (h : Holder) where
  pub unindexed : (s : Option Ident) (x : Ident) (n : Option Number) (ts : List Placed) → Follows ts → run m d (ref_indexed h s x n) ts ≡ run m d (referred h (refer s x n None)) ts
  unindexed s x n ts p = unprimed m d h s x n ts (no_prime ts p)

  pub unspaced : (s : Option Ident) (x : Ident) (ts : List Placed) → Follows ts → run m d (ref_spaced h s x) ts ≡ run m d (referred h (refer s x None None)) ts
  unspaced s x [] p = sym (referred_stops d h (refer s x None None))
  unspaced s x (t ∷ ts) p = ap (λ (v : Move). onward m v (λ s'. run m d s' ts) (λ q. run m (d ++ q ∷ []) between ts) (length (t ∷ ts))) (unspaced_move h s x t.token t.at p) ∙ unindexed s x None (t ∷ ts) p

  pub unnamed : (x : Ident) (ts : List Placed) → Follows ts → run m d (ref_name h x) ts ≡ run m d (referred h (refer None x None None)) ts
  unnamed x [] p = sym (referred_stops d h (refer None x None None))
  unnamed x (t ∷ ts) p = ap (λ (v : Move). onward m v (λ s'. run m d s' ts) (λ q. run m (d ++ q ∷ []) between ts) (length (t ∷ ts))) (unnamed_move h x t.token t.at p) ∙ unspaced None x (t ∷ ts) p
