-- Where no `*` follows, a term is the end of its sum.
use Rattle.std.proofs.Common.{◌≡◌, ℕ, List, [], ◌∷◌, ◌++◌, length, refl, ap, sym}
use Rattle.pil_token.specs.declared.token.Mark.TheVariants.{Star, OpenBrace}
use Rattle.pil_token.specs.declared.token.Token.{Token}
use Rattle.pil_token.specs.declared.token.Token.TheVariants as tokens
use Rattle.pil_token.specs.declared.token.Placed.{Placed}
use Rattle.pil_syntax.specs.Tree.{Term, ◌⊕◌, ◌⊖◌, Sentence}
use Rattle.pil_syntax.specs.Grammar.{Limits}
use Rattle.pil_syntax.specs.State.{Around, Sum, leftmost, right, defining, picked, entry, paren, first, plus, less, have, between, outer, added}
use Rattle.pil_syntax.specs.Machine.{Move, no, braced, have_move, IsNoStar, NoStar, onward, run}

braced_sum : (k : Around) (a e : Term) (i : ℕ) → braced (first k) (a ⊕ e) i ≡ no
braced_sum leftmost a e i = refl
braced_sum (right b) a e i = refl
braced_sum (defining x) a e i = refl
braced_sum (picked j) a e i = refl
braced_sum (entry j f n es) a e i = refl
braced_sum (paren k) a e i = refl

braced_difference : (k : Around) (a e : Term) (i : ℕ) → braced (first k) (a ⊖ e) i ≡ no
braced_difference leftmost a e i = refl
braced_difference (right b) a e i = refl
braced_difference (defining x) a e i = refl
braced_difference (picked j) a e i = refl
braced_difference (entry j f n es) a e i = refl
braced_difference (paren k) a e i = refl

gathered_brace : (k : Sum) (e : Term) (i : ℕ) → braced k e i ≡ braced (first (outer k)) (added k e) i
gathered_brace (first k) e i = refl
gathered_brace (plus a k) e i = sym (braced_sum k a e i)
gathered_brace (less a k) e i = sym (braced_difference k a e i)

gathered_move : (k : Sum) (e : Term) (n : ℕ) (t : Token) (i : ℕ) → IsNoStar t → have_move k e n t i ≡ have_move (first (outer k)) (added k e) n t i
gathered_move k e n (tokens.Mark Star) i p = absurd p
gathered_move k e n (tokens.Mark OpenBrace) i p = gathered_brace k e i
gathered_move k e n t i p = refl

pub gathered : (m : Limits) (d : List Sentence) (k : Sum) (e : Term) (n : ℕ) (ts : List Placed) → NoStar ts → run m d (have k e n) ts ≡ run m d (have (first (outer k)) (added k e) n) ts
gathered m d k e n [] p = refl
gathered m d k e n (t ∷ ts) p = ap (λ (v : Move). onward m v (λ s. run m d s ts) (λ q. run m (d ++ q ∷ []) between ts) (length (t ∷ ts))) (gathered_move k e n t.token t.at p)
