-- An expression that is spelled within the limits is read.
use Rattle.std.proofs.Common.{◌≡◌, ℕ, ◌+◌, ◌≤◌, ◌<◌, List, [], ◌∷◌, ◌++◌, Option, Some, None, true, nat_lt, refl, ap, sym, ◌∙◌, arith, append_assoc, add-zero}
use borrow.Author.Tests.{lt-ltb}
use Rattle.pil_token.specs.declared.token.Mark.TheVariants.{Dot, CloseParen, Plus, Minus, Star}
use Rattle.pil_token.specs.declared.token.Placed.{Placed}
use Rattle.pil_syntax.specs.declared.tree.Ident.{Ident}
use Rattle.pil_syntax.specs.declared.tree.Number.{Number}
use Rattle.pil_syntax.specs.declared.tree.Reference.{Reference}
use Rattle.pil_syntax.specs.Tree.{Term, num, col, constant, public, opp, group, ◌⊕◌, ◌⊖◌, ◌⊗◌, Sentence}
use Rattle.pil_syntax.specs.Spelling.{mark, name, space_tokens, index_tokens, next_tokens, ref_tokens, term_tokens}
use Rattle.pil_syntax.specs.Grammar.{Limits, IsOf, expr, term, fact, nesting, operators, IsWhole}
use Rattle.pil_syntax.specs.State.{Around, Sum, Factor, paren, first, plus, less, plain, times, minus, around_depth, sum_depth, factor_depth, Holder, in_fact, State, between, ref_name, want, have, settle, referred}
use Rattle.pil_syntax.specs.Machine.{nest, count, onward, run, refer, NoStar}
use Rattle.pil_syntax.proofs.Resuming.{Follows, unindexed, unspaced, unnamed}
use Rattle.pil_syntax.proofs.Gathering.{gathered}

-- the first name of a reference, and the tokens behind it
abbrev pub first_name : Option Ident → Ident → Ident
first_name None x = x
first_name (Some s) x = s

abbrev pub behind_name : Option Ident → Ident → List Placed
behind_name None x = []
behind_name (Some s) x = mark Dot ∷ name x ∷ []

abbrev pub behind_first : Reference → List Placed
behind_first r = behind_name r.space r.name ++ (index_tokens r.index ++ next_tokens r.next)

pub named : (s : Option Ident) (x : Ident) (us : List Placed) → space_tokens s ++ name x ∷ us ≡ name (first_name s x) ∷ (behind_name s x ++ us)
named None x us = refl
named (Some s) x us = refl

pub first_named : (r : Reference) → ref_tokens r ≡ name (first_name r.space r.name) ∷ behind_first r
first_named r = named r.space r.name (index_tokens r.index ++ next_tokens r.next)

module _ (m : Limits) (d : List Sentence) where
  pub refers : (h : Holder) (s : Option Ident) (x : Ident) (n : Option Number) (q : Option ℕ) (vs : List Placed) → Follows vs → run m d (ref_name h (first_name s x)) ((behind_name s x ++ (index_tokens n ++ next_tokens q)) ++ vs) ≡ run m d (referred h (refer s x n q)) vs
  refers h None x None None vs f = unnamed m d h x vs f
  refers h None x None (Some i) vs f = refl
  refers h None x (Some n) None vs f = unindexed m d h None x (Some n) vs f
  refers h None x (Some n) (Some i) vs f = refl
  refers h (Some s) x None None vs f = unspaced m d h (Some s) x vs f
  refers h (Some s) x None (Some i) vs f = refl
  refers h (Some s) x (Some n) None vs f = unindexed m d h (Some s) x (Some n) vs f
  refers h (Some s) x (Some n) (Some i) vs f = refl

  pub reference_goes : (h : Holder) (r : Reference) (vs : List Placed) → Follows vs → run m d (ref_name h (first_name r.space r.name)) (behind_first r ++ vs) ≡ run m d (referred h r) vs
  reference_goes h r vs f = refers h r.space r.name r.index r.next vs f

  abbrev pub FactGoes : Term → Type 0
  FactGoes e = (k : Factor) (n : ℕ) (vs : List Placed) → Follows vs → nesting e + factor_depth k ≤ m.nested → n + operators e ≤ m.operators → run m d (want k n) (term_tokens e ++ vs) ≡ run m d (settle k e (n + operators e)) vs

  abbrev pub TermGoes : Term → Type 0
  TermGoes e = (k : Sum) (n : ℕ) (vs : List Placed) → Follows vs → nesting e + sum_depth k ≤ m.nested → n + operators e ≤ m.operators → run m d (want (plain k) n) (term_tokens e ++ vs) ≡ run m d (have k e (n + operators e)) vs

  abbrev pub ExprGoes : Term → Type 0
  ExprGoes e = (k : Around) (n : ℕ) (vs : List Placed) → Follows vs → NoStar vs → nesting e + around_depth k ≤ m.nested → n + operators e ≤ m.operators → run m d (want (plain (first k)) n) (term_tokens e ++ vs) ≡ run m d (have (first k) e (n + operators e)) vs

  pub record Goes (e : Term) : Type 0 where
    pub fact : IsOf fact e → FactGoes e
    pub term : IsOf term e → TermGoes e
    pub expr : IsOf expr e → ExprGoes e

  -- a fact that goes, goes at each level
  pub fact_goes : (e : Term) → (IsOf fact e → FactGoes e) → (IsOf term e → IsOf fact e) → (IsOf expr e → IsOf fact e) → Goes e
  fact_goes e f i j = record {
    fact = f;
    term = λ h k n vs w b o. f (i h) (plain k) n vs w b o;
    expr = λ h k n vs w ns b o. f (j h) (plain (first k)) n vs w b o;
  }

  pub nest_goes : (c : ℕ) (s : State) (ts : List Placed) (left : ℕ) → c < m.nested → onward m (nest c s) (λ s'. run m d s' ts) (λ q. run m (d ++ q ∷ []) between ts) left ≡ run m d s ts
  nest_goes c s ts left h = let e : nat_lt c m.nested ≡ true = lt-ltb _ _ h in rw e refl

  pub count_goes : (n : ℕ) (s : State) (ts : List Placed) (left : ℕ) → n < m.operators → onward m (count n s) (λ s'. run m d s' ts) (λ q. run m (d ++ q ∷ []) between ts) left ≡ run m d s ts
  count_goes n s ts left h = let e : nat_lt n m.operators ≡ true = lt-ltb _ _ h in rw e refl

  pub complete : (e : Term) → Goes e
  complete (num v) = fact_goes (num v) (λ h k n vs w b o. ap (λ (j : ℕ). run m d (settle k (num v) j) vs) (sym (add-zero n))) (λ h. h) (λ h. h)
  complete (constant x) = fact_goes (constant x) (λ h k n vs w b o. ap (λ (j : ℕ). run m d (settle k (constant x) j) vs) (sym (add-zero n))) (λ h. h) (λ h. h)
  complete (public x) = fact_goes (public x) (λ h k n vs w b o. ap (λ (j : ℕ). run m d (settle k (public x) j) vs) (sym (add-zero n))) (λ h. h) (λ h. h)
  complete (col r) = fact_goes (col r) (λ h k n vs w b o.
      ap (λ (us : List Placed). run m d (want k n) (us ++ vs)) (first_named r)
      ∙ (reference_goes (in_fact k n) r vs w
      ∙ ap (λ (j : ℕ). run m d (settle k (col r) j) vs) (sym (add-zero n)))) (λ h. h) (λ h. h)
  complete (opp a) =
      let g : Goes a = complete a in
      fact_goes (opp a) (λ h k n vs w b o.
      nest_goes (factor_depth k) (want (minus k) n) (term_tokens a ++ vs) _ (omega arith)
      ∙ g.fact h (minus k) n vs w (omega arith) (omega arith)) (λ h. h) (λ h. h)
  complete (group a) =
      let g : Goes a = complete a in
      fact_goes (group a) (λ h k n vs w b o.
      nest_goes (factor_depth k) (want (plain (first (paren k))) n) ((term_tokens a ++ mark CloseParen ∷ []) ++ vs) _ (omega arith)
      ∙ (ap (λ (us : List Placed). run m d (want (plain (first (paren k))) n) us) (append_assoc (term_tokens a) (mark CloseParen ∷ []) vs)
      ∙ g.expr h (paren k) n (mark CloseParen ∷ vs) tt tt (omega arith) (omega arith))) (λ h. h) (λ h. h)
  complete (a ⊗ b) =
      let g : Goes a = complete a in
      let i : Goes b = complete b in
      let f : IsOf term a × IsOf fact b → TermGoes (a ⊗ b) = λ h k n vs w b' o.
      ap (λ (us : List Placed). run m d (want (plain k) n) us) (append_assoc (term_tokens a) (mark Star ∷ term_tokens b) vs)
      ∙ (g.term h.0 k n (mark Star ∷ (term_tokens b ++ vs)) tt (omega arith) (omega arith)
      ∙ (count_goes (n + operators a) (want (times a k) (n + operators a + 1)) (term_tokens b ++ vs) _ (omega arith)
      ∙ (i.fact h.1 (times a k) (n + operators a + 1) vs w (omega arith) (omega arith)
      ∙ ap (λ (j : ℕ). run m d (have k (a ⊗ b) j) vs) (omega arith)))) in
      record {
        fact = λ h. absurd h;
        term = f;
        expr = λ h k n vs w ns b' o. f h (first k) n vs w b' o;
      }
  complete (a ⊕ b) =
      let g : Goes a = complete a in
      let i : Goes b = complete b in
      record {
        fact = λ h. absurd h;
        term = λ h. absurd h;
        expr = λ h k n vs w ns b' o.
            ap (λ (us : List Placed). run m d (want (plain (first k)) n) us) (append_assoc (term_tokens a) (mark Plus ∷ term_tokens b) vs)
            ∙ (g.expr h.0 k n (mark Plus ∷ (term_tokens b ++ vs)) tt tt (omega arith) (omega arith)
            ∙ (count_goes (n + operators a) (want (plain (plus a k)) (n + operators a + 1)) (term_tokens b ++ vs) _ (omega arith)
            ∙ (i.term h.1 (plus a k) (n + operators a + 1) vs w (omega arith) (omega arith)
            ∙ (gathered m d (plus a k) b (n + operators a + 1 + operators b) vs ns
            ∙ ap (λ (j : ℕ). run m d (have (first k) (a ⊕ b) j) vs) (omega arith)))));
      }
  complete (a ⊖ b) =
      let g : Goes a = complete a in
      let i : Goes b = complete b in
      record {
        fact = λ h. absurd h;
        term = λ h. absurd h;
        expr = λ h k n vs w ns b' o.
            ap (λ (us : List Placed). run m d (want (plain (first k)) n) us) (append_assoc (term_tokens a) (mark Minus ∷ term_tokens b) vs)
            ∙ (g.expr h.0 k n (mark Minus ∷ (term_tokens b ++ vs)) tt tt (omega arith) (omega arith)
            ∙ (count_goes (n + operators a) (want (plain (less a k)) (n + operators a + 1)) (term_tokens b ++ vs) _ (omega arith)
            ∙ (i.term h.1 (less a k) (n + operators a + 1) vs w (omega arith) (omega arith)
            ∙ (gathered m d (less a k) b (n + operators a + 1 + operators b) vs ns
            ∙ ap (λ (j : ℕ). run m d (have (first k) (a ⊖ b) j) vs) (omega arith)))));
      }

  -- an expression of its own, where so many parentheses stand open
  pub whole_goes : (e : Term) (k : Around) (vs : List Placed) → IsWhole m e → Follows vs → NoStar vs → nesting e + around_depth k ≤ m.nested → run m d (want (plain (first k)) 0) (term_tokens e ++ vs) ≡ run m d (have (first k) e (operators e)) vs
  whole_goes e k vs h w ns b = (complete e).expr h.level k 0 vs w ns b (omega (arith, h.operators)) ∙ ap (λ (j : ℕ). run m d (have (first k) e j) vs) (omega arith)
