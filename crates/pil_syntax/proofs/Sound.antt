-- What is read is spelled so, and within the limits.
use Rattle.std.proofs.Common.{◌≡◌, ℕ, ◌+◌, ◌≤◌, ◌<◌, List, [], ◌∷◌, ◌++◌, Bool, true, false, Option, Some, None, refl, ap, sym, subst, ◌∙◌, arith, append_assoc, append-nil}
use Rattle.pil_token.specs.declared.token.Word.TheVariants.{Constant, Namespace, Pol, Commit, Public, In, Is}
use Rattle.pil_token.specs.declared.token.Mark.{Mark}
use Rattle.pil_token.specs.declared.token.Mark.TheVariants.{Percent, Equals, Semicolon, OpenParen, CloseParen, OpenBrace, CloseBrace, OpenBracket, CloseBracket, Comma, Dot, Prime, Plus, Minus, Star, Colon}
use Rattle.pil_token.specs.declared.token.Token.{Token}
use Rattle.pil_token.specs.declared.token.Token.TheVariants as tokens
use Rattle.pil_token.specs.declared.token.Placed.{Placed}
use Rattle.pil_syntax.specs.declared.tree.Ident.{Ident}
use Rattle.pil_syntax.specs.declared.tree.Number.{Number}
use Rattle.pil_syntax.specs.declared.tree.Reference.{Reference}
use Rattle.pil_syntax.specs.declared.tree.Declaration.{Declaration}
use Rattle.pil_syntax.specs.declared.tree.ColumnKind.{ColumnKind}
use Rattle.pil_syntax.specs.declared.tree.Size.TheVariants as sizes
use Rattle.pil_syntax.specs.Tree.{Term, num, col, constant, public, opp, group, ◌⊕◌, ◌⊖◌, ◌⊗◌, Filter, every, by_col, by_group, Tuple, Sentence, constant_is}
use Rattle.pil_syntax.specs.Spelling.{mark, marked, word, name, numeral, kept, space_tokens, index_tokens, ref_tokens, term_tokens, filter_tokens, joined, tuple_tokens, declaration_tokens, kind_word, sentence_tokens}
use Rattle.pil_syntax.specs.Grammar.{Limits, IsOf, expr, term, fact, nesting, operators, IsWhole, IsFilter, EachOf, IsTuple, IsSentence}
use Rattle.pil_syntax.specs.State.{Joint, opening, among, inside, against, Around, Sum, Factor, leftmost, right, defining, picked, entry, paren, first, plus, less, plain, times, minus, around_depth, sum_depth, factor_depth, Holder, in_fact, in_filter, in_public, State, between, constant_word, constant_percent, constant_name, constant_equals, namespace_word, namespace_name, namespace_paren, namespace_percent, namespace_size, pol_word, columns_word, columns_name, columns_bracket, columns_length, columns_declared, intermediate_name, public_word, public_name, public_equals, public_column, public_paren, public_row, ref_name, ref_dot, ref_spaced, ref_bracket, ref_index, ref_indexed, want, have, fact_percent, fact_colon, list_wanted, list_brace, first_list, left_lists, right_lists, ending, settle, outer, added, referred, listed, entering}
use Rattle.pil_syntax.specs.Machine.{Move, go, end, nest, count, no, closed, turned, braced, shut, parted, finished, have_move, settle_move, want_move, mark_move, name_move, number_move, brace_move, referred_move, refer, indexed_move, spaced_move, named_move, size_move, pol_move, columns_move, columns_name_move, declaration, list_move, first_move, left_move, right_move, ending_move, line_move, opened_move, between_move, wish, granted}
use Rattle.pil_syntax.proofs.Lists.{followed, AllOf, joined-snoc, followed-joined, followed-snoc, each_snoc, all_of_each, all_snoc}
use Rattle.pil_syntax.proofs.Reached.{joint_tokens, around_tokens, sum_tokens, factor_tokens, holder_tokens, state_tokens, around_operators, factor_operators, IsJoint, IsAround, IsSum, IsFactor, IsWanted, IsHad, IsHolder, IsState}

pub fact_is_term : (e : Term) → IsOf fact e → IsOf term e
fact_is_term (num n) h = tt
fact_is_term (col r) h = tt
fact_is_term (constant x) h = tt
fact_is_term (public x) h = tt
fact_is_term (opp a) h = h
fact_is_term (group a) h = h
fact_is_term (a ⊕ b) h = absurd h
fact_is_term (a ⊖ b) h = absurd h
fact_is_term (a ⊗ b) h = absurd h

pub term_is_expr : (e : Term) → IsOf term e → IsOf expr e
term_is_expr (num n) h = tt
term_is_expr (col r) h = tt
term_is_expr (constant x) h = tt
term_is_expr (public x) h = tt
term_is_expr (opp a) h = h
term_is_expr (group a) h = h
term_is_expr (a ⊕ b) h = absurd h
term_is_expr (a ⊖ b) h = absurd h
term_is_expr (a ⊗ b) h = h

-- the state is in the grammar and its tokens are these
abbrev pub IsAt : Limits → List Placed → State → Type 0
IsAt m us s = IsState m s × (state_tokens s ≡ us)

abbrev pub IsNext : Limits → List Placed → Move → Type 0
IsNext m us (go s) = IsAt m us s
IsNext m us (end q) = IsSentence m q × (sentence_tokens q ++ mark Semicolon ∷ [] ≡ us)
IsNext m us (nest c s) = c < m.nested → IsAt m us s
IsNext m us (count n s) = n < m.operators → IsAt m us s
IsNext m us no = Unit {0}

module _ (m : Limits) where
  mutual
    pub around_shallow : (k : Around) → IsAround m k → around_depth k ≤ m.nested
    around_shallow leftmost h = omega arith
    around_shallow (right a) h = omega arith
    around_shallow (defining x) h = omega arith
    around_shallow (picked j) h = h.0
    around_shallow (entry j f i es) h = omega arith
    around_shallow (paren k) h = h.0

    pub sum_shallow : (k : Sum) → IsSum m k → sum_depth k ≤ m.nested
    sum_shallow (first k) h = around_shallow k h
    sum_shallow (plus a k) h = around_shallow k h.2
    sum_shallow (less a k) h = around_shallow k h.2

    pub factor_shallow : (k : Factor) → IsFactor m k → factor_depth k ≤ m.nested
    factor_shallow (plain k) h = sum_shallow k h
    factor_shallow (times a k) h = sum_shallow k h.2
    factor_shallow (minus k) h = h.0

  settled_state : (k : Factor) (e : Term) (n : ℕ) → IsFactor m k → IsOf fact e → nesting e + factor_depth k ≤ m.nested → factor_operators k + operators e ≡ n → n ≤ m.operators → IsState m (settle k e n)
  settled_state (plain k) e n a l d c f = record { around = a; level = fact_is_term e l; nested = d; count = c; few = f }
  settled_state (times t k) e n a l d c f = record { around = a.2; level = (a.0, l); nested = omega (arith, a.1); count = omega arith; few = f }
  settled_state (minus k) e n a l d c f = settled_state k (opp e) n a.1 l (omega arith) c f

  settled_tokens : (k : Factor) (e : Term) (n : ℕ) → state_tokens (settle k e n) ≡ factor_tokens k ++ term_tokens e
  settled_tokens (plain k) e n = refl
  settled_tokens (times t k) e n = sym (simp append_assoc)
  settled_tokens (minus k) e n = settled_tokens k (opp e) n ∙ sym (append_assoc (factor_tokens k) (mark Minus ∷ []) (term_tokens e))

  -- a number, a reference or a name as a fact
  operand_at : (k : Factor) (e : Term) (n : ℕ) (us : List Placed) → IsWanted m k n → IsOf fact e → nesting e ≡ 0 → operators e ≡ 0 → factor_tokens k ++ term_tokens e ≡ us → IsAt m us (settle k e n)
  operand_at k e n us h l z o t = (settled_state k e n h.around l (omega (arith, factor_shallow k h.around, z)) (omega (arith, h.count, o)) h.few, settled_tokens k e n ∙ t)

  -- a sum that is read up to its last term
  pub record IsAdded (k : Sum) (e : Term) (n : ℕ) : Type 0 where
    pub around : IsAround m (outer k)
    pub level : IsOf expr (added k e)
    pub nested : nesting (added k e) + around_depth (outer k) ≤ m.nested
    pub count : around_operators (outer k) + operators (added k e) ≡ n
    pub few : n ≤ m.operators
    pub tokens : sum_tokens k ++ term_tokens e ≡ around_tokens (outer k) ++ term_tokens (added k e)

  added_is : (k : Sum) (e : Term) (n : ℕ) → IsHad m k e n → IsAdded k e n
  added_is (first k) e n h = record { around = h.around; level = term_is_expr e h.level; nested = h.nested; count = h.count; few = h.few; tokens = refl }
  added_is (plus a k) e n h = record { around = h.around.2; level = (h.around.0, h.level); nested = omega (arith, h.around.1, h.nested); count = omega (arith, h.count); few = h.few; tokens = simp append_assoc }
  added_is (less a k) e n h = record { around = h.around.2; level = (h.around.0, h.level); nested = omega (arith, h.around.1, h.nested); count = omega (arith, h.count); few = h.few; tokens = simp append_assoc }

  -- an expression that is read whole, in these surroundings
  pub record IsDone (k : Around) (e : Term) (n : ℕ) : Type 0 where
    pub around : IsAround m k
    pub level : IsOf expr e
    pub nested : nesting e + around_depth k ≤ m.nested
    pub count : around_operators k + operators e ≡ n
    pub few : n ≤ m.operators

  done : (k : Sum) (e : Term) (n : ℕ) → IsAdded k e n → IsDone (outer k) (added k e) n
  done k e n a = record { around = a.around; level = a.level; nested = a.nested; count = a.count; few = a.few }

  closed_is : (k : Around) (e : Term) (n : ℕ) → IsDone k e n → IsNext m ((around_tokens k ++ term_tokens e) ++ mark CloseParen ∷ []) (closed k e n)
  closed_is leftmost e n a = tt
  closed_is (right b) e n a = tt
  closed_is (defining x) e n a = tt
  closed_is (picked j) e n a = ((a.around.1, record { level = a.level; nesting = omega (arith, a.nested); operators = omega (arith, a.count, a.few) }), sym (simp append_assoc))
  closed_is (entry j f i es) e n a = tt
  closed_is (paren k) e n a = (settled_state k (group e) n a.around.1 a.level (omega (arith, a.nested)) a.count a.few, settled_tokens k (group e) n ∙ sym (simp append_assoc))

  turned_is : (k : Around) (e : Term) (n : ℕ) → IsDone k e n → IsNext m ((around_tokens k ++ term_tokens e) ++ mark Equals ∷ []) (turned k e)
  turned_is leftmost e n a = (record { around = record { level = a.level; nesting = omega (arith, a.nested); operators = omega (arith, a.count, a.few) }; count = refl; few = omega arith }, refl)
  turned_is (right b) e n a = tt
  turned_is (defining x) e n a = tt
  turned_is (picked j) e n a = tt
  turned_is (entry j f i es) e n a = tt
  turned_is (paren k) e n a = tt

  entering_at : (j : Joint) (f : Filter) (i : ℕ) (es : List Term) (us : List Placed) → IsJoint m j → IsFilter m f → AllOf (IsWhole m) es → around_tokens (entry j f i es) ≡ us → IsAt m us (entering j f i es)
  entering_at j f i es us h g a e = (record { around = (h, g, a); count = refl; few = omega arith }, e)

  braced_is : (k : Sum) (e : Term) (n i : ℕ) → IsHad m k e n → IsNext m ((sum_tokens k ++ term_tokens e) ++ marked OpenBrace i ∷ []) (braced k e i)
  braced_is (first leftmost) (col r) n i h = entering_at opening (by_col r) i [] _ tt tt tt refl
  braced_is (first leftmost) (group e) n i h = entering_at opening (by_group e) i [] _ tt (record { level = h.level; nesting = omega (arith, h.nested); operators = omega (arith, h.count, h.few) }) tt refl
  braced_is (first leftmost) e n i h = tt
  braced_is k e n i h = tt

  pub listed_at : (j : Joint) (l : Tuple) (us : List Placed) → IsJoint m j → IsTuple m l → joint_tokens j ++ tuple_tokens l ≡ us → IsAt m us (listed j l)
  listed_at opening l us h t e = (t, e)
  listed_at (among ls) l us h t e = (each_snoc (IsTuple m) ls l h t, joined-snoc Plus tuple_tokens ls l ∙ e)
  listed_at (inside k) l us h t e = ((h, t), sym (append_assoc (tuple_tokens k) (word In ∷ []) (tuple_tokens l)) ∙ e)
  listed_at (against ls rs) l us h t e = (
    (h.0, each_snoc (IsTuple m) rs l h.1 t),
    ap (λ (ws : List Placed). joined Plus tuple_tokens ls ++ (word Is ∷ ws)) (joined-snoc Plus tuple_tokens rs l)
        ∙ (sym (append_assoc (joined Plus tuple_tokens ls) (word Is ∷ followed Plus tuple_tokens rs) (tuple_tokens l)) ∙ e),
  )

  whole : (k : Around) (e : Term) (n : ℕ) → around_operators k ≡ 0 → IsDone k e n → IsWhole m e
  whole k e n z a = record { level = a.level; nesting = omega (arith, a.nested); operators = omega (arith, a.count, a.few, z) }

  shut_is : (k : Around) (e : Term) (n : ℕ) → IsDone k e n → IsNext m ((around_tokens k ++ term_tokens e) ++ mark CloseBrace ∷ []) (shut k e)
  shut_is leftmost e n a = tt
  shut_is (right b) e n a = tt
  shut_is (defining x) e n a = tt
  shut_is (picked j) e n a = tt
  shut_is (entry j f i es) e n a = listed_at j (record { filter = f; at = i; entries = es ++ e ∷ [] }) _ a.around.0
      (record { filter = a.around.1; entries = each_snoc (IsWhole m) es e a.around.2 (whole (entry j f i es) e n refl a) })
      (ap (λ (ws : List Placed). joint_tokens j ++ (filter_tokens f ++ (marked OpenBrace i ∷ (ws ++ mark CloseBrace ∷ [])))) (joined-snoc Comma term_tokens es e) ∙ sym (simp append_assoc))
  shut_is (paren k) e n a = tt

  parted_is : (k : Around) (e : Term) (n : ℕ) → IsDone k e n → IsNext m ((around_tokens k ++ term_tokens e) ++ mark Comma ∷ []) (parted k e)
  parted_is leftmost e n a = tt
  parted_is (right b) e n a = tt
  parted_is (defining x) e n a = tt
  parted_is (picked j) e n a = tt
  parted_is (entry j f i es) e n a = entering_at j f i (es ++ e ∷ []) _ a.around.0 a.around.1 (all_snoc (IsWhole m) es e a.around.2 (whole (entry j f i es) e n refl a))
      (ap (λ (ws : List Placed). joint_tokens j ++ (filter_tokens f ++ (marked OpenBrace i ∷ ws))) (followed-snoc Comma term_tokens es e) ∙ sym (simp append_assoc))
  parted_is (paren k) e n a = tt

  finished_is : (k : Around) (e : Term) (n : ℕ) → IsDone k e n → IsNext m ((around_tokens k ++ term_tokens e) ++ mark Semicolon ∷ []) (finished k e)
  finished_is leftmost e n a = tt
  finished_is (right b) e n a = ((a.around, whole (right b) e n refl a), ap (λ (ws : List Placed). ws ++ mark Semicolon ∷ []) (sym (append_assoc (term_tokens b) (mark Equals ∷ []) (term_tokens e))))
  finished_is (defining x) e n a = (whole (defining x) e n refl a, refl)
  finished_is (picked j) e n a = tt
  finished_is (entry j f i es) e n a = tt
  finished_is (paren k) e n a = tt

  pub have_is : (k : Sum) (e : Term) (n : ℕ) (t : Token) (i : ℕ) → IsHad m k e n → IsNext m ((sum_tokens k ++ term_tokens e) ++ kept t i ∷ []) (have_move k e n t i)
  have_is k e n (tokens.Mark Star) i h = λ f. (record { around = (h.level, h.nested, h.around); count = omega (arith, h.count); few = omega arith }, sym (append_assoc (sum_tokens k) (term_tokens e) (mark Star ∷ [])))
  have_is k e n (tokens.Mark Plus) i h = let a : IsAdded k e n = added_is k e n h in λ f. (record { around = (a.level, a.nested, a.around); count = omega (arith, a.count); few = omega arith }, rw a.tokens (sym (append_assoc (around_tokens (outer k)) (term_tokens (added k e)) (mark Plus ∷ []))))
  have_is k e n (tokens.Mark Minus) i h = let a : IsAdded k e n = added_is k e n h in λ f. (record { around = (a.level, a.nested, a.around); count = omega (arith, a.count); few = omega arith }, rw a.tokens (sym (append_assoc (around_tokens (outer k)) (term_tokens (added k e)) (mark Minus ∷ []))))
  have_is k e n (tokens.Mark CloseParen) i h = let a : IsAdded k e n = added_is k e n h in rw a.tokens (closed_is (outer k) (added k e) n (done k e n a))
  have_is k e n (tokens.Mark Equals) i h = let a : IsAdded k e n = added_is k e n h in rw a.tokens (turned_is (outer k) (added k e) n (done k e n a))
  have_is k e n (tokens.Mark OpenBrace) i h = braced_is k e n i h
  have_is k e n (tokens.Mark CloseBrace) i h = let a : IsAdded k e n = added_is k e n h in rw a.tokens (shut_is (outer k) (added k e) n (done k e n a))
  have_is k e n (tokens.Mark Comma) i h = let a : IsAdded k e n = added_is k e n h in rw a.tokens (parted_is (outer k) (added k e) n (done k e n a))
  have_is k e n (tokens.Mark Semicolon) i h = let a : IsAdded k e n = added_is k e n h in rw a.tokens (finished_is (outer k) (added k e) n (done k e n a))
  have_is k e n t i h = tt

  settle_is : (k : Factor) (e : Term) (n : ℕ) (t : Token) (i : ℕ) → IsState m (settle k e n) → IsNext m (state_tokens (settle k e n) ++ kept t i ∷ []) (settle_move k e n t i)
  settle_is (plain k) e n t i h = have_is k e n t i h
  settle_is (times a k) e n t i h = have_is k (a ⊗ e) n t i h
  settle_is (minus k) e n t i h = settle_is k (opp e) n t i h

  pub want_is : (k : Factor) (n : ℕ) (t : Token) (i : ℕ) → IsWanted m k n → IsNext m (factor_tokens k ++ kept t i ∷ []) (want_move k n t i)
  want_is k n (tokens.Number v) i h = operand_at k (num (record { value = v; at = i })) n _ h tt refl refl refl
  want_is k n (tokens.Name x) i h = (h, refl)
  want_is k n (tokens.Mark Percent) i h = (h, refl)
  want_is k n (tokens.Mark Colon) i h = (h, refl)
  want_is k n (tokens.Mark Minus) i h = λ d. (record { around = (omega arith, h.around); count = h.count; few = h.few }, refl)
  want_is k n (tokens.Mark OpenParen) i h = λ d. (record { around = (omega arith, h.around); count = h.count; few = h.few }, refl)
  want_is k n t i h = tt

  -- `{` and `'` keep their places
  abbrev IsDull : Mark → Type 0
  IsDull OpenBrace = ⊥
  IsDull Prime = ⊥
  IsDull _ = Unit {0}

  mark_is : (us : List Placed) (k : Mark) (s : State) (t : Token) (i : ℕ) → IsDull k → IsAt m (us ++ mark k ∷ []) s → IsNext m (us ++ kept t i ∷ []) (mark_move k s t)
  mark_is us Percent s (tokens.Mark Percent) i d h = h
  mark_is us Equals s (tokens.Mark Equals) i d h = h
  mark_is us Semicolon s (tokens.Mark Semicolon) i d h = h
  mark_is us OpenParen s (tokens.Mark OpenParen) i d h = h
  mark_is us CloseParen s (tokens.Mark CloseParen) i d h = h
  mark_is us OpenBrace s (tokens.Mark OpenBrace) i d h = absurd d
  mark_is us CloseBrace s (tokens.Mark CloseBrace) i d h = h
  mark_is us OpenBracket s (tokens.Mark OpenBracket) i d h = h
  mark_is us CloseBracket s (tokens.Mark CloseBracket) i d h = h
  mark_is us Comma s (tokens.Mark Comma) i d h = h
  mark_is us Dot s (tokens.Mark Dot) i d h = h
  mark_is us Prime s (tokens.Mark Prime) i d h = absurd d
  mark_is us Plus s (tokens.Mark Plus) i d h = h
  mark_is us Minus s (tokens.Mark Minus) i d h = h
  mark_is us Star s (tokens.Mark Star) i d h = h
  mark_is us Colon s (tokens.Mark Colon) i d h = h
  mark_is us k s t i d h = tt

  name_is : (us : List Placed) (f : Ident → State) (t : Token) (i : ℕ) → ((x : Ident) → IsAt m (us ++ name x ∷ []) (f x)) → IsNext m (us ++ kept t i ∷ []) (name_move f t i)
  name_is us f (tokens.Name x) i h = h (record { name = x; at = i })
  name_is us f t i h = tt

  number_is : (us : List Placed) (f : Number → State) (t : Token) (i : ℕ) → ((n : Number) → IsAt m (us ++ numeral n ∷ []) (f n)) → IsNext m (us ++ kept t i ∷ []) (number_move f t i)
  number_is us f (tokens.Number v) i h = h (record { value = v; at = i })
  number_is us f t i h = tt

  brace_is : (j : Joint) (f : Filter) (t : Token) (i : ℕ) → IsJoint m j × IsFilter m f → IsNext m ((joint_tokens j ++ filter_tokens f) ++ kept t i ∷ []) (brace_move j f t i)
  brace_is j f (tokens.Mark OpenBrace) i h = entering_at j f i [] _ h.0 h.1 tt (sym (append_assoc (joint_tokens j) (filter_tokens f) (marked OpenBrace i ∷ [])))
  brace_is j f t i h = tt

  referred_at : (h : Holder) (r : Reference) (us : List Placed) → IsHolder m h → holder_tokens h ++ ref_tokens r ≡ us → IsAt m us (referred h r)
  referred_at (in_fact k n) r us h e = operand_at k (col r) n us h tt refl refl e
  referred_at (in_filter j) r us h e = ((h, tt), e)
  referred_at (in_public x) r us h e = (tt, e)

  referred_is : (h : Holder) (r : Reference) (t : Token) (i : ℕ) → IsState m (referred h r) → IsNext m (state_tokens (referred h r) ++ kept t i ∷ []) (referred_move h r t i)
  referred_is (in_fact k n) r t i h = settle_is k (col r) n t i h
  referred_is (in_filter j) r t i h = brace_is j (by_col r) t i h
  referred_is (in_public x) r t i h = mark_is (state_tokens (public_column x r)) OpenParen (public_paren x r) t i tt (tt, refl)

  resumed_is : (h : Holder) (s : Option Ident) (x : Ident) (n : Option Number) (t : Token) (i : ℕ) → IsHolder m h → IsNext m ((holder_tokens h ++ (space_tokens s ++ name x ∷ index_tokens n)) ++ kept t i ∷ []) (referred_move h (refer s x n None) t i)
  resumed_is h s x n t i a =
      let r : Reference = refer s x n None in
      let us : List Placed = holder_tokens h ++ (space_tokens s ++ name x ∷ index_tokens n) in
      let q : IsAt m us (referred h r) = referred_at h r us a (ap (λ (ws : List Placed). holder_tokens h ++ (space_tokens s ++ name x ∷ ws)) (append-nil (index_tokens n))) in
      subst (λ (ws : List Placed). IsNext m (ws ++ kept t i ∷ []) (referred_move h r t i)) q.1 (referred_is h r t i q.0)

  indexed_is : (h : Holder) (s : Option Ident) (x : Ident) (n : Option Number) (t : Token) (i : ℕ) → IsHolder m h → IsNext m ((holder_tokens h ++ (space_tokens s ++ name x ∷ index_tokens n)) ++ kept t i ∷ []) (indexed_move h s x n t i)
  indexed_is h s x n (tokens.Mark Prime) i a = referred_at h (refer s x n (Some i)) _ a (sym (simp append_assoc))
  indexed_is h s x n t i a = resumed_is h s x n t i a

  spaced_is : (h : Holder) (s : Option Ident) (x : Ident) (t : Token) (i : ℕ) → IsHolder m h → IsNext m ((holder_tokens h ++ (space_tokens s ++ name x ∷ [])) ++ kept t i ∷ []) (spaced_move h s x t i)
  spaced_is h s x (tokens.Mark OpenBracket) i a = (a, sym (simp append_assoc))
  spaced_is h s x t i a = indexed_is h s x None t i a

  named_is : (h : Holder) (x : Ident) (t : Token) (i : ℕ) → IsHolder m h → IsNext m ((holder_tokens h ++ name x ∷ []) ++ kept t i ∷ []) (named_move h x t i)
  named_is h x (tokens.Mark Dot) i a = (a, sym (append_assoc (holder_tokens h) (name x ∷ []) (mark Dot ∷ [])))
  named_is h x t i a = spaced_is h None x t i a

  size_is : (x : Ident) (t : Token) (i : ℕ) → IsNext m (word Namespace ∷ name x ∷ mark OpenParen ∷ kept t i ∷ []) (size_move x t i)
  size_is x (tokens.Number v) i = (tt, refl)
  size_is x (tokens.Mark Percent) i = (tt, refl)
  size_is x t i = tt

  pol_is : (t : Token) (i : ℕ) → IsNext m (word Pol ∷ kept t i ∷ []) (pol_move t i)
  pol_is (tokens.Word Constant) i = (tt, refl)
  pol_is (tokens.Word Commit) i = (tt, refl)
  pol_is (tokens.Name x) i = (tt, refl)
  pol_is t i = tt

  all_free : (ds : List Declaration) → AllOf (λ d. Unit {0}) ds
  all_free [] = tt
  all_free (d ∷ ds) = (tt, all_free ds)

  columns_is : (k : ColumnKind) (ds : List Declaration) (d : Declaration) (t : Token) (i : ℕ) → IsNext m ((word Pol ∷ word (kind_word k) ∷ (followed Comma declaration_tokens ds ++ declaration_tokens d)) ++ kept t i ∷ []) (columns_move k ds d t)
  columns_is k ds d (tokens.Mark Comma) i = (tt, ap (λ (ws : List Placed). word Pol ∷ word (kind_word k) ∷ ws) (append-nil (followed Comma declaration_tokens (ds ++ d ∷ [])) ∙ (followed-snoc Comma declaration_tokens ds d ∙ sym (append_assoc (followed Comma declaration_tokens ds) (declaration_tokens d) (mark Comma ∷ [])))))
  columns_is k ds d (tokens.Mark Semicolon) i = (each_snoc (λ (x : Declaration). Unit {0}) ds d (all_free ds) tt, ap (λ (ws : List Placed). word Pol ∷ word (kind_word k) ∷ (ws ++ mark Semicolon ∷ [])) (joined-snoc Comma declaration_tokens ds d))
  columns_is k ds d t i = tt

  columns_name_is : (k : ColumnKind) (ds : List Declaration) (x : Ident) (t : Token) (i : ℕ) → IsNext m ((word Pol ∷ word (kind_word k) ∷ (followed Comma declaration_tokens ds ++ name x ∷ [])) ++ kept t i ∷ []) (columns_name_move k ds x t)
  columns_name_is k ds x (tokens.Mark OpenBracket) i = (tt, ap (λ (ws : List Placed). word Pol ∷ word (kind_word k) ∷ ws) (sym (append_assoc (followed Comma declaration_tokens ds) (name x ∷ []) (mark OpenBracket ∷ []))))
  columns_name_is k ds x t i = columns_is k ds (declaration x None) t i

  list_is : (j : Joint) (t : Token) (i : ℕ) → IsJoint m j → IsNext m (joint_tokens j ++ kept t i ∷ []) (list_move j t i)
  list_is j (tokens.Mark OpenBrace) i h = entering_at j every i [] _ h tt tt refl
  list_is j (tokens.Name x) i h = (h, refl)
  list_is j (tokens.Mark OpenParen) i h = λ d. (record { around = (omega arith, h); count = refl; few = omega arith }, refl)
  list_is j t i h = tt

  first_is : (l : Tuple) (t : Token) (i : ℕ) → IsTuple m l → IsNext m (tuple_tokens l ++ kept t i ∷ []) (first_move l t)
  first_is l (tokens.Word In) i h = (h, refl)
  first_is l (tokens.Word Is) i h = ((h, tt), refl)
  first_is l (tokens.Mark Plus) i h = ((h, tt), refl)
  first_is l t i h = tt

  followed_each : (ls : List Tuple) → EachOf (IsTuple m) ls → followed Plus tuple_tokens ls ≡ joined Plus tuple_tokens ls ++ mark Plus ∷ []
  followed_each [] h = absurd h
  followed_each (l ∷ ls) h = followed-joined Plus tuple_tokens l ls

  left_is : (ls : List Tuple) (t : Token) (i : ℕ) → EachOf (IsTuple m) ls → IsNext m (joined Plus tuple_tokens ls ++ kept t i ∷ []) (left_move ls t)
  left_is ls (tokens.Word Is) i h = ((h, tt), refl)
  left_is ls (tokens.Mark Plus) i h = (all_of_each (IsTuple m) ls h, followed_each ls h)
  left_is ls t i h = tt

  right_is : (ls rs : List Tuple) (t : Token) (i : ℕ) → EachOf (IsTuple m) ls × EachOf (IsTuple m) rs → IsNext m ((joined Plus tuple_tokens ls ++ (word Is ∷ joined Plus tuple_tokens rs)) ++ kept t i ∷ []) (right_move ls rs t)
  right_is ls rs (tokens.Mark Plus) i h = ((h.0, all_of_each (IsTuple m) rs h.1), ap (λ (ws : List Placed). joined Plus tuple_tokens ls ++ (word Is ∷ ws)) (followed_each rs h.1) ∙ sym (append_assoc (joined Plus tuple_tokens ls) (word Is ∷ joined Plus tuple_tokens rs) (mark Plus ∷ [])))
  right_is ls rs (tokens.Mark Semicolon) i h = (h, refl)
  right_is ls rs t i h = tt

  ending_is : (q : Sentence) (t : Token) (i : ℕ) → IsSentence m q → IsNext m (sentence_tokens q ++ kept t i ∷ []) (ending_move q t)
  ending_is q (tokens.Mark Semicolon) i h = (h, refl)
  ending_is q t i h = tt

  line_is : (t : Token) (i : ℕ) → IsNext m (kept t i ∷ []) (line_move t i)
  line_is (tokens.Word Pol) i = (tt, refl)
  line_is (tokens.Word Public) i = (tt, refl)
  line_is (tokens.Mark OpenBrace) i = entering_at opening every i [] _ tt tt tt refl
  line_is t i = want_is (plain (first leftmost)) 0 t i (record { around = tt; count = refl; few = omega arith })

  opened_is : (b : Bool) (t : Token) (i : ℕ) → IsNext m (kept t i ∷ []) (opened_move b t i)
  opened_is true t i = line_is t i
  opened_is false t i = tt

  between_is : (b : Bool) (t : Token) (i : ℕ) → IsNext m (kept t i ∷ []) (between_move b t i)
  between_is b (tokens.Word Constant) i = (tt, refl)
  between_is b (tokens.Word Namespace) i = (tt, refl)
  between_is b t i = opened_is b t i

  -- a token brings a state to the next, or ends its statement
  pub step_is : (b : Bool) (s : State) (t : Token) (i : ℕ) → IsState m s → IsNext m (state_tokens s ++ kept t i ∷ []) (granted b (wish s) t i)
  step_is b between t i h = between_is b t i
  step_is b constant_word t i h = mark_is (state_tokens constant_word) Percent constant_percent t i tt (tt, refl)
  step_is b constant_percent t i h = name_is (state_tokens constant_percent) constant_name t i (λ x. (tt, refl))
  step_is b (constant_name x) t i h = mark_is (state_tokens (constant_name x)) Equals (constant_equals x) t i tt (tt, refl)
  step_is b (constant_equals x) t i h = number_is (state_tokens (constant_equals x)) (λ (n : Number). ending (constant_is x n)) t i (λ n. (tt, refl))
  step_is b namespace_word t i h = name_is (state_tokens namespace_word) namespace_name t i (λ x. (tt, refl))
  step_is b (namespace_name x) t i h = mark_is (state_tokens (namespace_name x)) OpenParen (namespace_paren x) t i tt (tt, refl)
  step_is b (namespace_paren x) t i h = size_is x t i
  step_is b (namespace_percent x) t i h = name_is (state_tokens (namespace_percent x)) (λ (y : Ident). namespace_size x (sizes.Constant y)) t i (λ y. (tt, refl))
  step_is b (namespace_size x n) t i h = mark_is (state_tokens (namespace_size x n)) CloseParen _ t i tt (tt, refl)
  step_is b pol_word t i h = pol_is t i
  step_is b (columns_word k ds) t i h = name_is (state_tokens (columns_word k ds)) (columns_name k ds) t i (λ x. (tt, ap (λ (ws : List Placed). word Pol ∷ word (kind_word k) ∷ (ws ++ name x ∷ [])) (sym (append-nil (followed Comma declaration_tokens ds)))))
  step_is b (columns_name k ds x) t i h = columns_name_is k ds x t i
  step_is b (columns_bracket k ds x) t i h = number_is (state_tokens (columns_bracket k ds x)) (columns_length k ds x) t i (λ n. (tt, ap (λ (ws : List Placed). word Pol ∷ word (kind_word k) ∷ ws) (sym (append_assoc (followed Comma declaration_tokens ds) (name x ∷ mark OpenBracket ∷ []) (numeral n ∷ [])))))
  step_is b (columns_length k ds x n) t i h = mark_is (state_tokens (columns_length k ds x n)) CloseBracket _ t i tt (tt, ap (λ (ws : List Placed). word Pol ∷ word (kind_word k) ∷ ws) (sym (append_assoc (followed Comma declaration_tokens ds) (name x ∷ mark OpenBracket ∷ numeral n ∷ []) (mark CloseBracket ∷ []))))
  step_is b (columns_declared k ds d) t i h = columns_is k ds d t i
  step_is b (intermediate_name x) t i h = mark_is (state_tokens (intermediate_name x)) Equals _ t i tt (record { around = tt; count = refl; few = omega arith }, refl)
  step_is b public_word t i h = name_is (state_tokens public_word) public_name t i (λ x. (tt, refl))
  step_is b (public_name x) t i h = mark_is (state_tokens (public_name x)) Equals (public_equals x) t i tt (tt, refl)
  step_is b (public_equals x) t i h = name_is (state_tokens (public_equals x)) (ref_name (in_public x)) t i (λ y. (tt, refl))
  step_is b (public_column x r) t i h = mark_is (state_tokens (public_column x r)) OpenParen (public_paren x r) t i tt (tt, refl)
  step_is b (public_paren x r) t i h = number_is (state_tokens (public_paren x r)) (public_row x r) t i (λ n. (tt, ap (λ (ws : List Placed). word Public ∷ name x ∷ mark Equals ∷ ws) (sym (append_assoc (ref_tokens r) (mark OpenParen ∷ []) (numeral n ∷ [])))))
  step_is b (public_row x r n) t i h = mark_is (state_tokens (public_row x r n)) CloseParen _ t i tt (tt, ap (λ (ws : List Placed). word Public ∷ name x ∷ mark Equals ∷ ws) (sym (append_assoc (ref_tokens r) (mark OpenParen ∷ numeral n ∷ []) (mark CloseParen ∷ []))))
  step_is b (ref_name g x) t i h = named_is g x t i h
  step_is b (ref_dot g s) t i h = name_is (state_tokens (ref_dot g s)) (ref_spaced g (Some s)) t i (λ x. (h, sym (append_assoc (holder_tokens g) (name s ∷ mark Dot ∷ []) (name x ∷ []))))
  step_is b (ref_spaced g s x) t i h = spaced_is g s x t i h
  step_is b (ref_bracket g s x) t i h = number_is (state_tokens (ref_bracket g s x)) (ref_index g s x) t i (λ n. (h, sym (simp append_assoc)))
  step_is b (ref_index g s x n) t i h = mark_is (state_tokens (ref_index g s x n)) CloseBracket (ref_indexed g s x (Some n)) t i tt (h, sym (simp append_assoc))
  step_is b (ref_indexed g s x n) t i h = indexed_is g s x n t i h
  step_is b (want k n) t i h = want_is k n t i h
  step_is b (have k e n) t i h = have_is k e n t i h
  step_is b (fact_percent k n) t i h = name_is (state_tokens (fact_percent k n)) _ t i (λ x. operand_at k (constant x) n _ h tt refl refl (sym (append_assoc (factor_tokens k) (mark Percent ∷ []) (name x ∷ []))))
  step_is b (fact_colon k n) t i h = name_is (state_tokens (fact_colon k n)) _ t i (λ x. operand_at k (public x) n _ h tt refl refl (sym (append_assoc (factor_tokens k) (mark Colon ∷ []) (name x ∷ []))))
  step_is b (list_wanted j) t i h = list_is j t i h
  step_is b (list_brace j f) t i h = brace_is j f t i h
  step_is b (first_list l) t i h = first_is l t i h
  step_is b (left_lists ls) t i h = left_is ls t i h
  step_is b (right_lists ls rs) t i h = right_is ls rs t i h
  step_is b (ending q) t i h = ending_is q t i h
