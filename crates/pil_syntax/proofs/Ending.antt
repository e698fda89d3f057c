-- Every state can be brought to a file's end.
use Rattle.std.proofs.Common.{ℕ, List, [], ◌∷◌, ◌++◌, Some, None, Ok, Err, sym, subst}
use Rattle.pil_token.specs.declared.token.Word.TheVariants.{In, Is}
use Rattle.pil_token.specs.declared.token.Mark.TheVariants.{Percent, Equals, Semicolon, OpenParen, CloseParen, OpenBrace, CloseBrace, CloseBracket}
use Rattle.pil_token.specs.declared.token.Token.TheVariants as tokens
use Rattle.pil_token.specs.declared.token.Placed.{Placed}
use Rattle.pil_syntax.specs.declared.tree.Ident.{Ident}
use Rattle.pil_syntax.specs.declared.tree.Number.{Number}
use Rattle.pil_syntax.specs.declared.tree.Reference.{Reference}
use Rattle.pil_syntax.specs.Tree.{Term, num, col, constant, public, opp, group, ◌⊕◌, ◌⊖◌, ◌⊗◌, Filter, every, by_col, by_group, Tuple, Sentence}
use Rattle.pil_syntax.specs.Spelling.{mark, marked, word}
use Rattle.pil_syntax.specs.Grammar.{Limits}
use Rattle.pil_syntax.specs.State.{Joint, opening, among, inside, against, Around, Sum, Factor, leftmost, right, defining, picked, entry, paren, first, plus, less, plain, times, minus, Holder, in_fact, in_filter, in_public, State, between, constant_word, constant_percent, constant_name, constant_equals, namespace_word, namespace_name, namespace_paren, namespace_percent, namespace_size, pol_word, columns_word, columns_name, columns_bracket, columns_length, columns_declared, intermediate_name, public_word, public_name, public_equals, public_column, public_paren, public_row, ref_name, ref_dot, ref_spaced, ref_bracket, ref_index, ref_indexed, want, have, fact_percent, fact_colon, list_wanted, list_brace, first_list, left_lists, right_lists, ending, settle, referred, listed}
use Rattle.pil_syntax.specs.Machine.{Read, run, refer, NoStar}
use Rattle.pil_syntax.proofs.Resuming.{Follows, unindexed, unspaced, unnamed}
use Rattle.pil_syntax.proofs.Gathering.{gathered}

-- some name and some number
abbrev x : Placed
x = record { token = tokens.Name (120 ∷ []); at = 0 }

abbrev zero : Placed
zero = record { token = tokens.Number 0; at = 0 }

-- what ends the line behind a list
abbrev joint_closing : Joint → List Placed
joint_closing opening = word In ∷ marked OpenBrace 0 ∷ zero ∷ mark CloseBrace ∷ mark Semicolon ∷ []
joint_closing (among ls) = word Is ∷ marked OpenBrace 0 ∷ zero ∷ mark CloseBrace ∷ mark Semicolon ∷ []
joint_closing (inside l) = mark Semicolon ∷ []
joint_closing (against ls rs) = mark Semicolon ∷ []

-- and where a list is wanted, or its `{`
abbrev list_closing : Joint → List Placed
list_closing j = marked OpenBrace 0 ∷ zero ∷ mark CloseBrace ∷ joint_closing j

abbrev mutual
  around_closing : Around → List Placed
  around_closing leftmost = mark Equals ∷ zero ∷ mark Semicolon ∷ []
  around_closing (right a) = mark Semicolon ∷ []
  around_closing (defining y) = mark Semicolon ∷ []
  around_closing (picked j) = mark CloseParen ∷ list_closing j
  around_closing (entry j f i es) = mark CloseBrace ∷ joint_closing j
  around_closing (paren k) = mark CloseParen ∷ factor_closing k

  sum_closing : Sum → List Placed
  sum_closing (first k) = around_closing k
  sum_closing (plus a k) = around_closing k
  sum_closing (less a k) = around_closing k

  factor_closing : Factor → List Placed
  factor_closing (plain k) = sum_closing k
  factor_closing (times a k) = sum_closing k
  factor_closing (minus k) = factor_closing k

abbrev row_closing : List Placed
row_closing = mark OpenParen ∷ zero ∷ mark CloseParen ∷ mark Semicolon ∷ []

abbrev holder_closing : Holder → List Placed
holder_closing (in_fact k n) = factor_closing k
holder_closing (in_filter j) = list_closing j
holder_closing (in_public y) = row_closing

-- what would end the file
abbrev pub closing : State → List Placed
closing between = []
closing constant_word = mark Percent ∷ x ∷ mark Equals ∷ zero ∷ mark Semicolon ∷ []
closing constant_percent = x ∷ mark Equals ∷ zero ∷ mark Semicolon ∷ []
closing (constant_name y) = mark Equals ∷ zero ∷ mark Semicolon ∷ []
closing (constant_equals y) = zero ∷ mark Semicolon ∷ []
closing namespace_word = x ∷ row_closing
closing (namespace_name y) = row_closing
closing (namespace_paren y) = zero ∷ mark CloseParen ∷ mark Semicolon ∷ []
closing (namespace_percent y) = x ∷ mark CloseParen ∷ mark Semicolon ∷ []
closing (namespace_size y n) = mark CloseParen ∷ mark Semicolon ∷ []
closing pol_word = x ∷ mark Equals ∷ zero ∷ mark Semicolon ∷ []
closing (columns_word k ds) = x ∷ mark Semicolon ∷ []
closing (columns_name k ds y) = mark Semicolon ∷ []
closing (columns_bracket k ds y) = zero ∷ mark CloseBracket ∷ mark Semicolon ∷ []
closing (columns_length k ds y n) = mark CloseBracket ∷ mark Semicolon ∷ []
closing (columns_declared k ds d) = mark Semicolon ∷ []
closing (intermediate_name y) = mark Equals ∷ zero ∷ mark Semicolon ∷ []
closing public_word = x ∷ mark Equals ∷ x ∷ row_closing
closing (public_name y) = mark Equals ∷ x ∷ row_closing
closing (public_equals y) = x ∷ row_closing
closing (public_column y r) = row_closing
closing (public_paren y r) = zero ∷ mark CloseParen ∷ mark Semicolon ∷ []
closing (public_row y r n) = mark CloseParen ∷ mark Semicolon ∷ []
closing (ref_name h y) = holder_closing h
closing (ref_dot h s) = x ∷ holder_closing h
closing (ref_spaced h s y) = holder_closing h
closing (ref_bracket h s y) = zero ∷ mark CloseBracket ∷ holder_closing h
closing (ref_index h s y n) = mark CloseBracket ∷ holder_closing h
closing (ref_indexed h s y n) = holder_closing h
closing (want k n) = zero ∷ factor_closing k
closing (have k e n) = sum_closing k
closing (fact_percent k n) = x ∷ factor_closing k
closing (fact_colon k n) = x ∷ factor_closing k
closing (list_wanted j) = list_closing j
closing (list_brace j f) = list_closing j
closing (first_list l) = joint_closing opening
closing (left_lists ls) = joint_closing (among ls)
closing (right_lists ls rs) = mark Semicolon ∷ []
closing (ending q) = mark Semicolon ∷ []

abbrev pub Closes : Read → Type 0
Closes (Ok ss) = Unit {0}
Closes (Err f) = ⊥

no_star : (k : Around) → NoStar (around_closing k)
no_star leftmost = tt
no_star (right a) = tt
no_star (defining y) = tt
no_star (picked j) = tt
no_star (entry j f i es) = tt
no_star (paren k) = tt

around_follows : (k : Around) → Follows (around_closing k)
around_follows leftmost = tt
around_follows (right a) = tt
around_follows (defining y) = tt
around_follows (picked j) = tt
around_follows (entry j f i es) = tt
around_follows (paren k) = tt

sum_follows : (k : Sum) → Follows (sum_closing k)
sum_follows (first k) = around_follows k
sum_follows (plus a k) = around_follows k
sum_follows (less a k) = around_follows k

factor_follows : (k : Factor) → Follows (factor_closing k)
factor_follows (plain k) = sum_follows k
factor_follows (times a k) = sum_follows k
factor_follows (minus k) = factor_follows k

holder_follows : (h : Holder) → Follows (holder_closing h)
holder_follows (in_fact k n) = factor_follows k
holder_follows (in_filter j) = tt
holder_follows (in_public y) = tt

module _ (m : Limits) (d : List Sentence) where
  joint_ends : (j : Joint) (l : Tuple) → Closes (run m d (listed j l) (joint_closing j))
  joint_ends opening l = tt
  joint_ends (among ls) l = tt
  joint_ends (inside k) l = tt
  joint_ends (against ls rs) l = tt

  list_ends : (j : Joint) → Closes (run m d (list_wanted j) (list_closing j))
  list_ends j = joint_ends j (record { filter = every; at = 0; entries = num (record { value = 0; at = 0 }) ∷ [] })

  brace_ends : (j : Joint) (f : Filter) → Closes (run m d (list_brace j f) (list_closing j))
  brace_ends j f = joint_ends j (record { filter = f; at = 0; entries = num (record { value = 0; at = 0 }) ∷ [] })

  mutual
    around_ends : (k : Around) (e : Term) (n : ℕ) → Closes (run m d (have (first k) e n) (around_closing k))
    around_ends leftmost e n = tt
    around_ends (right a) e n = tt
    around_ends (defining y) e n = tt
    around_ends (picked j) e n = brace_ends j (by_group e)
    around_ends (entry j f i es) e n = joint_ends j (record { filter = f; at = i; entries = es ++ e ∷ [] })
    around_ends (paren k) e n = factor_ends k (group e) n

    sum_ends : (k : Sum) (e : Term) (n : ℕ) → Closes (run m d (have k e n) (sum_closing k))
    sum_ends (first k) e n = around_ends k e n
    sum_ends (plus a k) e n = subst Closes (sym (gathered m d (plus a k) e n (around_closing k) (no_star k))) (around_ends k (a ⊕ e) n)
    sum_ends (less a k) e n = subst Closes (sym (gathered m d (less a k) e n (around_closing k) (no_star k))) (around_ends k (a ⊖ e) n)

    factor_ends : (k : Factor) (e : Term) (n : ℕ) → Closes (run m d (settle k e n) (factor_closing k))
    factor_ends (plain k) e n = sum_ends k e n
    factor_ends (times a k) e n = sum_ends k (a ⊗ e) n
    factor_ends (minus k) e n = factor_ends k (opp e) n

  holder_ends : (h : Holder) (r : Reference) → Closes (run m d (referred h r) (holder_closing h))
  holder_ends (in_fact k n) r = factor_ends k (col r) n
  holder_ends (in_filter j) r = brace_ends j (by_col r)
  holder_ends (in_public y) r = tt

  pub ends : (s : State) → Closes (run m d s (closing s))
  ends between = tt
  ends constant_word = tt
  ends constant_percent = tt
  ends (constant_name y) = tt
  ends (constant_equals y) = tt
  ends namespace_word = tt
  ends (namespace_name y) = tt
  ends (namespace_paren y) = tt
  ends (namespace_percent y) = tt
  ends (namespace_size y n) = tt
  ends pol_word = tt
  ends (columns_word k ds) = tt
  ends (columns_name k ds y) = tt
  ends (columns_bracket k ds y) = tt
  ends (columns_length k ds y n) = tt
  ends (columns_declared k ds c) = tt
  ends (intermediate_name y) = tt
  ends public_word = tt
  ends (public_name y) = tt
  ends (public_equals y) = tt
  ends (public_column y r) = tt
  ends (public_paren y r) = tt
  ends (public_row y r n) = tt
  ends (ref_name h y) = subst Closes (sym (unnamed m d h y (holder_closing h) (holder_follows h))) (holder_ends h (refer None y None None))
  ends (ref_dot h s) = let y : Ident = record { name = 120 ∷ []; at = 0 } in subst Closes (sym (unspaced m d h (Some s) y (holder_closing h) (holder_follows h))) (holder_ends h (refer (Some s) y None None))
  ends (ref_spaced h s y) = subst Closes (sym (unspaced m d h s y (holder_closing h) (holder_follows h))) (holder_ends h (refer s y None None))
  ends (ref_bracket h s y) = let n : Number = record { value = 0; at = 0 } in subst Closes (sym (unindexed m d h s y (Some n) (holder_closing h) (holder_follows h))) (holder_ends h (refer s y (Some n) None))
  ends (ref_index h s y n) = subst Closes (sym (unindexed m d h s y (Some n) (holder_closing h) (holder_follows h))) (holder_ends h (refer s y (Some n) None))
  ends (ref_indexed h s y n) = subst Closes (sym (unindexed m d h s y n (holder_closing h) (holder_follows h))) (holder_ends h (refer s y n None))
  ends (want k n) = factor_ends k (num (record { value = 0; at = 0 })) n
  ends (have k e n) = sum_ends k e n
  ends (fact_percent k n) = factor_ends k (constant (record { name = 120 ∷ []; at = 0 })) n
  ends (fact_colon k n) = factor_ends k (public (record { name = 120 ∷ []; at = 0 })) n
  ends (list_wanted j) = list_ends j
  ends (list_brace j f) = brace_ends j f
  ends (first_list l) = tt
  ends (left_lists ls) = tt
  ends (right_lists ls rs) = tt
  ends (ending q) = tt
