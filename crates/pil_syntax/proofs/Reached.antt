-- What has been read in a state: its tokens, and that it is in the grammar and within the limits.
use Rattle.std.proofs.Common.{◌≡◌, ℕ, ◌+◌, ◌≤◌, List, [], ◌∷◌, ◌++◌, Bool, true, false}
use Rattle.pil_token.specs.declared.token.Word.TheVariants.{Constant, Namespace, Pol, Public, In, Is}
use Rattle.pil_token.specs.declared.token.Mark.TheVariants.{Percent, Equals, OpenParen, OpenBrace, OpenBracket, Comma, Dot, Plus, Minus, Star, Colon}
use Rattle.pil_token.specs.declared.token.Placed.{Placed}
use Rattle.pil_syntax.specs.declared.tree.ColumnKind.{ColumnKind}
use Rattle.pil_syntax.specs.declared.tree.Declaration.{Declaration}
use Rattle.pil_syntax.specs.Tree.{Term, Sentence, constant_is, namespace_of}
use Rattle.pil_syntax.specs.Spelling.{mark, marked, word, name, numeral, space_tokens, index_tokens, ref_tokens, term_tokens, filter_tokens, joined, tuple_tokens, declaration_tokens, kind_word, size_tokens, sentence_tokens}
use Rattle.pil_syntax.specs.Grammar.{Limits, IsOf, expr, term, nesting, operators, IsWhole, IsFilter, EachOf, IsTuple, IsSentence}
use Rattle.pil_syntax.specs.State.{Joint, opening, among, inside, against, Around, Sum, Factor, leftmost, right, defining, picked, entry, paren, first, plus, less, plain, times, minus, around_depth, sum_depth, factor_depth, Holder, in_fact, in_filter, in_public, State, between, constant_word, constant_percent, constant_name, constant_equals, namespace_word, namespace_name, namespace_paren, namespace_percent, namespace_size, pol_word, columns_word, columns_name, columns_bracket, columns_length, columns_declared, intermediate_name, public_word, public_name, public_equals, public_column, public_paren, public_row, ref_name, ref_dot, ref_spaced, ref_bracket, ref_index, ref_indexed, want, have, fact_percent, fact_colon, list_wanted, list_brace, first_list, left_lists, right_lists, ending}
use Rattle.pil_syntax.proofs.Lists.{followed, AllOf}

-- the tokens of the line before a list
abbrev pub joint_tokens : Joint → List Placed
joint_tokens opening = []
joint_tokens (among ls) = followed Plus tuple_tokens ls
joint_tokens (inside l) = tuple_tokens l ++ word In ∷ []
joint_tokens (against ls rs) = joined Plus tuple_tokens ls ++ (word Is ∷ followed Plus tuple_tokens rs)

abbrev mutual
  pub around_tokens : Around → List Placed
  around_tokens leftmost = []
  around_tokens (right a) = term_tokens a ++ mark Equals ∷ []
  around_tokens (defining x) = word Pol ∷ name x ∷ mark Equals ∷ []
  around_tokens (picked j) = joint_tokens j ++ mark OpenParen ∷ []
  around_tokens (entry j f i es) = joint_tokens j ++ (filter_tokens f ++ (marked OpenBrace i ∷ followed Comma term_tokens es))
  around_tokens (paren k) = factor_tokens k ++ mark OpenParen ∷ []

  pub sum_tokens : Sum → List Placed
  sum_tokens (first k) = around_tokens k
  sum_tokens (plus a k) = around_tokens k ++ (term_tokens a ++ mark Plus ∷ [])
  sum_tokens (less a k) = around_tokens k ++ (term_tokens a ++ mark Minus ∷ [])

  pub factor_tokens : Factor → List Placed
  factor_tokens (plain k) = sum_tokens k
  factor_tokens (times a k) = sum_tokens k ++ (term_tokens a ++ mark Star ∷ [])
  factor_tokens (minus k) = factor_tokens k ++ mark Minus ∷ []

abbrev pub holder_tokens : Holder → List Placed
holder_tokens (in_fact k n) = factor_tokens k
holder_tokens (in_filter j) = joint_tokens j
holder_tokens (in_public x) = word Public ∷ name x ∷ mark Equals ∷ []

abbrev pub columns_tokens : ColumnKind → List Declaration → List Placed → List Placed
columns_tokens k ds us = word Pol ∷ word (kind_word k) ∷ (followed Comma declaration_tokens ds ++ us)

-- the tokens of the statement so far
abbrev pub state_tokens : State → List Placed
state_tokens between = []
state_tokens constant_word = word Constant ∷ []
state_tokens constant_percent = word Constant ∷ mark Percent ∷ []
state_tokens (constant_name x) = word Constant ∷ mark Percent ∷ name x ∷ []
state_tokens (constant_equals x) = word Constant ∷ mark Percent ∷ name x ∷ mark Equals ∷ []
state_tokens namespace_word = word Namespace ∷ []
state_tokens (namespace_name x) = word Namespace ∷ name x ∷ []
state_tokens (namespace_paren x) = word Namespace ∷ name x ∷ mark OpenParen ∷ []
state_tokens (namespace_percent x) = word Namespace ∷ name x ∷ mark OpenParen ∷ mark Percent ∷ []
state_tokens (namespace_size x n) = word Namespace ∷ name x ∷ mark OpenParen ∷ size_tokens n
state_tokens pol_word = word Pol ∷ []
state_tokens (columns_word k ds) = columns_tokens k ds []
state_tokens (columns_name k ds x) = columns_tokens k ds (name x ∷ [])
state_tokens (columns_bracket k ds x) = columns_tokens k ds (name x ∷ mark OpenBracket ∷ [])
state_tokens (columns_length k ds x n) = columns_tokens k ds (name x ∷ mark OpenBracket ∷ numeral n ∷ [])
state_tokens (columns_declared k ds d) = columns_tokens k ds (declaration_tokens d)
state_tokens (intermediate_name x) = word Pol ∷ name x ∷ []
state_tokens public_word = word Public ∷ []
state_tokens (public_name x) = word Public ∷ name x ∷ []
state_tokens (public_equals x) = word Public ∷ name x ∷ mark Equals ∷ []
state_tokens (public_column x r) = word Public ∷ name x ∷ mark Equals ∷ ref_tokens r
state_tokens (public_paren x r) = word Public ∷ name x ∷ mark Equals ∷ (ref_tokens r ++ mark OpenParen ∷ [])
state_tokens (public_row x r n) = word Public ∷ name x ∷ mark Equals ∷ (ref_tokens r ++ mark OpenParen ∷ numeral n ∷ [])
state_tokens (ref_name h x) = holder_tokens h ++ name x ∷ []
state_tokens (ref_dot h x) = holder_tokens h ++ name x ∷ mark Dot ∷ []
state_tokens (ref_spaced h s x) = holder_tokens h ++ (space_tokens s ++ name x ∷ [])
state_tokens (ref_bracket h s x) = holder_tokens h ++ (space_tokens s ++ name x ∷ mark OpenBracket ∷ [])
state_tokens (ref_index h s x n) = holder_tokens h ++ (space_tokens s ++ name x ∷ mark OpenBracket ∷ numeral n ∷ [])
state_tokens (ref_indexed h s x n) = holder_tokens h ++ (space_tokens s ++ name x ∷ index_tokens n)
state_tokens (want k n) = factor_tokens k
state_tokens (have k e n) = sum_tokens k ++ term_tokens e
state_tokens (fact_percent k n) = factor_tokens k ++ mark Percent ∷ []
state_tokens (fact_colon k n) = factor_tokens k ++ mark Colon ∷ []
state_tokens (list_wanted j) = joint_tokens j
state_tokens (list_brace j f) = joint_tokens j ++ filter_tokens f
state_tokens (first_list l) = tuple_tokens l
state_tokens (left_lists ls) = joined Plus tuple_tokens ls
state_tokens (right_lists ls rs) = joined Plus tuple_tokens ls ++ (word Is ∷ joined Plus tuple_tokens rs)
state_tokens (ending q) = sentence_tokens q

-- the operators of this expression so far
abbrev mutual
  pub around_operators : Around → ℕ
  around_operators leftmost = 0
  around_operators (right a) = 0
  around_operators (defining x) = 0
  around_operators (picked j) = 0
  around_operators (entry j f i es) = 0
  around_operators (paren k) = factor_operators k

  pub sum_operators : Sum → ℕ
  sum_operators (first k) = around_operators k
  sum_operators (plus a k) = around_operators k + operators a + 1
  sum_operators (less a k) = around_operators k + operators a + 1

  pub factor_operators : Factor → ℕ
  factor_operators (plain k) = sum_operators k
  factor_operators (times a k) = sum_operators k + operators a + 1
  factor_operators (minus k) = factor_operators k

abbrev pub IsJoint : Limits → Joint → Type 0
IsJoint m opening = Unit {0}
IsJoint m (among ls) = AllOf (IsTuple m) ls
IsJoint m (inside l) = IsTuple m l
IsJoint m (against ls rs) = EachOf (IsTuple m) ls × AllOf (IsTuple m) rs

-- what stands open is in the grammar and within the limits
abbrev mutual
  pub IsAround : Limits → Around → Type 0
  IsAround m leftmost = Unit {0}
  IsAround m (right a) = IsWhole m a
  IsAround m (defining x) = Unit {0}
  IsAround m (picked j) = (1 ≤ m.nested) × IsJoint m j
  IsAround m (entry j f i es) = IsJoint m j × IsFilter m f × AllOf (IsWhole m) es
  IsAround m (paren k) = (factor_depth k + 1 ≤ m.nested) × IsFactor m k

  pub IsSum : Limits → Sum → Type 0
  IsSum m (first k) = IsAround m k
  IsSum m (plus a k) = IsOf expr a × (nesting a + around_depth k ≤ m.nested) × IsAround m k
  IsSum m (less a k) = IsOf expr a × (nesting a + around_depth k ≤ m.nested) × IsAround m k

  pub IsFactor : Limits → Factor → Type 0
  IsFactor m (plain k) = IsSum m k
  IsFactor m (times a k) = IsOf term a × (nesting a + sum_depth k ≤ m.nested) × IsSum m k
  IsFactor m (minus k) = (factor_depth k + 1 ≤ m.nested) × IsFactor m k

pub record IsWanted (m : Limits) (k : Factor) (n : ℕ) : Type 0 where
  pub around : IsFactor m k
  pub count : factor_operators k ≡ n
  pub few : n ≤ m.operators

pub record IsHad (m : Limits) (k : Sum) (e : Term) (n : ℕ) : Type 0 where
  pub around : IsSum m k
  pub level : IsOf term e
  pub nested : nesting e + sum_depth k ≤ m.nested
  pub count : sum_operators k + operators e ≡ n
  pub few : n ≤ m.operators

abbrev pub IsHolder : Limits → Holder → Type 0
IsHolder m (in_fact k n) = IsWanted m k n
IsHolder m (in_filter j) = IsJoint m j
IsHolder m (in_public x) = Unit {0}

abbrev pub IsState : Limits → State → Type 0
IsState m (ref_name h x) = IsHolder m h
IsState m (ref_dot h x) = IsHolder m h
IsState m (ref_spaced h s x) = IsHolder m h
IsState m (ref_bracket h s x) = IsHolder m h
IsState m (ref_index h s x n) = IsHolder m h
IsState m (ref_indexed h s x n) = IsHolder m h
IsState m (want k n) = IsWanted m k n
IsState m (have k e n) = IsHad m k e n
IsState m (fact_percent k n) = IsWanted m k n
IsState m (fact_colon k n) = IsWanted m k n
IsState m (list_wanted j) = IsJoint m j
IsState m (list_brace j f) = IsJoint m j × IsFilter m f
IsState m (first_list l) = IsTuple m l
IsState m (left_lists ls) = EachOf (IsTuple m) ls
IsState m (right_lists ls rs) = EachOf (IsTuple m) ls × EachOf (IsTuple m) rs
IsState m (ending q) = IsSentence m q
IsState m _ = Unit {0}

-- whether a state, or a statement, needs a namespace before it
abbrev pub sentence_needs : Sentence → Bool
sentence_needs (constant_is x n) = false
sentence_needs (namespace_of x n) = false
sentence_needs _ = true

abbrev pub needs : State → Bool
needs between = false
needs constant_word = false
needs constant_percent = false
needs (constant_name x) = false
needs (constant_equals x) = false
needs namespace_word = false
needs (namespace_name x) = false
needs (namespace_paren x) = false
needs (namespace_percent x) = false
needs (namespace_size x n) = false
needs (ending q) = sentence_needs q
needs _ = true

abbrev pub AllowedBy : Bool → Bool → Type 0
AllowedBy b true = b ≡ true
AllowedBy b false = Unit {0}
