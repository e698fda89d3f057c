-- What has been read of a file at a place in it: the states of a reader that takes a token at a time.
use Rattle.std.specs.Prelude.{ℕ, ◌+◌, List, [], ◌∷◌, ◌++◌, Option}
use Rattle.pil_syntax.specs.declared.tree.Ident.{Ident}
use Rattle.pil_syntax.specs.declared.tree.Number.{Number}
use Rattle.pil_syntax.specs.declared.tree.Reference.{Reference}
use Rattle.pil_syntax.specs.declared.tree.Declaration.{Declaration}
use Rattle.pil_syntax.specs.declared.tree.ColumnKind.{ColumnKind}
use Rattle.pil_syntax.specs.declared.tree.Size.{Size}
use Rattle.pil_syntax.specs.Tree.{Term, col, opp, ◌⊕◌, ◌⊖◌, ◌⊗◌, Filter, by_col, Tuple, Sentence, lookup}

-- where a list stands in its line
pub data Joint : Type 0 where
  opening : Joint  -- at the line's start
  among : List Tuple → Joint  -- behind these and a `+`
  inside : Tuple → Joint  -- behind this and `in`
  against : List Tuple → List Tuple → Joint  -- behind the left side and `is`, and behind these and a `+`

-- what stands open around an expression, around a term and around a fact
mutual
  pub data Around : Type 0 where
    leftmost : Around  -- at a line's start
    right : Term → Around  -- behind the `=` of an identity
    defining : Ident → Around  -- behind the `=` of an intermediate
    picked : Joint → Around  -- in the parenthesis of a later list's selector
    entry : Joint → Filter → ℕ → List Term → Around  -- in a list, behind these
    paren : Factor → Around

  pub data Sum : Type 0 where
    first : Around → Sum
    plus : Term → Around → Sum
    less : Term → Around → Sum

  pub data Factor : Type 0 where
    plain : Sum → Factor
    times : Term → Sum → Factor
    minus : Factor → Factor

-- how many parentheses and prefix minuses stand open
abbrev mutual
  pub around_depth : Around → ℕ
  around_depth leftmost = 0
  around_depth (right a) = 0
  around_depth (defining x) = 0
  around_depth (picked j) = 1
  around_depth (entry j f i es) = 0
  around_depth (paren k) = factor_depth k + 1

  pub sum_depth : Sum → ℕ
  sum_depth (first k) = around_depth k
  sum_depth (plus a k) = around_depth k
  sum_depth (less a k) = around_depth k

  pub factor_depth : Factor → ℕ
  factor_depth (plain k) = sum_depth k
  factor_depth (times a k) = sum_depth k
  factor_depth (minus k) = factor_depth k + 1

-- what a reference is read for; of an expression beside it the operators so far
pub data Holder : Type 0 where
  in_fact : Factor → ℕ → Holder
  in_filter : Joint → Holder
  in_public : Ident → Holder

pub data State : Type 0 where
  between : State  -- a statement, or the end
  constant_word : State  -- constant
  constant_percent : State  -- constant %
  constant_name : Ident → State  -- constant %x
  constant_equals : Ident → State  -- constant %x =
  namespace_word : State  -- namespace
  namespace_name : Ident → State  -- namespace x
  namespace_paren : Ident → State  -- namespace x(
  namespace_percent : Ident → State  -- namespace x(%
  namespace_size : Ident → Size → State  -- namespace x(n
  pol_word : State  -- pol
  columns_word : ColumnKind → List Declaration → State  -- pol commit .. ,
  columns_name : ColumnKind → List Declaration → Ident → State  -- pol commit .. , x
  columns_bracket : ColumnKind → List Declaration → Ident → State  -- pol commit .. , x[
  columns_length : ColumnKind → List Declaration → Ident → Number → State  -- pol commit .. , x[n
  columns_declared : ColumnKind → List Declaration → Declaration → State  -- pol commit .. , x[n]
  intermediate_name : Ident → State  -- pol x
  public_word : State  -- public
  public_name : Ident → State  -- public x
  public_equals : Ident → State  -- public x =
  public_column : Ident → Reference → State  -- public x = r
  public_paren : Ident → Reference → State  -- public x = r(
  public_row : Ident → Reference → Number → State  -- public x = r(n
  ref_name : Holder → Ident → State  -- x
  ref_dot : Holder → Ident → State  -- x.
  ref_spaced : Holder → Option Ident → Ident → State  -- x.y
  ref_bracket : Holder → Option Ident → Ident → State  -- x.y[
  ref_index : Holder → Option Ident → Ident → Number → State  -- x.y[n
  ref_indexed : Holder → Option Ident → Ident → Option Number → State  -- x.y[n]
  want : Factor → ℕ → State  -- a fact is wanted
  have : Sum → Term → ℕ → State  -- a term is read
  fact_percent : Factor → ℕ → State  -- %
  fact_colon : Factor → ℕ → State  -- :
  list_wanted : Joint → State
  list_brace : Joint → Filter → State  -- a selector is read
  first_list : Tuple → State  -- a line's first list is read
  left_lists : List Tuple → State  -- two or more are read
  right_lists : List Tuple → List Tuple → State  -- and behind `is` these
  ending : Sentence → State  -- a statement is read up to its `;`

-- the state with this fact read
abbrev pub settle : Factor → Term → ℕ → State
settle (plain k) e n = have k e n
settle (times a k) e n = have k (a ⊗ e) n
settle (minus k) e n = settle k (opp e) n

abbrev pub outer : Sum → Around
outer (first k) = k
outer (plus a k) = k
outer (less a k) = k

abbrev pub added : Sum → Term → Term
added (first k) e = e
added (plus a k) e = a ⊕ e
added (less a k) e = a ⊖ e

-- the state with this reference read
abbrev pub referred : Holder → Reference → State
referred (in_fact k n) r = settle k (col r) n
referred (in_filter j) r = list_brace j (by_col r)
referred (in_public x) r = public_column x r

-- the state with this list read
abbrev pub listed : Joint → Tuple → State
listed opening l = first_list l
listed (among ls) l = left_lists (ls ++ l ∷ [])
listed (inside k) l = ending (lookup k l)
listed (against ls rs) l = right_lists ls (rs ++ l ∷ [])

-- the state in which a list's entry is wanted, behind these
abbrev pub entering : Joint → Filter → ℕ → List Term → State
entering j f i es = want (plain (first (entry j f i es))) 0
