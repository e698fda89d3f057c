-- The numbers of the lines of a text, and what its expressions name.
use Rattle.std.specs.Prelude.{ℕ, ◌+◌, ◌≡◌, ◌==◌, Bool, true, false, ◌&&◌, ◌||◌, not, nat_lt, List, [], ◌∷◌, ◌++◌, Option, Some, None, unwrap_or, take, sum_by, count_by, flat_map}
use Rattle.std.specs.List.{list_all}
use Rattle.pil_ast.specs.Term.{Term, num, col, mid, public, opp, ◌⊕◌, ◌⊖◌, ◌⊗◌, Tuples, Line, constant, inter, identity, lookup, bus, is_line, Namespace, space_at}

-- how many lines the namespaces before the s-th have
abbrev pub lines_before : List Namespace → ℕ → ℕ
lines_before ns s = sum_by (λ n. count_by is_line n.items) (take s ns)

-- the lines of the namespace s are those with these numbers, from 1 on in order of the text
abbrev pub HasLines : List Namespace → ℕ → ℕ → ℕ → Type 0
HasLines ns s first last = (lines_before ns s + 1 ≡ first) × (lines_before ns (s + 1) ≡ last)

abbrev selectors : Option Term → List Term
selectors None = []
selectors (Some e) = e ∷ []

abbrev terms_of_list : Tuples → List Term
terms_of_list a = selectors a.sel ++ a.terms

-- the expressions of an item
abbrev pub terms_of : Line → List Term
terms_of (inter n e) = e ∷ []
terms_of (identity s a b) = a ∷ b ∷ []
terms_of (lookup a b) = terms_of_list a ++ terms_of_list b
terms_of (bus ls rs) = flat_map terms_of_list ls ++ flat_map terms_of_list rs
terms_of _ = []

-- a public stands in an expression
abbrev pub has_public : Term → Bool
has_public (num n) = false
has_public (col s k b) = false
has_public (mid s k b) = false
has_public (public k) = true
has_public (opp a) = has_public a
has_public (a ⊕ b) = has_public a || has_public b
has_public (a ⊖ b) = has_public a || has_public b
has_public (a ⊗ b) = has_public a || has_public b

abbrev pub names_no_public : Line → Bool
names_no_public l = list_all (λ e. not (has_public e)) (terms_of l)

-- the columns of constant polynomials, which are the first of a namespace
abbrev constant_columns : Line → ℕ
constant_columns (constant n len) = unwrap_or len 1
constant_columns _ = 0

-- a constant column of the namespace s, without a mark
abbrev pub is_constant_of : List Namespace → ℕ → Term → Bool
is_constant_of ns s (col m k b) = (m == s) && (nat_lt k (sum_by constant_columns (space_at ns m).items) && not b)
is_constant_of ns s _ = false

-- such columns alone stand on the right of an `in`
abbrev pub looks_in_table : List Namespace → Line → Bool
looks_in_table ns (lookup a b) = list_all (is_constant_of ns b.space) (terms_of_list b)
looks_in_table ns _ = true
