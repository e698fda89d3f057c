-- What a text means: its names are replaced by numbers (docs/PIL.md, "Names" and "Meaning"). It is a function of
-- every text, also of one that is refused.
use Rattle.std.specs.Prelude.{ℕ, ◌+◌, List, [], ◌∷◌, map, take, sum_by, Bool, Option, Some, None, is_some, unwrap_or, option_map}
use Rattle.pil_syntax.specs.declared.tree.Number.{Number}
use Rattle.pil_syntax.specs.declared.tree.Reference.{Reference}
use Rattle.pil_syntax.specs.declared.tree.ColumnKind.{ColumnKind}
use Rattle.pil_syntax.specs.declared.tree.ColumnKind.TheVariants.{Constant, Commit}
use Rattle.pil_syntax.specs.Tree.{Term, num, col, constant, public, opp, group, ◌⊕◌, ◌⊖◌, ◌⊗◌, Filter, every, by_col, by_group, Tuple}
use Rattle.pil_ast.specs.Term as ast
use Rattle.pil_names.specs.Outline.{Draft, column, defined, published, equal, inside, against, Home, Outline, home_at, draft_at}
use Rattle.pil_names.specs.Finding.{found, public_entries, home_named, item_named}
use Rattle.pil_names.specs.Wrongs.{terms_of_list, home_of_terms, rows_of, constant_value}

-- the columns that an item declares, of constant polynomials and of committed ones
abbrev pub length_or_one : Option Number → ℕ
length_or_one None = 1
length_or_one (Some n) = n.value

abbrev pub constant_columns : Draft → ℕ
constant_columns (column Constant d) = length_or_one d.length
constant_columns _ = 0

abbrev pub committed_columns : Draft → ℕ
committed_columns (column Commit d) = length_or_one d.length
committed_columns _ = 0

-- the number of the first column of the item k: the constants of a namespace are counted first, then the
-- committed ones
abbrev pub start_of_kind : ColumnKind → List Draft → ℕ → ℕ
start_of_kind Constant ds k = sum_by constant_columns (take k ds)
start_of_kind Commit ds k = sum_by constant_columns ds + sum_by committed_columns (take k ds)

abbrev pub number_or_zero : Option Number → ℕ
number_or_zero None = 0
number_or_zero (Some n) = n.value

-- what a reference stands for that names this item of the namespace m
abbrev pub named_item : ℕ → List Draft → ℕ → Draft → Option Number → Bool → ast.Term
named_item m ds k (column c d) i b = ast.col m (start_of_kind c ds k + number_or_zero i) b
named_item m ds k _ i b = ast.mid m k b

abbrev pub read_in : Outline → ℕ → Reference → Option ℕ → ast.Term
read_in o m r None = ast.num 0
read_in o m r (Some k) = named_item m (home_at o.homes m).items k (draft_at (home_at o.homes m).items k) r.index (is_some r.next)

-- a reference from the namespace s
abbrev pub read_reference : Outline → ℕ → Reference → ast.Term
read_reference o s r = read_in o (unwrap_or (home_named o s r.space) s) r (item_named o (unwrap_or (home_named o s r.space) s) r)

abbrev pub read_term : Outline → ℕ → Term → ast.Term
read_term o s (num n) = ast.num n.value
read_term o s (col r) = read_reference o s r
read_term o s (constant x) = ast.num (constant_value o x)
read_term o s (public x) = ast.public (unwrap_or (found x.name (public_entries o)) 0)
read_term o s (opp a) = ast.opp (read_term o s a)
read_term o s (group a) = read_term o s a
read_term o s (a ⊕ b) = ast.◌⊕◌ (read_term o s a) (read_term o s b)
read_term o s (a ⊖ b) = ast.◌⊖◌ (read_term o s a) (read_term o s b)
read_term o s (a ⊗ b) = ast.◌⊗◌ (read_term o s a) (read_term o s b)

abbrev pub read_filter : Outline → ℕ → Filter → Option ast.Term
read_filter o s every = None
read_filter o s (by_col r) = Some (read_reference o s r)
read_filter o s (by_group e) = Some (read_term o s e)

-- a list is over the namespace of its first polynomial
abbrev pub read_tuple : Outline → ℕ → Tuple → ast.Tuples
read_tuple o s l = record { space = home_of_terms o s (terms_of_list l); sel = read_filter o s l.filter; terms = map (read_term o s) l.entries }

abbrev pub length_number : Option Number → Option ℕ
length_number n = option_map (λ m. m.value) n

-- the column that a public names: the reads of one that names an intermediate is refused
abbrev pub column_number : ast.Term → ℕ
column_number (ast.col s k b) = k
column_number _ = 0

abbrev pub read_draft : Outline → ℕ → Draft → ast.Line
read_draft o s (column Constant d) = ast.constant d.name.name (length_number d.length)
read_draft o s (column Commit d) = ast.commit d.name.name (length_number d.length)
read_draft o s (defined x e) = ast.inter x.name (read_term o s e)
read_draft o s (published x r n) = ast.published x.name (unwrap_or (home_named o s r.space) s) (column_number (read_reference o s r)) n.value
read_draft o s (equal a b) = ast.identity (home_of_terms o s (a ∷ b ∷ [])) (read_term o s a) (read_term o s b)
read_draft o s (inside a b) = ast.lookup (read_tuple o s a) (read_tuple o s b)
read_draft o s (against ls rs) = ast.bus (map (read_tuple o s) ls) (map (read_tuple o s) rs)

abbrev pub read_home : Outline → ℕ → Home → ast.Namespace
read_home o s h = record { name = h.name.name; rows = rows_of o h.size; items = map (read_draft o s) h.items }

abbrev pub read_homes : Outline → ℕ → List Home → List ast.Namespace
read_homes o n [] = []
read_homes o n (h ∷ hs) = read_home o n h ∷ read_homes o (n + 1) hs

abbrev pub meaning : Outline → List ast.Namespace
meaning o = read_homes o 0 o.homes
