-- The places at which a text breaks a rule of names, sizes and widths (docs/PIL.md, "Refusals"). Each rule
-- is tested over the whole text, whatever else is wrong in it.
use Rattle.std.specs.Prelude.{ℕ, ◌+◌, ◌^◌, List, [], ◌∷◌, ◌++◌, map, flat_map, length, Bool, true, false, Option, Some, None, is_none, is_some, unwrap_or, bytes_eq, nat_lt, nat_le, nat_eq, if◌then◌else◌, ◌&&◌}
use Rattle.pil_syntax.specs.declared.tree.Ident.{Ident}
use Rattle.pil_syntax.specs.declared.tree.Number.{Number}
use Rattle.pil_syntax.specs.declared.tree.Reference.{Reference}
use Rattle.pil_syntax.specs.declared.tree.Size.{Size}
use Rattle.pil_syntax.specs.declared.tree.Size.TheVariants as sizes
use Rattle.pil_syntax.specs.Tree.{Term, num, col, constant, public, opp, group, ◌⊕◌, ◌⊖◌, ◌⊗◌, Filter, every, by_col, by_group, Tuple}
use Rattle.pil_names.specs.Outline.{Draft, column, defined, published, equal, inside, against, Outline, home_at, draft_at, constant_at}
use Rattle.pil_names.specs.Finding.{Entry, found, constant_entries, home_entries, public_entries, polynomial_entries, home_named, item_named}

-- what f gives for each element and its number, from n on
abbrev pub each_from : {A : Type 0} → {B : Type 0} → (ℕ → A → List B) → ℕ → List A → List B
each_from f n [] = []
each_from f n (x ∷ xs) = f n x ++ each_from f (n + 1) xs

-- what f gives for each item, with the number of its namespace
abbrev pub each_item : (ℕ → Draft → List ℕ) → Outline → List ℕ
each_item f o = each_from (λ s h. flat_map (f s) h.items) 0 o.homes

-- the place, unless the rule is kept
abbrev pub unless : Bool → ℕ → List ℕ
unless true at = []
unless false at = at ∷ []

-- what P gives for each reference, C for each constant and G for each public of an expression
abbrev pub each_name : (Reference → List ℕ) → (Ident → List ℕ) → (Ident → List ℕ) → Term → List ℕ
each_name P C G (num n) = []
each_name P C G (col r) = P r
each_name P C G (constant x) = C x
each_name P C G (public x) = G x
each_name P C G (opp a) = each_name P C G a
each_name P C G (group a) = each_name P C G a
each_name P C G (a ⊕ b) = each_name P C G a ++ each_name P C G b
each_name P C G (a ⊖ b) = each_name P C G a ++ each_name P C G b
each_name P C G (a ⊗ b) = each_name P C G a ++ each_name P C G b

-- the selector's expression, where there is one
abbrev pub selectors_of : Filter → List Term
selectors_of every = []
selectors_of (by_col r) = col r ∷ []
selectors_of (by_group e) = e ∷ []

-- the expressions of a list, its selector's first
abbrev pub terms_of_list : Tuple → List Term
terms_of_list l = selectors_of l.filter ++ l.entries

-- the expressions of an item
abbrev pub terms_of : Draft → List Term
terms_of (column k d) = []
terms_of (defined x e) = e ∷ []
terms_of (published x r n) = []
terms_of (equal a b) = a ∷ b ∷ []
terms_of (inside a b) = terms_of_list a ++ terms_of_list b
terms_of (against ls rs) = flat_map terms_of_list ls ++ flat_map terms_of_list rs

-- Repeated: a name stands among the earlier ones of its kind

abbrev pub stands : List ℕ → List Ident → Bool
stands x [] = false
stands x (y ∷ ys) = if bytes_eq y.name x then true else stands x ys

abbrev pub repeats : List Ident → List Ident → List ℕ
repeats before [] = []
repeats before (x ∷ xs) = (if stands x.name before then x.at ∷ [] else []) ++ repeats (before ++ x ∷ []) xs

abbrev pub repeated_among : List Entry → List ℕ
repeated_among es = repeats [] (map (λ e. e.name) es)

abbrev pub repeated : Outline → List ℕ
repeated o = repeated_among (constant_entries o) ++ (repeated_among (home_entries o) ++ (repeated_among (public_entries o) ++ flat_map (λ h. repeated_among (polynomial_entries h)) o.homes))

-- UnknownName: a name isn't declared, or a constant not yet; an index isn't below the length; an array
-- stands without index, or another polynomial with one; a public names an intermediate or has a mark

-- a constant is declared at a lesser place
abbrev pub is_before : Outline → ℕ → Option ℕ → Bool
is_before o at None = false
is_before o at (Some k) = nat_lt (constant_at o.constants k).name.at at

abbrev pub unknown_constant : Outline → Ident → List ℕ
unknown_constant o x = unless (is_before o x.at (found x.name (constant_entries o))) x.at

abbrev pub unknown_public : Outline → Ident → List ℕ
unknown_public o x = unless (is_some (found x.name (public_entries o))) x.at

-- an index for a polynomial of this length, whose name is at this place
abbrev pub unknown_index : ℕ → Option Number → Option Number → List ℕ
unknown_index at None None = []
unknown_index at None (Some i) = at ∷ []
unknown_index at (Some n) None = at ∷ []
unknown_index at (Some n) (Some i) = unless (nat_lt i.value n.value) i.at

abbrev pub length_of : Draft → Option Number
length_of (column k d) = d.length
length_of _ = None

abbrev pub unknown_in_item : Reference → List Draft → Option ℕ → List ℕ
unknown_in_item r ds None = r.name.at ∷ []
unknown_in_item r ds (Some k) = unknown_index r.name.at (length_of (draft_at ds k)) r.index

-- the place of the namespace that a reference names
abbrev pub space_place : Option Ident → List ℕ
space_place None = []
space_place (Some x) = x.at ∷ []

abbrev pub unknown_in_home : Outline → Reference → Option ℕ → List ℕ
unknown_in_home o r None = space_place r.space
unknown_in_home o r (Some m) = unknown_in_item r (home_at o.homes m).items (item_named o m r)

-- a reference from the namespace s
abbrev pub unknown_reference : Outline → ℕ → Reference → List ℕ
unknown_reference o s r = unknown_in_home o r (home_named o s r.space)

abbrev pub is_column : Draft → Bool
is_column (column k d) = true
is_column _ = false

-- what a public may name: a constant or committed polynomial without a mark; what isn't declared is
-- named by the rule before
abbrev pub is_public_item : List Draft → Option ℕ → Bool
is_public_item ds None = true
is_public_item ds (Some k) = is_column (draft_at ds k)

abbrev pub is_public_in : Outline → Reference → Option ℕ → Bool
is_public_in o r None = true
is_public_in o r (Some m) = is_public_item (home_at o.homes m).items (item_named o m r)

abbrev pub unknown_published : Outline → ℕ → Reference → List ℕ
unknown_published o s r = unless (is_none r.next && is_public_in o r (home_named o s r.space)) r.name.at

abbrev pub unknown_in_size : Outline → Size → List ℕ
unknown_in_size o (sizes.Number n) = []
unknown_in_size o (sizes.Constant x) = unknown_constant o x

abbrev pub unknown_in_term : Outline → ℕ → Term → List ℕ
unknown_in_term o s e = each_name (unknown_reference o s) (unknown_constant o) (unknown_public o) e

abbrev pub unknown_in_public : Outline → ℕ → Draft → List ℕ
unknown_in_public o s (published x r n) = unknown_reference o s r ++ unknown_published o s r
unknown_in_public o s _ = []

abbrev pub unknown_in_draft : Outline → ℕ → Draft → List ℕ
unknown_in_draft o s d = unknown_in_public o s d ++ flat_map (unknown_in_term o s) (terms_of d)

abbrev pub unknown : Outline → List ℕ
unknown o = flat_map (λ h. unknown_in_size o h.size) o.homes ++ each_item (unknown_in_draft o) o

-- BadRow: a namespace has no rows or more than 2^24; a public's row isn't below those of its polynomial

abbrev pub value_of_constant : Outline → Option ℕ → ℕ
value_of_constant o None = 0
value_of_constant o (Some k) = (constant_at o.constants k).value.value

-- the number that a `%name` stands for
abbrev pub constant_value : Outline → Ident → ℕ
constant_value o x = value_of_constant o (found x.name (constant_entries o))

abbrev pub rows_of : Outline → Size → ℕ
rows_of o (sizes.Number n) = n.value
rows_of o (sizes.Constant x) = constant_value o x

abbrev pub size_place : Size → ℕ
size_place (sizes.Number n) = n.at
size_place (sizes.Constant x) = x.at

abbrev pub bad_size : Outline → Size → List ℕ
bad_size o n = unless (nat_lt 0 (rows_of o n) && nat_le (rows_of o n) (2 ^ 24)) (size_place n)

abbrev pub bad_public_row : Outline → Number → Option ℕ → List ℕ
bad_public_row o n None = []
bad_public_row o n (Some m) = unless (nat_lt n.value (rows_of o (home_at o.homes m).size)) n.at

abbrev pub bad_row_of_draft : Outline → ℕ → Draft → List ℕ
bad_row_of_draft o s (published x r n) = bad_public_row o n (home_named o s r.space)
bad_row_of_draft o s _ = []

abbrev pub bad_rows : Outline → List ℕ
bad_rows o = flat_map (λ h. bad_size o h.size) o.homes ++ each_item (bad_row_of_draft o) o

-- Mixed: a polynomial of another namespace than the first of its identity or list, or than the one in
-- which an intermediate stands

abbrev pub references : Term → List Reference
references (num n) = []
references (col r) = r ∷ []
references (constant x) = []
references (public x) = []
references (opp a) = references a
references (group a) = references a
references (a ⊕ b) = references a ++ references b
references (a ⊖ b) = references a ++ references b
references (a ⊗ b) = references a ++ references b

-- the namespace of a polynomial, or s where it is in none
abbrev pub home_or : Outline → ℕ → Reference → ℕ
home_or o s r = unwrap_or (home_named o s r.space) s

abbrev pub first_home : Outline → ℕ → List Reference → Option ℕ
first_home o s [] = None
first_home o s (r ∷ rs) = Some (home_or o s r)

-- the namespace of the first polynomial, or s where there is none
abbrev pub home_of_terms : Outline → ℕ → List Term → ℕ
home_of_terms o s es = unwrap_or (first_home o s (flat_map references es)) s

-- the polynomials of another namespace than m, in what stands in the namespace s
abbrev pub stray : Outline → ℕ → ℕ → Reference → List ℕ
stray o s m r = unless (nat_eq (home_or o s r) m) r.name.at

abbrev pub strays : Outline → ℕ → ℕ → List Term → List ℕ
strays o s m es = flat_map (stray o s m) (flat_map references es)

-- what stands in one identity or list is of one namespace
abbrev pub mixed_in : Outline → ℕ → List Term → List ℕ
mixed_in o s es = strays o s (home_of_terms o s es) es

abbrev pub mixed_in_draft : Outline → ℕ → Draft → List ℕ
mixed_in_draft o s (column k d) = []
mixed_in_draft o s (defined x e) = strays o s s (e ∷ [])
mixed_in_draft o s (published x r n) = []
mixed_in_draft o s (equal a b) = mixed_in o s (a ∷ b ∷ [])
mixed_in_draft o s (inside a b) = mixed_in o s (terms_of_list a) ++ mixed_in o s (terms_of_list b)
mixed_in_draft o s (against ls rs) = flat_map (λ l. mixed_in o s (terms_of_list l)) ls ++ flat_map (λ l. mixed_in o s (terms_of_list l)) rs

abbrev pub mixed : Outline → List ℕ
mixed o = each_item (mixed_in_draft o) o

-- WrongWidth: an array's length is 0 or above 4,096; a list has another number of expressions than the
-- first of its line

abbrev pub wrong_length : Option Number → List ℕ
wrong_length None = []
wrong_length (Some n) = unless (nat_lt 0 n.value && nat_le n.value 4096) n.at

abbrev pub other_width : ℕ → Tuple → List ℕ
other_width n l = unless (nat_eq (length l.entries) n) l.at

abbrev pub other_widths : ℕ → List Tuple → List ℕ
other_widths n ls = flat_map (other_width n) ls

abbrev pub width_of_first : List Tuple → ℕ
width_of_first [] = 0
width_of_first (l ∷ ls) = length l.entries

abbrev pub wrong_widths_of : Draft → List ℕ
wrong_widths_of (column k d) = wrong_length d.length
wrong_widths_of (inside a b) = other_width (length a.entries) b
wrong_widths_of (against ls rs) = other_widths (width_of_first ls) ls ++ other_widths (width_of_first ls) rs
wrong_widths_of _ = []

abbrev pub wrong_widths : Outline → List ℕ
wrong_widths o = each_item (λ s d. wrong_widths_of d) o
