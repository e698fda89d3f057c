-- What a line says of all rows of all instances (docs/PIL.md, "Lines").
use Rattle.std.specs.Prelude.{ℕ, ◌<◌, ◌≡◌, ◌≢◌, ◌==◌, Bool, true, not, cond, List, [], ◌∷◌, Option, Some, None, map, flat_map, count_by, filter, bytes_eq}
use Rattle.std.specs.List.{range_with_len}
use Rattle.pil_ast.specs.Term.{Term, Tuples, Line, identity, lookup, bus, Namespace, item_at, is_line, space_at}
use Rattle.pil_ast.specs.Columns.{Columns}
use Rattle.pil_ast.specs.Value.{Cells, value, value_in, around}

-- the lines in order of the text; line 1 is the first
abbrev pub lines : List Namespace → List Line
lines ns = flat_map (λ n. filter is_line n.items) ns

-- whether a row that reads these cells is selected, where a namespace has these items: its selector isn't 0
abbrev pub chosen : List Line → Cells → Option Term → Bool
chosen items x None = true
chosen items x (Some e) = not (value items x e == 0)

-- whether row r of instance i of the namespace s is selected
abbrev pub selected : List Namespace → Columns → ℕ → ℕ → ℕ → Option Term → Bool
selected ns c s i r sel = chosen (space_at ns s).items (around ns c s i r) sel

-- the tuple of a row
abbrev pub tuple : List Namespace → Columns → ℕ → ℕ → ℕ → List Term → List ℕ
tuple ns c s i r es = map (value_in ns c s i r) es

-- what a row sends: its tuple, or nothing where it isn't selected
abbrev pub row_sent : List Namespace → Columns → Tuples → ℕ → ℕ → List (List ℕ)
row_sent ns c a i r = cond (selected ns c a.space i r a.sel) (tuple ns c a.space i r a.terms ∷ []) []

-- what f gives for each row below n of each instance below m, by instance, then row
abbrev pub by_rows : {X : Type 0} → (ℕ → ℕ → List X) → ℕ → ℕ → List X
by_rows f m n = flat_map (λ i. flat_map (f i) (range_with_len 0 n)) (range_with_len 0 m)

-- what all rows of all instances send
unfoldable pub sent : List Namespace → Columns → Tuples → List (List ℕ)
sent ns c a = by_rows (row_sent ns c a) (c.instances a.space) (c.rows a.space)

-- what a sum of lists sends
unfoldable pub all_sent : List Namespace → Columns → List Tuples → List (List ℕ)
all_sent ns c ls = flat_map (sent ns c) ls

-- how often a tuple stands in a list
unfoldable pub times : List ℕ → List (List ℕ) → ℕ
times t ts = count_by (λ u. bytes_eq u t) ts

-- each tuple equally often on both sides
abbrev pub AsOften : List (List ℕ) → List (List ℕ) → Type 0
AsOften xs ys = (t : List ℕ) → times t xs ≡ times t ys

-- at row r of instance i both sides of an identity over the namespace s have one value
abbrev pub EqualAt : List Namespace → Columns → ℕ → Term → Term → ℕ → ℕ → Type 0
EqualAt ns c s a b i r = value_in ns c s i r a ≡ value_in ns c s i r b

-- the tuple of row r of instance i is one of the right side, or the row isn't selected
abbrev pub FoundAt : List Namespace → Columns → Tuples → Tuples → ℕ → ℕ → Type 0
FoundAt ns c a b i r = selected ns c a.space i r a.sel ≡ true → times (tuple ns c a.space i r a.terms) (sent ns c b) ≢ 0

-- what an identity or an `in` says of row r of instance i; an `is` speaks of all rows at once
abbrev pub HoldsAt : List Namespace → Columns → ℕ → ℕ → Line → Type 0
HoldsAt ns c i r (identity s a b) = EqualAt ns c s a b i r
HoldsAt ns c i r (lookup a b) = FoundAt ns c a b i r
HoldsAt ns c i r _ = Unit {0}

-- a fact of each row of each instance of the namespace s
abbrev pub AtEachRow : Columns → ℕ → (ℕ → ℕ → Type 0) → Type 0
AtEachRow c s P = (i r : ℕ) → i < c.instances s → r < c.rows s → P i r

-- a line holds; a declaration says nothing
abbrev pub Holds : List Namespace → Columns → Line → Type 0
Holds ns c (identity s a b) = AtEachRow c s (λ i r. HoldsAt ns c i r (identity s a b))
Holds ns c (lookup a b) = AtEachRow c a.space (λ i r. HoldsAt ns c i r (lookup a b))
Holds ns c (bus ls rs) = AsOften (all_sent ns c ls) (all_sent ns c rs)
Holds ns c _ = Unit {0}

-- each line of a text holds
abbrev pub AllHold : List Namespace → Columns → Type 0
AllHold ns c = (k : ℕ) → Holds ns c (item_at (lines ns) k)
