-- What every text that can be read has: the names in it are declared, the intermediates have an order,
-- and the numbers are in range (docs/PIL.md, "Refusals" and "Limits").
use Rattle.std.specs.Prelude.{ℕ, ◌+◌, ◌<◌, ◌≤◌, ◌≡◌, ◌^◌, Bool, true, false, List, ◌⊎◌, Option, Some, None, length, All, sum_by}
use Rattle.gold.specs.Field.{p}
use Rattle.pil_ast.specs.Term.{Term, num, col, mid, public, opp, ◌⊕◌, ◌⊖◌, ◌⊗◌, Tuples, Line, constant, commit, inter, published, identity, lookup, bus, Namespace, item_at, inter_at, body_of, space_at, width, publics}
use Rattle.pil_ast.specs.Written.{marked}

-- N holds of each number of a term, C of each column, M of each intermediate, G of each public
abbrev pub Each : (ℕ → Type 0) → (ℕ → ℕ → Bool → Type 0) → (ℕ → ℕ → Bool → Type 0) → (ℕ → Type 0) → Term → Type 0
Each N C M G (num n) = N n
Each N C M G (col s k b) = C s k b
Each N C M G (mid s k b) = M s k b
Each N C M G (public k) = G k
Each N C M G (opp a) = Each N C M G a
Each N C M G (a ⊕ b) = Each N C M G a × Each N C M G b
Each N C M G (a ⊖ b) = Each N C M G a × Each N C M G b
Each N C M G (a ⊗ b) = Each N C M G a × Each N C M G b

-- P holds of each intermediate that a term names
abbrev pub NamesOnly : (ℕ → Type 0) → Term → Type 0
NamesOnly P e = Each (λ n. Unit {0}) (λ s k b. Unit {0}) (λ s k b. P k) (λ k. Unit {0}) e

-- a term names the intermediate j
abbrev pub Names : Term → ℕ → Type 0
Names (num n) j = ⊥
Names (col s k b) j = ⊥
Names (mid s k b) j = k ≡ j
Names (public k) j = ⊥
Names (opp a) j = Names a j
Names (a ⊕ b) j = Names a j ⊎ Names b j
Names (a ⊖ b) j = Names a j ⊎ Names b j
Names (a ⊗ b) j = Names a j ⊎ Names b j

-- no intermediate depends on itself: each ranks above those that its expression names
pub record IsRanked (items : List Line) (rank : ℕ → ℕ) : Type 0 where
  pub bounded : (k : ℕ) → rank k ≤ length items
  pub falling : (k : ℕ) → NamesOnly (λ j. rank j < rank k) (inter_at items k)

abbrev pub IsAcyclic : List Line → Type 0
IsAcyclic items = (rank : ℕ → ℕ) × IsRanked items rank

-- the item is an intermediate
abbrev pub IsInter : Line → Type 0
IsInter (inter n e) = Unit {0}
IsInter _ = ⊥

-- the item is an intermediate with this expression, or none
abbrev pub IsBody : Line → Term → Type 0
IsBody l e = IsInter l × (body_of l ≡ e)

abbrev pub IsNoBody : Line → Type 0
IsNoBody l = (¬ IsInter l) × (body_of l ≡ num 0)

-- the k-th item is an intermediate, and has no mark when it is written out if it stands with one
abbrev pub IsNameable : List Line → ℕ → Bool → Type 0
IsNameable items k b = (k < length items) × IsInter (item_at items k) × (b ≡ true → marked items (inter_at items k) ≡ false)

-- a term of the namespace s, which has these items, where the text has m publics: it names columns
-- and intermediates of s alone
abbrev pub IsOf : List Line → ℕ → ℕ → Term → Type 0
IsOf items m s e = Each (λ n. n < p) (λ n k b. (n ≡ s) × (k < width items)) (λ n k b. (n ≡ s) × IsNameable items k b) (λ k. k < m) e

-- a term of the namespace s of a text
abbrev pub IsTerm : List Namespace → ℕ → Term → Type 0
IsTerm ns s e = IsOf (space_at ns s).items (length (publics ns)) s e

-- a selector of the namespace s
abbrev pub IsSelector : List Namespace → ℕ → Option Term → Type 0
IsSelector ns s None = Unit {0}
IsSelector ns s (Some e) = IsTerm ns s e

-- a list of `wide` expressions over one namespace
pub record IsList (ns : List Namespace) (wide : ℕ) (a : Tuples) : Type 0 where
  pub space : a.space < length ns
  pub sel : IsSelector ns a.space a.sel
  pub terms : All (λ e. IsTerm ns a.space e) a.terms
  pub many : length a.terms ≡ wide

-- an array's length, where there is one
abbrev pub IsLength : Option ℕ → Type 0
IsLength None = Unit {0}
IsLength (Some n) = (1 ≤ n) × (n ≤ 4096)

-- an item of the namespace s
abbrev pub IsItem : List Namespace → ℕ → Line → Type 0
IsItem ns s (constant n len) = IsLength len
IsItem ns s (commit n len) = IsLength len
IsItem ns s (inter n e) = IsTerm ns s e
IsItem ns s (published n m k r) = (m < length ns) × (k < width (space_at ns m).items) × (r < (space_at ns m).rows)
IsItem ns s (identity m a b) = (m < length ns) × IsTerm ns m a × IsTerm ns m b
IsItem ns s (lookup a b) = (wide : ℕ) × (1 ≤ wide) × IsList ns wide a × IsList ns wide b
IsItem ns s (bus ls rs) = (wide : ℕ) × (1 ≤ wide) × (1 ≤ length ls) × (1 ≤ length rs) × All (IsList ns wide) ls × All (IsList ns wide) rs

-- the `;`, `,` and `{` that an item takes in a text, at least
abbrev pub signs_of_lists : List Tuples → ℕ
signs_of_lists ls = sum_by (λ a. length a.terms) ls

abbrev pub signs_of_item : Line → ℕ
signs_of_item (lookup a b) = 1 + length a.terms + length b.terms
signs_of_item (bus ls rs) = 1 + signs_of_lists ls + signs_of_lists rs
signs_of_item _ = 1

abbrev pub signs : List Namespace → ℕ
signs ns = sum_by (λ n. 1 + sum_by signs_of_item n.items) ns

-- a namespace with number s
pub record IsSpace (ns : List Namespace) (s : ℕ) (n : Namespace) : Type 0 where
  pub some_rows : 1 ≤ n.rows
  pub few_rows : n.rows ≤ 2 ^ 24
  pub items : All (IsItem ns s) n.items
  pub acyclic : IsAcyclic n.items

-- a text
pub record IsSound (ns : List Namespace) : Type 0 where
  pub spaces : (s : ℕ) → s < length ns → IsSpace ns s (space_at ns s)
  pub signs : signs ns ≤ 2 ^ 20
