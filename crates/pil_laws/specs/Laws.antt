-- What lines say of whole tables.
use Rattle.std.specs.Prelude.{ℕ, ◌+◌, ◌<◌, ◌≡◌, ◌≢◌, ◌↔◌, true, List, Some, Contains, slice_get, flat_map, sum_by}
use Rattle.std.specs.List.Sorted.{IsPermutation}
use Rattle.gold.specs.Field.{p}
use Rattle.pil_ast.specs.Term.{Term, Tuples, Line, lookup, bus, Namespace, item_at, space_at}
use Rattle.pil_ast.specs.Columns.{Columns}
use Rattle.pil_ast.specs.Value.{public_value}
use Rattle.pil_ast.specs.Sound.{IsSound}
use Rattle.pil_ast.specs.Holds.{AllHold, Holds, AsOften, times, sent, all_sent, tuple, lines}
use Rattle.pil_laws.specs.Sends.{Sends}
use Rattle.pil_laws.specs.Lines.{EachHolds, are_over, AllBuses, EachRowMeets, IsSomeLine}
use Rattle.pil_laws.specs.Joints.{Joints, joint}
use Rattle.pil_laws.specs.Table.{AreHeld, Gives}

-- A tuple that a list sends has a row behind it, and the tuple of a selected row is sent.
abbrev pub SendsLaw : Type 0
SendsLaw = (ns : List Namespace) (c : Columns) (a : Tuples) (t : List ℕ) → (times t (sent ns c a) ≢ 0) ↔ Sends ns c a t

-- The same of several lists: one of them sends it.
abbrev pub SumLaw : Type 0
SumLaw = (ns : List Namespace) (c : Columns) (ls : List Tuples) (t : List ℕ) → (times t (all_sent ns c ls) ≢ 0) ↔ ((a : Tuples) × Contains ls a × Sends ns c a t)

-- An `in` holds where each tuple that a row sends on the left, a row sends on the right, and only there.
abbrev pub InLaw : Type 0
InLaw = (ns : List Namespace) (c : Columns) (a b : Tuples) → Holds ns c (lookup a b) ↔ ((t : List ℕ) → Sends ns c a t → Sends ns c b t)

-- Where an `is` holds, each tuple that a row sends on the left, a row sends on the right.
abbrev pub IsLaw : Type 0
IsLaw =
    (ns : List Namespace) (c : Columns) (ls rs : List Tuples) (t : List ℕ) (a : Tuples) → Holds ns c (bus ls rs) → Contains ls a → Sends ns c a t → (b : Tuples) × Contains rs b × Sends ns c b t

-- Two lists hold each tuple equally often where every weight of tuples sums up to the same, and only there.
abbrev pub WeightLaw : Type 0
WeightLaw = (xs ys : List (List ℕ)) → AsOften xs ys ↔ ((weight : List ℕ → ℕ) → sum_by weight xs ≡ sum_by weight ys)

-- A list in another order holds each tuple as often.
abbrev pub OrderLaw : Type 0
OrderLaw = (xs ys : List (List ℕ)) → IsPermutation xs ys → AsOften xs ys

-- An `is` joins the instances of a namespace: what leaves the last row of each enters the first row of the next.
abbrev pub JointLaw : Type 0
JointLaw =
    (ns : List Namespace) (c : Columns) (home inst clast cfirst : ℕ) (es fs : List Term) → Joints c home inst clast cfirst
    → Holds ns c (joint home inst clast cfirst es fs) ↔ ((i r : ℕ) → i + 1 < c.instances home → r + 1 ≡ c.rows home → tuple ns c home i r es ≡ tuple ns c home (i + 1) 0 fs)

-- A namespace whose columns hold rows sends what each row gives, in the order of the rows. A row is
-- here the function from a column's number to its value.
abbrev pub TableLaw : Type 0
TableLaw =
    (ns : List Namespace) (c : Columns) (first width : ℕ) (f : (ℕ → ℕ) → List (List ℕ)) (rows : List (ℕ → ℕ)) (a : Tuples)
    → AreHeld c a.space first width (λ x k. x k) rows → Gives ns c first width (λ x k. x k) f rows a → sent ns c a ≡ flat_map f rows

-- A text holds where the items of each namespace do, and only there.
abbrev pub TextLaw : Type 0
TextLaw = (ns : List Namespace) (c : Columns) → AllHold ns c ↔ ((s : ℕ) → EachHolds ns c (space_at ns s).items)

-- Lines over one namespace hold where each of its rows meets them and each `is` among them holds, and only there.
abbrev pub RowsLaw : Type 0
RowsLaw = (ns : List Namespace) (c : Columns) (home : ℕ) (ls : List Line) → are_over home ls ≡ true → EachHolds ns c ls ↔ (AllBuses ns c ls × EachRowMeets ns c home ls)

-- What is found at a place of a text's lines is the line there, an item of a namespace.
abbrev pub LinesLaw : Type 0
LinesLaw = (ns : List Namespace) (k : ℕ) (l : Line) → IsSound ns → slice_get (lines ns) k ≡ Some l → (item_at (lines ns) k ≡ l) × IsSomeLine ns l

-- A public's value is one of the field where the columns' values are.
abbrev pub PublicLaw : Type 0
PublicLaw = (ns : List Namespace) (c : Columns) (k : ℕ) → ((s i j r : ℕ) → c.at s i j r < p) → public_value ns c k < p
