-- The sides of an `is` and the parts that have their tuples.
use Rattle.std.proofs.Common.{ℕ, ◌+◌, ◌≤◌, ◌≡◌, ◌≢◌, List, [], ◌∷◌, ◌++◌, Option, Some, None, length, map, slice_get, flat_map, option_map, refl, ◌∙◌, ap, subst, arith, MatchOption}
use Rattle.std.specs.List.{range_with_len}
use Rattle.std.proofs.lemmas.Option.{slice_get-map, get_or_from_slice_get}
use Rattle.pil_ast.specs.Term.{Tuples, Line, constant, commit, inter, published, identity, lookup, bus, Namespace}
use Rattle.pil_ast.specs.Columns.{Columns}
use Rattle.pil_ast.specs.Holds.{AsOften, sent, all_sent}
use Rattle.pil_ast.specs.Broken.{DiffersFirst}
use Rattle.row_check.specs.declared.broken.Broken.{Broken}
use Rattle.row_check.specs.declared.broken.Broken.TheVariants.{At, Counts}
use Rattle.row_check.specs.Breaks.{IsBreakOf}
use Rattle.bus_check.specs.Bus.{DiffersBy}
use Rattle.pil_program.specs.declared.nodes.Node.{Node}
use Rattle.instance_pass.specs.declared.checks.Check.{Check}
use Rattle.instance_pass.specs.declared.checks.Check.TheVariants.{Equal, Among, Nothing}
use Rattle.instance_pass.specs.declared.parts.Part.{Part}
use Rattle.instance_pass.specs.Senders.{IsSenderOf}
use Rattle.instance_pass.specs.Checks.{IsCheckOf}
use Rattle.pil_checker.specs.Plans.{HaveParts}
use Rattle.pil_checker.specs.Standing.{tuples_at, side_of, AgreesIfBus}

-- a line that asks nothing of a row is an `is`
pub bus-of : (ns : List Namespace) (nodes : ℕ → List Node) (n : ℕ) (l : Line) → IsCheckOf ns nodes n Nothing l → (ls : List Tuples) × (rs : List Tuples) × (l ≡ bus ls rs)
bus-of ns nodes n (bus ls rs) h = (ls, rs, refl)
bus-of ns nodes n (constant a b) h = absurd h
bus-of ns nodes n (commit a b) h = absurd h
bus-of ns nodes n (inter a b) h = absurd h
bus-of ns nodes n (published a b d e) h = absurd h
bus-of ns nodes n (identity s a b) h = absurd h
bus-of ns nodes n (lookup a b) h = absurd h

-- of another line nothing is said here
pub not-bus : (ns : List Namespace) (nodes : ℕ → List Node) (n : ℕ) (check : Check) (l : Line) (c : Columns) → IsCheckOf ns nodes n check l → check ≢ Nothing → AgreesIfBus ns c l
not-bus ns nodes n Nothing l c h ne = absurd (ne refl)
not-bus ns nodes n (Equal t j k) (identity s a b) c h ne = tt
not-bus ns nodes n (Among x k) (lookup a b) c h ne = tt
not-bus ns nodes n check l c h ne = absurd h

pub tuples-found : (parts : List Part) (k : ℕ) (p : Part) → slice_get parts k ≡ Some p → tuples_at parts k ≡ p.tuples
tuples-found parts k p is = get_or_from_slice_get (map (λ p. p.tuples) parts) k p.tuples [] (slice_get-map (λ p. p.tuples) parts k ∙ ap (option_map (λ p. p.tuples)) is)

pub side-all : (ns : List Namespace) (nodes : ℕ → List Node) (c : Columns) (parts : List Part) (k : ℕ) (ls : List Tuples)
    → ((j : ℕ) (p : Part) (a : Tuples) → k ≤ j → slice_get parts j ≡ Some p → IsSenderOf ns (nodes a.space) a p.sender → p.tuples ≡ sent ns c a)
    → HaveParts ns nodes parts k ls → side_of parts k (length ls) ≡ all_sent ns c ls
unfolding all_sent
side-all ns nodes c parts k [] all h = refl
side-all ns nodes c parts k (a ∷ as') all h =
    ap (λ ts. ts ++ flat_map (tuples_at parts) (range_with_len (k + 1) (length as'))) (tuples-found parts k h.0.0 h.0.1 ∙ all k h.0.0 a (omega arith) h.0.1 h.0.2)
    ∙ ap (λ ts. sent ns c a ++ ts) (side-all ns nodes c parts (k + 1) as' (λ j p b l. all j p b (omega arith)) h.1)

pub compared : (ns : List Namespace) (c : Columns) (found : Option Broken) (k : ℕ) (left right : List (List ℕ)) (ls rs : List Tuples) → left ≡ all_sent ns c ls → right ≡ all_sent ns c rs
    → MatchOption found (AsOften left right) (λ b. DiffersBy k left right b) → MatchOption found (AgreesIfBus ns c (bus ls rs)) (λ b. IsBreakOf ns c (bus ls rs) k b)
compared ns c None k left right ls rs e f h = subst (λ ys. AsOften (all_sent ns c ls) ys) f (subst (λ xs. AsOften xs right) e h)
compared ns c (Some (Counts line t m n)) k left right ls rs e f h = (h.0, subst (λ ys. DiffersFirst (all_sent ns c ls) ys t m n) f (subst (λ xs. DiffersFirst xs right t m n) e h.1))
compared ns c (Some (At line i r)) k left right ls rs e f h = absurd h
