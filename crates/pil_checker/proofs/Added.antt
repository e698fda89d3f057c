-- One more instance of a namespace.
use Rattle.std.proofs.Common.{ℕ, ◌+◌, ◌<◌, ◌≤◌, ◌≡◌, ◌≢◌, inl, inr, List, [], ◌++◌, Option, Some, None, length, set, slice_index, flat_map, sym, ◌∙◌, ap, subst, arith, MatchOption}
use Rattle.std.specs.List.{range_with_len}
use Rattle.std.proofs.lemmas.Bool.{cases_eq, cases_lt}
use Rattle.std.proofs.lemmas.List.{get_or-set_same, get_or-set_other}
use Rattle.pil_ast.specs.Term.{Tuples, Line, identity, lookup, bus, Namespace, item_at}
use Rattle.pil_ast.specs.Columns.{Columns}
use Rattle.pil_ast.specs.Holds.{HoldsAt, by_rows, row_sent, lines}
use Rattle.pil_ast.specs.Broken.{IsBefore}
use Rattle.pil_program.specs.declared.nodes.Node.{Node}
use Rattle.instance_pass.specs.declared.checks.Check.{Check}
use Rattle.instance_pass.specs.declared.checks.Check.TheVariants.{Equal, Among, Nothing}
use Rattle.instance_pass.specs.declared.parts.Part.{Part}
use Rattle.instance_pass.specs.declared.passes.Found.{Found}
use Rattle.instance_pass.specs.Senders.{IsSenderOf}
use Rattle.instance_pass.specs.Checks.{IsCheckIn, IsCheckOf, home}
use Rattle.instance_pass.specs.Parts.{IsPartIn}
use Rattle.instance_pass.specs.Passes.{AllMet, FailsLeast, Says, TakesRows}
use Rattle.pil_checker.specs.declared.checker.Spot.{Spot}
use Rattle.pil_checker.specs.Standing.{sent_upto, AllUpTo, IsFound, limit_of, found_after}
use Rattle.pil_checker.proofs.Rows.{rows-more}
use Rattle.pil_checker.proofs.Lined.{sender-inside}

module _ (ns : List Namespace) (c : Columns) (n n' : ℕ → ℕ) (s i : ℕ) (at : n s ≡ i) (here : n' s ≡ i + 1) (other : (t : ℕ) → t ≢ s → n' t ≡ n t) where
  home_of : ℕ → ℕ
  home_of k = home (item_at (lines ns) k)

  -- there are no fewer instances
  more : (t : ℕ) → n t ≤ n' t
  more t = elim (cases_eq t s) [
    | inl e ↦ (let a = ap n e in let b = ap n' e in omega arith)
    | inr ne ↦ (let a = other t ne in omega arith)
  ]

  pub upto-more : (m : ℕ) → AllMet (Says ns c s i) m (c.rows s) → AllUpTo ns c n m → AllUpTo ns c n' m
  upto-more m says old k j r l lj lr = elim (cases_eq (home (item_at (lines ns) k)) s) [
    | inl e ↦
        elim (cases_lt j i) [
          | inl b ↦ old k j r l (let a = ap n e in omega arith) lr
          | inr b ↦
              let last : i ≡ j = let a = ap n' e in omega arith in
              subst (λ z. HoldsAt ns c z r (item_at (lines ns) k)) last (says k r l (let a = ap c.rows e in omega arith) e)
        ]
    | inr ne ↦ old k j r l (let a = other (home (item_at (lines ns) k)) ne in omega arith) lr
  ]

  found-kept : (f : Spot) → AllMet (Says ns c s i) f.line (c.rows s) → IsFound ns c n f → IsFound ns c n' f
  found-kept f says h = record {
    inside = h.inside;
    fails = record {
      instance = (let a = h.fails.instance in let b = more (home (item_at (lines ns) f.line)) in omega arith);
      row = h.fails.row;
      fails = h.fails.fails;
      first = λ j q l l' before. h.fails.first j q (below j q (h.fails.instance) before) l' before;
    };
    before = upto-more f.line says h.before;
  }
    where
      below : {m : ℕ} (j q : ℕ) → f.instance < m → IsBefore j q f.instance f.row → j < m
      below j q l (inl b) = omega arith
      below j q l (inr b) = let e = b.0 in omega arith

  found-new : (m k r : ℕ) → AllUpTo ns c n m → m ≤ length (lines ns) → FailsLeast (Says ns c s i) m (c.rows s) k r → IsFound ns c n' (record { line = k; instance = i; row = r })
  found-new m k r old few h =
      let e : home (item_at (lines ns) k) ≡ s = elim (cases_eq (home (item_at (lines ns) k)) s) [ inl e ↦ e | inr ne ↦ absurd (h.fails.fails (λ e. absurd (ne e))) ] in
      let low = h.inside in
      record {
        inside = omega arith;
        fails = record {
          instance = (let a = ap n' e in omega arith);
          row = subst (λ t. r < c.rows t) (sym e) h.fails.row;
          fails = λ holds. h.fails.fails (λ e. holds);
          first = λ j q l l' before. earlier e j q l' before;
        };
        before = upto-more k h.before (λ k' j' r' l. old k' j' r' (omega arith));
      }
    where
      earlier : home (item_at (lines ns) k) ≡ s → (j q : ℕ) → q < c.rows (home (item_at (lines ns) k)) → IsBefore j q i r → HoldsAt ns c j q (item_at (lines ns) k)
      earlier e j q l (inl b) = old k j q h.inside (let a = ap n e in omega arith) l
      earlier e j q l (inr b) = subst (λ z. HoldsAt ns c z q (item_at (lines ns) k)) (sym b.0) (h.fails.before q b.1 e)

  -- what is known to be broken, with the instance
  pub found-more : (old : Option Spot) (found : Option Found) → MatchOption old (AllUpTo ns c n (length (lines ns))) (λ f. IsFound ns c n f)
      → MatchOption found (AllMet (Says ns c s i) (limit_of old (length (lines ns))) (c.rows s)) (λ f. FailsLeast (Says ns c s i) (limit_of old (length (lines ns))) (c.rows s) f.check f.row)
      → MatchOption (found_after old found i) (AllUpTo ns c n' (length (lines ns))) (λ f. IsFound ns c n' f)
  found-more None None h g = upto-more (length (lines ns)) g h
  found-more (Some f) None h g = found-kept f g h
  found-more None (Some g) h least = found-new (length (lines ns)) g.check g.row h (omega arith) least
  found-more (Some f) (Some g) h least = found-new f.line g.check g.row h.before (let l = h.inside in omega arith) least

  -- what the parts have, with the instance
  pub part-more : (nodes : List Node) (p q : Part) (a : Tuples) → TakesRows ns c s i (c.rows s) nodes p q → (a.space ≡ s → IsSenderOf ns nodes a p.sender) → a.space ≡ p.sender.space → p.tuples ≡ sent_upto ns c (n a.space) a → q.tuples ≡ sent_upto ns c (n' a.space) a
  part-more nodes p q a takes of home' before = elim (cases_eq a.space s) [
    | inl e ↦
        let rows : c.rows a.space ≡ c.rows s = ap c.rows e in
        let taken : q.tuples ≡ p.tuples ++ flat_map (row_sent ns c a i) (range_with_len 0 (c.rows a.space)) = takes.here a (of e) e ∙ ap (λ m. p.tuples ++ flat_map (row_sent ns c a i) (range_with_len 0 m)) (sym rows) in
        let old : p.tuples ≡ by_rows (row_sent ns c a) i (c.rows a.space) = before ∙ ap (λ m. by_rows (row_sent ns c a) m (c.rows a.space)) (ap n e ∙ at) in
        rows-more (λ j. flat_map (row_sent ns c a j) (range_with_len 0 (c.rows a.space))) i [] p.tuples q.tuples old taken
        ∙ ap (λ m. by_rows (row_sent ns c a) m (c.rows a.space)) (sym (ap n' e ∙ here))
    | inr ne ↦ takes.elsewhere (λ w. ne (home' ∙ w)) ∙ before ∙ ap (λ m. sent_upto ns c m a) (sym (other a.space ne))
  ]

-- the count of one namespace is one more
pub count-here : (counts : List ℕ) (s m : ℕ) → s < length counts → slice_index (set counts s m) s ≡ m
count-here counts s m l = get_or-set_same counts s m 0 l

pub count-other : (counts : List ℕ) (s m t : ℕ) → t ≢ s → slice_index (set counts s m) t ≡ slice_index counts t
count-other counts s m t ne = get_or-set_other counts s t m 0 ne

-- a check of a plan is one of the namespace's steps
pub check-inside : (ns : List Namespace) (nodes : ℕ → List Node) (n m s : ℕ) (check : Check) (l : Line) → IsCheckOf ns nodes n check l → length (nodes s) ≤ m → IsCheckIn n s m check
check-inside ns nodes n m s (Equal t j k) (identity u a b) h room = λ e.
    let same : u ≡ s = sym h.0 ∙ e in
    let long : length (nodes u) ≤ m = subst (λ z. length (nodes z) ≤ m) (sym same) room in
    (let l = h.1.inside in omega arith, let l = h.2.inside in omega arith)
check-inside ns nodes n m s (Among x k) (lookup a b) h room = (
  h.0,
  λ e.
      let same : a.space ≡ s = sym h.1.space ∙ e in
      sender-inside ns (nodes a.space) a x m h.1 (subst (λ z. length (nodes z) ≤ m) (sym same) room),
)
check-inside ns nodes n m s Nothing (bus ls rs) h room = tt
check-inside ns nodes n m s check l h room = absurd h

pub part-inside : (ns : List Namespace) (nodes : ℕ → List Node) (m s : ℕ) (p : Part) (a : Tuples) → IsSenderOf ns (nodes a.space) a p.sender → length (nodes s) ≤ m → IsPartIn s m p
part-inside ns nodes m s p a of room = λ e.
    let same : a.space ≡ s = sym of.space ∙ e in
    sender-inside ns (nodes a.space) a p.sender m of (subst (λ z. length (nodes z) ≤ m) (sym same) room)
