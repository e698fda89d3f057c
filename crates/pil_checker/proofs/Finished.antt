-- A checker to which all instances were added.
use Rattle.std.proofs.Common.{ℕ, ◌+◌, ◌-◌, ◌<◌, ◌≤◌, ◌≡◌, List, [], Option, Some, None, length, get_or, slice_get, refl, sym, ◌∙◌, ap, subst, arith, MatchOption}
use Rattle.std.proofs.lemmas.Option.{slice_get-get_or}
use Rattle.pil_ast.specs.Term.{Tuples, Line, num, constant, commit, inter, published, identity, lookup, bus, Namespace, item_at}
use Rattle.pil_ast.specs.Columns.{Columns}
use Rattle.pil_ast.specs.Sound.{IsItem, IsSound}
use Rattle.pil_ast.specs.Holds.{HoldsAt, Holds, sent, times, lines}
use Rattle.pil_ast.specs.Broken.{FailsFirst, BreaksAt}
use Rattle.row_check.specs.declared.broken.Broken.{Broken}
use Rattle.row_check.specs.declared.broken.Broken.TheVariants.{At, Counts}
use Rattle.row_check.specs.Breaks.{IsBreakOf, IsFirstBroken, line_of}
use Rattle.pil_laws.proofs.Lines.{item-found, line-found}
use Rattle.instance_pass.specs.declared.checks.Check.{Check}
use Rattle.instance_pass.specs.declared.checks.Check.TheVariants.{Equal, Among, Nothing}
use Rattle.instance_pass.specs.Checks.{IsTabled, home}
use Rattle.pil_checker.specs.declared.checker.Spot.{Spot}
use Rattle.pil_checker.specs.declared.checker.Checker.{Checker}
use Rattle.pil_checker.specs.Standing.{IsBuilt, StandsFor, AreAllAdded, HaveFrom, AgreesIfBus, AllUpTo, IsFound, added, counted, sent_upto, limit_of}
use Rattle.pil_checker.proofs.Rows.{rows-all}

-- the parts have what their lists send
pub have-all : (ns : List Namespace) (c : Columns) (k : Checker) → IsBuilt ns k → StandsFor ns c k → AreAllAdded ns c k → HaveFrom ns c k.plan 0
have-all ns c k built stands all m x j p a low at first is of =
    let w = built.planned.known j p is in
    let inside : a.space < length ns = let e = of.space in let f = w.1.space in let l = w.2 in omega arith in
    stands.parts j p a is of ∙ rows-all ns c a (added k a.space) (c.rows a.space) (all a.space inside) refl

-- A line of which all instances were seen.
module _ (ns : List Namespace) (c : Columns) (n : ℕ → ℕ) (all : (s : ℕ) → s < length ns → n s ≡ c.instances s) where
  holds-line : (s : ℕ) (l : Line) → IsItem ns s l → ((i r : ℕ) → i < n (home l) → r < c.rows (home l) → HoldsAt ns c i r l) → AgreesIfBus ns c l → Holds ns c l
  holds-line s (identity m a b) item seen agrees = λ i r li lr. seen i r (let e = all m item.0 in omega arith) lr
  holds-line s (lookup a b) item seen agrees = λ i r li lr. seen i r (let e = all a.space item.2.space in omega arith) lr
  holds-line s (bus ls rs) item seen agrees = agrees
  holds-line s (constant x y) item seen agrees = tt
  holds-line s (commit x y) item seen agrees = tt
  holds-line s (inter x y) item seen agrees = tt
  holds-line s (published x y z w) item seen agrees = tt

  breaks-line : (s : ℕ) (l : Line) (i r : ℕ) → IsItem ns s l → FailsFirst (counted c n) (home l) (λ i r. HoldsAt ns c i r l) i r → BreaksAt ns c l i r
  breaks-line s (identity m a b) i r item h = record {
    instance = (let l = h.instance in let e = all m item.0 in omega arith);
    row = h.row;
    fails = h.fails;
    first = λ j q l l' before. h.first j q (let e = all m item.0 in omega arith) l' before;
  }
  breaks-line s (lookup a b) i r item h = record {
    instance = (let l = h.instance in let e = all a.space item.2.space in omega arith);
    row = h.row;
    fails = h.fails;
    first = λ j q l l' before. h.first j q (let e = all a.space item.2.space in omega arith) l' before;
  }
  breaks-line s (bus ls rs) i r item h = absurd (h.fails tt)
  breaks-line s (constant x y) i r item h = absurd (h.fails tt)
  breaks-line s (commit x y) i r item h = absurd (h.fails tt)
  breaks-line s (inter x y) i r item h = absurd (h.fails tt)
  breaks-line s (published x y z w) i r item h = absurd (h.fails tt)

  item-of : (k : ℕ) → IsSound ns → k < length (lines ns) → (s : ℕ) × IsItem ns s (item_at (lines ns) k)
  item-of k sound l =
      let d : Line = identity 0 (num 0) (num 0) in
      let is : slice_get (lines ns) k ≡ Some (get_or (lines ns) k d) = slice_get-get_or (lines ns) k d l in
      let some = line-found ns k (get_or (lines ns) k d) sound is in
      (some.space, subst (IsItem ns some.space) (sym (item-found (lines ns) k (get_or (lines ns) k d) is)) some.item)

  pub line-holds : (k m : ℕ) → IsSound ns → k < length (lines ns) → k < m → AllUpTo ns c n m → AgreesIfBus ns c (item_at (lines ns) k) → Holds ns c (item_at (lines ns) k)
  line-holds k m sound l low upto agrees = let w = item-of k sound l in holds-line w.0 (item_at (lines ns) k) w.1 (λ i r li lr. upto k i r low li lr) agrees

  pub line-breaks : (f : Spot) → IsSound ns → IsFound ns c n f → BreaksAt ns c (item_at (lines ns) f.line) f.instance f.row
  line-breaks f sound h = let w = item-of f.line sound h.inside in breaks-line w.0 (item_at (lines ns) f.line) f.instance f.row w.1 h.fails

break-line : (ns : List Namespace) (c : Columns) (l : Line) (k : ℕ) (b : Broken) → IsBreakOf ns c l k b → line_of b ≡ k
break-line ns c l k (At line i r) h = h.0
break-line ns c l k (Counts line t m n) h = h.0

-- a line is broken, and all before it hold
pub first-broken : (ns : List Namespace) (c : Columns) (k : ℕ) (b : Broken) → k < length (lines ns) → IsBreakOf ns c (item_at (lines ns) k) (k + 1) b → ((j : ℕ) → j < k → Holds ns c (item_at (lines ns) j)) → IsFirstBroken ns c b
first-broken ns c k b l h before =
    let at : line_of b ≡ k + 1 = break-line ns c (item_at (lines ns) k) (k + 1) b h in
    let place : k ≡ line_of b - 1 = omega arith in
    record {
      some = omega arith;
      inside = omega arith;
      breaks = subst (λ m. IsBreakOf ns c (item_at (lines ns) m) (line_of b) b) place (subst (λ m. IsBreakOf ns c (item_at (lines ns) k) m b) (sym at) h);
      before = λ j some low. before (j - 1) (omega arith);
    }

-- right sides that send the same
pub tabled-alike : (ns : List Namespace) (d c : Columns) (tables : List (List (List ℕ))) (check : Check) (l : Line) → ((a b : Tuples) → l ≡ lookup a b → (t : List ℕ) → times t (sent ns d b) ≡ times t (sent ns c b)) → IsTabled ns d tables check l → IsTabled ns c tables check l
tabled-alike ns d c tables (Equal t j k) l alike h = tt
tabled-alike ns d c tables (Among x k) (lookup a b) alike h = λ t. h t ∙ alike a b refl t
tabled-alike ns d c tables (Among x k) l alike h = tt
tabled-alike ns d c tables Nothing l alike h = tt

-- no instance sends nothing
pub none-sent : (ns : List Namespace) (c : Columns) (n : ℕ) (a : Tuples) (ts : List (List ℕ)) → ts ≡ [] → n ≡ 0 → ts ≡ sent_upto ns c n a
none-sent ns c n a ts e f = e ∙ ap (λ m. sent_upto ns c m a) (sym f)

-- the lines before the one that is known to be broken hold of the instances that were added
pub known-before : (ns : List Namespace) (c : Columns) (k : Checker) → IsBuilt ns k → StandsFor ns c k → (limit_of k.found (length (lines ns)) ≤ length (lines ns)) × AllUpTo ns c (added k) (limit_of k.found (length (lines ns)))
known-before ns c k built stands = of k.found stands.found
  where
    of : (f : Option Spot) → MatchOption f (AllUpTo ns c (added k) (length (lines ns))) (λ f. IsFound ns c (added k) f) → (limit_of f (length (lines ns)) ≤ length (lines ns)) × AllUpTo ns c (added k) (limit_of f (length (lines ns)))
    of None h = (omega arith, h)
    of (Some f) h = (let l = h.inside in omega arith, h.before)
