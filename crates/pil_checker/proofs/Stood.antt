-- A checker to which an instance was added.
use Rattle.std.proofs.Common.{ℕ, ◌+◌, ◌<◌, ◌≤◌, ◌≡◌, ◌≢◌, List, [], ◌∷◌, Option, Some, None, length, get_or, set, slice_get, slice_index, sym, ◌∙◌, ap, subst, arith, length-set, MatchOption}
use Rattle.std.proofs.lemmas.Option.{slice_get-get_or, slice_get_within}
use Rattle.pil_ast.specs.Term.{Tuples, Line, bus, Namespace, item_at}
use Rattle.pil_ast.specs.Columns.{Columns}
use Rattle.pil_ast.specs.Holds.{lines}
use Rattle.pil_program.specs.declared.nodes.Node.{Node}
use Rattle.instance_pass.specs.declared.parts.Part.{Part}
use Rattle.instance_pass.specs.declared.passes.Found.{Found}
use Rattle.instance_pass.specs.Senders.{IsSenderOf}
use Rattle.instance_pass.specs.Passes.{AreTabled, TakesRows, AtEach}
use Rattle.pil_checker.specs.declared.checker.Spot.{Spot}
use Rattle.pil_checker.specs.declared.checker.Checker.{Checker}
use Rattle.pil_checker.specs.declared.lines.Span.{Span}
use Rattle.pil_checker.specs.declared.plans.Plan.{Plan}
use Rattle.pil_checker.specs.Programs.{nodes_at}
use Rattle.pil_checker.specs.Plans.{HaveParts, IsSpanOf, AreKnown, IsPlanOf}
use Rattle.pil_checker.specs.Standing.{IsBuilt, StandsFor, IsSameBut, added, sent_upto, AllUpTo, IsFound, limit_of, found_after}
use Rattle.pil_checker.proofs.Added.{found-more, part-more, count-here, count-other}
use Rattle.pil_checker.proofs.Looked.{Finds}

-- parts that keep their senders
abbrev KeepsSender : Part → Part → Type 0
KeepsSender p q = q.sender ≡ p.sender

senders-kept : (ns : List Namespace) (d : Columns) (s i m : ℕ) (nodes : List Node) (old new : List Part) → AtEach (TakesRows ns d s i m nodes) old new → AtEach KeepsSender old new
senders-kept ns d s i m nodes old new h = record { long = h.long; each = λ j p q is is'. (h.each j p q is is').sender }

have-each : (ns : List Namespace) (nodes : ℕ → List Node) (old new : List Part) (k : ℕ) (ls : List Tuples) → AtEach KeepsSender old new → HaveParts ns nodes old k ls → HaveParts ns nodes new k ls
have-each ns nodes old new k [] each h = tt
have-each ns nodes old new k (a ∷ as') each h =
    let p = h.0.0 in
    let q : Part = get_or new k p in
    let there : slice_get new k ≡ Some q = slice_get-get_or new k p (let l = slice_get_within old k p h.0.1 in let e = each.long in omega arith) in
    ((q, there, subst (IsSenderOf ns (nodes a.space) a) (sym (each.each k p q h.0.1 there)) h.0.2), have-each ns nodes old new (k + 1) as' each h.1)

span-each : (ns : List Namespace) (nodes : ℕ → List Node) (old new : List Part) (x : Span) (l : Line) → AtEach KeepsSender old new → IsSpanOf ns nodes old x l → IsSpanOf ns nodes new x l
span-each ns nodes old new x (bus ls rs) each h =
    (h.0, h.1, (let a = h.2 in let e = each.long in omega arith), have-each ns nodes old new x.first ls each h.3, have-each ns nodes old new x.middle rs each h.4)
span-each ns nodes old new x l each h = tt

known-each : (ns : List Namespace) (nodes : ℕ → List Node) (old new : List Part) → AtEach KeepsSender old new → AreKnown ns nodes old → AreKnown ns nodes new
known-each ns nodes old new each h j q is =
    let p : Part = get_or old j q in
    let there : slice_get old j ≡ Some p = slice_get-get_or old j q (let l = slice_get_within new j q is in let e = each.long in omega arith) in
    let w = h j p there in
    (w.0, subst (IsSenderOf ns (nodes w.0.space) w.0) (sym (each.each j p q there is)) w.1, w.2)

-- a plan whose parts have changed
abbrev with_parts : Plan → Plan → Plan
with_parts old new = record new { programs = old.programs; checks = old.checks; spans = old.spans; tables = old.tables }

plan-is : (old new : Plan) → new.programs ≡ old.programs → new.checks ≡ old.checks → new.spans ≡ old.spans → new.tables ≡ old.tables → new ≡ with_parts old new
plan-is old new a b d e =
    ap (λ x. record new { programs = x }) a
    ∙ ap (λ x. record new { programs = old.programs; checks = x }) b
    ∙ ap (λ x. record new { programs = old.programs; checks = old.checks; spans = x }) d
    ∙ ap (λ x. record new { programs = old.programs; checks = old.checks; spans = old.spans; tables = x }) e

pub planned-each : (ns : List Namespace) (old new : Plan) → AtEach KeepsSender old.parts.items new.parts.items → IsPlanOf ns old → IsPlanOf ns (with_parts old new)
planned-each ns old new each h = record {
  programs = h.programs;
  checks_long = h.checks_long;
  checks = h.checks;
  spans_long = h.spans_long;
  spans = λ k x is. span-each ns (nodes_at old.programs.items) old.parts.items new.parts.items x (item_at (lines ns) k) each (h.spans k x is);
  apart = record { inside = λ k x is. (let a = h.apart.inside k x is in let e = each.long in omega arith); apart = h.apart.apart };
  known = known-each ns (nodes_at old.programs.items) old.parts.items new.parts.items each h.known;
}

-- k1 is k0 after it looked at instance i of the namespace s, and k2 is k1 after that was noted
module _ (ns : List Namespace) (k0 k1 k2 : Checker) (s i : ℕ) (found : Option Found) (same : IsSameBut k0 k1) (plan : k2.plan ≡ k1.plan)
    (counts : k2.counts.items ≡ set k1.counts.items s (i + 1)) (noted : k2.found ≡ found_after k1.found found i) where
  plan-after : k2.plan ≡ with_parts k0.plan k1.plan
  plan-after = plan ∙ plan-is k0.plan k1.plan same.programs same.checks same.spans same.tables

  counts-after : k2.counts.items ≡ set k0.counts.items s (i + 1)
  counts-after = counts ∙ ap (λ v. set v.items s (i + 1)) same.counts

  found-is : k2.found ≡ found_after k0.found found i
  found-is = noted ∙ ap (λ f. found_after f found i) same.found

  spot-inside : (old : Option Spot) (f : Option Found) → MatchOption old (Unit {0}) (λ x. x.line < length (lines ns)) → MatchOption f (Unit {0}) (λ x. x.check < limit_of old (length (lines ns))) → MatchOption (found_after old f i) (Unit {0}) (λ x. x.line < length (lines ns))
  spot-inside None None h g = tt
  spot-inside (Some x) None h g = h
  spot-inside None (Some x) h g = g
  spot-inside (Some y) (Some x) h g = omega arith

  pub built-added : (d : Columns) (m : ℕ) (nodes : List Node) → IsBuilt ns k0 → AtEach (TakesRows ns d s i m nodes) k0.plan.parts.items k1.plan.parts.items → length k2.blocks.items ≡ length k1.blocks.items
      → MatchOption found (Unit {0}) (λ f. f.check < limit_of k0.found (length k0.plan.checks.items)) → IsBuilt ns k2
  built-added d m nodes h each room inside = record {
    planned = subst (IsPlanOf ns) (sym plan-after) (planned-each ns k0.plan k1.plan (senders-kept ns d s i m nodes k0.plan.parts.items k1.plan.parts.items each) h.planned);
    counts = ap length counts-after ∙ length-set k0.counts.items s (i + 1) ∙ h.counts;
    room = subst (λ p. (t : ℕ) → length (nodes_at p.programs.items t) ≤ length k2.blocks.items) (sym plan-after) (λ t. let a = h.room t in let e = room in let f = same.room in omega arith);
    spot = subst (λ f. MatchOption f (Unit {0}) (λ x. x.line < length (lines ns))) (sym found-is)
        (spot-inside k0.found found h.spot (subst (λ n. MatchOption found (Unit {0}) (λ f. f.check < limit_of k0.found n)) h.planned.checks_long inside));
  }

  pub stands-added : (d c : Columns) → IsBuilt ns k0 → added k0 s ≡ i → s < length ns → d.rows s ≡ c.rows s → StandsFor ns c k0
      → Finds ns c s i (limit_of k0.found (length k0.plan.checks.items)) (d.rows s) found
      → AtEach (TakesRows ns c s i (d.rows s) (nodes_at k0.plan.programs.items s)) k0.plan.parts.items k1.plan.parts.items → StandsFor ns c k2
  stands-added d c h at l rows stands finds each = record {
    tabled = subst (λ p. AreTabled ns c p.tables.items p.checks.items) (sym plan-after) stands.tabled;
    parts = subst (λ p. (j : ℕ) (q : Part) (a : Tuples) → slice_get p.parts.items j ≡ Some q → IsSenderOf ns (nodes_at p.programs.items a.space) a q.sender → q.tuples ≡ sent_upto ns c (added k2 a.space) a) (sym plan-after) parts-after;
    found = subst (λ f. MatchOption f (AllUpTo ns c (added k2) (length (lines ns))) (λ x. IsFound ns c (added k2) x)) (sym found-is)
        (found-more ns c (added k0) (added k2) s i at here other k0.found found stands.found
        (subst (λ n. Finds ns c s i (limit_of k0.found n) (c.rows s) found) h.planned.checks_long (subst (λ m. Finds ns c s i (limit_of k0.found (length k0.plan.checks.items)) m found) rows finds)));
  }
    where
      here : added k2 s ≡ i + 1
      here = ap (λ xs. slice_index xs s) counts-after ∙ count-here k0.counts.items s (i + 1) (let e = h.counts in omega arith)

      other : (t : ℕ) → t ≢ s → added k2 t ≡ added k0 t
      other t ne = ap (λ xs. slice_index xs t) counts-after ∙ count-other k0.counts.items s (i + 1) t ne

      parts-after : (j : ℕ) (q : Part) (a : Tuples) → slice_get k1.plan.parts.items j ≡ Some q → IsSenderOf ns (nodes_at k0.plan.programs.items a.space) a q.sender → q.tuples ≡ sent_upto ns c (added k2 a.space) a
      parts-after j q a is of =
          let p : Part = get_or k0.plan.parts.items j q in
          let there : slice_get k0.plan.parts.items j ≡ Some p = slice_get-get_or k0.plan.parts.items j q (let b = slice_get_within k1.plan.parts.items j q is in let e = each.long in omega arith) in
          let takes : TakesRows ns c s i (c.rows s) (nodes_at k0.plan.programs.items s) p q = subst (λ m. TakesRows ns c s i m (nodes_at k0.plan.programs.items s) p q) rows (each.each j p q there is) in
          let of' : IsSenderOf ns (nodes_at k0.plan.programs.items a.space) a p.sender = subst (IsSenderOf ns (nodes_at k0.plan.programs.items a.space) a) takes.sender of in
          part-more ns c (added k0) (added k2) s i at here other (nodes_at k0.plan.programs.items s) p q a takes (λ e. subst (λ z. IsSenderOf ns (nodes_at k0.plan.programs.items z) a p.sender) e of') (sym of'.space) (stands.parts j p a there of')
