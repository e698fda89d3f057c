use Rattle.std.proofs.Common.{ℕ, ◌≡◌, ◌<◌, ◌≤◌, ◌+◌, ◌↔◌, Option, Some, None, MatchOption, length, flat_map, sym, ◌∙◌, subst, refl, arith, rules, All}
use Rattle.std.specs.List.{range_with_len}
use Rattle.pil_ast.specs.Columns.{Columns}
use Rattle.pil_program.specs.Program.{AreValues}
use Rattle.pil_program.specs.Blocks.{at_lane}
use Rattle.instance_pass.specs.declared.passes.Found.{Found}
use Rattle.instance_pass.specs.Senders.{sent_by}
use Rattle.instance_pass.specs.Parts.{IsPartIn, Takes}
use Rattle.instance_pass.specs.Passes.{AllMet, FailsLeast, Says, AsksNth, IsSameInstance, IsPassed, TakesRows, AtEach}
use Rattle.instance_pass.proofs.Elements.{each-both}
use Rattle.instance_pass.proofs.Reading.{values-same}
use Rattle.instance_pass.proofs.Passing.{passed-none, passed-found, passed-end}
use Rattle.instance_pass.proofs.Blocks.{asks-same, rows-taken, parts-inside}
use Rattle.instance_pass.proofs.passes.pass.Goals as goal
use Rattle.instance_pass.proofs.passes.pass.Goals.{in-Some, in-None}

spot-later : (n m k : ℕ) (o : Option Found) → m ≤ k → MatchOption o (Unit {0}) (λ f. (f.check < n) × (f.row < m)) → MatchOption o (Unit {0}) (λ f. (f.check < n) × (f.row < k))
spot-later n m k None l h = tt
spot-later n m k (Some f) l h = (h.0, let a = h.1 in omega arith)

pub loop-base-preserved : goal.loop-base-preserved
loop-base-preserved g c =
    let d = g.C.Columns.values c.args.columns.now in
    let s = c.args.place.now.space in
    let i = c.args.place.now.instance in
    let nodes = c.args.asked.now.nodes.now in
    let x = at_lane c.run.new.blocks in
    let base = c.loop-base.base in
    let count = c.min-count.result in
    let short = c.min-count.ensures in
    let test = c.loop-base-test.true in
    let h = c.loop-base.invariant in
    let low : base + count ≤ d.rows s = (let e = c.requires.rows in omega arith) in
    let room = h.room in
    let here : (cs : Columns) → IsSameInstance d cs s i → (j : ℕ) → j < count → AreValues cs s i (base + j) nodes (length nodes) (x j) =
    λ cs same j l. values-same d cs s i (base + j) same (omega arith) nodes (length nodes) (x j) c.requires.program (c.run.ensures.values j l) in
    let B : ℕ → ℕ → Type 0 = λ k j. AsksNth c.args.asked.now.tables.now s c.args.asked.now.checks.now k (x j) in
    let limit = c.loop-base.limit in
    let Scanned : Option Found → Type 0 = λ o. MatchOption o (AllMet B limit count) (λ f. FailsLeast B limit count f.check f.row) in
    let Spot : ℕ → Option Found → Type 0 = λ m o. MatchOption o (Unit {0}) (λ f. (f.check < c.args.asked.now.limit) × (f.row < m)) in
    let scanned : Scanned c.in_ok-f.field-0 = c.in_ok-f.ensures in
    record {
      room = c.run.ensures.room ∙ h.room;
      low = search rules;
      limit = elim c.match-branch-2.branch [
        | in-None w ↦ let e = w.limit-is in let a = h.limit in omega arith
        | in-Some w ↦ let f : FailsLeast B limit count w.in-Some.f.check w.in-Some.f.row = subst Scanned w.in-Some.is scanned in let e = w.limit-is in let a = h.limit in let b = f.inside in omega arith
      ];
      spot = elim c.match-branch-2.branch [
        | in-None w ↦ subst (Spot (base + count)) (sym w.found-is) (spot-later c.args.asked.now.limit base (base + count) c.loop-base.found (omega arith) h.spot)
        | in-Some w ↦
            let f : FailsLeast B limit count w.in-Some.f.check w.in-Some.f.row = subst Scanned w.in-Some.is scanned in
            let a = h.limit in
            let b = f.inside in
            let d = f.fails.row in
            subst (Spot (base + count)) (sym w.found-is) (omega arith, omega arith)
      ];
      inside = parts-inside s (length c.run.new.blocks) (λ p. flat_map (λ j. sent_by (x j) p.sender) (range_with_len 0 count)) c.loop-base.parts c.take_parts.new.parts c.in_ok-take_parts.ensures
          (subst (λ m. All (IsPartIn s m) c.loop-base.parts) (sym c.run.ensures.room) h.inside);
      passed = λ ns cs nodes_of same e are tabled.
          let Q = Says ns cs s i in
          let known : (j : ℕ) → j < count → AreValues cs s i (base + j) (nodes_of s) (length (nodes_of s)) (x j) = λ j l. subst (λ n. AreValues cs s i (base + j) n (length n) (x j)) (sym e) (here cs same j l) in
          let alike : (k j : ℕ) → k < limit → j < count → B k j ↔ Q k (base + j) =
          λ k j l l'. asks-same ns cs s i (base + j) nodes_of c.args.asked.now.tables.now (x j) (length c.args.asked.now.tables.now) c.args.asked.now.checks.now (known j l') are tabled k (let a = h.limit in let b = c.requires.limit in omega arith) in
          let old = h.passed ns cs nodes_of same e are tabled in
          elim c.match-branch-2.branch [
            | in-None w ↦
                subst (λ f. IsPassed Q c.args.asked.now.limit c.match-branch-2.limit (base + count) f) (sym w.found-is)
                (subst (λ n. IsPassed Q c.args.asked.now.limit n (base + count) c.loop-base.found) (sym w.limit-is)
                (passed-none Q B c.args.asked.now.limit limit base count alike c.loop-base.found old (subst Scanned w.in-None.is scanned)))
            | in-Some w ↦
                subst (λ f. IsPassed Q c.args.asked.now.limit c.match-branch-2.limit (base + count) f) (sym w.found-is)
                (subst (λ n. IsPassed Q c.args.asked.now.limit n (base + count) (Some (record { check = w.in-Some.f.check; row = base + w.in-Some.f.row }))) (sym w.limit-is)
                (passed-found Q B c.args.asked.now.limit limit base count alike c.loop-base.found w.in-Some.f (record { check = w.in-Some.f.check; row = base + w.in-Some.f.row }) old (subst Scanned w.in-Some.is scanned) refl))
          ];
      parts = λ ns cs same.
          each-both (TakesRows ns cs s i base nodes) (λ p q. Takes s (flat_map (λ j. sent_by (x j) p.sender) (range_with_len 0 count)) p q) (TakesRows ns cs s i (base + count) nodes) c.args.parts.now c.loop-base.parts c.take_parts.new.parts
          (rows-taken ns cs s i base count nodes x (here cs same)) (h.parts ns cs same) c.in_ok-take_parts.ensures;
    }

pub returns-clause-found : goal.returns-clause-found
returns-clause-found g c = λ ns cs nodes same e are tabled.
    let low = c.loop-base.invariant.low in
    let past = c.loop-base-test.false in
    passed-end (Says ns cs c.args.place.now.space c.args.place.now.instance) c.args.asked.now.limit c.loop-base.limit c.loop-base.base c.args.place.now.rows c.loop-base.found (omega arith) (c.loop-base.invariant.passed ns cs nodes same e are tabled)

pub returns-clause-parts : goal.returns-clause-parts
returns-clause-parts g c = λ ns cs same.
    let low = c.loop-base.invariant.low in
    let past = c.loop-base-test.false in
    let e : c.loop-base.base ≡ c.args.place.now.rows = omega arith in
    subst (λ m. AtEach (TakesRows ns cs c.args.place.now.space c.args.place.now.instance m c.args.asked.now.nodes.now) c.args.parts.now c.loop-base.parts) e (c.loop-base.invariant.parts ns cs same)

pub returns-clause-inside : goal.returns-clause-inside
returns-clause-inside g c = spot-later c.args.asked.now.limit c.loop-base.base c.args.place.now.rows c.loop-base.found c.loop-base.invariant.low c.loop-base.invariant.spot
