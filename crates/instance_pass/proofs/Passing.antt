-- A pass over the rows of an instance, block by block.
use Rattle.std.proofs.Common.{ℕ, ◌+◌, ◌-◌, ◌<◌, ◌≤◌, ◌≡◌, ◌↔◌, inl, inr, Option, Some, None, refl, sym, subst, arith, MatchOption}
use Rattle.std.proofs.lemmas.Bool.{cases_lt}
use Rattle.instance_pass.specs.declared.passes.Found.{Found}
use Rattle.instance_pass.specs.Passes.{AllMet, FailsIn, FailsLeast, IsPassed}

-- The facts B of a block are those of the rows from `base` on.
module _ (Q B : ℕ → ℕ → Type 0) (n limit base count : ℕ) (same : (k j : ℕ) → k < limit → j < count → B k j ↔ Q k (base + j)) where
  met-more : (k : ℕ) → k ≤ limit → AllMet Q limit base → AllMet B k count → AllMet Q k (base + count)
  met-more m low before block k r l l' = elim (cases_lt r base) [
    | inl b ↦ before k r (omega arith) b
    | inr b ↦
        let j : ℕ = r - base in
        let at : base + j ≡ r = omega arith in
        subst (Q k) at ((same k j (omega arith) (omega arith)).0 (block k j l (omega arith)))
  ]

  pub passed-none : (found : Option Found) → IsPassed Q n limit base found → AllMet B limit count → IsPassed Q n limit (base + count) found
  passed-none found h block = record { inside = h.inside; met = met-more limit (omega arith) h.met block; result = kept found h.result }
    where
      kept : (f : Option Found) → MatchOption f (limit ≡ n) (λ f. (f.check ≡ limit) × (limit < n) × FailsIn (Q f.check) base f.row) → MatchOption f (limit ≡ n) (λ f. (f.check ≡ limit) × (limit < n) × FailsIn (Q f.check) (base + count) f.row)
      kept None e = e
      kept (Some f) e = (e.0, e.1, record { row = (let l = e.2.row in omega arith); fails = e.2.fails; before = e.2.before })

  pub passed-found : (found : Option Found) (f g : Found) → IsPassed Q n limit base found → FailsLeast B limit count f.check f.row → g ≡ record { check = f.check; row = base + f.row } → IsPassed Q n f.check (base + count) (Some g)
  passed-found found f g h block is =
      let low = block.inside in
      let inside = h.inside in
      let row = block.fails.row in
      subst (λ g. IsPassed Q n f.check (base + count) (Some g)) (sym is)
      record {
        inside = omega arith;
        met = met-more f.check (omega arith) h.met block.before;
        result = (
          refl,
          omega arith,
          record {
            row = omega arith;
            fails = λ q. block.fails.fails ((same f.check f.row low row).1 q);
            before = λ q l. elim (cases_lt q base) [
              | inl b ↦ h.met f.check q low b
              | inr b ↦
                  let j : ℕ = q - base in
                  let at : base + j ≡ q = omega arith in
                  subst (Q f.check) at ((same f.check j low (omega arith)).0 (block.fails.before j (omega arith)))
            ];
          },
        );
      }

pub passed-start : (Q : ℕ → ℕ → Type 0) (n : ℕ) → IsPassed Q n n 0 None
passed-start Q n = record { inside = omega arith; met = λ k r l l'. absurd (omega arith); result = refl }

pub passed-end : (Q : ℕ → ℕ → Type 0) (n limit m rows : ℕ) (found : Option Found) → m ≡ rows → IsPassed Q n limit m found → MatchOption found (AllMet Q n rows) (λ f. FailsLeast Q n rows f.check f.row)
passed-end Q n limit m rows found e h = finish found h.result
  where
    finish : (f : Option Found) → MatchOption f (limit ≡ n) (λ f. (f.check ≡ limit) × (limit < n) × FailsIn (Q f.check) m f.row) → MatchOption f (AllMet Q n rows) (λ f. FailsLeast Q n rows f.check f.row)
    finish None w = subst (λ k. AllMet Q k rows) w (subst (AllMet Q limit) e h.met)
    finish (Some f) w = record {
      inside = (let a = w.0 in let b = w.1 in omega arith);
      fails = subst (λ k. FailsIn (Q f.check) k f.row) e w.2;
      before = subst (λ k. AllMet Q k rows) (sym w.0) (subst (AllMet Q limit) e h.met);
    }
