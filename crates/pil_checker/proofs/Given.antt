-- Parts that give their tuples away.
use Rattle.std.proofs.Common.{ℕ, zero, suc, ◌+◌, ◌<◌, ◌≤◌, ◌≡◌, inl, inr, List, [], ◌∷◌, ◌++◌, Option, Some, None, length, length-set, get_or, set, slice_get, refl, sym, ◌∙◌, ap, subst, arith}
use Rattle.std.proofs.lemmas.Bool.{cases_eq}
use Rattle.std.proofs.lemmas.Option.{slice_get-get_or, slice_get_within}
use Rattle.pil_laws.proofs.Ranges.{ranges_same}
use Rattle.instance_pass.specs.declared.parts.Part.{Part}
use Rattle.pil_checker.specs.declared.lines.Span.{Span}
use Rattle.pil_checker.specs.Plans.{AreApart}
use Rattle.pil_checker.specs.Standing.{GiveBefore, side_of, tuples_at}
use Rattle.pil_checker.proofs.Elements.{get-set_same, get-set_other, get-push, read-found, some-same}

pub given-none : (n : ℕ) (parts : List Part) → GiveBefore n parts parts
given-none n parts = record {
  senders = record { long = refl; each = λ j p q is is'. ap (λ (r : Part). r.sender) (some-same q p (sym is' ∙ is)) };
  rest = λ k l. refl;
}

-- one more part gives its tuples away
pub given-more : (n : ℕ) (old new : List Part) (p q : Part) → GiveBefore n old new → n < length new → p ≡ get_or new n p → q.sender ≡ p.sender → GiveBefore (n + 1) old (set new n q)
given-more n old new p q h l at same = record {
  senders = record {
    long = length-set new n q ∙ h.senders.long;
    each = λ j a b is is'. elim (cases_eq j n) [
      | inl e ↦ (
          let b-is : q ≡ b = some-same q b (sym (get-set_same new n q l) ∙ ap (slice_get (set new n q)) (sym e) ∙ is') in
          let a-is : p ≡ a = some-same p a (sym (read-found new n p l at) ∙ h.rest n (omega arith) ∙ ap (slice_get old) (sym e) ∙ is) in
          ap (λ (r : Part). r.sender) (sym b-is) ∙ same ∙ ap (λ (r : Part). r.sender) a-is)
      | inr n' ↦ h.senders.each j a b is (sym (get-set_other new n j q n') ∙ is')
    ];
  };
  rest = λ k m. get-set_other new n k q (λ e. absurd (omega arith)) ∙ h.rest k (omega arith);
}

pub given-both : (n m : ℕ) (old part new : List Part) → n ≤ m → GiveBefore n old part → GiveBefore m part new → GiveBefore m old new
given-both n m old part new l f g = record {
  senders = record {
    long = g.senders.long ∙ f.senders.long;
    each = λ j p q is is'.
        let r : Part = get_or part j p in
        let there : slice_get part j ≡ Some r = slice_get-get_or part j p (let a = slice_get_within old j p is in let e = f.senders.long in omega arith) in
        g.senders.each j r q there is' ∙ f.senders.each j p r is there;
  };
  rest = λ k a. g.rest k a ∙ f.rest k (omega arith);
}

tuples_of : Option Part → List (List ℕ)
tuples_of None = []
tuples_of (Some p) = p.tuples

at-option : (parts : List Part) (k : ℕ) → tuples_at parts k ≡ tuples_of (slice_get parts k)
unfolding tuples_of
at-option [] k = refl
at-option (p ∷ parts) zero = refl
at-option (p ∷ parts) (suc k) = at-option parts k

-- the sides of the parts that kept their tuples are as they were
pub side-rest : (n m : ℕ) (old new : List Part) → GiveBefore n old new → side_of new n m ≡ side_of old n m
side-rest n m old new h = ranges_same (tuples_at new) (tuples_at old) m n n (λ k l. at-option new (n + k) ∙ ap tuples_of (h.rest (n + k) (omega arith)) ∙ sym (at-option old (n + k)))

-- one more span at the end
pub apart-more : (old new : List Span) (x : Span) (n m : ℕ) → new ≡ old ++ x ∷ [] → AreApart old n → n ≤ x.first → n ≤ m → x.end ≤ m → AreApart new m
apart-more old new x n m e h first more end = subst (λ xs. AreApart xs m) (sym e) (record {
  inside = λ k y is. elim (get-push old x y k is) [
    | inl w ↦ (let a = h.inside k y w.1 in omega arith)
    | inr w ↦ subst (λ (z : Span). z.end ≤ m) w.1 end
  ];
  apart = λ j k y z l is is'. elim (get-push old x z k is') [
    | inl w ↦ elim (get-push old x y j is) [
      | inl v ↦ h.apart j k y z l v.1 w.1
      | inr v ↦ (let a = v.0 in let b = w.0 in absurd (omega arith))
    ]
    | inr w ↦ elim (get-push old x y j is) [
      | inl v ↦ subst (λ (u : Span). y.end ≤ u.first) w.1 (let a = h.inside j y v.1 in omega arith)
      | inr v ↦ (let a = v.0 in let b = w.0 in absurd (omega arith))
    ]
  ];
})
