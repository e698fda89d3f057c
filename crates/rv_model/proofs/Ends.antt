-- Of the three ends of a run exactly one is so.
use Rattle.std.proofs.Common.{◌≡◌, ◌+◌, ◌-◌, ◌<◌, ◌≤◌, ℕ, zero, suc, refl, ap, sym, subst, ◌∙◌, inl, inr, arith, add-one}
use Rattle.std.proofs.lemmas.Bool.{cases_lt}
use Rattle.rv_model.specs.Image.{Img}
use Rattle.rv_model.specs.State.{State, Answer, Next, Halt, Fault, step, start}
use Rattle.rv_model.specs.Run.{state_at, step_at, IsNext, public_of, RunsTo, FaultsAt, MeetsLimit, End, Halted, Faulted, Limited, IsEnd, end_by, or_end, end_within, EndsOnce}
use Rattle.rv_model.specs.declared.answer.RunFault.{RunFault}
use Rattle.rv_model.specs.declared.answer.Public.{Public}

leads_more : (image : Img) (l : ℕ) (t : State) → step_at image l ≡ Next t → MeetsLimit image l → MeetsLimit image (suc l)
leads_more image l t is meets j below = elim (cases_lt j l) [
  | inl earlier ↦ meets j earlier
  | inr later ↦ let same : l ≡ j = omega arith in
      subst (λ k. IsNext (step_at image k)) same (let P : Answer → Type 0 = IsNext in subst P (sym is) tt)
]

halts_at : (image : Img) (l : ℕ) (public : Public) → step_at image l ≡ Halt → MeetsLimit image l → public ≡ public_of (state_at image l) → RunsTo image (l + 1) public
halts_at image l public is meets told =
    let back : l + 1 - 1 ≡ l = omega arith in record {
      some = omega arith;
      on = λ j below. meets j (omega arith);
      halt = rw back is;
      told = rw back told;
    }

end_of_step : (image : Img) (l : ℕ) (a : Answer) → step_at image l ≡ a → MeetsLimit image l → IsEnd image (suc l) (end_by l (state_at image l) a)
end_of_step image l (Next t) is meets = leads_more image l t is meets
end_of_step image l Halt is meets = (omega arith, halts_at image l _ is meets refl)
end_of_step image l (Fault f) is meets = (l, omega arith, record { on = meets; is = is })

end_more : (image : Img) (l : ℕ) (e : End) → IsEnd image l e → IsEnd image (suc l) (or_end e (end_by l (state_at image l) (step_at image l)))
end_more image l (Halted n public) (few, runs) = (omega arith, runs)
end_more image l (Faulted f) (j, below, faults) = (j, omega arith, faults)
end_more image l Limited meets = end_of_step image l (step_at image l) refl meets

is_end : (image : Img) (limit : ℕ) → IsEnd image limit (end_within image limit)
unfolding end_within
is_end image zero = λ j below. absurd (omega arith)
is_end image (suc limit) = end_more image limit (end_within image limit) (is_end image limit)

-- two steps that are both the first not to lead on are one
same_stop : (image : Img) (j k : ℕ) → MeetsLimit image j → MeetsLimit image k → (IsNext (step_at image j) → ⊥) → (IsNext (step_at image k) → ⊥) → j ≡ k
same_stop image j k before_j before_k stops_j stops_k = elim (cases_lt j k) [
  | inl less ↦ absurd (stops_j (before_k j less))
  | inr no_less ↦ elim (cases_lt k j) [ inl more ↦ absurd (stops_k (before_j k more)) | inr no_more ↦ omega arith ]
]

halt_stops : (a : Answer) → a ≡ Halt → IsNext a → ⊥
halt_stops a is next = subst IsNext is next

fault_stops : (a : Answer) (f : RunFault) → a ≡ Fault f → IsNext a → ⊥
fault_stops a f is next = subst IsNext is next

before_halt : (image : Img) (n : ℕ) (public : Public) → RunsTo image n public → MeetsLimit image (n - 1)
before_halt image n public runs j below = runs.on j (omega arith)

stops_at_halt : (image : Img) (n : ℕ) (public : Public) → RunsTo image n public → IsNext (step_at image (n - 1)) → ⊥
stops_at_halt image n public runs = halt_stops (step_at image (n - 1)) runs.halt

halt_or_fault : (image : Img) (n j : ℕ) (public : Public) (f : RunFault) → RunsTo image n public → FaultsAt image j f → ⊥
halt_or_fault image n j public f runs faults =
    let same : n - 1 ≡ j = same_stop image (n - 1) j (before_halt image n public runs) faults.on (stops_at_halt image n public runs) (fault_stops (step_at image j) f faults.is) in
    let both : step_at image j ≡ Halt = subst (λ k. step_at image k ≡ Halt) same runs.halt in
    let clash : Halt ≡ Fault f = sym both ∙ faults.is in cc

same_halt : (image : Img) (n m : ℕ) (p q : Public) → RunsTo image n p → RunsTo image m q → Halted n p ≡ Halted m q
same_halt image n m p q h k =
    let stop : n - 1 ≡ m - 1 = same_stop image (n - 1) (m - 1) (before_halt image n p h) (before_halt image m q k) (stops_at_halt image n p h) (stops_at_halt image m q k) in
    let number : n ≡ m = omega (arith, h.some, k.some, stop) in
    let told : p ≡ q = h.told ∙ ap (λ j. public_of (state_at image j)) stop ∙ sym k.told in cc

same_fault : (image : Img) (j k : ℕ) (f g : RunFault) → FaultsAt image j f → FaultsAt image k g → Faulted f ≡ Faulted g
same_fault image j k f g h i =
    let stop : j ≡ k = same_stop image j k h.on i.on (fault_stops (step_at image j) f h.is) (fault_stops (step_at image k) g i.is) in
    let both : Fault f ≡ Fault g = sym h.is ∙ ap (step_at image) stop ∙ i.is in cc

halt_in_time : (image : Img) (limit n : ℕ) (p : Public) → n ≤ limit → RunsTo image n p → MeetsLimit image limit → ⊥
halt_in_time image limit n p few runs meets = stops_at_halt image n p runs (meets (n - 1) (omega (arith, runs.some)))

fault_in_time : (image : Img) (limit j : ℕ) (f : RunFault) → j < limit → FaultsAt image j f → MeetsLimit image limit → ⊥
fault_in_time image limit j f below faults meets = fault_stops (step_at image j) f faults.is (meets j below)

only_end : (image : Img) (limit : ℕ) (d e : End) → IsEnd image limit d → IsEnd image limit e → d ≡ e
only_end image limit (Halted n p) (Halted m q) h k = same_halt image n m p q h.1 k.1
only_end image limit (Halted n p) (Faulted f) h k = absurd (halt_or_fault image n k.0 p f h.1 k.2)
only_end image limit (Halted n p) Limited h k = absurd (halt_in_time image limit n p h.0 h.1 k)
only_end image limit (Faulted f) (Halted n p) h k = absurd (halt_or_fault image n h.0 p f k.1 h.2)
only_end image limit (Faulted f) (Faulted g) h k = same_fault image h.0 k.0 f g h.2 k.2
only_end image limit (Faulted f) Limited h k = absurd (fault_in_time image limit h.0 f h.1 h.2 k)
only_end image limit Limited (Halted n p) h k = absurd (halt_in_time image limit n p k.0 k.1 h)
only_end image limit Limited (Faulted f) h k = absurd (fault_in_time image limit k.0 f k.1 k.2 h)
only_end image limit Limited Limited h k = refl

pub ends_once : (image : Img) (limit : ℕ) → EndsOnce image limit
ends_once image limit = record { is = is_end image limit; only = λ end h. only_end image limit end (end_within image limit) h (is_end image limit) }

-- the states of a run, step after step
pub state_first : (image : Img) → start image ≡ state_at image 0
unfolding state_at
state_first image = refl

pub state_next : (image : Img) (i : ℕ) (s t : State) → s ≡ state_at image i → step image s ≡ Next t → t ≡ state_at image (i + 1)
unfolding state_at
state_next image i s t here is =
    let led : step_at image i ≡ Next t = subst (λ u. step image u ≡ Next t) here is in rw (add-one, led) refl

pub meets_none : (image : Img) → MeetsLimit image 0
meets_none image j below = absurd (omega arith)

pub meets_next : (image : Img) (i : ℕ) (s t : State) → s ≡ state_at image i → step image s ≡ Next t → MeetsLimit image i → MeetsLimit image (i + 1)
meets_next image i s t here is meets =
    let led : step_at image i ≡ Next t = subst (λ u. step image u ≡ Next t) here is in rw add-one (leads_more image i t led meets)

-- a run that has come to step i ends by what that step answers, or meets its limit
pub end_at_halt : (image : Img) (limit i : ℕ) (s : State) (public : Public) → s ≡ state_at image i → MeetsLimit image i → i < limit → step image s ≡ Halt → public ≡ public_of s → end_within image limit ≡ Halted (i + 1) public
end_at_halt image limit i s public here meets below is told =
    let led : step_at image i ≡ Halt = subst (λ u. step image u ≡ Halt) here is in
    let known : public ≡ public_of (state_at image i) = subst (λ u. public ≡ public_of u) here told in
    sym ((ends_once image limit).only (Halted (i + 1) public) (omega arith, halts_at image i public led meets known))

pub end_at_fault : (image : Img) (limit i : ℕ) (s : State) (f : RunFault) → s ≡ state_at image i → MeetsLimit image i → i < limit → step image s ≡ Fault f → end_within image limit ≡ Faulted f
end_at_fault image limit i s f here meets below is =
    let led : step_at image i ≡ Fault f = subst (λ u. step image u ≡ Fault f) here is in
    sym ((ends_once image limit).only (Faulted f) (i, below, record { on = meets; is = led }))

pub end_at_limit : (image : Img) (limit i : ℕ) → i ≡ limit → MeetsLimit image i → end_within image limit ≡ Limited
end_at_limit image limit i same meets = sym ((ends_once image limit).only Limited (subst (MeetsLimit image) same meets))
