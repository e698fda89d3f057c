-- Each event keeps the queue and its passes sound.
use Rattle.std.proofs.Common.{◌≡◌, ◌≢◌, ℕ, zero, suc, ◌+◌, ◌<◌, Bool, true, false, if◌then◌else◌, nat_le, ◌==◌, Option, Some, None, List, [], ◌∷◌, ◌++◌, length, get_or, set, take, drop, refl, sym, ap, ◌∙◌, append_assoc, append-nil, subst, arith, length-append, length-drop}
use Rattle.std.specs.Prelude.{Result, Ok, Err, sum_by, slice_get}
use Rattle.std.specs.List.{flat_map}
use Rattle.std.specs.Option.{option_map}
use Rattle.std.proofs.lemmas.Option.{none-some}
use Rattle.std.proofs.lemmas.List.{get_or-set_other, take-append-drop}
use Rattle.std.proofs.lemmas.List.Sums.{sum_by-append, sum_by-cons, sum_by-set}
use Rattle.std.proofs.lemmas.List.Concat.{flat_map-append}
use Rattle.std.proofs.lemmas.Bool.Decides.{nat_tests}
use Rattle.pipe_core.specs.declared.event.JobId.{JobId}
use Rattle.pipe_core.specs.declared.event.CoreTicket.{CoreTicket}
use Rattle.pipe_core.specs.declared.event.CoreTicket.TheVariants.{Work, Stop}
use Rattle.pipe_core.specs.declared.event.Event.{Event}
use Rattle.pipe_core.specs.declared.event.Event.TheVariants.{Push, Pop, Keep, Split, Join}
use Rattle.pipe_core.specs.declared.event.EventErr.{EventErr}
use Rattle.pipe_core.specs.Pipe.{Holding, Pipe, new_pass, first_pipe, pass_at, is_none_there, holds_work, job_of, held_job, is_work, kept_by, kept_in}
use Rattle.pipe_core.specs.Events.{first_refusal, tests, refusal, changed, after, step, run, IsAnswer}
use Rattle.pipe_core.specs.Sound.{jobs_with, IsSound}

-- of an event that isn't refused no test holds
abbrev NoneHolds : List (Bool × EventErr) → Type 0
NoneHolds [] = Unit {0}
NoneHolds (t ∷ ts) = (t.0 ≡ false) × NoneHolds ts

not_first : (b : Bool) (r : EventErr) (next : Option EventErr) → (if b then Some r else next) ≡ None → (b ≡ false) × (next ≡ None)
not_first true r next e = absurd (none-some r (sym e))
not_first false r next e = (refl, e)

none_holds : (ts : List (Bool × EventErr)) → first_refusal ts ≡ None → NoneHolds ts
none_holds [] e = tt
none_holds (t ∷ ts) e = let n = not_first t.0 t.1 (first_refusal ts) e in (n.0, none_holds ts n.1)

is_there : (o : Option Holding) → is_none_there o ≡ false → (h : Holding) × (o ≡ Some h)
is_there None e = absurd (cc)
is_there (Some h) e = (h, refl)

is_within : (ps : List (Option Holding)) (n : ℕ) (h : Holding) → get_or ps n None ≡ Some h → n < length ps
is_within [] zero h e = absurd (none-some h e)
is_within [] (suc n) h e = absurd (none-some h e)
is_within (p ∷ ps) zero h e = omega arith
is_within (p ∷ ps) (suc n) h e = let i = is_within ps n h e in omega arith

no_job : (o : Option CoreTicket) → is_work o ≡ false → held_job o ≡ []
no_job None e = refl
no_job (Some (Work j)) e = absurd (cc)
no_job (Some Stop) e = refl

module _ (weight : JobId → ℕ) where
  sum_by-flat_map : {A : Type 0} (f : A → List JobId) (xs : List A) → sum_by weight (flat_map f xs) ≡ sum_by (λ x. sum_by weight (f x)) xs
  sum_by-flat_map f [] = refl
  sum_by-flat_map f (x ∷ xs) = sum_by-append weight (f x) (flat_map f xs) ∙ ap (λ n. sum_by weight (f x) + n) (sum_by-flat_map f xs) ∙ sym (sum_by-cons (λ y. sum_by weight (f y)) x xs)

  -- what a pass, and what all passes hold and keep
  abbrev with : Option Holding → ℕ
  with o = sum_by weight (jobs_with o)

  abbrev with_all : List (Option Holding) → ℕ
  with_all ps = sum_by weight (flat_map jobs_with ps)

  with_all-set : (ps : List (Option Holding)) (n : ℕ) (h : Holding) (o : Option Holding) → get_or ps n None ≡ Some h → with_all (set ps n o) + with (Some h) ≡ with_all ps + with o
  with_all-set ps n h o e =
      let there = sum_by-set with ps n o None (is_within ps n h e) in
      let same : with (get_or ps n None) ≡ with (Some h) = ap with e in
      omega (arith, sum_by-flat_map jobs_with ps, sum_by-flat_map jobs_with (set ps n o))

  with_all-changed : (ps : List (Option Holding)) (n : ℕ) (h : Holding) (f : Holding → Holding) → get_or ps n None ≡ Some h → with_all (changed ps n f) + with (Some h) ≡ with_all ps + with (Some (f h))
  with_all-changed ps n h f e = ap (λ o. with_all (set ps n (option_map f o)) + with (Some h)) e ∙ with_all-set ps n h (Some (f h)) e

  -- the front ticket, as it was queued and as it is held
  front : (ts : List CoreTicket) → sum_by weight (flat_map job_of (take 1 ts)) ≡ sum_by weight (held_job (slice_get ts 0))
  front [] = refl
  front (t ∷ ts) = ap (sum_by weight) (append-nil (job_of t))

pushed : (p : Pipe) (n : ℕ) (t : CoreTicket) → IsSound p → refusal p (Push n t) ≡ None → IsSound (after p (Push n t))
pushed p n t s e =
    let none = none_holds (tests p (Push n t)) e in
    let room : nat_le p.capacity (length p.queued) ≡ false = none.1.0 in record {
      in_order = ap (λ l. l ++ t ∷ []) s.in_order ∙ append_assoc p.popped p.queued (t ∷ []);
      each_once = s.each_once;
      within = let k = length-append p.queued (t ∷ []) in grind (arith, nat_tests);
    }

popped : (p : Pipe) (n : ℕ) → IsSound p → refusal p (Pop n) ≡ None → IsSound (after p (Pop n))
popped p n s e =
    let none = none_holds (tests p (Pop n)) e in
    let h = is_there (pass_at p n) none.0 in
    let free : held_job h.0.held ≡ [] = no_job h.0.held (ap holds_work (sym h.1) ∙ none.1.1.0) in record {
      in_order = s.in_order ∙ ap (λ l. p.popped ++ l) (sym (take-append-drop 1 p.queued)) ∙ sym (append_assoc p.popped (take 1 p.queued) (drop 1 p.queued));
      each_once = λ weight.
          let f = λ (x : Holding). record x { held = slice_get p.queued 0 } in
          let more = with_all-changed weight p.passes n h.0 f h.1 in
          let was : with weight (Some h.0) ≡ sum_by weight h.0.kept = ap (λ l. sum_by weight (l ++ h.0.kept)) free in
          let old = s.each_once weight in
          let new = ap (sum_by weight) (flat_map-append job_of p.popped (take 1 p.queued)) in
          omega (arith, front weight p.queued, sum_by-append weight (flat_map job_of p.popped) (flat_map job_of (take 1 p.queued)), sum_by-append weight (held_job (slice_get p.queued 0)) h.0.kept);
      within = let w = s.within in omega (arith, length-drop 1 p.queued);
    }

kept : (p : Pipe) (n : ℕ) → IsSound p → refusal p (Keep n) ≡ None → IsSound (after p (Keep n))
kept p n s e =
    let h = is_there (pass_at p n) (none_holds (tests p (Keep n)) e).0 in record {
      in_order = s.in_order;
      each_once = λ weight.
          let f = λ (x : Holding). let y : Holding = record { held = None; kept = x.kept ++ held_job x.held } in y in
          let same = with_all-changed weight p.passes n h.0 f h.1 in
          let old = s.each_once weight in
          omega (arith, sum_by-append weight h.0.kept (held_job h.0.held), sum_by-append weight (held_job h.0.held) h.0.kept);
      within = s.within;
    }

split : (p : Pipe) (n : ℕ) → IsSound p → refusal p (Split n) ≡ None → IsSound (after p (Split n))
split p n s e = record {
  in_order = s.in_order;
  each_once = λ weight. s.each_once weight ∙ ap (sum_by weight) (sym (flat_map-append jobs_with p.passes (Some new_pass ∷ []) ∙ append-nil (flat_map jobs_with p.passes)));
  within = s.within;
}

joined : (p : Pipe) (into from : ℕ) → IsSound p → refusal p (Join into from) ≡ None → IsSound (after p (Join into from))
joined p into from s e =
    let none = none_holds (tests p (Join into from)) e in
    let one = is_there (pass_at p into) none.0 in
    let two = is_there (pass_at p from) none.1.1.0 in
    let free : held_job two.0.held ≡ [] = no_job two.0.held (ap holds_work (sym two.1) ∙ none.1.1.1.0) in
    let apart : (into == from) ≡ false = none.1.0 in
    let differ : from ≢ into = λ i. grind (arith, nat_tests) in
    let f = λ (x : Holding). record x { kept = x.kept ++ kept_in p from } in
    let there : get_or (changed p.passes into f) from None ≡ Some two.0 = get_or-set_other p.passes into from (option_map f (pass_at p into)) None differ ∙ two.1 in record {
      in_order = s.in_order;
      each_once = λ weight.
          let more = with_all-changed weight p.passes into one.0 f one.1 in
          let less = with_all-set weight (changed p.passes into f) from two.0 None there in
          let given : sum_by weight (kept_in p from) ≡ with weight (Some two.0) = ap (λ o. sum_by weight (kept_by o)) two.1 ∙ ap (λ l. sum_by weight (l ++ two.0.kept)) (sym free) in
          let old = s.each_once weight in
          omega (arith, sum_by-append weight (held_job one.0.held) (one.0.kept ++ kept_in p from), sum_by-append weight (held_job one.0.held) one.0.kept, sum_by-append weight one.0.kept (kept_in p from));
      within = s.within;
    }

sound_after : (p : Pipe) (e : Event) → IsSound p → refusal p e ≡ None → IsSound (after p e)
sound_after p (Push n t) s e = pushed p n t s e
sound_after p (Pop n) s e = popped p n s e
sound_after p (Keep n) s e = kept p n s e
sound_after p (Split n) s e = split p n s e
sound_after p (Join into from) s e = joined p into from s e

-- whatever an event answers
pub sound_answer : (p : Pipe) (e : Event) (r : Result (Unit {0}) EventErr) (q : Pipe) → IsAnswer p e r q → IsSound p → IsSound q
sound_answer p e (Ok u) q a s = subst IsSound (sym a.1) (sound_after p e s a.0)
sound_answer p e (Err r) q a s = subst IsSound (sym a.1) s

sound_step : (p : Pipe) (e : Event) → IsSound p → IsSound (step p e)
sound_step p e s = go (refusal p e) refl where
  go : (r : Option EventErr) → refusal p e ≡ r → IsSound (elim r as (λ x. Pipe) [ None ↦ after p e | Some y ↦ p ])
  go None none = sound_after p e s none
  go (Some y) some = s

sound_run : (p : Pipe) (es : List Event) → IsSound p → IsSound (run p es)
sound_run p [] s = s
sound_run p (e ∷ es) s = sound_run (step p e) es (sound_step p e s)

pub sound_from_new : (capacity : ℕ) (events : List Event) → IsSound (run (first_pipe capacity) events)
sound_from_new capacity events = sound_run (first_pipe capacity) events (record { in_order = refl; each_once = λ weight. refl; within = omega arith })
