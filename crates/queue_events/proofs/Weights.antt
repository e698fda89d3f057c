-- What tickets and jobs weigh, over the views of all passes.
use Rattle.std.proofs.Common.{◌≡◌, ℕ, zero, suc, ◌+◌, List, [], ◌∷◌, ◌++◌, set, sym, ap, ◌∙◌, append-nil, arith}
use Rattle.std.specs.Prelude.{sum_by}
use Rattle.std.specs.List.{flat_map}
use Rattle.std.proofs.lemmas.List.{map-append}
use Rattle.std.proofs.lemmas.List.Concat.{flat_map-append}
use Rattle.std.proofs.lemmas.List.Sums.{sum_by-append, sum_by_push}
use mathlib.Core.Option.{some, some-injective, some-ne-none}
use lib.ListN.{get_elem?}
use Rattle.job_queue.specs.declared.ticket.Ticket.{Ticket}
use Rattle.pipe_core.specs.Pipe.{job_of}
use Rattle.pipe_core.specs.Sound.{jobs_among}
use Rattle.pipe_core.specs.declared.event.JobId.{JobId}
use Rattle.pipe_core.specs.declared.event.CoreTicket.{CoreTicket}
use Rattle.queue_events.specs.Stands.{core_ticket, core_tickets}

module _ {V T : Type 0} (h : T → ℕ) (f : V → List T) where
  -- what all of f weighs
  abbrev pub total : List V → ℕ
  total xs = sum_by h (flat_map f xs)

  pub total-cons : (x : V) (xs : List V) → total (x ∷ xs) ≡ sum_by h (f x) + total xs
  total-cons x xs = sum_by-append h (f x) (flat_map f xs)

  pub total-set : (xs : List V) (n : ℕ) (v w : V) → get_elem? xs n ≡ some v → total (set xs n w) + sum_by h (f v) ≡ total xs + sum_by h (f w)
  total-set [] zero v w at = absurd (some-ne-none v (sym at))
  total-set [] (suc n) v w at = absurd (some-ne-none v (sym at))
  total-set (x ∷ xs) zero v w at =
      let is : sum_by h (f x) ≡ sum_by h (f v) = ap (λ y. sum_by h (f y)) (some-injective x v at) in
      omega (arith, total-cons w xs, total-cons x xs)
  total-set (x ∷ xs) (suc n) v w at = let r = total-set xs n v w at in omega (arith, total-cons x (set xs n w), total-cons x xs)

  pub total_push : (xs : List V) (v : V) → total (xs ++ v ∷ []) ≡ total xs + sum_by h (f v)
  total_push xs v = ap (sum_by h) (flat_map-append f xs (v ∷ []) ∙ ap (λ l. flat_map f xs ++ l) (append-nil (f v))) ∙ sum_by-append h (flat_map f xs) (f v)

-- one more ticket, and those of two lists
pub tickets_push : (weight : CoreTicket → ℕ) (ts : List Ticket) (t : Ticket) → sum_by weight (core_tickets (ts ++ t ∷ [])) ≡ sum_by weight (core_tickets ts) + weight (core_ticket t)
tickets_push weight ts t = ap (sum_by weight) (map-append core_ticket ts (t ∷ [])) ∙ sum_by_push weight (core_tickets ts) (core_ticket t)

pub tickets-append : (weight : CoreTicket → ℕ) (ts us : List Ticket) → sum_by weight (core_tickets (ts ++ us)) ≡ sum_by weight (core_tickets ts) + sum_by weight (core_tickets us)
tickets-append weight ts us = ap (sum_by weight) (map-append core_ticket ts us) ∙ sum_by-append weight (core_tickets ts) (core_tickets us)

-- and their jobs
pub jobs_push : (weight : JobId → ℕ) (ts : List Ticket) (t : Ticket)
    → sum_by weight (jobs_among (core_tickets (ts ++ t ∷ []))) ≡ sum_by weight (jobs_among (core_tickets ts)) + sum_by weight (job_of (core_ticket t))
jobs_push weight ts t = ap (λ l. sum_by weight (jobs_among l)) (map-append core_ticket ts (t ∷ [])) ∙ total_push weight job_of (core_tickets ts) (core_ticket t)

pub jobs-append : (weight : JobId → ℕ) (ts us : List Ticket)
    → sum_by weight (jobs_among (core_tickets (ts ++ us))) ≡ sum_by weight (jobs_among (core_tickets ts)) + sum_by weight (jobs_among (core_tickets us))
jobs-append weight ts us =
    ap (λ l. sum_by weight (jobs_among l)) (map-append core_ticket ts us)
    ∙ ap (sum_by weight) (flat_map-append job_of (core_tickets ts) (core_tickets us))
    ∙ sum_by-append weight (jobs_among (core_tickets ts)) (jobs_among (core_tickets us))
