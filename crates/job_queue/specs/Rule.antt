-- What holds of the queue and of all passes at every moment.
use Rattle.std.specs.Prelude.{◌≡◌, ℕ, ◌+◌, ◌-◌, ◌<◌, ◌⊎◌, List, [], ◌∷◌, ◌++◌, All, sum_by}
use Rattle.std.specs.List.{flat_map}
use mathlib.Core.Option.{some}
use lib.ListN.{get_elem?}
use Rattle.rv_model.specs.Image.{Img}
use Rattle.job_queue.specs.Truth.{IsTrueOf}
use Rattle.job_queue.specs.declared.rule.View.{View}
use Rattle.job_queue.specs.declared.ticket.Ticket.{Ticket}

-- the one pass of a new queue: it has all shares, and did nothing yet
abbrev pub whole : Img → ℕ → View
whole image shares = record { image = image; all = shares; shares = shares; pushed = []; taken = [] }

-- before a queue's image and shares are named
abbrev pub no_image : Img
no_image = record { entry = 0; segments = []; input = [] }

abbrev pub blank : View
blank = whole no_image 1

-- a pass that was joined to another
abbrev pub spent : View
spent = whole no_image 0

-- after a push and after a pop
abbrev pub with_pushed : View → Ticket → View
with_pushed v t = record v { pushed = v.pushed ++ t ∷ [] }

abbrev pub with_taken : View → Ticket → View
with_taken v t = record v { taken = v.taken ++ t ∷ [] }

-- after a split, the pass itself and the new one
abbrev pub less_one : View → View
less_one v = record v { shares = v.shares - 1 }

abbrev pub one_of : View → View
one_of v = record v { shares = 1; pushed = []; taken = [] }

-- after a join
abbrev pub joined : View → View → View
joined v w = record v { shares = v.shares + w.shares; pushed = v.pushed ++ w.pushed; taken = v.taken ++ w.taken }

-- each ticket is in the one list as often as in the other: however tickets are weighed, both weigh the same
abbrev pub HaveSameTickets : List Ticket → List Ticket → Type 0
HaveSameTickets xs ys = (weight : Ticket → ℕ) → sum_by weight xs ≡ sum_by weight ys

-- a pass that isn't spent: it has a share, names the image, and took true tickets alone
pub record IsLive (image : Img) (all : ℕ) (v : View) : Type 0 where
  pub share : 0 < v.shares
  pub names : v.image ≡ image
  pub counts : v.all ≡ all
  pub took : All (IsTrueOf image) v.taken

abbrev pub Fits : Img → ℕ → View → Type 0
Fits image all v = (v ≡ spent) ⊎ IsLive image all v

-- of what is queued and of the views of all passes
pub record IsKept (items : List Ticket) (views : List View) : Type 0 where
  -- one image and one number of shares for all
  pub image : Img
  pub all : ℕ
  pub passes : All (Fits image all) views
  pub shares : sum_by (λ (v : View). v.shares) views ≡ all
  -- what is queued is true
  pub queued : All (IsTrueOf image) items
  -- what all pushed is what all took and what is queued
  pub balanced : HaveSameTickets (flat_map (λ (v : View). v.pushed) views) (flat_map (λ (v : View). v.taken) views ++ items)

-- a moment at which a pass with this view was among all, and these were queued
abbrev pub IsSeen : View → List Ticket → Type 0
IsSeen v items = (port : ℕ) × (views : List View) × IsKept items views × (get_elem? views port ≡ some v)
