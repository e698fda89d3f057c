-- What a caller knows of a queue and of its passes.
use Rattle.std.specs.Prelude.{◌≡◌, ℕ, ◌<◌}
use Rattle.std.specs.Arc.{arc_value}
use Rattle.crossbeam_queue.specs.Passes.{Pass, view, IsPassOf, ruled_capacity}
use Rattle.rv_model.specs.Image.{Img}
use Rattle.job_queue.specs.declared.ticket.Ticket.{Ticket}
use Rattle.job_queue.specs.declared.rule.View.{View}
use Rattle.job_queue.specs.declared.queue.JobQueue.{JobQueue}

-- how many tickets the queue holds at most, the shares of all its passes together, and the image whose jobs it holds
abbrev pub capacity_of : JobQueue → ℕ
capacity_of q = ruled_capacity q.line

abbrev pub shares_of : JobQueue → ℕ
shares_of q = q.shares

abbrev pub image_of : JobQueue → Img
image_of q = arc_value q.image

-- it is a pass of this queue, has a share, and names the queue's image and shares
pub record IsOf (q : JobQueue) (p : Pass Ticket View) : Type 0 where
  pub line : IsPassOf q.line p
  pub share : 0 < (view p).shares
  pub all : (view p).all ≡ shares_of q
  pub image : (view p).image ≡ image_of q

-- it has all shares, so it is the only one
abbrev pub HasAll : JobQueue → Pass Ticket View → Type 0
HasAll q p = (view p).shares ≡ shares_of q
