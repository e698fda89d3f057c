-- Each step keeps the rule of the queue.
use Rattle.std.proofs.Common.{◌≡◌, ◌≢◌, ℕ, zero, suc, ◌+◌, ◌<◌, inl, inr, ⊎_elim, List, [], ◌∷◌, ◌++◌, length, set, refl, sym, ap, subst, ◌∙◌, arith}
use Rattle.std.specs.Prelude.{All, sum_by}
use Rattle.std.specs.List.{flat_map}
use Rattle.std.proofs.lemmas.List.Elements.{All-nil, All-cons, All-head, All-tail, All-set, All-push, All-append}
use Rattle.std.proofs.lemmas.List.Sums.{sum_by-cons, sum_by_push, sum_by-append}
use mathlib.Core.Option.{some, some-injective, some-ne-none}
use lib.ListN.{get_elem?}
use Rattle.crossbeam_queue.specs.Fifo.{Pushes, Pops, Forks, Merges, Learns, Held}
use Rattle.crossbeam_queue.proofs.Lists.{at_set}
use Rattle.rv_model.specs.Image.{Img}
use Rattle.job_queue.specs.Truth.{IsTrueOf}
use Rattle.job_queue.specs.Rule.{whole, no_image, blank, spent, with_pushed, with_taken, less_one, one_of, joined, HaveSameTickets, IsLive, Fits, IsKept, IsSeen}
use Rattle.job_queue.specs.declared.ticket.Ticket.{Ticket}
use Rattle.job_queue.specs.declared.rule.View.{View}
use Rattle.job_queue.proofs.Totals.{All-there, sum_by-flat_map, total-set, part_of_total, total_of_one}

abbrev share : View → ℕ
share v = v.shares

-- what a pass pushed and took weighs
abbrev pushed : (Ticket → ℕ) → View → ℕ
pushed h v = sum_by h v.pushed

abbrev taken : (Ticket → ℕ) → View → ℕ
taken h v = sum_by h v.taken

live : (image : Img) (all : ℕ) (v : View) → 0 < v.shares → Fits image all v → IsLive image all v
live image all v has_one (inl is) = let none : v.shares ≡ 0 = ap share is in absurd (omega arith)
live image all v has_one (inr l) = l

is_spent : (image : Img) (all : ℕ) (v : View) → Fits image all v → v.shares ≡ 0 → v ≡ spent
is_spent image all v (inl is) none = is
is_spent image all v (inr l) none = let has_one = l.share in absurd (omega arith)

-- the pass with this number
mine : (items : List Ticket) (views : List View) (port : ℕ) (v : View) (k : IsKept items views) → get_elem? views port ≡ some v → 0 < v.shares → IsLive k.image k.all v
mine items views port v k at has_one = live k.image k.all v has_one (All-there (Fits k.image k.all) views port v k.passes at)

-- what all passes pushed, weighed
weighed : (items : List Ticket) (views : List View) → IsKept items views → (h : Ticket → ℕ) → sum_by (pushed h) views ≡ sum_by (taken h) views + sum_by h items
weighed items views k h =
    let b = k.balanced h in
    let t = flat_map (λ (v : View). v.taken) views in
    omega (arith, sum_by-flat_map h (λ (v : View). v.pushed) views, sum_by-flat_map h (λ (v : View). v.taken) views, sum_by-append h t items)

-- the rule over other items and views, where the sums come out
kept : (image : Img) (all : ℕ) (items : List Ticket) (views : List View) → All (Fits image all) views → sum_by share views ≡ all → All (IsTrueOf image) items
    → ((h : Ticket → ℕ) → sum_by (pushed h) views ≡ sum_by (taken h) views + sum_by h items) → IsKept items views
kept image all items views passes shares queued sums = record {
  image = image;
  all = all;
  passes = passes;
  shares = shares;
  queued = queued;
  balanced = λ h.
      let b = sums h in
      let t = flat_map (λ (v : View). v.taken) views in
      omega (arith, sum_by-flat_map h (λ (v : View). v.pushed) views, sum_by-flat_map h (λ (v : View). v.taken) views, sum_by-append h t items);
}

pub begins : IsKept [] (blank ∷ [])
begins =
    let fits = All-cons (Fits no_image 1) blank [] (inr (record { share = omega arith; names = refl; counts = refl; took = All-nil (IsTrueOf no_image) })) (All-nil (Fits no_image 1)) in
    kept no_image 1 [] (blank ∷ []) fits refl (All-nil (IsTrueOf no_image)) (λ h. refl)

pub puts : (n port : ℕ) (v : View) (t : Ticket) → 0 < v.shares → IsTrueOf v.image t → Pushes IsKept n port v t (λ w. w ≡ with_pushed v t)
puts n port v t has_one is items views room k at =
    let w = with_pushed v t in
    let l = mine items views port v k at has_one in (
      w,
      kept k.image k.all (items ++ t ∷ []) (set views port w)
          (All-set (Fits k.image k.all) views port w (inr (record { share = l.share; names = l.names; counts = l.counts; took = l.took })) k.passes)
          (let s = total-set share views port v w at in let a = k.shares in omega arith)
          (All-push (IsTrueOf k.image) items t k.queued (subst (λ i. IsTrueOf i t) l.names is))
          (λ h.
          let p = total-set (pushed h) views port v w at in
          let q = total-set (taken h) views port v w at in
          let b = weighed items views k h in omega (arith, sum_by_push h v.pushed t, sum_by_push h items t)),
      refl,
    )

pub takes : (port : ℕ) (v : View) → 0 < v.shares → Pops IsKept port v (λ t w. (w ≡ with_taken v t) × IsTrueOf v.image t)
takes port v has_one t items views k at =
    let w = with_taken v t in
    let l = mine (t ∷ items) views port v k at has_one in
    let is = All-head (IsTrueOf k.image) t items k.queued in (
      w,
      kept k.image k.all items (set views port w)
          (All-set (Fits k.image k.all) views port w (inr (record { share = l.share; names = l.names; counts = l.counts; took = All-push (IsTrueOf k.image) v.taken t l.took is })) k.passes)
          (let s = total-set share views port v w at in let a = k.shares in omega arith)
          (All-tail (IsTrueOf k.image) t items k.queued)
          (λ h.
          let p = total-set (pushed h) views port v w at in
          let q = total-set (taken h) views port v w at in
          let b = weighed (t ∷ items) views k h in omega (arith, sum_by_push h v.taken t, sum_by-cons h t items)),
      (refl, subst (λ i. IsTrueOf i t) (sym l.names) is),
    )

pub forks : (port : ℕ) (v : View) → 1 < v.shares → Forks IsKept port v (less_one v) (one_of v)
forks port v two items views k at =
    let a = less_one v in
    let b = one_of v in
    let l = mine items views port v k at (omega arith) in
    let fits_a : Fits k.image k.all a = inr (record { share = omega arith; names = l.names; counts = l.counts; took = l.took }) in
    let fits_b : Fits k.image k.all b = inr (record { share = omega arith; names = l.names; counts = l.counts; took = All-nil (IsTrueOf k.image) }) in
    kept k.image k.all items (set views port a ++ b ∷ [])
    (All-push (Fits k.image k.all) (set views port a) b (All-set (Fits k.image k.all) views port a fits_a k.passes) fits_b)
    (let s = total-set share views port v a at in let p = sum_by_push share (set views port a) b in let q = k.shares in omega arith)
    k.queued
    (λ h.
    let p = total-set (pushed h) views port v a at in
    let q = total-set (taken h) views port v a at in
    let r = weighed items views k h in omega (arith, sum_by_push (pushed h) (set views port a) b, sum_by_push (taken h) (set views port a) b))

pub merges : (port : ℕ) (v : View) (other : ℕ) (w : View) → 0 < v.shares → 0 < w.shares → Merges IsKept port v other w (joined v w) spent
merges port v other w has_v has_w items views k at apart at' =
    let a = joined v w in
    let vs = set views port a in
    let was : get_elem? views other ≡ some w =
    ⊎_elim (λ (x : (other ≡ port) × (a ≡ w)). absurd (apart x.0)) (λ (x : (other ≢ port) × (get_elem? views other ≡ some w)). x.1) (at_set views port other a w at') in
    let l = mine items views port v k at has_v in
    let m = mine items views other w k was has_w in
    let fits_a : Fits k.image k.all a = inr (record { share = omega arith; names = l.names; counts = l.counts; took = All-append (IsTrueOf k.image) v.taken w.taken l.took m.took }) in
    kept k.image k.all items (set vs other spent)
    (All-set (Fits k.image k.all) vs other spent (inl refl) (All-set (Fits k.image k.all) views port a fits_a k.passes))
    (let s = total-set share views port v a at in let t = total-set share vs other w spent at' in let q = k.shares in omega arith)
    k.queued
    (λ h.
    let s = total-set (pushed h) views port v a at in
    let t = total-set (taken h) views port v a at in
    let p = total-set (pushed h) vs other w spent at' in
    let q = total-set (taken h) vs other w spent at' in
    let r = weighed items views k h in omega (arith, sum_by-append h v.pushed w.pushed, sum_by-append h v.taken w.taken))

pub learns : (port : ℕ) (v : View) → Learns IsKept port v (IsSeen v)
learns port v items views k at = (port, views, k, at)

-- a pass that has all shares knows what is queued
pub alone : (v : View) (items : List Ticket) → 0 < v.shares → v.shares ≡ v.all → IsSeen v items → (h : Ticket → ℕ) → sum_by h v.pushed ≡ sum_by h v.taken + sum_by h items
alone v items has_one has_all seen h =
    let port = seen.0 in
    let views = seen.1 in
    let k = seen.2 in
    let l = mine items views port v k seen.3 has_one in
    let all_mine : sum_by share views ≡ v.shares = k.shares ∙ sym l.counts ∙ sym has_all in
    let a = total_of_one (Fits k.image k.all) share (pushed h) (λ u fits none. ap (pushed h) (is_spent k.image k.all u fits none)) views port v k.passes seen.3 all_mine in
    let b = total_of_one (Fits k.image k.all) share (taken h) (λ u fits none. ap (taken h) (is_spent k.image k.all u fits none)) views port v k.passes seen.3 all_mine in
    let c = weighed items views k h in omega arith

-- all passes without shares are spent, whatever the image
all_spent : (image other : Img) (all n : ℕ) (views : List View) → All (Fits image all) views → sum_by share views ≡ 0 → All (Fits other n) views
all_spent image other all n [] fits none = All-nil (Fits other n)
all_spent image other all n (v ∷ vs) fits none =
    let s = sum_by-cons share v vs in
    All-cons (Fits other n) v vs (inl (is_spent image all v (All-head (Fits image all) v vs fits) (omega arith))) (all_spent image other all n vs (All-tail (Fits image all) v vs fits) (omega arith))

-- where one pass has all shares, it alone decides
one_live : (image other : Img) (all n : ℕ) (views : List View) (port : ℕ) (v w : View) → All (Fits image all) views → get_elem? views port ≡ some v → sum_by share views ≡ v.shares → Fits other n w → All (Fits other n) (set views port w)
one_live image other all n [] zero v w fits at has_all is = absurd (some-ne-none v (sym at))
one_live image other all n [] (suc port) v w fits at has_all is = absurd (some-ne-none v (sym at))
one_live image other all n (x ∷ xs) zero v w fits at has_all is =
    let s = sum_by-cons share x xs in
    let e : x.shares ≡ v.shares = ap share (some-injective x v at) in
    All-cons (Fits other n) w xs is (all_spent image other all n xs (All-tail (Fits image all) x xs fits) (omega arith))
one_live image other all n (x ∷ xs) (suc port) v w fits at has_all is =
    let s = sum_by-cons share x xs in
    let m = part_of_total share xs port v at in
    All-cons (Fits other n) x (set xs port w) (inl (is_spent image all x (All-head (Fits image all) x xs fits) (omega arith)))
    (one_live image other all n xs port v w (All-tail (Fits image all) x xs fits) at (omega arith) is)

-- where no ticket weighs anything, there is none
none_true : (image : Img) (items : List Ticket) → sum_by (λ _. 1) items ≡ 0 → All (IsTrueOf image) items
none_true image [] none = All-nil (IsTrueOf image)
none_true image (t ∷ ts) none = absurd (omega (arith, sum_by-cons (λ _. 1) t ts))

-- the one pass of a queue that is for nothing yet names its image and its shares
pub starts : (port : ℕ) (image : Img) (n : ℕ) → 0 < n → Forks IsKept port blank (whole image n) spent
starts port image n has_one items views k at =
    let a = whole image n in
    let l = mine items views port blank k at (omega arith) in
    let vs = set views port a in
    let fits_a : Fits image n a = inr (record { share = has_one; names = refl; counts = refl; took = All-nil (IsTrueOf image) }) in
    let all_mine : sum_by share views ≡ 1 = k.shares ∙ sym l.counts in
    kept image n items (vs ++ spent ∷ [])
    (All-push (Fits image n) vs spent (one_live k.image image k.all n views port blank a k.passes at all_mine fits_a) (inl refl))
    (let s = total-set share views port blank a at in let p = sum_by_push share vs spent in omega arith)
    (none_true image items (let e = alone blank items (omega arith) refl (port, views, k, at) (λ _. 1) in omega arith))
    (λ h.
    let s = total-set (pushed h) views port blank a at in
    let t = total-set (taken h) views port blank a at in
    let r = weighed items views k h in omega (arith, sum_by_push (pushed h) vs spent, sum_by_push (taken h) vs spent))

ones : (ts : List Ticket) → sum_by (λ _. 1) ts ≡ length ts
ones [] = refl
ones (t ∷ ts) = let h = ones ts in omega (arith, sum_by-cons (λ _. 1) t ts)

-- at a moment with n tickets in the queue
pub found : (v : View) (n : ℕ) → Held n (IsSeen v) → 0 < v.shares → v.shares ≡ v.all → length v.pushed ≡ length v.taken + n
found v n held has_one has_all = let e = alone v held.0 has_one has_all held.2 (λ _. 1) in let i = held.1 in omega (arith, ones v.pushed, ones v.taken, ones held.0)

pub found_none : (v : View) → Held 0 (IsSeen v) → 0 < v.shares → v.shares ≡ v.all → HaveSameTickets v.pushed v.taken
found_none v held has_one has_all h = go held.0 held.1 (alone v held.0 has_one has_all held.2 h) where
  go : (items : List Ticket) → length items ≡ 0 → sum_by h v.pushed ≡ sum_by h v.taken + sum_by h items → sum_by h v.pushed ≡ sum_by h v.taken
  go [] none e = e ∙ omega arith
  go (t ∷ ts) none e = absurd (omega arith)
