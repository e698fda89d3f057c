-- What a plan keeps: a track for each air.
use Rattle.std.proofs.Common.{◌≡◌, ◌+◌, ◌*◌, ◌/◌, ◌<◌, ◌≤◌, ◌^◌, ℕ, List, [], ◌∷◌, ◌++◌, length, refl, ap, sym, ◌∙◌, arith}
use Rattle.std.specs.List.{flat_map}
use Rattle.std.proofs.Math.Nat.{lt-div-mul-add}
use Rattle.std.proofs.lemmas.List.{length_push, length-append, take_at, take-append-le}
use Rattle.zk_layout.specs.Air.{rows_per}
use Rattle.zk_layout.specs.declared.air.Air.{Air}
use Rattle.zk_layout.specs.declared.air.Air.TheVariants.{Main, Mem, Binary, Shift, Arith, Align, Out}
use Rattle.planner.specs.declared.counts.Counts.{Counts}
use Rattle.planner.specs.declared.job.Job.{Job}
use Rattle.planner.specs.declared.track.Track.{Track}
use Rattle.planner.specs.declared.track.Tracks.{Tracks}
use Rattle.planner.specs.Rows.{rows_in, IsOfChunk}
use Rattle.planner.specs.Jobs.{job_of, total, became_whole, added, airs}
use Rattle.planner.specs.Track.{IsBefore, IsTrack, IsNext, IsKept, track_in, made_of}
use Rattle.planner.proofs.Walk.{total_push}
use Rattle.planner.proofs.Whole.{positive, div_mono, whole_pushed}
use Rattle.planner.proofs.Once.{flat_map_same, no_mem_rows, no_out_rows}

-- a chunk's rows of an air are no more than an instance's
rows_of_chunk : (air : Air) (c : Counts) → IsOfChunk c → rows_in air c ≤ 1024
unfolding rows_in
rows_of_chunk Main c h = h.main
rows_of_chunk Mem c h = omega arith
rows_of_chunk Binary c h = h.sums
rows_of_chunk Shift c h = h.shifts
rows_of_chunk Arith c h = h.products
rows_of_chunk Align c h = h.accesses
rows_of_chunk Out c h = omega arith

within_instance : (air : Air) (c : Counts) → IsOfChunk c → rows_in air c ≤ rows_per air
unfolding rows_in rows_per
within_instance Main c h = omega (arith, h.main)
within_instance Mem c h = omega arith
within_instance Binary c h = omega (arith, h.sums)
within_instance Shift c h = omega (arith, h.shifts)
within_instance Arith c h = omega (arith, h.products)
within_instance Align c h = omega (arith, h.accesses)
within_instance Out c h = omega arith

-- a track of an air without rows
no_track : (air : Air) (cs : List Counts) → total air cs ≡ 0 → IsTrack air cs (record { rows = 0; chunk = 0; before = 0 })
no_track air cs e = record {
  exact = sym e;
  most = omega arith;
  open_job = record { there = omega arith; row = refl; low = omega arith };
}

pub track_new : (air : Air) (t : Track) → t ≡ record { rows = 0; chunk = 0; before = 0 } → IsTrack air [] t
track_new air t e = rw e (no_track air [] refl)

pub before_more : (air : Air) (cs ds : List Counts) (i k first : ℕ) → IsBefore air cs i k first → IsBefore air (cs ++ ds) i k first
before_more air cs ds i k first b = record {
  there = omega (arith, b.there, length-append cs ds);
  row = b.row ∙ ap (total air) (sym (take-append-le k cs ds b.there));
  low = b.low;
}

below_next : (a b r : ℕ) → 0 < r → a / r < b / r → a ≤ b / r * r
below_next a b r pos h = let low : a < a / r * r + r = lt-div-mul-add pos in grind arith

-- the next job begins in the chunk in which the last one became whole, or after it
pub track_onward : (air : Air) (known : List Counts) (c : Counts) (a : Track) (n size number : ℕ) → n ≡ rows_in air c → size ≡ rows_per air → length known ≡ number
    → IsOfChunk c → IsTrack air known a → a.rows / size < (a.rows + n) / size → IsTrack air (known ++ c ∷ []) (record { rows = a.rows + n; chunk = number; before = a.rows })
track_onward air known c a n size number e s l few t more = record {
  exact = omega (arith, t.exact, total_push air known c);
  most = omega (arith, t.most, rows_of_chunk air c few, length_push known c);
  open_job = record {
    there = omega (arith, length_push known c);
    row = t.exact ∙ ap (total air) (sym (take_at known (c ∷ []) number l));
    low = rw (← s) (below_next a.rows (a.rows + n) size (omega (arith, positive air)) more);
  };
}

-- the same job stays open
pub track_same : (air : Air) (known : List Counts) (c : Counts) (a : Track) (n size : ℕ) → n ≡ rows_in air c → size ≡ rows_per air
    → IsOfChunk c → IsTrack air known a → (a.rows + n) / size ≤ a.rows / size → IsTrack air (known ++ c ∷ []) (record { rows = a.rows + n; chunk = a.chunk; before = a.before })
track_same air known c a n size e s few t less =
    let up : a.rows / size ≤ (a.rows + n) / size = div_mono _ _ _ (omega (arith, positive air)) (omega arith) in
    let same : (a.rows + n) / rows_per air ≡ a.rows / rows_per air = rw (← s) (omega arith) in
    let begins : IsBefore air (known ++ c ∷ []) (a.rows / rows_per air) a.chunk a.before = before_more air known (c ∷ []) _ _ _ t.open_job in
    record {
      exact = omega (arith, t.exact, total_push air known c);
      most = omega (arith, t.most, rows_of_chunk air c few, length_push known c);
      open_job = rw same begins;
    }

-- the tracks of the five airs are those of all, since Mem and Out have no rows
pub each_track : (cs : List Counts) (t : Tracks) → IsTrack Main cs t.main → IsTrack Binary cs t.binary → IsTrack Shift cs t.shift → IsTrack Arith cs t.arith → IsTrack Align cs t.align
    → (air : Air) → IsTrack air cs (track_in air t)
unfolding track_in
each_track cs t m b s a l Main = m
each_track cs t m b s a l Mem = no_track Mem cs (no_mem_rows cs)
each_track cs t m b s a l Binary = b
each_track cs t m b s a l Shift = s
each_track cs t m b s a l Arith = a
each_track cs t m b s a l Align = l
each_track cs t m b s a l Out = no_track Out cs (no_out_rows cs)

pub kept_new : (items : List Counts) (t : Tracks) → items ≡ [] → ((air : Air) → IsTrack air [] (track_in air t)) → IsKept items t
kept_new items t e h = rw e (record { each = h; few = omega arith })

pub kept_more : (cs ds : List Counts) (u : Tracks) (c : Counts) → length cs < 2 ^ 22 → ((air : Air) → IsTrack air (cs ++ c ∷ []) (track_in air u)) → ds ≡ cs ++ c ∷ [] → IsKept ds u
kept_more cs ds u c room h e = rw e (record { each = h; few = omega (arith, length_push cs c) })

pub next_track : (cs ds : List Counts) (t u : Tracks) (c : Counts) → IsKept cs t → IsOfChunk c → length cs < 2 ^ 22 → ((air : Air) → IsTrack air (cs ++ c ∷ []) (track_in air u)) → ds ≡ cs ++ c ∷ []
    → (air : Air) → IsNext air ds (track_in air t) (track_in air u)
next_track cs ds t u c k few room h e air =
    let old : (track_in air t).rows ≡ total air cs = (k.each air).exact in
    let new : (track_in air u).rows ≡ total air cs + rows_in air c = (h air).exact ∙ total_push air cs c in
    rw e (record {
      open_job = before_more air cs (c ∷ []) _ _ _ (k.each air).open_job;
      most = omega (arith, (h air).most, length_push cs c);
      order = omega arith;
      near = omega (arith, within_instance air c few);
    })

pub made_added : (cs ds : List Counts) (t u : Tracks) (c : Counts) → IsKept cs t → ((air : Air) → IsTrack air (cs ++ c ∷ []) (track_in air u)) → ds ≡ cs ++ c ∷ [] → flat_map (λ air. made_of air ds t u) airs ≡ added cs c
unfolding added
made_added cs ds t u c k h e =
    rw e (flat_map_same (λ air. made_of air (cs ++ c ∷ []) t u) (λ air. became_whole air cs c) (λ air. rw ((k.each air).exact, (h air).exact) refl) airs)

pub track_at : {air : Air} {cs : List Counts} {t u : Track} → t ≡ u → IsTrack air cs u → IsTrack air cs t
track_at e h = rw e h

pub kept_still : (cs ds : List Counts) (t : Tracks) → IsKept cs t → ds ≡ cs → IsKept ds t
kept_still cs ds t k e = rw e k

pub whole_of : (air : Air) (counts : List Counts) (t u : Tracks) (a b : Track) (size : ℕ) (old new : List Job) (j : Job) → IsNext air counts (track_in air t) (track_in air u) → a ≡ track_in air t → b ≡ track_in air u → size ≡ rows_per air
    → a.rows / size < b.rows / size → j ≡ job_of air counts (a.rows / size) → new ≡ old ++ j ∷ [] → new ≡ old ++ made_of air counts t u
whole_of air counts t u a b size old new j next first last s more is e =
    let passed : (track_in air t).rows / size < (track_in air u).rows / size = rw (← first, ← last) more in
    whole_pushed air counts (track_in air t).rows (track_in air u).rows size old new j s next.near passed (is ∙ ap (λ (x : Track). job_of air counts (x.rows / size)) first) e
