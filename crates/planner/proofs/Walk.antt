-- The parts of a job, by a walk along the chunks.
use Rattle.std.proofs.Common.{◌≡◌, ◌+◌, ◌*◌, ◌<◌, ◌≤◌, ℕ, zero, suc, min, max, ltb, false, List, [], ◌∷◌, ◌++◌, length, get_or, take, drop, refl, ap, sym, ◌∙◌, arith, append_assoc, le-ltb}
use Rattle.std.specs.List.{flat_map, range_with_len}
use Rattle.std.proofs.lemmas.List.{at_drop_more, at_drop_all, append-nil, take_at, length_push}
use Rattle.std.proofs.lemmas.List.Sums.{sum_by-append, sum_by-cons, sum_by_push}
use Rattle.zk_layout.specs.Air.{rows_per}
use Rattle.zk_layout.specs.declared.air.Air.{Air}
use Rattle.planner.specs.declared.counts.Counts.{Counts}
use Rattle.planner.specs.declared.job.Part.{Part}
use Rattle.planner.specs.Rows.{rows_in}
use Rattle.planner.specs.Jobs.{total, part, part_of, parts}
use Rattle.planner.specs.Track.{IsBefore}

-- of the rows from to to, those that the chunks have, the first of which begins at row at
unfoldable pub parts_from : Air → ℕ → ℕ → ℕ → ℕ → List Counts → List Part
parts_from air from to k at [] = []
parts_from air from to k at (c ∷ cs) = part k at (max from at) (min to (at + rows_in air c)) ++ parts_from air from to (k + 1) (at + rows_in air c) cs

pub total_cons : (air : Air) (c : Counts) (cs : List Counts) → total air (c ∷ cs) ≡ rows_in air c + total air cs
total_cons air c cs = sum_by-cons (rows_in air) c cs

pub total_more : (air : Air) (cs ds : List Counts) → total air (cs ++ ds) ≡ total air cs + total air ds
total_more air cs ds = sum_by-append (rows_in air) cs ds

pub total_push : (air : Air) (cs : List Counts) (c : Counts) → total air (cs ++ c ∷ []) ≡ total air cs + rows_in air c
total_push air cs c = sum_by_push (rows_in air) cs c

-- chunk number k, after those before it
here : (air : Air) (i : ℕ) (before cs : List Counts) (c : Counts) (k : ℕ) → length before ≡ k
    → part_of air (before ++ c ∷ cs) i k ≡ part k (total air before) (max (i * rows_per air) (total air before)) (min (i * rows_per air + rows_per air) (total air before + rows_in air c))
here air i before cs c k n =
    let first : take k (before ++ c ∷ cs) ≡ before = take_at before (c ∷ cs) k n in
    let all : (before ++ c ∷ []) ++ cs ≡ before ++ c ∷ cs = append_assoc before (c ∷ []) cs in
    let next : take (k + 1) ((before ++ c ∷ []) ++ cs) ≡ before ++ c ∷ [] = take_at (before ++ c ∷ []) cs (k + 1) (length_push before c ∙ ap (λ m. m + 1) n) in
    let next' : take (k + 1) (before ++ c ∷ cs) ≡ before ++ c ∷ [] = ap (take (k + 1)) (sym all) ∙ next in
    ap (λ xs. part k (total air xs) (max (i * rows_per air) (total air xs)) (min (i * rows_per air + rows_per air) (total air (take (k + 1) (before ++ c ∷ cs))))) first
    ∙ ap (λ xs. part k (total air before) (max (i * rows_per air) (total air before)) (min (i * rows_per air + rows_per air) (total air xs))) next'
    ∙ ap (λ m. part k (total air before) (max (i * rows_per air) (total air before)) (min (i * rows_per air + rows_per air) m)) (total_push air before c)

walk_from : (air : Air) (i : ℕ) (before cs : List Counts) (k : ℕ) → length before ≡ k
    → flat_map (part_of air (before ++ cs) i) (range_with_len k (length cs)) ≡ parts_from air (i * rows_per air) (i * rows_per air + rows_per air) k (total air before) cs
unfolding parts_from
walk_from air i before [] k n = refl
walk_from air i before (c ∷ cs) k n =
    let all : (before ++ c ∷ []) ++ cs ≡ before ++ c ∷ cs = append_assoc before (c ∷ []) cs in
    let deeper = walk_from air i (before ++ c ∷ []) cs (k + 1) (length_push before c ∙ ap (λ m. m + 1) n) in
    ap (λ ps. ps ++ flat_map (part_of air (before ++ c ∷ cs) i) (range_with_len (k + 1) (length cs))) (here air i before cs c k n)
    ∙ ap (λ ps. part k (total air before) (max (i * rows_per air) (total air before)) (min (i * rows_per air + rows_per air) (total air before + rows_in air c)) ++ ps)
    (ap (λ xs. flat_map (part_of air xs i) (range_with_len (k + 1) (length cs))) (sym all) ∙ deeper
    ∙ ap (λ m. parts_from air (i * rows_per air) (i * rows_per air + rows_per air) (k + 1) m cs) (total_push air before c))

-- a job's parts are those of a walk from the first chunk on
pub parts_walked : (air : Air) (counts : List Counts) (i : ℕ) → parts air counts i ≡ parts_from air (i * rows_per air) (i * rows_per air + rows_per air) 0 0 counts
parts_walked air counts i = walk_from air i [] counts 0 refl

-- no part of the chunks that end before the first row
skip : (air : Air) (from to k at : ℕ) (counts : List Counts) (n : ℕ) → n ≤ length counts → at + total air (take n counts) ≤ from
    → parts_from air from to k at counts ≡ parts_from air from to (k + n) (at + total air (take n counts)) (drop n counts)
unfolding parts_from
skip air from to k at counts zero h low =
    let a : k + 0 ≡ k = omega arith in
    let b : at + 0 ≡ at = omega arith in
    rw (a, b) refl
skip air from to k at [] (suc n) h low = absurd (omega arith)
skip air from to k at (c ∷ cs) (suc n) h low =
    let more : total air (c ∷ take n cs) ≡ rows_in air c + total air (take n cs) = total_cons air c (take n cs) in
    let none : ltb (max from at) (min to (at + rows_in air c)) ≡ false = le-ltb _ _ (omega arith) in
    let a : k + suc n ≡ k + 1 + n = omega arith in
    let b : at + total air (c ∷ take n cs) ≡ at + rows_in air c + total air (take n cs) = omega arith in
    rw (none, a, b) (skip air from to (k + 1) (at + rows_in air c) cs n (omega arith) (omega arith))

-- a job's parts are those of a walk from a chunk before which it takes nothing
pub parts_after : (air : Air) (counts : List Counts) (i k first : ℕ) → IsBefore air counts i k first
    → parts air counts i ≡ parts_from air (i * rows_per air) (i * rows_per air + rows_per air) k first (drop k counts)
parts_after air counts i k first b =
    let low : 0 + total air (take k counts) ≤ i * rows_per air = omega (arith, b.row, b.low) in
    let row : 0 + total air (take k counts) ≡ first = omega (arith, b.row) in
    let start : 0 + k ≡ k = omega arith in
    parts_walked air counts i ∙ skip air (i * rows_per air) (i * rows_per air + rows_per air) 0 0 counts k b.there low ∙ rw (row, start) refl

-- one step of the walk, with the values that the code has
pub one_more : (air : Air) (from to at : ℕ) (counts : List Counts) (k : ℕ) (d : Counts) (known all more : List Part) (rows low high : ℕ) → k < length counts
    → rows ≡ rows_in air (get_or counts k d) → low ≡ max from at → high ≡ min to (at + rows) → more ≡ known ++ part k at low high
    → known ++ parts_from air from to k at (drop k counts) ≡ all
    → more ++ parts_from air from to (k + 1) (at + rows) (drop (k + 1) counts) ≡ all
unfolding parts_from
one_more air from to at counts k d known all more rows low high h r l g m e =
    rw (m, l, g, r) (append_assoc known _ _ ∙ ap (λ xs. known ++ xs) (sym (at_drop_more (parts_from air from to k at) counts k d h)) ∙ e)

pub at_end : (air : Air) (from to at : ℕ) (counts : List Counts) (k : ℕ) (known all : List Part) → length counts ≤ k
    → known ++ parts_from air from to k at (drop k counts) ≡ all → known ≡ all
unfolding parts_from
at_end air from to at counts k known all h e =
    sym (append-nil known) ∙ ap (λ xs. known ++ xs) (sym (at_drop_all (parts_from air from to k at) counts k h)) ∙ e

pub at_return : (air : Air) (counts : List Counts) (i k first number rows at n : ℕ) (known : List Part) → IsBefore air counts i k first → number ≡ i → rows ≡ rows_per air → length counts ≤ n
    → known ++ parts_from air (number * rows) (number * rows + rows) n at (drop n counts) ≡ parts_from air (number * rows) (number * rows + rows) k first (drop k counts) → known ≡ parts air counts i
at_return air counts i k first number rows at n known b e r h done =
    at_end air (number * rows) (number * rows + rows) at counts n known _ h done ∙ rw (e, r) (sym (parts_after air counts i k first b))

pub none_yet : (known ps : List Part) → known ≡ [] → known ++ ps ≡ ps
none_yet known ps e = rw e refl
