-- The rows of a job are its rows of the list of all rows.
use Rattle.std.proofs.Common.{◌≡◌, ◌+◌, ◌-◌, ◌*◌, ◌<◌, ◌≤◌, ℕ, zero, suc, min, max, true, false, cond, ltb, List, [], ◌∷◌, ◌++◌, length, get_or, take, drop, map, refl, ap, sym, ◌∙◌, arith, append_assoc, ltb-true, ltb-false}
use Rattle.std.specs.List.{flat_map}
use Rattle.std.proofs.lemmas.List.{append-nil, length-append, length-drop, length-take, get_or_at, take_min, nil_from_length}
use Rattle.std.proofs.lemmas.Grind.{flat_map-append}
use Rattle.zk_layout.specs.declared.air.Air.{Air}
use Rattle.planner.specs.declared.counts.Counts.{Counts}
use Rattle.zk_layout.specs.Air.{rows_per}
use Rattle.planner.specs.Rows.{rows_in}
use Rattle.planner.specs.Jobs.{part, parts, chosen, all_chosen}
use Rattle.planner.proofs.Walk.{parts_from, parts_walked}

pub take_both : {A : Type 0} → (n : ℕ) (xs ys : List A) → take n (xs ++ ys) ≡ take n xs ++ take (n - length xs) ys
take_both zero xs ys = let e : 0 - length xs ≡ 0 = omega arith in rw e refl
take_both (suc n) [] ys = let e : suc n - 0 ≡ suc n = omega arith in rw e refl
take_both (suc n) (x ∷ xs) ys = let e : suc n - suc (length xs) ≡ n - length xs = omega arith in rw e (ap (λ zs. x ∷ zs) (take_both n xs ys))

pub drop_both : {A : Type 0} → (n : ℕ) (xs ys : List A) → drop n (xs ++ ys) ≡ drop n xs ++ drop (n - length xs) ys
drop_both zero xs ys = let e : 0 - length xs ≡ 0 = omega arith in rw e refl
drop_both (suc n) [] ys = let e : suc n - 0 ≡ suc n = omega arith in rw e refl
drop_both (suc n) (x ∷ xs) ys = let e : suc n - suc (length xs) ≡ n - length xs = omega arith in rw e (drop_both n xs ys)

-- the rows of one part
part_there : {R : Type 0} (rows : List (List R)) (chunk at from to : ℕ) (xs : List R) → get_or rows chunk [] ≡ xs → max from at < min to (at + length xs)
    → chosen rows (record { chunk = chunk; skip = max from at - at; take = min to (at + length xs) - max from at }) ≡ take (to - max from at) (drop (from - at) xs)
part_there rows chunk at from to xs is lt =
    let skip : max from at - at ≡ from - at = omega arith in
    let few : min to (at + length xs) - max from at ≡ min (to - max from at) (length (drop (from - at) xs)) = rw (length-drop) (omega arith) in
    rw (is, skip, few) (take_min _ _)

part_missing : {R : Type 0} (at from to : ℕ) (xs : List R) → min to (at + length xs) ≤ max from at → [] ≡ take (to - max from at) (drop (from - at) xs)
part_missing at from to xs le = sym (nil_from_length _ (rw (length-take, length-drop) (omega arith)))

one_part : {R : Type 0} (rows : List (List R)) (chunk at from to : ℕ) (xs : List R) → get_or rows chunk [] ≡ xs
    → all_chosen rows (part chunk at (max from at) (min to (at + length xs))) ≡ take (to - max from at) (drop (from - at) xs)
one_part rows chunk at from to xs is =
    elim (ltb (max from at) (min to (at + length xs))) as (λ b. ltb (max from at) (min to (at + length xs)) ≡ b → all_chosen rows (cond b (record { chunk = chunk; skip = max from at - at; take = min to (at + length xs) - max from at } ∷ []) []) ≡ take (to - max from at) (drop (from - at) xs)) [
      | true ↦ λ e. append-nil _ ∙ part_there rows chunk at from to xs is (ltb-true _ _ e)
      | false ↦ λ e. part_missing at from to xs (ltb-false _ _ e)
    ] refl

abbrev pub joined : {R : Type 0} → List (List R) → List R
joined xss = flat_map (λ xs. xs) xss

seam : {R : Type 0} (at from to : ℕ) (xs ys : List R) → take (to - max from at) (drop (from - at) (xs ++ ys)) ≡ take (to - max from at) (drop (from - at) xs) ++ take (to - max from (at + length xs)) (drop (from - (at + length xs)) ys)
seam at from to xs ys =
    let many : to - max from at - length (drop (from - at) xs) ≡ to - max from (at + length xs) = rw length-drop (omega arith) in
    let past : from - at - length xs ≡ from - (at + length xs) = omega arith in
    ap (take (to - max from at)) (drop_both (from - at) xs ys) ∙ take_both (to - max from at) (drop (from - at) xs) _ ∙ rw (many, past) refl

with_count : {R : Type 0} (air : Air) (from to : ℕ) (rows : List (List R)) (chunk at : ℕ) (xs : List R) (n : ℕ) → length xs ≡ n → get_or rows chunk [] ≡ xs → (chosen_later ys : List R)
    → chosen_later ≡ take (to - max from (at + n)) (drop (from - (at + n)) ys)
    → all_chosen rows (part chunk at (max from at) (min to (at + n))) ++ chosen_later ≡ take (to - max from at) (drop (from - at) (xs ++ ys))
with_count air from to rows chunk at xs n many is later ys h =
    let h' : later ≡ take (to - max from (at + length xs)) (drop (from - (at + length xs)) ys) = rw many h in
    rw (← many, h') (ap (λ zs. zs ++ take (to - max from (at + length xs)) (drop (from - (at + length xs)) ys)) (one_part rows chunk at from to xs is) ∙ sym (seam at from to xs ys))

-- the rows of the parts, from a chunk on
chosen_from : {R : Type 0} (air : Air) (from to : ℕ) (before after : List (List R)) (chunk at : ℕ) (counts : List Counts) → length before ≡ chunk → map length after ≡ map (rows_in air) counts
    → all_chosen (before ++ after) (parts_from air from to chunk at counts) ≡ take (to - max from at) (drop (from - at) (joined after))
unfolding parts_from
chosen_from air from to before [] chunk at [] n h = sym (nil_from_length _ (rw (length-take, length-drop) (omega arith)))
chosen_from air from to before (xs ∷ xss) chunk at [] n h = cc
chosen_from air from to before [] chunk at (c ∷ cs) n h = cc
chosen_from air from to before (xs ∷ xss) chunk at (c ∷ cs) n h =
    let many : length xs ≡ rows_in air c = cc in
    let others : map length xss ≡ map (rows_in air) cs = cc in
    let back : (before ++ xs ∷ []) ++ xss ≡ before ++ xs ∷ xss = append_assoc before _ _ in
    let deeper : all_chosen ((before ++ xs ∷ []) ++ xss) (parts_from air from to (chunk + 1) (at + rows_in air c) cs) ≡ take (to - max from (at + rows_in air c)) (drop (from - (at + rows_in air c)) (joined xss)) =
    chosen_from air from to (before ++ xs ∷ []) xss (chunk + 1) (at + rows_in air c) cs (simp length-append (omega arith)) others in
    flat_map-append (chosen (before ++ xs ∷ xss)) (part chunk at (max from at) (min to (at + rows_in air c))) _
    ∙ with_count air from to (before ++ xs ∷ xss) chunk at xs (rows_in air c) many (get_or_at before xs xss [] chunk n) _ (joined xss) (rw back at deeper)

-- The rows of a job are the air's rows of its numbers.
pub job_rows : {R : Type 0} (air : Air) (rows : List (List R)) (counts : List Counts) (i : ℕ) → map length rows ≡ map (rows_in air) counts
    → all_chosen rows (parts air counts i) ≡ take (rows_per air) (drop (i * rows_per air) (joined rows))
job_rows air rows counts i h =
    let many : i * rows_per air + rows_per air - max (i * rows_per air) 0 ≡ rows_per air = omega arith in
    let first : i * rows_per air - 0 ≡ i * rows_per air = omega arith in
    ap (all_chosen rows) (parts_walked air counts i) ∙ chosen_from air (i * rows_per air) (i * rows_per air + rows_per air) [] rows 0 0 counts refl h ∙ rw (many, first) refl
