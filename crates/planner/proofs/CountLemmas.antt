-- Counts of steps.
use Rattle.std.proofs.Common.{◌≡◌, ◌+◌, ◌≤◌, ℕ, Bool, true, false, cond, suc, List, [], ◌∷◌, length, refl, ap, sym, ◌∙◌, arith}
use mir.Val.{bool_byte}
use Rattle.std.specs.List.{filter}
use Rattle.std.proofs.lemmas.List.FromFn.{length-map-range_with_len}
use Rattle.std.proofs.lemmas.List.Sums.{length-filter, count_by-le-length}
use Rattle.zk_layout.specs.declared.air.Air.TheVariants.{Main, Binary, Shift, Arith, Align}
use Rattle.rv_model.specs.Image.{Img}
use Rattle.min_trace.specs.Record.{record_at, records_between}
use Rattle.min_trace.specs.declared.record.StepRecord.{StepRecord}
use Rattle.planner.specs.declared.counts.Counts.{Counts}
use Rattle.planner.specs.Rows.{has_row, counted, sum_of, IsOfChunk}

pub same_counts : (s b h m l t c i n k : ℕ) → s ≡ t → b ≡ c → h ≡ i → m ≡ n → l ≡ k
    → ◌≡◌ {A = Counts} (record { steps = s; binary = b; shift = h; arith = m; align = l }) (record { steps = t; binary = c; shift = i; arith = n; align = k })
same_counts s b h m l t c i n k p q r u v = rw (p, q, r, u, v) refl

count_cons : {X : Type 0} (p : X → Bool) (x : X) (xs : List X) (n : ℕ) → n + length (filter p (x ∷ [])) + length (filter p xs) ≡ n + length (filter p (x ∷ xs))
count_cons p x xs n = elim (p x) as (λ b. n + length (cond b (x ∷ []) []) + length (filter p xs) ≡ n + length (cond b (x ∷ filter p xs) (filter p xs))) [
  | true ↦ let one : length (x ∷ filter p xs) ≡ suc (length (filter p xs)) = refl in omega arith
  | false ↦ omega arith
]

-- whether a step has a row, as a number
pub one_row : {X : Type 0} (p : X → Bool) (x : X) (b : Bool) (n : ℕ) → n ≡ bool_byte b → b ≡ p x → n ≡ length (filter p (x ∷ []))
one_row p x b n e h = e ∙ elim (p x) as (λ t. b ≡ t → bool_byte b ≡ length (cond t (x ∷ []) [])) [ true ↦ λ t. rw t refl | false ↦ λ t. rw t refl ] h

-- one more step
pub counted_more : (a : Counts) (r : StepRecord) (rs : List StepRecord) → sum_of (sum_of a (counted (r ∷ []))) (counted rs) ≡ sum_of a (counted (r ∷ rs))
unfolding counted
counted_more a r rs = same_counts _ _ _ _ _ _ _ _ _ _ (count_cons (has_row Main) r rs a.steps) (count_cons (has_row Binary) r rs a.binary) (count_cons (has_row Shift) r rs a.shift) (count_cons (has_row Arith) r rs a.arith) (count_cons (has_row Align) r rs a.align)

few_of : {X : Type 0} (p : X → Bool) (xs : List X) → length (filter p xs) ≤ length xs
few_of p xs = omega (arith, length-filter p xs, count_by-le-length p xs)

pub counted_low : (rs : List StepRecord) → length rs ≤ 1024 → IsOfChunk (counted rs)
unfolding counted
counted_low rs h = record {
  main = omega (arith, few_of (has_row Main) rs);
  sums = omega (arith, few_of (has_row Binary) rs);
  shifts = omega (arith, few_of (has_row Shift) rs);
  products = omega (arith, few_of (has_row Arith) rs);
  accesses = omega (arith, few_of (has_row Align) rs);
}

part_low : (a b all : Counts) → IsOfChunk all → sum_of a b ≡ all → IsOfChunk a
part_low a b all h e = record {
  main = omega (arith, ap (λ (c : Counts). c.steps) e);
  sums = omega (arith, ap (λ (c : Counts). c.binary) e);
  shifts = omega (arith, ap (λ (c : Counts). c.shift) e);
  products = omega (arith, ap (λ (c : Counts). c.arith) e);
  accesses = omega (arith, ap (λ (c : Counts). c.align) e);
}

-- what was counted so far, of at most 1,024 steps
pub so_far_low : (a : Counts) (rs all : List StepRecord) → length all ≤ 1024 → sum_of a (counted rs) ≡ counted all → IsOfChunk a
so_far_low a rs all h e = part_low a (counted rs) (counted all) (counted_low all h) e

pub one_low : (r : StepRecord) (c : Counts) → c ≡ counted (r ∷ []) → IsOfChunk c
one_low r c e = rw e (counted_low (r ∷ []) (omega arith))

pub none_counted : (a : Counts) (rs : List StepRecord) → a ≡ record { steps = 0; binary = 0; shift = 0; arith = 0; align = 0 } → sum_of a (counted rs) ≡ counted rs
unfolding counted
none_counted a rs e = rw e (same_counts _ _ _ _ _ _ _ _ _ _ (omega arith) (omega arith) (omega arith) (omega arith) (omega arith))

-- one step of the loop, with the values that the code has
pub count_onward : (a one b all : Counts) (r : StepRecord) (old rs : List StepRecord) → old ≡ r ∷ rs → one ≡ counted (r ∷ []) → b ≡ sum_of a one → sum_of a (counted old) ≡ all → sum_of b (counted rs) ≡ all
count_onward a one b all r old rs o e f h = rw (f, e) (counted_more a r rs ∙ ap (λ xs. sum_of a (counted xs)) (sym o) ∙ h)

pub all_counted : (a : Counts) (rs all : List StepRecord) → rs ≡ [] → sum_of a (counted rs) ≡ counted all → a ≡ counted all
unfolding counted
all_counted a rs all e h =
    let none : sum_of a (counted []) ≡ a = same_counts _ _ _ _ _ _ _ _ _ _ (omega arith) (omega arith) (omega arith) (omega arith) (omega arith) in
    sym none ∙ ap (λ xs. sum_of a (counted xs)) (sym e) ∙ h

pub records_few : (image : Img) (first n : ℕ) (rs : List StepRecord) → rs ≡ records_between image first n → n ≤ 1024 → length rs ≤ 1024
records_few image first n rs e h = omega (arith, ap (length {A = StepRecord}) e, length-map-range_with_len (record_at image) first n)
