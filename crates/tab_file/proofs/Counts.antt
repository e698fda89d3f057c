-- How many instances of each air stand at the places that a header promises.
use Rattle.std.proofs.Common.{◌≡◌, ℕ, zero, suc, ◌+◌, ◌<◌, ◌≤◌, Bool, true, false, cond, eqb, List, [], ◌∷◌, ◌++◌, length, refl, sym, ap, ◌∙◌, arith}
use Rattle.std.specs.Prelude.{◌==◌, count_by}
use Rattle.std.proofs.lemmas.Bool.{eq-eqb, eqb-true}
use Rattle.std.proofs.lemmas.List.Sums.{sum_by-append, sum_by-cons}
use Rattle.gold.specs.declared.instances.Table.{Table}
use Rattle.gold.specs.declared.shapes.AirShape.{AirShape}
use Rattle.gold.specs.Shapes.{counts_from}
use Rattle.gold.specs.Shapes.{Place, instances_from, places_from, Fill}
use Rattle.tab_file.specs.Format.{rows_at}
use Rattle.tab_file.specs.Steps.{place}
use Rattle.tab_file.proofs.Takes.{AreKnown}

abbrev one_if : Bool → ℕ
one_if b = cond b 1 0

abbrev count_at : ℕ → List Place → ℕ
count_at b places = count_by (λ q. q.air == b) places

abbrev counts_at : ℕ → ℕ → List Place → List ℕ
counts_at a zero places = []
counts_at a (suc n) places = count_at a places ∷ counts_at (suc a) n places

count_cons : (q : Place) (qs : List Place) (b : ℕ) → count_at b (q ∷ qs) ≡ one_if (eqb q.air b) + count_at b qs
count_cons q qs b = sum_by-cons (λ (u : Place). one_if (eqb u.air b)) q qs

-- ---- tables at their places

Fill-count : (places : List Place) (tables : List Table) (b : ℕ) → Fill places tables → count_by (λ t. t.air == b) tables ≡ count_at b places
Fill-count [] [] b h = refl
Fill-count [] (t ∷ ts) b h = absurd h
Fill-count (q ∷ qs) [] b h = absurd h
Fill-count (q ∷ qs) (t ∷ ts) b h =
    sum_by-cons (λ (u : Table). one_if (eqb u.air b)) t ts ∙ ap (λ (a : ℕ). one_if (eqb a b) + count_by (λ (u : Table). u.air == b) ts) h.0.air
    ∙ ap (λ (n : ℕ). one_if (eqb q.air b) + n) (Fill-count qs ts b h.1) ∙ sym (count_cons q qs b)

Fill-counts : (places : List Place) (tables : List Table) (a n : ℕ) → Fill places tables → counts_from a n tables ≡ counts_at a n places
Fill-counts places tables a zero h = refl
Fill-counts places tables a (suc n) h = rw (Fill-count places tables a h, Fill-counts places tables (suc a) n h) refl

-- ---- the counts of the places

count_append : (xs ys : List Place) (b : ℕ) → count_at b (xs ++ ys) ≡ count_at b xs + count_at b ys
count_append xs ys b = sum_by-append (λ q. one_if (eqb q.air b)) xs ys

pub neq-eqb : (a b : ℕ) → (a ≡ b → ⊥) → eqb a b ≡ false
neq-eqb a b ne = elim (eqb a b) as (λ v. eqb a b ≡ v → v ≡ false) [ true ↦ λ e. absurd (ne (eqb-true a b e)) | false ↦ λ e. refl ] refl

count_same : (a : ℕ) (f : AirShape) (i n : ℕ) → count_at a (instances_from a f i n) ≡ n
count_same a f i zero = refl
count_same a f i (suc n) =
    let one : one_if (eqb a a) ≡ 1 = rw (eq-eqb a a refl) refl in
    count_cons (place a f i) (instances_from a f (suc i) n) a ∙ omega (arith, one, count_same a f (suc i) n)

count_other : (a b : ℕ) (f : AirShape) (i n : ℕ) → (a ≡ b → ⊥) → count_at b (instances_from a f i n) ≡ 0
count_other a b f i zero ne = refl
count_other a b f i (suc n) ne =
    let zeros : one_if (eqb a b) ≡ 0 = rw (neq-eqb a b ne) refl in
    count_cons (place a f i) (instances_from a f (suc i) n) b ∙ omega (arith, zeros, count_other a b f (suc i) n ne)

count_past : (fs : List AirShape) (cs : List ℕ) (a b : ℕ) → b < a → count_at b (places_from a fs cs) ≡ 0
count_past [] cs a b lt = refl
count_past (f ∷ fs) [] a b lt = refl
count_past (f ∷ fs) (c ∷ cs) a b lt =
    omega (arith, count_append (instances_from a f 0 c) (places_from (suc a) fs cs) b, count_other a b f 0 c (λ e. omega (arith, e, lt)), count_past fs cs (suc a) b (omega (arith, lt)))

counts_past : (a b n c : ℕ) (f : AirShape) (qs : List Place) → a < b → counts_at b n (instances_from a f 0 c ++ qs) ≡ counts_at b n qs
counts_past a b zero c f qs lt = refl
counts_past a b (suc n) c f qs lt =
    let here : count_at b (instances_from a f 0 c ++ qs) ≡ count_at b qs = omega (arith, count_append (instances_from a f 0 c) qs b, count_other a b f 0 c (λ e. omega (arith, e, lt))) in
    rw (here, counts_past a (suc b) n c f qs (omega (arith, lt))) refl

counts_back : (fs : List AirShape) (cs : List ℕ) (a : ℕ) → length cs ≡ length fs → counts_at a (length fs) (places_from a fs cs) ≡ cs
counts_back [] [] a h = refl
counts_back [] (c ∷ cs) a h = absurd cc
counts_back (f ∷ fs) [] a h = absurd cc
counts_back (f ∷ fs) (c ∷ cs) a h =
    let later = places_from (suc a) fs cs in
    let here : count_at a (instances_from a f 0 c ++ places_from (suc a) fs cs) ≡ c = omega (arith, count_append (instances_from a f 0 c) later a, count_same a f 0 c, count_past fs cs (suc a) a (omega arith)) in
    let len : length cs ≡ length fs = omega (arith, h) in
    rw (here, counts_past a (suc a) (length fs) c f later (omega arith), counts_back fs cs (suc a) len) refl

-- the tables at the places that counts promise have these counts
pub counts_are : (fs : List AirShape) (cs : List ℕ) (tables : List Table) → length cs ≡ length fs → Fill (places_from 0 fs cs) tables → counts_from 0 (length fs) tables ≡ cs
counts_are fs cs tables len h = Fill-counts (places_from 0 fs cs) tables 0 (length fs) h ∙ counts_back fs cs 0 len

-- ---- the places are of the shape's airs

AreKnown-append : (airs : ℕ) (rows : ℕ → ℕ) (xs ys : List Place) → AreKnown airs rows xs → AreKnown airs rows ys → AreKnown airs rows (xs ++ ys)
AreKnown-append airs rows [] ys h k = k
AreKnown-append airs rows (x ∷ xs) ys h k = (h.0, AreKnown-append airs rows xs ys h.1 k)

known_instances : (airs : ℕ) (rows : ℕ → ℕ) (a : ℕ) (f : AirShape) (i n : ℕ) → a < airs → rows a ≡ f.rows → AreKnown airs rows (instances_from a f i n)
known_instances airs rows a f i zero lt e = tt
known_instances airs rows a f i (suc n) lt e = (record { below = lt; height = e }, known_instances airs rows a f (suc i) n lt e)

known_from : (airs : ℕ) (rows : ℕ → ℕ) (a : ℕ) (fs : List AirShape) (cs : List ℕ) → a + length fs ≤ airs → ((k : ℕ) → k < length fs → rows (a + k) ≡ rows_at fs k) → AreKnown airs rows (places_from a fs cs)
known_from airs rows a [] cs le e = tt
known_from airs rows a (f ∷ fs) [] le e = tt
known_from airs rows a (f ∷ fs) (c ∷ cs) le e =
    let z : a + 0 ≡ a = omega arith in
    let first : rows a ≡ f.rows = ap rows (sym z) ∙ e 0 (omega arith) in
    AreKnown-append airs rows (instances_from a f 0 c) (places_from (suc a) fs cs) (known_instances airs rows a f 0 c (omega (arith, le)) first)
    (known_from airs rows (suc a) fs cs (omega (arith, le)) (λ k lt. let s : suc a + k ≡ a + suc k = omega arith in ap rows s ∙ e (suc k) (omega (arith, lt))))

pub known : (fs : List AirShape) (cs : List ℕ) → AreKnown (length fs) (rows_at fs) (places_from 0 fs cs)
known fs cs = known_from (length fs) (rows_at fs) 0 fs cs (omega arith) (λ k lt. let z : 0 + k ≡ k = omega arith in ap (rows_at fs) z)
