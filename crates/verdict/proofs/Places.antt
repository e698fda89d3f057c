-- Where a table stands among those of a file.
use Rattle.std.proofs.Common.{ℕ, Bool, true, false, zero, suc, eqb, cond, ◌≡◌, ◌≢◌, ◌<◌, ◌≤◌, ◌+◌, ◌-◌, ◌^◌, ◌⊎◌, inl, inr, List, [], ◌∷◌, ◌++◌, All, Option, Some, None, unwrap_or, length, take, get_or, MatchBool, refl, sym, ap, subst, ◌∙◌, ⊎_elim, arith}
use Rattle.std.specs.Prelude.{slice_get, slice_index, ◌==◌, ◌&&◌}
use Rattle.std.specs.List.{find}
use Rattle.std.proofs.lemmas.Bool.{eq-eqb, eqb-true, ne_eqb}
use Rattle.std.proofs.lemmas.List.Sums.{sum_by-cons}
use Rattle.std.proofs.lemmas.Option.{none-some}
use Rattle.gold.specs.declared.instances.Table.{Table}
use Rattle.gold.specs.declared.shapes.AirShape.{AirShape}
use Rattle.gold.specs.Shapes.{AreCounts, Fill, Fits, Place, instances_from, is_out, places_from}
use Rattle.wit_columns.specs.Values.{instances_of, is_instance}

same : {X : Type 0} (x y : X) → Some x ≡ Some y → x ≡ y
same x y h = ap (λ o. unwrap_or o x) h

-- ---- how many tables are of an air

pub count_cons : (t : Table) (ts : List Table) (s : ℕ) → instances_of (t ∷ ts) s ≡ cond (eqb t.air s) 1 0 + instances_of ts s
count_cons t ts s = sum_by-cons (λ (u : Table). cond (eqb u.air s) 1 0) t ts

pub count_same : (t : Table) (ts : List Table) (s : ℕ) → t.air ≡ s → instances_of (t ∷ ts) s ≡ 1 + instances_of ts s
count_same t ts s e = count_cons t ts s ∙ (rw (eq-eqb t.air s e) refl)

pub count_other : (t : Table) (ts : List Table) (s : ℕ) → t.air ≢ s → instances_of (t ∷ ts) s ≡ instances_of ts s
count_other t ts s e = count_cons t ts s ∙ (rw (ne_eqb t.air s e) (none (instances_of ts s)))
  where
    none : (n : ℕ) → 0 + n ≡ n
    none n = omega arith

-- ---- which table is found

itself : (t : Table) (s i : ℕ) → t.air ≡ s → t.instance ≡ i → is_instance s i t ≡ true
itself t s i air instance = rw (eq-eqb t.air s air, eq-eqb t.instance i instance) refl

and-false : (b : Bool) → (b && false) ≡ false
and-false true = refl
and-false false = refl

other_air : (t : Table) (s i : ℕ) → t.air ≢ s → is_instance s i t ≡ false
other_air t s i ne = rw (ne_eqb t.air s ne) refl

other_instance : (t : Table) (s i : ℕ) → t.instance ≢ i → is_instance s i t ≡ false
other_instance t s i ne = rw (ne_eqb t.instance i ne) (and-false (eqb t.air s))

-- a table of this place behind these is the first of its air and number
abbrev pub IsFirst : List Table → Place → Type 0
IsFirst ts p = (t : Table) (rest : List Table) → t.air ≡ p.air → t.instance ≡ p.instance → find (is_instance p.air p.instance) (ts ++ t ∷ rest) ≡ Some t

first_here : (p : Place) → IsFirst [] p
first_here p t rest a b = rw (itself t p.air p.instance a b) refl

first_later : (u : Table) (ts : List Table) (p : Place) → is_instance p.air p.instance u ≡ false → IsFirst ts p → IsFirst (u ∷ ts) p
first_later u ts p e h t rest a b = rw e (h t rest a b)

-- ---- the place after some tables, which have the places before

-- the place is one of c instances of an air, from number i on
pub record Here (a i c : ℕ) (f : AirShape) (ts : List Table) (p : Place) : Type 0 where
  pub air : p.air ≡ a
  pub form : p.form ≡ f
  pub few : p.instance < i + c
  pub count : instances_of ts a + i ≡ p.instance
  pub first : IsFirst ts p

-- the place is one of a later air
pub record Behind (R : Type 0) (a : ℕ) (ts : List Table) (p : Place) : Type 0 where
  pub known : R
  pub air : a < p.air
  pub count : instances_of ts p.air ≡ p.instance
  pub first : IsFirst ts p

here_more : (a i c : ℕ) (f : AirShape) (t : Table) (ts : List Table) (p : Place) → t.air ≡ a → t.instance ≡ i → Here a (suc i) c f ts p → Here a i (suc c) f (t ∷ ts) p
here_more a i c f t ts p air instance h = record {
  air = h.air;
  form = h.form;
  few = (let l = h.few in omega arith);
  count = (let e = count_same t ts a air in let n = h.count in omega arith);
  first = first_later t ts p (other_instance t p.air p.instance (λ e. (let n = h.count in omega arith))) h.first;
}

behind_more : (R : Type 0) (a : ℕ) (t : Table) (ts : List Table) (p : Place) → t.air ≡ a → Behind R a ts p → Behind R a (t ∷ ts) p
behind_more R a t ts p air h = record {
  known = h.known;
  air = h.air;
  count = count_other t ts p.air (λ e. (let l = h.air in omega arith)) ∙ h.count;
  first = first_later t ts p (other_air t p.air p.instance (λ e. (let l = h.air in omega arith))) h.first;
}

start : (a i c : ℕ) (f : AirShape) → Here a i (suc c) f [] (record { air = a; instance = i; form = f })
start a i c f = record { air = refl; form = refl; few = omega arith; count = omega arith; first = first_here (record { air = a; instance = i; form = f }) }

module _ (R : Type 0) (a : ℕ) (f : AirShape) (ps : List Place) (p : Place)
    (after : (m : ℕ) (us : List Table) → slice_get ps m ≡ Some p → Fill (take m ps) us → Behind R a us p) where
  group : (i c n : ℕ) (ts : List Table) → slice_get (instances_from a f i c ++ ps) n ≡ Some p → Fill (take n (instances_from a f i c ++ ps)) ts → Here a i c f ts p ⊎ Behind R a ts p
  group i zero n ts is fill = inr (after n ts is fill)
  group i (suc c) zero [] is fill = inl (subst (λ q. Here a i (suc c) f [] q) (same _ p is) (start a i c f))
  group i (suc c) zero (t ∷ ts) is fill = absurd fill
  group i (suc c) (suc n) [] is fill = absurd fill
  group i (suc c) (suc n) (t ∷ ts) is fill =
      ⊎_elim (λ h. inl (here_more a i c f t ts p fill.0.air fill.0.instance h)) (λ h. inr (behind_more R a t ts p fill.0.air h)) (group (suc i) c n ts is fill.1)

-- the place is one of the airs from a on
pub record Known (a : ℕ) (fs : List AirShape) (cs : List ℕ) (p : Place) : Type 0 where
  pub low : a ≤ p.air
  pub form : slice_get fs (p.air - a) ≡ Some p.form
  pub few : p.instance < get_or cs (p.air - a) 0

pub record Placed (a : ℕ) (fs : List AirShape) (cs : List ℕ) (ts : List Table) (p : Place) : Type 0 where
  pub known : Known a fs cs p
  pub count : instances_of ts p.air ≡ p.instance
  pub first : IsFirst ts p

known_here : (a c : ℕ) (f : AirShape) (fs : List AirShape) (cs : List ℕ) (ts : List Table) (p : Place) → Here a 0 c f ts p → Placed a (f ∷ fs) (c ∷ cs) ts p
known_here a c f fs cs ts p h =
    let none : 0 ≡ p.air - a = (let e = h.air in omega arith) in
    record {
      known = record {
        low = (let e = h.air in omega arith);
        form = subst (λ n. slice_get (f ∷ fs) n ≡ Some p.form) none (ap Some (sym h.form));
        few = subst (λ n. p.instance < get_or (c ∷ cs) n 0) none (below p.instance c h.few);
      };
      count = ap (instances_of ts) h.air ∙ (let n = h.count in omega arith);
      first = h.first;
    }
  where
    below : (x c : ℕ) → x < 0 + c → x < c
    below x c h = omega arith

known_behind : (a c : ℕ) (f : AirShape) (fs : List AirShape) (cs : List ℕ) (ts : List Table) (p : Place) → Behind (Known (suc a) fs cs p) a ts p → Placed a (f ∷ fs) (c ∷ cs) ts p
known_behind a c f fs cs ts p h =
    let more : suc (p.air - suc a) ≡ p.air - a = (let e = h.air in omega arith) in
    record {
      known = record {
        low = (let e = h.air in omega arith);
        form = subst (λ n. slice_get (f ∷ fs) n ≡ Some p.form) more h.known.form;
        few = subst (λ n. p.instance < get_or (c ∷ cs) n 0) more h.known.few;
      };
      count = h.count;
      first = h.first;
    }

pub placed : (a : ℕ) (fs : List AirShape) (cs : List ℕ) (n : ℕ) (ts : List Table) (p : Place) → slice_get (places_from a fs cs) n ≡ Some p → Fill (take n (places_from a fs cs)) ts → Placed a fs cs ts p
placed a [] cs n ts p is fill = absurd (none-some p is)
placed a (f ∷ fs) [] n ts p is fill = absurd (none-some p is)
placed a (f ∷ fs) (c ∷ cs) n ts p is fill =
    ⊎_elim (known_here a c f fs cs ts p) (known_behind a c f fs cs ts p)
    (group (Known (suc a) fs cs p) a f (places_from (suc a) fs cs) p (λ m us e l.
    (let r = placed (suc a) fs cs m us p e l in record { known = r.known; air = (let q = r.known.low in omega arith); count = r.count; first = r.first })) 0 c n ts is fill)

-- ---- one more table

pub fill_more : (ps : List Place) (ts : List Table) (t : Table) (p : Place) → Fill (take (length ts) ps) ts → slice_get ps (length ts) ≡ Some p → Fits p t → Fill (take (length (ts ++ t ∷ [])) ps) (ts ++ t ∷ [])
fill_more [] ts t p fill is fits = absurd (none-some p is)
fill_more (q ∷ ps) [] t p fill is fits = (subst (λ r. Fits r t) (sym (same q p is)) fits, tt)
fill_more (q ∷ ps) (u ∷ ts) t p fill is fits = (fill.0, fill_more ps ts t p fill.1 is fits)

-- a table of those that fill their places
pub record At (ps : List Place) (ts : List Table) (n : ℕ) (t : Table) : Type 0 where
  pub place : Place
  pub is_place : slice_get ps (length (take n ts)) ≡ Some place
  pub fits : Fits place t
  pub before : Fill (take (length (take n ts)) ps) (take n ts)

pub fill_at : (ps : List Place) (ts : List Table) (n : ℕ) (t : Table) → Fill ps ts → slice_get ts n ≡ Some t → At ps ts n t
fill_at ps [] n t fill is = absurd (none-some t is)
fill_at [] (u ∷ ts) n t fill is = absurd fill
fill_at (p ∷ ps) (u ∷ ts) zero t fill is = record { place = p; is_place = refl; fits = subst (Fits p) (same u t is) fill.0; before = tt }
fill_at (p ∷ ps) (u ∷ ts) (suc n) t fill is =
    let r = fill_at ps ts n t fill.1 is in record { place = r.place; is_place = r.is_place; fits = r.fits; before = (fill.0, r.before) }

pub counted_some : (ts : List Table) (k : ℕ) (t : Table) (s : ℕ) → slice_get ts k ≡ Some t → t.air ≡ s → 0 < instances_of ts s
counted_some [] k t s is e = absurd (none-some t is)
counted_some (u ∷ ts) zero t s is e = (let n = count_same u ts s (ap (λ (x : Table). x.air) (same u t is) ∙ e) in omega arith)
counted_some (u ∷ ts) (suc k) t s is e = (let n = counted_some ts k t s is e in let m = count_cons u ts s in omega arith)

-- an air that has a table
pub record Some_of (ts : List Table) (s : ℕ) : Type 0 where
  pub at : ℕ
  pub table : Table
  pub is : slice_get ts at ≡ Some table
  pub air : table.air ≡ s

pub some_of : (ts : List Table) (s : ℕ) → 0 < instances_of ts s → Some_of ts s
some_of [] s l = absurd (omega arith)
some_of (t ∷ ts) s l = by (eqb t.air s) refl (some_of ts s)
  where
    by : (b : Bool) → eqb t.air s ≡ b → (0 < instances_of ts s → Some_of ts s) → Some_of (t ∷ ts) s
    by true e later = record { at = 0; table = t; is = refl; air = eqb-true t.air s e }
    by false e later = (let r = later (let n = count_cons t ts s ∙ ap (λ b. cond b 1 0 + instances_of ts s) e in omega arith) in record { at = suc r.at; table = r.table; is = r.is; air = r.air })

pub split_at : (ts : List Table) (n : ℕ) (t : Table) → slice_get ts n ≡ Some t → (rest : List Table) × (ts ≡ take n ts ++ t ∷ rest)
split_at [] n t is = absurd (none-some t is)
split_at (u ∷ ts) zero t is = (ts, ap (λ x. x ∷ ts) (same u t is))
split_at (u ∷ ts) (suc n) t is = (let r = split_at ts n t is in (r.0, ap (λ xs. u ∷ xs) r.1))

pub take_more : (ts : List Table) (n : ℕ) (t : Table) → slice_get ts n ≡ Some t → take (suc n) ts ≡ take n ts ++ t ∷ []
take_more [] n t is = absurd (none-some t is)
take_more (u ∷ ts) zero t is = ap (λ x. x ∷ []) (same u t is)
take_more (u ∷ ts) (suc n) t is = ap (λ xs. u ∷ xs) (take_more ts n t is)

-- ---- what counts are allowed

most_by : (b : Bool) (count most : ℕ) → most ≤ 2 ^ 22 → MatchBool b (count ≡ 1) (count ≤ most) → count ≤ 2 ^ 22
most_by true count most l h = omega arith
most_by false count most l h = omega arith

pub few_allowed : (a : ℕ) (fs : List AirShape) (cs : List ℕ) (n : ℕ) → All (λ (f : AirShape). f.most ≤ 2 ^ 22) fs → AreCounts true a fs cs → get_or cs n 0 ≤ 2 ^ 22
few_allowed a [] [] n l h = omega arith
few_allowed a [] (c ∷ cs) n l h = absurd h
few_allowed a (f ∷ fs) [] n l h = absurd h
few_allowed a (f ∷ fs) (c ∷ cs) zero l h = most_by (is_out true a) c f.most (l 0 f (omega arith)) h.0.most
few_allowed a (f ∷ fs) (c ∷ cs) (suc n) l h = few_allowed (suc a) fs cs n (λ k d q. l (suc k) d (omega arith)) h.1

pub one_allowed : (a : ℕ) (fs : List AirShape) (cs : List ℕ) (n : ℕ) → a + n ≡ 6 → n < length fs → AreCounts true a fs cs → get_or cs n 0 ≡ 1
one_allowed a [] cs n e l h = absurd (omega arith)
one_allowed a (f ∷ fs) [] n e l h = absurd h
one_allowed a (f ∷ fs) (c ∷ cs) zero e l h = subst (λ b. MatchBool b (c ≡ 1) (c ≤ f.most)) (eq-eqb a 6 (omega arith)) h.0.most
one_allowed a (f ∷ fs) (c ∷ cs) (suc n) e l h = one_allowed (suc a) fs cs n (omega arith) (omega arith) h.1
