-- Every list of accesses that Mem receives is read-last-write.
use Rattle.std.proofs.Common.{ℕ, zero, suc, ◌*◌, ◌/◌, ◌%◌, ◌<◌, ◌≤◌, ◌≡◌, ◌≢◌, inl, inr, Bool, true, false, not, eqb, map, List, [], ◌∷◌, refl, sym, ap, subst, ◌∙◌, arith}
use Rattle.std.specs.List.{Contains, All}
use Rattle.std.proofs.lemmas.List.Elements.{All-contains}
use Rattle.std.proofs.lemmas.Bool.{cases_lt, cases_eq}
use Rattle.std.proofs.lemmas.Bool.Decides.{nat_tests}
use Rattle.pil_ast.specs.Term.{Namespace}
use Rattle.pil_ast.specs.Columns.{Columns}
use Rattle.pil_ast.specs.Holds.{AsOften, sent, tuple}
use Rattle.pil_laws.specs.Sends.{Sends}
use Rattle.pil_laws.proofs.Sent.{from_sent, into_sent}
use Rattle.pil_laws.proofs.Times.{times_map, map_times}
use Rattle.air_mem.specs.Access.{Access, memory_tuple, is_one, IsEarlierWrite, IsLastWrite, HasLast, written, never, IsReadLastWrite, InReach}
use Rattle.machine_text.specs.Mem
use Rattle.air_mem.specs.Laws.{HasMem, MemHolds, MemoryLaw, MemDistinct}
use Rattle.air_mem.proofs.MemRow.{column}
use Rattle.air_mem.proofs.Along as Along
use Rattle.air_mem.proofs.Along.{Sound, rows, in_order, place_of, instance_of, bit}
use Rattle.air_mem.proofs.Order.{Above, key, time, Last, at, none, above, last}

on_chosen : (v : ℕ) → v ≢ 0 → not (eqb v 0) ≡ true
on_chosen v h = grind (arith, nat_tests)

one_le : (b : Bool) → is_one b ≤ 1
one_le true = omega arith
one_le false = omega arith

chosen_on : (v : ℕ) → not (eqb v 0) ≡ true → v ≢ 0
chosen_on v h = grind (arith, nat_tests)

five_same : (a b d e f a' b' d' e' f' : ℕ) → a ∷ b ∷ d ∷ e ∷ f ∷ [] ≡ a' ∷ b' ∷ d' ∷ e' ∷ f' ∷ [] → (a ≡ a') × (b ≡ b') × (d ≡ d') × (e ≡ e') × (f ≡ f')
five_same a b d e f a' b' d' e' f' h = (cc, cc, cc, cc, cc)

-- row m of Mem is this access
pub record Met (c : Columns) (a : Access) (m : ℕ) : Type 0 where
  pub below : m < c.instances 7 * c.rows 7
  pub on : (rows c).sel m ≢ 0
  pub key : (rows c).key m ≡ a.key
  pub time : (rows c).time m ≡ a.time
  pub wr : (rows c).wr m ≡ is_one a.write
  pub lo : (rows c).lo m ≡ a.lo
  pub hi : (rows c).hi m ≡ a.hi

module _ (ns : List Namespace) (c : Columns) (xs : List Access) (often : AsOften (map memory_tuple xs) (sent ns c Mem.access)) where
  -- the access of a selected row
  pub access_at : (i r : ℕ) → i < c.instances 7 → r < c.rows 7 → column c i r 5 ≢ 0 → (a : Access) × Contains xs a × (memory_tuple a ≡ tuple ns c 7 i r Mem.access.terms)
  access_at i r h l n =
      let s : Sends ns c Mem.access (tuple ns c 7 i r Mem.access.terms) = record { instance = i; row = r; is_instance = h; is_row = l; is_selected = on_chosen _ n; is_tuple = refl } in
      times_map memory_tuple _ xs (λ z. into_sent ns c Mem.access _ s (sym (often _) ∙ z))

  pub in_reach : ((a : Access) → Contains xs a → InReach a) → (i r : ℕ) → i < c.instances 7 → r < c.rows 7 → column c i r 5 ≢ 0 → (column c i r 6 < 1073741824) × (column c i r 7 ≤ 34359738368) × (column c i r 8 ≤ 1)
  in_reach reach i r h l n =
      let w = access_at i r h l n in
      let f = five_same _ _ _ _ _ _ _ _ _ _ w.2 in
      let b = reach w.0 w.1 in
      let bk = b.key in
      let bt = b.time in
      let bw = one_le w.0.write in
      (omega arith, omega arith, omega arith)

  module _ (x : Sound ns c) where
    pub row_of : (a : Access) → Contains xs a → (m : ℕ) × Met c a m
    row_of a h =
        let s = from_sent ns c Mem.access (memory_tuple a) (λ z. map_times memory_tuple a xs h (often _ ∙ z)) in
        let f = five_same _ _ _ _ _ _ _ _ _ _ s.is_tuple in
        let w = place_of ns c x s.instance s.row s.is_instance s.is_row in
        let col : (k : ℕ) → column c (w.0 / c.rows 7) (w.0 % c.rows 7) k ≡ column c s.instance s.row k = λ k. ap (λ i. column c i (w.0 % c.rows 7) k) w.2 ∙ ap (λ r. column c s.instance r k) w.3 in
        (w.0, record { below = w.1; on = λ z. chosen_on _ s.is_selected (sym (col 5) ∙ z); key = col 6 ∙ f.0; time = col 7 ∙ f.1; wr = col 8 ∙ f.2; lo = col 9 ∙ f.3; hi = col 10 ∙ f.4 })

    access_of : (m : ℕ) → m < c.instances 7 * c.rows 7 → (rows c).sel m ≢ 0 → (a : Access) × Contains xs a × Met c a m
    access_of m h n =
        let w = access_at (m / c.rows 7) (m % c.rows 7) (instance_of m (c.rows 7) (c.instances 7) h) (Along.place_row ns c x m) n in
        let f = five_same _ _ _ _ _ _ _ _ _ _ w.2 in
        (w.0, w.1, record { below = h; on = n; key = sym f.0; time = sym f.1; wr = sym f.2; lo = sym f.3; hi = sym f.4 })

    write_is : (b : Bool) (v : ℕ) → v ≡ is_one b → v ≢ 0 → b ≡ true
    write_is true v e n = refl
    write_is false v e n = absurd (n e)

    writes : (b : Bool) (v : ℕ) → v ≡ is_one b → b ≡ true → v ≢ 0
    writes b v e h = grind (arith, nat_tests)

    reads : (b : Bool) (v : ℕ) → v ≡ is_one b → b ≡ false → v ≡ 0
    reads b v e h = grind (arith, nat_tests)

    earlier_row : (a v : Access) (m u : ℕ) → Met c a m → Met c v u → v.key ≡ a.key → v.time < a.time → u < m
    earlier_row a v m u f g k t =
        elim (cases_lt u m) [
          | inl z ↦ z
          | inr z ↦ elim (cases_eq u m) [
            | inl e ↦ (let q = ap (rows c).time e in let a1 = f.time in let b1 = g.time in absurd (omega arith))
            | inr e ↦ absurd (never_above (above (rows c) _ (in_order ns c x) u m (omega arith) g.below (bit ns c x u g.below g.on)))
          ]
        ]
      where
        never_above : Above (rows c) m u → ⊥
        never_above (key h) = let a1 = f.key in let b1 = g.key in omega arith
        never_above (time h l) = let a1 = f.time in let b1 = g.time in omega arith

    later_time : (m u : ℕ) → u < m → m < c.instances 7 * c.rows 7 → (rows c).sel m ≡ 1 → (rows c).key u ≡ (rows c).key m → (rows c).time u < (rows c).time m
    later_time m u l h s k = of (above (rows c) _ (in_order ns c x) m u l h s)
      where
        of : Above (rows c) u m → (rows c).time u < (rows c).time m
        of (key e) = absurd (omega arith)
        of (time e t) = t

    -- every row before a selected one is selected
    selected_before : (m w : ℕ) → w ≤ m → m < c.instances 7 * c.rows 7 → (rows c).sel m ≡ 1 → (rows c).sel w ≡ 1
    selected_before zero w l h s = subst (λ z. (rows c).sel z ≡ 1) (zero_of w l) s
      where
        zero_of : (w : ℕ) → w ≤ 0 → 0 ≡ w
        zero_of w h = omega arith
    selected_before (suc m) w l h s =
        elim (cases_eq w (suc m)) [
          | inl z ↦ subst (λ z. (rows c).sel z ≡ 1) (sym z) s
          | inr z ↦ selected_before m w (omega arith) (omega arith) ((in_order ns c x).before m h s)
        ]

    has_last : (a : Access) → a.write ≡ false → (m : ℕ) → Met c a m → Last (rows c) m → HasLast xs a
    has_last a r m f (at w l n k lo hi g) =
        let s = bit ns c x m f.below f.on in
        let sw = selected_before m w l f.below s in
        let acc = access_of w (omega arith) (Along.on_is _ sw) in
        let met = acc.2 in
        let zero' = reads a.write _ f.wr r in
        let less : w < m = strict w m l n zero' in
        let t = later_time m w less f.below s k in
        let fk = f.key in let ft = f.time in let fl = f.lo in let fh = f.hi in
        let mk = met.key in let mt = met.time in let ml = met.lo in let mh = met.hi in
        written acc.0 (record {
          there = acc.1;
          earlier = record { write = write_is acc.0.write _ met.wr n; key = omega arith; before = omega arith };
          greatest = λ v h e. greatest v h e acc.0 met less k g s;
        }) (omega arith) (omega arith)
      where
        strict : (w m : ℕ) → w ≤ m → (rows c).wr w ≢ 0 → (rows c).wr m ≡ 0 → w < m
        strict w m l n z = elim (cases_eq w m) [ inl e ↦ absurd (n (ap (rows c).wr e ∙ z)) | inr e ↦ omega arith ]

        greatest : (v : Access) → Contains xs v → IsEarlierWrite a v → (b : Access) → Met c b w → w < m → (rows c).key w ≡ (rows c).key m → ((u : ℕ) → w < u → u ≤ m → (rows c).wr u ≢ 0 → (rows c).key u ≡ (rows c).key m → ⊥) → (rows c).sel m ≡ 1 → v.time ≤ b.time
        greatest v h e b met less k g s =
            let o = row_of v h in
            let u = o.0 in
            let d = o.1 in
            let before = earlier_row a v m u f d e.key e.before in
            let fk = f.key in let dk = d.key in let ek = e.key in let dt = d.time in let mt = met.time in
            elim (cases_lt w u) [
              | inl z ↦ absurd (g u z (omega arith) (writes v.write _ d.wr e.write) (omega arith))
              | inr z ↦ elim (cases_eq u w) [
                | inl q ↦ (let j = ap (rows c).time q in omega arith)
                | inr q ↦ (let j = later_time w u (omega arith) met.below (bit ns c x w met.below met.on) (omega arith) in omega arith)
              ]
            ]
    has_last a r m f (none g lo hi) =
        let fl = f.lo in let fh = f.hi in
        never (λ v h e.
        let o = row_of v h in
        let d = o.1 in
        let before = earlier_row a v m o.0 f d e.key e.before in
        let fk = f.key in let dk = d.key in let ek = e.key in
        g o.0 (omega arith) (writes v.write _ d.wr e.write) (omega arith)) (omega arith) (omega arith)

    pub read_last : IsReadLastWrite xs
    read_last a h r =
        let o = row_of a h in
        has_last a r o.0 o.1 (last (rows c) _ (in_order ns c x) o.0 o.1.below (bit ns c x o.0 o.1.below o.1.on))

pub sound : (ns : List Namespace) (c : Columns) → HasMem ns c → MemHolds ns c → (xs : List Access) → AsOften (map memory_tuple xs) (sent ns c Mem.access) → All InReach xs → Sound ns c
sound ns c has holds xs often reach =
    record {
      has = has;
      holds = holds;
      key = λ i r h l n. (in_reach ns c xs often (λ a. All-contains InReach xs a reach) i r h l n).0;
      time = λ i r h l n. (in_reach ns c xs often (λ a. All-contains InReach xs a reach) i r h l n).1;
      wr = λ i r h l n. (in_reach ns c xs often (λ a. All-contains InReach xs a reach) i r h l n).2;
    }

pub memory_law : MemoryLaw
memory_law ns c has holds xs often reach = read_last ns c xs often (sound ns c has holds xs often reach)

module _ (ns : List Namespace) (c : Columns) (xs : List Access) (often : AsOften (map memory_tuple xs) (sent ns c Mem.access)) (x : Sound ns c) where
  apart : (m u : ℕ) → u < m → m < c.instances 7 * c.rows 7 → (rows c).sel m ≡ 1 → (rows c).key u ≡ (rows c).key m → (rows c).time u ≡ (rows c).time m → ⊥
  apart m u l h s k t = of (above (rows c) _ (in_order ns c x) m u l h s)
    where
      of : Above (rows c) u m → ⊥
      of (key e) = omega arith
      of (time e q) = omega arith

  one_row : (m u : ℕ) → m < c.instances 7 * c.rows 7 → u < c.instances 7 * c.rows 7 → (rows c).sel m ≡ 1 → (rows c).sel u ≡ 1 → (rows c).key u ≡ (rows c).key m → (rows c).time u ≡ (rows c).time m → m ≡ u
  one_row m u h l s q k t =
      elim (cases_eq m u) [
        | inl z ↦ z
        | inr z ↦ elim (cases_lt m u) [
          | inl y ↦ absurd (apart u m y l q (sym k) (sym t))
          | inr y ↦ absurd (apart m u (omega arith) h s k t)
        ]
      ]

  bit_same : (a b : Bool) (v : ℕ) → v ≡ is_one a → v ≡ is_one b → a ≡ b
  bit_same true true v e f = refl
  bit_same true false v e f = absurd (omega arith)
  bit_same false true v e f = absurd (omega arith)
  bit_same false false v e f = refl

  -- two accesses of one key at one time are one access
  pub same_access : (a b : Access) → Contains xs a → Contains xs b → a.key ≡ b.key → a.time ≡ b.time → (a.write ≡ b.write) × (a.lo ≡ b.lo) × (a.hi ≡ b.hi)
  same_access a b h l k t =
      let o = row_of ns c xs often x a h in
      let q = row_of ns c xs often x b l in
      let f = o.1 in
      let g = q.1 in
      let fk = f.key in let gk = g.key in let ft = f.time in let gt = g.time in
      let e : o.0 ≡ q.0 = one_row o.0 q.0 f.below g.below (bit ns c x o.0 f.below f.on) (bit ns c x q.0 g.below g.on) (omega arith) (omega arith) in
      let lo = ap (rows c).lo e in
      let hi = ap (rows c).hi e in
      let wr = ap (rows c).wr e in
      let fl = f.lo in let gl = g.lo in let fh = f.hi in let gh = g.hi in
      (bit_same a.write b.write _ f.wr (wr ∙ g.wr), omega arith, omega arith)

  -- a read has the value of each write after which its key isn't written before it
  pub has_value : (a w : Access) → HasLast xs a → IsLastWrite xs a w → (a.lo ≡ w.lo) × (a.hi ≡ w.hi)
  has_value a w (written v h e f) l =
      let g = h.greatest w l.there l.earlier in
      let q = l.greatest v h.there h.earlier in
      let hk = h.earlier.key in let lk = l.earlier.key in
      let s = same_access v w h.there l.there (omega arith) (omega arith) in
      (e ∙ s.1, f ∙ s.2)
  has_value a w (never n e f) l = absurd (n w l.there l.earlier)

pub mem_distinct : MemDistinct
mem_distinct ns c has holds xs often reach = same_access ns c xs often (sound ns c has holds xs often reach)
