-- The accesses of line 20, from the rows that send them.
use Rattle.std.proofs.Common.{ℕ, zero, suc, true, false, not, eqb, ◌≡◌, ◌≢◌, ◌<◌, ◌≤◌, ◌+◌, ◌*◌, ◌^◌, ◌⊎◌, List, [], ◌∷◌, ◌++◌, map, length, get_or, refl, sym, ap, subst, arith, ⊎_elim, ◌∙◌}
use Rattle.std.specs.List.{Contains, All, range_with_len}
use Rattle.std.proofs.lemmas.Bool.{ne_eqb, true≢false}
use Rattle.std.proofs.lemmas.List.Elements.{Contains-append_left, Contains-append_right, Contains-append_cases}
use Rattle.std.proofs.lemmas.List.FromFn.{length-range_with_len, get_or-range_with_len}
use Rattle.gold.specs.Field.{add_mod, mul_mod}
use Rattle.pil_ast.specs.Term.{Term, num, ◌⊕◌, ◌⊗◌, Tuples, Namespace}
use Rattle.pil_ast.specs.Columns.{Columns}
use Rattle.pil_ast.specs.Value.{around, value, value_in}
use Rattle.pil_ast.specs.Holds.{AsOften, sent, all_sent, times}
use Rattle.pil_laws.specs.Sends.{Sends}
use Rattle.pil_laws.proofs.Sums.{from_all}
use Rattle.machine_text.specs.Words.{rows_with}
use Rattle.machine_text.specs.Main
use Rattle.machine_text.specs.Mem
use Rattle.rv_model.specs.Image.{Img}
use Rattle.step_rows.specs.Initial.{initial_doublewords}
use Rattle.step_rows.specs.declared.doubleword.Doubleword.{Doubleword}
use Rattle.air_main.specs.Law.{HasMain, at_row}
use Rattle.air_main.specs.Selected.{IsSelected}
use Rattle.air_mem.specs.Access.{Access, memory_tuple, InReach}
use Rattle.air_mem.specs.Lists.{initial_write, final_read, final_reads, read_access, IsShaped}
use Rattle.main_run.specs.Chain.{IsPlace}
use Rattle.main_run.specs.Bus.{first_read, second_read, old_read, memory_write, register_write, IsWrite, initial, stored, put, IsBus, accesses, BusSupposed, RunBusLaw}
use Rattle.main_run.proofs.Below.{MainLaws, StartLaws, MemLaws}
use Rattle.main_run.proofs.Senders.{sent_there, there_sent, map_back, shaped_back, shaped_reach, mapped_reach}
use Rattle.main_run.proofs.Chain.{told}
use Rattle.main_run.proofs.Place.{below_all}

abbrev lists : List Tuples
lists = Main.accesses

-- each of a list
abbrev pub EachOf : (Tuples → Type 0) → List Tuples → Type 0
EachOf P [] = Unit {0}
EachOf P (x ∷ xs) = P x × EachOf P xs

pub each_of : (P : Tuples → Type 0) (xs : List Tuples) → EachOf P xs → (a : Tuples) (k : ℕ) → k < length xs → get_or xs k a ≡ a → P a
each_of P [] h a k l e = absurd (omega arith)
each_of P (x ∷ xs) h a zero l e = subst P e h.0
each_of P (x ∷ xs) h a (suc k) l e = each_of P xs h.1 a k (omega arith) e

-- elements of a mapped list, and back
from_map : {X Y : Type 0} (f : X → Y) (xs : List X) (y : Y) (k : ℕ) → k < length (map f xs) → get_or (map f xs) k y ≡ y → (x : X) × Contains xs x × (y ≡ f x)
from_map f [] y k l e = absurd (omega arith)
from_map f (x ∷ xs) y zero l e = (x, (0, above (length xs), refl), sym e)
  where
    above : (n : ℕ) → 0 < suc n
    above n = omega arith
from_map f (x ∷ xs) y (suc k) l e =
    let w = from_map f xs y k (omega arith) e in
    (w.0, (suc w.1.0, more _ _ w.1.1, w.1.2), w.2)
  where
    more : (k n : ℕ) → k < n → suc k < suc n
    more k n h = omega arith

into_map : {X Y : Type 0} (f : X → Y) (xs : List X) (x : X) (k : ℕ) → k < length xs → get_or xs k x ≡ x → Contains (map f xs) (f x)
into_map f [] x k l e = absurd (omega arith)
into_map f (y ∷ xs) x zero l e = (0, above (length (map f xs)), ap f e)
  where
    above : (n : ℕ) → 0 < suc n
    above n = omega arith
into_map f (y ∷ xs) x (suc k) l e =
    let w = into_map f xs x k (omega arith) e in
    (suc w.0, more _ _ w.1, w.2)
  where
    more : (k n : ℕ) → k < n → suc k < suc n
    more k n h = omega arith

five_same : (k t w l h x y : ℕ) → k ≡ x → t ≡ y → k ∷ t ∷ w ∷ l ∷ h ∷ [] ≡ x ∷ y ∷ w ∷ l ∷ h ∷ []
five_same k t w l h x y e f = cc

set_from : (v : ℕ) → not (eqb v 0) ≡ true → v ≢ 0
set_from v h z = true≢false (sym h ∙ ap (λ v. not (eqb v 0)) z)

set_of : (v : ℕ) → v ≢ 0 → not (eqb v 0) ≡ true
set_of v h = ap not (ne_eqb v 0 h)

-- a product of the selector that isn't 0
factor : (s b : ℕ) → mul_mod s b ≢ 0 → s ≢ 0
factor s b h e = h (subst (λ z. mul_mod z b ≡ 0) (sym e) (none b))
  where
    none : (b : ℕ) → mul_mod 0 b ≡ 0
    none b = omega arith

other : (s b : ℕ) → mul_mod s b ≢ 0 → b ≢ 0
other s b h e = h (subst (λ z. mul_mod s z ≡ 0) (sym e) (none s))
  where
    none : (s : ℕ) → mul_mod s 0 ≡ 0
    none s = omega arith

both_on : (s b : ℕ) → s ≡ 1 → b ≡ 1 → mul_mod s b ≢ 0
both_on s b h k = subst (λ z. mul_mod z b ≢ 0) (sym h) (subst (λ z. mul_mod 1 z ≢ 0) (sym k) some)
  where
    some : mul_mod 1 1 ≢ 0
    some e = omega arith

the_bit : (b : ℕ) → (b ≡ 0) ⊎ (b ≡ 1) → b ≢ 0 → b ≡ 1
the_bit b h n = ⊎_elim (λ z. absurd (n z)) (λ z. z) h

-- keys and times are whole numbers
key_is : (k : ℕ) → k < 32 → add_mod 536870912 k ≡ 536870912 + k
key_is k h = omega arith

time_is : (v j k : ℕ) → v ≡ j → j < 2 ^ 32 → k < 8 → add_mod (mul_mod 8 v) k ≡ 8 * j + k
time_is v j k e l h = omega arith

key_reach : (k : ℕ) → k < 32 → 536870912 + k < 2 ^ 30
key_reach k h = omega arith

keys_below : (k : ℕ) → k < 536870912 → k < 2 ^ 30
keys_below k h = omega arith

w_reach : (k : ℕ) → k < 536870912 → k < 2 ^ 30
w_reach k h = omega arith

time_reach : (j k : ℕ) → j < 2 ^ 32 → k < 6 → 8 * j + k ≤ 2 ^ 35
time_reach j k l h = omega arith

module _ (laws : MainLaws) (starts : StartLaws) (mem : MemLaws) (ns : List Namespace) (c : Columns) (n : ℕ) (image : Img) (a : BusSupposed ns c n image) where
  abbrev has : HasMain ns c n image
  has = a.stands.has

  -- what a tuple that Main sends is
  data Sent (t : List ℕ) : Type 0 where
    of_first : (j i r : ℕ) → IsPlace c j i r → c.at 6 i 8 r ≢ 0 → t ≡ memory_tuple (first_read ns c j i r) → Sent t
    of_second : (j i r : ℕ) → IsPlace c j i r → c.at 6 i 8 r ≢ 0 → t ≡ memory_tuple (second_read ns c j i r) → Sent t
    of_old : (j i r : ℕ) → IsPlace c j i r → c.at 6 i 8 r ≢ 0 → at_row ns c i r Main.ms ≢ 0 → t ≡ memory_tuple (old_read ns c j i r) → Sent t
    of_memory : (j i r : ℕ) → IsPlace c j i r → c.at 6 i 8 r ≢ 0 → c.at 6 i 23 r ≡ 1 → at_row ns c i r Main.ms ≢ 0 → t ≡ memory_tuple (memory_write ns c j i r) → Sent t
    of_register : (j i r : ℕ) → IsPlace c j i r → c.at 6 i 8 r ≢ 0 → c.at 6 i 21 r ≡ 1 → t ≡ memory_tuple (register_write ns c j i r) → Sent t

  at_is : (i r : ℕ) (e : Term) → value_in ns c 6 i r e ≡ at_row ns c i r e
  at_is i r e = ap (λ n. value n.items (around ns c 6 i r) e) has.main

  -- a selected row behind a tuple, and back
  record Behind (e : Term) (es : List Term) (t : List ℕ) : Type 0 where
    number : ℕ
    instance : ℕ
    row : ℕ
    place : IsPlace c number instance row
    on : at_row ns c instance row e ≢ 0
    is : map (at_row ns c instance row) es ≡ t

  behind : (e : Term) (es : List Term) (t : List ℕ) → Sends ns c (rows_with 6 e es) t → Behind e es t
  behind e es t s = record {
    number = s.instance * c.rows 6 + s.row;
    instance = s.instance;
    row = s.row;
    place = record { is_instance = s.is_instance; is_row = s.is_row; is_number = refl };
    on = set_from _ (subst (λ z. not (eqb z 0) ≡ true) (at_is s.instance s.row e) s.is_selected);
    is = subst (λ n. map (value n.items (around ns c 6 s.instance s.row)) es ≡ t) has.main s.is_tuple;
  }

  sends : (j i r : ℕ) (e : Term) (es : List Term) (t : List ℕ) → IsPlace c j i r → at_row ns c i r e ≢ 0 → map (at_row ns c i r) es ≡ t → Sends ns c (rows_with 6 e es) t
  sends j i r e es t place on is = record {
    instance = i;
    row = r;
    is_instance = place.is_instance;
    is_row = place.is_row;
    is_selected = subst (λ z. not (eqb z 0) ≡ true) (sym (at_is i r e)) (set_of _ on);
    is_tuple = subst (λ n. map (value n.items (around ns c 6 i r)) es ≡ t) (sym has.main) is;
  }

  module _ (j i r : ℕ) (place : IsPlace c j i r) where
    step : c.at 6 i 0 r ≡ j
    step = a.stands.constants.is_step i r place.is_instance place.is_row ∙ sym place.is_number

    below : j < 2 ^ 32
    below = below_all c j i r place a.stands.few

    at_time : (k : ℕ) → k < 8 → add_mod (mul_mod 8 (c.at 6 i 0 r)) k ≡ 8 * j + k
    at_time k l = time_is _ j k step below l

    module _ (on : c.at 6 i 8 r ≢ 0) where
      row : IsSelected ns c i r
      row = told laws ns c n image a.stands i r place.is_instance place.is_row on

      first_is : map (at_row ns c i r) ((num 536870912 ⊕ Main.rs1) ∷ (num 8 ⊗ Main.STEP ⊕ num 1) ∷ num 0 ∷ Main.alo ∷ Main.ahi ∷ []) ≡ memory_tuple (first_read ns c j i r)
      first_is = five_same _ _ _ _ _ _ _ (key_is _ row.rs1) (at_time 1 (omega arith))

      second_is : map (at_row ns c i r) ((num 536870912 ⊕ Main.rs2) ∷ (num 8 ⊗ Main.STEP ⊕ num 2) ∷ num 0 ∷ Main.slo ∷ Main.shi ∷ []) ≡ memory_tuple (second_read ns c j i r)
      second_is = five_same _ _ _ _ _ _ _ (key_is _ row.rs2) (at_time 2 (omega arith))

      register_is : map (at_row ns c i r) ((num 536870912 ⊕ Main.rd) ∷ (num 8 ⊗ Main.STEP ⊕ num 5) ∷ num 1 ∷ Main.vlo ∷ Main.vhi ∷ []) ≡ memory_tuple (register_write ns c j i r)
      register_is = five_same _ _ _ _ _ _ _ (key_is _ row.rd) (at_time 5 (omega arith))

    old_is : map (at_row ns c i r) (Main.w ∷ (num 8 ⊗ Main.STEP ⊕ num 3) ∷ num 0 ∷ Main.olo ∷ Main.ohi ∷ []) ≡ memory_tuple (old_read ns c j i r)
    old_is = five_same _ _ _ _ _ _ _ refl (at_time 3 (omega arith))

    memory_is : map (at_row ns c i r) (Main.w ∷ (num 8 ⊗ Main.STEP ⊕ num 4) ∷ num 1 ∷ Main.mlo ∷ Main.mhi ∷ []) ≡ memory_tuple (memory_write ns c j i r)
    memory_is = five_same _ _ _ _ _ _ _ refl (at_time 4 (omega arith))

  -- each tuple that Main sends is one of these
  from_first : (t : List ℕ) → Sends ns c (rows_with 6 Main.sel ((num 536870912 ⊕ Main.rs1) ∷ (num 8 ⊗ Main.STEP ⊕ num 1) ∷ num 0 ∷ Main.alo ∷ Main.ahi ∷ [])) t → Sent t
  from_first t s =
      let b = behind _ _ t s in
      of_first b.number b.instance b.row b.place b.on (sym b.is ∙ first_is b.number b.instance b.row b.place b.on)

  from_second : (t : List ℕ) → Sends ns c (rows_with 6 Main.sel ((num 536870912 ⊕ Main.rs2) ∷ (num 8 ⊗ Main.STEP ⊕ num 2) ∷ num 0 ∷ Main.slo ∷ Main.shi ∷ [])) t → Sent t
  from_second t s =
      let b = behind _ _ t s in
      of_second b.number b.instance b.row b.place b.on (sym b.is ∙ second_is b.number b.instance b.row b.place b.on)

  from_old : (t : List ℕ) → Sends ns c (rows_with 6 Main.ms (Main.w ∷ (num 8 ⊗ Main.STEP ⊕ num 3) ∷ num 0 ∷ Main.olo ∷ Main.ohi ∷ [])) t → Sent t
  from_old t s =
      let b = behind _ _ t s in
      of_old b.number b.instance b.row b.place (factor (c.at 6 b.instance 8 b.row) _ b.on) b.on (sym b.is ∙ old_is b.number b.instance b.row b.place)

  from_memory : (t : List ℕ) → Sends ns c (rows_with 6 (Main.sel ⊗ Main.st) (Main.w ∷ (num 8 ⊗ Main.STEP ⊕ num 4) ∷ num 1 ∷ Main.mlo ∷ Main.mhi ∷ [])) t → Sent t
  from_memory t s =
      let b = behind _ _ t s in
      let on = factor (c.at 6 b.instance 8 b.row) (c.at 6 b.instance 23 b.row) b.on in
      let q = row b.number b.instance b.row b.place on in
      let st = the_bit _ q.st (other (c.at 6 b.instance 8 b.row) (c.at 6 b.instance 23 b.row) b.on) in
      of_memory b.number b.instance b.row b.place on st (q.stores st) (sym b.is ∙ memory_is b.number b.instance b.row b.place)

  from_register : (t : List ℕ) → Sends ns c (rows_with 6 (Main.sel ⊗ Main.wr) ((num 536870912 ⊕ Main.rd) ∷ (num 8 ⊗ Main.STEP ⊕ num 5) ∷ num 1 ∷ Main.vlo ∷ Main.vhi ∷ [])) t → Sent t
  from_register t s =
      let b = behind _ _ t s in
      let on = factor (c.at 6 b.instance 8 b.row) (c.at 6 b.instance 21 b.row) b.on in
      let wr = the_bit _ (row b.number b.instance b.row b.place on).wr (other (c.at 6 b.instance 8 b.row) (c.at 6 b.instance 21 b.row) b.on) in
      of_register b.number b.instance b.row b.place on wr (sym b.is ∙ register_is b.number b.instance b.row b.place on)

  sent_of : (t : List ℕ) (l : Tuples) → Contains lists l → Sends ns c l t → Sent t
  sent_of t l m s = each_of (λ b. Sends ns c b t → Sent t) lists (from_first t, (from_second t, (from_old t, (from_memory t, (from_register t, tt))))) l m.0 m.1 m.2 s

  shaped : (t : List ℕ) → Sent t → IsShaped t
  shaped t (of_first j i r place on e) = subst IsShaped (sym e) (key_reach _ (row j i r place on).rs1, time_reach j 1 (below j i r place) (omega arith), omega arith)
  shaped t (of_second j i r place on e) = subst IsShaped (sym e) (key_reach _ (row j i r place on).rs2, time_reach j 2 (below j i r place) (omega arith), omega arith)
  shaped t (of_old j i r place on some e) = subst IsShaped (sym e) (w_reach _ ((row j i r place on).w_below some), time_reach j 3 (below j i r place) (omega arith), omega arith)
  shaped t (of_memory j i r place on st some e) = subst IsShaped (sym e) (w_reach _ ((row j i r place on).w_below some), time_reach j 4 (below j i r place) (omega arith), omega arith)
  shaped t (of_register j i r place on wr e) = subst IsShaped (sym e) (key_reach _ (row j i r place on).rd, time_reach j 5 (below j i r place) (omega arith), omega arith)

  all_shaped : (t : List ℕ) → times t (all_sent ns c lists) ≢ 0 → IsShaped t
  all_shaped t h = let w = from_all ns c t lists h in shaped t (sent_of t w.0 w.1 w.2)

  abbrev ms : List Access
  ms = map read_access (all_sent ns c lists)

  abbrev ds : List Doubleword
  ds = initial_doublewords image

  abbrev xs : List Access
  xs = accesses ns c image

  main_often : AsOften (all_sent ns c lists) (map memory_tuple ms)
  main_often t = ap (times t) (sym (map_back memory_tuple read_access (all_sent ns c lists) (λ t n. shaped_back t (all_shaped t n))))

  reach : All InReach ms
  reach = mapped_reach (all_sent ns c lists) (λ t n. shaped_reach t (all_shaped t n))

  keys : All (λ d. d.number < 2 ^ 30) ds
  keys k d l = keys_below _ ((starts.initial image).each k d l).below

  pub received : AsOften (map memory_tuple xs) (sent ns c Mem.access) × All InReach xs
  received = mem.receives ns c lists ms ds a.init a.out main_often (a.stands.holds 73) reach keys

  -- the write behind each access
  from_sent_write : (x : Access) (t : List ℕ) → x ≡ read_access t → x.write ≡ true → Sent t → IsWrite ns c image x
  from_sent_write x t q w (of_first j i r place on e) = absurd (true≢false (sym w ∙ ap (λ z. z.write) (q ∙ ap read_access e)))
  from_sent_write x t q w (of_second j i r place on e) = absurd (true≢false (sym w ∙ ap (λ z. z.write) (q ∙ ap read_access e)))
  from_sent_write x t q w (of_old j i r place on some e) = absurd (true≢false (sym w ∙ ap (λ z. z.write) (q ∙ ap read_access e)))
  from_sent_write x t q w (of_memory j i r place on st some e) = stored j i r place on st (q ∙ ap read_access e)
  from_sent_write x t q w (of_register j i r place on wr e) = put j i r place on wr (q ∙ ap read_access e)

  of_main : (x : Access) → Contains ms x → x.write ≡ true → IsWrite ns c image x
  of_main x h w =
      let s = there_sent ns c lists x h in
      from_sent_write x s.0 s.1 w (sent_of s.0 s.2.0 s.2.1 s.2.2)

  of_init : (x : Access) → Contains (map initial_write ds) x → IsWrite ns c image x
  of_init x h = let d = from_map initial_write ds x h.0 h.1 h.2 in initial d.0 d.1 d.2

  of_out : (x : Access) → Contains (final_reads c) x → x.write ≡ true → IsWrite ns c image x
  of_out x h w = let k = from_map (final_read c) (range_with_len 0 33) x h.0 h.1 h.2 in absurd (true≢false (sym w ∙ ap (λ z. z.write) k.2))

  writes : (x : Access) → Contains xs x → x.write ≡ true → IsWrite ns c image x
  writes x h w =
      ⊎_elim
      (λ m. of_main x m w)
      (λ m. ⊎_elim (λ o. of_init x o) (λ o. of_out x o w) (Contains-append_cases (map initial_write ds) (final_reads c) x m))
      (Contains-append_cases ms (map initial_write ds ++ final_reads c) x h)

  -- the list with this number among Main's five
  there : (k : ℕ) (b : Tuples) (x : Access) → k < 5 → get_or lists k b ≡ b → Sends ns c b (memory_tuple x) → read_access (memory_tuple x) ≡ x → Contains xs x
  there k b x l e s q = Contains-append_left ms (map initial_write ds ++ final_reads c) x (subst (Contains ms) q (sent_there ns c lists b (memory_tuple x) (k, l, e) s))

  begins : (d : Doubleword) → Contains ds d → Contains xs (initial_write d)
  begins d m = Contains-append_right ms (map initial_write ds ++ final_reads c) (initial_write d) (Contains-append_left (map initial_write ds) (final_reads c) (initial_write d) (into_map initial_write ds d m.0 m.1 m.2))

  ends : (k : ℕ) → k < 33 → Contains xs (final_read c k)
  ends k l = Contains-append_right ms (map initial_write ds ++ final_reads c) (final_read c k) (Contains-append_right (map initial_write ds) (final_reads c) (final_read c k) (into_map (final_read c) (range_with_len 0 33) k k (long k l) (get_or-range_with_len 0 33 k k l ∙ none k)))
    where
      none : (k : ℕ) → 0 + k ≡ k
      none k = omega arith

      long : (k : ℕ) → k < 33 → k < length (range_with_len 0 33)
      long k l = let h = length-range_with_len 0 33 in omega arith

  pub bus : IsBus ns c image xs
  bus = record {
    right = mem.sound ns c lists ms ds a.mem a.mem_holds a.init a.out main_often (a.stands.holds 73) reach keys;
    distinct = λ x y h k e t. let d = mem.distinct ns c a.mem a.mem_holds xs received.0 received.1 x y h k e t in (d.1, d.2);
    writes = writes;
    starts = begins;
    ends = ends;
    first = λ j i r place on. there 0 _ (first_read ns c j i r) (omega arith) refl (sends j i r Main.sel _ _ place on (first_is j i r place on)) refl;
    second = λ j i r place on. there 1 _ (second_read ns c j i r) (omega arith) refl (sends j i r Main.sel _ _ place on (second_is j i r place on)) refl;
    old = λ j i r place on some. there 2 _ (old_read ns c j i r) (omega arith) refl (sends j i r Main.ms _ _ place some (old_is j i r place)) refl;
    memory = λ j i r place on st. there 3 _ (memory_write ns c j i r) (omega arith) refl (sends j i r (Main.sel ⊗ Main.st) _ _ place (both_on _ _ (row j i r place on).sel st) (memory_is j i r place)) refl;
    register = λ j i r place on wr. there 4 _ (register_write ns c j i r) (omega arith) refl (sends j i r (Main.sel ⊗ Main.wr) _ _ place (both_on _ _ (row j i r place on).sel wr) (register_is j i r place on)) refl;
  }

pub run_bus_law : MainLaws → StartLaws → MemLaws → RunBusLaw
run_bus_law laws starts mem ns c n image a = bus laws starts mem ns c n image a
