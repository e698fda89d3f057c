-- The machine's constants are as the laws suppose.
use Rattle.std.proofs.Common.{ℕ, ◌+◌, ◌-◌, ◌*◌, ◌/◌, ◌%◌, ◌^◌, ◌<◌, ◌≤◌, ◌≡◌, Bool, true, false, cond, eqb, ltb, ◌&&◌, if◌then◌else◌, max, List, [], ◌∷◌, length, Option, Some, None, ◌⊎◌, lit<, refl, sym, ap, subst, ◌∙◌, arith}
use Rattle.std.specs.Prelude.{slice_get, slice_index, All}
use Rattle.std.specs.List.{filter_map, cons_option, range_with_len}
use Rattle.std.specs.Option.{option_map_or}
use Rattle.std.proofs.Math.Nat.{mod-lt}
use Rattle.std.proofs.lemmas.Nat.{div-add-mod'}
use Rattle.std.proofs.lemmas.Option.{none-some}
use Rattle.std.proofs.lemmas.Bool.{cases_Bool}
use Rattle.std.proofs.lemmas.List.Elements.{All-nil, All-cons, All-head, All-tail}
use Rattle.std.proofs.lemmas.List.FromFn.{length-range_with_len, get_or-range_with_len}
use Rattle.std.proofs.lemmas.Bool.Decides.{nat_tests}
use Rattle.gold.specs.declared.shapes.Profile.TheVariants.{Small, Wide}
use Rattle.gold.specs.declared.shapes.Profile.{Profile}
use Rattle.zk_layout.specs.declared.air.Air.TheVariants as airs
use Rattle.zk_layout.specs.Air.{rows_per, rows_in, air_number}
use Rattle.zk_layout.specs.Namespaces.{namespace_number}
use Rattle.zk_layout.specs.declared.namespace.Namespace.TheVariants as spaces
use Rattle.rv_model.specs.Image.{Img, initial_word}
use Rattle.step_rows.specs.Words.{low, high}
use Rattle.step_rows.specs.Initial.{doublewords, initial_doublewords, unless_zero}
use Rattle.step_rows.specs.declared.doubleword.Doubleword.{Doubleword}
use Rattle.pil_ast.specs.Columns.{Columns}
use Rattle.fixed_cols.specs.declared.sizes.Sizes.{Sizes}
use Rattle.fixed_cols.specs.Columns.{HasConstants}
use Rattle.fixed_cols.specs.Constants.{constant, of_mem, of_out, doubleword, enters, instances_for}
use Rattle.air_mem.specs.Constants.{MemConstants, MemConstantsLaw, InitConstants, InitConstantsLaw, OutConstantsLaw, InitReach, out_key, of_initial}

-- Mem

rows_of_mem : (p : Profile) → rows_in p airs.Mem ≡ 8192
unfolding rows_per
rows_of_mem Small = refl
rows_of_mem Wide = refl

mem_row : (image : Img) (sizes : Sizes) (i k r : ℕ) → constant image sizes spaces.Mem i k r ≡ slice_index (of_mem i (slice_index sizes.counts (air_number airs.Mem)) r (rows_in sizes.profile airs.Mem)) k
unfolding constant
mem_row image sizes i k r = refl

entering : (i r : ℕ) → enters i r ≡ cond (eqb r 0 && ltb 0 i) 1 0
entering i r = grind (arith, nat_tests)

module _ (image : Img) (sizes : Sizes) (c : Columns) (h : HasConstants image sizes c spaces.Mem 8192 5) where
  instances_of_mem : c.instances 7 ≡ slice_index sizes.counts (air_number airs.Mem)
  unfolding namespace_number
  instances_of_mem = h.instances

  height_of_mem : c.rows 7 ≡ 8192
  unfolding namespace_number
  height_of_mem = h.rows

  mem_at : (i k r : ℕ) → i < c.instances 7 → r < c.rows 7 → k < 5 → c.at 7 i k r ≡ slice_index (of_mem i (c.instances 7) r (c.rows 7)) k
  unfolding namespace_number
  mem_at i k r hi hr hk =
      h.values i k r hi hr hk ∙ mem_row image sizes i k r ∙ ap (λ n. slice_index (of_mem i n r (rows_in sizes.profile airs.Mem)) k) (sym instances_of_mem) ∙ ap (λ m. slice_index (of_mem i (c.instances 7) r m) k) (rows_of_mem sizes.profile ∙ sym height_of_mem)

  mem_constants : c.instances 7 ≤ 2 ^ 22 → MemConstants c
  mem_constants few =
      record {
        joints = record {
          instances = few;
          rows = let e = height_of_mem in omega arith;
          is_inst = λ i r hi hr. mem_at i 0 r hi hr (omega arith);
          is_clast = λ i r hi hr. mem_at i 3 r hi hr (omega arith);
          is_cfirst = λ i r hi hr. mem_at i 4 r hi hr (omega arith) ∙ entering i r;
        };
        rows = height_of_mem;
        is_last = λ i r hi hr. mem_at i 1 r hi hr (omega arith);
        is_first = λ i r hi hr. mem_at i 2 r hi hr (omega arith);
      }

pub mem_constants_law : MemConstantsLaw
mem_constants_law image sizes c h few = mem_constants image sizes c h few

-- Init

rounded : (n : ℕ) → n ≤ max 1 ((n + 1023) / 1024) * 1024
rounded n = at ((n + 1023) / 1024) ((n + 1023) % 1024) (div-add-mod' (n + 1023) 1024) (mod-lt (n + 1023) {m = 1024} (lit< tt))
  where
    at : (q r : ℕ) → q * 1024 + r ≡ n + 1023 → r < 1024 → n ≤ max 1 q * 1024
    at q r e h = grind (arith, nat_tests)

init_row : (image : Img) (sizes : Sizes) (i k r : ℕ) → constant image sizes spaces.Init i k r ≡ slice_index (doubleword (slice_get (initial_doublewords image) (1024 * i + r))) k
unfolding constant
init_row image sizes i k r = refl

first : (o : Option Doubleword) → slice_index (doubleword o) 0 ≡ of_initial (λ d. 1) o
first None = refl
first (Some d) = refl

second : (o : Option Doubleword) → slice_index (doubleword o) 1 ≡ of_initial (λ d. d.number) o
second None = refl
second (Some d) = refl

third : (o : Option Doubleword) → slice_index (doubleword o) 2 ≡ of_initial (λ d. low d.value) o
third None = refl
third (Some d) = refl

fourth : (o : Option Doubleword) → slice_index (doubleword o) 3 ≡ of_initial (λ d. high d.value) o
fourth None = refl
fourth (Some d) = refl

module _ (image : Img) (sizes : Sizes) (c : Columns) (h : HasConstants image sizes c spaces.Init 1024 4) where
  instances_of_init : c.instances 5 ≡ instances_for (length (initial_doublewords image))
  unfolding namespace_number
  instances_of_init = h.instances

  height_of_init : c.rows 5 ≡ 1024
  unfolding namespace_number
  height_of_init = h.rows

  init_at : (i k r : ℕ) → i < c.instances 5 → r < c.rows 5 → k < 4 → c.at 5 i k r ≡ slice_index (doubleword (slice_get (initial_doublewords image) (i * c.rows 5 + r))) k
  unfolding namespace_number
  init_at i k r hi hr hk =
      h.values i k r hi hr hk ∙ init_row image sizes i k r ∙ ap (λ m. slice_index (doubleword (slice_get (initial_doublewords image) m)) k) (at (c.rows 5) height_of_init)
    where
      at : (n : ℕ) → n ≡ 1024 → 1024 * i + r ≡ i * n + r
      at n e = ap (λ n. n * i + r) (sym e) ∙ turned n
        where
          turned : (n : ℕ) → n * i + r ≡ i * n + r
          turned n = omega arith

  init_room : length (initial_doublewords image) ≤ c.instances 5 * c.rows 5
  init_room =
      subst (λ m. length (initial_doublewords image) ≤ m * c.rows 5) (sym instances_of_init) (subst (λ n. length (initial_doublewords image) ≤ instances_for (length (initial_doublewords image)) * n) (sym height_of_init) (rounded _))

  init_constants : InitConstants c (initial_doublewords image)
  init_constants =
      record {
        room = init_room;
        is_sel = λ i r hi hr. init_at i 0 r hi hr (omega arith) ∙ first (slice_get (initial_doublewords image) (i * c.rows 5 + r));
        is_key = λ i r hi hr. init_at i 1 r hi hr (omega arith) ∙ second (slice_get (initial_doublewords image) (i * c.rows 5 + r));
        is_lo = λ i r hi hr. init_at i 2 r hi hr (omega arith) ∙ third (slice_get (initial_doublewords image) (i * c.rows 5 + r));
        is_hi = λ i r hi hr. init_at i 3 r hi hr (omega arith) ∙ fourth (slice_get (initial_doublewords image) (i * c.rows 5 + r));
      }

pub init_constants_law : InitConstantsLaw
init_constants_law image sizes c h = init_constants image sizes c h

-- Out

out_row : (image : Img) (sizes : Sizes) (i k r : ℕ) → constant image sizes spaces.Out i k r ≡ slice_index (of_out r) k
unfolding constant
out_row image sizes i k r = refl

selects : (r : ℕ) → slice_index (of_out r) 0 ≡ cond (ltb r 33) 1 0
selects r = by (cases_Bool (eqb r 0))
  where
    by : (eqb r 0 ≡ true) ⊎ (eqb r 0 ≡ false) → slice_index (of_out r) 0 ≡ cond (ltb r 33) 1 0
    by h = grind (arith, nat_tests)

keyed : (r : ℕ) → slice_index (of_out r) 1 ≡ out_key r
keyed r = by (eqb r 0) (ltb r 33)
  where
    by : (first some : Bool) → slice_index (if first then 1 ∷ 536870922 ∷ [] else if some then 1 ∷ (167772160 + r - 1) ∷ [] else []) 1 ≡ cond first 536870922 (cond some (167772160 + r - 1) 0)
    by true some = refl
    by false true = refl
    by false false = refl

module _ (image : Img) (sizes : Sizes) (c : Columns) (h : HasConstants image sizes c spaces.Out 64 2) (one : c.instances 8 ≡ 1) where
  height_of_out : c.rows 8 ≡ 64
  unfolding namespace_number
  height_of_out = h.rows

  out_at : (k r : ℕ) → r < 64 → k < 2 → c.at 8 0 k r ≡ slice_index (of_out r) k
  unfolding namespace_number
  out_at k r hr hk = h.values 0 k r (let e = one in omega arith) (let e = height_of_out in omega arith) hk ∙ out_row image sizes 0 k r

pub out_constants_law : OutConstantsLaw
out_constants_law image sizes c h one =
    record {
      instances = one;
      rows = height_of_out image sizes c h one;
      is_sel = λ r hr. out_at image sizes c h one 0 r hr (omega arith) ∙ selects r;
      is_key = λ r hr. out_at image sizes c h one 1 r hr (omega arith) ∙ keyed r;
    }

joined : {Y : Type 0} (P : Y → Type 0) (o : Option Y) (ys : List Y) → ((y : Y) → o ≡ Some y → P y) → All P ys → All P (cons_option o ys)
joined P None ys h rest = rest
joined P (Some y) ys h rest = All-cons P y ys (h y refl) rest

-- What f gives of elements of which Q holds, where P holds of each thing that f gives of such an element.
given : {X Y : Type 0} (Q : X → Type 0) (P : Y → Type 0) (f : X → Option Y) → ((x : X) (y : Y) → Q x → f x ≡ Some y → P y) → (xs : List X) → All Q xs → All P (filter_map f xs)
given Q P f each [] h = All-nil P
given Q P f each (x ∷ xs) h = joined P (f x) (filter_map f xs) (λ y e. each x y (All-head Q x xs h) e) (given Q P f each xs (All-tail Q x xs h))

-- a doubleword that isn't 0 has the number k
number_is : (k v : ℕ) (d : Doubleword) → unless_zero k v ≡ Some d → d.number ≡ k
number_is k v d e = by (eqb v 0) e
  where
    by : (none : Bool) → (if none then None else Some (record { number = k; value = v })) ≡ Some d → d.number ≡ k
    by true e = absurd (none-some d e)
    by false e = sym (ap (λ o. option_map_or (λ d. d.number) o 0) e)

all_below : (m : ℕ) → All (λ k. k < m) (range_with_len 0 m)
all_below m = λ k d l.
    let long = length-range_with_len 0 m in
    let e = get_or-range_with_len 0 m k d (omega arith) in
    omega arith

many : doublewords ≡ 2 ^ 29
unfolding doublewords
many = refl

in_memory : (image : Img) → All (λ (d : Doubleword). d.number < doublewords) (initial_doublewords image)
unfolding initial_doublewords
in_memory image =
    given (λ k. k < doublewords) (λ d. d.number < doublewords) (λ k. unless_zero k (initial_word image k)) (λ k d h e. subst (λ n. n < doublewords) (sym (number_is k (initial_word image k) d e)) h) (range_with_len 0 doublewords) (all_below doublewords)

pub init_reach : InitReach
init_reach image = subst (λ n. All (λ (d : Doubleword). d.number < n) (initial_doublewords image)) many (in_memory image)
