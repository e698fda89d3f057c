-- The run and its public.
use Rattle.std.proofs.Common.{ℕ, zero, suc, ◌≡◌, ◌≢◌, ◌<◌, ◌≤◌, ◌+◌, ◌-◌, ◌*◌, ◌^◌, ◌⊎◌, inl, inr, List, ◌++◌, flat_map, refl, sym, ap, subst, arith, ⊎_elim}
use Rattle.std.specs.List.{range_with_len}
use Rattle.std.specs.Int.{to_le_bytes, w64}
use Rattle.std.proofs.lemmas.Bool.{cases_lt}
use Rattle.std.proofs.lemmas.Bool.Decides.{nat_tests}
use Rattle.pil_ast.specs.Term.{Namespace}
use Rattle.pil_ast.specs.Columns.{Columns}
use Rattle.pil_ast.specs.Value.{public_value}
use Rattle.rv_model.specs.Image.{Img}
use Rattle.rv_model.specs.State.{State, Halt, reg}
use Rattle.rv_model.specs.Run.{state_at, step_at, public_of, window}
use Rattle.rv_model.specs.declared.answer.Public.{Public}
use Rattle.air_main.specs.Step.{Limbs, joined}
use Rattle.air_mem.specs.Access.{Access}
use Rattle.air_mem.specs.Constants.{out_key}
use Rattle.air_mem.specs.Lists.{final_read}
use Rattle.main_run.specs.Chain.{IsPlace}
use Rattle.main_run.specs.Bus.{IsWrite, initial, stored, put}
use Rattle.main_run.specs.Run.{Leaves, Supposed, Halted}
use Rattle.main_run.specs.Headline.{told, PublicsAreOuts, Headline, HeadlineLaw}
use Rattle.main_run.proofs.Place.{places_same}
use Rattle.main_run.proofs.Below.{MainLaws, StartLaws}
use Rattle.main_run.proofs.Chain.{told as told_of}
use Rattle.main_run.proofs.Leaves.{later, read_is, same_limbs}
use Rattle.main_run.proofs.Run.{halt_law}

abbrev public_with : ℕ → List ℕ → Public
public_with a x = record { exit = a; output = x }

same_public : (a b : ℕ) (x y : List ℕ) → a ≡ b → x ≡ y → public_with a x ≡ public_with b y
same_public a b x y e h = subst (λ z. public_with a x ≡ public_with z y) e (ap (public_with a) h)

-- pieces of a list that are the same, with other numbers
same_pieces : (f g : ℕ → List ℕ) (n a b : ℕ) → ((k : ℕ) → k < n → f (a + k) ≡ g (b + k)) → flat_map f (range_with_len a n) ≡ flat_map g (range_with_len b n)
same_pieces f g zero a b h = refl
same_pieces f g (suc n) a b h =
    both (f a) (g b) _ _ (subst (λ z. f z ≡ g b) (none a) (subst (λ z. f (a + 0) ≡ g z) (none b) (h 0 (omega arith)))) (same_pieces f g n (a + 1) (b + 1) (λ k l. subst (λ z. f z ≡ g ((b + 1) + k)) (one a k) (subst (λ z. f (a + suc k) ≡ g z) (one b k) (h (suc k) (omega arith)))))
  where
    none : (a : ℕ) → a + 0 ≡ a
    none a = omega arith

    one : (a k : ℕ) → a + suc k ≡ (a + 1) + k
    one a k = omega arith

    both : (x y xs ys : List ℕ) → x ≡ y → xs ≡ ys → x ++ xs ≡ y ++ ys
    both x y xs ys e h = cc

before_end : (t g last : ℕ) → g < last → t ≤ 8 * g + 5 → t < 8 * last + 1
before_end t g last h l = omega arith

module _ (laws : MainLaws) (starts : StartLaws) (ns : List Namespace) (c : Columns) (n : ℕ) (image : Img) (xs : List Access) (a : Supposed ns c n image xs) (outs : PublicsAreOuts ns c) where
  h : Halted ns c image xs
  h = halt_law laws starts ns c n image xs a

  abbrev s : State
  s = state_at image h.last

  off : (k : ℕ) → k ≡ 0 → k ≡ 1 → ⊥
  off k e q = omega arith

  -- a row that writes is before the last
  earlier_row : (g i r : ℕ) → IsPlace c g i r → c.at 6 i 8 r ≢ 0 → (c.at 6 i 23 r ≡ 1) ⊎ (c.at 6 i 21 r ≡ 1) → g < h.last
  earlier_row g i r place on writes =
      ⊎_elim (λ l. l) (λ l. ⊎_elim (λ m. absurd (on (h.rest g i r m place))) (λ m. absurd (at (omega arith))) (cases_lt h.last g)) (cases_lt g h.last)
    where
      at : g ≡ h.last → ⊥
      at e =
          let f = h.fact in
          let q = places_same c h.last i r f.instance f.row (subst (λ z. IsPlace c z i r) e place) f.place in
          let b = (told_of laws ns c n image a.stands f.instance f.row f.place.is_instance f.place.is_row f.selected).writes_none h.halt in
          ⊎_elim
          (λ st. off _ b.1 (subst (λ z. c.at 6 z 23 f.row ≡ 1) q.0 (subst (λ z. c.at 6 i 23 z ≡ 1) q.1 st)))
          (λ wr. off _ b.0 (subst (λ z. c.at 6 z 21 f.row ≡ 1) q.0 (subst (λ z. c.at 6 i 21 z ≡ 1) q.1 wr)))
          writes

  done : (w : Access) → IsWrite ns c image w → w.time < 8 * h.last + 1
  done w (initial d m e) = none _ _ (ap (λ z. z.time) e)
    where
      none : (t j : ℕ) → t ≡ 0 → t < 8 * j + 1
      none t j e = omega arith
  done w (stored g i r place on st e) = before_end _ g h.last (earlier_row g i r place on (inl st)) (at w.time g (ap (λ z. z.time) e))
    where
      at : (t g : ℕ) → t ≡ 8 * g + 4 → t ≤ 8 * g + 5
      at t g e = omega arith
  done w (put g i r place on wr e) = before_end _ g h.last (earlier_row g i r place on (inr wr)) (at w.time g (ap (λ z. z.time) e))
    where
      at : (t g : ℕ) → t ≡ 8 * g + 5 → t ≤ 8 * g + 5
      at t g e = omega arith

  -- a final read has the value of the last state
  final_limbs : (k key v : ℕ) → k < 33 → out_key k ≡ key → Leaves xs key (8 * h.last + 1) v → Limbs (public_value ns c (2 * k)) (public_value ns c (2 * k + 1)) v
  final_limbs k key v l e keeps =
      let low = h.below in
      let reads = read_is xs a.bus.distinct (final_read c k) v (a.bus.right _ (a.bus.ends k l) refl) (subst (λ z. Leaves xs z 34359738368 v) (sym e) (later xs key (8 * h.last + 1) 34359738368 v (omega arith) (λ w m o _ _. done w (a.bus.writes w m o)) keeps)) in
      same_limbs _ _ _ _ v (outs k l).0 (outs k l).1 reads

  final_is : (k key v : ℕ) → k < 33 → out_key k ≡ key → Leaves xs key (8 * h.last + 1) v → joined (public_value ns c (2 * k)) (public_value ns c (2 * k + 1)) ≡ v
  final_is k key v l e keeps = sym (final_limbs k key v l e keeps).is

  two_limbs : (a b v : ℕ) → Limbs a b v → (a < 2 ^ 32) × (b < 2 ^ 32)
  two_limbs a b v l = (l.lo_below, l.hi_below)

  key_of : (k : ℕ) → k < 32 → out_key (suc k) ≡ 167772160 + k
  key_of k l = grind (arith, nat_tests)

  all_limbs : (k : ℕ) → k < 33 → (public_value ns c (2 * k) < 2 ^ 32) × (public_value ns c (2 * k + 1) < 2 ^ 32)
  all_limbs zero l = two_limbs _ _ _ (final_limbs 0 536870922 _ l refl (h.fact.keeps.registers 10 (omega arith)))
  all_limbs (suc k) l = two_limbs _ _ _ (final_limbs (suc k) (167772160 + k) _ l (key_of k (omega arith)) (h.fact.keeps.words (167772160 + k) (omega arith)))

  exit : joined (public_value ns c 0) (public_value ns c 1) ≡ reg s 10
  exit = final_is 0 536870922 _ (omega arith) refl (h.fact.keeps.registers 10 (omega arith))

  word : (k : ℕ) → k < 32 → joined (public_value ns c (2 * (k + 1))) (public_value ns c (2 * (k + 1) + 1)) ≡ s.word (167772160 + k)
  word k l = final_is (k + 1) (167772160 + k) _ (omega arith) (key k l) (h.fact.keeps.words (167772160 + k) (omega arith))
    where
      key : (k : ℕ) → k < 32 → out_key (k + 1) ≡ 167772160 + k
      key k l = grind (arith, nat_tests)

  output : (told (public_value ns c)).output ≡ window s.word 32
  unfolding window
  output = same_pieces (λ k. to_le_bytes w64 (joined (public_value ns c (2 * (k + 1))) (public_value ns c (2 * (k + 1) + 1)))) (λ k. to_le_bytes w64 (s.word k)) 32 0 167772160 (λ k l. subst (λ z. to_le_bytes w64 (joined (public_value ns c (2 * (z + 1))) (public_value ns c (2 * (z + 1) + 1))) ≡ to_le_bytes w64 (s.word (167772160 + k))) (plus k) (ap (to_le_bytes w64) (word k l)))
    where
      plus : (k : ℕ) → k ≡ 0 + k
      plus k = omega arith

  all_told : told (public_value ns c) ≡ public_of s
  all_told = same_public _ _ _ _ exit output

  pub headline : Headline ns c image
  headline = record {
    n = h.last + 1;
    runs = record {
      some = omega arith;
      on = λ j l. h.fact.on j (omega arith);
      halt = subst (λ z. step_at image z ≡ Halt) (less h.last) h.halts;
      told = subst (λ z. told (public_value ns c) ≡ public_of (state_at image z)) (less h.last) all_told;
    };
    most = most _ h.below;
    first = λ j i r place l.
        let f = h.facts j (omega arith) in
        let q = places_same c j f.instance f.row i r f.place place in
        subst (λ z. c.at 6 z 8 r ≢ 0) q.0 (subst (λ z. c.at 6 f.instance 8 z ≢ 0) q.1 f.selected);
    others = λ j i r place l. h.rest j i r (omega arith) place;
    limbs = all_limbs;
  }
    where
      less : (k : ℕ) → k ≡ (k + 1) - 1
      less k = omega arith

      most : (k : ℕ) → k < 2 ^ 32 → k + 1 ≤ 2 ^ 32
      most k l = omega arith

pub headline_law : MainLaws → StartLaws → HeadlineLaw
headline_law laws starts ns c n image xs a outs = headline laws starts ns c n image xs a outs
