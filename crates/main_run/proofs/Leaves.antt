-- What the writes leave of a key, from one time to a later one.
use Rattle.std.proofs.Common.{ℕ, suc, true, ◌≡◌, ◌<◌, ◌≤◌, ◌+◌, ◌*◌, List, sym, ap, subst, arith, ⊎_elim}
use Rattle.std.specs.List.{Contains}
use Rattle.std.proofs.lemmas.Bool.{cases_lt}
use Rattle.pil_ast.specs.Term.{Namespace}
use Rattle.pil_ast.specs.Columns.{Columns}
use Rattle.rv_model.specs.Image.{Img}
use Rattle.air_main.specs.Step.{Limbs}
use Rattle.air_mem.specs.Access.{Access, IsEarlierWrite, HasLast, written, never}
use Rattle.main_run.specs.Chain.{IsPlace}
use Rattle.main_run.specs.Bus.{IsWrite, initial, stored, put, memory_write, register_write}
use Rattle.main_run.specs.Run.{reading, Leaves, by, untouched}
use Rattle.main_run.proofs.Place.{places_same}

none_limbs : (a b v : ℕ) → a ≡ 0 → b ≡ 0 → v ≡ 0 → Limbs a b v
none_limbs a b v e h k = record { lo_below = omega arith; hi_below = omega arith; is = omega arith }

pub same_limbs : (a b x y v : ℕ) → a ≡ x → b ≡ y → Limbs x y v → Limbs a b v
same_limbs a b x y v e h l = subst (λ z. Limbs z b v) (sym e) (subst (λ z. Limbs x z v) (sym h) l)

same_times : (a b : ℕ) → a ≤ b → b ≤ a → a ≡ b
same_times a b h l = omega arith

module _ (xs : List Access) where
  -- no write of the key between the times
  abbrev pub Quiet : ℕ → ℕ → ℕ → Type 0
  Quiet k t u = (w : Access) → Contains xs w → w.write ≡ true → w.key ≡ k → w.time < u → w.time < t

  pub later : (k t u v : ℕ) → t ≤ u → Quiet k t u → Leaves xs k t v → Leaves xs k u v
  later k t u v h q (by w l e) =
      by w (record {
        there = l.there;
        earlier = record { write = l.earlier.write; key = l.earlier.key; before = omega (arith, l.earlier.before) };
        greatest = λ a m n. l.greatest a m (record { write = n.write; key = n.key; before = q a m n.write n.key n.before });
      }) e
  later k t u v h q (untouched n e) = untouched (λ w m l. n w m (record { write = l.write; key = l.key; before = q w m l.write l.key l.before })) e

  pub wrote : (k u v : ℕ) (w : Access) → Contains xs w → w.write ≡ true → w.key ≡ k → w.time < u → ((a : Access) → Contains xs a → a.write ≡ true → a.key ≡ k → a.time < u → a.time ≤ w.time) → Limbs w.lo w.hi v → Leaves xs k u v
  wrote k u v w m e h l g n = by w (record { there = m; earlier = record { write = e; key = h; before = l }; greatest = λ a o p. g a o p.write p.key p.before }) n

  -- a read has the number
  pub read_is : ((a b : Access) → Contains xs a → Contains xs b → a.key ≡ b.key → a.time ≡ b.time → (a.lo ≡ b.lo) × (a.hi ≡ b.hi)) → (a : Access) (v : ℕ) → HasLast xs a → Leaves xs a.key a.time v → Limbs a.lo a.hi v
  read_is distinct a v (written w l e h) (by u m n) =
      let as_a : IsEarlierWrite a u = record { write = m.earlier.write; key = m.earlier.key; before = m.earlier.before } in
      let as_r : IsEarlierWrite (reading a.key a.time) w = record { write = l.earlier.write; key = l.earlier.key; before = l.earlier.before } in
      let k : w.key ≡ u.key = omega (arith, l.earlier.key, m.earlier.key) in
      let s = distinct w u l.there m.there k (same_times _ _ (m.greatest w l.there as_r) (l.greatest u m.there as_a)) in
      same_limbs _ _ _ _ v e h (same_limbs _ _ _ _ v s.0 s.1 n)
  read_is distinct a v (written w l e h) (untouched n q) = absurd (n w l.there (record { write = l.earlier.write; key = l.earlier.key; before = l.earlier.before }))
  read_is distinct a v (never n e h) (by u m q) = absurd (n u m.there (record { write = m.earlier.write; key = m.earlier.key; before = m.earlier.before }))
  read_is distinct a v (never n e h) (untouched m q) = none_limbs _ _ v e h q

-- a write before the row after row number j, seen from row number j
pub data Recent (ns : List Namespace) (c : Columns) (j i r : ℕ) (w : Access) : Type 0 where
  earlier : w.time < 8 * j + 1 → Recent ns c j i r w
  of_memory : c.at 6 i 23 r ≡ 1 → w ≡ memory_write ns c j i r → Recent ns c j i r w
  of_register : c.at 6 i 21 r ≡ 1 → w ≡ register_write ns c j i r → Recent ns c j i r w

at_start : (t j : ℕ) → t ≡ 0 → t < 8 * j + 1
at_start t j e = omega arith

module _ (ns : List Namespace) (c : Columns) (image : Img) where
  -- rows write at their fourth and fifth time
  pub quiet : (j : ℕ) (w : Access) → IsWrite ns c image w → w.time < 8 * j + 4 → w.time < 8 * j + 1
  quiet j w (initial d m e) l = at_start _ j (ap (λ a. a.time) e)
  quiet j w (stored g i r place on st e) l = let t : w.time ≡ 8 * g + 4 = ap (λ a. a.time) e in omega arith
  quiet j w (put g i r place on wr e) l = let t : w.time ≡ 8 * g + 5 = ap (λ a. a.time) e in omega arith

  pub recent : (j i r : ℕ) → IsPlace c j i r → (w : Access) → IsWrite ns c image w → w.time < 8 * suc j + 1 → Recent ns c j i r w
  recent j i r here w (initial d m e) l = earlier (at_start _ j (ap (λ a. a.time) e))
  recent j i r here w (stored g a b place on st e) l =
      let t : w.time ≡ 8 * g + 4 = ap (λ a. a.time) e in
      ⊎_elim
      (λ h. earlier (omega arith))
      (λ h.
      let q : g ≡ j = omega arith in
      let s = places_same c j a b i r (subst (λ z. IsPlace c z a b) q place) here in
      of_memory (subst (λ z. c.at 6 i 23 z ≡ 1) s.1 (subst (λ z. c.at 6 z 23 b ≡ 1) s.0 st)) (subst (λ z. w ≡ memory_write ns c j i z) s.1 (subst (λ z. w ≡ memory_write ns c j z b) s.0 (subst (λ z. w ≡ memory_write ns c z a b) q e))))
      (cases_lt g j)
  recent j i r here w (put g a b place on wr e) l =
      let t : w.time ≡ 8 * g + 5 = ap (λ a. a.time) e in
      ⊎_elim
      (λ h. earlier (omega arith))
      (λ h.
      let q : g ≡ j = omega arith in
      let s = places_same c j a b i r (subst (λ z. IsPlace c z a b) q place) here in
      of_register (subst (λ z. c.at 6 i 21 z ≡ 1) s.1 (subst (λ z. c.at 6 z 21 b ≡ 1) s.0 wr)) (subst (λ z. w ≡ register_write ns c j i z) s.1 (subst (λ z. w ≡ register_write ns c j z b) s.0 (subst (λ z. w ≡ register_write ns c z a b) q e))))
      (cases_lt g j)
