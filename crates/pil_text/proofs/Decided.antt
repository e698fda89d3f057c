-- Each text reads in one way or fails in one way, and not both.
use Rattle.std.proofs.Common.{ℕ, zero, suc, ◌≡◌, ◌<◌, ◌≤◌, ◌⊎◌, inl, inr, List, [], ◌∷◌, length, Option, Some, None, Contains, nat_eq, if◌then◌else◌, arith, refl, sym, ap, ◌∙◌, subst}
use Rattle.std.proofs.lemmas.Bool.{cases_lt}
use Rattle.pil_ast.specs.Term.{Line, Namespace, space_at, inter_at}
use Rattle.pil_ast.specs.Sound.{Names}
use Rattle.pil_cycles.specs.Cycles.{IsOnCycle, DependsOn, on_named, on_deeper}
use Rattle.pil_names.specs.Outline.{Outline, home_at, draft_at}
use Rattle.pil_names.specs.Least.{least, lesser, IsLeast}
use Rattle.pil_names.specs.Wrongs.{repeated, unknown, bad_rows, mixed, wrong_widths}
use Rattle.pil_meaning.specs.Meaning.{meaning}
use Rattle.pil_meaning.specs.Marks.{double}
use Rattle.pil_text.specs.declared.error.PilErr.{PilErr}
use Rattle.pil_text.specs.declared.error.PilKind.{PilKind}
use Rattle.pil_text.specs.declared.error.PilKind.TheVariants.{BadByte, NumberTooLarge, Unexpected, TooDeep, Repeated, UnknownName, BadRow, Mixed, WrongWidth, CyclicPol, DoubleMark, NoMemory}
use Rattle.pil_text.specs.Refusal.{IsWrong, IsCyclic, IsCyclicIn, IsClear, Means, Breaks, turn, place_of}
use Rattle.pil_text.specs.Cyclic.{IsLeastOf}
use Rattle.pil_text.proofs.Order.{breaks, told, kept, start, past_repeated, past_unknown, past_rows, past_mixed, past_widths, past_cyclic, past_double}
use Rattle.pil_text.proofs.Cyclic.{least_join, least_same}

-- P of a number below n
abbrev Below : (ℕ → ℕ → Type 0) → ℕ → ℕ → Type 0
Below P n at = (k : ℕ) × (k < n) × P k at

-- the least place of finitely many kinds
least_below : (P : ℕ → ℕ → Type 0) → ((k : ℕ) → (found : Option ℕ) × IsLeastOf (P k) found) → (n : ℕ) → (found : Option ℕ) × IsLeastOf (Below P n) found
least_below P each zero = (None, λ at b. omega (arith, b.1))
least_below P each (suc n) =
    let before = least_below P each n in
    let here = each n in
    (lesser before.0 here.0, least_same (λ at. Below P n at ⊎ P n at) (Below P (suc n)) (lesser before.0 here.0) join split (least_join (Below P n) (P n) before.0 here.0 before.1 here.1))
  where
    join : (at : ℕ) → Below P n at ⊎ P n at → Below P (suc n) at
    join at (inl b) = (b.0, let l = b.1 in omega (arith, l), b.2)
    join at (inr p) = (n, omega arith, p)

    split : (at : ℕ) → Below P (suc n) at → Below P n at ⊎ P n at
    split at b = by (cases_lt b.0 n)
      where
        by : (b.0 < n) ⊎ (n ≤ b.0) → Below P n at ⊎ P n at
        by (inl l) = inl (b.0, l, b.2)
        by (inr l) = let e : b.0 ≡ n = let m = b.1 in omega (arith, l, m) in inr (subst (λ k. P k at) e b.2)

-- one place, or none
one_place : (P : Type 0) (place : ℕ) → P ⊎ ¬ P → (found : Option ℕ) × IsLeastOf (λ at. P × (at ≡ place)) found
one_place P place (inl p) = (Some place, ((p, refl), λ at h. let e = h.1 in omega (arith, e)))
one_place P place (inr never) = (None, (λ at h. never h.0))

names_none : (items : List Line) (k : ℕ) → length items ≤ k → (b : ℕ) → DependsOn items k b → ⊥
names_none items k l b d = by (empty items k l) d
  where
    empty : (ls : List Line) (n : ℕ) → length ls ≤ n → inter_at ls n ≡ inter_at [] n
    empty [] n m = refl
    empty (x ∷ xs) zero m = absurd (omega (arith, m))
    empty (x ∷ xs) (suc n) m = empty xs n (omega (arith, m))

    by : inter_at items k ≡ inter_at [] k → DependsOn items k b → ⊥
    by e (on_named i j n) = subst (λ t. Names t b) e n
    by e (on_deeper i j m n r) = subst (λ t. Names t j) e n

module _ (each : (items : List Line) (k : ℕ) → IsOnCycle items k ⊎ ¬ IsOnCycle items k) (o : Outline) where
  abbrev Item : ℕ → ℕ → ℕ → Type 0
  Item s k at = IsOnCycle (space_at (meaning o) s).items k × (at ≡ place_of (draft_at (home_at o.homes s).items k))

  in_home : (s : ℕ) → (found : Option ℕ) × IsLeastOf (IsCyclicIn o s) found
  in_home s =
      let all = least_below (Item s) (λ k. one_place (IsOnCycle (space_at (meaning o) s).items k) (place_of (draft_at (home_at o.homes s).items k)) (each (space_at (meaning o) s).items k)) (length (space_at (meaning o) s).items) in
      (all.0, least_same (Below (Item s) (length (space_at (meaning o) s).items)) (IsCyclicIn o s) all.0 (λ at b. record { item = b.0; cycle = b.2.0; place = b.2.1 }) (λ at c. (c.item, inside s c.item c.cycle, (c.cycle, c.place))) all.1)
    where
      inside : (n k : ℕ) → IsOnCycle (space_at (meaning o) n).items k → k < length (space_at (meaning o) n).items
      inside n k c = by (cases_lt k (length (space_at (meaning o) n).items))
        where
          by : (k < length (space_at (meaning o) n).items) ⊎ (length (space_at (meaning o) n).items ≤ k) → k < length (space_at (meaning o) n).items
          by (inl l) = l
          by (inr l) = absurd (names_none (space_at (meaning o) n).items k l k c)

  some_cyclic : (found : Option ℕ) × IsLeastOf (IsCyclic o) found
  some_cyclic =
      let all = least_below (IsCyclicIn o) in_home (length (meaning o)) in
      (all.0, least_same (Below (IsCyclicIn o) (length (meaning o))) (IsCyclic o) all.0 (λ at b. (b.0, b.2)) (λ at c. (c.0, inside c.0 at c.1, c.1)) all.1)
    where
      empty : (ns : List Namespace) (n : ℕ) → length ns ≤ n → (space_at ns n).items ≡ []
      empty [] n m = refl
      empty (x ∷ xs) zero m = absurd (omega (arith, m))
      empty (x ∷ xs) (suc n) m = empty xs n (omega (arith, m))

      inside : (s at : ℕ) → IsCyclicIn o s at → s < length (meaning o)
      inside s at c = by (cases_lt s (length (meaning o)))
        where
          by : (s < length (meaning o)) ⊎ (length (meaning o) ≤ s) → s < length (meaning o)
          by (inl l) = l
          by (inr l) = absurd (names_none [] c.item (omega arith) c.item (subst (λ ls. DependsOn ls c.item c.item) (empty (meaning o) s l) c.cycle))

  -- a list of places, decided
  abbrev Told : Type 0
  Told = (e : PilErr) × Breaks o e

  told_at : IsLeast → (k : PilKind) (ns : List ℕ) → IsClear (turn k) o → turn k ≤ 9 → ((at : ℕ) → IsWrong k o at ≡ Contains ns at) → (found : Option ℕ) → found ≡ least ns → (ns ≡ []) ⊎ Told
  told_at is_least k ns c few same None e = inl (kept is_least ns None e refl)
  told_at is_least k ns c few same (Some m) e = inr (record { kind = k; at = m }, told is_least o k ns (Some m) (record { kind = k; at = m }) c few same e refl refl)

  cyclic_told : IsClear 7 o → (found : Option ℕ) → IsLeastOf (IsCyclic o) found → ((at : ℕ) → IsCyclic o at → ⊥) ⊎ Told
  cyclic_told c None p = inl p
  cyclic_told c (Some m) p = inr (record { kind = CyclicPol; at = m }, breaks o CyclicPol (record { kind = CyclicPol; at = m }) c (omega arith) refl p.0 p.1)

  onward : {A : Type 0} → A ⊎ Told → (A → IsClear 9 o ⊎ Told) → IsClear 9 o ⊎ Told
  onward (inl a) f = f a
  onward (inr t) f = inr t

  pub broken_or_clear : IsLeast → IsClear 9 o ⊎ Told
  broken_or_clear is_least =
      onward (told_at is_least Repeated (repeated o) (start o) (omega arith) (λ at. refl) (least (repeated o)) refl) (λ a1.
      let c3 = past_repeated o a1 in
      onward (told_at is_least UnknownName (unknown o) c3 (omega arith) (λ at. refl) (least (unknown o)) refl) (λ a2.
      let c4 = past_unknown o c3 a2 in
      onward (told_at is_least BadRow (bad_rows o) c4 (omega arith) (λ at. refl) (least (bad_rows o)) refl) (λ a3.
      let c5 = past_rows o c4 a3 in
      onward (told_at is_least Mixed (mixed o) c5 (omega arith) (λ at. refl) (least (mixed o)) refl) (λ a4.
      let c6 = past_mixed o c5 a4 in
      onward (told_at is_least WrongWidth (wrong_widths o) c6 (omega arith) (λ at. refl) (least (wrong_widths o)) refl) (λ a5.
      let c7 = past_widths o c6 a5 in
      onward (cyclic_told c7 some_cyclic.0 some_cyclic.1) (λ a6.
      let c8 = past_cyclic o c7 a6 in
      onward (told_at is_least DoubleMark (double o) c8 (omega arith) (λ at. refl) (least (double o)) refl) (λ a7. inl (past_double o c8 a7))))))))

-- the kind of a rule by its turn
abbrev kind_of : ℕ → PilKind
kind_of n = if nat_eq n 2 then Repeated else (if nat_eq n 3 then UnknownName else (if nat_eq n 4 then BadRow else (if nat_eq n 5 then Mixed else (if nat_eq n 6 then WrongWidth else (if nat_eq n 7 then CyclicPol else DoubleMark)))))

kind_back : (o : Outline) (k : PilKind) (at : ℕ) → IsWrong k o at → kind_of (turn k) ≡ k
kind_back o BadByte at w = absurd w
kind_back o NumberTooLarge at w = absurd w
kind_back o Unexpected at w = absurd w
kind_back o TooDeep at w = absurd w
kind_back o Repeated at w = refl
kind_back o UnknownName at w = refl
kind_back o BadRow at w = refl
kind_back o Mixed at w = refl
kind_back o WrongWidth at w = refl
kind_back o CyclicPol at w = refl
kind_back o DoubleMark at w = refl
kind_back o NoMemory at w = absurd w

no_earlier : (o : Outline) (e f : PilErr) → Breaks o e → Breaks o f → turn e.kind < turn f.kind → ⊥
no_earlier o e f b d l = d.first e.kind e.at l b.wrong

same_kind : (o : Outline) (e f : PilErr) → Breaks o e → Breaks o f → e.kind ≡ f.kind
same_kind o e f b d =
    let turns : turn e.kind ≡ turn f.kind = by (cases_lt (turn e.kind) (turn f.kind)) (cases_lt (turn f.kind) (turn e.kind)) in
    sym (kind_back o e.kind e.at b.wrong) ∙ ap kind_of turns ∙ kind_back o f.kind f.at d.wrong
  where
    by : (turn e.kind < turn f.kind) ⊎ (turn f.kind ≤ turn e.kind) → (turn f.kind < turn e.kind) ⊎ (turn e.kind ≤ turn f.kind) → turn e.kind ≡ turn f.kind
    by (inl l) m = absurd (no_earlier o e f b d l)
    by (inr l) (inl m) = absurd (no_earlier o f e d b m)
    by (inr l) (inr m) = omega (arith, l, m)

pub one_break : (o : Outline) (e f : PilErr) → Breaks o e → Breaks o f → e ≡ f
one_break o e f b d =
    let kinds = same_kind o e f b d in
    let low = b.least f.at (subst (λ k. IsWrong k o f.at) (sym kinds) d.wrong) in
    let high = d.least e.at (subst (λ k. IsWrong k o e.at) kinds b.wrong) in
    let places : e.at ≡ f.at = omega (arith, low, high) in
    ap (λ k. record { kind = k; at = e.at }) kinds ∙ ap (λ n. record { kind = f.kind; at = n }) places

pub not_means : (o : Outline) (ns : List Namespace) (e : PilErr) → Means o ns → Breaks o e → ⊥
not_means o ns e m b = m.right e.kind e.at b.wrong
