-- The steps of the intermediates of a namespace.
use Rattle.std.proofs.Common.{ℕ, ◌+◌, ◌<◌, ◌≤◌, ◌≡◌, ◌≢◌, inl, inr, Bool, true, false, not, ◌||◌, ◌&&◌, cond, List, [], ◌∷◌, ◌++◌, Some, length, get_or, set, take, slice_get, slice_index, option_map, refl, sym, ◌∙◌, ap, subst, arith, length-set, Contains, MatchBool}
use Rattle.std.proofs.lemmas.Bool.{cases_eq, true≢false}
use Rattle.std.proofs.lemmas.Option.{slice_get-map, slice_get-get_or, slice_get_within, get_or_from_slice_get}
use Rattle.std.proofs.lemmas.List.{take_more, take_all, length-map, get_or-set_same, get_or-set_other}
use Rattle.std.proofs.lemmas.List.Elements.{Contains-push_cases}
use Rattle.gold.specs.Field.{p}
use Rattle.pil_ast.specs.declared.turns.Turn.{Turn}
use Rattle.pil_ast.specs.Term.{Term, num, col, mid, public, opp, ◌⊕◌, ◌⊖◌, ◌⊗◌, Line, constant, commit, inter, published, identity, lookup, bus, body_of, Namespace, item_at, inter_at, space_at, width, publics}
use Rattle.pil_ast.specs.Value.{later, around}
use Rattle.pil_ast.specs.Written.{marked_by, marked_at, marked}
use Rattle.pil_ast.specs.Sound.{Each, NamesOnly, IsInter, IsNameable, IsTerm, IsSpace, IsAcyclic}
use Rattle.pil_ast.specs.Turns.{IsPlan, items_of}
use Rattle.pil_program.proofs.Places.{item-term, get_or-any}
use Rattle.pil_program.proofs.Parts.{each_from, each_from_two}
use Rattle.pil_program.proofs.Fuel.{inter_value-is, inter_mark-is}
use Rattle.pil_program.specs.declared.nodes.Node.{Node}
use Rattle.pil_program.specs.Publics.{NoPublic, NoneInItem}
use Rattle.pil_program.specs.Program.{IsProgram, IsOver, IsReady, Computes, KeepsSteps, HaveSteps, NotesStep, IsProgramOf}
use Rattle.pil_program.proofs.Steps.{computes-kept, keeps-same, keeps-both}

or-false : (a b : Bool) → (a || b) ≡ false → (a ≡ false) × (b ≡ false)
or-false true b e = absurd (true≢false e)
or-false false b e = (refl, e)

-- no part of a term without a mark has one
unmarked-each : (m : ℕ → Bool) (e : Term) → marked_by m e ≡ false → Each (λ n. Unit {0}) (λ s k b. b ≡ false) (λ s k b. (b ≡ false) × (m k ≡ false)) (λ k. Unit {0}) e
unmarked-each m (num n) h = tt
unmarked-each m (col s k b) h = h
unmarked-each m (mid s k b) h = or-false b (m k) h
unmarked-each m (public k) h = tt
unmarked-each m (opp a) h = unmarked-each m a h
unmarked-each m (a ⊕ b) h = let w = or-false (marked_by m a) (marked_by m b) h in (unmarked-each m a w.0, unmarked-each m b w.1)
unmarked-each m (a ⊖ b) h = let w = or-false (marked_by m a) (marked_by m b) h in (unmarked-each m a w.0, unmarked-each m b w.1)
unmarked-each m (a ⊗ b) h = let w = or-false (marked_by m a) (marked_by m b) h in (unmarked-each m a w.0, unmarked-each m b w.1)

-- a term of the text is over the columns of its namespace, and over the next row's where it has no mark
pub over-here : (ns : List Namespace) (s : ℕ) (e : Term) → IsTerm ns s e → NoPublic e → IsOver ns s false e
over-here ns s e term free =
    each_from_two (λ n. n < p) (λ n. Unit {0}) (λ n. Unit {0})
    (λ n k b. (n ≡ s) × (k < width (space_at ns s).items)) (λ n k b. Unit {0}) (λ n k b. (n ≡ s) × (k < width (space_at ns s).items) × ((false && b) ≡ false))
    (λ n k b. (n ≡ s) × IsNameable (space_at ns s).items k b) (λ n k b. Unit {0}) (λ n k b. Unit {0}) (λ k. k < length (publics ns)) (λ k. ⊥) (λ k. ⊥)
    (λ n a u. tt) (λ n k b a u. (a.0, a.1, refl)) (λ n k b a u. tt) (λ k a u. u) e term free

pub over-next : (ns : List Namespace) (s : ℕ) (e : Term) → IsTerm ns s e → NoPublic e → marked (space_at ns s).items e ≡ false → IsOver ns s true e
over-next ns s e term free unmarked =
    each_from_two (λ n. Unit {0}) (λ n. Unit {0}) (λ n. Unit {0})
    (λ n k b. (n ≡ s) × (k < width (space_at ns s).items) × ((false && b) ≡ false)) (λ n k b. b ≡ false) (λ n k b. (n ≡ s) × (k < width (space_at ns s).items) × ((true && b) ≡ false))
    (λ n k b. Unit {0}) (λ n k b. (b ≡ false) × (marked_at (space_at ns s).items (length (space_at ns s).items) (inter_at (space_at ns s).items k) ≡ false)) (λ n k b. Unit {0})
    (λ k. ⊥) (λ k. Unit {0}) (λ k. ⊥)
    (λ n a u. tt) (λ n k b a u. (a.0, a.1, u)) (λ n k b a u. tt) (λ k a u. a)
    e (over-here ns s e term free) (unmarked-each (λ k. marked_at (space_at ns s).items (length (space_at ns s).items) (inter_at (space_at ns s).items k)) e unmarked)

-- an intermediate of a text that names no public names none
pub inter-free : (items : List Line) (k : ℕ) → NoneInItem (item_at items k) → NoPublic (inter_at items k)
inter-free items k h = of (item_at items k) h
  where
    of : (l : Line) → NoneInItem l → NoPublic (body_of l)
    of (inter n e) w = w
    of (constant n m) w = tt
    of (commit n m) w = tt
    of (published n a b d) w = tt
    of (identity a b d) w = tt
    of (lookup a b) w = tt
    of (bus a b) w = tt

-- the intermediates that it names have their steps, where those in `done` have
pub ready-here : (ns : List Namespace) (s : ℕ) (nodes : List Node) (done : ℕ → Type 0) (here next : List ℕ) (e : Term) → HaveSteps ns s nodes done here next → length here ≡ length (space_at ns s).items → length next ≡ length (space_at ns s).items → IsTerm ns s e → NamesOnly done e → IsReady ns s nodes false here next e
ready-here ns s nodes done here next e have long long' term named =
    each_from_two (λ n. n < p) (λ n. Unit {0}) (λ n. Unit {0}) (λ n k b. (n ≡ s) × (k < width (space_at ns s).items)) (λ n k b. Unit {0}) (λ n k b. Unit {0})
    (λ n k b. (n ≡ s) × IsNameable (space_at ns s).items k b) (λ n k b. done k) (λ n k b. (k < length here) × (k < length next) × Computes ns s nodes (later 0 false) (mid n k b) (slice_index (cond (false || b) next here) k))
    (λ k. k < length (publics ns)) (λ k. Unit {0}) (λ k. Unit {0})
    (λ n a w. tt) (λ n k b a w. tt)
    (λ n k b a on. (let l : k < length (space_at ns s).items = a.1.0 in omega arith, let l : k < length (space_at ns s).items = a.1.0 in omega arith, at_mid n k b a.1.2 on))
    (λ k a w. tt) e term named
  where
    at_mid : (n k : ℕ) (b : Bool) → (b ≡ true → marked (space_at ns s).items (inter_at (space_at ns s).items k) ≡ false) → done k → Computes ns s nodes 0 (mid n k b) (slice_index (cond (false || b) next here) k)
    at_mid n k true unmarked on = let h = have.at_next k on (unmarked refl) in record { inside = h.inside; value = h.value }
    at_mid n k false unmarked on = let h = have.at_row k on in record { inside = h.inside; value = h.value }

pub ready-next : (ns : List Namespace) (s : ℕ) (nodes : List Node) (done : ℕ → Type 0) (here next : List ℕ) (e : Term) → HaveSteps ns s nodes done here next → length next ≡ length (space_at ns s).items → IsAcyclic (space_at ns s).items → IsTerm ns s e → NamesOnly done e → marked (space_at ns s).items e ≡ false → IsReady ns s nodes true next next e
ready-next ns s nodes done here next e have long acyclic term named unmarked =
    each_from_two (λ n. Unit {0}) (λ n. Unit {0}) (λ n. Unit {0}) (λ n k b. b ≡ false) (λ n k b. Unit {0}) (λ n k b. Unit {0})
    (λ n k b. (b ≡ false) × (marked_at (space_at ns s).items (length (space_at ns s).items) (inter_at (space_at ns s).items k) ≡ false)) (λ n k b. done k × (k < length (space_at ns s).items))
    (λ n k b. (k < length next) × (k < length next) × Computes ns s nodes (later 0 true) (mid n k b) (slice_index (cond (true || b) next next) k))
    (λ k. Unit {0}) (λ k. Unit {0}) (λ k. Unit {0})
    (λ n a w. tt) (λ n k b a w. tt)
    (λ n k b a on. (let l = on.1 in omega arith, let l = on.1 in omega arith, at_mid n k b a.0 (sym (inter_mark-is (space_at ns s).items acyclic.0 k acyclic.1) ∙ a.1) on.0))
    (λ k a w. tt)
    e (unmarked-each (λ k. marked_at (space_at ns s).items (length (space_at ns s).items) (inter_at (space_at ns s).items k)) e unmarked)
    (each_from_two (λ n. n < p) (λ n. Unit {0}) (λ n. Unit {0}) (λ n k b. (n ≡ s) × (k < width (space_at ns s).items)) (λ n k b. Unit {0}) (λ n k b. Unit {0})
    (λ n k b. (n ≡ s) × IsNameable (space_at ns s).items k b) (λ n k b. done k) (λ n k b. done k × (k < length (space_at ns s).items)) (λ k. k < length (publics ns)) (λ k. Unit {0}) (λ k. Unit {0})
    (λ n a w. tt) (λ n k b a w. tt) (λ n k b a on. (on, a.1.0)) (λ k a w. tt) e term named)
  where
    at_mid : (n k : ℕ) (b : Bool) → b ≡ false → marked (space_at ns s).items (inter_at (space_at ns s).items k) ≡ false → done k → Computes ns s nodes 1 (mid n k b) (slice_index next k)
    at_mid n k true e m on = absurd (true≢false e)
    at_mid n k false e m on = let h = have.at_next k on m in record { inside = h.inside; value = h.value }

pub have-kept : (ns : List Namespace) (s : ℕ) (old new : List Node) (done : ℕ → Type 0) (here next : List ℕ) → KeepsSteps ns s old new → HaveSteps ns s old done here next → HaveSteps ns s new done here next
have-kept ns s old new done here next keeps h = record {
  at_row = λ k on. computes-kept ns s old new 0 (mid s k false) (slice_index here k) keeps (h.at_row k on);
  at_next = λ k on m. computes-kept ns s old new 0 (mid s k true) (slice_index next k) keeps (h.at_next k on m);
}

-- the step of an intermediate's expression is the intermediate's
inter-computes : (ns : List Namespace) (s : ℕ) (nodes : List Node) (b : Bool) (k j : ℕ) → IsAcyclic (space_at ns s).items → Computes ns s nodes (later 0 b) (inter_at (space_at ns s).items k) j → Computes ns s nodes 0 (mid s k b) j
inter-computes ns s nodes b k j acyclic h = record {
  inside = h.inside;
  value = λ c i r x known. h.value c i r x known ∙ sym (inter_value-is (space_at ns s).items acyclic.0 (around ns c s i r) (later 0 b) k acyclic.1);
}

pub program-none : (w : ℕ) (nodes : List Node) → length nodes ≡ 0 → IsProgram w nodes
program-none w nodes empty k node is = absurd (let l = slice_get_within nodes k node is in omega arith)

pub have-none : (ns : List Namespace) (s : ℕ) (nodes : List Node) (here next : List ℕ) → HaveSteps ns s nodes (Contains []) here next
have-none ns s nodes here next = record {
  at_row = λ k on. let l : on.0 < 0 = on.1 in absurd (omega arith);
  at_next = λ k on m. let l : on.0 < 0 = on.1 in absurd (omega arith);
}

-- one more item has its steps
have-more : (ns : List Namespace) (s : ℕ) (nodes : List Node) (done here next : List ℕ) (k v w : ℕ) (b : Bool) → HaveSteps ns s nodes (Contains done) here next → k < length here → k < length next → Computes ns s nodes 0 (mid s k false) v → b ≡ not (marked (space_at ns s).items (inter_at (space_at ns s).items k)) → (b ≡ true → Computes ns s nodes 0 (mid s k true) w) → HaveSteps ns s nodes (Contains (done ++ k ∷ [])) (set here k v) (cond b (set next k w) next)
have-more ns s nodes done here next k v w b known l l' is mark is' = record {
  at_row = λ i on. elim (cases_eq i k) [
    | inl e ↦ subst (λ j. Computes ns s nodes 0 (mid s j false) (slice_index (set here k v) j)) (sym e) (subst (Computes ns s nodes 0 (mid s k false)) (sym (get_or-set_same here k v 0 l)) is)
    | inr ne ↦ subst (Computes ns s nodes 0 (mid s i false)) (sym (get_or-set_other here k i v 0 ne)) (known.at_row i (before i ne on))
  ];
  at_next = λ i on m. elim (cases_eq i k) [
    | inl e ↦
        let m' : marked (space_at ns s).items (inter_at (space_at ns s).items k) ≡ false = subst (λ j. marked (space_at ns s).items (inter_at (space_at ns s).items j) ≡ false) e m in
        let t : b ≡ true = mark ∙ ap not m' in
        let at : slice_index (cond b (set next k w) next) k ≡ w = ap (λ c. slice_index (cond c (set next k w) next) k) t ∙ get_or-set_same next k w 0 l' in
        subst (λ j. Computes ns s nodes 0 (mid s j true) (slice_index (cond b (set next k w) next) j)) (sym e) (subst (Computes ns s nodes 0 (mid s k true)) (sym at) (is' t))
    | inr ne ↦ subst (Computes ns s nodes 0 (mid s i true)) (sym (kept i ne b)) (known.at_next i (before i ne on) m)
  ];
}
  where
    before : (i : ℕ) → i ≢ k → Contains (done ++ k ∷ []) i → Contains done i
    before i ne on = elim (Contains-push_cases done k i on) [ inl c ↦ c | inr e ↦ absurd (ne (sym e)) ]

    kept : (i : ℕ) → i ≢ k → (c : Bool) → slice_index (cond c (set next k w) next) i ≡ slice_index next i
    kept i ne true = get_or-set_other next k i w 0 ne
    kept i ne false = refl

not-true : (b : Bool) → not b ≡ true → b ≡ false
not-true true e = sym e
not-true false e = refl

-- what a turn has: its item's expression is a term over what is done, and its mark is known
pub record TurnIs (ns : List Namespace) (s : ℕ) (turns : List Turn) (n : ℕ) (t : Turn) : Type 0 where
  pub inside : t.item < length (space_at ns s).items
  pub term : IsTerm ns s (inter_at (space_at ns s).items t.item)
  pub named : NamesOnly (Contains (take n (items_of turns))) (inter_at (space_at ns s).items t.item)
  pub mark : t.ahead ≡ not (marked (space_at ns s).items (inter_at (space_at ns s).items t.item))
  pub more : take (n + 1) (items_of turns) ≡ take n (items_of turns) ++ t.item ∷ []

pub turn-is : (ns : List Namespace) (s : ℕ) (turns : List Turn) (n : ℕ) (t : Turn) → IsSpace ns s (space_at ns s) → IsPlan (space_at ns s).items turns → n < length turns → t ≡ get_or turns n t → TurnIs ns s turns n t
turn-is ns s turns n t space plan l at =
    let order : List ℕ = items_of turns in
    let found : slice_get order n ≡ Some t.item = slice_get-map (λ u. u.item) turns n ∙ ap (option_map (λ u. u.item)) (slice_get-get_or turns n t l ∙ ap Some (sym at)) in
    let long : n < length order = slice_get_within order n t.item found in
    let here_at : get_or order n t.item ≡ t.item = get_or_from_slice_get order n t.item t.item found in
    record {
      inside = subst (λ i. i < length (space_at ns s).items) here_at (plan.whole.ordered.inside n t.item long);
      term = item-term ns s (space_at ns s).items t.item space.items;
      named = plan.whole.ordered.after n t.item found;
      mark = subst (λ u. u.ahead ≡ not (marked (space_at ns s).items (inter_at (space_at ns s).items u.item))) (sym at) (plan.marks n t l);
      more = take_more order n t.item long ∙ ap (λ i. take n order ++ i ∷ []) here_at;
    }

-- the turn that a loop reads
pub turn-read : (ns : List Namespace) (s : ℕ) (turns : List Turn) (n : ℕ) (d : Turn) → IsSpace ns s (space_at ns s) → IsPlan (space_at ns s).items turns → n < length turns → TurnIs ns s turns n (get_or turns n d)
turn-read ns s turns n d space plan l = turn-is ns s turns n (get_or turns n d) space plan l (get_or-any turns n d (get_or turns n d) l)

pub turn-unmarked : (ns : List Namespace) (s : ℕ) (turns : List Turn) (n : ℕ) (t : Turn) → TurnIs ns s turns n t → t.ahead ≡ true → marked (space_at ns s).items (inter_at (space_at ns s).items t.item) ≡ false
turn-unmarked ns s turns n t is b = not-true _ (sym is.mark ∙ b)

-- what both rows of a turn leave
pub turn-done : (ns : List Namespace) (s : ℕ) (turns : List Turn) (n : ℕ) (t : Turn) (old part new : List Node) (here here' next next' : List ℕ) → IsAcyclic (space_at ns s).items → TurnIs ns s turns n t → length here ≡ length (space_at ns s).items → length next ≡ length (space_at ns s).items
    → HaveSteps ns s old (Contains (take n (items_of turns))) here next
    → NotesStep ns s old part 0 (inter_at (space_at ns s).items t.item) t.item here here'
    → MatchBool t.ahead (NotesStep ns s part new 1 (inter_at (space_at ns s).items t.item) t.item next next') ((new ≡ part) × (next' ≡ next))
    → HaveSteps ns s new (Contains (take (n + 1) (items_of turns))) here' next' × KeepsSteps ns s old new × (length here' ≡ length here) × (length next' ≡ length next)
turn-done ns s turns n t old part new here here' next next' acyclic is long long' have first second = both t.ahead is.mark second
  where
    done : List ℕ
    done = take n (items_of turns)

    finish : (b : Bool) (w : ℕ) → b ≡ not (marked (space_at ns s).items (inter_at (space_at ns s).items t.item)) → KeepsSteps ns s part new → next' ≡ cond b (set next t.item w) next → (b ≡ true → Computes ns s new 0 (mid s t.item true) w)
        → HaveSteps ns s new (Contains (take (n + 1) (items_of turns))) here' next' × KeepsSteps ns s old new × (length here' ≡ length here)
    finish b w mark keeps e computes =
        let all = keeps-both ns s old part new first.places.keeps keeps in
        let inside : t.item < length here = (let l = is.inside in omega arith) in
        let inside' : t.item < length next = (let l = is.inside in omega arith) in
        let value = computes-kept ns s part new 0 (mid s t.item false) first.step keeps (inter-computes ns s part false t.item first.step acyclic first.places.computes) in
        let more = have-more ns s new (take n (items_of turns)) here next t.item first.step w b (have-kept ns s old new (Contains (take n (items_of turns))) here next all have) inside inside' value mark computes in (
          subst (λ d. HaveSteps ns s new (Contains d) here' next') (sym is.more)
              (subst (λ h. HaveSteps ns s new (Contains (take n (items_of turns) ++ t.item ∷ [])) h next') (sym first.written)
              (subst (λ w. HaveSteps ns s new (Contains (take n (items_of turns) ++ t.item ∷ [])) (set here t.item first.step) w) (sym e) more)),
          all,
          ap length first.written ∙ length-set here t.item first.step,
        )

    both : (b : Bool) → b ≡ not (marked (space_at ns s).items (inter_at (space_at ns s).items t.item))
        → MatchBool b (NotesStep ns s part new 1 (inter_at (space_at ns s).items t.item) t.item next next') ((new ≡ part) × (next' ≡ next))
        → HaveSteps ns s new (Contains (take (n + 1) (items_of turns))) here' next' × KeepsSteps ns s old new × (length here' ≡ length here) × (length next' ≡ length next)
    both true mark h =
        let f = finish true h.step mark h.places.keeps h.written (λ e. inter-computes ns s new true t.item h.step acyclic h.places.computes) in
        (f.0, f.1, f.2, ap length h.written ∙ length-set next t.item h.step)
    both false mark h =
        let f = finish false 0 mark (subst (KeepsSteps ns s part) (sym h.0) (keeps-same ns s part)) h.1 (λ e. absurd (true≢false (sym e))) in
        (f.0, f.1, f.2, ap length h.1)

pub program-done : (ns : List Namespace) (s n : ℕ) (turns : List Turn) (nodes : List Node) (here next : List ℕ) → IsPlan (space_at ns s).items turns → length turns ≤ n → HaveSteps ns s nodes (Contains (take n (items_of turns))) here next → IsProgram (width (space_at ns s).items) nodes → length here ≡ length (space_at ns s).items → length next ≡ length (space_at ns s).items → IsProgramOf ns s nodes here next
program-done ns s n turns nodes here next plan past have steps long long' =
    let all : take n (items_of turns) ≡ items_of turns = take_all n (items_of turns) (omega (arith, length-map turns (λ t. t.item))) in
    let on : (k : ℕ) → (k < length (space_at ns s).items) × IsInter (item_at (space_at ns s).items k) → Contains (take n (items_of turns)) k =
    λ k is. subst (λ d. Contains d k) (sym all) (plan.whole.all k is.0 is.1) in
    record {
      steps = steps;
      long = (long, long');
      inters = record { at_row = λ k is. have.at_row k (on k is); at_next = λ k is m. have.at_next k (on k is) m };
    }

-- each intermediate that a term of the text names is one of its namespace
pub names-inters : (ns : List Namespace) (s : ℕ) (e : Term) → IsTerm ns s e → NamesOnly (λ k. (k < length (space_at ns s).items) × IsInter (item_at (space_at ns s).items k)) e
names-inters ns s e term =
    each_from (λ n. n < p) (λ n. Unit {0}) (λ n k b. (n ≡ s) × (k < width (space_at ns s).items)) (λ n k b. Unit {0})
    (λ n k b. (n ≡ s) × IsNameable (space_at ns s).items k b) (λ n k b. (k < length (space_at ns s).items) × IsInter (item_at (space_at ns s).items k)) (λ k. k < length (publics ns)) (λ k. Unit {0})
    (λ n a. tt) (λ n k b a. tt) (λ n k b a. (a.1.0, a.1.1)) (λ k a. tt) e term

pub program-kept : (ns : List Namespace) (s : ℕ) (old new : List Node) (here next : List ℕ) → KeepsSteps ns s old new → IsProgramOf ns s old here next → IsProgramOf ns s new here next
program-kept ns s old new here next keeps h = record {
  steps = keeps.program h.steps;
  long = h.long;
  inters = have-kept ns s old new (λ k. (k < length (space_at ns s).items) × IsInter (item_at (space_at ns s).items k)) here next keeps h.inters;
}
