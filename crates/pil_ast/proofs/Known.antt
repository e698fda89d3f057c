-- The values that are read are those of the definition.
use Rattle.std.proofs.Common.{ℕ, zero, suc, ◌≡◌, ◌≢◌, ◌<◌, ◌≤◌, ◌+◌, Bool, true, false, not, cond, ◌||◌, inl, inr, List, [], ◌∷◌, ◌++◌, length, get_or, set, take, map, refl, sym, ◌∙◌, ap, subst, arith, slice_get, slice_index, option_map, Some, Contains, length-set, length-append}
use Rattle.std.proofs.lemmas.Bool.{cases_eq}
use Rattle.std.proofs.lemmas.Option.{slice_get-map, slice_get-get_or, slice_get_within, get_or_from_slice_get}
use Rattle.std.proofs.lemmas.List.{take_more, take_all, length-map, get_or-set_same, get_or-set_other}
use Rattle.std.proofs.lemmas.List.Elements.{Contains-push_cases}
use Rattle.gold.specs.Field.{p}
use Rattle.pil_ast.specs.declared.reader.Position.{Position}
use Rattle.pil_ast.specs.declared.turns.Turn.{Turn}
use Rattle.pil_ast.specs.declared.tree.Place.{Place}
use Rattle.pil_ast.specs.declared.tree.Space.{Space}
use Rattle.pil_ast.specs.Tree.{namespace}
use Rattle.pil_ast.specs.Term.{Term, num, col, mid, public, opp, ◌⊕◌, ◌⊖◌, ◌⊗◌, Line, Namespace, item_at, inter_at, space_at, width, publics}
use Rattle.pil_ast.specs.Columns.{Columns, Fits}
use Rattle.pil_ast.specs.Value.{Cells, later, ahead, row_after, value_at, value_of_place, public_value, around, value_in}
use Rattle.pil_ast.specs.Written.{marked_by, marked_at, marked}
use Rattle.pil_ast.specs.Sound.{Each, NamesOnly, IsInter, IsNameable, IsTerm, IsSpace, IsSound, IsAcyclic}
use Rattle.pil_ast.specs.Reading.{IsPosition, read_value, IsReadable, moved_on}
use Rattle.pil_ast.specs.Turns.{IsPlan, items_of}
use Rattle.pil_ast.specs.Filled.{AreFilled, ArePlans}
use Rattle.pil_ast.proofs.Limits.{item-term}
use Rattle.pil_ast.proofs.Trees.{space_at-namespace}
use Rattle.pil_ast.proofs.Search.{slice_get-push}
use Rattle.pil_ast.proofs.Parts.{each_from, each_from_two}
use Rattle.pil_ast.proofs.Fuel.{value_by-same, inter_value, inter_value-is, inter_mark-is}

-- the values of some items are known at a row, and at the next where they have no mark
pub record Known (items : List Line) (x : Cells) (done : ℕ → Type 0) (at_row at_next : List ℕ) : Type 0 where
  pub here : (k : ℕ) → done k → slice_index at_row k ≡ inter_value items x 0 k
  pub next : (k : ℕ) → done k → marked items (inter_at items k) ≡ false → slice_index at_next k ≡ inter_value items x 1 k

or-false : (a b : Bool) → (a || b) ≡ false → (a ≡ false) × (b ≡ false)
or-false true b e = let n : ⊥ = cc in absurd n
or-false false b e = (refl, e)

-- no part of a term without a mark has one
pub unmarked-each : (m : ℕ → Bool) (e : Term) → marked_by m e ≡ false → Each (λ n. Unit {0}) (λ s k b. b ≡ false) (λ s k b. (b ≡ false) × (m k ≡ false)) (λ k. Unit {0}) e
unmarked-each m (num n) h = tt
unmarked-each m (col s k b) h = h
unmarked-each m (mid s k b) h = or-false b (m k) h
unmarked-each m (public k) h = tt
unmarked-each m (opp a) h = unmarked-each m a h
unmarked-each m (a ⊕ b) h = let w = or-false (marked_by m a) (marked_by m b) h in (unmarked-each m a w.0, unmarked-each m b w.1)
unmarked-each m (a ⊖ b) h = let w = or-false (marked_by m a) (marked_by m b) h in (unmarked-each m a w.0, unmarked-each m b w.1)
unmarked-each m (a ⊗ b) h = let w = or-false (marked_by m a) (marked_by m b) h in (unmarked-each m a w.0, unmarked-each m b w.1)

-- what a term reads at its row is its value
pub reads_here : (ns : List Namespace) (c : Columns) (x : Position) (done : ℕ → Type 0) (here next : List ℕ) (e : Term) → x.after ≡ row_after (c.rows x.space) x.row → Known (space_at ns x.space).items (around ns c x.space x.instance x.row) done here next → IsTerm ns x.space e → NamesOnly done e → read_value c x here next (publics ns) e ≡ value_at (space_at ns x.space).items (around ns c x.space x.instance x.row) (suc (length (space_at ns x.space).items)) 0 e
unfolding public_value
reads_here ns c x done here next e after known term named =
    value_by-same _ _ _ _ _ _ e
    (each_from_two (λ n. n < p) (λ n. Unit {0}) (λ n. Unit {0})
    (λ n k b. (n ≡ x.space) × (k < width (space_at ns x.space).items)) (λ s k b. Unit {0}) (λ s k b. c.at s x.instance k (cond b x.after x.row) ≡ c.at s x.instance k (ahead (c.rows x.space) x.row (later 0 b)))
    (λ n k b. (n ≡ x.space) × IsNameable (space_at ns x.space).items k b) (λ s k b. done k) (λ s k b. slice_index (cond b next here) k ≡ inter_value (space_at ns x.space).items (around ns c x.space x.instance x.row) (later 0 b) k)
    (λ k. k < length (publics ns)) (λ k. Unit {0}) (λ k. value_of_place c (slice_get (publics ns) k) ≡ value_of_place c (slice_get (publics ns) k))
    (λ n a b. tt)
    (λ s k b a w. at_row s k b)
    (λ s k b a on. at_mid k b (a.1.2) on)
    (λ k a b. refl)
    e term named)
  where
    at_row : (s k : ℕ) (b : Bool) → c.at s x.instance k (cond b x.after x.row) ≡ c.at s x.instance k (ahead (c.rows x.space) x.row (later 0 b))
    at_row s k true = ap (c.at s x.instance k) after
    at_row s k false = refl

    at_mid : (k : ℕ) (b : Bool) → (b ≡ true → marked (space_at ns x.space).items (inter_at (space_at ns x.space).items k) ≡ false) → done k → slice_index (cond b next here) k ≡ inter_value (space_at ns x.space).items (around ns c x.space x.instance x.row) (later 0 b) k
    at_mid k true unmarked on = known.next k on (unmarked refl)
    at_mid k false unmarked on = known.here k on

-- what a term without a mark reads at the next row is its value there
pub reads_next : (ns : List Namespace) (c : Columns) (x : Position) (done : ℕ → Type 0) (here next : List ℕ) (e : Term) → x.after ≡ row_after (c.rows x.space) x.row → IsAcyclic (space_at ns x.space).items → Known (space_at ns x.space).items (around ns c x.space x.instance x.row) done here next → NamesOnly done e → marked (space_at ns x.space).items e ≡ false → read_value c (moved_on x) next next (publics ns) e ≡ value_at (space_at ns x.space).items (around ns c x.space x.instance x.row) (suc (length (space_at ns x.space).items)) 1 e
unfolding public_value
reads_next ns c x done here next e after acyclic known named unmarked =
    value_by-same _ _ _ _ _ _ e
    (each_from_two (λ n. Unit {0}) (λ n. Unit {0}) (λ n. Unit {0})
    (λ s k b. b ≡ false) (λ s k b. Unit {0}) (λ s k b. c.at s x.instance k (cond b x.after x.after) ≡ c.at s x.instance k (ahead (c.rows x.space) x.row (later 1 b)))
    (λ s k b. (b ≡ false) × (marked_at (space_at ns x.space).items (length (space_at ns x.space).items) (inter_at (space_at ns x.space).items k) ≡ false)) (λ s k b. done k) (λ s k b. slice_index (cond b next next) k ≡ inter_value (space_at ns x.space).items (around ns c x.space x.instance x.row) (later 1 b) k)
    (λ k. Unit {0}) (λ k. Unit {0}) (λ k. value_of_place c (slice_get (publics ns) k) ≡ value_of_place c (slice_get (publics ns) k))
    (λ n a b. tt)
    (λ s k b a w. at_row s k b a)
    (λ s k b a on. at_mid k b a.0 a.1 on)
    (λ k a b. refl)
    e (unmarked-each (λ k. marked_at (space_at ns x.space).items (length (space_at ns x.space).items) (inter_at (space_at ns x.space).items k)) e unmarked) named)
  where
    at_row : (s k : ℕ) (b : Bool) → b ≡ false → c.at s x.instance k (cond b x.after x.after) ≡ c.at s x.instance k (ahead (c.rows x.space) x.row (later 1 b))
    at_row s k true e = let n : ⊥ = cc in absurd n
    at_row s k false e = ap (c.at s x.instance k) after

    at_mid : (k : ℕ) (b : Bool) → b ≡ false → marked_at (space_at ns x.space).items (length (space_at ns x.space).items) (inter_at (space_at ns x.space).items k) ≡ false → done k → slice_index (cond b next next) k ≡ inter_value (space_at ns x.space).items (around ns c x.space x.instance x.row) (later 1 b) k
    at_mid k true e m on = let n : ⊥ = cc in absurd n
    at_mid k false e m on = known.next k on (sym (inter_mark-is (space_at ns x.space).items acyclic.0 k acyclic.1) ∙ m)

pub known-none : (items : List Line) (x : Cells) (here next : List ℕ) → Known items x (Contains []) here next
known-none items x here next = record {
  here = λ k on. let l : on.0 < 0 = on.1 in absurd (omega arith);
  next = λ k on m. let l : on.0 < 0 = on.1 in absurd (omega arith);
}

-- one more item is known after its values are written
pub known-more : (items : List Line) (x : Cells) (done here next : List ℕ) (k v w : ℕ) (b : Bool) → Known items x (Contains done) here next → k < length here → k < length next → v ≡ inter_value items x 0 k → b ≡ not (marked items (inter_at items k)) → (b ≡ true → w ≡ inter_value items x 1 k) → Known items x (Contains (done ++ k ∷ [])) (set here k v) (cond b (set next k w) next)
known-more items x done here next k v w b known l l' is mark is' = record {
  here = λ i on. elim (cases_eq i k) [
    | inl e ↦ subst (λ j. slice_index (set here k v) j ≡ inter_value items x 0 j) (sym e) (get_or-set_same here k v 0 l ∙ is)
    | inr ne ↦ get_or-set_other here k i v 0 ne ∙ known.here i (before i ne on)
  ];
  next = λ i on m. elim (cases_eq i k) [
    | inl e ↦
        let m' : marked items (inter_at items k) ≡ false = subst (λ j. marked items (inter_at items j) ≡ false) e m in
        let t : b ≡ true = mark ∙ ap not m' in
        subst (λ j. slice_index (cond b (set next k w) next) j ≡ inter_value items x 1 j) (sym e)
        (ap (λ c. slice_index (cond c (set next k w) next) k) t ∙ get_or-set_same next k w 0 l' ∙ is' t)
    | inr ne ↦ kept i ne b ∙ known.next i (before i ne on) m
  ];
}
  where
    before : (i : ℕ) → i ≢ k → Contains (done ++ k ∷ []) i → Contains done i
    before i ne on = elim (Contains-push_cases done k i on) [ inl c ↦ c | inr e ↦ absurd (ne (sym e)) ]

    kept : (i : ℕ) → i ≢ k → (c : Bool) → slice_index (cond c (set next k w) next) i ≡ slice_index next i
    kept i ne true = get_or-set_other next k i w 0 ne
    kept i ne false = refl

-- what can be read of a term of the text
pub readable : (ns : List Namespace) (c : Columns) (s count : ℕ) (e : Term) → c.width s ≡ width (space_at ns s).items → length (space_at ns s).items ≤ count → IsTerm ns s e → IsReadable c s count (length (publics ns)) e
readable ns c s count e same room term =
    each_from (λ n. n < p) (λ n. Unit {0}) (λ n k b. (n ≡ s) × (k < width (space_at ns s).items)) (λ n k b. (n ≡ s) × (k < c.width n))
    (λ n k b. (n ≡ s) × IsNameable (space_at ns s).items k b) (λ n k b. k < count) (λ k. k < length (publics ns)) (λ k. k < length (publics ns))
    (λ n a. tt)
    (λ n k b a. (a.0, subst (λ m. k < c.width m) (sym a.0) (subst (λ m. k < m) (sym same) a.1)))
    (λ n k b a. let l : k < length (space_at ns s).items = a.1.0 in omega arith)
    (λ k a. a) e term

not-true : (b : Bool) → not b ≡ true → b ≡ false
not-true true e = let n : ⊥ = cc in absurd n
not-true false e = refl

-- after the n-th turn one more item is known
pub fill_step : (ns : List Namespace) (c : Columns) (x : Position) (turns : List Turn) (n : ℕ) (t : Turn) (here next here' next' : List ℕ) → IsSpace ns x.space (space_at ns x.space) → x.after ≡ row_after (c.rows x.space) x.row → IsPlan (space_at ns x.space).items turns → Known (space_at ns x.space).items (around ns c x.space x.instance x.row) (Contains (take n (items_of turns))) here next → n < length turns → t ≡ get_or turns n t → length (space_at ns x.space).items ≤ length here → length (space_at ns x.space).items ≤ length next → here' ≡ set here t.item (read_value c x here next (publics ns) (inter_at (space_at ns x.space).items t.item)) → next' ≡ cond t.ahead (set next t.item (read_value c (moved_on x) next next (publics ns) (inter_at (space_at ns x.space).items t.item))) next → Known (space_at ns x.space).items (around ns c x.space x.instance x.row) (Contains (take (n + 1) (items_of turns))) here' next'
fill_step ns c x turns n t here next here' next' space after plan known l at room room' written written' =
    let items : List Line = (space_at ns x.space).items in
    let cells : Cells = around ns c x.space x.instance x.row in
    let e : Term = inter_at items t.item in
    let order : List ℕ = items_of turns in
    let done : List ℕ = take n order in
    let found : slice_get order n ≡ Some t.item = slice_get-map (λ u. u.item) turns n ∙ ap (option_map (λ u. u.item)) (slice_get-get_or turns n t l ∙ ap Some (sym at)) in
    let long : n < length order = slice_get_within order n t.item found in
    let here_at : get_or order n t.item ≡ t.item = get_or_from_slice_get order n t.item t.item found in
    let inside : t.item < length items = subst (λ i. i < length items) here_at (plan.whole.ordered.inside n t.item long) in
    let named : NamesOnly (Contains done) e = plan.whole.ordered.after n t.item found in
    let term : IsTerm ns x.space e = item-term ns x.space items t.item space.items in
    let right : read_value c x here next (publics ns) e ≡ inter_value items cells 0 t.item = reads_here ns c x (Contains done) here next e after known term named ∙ sym (inter_value-is items space.acyclic.0 cells 0 t.item space.acyclic.1) in
    let mark : t.ahead ≡ not (marked items e) = subst (λ u. u.ahead ≡ not (marked items (inter_at items u.item))) (sym at) (plan.marks n t l) in
    let right' : t.ahead ≡ true → read_value c (moved_on x) next next (publics ns) e ≡ inter_value items cells 1 t.item = λ b.
    reads_next ns c x (Contains done) here next e after space.acyclic known named (not-true (marked items e) (sym mark ∙ b)) ∙ sym (inter_value-is items space.acyclic.0 cells 1 t.item space.acyclic.1) in
    let next_done : take (n + 1) order ≡ done ++ t.item ∷ [] = take_more order n t.item long ∙ ap (λ i. done ++ i ∷ []) here_at in
    let more : Known items cells (Contains (done ++ t.item ∷ [])) (set here t.item (read_value c x here next (publics ns) e)) (cond t.ahead (set next t.item (read_value c (moved_on x) next next (publics ns) e)) next) =
    known-more items cells done here next t.item (read_value c x here next (publics ns) e) (read_value c (moved_on x) next next (publics ns) e) t.ahead known (omega arith) (omega arith) right mark right' in
    subst (λ d. Known items cells (Contains d) here' next') (sym next_done)
    (subst (λ h. Known items cells (Contains (done ++ t.item ∷ [])) h next') (sym written)
    (subst (λ w. Known items cells (Contains (done ++ t.item ∷ [])) (set here t.item (read_value c x here next (publics ns) e)) w) (sym written') more))

-- all items of a plan are known after its turns
pub filled : (ns : List Namespace) (c : Columns) (s i r n : ℕ) (turns : List Turn) (here next : List ℕ) → IsPlan (space_at ns s).items turns → length turns ≤ n → Known (space_at ns s).items (around ns c s i r) (Contains (take n (items_of turns))) here next → AreFilled ns c s i r here next
filled ns c s i r n turns here next plan past known =
    let all : take n (items_of turns) ≡ items_of turns = take_all n (items_of turns) (omega (arith, length-map turns (λ t. t.item))) in
    let on : (k : ℕ) → k < length (space_at ns s).items → IsInter (item_at (space_at ns s).items k) → Contains (take n (items_of turns)) k =
    λ k l is. subst (λ d. Contains d k) (sym all) (plan.whole.all k l is) in
    record { here = λ k l is. known.here k (on k l is); next = λ k l is m. known.next k (on k l is) m }

pub get_or-any : {X : Type 0} (xs : List X) (n : ℕ) (d d' : X) → n < length xs → get_or xs n d ≡ get_or xs n d'
get_or-any [] n d d' l = absurd (omega arith)
get_or-any (x ∷ xs) zero d d' l = refl
get_or-any (x ∷ xs) (suc n) d d' l = get_or-any xs n d d' (omega arith)

-- the item of a turn is one of its namespace
pub turn-inside : (items : List Line) (turns : List Turn) (n : ℕ) (d : Turn) → IsPlan items turns → n < length turns → (get_or turns n d).item < length items
turn-inside items turns n d plan l =
    let found : slice_get (items_of turns) n ≡ Some (get_or turns n d).item = slice_get-map (λ u. u.item) turns n ∙ ap (option_map (λ u. u.item)) (slice_get-get_or turns n d l) in
    let long : n < length (items_of turns) = slice_get_within (items_of turns) n (get_or turns n d).item found in
    subst (λ i. i < length items) (get_or_from_slice_get (items_of turns) n (get_or turns n d).item 0 found) (plan.whole.ordered.inside n 0 long)

-- what can be read of an intermediate's expression
pub readable_inter : (ns : List Namespace) (c : Columns) (s count k : ℕ) (items : List Line) (places : List Place) → IsSound ns → Fits ns c → s < length ns → items ≡ (space_at ns s).items → places ≡ publics ns → length (space_at ns s).items ≤ count → IsReadable c s count (length places) (inter_at items k)
readable_inter ns c s count k items places sound fits inside same same' room =
    subst (λ m. IsReadable c s count (length m) (inter_at items k)) (sym same')
    (subst (λ l. IsReadable c s count (length (publics ns)) (inter_at l k)) (sym same)
    (readable ns c s count (inter_at (space_at ns s).items k) (fits.width s inside) room (item-term ns s (space_at ns s).items k (sound.spaces s inside).items)))

-- the step of the loop over the turns, with the items and places that it reads
pub fill_more : (ns : List Namespace) (c : Columns) (x : Position) (turns : List Turn) (n : ℕ) (d : Turn) (items : List Line) (places : List Place) (here next read here' next' : List ℕ) → IsSound ns → x.space < length ns → x.after ≡ row_after (c.rows x.space) x.row → IsPlan (space_at ns x.space).items turns → Known (space_at ns x.space).items (around ns c x.space x.instance x.row) (Contains (take n (items_of turns))) here next → n < length turns → length (space_at ns x.space).items ≤ length here → length (space_at ns x.space).items ≤ length next → items ≡ (space_at ns x.space).items → places ≡ publics ns → read ≡ next → here' ≡ set here (get_or turns n d).item (read_value c x here read places (inter_at items (get_or turns n d).item)) → next' ≡ cond (get_or turns n d).ahead (set next (get_or turns n d).item (read_value c (moved_on x) next next places (inter_at items (get_or turns n d).item))) next → Known (space_at ns x.space).items (around ns c x.space x.instance x.row) (Contains (take (n + 1) (items_of turns))) here' next'
fill_more ns c x turns n d items places here next read here' next' sound inside after plan known l room room' same same' same'' written written' =
    let t : Turn = get_or turns n d in
    let written_here : here' ≡ set here t.item (read_value c x here next (publics ns) (inter_at (space_at ns x.space).items t.item)) =
    written ∙ ap (λ s. set here t.item (read_value c x here s places (inter_at items t.item))) same'' ∙ ap (λ s. set here t.item (read_value c x here next s (inter_at items t.item))) same' ∙ ap (λ s. set here t.item (read_value c x here next (publics ns) (inter_at s t.item))) same in
    let written_next : next' ≡ cond t.ahead (set next t.item (read_value c (moved_on x) next next (publics ns) (inter_at (space_at ns x.space).items t.item))) next =
    written' ∙ ap (λ s. cond t.ahead (set next t.item (read_value c (moved_on x) next next s (inter_at items t.item))) next) same' ∙ ap (λ s. cond t.ahead (set next t.item (read_value c (moved_on x) next next (publics ns) (inter_at s t.item))) next) same in
    fill_step ns c x turns n t here next here' next' (sound.spaces x.space inside) after plan known l (get_or-any turns n d t l) room room' written_here written_next

pub length-cond_set : (b : Bool) (xs : List ℕ) (i v : ℕ) → length (cond b (set xs i v) xs) ≡ length xs
length-cond_set true xs i v = length-set xs i v
length-cond_set false xs i v = refl

-- a row that follows one of n rows is one of them
pub row_after-lt : (n r : ℕ) → r < n → row_after n r < n
unfolding row_after
row_after-lt n r l = omega arith

-- the rows of a namespace that was read at its place
pub rows-at : (spaces all : List Space) (s : ℕ) (y : Space) (c : Columns) → all ≡ spaces → Fits (map namespace spaces) c → s < c.spaces → y ≡ get_or all s y → (get_or all s y).rows ≡ c.rows s
rows-at spaces all s y c same fits inside at =
    let l : s < length (map namespace spaces) = subst (λ n. s < n) fits.spaces inside in
    let l' : s < length spaces = omega (arith, length-map spaces namespace) in
    ap (λ z. z.rows) (sym at) ∙ sym (fits.rows s l ∙ ap (λ n. n.rows) (space_at-namespace spaces s y l' (at ∙ ap (λ a. get_or a s y) same)))

pub position-at : (c : Columns) (s i r after rows : ℕ) → s < c.spaces → i < c.instances s → r < c.rows s → rows ≡ c.rows s → after ≡ row_after rows r → IsPosition c (record { space = s; instance = i; row = r; after = after })
position-at c s i r after rows inside instance row same is =
    record { space = inside; instance = instance; row = row; after = subst (λ a. a < c.rows s) (sym (is ∙ ap (λ n. row_after n r) same)) (row_after-lt (c.rows s) r row) }

-- the plan of a namespace that was read at its place
pub plan-at : (ns : List Namespace) (plans all : List (List Turn)) (s : ℕ) (y turns : List Turn) → ArePlans ns plans → s < length ns → all ≡ plans → turns ≡ get_or all s y → IsPlan (space_at ns s).items turns
plan-at ns plans all s y turns are inside same is =
    let l : s < length plans = subst (λ n. s < n) (sym are.long) inside in
    are.each s turns (slice_get-get_or plans s y l ∙ ap Some (sym (is ∙ ap (λ a. get_or a s y) same)))

-- the value that is read where the intermediates are filled
pub eval_value : (ns : List Namespace) (c : Columns) (x : Position) (here next here' next' : List ℕ) (places : List Place) (e : Term) (v : ℕ) → x.after ≡ row_after (c.rows x.space) x.row → AreFilled ns c x.space x.instance x.row here next → IsTerm ns x.space e → here' ≡ here → next' ≡ next → places ≡ publics ns → v ≡ read_value c x here' next' places e → v ≡ value_in ns c x.space x.instance x.row e
eval_value ns c x here next here' next' places e v after filled term same same' same'' is =
    let items : List Line = (space_at ns x.space).items in
    let cells : Cells = around ns c x.space x.instance x.row in
    let known : Known items cells (λ k. (k < length items) × IsInter (item_at items k)) here next =
    record { here = λ k on. filled.here k on.0 on.1; next = λ k on m. filled.next k on.0 on.1 m } in
    let named : NamesOnly (λ k. (k < length items) × IsInter (item_at items k)) e =
    each_from (λ n. n < p) (λ n. Unit {0}) (λ n k b. (n ≡ x.space) × (k < width items)) (λ n k b. Unit {0})
    (λ n k b. (n ≡ x.space) × IsNameable items k b) (λ n k b. (k < length items) × IsInter (item_at items k)) (λ k. k < length (publics ns)) (λ k. Unit {0})
    (λ n a. tt) (λ n k b a. tt) (λ n k b a. (a.1.0, a.1.1)) (λ k a. tt) e term in
    is ∙ ap (λ h. read_value c x h next' places e) same ∙ ap (λ h. read_value c x here h places e) same' ∙ ap (λ h. read_value c x here next h e) same''
    ∙ reads_here ns c x (λ k. (k < length items) × IsInter (item_at items k)) here next e after known term named

-- the first n namespaces have their plans
pub record PlansOf (ns : List Namespace) (n : ℕ) (plans : List (List Turn)) : Type 0 where
  pub long : length plans ≡ n
  pub each : (s : ℕ) (turns : List Turn) → slice_get plans s ≡ Some turns → IsPlan (space_at ns s).items turns

pub plans-of-none : (ns : List Namespace) (plans : List (List Turn)) → plans ≡ [] → PlansOf ns 0 plans
plans-of-none ns plans e = subst (PlansOf ns 0) (sym e) record { long = refl; each = λ s turns is. let n : ⊥ = cc in absurd n }

pub plans-of-more : (ns : List Namespace) (n : ℕ) (plans more : List (List Turn)) (turns : List Turn) (items : List Line) → PlansOf ns n plans → items ≡ (space_at ns n).items → IsPlan items turns → more ≡ plans ++ turns ∷ [] → PlansOf ns (n + 1) more
plans-of-more ns n plans more turns items h same plan longer =
    subst (PlansOf ns (n + 1)) (sym longer)
    record {
      long = length-append plans (turns ∷ []) ∙ ap (λ m. m + 1) h.long;
      each = λ s u e. elim (slice_get-push plans turns u s e) [
        | inl w ↦ h.each s u w.1
        | inr w ↦ subst (λ i. IsPlan (space_at ns i).items u) (sym (w.0 ∙ h.long)) (subst (IsPlan (space_at ns n).items) w.1 (subst (λ l. IsPlan l turns) same plan))
      ];
    }

pub plans-of-all : (ns : List Namespace) (n : ℕ) (plans : List (List Turn)) → PlansOf ns n plans → length ns ≤ n → n ≤ length ns → ArePlans ns plans
plans-of-all ns n plans h past within = record { long = h.long ∙ (let e : n ≡ length ns = omega arith in e); each = h.each }
