-- What the limits of a text bound.
use Rattle.std.proofs.Common.{ℕ, zero, suc, ◌≡◌, ◌<◌, ◌≤◌, ◌+◌, ◌-◌, ◌*◌, ◌^◌, List, [], ◌∷◌, ◌++◌, Option, Some, None, length, get_or, map, take, drop, sum_by, count_by, filter, Bool, true, false, cond, slice_get, option_map, refl, sym, ◌∙◌, ap, subst, arith, All, length-append}
use Rattle.std.specs.List.{flat_map}
use Rattle.std.proofs.lemmas.Grind.{flat_map-append}
use Rattle.std.proofs.lemmas.List.{take_more, append-nil, take-append-drop, length-map}
use Rattle.std.proofs.lemmas.List.Sums.{sum_by-cons, length-filter, count_by-le-length}
use Rattle.std.proofs.lemmas.List.Filters.{length-filter_more}
use Rattle.std.proofs.lemmas.List.Elements.{All-nil, All-cons, All-append, All-head, All-tail}
use Rattle.pil_ast.specs.declared.tree.Item.{Item}
use Rattle.pil_ast.specs.declared.tree.Space.{Space}
use Rattle.std.proofs.lemmas.Option.{slice_get-map}
use Rattle.pil_ast.specs.Tree.{line, namespace}
use Rattle.pil_ast.proofs.Trees.{namespace-here, spaces-within}
use Rattle.pil_ast.specs.Term.{Line, constant, commit, inter, published, identity, lookup, bus, Namespace, inter_at, space_at, columns_of, width, places_of, publics, is_line}
use Rattle.pil_ast.specs.Sound.{IsItem, IsTerm, IsNameable, IsSpace, IsSound, signs_of_item, signs}
use Rattle.pil_ast.specs.Holds.{lines}
use Rattle.pil_ast.specs.Columns.{Columns, Fits}
use Rattle.pil_ast.specs.Reading.{IsPlaceIn}
use Rattle.pil_ast.specs.Order.{NamesInside}
use Rattle.gold.specs.Field.{p}
use Rattle.pil_ast.proofs.Parts.{each_from}

pub signs-some : (l : Line) → 1 ≤ signs_of_item l
signs-some (constant n len) = omega arith
signs-some (commit n len) = omega arith
signs-some (inter n e) = omega arith
signs-some (published n s k r) = omega arith
signs-some (identity s a b) = omega arith
signs-some (lookup a b) = omega arith
signs-some (bus ls rs) = omega arith

pub length-signs : (items : List Line) → length items ≤ sum_by signs_of_item items
length-signs [] = omega arith
length-signs (l ∷ ls) = omega (arith, sum_by-cons signs_of_item l ls, signs-some l, length-signs ls)

-- an item declares at most 4096 columns
pub columns-few : (ns : List Namespace) (s : ℕ) (l : Line) → IsItem ns s l → columns_of l ≤ 4096
columns-few ns s (constant n None) h = omega arith
columns-few ns s (constant n (Some k)) h = h.1
columns-few ns s (commit n None) h = omega arith
columns-few ns s (commit n (Some k)) h = h.1
columns-few ns s (inter n e) h = omega arith
columns-few ns s (published n m k r) h = omega arith
columns-few ns s (identity m a b) h = omega arith
columns-few ns s (lookup a b) h = omega arith
columns-few ns s (bus ls rs) h = omega arith

pub width-signs : (ns : List Namespace) (s : ℕ) (items : List Line) → All (IsItem ns s) items → width items ≤ 4096 * sum_by signs_of_item items
width-signs ns s [] h = omega arith
width-signs ns s (l ∷ ls) h =
    omega (arith, sum_by-cons signs_of_item l ls, sum_by-cons columns_of l ls, signs-some l, columns-few ns s l (All-head (IsItem ns s) l ls h), width-signs ns s ls (All-tail (IsItem ns s) l ls h))

-- how many signs a namespace takes in a text
abbrev space_signs : Namespace → ℕ
space_signs n = 1 + sum_by signs_of_item n.items

pub signs-at : (ns : List Namespace) (s : ℕ) → s < length ns → 1 + sum_by signs_of_item (space_at ns s).items ≤ signs ns
signs-at [] s h = absurd (omega arith)
signs-at (n ∷ ns) zero h = omega (arith, sum_by-cons space_signs n ns)
signs-at (n ∷ ns) (suc s) h = omega (arith, sum_by-cons space_signs n ns, signs-at ns s (omega arith))

pub few_items : (ns : List Namespace) (s : ℕ) → IsSound ns → s < length ns → length (space_at ns s).items < 2 ^ 20
few_items ns s h l = omega (arith, h.signs, signs-at ns s l, length-signs (space_at ns s).items)

pub few_columns : (ns : List Namespace) (s : ℕ) → IsSound ns → s < length ns → width (space_at ns s).items < 2 ^ 32
few_columns ns s h l = omega (arith, h.signs, signs-at ns s l, width-signs ns s (space_at ns s).items (h.spaces s l).items)

pub spaces-signs : (ns : List Namespace) → length ns ≤ signs ns
spaces-signs [] = omega arith
spaces-signs (n ∷ ns) = omega (arith, sum_by-cons space_signs n ns, spaces-signs ns)

-- each item's expression is a term of its namespace
pub item-term : (ns : List Namespace) (s : ℕ) (items : List Line) (k : ℕ) → All (IsItem ns s) items → IsTerm ns s (inter_at items k)
item-term ns s [] k h = omega arith
item-term ns s (constant n len ∷ ls) zero h = omega arith
item-term ns s (commit n len ∷ ls) zero h = omega arith
item-term ns s (inter n e ∷ ls) zero h = All-head (IsItem ns s) (inter n e) ls h
item-term ns s (published n m c r ∷ ls) zero h = omega arith
item-term ns s (identity m a b ∷ ls) zero h = omega arith
item-term ns s (lookup a b ∷ ls) zero h = omega arith
item-term ns s (bus as' bs ∷ ls) zero h = omega arith
item-term ns s (l ∷ ls) (suc k) h = item-term ns s ls k (All-tail (IsItem ns s) l ls h)

-- the lines of the items, and of the program's items
pub filter-map : (items : List Item) → filter is_line (map line items) ≡ map line (filter (λ i. is_line (line i)) items)
filter-map [] = refl
filter-map (i ∷ is) = kept (is_line (line i)) (filter-map is)
  where
    kept : (b : Bool) → filter is_line (map line is) ≡ map line (filter (λ i. is_line (line i)) is) → cond b (line i ∷ filter is_line (map line is)) (filter is_line (map line is)) ≡ map line (cond b (i ∷ filter (λ i. is_line (line i)) is) (filter (λ i. is_line (line i)) is))
    kept true e = ap (λ s. line i ∷ s) e
    kept false e = e

pub line_count-is : (items : List Item) → length (filter is_line (map line items)) ≡ count_by (λ i. is_line (line i)) items
line_count-is items = ap length (filter-map items) ∙ length-map (filter (λ i. is_line (line i)) items) line ∙ length-filter (λ i. is_line (line i)) items

abbrev space_lines : Namespace → List Line
space_lines n = filter is_line n.items

pub lines-more : (ns : List Namespace) (i : ℕ) (d : Namespace) → i < length ns → lines (take (i + 1) ns) ≡ lines (take i ns) ++ filter is_line (get_or ns i d).items
lines-more ns i d l =
    ap lines (take_more ns i d l) ∙ flat_map-append space_lines (take i ns) (get_or ns i d ∷ []) ∙ ap (λ s. lines (take i ns) ++ s) (append-nil (space_lines (get_or ns i d)))

pub lines-part : (ns : List Namespace) (i : ℕ) → lines ns ≡ lines (take i ns) ++ lines (drop i ns)
lines-part ns i = ap lines (sym (take-append-drop i ns)) ∙ flat_map-append space_lines (take i ns) (drop i ns)

pub lines-signs : (ns : List Namespace) → length (lines ns) ≤ signs ns
lines-signs [] = omega arith
lines-signs (n ∷ ns) =
    omega (arith, length-append (space_lines n) (lines ns), sum_by-cons space_signs n ns, lines-signs ns, length-filter is_line n.items, count_by-le-length is_line n.items, length-signs n.items)

-- the lines up to a namespace are at most all
pub few_lines : (ns : List Namespace) (i : ℕ) → IsSound ns → length (lines (take i ns)) ≤ 2 ^ 20
few_lines ns i h = omega (arith, h.signs, lines-signs ns, ap length (lines-part ns i), length-append (lines (take i ns)) (lines (drop i ns)))

-- an element of the second of three lists
pub slice_get-middle : {X : Type 0} (xs ys zs : List X) (k : ℕ) → k < length ys → slice_get ((xs ++ ys) ++ zs) (k + length xs) ≡ slice_get ys k
slice_get-middle xs ys zs k l = left (xs ++ ys) zs (k + length xs) (omega (arith, length-append xs ys)) ∙ right xs ys k
  where
    left : {X : Type 0} (xs zs : List X) (k : ℕ) → k < length xs → slice_get (xs ++ zs) k ≡ slice_get xs k
    left [] zs k l = absurd (omega arith)
    left (x ∷ xs) zs zero l = refl
    left (x ∷ xs) zs (suc k) l = left xs zs k (omega arith)

    right : {X : Type 0} (xs ys : List X) (k : ℕ) → slice_get (xs ++ ys) (k + length xs) ≡ slice_get ys k
    right [] ys k = ap (slice_get ys) (let e : k + 0 ≡ k = omega arith in e)
    right (x ∷ xs) ys k = ap (slice_get (x ∷ (xs ++ ys))) (let e : k + suc (length xs) ≡ suc (k + length xs) = omega arith in e) ∙ right xs ys k

-- the places that publics name are in range
item-places : (ns : List Namespace) (c : Columns) (s : ℕ) (l : Line) → Fits ns c → IsItem ns s l → All (IsPlaceIn c) (places_of l)
item-places ns c s (constant n len) fits h = All-nil (IsPlaceIn c)
item-places ns c s (commit n len) fits h = All-nil (IsPlaceIn c)
item-places ns c s (inter n e) fits h = All-nil (IsPlaceIn c)
item-places ns c s (published n m k r) fits h =
    let space : m < c.spaces = subst (λ i. m < i) (sym fits.spaces) h.0 in
    let column : k < c.width m = subst (λ i. k < i) (sym (fits.width m h.0)) h.1 in
    let row : r < c.rows m = subst (λ i. r < i) (sym (fits.rows m h.0)) h.2 in
    All-cons (IsPlaceIn c) (record { space = m; column = k; row = r }) [] (space, column, row) (All-nil (IsPlaceIn c))
item-places ns c s (identity m a b) fits h = All-nil (IsPlaceIn c)
item-places ns c s (lookup a b) fits h = All-nil (IsPlaceIn c)
item-places ns c s (bus ls rs) fits h = All-nil (IsPlaceIn c)

items-places : (ns : List Namespace) (c : Columns) (s : ℕ) (items : List Line) → Fits ns c → All (IsItem ns s) items → All (IsPlaceIn c) (flat_map places_of items)
items-places ns c s [] fits h = All-nil (IsPlaceIn c)
items-places ns c s (l ∷ ls) fits h =
    All-append (IsPlaceIn c) (places_of l) (flat_map places_of ls) (item-places ns c s l fits (All-head (IsItem ns s) l ls h)) (items-places ns c s ls fits (All-tail (IsItem ns s) l ls h))

spaces-places : (ns : List Namespace) (c : Columns) (ms : List Namespace) → Fits ns c → ((j : ℕ) → j < length ms → (s : ℕ) × All (IsItem ns s) (space_at ms j).items) → All (IsPlaceIn c) (publics ms)
spaces-places ns c [] fits h = All-nil (IsPlaceIn c)
spaces-places ns c (m ∷ ms) fits h =
    let first = h 0 (omega arith) in
    All-append (IsPlaceIn c) (flat_map places_of m.items) (publics ms) (items-places ns c first.0 m.items fits first.1) (spaces-places ns c ms fits (λ j l. h (suc j) (omega arith)))

pub places-in : (ns : List Namespace) (c : Columns) → IsSound ns → Fits ns c → All (IsPlaceIn c) (publics ns)
places-in ns c sound fits = spaces-places ns c ns fits (λ j l. (j, (sound.spaces j l).items))

-- each intermediate names items of its namespace
pub names-inside : (ns : List Namespace) (s : ℕ) (items : List Line) → items ≡ (space_at ns s).items → IsSpace ns s (space_at ns s) → NamesInside items
names-inside ns s items same space =
    subst NamesInside (sym same)
    (λ k. each_from (λ n. n < p) (λ n. Unit {0}) (λ n c b. (n ≡ s) × (c < width (space_at ns s).items)) (λ n c b. Unit {0})
    (λ n j b. (n ≡ s) × IsNameable (space_at ns s).items j b) (λ n j b. j < length (space_at ns s).items) (λ g. g < length (publics ns)) (λ g. Unit {0})
    (λ n a. tt) (λ n c b a. tt) (λ n j b a. a.1.0) (λ g a. tt) (inter_at (space_at ns s).items k) (item-term ns s (space_at ns s).items k space.items))

pub few_enough : (a b : ℕ) → a ≡ b → b < 2 ^ 20 → a < 2 ^ 32
few_enough a b e l = omega arith

-- the element that a filter keeps after those of the front
pub filter-at : {X : Type 0} (p : X → Bool) (xs : List X) (i : ℕ) (x : X) → i < length xs → x ≡ get_or xs i x → p x ≡ true → slice_get (filter p xs) (length (filter p (take i xs))) ≡ Some x
filter-at p [] i x l at t = absurd (omega arith)
filter-at p (y ∷ ys) zero x l at t = let t' : p y ≡ true = ap p (sym at) ∙ t in ap (λ b. slice_get (cond b (y ∷ filter p ys) (filter p ys)) 0) t' ∙ ap Some (sym at)
filter-at p (y ∷ ys) (suc i) x l at t = passed (p y) (filter-at p ys i x (omega arith) at t)
  where
    passed : (b : Bool) → slice_get (filter p ys) (length (filter p (take i ys))) ≡ Some x → slice_get (cond b (y ∷ filter p ys) (filter p ys)) (length (cond b (y ∷ filter p (take i ys)) (filter p (take i ys)))) ≡ Some x
    passed true e = e
    passed false e = e

-- the lines up to a namespace and its own
pub lines-step : (spaces all : List Space) (i : ℕ) (x : Space) (items : List Item) → all ≡ spaces → i < length all → x ≡ get_or all i x → items ≡ x.items → lines (take (i + 1) (map namespace spaces)) ≡ lines (take i (map namespace spaces)) ++ filter is_line (map line items)
lines-step spaces all i x items same l at is =
    lines-more (map namespace spaces) i (namespace x) (spaces-within spaces all i same l)
    ∙ ap (λ (n : Namespace). lines (take i (map namespace spaces)) ++ filter is_line n.items) (namespace-here spaces all i x (namespace x) same l at)
    ∙ ap (λ s. lines (take i (map namespace spaces)) ++ filter is_line (map line s)) (sym is)

pub lines-counted : (spaces all : List Space) (i : ℕ) (x : Space) (items : List Item) (count : ℕ) → all ≡ spaces → i < length all → x ≡ get_or all i x → items ≡ x.items → count ≡ count_by (λ i. is_line (line i)) items → length (lines (take i (map namespace spaces))) + count ≡ length (lines (take (i + 1) (map namespace spaces)))
lines-counted spaces all i x items count same l at is counted =
    ap (λ n. length (lines (take i (map namespace spaces))) + n) (counted ∙ sym (line_count-is items))
    ∙ sym (ap length (lines-step spaces all i x items same l at is) ∙ length-append (lines (take i (map namespace spaces))) (filter is_line (map line items)))

-- the line that stands so many after those of the namespaces before
pub line-at : (spaces all : List Space) (i : ℕ) (x : Space) (items : List Item) (k n : ℕ) (found : Option Item) → all ≡ spaces → i < length all → x ≡ get_or all i x → items ≡ x.items → k < count_by (λ i. is_line (line i)) items → k + length (lines (take i (map namespace spaces))) ≡ n → found ≡ slice_get (filter (λ i. is_line (line i)) items) k → option_map line found ≡ slice_get (lines (map namespace spaces)) n
line-at spaces all i x items k n found same l at is fits place e =
    let front : List Line = lines (take i (map namespace spaces)) in
    let here : List Line = filter is_line (map line items) in
    let rest : List Line = lines (drop (i + 1) (map namespace spaces)) in
    let parts : lines (map namespace spaces) ≡ (front ++ here) ++ rest = lines-part (map namespace spaces) (i + 1) ∙ ap (λ s. s ++ rest) (lines-step spaces all i x items same l at is) in
    let fits' : k < length here = subst (λ m. k < m) (sym (line_count-is items)) fits in
    ap (option_map line) e ∙ sym (slice_get-map line (filter (λ i. is_line (line i)) items) k) ∙ ap (λ s. slice_get s k) (sym (filter-map items))
    ∙ sym (slice_get-middle front here rest k fits') ∙ ap (slice_get ((front ++ here) ++ rest)) place ∙ ap (λ s. slice_get s n) (sym parts)

-- the columns of a namespace fit
pub width-map : (items : List Item) → width (map line items) ≡ sum_by (λ i. columns_of (line i)) items
width-map [] = refl
width-map (i ∷ is) = sum_by-cons columns_of (line i) (map line is) ∙ ap (λ n. columns_of (line i) + n) (width-map is) ∙ sym (sum_by-cons (λ i. columns_of (line i)) i is)

-- the line that a loop over the items finds
pub line-found : (items : List Item) (i : ℕ) (x : Item) (before here n : ℕ) → i < length items → x ≡ get_or items i x → here ≡ cond (is_line (line x)) 1 0 → before < here → before + length (filter (λ j. is_line (line j)) (take i items)) ≡ n → Some x ≡ slice_get (filter (λ j. is_line (line j)) items) n
line-found items i x before here n l at is less place = of_test (is_line (line x)) refl
  where
    of_test : (b : Bool) → is_line (line x) ≡ b → Some x ≡ slice_get (filter (λ j. is_line (line j)) items) n
    of_test true t =
        let one : here ≡ 1 = is ∙ ap (λ b. cond b 1 0) t in
        let first : length (filter (λ j. is_line (line j)) (take i items)) ≡ n = omega arith in
        sym (ap (slice_get (filter (λ j. is_line (line j)) items)) (sym first) ∙ filter-at (λ j. is_line (line j)) items i x l at t)
    of_test false t = let none : here ≡ 0 = is ∙ ap (λ b. cond b 1 0) t in absurd (omega arith)

pub line-passed : (items : List Item) (i : ℕ) (x : Item) (before here n : ℕ) → i < length items → x ≡ get_or items i x → here ≡ cond (is_line (line x)) 1 0 → here ≤ before → before + length (filter (λ j. is_line (line j)) (take i items)) ≡ n → before - here + length (filter (λ j. is_line (line j)) (take (i + 1) items)) ≡ n
line-passed items i x before here n l at is less place =
    let more : length (filter (λ j. is_line (line j)) (take (i + 1) items)) ≡ length (filter (λ j. is_line (line j)) (take i items)) + here =
    length-filter_more (λ j. is_line (line j)) items i x l ∙ ap (λ m. length (filter (λ j. is_line (line j)) (take i items)) + m) (ap (λ y. cond (is_line (line y)) 1 0) (sym at) ∙ sym is) in
    omega arith
