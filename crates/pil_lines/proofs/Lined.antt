-- Namespaces and items at their places, and the lines that a loop has seen.
use Rattle.std.proofs.Common.{ℕ, zero, suc, ◌+◌, ◌<◌, ◌≤◌, ◌≡◌, true, false, cond, List, [], ◌∷◌, ◌++◌, length, get_or, take, map, filter, refl, sym, ◌∙◌, ap, subst, append_assoc, arith, All}
use Rattle.std.proofs.lemmas.List.{append-nil, length-map, take_all, take_more}
use Rattle.std.proofs.lemmas.Grind.{flat_map-append}
use Rattle.std.proofs.lemmas.List.Elements.{All-nil, All-cons, All-append, filter_more}
use Rattle.pil_ast.specs.declared.tree.Item.{Item}
use Rattle.pil_ast.specs.declared.tree.Space.{Space}
use Rattle.pil_ast.specs.Tree.{line, namespace}
use Rattle.pil_ast.specs.Term.{Line, Namespace, item_at, space_at, is_line}
use Rattle.pil_ast.specs.Holds.{lines}
use Rattle.pil_lines.specs.declared.places.LinePlace.{LinePlace}
use Rattle.pil_lines.specs.Places.{item_of, IsInside, ArePlaces}

pub item_at-here : (items : List Item) (i : ℕ) (x : Item) → i < length items → x ≡ get_or items i x → item_at (map line items) i ≡ line x
item_at-here [] i x l e = absurd (omega arith)
item_at-here (y ∷ ys) zero x l e = ap line (sym e)
item_at-here (y ∷ ys) (suc i) x l e = item_at-here ys i x (omega arith) e

pub space_at-here : (spaces : List Space) (i : ℕ) (x : Space) → i < length spaces → x ≡ get_or spaces i x → space_at (map namespace spaces) i ≡ namespace x
space_at-here [] i x l e = absurd (omega arith)
space_at-here (y ∷ ys) zero x l e = ap namespace (sym e)
space_at-here (y ∷ ys) (suc i) x l e = space_at-here ys i x (omega arith) e

-- the namespace that is read at a place, of a list that is the text's
pub items-here : (spaces all : List Space) (i : ℕ) (x : Space) (items : List Item) → all ≡ spaces → i < length all → x ≡ get_or all i x → items ≡ (get_or all i x).items → map line items ≡ (space_at (map namespace spaces) i).items
items-here spaces all i x items same l at is =
    ap (map line) (is ∙ ap (λ y. y.items) (sym at)) ∙ sym (ap (λ n. n.items) (space_at-here spaces i x (subst (λ a. i < length a) same l) (at ∙ ap (λ a. get_or a i x) same)))

-- one more line, or an item that is none
pub more-kept : (ls bs cs ds : List Line) (i : ℕ) (l : Line) → i < length ls → get_or ls i l ≡ l → is_line l ≡ true → cs ≡ bs ++ filter is_line (take i ls) → ds ≡ cs ++ l ∷ [] → ds ≡ bs ++ filter is_line (take (i + 1) ls)
more-kept ls bs cs ds i l inside at is e w =
    let more : filter is_line (take (i + 1) ls) ≡ filter is_line (take i ls) ++ l ∷ [] = filter_more is_line ls i l inside ∙ ap (λ y. filter is_line (take i ls) ++ cond (is_line y) (y ∷ []) []) at ∙ ap (λ b. filter is_line (take i ls) ++ cond b (l ∷ []) []) is in
    w ∙ ap (λ x. x ++ l ∷ []) e ∙ append_assoc bs (filter is_line (take i ls)) (l ∷ []) ∙ ap (λ x. bs ++ x) (sym more)

pub more-passed : (ls bs cs : List Line) (i : ℕ) (l : Line) → i < length ls → get_or ls i l ≡ l → is_line l ≡ false → cs ≡ bs ++ filter is_line (take i ls) → cs ≡ bs ++ filter is_line (take (i + 1) ls)
more-passed ls bs cs i l inside at other e =
    let more : filter is_line (take (i + 1) ls) ≡ filter is_line (take i ls) ++ [] = filter_more is_line ls i l inside ∙ ap (λ y. filter is_line (take i ls) ++ cond (is_line y) (y ∷ []) []) at ∙ ap (λ b. filter is_line (take i ls) ++ cond b (l ∷ []) []) other in
    e ∙ ap (λ x. bs ++ x) (sym (more ∙ append-nil (filter is_line (take i ls))))

space-get : (ns : List Namespace) (i : ℕ) (d : Namespace) → i < length ns → get_or ns i d ≡ space_at ns i
space-get [] i d l = absurd (omega arith)
space-get (n ∷ ns) zero d l = refl
space-get (n ∷ ns) (suc i) d l = space-get ns i d (omega arith)

-- the lines of one more namespace
pub lines-more : (ns : List Namespace) (i : ℕ) → i < length ns → lines (take (i + 1) ns) ≡ lines (take i ns) ++ filter is_line (space_at ns i).items
lines-more ns i l =
    let n : Namespace = space_at ns i in
    ap lines (take_more ns i n l ∙ ap (λ m. take i ns ++ m ∷ []) (space-get ns i n l)) ∙ flat_map-append (λ m. filter is_line m.items) (take i ns) (n ∷ []) ∙ ap (λ ls. lines (take i ns) ++ ls) (append-nil (filter is_line n.items))

-- a fact of one more element
pub all-more : {X : Type 0} (P : X → Type 0) (xs : List X) (x : X) → All P xs → P x → All P (xs ++ x ∷ [])
all-more P xs x h p = All-append P xs (x ∷ []) h (All-cons P x [] p (All-nil P))

pub places-long : (ns : List Namespace) (xs : List LinePlace) → ArePlaces ns xs → length xs ≡ length (lines ns)
places-long ns xs h = sym (length-map xs (item_of ns)) ∙ ap length h.items

-- the places that a loop over all namespaces has found
pub all-lines : (spaces all : List Space) (xs : List LinePlace) (n : ℕ) → all ≡ spaces → length all ≤ n → map (item_of (map namespace spaces)) xs ≡ lines (take n (map namespace spaces)) → All (IsInside (map namespace spaces)) xs → ArePlaces (map namespace spaces) xs
all-lines spaces all xs n same past e inside =
    let long = length-map spaces namespace in
    let many = ap length same in
    record { items = e ∙ ap lines (take_all n (map namespace spaces) (omega arith)); inside = inside }
