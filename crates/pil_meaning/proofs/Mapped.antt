-- Lists of what is read, and the namespaces as they are read one after another.
use Rattle.std.proofs.Common.{ℕ, zero, suc, ◌≡◌, ◌<◌, ◌+◌, List, [], ◌∷◌, ◌++◌, length, get_or, map, take, All, Option, refl, sym, ap, subst, ◌∙◌, arith}
use Rattle.std.proofs.lemmas.List.Elements.{All-nil, All-cons, All-head, All-tail}
use Rattle.pil_ast.specs.Term.{Term, Tuples, Line, Namespace}
use Rattle.pil_names.specs.declared.outline.Home as H
use Rattle.pil_names.specs.Outline.{Outline}
use Rattle.pil_names.specs.Shown.{home}
use Rattle.pil_meaning.specs.Meaning.{read_home, read_homes}
use Rattle.pil_meaning.specs.Fitting.{FitsSpace}
use Rattle.pil_meaning.specs.Firsts.{FewColumns}
use Rattle.pil_meaning.proofs.Widths.{width-read}

pub all-mapped : {X Y : Type 0} (P : Y → Type 0) (f : X → Y) (xs : List X) → All P (map f xs) → All (λ x. P (f x)) xs
all-mapped P f [] a = All-nil (λ x. P (f x))
all-mapped P f (x ∷ xs) a = All-cons (λ x. P (f x)) x xs (All-head P (f x) (map f xs) a) (all-mapped P f xs (All-tail P (f x) (map f xs) a))

pub map-twice : {X Y Z : Type 0} (f : Y → Z) (g : X → Y) (xs : List X) → map f (map g xs) ≡ map (λ x. f (g x)) xs
map-twice f g [] = refl
map-twice f g (x ∷ xs) = ap (λ ys. f (g x) ∷ ys) (map-twice f g xs)

pub same-tuples : (s t : ℕ) (x y : Option Term) (es fs : List Term) → s ≡ t → x ≡ y → es ≡ fs → (let a : Tuples = record { space = s; sel = x; terms = es } in a) ≡ (let b : Tuples = record { space = t; sel = y; terms = fs } in b)
same-tuples s t x y es fs p q r =
    ap (λ n. let a : Tuples = record { space = n; sel = x; terms = es } in a) p
    ∙ ap (λ z. let a : Tuples = record { space = t; sel = z; terms = es } in a) q
    ∙ ap (λ gs. let a : Tuples = record { space = t; sel = y; terms = gs } in a) r

pub homes-more : (o : Outline) (n : ℕ) (hs : List H.Home) (i : ℕ) (x : H.Home) → i < length hs → x ≡ get_or hs i x → read_homes o n (map home (take (i + 1) hs)) ≡ read_homes o n (map home (take i hs)) ++ read_home o (n + i) (home x) ∷ []
homes-more o n [] i x l e = absurd (omega arith)
homes-more o n (h ∷ hs) zero x l e =
    let z : n ≡ n + 0 = omega arith in
    ap (λ y. read_home o n (home y) ∷ []) (sym e) ∙ ap (λ k. read_home o k (home x) ∷ []) z
homes-more o n (h ∷ hs) (suc i) x l e =
    let one : suc i + 1 ≡ suc (i + 1) = omega arith in
    let z : n + 1 + i ≡ n + suc i = omega arith in
    ap (λ k. read_homes o n (map home (take k (h ∷ hs)))) one
    ∙ ap (λ ns. read_home o n (home h) ∷ ns) (homes-more o (n + 1) hs i x (omega arith) e ∙ ap (λ k. read_homes o (n + 1) (map home (take i hs)) ++ read_home o k (home x) ∷ []) z)

pub fits-here : (o : Outline) (n : ℕ) (hs : List H.Home) (i : ℕ) (x : H.Home) → All FitsSpace (read_homes o n (map home hs)) → i < length hs → x ≡ get_or hs i x → FitsSpace (read_home o (n + i) (home x))
fits-here o n [] i x a l e = absurd (omega arith)
fits-here o n (h ∷ hs) zero x a l e =
    let z : n ≡ n + 0 = omega arith in
    let first = All-head FitsSpace (read_home o n (home h)) (read_homes o (n + 1) (map home hs)) a in
    subst (λ k. FitsSpace (read_home o k (home x))) z (subst (λ y. FitsSpace (read_home o n (home y))) (sym e) first)
fits-here o n (h ∷ hs) (suc i) x a l e =
    let z : n + 1 + i ≡ n + suc i = omega arith in
    subst (λ k. FitsSpace (read_home o k (home x))) z (fits-here o (n + 1) hs i x (All-tail FitsSpace (read_home o n (home h)) (read_homes o (n + 1) (map home hs)) a) (omega arith) e)

pub few-columns : (o : Outline) (n : ℕ) (hs : List H.Home) → All FitsSpace (read_homes o n (map home hs)) → All (λ h. FewColumns (home h).items) hs
few-columns o n [] a = All-nil (λ (h : H.Home). FewColumns (home h).items)
few-columns o n (h ∷ hs) a =
    All-cons (λ (h : H.Home). FewColumns (home h).items) h hs
    (omega (arith, (All-head FitsSpace (read_home o n (home h)) (read_homes o (n + 1) (map home hs)) a).columns, width-read o n (home h).items))
    (few-columns o (n + 1) hs (All-tail FitsSpace (read_home o n (home h)) (read_homes o (n + 1) (map home hs)) a))

pub same-space : (x y : List ℕ) (r q : ℕ) (is js : List Line) → x ≡ y → r ≡ q → is ≡ js → (let a : Namespace = record { name = x; rows = r; items = is } in a) ≡ (let b : Namespace = record { name = y; rows = q; items = js } in b)
same-space x y r q is js e f g =
    ap (λ z. let a : Namespace = record { name = z; rows = r; items = is } in a) e
    ∙ ap (λ n. let a : Namespace = record { name = y; rows = n; items = is } in a) f
    ∙ ap (λ ls. let a : Namespace = record { name = y; rows = q; items = ls } in a) g
