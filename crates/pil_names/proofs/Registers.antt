-- What a register has after one more name, and the entries of one more item.
use Rattle.std.proofs.Common.{◌≡◌, ◌<◌, ◌∙◌, refl, sym, ap, subst, ℕ, zero, suc, ◌+◌, List, [], ◌∷◌, ◌++◌, append_assoc, append-nil, map, take, get_or, length, arith, add-one}
use Rattle.std.specs.Prelude.{Bool, true, false, Option, Some, None, is_some, bytes_eq, if◌then◌else◌}
use Rattle.std.proofs.lemmas.List.{map-append}
use Rattle.pil_syntax.specs.declared.tree.Ident.{Ident}
use Rattle.pil_names.specs.declared.register.Register.{Register}
use Rattle.pil_names.specs.declared.outline.Draft as D
use Rattle.pil_names.specs.Outline.{Draft, column, defined, published, equal, inside, against}
use Rattle.pil_names.specs.Finding.{Entry, found, numbered, polynomials_from}
use Rattle.pil_names.specs.Wrongs.{stands, repeats, repeated_among}
use Rattle.pil_names.specs.Least.{least, lesser}
use Rattle.pil_names.specs.Directory.{number_of, Adds, Registers}
use Rattle.pil_names.specs.Shown.{draft}
use Rattle.pil_names.proofs.Numbers.{Lists-add}
use Rattle.pil_names.proofs.Leasts.{least-append, lesser_none}

stands_or_found : (b c : Bool) (n : ℕ) (o : Option ℕ) → c ≡ is_some o → (if b then true else c) ≡ is_some (if b then Some n else o)
stands_or_found true c n o h = refl
stands_or_found false c n o h = h

-- a name stands among those of the entries where it is found
stands-found : (x : List ℕ) (es : List Entry) → stands x (map (λ e. e.name) es) ≡ is_some (found x es)
stands-found x [] = refl
stands-found x (e ∷ es) = stands_or_found (bytes_eq e.name.name x) _ e.number (found x es) (stands-found x es)

repeats-last : (before xs : List Ident) (x : Ident) → repeats before (xs ++ x ∷ []) ≡ repeats before xs ++ (if stands x.name (before ++ xs) then x.at ∷ [] else [])
repeats-last before [] x = append-nil _ ∙ ap (λ ys. if stands x.name ys then x.at ∷ [] else []) (sym (append-nil before))
repeats-last before (y ∷ xs) x =
    let first = (if stands y.name before then y.at ∷ [] else []) in
    ap (λ ys. first ++ ys) (repeats-last (before ++ y ∷ []) xs x ∙ ap (λ zs. repeats (before ++ y ∷ []) xs ++ (if stands x.name zs then x.at ∷ [] else [])) (append_assoc before (y ∷ []) xs))
    ∙ sym (append_assoc first (repeats (before ++ y ∷ []) xs) _)

among-last : (es : List Entry) (e : Entry) → repeated_among (es ++ e ∷ []) ≡ repeated_among es ++ (if is_some (found e.name.name es) then e.name.at ∷ [] else [])
among-last es e =
    ap (repeats []) (map-append (λ d. d.name) es (e ∷ []))
    ∙ repeats-last [] (map (λ d. d.name) es) e.name
    ∙ ap (λ b. repeated_among es ++ (if b then e.name.at ∷ [] else [])) (stands-found e.name.name es)

-- the least place with the entry e, whose name stands before or not
least-last : (es : List Entry) (e : Entry) (b : Bool) → b ≡ is_some (found e.name.name es) → least (repeated_among (es ++ e ∷ [])) ≡ lesser (least (repeated_among es)) (if b then Some e.name.at else None)
least-last es e true h = ap least (among-last es e ∙ ap (λ b. repeated_among es ++ (if b then e.name.at ∷ [] else [])) (sym h)) ∙ least-append (repeated_among es) (e.name.at ∷ [])
least-last es e false h = ap least (among-last es e ∙ ap (λ b. repeated_among es ++ (if b then e.name.at ∷ [] else [])) (sym h)) ∙ least-append (repeated_among es) []

more : (r s : Register) (es : List Entry) (e : Entry) (b : Bool) → Registers r es → Adds r.names e.name.name e.number s.names → b ≡ is_some (number_of r.names e.name.name) → s.repeated ≡ lesser r.repeated (if b then Some e.name.at else None) → Registers s (es ++ e ∷ [])
more r s es e b h a stood kept = record {
  names = Lists-add r.names s.names es e h.names a;
  repeated = kept ∙ ap (λ o. lesser o (if b then Some e.name.at else None)) h.repeated ∙ sym (least-last es e b (stood ∙ ap is_some (h.names e.name.name)));
}

pub Registers-repeated : (r s : Register) (es : List Entry) (x : Ident) (k : ℕ) (bs : List ℕ) → bs ≡ x.name → Registers r es → Adds r.names bs k s.names → true ≡ is_some (number_of r.names bs) → s.repeated ≡ lesser r.repeated (Some x.at) → Registers s (es ++ record { name = x; number = k } ∷ [])
Registers-repeated r s es x k bs e h a stood kept = more r s es (record { name = x; number = k }) true h (subst (λ l. Adds r.names l k s.names) e a) (stood ∙ ap (λ l. is_some (number_of r.names l)) e) kept

pub Registers-fresh : (r s : Register) (es : List Entry) (x : Ident) (k : ℕ) (bs : List ℕ) → bs ≡ x.name → Registers r es → Adds r.names bs k s.names → false ≡ is_some (number_of r.names bs) → s.repeated ≡ r.repeated → Registers s (es ++ record { name = x; number = k } ∷ [])
Registers-fresh r s es x k bs e h a stood kept = more r s es (record { name = x; number = k }) false h (subst (λ l. Adds r.names l k s.names) e a) (stood ∙ ap (λ l. is_some (number_of r.names l)) e) (kept ∙ sym (lesser_none r.repeated))

numbered-suc : {A : Type 0} (f : A → Ident) (xs : List A) (n i : ℕ) (d : A) → i < length xs → numbered n (map f (take (suc i) xs)) ≡ numbered n (map f (take i xs)) ++ record { name = f (get_or xs i d); number = n + i } ∷ []
numbered-suc f [] n i d h = absurd (omega arith)
numbered-suc f (x ∷ xs) n zero d h = ap (λ k. record { name = f x; number = k } ∷ []) (omega arith)
numbered-suc f (x ∷ xs) n (suc i) d h =
    let e : (n + 1) + i ≡ n + suc i = omega arith in
    ap (λ es. record { name = f x; number = n } ∷ es) (numbered-suc f xs (n + 1) i d (omega arith) ∙ ap (λ k. numbered (n + 1) (map f (take i xs)) ++ record { name = f (get_or xs i d); number = k } ∷ []) e)

pub numbered-take : {A : Type 0} (f : A → Ident) (xs : List A) (i : ℕ) (d : A) → i < length xs → numbered 0 (map f (take (i + 1) xs)) ≡ numbered 0 (map f (take i xs)) ++ record { name = f (get_or xs i d); number = i } ∷ []
numbered-take f xs i d h =
    let e : 0 + i ≡ i = omega arith in
    rw add-one (numbered-suc f xs 0 i d h ∙ ap (λ k. numbered 0 (map f (take i xs)) ++ record { name = f (get_or xs i d); number = k } ∷ []) e)

-- the polynomials of an item and of those after it
polynomials-cons : (d : Draft) (ds : List Draft) (n : ℕ) → polynomials_from n (d ∷ ds) ≡ polynomials_from n (d ∷ []) ++ polynomials_from (n + 1) ds
polynomials-cons (column c d) ds n = refl
polynomials-cons (defined x e) ds n = refl
polynomials-cons (published x r k) ds n = refl
polynomials-cons (equal a b) ds n = refl
polynomials-cons (inside a b) ds n = refl
polynomials-cons (against a b) ds n = refl

polynomials-suc : (xs : List D.Draft) (n i : ℕ) (d : D.Draft) → i < length xs → polynomials_from n (map draft (take (suc i) xs)) ≡ polynomials_from n (map draft (take i xs)) ++ polynomials_from (n + i) (draft (get_or xs i d) ∷ [])
polynomials-suc [] n i d h = absurd (omega arith)
polynomials-suc (x ∷ xs) n zero d h = ap (λ k. polynomials_from k (draft x ∷ [])) (omega arith)
polynomials-suc (x ∷ xs) n (suc i) d h =
    let e : (n + 1) + i ≡ n + suc i = omega arith in
    let first = polynomials_from n (draft x ∷ []) in
    let last = λ (k : ℕ). polynomials_from k (draft (get_or xs i d) ∷ []) in
    polynomials-cons (draft x) (map draft (take (suc i) xs)) n
    ∙ ap (λ es. first ++ es) (polynomials-suc xs (n + 1) i d (omega arith) ∙ ap (λ k. polynomials_from (n + 1) (map draft (take i xs)) ++ last k) e)
    ∙ sym (append_assoc first (polynomials_from (n + 1) (map draft (take i xs))) (last (n + suc i)))
    ∙ ap (λ es. es ++ last (n + suc i)) (sym (polynomials-cons (draft x) (map draft (take i xs)) n))

pub polynomials-take : (xs : List D.Draft) (i : ℕ) (d : D.Draft) → i < length xs → polynomials_from 0 (map draft (take (i + 1) xs)) ≡ polynomials_from 0 (map draft (take i xs)) ++ polynomials_from i (draft (get_or xs i d) ∷ [])
polynomials-take xs i d h =
    let e : 0 + i ≡ i = omega arith in
    rw add-one (polynomials-suc xs 0 i d h ∙ ap (λ k. polynomials_from 0 (map draft (take i xs)) ++ polynomials_from k (draft (get_or xs i d) ∷ [])) e)
