-- What the meaning of a file has that breaks no rule: names that aren't repeated, and lines in their places.
use Rattle.std.proofs.Common.{ℕ, ◌≡◌, ◌<◌, ◌+◌, List, [], ◌∷◌, ◌++◌, Bool, true, false, cond, length, map, filter, Option, Some, None, refl, sym, ap, subst, ◌∙◌, arith, All, append_assoc}
use Rattle.std.specs.Prelude.{flat_map, unwrap_or, is_some, bytes_eq}
use Rattle.std.proofs.lemmas.List.{map-append}
use Rattle.std.proofs.lemmas.List.Elements.{All-nil, All-cons, All-map, All-weaker}
use Rattle.pil_syntax.specs.declared.tree.Ident.{Ident}
use Rattle.pil_syntax.specs.declared.tree.Number.{Number}
use Rattle.pil_syntax.specs.declared.tree.Reference.{Reference}
use Rattle.pil_syntax.specs.declared.tree.ColumnKind.TheVariants.{Constant, Commit}
use Rattle.pil_syntax.specs.Tree.{Term, num, col, constant, public, opp, group, ◌⊕◌, ◌⊖◌, ◌⊗◌, Filter, every, by_col, by_group, Tuple}
use Rattle.pil_ast.specs.Term.{Namespace}
use Rattle.pil_names.specs.Outline.{Draft, column, defined, published, equal, inside, against, Home, Outline, home_at, draft_at}
use Rattle.pil_names.specs.Finding.{Entry, numbered, constant_entries, home_entries, public_entries, published_name, public_names, polynomials_from, polynomial_entries, home_named, item_named}
use Rattle.pil_names.specs.Wrongs.{stands, repeats, repeated_among, repeated, terms_of, terms_of_list, selectors_of, each_item, references, home_or, home_of_terms, unknown, unknown_in_size, unknown_in_draft, unknown_in_public, unknown_in_term, unknown_reference, unknown_in_home, unknown_in_item, space_place}
use Rattle.pil_meaning.specs.Meaning.{named_item, read_in, read_reference, read_term, read_filter, read_tuple, read_draft, read_homes, meaning}
use Rattle.pil_meaning.specs.Standing.{MeaningIsReading}
use Rattle.pil_print.proofs.Parted.{left_nil, right_nil, all_nil, each_draft, home_all}
use Rattle.pil_print.specs.Statements.{ident, name_of, is_public, published as published_of}
use Rattle.pil_print.proofs.Outlines.{draft, home, IsNamed, names-of-publics, not-there}
use Rattle.pil_print.proofs.Rereads.{spaces_in, first_or, sel_terms, IsPlacedList, IsPlaced, ArePlaced, first-home, joined-same}

-- names that don't repeat don't at other places either
abbrev pub bytes_of : Ident → List ℕ
bytes_of x = x.name

stands-same : (x : List ℕ) (bs cs : List Ident) → map bytes_of bs ≡ map bytes_of cs → stands x bs ≡ stands x cs
stands-same x [] [] e = refl
stands-same x [] (c ∷ cs) e = let no : ⊥ = cc in absurd no
stands-same x (b ∷ bs) [] e = let no : ⊥ = cc in absurd no
stands-same x (b ∷ bs) (c ∷ cs) e =
    let first : b.name ≡ c.name = cc in
    let rest : map bytes_of bs ≡ map bytes_of cs = cc in
    ap (λ n. cond (bytes_eq n x) true (stands x bs)) first ∙ ap (λ s. cond (bytes_eq c.name x) true s) (stands-same x bs cs rest)

pub repeats-same : (bs cs xs ys : List Ident) → map bytes_of bs ≡ map bytes_of cs → map bytes_of xs ≡ map bytes_of ys → repeats bs xs ≡ [] → repeats cs ys ≡ []
repeats-same bs cs [] [] e f h = refl
repeats-same bs cs [] (y ∷ ys) e f h = let no : ⊥ = cc in absurd no
repeats-same bs cs (x ∷ xs) [] e f h = let no : ⊥ = cc in absurd no
repeats-same bs cs (x ∷ xs) (y ∷ ys) e f h =
    let first : x.name ≡ y.name = cc in
    let rest : map bytes_of xs ≡ map bytes_of ys = cc in
    let new = not-there (stands x.name bs) x.at (left_nil (cond (stands x.name bs) (x.at ∷ []) []) (repeats (bs ++ x ∷ []) xs) h) in
    let none : stands y.name cs ≡ false = sym (stands-same y.name bs cs e) ∙ ap (λ n. stands n bs) (sym first) ∙ new in
    let longer : map bytes_of (bs ++ x ∷ []) ≡ map bytes_of (cs ++ y ∷ [])
    = map-append bytes_of bs (x ∷ []) ∙ joined-same (map bytes_of bs) (x.name ∷ []) (map bytes_of cs) (y.name ∷ []) e (ap (λ n. n ∷ []) first) ∙ sym (map-append bytes_of cs (y ∷ [])) in
    ap (λ b. cond b (y.at ∷ []) [] ++ repeats (cs ++ y ∷ []) ys) none
    ∙ repeats-same (bs ++ x ∷ []) (cs ++ y ∷ []) xs ys longer rest (right_nil (cond (stands x.name bs) (x.at ∷ []) []) (repeats (bs ++ x ∷ []) xs) h)

names-numbered : (n : ℕ) (xs : List Ident) → map (λ (e : Entry). e.name) (numbered n xs) ≡ xs
names-numbered n [] = refl
names-numbered n (x ∷ xs) = ap (λ ys. x ∷ ys) (names-numbered (n + 1) xs)

pub numbered-same : (xs ys : List Ident) → map bytes_of xs ≡ map bytes_of ys → repeated_among (numbered 0 xs) ≡ [] → repeated_among (numbered 0 ys) ≡ []
numbered-same xs ys e h = ap (repeats []) (names-numbered 0 ys) ∙ repeats-same [] [] xs ys refl e (sym (ap (repeats []) (names-numbered 0 xs)) ∙ h)

home-names : (o : Outline) (ns : List Namespace) (n : ℕ) (hs : List Home) → map bytes_of (map (λ (h : Home). h.name) hs) ≡ map bytes_of (map (λ (h : Home). h.name) (map (home ns) (read_homes o n hs)))
home-names o ns n [] = refl
home-names o ns n (h ∷ hs) = ap (λ xs. h.name.name ∷ xs) (home-names o ns (n + 1) hs)

item-names : (o : Outline) (s : ℕ) (ds : List Draft) → map bytes_of (flat_map published_name ds) ≡ map bytes_of (map (λ l. ident (name_of l)) (filter is_public (map (read_draft o s) ds)))
item-names o s [] = refl
item-names o s (column Constant d ∷ ds) = item-names o s ds
item-names o s (column Commit d ∷ ds) = item-names o s ds
item-names o s (defined x e ∷ ds) = item-names o s ds
item-names o s (published x r n ∷ ds) = ap (λ xs. x.name ∷ xs) (item-names o s ds)
item-names o s (equal a b ∷ ds) = item-names o s ds
item-names o s (inside a b ∷ ds) = item-names o s ds
item-names o s (against a b ∷ ds) = item-names o s ds

publics-names : (o : Outline) (n : ℕ) (hs : List Home) → map bytes_of (public_names hs) ≡ map bytes_of (map (λ l. ident (name_of l)) (published_of (read_homes o n hs)))
publics-names o n [] = refl
publics-names o n (h ∷ hs) =
    map-append bytes_of (flat_map published_name h.items) (public_names hs)
    ∙ (joined-same (map bytes_of (flat_map published_name h.items)) (map bytes_of (public_names hs)) _ _ (item-names o n h.items) (publics-names o (n + 1) hs)
    ∙ (sym (map-append bytes_of (map (λ l. ident (name_of l)) (filter is_public (map (read_draft o n) h.items))) (map (λ l. ident (name_of l)) (published_of (read_homes o (n + 1) hs))))
    ∙ ap (map bytes_of) (sym (map-append (λ l. ident (name_of l)) (filter is_public (map (read_draft o n) h.items)) (published_of (read_homes o (n + 1) hs))))))

polynomial-names : (o : Outline) (ns : List Namespace) (s n : ℕ) (ds : List Draft) → map bytes_of (map (λ (e : Entry). e.name) (polynomials_from n ds)) ≡ map bytes_of (map (λ (e : Entry). e.name) (polynomials_from n (map (draft ns) (map (read_draft o s) ds))))
polynomial-names o ns s n [] = refl
polynomial-names o ns s n (column Constant d ∷ ds) = ap (λ xs. d.name.name ∷ xs) (polynomial-names o ns s (n + 1) ds)
polynomial-names o ns s n (column Commit d ∷ ds) = ap (λ xs. d.name.name ∷ xs) (polynomial-names o ns s (n + 1) ds)
polynomial-names o ns s n (defined x e ∷ ds) = ap (λ xs. x.name ∷ xs) (polynomial-names o ns s (n + 1) ds)
polynomial-names o ns s n (published x r m ∷ ds) = polynomial-names o ns s (n + 1) ds
polynomial-names o ns s n (equal a b ∷ ds) = polynomial-names o ns s (n + 1) ds
polynomial-names o ns s n (inside a b ∷ ds) = polynomial-names o ns s (n + 1) ds
polynomial-names o ns s n (against a b ∷ ds) = polynomial-names o ns s (n + 1) ds

pub meaning-named : MeaningIsReading → (o : Outline) → repeated o ≡ [] → IsNamed (meaning o)
meaning-named reading o h =
    let ns = meaning o in
    let first = right_nil (repeated_among (constant_entries o)) (repeated_among (home_entries o) ++ (repeated_among (public_entries o) ++ flat_map (λ (k : Home). repeated_among (polynomial_entries k)) o.homes)) h in
    let second = right_nil (repeated_among (home_entries o)) (repeated_among (public_entries o) ++ flat_map (λ (k : Home). repeated_among (polynomial_entries k)) o.homes) first in
    let third = right_nil (repeated_among (public_entries o)) (flat_map (λ (k : Home). repeated_among (polynomial_entries k)) o.homes) second in
    record {
      homes = numbered-same (map (λ (k : Home). k.name) o.homes) (map (λ (k : Home). k.name) (map (home ns) ns)) (home-names o ns 0 o.homes) (left_nil (repeated_among (home_entries o)) _ first);
      publics = numbered-same (public_names o.homes) (public_names (map (home ns) ns)) (publics-names o 0 o.homes ∙ ap (map bytes_of) (sym (names-of-publics ns ns))) (left_nil (repeated_among (public_entries o)) _ second);
      polynomials = λ s l.
          let l' : s < length o.homes = omega (arith, (reading o).long) in
          let ds = (home_at o.homes s).items in
          let mine : repeated_among (polynomials_from 0 (home_at o.homes s).items) ≡ [] = home_all (λ k. repeated_among (polynomial_entries k) ≡ []) o.homes s (all_nil (λ (k : Home). repeated_among (polynomial_entries k)) o.homes third) l' in
          ap (λ ls. repeated_among (polynomials_from 0 (map (draft ns) ls))) ((reading o).items s l')
          ∙ repeats-same [] [] (map (λ (e : Entry). e.name) (polynomials_from 0 ds)) (map (λ (e : Entry). e.name) (polynomials_from 0 (map (draft ns) (map (read_draft o s) ds)))) refl (polynomial-names o ns s 0 ds) mine;
    }

-- each name of an expression is known
module _ (o : Outline) (s : ℕ) where
  named-space : (m k : ℕ) (ds : List Draft) (d : Draft) (i : Option Number) (b : Bool) → spaces_in (named_item m ds k d i b) ≡ m ∷ []
  named-space m k ds (column c d) i b = refl
  named-space m k ds (defined x e) i b = refl
  named-space m k ds (published x r n) i b = refl
  named-space m k ds (equal x y) i b = refl
  named-space m k ds (inside x y) i b = refl
  named-space m k ds (against x y) i b = refl

  reference-space : (r : Reference) → unknown_reference o s r ≡ [] → spaces_in (read_reference o s r) ≡ home_or o s r ∷ []
  reference-space r h = by-home (home_named o s r.space) refl h
    where
      by-item : (m : ℕ) (k : Option ℕ) → unknown_in_item r (home_at o.homes m).items k ≡ [] → spaces_in (read_in o m r k) ≡ m ∷ []
      by-item m None g = let no : ⊥ = cc in absurd no
      by-item m (Some k) g = named-space m k (home_at o.homes m).items (draft_at (home_at o.homes m).items k) r.index (is_some r.next)

      no-space : (x : Option Ident) → home_named o s x ≡ None → space_place x ≡ [] → ⊥
      no-space None e g = cc
      no-space (Some x) e g = cc

      by-home : (m : Option ℕ) → home_named o s r.space ≡ m → unknown_in_home o r m ≡ [] → spaces_in (read_in o (unwrap_or m s) r (item_named o (unwrap_or m s) r)) ≡ unwrap_or m s ∷ []
      by-home None e g = absurd (no-space r.space e g)
      by-home (Some m) e g = by-item m (item_named o m r) g

  spaces-read : (e : Term) → unknown_in_term o s e ≡ [] → spaces_in (read_term o s e) ≡ map (home_or o s) (references e)
  spaces-read (num n) h = refl
  spaces-read (col r) h = reference-space r h
  spaces-read (constant x) h = refl
  spaces-read (public x) h = refl
  spaces-read (opp a) h = spaces-read a h
  spaces-read (group a) h = spaces-read a h
  spaces-read (a ⊕ b) h = joined-same _ _ _ _ (spaces-read a (left_nil (unknown_in_term o s a) (unknown_in_term o s b) h)) (spaces-read b (right_nil (unknown_in_term o s a) (unknown_in_term o s b) h)) ∙ sym (map-append (home_or o s) (references a) (references b))
  spaces-read (a ⊖ b) h = joined-same _ _ _ _ (spaces-read a (left_nil (unknown_in_term o s a) (unknown_in_term o s b) h)) (spaces-read b (right_nil (unknown_in_term o s a) (unknown_in_term o s b) h)) ∙ sym (map-append (home_or o s) (references a) (references b))
  spaces-read (a ⊗ b) h = joined-same _ _ _ _ (spaces-read a (left_nil (unknown_in_term o s a) (unknown_in_term o s b) h)) (spaces-read b (right_nil (unknown_in_term o s a) (unknown_in_term o s b) h)) ∙ sym (map-append (home_or o s) (references a) (references b))

  spaces-all : (es : List Term) → flat_map (unknown_in_term o s) es ≡ [] → flat_map spaces_in (map (read_term o s) es) ≡ map (home_or o s) (flat_map references es)
  spaces-all [] h = refl
  spaces-all (e ∷ es) h =
      joined-same _ _ _ _ (spaces-read e (left_nil (unknown_in_term o s e) (flat_map (unknown_in_term o s) es) h)) (spaces-all es (right_nil (unknown_in_term o s e) (flat_map (unknown_in_term o s) es) h))
      ∙ sym (map-append (home_or o s) (references e) (flat_map references es))

  placed-terms : (es : List Term) → flat_map (unknown_in_term o s) es ≡ [] → first_or s (flat_map spaces_in (map (read_term o s) es)) ≡ home_of_terms o s es
  placed-terms es h = ap (first_or s) (spaces-all es h) ∙ sym (first-home o s (flat_map references es))

  selector-terms : (f : Filter) (es : List Term) → sel_terms (read_filter o s f) ++ map (read_term o s) es ≡ map (read_term o s) (selectors_of f ++ es)
  selector-terms every es = refl
  selector-terms (by_col r) es = refl
  selector-terms (by_group e) es = refl

  placed-list : (l : Tuple) → flat_map (unknown_in_term o s) (terms_of_list l) ≡ [] → IsPlacedList s (read_tuple o s l)
  placed-list l h = ap (λ es. first_or s (flat_map spaces_in es)) (selector-terms l.filter l.entries) ∙ placed-terms (terms_of_list l) h

  flat-parts : (xs ys : List Term) → flat_map (unknown_in_term o s) (xs ++ ys) ≡ flat_map (unknown_in_term o s) xs ++ flat_map (unknown_in_term o s) ys
  flat-parts [] ys = refl
  flat-parts (x ∷ xs) ys = ap (λ zs. unknown_in_term o s x ++ zs) (flat-parts xs ys) ∙ sym (append_assoc (unknown_in_term o s x) (flat_map (unknown_in_term o s) xs) (flat_map (unknown_in_term o s) ys))

  flat-left : (xs ys : List Term) → flat_map (unknown_in_term o s) (xs ++ ys) ≡ [] → flat_map (unknown_in_term o s) xs ≡ []
  flat-left xs ys h = left_nil _ (flat_map (unknown_in_term o s) ys) (sym (flat-parts xs ys) ∙ h)

  flat-right : (xs ys : List Term) → flat_map (unknown_in_term o s) (xs ++ ys) ≡ [] → flat_map (unknown_in_term o s) ys ≡ []
  flat-right xs ys h = right_nil (flat_map (unknown_in_term o s) xs) _ (sym (flat-parts xs ys) ∙ h)

  placed-lists : (ls : List Tuple) → flat_map (unknown_in_term o s) (flat_map terms_of_list ls) ≡ [] → All (IsPlacedList s) (map (read_tuple o s) ls)
  placed-lists [] h = All-nil (IsPlacedList s)
  placed-lists (l ∷ ls) h =
      All-cons (IsPlacedList s) (read_tuple o s l) (map (read_tuple o s) ls) (placed-list l (flat-left (terms_of_list l) (flat_map terms_of_list ls) h)) (placed-lists ls (flat-right (terms_of_list l) (flat_map terms_of_list ls) h))

  placed-draft : (d : Draft) → unknown_in_draft o s d ≡ [] → IsPlaced s (read_draft o s d)
  placed-draft (column Constant d) h = tt
  placed-draft (column Commit d) h = tt
  placed-draft (defined x e) h = tt
  placed-draft (published x r n) h = tt
  placed-draft (equal a b) h = placed-terms (a ∷ b ∷ []) (right_nil (unknown_in_public o s (equal a b)) (flat_map (unknown_in_term o s) (terms_of (equal a b))) h)
  placed-draft (inside a b) h =
      let all = right_nil (unknown_in_public o s (inside a b)) (flat_map (unknown_in_term o s) (terms_of (inside a b))) h in
      (placed-list a (flat-left (terms_of_list a) (terms_of_list b) all), placed-list b (flat-right (terms_of_list a) (terms_of_list b) all))
  placed-draft (against ls rs) h =
      let all = right_nil (unknown_in_public o s (against ls rs)) (flat_map (unknown_in_term o s) (terms_of (against ls rs))) h in
      (placed-lists ls (flat-left (flat_map terms_of_list ls) (flat_map terms_of_list rs) all), placed-lists rs (flat-right (flat_map terms_of_list ls) (flat_map terms_of_list rs) all))

pub meaning-placed : MeaningIsReading → (o : Outline) → unknown o ≡ [] → ArePlaced (meaning o)
meaning-placed reading o h = record {
  each = λ s l.
      let l' : s < length o.homes = omega (arith, (reading o).long) in
      let names = each_draft (unknown_in_draft o) o s (right_nil (flat_map (λ (k : Home). unknown_in_size o k.size) o.homes) (each_item (unknown_in_draft o) o) h) l' in
      subst (All (IsPlaced s)) (sym ((reading o).items s l')) (All-map (IsPlaced s) (read_draft o s) (home_at o.homes s).items (All-weaker (λ d. unknown_in_draft o s d ≡ []) (λ d. IsPlaced s (read_draft o s d)) (placed-draft o s) (home_at o.homes s).items names));
}
