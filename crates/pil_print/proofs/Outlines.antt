-- The outline of printed statements, and what their names stand for.
use Rattle.std.proofs.Common.{ℕ, zero, suc, ◌≡◌, ◌<◌, ◌≤◌, ◌+◌, ◌-◌, List, [], ◌∷◌, ◌++◌, Bool, true, false, length, map, take, filter, sum_by, slice_get, Option, Some, None, refl, sym, ap, subst, ◌∙◌, arith, nat_eq, cond, ◌&&◌, ◌⊎◌, inl, inr}
use Rattle.std.specs.Prelude.{flat_map, bytes_eq}
use Rattle.std.proofs.lemmas.Bool.{cases_lt}
use Rattle.std.proofs.lemmas.List.{append-nil, map-append, length-map, take_all}
use Rattle.std.proofs.lemmas.List.Sums.{sum_by-cons}
use Rattle.std.proofs.lemmas.Grind.{common_steps}
use Rattle.pil_syntax.specs.declared.tree.Ident.{Ident}
use Rattle.pil_syntax.specs.declared.tree.ColumnKind.TheVariants.{Constant, Commit}
use Rattle.pil_syntax.specs.declared.tree.Size.TheVariants as sizes
use Rattle.pil_syntax.specs.Tree.{Sentence}
use Rattle.pil_ast.specs.Term.{Line, constant, commit, inter, published as published', identity, lookup, bus, Namespace, item_at, space_at, columns_of, width}
use Rattle.pil_names.specs.Outline.{Draft, column, defined, published, equal, inside, against, Home, Outline, constants_of, items_before, homes_of, outline_of, home_at, draft_at}
use Rattle.pil_names.specs.Finding.{Entry, found, numbered, home_entries, published_name, public_names, public_entries, polynomials_from}
use Rattle.pil_names.specs.Wrongs.{stands, repeats, repeated_among}
use Rattle.pil_meaning.specs.Meaning.{constant_columns, committed_columns, start_of_kind}
use Rattle.pil_print.proofs.Parted.{left_nil, right_nil}
use Rattle.pil_print.specs.Statements.{ident, numeral, name_of, is_constant, is_commit, is_public, declared, Spot, spot_in, published as published_of, column_reference, expression, tuple, declaration, statement, statements_of, sentences_of}
use Rattle.pil_print.proofs.Starts.{spot-here, spot-past, width-parts}

abbrev pub draft : List Namespace → Line → Draft
draft ns (constant x n) = column Constant (declaration x n)
draft ns (commit x n) = column Commit (declaration x n)
draft ns (inter x e) = defined (ident x) (expression ns e)
draft ns (published' x s k r) = published (ident x) (column_reference ns s k false) (numeral r)
draft ns (identity s a b) = equal (expression ns a) (expression ns b)
draft ns (lookup a b) = inside (tuple ns a) (tuple ns b)
draft ns (bus ls rs) = against (map (tuple ns) ls) (map (tuple ns) rs)

abbrev pub home : List Namespace → Namespace → Home
home ns n = record { name = ident n.name; size = sizes.Number (numeral n.rows); items = map (draft ns) n.items }

-- the outline of a printed text
abbrev pub outline : List Namespace → Outline
outline ns = record { constants = []; homes = map (home ns) ns }

module _ (ns : List Namespace) where
  constants-before : (ls : List Line) (rest : List Sentence) → flat_map constants_of (map (statement ns) ls ++ rest) ≡ flat_map constants_of rest
  constants-before [] rest = refl
  constants-before (constant x n ∷ ls) rest = constants-before ls rest
  constants-before (commit x n ∷ ls) rest = constants-before ls rest
  constants-before (inter x e ∷ ls) rest = constants-before ls rest
  constants-before (published' x s k r ∷ ls) rest = constants-before ls rest
  constants-before (identity s a b ∷ ls) rest = constants-before ls rest
  constants-before (lookup a b ∷ ls) rest = constants-before ls rest
  constants-before (bus a b ∷ ls) rest = constants-before ls rest

  no-constants : (ms : List Namespace) → flat_map constants_of (flat_map (statements_of ns) ms) ≡ []
  no-constants [] = refl
  no-constants (m ∷ ms) = constants-before m.items (flat_map (statements_of ns) ms) ∙ no-constants ms

  items-of : (ls : List Line) (rest : List Sentence) → items_before (map (statement ns) ls ++ rest) ≡ map (draft ns) ls ++ items_before rest
  items-of [] rest = refl
  items-of (constant x n ∷ ls) rest = ap (λ ds. column Constant (declaration x n) ∷ ds) (items-of ls rest)
  items-of (commit x n ∷ ls) rest = ap (λ ds. column Commit (declaration x n) ∷ ds) (items-of ls rest)
  items-of (inter x e ∷ ls) rest = ap (λ ds. draft ns (inter x e) ∷ ds) (items-of ls rest)
  items-of (published' x s k r ∷ ls) rest = ap (λ ds. draft ns (published' x s k r) ∷ ds) (items-of ls rest)
  items-of (identity s a b ∷ ls) rest = ap (λ ds. draft ns (identity s a b) ∷ ds) (items-of ls rest)
  items-of (lookup a b ∷ ls) rest = ap (λ ds. draft ns (lookup a b) ∷ ds) (items-of ls rest)
  items-of (bus a b ∷ ls) rest = ap (λ ds. draft ns (bus a b) ∷ ds) (items-of ls rest)

  homes-before : (ls : List Line) (rest : List Sentence) → homes_of (map (statement ns) ls ++ rest) ≡ homes_of rest
  homes-before [] rest = refl
  homes-before (constant x n ∷ ls) rest = homes-before ls rest
  homes-before (commit x n ∷ ls) rest = homes-before ls rest
  homes-before (inter x e ∷ ls) rest = homes-before ls rest
  homes-before (published' x s k r ∷ ls) rest = homes-before ls rest
  homes-before (identity s a b ∷ ls) rest = homes-before ls rest
  homes-before (lookup a b ∷ ls) rest = homes-before ls rest
  homes-before (bus a b ∷ ls) rest = homes-before ls rest

  none-before : (ms : List Namespace) → items_before (flat_map (statements_of ns) ms) ≡ []
  none-before [] = refl
  none-before (m ∷ ms) = refl

  homes-are : (ms : List Namespace) → homes_of (flat_map (statements_of ns) ms) ≡ map (home ns) ms
  homes-are [] = refl
  homes-are (m ∷ ms) =
      ap (λ ds. (let h : Home = record { name = ident m.name; size = sizes.Number (numeral m.rows); items = ds } in h) ∷ homes_of (map (statement ns) m.items ++ flat_map (statements_of ns) ms))
      (items-of m.items (flat_map (statements_of ns) ms) ∙ ap (λ ds. map (draft ns) m.items ++ ds) (none-before ms) ∙ append-nil (map (draft ns) m.items))
      ∙ ap (λ hs. home ns m ∷ hs) (homes-before m.items (flat_map (statements_of ns) ms) ∙ homes-are ms)

pub outline-is : (ns : List Namespace) → outline_of (sentences_of ns) ≡ outline ns
outline-is ns =
    ap (λ cs. let o : Outline = record { constants = cs; homes = homes_of (sentences_of ns) } in o) (no-constants ns ns)
    ∙ ap (λ hs. let o : Outline = record { constants = []; homes = hs } in o) (homes-are ns ns)

-- what stands at a number
pub home-at : (ns ms : List Namespace) (s : ℕ) → s < length ms → home_at (map (home ns) ms) s ≡ home ns (space_at ms s)
home-at ns [] s l = absurd (omega arith)
home-at ns (m ∷ ms) zero l = refl
home-at ns (m ∷ ms) (suc s) l = home-at ns ms s (omega arith)

pub draft-at : (ns : List Namespace) (ls : List Line) (k : ℕ) → k < length ls → draft_at (map (draft ns) ls) k ≡ draft ns (item_at ls k)
draft-at ns [] k l = absurd (omega arith)
draft-at ns (x ∷ ls) zero l = refl
draft-at ns (x ∷ ls) (suc k) l = draft-at ns ls k (omega arith)

-- a name that isn't repeated is found where it stands
stands-snoc : (x : List ℕ) (bs : List Ident) (y : Ident) → stands x (bs ++ y ∷ []) ≡ false → (stands x bs ≡ false) × (bytes_eq y.name x ≡ false)
stands-snoc x [] y h = (refl, last (bytes_eq y.name x) h)
  where
    last : (b : Bool) → cond b true false ≡ false → b ≡ false
    last true e = e
    last false e = refl
stands-snoc x (b ∷ bs) y h = more (bytes_eq b.name x) (stands-snoc x bs y) h
  where
    more : (c : Bool) → (stands x (bs ++ y ∷ []) ≡ false → (stands x bs ≡ false) × (bytes_eq y.name x ≡ false)) → cond c true (stands x (bs ++ y ∷ [])) ≡ false → (cond c true (stands x bs) ≡ false) × (bytes_eq y.name x ≡ false)
    more true f e = let no : ⊥ = cc in absurd no
    more false f e = f e

pub not-there : (b : Bool) (at : ℕ) → cond b (at ∷ []) [] ≡ [] → b ≡ false
not-there true at e = let no : ⊥ = cc in absurd no
not-there false at e = refl

bytes-same : (xs : List ℕ) → bytes_eq xs xs ≡ true
bytes-same [] = refl
bytes-same (x ∷ xs) = let e : nat_eq x x ≡ true = grind (arith, common_steps) in ap (λ b. b && bytes_eq xs xs) e ∙ bytes-same xs

passed-over : (b : Bool) (n : ℕ) (o : Option ℕ) (m : ℕ) → b ≡ false → o ≡ Some m → cond b (Some n) o ≡ Some m
passed-over true n o m e f = let no : ⊥ = cc in absurd no
passed-over false n o m e f = f

fresh-found : (bs : List Ident) (es : List Entry) (i : ℕ) (e : Entry) → repeats bs (map (λ d. d.name) es) ≡ [] → slice_get es i ≡ Some e → (stands e.name.name bs ≡ false) × (found e.name.name es ≡ Some e.number)
fresh-found bs [] i e h at = let no : ⊥ = cc in absurd no
fresh-found bs (f ∷ es) zero e h at =
    let same : f ≡ e = cc in
    let front = not-there (stands f.name.name bs) f.name.at (left_nil _ (repeats (bs ++ f.name ∷ []) (map (λ (d : Entry). d.name) es)) h) in
    (subst (λ (d : Entry). stands d.name.name bs ≡ false) same front, subst (λ (d : Entry). cond (bytes_eq f.name.name d.name.name) (Some f.number) (found d.name.name es) ≡ Some d.number) same (ap (λ b. cond b (Some f.number) (found f.name.name es)) (bytes-same f.name.name)))
fresh-found bs (f ∷ es) (suc i) e h at =
    let rest = fresh-found (bs ++ f.name ∷ []) es i e (right_nil (cond (stands f.name.name bs) (f.name.at ∷ []) []) (repeats (bs ++ f.name ∷ []) (map (λ (d : Entry). d.name) es)) h) at in
    let other = stands-snoc e.name.name bs f.name rest.0 in
    (other.0, passed-over (bytes_eq f.name.name e.name.name) f.number (found e.name.name es) e.number other.1 rest.1)

pub once-found : (es : List Entry) (i : ℕ) (e : Entry) → repeated_among es ≡ [] → slice_get es i ≡ Some e → found e.name.name es ≡ Some e.number
once-found es i e h at = (fresh-found [] es i e h at).1

numbered-at : (n : ℕ) (xs : List Ident) (k : ℕ) (x : Ident) → slice_get xs k ≡ Some x → slice_get (numbered n xs) k ≡ Some (let e : Entry = record { name = x; number = n + k } in e)
numbered-at n [] k x h = let no : ⊥ = cc in absurd no
numbered-at n (y ∷ xs) zero x h =
    let same : y ≡ x = cc in
    ap (λ z. Some (let e : Entry = record { name = z; number = n } in e)) same ∙ ap (λ j. Some (let e : Entry = record { name = x; number = j } in e)) (let z : n ≡ n + 0 = omega arith in z)
numbered-at n (y ∷ xs) (suc k) x h = numbered-at (n + 1) xs k x h ∙ ap (λ j. Some (let e : Entry = record { name = x; number = j } in e)) (let z : n + 1 + k ≡ n + suc k = omega arith in z)

-- the name of a namespace stands for it
home-name : (ns ms : List Namespace) (s : ℕ) → s < length ms → slice_get (map (λ (h : Home). h.name) (map (home ns) ms)) s ≡ Some (ident (space_at ms s).name)
home-name ns [] s l = absurd (omega arith)
home-name ns (m ∷ ms) zero l = refl
home-name ns (m ∷ ms) (suc s) l = home-name ns ms s (omega arith)

-- no name of a kind stands twice
pub record IsNamed (ns : List Namespace) : Type 0 where
  pub homes : repeated_among (home_entries (outline ns)) ≡ []
  pub publics : repeated_among (public_entries (outline ns)) ≡ []
  pub polynomials : (s : ℕ) → s < length ns → repeated_among (polynomials_from 0 (map (draft ns) (space_at ns s).items)) ≡ []

pub space-found : (ns : List Namespace) (s : ℕ) → IsNamed ns → s < length ns → found (space_at ns s).name (home_entries (outline ns)) ≡ Some s
space-found ns s h l =
    once-found (home_entries (outline ns)) s (record { name = ident (space_at ns s).name; number = 0 + s }) h.homes (numbered-at 0 (map (λ (k : Home). k.name) (map (home ns) ns)) s (ident (space_at ns s).name) (home-name ns ns s l))
    ∙ ap Some (let z : 0 + s ≡ s = omega arith in z)

-- the publics' names
names-of-items : (ns : List Namespace) (ls : List Line) → flat_map published_name (map (draft ns) ls) ≡ map (λ l. ident (name_of l)) (filter is_public ls)
names-of-items ns [] = refl
names-of-items ns (constant x n ∷ ls) = names-of-items ns ls
names-of-items ns (commit x n ∷ ls) = names-of-items ns ls
names-of-items ns (inter x e ∷ ls) = names-of-items ns ls
names-of-items ns (published' x s k r ∷ ls) = ap (λ xs. ident x ∷ xs) (names-of-items ns ls)
names-of-items ns (identity s a b ∷ ls) = names-of-items ns ls
names-of-items ns (lookup a b ∷ ls) = names-of-items ns ls
names-of-items ns (bus a b ∷ ls) = names-of-items ns ls

pub names-of-publics : (ns ms : List Namespace) → public_names (map (home ns) ms) ≡ map (λ l. ident (name_of l)) (published_of ms)
names-of-publics ns [] = refl
names-of-publics ns (m ∷ ms) =
    ap (λ xs. xs ++ public_names (map (home ns) ms)) (names-of-items ns m.items)
    ∙ ap (λ xs. map (λ l. ident (name_of l)) (filter is_public m.items) ++ xs) (names-of-publics ns ms)
    ∙ sym (map-append (λ l. ident (name_of l)) (filter is_public m.items) (published_of ms))

mapped-at : {X : Type 0} (f : Line → X) (ls : List Line) (k : ℕ) → k < length ls → slice_get (map f ls) k ≡ Some (f (item_at ls k))
mapped-at f [] k l = absurd (omega arith)
mapped-at f (x ∷ ls) zero l = refl
mapped-at f (x ∷ ls) (suc k) l = mapped-at f ls k (omega arith)

pub public-found : (ns : List Namespace) (k : ℕ) → IsNamed ns → k < length (published_of ns) → found (name_of (item_at (published_of ns) k)) (public_entries (outline ns)) ≡ Some k
public-found ns k h l =
    once-found (public_entries (outline ns)) k (record { name = ident (name_of (item_at (published_of ns) k)); number = 0 + k }) h.publics
    (numbered-at 0 (public_names (map (home ns) ns)) k (ident (name_of (item_at (published_of ns) k))) (ap (λ xs. slice_get xs k) (names-of-publics ns ns) ∙ mapped-at (λ l. ident (name_of l)) (published_of ns) k l))
    ∙ ap Some (let z : 0 + k ≡ k = omega arith in z)

-- an item that declares a polynomial
abbrev pub IsPolynomial : Line → Type 0
IsPolynomial (constant x n) = Unit {0}
IsPolynomial (commit x n) = Unit {0}
IsPolynomial (inter x e) = Unit {0}
IsPolynomial _ = ⊥

record StandsAt (es : List Entry) (x : List ℕ) (n : ℕ) : Type 0 where
  place : ℕ
  at : slice_get es place ≡ Some (let e : Entry = record { name = ident x; number = n } in e)

stands-here : (y : List ℕ) (k : ℕ) (es : List Entry) → StandsAt ((let e : Entry = record { name = ident y; number = k } in e) ∷ es) y k
stands-here y k es = record { place = 0; at = refl }

stands-later : (e : Entry) (es : List Entry) (x : List ℕ) (n : ℕ) → StandsAt es x n → StandsAt (e ∷ es) x n
stands-later e es x n h = record { place = suc h.place; at = h.at }

later : (ns : List Namespace) (n : ℕ) (ls : List Line) (j : ℕ) → StandsAt (polynomials_from (n + 1) (map (draft ns) ls)) (name_of (item_at ls j)) (n + 1 + j) → StandsAt (polynomials_from (n + 1) (map (draft ns) ls)) (name_of (item_at ls j)) (n + suc j)
later ns n ls j h = subst (StandsAt (polynomials_from (n + 1) (map (draft ns) ls)) (name_of (item_at ls j))) (let z : n + 1 + j ≡ n + suc j = omega arith in z) h

polynomial-at : (ns : List Namespace) (n : ℕ) (ls : List Line) (j : ℕ) → j < length ls → IsPolynomial (item_at ls j) → StandsAt (polynomials_from n (map (draft ns) ls)) (name_of (item_at ls j)) (n + j)
polynomial-at ns n [] j l h = absurd (omega arith)
polynomial-at ns n (constant x m ∷ ls) zero l h = subst (StandsAt (polynomials_from n (map (draft ns) (constant x m ∷ ls))) x) (let z : n ≡ n + 0 = omega arith in z) (stands-here x n _)
polynomial-at ns n (commit x m ∷ ls) zero l h = subst (StandsAt (polynomials_from n (map (draft ns) (commit x m ∷ ls))) x) (let z : n ≡ n + 0 = omega arith in z) (stands-here x n _)
polynomial-at ns n (inter x e ∷ ls) zero l h = subst (StandsAt (polynomials_from n (map (draft ns) (inter x e ∷ ls))) x) (let z : n ≡ n + 0 = omega arith in z) (stands-here x n _)
polynomial-at ns n (published' x s k r ∷ ls) zero l h = absurd h
polynomial-at ns n (identity s a b ∷ ls) zero l h = absurd h
polynomial-at ns n (lookup a b ∷ ls) zero l h = absurd h
polynomial-at ns n (bus a b ∷ ls) zero l h = absurd h
polynomial-at ns n (constant x m ∷ ls) (suc j) l h = stands-later _ _ _ (n + suc j) (later ns n ls j (polynomial-at ns (n + 1) ls j (omega arith) h))
polynomial-at ns n (commit x m ∷ ls) (suc j) l h = stands-later _ _ _ (n + suc j) (later ns n ls j (polynomial-at ns (n + 1) ls j (omega arith) h))
polynomial-at ns n (inter x e ∷ ls) (suc j) l h = stands-later _ _ _ (n + suc j) (later ns n ls j (polynomial-at ns (n + 1) ls j (omega arith) h))
polynomial-at ns n (published' x s k r ∷ ls) (suc j) l h = later ns n ls j (polynomial-at ns (n + 1) ls j (omega arith) h)
polynomial-at ns n (identity s a b ∷ ls) (suc j) l h = later ns n ls j (polynomial-at ns (n + 1) ls j (omega arith) h)
polynomial-at ns n (lookup a b ∷ ls) (suc j) l h = later ns n ls j (polynomial-at ns (n + 1) ls j (omega arith) h)
polynomial-at ns n (bus a b ∷ ls) (suc j) l h = later ns n ls j (polynomial-at ns (n + 1) ls j (omega arith) h)

pub polynomial-found : (ns : List Namespace) (s j : ℕ) → IsNamed ns → s < length ns → j < length (space_at ns s).items → IsPolynomial (item_at (space_at ns s).items j) → found (name_of (item_at (space_at ns s).items j)) (polynomials_from 0 (map (draft ns) (space_at ns s).items)) ≡ Some j
polynomial-found ns s j h l within is =
    let w = polynomial-at ns 0 (space_at ns s).items j within is in
    once-found (polynomials_from 0 (map (draft ns) (space_at ns s).items)) w.place (record { name = ident (name_of (item_at (space_at ns s).items j)); number = 0 + j }) (h.polynomials s l) w.at
    ∙ ap Some (let z : 0 + j ≡ j = omega arith in z)

-- the columns that come before an item's
constants-taken : (ns : List Namespace) (ls : List Line) (j : ℕ) → sum_by constant_columns (take j (map (draft ns) ls)) ≡ sum_by columns_of (filter is_constant (take j ls))
constants-taken ns [] zero = refl
constants-taken ns [] (suc j) = refl
constants-taken ns (l ∷ ls) zero = refl
constants-taken ns (constant x None ∷ ls) (suc j) = omega (arith, sum_by-cons constant_columns (draft ns (constant x None)) (take j (map (draft ns) ls)), sum_by-cons columns_of (constant x None) (filter is_constant (take j ls)), constants-taken ns ls j)
constants-taken ns (constant x (Some n) ∷ ls) (suc j) = omega (arith, sum_by-cons constant_columns (draft ns (constant x (Some n))) (take j (map (draft ns) ls)), sum_by-cons columns_of (constant x (Some n)) (filter is_constant (take j ls)), constants-taken ns ls j)
constants-taken ns (commit x n ∷ ls) (suc j) = omega (arith, sum_by-cons constant_columns (draft ns (commit x n)) (take j (map (draft ns) ls)), constants-taken ns ls j)
constants-taken ns (inter x e ∷ ls) (suc j) = omega (arith, sum_by-cons constant_columns (draft ns (inter x e)) (take j (map (draft ns) ls)), constants-taken ns ls j)
constants-taken ns (published' x s k r ∷ ls) (suc j) = omega (arith, sum_by-cons constant_columns (draft ns (published' x s k r)) (take j (map (draft ns) ls)), constants-taken ns ls j)
constants-taken ns (identity s a b ∷ ls) (suc j) = omega (arith, sum_by-cons constant_columns (draft ns (identity s a b)) (take j (map (draft ns) ls)), constants-taken ns ls j)
constants-taken ns (lookup a b ∷ ls) (suc j) = omega (arith, sum_by-cons constant_columns (draft ns (lookup a b)) (take j (map (draft ns) ls)), constants-taken ns ls j)
constants-taken ns (bus a b ∷ ls) (suc j) = omega (arith, sum_by-cons constant_columns (draft ns (bus a b)) (take j (map (draft ns) ls)), constants-taken ns ls j)

commits-taken : (ns : List Namespace) (ls : List Line) (j : ℕ) → sum_by committed_columns (take j (map (draft ns) ls)) ≡ sum_by columns_of (filter is_commit (take j ls))
commits-taken ns [] zero = refl
commits-taken ns [] (suc j) = refl
commits-taken ns (l ∷ ls) zero = refl
commits-taken ns (commit x None ∷ ls) (suc j) = omega (arith, sum_by-cons committed_columns (draft ns (commit x None)) (take j (map (draft ns) ls)), sum_by-cons columns_of (commit x None) (filter is_commit (take j ls)), commits-taken ns ls j)
commits-taken ns (commit x (Some n) ∷ ls) (suc j) = omega (arith, sum_by-cons committed_columns (draft ns (commit x (Some n))) (take j (map (draft ns) ls)), sum_by-cons columns_of (commit x (Some n)) (filter is_commit (take j ls)), commits-taken ns ls j)
commits-taken ns (constant x n ∷ ls) (suc j) = omega (arith, sum_by-cons committed_columns (draft ns (constant x n)) (take j (map (draft ns) ls)), commits-taken ns ls j)
commits-taken ns (inter x e ∷ ls) (suc j) = omega (arith, sum_by-cons committed_columns (draft ns (inter x e)) (take j (map (draft ns) ls)), commits-taken ns ls j)
commits-taken ns (published' x s k r ∷ ls) (suc j) = omega (arith, sum_by-cons committed_columns (draft ns (published' x s k r)) (take j (map (draft ns) ls)), commits-taken ns ls j)
commits-taken ns (identity s a b ∷ ls) (suc j) = omega (arith, sum_by-cons committed_columns (draft ns (identity s a b)) (take j (map (draft ns) ls)), commits-taken ns ls j)
commits-taken ns (lookup a b ∷ ls) (suc j) = omega (arith, sum_by-cons committed_columns (draft ns (lookup a b)) (take j (map (draft ns) ls)), commits-taken ns ls j)
commits-taken ns (bus a b ∷ ls) (suc j) = omega (arith, sum_by-cons committed_columns (draft ns (bus a b)) (take j (map (draft ns) ls)), commits-taken ns ls j)

constants-all : (ns : List Namespace) (ls : List Line) → sum_by constant_columns (map (draft ns) ls) ≡ sum_by columns_of (filter is_constant ls)
constants-all ns ls = ap (sum_by constant_columns) (sym (take_all (length ls) (map (draft ns) ls) (omega (arith, length-map ls (draft ns))))) ∙ (constants-taken ns ls (length ls) ∙ ap (λ xs. sum_by columns_of (filter is_constant xs)) (take_all (length ls) ls (omega arith)))

-- where a column's item stands among those of its kind
pub record IsAt (p : Line → Bool) (ls : List Line) (k : ℕ) (spot : Spot) : Type 0 where
  pub place : ℕ
  pub within : place < length ls
  pub item : item_at ls place ≡ spot.item
  pub kind : p spot.item ≡ true
  pub start : sum_by columns_of (filter p (take place ls)) + spot.index ≡ k
  pub index : spot.index < columns_of spot.item

filter-true : (p : Line → Bool) (l : Line) (xs : List Line) → p l ≡ true → filter p (l ∷ xs) ≡ l ∷ filter p xs
filter-true p l xs e = ap (λ b. cond b (l ∷ filter p xs) (filter p xs)) e

filter-false : (p : Line → Bool) (l : Line) (xs : List Line) → p l ≡ false → filter p (l ∷ xs) ≡ filter p xs
filter-false p l xs e = ap (λ b. cond b (l ∷ filter p xs) (filter p xs)) e

later-at : (p : Line → Bool) (l : Line) (ls : List Line) (k j add : ℕ) (spot : Spot) → IsAt p ls j spot → ((xs : List Line) → sum_by columns_of (filter p (l ∷ xs)) ≡ add + sum_by columns_of (filter p xs)) → add + j ≡ k → IsAt p (l ∷ ls) k spot
later-at p l ls k j add spot at f sum =
    record { place = suc at.place; within = omega (arith, at.within); item = at.item; kind = at.kind; start = omega (arith, f (take at.place ls), at.start); index = at.index }

spot-kind : (p : Line → Bool) (ls rest : List Line) (k : ℕ) → k < sum_by columns_of (filter p ls) → IsAt p ls k (spot_in (filter p ls ++ rest) k)
spot-kind p [] rest k h = absurd (omega arith)
spot-kind p (l ∷ ls) rest k h = choose (spot-kind p ls rest) (p l) refl
  where
    counted : p l ≡ true → (xs : List Line) → sum_by columns_of (filter p (l ∷ xs)) ≡ columns_of l + sum_by columns_of (filter p xs)
    counted e xs = ap (sum_by columns_of) (filter-true p l xs e) ∙ sum_by-cons columns_of l (filter p xs)

    passed : p l ≡ false → (xs : List Line) → sum_by columns_of (filter p (l ∷ xs)) ≡ 0 + sum_by columns_of (filter p xs)
    passed e xs = omega (arith, ap (sum_by columns_of) (filter-false p l xs e))

    choose : ((j : ℕ) → j < sum_by columns_of (filter p ls) → IsAt p ls j (spot_in (filter p ls ++ rest) j)) → (b : Bool) → p l ≡ b → IsAt p (l ∷ ls) k (spot_in (filter p (l ∷ ls) ++ rest) k)
    choose again true e = subst (λ xs. IsAt p (l ∷ ls) k (spot_in (xs ++ rest) k)) (sym (filter-true p l ls e)) (elim (cases_lt k (columns_of l)) [
      | inl lt ↦ subst (IsAt p (l ∷ ls) k) (sym (spot-here l (filter p ls ++ rest) k lt)) (record { place = 0; within = omega arith; item = refl; kind = e; start = omega arith; index = lt })
      | inr ge ↦ subst (IsAt p (l ∷ ls) k) (sym (spot-past l (filter p ls ++ rest) k ge)) (later-at p l ls k (k - columns_of l) (columns_of l) _ (again (k - columns_of l) (omega (arith, counted e ls))) (counted e) (omega arith))
    ])
    choose again false e = subst (λ xs. IsAt p (l ∷ ls) k (spot_in (xs ++ rest) k)) (sym (filter-false p l ls e)) (later-at p l ls k k 0 _ (again k (omega (arith, passed e ls))) (passed e) (omega arith))

spot-skip : (xs rest : List Line) (k : ℕ) → sum_by columns_of xs ≤ k → spot_in (xs ++ rest) k ≡ spot_in rest (k - sum_by columns_of xs)
spot-skip [] rest k h = ap (spot_in rest) (let z : k ≡ k - 0 = omega arith in z)
spot-skip (x ∷ xs) rest k h =
    spot-past x (xs ++ rest) k (omega (arith, sum_by-cons columns_of x xs))
    ∙ (spot-skip xs rest (k - columns_of x) (omega (arith, sum_by-cons columns_of x xs)) ∙ ap (spot_in rest) (let z : k - columns_of x - sum_by columns_of xs ≡ k - sum_by columns_of (x ∷ xs) = omega (arith, sum_by-cons columns_of x xs) in z))

-- the item of a column, which is constant or committed
pub column-place : (ls : List Line) (k : ℕ) → k < width ls → IsAt is_constant ls k (spot_in (declared ls) k) ⊎ ((sum_by columns_of (filter is_constant ls) ≤ k) × IsAt is_commit ls (k - sum_by columns_of (filter is_constant ls)) (spot_in (declared ls) k))
column-place ls k h = elim (cases_lt k (sum_by columns_of (filter is_constant ls))) [
  | inl lt ↦ inl (spot-kind is_constant ls (filter is_commit ls) k lt)
  | inr ge ↦ inr (
    ge,
    subst (IsAt is_commit ls (k - sum_by columns_of (filter is_constant ls))) (sym (spot-skip (filter is_constant ls) (filter is_commit ls) k ge ∙ ap (λ xs. spot_in xs (k - sum_by columns_of (filter is_constant ls))) (sym (append-nil (filter is_commit ls)))))
        (spot-kind is_commit ls [] (k - sum_by columns_of (filter is_constant ls)) (omega (arith, width-parts ls))),
  )
]

pub start-constant : (ns : List Namespace) (ls : List Line) (j : ℕ) → start_of_kind Constant (map (draft ns) ls) j ≡ sum_by columns_of (filter is_constant (take j ls))
start-constant ns ls j = constants-taken ns ls j

pub start-commit : (ns : List Namespace) (ls : List Line) (j : ℕ) → start_of_kind Commit (map (draft ns) ls) j ≡ sum_by columns_of (filter is_constant ls) + sum_by columns_of (filter is_commit (take j ls))
start-commit ns ls j = omega (arith, constants-all ns ls, commits-taken ns ls j)
