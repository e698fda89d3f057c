-- In a file each list has an expression, and each side of an `is` a list.
use Rattle.std.proofs.Common.{◌≤◌, List, [], ◌∷◌, ◌++◌, length, map, All, Bool, true, arith}
use Rattle.std.proofs.lemmas.List.Elements.{All-nil, All-cons, All-append}
use Rattle.pil_syntax.specs.declared.tree.ColumnKind.{ColumnKind}
use Rattle.pil_syntax.specs.declared.tree.Declaration.{Declaration}
use Rattle.pil_syntax.specs.Tree.{Tuple, Sentence, constant_is, namespace_of, columns, intermediate, public_is, identity, lookup, bus}
use Rattle.pil_syntax.specs.Grammar.{Limits, EachOf, IsTuple, IsWhole, IsSentence, IsFile}
use Rattle.pil_names.specs.Outline.{Draft, column, defined, published, equal, inside, against, drafts_of, items_before, homes_of}
use Rattle.pil_names.specs.Wrongs.{width_of_first}

abbrev pub HasParts : Draft → Type 0
HasParts (inside a b) = 1 ≤ length a.entries
HasParts (against ls rs) = (1 ≤ length ls) × (1 ≤ length rs) × (1 ≤ width_of_first ls)
HasParts _ = Unit {0}

some : {A : Type 0} (P : A → Type 0) (xs : List A) → EachOf P xs → 1 ≤ length xs
some P [] e = absurd e
some P (x ∷ xs) e = omega arith

first-wide : (m : Limits) (ls : List Tuple) → EachOf (IsTuple m) ls → 1 ≤ width_of_first ls
first-wide m [] e = absurd e
first-wide m (l ∷ []) e = some (IsWhole m) l.entries e.entries
first-wide m (l ∷ k ∷ ls) e = some (IsWhole m) l.entries e.0.entries

columns-parts : (k : ColumnKind) (ds : List Declaration) → All HasParts (map (column k) ds)
columns-parts k [] = All-nil HasParts
columns-parts k (d ∷ ds) = All-cons HasParts (column k d) (map (column k) ds) tt (columns-parts k ds)

one : (d : Draft) → HasParts d → All HasParts (d ∷ [])
one d h = All-cons HasParts d [] h (All-nil HasParts)

drafts-parts : (m : Limits) (s : Sentence) → IsSentence m s → All HasParts (drafts_of s)
drafts-parts m (constant_is x n) h = All-nil HasParts
drafts-parts m (namespace_of x n) h = All-nil HasParts
drafts-parts m (columns k ds) h = columns-parts k ds
drafts-parts m (intermediate x e) h = one (defined x e) tt
drafts-parts m (public_is x r n) h = one (published x r n) tt
drafts-parts m (identity a b) h = one (equal a b) tt
drafts-parts m (lookup a b) h = one (inside a b) (some (IsWhole m) a.entries h.0.entries)
drafts-parts m (bus ls rs) h = one (against ls rs) (some (IsTuple m) ls h.0, some (IsTuple m) rs h.1, first-wide m ls h.0)

pub record HaveParts (ss : List Sentence) : Type 0 where
  pub homes : All (λ h. All HasParts h.items) (homes_of ss)
  pub before : All HasParts (items_before ss)

more : (m : Limits) (s : Sentence) (ss : List Sentence) → IsSentence m s → All HasParts (items_before ss) → All HasParts (drafts_of s ++ items_before ss)
more m s ss h a = All-append HasParts (drafts_of s) (items_before ss) (drafts-parts m s h) a

pub file-parts : (m : Limits) (begun : Bool) (ss : List Sentence) → IsFile m begun ss → HaveParts ss
file-parts m begun [] f = record { homes = All-nil (λ h. All HasParts h.items); before = All-nil HasParts }
file-parts m begun (constant_is x n ∷ ss) f = let r = file-parts m begun ss f in record { homes = r.homes; before = r.before }
file-parts m begun (namespace_of x n ∷ ss) f =
    let r = file-parts m true ss f in
    record { homes = All-cons (λ h. All HasParts h.items) (record { name = x; size = n; items = items_before ss }) (homes_of ss) r.before r.homes; before = All-nil HasParts }
file-parts m begun (columns k ds ∷ ss) f = let r = file-parts m begun ss f.2 in record { homes = r.homes; before = more m (columns k ds) ss f.1 r.before }
file-parts m begun (intermediate x e ∷ ss) f = let r = file-parts m begun ss f.2 in record { homes = r.homes; before = more m (intermediate x e) ss f.1 r.before }
file-parts m begun (public_is x c n ∷ ss) f = let r = file-parts m begun ss f.2 in record { homes = r.homes; before = more m (public_is x c n) ss f.1 r.before }
file-parts m begun (identity a b ∷ ss) f = let r = file-parts m begun ss f.2 in record { homes = r.homes; before = more m (identity a b) ss f.1 r.before }
file-parts m begun (lookup a b ∷ ss) f = let r = file-parts m begun ss f.2 in record { homes = r.homes; before = more m (lookup a b) ss f.1 r.before }
file-parts m begun (bus ls rs ∷ ss) f = let r = file-parts m begun ss f.2 in record { homes = r.homes; before = more m (bus ls rs) ss f.1 r.before }
