-- The names of a short file are few.
use Rattle.std.proofs.Common.{ℕ, zero, suc, ◌≤◌, List, [], ◌∷◌, length, sum_by, arith, length-append}
use Rattle.std.specs.List.{flat_map}
use Rattle.std.proofs.lemmas.List.Sums.{sum_by-cons}
use Rattle.pil_syntax.specs.Tree.{Sentence, constant_is, namespace_of, columns, intermediate, public_is, identity, lookup, bus}
use Rattle.pil_syntax.specs.Spelling.{tokens_of}
use Rattle.pil_names.specs.Outline.{Draft, column, defined, published, equal, inside, against, Home, constants_of, homes_of, home_at}
use Rattle.pil_names.specs.Finding.{published_name, public_names}
use Rattle.pil_meaning.specs.Given.{ShortIsCountable}
use Rattle.pil_meaning.proofs.Signs.{weight, draft_signs, home_signs, text-signs, one-more}

constants-one : (s : Sentence) → length (constants_of s) ≤ 1
constants-one (constant_is x n) = omega arith
constants-one (namespace_of x n) = omega arith
constants-one (columns k ds) = omega arith
constants-one (intermediate x e) = omega arith
constants-one (public_is x r n) = omega arith
constants-one (identity a b) = omega arith
constants-one (lookup a b) = omega arith
constants-one (bus ls rs) = omega arith

constants-few : (ss : List Sentence) → length (flat_map constants_of ss) ≤ sum_by weight (tokens_of ss)
constants-few [] = omega arith
constants-few (s ∷ ss) = omega (arith, length-append (constants_of s) (flat_map constants_of ss), constants-one s, one-more s ss, constants-few ss)

draft-some : (d : Draft) → 1 ≤ draft_signs d
draft-some (column c d) = omega arith
draft-some (defined x e) = omega arith
draft-some (published x r n) = omega arith
draft-some (equal a b) = omega arith
draft-some (inside a b) = omega arith
draft-some (against ls rs) = omega arith

name-one : (d : Draft) → length (published_name d) ≤ 1
name-one (column c d) = omega arith
name-one (defined x e) = omega arith
name-one (published x r n) = omega arith
name-one (equal a b) = omega arith
name-one (inside a b) = omega arith
name-one (against ls rs) = omega arith

names-few : (ds : List Draft) → length (flat_map published_name ds) ≤ sum_by draft_signs ds
names-few [] = omega arith
names-few (d ∷ ds) = omega (arith, length-append (published_name d) (flat_map published_name ds), sum_by-cons draft_signs d ds, name-one d, draft-some d, names-few ds)

publics-few : (hs : List Home) → length (public_names hs) ≤ sum_by home_signs hs
publics-few [] = omega arith
publics-few (h ∷ hs) = omega (arith, length-append (flat_map published_name h.items) (public_names hs), sum_by-cons home_signs h hs, names-few h.items, publics-few hs)

homes-few : (hs : List Home) → length hs ≤ sum_by home_signs hs
homes-few [] = omega arith
homes-few (h ∷ hs) = omega (arith, sum_by-cons home_signs h hs, homes-few hs)

drafts-few : (ds : List Draft) → length ds ≤ sum_by draft_signs ds
drafts-few [] = omega arith
drafts-few (d ∷ ds) = omega (arith, sum_by-cons draft_signs d ds, draft-some d, drafts-few ds)

items-few : (hs : List Home) (s : ℕ) → length (home_at hs s).items ≤ sum_by home_signs hs
items-few [] s = omega arith
items-few (h ∷ hs) zero = omega (arith, sum_by-cons home_signs h hs, drafts-few h.items)
items-few (h ∷ hs) (suc s) = omega (arith, sum_by-cons home_signs h hs, items-few hs s)

pub countable : ShortIsCountable
countable ss short = record {
  constants = omega (arith, short, constants-few ss);
  homes = omega (arith, short, text-signs ss, homes-few (homes_of ss));
  publics = omega (arith, short, text-signs ss, publics-few (homes_of ss));
  items = λ s. omega (arith, short, text-signs ss, items-few (homes_of ss) s);
}
