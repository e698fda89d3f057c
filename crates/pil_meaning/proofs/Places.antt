-- What stands at each place of a meaning.
use Rattle.std.proofs.Common.{ℕ, zero, suc, ◌≡◌, ◌<◌, ◌+◌, List, [], ◌∷◌, length, map, refl, ap, ◌∙◌, arith, length-append}
use Rattle.std.specs.List.{flat_map}
use Rattle.pil_ast.specs.Term.{Line, Namespace, item_at, space_at, places_of, publics}
use Rattle.pil_names.specs.Outline.{Draft, column, defined, published, equal, inside, against, Home, Outline, home_at, draft_at}
use Rattle.pil_names.specs.Finding.{published_name, public_names}
use Rattle.pil_syntax.specs.declared.tree.ColumnKind.TheVariants.{Constant, Commit}
use Rattle.pil_meaning.specs.Meaning.{read_draft, read_home, read_homes, meaning}
use Rattle.pil_meaning.specs.Standing.{IsReading}

pub length-homes : (o : Outline) (n : ℕ) (hs : List Home) → length (read_homes o n hs) ≡ length hs
length-homes o n [] = refl
length-homes o n (h ∷ hs) = ap suc (length-homes o (n + 1) hs)

pub space_at-homes : (o : Outline) (n : ℕ) (hs : List Home) (s : ℕ) → s < length hs → space_at (read_homes o n hs) s ≡ read_home o (n + s) (home_at hs s)
space_at-homes o n [] s l = absurd (omega arith)
space_at-homes o n (h ∷ hs) zero l = let z : n ≡ n + 0 = omega arith in ap (λ k. read_home o k h) z
space_at-homes o n (h ∷ hs) (suc s) l = let z : n + 1 + s ≡ n + suc s = omega arith in space_at-homes o (n + 1) hs s (omega arith) ∙ ap (λ k. read_home o k (home_at hs s)) z

pub item_at-map : (f : Draft → Line) (ds : List Draft) (k : ℕ) → k < length ds → item_at (map f ds) k ≡ f (draft_at ds k)
item_at-map f [] k l = absurd (omega arith)
item_at-map f (d ∷ ds) zero l = refl
item_at-map f (d ∷ ds) (suc k) l = item_at-map f ds k (omega arith)

places-one : (o : Outline) (s : ℕ) (d : Draft) → length (places_of (read_draft o s d)) ≡ length (published_name d)
places-one o s (column Constant d) = refl
places-one o s (column Commit d) = refl
places-one o s (defined x e) = refl
places-one o s (published x r n) = refl
places-one o s (equal a b) = refl
places-one o s (inside a b) = refl
places-one o s (against ls rs) = refl

places-items : (o : Outline) (s : ℕ) (ds : List Draft) → length (flat_map places_of (map (read_draft o s) ds)) ≡ length (flat_map published_name ds)
places-items o s [] = refl
places-items o s (d ∷ ds) =
    omega (arith, length-append (places_of (read_draft o s d)) (flat_map places_of (map (read_draft o s) ds)), length-append (published_name d) (flat_map published_name ds), places-one o s d, places-items o s ds)

pub places-homes : (o : Outline) (n : ℕ) (hs : List Home) → length (publics (read_homes o n hs)) ≡ length (public_names hs)
places-homes o n [] = refl
places-homes o n (h ∷ hs) =
    omega (arith, length-append (flat_map places_of (map (read_draft o n) h.items)) (publics (read_homes o (n + 1) hs)), length-append (flat_map published_name h.items) (public_names hs), places-items o n h.items, places-homes o (n + 1) hs)

at_home : (o : Outline) (s : ℕ) → s < length o.homes → space_at (meaning o) s ≡ read_home o s (home_at o.homes s)
at_home o s l = let z : 0 + s ≡ s = omega arith in space_at-homes o 0 o.homes s l ∙ ap (λ k. read_home o k (home_at o.homes s)) z

pub reading : (o : Outline) → IsReading o (meaning o)
reading o = record {
  long = length-homes o 0 o.homes;
  items = λ s l. ap (λ (n : Namespace). n.items) (at_home o s l);
  rows = λ s l. ap (λ (n : Namespace). n.rows) (at_home o s l);
  publics = places-homes o 0 o.homes;
}
