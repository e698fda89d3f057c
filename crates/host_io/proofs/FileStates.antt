-- The files of the host in memory as lists.
use Rattle.std.proofs.Common.{◌≡◌, ◌<◌, ℕ, zero, suc, List, [], ◌∷◌, ◌++◌, length, set, Some, None, Option, arith, ap, ◌∙◌, sym, get_or, inl, inr}
use Rattle.std.specs.Prelude.{nat_eq, slice_get, Vec, String, string_bytes}
use Rattle.std.specs.declared.alloc.Global.{Global}
use Rattle.std.specs.Option.{option_map}
use Rattle.std.specs.Cmp.Lexicographic.{pointwise, same_text}
use Rattle.std.proofs.lemmas.List.{map-set, map-append}
use Rattle.std.proofs.Math.Seq.{map-set_same}
use mathlib.Core.Path.{fun_ext}
use Rattle.host_io.specs.World.{with_file}
use Rattle.host_io.specs.Memory.{File, contents_of, first_place}
use Rattle.host_io.specs.States.{file_states}
use Rattle.host_io.proofs.FileLists.{split, Further, further, changed_file, added_file, contents-first_place, contents-no_place}

abbrev pub file_state : String Global × Vec ℕ Global → File
file_state f = record { name = string_bytes f.0; bytes = f.1.items }

pub place_bound : (files : List (String Global × Vec ℕ Global)) (name : List ℕ) (i : ℕ) → first_place (file_states files) name ≡ Some i → i < length files
place_bound [] name i e = absurd (cc)
place_bound (f ∷ files) name i e = elim (split (pointwise nat_eq name (string_bytes f.0))) [
  | inl hit ↦ let first : i ≡ 0 = grind (arith, hit, e) in omega (arith, first)
  | inr miss ↦
      let place : Further (first_place (file_states files) name) i = further (first_place (file_states files) name) i (grind (arith, miss, e)) in
      omega (arith, place.next, place_bound files name place.before place.there)
]

place_name : (files : List (String Global × Vec ℕ Global)) (name : List ℕ) (i : ℕ) (d : String Global × Vec ℕ Global) → first_place (file_states files) name ≡ Some i → string_bytes (get_or files i d).0 ≡ name
place_name [] name i d e = absurd (cc)
place_name (f ∷ files) name i d e = elim (split (pointwise nat_eq name (string_bytes f.0))) [
  | inl hit ↦ let first : i ≡ 0 = grind (arith, hit, e) in rw first (sym (same_text name (string_bytes f.0) hit))
  | inr miss ↦
      let place : Further (first_place (file_states files) name) i = further (first_place (file_states files) name) i (grind (arith, miss, e)) in
      rw place.next (place_name files name place.before d place.there)
]

at_place : (files : List (String Global × Vec ℕ Global)) (i : ℕ) (f : String Global × Vec ℕ Global) → i < length files → f ≡ get_or files i f → slice_get (file_states files) i ≡ Some (file_state f)
at_place [] i f h e = absurd (omega arith)
at_place (t ∷ files) zero f h e = ap (λ (x : String Global × Vec ℕ Global). Some (file_state x)) (sym e)
at_place (t ∷ files) (suc i) f h e = at_place files i f (omega arith) e

pub contents-set : (files : List (String Global × Vec ℕ Global)) (name : List ℕ) (i : ℕ) (old new : String Global × Vec ℕ Global) (g : Option (List ℕ) → Option (List ℕ))
    → first_place (file_states files) name ≡ Some i → old ≡ get_or files i old → string_bytes new.0 ≡ string_bytes old.0 → Some new.1.items ≡ g (Some old.1.items)
    → contents_of (file_states (set files i new)) ≡ with_file (contents_of (file_states files)) name g
contents-set files name i old new g place there named value =
    let named_so : string_bytes new.0 ≡ name = named ∙ ap (λ (x : String Global × Vec ℕ Global). string_bytes x.0) there ∙ place_name files name i old place in
    let found : contents_of (file_states files) name ≡ Some old.1.items = contents-first_place (file_states files) name i place ∙ ap (option_map (λ f. f.bytes)) (at_place files i old (place_bound files name i place) there) in
    ap contents_of (map-set file_state files i new)
    ∙ fun_ext (changed_file (file_states files) name i (file_state new) g place named_so (value ∙ ap g (sym found)))

pub contents-push : (files : List (String Global × Vec ℕ Global)) (name : List ℕ) (new : String Global × Vec ℕ Global)
    → first_place (file_states files) name ≡ None → string_bytes new.0 ≡ name → new.1.items ≡ []
    → contents_of (file_states (files ++ new ∷ [])) ≡ with_file (contents_of (file_states files)) name (λ old. Some [])
contents-push files name new place named empty =
    ap contents_of (map-append file_state files (new ∷ []))
    ∙ fun_ext (added_file (file_states files) name (file_state new) place named)
    ∙ ap (λ (bytes : List ℕ). with_file (contents_of (file_states files)) name (λ old. Some bytes)) empty

-- no file has the name
pub contents-none : (files : List (String Global × Vec ℕ Global)) (name : List ℕ) (g : List ℕ → List ℕ) → first_place (file_states files) name ≡ None
    → contents_of (file_states files) ≡ with_file (contents_of (file_states files)) name (option_map g)
contents-none files name g place = fun_ext (λ q. elim (split (pointwise nat_eq q name)) [
  | inl hit ↦
      let there : q ≡ name = same_text q name hit in
      let none : contents_of (file_states files) q ≡ None = ap (contents_of (file_states files)) there ∙ contents-no_place (file_states files) name place in
      grind (arith, hit, none)
  | inr miss ↦ grind (arith, miss)
])

-- a file is replaced by one of the same name and bytes
pub states-set : (files : List (String Global × Vec ℕ Global)) (i : ℕ) (old new : String Global × Vec ℕ Global) → old ≡ get_or files i old → string_bytes new.0 ≡ string_bytes old.0 → new.1.items ≡ old.1.items
    → file_states (set files i new) ≡ file_states files
states-set files i old new there name bytes =
    let same : file_state new ≡ file_state (get_or files i old) = ap (λ (n : List ℕ). record { name = n; bytes = new.1.items }) name ∙ ap (λ (b : List ℕ). record { name = string_bytes old.0; bytes = b }) bytes ∙ ap file_state there in
    map-set_same file_state files i new old same
