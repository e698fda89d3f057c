-- The files of the host in memory, one of them changed or one more.
use Rattle.std.proofs.Common.{◌≡◌, ◌+◌, ℕ, zero, suc, List, [], ◌∷◌, ◌++◌, set, refl, Bool, true, false, Some, None, Option, arith, ◌∙◌, sym, ◌⊎◌, inl, inr}
use Rattle.std.specs.Prelude.{nat_eq, slice_get}
use Rattle.std.specs.Option.{option_map}
use Rattle.std.specs.Cmp.Lexicographic.{pointwise, same_text, other_text}
use Rattle.host_io.specs.World.{with_file}
use Rattle.host_io.specs.Memory.{File, contents_of, first_place}

-- the first file of a name is the one whose bytes count
pub contents-first_place : (files : List File) (name : List ℕ) (i : ℕ) → first_place files name ≡ Some i → contents_of files name ≡ option_map (λ f. f.bytes) (slice_get files i)
contents-first_place [] name i e = grind arith
contents-first_place (f ∷ files) name zero e = grind arith
contents-first_place (f ∷ files) name (suc i) e = let again = contents-first_place files name i in grind (arith, again)

pub contents-no_place : (files : List File) (name : List ℕ) → first_place files name ≡ None → contents_of files name ≡ None
contents-no_place [] name e = refl
contents-no_place (f ∷ files) name e = let again = contents-no_place files name in grind (arith, again)

pub split : (b : Bool) → (true ≡ b) ⊎ (false ≡ b)
split true = inl refl
split false = inr refl

-- a place past the first
pub record Further (o : Option ℕ) (i : ℕ) : Type 0 where
  pub before : ℕ
  pub there : o ≡ Some before
  pub next : i ≡ suc before

pub further : (o : Option ℕ) (i : ℕ) → option_map (λ k. k + 1) o ≡ Some i → Further o i
further None i e = absurd (cc)
further (Some k) i e = record { before = k; there = refl; next = grind (arith, e) }

not_further : (o : Option ℕ) → option_map (λ k. k + 1) o ≡ None → o ≡ None
not_further None e = refl
not_further (Some k) e = absurd (cc)

-- what stands behind the other names where the first file has another name
past_first : (h : File) (rest rest' : List File) (name : List ℕ) (g : Option (List ℕ) → Option (List ℕ)) (q : List ℕ) → false ≡ pointwise nat_eq name h.name
    → contents_of rest' q ≡ with_file (contents_of rest) name g q → contents_of (h ∷ rest') q ≡ with_file (contents_of (h ∷ rest)) name g q
past_first h rest rest' name g q other_name again = elim (split (pointwise nat_eq q h.name)) [
  | inl hit ↦
      let there : q ≡ h.name = same_text q h.name hit in
      elim (split (pointwise nat_eq q name)) [
        | inl both ↦ absurd (other_text name h.name other_name (sym (same_text q name both) ∙ there))
        | inr other ↦ grind (arith, hit, other)
      ]
  | inr miss ↦ grind (arith, miss, again)
]

-- the bytes of a name are changed at its first file
pub changed_file : (files : List File) (name : List ℕ) (i : ℕ) (f : File) (g : Option (List ℕ) → Option (List ℕ)) → first_place files name ≡ Some i → f.name ≡ name → Some f.bytes ≡ g (contents_of files name)
    → (q : List ℕ) → contents_of (set files i f) q ≡ with_file (contents_of files) name g q
changed_file [] name i f g e n v q = absurd (cc)
changed_file (h ∷ files) name i f g e n v q = elim (split (pointwise nat_eq name h.name)) [
  | inl first_one ↦
      let same : name ≡ h.name = same_text name h.name first_one in
      let first : i ≡ 0 = grind (arith, first_one, e) in
      let bytes : Some f.bytes ≡ g (Some h.bytes) = grind (arith, first_one, v) in
      rw first (elim (split (pointwise nat_eq q name)) [
        | inl hit ↦ grind (arith, first_one, same, bytes, n, hit)
        | inr miss ↦ grind (arith, first_one, same, n, miss)
      ])
  | inr later ↦
      let place : Further (first_place files name) i = further (first_place files name) i (grind (arith, later, e)) in
      let value : Some f.bytes ≡ g (contents_of files name) = grind (arith, later, v) in
      rw place.next (past_first h files (set files place.before f) name g q later (changed_file files name place.before f g place.there n value q))
]

-- a file of a new name comes last
pub added_file : (files : List File) (name : List ℕ) (f : File) → first_place files name ≡ None → f.name ≡ name
    → (q : List ℕ) → contents_of (files ++ f ∷ []) q ≡ with_file (contents_of files) name (λ old. Some f.bytes) q
added_file [] name f e n q = grind (arith, n)
added_file (h ∷ files) name f e n q = elim (split (pointwise nat_eq name h.name)) [
  | inl first_one ↦ absurd (grind (arith, first_one, e))
  | inr later ↦ past_first h files (files ++ f ∷ []) name (λ old. Some f.bytes) q later (added_file files name f (not_further (first_place files name) (grind (arith, later, e))) n q)
]
