-- What is found at a place.
use Rattle.std.proofs.Common.{ℕ, Bool, true, false, zero, suc, ◌≡◌, ◌<◌, ◌≤◌, ◌+◌, ◌-◌, List, [], ◌∷◌, ◌++◌, All, length, refl, sym, ap, subst, ◌∙◌, arith}
use Rattle.std.specs.Prelude.{◌==◌, if◌then◌else◌, slice_index_or}
use Rattle.std.proofs.lemmas.Bool.{eqb-true}
use Rattle.pil_ast.specs.Term.{space_at}
use Rattle.machine_text.specs.Machine.{machine}
use Rattle.whole_columns.specs.Whole.{AreWhole, Framed, IsFramed, Held, IsHeld, columns_at, values_of_frame}

-- only the frame's namespace has an instance
pub same_space : (s t n i : ℕ) → i < (if s == t then n else 0) → s ≡ t
same_space s t n i h = by (s == t) refl h
  where
    by : (b : Bool) → (s == t) ≡ b → i < (if b then n else 0) → s ≡ t
    by true e l = eqb-true s t e
    by false e l = absurd (omega arith)

pub framed_seen : (f seen : Framed) → f ≡ seen → IsFramed f → IsFramed seen
framed_seen f seen e h = subst IsFramed e h

-- the columns of an instance that the frame has
pub framed_at : (f : Framed) (s i : ℕ) → IsFramed f → i < (values_of_frame f).instances s → AreWhole (space_at (machine f.profile) s) f.columns
framed_at f s i h l = subst (λ t. AreWhole (space_at (machine f.profile) t) f.columns) (sym (same_space s f.space (f.instance + 1) i l)) h.columns

pub held_at : (f seen : Held) (s i : ℕ) → f ≡ seen → IsHeld f → i < length (slice_index_or seen.spaces s []) → AreWhole (space_at (machine seen.profile) s) (columns_at seen s i)
held_at f seen s i e h l = (subst IsHeld e h).columns s i l

-- an element behind the first list's
behind : (xs ys : List (List ℕ)) (k : ℕ) (d : List ℕ) → length xs ≤ k → slice_index_or (xs ++ ys) k d ≡ slice_index_or ys (k - length xs) d
behind [] ys k d h = ap (λ n. slice_index_or ys n d) (none k)
  where
    none : (k : ℕ) → k ≡ k - 0
    none k = omega arith
behind (x ∷ xs) ys zero d h = absurd (omega arith)
behind (x ∷ xs) ys (suc k) d h = behind xs ys k d (omega arith) ∙ ap (λ n. slice_index_or ys n d) (less (length xs) k)
  where
    less : (n k : ℕ) → k - n ≡ suc k - suc n
    less n k = omega arith

pub behind_high : (xs ys : List (List ℕ)) (k high : ℕ) (x : List ℕ) → All (λ c. length c ≡ high) (xs ++ ys) → k < length (xs ++ ys) → length xs ≤ k → length (slice_index_or ys (k - length xs) x) ≡ high
behind_high xs ys k high x h l past = subst (λ c. length c ≡ high) (behind xs ys k x past) (h k x l)

-- ---- an instance among those that are held

same_default : {X : Type 0} (xs : List X) (k : ℕ) (d e : X) → k < length xs → slice_index_or xs k d ≡ slice_index_or xs k e
same_default [] k d e h = absurd (omega arith)
same_default (x ∷ xs) zero d e h = refl
same_default (x ∷ xs) (suc k) d e h = same_default xs k d e (omega arith)

inside : {X : Type 0} (xs : List (List X)) (s i : ℕ) → i < length (slice_index_or xs s []) → s < length xs
inside [] s i h = absurd (omega arith)
inside (x ∷ xs) zero i h = omega arith
inside (x ∷ xs) (suc s) i h = let l = inside xs s i h in omega arith

pub held_is : (h : Held) (s i : ℕ) (spaces : List (List (List (List ℕ)))) (instances these : List (List (List ℕ))) (columns : List (List ℕ))
    → spaces ≡ h.spaces → instances ≡ slice_index_or spaces s instances → these ≡ instances → columns ≡ slice_index_or these i columns
    → i < length (slice_index_or h.spaces s []) → columns_at h s i ≡ columns
held_is h s i spaces instances these columns a b c d l =
    let known : slice_index_or h.spaces s [] ≡ these = same_default h.spaces s [] instances (inside h.spaces s i l) ∙ ap (λ z. slice_index_or z s instances) (sym a) ∙ sym b ∙ sym c in
    ap (λ z. slice_index_or z i []) known ∙ same_default these i [] columns (subst (λ z. i < length z) known l) ∙ sym d
