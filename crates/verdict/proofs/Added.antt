-- What adding instances to a checker leaves.
use Rattle.std.proofs.Common.{ℕ, zero, suc, ◌≡◌, ◌≢◌, ◌<◌, ◌≤◌, ◌+◌, ◌⊎◌, List, length, refl, sym, ap, subst, ◌∙◌, ⊎_elim, arith}
use Rattle.std.specs.Prelude.{slice_index, slice_set}
use Rattle.std.proofs.lemmas.Bool.{cases_lt}
use Rattle.std.proofs.lemmas.List.{get_or-set_same, get_or-set_other}
use Rattle.pil_ast.specs.Term.{Namespace}
use Rattle.pil_ast.specs.Columns.{Columns}
use Rattle.instance_pass.specs.Passes.{IsSameInstance}
use Rattle.pil_checker.specs.declared.checker.Checker.{Checker}
use Rattle.pil_checker.specs.Standing.{IsBuilt, StandsFor, added}

-- the first n instances of the namespace s were added
pub record Instances (ns : List Namespace) (d : Columns) (s n : ℕ) (old new : Checker) : Type 0 where
  pub built : IsBuilt ns new
  pub here : added new s ≡ n
  pub others : (t : ℕ) → t ≢ s → added new t ≡ added old t
  pub stands : (c : Columns) → StandsFor ns c old → ((i : ℕ) → i < d.instances s → IsSameInstance d c s i) → StandsFor ns c new

-- all instances of the first n namespaces were added
pub record Spaces (ns : List Namespace) (d : Columns) (n : ℕ) (old new : Checker) : Type 0 where
  pub built : IsBuilt ns new
  pub here : (s : ℕ) → s < n → added new s ≡ d.instances s
  pub others : (s : ℕ) → n ≤ s → added new s ≡ 0
  pub stands : (c : Columns) → StandsFor ns c old → ((s i : ℕ) → s < n → i < d.instances s → IsSameInstance d c s i) → StandsFor ns c new

-- a checker of whose namespace s one more instance was added
pub record OneMore (ns : List Namespace) (d : Columns) (s i : ℕ) (old new : Checker) : Type 0 where
  pub built : IsBuilt ns new
  pub counts : new.counts.items ≡ slice_set old.counts.items s (i + 1)
  pub stands : (c : Columns) → StandsFor ns c old → IsSameInstance d c s i → StandsFor ns c new

pub added_here : (ns : List Namespace) (s i : ℕ) (old new : Checker) → IsBuilt ns old → s < length ns → new.counts.items ≡ slice_set old.counts.items s (i + 1) → added new s ≡ i + 1
added_here ns s i old new b l e = ap (λ xs. slice_index xs s) e ∙ get_or-set_same old.counts.items s (i + 1) 0 (subst (λ n. s < n) (sym b.counts) l)

pub added_other : (s i t : ℕ) (old new : Checker) → t ≢ s → new.counts.items ≡ slice_set old.counts.items s (i + 1) → added new t ≡ added old t
added_other s i t old new h e = ap (λ xs. slice_index xs t) e ∙ get_or-set_other old.counts.items s t (i + 1) 0 h

pub instance_more : (ns : List Namespace) (d : Columns) (s i : ℕ) (first old new : Checker) → s < length ns → i < d.instances s → Instances ns d s i first old → OneMore ns d s i old new → Instances ns d s (i + 1) first new
instance_more ns d s i first old new l m h o = record {
  built = o.built;
  here = added_here ns s i old new h.built l o.counts;
  others = λ t q. added_other s i t old new q o.counts ∙ h.others t q;
  stands = λ c a same. o.stands c (h.stands c a same) (same i m);
}

pub space_more : (ns : List Namespace) (d : Columns) (n : ℕ) (first old new : Checker) → Spaces ns d n first old → Instances ns d n (d.instances n) old new → Spaces ns d (n + 1) first new
space_more ns d n first old new h o = record {
  built = o.built;
  here = λ s l. ⊎_elim (λ m. o.others s (λ e. omega arith) ∙ h.here s m) (λ m. same s (omega arith)) (cases_lt s n);
  others = λ s l. o.others s (λ e. omega arith) ∙ h.others s (omega arith);
  stands = λ c a same. o.stands c (h.stands c a (λ s i l m. same s i (omega arith) m)) (λ i m. same n i (omega arith) m);
}
  where
    same : (s : ℕ) → n ≡ s → added new s ≡ d.instances s
    same s e = subst (λ t. added new t ≡ d.instances t) e o.here
