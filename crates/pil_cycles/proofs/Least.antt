-- From the verdicts to the answer.
use Rattle.std.proofs.Common.{ℕ, zero, suc, ◌≡◌, ◌<◌, inl, inr, List, [], ◌∷◌, map, length, arith, Bool, true, Option, Some, None, option_map, slice_get, refl, sym, ap, ◌∙◌, rules}
use Rattle.std.proofs.lemmas.List.{length-map}
use Rattle.pil_ast.specs.Term.{Line}
use Rattle.pil_cycles.specs.declared.components.Verdict.{Verdict}
use Rattle.pil_cycles.specs.declared.components.Verdict.TheVariants.{Unknown, Free, Cyclic}
use Rattle.pil_cycles.specs.Cycles.{IsOnCycle, TellCycles}
use Rattle.pil_cycles.specs.Paths.{Path, NamesAt}
use Rattle.pil_cycles.specs.Finish.{IsFinished}
use Rattle.pil_cycles.specs.Users.{Uses, AreUsers}
use Rattle.pil_cycles.specs.Verdicts.{IsCyclic, AreVerdicts, is_cyclic}
use Rattle.pil_cycles.proofs.Paths.{path_mapped, reaches_mapped, path_from, depends_from}
use Rattle.pil_cycles.proofs.Parts.{naming_inside}
use Rattle.pil_cycles.proofs.Paths.{begins}

pub users_inside : (items : List Line) (users : List (List ℕ)) → AreUsers items users → (a b : ℕ) → Uses users a b → a < length users
users_inside items users h a b on = let l = naming_inside items a b ((h.those a b).0 on) in omega (arith, h.long)

pub finished_users : (items : List Line) (users : List (List ℕ)) (order : List ℕ) (n : ℕ) → AreUsers items users → n ≡ length items → IsFinished (NamesAt items) n order → IsFinished (Uses users) (length users) order
finished_users items users order n h same f = record {
  inside = λ j d l. let k = f.inside j d l in omega (arith, h.long);
  all = λ k l. f.all k (omega (arith, h.long));
  covered = λ i p j a v b l m at there to on. reaches_mapped (NamesAt items) (Uses users) (λ x y w. (h.those x y).1 w) b v (f.covered i p j a v b l m at there to ((h.those a b).0 on));
}

-- an item on a cycle is Cyclic
cyclic_one : (items : List Line) (users : List (List ℕ)) (verdicts : List Verdict) → AreUsers items users → AreVerdicts (Uses users) (length users) verdicts → (k : ℕ) → IsOnCycle items k → IsCyclic verdicts k
cyclic_one items users verdicts h v k d =
    let path : Path (Uses users) k k = path_mapped (NamesAt items) (Uses users) (λ x y w. (h.those x y).1 w) k k (path_from items k k d) in
    let fits : k < length users = begins (Uses users) (λ x. x < length users) k k (users_inside items users h) path in
    elim (v.known k fits) as (λ u. IsCyclic verdicts k) [ inl f ↦ absurd (v.right.free k f path) | inr c ↦ c ]

cyclic_of : (v : Option Verdict) → option_map is_cyclic v ≡ Some true → v ≡ Some Cyclic
cyclic_of (Some Cyclic) e = refl
cyclic_of (Some Unknown) e = absurd (grind rules)
cyclic_of (Some Free) e = absurd (grind rules)
cyclic_of None e = absurd (grind rules)

get_map : (vs : List Verdict) (k : ℕ) → slice_get (map is_cyclic vs) k ≡ option_map is_cyclic (slice_get vs k)
get_map [] k = refl
get_map (v ∷ vs) zero = refl
get_map (v ∷ vs) (suc k) = get_map vs k

pub told : (items : List Line) (users : List (List ℕ)) (verdicts : List Verdict) → AreUsers items users → AreVerdicts (Uses users) (length users) verdicts → TellCycles items (map is_cyclic verdicts)
told items users verdicts h v = record {
  long = length-map verdicts is_cyclic ∙ v.long ∙ h.long;
  each = λ k. (
    λ e. depends_from items k k (path_mapped (Uses users) (NamesAt items) (λ x y w. (h.those x y).0 w) k k (v.right.cyclic k (cyclic_of (slice_get verdicts k) (sym (get_map verdicts k) ∙ e)))),
    λ d. get_map verdicts k ∙ ap (option_map is_cyclic) (cyclic_one items users verdicts h v k d),
  );
}
