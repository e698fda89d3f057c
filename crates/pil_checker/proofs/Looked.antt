-- What a pass says, in the words of a plan.
use Rattle.std.proofs.Common.{ℕ, ◌<◌, ◌≡◌, List, ◌++◌, Option, length, get_or, take, drop, sym, ◌∙◌, ap, subst, arith, MatchOption}
use Rattle.std.specs.declared.result.Result.{Result}
use Rattle.std.specs.declared.result.Result.TheVariants.{Ok, Err}
use Rattle.std.specs.Result.{OnOk}
use Rattle.std.proofs.Math.Seq.{take-append_seam}
use Rattle.pil_ast.specs.Term.{Namespace, space_at, width}
use Rattle.pil_ast.specs.Columns.{Columns}
use Rattle.pil_program.specs.declared.nodes.Node.{Node}
use Rattle.pil_program.specs.declared.compiling.Program.{Program}
use Rattle.pil_program.specs.Program.{IsProgram}
use Rattle.instance_pass.specs.declared.checks.Check.{Check}
use Rattle.instance_pass.specs.declared.parts.Part.{Part}
use Rattle.instance_pass.specs.declared.passes.Found.{Found}
use Rattle.instance_pass.specs.Passes.{AllMet, FailsLeast, Says, IsSameInstance, AreChecksOf, AreTabled, TakesRows, AtEach}
use Rattle.pil_checker.specs.Programs.{nodes_at, ArePrograms}
use Rattle.pil_checker.proofs.Elements.{read-found}
use Rattle.pil_checker.proofs.Grown.{nodes-found}

pub program-nodes : (ns : List Namespace) (programs : List Program) (s : ℕ) (p : Program) (nodes : List Node) → ArePrograms ns programs → s < length ns → p ≡ get_or programs s p → nodes ≡ p.nodes → nodes_at programs s ≡ nodes
program-nodes ns programs s p nodes are l at e = nodes-found programs s p (read-found programs s p (let a = are.long in omega arith) at) ∙ sym e

pub program-steps : (ns : List Namespace) (programs : List Program) (s : ℕ) (p : Program) (nodes : List Node) (w : ℕ) → ArePrograms ns programs → s < length ns → p ≡ get_or programs s p → nodes ≡ p.nodes → w ≡ width (space_at ns s).items → IsProgram w nodes
program-steps ns programs s p nodes w are l at e f =
    subst (λ w. IsProgram w nodes) (sym f) (subst (IsProgram (width (space_at ns s).items)) (sym e) (are.each s p (read-found programs s p (let a = are.long in omega arith) at)).steps)

-- what a pass finds
abbrev pub Finds : List Namespace → Columns → ℕ → ℕ → ℕ → ℕ → Option Found → Type 0
Finds ns c s i limit rows found = MatchOption found (AllMet (Says ns c s i) limit rows) (λ f. FailsLeast (Says ns c s i) limit rows f.check f.row)

pub moved-found : (ns : List Namespace) (d : Columns) (s i : ℕ) (found : Option Found) (nodes_of : ℕ → List Node) (nodes : List Node) (checks checks' : List Check) (tables tables' : List (List (List ℕ))) (limit limit' rows rows' : ℕ)
    → nodes_of s ≡ nodes → checks' ≡ checks → tables' ≡ tables → limit' ≡ limit → rows' ≡ rows → AreChecksOf ns nodes_of (length tables) checks
    → ((ns : List Namespace) (c : Columns) (nodes_of : ℕ → List Node) → IsSameInstance d c s i → nodes_of s ≡ nodes → AreChecksOf ns nodes_of (length tables') checks' → AreTabled ns c tables' checks' → Finds ns c s i limit' rows' found)
    → (c : Columns) → IsSameInstance d c s i → AreTabled ns c tables checks → Finds ns c s i limit rows found
moved-found ns d s i found nodes_of nodes checks checks' tables tables' limit limit' rows rows' en ec et el er are h c same tabled =
    subst (λ m. Finds ns c s i m rows found) el
    (subst (λ m. Finds ns c s i limit' m found) er
    (h ns c nodes_of same en
    (subst (λ ts. AreChecksOf ns nodes_of (length ts) checks') (sym et) (subst (AreChecksOf ns nodes_of (length tables)) (sym ec) are))
    (subst (λ ts. AreTabled ns c ts checks') (sym et) (subst (AreTabled ns c tables) (sym ec) tabled))))

-- the vector after its elements were lent as a slice
pub lent-back : {X : Type 0} (n : ℕ) (old new : List X) → length new ≡ n → take n (new ++ drop (length new) old) ≡ new
lent-back n old new e = ap (λ k. take k (new ++ drop (length new) old)) (sym e) ∙ take-append_seam new (drop (length new) old)

pub moved-parts : (ns : List Namespace) (d : Columns) (s i rows rows' : ℕ) (nodes nodes' : List Node) (old old' new new' : List Part) → rows' ≡ rows → nodes ≡ nodes' → old' ≡ old → (length new' ≡ length old' → new ≡ new')
    → ((ns : List Namespace) (c : Columns) → IsSameInstance d c s i → AtEach (TakesRows ns c s i rows' nodes') old' new') → (c : Columns) → IsSameInstance d c s i → AtEach (TakesRows ns c s i rows nodes) old new
moved-parts ns d s i rows rows' nodes nodes' old old' new new' er en eo ew h c same =
    let w : AtEach (TakesRows ns c s i rows' nodes') old' new' = h ns c same in
    subst (λ xs. AtEach (TakesRows ns c s i rows nodes) old xs) (sym (ew w.long))
    (subst (λ xs. AtEach (TakesRows ns c s i rows nodes) xs new') eo (subst (λ ns'. AtEach (TakesRows ns c s i rows ns') old' new') (sym en) (subst (λ m. AtEach (TakesRows ns c s i m nodes') old' new') er w)))

pub ok-more : {X E : Type 0} (r : Result X E) (P Q : Type 0) → (P → Q) → OnOk r P → OnOk r Q
ok-more (Ok x) P Q f h = f h
ok-more (Err e) P Q f h = tt
