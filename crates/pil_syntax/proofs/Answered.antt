-- The clauses of an error, from what stopped the reading.
use Rattle.std.proofs.Common.{◌≡◌, ℕ, List, [], ◌∷◌, Ok, Err, refl, sym, subst, ◌∙◌}
use Rattle.pil_token.specs.declared.token.Placed.{Placed}
use Rattle.pil_syntax.specs.declared.tree.SyntaxErr.{SyntaxErr}
use Rattle.pil_syntax.specs.declared.tree.SyntaxErrKind.{SyntaxErrKind}
use Rattle.pil_syntax.specs.declared.tree.SyntaxErrKind.TheVariants.{Unexpected, TooDeep, NoMemory}
use Rattle.pil_syntax.specs.declared.failure.ReadError.{ReadError}
use Rattle.pil_syntax.specs.declared.failure.ReadError.TheVariants as errors
use Rattle.pil_syntax.specs.Tree.{Sentence}
use Rattle.pil_syntax.specs.Grammar.{Limits}
use Rattle.pil_syntax.specs.Refusal.{Reads, Refuses, IsRefused, UnlessMemory}
use Rattle.pil_syntax.specs.State.{between}
use Rattle.pil_syntax.specs.Machine.{run, Fails, refusal_of}
use Rattle.pil_syntax.proofs.Whole.{reads_goes}
use Rattle.pil_syntax.proofs.Unique.{one_refusal, refuses}

unless : (k : SyntaxErrKind) (P : Type 0) → P → UnlessMemory k P
unless Unexpected P p = p
unless TooDeep P p = p
unless NoMemory P p = tt

-- the grammar refuses nothing for want of memory
never : (m : Limits) (front rest : List Placed) (k : SyntaxErrKind) → IsRefused m front rest k → k ≡ NoMemory → ⊥
never m front [] NoMemory r e = r
never m front (t ∷ rest) NoMemory r e = r
never m front rest Unexpected r e = cc
never m front rest TooDeep r e = cc

module _ (m : Limits) (ts : List Placed) (end : ℕ) where
  refused_error : (x : ReadError) → Fails x (run m [] between ts) → UnlessMemory (refusal_of end ts x).kind (Refuses m ts end (refusal_of end ts x))
  refused_error errors.Memory h = tt
  refused_error (errors.Fault f) h = unless f.kind (Refuses m ts end (refusal_of end ts (errors.Fault f))) (refuses m ts end f h)

  no_file_error : (x : ReadError) → Fails x (run m [] between ts) → (ss : List Sentence) → Reads m ts ss → UnlessMemory (refusal_of end ts x).kind ⊥
  no_file_error errors.Memory h ss r = tt
  no_file_error (errors.Fault f) h ss r = let e : Ok ss ≡ Err f = sym (reads_goes m ts ss r) ∙ h in cc

  one_error : (x : ReadError) → Fails x (run m [] between ts) → (e : SyntaxErr) → Refuses m ts end e → UnlessMemory (refusal_of end ts x).kind (refusal_of end ts x ≡ e)
  one_error errors.Memory h e r = tt
  one_error (errors.Fault f) h e r = unless f.kind (refusal_of end ts (errors.Fault f) ≡ e) (one_refusal m ts end (refusal_of end ts (errors.Fault f)) e (refuses m ts end f h) r)

  pub refused : (x : ReadError) (e : SyntaxErr) → Fails x (run m [] between ts) → e ≡ refusal_of end ts x → UnlessMemory e.kind (Refuses m ts end e)
  refused x e h q = subst (λ (y : SyntaxErr). UnlessMemory y.kind (Refuses m ts end y)) (sym q) (refused_error x h)

  pub no_file : (x : ReadError) (e : SyntaxErr) → Fails x (run m [] between ts) → e ≡ refusal_of end ts x → (ss : List Sentence) → Reads m ts ss → UnlessMemory e.kind ⊥
  no_file x e h q ss r = subst (λ (y : SyntaxErr). UnlessMemory y.kind ⊥) (sym q) (no_file_error x h ss r)

  pub first : (x : ReadError) (e : SyntaxErr) → Fails x (run m [] between ts) → e ≡ refusal_of end ts x → (f : SyntaxErr) → Refuses m ts end f → UnlessMemory e.kind (e ≡ f)
  first x e h q f r = subst (λ (y : SyntaxErr). UnlessMemory y.kind (y ≡ f)) (sym q) (one_error x h f r)

  place_error : (x : ReadError) → Fails x (run m [] between ts) → (refusal_of end ts x).kind ≡ NoMemory → (refusal_of end ts x).at ≡ 0
  place_error errors.Memory h e = refl
  place_error (errors.Fault f) h e = let r = refuses m ts end f h in absurd (never m r.front r.rest f.kind r.refused e)

  pub without_place : (x : ReadError) (e : SyntaxErr) → Fails x (run m [] between ts) → e ≡ refusal_of end ts x → e.kind ≡ NoMemory → e.at ≡ 0
  without_place x e h q = subst (λ (y : SyntaxErr). y.kind ≡ NoMemory → y.at ≡ 0) (sym q) (place_error x h)
