-- Tokens are a file in one way or refused in one way, and not both.
use Rattle.std.proofs.Common.{◌≡◌, ℕ, ◌-◌, ◌⊎◌, inl, inr, List, [], ◌∷◌, ◌++◌, length, drop, Ok, Err, refl, ap, sym, subst, ◌∙◌, arith, append_assoc, append-nil, length-append}
use Rattle.std.proofs.Math.Seq.{drop-append_seam}
use Rattle.pil_token.specs.declared.token.Placed.{Placed}
use Rattle.pil_syntax.specs.declared.tree.SyntaxErr.{SyntaxErr}
use Rattle.pil_syntax.specs.declared.tree.SyntaxErrKind.{SyntaxErrKind}
use Rattle.pil_syntax.specs.declared.tree.SyntaxErrKind.TheVariants.{Unexpected, TooDeep, NoMemory}
use Rattle.pil_syntax.specs.declared.failure.Fault.{Fault}
use Rattle.pil_syntax.specs.Tree.{Sentence}
use Rattle.pil_syntax.specs.Grammar.{Limits}
use Rattle.pil_syntax.specs.Refusal.{Reads, BeginsWithin, IsRefused, place, Refuses, IsDecided}
use Rattle.pil_syntax.specs.State.{between}
use Rattle.pil_syntax.specs.Machine.{Read, run}
use Rattle.pil_syntax.proofs.SoundFiles.{file_of}
use Rattle.pil_syntax.proofs.Whole.{reads_goes, Faulty, faulty}

-- a refused token begins no file within the limits
not_within : (m : Limits) (front : List Placed) (t : Placed) (rest : List Placed) (k : SyntaxErrKind) → IsRefused m front (t ∷ rest) k → BeginsWithin m (front ++ t ∷ []) → ⊥
not_within m front t rest Unexpected r b = r (m, b)
not_within m front t rest TooDeep r b = r.1 b
not_within m front t rest NoMemory r b = r

not_at_end : (m : Limits) (front : List Placed) (k : SyntaxErrKind) → IsRefused m front [] k → (ss : List Sentence) → Reads m front ss → ⊥
not_at_end m front Unexpected r ss t = r m ss t
not_at_end m front TooDeep r ss t = r
not_at_end m front NoMemory r ss t = r

-- one of two fronts of a list continues the other
fronts : (fs rs gs ss : List Placed) → fs ++ rs ≡ gs ++ ss → ((more : List Placed) × (gs ≡ fs ++ more) × (rs ≡ more ++ ss)) ⊎ ((t : Placed) × (more : List Placed) × (fs ≡ gs ++ t ∷ more) × (ss ≡ t ∷ (more ++ rs)))
fronts [] rs gs ss e = inl (gs, refl, e)
fronts (f ∷ fs) rs [] ss e = inr (f, fs, refl, sym e)
fronts (f ∷ fs) rs (g ∷ gs) ss e =
    let h : f ≡ g = cc in
    let i : fs ++ rs ≡ gs ++ ss = cc in
    elim (fronts fs rs gs ss i) [
      | inl w ↦ inl (w.0, rw (h, w.1) refl, w.2)
      | inr w ↦ inr (w.0, w.1, rw (h, w.2) refl, w.3)
    ]

-- what continues a refused front within the limits is the front
refused_front : (m : Limits) (front rest more after : List Placed) (k : SyntaxErrKind) → IsRefused m front rest k → rest ≡ more ++ after → BeginsWithin m (front ++ more) → more ≡ []
refused_front m front rest [] after k r e b = refl
refused_front m front rest (t ∷ more) after k r e b =
    let s : IsRefused m front (t ∷ (more ++ after)) k = subst (λ (ws : List Placed). IsRefused m front ws k) e r in
    absurd (not_within m front t (more ++ after) k s (more ++ b.0, b.1, subst (λ (ws : List Placed). Reads m ws b.1) (simp append_assoc) b.2))

kinds : (m : Limits) (front rest : List Placed) (j k : SyntaxErrKind) → IsRefused m front rest j → IsRefused m front rest k → j ≡ k
kinds m front rest Unexpected Unexpected r s = refl
kinds m front rest TooDeep TooDeep r s = refl
kinds m front [] Unexpected TooDeep r s = absurd s
kinds m front (t ∷ rest) Unexpected TooDeep r s = absurd (r s.0)
kinds m front [] TooDeep Unexpected r s = absurd r
kinds m front (t ∷ rest) TooDeep Unexpected r s = absurd (s r.0)
kinds m front [] NoMemory k r s = absurd r
kinds m front (t ∷ rest) NoMemory k r s = absurd r
kinds m front [] j NoMemory r s = absurd s
kinds m front (t ∷ rest) j NoMemory r s = absurd s

pub not_both : (m : Limits) (ts : List Placed) (end : ℕ) (ss : List Sentence) (e : SyntaxErr) → Reads m ts ss → Refuses m ts end e → ⊥
not_both m ts end ss f t r =
    let u : Reads m (r.front ++ r.rest) ss = subst (λ (ws : List Placed). Reads m ws ss) r.whole t in
    let e : r.rest ≡ [] = refused_front m r.front r.rest r.rest [] f.kind r.refused (sym (append-nil r.rest)) ([], ss, subst (λ (ws : List Placed). Reads m ws ss) (sym (append-nil (r.front ++ r.rest))) u) in
    not_at_end m r.front f.kind (subst (λ (ws : List Placed). IsRefused m r.front ws f.kind) e r.refused) ss (subst (λ (ws : List Placed). Reads m ws ss) (ap (λ (ws : List Placed). r.front ++ ws) e ∙ append-nil r.front) u)

same_error : (f g : SyntaxErr) → f.kind ≡ g.kind → f.at ≡ g.at → f ≡ g
same_error f g p q = ap (λ (k : SyntaxErrKind). let y : SyntaxErr = record { kind = k; at = f.at } in y) p ∙ ap (λ (n : ℕ). let y : SyntaxErr = record { kind = g.kind; at = n } in y) q

same_from : (m : Limits) (ts : List Placed) (end : ℕ) (f g : SyntaxErr) (r : Refuses m ts end f) (s : Refuses m ts end g) → r.front ≡ s.front → r.rest ≡ s.rest → f ≡ g
same_from m ts end f g r s e d =
    let k : IsRefused m s.front s.rest f.kind = subst (λ (ws : List Placed). IsRefused m s.front ws f.kind) d (subst (λ (ws : List Placed). IsRefused m ws r.rest f.kind) e r.refused) in
    same_error f g (kinds m s.front s.rest f.kind g.kind k s.refused) (r.at ∙ (ap (λ (ws : List Placed). place end ws) d ∙ sym s.at))

pub one_refusal : (m : Limits) (ts : List Placed) (end : ℕ) (f g : SyntaxErr) → Refuses m ts end f → Refuses m ts end g → f ≡ g
one_refusal m ts end f g r s = elim (fronts r.front r.rest s.front s.rest (sym r.whole ∙ s.whole)) [
  | inl w ↦ (
      let e : w.0 ≡ [] = refused_front m r.front r.rest w.0 s.rest f.kind r.refused w.2 (subst (λ (ws : List Placed). BeginsWithin m ws) w.1 s.begun) in
      same_from m ts end f g r s (sym (w.1 ∙ (ap (λ (ws : List Placed). r.front ++ ws) e ∙ append-nil r.front))) (w.2 ∙ ap (λ (ws : List Placed). ws ++ s.rest) e))
  | inr w ↦ (
      let e : w.0 ∷ w.1 ≡ [] = refused_front m s.front s.rest (w.0 ∷ w.1) r.rest g.kind s.refused w.3 (subst (λ (ws : List Placed). BeginsWithin m ws) w.2 r.begun) in
      cc)
]

pub one_file : (m : Limits) (ts : List Placed) (a b : List Sentence) → Reads m ts a → Reads m ts b → a ≡ b
one_file m ts a b r s = let e : Ok a ≡ Ok b = sym (reads_goes m ts a r) ∙ reads_goes m ts b s in cc

-- the tokens of which so many are left
abbrev pub left_of : List Placed → ℕ → List Placed
left_of ts n = drop (length ts - n) ts

left_rest : (ts front rest : List Placed) (n : ℕ) → ts ≡ front ++ rest → n ≡ length rest → left_of ts n ≡ rest
left_rest ts front rest n e l =
    let h : length ts - n ≡ length front = omega (arith, ap length e, length-append front rest, l) in
    ap (λ (k : ℕ). drop k ts) h ∙ (ap (λ (us : List Placed). drop (length front) us) e ∙ drop-append_seam front rest)

abbrev pub error_of : ℕ → List Placed → Fault → SyntaxErr
error_of end ts f = record { kind = f.kind; at = place end (left_of ts f.left) }

pub refuses : (m : Limits) (ts : List Placed) (end : ℕ) (f : Fault) → run m [] between ts ≡ Err f → Refuses m ts end (error_of end ts f)
refuses m ts end f e =
    let p : Faulty m ts f = faulty m ts f e in
    record { front = p.front; rest = p.rest; whole = p.whole; at = ap (λ (us : List Placed). place end us) (left_rest ts p.front p.rest f.left p.whole p.left); begun = p.begun; refused = p.refused }

decided_from : (m : Limits) (ts : List Placed) (end : ℕ) (r : Read) → run m [] between ts ≡ r → ((ss : List Sentence) × Reads m ts ss) ⊎ ((e : SyntaxErr) × Refuses m ts end e)
decided_from m ts end (Ok ss) e = inl (ss, file_of m ts ss e)
decided_from m ts end (Err f) e = inr (error_of end ts f, refuses m ts end f e)

pub decided : (m : Limits) (ts : List Placed) (end : ℕ) → IsDecided m ts end
decided m ts end = record {
  some = decided_from m ts end (run m [] between ts) refl;
  one_file = one_file m ts;
  one_refusal = one_refusal m ts end;
  not_both = not_both m ts end;
}
