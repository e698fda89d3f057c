-- What the values of steps say of a row.
use Rattle.std.proofs.Common.{ℕ, ◌<◌, ◌≡◌, eqb, not, Bool, true, false, cond, List, [], ◌∷◌, Option, Some, None, length, get_or, map, refl, sym, ◌∙◌, ap, subst, arith}
use Rattle.pil_ast.specs.Term.{Term, Tuples, Line, identity, lookup, bus, Namespace}
use Rattle.pil_ast.specs.Columns.{Columns}
use Rattle.pil_ast.specs.Value.{row_after, value_in}
use Rattle.pil_ast.specs.Holds.{HoldsAt, selected, tuple, row_sent, times}
use Rattle.pil_program.specs.declared.nodes.Node.{Node}
use Rattle.pil_program.specs.declared.nodes.Node.TheVariants.{Number, Column, Neg, Add, Sub, Mul}
use Rattle.pil_program.specs.Program.{IsStep, IsProgram, step_value, cell, AreValues, Computes}
use Rattle.instance_pass.specs.declared.senders.Sender.{Sender}
use Rattle.instance_pass.specs.declared.checks.Check.{Check}
use Rattle.instance_pass.specs.declared.checks.Check.TheVariants.{Equal, Among, Nothing}
use Rattle.instance_pass.specs.Senders.{sent_by, AllCompute, selector, IsSenderOf}
use Rattle.instance_pass.specs.Checks.{Asks, IsCheckOf, IsTabled, home}
use Rattle.instance_pass.specs.Passes.{IsSameInstance}

after-inside : (n r : ℕ) → r < n → row_after n r < n
unfolding row_after
after-inside n r l = omega arith

-- Columns that have an instance in common give its steps the same values.
module _ (d c : Columns) (s i r : ℕ) (same : IsSameInstance d c s i) (inside : r < d.rows s) where
  cell-same : (k : ℕ) (b : Bool) → k < d.width s → cell d s i r k b ≡ cell c s i r k b
  cell-same k false l = same.values k r l inside
  cell-same k true l = same.values k (row_after (d.rows s) r) l (after-inside (d.rows s) r inside) ∙ ap (λ n. c.at s i k (row_after n r)) same.rows

  step-same : (w k : ℕ) (x : ℕ → ℕ) (node : Node) → w ≡ d.width s → IsStep w k node → step_value (cell d s i r) x node ≡ step_value (cell c s i r) x node
  step-same w k x (Number n) e h = refl
  step-same w k x (Column j b) e h = cell-same j b (omega arith)
  step-same w k x (Neg a) e h = refl
  step-same w k x (Add a b) e h = refl
  step-same w k x (Sub a b) e h = refl
  step-same w k x (Mul a b) e h = refl

  pub values-same : (nodes : List Node) (n : ℕ) (x : ℕ → ℕ) → IsProgram (d.width s) nodes → AreValues d s i r nodes n x → AreValues c s i r nodes n x
  values-same nodes n x program known k node l is = known k node l is ∙ step-same (d.width s) k x node refl (program k node is)

-- The values of a list's steps are its tuple.
module _ (ns : List Namespace) (c : Columns) (s i r : ℕ) (nodes : List Node) (v : ℕ → ℕ) (known : AreValues c s i r nodes (length nodes) v) where
  tuple-is : (es : List Term) (ks : List ℕ) → AllCompute ns s nodes es ks → map v ks ≡ tuple ns c s i r es
  tuple-is [] [] h = refl
  tuple-is [] (k ∷ ks) h = absurd h
  tuple-is (e ∷ es) [] h = absurd h
  tuple-is (e ∷ es) (k ∷ ks) h = ap (λ x. x ∷ map v ks) (h.0.value c i r v known) ∙ ap (λ xs. value_in ns c s i r e ∷ xs) (tuple-is es ks h.1)

  chosen-is : (sel : Option Term) (k : ℕ) → Computes ns s nodes 0 (selector sel) k → not (eqb (v k) 0) ≡ selected ns c s i r sel
  chosen-is None k h = ap (λ x. not (eqb x 0)) (h.value c i r v known)
  chosen-is (Some e) k h = ap (λ x. not (eqb x 0)) (h.value c i r v known)

pub sent-is : (ns : List Namespace) (c : Columns) (a : Tuples) (x : Sender) (i r : ℕ) (nodes : List Node) (v : ℕ → ℕ) → IsSenderOf ns nodes a x → AreValues c a.space i r nodes (length nodes) v → sent_by v x ≡ row_sent ns c a i r
sent-is ns c a x i r nodes v h known =
    ap (λ b. cond b (map v x.terms ∷ []) []) (chosen-is ns c a.space i r nodes v known a.sel x.sel h.sel)
    ∙ ap (λ t. cond (selected ns c a.space i r a.sel) (t ∷ []) []) (tuple-is ns c a.space i r nodes v known a.terms x.terms h.terms)

-- What a check asks of a row is what its line says of it.
module _ (ns : List Namespace) (c : Columns) (s i r : ℕ) (nodes : ℕ → List Node) (tables : List (List (List ℕ))) (v : ℕ → ℕ) (known : AreValues c s i r (nodes s) (length (nodes s)) v) where
  known-at : (t : ℕ) → t ≡ s → AreValues c t i r (nodes t) (length (nodes t)) v
  known-at t e = subst (λ z. AreValues c z i r (nodes z) (length (nodes z)) v) (sym e) known

  pub asked-says : (n : ℕ) (check : Check) (l : Line) → IsCheckOf ns nodes n check l → IsTabled ns c tables check l → Asks tables s check v → home l ≡ s → HoldsAt ns c i r l
  asked-says n (Equal t j k) (identity m a b) h g asks e =
      let known' = known-at m e in
      sym (h.1.value c i r v known') ∙ asks (h.0 ∙ e) ∙ h.2.value c i r v known'
  asked-says n (Among x k) (lookup a b) h g asks e = λ chosen z.
      let known' = known-at a.space e in
      let of : IsSenderOf ns (nodes a.space) a x = h.1 in
      asks (of.space ∙ e) (chosen-is ns c a.space i r (nodes a.space) v known' a.sel x.sel of.sel ∙ chosen)
      (ap (λ t. times t (get_or tables k [])) (tuple-is ns c a.space i r (nodes a.space) v known' a.terms x.terms of.terms) ∙ g (tuple ns c a.space i r a.terms) ∙ z)
  asked-says n Nothing (bus ls rs) h g asks e = tt
  asked-says n check l h g asks e = absurd h

  pub says-asked : (n : ℕ) (check : Check) (l : Line) → IsCheckOf ns nodes n check l → IsTabled ns c tables check l → (home l ≡ s → HoldsAt ns c i r l) → Asks tables s check v
  says-asked n (Equal t j k) (identity m a b) h g says = λ e.
      let e' : m ≡ s = sym h.0 ∙ e in
      let known' = known-at m e' in
      h.1.value c i r v known' ∙ says e' ∙ sym (h.2.value c i r v known')
  says-asked n (Among x k) (lookup a b) h g says = λ e chosen z.
      let of : IsSenderOf ns (nodes a.space) a x = h.1 in
      let e' : a.space ≡ s = sym of.space ∙ e in
      let known' = known-at a.space e' in
      says e' (sym (chosen-is ns c a.space i r (nodes a.space) v known' a.sel x.sel of.sel) ∙ chosen)
      (sym (g (tuple ns c a.space i r a.terms)) ∙ ap (λ t. times t (get_or tables k [])) (sym (tuple-is ns c a.space i r (nodes a.space) v known' a.terms x.terms of.terms)) ∙ z)
  says-asked n Nothing (bus ls rs) h g says = tt
  says-asked n check l h g says = absurd h
