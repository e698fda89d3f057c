-- The values of steps at the rows of a block.
use Rattle.std.proofs.Common.{ℕ, zero, suc, ◌+◌, ◌<◌, ◌≤◌, ◌≡◌, inl, inr, Bool, List, [], ◌∷◌, ◌++◌, Some, length, get_or, set, slice_get, slice_index, refl, sym, ◌∙◌, ap, arith}
use Rattle.std.proofs.lemmas.Bool.{cases_eq}
use Rattle.std.proofs.lemmas.Option.{slice_get-get_or}
use Rattle.gold.specs.Field.{add_mod, sub_mod, mul_mod, neg_mod}
use Rattle.pil_ast.specs.Columns.{Columns}
use Rattle.pil_ast.specs.Value.{row_after}
use Rattle.pil_program.specs.declared.block.Block.{Block}
use Rattle.pil_program.specs.declared.nodes.Node.{Node}
use Rattle.pil_program.specs.declared.nodes.Node.TheVariants.{Number, Column, Neg, Add, Sub, Mul}
use Rattle.pil_program.specs.Program.{IsStep, IsProgram, step_value, cell, AreValues}
use Rattle.pil_program.specs.Blocks.{at_lane}

pub row_after-inside : (n r : ℕ) → r < n → row_after n r < n
unfolding row_after
row_after-inside n r l = omega arith

-- the value of a step rests on the steps that it reads alone
pub step_value-same : (w k : ℕ) (v : ℕ → Bool → ℕ) (x y : ℕ → ℕ) (node : Node) → IsStep w k node → ((a : ℕ) → a < k → x a ≡ y a) → step_value v x node ≡ step_value v y node
step_value-same w k v x y (Number n) h same = refl
step_value-same w k v x y (Column c b) h same = refl
step_value-same w k v x y (Neg a) h same = ap neg_mod (same a h)
step_value-same w k v x y (Add a b) h same = ap (λ z. add_mod z (x b)) (same a h.0) ∙ ap (λ z. add_mod (y a) z) (same b h.1)
step_value-same w k v x y (Sub a b) h same = ap (λ z. sub_mod z (x b)) (same a h.0) ∙ ap (λ z. sub_mod (y a) z) (same b h.1)
step_value-same w k v x y (Mul a b) h same = ap (λ z. mul_mod z (x b)) (same a h.0) ∙ ap (λ z. mul_mod (y a) z) (same b h.1)

-- blocks in front
pub lane-front : (xs ys : List Block) (j k : ℕ) → k < length xs → at_lane (xs ++ ys) j k ≡ at_lane xs j k
lane-front [] ys j k l = absurd (omega arith)
lane-front (x ∷ xs) ys j zero l = refl
lane-front (x ∷ xs) ys j (suc k) l = lane-front xs ys j k (omega arith)

-- the block that is written after them
pub lane-written : (xs ys : List Block) (b : Block) (j : ℕ) → 0 < length ys → at_lane (xs ++ set ys 0 b) j (length xs) ≡ slice_index b.values j
lane-written [] [] b j l = absurd (omega arith)
lane-written [] (y ∷ ys) b j l = refl
lane-written (x ∷ xs) ys b j l = lane-written xs ys b j l

-- one more step is known
pub values-more : (c : Columns) (s i r w n : ℕ) (nodes : List Node) (node : Node) (all done rest : List Block) (b : Block) (j : ℕ) → IsProgram w nodes → n < length nodes → node ≡ get_or nodes n node → all ≡ done ++ rest → length done ≡ n → 0 < length rest
    → AreValues c s i r nodes n (at_lane all j) → slice_index b.values j ≡ step_value (cell c s i r) (at_lane done j) node
    → AreValues c s i r nodes (n + 1) (at_lane (done ++ set rest 0 b) j)
values-more c s i r w n nodes node all done rest b j program inside at whole long room known written k other below is =
    let step : IsStep w k other = program k other is in
    let same : (a : ℕ) → a < n → at_lane (done ++ set rest 0 b) j a ≡ at_lane done j a = λ a l. lane-front done (set rest 0 b) j a (omega arith) in
    let before : (a : ℕ) → a < n → at_lane all j a ≡ at_lane done j a = λ a l. ap (λ bs. at_lane bs j a) whole ∙ lane-front done rest j a (omega arith) in
    let here : k ≤ n = omega arith in
    elim (cases_eq k n) [
      | inl e ↦
          let same_node : other ≡ node =
          let found : Some other ≡ Some (get_or nodes n node) = sym is ∙ ap (slice_get nodes) e ∙ slice_get-get_or nodes n node inside in
          let there : other ≡ get_or nodes n node = cc in
          there ∙ sym at in
          let place : k ≡ length done = e ∙ sym long in
          ap (at_lane (done ++ set rest 0 b) j) place ∙ lane-written done rest b j room ∙ written ∙ ap (step_value (cell c s i r) (at_lane done j)) (sym same_node)
          ∙ step_value-same w k (cell c s i r) (at_lane done j) (at_lane (done ++ set rest 0 b) j) other step (λ a l. sym (same a (omega arith)))
      | inr ne ↦
          same k (omega arith) ∙ sym (before k (omega arith)) ∙ known k other (omega arith) is
          ∙ step_value-same w k (cell c s i r) (at_lane all j) (at_lane (done ++ set rest 0 b) j) other step (λ a l. before a (omega arith) ∙ sym (same a (omega arith)))
    ]
