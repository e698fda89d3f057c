-- The sequential tables publish what the run does: what accepted tables publish is the output of the image's one run.
use Rattle.std.proofs.Common.{ℕ, ◌+◌, ◌-◌, ◌<◌, ◌≡◌, inl, inr, sym, ap, ◌∙◌, subst, arith}
use Rattle.std.proofs.lemmas.Bool.{cases_lt}
use Rattle.gold.specs.declared.instances.Witness.{Witness}
use Rattle.rv_model.specs.Image.{Img, IsLoadable}
use Rattle.rv_model.specs.Run.{RunsTo, state_at, public_of as public_at, IsNext}
use Rattle.rv_model.specs.declared.answer.Public.{Public}
use Rattle.pil_ast.specs.Value.{public_value}
use Rattle.machine_text.specs.Machine.{machine}
use Rattle.main_run.specs.Headline.{Headline, told}
use Rattle.main_run.specs.Whole.{MachineLaw}
use Rattle.machine_columns.specs.Values.{sizes_of, values_of}
use Rattle.machine_columns.specs.Accepted.{AreAccepted, AreWellFormed, public_of}
use Rattle.run_accepted.proofs.Below.{ColumnsLaws}

module _ (image : Img) (n m : ℕ) (a b : Public) (first : RunsTo image n a) (second : RunsTo image m b) where
  -- a run doesn't go on behind its halt
  not_before : n < m → ⊥
  not_before l = subst IsNext first.halt (second.on (n - 1) (behind n m first.some l))
    where
      behind : (n m : ℕ) → 0 < n → n < m → n - 1 + 1 < m
      behind n m s l = omega arith

same_end : (image : Img) (n m : ℕ) (a b : Public) → RunsTo image n a → RunsTo image m b → n ≡ m
same_end image n m a b first second = elim (cases_lt n m) [
  | inl l ↦ absurd (not_before image n m a b first second l)
  | inr h ↦ elim (cases_lt m n) [
    | inl l ↦ absurd (not_before image m n b a second first l)
    | inr k ↦ omega arith
  ]
]

same_public : (image : Img) (n m : ℕ) (a b : Public) → RunsTo image n a → RunsTo image m b → a ≡ b
same_public image n m a b first second = first.told ∙ ap (λ k. public_at (state_at image (k - 1))) (same_end image n m a b first second) ∙ sym second.told

-- accepted tables publish what any run of the image does
pub published_by : MachineLaw → ColumnsLaws → (image : Img) (tables : Witness) (n : ℕ) (public : Public) → IsLoadable image → RunsTo image n public → AreWellFormed tables → AreAccepted image tables → public_of image tables ≡ public
unfolding AreAccepted
published_by law columns image tables n public loadable run shaped accepted =
    let h : Headline (machine tables.profile) (values_of image tables) image = law image (sizes_of tables) (values_of image tables) loadable (columns.is_machine image tables loadable shaped) accepted in
    columns.public image tables loadable shaped accepted ∙ same_public image h.n n (told (public_value (machine tables.profile) (values_of image tables))) public h.runs run
