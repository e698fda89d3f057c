use Rattle.std.proofs.Common.{◌≡◌, ◌⊎◌, inl, inr, refl, sym, ap, ◌∙◌, List}
use Rattle.gold.specs.declared.instances.Witness.{Witness}
use Rattle.rv_model.specs.Image.{Img}
use Rattle.pil_ast.specs.Term.{Namespace}
use Rattle.pil_ast.specs.Columns.{Columns}
use Rattle.pil_ast.specs.Holds.{AllHold}
use Rattle.row_check.specs.declared.broken.Broken.{Broken as Place}
use Rattle.row_check.specs.Breaks.{IsFirstBroken}
use Rattle.machine_text.specs.Machine.{machine}
use Rattle.machine_columns.specs.Values.{values_of}
use Rattle.machine_columns.specs.Accepted.{AreAccepted, public_of}
use Rattle.verdict.specs.declared.judgement.Judgement.{Judgement}
use Rattle.verdict.specs.declared.judgement.Judgement.TheVariants.{Accepted, Broken}
use Rattle.verdict.specs.Judged.{IsJudged}
use Rattle.verdict.proofs.laws.judgement_laws.Goals as goal

-- the laws of bus_check
record Laws : Type 0 where
  some : (ns : List Namespace) (c : Columns) → AllHold ns c ⊎ ((b : Place) × IsFirstBroken ns c b)
  one : (ns : List Namespace) (c : Columns) (a b : Place) → IsFirstBroken ns c a → IsFirstBroken ns c b → a ≡ b
  not_both : (ns : List Namespace) (c : Columns) (b : Place) → AllHold ns c → IsFirstBroken ns c b → ⊥

judged : Laws → (image : Img) (w : Witness) → (j : Judgement) × IsJudged image w j
unfolding AreAccepted
judged laws image w =
    elim (laws.some (machine w.profile) (values_of image w)) as (λ _. (j : Judgement) × IsJudged image w j) [
      | inl h ↦ (Accepted (public_of image w), (h, refl))
      | inr h ↦ (Broken h.0, h.1)
    ]

one_judgement : Laws → (image : Img) (w : Witness) (a b : Judgement) → IsJudged image w a → IsJudged image w b → a ≡ b
unfolding AreAccepted
one_judgement laws image w (Accepted x) (Accepted y) h l = ap Accepted (h.1 ∙ sym l.1)
one_judgement laws image w (Accepted x) (Broken y) h l = absurd (laws.not_both (machine w.profile) (values_of image w) y h.0 l)
one_judgement laws image w (Broken x) (Accepted y) h l = absurd (laws.not_both (machine w.profile) (values_of image w) x l.0 h)
one_judgement laws image w (Broken x) (Broken y) h l = ap Broken (laws.one (machine w.profile) (values_of image w) x y h l)

pub returns-clause-some : goal.returns-clause-some
returns-clause-some c = judged (record { some = c.one_verdict.ensures.some; one = c.one_verdict.ensures.one; not_both = c.one_verdict.ensures.not_both })

pub returns-clause-one : goal.returns-clause-one
returns-clause-one c = one_judgement (record { some = c.one_verdict.ensures.some; one = c.one_verdict.ensures.one; not_both = c.one_verdict.ensures.not_both })
