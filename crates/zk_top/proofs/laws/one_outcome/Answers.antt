use Rattle.std.proofs.Common.{◌≡◌, ◌⊎◌, inl, inr, ℕ, List, [], refl, sym, ◌∙◌, subst, arith}
use Rattle.pil_print.specs.Printed.{printed}
use Rattle.machine_text.specs.Machine.{machine}
use Rattle.zk_words.specs.Words.{Command, Run, Witness, Check, Pil, Machine, Demo, IsNumber, Reads}
use Rattle.zk_words.specs.declared.status.Status.TheVariants as statuses
use Rattle.zk_top.specs.Outcome.{Outcome, Contents, AreBytes, reporting, refused, IsOutcomeOf, IsOutcome}
use Rattle.zk_top.proofs.laws.one_outcome.Goals as goal

pub returns-clause-some : goal.returns-clause-some
returns-clause-some c = λ contents words bytes. come contents words bytes (c.one_command.ensures.decided words)
  where
    of_command : (contents : Contents) (words : List (List ℕ)) → AreBytes contents → (command : Command) → Reads words command → (o : Outcome) × IsOutcomeOf contents command o
    of_command contents words bytes (Run elf input steps) h = c.one_run.ensures.some contents elf input steps
    of_command contents words bytes (Witness elf input tables steps workers) h = c.one_witness.ensures.some contents elf input tables steps
    of_command contents words bytes (Check elf input tables) h = c.one_check.ensures.some contents elf input tables bytes
    of_command contents words bytes (Pil text tables) h = c.one_pil.ensures.some contents text tables bytes
    of_command contents words bytes (Machine profile) h = (reporting [] statuses.Done (printed (machine profile)), refl)
    of_command contents words bytes (Demo number kind size) h =
        let last : IsNumber 1 100001 h.1 size = h.4 in
        c.one_demo.ensures.some [] number kind size (last.1, omega (arith, last.2))

    come : (contents : Contents) (words : List (List ℕ)) → AreBytes contents → ((command : Command) × Reads words command) ⊎ ((command : Command) → Reads words command → ⊥) → (o : Outcome) × IsOutcome contents words o
    come contents words bytes (inl h) =
        let o = of_command contents words bytes h.0 h.1 in
        (o.0, inl (h.0, h.1, o.1))
    come contents words bytes (inr none) = (refused [] statuses.BadWords, inr (none, refl))

pub returns-clause-one : goal.returns-clause-one
returns-clause-one c = λ contents words o p h k. by contents words o p h k
  where
    of_command : (contents : Contents) (command : Command) (o p : Outcome) → IsOutcomeOf contents command o → IsOutcomeOf contents command p → o ≡ p
    of_command contents (Run elf input steps) o p h k = c.one_run.ensures.one contents elf input steps o p h k
    of_command contents (Witness elf input tables steps workers) o p h k = c.one_witness.ensures.one contents elf input tables steps o p h k
    of_command contents (Check elf input tables) o p h k = c.one_check.ensures.one contents elf input tables o p h k
    of_command contents (Pil text tables) o p h k = c.one_pil.ensures.one contents text tables o p h k
    of_command contents (Machine profile) o p h k = h ∙ sym k
    of_command contents (Demo number kind size) o p h k = c.one_demo.ensures.one [] number kind size o p h k

    by : (contents : Contents) (words : List (List ℕ)) (o p : Outcome) → IsOutcome contents words o → IsOutcome contents words p → o ≡ p
    by contents words o p (inl h) (inl k) =
        of_command contents h.0 o p h.2 (subst (λ (d : Command). IsOutcomeOf contents d p) (c.one_command.ensures.one words k.0 h.0 k.1 h.1) k.2)
    by contents words o p (inl h) (inr k) = absurd (k.0 h.0 h.1)
    by contents words o p (inr h) (inl k) = absurd (h.0 k.0 k.1)
    by contents words o p (inr h) (inr k) = h.1 ∙ sym k.1
