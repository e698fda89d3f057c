use Rattle.std.proofs.Common.{ℕ, ◌≡◌, ◌++◌, List, [], Some, sym, ap, ◌∙◌, subst, append_assoc}
use Rattle.pil_text.specs.Text.{IsShort}
use Rattle.pil_text.specs.Computed.{computed}
use Rattle.machine_text.specs.Machine.{machine, main_digits}
use Rattle.machine_text.proofs.source.text.Goals as goal

-- three pieces, one after the other
joined : (none a b d x y z digits : List ℕ) → none ≡ [] → x ≡ none ++ a → y ≡ x ++ b → z ≡ y ++ d → b ≡ digits → z ≡ a ++ (digits ++ d)
joined none a b d x y z digits h0 h1 h2 h3 h4 =
    let h5 : none ++ a ≡ a = ap (λ xs. xs ++ a) h0 in
    h3 ∙ ap (λ xs. xs ++ d) (h2 ∙ ap (λ xs. xs ++ b) (h1 ∙ h5)) ∙ append_assoc a b d ∙ ap (λ xs. a ++ (xs ++ d)) h4

pub returns : goal.returns
returns c =
    let whole = joined _ c.parts.result.0.now _ c.parts.result.1.now _ _ _ (main_digits c.args.profile) c.new-text.ensures.items c.in_ok-extend_from_slice.ensures.items c.in_ok-extend_from_slice-2.ensures.items c.in_ok-extend_from_slice-3.ensures.items c.digits.ensures in
    record {
      reads = c.computed_reads.ensures.reads _ (machine c.args.profile) (subst (λ t. computed t ≡ Some (machine c.args.profile)) (sym whole) (c.parts.ensures.computed c.args.profile));
      short = subst IsShort (sym whole) (c.parts.ensures.short c.args.profile);
    }
