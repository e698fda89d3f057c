-- From what was judged to what the run is, and the tables that were added.
use Rattle.std.proofs.Common.{ℕ, zero, suc, ◌≡◌, ◌<◌, ◌≤◌, ◌+◌, List, [], ◌∷◌, ◌++◌, Some, length, take, get_or, refl, sym, ap, subst, ◌∙◌, arith, add-one}
use Rattle.std.specs.Prelude.{slice_get}
use Rattle.std.proofs.lemmas.Option.{slice_get-get_or}
use Rattle.gold.specs.declared.instances.Table.{Table}
use Rattle.gold.specs.declared.instances.Witness.{Witness}
use Rattle.rv_model.specs.Image.{Img, IsLoadable}
use Rattle.machine_columns.specs.Accepted.{AreAccepted, AreWellFormed, public_of}
use Rattle.verdict.specs.declared.judgement.Judgement.{Judgement}
use Rattle.verdict.specs.declared.judgement.Judgement.TheVariants.{Accepted, Broken}
use Rattle.verdict.specs.Judged.{IsJudged}
use Rattle.verdict.specs.Steps.{AreSteps, IsSound, NothingWraps, RunsBy}
use Rattle.verdict.proofs.Places.{take_more}

pub got : (ts xs : List Table) (n : ℕ) (t : Table) → xs ≡ ts → n < length xs → t ≡ get_or xs n t → slice_get ts n ≡ Some t
got ts xs n t e l is = subst (λ ys. slice_get ys n ≡ Some t) e (slice_get-get_or xs n t l ∙ ap Some (sym is))

pub take_one : (ts : List Table) (n : ℕ) (t : Table) → slice_get ts n ≡ Some t → take (n + 1) ts ≡ take n ts ++ t ∷ []
take_one ts n t is = rw add-one (take_more ts n t is)

pub take_all : (ts : List Table) (n : ℕ) → length ts ≤ n → take n ts ≡ ts
take_all [] zero h = refl
take_all [] (suc n) h = refl
take_all (t ∷ ts) zero h = absurd (omega arith)
take_all (t ∷ ts) (suc n) h = ap (λ xs. t ∷ xs) (take_all ts n (omega arith))

pub sound_of : (image : Img) (w : Witness) (j : Judgement) → IsLoadable image → AreWellFormed w
    → ((image : Img) (w : Witness) → IsLoadable image → AreWellFormed w → AreAccepted image w → RunsBy image w (public_of image w))
    → ((image : Img) (w : Witness) → IsLoadable image → AreWellFormed w → AreAccepted image w → AreSteps image w)
    → ((image : Img) (w : Witness) → IsLoadable image → AreWellFormed w → AreAccepted image w → NothingWraps image w)
    → IsJudged image w j → IsSound image w j
sound_of image w (Accepted public) l h runs steps exact judged =
    record { runs = subst (λ x. RunsBy image w x) (sym judged.1) (runs image w l h judged.0); steps = steps image w l h judged.0; exact = exact image w l h judged.0 }
sound_of image w (Broken b) l h runs steps exact judged = tt
