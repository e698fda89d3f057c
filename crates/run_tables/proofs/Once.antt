-- What is made of a run is one thing.
use Rattle.std.proofs.Common.{◌≡◌, ◌≤◌, inl, inr, ℕ, refl, ap, sym, ◌∙◌, subst}
use Rattle.std.specs.Prelude.{Result, Ok, Err}
use Rattle.gold.specs.declared.instances.Witness.{Witness}
use Rattle.rv_model.specs.Image.{Img}
use Rattle.rv_model.specs.Run.{End, Halted, RunsTo, IsEnd, EndsOnce}
use Rattle.rv_model.specs.declared.answer.Public.{Public}
use Rattle.rv_model.specs.declared.answer.RunEnd.{RunEnd}
use Rattle.rv_model.specs.declared.answer.RunEnd.TheVariants.{Fault, StepLimit, NoMemory}
use Rattle.run_tables.specs.declared.made.Made.{Made}
use Rattle.run_tables.specs.Sequential.{sequential_witness, Makes, IsOnlyMaking}

pub halts : ((image : Img) (limit : ℕ) → EndsOnce image limit) → (image : Img) (limit : ℕ) (made : Made) → Makes image limit (Ok made) → (made.steps ≤ limit) × RunsTo image made.steps made.public
halts law image limit made h = let P : End → Type 0 = IsEnd image limit in subst P h.0 (law image limit).is

same : (v w : Witness) (n m : ℕ) (p q : Public) → v ≡ w → n ≡ m → p ≡ q → ◌≡◌ {A = Made} (record { witness = v; steps = n; public = p }) (record { witness = w; steps = m; public = q })
same v w n m p q e f g = rw (e, f, g) refl

both : (image : Img) (limit : ℕ) (a b : Made) → Makes image limit (Ok a) → Makes image limit (Ok b) → a ≡ b
both image limit a b h k =
    let e : Halted a.steps a.public ≡ Halted b.steps b.public = sym h.0 ∙ k.0 in
    let n : a.steps ≡ b.steps = cc in
    let p : a.public ≡ b.public = cc in
    same a.witness b.witness a.steps b.steps a.public b.public (h.1 ∙ ap (λ m. sequential_witness image m a.public) n ∙ ap (sequential_witness image b.steps) p ∙ sym k.1) n p

pub only_making : (image : Img) (limit : ℕ) (a b : Result Made RunEnd) → IsOnlyMaking image limit a b
only_making image limit (Ok a) (Ok b) h k = inl (ap Ok (both image limit a b h k))
only_making image limit (Ok a) (Err (Fault f)) h k = let e = h.0 in absurd (cc)
only_making image limit (Ok a) (Err (StepLimit m)) h k = let e = h.0 in let d = k.1 in absurd (cc)
only_making image limit (Ok a) (Err NoMemory) h k = inr (inr refl)
only_making image limit (Err (Fault f)) (Ok b) h k = let e = k.0 in absurd (cc)
only_making image limit (Err (Fault f)) (Err (Fault g)) h k = let e : f ≡ g = cc in inl (ap (λ x. Err (Fault x)) e)
only_making image limit (Err (Fault f)) (Err (StepLimit m)) h k = let d = k.1 in absurd (cc)
only_making image limit (Err (Fault f)) (Err NoMemory) h k = inr (inr refl)
only_making image limit (Err (StepLimit m)) (Ok b) h k = let e = h.1 in let d = k.0 in absurd (cc)
only_making image limit (Err (StepLimit m)) (Err (Fault g)) h k = let e = h.1 in absurd (cc)
only_making image limit (Err (StepLimit m)) (Err (StepLimit n)) h k = inl (ap (λ x. Err (StepLimit x)) (h.0 ∙ sym k.0))
only_making image limit (Err (StepLimit m)) (Err NoMemory) h k = inr (inr refl)
only_making image limit (Err NoMemory) b h k = inr (inl refl)
