-- What the way along a chunk says of the emulator's answer.
use Rattle.std.proofs.Common.{◌≡◌, ◌+◌, ◌-◌, ◌*◌, ◌<◌, ◌≤◌, ◌^◌, ℕ, List, [], ◌++◌, replicate, min, refl, ap, sym, subst, ◌∙◌, inr, arith}
use Rattle.std.proofs.lemmas.List.{append-nil}
use Rattle.rv_model.specs.Image.{Img, initial_word}
use Rattle.rv_model.specs.State.{State, Halt, Fault, start}
use Rattle.rv_model.specs.Cpu.{cpu_of, with_memory}
use Rattle.rv_model.specs.Run.{state_at, step_at, IsHalt, public_of, RunsTo, MeetsLimit}
use Rattle.rv_model.specs.declared.answer.RunFault.{RunFault}
use Rattle.rv_model.specs.declared.answer.Public.{Public}
use Rattle.rv_model.specs.declared.cpu.Cpu.{Cpu}
use Rattle.min_trace.specs.Record.{olds_between}
use Rattle.min_trace.specs.Chunk.{Piece, IsStep}
use Rattle.rv_emu.specs.Emulator.{IsAfter, IsEmu}
use Rattle.rv_emu.specs.Answered.{Place, IsLast, FaultsIn, IsUsedUp}
use Rattle.rv_emu.proofs.Executes.{ExecutesAt, GoodAccess, old_at_halt}
use Rattle.rv_emu.proofs.Onward.{olds_more}

abbrev pub place : Img → ℕ → ℕ → Place
place image limit number = record { image = image; limit = limit; number = number }

abbrev pub piece : ℕ → Cpu → ℕ → List ℕ → Piece
piece number first steps noted = record { number = number; start = first; steps = steps; olds = noted }

-- further along the chunk, up to so many of its steps
pub went_on : (image : Img) (limit number steps more most : ℕ) (first : Cpu) (now then : State) (noted notes : List ℕ) → IsEmu image limit number steps first now noted → ((from : ℕ) → IsAfter image from steps now noted → IsAfter image from more then notes) → more ≤ most → most ≤ 1024 → most ≤ limit - 1024 * number
    → IsEmu image limit number more first then notes
went_on image limit number steps more most first now then noted notes e leads few top low = record {
  after = leads (1024 * number) e.after;
  begun = e.begun;
  most = omega arith;
  within = omega (arith, e.within);
  small = e.small;
}

abbrev zeros : ℕ → Cpu
zeros pc = record { pc = pc; x = replicate 32 0 }

state_first : (image : Img) → start image ≡ state_at image 0
unfolding state_at
state_first image = refl

pub begins : (image : Img) (limit pc : ℕ) (word : ℕ → ℕ) (noted : List ℕ) → limit < 2 ^ 32 → pc ≡ image.entry → word ≡ initial_word image → noted ≡ [] → IsEmu image limit 0 0 (zeros pc) (with_memory (zeros pc) word) noted
begins image limit pc word noted small entry memory none =
    let state : with_memory (zeros pc) word ≡ state_at image 0 = ap (λ n. with_memory (zeros n) word) entry ∙ ap (with_memory (zeros image.entry)) memory ∙ state_first image in
    record {
      after = record { on = λ j below. absurd (omega arith); state = state; olds = none };
      begun = ap cpu_of state;
      most = omega arith;
      within = omega arith;
      small = small;
    }

runs_to : (image : Img) (l n : ℕ) (public : Public) → n - 1 ≡ l → 0 < n → step_at image l ≡ Halt → MeetsLimit image l → public ≡ public_of (state_at image l) → RunsTo image n public
runs_to image l n public at some is meets told = record {
  some = some;
  on = λ j below. meets j (omega arith);
  halt = rw at is;
  told = rw at told;
}

pub last : ExecutesAt → GoodAccess → (p : Place) (image : Img) (limit number steps : ℕ) (first : Cpu) (now : State) (noted : List ℕ) (public : Public) → place image limit number ≡ p → IsEmu image limit number steps first now noted → step_at image (1024 * number + steps) ≡ Halt
    → steps < 1024 → 1024 * number + steps < limit → public ≡ public_of now → IsLast p (piece number first (steps + 1) noted) public
last executes good p image limit number steps first now noted public v e is few below told =
    let at : 1024 * number + (steps + 1) - 1 ≡ 1024 * number + steps = omega arith in
    let halts : step_at image (1024 * number + (steps + 1) - 1) ≡ Halt = rw at is in
    let none : olds_between image (1024 * number) (steps + 1) ≡ noted =
    olds_more image (1024 * number) steps ∙ ap (λ xs. olds_between image (1024 * number) steps ++ xs) (old_at_halt executes good image (1024 * number + steps) is) ∙ append-nil (olds_between image (1024 * number) steps) ∙ sym e.after.olds in
    subst (λ q. IsLast q (piece number first (steps + 1) noted) public) v (record {
      chunk = record {
        number = omega (arith, e.small);
        some = omega arith;
        most = omega arith;
        start = e.begun;
        on = λ j sooner. e.after.on j (omega arith);
        last = subst IsStep (sym halts) tt;
        whole = inr (subst IsHalt (sym halts) tt);
        olds = sym none;
      };
      number = refl;
      halts = runs_to image (1024 * number + steps) _ public at (omega arith) is e.after.on (told ∙ ap public_of e.after.state);
      within = omega arith;
    })

pub faulted : (p : Place) (image : Img) (limit number steps : ℕ) (first : Cpu) (now : State) (noted : List ℕ) (fault : RunFault) → place image limit number ≡ p → IsEmu image limit number steps first now noted → step_at image (1024 * number + steps) ≡ Fault fault
    → steps < 1024 → 1024 * number + steps < limit → FaultsIn p fault
faulted p image limit number steps first now noted fault v e is few below = subst (λ q. FaultsIn q fault) v (record {
  step = 1024 * number + steps;
  low = omega arith;
  high = omega arith;
  within = below;
  faults = record { on = e.after.on; is = is };
})

pub used_up : (p : Place) (image : Img) (limit number steps : ℕ) (first : Cpu) (now : State) (noted : List ℕ) → place image limit number ≡ p → IsEmu image limit number steps first now noted → 1024 * number + steps ≡ limit → steps < 1024 → IsUsedUp p
used_up p image limit number steps first now noted v e at few = subst IsUsedUp v (record { high = omega arith; on = subst (MeetsLimit image) at e.after.on })

-- what next_chunk has found where it answers, in terms of its fields before
pub record Found (p : Place) (image : Img) (limit number steps more most : ℕ) (first : Cpu) (now then : State) (noted notes : List ℕ) : Type 0 where
  pub view : place image limit number ≡ p
  pub before : IsEmu image limit number steps first now noted
  pub leads : (from : ℕ) → IsAfter image from steps now noted → IsAfter image from more then notes
  pub few : more ≤ most
  pub bound : most ≡ min (limit - 1024 * number) 1024

further : (p : Place) (image : Img) (limit number steps more most : ℕ) (first : Cpu) (now then : State) (noted notes : List ℕ) → Found p image limit number steps more most first now then noted notes → IsEmu image limit number more first then notes
further p image limit number steps more most first now then noted notes f =
    went_on image limit number steps more most first now then noted notes f.before f.leads f.few (omega (arith, f.bound)) (omega (arith, f.bound))

pub fault_told : (p : Place) (image : Img) (limit number steps more most : ℕ) (first : Cpu) (now then : State) (noted notes : List ℕ) (fault : RunFault) → Found p image limit number steps more most first now then noted notes
    → ((from : ℕ) → IsAfter image from steps now noted → (step_at image (from + more) ≡ Fault fault) × (more < most)) → FaultsIn p fault × (place image limit number ≡ p)
fault_told p image limit number steps more most first now then noted notes fault f stopped =
    let stop = stopped (1024 * number) f.before.after in
    let e = further p image limit number steps more most first now then noted notes f in
    (faulted p image limit number more first then notes fault f.view e stop.0 (omega (arith, stop.1, f.bound)) (omega (arith, stop.1, f.bound)), f.view)

pub limit_told : (p : Place) (image : Img) (limit number steps more most : ℕ) (first : Cpu) (now then : State) (noted notes : List ℕ) → Found p image limit number steps more most first now then noted notes
    → ((from : ℕ) → IsAfter image from steps now noted → more ≡ most) → most < 1024 → (limit ≡ p.limit) × IsUsedUp p × (place image limit number ≡ p)
limit_told p image limit number steps more most first now then noted notes f stopped below =
    let stop = stopped (1024 * number) f.before.after in
    let e = further p image limit number steps more most first now then noted notes f in
    (ap (λ (q : Place). q.limit) f.view, used_up p image limit number more first then notes f.view e (omega (arith, stop, f.bound, f.before.within)) (omega (arith, stop)), f.view)

pub last_told : ExecutesAt → GoodAccess → (p : Place) (image : Img) (limit number steps more most : ℕ) (first : Cpu) (now then : State) (noted notes : List ℕ) (c : Piece) (public : Public) → Found p image limit number steps more most first now then noted notes
    → ((from : ℕ) → IsAfter image from steps now noted → (step_at image (from + more) ≡ Halt) × (more < most)) → c ≡ piece number first (more + 1) notes → public ≡ public_of then → IsLast p c public × (place image limit number ≡ p)
last_told executes good p image limit number steps more most first now then noted notes c public f stopped is told =
    let stop = stopped (1024 * number) f.before.after in
    let e = further p image limit number steps more most first now then noted notes f in
    (subst (λ d. IsLast p d public) (sym is) (last executes good p image limit number more first then notes public f.view e stop.0 (omega (arith, stop.1, f.bound)) (omega (arith, stop.1, f.bound)) told), f.view)
