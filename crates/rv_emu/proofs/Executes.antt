-- What an instruction does to the emulator.
use Rattle.std.proofs.Common.{◌≡◌, ◌==◌, ℕ, ◌/◌, ◌%◌, ◌^◌, ◌<◌, Bool, true, false, nat_lt, if◌then◌else◌, List, [], ◌∷◌, ◌++◌, Option, Some, None, IfSome, unwrap_or, Result, Ok, Err, IfOk, inl, inr, refl, ap, sym, subst, ◌∙◌}
use Rattle.std.specs.declared.alloc.AllocError.{AllocError}
use Rattle.std.proofs.lemmas.Bool.{eq-eqb, lt-ltb}
use Rattle.std.proofs.lemmas.List.{append-nil}
use Rattle.rv_word.specs.declared.instr.Kind.{Kind}
use Rattle.rv_word.specs.declared.instr.Instr.{Instr}
use Rattle.rv_word.specs.declared.instr.Instr.TheVariants.{Lui, Auipc, Jal, Jalr, Branch, Load, Store, OpImm, Op, Fence, Ecall, Ebreak}
use Rattle.rv_word.specs.Is.{decoded}
use Rattle.rv_model.specs.Image.{Img, fetch}
use Rattle.rv_model.specs.Code.{instr_of}
use Rattle.rv_model.specs.Align.{width, aligned}
use Rattle.rv_model.specs.State.{State, Answer, Next, Halt, Fault, executed, executed_fetch, step, load, store, at_address, with_word}
use Rattle.rv_model.specs.Cpu.{with_memory, access, is_store, IsGood, Touches, told, memory_after, KeepsUnlessNext}
use Rattle.rv_model.specs.Run.{state_at, step_at}
use Rattle.rv_model.specs.declared.access.Access.{Access}
use Rattle.rv_model.specs.declared.answer.RunFault.{RunFault}
use Rattle.rv_model.specs.declared.answer.RunFault.TheVariants.{BadPc, Illegal}
use Rattle.rv_model.specs.declared.answer.StepAnswer.{StepAnswer}
use Rattle.rv_model.specs.declared.answer.StepAnswer.TheVariants as answers
use Rattle.rv_model.specs.declared.cpu.Cpu.{Cpu}
use Rattle.min_trace.specs.Record.{instr_at, act, old_of, old_at}
use Rattle.min_trace.specs.Chunk.{IsStep}
use Rattle.rv_emu.specs.Emulator.{old_by, old_here, Leads, IsTouch, IsTouched}

-- what min_trace's laws say of what is executed
abbrev pub ExecutesAt : Type 0
ExecutesAt = (image : Img) (j : ℕ) → IsStep (step_at image j) → step_at image j ≡ executed (instr_at image j) (state_at image j)

abbrev pub GoodAccess : Type 0
GoodAccess = (i : Instr) (s : State) → IsStep (executed i s) → IfSome (access i s) IsGood

-- what applying an instruction to pc and registers says of each memory
abbrev pub Applies : Instr → ℕ → Cpu → StepAnswer → Cpu → Type 0
Applies i old cpu answer after = (word : ℕ → ℕ) → Touches i (with_memory cpu word) old → executed i (with_memory cpu word) ≡ told answer after (memory_after i (with_memory cpu word))

-- the memory after an access
abbrev memory_by : Bool → Option Access → (ℕ → ℕ) → ℕ → ℕ
memory_by store None word = word
memory_by false (Some a) word = word
memory_by true (Some a) word = with_word word (a.address / 8) (aligned a.kind (a.address % 8) (word (a.address / 8)) a.value)

memory_is : (i : Instr) (s : State) → memory_after i s ≡ memory_by (is_store i) (access i s) s.word
memory_is (Lui rd imm) s = refl
memory_is (Auipc rd imm) s = refl
memory_is (Jal rd imm) s = refl
memory_is (Jalr rd rs1 imm) s = refl
memory_is (Branch cond rs1 rs2 imm) s = refl
memory_is (Load kind rd rs1 imm) s = refl
memory_is (Store kind rs1 rs2 imm) s = refl
memory_is (OpImm op rd rs1 imm uw) s = refl
memory_is (Op op rd rs1 rs2 uw) s = refl
memory_is Fence s = refl
memory_is Ecall s = refl
memory_is Ebreak s = refl

abbrev LeadsOn : Answer → Type 0
LeadsOn answer = (t : State) × (answer ≡ Next t)

-- an access at a good address leads on
passes : (s : State) (kind : Kind) (address : ℕ) (t : State) → (address % width kind ≡ 0) × (address < 2 ^ 32) → LeadsOn (at_address s kind address (Next t))
passes s kind address t good =
    let multiple : (address % width kind == 0) ≡ true = eq-eqb _ _ good.0 in
    let below : nat_lt address (2 ^ 32) ≡ true = lt-ltb _ _ good.1 in
    (t, rw (multiple, below) refl)

good_leads : (i : Instr) (s : State) → IfSome (access i s) (λ a. IsGood a → LeadsOn (executed i s))
unfolding load store
good_leads (Load kind rd rs1 imm) s = λ good. passes s kind _ _ good
good_leads (Store kind rs1 rs2 imm) s = λ good. passes s kind _ _ good
good_leads (Lui rd imm) s = tt
good_leads (Auipc rd imm) s = tt
good_leads (Jal rd imm) s = tt
good_leads (Jalr rd rs1 imm) s = tt
good_leads (Branch cond rs1 rs2 imm) s = tt
good_leads (OpImm op rd rs1 imm uw) s = tt
good_leads (Op op rd rs1 rs2 uw) s = tt
good_leads Fence s = tt
good_leads Ecall s = tt
good_leads Ebreak s = tt

stored : (stores : Bool) (a : Access) (word : ℕ → ℕ) (old : ℕ) → old ≡ word (a.address / 8)
    → memory_by stores (Some a) word ≡ (if stores then with_word word (a.address / 8) (aligned a.kind (a.address % 8) old a.value) else word)
stored true a word old here = ap (λ v. with_word word (a.address / 8) (aligned a.kind (a.address % 8) v a.value)) (sym here)
stored false a word old here = refl

-- an instruction without an access
leads_none : (i : Instr) (c d : Cpu) (word : ℕ → ℕ) (r : StepAnswer) (old : ℕ) (olds : List ℕ) → access i (with_memory c word) ≡ None → Applies i old c r d → KeepsUnlessNext r c d
    → Leads (executed i (with_memory c word)) (old_by i (with_memory c word)) r (with_memory c word) (with_memory d word) olds olds
leads_none i c d word answers.Next old olds is applies kept =
    let s : State = with_memory c word in
    let memory : memory_after i s ≡ word = memory_is i s ∙ ap (λ a. memory_by (is_store i) a word) is in
    (applies word (rw is tt) ∙ ap (λ m. Next (with_memory d m)) memory, rw is (sym (append-nil olds)))
leads_none i c d word answers.Halt old olds is applies kept = (applies word (rw is tt), ap (λ e. with_memory e word) kept, refl)
leads_none i c d word (answers.Fault f) old olds is applies kept = (applies word (rw is tt), ap (λ e. with_memory e word) kept, refl)

-- an access at a bad address faults
is_good : (a : Option Access) (b : Access) → a ≡ Some b → IfSome a IsGood → IsGood b
is_good None b is good = cc
is_good (Some a) b is good = let same : a ≡ b = cc in subst IsGood same good

leads_bad : GoodAccess → (i : Instr) (c d : Cpu) (word : ℕ → ℕ) (r : StepAnswer) (a : Access) (old : ℕ) (olds : List ℕ) → access i (with_memory c word) ≡ Some a → (IsGood a → ⊥) → Applies i old c r d → KeepsUnlessNext r c d
    → Leads (executed i (with_memory c word)) (old_by i (with_memory c word)) r (with_memory c word) (with_memory d word) olds olds
leads_bad law i c d word answers.Next a old olds is bad applies kept =
    let s : State = with_memory c word in
    let on : executed i s ≡ Next (with_memory d (memory_after i s)) = applies word (rw is (λ good. absurd (bad good))) in
    absurd (bad (is_good (access i s) a is (law i s (subst IsStep (sym on) tt))))
leads_bad law i c d word answers.Halt a old olds is bad applies kept = (applies word (rw is (λ good. absurd (bad good))), ap (λ e. with_memory e word) kept, refl)
leads_bad law i c d word (answers.Fault f) a old olds is bad applies kept = (applies word (rw is (λ good. absurd (bad good))), ap (λ e. with_memory e word) kept, refl)

-- an access at a good address
fault_no_next : (answer : Answer) (f : RunFault) → answer ≡ Fault f → LeadsOn answer → ⊥
fault_no_next answer f is on = let clash : Fault f ≡ Next on.0 = sym is ∙ on.1 in cc

halt_no_next : (answer : Answer) → answer ≡ Halt → LeadsOn answer → ⊥
halt_no_next answer is on = let clash : Halt ≡ Next on.0 = sym is ∙ on.1 in cc

leads_on : (i : Instr) (s : State) (o : Option Access) (a : Access) → o ≡ Some a → IsGood a → IfSome o (λ b. IsGood b → LeadsOn (executed i s)) → LeadsOn (executed i s)
leads_on i s None a is good on = cc
leads_on i s (Some b) a is good on = let same : a ≡ b = cc in on (subst IsGood same good)

leads_at : (i : Instr) (c d : Cpu) (word written : ℕ → ℕ) (r : StepAnswer) (a : Access) (old : ℕ) (before after : List ℕ) → access i (with_memory c word) ≡ Some a → IsTouch (is_store i) word a old written before after → Applies i old c r d
    → Leads (executed i (with_memory c word)) (old_by i (with_memory c word)) r (with_memory c word) (with_memory d written) before after
leads_at i c d word written answers.Next a old before after is t applies =
    let s : State = with_memory c word in
    let same : memory_by (is_store i) (Some a) word ≡ written = stored (is_store i) a word old t.here ∙ sym t.memory in
    let left : memory_after i s ≡ written = memory_is i s ∙ ap (λ b. memory_by (is_store i) b word) is ∙ same in
    let touched : old ∷ [] ≡ old_by i s = rw is (ap (λ v. v ∷ []) t.here) in
    (applies word (rw is (λ good. sym t.here)) ∙ ap (λ m. Next (with_memory d m)) left, t.noted ∙ ap (λ o. before ++ o) touched)
leads_at i c d word written answers.Halt a old before after is t applies =
    absurd (halt_no_next _ (applies word (rw is (λ good. sym t.here))) (leads_on i (with_memory c word) _ a is t.good (good_leads i (with_memory c word))))
leads_at i c d word written (answers.Fault f) a old before after is t applies =
    absurd (fault_no_next _ f (applies word (rw is (λ good. sym t.here))) (leads_on i (with_memory c word) _ a is t.good (good_leads i (with_memory c word))))

-- an instruction by what it touches
leads_by : GoodAccess → (i : Instr) (c d : Cpu) (word written : ℕ → ℕ) (r : StepAnswer) (o : Option Access) (old : ℕ) (before after : List ℕ) → access i (with_memory c word) ≡ o → IsTouched i (with_memory c word) o old written before after → Applies i old c r d → KeepsUnlessNext r c d
    → Leads (executed i (with_memory c word)) (old_by i (with_memory c word)) r (with_memory c word) (with_memory d written) before after
leads_by law i c d word written r None old before after is t applies kept =
    subst (λ m. Leads (executed i (with_memory c word)) (old_by i (with_memory c word)) r (with_memory c word) (with_memory d m) before after) (sym t.0)
    (subst (λ xs. Leads (executed i (with_memory c word)) (old_by i (with_memory c word)) r (with_memory c word) (with_memory d word) before xs) (sym t.1) (leads_none i c d word r old before is applies kept))
leads_by law i c d word written r (Some a) old before after is t applies kept = elim t [
  | inl touch ↦ leads_at i c d word written r a old before after is touch applies
  | inr (bad, memory, noted) ↦
      subst (λ m. Leads (executed i (with_memory c word)) (old_by i (with_memory c word)) r (with_memory c word) (with_memory d m) before after) (sym memory)
      (subst (λ xs. Leads (executed i (with_memory c word)) (old_by i (with_memory c word)) r (with_memory c word) (with_memory d word) before xs) (sym noted) (leads_bad law i c d word r a old before is bad applies kept))
]

pub leads_touched : GoodAccess → (i : Instr) (c d : Cpu) (word written : ℕ → ℕ) (r : StepAnswer) (old : ℕ) (before after : List ℕ) → IsTouched i (with_memory c word) (access i (with_memory c word)) old written before after → Applies i old c r d → KeepsUnlessNext r c d
    → Leads (executed i (with_memory c word)) (old_by i (with_memory c word)) r (with_memory c word) (with_memory d written) before after
leads_touched law i c d word written r old before after t applies kept = leads_by law i c d word written r (access i (with_memory c word)) old before after refl t applies kept

-- an instruction that halts makes no access
no_access : (i : Instr) (s : State) (o : Option Access) → executed i s ≡ Halt → IfSome o IsGood → IfSome o (λ a. IsGood a → LeadsOn (executed i s)) → old_of (act o s.word) ≡ []
no_access i s None halts good on = refl
no_access i s (Some a) halts good on = absurd (halt_no_next _ halts (on good))

pub old_at_halt : ExecutesAt → GoodAccess → (image : Img) (j : ℕ) → step_at image j ≡ Halt → old_at image j ≡ []
unfolding old_at
old_at_halt executes_at good_access image j is =
    let i : Instr = instr_at image j in
    let s : State = state_at image j in
    let halts : executed i s ≡ Halt = sym (executes_at image j (subst IsStep (sym is) tt)) ∙ is in
    no_access i s (access i s) halts (good_access i s (subst IsStep (sym halts) tt)) (good_leads i s)

-- the instruction of a step
fetched_is : (f : Option ℕ) (s : State) (i : Instr) → instr_of f ≡ Some i → executed i s ≡ executed_fetch f s
fetched_is None s i e = cc
fetched_is (Some w) s i e = rw e refl

pub leads_step : (image : Img) (s t : State) (i : Instr) (r : StepAnswer) (old new : List ℕ) → instr_of (fetch image s.pc) ≡ Some i → Leads (executed i s) (old_by i s) r s t old new → Leads (step image s) (old_here image s) r s t old new
unfolding step old_here
leads_step image s t i r old new is leads =
    let named : i ≡ unwrap_or (instr_of (fetch image s.pc)) Fence = rw is refl in
    subst (λ (a : Answer). Leads a (old_by (unwrap_or (instr_of (fetch image s.pc)) Fence) s) r s t old new) (fetched_is (fetch image s.pc) s i is)
    (subst (λ k. Leads (executed i s) (old_by k s) r s t old new) named leads)

pub leads_all : (image : Img) (s t : State) (i : Instr) (result : Result StepAnswer AllocError) (old new : List ℕ) → instr_of (fetch image s.pc) ≡ Some i
    → IfOk result (λ r. Leads (executed i s) (old_by i s) r s t old new) → IfOk result (λ r. Leads (step image s) (old_here image s) r s t old new)
leads_all image s t i (Ok r) old new is leads = leads_step image s t i r old new is leads
leads_all image s t i (Err e) old new is leads = tt

pub leads_nowhere : (image : Img) (s : State) (touched olds : List ℕ) → fetch image s.pc ≡ None → Leads (step image s) touched (answers.Fault (BadPc s.pc)) s s olds olds
unfolding step
leads_nowhere image s touched olds is = (rw is refl, refl, refl)

pub leads_illegal : (image : Img) (s : State) (word : ℕ) (touched olds : List ℕ) → fetch image s.pc ≡ Some word → decoded word ≡ None → Leads (step image s) touched (answers.Fault (Illegal s.pc word)) s s olds olds
unfolding step
leads_illegal image s word touched olds is none = (rw (is, none) refl, refl, refl)
