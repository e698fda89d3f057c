-- One step of the plain machine, over what it keeps.
use Rattle.std.proofs.Common.{◌≡◌, ◌==◌, ℕ, ◌+◌, ◌/◌, ◌%◌, ◌<◌, Bool, true, false, nat_lt, if◌then◌else◌, List, Some, None, inl, inr, ◌⊎◌, refl, ap, sym, subst, ◌∙◌}
use Rattle.std.proofs.Math.Path.{fun_ext}
use Rattle.std.proofs.lemmas.Bool.{eqb-true, eq-eqb, ltb-true, lt-ltb}
use Rattle.rv_word.specs.declared.instr.Kind.{Kind}
use Rattle.rv_model.specs.Op.{bits_of}
use Rattle.rv_word.specs.declared.instr.Instr.{Instr}
use Rattle.rv_word.specs.declared.instr.Instr.TheVariants.{Lui, Auipc, Jal, Jalr, Branch, Load, Store, OpImm, Op, Fence, Ecall, Ebreak}
use Rattle.rv_model.specs.Image.{Img}
use Rattle.rv_model.specs.Align.{width, aligned}
use Rattle.rv_model.specs.State.{State, Answer, Next, Halt, Fault, executed, store, next_with_store, with_word, wrapped, reg}
use Rattle.rv_model.specs.Cpu.{with_memory, told, access, is_store, IsGood, Touches, memory_after, KeepsUnlessNext}
use Rattle.rv_model.specs.Plain.{Plain, word_of, state_of, Leads}
use Rattle.rv_model.specs.declared.access.Access.{Access}
use Rattle.rv_model.specs.declared.answer.RunFault.{RunFault}
use Rattle.rv_model.specs.declared.machine.TheConstants.{MEMORY_END}
use Rattle.rv_model.specs.declared.answer.StepAnswer.{StepAnswer}
use Rattle.rv_model.specs.declared.answer.StepAnswer.TheVariants as answers
use Rattle.rv_model.specs.declared.cpu.Cpu.{Cpu}

abbrev pub plain : Img → Cpu → List (ℕ × ℕ) → Plain
plain image c words = record { image = image; cpu = c; words = words }

-- an instruction that is no store leaves the memory
memory_kept : (i : Instr) (s : State) → is_store i ≡ false → memory_after i s ≡ s.word
memory_kept (Store kind rs1 rs2 imm) s is = cc
memory_kept (Lui rd imm) s is = refl
memory_kept (Auipc rd imm) s is = refl
memory_kept (Jal rd imm) s is = refl
memory_kept (Jalr rd rs1 imm) s is = refl
memory_kept (Branch cond rs1 rs2 imm) s is = refl
memory_kept (Load kind rd rs1 imm) s is = refl
memory_kept (OpImm op rd rs1 imm uw) s is = refl
memory_kept (Op op rd rs1 rs2 uw) s is = refl
memory_kept Fence s is = refl
memory_kept Ecall s is = refl
memory_kept Ebreak s is = refl

no_access_no_store : (i : Instr) (s : State) → access i s ≡ None → is_store i ≡ false
no_access_no_store (Store kind rs1 rs2 imm) s is = cc
no_access_no_store (Lui rd imm) s is = refl
no_access_no_store (Auipc rd imm) s is = refl
no_access_no_store (Jal rd imm) s is = refl
no_access_no_store (Jalr rd rs1 imm) s is = refl
no_access_no_store (Branch cond rs1 rs2 imm) s is = refl
no_access_no_store (Load kind rd rs1 imm) s is = refl
no_access_no_store (OpImm op rd rs1 imm uw) s is = refl
no_access_no_store (Op op rd rs1 rs2 uw) s is = refl
no_access_no_store Fence s is = refl
no_access_no_store Ecall s is = refl
no_access_no_store Ebreak s is = refl

-- two guards with a fault behind each
guards_fault : (b d : Bool) (answer : Answer) (f g : RunFault) → (b ≡ true → d ≡ true → ⊥) → (h : RunFault) × ((if b then (if d then answer else Fault f) else Fault g) ≡ Fault h)
guards_fault true true answer f g not_both = absurd (not_both refl refl)
guards_fault true false answer f g not_both = (f, refl)
guards_fault false d answer f g not_both = (g, refl)

guards_pass : (b d : Bool) (answer p q : Answer) → b ≡ true → d ≡ true → (if b then (if d then answer else p) else q) ≡ answer
guards_pass b d answer p q first second = rw (first, second) refl

store_faults : (s : State) (kind : Kind) (address value : ℕ) → ((address % width kind ≡ 0) × (address < MEMORY_END) → ⊥) → (f : RunFault) × (store s kind address value ≡ Fault f)
unfolding store
store_faults s kind address value bad =
    guards_fault (address % width kind == 0) (nat_lt address MEMORY_END) _ _ _ (λ p q. bad (eqb-true _ _ p, ltb-true _ _ q))

store_leads_on : (s : State) (kind : Kind) (address value : ℕ) → (address % width kind ≡ 0) × (address < MEMORY_END) → store s kind address value ≡ next_with_store s kind address value
unfolding store
store_leads_on s kind address value good =
    guards_pass (address % width kind == 0) (nat_lt address MEMORY_END) _ _ _ (eq-eqb _ _ good.0) (lt-ltb _ _ good.1)

-- what an access at a bad address leaves: the memory, or a fault
abbrev KeepsOrFaults : Instr → State → Type 0
KeepsOrFaults i s = (memory_after i s ≡ s.word) ⊎ ((f : RunFault) × (executed i s ≡ Fault f))

bad_access : (i : Instr) (s : State) (a : Access) → access i s ≡ Some a → (IsGood a → ⊥) → KeepsOrFaults i s
bad_access (Store kind rs1 rs2 imm) s a is bad =
    let address : ℕ = wrapped (reg s rs1 + bits_of imm) in
    let same : record { kind = kind; address = address; value = reg s rs2 } ≡ a = cc in
    inr (store_faults s kind address (reg s rs2) (subst (λ b. IsGood b → ⊥) (sym same) bad))
bad_access (Lui rd imm) s a is bad = inl refl
bad_access (Auipc rd imm) s a is bad = inl refl
bad_access (Jal rd imm) s a is bad = inl refl
bad_access (Jalr rd rs1 imm) s a is bad = inl refl
bad_access (Branch cond rs1 rs2 imm) s a is bad = inl refl
bad_access (Load kind rd rs1 imm) s a is bad = inl refl
bad_access (OpImm op rd rs1 imm uw) s a is bad = inl refl
bad_access (Op op rd rs1 rs2 uw) s a is bad = inl refl
bad_access Fence s a is bad = inl refl
bad_access Ecall s a is bad = inl refl
bad_access Ebreak s a is bad = inl refl

-- a store at a good address leads on, and changes the doubleword that it touches
record Stores (i : Instr) (s : State) (a : Access) : Type 0 where
  pub on : (t : State) × (executed i s ≡ Next t)
  pub memory : memory_after i s ≡ with_word s.word (a.address / 8) (aligned a.kind (a.address % 8) (s.word (a.address / 8)) a.value)

good_store : (i : Instr) (s : State) (a : Access) → is_store i ≡ true → access i s ≡ Some a → IsGood a → Stores i s a
good_store (Store kind rs1 rs2 imm) s a store_is is good =
    let address : ℕ = wrapped (reg s rs1 + bits_of imm) in
    let same : record { kind = kind; address = address; value = reg s rs2 } ≡ a = cc in
    subst (Stores (Store kind rs1 rs2 imm) s) same record {
      on = (_, store_leads_on s kind address (reg s rs2) (subst IsGood (sym same) good));
      memory = refl;
    }
good_store (Lui rd imm) s a store_is is good = cc
good_store (Auipc rd imm) s a store_is is good = cc
good_store (Jal rd imm) s a store_is is good = cc
good_store (Jalr rd rs1 imm) s a store_is is good = cc
good_store (Branch cond rs1 rs2 imm) s a store_is is good = cc
good_store (Load kind rd rs1 imm) s a store_is is good = cc
good_store (OpImm op rd rs1 imm uw) s a store_is is good = cc
good_store (Op op rd rs1 rs2 uw) s a store_is is good = cc
good_store Fence s a store_is is good = cc
good_store Ecall s a store_is is good = cc
good_store Ebreak s a store_is is good = cc

fault_no_next : (answer : Answer) (f : RunFault) (t : State) → answer ≡ Fault f → answer ≡ Next t → ⊥
fault_no_next answer f t p q = let clash : Fault f ≡ Next t = sym p ∙ q in cc

halt_no_next : (answer : Answer) (t : State) → answer ≡ Halt → answer ≡ Next t → ⊥
halt_no_next answer t p q = let clash : Halt ≡ Next t = sym p ∙ q in cc

-- a step that writes no doubleword
leads_kept : (i : Instr) (image : Img) (c d : Cpu) (words : List (ℕ × ℕ)) (r : StepAnswer) → executed i (state_of (plain image c words)) ≡ told r d (memory_after i (state_of (plain image c words))) → KeepsUnlessNext r c d → KeepsOrFaults i (state_of (plain image c words)) → Leads (executed i (state_of (plain image c words))) r (plain image c words) (plain image d words)
leads_kept i image c d words answers.Next does kept keeps = elim keeps [
  | inl same ↦ (refl, does ∙ ap (λ m. Next (with_memory d m)) same)
  | inr faults ↦ absurd (fault_no_next _ faults.0 _ faults.1 does)
]
leads_kept i image c d words answers.Halt does kept keeps = (ap (λ e. plain image e words) kept, does)
leads_kept i image c d words (answers.Fault f) does kept keeps = (ap (λ e. plain image e words) kept, does)

-- a step that writes one
leads_stored : (i : Instr) (image : Img) (c d : Cpu) (words written : List (ℕ × ℕ)) (r : StepAnswer) (a : Access) → Stores i (state_of (plain image c words)) a → executed i (state_of (plain image c words)) ≡ told r d (memory_after i (state_of (plain image c words))) → ((k : ℕ) → word_of image written k ≡ with_word (word_of image words) (a.address / 8) (aligned a.kind (a.address % 8) (word_of image words (a.address / 8)) a.value) k) → Leads (executed i (state_of (plain image c words))) r (plain image c words) (plain image d written)
leads_stored i image c d words written answers.Next a stores does each = (refl, does ∙ ap (λ m. Next (with_memory d m)) (stores.memory ∙ sym (fun_ext each)))
leads_stored i image c d words written answers.Halt a stores does each = absurd (halt_no_next _ stores.on.0 does stores.on.1)
leads_stored i image c d words written (answers.Fault f) a stores does each = absurd (fault_no_next _ f stores.on.0 does stores.on.1)

-- what an access says of the doubleword that an instruction touches
touches_none : (i : Instr) (s : State) (old : ℕ) → access i s ≡ None → Touches i s old
touches_none i s old is = rw is tt

touches_bad : (i : Instr) (s : State) (a : Access) (old : ℕ) → access i s ≡ Some a → (IsGood a → ⊥) → Touches i s old
touches_bad i s a old is bad = rw is (λ good. absurd (bad good))

touches_good : (i : Instr) (s : State) (a : Access) (old : ℕ) → access i s ≡ Some a → s.word (a.address / 8) ≡ old → Touches i s old
touches_good i s a old is here = rw is (λ good. here)

-- what `apply` ensures
abbrev Applies : Instr → Cpu → ℕ → StepAnswer → Cpu → Type 0
Applies i c old r d = (word : ℕ → ℕ) → Touches i (with_memory c word) old → executed i (with_memory c word) ≡ told r d (memory_after i (with_memory c word))

pub step_plain : (i : Instr) (image : Img) (c d : Cpu) (words : List (ℕ × ℕ)) (r : StepAnswer) → access i (state_of (plain image c words)) ≡ None → Applies i c 0 r d → KeepsUnlessNext r c d → Leads (executed i (state_of (plain image c words))) r (plain image c words) (plain image d words)
step_plain i image c d words r is applies kept =
    leads_kept i image c d words r (applies (word_of image words) (touches_none i _ 0 is)) kept (inl (memory_kept i _ (no_access_no_store i _ is)))

pub step_bad : (i : Instr) (image : Img) (c d : Cpu) (words : List (ℕ × ℕ)) (r : StepAnswer) (a : Access) → access i (state_of (plain image c words)) ≡ Some a → (IsGood a → ⊥) → Applies i c 0 r d → KeepsUnlessNext r c d → Leads (executed i (state_of (plain image c words))) r (plain image c words) (plain image d words)
step_bad i image c d words r a is bad applies kept =
    leads_kept i image c d words r (applies (word_of image words) (touches_bad i _ a 0 is bad)) kept (bad_access i _ a is bad)

pub step_load : (i : Instr) (image : Img) (c d : Cpu) (words : List (ℕ × ℕ)) (r : StepAnswer) (a : Access) (old : ℕ) → access i (state_of (plain image c words)) ≡ Some a → is_store i ≡ false → old ≡ word_of image words (a.address / 8) → Applies i c old r d → KeepsUnlessNext r c d → Leads (executed i (state_of (plain image c words))) r (plain image c words) (plain image d words)
step_load i image c d words r a old is no_store here applies kept =
    leads_kept i image c d words r (applies (word_of image words) (touches_good i _ a old is (sym here))) kept (inl (memory_kept i _ no_store))

pub step_store : (i : Instr) (image : Img) (c d : Cpu) (words written : List (ℕ × ℕ)) (r : StepAnswer) (a : Access) (old : ℕ) → access i (state_of (plain image c words)) ≡ Some a → IsGood a → is_store i ≡ true → old ≡ word_of image words (a.address / 8) → ((k : ℕ) → word_of image written k ≡ with_word (word_of image words) (a.address / 8) (aligned a.kind (a.address % 8) old a.value) k) → Applies i c old r d → Leads (executed i (state_of (plain image c words))) r (plain image c words) (plain image d written)
step_store i image c d words written r a old is good store_is here each applies =
    leads_stored i image c d words written r a (good_store i _ a store_is is good) (applies (word_of image words) (touches_good i _ a old is (sym here)))
    (subst (λ (v : ℕ). (k : ℕ) → word_of image written k ≡ with_word (word_of image words) (a.address / 8) (aligned a.kind (a.address % 8) v a.value) k) here each)
