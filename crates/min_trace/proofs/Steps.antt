-- A step of the run by what the replay finds of it.
use Rattle.std.proofs.Common.{◌≡◌, ◌==◌, ◌+◌, ◌/◌, ◌%◌, ◌<◌, ◌^◌, ℕ, suc, true, false, nat_lt, if◌then◌else◌, List, ◌∷◌, length, drop, get_or, Option, Some, None, IsSome, IfSome, refl, ap, sym, subst, ◌∙◌, arith, add-one}
use Rattle.std.specs.Option.{OnSome}
use Rattle.std.proofs.lemmas.Bool.{eqb-true, ltb-true}
use Rattle.std.proofs.lemmas.List.{get_or-drop, length-drop}
use Rattle.rv_word.specs.declared.instr.Kind.{Kind}
use Rattle.rv_word.specs.declared.instr.Instr.{Instr}
use Rattle.rv_word.specs.declared.instr.Instr.TheVariants.{Lui, Auipc, Jal, Jalr, Branch, Load, Store, OpImm, Op, Fence, Ecall, Ebreak}
use Rattle.rv_word.specs.Is.{decoded}
use Rattle.rv_model.specs.Image.{Img, fetch}
use Rattle.rv_model.specs.Code.{instr_of}
use Rattle.rv_model.specs.Align.{width}
use Rattle.rv_model.specs.State.{State, Answer, Fault, step, executed, executed_fetch, executed_word, load, store, at_address}
use Rattle.rv_model.specs.Cpu.{cpu_of, with_memory, access, IsGood, Touches, told, memory_after, KeepsUnlessNext}
use Rattle.rv_model.specs.Run.{state_at, step_at, moved}
use Rattle.rv_model.specs.declared.access.Access.{Access}
use Rattle.rv_model.specs.declared.answer.RunFault.TheVariants.{Misaligned, BadAddress}
use Rattle.rv_model.specs.declared.answer.StepAnswer.{StepAnswer}
use Rattle.rv_model.specs.declared.answer.StepAnswer.TheVariants as answers
use Rattle.rv_model.specs.declared.cpu.Cpu.{Cpu}
use Rattle.min_trace.specs.declared.record.MemAct.{MemAct}
use Rattle.min_trace.specs.Record.{instr_at, act, old_of, onward, cpu_at, mem_at, record_of, record_at, old_at}
use Rattle.min_trace.specs.Chunk.{IsStep}
use Rattle.min_trace.specs.Found.{old_found, next_told, IsFront}

-- an instruction of the run, at a step that doesn't fault
pub record IsInstruction (image : Img) (j : ℕ) (i : Instr) : Type 0 where
  pub named : instr_at image j ≡ i
  pub is : step_at image j ≡ executed i (state_at image j)
  pub good : IsStep (executed i (state_at image j))

decodes : (f : Option ℕ) (s : State) → IsStep (executed_fetch f s) → IsSome (instr_of f)
decodes None s h = absurd h
decodes (Some w) s h =
    elim (decoded w) as (λ i. IsStep (executed_word i w s) → IsSome i) [ None ↦ λ k. absurd k | Some i ↦ λ k. refl ] h

pub there_at : (image : Img) (j : ℕ) (cpu : Cpu) → cpu ≡ cpu_at image j → IsStep (step_at image j) → IsSome (instr_of (fetch image cpu.pc))
unfolding step
there_at image j cpu same h = subst (λ (c : Cpu). IsSome (instr_of (fetch image c.pc))) (sym same) (decodes (fetch image (state_at image j).pc) (state_at image j) h)

fetched_is : (f : Option ℕ) (s : State) (i : Instr) → instr_of f ≡ Some i → executed_fetch f s ≡ executed i s
fetched_is None s i e = cc
fetched_is (Some w) s i e = rw e refl

pub instruction_at : (image : Img) (j : ℕ) (cpu : Cpu) (i : Instr) → cpu ≡ cpu_at image j → IsStep (step_at image j) → instr_of (fetch image cpu.pc) ≡ Some i → IsInstruction image j i
unfolding step instr_at
instruction_at image j cpu i same h e =
    let here : instr_of (fetch image (state_at image j).pc) ≡ Some i = subst (λ (c : Cpu). instr_of (fetch image c.pc) ≡ Some i) same e in
    let is : step_at image j ≡ executed i (state_at image j) = fetched_is (fetch image (state_at image j).pc) (state_at image j) i here in
    record { named = rw here refl; is = is; good = subst IsStep is h }

-- an access that doesn't fault is good
good_at_address : (s : State) (kind : Kind) (address : ℕ) (b : Answer) → IsStep (at_address s kind address b) → (address % width kind ≡ 0) × (address < 2 ^ 32)
good_at_address s kind address b =
    elim (address % width kind == 0) as (λ u. (address % width kind == 0) ≡ u → IsStep (if u then (if nat_lt address (2 ^ 32) then b else Fault (BadAddress s.pc address)) else Fault (Misaligned s.pc address)) → (address % width kind ≡ 0) × (address < 2 ^ 32)) [
      | true ↦ λ m. elim (nat_lt address (2 ^ 32)) as (λ u. nat_lt address (2 ^ 32) ≡ u → IsStep (if u then b else Fault (BadAddress s.pc address)) → (address % width kind ≡ 0) × (address < 2 ^ 32)) [
        | true ↦ λ l h. (eqb-true _ _ m, ltb-true _ _ l)
        | false ↦ λ l h. absurd h
      ] refl
      | false ↦ λ m h. absurd h
    ] refl

pub good_access : (i : Instr) (s : State) → IsStep (executed i s) → IfSome (access i s) IsGood
unfolding load store
good_access (Load kind rd rs1 imm) s h = good_at_address s kind _ _ h
good_access (Store kind rs1 rs2 imm) s h = good_at_address s kind _ _ h
good_access (Lui rd imm) s h = tt
good_access (Auipc rd imm) s h = tt
good_access (Jal rd imm) s h = tt
good_access (Jalr rd rs1 imm) s h = tt
good_access (Branch cond rs1 rs2 imm) s h = tt
good_access (OpImm op rd rs1 imm uw) s h = tt
good_access (Op op rd rs1 rs2 uw) s h = tt
good_access Fence s h = tt
good_access Ecall s h = tt
good_access Ebreak s h = tt

at_front : (olds : List ℕ) (at v : ℕ) (rest : List ℕ) → drop at olds ≡ v ∷ rest → get_or olds at 0 ≡ v
at_front olds at v rest e =
    let zero_more : at + 0 ≡ at = omega arith in
    sym (ap (λ n. get_or olds n 0) zero_more) ∙ sym (get_or-drop at olds 0 0) ∙ ap (λ xs. get_or xs 0 0) e

-- the access, by the doubleword at the front of the list
act_is : (a : Option Access) (word : ℕ → ℕ) (olds : List ℕ) (at : ℕ) → IsFront (old_of (act a word)) (drop at olds) → act a (λ _. get_or olds at 0) ≡ act a word
act_is None word olds at f = refl
act_is (Some a) word olds at f = let e : get_or olds at 0 ≡ word (a.address / 8) = at_front olds at (word (a.address / 8)) f.0 f.1 in rw e refl

room : (a : Option Access) (word : ℕ → ℕ) (olds : List ℕ) (at : ℕ) → IsFront (old_of (act a word)) (drop at olds) → OnSome a (at < length olds)
room None word olds at f = tt
room (Some a) word olds at f = let long : length (drop at olds) ≡ suc (length f.0) = ap length f.1 in omega (arith, length-drop at olds, long)

touches : (a : Option Access) (word : ℕ → ℕ) (old : ℕ) → old ≡ old_found (act a word) → IfSome a (λ b. IsGood b → word (b.address / 8) ≡ old)
touches None word old e = tt
touches (Some a) word old e = λ good. sym e

-- what was found of the access of the run's instruction
pub access_at : (image : Img) (j : ℕ) (cpu : Cpu) (i : Instr) (found : Option Access) → cpu ≡ cpu_at image j → ((word : ℕ → ℕ) → found ≡ access i (with_memory cpu word)) → found ≡ access i (state_at image j)
access_at image j cpu i found same is = is (state_at image j).word ∙ ap (λ c. access i (with_memory c (state_at image j).word)) same

front_at : (image : Img) (j : ℕ) (i : Instr) (rest : List ℕ) → IsInstruction image j i → IsFront (old_at image j) rest → IsFront (old_of (act (access i (state_at image j)) (state_at image j).word)) rest
unfolding old_at
front_at image j i rest t f = subst (λ k. IsFront (old_of (act (access k (state_at image j)) (state_at image j).word)) rest) t.named f

pub good_found : (image : Img) (j : ℕ) (i : Instr) (found : Option Access) → IsInstruction image j i → found ≡ access i (state_at image j) → IfSome found IsGood
good_found image j i found t e = subst (λ a. IfSome a IsGood) (sym e) (good_access i (state_at image j) t.good)

pub room_found : (image : Img) (j : ℕ) (i : Instr) (found : Option Access) (olds : List ℕ) (at : ℕ) → IsInstruction image j i → found ≡ access i (state_at image j) → IsFront (old_at image j) (drop at olds) → OnSome found (at < length olds)
room_found image j i found olds at t e f =
    subst (λ a. OnSome a (at < length olds)) (sym e) (room (access i (state_at image j)) (state_at image j).word olds at (front_at image j i (drop at olds) t f))

pub mem_is : (image : Img) (j : ℕ) (i : Instr) (found : Option Access) (olds : List ℕ) (at : ℕ) (mem : Option MemAct) → IsInstruction image j i → found ≡ access i (state_at image j) → IsFront (old_at image j) (drop at olds)
    → mem ≡ act found (λ _. get_or olds at 0) → mem ≡ mem_at image j
mem_is image j i found olds at mem t e f m =
    m ∙ ap (λ a. act a (λ _. get_or olds at 0)) e ∙ act_is (access i (state_at image j)) (state_at image j).word olds at (front_at image j i (drop at olds) t f)
    ∙ ap (λ k. act (access k (state_at image j)) (state_at image j).word) (sym t.named)

-- what applying an instruction to pc and registers says of each memory
abbrev pub Applies : Instr → ℕ → Cpu → StepAnswer → Cpu → Type 0
Applies i old cpu answer after = (word : ℕ → ℕ) → Touches i (with_memory cpu word) old → executed i (with_memory cpu word) ≡ told answer after (memory_after i (with_memory cpu word))

answer_at : (image : Img) (j : ℕ) (cpu : Cpu) (i : Instr) (mem : Option MemAct) (old : ℕ) (answer : StepAnswer) (after : Cpu) → cpu ≡ cpu_at image j → IsInstruction image j i → mem ≡ mem_at image j → old ≡ old_found mem
    → Applies i old cpu answer after → step_at image j ≡ told answer after (memory_after i (state_at image j))
answer_at image j cpu i mem old answer after same t m o applies =
    let s : State = state_at image j in
    let here : Applies i old (cpu_at image j) answer after = subst (λ c. Applies i old c answer after) same applies in
    let old_is : old ≡ old_found (act (access i s) s.word) = o ∙ ap old_found (m ∙ ap (λ k. act (access k s) s.word) t.named) in
    t.is ∙ here s.word (touches (access i s) s.word old old_is)

pub state_more : (image : Img) (j : ℕ) → state_at image (j + 1) ≡ moved (state_at image j) (step_at image j)
unfolding state_at
state_more image j = rw add-one refl

cpu_moved : (s : State) (a : Answer) (answer : StepAnswer) (old new : Cpu) (word : ℕ → ℕ) → IsStep a → a ≡ told answer new word → KeepsUnlessNext answer old new → old ≡ cpu_of s → new ≡ cpu_of (moved s a)
cpu_moved s a answers.Next old new word h e k o = rw e refl
cpu_moved s a answers.Halt old new word h e k o = rw e (k ∙ o)
cpu_moved s a (answers.Fault f) old new word h e k o = absurd (subst IsStep e h)

onward_told : (a : Answer) (answer : StepAnswer) (new : Cpu) (word : ℕ → ℕ) → a ≡ told answer new word → next_told answer new.pc ≡ onward a
onward_told a answers.Next new word e = rw e refl
onward_told a answers.Halt new word e = rw e refl
onward_told a (answers.Fault f) new word e = rw e refl

-- what an instruction that was applied has to do with step j
pub record IsApplied (image : Img) (j : ℕ) (cpu : Cpu) (i : Instr) (mem : Option MemAct) (answer : StepAnswer) (after : Cpu) : Type 0 where
  pub new : after ≡ cpu_at image (j + 1)
  pub made : record_of j i cpu mem after (next_told answer after.pc) ≡ record_at image j

pub applied : (image : Img) (j : ℕ) (cpu : Cpu) (i : Instr) (mem : Option MemAct) (old : ℕ) (answer : StepAnswer) (after : Cpu) → cpu ≡ cpu_at image j → IsStep (step_at image j) → IsInstruction image j i → mem ≡ mem_at image j → old ≡ old_found mem
    → Applies i old cpu answer after → KeepsUnlessNext answer cpu after → IsApplied image j cpu i mem answer after
unfolding record_at
applied image j cpu i mem old answer after same h t m o applies kept =
    let e : step_at image j ≡ told answer after (memory_after i (state_at image j)) = answer_at image j cpu i mem old answer after same t m o applies in
    let on : next_told answer after.pc ≡ onward (step_at image j) = onward_told (step_at image j) answer after _ e in
    let new : after ≡ cpu_at image (j + 1) = cpu_moved (state_at image j) (step_at image j) answer cpu after _ h e kept same ∙ sym (ap cpu_of (state_more image j)) in
    record {
      new = new;
      made = ap (λ c. record_of j i c mem after (next_told answer after.pc)) same
          ∙ ap (λ k. record_of j k (cpu_at image j) mem after (next_told answer after.pc)) (sym t.named)
          ∙ ap (λ a. record_of j (instr_at image j) (cpu_at image j) a after (next_told answer after.pc)) m
          ∙ ap (λ n. record_of j (instr_at image j) (cpu_at image j) (mem_at image j) after n) on
          ∙ ap (λ c. record_of j (instr_at image j) (cpu_at image j) (mem_at image j) c (onward (step_at image j))) new;
    }
