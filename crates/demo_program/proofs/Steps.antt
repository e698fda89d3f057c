-- Which instructions lead on, and keep x0 and x5.
use Rattle.std.proofs.Common.{◌≡◌, ◌≢◌, ◌==◌, ◌+◌, ◌*◌, ◌/◌, ◌%◌, ◌^◌, ◌<◌, ◌≤◌, ℕ, ℤ, pos, Bool, true, false, nat_lt, List, length, slice_index, slice_set, if◌then◌else◌, refl, sym, subst, ◌∙◌, arith}
use Rattle.std.proofs.lemmas.Int.{ints}
use Rattle.std.proofs.lemmas.Bool.{eq-eqb, lt-ltb, cond_both}
use Rattle.std.proofs.lemmas.List.{get_or-set_same, get_or-set_other, length-set}
use Rattle.rv_word.specs.declared.instr.Kind.TheVariants.{Ld, Sd}
use Rattle.rv_word.specs.declared.instr.OpNo.{OpNo}
use Rattle.rv_word.specs.declared.instr.Instr.{Instr}
use Rattle.rv_word.specs.declared.instr.Instr.TheVariants.{Load, Store, OpImm, Op}
use Rattle.rv_model.specs.Op.{bits_of}
use Rattle.rv_model.specs.Align.{aligned}
use Rattle.rv_model.specs.State.{State, Answer, Next, wrapped, reg, with_reg, next_with_reg, next_with_store, executed, load, store}
use Rattle.rv_model.specs.declared.machine.TheConstants.{MEMORY_END}

-- 32 registers, of which x0 is 0 and x5 has a value
pub record Holds (b : ℕ) (x : List ℕ) : Type 0 where
  pub all : length x ≡ 32
  pub zero : slice_index x 0 ≡ 0
  pub base : slice_index x 5 ≡ b

-- the answer leads from s on to the next instruction with such registers
pub record Leads (b : ℕ) (s : State) (a : Answer) : Type 0 where
  pub state : State
  pub is : a ≡ Next state
  pub pc : state.pc ≡ wrapped (s.pc + 4)
  pub holds : Holds b state.x

-- wherever x5 has this value, the instruction leads on and leaves it
abbrev pub LeadsOn : ℕ → Instr → Type 0
LeadsOn b i = (s : State) → Holds b s.x → Leads b s (executed i s)

-- a write to another register
kept : (b : ℕ) (x : List ℕ) (r v : ℕ) → r ≢ 0 → r ≢ 5 → Holds b x → Holds b (slice_set x r v)
kept b x r v other far h = record {
  all = length-set x r v ∙ h.all;
  zero = get_or-set_other x r 0 v 0 (λ e. other (sym e)) ∙ h.zero;
  base = get_or-set_other x r 5 v 0 (λ e. far (sym e)) ∙ h.base;
}

pub written : (b : ℕ) (x : List ℕ) (r v : ℕ) → 6 ≤ r → Holds b x → Holds b (with_reg x r v)
written b x r v high h =
    let P : List ℕ → Type 0 = Holds b in
    cond_both (r == 0) x (slice_set x r v) P (λ e. h) (λ e. kept b x r v (omega arith) (omega arith) h)

-- a value comes into x6 or a higher register
pub leads_with_reg : (b : ℕ) (s : State) (r v : ℕ) → 6 ≤ r → Holds b s.x → Leads b s (next_with_reg s r v)
leads_with_reg b s r v high h = record {
  state = record { pc = wrapped (s.pc + 4); x = with_reg s.x r v; word = s.word };
  is = refl;
  pc = refl;
  holds = written b s.x r v high h;
}

-- a value comes into x5
pub leads_with_base : (a b : ℕ) (s : State) → Holds a s.x → Leads b s (next_with_reg s 5 b)
leads_with_base a b s h = record {
  state = record { pc = wrapped (s.pc + 4); x = slice_set s.x 5 b; word = s.word };
  is = refl;
  pc = refl;
  holds = record {
    all = length-set s.x 5 b ∙ h.all;
    zero = get_or-set_other s.x 5 0 b 0 (omega arith) ∙ h.zero;
    base = get_or-set_same s.x 5 b 0 (omega (arith, h.all));
  };
}

pub operation_leads : (b : ℕ) (o : OpNo) (rd rs1 rs2 : ℕ) → 6 ≤ rd → LeadsOn b (Op o rd rs1 rs2 false)
operation_leads b o rd rs1 rs2 high s h = leads_with_reg b s rd _ high h

pub set_leads : (b : ℕ) (o : OpNo) (rd rs1 : ℕ) (z : ℤ) → 6 ≤ rd → LeadsOn b (OpImm o rd rs1 z false)
set_leads b o rd rs1 z high s h = leads_with_reg b s rd _ high h

-- a doubleword within memory
guards : (p q : Bool) (answer f g : Answer) → p ≡ true → q ≡ true → (if p then (if q then answer else f) else g) ≡ answer
guards p q answer f g first second = rw (first, second) refl

load_is : (s : State) (rd a : ℕ) → a % 8 ≡ 0 → a < MEMORY_END → load s Ld rd a ≡ next_with_reg s rd (aligned Ld (a % 8) (s.word (a / 8)) 0)
unfolding load
load_is s rd a multiple below = guards (a % 8 == 0) (nat_lt a MEMORY_END) _ _ _ (eq-eqb _ _ multiple) (lt-ltb _ _ below)

store_is : (s : State) (a v : ℕ) → a % 8 ≡ 0 → a < MEMORY_END → store s Sd a v ≡ next_with_store s Sd a v
unfolding store
store_is s a v multiple below = guards (a % 8 == 0) (nat_lt a MEMORY_END) _ _ _ (eq-eqb _ _ multiple) (lt-ltb _ _ below)

-- a base of doublewords, with all offsets below 2,048 in memory
abbrev pub IsBase : ℕ → Type 0
IsBase b = (b % 8 ≡ 0) × (b < 2 ^ 31)

address_is : (x b q : ℕ) → x ≡ b → IsBase b → q < 256 → wrapped (x + bits_of (pos (8 * q))) ≡ b + 8 * q
address_is x b q e is less = grind (arith, ints)

multiple_of_8 : (b q : ℕ) → IsBase b → (b + 8 * q) % 8 ≡ 0
multiple_of_8 b q is = omega arith

in_memory : (b q : ℕ) → IsBase b → q < 256 → b + 8 * q < MEMORY_END
in_memory b q is less = omega arith

stored : (b : ℕ) (s : State) (a v : ℕ) → Holds b s.x → Leads b s (next_with_store s Sd a v)
stored b s a v h = record {
  state = _;
  is = refl;
  pc = refl;
  holds = h;
}

pub load_leads : (b rd q : ℕ) → IsBase b → 6 ≤ rd → q < 256 → LeadsOn b (Load Ld rd 5 (pos (8 * q)))
load_leads b rd q is high less s h =
    let a : ℕ = wrapped (reg s 5 + bits_of (pos (8 * q))) in
    let e : a ≡ b + 8 * q = address_is (reg s 5) b q h.base is less in
    let multiple : a % 8 ≡ 0 = subst (λ (n : ℕ). n % 8 ≡ 0) (sym e) (multiple_of_8 b q is) in
    let below : a < MEMORY_END = subst (λ (n : ℕ). n < MEMORY_END) (sym e) (in_memory b q is less) in
    subst (Leads b s) (sym (load_is s rd a multiple below)) (leads_with_reg b s rd _ high h)

pub store_leads : (b rs2 q : ℕ) → IsBase b → q < 256 → LeadsOn b (Store Sd 5 rs2 (pos (8 * q)))
store_leads b rs2 q is less s h =
    let a : ℕ = wrapped (reg s 5 + bits_of (pos (8 * q))) in
    let e : a ≡ b + 8 * q = address_is (reg s 5) b q h.base is less in
    let multiple : a % 8 ≡ 0 = subst (λ (n : ℕ). n % 8 ≡ 0) (sym e) (multiple_of_8 b q is) in
    let below : a < MEMORY_END = subst (λ (n : ℕ). n < MEMORY_END) (sym e) (in_memory b q is less) in
    subst (Leads b s) (sym (store_is s a (reg s rs2) multiple below)) (stored b s a (reg s rs2) h)
