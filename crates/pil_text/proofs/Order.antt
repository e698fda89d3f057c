-- From the least places of the rules to the first rule that is broken.
use Rattle.std.proofs.Common.{◌∷◌, refl, ℕ, ◌≡◌, ◌<◌, ◌≤◌, List, [], Option, Some, None, Contains, arith, sym, subst, ◌∙◌}
use Rattle.pil_names.specs.Outline.{Outline}
use Rattle.pil_names.specs.Least.{least, IsLeast}
use Rattle.pil_names.specs.Wrongs.{repeated, unknown, bad_rows, mixed, wrong_widths}
use Rattle.pil_meaning.specs.Marks.{double}
use Rattle.pil_text.specs.declared.error.PilErr.{PilErr}
use Rattle.pil_text.specs.declared.error.PilKind.{PilKind}
use Rattle.pil_text.specs.declared.error.PilKind.TheVariants.{BadByte, NumberTooLarge, Unexpected, TooDeep, Repeated, UnknownName, BadRow, Mixed, WrongWidth, CyclicPol, DoubleMark, NoMemory}
use Rattle.pil_text.specs.Refusal.{IsWrong, IsCyclic, IsClear, Breaks, UnlessMemory, turn}

nowhere : (ns : List ℕ) (at : ℕ) → ns ≡ [] → Contains ns at → ⊥
nowhere ns at e c = let none : Contains [] at = subst (λ xs. Contains xs at) e c in absurd (omega (arith, none.1))

-- no rule is broken that is tested before
pub before : (n : ℕ) (o : Outline) → n ≤ 9 → IsClear n o → (k : PilKind) (at : ℕ) → turn k < n → IsWrong k o at → ⊥
before n o few c BadByte at l w = w
before n o few c NumberTooLarge at l w = w
before n o few c Unexpected at l w = w
before n o few c TooDeep at l w = w
before n o few c Repeated at l w = nowhere (repeated o) at (c.repeated l) w
before n o few c UnknownName at l w = nowhere (unknown o) at (c.unknown l) w
before n o few c BadRow at l w = nowhere (bad_rows o) at (c.rows l) w
before n o few c Mixed at l w = nowhere (mixed o) at (c.mixed l) w
before n o few c WrongWidth at l w = nowhere (wrong_widths o) at (c.widths l) w
before n o few c CyclicPol at l w = c.cyclic l at w
before n o few c DoubleMark at l w = nowhere (double o) at (c.double l) w
before n o few c NoMemory at l w = w

-- the least place of a rule's list is refused, where the rules before are kept
pub breaks : (o : Outline) (k : PilKind) (e : PilErr) → IsClear (turn k) o → turn k ≤ 9 → e.kind ≡ k → IsWrong k o e.at → ((at : ℕ) → IsWrong k o at → e.at ≤ at) → Breaks o e
breaks o k e c few same wrong low = record {
  wrong = subst (λ j. IsWrong j o e.at) (sym same) wrong;
  least = λ at w. low at (subst (λ j. IsWrong j o at) same w);
  first = λ j at l w. before (turn k) o few c j at (subst (λ i. turn j < turn i) same l) w;
}

pub start : (o : Outline) → IsClear 2 o
start o = record { repeated = λ l. absurd (omega arith); unknown = λ l. absurd (omega arith); rows = λ l. absurd (omega arith); mixed = λ l. absurd (omega arith); widths = λ l. absurd (omega arith); cyclic = λ l. absurd (omega arith); double = λ l. absurd (omega arith) }

pub past_repeated : (o : Outline) → repeated o ≡ [] → IsClear 3 o
past_repeated o a = record { repeated = λ l. a; unknown = λ l. absurd (omega arith); rows = λ l. absurd (omega arith); mixed = λ l. absurd (omega arith); widths = λ l. absurd (omega arith); cyclic = λ l. absurd (omega arith); double = λ l. absurd (omega arith) }

pub past_unknown : (o : Outline) → IsClear 3 o → unknown o ≡ [] → IsClear 4 o
past_unknown o c a = record { repeated = λ l. c.repeated (omega arith); unknown = λ l. a; rows = λ l. absurd (omega arith); mixed = λ l. absurd (omega arith); widths = λ l. absurd (omega arith); cyclic = λ l. absurd (omega arith); double = λ l. absurd (omega arith) }

pub past_rows : (o : Outline) → IsClear 4 o → bad_rows o ≡ [] → IsClear 5 o
past_rows o c a = record { repeated = λ l. c.repeated (omega arith); unknown = λ l. c.unknown (omega arith); rows = λ l. a; mixed = λ l. absurd (omega arith); widths = λ l. absurd (omega arith); cyclic = λ l. absurd (omega arith); double = λ l. absurd (omega arith) }

pub past_mixed : (o : Outline) → IsClear 5 o → mixed o ≡ [] → IsClear 6 o
past_mixed o c a = record { repeated = λ l. c.repeated (omega arith); unknown = λ l. c.unknown (omega arith); rows = λ l. c.rows (omega arith); mixed = λ l. a; widths = λ l. absurd (omega arith); cyclic = λ l. absurd (omega arith); double = λ l. absurd (omega arith) }

pub past_widths : (o : Outline) → IsClear 6 o → wrong_widths o ≡ [] → IsClear 7 o
past_widths o c a = record { repeated = λ l. c.repeated (omega arith); unknown = λ l. c.unknown (omega arith); rows = λ l. c.rows (omega arith); mixed = λ l. c.mixed (omega arith); widths = λ l. a; cyclic = λ l. absurd (omega arith); double = λ l. absurd (omega arith) }

pub past_cyclic : (o : Outline) → IsClear 7 o → ((at : ℕ) → IsCyclic o at → ⊥) → IsClear 8 o
past_cyclic o c a = record { repeated = λ l. c.repeated (omega arith); unknown = λ l. c.unknown (omega arith); rows = λ l. c.rows (omega arith); mixed = λ l. c.mixed (omega arith); widths = λ l. c.widths (omega arith); cyclic = λ l. a; double = λ l. absurd (omega arith) }

pub past_double : (o : Outline) → IsClear 8 o → double o ≡ [] → IsClear 9 o
past_double o c a = record { repeated = λ l. c.repeated (omega arith); unknown = λ l. c.unknown (omega arith); rows = λ l. c.rows (omega arith); mixed = λ l. c.mixed (omega arith); widths = λ l. c.widths (omega arith); cyclic = λ l. c.cyclic (omega arith); double = λ l. a }

-- the same for a rule whose places are a list
pub told : IsLeast → (o : Outline) (k : PilKind) (ns : List ℕ) (found : Option ℕ) (e : PilErr) → IsClear (turn k) o → turn k ≤ 9 → ((at : ℕ) → IsWrong k o at ≡ Contains ns at) → found ≡ least ns → e.kind ≡ k → found ≡ Some e.at → Breaks o e
told is_least o k ns found e c few same at_least kind at =
    let is : least ns ≡ Some e.at = sym at_least ∙ at in
    breaks o k e c few kind (subst (λ T. T) (sym (same e.at)) (is_least.among ns e.at is)) (λ a w. is_least.lowest ns e.at is a (subst (λ T. T) (same a) w))

pub kept : IsLeast → (ns : List ℕ) (found : Option ℕ) → found ≡ least ns → found ≡ None → ns ≡ []
kept is_least ns found at_least none = is_least.none ns (sym at_least ∙ none)

-- a broken rule is told, and no want of memory
pub unless : (o : Outline) (e : PilErr) → Breaks o e → UnlessMemory e.kind (Breaks o e)
unless o e b = by e.kind b
  where
    by : (k : PilKind) → Breaks o e → UnlessMemory k (Breaks o e)
    by BadByte b = b
    by NumberTooLarge b = b
    by Unexpected b = b
    by TooDeep b = b
    by Repeated b = b
    by UnknownName b = b
    by BadRow b = b
    by Mixed b = b
    by WrongWidth b = b
    by CyclicPol b = b
    by DoubleMark b = b
    by NoMemory b = tt

-- no rule is broken
pub right : (o : Outline) → IsClear 9 o → (k : PilKind) (at : ℕ) → IsWrong k o at → ⊥
right o c NoMemory at w = w
right o c BadByte at w = w
right o c NumberTooLarge at w = w
right o c Unexpected at w = w
right o c TooDeep at w = w
right o c Repeated at w = before 9 o (omega arith) c Repeated at (omega arith) w
right o c UnknownName at w = before 9 o (omega arith) c UnknownName at (omega arith) w
right o c BadRow at w = before 9 o (omega arith) c BadRow at (omega arith) w
right o c Mixed at w = before 9 o (omega arith) c Mixed at (omega arith) w
right o c WrongWidth at w = before 9 o (omega arith) c WrongWidth at (omega arith) w
right o c CyclicPol at w = before 9 o (omega arith) c CyclicPol at (omega arith) w
right o c DoubleMark at w = before 9 o (omega arith) c DoubleMark at (omega arith) w

-- a rule that is broken nowhere has no place
pub nothing : (ns : List ℕ) → ((at : ℕ) → Contains ns at → ⊥) → ns ≡ []
nothing [] h = refl
nothing (n ∷ ns) h = absurd (h n (0, omega arith, refl))

pub clear_of : (o : Outline) → ((k : PilKind) (at : ℕ) → IsWrong k o at → ⊥) → IsClear 9 o
clear_of o h = record { repeated = λ l. nothing (repeated o) (h Repeated); unknown = λ l. nothing (unknown o) (h UnknownName); rows = λ l. nothing (bad_rows o) (h BadRow); mixed = λ l. nothing (mixed o) (h Mixed); widths = λ l. nothing (wrong_widths o) (h WrongWidth); cyclic = λ l. h CyclicPol; double = λ l. nothing (double o) (h DoubleMark) }
