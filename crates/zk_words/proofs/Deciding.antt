-- Whether words read as a command.
use Rattle.std.proofs.Common.{◌≡◌, ◌⊎◌, inl, inr, ℕ, zero, suc, ◌+◌, ◌<◌, ◌≤◌, ◌^◌, Bool, true, false, eqb, leb, List, [], ◌∷◌, refl, sym, ap, ◌∙◌, subst, arith}
use Rattle.std.specs.Prelude.{codes, decimal}
use Rattle.std.proofs.Math.ListN.{get_or}
use Rattle.std.proofs.lemmas.Bool.{eqb-true, eqb-false, leb-true, leb-false}
use Rattle.std.proofs.lemmas.Fmt.{decimal_injective}
use Rattle.gold.specs.declared.shapes.Profile.TheVariants.{Small, Wide}
use Rattle.zk_words.specs.declared.command.TheConstants.{MOST_WORKERS}
use Rattle.demo_program.specs.declared.kind.DemoKind.{DemoKind}
use Rattle.demo_program.specs.declared.kind.DemoKind.TheVariants.{Alu, Mul, Mem}
use Rattle.zk_words.specs.Words.{Command, Run, Witness, Check, Pil, Machine, Demo, IsNumber, kind_word, Reads}

-- ---- equal numbers, equal texts

eq_numbers : (x y : ℕ) → (x ≡ y) ⊎ (x ≡ y → ⊥)
eq_numbers x y = elim (eqb x y) as (λ b. eqb x y ≡ b → (x ≡ y) ⊎ (x ≡ y → ⊥)) [ true ↦ λ e. inl (eqb-true x y e) | false ↦ λ e. inr (eqb-false x y e) ] refl

eq_both : (x y : ℕ) (xs ys : List ℕ) → (x ≡ y) ⊎ (x ≡ y → ⊥) → (xs ≡ ys) ⊎ (xs ≡ ys → ⊥) → (x ∷ xs ≡ y ∷ ys) ⊎ (x ∷ xs ≡ y ∷ ys → ⊥)
eq_both x y xs ys (inl e) (inl f) = inl cc
eq_both x y xs ys (inl e) (inr ne) = inr (λ h. ne (cc))
eq_both x y xs ys (inr ne) d = inr (λ h. ne (cc))

eq_texts : (a b : List ℕ) → (a ≡ b) ⊎ (a ≡ b → ⊥)
eq_texts [] [] = inl refl
eq_texts [] (y ∷ ys) = inr (λ h. cc)
eq_texts (x ∷ xs) [] = inr (λ h. cc)
eq_texts (x ∷ xs) (y ∷ ys) = eq_both x y xs ys (eq_numbers x y) (eq_texts xs ys)

-- ---- numbers

abbrev Below : List ℕ → ℕ → Type 0
Below text n = ((k : ℕ) × (k < n) × (text ≡ decimal k)) ⊎ ((k : ℕ) → k < n → text ≡ decimal k → ⊥)

below_more : (text : List ℕ) (n : ℕ) → (text ≡ decimal n) ⊎ (text ≡ decimal n → ⊥) → Below text n → Below text (suc n)
below_more text n (inl e) d = inl (n, omega arith, e)
below_more text n (inr ne) (inl f) = inl (f.0, omega (arith, f.1), f.2)
below_more text n (inr ne) (inr never) =
    inr (λ k lt e. elim (eq_numbers k n) [ inl same ↦ ne (e ∙ ap decimal same) | inr other ↦ never k (omega (arith, lt, other)) e ])

below : (text : List ℕ) (n : ℕ) → Below text n
below text zero = inr (λ k lt e. omega (arith, lt))
below text (suc n) = below_more text n (eq_texts text (decimal n)) (below text n)

one_number : (least end : ℕ) (text : List ℕ) (a b : ℕ) → end ≤ 2 ^ 64 → IsNumber least end text a → b < end → text ≡ decimal b → a ≡ b
one_number least end text a b small h lt e = decimal_injective a b (omega (arith, small, h.2)) (omega (arith, small, lt)) (sym h.0 ∙ e)

abbrev HasNumber : ℕ → ℕ → List ℕ → Type 0
HasNumber least end text = ((n : ℕ) × IsNumber least end text n) ⊎ ((n : ℕ) → IsNumber least end text n → ⊥)

has_number : (least end : ℕ) (text : List ℕ) → end ≤ 2 ^ 64 → Below text end → HasNumber least end text
has_number least end text small (inl f) =
    elim (leb least f.0) as (λ b. leb least f.0 ≡ b → HasNumber least end text) [
      | true ↦ λ e. inl (f.0, (f.2, leb-true least f.0 e, f.1))
      | false ↦ λ e. inr (λ n h. omega (arith, one_number least end text n f.0 small h f.1 f.2, h.1, leb-false least f.0 e))
    ] refl
has_number least end text small (inr never) = inr (λ n h. never n h.2 h.0)

steps_number : (text : List ℕ) → HasNumber 1 (2 ^ 32) text
steps_number text = has_number 1 (2 ^ 32) text (omega arith) (below text (2 ^ 32))

workers_number : (text : List ℕ) → HasNumber 0 (MOST_WORKERS + 1) text
workers_number text = has_number 0 (MOST_WORKERS + 1) text (omega arith) (below text (MOST_WORKERS + 1))

draw_number : (text : List ℕ) → HasNumber 0 (2 ^ 64) text
draw_number text = has_number 0 (2 ^ 64) text (omega arith) (below text (2 ^ 64))

size_number : (text : List ℕ) → HasNumber 1 100001 text
size_number text = has_number 1 100001 text (omega arith) (below text 100001)

-- ---- commands, by how many words they have

abbrev Decided : List (List ℕ) → Type 0
Decided words = ((command : Command) × Reads words command) ⊎ ((command : Command) → Reads words command → ⊥)

none : (command : Command) → Reads [] command → ⊥
none (Run x y n) h = cc
none (Witness x y z n m) h = cc
none (Check x y z) h = cc
none (Pil x y) h = cc
none (Machine Small) h = cc
none (Machine Wide) h = cc
none (Demo n kind m) h = cc

not_one : (a : List ℕ) → (a ≡ codes "machine" → ⊥) → (command : Command) → Reads (a ∷ []) command → ⊥
not_one a ne (Run x y n) h = cc
not_one a ne (Witness x y z n m) h = cc
not_one a ne (Check x y z) h = cc
not_one a ne (Pil x y) h = cc
not_one a ne (Machine Small) h = ne cc
not_one a ne (Machine Wide) h = cc
not_one a ne (Demo n kind m) h = cc

of_one : (a : List ℕ) → (a ≡ codes "machine") ⊎ (a ≡ codes "machine" → ⊥) → Decided (a ∷ [])
of_one a (inl e) = inl (Machine Small, ap (λ (x : List ℕ). x ∷ []) e)
of_one a (inr ne) = inr (not_one a ne)

not_two : (a b : List ℕ) → ((a ≡ codes "machine") → (b ≡ codes "wide") → ⊥) → (command : Command) → Reads (a ∷ b ∷ []) command → ⊥
not_two a b ne (Run x y n) h = cc
not_two a b ne (Witness x y z n m) h = cc
not_two a b ne (Check x y z) h = cc
not_two a b ne (Pil x y) h = cc
not_two a b ne (Machine Small) h = cc
not_two a b ne (Machine Wide) h =
    let first : a ≡ codes "machine" = cc in
    let second : b ≡ codes "wide" = cc in
    ne first second
not_two a b ne (Demo n kind m) h = cc

of_two : (a b : List ℕ) → (a ≡ codes "machine") ⊎ (a ≡ codes "machine" → ⊥) → (b ≡ codes "wide") ⊎ (b ≡ codes "wide" → ⊥) → Decided (a ∷ b ∷ [])
of_two a b (inl e) (inl f) = inl (Machine Wide, ap (λ (x : List ℕ). x ∷ b ∷ []) e ∙ ap (λ (x : List ℕ). codes "machine" ∷ x ∷ []) f)
of_two a b (inl e) (inr ne) = inr (not_two a b (λ first second. ne second))
of_two a b (inr ne) d = inr (not_two a b (λ first second. ne first))

not_three : (a b c : List ℕ) → (a ≡ codes "pil" → ⊥) → (command : Command) → Reads (a ∷ b ∷ c ∷ []) command → ⊥
not_three a b c ne (Run x y n) h = cc
not_three a b c ne (Witness x y z n m) h = cc
not_three a b c ne (Check x y z) h = cc
not_three a b c ne (Pil x y) h = ne cc
not_three a b c ne (Machine Small) h = cc
not_three a b c ne (Machine Wide) h = cc
not_three a b c ne (Demo n kind m) h = cc

of_three : (a b c : List ℕ) → (a ≡ codes "pil") ⊎ (a ≡ codes "pil" → ⊥) → Decided (a ∷ b ∷ c ∷ [])
of_three a b c (inl e) = inl (Pil b c, ap (λ (x : List ℕ). x ∷ b ∷ c ∷ []) e)
of_three a b c (inr ne) = inr (not_three a b c ne)

-- the word of a kind, and no other kind's

abbrev HasKind : List ℕ → Type 0
HasKind text = ((kind : DemoKind) × (text ≡ kind_word kind)) ⊎ ((kind : DemoKind) → text ≡ kind_word kind → ⊥)

of_kind : (text : List ℕ) → (text ≡ codes "alu") ⊎ (text ≡ codes "alu" → ⊥) → (text ≡ codes "mul") ⊎ (text ≡ codes "mul" → ⊥) → (text ≡ codes "mem") ⊎ (text ≡ codes "mem" → ⊥) → HasKind text
of_kind text (inl e) mul mem = inl (Alu, e)
of_kind text (inr ne) (inl e) mem = inl (Mul, e)
of_kind text (inr ne) (inr nf) (inl e) = inl (Mem, e)
of_kind text (inr ne) (inr nf) (inr ng) = inr never
  where
    never : (kind : DemoKind) → text ≡ kind_word kind → ⊥
    never Alu h = ne h
    never Mul h = nf h
    never Mem h = ng h

has_kind : (text : List ℕ) → HasKind text
has_kind text = of_kind text (eq_texts text (codes "alu")) (eq_texts text (codes "mul")) (eq_texts text (codes "mem"))

one_kind : (j k : DemoKind) → kind_word j ≡ kind_word k → j ≡ k
one_kind Alu Alu e = refl
one_kind Alu Mul e = let clash : 97 ≡ 109 = ap (λ (text : List ℕ). get_or text 0 0) e in absurd (omega (arith, clash))
one_kind Alu Mem e = let clash : 97 ≡ 109 = ap (λ (text : List ℕ). get_or text 0 0) e in absurd (omega (arith, clash))
one_kind Mul Alu e = let clash : 109 ≡ 97 = ap (λ (text : List ℕ). get_or text 0 0) e in absurd (omega (arith, clash))
one_kind Mul Mul e = refl
one_kind Mul Mem e = let clash : 117 ≡ 101 = ap (λ (text : List ℕ). get_or text 1 0) e in absurd (omega (arith, clash))
one_kind Mem Alu e = let clash : 109 ≡ 97 = ap (λ (text : List ℕ). get_or text 0 0) e in absurd (omega (arith, clash))
one_kind Mem Mul e = let clash : 101 ≡ 117 = ap (λ (text : List ℕ). get_or text 1 0) e in absurd (omega (arith, clash))
one_kind Mem Mem e = refl

-- the last three words of `demo`
abbrev Draws : List ℕ → List ℕ → List ℕ → Type 0
Draws b c d = (n : ℕ) × (kind : DemoKind) × (m : ℕ) × IsNumber 0 (2 ^ 64) b n × (c ≡ kind_word kind) × IsNumber 1 100001 d m

not_four : (a b c d : List ℕ) → ((a ≡ codes "run") → (n : ℕ) → IsNumber 1 (2 ^ 32) d n → ⊥) → (a ≡ codes "check" → ⊥) → ((a ≡ codes "demo") → Draws b c d → ⊥) → (command : Command) → Reads (a ∷ b ∷ c ∷ d ∷ []) command → ⊥
not_four a b c d run check demo (Run x y n) h =
    let first : a ≡ codes "run" = cc in
    let last : h.0 ≡ d = cc in
    run first n (subst (λ (t : List ℕ). IsNumber 1 (2 ^ 32) t n) last h.2)
not_four a b c d run check demo (Witness x y z n m) h = cc
not_four a b c d run check demo (Check x y z) h = check cc
not_four a b c d run check demo (Pil x y) h = cc
not_four a b c d run check demo (Machine Small) h = cc
not_four a b c d run check demo (Machine Wide) h = cc
not_four a b c d run check demo (Demo n kind m) h =
    let first : a ≡ codes "demo" = cc in
    let text : h.0 ≡ b = cc in
    let named : c ≡ kind_word kind = cc in
    let last : h.1 ≡ d = cc in
    demo first (n, kind, m, subst (λ (t : List ℕ). IsNumber 0 (2 ^ 64) t n) text h.3, named, subst (λ (t : List ℕ). IsNumber 1 100001 t m) last h.4)

run_four : (a b c d : List ℕ) → a ≡ codes "run" → HasNumber 1 (2 ^ 32) d → Decided (a ∷ b ∷ c ∷ d ∷ [])
run_four a b c d e (inl n) = inl (Run b c n.0, (d, ap (λ (x : List ℕ). x ∷ b ∷ c ∷ d ∷ []) e, n.1))
run_four a b c d e (inr never) = inr (not_four a b c d (λ first n is. never n is) (λ first. cc) (λ first is. cc))

has_draws : (b c d : List ℕ) → HasNumber 0 (2 ^ 64) b → HasKind c → HasNumber 1 100001 d → Draws b c d ⊎ (Draws b c d → ⊥)
has_draws b c d (inl n) (inl kind) (inl m) = inl (n.0, kind.0, m.0, n.1, kind.1, m.1)
has_draws b c d (inr never) kind m = inr (λ h. never h.0 h.3)
has_draws b c d (inl n) (inr never) m = inr (λ h. never h.1 h.4)
has_draws b c d (inl n) (inl kind) (inr never) = inr (λ h. never h.2 h.5)

demo_four : (a b c d : List ℕ) → a ≡ codes "demo" → Draws b c d ⊎ (Draws b c d → ⊥) → Decided (a ∷ b ∷ c ∷ d ∷ [])
demo_four a b c d e (inl (n, kind, m, text, named, last)) =
    inl (Demo n kind m, (b, d, ap (λ (x : List ℕ). x ∷ b ∷ c ∷ d ∷ []) e ∙ ap (λ (x : List ℕ). codes "demo" ∷ b ∷ x ∷ d ∷ []) named, text, last))
demo_four a b c d e (inr never) = inr (not_four a b c d (λ first n is. cc) (λ first. cc) (λ first is. never is))

of_four : (a b c d : List ℕ) → (a ≡ codes "run") ⊎ (a ≡ codes "run" → ⊥) → (a ≡ codes "check") ⊎ (a ≡ codes "check" → ⊥) → (a ≡ codes "demo") ⊎ (a ≡ codes "demo" → ⊥) → Decided (a ∷ b ∷ c ∷ d ∷ [])
of_four a b c d (inl e) check demo = run_four a b c d e (steps_number d)
of_four a b c d (inr not_run) (inl e) demo = inl (Check b c d, ap (λ (x : List ℕ). x ∷ b ∷ c ∷ d ∷ []) e)
of_four a b c d (inr not_run) (inr not_check) (inl e) = demo_four a b c d e (has_draws b c d (draw_number b) (has_kind c) (size_number d))
of_four a b c d (inr not_run) (inr not_check) (inr not_demo) = inr (not_four a b c d (λ first n is. not_run first) not_check (λ first is. not_demo first))

not_six : (a b c d s w : List ℕ) → ((a ≡ codes "witness") → (n m : ℕ) → IsNumber 1 (2 ^ 32) s n → IsNumber 0 (MOST_WORKERS + 1) w m → ⊥) → (command : Command) → Reads (a ∷ b ∷ c ∷ d ∷ s ∷ w ∷ []) command → ⊥
not_six a b c d s w never (Run x y n) h = cc
not_six a b c d s w never (Witness x y z n m) h =
    let first : a ≡ codes "witness" = cc in
    let steps : h.0 ≡ s = cc in
    let workers : h.1 ≡ w = cc in
    never first n m (subst (λ (t : List ℕ). IsNumber 1 (2 ^ 32) t n) steps h.3) (subst (λ (t : List ℕ). IsNumber 0 (MOST_WORKERS + 1) t m) workers h.4)
not_six a b c d s w never (Check x y z) h = cc
not_six a b c d s w never (Pil x y) h = cc
not_six a b c d s w never (Machine Small) h = cc
not_six a b c d s w never (Machine Wide) h = cc
not_six a b c d s w never (Demo n kind m) h = cc

of_six : (a b c d s w : List ℕ) → (a ≡ codes "witness") ⊎ (a ≡ codes "witness" → ⊥) → HasNumber 1 (2 ^ 32) s → HasNumber 0 (MOST_WORKERS + 1) w → Decided (a ∷ b ∷ c ∷ d ∷ s ∷ w ∷ [])
of_six a b c d s w (inr ne) n m = inr (not_six a b c d s w (λ first k l ks ls. ne first))
of_six a b c d s w (inl e) (inl n) (inl m) = inl (Witness b c d n.0 m.0, (s, w, ap (λ (x : List ℕ). x ∷ b ∷ c ∷ d ∷ s ∷ w ∷ []) e, n.1, m.1))
of_six a b c d s w (inl e) (inr never) m = inr (not_six a b c d s w (λ first k l ks ls. never k ks))
of_six a b c d s w (inl e) (inl n) (inr never) = inr (not_six a b c d s w (λ first k l ks ls. never l ls))

not_five : (a b c d e : List ℕ) (command : Command) → Reads (a ∷ b ∷ c ∷ d ∷ e ∷ []) command → ⊥
not_five a b c d e (Run x y n) h = cc
not_five a b c d e (Witness x y z n m) h = cc
not_five a b c d e (Check x y z) h = cc
not_five a b c d e (Pil x y) h = cc
not_five a b c d e (Machine Small) h = cc
not_five a b c d e (Machine Wide) h = cc
not_five a b c d e (Demo n kind m) h = cc

not_more : (a b c d e f g : List ℕ) (ws : List (List ℕ)) (command : Command) → Reads (a ∷ b ∷ c ∷ d ∷ e ∷ f ∷ g ∷ ws) command → ⊥
not_more a b c d e f g ws (Run x y n) h = cc
not_more a b c d e f g ws (Witness x y z n m) h = cc
not_more a b c d e f g ws (Check x y z) h = cc
not_more a b c d e f g ws (Pil x y) h = cc
not_more a b c d e f g ws (Machine Small) h = cc
not_more a b c d e f g ws (Machine Wide) h = cc
not_more a b c d e f g ws (Demo n kind m) h = cc

pub decided : (words : List (List ℕ)) → ((command : Command) × Reads words command) ⊎ ((command : Command) → Reads words command → ⊥)
decided [] = inr none
decided (a ∷ []) = of_one a (eq_texts a (codes "machine"))
decided (a ∷ b ∷ []) = of_two a b (eq_texts a (codes "machine")) (eq_texts b (codes "wide"))
decided (a ∷ b ∷ c ∷ []) = of_three a b c (eq_texts a (codes "pil"))
decided (a ∷ b ∷ c ∷ d ∷ []) = of_four a b c d (eq_texts a (codes "run")) (eq_texts a (codes "check")) (eq_texts a (codes "demo"))
decided (a ∷ b ∷ c ∷ d ∷ e ∷ []) = inr (not_five a b c d e)
decided (a ∷ b ∷ c ∷ d ∷ e ∷ f ∷ []) = of_six a b c d e f (eq_texts a (codes "witness")) (steps_number e) (workers_number f)
decided (a ∷ b ∷ c ∷ d ∷ e ∷ f ∷ g ∷ ws) = inr (not_more a b c d e f g ws)

-- ---- one command

pub one : (words : List (List ℕ)) (a b : Command) → Reads words a → Reads words b → a ≡ b
one words (Run x y s) (Run u v t) h k =
    let elf : x ≡ u = cc in
    let input : y ≡ v = cc in
    let same : h.0 ≡ k.0 = cc in
    ap (λ (e : List ℕ). Run e y s) elf ∙ ap (λ (i : List ℕ). Run u i s) input
    ∙ ap (λ (n : ℕ). Run u v n) (one_number 1 (2 ^ 32) h.0 s t (omega arith) h.2 k.2.2 (same ∙ k.2.0))
one words (Run x y s) (Witness u v w t l) h k = cc
one words (Run x y s) (Check u v w) h k = cc
one words (Run x y s) (Pil u v) h k = cc
one words (Run x y s) (Machine Small) h k = cc
one words (Run x y s) (Machine Wide) h k = cc
one words (Run x y s) (Demo t other l) h k = cc
one words (Witness x y z s m) (Run u v t) h k = cc
one words (Witness x y z s m) (Witness u v w t l) h k =
    let elf : x ≡ u = cc in
    let input : y ≡ v = cc in
    let tables : z ≡ w = cc in
    let steps : h.0 ≡ k.0 = cc in
    let workers : h.1 ≡ k.1 = cc in
    ap (λ (e : List ℕ). Witness e y z s m) elf ∙ ap (λ (i : List ℕ). Witness u i z s m) input ∙ ap (λ (f : List ℕ). Witness u v f s m) tables
    ∙ ap (λ (n : ℕ). Witness u v w n m) (one_number 1 (2 ^ 32) h.0 s t (omega arith) h.3 k.3.2 (steps ∙ k.3.0))
    ∙ ap (λ (n : ℕ). Witness u v w t n) (one_number 0 (MOST_WORKERS + 1) h.1 m l (omega arith) h.4 k.4.2 (workers ∙ k.4.0))
one words (Witness x y z s m) (Check u v w) h k = cc
one words (Witness x y z s m) (Pil u v) h k = cc
one words (Witness x y z s m) (Machine Small) h k = cc
one words (Witness x y z s m) (Machine Wide) h k = cc
one words (Witness x y z s m) (Demo t other l) h k = cc
one words (Check x y z) (Run u v t) h k = cc
one words (Check x y z) (Witness u v w t l) h k = cc
one words (Check x y z) (Check u v w) h k = cc
one words (Check x y z) (Pil u v) h k = cc
one words (Check x y z) (Machine Small) h k = cc
one words (Check x y z) (Machine Wide) h k = cc
one words (Check x y z) (Demo t other l) h k = cc
one words (Pil x y) (Run u v t) h k = cc
one words (Pil x y) (Witness u v w t l) h k = cc
one words (Pil x y) (Check u v w) h k = cc
one words (Pil x y) (Pil u v) h k = cc
one words (Pil x y) (Machine Small) h k = cc
one words (Pil x y) (Machine Wide) h k = cc
one words (Pil x y) (Demo t other l) h k = cc
one words (Machine Small) (Run u v t) h k = cc
one words (Machine Small) (Witness u v w t l) h k = cc
one words (Machine Small) (Check u v w) h k = cc
one words (Machine Small) (Pil u v) h k = cc
one words (Machine Small) (Machine Small) h k = refl
one words (Machine Small) (Machine Wide) h k = cc
one words (Machine Small) (Demo t other l) h k = cc
one words (Machine Wide) (Run u v t) h k = cc
one words (Machine Wide) (Witness u v w t l) h k = cc
one words (Machine Wide) (Check u v w) h k = cc
one words (Machine Wide) (Pil u v) h k = cc
one words (Machine Wide) (Machine Small) h k = cc
one words (Machine Wide) (Machine Wide) h k = refl
one words (Machine Wide) (Demo t other l) h k = cc
one words (Demo s kind m) (Run u v t) h k = cc
one words (Demo s kind m) (Witness u v w t l) h k = cc
one words (Demo s kind m) (Check u v w) h k = cc
one words (Demo s kind m) (Pil u v) h k = cc
one words (Demo s kind m) (Machine Small) h k = cc
one words (Demo s kind m) (Machine Wide) h k = cc
one words (Demo s kind m) (Demo t other l) h k =
    let text : h.0 ≡ k.0 = cc in
    let named : kind_word kind ≡ kind_word other = cc in
    let last : h.1 ≡ k.1 = cc in
    ap (λ (n : ℕ). Demo n kind m) (one_number 0 (2 ^ 64) h.0 s t (omega arith) h.3 k.3.2 (text ∙ k.3.0))
    ∙ ap (λ (other : DemoKind). Demo t other m) (one_kind kind other named)
    ∙ ap (λ (n : ℕ). Demo t other n) (one_number 1 100001 h.1 m l (omega arith) h.4 k.4.2 (last ∙ k.4.0))
