-- Programs to which steps are put.
use Rattle.std.proofs.Common.{ℕ, zero, suc, ◌+◌, ◌<◌, ◌≤◌, ◌^◌, ◌≡◌, ◌≢◌, inl, inr, Bool, true, false, cond, List, [], ◌∷◌, ◌++◌, Some, length, set, sum_by, slice_get, refl, sym, ◌∙◌, ap, subst, arith, length-set, length-append}
use Rattle.std.specs.Prelude.{filter}
use Rattle.std.proofs.lemmas.Bool.{cases_eq}
use Rattle.std.proofs.lemmas.Option.{slice_get_within}
use Rattle.std.proofs.lemmas.List.Sums.{sum_by-cons}
use Rattle.pil_ast.specs.Term.{Term, Tuples, Line, constant, commit, inter, published, identity, lookup, bus, Namespace, is_line}
use Rattle.pil_ast.specs.Holds.{lines}
use Rattle.pil_ast.specs.Sound.{IsSound, signs, signs_of_item}
use Rattle.pil_program.specs.declared.nodes.Node.{Node}
use Rattle.pil_program.specs.declared.compiling.Program.{Program}
use Rattle.pil_program.specs.Program.{IsProgramOf, KeepsSteps, Computes}
use Rattle.instance_pass.specs.declared.senders.Sender.{Sender}
use Rattle.instance_pass.specs.Senders.{AllCompute, IsSenderOf, selector}
use Rattle.pil_checker.specs.Programs.{nodes_at, ArePrograms, Grows, IsPlacing}
use Rattle.pil_checker.proofs.Elements.{get-set_same, get-set_other, some-same, get-push}

pub keeps-same : (ns : List Namespace) (s : ℕ) (old : List Node) → KeepsSteps ns s old old
keeps-same ns s old = record { steps = λ k node e. e; longer = omega arith; program = λ p. p }

pub keeps-both : (ns : List Namespace) (s : ℕ) (old part new : List Node) → KeepsSteps ns s old part → KeepsSteps ns s part new → KeepsSteps ns s old new
keeps-both ns s old part new f g =
    record { steps = λ k node e. g.steps k node (f.steps k node e); longer = (let a = f.longer in let b = g.longer in omega arith); program = λ p. g.program (f.program p) }

pub computes-kept : (ns : List Namespace) (s : ℕ) (old new : List Node) (t : ℕ) (e : Term) (k : ℕ) → KeepsSteps ns s old new → Computes ns s old t e k → Computes ns s new t e k
computes-kept ns s old new t e k keeps h = record {
  inside = (let a = h.inside in let b = keeps.longer in omega arith);
  value = λ c i r x known. h.value c i r x (λ j node l is. known j node (let b = keeps.longer in omega arith) (keeps.steps j node is));
}

pub all-kept : (ns : List Namespace) (s : ℕ) (old new : List Node) (es : List Term) (ks : List ℕ) → KeepsSteps ns s old new → AllCompute ns s old es ks → AllCompute ns s new es ks
all-kept ns s old new [] [] keeps h = tt
all-kept ns s old new [] (k ∷ ks) keeps h = absurd h
all-kept ns s old new (e ∷ es) [] keeps h = absurd h
all-kept ns s old new (e ∷ es) (k ∷ ks) keeps h = (computes-kept ns s old new 0 e k keeps h.0, all-kept ns s old new es ks keeps h.1)

pub all-push : (ns : List Namespace) (s : ℕ) (nodes : List Node) (es : List Term) (ks : List ℕ) (e : Term) (k : ℕ) → AllCompute ns s nodes es ks → Computes ns s nodes 0 e k → AllCompute ns s nodes (es ++ e ∷ []) (ks ++ k ∷ [])
all-push ns s nodes [] [] e k h one = (one, tt)
all-push ns s nodes [] (j ∷ js) e k h one = absurd h
all-push ns s nodes (d ∷ ds) [] e k h one = absurd h
all-push ns s nodes (d ∷ ds) (j ∷ js) e k h one = (h.0, all-push ns s nodes ds js e k h.1 one)

pub sender-kept : (ns : List Namespace) (old new : List Node) (a : Tuples) (x : Sender) → KeepsSteps ns a.space old new → IsSenderOf ns old a x → IsSenderOf ns new a x
sender-kept ns old new a x keeps h = record {
  space = h.space;
  sel = computes-kept ns a.space old new 0 (selector a.sel) x.sel keeps h.sel;
  terms = all-kept ns a.space old new a.terms x.terms keeps h.terms;
}

pub nodes-found : (programs : List Program) (s : ℕ) (p : Program) → slice_get programs s ≡ Some p → nodes_at programs s ≡ p.nodes
nodes-found [] s p e = let n : ⊥ = cc in absurd n
nodes-found (q ∷ qs) zero p e = ap (λ y. y.nodes) (some-same q p e)
nodes-found (q ∷ qs) (suc s) p e = nodes-found qs s p e

pub nodes-past : (programs : List Program) (s : ℕ) → length programs ≤ s → nodes_at programs s ≡ []
nodes-past [] s l = refl
nodes-past (q ∷ qs) zero l = absurd (omega arith)
nodes-past (q ∷ qs) (suc s) l = nodes-past qs s (omega arith)

nodes-other : (programs : List Program) (s t : ℕ) (p : Program) → t ≢ s → nodes_at (set programs s p) t ≡ nodes_at programs t
nodes-other [] s t p n = refl
nodes-other (q ∷ qs) zero zero p n = absurd (n refl)
nodes-other (q ∷ qs) zero (suc t) p n = refl
nodes-other (q ∷ qs) (suc s) zero p n = refl
nodes-other (q ∷ qs) (suc s) (suc t) p n = nodes-other qs s t p (λ e. n (ap suc e))

pub nodes-set : (programs : List Program) (s : ℕ) (p : Program) → s < length programs → nodes_at (set programs s p) s ≡ p.nodes
nodes-set programs s p l = nodes-found (set programs s p) s p (get-set_same programs s p l)

pub grows-none : (ns : List Namespace) (programs : List Program) → Grows ns programs programs
grows-none ns programs s = keeps-same ns s (nodes_at programs s)

pub grows-both : (ns : List Namespace) (old part new : List Program) → Grows ns old part → Grows ns part new → Grows ns old new
grows-both ns old part new f g s = keeps-both ns s (nodes_at old s) (nodes_at part s) (nodes_at new s) (f s) (g s)

pub placing-none : (ns : List Namespace) (programs : List Program) → ArePrograms ns programs → IsPlacing ns programs programs
placing-none ns programs are = record { programs = are; grows = grows-none ns programs }

pub placing-both : (ns : List Namespace) (old part new : List Program) → IsPlacing ns old part → IsPlacing ns part new → IsPlacing ns old new
placing-both ns old part new f g = record { programs = g.programs; grows = grows-both ns old part new f.grows g.grows }

-- one program has more steps
pub placed : (ns : List Namespace) (programs : List Program) (s : ℕ) (p q : Program) → ArePrograms ns programs → slice_get programs s ≡ Some p → KeepsSteps ns s p.nodes q.nodes → IsProgramOf ns s q.nodes q.here q.next → IsPlacing ns programs (set programs s q)
placed ns programs s p q are is keeps program =
    let l = slice_get_within programs s p is in
    record {
      programs = record {
        long = length-set programs s q ∙ are.long;
        each = λ t r found. elim (cases_eq t s) [
          | inl e ↦
              let same : q ≡ r = some-same q r (sym (get-set_same programs s q l) ∙ ap (slice_get (set programs s q)) (sym e) ∙ found) in
              subst (λ t. IsProgramOf ns t r.nodes r.here r.next) (sym e) (subst (λ r. IsProgramOf ns s r.nodes r.here r.next) same program)
          | inr ne ↦ are.each t r (sym (get-set_other programs s t q ne) ∙ found)
        ];
      };
      grows = λ t. elim (cases_eq t s) [
        | inl e ↦
            subst (λ t. KeepsSteps ns t (nodes_at programs t) (nodes_at (set programs s q) t)) (sym e)
            (subst (λ n. KeepsSteps ns s (nodes_at programs s) n) (sym (nodes-set programs s q l)) (subst (λ n. KeepsSteps ns s n q.nodes) (sym (nodes-found programs s p is)) keeps))
        | inr ne ↦ subst (KeepsSteps ns t (nodes_at programs t)) (sym (nodes-other programs s t q ne)) (keeps-same ns t (nodes_at programs t))
      ];
    }

-- one more program
pub programs-more : (ns : List Namespace) (programs : List Program) (n : ℕ) (q : Program) → length programs ≡ n → ((s : ℕ) (p : Program) → slice_get programs s ≡ Some p → IsProgramOf ns s p.nodes p.here p.next) → IsProgramOf ns n q.nodes q.here q.next
    → (s : ℕ) (p : Program) → slice_get (programs ++ q ∷ []) s ≡ Some p → IsProgramOf ns s p.nodes p.here p.next
programs-more ns programs n q long each one s p is = elim (get-push programs q p s is) [
  | inl w ↦ each s p w.1
  | inr w ↦
      let at : n ≡ s = sym long ∙ sym w.0 in
      subst (λ t. IsProgramOf ns t p.nodes p.here p.next) at (subst (λ r. IsProgramOf ns n r.nodes r.here r.next) w.1 one)
]

abbrev space_signs : Namespace → ℕ
space_signs n = 1 + sum_by signs_of_item n.items

filter-few : (ls : List Line) → length (filter is_line ls) ≤ sum_by signs_of_item ls
filter-few [] = omega arith
filter-few (l ∷ ls) = kept (is_line l) (filter-few ls)
  where
    some : (l : Line) → 1 ≤ signs_of_item l
    some (constant n len) = omega arith
    some (commit n len) = omega arith
    some (inter n e) = omega arith
    some (published n s k r) = omega arith
    some (identity s a b) = omega arith
    some (lookup a b) = omega arith
    some (bus ls rs) = omega arith

    kept : (b : Bool) → length (filter is_line ls) ≤ sum_by signs_of_item ls → length (cond b (l ∷ filter is_line ls) (filter is_line ls)) ≤ sum_by signs_of_item (l ∷ ls)
    kept true h = omega (arith, sum_by-cons signs_of_item l ls, some l)
    kept false h = omega (arith, sum_by-cons signs_of_item l ls)

lines-few : (ns : List Namespace) → length (lines ns) ≤ signs ns
lines-few [] = omega arith
lines-few (n ∷ ns) = omega (arith, length-append (filter is_line n.items) (lines ns), filter-few n.items, sum_by-cons space_signs n ns, lines-few ns)

-- a text has few lines
pub few-lines : (ns : List Namespace) → IsSound ns → length (lines ns) ≤ 2 ^ 20
few-lines ns sound = omega (arith, sound.signs, lines-few ns)

few-signs : (ns : List Namespace) → length ns ≤ signs ns
few-signs [] = omega arith
few-signs (n ∷ ns) = omega (arith, sum_by-cons space_signs n ns, few-signs ns)

-- a text has few namespaces
pub few-spaces : (ns : List Namespace) → IsSound ns → length ns < 2 ^ 32
few-spaces ns sound = omega (arith, sound.signs, few-signs ns)
