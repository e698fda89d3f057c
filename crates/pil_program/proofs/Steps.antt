-- Steps that are put at the end of a program, and what they compute.
use Rattle.std.proofs.Common.{ℕ, zero, suc, ◌<◌, ◌≡◌, inl, inr, Bool, true, false, ◌||◌, ◌&&◌, cond, List, [], ◌∷◌, ◌++◌, Some, length, slice_get, slice_index, refl, sym, ◌∙◌, ap, subst, arith, length-append}
use Rattle.std.proofs.lemmas.Bool.{true≢false}
use Rattle.std.proofs.lemmas.Option.{slice_get_within}
use Rattle.gold.specs.Field.{add_mod, sub_mod, mul_mod, neg_mod}
use Rattle.pil_ast.specs.Term.{Term, num, col, mid, opp, ◌⊕◌, ◌⊖◌, ◌⊗◌, Namespace, space_at, width}
use Rattle.pil_ast.specs.Columns.{Columns}
use Rattle.pil_ast.specs.Value.{later, ahead, value_at, around}
use Rattle.pil_program.proofs.Parts.{each_from}
use Rattle.pil_program.proofs.Places.{slice_get-push}
use Rattle.pil_program.specs.declared.nodes.Node.{Node}
use Rattle.pil_program.specs.declared.nodes.Node.TheVariants.{Number, Column, Neg, Add, Sub, Mul}
use Rattle.pil_program.specs.Program.{IsStep, IsPlaced, IsReady, step_value, cell, AreValues, Computes, KeepsSteps, Places}

pub keeps-same : (ns : List Namespace) (s : ℕ) (old : List Node) → KeepsSteps ns s old old
keeps-same ns s old = record { steps = λ k node e. e; longer = omega arith; program = λ p. p }

pub keeps-both : (ns : List Namespace) (s : ℕ) (old part new : List Node) → KeepsSteps ns s old part → KeepsSteps ns s part new → KeepsSteps ns s old new
keeps-both ns s old part new f g =
    record { steps = λ k node e. g.steps k node (f.steps k node e); longer = (let a = f.longer in let b = g.longer in omega arith); program = λ p. g.program (f.program p) }

pub keeps-pushed : (ns : List Namespace) (s : ℕ) (old : List Node) (node : Node) → IsStep (width (space_at ns s).items) (length old) node → KeepsSteps ns s old (old ++ node ∷ [])
keeps-pushed ns s old node step = record {
  steps = λ k other e. get-front old (node ∷ []) k other e;
  longer = let l = length-append old (node ∷ []) in omega arith;
  program = λ p k other e. elim (slice_get-push old node other k e) [
    | inl w ↦ p k other w.1
    | inr w ↦ subst (λ j. IsStep (width (space_at ns s).items) j other) (sym w.0) (subst (IsStep (width (space_at ns s).items) (length old)) w.1 step)
  ];
}
  where
    get-front : (xs ys : List Node) (k : ℕ) (n : Node) → slice_get xs k ≡ Some n → slice_get (xs ++ ys) k ≡ Some n
    get-front [] ys k n e = absurd (let b = slice_get_within [] k n e in omega arith)
    get-front (x ∷ xs) ys zero n e = e
    get-front (x ∷ xs) ys (suc k) n e = get-front xs ys k n e

pub keeps-placed : (ns : List Namespace) (s : ℕ) (old new : List Node) (node : Node) (k : ℕ) → IsPlaced old new node k → IsStep (width (space_at ns s).items) (length old) node → KeepsSteps ns s old new
keeps-placed ns s old new node k h step = elim h.grown [
  | inl e ↦ subst (KeepsSteps ns s old) (sym e) (keeps-same ns s old)
  | inr e ↦ subst (KeepsSteps ns s old) (sym e) (keeps-pushed ns s old node step)
]

-- what is known of some steps is known of more
pub computes-kept : (ns : List Namespace) (s : ℕ) (old new : List Node) (t : ℕ) (e : Term) (k : ℕ) → KeepsSteps ns s old new → Computes ns s old t e k → Computes ns s new t e k
computes-kept ns s old new t e k keeps h = record {
  inside = let a = h.inside in let b = keeps.longer in omega arith;
  value = λ c i r x known. h.value c i r x (λ j node l is. known j node (let b = keeps.longer in omega arith) (keeps.steps j node is));
}

pub ready-kept : (ns : List Namespace) (s : ℕ) (old new : List Node) (b : Bool) (here next : List ℕ) (e : Term) → KeepsSteps ns s old new → IsReady ns s old b here next e → IsReady ns s new b here next e
ready-kept ns s old new b here next e keeps h =
    each_from (λ n. Unit {0}) (λ n. Unit {0}) (λ n k m. Unit {0}) (λ n k m. Unit {0})
    (λ n k m. (k < length here) × (k < length next) × Computes ns s old (later 0 b) (mid n k m) (slice_index (cond (b || m) next here) k))
    (λ n k m. (k < length here) × (k < length next) × Computes ns s new (later 0 b) (mid n k m) (slice_index (cond (b || m) next here) k))
    (λ k. Unit {0}) (λ k. Unit {0})
    (λ n w. tt) (λ n k m w. tt)
    (λ n k m w. (w.0, w.1, computes-kept ns s old new (later 0 b) (mid n k m) (slice_index (cond (b || m) next here) k) keeps w.2))
    (λ k w. tt) e h

-- the step that stands at k has the value that it says
stands-value : (ns : List Namespace) (s : ℕ) (nodes : List Node) (k : ℕ) (node : Node) → slice_get nodes k ≡ Some node → (c : Columns) (i r : ℕ) (x : ℕ → ℕ) → AreValues c s i r nodes (length nodes) x → x k ≡ step_value (cell c s i r) x node
stands-value ns s nodes k node is c i r x known = known k node (slice_get_within nodes k node is) is

pub places-number : (ns : List Namespace) (s : ℕ) (old new : List Node) (t n k : ℕ) → IsPlaced old new (Number n) k → Places ns s old new t (num n) k
places-number ns s old new t n k h = record {
  computes = record { inside = slice_get_within new k (Number n) h.stands; value = stands-value ns s new k (Number n) h.stands };
  keeps = keeps-placed ns s old new (Number n) k h tt;
}

later-or : (b m : Bool) → (b && m) ≡ false → later 0 (b || m) ≡ later (later 0 b) m
later-or true true e = absurd (true≢false e)
later-or true false e = refl
later-or false true e = refl
later-or false false e = refl

pub places-column : (ns : List Namespace) (s : ℕ) (old new : List Node) (b m : Bool) (n col' k : ℕ) → n ≡ s → col' < width (space_at ns s).items → (b && m) ≡ false → IsPlaced old new (Column col' (b || m)) k → Places ns s old new (later 0 b) (col n col' m) k
places-column ns s old new b m n col' k same inside one h = record {
  computes = record {
    inside = slice_get_within new k (Column col' (b || m)) h.stands;
    value = λ c i r x known. stands-value ns s new k (Column col' (b || m)) h.stands c i r x known
        ∙ ap (λ t. c.at s i col' (ahead (c.rows s) r t)) (later-or b m one) ∙ ap (λ z. c.at z i col' (ahead (c.rows s) r (later (later 0 b) m))) (sym same);
  };
  keeps = keeps-placed ns s old new (Column col' (b || m)) k h inside;
}

pub places-neg : (ns : List Namespace) (s : ℕ) (old part new : List Node) (t : ℕ) (a : Term) (j k : ℕ) → Places ns s old part t a j → IsPlaced part new (Neg j) k → Places ns s old new t (opp a) k
places-neg ns s old part new t a j k f h =
    let keeps = keeps-placed ns s part new (Neg j) k h f.computes.inside in
    let first = computes-kept ns s part new t a j keeps f.computes in
    record {
      computes = record {
        inside = slice_get_within new k (Neg j) h.stands;
        value = λ c i r x known. stands-value ns s new k (Neg j) h.stands c i r x known ∙ ap neg_mod (first.value c i r x known);
      };
      keeps = keeps-both ns s old part new f.keeps keeps;
    }

-- two steps, and one that takes both
pub record TakesBoth (ns : List Namespace) (s : ℕ) (old new : List Node) (t : ℕ) (a b : Term) (i j : ℕ) : Type 0 where
  pub left : Computes ns s new t a i
  pub right : Computes ns s new t b j
  pub keeps : KeepsSteps ns s old new

pub takes-both : (ns : List Namespace) (s : ℕ) (old part more new : List Node) (t : ℕ) (a b : Term) (i j : ℕ) → Places ns s old part t a i → Places ns s part more t b j → KeepsSteps ns s more new → TakesBoth ns s old new t a b i j
takes-both ns s old part more new t a b i j f g keeps =
    let rest = keeps-both ns s part more new g.keeps keeps in
    record {
      left = computes-kept ns s part new t a i rest f.computes;
      right = computes-kept ns s more new t b j keeps g.computes;
      keeps = keeps-both ns s old part new f.keeps rest;
    }

inside-both : (ns : List Namespace) (s : ℕ) (old part more : List Node) (t : ℕ) (a b : Term) (i j : ℕ) → Places ns s old part t a i → Places ns s part more t b j → (i < length more) × (j < length more)
inside-both ns s old part more t a b i j f g =
    ((let l = f.computes.inside in let m = g.keeps.longer in omega arith), g.computes.inside)

pub places-sum : (ns : List Namespace) (s : ℕ) (old part more new : List Node) (t : ℕ) (a b : Term) (i j k : ℕ) → Places ns s old part t a i → Places ns s part more t b j → IsPlaced more new (Add i j) k → Places ns s old new t (a ⊕ b) k
places-sum ns s old part more new t a b i j k f g h =
    let both = takes-both ns s old part more new t a b i j f g (keeps-placed ns s more new (Add i j) k h (inside-both ns s old part more t a b i j f g)) in
    record {
      computes = record {
        inside = slice_get_within new k (Add i j) h.stands;
        value = λ c l r x known. stands-value ns s new k (Add i j) h.stands c l r x known ∙ ap (λ z. add_mod z (x j)) (both.left.value c l r x known)
            ∙ ap (λ z. add_mod (value_at (space_at ns s).items (around ns c s l r) (suc (length (space_at ns s).items)) t a) z) (both.right.value c l r x known);
      };
      keeps = both.keeps;
    }

pub places-difference : (ns : List Namespace) (s : ℕ) (old part more new : List Node) (t : ℕ) (a b : Term) (i j k : ℕ) → Places ns s old part t a i → Places ns s part more t b j → IsPlaced more new (Sub i j) k → Places ns s old new t (a ⊖ b) k
places-difference ns s old part more new t a b i j k f g h =
    let both = takes-both ns s old part more new t a b i j f g (keeps-placed ns s more new (Sub i j) k h (inside-both ns s old part more t a b i j f g)) in
    record {
      computes = record {
        inside = slice_get_within new k (Sub i j) h.stands;
        value = λ c l r x known. stands-value ns s new k (Sub i j) h.stands c l r x known ∙ ap (λ z. sub_mod z (x j)) (both.left.value c l r x known)
            ∙ ap (λ z. sub_mod (value_at (space_at ns s).items (around ns c s l r) (suc (length (space_at ns s).items)) t a) z) (both.right.value c l r x known);
      };
      keeps = both.keeps;
    }

pub places-product : (ns : List Namespace) (s : ℕ) (old part more new : List Node) (t : ℕ) (a b : Term) (i j k : ℕ) → Places ns s old part t a i → Places ns s part more t b j → IsPlaced more new (Mul i j) k → Places ns s old new t (a ⊗ b) k
places-product ns s old part more new t a b i j k f g h =
    let both = takes-both ns s old part more new t a b i j f g (keeps-placed ns s more new (Mul i j) k h (inside-both ns s old part more t a b i j f g)) in
    record {
      computes = record {
        inside = slice_get_within new k (Mul i j) h.stands;
        value = λ c l r x known. stands-value ns s new k (Mul i j) h.stands c l r x known ∙ ap (λ z. mul_mod z (x j)) (both.left.value c l r x known)
            ∙ ap (λ z. mul_mod (value_at (space_at ns s).items (around ns c s l r) (suc (length (space_at ns s).items)) t a) z) (both.right.value c l r x known);
      };
      keeps = both.keeps;
    }
