-- Where a run stops, and how wider limits go on.
use Rattle.std.proofs.Common.{◌≡◌, ℕ, ◌≤◌, List, [], ◌∷◌, ◌++◌, length, Bool, true, false, nat_lt, cond, Ok, Err, refl, ap, sym, subst, ◌∙◌, arith}
use borrow.Author.Tests.{ltb-true, lt-ltb}
use Rattle.pil_token.specs.declared.token.Placed.{Placed}
use Rattle.pil_syntax.specs.declared.tree.SyntaxErrKind.{SyntaxErrKind}
use Rattle.pil_syntax.specs.declared.tree.SyntaxErrKind.TheVariants.{Unexpected, TooDeep}
use Rattle.pil_syntax.specs.declared.failure.Fault.{Fault}
use Rattle.pil_syntax.specs.Tree.{Sentence}
use Rattle.pil_syntax.specs.Grammar.{Limits}
use Rattle.pil_syntax.specs.State.{State, between}
use Rattle.pil_syntax.specs.Machine.{Move, go, end, nest, count, no, Wish, statement, a_mark, a_name, a_number, choice, wish, granted, has_namespace, Read, fault, stop, onward, run}

pub record Wider (m l : Limits) : Type 0 where
  pub nested : m.nested ≤ l.nested
  pub operators : m.operators ≤ l.operators

pub same_limits : (m : Limits) → Wider m m
same_limits m = record { nested = omega arith; operators = omega arith }

pub fault_kind : (k j : SyntaxErrKind) (n i : ℕ) → fault k n ≡ fault j i → k ≡ j
fault_kind k j n i e = let f : Fault = record { kind = k; left = n } in let h : Fault = record { kind = j; left = i } in let g : f ≡ h = cc in ap (λ (y : Fault). y.kind) g

-- what the end refuses is unexpected, with no token left
pub stop_is : (d : List Sentence) (w : Wish) (f : Fault) → stop d w ≡ Err f → fault Unexpected 0 ≡ Err f
stop_is d statement f e = cc
stop_is d (a_mark k s) f e = e
stop_is d (a_name g) f e = e
stop_is d (a_number g) f e = e
stop_is d (choice g) f e = e

-- a move that the limits let pass
abbrev pub Passes : Limits → Move → Type 0
Passes m (go s) = Unit {0}
Passes m (end q) = Unit {0}
Passes m (nest c s) = nat_lt c m.nested ≡ true
Passes m (count n s) = nat_lt n m.operators ≡ true
Passes m no = ⊥

-- and one that they refuse, with this kind
abbrev pub Blocks : Limits → Move → SyntaxErrKind → Type 0
Blocks m (go s) k = ⊥
Blocks m (end q) k = ⊥
Blocks m (nest c s) k = (nat_lt c m.nested ≡ false) × (k ≡ TooDeep)
Blocks m (count n s) k = (nat_lt n m.operators ≡ false) × (k ≡ TooDeep)
Blocks m no k = k ≡ Unexpected

pub wider_passes : (m l : Limits) (v : Move) → Wider m l → Passes m v → Passes l v
wider_passes m l (go s) w p = tt
wider_passes m l (end q) w p = tt
wider_passes m l (nest c s) w p = lt-ltb _ _ (omega (arith, ltb-true c m.nested p, w.nested))
wider_passes m l (count n s) w p = lt-ltb _ _ (omega (arith, ltb-true n m.operators p, w.operators))
wider_passes m l no w p = absurd p

-- the statements and the state behind a move
abbrev pub later : List Sentence → Move → List Sentence
later d (end q) = d ++ q ∷ []
later d _ = d

abbrev pub target : Move → State
target (go s) = s
target (end q) = between
target (nest c s) = s
target (count n s) = s
target no = between

module _ (m : Limits) (d : List Sentence) (ts : List Placed) (left : ℕ) where
  abbrev pub after : Move → Read
  after v = onward m v (λ s. run m d s ts) (λ q. run m (d ++ q ∷ []) between ts) left

  pub passes_on : (v : Move) → Passes m v → after v ≡ run m (later d v) (target v) ts
  passes_on (go s) p = refl
  passes_on (end q) p = refl
  passes_on (nest c s) p = ap (λ (b : Bool). cond b (run m d s ts) (fault TooDeep left)) p
  passes_on (count n s) p = ap (λ (b : Bool). cond b (run m d s ts) (fault TooDeep left)) p
  passes_on no p = absurd p

  pub blocks : (v : Move) (k : SyntaxErrKind) → Blocks m v k → after v ≡ fault k left
  blocks (go s) k p = absurd p
  blocks (end q) k p = absurd p
  blocks (nest c s) k p = ap (λ (b : Bool). cond b (run m d s ts) (fault TooDeep left)) p.0 ∙ ap (λ (j : SyntaxErrKind). fault j left) (sym p.1)
  blocks (count n s) k p = ap (λ (b : Bool). cond b (run m d s ts) (fault TooDeep left)) p.0 ∙ ap (λ (j : SyntaxErrKind). fault j left) (sym p.1)
  blocks no k p = ap (λ (j : SyntaxErrKind). fault j left) (sym p)

-- Each move passes or is blocked.
pub data Judged (m : Limits) (v : Move) : Type 0 where
  lets : Passes m v → Judged m v
  bars : (k : SyntaxErrKind) → Blocks m v k → Judged m v

tested_nest : (m : Limits) (c : ℕ) (s : State) (b : Bool) → nat_lt c m.nested ≡ b → Judged m (nest c s)
tested_nest m c s true e = lets e
tested_nest m c s false e = bars TooDeep (e, refl)

tested_count : (m : Limits) (n : ℕ) (s : State) (b : Bool) → nat_lt n m.operators ≡ b → Judged m (count n s)
tested_count m n s true e = lets e
tested_count m n s false e = bars TooDeep (e, refl)

pub judged : (m : Limits) (v : Move) → Judged m v
judged m (go s) = lets tt
judged m (end q) = lets tt
judged m (nest c s) = tested_nest m c s (nat_lt c m.nested) refl
judged m (count n s) = tested_count m n s (nat_lt n m.operators) refl
judged m no = bars Unexpected refl

-- the move of a token
abbrev pub move_of : List Sentence → State → Placed → Move
move_of d s t = granted (has_namespace d) (wish s) t.token t.at

-- where a run stops
abbrev pub Stuck : Limits → List Sentence → State → List Placed → Fault → Type 0
Stuck m d s [] f = stop d (wish s) ≡ Err f
Stuck m d s (t ∷ ts) f = Blocks m (move_of d s t) f.kind

pub record Split (m : Limits) (d : List Sentence) (s : State) (ts : List Placed) (f : Fault) : Type 0 where
  pub front : List Placed
  pub rest : List Placed
  pub past : List Sentence
  pub mid : State
  pub whole : ts ≡ front ++ rest
  pub left : f.left ≡ length rest
  pub walks : (l : Limits) (vs : List Placed) → Wider m l → run l d s (front ++ vs) ≡ run l past mid vs
  pub stuck : Stuck m past mid rest f

split_step : (m : Limits) (d : List Sentence) (s : State) (t : Placed) (ts : List Placed) (f : Fault) → Judged m (move_of d s t) → run m d s (t ∷ ts) ≡ Err f → ((d' : List Sentence) (u : State) → run m d' u ts ≡ Err f → Split m d' u ts f) → Split m d s (t ∷ ts) f
split_step m d s t ts f (lets p) e go_on =
    let v : Move = move_of d s t in
    let i : Split m (later d v) (target v) ts f = go_on (later d v) (target v) (sym (passes_on m d ts (length (t ∷ ts)) v p) ∙ e) in
    record {
      front = t ∷ i.front;
      rest = i.rest;
      past = i.past;
      mid = i.mid;
      whole = ap (λ (us : List Placed). t ∷ us) i.whole;
      left = i.left;
      walks = λ l vs w. passes_on l d (i.front ++ vs) (length (t ∷ (i.front ++ vs))) v (wider_passes m l v w p) ∙ i.walks l vs w;
      stuck = i.stuck;
    }
split_step m d s t ts f (bars k p) e go_on =
    let h : fault k (length (t ∷ ts)) ≡ Err f = sym (blocks m d ts (length (t ∷ ts)) (move_of d s t) k p) ∙ e in
    let g : record { kind = k; left = length (t ∷ ts) } ≡ f = cc in
    record {
      front = [];
      rest = t ∷ ts;
      past = d;
      mid = s;
      whole = refl;
      left = sym (ap (λ (y : Fault). y.left) g);
      walks = λ l vs w. refl;
      stuck = subst (λ (y : Fault). Blocks m (move_of d s t) y.kind) g p;
    }

pub split : (m : Limits) (ts : List Placed) (d : List Sentence) (s : State) (f : Fault) → run m d s ts ≡ Err f → Split m d s ts f
split m [] d s f e =
    let h : fault Unexpected 0 ≡ Err f = stop_is d (wish s) f e in
    let g : record { kind = Unexpected; left = 0 } ≡ f = cc in
    record { front = []; rest = []; past = d; mid = s; whole = refl; left = sym (ap (λ (y : Fault). y.left) g); walks = λ l vs w. refl; stuck = e }
split m (t ∷ ts) d s f e = split_step m d s t ts f (judged m (move_of d s t)) e (λ d' u h. split m ts d' u f h)

run_step : (m l : Limits) (d : List Sentence) (s : State) (t : Placed) (ts : List Placed) (ss : List Sentence) → Wider m l → Judged m (move_of d s t) → run m d s (t ∷ ts) ≡ Ok ss → ((d' : List Sentence) (u : State) → run m d' u ts ≡ Ok ss → run l d' u ts ≡ Ok ss) → run l d s (t ∷ ts) ≡ Ok ss
run_step m l d s t ts ss w (lets p) e go_on =
    let v : Move = move_of d s t in
    passes_on l d ts (length (t ∷ ts)) v (wider_passes m l v w p) ∙ go_on (later d v) (target v) (sym (passes_on m d ts (length (t ∷ ts)) v p) ∙ e)
run_step m l d s t ts ss w (bars k p) e go_on =
    let h : fault k (length (t ∷ ts)) ≡ Ok ss = sym (blocks m d ts (length (t ∷ ts)) (move_of d s t) k p) ∙ e in
    cc

-- What is read is read within wider limits.
pub wider_run : (m l : Limits) (ts : List Placed) (d : List Sentence) (s : State) (ss : List Sentence) → Wider m l → run m d s ts ≡ Ok ss → run l d s ts ≡ Ok ss
wider_run m l [] d s ss w e = e
wider_run m l (t ∷ ts) d s ss w e = run_step m l d s t ts ss w (judged m (move_of d s t)) e (λ d' u h. wider_run m l ts d' u ss w h)
