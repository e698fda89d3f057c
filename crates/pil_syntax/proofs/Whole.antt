-- Reading answers the file, or the first token that is refused.
use Rattle.std.proofs.Common.{◌≡◌, ◌+◌, List, [], ◌∷◌, ◌++◌, length, Ok, Err, refl, ap, sym, subst, ◌∙◌, arith, append_assoc, append-nil}
use borrow.Author.Tests.{lt-ltb}
use Rattle.pil_token.specs.declared.token.Placed.{Placed}
use Rattle.pil_syntax.specs.declared.tree.SyntaxErrKind.{SyntaxErrKind}
use Rattle.pil_syntax.specs.declared.tree.SyntaxErrKind.TheVariants.{Unexpected, TooDeep, NoMemory}
use Rattle.pil_syntax.specs.declared.failure.Fault.{Fault}
use Rattle.pil_syntax.specs.Tree.{Sentence}
use Rattle.pil_syntax.specs.Grammar.{Limits}
use Rattle.pil_syntax.specs.Refusal.{Reads, Begins, BeginsWithin, IsRefused}
use Rattle.pil_syntax.specs.State.{State, between}
use Rattle.pil_syntax.specs.Machine.{Move, go, end, nest, count, no, wish, Read, fault, stop, run}
use Rattle.pil_syntax.proofs.CompleteFiles.{file_goes}
use Rattle.pil_syntax.proofs.SoundFiles.{file_of}
use Rattle.pil_syntax.proofs.Blind.{blind}
use Rattle.pil_syntax.proofs.Ending.{closing, Closes, ends}
use Rattle.pil_syntax.proofs.Faults.{Wider, same_limits, fault_kind, stop_is, Passes, Blocks, wider_passes, passes_on, blocks, later, target, move_of, Stuck, Split, split, wider_run}

-- a file within the limits is read
pub reads_goes : (m : Limits) (ts : List Placed) (ss : List Sentence) → Reads m ts ss → run m [] between ts ≡ Ok ss
reads_goes m ts ss r = sym (blind m ts [] between) ∙ (ap (λ (us : List Placed). run m [] between us) r.spelled ∙ file_goes m ss [] r.file)

-- limits as wide as both
abbrev both : Limits → Limits → Limits
both m l = record { nested = m.nested + l.nested; operators = m.operators + l.operators }

both_left : (m l : Limits) → Wider m (both m l)
both_left m l = record { nested = omega arith; operators = omega arith }

both_right : (m l : Limits) → Wider l (both m l)
both_right m l = record { nested = omega arith; operators = omega arith }

clash : (ss : List Sentence) (f : Fault) (r : Read) → r ≡ Ok ss → r ≡ Err f → ⊥
clash ss f r d e = cc

abbrev Walks : Limits → List Placed → List Sentence → State → Type 0
Walks m front past mid = (l : Limits) (vs : List Placed) → Wider m l → run l [] between (front ++ vs) ≡ run l past mid vs

at_end : (m : Limits) (front : List Placed) (past : List Sentence) (mid : State) (f : Fault) → Walks m front past mid → stop past (wish mid) ≡ Err f → IsRefused m front [] Unexpected
at_end m front past mid f w e = λ l ss r.
    let u : Limits = both m l in
    clash ss f (run u [] between front) (wider_run l u front [] between ss (both_right m l) (reads_goes l front ss r))
    (ap (λ (us : List Placed). run u [] between us) (sym (append-nil front)) ∙ (w u [] (both_left m l) ∙ e))

-- no file goes on over a token that the move refuses within whatever limits
barred : (m : Limits) (front : List Placed) (past : List Sentence) (mid : State) (t : Placed) → Walks m front past mid → move_of past mid t ≡ no → Begins (front ++ t ∷ []) → ⊥
barred m front past mid t w e b =
    let l = b.0 in let more = b.1.0 in let ss = b.1.1 in
    let u : Limits = both m l in
    let ts : List Placed = (front ++ t ∷ []) ++ more in
    let h : Blocks u (move_of past mid t) Unexpected = subst (λ (v : Move). Blocks u v Unexpected) (sym e) refl in
    clash ss (record { kind = Unexpected; left = length (t ∷ more) }) (run u [] between ts) (wider_run l u ts [] between ss (both_right m l) (reads_goes l ts ss b.1.2))
    (ap (λ (us : List Placed). run u [] between us) (append_assoc front (t ∷ []) more) ∙ (w u (t ∷ more) (both_left m l) ∙ blocks u past more (length (t ∷ more)) (move_of past mid t) Unexpected h))

-- nor within these limits over a token that they refuse
barred_within : (m : Limits) (front : List Placed) (past : List Sentence) (mid : State) (t : Placed) (k : SyntaxErrKind) → Walks m front past mid → Blocks m (move_of past mid t) k → BeginsWithin m (front ++ t ∷ []) → ⊥
barred_within m front past mid t k w h b =
    let more = b.0 in let ss = b.1 in
    let ts : List Placed = (front ++ t ∷ []) ++ more in
    clash ss (record { kind = k; left = length (t ∷ more) }) (run m [] between ts) (reads_goes m ts ss b.2)
    (ap (λ (us : List Placed). run m [] between us) (append_assoc front (t ∷ []) more) ∙ (w m (t ∷ more) (same_limits m) ∙ blocks m past more (length (t ∷ more)) (move_of past mid t) k h))

closed_from : (m : Limits) (ts : List Placed) (r : Read) → run m [] between ts ≡ r → Closes r → (ss : List Sentence) × Reads m ts ss
closed_from m ts (Ok ss) e c = (ss, file_of m ts ss e)
closed_from m ts (Err f) e c = absurd c

-- a state can be ended, so some file begins with what led to it
closes : (m l : Limits) (front : List Placed) (past : List Sentence) (mid : State) → Walks m front past mid → Wider m l → BeginsWithin l front
closes m l front past mid w i =
    let more : List Placed = closing mid in
    let q = closed_from l (front ++ more) (run l past mid more) (w l more i) (ends l past mid) in
    (more, q.0, q.1)

-- limits that let the move pass
abbrev room : Limits → Move → Limits
room m (nest c s) = record { nested = m.nested + (c + 1); operators = m.operators }
room m (count n s) = record { nested = m.nested; operators = m.operators + (n + 1) }
room m _ = m

room_wider : (m : Limits) (v : Move) → Wider m (room m v)
room_wider m (go s) = same_limits m
room_wider m (end q) = same_limits m
room_wider m (nest c s) = record { nested = omega arith; operators = omega arith }
room_wider m (count n s) = record { nested = omega arith; operators = omega arith }
room_wider m no = same_limits m

room_passes : (m : Limits) (v : Move) → Blocks m v TooDeep → Passes (room m v) v
room_passes m (go s) h = absurd h
room_passes m (end q) h = absurd h
room_passes m (nest c s) h = lt-ltb _ _ (omega arith)
room_passes m (count n s) h = lt-ltb _ _ (omega arith)
room_passes m no h = cc

deep_begins : (m : Limits) (front : List Placed) (past : List Sentence) (mid : State) (t : Placed) → Walks m front past mid → Blocks m (move_of past mid t) TooDeep → Begins (front ++ t ∷ [])
deep_begins m front past mid t w h =
    let v : Move = move_of past mid t in
    let l : Limits = room m v in (
      l,
      closes l l (front ++ t ∷ []) (later past v) (target v)
          (λ u vs i. ap (λ (us : List Placed). run u [] between us) (append_assoc front (t ∷ []) vs)
          ∙ (w u (t ∷ vs) (wider_by m l u (room_wider m v) i)
          ∙ passes_on u past vs (length (t ∷ vs)) v (wider_passes l u v i (room_passes m v h))))
          (same_limits l),
    )
  where
    wider_by : (a b c : Limits) → Wider a b → Wider b c → Wider a c
    wider_by a b c x y = record { nested = omega (arith, x.nested, y.nested); operators = omega (arith, x.operators, y.operators) }

unexpected_is_no : (m : Limits) (v : Move) → Blocks m v Unexpected → v ≡ no
unexpected_is_no m (go s) h = absurd h
unexpected_is_no m (end q) h = absurd h
unexpected_is_no m (nest c s) h = let e : Unexpected ≡ TooDeep = h.1 in cc
unexpected_is_no m (count n s) h = let e : Unexpected ≡ TooDeep = h.1 in cc
unexpected_is_no m no h = refl

no_memory_is_none : (m : Limits) (v : Move) → Blocks m v NoMemory → ⊥
no_memory_is_none m (go s) h = h
no_memory_is_none m (end q) h = h
no_memory_is_none m (nest c s) h = let e : NoMemory ≡ TooDeep = h.1 in cc
no_memory_is_none m (count n s) h = let e : NoMemory ≡ TooDeep = h.1 in cc
no_memory_is_none m no h = let e : NoMemory ≡ Unexpected = h in cc

at_token : (m : Limits) (front : List Placed) (past : List Sentence) (mid : State) (t : Placed) (rest : List Placed) → Walks m front past mid → (k : SyntaxErrKind) → Blocks m (move_of past mid t) k → IsRefused m front (t ∷ rest) k
at_token m front past mid t rest w Unexpected h = barred m front past mid t w (unexpected_is_no m (move_of past mid t) h)
at_token m front past mid t rest w TooDeep h = (deep_begins m front past mid t w h, barred_within m front past mid t TooDeep w h)
at_token m front past mid t rest w NoMemory h = absurd (no_memory_is_none m (move_of past mid t) h)

refused : (m : Limits) (front : List Placed) (past : List Sentence) (mid : State) (rest : List Placed) (f : Fault) → Walks m front past mid → Stuck m past mid rest f → IsRefused m front rest f.kind
refused m front past mid [] f w e =
    let h : fault Unexpected 0 ≡ Err f = stop_is past (wish mid) f e in
    let g : Unexpected ≡ f.kind = fault_kind Unexpected f.kind 0 f.left h in
    subst (λ (k : SyntaxErrKind). IsRefused m front [] k) g (at_end m front past mid f w e)
refused m front past mid (t ∷ rest) f w e = at_token m front past mid t rest w f.kind e

-- a fault whose place is that of the token that is left
pub record Faulty (m : Limits) (ts : List Placed) (f : Fault) : Type 0 where
  pub front : List Placed
  pub rest : List Placed
  pub whole : ts ≡ front ++ rest
  pub left : f.left ≡ length rest
  pub begun : BeginsWithin m front
  pub refused : IsRefused m front rest f.kind

pub faulty : (m : Limits) (ts : List Placed) (f : Fault) → run m [] between ts ≡ Err f → Faulty m ts f
faulty m ts f e =
    let p : Split m [] between ts f = split m ts [] between f e in
    record {
      front = p.front;
      rest = p.rest;
      whole = p.whole;
      left = p.left;
      begun = closes m m p.front p.past p.mid p.walks (same_limits m);
      refused = refused m p.front p.past p.mid p.rest f p.walks p.stuck;
    }
