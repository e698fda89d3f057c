use Rattle.std.proofs.Common.{◌≡◌, ◌<◌, ◌∙◌, true, false, refl, take, get_or, sym, subst, Contains, MatchBool}
use Rattle.pil_ast.specs.Tree.{namespaces}
use Rattle.pil_ast.specs.Term.{inter_at, space_at}
use Rattle.pil_ast.specs.Turns.{items_of}
use Rattle.pil_ast.specs.declared.turns.Turn.{Turn}
use Rattle.pil_program.specs.Program.{IsOver, IsReady, NotesStep}
use Rattle.pil_program.proofs.Inters.{turn-read, turn-unmarked, turn-done, over-here, over-next, inter-free, ready-here, ready-next, have-kept, have-none, program-none, program-done}
use Rattle.pil_program.proofs.compiling.place_turns.Goals as goal

pub loop-turn-init : goal.loop-turn-init
loop-turn-init c = (have-none _ _ _ _ _, program-none _ _ c.requires.empty, refl, refl)

pub place_here-requires-clause-over : goal.place_here-requires-clause-over
place_here-requires-clause-over c =
    let ns = namespaces c.args.pil.now in
    let t : Turn = get_or c.args.turns.now c.loop-turn.turn-index (record { item = 0; ahead = false }) in
    let is = turn-read ns c.args.space c.args.turns.now c.loop-turn.turn-index (record { item = 0; ahead = false }) (c.requires.sound.spaces c.args.space c.requires.space) c.requires.plan c.loop-turn-test.true in
    subst (λ ls. IsOver ns c.args.space false (inter_at ls t.item)) (sym c.requires.items) (over-here ns c.args.space (inter_at (space_at ns c.args.space).items t.item) is.term (inter-free (space_at ns c.args.space).items t.item (c.requires.unnamed c.args.space t.item)))

pub place_here-requires-clause-ready : goal.place_here-requires-clause-ready
place_here-requires-clause-ready c =
    let ns = namespaces c.args.pil.now in
    let t : Turn = get_or c.args.turns.now c.loop-turn.turn-index (record { item = 0; ahead = false }) in
    let is = turn-read ns c.args.space c.args.turns.now c.loop-turn.turn-index (record { item = 0; ahead = false }) (c.requires.sound.spaces c.args.space c.requires.space) c.requires.plan c.loop-turn-test.true in
    subst (λ ls. IsReady ns c.args.space c.loop-turn.nodes false c.loop-turn.here c.as_slice.result.now (inter_at ls t.item)) (sym c.requires.items)
    (subst (λ next. IsReady ns c.args.space c.loop-turn.nodes false c.loop-turn.here next (inter_at (space_at ns c.args.space).items t.item)) (sym c.as_slice.ensures)
    (ready-here ns c.args.space c.loop-turn.nodes (Contains (take c.loop-turn.turn-index (items_of c.args.turns.now))) c.loop-turn.here c.loop-turn.next (inter_at (space_at ns c.args.space).items t.item) c.loop-turn.invariant.0
    (c.loop-turn.invariant.2 ∙ c.requires.here) (c.loop-turn.invariant.3 ∙ c.requires.next) is.term is.named))

pub place_here-requires-clause-room : goal.place_here-requires-clause-room
place_here-requires-clause-room c =
    let ns = namespaces c.args.pil.now in
    let t : Turn = get_or c.args.turns.now c.loop-turn.turn-index (record { item = 0; ahead = false }) in
    let is = turn-read ns c.args.space c.args.turns.now c.loop-turn.turn-index (record { item = 0; ahead = false }) (c.requires.sound.spaces c.args.space c.requires.space) c.requires.plan c.loop-turn-test.true in
    subst (λ n. t.item < n) (sym (c.loop-turn.invariant.2 ∙ c.requires.here)) is.inside

pub place_next-requires-clause-over : goal.place_next-requires-clause-over
place_next-requires-clause-over c =
    let ns = namespaces c.args.pil.now in
    let t : Turn = get_or c.args.turns.now c.loop-turn.turn-index (record { item = 0; ahead = false }) in
    let is = turn-read ns c.args.space c.args.turns.now c.loop-turn.turn-index (record { item = 0; ahead = false }) (c.requires.sound.spaces c.args.space c.requires.space) c.requires.plan c.loop-turn-test.true in
    λ b. subst (λ ls. IsOver ns c.args.space true (inter_at ls t.item)) (sym c.requires.items)
    (over-next ns c.args.space (inter_at (space_at ns c.args.space).items t.item) is.term (inter-free (space_at ns c.args.space).items t.item (c.requires.unnamed c.args.space t.item)) (turn-unmarked ns c.args.space c.args.turns.now c.loop-turn.turn-index t is b))

pub place_next-requires-clause-ready : goal.place_next-requires-clause-ready
place_next-requires-clause-ready c =
    let ns = namespaces c.args.pil.now in
    let t : Turn = get_or c.args.turns.now c.loop-turn.turn-index (record { item = 0; ahead = false }) in
    let space = c.requires.sound.spaces c.args.space c.requires.space in
    let is = turn-read ns c.args.space c.args.turns.now c.loop-turn.turn-index (record { item = 0; ahead = false }) space c.requires.plan c.loop-turn-test.true in
    λ b. subst (λ ls. IsReady ns c.args.space c.place_here.new.nodes true c.loop-turn.next c.loop-turn.next (inter_at ls t.item)) (sym c.requires.items)
    (ready-next ns c.args.space c.place_here.new.nodes (Contains (take c.loop-turn.turn-index (items_of c.args.turns.now))) c.loop-turn.here c.loop-turn.next (inter_at (space_at ns c.args.space).items t.item)
    (have-kept ns c.args.space c.loop-turn.nodes c.place_here.new.nodes (Contains (take c.loop-turn.turn-index (items_of c.args.turns.now))) c.loop-turn.here c.loop-turn.next c.in_ok-place_here.ensures.places.keeps c.loop-turn.invariant.0)
    (c.loop-turn.invariant.3 ∙ c.requires.next) space.acyclic is.term is.named (turn-unmarked ns c.args.space c.args.turns.now c.loop-turn.turn-index t is b))

pub place_next-requires-clause-room : goal.place_next-requires-clause-room
place_next-requires-clause-room c =
    let ns = namespaces c.args.pil.now in
    let t : Turn = get_or c.args.turns.now c.loop-turn.turn-index (record { item = 0; ahead = false }) in
    let is = turn-read ns c.args.space c.args.turns.now c.loop-turn.turn-index (record { item = 0; ahead = false }) (c.requires.sound.spaces c.args.space c.requires.space) c.requires.plan c.loop-turn-test.true in
    subst (λ n. t.item < n) (sym (c.loop-turn.invariant.3 ∙ c.requires.next)) is.inside

pub loop-turn-preserved : goal.loop-turn-preserved
loop-turn-preserved c =
    let ns = namespaces c.args.pil.now in
    let t : Turn = get_or c.args.turns.now c.loop-turn.turn-index (record { item = 0; ahead = false }) in
    let space = c.requires.sound.spaces c.args.space c.requires.space in
    let is = turn-read ns c.args.space c.args.turns.now c.loop-turn.turn-index (record { item = 0; ahead = false }) space c.requires.plan c.loop-turn-test.true in
    let first : NotesStep ns c.args.space c.loop-turn.nodes c.place_here.new.nodes 0 (inter_at (space_at ns c.args.space).items t.item) t.item c.loop-turn.here c.place_here.new.here =
    subst (λ ls. NotesStep ns c.args.space c.loop-turn.nodes c.place_here.new.nodes 0 (inter_at ls t.item) t.item c.loop-turn.here c.place_here.new.here) c.requires.items c.in_ok-place_here.ensures in
    let second : MatchBool t.ahead (NotesStep ns c.args.space c.place_here.new.nodes c.place_next.new.nodes 1 (inter_at (space_at ns c.args.space).items t.item) t.item c.loop-turn.next c.place_next.new.next) ((c.place_next.new.nodes ≡ c.place_here.new.nodes) × (c.place_next.new.next ≡ c.loop-turn.next)) =
    subst (λ ls. MatchBool t.ahead (NotesStep ns c.args.space c.place_here.new.nodes c.place_next.new.nodes 1 (inter_at ls t.item) t.item c.loop-turn.next c.place_next.new.next) ((c.place_next.new.nodes ≡ c.place_here.new.nodes) × (c.place_next.new.next ≡ c.loop-turn.next))) c.requires.items c.in_ok-place_next.ensures in
    let done = turn-done ns c.args.space c.args.turns.now c.loop-turn.turn-index t c.loop-turn.nodes c.place_here.new.nodes c.place_next.new.nodes c.loop-turn.here c.place_here.new.here c.loop-turn.next c.place_next.new.next
    space.acyclic is (c.loop-turn.invariant.2 ∙ c.requires.here) (c.loop-turn.invariant.3 ∙ c.requires.next) c.loop-turn.invariant.0 first second in
    (done.0, done.1.program c.loop-turn.invariant.1, done.2 ∙ c.loop-turn.invariant.2, done.3 ∙ c.loop-turn.invariant.3)

pub returns : goal.returns
returns c =
    program-done (namespaces c.args.pil.now) c.args.space c.loop-turn.turn-index c.args.turns.now c.loop-turn.nodes c.loop-turn.here c.loop-turn.next c.requires.plan c.loop-turn-test.false c.loop-turn.invariant.0 c.loop-turn.invariant.1
    (c.loop-turn.invariant.2 ∙ c.requires.here) (c.loop-turn.invariant.3 ∙ c.requires.next)
