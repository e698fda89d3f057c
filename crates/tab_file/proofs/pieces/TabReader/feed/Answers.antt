use Rattle.std.proofs.Common.{◌≡◌, ◌++◌, ℕ, List, None, Some, sym, ap, ◌∙◌}
use Rattle.tab_file.proofs.Feeding.{failed_on, has_failed, goes_on, stands_failed, stands_going, failed_here, only_failure, goes_none_fails, no_failure, other_memory}
use Rattle.tab_file.proofs.pieces.TabReader.feed.Goals as goal

pub returns-in-Some-clause-stands : goal.returns-in-Some-clause-stands
returns-in-Some-clause-stands c shape fed s other =
    let r = c.args.self.now in
    stands_failed r shape (fed ++ c.args.piece.now) c.in-Some.e s.shape_is c.in-Some.is (failed_on r.profile r.body shape fed c.args.piece.now c.in-Some.e (has_failed r shape fed c.in-Some.e c.in-Some.is s))

pub returns-in-Some-clause-again : goal.returns-in-Some-clause-again
returns-in-Some-clause-again c shape fed e s fails kind =
    let r = c.args.self.now in
    only_failure fed shape c.in-Some.e e (failed_here r.profile r.body shape fed c.in-Some.e (has_failed r shape fed c.in-Some.e c.in-Some.is s)) fails

pub returns-in-Some-clause-memory : goal.returns-in-Some-clause-memory
returns-in-Some-clause-memory c same = rw c.in-Some.is same

pub returns-in-Ok-clause-stands : goal.returns-in-Ok-clause-stands
returns-in-Ok-clause-stands c shape fed s =
    let r = c.args.self.now in
    stands_going c.take.new.self shape (fed ++ c.args.piece.now) (c.take.ensures.shape ∙ s.shape_is) (c.take.ensures.failed ∙ c.in_default.is) (c.in-Ok.ensures.feeds shape fed s.shape_is (goes_on r shape fed c.in_default.is s)).0

pub returns-in-Ok-clause-ok : goal.returns-in-Ok-clause-ok
returns-in-Ok-clause-ok c shape fed s =
    let r = c.args.self.now in
    let n = c.take.new.self in
    goes_none_fails n.profile n.body n.header.items shape (fed ++ c.args.piece.now) (c.in-Ok.ensures.feeds shape fed s.shape_is (goes_on r shape fed c.in_default.is s)).0

pub returns-in-Ok-clause-again : goal.returns-in-Ok-clause-again
returns-in-Ok-clause-again c shape fed e s fails kind =
    let r = c.args.self.now in
    no_failure r.profile r.body r.header.items shape fed e (goes_on r shape fed c.in_default.is s) fails kind

pub returns-in-Err-clause-err : goal.returns-in-Err-clause-err
returns-in-Err-clause-err c shape fed s other =
    let r = c.args.self.now in
    let n = c.take.new.self in
    let h = c.in-Err.ensures.feeds shape fed s.shape_is (goes_on r shape fed c.in_default.is s) (other_memory c.in-Err.e other) in
    (h.kind, failed_here n.profile n.body shape (fed ++ c.args.piece.now) c.in-Err.e h)

pub returns-in-Err-clause-again : goal.returns-in-Err-clause-again
returns-in-Err-clause-again c shape fed e s fails kind =
    let r = c.args.self.now in
    absurd (no_failure r.profile r.body r.header.items shape fed e (goes_on r shape fed c.in_default.is s) fails kind)

pub returns-in-Err-clause-memory : goal.returns-in-Err-clause-memory
returns-in-Err-clause-memory c same = same
