use Rattle.std.proofs.Common.{ℕ, List, ◌++◌, ◌∙◌, ap, append_assoc}
use Rattle.host_io.proofs.sink.KeptSink.take.Goals as goal

pub returns-clause-given : goal.returns-clause-given
returns-clause-given c = λ start bytes e. c.in_ok-extend_from_slice.ensures.items ∙ ap (λ (xs : List ℕ). xs ++ c.args.piece.now) e ∙ append_assoc start.bytes.items bytes c.args.piece.now
