use Rattle.std.proofs.Common.{◌≡◌, ◌++◌, take}
use Rattle.zk_words.specs.Lines.{after_first}
use Rattle.zk_words.proofs.line.push_others.Given as goal

-- the numbers so far were written, each behind a comma
abbrev pub invariant-loop-n : goal.invariant-loop-n
invariant-loop-n l = l.text.items ≡ l.fn.text.items ++ after_first (take l.n-index l.values)
