use Rattle.std.proofs.Common.{◌≡◌, ◌++◌, take}
use Rattle.zk_words.specs.Lines.{numbers}
use Rattle.zk_words.proofs.line.push_numbers.Given as goal

-- the numbers so far were written
abbrev pub invariant-loop-n : goal.invariant-loop-n
invariant-loop-n l = l.text.items ≡ l.fn.text.items ++ numbers (take l.n-index l.values)
