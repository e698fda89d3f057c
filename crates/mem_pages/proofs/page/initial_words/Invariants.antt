use Rattle.std.proofs.Common.{◌≡◌, ◌+◌, ◌*◌, ◌<◌, ℕ, length, get_or}
use Rattle.rv_model.specs.Image.{initial_word}
use Rattle.mem_pages.proofs.page.initial_words.Given as goal

abbrev pub invariant-loop-k : goal.invariant-loop-k
invariant-loop-k l = (length l.words ≡ 512) × ((k : ℕ) → k < l.k → get_or l.words k 0 ≡ initial_word l.image (512 * l.number + k))
