-- Draws from a number.
use Rattle.std.specs.Prelude.{ℕ, zero, suc, ◌+◌, ◌*◌, ◌/◌, ◌%◌, ◌^◌}

-- the state after a draw
unfoldable pub after : ℕ → ℕ
after s = (s * 6364136223846793005 + 1442695040888963407) % 2 ^ 64

-- the state after so many draws, which begins as the number
unfoldable pub state : ℕ → ℕ → ℕ
state number zero = number
state number (suc k) = after (state number k)

-- the draw with this index: the state that it leaves, without its low bits
unfoldable pub draw : ℕ → ℕ → ℕ
draw number k = state number (k + 1) / 2 ^ 33
