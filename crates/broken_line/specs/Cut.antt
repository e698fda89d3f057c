-- Lines of bytes, each up to its line feed.
use Rattle.std.specs.Prelude.{ℕ, zero, suc, ◌==◌, List, [], ◌∷◌, take, drop, if◌then◌else◌}

-- how many bytes stand before the first line feed
abbrev pub length_of_front : List ℕ → ℕ
length_of_front [] = 0
length_of_front (b ∷ bs) = if b == 10 then 0 else suc (length_of_front bs)

-- the first line, without its line feed
abbrev pub front : List ℕ → List ℕ
front text = take (length_of_front text) text

-- what follows the first line feed
abbrev pub behind : List ℕ → List ℕ
behind text = drop (suc (length_of_front text)) text

-- what follows so many line feeds
abbrev pub skip : ℕ → List ℕ → List ℕ
skip zero text = text
skip (suc n) text = behind (skip n text)
