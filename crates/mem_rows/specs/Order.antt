-- Accesses in order of key, and of each key in the order in which they were made, which is that of time.
use Rattle.std.specs.Prelude.{ℕ, ◌^◌, ◌==◌, List}
use Rattle.std.specs.List.{flat_map, filter, range_with_len}
use Rattle.mem_rows.specs.declared.access.Access.{Access}

-- a key has 32 bits
unfoldable pub key_end : ℕ
key_end = 2 ^ 32

-- a key's accesses
abbrev pub of_key : List Access → ℕ → List Access
of_key xs k = filter (λ (a : Access). a.key == k) xs

-- key by key
unfoldable pub in_order : List Access → List Access
in_order xs = flat_map (of_key xs) (range_with_len 0 key_end)
