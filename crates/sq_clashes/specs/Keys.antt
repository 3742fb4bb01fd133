-- Keys that events reach: the bytes of nodes, and the paths of leaf calls.
use Rattle.std.specs.Prelude.{ℕ, ◌+◌, ◌*◌, ◌%◌, List, [], ◌∷◌}

-- the key of a node's first byte; the others follow it
abbrev pub node_key : (node : ℕ) → ℕ
node_key node = (node % 1073741824) * 4294967296

-- a number of a path, made of the numbers in it and of one of those before them
unfoldable pub path_number : ℕ → (path : List ℕ) → ℕ
path_number n [] = n
path_number n (k ∷ ks) = path_number ((n * 8388593 + k + 1) % 1099511627689) ks

-- Calls of one path have one key.
unfoldable pub path_key : (path : List ℕ) → ℕ
path_key path = 9223372036854775808 + path_number 0 path
