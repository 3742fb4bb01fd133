-- Ranks of instances, which fall with every call.
use Rattle.std.specs.Prelude.{ℕ, zero, suc, max, List, [], length, map, slice_get}
use Rattle.std.specs.List.{fold}
use Rattle.std.specs.Option.{option_map_or}
use Rattle.sq_mapping.specs.declared.mapping.Instance.{Instance}

-- the instances that an instance calls
abbrev pub callees : List Instance → ℕ → List ℕ
callees instances a = option_map_or (λ x. map (λ route. route.instance) x.routes) (slice_get instances a) []

-- how many calls follow one another from an instance on, where at most so many are looked at
abbrev pub longest : ℕ → List Instance → ℕ → ℕ
longest zero instances a = 0
longest (suc most) instances a = fold max 0 (map (λ b. suc (longest most instances b)) (callees instances a))

-- As many as there are instances are enough, where no calls lead in a circle.
abbrev pub rank : List Instance → ℕ → ℕ
rank instances a = longest (length instances) instances a
