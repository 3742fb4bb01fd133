-- How the offsets of a level's buffers are set: one walk down the scopes, from the outside in; and level after level.
use Rattle.std.specs.Prelude.{ℕ, zero, suc, ◌+◌, Bool, List, [], ◌∷◌, length, map, replicate, set, if◌then◌else◌}
use Rattle.sq_ir.specs.declared.term.Term.{Term}
use Rattle.sq_ir.specs.declared.plan.Buffer.{Buffer}
use Rattle.sq_ir.specs.declared.plan.Draft.{Draft}
use Rattle.sq_nests.specs.Nests.{End, Both, Open, Named, named_in, all_nests}
use Rattle.sq_nests.specs.Stacks.{capped, of_level}
use Rattle.sq_nests.specs.Drafts.{whole, size_in}

module _ (here : ℕ → Bool) (size : ℕ → ℕ) where
  -- where the next buffer lies
  abbrev pub top_after : List ℕ → ℕ → ℕ
  top_after [] top = top
  top_after (b ∷ bs) top = top_after bs (if here b then capped (top + size b) else top)

  abbrev pub set_all : List ℕ → ℕ → List ℕ → List ℕ
  set_all [] top offsets = offsets
  set_all (b ∷ bs) top offsets = set_all bs (if here b then capped (top + size b) else top)
      (if here b then set offsets b top else offsets)

  -- with `top` the sum of what lies in front
  abbrev pub lay : Named → ℕ → List ℕ → List ℕ
  lay End top offsets = offsets
  lay (Both a b) top offsets = lay b top (lay a top offsets)
  lay (Open bs a) top offsets = lay a (top_after bs top) (set_all bs top offsets)

  abbrev pub lay_all : List Term → ℕ → List ℕ → List ℕ
  lay_all ts top offsets = lay (all_nests (map named_in ts)) top offsets

-- the walks of so many levels from one on
abbrev pub lay_from : List Buffer → Named → (count level : ℕ) → List ℕ → List ℕ
lay_from buffers n zero level offsets = offsets
lay_from buffers n (suc k) level offsets
    = lay_from buffers n k (suc level) (lay (of_level buffers level) (size_in buffers) n 0 offsets)

-- the offsets of a draft's buffers
abbrev pub offsets_of : Draft → List ℕ
offsets_of d = lay_from d.buffers (named_in (whole d)) 8 0 (replicate (length d.buffers) 0)
