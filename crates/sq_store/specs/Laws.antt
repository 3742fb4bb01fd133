-- What the walk over a draft's scopes gives its buffers.
use Rattle.std.specs.Prelude.{◌≡◌, ℕ, ◌<◌, List, [], length, get_or}
use Rattle.sq_ir.specs.declared.plan.Draft.{Draft}
use Rattle.sq_nests.specs.Nests.{named_in}
use Rattle.sq_nests.specs.Stacks.{capped, total, of_level, HaveBefore}
use Rattle.sq_nests.specs.Drafts.{whole, size_in, AllLaid}
use Rattle.sq_store.specs.Named.{EachNamed}
use Rattle.sq_store.specs.Walk.{offsets_of}

-- Where each buffer stands behind the same others of its level wherever a scope names it, the buffers lie behind one
-- another.
abbrev pub WalkLays : Type 0
WalkLays = (d : Draft) (before : ℕ → List ℕ)
    → ((level : ℕ) → HaveBefore (of_level d.buffers level) before [] (named_in (whole d))) → AllLaid d (offsets_of d)

-- The offset of a buffer is then the sum of the sizes of those that it stands behind.
abbrev pub OffsetsAre : Type 0
OffsetsAre = (d : Draft) (before : ℕ → List ℕ)
    → ((level : ℕ) → HaveBefore (of_level d.buffers level) before [] (named_in (whole d))) → (level : ℕ) → level < 8
    → EachNamed (of_level d.buffers level)
    (λ b. get_or (offsets_of d) b 0 ≡ capped (total (size_in d.buffers) (before b))) (named_in (whole d))

-- There are as many offsets as buffers.
abbrev pub OffsetsAreAsMany : Type 0
OffsetsAreAsMany = (d : Draft) → length (offsets_of d) ≡ length d.buffers
