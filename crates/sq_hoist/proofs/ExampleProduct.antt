-- A matrix product on two levels: 64 by 64 in blocks of 16 by 16, these in blocks of 4 by 4. At both levels the block
-- of C stays the same while k runs, so it leaves the `mapseq` over k; those of A and B change in each iteration.
--
-- `mappar (int i = 0 to 4, int j = 0 to 4) {` at 8:3 round `mapseq (int k = 0 to 4) {` at 9:5.
use Rattle.std.proofs.Common.{◌≡◌, ℕ, zero, suc, true, false, List, [], ◌∷◌, map, codes, ap, ◌∙◌, refl}
use Rattle.std.specs.Prelude.{◌+◌, ◌*◌, ◌/◌, ◌%◌}
use Rattle.std.specs.List.{range_with_len}
use Rattle.sq_text.specs.Names.{Bytes}
use Rattle.sq_text.specs.declared.place.Place.{Place}
use Rattle.sq_text.specs.declared.place.Span.{Span}
use Rattle.sq_ast.specs.declared.program.Mode.{Mode}
use Rattle.sq_ast.specs.declared.program.Mode.TheVariants.{Input, Both}
use Rattle.sq_blocks.specs.declared.argument.Argument.{Argument}
use Rattle.sq_ir.specs.declared.plan.Note.TheVariants.{Hoist}
use Rattle.sq_spec.specs.declared.statement.LoopKind.TheVariants as loop_kind
use Rattle.sq_spec.specs.declared.statement.CallInstance.{CallInstance}
use Rattle.sq_spec.specs.declared.statement.Statement.{Statement}
use Rattle.sq_spec.specs.declared.statement.Statement.TheVariants as s
use Rattle.sq_spec.specs.declared.statement.Statement.TheOpen.{Statement-F}
use Rattle.sq_hoist.specs.declared.sites.Site.{Site}
use Rattle.sq_hoist.specs.Loops.{Seen, all_sites, seen_step, sites}
use Rattle.sq_hoist.specs.Notes.{notes_in}
use Rattle.sq_hoist.proofs.Opened.{seen_call, seen_map}

-- the block of u by u numbers
block : (u row column : ℕ) → List Span
block u row column = record { lo = u * row; hi = u * row + u } ∷ record { lo = u * column; hi = u * column + u } ∷ []

argument : Mode → (array u row column : ℕ) → Argument
argument mode array u row column =
    record { mode = mode; is_reduced = false; array = array; rect = block u row column }

-- the call (i, j, k) of 4 by 4 by 4, t of all
call : (form u t : ℕ) → CallInstance
call form u t =
    let i = t / 16 in
    let j = t / 4 % 4 in
    let k = t % 4 in
    record { form = form; args = argument Input 0 u i k ∷ argument Input 1 u k j ∷ argument Both 2 u i j ∷ [] }

outer : Place
outer = record { line = 8; col = 3 }

inner : Place
inner = record { line = 9; col = 5 }

counts : List ℕ
counts = map (λ t. 4) (range_with_len 0 16)

starts : List ℕ
starts = map (λ t. 4 * t) (range_with_len 0 16)

product : (form u : ℕ) → Statement
product form u =
    s.Map outer loop_kind.Parallel (16 ∷ []) (0 ∷ []) (s.Map inner loop_kind.Sequential counts starts
    (s.Call true (map (call form u) (range_with_len 0 64)) ∷ []) ∷ [])

-- a call in a `mapseq` in a `mappar`
nested : (caller : ℕ) (ns ms ks ls : List ℕ) (p q : Place) (rows : List CallInstance)
    → sites caller (s.Map p loop_kind.Parallel ns ms
    (s.Map q loop_kind.Sequential ks ls (s.Call true rows ∷ []) ∷ []) ∷ [])
    ≡ all_sites caller (seen_step caller (Statement-F.Map p loop_kind.Parallel ns ms
    (seen_step caller (Statement-F.Map q loop_kind.Sequential ks ls
    (seen_step caller (Statement-F.Call true rows) ∷ [])) ∷ [])) ∷ [])
nested caller ns ms ks ls p q rows =
    ap (λ (x : Seen). all_sites caller (x ∷ []))
    (seen_map caller p loop_kind.Parallel ns ms (s.Map q loop_kind.Sequential ks ls (s.Call true rows ∷ []) ∷ [])
    ∙ ap (λ (x : Seen). seen_step caller (Statement-F.Map p loop_kind.Parallel ns ms (x ∷ [])))
    (seen_map caller q loop_kind.Sequential ks ls (s.Call true rows ∷ [])
    ∙ ap (λ (x : Seen). seen_step caller (Statement-F.Map q loop_kind.Sequential ks ls (x ∷ [])))
    (seen_call caller true rows)))

site : (caller form : ℕ) → Site
site caller form = record { caller = caller; form = form; loops = inner ∷ []; leaves = 0 ∷ 0 ∷ 1 ∷ [] }

top_site : sites 0 (product 1 16 ∷ []) ≡ site 0 1 ∷ []
unfolding block argument call outer inner counts starts product site
top_site = nested 0 (16 ∷ []) (0 ∷ []) counts starts outer inner (map (call 1 16) (range_with_len 0 64))

middle_site : sites 1 (product 2 4 ∷ []) ≡ site 1 2 ∷ []
unfolding block argument call outer inner counts starts product site
middle_site = nested 1 (16 ∷ []) (0 ∷ []) counts starts outer inner (map (call 2 4) (range_with_len 0 64))

-- ---- and what is told of them: `hoist 9:5 top C`, `hoist 9:5 mid C`

params : ℕ → Bytes
params zero = codes "A"
params (suc zero) = codes "B"
params (suc (suc i)) = codes "C"

top_note : notes_in (codes "top") params (site 0 1)
    ≡ Hoist (record { line = 9; col = 5 }) (codes "top") (codes "C") ∷ []
unfolding inner site params
top_note = refl

middle_note : notes_in (codes "mid") params (site 1 2)
    ≡ Hoist (record { line = 9; col = 5 }) (codes "mid") (codes "C") ∷ []
unfolding inner site params
middle_note = refl
