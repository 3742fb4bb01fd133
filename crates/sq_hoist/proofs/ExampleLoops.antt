-- Loops round a call, and which arguments leave them.
use Rattle.std.proofs.Common.{◌≡◌, ℕ, zero, suc, true, false, List, [], ◌∷◌, map, codes, refl}
use Rattle.std.specs.Prelude.{◌+◌, ◌/◌, ◌%◌}
use Rattle.std.specs.List.{range_with_len}
use Rattle.sq_text.specs.Names.{Bytes}
use Rattle.sq_text.specs.declared.place.Place.{Place}
use Rattle.sq_ast.specs.declared.program.Mode.{Mode}
use Rattle.sq_ast.specs.declared.program.Mode.TheVariants.{Input, Output, Both}
use Rattle.sq_blocks.specs.declared.argument.Argument.{Argument}
use Rattle.sq_ir.specs.declared.plan.Note.TheVariants.{Hoist}
use Rattle.sq_spec.specs.declared.statement.LoopKind.TheVariants as loop_kind
use Rattle.sq_spec.specs.declared.statement.CallInstance.{CallInstance}
use Rattle.sq_spec.specs.declared.statement.Statement.{Statement}
use Rattle.sq_spec.specs.declared.statement.Statement.TheVariants as s
use Rattle.sq_hoist.specs.declared.sites.Site.{Site}
use Rattle.sq_hoist.specs.Loops.{sites}
use Rattle.sq_hoist.specs.Notes.{notes_in}
use Rattle.sq_hoist.proofs.Opened.{seen_call, seen_map}

-- one element of an array
argument : Mode → (array at : ℕ) → Argument
argument mode array at =
    record { mode = mode; is_reduced = false; array = array; rect = record { lo = at; hi = at + 1 } ∷ [] }

line : ℕ → Place
line n = record { line = n; col = 3 }

loop : List ℕ → List ℕ → List CallInstance → Statement
loop counts starts rows = s.Map (line 5) loop_kind.Sequential counts starts (s.Call true rows ∷ [])

site : List Place → List ℕ → Site
site loops leaves = record { caller = 0; form = 1; loops = loops; leaves = leaves }

-- ---- a loop of one iteration: each block is the same in all of it

copy : ℕ → CallInstance
copy t = record { form = 1; args = argument Input 0 t ∷ argument Output 1 t ∷ [] }

one_iteration : sites 0 (loop (1 ∷ []) (0 ∷ []) (copy 0 ∷ []) ∷ []) ≡ site (line 5 ∷ []) (1 ∷ 1 ∷ []) ∷ []
unfolding argument line loop site copy
one_iteration = rw (seen_map, seen_call) refl

-- of two iterations neither block stays
two_iterations : sites 0 (loop (2 ∷ []) (0 ∷ []) (copy 0 ∷ copy 1 ∷ []) ∷ []) ≡ site (line 5 ∷ []) (0 ∷ 0 ∷ []) ∷ []
unfolding argument line loop site copy
two_iterations = rw (seen_map, seen_call) refl

-- begun twice with one iteration each, the blocks stay each time, though they differ
begun_twice : sites 0 (loop (1 ∷ 1 ∷ []) (0 ∷ 1 ∷ []) (copy 0 ∷ copy 1 ∷ []) ∷ [])
    ≡ site (line 5 ∷ []) (1 ∷ 1 ∷ []) ∷ []
unfolding argument line loop site copy
begun_twice = rw (seen_map, seen_call) refl

-- ---- a plain loop round another: A leaves the inner loop alone, C both, and B none

two : ℕ → CallInstance
two t = record { form = 1; args = argument Input 0 (t / 3) ∷ argument Input 1 (t % 3) ∷ argument Both 2 0 ∷ [] }

two_loops : (outer : List ℕ) → (inner starts : List ℕ) → List CallInstance → Statement
two_loops outer inner starts rows = s.Map (line 4) loop_kind.Sequential outer (0 ∷ []) (loop inner starts rows ∷ [])

two_site : sites 0 (two_loops (2 ∷ []) (3 ∷ 3 ∷ []) (0 ∷ 3 ∷ []) (map two (range_with_len 0 6)) ∷ [])
    ≡ site (line 5 ∷ line 4 ∷ []) (1 ∷ 0 ∷ 2 ∷ []) ∷ []
unfolding argument line loop site two two_loops
two_site = rw (seen_map, seen_map, seen_call) refl

params : ℕ → Bytes
params zero = codes "A"
params (suc zero) = codes "B"
params (suc (suc i)) = codes "C"

-- by the places of the loops, so that of the outer one stands first
two_notes : notes_in (codes "top") params (site (line 5 ∷ line 4 ∷ []) (1 ∷ 0 ∷ 2 ∷ []))
    ≡ Hoist (record { line = 4; col = 3 }) (codes "top") (codes "C")
    ∷ Hoist (record { line = 5; col = 3 }) (codes "top") (codes "A") ∷ []
unfolding line site params
two_notes = refl

-- where the outer loop has no iteration at one of its times, it isn't plain, and the inner one is
inner_alone : sites 0 (two_loops (1 ∷ 0 ∷ []) (3 ∷ []) (0 ∷ []) (map two (range_with_len 0 3)) ∷ [])
    ≡ site (line 5 ∷ []) (1 ∷ 0 ∷ 1 ∷ []) ∷ []
unfolding argument line loop site two two_loops
inner_alone = rw (seen_map, seen_map, seen_call) refl

-- ---- a time without an iteration: the loop isn't plain

none_at_first : sites 0 (loop (0 ∷ 3 ∷ []) (0 ∷ 0 ∷ []) (map two (range_with_len 0 3)) ∷ []) ≡ []
unfolding argument line loop two
none_at_first = rw (seen_map, seen_call) refl

-- ---- two forms of the call: the loop isn't plain

of_form : ℕ → CallInstance
of_form k = record { form = k; args = argument Input 0 0 ∷ [] }

two_forms : sites 0 (loop (2 ∷ []) (0 ∷ []) (of_form 1 ∷ of_form 2 ∷ []) ∷ []) ≡ []
unfolding argument line loop of_form
two_forms = rw (seen_map, seen_call) refl

-- ---- a written block that meets the one read in the last iteration alone

met : ℕ → CallInstance
met t = record { form = 1; args = argument Input 0 2 ∷ argument Output 0 t ∷ [] }

it_stays : sites 0 (loop (3 ∷ []) (0 ∷ []) (map met (range_with_len 0 3)) ∷ [])
    ≡ site (line 5 ∷ []) (0 ∷ 0 ∷ []) ∷ []
unfolding argument line loop site met
it_stays = rw (seen_map, seen_call) refl

-- an iteration less, and it leaves
it_leaves : sites 0 (loop (2 ∷ []) (0 ∷ []) (map met (range_with_len 0 2)) ∷ [])
    ≡ site (line 5 ∷ []) (1 ∷ 0 ∷ []) ∷ []
unfolding argument line loop site met
it_leaves = rw (seen_map, seen_call) refl
