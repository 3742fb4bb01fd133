-- What is known of a map by the statement alone that stands in it.
use Rattle.std.proofs.Common.{◌≡◌, ℕ, suc, ◌+◌, List, [], ◌∷◌, Option, Some, None, refl, arith}
use Rattle.sq_term.specs.Ir.declared.num.Num.{Num}
use Rattle.sq_spec.specs.declared.statement.LoopKind.{LoopKind}
use Rattle.sq_spec.specs.declared.statement.LoopKind.TheVariants as loop_kind
use Rattle.sq_term.specs.Placed.Tables.{Chain, chain_of}
use Rattle.sq_term.specs.Terms.{first_num, chain_num}
use Rattle.sq_tables.specs.Loops.{rows_of_chain, rows_of_list, loops_of_chain, loops_of_list, first_of_list}

pub more_rows : (m : LoopKind) (starts : List ℕ) (hs : List (Option (Chain Num)))
    → rows_of_chain (chain_of first_num m starts hs) ≡ rows_of_list m hs
more_rows loop_kind.Sequential starts [] = refl
more_rows loop_kind.Sequential starts (None ∷ []) = refl
more_rows loop_kind.Sequential starts (Some h ∷ []) = refl
more_rows loop_kind.Sequential starts (h ∷ g ∷ hs) = refl
more_rows loop_kind.Parallel starts hs = refl
more_rows (loop_kind.Reduction r) starts hs = refl

pub more_loops : (m : LoopKind) (starts : List ℕ) (hs : List (Option (Chain Num)))
    → loops_of_chain (chain_of first_num m starts hs) ≡ loops_of_list m hs
more_loops loop_kind.Sequential starts [] = refl
more_loops loop_kind.Sequential starts (None ∷ []) = refl
more_loops loop_kind.Sequential starts (Some h ∷ []) = let e : suc h.loops ≡ h.loops + 1 = omega arith in e
more_loops loop_kind.Sequential starts (h ∷ g ∷ hs) = refl
more_loops loop_kind.Parallel starts hs = refl
more_loops (loop_kind.Reduction r) starts hs = refl

pub more_first : (m : LoopKind) (starts : List ℕ) (hs : List (Option (Chain Num))) (x : Num)
    → chain_num (chain_of first_num m starts hs) x ≡ first_of_list m starts hs x
more_first loop_kind.Sequential starts [] x = refl
more_first loop_kind.Sequential starts (None ∷ []) x = refl
more_first loop_kind.Sequential starts (Some h ∷ []) x = refl
more_first loop_kind.Sequential starts (h ∷ g ∷ hs) x = refl
more_first loop_kind.Parallel starts hs x = refl
more_first (loop_kind.Reduction r) starts hs x = refl

pub ruleset chains = (more_rows, more_loops, more_first)
