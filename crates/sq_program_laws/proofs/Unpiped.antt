-- Loops that overlap their transfers, as the placed source and its term ask for.
use Rattle.std.proofs.Common.{◌≡◌, ℕ, true, false, List, [], ◌∷◌, slice_get, sym, ◌∙◌}
use Rattle.sq_placed.specs.declared.home.Homes.{Homes}
use Rattle.sq_placed.specs.Tables.{row_form}
use Rattle.sq_placed.specs.Pipes.{CallLoop, call_loops_of, LoopsStand}
use Rattle.sq_term_laws.specs.Orders.{EachOf}
use Rattle.sq_program_laws.specs.Piped.{MayOverlap, UnpipedFits, PipesFitStand}
use Rattle.sq_program_laws.proofs.Loops.{each_from}

pub unpiped_fits : UnpipedFits
unpiped_fits bodies homes none = record {
  loops = λ k. each_from (MayOverlap homes) (call_loops_of (bodies k).body) (λ i l at e.
      let no : true ≡ false = sym e ∙ none (row_form (slice_get l.rows 0)) in absurd (cc no));
}

stand : (homes : ℕ → Homes) (ls : List CallLoop) → EachOf (MayOverlap homes) ls → LoopsStand homes ls
stand homes [] h = tt
stand homes (l ∷ ls) h = (λ e. (h.0 e).stands, stand homes ls h.1)

pub pipes_fit_stand : PipesFitStand
pipes_fit_stand bodies homes fit = record { each = λ f. stand homes (call_loops_of (bodies f).body) (fit.loops f) }
