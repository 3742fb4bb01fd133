-- The seats of the entry's arrays are one list, however they are told.
use Rattle.std.proofs.Common.{◌≡◌, List, [], ◌∷◌, length, map, take, sym, refl, ap, ◌∙◌}
use Rattle.sq_leaf.specs.declared.shape.Shape.{Shape}
use Rattle.sq_ir.specs.Written.{Setting, scoped}
use Rattle.sq_placed.specs.declared.home.Home.{Home}
use Rattle.sq_placed.specs.Seats.{Seat, buffer_seat}
use Rattle.sq_placed.specs.Tables.{entry_placed}
use Rattle.sq_placed.specs.Trees.{tree}
use Rattle.sq_term_laws.specs.Term.Terms.{buffer_or}
use Rattle.sq_term_laws.specs.Term.Laws.{entry_seats}
use Rattle.sq_term_laws.proofs.Term.Whole.{entry_is_tree}
use Rattle.sq_plan_laws.specs.Entry.{seats_at}
use Rattle.sq_program_laws.specs.Written.{PlansAreWritten}

seats_same : (s : Setting) (xs : List Shape) (hs : List Home) → seats_at s (take (length hs) xs) (map buffer_or hs)
    ≡ entry_seats s xs hs
seats_same s xs [] = none (take 0 xs)
  where
    none : (ys : List Shape) → seats_at s ys [] ≡ entry_seats s xs []
    none [] = refl
    none (y ∷ ys) = refl
seats_same s [] (h ∷ hs) = refl
seats_same s (x ∷ xs) (h ∷ hs) = ap (λ (l : List Seat). buffer_seat s 0 (buffer_or h) x ∷ l) (seats_same s xs hs)

pub plans_are_written : PlansAreWritten
plans_are_written s bodies homes level leveled stand root first n args many =
    let buffers = map buffer_or (homes 0).params in
    ap (scoped 0 buffers) (entry_is_tree s bodies homes level leveled stand root first n args
    ∙ ap (λ seats. tree s (entry_placed bodies homes n args) 0 0 seats [])
    (sym (seats_same s (bodies 0).arrays (homes 0).params)
    ∙ ap (λ k. seats_at s (take k (bodies 0).arrays) buffers) (sym many)))
