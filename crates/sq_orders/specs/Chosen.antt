-- What the order that was asked for holds, and what it answers.
use Rattle.std.specs.Prelude.{ℕ, List, [], ◌∷◌, drop, ◌-◌, eqb, if◌then◌else◌}
use Rattle.sq_port.specs.Orders.{list_answer, list_next, seed_held, seed_answer, seed_next}
use Rattle.sq_orders.specs.declared.order.Chosen.{Chosen}
use Rattle.sq_orders.specs.declared.order.Chosen.TheVariants.{First, Last, Seed, List as Listed}

-- the number of the way to choose, and behind it what that way holds
abbrev pub chosen_held : Chosen → List ℕ
chosen_held First = 0 ∷ []
chosen_held Last = 1 ∷ []
chosen_held (Seed o) = 2 ∷ seed_held o.words
chosen_held (Listed o) = 3 ∷ drop o.done o.picks

abbrev pub answer_by : (way : ℕ) → List ℕ → ℕ → ℕ
answer_by way held ready =
    if eqb way 0 then 0 else if eqb way 1 then ready - 1 else if eqb way 2 then seed_answer held ready
    else list_answer held ready

abbrev pub next_by : (way : ℕ) → List ℕ → ℕ → List ℕ
next_by way held ready =
    if eqb way 2 then seed_next held ready else if eqb way 3 then list_next held ready else held

abbrev pub chosen_answer : List ℕ → ℕ → ℕ
chosen_answer [] ready = 0
chosen_answer (way ∷ held) ready = answer_by way held ready

-- the way stays
abbrev pub chosen_next : List ℕ → ℕ → List ℕ
chosen_next [] ready = []
chosen_next (way ∷ held) ready = way ∷ next_by way held ready
