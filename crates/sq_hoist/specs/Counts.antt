-- Calls in plain loops as the code counts them: the rows of the call as they stand in its table, and how many of them
-- there are in each time.
use Rattle.std.specs.Prelude.{ℕ, ◌+◌, ◌==◌, Bool, true, false, List, [], ◌∷◌, ◌++◌, map, length, Option, Some, None}
use Rattle.std.specs.Prelude.{if◌then◌else◌}
use Rattle.std.specs.List.{list_all}
use Rattle.sq_text.specs.declared.place.Place.{Place}
use Rattle.sq_spec.specs.declared.statement.CallInstance.{CallInstance}
use Rattle.sq_hoist.specs.declared.nest.Counted.{Counted}
use Rattle.sq_hoist.specs.declared.sites.Site.{Site}
use Rattle.sq_hoist.specs.Loops.{Nest, cut, leaving, sites_in}

abbrev pub total : List ℕ → ℕ
total [] = 0
total (n ∷ ns) = n + total ns

-- so many of these sizes each
abbrev pub sums : List ℕ → List ℕ → List ℕ
sums counts sizes = map total (cut counts sizes)

-- what is counted
abbrev pub counted_nest : Counted → Nest
counted_nest c = record { form = c.form; times = cut c.times c.rows; loops = c.loops; leaves = c.leaves }

abbrev pub nest_of : Option Counted → Option Nest
nest_of None = None
nest_of (Some c) = Some (counted_nest c)

-- ---- the same steps on it

abbrev pub counted_call : (lower : Bool) → List CallInstance → Option Counted
counted_call false rows = None
counted_call true [] = None
counted_call true (r ∷ rows) =
    if list_all (λ q. q.form == r.form) rows
    then Some (record {
      form = r.form;
      rows = r ∷ rows;
      times = map (λ q. 1) (r ∷ rows);
      loops = [];
      leaves = map (λ a. 0) r.args;
    })
    else None

abbrev pub counted_loop : Place → List ℕ → Counted → Counted
counted_loop place counts c =
    let times = sums counts c.times in
    record {
      form = c.form;
      rows = c.rows;
      times = times;
      loops = c.loops ++ place ∷ [];
      leaves = leaving (length c.loops) (cut times c.rows) 0 c.leaves;
    }

-- ---- sites on the way

-- those inside a statement that is no call in plain loops
abbrev pub found_by : Option Nest → List Site → List Site
found_by None inner = inner
found_by (Some n) inner = []

-- and its own
abbrev pub own_site : (caller : ℕ) → Option Nest → List Site
own_site caller None = []
own_site caller (Some n) = sites_in caller n n.loops
