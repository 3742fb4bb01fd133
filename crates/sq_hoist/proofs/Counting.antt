-- What is counted of a call in plain loops is the nest that it is.
use Rattle.std.proofs.Common.{◌≡◌, ℕ, ◌==◌, Bool, true, false, List, [], ◌∷◌, ◌++◌, map, length, Option, Some, None}
use Rattle.std.proofs.Common.{refl, sym, ap, if◌then◌else◌}
use Rattle.std.specs.List.{list_all}
use Rattle.sq_text.specs.declared.place.Place.{Place}
use Rattle.sq_spec.specs.declared.statement.CallInstance.{CallInstance}
use Rattle.sq_hoist.specs.declared.nest.Counted.{Counted}
use Rattle.sq_hoist.specs.Loops.{Nest, cut, leaving, looped, call_nest}
use Rattle.sq_hoist.specs.Counts.{sums, counted_nest, nest_of, counted_call, counted_loop}
use Rattle.sq_hoist.proofs.Cuts.{times_cut, single}

abbrev alone : CallInstance → List CallInstance → List (List CallInstance) → Option Nest
alone r rows times = Some (record { form = r.form; times = times; loops = []; leaves = map (λ a. 0) r.args })

call_if : (r : CallInstance) (rows : List CallInstance) (t : Bool)
    → nest_of (if t then Some (record {
      form = r.form;
      rows = r ∷ rows;
      times = map (λ q. 1) (r ∷ rows);
      loops = [];
      leaves = map (λ a. 0) r.args;
    })
    else None)
    ≡ (if t then alone r rows (map (λ q. q ∷ []) (r ∷ rows)) else None)
call_if r rows false = refl
call_if r rows true = ap (alone r rows) (single (r ∷ rows))

pub call_counted : (lower : Bool) (rows : List CallInstance)
    → nest_of (counted_call lower rows) ≡ call_nest lower rows
call_counted false rows = refl
call_counted true [] = refl
call_counted true (r ∷ rows) = call_if r rows (list_all (λ q. q.form == r.form) rows)

pub loop_counted : (place : Place) (counts : List ℕ) (c : Counted)
    → counted_nest (counted_loop place counts c) ≡ looped place counts (counted_nest c)
loop_counted place counts c = ap whole (sym (times_cut counts c.times c.rows))
  where
    whole : List (List CallInstance) → Nest
    whole times = record {
      form = c.form;
      times = times;
      loops = c.loops ++ place ∷ [];
      leaves = leaving (length c.loops) times 0 c.leaves;
    }
