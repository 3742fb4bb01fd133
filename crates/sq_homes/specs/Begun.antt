-- The calls that a form's tables begin, in the order in which they would run.
use Rattle.std.specs.Prelude.{ℕ, ◌+◌, Bool, not, ◌||◌, false, List, [], ◌∷◌, ◌++◌, map, get_or, slice_get}
use Rattle.std.specs.Prelude.{Option, Some, None, is_some}
use Rattle.std.specs.List.{flat_map, range_with_len}
use Rattle.sq_text.specs.declared.spread.SpreadRule.{SpreadRule}
use Rattle.sq_text.specs.Spreading.{child_of}
use Rattle.sq_chosen.specs.SpecLaws.Spec.declared.statement.CallInstance.{CallInstance}
use Rattle.sq_chosen.specs.SpecLaws.Spec.declared.statement.Statement.{Statement}
use Rattle.sq_chosen.specs.SpecLaws.Spec.declared.statement.Statement.TheOpen.{Statement-F}
use Rattle.sq_chosen.specs.SpecLaws.Spec.declared.statement.Statement.TheFolds.{fold-Statement}
use Rattle.sq_chosen.specs.SpecLaws.Spec.declared.body.Body.{Body}
use Rattle.sq_chosen.specs.SpecLaws.Spec.declared.body.Body.TheVariants as body
use Rattle.sq_chosen.specs.SpecLaws.Spec.Spreads.{is_spread}
use Rattle.sq_chosen.specs.SpecLaws.Needs.{Turn, turn_in}

-- A call: its row, whether it is a lower one, and the iteration of the spread map round it.
pub record Begun : Type 0 where
  pub row : CallInstance
  pub lower : Bool
  pub turn : Option Turn

-- A statement: whether a lower call and whether a same-level call stands in it, and its calls, where such an iteration
-- stands round it and it is begun for the k-th time.
pub record BegunPart : Type 0 where
  pub lower : Bool
  pub same : Bool
  pub calls : Option Turn → (k : ℕ) → List Begun

abbrev pub any_lower : List BegunPart → Bool
any_lower [] = false
any_lower (p ∷ ps) = p.lower || any_lower ps

abbrev pub any_same : List BegunPart → Bool
any_same [] = false
any_same (p ∷ ps) = p.same || any_same ps

abbrev pub calls_in : List BegunPart → Option Turn → ℕ → List Begun
calls_in [] turn k = []
calls_in (p ∷ ps) turn k = p.calls turn k ++ calls_in ps turn k

abbrev pub row_begun : (lower : Bool) → Option Turn → Option CallInstance → List Begun
row_begun lower turn None = []
row_begun lower turn (Some r) = record { row = r; lower = lower; turn = turn } ∷ []

abbrev pub begun_step : Statement-F BegunPart → BegunPart
begun_step (Statement-F.Call lower instances) = record {
  lower = lower;
  same = not lower;
  calls = λ turn k. row_begun lower turn (slice_get instances k);
}
begun_step (Statement-F.Map place m counts starts parts) = record {
  lower = any_lower parts;
  same = any_same parts;
  calls = λ turn k.
      let spread = is_spread m (is_some turn) (any_lower parts) (any_same parts) in
      flat_map (λ t. calls_in parts (turn_in spread turn (get_or counts k 0) t) (get_or starts k 0 + t))
      (range_with_len 0 (get_or counts k 0));
}

abbrev pub begun : Statement → BegunPart
begun = fold-Statement BegunPart begun_step

-- the calls of a form
abbrev pub calls_of : Body → List Begun
calls_of (body.Leaf code) = []
calls_of (body.Inner list) = calls_in (map begun list) None 0

-- the child at which a lower call runs: that of its iteration, and child 0 outside of spread maps
abbrev pub child_in : SpreadRule → (children : ℕ) → Option Turn → ℕ
child_in rule children None = 0
child_in rule children (Some u) = child_of rule u.count children u.t
