-- The equations of what is seen of a statement, one for each variant.
use Rattle.std.proofs.Common.{◌≡◌, ℕ, Bool, List, [], map, ap, sym, ◌∙◌}
use Rattle.sq_text.specs.declared.place.Place.{Place}
use Rattle.sq_spec.specs.declared.statement.LoopKind.{LoopKind}
use Rattle.sq_spec.specs.declared.statement.CallInstance.{CallInstance}
use Rattle.sq_spec.specs.declared.statement.Statement.{Statement}
use Rattle.sq_spec.specs.declared.statement.Statement.TheVariants as s
use Rattle.sq_spec.specs.declared.statement.Statement.TheOpen.{Statement-F}
use Rattle.sq_spec.specs.declared.statement.Statement.TheFolds.{fold-roll-Statement}
use Rattle.sq_hoist.specs.Loops.{Seen, seen_step, seen, call_nest, loop_nest, nests, sites}

pub seen_call : (caller : ℕ) (lower : Bool) (instances : List CallInstance)
    → seen caller (s.Call lower instances) ≡ seen_step caller (Statement-F.Call lower instances)
seen_call caller lower instances = ap (seen caller) (sym (s.rolls-Call lower instances))
    ∙ fold-roll-Statement Seen (seen_step caller) (Statement-F.Call lower instances)

pub seen_map : (caller : ℕ) (place : Place) (kind : LoopKind) (counts starts : List ℕ) (body : List Statement)
    → seen caller (s.Map place kind counts starts body)
    ≡ seen_step caller (Statement-F.Map place kind counts starts (map (seen caller) body))
seen_map caller place kind counts starts body =
    ap (seen caller) (sym (s.rolls-Map place kind counts starts body))
    ∙ fold-roll-Statement Seen (seen_step caller) (Statement-F.Map place kind counts starts body)

pub nest_call : (caller : ℕ) (lower : Bool) (instances : List CallInstance)
    → (seen caller (s.Call lower instances)).nest ≡ call_nest lower instances
nest_call caller lower instances = ap (λ (x : Seen). x.nest) (seen_call caller lower instances)

pub inner_call : (caller : ℕ) (lower : Bool) (instances : List CallInstance)
    → (seen caller (s.Call lower instances)).inner ≡ []
inner_call caller lower instances = ap (λ (x : Seen). x.inner) (seen_call caller lower instances)

pub nest_map : (caller : ℕ) (place : Place) (kind : LoopKind) (counts starts : List ℕ) (body : List Statement)
    → (seen caller (s.Map place kind counts starts body)).nest
    ≡ loop_nest place kind counts (nests (map (seen caller) body))
nest_map caller place kind counts starts body =
    ap (λ (x : Seen). x.nest) (seen_map caller place kind counts starts body)

pub inner_map : (caller : ℕ) (place : Place) (kind : LoopKind) (counts starts : List ℕ) (body : List Statement)
    → (seen caller (s.Map place kind counts starts body)).inner ≡ sites caller body
inner_map caller place kind counts starts body =
    ap (λ (x : Seen). x.inner) (seen_map caller place kind counts starts body)

pub ruleset nests_opened = (nest_call, nest_map, inner_map)
