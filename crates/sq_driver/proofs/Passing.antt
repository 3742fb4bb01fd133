-- The row of a mapping, from what each phase answers.
use Rattle.std.proofs.Common.{◌≡◌, None, Result, Ok, Err, IfOk, refl, sym, subst}
use Rattle.sq_text.specs.declared.fault.Fault.{Fault}
use Rattle.sq_ast.specs.declared.program.Program.{Program as Tree}
use Rattle.sq_machfile.specs.Machines.{Hierarchy}
use Rattle.sq_mapping.specs.declared.mapping.Mapping.{Mapping as Mapped}
use Rattle.sq_spec.specs.declared.resolved.Resolved.{Resolved}
use Rattle.sq_race.specs.Race.{IsFirstRace}
use Rattle.sq_ir.specs.declared.plan.Plan.{Plan}
use Rattle.sq_compile.specs.Compiled.{IsPlanOf}
use Rattle.sq_tune.specs.declared.row.RowEnd.{RowEnd}
use Rattle.sq_tune.specs.declared.row.RowEnd.TheVariants as row
use Rattle.sq_tune_text.specs.Traffic.{traffic_of}
use Rattle.sq_driver.specs.declared.outside.end.End.{End}
use Rattle.sq_driver.specs.declared.outside.end.End.TheVariants.{Refused}
use Rattle.sq_driver.specs.Choosing.{IsRow}
use Rattle.sq_driver.specs.Evaluating.{EndsWith}
use Rattle.sq_driver.specs.Races.{IsResolved}

-- a phase that ends with a fault gives the row of it
pub refused_row : {E : Type 0} (Fails : Fault → Type 0) (Is : RowEnd → Type 0) (end : End) (result : Result RowEnd E)
    → EndsWith Fails end
    → IfOk result (λ x. (its : Fault) × (end ≡ Refused its) × (x ≡ row.Refused its))
    → ((its : Fault) → Fails its → Is (row.Refused its)) → IfOk result Is
refused_row Fails Is end (Ok x) ends told gives =
    subst Is (sym told.2) (gives told.0 (subst (λ (e : End). EndsWith Fails e) told.1 ends))
refused_row Fails Is end (Err e) ends told gives = tt

-- of an equal program, machine and mapping
pub row_at : {E : Type 0} (tree that : Tree) (hierarchy machine : Hierarchy) (mapped onto : Mapped)
    (result : Result RowEnd E) → tree ≡ that → hierarchy ≡ machine → mapped ≡ onto
    → IfOk result (IsRow tree hierarchy mapped) → IfOk result (IsRow that machine onto)
row_at tree that hierarchy machine mapped onto result trees machines mappings is =
    subst (λ (t : Tree). IfOk result (IsRow t machine onto)) trees
    (subst (λ (h : Hierarchy). IfOk result (IsRow tree h onto)) machines
    (subst (λ (m : Mapped). IfOk result (IsRow tree hierarchy m)) mappings is))

-- a plan of forms without a race gives the row of its traffic
pub accepted_row : {E : Type 0} (r : Resolved) (plan : Plan) (result : Result RowEnd E)
    → IsResolved r.typed.now r.machine.now r.mapping.now r → IsFirstRace r None → IsPlanOf r plan
    → IfOk result (λ x. x ≡ row.Traffic (traffic_of r.machine.now plan))
    → IfOk result (IsRow r.typed.now r.machine.now r.mapping.now)
accepted_row r plan (Ok x) are free plan_is told =
    subst (IsRow r.typed.now r.machine.now r.mapping.now) (sym told)
    (record { forms = r; are = are; free = free; plan = plan; plan_is = plan_is; traffic_is = refl })
accepted_row r plan (Err e) are free plan_is told = tt
