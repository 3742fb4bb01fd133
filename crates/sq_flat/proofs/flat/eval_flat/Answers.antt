use Rattle.std.proofs.Common.{rules, ◌≡◌, sym, subst, ◌<◌, false, length, Ok, Err}
use Rattle.sq_work.specs.InTurn.{serial}
use Rattle.sq_work.specs.Work.{Call}
use Rattle.sq_spec.specs.Works.{flat}
use Rattle.sq_flat.specs.Ends.{HoldsInside}
use Rattle.sq_flat.specs.Held.{entry_args}
use Rattle.sq_flat.specs.Works.{form_work, AreCodes}
use Rattle.sq_flat.proofs.Coded.{entry_evaluates}
use Rattle.sq_flat.proofs.flat.eval_flat.Goals as goal

pub returns-in-Ok-run : goal.returns-in-Ok-run
returns-in-Ok-run c = λ s holds.
    let r = c.args.r.now in
    let codes = c.as_slice-forms.result.now in
    let its = c.in-Ok-entry_call.entry in
    let coded : AreCodes r.typed.now.tasks r.mapping.now.instances r.found.entries c.in-Ok.codes = search rules in
    let same : codes ≡ c.in-Ok.codes = search rules in
    let are : AreCodes r.typed.now.tasks r.mapping.now.instances r.found.entries codes = subst (AreCodes r.typed.now.tasks r.mapping.now.instances r.found.entries) (sym same) coded in
    let some : 0 < length codes = search rules in
    let is : its ≡ record { form = 0; args = entry_args r.typed.now.tasks r.mapping.now r.found.entries } = search rules in
    let run : HoldsInside c.args.arrays.shapes c.run.new.self (Ok c.in-Ok-run.field-0) (serial (Call its.form false its.args (form_work codes (length codes) its.form)) s) =
    subst (λ q. HoldsInside c.args.arrays.shapes c.run.new.self q (serial (Call its.form false its.args (form_work codes (length codes) its.form)) s)) c.in-Ok-run.is (c.run.ensures s holds) in
    entry_evaluates r codes its c.args.arrays c.run.new.self (Ok c.in-Ok-run.field-0) s c.tables_mean_the_program.ensures c.requires.race_free are some is run

pub returns : goal.returns
returns c = λ s holds.
    let r = c.args.r.now in
    let codes = c.as_slice-forms.result.now in
    let its = c.in-Ok-entry_call.entry in
    let coded : AreCodes r.typed.now.tasks r.mapping.now.instances r.found.entries c.in-Ok.codes = search rules in
    let same : codes ≡ c.in-Ok.codes = search rules in
    let are : AreCodes r.typed.now.tasks r.mapping.now.instances r.found.entries codes = subst (AreCodes r.typed.now.tasks r.mapping.now.instances r.found.entries) (sym same) coded in
    let some : 0 < length codes = search rules in
    let is : its ≡ record { form = 0; args = entry_args r.typed.now.tasks r.mapping.now r.found.entries } = search rules in
    let run : HoldsInside c.args.arrays.shapes c.run.new.self (Err c.in-Err.end) (serial (Call its.form false its.args (form_work codes (length codes) its.form)) s) =
    subst (λ q. HoldsInside c.args.arrays.shapes c.run.new.self q (serial (Call its.form false its.args (form_work codes (length codes) its.form)) s)) c.in-Err.is (c.run.ensures s holds) in
    c.flat_end.ensures (flat r.typed.now r.mapping.now s)
    (entry_evaluates r codes its c.args.arrays c.run.new.self (Err c.in-Err.end) s c.tables_mean_the_program.ensures c.requires.race_free are some is run)
