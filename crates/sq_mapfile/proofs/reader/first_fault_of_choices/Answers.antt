use Rattle.std.proofs.Common.{◌∙◌, sym, ap, subst}
use Rattle.sq_text.specs.declared.code.Phase.TheVariants.{Mapping}
use Rattle.sq_text.specs.First.{HoldsIn}
use Rattle.sq_text.specs.Faults.{IsFirst}
use Rattle.sq_text.specs.Found.{Found, nothing_found, firsts}
use Rattle.sq_mapfile.specs.Faults.{breach_of}
use Rattle.sq_mapfile.specs.Notes.{name_rules}
use Rattle.sq_mapfile.specs.Choices.{choice_rules, BreaksChoices}
use Rattle.sq_mapfile.specs.Cycles.{IsOnCycle, calls_among}
use Rattle.sq_mapfile.specs.Walk.{Joins}
use Rattle.sq_mapfile.proofs.Walks.{same_phase, first_of_choices}
use Rattle.sq_mapfile.proofs.reader.first_fault_of_choices.Goals as goal

pub note_cycle-requires : goal.note_cycle-requires
note_cycle-requires c =
    let names = name_rules c.args.program.now c.args.table.now.levels.now c.args.mapping.now in
    let choices = choice_rules c.args.program.now c.args.table.now.levels.now c.args.mapping.now in
    ap (λ (f : Found). f.phase) (c.in_ok-count.ensures.found ∙ ap (λ (f : Found). firsts breach_of f choices) (c.in_ok-note_names.ensures ∙ ap (λ (f : Found). firsts breach_of f names) c.new-found.ensures))
    ∙ same_phase choices (firsts breach_of (nothing_found Mapping) names) ∙ same_phase names (nothing_found Mapping)

pub returns-clause-fault : goal.returns-clause-fault
returns-clause-fault c =
    let program = c.args.program.now in
    let levels = c.args.table.now.levels.now in
    let m = c.args.mapping.now in
    let names = c.in_ok-note_names.ensures ∙ ap (λ (f : Found). firsts breach_of f (name_rules program levels m)) c.new-found.ensures in
    let joins = subst (λ xs. Joins (HoldsIn (IsOnCycle (calls_among xs)) (calls_among xs)) c.note_choices.new.found c.note_cycle.new.found) c.requires c.in_ok-note_cycle.ensures in
    subst (IsFirst (BreaksChoices program levels m)) (sym c.finish.ensures)
    (first_of_choices program levels m c.note_names.new.found c.note_choices.new.found c.note_cycle.new.found names c.in_ok-count.ensures.found joins)
