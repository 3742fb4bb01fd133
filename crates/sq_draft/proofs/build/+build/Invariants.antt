use Rattle.std.proofs.Common.{◌≡◌, ◌++◌, ◌+◌, ◌*◌, ◌∷◌, map, drop}
use Rattle.sq_ir.specs.declared.term.Term.TheVariants as term
use Rattle.sq_tables.specs.Term.Terms.{all_terms, arm_of_form, body_in, homes_in}
use Rattle.sq_draft.specs.Building.{callee_in, part_in}
use Rattle.sq_draft.proofs.build.+build.Given as goal

abbrev pub decreases-statement : goal.decreases-statement
decreases-statement l = 24 * l.left

abbrev pub decreases-statements : goal.decreases-statements
decreases-statements l = 24 * l.left + 1

abbrev pub decreases-turn : goal.decreases-turn
decreases-turn l = 24 * l.left + 2

abbrev pub decreases-body_term : goal.decreases-body_term
decreases-body_term l = 24 * l.left + 2

abbrev pub decreases-form_term : goal.decreases-form_term
decreases-form_term l = 24 * l.left + 3

abbrev pub decreases-callee : goal.decreases-callee
decreases-callee l = 24 * l.left + 4

abbrev pub decreases-called : goal.decreases-called
decreases-called l = 24 * l.left + 5

abbrev pub decreases-call_parts : goal.decreases-call_parts
decreases-call_parts l = 24 * l.left + 6

abbrev pub decreases-call_term : goal.decreases-call_term
decreases-call_term l = 24 * l.left + 7

abbrev pub decreases-arm_term : goal.decreases-arm_term
decreases-arm_term l = 24 * l.left + 8

abbrev pub decreases-arm_terms : goal.decreases-arm_terms
decreases-arm_terms l = 24 * l.left + 9

abbrev pub decreases-case_of : goal.decreases-case_of
decreases-case_of l = 24 * l.left + 10

abbrev pub decreases-rows_term : goal.decreases-rows_term
decreases-rows_term l = 24 * l.left + 11

abbrev pub decreases-loop_term : goal.decreases-loop_term
decreases-loop_term l = 24 * l.left + 3

abbrev pub decreases-work_parts : goal.decreases-work_parts
decreases-work_parts l = 24 * l.left + 6

abbrev pub decreases-work : goal.decreases-work
decreases-work l = 24 * l.left + 7

abbrev pub decreases-works : goal.decreases-works
decreases-works l = 24 * l.left + 8

abbrev pub decreases-lane_parts : goal.decreases-lane_parts
decreases-lane_parts l = 24 * l.left + 9

abbrev pub decreases-piped_at : goal.decreases-piped_at
decreases-piped_at l = 24 * l.left + 10

abbrev pub decreases-piped_call : goal.decreases-piped_call
decreases-piped_call l = 24 * l.left + 11

abbrev pub decreases-piped : goal.decreases-piped
decreases-piped l = 24 * l.left + 12

abbrev pub decreases-run_term : goal.decreases-run_term
decreases-run_term l = 24 * l.left + 13

abbrev pub decreases-held_loop : goal.decreases-held_loop
decreases-held_loop l = 24 * l.left + 14

abbrev pub decreases-hold_parts : goal.decreases-hold_parts
decreases-hold_parts l = 24 * l.left + 15

abbrev pub decreases-hold : goal.decreases-hold
decreases-hold l = 24 * l.left + 16

abbrev pub decreases-map_of : goal.decreases-map_of
decreases-map_of l = 24 * l.left + 17

abbrev pub invariant-statements-loop-x : goal.invariant-statements-loop-x
invariant-statements-loop-x l =
    let part = part_in l.forms.bodies.now l.forms.homes.now l.forms.depth l.round.rule in
    l.out.items ++ all_terms (map part (drop l.x-index l.list)) l.round.op l.round.inside l.c
    ≡ all_terms (map part l.list) l.round.op l.round.inside l.c

abbrev pub invariant-arm_terms-loop-arm : goal.invariant-arm_terms-loop-arm
invariant-arm_terms-loop-arm l =
    let bodies = l.forms.bodies.now in
    let homes = l.forms.homes.now in
    let arm = arm_of_form (body_in bodies) (homes_in homes) (callee_in bodies homes l.forms.depth) l.call.op
    l.call.lower l.c l.call.instances.now in
    l.out.items ++ map arm (drop l.arm-index l.arms) ≡ term.Skip ∷ map arm l.arms
