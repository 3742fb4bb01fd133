use Rattle.sq_leaf.specs.declared.trap.Trap.{Trap}
use Rattle.sq_ir.proofs.GoodPlans.{plans_have_room_always}
use Rattle.sq_check_laws.proofs.First.{first_flaws_are_one}
use Rattle.sq_filed_laws.proofs.Filed.{filed}
use Rattle.sq_filed_laws.proofs.laws.good_plans_are_filed.Goals as goal

pub returns : goal.returns
returns c = filed
    c.each_text_has_tokens_or_breaks.ensures.one_list c.each_text_has_tokens_or_breaks.ensures.never_both
    c.tokens_are_lines_or_have_a_fault.ensures.one_text c.tokens_are_lines_or_have_a_fault.ensures.never_both
    c.sound_lines_are_plans.ensures.faultless
    (first_flaws_are_one Trap) (plans_have_room_always Trap)
    c.laid_out_lines_read_back.ensures c.same_lines_are_sound.ensures
    c.same_lines_are_one_plan.ensures.moved c.same_lines_are_one_plan.ensures.good
    c.written_plans_are_the_same.ensures.same c.written_plans_are_the_same.ensures.runs
    c.written_plans_stay_good.ensures.sound c.written_plans_stay_good.ensures.good
    c.moved_leaves_end_alike.ensures
