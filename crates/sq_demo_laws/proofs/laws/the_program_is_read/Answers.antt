use Rattle.sq_demo_laws.proofs.ProgramRead.{one_tree, no_token_fault, no_misreading}
use Rattle.sq_demo_laws.proofs.laws.the_program_is_read.Goals as goal

pub returns : goal.returns
returns c =
    let a = c.each_text_has_tokens_or_breaks.ensures in
    let b = c.tokens_are_a_program_or_have_a_fault.ensures in
    record {
      one = one_tree a.one_list a.never_both b.one_program b.never_both;
      tokens = no_token_fault a.one_list a.never_both b.one_program b.never_both;
      read = no_misreading a.one_list a.never_both b.one_program b.never_both;
    }
