use Rattle.std.proofs.Common.{rules}
use Rattle.sq_call.proofs.Telling.{not_four, not_five, seven_names_none}
use Rattle.sq_c.proofs.Numbering.{numbered}
use Rattle.sq_c.proofs.sq_call.Goals as goal

pub returns-clause-given : goal.returns-clause-given
returns-clause-given c =
    let says = c.call-said.ensures in
    record {
      out_text = c.call-said.result.out.items;
      err_text = c.call-said.result.err.items;
      numbered = numbered c.number.ensures (record { says = says.says; only = says.only; demo = says.demo });
      out_is = search rules;
      err_is = search rules;
      out_length = search rules;
      err_length = search rules;
    }

pub returns-clause-no_file_fault : goal.returns-clause-no_file_fault
returns-clause-no_file_fault c =
    let says = c.call-said.ensures in
    not_four (numbered c.number.ensures (record { says = says.says; only = says.only; demo = says.demo }))

pub returns-clause-no_sink_fault : goal.returns-clause-no_sink_fault
returns-clause-no_sink_fault c =
    let says = c.call-said.ensures in
    not_five (numbered c.number.ensures (record { says = says.says; only = says.only; demo = says.demo }))

pub returns-clause-absent : goal.returns-clause-absent
returns-clause-absent c =
    let says = c.call-said.ensures in
    seven_names_none (numbered c.number.ensures (record { says = says.says; only = says.only; demo = says.demo }))
