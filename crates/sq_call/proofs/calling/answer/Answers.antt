use Rattle.std.proofs.Common.{refl, ap, Some}
use Rattle.sq_call.specs.Given.{content_of}
use Rattle.sq_call.proofs.Telling.{as_said, called_of}
use Rattle.sq_call.proofs.calling.answer.Goals as goal

pub returns : goal.returns
returns c =
    let top = c.sq_top-status.ensures in
    as_said c.told.ensures.status c.told.ensures.out c.told.ensures.err
    (called_of (record {
      told = ap (λ files. Some (content_of files)) c.new-files.ensures;
      out_none = ap Some c.new-out.ensures.0;
      err_none = ap Some c.new-err.ensures.0;
      bank = c.new-bank.ensures;
      out_some = refl;
      err_some = refl;
    }) top.answered (λ is. (top.file_fault is).0) top.no_command top.only top.demo)
