use Rattle.std.proofs.Common.{◌≡◌, false, rules}
use Rattle.sq_call.specs.Given.{are_texts, bytes_of, content_of}
use Rattle.sq_call.proofs.Telling.{for_no_texts}
use Rattle.sq_call.proofs.calling.called.Goals as goal

pub returns-in-Err-NotText : goal.returns-in-Err-NotText
returns-in-Err-NotText c =
    let none : are_texts (bytes_of c.args.words.now) ≡ false = search rules in
    for_no_texts (bytes_of c.args.words.now) none (c.refuse.ensures (content_of c.args.files.now))
