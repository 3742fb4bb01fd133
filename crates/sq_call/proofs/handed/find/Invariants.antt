use Rattle.std.proofs.Common.{◌≡◌, drop}
use Rattle.sq_call.specs.Given.{content_of}
use Rattle.sq_call.proofs.handed.find.Given as goal

-- no file so far has the name
abbrev pub invariant-loop-file : goal.invariant-loop-file
invariant-loop-file l = content_of (drop l.file-index l.files) l.name ≡ content_of l.files l.name
