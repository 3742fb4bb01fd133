-- What a call says, its status as a number.
use Rattle.std.proofs.Common.{◌≡◌, ℕ, List, Option}
use Rattle.sq_port.specs.Ports.{Content}
use Rattle.sq_words.specs.Words.{Command}
use Rattle.sq_call.specs.Saying.{Called, Numbered, number_of}

pub numbered : {command : Option Command} {c : Content} {status : _} {number : ℕ} {out err : List ℕ}
    → number ≡ number_of status → Called command c status out err → Numbered command c number out err
numbered {status = status} is called = record { status = status; number_is = is; called = called }
