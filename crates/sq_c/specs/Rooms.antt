-- What a call from C gives.
use Rattle.std.specs.Prelude.{◌≡◌, ℕ, List, ◌++◌, length, take, drop, Option}
use Rattle.sq_port.specs.Ports.{Content}
use Rattle.sq_words.specs.Words.{Command}
use Rattle.sq_call.specs.Saying.{Numbered}
use Rattle.sq_c.specs.declared.Lengths.{Lengths}

-- a room with as much of a text as it holds, and behind that as it was
abbrev pub filled : (room text : List ℕ) → List ℕ
filled room text = take (length room) text ++ drop (length text) room

-- the status of a call as a number, its texts in the rooms, and how long they are
pub record IsGiven (command : Option Command) (c : Content) (number : ℕ) (out now_out err now_err : List ℕ)
    (lengths : Lengths) : Type 0 where
  pub out_text : List ℕ
  pub err_text : List ℕ
  pub numbered : Numbered command c number out_text err_text
  pub out_is : now_out ≡ filled out out_text
  pub err_is : now_err ≡ filled err err_text
  pub out_length : lengths.out ≡ length out_text
  pub err_length : lengths.err ≡ length err_text
