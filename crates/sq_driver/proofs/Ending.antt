-- How a command ends once its text for `out` is put, whole or not.
use Rattle.std.proofs.Common.{◌≡◌, ◌≤◌, ℕ, List, [], Result, Ok, Err, refl}
use Rattle.sq_port.specs.Ports.{Gains, GainsPrefix, Rose}
use Rattle.sq_driver.specs.declared.outside.end.End.{End}
use Rattle.sq_driver.specs.declared.outside.end.End.TheVariants.{Usage, Absent, FileFault, Refused, Trapped, NoMemory, SinkFault}
use Rattle.sq_words.specs.Words.{Command}
use Rattle.sq_driver.specs.Meaning.{done, Means}
use Rattle.sq_driver.specs.Banks.{whole, cut_out, BankAfter}
use Rattle.sq_driver.specs.Outcome.{Outside, Ended}
use Rattle.sq_driver.specs.Steps.{WroteOut}
use Rattle.sq_driver.proofs.Stopping.{gains_same}

module _ (command : Command) (old now : Outside) (text : List ℕ) (means : Means command old.told (done text []))
    (err : now.err ≡ old.err) (err_faults : now.err_faults ≡ old.err_faults) where
  pub done_whole : Gains old.out now.out text → now.out_faults ≡ old.out_faults → BankAfter command old.told
      (done text []) whole old.bank now.bank → Ended command old now (Ok tt)
  done_whole gained same after = record {
    answer = done text [];
    writing = whole;
    means = means;
    result_is = tt;
    puts = record {
      out = gained;
      err = gains_same old.err now.err [] err refl;
      out_faults = same;
      err_faults =
          err_faults;
    };
    bank_after = after;
  }

  pub done_cut : GainsPrefix old.out now.out text → Rose old.out_faults now.out_faults
      → old.out_faults ≤ now.out_faults → BankAfter command old.told (done text []) cut_out old.bank now.bank
      → Ended command old now (Err SinkFault)
  done_cut gained rose later after = record {
    answer = done text [];
    writing = cut_out;
    means = means;
    result_is = refl;
    puts = record {
      done = tt;
      out = gained;
      err = gains_same old.err now.err [] err refl;
      out_later = later;
      out_faults = rose;
      err_faults = err_faults;
    };
    bank_after = after;
  }

  -- of either result
  pub out_ends : (result : Result (Unit {0}) End) → WroteOut old.out now.out old.out_faults now.out_faults text result
      → BankAfter command old.told (done text []) whole old.bank now.bank → BankAfter command old.told
      (done text []) cut_out old.bank now.bank → Ended command old now result
  out_ends (Ok tt) wrote after cut = done_whole wrote.0 wrote.1 after
  out_ends (Err Usage) wrote after cut = absurd wrote
  out_ends (Err (Absent name)) wrote after cut = absurd wrote
  out_ends (Err (FileFault name)) wrote after cut = absurd wrote
  out_ends (Err (Refused its)) wrote after cut = absurd wrote
  out_ends (Err (Trapped trap)) wrote after cut = absurd wrote
  out_ends (Err NoMemory) wrote after cut = absurd wrote
  out_ends (Err SinkFault) wrote after cut = done_cut wrote.0 wrote.1 wrote.2 cut
