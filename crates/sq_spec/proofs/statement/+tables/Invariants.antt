use Rattle.std.proofs.Common.{◌≡◌, ◌++◌, drop, map}
use Rattle.std.specs.Option.{option_copied}
use Rattle.sq_form_laws.specs.Forms.Args.{names_of}
use Rattle.sq_form_laws.specs.Forms.Worlds.{frame_of}
use Rattle.sq_spec.specs.Statements.{table_of, all_of}
use Rattle.sq_spec.proofs.statement.+tables.Given as goal

abbrev pub invariant-statements-loop-s : goal.invariant-statements-loop-s
invariant-statements-loop-s l =
    let each = table_of l.context.forms.now.entries (frame_of l.context.frame.now) (names_of l.context.known.now) l.context.elems.now l.fn.numbers in
    record {
      tables : l.tables ++ all_of (map each (drop l.s-index l.list)) l.call (option_copied l.reduced) l.nest ≡ all_of (map each l.list) l.fn.call
          (option_copied l.reduced) l.nest;
      numbers : l.numbers ≡ l.fn.numbers;
    }
