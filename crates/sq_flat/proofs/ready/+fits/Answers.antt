use Rattle.std.proofs.Common.{rules, ◌≡◌, ◌∙◌, sym, ap, ◌+◌, Bool, true, false, ◌&&◌, ◌∷◌, drop}
use Rattle.sq_flat.specs.Ready.{rows_in, rows_of}
use Rattle.sq_flat.specs.Checked.{rows_fit}
use Rattle.sq_flat.proofs.Opened.{next_item}
use Rattle.sq_flat.proofs.Checks.{rows_split}
use Rattle.sq_flat.proofs.ready.+fits.Goals as goal

pub statements_fit-returns-then-not-statement_fits : goal.statements_fit-returns-then-not-statement_fits
statements_fit-returns-then-not-statement_fits t c =
    let next : drop c.loop-s.s-index c.args.list.now ≡ c.s-item.result ∷ drop (c.loop-s.s-index + 1) c.args.list.now = next_item c.args.list.now c.loop-s.s-index c.s-item.result c.loop-s-test.true c.s-item.is in
    let rest = rows_fit c.args.forms.now c.args.views.now (rows_in (drop (c.loop-s.s-index + 1) c.args.list.now)) in
    let none : rows_fit c.args.forms.now c.args.views.now (rows_of c.s-item.result) ≡ false = search rules in
    sym (sym c.loop-s.invariant ∙ (rows_split c.args.forms.now c.args.views.now (drop c.loop-s.s-index c.args.list.now) (drop (c.loop-s.s-index + 1) c.args.list.now) c.s-item.result next ∙ ap (λ (b : Bool). b && rest) none))

pub statements_fit-loop-s-preserved : goal.statements_fit-loop-s-preserved
statements_fit-loop-s-preserved t c =
    let next : drop c.loop-s.s-index c.args.list.now ≡ c.s-item.result ∷ drop (c.loop-s.s-index + 1) c.args.list.now = next_item c.args.list.now c.loop-s.s-index c.s-item.result c.loop-s-test.true c.s-item.is in
    let rest = rows_fit c.args.forms.now c.args.views.now (rows_in (drop (c.loop-s.s-index + 1) c.args.list.now)) in
    let fits : rows_fit c.args.forms.now c.args.views.now (rows_of c.s-item.result) ≡ true = search rules in
    sym (rows_split c.args.forms.now c.args.views.now (drop c.loop-s.s-index c.args.list.now) (drop (c.loop-s.s-index + 1) c.args.list.now) c.s-item.result next ∙ ap (λ (b : Bool). b && rest) fits) ∙ c.loop-s.invariant
