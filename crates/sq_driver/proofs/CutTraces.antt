-- A trace that was cut begins the trace of a whole run.
use Rattle.std.proofs.Common.{◌≡◌, ℕ, zero, suc, List, [], ◌∷◌, ◌++◌, take, drop, refl, sym, ap, ◌∙◌, append_assoc, append-nil}
use Rattle.sq_leaf.specs.declared.trap.Trap.{Trap}
use Rattle.sq_ir.specs.Scopes.{Scope}
use Rattle.sq_ir.specs.Events.{Event, Spot, meaning, footprint}
use Rattle.sq_ir.specs.declared.plan.Plan.{Plan}
use Rattle.sq_tree.specs.Bank.{leaves_in}
use Rattle.sq_tree.specs.Runs.{start_of, state_of}
use Rattle.sq_tree.specs.UnderOrders.{RunsUnderGoOn}
use Rattle.sq_tree.specs.Trace.{event_line, trace_text}
use Rattle.sq_orders.specs.Chosen.{chosen_answer, chosen_next}
use Rattle.sq_driver.specs.Banks.{IsCutTrace}
use Rattle.sq_driver.specs.CutTraces.{CutTracesBegin}

trace_join : (p : Plan) (xs ys : List Event) → trace_text p (xs ++ ys) ≡ trace_text p xs ++ trace_text p ys
trace_join p [] ys = refl
trace_join p (x ∷ xs) ys = ap (λ (l : List ℕ). event_line p x ++ l) (trace_join p xs ys)
    ∙ sym (append_assoc (event_line p x) (trace_text p xs) (trace_text p ys))

take_drop : (n : ℕ) (xs : List ℕ) → xs ≡ take n xs ++ drop n xs
take_drop zero xs = refl
take_drop (suc n) [] = refl
take_drop (suc n) (x ∷ xs) = ap (λ (l : List ℕ). x ∷ l) (take_drop n xs)

-- behind the line that was cut stand its rest and the lines of later events
begins : (p : Plan) (events later : List Event) (got : List ℕ) (cut : IsCutTrace p events got)
    → trace_text p (events ++ later) ≡ got ++ (drop cut.count (event_line p cut.last) ++ trace_text p later)
begins p events later got cut =
    let line = event_line p cut.last in
    let before = trace_text p cut.before in
    let whole : trace_text p events ≡ before ++ line =
    ap (trace_text p) cut.is ∙ trace_join p cut.before (cut.last ∷ [])
    ∙ ap (λ (l : List ℕ). before ++ l) (append-nil line) in
    let parted : before ++ line ≡ got ++ drop cut.count line =
    ap (λ (l : List ℕ). before ++ l) (take_drop cut.count line)
    ∙ sym (append_assoc before (take cut.count line) (drop cut.count line))
    ∙ ap (λ (l : List ℕ). l ++ drop cut.count line) (sym cut.text) in
    trace_join p events later ∙ ap (λ (l : List ℕ). l ++ trace_text p later) (whole ∙ parted)
    ∙ append_assoc got (drop cut.count line) (trace_text p later)

pub cut_traces_begin : RunsUnderGoOn Event Scope Spot Trap → CutTracesBegin
cut_traces_begin law command told got old now cut =
    let under = cut.run.ran.under cut.run.held refl in
    let p = cut.run.file.plan in
    let on = law chosen_answer chosen_next (meaning (leaves_in p)) (footprint (leaves_in p)) cut.run.held under.0
    (start_of p cut.run.start) (state_of now cut.run.rest) cut.run.ran.picks cut.run.ran.events under.2 in
    record {
      later = on.later;
      picks = cut.run.ran.picks ++ on.more;
      last = on.last;
      left = on.left;
      runs = on.runs;
      over = on.over;
      rest = drop cut.run.ran.traced.count (event_line cut.run.file.plan cut.run.ran.traced.last)
          ++ trace_text cut.run.file.plan on.later;
      begins = begins cut.run.file.plan cut.run.ran.events on.later got cut.run.ran.traced;
    }
