use Rattle.std.proofs.Common.{rules, ◌≡◌, ◌∙◌, sym, ap, subst, ℕ, ◌+◌, ◌-◌, List, ◌∷◌, drop, map, length, slice_get, Some, Ok, Err}
use Rattle.sq_rect.specs.declared.view.View.{View}
use Rattle.sq_leaf.specs.Views.{Shows, shape_of}
use Rattle.sq_work.specs.Work.{Work, Call}
use Rattle.sq_work.specs.Meaning.{Outcome, and_then, with_identity, at_entry, at_return}
use Rattle.sq_work.specs.InTurn.{with_combined, serial}
use Rattle.sq_spec.specs.declared.statement.Statement.{Statement}
use Rattle.sq_flat.specs.Memory.{AreSmall, ArePlaced, ArgsFit, start_bytes, end_bytes, bytes_of, combined_bytes}
use Rattle.sq_flat.specs.Ready.{IsForm}
use Rattle.sq_spec.specs.Bodies.{running}
use Rattle.sq_flat.specs.Works.{list_work, turn_of, form_work, Follows}
use Rattle.sq_spec.specs.StatementsWork.{row_work, statement_work}
use Rattle.sq_flat.proofs.Fitting.{placed_still}
use Rattle.sq_flat.proofs.Opened.{begun_call, next_item, ready_item, ready_rest, ready_call}
use Rattle.sq_flat.proofs.Following.{Reached, reached, trapped_first, trap_stays}
use Rattle.sq_flat.proofs.Calling as calling
use Rattle.sq_flat.proofs.Standing.{length_bytes}
use Rattle.sq_flat.proofs.Gathered.{cleared_shows, combined_shows}
use Rattle.sq_flat.proofs.eval.+run.Goals as goal

pub call-enter-requires-clause-small : goal.call-enter-requires-clause-small
call-enter-requires-clause-small t c =
    let there : slice_get c.args.setting.now.forms.now c.args.r.now.form ≡ Some c.in-Some.f.now = search rules in
    let form : IsForm c.args.setting.now.forms.now c.in-Some.f.now = c.requires.forms.each c.args.r.now.form c.in-Some.f.now there in
    subst AreSmall (sym c.as_slice-inner.ensures.views) form.line.small

pub call-run-requires : goal.call-run-requires
call-run-requires t c =
    let there : slice_get c.args.setting.now.forms.now c.args.r.now.form ≡ Some c.in-Some.f.now = search rules in
    let form : IsForm c.args.setting.now.forms.now c.in-Some.f.now = c.requires.forms.each c.args.r.now.form c.in-Some.f.now there in
    let fit : ArgsFit c.args.views.now c.in-Some.f.now.views c.args.r.now.args = calling.row_form c.args.setting.now.forms.now c.args.views.now c.args.r.now c.in-Some.f.now c.requires.row there in
    let made : c.as_mut_slice-inside.result.now ≡ start_bytes c.args.views.now c.args.bytes.now c.args.r.now.args 0 c.in-Some.f.now.views = search rules in
    (search rules, (form, (c.requires.forms, ap length made ∙ calling.memory_long c.args.views.now c.in-Some.f.now.views c.args.bytes.now c.args.r.now.args form.line c.requires.placed fit)))

pub call-leave-requires-clause-inner : goal.call-leave-requires-clause-inner
call-leave-requires-clause-inner t c =
    let there : slice_get c.args.setting.now.forms.now c.args.r.now.form ≡ Some c.in-Some.f.now = search rules in
    let form : IsForm c.args.setting.now.forms.now c.in-Some.f.now = c.requires.forms.each c.args.r.now.form c.in-Some.f.now there in
    let fit : ArgsFit c.args.views.now c.in-Some.f.now.views c.args.r.now.args = calling.row_form c.args.setting.now.forms.now c.args.views.now c.args.r.now c.in-Some.f.now c.requires.row there in
    let made : c.as_mut_slice-inside.result.now ≡ start_bytes c.args.views.now c.args.bytes.now c.args.r.now.args 0 c.in-Some.f.now.views = search rules in
    let kept : length c.run.new.bytes ≡ length c.as_mut_slice-inside.result.now = search rules in
    let placed : ArePlaced c.in-Some.f.now.views c.run.new.bytes = calling.placed_in_line c.in-Some.f.now.views c.run.new.bytes form.line
    (kept ∙ (ap length made ∙ calling.memory_long c.args.views.now c.in-Some.f.now.views c.args.bytes.now c.args.r.now.args form.line c.requires.placed fit)) in
    subst (λ (vs : List View). ArePlaced vs c.run.new.bytes) (sym c.as_slice-inner.ensures.views) placed

pub call-returns-in-Ok-run : goal.call-returns-in-Ok-run
call-returns-in-Ok-run t c = λ lower s shows.
    let there : slice_get c.args.setting.now.forms.now c.args.r.now.form ≡ Some c.in-Some.f.now = search rules in
    let form : IsForm c.args.setting.now.forms.now c.in-Some.f.now = c.requires.forms.each c.args.r.now.form c.in-Some.f.now there in
    let fit : ArgsFit c.args.views.now c.in-Some.f.now.views c.args.r.now.args = calling.row_form c.args.setting.now.forms.now c.args.views.now c.args.r.now c.in-Some.f.now c.requires.row there in
    let made : c.as_mut_slice-inside.result.now ≡ start_bytes c.args.views.now c.args.bytes.now c.args.r.now.args 0 c.in-Some.f.now.views = search rules in
    let kept : length c.run.new.bytes ≡ length c.as_mut_slice-inside.result.now = search rules in
    let placed : ArePlaced c.in-Some.f.now.views c.run.new.bytes = calling.placed_in_line c.in-Some.f.now.views c.run.new.bytes form.line
    (kept ∙ (ap length made ∙ calling.memory_long c.args.views.now c.in-Some.f.now.views c.args.bytes.now c.args.r.now.args form.line c.requires.placed fit)) in
    let work = running (form_work c.args.setting.now.forms.now (c.args.calls - 1)) (map shape_of c.in-Some.f.now.views) c.in-Some.f.now.body in
    let is : form_work c.args.setting.now.forms.now c.args.calls c.args.r.now.form ≡ work = calling.form_of c.args.setting.now.forms.now c.args.calls c.args.r.now.form c.in-Some.f.now (search rules) there in
    let starts : Shows c.in-Some.f.now.views c.as_mut_slice-inside.result.now (at_entry c.args.r.now.args s) =
    subst (λ (b : List ℕ). Shows c.in-Some.f.now.views b (at_entry c.args.r.now.args s)) (sym made) (calling.memory_shows c.args.views.now c.in-Some.f.now.views c.args.bytes.now c.args.r.now.args s form.line c.requires.placed fit shows) in
    let ends : Follows c.in-Some.f.now.views c.run.new.bytes (Ok tt) (serial work (at_entry c.args.r.now.args s)) =
    subst (λ r. Follows c.in-Some.f.now.views c.run.new.bytes r (serial work (at_entry c.args.r.now.args s))) c.in-Ok-run.is (c.run.ensures (at_entry c.args.r.now.args s) starts) in
    let put : c.leave.new.bytes ≡ end_bytes c.args.views.now c.in-Some.f.now.views c.run.new.bytes 0 c.args.r.now.args c.args.bytes.now = search rules in
    subst (λ (w : Work). Follows c.args.views.now c.leave.new.bytes (Ok tt) (and_then (serial w (at_entry c.args.r.now.args s)) (λ inner. Ok (at_return 0 c.args.r.now.args inner s)))) (sym is)
    (calling.call_ends c.args.views.now c.in-Some.f.now.views c.args.bytes.now c.run.new.bytes c.leave.new.bytes c.args.r.now.args s (serial work (at_entry c.args.r.now.args s)) c.requires.line c.requires.placed placed fit shows ends put)

pub call-returns : goal.call-returns
call-returns t c = λ lower s shows.
    let there : slice_get c.args.setting.now.forms.now c.args.r.now.form ≡ Some c.in-Some.f.now = search rules in
    let form : IsForm c.args.setting.now.forms.now c.in-Some.f.now = c.requires.forms.each c.args.r.now.form c.in-Some.f.now there in
    let fit : ArgsFit c.args.views.now c.in-Some.f.now.views c.args.r.now.args = calling.row_form c.args.setting.now.forms.now c.args.views.now c.args.r.now c.in-Some.f.now c.requires.row there in
    let made : c.as_mut_slice-inside.result.now ≡ start_bytes c.args.views.now c.args.bytes.now c.args.r.now.args 0 c.in-Some.f.now.views = search rules in
    let work = running (form_work c.args.setting.now.forms.now (c.args.calls - 1)) (map shape_of c.in-Some.f.now.views) c.in-Some.f.now.body in
    let is : form_work c.args.setting.now.forms.now c.args.calls c.args.r.now.form ≡ work = calling.form_of c.args.setting.now.forms.now c.args.calls c.args.r.now.form c.in-Some.f.now (search rules) there in
    let starts : Shows c.in-Some.f.now.views c.as_mut_slice-inside.result.now (at_entry c.args.r.now.args s) =
    subst (λ (b : List ℕ). Shows c.in-Some.f.now.views b (at_entry c.args.r.now.args s)) (sym made) (calling.memory_shows c.args.views.now c.in-Some.f.now.views c.args.bytes.now c.args.r.now.args s form.line c.requires.placed fit shows) in
    let ends : Follows c.in-Some.f.now.views c.run.new.bytes (Err c.in-Err.end) (serial work (at_entry c.args.r.now.args s)) =
    subst (λ r. Follows c.in-Some.f.now.views c.run.new.bytes r (serial work (at_entry c.args.r.now.args s))) c.in-Err.is (c.run.ensures (at_entry c.args.r.now.args s) starts) in
    subst (λ (w : Work). Follows c.args.views.now c.args.bytes.now (Err c.in-Err.end) (and_then (serial w (at_entry c.args.r.now.args s)) (λ inner. Ok (at_return 0 c.args.r.now.args inner s)))) (sym is)
    (calling.call_traps c.args.views.now c.in-Some.f.now.views c.args.bytes.now c.run.new.bytes c.args.r.now.args s (serial work (at_entry c.args.r.now.args s)) c.in-Err.end ends)

pub run-statements-requires : goal.run-statements-requires
run-statements-requires t c =
    (search rules, (c.requires.form.line, (calling.placed_in_line c.args.f.now.views c.args.bytes.now c.requires.form.line c.requires.size, (c.requires.forms, calling.body_ready c.args.setting.now.forms.now c.args.f.now c.in-Inner.list c.as_slice.result.now c.requires.form c.in-Inner.is c.as_slice.ensures))))

pub statement-call-requires : goal.statement-call-requires
statement-call-requires t c =
    let there : slice_get c.in-Call.instances c.args.k ≡ Some c.in-Some.r.now = search rules in
    (search rules, (c.requires.line, (c.requires.placed, (c.requires.forms, ready_call c.args.setting.now.forms.now c.args.views.now c.args.s.now c.in-Call.lower c.in-Call.instances c.args.k c.in-Some.r.now c.in-Call.is c.requires.rows there))))

pub statement-returns-in-Some : goal.statement-returns-in-Some
statement-returns-in-Some t c = λ a shows.
    let there : slice_get c.in-Call.instances c.args.k ≡ Some c.in-Some.r.now = search rules in
    let callee = form_work c.args.setting.now.forms.now c.args.calls in
    let is : statement_work callee c.args.s.now c.args.k ≡ Call c.in-Some.r.now.form c.in-Call.lower c.in-Some.r.now.args (callee c.in-Some.r.now.form) =
    ap (λ (b : Statement). statement_work callee b c.args.k) c.in-Call.is
    ∙ (ap (λ f. f c.args.k) (begun_call callee c.in-Call.lower c.in-Call.instances) ∙ ap (row_work callee c.in-Call.lower) there) in
    subst (λ (w : Work). Follows c.args.views.now c.call.new.bytes c.call.result (serial w a)) (sym is) (c.call.ensures c.in-Call.lower a shows)

pub statements-statement-requires : goal.statements-statement-requires
statements-statement-requires t c =
    let next : drop c.loop-s.s-index c.args.list.now ≡ c.s-item.result ∷ drop (c.loop-s.s-index + 1) c.args.list.now = next_item c.args.list.now c.loop-s.s-index c.s-item.result c.loop-s-test.true c.s-item.is in (
      search rules,
      (
        c.requires.line,
        (
          placed_still c.args.views.now c.args.bytes.now c.loop-s.bytes c.loop-s.invariant.size c.requires.placed,
          (c.requires.forms, ready_item c.args.setting.now.forms.now c.args.views.now (drop c.loop-s.s-index c.args.list.now) (drop (c.loop-s.s-index + 1) c.args.list.now) c.s-item.result next c.loop-s.invariant.rows),
        ),
      ),
    )

pub statements-returns-in-Err : goal.statements-returns-in-Err
statements-returns-in-Err t c = λ s shows.
    let next : drop c.loop-s.s-index c.args.list.now ≡ c.s-item.result ∷ drop (c.loop-s.s-index + 1) c.args.list.now = next_item c.args.list.now c.loop-s.s-index c.s-item.result c.loop-s-test.true c.s-item.is in
    let callee = form_work c.args.setting.now.forms.now c.args.calls in
    let its = c.loop-s.invariant.goes s shows in
    let ends : Follows c.args.views.now c.statement.new.bytes (Err c.in-Err.end) (serial (statement_work callee c.s-item.result c.args.k) its.0) =
    subst (λ r. Follows c.args.views.now c.statement.new.bytes r (serial (statement_work callee c.s-item.result c.args.k) its.0)) c.in-Err.is (c.statement.ensures its.0 its.1) in
    let rest : Follows c.args.views.now c.statement.new.bytes (Err c.in-Err.end) (serial (list_work callee (c.s-item.result ∷ drop (c.loop-s.s-index + 1) c.args.list.now) c.args.k) its.0) =
    trapped_first c.args.views.now c.statement.new.bytes c.in-Err.end (serial (statement_work callee c.s-item.result c.args.k) its.0) (serial (list_work callee (drop (c.loop-s.s-index + 1) c.args.list.now) c.args.k)) ends in
    subst (Follows c.args.views.now c.statement.new.bytes (Err c.in-Err.end)) its.2
    (subst (λ (l : List Statement). Follows c.args.views.now c.statement.new.bytes (Err c.in-Err.end) (serial (list_work callee l c.args.k) its.0)) (sym next) rest)

pub statements-loop-s-preserved : goal.statements-loop-s-preserved
statements-loop-s-preserved t c =
    let next : drop c.loop-s.s-index c.args.list.now ≡ c.s-item.result ∷ drop (c.loop-s.s-index + 1) c.args.list.now = next_item c.args.list.now c.loop-s.s-index c.s-item.result c.loop-s-test.true c.s-item.is in
    let callee = form_work c.args.setting.now.forms.now c.args.calls in
    record {
      size = search rules;
      rows = ready_rest c.args.setting.now.forms.now c.args.views.now (drop c.loop-s.s-index c.args.list.now) (drop (c.loop-s.s-index + 1) c.args.list.now) c.s-item.result next c.loop-s.invariant.rows;
      goes = λ a shows.
          let its = c.loop-s.invariant.goes a shows in
          let here : Reached c.args.views.now c.statement.new.bytes (serial (statement_work callee c.s-item.result c.args.k) its.0) =
          reached c.args.views.now c.statement.new.bytes c.in-Ok.field-0 (serial (statement_work callee c.s-item.result c.args.k) its.0)
          (subst (λ r. Follows c.args.views.now c.statement.new.bytes r (serial (statement_work callee c.s-item.result c.args.k) its.0)) c.in-Ok.is (c.statement.ensures its.0 its.1)) in (
            here.state,
            here.shows,
            sym (ap (λ (o : Outcome). and_then o (serial (list_work callee (drop (c.loop-s.s-index + 1) c.args.list.now) c.args.k))) here.is)
                ∙ (ap (λ (l : List Statement). serial (list_work callee l c.args.k) its.0) (sym next) ∙ its.2),
          );
    }

pub turns-turn-requires : goal.turns-turn-requires
turns-turn-requires t c =
    (search rules, (c.requires.line, (placed_still c.args.views.now c.args.bytes.now c.loop-t.bytes c.loop-t.invariant.size c.requires.placed, (c.requires.forms, c.requires.rows))))

pub turns-returns-in-Err : goal.turns-returns-in-Err
turns-returns-in-Err t c = λ s shows.
    let callee = form_work c.args.setting.now.forms.now c.args.calls in
    let turn = λ (i : ℕ). turn_of c.args.kind.now (serial (list_work callee c.args.body.now (c.args.from + i))) in
    let its = c.loop-t.invariant.goes s shows in
    let number : c.in-Some.k ≡ c.args.from + c.loop-t.t = search rules in
    let ends : Follows c.args.views.now c.turn.new.bytes (Err c.in-Err.end) (turn_of c.args.kind.now (serial (list_work callee c.args.body.now c.in-Some.k)) its.0) =
    subst (λ r. Follows c.args.views.now c.turn.new.bytes r (turn_of c.args.kind.now (serial (list_work callee c.args.body.now c.in-Some.k)) its.0)) c.in-Err.is (c.turn.ensures its.0 its.1) in
    let here : Follows c.args.views.now c.turn.new.bytes (Err c.in-Err.end) (turn c.loop-t.t its.0) =
    subst (λ (k : ℕ). Follows c.args.views.now c.turn.new.bytes (Err c.in-Err.end) (turn_of c.args.kind.now (serial (list_work callee c.args.body.now k)) its.0)) number ends in
    trap_stays c.args.views.now c.turn.new.bytes c.in_iteration.result turn s its.0 c.loop-t.t c.args.count c.loop-t-test.true its.2
    (c.in_iteration.ensures c.args.views.now c.turn.new.bytes (turn c.loop-t.t its.0) here)

pub gather-saved-requires : goal.gather-saved-requires
gather-saved-requires t c =
    let there : slice_get c.args.views.now c.args.r.now.array ≡ Some c.in-Some.view.now = search rules in
    c.requires.placed.each c.args.r.now.array c.in-Some.view.now there

pub gather-clear-requires : goal.gather-clear-requires
gather-clear-requires t c =
    let there : slice_get c.args.views.now c.args.r.now.array ≡ Some c.in-Some.view.now = search rules in
    c.requires.placed.each c.args.r.now.array c.in-Some.view.now there

pub gather-statements-requires : goal.gather-statements-requires
gather-statements-requires t c =
    let cleared_long : length c.clear.new.bytes ≡ length c.args.bytes.now = search rules in
    (search rules, (c.requires.line, (placed_still c.args.views.now c.args.bytes.now c.clear.new.bytes cleared_long c.requires.placed, (c.requires.forms, c.requires.rows))))

pub gather-combine-requires-clause-placed : goal.gather-combine-requires-clause-placed
gather-combine-requires-clause-placed t c =
    let there : slice_get c.args.views.now c.args.r.now.array ≡ Some c.in-Some.view.now = search rules in
    let cleared_long : length c.clear.new.bytes ≡ length c.args.bytes.now = search rules in
    let ran_long : length c.statements.new.bytes ≡ length c.clear.new.bytes = search rules in
    let placed : ArePlaced c.args.views.now c.statements.new.bytes = placed_still c.args.views.now c.args.bytes.now c.statements.new.bytes (ran_long ∙ cleared_long) c.requires.placed in
    placed.each c.args.r.now.array c.in-Some.view.now there

pub gather-combine-requires-clause-same : goal.gather-combine-requires-clause-same
gather-combine-requires-clause-same t c =
    let there : slice_get c.args.views.now c.args.r.now.array ≡ Some c.in-Some.view.now = search rules in
    let made : c.as_mut_slice.result.now ≡ bytes_of c.in-Some.view.now c.args.bytes.now = search rules in
    ap length made ∙ length_bytes c.in-Some.view.now c.args.bytes.now (c.requires.placed.each c.args.r.now.array c.in-Some.view.now there)

pub gather-returns-in-Ok-statements : goal.gather-returns-in-Ok-statements
gather-returns-in-Ok-statements t c = λ s shows.
    let there : slice_get c.args.views.now c.args.r.now.array ≡ Some c.in-Some.view.now = search rules in
    let cleared_long : length c.clear.new.bytes ≡ length c.args.bytes.now = search rules in
    let ran_long : length c.statements.new.bytes ≡ length c.clear.new.bytes = search rules in
    let placed : ArePlaced c.args.views.now c.statements.new.bytes = placed_still c.args.views.now c.args.bytes.now c.statements.new.bytes (ran_long ∙ cleared_long) c.requires.placed in
    let made : c.as_mut_slice.result.now ≡ bytes_of c.in-Some.view.now c.args.bytes.now = search rules in
    let same : c.args.r.now.elem ≡ c.in-Some.view.now.elem = search rules in
    let work = list_work (form_work c.args.setting.now.forms.now c.args.calls) c.args.body.now c.args.k in
    let r = c.args.r.now in
    let starts : Shows c.args.views.now c.clear.new.bytes (with_identity r s) =
    subst (λ (b : List ℕ). Shows c.args.views.now b (with_identity r s)) (sym c.clear.ensures) (cleared_shows c.args.views.now c.args.bytes.now c.in-Some.view.now r s c.requires.line c.requires.placed there same shows) in
    let ends : Follows c.args.views.now c.statements.new.bytes (Ok tt) (serial work (with_identity r s)) =
    subst (λ q. Follows c.args.views.now c.statements.new.bytes q (serial work (with_identity r s))) c.in-Ok-statements.is (c.statements.ensures (with_identity r s) starts) in
    let its = reached c.args.views.now c.statements.new.bytes tt (serial work (with_identity r s)) ends in
    let put : c.combine.new.bytes ≡ combined_bytes r.op c.in-Some.view.now (bytes_of c.in-Some.view.now c.args.bytes.now) c.statements.new.bytes =
    c.combine.ensures ∙ ap (λ (b : List ℕ). combined_bytes r.op c.in-Some.view.now b c.statements.new.bytes) made in
    subst (λ (o : Outcome). Follows c.args.views.now c.combine.new.bytes (Ok tt) (and_then o (λ own. Ok (with_combined r s own)))) (sym its.is)
    (subst (λ (b : List ℕ). Shows c.args.views.now b (with_combined r s its.state)) (sym put)
    (combined_shows c.args.views.now c.args.bytes.now c.statements.new.bytes c.in-Some.view.now r s its.state c.requires.line c.requires.placed placed there same shows its.shows))

pub gather-returns : goal.gather-returns
gather-returns t c = λ s shows.
    let there : slice_get c.args.views.now c.args.r.now.array ≡ Some c.in-Some.view.now = search rules in
    let same : c.args.r.now.elem ≡ c.in-Some.view.now.elem = search rules in
    let work = list_work (form_work c.args.setting.now.forms.now c.args.calls) c.args.body.now c.args.k in
    let r = c.args.r.now in
    let starts : Shows c.args.views.now c.clear.new.bytes (with_identity r s) =
    subst (λ (b : List ℕ). Shows c.args.views.now b (with_identity r s)) (sym c.clear.ensures) (cleared_shows c.args.views.now c.args.bytes.now c.in-Some.view.now r s c.requires.line c.requires.placed there same shows) in
    let ends : Follows c.args.views.now c.statements.new.bytes (Err c.in-Err.end) (serial work (with_identity r s)) =
    subst (λ q. Follows c.args.views.now c.statements.new.bytes q (serial work (with_identity r s))) c.in-Err.is (c.statements.ensures (with_identity r s) starts) in
    trapped_first c.args.views.now c.statements.new.bytes c.in-Err.end (serial work (with_identity r s)) (λ own. Ok (with_combined r s own)) ends
