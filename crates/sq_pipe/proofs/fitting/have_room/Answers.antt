use Rattle.std.proofs.Common.{◌≡◌, ◌+◌, ◌∷◌, ◌++◌, [], List, Some, true, false, drop, length, get_or, slice_get, nat_le}
use Rattle.std.proofs.Common.{sym, ◌∙◌}
use Rattle.std.proofs.Common.{ap, ap₂, arith, rules}
use Rattle.std.proofs.lemmas.Bool.Decides.{nat_tests}
use Rattle.sq_forms.specs.declared.form.Form.{Form}
use Rattle.sq_hoist.specs.SpecLaws.Needs.{callers_end}
use Rattle.sq_pipe.specs.declared.room.Room.{Room}
use Rattle.sq_pipe.specs.Sums.{ended_by}
use Rattle.sq_pipe.specs.Greedy as spec
use Rattle.sq_pipe.proofs.Ends.{ended_more, long_next, form_there, form_first, room_step}
use Rattle.sq_pipe.proofs.fitting.have_room.Goals as goal

pub loop-k-preserved : goal.loop-k-preserved
loop-k-preserved c =
    let grown : c.push.new.self ≡ c.loop-k.ends ++ c.in_ok-end.end ∷ [] = search rules in
    let there : slice_get c.args.forms.now c.loop-k.k ≡ Some c.index-forms-k.result =
    form_there c.args.forms.now c.loop-k.k c.index-forms-k.result c.loop-k-test.true c.index-forms-k.is in
    let first : drop c.loop-k.k c.args.forms.now ≡ c.index-forms-k.result ∷ drop (c.loop-k.k + 1) c.args.forms.now =
    form_first c.args.forms.now c.loop-k.k c.index-forms-k.result c.loop-k-test.true c.index-forms-k.is in
    let rest : c.loop-k.rest.now ≡ c.in-Some.x.now ∷ c.in-Some.more.now = search rules in
    let end : c.in_ok-end.end
    ≡ callers_end (ended_by c.args.forms.now c.loop-k.ends) c.index-forms-k.result.level c.index-forms-k.result.caller
    + spec.bytes_of c.in-Some.x.now (get_or c.args.taken.now c.loop-k.k false) = search rules in
    let fits : nat_le c.in_ok-end.end c.in-Some.x.now.room ≡ true = grind (arith, nat_tests, c.if-x-end.false) in
    record {
      same = ap (spec.have_room c.args.taken.now (c.loop-k.k + 1) (drop (c.loop-k.k + 1) c.args.forms.now)
          c.in-Some.more.now) (ap (ended_by c.args.forms.now) grown
          ∙ ended_more c.args.forms.now c.loop-k.ends c.in_ok-end.end c.index-forms-k.result c.loop-k.k
          c.loop-k.invariant.long there)
          ∙ room_step c.args.taken.now c.loop-k.k c.index-forms-k.result (drop (c.loop-k.k + 1) c.args.forms.now)
          c.in-Some.x.now c.in-Some.more.now (ended_by c.args.forms.now c.loop-k.ends) c.in_ok-end.end end fits
          ∙ ap₂ (λ (fs : List Form) (xs : List Room). spec.have_room c.args.taken.now c.loop-k.k fs xs
          (ended_by c.args.forms.now c.loop-k.ends)) (sym first) (sym rest)
          ∙ c.loop-k.invariant.same;
      long = ap length grown ∙ long_next c.loop-k.ends c.in_ok-end.end c.loop-k.k c.loop-k.invariant.long;
    }
