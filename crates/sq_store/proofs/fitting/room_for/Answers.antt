use Rattle.std.proofs.Common.{◌≡◌, false, length, Some, None, sym, ap, subst, ◌∙◌, arith}
use Rattle.sq_nests.specs.Needs.{AreSums}
use Rattle.sq_store.specs.Place.{worst_of, IsRefusal}
use Rattle.sq_store.specs.Walk.{offsets_of}
use Rattle.sq_store.proofs.Worst.{counted, refusal, space_is}
use Rattle.sq_store.proofs.fitting.room_for.Goals as goal

pub returns-in-Some-clause-over : goal.returns-in-Some-clause-over
returns-in-Some-clause-over c = λ can.
    let d = c.args.d.now in
    let nodes = c.args.nodes.now in
    let are : AreSums d nodes false c.in-Ok.sums = c.in-Ok.ensures.sums (counted d nodes can) in
    let e : worst_of nodes c.in-Ok.sums (length nodes) ≡ Some c.in-Some.lack =
    ap (λ ns. worst_of ns c.in-Ok.sums (length ns)) (sym c.as_slice.ensures) ∙ sym c.worst_of.ensures
    ∙ c.in-Some.is in
    let over = refusal d nodes c.in-Ok.sums are c.in-Some.lack e in
    let there = over.over.there in
    let few = can.machine.few in
    subst (IsRefusal d nodes) (sym (c.refusal.ensures (omega (arith, there, few)))) over

pub returns-clause-room : goal.returns-clause-room
returns-clause-room c = λ can.
    let d = c.args.d.now in
    let nodes = c.args.nodes.now in
    let are : AreSums d nodes false c.in-Ok.sums = c.in-Ok.ensures.sums (counted d nodes can) in
    let e : worst_of nodes c.in-Ok.sums (length nodes) ≡ None =
    ap (λ ns. worst_of ns c.in-Ok.sums (length ns)) (sym c.as_slice.ensures) ∙ sym c.worst_of.ensures
    ∙ c.in-None.is in
    let o : c.in-Ok-offsets_of.offsets ≡ offsets_of d = c.in-Ok-offsets_of.ensures in
    record { space = space_is d nodes c.in-Ok.sums are can e; offsets_ = o }
