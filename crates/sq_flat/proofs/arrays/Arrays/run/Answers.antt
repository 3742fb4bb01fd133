use Rattle.std.proofs.Common.{rules, ◌≡◌, sym, subst, length, ℕ, List}
use Rattle.std.specs.Vec.{with_items}
use Rattle.std.proofs.lemmas.List.{with_items_is}
use Rattle.sq_leaf.specs.Views.{Shows}
use Rattle.sq_flat.specs.Memory.{ArePlaced}
use Rattle.sq_flat.proofs.Holding.{stored_placed, run_held}
use Rattle.sq_flat.proofs.arrays.Arrays.run.Goals as goal

pub run_call-requires-clause-placed : goal.run_call-requires-clause-placed
run_call-requires-clause-placed c =
    let placed : ArePlaced c.self.inside.views c.self.inside.bytes.items = stored_placed c.self.inside.views c.self.inside.bytes.items c.self.invariant in
    let same : c.as_mut_slice.result.now ≡ c.self.inside.bytes.items = search rules in
    subst (ArePlaced c.self.inside.views) (sym same) placed

pub returns : goal.returns
returns c = λ s holds.
    let same : c.as_mut_slice.result.now ≡ c.self.inside.bytes.items = search rules in
    let long : length c.run_call.new.bytes ≡ length c.self.inside.bytes.items = search rules in
    let whole : length c.run_call.new.bytes ≡ c.self.inside.bytes.len = search rules in
    let put : (with_items c.self.inside.bytes c.run_call.new.bytes).items ≡ c.run_call.new.bytes = with_items_is c.self.inside.bytes c.run_call.new.bytes whole in
    run_held c.self.inside.views c.self.inside.bytes.items c.run_call.new.bytes (with_items c.self.inside.bytes c.run_call.new.bytes).items c.args.self.now c.run_call.result _ s c.self.invariant c.self.view_is long put
    (λ shows. c.run_call.ensures s (subst (λ (b : List ℕ). Shows c.self.inside.views b s) (sym same) shows)) holds
