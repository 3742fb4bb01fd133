use Rattle.std.proofs.Common.{rules, ◌≡◌, ◌∙◌, true, false, Some, slice_get, length, sym, ap, arith}
use Rattle.std.proofs.lemmas.Grind.{common_steps}
use Rattle.sq_planevents.proofs.Calls.{call_untaken, taken_close, flags_long, call_ends}
use Rattle.sq_planevents.proofs.lines.Lines.is_call.Goals as goal

pub returns-then-not-is_taken : goal.returns-then-not-is_taken
returns-then-not-is_taken c =
    let there : slice_get c.args.self.now.leaves.now c.args.leaf ≡ Some c.in-Some.leaf.now = search rules in
    let bad : c.is_taken.result ≡ false = first_of (search rules, grind (arith, common_steps)) in
    call_untaken c.args.self.now.text.now c.args.at.now.nodes c.args.at.now.scopes c.requires.buffers c.args.leaf c.args.self.now.leaves.now c.requires.leaves c.args.views.now c.args.path.now c.in-Some.leaf.now c.is_taken.result there c.is_taken.ensures bad

pub stand_apart-requires-clause-close : goal.stand_apart-requires-clause-close
stand_apart-requires-clause-close c =
    let good : c.is_taken.result ≡ true = first_of (search rules, grind (arith, common_steps)) in
    taken_close c.args.self.now.text.now c.args.at.now.nodes c.args.at.now.scopes c.requires.buffers c.args.leaf c.args.self.now.leaves.now c.requires.leaves c.args.views.now c.args.path.now c.in-Some.leaf.now (sym c.is_taken.ensures ∙ good)

pub stand_apart-requires-clause-flags : goal.stand_apart-requires-clause-flags
stand_apart-requires-clause-flags c =
    let there : slice_get c.args.self.now.leaves.now c.args.leaf ≡ Some c.in-Some.leaf.now = search rules in
    let good : c.is_taken.result ≡ true = first_of (search rules, grind (arith, common_steps)) in
    let flags : c.as_slice.result.now ≡ c.in-Some.leaf.now.written = search rules in
    ap length flags ∙ flags_long c.args.self.now.text.now c.args.at.now.nodes c.args.at.now.scopes c.requires.buffers c.args.leaf c.args.self.now.leaves.now c.requires.leaves c.args.views.now c.args.path.now c.in-Some.leaf.now there (sym c.is_taken.ensures ∙ good)

pub returns : goal.returns
returns c =
    let there : slice_get c.args.self.now.leaves.now c.args.leaf ≡ Some c.in-Some.leaf.now = search rules in
    let good : c.is_taken.result ≡ true = first_of (search rules, grind (arith, common_steps)) in
    let flags : c.as_slice.result.now ≡ c.in-Some.leaf.now.written = search rules in
    call_ends c.args.self.now.text.now c.args.at.now.nodes c.args.at.now.scopes c.requires.buffers c.args.leaf c.args.self.now.leaves.now c.requires.leaves c.args.views.now c.args.path.now c.in-Some.leaf.now c.is_taken.result c.as_slice.result.now c.stand_apart.result there c.is_taken.ensures good flags c.stand_apart.ensures
