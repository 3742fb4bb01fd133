use Rattle.std.proofs.Common.{◌≡◌, ℕ, true, refl, ap, ap₂, ◌∙◌}
use Rattle.sq_ir.specs.declared.term.Term.{Term}
use Rattle.sq_nests.specs.Stacks.{capped}
use Rattle.sq_nests.specs.Weights.{weigh}
use Rattle.sq_sums.specs.Sites.{Site}
use Rattle.sq_sums.proofs.Raising.{are_worth}
use Rattle.sq_sums.proofs.sums.sums_of.Goals as goal

site_of : {top w : ℕ} (t : Term) → top ≡ w
    → ◌≡◌ {A = Site} (record { body = t; top = top; own = true }) (record { body = t; top = w; own = true })
site_of t e = λ i. record { body = t; top = e i; own = true }

pub returns : goal.returns
returns c =
    let d = c.args.d.now in
    let once = c.args.once in
    let w : c.weight_of-top.result ≡ capped (weigh d.buffers once d.entry) = c.weight_of-top.ensures
    ∙ ap₂ (λ b e. capped (weigh b once e)) c.as_slice.ensures c.as_slice-2.ensures in
    are_worth d c.args.nodes.now once (weigh c.as_slice.result.now once) _ c.new.result c.in_ok-sums.sums
    c.raise_root.new.sums c.in_ok-sums.ensures (ap (λ b. weigh b once) c.as_slice.ensures)
    (c.new.ensures ∙ site_of d.term w) (λ m. refl) c.in_ok-raise_root.ensures
