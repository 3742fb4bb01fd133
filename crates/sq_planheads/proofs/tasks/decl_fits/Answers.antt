use Rattle.std.proofs.Common.{map, is_some, sym, ap, ◌∙◌}
use Rattle.sq_blocks.specs.Constants.{worth}
use Rattle.sq_ir.specs.DraftLeaves.{nat_worth}
use Rattle.sq_planheads.specs.Extents.{elements_of}
use Rattle.sq_planheads.specs.Leaves.{decl_fits}
use Rattle.sq_planheads.proofs.tasks.decl_fits.Goals as goal

pub returns-in-Local : goal.returns-in-Local
returns-in-Local c =
    c.extents_fit.ensures
    ∙ ap (λ es. is_some (elements_of (map (λ e. nat_worth (worth e c.args.env.now.numbers.now c.args.env.now.lists.now)) es))) c.as_slice.ensures
    ∙ sym (ap (decl_fits c.args.env.now.numbers.now c.args.env.now.lists.now) c.in-Local.is)
