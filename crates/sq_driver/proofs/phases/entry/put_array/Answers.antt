use Rattle.std.proofs.Common.{◌*◌, ◌∙◌, sym, ap, ℕ, List}
use Rattle.sq_num.specs.Elements.{width}
use Rattle.sq_rect.specs.Extents.{product}
use Rattle.sq_driver.proofs.Puts.{wrote_want}
use Rattle.sq_driver.proofs.phases.entry.put_array.Goals as goal

pub write_array-requires : goal.write_array-requires
write_array-requires g c = c.requires ∙ ap (λ (dims : List ℕ). product dims * width c.args.param.now.elem)
    (sym c.copy.ensures)

pub returns-clause-wrote : goal.returns-clause-wrote
returns-clause-wrote g c =
    wrote_want _ _ _ _ (record {
      name = c.args.param.now.name;
      elem = c.args.param.now.elem;
      extents = c.copy.result;
    }) (record { name = c.args.param.now.name; elem = c.args.param.now.elem; extents = c.args.dims.now })
    c.args.bytes.now c.write_array.result
    (ap (λ (dims : List ℕ). record { name = c.args.param.now.name; elem = c.args.param.now.elem; extents = dims })
    c.copy.ensures) c.write_array.ensures.wrote
