use Rattle.std.proofs.Common.{ℕ, length, refl, sym, ◌∙◌, ap, subst}
use Rattle.sq_flat.specs.Held.{Stored, HasPart, put_part}
use Rattle.sq_driver.specs.Picking.{picked, unpicked}
use Rattle.sq_driver.proofs.Picks.{puts}
use Rattle.sq_driver.proofs.phases.entry.GivenArrayTarget.put.Goals as goal

pub put-requires : goal.put-requires
put-requires c =
    let its = puts c.args.self.now.params.now c.args.self.now.arrays.bytes c.args.array c.args.at c.args.bytes.now
    c.requires in
    subst (λ (n : ℕ). HasPart c.args.self.now.arrays.bytes n c.args.at (length c.args.bytes.now))
    (sym c.number_of-number.ensures) its.has

pub returns-clause-put : goal.returns-clause-put
returns-clause-put c =
    let its = puts c.args.self.now.params.now c.args.self.now.arrays.bytes c.args.array c.args.at c.args.bytes.now
    c.requires in
    ap (λ (s : Stored). picked c.args.self.now.params.now s.bytes) c.put.ensures
    ∙ (ap (λ (n : ℕ). picked c.args.self.now.params.now
    (put_part n c.args.at c.args.bytes.now c.args.self.now.arrays.bytes)) c.number_of-number.ensures ∙ its.put)

pub returns-clause-keeps : goal.returns-clause-keeps
returns-clause-keeps c =
    let its = puts c.args.self.now.params.now c.args.self.now.arrays.bytes c.args.array c.args.at c.args.bytes.now
    c.requires in
    record {
      params_is = refl;
      shapes = ap (λ (s : Stored). s.shapes) c.put.ensures;
      count = ap (λ (s : Stored). length s.bytes) c.put.ensures
          ∙ (ap (λ (n : ℕ). length (put_part n c.args.at c.args.bytes.now c.args.self.now.arrays.bytes))
          c.number_of-number.ensures ∙ its.count);
      others = ap (λ (s : Stored). unpicked c.args.self.now.params.now s.bytes) c.put.ensures
          ∙ (ap (λ (n : ℕ). unpicked c.args.self.now.params.now
          (put_part n c.args.at c.args.bytes.now c.args.self.now.arrays.bytes)) c.number_of-number.ensures
          ∙ its.others);
    }
