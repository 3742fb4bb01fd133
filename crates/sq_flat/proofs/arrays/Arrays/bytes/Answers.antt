use Rattle.std.proofs.Common.{rules, ◌≡◌, ◌∙◌, ap, ◌<◌, [], get_or, length, map}
use Rattle.sq_leaf.specs.Views.{shape_of}
use Rattle.sq_flat.specs.Held.{Stored, split}
use Rattle.sq_flat.proofs.Holding.{is_there, array_whole}
use Rattle.sq_flat.proofs.arrays.Arrays.bytes.Goals as goal

pub array_of-requires-clause-there : goal.array_of-requires-clause-there
array_of-requires-clause-there c =
    let below : c.args.array < length c.self.inside.views = is_there c.self.inside.views c.self.inside.bytes.items c.args.self.now c.args.array c.self.view_is c.requires in
    search rules

pub returns-clause-bytes : goal.returns-clause-bytes
returns-clause-bytes c =
    let here : c.array_of.result.now ≡ get_or (split (map shape_of c.self.inside.views) c.self.inside.bytes.items) c.args.array [] = search rules in
    here ∙ ap (λ (a : Stored). get_or a.bytes c.args.array []) c.self.view_is

pub returns-clause-whole : goal.returns-clause-whole
returns-clause-whole c = λ s there.
    let here : c.array_of.result.now ≡ get_or (split (map shape_of c.self.inside.views) c.self.inside.bytes.items) c.args.array [] = search rules in
    ap length (here ∙ ap (λ (a : Stored). get_or a.bytes c.args.array []) c.self.view_is)
    ∙ array_whole c.self.inside.views c.self.inside.bytes.items c.args.self.now c.args.array s c.self.invariant c.self.view_is there
