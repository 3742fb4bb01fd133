use Rattle.std.proofs.Common.{rules, ◌≡◌, ◌∙◌, sym, ap, subst, ◌<◌, ℕ, List, map, length}
use Rattle.std.specs.Vec.{with_items}
use Rattle.std.proofs.lemmas.List.{with_items_is}
use Rattle.sq_leaf.specs.Views.{shape_of}
use Rattle.sq_flat.specs.Held.{Stored, HasPart, split, put_part}
use Rattle.sq_flat.proofs.Holding.{is_there}
use Rattle.sq_flat.proofs.arrays.Arrays.put.Goals as goal

pub put_in-requires-clause-there : goal.put_in-requires-clause-there
put_in-requires-clause-there c =
    let below : c.args.array < length c.self.inside.views = is_there c.self.inside.views c.self.inside.bytes.items c.args.self.now c.args.array c.self.view_is c.requires.there in
    search rules

pub put_in-requires-clause-part : goal.put_in-requires-clause-part
put_in-requires-clause-part c =
    let part : HasPart (split (map shape_of c.self.inside.views) c.self.inside.bytes.items) c.args.array c.args.at (length c.args.bytes.now) =
    subst (λ (a : Stored). HasPart a.bytes c.args.array c.args.at (length c.args.bytes.now)) (sym c.self.view_is) c.requires in
    search rules

pub returns : goal.returns
returns c =
    let is : split (map shape_of c.self.inside.views) c.put_in.new.bytes ≡ put_part c.args.array c.args.at c.args.bytes.now (split (map shape_of c.self.inside.views) c.self.inside.bytes.items) = search rules in
    let long : length c.put_in.new.bytes ≡ c.self.inside.bytes.len = search rules in
    let put : (with_items c.self.inside.bytes c.put_in.new.bytes).items ≡ c.put_in.new.bytes = with_items_is c.self.inside.bytes c.put_in.new.bytes long in
    ap (λ (l : List (List ℕ)). record { shapes = map shape_of c.self.inside.views; bytes = l }) (ap (split (map shape_of c.self.inside.views)) put ∙ is)
    ∙ ap (λ (a : Stored). record { shapes = a.shapes; bytes = put_part c.args.array c.args.at c.args.bytes.now a.bytes }) c.self.view_is
