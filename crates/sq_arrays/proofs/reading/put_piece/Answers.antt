use Rattle.std.proofs.Common.{arith, ◌≡◌, ◌/◌, length, ◌∙◌, ap, sym, refl}
use Rattle.std.specs.Prelude.{map}
use Rattle.sq_num.specs.Elements.{width}
use Rattle.sq_arrays.specs.ArrayText.{next_values}
use Rattle.sq_arrays.specs.Reader.{elem_of, rest_at}
use Rattle.sq_arrays.proofs.Adding.{values_of_bytes}
use Rattle.sq_arrays.proofs.Putting.{put_in-sizes}
use Rattle.sq_arrays.proofs.reading.put_piece.Goals as goal

pub returns-in-Ok-clause-sizes : goal.returns-in-Ok-clause-sizes
returns-in-Ok-clause-sizes g c =
    let len : length c.next_values.new.into ≡ length c.args.into.now = c.next_values.auto.into in
    ap (map length) c.put.ensures.put ∙ put_in-sizes c.args.spot.array c.args.spot.at c.next_values.new.into (g.T.ArrayTarget.arrays c.args.target.now) (omega (arith, len, c.requires.whole, c.requires.room.range))

pub returns-in-Ok-clause-gives : goal.returns-in-Ok-clause-gives
returns-in-Ok-clause-gives g c = λ bytes t.
    let e = elem_of c.args.reader.now in
    let n : length c.args.into.now / width e ≡ c.args.spot.count = values_of_bytes e c.args.spot.count (width e) (length c.args.into.now) refl (sym c.requires.whole) in
    let got = c.in-Ok.ensures.gives c.requires.good bytes t in (got.0, ap (λ k. next_values k e (rest_at c.args.reader.now bytes)) (sym n) ∙ got.1, got.2)
