use Rattle.std.proofs.Common.{rules, arith, ◌≡◌, ◌≤◌, ◌+◌, ◌*◌, length, take, ◌∙◌, ap, sym, refl, length-take}
use Rattle.sq_num.specs.Elements.{width}
use Rattle.sq_arrays.specs.Targets.{put_in}
use Rattle.sq_arrays.specs.Reader.{elem_of, rest_at}
use Rattle.sq_arrays.proofs.Adding.{piece_of}
use Rattle.sq_arrays.proofs.Putting.{none_put, more_put, all_put, piece_stopped, more_fits, range_later, piece_room}
use Rattle.sq_arrays.proofs.reading.put_values.Goals as goal

pub loop-done-init : goal.loop-done-init
loop-done-init g c = record {
  content = refl;
  ready = c.requires.ready;
  good = c.requires.good;
  elem = refl;
  first = refl;
  left = omega arith;
  sizes = refl;
  keeps = g.met.T.ArrayTarget.keeps_itself c.args.target.now;
  told = λ bytes t. none_put _ _ _ _ _ _;
  faults = refl;
  misses = refl;
}

pub put_piece-requires-clause-whole : goal.put_piece-requires-clause-whole
put_piece-requires-clause-whole g c =
    let sz : c.width-size.result ≡ width (elem_of c.args.reader.now) = c.width-size.ensures ∙ ap width c.elem.ensures in
    let room : 4096 ≤ length c.loop-done.window = search rules in
    let bound : c.min-more.result * c.width-size.result ≤ length c.loop-done.window = piece_room (elem_of c.args.reader.now) c.min-more.result c.width-size.result (length c.loop-done.window) sz (omega (arith, c.min-more.ensures)) room in
    let len : length (take (c.min-more.result * c.width-size.result) c.loop-done.window) ≡ c.min-more.result * c.width-size.result = omega (arith, length-take (c.min-more.result * c.width-size.result) c.loop-done.window, bound) in
    len ∙ ap (λ k. c.min-more.result * k) (sz ∙ sym (ap width c.loop-done.invariant.elem))

pub put_piece-requires-clause-room : goal.put_piece-requires-clause-room
put_piece-requires-clause-room g c =
    let sz : c.width-size.result ≡ width (elem_of c.args.reader.now) = c.width-size.ensures ∙ ap width c.elem.ensures in
    let few : c.loop-done.done + c.min-more.result ≤ c.args.count = omega arith in
    rw (c.loop-done.invariant.elem, sz)
    (range_later _ _ c.args.array (c.loop-done.done * width (elem_of c.args.reader.now)) (c.min-more.result * width (elem_of c.args.reader.now)) (c.args.count * width (elem_of c.args.reader.now))
    c.loop-done.invariant.sizes c.requires.room (more_fits c.loop-done.done c.min-more.result c.args.count (width (elem_of c.args.reader.now)) few))

pub loop-done-preserved : goal.loop-done-preserved
loop-done-preserved g c =
    let e = elem_of c.args.reader.now in
    let same = c.loop-done.invariant.elem in
    let few : c.loop-done.done + c.min-more.result ≤ c.args.count = omega arith in
    record {
      content = search rules;
      ready = c.in-Ok.ensures.ready;
      good = c.in-Ok.ensures.ok.0;
      elem = c.in-Ok.ensures.ok.1 ∙ same;
      first = c.in-Ok.ensures.ok.2 ∙ c.loop-done.invariant.first;
      left = omega (arith, c.in-Ok.ensures.ok.3, c.loop-done.invariant.left);
      sizes = c.in-Ok.ensures.sizes ∙ c.loop-done.invariant.sizes;
      keeps = g.met.T.ArrayTarget.keeps_on _ _ _ c.loop-done.invariant.keeps c.in-Ok.ensures.keeps;
      told = λ bytes t.
          more_put e c.args.array c.loop-done.done c.min-more.result (width e) c.args.count _ _ _ c.put_piece.new.into (rest_at c.loop-done.reader bytes) (rest_at c.put_piece.new.reader bytes) _
          few (c.in-Ok.ensures.size ∙ ap (λ k. c.min-more.result * width k) same) c.requires.room (c.loop-done.invariant.told bytes t)
          (piece_of e (elem_of c.loop-done.reader) c.min-more.result c.min-more.result _ _ _ same refl (c.in-Ok.ensures.gives bytes (rw c.loop-done.invariant.content t)))
          (c.in-Ok.ensures.put ∙ ap (λ k. put_in c.args.array (c.loop-done.done * k) c.put_piece.new.into (g.T.ArrayTarget.arrays c.loop-done.target)) (c.width-size.ensures ∙ ap width c.elem.ensures));
      faults = search rules;
      misses = search rules;
    }

pub returns-in-Err-clause-gives : goal.returns-in-Err-clause-gives
returns-in-Err-clause-gives g c = λ bytes t.
    let few : c.loop-done.done + c.min-more.result ≤ c.args.count = omega arith in
    piece_stopped c.in-Err.end (elem_of c.args.reader.now) (elem_of c.loop-done.reader) c.args.array c.loop-done.done c.min-more.result (width (elem_of c.args.reader.now)) c.args.count c.min-more.result _ _
    (rest_at c.loop-done.reader bytes) _ c.loop-done.invariant.elem refl few (c.loop-done.invariant.told bytes t) (c.in-Err.ensures.gives bytes (rw c.loop-done.invariant.content t))

pub returns-clause-gives : goal.returns-clause-gives
returns-clause-gives g c = λ bytes t. all_put _ _ _ _ _ _ _ _ _ (omega arith) (c.loop-done.invariant.told bytes t)
