use Rattle.std.proofs.Common.{rules, arith, ◌≡◌, ◌+◌, [], ◌∷◌, ◌++◌, length, drop, length-drop, ◌∙◌, refl}
use Rattle.std.specs.Prelude.{map}
use Rattle.std.proofs.lemmas.List.{length-map}
use Rattle.sq_arrays.specs.Arrays.{wanted}
use Rattle.sq_arrays.specs.Reader.{rest_at}
use Rattle.sq_arrays.proofs.Arrays.{none_read, none_stored, one_read_more, one_refused, one_stored, array_length, all_read, end_refused, next_left, none_left, next_named, room_for_next, size_for_next, last_named}
use Rattle.sq_arrays.proofs.reading.read_arrays.Goals as goal

pub loop-array-init : goal.loop-array-init
loop-array-init g c = record {
  content = refl;
  ready = c.new-reader.ensures.ready _ _;
  good = c.new-reader.ensures.kept;
  none = c.new-reader.ensures.left;
  sizes = refl;
  keeps = g.met.T.ArrayTarget.keeps_itself c.args.target.now;
  told = λ bytes t. ([], none_stored (map wanted c.args.wants.now) _ c.requires.sizes, none_read (map wanted c.args.wants.now) bytes _ _ c.new-reader.ensures.first (c.new-reader.ensures.start bytes));
  faults = refl;
  misses = refl;
}

pub read_array-requires-clause-small : goal.read_array-requires-clause-small
read_array-requires-clause-small g c =
    let left = next_left c.args.wants.now c.loop-array.array c.index-wants-array.result c.loop-array-test.true c.index-wants-array.is in
    size_for_next (map wanted c.args.wants.now) c.loop-array.array (wanted c.index-wants-array.result) _ _ c.requires.small left

pub read_array-requires-clause-room : goal.read_array-requires-clause-room
read_array-requires-clause-room g c =
    let left = next_left c.args.wants.now c.loop-array.array c.index-wants-array.result c.loop-array-test.true c.index-wants-array.is in
    room_for_next (map wanted c.args.wants.now) _ _ c.loop-array.array (wanted c.index-wants-array.result) _ c.requires.sizes c.loop-array.invariant.sizes left

pub returns-in-Err-clause-gives : goal.returns-in-Err-clause-gives
returns-in-Err-clause-gives g c = λ bytes t.
    let left = next_left c.args.wants.now c.loop-array.array c.index-wants-array.result c.loop-array-test.true c.index-wants-array.is in
    let so_far = c.loop-array.invariant.told bytes t in
    one_refused c.in-Err.end c.loop-array.array _ _ (wanted c.index-wants-array.result) (map wanted c.args.wants.now) _ _ (rest_at c.loop-array.reader bytes) so_far.0 _
    left (next_named (map wanted c.args.wants.now) _ _ (wanted c.index-wants-array.result) c.loop-array.array refl left)
    (c.in-Err.ensures.gives bytes (rw c.loop-array.invariant.content t)) so_far.2

pub loop-array-preserved : goal.loop-array-preserved
loop-array-preserved g c =
    let left = next_left c.args.wants.now c.loop-array.array c.index-wants-array.result c.loop-array-test.true c.index-wants-array.is in
    let all : length (map wanted c.args.wants.now) ≡ length c.args.wants.now = length-map c.args.wants.now wanted in
    let here : c.loop-array.array + length (drop c.loop-array.array (map wanted c.args.wants.now)) ≡ length (map wanted c.args.wants.now) = omega (arith, length-drop c.loop-array.array (map wanted c.args.wants.now), all) in
    record {
      content = search rules;
      ready = c.in-Ok.ensures.ready;
      good = c.in-Ok.ensures.ok.0;
      none = c.in-Ok.ensures.ok.2;
      sizes = c.in-Ok.ensures.sizes ∙ c.loop-array.invariant.sizes;
      keeps = g.met.T.ArrayTarget.keeps_on _ _ _ c.loop-array.invariant.keeps c.in-Ok.ensures.keeps;
      told = λ bytes t.
          let so_far = c.loop-array.invariant.told bytes t in
          let got = c.in-Ok.ensures.gives bytes (rw c.loop-array.invariant.content t) in (
            so_far.0 ++ got.0 ∷ [],
            one_stored (map wanted c.args.wants.now) _ _ (wanted c.index-wants-array.result) so_far.0 got.0 _ _ c.loop-array.array left so_far.1 here
                (array_length _ (wanted c.index-wants-array.result) _ _ got.0 got.1) got.2,
            one_read_more _ _ (map wanted c.args.wants.now) c.loop-array.array (wanted c.index-wants-array.result) _ _ _ _ so_far.0 got.0 _ left c.in-Ok.ensures.ok.1
                (next_named (map wanted c.args.wants.now) _ _ (wanted c.index-wants-array.result) c.loop-array.array refl left) got.1 so_far.2,
          );
      faults = search rules;
      misses = search rules;
    }

pub returns-in-Ok-finish-clause-gives : goal.returns-in-Ok-finish-clause-gives
returns-in-Ok-finish-clause-gives g c = λ bytes t.
    let so_far = c.loop-array.invariant.told bytes t in
    all_read _ _ _ _ _ so_far.0 _ _ (none_left c.args.wants.now c.loop-array.array c.loop-array-test.false)
    (c.in-Ok-finish.ensures.gives c.loop-array.invariant.good bytes (rw c.loop-array.invariant.content t)) so_far.1 so_far.2

pub returns-in-Err-finish-clause-gives : goal.returns-in-Err-finish-clause-gives
returns-in-Err-finish-clause-gives g c = λ bytes t.
    let so_far = c.loop-array.invariant.told bytes t in
    end_refused c.in-Err-finish.end _ _ _ (map wanted c.args.wants.now) _ _ so_far.0 _ (none_left c.args.wants.now c.loop-array.array c.loop-array-test.false)
    (last_named (map wanted c.args.wants.now) c.loop-array.array (length c.args.wants.now) c.last_of.result (omega (arith, c.loop-array.auto.array-end, c.loop-array-test.false)) c.last_of.ensures)
    (c.in-Err-finish.ensures.gives c.loop-array.invariant.good bytes (rw c.loop-array.invariant.content t)) so_far.2
