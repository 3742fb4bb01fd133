-- Bytes put into arrays, piece behind piece.
use Rattle.std.proofs.Common.{◌≡◌, ℕ, zero, suc, ◌+◌, ◌-◌, ◌*◌, ◌≤◌, List, [], ◌∷◌, ◌++◌, length, take, drop, refl, sym, ◌∙◌, ap, append_assoc, arith, length-append, length-take, length-drop, Result, Ok}
use Rattle.std.specs.Prelude.{ℤ, map}
use Rattle.std.specs.List.{flat_map}
use Rattle.std.proofs.lemmas.Grind.{flat_map-append}
use Rattle.std.proofs.Math.Nat.{add-mul}
use Rattle.std.proofs.lemmas.Nat.{mul-le}
use Rattle.std.proofs.lemmas.List.{append-nil, drop_all, take-append-drop, take_at}
use Rattle.std.proofs.Math.Seq.{drop_at, drop-drop}
use Rattle.sq_num.specs.declared.Elem.{Elem}
use Rattle.sq_num.specs.declared.Elem.TheVariants.{Byte, Int, Long}
use Rattle.sq_num.specs.Elements.{width, cell}
use Rattle.sq_arrays.specs.declared.refusal.InputEnd.{InputEnd}
use Rattle.sq_arrays.specs.Steps.{Fails}
use Rattle.sq_arrays.specs.ArrayText.{Fault, Rest, next_values}
use Rattle.sq_arrays.proofs.Fronts.{with_front, front_none, front_end}
use Rattle.sq_arrays.proofs.Adding.{Piece, piece_step, piece_refused}
use Rattle.sq_arrays.specs.Targets.{put_at, array_at, put_in, HasRange}

pub put_at-length : (at : ℕ) (piece bytes : List ℕ) → at + length piece ≤ length bytes → length (put_at at piece bytes) ≡ length bytes
put_at-length at piece bytes fits = omega (
  arith,
  length-append (take at bytes) (piece ++ drop (at + length piece) bytes),
  length-append piece (drop (at + length piece) bytes),
  length-take at bytes,
  length-drop (at + length piece) bytes,
)

pub put_at-nothing : (at : ℕ) (bytes : List ℕ) → put_at at [] bytes ≡ bytes
put_at-nothing at bytes = let none : at + 0 ≡ at = omega arith in ap (λ (n : ℕ). take at bytes ++ drop n bytes) none ∙ take-append-drop at bytes

-- what lies behind a piece that was put
drop-put_at : (at n : ℕ) (piece bytes : List ℕ) → at + length piece ≤ length bytes → at + length piece ≤ n → drop n (put_at at piece bytes) ≡ drop n bytes
drop-put_at at n piece bytes fits behind =
    let rest : n ≡ at + length piece + (n - (at + length piece)) = omega arith in
    let seam : drop (at + length piece) (put_at at piece bytes) ≡ drop (at + length piece) bytes =
    ap (drop (at + length piece)) (sym (append_assoc (take at bytes) piece (drop (at + length piece) bytes)))
    ∙ drop_at (take at bytes ++ piece) (drop (at + length piece) bytes) (at + length piece) (omega (arith, length-append (take at bytes) piece, length-take at bytes)) in
    ap (λ (m : ℕ). drop m (put_at at piece bytes)) rest ∙ sym (drop-drop (n - (at + length piece)) (at + length piece) (put_at at piece bytes)) ∙ ap (drop (n - (at + length piece))) seam
    ∙ drop-drop (n - (at + length piece)) (at + length piece) bytes ∙ ap (λ (m : ℕ). drop m bytes) (sym rest)

take-put_at : (at : ℕ) (piece bytes : List ℕ) → at + length piece ≤ length bytes → take (at + length piece) (put_at at piece bytes) ≡ take at bytes ++ piece
take-put_at at piece bytes fits =
    ap (take (at + length piece)) (sym (append_assoc (take at bytes) piece (drop (at + length piece) bytes)))
    ∙ take_at (take at bytes ++ piece) (drop (at + length piece) bytes) (at + length piece) (omega (arith, length-append (take at bytes) piece, length-take at bytes))

-- a piece put behind another is one piece
pub put_at-more : (at from : ℕ) (done piece bytes : List ℕ) → from ≡ at + length done → from + length piece ≤ length bytes → put_at from piece (put_at at done bytes) ≡ put_at at (done ++ piece) bytes
put_at-more at from done piece bytes here fits =
    let front : take from (put_at at done bytes) ≡ take at bytes ++ done = ap (λ (n : ℕ). take n (put_at at done bytes)) here ∙ take-put_at at done bytes (omega arith) in
    let back : drop (from + length piece) (put_at at done bytes) ≡ drop (from + length piece) bytes = drop-put_at at (from + length piece) done bytes (omega arith) (omega arith) in
    let end : from + length piece ≡ at + length (done ++ piece) = omega (arith, length-append done piece) in
    ap (λ (l : List ℕ). l ++ (piece ++ drop (from + length piece) (put_at at done bytes))) front
    ∙ ap (λ (l : List ℕ). (take at bytes ++ done) ++ (piece ++ l)) (back ∙ ap (λ (n : ℕ). drop n bytes) end)
    ∙ append_assoc (take at bytes) done (piece ++ drop (at + length (done ++ piece)) bytes)
    ∙ ap (λ (l : List ℕ). take at bytes ++ l) (sym (append_assoc done piece (drop (at + length (done ++ piece)) bytes)))

-- a piece as long as all the bytes
pub put_at-all : (piece bytes : List ℕ) → length piece ≡ length bytes → put_at 0 piece bytes ≡ piece
put_at-all piece bytes same = ap (λ (l : List ℕ). piece ++ l) (drop_all (0 + length piece) bytes (omega arith)) ∙ append-nil piece

-- ---- into one of the arrays

pub put_in-nothing : (array at : ℕ) (arrays : List (List ℕ)) → put_in array at [] arrays ≡ arrays
put_in-nothing array at [] = refl
put_in-nothing zero at (bytes ∷ rest) = ap (λ (l : List ℕ). l ∷ rest) (put_at-nothing at bytes)
put_in-nothing (suc array) at (bytes ∷ rest) = ap (λ (l : List (List ℕ)). bytes ∷ l) (put_in-nothing array at rest)

pub put_in-more : (array at from : ℕ) (done piece : List ℕ) (arrays : List (List ℕ)) → from ≡ at + length done → from + length piece ≤ length (array_at array arrays)
    → put_in array from piece (put_in array at done arrays) ≡ put_in array at (done ++ piece) arrays
put_in-more array at from done piece [] here fits = refl
put_in-more zero at from done piece (bytes ∷ rest) here fits = ap (λ (l : List ℕ). l ∷ rest) (put_at-more at from done piece bytes here fits)
put_in-more (suc array) at from done piece (bytes ∷ rest) here fits = ap (λ (l : List (List ℕ)). bytes ∷ l) (put_in-more array at from done piece rest here fits)

pub put_in-sizes : (array at : ℕ) (piece : List ℕ) (arrays : List (List ℕ)) → at + length piece ≤ length (array_at array arrays) → map length (put_in array at piece arrays) ≡ map length arrays
put_in-sizes array at piece [] fits = refl
put_in-sizes zero at piece (bytes ∷ rest) fits = ap (λ (n : ℕ). n ∷ map length rest) (put_at-length at piece bytes fits)
put_in-sizes (suc array) at piece (bytes ∷ rest) fits = ap (λ (l : List ℕ). length bytes ∷ l) (put_in-sizes array at piece rest fits)

size_same : (array : ℕ) (old now : List (List ℕ)) → map length now ≡ map length old → length (array_at array now) ≡ length (array_at array old)
size_same array [] [] same = refl
size_same array [] (n ∷ now) same = cc
size_same array (o ∷ old) [] same = cc
size_same zero (o ∷ old) (n ∷ now) same = cc
size_same (suc array) (o ∷ old) (n ∷ now) same = size_same array old now (cc)

count_same : (old now : List (List ℕ)) → map length now ≡ map length old → length now ≡ length old
count_same [] [] same = refl
count_same [] (n ∷ now) same = cc
count_same (o ∷ old) [] same = cc
count_same (o ∷ old) (n ∷ now) same = ap suc (count_same old now (cc))

-- a part of a range, in arrays of the same sizes
pub range_later : (old now : List (List ℕ)) (array at size all : ℕ) → map length now ≡ map length old → HasRange old array 0 all → at + size ≤ all → HasRange now array at size
range_later old now array at size all same room fits = record {
  there = omega (arith, room.there, count_same old now same);
  range = omega (arith, room.range, size_same array old now same);
}

-- one array of those that are left is put whole
pub put_in-whole : (array : ℕ) (done rest : List (List ℕ)) (old piece : List ℕ) → array ≡ length done → length piece ≡ length old → put_in array 0 piece (done ++ old ∷ rest) ≡ done ++ piece ∷ rest
put_in-whole array [] rest old piece here same = ap (λ (n : ℕ). put_in n 0 piece (old ∷ rest)) here ∙ ap (λ (l : List ℕ). l ∷ rest) (put_at-all piece old same)
put_in-whole zero (d ∷ done) rest old piece here same = absurd (omega (arith, here))
put_in-whole (suc array) (d ∷ done) rest old piece here same = ap (λ (l : List (List ℕ)). d ∷ l) (put_in-whole array done rest old piece (omega (arith, here)) same)

-- ---- the values of an array, piece by piece

-- so many values were read and stand in the array
pub record SoFar (e : Elem) (array done size left : ℕ) (old now : List (List ℕ)) (r : Rest) (whole : Result (List ℤ × Rest) Fault) : Type 0 where
  pub values : List ℤ
  pub read : with_front values (next_values left e r) ≡ whole
  pub bytes : length (flat_map (cell e) values) ≡ done * size
  pub arrays : now ≡ put_in array 0 (flat_map (cell e) values) old

pub none_put : (e : Elem) (array size count : ℕ) (old : List (List ℕ)) (r : Rest) → SoFar e array 0 size (count - 0) old old r (next_values count e r)
none_put e array size count old r =
    let all : count - 0 ≡ count = omega arith in
    record {
      values = [];
      read = front_none (next_values (count - 0) e r) ∙ ap (λ (k : ℕ). next_values k e r) all;
      bytes = omega arith;
      arrays = sym (put_in-nothing array 0 old);
    }

one_more : (done more size : ℕ) → (done + more) * size ≡ done * size + more * size
one_more done more size = add-mul done more size

pub more_fits : (done more count size : ℕ) → done + more ≤ count → done * size + more * size ≤ count * size
more_fits done more count size few = let all : (done + more) * size ≤ count * size = mul-le (done + more) size count size few (omega arith) in omega (arith, one_more done more size, all)

pub more_put : (e : Elem) (array done more size count : ℕ) (old mid now : List (List ℕ)) (new : List ℕ) (r s : Rest) (whole : Result (List ℤ × Rest) Fault) → done + more ≤ count → length new ≡ more * size
    → HasRange old array 0 (count * size) → SoFar e array done size (count - done) old mid r whole → Piece e more r s new → now ≡ put_in array (done * size) new mid → SoFar e array (done + more) size (count - (done + more)) old now s whole
more_put e array done more size count old mid now new r s whole few len room so_far piece is =
    let fits : done * size + more * size ≤ count * size = more_fits done more count size few in
    let cells : flat_map (cell e) (so_far.values ++ piece.values) ≡ flat_map (cell e) so_far.values ++ new = flat_map-append (cell e) so_far.values piece.values ∙ ap (λ (l : List ℕ). flat_map (cell e) so_far.values ++ l) (sym piece.stored) in
    record {
      values = so_far.values ++ piece.values;
      read = sym (piece_step e more (count - (done + more)) (count - done) so_far.values piece.values r s (omega arith) piece.read) ∙ so_far.read;
      bytes = ap length cells ∙ length-append (flat_map (cell e) so_far.values) new ∙ omega (arith, so_far.bytes, len, one_more done more size);
      arrays = is ∙ ap (put_in array (done * size) new) so_far.arrays
          ∙ put_in-more array 0 (done * size) (flat_map (cell e) so_far.values) new old (omega (arith, so_far.bytes)) (omega (arith, room.range, len, fits))
          ∙ ap (λ (l : List ℕ). put_in array 0 l old) (sym cells);
    }

pub all_put : (e : Elem) (array done size left : ℕ) (old now : List (List ℕ)) (r : Rest) (whole : Result (List ℤ × Rest) Fault) → left ≡ 0 → SoFar e array done size left old now r whole
    → (vs : List ℤ) × (whole ≡ Ok (vs, r)) × (now ≡ put_in array 0 (flat_map (cell e) vs) old)
all_put e array done size left old now r whole none so_far = (so_far.values, sym so_far.read ∙ front_end e so_far.values left r none, so_far.arrays)

pub piece_stopped : (end : InputEnd) (e k : Elem) (array done more size count n : ℕ) (old now : List (List ℕ)) (r : Rest) (whole : Result (List ℤ × Rest) Fault) → k ≡ e → n ≡ more → done + more ≤ count
    → SoFar e array done size (count - done) old now r whole → Fails end (next_values n k r) → Fails end whole
piece_stopped end e k array done more size count n old now r whole same is few so_far fails = piece_refused end e k done more count n so_far.values r whole same is few so_far.read fails

width_most : (e : Elem) → width e ≤ 8
width_most Byte = omega arith
width_most Int = omega arith
width_most Long = omega arith

-- a piece of at most 512 values in a room of 4,096 bytes
pub piece_room : (e : Elem) (more size room : ℕ) → size ≡ width e → more ≤ 512 → 4096 ≤ room → more * size ≤ room
piece_room e more size room is few all = let one : size ≤ 8 = rw is (width_most e) in grind arith
