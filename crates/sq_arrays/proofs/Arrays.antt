-- Heads, values and the file's end, one after the other.
use Rattle.std.proofs.Common.{◌≡◌, ◌==◌, if◌then◌else◌, ℕ, zero, suc, subst, ◌*◌, length-append, ◌+◌, ◌-◌, ◌<◌, ◌≤◌, add-one, drop, get_or, drop-cons, Bool, true, false, List, [], ◌∷◌, ◌++◌, length, refl, sym, ◌∙◌, ap, arith, append_assoc, Option, Some, None, Result, Ok, Err, ℤ}
use Rattle.std.proofs.lemmas.List.{drop_all, drop-map}
use Rattle.std.specs.List.{flat_map}
use Rattle.sq_num.specs.declared.Elem.{Elem}
use Rattle.sq_num.specs.Elements.{cell}
use Rattle.sq_rect.specs.Extents.{product}
use Rattle.sq_arrays.specs.declared.refusal.InputEnd.{InputEnd}
use Rattle.sq_arrays.specs.declared.refusal.InputEnd.TheVariants.{Refused, Failed, Absent}
use Rattle.sq_arrays.specs.Steps.{Fails}
use Rattle.sq_arrays.specs.ArrayText.{Fault, Rest, start_of, next_values, finished, ◌>>=◌}
use Rattle.sq_arrays.specs.Arrays.{Wanted, DataFault, head_of, array_of_text, of_array, add_values, arrays_from, arrays_of, size_of, wanted, AreValuesOf}
use Rattle.sq_arrays.specs.Targets.{put_in, HasRange, cells_of, name_at, Refuses}
use Rattle.sq_arrays.specs.declared.want.Want.{Want}
use Rattle.std.specs.Prelude.{map}
use Rattle.sq_num.specs.Elements.{width}
use Rattle.sq_num.proofs.Cutting.{length-cell}
use Rattle.std.proofs.Math.Nat.{zero-mul, suc-mul}
use Rattle.std.specs.List.{All, AllZip}
use Rattle.sq_arrays.proofs.InType.{AreValues, next_values-in_type}
use Rattle.sq_arrays.proofs.Putting.{put_in-whole}

-- a head, and then all its values
pub whole_array : (array : ℕ) (first : Bool) (w : Wanted) (r mid rest : Rest) (e : Elem) (n : ℕ) (old now : List (List ℕ)) → head_of first w r ≡ Ok (tt, mid) → e ≡ w.elem → n ≡ product w.extents
    → (vs : List ℤ) × (next_values n e mid ≡ Ok (vs, rest)) × (now ≡ put_in array 0 (flat_map (cell e) vs) old)
    → (vs : List ℤ) × (array_of_text first w r ≡ Ok (vs, rest)) × (now ≡ put_in array 0 (flat_map (cell w.elem) vs) old)
whole_array array first w r mid rest e n old now head same size got = (
  got.0,
  ap (λ (q : Result (Unit {0} × Rest) Fault). q >>= λ h. next_values (product w.extents) w.elem h.1) head
      ∙ ap (λ (k : ℕ). next_values k w.elem mid) (sym size) ∙ ap (λ (x : Elem). next_values n x mid) (sym same) ∙ got.1,
  got.2 ∙ ap (λ (x : Elem). put_in array 0 (flat_map (cell x) got.0) old) same,
)

-- a head, and then values that failed
pub fails_array : (end : InputEnd) (first : Bool) (w : Wanted) (r mid : Rest) (e : Elem) (n : ℕ) → head_of first w r ≡ Ok (tt, mid) → e ≡ w.elem → n ≡ product w.extents
    → Fails end (next_values n e mid) → Fails end (array_of_text first w r)
fails_array end first w r mid e n head same size fails =
    subst (λ (q : Result (Unit {0} × Rest) Fault). Fails end (q >>= λ h. next_values (product w.extents) w.elem h.1)) (sym head)
    (subst (λ (k : ℕ). Fails end (next_values k w.elem mid)) size (subst (λ (x : Elem). Fails end (next_values n x mid)) same fails))

-- the bytes of all values of an array
values_of : (first : Bool) (w : Wanted) (head : Result (Unit {0} × Rest) Fault) (now : Rest) (vs : List ℤ) → (head >>= λ h. next_values (product w.extents) w.elem h.1) ≡ Ok (vs, now) → AreValues w.elem (product w.extents) vs
values_of first w (Err f) now vs is = cc
values_of first w (Ok h) now vs is = next_values-in_type (product w.extents) w.elem h.1 now vs is

pub array_values : (first : Bool) (w : Wanted) (r now : Rest) (vs : List ℤ) → array_of_text first w r ≡ Ok (vs, now) → AreValues w.elem (product w.extents) vs
array_values first w r now vs is = values_of first w (head_of first w r) now vs is

cells_length : (e : Elem) (vs : List ℤ) → length (flat_map (cell e) vs) ≡ length vs * width e
cells_length e [] = sym (zero-mul (width e))
cells_length e (v ∷ vs) = omega (arith, length-append (cell e v) (flat_map (cell e) vs), length-cell e v, cells_length e vs, suc-mul (length vs) (width e))

pub array_length : (first : Bool) (w : Wanted) (r now : Rest) (vs : List ℤ) → array_of_text first w r ≡ Ok (vs, now) → length (flat_map (cell w.elem) vs) ≡ size_of w
array_length first w r now vs is = cells_length w.elem vs ∙ ap (λ (n : ℕ). n * width w.elem) (array_values first w r now vs is).count

-- the values of arrays that came before
abbrev pub with_arrays : List (List ℤ) → Result (List (List ℤ)) DataFault → Result (List (List ℤ)) DataFault
with_arrays vss (Ok more) = Ok (vss ++ more)
with_arrays vss (Err f) = Err f

with_none : (read : Result (List (List ℤ)) DataFault) → with_arrays [] read ≡ read
with_none (Ok more) = refl
with_none (Err f) = refl

with_one : (vss : List (List ℤ)) (vs : List ℤ) (read : Result (List (List ℤ)) DataFault) → with_arrays vss (add_values vs read) ≡ with_arrays (vss ++ vs ∷ []) read
with_one vss vs (Ok more) = ap Ok (sym (append_assoc vss (vs ∷ []) more))
with_one vss vs (Err f) = refl

-- no array yet
pub none_read : (ws : List Wanted) (bytes : List ℕ) (first : Bool) (r : Rest) → first ≡ true → r ≡ start_of bytes → with_arrays [] (arrays_from first None ws r) ≡ arrays_of ws bytes
unfolding arrays_of
none_read ws bytes first r is from =
    with_none (arrays_from first None ws r) ∙ ap (λ (b : Bool). arrays_from b None ws r) is ∙ ap (arrays_from true None ws) from

-- one array more
pub one_read : (first now_first : Bool) (last : Option (List ℕ)) (w : Wanted) (left rest : List Wanted) (r now : Rest) (vss : List (List ℤ)) (vs : List ℤ) (whole : Result (List (List ℤ)) DataFault)
    → left ≡ w ∷ rest → now_first ≡ false → array_of_text first w r ≡ Ok (vs, now) → with_arrays vss (arrays_from first last left r) ≡ whole
    → with_arrays (vss ++ vs ∷ []) (arrays_from now_first (Some w.name) rest now) ≡ whole
one_read first now_first last w left rest r now vss vs whole is later got so_far =
    ap (λ (b : Bool). with_arrays (vss ++ vs ∷ []) (arrays_from b (Some w.name) rest now)) later
    ∙ sym (with_one vss vs (arrays_from false (Some w.name) rest now))
    ∙ ap (with_arrays vss) (sym (ap (λ (q : Result (List ℤ × Rest) Fault). of_array (Some w.name) q (λ a. add_values a.0 (arrays_from false (Some w.name) rest a.1))) got))
    ∙ ap (λ (l : List Wanted). with_arrays vss (arrays_from first last l r)) (sym is) ∙ so_far

-- which array is wanted: before the first one none, and then the one before
abbrev pub last_name : List Wanted → ℕ → Option (List ℕ)
last_name ws zero = None
last_name ws (suc i) = name_at ws (Some i)

-- an array that was refused
pub one_refused : (end : InputEnd) (i : ℕ) (first : Bool) (last : Option (List ℕ)) (w : Wanted) (all left rest : List Wanted) (r : Rest) (vss : List (List ℤ)) (whole : Result (List (List ℤ)) DataFault)
    → left ≡ w ∷ rest → name_at all (Some i) ≡ Some w.name → Fails end (array_of_text first w r) → with_arrays vss (arrays_from first last left r) ≡ whole → Refuses all (Some i) end whole
one_refused (Refused code place) i first last w all left rest r vss whole is named fails so_far =
    sym so_far ∙ ap (λ (l : List Wanted). with_arrays vss (arrays_from first last l r)) is
    ∙ ap (λ (q : Result (List ℤ × Rest) Fault). with_arrays vss (of_array (Some w.name) q (λ a. add_values a.0 (arrays_from false (Some w.name) rest a.1)))) fails
    ∙ ap (λ (n : Option (List ℕ)). Err (record { code = code; place = place; name = n })) (sym named)
one_refused Failed i first last w all left rest r vss whole is named fails so_far = tt
one_refused Absent i first last w all left rest r vss whole is named fails so_far = tt

-- ---- the bytes of the arrays

-- those of the arrays that were read stand in the first arrays, and the others have the sizes of those that are left
pub record Stored (all left_wants : List Wanted) (vss : List (List ℤ)) (now : List (List ℕ)) : Type 0 where
  pub done : List (List ℕ)
  pub left : List (List ℕ)
  pub arrays : now ≡ done ++ left
  pub sizes : map length left ≡ map size_of left_wants
  pub count : length done + length left_wants ≡ length all
  pub cells : (more : List (List ℤ)) → cells_of all (vss ++ more) ≡ done ++ cells_of left_wants more

no_arrays : (left : List (List ℕ)) (wants : List Wanted) → wants ≡ [] → map length left ≡ map size_of wants → left ≡ []
no_arrays [] wants is sizes = refl
no_arrays (l ∷ left) [] is sizes = cc
no_arrays (l ∷ left) (w ∷ wants) is sizes = cc

-- the file's end
pub all_read : (first : Bool) (last : Option (List ℕ)) (all left : List Wanted) (r : Rest) (vss : List (List ℤ)) (now : List (List ℕ)) (whole : Result (List (List ℤ)) DataFault)
    → left ≡ [] → finished r ≡ Ok tt → Stored all left vss now → with_arrays vss (arrays_from first last left r) ≡ whole
    → (xs : List (List ℤ)) × (whole ≡ Ok xs) × (now ≡ cells_of all xs)
all_read first last all left r vss now whole is done stored so_far = (
  vss ++ [],
  sym so_far ∙ ap (λ (l : List Wanted). with_arrays vss (arrays_from first last l r)) is ∙ ap (λ (q : Result (Unit {0}) Fault). with_arrays vss (of_array last q (λ _. Ok []))) done,
  stored.arrays ∙ ap (λ (l : List (List ℕ)). stored.done ++ l) (no_arrays stored.left left is stored.sizes) ∙ sym (stored.cells [] ∙ ap (λ (l : List Wanted). stored.done ++ cells_of l []) is),
)

pub end_refused : (end : InputEnd) (array : Option ℕ) (first : Bool) (last : Option (List ℕ)) (all left : List Wanted) (r : Rest) (vss : List (List ℤ)) (whole : Result (List (List ℤ)) DataFault)
    → left ≡ [] → name_at all array ≡ last → Fails end (finished r) → with_arrays vss (arrays_from first last left r) ≡ whole → Refuses all array end whole
end_refused (Refused code place) array first last all left r vss whole is named fails so_far =
    sym so_far ∙ ap (λ (l : List Wanted). with_arrays vss (arrays_from first last l r)) is ∙ ap (λ (q : Result (Unit {0}) Fault). with_arrays vss (of_array last q (λ _. Ok []))) fails
    ∙ ap (λ (n : Option (List ℕ)). Err (record { code = code; place = place; name = n })) (sym named)
end_refused Failed array first last all left r vss whole is named fails so_far = tt
end_refused Absent array first last all left r vss whole is named fails so_far = tt

-- ---- the bytes of one array more

pub none_stored : (ws : List Wanted) (old : List (List ℕ)) → map length old ≡ map size_of ws → Stored ws ws [] old
none_stored ws old sizes = record { done = []; left = old; arrays = refl; sizes = sizes; count = omega arith; cells = λ more. refl }

-- one array more
store_next : (all rest : List Wanted) (w : Wanted) (vss : List (List ℤ)) (vs : List ℤ) (done left now after : List (List ℕ)) (i : ℕ) → now ≡ done ++ left → map length left ≡ map size_of (w ∷ rest)
    → length done + length (w ∷ rest) ≡ length all → ((more : List (List ℤ)) → cells_of all (vss ++ more) ≡ done ++ cells_of (w ∷ rest) more) → i + length (w ∷ rest) ≡ length all
    → length (flat_map (cell w.elem) vs) ≡ size_of w → after ≡ put_in i 0 (flat_map (cell w.elem) vs) now → Stored all rest (vss ++ vs ∷ []) after
store_next all rest w vss vs done [] now after i is sizes count cells here size put = cc
store_next all rest w vss vs done (o ∷ left) now after i is sizes count cells here size put =
    let one : length o ≡ size_of w = cc in
    record {
      done = done ++ flat_map (cell w.elem) vs ∷ [];
      left = left;
      arrays = put ∙ ap (put_in i 0 (flat_map (cell w.elem) vs)) is ∙ put_in-whole i done left o (flat_map (cell w.elem) vs) (omega arith) (omega arith)
          ∙ sym (append_assoc done (flat_map (cell w.elem) vs ∷ []) left);
      sizes = cc;
      count = omega (arith, length-append done (flat_map (cell w.elem) vs ∷ []));
      cells = λ more. ap (cells_of all) (append_assoc vss (vs ∷ []) more) ∙ cells (vs ∷ more) ∙ sym (append_assoc done (flat_map (cell w.elem) vs ∷ []) (cells_of rest more));
    }

pub one_stored : (all left rest : List Wanted) (w : Wanted) (vss : List (List ℤ)) (vs : List ℤ) (now after : List (List ℕ)) (i : ℕ) → left ≡ w ∷ rest → Stored all left vss now → i + length left ≡ length all
    → length (flat_map (cell w.elem) vs) ≡ size_of w → after ≡ put_in i 0 (flat_map (cell w.elem) vs) now → Stored all rest (vss ++ vs ∷ []) after
one_stored all left rest w vss vs now after i is stored here size put =
    let s : Stored all (w ∷ rest) vss now = subst (λ (l : List Wanted). Stored all l vss now) is stored in
    store_next all rest w vss vs s.done s.left now after i s.arrays s.sizes s.count s.cells (omega (arith, here, ap length is)) size put

-- ---- the arrays that are left

pub next_left : (wants : List Want) (i : ℕ) (item : Want) → i < length wants → item ≡ get_or wants i item → drop i (map wanted wants) ≡ wanted item ∷ drop (i + 1) (map wanted wants)
next_left wants i item h is =
    drop-map wanted i wants ∙ ap (map wanted) (drop-cons wants i item h) ∙ ap (λ (x : Want). wanted x ∷ map wanted (drop (suc i) wants)) (sym is)
    ∙ ap (λ (l : List Wanted). wanted item ∷ l) (sym (drop-map wanted (suc i) wants) ∙ ap (λ (k : ℕ). drop k (map wanted wants)) (sym (add-one i)))

pub none_left : (wants : List Want) (i : ℕ) → length wants ≤ i → drop i (map wanted wants) ≡ []
none_left wants i h = drop-map wanted i wants ∙ ap (map wanted) (drop_all i wants h)

-- the name of the array that is next
pub next_named : (all left rest : List Wanted) (w : Wanted) (i : ℕ) → drop i all ≡ left → left ≡ w ∷ rest → name_at all (Some i) ≡ Some w.name
next_named [] left rest w zero from is = cc
next_named [] left rest w (suc i) from is = cc
next_named (v ∷ all) left rest w zero from is = ap (λ (l : List Wanted). name_at l (Some 0)) (from ∙ is)
next_named (v ∷ all) left rest w (suc i) from is = next_named all left rest w i from is

-- ---- the room for the next array

next_room : (all : List Wanted) (old now : List (List ℕ)) (i : ℕ) (w : Wanted) (rest : List Wanted) → map length old ≡ map size_of all → drop i all ≡ w ∷ rest → HasRange old i 0 (size_of w)
next_room [] old now zero w rest sizes is = cc
next_room [] old now (suc i) w rest sizes is = cc
next_room (v ∷ all) [] now i w rest sizes is = cc
next_room (v ∷ all) (o ∷ old) now zero w rest sizes is =
    let same : length o ≡ size_of v = cc in
    let this : size_of v ≡ size_of w = cc in
    record { there = omega arith; range = omega arith }
next_room (v ∷ all) (o ∷ old) now (suc i) w rest sizes is =
    let more : HasRange old i 0 (size_of w) = next_room all old now i w rest (cc) is in
    record { there = omega (arith, more.there); range = more.range }

pub room_for_next : (all : List Wanted) (old now : List (List ℕ)) (i : ℕ) (w : Wanted) (rest : List Wanted) → map length old ≡ map size_of all → map length now ≡ map length old → drop i all ≡ w ∷ rest → HasRange now i 0 (size_of w)
room_for_next all old now i w rest sizes same is = next_room all now now i w rest (same ∙ sizes) is

pub size_for_next : (all : List Wanted) (i : ℕ) (w : Wanted) (rest : List Wanted) (most : ℕ) → All (λ v. size_of v < most) all → drop i all ≡ w ∷ rest → size_of w < most
size_for_next [] zero w rest most small is = cc
size_for_next [] (suc i) w rest most small is = cc
size_for_next (v ∷ all) zero w rest most small is = let this : size_of v ≡ size_of w = cc in let fits : size_of v < most = small 0 v (omega arith) in omega arith
size_for_next (v ∷ all) (suc i) w rest most small is = size_for_next all i w rest most (λ k d less. small (suc k) d (omega arith)) is

one_less : (i : ℕ) → (if suc i == 0 then None else Some (suc i - 1)) ≡ Some i
one_less i =
    let same : suc i - 1 ≡ i = omega arith in
    let some : (suc i == 0) ≡ false = grind arith in
    ap (λ (b : Bool). if b then None else Some (suc i - 1)) some ∙ ap (λ (k : ℕ). Some k) same

-- behind the last array the last one is named
pub last_named : (ws : List Wanted) (i n : ℕ) (array : Option ℕ) → i ≡ n → array ≡ (if n == 0 then None else Some (n - 1)) → name_at ws array ≡ last_name ws i
last_named ws zero n array is named = ap (name_at ws) (named ∙ ap (λ (k : ℕ). if k == 0 then None else Some (k - 1)) (sym is))
last_named ws (suc i) n array is named = ap (name_at ws) (named ∙ ap (λ (k : ℕ). if k == 0 then None else Some (k - 1)) (sym is) ∙ one_less i)

-- one array more, which is then the last
pub one_read_more : (first now_first : Bool) (ws : List Wanted) (i : ℕ) (w : Wanted) (left rest : List Wanted) (r now : Rest) (vss : List (List ℤ)) (vs : List ℤ) (whole : Result (List (List ℤ)) DataFault)
    → left ≡ w ∷ rest → now_first ≡ false → name_at ws (Some i) ≡ Some w.name → array_of_text first w r ≡ Ok (vs, now) → with_arrays vss (arrays_from first (last_name ws i) left r) ≡ whole
    → with_arrays (vss ++ vs ∷ []) (arrays_from now_first (last_name ws (i + 1)) rest now) ≡ whole
one_read_more first now_first ws i w left rest r now vss vs whole is later named got so_far =
    ap (λ (l : Option (List ℕ)). with_arrays (vss ++ vs ∷ []) (arrays_from now_first l rest now)) (ap (last_name ws) (add-one i) ∙ named)
    ∙ one_read first now_first (last_name ws i) w left rest r now vss vs whole is later got so_far

-- ---- what is read of each array are its values

zip_end : (last : Option (List ℕ)) (x : Result (Unit {0}) Fault) (vss : List (List ℤ)) → of_array {A = Unit {0}} {B = List (List ℤ)} last x (λ _. Ok []) ≡ Ok vss → AllZip AreValuesOf [] vss
zip_end last (Ok y) [] h = tt
zip_end last (Ok y) (vs ∷ vss) h = cc
zip_end last (Err f) vss h = cc

zip_add : (w : Wanted) (ws : List Wanted) (vs : List ℤ) (vss : List (List ℤ)) (rest : Result (List (List ℤ)) DataFault) → AreValuesOf w vs → ((more : List (List ℤ)) → rest ≡ Ok more → AllZip AreValuesOf ws more)
    → add_values vs rest ≡ Ok vss → AllZip AreValuesOf (w ∷ ws) vss
zip_add w ws vs vss (Err f) good are h = cc
zip_add w ws vs [] (Ok more) good are h = cc
zip_add w ws vs (xs ∷ vss) (Ok more) good are h =
    let one : vs ≡ xs = cc in
    let rest : more ≡ vss = cc in
    (subst (λ (l : List ℤ). AreValuesOf w l) one good, are vss (ap Ok rest))

zip_one : (first : Bool) (w : Wanted) (ws : List Wanted) (r : Rest) (one : Result (List ℤ × Rest) Fault) (vss : List (List ℤ)) → array_of_text first w r ≡ one
    → ((now : Rest) (more : List (List ℤ)) → arrays_from false (Some w.name) ws now ≡ Ok more → AllZip AreValuesOf ws more)
    → of_array (Some w.name) one (λ a. add_values a.0 (arrays_from false (Some w.name) ws a.1)) ≡ Ok vss → AllZip AreValuesOf (w ∷ ws) vss
zip_one first w ws r (Err f) vss is are h = cc
zip_one first w ws r (Ok a) vss is are h =
    let good = array_values first w r a.1 a.0 is in
    zip_add w ws a.0 vss (arrays_from false (Some w.name) ws a.1) (record { count = good.count; each = good.each }) (are a.1) h

zip_from : (first : Bool) (last : Option (List ℕ)) (ws : List Wanted) (r : Rest) (vss : List (List ℤ)) → arrays_from first last ws r ≡ Ok vss → AllZip AreValuesOf ws vss
zip_from first last [] r vss h = zip_end last (finished r) vss h
zip_from first last (w ∷ ws) r vss h = zip_one first w ws r (array_of_text first w r) vss refl (λ now more. zip_from false (Some w.name) ws now more) h

pub all_values : (ws : List Wanted) (bytes : List ℕ) (vss : List (List ℤ)) → arrays_of ws bytes ≡ Ok vss → AllZip AreValuesOf ws vss
unfolding arrays_of
all_values ws bytes vss h = zip_from true None ws (start_of bytes) vss h
