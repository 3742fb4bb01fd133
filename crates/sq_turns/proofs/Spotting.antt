-- Indices of a block: where the elements of its turns stand.
use Rattle.std.proofs.Common.{◌≡◌, ℕ, zero, suc, ◌+◌, ◌-◌, ◌*◌, ◌^◌, ◌<◌, ◌≤◌, List, [], ◌∷◌, ◌++◌, length, map, get_or, slice_get, Option, Some, None, Result, Ok, Err, ℤ, pos, negsuc, nat_lt, IfSome, true, false, refl, sym, subst, ◌∙◌, ap, arith, unsigned_abs, if◌then◌else◌}
use Rattle.std.specs.List.{All}
use Rattle.std.proofs.lemmas.List.Prefix.{front_reads}
use Rattle.std.proofs.lemmas.List.Elements.{All-head, All-tail}
use Rattle.std.specs.Option.{option_map}
use Rattle.sq_num.specs.declared.Elem.{Elem}
use Rattle.sq_num.specs.declared.Elem.TheVariants.{Byte, Int, Long}
use Rattle.sq_num.specs.Elements.{width}
use Rattle.sq_rect.specs.declared.view.View.{View}
use Rattle.sq_columns.specs.declared.line.Line.{Line}
use Rattle.sq_columns.specs.declared.line.Line.TheVariants.{Same, Ramp, Column}
use Rattle.sq_columns.specs.Lines.{line_at, first_byte, IsSpot}
use Rattle.sq_leaf.specs.declared.trap.Trap.{Trap}
use Rattle.sq_leaf.specs.declared.code.Code.{Code}
use Rattle.sq_leaf.specs.declared.code.Cell.{Cell, out-Cell}
use Rattle.sq_leaf.specs.Outcome.{and_then, all}
use Rattle.sq_leaf.specs.Places.{along, located, reach}
use Rattle.sq_leaf.specs.Spots.{IsInside, first_of, spot_or_trap}
use Rattle.sq_leaf.specs.Running.{run_code, run_codes, run_cell, cell_in, CodeRun, CellRun}
use Rattle.sq_leaf.proofs.Many.{cell_found}
use Rattle.sq_turns.specs.declared.setting.Setting.{Setting}
use Rattle.sq_deeds.specs.Puts.{LiesIn}
use Rattle.sq_turns.specs.Settings.{counters_at, at_turn, Gives, Places, Offset, AreSpots, along_value, offset_by, offset_of, offset_along}
use Rattle.sq_turns.proofs.Meeting.{met_same}

-- the first column is the front of all
pub line_front : (l : Line) (all xs ys : List ℤ) (j : ℕ) → all ≡ xs ++ ys → j < length xs → line_at l all j ≡ line_at l xs j
line_front (Same x) all xs ys j e h = refl
line_front (Ramp a d) all xs ys j e h = refl
line_front Column all xs ys j e h = front_reads (pos 0) all xs ys e j h

pub spots_front : (t : Setting) (off : Offset) (at w most : ℕ) (l : Line) (all xs ys : List ℤ) → all ≡ xs ++ ys → t.block.now.turns ≤ length xs
    → AreSpots t off at w most l all → AreSpots t off at w most l xs
spots_front t off at w most l all xs ys e room h = record {
  steady = h.steady;
  spot = λ j below. subst (IsSpot at w most (at_turn off t j t.bytes.now)) (line_front l all xs ys j e (omega (arith, below, room))) (h.spot j below);
}

pub spots_whole : (t : Setting) (off : Offset) (at w most : ℕ) (l : Line) (all xs ys : List ℤ) → all ≡ xs ++ ys → t.block.now.turns ≤ length xs
    → AreSpots t off at w most l xs → AreSpots t off at w most l all
spots_whole t off at w most l all xs ys e room h = record {
  steady = h.steady;
  spot = λ j below. subst (IsSpot at w most (at_turn off t j t.bytes.now)) (sym (line_front l all xs ys j e (omega (arith, below, room)))) (h.spot j below);
}

pub none_behind : (t : Setting) (at w : ℕ) (column : List ℤ) → AreSpots t (λ vs ks c. Some 0) at w 0 (Same (pos at)) column
none_behind t at w column = record {
  steady = λ j c below met. refl;
  spot = λ j below. let here : at ≡ at + w * 0 = omega arith in record { before = 0; there = refl; low = omega arith; is = ap pos here };
}

-- one more dimension in front
pub spots_along : (t : Setting) (off : Offset) (at w most : ℕ) (l : Line) (xs : List ℤ) (f : CodeRun) (index : Line) (ys : List ℤ) (n s : ℕ) (m : Line) (zs : List ℤ)
    → AreSpots t off at w most l xs → Gives t f index ys
    → ((j : ℕ) → j < t.block.now.turns → IsSpot at w ((n - 1) * s + most) (along (line_at index ys j) n s (at_turn off t j t.bytes.now)) (line_at m zs j))
    → AreSpots t (offset_along f n s off) at w ((n - 1) * s + most) m zs
spots_along t off at w most l xs f index ys n s m zs behind gives h = record {
  steady = λ j c below met.
      ap (λ (r : Result ℤ Trap). along_value r n s (at_turn off t j c)) (gives.each j c below met ∙ sym (gives.each j t.bytes.now below (met_same t.block.now j t.bytes.now)))
      ∙ ap (λ (o : Option ℕ). along_value (at_turn f t j t.bytes.now) n s o) (behind.steady j c below met);
  spot = λ j below.
      subst (λ (r : Result ℤ Trap). IsSpot at w ((n - 1) * s + most) (along_value r n s (at_turn off t j t.bytes.now)) (line_at m zs j)) (sym (gives.each j t.bytes.now below (met_same t.block.now j t.bytes.now))) (h j below);
}

along_none : (i : ℤ) (n s : ℕ) → along i n s None ≡ None
along_none (pos i) n s = elim (nat_lt i n) as (λ b. (if b then option_map (λ o. i * s + o) None else None) ≡ None) [ true ↦ refl | false ↦ refl ]
along_none (negsuc i) n s = refl

-- where there is an offset, all indices are computed, and it is that of the element that they name
pub record AllIn (ns ss : List ℕ) (rs : List (Result ℤ Trap)) (o : ℕ) : Type 0 where
  pub index : List ℤ
  pub computed : all rs ≡ Ok index
  pub there : located ns ss index ≡ Some o

one_in : (n s : ℕ) (ns ss : List ℕ) (i : ℤ) (rs : List (Result ℤ Trap)) (o : ℕ) (r : Option ℕ) → ((p : ℕ) → r ≡ Some p → AllIn ns ss rs p) → along i n s r ≡ Some o → AllIn (n ∷ ns) (s ∷ ss) (Ok i ∷ rs) o
one_in n s ns ss i rs o None below h = absurd (impossible (sym (along_none i n s) ∙ h))
  where
    impossible : None ≡ Some o → ⊥
    impossible e = cc
one_in n s ns ss i rs o (Some p) below h =
    let inner : AllIn ns ss rs p = below p refl in
    record {
      index = i ∷ inner.index;
      computed = ap (λ (r : Result (List ℤ) Trap). and_then r (λ vs. Ok (i ∷ vs))) inner.computed;
      there = ap (along i n s) inner.there ∙ h;
    }

pub all_in : (ns ss : List ℕ) (rs : List (Result ℤ Trap)) (o : ℕ) → offset_by ns ss rs ≡ Some o → AllIn ns ss rs o
all_in [] [] [] o h = record { index = []; computed = refl; there = h }
all_in [] [] (r ∷ rs) o h = cc
all_in [] (s ∷ ss) rs o h = cc
all_in (n ∷ ns) [] rs o h = cc
all_in (n ∷ ns) (s ∷ ss) [] o h = cc
all_in (n ∷ ns) (s ∷ ss) (Ok i ∷ rs) o h = one_in n s ns ss i rs o (offset_by ns ss rs) (λ p e. all_in ns ss rs p e) h
all_in (n ∷ ns) (s ∷ ss) (Err t ∷ rs) o h = cc

first_is : (c : Cell) (v : View) (vs : List View) (ks : List ℤ) (b : List ℕ) (o : ℕ) → AllIn v.extents v.strides (map (λ (f : CodeRun). f vs ks b) (map run_code (out-Cell c).index)) o
    → Ok (v.at + width v.elem * o) ≡ first_of (cell_in v (out-Cell c).place (run_codes (out-Cell c).index vs ks b))
first_is c v vs ks b o h =
    sym (ap (λ (r : Result (List ℤ) Trap). first_of (cell_in v (out-Cell c).place r)) h.computed ∙ ap (λ (p : Option ℕ). first_of (spot_or_trap v (out-Cell c).place p)) h.there)

pub spots_places : (t : Setting) (c : Cell) (v : View) (l : Line) (column : List ℤ) → Some v ≡ slice_get t.frame.now.views (out-Cell c).array
    → AreSpots t (offset_of v.extents v.strides (out-Cell c).index) v.at (width v.elem) (reach v.extents v.strides) l column → Places t (run_cell c) v.elem l column
spots_places t c v l column found h = record { each = λ j d below met. go j d (h.spot j below) (h.steady j d below met) }
  where
    go : (j : ℕ) (d : List ℕ) → IsSpot v.at (width v.elem) (reach v.extents v.strides) (at_turn (offset_of v.extents v.strides (out-Cell c).index) t j t.bytes.now) (line_at l column j)
        → at_turn (offset_of v.extents v.strides (out-Cell c).index) t j d ≡ at_turn (offset_of v.extents v.strides (out-Cell c).index) t j t.bytes.now
        → at_turn (run_cell c) t j d ≡ Ok (record { elem = v.elem; at = first_byte l column j })
    go j d spot steady =
        let there : AllIn v.extents v.strides (map (λ (f : CodeRun). f t.frame.now.views (counters_at t j) d) (map run_code (out-Cell c).index)) spot.before =
        all_in v.extents v.strides _ spot.before (steady ∙ spot.there) in
        let here : first_byte l column j ≡ v.at + width v.elem * spot.before = ap unsigned_abs spot.is in
        cell_found c v t.frame.now.views (counters_at t j) d (v.at + width v.elem * spot.before) found (first_is c v t.frame.now.views (counters_at t j) d spot.before there)
        ∙ ap (λ (n : ℕ). Ok (record { elem = v.elem; at = n })) (sym here)

ends : (e : Elem) (o most : ℕ) → o ≤ most → width e * o + width e ≤ width e * (most + 1)
ends Byte o most h = omega arith
ends Int o most h = omega arith
ends Long o most h = omega arith

pub spots_lie : (t : Setting) (off : Offset) (at most : ℕ) (e : Elem) (l : Line) (column : List ℤ) → AreSpots t off at (width e) most l column
    → (j : ℕ) → j < t.block.now.turns → LiesIn at (at + width e * (most + 1)) e l column j
spots_lie t off at most e l column h j below =
    let spot : IsSpot at (width e) most (at_turn off t j t.bytes.now) (line_at l column j) = h.spot j below in
    let here : first_byte l column j ≡ at + width e * spot.before = ap unsigned_abs spot.is in
    record {
      is = spot.is ∙ ap pos (sym here);
      from = omega (arith, here);
      ends = omega (arith, here, ends e spot.before most spot.low);
    }

pub some_after : {A : Type 0} (o : Option A) (P Q : A → Type 0) → ((x : A) → P x → Q x) → IfSome o P → IfSome o Q
some_after (Some x) P Q f h = f x h
some_after None P Q f h = h

-- the index's column behind the first one
pub along_front : (t : Setting) (off more : Offset) (at w most reach : ℕ) (l : Line) (o : Option Line) (all front rest new_front new_rest : List ℤ)
    → all ≡ front ++ rest → t.block.now.turns ≤ length front → t.block.now.turns ≤ length new_front
    → (AreSpots t off at w most l front → IfSome o (λ m. AreSpots t more at w reach m new_front))
    → AreSpots t off at w most l all → IfSome o (λ m. AreSpots t more at w reach m (new_front ++ new_rest))
along_front t off more at w most reach l o all front rest new_front new_rest e room new_room f h =
    some_after o _ _ (λ m g. spots_whole t more at w reach m (new_front ++ new_rest) new_front new_rest refl new_room g) (f (spots_front t off at w most l all front rest e room h))

-- what one more index makes of a line
abbrev pub Moves : Setting → ℕ → ℕ → ℕ → ℕ → Code → Line → List ℤ → Option Line → List ℤ → Type 0
Moves t at w n s x l old o new =
    (most : ℕ) (off : Offset) → at + w * ((n - 1) * s + most) < 2 ^ 62 → AreSpots t off at w most l old
    → IfSome o (λ m. AreSpots t (offset_along (run_code x) n s off) at w ((n - 1) * s + most) m new)

less_near : (at w p q : ℕ) → at + w * (p + q) < 2 ^ 62 → at + w * q < 2 ^ 62
less_near at w p q h = omega (arith, h, mul_add_left w p q)
  where
    mul_add_left : (w p q : ℕ) → w * (p + q) ≡ w * p + w * q
    mul_add_left w p q = omega arith

moved : (t : Setting) (at w : ℕ) (o : Option Line) (new : List ℤ) (ns ss : List ℕ) (codes : List Code) (ms ts : List ℕ) (others : List Code)
    → ns ≡ ms → ss ≡ ts → codes ≡ others → (at + w * reach ns ss < 2 ^ 62 → IfSome o (λ m. AreSpots t (offset_of ns ss codes) at w (reach ns ss) m new))
    → at + w * reach ms ts < 2 ^ 62 → IfSome o (λ m. AreSpots t (offset_of ms ts others) at w (reach ms ts) m new)
moved t at w o new ns ss codes ms ts others en es ec =
    λ h. subst (λ (cs : List Code). at + w * reach ms ts < 2 ^ 62 → IfSome o (λ m. AreSpots t (offset_of ms ts cs) at w (reach ms ts) m new)) ec
    (subst (λ (qs : List ℕ). at + w * reach ms qs < 2 ^ 62 → IfSome o (λ m. AreSpots t (offset_of ms qs codes) at w (reach ms qs) m new)) es
    (subst (λ (ps : List ℕ). at + w * reach ps ss < 2 ^ 62 → IfSome o (λ m. AreSpots t (offset_of ps ss codes) at w (reach ps ss) m new)) en h))

pub one_index : (t : Setting) (at w n s : ℕ) (x : Code) (l : Line) (old : List ℤ) (o : Option Line) (new : List ℤ) (ns ss : List ℕ) (codes : List Code)
    → Moves t at w n s x l old o new → AreSpots t (offset_of [] [] []) at w 0 l old → n ∷ [] ≡ ns → s ∷ [] ≡ ss → x ∷ [] ≡ codes
    → at + w * reach ns ss < 2 ^ 62 → IfSome o (λ m. AreSpots t (offset_of ns ss codes) at w (reach ns ss) m new)
one_index t at w n s x l old o new ns ss codes f h en es ec near =
    moved t at w o new (n ∷ []) (s ∷ []) (x ∷ []) ns ss codes en es ec (λ close. f 0 (offset_of [] [] []) close h) near

-- the same where the line is known
abbrev pub Moved : Setting → ℕ → ℕ → ℕ → ℕ → Code → Line → List ℤ → Line → List ℤ → Type 0
Moved t at w n s x l old m new =
    (most : ℕ) (off : Offset) → at + w * ((n - 1) * s + most) < 2 ^ 62 → AreSpots t off at w most l old
    → AreSpots t (offset_along (run_code x) n s off) at w ((n - 1) * s + most) m new

pub two_indices : (t : Setting) (at w n s m u : ℕ) (x y : Code) (l k : Line) (old mid : List ℤ) (o : Option Line) (new : List ℤ) (ns ss : List ℕ) (codes : List Code)
    → Moved t at w m u y l old k mid → Moves t at w n s x k mid o new → AreSpots t (offset_of [] [] []) at w 0 l old
    → n ∷ m ∷ [] ≡ ns → s ∷ u ∷ [] ≡ ss → x ∷ y ∷ [] ≡ codes → at + w * reach ns ss < 2 ^ 62 → IfSome o (λ q. AreSpots t (offset_of ns ss codes) at w (reach ns ss) q new)
two_indices t at w n s m u x y l k old mid o new ns ss codes f g h en es ec near =
    moved t at w o new (n ∷ m ∷ []) (s ∷ u ∷ []) (x ∷ y ∷ []) ns ss codes en es ec
    (λ close. g (reach (m ∷ []) (u ∷ [])) (offset_of (m ∷ []) (u ∷ []) (y ∷ [])) close
    (f 0 (offset_of [] [] []) (less_near at w ((n - 1) * s) (reach (m ∷ []) (u ∷ [])) close) h)) near

pub three_indices : (t : Setting) (at w n s m u i v : ℕ) (x y z : Code) (l k j : Line) (old mid far : List ℤ) (o : Option Line) (new : List ℤ) (ns ss : List ℕ) (codes : List Code)
    → Moved t at w i v z l old k mid → Moved t at w m u y k mid j far → Moves t at w n s x j far o new → AreSpots t (offset_of [] [] []) at w 0 l old
    → n ∷ m ∷ i ∷ [] ≡ ns → s ∷ u ∷ v ∷ [] ≡ ss → x ∷ y ∷ z ∷ [] ≡ codes → at + w * reach ns ss < 2 ^ 62 → IfSome o (λ r. AreSpots t (offset_of ns ss codes) at w (reach ns ss) r new)
three_indices t at w n s m u i v x y z l k j old mid far o new ns ss codes f g g2 h en es ec near =
    moved t at w o new (n ∷ m ∷ i ∷ []) (s ∷ u ∷ v ∷ []) (x ∷ y ∷ z ∷ []) ns ss codes en es ec
    (λ close.
    let less : at + w * reach (m ∷ i ∷ []) (u ∷ v ∷ []) < 2 ^ 62 = less_near at w ((n - 1) * s) (reach (m ∷ i ∷ []) (u ∷ v ∷ [])) close in
    g2 (reach (m ∷ i ∷ []) (u ∷ v ∷ [])) (offset_of (m ∷ i ∷ []) (u ∷ v ∷ []) (y ∷ z ∷ [])) close
    (g (reach (i ∷ []) (v ∷ [])) (offset_of (i ∷ []) (v ∷ []) (z ∷ [])) less
    (f 0 (offset_of [] [] []) (less_near at w ((m - 1) * u) (reach (i ∷ []) (v ∷ [])) less) h))) near

reach_near : (e : Elem) (at r size : ℕ) → at + width e * (r + 1) ≤ size → size < 2 ^ 62 → at + width e * r < 2 ^ 62
reach_near Byte at r size h less = omega arith
reach_near Int at r size h less = omega arith
reach_near Long at r size h less = omega arith

pub view_near : (v : View) (size : ℕ) → IsInside size v → size < 2 ^ 62 → v.at + width v.elem * reach v.extents v.strides < 2 ^ 62
view_near v size inside less = reach_near v.elem v.at (reach v.extents v.strides) size inside.ends less

pub spots_there : (t : Setting) (c : Cell) (v : View) (o : Option Line) (column : List ℤ) (ns ss : List ℕ) (codes : List Code)
    → ns ≡ v.extents → ss ≡ v.strides → codes ≡ (out-Cell c).index → Some v ≡ slice_get t.frame.now.views (out-Cell c).array → IsInside (length t.bytes.now) v
    → (v.at + width v.elem * reach ns ss < 2 ^ 62 → IfSome o (λ l. AreSpots t (offset_of ns ss codes) v.at (width v.elem) (reach ns ss) l column)) → IfSome o (λ l. Places t (run_cell c) v.elem l column)
spots_there t c v o column ns ss codes en es ec found inside h =
    some_after o _ _ (λ l g. spots_places t c v l column found g)
    (moved t v.at (width v.elem) o column ns ss codes v.extents v.strides (out-Cell c).index en es ec h (view_near v (length t.bytes.now) inside t.near))

-- the parts of a short list
pub list_one : {A : Type 0} (d : A) (xs : List A) → length xs ≡ 1 → get_or xs 0 d ∷ [] ≡ xs
list_one d [] e = cc
list_one d (x ∷ []) e = refl
list_one d (x ∷ y ∷ zs) e = absurd (omega (arith, e))

pub list_two : {A : Type 0} (d : A) (xs : List A) → length xs ≡ 2 → get_or xs 0 d ∷ get_or xs 1 d ∷ [] ≡ xs
list_two d [] e = cc
list_two d (x ∷ []) e = absurd (omega (arith, e))
list_two d (x ∷ y ∷ []) e = refl
list_two d (x ∷ y ∷ z ∷ zs) e = absurd (omega (arith, e))

pub list_three : {A : Type 0} (d : A) (xs : List A) → length xs ≡ 3 → get_or xs 0 d ∷ get_or xs 1 d ∷ get_or xs 2 d ∷ [] ≡ xs
list_three d [] e = cc
list_three d (x ∷ []) e = absurd (omega (arith, e))
list_three d (x ∷ y ∷ []) e = absurd (omega (arith, e))
list_three d (x ∷ y ∷ z ∷ []) e = refl
list_three d (x ∷ y ∷ z ∷ w ∷ zs) e = absurd (omega (arith, e))

pub codes_one : (xs : List Code) (x : Code) → length xs ≡ 1 → x ≡ get_or xs 0 x → x ∷ [] ≡ xs
codes_one xs x n e = ap (λ (c : Code). c ∷ []) e ∙ list_one x xs n

pub codes_two : (xs : List Code) (x y : Code) → length xs ≡ 2 → x ≡ get_or xs 0 x → y ≡ get_or xs 1 y → x ∷ y ∷ [] ≡ xs
codes_two [] x y n e f = cc
codes_two (p ∷ []) x y n e f = absurd (omega (arith, n))
codes_two (p ∷ q ∷ []) x y n e f = cc
codes_two (p ∷ q ∷ r ∷ zs) x y n e f = absurd (omega (arith, n))

pub codes_three : (xs : List Code) (x y z : Code) → length xs ≡ 3 → x ≡ get_or xs 0 x → y ≡ get_or xs 1 y → z ≡ get_or xs 2 z → x ∷ y ∷ z ∷ [] ≡ xs
codes_three [] x y z n e f g = cc
codes_three (p ∷ []) x y z n e f g = absurd (omega (arith, n))
codes_three (p ∷ q ∷ []) x y z n e f g = absurd (omega (arith, n))
codes_three (p ∷ q ∷ r ∷ []) x y z n e f g = cc
codes_three (p ∷ q ∷ r ∷ o ∷ zs) x y z n e f g = absurd (omega (arith, n))

-- the elements by the first of the columns
pub lies_front : (n low high : ℕ) (e : Elem) (l : Line) (all xs ys : List ℤ) → all ≡ xs ++ ys → n ≤ length xs → ((j : ℕ) → j < n → LiesIn low high e l all j) → (j : ℕ) → j < n → LiesIn low high e l xs j
lies_front n low high e l all xs ys eq room h j below =
    let here : LiesIn low high e l all j = h j below in
    let same : line_at l all j ≡ line_at l xs j = line_front l all xs ys j eq (omega (arith, below, room)) in
    let byte : first_byte l all j ≡ first_byte l xs j = ap unsigned_abs same in
    let from : low ≤ first_byte l all j = here.from in
    let end : first_byte l all j + width e ≤ high = here.ends in
    record { is = sym same ∙ (here.is ∙ ap pos byte); from = omega (arith, byte, from); ends = omega (arith, byte, end) }

pub places_front : (t : Setting) (f : CellRun) (e : Elem) (l : Line) (all xs ys : List ℤ) → all ≡ xs ++ ys → t.block.now.turns ≤ length xs → Places t f e l all → Places t f e l xs
places_front t f e l all xs ys eq room h = record {
  each = λ j c below met.
      h.each j c below met ∙ ap (λ (z : ℤ). Ok (record { elem = e; at = unsigned_abs z })) (line_front l all xs ys j eq (omega (arith, below, room)));
}

-- the same by other names of the two bytes
pub lies_front_by : (n low high from to : ℕ) (e : Elem) (l : Line) (all xs ys : List ℤ) → from ≡ low → to ≡ high → all ≡ xs ++ ys → n ≤ length xs → ((j : ℕ) → j < n → LiesIn low high e l all j) → (j : ℕ) → j < n → LiesIn from to e l xs j
lies_front_by n low high from to e l all xs ys low_is high_is eq room h j below =
    subst (λ (k : ℕ). LiesIn k to e l xs j) (sym low_is) (subst (λ (k : ℕ). LiesIn low k e l xs j) (sym high_is) (lies_front n low high e l all xs ys eq room h j below))

pub lies_whole : (low high size : ℕ) (e : Elem) (l : Line) (column : List ℤ) (j : ℕ) → high ≤ size → LiesIn low high e l column j → LiesIn 0 size e l column j
lies_whole low high size e l column j within h =
    let end : first_byte l column j + width e ≤ high = h.ends in
    record { is = h.is; from = omega arith; ends = omega (arith, end, within) }

pub view_inside : (size : ℕ) (vs : List View) (i : ℕ) (v : View) → Some v ≡ slice_get vs i → All (IsInside size) vs → IsInside size v
view_inside size [] zero v e h = absurd (none v e)
  where
    none : (v : View) → Some v ≡ None → ⊥
    none v e = cc
view_inside size [] (suc i) v e h = absurd (none v e)
  where
    none : (v : View) → Some v ≡ None → ⊥
    none v e = cc
view_inside size (x ∷ xs) zero v e h = subst (IsInside size) (same x v e) (All-head (IsInside size) x xs h)
  where
    same : (x v : View) → Some v ≡ Some x → x ≡ v
    same x v e = cc
view_inside size (x ∷ xs) (suc i) v e h = view_inside size xs i v e (All-tail (IsInside size) x xs h)
