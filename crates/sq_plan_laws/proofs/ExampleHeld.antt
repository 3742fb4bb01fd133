-- Two calls in turn of a idle on an array that is held over them: it meets all conditions.
use Rattle.std.proofs.Common.{◌≡◌, ℕ, Bool, true, false, [], ◌∷◌, get_or, refl, sym, ap, ◌∙◌, subst, arith, inl, inr}
use Rattle.std.specs.Prelude.{Some, None, slice_get}
use Rattle.sq_num.specs.Elements.{width, value}
use Rattle.sq_leaf.specs.Leaf.{Leaf as LeafSource}
use Rattle.sq_placed.specs.FormLaws.Laws.{Apart}
use Rattle.sq_work.specs.InTurn.{IsRaceFree}
use Rattle.sq_placed.specs.declared.home.Home.TheVariants.{Held}
use Rattle.sq_placed.specs.Placed.{Placed, PlacedArg, PlacedCall, arguments, plain, Nothing, Then, Each, Call, Hold}
use Rattle.sq_placed.specs.Placed.{Piped, Leaf}
use Rattle.sq_cells.specs.Machine.{Node, child_of}
use Rattle.sq_cells.specs.Cells.{Spot}
use Rattle.sq_cells.specs.Tree.{leaf_of, value_in}
use Rattle.sq_cells.specs.Lowered.{in_place, TwiceCell, pick, own, Scratch}
use Rattle.sq_cells.specs.Work as bytes
use Rattle.sq_plan_laws.specs.Calling.{place_of, arrays_of, form_of, first_buffer, second_buffer}
use Rattle.sq_plan_laws.specs.OnBytes.{size_in, work}
use Rattle.sq_plan_laws.specs.Fitting.{LeafCoded, Fitting}
use Rattle.sq_plan_laws.specs.Keeping.{Keeping, HoldKeeps, CallHolds}
use Rattle.sq_plan_laws.specs.Stowed.{Stowed}
use Rattle.sq_plan_laws.specs.PlacedEntry.{IsReady}
use Rattle.sq_plan_laws.proofs.PlacedLists.{listed_same}
use Rattle.sq_plan_laws.proofs.Leaves.{stored_kept}
use Rattle.sq_plan_laws.proofs.ExampleReady.{idle, ints, part, codes, root, zeros, only, alone, call_fits, all}
use Rattle.sq_plan_laws.proofs.ExampleReady.{area_of, one_array}

-- all of the array, in buffer 1 round the innermost loop
kept : PlacedArg
kept = part 0 2 2 (Held 1 1)

turn_call : PlacedCall
turn_call = record { form = 1; lower = true; args = kept ∷ []; locals = [] }

turns : LeafSource → Placed
turns leaf = Each 2 (λ t. Then (Call turn_call (Leaf 0 leaf (ints 2 ∷ []))) Nothing)

example : LeafSource → Placed
example leaf = Hold (kept ∷ []) (turns leaf)

leaf_coded : LeafCoded codes 0 idle (ints 2 ∷ [])
unfolding idle codes leaf_of
leaf_coded s s' c = record {
  at = λ n sh cs there at. c.at n sh cs there at
      ∙ ap (value sh.elem) (listed_same (width sh.elem) _ _
      (λ b lb. sym (stored_kept 1 (λ i. size_in (slice_get (ints 2 ∷ []) i)) (λ i. get_or [] i false) (value_in []) s' n
      _ refl)));
}

fitting : Fitting codes (example idle) None (ints 2 ∷ [])
unfolding example turns turn_call kept part
fitting t lt = ((call_fits 1 0 2 2 true (Held 1 1) (omega arith) (omega arith) refl, (refl, leaf_coded)), tt)

holds : HoldKeeps (kept ∷ []) [] (turns idle)
unfolding turns turn_call kept part
holds = record {
  homes = λ j h e. ap (λ (q : PlacedArg). place_of q.home) (only kept j h e).1;
  plain = λ j h e. ap (λ (q : PlacedArg). q.gathers) (only kept j h e).1;
  all = λ j h e t lt. ((0, ap Some (sym (only kept j h e).1)), tt);
  one = λ j h e. (omega arith, (0, ap Some (sym (only kept j h e).1)));
  apart = λ i j x y ne ex ey s. absurd (ne ((only kept i x ex).0 ∙ sym (only kept j y ey).0));
}

in_turn : CallHolds turn_call all (kept ∷ [])
unfolding turn_call kept part all
in_turn = record {
  base = record {
    apart = λ k p f st. subst (Apart (arguments (kept ∷ []))) (sym (only kept k p f).0) (alone _ refl);
    permitted = λ k p f w. refl;
    sum_home = λ k p f ne. absurd (ne (ap (λ (q : PlacedArg). q.gathers) (only kept k p f).1));
  };
  lower = refl;
  held_in = λ k p f h. (0, ap Some (sym (only kept k p f).1));
}

keeping : Keeping (example idle) all
unfolding example turns turn_call idle
keeping = (holds, λ t lt. ((in_turn, (tt, λ i e. cc)), tt))

race_free : IsRaceFree (plain (example idle))
unfolding example turns turn_call
race_free t lt = (tt, tt)

-- none of its buffers but the held one
no_scratch : (p : Spot) → Scratch (work codes zeros (turns idle) (ints 2 ∷ [])) root 0 p → ⊥
unfolding turns turn_call kept part
no_scratch p (t, lt, inl (inl (q, i, pl, e))) = let z : q.area ≡ 0 = omega (arith, i.0) in let y : bytes.Held
    ≡ bytes.Buffer = subst (λ a. (arrays_of (ints 2 ∷ []) turn_call a).place ≡ bytes.Buffer) z pl in cc
no_scratch p (t, lt, inl (inr h)) = absurd h
no_scratch p (t, lt, inr h) = absurd h

stowed : Stowed (work codes zeros (example idle) (ints 2 ∷ [])) root 0
unfolding example turns turn_call kept part zeros
stowed = (
  record {
    separate = λ l l' i i' o o' e. one_array (child_of root 0) (form_of zeros first_buffer turn_call) l l' i.0 i'.0 refl
        refl e;
    below = λ q i o s. no_scratch _ s;
  },
  λ t lt. (
    (
      record {
        separate = λ l l' i i' o o' e. one_array (child_of root 0) (form_of zeros first_buffer turn_call) l l' i.0 i'.0
            refl refl e;
        below = λ l i o s. absurd s;
      },
      tt,
    ),
    tt,
  ),
)

not_root : (p : Spot) → Scratch (work codes zeros (example idle) (ints 2 ∷ [])) root 0 p → p.area ≡ 0 → ⊥
unfolding example root child_of
not_root p (inl (q, i, pl, o)) e = let x = area_of _ _ o in omega (arith, x, e)
not_root p (inr s) e = no_scratch p s

-- everything that is asked holds
ready : IsReady codes zeros root zeros (ints 2 ∷ []) all (example idle)
unfolding zeros root example
ready = record {
  fitting = fitting;
  keeping = keeping;
  race_free = race_free;
  stowed = record {
    stowed = stowed;
    separate = λ l l' i i' e. one_array root zeros l l' i.0 i'.0 refl refl e;
    below = λ l i s. not_root (own root zeros l) s refl;
  };
}

-- ---- the same with the loop taken

taken_turns : LeafSource → Placed
taken_turns leaf = Piped None 2 (λ t. turn_call) (λ t. Leaf 0 leaf (ints 2 ∷ []))

taken : LeafSource → Placed
taken leaf = Hold (kept ∷ []) (taken_turns leaf)

taken_fitting : Fitting codes (taken idle) None (ints 2 ∷ [])
unfolding taken taken_turns turn_call kept part
taken_fitting t lt = (call_fits 1 0 2 2 true (Held 1 1) (omega arith) (omega arith) refl, refl, (refl, leaf_coded))

taken_holds : HoldKeeps (kept ∷ []) [] (taken_turns idle)
unfolding taken_turns turn_call kept part
taken_holds = record {
  homes = λ j h e. ap (λ (q : PlacedArg). place_of q.home) (only kept j h e).1;
  plain = λ j h e. ap (λ (q : PlacedArg). q.gathers) (only kept j h e).1;
  all = λ j h e t lt. (0, ap Some (sym (only kept j h e).1));
  one = λ j h e. (omega arith, 0, ap Some (sym (only kept j h e).1));
  apart = λ i j x y ne ex ey s. absurd (ne ((only kept i x ex).0 ∙ sym (only kept j y ey).0));
}

not_buffer : (k : ℕ) (p : PlacedArg) → slice_get (kept ∷ []) k ≡ Some p → place_of p.home ≡ bytes.Buffer → ⊥
unfolding kept part
not_buffer k p e b = let z : bytes.Held ≡ bytes.Buffer
    = sym (ap (λ (q : PlacedArg). place_of q.home) (only kept k p e).1) ∙ b in cc

taken_keeping : Keeping (taken idle) all
unfolding taken taken_turns turn_call kept part idle
taken_keeping = (
  taken_holds,
  (
    record {
      each = λ t lt. in_turn;
      moved = λ t i p lt e. ap (λ (q : PlacedArg). in_place (place_of q.home)) (only kept i p e).1;
      same = λ t u i p lt lu e pl. e;
      loop = record {
        ahead = λ t i j x y lt ex ey bx by w s. not_buffer i x ex bx;
        ahead_two = λ t i j x y lt ex ey bx by w s. not_buffer i x ex bx;
      };
    },
    λ t lt. (tt, λ i e. cc),
  ),
)

taken_no_scratch : (p : Spot) → Scratch (work codes zeros (taken_turns idle) (ints 2 ∷ [])) root 0 p → ⊥
unfolding taken_turns turn_call kept part
taken_no_scratch p (t, lt, inl (q, i, pl, e)) = let z : q.area ≡ 0 = omega (arith, i.0) in let y : bytes.Held
    ≡ bytes.Buffer = subst (λ a. (arrays_of (ints 2 ∷ []) turn_call a).place ≡ bytes.Buffer) z pl in cc
taken_no_scratch p (t, lt, inr h) = absurd h

-- no cell has two buffers
no_twice : (node : Node) (form : ℕ → ℕ) (x : Spot) → TwiceCell node form 1 (arrays_of (ints 2 ∷ []) turn_call) x → ⊥
unfolding turn_call kept part
no_twice node form x (q, i, pl, m, e) = let z : q.area ≡ 0 = omega (arith, i.0) in let y : bytes.Held ≡ bytes.Buffer
    = subst (λ a. (arrays_of (ints 2 ∷ []) turn_call a).place ≡ bytes.Buffer) z pl in cc

zero_set : (b : Bool) (i : ℕ) → pick b (form_of zeros first_buffer turn_call) (form_of zeros second_buffer turn_call) i
    ≡ 0
unfolding zeros
zero_set true i = refl
zero_set false i = refl

taken_stowed : Stowed (work codes zeros (taken idle) (ints 2 ∷ [])) root 0
unfolding taken taken_turns turn_call kept part zeros
taken_stowed = (
  record {
    separate = λ l l' i i' o o' e. one_array (child_of root 0) (form_of zeros first_buffer turn_call) l l' i.0 i'.0 refl
        refl e;
    below = λ q i o s. taken_no_scratch _ s;
  },
  (
    record {
      later = λ p t c lt x a b. no_twice (child_of root 0) _ x a;
      sooner = λ p t c lt x a b. no_twice (child_of root 0) _ x a;
    },
    λ t lt. (
      record {
        separate = λ l l' i i' o o' e. one_array (child_of root 0) _ l l' i.0 i'.0 (zero_set _ l.area)
            (zero_set _ l'.area) e;
        below = λ l i o s. absurd s;
      },
      tt,
    ),
  ),
)

taken_not_root : (p : Spot) → Scratch (work codes zeros (taken idle) (ints 2 ∷ [])) root 0 p → p.area ≡ 0 → ⊥
unfolding taken root child_of
taken_not_root p (inl (q, i, pl, o)) e = let x = area_of _ _ o in omega (arith, x, e)
taken_not_root p (inr s) e = taken_no_scratch p s

taken_ready : IsReady codes zeros root zeros (ints 2 ∷ []) all (taken idle)
unfolding zeros root taken taken_turns turn_call
taken_ready = record {
  fitting = taken_fitting;
  keeping = taken_keeping;
  race_free = λ t lt. (tt, tt);
  stowed = record {
    stowed = taken_stowed;
    separate = λ l l' i i' e. one_array root zeros l l' i.0 i'.0 refl refl e;
    below = λ l i s. taken_not_root (own root zeros l) s refl;
  };
}
