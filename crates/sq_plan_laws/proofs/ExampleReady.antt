-- An array of two `int`s, of which each is handed to a idle at a child of its own: it meets all conditions.
use Rattle.std.proofs.Common.{◌≡◌, ℕ, zero, suc, ◌+◌, ◌-◌, ◌%◌, ◌<◌, ◌≤◌, Bool, true, false, ◌&&◌, ◌||◌, List, [], ◌∷◌}
use Rattle.std.proofs.Common.{get_or, refl, sym, ap, ◌∙◌, subst, arith, inl, inr}
use Rattle.std.specs.Prelude.{Some, None, slice_get, nat_eq}
use Rattle.std.proofs.lemmas.Bool.Decides.{nat_tests}
use Rattle.std.proofs.Math.Nat.{mod-lt}
use Rattle.sq_num.specs.declared.Elem.TheVariants.{Int}
use Rattle.sq_num.specs.Elements.{width, value}
use Rattle.sq_text.specs.declared.place.Place.{Place}
use Rattle.sq_text.specs.declared.spread.SpreadRule.TheVariants.{Cyclic}
use Rattle.sq_ast.specs.declared.program.Mode.TheVariants.{Both}
use Rattle.sq_ast.specs.declared.program.Body.TheVariants as body
use Rattle.sq_ast.specs.declared.program.VariantKind.TheVariants as variant_kind
use Rattle.sq_leaf.specs.declared.shape.Shape.{Shape}
use Rattle.sq_leaf.specs.Leaf.{Leaf as LeafSource}
use Rattle.sq_blocks.specs.declared.argument.Argument.{Argument}
use Rattle.sq_placed.specs.FormLaws.Laws.{NoAlias, Apart}
use Rattle.sq_work.specs.Meaning.{covers}
use Rattle.sq_work.specs.InTurn.{IsRaceFree}
use Rattle.sq_placed.specs.declared.home.Home.{Home}
use Rattle.sq_placed.specs.declared.home.Home.TheVariants.{InPlace, Own}
use Rattle.sq_placed.specs.Placed.{Placed, PlacedArg, PlacedCall, arguments, plain, Nothing, Then, AtOnce, Call, Leaf}
use Rattle.sq_cells.specs.Machine.{Node, Form, child_of, fan_of, offset_of, lane}
use Rattle.sq_cells.specs.Cells.{Spot}
use Rattle.sq_cells.specs.Tree.{Gives, leaf_of, value_in}
use Rattle.sq_cells.specs.Lowered.{held, stays, own, in_place, IsIn, Scratch}
use Rattle.sq_cells.proofs.Cells.{spot_path}
use Rattle.sq_plan_laws.specs.Calling.{place_of, PassedFits, arrays_of, form_of, first_buffer}
use Rattle.sq_plan_laws.specs.OnBytes.{Codings, size_in, work}
use Rattle.sq_plan_laws.specs.Fitting.{IsPlain, LeafCoded, Fitting}
use Rattle.sq_plan_laws.specs.Keeping.{may_of, Keeping}
use Rattle.sq_plan_laws.specs.Stowed.{Stowed}
use Rattle.sq_plan_laws.specs.PlacedEntry.{IsReady}
use Rattle.sq_plan_laws.proofs.PlacedLists.{listed_same, same_some}
use Rattle.sq_plan_laws.proofs.Leaves.{stored_kept}

unfoldable pub ints : ℕ → Shape
ints n = record { elem = Int; extents = n ∷ [] }

-- a part of the array
unfoldable pub part : (from to n : ℕ) → Home → PlacedArg
part from to n home = record {
  argument = record { mode = Both; is_reduced = false; array = 0; rect = record { lo = from; hi = to } ∷ [] };
  gathers = None;
  shape = ints n;
  home = home;
}

unfoldable pub whole_call : PlacedCall
whole_call = record { form = 0; lower = false; args = part 0 2 2 InPlace ∷ []; locals = [] }

unfoldable pub one_call : ℕ → PlacedCall
one_call t = record { form = 1; lower = true; args = part t (t + 1) 1 (Own 1) ∷ []; locals = [] }

unfoldable pub example : Place → LeafSource → Placed
example place leaf = Call whole_call
    (AtOnce place (Some Cyclic) 2 (λ t. Then (Call (one_call t) (Leaf 0 leaf (ints 1 ∷ []))) Nothing))

-- leaf code without a statement
unfoldable pub idle : LeafSource
idle = record {
  variant = record {
    place = record { line = 1; col = 1 };
    task = [];
    kind = variant_kind.Leaf;
    params = [];
    decls
        = [];
    body = body.Leaf [];
  };
  numbers = [];
}

unfoldable pub codes : Codings
codes n shapes = record { number = n; does = λ vals. Gives [] }

-- node 0 has the children 1 and 2; each buffer is at 0
unfoldable pub root : Node
root = record { machine = record { children = λ n. 2; child = λ n c. suc c }; number = 0 }

unfoldable pub zeros : ℕ → ℕ
zeros b = 0

-- ---- lists of one

pub only : {A : Type 0} (x : A) (k : ℕ) (y : A) → slice_get (x ∷ []) k ≡ Some y → (k ≡ 0) × (y ≡ x)
only x zero y e = (refl, sym (same_some e))
only x (suc k) y e = cc

no_alias : (x : Argument) → NoAlias (x ∷ [])
no_alias x i j y z lt ey ez wy wz s = let a = (only x i y ey).0 in let b = (only x j z ez).0 in omega (arith, lt, a, b)

pub alone : (x : Argument) → x.is_reduced ≡ false → Apart (x ∷ []) 0
alone x r = record {
  others = λ j y z ne ey ez s. absurd (ne (only x j z ez).0);
  whole = λ y e. ap (λ (a : Argument). a.is_reduced) (only x 0 y e).1 ∙ r;
}

-- ---- fitting

part_fits : (from to n : ℕ) (home : Home) → from < to → to ≤ 2 → to - from ≡ n
    → PassedFits (ints 2 ∷ []) (part from to n home)
unfolding part ints
part_fits from to n home lt le e
    = record { of = ints 2; there = refl; fits = (lt, le, tt); elem = refl; extents = ap (λ m. m ∷ []) (sym e) }

pub call_fits : (form from to n : ℕ) (lower : Bool) (home : Home) → from < to → to ≤ 2 → to - from ≡ n
    → IsPlain (ints 2 ∷ []) (record { form = form; lower = lower; args = part from to n home ∷ []; locals = [] })
unfolding part
call_fits form from to n lower home lt le e = record {
  args = record {
    each = λ k p f. subst (PassedFits (ints 2 ∷ [])) (sym (only (part from to n home) k p f).1)
        (part_fits from to n home lt le e);
  };
  no_alias = no_alias _;
  none = λ k p f. ap (λ (q : PlacedArg). q.gathers) (only (part from to n home) k p f).1;
}

leaf_coded : LeafCoded codes 0 idle (ints 1 ∷ [])
unfolding idle codes leaf_of
leaf_coded s s' c = record {
  at = λ n sh cs there at. c.at n sh cs there at
      ∙ ap (value sh.elem) (listed_same (width sh.elem) _ _
      (λ b lb. sym (stored_kept 1 (λ i. size_in (slice_get (ints 1 ∷ []) i)) (λ i. get_or [] i false) (value_in []) s' n
      _ refl)));
}

fitting : (place : Place) → Fitting codes (example place idle) None (ints 2 ∷ [])
unfolding example whole_call one_call part
fitting place = (
  call_fits 0 0 2 2 false InPlace (omega arith) (omega arith) refl,
  λ t lt. (
    (tt, tt),
    (
      (call_fits 1 t (t + 1) 1 true (Own 1) (omega arith) (omega (arith, lt)) (omega arith), (refl, leaf_coded)),
      tt,
    ),
  ),
)

-- ---- keeping

unfoldable pub all : ℕ → Bool
all i = true

keeping : (place : Place) → Keeping (example place idle) all
unfolding example whole_call one_call part all idle
keeping place = (
  record {
    base = record {
      apart = λ k p f st. subst (Apart (arguments (part 0 2 2 InPlace ∷ []))) (sym (only (part 0 2 2 InPlace) k p f).0)
          (alone _ refl);
      permitted = λ k p f w. refl;
      sum_home = λ k p f ne. absurd (ne (ap (λ (q : PlacedArg). q.gathers) (only (part 0 2 2 InPlace) k p f).1));
    };
    not_held = λ k p f. ap (λ (q : PlacedArg). held (place_of q.home)) (only (part 0 2 2 InPlace) k p f).1;
  },
  (
    tt,
    λ t lt. (
      (
        record {
          base = record {
            apart = λ k p f st. let z : false ≡ true
                = sym (ap (λ (q : PlacedArg). stays (place_of q.home)) (only (part t (t + 1) 1 (Own 1)) k p f).1)
                ∙ st in absurd (cc);
            permitted = λ k p f w. ap (λ (q : PlacedArg). may_of whole_call q.argument.array)
                (only (part t (t + 1) 1 (Own 1)) k p f).1;
            sum_home = λ k p f ne. absurd (ne
                (ap (λ (q : PlacedArg). q.gathers) (only (part t (t + 1) 1 (Own 1)) k p f).1));
          };
          not_held = λ k p f. ap (λ (q : PlacedArg). held (place_of q.home)) (only (part t (t + 1) 1 (Own 1)) k p f).1;
        },
        (tt, λ i e. cc),
      ),
      tt,
    ),
  ),
)

-- ---- no race

covers_one : (a : ℕ) (cs : List ℕ) → covers (record { lo = a; hi = a + 1 } ∷ []) cs ≡ true → get_or cs 0 0 ≡ a
covers_one a [] e = cc
covers_one a (c ∷ cs) e =
    let low : a ≤ c = grind (arith, nat_tests, e) in
    let high : c < a + 1 = grind (arith, nat_tests, e) in
    omega (arith, low, high)

second : (x y : Bool) → (x && y) ≡ true → y ≡ true
second true y e = e
second false y e = cc

first_of : (x : Bool) → (x || false || false) ≡ true → x ≡ true
first_of true e = refl
first_of false e = cc

race_free : (place : Place) → IsRaceFree (plain (example place idle))
unfolding example whole_call one_call part
race_free place = (
  record {
    at = λ a b n cs la lb ne out w t.
        let x = covers_one a cs (second (nat_eq n 0) _ (first_of _ w)) in
        let y = covers_one b cs (second (nat_eq n 0) _ (first_of _ t)) in
        ne (sym x ∙ y);
  },
  λ t lt. (tt, tt),
)

-- ---- offsets and nodes

index_of : (p q : Spot) → p ≡ q → p.index ≡ q.index
index_of p q e = ap (λ (v : Spot). v.index) e

pub area_of : (p q : Spot) → p ≡ q → p.area ≡ q.area
area_of p q e = ap (λ (v : Spot). v.area) e

-- buffers that begin at 0 and have one array
pub one_array : (node : Node) (form : Form) (l l' : Spot) → l.area < 1 → l'.area < 1 → (form l.area ≡ 0)
    → (form l'.area ≡ 0) → own node form l ≡ own node form l' → l ≡ l'
unfolding offset_of
one_array node form l l' la la' f f' e =
    let i = index_of _ _ e in
    spot_path l l' (omega (arith, la, la')) (omega (arith, i, f, f'))

-- what stands at a child
at_child : (t : ℕ) (kid : ℕ) (p : Spot)
    → Scratch (work codes zeros (Then (Call (one_call t) (Leaf 0 idle (ints 1 ∷ []))) Nothing) (ints 2 ∷ [])) root kid p
    → p.area ≡ suc kid
unfolding one_call part root child_of
at_child t kid p (inl (inl h)) = sym (area_of _ _ h.3)
at_child t kid p (inl (inr h)) = absurd h
at_child t kid p (inr h) = absurd h

no_buffer : (l : Spot) → IsIn 1 (arrays_of (ints 2 ∷ []) whole_call) l
    → in_place (arrays_of (ints 2 ∷ []) whole_call l.area).place ≡ false → ⊥
unfolding whole_call part
no_buffer l i o = let z : l.area ≡ 0 = omega (arith, i.0) in let y : true ≡ false
    = subst (λ a. in_place (arrays_of (ints 2 ∷ []) whole_call a).place ≡ false) z o in cc

stowed : (place : Place) → Stowed (work codes zeros (example place idle) (ints 2 ∷ [])) root 0
unfolding example whole_call one_call part root child_of fan_of lane zeros
stowed place = (
  record {
    separate = λ l l' i i' o o' e. absurd (no_buffer l i o);
    below = λ l i o s. no_buffer l i o;
  },
  (
    record {
      lanes = λ a b la lb ne p s s'. ne
          (let x = at_child a (a % 2) p s in let y = at_child b (b % 2) p s' in omega (arith, x, y));
    },
    λ t lt. (
      mod-lt t {m = 2} (omega arith),
      (
        (
          record {
            separate = λ l l' i i' o o' e. one_array (child_of root (t % 2)) (form_of zeros first_buffer (one_call t)) l
                l' i.0 i'.0 refl refl e;
            below = λ l i o s. absurd s;
          },
          tt,
        ),
        tt,
      ),
    ),
  ),
)

-- no buffer further in stands at the root
not_root : (place : Place) (p : Spot) → Scratch (work codes zeros (example place idle) (ints 2 ∷ [])) root 0 p → p.area
    ≡ 0 → ⊥
unfolding example whole_call one_call part root child_of fan_of lane zeros
not_root place p (inl h) e = no_buffer h.0 h.1 (ap in_place h.2)
not_root place p (inr (t, lt, s)) e = let z = at_child t (t % 2) p s in omega (arith, z, e)

-- everything that is asked holds
pub ready : (place : Place) → IsReady codes zeros root zeros (ints 2 ∷ []) all (example place idle)
unfolding zeros root example whole_call part
ready place = record {
  fitting = fitting place;
  keeping = keeping place;
  race_free = race_free place;
  stowed = record {
    stowed = stowed place;
    separate = λ l l' i i' e. one_array root zeros l l' i.0 i'.0 refl refl e;
    below = λ l i s. not_root place (own root zeros l) s refl;
  };
}
