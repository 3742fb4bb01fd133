-- Touches of rows and views show what events touch.
use Rattle.std.proofs.Common.{◌≡◌, ℕ, ◌+◌, ◌<◌, Bool, true, false, List, [], ◌∷◌, ◌++◌, Result, Ok, Err, append-nil, append_assoc, refl, sym, ap, subst, ◌∙◌}
use Rattle.std.specs.Prelude.{OnOk, ◌^◌}
use Rattle.sq_rect.specs.declared.view.View.{View}
use Rattle.sq_areas.specs.Areas.{HasByte, reach_of}
use Rattle.sq_areas.specs.Alike.{IsAreaOf, IsBelow}
use Rattle.sq_areas.specs.declared.areas.Step.{Step}
use Rattle.sq_areas.specs.declared.areas.Area.{Area}
use Rattle.sq_areas.proofs.Among.{range_in, in_range}
use Rattle.sq_check_laws.specs.Touches.{row_touch, view_touch, view_touches}
use Rattle.sq_touches.specs.Acts.{IsNear, AreNear, seen_way}
use Rattle.sq_touches.specs.ActLaws.{ShowsTouch, ShowsTouches}
use Rattle.sq_touches.specs.Puts.{ArePut, AreBelow, first_flag, rest_flags, way_of}
use Rattle.sq_touches.specs.declared.touch.Way.{Way}
use Rattle.sq_touches.specs.declared.touch.Touch.{Touch}

pub row_shown : (node at bytes first : ℕ) (w : Way) (steps : List Step) → first ≡ at → steps ≡ []
    → ShowsTouch (record { node = node; way = w; area = record { at = first; run = bytes; steps = steps } }) (row_touch (record { node = node; at = at }) bytes (seen_way w))
row_shown node at bytes first w steps e f =
    record {
      node = refl;
      kind = refl;
      there = λ k h. subst (λ a. HasByte steps a bytes k) (sym e) (subst (λ s. HasByte s at bytes k) (sym f) (range_in at bytes k h));
      back = λ k h. let r = subst (λ s. HasByte s at bytes k) f (subst (λ a. HasByte steps a bytes k) e h) in in_range at bytes k r.0 r.1;
    }

-- ---- views

flags-first : (node : ℕ) (ws : List Bool) (v : View) (vs : List View) → view_touches node ws (v ∷ vs) ≡ view_touch node v (first_flag ws) ∷ view_touches node (rest_flags ws) vs
flags-first node [] v vs = refl
flags-first node (w ∷ ws) v vs = refl

view-shown : (node : ℕ) (v : View) (a : Area) (w : Bool) → IsAreaOf v a → ShowsTouch (record { node = node; way = way_of w; area = a }) (view_touch node v w)
view-shown node v a true is = record { node = refl; kind = refl; there = is.there; back = is.back }
view-shown node v a false is = record { node = refl; kind = refl; there = is.there; back = is.back }

pub put_none : (old : List Touch) (node : ℕ) (ws : List Bool) (vs : List View) → vs ≡ [] → ArePut old old (view_touches node ws vs)
put_none old node ws vs e = subst (λ l. ArePut old old (view_touches node ws l)) (sym e) (record { more = []; behind = sym (append-nil old); shown = none node ws })
  where
    none : (node : ℕ) (ws : List Bool) → ShowsTouches [] (view_touches node ws [])
    none node [] = tt
    none node (w ∷ ws) = tt

ok-to : {A E : Type 0} (r : Result A E) (P Q : Type 0) → (P → Q) → OnOk r P → OnOk r Q
ok-to (Ok x) P Q f h = f h
ok-to (Err e) P Q f h = tt

near-more : (xs : List Touch) (x : Touch) → AreNear xs → IsNear x → AreNear (xs ++ x ∷ [])
near-more [] x h n = (n, tt)
near-more (y ∷ xs) x h n = (h.0, near-more xs x h.1 n)

module _ (old mid new : List Touch) (node : ℕ) (ws us : List Bool) (all : List View) (v : View) (vs : List View) (a : Area) (way : Way) (flag : Bool)
    (views : all ≡ v ∷ vs) (flags : us ≡ rest_flags ws) (first : flag ≡ first_flag ws) (how : way ≡ way_of flag) (push : mid ≡ old ++ record { node = node; way = way; area = a } ∷ []) where
  abbrev x : Touch
  x = record { node = node; way = way; area = a }

  pub put_more : {A E : Type 0} (r : Result A E) → IsAreaOf v a → OnOk r (ArePut mid new (view_touches node us vs)) → OnOk r (ArePut old new (view_touches node ws all))
  put_more r is h = ok-to r (ArePut mid new (view_touches node us vs)) (ArePut old new (view_touches node ws all)) go h
    where
      go : ArePut mid new (view_touches node us vs) → ArePut old new (view_touches node ws all)
      go p =
          let w : way ≡ way_of (first_flag ws) = how ∙ ap way_of first in
          let s : ShowsTouch x (view_touch node v (first_flag ws)) = subst (λ z. ShowsTouch (record { node = node; way = z; area = a }) (view_touch node v (first_flag ws))) (sym w) (view-shown node v a (first_flag ws) is) in
          let t : ShowsTouches p.more (view_touches node (rest_flags ws) vs) = subst (λ l. ShowsTouches p.more (view_touches node l vs)) flags p.shown in
          let e : view_touches node ws all ≡ view_touch node v (first_flag ws) ∷ view_touches node (rest_flags ws) vs = ap (view_touches node ws) views ∙ flags-first node ws v vs in
          record {
            more = x ∷ p.more;
            behind = p.behind ∙ ap (λ l. l ++ p.more) push ∙ append_assoc old (x ∷ []) p.more;
            shown = subst (ShowsTouches (x ∷ p.more)) (sym e) (s, t);
          }

  pub near_more : {A E : Type 0} (r : Result A E) → (IsBelow v (2 ^ 32) → a.at + reach_of a.steps a.run < 2 ^ 63) → OnOk r (AreBelow vs → AreNear mid → AreNear new) → OnOk r (AreBelow all → AreNear old → AreNear new)
  near_more r near h = ok-to r (AreBelow vs → AreNear mid → AreNear new) (AreBelow all → AreNear old → AreNear new) go h
    where
      go : (AreBelow vs → AreNear mid → AreNear new) → AreBelow all → AreNear old → AreNear new
      go f b n = let c = subst AreBelow views b in f c.1 (subst AreNear (sym push) (near-more old x n (near c.0)))
