-- Which touches are in conflict.
use Rattle.std.proofs.Common.{◌≡◌, Bool, true, false, List, [], ◌∷◌, sym, subst, ◌∙◌, ◌⊎◌, inl, inr}
use Rattle.sq_areas.specs.Areas.{Share}
use Rattle.sq_check_laws.specs.Touches.{agree}
use Rattle.sq_touches.specs.Acts.{seen_way, IsNear, AreNear, Conflict, ConflictAny, ConflictAll, same_paths, Depend}
use Rattle.sq_touches.specs.declared.touch.Touch.{Touch}
use Rattle.sq_touches.specs.declared.act.Act.{Act}

differs : (v : Bool) → v ≡ true → v ≡ false → ⊥
differs true p q = cc
differs false p q = cc

pub conflict_is : (x y : Touch) → x.node ≡ y.node → false ≡ agree (seen_way x.way) (seen_way y.way) → Share x.area.at x.area.run x.area.steps y.area → Conflict x y
conflict_is x y n w s = record { node = n; ways = sym w; share = s }

pub no_node : (x y : Touch) → (x.node ≡ y.node → ⊥) → ¬ Conflict x y
no_node x y n c = n c.node

pub no_way : (x y : Touch) → true ≡ agree (seen_way x.way) (seen_way y.way) → ¬ Conflict x y
no_way x y w c = differs (agree (seen_way x.way) (seen_way y.way)) (sym w) c.ways

pub no_share : (x y : Touch) → ¬ Share x.area.at x.area.run x.area.steps y.area → ¬ Conflict x y
no_share x y n c = n c.share

pub near_first : (l : List Touch) (x : Touch) (xs : List Touch) → l ≡ x ∷ xs → AreNear l → IsNear x
near_first l x xs e h = (subst AreNear e h).0

pub near_rest : (l : List Touch) (x : Touch) (xs : List Touch) → l ≡ x ∷ xs → AreNear l → AreNear xs
near_rest l x xs e h = (subst AreNear e h).1

pub any_first : (x : Touch) (l : List Touch) (y : Touch) (ys : List Touch) → l ≡ y ∷ ys → Conflict x y → ConflictAny x l
any_first x l y ys e c = subst (ConflictAny x) (sym e) (inl c)

pub any_rest : (x : Touch) (l : List Touch) (y : Touch) (ys : List Touch) → l ≡ y ∷ ys → ConflictAny x ys → ConflictAny x l
any_rest x l y ys e c = subst (ConflictAny x) (sym e) (inr c)

pub any_none : (x : Touch) (l : List Touch) (y : Touch) (ys : List Touch) → l ≡ y ∷ ys → ¬ Conflict x y → ¬ ConflictAny x ys → ¬ ConflictAny x l
any_none x l y ys e c n h = by (subst (ConflictAny x) e h)
  where
    by : Conflict x y ⊎ ConflictAny x ys → ⊥
    by (inl z) = c z
    by (inr z) = n z

pub any_empty : (x : Touch) (l : List Touch) → l ≡ [] → ¬ ConflictAny x l
any_empty x l e h = subst (ConflictAny x) e h

pub all_first : (os l : List Touch) (y : Touch) (ys : List Touch) → l ≡ y ∷ ys → ConflictAny y os → ConflictAll l os
all_first os l y ys e c = subst (λ z. ConflictAll z os) (sym e) (inl c)

pub all_rest : (os l : List Touch) (y : Touch) (ys : List Touch) → l ≡ y ∷ ys → ConflictAll ys os → ConflictAll l os
all_rest os l y ys e c = subst (λ z. ConflictAll z os) (sym e) (inr c)

pub all_none : (os l : List Touch) (y : Touch) (ys : List Touch) → l ≡ y ∷ ys → ¬ ConflictAny y os → ¬ ConflictAll ys os → ¬ ConflictAll l os
all_none os l y ys e c n h = by (subst (λ z. ConflictAll z os) e h)
  where
    by : ConflictAny y os ⊎ ConflictAll ys os → ⊥
    by (inl z) = c z
    by (inr z) = n z

pub all_empty : (os l : List Touch) → l ≡ [] → ¬ ConflictAll l os
all_empty os l e h = subst (λ z. ConflictAll z os) e h

pub depend_bytes : (a b : Act) (xs ys : List Touch) → xs ≡ a.touches → ys ≡ b.touches → ConflictAll xs ys → Depend a b
depend_bytes a b xs ys e f h = inl (subst (λ l. ConflictAll l b.touches) e (subst (ConflictAll xs) f h))

pub depend_paths : (a b : Act) (v : Bool) → v ≡ same_paths a.path b.path → v ≡ true → Depend a b
depend_paths a b v e t = inr (sym e ∙ t)

pub depend_none : (a b : Act) (xs ys : List Touch) (v : Bool) → xs ≡ a.touches → ys ≡ b.touches → ¬ ConflictAll xs ys → v ≡ same_paths a.path b.path → v ≡ false → ¬ Depend a b
depend_none a b xs ys v e f n p t h = by h
  where
    by : Depend a b → ⊥
    by (inl z) = n (subst (λ l. ConflictAll l ys) (sym e) (subst (ConflictAll a.touches) (sym f) z))
    by (inr z) = differs v (p ∙ z) t
