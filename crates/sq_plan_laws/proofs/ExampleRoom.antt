-- A loop of three iterations that one argument leaves, the other one being another pair each time, and two nested loops
-- that two arguments leave at different depths: each array has a buffer of its own.
use Rattle.std.proofs.Common.{◌≡◌, ℕ, zero, suc, ◌+◌, ◌≤◌, true, [], ◌∷◌, Option, refl, sym, ap, ◌∙◌, subst}
use Rattle.std.proofs.Common.{arith, inl, inr}
use Rattle.std.specs.Prelude.{Some, None, slice_get}
use Rattle.sq_leaf.specs.declared.shape.Shape.{Shape}
use Rattle.sq_leaf.specs.Leaf.{Leaf as LeafSource}
use Rattle.sq_ir.specs.Written.{Setting}
use Rattle.sq_placed.specs.declared.home.Home.{Home}
use Rattle.sq_placed.specs.declared.home.Home.TheVariants.{Own, Held}
use Rattle.sq_placed.specs.Placed.{Placed, PlacedArg, PlacedCall, Nothing, Then, Each, Call, Hold, Leaf}
use Rattle.sq_plan_laws.specs.Codes.{bytes_in}
use Rattle.sq_plan_laws.proofs.ExampleReady.{ints, part}
use Rattle.sq_plan_laws.specs.Buffers.{home_buffer, IsAmong, CallOwns, HoldOwns, Opens, Owns}

-- all of six `int`s, and a pair of them
abbrev whole : Home → PlacedArg
whole home = part 0 6 6 home

abbrev pair : ℕ → Home → PlacedArg
pair t home = part (t + t) (t + t + 2) 2 home

abbrev turn : ℕ → PlacedCall
turn t = record { form = 1; lower = true; args = whole (Held 1 1) ∷ pair t (Own 2) ∷ []; locals = [] }

abbrev turns : LeafSource → Placed
turns leaf = Each 3 (λ t. Then (Call (turn t) (Leaf 0 leaf (ints 6 ∷ ints 2 ∷ []))) Nothing)

abbrev step : (t u : ℕ) → PlacedCall
step t u = record {
  form = 2;
  lower = true;
  args = whole (Held 3 2) ∷ pair t (Held 4 1) ∷ pair u (Own 5) ∷ [];
  locals = [];
}

abbrev steps : LeafSource → ℕ → Placed
steps leaf t = Each 3 (λ u. Then (Call (step t u) (Leaf 1 leaf (ints 6 ∷ ints 2 ∷ ints 2 ∷ []))) Nothing)

abbrev nest : LeafSource → Placed
nest leaf = Each 2 (λ t. Then (Hold (pair t (Held 4 1) ∷ []) (steps leaf t)) Nothing)

abbrev example : LeafSource → Placed
example leaf = Then (Hold (whole (Held 1 1) ∷ []) (turns leaf)) (Hold (whole (Held 3 2) ∷ []) (nest leaf))

-- ---- buffers by their numbers

some_some : {x y : ℕ} → Some (Some x) ≡ Some (Some y) → x ≡ y
some_some h = cc h

alone : (o : Option ℕ) (i b : ℕ) → slice_get (o ∷ []) i ≡ Some (Some b) → (i ≡ 0) × (o ≡ Some b)
alone o zero b h = (refl, cc h)
alone o (suc i) b h = absurd (cc h)

two_there : (x i b : ℕ) → slice_get (Some x ∷ Some (x + 1) ∷ []) i ≡ Some (Some b) → b ≡ x + i
two_there x zero b h = let e = some_some h in omega (arith, e)
two_there x (suc zero) b h = let e = some_some h in omega (arith, e)
two_there x (suc (suc i)) b h = absurd (cc h)

three_there : (x i b : ℕ) → slice_get (Some x ∷ Some (x + 1) ∷ Some (x + 2) ∷ []) i ≡ Some (Some b) → b ≡ x + i
three_there x zero b h = let e = some_some h in omega (arith, e)
three_there x (suc zero) b h = let e = some_some h in omega (arith, e)
three_there x (suc (suc zero)) b h = let e = some_some h in omega (arith, e)
three_there x (suc (suc (suc i))) b h = absurd (cc h)

-- the last one alone
second_opens : (x i b : ℕ) → slice_get (None ∷ Some x ∷ []) i ≡ Some (Some b) → b ≡ x
second_opens x zero b h = absurd (cc h)
second_opens x (suc zero) b h = sym (some_some h)
second_opens x (suc (suc i)) b h = absurd (cc h)

third_opens : (x i b : ℕ) → slice_get (None ∷ None ∷ Some x ∷ []) i ≡ Some (Some b) → b ≡ x
third_opens x zero b h = absurd (cc h)
third_opens x (suc zero) b h = absurd (cc h)
third_opens x (suc (suc zero)) b h = sym (some_some h)
third_opens x (suc (suc (suc i))) b h = absurd (cc h)

-- ---- sizes

all_bytes : (i : ℕ) (sh : Shape) → slice_get (ints 6 ∷ ints 2 ∷ ints 2 ∷ []) i ≡ Some sh → bytes_in sh ≤ 24
unfolding ints
all_bytes zero sh h = let e : ints 6 ≡ sh = cc h in subst (λ (x : Shape). bytes_in x ≤ 24) e (omega arith)
all_bytes (suc zero) sh h = let e : ints 2 ≡ sh = cc h in subst (λ (x : Shape). bytes_in x ≤ 24) e (omega arith)
all_bytes (suc (suc zero)) sh h = let e : ints 2 ≡ sh = cc h in subst (λ (x : Shape). bytes_in x ≤ 24) e (omega arith)
all_bytes (suc (suc (suc i))) sh h = absurd (cc h)

pair_bytes : (i : ℕ) (sh : Shape) → slice_get (ints 6 ∷ ints 2 ∷ []) i ≡ Some sh → bytes_in sh ≤ 24
pair_bytes zero sh h = all_bytes 0 sh h
pair_bytes (suc zero) sh h = all_bytes 1 sh h
pair_bytes (suc (suc i)) sh h = absurd (cc h)

some_arg : {x y : PlacedArg} → Some x ≡ Some y → x ≡ y
some_arg h = cc h

module _ (s : Setting) (large : (b : ℕ) → 24 ≤ s.size b) (leaf : LeafSource) where
  turn_homes : (i : ℕ) (p : PlacedArg) (t : ℕ) → slice_get (whole (Held 1 1) ∷ pair t (Own 2) ∷ []) i ≡ Some p
      → IsAmong true (1 ∷ []) p.home
  unfolding part
  turn_homes zero p t e = subst (λ (q : PlacedArg). IsAmong true (1 ∷ []) q.home) (some_arg e)
      (refl, (0, omega arith, refl))
  turn_homes (suc zero) p t e = subst (λ (q : PlacedArg). IsAmong true (1 ∷ []) q.home) (some_arg e) tt
  turn_homes (suc (suc i)) p t e = absurd (cc e)

  turn_owns : (t : ℕ) → CallOwns s (1 ∷ []) (turn t) (Leaf 0 leaf (ints 6 ∷ ints 2 ∷ []))
  unfolding part
  turn_owns t = record {
    homes = λ i p e. turn_homes i p t e;
    distinct = λ i j b h g. let x = two_there 1 i b h in let y = two_there 1 j b g in omega (arith, x, y);
    inner = λ i b h o. o;
    sizes = λ i b sh h e. let x = pair_bytes i sh e in let y = large b in omega (arith, x, y);
    some = λ j k e. absurd (cc e);
  }

  step_homes : (i : ℕ) (p : PlacedArg) (t u : ℕ)
      → slice_get (whole (Held 3 2) ∷ pair t (Held 4 1) ∷ pair u (Own 5) ∷ []) i ≡ Some p
      → IsAmong true (4 ∷ 3 ∷ []) p.home
  unfolding part
  step_homes zero p t u e = subst (λ (q : PlacedArg). IsAmong true (4 ∷ 3 ∷ []) q.home) (some_arg e)
      (refl, (1, omega arith, refl))
  step_homes (suc zero) p t u e = subst (λ (q : PlacedArg). IsAmong true (4 ∷ 3 ∷ []) q.home) (some_arg e)
      (refl, (0, omega arith, refl))
  step_homes (suc (suc zero)) p t u e = subst (λ (q : PlacedArg). IsAmong true (4 ∷ 3 ∷ []) q.home) (some_arg e) tt
  step_homes (suc (suc (suc i))) p t u e = absurd (cc e)

  step_owns : (t u : ℕ) → CallOwns s (4 ∷ 3 ∷ []) (step t u) (Leaf 1 leaf (ints 6 ∷ ints 2 ∷ ints 2 ∷ []))
  unfolding part
  step_owns t u = record {
    homes = λ i p e. step_homes i p t u e;
    distinct = λ i j b h g. let x = three_there 3 i b h in let y = three_there 3 j b g in omega (arith, x, y);
    inner = λ i b h o. o;
    sizes = λ i b sh h e. let x = all_bytes i sh e in let y = large b in omega (arith, x, y);
    some = λ j k e. absurd (cc e);
  }

  -- one argument leaves a loop
  holds : (p : PlacedArg) (b loops : ℕ) (w : Placed) → p.home ≡ Held b loops → bytes_in p.shape ≤ 24
      → (Opens w b → ⊥) → HoldOwns s (p ∷ []) w
  holds p b loops w home small none = record {
    distinct = λ i j c h g. (alone (home_buffer p.home) i c h).0 ∙ sym (alone (home_buffer p.home) j c g).0;
    inner = λ i c h o. none (subst (Opens w) (sym (same c (alone (home_buffer p.home) i c h).1)) o);
    sizes = λ i c n q e h. fits i c q e;
  }
    where
      same : (c : ℕ) → home_buffer p.home ≡ Some c → b ≡ c
      same c h = let e : Some b ≡ Some c = sym (ap home_buffer home) ∙ h in cc e

      fits : (i c : ℕ) (q : PlacedArg) → slice_get (p ∷ []) i ≡ Some q → bytes_in q.shape ≤ s.size c
      fits zero c q e =
          let x = subst (λ (y : PlacedArg). bytes_in y.shape ≤ 24) (some_arg e) small in
          let y = large c in omega (arith, x, y)
      fits (suc i) c q e = absurd (cc e)

  -- the calls bring the buffers of the other argument into scope
  turns_open : (b : ℕ) → Opens (turns leaf) b → b ≡ 2
  unfolding part
  turns_open b (t, lt, inl (inl (i, h))) = second_opens 2 i b h
  turns_open b (t, lt, inl (inr o)) = absurd o
  turns_open b (t, lt, inr o) = absurd o

  steps_open : (t b : ℕ) → Opens (steps leaf t) b → b ≡ 5
  unfolding part
  steps_open t b (u, lt, inl (inl (i, h))) = third_opens 5 i b h
  steps_open t b (u, lt, inl (inr o)) = absurd o
  steps_open t b (u, lt, inr o) = absurd o

  nest_opens : (b : ℕ) → Opens (nest leaf) b → 4 ≤ b
  unfolding part
  nest_opens b (t, lt, inl (inl (i, h))) = let e : Some 4 ≡ Some b = (alone (Some 4) i b h).1 in let x : 4 ≡ b = cc e in
      omega (arith, x)
  nest_opens b (t, lt, inl (inr o)) = let x = steps_open t b o in omega (arith, x)
  nest_opens b (t, lt, inr o) = absurd o

  pub owns : Owns s (example leaf)
  unfolding part ints
  owns = (
    (
      holds (whole (Held 1 1)) 1 1 (turns leaf) refl (omega arith)
          (λ o. let x = turns_open 1 o in absurd (omega (arith, x))),
      λ t lt. ((turn_owns t, tt), tt),
    ),
    (
      holds (whole (Held 3 2)) 3 2 (nest leaf) refl (omega arith)
          (λ o. let x = nest_opens 3 o in absurd (omega (arith, x))),
      λ t lt. (
        (
          holds (pair t (Held 4 1)) 4 1 (steps leaf t) refl (omega arith)
              (λ o. let x = steps_open t 4 o in absurd (omega (arith, x))),
          λ u lu. ((step_owns t u, tt), tt),
        ),
        tt,
      ),
    ),
  )
