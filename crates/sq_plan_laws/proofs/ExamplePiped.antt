-- A loop of three iterations whose transfers overlap: one argument leaves it, and the other one, another pair each
-- time, has two buffers in turn. Each array has buffers of its own.
use Rattle.std.proofs.Common.{◌≡◌, ℕ, zero, suc, ◌+◌, ◌<◌, ◌≤◌, true, [], ◌∷◌, refl, subst, arith, inl, inr, ◌⊎◌}
use Rattle.std.specs.Prelude.{Some, None, slice_get}
use Rattle.sq_leaf.specs.declared.shape.Shape.{Shape}
use Rattle.sq_leaf.specs.Leaf.{Leaf as LeafSource}
use Rattle.sq_ir.specs.Written.{Setting}
use Rattle.sq_placed.specs.declared.home.Home.TheVariants.{Held, Twin}
use Rattle.sq_placed.specs.Placed.{Placed, PlacedArg, PlacedCall, Hold, Piped, Leaf}
use Rattle.sq_plan_laws.specs.Codes.{bytes_in}
use Rattle.sq_plan_laws.proofs.ExampleReady.{ints, part}
use Rattle.sq_plan_laws.specs.Buffers.{HasInSet, OpensInSet, HoldsBuffer, IsTwice, PipeOwns, HoldOwns, Opens, Owns}

-- all of six `int`s, and a pair of them
abbrev whole : PlacedArg
whole = part 0 6 6 (Held 1 1)

abbrev pair : ℕ → PlacedArg
pair t = part (t + t) (t + t + 2) 2 (Twin 2 3)

abbrev turn : ℕ → PlacedCall
turn t = record { form = 1; lower = true; args = whole ∷ pair t ∷ []; locals = [] }

abbrev code : LeafSource → Placed
code leaf = Leaf 0 leaf (ints 6 ∷ ints 2 ∷ [])

abbrev turns : LeafSource → Placed
turns leaf = Piped None 3 turn (λ t. code leaf)

abbrev example : LeafSource → Placed
example leaf = Hold (whole ∷ []) (turns leaf)

some_some : {x y : ℕ} → Some (Some x) ≡ Some (Some y) → x ≡ y
some_some h = cc h

some_arg : {x y : PlacedArg} → Some x ≡ Some y → x ≡ y
some_arg h = cc h

-- which argument a buffer is of
abbrev IsOf : (i b : ℕ) → Type 0
IsOf i b = ((i ≡ 0) × (b ≡ 1)) ⊎ ((i ≡ 1) × (1 < b))

has_at : (t k i b : ℕ) → HasInSet (turn t) k i b → IsOf i b
unfolding part
has_at t zero zero b h = inl (refl, let e = some_some h in omega (arith, e))
has_at t (suc k) zero b h = inl (refl, let e = some_some h in omega (arith, e))
has_at t zero (suc zero) b h = inr (refl, let e = some_some h in omega (arith, e))
has_at t (suc k) (suc zero) b h = inr (refl, let e = some_some h in omega (arith, e))
has_at t zero (suc (suc i)) b h = absurd (cc h)
has_at t (suc k) (suc (suc i)) b h = absurd (cc h)

one_place : (i j b : ℕ) → IsOf i b → IsOf j b → i ≡ j
one_place i j b (inl x) (inl y) = let a = x.0 in let c = y.0 in omega (arith, a, c)
one_place i j b (inl x) (inr y) = let a = x.1 in let c = y.1 in absurd (omega (arith, a, c))
one_place i j b (inr x) (inl y) = let a = x.1 in let c = y.1 in absurd (omega (arith, a, c))
one_place i j b (inr x) (inr y) = let a = x.0 in let c = y.0 in omega (arith, a, c)

-- the loop brings the buffers of the pairs into scope
opens_at : (t k i b : ℕ) → OpensInSet (turn t) k i b → 1 < b
unfolding part
opens_at t zero zero b h = absurd (cc h)
opens_at t (suc k) zero b h = absurd (cc h)
opens_at t zero (suc zero) b h = let e = some_some h in omega (arith, e)
opens_at t (suc k) (suc zero) b h = let e = some_some h in omega (arith, e)
opens_at t zero (suc (suc i)) b h = absurd (cc h)
opens_at t (suc k) (suc (suc i)) b h = absurd (cc h)

alone : (i b : ℕ) → HoldsBuffer (whole ∷ []) i b → (i ≡ 0) × (b ≡ 1)
unfolding part
alone zero b h = (refl, let e = some_some h in omega (arith, e))
alone (suc i) b h = absurd (cc h)

all_bytes : (i : ℕ) (sh : Shape) → slice_get (ints 6 ∷ ints 2 ∷ []) i ≡ Some sh → bytes_in sh ≤ 24
unfolding ints
all_bytes zero sh h = let e : ints 6 ≡ sh = cc h in subst (λ (x : Shape). bytes_in x ≤ 24) e (omega arith)
all_bytes (suc zero) sh h = let e : ints 2 ≡ sh = cc h in subst (λ (x : Shape). bytes_in x ≤ 24) e (omega arith)
all_bytes (suc (suc i)) sh h = absurd (cc h)

module _ (s : Setting) (large : (b : ℕ) → 24 ≤ s.size b) (leaf : LeafSource) where
  turn_homes : (t i : ℕ) (p : PlacedArg) → slice_get (whole ∷ pair t ∷ []) i ≡ Some p → IsTwice (1 ∷ []) p.home
  unfolding part
  turn_homes t zero p e = subst (λ (q : PlacedArg). IsTwice (1 ∷ []) q.home) (some_arg e) (0, omega arith, refl)
  turn_homes t (suc zero) p e = subst (λ (q : PlacedArg). IsTwice (1 ∷ []) q.home) (some_arg e) (λ n. omega (arith, n))
  turn_homes t (suc (suc i)) p e = absurd (cc e)

  turn_owns : (t : ℕ) → PipeOwns s (1 ∷ []) (turn t) (code leaf)
  unfolding part
  turn_owns t = record {
    homes = λ i p e. turn_homes t i p e;
    distinct = λ k l i j b h g. one_place i j b (has_at t k i b h) (has_at t l j b g);
    inner = λ k i b h o. o;
    sizes = λ k i b sh h e. let x = all_bytes i sh e in let y = large b in omega (arith, x, y);
    some = λ j k e. absurd (cc e);
  }

  whole_fits : (i b n : ℕ) (p : PlacedArg) → slice_get (whole ∷ []) i ≡ Some p → bytes_in p.shape ≤ s.size b
  unfolding part ints
  whole_fits zero b n p e =
      let x = subst (λ (q : PlacedArg). bytes_in q.shape ≤ 24) (some_arg e) (omega arith) in
      let y = large b in omega (arith, x, y)
  whole_fits (suc i) b n p e = absurd (cc e)

  holds : HoldOwns s (whole ∷ []) (turns leaf)
  holds = record {
    distinct = λ i j b h g. let x = (alone i b h).0 in let y = (alone j b g).0 in omega (arith, x, y);
    inner = λ i b h o. none b (alone i b h).1 o;
    sizes = λ i b n p e h. whole_fits i b n p e;
  }
    where
      none : (b : ℕ) → b ≡ 1 → Opens (turns leaf) b → ⊥
      none b e (t, lt, inl (k, i, h)) = let x = opens_at t k i b h in omega (arith, x, e)
      none b e (t, lt, inr o) = o

  pub owns : Owns s (example leaf)
  unfolding part
  owns = (holds, λ t lt. (turn_owns t, tt))
