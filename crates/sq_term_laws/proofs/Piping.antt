-- The parts of a loop whose transfers overlap are well formed where what comes in, is done and goes out is.
use Rattle.std.proofs.Common.{◌≡◌, ℕ, zero, suc, ◌+◌, ◌-◌, ◌*◌, ◌/◌, ◌%◌, ◌<◌, ◌≤◌, pos, List, [], ◌∷◌, ◌++◌}
use Rattle.std.proofs.Common.{Some, None, refl, subst, arith}
use Rattle.std.specs.List.{All}
use Rattle.std.proofs.Math.Nat.{div-lt_iff_lt-mul, le-div_iff_mul-le}
use Rattle.sq_num.specs.declared.Elem.TheVariants.{Long}
use Rattle.sq_num.specs.Elements.{IsValue}
use Rattle.sq_text.specs.declared.spread.SpreadRule.{SpreadRule}
use Rattle.sq_text.specs.declared.spread.SpreadRule.TheVariants.{Cyclic}
use Rattle.sq_ir.specs.Lifting.{lift}
use Rattle.sq_ir.specs.Written.{Setting, Env, value_of, at_turn, node_of, inside_of}
use Rattle.sq_ir.specs.Plans.{IsBuffer, IsChild, AskedOfActions, this_arm, Meets}
use Rattle.sq_ir.specs.declared.num.Num.{Num}
use Rattle.sq_ir.specs.declared.num.Num.TheVariants as n
use Rattle.sq_ir.specs.declared.term.Term.{Term}
use Rattle.sq_ir.specs.declared.term.Term.TheVariants as term
use Rattle.sq_term.specs.declared.context.Context.{Context}
use Rattle.sq_term.specs.declared.context.Lane.{Lane}
use Rattle.sq_term.specs.Terms.{lift_context, lift_lane, whole_lane, lane_at, iteration, at_iteration, by_set}
use Rattle.sq_term.specs.Terms.{where_some, at_position, turn_term, lane_term, each_child, lanes_term}
use Rattle.sq_term.proofs.Numbers.{one_at_most, const_is, index_is, add_is, some_is, div_is, rem_is, children_is}
use Rattle.sq_term_laws.specs.Fits.{Bounds, AreBounds}
use Rattle.sq_term_laws.specs.Roomy.{IsCounted}
use Rattle.sq_term_laws.proofs.Fine.{less_fits, const_has, add_has, div_has, rem_has, turn_has, children_has, fine_skip}
use Rattle.sq_term_laws.proofs.Fine.{fine_seq, fine_par, fine_loop, fine_spread, fine_case, fine_within}
use Rattle.sq_term_laws.proofs.LaneNumbers.{one_fits_long, two_fits_long, min_has, const_counted}
use Rattle.sq_term_laws.proofs.LaneNumbers.{index_counted, add_counted, sub_counted, lift_counted, IsLane, lift_lane_is}
use Rattle.sq_term_laws.proofs.LaneNumbers.{whole_lane_is, iteration_is, has_lane}

-- its value at the node in force
pub value_here : (s : Setting) (env : Env) (x : Num) (k : ℕ) → IsCounted s env.turns x k → value_of s x env ≡ pos k
value_here s env x k h = h.number.value env.level env.nodes

module _ (s : Setting) (asked : AskedOfActions) where
  -- one of the two sets
  pub set_meets : (env : Env) (bs : List ℕ) (p : Num) (k : ℕ) → IsCounted s env.turns p k → (f : ℕ → Term)
      → ((set : ℕ) → Meets s asked (f set) env bs) → Meets s asked (by_set p f) env bs
  set_meets env bs p k h f each =
      let two = const_is s env (pos 2) in
      fine_case s asked env bs (n.Rem p (n.Const (pos 2))) (k % 2) (f 0 ∷ f 1 ∷ [])
      (rem_is s env p (n.Const (pos 2)) k 2 (value_here s env p k h) two)
      (rem_has s env p (n.Const (pos 2)) 2 two (h.has.has env.level env.nodes)
      (const_has s env (pos 2) two_fits_long) (omega arith)) (arm (k % 2))
    where
      arm : (j : ℕ) → this_arm (Meets s asked) (f 0 ∷ f 1 ∷ []) (pos j) env bs
      arm zero = each 0
      arm (suc zero) = each 1
      arm (suc (suc j)) = tt

  -- only where there is something
  pub some_meets : (env : Env) (bs : List ℕ) (x : Num) (k : ℕ) → IsCounted s env.turns x k → (t : Term)
      → (0 < k → Meets s asked t env bs) → Meets s asked (where_some x t) env bs
  some_meets env bs x k h t each =
      let v = value_here s env x k h in
      let has = h.has.has env.level env.nodes in
      fine_case s asked env bs (n.Min x (n.Const (pos 1))) (one_at_most k) (term.Skip ∷ t ∷ []) (some_is s env x k v)
      (min_has s env x has) (arm k each)
    where
      arm : (j : ℕ) → (0 < j → Meets s asked t env bs)
          → this_arm (Meets s asked) (term.Skip ∷ t ∷ []) (pos (one_at_most j)) env bs
      arm zero f = fine_skip s asked env bs
      arm (suc j) f = f (omega arith)

  -- at each child of the node in force
  pub child_meets : (env : Env) (bs : List ℕ) (x : Term) → 1 ≤ s.children (node_of env)
      → IsValue Long (pos (s.children (node_of env) + 1))
      → ((c : ℕ) → c < s.children (node_of env)
      → Meets s asked x (at_turn (at_turn env (s.children (node_of env))) c) bs) → Meets s asked (each_child x) env bs
  child_meets env bs x some fits each =
      fine_loop s asked env bs (n.Add n.Children (n.Const (pos 1))) (kids + 1) _
      (add_is s env n.Children (n.Const (pos 1)) kids 1 (children_is s env) (const_is s env (pos 1)))
      (add_has s env n.Children (n.Const (pos 1)) kids 1 (children_is s env) (const_is s env (pos 1))
      (children_has s env few) (const_has s env (pos 1) one_fits_long) fits) turn
    where
      kids : ℕ
      kids = s.children (node_of env)

      few : IsValue Long (pos kids)
      few = less_fits kids (kids + 1) (omega arith) fits

      last : Meets s asked (term.Spread (n.Index 0) Cyclic x) (at_turn env kids) bs
      last = fine_spread s asked (at_turn env kids) bs (n.Index 0) kids Cyclic x (index_is s (at_turn env kids) 0)
          (turn_has s env kids few) some each

      arm : (j t : ℕ) → t < kids + 1 → t / kids ≡ j
          → this_arm (Meets s asked) (term.Skip ∷ term.Spread (n.Index 0) Cyclic x ∷ []) (pos j) (at_turn env t) bs
      arm zero t l e = fine_skip s asked (at_turn env t) bs
      arm (suc zero) t l e =
          let g = (le-div_iff_mul-le {x = 1} {y = t} (let z : 0 < kids = omega (arith, some) in z)).0
          (omega (arith, e)) in
          let is : kids ≡ t = omega (arith, g, l) in
          subst (λ (z : ℕ). Meets s asked (term.Spread (n.Index 0) Cyclic x) (at_turn env z) bs) is last
      arm (suc (suc j)) t l e = tt

      below : (t : ℕ) → t < kids + 1 → t / kids < 2
      below t l = (div-lt_iff_lt-mul {x = t} {y = 2} (let z : 0 < kids = omega (arith, some) in z)).1
          (omega (arith, l, some))

      turn : (t : ℕ) → t < kids + 1
          → Meets s asked (term.Case (n.Div (n.Index 0) n.Children)
          (term.Skip ∷ term.Spread (n.Index 0) Cyclic x ∷ [])) (at_turn env t) bs
      turn t l =
          let here = at_turn env t in
          let b = below t l in
          fine_case s asked here bs (n.Div (n.Index 0) n.Children) (t / kids) _
          (div_is s here (n.Index 0) n.Children t kids (index_is s here 0) (children_is s here))
          (div_has s here (n.Index 0) n.Children t kids (index_is s here 0) (children_is s here)
          (turn_has s env t (less_fits t (kids + 1) (omega (arith, l)) fits)) (children_has s here few) some
          (less_fits (t / kids) 2 (omega (arith, b)) two_fits_long)) (arm (t / kids) t l refl)

  -- ---- lanes: count iterations in all, in environments of one kind and contexts of another

  module _ (count : ℕ) (fits : IsValue Long (pos count)) (starts : List ℕ) (At : Env → Type 0)
      (turned : (env : Env) (t : ℕ) → At env → At (at_turn env t)) (Sees : List ℕ → Context → Type 0)
      (lifts : (turns : List ℕ) (t : ℕ) (c : Context) → Sees turns c → Sees (t ∷ turns) (lift_context c)) where
    -- in each set and at each iteration
    abbrev pub Part : (ℕ → Context → Term) → Type 0
    Part f = (set t : ℕ) → t < count → (env : Env) (bs : List ℕ) → At env → (c : Context) → Sees env.turns c
        → (x : Num) → IsCounted s env.turns x t → Meets s asked (f set (at_iteration starts x c)) env bs

    module _ (come work leave : ℕ → Context → Term) (comes : Part come) (works : Part work) (leaves : Part leave)
      where
        module _ (l : Lane) (first step many : ℕ) where
          at_meets : (f : ℕ → Context → Term) → Part f → (env : Env) (bs : List ℕ) → At env → (m : Lane)
              → IsLane s env.turns m count first step many → (c : Context) → Sees env.turns c → (p : Num) (k : ℕ)
              → IsCounted s env.turns p k → k < many → Meets s asked (at_position starts m c p f) env bs
          at_meets f part env bs at m lane c sees p k h lt =
              set_meets env bs p k h (λ set. f set (at_iteration starts (iteration m p) c))
              (λ set. part set (first + step * k) (lane.inside k lt) env bs at c sees (iteration m p)
              (iteration_is s env.turns m count first step many lane fits p k h lt))

          -- one work, beside the transfers of the other set
          turn_meets : (env : Env) (bs : List ℕ) → At env → IsLane s env.turns l count first step many → (c : Context)
              → Sees env.turns c → (t : ℕ) → t < many
              → Meets s asked (turn_term starts (lift_lane l) (lift_context c) come work leave) (at_turn env t) bs
          turn_meets env bs at lane c sees t lt =
              fine_par s asked here bs _ (
                at_meets work works here bs there m its d seen (n.Index 0) t index lt,
                (
                  fine_seq s asked here bs _ (
                    some_meets here bs (n.Index 0) t index _ (λ some.
                        at_meets leave leaves here bs there m its d seen (n.Sub (n.Index 0) (n.Const (pos 1))) (t - 1)
                        (sub_counted s here.turns (n.Index 0) (n.Const (pos 1)) t 1 (t - 1) (omega (arith, some)) index
                        one (less_fits t many (omega (arith, lt)) lane.fits)) (omega (arith, lt))),
                    (
                      some_meets here bs (n.Sub (n.Sub m.many (n.Const (pos 1))) (n.Index 0)) (many - 1 - t)
                          (sub_counted s here.turns (n.Sub m.many (n.Const (pos 1))) (n.Index 0) (many - 1) t
                          (many - 1 - t) (omega (arith, lt))
                          (sub_counted s here.turns m.many (n.Const (pos 1)) many 1 (many - 1) (omega (arith, lt))
                          its.many_is one lane.fits) index (less_fits (many - 1) many (omega arith) lane.fits)) _
                          (λ some.
                          at_meets come comes here bs there m its d seen (n.Add (n.Index 0) (n.Const (pos 1))) (t + 1)
                          (add_counted s here.turns (n.Index 0) (n.Const (pos 1)) t 1 index one
                          (less_fits (t + 1) many (omega (arith, lt)) lane.fits)) (omega (arith, some))),
                      tt,
                    ),
                  ),
                  tt,
                ),
              )
            where
              here : Env
              here = at_turn env t

              m : Lane
              m = lift_lane l

              d : Context
              d = lift_context c

              there : At here
              there = turned env t at

              its : IsLane s here.turns m count first step many
              its = lift_lane_is s env.turns l count first step many t lane

              seen : Sees here.turns d
              seen = lifts env.turns t c sees

              index : IsCounted s here.turns (n.Index 0) t
              index = index_counted s here.turns 0 (omega arith) (less_fits t many (omega (arith, lt)) lane.fits)

              one : IsCounted s here.turns (n.Const (pos 1)) 1
              one = const_counted s here.turns 1 one_fits_long

          lane_meets : (env : Env) (bs : List ℕ) → At env → IsLane s env.turns l count first step many → (c : Context)
              → Sees env.turns c → Meets s asked (lane_term starts l c come work leave) env bs
          lane_meets env bs at lane c sees =
              some_meets env bs l.many many lane.many_is _ (λ some. fine_seq s asked env bs _ (
                comes 0 first (let i = lane.inside 0 some in omega (arith, i)) env bs at c sees l.first lane.first_is,
                (
                  fine_loop s asked env bs l.many many _ (value_here s env l.many many lane.many_is)
                      (lane.many_is.has.has env.level env.nodes) (λ t lt. turn_meets env bs at lane c sees t lt),
                  (
                    at_meets leave leaves env bs at l lane c sees (n.Sub l.many (n.Const (pos 1))) (many - 1)
                        (sub_counted s env.turns l.many (n.Const (pos 1)) many 1 (many - 1) (omega (arith, some))
                        lane.many_is (const_counted s env.turns 1 one_fits_long) lane.fits) (omega (arith, some)),
                    tt,
                  ),
                ),
              ))

        -- at the child of the context
        pub whole_meets : (env : Env) (bs new : List ℕ) (c : Context) (x : Num) → IsChild s env c.child
            → All (IsBuffer s (inside_of s env c.child).level) new → At (inside_of s env c.child)
            → Sees (inside_of s env c.child).turns c → IsCounted s (inside_of s env c.child).turns x count
            → Meets s asked (lanes_term None x starts new c come work leave) env bs
        whole_meets env bs new c x child there at sees h =
            fine_within s asked env bs c.child new _ child there
            (lane_meets (whole_lane x) 0 1 count (inside_of s env c.child) (new ++ bs) at
            (whole_lane_is s (inside_of s env c.child).turns x count h fits) c sees)

        -- at each child
        pub spread_meets : (most : Bounds) → AreBounds most → count ≤ most.uses → (rule : SpreadRule) (env : Env)
            (bs new : List ℕ) (c : Context) (x : Num) → 1 ≤ s.children (node_of env)
            → s.children (node_of env) ≤ most.children
            → ((k : ℕ) → k < s.children (node_of env) → (in_env : Env)
            → in_env ≡ at_turn (at_turn env (s.children (node_of env))) k
            → IsChild s in_env (Some (n.Index 0)) × All (IsBuffer s (inside_of s in_env (Some (n.Index 0))).level) new
            × At (inside_of s in_env (Some (n.Index 0)))) → Sees env.turns c → IsCounted s env.turns x count
            → Meets s asked (lanes_term (Some rule) x starts new c come work leave) env bs
        spread_meets most bounds few rule env bs new c x some kids inside sees h =
            child_meets env bs _ some (less_fits (f + 1) (suc most.uses * suc most.children) wide bounds.fits) child
          where
            f : ℕ
            f = s.children (node_of env)

            wide : f + 1 ≤ suc most.uses * suc most.children
            wide = let e : suc most.uses * suc most.children ≡ most.uses * suc most.children + most.children + 1
                = omega arith in omega (arith, e, kids)

            y : Num
            y = lift 1 (lift 1 x)

            d : Context
            d = lift_context (lift_context c)

            child : (k : ℕ) → k < f
                → Meets s asked (term.Within (Some (n.Index 0)) new
                (lane_term starts (lane_at rule y (n.Index 1) (n.Index 0)) d come work leave))
                (at_turn (at_turn env f) k) bs
            child k lt =
                let in_env = at_turn (at_turn env f) k in
                let at = inside k lt in_env refl in
                let turns = k ∷ f ∷ env.turns in
                let kids_fit = less_fits f (suc most.uses * suc most.children) (let w = wide in omega (arith, w))
                bounds.fits in
                let lane = has_lane most bounds count f k few kids lt s turns y (n.Index 1) (n.Index 0)
                (lift_counted s (f ∷ env.turns) (lift 1 x) count k (lift_counted s env.turns x count f h))
                (index_counted s turns 1 (omega arith) kids_fit)
                (index_counted s turns 0 (omega arith) (less_fits k f (omega (arith, lt)) kids_fit)) rule in
                fine_within s asked in_env bs (Some (n.Index 0)) new _ at.0 at.1
                (lane_meets (lane_at rule y (n.Index 1) (n.Index 0)) lane.first lane.step lane.many
                (inside_of s in_env (Some (n.Index 0))) (new ++ bs) at.2 lane.is d
                (lifts (f ∷ env.turns) k (lift_context c) (lifts env.turns f c sees)))
