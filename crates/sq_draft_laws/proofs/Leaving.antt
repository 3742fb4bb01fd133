-- Of each call of a form: the loops that its arguments leave stand round it, and where one leaves a loop it has one form.
use Rattle.std.proofs.Common.{◌≡◌, ℕ, zero, suc, ◌<◌, ◌≤◌, Bool, true, false, List, [], ◌∷◌, map, length, get_or}
use Rattle.std.proofs.Common.{slice_get, Some, refl, sym, subst, arith, if◌then◌else◌}
use Rattle.sq_spec.specs.declared.statement.LoopKind.{LoopKind}
use Rattle.sq_spec.specs.declared.statement.LoopKind.TheVariants as loop_kind
use Rattle.sq_spec.specs.declared.statement.CallInstance.{CallInstance}
use Rattle.sq_spec.specs.declared.statement.Statement.{Statement, roll-Statement}
use Rattle.sq_spec.specs.declared.statement.Statement.TheVariants as b
use Rattle.sq_spec.specs.declared.statement.Statement.TheOpen.{Statement-F}
use Rattle.sq_spec.specs.declared.statement.Statement.TheFolds.{ind-Statement, map-Statement}
use Rattle.sq_spec.specs.declared.body.Body.{Body}
use Rattle.sq_spec.specs.declared.body.Body.TheVariants as body
use Rattle.sq_program_laws.specs.TermLaws.Leaves.{Left, HasTurns, RowLeaves, AskedInLoops, each_in, loops_in, Leaves, BodyLeaves}
use Rattle.sq_program_laws.proofs.TermLaws.Chains.{leaves_call, leaves_map}
use Rattle.sq_program_laws.specs.TermLaws.Orders.{EachOf, Round, all_rounds, map_rounds, rounds_in, rounds_of}
use Rattle.sq_draft_laws.proofs.Rounds.{each_of, each_both, rounds_call, rounds_map}

-- of a row of a call
pub record RowIsIn (left : Left) (q : Round) (r : CallInstance) : Type 0 where
  pub round : (i : ℕ) → left r.form i ≤ q.loops
  pub one : (i : ℕ) → 0 < left r.form i → (k : ℕ) (x : CallInstance) → slice_get q.rows k ≡ Some x → x.form ≡ r.form

module _ (left : Left) where
  abbrev pub RoundIsIn : Round → Type 0
  RoundIsIn q = EachOf (RowIsIn left q) q.rows

  no_turns : (j : ℕ) → HasTurns (get_or [] j []) → ⊥
  no_turns j h = let s = h.some in omega (arith, s)

  -- a loop with iterations is there
  within : (outer : List (List ℕ)) (n : ℕ) → ((j : ℕ) → j < n → HasTurns (get_or outer j [])) → n ≤ length outer
  within outer zero h = omega arith
  within [] (suc n) h = absurd (no_turns 0 (h 0 (omega arith)))
  within (x ∷ outer) (suc n) h =
      let l = within outer n (λ j m. h (suc j) (omega (arith, m))) in omega (arith, l)

  call_in : (loops : ℕ) (outer : List (List ℕ)) (times : List CallInstance) → length outer ≡ loops
      → ((k : ℕ) (r : CallInstance) → slice_get times k ≡ Some r → RowLeaves left outer times r)
      → RoundIsIn (record { loops = loops; rows = times })
  call_in loops outer times long h =
      each_of (RowIsIn left (record { loops = loops; rows = times })) times (λ k r e.
      let its = h k r e in
      record {
        round = λ i. let l = within outer (left r.form i) (its.turns i) in omega (arith, l, long);
        one = its.one;
      })

  abbrev IsIn : Statement → Type 0
  IsIn x = (outer : List (List ℕ)) → Leaves left x outer → EachOf RoundIsIn (rounds_in x (length outer))

  abbrev Known : Type 0
  Known = (x : Statement) × IsIn x

  abbrev these : List Known → List Statement
  these = map (λ (q : Known). q.0)

  all_in : (xs : List Known) → each_in (Leaves left) (these xs) []
      → EachOf RoundIsIn (all_rounds (map rounds_in (these xs)))
  all_in [] h = tt
  all_in (x ∷ xs) h = each_both RoundIsIn (rounds_in x.0 0) (all_rounds (map rounds_in (these xs))) (x.1 [] h.0)
      (all_in xs h.1)

  map_in : (m : LoopKind) (counts : List ℕ) (xs : List Known) (outer : List (List ℕ))
      → each_in (Leaves left) (these xs) (loops_in m (these xs) counts outer)
      → EachOf RoundIsIn (map_rounds m (map rounds_in (these xs)) (length outer))
  map_in loop_kind.Sequential counts [] outer h = tt
  map_in loop_kind.Sequential counts (x ∷ []) outer h = x.1 (counts ∷ outer) h.0
  map_in loop_kind.Sequential counts (x ∷ y ∷ xs) outer h = all_in (x ∷ y ∷ xs) h
  map_in loop_kind.Parallel counts xs outer h = all_in xs h
  map_in (loop_kind.Reduction r) counts xs outer h = all_in xs h

  lower_in : (lower : Bool) (times : List CallInstance) (outer : List (List ℕ))
      → ((k : ℕ) (r : CallInstance) → slice_get times k ≡ Some r
      → RowLeaves left (if lower then outer else []) times r)
      → RoundIsIn (record { loops = if lower then length outer else 0; rows = times })
  lower_in true times outer h = call_in (length outer) outer times refl h
  lower_in false times outer h = call_in 0 [] times refl h

  in_step : (y : Statement-F Known) → IsIn (roll-Statement (map-Statement Known Statement (λ q. q.0) y))
  in_step (Statement-F.Call lower times) = subst IsIn (sym (b.rolls-Call lower times)) (λ outer h.
      subst (λ (f : ℕ → List Round). EachOf RoundIsIn (f (length outer))) (sym (rounds_call lower times)) (
        lower_in lower times outer (subst (λ (f : AskedInLoops). f outer) (leaves_call left lower times) h),
        tt,
      ))
  in_step (Statement-F.Map place m counts starts xs) =
      subst IsIn (sym (b.rolls-Map place m counts starts (these xs))) (λ outer h.
      subst (λ (f : ℕ → List Round). EachOf RoundIsIn (f (length outer)))
      (sym (rounds_map place m counts starts (these xs)))
      (map_in m counts xs outer
      (subst (λ (f : AskedInLoops). f outer) (leaves_map left place m counts starts (these xs)) h)))

  is_in : (x : Statement) → IsIn x
  is_in = ind-Statement IsIn (λ x y is. subst (λ z. IsIn (roll-Statement z)) is (in_step y))

  list_in : (list : List Statement) → each_in (Leaves left) list [] → EachOf RoundIsIn (all_rounds (map rounds_in list))
  list_in [] h = tt
  list_in (x ∷ list) h = each_both RoundIsIn (rounds_in x 0) (all_rounds (map rounds_in list)) (is_in x [] h.0)
      (list_in list h.1)

  pub rounds_are_in : (x : Body) → BodyLeaves left x → EachOf RoundIsIn (rounds_of x)
  rounds_are_in (body.Leaf code) h = tt
  rounds_are_in (body.Inner list) h = list_in list h
