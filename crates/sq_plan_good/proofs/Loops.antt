-- Statements that are a lower call in so many plain loops, which arguments may leave, and the others.
use Rattle.std.proofs.Common.{◌≡◌, ℕ, suc, ◌+◌, ◌⊎◌, inl, inr, Bool, true, false, List, [], ◌∷◌, ◌++◌, map}
use Rattle.std.proofs.Common.{get_or, slice_get, Option, Some, None, refl, sym, ap, subst, ◌∙◌, arith}
use Rattle.sq_text.specs.declared.place.Place.{Place}
use Rattle.sq_text.specs.declared.spread.SpreadRule.{SpreadRule}
use Rattle.sq_ir.specs.declared.num.Num.{Num}
use Rattle.sq_ir.specs.declared.term.Term.{Term}
use Rattle.sq_spec.specs.declared.statement.LoopKind.{LoopKind}
use Rattle.sq_spec.specs.declared.statement.LoopKind.TheVariants as loop_kind
use Rattle.sq_spec.specs.declared.statement.CallInstance.{CallInstance}
use Rattle.sq_spec.specs.declared.statement.Statement.{Statement, roll-Statement}
use Rattle.sq_spec.specs.declared.statement.Statement.TheVariants as b
use Rattle.sq_spec.specs.declared.statement.Statement.TheOpen.{Statement-F}
use Rattle.sq_spec.specs.declared.statement.Statement.TheFolds.{ind-Statement, map-Statement}
use Rattle.sq_spec.specs.declared.body.FormBody.{FormBody}
use Rattle.sq_placed.specs.declared.home.Homes.{Homes}
use Rattle.sq_placed.specs.Tables.{Chain, one_more}
use Rattle.sq_term.specs.declared.context.Context.{Context}
use Rattle.sq_term.specs.Terms.{TermPart, first_num, statement_term}
use Rattle.sq_term.proofs.Opened.{built_call, built_map}
use Rattle.sq_draft_laws.specs.TermLaws.Leaves.{Left, RowLeaves, AskedInLoops, Leaves, by_call}
use Rattle.sq_draft_laws.proofs.TermLaws.Chains.{leaves_call, leaves_map, by_call_call, by_call_map}

-- A lower call with these rows in n plain loops, whose counts are the first n of all, the innermost loop's first.
pub data InLoops (times : List CallInstance) (all : List (List ℕ)) : ℕ → Statement → Type 0 where
  call : InLoops times all 0 (b.Call true times)
  loop : (place : Place) (counts starts : List ℕ) {n : ℕ} {y : Statement} → get_or all n [] ≡ counts
      → InLoops times all n y → InLoops times all (suc n) (b.Map place loop_kind.Sequential counts starts (y ∷ []))

pub rows_by : {times : List CallInstance} {all : List (List ℕ)} {n : ℕ} {y : Statement} → InLoops times all n y
    → by_call y ≡ times ∷ []
rows_by {times = times} call = by_call_call true times
rows_by (loop place counts starts {y = y} e h) =
    by_call_map place loop_kind.Sequential counts starts (y ∷ [])
    ∙ ap (λ (l : List (List CallInstance)). l ++ []) (rows_by h)

-- such a statement in the loops with these counts, with what is asked of its rows
pub record IsLooped (left : Left) (y : Statement) (outer : List (List ℕ)) : Type 0 where
  pub times : List CallInstance
  pub all : List (List ℕ)
  pub loops : ℕ
  pub is : InLoops times all loops y
  pub behind : (j : ℕ) → get_or all (loops + j) [] ≡ get_or outer j []
  pub rows : Leaves left y outer → (k : ℕ) (r : CallInstance) → slice_get times k ≡ Some r
      → RowLeaves left all times r

module _ (left : Left) (bodies : ℕ → FormBody) (homes : ℕ → Homes) (made : ℕ → Context → Term) (rule : SpreadRule) where
  abbrev built : Statement → TermPart
  built = statement_term bodies homes made rule

  pub record IsChain (o : Option (Chain Num)) (n : ℕ) (times : List CallInstance) : Type 0 where
    pub chain : Chain Num
    pub is : o ≡ Some chain
    pub loops : chain.loops ≡ n
    pub rows : chain.instances ≡ times

  pub chain_is : {times : List CallInstance} {all : List (List ℕ)} {n : ℕ} {y : Statement} → InLoops times all n y
      → IsChain (built y).chain n times
  chain_is {times = times} call = record {
    chain = record { loops = 0; instances = times; first = λ x. x };
    is = ap (λ (p : TermPart). p.chain) (built_call bodies homes made rule true times);
    loops = refl;
    rows = refl;
  }
  chain_is (loop place counts starts {y = y} e h) =
      let u = chain_is h in
      record {
        chain = record {
          loops = suc u.chain.loops;
          instances = u.chain.instances;
          first = λ x. u.chain.first (first_num starts x);
        };
        is = ap (λ (p : TermPart). p.chain)
            (built_map bodies homes made rule place loop_kind.Sequential counts starts (y ∷ []))
            ∙ ap (one_more first_num starts) u.is;
        loops = ap suc u.loops;
        rows = u.rows;
      }

  -- no argument leaves the statement, or it is a call in loops, whatever stands round it
  abbrev pub Shape : Statement → Type 0
  Shape y = ((built y).chain ≡ None) ⊎ ((outer : List (List ℕ)) → IsLooped left y outer)

  abbrev Known : Type 0
  Known = (y : Statement) × Shape y

  abbrev these : List Known → List Statement
  these = map (λ (q : Known). q.0)

  call_shape : (lower : Bool) (times : List CallInstance) → Shape (b.Call lower times)
  call_shape false times = inl (ap (λ (p : TermPart). p.chain) (built_call bodies homes made rule false times))
  call_shape true times = inr (λ outer. record {
    times = times;
    all = outer;
    loops = 0;
    is = call;
    behind = λ j. let z : 0 + j ≡ j = omega arith in ap (λ (i : ℕ). get_or outer i []) z;
    rows = λ l. subst (λ (f : AskedInLoops). f outer) (leaves_call left true times) l;
  })

  loop_shape : (place : Place) (counts starts : List ℕ) (y : Statement) → Shape y
      → Shape (b.Map place loop_kind.Sequential counts starts (y ∷ []))
  loop_shape place counts starts y (inl e) = inl
      (ap (λ (p : TermPart). p.chain)
      (built_map bodies homes made rule place loop_kind.Sequential counts starts (y ∷ []))
      ∙ ap (one_more first_num starts) e)
  loop_shape place counts starts y (inr f) = inr (λ outer.
      let u = f (counts ∷ outer) in
      let n = u.loops in
      let z : n ≡ n + 0 = omega arith in
      record {
        times = u.times;
        all = u.all;
        loops = suc n;
        is = loop place counts starts (ap (λ (i : ℕ). get_or u.all i []) z ∙ u.behind 0) u.is;
        behind = λ j. let next : suc n + j ≡ n + suc j = omega arith in
            ap (λ (i : ℕ). get_or u.all i []) next ∙ u.behind (suc j);
        rows = λ l. u.rows (subst (λ (g : AskedInLoops). g outer)
            (leaves_map left place loop_kind.Sequential counts starts (y ∷ [])) l).0;
      })

  map_shape : (place : Place) (m : LoopKind) (counts starts : List ℕ) (ys : List Known)
      → Shape (b.Map place m counts starts (these ys))
  map_shape place loop_kind.Sequential counts starts [] = inl
      (ap (λ (p : TermPart). p.chain) (built_map bodies homes made rule place loop_kind.Sequential counts starts []))
  map_shape place loop_kind.Sequential counts starts (y ∷ []) = loop_shape place counts starts y.0 y.1
  map_shape place loop_kind.Sequential counts starts (y ∷ z ∷ ys) = inl
      (ap (λ (p : TermPart). p.chain)
      (built_map bodies homes made rule place loop_kind.Sequential counts starts (these (y ∷ z ∷ ys))))
  map_shape place loop_kind.Parallel counts starts ys = inl
      (ap (λ (p : TermPart). p.chain)
      (built_map bodies homes made rule place loop_kind.Parallel counts starts (these ys)))
  map_shape place (loop_kind.Reduction r) counts starts ys = inl
      (ap (λ (p : TermPart). p.chain)
      (built_map bodies homes made rule place (loop_kind.Reduction r) counts starts (these ys)))

  shape_step : (y : Statement-F Known) → Shape (roll-Statement (map-Statement Known Statement (λ q. q.0) y))
  shape_step (Statement-F.Call lower times) = subst Shape (sym (b.rolls-Call lower times)) (call_shape lower times)
  shape_step (Statement-F.Map place m counts starts ys) =
      subst Shape (sym (b.rolls-Map place m counts starts (these ys))) (map_shape place m counts starts ys)

  pub shape_of : (y : Statement) → Shape y
  shape_of = ind-Statement Shape (λ y z is. subst (λ w. Shape (roll-Statement w)) is (shape_step z))
