-- What a form's flags note of its calls are the forms and children at which the calls that its tables begin run, one by
-- one.
use Rattle.std.proofs.Common.{◌≡◌, ℕ, zero, suc, ◌+◌, ◌<◌, ◌≤◌, Bool, true, false, ◌||◌, List, [], ◌∷◌, ◌++◌, map}
use Rattle.std.proofs.Common.{get_or, slice_get, Option, Some, None, refl, sym, ap, ap₂, subst, ◌∙◌, arith}
use Rattle.std.specs.Prelude.{is_some}
use Rattle.std.specs.List.{flat_map, range_with_len}
use Rattle.sq_text.specs.declared.place.Place.{Place}
use Rattle.sq_text.specs.declared.spread.SpreadRule.{SpreadRule}
use Rattle.sq_spec.specs.declared.statement.LoopKind.{LoopKind}
use Rattle.sq_spec.specs.declared.statement.CallInstance.{CallInstance}
use Rattle.sq_spec.specs.declared.statement.Statement.{Statement, roll-Statement}
use Rattle.sq_spec.specs.declared.statement.Statement.TheVariants as b
use Rattle.sq_spec.specs.declared.statement.Statement.TheOpen.{Statement-F}
use Rattle.sq_spec.specs.declared.statement.Statement.TheFolds.{fold-roll-Statement, ind-Statement, map-Statement}
use Rattle.sq_spec.specs.declared.body.Body.{Body}
use Rattle.sq_spec.specs.declared.body.Body.TheVariants as body
use Rattle.sq_spec.specs.Spreads.{any_of, is_spread}
use Rattle.sq_spec_laws.specs.Needs.{Turn, turn_in}
use Rattle.sq_pass_laws.specs.Term.Stands.{Each, none, more}
use Rattle.sq_plan_good.specs.Homes.Begun as tables
use Rattle.sq_plan_good.specs.Homes.Begun.{Begun, BegunPart, calls_in, row_begun, begun, begun_step, calls_of, child_in}
use Rattle.sq_pass_laws.specs.Pipe.Runs.{Landing, all_lands, row_lands, turns_land, turn_lands, landing_step, landing, body_lands}
use Rattle.sq_plan_good.proofs.Terms.{begun_call, begun_map}
use Rattle.sq_overlap_laws.proofs.Made.{IsIteration}

-- ---- what is known of a call

-- The form that the call reaches, and the child at which it runs.
pub record Goes (rule : SpreadRule) (children : ℕ) (p : ℕ × ℕ) (d : Begun) : Type 0 where
  pub form : p.0 ≡ d.row.form
  pub child : p.1 ≡ child_in rule children d.turn
  pub turn : IsIteration d.turn

pub joined : {A B : Type 0} (R : A → B → Type 0) {xs us : List A} {ys vs : List B} → Each R xs ys → Each R us vs
    → Each R (xs ++ us) (ys ++ vs)
joined R none f = f
joined R (more h rest) f = more h (joined R rest f)

module _ (rule : SpreadRule) (children : ℕ) where
  abbrev Match : List (ℕ × ℕ) → List Begun → Type 0
  Match = Each (Goes rule children)

  -- iterations in turn
  all_turns : (f : ℕ → List (ℕ × ℕ)) (g : ℕ → List Begun) (count : ℕ)
      → ((t : ℕ) → t < count → Match (f t) (g t)) → (n t : ℕ) → t + n ≤ count
      → Match (turns_land f n t) (flat_map g (range_with_len t n))
  all_turns f g count h zero t most = none
  all_turns f g count h (suc n) t most =
      joined (Goes rule children) (h t (omega (arith, most))) (all_turns f g count h n (t + 1) (omega (arith, most)))

  -- ---- statements

  abbrev landed : Statement → Landing
  landed = landing rule children

  landed_call : (lower : Bool) (times : List CallInstance) → landed (b.Call lower times)
      ≡ landing_step rule children (Statement-F.Call lower times)
  landed_call lower times = ap landed (sym (b.rolls-Call lower times))
      ∙ fold-roll-Statement Landing (landing_step rule children) (Statement-F.Call lower times)

  landed_map : (place : Place) (m : LoopKind) (counts starts : List ℕ) (ys : List Statement)
      → landed (b.Map place m counts starts ys)
      ≡ landing_step rule children (Statement-F.Map place m counts starts (map landed ys))
  landed_map place m counts starts ys = ap landed (sym (b.rolls-Map place m counts starts ys))
      ∙ fold-roll-Statement Landing (landing_step rule children) (Statement-F.Map place m counts starts ys)

  record Agrees (y : Statement) : Type 0 where
    lower : (landed y).lower ≡ (begun y).lower
    same : (landed y).same ≡ (begun y).same
    each : (turn : Option Turn) (k : ℕ) → IsIteration turn
        → Match ((landed y).lands (is_some turn) (child_in rule children turn) k) ((begun y).calls turn k)

  abbrev Known : Type 0
  Known = (y : Statement) × Agrees y

  abbrev list_of : List Known → List Statement
  list_of = map (λ (q : Known). q.0)

  lowers : (ys : List Known) → any_of (map (λ (p : Landing). p.lower) (map landed (list_of ys)))
      ≡ tables.any_lower (map begun (list_of ys))
  lowers [] = refl
  lowers (y ∷ ys) = ap₂ (λ u v. u || v) y.1.lower (lowers ys)

  sames : (ys : List Known) → any_of (map (λ (p : Landing). p.same) (map landed (list_of ys)))
      ≡ tables.any_same (map begun (list_of ys))
  sames [] = refl
  sames (y ∷ ys) = ap₂ (λ u v. u || v) y.1.same (sames ys)

  all_agree : (ys : List Known) (turn : Option Turn) (k : ℕ) → IsIteration turn
      → Match (all_lands (map landed (list_of ys)) (is_some turn) (child_in rule children turn) k)
      (calls_in (map begun (list_of ys)) turn k)
  all_agree [] turn k is = none
  all_agree (y ∷ ys) turn k is = joined (Goes rule children) (y.1.each turn k is) (all_agree ys turn k is)

  call_agrees : (lower : Bool) (times : List CallInstance) → Agrees (b.Call lower times)
  call_agrees lower times = record {
    lower = ap (λ (p : Landing). p.lower) (landed_call lower times)
        ∙ sym (ap (λ (p : BegunPart). p.lower) (begun_call lower times));
    same = ap (λ (p : Landing). p.same) (landed_call lower times)
        ∙ sym (ap (λ (p : BegunPart). p.same) (begun_call lower times));
    each = λ turn k is.
        subst (λ (p : Landing). Match (p.lands (is_some turn) (child_in rule children turn) k)
        ((begun (b.Call lower times)).calls turn k)) (sym (landed_call lower times))
        (subst (λ (p : BegunPart). Match (row_lands (child_in rule children turn) (slice_get times k))
        (p.calls turn k)) (sym (begun_call lower times)) (by turn is (slice_get times k)));
  }
    where
      by : (turn : Option Turn) → IsIteration turn → (o : Option CallInstance)
          → Match (row_lands (child_in rule children turn) o) (row_begun lower turn o)
      by turn is None = none
      by turn is (Some r) = more (record { form = refl; child = refl; turn = is }) none

  -- an iteration of a map, spread or not
  turn_agrees : (ys : List Known) (v : Bool) (turn : Option Turn) → IsIteration turn → (count start t : ℕ) → t < count
      → Match (turn_lands rule children (map landed (list_of ys)) (is_some turn) v count start
      (child_in rule children turn) t) (calls_in (map begun (list_of ys)) (turn_in v turn count t) (start + t))
  turn_agrees ys true None is count start t less =
      all_agree ys (Some (record { count = count; t = t })) (start + t) less
  turn_agrees ys true (Some u) is count start t less =
      all_agree ys (Some (record { count = count; t = t })) (start + t) less
  turn_agrees ys false None is count start t less = all_agree ys None (start + t) is
  turn_agrees ys false (Some u) is count start t less = all_agree ys (Some u) (start + t) is

  map_agrees : (place : Place) (m : LoopKind) (counts starts : List ℕ) (ys : List Known)
      → Agrees (b.Map place m counts starts (list_of ys))
  map_agrees place m counts starts ys = record {
    lower = ap (λ (p : Landing). p.lower) (landed_map place m counts starts (list_of ys)) ∙ lowers ys
        ∙ sym (ap (λ (p : BegunPart). p.lower) (begun_map place m counts starts (list_of ys)));
    same = ap (λ (p : Landing). p.same) (landed_map place m counts starts (list_of ys)) ∙ sames ys
        ∙ sym (ap (λ (p : BegunPart). p.same) (begun_map place m counts starts (list_of ys)));
    each = λ turn k is.
        subst (λ (p : Landing). Match (p.lands (is_some turn) (child_in rule children turn) k)
        ((begun (b.Map place m counts starts (list_of ys))).calls turn k))
        (sym (landed_map place m counts starts (list_of ys)))
        (subst (λ (p : BegunPart). Match (lands_by turn k (own_spread turn)) (p.calls turn k))
        (sym (begun_map place m counts starts (list_of ys)))
        (subst (λ (v : Bool). Match (lands_by turn k v) (calls_by turn k (its_spread turn)))
        (sym (spread_same turn)) (by turn k is (its_spread turn))));
  }
    where
      own_spread : Option Turn → Bool
      own_spread turn = is_spread m (is_some turn)
          (any_of (map (λ (p : Landing). p.lower) (map landed (list_of ys))))
          (any_of (map (λ (p : Landing). p.same) (map landed (list_of ys))))

      its_spread : Option Turn → Bool
      its_spread turn = is_spread m (is_some turn) (tables.any_lower (map begun (list_of ys)))
          (tables.any_same (map begun (list_of ys)))

      spread_same : (turn : Option Turn) → own_spread turn ≡ its_spread turn
      spread_same turn = ap₂ (is_spread m (is_some turn)) (lowers ys) (sames ys)

      lands_by : Option Turn → ℕ → Bool → List (ℕ × ℕ)
      lands_by turn k v = turns_land (turn_lands rule children (map landed (list_of ys)) (is_some turn) v
          (get_or counts k 0) (get_or starts k 0) (child_in rule children turn)) (get_or counts k 0) 0

      calls_by : Option Turn → ℕ → Bool → List Begun
      calls_by turn k v = flat_map (λ t. calls_in (map begun (list_of ys))
          (turn_in v turn (get_or counts k 0) t) (get_or starts k 0 + t)) (range_with_len 0 (get_or counts k 0))

      by : (turn : Option Turn) (k : ℕ) → IsIteration turn → (v : Bool)
          → Match (lands_by turn k v) (calls_by turn k v)
      by turn k is v =
          all_turns (turn_lands rule children (map landed (list_of ys)) (is_some turn) v (get_or counts k 0)
          (get_or starts k 0) (child_in rule children turn))
          (λ t. calls_in (map begun (list_of ys)) (turn_in v turn (get_or counts k 0) t) (get_or starts k 0 + t))
          (get_or counts k 0) (turn_agrees ys v turn is (get_or counts k 0) (get_or starts k 0)) (get_or counts k 0) 0
          (omega arith)

  agree_step : (y : Statement-F Known) → Agrees (roll-Statement (map-Statement Known Statement (λ p. p.0) y))
  agree_step (Statement-F.Call lower times) = subst Agrees (sym (b.rolls-Call lower times)) (call_agrees lower times)
  agree_step (Statement-F.Map place m counts starts ys)
      = subst Agrees (sym (b.rolls-Map place m counts starts (list_of ys))) (map_agrees place m counts starts ys)

  agrees : (y : Statement) → Agrees y
  agrees = ind-Statement Agrees (λ y z is. subst (λ w. Agrees (roll-Statement w)) is (agree_step z))

  abbrev known : List Statement → List Known
  known [] = []
  known (y ∷ ys) = (y, agrees y) ∷ known ys

  known_are : (ys : List Statement) → list_of (known ys) ≡ ys
  known_are [] = refl
  known_are (y ∷ ys) = ap (λ zs. y ∷ zs) (known_are ys)

  -- the calls of a form
  pub body_goes : (d : Body) → Each (Goes rule children) (body_lands rule children d) (calls_of d)
  body_goes (body.Leaf code) = none
  body_goes (body.Inner list) =
      subst (λ (ys : List Statement). Match (all_lands (map landed ys) false 0 0) (calls_in (map begun ys) None 0))
      (known_are list) (all_agree (known list) None 0 tt)
