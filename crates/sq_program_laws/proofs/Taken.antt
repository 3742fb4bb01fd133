-- The loops whose transfers overlap, by the statements that they are.
use Rattle.std.proofs.Common.{◌≡◌, ℕ, ◌==◌, Bool, true, false, ◌&&◌, List, [], ◌∷◌, map, refl, sym, ap}
use Rattle.std.proofs.Common.{ap₂, ◌∙◌, subst, arith}
use Rattle.std.specs.Prelude.{Option, Some, None, slice_get, if◌then◌else◌}
use Rattle.std.proofs.lemmas.Bool.Decides.{nat_tests}
use Rattle.sq_text.specs.declared.spread.SpreadRule.{SpreadRule}
use Rattle.sq_spec.specs.declared.statement.LoopKind.{LoopKind}
use Rattle.sq_spec.specs.declared.statement.CallInstance.{CallInstance}
use Rattle.sq_spec.specs.declared.statement.Statement.{Statement, roll-Statement}
use Rattle.sq_spec.specs.declared.statement.Statement.TheVariants as b
use Rattle.sq_spec.specs.declared.statement.Statement.TheOpen.{Statement-F}
use Rattle.sq_spec.specs.declared.statement.Statement.TheFolds.{ind-Statement, map-Statement}
use Rattle.sq_spec.specs.declared.body.FormBody.{FormBody}
use Rattle.sq_placed.specs.declared.home.Homes.{Homes}
use Rattle.sq_placed.specs.Placed.{Placed}
use Rattle.sq_placed.specs.Tables.{Chain, chain_of, first_of, row_form, overlapped, lanes_of, Pipe, pipe_by, pipe_of}
use Rattle.sq_placed.specs.Tables.{PlacedPart, chains, statement_placed}
use Rattle.sq_placed.proofs.Opened.{part_call, part_map}
use Rattle.sq_plan_laws.proofs.PlacedLists.{same_some}
use Rattle.sq_program_laws.specs.Held as held
use Rattle.sq_program_laws.specs.Held.{Begun, begun}
use Rattle.sq_program_laws.proofs.Loops.{begun_call, begun_map, Nest, a_call, a_loop}
use Rattle.sq_program_laws.proofs.Loops.{chain}

same_number : (m n : ℕ) → (m == n) ≡ true → m ≡ n
same_number m n e = grind (arith, nat_tests)

-- ---- the call of such a loop

-- what stands in it is a lower call of these rows, of a form whose transfers overlap
pub record IsOverlapped (homes : ℕ → Homes) (o : Option (Chain ℕ)) (rows : List CallInstance) : Type 0 where
  pub call : Chain ℕ
  pub there : o ≡ Some call
  pub alone : call.loops ≡ 0
  pub its : call.instances ≡ rows
  pub overlaps : (homes (row_form (slice_get rows 0))).overlaps ≡ true

pub is_overlapped : (homes : ℕ → Homes) (o : Option (Chain ℕ)) (rows : List CallInstance)
    → overlapped homes o ≡ Some rows → IsOverlapped homes o rows
is_overlapped homes None rows e = cc
is_overlapped homes (Some h) rows e = by (h.loops == 0) (homes (row_form (slice_get h.instances 0))).overlaps refl
    refl e
  where
    by : (u v : Bool) → (h.loops == 0) ≡ u → (homes (row_form (slice_get h.instances 0))).overlaps ≡ v
        → (if u && v then Some h.instances else None) ≡ Some rows → IsOverlapped homes (Some h) rows
    by true true f g e = record {
      call = h;
      there = refl;
      alone = same_number h.loops 0 f;
      its = same_some e;
      overlaps = ap (λ (l : List CallInstance). (homes (row_form (slice_get l 0))).overlaps) (sym (same_some e)) ∙ g;
    }
    by true false f g e = cc
    by false v f g e = cc

pub record IsPipe (homes : ℕ → Homes) (m : LoopKind) (spread : Option SpreadRule) (hs : List (Option (Chain ℕ)))
    (p : Pipe) : Type 0 where
  pub lanes : lanes_of m spread ≡ Some p.spread
  pub first : Option (Chain ℕ)
  pub all : hs ≡ first ∷ []
  pub its : IsOverlapped homes first p.rows

pub is_pipe : (homes : ℕ → Homes) (m : LoopKind) (spread : Option SpreadRule) (hs : List (Option (Chain ℕ))) (p : Pipe)
    → pipe_of homes m spread hs ≡ Some p → IsPipe homes m spread hs p
is_pipe homes m spread [] p e = absurd (none (lanes_of m spread) e)
  where
    none : (l : Option (Option SpreadRule)) → pipe_by l None ≡ Some p → ⊥
    none None e = cc
    none (Some s) e = cc
is_pipe homes m spread (h ∷ g ∷ hs) p e = absurd (none (lanes_of m spread) e)
  where
    none : (l : Option (Option SpreadRule)) → pipe_by l None ≡ Some p → ⊥
    none None e = cc
    none (Some s) e = cc
is_pipe homes m spread (h ∷ []) p e = by (lanes_of m spread) (overlapped homes h) refl refl e
  where
    by : (l : Option (Option SpreadRule)) (o : Option (List CallInstance)) → lanes_of m spread ≡ l
        → overlapped homes h ≡ o → pipe_by l o ≡ Some p → IsPipe homes m spread (h ∷ []) p
    by None o f g e = cc
    by (Some s) None f g e = cc
    by (Some s) (Some rows) f g e =
        let is : record { spread = s; rows = rows } ≡ p = same_some e in
        record {
          lanes = f ∙ ap (λ (q : Pipe). Some q.spread) is;
          first = h;
          all = refl;
          its = is_overlapped homes h p.rows (g ∙ ap (λ (q : Pipe). Some q.rows) is);
        }

-- ---- a call by its chain

-- what is no loop round its call is the call
pub nest_call : (c : Nest) → (chain c).loops ≡ 0 → c ≡ a_call (chain c).instances
nest_call (a_call rows) e = refl
nest_call (a_loop place counts starts c) e = absurd (omega (arith, e))

-- ---- the calls of statements, as they are placed

module _ (bodies : ℕ → FormBody) (homes : ℕ → Homes) (callee : ℕ → Placed) (rule : SpreadRule) where
  abbrev part : Statement → PlacedPart
  part = statement_placed bodies homes callee rule

  abbrev SameChain : Statement → Type 0
  SameChain x = (part x).chain ≡ (begun x).chain

  abbrev Chained : Type 0
  Chained = (x : Statement) × SameChain x

  chains_same : (xs : List Chained)
      → chains (map part (map (λ q. q.0) xs)) ≡ held.chains (map begun (map (λ q. q.0) xs))
  chains_same [] = refl
  chains_same (x ∷ xs) = ap₂ (λ (o : Option (Chain ℕ)) (l : List (Option (Chain ℕ))). o ∷ l) x.1 (chains_same xs)

  chain_step : (y : Statement-F Chained) → SameChain (roll-Statement (map-Statement Chained Statement (λ p. p.0) y))
  chain_step (Statement-F.Call lower times) = subst SameChain (sym (b.rolls-Call lower times))
      (ap (λ (p : PlacedPart). p.chain) (part_call bodies homes callee rule lower times)
      ∙ sym (ap (λ (z : Begun). z.chain) (begun_call lower times)))
  chain_step (Statement-F.Map place m counts starts xs)
      = subst SameChain (sym (b.rolls-Map place m counts starts (map (λ q. q.0) xs)))
      (ap (λ (p : PlacedPart). p.chain) (part_map bodies homes callee rule place m counts starts (map (λ q. q.0) xs))
      ∙ (ap (chain_of first_of m starts) (chains_same xs)
      ∙ sym (ap (λ (z : Begun). z.chain) (begun_map place m counts starts (map (λ q. q.0) xs)))))

  pub chain_same : (x : Statement) → SameChain x
  chain_same = ind-Statement SameChain (λ x y is. subst (λ z. SameChain (roll-Statement z)) is (chain_step y))
