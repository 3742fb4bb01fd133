-- Loops whose transfers overlap: what is known of the one call in them.
use Rattle.std.proofs.Common.{◌≡◌, ℕ, true, false, List, [], ◌∷◌, map, Option, Some, None, ap, subst, ◌∙◌}
use Rattle.sq_text.specs.declared.spread.SpreadRule.{SpreadRule}
use Rattle.sq_ir.specs.declared.term.Term.{Term}
use Rattle.sq_spec.specs.declared.statement.LoopKind.{LoopKind}
use Rattle.sq_spec.specs.declared.statement.LoopKind.TheVariants as loop_kind
use Rattle.sq_spec.specs.declared.statement.Statement.{Statement}
use Rattle.sq_spec.specs.declared.statement.Statement.TheVariants as b
use Rattle.sq_spec.specs.declared.body.FormBody.{FormBody}
use Rattle.sq_placed.specs.declared.home.Homes.{Homes}
use Rattle.sq_placed.specs.Tables.{lanes_of, Pipe, pipe_of}
use Rattle.sq_placed.specs.Pipes.{loop_round, call_loops, IsPiped, LoopsStand}
use Rattle.sq_placed.proofs.Pipes.{taken, piped, loop_of}
use Rattle.sq_term.specs.declared.context.Context.{Context}
use Rattle.sq_term.specs.Terms.{TermPart, any_lower, any_same, chains, statement_term}
use Rattle.sq_term.specs.Stands.{all_calls, calls_in, calls_in_rows, AreLevel}
use Rattle.sq_term.proofs.Opened.{built_call, calls_call}
use Rattle.sq_term.proofs.Chained.{chains_built}
use Rattle.sq_term.proofs.Same.{level_left}
use Rattle.sq_term_laws.specs.Roomy.{joined_rows, reached_in}
use Rattle.sq_term_laws.proofs.Chains.{reached_call}

-- it is spread where its map is
lanes_spread : (m : LoopKind) (spread lane : Option SpreadRule) → lanes_of m spread ≡ Some lane → (r : SpreadRule)
    → lane ≡ Some r → spread ≡ Some r
lanes_spread loop_kind.Sequential spread None e r n = cc
lanes_spread loop_kind.Sequential spread (Some x) e r n = cc
lanes_spread loop_kind.Parallel None lane e r n = cc
lanes_spread loop_kind.Parallel (Some x) lane e r n = let z : Some x ≡ lane = cc e in z ∙ n
lanes_spread (loop_kind.Reduction y) spread lane e r n = cc

module _ (level : ℕ → ℕ) (at : ℕ) (bodies : ℕ → FormBody) (homes : ℕ → Homes) (made : ℕ → Context → Term)
    (rule : SpreadRule) where
  abbrev built : Statement → TermPart
  built = statement_term bodies homes made rule

  -- of a map of these statements, which stands there as its transfers may overlap
  pub record IsPipedCall (m : LoopKind) (spread : Option SpreadRule) (counts starts : List ℕ) (xs : List Statement)
      (p : Pipe) : Type 0 where
    pub reached : joined_rows (map reached_in xs) ≡ joined_rows (p.rows ∷ [])
    pub lower : any_lower (map built xs) ≡ true
    pub same : any_same (map built xs) ≡ false
    pub deep : AreLevel level at (all_calls (map calls_in xs)) → AreLevel level at (calls_in_rows true p.rows)
    pub spread_is : (r : SpreadRule) → p.spread ≡ Some r → spread ≡ Some r
    pub stands : LoopsStand homes (loop_round m counts starts (map call_loops xs))
        → IsPiped (loop_of m counts starts p)

  pub piped_call : (m : LoopKind) (spread : Option SpreadRule) (counts starts : List ℕ) (xs : List Statement) (p : Pipe)
      → pipe_of homes m spread (chains (map built xs)) ≡ Some p → IsPipedCall m spread counts starts xs p
  piped_call m spread counts starts xs p e =
      let t = taken homes m spread (chains_built bodies homes made rule xs) p e in
      let call = b.Call true p.rows in
      let part = built_call bodies homes made rule true p.rows in
      record {
        reached = ap (λ (l : List Statement). joined_rows (map reached_in l)) t.one
            ∙ ap (λ l. joined_rows (l ∷ [])) (reached_call true p.rows);
        lower = ap (λ (l : List Statement). any_lower (map built l)) t.one
            ∙ ap (λ (x : TermPart). any_lower (x ∷ [])) part;
        same = ap (λ (l : List Statement). any_same (map built l)) t.one
            ∙ ap (λ (x : TermPart). any_same (x ∷ [])) part;
        deep = λ d. subst (AreLevel level at) (calls_call true p.rows) (level_left level at (calls_in call) []
            (subst (λ (l : List Statement). AreLevel level at (all_calls (map calls_in l))) t.one d));
        spread_is = lanes_spread m spread p.spread t.lanes;
        stands = piped homes m spread xs p t counts starts;
      }
