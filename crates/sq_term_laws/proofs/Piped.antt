-- Which loops overlap their transfers: what is known of their call.
use Rattle.std.proofs.Common.{◌≡◌, ℕ, Bool, true, false, List, [], ◌∷◌, slice_get, Option, Some, None, is_some}
use Rattle.std.proofs.Common.{refl, ap, ◌∙◌, if◌then◌else◌}
use Rattle.std.specs.Prelude.{◌&&◌, ◌==◌}
use Rattle.std.proofs.lemmas.Bool.{eqb-true}
use Rattle.sq_text.specs.declared.spread.SpreadRule.{SpreadRule}
use Rattle.sq_spec.specs.declared.statement.LoopKind.{LoopKind}
use Rattle.sq_spec.specs.declared.statement.LoopKind.TheVariants as loop_kind
use Rattle.sq_spec.specs.declared.statement.CallInstance.{CallInstance}
use Rattle.sq_placed.specs.declared.home.Homes.{Homes}
use Rattle.sq_placed.specs.Tables.{Chain, row_form, chain_form, overlapped, lanes_of, Pipe, pipe_by}
use Rattle.sq_placed.specs.Tables.{pipe_of}
use Rattle.sq_term_laws.specs.Overlapping.{can_overlap}

-- the lower call that is all that stands in the loop
pub record IsPipe {X : Type 0} (homes : ℕ → Homes) (h : Option (Chain X)) (p : Pipe) : Type 0 where
  pub chain : Chain X
  pub is : h ≡ Some chain
  pub none : chain.loops ≡ 0
  pub overlaps : (homes (row_form (slice_get chain.instances 0))).overlaps ≡ true
  pub rows : p.rows ≡ chain.instances

pub no_pipe : (l : Option (Option SpreadRule)) → pipe_by l None ≡ None
no_pipe None = refl
no_pipe (Some s) = refl

-- where it isn't spread, the pipe isn't
pub pipe_spread : (m : LoopKind) (spread : Option SpreadRule) (o : Option (List CallInstance)) (p : Pipe)
    → pipe_by (lanes_of m spread) o ≡ Some p → spread ≡ None → p.spread ≡ None
pipe_spread loop_kind.Sequential spread None p e n = absurd (let z = e in cc)
pipe_spread loop_kind.Sequential spread (Some rows) p e n =
    let g : record { spread = None; rows = rows } ≡ p = cc e in
    let z : None ≡ p.spread = ap (λ (q : Pipe). q.spread) g in cc z
pipe_spread loop_kind.Parallel None o p e n = absurd (let z = e in cc)
pipe_spread loop_kind.Parallel (Some r) o p e n = absurd (let z = n in cc)
pipe_spread (loop_kind.Reduction r) spread o p e n = absurd (let z = e in cc)

module _ {X : Type 0} (homes : ℕ → Homes) where
  -- of a chain whose call overlaps
  over : (h : Option (Chain X)) (p : Pipe) → overlapped homes h ≡ Some p.rows → IsPipe homes h p
  over None p e = absurd (let z = e in cc)
  over (Some u) p e = by (u.loops == 0) (homes (chain_form (Some u))).overlaps refl refl e
    where
      by : (a b : Bool) → (u.loops == 0) ≡ a → (homes (chain_form (Some u))).overlaps ≡ b
          → (if a && b then Some u.instances else None) ≡ Some p.rows → IsPipe homes (Some u) p
      by true true f g e = record {
        chain = u;
        is = refl;
        none = eqb-true u.loops 0 f;
        overlaps = g;
        rows = let z : u.instances ≡ p.rows = cc e in let y : p.rows ≡ u.instances = cc z in y;
      }
      by true false f g e = absurd (let z = e in cc)
      by false b f g e = absurd (let z = e in cc)

  pub pipe_is : (m : LoopKind) (spread : Option SpreadRule) (h : Option (Chain X)) (p : Pipe)
      → pipe_of homes m spread (h ∷ []) ≡ Some p → IsPipe homes h p
  pipe_is m spread h p e = go (lanes_of m spread) (overlapped homes h) refl e
    where
      go : (l : Option (Option SpreadRule)) (o : Option (List CallInstance)) → overlapped homes h ≡ o
          → pipe_by l o ≡ Some p → IsPipe homes h p
      go None o f e = absurd (let z = e in cc)
      go (Some s) None f e = absurd (let z = e in cc)
      go (Some s) (Some rows) f e =
          let g : record { spread = s; rows = rows } ≡ p = cc e in
          let r : rows ≡ p.rows = ap (λ (q : Pipe). q.rows) g in
          over h p (f ∙ ap (λ (x : List CallInstance). Some x) r)

  -- a loop that can overlap its transfers and doesn't has no call that does
  pub pipe_none : {Y : Type 0} (y : Y) (m : LoopKind) (spread : Option SpreadRule) (h : Option (Chain X))
      → pipe_of homes m spread (h ∷ []) ≡ None → can_overlap m (is_some spread) (y ∷ []) ≡ true
      → overlapped homes h ≡ None
  pipe_none y m spread h e c = go m spread (overlapped homes h) e c
    where
      go : (m : LoopKind) (spread : Option SpreadRule) (o : Option (List CallInstance))
          → pipe_by (lanes_of m spread) o ≡ None → can_overlap m (is_some spread) (y ∷ []) ≡ true → o ≡ None
      go m spread None e c = refl
      go loop_kind.Sequential spread (Some rows) e c = absurd (let z = e in cc)
      go loop_kind.Parallel None (Some rows) e c = absurd (let z = c in cc)
      go loop_kind.Parallel (Some r) (Some rows) e c = absurd (let z = e in cc)
      go (loop_kind.Reduction r) spread (Some rows) e c = absurd (let z = c in cc)
