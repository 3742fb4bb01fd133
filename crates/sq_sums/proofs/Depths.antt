-- The scopes of a part are less deep than the part.
use Rattle.std.proofs.Common.{◌≡◌, ℕ, suc, ◌≤◌, max, Bool, true, false, List, [], ◌∷◌, ◌++◌, map, Option, ap, sym}
use Rattle.std.proofs.Common.{subst, ◌∙◌, arith}
use Rattle.std.specs.Prelude.{if◌then◌else◌}
use Rattle.sq_text.specs.declared.spread.SpreadRule.{SpreadRule}
use Rattle.sq_ir.specs.declared.num.Num.{Num}
use Rattle.sq_ir.specs.declared.term.Action.{Action}
use Rattle.sq_ir.specs.declared.term.Term.{Term, roll-Term}
use Rattle.sq_ir.specs.declared.term.Term.TheVariants as t
use Rattle.sq_ir.specs.declared.term.Term.TheOpen.{Term-F}
use Rattle.sq_ir.specs.declared.term.Term.TheFolds.{fold-roll-Term, ind-Term, map-Term}
use Rattle.sq_nests.specs.Stacks.{capped}
use Rattle.sq_sums.specs.declared.route.Route.{Route}
use Rattle.sq_sums.specs.declared.route.Route.TheVariants as r
use Rattle.sq_sums.specs.Tops.{has_scope}
use Rattle.sq_sums.specs.Regions.{names_no_loop_outside}
use Rattle.sq_sums.specs.Sites.{Site}
use Rattle.sq_sums.specs.Routes.{Layout, layout, no_layout, list_layout, loop_layout, own_layout, joint_layout}
use Rattle.sq_sums.specs.Routes.{scope_layout, top_of, all_sites}
use Rattle.sq_sums.specs.Sums.{deepest, depth_step, depth, sites_depth}
use Rattle.sq_sums.proofs.LayoutForms.{layout_skip, layout_act, layout_seq, layout_par, layout_loop, layout_spread}
use Rattle.sq_sums.proofs.LayoutForms.{layout_case, layout_within}

pub depth_skip : depth t.Skip ≡ depth_step Term-F.Skip
depth_skip = ap depth (sym t.rolls-Skip) ∙ fold-roll-Term ℕ depth_step Term-F.Skip

pub depth_act : (a : Action) → depth (t.Act a) ≡ depth_step (Term-F.Act a)
depth_act a = ap depth (sym (t.rolls-Act a)) ∙ fold-roll-Term ℕ depth_step (Term-F.Act a)

pub depth_seq : (ts : List Term) → depth (t.Seq ts) ≡ depth_step (Term-F.Seq (map depth ts))
depth_seq ts = ap depth (sym (t.rolls-Seq ts)) ∙ fold-roll-Term ℕ depth_step (Term-F.Seq ts)

pub depth_par : (ts : List Term) → depth (t.Par ts) ≡ depth_step (Term-F.Par (map depth ts))
depth_par ts = ap depth (sym (t.rolls-Par ts)) ∙ fold-roll-Term ℕ depth_step (Term-F.Par ts)

pub depth_loop : (c : Num) (b : Term) → depth (t.Loop c b) ≡ depth_step (Term-F.Loop c (depth b))
depth_loop c b = ap depth (sym (t.rolls-Loop c b)) ∙ fold-roll-Term ℕ depth_step (Term-F.Loop c b)

pub depth_spread : (c : Num) (r : SpreadRule) (b : Term) → depth (t.Spread c r b)
    ≡ depth_step (Term-F.Spread c r (depth b))
depth_spread c r b = ap depth (sym (t.rolls-Spread c r b)) ∙ fold-roll-Term ℕ depth_step (Term-F.Spread c r b)

pub depth_case : (k : Num) (ts : List Term) → depth (t.Case k ts) ≡ depth_step (Term-F.Case k (map depth ts))
depth_case k ts = ap depth (sym (t.rolls-Case k ts)) ∙ fold-roll-Term ℕ depth_step (Term-F.Case k ts)

pub depth_within : (c : Option Num) (bs : List ℕ) (b : Term) → depth (t.Within c bs b)
    ≡ depth_step (Term-F.Within c bs (depth b))
depth_within c bs b = ap depth (sym (t.rolls-Within c bs b)) ∙ fold-roll-Term ℕ depth_step (Term-F.Within c bs b)

pub ruleset depth_forms = (
  depth_skip,
  depth_act,
  depth_seq,
  depth_par,
  depth_loop,
  depth_spread,
  depth_case,
  depth_within,
)

-- ---- the scopes of a part

depth_append : (a b : List Site) → sites_depth (a ++ b) ≡ max (sites_depth a) (sites_depth b)
depth_append [] b = first (sites_depth b)
  where
    first : (n : ℕ) → n ≡ max 0 n
    first n = omega arith
depth_append (s ∷ a) b = let e = depth_append a b in next (suc (depth s.body)) (sites_depth (a ++ b)) (sites_depth a)
    (sites_depth b) e
  where
    next : (n c a b : ℕ) → c ≡ max a b → max n c ≡ max (max n a) b
    next n c a b e = omega (arith, e)

abbrev pick : Bool → Layout → Layout → Layout
pick v a b = if v then a else b

abbrev AtMost : Layout → ℕ → Type 0
AtMost b n = (h : ℕ) → sites_depth (b.sites h) ≤ n

module _ (w : List ℕ → ℕ) where
  abbrev Deep : Term → Type 0
  Deep x = AtMost (layout w x) (depth x)

  abbrev D : Type 0
  D = (x : Term) × Deep x

  abbrev terms : List D → List Term
  terms xs = map (λ x. x.0) xs

  all_deep : (xs : List D) (h : ℕ) → sites_depth (all_sites (map (layout w) (terms xs)) h)
      ≤ deepest (map depth (terms xs))
  all_deep [] h = omega arith
  all_deep (x ∷ xs) h =
      let e = depth_append ((layout w x.0).sites h) (all_sites (map (layout w) (terms xs)) h) in
      let p = x.1 h in
      let q = all_deep xs h in
      omega (arith, e, p, q)

  list_deep : (f : List Route → Route) (xs : List D)
      → AtMost (list_layout f (map (layout w) (terms xs))) (deepest (map depth (terms xs)))
  list_deep f xs h = all_deep xs h

  turns_deep : (c : Num) (x : D) → AtMost (loop_layout c x.0 (layout w x.0)) (depth x.0)
  turns_deep c x h = by (has_scope x.0)
    where
      by : (v : Bool) → sites_depth
          ((pick v (record {
            route = λ held first. r.Each c ((layout w x.0).route held first);
            sites
                = (layout w x.0).sites;
          }) no_layout).sites h) ≤ depth x.0
      by true = x.1 h
      by false = omega arith

  scope_deep : (c : Option Num) (x : D) (h : ℕ) → sites_depth ((scope_layout c x.0 (layout w x.0)).sites h)
      ≤ suc (depth x.0)
  scope_deep c x h = by (names_no_loop_outside x.0)
    where
      by : (v : Bool) → sites_depth ((pick v (own_layout c x.0) (joint_layout c x.0 (layout w x.0))).sites h)
          ≤ suc (depth x.0)
      by true = omega arith
      by false = let p = x.1 h in omega (arith, p)

  along : (x : Term) (b : Layout) (n : ℕ) → layout w x ≡ b → depth x ≡ n → AtMost b n → Deep x
  along x b n e g p = subst (λ (z : Layout). AtMost z (depth x)) (sym e) (subst (AtMost b) (sym g) p)

  nothing_deep : AtMost no_layout 0
  nothing_deep h = omega arith

  deep_step : (y : Term-F D) → Deep (roll-Term (map-Term D Term (λ x. x.0) y))
  deep_step Term-F.Skip = subst Deep (sym t.rolls-Skip) (along _ _ _ (layout_skip w) depth_skip nothing_deep)
  deep_step (Term-F.Act a) = subst Deep (sym (t.rolls-Act a)) (along _ _ _ (layout_act w a) (depth_act a) nothing_deep)
  deep_step (Term-F.Seq xs) = subst Deep (sym (t.rolls-Seq (terms xs)))
      (along _ _ _ (layout_seq w (terms xs)) (depth_seq (terms xs)) (list_deep r.Parts xs))
  deep_step (Term-F.Par xs) = subst Deep (sym (t.rolls-Par (terms xs)))
      (along _ _ _ (layout_par w (terms xs)) (depth_par (terms xs)) (list_deep r.Parts xs))
  deep_step (Term-F.Loop c x) = subst Deep (sym (t.rolls-Loop c x.0))
      (along _ _ _ (layout_loop w c x.0) (depth_loop c x.0) (turns_deep c x))
  deep_step (Term-F.Spread c u x)
      = subst Deep (sym (t.rolls-Spread c u x.0))
      (along _ _ _ (layout_spread w c u x.0) (depth_spread c u x.0) (turns_deep c x))
  deep_step (Term-F.Case k xs) = subst Deep (sym (t.rolls-Case k (terms xs)))
      (along _ _ _ (layout_case w k (terms xs)) (depth_case k (terms xs)) (list_deep (r.Arm k) xs))
  deep_step (Term-F.Within c bs x)
      = subst Deep (sym (t.rolls-Within c bs x.0))
      (along _ _ _ (layout_within w c bs x.0) (depth_within c bs x.0)
      (λ h. scope_deep c x (top_of c h (capped (w bs)))))

  pub sites_deep : (x : Term) → Deep x
  sites_deep = ind-Term Deep (λ x y is. subst (λ z. Deep (roll-Term z)) is (deep_step y))
