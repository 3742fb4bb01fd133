-- The nested sums of drafts are those of what their tables begin.
use Rattle.std.proofs.Common.{◌≡◌, ℕ, zero, suc, ◌+◌, ◌-◌, ◌<◌, Bool, false, List, [], ◌∷◌, ◌++◌, get_or, slice_get}
use Rattle.std.proofs.Common.{length, Option, Some, None, refl, sym, ap, ap₂, subst, ◌∙◌, arith}
use Rattle.std.proofs.lemmas.Option.{get_or_from_slice_get}
use Rattle.sq_ir.specs.Written.{Setting, at_root}
use Rattle.sq_ir.specs.Plans.{placed}
use Rattle.sq_ir.specs.declared.plan.Buffer.{Buffer}
use Rattle.sq_ir.specs.declared.plan.PlanNode.{PlanNode}
use Rattle.sq_ir.specs.declared.term.Term.{Term}
use Rattle.sq_ir.specs.declared.term.Term.TheVariants as term
use Rattle.sq_blocks.specs.declared.argument.Argument.{Argument}
use Rattle.sq_spec.specs.declared.body.FormBody.{FormBody}
use Rattle.sq_spec.specs.declared.resolved.Resolved.{Resolved}
use Rattle.sq_nests.specs.Stacks.{total}
use Rattle.sq_nests.proofs.Chains.{total_append}
use Rattle.sq_placed.specs.declared.home.Home.{Home}
use Rattle.sq_placed.specs.declared.home.Home.TheVariants.{InPlace, Held}
use Rattle.sq_placed.specs.declared.home.Homes.{Homes}
use Rattle.sq_placed.specs.Tables.{locals_of}
use Rattle.sq_placed.specs.Trees.{local_buffers}
use Rattle.sq_draft_laws.specs.TermLaws.Orders.{EachOf}
use Rattle.sq_draft_laws.specs.TermLaws.Overlapping.{IsSuited}
use Rattle.sq_term.specs.Terms.{buffers_from, body_in, homes_in, term_of, entry_term, entry_context, entry_row}
use Rattle.sq_term.proofs.Whole.{heads_refl}
use Rattle.sq_draft_laws.specs.TermLaws.Fits.{Bounds}
use Rattle.sq_draft_laws.specs.TermLaws.Leaves.{loops_left}
use Rattle.sq_draft_laws.specs.Homes.Chosen.declared.choice.Choice.{Choice}
use Rattle.sq_draft_laws.specs.Homes.Chosen.Arrays.{left_by}
use Rattle.sq_draft_laws.specs.Homes.Chosen.Forms.{bodies_of, choice_in}
use Rattle.sq_draft_laws.specs.Homes.Drafts.{homes_of, entry_of, args_of}
use Rattle.sq_draft_laws.specs.Given.{level_at}
use Rattle.sq_draft_laws.specs.Choosing.{Walked, MayBeChosen, setting_of}
use Rattle.sq_draft_laws.proofs.Hoisting.{no_item, no_homes_at, chosen_stand, none_pipes}
use Rattle.sq_draft_laws.proofs.Programs.{term_is_entrys}
use Rattle.sq_draft_laws.specs.Drafts.{limits}
use Rattle.sq_draft_laws.proofs.Hoisted.{is_form, param_is}
use Rattle.sq_draft_laws.proofs.Levels.{levels_are_there}
use Rattle.sq_draft_laws.proofs.Numbers.{first_of}
use Rattle.sq_draft_laws.proofs.ArrayPlaces.{HomeIs, stays, owns, owns_two, leaves, home_by}
use Rattle.sq_draft_laws.proofs.Roomy.{drafts_are_roomy}
use Rattle.sq_draft_laws.proofs.Tabled.{drafts_are_tabled}
use Rattle.sq_plan_good.specs.Sums.{here, SumsAreOfCalls}
use Rattle.sq_plan_good.specs.Loops.{entry_stand, stand_sum, SumsAreOfLoops}
use Rattle.sq_plan_good.proofs.Terms.{of_term, within_sum, arm_sum, here_both}
use Rattle.sq_plan_good.proofs.Held.{LeaveSome}
use Rattle.sq_plan_good.proofs.Laid.{AreLaid, forms_sum}
use Rattle.sq_plan_good.proofs.Plain.{entries_same}

-- ---- what is asked of a draft's tables and homes

own_some : (c : Choice) (moved : (i : ℕ) → 0 < left_by c i → get_or c.in_place i false ≡ false) (base i : ℕ) {h : Home}
    → HomeIs c moved base i h → (b n : ℕ) → h ≡ Held b n → 0 < n
own_some c moved base i (stays f l) b n e = absurd (cc e)
own_some c moved base i (owns f l o) b n e = absurd (cc e)
own_some c moved base i (owns_two f l o) b n e = absurd (cc e)
own_some c moved base i (leaves m f l) b n e = let z : suc m ≡ n = ap loops_left e in omega (arith, z)

module _ (r : Resolved) (w : Walked r) (choices : List Choice) (are : MayBeChosen r choices)
    (nodes : List PlanNode) where
  some_left : (k : ℕ) → LeaveSome (homes_in (homes_of r choices) k).params
  some_left k i b n e = by (slice_get (bodies_of r) k) refl (slice_get (homes_in (homes_of r choices) k).params i) refl
    where
      params : List Home
      params = (homes_in (homes_of r choices) k).params

      by : (o : Option FormBody) → slice_get (bodies_of r) k ≡ o → (h : Option Home) → slice_get params i ≡ h → 0 < n
      by o at None none = absurd (cc (sym (no_item params i InPlace none) ∙ e))
      by None at (Some h) there =
          let z : slice_get [] i ≡ Some h
          = sym (ap (λ (x : Homes). slice_get x.params i) (no_homes_at r choices k at)) ∙ there in
          absurd (cc z)
      by (Some x) at (Some h) there =
          let f = is_form r choices are k x at in
          let p = param_is r choices are k x f i h there in
          let c = choice_in choices k in
          own_some c f.chosen.moved (first_of r choices k) i
          (home_by c f.chosen.moved (first_of r choices k) i) b n
          (p.is ∙ sym (get_or_from_slice_get params i h InPlace there) ∙ e)

  -- the last level
  abbrev pub last : ℕ
  last = length r.machine.now.levels - 1

  pub laid : AreLaid (body_in (bodies_of r)) (homes_in (homes_of r choices)) limits last (level_at r)
  laid =
      let deep = levels_are_there r w 0 in
      let tabled = drafts_are_tabled r w choices are last (omega (arith, deep)) nodes (λ b. 0) in
      let roomy = drafts_are_roomy r w choices are nodes (λ b. 0) in
      record {
        some = some_left;
        leaves = are.loops;
        same = roomy.roomy.same;
        tabled = tabled.body;
      }

-- ---- the entry

no_buffers : (i : ℕ) (args : List Argument) → buffers_from [] i args ≡ []
no_buffers zero [] = refl
no_buffers (suc i) [] = refl
no_buffers zero (a ∷ args) = no_buffers 1 args
no_buffers (suc i) (a ∷ args) = no_buffers (suc (suc i)) args

pub whole_sum : (s : Setting) (x : ℕ) (bodies : ℕ → FormBody) (homes : ℕ → Homes) (most : Bounds) (last : ℕ)
    (level : ℕ → ℕ) → AreLaid bodies homes most last level → (d : ℕ) (args : List Argument) (entry : List ℕ)
    → of_term s x (term.Within None entry (entry_term bodies homes d args)) at_root
    ≡ entry_stand s bodies homes x d entry
whole_sum s x bodies homes most last level its d args entry =
    within_sum s x None entry _ at_root
    ∙ ap (λ (k : ℕ). here 0 x (total s.size entry) + k)
    (arm_sum s x bodies homes (term_of bodies homes d) (stand_sum s bodies homes x d)
    (forms_sum s x bodies homes most last level its d) [] None false (entry_row args ∷ []) (entry_row args)
    (entry_row args) (entry_context (bodies 0) (homes 0)) at_root 0 refl (heads_refl args) refl
    ∙ ap (λ (bs : List ℕ). here 0 x (total s.size (bs ++ locals)) + stand_sum s bodies homes x d 0 0)
    (no_buffers 0 args))
    ∙ joined
  where
    locals : List ℕ
    locals = local_buffers (locals_of (bodies 0) (homes 0))

    joined : here 0 x (total s.size entry) + (here 0 x (total s.size locals) + stand_sum s bodies homes x d 0 0)
        ≡ here 0 x (total s.size (entry ++ locals)) + stand_sum s bodies homes x d 0 0
    joined =
        let p = ap (here 0 x) (total_append s.size entry locals) in
        let q = here_both 0 x (total s.size entry) (total s.size locals) in
        omega (arith, p, q)

pub sums_are_of_loops : SumsAreOfLoops
sums_are_of_loops r w choices are d is nodes node =
    ap₂ (λ (bs : List Buffer) (y : Term). of_term (placed bs nodes (λ b. 0)) node y at_root) is.buffers
    (ap₂ (λ (e : List ℕ) (y : Term). term.Within None e y) is.entry
    (is.term ∙ term_is_entrys (bodies_of r) (homes_of r choices) (args_of r)))
    ∙ whole_sum (setting_of r choices nodes (λ b. 0)) node (body_in (bodies_of r)) (homes_in (homes_of r choices))
    limits (last r w choices are nodes) (level_at r) (laid r w choices are nodes) (length (bodies_of r)) (args_of r)
    (entry_of r choices)

-- where no loop overlaps its transfers, calls are all that tables begin
pub sums_are_of_calls : SumsAreOfCalls
sums_are_of_calls r w choices are none d is nodes node =
    let free = none_pipes r choices none in
    sums_are_of_loops r w choices are d is nodes node
    ∙ entries_same (setting_of r choices nodes (λ b. 0)) node (body_in (bodies_of r)) (homes_in (homes_of r choices))
    free (λ k. subst (λ (o : Bool). EachOf (IsSuited o) (homes_in (homes_of r choices) k).params) (free k)
    ((chosen_stand r choices are).params k)) (length (bodies_of r)) (entry_of r choices)
