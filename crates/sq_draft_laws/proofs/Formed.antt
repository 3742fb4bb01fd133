-- The entry's term is well formed.
use Rattle.std.proofs.Common.{◌≡◌, ℕ, suc, ◌<◌, ◌≤◌, ◌^◌, List, [], ◌∷◌, map, length, refl, sym, ap, subst}
use Rattle.std.proofs.Common.{arith, All, get_or}
use Rattle.sq_rect.specs.declared.view.View.{View}
use Rattle.sq_spec.specs.declared.body.FormBody.{FormBody}
use Rattle.sq_ir.specs.Tree.{Skip, Act, Stuck, Seq, Par, Within}
use Rattle.sq_ir.specs.Unordered.{AllEvents}
use Rattle.sq_ir.specs.Events.{Event, Leaves, places}
use Rattle.sq_ir.specs.Written.{Setting, Env, PlanTree, at_root, event_of, view_of, node_of, written}
use Rattle.sq_ir.specs.Plans.{AskedOfActions, IsAllowed, InBuffers, MayBePerformed}
use Rattle.sq_ir.specs.declared.term.LeafView.{LeafView}
use Rattle.sq_ir.specs.declared.term.Action.{Action}
use Rattle.sq_ir.specs.declared.term.Action.TheVariants as action
use Rattle.sq_placed.specs.declared.home.Homes.{Homes}
use Rattle.sq_placed.specs.Tables.{entry_placed}
use Rattle.sq_cells.specs.Tree.{Cause}
use Rattle.sq_cells.specs.Alike.{MayRun}
use Rattle.sq_term.specs.Terms.{entry_term, buffer_or}
use Rattle.sq_program_laws.specs.TermLaws.Roomy.{RowsInside}
use Rattle.sq_program_laws.proofs.TermLaws.Meeting.{entry_is_fine}
use Rattle.sq_program_laws.proofs.TermLaws.Roomed.{entry_is_roomy}
use Rattle.sq_program_laws.specs.PlanLaws.Entry.{plan_tree}
use Rattle.sq_program_laws.specs.PlanLaws.Room.{IsRoomy}
use Rattle.sq_program_laws.specs.Entry.{entry_shapes}
use Rattle.sq_program_laws.proofs.Written.{plans_are_written}
use Rattle.sq_draft_laws.specs.Scope.{InScope}
use Rattle.sq_draft_laws.specs.Paths.{LeavesAreSmall}
use Rattle.sq_draft_laws.specs.Laws.{HasPath, SlotsAreInScope, PlansAreWellFormed}
use Rattle.sq_draft_laws.proofs.Back.{joined, with_both, meets_less, scoped_all}
use Rattle.sq_draft_laws.proofs.Moves.{Leveled, Settled}
use Rattle.sq_draft_laws.proofs.Scoped.{entry_up}
use Rattle.sq_draft_laws.proofs.Places.{near_below}

-- nothing is asked
abbrev Nothing : AskedOfActions
Nothing env bs a = Unit {0}

abbrev leveled_by : (ℕ → Homes) → (level : ℕ → ℕ) → Leveled
leveled_by homes level = record { code = λ f. (homes f).code; level = level }

pub slots_are_in_scope : SlotsAreInScope
slots_are_in_scope s most bounds last nodes level_of machine bodies homes level leveled tabled roomy near first root
    here n args fits =
    let buffers = map buffer_or (homes 0).params in
    let term = entry_term bodies homes n args in
    meets_less s (with_both Nothing (Settled s bodies (leveled_by homes level))) (InScope s) (λ env bs a h. h.1.0) term
    at_root buffers
    (entry_up s bodies homes level leveled roomy near Nothing first root n args _ fits at_root refl
    (entry_is_fine s most bounds last nodes level_of machine bodies homes level leveled tabled
    near.stand first here n args buffers))

-- ---- events

all_both : (P Q : Event → Type 0) (t : PlanTree) → AllEvents P t → AllEvents Q t → AllEvents (λ e. P e × Q e) t
all_both P Q Skip h g = tt
all_both P Q (Act e) h g = (h, g)
all_both P Q (Stuck e) h g = (h, g)
all_both P Q (Seq a b) h g = (all_both P Q a h.0 g.0, all_both P Q b h.1 g.1)
all_both P Q (Par a b) h g = (all_both P Q a h.0 g.0, all_both P Q b h.1 g.1)
all_both P Q (Within s a) h g = all_both P Q a h g

view_count : (s : Setting) (env : Env) (vs : List LeafView) → length (map (view_of s env) vs) ≡ length vs
view_count s env [] = refl
view_count s env (v ∷ vs) = ap suc (view_count s env vs)

-- the first bytes of views whose places lie below a word
are_near : (vs : List View) (word capacity : ℕ) → capacity ≤ word → All (λ v. All (λ n. 0 < n) v.extents) vs
    → All (λ v. All (λ k. k < capacity) (places v)) vs → All (λ v. v.at < word) vs
are_near vs word capacity l some inside k d m = near_below (get_or vs k d) word capacity l (some k d m) (inside k d m)

module _ (s : Setting) (leaves : Leaves Cause) (bodies : ℕ → FormBody) (forms : Leveled) (small : LeavesAreSmall bodies)
    (low : (node : ℕ) → s.capacity node ≤ 2 ^ 32) where
  abbrev Runs : Event → Type 0
  Runs e = MayRun leaves e × (IsRoomy s.capacity e × HasPath e)

  abbrev Asked : AskedOfActions
  Asked = with_both (RowsInside s) (Settled s bodies forms)

  in_buffers : (env : Env) (bs : List ℕ) (a : Action) → RowsInside s env bs a → InScope s env bs a
      → InBuffers s env bs a
  in_buffers env bs (action.CopyRow from to bytes) h g = (
    record { scope = g.0; at = h.0.at; inside = h.0.inside },
    record { scope = g.1; at = h.1.at; inside = h.1.inside },
  )
  in_buffers env bs (action.FillRow to elem count value) h g
      = record { scope = g; at = h.at; inside = h.inside }
  in_buffers env bs (action.AccRow op elem from to count) h g = (
    record { scope = g.0; at = h.0.at; inside = h.0.inside },
    record { scope = g.1; at = h.1.at; inside = h.1.inside },
  )
  in_buffers env bs (action.Leaf code views path) h g = (
    λ k d l. record {
      scope = (g k d l).scope;
      at = (h.0 k d l).at;
      level = (g k d l).level;
      inside = (h.0 k d l).inside;
    },
    h.1,
  )

  performed : (env : Env) (bs : List ℕ) (a : Action) → Settled s bodies forms env bs a → Runs (event_of s env a)
      → MayBePerformed leaves s.capacity (event_of s env a)
  performed env bs (action.CopyRow from to bytes) h g = let r = g.1.0 h.1 in (r.0, r.1, g.0)
  performed env bs (action.FillRow to elem count value) h g = g.1.0 h.1
  performed env bs (action.AccRow op elem from to count) h g = let r = g.1.0 h.1 in (r.0, r.1, g.0)
  performed env bs (action.Leaf code views path) h g = record {
    shapes = g.0.0.shapes;
    strides = g.0.0.strides;
    some = g.0.0.some;
    inside = g.1.0;
    apart = g.0.1;
    few = let e = view_count s env views in let f = h.1.few in let m = small.few h.1.form h.1.leaf h.1.is in
        omega (arith, e, f, m);
    near = are_near (map (view_of s env) views) (2 ^ 32) (s.capacity (node_of env)) (low (node_of env)) g.0.0.some
        g.1.0;
    short = g.1.1.short;
    words = g.1.1.words;
  }

  allowed : (env : Env) (bs : List ℕ) (a : Action) → Asked env bs a → Asked env bs a → Runs (event_of s env a)
      → IsAllowed leaves s env bs a
  allowed env bs a h k g = record {
    inside = in_buffers env bs a h.0 h.1.0;
    event = performed env bs a h.1 g;
  }

pub plans_are_well_formed : PlansAreWellFormed
plans_are_well_formed s leaves most bounds last nodes level_of machine bodies homes level leveled tabled roomy near
    first root here entry small low n args many fits runs inside paths =
    let forms = leveled_by homes level in
    let buffers = map buffer_or (homes 0).params in
    let term = entry_term bodies homes n args in
    let tree = plan_tree s (entry_placed bodies homes n args) (entry_shapes bodies args) buffers in
    let both = entry_up s bodies homes level leveled roomy near (RowsInside s) first root n args _ fits at_root refl
    (entry_is_roomy s most bounds last nodes level_of machine bodies homes level leveled tabled
    near.stand roomy first here entry n args fits buffers) in
    let all = all_both (MayRun leaves) (λ e. IsRoomy s.capacity e × HasPath e) tree runs
    (all_both (IsRoomy s.capacity) HasPath tree inside paths) in
    let events = scoped_all (Runs s leaves bodies forms small low) 0 buffers (written s term at_root)
    (subst (AllEvents (Runs s leaves bodies forms small low))
    (sym (plans_are_written s bodies homes level leveled near.stand first root n args many))
    all) in
    joined s (Asked s leaves bodies forms small low) (Asked s leaves bodies forms small low) (IsAllowed leaves s)
    (Runs s leaves bodies forms small low) (allowed s leaves bodies forms small low) term at_root buffers both both
    events
