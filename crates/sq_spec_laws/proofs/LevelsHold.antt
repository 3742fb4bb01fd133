-- Forms run at nodes of their level.
use Rattle.std.proofs.Common.{◌≡◌, ℕ, zero, suc, ◌+◌, ◌<◌, ◌≤◌, ◌⊎◌, inl, inr, Bool, true, false, List, [], ◌∷◌, ◌++◌, map, length, Option, Some, None, Ok, Err, refl, sym, ◌∙◌, ap, subst, arith}
use Rattle.std.specs.Prelude.{slice_get}
use Rattle.std.specs.List.{flat_map, range_with_len}
use Rattle.std.proofs.lemmas.List.FromFn.{length-range_with_len, get_or-range_with_len}
use Rattle.std.proofs.lemmas.Option.{get_or_from_slice_get}
use Rattle.sq_text.specs.declared.place.Place.{Place}
use Rattle.sq_text.specs.declared.spread.SpreadRule.{SpreadRule}
use Rattle.sq_text.proofs.Spreads.{spreads}
use Rattle.sq_ast.specs.declared.stmt.Call.{Call}
use Rattle.sq_ast.specs.declared.stmt.Range.{Range}
use Rattle.sq_ast.specs.declared.stmt.MapKind.{MapKind}
use Rattle.sq_ast.specs.declared.stmt.Stmt.{Stmt, roll-Stmt}
use Rattle.sq_ast.specs.declared.stmt.Stmt.TheVariants as s
use Rattle.sq_ast.specs.declared.stmt.Stmt.TheOpen.{Stmt-F}
use Rattle.sq_ast.specs.declared.stmt.Stmt.TheFolds.{ind-Stmt, map-Stmt, fold-roll-Stmt}
use Rattle.sq_ast.specs.declared.program.Body.{Body}
use Rattle.sq_ast.specs.declared.program.Body.TheVariants as body
use Rattle.sq_ast.specs.declared.program.Program.{Program}
use Rattle.sq_ast.specs.declared.program.Variant.{Variant}
use Rattle.sq_machfile.specs.declared.level.Level.{Level}
use Rattle.sq_machfile.specs.declared.node.Node.{Node}
use Rattle.sq_machfile.specs.Machines.{Hierarchy, WithinLimits}
use Rattle.sq_machfile.proofs.Families.{child}
use Rattle.sq_machfile.proofs.Hierarchies.{root}
use Rattle.sq_forms.specs.Mappings.declared.mapping.Instance.{Instance}
use Rattle.sq_forms.specs.Mappings.declared.mapping.Mapping.{Mapping}
use Rattle.sq_forms.specs.Mappings.Sound.{Sound}
use Rattle.sq_blocks.specs.Names.{Numbers}
use Rattle.sq_forms.specs.declared.form.Form.{Form}
use Rattle.sq_forms.specs.declared.form.Found.{Found}
use Rattle.sq_forms.specs.Faults.{Value, value_or}
use Rattle.sq_forms.specs.Steps.{Forms, Key}
use Rattle.sq_forms.specs.Args.{Names}
use Rattle.sq_forms.specs.Worlds.{Frame, Callee, callee_of}
use Rattle.sq_forms.specs.Calls.{CallSite}
use Rattle.sq_forms.specs.Stmts.{after_calls, bounds, times_of, in_iteration, within}
use Rattle.sq_forms.specs.Decls.{Scope, all_declared, params_from, empty_scope}
use Rattle.sq_forms.specs.Resolving.{Resolving, resolution, with_locals, with_entry, start}
use Rattle.sq_spec_laws.specs.Needs.{Turn, Reached, Reaching, reached_by, reached_in, any_lower, any_same, is_spread, turn_in, reaching_step, reaching, reached_by_body, reached_where, reached_with, frame_at, reached_of, reached_from, variant_for, child_for, IsCall, StandsAt, RunsAt, entry, beside, below, AtLevel, FormsRunAtTheirLevel}
use Rattle.sq_spec.proofs.FormLaws.AllHold.{Adding, all_hold, within_list}
use Rattle.sq_spec.proofs.FormLaws.FormsHold.{each_walked}
use Rattle.sq_spec.proofs.FormLaws.RanHold.{Keyed, keys_reached, as_many_forms, few_found}

some_same : {A : Type 0} (x y : A) → Some x ≡ Some y → x ≡ y
some_same x y h = cc h

-- ---- an iteration of a spread map is one of its iterations

abbrev GoodTurn : Option Turn → Type 0
GoodTurn None = Unit {0}
GoodTurn (Some u) = u.t < u.count

abbrev AllTurns : List Reached → Type 0
AllTurns [] = Unit {0}
AllTurns (r ∷ rs) = GoodTurn r.turn × AllTurns rs

all_append : (rs qs : List Reached) → AllTurns rs → AllTurns qs → AllTurns (rs ++ qs)
all_append [] qs g h = h
all_append (r ∷ rs) qs g h = (g.0, all_append rs qs g.1 h)

turns_at : (rs : List Reached) → AllTurns rs → (i : ℕ) (r : Reached) → slice_get rs i ≡ Some r → GoodTurn r.turn
turns_at [] h i r g = absurd (cc g)
turns_at (q ∷ rs) h zero r g = let e : q ≡ r = cc g in subst (λ (p : Reached). GoodTurn p.turn) e h.0
turns_at (q ∷ rs) h (suc i) r g = turns_at rs h.1 i r g

all_flat : (f : ℕ → List Reached) (n : ℕ) (xs : List ℕ) → ((i x : ℕ) → slice_get xs i ≡ Some x → x < n) → ((t : ℕ) → t < n → AllTurns (f t))
    → AllTurns (flat_map f xs)
all_flat f n [] less good = tt
all_flat f n (x ∷ xs) less good = all_append (f x) (flat_map f xs) (good x (less 0 x refl)) (all_flat f n xs (λ i y g. less (suc i) y g) good)

in_range : (n i x : ℕ) → slice_get (range_with_len 0 n) i ≡ Some x → x < n
in_range n i x h =
    let less = within_list (range_with_len 0 n) i x h in
    let inside : i < n = omega (arith, less, length-range_with_len 0 n) in
    let is : 0 + i ≡ x = sym (get_or-range_with_len 0 n i x inside) ∙ get_or_from_slice_get (range_with_len 0 n) i x x h in
    omega (arith, inside, is)

abbrev Good : Reaching → Type 0
Good p = (frame : Frame) (names : Names) (site : CallSite) (numbers : Numbers) (turn : Option Turn) → GoodTurn turn → AllTurns (p.reached frame names site numbers turn)

abbrev AllGood : List Reaching → Type 0
AllGood [] = Unit {0}
AllGood (p ∷ ps) = Good p × AllGood ps

in_good : (ps : List Reaching) → AllGood ps → (frame : Frame) (names : Names) (site : CallSite) (numbers : Numbers) (turn : Option Turn) → GoodTurn turn
    → AllTurns (reached_in ps frame names site numbers turn)
in_good [] all frame names site numbers turn g = tt
in_good (p ∷ ps) all frame names site numbers turn g =
    all_append (p.reached frame names site numbers turn) (reached_in ps frame names (after_calls site p.calls) numbers turn)
    (all.0 frame names site numbers turn g) (in_good ps all.1 frame names (after_calls site p.calls) numbers turn g)

call_good : (frame : Frame) (names : Names) (site : CallSite) (numbers : Numbers) (turn : Option Turn) (c : Call) (o : Option Callee) → GoodTurn turn
    → AllTurns (reached_by frame names site numbers turn c o)
call_good frame names site numbers turn c None g = tt
call_good frame names site numbers turn c (Some callee) g = (g, tt)

turn_good : (b : Bool) (turn : Option Turn) (count t : ℕ) → t < count → GoodTurn turn → GoodTurn (turn_in b turn count t)
turn_good true turn count t less g = less
turn_good false turn count t less g = g

map_good : (place : Place) (kind : MapKind) (ranges : List Range) (parts : List Reaching) → AllGood parts
    → Good (reaching_step (Stmt-F.Map place kind ranges parts))
map_good place kind ranges parts all frame names site numbers turn g =
    let ns = bounds ranges numbers names.lists in
    let spread = is_spread kind turn (any_lower parts frame) (any_same parts frame) in
    all_flat (λ t. reached_in parts frame names (within site place kind t) (in_iteration ranges (value_or [] ns) t numbers) (turn_in spread turn (times_of ns) t)) (times_of ns)
    (range_with_len 0 (times_of ns)) (in_range (times_of ns))
    (λ t less. in_good parts all frame names (within site place kind t) (in_iteration ranges (value_or [] ns) t numbers) (turn_in spread turn (times_of ns) t) (turn_good spread turn (times_of ns) t less g))

pub reaching_call : (c : Call) → reaching (s.Call c) ≡ reaching_step (Stmt-F.Call c)
reaching_call c = ap reaching (sym (s.rolls-Call c)) ∙ fold-roll-Stmt Reaching reaching_step (Stmt-F.Call c)

pub reaching_map : (p : Place) (k : MapKind) (rs : List Range) (xs : List Stmt) → reaching (s.Map p k rs xs) ≡ reaching_step (Stmt-F.Map p k rs (map reaching xs))
reaching_map p k rs xs = ap reaching (sym (s.rolls-Map p k rs xs)) ∙ fold-roll-Stmt Reaching reaching_step (Stmt-F.Map p k rs xs)

abbrev OfStmt : Stmt → Type 0
OfStmt x = Good (reaching x)

abbrev S : Type 0
S = (x : Stmt) × OfStmt x

goods : (xs : List S) → AllGood (map reaching (map (λ (q : S). q.0) xs))
goods [] = tt
goods (x ∷ xs) = (x.1, goods xs)

good_step : (y : Stmt-F S) → OfStmt (roll-Stmt (map-Stmt S Stmt (λ p. p.0) y))
good_step (Stmt-F.Call c) =
    subst OfStmt (sym (s.rolls-Call c)) (subst Good (sym (reaching_call c)) (λ frame names site numbers turn g. call_good frame names site numbers turn c (callee_of frame c.task) g))
good_step (Stmt-F.Map p k rs xs) =
    let ys = map (λ (q : S). q.0) xs in
    subst OfStmt (sym (s.rolls-Map p k rs ys)) (subst Good (sym (reaching_map p k rs ys)) (map_good p k rs (map reaching ys) (goods xs)))

good_stmt : (x : Stmt) → OfStmt x
good_stmt = ind-Stmt OfStmt (λ x y is. subst (λ z. OfStmt (roll-Stmt z)) is (good_step y))

good_stmts : (list : List Stmt) → AllGood (map reaching list)
good_stmts [] = tt
good_stmts (x ∷ list) = (good_stmt x, good_stmts list)

body_good : (b : Body) (frame : Frame) (scope : Scope) → AllTurns (reached_by_body b frame scope)
body_good (body.Inner list) frame scope = in_good (map reaching list) (good_stmts list) frame scope.names start scope.numbers None tt
body_good (body.Leaf list) frame scope = tt

where_good : (b : Body) (frame : Frame) (v : Value Scope) → AllTurns (reached_where b frame v)
where_good b frame (Ok scope) = body_good b frame scope
where_good b frame (Err f) = tt

with_good : (frame : Frame) (x : Instance) (v : Variant) (o : Option Scope) → AllTurns (reached_with frame x v o)
with_good frame x v None = tt
with_good frame x v (Some scope) = where_good v.body frame (all_declared x.tunings scope v.decls)

of_good : (variants : List Variant) (instances : List Instance) (k : ℕ) (f : Form) (o : Option Instance) (p : Option Variant)
    → AllTurns (reached_of variants instances k f o p)
of_good variants instances k f None None = tt
of_good variants instances k f None (Some v) = tt
of_good variants instances k f (Some x) None = tt
of_good variants instances k f (Some x) (Some v) = with_good (frame_at variants instances x k) x v (params_from empty_scope v.params 0 f.extents)

from_good : (variants : List Variant) (instances : List Instance) (k : ℕ) (f : Form) → AllTurns (reached_from variants instances k f)
from_good variants instances k f = of_good variants instances k f (slice_get instances f.instance) (variant_for variants (slice_get instances f.instance))

child_less : (rule : SpreadRule) (n : Node) (turn : Option Turn) → 0 < n.children → GoodTurn turn → child_for rule n turn < n.children
child_less rule n None some g = some
child_less rule n (Some u) some g = (spreads rule u.count n.children some).below u.t g

-- ---- a form is of its instance's level

record Levelled (instances : List Instance) (f : Found) : Type 0 where
  instance : Instance
  there : slice_get instances f.instance ≡ Some instance
  level : f.level ≡ instance.level

record AllLevelled (instances : List Instance) (forms : Forms) : Type 0 where
  each : (i : ℕ) (e : Key × Found) → slice_get forms i ≡ Some e → Levelled instances e.1
  -- the first is at the root
  first : (e : Key × Found) → slice_get forms 0 ≡ Some e → e.1.level ≡ 0
  some : 0 < length forms

found_in : (forms : Forms) (e f : Key × Found) (i : ℕ) → slice_get (forms ++ e ∷ []) i ≡ Some f → (slice_get forms i ≡ Some f) ⊎ (e ≡ f)
found_in [] e f zero h = inr (cc h)
found_in [] e f (suc i) h = absurd (cc h)
found_in (g ∷ forms) e f zero h = inl h
found_in (g ∷ forms) e f (suc i) h = found_in forms e f i h

front_same : {A : Type 0} (xs ys : List A) → 0 < length xs → slice_get (xs ++ ys) 0 ≡ slice_get xs 0
front_same [] ys h = absurd (omega (arith, h))
front_same (x ∷ xs) ys h = refl

longer : {A : Type 0} (xs : List A) (y : A) → 0 < length (xs ++ y ∷ [])
longer [] y = omega arith
longer (x ∷ xs) y = omega arith

level_added : (instances : List Instance) → Adding (AllLevelled instances) (Keyed instances)
level_added instances k forms c p less few holds = record {
  each = λ i f there. elim (found_in forms (c.key, c.form) f i there) [
    | inl old ↦ holds.each i f old
    | inr new ↦ subst (λ (e : Key × Found). Levelled instances e.1) new (record { instance = p.instance; there = p.there; level = p.level })
  ];
  first = λ e g. holds.first e (sym (front_same forms ((c.key, c.form) ∷ []) holds.some) ∙ g);
  some = longer forms (c.key, c.form);
}

entry_each : (program : Program) (levels : List Level) (mapping : Mapping) → Sound program levels mapping → (extents : List (List ℕ)) (i : ℕ) (e : Key × Found)
    → slice_get (with_entry mapping.entry extents).found i ≡ Some e → Levelled mapping.instances e.1
entry_each program levels mapping sound extents zero e h =
    subst (λ (d : Key × Found). Levelled mapping.instances d.1) (some_same _ e h) (record { instance = sound.entry.entry; there = sound.entry.there; level = sym sound.entry.root })
entry_each program levels mapping sound extents (suc i) e h = absurd (cc h)

all_levelled : (program : Program) (levels : List Level) (mapping : Mapping) → Sound program levels mapping → (r : Resolving)
    → resolution program.tasks mapping ≡ Ok r → AllLevelled mapping.instances r.found
all_levelled program levels mapping sound r h =
    all_hold program.tasks mapping (AllLevelled mapping.instances) (Keyed mapping.instances) (level_added mapping.instances) (keys_reached program.tasks mapping.instances)
    (λ extents g. record {
      each = entry_each program levels mapping sound extents;
      first = λ e i. sym (ap (λ (d : Key × Found). d.1.level) (some_same _ e i));
      some = omega arith;
    }) r h

at_index : {A : Type 0} (xs : List A) (k : ℕ) → k < length xs → (x : A) × (slice_get xs k ≡ Some x)
at_index [] k h = absurd (omega (arith, h))
at_index (x ∷ xs) zero h = (x, refl)
at_index (x ∷ xs) (suc k) h = at_index xs k (omega (arith, h))

-- what is found of a form of the answer
record FoundOf (r : Resolving) (k : ℕ) (f : Form) : Type 0 where
  found : Key × Found
  there : slice_get r.found k ≡ Some found
  level : f.level ≡ found.1.level

found_of : (program : Program) (mapping : Mapping) (r : Resolving) → resolution program.tasks mapping ≡ Ok r → (k : ℕ) (f : Form)
    → slice_get r.forms k ≡ Some f → FoundOf r k f
found_of program mapping r h k f there =
    let less = within_list r.forms k f there in
    let same_length = as_many_forms program.tasks mapping r h in
    let few = few_found program.tasks mapping r h in
    let e = at_index r.found k (omega (arith, less, same_length)) in
    let w = each_walked program.tasks mapping r h k e.0 (omega (arith, less, same_length, few)) e.1 in
    let is : with_locals e.0.1 w.done.locals ≡ f = some_same _ f (sym w.kept ∙ there) in
    record { found = e.0; there = e.1; level = sym (ap (λ (g : Form). g.level) is) }

-- ---- forms run at nodes of their level

module _ (program : Program) (machine : Hierarchy) (mapping : Mapping) (r : Resolving) (limits : WithinLimits machine) (sound : Sound program machine.levels mapping) (h : resolution program.tasks mapping ≡ Ok r) where
  abbrev At : ℕ → ℕ → Type 0
  At = AtLevel machine.nodes r.forms

  level_below : (k : ℕ) (f : Form) → slice_get r.forms k ≡ Some f → f.level < length machine.levels
  level_below k f there =
      let e = found_of program mapping r h k f there in
      let own = (all_levelled program machine.levels mapping sound r h).each k e.found e.there in
      let fits = (sound.instances e.found.1.instance own.instance own.there).level in
      omega (arith, e.level, own.level, fits)

  entry_at : At 0 0
  entry_at =
      let all = all_levelled program machine.levels mapping sound r h in
      let some = all.some in
      let f = at_index r.forms 0 (omega (arith, some, as_many_forms program.tasks mapping r h)) in
      let e = found_of program mapping r h 0 f.0 f.1 in
      let top = root machine limits in
      record { form = f.0; form_there = f.1; own = top.0; own_there = top.1; level = top.2 ∙ sym (e.level ∙ all.first e.found e.there) }

  beside_at : (caller callee node : ℕ) (from to : Form) (q : Reached) → IsCall program.tasks mapping.instances r.forms caller callee from to q
      → to.level ≡ from.level → At caller node → At callee node
  beside_at caller callee node from to q call level at =
      let same_form : at.form ≡ from = some_same at.form from (sym at.form_there ∙ call.caller_there) in
      record { form = to; form_there = call.callee_there; own = at.own; own_there = at.own_there; level = at.level ∙ (ap (λ (f : Form). f.level) same_form ∙ sym level) }

  below_at : (caller callee node lower : ℕ) (from to : Form) (q : Reached) → IsCall program.tasks mapping.instances r.forms caller callee from to q
      → to.level ≡ suc from.level → At caller node
      → StandsAt mapping.instances machine.nodes from q node lower → At callee lower
  below_at caller callee node lower from to q call level at stands =
      let same_form : at.form ≡ from = some_same at.form from (sym at.form_there ∙ call.caller_there) in
      let same_node : at.own ≡ stands.parent = some_same at.own stands.parent (sym at.own_there ∙ stands.there) in
      let parent_level : stands.parent.level ≡ from.level = sym (ap (λ (n : Node). n.level) same_node) ∙ (at.level ∙ ap (λ (f : Form). f.level) same_form) in
      let fits = limits.fits node stands.parent stands.there in
      let deep = level_below callee to call.callee_there in
      let some : 1 ≤ stands.parent.children = fits.some (omega (arith, deep, level, parent_level)) in
      let turn = turns_at (reached_from program.tasks mapping.instances caller from) (from_good program.tasks mapping.instances caller from) call.index q call.among in
      let less = child_less stands.instance.spread stands.parent q.turn (omega (arith, some)) turn in
      let c = child machine.nodes limits.arranged node (child_for stands.instance.spread stands.parent q.turn) stands.parent stands.there less in record {
        form = to;
        form_there = call.callee_there;
        own = c.0;
        own_there = ap (slice_get machine.nodes) stands.is ∙ c.1;
        level = c.2 ∙ (ap suc parent_level ∙ sym level);
      }

  runs_at : (k node : ℕ) → RunsAt program.tasks mapping.instances machine.nodes r.forms k node → At k node
  runs_at _ _ entry = entry_at
  runs_at k node (beside {caller} from to q call level runs) = beside_at caller k node from to q call level (runs_at caller node runs)
  runs_at k lower (below {caller} {callee} {node} from to q call level runs stands) = below_at caller k node lower from to q call level (runs_at caller node runs) stands

pub forms_run_at_their_level : FormsRunAtTheirLevel
forms_run_at_their_level program machine mapping r limits sound h k node runs = runs_at program machine mapping r limits sound h k node runs
