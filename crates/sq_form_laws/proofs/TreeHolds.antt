-- Forms are a tree: each is called from a form before it.
use Rattle.std.proofs.Common.{◌≡◌, ℕ, zero, suc, ◌+◌, ◌<◌, ◌⊎◌, inl, inr, Bool, true, false, List, [], ◌∷◌, ◌++◌, map, length, Option, Some, None, is_some, Ok, Err, if◌then◌else◌, refl, sym, ◌∙◌, ap, subst, arith, length-append}
use Rattle.std.specs.Prelude.{slice_get}
use Rattle.sq_text.specs.declared.place.Place.{Place}
use Rattle.sq_text.specs.declared.fault.Fault.{Fault}
use Rattle.sq_text.specs.Names.{Bytes}
use Rattle.sq_ast.specs.declared.expr.ArgUse.{ArgUse}
use Rattle.sq_ast.specs.declared.stmt.Call.{Call}
use Rattle.sq_ast.specs.declared.stmt.Range.{Range}
use Rattle.sq_ast.specs.declared.stmt.MapKind.{MapKind}
use Rattle.sq_ast.specs.declared.stmt.Stmt.{Stmt, roll-Stmt}
use Rattle.sq_ast.specs.declared.stmt.Stmt.TheVariants as s
use Rattle.sq_ast.specs.declared.stmt.Stmt.TheOpen.{Stmt-F}
use Rattle.sq_ast.specs.declared.stmt.Stmt.TheFolds.{ind-Stmt, map-Stmt}
use Rattle.sq_ast.specs.declared.program.Param.{Param}
use Rattle.sq_ast.specs.declared.program.Body.{Body}
use Rattle.sq_ast.specs.declared.program.Body.TheVariants as body
use Rattle.sq_ast.specs.declared.program.Variant.{Variant}
use Rattle.sq_forms.specs.Mappings.declared.mapping.Instance.{Instance}
use Rattle.sq_forms.specs.Mappings.declared.mapping.Mapping.{Mapping}
use Rattle.sq_blocks.specs.Names.{Numbers}
use Rattle.sq_forms.specs.declared.form.Caller.{Caller}
use Rattle.sq_forms.specs.declared.form.Found.{Found}
use Rattle.sq_forms.specs.Faults.{Value, and_then, value_or}
use Rattle.sq_forms.specs.Steps.{Step, State, Part, Called, Forms, Key, Opens, Counts, Tests, Calls, run, after_count, after_test, after_entry, number_of, with_form, key_number, most_forms}
use Rattle.sq_forms.specs.Args.{Names, use_step, args_steps}
use Rattle.sq_forms.specs.Tables.{variant_of}
use Rattle.sq_forms.specs.Worlds.{Frame, Callee, callee_of}
use Rattle.sq_forms.specs.Calls.{CallSite, served_steps}
use Rattle.sq_forms.specs.Stmts.{Walked, Portion, portion, all_of, after_calls, each, opens, outermost, within, iteration_steps, map_steps, bounds, times_of, in_iteration}
use Rattle.sq_forms.specs.Decls.{Scope, all_declared, params_from, empty_scope}
use Rattle.sq_forms.specs.Resolving.{Outcome, Resolving, no_walk, frame_in, walked_with, walked_by, walked_in, walk_of, body_steps, start, outcome_of, more, next_walked, walk_from, with_entry, entry_extents, entry_params}
use Rattle.sq_form_laws.specs.Laws.{CallersFirst}
use Rattle.sq_forms.proofs.OpenedStmt.{portion_call, portion_map}

-- ---- what is called in a form has it as its caller

abbrev IsFrom : ℕ → Found → Type 0
IsFrom k f = (call : ℕ) × (f.caller ≡ Some (record { form = k; call = call }))

OfForm : ℕ → List Step → Type 0
OfForm k [] = Unit {0}
OfForm k (Opens ∷ rest) = OfForm k rest
OfForm k (Counts place ∷ rest) = OfForm k rest
OfForm k (Tests o ∷ rest) = OfForm k rest
OfForm k (Calls c ∷ rest) = IsFrom k c.form × OfForm k rest

abbrev Keeping : ℕ → Part → Type 0
Keeping k part = (later : List Step) → OfForm k later → OfForm k (part later)

used_keeps : (k : ℕ) (outer : Option Place) → Keeping k (use_step outer)
unfolding OfForm
used_keeps k None later h = h
used_keeps k (Some place) later h = h

args_keep : (k : ℕ) (outer : Option Place) (names : Names) (numbers : Numbers) (reduced : Option Bytes) (params : List Param) (i : ℕ) (list : List ArgUse)
    → Keeping k (args_steps outer names numbers reduced params i list)
unfolding OfForm
args_keep k outer names numbers reduced params i [] later h = h
args_keep k outer names numbers reduced params i (a ∷ rest) later h = used_keeps k outer _ (args_keep k outer names numbers reduced params (i + 1) rest later h)

served_keeps : (frame : Frame) (names : Names) (site : CallSite) (numbers : Numbers) (c : Call) (o : Option Callee) → Keeping frame.form (served_steps frame names site numbers c o)
unfolding OfForm
served_keeps frame names site numbers c None later h = h
served_keeps frame names site numbers c (Some callee) later h =
    args_keep frame.form site.outer names numbers site.reduced callee.params 0 c.args _ ((site.call, refl), h)

each_keeps : (k : ℕ) (part : ℕ → Part) → ((t : ℕ) → Keeping k (part t)) → (t n : ℕ) → Keeping k (each t n part)
each_keeps k part p t zero later h = h
each_keeps k part p t (suc n) later h = p t (each (t + 1) n part later) (each_keeps k part p (t + 1) n later h)

opens_keep : (k : ℕ) (outer : Option Place) → Keeping k (opens outer)
unfolding OfForm
opens_keep k None later h = h
opens_keep k (Some outer) later h = h

abbrev Good : Walked → Type 0
Good steps = (frame : Frame) (names : Names) (site : CallSite) (numbers : Numbers) → Keeping frame.form (steps frame names site numbers)

abbrev AllGood : List Portion → Type 0
AllGood [] = Unit {0}
AllGood (p ∷ ps) = Good p.steps × AllGood ps

all_keep : (ps : List Portion) → AllGood ps → Good (all_of ps)
all_keep [] good frame names site numbers later h = h
all_keep (p ∷ ps) good frame names site numbers later h =
    good.0 frame names site numbers (all_of ps frame names (after_calls site p.calls) numbers later) (all_keep ps good.1 frame names (after_calls site p.calls) numbers later h)

map_keeps : (place : Place) (kind : MapKind) (ranges : List Range) (inner : Walked) → Good inner → Good (map_steps place kind ranges inner)
unfolding OfForm
map_keeps place kind ranges inner good frame names site numbers later h =
    let ns = bounds ranges numbers names.lists in
    opens_keep frame.form site.outer _
    (each_keeps frame.form (iteration_steps (outermost site.outer place) (within site place kind) ranges inner (value_or [] ns) frame names numbers)
    (λ t l g. used_keeps frame.form (Some (outermost site.outer place)) (inner frame names (within site place kind t) (in_iteration ranges (value_or [] ns) t numbers) l) (good frame names (within site place kind t) (in_iteration ranges (value_or [] ns) t numbers) l g)) 0 (times_of ns) later h)

abbrev OfStmt : Stmt → Type 0
OfStmt x = Good (portion x).steps

abbrev S : Type 0
S = (x : Stmt) × OfStmt x

goods : (xs : List S) → AllGood (map portion (map (λ (q : S). q.0) xs))
goods [] = tt
goods (x ∷ xs) = (x.1, goods xs)

abbrev GoodPortion : Portion → Type 0
GoodPortion p = Good p.steps

stmt_keeps : (y : Stmt-F S) → OfStmt (roll-Stmt (map-Stmt S Stmt (λ p. p.0) y))
stmt_keeps (Stmt-F.Call c) =
    subst OfStmt (sym (s.rolls-Call c)) (subst GoodPortion (sym (portion_call c)) (λ frame names site numbers. served_keeps frame names site numbers c (callee_of frame c.task)))
stmt_keeps (Stmt-F.Map p k rs xs) =
    let ys = map (λ (q : S). q.0) xs in
    subst OfStmt (sym (s.rolls-Map p k rs ys)) (subst GoodPortion (sym (portion_map p k rs ys)) (map_keeps p k rs (all_of (map portion ys)) (all_keep (map portion ys) (goods xs))))

of_stmt : (x : Stmt) → OfStmt x
of_stmt = ind-Stmt OfStmt (λ x y is. subst (λ z. OfStmt (roll-Stmt z)) is (stmt_keeps y))

all_good : (list : List Stmt) → AllGood (map portion list)
all_good [] = tt
all_good (x ∷ rest) = (of_stmt x, all_good rest)

body_keeps : (b : Body) (frame : Frame) (scope : Scope) → OfForm frame.form (body_steps b frame scope)
unfolding OfForm
body_keeps (body.Inner list) frame scope = all_keep (map portion list) (all_good list) frame scope.names start scope.numbers [] tt
body_keeps (body.Leaf list) frame scope = tt

-- ---- callers stand before their callees

record Tree (forms : Forms) : Type 0 where
  each : (i : ℕ) (e : Key × Found) (c : Caller) → slice_get forms i ≡ Some e → e.1.caller ≡ Some c → c.form < i

found_in : (forms : Forms) (e f : Key × Found) (i : ℕ) → slice_get (forms ++ e ∷ []) i ≡ Some f → (slice_get forms i ≡ Some f) ⊎ ((i ≡ length forms) × (e ≡ f))
found_in [] e f zero h = inr (refl, cc h)
found_in [] e f (suc i) h = absurd (cc h)
found_in (g ∷ forms) e f zero h = inl h
found_in (g ∷ forms) e f (suc i) h = elim (found_in forms e f i h) [ inl p ↦ inl p | inr p ↦ inr (ap suc p.0, p.1) ]

same_caller : (f : Found) (k call : ℕ) (c : Caller) → f.caller ≡ Some (record { form = k; call = call }) → f.caller ≡ Some c → k ≡ c.form
same_caller f k call c p q = let made : Caller = record { form = k; call = call } in let e : Some made ≡ Some c = sym p ∙ q in let g : made ≡ c = cc e in ap (λ (d : Caller). d.form) g

one_more : (forms : Forms) (e : Key × Found) (k : ℕ) → Tree forms → k < length forms → IsFrom k e.1 → Tree (forms ++ e ∷ [])
one_more forms e k tree less from = record {
  each = λ i f c there called. elim (found_in forms e f i there) [
    | inl old ↦ tree.each i f c old called
    | inr new ↦ let same = same_caller f.1 k from.0 c (ap (λ (g : Key × Found). g.1.caller) (sym new.1) ∙ from.1) called in omega (arith, new.0, same, less)
  ];
}

-- the forms are a tree, and the k-th is among them
record Stands (k : ℕ) (forms : Forms) : Type 0 where
  tree : Tree forms
  less : k < length forms

with_one : (b : Bool) (forms : Forms) (e : Key × Found) (k : ℕ) → Stands k forms → IsFrom k e.1 → Stands k (if b then forms else forms ++ e ∷ [])
with_one true forms e k h from = h
with_one false forms e k h from = record { tree = one_more forms e k h.tree h.less from; less = omega (arith, h.less, length-append forms (e ∷ [])) }

abbrev Rest : ℕ → State → List Step → Type 0
Rest k t rest = (u : State) → Stands k u.forms → run u rest ≡ Ok t → Tree t.forms

counted_stands : (k : ℕ) (s t : State) (place : Place) (rest : List Step) → Rest k t rest → Stands k s.forms → (n : ℕ) → and_then (after_count s place n) (λ u. run u rest) ≡ Ok t → Tree t.forms
counted_stands k s t place rest next p zero h = absurd (cc h)
counted_stands k s t place rest next p (suc n) h = next (record { left = n; forms = s.forms; uses = s.uses }) p h

tested_stands : (k : ℕ) (s t : State) (rest : List Step) → Rest k t rest → Stands k s.forms → (o : Option Fault) → and_then (after_test s o) (λ u. run u rest) ≡ Ok t → Tree t.forms
tested_stands k s t rest next p None h = next s p h
tested_stands k s t rest next p (Some f) h = absurd (cc h)

entered_stands : (k : ℕ) (s t : State) (c : Called) (rest : List Step) → Rest k t rest → Stands k s.forms → IsFrom k c.form → (o : Option ℕ) → and_then (after_entry s c o) (λ u. run u rest) ≡ Ok t → Tree t.forms
entered_stands k s t c rest next p from None h = absurd (cc h)
entered_stands k s t c rest next p from (Some n) h =
    next (record { left = s.left; forms = with_form s.forms c.key c.form; uses = s.uses ++ c.uses n }) (with_one (is_some (key_number s.forms c.key)) s.forms (c.key, c.form) k p from) h

run_stands : (k : ℕ) (steps : List Step) (s t : State) → OfForm k steps → Stands k s.forms → run s steps ≡ Ok t → Tree t.forms
unfolding OfForm
run_stands k [] s t of p h = let e : s ≡ t = cc h in subst (λ (u : State). Tree u.forms) e p.tree
run_stands k (Opens ∷ rest) s t of p h = run_stands k rest _ t of p h
run_stands k (Counts place ∷ rest) s t of p h = counted_stands k s t place rest (λ u q g. run_stands k rest u t of q g) p s.left h
run_stands k (Tests o ∷ rest) s t of p h = tested_stands k s t rest (λ u q g. run_stands k rest u t of q g) p o h
run_stands k (Calls c ∷ rest) s t of p h = entered_stands k s t c rest (λ u q g. run_stands k rest u t of.1 q g) p of.0 (number_of s.forms c.key) h

ran_tree : (k : ℕ) (scope : Scope) (s : State) (steps : List Step) (f : Outcome) → OfForm k steps → Stands k s.forms → (v : Value State) → run s steps ≡ v → and_then v (λ t. Ok (outcome_of scope t)) ≡ Ok f → Tree f.forms
ran_tree k scope s steps f of p (Ok t) e h = let is : outcome_of scope t ≡ f = cc h in subst (λ (g : Outcome). Tree g.forms) is (run_stands k steps s t of p e)
ran_tree k scope s steps f of p (Err x) e h = absurd (cc h)

abbrev begun_state : Forms → State
begun_state forms = record { left = 0; forms = forms; uses = [] }

declared_tree : (frame : Frame) (b : Body) (forms : Forms) (f : Outcome) → Stands frame.form forms → (d : Value Scope)
    → and_then d (λ s. and_then (run (begun_state forms) (body_steps b frame s)) (λ t. Ok (outcome_of s t))) ≡ Ok f → Tree f.forms
declared_tree frame b forms f p (Ok s) h = ran_tree frame.form s (begun_state forms) (body_steps b frame s) f (body_keeps b frame s) p (run (begun_state forms) (body_steps b frame s)) refl h
declared_tree frame b forms f p (Err x) h = absurd (cc h)

abbrev okay : Outcome → Value Outcome
okay f = Ok f

unwalked_tree : (forms : Forms) (f : Outcome) → Tree forms → okay (no_walk forms) ≡ Ok f → Tree f.forms
unwalked_tree forms f p h = let is : forms ≡ f.forms = cc h in subst Tree is p

module _ (variants : List Variant) (instances : List Instance) where
  with_tree : (x : Instance) (v : Variant) (k : ℕ) (form : Found) (forms : Forms) (f : Outcome) → Stands k forms → (o : Option Scope) → walked_with variants instances x v k form forms o ≡ Ok f → Tree f.forms
  with_tree x v k form forms f p None h = unwalked_tree forms f p.tree h
  with_tree x v k form forms f p (Some scope) h = declared_tree (frame_in variants instances x k form) v.body forms f p (all_declared x.tunings scope v.decls) h

  by_tree : (x : Instance) (k : ℕ) (form : Found) (forms : Forms) (f : Outcome) → Stands k forms → (o : Option Variant) → walked_by variants instances x k form forms o ≡ Ok f → Tree f.forms
  by_tree x k form forms f p None h = unwalked_tree forms f p.tree h
  by_tree x k form forms f p (Some v) h = with_tree x v k form forms f p (params_from empty_scope v.params 0 form.extents) h

  in_tree : (k : ℕ) (form : Found) (forms : Forms) (f : Outcome) → Stands k forms → (o : Option Instance) → walked_in variants instances k form forms o ≡ Ok f → Tree f.forms
  in_tree k form forms f p None h = unwalked_tree forms f p.tree h
  in_tree k form forms f p (Some x) h = by_tree x k form forms f p (variant_of variants x.task x.kind) h

  within_list : {A : Type 0} (xs : List A) (k : ℕ) (x : A) → slice_get xs k ≡ Some x → k < length xs
  within_list [] k x h = absurd (cc h)
  within_list (y ∷ xs) zero x h = omega arith
  within_list (y ∷ xs) (suc k) x h = let e = within_list xs k x h in omega (arith, e)

  next_tree : (n k : ℕ) (r s : Resolving) (form : Key × Found) → Tree r.found → slice_get r.found k ≡ Some form
      → ((t : Resolving) → Tree t.found → walk_from variants instances n (k + 1) t ≡ Ok s → Tree s.found) → (v : Value Outcome) → walk_of variants instances k form.1 r.found ≡ v
      → and_then (and_then v (λ o. Ok (more r form.1 o))) (λ t. walk_from variants instances n (k + 1) t) ≡ Ok s → Tree s.found
  next_tree n k r s form p there rest (Ok o) e h =
      rest (more r form.1 o) (in_tree k form.1 r.found o (record { tree = p; less = within_list r.found k form there }) (slice_get instances form.1.instance) e) h
  next_tree n k r s form p there rest (Err x) e h = absurd (cc h)

  found_tree : (n k : ℕ) (r s : Resolving) → Tree r.found → ((t : Resolving) → Tree t.found → walk_from variants instances n (k + 1) t ≡ Ok s → Tree s.found)
      → (o : Option (Key × Found)) → slice_get r.found k ≡ o → and_then (next_walked variants instances k r o) (λ t. walk_from variants instances n (k + 1) t) ≡ Ok s → Tree s.found
  found_tree n k r s p rest None there h = rest r p h
  found_tree n k r s p rest (Some form) there h = next_tree n k r s form p there rest (walk_of variants instances k form.1 r.found) refl h

  tree_from : (n k : ℕ) (r s : Resolving) → Tree r.found → walk_from variants instances n k r ≡ Ok s → Tree s.found
  tree_from zero k r s p h = let e : r ≡ s = cc h in subst (λ (t : Resolving). Tree t.found) e p
  tree_from (suc n) k r s p h = found_tree n k r s p (λ t q g. tree_from n (k + 1) t s q g) (slice_get r.found k) refl h

some_is_none : (c : Caller) → Some c ≡ None → ⊥
some_is_none c h = absurd (cc h)

abbrev first_caller : Option (Key × Found) → Option Caller
first_caller None = None
first_caller (Some f) = f.1.caller

no_caller : (instance : ℕ) (extents : List (List ℕ)) (e : Key × Found) → slice_get (with_entry instance extents).found 0 ≡ Some e → e.1.caller ≡ None
no_caller instance extents e h = sym (ap first_caller h)

entry_alone : (instance : ℕ) (extents : List (List ℕ)) (i : ℕ) (e : Key × Found) (c : Caller) → slice_get (with_entry instance extents).found i ≡ Some e → e.1.caller ≡ Some c → c.form < i
entry_alone instance extents zero e c h called =
    let none : e.1.caller ≡ None = no_caller instance extents e h in
    absurd (some_is_none c (sym called ∙ none))
entry_alone instance extents (suc i) e c h called = absurd (cc h)

begun_tree : (variants : List Variant) (mapping : Mapping) (r : Resolving) (v : Value (List (List ℕ)))
    → and_then v (λ extents. walk_from variants mapping.instances most_forms 0 (with_entry mapping.entry extents)) ≡ Ok r → Tree r.found
begun_tree variants mapping r (Err x) h = absurd (cc h)
begun_tree variants mapping r (Ok extents) h =
    tree_from variants mapping.instances most_forms 0 (with_entry mapping.entry extents) r (record { each = entry_alone mapping.entry extents }) h

pub callers_first : CallersFirst
callers_first variants mapping r h i e c there called =
    (begun_tree variants mapping r (entry_extents mapping.sizes (entry_params variants (slice_get mapping.instances mapping.entry))) h).each i e c there called
