-- Each call is served by an instance with a variant.
use Rattle.std.proofs.Common.{◌≡◌, ℕ, zero, suc, ◌+◌, Bool, true, false, List, [], ◌∷◌, ◌++◌, map, Option, Some, None, option_map, refl, sym, ◌∙◌, ap, subst, arith}
use Rattle.std.specs.Prelude.{slice_get, ◌&&◌, ◌||◌, if◌then◌else◌}
use Rattle.std.specs.List.{fold, flat_map}
use Rattle.sq_text.specs.declared.place.Place.{Place}
use Rattle.sq_text.specs.Names.{Bytes, same_name, first_from}
use Rattle.sq_ast.specs.declared.stmt.Call.{Call}
use Rattle.sq_ast.specs.declared.stmt.Range.{Range}
use Rattle.sq_ast.specs.declared.stmt.MapKind.{MapKind}
use Rattle.sq_ast.specs.declared.stmt.Stmt.{Stmt, roll-Stmt}
use Rattle.sq_ast.specs.declared.stmt.Stmt.TheVariants as s
use Rattle.sq_ast.specs.declared.stmt.Stmt.TheOpen.{Stmt-F}
use Rattle.sq_ast.specs.declared.stmt.Stmt.TheFolds.{ind-Stmt, map-Stmt, fold-roll-Stmt}
use Rattle.sq_ast.specs.declared.program.Body.{Body}
use Rattle.sq_ast.specs.declared.program.Body.TheVariants as body
use Rattle.sq_ast.specs.declared.program.VariantKind.{VariantKind}
use Rattle.sq_ast.specs.declared.program.VariantKind.TheVariants.{Inner, Leaf}
use Rattle.sq_ast.specs.declared.program.Variant.{Variant}
use Rattle.sq_forms.specs.Mappings.declared.mapping.Route.{Route}
use Rattle.sq_forms.specs.Mappings.Names as names
use Rattle.sq_forms.specs.Mappings.Required.{with_name, tasks_step, tasks_of, body_tasks, required_by}
use Rattle.sq_forms.proofs.Mappings.Same.{same, itself}
use Rattle.sq_forms.specs.Tables.{same_kind, at_index, route_of, first_of_kind, variant_of}
use Rattle.sq_forms.specs.Worlds.{Callee, callee_of, callee_at, served_by, as_callee}
use Rattle.sq_forms.specs.Resolving.{frame_in}
use Rattle.sq_form_laws.specs.Reached.{concat, text_calls, body_calls}
use Rattle.sq_form_laws.specs.Served.{CallsAreServed}
use Rattle.sq_form_laws.proofs.EachCall.{AllIn, all_joined, text_call, text_map}

-- ---- variants, as the mapping's rules find them

kinds_same : (a b : VariantKind) → same_kind a b ≡ names.same_kind b a
kinds_same Inner Inner = refl
kinds_same Inner Leaf = refl
kinds_same Leaf Inner = refl
kinds_same Leaf Leaf = refl

chosen_same : (a b : Bool) (i : ℕ) (o p : Option ℕ) → o ≡ p → (if a then (if b then Some i else o) else o) ≡ (if b && a then Some i else p)
chosen_same true true i o p e = refl
chosen_same true false i o p e = e
chosen_same false true i o p e = e
chosen_same false false i o p e = e

first_same : (kind : VariantKind) (i : ℕ) (vs : List Variant) (task : Bytes) → first_of_kind kind i vs task ≡ names.first_from (names.is_variant task kind) i vs
first_same kind i [] task = refl
first_same kind i (v ∷ rest) task =
    let more = first_same kind (suc i) rest task in
    let o = first_of_kind kind (suc i) rest task in
    ap (λ b. if b then (if same_name task v.task then Some i else o) else o) (kinds_same v.kind kind)
    ∙ chosen_same (names.same_kind kind v.kind) (same_name task v.task) i o (names.first_from (names.is_variant task kind) (suc i) rest) more

at_same : {A : Type 0} (xs : List A) (o : Option ℕ) → at_index xs o ≡ names.at_index xs o
at_same xs None = refl
at_same xs (Some i) = refl

pub variant_same : (vs : List Variant) (task : Bytes) (kind : VariantKind) → variant_of vs task kind ≡ names.variant_of vs task kind
variant_same vs task kind = at_same vs (first_of_kind kind 0 vs task) ∙ ap (names.at_index vs) (first_same kind 0 vs task)

-- ---- the tasks that are called

tasks_call : (c : Call) → tasks_of (s.Call c) ≡ c.task ∷ []
tasks_call c = ap tasks_of (sym (s.rolls-Call c)) ∙ fold-roll-Stmt (List Bytes) tasks_step (Stmt-F.Call c)

parts_map : (xs : List Stmt) → flat_map (λ part. part) (map tasks_of xs) ≡ flat_map tasks_of xs
parts_map [] = refl
parts_map (x ∷ xs) = ap (λ l. tasks_of x ++ l) (parts_map xs)

tasks_map : (p : Place) (k : MapKind) (rs : List Range) (xs : List Stmt) → tasks_of (s.Map p k rs xs) ≡ flat_map tasks_of xs
tasks_map p k rs xs = ap tasks_of (sym (s.rolls-Map p k rs xs)) ∙ (fold-roll-Stmt (List Bytes) tasks_step (Stmt-F.Map p k rs xs) ∙ parts_map xs)

-- the call's task is among these
abbrev pub IsNamed : List Bytes → Call → Type 0
IsNamed tasks c = names.is_among tasks c.task ≡ true

or_right : (a b : Bool) → b ≡ true → (a || b) ≡ true
or_right true b h = refl
or_right false b h = h

or_left : (a b : Bool) → a ≡ true → (a || b) ≡ true
or_left true b h = refl
or_left false b h = absurd (cc h)

among_front : (xs ys : List Bytes) (n : Bytes) → names.is_among xs n ≡ true → names.is_among (xs ++ ys) n ≡ true
among_front [] ys n h = absurd (cc h)
among_front (x ∷ xs) ys n h = by (same_name n x) (among_front xs ys n) h
  where
    by : (b : Bool) → (names.is_among xs n ≡ true → names.is_among (xs ++ ys) n ≡ true) → (b || names.is_among xs n) ≡ true
        → (b || names.is_among (xs ++ ys) n) ≡ true
    by true f g = refl
    by false f g = f g

among_back : (xs ys : List Bytes) (n : Bytes) → names.is_among ys n ≡ true → names.is_among (xs ++ ys) n ≡ true
among_back [] ys n h = h
among_back (x ∷ xs) ys n h = or_right (same_name n x) (names.is_among (xs ++ ys) n) (among_back xs ys n h)

named_front : (xs ys : List Bytes) (cs : List Call) → AllIn (IsNamed xs) cs → AllIn (IsNamed (xs ++ ys)) cs
named_front xs ys [] h = tt
named_front xs ys (c ∷ cs) h = (among_front xs ys c.task h.0, named_front xs ys cs h.1)

named_back : (xs ys : List Bytes) (cs : List Call) → AllIn (IsNamed ys) cs → AllIn (IsNamed (xs ++ ys)) cs
named_back xs ys [] h = tt
named_back xs ys (c ∷ cs) h = (among_back xs ys c.task h.0, named_back xs ys cs h.1)

abbrev OfStmt : Stmt → Type 0
OfStmt x = AllIn (IsNamed (tasks_of x)) (text_calls x)

abbrev S : Type 0
S = (x : Stmt) × OfStmt x

named_both : (xs ys : List Bytes) (cs ds : List Call) → AllIn (IsNamed xs) cs → AllIn (IsNamed ys) ds → AllIn (IsNamed (xs ++ ys)) (cs ++ ds)
named_both xs ys cs ds g h = all_joined (IsNamed (xs ++ ys)) cs ds (named_front xs ys cs g) (named_back xs ys ds h)

named_parts : (xs : List S) → AllIn (IsNamed (flat_map tasks_of (map (λ (q : S). q.0) xs))) (concat (map text_calls (map (λ (q : S). q.0) xs)))
named_parts [] = tt
named_parts (x ∷ xs) =
    named_both (tasks_of x.0) (flat_map tasks_of (map (λ (q : S). q.0) xs)) (text_calls x.0) (concat (map text_calls (map (λ (q : S). q.0) xs))) x.1 (named_parts xs)

named_call : (c : Call) → OfStmt (s.Call c)
named_call c = subst (λ tasks. AllIn (IsNamed tasks) (text_calls (s.Call c))) (sym (tasks_call c))
    (subst (AllIn (IsNamed (c.task ∷ []))) (sym (text_call c)) (or_left (same_name c.task c.task) false (itself c.task), tt))

named_map : (p : Place) (k : MapKind) (rs : List Range) (xs : List S) → OfStmt (s.Map p k rs (map (λ (q : S). q.0) xs))
named_map p k rs xs =
    let ys = map (λ (q : S). q.0) xs in
    subst (λ tasks. AllIn (IsNamed tasks) (text_calls (s.Map p k rs ys))) (sym (tasks_map p k rs ys))
    (subst (AllIn (IsNamed (flat_map tasks_of ys))) (sym (text_map p k rs ys)) (named_parts xs))

named_step : (y : Stmt-F S) → OfStmt (roll-Stmt (map-Stmt S Stmt (λ p. p.0) y))
named_step (Stmt-F.Call c) = subst OfStmt (sym (s.rolls-Call c)) (named_call c)
named_step (Stmt-F.Map p k rs xs) = subst OfStmt (sym (s.rolls-Map p k rs (map (λ (q : S). q.0) xs))) (named_map p k rs xs)

named_stmt : (x : Stmt) → OfStmt x
named_stmt = ind-Stmt OfStmt (λ x y is. subst (λ z. OfStmt (roll-Stmt z)) is (named_step y))

named_stmts : (list : List Stmt) → AllIn (IsNamed (flat_map tasks_of list)) (concat (map text_calls list))
named_stmts [] = tt
named_stmts (x ∷ list) = named_both (tasks_of x) (flat_map tasks_of list) (text_calls x) (concat (map text_calls list)) (named_stmt x) (named_stmts list)

named_body : (b : Body) → AllIn (IsNamed (body_tasks b)) (body_calls b)
named_body (body.Inner list) = named_stmts list
named_body (body.Leaf list) = tt

pub all_at : (M : Call → Type 0) (cs : List Call) → AllIn M cs → (i : ℕ) (c : Call) → slice_get cs i ≡ Some c → M c
all_at M [] h i c g = absurd (cc g)
all_at M (d ∷ cs) h zero c g = let e : d ≡ c = cc g in subst M e h.0
all_at M (d ∷ cs) h (suc i) c g = all_at M cs h.1 i c g

-- ---- each once

with_more : (known : List Bytes) (x n : Bytes) → names.is_among known n ≡ true → names.is_among (with_name known x) n ≡ true
with_more known x n h = by (names.is_among known x)
  where
    by : (b : Bool) → names.is_among (if b then known else known ++ x ∷ []) n ≡ true
    by true = h
    by false = among_front known (x ∷ []) n h

with_own : (known : List Bytes) (n : Bytes) → names.is_among (with_name known n) n ≡ true
with_own known n = by (names.is_among known n) refl
  where
    by : (b : Bool) → names.is_among known n ≡ b → names.is_among (if b then known else known ++ n ∷ []) n ≡ true
    by true e = e
    by false e = among_back known (n ∷ []) n (or_left (same_name n n) false (itself n))

kept_among : (xs known : List Bytes) (n : Bytes) → names.is_among known n ≡ true → names.is_among (fold with_name known xs) n ≡ true
kept_among [] known n h = h
kept_among (x ∷ xs) known n h = kept_among xs (with_name known x) n (with_more known x n h)

come_among : (xs known : List Bytes) (n : Bytes) → names.is_among xs n ≡ true → names.is_among (fold with_name known xs) n ≡ true
come_among [] known n h = absurd (cc h)
come_among (x ∷ xs) known n h = by (same_name n x) refl (come_among xs (with_name known x) n) h
  where
    by : (b : Bool) → same_name n x ≡ b → (names.is_among xs n ≡ true → names.is_among (fold with_name (with_name known x) xs) n ≡ true)
        → (b || names.is_among xs n) ≡ true
        → names.is_among (fold with_name (with_name known x) xs) n ≡ true
    by true e f g = kept_among xs (with_name known x) n (subst (λ m. names.is_among (with_name known m) n ≡ true) (same n x e) (with_own known n))
    by false e f g = f g

-- ---- routes

-- where a name first stands
record First (list : List Bytes) (i : ℕ) (n : Bytes) : Type 0 where
  index : ℕ
  first : first_from i list n ≡ Some (i + index)
  there : slice_get list index ≡ Some n

first_here : (x : Bytes) (list : List Bytes) (i : ℕ) (n : Bytes) → same_name n x ≡ true → First (x ∷ list) i n
first_here x list i n e = record {
  index = 0;
  first = ap (λ b. if b then Some i else first_from (suc i) list n) e ∙ ap Some (let z : i ≡ i + 0 = omega arith in z);
  there = ap Some (sym (same n x e));
}

first_later : (x : Bytes) (list : List Bytes) (i : ℕ) (n : Bytes) → same_name n x ≡ false → First list (suc i) n → First (x ∷ list) i n
first_later x list i n e f = record {
  index = suc f.index;
  first = ap (λ b. if b then Some i else first_from (suc i) list n) e ∙ (f.first ∙ ap Some (let z : suc i + f.index ≡ i + suc f.index = omega arith in z));
  there = f.there;
}

first_by : (x : Bytes) (list : List Bytes) (i : ℕ) (n : Bytes) (b : Bool) → same_name n x ≡ b → (names.is_among list n ≡ true → First list (suc i) n)
    → (b || names.is_among list n) ≡ true → First (x ∷ list) i n
first_by x list i n true e f h = first_here x list i n e
first_by x list i n false e f h = first_later x list i n e (f h)

first_among : (list : List Bytes) (i : ℕ) (n : Bytes) → names.is_among list n ≡ true → First list i n
first_among [] i n h = absurd (cc h)
first_among (x ∷ list) i n h = first_by x list i n (same_name n x) refl (first_among list (suc i) n) h

-- the item that has a name
of_map : {A B : Type 0} (f : A → B) (xs : List A) (i : ℕ) (b : B) → slice_get (map f xs) i ≡ Some b → (a : A) × (slice_get xs i ≡ Some a) × (f a ≡ b)
of_map f [] i b h = absurd (cc h)
of_map f (x ∷ xs) zero b h = (x, refl, cc h)
of_map f (x ∷ xs) (suc i) b h = of_map f xs i b h

-- a route of a task, and the instance to which it leads
record Routed (routes : List Route) (task : Bytes) : Type 0 where
  index : ℕ
  route : Route
  there : slice_get routes index ≡ Some route
  is : route.task ≡ task
  leads : route_of routes task ≡ Some route.instance

routed_to : (routes : List Route) (task : Bytes) → names.is_among (map (λ route. route.task) routes) task ≡ true → Routed routes task
routed_to routes task h =
    let f = first_among (map (λ (r : Route). r.task) routes) 0 task h in
    let r = of_map (λ (r : Route). r.task) routes f.index task f.there in
    let z : 0 + f.index ≡ f.index = omega arith in record {
      index = f.index;
      route = r.0;
      there = r.1;
      is = r.2;
      leads = ap (λ o. option_map (λ (q : Route). q.instance) (at_index routes o)) (f.first ∙ ap Some z) ∙ ap (option_map (λ (q : Route). q.instance)) r.1;
    }

pub calls_are_served : CallsAreServed
calls_are_served program levels mapping sound number x v there runs i c at k f =
    let fits = sound.instances number x there in
    let own : fits.variant ≡ v = some_same fits.variant v (sym fits.runs ∙ (sym (variant_same program.tasks x.task x.kind) ∙ runs)) in
    let text : names.is_among (body_tasks v.body) c.task ≡ true = all_at (IsNamed (body_tasks v.body)) (body_calls v.body) (named_body v.body) i c at in
    let required : names.is_among (required_by v).calls c.task ≡ true = come_among (body_tasks v.body) [] c.task text in
    let given = fits.calls.all c.task (ap (λ (w : Variant). names.is_among (required_by w).calls c.task) own ∙ required) in
    let route = routed_to x.routes c.task given in
    let leads = fits.routes route.index route.route route.there in
    let y = leads.callee in
    let callee_fits = sound.instances route.route.instance y leads.there in
    let w = callee_fits.variant in
    let variant : variant_of program.tasks y.task y.kind ≡ Some w = variant_same program.tasks y.task y.kind ∙ callee_fits.runs in
    let frame = frame_in program.tasks mapping.instances x k f in
    let made : Callee = record { instance = route.route.instance; level = y.level; params = w.params } in
    let serves : callee_of frame c.task ≡ Some made =
    ap (callee_at frame) route.leads ∙ (ap (served_by frame route.route.instance) leads.there ∙ ap (as_callee route.route.instance y) variant) in
    (made, serves, record { instance = y; there = leads.there; task = leads.task ∙ route.is; level = refl; near = leads.level; variant = w; runs = variant; params = refl })
  where
    some_same : {A : Type 0} (a b : A) → Some a ≡ Some b → a ≡ b
    some_same a b h = cc h
