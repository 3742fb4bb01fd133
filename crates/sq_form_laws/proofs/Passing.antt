-- Where the walk goes through, each call is reached.
use Rattle.std.proofs.Common.{◌≡◌, ℕ, zero, suc, ◌+◌, ◌<◌, Bool, true, false, List, [], ◌∷◌, ◌++◌, length, Option, Some, None, option_map, Ok, Err, refl, sym, ◌∙◌, ap, subst, arith}
use Rattle.std.specs.Prelude.{slice_get, ◌&&◌, if◌then◌else◌}
use Rattle.std.specs.List.{list_any}
use Rattle.sq_text.specs.declared.place.Place.{Place}
use Rattle.sq_text.specs.declared.fault.Fault.{Fault}
use Rattle.sq_text.specs.declared.code.Code.{Code}
use Rattle.sq_text.specs.declared.code.Code.TheVariants as code
use Rattle.sq_text.specs.Names.{Bytes}
use Rattle.sq_ast.specs.declared.expr.ArgUse.{ArgUse, out-ArgUse}
use Rattle.sq_ast.specs.declared.stmt.Call.{Call}
use Rattle.sq_ast.specs.declared.program.Param.{Param}
use Rattle.sq_ast.specs.declared.program.Body.{Body}
use Rattle.sq_blocks.specs.Names.{Numbers}
use Rattle.sq_blocks.specs.declared.argument.Argument.{Argument}
use Rattle.sq_forms.specs.Faults.{Value, fault_in, fault_named, and_then}
use Rattle.sq_forms.specs.Steps.{Step, State, Called, Opens, Counts, Tests, Calls, run, after_count, after_entry, number_of}
use Rattle.sq_forms.specs.Args.{Names, use_step, argument, arguments, args_steps, with_value}
use Rattle.sq_forms.specs.Worlds.{Frame, Callee, callee_of}
use Rattle.sq_forms.specs.Calls.{CallSite, call_of, reached_steps, fault_of_arg, depth_fault, is_too_deep, clashes, shape_from, alias_from, bind_there_all, misfit_or}
use Rattle.sq_ast.specs.Modes.{is_written}
use Rattle.sq_forms.specs.Decls.{Scope}
use Rattle.sq_forms.specs.Resolving.{body_steps}
use Rattle.sq_form_laws.specs.Reached.{AreExamined, IsReached, CallsAreReached, calls_in, body_calls}
use Rattle.sq_form_laws.proofs.EachCall.{InText, Kept, each_in_text, body_keeps}

-- ---- each call among steps

abbrev pub Everywhere : (Called → Type 0) → List Step → Type 0
Everywhere P [] = Unit {0}
Everywhere P (Opens ∷ rest) = Everywhere P rest
Everywhere P (Counts place ∷ rest) = Everywhere P rest
Everywhere P (Tests o ∷ rest) = Everywhere P rest
Everywhere P (Calls c ∷ rest) = P c × Everywhere P rest

pub at_each : (P : Called → Type 0) (steps : List Step) → Everywhere P steps → (i : ℕ) (c : Called) → slice_get (calls_in steps) i ≡ Some c → P c
at_each P [] all i c h = absurd (cc h)
at_each P (Opens ∷ rest) all i c h = at_each P rest all i c h
at_each P (Counts place ∷ rest) all i c h = at_each P rest all i c h
at_each P (Tests o ∷ rest) all i c h = at_each P rest all i c h
at_each P (Calls d ∷ rest) all zero c h = let e : d ≡ c = cc h in subst P e all.0
at_each P (Calls d ∷ rest) all (suc i) c h = at_each P rest all.1 i c h

pub of_each : (P : Called → Type 0) (steps : List Step) → ((i : ℕ) (c : Called) → slice_get (calls_in steps) i ≡ Some c → P c) → Everywhere P steps
of_each P [] f = tt
of_each P (Opens ∷ rest) f = of_each P rest f
of_each P (Counts place ∷ rest) f = of_each P rest f
of_each P (Tests o ∷ rest) f = of_each P rest f
of_each P (Calls c ∷ rest) f = (f 0 c refl, of_each P rest (λ i d h. f (suc i) d h))

-- ---- one step that goes through

pub past_count : (s t : State) (place : Place) (l : List Step) → run s (Counts place ∷ l) ≡ Ok t → (u : State) × (run u l ≡ Ok t)
past_count s t place l h = by s.left h
  where
    by : (n : ℕ) → and_then (after_count s place n) (λ u. run u l) ≡ Ok t → (u : State) × (run u l ≡ Ok t)
    by zero h = absurd (cc h)
    by (suc n) h = (record { left = n; forms = s.forms; uses = s.uses }, h)

pub past_test : (s t : State) (o : Option Fault) (l : List Step) → run s (Tests o ∷ l) ≡ Ok t → (o ≡ None) × (run s l ≡ Ok t)
past_test s t None l h = (refl, h)
past_test s t (Some f) l h = absurd (cc h)

pub past_call : (s t : State) (c : Called) (l : List Step) → run s (Calls c ∷ l) ≡ Ok t → (u : State) × (run u l ≡ Ok t)
past_call s t c l h = by (number_of s.forms c.key) h
  where
    by : (o : Option ℕ) → and_then (after_entry s c o) (λ u. run u l) ≡ Ok t → (u : State) × (run u l ≡ Ok t)
    by None h = absurd (cc h)
    by (Some n) h = (_, h)

-- ---- arguments

pub past_use : (s t : State) (outer : Option Place) (l : List Step) → run s (use_step outer l) ≡ Ok t → (u : State) × (run u l ≡ Ok t)
past_use s t None l h = (s, h)
past_use s t (Some place) l h = past_count s t place l h

module _ (outer : Option Place) (names : Names) (numbers : Numbers) (reduced : Option Bytes) (params : List Param) where
  one_examined : (i : ℕ) (a : ArgUse) (rest : List ArgUse) (v : Value Argument) → argument names numbers reduced (slice_get params i) a ≡ v → fault_in v ≡ None
      → AreExamined names numbers reduced params (i + 1) rest (arguments names numbers reduced params (i + 1) rest)
      → AreExamined names numbers reduced params i (a ∷ rest) (with_value v (arguments names numbers reduced params (i + 1) rest))
  one_examined i a rest (Ok x) e none h = (e, h)
  one_examined i a rest (Err f) e none h = absurd (cc none)

  pub args_passed : (i : ℕ) (list : List ArgUse) (later : List Step) (s t : State) → run s (args_steps outer names numbers reduced params i list later) ≡ Ok t
      → (u : State) × (run u later ≡ Ok t) × AreExamined names numbers reduced params i list (arguments names numbers reduced params i list)
  args_passed i [] later s t h = (s, h, tt)
  args_passed i (a ∷ rest) later s t h =
      let value = argument names numbers reduced (slice_get params i) a in
      let more = args_steps outer names numbers reduced params (i + 1) rest later in
      let p = past_use s t outer (Tests (fault_in value) ∷ more) h in
      let q = past_test p.0 t (fault_in value) more p.1 in
      let r = args_passed (i + 1) rest later p.0 t q.1 in
      (r.0, r.1, one_examined i a rest value refl q.0 r.2)

  use_everywhere : (P : Called → Type 0) (o : Option Place) (later : List Step) → Everywhere P later → Everywhere P (use_step o later)
  use_everywhere P None later h = h
  use_everywhere P (Some place) later h = h

  pub args_everywhere : (P : Called → Type 0) (i : ℕ) (list : List ArgUse) (later : List Step) → Everywhere P later
      → Everywhere P (args_steps outer names numbers reduced params i list later)
  args_everywhere P i [] later h = h
  args_everywhere P i (a ∷ rest) later h =
      use_everywhere P outer (Tests (fault_in (argument names numbers reduced (slice_get params i) a)) ∷ args_steps outer names numbers reduced params (i + 1) rest later)
      (args_everywhere P (i + 1) rest later h)

  pub as_many : (i : ℕ) (list : List ArgUse) (xs : List Argument) → AreExamined names numbers reduced params i list xs → length xs ≡ length list
  as_many i [] [] h = refl
  as_many i [] (x ∷ xs) h = absurd h
  as_many i (a ∷ list) [] h = absurd h
  as_many i (a ∷ list) (x ∷ xs) h = ap suc (as_many (i + 1) list xs h.1)

-- ---- the tests of a call

found_arg : (xs : List ArgUse) (i : ℕ) → i < length xs → (a : ArgUse) × (slice_get xs i ≡ Some a)
found_arg [] i h = absurd (omega (arith, h))
found_arg (x ∷ xs) zero h = (x, refl)
found_arg (x ∷ xs) (suc i) h = found_arg xs i (omega (arith, h))

abbrev arg_fault : Code → ArgUse → Fault
arg_fault c a = fault_named c (out-ArgUse a).place (out-ArgUse a).name

no_fault : (c : Code) (args : List ArgUse) (o : Option ℕ) → ((i : ℕ) → o ≡ Some i → i < length args) → fault_of_arg c args o ≡ None → o ≡ None
no_fault c args None below h = refl
no_fault c args (Some i) below h =
    let a = found_arg args i (below i refl) in
    let e : fault_of_arg c args (Some i) ≡ Some (arg_fault c a.0) = ap (λ (o : Option ArgUse). option_map (arg_fault c) o) a.1 in
    absurd (cc (sym h ∙ e))

inside : {A : Type 0} (xs : List A) (k : ℕ) (x : A) → slice_get xs k ≡ Some x → k < length xs
inside [] k x h = absurd (cc h)
inside (y ∷ xs) zero x h = omega arith
inside (y ∷ xs) (suc k) x h = let e = inside xs k x h in omega (arith, e)

some_same : {A : Type 0} (x y : A) → Some x ≡ Some y → x ≡ y
some_same x y h = cc h

bound_below : (i j : ℕ) (xs : List Argument) (x : Argument) (o : Option Numbers) (next : Numbers → Option ℕ) → slice_get xs i ≡ Some x
    → ((more : Numbers) → next more ≡ Some j → j < length xs) → misfit_or i o next ≡ Some j → j < length xs
bound_below i j xs x None next e rest h = let k = inside xs i x e in let same = some_same i j h in omega (arith, k, same)
bound_below i j xs x (Some more) next e rest h = rest more h

there_below : (i j : ℕ) (sizes : Numbers) (p : Param) (xs : List Argument) (next : Numbers → Option ℕ) → ((more : Numbers) → next more ≡ Some j → j < length xs)
    → (o : Option Argument) → slice_get xs i ≡ o → misfit_or i (bind_there_all sizes p o) next ≡ Some j → j < length xs
there_below i j sizes p xs next rest None e h = rest sizes h
there_below i j sizes p xs next rest (Some x) e h = bound_below i j xs x (bind_there_all sizes p (Some x)) next e rest h

shape_below : (i : ℕ) (sizes : Numbers) (ps : List Param) (xs : List Argument) (j : ℕ) → shape_from i sizes ps xs ≡ Some j → j < length xs
shape_below i sizes [] xs j h = absurd (cc h)
shape_below i sizes (p ∷ ps) xs j h =
    there_below i j sizes p xs (λ more. shape_from (i + 1) more ps xs) (λ more g. shape_below (i + 1) more ps xs j g) (slice_get xs i) refl h

clash_below : (b : Bool) (i j n : ℕ) (o : Option ℕ) → (o ≡ Some j → j < i + suc n) → (if b then Some i else o) ≡ Some j → j < i + suc n
clash_below true i j n o rest h = let e = some_same i j h in omega (arith, e)
clash_below false i j n o rest h = rest h

alias_below : (i : ℕ) (before xs : List Argument) (j : ℕ) → alias_from i before xs ≡ Some j → j < i + length xs
alias_below i before [] j h = absurd (cc h)
alias_below i before (x ∷ xs) j h =
    clash_below (is_written x.mode && list_any (clashes x) before) i j (length xs) (alias_from (i + 1) (before ++ x ∷ []) xs)
    (λ g. let e = alias_below (i + 1) (before ++ x ∷ []) xs j g in omega (arith, e)) h

not_chosen : (b : Bool) (f : Fault) → (if b then Some f else None) ≡ None → b ≡ false
not_chosen true f h = absurd (cc h)
not_chosen false f h = refl

-- ---- calls that are reached

abbrev pub Fine : (Called → Type 0) → List Step → Type 0
Fine P l = (s t : State) → run s l ≡ Ok t → Everywhere P l

module _ (frame : Frame) (names : Names) (text : List Call) where
  -- a call that is reached so, with these arguments
  pub record Reaches (site : CallSite) (numbers : Numbers) (c : Call) (callee : Callee) (xs : List Argument) : Type 0 where
    pub reached : IsReached frame names text (call_of frame callee site c xs)
    pub stmt : reached.call ≡ c
    pub spot_ : reached.site ≡ site
    pub args : reached.arguments ≡ xs
    pub callee_ : reached.callee ≡ callee

  -- where its steps go through, and what is left behind it
  pub record Behind (site : CallSite) (numbers : Numbers) (c : Call) (callee : Callee) (xs : List Argument) (l : List Step) (t : State) : Type 0 where
    pub reaches : Reaches site numbers c callee xs
    pub state : State
    pub ran : run state l ≡ Ok t

  pub call_reached : (site : CallSite) (numbers : Numbers) (c : Call) (callee : Callee) (l : List Step) → InText text c → callee_of frame c.task ≡ Some callee
      → (s t : State) → run s (args_steps site.outer names numbers site.reduced callee.params 0 c.args (reached_steps frame callee site c (arguments names numbers site.reduced callee.params 0 c.args) l)) ≡ Ok t
      → Behind site numbers c callee (arguments names numbers site.reduced callee.params 0 c.args) l t
  call_reached site numbers c callee l m e s t h =
      let xs = arguments names numbers site.reduced callee.params 0 c.args in
      let made = call_of frame callee site c xs in
      let shape = shape_from 0 [] callee.params xs in
      let alias = alias_from 0 [] xs in
      let a = args_passed site.outer names numbers site.reduced callee.params 0 c.args (reached_steps frame callee site c xs l) s t h in
      let after_depth = Calls made ∷ l in
      let after_alias = Tests (depth_fault frame site c) ∷ after_depth in
      let after_shape = Tests (fault_of_arg code.Alias c.args alias) ∷ after_alias in
      let p = past_test a.0 t (fault_of_arg code.Shape c.args shape) after_shape a.1 in
      let q = past_test a.0 t (fault_of_arg code.Alias c.args alias) after_alias p.1 in
      let r = past_test a.0 t (depth_fault frame site c) after_depth q.1 in
      let u = past_call a.0 t made l r.1 in
      let many = as_many site.outer names numbers site.reduced callee.params 0 c.args xs a.2 in
      record {
        reaches = record {
          reached = record {
            call = c;
            position = m.position;
            among = m.among;
            site = site;
            numbers = numbers;
            callee = callee;
            serves = e;
            arguments = xs;
            examined = a.2;
            shape = no_fault code.Shape c.args shape (λ i g. let k = shape_below 0 [] callee.params xs i g in omega (arith, k, many)) p.0;
            alias = no_fault code.Alias c.args alias (λ i g. let k = alias_below 0 [] xs i g in omega (arith, k, many)) q.0;
            depth = not_chosen (is_too_deep frame site) (fault_named code.LimitDepth c.place c.task) r.0;
            is = refl;
          };
          stmt = refl;
          spot_ = refl;
          args = refl;
          callee_ = refl;
        };
        state = u.0;
        ran = u.1;
      }

  call_passed : (site : CallSite) (numbers : Numbers) (c : Call) (callee : Callee) (l : List Step) → InText text c → callee_of frame c.task ≡ Some callee
      → Fine (IsReached frame names text) l
      → Fine (IsReached frame names text) (args_steps site.outer names numbers site.reduced callee.params 0 c.args (reached_steps frame callee site c (arguments names numbers site.reduced callee.params 0 c.args) l))
  call_passed site numbers c callee l m e later s t h =
      let xs = arguments names numbers site.reduced callee.params 0 c.args in
      let b = call_reached site numbers c callee l m e s t h in
      args_everywhere site.outer names numbers site.reduced callee.params (IsReached frame names text) 0 c.args (reached_steps frame callee site c xs l)
      (b.reaches.reached, later b.state t b.ran)

  fine_kept : Kept frame names (InText text) (Fine (IsReached frame names text))
  fine_kept = record {
    opened = λ l f s t h. f _ t h;
    counted = λ place l f s t h. let p = past_count s t place l h in f p.0 t p.1;
    tested = λ o l f s t h. f s t (past_test s t o l h).1;
    served = call_passed;
  }

pub reached_everywhere : (b : Body) (frame : Frame) (scope : Scope) (s t : State) → run s (body_steps b frame scope) ≡ Ok t
    → Everywhere (IsReached frame scope.names (body_calls b)) (body_steps b frame scope)
reached_everywhere b frame scope s t h =
    let text = body_calls b in
    body_keeps frame scope.names (InText text) (Fine (IsReached frame scope.names text)) (fine_kept frame scope.names text) b scope refl (each_in_text text) (λ u v g. tt) s t h

pub calls_are_reached : CallsAreReached
calls_are_reached b frame scope s t h i c there = at_each (IsReached frame scope.names (body_calls b)) (body_steps b frame scope) (reached_everywhere b frame scope s t h) i c there
