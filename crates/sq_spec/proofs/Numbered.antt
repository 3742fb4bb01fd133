-- Where callees are known by their numbers, the statements of a form do the same, one iteration after another.
use Rattle.std.proofs.Common.{◌≡◌, ℕ, zero, suc, ◌+◌, ◌<◌, nat_eq, Bool, ◌||◌, List, [], ◌∷◌, map, slice_get, Option, Some, None, Ok, refl, sym, ap, ap₂, ◌∙◌, subst, arith}
use mathlib.Core.Path.{fun_ext}
use Rattle.sq_ast.specs.Num.declared.Elem.{Elem}
use Rattle.sq_text.specs.declared.place.Place.{Place}
use Rattle.sq_text.specs.Names.{Bytes}
use Rattle.sq_ast.specs.declared.expr.ArgUse.{ArgUse}
use Rattle.sq_ast.specs.declared.program.Param.{Param}
use Rattle.sq_ast.specs.declared.stmt.Call.{Call as CallStmt}
use Rattle.sq_ast.specs.declared.stmt.Range.{Range}
use Rattle.sq_ast.specs.declared.stmt.MapKind.{MapKind}
use Rattle.sq_ast.specs.declared.stmt.Stmt.{Stmt, roll-Stmt}
use Rattle.sq_ast.specs.declared.stmt.Stmt.TheVariants as s
use Rattle.sq_ast.specs.declared.stmt.Stmt.TheOpen.{Stmt-F}
use Rattle.sq_ast.specs.declared.stmt.Stmt.TheFolds.{fold-Stmt, fold-roll-Stmt, ind-Stmt, map-Stmt}
use Rattle.sq_form_laws.specs.Blocks.Names.{Numbers}
use Rattle.sq_work.specs.Leaf.Source.{Arrays}
use Rattle.sq_form_laws.specs.Forms.declared.form.Found.{Found}
use Rattle.sq_spec.specs.declared.statement.LoopKind.{LoopKind}
use Rattle.sq_spec.specs.declared.statement.LoopKind.TheVariants as loop_kind
use Rattle.sq_form_laws.specs.Forms.Faults.{value_or}
use Rattle.sq_form_laws.specs.Forms.Steps.{Step, Part, Called, Forms, Opens, Counts, Tests, Calls, key_number}
use Rattle.sq_form_laws.specs.Forms.Args.{Names, use_step, arguments, args_steps}
use Rattle.sq_form_laws.specs.Forms.Worlds.{Frame, Callee, callee_of}
use Rattle.sq_form_laws.specs.Forms.Calls.{CallSite, call_of, served_steps, reached_steps}
use Rattle.sq_form_laws.specs.Forms.Stmts.{Portion, portion, calls_of as portion_calls, all_of, after_calls, bounds, times_of, in_iteration, within, each, opens, outermost, iteration_steps, map_steps, stmts_steps}
use Rattle.sq_form_laws.specs.Forms.Resolving.{start}
use Rattle.sq_form_laws.specs.Reached.{calls_in}
use Rattle.sq_spec.specs.Statements.{number_or, loop_kind_of}
use Rattle.sq_work.specs.Work.{Work, Then}
use Rattle.sq_work.specs.Meaning.{Outcome, and_then, at_entry, at_return, any_below, writes, touches}
use Rattle.sq_work.specs.InTurn.{AreApart, none_aside, its_array, IsRaceFree, gathering, serial}
use Rattle.sq_spec.specs.Works as works
use Rattle.sq_spec.specs.Works.{Share, map_work, call_work, stmts_work}
use Rattle.sq_form_laws.proofs.Forms.OpenedStmt.{portion_call, portion_map}
use Rattle.sq_spec.proofs.Rows.{below_same}
use Rattle.sq_work.proofs.Serial.{in_turn_same}

-- works that do the same where all iterations follow one another, with accesses of the same elements; where the first
-- has no race, the second has none
pub record RunAlike (w v : Work) : Type 0 where
  pub at : (s : Arrays) → serial w s ≡ serial v s
  pub written : (n : ℕ) (cs : List ℕ) → writes w n cs ≡ writes v n cs
  pub touched : (n : ℕ) (cs : List ℕ) → touches w n cs ≡ touches v n cs
  pub free : IsRaceFree w → IsRaceFree v

pub run_itself : (w : Work) → RunAlike w w
run_itself w = record { at = λ s. refl; written = λ n cs. refl; touched = λ n cs. refl; free = λ h. h }

then_alike : (a b c d : Work) → RunAlike a b → RunAlike c d → RunAlike (Then a c) (Then b d)
then_alike a b c d first second = record {
  at = λ s. ap (λ (o : Outcome). and_then o (serial c)) (first.at s) ∙ ap (and_then (serial b s)) (fun_ext second.at);
  written = λ n cs. ap₂ (λ x y. x || y) (first.written n cs) (second.written n cs);
  touched = λ n cs. ap₂ (λ x y. x || y) (first.touched n cs) (second.touched n cs);
  free = λ h. (first.free h.0, second.free h.1);
}

pub between : {w x v y : Work} → w ≡ x → v ≡ y → RunAlike x y → RunAlike w v
between left right h = record {
  at = λ s. ap (λ (w : Work). serial w s) left ∙ (h.at s ∙ sym (ap (λ (w : Work). serial w s) right));
  written = λ n cs. ap (λ (w : Work). writes w n cs) left ∙ (h.written n cs ∙ sym (ap (λ (w : Work). writes w n cs) right));
  touched = λ n cs. ap (λ (w : Work). touches w n cs) left ∙ (h.touched n cs ∙ sym (ap (λ (w : Work). touches w n cs) right));
  free = λ f. subst IsRaceFree (sym right) (h.free (subst IsRaceFree left f));
}

module _ (count : ℕ) (w v : ℕ → Work) (h : (t : ℕ) → t < count → RunAlike (w t) (v t)) where
  written_below : (n : ℕ) (cs : List ℕ) → any_below count (λ t. writes (w t) n cs) ≡ any_below count (λ t. writes (v t) n cs)
  written_below n cs = below_same count (λ t. writes (w t) n cs) (λ t. writes (v t) n cs) (λ t lt. (h t lt).written n cs)

  touched_below : (n : ℕ) (cs : List ℕ) → any_below count (λ t. touches (w t) n cs) ≡ any_below count (λ t. touches (v t) n cs)
  touched_below n cs = below_same count (λ t. touches (w t) n cs) (λ t. touches (v t) n cs) (λ t lt. (h t lt).touched n cs)

  still_apart : (aside : ℕ → Bool) → AreApart count w aside → AreApart count v aside
  still_apart aside f = record {
    at = λ a b n cs la lb ne out wr to. f.at a b n cs la lb ne out ((h a la).written n cs ∙ wr) ((h b lb).touched n cs ∙ to);
  }

  map_alike : (m : LoopKind) (place : Place) → RunAlike (map_work m place count w) (map_work m place count v)
  map_alike loop_kind.Sequential place = record {
    at = in_turn_same count (λ t. serial (w t)) (λ t. serial (v t)) (λ t lt. fun_ext (h t lt).at);
    written = written_below;
    touched = touched_below;
    free = λ f t lt. (h t lt).free (f t lt);
  }
  map_alike loop_kind.Parallel place = record {
    at = in_turn_same count (λ t. serial (w t)) (λ t. serial (v t)) (λ t lt. fun_ext (h t lt).at);
    written = written_below;
    touched = touched_below;
    free = λ f. (still_apart none_aside f.0, λ t lt. (h t lt).free (f.1 t lt));
  }
  map_alike (loop_kind.Reduction r) place = record {
    at = in_turn_same count (λ t. gathering r (serial (w t))) (λ t. gathering r (serial (v t))) (λ t lt. ap (gathering r) (fun_ext (h t lt).at));
    written = λ n cs. below_same count (λ t. nat_eq n r.array || writes (w t) n cs) (λ t. nat_eq n r.array || writes (v t) n cs)
        (λ t lt. ap (λ x. nat_eq n r.array || x) ((h t lt).written n cs));
    touched = λ n cs. below_same count (λ t. nat_eq n r.array || touches (w t) n cs) (λ t. nat_eq n r.array || touches (v t) n cs)
        (λ t lt. ap (λ x. nat_eq n r.array || x) ((h t lt).touched n cs));
    free = λ f. (still_apart (its_array r) f.0, λ t lt. (h t lt).free (f.1 t lt));
  }

-- by: the work of a form by its number
module _ (forms : Forms) (callee : ℕ → Found → Work) (by : ℕ → Work) where
  -- the form that a call reaches, by what is known of it, does what the form of its number does
  abbrev pub Suits : Called → Type 0
  Suits c = (f : Found) → f.instance ≡ c.form.instance → f.extents ≡ c.form.extents
      → RunAlike (callee (number_or (key_number forms c.key)) f) (by (number_or (key_number forms c.key)))

  abbrev pub AllSuit : List Step → Type 0
  AllSuit [] = Unit {0}
  AllSuit (Opens ∷ rest) = AllSuit rest
  AllSuit (Counts place ∷ rest) = AllSuit rest
  AllSuit (Tests o ∷ rest) = AllSuit rest
  AllSuit (Calls c ∷ rest) = Suits c × AllSuit rest

  pub suit_each : (steps : List Step) → ((i : ℕ) (c : Called) → slice_get (calls_in steps) i ≡ Some c → Suits c) → AllSuit steps
  suit_each [] h = tt
  suit_each (Opens ∷ rest) h = suit_each rest h
  suit_each (Counts place ∷ rest) h = suit_each rest h
  suit_each (Tests o ∷ rest) h = suit_each rest h
  suit_each (Calls c ∷ rest) h = (h 0 c refl, suit_each rest (λ i d e. h (suc i) d e))

  -- ---- what suits in front of others leaves these

  used_behind : (outer : Option Place) (later : List Step) → AllSuit (use_step outer later) → AllSuit later
  used_behind None later h = h
  used_behind (Some place) later h = h

  opens_behind : (outer : Option Place) (later : List Step) → AllSuit (opens outer later) → AllSuit later
  opens_behind None later h = h
  opens_behind (Some place) later h = h

  args_behind : (outer : Option Place) (names : Names) (numbers : Numbers) (reduced : Option Bytes) (params : List Param) (i : ℕ) (args : List ArgUse) (later : List Step)
      → AllSuit (args_steps outer names numbers reduced params i args later) → AllSuit later
  args_behind outer names numbers reduced params i [] later h = h
  args_behind outer names numbers reduced params i (a ∷ rest) later h = args_behind outer names numbers reduced params (i + 1) rest later (used_behind outer _ h)

  abbrev Leaves : Part → Type 0
  Leaves part = (later : List Step) → AllSuit (part later) → AllSuit later

  each_behind : (t n : ℕ) (part : ℕ → Part) → ((i : ℕ) → Leaves (part i)) → Leaves (each t n part)
  each_behind t zero part leaves later h = h
  each_behind t (suc n) part leaves later h = each_behind (t + 1) n part leaves later (leaves t _ h)

  each_at : (t n : ℕ) (part : ℕ → Part) → ((i : ℕ) → Leaves (part i)) → (later : List Step) → AllSuit (each t n part later)
      → (i : ℕ) → i < n → (more : List Step) × AllSuit (part (t + i) more)
  each_at t zero part leaves later h i lt = absurd (omega (arith, lt))
  each_at t (suc n) part leaves later h zero lt = let e : t ≡ t + 0 = omega arith in (each (t + 1) n part later, subst (λ k. AllSuit (part k (each (t + 1) n part later))) e h)
  each_at t (suc n) part leaves later h (suc i) lt =
      let found = each_at (t + 1) n part leaves later (leaves t _ h) i (omega (arith, lt)) in
      let e : (t + 1) + i ≡ t + suc i = omega arith in
      (found.0, subst (λ k. AllSuit (part k found.0)) e found.1)

  -- ---- statements

  -- the same form may be reached with other maps and forms round it
  module _ (elems : List Elem) (frame : Frame) (m d : ℕ) where
    abbrev other : Frame
    other = record { variants = frame.variants; instances = frame.instances; routes = frame.routes; form = frame.form; level = frame.level; maps = m; depth = d }

    abbrev by_number : ℕ → Found → Work
    by_number n form = by n

    abbrev wide : Stmt → Share
    wide = fold-Stmt Share (works.stmt_step forms callee elems)

    abbrev narrow : Stmt → Share
    narrow = fold-Stmt Share (works.stmt_step forms by_number elems)

    wide_call : (c : CallStmt) → wide (s.Call c) ≡ works.stmt_step forms callee elems (Stmt-F.Call c)
    wide_call c = ap wide (sym (s.rolls-Call c)) ∙ fold-roll-Stmt Share (works.stmt_step forms callee elems) (Stmt-F.Call c)

    narrow_call : (c : CallStmt) → narrow (s.Call c) ≡ works.stmt_step forms by_number elems (Stmt-F.Call c)
    narrow_call c = ap narrow (sym (s.rolls-Call c)) ∙ fold-roll-Stmt Share (works.stmt_step forms by_number elems) (Stmt-F.Call c)

    wide_map : (p : Place) (k : MapKind) (rs : List Range) (xs : List Stmt) → wide (s.Map p k rs xs) ≡ works.stmt_step forms callee elems (Stmt-F.Map p k rs (map wide xs))
    wide_map p k rs xs = ap wide (sym (s.rolls-Map p k rs xs)) ∙ fold-roll-Stmt Share (works.stmt_step forms callee elems) (Stmt-F.Map p k rs xs)

    narrow_map : (p : Place) (k : MapKind) (rs : List Range) (xs : List Stmt) → narrow (s.Map p k rs xs) ≡ works.stmt_step forms by_number elems
        (Stmt-F.Map p k rs (map narrow xs))
    narrow_map p k rs xs = ap narrow (sym (s.rolls-Map p k rs xs)) ∙ fold-roll-Stmt Share (works.stmt_step forms by_number elems) (Stmt-F.Map p k rs xs)

    record Serves (p : Portion) (w v : Share) : Type 0 where
      calls : p.calls ≡ w.calls
      same : w.calls ≡ v.calls
      behind : (names : Names) (site : CallSite) (numbers : Numbers) → Leaves (p.steps frame names site numbers)
      works : (names : Names) (site : CallSite) (numbers : Numbers) (later : List Step) → AllSuit (p.steps frame names site numbers later)
          → RunAlike (w.work other names site numbers) (v.work frame names site numbers)

    abbrev Fits : Stmt → Type 0
    Fits x = Serves (portion x) (wide x) (narrow x)

    abbrev Known : Type 0
    Known = (x : Stmt) × Fits x

    abbrev stmts : List Known → List Stmt
    stmts = map (λ q. q.0)

    all_calls : (xs : List Known) → (portion_calls (map portion (stmts xs)) ≡ works.calls_of (map wide (stmts xs)))
        × (works.calls_of (map wide (stmts xs)) ≡ works.calls_of (map narrow (stmts xs)))
    all_calls [] = (refl, refl)
    all_calls (x ∷ xs) =
        let first = x.1.calls in
        let second = x.1.same in
        let more = all_calls xs in (
          ap (λ n. n + portion_calls (map portion (stmts xs))) first ∙ ap (λ n. (wide x.0).calls + n) more.0,
          ap (λ n. n + works.calls_of (map wide (stmts xs))) second ∙ ap (λ n. (narrow x.0).calls + n) more.1,
        )

    all_behind : (xs : List Known) (names : Names) (site : CallSite) (numbers : Numbers) → Leaves (all_of (map portion (stmts xs)) frame names site numbers)
    all_behind [] names site numbers later h = h
    all_behind (x ∷ xs) names site numbers later h = all_behind xs names (after_calls site (portion x.0).calls) numbers later (x.1.behind names site numbers _ h)

    all_serve : (xs : List Known) (names : Names) (site : CallSite) (numbers : Numbers) (later : List Step)
        → AllSuit (all_of (map portion (stmts xs)) frame names site numbers later)
        → RunAlike (works.all_of (map wide (stmts xs)) other names site numbers) (works.all_of (map narrow (stmts xs)) frame names site numbers)
    all_serve [] names site numbers later h = run_itself _
    all_serve (x ∷ xs) names site numbers later h =
        let behind = x.1.behind names site numbers _ h in
        let rest : RunAlike (works.all_of (map wide (stmts xs)) other names (after_calls site (portion x.0).calls) numbers)
        (works.all_of (map narrow (stmts xs)) frame names (after_calls site (portion x.0).calls) numbers) =
        all_serve xs names (after_calls site (portion x.0).calls) numbers later behind in
        then_alike _ _ _ _ (x.1.works names site numbers _ h)
        (subst (λ n. RunAlike (works.all_of (map wide (stmts xs)) other names (after_calls site (wide x.0).calls) numbers)
        (works.all_of (map narrow (stmts xs)) frame names (after_calls site n) numbers)) (x.1.calls ∙ x.1.same)
        (subst (λ n. RunAlike (works.all_of (map wide (stmts xs)) other names (after_calls site n) numbers)
        (works.all_of (map narrow (stmts xs)) frame names (after_calls site (portion x.0).calls) numbers)) x.1.calls rest))

    call_behind : (names : Names) (site : CallSite) (numbers : Numbers) (c : CallStmt) (o : Option Callee) → Leaves (served_steps frame names site numbers c o)
    call_behind names site numbers c None later h = h
    call_behind names site numbers c (Some its) later h = (args_behind site.outer names numbers site.reduced its.params 0 c.args _ h).1

    call_serves : (names : Names) (site : CallSite) (numbers : Numbers) (c : CallStmt) (o : Option Callee) (later : List Step)
        → AllSuit (served_steps frame names site numbers c o later)
        → RunAlike (call_work forms callee elems other names site numbers c o) (call_work forms by_number elems frame names site numbers c o)
    call_serves names site numbers c None later h = run_itself _
    call_serves names site numbers c (Some its) later h =
        let xs = arguments names numbers site.reduced its.params 0 c.args in
        let reached = args_behind site.outer names numbers site.reduced its.params 0 c.args (reached_steps frame its site c xs later) h in
        record {
          at = λ s. ap (λ (o : Outcome). and_then o (λ inner. Ok (at_return 0 xs inner s)))
              ((reached.0 (call_of other its site c xs).form refl refl).at (at_entry xs s));
          written = λ n cs. refl;
          touched = λ n cs. refl;
          free = (reached.0 (call_of other its site c xs).form refl refl).free;
        }

    map_behind : (p : Place) (kind : MapKind) (rs : List Range) (xs : List Known) (names : Names) (site : CallSite) (numbers : Numbers)
        → Leaves (map_steps p kind rs (all_of (map portion (stmts xs))) frame names site numbers)
    map_behind p kind rs xs names site numbers later h =
        let ns = bounds rs numbers names.lists in
        each_behind 0 (times_of ns)
        (iteration_steps (outermost site.outer p) (within site p kind) rs (all_of (map portion (stmts xs))) (value_or [] ns) frame names numbers)
        (λ t more g. all_behind xs names (within site p kind t) (in_iteration rs (value_or [] ns) t numbers) more g) later (opens_behind site.outer _ h)

    map_serves : (p : Place) (kind : MapKind) (rs : List Range) (xs : List Known) (names : Names) (site : CallSite) (numbers : Numbers) (later : List Step)
        → AllSuit (map_steps p kind rs (all_of (map portion (stmts xs))) frame names site numbers later)
        → RunAlike ((works.stmt_step forms callee elems (Stmt-F.Map p kind rs (map wide (stmts xs)))).work other names site numbers)
        ((works.stmt_step forms by_number elems (Stmt-F.Map p kind rs (map narrow (stmts xs)))).work frame names site numbers)
    map_serves p kind rs xs names site numbers later h =
        let ns = bounds rs numbers names.lists in
        map_alike (times_of ns) _ _ (λ t lt.
        let part = iteration_steps (outermost site.outer p) (within site p kind) rs (all_of (map portion (stmts xs))) (value_or [] ns) frame names numbers in
        let found = each_at 0 (times_of ns) part (λ i more g. all_behind xs names (within site p kind i) (in_iteration rs (value_or [] ns) i numbers) more g) later
        (opens_behind site.outer _ h) t lt in
        let e : 0 + t ≡ t = omega arith in
        all_serve xs names (within site p kind t) (in_iteration rs (value_or [] ns) t numbers) found.0 (subst (λ k. AllSuit (part k found.0)) e found.1)) (loop_kind_of elems names kind) p

    fits_step : (y : Stmt-F Known) → Fits (roll-Stmt (map-Stmt Known Stmt (λ q. q.0) y))
    fits_step (Stmt-F.Call c) = subst Fits (sym (s.rolls-Call c)) (record {
      calls = ap (λ (p : Portion). p.calls) (portion_call c) ∙ sym (ap (λ (w : Share). w.calls) (wide_call c));
      same = ap (λ (w : Share). w.calls) (wide_call c) ∙ sym (ap (λ (w : Share). w.calls) (narrow_call c));
      behind = λ names site numbers. subst (λ (p : Portion). Leaves (p.steps frame names site numbers)) (sym (portion_call c))
          (call_behind names site numbers c (callee_of frame c.task));
      works = λ names site numbers later h.
          let left = ap (λ (w : Share). w.work other names site numbers) (wide_call c) in
          let right = ap (λ (w : Share). w.work frame names site numbers) (narrow_call c) in
          let its = subst (λ (p : Portion). AllSuit (p.steps frame names site numbers later)) (portion_call c) h in
          between left right (call_serves names site numbers c (callee_of frame c.task) later its);
    })
    fits_step (Stmt-F.Map p kind rs xs) = subst Fits (sym (s.rolls-Map p kind rs (stmts xs))) (record {
      calls = ap (λ (q : Portion). q.calls) (portion_map p kind rs (stmts xs)) ∙ ((all_calls xs).0 ∙ sym (ap (λ (w : Share). w.calls) (wide_map p kind rs (stmts xs))));
      same = ap (λ (w : Share). w.calls) (wide_map p kind rs (stmts xs)) ∙ ((all_calls xs).1 ∙ sym (ap (λ (w : Share). w.calls) (narrow_map p kind rs (stmts xs))));
      behind = λ names site numbers. subst (λ (q : Portion). Leaves (q.steps frame names site numbers)) (sym (portion_map p kind rs (stmts xs)))
          (map_behind p kind rs xs names site numbers);
      works = λ names site numbers later h.
          let left = ap (λ (w : Share). w.work other names site numbers) (wide_map p kind rs (stmts xs)) in
          let right = ap (λ (w : Share). w.work frame names site numbers) (narrow_map p kind rs (stmts xs)) in
          let its = subst (λ (q : Portion). AllSuit (q.steps frame names site numbers later)) (portion_map p kind rs (stmts xs)) h in
          between left right (map_serves p kind rs xs names site numbers later its);
    })

    fits : (x : Stmt) → Fits x
    fits = ind-Stmt Fits (λ x y is. subst (λ z. Fits (roll-Stmt z)) is (fits_step y))

    abbrev known : List Stmt → List Known
    known [] = []
    known (x ∷ xs) = (x, fits x) ∷ known xs

    known_are : (xs : List Stmt) → stmts (known xs) ≡ xs
    known_are [] = refl
    known_are (x ∷ xs) = ap (λ ys. x ∷ ys) (known_are xs)

    pub list_serves : (list : List Stmt) (names : Names) (numbers : Numbers) → AllSuit (stmts_steps list frame names start numbers [])
        → RunAlike (stmts_work forms callee elems list other names start numbers) (stmts_work forms by_number elems list frame names start numbers)
    list_serves list names numbers h =
        subst (λ xs. RunAlike (works.all_of (map wide xs) other names start numbers) (works.all_of (map narrow xs) frame names start numbers)) (known_are list)
        (all_serve (known list) names start numbers [] (subst (λ xs. AllSuit (all_of (map portion xs) frame names start numbers [])) (sym (known_are list)) h))
