-- The work of statements accesses what the walk met, and has no race where the form has none.
use Rattle.std.proofs.Common.{◌≡◌, ℕ, ◌+◌, ◌<◌, ◌⊎◌, inl, inr, ◌&&◌, ◌||◌, nat_eq, Bool, true, false, List, [], ◌∷◌, ◌++◌, map, length, Option, Some, None, refl, sym, ◌∙◌, ap, subst, arith, length-append}
use Rattle.std.specs.Prelude.{slice_get}
use Rattle.std.specs.List.{list_any}
use Rattle.std.specs.Map.{lookup}
use Rattle.sq_num.specs.declared.Elem.{Elem}
use Rattle.sq_num.specs.declared.RedOp.{RedOp}
use Rattle.sq_text.specs.declared.place.Place.{Place}
use Rattle.sq_text.specs.declared.place.Span.{Span}
use Rattle.sq_text.specs.declared.word.Word.{Word}
use Rattle.sq_text.specs.Names.{Bytes, same_name}
use Rattle.sq_ast.specs.declared.stmt.Call.{Call as CallStmt}
use Rattle.sq_ast.specs.declared.stmt.Range.{Range}
use Rattle.sq_ast.specs.declared.stmt.MapKind.{MapKind}
use Rattle.sq_ast.specs.declared.stmt.MapKind.TheVariants.{Par, Seq, Reduce}
use Rattle.sq_ast.specs.declared.stmt.Stmt.{Stmt, roll-Stmt}
use Rattle.sq_ast.specs.declared.stmt.Stmt.TheVariants as s
use Rattle.sq_ast.specs.declared.stmt.Stmt.TheOpen.{Stmt-F}
use Rattle.sq_ast.specs.declared.stmt.Stmt.TheFolds.{fold-Stmt, fold-roll-Stmt, ind-Stmt, map-Stmt}
use Rattle.sq_ast.specs.declared.program.Mode.{Mode}
use Rattle.sq_ast.specs.declared.program.Param.{Param}
use Rattle.sq_ast.specs.declared.program.Variant.{Variant}
use Rattle.sq_ast.specs.Forms.{are_formed_ranges, fits_kind, form_of, is_formed_stmt, are_formed_stmts}
use Rattle.sq_ast.proofs.Opened.{formed_map, one_call}
use Rattle.sq_types.specs.Known.{Known}
use Rattle.sq_types.specs.Table.{keeps_both}
use Rattle.sq_types.specs.Sites.{params_of, ranges_known}
use Rattle.sq_types.specs.Sound as typed
use Rattle.sq_types.proofs.SoundStmts.{tested_call, tested_map}
use Rattle.sq_types.proofs.OpenedStmt.{map_map}
use Rattle.sq_blocks.specs.Names.{Numbers}
use Rattle.sq_blocks.specs.Spans.{wholes}
use Rattle.sq_blocks.specs.Insides.{AreSpansIn}
use Rattle.sq_rect.specs.Blocks.{Share}
use Rattle.sq_blocks.specs.declared.argument.Argument.{Argument}
use Rattle.sq_forms.specs.declared.known.Array.{Array}
use Rattle.sq_forms.specs.declared.form.Found.{Found}
use Rattle.sq_forms.specs.declared.form.Use.{Use}
use Rattle.sq_mapping.specs.declared.mapping.Instance.{Instance}
use Rattle.sq_forms.specs.Faults.{value_or, fault_in}
use Rattle.sq_forms.specs.Steps.{Step, Part, Tests, Forms, key_number}
use Rattle.sq_forms.specs.Args.{Names, arguments, mode_of}
use Rattle.sq_forms.specs.Worlds.{Frame, Callee, callee_of, callee_at, served_by}
use Rattle.sq_forms.specs.Tables.{route_of}
use Rattle.sq_forms.specs.Calls.{CallSite, call_of, served_steps}
use Rattle.sq_ast.specs.Modes.{is_written}
use Rattle.sq_forms.specs.Stmts as walk
use Rattle.sq_forms.specs.Stmts.{Portion, portion, after_calls, within, bounds, times_of, in_iteration, iteration_steps, map_steps, outermost, each}
use Rattle.sq_spec.specs.Statements.{number_or, array_number, reduction_of}
use Rattle.sq_form_laws.specs.Reached.{concat, text_calls, or_zero}
use Rattle.sq_forms.specs.Resolving.{start}
use Rattle.sq_form_laws.specs.Insides.{LiesIn}
use Rattle.sq_work.specs.Work.{Work, Nothing, Then}
use Rattle.sq_spec.specs.Works as works
use Rattle.sq_spec.specs.Works.{Share as WorkShare, call_work, reached_work}
use Rattle.sq_work.specs.Meaning.{has, accesses, any_below}
use Rattle.sq_work.specs.InTurn.{IsRaceFree, AreApart, none_aside, its_array}
use Rattle.sq_form_laws.proofs.EachCall.{AllIn, all_front, all_back, text_call, text_map}
use Rattle.sq_forms.proofs.OpenedStmt.{portion_call, portion_map}
use Rattle.sq_race.specs.declared.map.Map.{Map}
use Rattle.sq_race.specs.Table as race
use Rattle.sq_race.specs.Table.{position_from, maps_of, maps_in}
use Rattle.sq_race.proofs.Opened as opened
use Rattle.sq_race.proofs.Wholes.{both, equal, itself, shared_whole}
use Rattle.sq_race.proofs.Reducing.{WholeAt, reduced_at, examined_at, IsWhole, is_whole}
use Rattle.sq_race.proofs.Hits.{some_below, AllGood, opens_good, each_good, Met, call_met, Hit, Written, Hits, CallHit, whole_hit, call_hit, Quiet, AllQuiet, apart, outer_hit}

-- ---- frames that differ in the maps and forms round them

abbrev pub moved : Frame → ℕ → ℕ → Frame
moved frame m d = record {
  variants = frame.variants;
  instances = frame.instances;
  routes = frame.routes;
  form = frame.form;
  level = frame.level;
  maps = m;
  depth = d;
}

by_instance : (frame : Frame) (m d n : ℕ) (o : Option Instance) → served_by (moved frame m d) n o ≡ served_by frame n o
by_instance frame m d n None = refl
by_instance frame m d n (Some x) = refl

by_route : (frame : Frame) (m d : ℕ) (o : Option ℕ) → callee_at (moved frame m d) o ≡ callee_at frame o
by_route frame m d None = refl
by_route frame m d (Some n) = by_instance frame m d n (slice_get frame.instances n)

same_callee : (frame : Frame) (m d : ℕ) (task : Bytes) → callee_of (moved frame m d) task ≡ callee_of frame task
same_callee frame m d task = by_route frame m d (route_of frame.routes task)

same_number : (o : Option ℕ) → number_or o ≡ or_zero o
same_number None = refl
same_number (Some n) = refl

or_false : (b : Bool) → (b || false) ≡ true → b ≡ true
or_false true h = refl
or_false false h = h

either : (a b : Bool) → (a || b) ≡ true → (a ≡ true) ⊎ (b ≡ true)
either true b h = inl refl
either false b h = inr h

some_same : {A : Type 0} (x y : A) → Some x ≡ Some y → x ≡ y
some_same x y h = cc h

has_params_of : (n : ℕ) (o : Option (List Param)) → typed.has_count n o ≡ true → (ps : List Param) × (o ≡ Some ps)
has_params_of n None h = absurd (cc h)
has_params_of n (Some ps) h = (ps, refl)

-- frame: that of the walk, from which the work's differs in maps and depth; arrays: the extents of the form's arrays;
-- uses: its accesses
module _ (forms : Forms) (frame : Frame) (m d : ℕ) (names : Names) (tasks : List Variant) (callee : ℕ → Found → Work) (elems : List Elem)
    (arrays : List (List ℕ)) (uses : List Use)
    (placed : (name : Bytes) (a : Array) → lookup (same_name name) names.arrays ≡ Some a → slice_get arrays a.number ≡ Some a.extents)
    (lies : (j : ℕ) (u : Use) → slice_get uses j ≡ Some u → LiesIn arrays u.array u.rect) where
  abbrev own : Frame
  own = moved frame m d

  abbrev Good : List Step → Type 0
  Good l = AllGood forms callee arrays uses l

  abbrev HitsOf : Work → CallSite → ℕ → Type 0
  HitsOf w site calls = Hits forms callee arrays uses w site calls

  abbrev HitOf : (Mode → Bool) → ℕ → List ℕ → CallSite → ℕ → Type 0
  HitOf which n cs site calls = Hit forms callee arrays uses which n cs site calls

  abbrev Silent : List Map → Type 0
  Silent ms = AllQuiet forms callee arrays uses ms

  -- what serves a call, and that it writes what is reduced into
  pub record Serves (c : CallStmt) : Type 0 where
    pub its : Callee
    pub serves : callee_of frame c.task ≡ Some its
    pub written : (ps : List Param) → params_of tasks c.task ≡ Some ps → (i : ℕ) → keeps_both (Some ps) i ≡ true
        → is_written (mode_of (slice_get its.params i)) ≡ true

  abbrev pub share : Stmt → WorkShare
  share = fold-Stmt WorkShare (works.stmt_step forms callee elems)

  share_call : (c : CallStmt) → share (s.Call c) ≡ works.stmt_step forms callee elems (Stmt-F.Call c)
  share_call c = ap share (sym (s.rolls-Call c)) ∙ fold-roll-Stmt WorkShare (works.stmt_step forms callee elems) (Stmt-F.Call c)

  share_map : (p : Place) (k : MapKind) (rs : List Range) (xs : List Stmt)
      → share (s.Map p k rs xs) ≡ works.stmt_step forms callee elems (Stmt-F.Map p k rs (map share xs))
  share_map p k rs xs = ap share (sym (s.rolls-Map p k rs xs)) ∙ fold-roll-Stmt WorkShare (works.stmt_step forms callee elems) (Stmt-F.Map p k rs xs)

  -- what the walk met in a statement, its work, and its maps that may have races
  record Linked (p : Portion) (w : WorkShare) (q : race.Portion) : Type 0 where
    work_calls : w.calls ≡ p.calls
    race_calls : q.calls ≡ p.calls
    later : (site : CallSite) (numbers : Numbers) (l : List Step) → Good (p.steps frame names site numbers l) → Good l
    hits : (site : CallSite) (numbers : Numbers) (l : List Step) → Good (p.steps frame names site numbers l) → HitsOf (w.work own names site numbers) site p.calls
    quiet : (depth first : ℕ) (ms : List Map) → Silent (q.maps depth first ms) → Silent ms
    free : (site : CallSite) (numbers : Numbers) (l : List Step) (ms : List Map) → Good (p.steps frame names site numbers l)
        → Silent (q.maps (length site.iterations) site.call ms) → IsRaceFree (w.work own names site numbers)

  abbrev Link : Stmt → Type 0
  Link x = Linked (portion x) (share x) (race.portion x)

  abbrev AllLinked : List Stmt → Type 0
  AllLinked [] = Unit {0}
  AllLinked (x ∷ xs) = Link x × AllLinked xs

  -- ---- statements one after another

  same_work_calls : (xs : List Stmt) → AllLinked xs → works.calls_of (map share xs) ≡ walk.calls_of (map portion xs)
  same_work_calls [] k = refl
  same_work_calls (x ∷ xs) k = (λ i. k.0.work_calls i + same_work_calls xs k.1 i)

  same_race_calls : (xs : List Stmt) → AllLinked xs → race.calls_of (map race.portion xs) ≡ walk.calls_of (map portion xs)
  same_race_calls [] k = refl
  same_race_calls (x ∷ xs) k = (λ i. k.0.race_calls i + same_race_calls xs k.1 i)

  all_later : (xs : List Stmt) → AllLinked xs → (site : CallSite) (numbers : Numbers) (l : List Step)
      → Good (walk.all_of (map portion xs) frame names site numbers l) → Good l
  all_later [] k site numbers l h = h
  all_later (x ∷ xs) k site numbers l h =
      let next = after_calls site (portion x).calls in
      all_later xs k.1 next numbers l (k.0.later site numbers (walk.all_of (map portion xs) frame names next numbers l) h)

  sooner : (which : Mode → Bool) (n : ℕ) (cs : List ℕ) (site : CallSite) (calls more : ℕ) → HitOf which n cs site calls → HitOf which n cs site (calls + more)
  sooner which n cs site calls more h =
      let under = h.high in record {
        index = h.index;
        access = h.access;
        there = h.there;
        mode = h.mode;
        array = h.array;
        block = h.block;
        rest = h.rest;
        round = h.round;
        low = h.low;
        high = omega (arith, under);
      }

  behind : (which : Mode → Bool) (n : ℕ) (cs : List ℕ) (site : CallSite) (calls more : ℕ) → HitOf which n cs (after_calls site calls) more
      → HitOf which n cs site (calls + more)
  behind which n cs site calls more h =
      let above = h.low in
      let under = h.high in record {
        index = h.index;
        access = h.access;
        there = h.there;
        mode = h.mode;
        array = h.array;
        block = h.block;
        rest = h.rest;
        round = h.round;
        low = omega (arith, above);
        high = omega (arith, under);
      }

  all_hits : (xs : List Stmt) → AllLinked xs → (site : CallSite) (numbers : Numbers) (l : List Step)
      → Good (walk.all_of (map portion xs) frame names site numbers l)
      → HitsOf (works.all_of (map share xs) own names site numbers) site (walk.calls_of (map portion xs))
  all_hits [] k site numbers l h which up n cs e = absurd (cc e)
  all_hits (x ∷ xs) k site numbers l h which up n cs e =
      let next = after_calls site (portion x).calls in
      let rest = walk.all_of (map portion xs) frame names next numbers l in
      let more : HitsOf (works.all_of (map share xs) own names (after_calls site (share x).calls) numbers) next (walk.calls_of (map portion xs)) =
      subst (λ k. HitsOf (works.all_of (map share xs) own names (after_calls site k) numbers) next (walk.calls_of (map portion xs))) (sym k.0.work_calls)
      (all_hits xs k.1 next numbers l (k.0.later site numbers rest h)) in
      elim (either (accesses (λ a. which a.mode) ((share x).work own names site numbers) n cs)
      (accesses (λ a. which a.mode) (works.all_of (map share xs) own names (after_calls site (share x).calls) numbers) n cs) e) [
        | inl one ↦ sooner which n cs site (portion x).calls (walk.calls_of (map portion xs)) (k.0.hits site numbers rest h which up n cs one)
        | inr two ↦ behind which n cs site (portion x).calls (walk.calls_of (map portion xs)) (more which up n cs two)
      ]

  all_quiet : (xs : List Stmt) → AllLinked xs → (depth first : ℕ) (ms : List Map) → Silent (maps_of (map race.portion xs) depth first ms) → Silent ms
  all_quiet [] k depth first ms q = q
  all_quiet (x ∷ xs) k depth first ms q =
      let next = first + (race.portion x).calls in
      all_quiet xs k.1 depth next ms (k.0.quiet depth first (maps_of (map race.portion xs) depth next ms) q)

  all_free : (xs : List Stmt) → AllLinked xs → (site : CallSite) (numbers : Numbers) (l : List Step) (ms : List Map)
      → Good (walk.all_of (map portion xs) frame names site numbers l) → Silent (maps_of (map race.portion xs) (length site.iterations) site.call ms)
      → IsRaceFree (works.all_of (map share xs) own names site numbers)
  all_free [] k site numbers l ms h q = tt
  all_free (x ∷ xs) k site numbers l ms h q =
      let next = after_calls site (portion x).calls in
      let rest = walk.all_of (map portion xs) frame names next numbers l in
      let maps = maps_of (map race.portion xs) (length site.iterations) (site.call + (race.portion x).calls) ms in
      let behind_ : Silent (maps_of (map race.portion xs) (length site.iterations) (site.call + (portion x).calls) ms) =
      subst (λ n. Silent (maps_of (map race.portion xs) (length site.iterations) (site.call + n) ms)) k.0.race_calls
      (k.0.quiet (length site.iterations) site.call maps q) in
      let more = all_free xs k.1 next numbers l ms (k.0.later site numbers rest h) behind_ in
      let moved_ = subst (λ n. IsRaceFree (works.all_of (map share xs) own names (after_calls site n) numbers)) (sym k.0.work_calls) more in
      (k.0.free site numbers rest maps h q, moved_)

  -- ---- a call

  abbrev args_of : CallStmt → Callee → CallSite → Numbers → List Argument
  args_of c its site numbers = arguments names numbers site.reduced its.params 0 c.args

  abbrev MetCall : CallSite → Numbers → CallStmt → Callee → List Step → Type 0
  MetCall site numbers c its l = Met forms callee arrays uses frame names site numbers c its l

  met : (c : CallStmt) (v : Serves c) (site : CallSite) (numbers : Numbers) (l : List Step)
      → Good (served_steps frame names site numbers c (callee_of frame c.task) l) → MetCall site numbers c v.its l
  met c v site numbers l h =
      call_met forms callee arrays uses frame names site numbers c v.its l (subst (λ o. Good (served_steps frame names site numbers c o l)) v.serves h)

  work_of_call : (c : CallStmt) (v : Serves c) (site : CallSite) (numbers : Numbers)
      → call_work forms callee elems own names site numbers c (callee_of own c.task) ≡ call_work forms callee elems own names site numbers c (Some v.its)
  work_of_call c v site numbers = ap (λ o. call_work forms callee elems own names site numbers c o) (same_callee frame m d c.task ∙ v.serves)

  call_free : (c : CallStmt) (v : Serves c) (site : CallSite) (numbers : Numbers) (l : List Step) → MetCall site numbers c v.its l
      → IsRaceFree (call_work forms callee elems own names site numbers c (callee_of own c.task))
  call_free c v site numbers l h =
      let xs = args_of c v.its site numbers in
      let reached = call_of own v.its site c xs in
      subst IsRaceFree (sym (work_of_call c v site numbers))
      (subst (λ n. IsRaceFree (callee n reached.form)) (sym (same_number (key_number forms reached.key))) (h.good.free reached.form refl refl))

  call_hits : (c : CallStmt) (v : Serves c) (site : CallSite) (numbers : Numbers) (l : List Step) → MetCall site numbers c v.its l → (which : Mode → Bool) (n : ℕ)
      (cs : List ℕ) → accesses (λ a. which a.mode) (call_work forms callee elems own names site numbers c (callee_of own c.task)) n cs ≡ true
      → CallHit forms callee arrays uses which n cs site (args_of c v.its site numbers)
  call_hits c v site numbers l h which n cs e =
      let xs = args_of c v.its site numbers in
      let f : list_any (λ a. which a.mode && has n cs a) xs ≡ true =
      subst (λ (w : Work). accesses (λ a. which a.mode) w n cs ≡ true) (work_of_call c v site numbers) e in
      call_hit forms callee arrays uses frame names site c v.its xs h.good which n cs f

  call_linked : (c : CallStmt) → Serves c
      → Linked (walk.stmt_step (Stmt-F.Call c)) (works.stmt_step forms callee elems (Stmt-F.Call c)) (race.stmt_step (Stmt-F.Call c))
  call_linked c v = record {
    work_calls = refl;
    race_calls = refl;
    later = λ site numbers l h. (met c v site numbers l h).later;
    hits = λ site numbers l h which up n cs e. (call_hits c v site numbers l (met c v site numbers l h) which n cs e).hit;
    quiet = λ depth first ms q. q;
    free = λ site numbers l ms h q. call_free c v site numbers l (met c v site numbers l h);
  }

  transported : (x : Stmt) (p : Portion) (w : WorkShare) (q : race.Portion) → portion x ≡ p → share x ≡ w → race.portion x ≡ q → Linked p w q → Link x
  transported x p w q a b c h =
      subst (λ z. Linked z (share x) (race.portion x)) (sym a) (subst (λ z. Linked p z (race.portion x)) (sym b) (subst (λ z. Linked p w z) (sym c) h))

  a_call : (c : CallStmt) → Serves c → Link (s.Call c)
  a_call c v = transported (s.Call c) _ _ _ (portion_call c) (share_call c) (opened.portion_call c) (call_linked c v)

  -- ---- maps

  module _ (place : Place) (kind : MapKind) (ranges : List Range) (ys : List Stmt) (linked : AllLinked ys) where
    abbrev parts : List Portion
    parts = map portion ys

    abbrev count : Numbers → ℕ
    count numbers = times_of (bounds ranges numbers names.lists)

    abbrev turn : Numbers → ℕ → Numbers
    turn numbers t = in_iteration ranges (value_or [] (bounds ranges numbers names.lists)) t numbers

    abbrev body : CallSite → Numbers → ℕ → Work
    body site numbers t = works.all_of (map share ys) own names (within site place kind t) (turn numbers t)

    record Iterations (site : CallSite) (numbers : Numbers) (l : List Step) : Type 0 where
      turns : (t : ℕ) → t < count numbers → (k : List Step) × Good (walk.all_of parts frame names (within site place kind t) (turn numbers t) k)
      past : Good l

    iterations : (site : CallSite) (numbers : Numbers) (l : List Step) → Good (map_steps place kind ranges (walk.all_of parts) frame names site numbers l)
        → Iterations site numbers l
    iterations site numbers l h =
        let ns = bounds ranges numbers names.lists in
        let part : ℕ → Part =
        iteration_steps (outermost site.outer place) (within site place kind) ranges (walk.all_of parts) (value_or [] ns) frame names numbers in
        let a = opens_good forms callee arrays uses site.outer (Tests (fault_in ns) ∷ each 0 (times_of ns) part l) h in
        let b = each_good forms callee arrays uses part (λ t k g. all_later ys linked (within site place kind t) (turn numbers t) k g) 0 (times_of ns) l a.1 in
        record {
          turns = λ t less. let r = b.0 t less in let z : 0 + t ≡ t = omega arith in (r.0, subst (λ n. Good (part n r.0)) z r.1);
          past = b.1;
        }

    hits_at : (site : CallSite) (numbers : Numbers) (l : List Step) → Iterations site numbers l → (t : ℕ) → t < count numbers
        → HitsOf (body site numbers t) (within site place kind t) (walk.calls_of parts)
    hits_at site numbers l its t less = let r = its.turns t less in all_hits ys linked (within site place kind t) (turn numbers t) r.0 r.1

    hits_below : (site : CallSite) (numbers : Numbers) (l : List Step) → Iterations site numbers l → (which : Mode → Bool) → Written forms callee arrays uses which
        → (n : ℕ) (cs : List ℕ) → any_below (count numbers) (λ t. accesses (λ a. which a.mode) (body site numbers t) n cs) ≡ true
        → HitOf which n cs site (walk.calls_of parts)
    hits_below site numbers l its which up n cs e =
        let r = some_below (count numbers) (λ t. accesses (λ a. which a.mode) (body site numbers t) n cs) e in
        outer_hit forms callee arrays uses which n cs site place kind r.0 (walk.calls_of parts) (hits_at site numbers l its r.0 r.1 which up n cs r.2)

    free_at : (site : CallSite) (numbers : Numbers) (l : List Step) (ms : List Map) → Iterations site numbers l
        → Silent (maps_of (map race.portion ys) (length site.iterations + 1) site.call ms) → (t : ℕ) → t < count numbers → IsRaceFree (body site numbers t)
    free_at site numbers l ms its q t less =
        let r = its.turns t less in
        let deeper : length site.iterations + 1 ≡ length (site.iterations ++ t ∷ []) = sym (length-append site.iterations (t ∷ [])) in
        all_free ys linked (within site place kind t) (turn numbers t) r.0 ms r.1 (subst (λ n. Silent (maps_of (map race.portion ys) n site.call ms)) deeper q)

  abbrev MapLinked : Place → MapKind → List Range → List Stmt → Type 0
  MapLinked place kind ranges ys =
      Linked (walk.stmt_step (Stmt-F.Map place kind ranges (map portion ys))) (works.stmt_step forms callee elems (Stmt-F.Map place kind ranges (map share ys)))
      (race.stmt_step (Stmt-F.Map place kind ranges (map race.portion ys)))

  seq_linked : (place : Place) (ranges : List Range) (ys : List Stmt) → AllLinked ys → MapLinked place Seq ranges ys
  seq_linked place ranges ys k = record {
    work_calls = same_work_calls ys k;
    race_calls = same_race_calls ys k;
    later = λ site numbers l h. (iterations place Seq ranges ys k site numbers l h).past;
    hits = λ site numbers l h which up n cs e.
        hits_below place Seq ranges ys k site numbers l (iterations place Seq ranges ys k site numbers l h) which up n cs e;
    quiet = λ depth first ms q. all_quiet ys k (depth + 1) first ms q;
    free = λ site numbers l ms h q. free_at place Seq ranges ys k site numbers l ms (iterations place Seq ranges ys k site numbers l h) q;
  }

  -- ---- a `mappar`

  abbrev any_mode : Mode → Bool
  any_mode mode = true

  par_apart : (place : Place) (ranges : List Range) (ys : List Stmt) (k : AllLinked ys) (site : CallSite) (numbers : Numbers) (l : List Step)
      → Iterations place Par ranges ys k site numbers l → Quiet forms callee arrays uses (record {
        place = place;
        depth = length site.iterations;
        calls = record { lo = site.call; hi = site.call + race.calls_of (map race.portion ys) };
        reduced = None;
      }) → AreApart (count place Par ranges ys k numbers) (body place Par ranges ys k site numbers) none_aside
  par_apart place ranges ys k site numbers l its quiet = record {
    at = λ a b n cs la lb other aside wr touch.
        apart forms callee arrays uses lies _ quiet site place Par (walk.calls_of (map portion ys)) refl refl
        (ap (λ c. site.call + c) (same_race_calls ys k)) any_mode n cs a b other
        (hits_at place Par ranges ys k site numbers l its a la is_written (λ mode e. e) n cs wr)
        (hits_at place Par ranges ys k site numbers l its b lb any_mode (λ mode e. refl) n cs touch)
        (λ e. absurd (cc e)) (λ e. absurd (cc e));
  }

  par_linked : (place : Place) (ranges : List Range) (ys : List Stmt) → AllLinked ys → MapLinked place Par ranges ys
  par_linked place ranges ys k = record {
    work_calls = same_work_calls ys k;
    race_calls = same_race_calls ys k;
    later = λ site numbers l h. (iterations place Par ranges ys k site numbers l h).past;
    hits = λ site numbers l h which up n cs e.
        hits_below place Par ranges ys k site numbers l (iterations place Par ranges ys k site numbers l h) which up n cs e;
    quiet = λ depth first ms q. all_quiet ys k (depth + 1) first ms q.1;
    free = λ site numbers l ms h q.
        let its = iterations place Par ranges ys k site numbers l h in
        (par_apart place ranges ys k site numbers l its q.0, free_at place Par ranges ys k site numbers l ms its q.1);
  }

  -- ---- a `mapreduce`, whose body is one call

  module _ (place : Place) (op : RedOp) (array : Word) (ranges : List Range) (c : CallStmt) (v : Serves c) (ps : List Param)
      (has_params : params_of tasks c.task ≡ Some ps) (at : WholeAt array.name (params_of tasks c.task) 0 c.args) where
    abbrev kind : MapKind
    kind = Reduce op array

    abbrev one : List Stmt
    one = s.Call c ∷ []

    linked : AllLinked one
    linked = (a_call c v, tt)

    abbrev its_number : ℕ
    its_number = array_number (lookup (same_name array.name) names.arrays)

    abbrev many : Numbers → ℕ
    many numbers = count place kind ranges one linked numbers

    abbrev inside : CallSite → Numbers → ℕ → Work
    inside site numbers t = body place kind ranges one linked site numbers t

    abbrev turned : Numbers → ℕ → Numbers
    turned numbers t = turn place kind ranges one linked numbers t

    abbrev Turns : CallSite → Numbers → List Step → Type 0
    Turns site numbers l = Iterations place kind ranges one linked site numbers l

    abbrev args_at : CallSite → Numbers → ℕ → List Argument
    args_at site numbers t = args_of c v.its (within site place kind t) (turned numbers t)

    met_at : (site : CallSite) (numbers : Numbers) (l : List Step) → Turns site numbers l → (t : ℕ) → t < many numbers
        → (k : List Step) × MetCall (within site place kind t) (turned numbers t) c v.its k
    met_at site numbers l its t less =
        let r = its.turns t less in
        let opened_ : Good (served_steps frame names (within site place kind t) (turned numbers t) c (callee_of frame c.task) r.0) =
        subst (λ (p : Portion). Good (p.steps frame names (within site place kind t) (turned numbers t) r.0)) (portion_call c) r.1 in
        (r.0, met c v (within site place kind t) (turned numbers t) r.0 opened_)

    -- the argument that is the array that is reduced into
    record Whole (xs : List Argument) : Type 0 where
      x : Argument
      there : slice_get xs at.index ≡ Some x
      number : x.array ≡ its_number
      written : is_written x.mode ≡ true
      shares : (spans : List Span) → LiesIn arrays x.array spans → Share x.rect spans

    whole_shares : (x : Argument) (a : Array) → lookup (same_name array.name) names.arrays ≡ Some a → x.array ≡ a.number → wholes a.extents ≡ Some x.rect
        → (spans : List Span) → LiesIn arrays x.array spans → Share x.rect spans
    whole_shares x a there number all spans lies_in =
        let known : slice_get arrays a.number ≡ Some a.extents = placed array.name a there in
        let same_extents : lies_in.extents ≡ a.extents =
        some_same lies_in.extents a.extents (sym lies_in.there ∙ (ap (slice_get arrays) number ∙ known)) in
        shared_whole a.extents x.rect spans all (subst (λ ns. AreSpansIn ns spans) same_extents lies_in.inside)

    whole_in : (site : CallSite) (numbers : Numbers) (t : ℕ) (k : List Step) → MetCall (within site place kind t) (turned numbers t) c v.its k
        → Whole (args_at site numbers t)
    whole_in site numbers t k h =
        let here = within site place kind t in
        let param = slice_get v.its.params (0 + at.index) in
        let r = examined_at names (turned numbers t) here.reduced v.its.params 0 c.args (args_at site numbers t) h.examined at.index at.own at.there in
        let w : IsWhole names array.name param r.0 =
        subst (λ name. IsWhole names name param r.0) at.named (is_whole names (turned numbers t) here.reduced param at.own r.0 at.alone r.2) in
        record {
          x = r.0;
          there = r.1;
          number = w.number ∙ sym (ap array_number w.there);
          written = ap is_written w.mode ∙ v.written ps has_params (0 + at.index) (subst (λ o. keeps_both o (0 + at.index) ≡ true) has_params at.keeps);
          shares = whole_shares r.0 w.array_ w.there w.number w.all;
        }

    work_in : (site : CallSite) (numbers : Numbers) (t : ℕ) (f : Work → Bool) → (f (inside site numbers t)) ≡ true
        → f (Then (call_work forms callee elems own names (within site place kind t) (turned numbers t) c (callee_of own c.task)) Nothing) ≡ true
    work_in site numbers t f e =
        subst (λ (w : WorkShare). f (Then (w.work own names (within site place kind t) (turned numbers t)) Nothing) ≡ true) (share_call c) e

    hit_in : (site : CallSite) (numbers : Numbers) (t : ℕ) (k : List Step) → MetCall (within site place kind t) (turned numbers t) c v.its k → (which : Mode → Bool)
        (n : ℕ) (cs : List ℕ) → accesses (λ a. which a.mode) (inside site numbers t) n cs ≡ true
        → CallHit forms callee arrays uses which n cs (within site place kind t) (args_at site numbers t)
    hit_in site numbers t k h which n cs e =
        let f = work_in site numbers t (λ w. accesses (λ a. which a.mode) w n cs) e in
        call_hits c v (within site place kind t) (turned numbers t) k h which n cs (or_false _ f)

    one_call_in : 1 ≡ walk.calls_of (map portion one)
    one_call_in = sym (ap (λ (p : Portion). p.calls + 0) (portion_call c))

    one_call_there : race.calls_of (map race.portion one) ≡ 1
    one_call_there = ap (λ (p : race.Portion). p.calls + 0) (opened.portion_call c)

    reduce_hits : (site : CallSite) (numbers : Numbers) (l : List Step) → Turns site numbers l → (which : Mode → Bool) → Written forms callee arrays uses which
        → (n : ℕ) (cs : List ℕ) → any_below (many numbers) (λ t. nat_eq n its_number || accesses (λ a. which a.mode) (inside site numbers t) n cs) ≡ true
        → HitOf which n cs site (walk.calls_of (map portion one))
    reduce_hits site numbers l its which up n cs e =
        let r = some_below (many numbers) (λ t. nat_eq n its_number || accesses (λ a. which a.mode) (inside site numbers t) n cs) e in
        let t = r.0 in
        let h = met_at site numbers l its t r.1 in
        let here = within site place kind t in
        let xs = args_at site numbers t in
        elim (either (nat_eq n its_number) (accesses (λ a. which a.mode) (inside site numbers t) n cs) r.2) [
          | inl same ↦
              let w = whole_in site numbers t h.0 h.1 in
              let is : w.x.array ≡ n = w.number ∙ sym (equal n its_number same) in
              let mode = up w.x.mode w.written in
              let all = whole_hit forms callee arrays uses frame names here c v.its xs h.1.good which n cs at.index w.x w.there mode is w.shares in
              subst (λ k. HitOf which n cs site k) one_call_in (outer_hit forms callee arrays uses which n cs site place kind t 1 all.hit)
          | inr other ↦
              subst (λ k. HitOf which n cs site k) one_call_in
              (outer_hit forms callee arrays uses which n cs site place kind t 1 (hit_in site numbers t h.0 h.1 which n cs other).hit)
        ]

    -- an access of another array is another argument
    other_argument : (site : CallSite) (numbers : Numbers) (t : ℕ) (k : List Step) → MetCall (within site place kind t) (turned numbers t) c v.its k
        → (which : Mode → Bool) (n : ℕ) (cs : List ℕ) (h : CallHit forms callee arrays uses which n cs (within site place kind t) (args_at site numbers t))
        → nat_eq n its_number ≡ false → race.reduced_in (map race.portion one) array.name ≡ Some h.hit.access.arg → ⊥
    other_argument site numbers t k hm which n cs h aside e =
        let w = whole_in site numbers t k hm in
        let first : race.reduced_in (map race.portion one) array.name ≡ Some (0 + at.index) =
        ap (λ (p : race.Portion). p.position array.name) (opened.portion_call c) ∙ at.first in
        let z : 0 + at.index ≡ at.index = omega arith in
        let arg : h.hit.access.arg ≡ at.index = some_same h.hit.access.arg (0 + at.index) (sym e ∙ first) ∙ z in
        let same_argument : h.own ≡ w.x = some_same h.own w.x (sym h.position ∙ (ap (slice_get (args_at site numbers t)) arg ∙ w.there)) in
        let is : n ≡ its_number = sym h.is ∙ (ap (λ (a : Argument). a.array) same_argument ∙ w.number) in
        absurd (cc (sym (itself n its_number is) ∙ aside))

    abbrev map_of : CallSite → Map
    map_of site = record {
      place = place;
      depth = length site.iterations;
      calls = record { lo = site.call; hi = site.call + race.calls_of (map race.portion one) };
      reduced = race.reduced_in (map race.portion one) array.name;
    }

    reduce_apart : (site : CallSite) (numbers : Numbers) (l : List Step) → Turns site numbers l → Quiet forms callee arrays uses (map_of site)
        → AreApart (many numbers) (inside site numbers) (its_array (reduction_of elems op its_number))
    reduce_apart site numbers l its quiet = record {
      at = λ a b n cs la lb other aside wr touch.
          let ha = met_at site numbers l its a la in
          let hb = met_at site numbers l its b lb in
          let x = hit_in site numbers a ha.0 ha.1 is_written n cs wr in
          let y = hit_in site numbers b hb.0 hb.1 any_mode n cs touch in
          apart forms callee arrays uses lies (map_of site) quiet site place kind 1 refl refl (ap (λ k. site.call + k) one_call_there) any_mode n cs a b other
          x.hit y.hit
          (other_argument site numbers a ha.0 ha.1 is_written n cs x aside) (other_argument site numbers b hb.0 hb.1 any_mode n cs y aside);
    }

    reduce_linked : MapLinked place kind ranges one
    reduce_linked = record {
      work_calls = same_work_calls one linked;
      race_calls = same_race_calls one linked;
      later = λ site numbers l h. (iterations place kind ranges one linked site numbers l h).past;
      hits = λ site numbers l h which up n cs e. reduce_hits site numbers l (iterations place kind ranges one linked site numbers l h) which up n cs e;
      quiet = λ depth first ms q. all_quiet one linked (depth + 1) first ms q.1;
      free = λ site numbers l ms h q.
          let its = iterations place kind ranges one linked site numbers l h in
          (reduce_apart site numbers l its q.0, free_at place kind ranges one linked site numbers l ms its q.1);
    }

  -- ---- each statement

  -- a sound statement of its form, whose calls are served
  record Fine (x : Stmt) : Type 0 where
    known : Known
    sound : typed.is_sound_stmt tasks x known ≡ true
    formed : is_formed_stmt x ≡ true
    calls : AllIn Serves (text_calls x)

  pub record AllFine (xs : List Stmt) : Type 0 where
    pub known : Known
    pub sound : typed.are_sound_stmts tasks xs known ≡ true
    pub formed : are_formed_stmts xs ≡ true
    pub calls : AllIn Serves (concat (map text_calls xs))

  abbrev OfStmt : Stmt → Type 0
  OfStmt x = Fine x → Link x

  abbrev S : Type 0
  S = (x : Stmt) × OfStmt x

  abbrev stmts : List S → List Stmt
  stmts = map (λ (q : S). q.0)

  first_fine : (x : Stmt) (xs : List Stmt) → AllFine (x ∷ xs) → Fine x
  first_fine x xs h = record {
    known = h.known;
    sound = (both (typed.is_sound_stmt tasks x h.known) (typed.are_sound_stmts tasks xs h.known) h.sound).0;
    formed = (both (is_formed_stmt x) (are_formed_stmts xs) h.formed).0;
    calls = all_front Serves (text_calls x) (concat (map text_calls xs)) h.calls;
  }

  rest_fine : (x : Stmt) (xs : List Stmt) → AllFine (x ∷ xs) → AllFine xs
  rest_fine x xs h = record {
    known = h.known;
    sound = (both (typed.is_sound_stmt tasks x h.known) (typed.are_sound_stmts tasks xs h.known) h.sound).1;
    formed = (both (is_formed_stmt x) (are_formed_stmts xs) h.formed).1;
    calls = all_back Serves (text_calls x) (concat (map text_calls xs)) h.calls;
  }

  parts_linked : (xs : List S) → AllFine (stmts xs) → AllLinked (stmts xs)
  parts_linked [] h = tt
  parts_linked (x ∷ xs) h = (x.1 (first_fine x.0 (stmts xs) h), parts_linked xs (rest_fine x.0 (stmts xs) h))

  -- what is known of a map
  record MapFine (kind : MapKind) (ys : List Stmt) : Type 0 where
    known : Known
    reduction : typed.is_sound_kind tasks kind (typed.call_among (map (typed.tested tasks) ys)) known ≡ true
    fits : fits_kind kind (map form_of ys) ≡ true
    body_ : AllFine ys

  map_fine : (p : Place) (k : MapKind) (rs : List Range) (ys : List Stmt) → Fine (s.Map p k rs ys) → MapFine k ys
  map_fine p k rs ys h =
      let known = h.known in
      let bounds_ = typed.are_sound_bounds rs known in
      let kind_ = typed.is_sound_kind tasks k (typed.call_among (map (typed.tested tasks) ys)) known in
      let new_ = typed.are_new_variables rs known in
      let tests_ = typed.all_hold (map (λ (t : typed.StmtTest). t.test) (map (typed.tested tasks) ys)) (ranges_known rs known) in
      let g : (bounds_ && (kind_ && (new_ && tests_))) ≡ true = sym (ap (λ (t : typed.StmtTest). t.test known) (tested_map tasks p k rs ys)) ∙ h.sound in
      let e : tests_ ≡ typed.are_sound_stmts tasks ys (ranges_known rs known) =
      ap (λ (tests : List typed.Test). typed.all_hold tests (ranges_known rs known)) (map_map (λ (t : typed.StmtTest). t.test) (typed.tested tasks) ys) in
      let a = both bounds_ (kind_ && (new_ && tests_)) g in
      let b = both kind_ (new_ && tests_) a.1 in
      let c = both new_ tests_ b.1 in
      let f : (are_formed_ranges rs && (fits_kind k (map form_of ys) && are_formed_stmts ys)) ≡ true = sym (formed_map p k rs ys) ∙ h.formed in
      let i = both (are_formed_ranges rs) (fits_kind k (map form_of ys) && are_formed_stmts ys) f in
      let j = both (fits_kind k (map form_of ys)) (are_formed_stmts ys) i.1 in
      record {
        known = known;
        reduction = b.0;
        fits = j.0;
        body_ = record { known = ranges_known rs known; sound = sym e ∙ c.1; formed = j.1; calls = subst (AllIn Serves) (text_map p k rs ys) h.calls };
      }

  call_serves : (c : CallStmt) → AllIn Serves (concat (map text_calls (s.Call c ∷ []))) → Serves c
  call_serves c h =
      let first : AllIn Serves (text_calls (s.Call c)) = all_front Serves (text_calls (s.Call c)) [] h in
      (subst (AllIn Serves) (text_call c) first).0

  reduced_map : (p : Place) (op : RedOp) (array : Word) (rs : List Range) (ys : List Stmt) (c : CallStmt) → ys ≡ s.Call c ∷ [] → MapFine (Reduce op array) ys
      → MapLinked p (Reduce op array) rs ys
  reduced_map p op array rs ys c is h =
      let only : List Stmt = s.Call c ∷ [] in
      let g : MapFine (Reduce op array) only = subst (MapFine (Reduce op array)) is h in
      let its : typed.call_among (map (typed.tested tasks) only) ≡ Some c = ap (λ (t : typed.StmtTest). t.call) (tested_call tasks c) in
      let sound : typed.may_be_reduced (params_of tasks c.task) c.args array.name g.known ≡ true =
      sym (ap (λ o. typed.is_sound_kind tasks (Reduce op array) o g.known) its) ∙ g.reduction in
      let at = reduced_at g.known array.name (params_of tasks c.task) c.args sound in
      let tests = typed.is_sound_call tasks c g.body_.known in
      let one = both (typed.is_sound_stmt tasks (s.Call c) g.body_.known) (typed.all_hold [] g.body_.known) g.body_.sound in
      let call : tests ≡ true = sym (ap (λ (t : typed.StmtTest). t.test g.body_.known) (tested_call tasks c)) ∙ one.0 in
      let args_ = typed.are_sound_args (params_of tasks c.task) 0 c.args g.body_.known in
      let has = has_params_of (length c.args) (params_of tasks c.task) (both (typed.has_count (length c.args) (params_of tasks c.task)) args_ call).0 in
      subst (MapLinked p (Reduce op array) rs) (sym is) (reduce_linked p op array rs c (call_serves c g.body_.calls) has.0 has.1 at)

  map_linked : (p : Place) (k : MapKind) (rs : List Range) (ys : List Stmt) → AllLinked ys → MapFine k ys → MapLinked p k rs ys
  map_linked p Par rs ys l h = par_linked p rs ys l
  map_linked p Seq rs ys l h = seq_linked p rs ys l
  map_linked p (Reduce op array) rs ys l h = let only = one_call op array ys h.fits in reduced_map p op array rs ys only.0 only.1 h

  link_call : (c : CallStmt) → OfStmt (s.Call c)
  link_call c h = a_call c (subst (AllIn Serves) (text_call c) h.calls).0

  link_map : (p : Place) (k : MapKind) (rs : List Range) (xs : List S) → OfStmt (s.Map p k rs (stmts xs))
  link_map p k rs xs h =
      let g = map_fine p k rs (stmts xs) h in
      transported (s.Map p k rs (stmts xs)) _ _ _ (portion_map p k rs (stmts xs)) (share_map p k rs (stmts xs)) (opened.portion_map p k rs (stmts xs))
      (map_linked p k rs (stmts xs) (parts_linked xs g.body_) g)

  link_step : (y : Stmt-F S) → OfStmt (roll-Stmt (map-Stmt S Stmt (λ p. p.0) y))
  link_step (Stmt-F.Call c) = subst OfStmt (sym (s.rolls-Call c)) (link_call c)
  link_step (Stmt-F.Map p k rs xs) = subst OfStmt (sym (s.rolls-Map p k rs (stmts xs))) (link_map p k rs xs)

  link : (x : Stmt) → OfStmt x
  link = ind-Stmt OfStmt (λ x y is. subst (λ z. OfStmt (roll-Stmt z)) is (link_step y))

  links : (xs : List Stmt) → AllFine xs → AllLinked xs
  links [] h = tt
  links (x ∷ xs) h = (link x (first_fine x xs h), links xs (rest_fine x xs h))

  -- the work of a form's statements has no race
  pub statements_free : (xs : List Stmt) → AllFine xs → (numbers : Numbers) → Good (walk.stmts_steps xs frame names start numbers []) → Silent (maps_in xs)
      → IsRaceFree (works.stmts_work forms callee elems xs own names start numbers)
  statements_free xs h numbers g q = all_free xs (links xs h) start numbers [] [] g q
