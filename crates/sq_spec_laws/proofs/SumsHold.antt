-- The call of a `mapreduce` has the array that is reduced into once, whole.
use Rattle.std.proofs.Common.{◌≡◌, ℕ, zero, suc, ◌+◌, ◌<◌, ◌≤◌, Bool, true, false, ℤ, List, [], ◌∷◌, ◌++◌, map, length, Option, Some, None, Result, Ok, Err, refl, sym, ◌∙◌, ap, subst, arith}
use Rattle.std.specs.Prelude.{slice_get, ◌&&◌, ◌||◌, ◌==◌, if◌then◌else◌}
use Rattle.std.specs.Map.{lookup}
use Rattle.std.specs.Option.{option_map_or}
use Rattle.std.proofs.lemmas.Bool.Decides.{nat_tests}
use Rattle.sq_text.specs.declared.place.Place.{Place}
use Rattle.sq_text.specs.declared.place.Span.{Span}
use Rattle.sq_text.specs.declared.word.Word.{Word}
use Rattle.sq_text.specs.Names.{Bytes, same_name}
use Rattle.sq_ast.specs.Forms.{all, fits_kind, form_of, is_formed_stmt, are_formed_stmts, is_formed_variant, is_formed_body, are_formed_ranges, has_one, is_formed_param, is_formed_decl}
use Rattle.sq_ast.proofs.Opened.{formed_map}
use Rattle.sq_ast.specs.declared.expr.Expr.{Expr}
use Rattle.sq_ast.specs.declared.expr.ArgUse.{ArgUse, out-ArgUse}
use Rattle.sq_ast.specs.declared.stmt.Call.{Call}
use Rattle.sq_ast.specs.declared.stmt.Range.{Range}
use Rattle.sq_ast.specs.declared.stmt.MapKind.{MapKind}
use Rattle.sq_ast.specs.declared.stmt.MapKind.TheVariants.{Par, Seq, Reduce}
use Rattle.sq_ast.specs.declared.stmt.Stmt.{Stmt, roll-Stmt}
use Rattle.sq_ast.specs.declared.stmt.Stmt.TheVariants as s
use Rattle.sq_ast.specs.declared.stmt.Stmt.TheOpen.{Stmt-F}
use Rattle.sq_ast.specs.declared.stmt.Stmt.TheFolds.{ind-Stmt, map-Stmt}
use Rattle.sq_ast.specs.declared.program.Body.{Body}
use Rattle.sq_ast.specs.declared.program.Body.TheVariants.{Inner}
use Rattle.sq_ast.specs.declared.program.VariantKind.{VariantKind}
use Rattle.sq_ast.specs.declared.program.VariantKind.TheVariants as variant_kind
use Rattle.sq_ast.specs.declared.program.Mode.{Mode}
use Rattle.sq_ast.specs.declared.program.Mode.TheVariants.{Input, Output, Both}
use Rattle.sq_ast.specs.declared.program.Param.{Param}
use Rattle.sq_ast.specs.declared.program.Program.{Program}
use Rattle.sq_ast.specs.declared.program.Variant.{Variant}
use Rattle.sq_ast.specs.Forms.{is_formed}
use Rattle.sq_machfile.specs.declared.level.Level.{Level}
use Rattle.sq_forms.specs.Mappings.declared.mapping.Instance.{Instance}
use Rattle.sq_forms.specs.Mappings.declared.mapping.Mapping.{Mapping}
use Rattle.sq_forms.specs.Mappings.Sound.{Sound}
use Rattle.sq_types.specs.Sound.{is_sound}
use Rattle.sq_forms.specs.Tables.{variant_of}
use Rattle.sq_forms.proofs.Mappings.Same.{same, itself}
use Rattle.sq_types.specs.Known.{Known, kind_of}
use Rattle.sq_types.specs.Table.{uses_of, has_whole, keeps_both, is_block_of, is_both, same_mode, same_elem}
use Rattle.sq_types.specs.declared.kind.Kind.{Kind}
use Rattle.sq_types.specs.declared.kind.Kind.TheVariants as kind
use Rattle.sq_types.specs.Sites.{params_of as params_of_task, param_at as first_at, params_known, decls_known, ranges_known, with_variable}
use Rattle.sq_types.specs.Sound as typed
use Rattle.sq_types.proofs.SoundStmts.{tested_call, tested_map}
use Rattle.sq_types.proofs.OpenedStmt.{map_map}
use Rattle.sq_blocks.specs.Names.{Numbers}
use Rattle.sq_blocks.specs.Spans as spans
use Rattle.sq_blocks.specs.declared.fault.ConstFault.{ConstFault}
use Rattle.sq_blocks.specs.declared.argument.Argument.{Argument}
use Rattle.sq_forms.specs.declared.args.Block.{Block}
use Rattle.sq_forms.specs.declared.known.Array.{Array}
use Rattle.sq_forms.specs.declared.known.Blocks.{Blocks}
use Rattle.sq_forms.specs.Faults.{Value, and_then}
use Rattle.sq_forms.specs.Args.{Names, of_array, of_block, all_of_array, whole_array, block_of, block_in, block_or_fault, block_by, block, worths, argument, mode_of, is_reduced}
use Rattle.sq_spec.specs.FormLaws.Reached.{AreExamined, concat, text_calls, body_calls}
use Rattle.sq_forms.specs.Stmts.{reduced_by}
use Rattle.sq_spec_laws.specs.Summing.{WholeOf, IsSum, SumsAreWhole, SumsAreAlone}
use Rattle.sq_spec_laws.specs.TableRows.{Summed, all_summed, summed, summed_in}
use Rattle.sq_spec.proofs.FormLaws.AllHold.{within_list}
use Rattle.sq_spec.proofs.FormLaws.EachCall.{AllIn, all_front, all_back, text_call, text_map, InText, each_in_text}
use Rattle.sq_spec.proofs.FormLaws.FitHold.{is_equal, both, of_program, variant_parts}
use Rattle.sq_spec_laws.proofs.TableRowsHold.{summed_call, summed_map}
use Rattle.sq_spec_laws.proofs.OneName.{OneName, scope_names}
use Rattle.sq_spec_laws.proofs.Sorted.{known_kept}
use Rattle.sq_spec_laws.proofs.TypedHold.{CalleeTyped, callee_typed, as_first, same_modes, get_there}

-- ---- the text

-- the test of a reduction holds of the call, by what is known round it
record Judged (tasks : List Variant) (base : Known) (c : Call) (name : Bytes) : Type 0 where
  known : Known
  wider : (n : Bytes) (k : Kind) → kind_of base n ≡ Some k → kind_of known n ≡ Some k
  is : typed.may_be_reduced (params_of_task tasks c.task) c.args name known ≡ true

record PairFits (tasks : List Variant) (base : Known) (text : List Call) (p : Summed) : Type 0 where
  at : InText text p.1
  counted : typed.has_count (length p.1.args) (params_of_task tasks p.1.task) ≡ true
  sum : (name : Bytes) → p.0 ≡ Some name → Judged tasks base p.1 name

module _ (tasks : List Variant) (base : Known) (text : List Call) where
  -- what the declarations make known stays known
  abbrev Wider : Known → Type 0
  Wider known = (n : Bytes) (k : Kind) → kind_of base n ≡ Some k → kind_of known n ≡ Some k

  wider_ranges : (rs : List Range) (known : Known) → Wider known → Wider (ranges_known rs known)
  wider_ranges [] known w = w
  wider_ranges (r ∷ rs) known w = wider_ranges rs (with_variable known r) (λ n k e. known_kept known r.name kind.Variable n k (w n k e))

  abbrev AllPairs : List Summed → Type 0
  AllPairs [] = Unit {0}
  AllPairs (p ∷ ps) = PairFits tasks base text p × AllPairs ps

  pairs_both : (ps qs : List Summed) → AllPairs ps → AllPairs qs → AllPairs (ps ++ qs)
  pairs_both [] qs g h = h
  pairs_both (p ∷ ps) qs g h = (g.0, pairs_both ps qs g.1 h)

  pairs_at : (ps : List Summed) → AllPairs ps → (i : ℕ) (p : Summed) → slice_get ps i ≡ Some p → PairFits tasks base text p
  pairs_at [] h i p g = absurd (cc g)
  pairs_at (q ∷ ps) h zero p g = let is : q ≡ p = cc g in subst (PairFits tasks base text) is h.0
  pairs_at (q ∷ ps) h (suc i) p g = pairs_at ps h.1 i p g

  -- where a statement is a call in a reduction, that is judged
  abbrev JudgedIn : Option Bytes → Stmt → Type 0
  JudgedIn reduced x = (name : Bytes) → reduced ≡ Some name → (c : Call) → (typed.tested tasks x).call ≡ Some c → Judged tasks base c name

  abbrev AllJudged : Option Bytes → List Stmt → Type 0
  AllJudged reduced [] = Unit {0}
  AllJudged reduced (x ∷ xs) = JudgedIn reduced x × AllJudged reduced xs

  none_judged : (xs : List Stmt) → AllJudged None xs
  none_judged [] = tt
  none_judged (x ∷ xs) = (λ name e c h. absurd (cc e), none_judged xs)

  judged_by : (array : Word) (known : Known) → Wider known → (o : Option Call) → typed.is_sound_reduction tasks array o known ≡ true → (name : Bytes) → array.name ≡ name → (c : Call)
      → o ≡ Some c → Judged tasks base c name
  judged_by array known w o h name is c e =
      let own : typed.is_sound_reduction tasks array (Some c) known ≡ true = sym (ap (λ (q : Option Call). typed.is_sound_reduction tasks array q known) e) ∙ h in
      subst (Judged tasks base c) is (record { known = known; wider = w; is = own })

  kind_judged : (map_kind : MapKind) (known : Known) → Wider known → (xs : List Stmt) → fits_kind map_kind (map form_of xs) ≡ true
      → typed.is_sound_kind tasks map_kind (typed.call_among (map (typed.tested tasks) xs)) known ≡ true → AllJudged (reduced_by map_kind) xs
  kind_judged Par known w xs f h = none_judged xs
  kind_judged Seq known w xs f h = none_judged xs
  kind_judged (Reduce op array) known w [] f h = tt
  kind_judged (Reduce op array) known w (x ∷ []) f h = (λ name e c is. judged_by array known w (typed.tested tasks x).call h name (cc e) c is, tt)
  kind_judged (Reduce op array) known w (x ∷ y ∷ xs) f h = absurd (cc f)

  abbrev OfStmt : Stmt → Type 0
  OfStmt x = (known : Known) → Wider known → typed.is_sound_stmt tasks x known ≡ true → is_formed_stmt x ≡ true → AllIn (InText text) (text_calls x) → (reduced : Option Bytes)
      → JudgedIn reduced x → AllPairs (summed x reduced)

  abbrev S : Type 0
  S = (x : Stmt) × OfStmt x

  abbrev stmts : List S → List Stmt
  stmts = map (λ (q : S). q.0)

  all_pairs : (xs : List S) (known : Known) → Wider known → typed.are_sound_stmts tasks (stmts xs) known ≡ true → are_formed_stmts (stmts xs) ≡ true
      → AllIn (InText text) (concat (map text_calls (stmts xs))) → (reduced : Option Bytes) → AllJudged reduced (stmts xs)
      → AllPairs (all_summed (map summed (stmts xs)) reduced)
  all_pairs [] known w h f m reduced j = tt
  all_pairs (x ∷ xs) known w h f m reduced j =
      let rest = concat (map text_calls (stmts xs)) in
      let p = both (typed.is_sound_stmt tasks x.0 known) (typed.are_sound_stmts tasks (stmts xs) known) h in
      let q = both (is_formed_stmt x.0) (are_formed_stmts (stmts xs)) f in
      pairs_both (summed x.0 reduced) (all_summed (map summed (stmts xs)) reduced)
      (x.1 known w p.0 q.0 (all_front (InText text) (text_calls x.0) rest m) reduced j.0)
      (all_pairs xs known w p.1 q.1 (all_back (InText text) (text_calls x.0) rest m) reduced j.1)

  call_pairs : (c : Call) → OfStmt (s.Call c)
  call_pairs c known w h f m reduced j =
      let t : typed.is_sound_call tasks c known ≡ true = sym (ap (λ (t : typed.StmtTest). t.test known) (tested_call tasks c)) ∙ h in
      let p = both (typed.has_count (length c.args) (params_of_task tasks c.task)) (typed.are_sound_args (params_of_task tasks c.task) 0 c.args known) t in
      let own : AllIn (InText text) (c ∷ []) = subst (AllIn (InText text)) (text_call c) m in
      subst (λ (g : Option Bytes → List Summed). AllPairs (g reduced)) (sym (summed_call c))
      (record { at = own.0; counted = p.0; sum = λ name e. j name e c (ap (λ (t : typed.StmtTest). t.call) (tested_call tasks c)) }, tt)

  map_pairs : (p : Place) (k : MapKind) (rs : List Range) (xs : List S) → OfStmt (s.Map p k rs (stmts xs))
  map_pairs p k rs xs known wide h f m reduced j =
      let ys = stmts xs in
      let bounds_ = typed.are_sound_bounds rs known in
      let kind_ = typed.is_sound_kind tasks k (typed.call_among (map (typed.tested tasks) ys)) known in
      let new_ = typed.are_new_variables rs known in
      let tests_ = typed.all_hold (map (λ (t : typed.StmtTest). t.test) (map (typed.tested tasks) ys)) (ranges_known rs known) in
      let stmts_ = typed.are_sound_stmts tasks ys (ranges_known rs known) in
      let g : (bounds_ && (kind_ && (new_ && tests_))) ≡ true = sym (ap (λ (t : typed.StmtTest). t.test known) (tested_map tasks p k rs ys)) ∙ h in
      let e : tests_ ≡ stmts_ = ap (λ (tests : List typed.Test). typed.all_hold tests (ranges_known rs known)) (map_map (λ (t : typed.StmtTest). t.test) (typed.tested tasks) ys) in
      let a = both bounds_ (kind_ && (new_ && tests_)) g in
      let b = both kind_ (new_ && tests_) a.1 in
      let c = both new_ tests_ b.1 in
      let formed : (are_formed_ranges rs && (fits_kind k (map form_of ys) && are_formed_stmts ys)) ≡ true = sym (formed_map p k rs ys) ∙ f in
      let u = both (are_formed_ranges rs) (fits_kind k (map form_of ys) && are_formed_stmts ys) formed in
      let w = both (fits_kind k (map form_of ys)) (are_formed_stmts ys) u.1 in
      subst (λ (q : Option Bytes → List Summed). AllPairs (q reduced)) (sym (summed_map p k rs ys))
      (all_pairs xs (ranges_known rs known) (wider_ranges rs known wide) (sym e ∙ c.1) w.1 (subst (AllIn (InText text)) (text_map p k rs ys) m) (reduced_by k) (kind_judged k known wide ys w.0 b.0))

  pairs_step : (y : Stmt-F S) → OfStmt (roll-Stmt (map-Stmt S Stmt (λ p. p.0) y))
  pairs_step (Stmt-F.Call c) = subst OfStmt (sym (s.rolls-Call c)) (call_pairs c)
  pairs_step (Stmt-F.Map p k rs xs) = subst OfStmt (sym (s.rolls-Map p k rs (stmts xs))) (map_pairs p k rs xs)

  pairs_stmt : (x : Stmt) → OfStmt x
  pairs_stmt = ind-Stmt OfStmt (λ x y is. subst (λ z. OfStmt (roll-Stmt z)) is (pairs_step y))

  pairs_stmts : (list : List Stmt) (known : Known) → Wider known → typed.are_sound_stmts tasks list known ≡ true → are_formed_stmts list ≡ true
      → AllIn (InText text) (concat (map text_calls list)) → AllPairs (summed_in list None)
  pairs_stmts [] known w h f m = tt
  pairs_stmts (x ∷ list) known w h f m =
      let rest = concat (map text_calls list) in
      let p = both (typed.is_sound_stmt tasks x known) (typed.are_sound_stmts tasks list known) h in
      let q = both (is_formed_stmt x) (are_formed_stmts list) f in
      pairs_both (summed x None) (summed_in list None)
      (pairs_stmt x known w p.0 q.0 (all_front (InText text) (text_calls x) rest m) None (λ name e c g. absurd (cc e)))
      (pairs_stmts list known w p.1 q.1 (all_back (InText text) (text_calls x) rest m))

-- ---- the arguments

flag_by : (a name : Bytes) (c : Bool) → same_name name a ≡ c → same_name a name ≡ false → c ≡ false
flag_by a name true e h = let is : name ≡ a = same name a e in absurd (cc (sym h ∙ (ap (λ m. same_name a m) is ∙ itself a)))
flag_by a name false e h = refl

-- another name's argument isn't what is reduced into
not_flagged : (a name : Bytes) → same_name a name ≡ false → same_name name a ≡ false
not_flagged a name h = flag_by a name (same_name name a) refl h

abbrev argument_okay : Argument → Value Argument
argument_okay x = Ok x

flag_made : (reduced : Option Bytes) (param : Option Param) (a : ArgUse) (x : Argument) (v : Value Block)
    → and_then v (λ b. argument_okay (record { mode = mode_of param; is_reduced = is_reduced reduced a; array = b.array; rect = b.rect })) ≡ Ok x
    → (x.is_reduced ≡ is_reduced reduced a) × (x.mode ≡ mode_of param)
flag_made reduced param a x (Ok b) h =
    let made : Argument = record { mode = mode_of param; is_reduced = is_reduced reduced a; array = b.array; rect = b.rect } in
    let is : made ≡ x = cc h in (sym (ap (λ (y : Argument). y.is_reduced) is), sym (ap (λ (y : Argument). y.mode) is))
flag_made reduced param a x (Err e) h = absurd (cc h)

not_zero : (n : ℕ) → (suc n == 0) ≡ true → ⊥
not_zero n e = absurd (grind (arith, nat_tests))

module _ (names : Names) (numbers : Numbers) (name : Bytes) where
  whole_rect : (a : ArgUse) (x : Argument) (param : Option Param) (array : Array) → lookup (same_name name) names.arrays ≡ Some array → (o : Option (List Span))
      → spans.wholes array.extents ≡ o
      → and_then (block_or_fault a (of_array array.number o)) (λ b. argument_okay (record { mode = mode_of param; is_reduced = is_reduced (Some name) a; array = b.array; rect = b.rect })) ≡ Ok x
      → WholeOf names name x
  whole_rect a x param array e None w h = absurd (cc h)
  whole_rect a x param array e (Some rect) w h =
      let made : Argument = record { mode = mode_of param; is_reduced = is_reduced (Some name) a; array = array.number; rect = rect } in
      let is : made ≡ x = cc h in
      subst (WholeOf names name) is (record { array = array; is = e; number = refl; whole = w })

  whole_array_of : (a : ArgUse) (x : Argument) (param : Option Param) (o : Option Array) → lookup (same_name name) names.arrays ≡ o
      → and_then (block_or_fault a (all_of_array o)) (λ b. argument_okay (record { mode = mode_of param; is_reduced = is_reduced (Some name) a; array = b.array; rect = b.rect })) ≡ Ok x
      → WholeOf names name x
  whole_array_of a x param None e h = absurd (cc h)
  whole_array_of a x param (Some array) e h = whole_rect a x param array e (spans.wholes array.extents) refl h

  whole_by : (a : ArgUse) (x : Argument) (param : Option Param) (index : List Expr) → (out-ArgUse a).name ≡ name → (length index == 0) ≡ true
      → and_then (block_by names numbers a index) (λ b. argument_okay (record { mode = mode_of param; is_reduced = is_reduced (Some name) a; array = b.array; rect = b.rect })) ≡ Ok x
      → WholeOf names name x
  whole_by a x param [] is none h =
      whole_array_of a x param (lookup (same_name name) names.arrays) refl
      (sym (ap (λ n. and_then (block_or_fault a (whole_array names n)) (λ b. argument_okay (record { mode = mode_of param; is_reduced = is_reduced (Some name) a; array = b.array; rect = b.rect }))) is) ∙ h)
  whole_by a x param (e ∷ es) is none h = absurd (not_zero (length es) none)

  module _ (known : Known) (first : Option (List Param)) (params : List Param) where
    abbrev Modes : ℕ → Type 0
    Modes i = (j : ℕ) → i ≤ j → keeps_both first j ≡ true → mode_of (slice_get params j) ≡ Both

    some_use : (i : ℕ) (args : List ArgUse) → has_whole name first i args ≡ true → 0 < uses_of known name args
    some_use i [] h = absurd (cc h)
    some_use i (a ∷ rest) h =
        by (same_name (out-ArgUse a).name name) (is_block_of name (kind_of known (out-ArgUse a).name)) (length (out-ArgUse a).index == 0) (keeps_both first i) (some_use (i + 1) rest) h
      where
        by : (n c z k : Bool) → (has_whole name first (i + 1) rest ≡ true → 0 < uses_of known name rest) → ((n && z && k) || has_whole name first (i + 1) rest) ≡ true
            → 0 < (if n || c then 1 else 0) + uses_of known name rest
        by true c z k f g = omega arith
        by false true z k f g = omega arith
        by false false z k f g = let l = f g in omega (arith, l)

    unused_by : (n c : Bool) (m : ℕ) → (if n || c then 1 else 0) + m ≡ 0 → (n ≡ false) × (m ≡ 0)
    unused_by true c m h = absurd (omega (arith, h))
    unused_by false true m h = absurd (omega (arith, h))
    unused_by false false m h = (refl, omega (arith, h))

    no_flag : (i : ℕ) (args : List ArgUse) (xs : List Argument) → uses_of known name args ≡ 0 → AreExamined names numbers (Some name) params i args xs
        → (j : ℕ) (x : Argument) → slice_get xs j ≡ Some x → x.is_reduced ≡ false
    no_flag i [] [] u h j x g = absurd (cc g)
    no_flag i [] (y ∷ xs) u h j x g = absurd h
    no_flag i (a ∷ rest) [] u h j x g = absurd h
    no_flag i (a ∷ rest) (y ∷ xs) u h zero x g =
        let is : y ≡ x = cc g in
        let q = unused_by (same_name (out-ArgUse a).name name) (is_block_of name (kind_of known (out-ArgUse a).name)) (uses_of known name rest) u in
        sym (ap (λ (z : Argument). z.is_reduced) is) ∙ ((flag_made (Some name) (slice_get params i) a y (block names numbers a) h.0).0 ∙ not_flagged (out-ArgUse a).name name q.0)
    no_flag i (a ∷ rest) (y ∷ xs) u h (suc j) x g =
        let q = unused_by (same_name (out-ArgUse a).name name) (is_block_of name (kind_of known (out-ArgUse a).name)) (uses_of known name rest) u in
        no_flag (i + 1) rest xs q.1 h.1 j x g

    -- the first argument is it, and no other; or it isn't named, and one behind it is it
    data Cases (n z k : Bool) (m : ℕ) (more : Bool) : Type 0 where
      here : n ≡ true → z ≡ true → k ≡ true → m ≡ 0 → Cases n z k m more
      later : n ≡ false → m ≡ 1 → more ≡ true → Cases n z k m more

    cases_of : (n c z k : Bool) (m : ℕ) (more : Bool) → (more ≡ true → 0 < m) → (if n || c then 1 else 0) + m ≡ 1 → ((n && z && k) || more) ≡ true → Cases n z k m more
    cases_of true c true true m more f u h = here refl refl refl (omega (arith, u))
    cases_of true c true false m more f u h = absurd (omega (arith, f h, u))
    cases_of true c false k m more f u h = absurd (omega (arith, f h, u))
    cases_of false true z k m more f u h = absurd (omega (arith, f h, u))
    cases_of false false z k m more f u h = later refl (omega (arith, u)) h

    sum_by : (i : ℕ) (a : ArgUse) (rest : List ArgUse) (y : Argument) (xs : List Argument) → Modes i
        → argument names numbers (Some name) (slice_get params i) a ≡ Ok y → AreExamined names numbers (Some name) params (i + 1) rest xs
        → (uses_of known name rest ≡ 1 → has_whole name first (i + 1) rest ≡ true → IsSum names name xs)
        → Cases (same_name (out-ArgUse a).name name) (length (out-ArgUse a).index == 0) (keeps_both first i) (uses_of known name rest) (has_whole name first (i + 1) rest)
        → IsSum names name (y ∷ xs)
    sum_by i a rest y xs modes own examined more (here n z k m) =
        let is : (out-ArgUse a).name ≡ name = same (out-ArgUse a).name name n in
        let made = flag_made (Some name) (slice_get params i) a y (block names numbers a) own in
        record {
          at = 0;
          sum = y;
          there = refl;
          reduced = made.0 ∙ (ap (same_name name) is ∙ itself name);
          mode = made.1 ∙ modes i (omega arith) k;
          of = whole_by a y (slice_get params i) (out-ArgUse a).index is z own;
          others = other;
        }
      where
        other : (j : ℕ) (x : Argument) → slice_get (y ∷ xs) j ≡ Some x → (j ≡ 0 → ⊥) → x.is_reduced ≡ false
        other zero x g far = absurd (far refl)
        other (suc j) x g far = no_flag (i + 1) rest xs m examined j x g
    sum_by i a rest y xs modes own examined more (later n m w) =
        let r = more m w in
        record { at = suc r.at; sum = r.sum; there = r.there; reduced = r.reduced; mode = r.mode; of = r.of; others = other r }
      where
        other : (r : IsSum names name xs) (j : ℕ) (x : Argument) → slice_get (y ∷ xs) j ≡ Some x → (j ≡ suc r.at → ⊥) → x.is_reduced ≡ false
        other r zero x g far =
            let is : y ≡ x = cc g in
            sym (ap (λ (z : Argument). z.is_reduced) is) ∙ ((flag_made (Some name) (slice_get params i) a y (block names numbers a) own).0 ∙ not_flagged (out-ArgUse a).name name n)
        other r (suc j) x g far = r.others j x g (λ e. far (ap suc e))

    sum_from : (i : ℕ) (args : List ArgUse) (xs : List Argument) → Modes i → uses_of known name args ≡ 1 → has_whole name first i args ≡ true
        → AreExamined names numbers (Some name) params i args xs → IsSum names name xs
    sum_from i [] xs modes u h examined = absurd (cc h)
    sum_from i (a ∷ rest) [] modes u h examined = absurd examined
    sum_from i (a ∷ rest) (y ∷ xs) modes u h examined =
        sum_by i a rest y xs modes examined.0 examined.1
        (λ m w. sum_from (i + 1) rest xs (λ j le k. modes j (omega (arith, le)) k) m w examined.1)
        (cases_of (same_name (out-ArgUse a).name name) (is_block_of name (kind_of known (out-ArgUse a).name)) (length (out-ArgUse a).index == 0) (keeps_both first i)
        (uses_of known name rest) (has_whole name first (i + 1) rest) (some_use (i + 1) rest) u h)

-- ---- the program

all_there : (f : Variant → Bool) (vs : List Variant) → all (map f vs) ≡ true → (i : ℕ) (v : Variant) → slice_get vs i ≡ Some v → f v ≡ true
all_there f [] h i v g = absurd (cc g)
all_there f (w ∷ vs) h zero v g = let is : w ≡ v = cc g in ap f (sym is) ∙ (both (f w) (all (map f vs)) h).0
all_there f (w ∷ vs) h (suc i) v g = all_there f vs (both (f w) (all (map f vs)) h).1 i v g

formed_inner : (k : VariantKind) (list : List Stmt) → is_formed_body k (Inner list) ≡ true → are_formed_stmts list ≡ true
formed_inner variant_kind.Inner list h = h
formed_inner variant_kind.Leaf list h = absurd (cc h)

body_formed : (v : Variant) → is_formed_variant v ≡ true → is_formed_body v.kind v.body ≡ true
body_formed v h =
    let a = both (has_one v.params) (all (map is_formed_param v.params) && (all (map (is_formed_decl v.kind) v.decls) && is_formed_body v.kind v.body)) h in
    let b = both (all (map is_formed_param v.params)) (all (map (is_formed_decl v.kind) v.decls) && is_formed_body v.kind v.body) a.1 in
    (both (all (map (is_formed_decl v.kind) v.decls)) (is_formed_body v.kind v.body) b.1).1

both_is : (m : Mode) → is_both m ≡ true → m ≡ Both
both_is Input h = absurd (cc h)
both_is Output h = absurd (cc h)
both_is Both h = refl

-- the first variant's parameter is `inout`
record KeptBoth (first : Option (List Param)) (args j : ℕ) : Type 0 where
  param : Param
  there : first_at first j ≡ Some param
  mode : param.mode ≡ Both
  less : j < args

kept_by : (ps : List Param) (args j : ℕ) → length ps ≡ args → (o : Option Param) → slice_get ps j ≡ o → option_map_or (λ p. is_both p.mode) o false ≡ true → KeptBoth (Some ps) args j
kept_by ps args j many None e h = absurd (cc h)
kept_by ps args j many (Some p) e h = record { param = p; there = e; mode = both_is p.mode h; less = omega (arith, many, within_list ps j p e) }

kept_both : (first : Option (List Param)) (args j : ℕ) → typed.has_count args first ≡ true → keeps_both first j ≡ true → KeptBoth first args j
kept_both None args j c h = absurd (cc c)
kept_both (Some ps) args j c h = kept_by ps args j (is_equal (length ps) args c) (slice_get ps j) refl h

modes_of : (first : Option (List Param)) (c : Call) (params : List Param) → typed.has_count (length c.args) first ≡ true → length c.args ≡ length params
    → typed.are_sound_params first 0 params [] ≡ true → (j : ℕ) → keeps_both first j ≡ true → mode_of (slice_get params j) ≡ Both
modes_of first c params counted many sound j h =
    let k = kept_both first (length c.args) j counted h in
    let own = get_there params j (omega (arith, many, k.less)) in
    let z : j ≡ 0 + j = omega arith in
    let like : typed.is_as_first (Some k.param) own.0 ≡ true = sym (ap (λ o. typed.is_as_first o own.0) (sym (ap (first_at first) z) ∙ k.there)) ∙ as_first first 0 params [] sound j own.0 own.1 in
    let l = both (length k.param.extents == length own.0.extents) (same_mode k.param.mode own.0.mode && same_elem k.param.elem own.0.elem) like in
    let m = both (same_mode k.param.mode own.0.mode) (same_elem k.param.elem own.0.elem) l.1 in
    ap mode_of own.1 ∙ (sym (same_modes k.param.mode own.0.mode m.0) ∙ k.mode)

-- a call of the text that stands right in a reduction
record InSum (tasks : List Variant) (base : Known) (text : List Call) (name : Bytes) (c : Call) : Type 0 where
  pair : PairFits tasks base text (Some name, c)
  judged : Judged tasks base c name
  once : uses_of judged.known name c.args ≡ 1
  whole : has_whole name (params_of_task tasks c.task) 0 c.args ≡ true

in_sum : (program : Program) (levels : List Level) (mapping : Mapping) → is_formed program ≡ true → is_sound program ≡ true → Sound program levels mapping
    → (x : Instance) (v : Variant) → variant_of program.tasks x.task x.kind ≡ Some v → (list : List Stmt) → v.body ≡ Inner list
    → (i : ℕ) (name : Bytes) (c : Call) → slice_get (summed_in list None) i ≡ Some (Some name, c)
    → InSum program.tasks (decls_known v.decls (params_known v.params [])) (body_calls v.body) name c
in_sum program levels mapping formed faultless sound x v runs list body i name c at =
    let tasks = program.tasks in
    let known = decls_known v.decls (params_known v.params []) in
    let parts = variant_parts program levels mapping faultless sound x.task x.kind v runs in
    let sound_list : typed.are_sound_stmts tasks list known ≡ true = subst (λ (z : Body). typed.is_sound_body tasks z known ≡ true) body parts.body_ in
    let o = of_program tasks x.task x.kind v runs in
    let formed_body : is_formed_body v.kind (Inner list) ≡ true = subst (λ (z : Body). is_formed_body v.kind z ≡ true) body (body_formed v (all_there is_formed_variant tasks formed o.index v o.there)) in
    let formed_list = formed_inner v.kind list formed_body in
    let text = body_calls v.body in
    let in_text : AllIn (InText text) (concat (map text_calls list)) = subst (λ (z : Body). AllIn (InText text) (body_calls z)) body (each_in_text text) in
    let pair = pairs_at tasks known text (summed_in list None) (pairs_stmts tasks known text list known (λ n k e. e) sound_list formed_list in_text) i (Some name, c) at in
    let judged = pair.sum name refl in
    let first = params_of_task tasks c.task in
    let a = both (typed.may_write (kind_of judged.known name)) (uses_of judged.known name c.args == 1 && has_whole name first 0 c.args) judged.is in
    let b = both (uses_of judged.known name c.args == 1) (has_whole name first 0 c.args) a.1 in
    record { pair = pair; judged = judged; once = is_equal (uses_of judged.known name c.args) 1 b.0; whole = b.1 }

pub sums_are_whole : SumsAreWhole
sums_are_whole program levels mapping formed faultless sound number x v there runs list body i name c at k f names numbers callee serves xs examined =
    let its = in_sum program levels mapping formed faultless sound x v runs list body i name c at in
    let first = params_of_task program.tasks c.task in
    let of : CalleeTyped program levels mapping faultless sound c callee.params = callee_typed program levels mapping faultless sound x v number k f its.pair.at.position c callee there runs its.pair.at.among serves its.pair.counted in
    sum_from names numbers name its.judged.known first callee.params 0 c.args xs (λ j le h. modes_of first c callee.params its.pair.counted of.args of.first j h)
    its.once its.whole examined

-- ---- no other argument is of the array

-- the one use is the array, whole: the arguments of another name are no blocks of it
module _ (name : Bytes) (known : Known) (first : Option (List Param)) where
  abbrev IsOther : ArgUse → Type 0
  IsOther u = same_name (out-ArgUse u).name name ≡ false → is_block_of name (kind_of known (out-ArgUse u).name) ≡ false

  unused : (args : List ArgUse) → uses_of known name args ≡ 0 → (j : ℕ) (u : ArgUse) → slice_get args j ≡ Some u
      → is_block_of name (kind_of known (out-ArgUse u).name) ≡ false
  unused [] h j u g = absurd (cc g)
  unused (a ∷ rest) h zero u g =
      let is : a ≡ u = cc g in
      ap (λ (w : ArgUse). is_block_of name (kind_of known (out-ArgUse w).name)) (sym is)
      ∙ none_of (same_name (out-ArgUse a).name name) (is_block_of name (kind_of known (out-ArgUse a).name)) (uses_of known name rest) h
    where
      none_of : (n c : Bool) (m : ℕ) → (if n || c then 1 else 0) + m ≡ 0 → c ≡ false
      none_of true c m e = absurd (omega (arith, e))
      none_of false true m e = absurd (omega (arith, e))
      none_of false false m e = refl
  unused (a ∷ rest) h (suc j) u g =
      unused rest (behind (same_name (out-ArgUse a).name name || is_block_of name (kind_of known (out-ArgUse a).name)) (uses_of known name rest) h) j u g
    where
      behind : (b : Bool) (m : ℕ) → (if b then 1 else 0) + m ≡ 0 → m ≡ 0
      behind true m e = absurd (omega (arith, e))
      behind false m e = omega (arith, e)

  others_from : (i : ℕ) (args : List ArgUse) → uses_of known name args ≡ 1 → has_whole name first i args ≡ true → (j : ℕ) (u : ArgUse)
      → slice_get args j ≡ Some u → IsOther u
  others_from i [] h w j u g = absurd (cc g)
  others_from i (a ∷ rest) h w j u g =
      by (same_name (out-ArgUse a).name name) (is_block_of name (kind_of known (out-ArgUse a).name)) (length (out-ArgUse a).index == 0) (keeps_both first i)
      (λ one_more all k at. others_from (i + 1) rest one_more all k u at) refl refl h w j g
    where
      some : 0 < uses_of known name rest → uses_of known name rest ≡ 0 → ⊥
      some less none = absurd (omega (arith, less, none))

      by : (n c z k : Bool)
          → (uses_of known name rest ≡ 1 → has_whole name first (i + 1) rest ≡ true → (j : ℕ) → slice_get rest j ≡ Some u → IsOther u)
          → same_name (out-ArgUse a).name name ≡ n → is_block_of name (kind_of known (out-ArgUse a).name) ≡ c
          → (if n || c then 1 else 0) + uses_of known name rest ≡ 1 → ((n && z && k) || has_whole name first (i + 1) rest) ≡ true
          → (j : ℕ) → slice_get (a ∷ rest) j ≡ Some u → IsOther u
      by true c z k more e f h w zero g far =
          let is : a ≡ u = cc g in
          absurd (cc (sym e ∙ (ap (λ (v : ArgUse). same_name (out-ArgUse v).name name) is ∙ far)))
      by true c z k more e f h w (suc j) g far = let none : uses_of known name rest ≡ 0 = omega (arith, h) in unused rest none j u g
      by false true z k more e f h w j g far =
          let none : uses_of known name rest ≡ 0 = omega (arith, h) in
          absurd (some (some_use (record { lists = []; arrays = []; blocks = [] }) [] name known first [] (i + 1) rest w) none)
      by false false z k more e f h w zero g far = let is : a ≡ u = cc g in ap (λ (v : ArgUse). is_block_of name (kind_of known (out-ArgUse v).name)) (sym is) ∙ f
      by false false z k more e f h w (suc j) g far = more (omega (arith, h)) w j g far

array_made : (reduced : Option Bytes) (param : Option Param) (a : ArgUse) (x : Argument) (v : Value Block)
    → and_then v (λ b. argument_okay (record { mode = mode_of param; is_reduced = is_reduced reduced a; array = b.array; rect = b.rect })) ≡ Ok x
    → (b : Block) × (v ≡ Ok b) × (b.array ≡ x.array)
array_made reduced param a x (Ok b) h =
    let made : Argument = record { mode = mode_of param; is_reduced = is_reduced reduced a; array = b.array; rect = b.rect } in
    let is : made ≡ x = cc h in (b, refl, ap (λ (y : Argument). y.array) is)
array_made reduced param a x (Err e) h = absurd (cc h)

-- of a form's names: another name's argument is of another array, if it is no block of this one
module _ (base known : Known) (wider : (n : Bytes) (k : Kind) → kind_of base n ≡ Some k → kind_of known n ≡ Some k) (names : Names) (count : ℕ)
    (numbers : Numbers) (name : Bytes) (h : OneName base names count) (array : Array) (there : lookup (same_name name) names.arrays ≡ Some array) where
  whole_rect_of : (u : ArgUse) (b : Block) (a : Array) → lookup (same_name (out-ArgUse u).name) names.arrays ≡ Some a → (o : Option (List Span))
      → block_or_fault u (of_array a.number o) ≡ Ok b → b.array ≡ array.number → (out-ArgUse u).name ≡ name
  whole_rect_of u b a e None g same_ = absurd (cc g)
  whole_rect_of u b a e (Some rect) g same_ =
      let made : Block = record { array = a.number; rect = rect } in
      let is : made ≡ b = cc g in
      h.one (out-ArgUse u).name name a array e there (ap (λ (c : Block). c.array) is ∙ same_)

  whole_of : (u : ArgUse) (b : Block) (o : Option Array) → lookup (same_name (out-ArgUse u).name) names.arrays ≡ o
      → block_or_fault u (all_of_array o) ≡ Ok b → b.array ≡ array.number → (out-ArgUse u).name ≡ name
  whole_of u b None e g same_ = absurd (cc g)
  whole_of u b (Some a) e g same_ = whole_rect_of u b a e (spans.wholes a.extents) g same_

  listed_rect_of : (u : ArgUse) (b : Block) (bs : Blocks) → lookup (same_name (out-ArgUse u).name) names.blocks ≡ Some bs
      → (o : Result (List Span) ConstFault) → block_or_fault u (of_block bs.array o) ≡ Ok b → b.array ≡ array.number
      → is_block_of name (kind_of known (out-ArgUse u).name) ≡ true
  listed_rect_of u b bs e (Err f) g same_ = absurd (cc g)
  listed_rect_of u b bs e (Ok rect) g same_ =
      let made : Block = record { array = bs.array; rect = rect } in
      let is : made ≡ b = cc g in
      let of = h.blocks (out-ArgUse u).name bs e in
      let named : of.array ≡ name = h.one of.array name of.entry array of.there there (of.number ∙ (ap (λ (c : Block). c.array) is ∙ same_)) in
      ap (is_block_of name) (wider (out-ArgUse u).name of.kind_ of.is) ∙ subst (λ m. is_block_of m (Some of.kind_) ≡ true) named of.of

  listed_of : (u : ArgUse) (b : Block) (index : List ℤ) (o : Option Blocks) → lookup (same_name (out-ArgUse u).name) names.blocks ≡ o
      → block_or_fault u (block_of index o) ≡ Ok b → b.array ≡ array.number → is_block_of name (kind_of known (out-ArgUse u).name) ≡ true
  listed_of u b index None e g same_ = absurd (cc g)
  listed_of u b index (Some bs) e g same_ = listed_rect_of u b bs e (spans.block bs.chop index) g same_

  indexed_of : (u : ArgUse) (b : Block) (v : Value (List ℤ)) → and_then v (λ index. block_or_fault u (block_in names (out-ArgUse u).name index)) ≡ Ok b
      → b.array ≡ array.number → is_block_of name (kind_of known (out-ArgUse u).name) ≡ true
  indexed_of u b (Err f) g same_ = absurd (cc g)
  indexed_of u b (Ok index) g same_ = listed_of u b index (lookup (same_name (out-ArgUse u).name) names.blocks) refl g same_

  block_apart : (u : ArgUse) (b : Block) (index : List Expr) → block_by names numbers u index ≡ Ok b → same_name (out-ArgUse u).name name ≡ false
      → is_block_of name (kind_of known (out-ArgUse u).name) ≡ false → b.array ≡ array.number → ⊥
  block_apart u b [] g far other same_ =
      let is : (out-ArgUse u).name ≡ name = whole_of u b (lookup (same_name (out-ArgUse u).name) names.arrays) refl g same_ in
      absurd (cc (sym (ap (λ m. same_name m name) is ∙ itself name) ∙ far))
  block_apart u b (e ∷ es) g far other same_ =
      let is = indexed_of u b (worths (e ∷ es) numbers names.lists) g same_ in
      absurd (cc (sym is ∙ other))

-- an argument with the use that it stands for
record UseAt (names : Names) (numbers : Numbers) (name : Bytes) (args : List ArgUse) (j : ℕ) (x : Argument) : Type 0 where
  given : ArgUse
  there : slice_get args j ≡ Some given
  param : Option Param
  is : argument names numbers (Some name) param given ≡ Ok x

use_at : (names : Names) (numbers : Numbers) (name : Bytes) (params : List Param) (i : ℕ) (args : List ArgUse) (xs : List Argument)
    → AreExamined names numbers (Some name) params i args xs → (j : ℕ) (x : Argument) → slice_get xs j ≡ Some x → UseAt names numbers name args j x
use_at names numbers name params i [] [] h j x g = absurd (cc g)
use_at names numbers name params i [] (y ∷ xs) h j x g = absurd h
use_at names numbers name params i (a ∷ rest) [] h j x g = absurd h
use_at names numbers name params i (a ∷ rest) (y ∷ xs) h zero x g =
    let is : y ≡ x = cc g in record { given = a; there = refl; param = slice_get params i; is = h.0 ∙ ap Ok is }
use_at names numbers name params i (a ∷ rest) (y ∷ xs) h (suc j) x g =
    let r = use_at names numbers name params (i + 1) rest xs h.1 j x g in record { given = r.given; there = r.there; param = r.param; is = r.is }

pub sums_are_alone : SumsAreAlone
sums_are_alone program levels mapping formed faultless sound x v runs list body i name c at extents begun scope binds decls numbers params xs examined j a g flag array there same_ =
    let its = in_sum program levels mapping formed faultless sound x v runs list body i name c at in
    let parts = variant_parts program levels mapping faultless sound x.task x.kind v runs in
    let base = decls_known v.decls (params_known v.params []) in
    let named = scope_names v.params extents begun scope x.tunings v.decls (length v.params) parts.decls_ binds decls in
    let used = use_at scope.names numbers name params 0 c.args xs examined j a g in
    let made = flag_made (Some name) used.param used.given a (block scope.names numbers used.given) used.is in
    let b = array_made (Some name) used.param used.given a (block scope.names numbers used.given) used.is in
    let far : same_name (out-ArgUse used.given).name name ≡ false = not_flagged name (out-ArgUse used.given).name (sym made.0 ∙ flag) in
    let other = others_from name its.judged.known (params_of_task program.tasks c.task) 0 c.args its.once its.whole j used.given used.there far in
    block_apart base its.judged.known its.judged.wider scope.names scope.arrays numbers name named array there used.given b.0 (out-ArgUse used.given).index b.1 far other (b.2 ∙ same_)
