-- Whether a program is sound doesn't depend on its places.
use Rattle.std.proofs.Common.{◌≡◌, ℕ, ◌+◌, ◌==◌, Bool, false, not, ◌&&◌, ◌||◌, List, [], ◌∷◌, map, length, Option, Some, None, option_map, slice_get, refl, sym, ap, ap₂, ◌∙◌, subst}
use Rattle.std.specs.Prelude.{if◌then◌else◌}
use Rattle.std.specs.Option.{option_map_or}
use mathlib.Core.Path.{fun_ext}
use Rattle.sq_types.specs.Text.Names.{Bytes, same_name, first_from}
use Rattle.sq_types.specs.Text.declared.word.Word.{Word}
use Rattle.sq_ast.specs.declared.expr.ArgUse.{ArgUse, out-ArgUse}
use Rattle.sq_ast.specs.declared.expr.Expr.{Expr}
use Rattle.sq_ast.specs.declared.leaf.LeafStmt.{LeafStmt, roll-LeafStmt}
use Rattle.sq_ast.specs.declared.leaf.LeafStmt.TheVariants as l
use Rattle.sq_ast.specs.declared.leaf.LeafStmt.TheOpen.{LeafStmt-F}
use Rattle.sq_ast.specs.declared.leaf.LeafStmt.TheFolds.{ind-LeafStmt, map-LeafStmt}
use Rattle.sq_ast.specs.declared.stmt.Call.{Call}
use Rattle.sq_ast.specs.declared.stmt.Range.{Range}
use Rattle.sq_ast.specs.declared.stmt.MapKind.{MapKind}
use Rattle.sq_ast.specs.declared.stmt.MapKind.TheVariants.{Par, Seq, Reduce}
use Rattle.sq_ast.specs.declared.stmt.Stmt.{Stmt, roll-Stmt}
use Rattle.sq_ast.specs.declared.stmt.Stmt.TheVariants as s
use Rattle.sq_ast.specs.declared.stmt.Stmt.TheOpen.{Stmt-F}
use Rattle.sq_ast.specs.declared.stmt.Stmt.TheFolds.{ind-Stmt, map-Stmt}
use Rattle.sq_ast.specs.declared.program.Param.{Param}
use Rattle.sq_ast.specs.declared.program.Body.{Body}
use Rattle.sq_ast.specs.declared.program.Body.TheVariants as body
use Rattle.sq_ast.specs.declared.program.Variant.{Variant}
use Rattle.sq_ast.specs.declared.program.Program.{Program}
use Rattle.sq_ast.specs.Unplaced.{nowhere, bare_word, bare_expr, bare_use, bare_leaf, bare_call, bare_range, bare_kind, bare_stmt, bare_param, bare_decl, bare_body, bare_variant, bare}
use Rattle.sq_ast.proofs.Bare.{bare_assign, bare_if, bare_for, bare_call_stmt, bare_map}
use Rattle.sq_types.specs.declared.kind.ArrayType.{ArrayType}
use Rattle.sq_types.specs.declared.kind.Kind.TheVariants as kind
use Rattle.sq_types.specs.Known.{Known, kind_of, with_name}
use Rattle.sq_ast.specs.Modes.{is_written}
use Rattle.sq_types.specs.Table.{same_elem, is_argument, array_of, indices_of, count_of, is_block_of, is_both, keeps_both, uses_of, has_whole}
use Rattle.sq_types.specs.Sites.{param_at, params_known, decls_known, params_at, params_of, ranges_known, with_variable, VariantKey, key_of, is_seen, with_seen}
use Rattle.sq_types.specs.Sound.{Test, StmtTest, all_hold, is_kind, has_dims, may_write, is_new, agrees, both_suit, fits_param, may_be_reduced, has_count, are_sound_exprs, are_sound_params, are_sound_decls, is_sound_arg, are_sound_args, is_sound_call, are_sound_bounds, are_new_variables, call_among, is_sound_reduction, is_sound_kind, tested, are_sound_stmts, is_sound_target, is_sound_head, is_sound_leaf, are_sound_leaves, is_sound_body, is_sound_variant, are_sound_variants, is_sound}
use Rattle.sq_types.proofs.Opened.{length_map}
use Rattle.sq_types.proofs.SoundStmts.{sound_assign, sound_if, sound_for, tested_call, tested_map}
use Rattle.sq_unplaced_laws.proofs.BareExprs.{both, length_same, within_same, same_expr, same_use, same_dims, same_params_known, get_map, same_param_at, same_params, same_decls_known, same_decls}

abbrev bare_params : Option (List Param) → Option (List Param)
bare_params = option_map (map bare_param)

-- ---- calls

same_suits : (param : Option Param) (array : Option ArrayType) → both_suit (option_map bare_param param) array ≡ both_suit param array
same_suits None array = refl
same_suits (Some p) None = refl
same_suits (Some p) (Some a) = ap (λ (n : ℕ). n == a.dims && (same_elem p.elem a.elem && (a.is_writable || not (is_written p.mode)))) (same_dims p)

same_fits : (n : ℕ) (param : Option Param) (name : Bytes) (known : Known) → fits_param n (option_map bare_param param) name known ≡ fits_param n param name known
same_fits n param name known =
    ap (λ b. is_kind (is_argument n) (kind_of known name) && (agrees (indices_of known (kind_of known name)) n && b)) (same_suits param (array_of known (kind_of known name)))

same_arg : (param : Option Param) (a : ArgUse) (known : Known) → is_sound_arg (option_map bare_param param) (bare_use a) known ≡ is_sound_arg param a known
same_arg param a known =
    let u = same_use a in
    ap₂ (λ (n : ℕ) (f : Test). fits_param n (option_map bare_param param) (out-ArgUse (bare_use a)).name known && f known) (length_same a u) (within_same a u)
    ∙ ap (λ (name : Bytes). fits_param (length (out-ArgUse a).index) (option_map bare_param param) name known && are_sound_exprs (out-ArgUse a).index known) u.name
    ∙ ap (λ b. b && are_sound_exprs (out-ArgUse a).index known) (same_fits (length (out-ArgUse a).index) param (out-ArgUse a).name known)

same_args : (params : Option (List Param)) (i : ℕ) (us : List ArgUse) (known : Known) → are_sound_args (bare_params params) i (map bare_use us) known ≡ are_sound_args params i us known
same_args params i [] known = refl
same_args params i (a ∷ us) known =
    ap₂ (λ (p q : Bool). p && q)
    (ap (λ (o : Option Param). is_sound_arg o (bare_use a) known) (same_param_at params i) ∙ same_arg (param_at params i) a known)
    (same_args params (i + 1) us known)

-- the parameters of a task's first variant, without their places
tasks_same : (tasks : List Variant) → map (λ (v : Variant). v.task) (map bare_variant tasks) ≡ map (λ (v : Variant). v.task) tasks
tasks_same [] = refl
tasks_same (v ∷ vs) = ap (λ ns. v.task ∷ ns) (tasks_same vs)

params_of_map : (tasks : List Variant) (i : Option ℕ) → params_at (map bare_variant tasks) i ≡ bare_params (params_at tasks i)
params_of_map tasks None = refl
params_of_map tasks (Some i) = ap (option_map (λ (v : Variant). v.params)) (get_map bare_variant tasks i) ∙ by (slice_get tasks i)
  where
    by : (o : Option Variant) → option_map (λ (v : Variant). v.params) (option_map bare_variant o) ≡ bare_params (option_map (λ (v : Variant). v.params) o)
    by None = refl
    by (Some v) = refl

params_same : (tasks : List Variant) (name : Bytes) → params_of (map bare_variant tasks) name ≡ bare_params (params_of tasks name)
params_same tasks name =
    ap (λ (ns : List Bytes). params_at (map bare_variant tasks) (first_from 0 ns name)) (tasks_same tasks)
    ∙ params_of_map tasks (first_from 0 (map (λ (v : Variant). v.task) tasks) name)

count_same : (n : ℕ) (params : Option (List Param)) → has_count n (bare_params params) ≡ has_count n params
count_same n None = refl
count_same n (Some ps) = ap (λ (k : ℕ). k == n) (length_map bare_param ps)

same_call : (tasks : List Variant) (c : Call) (known : Known) → is_sound_call (map bare_variant tasks) (bare_call c) known ≡ is_sound_call tasks c known
same_call tasks c known =
    let params = params_of tasks c.task in
    ap (λ (o : Option (List Param)). has_count (length (map bare_use c.args)) o && are_sound_args o 0 (map bare_use c.args) known) (params_same tasks c.task)
    ∙ ap₂ (λ (p q : Bool). p && q)
    (ap (λ (n : ℕ). has_count n (bare_params params)) (length_map bare_use c.args) ∙ count_same (length c.args) params)
    (same_args params 0 c.args known)

-- ---- maps

same_bounds : (rs : List Range) (known : Known) → are_sound_bounds (map bare_range rs) known ≡ are_sound_bounds rs known
same_bounds [] known = refl
same_bounds (r ∷ rs) known = ap₂ (λ (f : Test) (b : Bool). f known && b) (same_expr r.bound) (same_bounds rs known)

same_variables : (rs : List Range) (known : Known) → are_new_variables (map bare_range rs) known ≡ are_new_variables rs known
same_variables [] known = refl
same_variables (r ∷ rs) known = ap (λ b. is_new r.name known && b) (same_variables rs (with_variable known r))

same_ranges_known : (rs : List Range) (known : Known) → ranges_known (map bare_range rs) known ≡ ranges_known rs known
same_ranges_known [] known = refl
same_ranges_known (r ∷ rs) known = same_ranges_known rs (with_variable known r)

same_uses : (known : Known) (name : Bytes) (us : List ArgUse) → uses_of known name (map bare_use us) ≡ uses_of known name us
same_uses known name [] = refl
same_uses known name (a ∷ us) =
    ap₂ (λ (n : Bytes) (k : ℕ). (if same_name n name || is_block_of name (kind_of known n) then 1 else 0) + k) (same_use a).name (same_uses known name us)

same_keeps : (params : Option (List Param)) (i : ℕ) → keeps_both (bare_params params) i ≡ keeps_both params i
same_keeps None i = refl
same_keeps (Some ps) i = ap (λ (o : Option Param). option_map_or (λ (p : Param). is_both p.mode) o false) (get_map bare_param ps i) ∙ by (slice_get ps i)
  where
    by : (o : Option Param) → option_map_or (λ (p : Param). is_both p.mode) (option_map bare_param o) false ≡ option_map_or (λ (p : Param). is_both p.mode) o false
    by None = refl
    by (Some p) = refl

same_whole : (name : Bytes) (params : Option (List Param)) (i : ℕ) (us : List ArgUse) → has_whole name (bare_params params) i (map bare_use us) ≡ has_whole name params i us
same_whole name params i [] = refl
same_whole name params i (a ∷ us) =
    let u = same_use a in
    ap₂ (λ (p q : Bool). p || q)
    (ap₂ (λ (n : Bytes) (k : ℕ). same_name n name && k == 0 && keeps_both (bare_params params) i) u.name (length_same a u)
    ∙ ap (λ b. same_name (out-ArgUse a).name name && length (out-ArgUse a).index == 0 && b) (same_keeps params i))
    (same_whole name params (i + 1) us)

same_reduced : (params : Option (List Param)) (us : List ArgUse) (name : Bytes) (known : Known) → may_be_reduced (bare_params params) (map bare_use us) name known ≡ may_be_reduced params us name known
same_reduced params us name known =
    ap₂ (λ (k : ℕ) (b : Bool). may_write (kind_of known name) && (k == 1 && b)) (same_uses known name us) (same_whole name params 0 us)

same_reduction : (tasks : List Variant) (array : Word) (call : Option Call) (known : Known)
    → is_sound_reduction (map bare_variant tasks) (bare_word array) (option_map bare_call call) known ≡ is_sound_reduction tasks array call known
same_reduction tasks array None known = refl
same_reduction tasks array (Some c) known =
    ap (λ (o : Option (List Param)). may_be_reduced o (map bare_use c.args) array.name known) (params_same tasks c.task)
    ∙ same_reduced (params_of tasks c.task) c.args array.name known

same_kind : (tasks : List Variant) (k : MapKind) (call : Option Call) (known : Known)
    → is_sound_kind (map bare_variant tasks) (bare_kind k) (option_map bare_call call) known ≡ is_sound_kind tasks k call known
same_kind tasks Par call known = refl
same_kind tasks Seq call known = refl
same_kind tasks (Reduce op array) call known = same_reduction tasks array call known

-- ---- statements

module _ (tasks : List Variant) where
  abbrev bare_tasks : List Variant
  bare_tasks = map bare_variant tasks

  pub record SameStmt (x : Stmt) : Type 0 where
    pub call : (tested bare_tasks (bare_stmt x)).call ≡ option_map bare_call (tested tasks x).call
    pub test : (tested bare_tasks (bare_stmt x)).test ≡ (tested tasks x).test

  abbrev S : Type 0
  S = (x : Stmt) × SameStmt x

  abbrev stmts : List S → List Stmt
  stmts xs = map (λ m. m.0) xs

  calls_same : (xs : List S) → call_among (map (tested bare_tasks) (map bare_stmt (stmts xs))) ≡ option_map bare_call (call_among (map (tested tasks) (stmts xs)))
  calls_same [] = refl
  calls_same (x ∷ xs) = x.1.call

  parts_same : (xs : List S)
      → all_hold (map (λ (t : StmtTest). t.test) (map (tested bare_tasks) (map bare_stmt (stmts xs)))) ≡ all_hold (map (λ (t : StmtTest). t.test) (map (tested tasks) (stmts xs)))
  parts_same [] = refl
  parts_same (x ∷ xs) = ap₂ both x.1.test (parts_same xs)

  stmt_same : (y : Stmt-F S) → SameStmt (roll-Stmt (map-Stmt S Stmt (λ m. m.0) y))
  stmt_same (Stmt-F.Call c) =
      let was = ap (tested bare_tasks) (bare_call_stmt c) ∙ tested_call bare_tasks (bare_call c) in
      let now = tested_call tasks c in
      subst SameStmt (sym (s.rolls-Call c)) (record {
        call = ap (λ (t : StmtTest). t.call) was ∙ sym (ap (λ (t : StmtTest). option_map bare_call t.call) now);
        test = ap (λ (t : StmtTest). t.test) was ∙ fun_ext (same_call tasks c) ∙ sym (ap (λ (t : StmtTest). t.test) now);
      })
  stmt_same (Stmt-F.Map p k rs xs) =
      let ys = stmts xs in
      let was = ap (tested bare_tasks) (bare_map p k rs ys) ∙ tested_map bare_tasks nowhere (bare_kind k) (map bare_range rs) (map bare_stmt ys) in
      let now = tested_map tasks p k rs ys in
      subst SameStmt (sym (s.rolls-Map p k rs ys)) (record {
        call = ap (λ (t : StmtTest). t.call) was ∙ sym (ap (λ (t : StmtTest). option_map bare_call t.call) now);
        test = ap (λ (t : StmtTest). t.test) was ∙ fun_ext (map_same k rs xs) ∙ sym (ap (λ (t : StmtTest). t.test) now);
      })
    where
      map_same : (k : MapKind) (rs : List Range) (xs : List S) (known : Known)
          → (are_sound_bounds (map bare_range rs) known && (is_sound_kind bare_tasks (bare_kind k) (call_among (map (tested bare_tasks) (map bare_stmt (stmts xs)))) known
          && (are_new_variables (map bare_range rs) known && all_hold (map (λ (t : StmtTest). t.test) (map (tested bare_tasks) (map bare_stmt (stmts xs)))) (ranges_known (map bare_range rs) known))))
          ≡ (are_sound_bounds rs known && (is_sound_kind tasks k (call_among (map (tested tasks) (stmts xs))) known
          && (are_new_variables rs known && all_hold (map (λ (t : StmtTest). t.test) (map (tested tasks) (stmts xs))) (ranges_known rs known))))
      map_same k rs xs known =
          ap₂ (λ (p q : Bool). p && q) (same_bounds rs known) (ap₂ (λ (p q : Bool). p && q)
          (ap (λ (o : Option Call). is_sound_kind bare_tasks (bare_kind k) o known) (calls_same xs) ∙ same_kind tasks k (call_among (map (tested tasks) (stmts xs))) known)
          (ap₂ (λ (p q : Bool). p && q) (same_variables rs known)
          (ap (λ (f : Test). f (ranges_known (map bare_range rs) known)) (parts_same xs)
          ∙ ap (all_hold (map (λ (t : StmtTest). t.test) (map (tested tasks) (stmts xs)))) (same_ranges_known rs known))))

  same_stmt : (x : Stmt) → SameStmt x
  same_stmt = ind-Stmt SameStmt (λ x y is. subst (λ z. SameStmt (roll-Stmt z)) is (stmt_same y))

  same_stmts : (xs : List Stmt) → are_sound_stmts bare_tasks (map bare_stmt xs) ≡ are_sound_stmts tasks xs
  same_stmts [] = refl
  same_stmts (x ∷ xs) = ap₂ both (same_stmt x).test (same_stmts xs)

-- ---- leaf code

same_target : (a : ArgUse) (known : Known) → is_sound_target (bare_use a) known ≡ is_sound_target a known
same_target a known =
    let u = same_use a in
    let name = (out-ArgUse (bare_use a)).name in
    ap₂ (λ (n : ℕ) (f : Test). has_dims n (kind_of known name) && may_write (kind_of known name) && f known) (length_same a u) (within_same a u)
    ∙ ap (λ (m : Bytes). has_dims (length (out-ArgUse a).index) (kind_of known m) && may_write (kind_of known m) && are_sound_exprs (out-ArgUse a).index known) u.name

same_head : (c : Word) (x : Expr) (t : Word) (y : Expr) (u : Word)
    → is_sound_head (bare_word c) (bare_expr x) (bare_word t) (bare_expr y) (bare_word u) ≡ is_sound_head c x t y u
same_head c x t y u =
    ap₂ (λ (f g : Test). λ (known : Known). is_new c.name known && (f known && (same_name t.name c.name && (g known && same_name u.name c.name)))) (same_expr x) (same_expr y)

abbrev SameLeaf : LeafStmt → Type 0
SameLeaf x = is_sound_leaf (bare_leaf x) ≡ is_sound_leaf x

abbrev F : Type 0
F = (x : LeafStmt) × SameLeaf x

abbrev parts : List F → List LeafStmt
parts xs = map (λ m. m.0) xs

leaves_with : (xs : List F) → are_sound_leaves (map bare_leaf (parts xs)) ≡ are_sound_leaves (parts xs)
leaves_with [] = refl
leaves_with (x ∷ xs) = ap₂ both x.1 (leaves_with xs)

leaf_same : (y : LeafStmt-F F) → SameLeaf (roll-LeafStmt (map-LeafStmt F LeafStmt (λ m. m.0) y))
leaf_same (LeafStmt-F.Assign a op x) =
    subst SameLeaf (sym (l.rolls-Assign a op x))
    (ap is_sound_leaf (bare_assign a op x) ∙ sound_assign (bare_use a) op (bare_expr x) ∙ ap₂ both (fun_ext (same_target a)) (same_expr x) ∙ sym (sound_assign a op x))
leaf_same (LeafStmt-F.If p x ys zs) =
    subst SameLeaf (sym (l.rolls-If p x (parts ys) (parts zs)))
    (ap is_sound_leaf (bare_if p x (parts ys) (parts zs)) ∙ sound_if nowhere (bare_expr x) (map bare_leaf (parts ys)) (map bare_leaf (parts zs))
    ∙ ap₂ both (same_expr x) (ap₂ both (leaves_with ys) (leaves_with zs)) ∙ sym (sound_if p x (parts ys) (parts zs)))
leaf_same (LeafStmt-F.For c x t y u zs) =
    subst SameLeaf (sym (l.rolls-For c x t y u (parts zs)))
    (ap is_sound_leaf (bare_for c x t y u (parts zs)) ∙ sound_for (bare_word c) (bare_expr x) (bare_word t) (bare_expr y) (bare_word u) (map bare_leaf (parts zs))
    ∙ ap₂ (λ (f g : Test). λ (known : Known). f known && g (with_name known c.name kind.Variable)) (same_head c x t y u) (leaves_with zs)
    ∙ sym (sound_for c x t y u (parts zs)))

same_leaf : (x : LeafStmt) → SameLeaf x
same_leaf = ind-LeafStmt SameLeaf (λ x y is. subst (λ z. SameLeaf (roll-LeafStmt z)) is (leaf_same y))

same_leaves : (xs : List LeafStmt) → are_sound_leaves (map bare_leaf xs) ≡ are_sound_leaves xs
same_leaves [] = refl
same_leaves (x ∷ xs) = ap₂ both (same_leaf x) (same_leaves xs)

-- ---- variants

same_body : (tasks : List Variant) (b : Body) → is_sound_body (map bare_variant tasks) (bare_body b) ≡ is_sound_body tasks b
same_body tasks (body.Inner list) = same_stmts tasks list
same_body tasks (body.Leaf list) = same_leaves list

count_agrees : (params : Option (List Param)) (n : ℕ) → agrees (count_of (bare_params params)) n ≡ agrees (count_of params) n
count_agrees None n = refl
count_agrees (Some ps) n = ap (λ (k : ℕ). k == n) (length_map bare_param ps)

same_variant : (tasks : List Variant) (again : Bool) (v : Variant) → is_sound_variant (map bare_variant tasks) again (bare_variant v) ≡ is_sound_variant tasks again v
same_variant tasks again v =
    let params = params_of tasks v.task in
    let ps = map bare_param v.params in
    let ds = map bare_decl v.decls in
    ap₂ (λ (o : Option (List Param)) (n : ℕ). not again && agrees (count_of o) n && (are_sound_params o 0 ps []
    && (are_sound_decls n ds (params_known ps []) && is_sound_body (map bare_variant tasks) (bare_body v.body) (decls_known ds (params_known ps [])))))
    (params_same tasks v.task) (length_map bare_param v.params)
    ∙ ap₂ (λ (p q : Bool). not again && p && q) (count_agrees params (length v.params)) (ap₂ (λ (p q : Bool). p && q) (same_params params 0 v.params [])
    (ap₂ (λ (known : Known) (f : Test). are_sound_decls (length v.params) ds known && f (decls_known ds known)) (same_params_known v.params []) (same_body tasks v.body)
    ∙ ap₂ (λ (p : Bool) (known : Known). p && is_sound_body tasks v.body known) (same_decls (length v.params) v.decls (params_known v.params [])) (same_decls_known v.decls (params_known v.params []))))

same_variants : (tasks : List Variant) (seen : List VariantKey) (vs : List Variant) → are_sound_variants (map bare_variant tasks) seen (map bare_variant vs) ≡ are_sound_variants tasks seen vs
same_variants tasks seen [] = refl
same_variants tasks seen (v ∷ vs) =
    ap₂ (λ (p q : Bool). p && q) (same_variant tasks (is_seen seen (key_of v)) v) (same_variants tasks (with_seen seen (key_of v)) vs)

-- a program is sound just where it is without its places
pub same_sound : (p : Program) → is_sound (bare p) ≡ is_sound p
same_sound p = same_variants p.tasks [] p.tasks
