-- Whether the lines of a leaf are sound doesn't depend on their places.
use Rattle.std.proofs.Common.{◌≡◌, ℤ, true, List, [], ◌∷◌, ◌++◌, map, Result, Ok, Err, refl, sym, ap, ap₂, ◌∙◌, subst, true≢false}
use Rattle.std.specs.List.{All, flat_map}
use Rattle.sq_types.specs.Text.declared.fault.Fault.{Fault}
use Rattle.sq_types.specs.Text.Names.{Bytes}
use Rattle.sq_ast.specs.declared.expr.Expr.{Expr}
use Rattle.sq_ast.specs.declared.program.Extent.{Extent}
use Rattle.sq_ast.specs.declared.program.Extent.TheVariants as extent
use Rattle.sq_ast.specs.declared.program.Param.{Param}
use Rattle.sq_ast.specs.declared.program.Decl.{Decl}
use Rattle.sq_ast.specs.declared.program.Decl.TheVariants as decl
use Rattle.sq_ast.specs.declared.program.Variant.{Variant}
use Rattle.sq_ast.specs.declared.program.Program.{Program}
use Rattle.sq_ast.specs.Unplaced.{bare_expr, bare_extent, bare_param, bare_decl, bare_variant}
use Rattle.sq_types.specs.Sites.{TypeFault}
use Rattle.sq_types.specs.Sound.{is_sound}
use Rattle.sq_types.proofs.Soundness.{sound_without_fault, unsound_with_fault}
use Rattle.sq_ir.specs.Blocks.Names.{Numbers}
use Rattle.sq_ir.specs.Blocks.Constants.{Bad, worth}
use Rattle.sq_plantext.specs.declared.text.Binding.{Binding}
use Rattle.sq_plantext.specs.declared.text.LeafText.{LeafText}
use Rattle.sq_planfile.specs.Files.{numbers_of}
use Rattle.sq_planfile.specs.Written.{sizes_in, tunables_in, names_in}
use Rattle.sq_planfile.specs.Sound.{AreExtentsOf, AreBound, extent_value, IsLocal, IsLeafText}
use Rattle.sq_written_laws.proofs.Worths.{Alike, same_worth}
use Rattle.sq_unplaced_laws.specs.Unplaced.{unplaced_leaf}
use Rattle.sq_unplaced_laws.proofs.BareTasks.{same_sound}
use Rattle.sq_unplaced_laws.proofs.Lists.{heads, tails, all_across}

-- ---- the faults of a task

abbrev program : Variant → Program
program v = record { tasks = v ∷ [] }

checked_across : (v u : Variant) → bare_variant v ≡ bare_variant u → ((f : Fault) → TypeFault (program v) f → ⊥)
    → (f : Fault) → TypeFault (program u) f → ⊥
checked_across v u e none f fault =
    let is : is_sound (program u) ≡ true =
    sym (same_sound (program u)) ∙ ap (λ w. is_sound (program w)) (sym e) ∙ same_sound (program v)
    ∙ sound_without_fault (program v) none in
    true≢false (sym is ∙ unsound_with_fault (program u) f fault)

-- ---- its names

sizes_same : (es : List Extent) → flat_map sizes_in (map bare_extent es) ≡ flat_map sizes_in es
sizes_same [] = refl
sizes_same (extent.Size p n ∷ es) = ap (λ (ns : List Bytes). n ∷ ns) (sizes_same es)
sizes_same (extent.Fixed p n ∷ es) = sizes_same es

params_same : (ps : List Param)
    → flat_map (λ (p : Param). flat_map sizes_in p.extents) (map bare_param ps) ≡ flat_map (λ (p : Param). flat_map sizes_in p.extents) ps
params_same [] = refl
params_same (p ∷ ps) = ap₂ (λ (ns ms : List Bytes). ns ++ ms) (sizes_same p.extents) (params_same ps)

tunables_same : (ds : List Decl) → flat_map tunables_in (map bare_decl ds) ≡ flat_map tunables_in ds
tunables_same [] = refl
tunables_same (decl.Tunable p n ∷ ds) = ap (λ (ns : List Bytes). n ∷ ns) (tunables_same ds)
tunables_same (decl.List p n ∷ ds) = tunables_same ds
tunables_same (decl.Local p t n xs ∷ ds) = tunables_same ds
tunables_same (decl.Rchop p n a xs ∷ ds) = tunables_same ds
tunables_same (decl.Ichop p n a b c ∷ ds) = tunables_same ds

names_bare : (v : Variant) → names_in (bare_variant v) ≡ names_in v
names_bare v = ap₂ (λ (ns ms : List Bytes). ns ++ ms) (params_same v.params) (tunables_same v.decls)

names_same : (v u : Variant) → bare_variant v ≡ bare_variant u → names_in v ≡ names_in u
names_same v u e = sym (names_bare v) ∙ ap names_in e ∙ names_bare u

-- ---- the extents of its arrays

module _ (numbers : Numbers) where
  values_bare : (es : List Extent) → map (extent_value numbers) (map bare_extent es) ≡ map (extent_value numbers) es
  values_bare [] = refl
  values_bare (extent.Size p n ∷ es) = ap (λ (vs : List ℤ). extent_value numbers (extent.Size p n) ∷ vs) (values_bare es)
  values_bare (extent.Fixed p n ∷ es) = ap (λ (vs : List ℤ). n ∷ vs) (values_bare es)

  abbrev IsParam : Param → Type 0
  IsParam p = AreExtentsOf (map (extent_value numbers) p.extents)

  param_across : (p q : Param) → bare_param p ≡ bare_param q → IsParam p → IsParam q
  param_across p q e h =
      subst AreExtentsOf
      (sym (values_bare p.extents) ∙ ap (λ (r : Param). map (extent_value numbers) r.extents) e ∙ values_bare q.extents) h

  -- a constant has its value without its places too
  bare_value : (r q : Result ℤ Bad) (n : ℤ) → Alike r q → q ≡ Ok n → r ≡ Ok n
  bare_value (Ok x) (Ok y) n h e = ap Ok h ∙ e
  bare_value (Err b) (Ok y) n h e = absurd h
  bare_value (Ok x) (Err c) n h e = absurd h
  bare_value (Err b) (Err c) n h e = absurd (cc)

  value_bare : (r q : Result ℤ Bad) (n : ℤ) → Alike r q → r ≡ Ok n → q ≡ Ok n
  value_bare (Ok x) (Ok y) n h e = ap Ok (sym h) ∙ e
  value_bare (Err b) (Ok y) n h e = absurd h
  value_bare (Ok x) (Err c) n h e = absurd h
  value_bare (Err b) (Err c) n h e = absurd (cc)

  worth_across : (x y : Expr) → bare_expr x ≡ bare_expr y → (n : ℤ) → worth x numbers [] ≡ Ok n → worth y numbers [] ≡ Ok n
  worth_across x y e n h =
      value_bare (worth (bare_expr y) numbers []) (worth y numbers []) n (same_worth y numbers [])
      (ap (λ z. worth z numbers []) (sym e) ∙ bare_value (worth (bare_expr x) numbers []) (worth x numbers []) n (same_worth x numbers []) h)

  abbrev worths : List Expr → List (Result ℤ Bad)
  worths xs = map (λ x. worth x numbers []) xs

  abbrev values : List ℤ → List (Result ℤ Bad)
  values ns = map (λ n. Ok n) ns

  first_worth : (x : Expr) (xs : List Expr) (n : ℤ) (ns : List ℤ) → worths (x ∷ xs) ≡ values (n ∷ ns) → worth x numbers [] ≡ Ok n
  first_worth x xs n ns h = cc

  other_worths : (x : Expr) (xs : List Expr) (n : ℤ) (ns : List ℤ) → worths (x ∷ xs) ≡ values (n ∷ ns) → worths xs ≡ values ns
  other_worths x xs n ns h = cc

  worths_across : (xs ys : List Expr) → map bare_expr xs ≡ map bare_expr ys → (ns : List ℤ) → worths xs ≡ values ns → worths ys ≡ values ns
  worths_across [] [] e ns h = h
  worths_across [] (y ∷ ys) e ns h = absurd (cc)
  worths_across (x ∷ xs) [] e ns h = absurd (cc)
  worths_across (x ∷ xs) (y ∷ ys) e [] h = absurd (cc)
  worths_across (x ∷ xs) (y ∷ ys) e (n ∷ ns) h =
      ap₂ (λ (r : Result ℤ Bad) (rs : List (Result ℤ Bad)). r ∷ rs)
      (worth_across x y (heads bare_expr x y xs ys e) n (first_worth x xs n ns h))
      (worths_across xs ys (tails bare_expr x y xs ys e) ns (other_worths x xs n ns h))

  local_across : (d e : Decl) → bare_decl d ≡ bare_decl e → IsLocal numbers d → IsLocal numbers e
  local_across d (decl.Tunable q m) e h = record { of_local = λ p t n xs is. absurd (cc) }
  local_across d (decl.List q m) e h = record { of_local = λ p t n xs is. absurd (cc) }
  local_across d (decl.Rchop q m a ys) e h = record { of_local = λ p t n xs is. absurd (cc) }
  local_across d (decl.Ichop q m a b c) e h = record { of_local = λ p t n xs is. absurd (cc) }
  local_across (decl.Tunable p n) (decl.Local q u m ys) e h = absurd (cc)
  local_across (decl.List p n) (decl.Local q u m ys) e h = absurd (cc)
  local_across (decl.Rchop p n a xs) (decl.Local q u m ys) e h = absurd (cc)
  local_across (decl.Ichop p n a b c) (decl.Local q u m ys) e h = absurd (cc)
  local_across (decl.Local p t n xs) (decl.Local q u m ys) e h = record {
    of_local = λ place elem name extents is.
        let same : map bare_expr xs ≡ map bare_expr ys = cc in
        let these : ys ≡ extents = cc in
        let known = h.of_local p t n xs refl in
        (known.0, subst (λ zs. worths zs ≡ values known.0) these (worths_across xs ys same known.0 known.1), known.2);
  }

-- ---- its lines

pub leaf_across : (l k : LeafText) → unplaced_leaf l ≡ unplaced_leaf k → IsLeafText l → IsLeafText k
leaf_across l k e h =
    let task : bare_variant l.task ≡ bare_variant k.task = ap (λ (x : LeafText). x.task) e in
    let given : l.numbers ≡ k.numbers = ap (λ (x : LeafText). x.numbers) e in
    let numbers : numbers_of l ≡ numbers_of k = ap (λ (x : LeafText). numbers_of x) e in
    record {
      checked = checked_across l.task k.task task h.checked;
      bound =
          subst (λ (bs : List Binding). AreBound (names_in k.task) (map (λ b. b.name) bs)) given
          (subst (λ (ns : List Bytes). AreBound ns (map (λ b. b.name) l.numbers)) (names_same l.task k.task task) h.bound);
      params =
          subst (λ ns. All (IsParam ns) k.task.params) numbers
          (all_across bare_param (IsParam (numbers_of l)) (param_across (numbers_of l)) l.task.params k.task.params
          (ap (λ (v : Variant). v.params) task) h.params);
      locals =
          subst (λ ns. All (IsLocal ns) k.task.decls) numbers
          (all_across bare_decl (IsLocal (numbers_of l)) (local_across (numbers_of l)) l.task.decls k.task.decls
          (ap (λ (v : Variant). v.decls) task) h.locals);
    }
