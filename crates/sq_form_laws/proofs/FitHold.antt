-- Each form of the answer has an instance, a variant and extents that fit its parameters.
use Rattle.std.proofs.Common.{◌≡◌, ℕ, zero, suc, ◌+◌, ◌*◌, ◌<◌, ◌≤◌, ◌⊎◌, inl, inr, Bool, true, false, ℤ, pos, negsuc, List, [], ◌∷◌, ◌++◌, map, length, Option, Some, None, option_map, Ok, Err, refl, sym, ◌∙◌, ap, subst, arith}
use Rattle.std.specs.Prelude.{slice_get, nat_abs, nat_lt, nat_le, not, ◌==◌, ◌&&◌, if◌then◌else◌}
use Rattle.std.specs.Option.{option_and_then}
use Rattle.std.proofs.lemmas.Bool.Decides.{nat_tests}
use Rattle.sq_text.specs.declared.place.Place.{Place}
use Rattle.sq_text.specs.Names.{Bytes, same_name}
use Rattle.sq_ast.specs.declared.stmt.Call.{Call}
use Rattle.sq_ast.specs.declared.stmt.Range.{Range}
use Rattle.sq_ast.specs.declared.stmt.MapKind.{MapKind}
use Rattle.sq_ast.specs.declared.stmt.Stmt.{Stmt, roll-Stmt}
use Rattle.sq_ast.specs.declared.stmt.Stmt.TheVariants as s
use Rattle.sq_ast.specs.declared.stmt.Stmt.TheOpen.{Stmt-F}
use Rattle.sq_ast.specs.declared.stmt.Stmt.TheFolds.{ind-Stmt, map-Stmt}
use Rattle.sq_ast.specs.declared.program.Body.{Body}
use Rattle.sq_ast.specs.declared.program.Body.TheVariants as body
use Rattle.sq_ast.specs.declared.program.Extent.{Extent}
use Rattle.sq_ast.specs.declared.program.Extent.TheVariants as extent
use Rattle.sq_ast.specs.declared.program.Param.{Param}
use Rattle.sq_ast.specs.declared.program.VariantKind.{VariantKind}
use Rattle.sq_ast.specs.declared.program.Variant.{Variant}
use Rattle.sq_ast.specs.declared.program.Program.{Program}
use Rattle.sq_forms.specs.Machfile.declared.level.Level.{Level}
use Rattle.sq_forms.specs.Mappings.declared.mapping.Instance.{Instance}
use Rattle.sq_forms.specs.Mappings.declared.mapping.SizeSet.{SizeSet}
use Rattle.sq_forms.specs.Mappings.declared.mapping.Mapping.{Mapping}
use Rattle.sq_forms.specs.Mappings.Sound.{Sound}
use Rattle.sq_forms.proofs.Mappings.Same.{same}
use Rattle.sq_forms.specs.Types.Known.{Known}
use Rattle.sq_forms.specs.Types.Sites.{params_of as params_of_task, params_known, decls_known, ranges_known, is_seen, key_of, with_seen, VariantKey}
use Rattle.sq_forms.specs.Types.Table.{count_of}
use Rattle.sq_forms.specs.Types.Sound as typed
use Rattle.sq_forms.proofs.Types.SoundStmts.{tested_call, tested_map}
use Rattle.sq_forms.proofs.Types.OpenedStmt.{map_map}
use Rattle.sq_blocks.specs.declared.argument.Argument.{Argument}
use Rattle.sq_forms.specs.declared.form.Found.{Found}
use Rattle.sq_forms.specs.Faults.{Value, and_then}
use Rattle.sq_forms.specs.Steps.{Called, Forms, Key}
use Rattle.sq_forms.specs.Args.{Names}
use Rattle.sq_forms.specs.Tables.{first_of_kind, same_kind, variant_of, at_index}
use Rattle.sq_forms.specs.Worlds.{Callee}
use Rattle.sq_forms.specs.Calls.{extents_of}
use Rattle.sq_blocks.specs.Arguments.{lengths}
use Rattle.sq_forms.specs.Decls.{Scope, most_extent, most_elements, dims_from, dims_of, param_at, params_from, empty_scope}
use Rattle.sq_forms.specs.Resolving.{Resolving, resolution, frame_in, extent_of, size_of, dims_or_fault, param_dims, before, entry_extents, entry_params, entry_form, with_entry, params_of}
use Rattle.sq_form_laws.specs.Laws.{IsExtent, Suits}
use Rattle.sq_form_laws.specs.Reached.{IsReached, concat, text_calls, body_calls, steps_of}
use Rattle.sq_form_laws.specs.Served.{FormFits, FormsFit, FormsRun}
use Rattle.sq_form_laws.proofs.AllHold.{Adding, InEachForm, all_hold}
use Rattle.sq_form_laws.proofs.EachCall.{AllIn, all_joined, text_call, text_map}
use Rattle.sq_form_laws.proofs.Passing.{of_each, calls_are_reached, as_many}
use Rattle.sq_form_laws.proofs.RanHold.{forms_ran}
use Rattle.sq_form_laws.proofs.ServedHold.{all_at, variant_same, calls_are_served}
use Rattle.sq_form_laws.proofs.Shapes.{Agrees, none_agrees, suits_fit, have_shape}

pub some_same : {A : Type 0} (x y : A) → Some x ≡ Some y → x ≡ y
some_same x y h = cc h

pub is_equal : (m n : ℕ) → (m == n) ≡ true → m ≡ n
is_equal m n h = grind (arith, nat_tests)

pub both : (a b : Bool) → (a && b) ≡ true → (a ≡ true) × (b ≡ true)
both true b h = (refl, h)
both false b h = absurd (cc h)

-- ---- parameters whose extents suit

-- the scope behind parameters
record Bound (value : Bytes → ℕ) (o : Option Scope) : Type 0 where
  scope : Scope
  is : o ≡ Some scope
  agrees : Agrees value scope.numbers

module _ (value : Bytes → ℕ) (all : List (List ℕ)) where
  one_bound : (s : Scope) (p : Param) (dims : List ℕ) → Agrees value s.numbers → Suits value p.extents dims → Bound value (param_at s p (Some dims))
  one_bound s p dims a f =
      let fits = suits_fit value dims p.extents s.numbers a f in record {
        scope = _;
        is = ap (option_map _) fits.is;
        agrees = fits.agrees;
      }

  get_there : {A : Type 0} (xs : List A) (i : ℕ) → i < length xs → (x : A) × (slice_get xs i ≡ Some x)
  get_there [] i h = absurd (omega (arith, h))
  get_there (x ∷ xs) zero h = (x, refl)
  get_there (x ∷ xs) (suc i) h = get_there xs i (omega (arith, h))

  all_bound : (ps : List Param) (i : ℕ) (s : Scope) → Agrees value s.numbers → i + length ps ≤ length all
      → ((j : ℕ) (p : Param) (dims : List ℕ) → slice_get ps j ≡ Some p → slice_get all (i + j) ≡ Some dims → Suits value p.extents dims)
      → Bound value (params_from s ps i all)
  all_bound [] i s a many f = record { scope = s; is = refl; agrees = a }
  all_bound (p ∷ ps) i s a many f =
      let here = get_there all i (omega (arith, many)) in
      let z : i ≡ i + 0 = omega arith in
      let one = one_bound s p here.0 a (f 0 p here.0 refl (sym (ap (slice_get all) z) ∙ here.1)) in
      let rest = all_bound ps (i + 1) one.scope one.agrees (omega (arith, many))
      (λ j q dims g e. let l : i + 1 + j ≡ i + suc j = omega arith in f (suc j) q dims g (sym (ap (slice_get all) l) ∙ e)) in
      let next : Scope → Option Scope = λ t. params_from t ps (i + 1) all in record {
        scope = rest.scope;
        is = ap (λ o. option_and_then next (param_at s p o)) here.1 ∙ (ap (option_and_then next) one.is ∙ rest.is);
        agrees = rest.agrees;
      }

bound_all : (value : Bytes → ℕ) (all : List (List ℕ)) (ps : List Param) → length all ≡ length ps
    → ((j : ℕ) (p : Param) (dims : List ℕ) → slice_get ps j ≡ Some p → slice_get all j ≡ Some dims → Suits value p.extents dims)
    → Bound value (params_from empty_scope ps 0 all)
bound_all value all ps many f =
    all_bound value all ps 0 empty_scope (none_agrees value) (omega (arith, many)) (λ j p dims g e. let z : j ≡ 0 + j = omega arith in f j p dims g (ap (slice_get all) z ∙ e))

-- ---- the entry

-- these numbers, as whole numbers
dims_rest : (e : ℕ) (zs : List ℤ) (ds : List ℕ) (o : Option (List ℕ)) → ((es : List ℕ) → o ≡ Some es → map pos es ≡ zs)
    → option_map (λ es. e ∷ es) o ≡ Some ds → map pos ds ≡ pos e ∷ zs
dims_rest e zs ds None f g = absurd (cc g)
dims_rest e zs ds (Some es) f g = let is : e ∷ es ≡ ds = cc g in ap (map pos) (sym is) ∙ ap (λ l. pos e ∷ l) (f es refl)

dims_chosen : (e : ℕ) (zs : List ℤ) (ds : List ℕ) (b : Bool) (o : Option (List ℕ)) → ((es : List ℕ) → o ≡ Some es → map pos es ≡ zs)
    → (if b then option_map (λ es. e ∷ es) o else None) ≡ Some ds
    → map pos ds ≡ pos e ∷ zs
dims_chosen e zs ds true o f g = dims_rest e zs ds o f g
dims_chosen e zs ds false o f g = absurd (cc g)

dims_are_from : (n : ℕ) (zs : List ℤ) (ds : List ℕ) → dims_from n zs ≡ Some ds → map pos ds ≡ zs
dims_are_from n [] ds h = let e : [] ≡ ds = cc h in ap (map pos) (sym e)
dims_are_from n (pos e ∷ zs) ds h =
    dims_chosen e zs ds ((nat_lt 0 e && nat_le e most_extent) && nat_le (n * e) most_elements) (dims_from (n * e) zs) (λ es k. dims_are_from (n * e) zs es k) h
dims_are_from n (negsuc e ∷ zs) ds h = absurd (cc h)

dims_are : (zs : List ℤ) (ds : List ℕ) → dims_of zs ≡ Some ds → map pos ds ≡ zs
dims_are [] ds h = absurd (cc h)
dims_are (z ∷ zs) ds h = by (nat_le (length zs) 2) h
  where
    by : (b : Bool) → (if b then dims_from 1 (z ∷ zs) else None) ≡ Some ds → map pos ds ≡ z ∷ zs
    by true g = dims_are_from 1 (z ∷ zs) ds g
    by false g = absurd (cc g)

abbrev value_of : List SizeSet → Bytes → ℕ
value_of sizes name = nat_abs (size_of sizes name)

entry_extent : (sizes : List SizeSet) (e : Extent) (n : ℕ) → pos n ≡ extent_of sizes e → IsExtent (value_of sizes) e n
entry_extent sizes (extent.Size place name) n h = ap nat_abs (sym h)
entry_extent sizes (extent.Fixed place m) n h = sym h

entry_suits : (sizes : List SizeSet) (es : List Extent) (ds : List ℕ) → map pos ds ≡ map (extent_of sizes) es → Suits (value_of sizes) es ds
entry_suits sizes [] ds h j e g = absurd (cc g)
entry_suits sizes (d ∷ es) [] h j e g = absurd (cc h)
entry_suits sizes (d ∷ es) (n ∷ ds) h zero e g =
    let same_extent : d ≡ e = cc g in
    let first : pos n ≡ extent_of sizes d = cc h in
    (n, refl, entry_extent sizes e n (first ∙ ap (extent_of sizes) same_extent))
entry_suits sizes (d ∷ es) (n ∷ ds) h (suc j) e g = let rest : map pos ds ≡ map (extent_of sizes) es = cc h in entry_suits sizes es ds rest j e g

dims_found : (p : Param) (o : Option (List ℕ)) (dims : List ℕ) → dims_or_fault p o ≡ Ok dims → o ≡ Some dims
dims_found p None dims h = absurd (cc h)
dims_found p (Some ds) dims h = let e : ds ≡ dims = cc h in ap Some e

-- the entry's extents, parameter by parameter
record Entries (sizes : List SizeSet) (ps : List Param) (extents : List (List ℕ)) : Type 0 where
  many : length extents ≡ length ps
  each : (j : ℕ) (p : Param) (dims : List ℕ) → slice_get ps j ≡ Some p → slice_get extents j ≡ Some dims → Suits (value_of sizes) p.extents dims

module _ (sizes : List SizeSet) where
  entry_more : (p : Param) (ps : List Param) (dims : List ℕ) (rest : List (List ℕ)) → param_dims sizes p ≡ Ok dims → Entries sizes ps rest
      → Entries sizes (p ∷ ps) (dims ∷ rest)
  entry_more p ps dims rest here more = record { many = ap suc more.many; each = at }
    where
      at : (j : ℕ) (q : Param) (ds : List ℕ) → slice_get (p ∷ ps) j ≡ Some q → slice_get (dims ∷ rest) j ≡ Some ds → Suits (value_of sizes) q.extents ds
      at zero q ds g e =
          let same_param : p ≡ q = cc g in
          let same_dims : dims ≡ ds = cc e in
          let found = dims_are (map (extent_of sizes) p.extents) dims (dims_found p (dims_of (map (extent_of sizes) p.extents)) dims here) in
          subst (λ (r : Param). Suits (value_of sizes) r.extents ds) same_param (subst (λ l. Suits (value_of sizes) p.extents l) same_dims (entry_suits sizes p.extents dims found))
      at (suc j) q ds g e = more.each j q ds g e

  entry_rest : (p : Param) (ps : List Param) (dims : List ℕ) (extents : List (List ℕ)) → param_dims sizes p ≡ Ok dims → (v : Value (List (List ℕ)))
      → ((es : List (List ℕ)) → v ≡ Ok es → Entries sizes ps es) → before dims v ≡ Ok extents → Entries sizes (p ∷ ps) extents
  entry_rest p ps dims extents here (Ok es) f h = let is : dims ∷ es ≡ extents = cc h in subst (Entries sizes (p ∷ ps)) is (entry_more p ps dims es here (f es refl))
  entry_rest p ps dims extents here (Err x) f h = absurd (cc h)

  entry_first : (p : Param) (ps : List Param) (extents : List (List ℕ)) → ((es : List (List ℕ)) → entry_extents sizes ps ≡ Ok es → Entries sizes ps es)
      → (v : Value (List ℕ)) → param_dims sizes p ≡ v → and_then v (λ dims. before dims (entry_extents sizes ps)) ≡ Ok extents → Entries sizes (p ∷ ps) extents
  entry_first p ps extents f (Ok dims) e h = entry_rest p ps dims extents e (entry_extents sizes ps) f h
  entry_first p ps extents f (Err x) e h = absurd (cc h)

  entries : (ps : List Param) (extents : List (List ℕ)) → entry_extents sizes ps ≡ Ok extents → Entries sizes ps extents
  entries [] extents h = let is : [] ≡ extents = cc h in subst (Entries sizes []) is (record { many = refl; each = λ j p dims g e. absurd (cc g) })
  entries (p ∷ ps) extents h = entry_first p ps extents (λ es g. entries ps es g) (param_dims sizes p) refl h

entry_fits : (program : Program) (levels : List Level) (mapping : Mapping) → Sound program levels mapping → (extents : List (List ℕ))
    → entry_extents mapping.sizes (entry_params program.tasks (slice_get mapping.instances mapping.entry)) ≡ Ok extents
    → FormFits program mapping (entry_form mapping.entry extents)
entry_fits program levels mapping sound extents h =
    let x = sound.entry.entry in
    let v = sound.entry.variant in
    let runs : variant_of program.tasks x.task x.kind ≡ Some v = variant_same program.tasks x.task x.kind ∙ sound.entry.runs in
    let params : entry_params program.tasks (slice_get mapping.instances mapping.entry) ≡ v.params = ap (entry_params program.tasks) sound.entry.there ∙ ap params_of runs in
    let own = entries mapping.sizes v.params extents (sym (ap (entry_extents mapping.sizes) params) ∙ h) in
    let b = bound_all (value_of mapping.sizes) extents v.params own.many own.each in
    record { instance = x; there = sound.entry.there; variant = v; runs = runs; many = own.many; begun = b.scope; binds = b.is }

-- ---- variants of a program without a fault

-- where a variant is found it stands among the others, and has the task
record Found_ (vs : List Variant) (task : Bytes) (i k : ℕ) : Type 0 where
  index : ℕ
  is : k ≡ i + index
  variant : Variant
  there : slice_get vs index ≡ Some variant
  task_ : task ≡ variant.task

module _ (kind : VariantKind) (task : Bytes) where
  found_later : (v : Variant) (rest : List Variant) (i k : ℕ) → Found_ rest task (suc i) k → Found_ (v ∷ rest) task i k
  found_later v rest i k f = record { index = suc f.index; is = f.is ∙ (let z : suc i + f.index ≡ i + suc f.index = omega arith in z); variant = f.variant; there = f.there; task_ = f.task_ }

  found_by : (v : Variant) (rest : List Variant) (i k : ℕ) (a b : Bool) → same_name task v.task ≡ b → (first_of_kind kind (suc i) rest task ≡ Some k
      → Found_ rest task (suc i) k)
      → (if a then (if b then Some i else first_of_kind kind (suc i) rest task) else first_of_kind kind (suc i) rest task) ≡ Some k → Found_ (v ∷ rest) task i k
  found_by v rest i k true true e f h =
      let is : i ≡ k = cc h in record { index = 0; is = sym is ∙ (let z : i ≡ i + 0 = omega arith in z); variant = v; there = refl; task_ = same task v.task e }
  found_by v rest i k true false e f h = found_later v rest i k (f h)
  found_by v rest i k false b e f h = found_later v rest i k (f h)

  found_at : (vs : List Variant) (i k : ℕ) → first_of_kind kind i vs task ≡ Some k → Found_ vs task i k
  found_at [] i k h = absurd (cc h)
  found_at (v ∷ rest) i k h = found_by v rest i k (same_kind v.kind kind) (same_name task v.task) refl (found_at rest (suc i) k) h

-- a variant that runs is one of the program's, of this task
pub record OfProgram (vs : List Variant) (task : Bytes) (v : Variant) : Type 0 where
  pub index : ℕ
  pub there : slice_get vs index ≡ Some v
  pub task_ : task ≡ v.task

pub of_program : (vs : List Variant) (task : Bytes) (kind : VariantKind) (v : Variant) → variant_of vs task kind ≡ Some v → OfProgram vs task v
of_program vs task kind v h = by (first_of_kind kind 0 vs task) refl h
  where
    by : (o : Option ℕ) → first_of_kind kind 0 vs task ≡ o → at_index vs o ≡ Some v → OfProgram vs task v
    by None e g = absurd (cc g)
    by (Some k) e g =
        let f = found_at kind task vs 0 k e in
        let at : k ≡ f.index = f.is ∙ (let z : 0 + f.index ≡ f.index = omega arith in z) in
        let own : f.variant ≡ v = some_same f.variant v (sym f.there ∙ (sym (ap (slice_get vs) at) ∙ g)) in
        record { index = f.index; there = f.there ∙ ap Some own; task_ = f.task_ ∙ ap (λ (w : Variant). w.task) own }

-- what is known of a variant of a program without a fault
record VariantSound (tasks : List Variant) (v : Variant) : Type 0 where
  again : Bool
  is : typed.is_sound_variant tasks again v ≡ true

sound_at : (tasks : List Variant) (vs : List Variant) (seen : List VariantKey) → typed.are_sound_variants tasks seen vs ≡ true → (i : ℕ) (v : Variant)
    → slice_get vs i ≡ Some v → VariantSound tasks v
sound_at tasks [] seen h i v g = absurd (cc g)
sound_at tasks (w ∷ vs) seen h zero v g =
    let same_variant : w ≡ v = cc g in
    subst (VariantSound tasks) same_variant
    (record { again = is_seen seen (key_of w); is = (both (typed.is_sound_variant tasks (is_seen seen (key_of w)) w) (typed.are_sound_variants tasks (with_seen seen (key_of w)) vs) h).0 })
sound_at tasks (w ∷ vs) seen h (suc i) v g =
    sound_at tasks vs (with_seen seen (key_of w)) (both (typed.is_sound_variant tasks (is_seen seen (key_of w)) w) (typed.are_sound_variants tasks (with_seen seen (key_of w)) vs) h).1 i v g

three : (a b c : Bool) → (a && b && c) ≡ true → (a ≡ true) × (b ≡ true) × (c ≡ true)
three true true true h = (refl, refl, refl)
three true true false h = absurd (cc h)
three true false c h = absurd (cc h)
three false b c h = absurd (cc h)

-- as many parameters as the task's first variant, of its types, and sound declarations and a sound body
pub record Parts (tasks : List Variant) (v : Variant) : Type 0 where
  pub counts : typed.agrees (count_of (params_of_task tasks v.task)) (length v.params) ≡ true
  pub params_ : typed.are_sound_params (params_of_task tasks v.task) 0 v.params [] ≡ true
  pub decls_ : typed.are_sound_decls (length v.params) v.decls (params_known v.params []) ≡ true
  pub body_ : typed.is_sound_body tasks v.body (decls_known v.decls (params_known v.params [])) ≡ true

parts_of : (tasks : List Variant) (v : Variant) (again : Bool) → typed.is_sound_variant tasks again v ≡ true → Parts tasks v
parts_of tasks v again h =
    let known = params_known v.params [] in
    let ps = typed.are_sound_params (params_of_task tasks v.task) 0 v.params [] in
    let ds = typed.are_sound_decls (length v.params) v.decls known in
    let bs = typed.is_sound_body tasks v.body (decls_known v.decls known) in
    let t = three (not again) (typed.agrees (count_of (params_of_task tasks v.task)) (length v.params)) (ps && (ds && bs)) h in
    let q = both ps (ds && bs) t.2 in
    let u = both ds bs q.1 in
    record { counts = t.1; params_ = q.0; decls_ = u.0; body_ = u.1 }

-- ---- calls with as many arguments as there are parameters

abbrev Counted : List Variant → Call → Type 0
Counted tasks c = typed.has_count (length c.args) (params_of_task tasks c.task) ≡ true

module _ (tasks : List Variant) where
  abbrev OfStmt : Stmt → Type 0
  OfStmt x = (known : Known) → typed.is_sound_stmt tasks x known ≡ true → AllIn (Counted tasks) (text_calls x)

  abbrev S : Type 0
  S = (x : Stmt) × OfStmt x

  counted_parts : (xs : List S) (known : Known) → typed.are_sound_stmts tasks (map (λ (q : S). q.0) xs) known ≡ true
      → AllIn (Counted tasks) (concat (map text_calls (map (λ (q : S). q.0) xs)))
  counted_parts [] known h = tt
  counted_parts (x ∷ xs) known h =
      let p = both (typed.is_sound_stmt tasks x.0 known) (typed.are_sound_stmts tasks (map (λ (q : S). q.0) xs) known) h in
      all_joined (Counted tasks) (text_calls x.0) (concat (map text_calls (map (λ (q : S). q.0) xs))) (x.1 known p.0) (counted_parts xs known p.1)

  counted_call : (c : Call) → OfStmt (s.Call c)
  counted_call c known h =
      let g : typed.is_sound_call tasks c known ≡ true = sym (ap (λ (t : typed.StmtTest). t.test known) (tested_call tasks c)) ∙ h in
      let p = both (typed.has_count (length c.args) (params_of_task tasks c.task)) (typed.are_sound_args (params_of_task tasks c.task) 0 c.args known) g in
      subst (AllIn (Counted tasks)) (sym (text_call c)) (p.0, tt)

  counted_map : (p : Place) (k : MapKind) (rs : List Range) (xs : List S) → OfStmt (s.Map p k rs (map (λ (q : S). q.0) xs))
  counted_map p k rs xs known h =
      let ys = map (λ (q : S). q.0) xs in
      let bounds_ = typed.are_sound_bounds rs known in
      let kind_ = typed.is_sound_kind tasks k (typed.call_among (map (typed.tested tasks) ys)) known in
      let new_ = typed.are_new_variables rs known in
      let stmts_ = typed.are_sound_stmts tasks ys (ranges_known rs known) in
      let g : (bounds_ && (kind_ && (new_ && typed.all_hold (map (λ (t : typed.StmtTest). t.test) (map (typed.tested tasks) ys)) (ranges_known rs known)))) ≡ true =
      sym (ap (λ (t : typed.StmtTest). t.test known) (tested_map tasks p k rs ys)) ∙ h in
      let e : typed.all_hold (map (λ (t : typed.StmtTest). t.test) (map (typed.tested tasks) ys)) (ranges_known rs known) ≡ stmts_ =
      ap (λ (tests : List typed.Test). typed.all_hold tests (ranges_known rs known)) (map_map (λ (t : typed.StmtTest). t.test) (typed.tested tasks) ys) in
      let a = both bounds_ (kind_ && (new_ && typed.all_hold (map (λ (t : typed.StmtTest). t.test) (map (typed.tested tasks) ys)) (ranges_known rs known))) g in
      let b = both kind_ (new_ && typed.all_hold (map (λ (t : typed.StmtTest). t.test) (map (typed.tested tasks) ys)) (ranges_known rs known)) a.1 in
      let c = both new_ (typed.all_hold (map (λ (t : typed.StmtTest). t.test) (map (typed.tested tasks) ys)) (ranges_known rs known)) b.1 in
      subst (AllIn (Counted tasks)) (sym (text_map p k rs ys)) (counted_parts xs (ranges_known rs known) (sym e ∙ c.1))

  counted_step : (y : Stmt-F S) → OfStmt (roll-Stmt (map-Stmt S Stmt (λ p. p.0) y))
  counted_step (Stmt-F.Call c) = subst OfStmt (sym (s.rolls-Call c)) (counted_call c)
  counted_step (Stmt-F.Map p k rs xs) = subst OfStmt (sym (s.rolls-Map p k rs (map (λ (q : S). q.0) xs))) (counted_map p k rs xs)

  counted_stmt : (x : Stmt) → OfStmt x
  counted_stmt = ind-Stmt OfStmt (λ x y is. subst (λ z. OfStmt (roll-Stmt z)) is (counted_step y))

  counted_stmts : (list : List Stmt) (known : Known) → typed.are_sound_stmts tasks list known ≡ true → AllIn (Counted tasks) (concat (map text_calls list))
  counted_stmts [] known h = tt
  counted_stmts (x ∷ list) known h =
      let p = both (typed.is_sound_stmt tasks x known) (typed.are_sound_stmts tasks list known) h in
      all_joined (Counted tasks) (text_calls x) (concat (map text_calls list)) (counted_stmt x known p.0) (counted_stmts list known p.1)

  counted_body : (b : Body) (known : Known) → typed.is_sound_body tasks b known ≡ true → AllIn (Counted tasks) (body_calls b)
  counted_body (body.Inner list) known h = counted_stmts list known h
  counted_body (body.Leaf list) known h = tt

-- the first variant's parameters are as many as a call's arguments, and as any other variant's parameters
pub same_count : (args params : ℕ) (o : Option (List Param)) → typed.has_count args o ≡ true → typed.agrees (count_of o) params ≡ true → args ≡ params
same_count args params None h g = absurd (cc h)
same_count args params (Some ps) h g = let a : length ps ≡ args = is_equal (length ps) args h in let b : length ps ≡ params = is_equal (length ps) params g in sym a ∙ b

-- ---- the callee of a call

extents_at : (xs : List Argument) (j : ℕ) (dims : List ℕ) → slice_get (extents_of xs) j ≡ Some dims
    → (x : Argument) × (slice_get xs j ≡ Some x) × (lengths x.rect ≡ dims)
extents_at [] j dims h = absurd (cc h)
extents_at (x ∷ xs) zero dims h = (x, refl, cc h)
extents_at (x ∷ xs) (suc j) dims h = extents_at xs j dims h

many_extents : (xs : List Argument) → length (extents_of xs) ≡ length xs
many_extents [] = refl
many_extents (x ∷ xs) = ap suc (many_extents xs)

module _ (program : Program) (levels : List Level) (mapping : Mapping) (faultless : typed.is_sound program ≡ true) (sound : Sound program levels mapping) where
  -- a variant of the program is sound
  pub variant_parts : (task : Bytes) (kind : VariantKind) (v : Variant) → variant_of program.tasks task kind ≡ Some v → Parts program.tasks v
  variant_parts task kind v h =
      let o = of_program program.tasks task kind v h in
      let q = sound_at program.tasks program.tasks [] faultless o.index v o.there in
      parts_of program.tasks v q.again q.is

  callee_fits : (x : Instance) (v : Variant) (number : ℕ) (k : ℕ) (f : Found) (names : Names) (c : Called) → slice_get mapping.instances number ≡ Some x
      → variant_of program.tasks x.task x.kind ≡ Some v → IsReached (frame_in program.tasks mapping.instances x k f) names (body_calls v.body) c
      → FormFits program mapping c.form
  callee_fits x v number k f names c there runs h =
      let frame = frame_in program.tasks mapping.instances x k f in
      let tasks = program.tasks in
      let served = calls_are_served program levels mapping sound number x v there runs h.position h.call h.among k f in
      let same_callee : served.0 ≡ h.callee = some_same served.0 h.callee (sym served.1 ∙ h.serves) in
      let own = served.2 in
      let y = own.instance in
      let w = own.variant in
      let at : slice_get mapping.instances h.callee.instance ≡ Some y = sym (ap (λ (d : Callee). slice_get mapping.instances d.instance) same_callee) ∙ own.there in
      let params : h.callee.params ≡ w.params = sym (ap (λ (d : Callee). d.params) same_callee) ∙ own.params in
      let caller = variant_parts x.task x.kind v runs in
      let callee = variant_parts y.task y.kind w own.runs in
      let counted = all_at (Counted tasks) (body_calls v.body) (counted_body tasks v.body (decls_known v.decls (params_known v.params [])) caller.body_) h.position h.call h.among in
      let task : h.call.task ≡ w.task = sym own.task ∙ (of_program tasks y.task y.kind w own.runs).task_ in
      let counts : typed.agrees (count_of (params_of_task tasks h.call.task)) (length w.params) ≡ true = ap (λ t. typed.agrees (count_of (params_of_task tasks t)) (length w.params)) task ∙ callee.counts in
      let args : length h.call.args ≡ length w.params = same_count (length h.call.args) (length w.params) (params_of_task tasks h.call.task) counted counts in
      let xs = h.arguments in
      let many : length (extents_of xs) ≡ length w.params = many_extents xs ∙ (as_many h.site.outer names h.numbers h.site.reduced h.callee.params 0 h.call.args xs h.examined ∙ args) in
      let shape = have_shape h.callee.params xs h.shape in
      let b = bound_all shape.value (extents_of xs) w.params many (λ j p dims g e.
      let a = extents_at xs j dims e in
      subst (Suits shape.value p.extents) a.2 (shape.each j p a.0 (ap (λ l. slice_get l j) params ∙ g) a.1)) in
      subst (λ (d : Called). FormFits program mapping d.form) (sym h.is)
      (record { instance = y; there = at; variant = w; runs = own.runs; many = many; begun = b.scope; binds = b.is })

  record AllFit (forms : Forms) : Type 0 where
    each : (i : ℕ) (e : Key × Found) → slice_get forms i ≡ Some e → FormFits program mapping e.1

  abbrev Fitting : ℕ → Called → Type 0
  Fitting k c = FormFits program mapping c.form

  found_in : (forms : Forms) (e f : Key × Found) (i : ℕ) → slice_get (forms ++ e ∷ []) i ≡ Some f → (slice_get forms i ≡ Some f) ⊎ (e ≡ f)
  found_in [] e f zero h = inr (cc h)
  found_in [] e f (suc i) h = absurd (cc h)
  found_in (g ∷ forms) e f zero h = inl h
  found_in (g ∷ forms) e f (suc i) h = found_in forms e f i h

  fit_added : Adding AllFit Fitting
  fit_added k forms c p less few holds = record {
    each = λ i f there. elim (found_in forms (c.key, c.form) f i there) [
      | inl old ↦ holds.each i f old
      | inr new ↦ subst (λ (e : Key × Found). FormFits program mapping e.1) new p
    ];
  }

  fit_each : InEachForm program.tasks mapping.instances Fitting
  fit_each x v k f scope t u there runs h =
      of_each (λ c. FormFits program mapping c.form) (steps_of program.tasks mapping.instances x v k f scope)
      (λ i c g. callee_fits x v f.instance k f scope.names c there runs (calls_are_reached v.body (frame_in program.tasks mapping.instances x k f) scope t u h i c g))

  entry_alone : (extents : List (List ℕ)) → entry_extents mapping.sizes (entry_params program.tasks (slice_get mapping.instances mapping.entry)) ≡ Ok extents
      → (i : ℕ) (e : Key × Found) → slice_get (with_entry mapping.entry extents).found i ≡ Some e → FormFits program mapping e.1
  entry_alone extents h zero e g = subst (λ (d : Key × Found). FormFits program mapping d.1) (some_same _ e g) (entry_fits program levels mapping sound extents h)
  entry_alone extents h (suc i) e g = absurd (cc g)

  all_fit : (r : Resolving) → resolution program.tasks mapping ≡ Ok r → AllFit r.found
  all_fit r h = all_hold program.tasks mapping AllFit Fitting fit_added fit_each (λ extents e. record { each = entry_alone extents e }) r h

pub forms_fit : FormsFit
forms_fit program levels mapping faultless sound r h k form there = (all_fit program levels mapping faultless sound r h).each k form there

pub forms_run : FormsRun
forms_run program levels mapping faultless sound r h k form there =
    let f = forms_fit program levels mapping faultless sound r h k form there in
    record { fits = f; ran = forms_ran program.tasks mapping r h k form f.instance f.variant f.begun there f.there f.runs f.binds }
