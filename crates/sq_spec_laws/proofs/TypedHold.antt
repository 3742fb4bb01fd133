-- Arguments have the types of their parameters, and write what may be written.
use Rattle.std.proofs.Common.{◌≡◌, ℕ, zero, suc, ◌+◌, ◌<◌, Bool, true, false, ℤ, List, [], ◌∷◌, ◌++◌, map, length, Option, Some, None, Result, Ok, Err, refl, sym, ◌∙◌, ap, subst, arith}
use Rattle.std.specs.Prelude.{slice_get, not, nat_lt, ◌&&◌, ◌||◌, ◌==◌}
use Rattle.std.specs.Map.{lookup}
use Rattle.std.proofs.lemmas.Bool.Decides.{nat_tests}
use Rattle.std.proofs.lemmas.List.{map-append}
use Rattle.sq_text.specs.declared.place.Place.{Place}
use Rattle.sq_text.specs.declared.place.Span.{Span}
use Rattle.sq_text.specs.Names.{Bytes, same_name}
use Rattle.sq_num.specs.declared.Elem.{Elem}
use Rattle.sq_num.specs.declared.Elem.TheVariants.{Byte, Int, Long}
use Rattle.sq_ast.specs.declared.expr.Expr.{Expr}
use Rattle.sq_ast.specs.declared.expr.ArgUse.{ArgUse, out-ArgUse}
use Rattle.sq_ast.specs.declared.stmt.Call.{Call}
use Rattle.sq_ast.specs.declared.stmt.Range.{Range}
use Rattle.sq_ast.specs.declared.stmt.MapKind.{MapKind}
use Rattle.sq_ast.specs.declared.stmt.Stmt.{Stmt, roll-Stmt}
use Rattle.sq_ast.specs.declared.stmt.Stmt.TheVariants as s
use Rattle.sq_ast.specs.declared.stmt.Stmt.TheOpen.{Stmt-F}
use Rattle.sq_ast.specs.declared.stmt.Stmt.TheFolds.{ind-Stmt, map-Stmt}
use Rattle.sq_ast.specs.declared.program.Body.{Body}
use Rattle.sq_ast.specs.declared.program.Body.TheVariants as body
use Rattle.sq_ast.specs.declared.program.Mode.{Mode}
use Rattle.sq_ast.specs.declared.program.Mode.TheVariants.{Input, Output, Both}
use Rattle.sq_ast.specs.declared.program.Param.{Param}
use Rattle.sq_ast.specs.declared.program.Variant.{Variant}
use Rattle.sq_ast.specs.declared.program.Program.{Program}
use Rattle.sq_machfile.specs.declared.level.Level.{Level}
use Rattle.sq_forms.specs.Mappings.declared.mapping.Instance.{Instance}
use Rattle.sq_forms.specs.Mappings.declared.mapping.Mapping.{Mapping}
use Rattle.sq_forms.specs.Mappings.Sound.{Sound}
use Rattle.sq_types.specs.declared.kind.ArrayType.{ArrayType}
use Rattle.sq_types.specs.declared.kind.Kind.{Kind}
use Rattle.sq_types.specs.declared.kind.Kind.TheVariants as kind
use Rattle.sq_types.specs.Known.{Known, kind_of}
use Rattle.sq_types.specs.Table.{count_of, is_argument, indices_of, array_of, array_type, same_mode, same_elem, most_arrays}
use Rattle.sq_types.specs.Sites.{params_of as params_of_task, param_at as first_at, params_known, param_known, with_param, decls_known, ranges_known}
use Rattle.sq_types.specs.Sound as typed
use Rattle.sq_types.proofs.SoundStmts.{tested_call, tested_map}
use Rattle.sq_types.proofs.OpenedStmt.{map_map}
use Rattle.sq_blocks.specs.Names.{Numbers}
use Rattle.sq_blocks.specs.Spans as spans
use Rattle.sq_blocks.specs.declared.fault.ConstFault.{ConstFault}
use Rattle.sq_blocks.specs.declared.argument.Argument.{Argument}
use Rattle.sq_forms.specs.declared.args.Block.{Block}
use Rattle.sq_forms.specs.declared.form.Found.{Found}
use Rattle.sq_forms.specs.declared.form.LocalArray.{LocalArray}
use Rattle.sq_forms.specs.declared.known.Array.{Array}
use Rattle.sq_forms.specs.declared.known.Blocks.{Blocks}
use Rattle.sq_forms.specs.Faults.{Value, and_then}
use Rattle.sq_forms.specs.Args.{Names, of_array, of_block, all_of_array, whole_array, block_of, block_in, block_or_fault, block_by, block, worths, argument, mode_of, is_reduced}
use Rattle.sq_spec.specs.Statements.{param_elems, local_elems}
use Rattle.sq_ast.specs.Modes.{is_written}
use Rattle.sq_forms.specs.Decls.{Scope, empty_scope, params_from}
use Rattle.sq_spec.specs.FormLaws.Reached.{Ran, IsReached, AreExamined, concat, text_calls, body_calls}
use Rattle.sq_forms.specs.Resolving.{Resolving, frame_in}
use Rattle.sq_forms.specs.Steps.{Called}
use Rattle.sq_forms.specs.Tables.{variant_of}
use Rattle.sq_spec_laws.specs.Typed.{param_writes, local_writes, ArgumentsHaveTypes, WritesArePermitted}
use Rattle.sq_forms.specs.Worlds.{Callee, callee_of}
use Rattle.sq_spec.proofs.FormLaws.AllHold.{within_list}
use Rattle.sq_spec.proofs.FormLaws.EachCall.{AllIn, all_joined, text_call, text_map}
use Rattle.sq_spec.proofs.FormLaws.FitHold.{some_same, is_equal, both, of_program, variant_parts, same_count}
use Rattle.sq_spec.proofs.FormLaws.Passing.{as_many}
use Rattle.sq_spec.proofs.FormLaws.ServedHold.{all_at, calls_are_served}
use Rattle.sq_spec_laws.proofs.Sorted.{Sort, sort_of, param_sort, local_sort, all_sorts, OfArray, OfBlocks, Sorted, ranges_sorted, scope_sorted, four}

-- ---- each call, with what is known where it stands

-- the call is sound where these names are known
record SoundCall (tasks : List Variant) (sorts : List Sort) (names : Names) (count : ℕ) (c : Call) : Type 0 where
  known : Known
  sorted : Sorted sorts known names count
  is : typed.is_sound_call tasks c known ≡ true

module _ (tasks : List Variant) (sorts : List Sort) (names : Names) (count : ℕ) where
  abbrev M : Call → Type 0
  M c = SoundCall tasks sorts names count c

  abbrev OfStmt : Stmt → Type 0
  OfStmt x = (known : Known) → Sorted sorts known names count → typed.is_sound_stmt tasks x known ≡ true → AllIn M (text_calls x)

  abbrev S : Type 0
  S = (x : Stmt) × OfStmt x

  sound_parts : (xs : List S) (known : Known) → Sorted sorts known names count → typed.are_sound_stmts tasks (map (λ (q : S). q.0) xs) known ≡ true
      → AllIn M (concat (map text_calls (map (λ (q : S). q.0) xs)))
  sound_parts [] known g h = tt
  sound_parts (x ∷ xs) known g h =
      let p = both (typed.is_sound_stmt tasks x.0 known) (typed.are_sound_stmts tasks (map (λ (q : S). q.0) xs) known) h in
      all_joined M (text_calls x.0) (concat (map text_calls (map (λ (q : S). q.0) xs))) (x.1 known g p.0) (sound_parts xs known g p.1)

  sound_call : (c : Call) → OfStmt (s.Call c)
  sound_call c known g h =
      let t : typed.is_sound_call tasks c known ≡ true = sym (ap (λ (t : typed.StmtTest). t.test known) (tested_call tasks c)) ∙ h in
      subst (AllIn M) (sym (text_call c)) (record { known = known; sorted = g; is = t }, tt)

  sound_map : (p : Place) (k : MapKind) (rs : List Range) (xs : List S) → OfStmt (s.Map p k rs (map (λ (q : S). q.0) xs))
  sound_map p k rs xs known g h =
      let ys = map (λ (q : S). q.0) xs in
      let bounds_ = typed.are_sound_bounds rs known in
      let kind_ = typed.is_sound_kind tasks k (typed.call_among (map (typed.tested tasks) ys)) known in
      let new_ = typed.are_new_variables rs known in
      let tests_ = typed.all_hold (map (λ (t : typed.StmtTest). t.test) (map (typed.tested tasks) ys)) (ranges_known rs known) in
      let stmts_ = typed.are_sound_stmts tasks ys (ranges_known rs known) in
      let f : (bounds_ && (kind_ && (new_ && tests_))) ≡ true = sym (ap (λ (t : typed.StmtTest). t.test known) (tested_map tasks p k rs ys)) ∙ h in
      let e : tests_ ≡ stmts_ = ap (λ (tests : List typed.Test). typed.all_hold tests (ranges_known rs known)) (map_map (λ (t : typed.StmtTest). t.test) (typed.tested tasks) ys) in
      let a = both bounds_ (kind_ && (new_ && tests_)) f in
      let b = both kind_ (new_ && tests_) a.1 in
      let c = both new_ tests_ b.1 in
      subst (AllIn M) (sym (text_map p k rs ys)) (sound_parts xs (ranges_known rs known) (ranges_sorted sorts names count rs known g) (sym e ∙ c.1))

  sound_step : (y : Stmt-F S) → OfStmt (roll-Stmt (map-Stmt S Stmt (λ p. p.0) y))
  sound_step (Stmt-F.Call c) = subst OfStmt (sym (s.rolls-Call c)) (sound_call c)
  sound_step (Stmt-F.Map p k rs xs) = subst OfStmt (sym (s.rolls-Map p k rs (map (λ (q : S). q.0) xs))) (sound_map p k rs xs)

  sound_stmt : (x : Stmt) → OfStmt x
  sound_stmt = ind-Stmt OfStmt (λ x y is. subst (λ z. OfStmt (roll-Stmt z)) is (sound_step y))

  sound_stmts : (list : List Stmt) (known : Known) → Sorted sorts known names count → typed.are_sound_stmts tasks list known ≡ true
      → AllIn M (concat (map text_calls list))
  sound_stmts [] known g h = tt
  sound_stmts (x ∷ list) known g h =
      let p = both (typed.is_sound_stmt tasks x known) (typed.are_sound_stmts tasks list known) h in
      all_joined M (text_calls x) (concat (map text_calls list)) (sound_stmt x known g p.0) (sound_stmts list known g p.1)

  sound_body : (b : Body) (known : Known) → Sorted sorts known names count → typed.is_sound_body tasks b known ≡ true → AllIn M (body_calls b)
  sound_body (body.Inner list) known g h = sound_stmts list known g h
  sound_body (body.Leaf list) known g h = tt

-- ---- the array of an argument

-- where the argument's array is known to have a type, the n-th array has it
abbrev OfType : List Sort → Known → Bytes → ℕ → Type 0
OfType sorts known name n = (t : ArrayType) × (array_of known (kind_of known name) ≡ Some t) × (slice_get sorts n ≡ Some (sort_of t))

not_zero : (n : ℕ) → (suc n == 0) ≡ true → ⊥
not_zero n e = absurd (grind (arith, nat_tests))

array_whole : (k : Kind) → is_argument 0 k ≡ true → (t : ArrayType) × (k ≡ kind.Array t)
array_whole kind.Size h = absurd (cc h)
array_whole kind.Scalar h = absurd (cc h)
array_whole kind.Variable h = absurd (cc h)
array_whole kind.List h = absurd (cc h)
array_whole (kind.Array t) h = (t, refl)
array_whole (kind.Rchop array) h = absurd (cc h)
array_whole (kind.Ichop array) h = absurd (cc h)

-- the kinds that blocks have
data IsChop (k : Kind) : Type 0 where
  regular : (array : Bytes) → k ≡ kind.Rchop array → IsChop k
  irregular : (array : Bytes) → k ≡ kind.Ichop array → IsChop k

array_block : (n : ℕ) (k : Kind) → is_argument (suc n) k ≡ true → IsChop k
array_block n kind.Size h = absurd (cc h)
array_block n kind.Scalar h = absurd (cc h)
array_block n kind.Variable h = absurd (cc h)
array_block n kind.List h = absurd (cc h)
array_block n (kind.Array t) h = absurd (not_zero n h)
array_block n (kind.Rchop array) h = regular array refl
array_block n (kind.Ichop array) h = irregular array refl

module _ (sorts : List Sort) (known : Known) (names : Names) (count : ℕ) (g : Sorted sorts known names count) where
  of_whole : (name : Bytes) (n : ℕ) → OfArray sorts known name n → typed.is_kind (is_argument 0) (kind_of known name) ≡ true → OfType sorts known name n
  of_whole name n h test =
      let own : is_argument 0 h.kind_ ≡ true = sym (ap (typed.is_kind (is_argument 0)) h.is) ∙ test in
      let k = array_whole h.kind_ own in
      (k.0, ap (array_of known) (h.is ∙ ap Some k.1), h.sorted k.0 k.1)

  of_chop : (name : Bytes) (n : ℕ) (h : OfBlocks sorts known name n) → IsChop h.kind_ → OfType sorts known name n
  of_chop name n h (regular array e) =
      let i = h.regular array e in (i.type, ap (array_of known) (h.is ∙ ap Some e) ∙ ap array_type i.is, i.there)
  of_chop name n h (irregular array e) =
      let i = h.irregular array e in (i.type, ap (array_of known) (h.is ∙ ap Some e) ∙ ap array_type i.is, i.there)

  of_blocks : (m : ℕ) (name : Bytes) (n : ℕ) → OfBlocks sorts known name n → typed.is_kind (is_argument (suc m)) (kind_of known name) ≡ true
      → OfType sorts known name n
  of_blocks m name n h test =
      let own : is_argument (suc m) h.kind_ ≡ true = sym (ap (typed.is_kind (is_argument (suc m))) h.is) ∙ test in
      of_chop name n h (array_block m h.kind_ own)

  abbrev In : Bytes → Block → Type 0
  In name b = OfType sorts known name b.array

  whole_made : (b : Block) (name : Bytes) (n : ℕ) → OfType sorts known name n → (o : Option (List Span)) → of_array n o ≡ Some b → In name b
  whole_made b name n q None h = absurd (cc h)
  whole_made b name n q (Some rect) h =
      let made : Block = record { array = n; rect = rect } in
      let is : made ≡ b = cc h in
      subst (In name) is q

  whole_in : (b : Block) (name : Bytes) → typed.is_kind (is_argument 0) (kind_of known name) ≡ true → (o : Option Array) → lookup (same_name name) names.arrays ≡ o
      → all_of_array o ≡ Some b → In name b
  whole_in b name test None e h = absurd (cc h)
  whole_in b name test (Some a) e h = whole_made b name a.number (of_whole name a.number (g.array name a e) test) (spans.wholes a.extents) h

  block_made : (b : Block) (name : Bytes) (n : ℕ) → OfType sorts known name n → (r : Result (List Span) ConstFault) → of_block n r ≡ Some b → In name b
  block_made b name n q (Ok rect) h =
      let made : Block = record { array = n; rect = rect } in
      let is : made ≡ b = cc h in
      subst (In name) is q
  block_made b name n q (Err f) h = absurd (cc h)

  block_there : (b : Block) (m : ℕ) (name : Bytes) (index : List ℤ) → typed.is_kind (is_argument (suc m)) (kind_of known name) ≡ true → (o : Option Blocks)
      → lookup (same_name name) names.blocks ≡ o → block_of index o ≡ Some b → In name b
  block_there b m name index test None e h = absurd (cc h)
  block_there b m name index test (Some bs) e h = block_made b name bs.array (of_blocks m name bs.array (g.block name bs e) test) (spans.block bs.chop index) h

  found_some : (a : ArgUse) (b : Block) (o : Option Block) → block_or_fault a o ≡ Ok b → o ≡ Some b
  found_some a b None h = absurd (cc h)
  found_some a b (Some c) h = let is : c ≡ b = cc h in ap Some is

  indexed : (a : ArgUse) (b : Block) (m : ℕ) → typed.is_kind (is_argument (suc m)) (kind_of known (out-ArgUse a).name) ≡ true → (v : Value (List ℤ))
      → and_then v (λ index. block_or_fault a (block_in names (out-ArgUse a).name index)) ≡ Ok b → In (out-ArgUse a).name b
  indexed a b m test (Ok index) h =
      let name = (out-ArgUse a).name in
      block_there b m name index test (lookup (same_name name) names.blocks) refl (found_some a b (block_in names name index) h)
  indexed a b m test (Err f) h = absurd (cc h)

  block_typed : (numbers : Numbers) (a : ArgUse) (b : Block) (index : List Expr) → typed.is_kind (is_argument (length index)) (kind_of known (out-ArgUse a).name) ≡ true
      → block_by names numbers a index ≡ Ok b → In (out-ArgUse a).name b
  block_typed numbers a b [] test h =
      let name = (out-ArgUse a).name in
      whole_in b name test (lookup (same_name name) names.arrays) refl (found_some a b (whole_array names name) h)
  block_typed numbers a b (e ∷ es) test h = indexed a b (length es) test (worths (e ∷ es) numbers names.lists) h

  -- what is known of an argument: its array's type, and its mode
  pub record Made (param : Option Param) (reduced : Option Bytes) (a : ArgUse) (x : Argument) : Type 0 where
    pub of : OfType sorts known (out-ArgUse a).name x.array
    pub mode : x.mode ≡ mode_of param
    pub sum : x.is_reduced ≡ is_reduced reduced a

  abbrev argument_okay : Argument → Value Argument
  argument_okay x = Ok x

  argument_made : (reduced : Option Bytes) (param : Option Param) (a : ArgUse) (x : Argument) (v : Value Block) → ((b : Block) → v ≡ Ok b → In (out-ArgUse a).name b)
      → and_then v (λ b. argument_okay (record { mode = mode_of param; is_reduced = is_reduced reduced a; array = b.array; rect = b.rect })) ≡ Ok x
      → Made param reduced a x
  argument_made reduced param a x (Ok b) f h =
      let made : Argument = record { mode = mode_of param; is_reduced = is_reduced reduced a; array = b.array; rect = b.rect } in
      let is : made ≡ x = cc h in
      subst (Made param reduced a) is (record { of = f b refl; mode = refl; sum = refl })
  argument_made reduced param a x (Err e) f h = absurd (cc h)

  argument_typed : (numbers : Numbers) (reduced : Option Bytes) (param : Option Param) (a : ArgUse) (x : Argument)
      → typed.is_kind (is_argument (length (out-ArgUse a).index)) (kind_of known (out-ArgUse a).name) ≡ true → argument names numbers reduced param a ≡ Ok x
      → Made param reduced a x
  argument_typed numbers reduced param a x test h =
      argument_made reduced param a x (block names numbers a) (λ b e. block_typed numbers a b (out-ArgUse a).index test e) h

  -- an argument, its parameter, and the first variant's parameter, whose type its array has
  pub record Suited (first : Option (List Param)) (params : List Param) (reduced : Option Bytes) (list : List ArgUse) (i : ℕ) (j : ℕ) (x : Argument) : Type 0 where
    pub use_ : ArgUse
    pub there : slice_get list j ≡ Some use_
    pub made : Made (slice_get params (i + j)) reduced use_ x
    pub suits : typed.both_suit (first_at first (i + j)) (array_of known (kind_of known (out-ArgUse use_).name)) ≡ true

  examined_suits : (first : Option (List Param)) (numbers : Numbers) (reduced : Option Bytes) (params : List Param) (i : ℕ) (list : List ArgUse) (xs : List Argument)
      → typed.are_sound_args first i list known ≡ true → AreExamined names numbers reduced params i list xs
      → (j : ℕ) (x : Argument) → slice_get xs j ≡ Some x → Suited first params reduced list i j x
  examined_suits first numbers reduced params i [] [] t h j x q = absurd (cc q)
  examined_suits first numbers reduced params i [] (y ∷ xs) t h j x q = absurd h
  examined_suits first numbers reduced params i (a ∷ list) [] t h j x q = absurd h
  examined_suits first numbers reduced params i (a ∷ list) (y ∷ xs) t h zero x q =
      let is : y ≡ x = cc q in
      let z : i ≡ i + 0 = omega arith in
      let name = (out-ArgUse a).name in
      let n = length (out-ArgUse a).index in
      let e = both (typed.is_sound_arg (first_at first i) a known) (typed.are_sound_args first (i + 1) list known) t in
      let f = both (typed.fits_param n (first_at first i) name known) (typed.are_sound_exprs (out-ArgUse a).index known) e.0 in
      let agrees_ = typed.agrees (indices_of known (kind_of known name)) n in
      let suit_ = typed.both_suit (first_at first i) (array_of known (kind_of known name)) in
      let u = both (typed.is_kind (is_argument n) (kind_of known name)) (agrees_ && suit_) f.0 in
      let w = both agrees_ suit_ u.1 in
      let made = argument_typed numbers reduced (slice_get params i) a y u.0 h.0 in
      subst (Suited first params reduced (a ∷ list) i 0) is
      (record {
        use_ = a;
        there = refl;
        made = subst (λ m. Made (slice_get params m) reduced a y) z made;
        suits = subst (λ m. typed.both_suit (first_at first m) (array_of known (kind_of known name)) ≡ true) z w.1;
      })
  examined_suits first numbers reduced params i (a ∷ list) (y ∷ xs) t h (suc j) x q =
      let z : i + 1 + j ≡ i + suc j = omega arith in
      let e = both (typed.is_sound_arg (first_at first i) a known) (typed.are_sound_args first (i + 1) list known) t in
      let r = examined_suits first numbers reduced params (i + 1) list xs e.1 h.1 j x q in
      record {
        use_ = r.use_;
        there = r.there;
        made = subst (λ m. Made (slice_get params m) reduced r.use_ x) z r.made;
        suits = subst (λ m. typed.both_suit (first_at first m) (array_of known (kind_of known (out-ArgUse r.use_).name)) ≡ true) z r.suits;
      }

-- ---- a variant's parameters, beside those of the task's first variant

same_elems : (a b : Elem) → same_elem a b ≡ true → a ≡ b
same_elems Byte Byte h = refl
same_elems Byte Int h = absurd (cc h)
same_elems Byte Long h = absurd (cc h)
same_elems Int Byte h = absurd (cc h)
same_elems Int Int h = refl
same_elems Int Long h = absurd (cc h)
same_elems Long Byte h = absurd (cc h)
same_elems Long Int h = absurd (cc h)
same_elems Long Long h = refl

pub same_modes : (a b : Mode) → same_mode a b ≡ true → a ≡ b
same_modes Input Input h = refl
same_modes Input Output h = absurd (cc h)
same_modes Input Both h = absurd (cc h)
same_modes Output Input h = absurd (cc h)
same_modes Output Output h = refl
same_modes Output Both h = absurd (cc h)
same_modes Both Input h = absurd (cc h)
same_modes Both Output h = absurd (cc h)
same_modes Both Both h = refl

pub as_first : (first : Option (List Param)) (i : ℕ) (ps : List Param) (known : Known) → typed.are_sound_params first i ps known ≡ true
    → (j : ℕ) (p : Param) → slice_get ps j ≡ Some p → typed.is_as_first (first_at first (i + j)) p ≡ true
as_first first i [] known h j p g = absurd (cc g)
as_first first i (q ∷ ps) known h zero p g =
    let is : q ≡ p = cc g in
    let z : i ≡ i + 0 = omega arith in
    let a = both (typed.is_sound_param (first_at first i) i q known) (typed.are_sound_params first (i + 1) ps (param_known q known)) h in
    let b = four (typed.is_new q.name known) (typed.is_as_first (first_at first i) q) (nat_lt i most_arrays) (typed.are_sound_extents q.extents (with_param known q)) a.0 in
    subst (λ (r : Param). typed.is_as_first (first_at first (i + 0)) r ≡ true) is (subst (λ m. typed.is_as_first (first_at first m) q ≡ true) z b.1)
as_first first i (q ∷ ps) known h (suc j) p g =
    let z : i + 1 + j ≡ i + suc j = omega arith in
    let a = both (typed.is_sound_param (first_at first i) i q known) (typed.are_sound_params first (i + 1) ps (param_known q known)) h in
    subst (λ m. typed.is_as_first (first_at first m) p ≡ true) z (as_first first (i + 1) ps (param_known q known) a.1 j p g)

-- ---- sorts, as element types and what may be written

elems_are : (params : List Param) (locals : List LocalArray) → map (λ (q : Sort). q.0) (all_sorts (map param_sort params) locals) ≡ param_elems params ++ local_elems locals
elems_are params locals =
    map-append (λ (q : Sort). q.0) (map param_sort params) (map local_sort locals)
    ∙ (λ i. map_map (λ (q : Sort). q.0) param_sort params i ++ map_map (λ (q : Sort). q.0) local_sort locals i)

param_writes_are : (params : List Param) → map (λ (q : Sort). q.1) (map param_sort params) ≡ param_writes params
param_writes_are [] = refl
param_writes_are (p ∷ params) = (λ i. is_written p.mode ∷ param_writes_are params i)

writes_are : (params : List Param) (locals : List LocalArray) → map (λ (q : Sort). q.1) (all_sorts (map param_sort params) locals) ≡ param_writes params ++ local_writes locals
writes_are params locals =
    map-append (λ (q : Sort). q.1) (map param_sort params) (map local_sort locals)
    ∙ (λ i. param_writes_are params i ++ map_map (λ (q : Sort). q.1) local_sort locals i)

get_map : {A B : Type 0} (f : A → B) (xs : List A) (i : ℕ) (x : A) → slice_get xs i ≡ Some x → slice_get (map f xs) i ≡ Some (f x)
get_map f [] i x h = absurd (cc h)
get_map f (y ∷ xs) zero x h = let is : y ≡ x = cc h in ap (λ z. Some (f z)) is
get_map f (y ∷ xs) (suc i) x h = get_map f xs i x h

pub get_there : {A : Type 0} (xs : List A) (i : ℕ) → i < length xs → (x : A) × (slice_get xs i ≡ Some x)
get_there [] i h = absurd (omega (arith, h))
get_there (x ∷ xs) zero h = (x, refl)
get_there (x ∷ xs) (suc i) h = get_there xs i (omega (arith, h))

-- there are as many parameters of the task's first variant
record FirstHas (o : Option (List Param)) (j : ℕ) : Type 0 where
  param : Param
  is : first_at o j ≡ Some param

first_has : (o : Option (List Param)) (args : ℕ) (j : ℕ) → typed.has_count args o ≡ true → j < args → FirstHas o j
first_has None args j h less = absurd (cc h)
first_has (Some ps) args j h less =
    let many = is_equal (length ps) args h in
    let g = get_there ps j (omega (arith, many, less)) in
    record { param = g.0; is = g.1 }

permitted_by : (writable written : Bool) → (writable || not written) ≡ true → written ≡ true → writable ≡ true
permitted_by true w h e = refl
permitted_by false true h e = absurd (cc h)
permitted_by false false h e = absurd (cc e)

-- ---- a reached call

-- an argument, with all that its types say
pub record ArgumentTyped (sorts : List Sort) (params : List Param) (j : ℕ) (a : Argument) : Type 0 where
  pub param : Param
  pub there : slice_get params j ≡ Some param
  pub mode : a.mode ≡ param.mode
  pub sort : Sort
  pub of : slice_get sorts a.array ≡ Some sort
  pub elem : sort.0 ≡ param.elem
  pub writes : is_written a.mode ≡ true → sort.1 ≡ true

module _ (program : Program) (levels : List Level) (mapping : Mapping) (faultless : typed.is_sound program ≡ true) (sound : Sound program levels mapping) where
  -- the variant of a callee: as many parameters as arguments, of the types of the first variant's
  pub record CalleeTyped (c : Call) (params : List Param) : Type 0 where
    pub args : length c.args ≡ length params
    pub first : typed.are_sound_params (params_of_task program.tasks c.task) 0 params [] ≡ true

  pub callee_typed : (x : Instance) (v : Variant) (number k : ℕ) (f : Found) (position : ℕ) (c : Call) (callee : Callee) → slice_get mapping.instances number ≡ Some x
      → variant_of program.tasks x.task x.kind ≡ Some v → slice_get (body_calls v.body) position ≡ Some c
      → callee_of (frame_in program.tasks mapping.instances x k f) c.task ≡ Some callee
      → typed.has_count (length c.args) (params_of_task program.tasks c.task) ≡ true → CalleeTyped c callee.params
  callee_typed x v number k f position c callee there runs among serves counted =
      let tasks = program.tasks in
      let served = calls_are_served program levels mapping sound number x v there runs position c among k f in
      let same_callee : served.0 ≡ callee = some_same served.0 callee (sym served.1 ∙ serves) in
      let own = served.2 in
      let y = own.instance in
      let w = own.variant in
      let params : w.params ≡ callee.params = sym own.params ∙ ap (λ (d : Callee). d.params) same_callee in
      let parts = variant_parts program levels mapping faultless sound y.task y.kind w own.runs in
      let task : w.task ≡ c.task = sym (of_program tasks y.task y.kind w own.runs).task_ ∙ own.task in
      let counts : typed.agrees (count_of (params_of_task tasks c.task)) (length w.params) ≡ true = sym (ap (λ t. typed.agrees (count_of (params_of_task tasks t)) (length w.params)) task) ∙ parts.counts in
      let first : typed.are_sound_params (params_of_task tasks c.task) 0 w.params [] ≡ true = sym (ap (λ t. typed.are_sound_params (params_of_task tasks t) 0 w.params []) task) ∙ parts.params_ in
      subst (CalleeTyped c) params (record { args = same_count (length c.args) (length w.params) (params_of_task tasks c.task) counted counts; first = first })

  -- the arguments of a sound call, whose names are sorted
  call_typed : (sorts : List Sort) (names : Names) (count : ℕ) (c : Call) (params : List Param) (numbers : Numbers) (reduced : Option Bytes) (xs : List Argument)
      → SoundCall program.tasks sorts names count c → CalleeTyped c params → AreExamined names numbers reduced params 0 c.args xs
      → (j : ℕ) (a : Argument) → slice_get xs j ≡ Some a → ArgumentTyped sorts params j a
  call_typed sorts names count c params numbers reduced xs ok callee examined j a at =
      let first = params_of_task program.tasks c.task in
      let known = ok.known in
      let p = both (typed.has_count (length c.args) first) (typed.are_sound_args first 0 c.args known) ok.is in
      let q = examined_suits sorts known names count ok.sorted first numbers reduced params 0 c.args xs p.1 examined j a at in
      let less : j < length c.args = omega (arith, within_list xs j a at, as_many None names numbers reduced params 0 c.args xs examined) in
      let own = get_there params j (omega (arith, less, callee.args)) in
      let lead = first_has first (length c.args) j p.0 less in
      let z : j ≡ 0 + j = omega arith in
      let like : typed.is_as_first (Some lead.param) own.0 ≡ true = sym (ap (λ o. typed.is_as_first o own.0) (sym (ap (first_at first) z) ∙ lead.is)) ∙ as_first first 0 params [] callee.first j own.0 own.1 in
      let l = both (length lead.param.extents == length own.0.extents) (same_mode lead.param.mode own.0.mode && same_elem lead.param.elem own.0.elem) like in
      let m = both (same_mode lead.param.mode own.0.mode) (same_elem lead.param.elem own.0.elem) l.1 in
      let t = q.made.of.0 in
      let suit : typed.suits lead.param t ≡ true =
      sym (λ i. typed.both_suit ((sym (ap (first_at first) z) ∙ lead.is) i) (q.made.of.1 i)) ∙ q.suits in
      let u = both (length lead.param.extents == t.dims) (same_elem lead.param.elem t.elem && (t.is_writable || not (is_written lead.param.mode))) suit in
      let w = both (same_elem lead.param.elem t.elem) (t.is_writable || not (is_written lead.param.mode)) u.1 in
      let mode : a.mode ≡ own.0.mode = q.made.mode ∙ ap mode_of (sym (ap (slice_get params) z) ∙ own.1) in
      record {
        param = own.0;
        there = own.1;
        mode = mode;
        sort = sort_of t;
        of = q.made.of.2;
        elem = sym (same_elems lead.param.elem t.elem w.0) ∙ same_elems lead.param.elem own.0.elem m.1;
        writes = λ e.
            permitted_by t.is_writable (is_written lead.param.mode) w.1
            (ap is_written (same_modes lead.param.mode own.0.mode m.0) ∙ (sym (ap is_written mode) ∙ e));
      }

  reached_typed : (r : Resolving) (k : ℕ) (f : Found) (x : Instance) (v : Variant) (begun : Scope) → slice_get mapping.instances f.instance ≡ Some x
      → variant_of program.tasks x.task x.kind ≡ Some v → params_from empty_scope v.params 0 f.extents ≡ Some begun
      → (ran : Ran program.tasks mapping.instances r k f x v begun)
      → (c : Called) (h : IsReached (frame_in program.tasks mapping.instances x k f) ran.scope.names (body_calls v.body) c)
      → (j : ℕ) (a : Argument) → slice_get h.arguments j ≡ Some a
      → ArgumentTyped (all_sorts (map param_sort v.params) ran.scope.locals) h.callee.params j a
  reached_typed r k f x v begun there runs binds ran c h j a at =
      let tasks = program.tasks in
      let scope = ran.scope in
      let parts = variant_parts program levels mapping faultless sound x.task x.kind v runs in
      let sorts = all_sorts (map param_sort v.params) scope.locals in
      let known = decls_known v.decls (params_known v.params []) in
      let g = scope_sorted (params_of_task tasks v.task) v.params f.extents begun scope x.tunings v.decls (length v.params) parts.params_ parts.decls_ binds ran.declared in
      let ok : SoundCall tasks sorts scope.names scope.arrays h.call = all_at (M tasks sorts scope.names scope.arrays) (body_calls v.body) (sound_body tasks sorts scope.names scope.arrays v.body known g parts.body_) h.position h.call h.among in
      let p = both (typed.has_count (length h.call.args) (params_of_task tasks h.call.task)) (typed.are_sound_args (params_of_task tasks h.call.task) 0 h.call.args ok.known) ok.is in
      let callee = callee_typed x v f.instance k f h.position h.call h.callee there runs h.among h.serves p.0 in
      call_typed sorts scope.names scope.arrays h.call h.callee.params h.numbers h.site.reduced h.arguments ok callee h.examined j a at

pub arguments_have_types : ArgumentsHaveTypes
arguments_have_types program levels mapping faultless sound r k f x v begun there runs binds ran c h j a at =
    let t = reached_typed program levels mapping faultless sound r k f x v begun there runs binds ran c h j a at in
    let sorts = all_sorts (map param_sort v.params) ran.scope.locals in
    record {
      param = t.param;
      there = t.there;
      mode = t.mode;
      elem = sym (ap (λ l. slice_get l a.array) (elems_are v.params ran.scope.locals)) ∙ (get_map (λ (q : Sort). q.0) sorts a.array t.sort t.of ∙ ap Some t.elem);
    }

pub writes_are_permitted : WritesArePermitted
writes_are_permitted program levels mapping faultless sound r k f x v begun there runs binds ran c h j a at written =
    let t = reached_typed program levels mapping faultless sound r k f x v begun there runs binds ran c h j a at in
    let sorts = all_sorts (map param_sort v.params) ran.scope.locals in
    sym (ap (λ l. slice_get l a.array) (writes_are v.params ran.scope.locals)) ∙ (get_map (λ (q : Sort). q.1) sorts a.array t.sort t.of ∙ ap Some (t.writes written))
