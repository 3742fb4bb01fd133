-- Each access of a form lies inside its array.
use Rattle.std.proofs.Common.{◌≡◌, ℕ, zero, suc, ◌+◌, ◌⊎◌, inl, inr, Bool, true, false, ℤ, List, [], ◌∷◌, ◌++◌, map, take, drop, length, Option, Some, None, is_some, Result, Ok, Err, refl, sym, ◌∙◌, ap, subst, arith, append_assoc, length-append}
use Rattle.std.specs.Prelude.{slice_get, is_err, if◌then◌else◌}
use Rattle.std.specs.Map.{lookup}
use Rattle.std.specs.Option.{option_and_then, option_map}
use Rattle.std.proofs.lemmas.List.{map-append, append-nil, take_all}
use Rattle.std.proofs.lemmas.Option.{get_or_from_slice_get}
use Rattle.sq_text.specs.declared.fault.Fault.{Fault}
use Rattle.sq_text.specs.declared.code.Code.TheVariants as code
use Rattle.sq_text.specs.declared.place.Place.{Place}
use Rattle.sq_text.specs.declared.place.Span.{Span}
use Rattle.sq_text.specs.Names.{Bytes, same_name}
use Rattle.sq_ast.specs.Num.declared.Elem.{Elem}
use Rattle.sq_ast.specs.declared.expr.Expr.{Expr}
use Rattle.sq_ast.specs.declared.expr.ArgUse.{ArgUse, out-ArgUse}
use Rattle.sq_ast.specs.declared.program.Decl.{Decl}
use Rattle.sq_ast.specs.declared.program.Decl.TheVariants as decl
use Rattle.sq_ast.specs.declared.program.Param.{Param}
use Rattle.sq_forms.specs.Mappings.declared.mapping.Tuning.{Tuning}
use Rattle.sq_blocks.specs.Names.{Numbers, Lists, list_of, with_number, with_list}
use Rattle.sq_blocks.specs.Spans as spans
use Rattle.sq_blocks.specs.Blocks as blocks
use Rattle.sq_blocks.specs.declared.fault.ConstFault.{ConstFault}
use Rattle.sq_blocks.specs.declared.chop.Chop.{Chop}
use Rattle.sq_blocks.specs.declared.chop.Chop.TheVariants.{Regular, Irregular}
use Rattle.sq_blocks.proofs.SpansInside.{block_in as spans_in, wholes_in}
use Rattle.sq_blocks.specs.declared.argument.Argument.{Argument}
use Rattle.sq_forms.specs.declared.args.Block.{Block}
use Rattle.sq_forms.specs.declared.known.Array.{Array}
use Rattle.sq_forms.specs.declared.known.Blocks.{Blocks}
use Rattle.sq_forms.specs.declared.form.LocalArray.{LocalArray}
use Rattle.sq_forms.specs.declared.form.Use.{Use}
use Rattle.sq_forms.specs.Faults.{Value, and_then, fault_named}
use Rattle.sq_forms.specs.Tables.{setting_of}
use Rattle.sq_form_laws.proofs.AllHold.{within_list}
use Rattle.sq_forms.proofs.Argued.{next_at}
use Rattle.sq_forms.specs.Steps.{Called}
use Rattle.sq_forms.specs.Args.{Names, of_array, of_block, all_of_array, whole_array, block_of, block_in, block_or_fault, block_by, block, worths, argument, mode_of, is_reduced}
use Rattle.sq_forms.specs.Calls.{bind_from, uses_from, CallSite}
use Rattle.sq_forms.specs.Decls.{Scope, with_first, with_array, dims_of, local_at, with_blocks, with_chop, array_of, after_decl, all_declared, number_in, list_in, param_at, params_from, empty_scope}
use Rattle.sq_form_laws.specs.Insides.{LiesIn, arrays_of, ArgumentsLieInside, AccessesLieInside}
use Rattle.sq_form_laws.specs.Reached.{AreExamined, calls_in, steps_of, form_number, uses_of}
use Rattle.sq_forms.specs.Steps.{Forms}
use Rattle.sq_form_laws.proofs.Shapes.{Stood, old, new, stood}

-- ---- what the names of a form stand for is among its arrays

pub record Placed (arrays : List (List ℕ)) (names : Names) (count : ℕ) : Type 0 where
  pub many : count ≡ length arrays
  pub array : (name : Bytes) (a : Array) → lookup (same_name name) names.arrays ≡ Some a → slice_get arrays a.number ≡ Some a.extents
  pub block : (name : Bytes) (b : Blocks) → lookup (same_name name) names.blocks ≡ Some b → slice_get arrays b.array ≡ Some (blocks.extents_of b.chop)

get_kept : {A : Type 0} (xs rest : List A) (i : ℕ) (x : A) → slice_get xs i ≡ Some x → slice_get (xs ++ rest) i ≡ Some x
get_kept [] rest i x h = absurd (cc h)
get_kept (y ∷ xs) rest zero x h = h
get_kept (y ∷ xs) rest (suc i) x h = get_kept xs rest i x h

get_last : {A : Type 0} (xs : List A) (x : A) → slice_get (xs ++ x ∷ []) (length xs) ≡ Some x
get_last [] x = refl
get_last (y ∷ xs) x = get_last xs x

-- of two entries of a name the first counts
pub first_stood : {X : Type 0} (name own : Bytes) (es : List (Bytes × X)) (a x : X) (b : Bool)
    → lookup (same_name name) (if b then es else es ++ (own, a) ∷ []) ≡ Some x
    → Stood name own a x (lookup (same_name name) es)
first_stood name own es a x true h = old h
first_stood name own es a x false h = stood name own es a x h

array_by : (arrays : List (List ℕ)) (dims : List ℕ) (name own : Bytes) (count : ℕ) (a : Array) (o : Option Array) → count ≡ length arrays
    → (o ≡ Some a → slice_get arrays a.number ≡ Some a.extents) → Stood name own (record { number = count; extents = dims }) a o
    → slice_get (arrays ++ dims ∷ []) a.number ≡ Some a.extents
array_by arrays dims name own count a o many f (old h) = get_kept arrays (dims ∷ []) a.number a.extents (f h)
array_by arrays dims name own count a o many f (new e is) =
    subst (λ (b : Array). slice_get (arrays ++ dims ∷ []) b.number ≡ Some b.extents) is (ap (slice_get (arrays ++ dims ∷ [])) many ∙ get_last arrays dims)

one_count : (xs : List (List ℕ)) (x : List ℕ) (n : ℕ) → n ≡ length xs → n + 1 ≡ length (xs ++ x ∷ [])
one_count xs x n h = omega (arith, h, length-append xs (x ∷ []))

with_array_placed : (arrays : List (List ℕ)) (names : Names) (count : ℕ) (own : Bytes) (dims : List ℕ) → Placed arrays names count
    → Placed (arrays ++ dims ∷ []) (with_array names own (record { number = count; extents = dims })) (count + 1)
with_array_placed arrays names count own dims p = record {
  many = one_count arrays dims count p.many;
  array = λ name a h.
      array_by arrays dims name own count a (lookup (same_name name) names.arrays) p.many (p.array name a)
      (first_stood name own names.arrays (record { number = count; extents = dims }) a (is_some (lookup (same_name own) names.arrays)) h);
  block = λ name b h. get_kept arrays (dims ∷ []) b.array (blocks.extents_of b.chop) (p.block name b h);
}

block_by_name : (arrays : List (List ℕ)) (name own : Bytes) (array : ℕ) (chop : Chop) (b : Blocks) (o : Option Blocks)
    → slice_get arrays array ≡ Some (blocks.extents_of chop)
    → (o ≡ Some b → slice_get arrays b.array ≡ Some (blocks.extents_of b.chop)) → Stood name own (record { array = array; chop = chop }) b o
    → slice_get arrays b.array ≡ Some (blocks.extents_of b.chop)
block_by_name arrays name own array chop b o here f (old h) = f h
block_by_name arrays name own array chop b o here f (new e is) = subst (λ (c : Blocks). slice_get arrays c.array ≡ Some (blocks.extents_of c.chop)) is here

-- ---- declarations

pub chosen_ok : {A : Type 0} (b : Bool) (f : Fault) (a t : A) → (if b then Err f else Ok a) ≡ Ok t → a ≡ t
chosen_ok true f a t h = absurd (cc h)
chosen_ok false f a t h = cc h

abbrev scope_okay : Scope → Value Scope
scope_okay s = Ok s

abbrev argument_okay : Argument → Value Argument
argument_okay x = Ok x

abbrev scope_with : Scope → Numbers → Scope
scope_with s numbers = record { names = s.names; numbers = numbers; arrays = s.arrays; locals = s.locals }

abbrev lists_with : Scope → Lists → Scope
lists_with s lists = record { names = record { lists = lists; arrays = s.names.arrays; blocks = s.names.blocks }; numbers = s.numbers; arrays = s.arrays; locals = s.locals }

abbrev param_scope : Scope → Param → List ℕ → Numbers → Scope
param_scope s p dims numbers = record { names = with_array s.names p.name (record { number = s.arrays; extents = dims }); numbers = numbers; arrays = s.arrays + 1; locals = s.locals }

some_same : {A : Type 0} (x y : A) → Some x ≡ Some y → x ≡ y
some_same x y h = cc h

abbrev local_extents : List LocalArray → List (List ℕ)
local_extents locals = map (λ l. l.extents) locals

-- the scope's names are placed in the arrays of these extents and its locals
abbrev pub Good : List (List ℕ) → Scope → Type 0
Good extents s = Placed (arrays_of extents s.locals) s.names s.arrays

one_local : (extents : List (List ℕ)) (locals : List LocalArray) (l : LocalArray)
    → arrays_of extents locals ++ l.extents ∷ [] ≡ arrays_of extents (locals ++ l ∷ [])
one_local extents locals l =
    append_assoc extents (local_extents locals) (l.extents ∷ []) ∙ ap (λ xs. extents ++ xs) (sym (map-append (λ (m : LocalArray). m.extents) locals (l ∷ [])))

module _ (extents : List (List ℕ)) where
  local_good : (s t : Scope) (place : Place) (elem : Elem) (name : Bytes) (o : Option (List ℕ)) → Good extents s → local_at s place elem name o ≡ Ok t
      → Good extents t
  local_good s t place elem name None p h = absurd (cc h)
  local_good s t place elem name (Some dims) p h =
      let made : Scope = record {
        names = with_array s.names name (record { number = s.arrays; extents = dims });
        numbers = s.numbers;
        arrays = s.arrays + 1;
        locals = s.locals ++ record { elem = elem; extents = dims } ∷ [];
      } in
      let is : made ≡ t = cc h in
      subst (Good extents) is
      (subst (λ xs. Placed xs (with_array s.names name (record { number = s.arrays; extents = dims })) (s.arrays + 1)) (one_local extents s.locals (record { elem = elem; extents = dims }))
      (with_array_placed (arrays_of extents s.locals) s.names s.arrays name dims p))

  blocks_good : (s t : Scope) (place : Place) (name : Bytes) (array : ℕ) (chop : Chop) → Good extents s
      → slice_get (arrays_of extents s.locals) array ≡ Some (blocks.extents_of chop)
      → with_blocks s place name array chop ≡ Ok t → Good extents t
  blocks_good s t place name array chop p here h =
      let made : Scope = record {
        names = record { lists = s.names.lists; arrays = s.names.arrays; blocks = with_first s.names.blocks name (record { array = array; chop = chop }) };
        numbers = s.numbers;
        arrays = s.arrays;
        locals = s.locals;
      } in
      let is : made ≡ t = chosen_ok (is_err (spans.judged chop)) (fault_named code.BadChop place name) made t h in
      subst (Good extents) is (record {
        many = p.many;
        array = p.array;
        block = λ other c g.
            block_by_name (arrays_of extents s.locals) other name array chop c (lookup (same_name other) s.names.blocks) here (p.block other c)
            (first_stood other name s.names.blocks (record { array = array; chop = chop }) c (is_some (lookup (same_name name) s.names.blocks)) g);
      })

  chopped_good : (s t : Scope) (place : Place) (name array : Bytes) (chop : List ℕ → Chop) → ((e : List ℕ) → blocks.extents_of (chop e) ≡ e) → Good extents s
      → (o : Option Array) → array_of s array ≡ o → with_chop s place name chop o ≡ Ok t → Good extents t
  chopped_good s t place name array chop keeps p None e h = absurd (cc h)
  chopped_good s t place name array chop keeps p (Some a) e h =
      blocks_good s t place name a.number (chop a.extents) p (p.array array a e ∙ ap Some (sym (keeps a.extents))) h

  number_good : (s t : Scope) (numbers : Numbers) → Good extents s
      → scope_okay (record { names = s.names; numbers = numbers; arrays = s.arrays; locals = s.locals }) ≡ Ok t → Good extents t
  number_good s t numbers p h = let is : scope_with s numbers ≡ t = cc h in subst (Good extents) is p

  list_good : (s t : Scope) (lists : Lists) → Good extents s
      → scope_okay (record { names = record { lists = lists; arrays = s.names.arrays; blocks = s.names.blocks }; numbers = s.numbers; arrays = s.arrays; locals = s.locals }) ≡ Ok t → Good extents t
  list_good s t lists p h = let is : lists_with s lists ≡ t = cc h in subst (Good extents) is (record { many = p.many; array = p.array; block = p.block })

  worths_then : (s t : Scope) (v : Value (List ℤ)) (next : List ℤ → Value Scope) → ((ns : List ℤ) → next ns ≡ Ok t → Good extents t)
      → and_then v next ≡ Ok t → Good extents t
  worths_then s t (Ok ns) next f h = f ns h
  worths_then s t (Err e) next f h = absurd (cc h)

  declared_good : (tunings : List Tuning) (s t : Scope) (d : Decl) → Good extents s → after_decl tunings s d ≡ Ok t → Good extents t
  declared_good tunings s t (decl.Tunable place name) p h = number_good s t (with_number s.numbers name (number_in (setting_of tunings name))) p h
  declared_good tunings s t (decl.List place name) p h = list_good s t (with_list s.names.lists name (list_in (setting_of tunings name))) p h
  declared_good tunings s t (decl.Local place elem name es) p h =
      worths_then s t (worths es s.numbers s.names.lists) (λ ns. local_at s place elem name (dims_of ns)) (λ ns g. local_good s t place elem name (dims_of ns) p g) h
  declared_good tunings s t (decl.Rchop place name array sizes) p h =
      worths_then s t (worths sizes s.numbers s.names.lists) (λ ns. with_chop s place name (λ es. Regular es ns) (array_of s array.name))
      (λ ns g. chopped_good s t place name array.name (λ es. Regular es ns) (λ e. refl) p (array_of s array.name) refl g) h
  declared_good tunings s t (decl.Ichop place name array starts ends) p h =
      chopped_good s t place name array.name (λ es. Irregular es (list_of s.names.lists starts.name) (list_of s.names.lists ends.name)) (λ e. refl) p (array_of s array.name) refl h

  one_declared : (tunings : List Tuning) (s t : Scope) (ds : List Decl) → ((u : Scope) → Good extents u → all_declared tunings u ds ≡ Ok t → Good extents t)
      → (v : Value Scope) → ((u : Scope) → v ≡ Ok u → Good extents u) → and_then v (λ u. all_declared tunings u ds) ≡ Ok t → Good extents t
  one_declared tunings s t ds rest (Ok u) f h = rest u (f u refl) h
  one_declared tunings s t ds rest (Err e) f h = absurd (cc h)

  pub all_good : (tunings : List Tuning) (ds : List Decl) (s t : Scope) → Good extents s → all_declared tunings s ds ≡ Ok t → Good extents t
  all_good tunings [] s t p h = let is : s ≡ t = cc h in subst (Good extents) is p
  all_good tunings (d ∷ ds) s t p h =
      one_declared tunings s t ds (λ u q g. all_good tunings ds u t q g) (after_decl tunings s d) (λ u e. declared_good tunings s u d p e) h

-- ---- parameters

-- the parameters so far are placed, and there are no locals
record Begun (done : List (List ℕ)) (s : Scope) : Type 0 where
  placed : Placed done s.names s.arrays
  alone : s.locals ≡ []

param_made : (done : List (List ℕ)) (s t : Scope) (p : Param) (dims : List ℕ) (o : Option Numbers) → Begun done s
    → option_map (λ numbers. param_scope s p dims numbers) o ≡ Some t → Begun (done ++ dims ∷ []) t
param_made done s t p dims None b h = absurd (cc h)
param_made done s t p dims (Some numbers) b h =
    let is : param_scope s p dims numbers ≡ t = cc h in
    subst (Begun (done ++ dims ∷ [])) is (record { placed = with_array_placed done s.names s.arrays p.name dims b.placed; alone = b.alone })

module _ (all : List (List ℕ)) where
  abbrev Rest : List Param → ℕ → Scope → Type 0
  Rest ps i t = (done : List (List ℕ)) (u : Scope) → Begun done u → params_from u ps (i + 1) all ≡ Some t → Begun (done ++ take (length ps) (drop (i + 1) all)) t

  param_next : (done : List (List ℕ)) (s t : Scope) (p : Param) (ps : List Param) (i : ℕ) (dims : List ℕ) → slice_get all i ≡ Some dims → Begun done s
      → Rest ps i t
      → (o : Option Scope) → param_at s p (Some dims) ≡ o → option_and_then (λ u. params_from u ps (i + 1) all) o ≡ Some t
      → Begun (done ++ take (suc (length ps)) (drop i all)) t
  param_next done s t p ps i dims there b rest None e h = absurd (cc h)
  param_next done s t p ps i dims there b rest (Some u) e h =
      let one = param_made done s u p dims (bind_from s.numbers p.extents 0 dims) b e in
      let at : drop i all ≡ dims ∷ drop (i + 1) all = next_at i all dims (within_list all i dims there) (sym (get_or_from_slice_get all i dims dims there)) in
      let more : done ++ take (suc (length ps)) (drop i all) ≡ (done ++ dims ∷ []) ++ take (length ps) (drop (i + 1) all) =
      ap (λ l. done ++ take (suc (length ps)) l) at ∙ sym (append_assoc done (dims ∷ []) (take (length ps) (drop (i + 1) all))) in
      subst (λ l. Begun l t) (sym more) (rest (done ++ dims ∷ []) u one h)

  param_there : (done : List (List ℕ)) (s t : Scope) (p : Param) (ps : List Param) (i : ℕ) → Begun done s → Rest ps i t
      → (o : Option (List ℕ)) → slice_get all i ≡ o → option_and_then (λ u. params_from u ps (i + 1) all) (param_at s p o) ≡ Some t
      → Begun (done ++ take (suc (length ps)) (drop i all)) t
  param_there done s t p ps i b rest None e h = absurd (cc h)
  param_there done s t p ps i b rest (Some dims) e h = param_next done s t p ps i dims e b rest (param_at s p (Some dims)) refl h

  params_begun : (ps : List Param) (i : ℕ) (done : List (List ℕ)) (s t : Scope) → Begun done s → params_from s ps i all ≡ Some t
      → Begun (done ++ take (length ps) (drop i all)) t
  params_begun [] i done s t b h = let is : s ≡ t = cc h in subst (λ l. Begun l t) (sym (append-nil done)) (subst (Begun done) is b)
  params_begun (p ∷ ps) i done s t b h =
      param_there done s t p ps i b (λ d u c g. params_begun ps (i + 1) d u t c g) (slice_get all i) refl h

none_placed : Begun [] empty_scope
none_placed = record { placed = record { many = refl; array = λ name a h. absurd (cc h); block = λ name b h. absurd (cc h) }; alone = refl }

pub begun_good : (extents : List (List ℕ)) (params : List Param) (begun : Scope) → params_from empty_scope params 0 extents ≡ Some begun
    → length extents ≡ length params → Good extents begun
begun_good extents params begun h many =
    let b : Begun (take (length params) (drop 0 extents)) begun = params_begun extents params 0 [] empty_scope begun none_placed h in
    let all : take (length params) (drop 0 extents) ≡ extents = take_all (length params) extents (omega (arith, many)) in
    let arrays : take (length params) (drop 0 extents) ≡ arrays_of extents begun.locals =
    all ∙ (sym (append-nil extents) ∙ ap (λ locals. arrays_of extents locals) (sym b.alone)) in
    subst (λ xs. Placed xs begun.names begun.arrays) arrays b.placed

-- ---- arguments

module _ (arrays : List (List ℕ)) (names : Names) (count : ℕ) (p : Placed arrays names count) where
  abbrev In : Block → Type 0
  In b = LiesIn arrays b.array b.rect

  whole_of : (b : Block) (name : Bytes) (a : Array) → lookup (same_name name) names.arrays ≡ Some a → (o : Option (List Span)) → spans.wholes a.extents ≡ o
      → of_array a.number o ≡ Some b → In b
  whole_of b name a e None w h = absurd (cc h)
  whole_of b name a e (Some rect) w h =
      let made : Block = record { array = a.number; rect = rect } in
      let is : made ≡ b = cc h in
      subst In is (record { extents = a.extents; there = p.array name a e; inside = wholes_in a.extents rect w })

  whole_in : (b : Block) (name : Bytes) (o : Option Array) → lookup (same_name name) names.arrays ≡ o → all_of_array o ≡ Some b → In b
  whole_in b name None e h = absurd (cc h)
  whole_in b name (Some a) e h = whole_of b name a e (spans.wholes a.extents) refl h

  block_made : (b : Block) (name : Bytes) (s : Blocks) (index : List ℤ) → lookup (same_name name) names.blocks ≡ Some s
      → (r : Result (List Span) ConstFault) → spans.block s.chop index ≡ r
      → of_block s.array r ≡ Some b → In b
  block_made b name s index e (Ok rect) w h =
      let made : Block = record { array = s.array; rect = rect } in
      let is : made ≡ b = cc h in
      subst In is (record { extents = blocks.extents_of s.chop; there = p.block name s e; inside = spans_in s.chop index rect w })
  block_made b name s index e (Err f) w h = absurd (cc h)

  block_there : (b : Block) (name : Bytes) (index : List ℤ) (o : Option Blocks) → lookup (same_name name) names.blocks ≡ o → block_of index o ≡ Some b → In b
  block_there b name index None e h = absurd (cc h)
  block_there b name index (Some s) e h = block_made b name s index e (spans.block s.chop index) refl h

  found_some : (a : ArgUse) (b : Block) (o : Option Block) → block_or_fault a o ≡ Ok b → o ≡ Some b
  found_some a b None h = absurd (cc h)
  found_some a b (Some c) h = let is : c ≡ b = cc h in ap Some is

  indexed : (a : ArgUse) (b : Block) (v : Value (List ℤ)) → and_then v (λ index. block_or_fault a (block_in names (out-ArgUse a).name index)) ≡ Ok b → In b
  indexed a b (Ok index) h =
      let name = (out-ArgUse a).name in
      block_there b name index (lookup (same_name name) names.blocks) refl (found_some a b (block_in names name index) h)
  indexed a b (Err f) h = absurd (cc h)

  block_lies : (numbers : Numbers) (a : ArgUse) (b : Block) (index : List Expr) → block_by names numbers a index ≡ Ok b → In b
  block_lies numbers a b [] h =
      let name = (out-ArgUse a).name in
      whole_in b name (lookup (same_name name) names.arrays) refl (found_some a b (whole_array names name) h)
  block_lies numbers a b (e ∷ es) h = indexed a b (worths (e ∷ es) numbers names.lists) h

  abbrev ArgumentIn : Argument → Type 0
  ArgumentIn x = LiesIn arrays x.array x.rect

  argument_made : (reduced : Option Bytes) (param : Option Param) (a : ArgUse) (x : Argument) (v : Value Block) → ((b : Block) → v ≡ Ok b → In b)
      → and_then v (λ b. argument_okay (record { mode = mode_of param; is_reduced = is_reduced reduced a; array = b.array; rect = b.rect })) ≡ Ok x
      → ArgumentIn x
  argument_made reduced param a x (Ok b) f h =
      let made : Argument = record { mode = mode_of param; is_reduced = is_reduced reduced a; array = b.array; rect = b.rect } in
      let is : made ≡ x = cc h in
      subst ArgumentIn is (f b refl)
  argument_made reduced param a x (Err e) f h = absurd (cc h)

  argument_lies : (numbers : Numbers) (reduced : Option Bytes) (param : Option Param) (a : ArgUse) (x : Argument)
      → argument names numbers reduced param a ≡ Ok x → ArgumentIn x
  argument_lies numbers reduced param a x h = argument_made reduced param a x (block names numbers a) (λ b e. block_lies numbers a b (out-ArgUse a).index e) h

  pub examined_lies : (numbers : Numbers) (reduced : Option Bytes) (params : List Param) (i : ℕ) (list : List ArgUse) (xs : List Argument)
      → AreExamined names numbers reduced params i list xs
      → (j : ℕ) (x : Argument) → slice_get xs j ≡ Some x → ArgumentIn x
  examined_lies numbers reduced params i [] [] h j x g = absurd (cc g)
  examined_lies numbers reduced params i [] (y ∷ xs) h j x g = absurd h
  examined_lies numbers reduced params i (a ∷ list) [] h j x g = absurd h
  examined_lies numbers reduced params i (a ∷ list) (y ∷ xs) h zero x g =
      let is : y ≡ x = cc g in subst ArgumentIn is (argument_lies numbers reduced (slice_get params i) a y h.0)
  examined_lies numbers reduced params i (a ∷ list) (y ∷ xs) h (suc j) x g = examined_lies numbers reduced params (i + 1) list xs h.1 j x g

pub arguments_lie_inside : ArgumentsLieInside
arguments_lie_inside variants mapping r k f x v begun binds many ran i c g j a at =
    let good = all_good f.extents x.tunings v.decls begun ran.scope (begun_good f.extents v.params begun binds many) ran.declared in
    let h = ran.reached i c g in
    examined_lies (arrays_of f.extents ran.scope.locals) ran.scope.names ran.scope.arrays good h.numbers h.site.reduced h.callee.params 0 h.call.args h.arguments h.examined j a at

-- ---- accesses

in_either : {A : Type 0} (xs ys : List A) (j : ℕ) (x : A) → slice_get (xs ++ ys) j ≡ Some x → (slice_get xs j ≡ Some x) ⊎ ((m : ℕ) × (slice_get ys m ≡ Some x))
in_either [] ys j x h = inr (j, h)
in_either (y ∷ xs) ys zero x h = inl h
in_either (y ∷ xs) ys (suc j) x h = in_either xs ys j x h

-- an access is one of a call's
record OfCall (calls : List Called) (u : Use) : Type 0 where
  index : ℕ
  call : Called
  there : slice_get calls index ≡ Some call
  number : ℕ
  position : ℕ
  is : slice_get (call.uses number) position ≡ Some u

of_call : (forms : Forms) (calls : List Called) (j : ℕ) (u : Use) → slice_get (uses_of forms calls) j ≡ Some u → OfCall calls u
of_call forms [] j u h = absurd (cc h)
of_call forms (c ∷ calls) j u h = elim (in_either (c.uses (form_number forms c.key)) (uses_of forms calls) j u h) [
  | inl here ↦ record { index = 0; call = c; there = refl; number = form_number forms c.key; position = j; is = here }
  | inr later ↦ let o = of_call forms calls later.0 u later.1 in record { index = suc o.index; call = o.call; there = o.there; number = o.number; position = o.position; is = o.is }
]

-- and so one of its arguments
record OfArgument (xs : List Argument) (u : Use) : Type 0 where
  index : ℕ
  argument_ : Argument
  there : slice_get xs index ≡ Some argument_
  array : u.array ≡ argument_.array
  rect : u.rect ≡ argument_.rect

of_argument : (site : CallSite) (callee i : ℕ) (xs : List Argument) (j : ℕ) (u : Use) → slice_get (uses_from site callee i xs) j ≡ Some u → OfArgument xs u
of_argument site callee i [] j u h = absurd (cc h)
of_argument site callee i (x ∷ xs) zero u h =
    let made : Use = record { call = site.call; arg = i; iterations = site.iterations; array = x.array; rect = x.rect; mode = x.mode; callee = callee } in
    let is : made ≡ u = cc h in
    record { index = 0; argument_ = x; there = refl; array = sym (ap (λ (w : Use). w.array) is); rect = sym (ap (λ (w : Use). w.rect) is) }
of_argument site callee i (x ∷ xs) (suc j) u h =
    let o = of_argument site callee (i + 1) xs j u h in record { index = suc o.index; argument_ = o.argument_; there = o.there; array = o.array; rect = o.rect }

pub accesses_lie_inside : AccessesLieInside
accesses_lie_inside variants mapping r k f x v begun binds many ran uses there j u at =
    let arrays = arrays_of f.extents ran.scope.locals in
    let calls = calls_in (steps_of variants mapping.instances x v k f ran.scope) in
    let same_uses : uses ≡ uses_of r.found calls = some_same uses (uses_of r.found calls) (sym there ∙ ran.uses) in
    let o = of_call r.found calls j u (sym (ap (λ (l : List Use). slice_get l j) same_uses) ∙ at) in
    let h = ran.reached o.index o.call o.there in
    let q = of_argument h.site o.number 0 h.arguments o.position u (sym (ap (λ (d : Called). slice_get (d.uses o.number) o.position) h.is) ∙ o.is) in
    let lies = arguments_lie_inside variants mapping r k f x v begun binds many ran o.index o.call o.there q.index q.argument_ q.there in
    subst (λ n. LiesIn arrays n u.rect) (sym q.array) (subst (λ s. LiesIn arrays q.argument_.array s) (sym q.rect) lies)
