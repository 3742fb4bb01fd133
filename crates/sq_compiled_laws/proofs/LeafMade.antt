-- How a form's numbers are made: by its parameters' extents and its tunables, each name where it first stands.
use Rattle.std.proofs.Common.{◌≡◌, ℕ, ◌+◌, Bool, true, false, ◌||◌, cond, ℤ, pos, List, [], ◌∷◌, ◌++◌, map}
use Rattle.std.proofs.Common.{Option, Some, None, option_map, is_some, Ok, Err, refl, sym, ap, ◌∙◌, subst}
use Rattle.std.specs.Prelude.{slice_get, if◌then◌else◌, is_err}
use Rattle.std.specs.Option.{option_and_then}
use Rattle.std.specs.List.{flat_map}
use Rattle.std.specs.Map.{lookup}
use Rattle.std.specs.Ordering.{int_eq}
use Rattle.sq_text.specs.Names.{Bytes, same_name}
use Rattle.sq_text.specs.declared.fault.Fault.{Fault}
use Rattle.sq_text.specs.declared.place.Place.{Place}
use Rattle.sq_text.specs.declared.word.Word.{Word}
use Rattle.sq_num.specs.declared.Elem.{Elem}
use Rattle.sq_ast.specs.declared.expr.Expr.{Expr}
use Rattle.sq_ast.specs.declared.program.Decl.{Decl}
use Rattle.sq_ast.specs.declared.program.Decl.TheVariants as decl
use Rattle.sq_ast.specs.declared.program.Extent.{Extent}
use Rattle.sq_ast.specs.declared.program.Extent.TheVariants as extent
use Rattle.sq_ast.specs.declared.program.Param.{Param}
use Rattle.sq_ast.specs.declared.program.Variant.{Variant}
use Rattle.sq_blocks.specs.Names.{Numbers, list_of, with_number}
use Rattle.sq_blocks.specs.Spans.{judged}
use Rattle.sq_blocks.specs.declared.chop.Chop.{Chop}
use Rattle.sq_blocks.specs.declared.chop.Chop.TheVariants.{Regular, Irregular}
use Rattle.sq_mapping.specs.declared.mapping.Tuning.{Tuning}
use Rattle.sq_forms.specs.declared.known.Array.{Array}
use Rattle.sq_forms.specs.Faults.{Value, and_then}
use Rattle.sq_forms.specs.Args.{Names, worths}
use Rattle.sq_forms.specs.Calls.{with_size, bind_extent, bind_there, bind_from}
use Rattle.sq_forms.specs.Tables.{setting_of}
use Rattle.sq_forms.specs.Decls.{Scope, empty_scope, with_array, with_blocks, with_chop, array_of, local_at, dims_of}
use Rattle.sq_forms.specs.Decls.{number_in, after_decl, all_declared, param_at, params_from}
use Rattle.sq_form_laws.proofs.Shapes.{KeptIn, there_kept}
use Rattle.sq_planfile.specs.Written.{sizes_in, tunables_in, names_in, has, firsts}
use Rattle.sq_compiled_laws.proofs.LeafNames.{after, firsts_joined, flips}

-- ---- the names of numbers

abbrev pub names_of : Numbers → List Bytes
names_of numbers = map (λ e. e.0) numbers

names_last : (numbers : Numbers) (name : Bytes) (n : ℤ) → names_of (numbers ++ (name, n) ∷ [])
    ≡ names_of numbers ++ name ∷ []
names_last [] name n = refl
names_last (e ∷ numbers) name n = ap (λ l. e.0 ∷ l) (names_last numbers name n)

found_by : (a b c : Bool) (n : ℤ) (o : Option ℤ) → a ≡ b → c ≡ is_some o → (a || c) ≡ is_some (cond b (Some n) o)
found_by true true c n o e f = refl
found_by false false c n o e f = f
found_by true false c n o e f = absurd (cc e)
found_by false true c n o e f = absurd (cc e)

found : (numbers : Numbers) (name : Bytes) → has (names_of numbers) name ≡ is_some (lookup (same_name name) numbers)
found [] name = refl
found (e ∷ numbers) name =
    found_by (same_name e.0 name) (same_name name e.0) (has (names_of numbers) name) e.1
    (lookup (same_name name) numbers) (flips e.0 name) (found numbers name)

with_after : (numbers : Numbers) (name : Bytes) (n : ℤ) → names_of (with_number numbers name n)
    ≡ after (names_of numbers) name
with_after numbers name n =
    by (is_some (lookup (same_name name) numbers))
    ∙ ap (λ b. if b then names_of numbers else names_of numbers ++ name ∷ []) (sym (found numbers name))
  where
    by : (b : Bool) → names_of (if b then numbers else numbers ++ (name, n) ∷ [])
        ≡ (if b then names_of numbers else names_of numbers ++ name ∷ [])
    by true = refl
    by false = names_last numbers name n

-- ---- more numbers

-- each number is so
abbrev pub Each : (ℤ → Type 0) → Numbers → Type 0
Each P [] = Unit {0}
Each P (e ∷ numbers) = P e.1 × Each P numbers

each_last : (P : ℤ → Type 0) (numbers : Numbers) (name : Bytes) (n : ℤ) → Each P numbers → P n
    → Each P (numbers ++ (name, n) ∷ [])
each_last P [] name n h p = (p, tt)
each_last P (e ∷ numbers) name n h p = (h.0, each_last P numbers name n h.1 p)

-- Numbers with those of more names: each where it first stands; each is so where those before were.
pub record Made (P : ℤ → Type 0) (numbers more : Numbers) (names : List Bytes) : Type 0 where
  pub named : names_of more ≡ firsts (names_of numbers) names
  pub kept : KeptIn numbers more
  pub each : Each P numbers → Each P more

if_some : {A : Type 0} (b : Bool) (a c : A) → (if b then Some a else None) ≡ Some c → a ≡ c
if_some true a c h = cc h
if_some false a c h = absurd (cc h)

module _ (P : ℤ → Type 0) where
  same_made : (numbers more : Numbers) → numbers ≡ more → Made P numbers more []
  same_made numbers more is = subst (λ l. Made P numbers l []) is
      (record { named = refl; kept = λ name m h. h; each = λ h. h })

  joined_made : (numbers mid more : Numbers) (xs ys : List Bytes) → Made P numbers mid xs → Made P mid more ys
      → Made P numbers more (xs ++ ys)
  joined_made numbers mid more xs ys a b = record {
    named = b.named ∙ (ap (λ l. firsts l ys) a.named ∙ sym (firsts_joined (names_of numbers) xs ys));
    kept = λ name m h. b.kept name m (a.kept name m h);
    each = λ h. b.each (a.each h);
  }

  number_made : (numbers : Numbers) (name : Bytes) (n : ℤ) → P n
      → Made P numbers (with_number numbers name n) (name ∷ [])
  number_made numbers name n p = record {
    named = with_after numbers name n;
    kept = kept (is_some (lookup (same_name name) numbers));
    each = each (is_some (lookup (same_name name) numbers));
  }
    where
      kept : (b : Bool) → KeptIn numbers (if b then numbers else numbers ++ (name, n) ∷ [])
      kept true other m h = h
      kept false other m h = there_kept other numbers ((name, n) ∷ []) m h

      each : (b : Bool) → Each P numbers → Each P (if b then numbers else numbers ++ (name, n) ∷ [])
      each true h = h
      each false h = each_last P numbers name n h p

  -- ---- sizes

  size_made : (sizes more : Numbers) (name : Bytes) (n : ℕ) → P (pos n) → (o : Option ℤ)
      → lookup (same_name name) sizes ≡ o → with_size sizes name n o ≡ Some more → Made P sizes more (name ∷ [])
  size_made sizes more name n p None e h =
      let is : with_number sizes name (pos n) ≡ more = cc h in
      subst (λ l. Made P sizes l (name ∷ [])) is (number_made sizes name (pos n) p)
  size_made sizes more name n p (Some m) e h =
      subst (λ l. Made P sizes l (name ∷ [])) (if_some (int_eq m (pos n)) sizes more h) (record {
        named = ap (λ b. if b then names_of sizes else names_of sizes ++ name ∷ [])
            (sym (found sizes name ∙ ap is_some e));
        kept = λ other k g. g;
        each = λ g. g;
      })

  extent_made : (sizes more : Numbers) (e : Extent) (n : ℕ) → P (pos n) → bind_extent sizes e n ≡ Some more
      → Made P sizes more (sizes_in e)
  extent_made sizes more (extent.Size place name) n p h
      = size_made sizes more name n p (lookup (same_name name) sizes) refl h
  extent_made sizes more (extent.Fixed place m) n p h = same_made sizes more (if_some (int_eq m (pos n)) sizes more h)

  -- these extents are so
  abbrev pub EachExtent : List ℕ → Type 0
  EachExtent ns = (i n : ℕ) → slice_get ns i ≡ Some n → P (pos n)

  module _ (ns : List ℕ) (ps : EachExtent ns) where
    abbrev SizesRest : List Extent → ℕ → Numbers → Type 0
    SizesRest es i more = (mid : Numbers) → bind_from mid es i ns ≡ Some more
        → Made P mid more (flat_map sizes_in es)

    sizes_rest : (sizes more : Numbers) (e : Extent) (es : List Extent) (i n : ℕ) → P (pos n)
        → SizesRest es (i + 1) more → (o : Option Numbers) → bind_extent sizes e n ≡ o
        → option_and_then (λ mid. bind_from mid es (i + 1) ns) o ≡ Some more
        → Made P sizes more (flat_map sizes_in (e ∷ es))
    sizes_rest sizes more e es i n p rest None is h = absurd (cc h)
    sizes_rest sizes more e es i n p rest (Some mid) is h =
        joined_made sizes mid more (sizes_in e) (flat_map sizes_in es) (extent_made sizes mid e n p is) (rest mid h)

    sizes_there : (sizes more : Numbers) (e : Extent) (es : List Extent) (i : ℕ) → SizesRest es (i + 1) more
        → (o : Option ℕ) → slice_get ns i ≡ o
        → option_and_then (λ mid. bind_from mid es (i + 1) ns) (bind_there sizes e o) ≡ Some more
        → Made P sizes more (flat_map sizes_in (e ∷ es))
    sizes_there sizes more e es i rest None is h = absurd (cc h)
    sizes_there sizes more e es i rest (Some n) is h =
        sizes_rest sizes more e es i n (ps i n is) rest (bind_extent sizes e n) refl h

    pub sizes_made : (es : List Extent) (i : ℕ) (more sizes : Numbers) → bind_from sizes es i ns ≡ Some more
        → Made P sizes more (flat_map sizes_in es)
    sizes_made [] i more sizes h = let is : sizes ≡ more = cc h in same_made sizes more is
    sizes_made (e ∷ es) i more sizes h =
        sizes_there sizes more e es i (λ mid g. sizes_made es (i + 1) more mid g) (slice_get ns i) refl h

  -- ---- parameters

  abbrev sizes_of : List Param → List Bytes
  sizes_of ps = flat_map (λ p. flat_map sizes_in p.extents) ps

  module _ (all : List (List ℕ)) (each : (i : ℕ) (dims : List ℕ) → slice_get all i ≡ Some dims → EachExtent dims)
    where
      abbrev ParamsRest : List Param → ℕ → Scope → Type 0
      ParamsRest ps i t = (u : Scope) → params_from u ps i all ≡ Some t → Made P u.numbers t.numbers (sizes_of ps)

      abbrev param_scope : Scope → Param → List ℕ → Numbers → Scope
      param_scope s p dims numbers = record {
        names = with_array s.names p.name (record { number = s.arrays; extents = dims });
        numbers = numbers;
        arrays = s.arrays + 1;
        locals = s.locals;
      }

      param_bound : (s t : Scope) (p : Param) (ps : List Param) (i : ℕ) (dims : List ℕ) → EachExtent dims
          → ParamsRest ps (i + 1) t → (o : Option Numbers) → bind_from s.numbers p.extents 0 dims ≡ o
          → option_and_then (λ u. params_from u ps (i + 1) all)
          (option_map (λ numbers. param_scope s p dims numbers) o) ≡ Some t
          → Made P s.numbers t.numbers (sizes_of (p ∷ ps))
      param_bound s t p ps i dims own rest None e h = absurd (cc h)
      param_bound s t p ps i dims own rest (Some mid) e h =
          joined_made s.numbers mid t.numbers (flat_map sizes_in p.extents) (sizes_of ps)
          (sizes_made dims own p.extents 0 mid s.numbers e) (rest (param_scope s p dims mid) h)

      param_there : (s t : Scope) (p : Param) (ps : List Param) (i : ℕ) → ParamsRest ps (i + 1) t
          → (o : Option (List ℕ)) → slice_get all i ≡ o
          → option_and_then (λ u. params_from u ps (i + 1) all) (param_at s p o) ≡ Some t
          → Made P s.numbers t.numbers (sizes_of (p ∷ ps))
      param_there s t p ps i rest None is h = absurd (cc h)
      param_there s t p ps i rest (Some dims) is h =
          param_bound s t p ps i dims (each i dims is) rest (bind_from s.numbers p.extents 0 dims) refl h

      params_made : (ps : List Param) (i : ℕ) (t s : Scope) → params_from s ps i all ≡ Some t
          → Made P s.numbers t.numbers (sizes_of ps)
      params_made [] i t s h =
          let is : s ≡ t = cc h in same_made s.numbers t.numbers (ap (λ (u : Scope). u.numbers) is)
      params_made (p ∷ ps) i t s h =
          param_there s t p ps i (λ u g. params_made ps (i + 1) t u g) (slice_get all i) refl h

-- ---- declarations

abbrev okay : Scope → Value Scope
okay s = Ok s

pub same_scope : (s t : Scope) → okay s ≡ Ok t → s ≡ t
same_scope s t h = cc h

-- where names stand for other arrays and blocks
abbrev renamed : Scope → Names → Scope
renamed s names = record { names = names; numbers = s.numbers; arrays = s.arrays; locals = s.locals }

-- a part of scopes that these don't change
module _ {A : Type 0} (of : Scope → A) (kept : (s : Scope) (names : Names) → of s ≡ of (renamed s names)) where
  -- it is this one, where there is a scope
  abbrev pub Keeps : A → Value Scope → Type 0
  Keeps a v = (t : Scope) → v ≡ Ok t → a ≡ of t

  pub okay_keeps : (s : Scope) → Keeps (of s) (okay s)
  okay_keeps s t h = ap of (same_scope s t h)

  blocks_keep : (s : Scope) (place : Place) (name : Bytes) (array : ℕ) (chop : Chop)
      → Keeps (of s) (with_blocks s place name array chop)
  blocks_keep s place name array chop t h = by (is_err (judged chop)) _ _ (kept s _) h
    where
      by : (b : Bool) (x : Fault) (u : Scope) → of s ≡ of u → (if b then Err x else okay u) ≡ Ok t → of s ≡ of t
      by true x u e g = absurd (cc g)
      by false x u e g = e ∙ okay_keeps u t g

  pub chop_keeps : (s : Scope) (place : Place) (name : Bytes) (chop : List ℕ → Chop) (o : Option Array)
      → Keeps (of s) (with_chop s place name chop o)
  chop_keeps s place name chop None t h = absurd (cc h)
  chop_keeps s place name chop (Some a) t h = blocks_keep s place name a.number (chop a.extents) t h

  pub then_keeps : (a : A) (v : Value (List ℤ)) (next : List ℤ → Value Scope)
      → ((zs : List ℤ) → Keeps a (next zs)) → Keeps a (and_then v next)
  then_keeps a (Err x) next f t h = absurd (cc h)
  then_keeps a (Ok zs) next f t h = f zs t h

  pub rchop_keeps : (tunings : List Tuning) (s : Scope) (place : Place) (name : Bytes) (array : Word) (es : List Expr)
      → Keeps (of s) (after_decl tunings s (decl.Rchop place name array es))
  rchop_keeps tunings s place name array es t h =
      then_keeps (of s) (worths es s.numbers s.names.lists)
      (λ ns. with_chop s place name (λ extents. Regular extents ns) (array_of s array.name))
      (λ ns. chop_keeps s place name (λ extents. Regular extents ns) (array_of s array.name)) t h

  pub ichop_keeps : (tunings : List Tuning) (s : Scope) (place : Place) (name : Bytes) (array starts ends : Word)
      → Keeps (of s) (after_decl tunings s (decl.Ichop place name array starts ends))
  ichop_keeps tunings s place name array starts ends t h =
      chop_keeps s place name
      (λ extents. Irregular extents (list_of s.names.lists starts.name) (list_of s.names.lists ends.name))
      (array_of s array.name) t h

abbrev in_scope : Scope → Numbers
in_scope s = s.numbers

local_keeps : (s : Scope) (place : Place) (elem : Elem) (name : Bytes) (o : Option (List ℕ)) (t : Scope)
    → local_at s place elem name o ≡ Ok t → s.numbers ≡ t.numbers
local_keeps s place elem name None t h = absurd (cc h)
local_keeps s place elem name (Some dims) t h = ap in_scope (same_scope _ t h)

module _ (P : ℤ → Type 0) (tunings : List Tuning) (each : (name : Bytes) → P (number_in (setting_of tunings name)))
  where
    decl_made : (s t : Scope) (d : Decl) → after_decl tunings s d ≡ Ok t
        → Made P s.numbers t.numbers (tunables_in d)
    decl_made s t (decl.Tunable place name) h =
        subst (λ l. Made P s.numbers l (name ∷ [])) (ap in_scope (same_scope _ t h))
        (number_made P s.numbers name (number_in (setting_of tunings name)) (each name))
    decl_made s t (decl.List place name) h = same_made P s.numbers t.numbers (ap in_scope (same_scope _ t h))
    decl_made s t (decl.Local place elem name es) h =
        same_made P s.numbers t.numbers
        (then_keeps in_scope (λ u names. refl) s.numbers (worths es s.numbers s.names.lists)
        (λ ns. local_at s place elem name (dims_of ns)) (λ ns. local_keeps s place elem name (dims_of ns)) t h)
    decl_made s t (decl.Rchop place name array es) h =
        same_made P s.numbers t.numbers (rchop_keeps in_scope (λ u names. refl) tunings s place name array es t h)
    decl_made s t (decl.Ichop place name array starts ends) h =
        same_made P s.numbers t.numbers
        (ichop_keeps in_scope (λ u names. refl) tunings s place name array starts ends t h)

    decl_rest : (s t : Scope) (d : Decl) (ds : List Decl)
        → ((u : Scope) → all_declared tunings u ds ≡ Ok t → Made P u.numbers t.numbers (flat_map tunables_in ds))
        → (v : Value Scope) → after_decl tunings s d ≡ v → and_then v (λ u. all_declared tunings u ds) ≡ Ok t
        → Made P s.numbers t.numbers (flat_map tunables_in (d ∷ ds))
    decl_rest s t d ds rest (Err x) e h = absurd (cc h)
    decl_rest s t d ds rest (Ok u) e h =
        joined_made P s.numbers u.numbers t.numbers (tunables_in d) (flat_map tunables_in ds) (decl_made s u d e)
        (rest u h)

    pub decls_made : (ds : List Decl) (t s : Scope) → all_declared tunings s ds ≡ Ok t
        → Made P s.numbers t.numbers (flat_map tunables_in ds)
    decls_made [] t s h = same_made P s.numbers t.numbers (ap in_scope (same_scope s t h))
    decls_made (d ∷ ds) t s h =
        decl_rest s t d ds (λ u g. decls_made ds t u g) (after_decl tunings s d) refl h

    -- The numbers that are known at the end of a variant's declarations have its names, each once, in the text's order.
    pub numbers_made : (v : Variant) (extents : List (List ℕ)) (begun scope : Scope)
        → ((i : ℕ) (dims : List ℕ) → slice_get extents i ≡ Some dims → EachExtent P dims)
        → params_from empty_scope v.params 0 extents ≡ Some begun → all_declared tunings begun v.decls ≡ Ok scope
        → Made P [] scope.numbers (names_in v)
    numbers_made v extents begun scope ps b d =
        joined_made P [] begun.numbers scope.numbers (sizes_of P v.params) (flat_map tunables_in v.decls)
        (params_made P extents ps v.params 0 begun empty_scope b) (decls_made v.decls scope begun d)
