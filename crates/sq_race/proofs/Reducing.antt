-- The argument of a call that is the array that is reduced into: the only one of that name, whole.
use Rattle.std.proofs.Common.{◌≡◌, ℕ, zero, suc, ◌+◌, ◌≤◌, ◌==◌, ◌&&◌, ◌||◌, if◌then◌else◌, Bool, true, false, List, [], ◌∷◌, length, Option, Some, None, Ok, Err, refl, sym, ◌∙◌, ap, subst, arith}
use Rattle.std.specs.Prelude.{slice_get}
use Rattle.std.specs.Map.{lookup}
use Rattle.std.proofs.lemmas.Bool.Decides.{nat_tests}
use Rattle.sq_text.specs.declared.place.Span.{Span}
use Rattle.sq_text.specs.Names.{Bytes, same_name}
use Rattle.sq_ast.specs.declared.expr.ArgUse.{ArgUse, out-ArgUse}
use Rattle.sq_ast.specs.declared.expr.Expr.{Expr}
use Rattle.sq_ast.specs.declared.program.Param.{Param}
use Rattle.sq_mapping.proofs.Same.{same}
use Rattle.sq_types.specs.Known.{Known, kind_of}
use Rattle.sq_types.specs.Table.{is_block_of, uses_of, keeps_both, has_whole}
use Rattle.sq_types.specs.Sound.{may_be_reduced, may_write}
use Rattle.sq_blocks.specs.Names.{Numbers}
use Rattle.sq_blocks.specs.Spans.{wholes}
use Rattle.sq_blocks.specs.declared.argument.Argument.{Argument}
use Rattle.sq_forms.specs.declared.args.Block.{Block}
use Rattle.sq_forms.specs.declared.known.Array.{Array}
use Rattle.sq_forms.specs.Faults.{Value, and_then}
use Rattle.sq_forms.specs.Args.{Names, of_array, all_of_array, whole_array, block_or_fault, block_by, argument, mode_of, is_reduced}
use Rattle.sq_form_laws.specs.Reached.{AreExamined}
use Rattle.sq_race.specs.Table.{position_from}
use Rattle.sq_race.proofs.Wholes.{both}

-- the argument of this name among those from the `from`-th on
pub record WholeAt (name : Bytes) (params : Option (List Param)) (from : ℕ) (args : List ArgUse) : Type 0 where
  pub index : ℕ
  pub own : ArgUse
  pub there : slice_get args index ≡ Some own
  pub named : (out-ArgUse own).name ≡ name
  pub alone : (out-ArgUse own).index ≡ []
  pub keeps : keeps_both params (from + index) ≡ true
  pub first : position_from name args from ≡ Some (from + index)

no_items : {A : Type 0} (xs : List A) → (length xs == 0) ≡ true → xs ≡ []
no_items [] h = refl
no_items (x ∷ xs) h = absurd (grind (arith, nat_tests))

is_equal : (m n : ℕ) → (m == n) ≡ true → m ≡ n
is_equal m n h = grind (arith, nat_tests)

module _ (known : Known) (name : Bytes) (params : Option (List Param)) where
  some_counted : (s b l k w : Bool) (n : ℕ) → (w ≡ true → 1 ≤ n) → ((s && l && k) || w) ≡ true → 1 ≤ (if s || b then 1 else 0) + n
  some_counted true b l k w n f h = omega arith
  some_counted false true l k w n f h = omega arith
  some_counted false false l k w n f h = let e = f h in omega (arith, e)

  has_some : (args : List ArgUse) (i : ℕ) → has_whole name params i args ≡ true → 1 ≤ uses_of known name args
  has_some [] i h = absurd (cc h)
  has_some (a ∷ rest) i h =
      some_counted (same_name (out-ArgUse a).name name) (is_block_of name (kind_of known (out-ArgUse a).name)) (length (out-ArgUse a).index == 0)
      (keeps_both params i) (has_whole name params (i + 1) rest) (uses_of known name rest) (has_some rest (i + 1)) h

  here : (a : ArgUse) (rest : List ArgUse) (i : ℕ) → same_name (out-ArgUse a).name name ≡ true → (length (out-ArgUse a).index == 0) ≡ true
      → keeps_both params i ≡ true → WholeAt name params i (a ∷ rest)
  here a rest i e none keeps =
      let z : i ≡ i + 0 = omega arith in record {
        index = 0;
        own = a;
        there = refl;
        named = same (out-ArgUse a).name name e;
        alone = no_items (out-ArgUse a).index none;
        keeps = sym (ap (keeps_both params) z) ∙ keeps;
        first = ap (λ b. if b then Some i else position_from name rest (i + 1)) e ∙ ap Some z;
      }

  behind : (a : ArgUse) (rest : List ArgUse) (i : ℕ) → same_name (out-ArgUse a).name name ≡ false → WholeAt name params (i + 1) rest
      → WholeAt name params i (a ∷ rest)
  behind a rest i e r =
      let z : i + 1 + r.index ≡ i + suc r.index = omega arith in record {
        index = suc r.index;
        own = r.own;
        there = r.there;
        named = r.named;
        alone = r.alone;
        keeps = sym (ap (keeps_both params) z) ∙ r.keeps;
        first = ap (λ b. if b then Some i else position_from name rest (i + 1)) e ∙ (r.first ∙ ap Some z);
      }

  whole_by : (a : ArgUse) (rest : List ArgUse) (i : ℕ)
      → (has_whole name params (i + 1) rest ≡ true → uses_of known name rest ≤ 1 → WholeAt name params (i + 1) rest)
      → (s b l k : Bool) → same_name (out-ArgUse a).name name ≡ s → (length (out-ArgUse a).index == 0) ≡ l → keeps_both params i ≡ k
      → ((s && l && k) || has_whole name params (i + 1) rest) ≡ true → (if s || b then 1 else 0) + uses_of known name rest ≤ 1
      → WholeAt name params i (a ∷ rest)
  whole_by a rest i more true b true true s l k h one = here a rest i s l k
  whole_by a rest i more true b true false s l k h one = let e = has_some rest (i + 1) h in absurd (omega (arith, e, one))
  whole_by a rest i more true b false k' s l k h one = let e = has_some rest (i + 1) h in absurd (omega (arith, e, one))
  whole_by a rest i more false true l' k' s l k h one = behind a rest i s (more h (omega (arith, one)))
  whole_by a rest i more false false l' k' s l k h one = behind a rest i s (more h (omega (arith, one)))

  whole_at : (args : List ArgUse) (i : ℕ) → has_whole name params i args ≡ true → uses_of known name args ≤ 1 → WholeAt name params i args
  whole_at [] i h one = absurd (cc h)
  whole_at (a ∷ rest) i h one =
      whole_by a rest i (whole_at rest (i + 1)) (same_name (out-ArgUse a).name name) (is_block_of name (kind_of known (out-ArgUse a).name))
      (length (out-ArgUse a).index == 0) (keeps_both params i) refl refl refl h one

  pub reduced_at : (args : List ArgUse) → may_be_reduced params args name known ≡ true → WholeAt name params 0 args
  reduced_at args h =
      let a = both (may_write (kind_of known name)) (uses_of known name args == 1 && has_whole name params 0 args) h in
      let b = both (uses_of known name args == 1) (has_whole name params 0 args) a.1 in
      let one = is_equal (uses_of known name args) 1 b.0 in
      whole_at args 0 b.1 (omega (arith, one))

-- ---- what it is

-- the argument in a position
module _ (names : Names) (numbers : Numbers) (reduced : Option Bytes) (params : List Param) where
  abbrev ArgumentAt : List Argument → ℕ → ℕ → ArgUse → Type 0
  ArgumentAt xs j i a = (x : Argument) × (slice_get xs j ≡ Some x) × (argument names numbers reduced (slice_get params i) a ≡ Ok x)

  pub examined_at : (i : ℕ) (args : List ArgUse) (xs : List Argument) → AreExamined names numbers reduced params i args xs → (j : ℕ) (a : ArgUse)
      → slice_get args j ≡ Some a → ArgumentAt xs j (i + j) a
  examined_at i [] xs h j a g = absurd (cc g)
  examined_at i (b ∷ args) [] h j a g = absurd h
  examined_at i (b ∷ args) (x ∷ xs) h zero a g =
      let e : b ≡ a = cc g in
      let z : i ≡ i + 0 = omega arith in
      subst (λ k. ArgumentAt (x ∷ xs) 0 k a) z (subst (ArgumentAt (x ∷ xs) 0 i) e (x, refl, h.0))
  examined_at i (b ∷ args) (x ∷ xs) h (suc j) a g =
      let r = examined_at (i + 1) args xs h.1 j a g in
      let z : i + 1 + j ≡ i + suc j = omega arith in
      subst (λ k. ArgumentAt (x ∷ xs) (suc j) k a) z r

-- an argument that is a whole array
pub record IsWhole (names : Names) (name : Bytes) (param : Option Param) (x : Argument) : Type 0 where
  pub array_ : Array
  pub there : lookup (same_name name) names.arrays ≡ Some array_
  pub number : x.array ≡ array_.number
  pub all : wholes array_.extents ≡ Some x.rect
  pub mode : x.mode ≡ mode_of param

module _ (names : Names) (numbers : Numbers) (reduced : Option Bytes) (param : Option Param) (a : ArgUse) (x : Argument) where
  abbrev made : Block → Argument
  made b = record { mode = mode_of param; is_reduced = is_reduced reduced a; array = b.array; rect = b.rect }

  abbrev okay : Argument → Value Argument
  okay y = Ok y

  abbrev placed : Block → Value Block
  placed b = Ok b

  by_rect : (c : Array) (b : Block) (o : Option (List Span)) → lookup (same_name (out-ArgUse a).name) names.arrays ≡ Some c → wholes c.extents ≡ o
      → block_or_fault a (of_array c.number o) ≡ Ok b → okay (made b) ≡ Ok x → IsWhole names (out-ArgUse a).name param x
  by_rect c b None e w h g = absurd (cc h)
  by_rect c b (Some rect) e w h g =
      let own : Block = record { array = c.number; rect = rect } in
      let same_block : own ≡ b = cc h in
      let same_argument : made b ≡ x = cc g in
      let is : made own ≡ x = ap made same_block ∙ same_argument in
      record {
        array_ = c;
        there = e;
        number = sym (ap (λ (y : Argument). y.array) is);
        all = w ∙ ap (λ (y : Argument). Some y.rect) is;
        mode = sym (ap (λ (y : Argument). y.mode) is);
      }

  by_array : (b : Block) (o : Option Array) → lookup (same_name (out-ArgUse a).name) names.arrays ≡ o → block_or_fault a (all_of_array o) ≡ Ok b → okay (made b) ≡ Ok x
      → IsWhole names (out-ArgUse a).name param x
  by_array b None e h g = absurd (cc h)
  by_array b (Some c) e h g = by_rect c b (wholes c.extents) e refl h g

  by_block : (v : Value Block) → block_or_fault a (whole_array names (out-ArgUse a).name) ≡ v → and_then v (λ b. okay (made b)) ≡ Ok x
      → IsWhole names (out-ArgUse a).name param x
  by_block (Ok b) e h = by_array b (lookup (same_name (out-ArgUse a).name) names.arrays) refl e h
  by_block (Err f) e h = absurd (cc h)

  by_index : (index : List Expr) → index ≡ [] → and_then (block_by names numbers a index) (λ b. okay (made b)) ≡ Ok x
      → IsWhole names (out-ArgUse a).name param x
  by_index [] e h = by_block (block_or_fault a (whole_array names (out-ArgUse a).name)) refl h
  by_index (y ∷ ys) e h = absurd (cc e)

  pub is_whole : (out-ArgUse a).index ≡ [] → argument names numbers reduced param a ≡ Ok x → IsWhole names (out-ArgUse a).name param x
  is_whole e h = by_index (out-ArgUse a).index e h
