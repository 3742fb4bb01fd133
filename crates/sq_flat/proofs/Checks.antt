-- What the tests of forms show.
use Rattle.std.proofs.Common.{arith, ◌≡◌, ◌∙◌, sym, ap, ap₂, subst, refl, ℕ, zero, suc, ◌+◌, ◌<◌, nat_eq, nat_lt, nat_le, Bool, true, false, ◌&&◌, List, [], ◌∷◌, ◌++◌, map, length, slice_get, Option, Some, None}
use Rattle.std.proofs.lemmas.Bool.{ltb-true, leb-true, eqb-true}
use Rattle.sq_num.specs.declared.Elem.{Elem}
use Rattle.sq_num.specs.declared.Elem.TheVariants.{Byte, Int, Long}
use Rattle.sq_num.specs.Elements.{width}
use Rattle.sq_text.specs.declared.place.Span.{Span}
use Rattle.sq_rect.specs.declared.view.View.{View}
use Rattle.sq_rect.specs.Extents.{product, row_major}
use Rattle.sq_leaf.specs.Views.{shape_of}
use Rattle.sq_blocks.specs.declared.argument.Argument.{Argument}
use Rattle.sq_spec.specs.declared.statement.CallInstance.{CallInstance}
use Rattle.sq_spec.specs.declared.statement.Statement.{Statement}
use Rattle.sq_blocks.specs.Arguments.{lengths}
use Rattle.sq_spec.specs.declared.body.Body.{Body}
use Rattle.sq_spec.specs.declared.body.Body.TheVariants as body
use Rattle.sq_flat.specs.declared.form.FormCode.{FormCode}
use Rattle.sq_flat.specs.Blocks.{Fits}
use Rattle.sq_flat.specs.Memory.{size, lined, ArgFits}
use Rattle.sq_flat.specs.Ready.{rows_in, rows_of, RowFits, RowsFit, IsLine, IsBody, IsForm, AreForms}
use Rattle.sq_flat.specs.Checked.{same_numbers, is_at, are_lined, are_inside, is_block, are_blocks, reaches, rows_fit, body_fits, is_form, are_forms}
use Rattle.sq_flat.proofs.Fitting.{same_some}

first : (a b : Bool) → (a && b) ≡ true → a ≡ true
first true b h = refl
first false b h = h

second : (a b : Bool) → (a && b) ≡ true → b ≡ true
second true b h = h
second false b h = cc

same_is : (xs ys : List ℕ) → same_numbers xs ys ≡ true → xs ≡ ys
same_is [] [] h = refl
same_is [] (y ∷ ys) h = cc
same_is (x ∷ xs) [] h = cc
same_is (x ∷ xs) (y ∷ ys) h =
    let head : x ≡ y = eqb-true x y (first (nat_eq x y) (same_numbers xs ys) h) in
    let tail : xs ≡ ys = same_is xs ys (second (nat_eq x y) (same_numbers xs ys) h) in
    cc

-- ---- views

pub record IsAt (at : ℕ) (v : View) : Type 0 where
  pub from : v.at ≡ at
  pub small : size v < 4294967296
  pub strides : v.strides ≡ row_major v.extents

pub stands_at : (at : ℕ) (v : View) → is_at at v ≡ true → IsAt at v
stands_at at v h =
    let rest = second (nat_eq v.at at) (nat_lt 0 (product v.extents) && (nat_lt (size v) 4294967296 && same_numbers v.strides (row_major v.extents))) h in
    let more = second (nat_lt 0 (product v.extents)) (nat_lt (size v) 4294967296 && same_numbers v.strides (row_major v.extents)) rest in
    record {
      from = eqb-true v.at at (first (nat_eq v.at at) (nat_lt 0 (product v.extents) && (nat_lt (size v) 4294967296 && same_numbers v.strides (row_major v.extents))) h);
      small = ltb-true (size v) 4294967296 (first (nat_lt (size v) 4294967296) (same_numbers v.strides (row_major v.extents)) more);
      strides = same_is v.strides (row_major v.extents) (second (nat_lt (size v) 4294967296) (same_numbers v.strides (row_major v.extents)) more);
    }

-- the first stands where they begin, and the others behind it
pub record IsNext (at : ℕ) (v : View) (rest : List View) : Type 0 where
  pub here : IsAt at v
  pub behind : are_lined (at + size v) rest ≡ true

pub next_lined : (at : ℕ) (vs rest : List View) (v : View) → vs ≡ v ∷ rest → are_lined at vs ≡ true → IsNext at v rest
next_lined at vs rest v is h =
    let all : are_lined at (v ∷ rest) ≡ true = ap (are_lined at) (sym is) ∙ h in
    record {
      here = stands_at at v (first (is_at at v) (are_lined (at + size v) rest) all);
      behind = second (is_at at v) (are_lined (at + size v) rest) all;
    }

lined_is : (at : ℕ) (vs : List View) → are_lined at vs ≡ true → vs ≡ lined at (map shape_of vs)
lined_is at [] h = refl
lined_is at (v ∷ vs) h =
    let its = next_lined at (v ∷ vs) vs v refl h in
    let head : v ≡ record { at = at; elem = v.elem; extents = v.extents; strides = row_major v.extents } =
    ap₂ (λ (a : ℕ) (ss : List ℕ). record { at = a; elem = v.elem; extents = v.extents; strides = ss }) its.here.from its.here.strides in
    ap₂ (λ (u : View) (us : List View). u ∷ us) head (lined_is (at + size v) vs its.behind)

all_small : (at : ℕ) (vs : List View) (n : ℕ) (v : View) → are_lined at vs ≡ true → slice_get vs n ≡ Some v → size v < 4294967296
all_small at [] n v h there = cc
all_small at (u ∷ vs) zero v h there =
    let its = next_lined at (u ∷ vs) vs u refl h in
    subst (λ (w : View). size w < 4294967296) (same_some u v there) its.here.small
all_small at (u ∷ vs) (suc n) v h there = all_small (at + size u) vs n v (next_lined at (u ∷ vs) vs u refl h).behind there

pub line_of : (vs : List View) → are_lined 0 vs ≡ true → IsLine vs
line_of vs h = record { lined = lined_is 0 vs h; small = record { each = λ n v there. all_small 0 vs n v h there } }

-- ---- arguments

inside_fits : (spans : List Span) (ns : List ℕ) → are_inside spans ns ≡ true → Fits spans ns
inside_fits [] [] h = tt
inside_fits [] (n ∷ ns) h = cc
inside_fits (s ∷ spans) [] h = cc
inside_fits (s ∷ spans) (n ∷ ns) h =
    let rest = second (nat_lt s.lo s.hi) (nat_le s.hi n && are_inside spans ns) h in (
      ltb-true s.lo s.hi (first (nat_lt s.lo s.hi) (nat_le s.hi n && are_inside spans ns) h),
      leb-true s.hi n (first (nat_le s.hi n) (are_inside spans ns) rest),
      inside_fits spans ns (second (nat_le s.hi n) (are_inside spans ns) rest),
    )

same_width : (a b : Elem) → width a ≡ width b → a ≡ b
same_width Byte Byte h = refl
same_width Byte Int h = absurd (omega (arith, h))
same_width Byte Long h = absurd (omega (arith, h))
same_width Int Byte h = absurd (omega (arith, h))
same_width Int Int h = refl
same_width Int Long h = absurd (omega (arith, h))
same_width Long Byte h = absurd (omega (arith, h))
same_width Long Int h = absurd (omega (arith, h))
same_width Long Long h = refl

block_fits : (outer inner : List View) (k : ℕ) (a : Argument) (of to : Option View) → slice_get outer a.array ≡ of → slice_get inner k ≡ to → is_block a of to ≡ true → ArgFits outer inner k a
block_fits outer inner k a (Some of) (Some to) there here h =
    let rest = second (are_inside a.rect of.extents) (nat_eq (width to.elem) (width of.elem) && same_numbers to.extents (lengths a.rect)) h in
    record {
      of = of;
      of_is = there;
      fits = inside_fits a.rect of.extents (first (are_inside a.rect of.extents) (nat_eq (width to.elem) (width of.elem) && same_numbers to.extents (lengths a.rect)) h);
      to = to;
      to_is = here;
      elem = same_width to.elem of.elem (eqb-true (width to.elem) (width of.elem) (first (nat_eq (width to.elem) (width of.elem)) (same_numbers to.extents (lengths a.rect)) rest));
      extents = same_is to.extents (lengths a.rect) (second (nat_eq (width to.elem) (width of.elem)) (same_numbers to.extents (lengths a.rect)) rest);
    }
block_fits outer inner k a (Some of) None there here h = cc
block_fits outer inner k a None to there here h = cc

blocks_fit : (outer inner : List View) (k i : ℕ) (args : List Argument) (a : Argument) → are_blocks outer inner k args ≡ true → slice_get args i ≡ Some a → ArgFits outer inner (k + i) a
blocks_fit outer inner k i [] a h there = cc
blocks_fit outer inner k zero (x ∷ args) a h there =
    let this = block_fits outer inner k x (slice_get outer x.array) (slice_get inner k) refl refl (first (is_block x (slice_get outer x.array) (slice_get inner k)) (are_blocks outer inner (k + 1) args) h) in
    let number : k ≡ k + 0 = omega arith in
    subst (λ (j : ℕ). ArgFits outer inner j a) number (subst (ArgFits outer inner k) (same_some x a there) this)
blocks_fit outer inner k (suc i) (x ∷ args) a h there =
    let number : k + 1 + i ≡ k + suc i = omega arith in
    subst (λ (j : ℕ). ArgFits outer inner j a) number (blocks_fit outer inner (k + 1) i args a (second (is_block x (slice_get outer x.array) (slice_get inner k)) (are_blocks outer inner (k + 1) args) h) there)

-- ---- rows

row_fits : (forms : List FormCode) (vs : List View) (r : CallInstance) (o : Option FormCode) → slice_get forms r.form ≡ o → reaches vs r o ≡ true → RowFits forms vs r
row_fits forms vs r None is h = cc
row_fits forms vs r (Some f) is h =
    let blocks = second (nat_lt (length r.args) 4294967296) (are_blocks vs f.views 0 r.args) h in
    record {
      form = f;
      is = is;
      args = record {
        each = λ k a there. let number : 0 + k ≡ k = omega arith in subst (λ (j : ℕ). ArgFits vs f.views j a) number (blocks_fit vs f.views 0 k r.args a blocks there);
      };
      few = ltb-true (length r.args) 4294967296 (first (nat_lt (length r.args) 4294967296) (are_blocks vs f.views 0 r.args) h);
    }

pub row_ready : (forms : List FormCode) (vs : List View) (r : CallInstance) → reaches vs r (slice_get forms r.form) ≡ true → RowFits forms vs r
row_ready forms vs r h = row_fits forms vs r (slice_get forms r.form) refl h

all_rows_fit : (forms : List FormCode) (vs : List View) (rows : List CallInstance) → rows_fit forms vs rows ≡ true → RowsFit forms vs rows
all_rows_fit forms vs [] h = tt
all_rows_fit forms vs (r ∷ rows) h = (
  row_fits forms vs r (slice_get forms r.form) refl (first (reaches vs r (slice_get forms r.form)) (rows_fit forms vs rows) h),
  all_rows_fit forms vs rows (second (reaches vs r (slice_get forms r.form)) (rows_fit forms vs rows) h),
)

-- ---- forms

the_body : (forms : List FormCode) (vs : List View) (b : Body) → body_fits forms vs b ≡ true → IsBody forms vs b
the_body forms vs (body.Leaf code) h = h
the_body forms vs (body.Inner list) h = all_rows_fit forms vs (rows_in list) h

the_form : (forms : List FormCode) (f : FormCode) → is_form forms f ≡ true → IsForm forms f
the_form forms f h = record {
  line = line_of f.views (first (are_lined 0 f.views) (body_fits forms f.views f.body) h);
  body = the_body forms f.views f.body (second (are_lined 0 f.views) (body_fits forms f.views f.body) h);
}

each_form : (forms rest : List FormCode) (k : ℕ) (f : FormCode) → are_forms forms rest ≡ true → slice_get rest k ≡ Some f → IsForm forms f
each_form forms [] k f h there = cc
each_form forms (g ∷ rest) zero f h there = subst (IsForm forms) (same_some g f there) (the_form forms g (first (is_form forms g) (are_forms forms rest) h))
each_form forms (g ∷ rest) (suc k) f h there = each_form forms rest k f (second (is_form forms g) (are_forms forms rest) h) there

pub forms_of : (forms : List FormCode) → are_forms forms forms ≡ true → AreForms forms
forms_of forms h = record { each = λ k f there. each_form forms forms k f h there }

-- ---- lists of statements

and_assoc : (a b c : Bool) → (a && (b && c)) ≡ ((a && b) && c)
and_assoc true b c = refl
and_assoc false b c = refl

rows_append : (forms : List FormCode) (vs : List View) (xs ys : List CallInstance) → rows_fit forms vs (xs ++ ys) ≡ (rows_fit forms vs xs && rows_fit forms vs ys)
rows_append forms vs [] ys = refl
rows_append forms vs (r ∷ xs) ys =
    ap (λ (b : Bool). reaches vs r (slice_get forms r.form) && b) (rows_append forms vs xs ys)
    ∙ and_assoc (reaches vs r (slice_get forms r.form)) (rows_fit forms vs xs) (rows_fit forms vs ys)

-- a statement, and those behind it
pub rows_split : (forms : List FormCode) (vs : List View) (list rest : List Statement) (s : Statement) → list ≡ s ∷ rest
    → rows_fit forms vs (rows_in list) ≡ (rows_fit forms vs (rows_of s) && rows_fit forms vs (rows_in rest))
rows_split forms vs list rest s is = ap (λ (l : List Statement). rows_fit forms vs (rows_in l)) is ∙ rows_append forms vs (rows_of s) (rows_in rest)
