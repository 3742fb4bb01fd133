-- A row whose facts are known fits.
use Rattle.std.proofs.Common.{◌≡◌, ◌≢◌, ℕ, zero, suc, ◌+◌, ◌<◌, ◌≤◌, Bool, true, false, List, [], ◌∷◌, ◌++◌, length}
use Rattle.std.proofs.Common.{map, get_or, drop, refl, sym, ap, ap₂, ◌∙◌, subst, arith}
use Rattle.std.specs.Prelude.{Option, Some, None, slice_get, if◌then◌else◌}
use Rattle.sq_num.specs.declared.RedOp.{RedOp}
use Rattle.sq_leaf.specs.declared.shape.Shape.{Shape}
use Rattle.sq_blocks.specs.declared.argument.Argument.{Argument}
use Rattle.sq_work.specs.declared.reduction.Reduction.{Reduction}
use Rattle.sq_spec.specs.declared.statement.CallInstance.{CallInstance}
use Rattle.sq_spec.specs.declared.body.FormBody.{FormBody}
use Rattle.sq_ast.specs.Modes.{is_written}
use Rattle.sq_blocks.specs.Arguments.{lengths}
use Rattle.sq_form_laws.specs.Laws.{NoAlias, Apart}
use Rattle.sq_placed.specs.declared.home.Home.{Home}
use Rattle.sq_placed.specs.declared.home.Home.TheVariants.{InPlace}
use Rattle.sq_placed.specs.declared.home.Homes.{Homes}
use Rattle.sq_placed.specs.Placed.{PlacedArg, PlacedLocal, PlacedCall, arguments}
use Rattle.sq_placed.specs.Tables.{no_shape, placed_args, placed_locals, placed_call}
use Rattle.sq_cells.specs.Lowered.{in_place}
use Rattle.sq_plan_laws.specs.Calling.{place_of, shapes_of, PassedFits, ArgsFit}
use Rattle.sq_plan_laws.specs.OnBytes.{which_of, which_by}
use Rattle.sq_plan_laws.specs.Fitting.{CallIs, whole}
use Rattle.sq_plan_laws.specs.Keeping.{may_by, may_of}
use Rattle.sq_ir.specs.Events.{Leaves}
use Rattle.sq_cells.specs.Tree.{Cause}
use Rattle.sq_spec_laws.specs.TableRows.{Table}
use Rattle.sq_cells.specs.Work.{Buffer}
use Rattle.sq_placed.specs.Trees.{is_moved}
use Rattle.sq_placed.specs.declared.home.Home.TheVariants as home
use Rattle.sq_plan_laws.specs.Seated.{IsOwned, IsNear, CallSits}
use Rattle.sq_program_laws.specs.Rows.{operator_of, without_block, RowKeeps, RowFits}
use Rattle.sq_program_laws.specs.Facts.{ReducedFacts, RowFacts, FactsFit}
use Rattle.sq_plan_laws.proofs.PlacedLists.{same_some, there_below}
use Rattle.sq_plan_laws.proofs.Gathered.{lengths_whole}

-- ---- the position of what is reduced into

abbrev pub reduced_flags : List Argument → List Bool
reduced_flags args = map (λ a. a.is_reduced) args

abbrev pub first_true : List Bool → ℕ
first_true [] = 0
first_true (true ∷ rest) = 0
first_true (false ∷ rest) = suc (first_true rest)

pub which_passed : (op : RedOp) (shapes : List Shape) (homes : List Home) (i : ℕ) (args : List Argument)
    → which_of (placed_args (Some op) shapes homes i args) ≡ first_true (reduced_flags args)
which_passed op shapes homes i [] = refl
which_passed op shapes homes i (a ∷ args) = go a.is_reduced (which_passed op shapes homes (suc i) args)
  where
    go : (r : Bool) → which_of (placed_args (Some op) shapes homes (suc i) args) ≡ first_true (reduced_flags args)
        → which_by (if r then Some op else None) (which_of (placed_args (Some op) shapes homes (suc i) args))
        ≡ first_true (r ∷ reduced_flags args)
    go true e = refl
    go false e = ap suc e

-- arguments that differ in their blocks alone have the same flags
pub flags_alike : (xs ys : List Argument) → map without_block xs ≡ map without_block ys → reduced_flags xs
    ≡ reduced_flags ys
flags_alike xs ys e = flags_of xs ∙ (ap (λ (l : List Argument). reduced_flags l) e ∙ sym (flags_of ys))
  where
    flags_of : (zs : List Argument) → reduced_flags zs ≡ reduced_flags (map without_block zs)
    flags_of [] = refl
    flags_of (z ∷ zs) = ap (λ (l : List Bool). z.is_reduced ∷ l) (flags_of zs)

-- ---- the arguments as they are passed

abbrev pub passed : Option RedOp → List Shape → List Home → ℕ → Argument → PlacedArg
passed op shapes homes i a = record {
  argument = a;
  gathers = if a.is_reduced then op else None;
  shape = get_or shapes i no_shape;
  home
      = get_or homes i InPlace;
}

pub passed_at : (op : Option RedOp) (shapes : List Shape) (homes : List Home) (i : ℕ) (args : List Argument) (k : ℕ)
    (p : PlacedArg) → slice_get (placed_args op shapes homes i args) k ≡ Some p
    → (a : Argument) × (slice_get args k ≡ Some a) × (p ≡ passed op shapes homes (i + k) a)
passed_at op shapes homes i [] k p e = cc
passed_at op shapes homes i (a ∷ args) zero p e = let here : i ≡ i + 0
    = omega arith in (a, refl, sym (same_some e) ∙ ap (λ j. passed op shapes homes j a) here)
passed_at op shapes homes i (a ∷ args) (suc k) p e =
    let h = passed_at op shapes homes (suc i) args k p e in
    let next : suc i + k ≡ i + suc k = omega arith in
    (h.0, h.1, h.2 ∙ ap (λ j. passed op shapes homes j h.0) next)

pub passed_there : (op : Option RedOp) (shapes : List Shape) (homes : List Home) (i : ℕ) (args : List Argument) (k : ℕ)
    (a : Argument) → slice_get args k ≡ Some a → slice_get (placed_args op shapes homes i args) k
    ≡ Some (passed op shapes homes (i + k) a)
passed_there op shapes homes i [] k a e = cc
passed_there op shapes homes i (x ∷ args) zero a e = let here : i ≡ i + 0
    = omega arith in ap₂ (λ j (y : Argument). Some (passed op shapes homes j y)) here (same_some e)
passed_there op shapes homes i (x ∷ args) (suc k) a e = let next : suc i + k ≡ i + suc k
    = omega arith in passed_there op shapes homes (suc i) args k a e ∙ ap (λ j. Some (passed op shapes homes j a)) next

pub passed_home : (op : Option RedOp) (shapes : List Shape) (homes : List Home) (args : List Argument) (k : ℕ)
    (p : PlacedArg) → slice_get (placed_args op shapes homes 0 args) k ≡ Some p → get_or homes k InPlace ≡ p.home
passed_home op shapes homes args k p e =
    let h = passed_at op shapes homes 0 args k p e in
    let z : k ≡ 0 + k = omega arith in
    ap (λ j. get_or homes j InPlace) z ∙ sym (ap (λ (q : PlacedArg). q.home) h.2)

pub passed_none : (op : Option RedOp) (shapes : List Shape) (homes : List Home) (i : ℕ) (args : List Argument) (k : ℕ)
    → slice_get args k ≡ None → slice_get (placed_args op shapes homes i args) k ≡ None
passed_none op shapes homes i [] k e = refl
passed_none op shapes homes i (x ∷ args) zero e = cc
passed_none op shapes homes i (x ∷ args) (suc k) e = passed_none op shapes homes (suc i) args k e

pub plain_args : (op : Option RedOp) (shapes : List Shape) (homes : List Home) (i : ℕ) (args : List Argument)
    → arguments (placed_args op shapes homes i args) ≡ args
plain_args op shapes homes i [] = refl
plain_args op shapes homes i (a ∷ args) = ap (λ (l : List Argument). a ∷ l) (plain_args op shapes homes (suc i) args)

pub shape_at : (shapes : List Shape) (i : ℕ) (sh : Shape) → slice_get shapes i ≡ Some sh → get_or shapes i no_shape ≡ sh
shape_at [] i sh e = cc
shape_at (x ∷ shapes) zero sh e = same_some e
shape_at (x ∷ shapes) (suc i) sh e = shape_at shapes i sh e

-- ---- the shapes of all arrays of the callee

pub kept_shapes : (shapes : List Shape) (bs : List ℕ) → length shapes ≡ length bs
    → map (λ (k : PlacedLocal). k.shape) (placed_locals shapes bs) ≡ shapes
kept_shapes [] bs e = refl
kept_shapes (x ∷ shapes) [] e = absurd (omega (arith, e))
kept_shapes (x ∷ shapes) (b ∷ bs) e = ap (λ (l : List Shape). x ∷ l) (kept_shapes shapes bs (omega (arith, e)))

get_drop : (i : ℕ) (shapes : List Shape) → i < length shapes → drop i shapes ≡ get_or shapes i no_shape
    ∷ drop (suc i) shapes
get_drop i [] lt = absurd (omega (arith, lt))
get_drop zero (x ∷ shapes) lt = refl
get_drop (suc i) (x ∷ shapes) lt = get_drop i shapes (omega (arith, lt))

-- the parameters' shapes before all others
pub passed_shapes : (op : Option RedOp) (shapes : List Shape) (homes : List Home) (i : ℕ) (args : List Argument)
    (rest : List Shape) → i + length args ≤ length shapes → rest ≡ drop (i + length args) shapes
    → map (λ (p : PlacedArg). p.shape) (placed_args op shapes homes i args) ++ rest ≡ drop i shapes
passed_shapes op shapes homes i [] rest le e = let z : i + 0 ≡ i = omega arith in e ∙ ap (λ j. drop j shapes) z
passed_shapes op shapes homes i (a ∷ args) rest le e =
    let next : i + length (a ∷ args) ≡ suc i + length args = omega arith in
    ap (λ (l : List Shape). get_or shapes i no_shape ∷ l)
    (passed_shapes op shapes homes (suc i) args rest (omega (arith, le)) (e ∙ ap (λ j. drop j shapes) next))
    ∙ sym (get_drop i shapes (omega (arith, le)))

pub drop_length : (i : ℕ) (shapes : List Shape) (n : ℕ) → length shapes ≡ i + n → length (drop i shapes) ≡ n
drop_length zero shapes n e = omega (arith, e)
drop_length (suc i) [] n e = omega (arith, e)
drop_length (suc i) (x ∷ shapes) n e = drop_length i shapes n (omega (arith, e))

-- the position of what is reduced into
first_at : (args : List Argument) (at : ℕ) (a : Argument) → slice_get args at ≡ Some a → a.is_reduced ≡ true
    → ((i : ℕ) (x : Argument) → slice_get args i ≡ Some x → i ≢ at → x.is_reduced ≡ false)
    → first_true (reduced_flags args) ≡ at
first_at [] at a e r others = cc
first_at (x ∷ args) zero a e r others = let same : x ≡ a
    = same_some e in ap (λ b. first_true (b ∷ reduced_flags args)) (ap (λ (y : Argument). y.is_reduced) same ∙ r)
first_at (x ∷ args) (suc at) a e r others =
    ap (λ b. first_true (b ∷ reduced_flags args)) (others 0 x refl (λ z. omega (arith, z)))
    ∙ ap suc (first_at args at a e r (λ i y f ne. others (suc i) y f (λ z. ne (omega (arith, z)))))

-- ---- locals

pub kept_at : (shapes : List Shape) (bs : List ℕ) (i : ℕ) (l : PlacedLocal) → slice_get (placed_locals shapes bs) i
    ≡ Some l → slice_get shapes i ≡ Some l.shape
kept_at [] bs i l e = cc
kept_at (x ∷ shapes) [] i l e = cc
kept_at (x ∷ shapes) (b ∷ bs) zero l e = ap (λ (q : PlacedLocal). Some q.shape) (same_some e)
kept_at (x ∷ shapes) (b ∷ bs) (suc i) l e = kept_at shapes bs i l e

pub drop_at : (n : ℕ) (shapes : List Shape) (i : ℕ) (x : Shape) → slice_get (drop n shapes) i ≡ Some x
    → slice_get shapes (n + i) ≡ Some x
drop_at zero shapes i x e = let z : 0 + i ≡ i = omega arith in ap (slice_get shapes) z ∙ e
drop_at (suc n) [] i x e = cc
drop_at (suc n) (y ∷ shapes) i x e = let z : suc n + i ≡ suc (n + i) = omega arith in ap (slice_get (y ∷ shapes)) z
    ∙ drop_at n shapes i x e

-- ---- a row

module _ (leaves : Leaves Cause) (bodies : ℕ → FormBody) (homes : ℕ → Homes) (mays : ℕ → ℕ → Bool) (k : ℕ) (t : Table)
    (r : CallInstance) (facts : RowFacts bodies homes mays k t r) where
  abbrev op : Option RedOp
  op = operator_of t.red

  abbrev outer : List Shape
  outer = (bodies k).arrays

  abbrev inner : List Shape
  inner = (bodies r.form).arrays

  abbrev params : List Home
  params = (homes r.form).params

  abbrev c : PlacedCall
  c = placed_call bodies homes op t.lower r

  abbrev here : ℕ → Argument → PlacedArg
  here i a = passed op inner params i a

  at_zero : (i : ℕ) (a : Argument) → passed op inner params (0 + i) a ≡ here i a
  at_zero i a = let z : 0 + i ≡ i = omega arith in ap (λ j. here j a) z

  arg_at : (i : ℕ) (p : PlacedArg) → slice_get c.args i ≡ Some p → (a : Argument) × (slice_get r.args i ≡ Some a)
      × (p ≡ here i a)
  arg_at i p e = let h = passed_at op inner params 0 r.args i p e in (h.0, h.1, h.2 ∙ at_zero i h.0)

  arg_there : (i : ℕ) (a : Argument) → slice_get r.args i ≡ Some a → slice_get c.args i ≡ Some (here i a)
  arg_there i a e = passed_there op inner params 0 r.args i a e ∙ ap Some (at_zero i a)

  fits_at : (i : ℕ) (a : Argument) → slice_get r.args i ≡ Some a → PassedFits outer (here i a)
  fits_at i a e =
      let f = facts.args i a e in
      let shape : get_or inner i no_shape ≡ f.to = shape_at inner i f.to f.param in
      record {
        of = f.of;
        there = f.there;
        fits = f.inside;
        elem = ap (λ (s : Shape). s.elem) shape ∙ f.elem;
        extents
            = ap (λ (s : Shape). s.extents) shape ∙ f.extents;
      }

  args_fit : ArgsFit outer c.args
  args_fit = record { each = λ i p e. let h = arg_at i p e in subst (PassedFits outer) (sym h.2) (fits_at i h.0 h.1) }

  args_are : arguments c.args ≡ r.args
  args_are = plain_args op inner params 0 r.args

  no_alias : NoAlias (arguments c.args)
  no_alias = subst NoAlias (sym args_are) facts.alias

  -- by the map round it
  call_is : (x : Option Reduction) → t.red ≡ x → ReducedFacts outer x r.args → CallIs x outer c
  call_is None e f = record {
    args = args_fit;
    no_alias = no_alias;
    none = λ i p g. let h = arg_at i p g in ap (λ (q : PlacedArg). q.gathers) h.2
        ∙ ap (λ b. if b then op else None) (f i h.0 h.1);
  }
  call_is (Some s) e f = record {
    args = args_fit;
    no_alias = no_alias;
    sum = here f.at f.sum;
    there = ap (slice_get c.args) which_is ∙ arg_there f.at f.sum f.there;
    gathers = ap (λ b. if b then op else None) f.reduced ∙ ap operator_of e;
    array = f.array;
    elem = (fits_at f.at f.sum f.there).elem ∙ (ap (λ (z : Shape). z.elem) of_is ∙ f.elem);
    mode = f.mode;
    is_whole = f.is_whole ∙ ap whole (sym extents);
    all = λ of g. ap (λ (z : Shape). z.extents) (same_some (sym g ∙ f.of_is)) ∙ sym extents;
    others = λ i p g ne. let h = arg_at i p g in
        let o = f.others i h.0 h.1 (λ z. ne (z ∙ sym which_is)) in (
          ap (λ (q : PlacedArg). q.gathers) h.2
              ∙ ap (λ b. if b then op else None) o.0,
          λ z. o.1 (ap (λ (q : PlacedArg). q.argument.array) (sym h.2) ∙ z),
        );
  }
    where
      which_is : which_of c.args ≡ f.at
      which_is =
          ap (λ o. which_of (placed_args o inner params 0 r.args)) (ap operator_of e)
          ∙ which_passed s.op inner params 0 r.args
          ∙ first_at r.args f.at f.sum f.there f.reduced (λ i x g ne. (f.others i x g ne).0)

      of_is : (fits_at f.at f.sum f.there).of ≡ f.of
      of_is = same_some (sym (fits_at f.at f.sum f.there).there ∙ (ap (slice_get outer) f.array ∙ f.of_is))

      extents : (here f.at f.sum).shape.extents ≡ f.of.extents
      extents = (fits_at f.at f.sum f.there).extents ∙ (ap lengths f.is_whole ∙ lengths_whole f.of.extents)

  by_flag : (b : Bool) (o : Option RedOp) → ((if b then o else None) ≡ None → ⊥) → b ≡ true
  by_flag true o h = refl
  by_flag false o h = absurd (h refl)

  none_reduced : (x : Option Reduction) → x ≡ None → ReducedFacts outer x r.args → (i : ℕ) (a : Argument)
      → slice_get r.args i ≡ Some a → a.is_reduced ≡ false
  none_reduced None e f i a g = f i a g
  none_reduced (Some s) e f i a g = cc

  keeps : RowKeeps t.red c (mays k)
  keeps = record {
    apart = λ i p e st. let h = arg_at i p e in
        subst (λ (l : List Argument). Apart l i) (sym args_are)
        (facts.apart i (subst (λ (q : PlacedArg). in_place (place_of q.home) ≡ true) h.2 st)
        (there_below r.args i h.0 h.1));
    permitted = λ i p e w. let h = arg_at i p e in ap (λ (q : PlacedArg). mays k q.argument.array) h.2
        ∙ facts.permitted i h.0 h.1 (subst (λ (q : PlacedArg). is_written q.argument.mode ≡ true) h.2 w);
    sum_home = λ i p e ne. let h = arg_at i p e in
        ap (λ (q : PlacedArg). place_of q.home) h.2
        ∙ facts.sum_home i h.0 h.1 (by_flag h.0.is_reduced op
        (λ z. ne (ap (λ (q : PlacedArg). q.gathers) h.2 ∙ z)));
    plain = λ none i p e. let h = arg_at i p e in
        ap (λ (q : PlacedArg). q.argument.is_reduced) h.2 ∙ none_reduced t.red none facts.reduced i h.0 h.1;
  }

  shapes : shapes_of c ≡ inner
  shapes =
      let long : length (drop (length params) inner) ≡ length (homes r.form).locals
      = drop_length (length params) inner (length (homes r.form).locals) facts.locals in
      let rest : map (λ (q : PlacedLocal). q.shape) c.locals ≡ drop (length params) inner
      = kept_shapes (drop (length params) inner) (homes r.form).locals long in
      let many : length params ≡ 0 + length r.args = omega (arith, facts.many) in
      passed_shapes op inner params 0 r.args (map (λ (q : PlacedLocal). q.shape) c.locals)
      (omega (arith, facts.many, facts.locals)) (rest ∙ ap (λ j. drop j inner) many)

  may : (i : ℕ) → mays r.form i ≡ true → may_of c i ≡ true
  may i e = go (slice_get r.args i) refl
    where
      go : (o : Option Argument) → slice_get r.args i ≡ o → may_of c i ≡ true
      go None f = ap may_by (passed_none op inner params 0 r.args i f)
      go (Some a) f = ap may_by (arg_there i a f) ∙ facts.modes i a f e

  -- the homes
  sum_moved : (h : Home) → place_of h ≡ Buffer → is_moved h ≡ true
  sum_moved home.InPlace e = cc
  sum_moved (home.Own b) e = refl
  sum_moved (home.Held b n) e = cc
  sum_moved (home.Twin b c) e = refl

  owned_by : (o : Option RedOp) (h : Home) → (o ≢ None → place_of h ≡ Buffer) → IsOwned o h
  owned_by None h f = tt
  owned_by (Some x) h f = sum_moved h (f (λ z. cc))

  owned : (i : ℕ) (p : PlacedArg) → slice_get c.args i ≡ Some p → IsOwned p.gathers p.home
  owned i p e = owned_by p.gathers p.home (keeps.sum_home i p e)

  near : (i : ℕ) (p : PlacedArg) → slice_get c.args i ≡ Some p → IsNear t.lower p.home
  near i p e = let h = arg_at i p e in subst (λ (q : PlacedArg). IsNear t.lower q.home) (sym h.2)
      (facts.near i (there_below r.args i h.0 h.1))

  call_sits : CallSits outer c
  call_sits = record {
    args = args_fit;
    owned = owned;
    near = near;
    locals = λ i l e. facts.dims (length params + i) l.shape
        (drop_at (length params) inner i l.shape (kept_at (drop (length params) inner) (homes r.form).locals i l e));
  }

  row_fits : RowFits leaves bodies homes mays k t r
  row_fits = record {
    is = call_is t.red refl facts.reduced;
    keeps = keeps;
    sits = call_sits;
    shapes = shapes;
    may
        = may;
  }

pub facts_fit : FactsFit
facts_fit leaves bodies homes mays k t r facts = row_fits leaves bodies homes mays k t r facts
