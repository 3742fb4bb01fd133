-- The conditions of a call, from those of its arguments and its body.
use Rattle.std.proofs.Common.{◌≡◌, ◌≢◌, ℕ, ◌+◌, ◌*◌, ◌<◌, Bool, true, false, List, map, refl, sym, ap, ap₂, ◌∙◌, subst}
use Rattle.std.proofs.Common.{arith, ◌⊎◌, ⊎_elim}
use Rattle.std.specs.Prelude.{Option, Some, None, slice_get, nat_eq}
use Rattle.std.proofs.lemmas.Bool.Decides.{nat_tests}
use Rattle.sq_num.specs.declared.RedOp.{RedOp}
use Rattle.sq_num.specs.Elements.{width}
use Rattle.sq_leaf.specs.declared.shape.Shape.{Shape}
use Rattle.sq_ast.specs.declared.program.Mode as source
use Rattle.sq_ast.specs.declared.program.Mode.TheVariants as mode
use Rattle.sq_work.specs.declared.reduction.Reduction.{Reduction}
use Rattle.sq_ast.specs.Modes.{is_written}
use Rattle.sq_blocks.specs.Arguments.{lengths}
use Rattle.sq_work.specs.Meaning.{in_block}
use Rattle.sq_plan_laws.specs.Coordinates.{number}
use Rattle.sq_placed.specs.FormLaws.Laws.{NoAlias}
use Rattle.sq_placed.specs.Placed.{PlacedArg, PlacedCall, arguments}
use Rattle.sq_cells.specs.Machine.{Node}
use Rattle.sq_cells.specs.Cells.{Spot}
use Rattle.sq_cells.specs.Work.{Mode, Input, Output, Both, Local, Reduced, Place, Buffer, InPlace, Held, Array, Work}
use Rattle.sq_cells.specs.Work.{reads, is_reduced, is_private, writable}
use Rattle.sq_cells.specs.Work as bytes
use Rattle.sq_cells.specs.Lowered.{Layout, stays, IsIn as IsCell, Needs, Sets, Gathers, CallFits}
use Rattle.sq_plan_laws.specs.Codes.{bytes_in}
use Rattle.sq_plan_laws.specs.Calling.{plain_mode, mode_by, mode_of, place_of, shapes_of, local_of, array_of}
use Rattle.sq_plan_laws.specs.Calling.{arrays_of, ArgsFit}
use Rattle.sq_plan_laws.specs.OnBytes.{arity_of, which_of}
use Rattle.sq_plan_laws.specs.Fitting.{CallIs}
use Rattle.sq_plan_laws.specs.Keeping.{CallBase, may_by, may_of}
use Rattle.sq_plan_laws.proofs.PlacedLists.{at_left, mapped, same_some, there_below}
use Rattle.sq_plan_laws.proofs.Blocks.{element_met}
use Rattle.sq_plan_laws.proofs.Returned.{returned_mode}
use Rattle.sq_plan_laws.proofs.Reaching.{InShapes, element_at, Touched, touched, touched_in, shares_element}
use Rattle.sq_plan_laws.proofs.Reaching.{returned_not_local}

-- ---- by the map round the call

pub args_of : (red : Option Reduction) (outer : List Shape) (c : PlacedCall) → CallIs red outer c → ArgsFit outer c.args
args_of None outer c is = is.args
args_of (Some r) outer c is = is.args

pub alias_of : (red : Option Reduction) (outer : List Shape) (c : PlacedCall) → CallIs red outer c
    → NoAlias (arguments c.args)
alias_of None outer c is = is.no_alias
alias_of (Some r) outer c is = is.no_alias

-- an argument that is reduced into is the one of the `mapreduce`
pub sum_only : (red : Option Reduction) (outer : List Shape) (c : PlacedCall) → CallIs red outer c
    → (k : ℕ) (p : PlacedArg) → slice_get c.args k ≡ Some p → p.gathers ≢ None → k ≡ which_of c.args
sum_only None outer c is k p e ne = absurd (ne (is.none k p e))
sum_only (Some r) outer c is k p e ne = go (nat_eq k (which_of c.args)) refl
  where
    go : (b : Bool) → nat_eq k (which_of c.args) ≡ b → k ≡ which_of c.args
    go true f = grind (arith, nat_tests, f)
    go false f = let far : k ≢ which_of c.args = grind (arith, nat_tests, f) in absurd (ne (is.others k p e far).0)

-- ---- modes

plain_not_local : (m : source.Mode) → plain_mode m ≢ Local
plain_not_local mode.Input e = cc
plain_not_local mode.Output e = cc
plain_not_local mode.Both e = cc

pub mode_not_local : (p : PlacedArg) → mode_of p ≢ Local
mode_not_local p = go p.gathers
  where
    go : (g : Option RedOp) → mode_by g p.shape.elem p.argument.mode ≢ Local
    go None = plain_not_local p.argument.mode
    go (Some op) = λ e. cc

plain_not_reduced : (m : source.Mode) → is_reduced (plain_mode m) ≡ true → ⊥
plain_not_reduced mode.Input e = cc
plain_not_reduced mode.Output e = cc
plain_not_reduced mode.Both e = cc

pub reduced_gathers : (p : PlacedArg) → is_reduced (mode_of p) ≡ true → p.gathers ≢ None
reduced_gathers p e f = plain_not_reduced p.argument.mode
    (ap (λ g. is_reduced (mode_by g p.shape.elem p.argument.mode)) (sym f) ∙ e)

plain_not_private : (m : source.Mode) → is_private (plain_mode m) ≡ true → ⊥
plain_not_private mode.Input e = cc
plain_not_private mode.Output e = cc
plain_not_private mode.Both e = cc

pub private_gathers : (p : PlacedArg) → is_private (mode_of p) ≡ true → p.gathers ≢ None
private_gathers p e f = plain_not_private p.argument.mode
    (ap (λ g. is_private (mode_by g p.shape.elem p.argument.mode)) (sym f) ∙ e)

plain_writable : (m : source.Mode) → is_written m ≡ true → writable (plain_mode m) ≡ true
plain_writable mode.Input e = cc
plain_writable mode.Output e = refl
plain_writable mode.Both e = refl

mode_writable : (p : PlacedArg) → is_written p.argument.mode ≡ true → writable (mode_of p) ≡ true
mode_writable p e = go p.gathers
  where
    go : (g : Option RedOp) → writable (mode_by g p.shape.elem p.argument.mode) ≡ true
    go None = plain_writable p.argument.mode e
    go (Some op) = refl

local_writable : (o : Option Shape) → writable (local_of o).mode ≡ true
local_writable None = refl
local_writable (Some sh) = refl

local_private : (o : Option Shape) → (local_of o).place ≡ Buffer
local_private None = refl
local_private (Some sh) = refl

local_not_reduced : (o : Option Shape) → is_reduced (local_of o).mode ≡ true → ⊥
local_not_reduced None e = cc
local_not_reduced (Some sh) e = cc

local_block : (o : Option Shape) (k k' : ℕ) → (local_of o).block k ≡ (local_of o).block k' → k ≡ k'
local_block None k k' e = ap (λ (v : Spot). v.index) e
local_block (Some sh) k k' e = ap (λ (v : Spot). v.index) e

-- ---- the arrays of a call, one by one

-- a parameter, or a local
pub data OneOf (outer : List Shape) (c : PlacedCall) (i : ℕ) : Type 0 where
  AParam : (p : PlacedArg) → slice_get c.args i ≡ Some p → arrays_of outer c i
      ≡ array_of outer (Some p) (slice_get (shapes_of c) i) → OneOf outer c i
  ALocal : slice_get c.args i ≡ None → arrays_of outer c i ≡ local_of (slice_get (shapes_of c) i) → OneOf outer c i

pub one_of : (outer : List Shape) (c : PlacedCall) (i : ℕ) → OneOf outer c i
one_of outer c i = go (slice_get c.args i) refl
  where
    go : (o : Option PlacedArg) → slice_get c.args i ≡ o → OneOf outer c i
    go (Some p) e = AParam p e (ap (λ o. array_of outer o (slice_get (shapes_of c) i)) e)
    go None e = ALocal e (ap (λ o. array_of outer o (slice_get (shapes_of c) i)) e)

-- a byte of a form's arrays is a cell of the call's
pub in_call : (outer : List Shape) (c : PlacedCall) (l : Spot) → InShapes (shapes_of c) l
    → IsCell (arity_of c) (arrays_of outer c) l
in_call outer c l h = (there_below (shapes_of c) l.area h.sh h.there, go (one_of outer c l.area))
  where
    go : OneOf outer c l.area → l.index < (arrays_of outer c l.area).size
    go (AParam p e is) =
        let same : p.shape ≡ h.sh = same_some
        (sym (at_left (λ (q : PlacedArg). q.shape) c.args (map (λ k. k.shape) c.locals) l.area p e) ∙ h.there) in
        subst (λ (a : Array). l.index < a.size) (sym is) (subst (λ z. l.index < bytes_in z) (sym same) h.below)
    go (ALocal e is) = subst (λ (a : Array). l.index < a.size) (sym (is ∙ ap local_of h.there)) h.below

pub may_write : (outer : List Shape) (c : PlacedCall) (i : ℕ) → may_of c i ≡ true → writable (arrays_of outer c i).mode
    ≡ true
may_write outer c i e = go (one_of outer c i)
  where
    go : OneOf outer c i → writable (arrays_of outer c i).mode ≡ true
    go (AParam p f is) = ap (λ (a : Array). writable a.mode) is ∙ mode_writable p (ap may_by (sym f) ∙ e)
    go (ALocal f is) = ap (λ (a : Array). writable a.mode) is ∙ local_writable (slice_get (shapes_of c) i)

-- ---- a call

module _ (red : Option Reduction) (outer : List Shape) (c : PlacedCall) (is : CallIs red outer c) (may : ℕ → Bool)
    (keeps : CallBase c may) where
  fit : ArgsFit outer c.args
  fit = args_of red outer c is

  -- the byte of a block that is given has one number
  pub one_byte : (i k k' : ℕ) (l : Spot) → Touched outer c i k l → Touched outer c i k' l → k ≡ k'
  one_byte i k k' l x y =
      let e = element_at outer l (touched_in outer c i k l x) in
      let same : x.p ≡ y.p = same_some (sym x.there ∙ y.there) in
      let of : x.of ≡ y.of = same_some
      (sym x.of_is ∙ (ap (λ (q : PlacedArg). slice_get outer q.argument.array) same ∙ y.of_is)) in
      let a = element_met outer x.p.argument x.of e.sh k l.area e.b e.cs x.of_is x.fits x.small e.there e.inside e.below
      (x.block_is ∙ e.is) in
      let b = element_met outer y.p.argument y.of e.sh k' l.area e.b e.cs y.of_is y.fits y.small e.there e.inside
      e.below (y.block_is ∙ e.is) in
      a.2 ∙ ap₂ (λ (q : PlacedArg) (z : Shape). number (lengths q.argument.rect) (in_block q.argument.rect e.cs) * width
      z.elem + e.b) same of ∙ sym b.2

  distinct : (i k k' : ℕ) → k < (arrays_of outer c i).size → k' < (arrays_of outer c i).size
      → (arrays_of outer c i).block k ≡ (arrays_of outer c i).block k' → k ≡ k'
  distinct i k k' lk lk' e = go (one_of outer c i)
    where
      go : OneOf outer c i → k ≡ k'
      go (AParam p f at) =
          let ne : (arrays_of outer c i).mode ≢ Local
          = λ z. mode_not_local p (sym (ap (λ (a : Array). a.mode) at) ∙ z) in
          one_byte i k k' ((arrays_of outer c i).block k')
          (touched outer c fit i k ((arrays_of outer c i).block k') ne lk e)
          (touched outer c fit i k' ((arrays_of outer c i).block k') ne lk' refl)
      go (ALocal f at) = local_block (slice_get (shapes_of c) i) k k'
          (subst (λ (a : Array). a.block k ≡ a.block k') at e)

  -- two arguments that are written share nothing
  no_alias : (i j k k' : ℕ) → i ≢ j → k < (arrays_of outer c i).size → k' < (arrays_of outer c j).size
      → bytes.returned (arrays_of outer c i).mode ≡ true → bytes.returned (arrays_of outer c j).mode ≡ true
      → (arrays_of outer c i).block k ≡ (arrays_of outer c j).block k' → ⊥
  no_alias i j k k' ne lk lk' r r' e =
      let x = touched outer c fit i k ((arrays_of outer c j).block k') (returned_not_local (arrays_of outer c i).mode r)
      lk e in
      let y = touched outer c fit j k' ((arrays_of outer c j).block k')
      (returned_not_local (arrays_of outer c j).mode r') lk' refl in
      let w = returned_mode x.p (subst (λ (a : Array). bytes.returned a.mode ≡ true) x.array_is r) in
      let v = returned_mode y.p (subst (λ (a : Array). bytes.returned a.mode ≡ true) y.array_is r') in
      let xs = mapped (λ (q : PlacedArg). q.argument) c.args i x.p x.there in
      let ys = mapped (λ (q : PlacedArg). q.argument) c.args j y.p y.there in
      ⊎_elim (λ lt. alias_of red outer c is i j x.p.argument y.p.argument lt xs ys w.1 v.1
      (shares_element outer c c j i k' k ((arrays_of outer c j).block k') y x))
      (λ lt. alias_of red outer c is j i y.p.argument x.p.argument lt ys xs v.1 w.1
      (shares_element outer c c i j k k' ((arrays_of outer c j).block k') x y)) (ordered ne)
    where
      ordered : i ≢ j → (i < j) ⊎ (j < i)
      ordered ne = grind arith

  -- an argument without a buffer of its own shares nothing with another, or neither is written
  apart : (i j k k' : ℕ) → i ≢ j → k < (arrays_of outer c i).size → k' < (arrays_of outer c j).size
      → stays (arrays_of outer c i).place ≡ true → (arrays_of outer c j).mode ≢ Local
      → (bytes.returned (arrays_of outer c i).mode ≡ true) ⊎ (bytes.returned (arrays_of outer c j).mode ≡ true)
      → (arrays_of outer c i).block k ≡ (arrays_of outer c j).block k' → ⊥
  apart i j k k' ne lk lk' st nl r e = go (one_of outer c i)
    where
      go : OneOf outer c i → ⊥
      go (ALocal f at) =
          let place : stays (local_of (slice_get (shapes_of c) i)).place ≡ true
          = subst (λ (a : Array). stays a.place ≡ true) at st in
          let none : stays (local_of (slice_get (shapes_of c) i)).place ≡ false
          = ap stays (local_private (slice_get (shapes_of c) i)) in
          cc
      go (AParam p f at) =
          let ni : (arrays_of outer c i).mode ≢ Local
          = λ z. mode_not_local p (sym (ap (λ (a : Array). a.mode) at) ∙ z) in
          let x = touched outer c fit i k ((arrays_of outer c j).block k') ni lk e in
          let y = touched outer c fit j k' ((arrays_of outer c j).block k') nl lk' refl in
          let home : stays (place_of x.p.home) ≡ true = subst (λ (a : Array). stays a.place ≡ true) x.array_is st in
          let both = (keeps.apart i x.p x.there home).others j x.p.argument y.p.argument (λ z. ne (sym z))
          (mapped (λ (q : PlacedArg). q.argument) c.args i x.p x.there)
          (mapped (λ (q : PlacedArg). q.argument) c.args j y.p y.there)
          (shares_element outer c c i j k k' ((arrays_of outer c j).block k') x y) in
          ⊎_elim (λ z. let w = returned_mode x.p (subst (λ (a : Array). bytes.returned a.mode ≡ true) x.array_is z) in
          let u = w.1 in let v = both.0 in cc)
          (λ z. let w = returned_mode y.p (subst (λ (a : Array). bytes.returned a.mode ≡ true) y.array_is z) in let u
          = w.1 in let v = both.1 in cc) r

  one_sum : (i j : ℕ) → is_reduced (arrays_of outer c i).mode ≡ true → is_reduced (arrays_of outer c j).mode ≡ true → i
      ≡ j
  one_sum i j r r' = it i r ∙ sym (it j r')
    where
      it : (i : ℕ) → is_reduced (arrays_of outer c i).mode ≡ true → i ≡ which_of c.args
      it i r = go (one_of outer c i)
        where
          go : OneOf outer c i → i ≡ which_of c.args
          go (AParam p f at) = sum_only red outer c is i p f
              (reduced_gathers p (subst (λ (a : Array). is_reduced a.mode ≡ true) at r))
          go (ALocal f at) = absurd (local_not_reduced (slice_get (shapes_of c) i)
              (subst (λ (a : Array). is_reduced a.mode ≡ true) at r))

  private_own : (i : ℕ) → is_private (arrays_of outer c i).mode ≡ true → (arrays_of outer c i).place ≡ Buffer
  private_own i r = go (one_of outer c i)
    where
      go : OneOf outer c i → (arrays_of outer c i).place ≡ Buffer
      go (AParam p f at) = ap (λ (a : Array). a.place) at
          ∙ keeps.sum_home i p f (private_gathers p (subst (λ (a : Array). is_private a.mode ≡ true) at r))
      go (ALocal f at) = ap (λ (a : Array). a.place) at ∙ local_private (slice_get (shapes_of c) i)

  pub call_fits : (w : Work) (node : Node)
      → ((at : Layout) (l q : Spot) → Needs w node 0 at l q ⊎ Sets w node 0 at l q → InShapes (shapes_of c) l
      × (at l ≡ q))
      → ((at : Layout) (l q : Spot) → Sets w node 0 at l q → may_of c l.area ≡ true)
      → ((at : Layout) (l q : Spot) → Gathers w node 0 at l q → ⊥) → CallFits (arity_of c) (arrays_of outer c) w node
  call_fits w node reach permitted closed = record {
    inside = λ at l q h. let r = reach at l q h in (in_call outer c l r.0, r.1);
    permitted = λ at l q h. may_write outer c l.area (permitted at l q h);
    distinct = λ i k k' li lk lk' e. distinct i k k' lk lk' e;
    closed = closed;
    one_sum = λ i j li lj r r'. one_sum i j r r';
    private_own = λ i li r. private_own i r;
    no_alias = λ i j k k' li lj ne lk lk' r r' e. no_alias i j k k' ne lk lk' r r' e;
    apart = λ i j k k' li lj ne lk lk' st nl r e. apart i j k k' ne lk lk' st nl r e;
  }
