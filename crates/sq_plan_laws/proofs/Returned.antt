-- A caller's arrays at its callee's end: on numbers, and on the bytes that they are loaded from.
use Rattle.std.proofs.Common.{◌≡◌, ◌≢◌, ℕ, zero, suc, ◌+◌, ◌*◌, ◌<◌, Bool, true, false, ◌&&◌, List, [], ◌∷◌, map, refl}
use Rattle.std.proofs.Common.{sym, ap, ap₂, ◌∙◌, subst, arith, ◌⊎◌, inl, inr, ⊎_elim}
use Rattle.std.specs.Prelude.{Option, Some, None, slice_get, nat_eq, if◌then◌else◌}
use Rattle.std.specs.List.{list_any}
use Rattle.std.proofs.lemmas.Bool.Decides.{nat_tests}
use Rattle.sq_num.specs.declared.RedOp.{RedOp}
use Rattle.sq_num.specs.Elements.{width, value}
use Rattle.sq_rect.specs.Extents.{product}
use Rattle.sq_rect.specs.Placing.{IsIn}
use Rattle.sq_leaf.specs.declared.shape.Shape.{Shape}
use Rattle.sq_leaf.specs.Source.{Arrays}
use Rattle.sq_ast.specs.declared.program.Mode as source
use Rattle.sq_ast.specs.declared.program.Mode.TheVariants as mode
use Rattle.sq_blocks.specs.declared.argument.Argument.{Argument}
use Rattle.sq_blocks.specs.Arguments.{lengths}
use Rattle.sq_ast.specs.Modes.{is_written}
use Rattle.sq_placed.specs.FormLaws.Laws.{NoAlias, SharesElement}
use Rattle.sq_work.specs.Meaning.{covers, in_block, has, at_return}
use Rattle.sq_placed.specs.Placed.{PlacedArg, PlacedCall, arguments}
use Rattle.sq_cells.specs.Cells.{spot, State}
use Rattle.sq_cells.specs.Work.{Array, come_back, any_block}
use Rattle.sq_cells.specs.Work as bytes
use Rattle.sq_cells.proofs.Access.{block_true, block_from, and_true, or_true, or_left, or_right}
use Rattle.sq_cells.proofs.Calls.{come_back_in, come_back_out}
use Rattle.sq_plan_laws.specs.Coordinates.{number}
use Rattle.sq_plan_laws.specs.Codes.{listed, bytes_in, loaded, Codes}
use Rattle.sq_plan_laws.specs.Calling.{plain_mode, mode_by, mode_of, block_of, shapes_of, local_of, array_of}
use Rattle.sq_plan_laws.specs.Calling.{arrays_of, ArgsFit}
use Rattle.sq_plan_laws.specs.OnBytes.{arity_of}
use Rattle.sq_plan_laws.proofs.PlacedLists.{listed_same, at_left, mapped, mapped_from, same_some, there_below}
use Rattle.sq_plan_laws.proofs.Blocks.{covered, cover_in, found_at, element_met}

-- ---- the source

-- a written argument has the element
pub record Wrote (args : List Argument) (m : ℕ) (cs : List ℕ) (value : ℕ → Argument → Type 0) : Type 0 where
  pub j : ℕ
  pub a : Argument
  pub there : slice_get args j ≡ Some a
  pub written : is_written a.mode ≡ true
  pub has_it : has m cs a ≡ true
  pub it : value j a

abbrev pub NoneWrote : List Argument → ℕ → List ℕ → Type 0
NoneWrote args m cs = (j : ℕ) (a : Argument) → slice_get args j ≡ Some a → is_written a.mode ≡ true → has m cs a ≡ true
    → ⊥

pub returned_by : (k : ℕ) (args : List Argument) (inner s : Arrays) (m : ℕ) (cs : List ℕ)
    → Wrote args m cs (λ j a. at_return k args inner s m cs ≡ inner (k + j) (in_block a.rect cs))
    ⊎ (NoneWrote args m cs × (at_return k args inner s m cs ≡ s m cs))
returned_by k [] inner s m cs = inr ((λ j a e w h. cc), refl)
returned_by k (a ∷ args) inner s m cs
    = go (is_written a.mode && has m cs a) refl (returned_by (suc k) args inner s m cs)
  where
    go : (b : Bool) → (is_written a.mode && has m cs a) ≡ b
        → Wrote args m cs (λ j x. at_return (suc k) args inner s m cs ≡ inner (suc k + j) (in_block x.rect cs))
        ⊎ (NoneWrote args m cs × (at_return (suc k) args inner s m cs ≡ s m cs))
        → Wrote (a ∷ args) m cs (λ j x. at_return k (a ∷ args) inner s m cs ≡ inner (k + j) (in_block x.rect cs))
        ⊎ (NoneWrote (a ∷ args) m cs × (at_return k (a ∷ args) inner s m cs ≡ s m cs))
    go true e rest =
        let two = and_true (is_written a.mode) (has m cs a) e in
        let here : k ≡ k + 0 = omega arith in
        inl (record {
          j = 0;
          a = a;
          there = refl;
          written = two.0;
          has_it = two.1;
          it
              = ap (λ b. if b then inner k (in_block a.rect cs) else at_return (suc k) args inner s m cs) e
              ∙ ap (λ i. inner i (in_block a.rect cs)) here;
        })
    go false e (inl w) =
        let next : suc k + w.j ≡ k + suc w.j = omega arith in
        inl (record {
          j = suc w.j;
          a = w.a;
          there = w.there;
          written = w.written;
          has_it = w.has_it;
          it = ap (λ b. if b then inner k (in_block a.rect cs) else at_return (suc k) args inner s m cs) e ∙ w.it
              ∙ ap (λ i. inner i (in_block w.a.rect cs)) next;
        })
    go false e (inr n) = inr (
      none,
      ap
          (λ b. if b then inner k (in_block a.rect cs) else at_return (suc k) args inner s m cs) e ∙ n.1,
    )
      where
        none : NoneWrote (a ∷ args) m cs
        none zero x f w h = let same : a ≡ x = cc in let z : (is_written a.mode && has m cs a) ≡ true
            = subst (λ (y : Argument). (is_written y.mode && has m cs y) ≡ true) (sym same) (ap₂ (λ u v. u && v) w h) in
            cc
        none (suc j) x f w h = n.0 j x f w h

pub any_by : (args : List Argument) (m : ℕ) (cs : List ℕ)
    → (list_any (λ a. is_written a.mode && has m cs a) args ≡ true) → Wrote args m cs (λ j a. Unit {0})
any_by [] m cs e = cc
any_by (a ∷ args) m cs e = ⊎_elim here (λ f. later (any_by args m cs f))
    (or_true (is_written a.mode && has m cs a) (list_any (λ a. is_written a.mode && has m cs a) args) e)
  where
    here : (is_written a.mode && has m cs a) ≡ true → Wrote (a ∷ args) m cs (λ j a. Unit {0})
    here f = let two = and_true (is_written a.mode) (has m cs a) f in record
        { j = 0; a = a; there = refl; written = two.0; has_it = two.1; it = tt }

    later : Wrote args m cs (λ j a. Unit {0}) → Wrote (a ∷ args) m cs (λ j a. Unit {0})
    later w = record { j = suc w.j; a = w.a; there = w.there; written = w.written; has_it = w.has_it; it = tt }

pub any_from : (args : List Argument) (m : ℕ) (cs : List ℕ) (j : ℕ) (a : Argument) → slice_get args j ≡ Some a
    → is_written a.mode ≡ true → has m cs a ≡ true → list_any (λ a. is_written a.mode && has m cs a) args ≡ true
any_from [] m cs j a e w h = cc
any_from (x ∷ args) m cs zero a e w h =
    let same : x ≡ a = cc in
    or_left (is_written x.mode && has m cs x) (list_any (λ a. is_written a.mode && has m cs a) args)
    (subst (λ (y : Argument). (is_written y.mode && has m cs y) ≡ true) (sym same) (ap₂ (λ u v. u && v) w h))
any_from (x ∷ args) m cs (suc j) a e w h
    = or_right (is_written x.mode && has m cs x) (list_any (λ a. is_written a.mode && has m cs a) args)
    (any_from args m cs j a e w h)

pub has_array : (m : ℕ) (cs : List ℕ) (a : Argument) → has m cs a ≡ true → (a.array ≡ m) × (covers a.rect cs ≡ true)
has_array m cs a e = let two = and_true (nat_eq m a.array) (covers a.rect cs) e in let same : a.array ≡ m
    = grind (arith, nat_tests, two.0) in (same, two.1)

pub array_has : (m : ℕ) (cs : List ℕ) (a : Argument) → a.array ≡ m → covers a.rect cs ≡ true → has m cs a ≡ true
array_has m cs a e f = let same : nat_eq m a.array ≡ true = grind (arith, nat_tests, e) in ap₂ (λ u v. u && v) same f

-- ---- modes

pub returned_plain : (m : source.Mode) → bytes.returned (plain_mode m) ≡ is_written m
returned_plain mode.Input = refl
returned_plain mode.Output = refl
returned_plain mode.Both = refl

pub returned_mode : (p : PlacedArg) → bytes.returned (mode_of p) ≡ true → (p.gathers ≡ None)
    × (is_written p.argument.mode ≡ true)
returned_mode p e = go p.gathers refl e
  where
    go : (g : Option RedOp) → p.gathers ≡ g → bytes.returned (mode_by g p.shape.elem p.argument.mode) ≡ true
        → (p.gathers ≡ None) × (is_written p.argument.mode ≡ true)
    go None f h = (f, sym (returned_plain p.argument.mode) ∙ h)
    go (Some op) f h = cc

pub mode_returned : (p : PlacedArg) → p.gathers ≡ None → is_written p.argument.mode ≡ true → bytes.returned (mode_of p)
    ≡ true
mode_returned p g w = ap (λ x. bytes.returned (mode_by x p.shape.elem p.argument.mode)) g
    ∙ (returned_plain p.argument.mode ∙ w)

-- two tests of which each gives the other
pub same_bool : (x y : Bool) → (x ≡ true → y ≡ true) → (y ≡ true → x ≡ true) → x ≡ y
same_bool true y f g = sym (f refl)
same_bool false true f g = g refl
same_bool false false f g = refl

-- ---- arrays of a call

-- a returned array is an argument's
pub record IsArg (outer : List Shape) (c : PlacedCall) (i : ℕ) : Type 0 where
  pub p : PlacedArg
  pub there : slice_get c.args i ≡ Some p
  pub is : arrays_of outer c i ≡ array_of outer (Some p) (slice_get (shapes_of c) i)

local_mode : (o : Option Shape) → (local_of o).mode ≡ bytes.Local
local_mode None = refl
local_mode (Some sh) = refl

pub arg_is : (outer : List Shape) (c : PlacedCall) (i : ℕ) → (arrays_of outer c i).mode ≢ bytes.Local → IsArg outer c i
arg_is outer c i h = go (slice_get c.args i) refl
  where
    go : (o : Option PlacedArg) → slice_get c.args i ≡ o → IsArg outer c i
    go (Some p) e = record { p = p; there = e; is = ap (λ o. array_of outer o (slice_get (shapes_of c) i)) e }
    go None e = absurd (h (ap (λ o. (array_of outer o (slice_get (shapes_of c) i)).mode) e ∙ local_mode
        (slice_get (shapes_of c) i)))

pub array_is : (outer : List Shape) (c : PlacedCall) (i : ℕ) (p : PlacedArg) → slice_get c.args i ≡ Some p
    → arrays_of outer c i ≡ array_of outer (Some p) (slice_get (shapes_of c) i)
array_is outer c i p e = ap (λ o. array_of outer o (slice_get (shapes_of c) i)) e

not_local : (m : bytes.Mode) → bytes.returned m ≡ true → m ≢ bytes.Local
not_local bytes.Input e q = cc
not_local bytes.Output e q = cc
not_local bytes.Both e q = cc
not_local bytes.Local e q = cc
not_local (bytes.Reduced op) e q = cc

-- there are as many arrays as parameters and locals
pub arg_below : (c : PlacedCall) (i : ℕ) (p : PlacedArg) → slice_get c.args i ≡ Some p → i < arity_of c
arg_below c i p e = there_below (shapes_of c) i p.shape
    (at_left (λ (q : PlacedArg). q.shape) c.args (map (λ k. k.shape) c.locals) i p e)

-- a byte of a returned array that is a byte of an element
pub record WroteByte (outer : List Shape) (c : PlacedCall) (m : ℕ) (ds : List ℕ) (d i k : ℕ) : Type 0 where
  pub p : PlacedArg
  pub there : slice_get c.args i ≡ Some p
  pub gathers : p.gathers ≡ None
  pub written : is_written p.argument.mode ≡ true
  pub array : p.argument.array ≡ m
  pub covers_it : covers p.argument.rect ds ≡ true
  pub byte : (of : Shape) → slice_get outer p.argument.array ≡ Some of → k
      ≡ number (lengths p.argument.rect) (in_block p.argument.rect ds) * width of.elem + d

pub size_is : (p : PlacedArg) (of : Shape) → p.shape.elem ≡ of.elem → p.shape.extents ≡ lengths p.argument.rect
    → (k : ℕ) → k < bytes_in p.shape → k < product (lengths p.argument.rect) * width of.elem
size_is p of elem extents k lt = subst (λ z. k < z) (ap₂ (λ ns e. product ns * width e) extents elem) lt

pub wrote_byte : (outer : List Shape) (c : PlacedCall) → ArgsFit outer c.args
    → (m : ℕ) (sh : Shape) (ds : List ℕ) (d i k : ℕ) → slice_get outer m ≡ Some sh → IsIn sh.extents ds → d
    < width sh.elem
    → k < (arrays_of outer c i).size → bytes.returned (arrays_of outer c i).mode ≡ true → (arrays_of outer c i).block k
    ≡ spot m (number sh.extents ds * width sh.elem + d) → WroteByte outer c m ds d i k
wrote_byte outer c fit m sh ds d i k there at ld lk r e =
    let arg = arg_is outer c i (not_local (arrays_of outer c i).mode r) in
    let fits = fit.each i arg.p arg.there in
    let mode = returned_mode arg.p (subst (λ (a : Array). bytes.returned a.mode ≡ true) arg.is r) in
    let small = size_is arg.p fits.of fits.elem fits.extents k (subst (λ (a : Array). k < a.size) arg.is lk) in
    let met = element_met outer arg.p.argument fits.of sh k m d ds fits.there fits.fits small there at ld
    (subst (λ (a : Array). a.block k ≡ spot m (number sh.extents ds * width sh.elem + d)) arg.is e) in
    record {
      p = arg.p;
      there = arg.there;
      gathers = mode.0;
      written = mode.1;
      array = met.0;
      covers_it = met.1;
      byte = λ of is. met.2 ∙ ap (λ (z : Shape). number (lengths arg.p.argument.rect) (in_block arg.p.argument.rect ds)
          * width z.elem + d) (same_some (sym fits.there ∙ is));
    }

-- two written arguments that have an element are one
pub one_writes : (args : List Argument) → NoAlias args → (i j : ℕ) (x y : Argument) (m : ℕ) (cs : List ℕ)
    → slice_get args i ≡ Some x → slice_get args j ≡ Some y → is_written x.mode ≡ true → is_written y.mode ≡ true
    → x.array ≡ m → y.array ≡ m → covers x.rect cs ≡ true → covers y.rect cs ≡ true → i ≢ j → ⊥
one_writes args alone i j x y m cs ex ey wx wy mx my cx cy ne
    = ⊎_elim (λ lt. alone i j x y lt ex ey wx wy (shared y x my mx cy cx))
    (λ lt. alone j i y x lt ey ex wy wx (shared x y mx my cx cy)) (ordered ne)
  where
    ordered : i ≢ j → (i < j) ⊎ (j < i)
    ordered ne = grind arith

    shared : (u v : Argument) → u.array ≡ m → v.array ≡ m → covers u.rect cs ≡ true → covers v.rect cs ≡ true
        → SharesElement u v
    shared u v mu mv cu cv = record {
      array = mu ∙ sym mv;
      blocks = record
          { coordinate = cs; in_one = covered u.rect cs cu; in_other = covered v.rect cs cv };
    }

-- ---- the caller's arrays

module _ (outer : List Shape) (c : PlacedCall) (fit : ArgsFit outer c.args) (alone : NoAlias (arguments c.args)) (m : ℕ)
    (of : Shape) (cs : List ℕ) (there : slice_get outer m ≡ Some of) (at : IsIn of.extents cs)
    (none : (k : ℕ) (p : PlacedArg) → slice_get c.args k ≡ Some p → p.argument.array ≡ m → p.gathers ≡ None) where
  -- the argument that has the element
  back_in : (inner' s' : State) (j : ℕ) (p : PlacedArg) → slice_get c.args j ≡ Some p → is_written p.argument.mode
      ≡ true → p.argument.array ≡ m → covers p.argument.rect cs ≡ true → (b : ℕ) → b < width of.elem
      → come_back (arity_of c) (arrays_of outer c) inner' s' (spot m (number of.extents cs * width of.elem + b))
      ≡ inner' (spot j (number (lengths p.argument.rect) (in_block p.argument.rect cs) * width of.elem + b))
  back_in inner' s' j p e w same covers_it b lb =
      let found = found_at p.argument of cs b (covered p.argument.rect cs covers_it) lb in
      let is : arrays_of outer c j ≡ array_of outer (Some p) (slice_get (shapes_of c) j) = array_is outer c j p e in
      let at_m : slice_get outer p.argument.array ≡ Some of = ap (slice_get outer) same ∙ there in
      let block_is : (arrays_of outer c j).block
      (number (lengths p.argument.rect) (in_block p.argument.rect cs) * width of.elem + b)
      ≡ spot m (number of.extents cs * width of.elem + b) =
      ap (λ (a : Array). a.block (number (lengths p.argument.rect) (in_block p.argument.rect cs) * width of.elem + b))
      is
      ∙ ap (λ o. block_of o p.argument
      (number (lengths p.argument.rect) (in_block p.argument.rect cs) * width of.elem + b)) at_m
      ∙ found.is ∙ ap (λ x. spot x (number of.extents cs * width of.elem + b)) same in
      let fits = fit.each j p e in
      let same_of : fits.of ≡ of = same_some (sym fits.there ∙ at_m) in
      let k : ℕ = number (lengths p.argument.rect) (in_block p.argument.rect cs) * width of.elem + b in
      let small : k < (arrays_of outer c j).size =
      subst (λ (a : Array). k < a.size) (sym is)
      (subst (λ z. k < z) (ap₂ (λ ns e. product ns * width e) (sym fits.extents)
      (sym (fits.elem ∙ ap (λ (z : Shape). z.elem) same_of))) found.below) in
      ap (come_back (arity_of c) (arrays_of outer c) inner' s') (sym block_is)
      ∙ come_back_in (arity_of c) (arrays_of outer c) inner' s' j k (arg_below c j p e) small
      (subst (λ (a : Array). bytes.returned a.mode ≡ true) (sym is) (mode_returned p (none j p e same) w))
      (λ k' lk' f. let h = wrote_byte outer c fit m of cs b j k' there at lb lk'
      (subst (λ (a : Array). bytes.returned a.mode ≡ true) (sym is) (mode_returned p (none j p e same) w))
      (f ∙ block_is) in
      let pp : h.p ≡ p = same_some (sym h.there ∙ e) in h.byte of
      (ap (λ (q : PlacedArg). slice_get outer q.argument.array) pp ∙ at_m)
      ∙ ap (λ (q : PlacedArg). number (lengths q.argument.rect) (in_block q.argument.rect cs) * width of.elem + b)
      pp)
      (λ i k' li ne lk' r f. let h = wrote_byte outer c fit m of cs b i k' there at lb lk' r (f ∙ block_is) in
      one_writes (arguments c.args) alone i j h.p.argument p.argument m cs
      (mapped (λ (q : PlacedArg). q.argument) c.args i h.p h.there)
      (mapped (λ (q : PlacedArg). q.argument) c.args j p e) h.written w h.array same h.covers_it covers_it ne)

  back_out : (inner' s' : State) → NoneWrote (arguments c.args) m cs → (b : ℕ) → b < width of.elem
      → come_back (arity_of c) (arrays_of outer c) inner' s' (spot m (number of.extents cs * width of.elem + b))
      ≡ s' (spot m (number of.extents cs * width of.elem + b))
  back_out inner' s' nobody b lb =
      come_back_out (arity_of c) (arrays_of outer c) inner' s' (spot m (number of.extents cs * width of.elem + b))
      (λ i k li lk r f. let h = wrote_byte outer c fit m of cs b i k there at lb lk r f in nobody i h.p.argument
      (mapped (λ (q : PlacedArg). q.argument) c.args i h.p h.there) h.written
      (array_has m cs h.p.argument h.array h.covers_it))

  pub back_codes : (inner s : Arrays) (inner' s' : State) → Codes (shapes_of c) inner inner' → s m cs
      ≡ loaded of (λ k. s' (spot m k)) cs
      → at_return 0 (arguments c.args) inner s m cs
      ≡ loaded of (λ k. come_back (arity_of c) (arrays_of outer c) inner' s' (spot m k)) cs
  back_codes inner s inner' s' codes before = ⊎_elim wrote untouched (returned_by 0 (arguments c.args) inner s m cs)
    where
      wrote : Wrote (arguments c.args) m cs
          (λ j a. at_return 0 (arguments c.args) inner s m cs ≡ inner (0 + j) (in_block a.rect cs))
          → at_return 0 (arguments c.args) inner s m cs
          ≡ loaded of (λ k. come_back (arity_of c) (arrays_of outer c) inner' s' (spot m k)) cs
      wrote h =
          let got = mapped_from (λ (q : PlacedArg). q.argument) c.args h.j h.a h.there in
          let p = got.0 in
          let same = has_array m cs h.a h.has_it in
          let same' : p.argument.array ≡ m = ap (λ (a : Argument). a.array) (sym got.2) ∙ same.0 in
          let cover' : covers p.argument.rect cs ≡ true = ap (λ (a : Argument). covers a.rect cs) (sym got.2)
          ∙ same.1 in
          let wr' : is_written p.argument.mode ≡ true = ap (λ (a : Argument). is_written a.mode) (sym got.2)
          ∙ h.written in
          let fits = fit.each h.j p got.1 in
          let same_of : fits.of ≡ of = same_some (sym fits.there ∙ (ap (slice_get outer) same' ∙ there)) in
          let elem : p.shape.elem ≡ of.elem = fits.elem ∙ ap (λ (z : Shape). z.elem) same_of in
          let zero_plus : 0 + h.j ≡ h.j = omega arith in
          h.it ∙ ap (λ i. inner i (in_block h.a.rect cs)) zero_plus
          ∙ ap (λ (a : Argument). inner h.j (in_block a.rect cs)) got.2
          ∙ codes.at h.j p.shape (in_block p.argument.rect cs)
          (at_left (λ (q : PlacedArg). q.shape) c.args (map (λ k. k.shape) c.locals) h.j p got.1)
          (subst (λ ns. IsIn ns (in_block p.argument.rect cs)) (sym fits.extents)
          (cover_in p.argument.rect cs (covered p.argument.rect cs cover')))
          ∙ ap₂ (λ e ns. value e (listed (width e)
          (λ b. inner' (spot h.j (number ns (in_block p.argument.rect cs) * width e + b))))) elem fits.extents
          ∙ ap (value of.elem) (listed_same (width of.elem) _ _
          (λ b lb. sym (back_in inner' s' h.j p got.1 wr' same' cover' b lb)))

      untouched : NoneWrote (arguments c.args) m cs × (at_return 0 (arguments c.args) inner s m cs ≡ s m cs)
          → at_return 0 (arguments c.args) inner s m cs
          ≡ loaded of (λ k. come_back (arity_of c) (arrays_of outer c) inner' s' (spot m k)) cs
      untouched h = h.1 ∙ before ∙ ap (value of.elem)
          (listed_same (width of.elem) _ _ (λ b lb. sym (back_out inner' s' h.0 b lb)))

  -- and whether it is written
  pub wrote_same : (b : ℕ) → b < width of.elem → list_any (λ a. is_written a.mode && has m cs a) (arguments c.args)
      ≡ any_block (arity_of c) (arrays_of outer c) (spot m (number of.extents cs * width of.elem + b))
  wrote_same b lb = same_bool (list_any (λ a. is_written a.mode && has m cs a) (arguments c.args))
      (any_block (arity_of c) (arrays_of outer c) (spot m (number of.extents cs * width of.elem + b))) forth back
    where
      forth : list_any (λ a. is_written a.mode && has m cs a) (arguments c.args) ≡ true
          → any_block (arity_of c) (arrays_of outer c) (spot m (number of.extents cs * width of.elem + b)) ≡ true
      forth e =
          let h = any_by (arguments c.args) m cs e in
          let got = mapped_from (λ (q : PlacedArg). q.argument) c.args h.j h.a h.there in
          let p = got.0 in
          let same = has_array m cs h.a h.has_it in
          let same' : p.argument.array ≡ m = ap (λ (a : Argument). a.array) (sym got.2) ∙ same.0 in
          let cover' : covers p.argument.rect cs ≡ true = ap (λ (a : Argument). covers a.rect cs) (sym got.2)
          ∙ same.1 in
          let wr' : is_written p.argument.mode ≡ true = ap (λ (a : Argument). is_written a.mode) (sym got.2)
          ∙ h.written in
          let found = found_at p.argument of cs b (covered p.argument.rect cs cover') lb in
          let is : arrays_of outer c h.j ≡ array_of outer (Some p) (slice_get (shapes_of c) h.j)
          = array_is outer c h.j p got.1 in
          let at_m : slice_get outer p.argument.array ≡ Some of = ap (slice_get outer) same' ∙ there in
          let k : ℕ = number (lengths p.argument.rect) (in_block p.argument.rect cs) * width of.elem + b in
          let fits = fit.each h.j p got.1 in
          let same_of : fits.of ≡ of = same_some (sym fits.there ∙ at_m) in
          block_from (arity_of c) (arrays_of outer c) (spot m (number of.extents cs * width of.elem + b)) h.j k
          (arg_below c h.j p got.1)
          (subst (λ (a : Array). k < a.size) (sym is)
          (subst (λ z. k < z) (ap₂ (λ ns e. product ns * width e) (sym fits.extents)
          (sym (fits.elem ∙ ap (λ (z : Shape). z.elem) same_of))) found.below))
          (subst (λ (a : Array). bytes.returned a.mode ≡ true) (sym is) (mode_returned p (none h.j p got.1 same') wr'))
          (ap (λ (a : Array). a.block k) is ∙ ap (λ o. block_of o p.argument k) at_m ∙ found.is
          ∙ ap (λ x. spot x (number of.extents cs * width of.elem + b)) same')

      back : any_block (arity_of c) (arrays_of outer c) (spot m (number of.extents cs * width of.elem + b)) ≡ true
          → list_any (λ a. is_written a.mode && has m cs a) (arguments c.args) ≡ true
      back e =
          let g = block_true (arity_of c) (arrays_of outer c) (spot m (number of.extents cs * width of.elem + b)) e in
          let h = wrote_byte outer c fit m of cs b g.0 g.1 there at lb g.3 g.4 g.5 in
          any_from (arguments c.args) m cs g.0 h.p.argument
          (mapped (λ (q : PlacedArg). q.argument) c.args g.0 h.p h.there) h.written
          (array_has m cs h.p.argument h.array h.covers_it)
