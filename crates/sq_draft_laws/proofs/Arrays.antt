-- The buffers of a form's arrays: each that isn't in place has its own, which it fits into.
use Rattle.std.proofs.Common.{◌≡◌, ℕ, zero, suc, ◌+◌, ◌*◌, ◌<◌, ◌≤◌, List, [], ◌∷◌, length, drop, slice_get}
use Rattle.std.proofs.Common.{get_or, Option, Some, None, refl, sym, ap, subst, ◌∙◌, arith}
use Rattle.std.specs.Option.{option_map_or}
use Rattle.std.proofs.Math.Nat.{mul_comm}
use Rattle.std.proofs.lemmas.Option.{get_or_from_slice_get, slice_get_within}
use Rattle.sq_num.specs.declared.RedOp.{RedOp}
use Rattle.sq_num.specs.Elements.{width}
use Rattle.sq_rect.specs.Extents.{product}
use Rattle.sq_leaf.specs.declared.shape.Shape.{Shape}
use Rattle.sq_blocks.specs.declared.argument.Argument.{Argument}
use Rattle.sq_ir.specs.declared.plan.Buffer.{Buffer}
use Rattle.sq_ir.specs.Plans.{of_buffer}
use Rattle.sq_spec.specs.declared.body.FormBody.{FormBody}
use Rattle.sq_spec.specs.declared.resolved.Resolved.{Resolved}
use Rattle.sq_homes.specs.SpecLaws.Needs.{rounded}
use Rattle.sq_placed.specs.declared.home.Home.{Home}
use Rattle.sq_placed.specs.declared.home.Home.TheVariants.{InPlace, Held, Twin}
use Rattle.sq_placed.specs.declared.home.Homes.{Homes}
use Rattle.sq_placed.specs.Placed.{PlacedArg, PlacedLocal}
use Rattle.sq_placed.specs.Tables.{no_shape, placed_args, placed_locals, locals_of}
use Rattle.sq_placed.specs.Trees.{local_buffers}
use Rattle.sq_program_laws.specs.PlanLaws.Codes.{bytes_in}
use Rattle.sq_term.specs.Terms.{body_in, homes_in}
use Rattle.sq_program_laws.specs.PlanLaws.Buffers.{home_buffer}
use Rattle.sq_program_laws.proofs.Shapes.{at_mapped}
use Rattle.sq_homes.specs.Chosen.declared.choice.Choice.{Choice}
use Rattle.sq_homes.specs.Chosen.Arrays.{standing, array_size, shape_size, locals_count}
use Rattle.sq_homes.specs.Numbering.{local_base}
use Rattle.sq_homes.specs.Chosen.Forms.{bodies_of, choice_in}
use Rattle.sq_homes.specs.Drafts.{homes_of, buffers_of, buffer_at}
use Rattle.sq_draft_laws.specs.Choosing.{Walked, MayBeChosen}
use Rattle.sq_draft_laws.proofs.Forms.{past_or}
use Rattle.sq_draft_laws.proofs.Numbers.{first_of, form_from}
use Rattle.sq_draft_laws.proofs.Numbered.{in_range}
use Rattle.sq_draft_laws.proofs.ArrayPlaces.{StandsAt, param_stands, second_stands, local_stands}
use Rattle.sq_draft_laws.proofs.Hoisted.{IsForm, params_many, param_is}
use Rattle.sq_draft_laws.proofs.Ordered.{locals_are}

-- ---- the arrays of a call

pub args_many : (op : Option RedOp) (shapes : List Shape) (hs : List Home) (i : ℕ) (args : List Argument)
    → length (placed_args op shapes hs i args) ≡ length args
args_many op shapes hs i [] = refl
args_many op shapes hs i (a ∷ rest) = ap suc (args_many op shapes hs (suc i) rest)

abbrev home_or : Option PlacedArg → Home
home_or None = InPlace
home_or (Some p) = p.home

abbrev shape_or : Option PlacedArg → Shape
shape_or None = no_shape
shape_or (Some p) = p.shape

abbrev local_shape_or : Option PlacedLocal → Option Shape
local_shape_or None = None
local_shape_or (Some l) = Some l.shape

pub record IsArg (shapes : List Shape) (hs : List Home) (i : ℕ) (p : PlacedArg) : Type 0 where
  pub home : p.home ≡ get_or hs i InPlace
  pub shape : p.shape ≡ get_or shapes i no_shape

arg_from : (op : Option RedOp) (shapes : List Shape) (hs : List Home) (i : ℕ) (args : List Argument) (j : ℕ)
    (p : PlacedArg)
    → slice_get (placed_args op shapes hs i args) j ≡ Some p → IsArg shapes hs (i + j) p
arg_from op shapes hs i [] j p h = absurd (cc h)
arg_from op shapes hs i (a ∷ rest) zero p h =
    let here : i ≡ i + 0 = omega arith in
    let home : get_or hs i InPlace ≡ p.home = ap home_or h in
    let shape : get_or shapes i no_shape ≡ p.shape = ap shape_or h in
    record {
      home = sym home ∙ ap (λ k. get_or hs k InPlace) here;
      shape = sym shape ∙ ap (λ k. get_or shapes k no_shape) here;
    }
arg_from op shapes hs i (a ∷ rest) (suc j) p h =
    let next : suc i + j ≡ i + suc j = omega arith in
    subst (λ (k : ℕ). IsArg shapes hs k p) next (arg_from op shapes hs (suc i) rest j p h)

pub arg_at : (op : Option RedOp) (shapes : List Shape) (hs : List Home) (args : List Argument) (j : ℕ) (p : PlacedArg)
    → slice_get (placed_args op shapes hs 0 args) j ≡ Some p → IsArg shapes hs j p
arg_at op shapes hs args j p h =
    let z : 0 + j ≡ j = omega arith in
    subst (λ (k : ℕ). IsArg shapes hs k p) z (arg_from op shapes hs 0 args j p h)

local_at : (shapes : List Shape) (bs : List ℕ) (j : ℕ) (l : PlacedLocal)
    → slice_get (placed_locals shapes bs) j ≡ Some l → slice_get shapes j ≡ Some l.shape
local_at [] bs j l h = absurd (cc h)
local_at (x ∷ shapes) [] j l h = absurd (cc h)
local_at (x ∷ shapes) (b ∷ bs) zero l h = ap local_shape_or h
local_at (x ∷ shapes) (b ∷ bs) (suc j) l h = local_at shapes bs j l h

drop_there : {A : Type 0} (n : ℕ) (xs : List A) (j : ℕ) (x : A) → slice_get (drop n xs) j ≡ Some x
    → slice_get xs (n + j) ≡ Some x
drop_there zero xs j x h = let e : j ≡ 0 + j = omega arith in subst (λ (i : ℕ). slice_get xs i ≡ Some x) e h
drop_there (suc n) [] j x h = absurd (cc h)
drop_there (suc n) (y ∷ xs) j x h =
    let e : suc (n + j) ≡ suc n + j = omega arith in
    subst (λ (i : ℕ). slice_get (y ∷ xs) i ≡ Some x) e (drop_there n xs j x h)

-- ---- sizes

rounded_up : (n : ℕ) → n ≤ rounded n
rounded_up n = omega arith

fits_in : (x : Shape) → bytes_in x ≤ shape_size x
fits_in x =
    let m = rounded_up (width x.elem * product x.extents) in
    let e : product x.extents * width x.elem ≡ width x.elem * product x.extents
    = mul_comm (product x.extents) (width x.elem) in
    omega (arith, m, e)

-- ---- of a form

module _ (r : Resolved) (w : Walked r) (choices : List Choice) (are : MayBeChosen r choices) (k : ℕ) (b : FormBody)
    (f : IsForm r choices are k b) where
  abbrev c : Choice
  c = choice_in choices k

  abbrev first : ℕ
  first = first_of r choices k

  abbrev homes : Homes
  homes = homes_in (homes_of r choices) k

  -- the buffer of the i-th array has this number
  abbrev pub HasNumber : (i n : ℕ) → Type 0
  HasNumber i n = StandsAt c f.chosen.moved b first i n

  -- a parameter's
  pub param_number : (i n : ℕ) → home_buffer (get_or homes.params i InPlace) ≡ Some n → HasNumber i n
  param_number i n e = by (slice_get homes.params i) refl
    where
      by : (o : Option Home) → slice_get homes.params i ≡ o → HasNumber i n
      by None g =
          let z : None ≡ Some n = sym (ap home_buffer (past_or homes.params i InPlace g)) ∙ e in
          absurd (cc z)
      by (Some h) g =
          let p = param_is r choices are k b f i h g in
          param_stands c f.chosen.moved b first i n p.less
          (ap home_buffer (p.is ∙ sym (get_or_from_slice_get homes.params i h InPlace g)) ∙ e)

  -- and in the second set
  pub second_number : (i m n : ℕ) → get_or homes.params i InPlace ≡ Twin m n → HasNumber i n
  second_number i m n e = by (slice_get homes.params i) refl
    where
      by : (o : Option Home) → slice_get homes.params i ≡ o → HasNumber i n
      by None g =
          let z : InPlace ≡ Twin m n = sym (past_or homes.params i InPlace g) ∙ e in
          absurd (cc z)
      by (Some h) g =
          let p = param_is r choices are k b f i h g in
          second_stands c f.chosen.moved b first i m n p.less
          (p.is ∙ sym (get_or_from_slice_get homes.params i h InPlace g) ∙ e)

  pub held_number : (i n m : ℕ) → get_or homes.params i InPlace ≡ Held n m → HasNumber i n
  held_number i n m e = param_number i n (ap home_buffer e)

  -- what leaves loops is a parameter
  pub held_less : (i n m : ℕ) → get_or homes.params i InPlace ≡ Held n m → i < length c.in_place
  held_less i n m e = by (slice_get homes.params i) refl
    where
      by : (o : Option Home) → slice_get homes.params i ≡ o → i < length c.in_place
      by None g =
          let z : InPlace ≡ Held n m = sym (past_or homes.params i InPlace g) ∙ e in
          absurd (cc z)
      by (Some h) g = (param_is r choices are k b f i h g).less

  -- a local's
  pub local_number : (j n : ℕ) → slice_get (local_buffers (locals_of (body_in (bodies_of r) k) homes)) j ≡ Some n
      → HasNumber (length c.in_place + j) n
  local_number j n e =
      let q = in_range (local_base first c) (locals_count b.arrays c) j n
      (ap (λ (l : List ℕ). slice_get l j) (sym (locals_are r w choices are k b f)) ∙ e) in
      subst (HasNumber (length c.in_place + j)) (sym q.is)
      (local_stands c f.chosen.moved b first j q.less)

  -- one array's alone
  pub same_array : (i j n : ℕ) → HasNumber i n → HasNumber j n → i ≡ j
  same_array i j n x y =
      let a = x.number in
      let d = y.number in
      let e : x.place ≡ y.place = omega (arith, a, d) in
      let s : Some i ≡ Some j = sym x.stands ∙ ap (slice_get (standing b c)) e ∙ y.stands in
      cc s

  -- of this form
  pub form_is : (i n : ℕ) → HasNumber i n → form_from choices 0 (bodies_of r) n ≡ k
  form_is i n x =
      ap (form_from choices 0 (bodies_of r)) x.number
      ∙ f.at.form x.place (slice_get_within (standing b c) x.place i x.stands)

  size_is : (i n : ℕ) → HasNumber i n
      → of_buffer (buffers_of r choices) (λ (x : Buffer). x.size) n ≡ array_size b i
  size_is i n x =
      let s = standing b c in
      ap (of_buffer (buffers_of r choices) (λ (y : Buffer). y.size)) x.number
      ∙ ap (λ (o : Option Buffer). option_map_or (λ (y : Buffer). y.size) o 0)
      (f.at.buffers x.place (slice_get_within s x.place i x.stands)
      ∙ at_mapped (buffer_at r k b) s x.place i x.stands)

  -- the array fits into it
  pub fits : (i n : ℕ) (x : Shape) → HasNumber i n → x ≡ get_or b.arrays i no_shape
      → bytes_in x ≤ of_buffer (buffers_of r choices) (λ (y : Buffer). y.size) n
  fits i n x h e =
      subst (λ (m : ℕ). bytes_in x ≤ m) (sym (size_is i n h))
      (subst (λ (y : Shape). bytes_in x ≤ shape_size y) e (fits_in x))

  -- the shape of a local
  pub local_shape : (j : ℕ) (l : PlacedLocal) → slice_get (locals_of (body_in (bodies_of r) k) homes) j ≡ Some l
      → slice_get b.arrays (length c.in_place + j) ≡ Some l.shape
  local_shape j l h =
      let all = homes.locals in
      drop_there (length c.in_place) b.arrays j l.shape (local_at (drop (length c.in_place) b.arrays) all j l
      (sym (ap (λ (x : FormBody). slice_get (placed_locals (drop (length homes.params) x.arrays) all) j) f.body
      ∙ ap (λ (n : ℕ). slice_get (placed_locals (drop n b.arrays) all) j) (params_many r choices are k b f)) ∙ h))
