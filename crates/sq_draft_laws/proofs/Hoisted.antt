-- What is known of each form of a draft whose parameters may leave loops: its body, its homes and its buffers.
use Rattle.std.proofs.Common.{◌≡◌, ℕ, zero, suc, ◌+◌, ◌<◌, ◌≤◌, List, length, map, get_or}
use Rattle.std.proofs.Common.{slice_get, Some, None, refl, sym, ap, ◌∙◌, arith}
use Rattle.std.specs.List.{range_with_len}
use Rattle.std.proofs.lemmas.List.FromFn.{length-range_with_len}
use Rattle.std.proofs.lemmas.Option.{slice_get_within, get_or_from_slice_get}
use Rattle.sq_forms.specs.declared.form.Form.{Form}
use Rattle.sq_spec.specs.declared.body.FormBody.{FormBody}
use Rattle.sq_spec.specs.declared.resolved.Resolved.{Resolved}
use Rattle.sq_spec.specs.Bodies.{no_body}
use Rattle.sq_placed.specs.declared.home.Home.{Home}
use Rattle.sq_placed.specs.declared.home.Home.TheVariants.{InPlace}
use Rattle.sq_placed.specs.declared.home.Homes.{Homes}
use Rattle.sq_term.specs.Terms.{no_homes, body_in, homes_in}
use Rattle.sq_homes.specs.Chosen.declared.choice.Choice.{Choice}
use Rattle.sq_homes.specs.Chosen.Arrays.{locals_count}
use Rattle.sq_homes.specs.Numbering.{home_of, form_homes, local_base}
use Rattle.sq_homes.specs.Chosen.Forms.{bodies_of, choice_in, instance_at, rule_by}
use Rattle.sq_homes.specs.Drafts.{homes_of}
use Rattle.sq_draft_laws.specs.Choosing.{IsChosenFor, MayBeChosen}
use Rattle.sq_draft_laws.proofs.Standing.{map_length}
use Rattle.sq_draft_laws.proofs.Hoisting.{no_item, at_index, bodies_many}
use Rattle.sq_draft_laws.proofs.Numbers.{first_of, FormIsAt, form_is_at}

-- ---- what stands in a list of homes

pub param_or : (f : ℕ → Home) (a n i : ℕ) → i < n → get_or (map f (range_with_len a n)) i InPlace ≡ f (a + i)
param_or f a zero i h = absurd (omega (arith, h))
param_or f a (suc n) zero h = let z : a ≡ a + 0 = omega arith in ap f z
param_or f a (suc n) (suc i) h =
    let z : a + 1 + i ≡ a + suc i = omega arith in param_or f (a + 1) n i (omega (arith, h)) ∙ ap f z

pub param_past : (f : ℕ → Home) (a n i : ℕ) → n ≤ i → get_or (map f (range_with_len a n)) i InPlace ≡ InPlace
param_past f a zero i h = refl
param_past f a (suc n) zero h = absurd (omega (arith, h))
param_past f a (suc n) (suc i) h = param_past f (a + 1) n i (omega (arith, h))

-- the i-th of the parameters, or none
pub record IsParam (f : ℕ → Home) (n i : ℕ) (h : Home) : Type 0 where
  pub less : i < n
  pub is : f i ≡ h

pub param_at : (f : ℕ → Home) (n i : ℕ) (h : Home) → slice_get (map f (range_with_len 0 n)) i ≡ Some h
    → IsParam f n i h
param_at f n i h e =
    let l = slice_get_within (map f (range_with_len 0 n)) i h e in
    let m = map_length f (range_with_len 0 n) in
    let k = length-range_with_len 0 n in
    let z : 0 + i ≡ i = omega arith in
    let less : i < n = omega (arith, l, m, k) in
    record {
      less = less;
      is = sym (ap f z) ∙ sym (param_or f 0 n i less)
          ∙ get_or_from_slice_get (map f (range_with_len 0 n)) i h InPlace e;
    }

module _ (r : Resolved) (choices : List Choice) (hoisted : MayBeChosen r choices) where
  abbrev homes : ℕ → Homes
  homes = homes_in (homes_of r choices)

  -- the k-th form is there, and so are its homes
  pub record IsForm (k : ℕ) (b : FormBody) : Type 0 where
    pub form : Form
    pub there : slice_get r.forms k ≡ Some form
    pub at_body : slice_get (bodies_of r) k ≡ Some b
    pub body : body_in (bodies_of r) k ≡ b
    pub at : FormIsAt r choices k b
    pub chosen : IsChosenFor form (choice_in choices k)
    pub params : (homes k).params
        ≡ map (home_of (first_of r choices k) (choice_in choices k))
        (range_with_len 0 (length (choice_in choices k).in_place))
    pub locals : (homes k).locals
        ≡ range_with_len (local_base (first_of r choices k) (choice_in choices k))
        (locals_count b.arrays (choice_in choices k))

  pub is_form : (k : ℕ) (b : FormBody) → slice_get (bodies_of r) k ≡ Some b → IsForm k b
  is_form k b h =
      let l = slice_get_within (bodies_of r) k b h in
      let m = bodies_many r choices in
      let f = at_index r.forms k (omega (arith, l, m)) in
      let c = choice_in choices k in
      let at = form_is_at r choices k b h in
      let first = first_of r choices k in
      let own : homes k ≡ form_homes first (rule_by (instance_at r k)) at.code b c
      = get_or_from_slice_get (homes_of r choices) k (form_homes first (rule_by (instance_at r k)) at.code b c) no_homes
      at.homes in
      record {
        form = f.0;
        there = f.1;
        at_body = h;
        body = get_or_from_slice_get (bodies_of r) k b no_body h;
        at = at;
        chosen = hoisted.each k f.0 f.1;
        params = ap (λ (x : Homes). x.params) own;
        locals = ap (λ (x : Homes). x.locals) own;
      }

  pub no_body_at : (k : ℕ) → slice_get (bodies_of r) k ≡ None → body_in (bodies_of r) k ≡ no_body
  no_body_at k h = no_item (bodies_of r) k no_body h

  module _ (k : ℕ) (b : FormBody) (f : IsForm k b) where
    pub params_many : length (homes k).params ≡ length (choice_in choices k).in_place
    params_many =
        ap length f.params
        ∙ map_length (home_of (first_of r choices k) (choice_in choices k))
        (range_with_len 0 (length (choice_in choices k).in_place))
        ∙ length-range_with_len 0 (length (choice_in choices k).in_place)

    pub param_is : (i : ℕ) (h : Home) → slice_get (homes k).params i ≡ Some h
        → IsParam (home_of (first_of r choices k) (choice_in choices k)) (length (choice_in choices k).in_place) i h
    param_is i h e = param_at (home_of (first_of r choices k) (choice_in choices k))
        (length (choice_in choices k).in_place) i h (ap (λ (hs : List Home). slice_get hs i) (sym f.params) ∙ e)
