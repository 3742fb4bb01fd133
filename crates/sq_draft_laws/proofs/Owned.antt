-- Each array of a call has a buffer of its own, that nothing further in brings into scope; and so has each argument that
-- leaves a loop.
use Rattle.std.proofs.Common.{◌≡◌, ℕ, zero, suc, ◌+◌, ◌<◌, ◌≤◌, Bool, true, false, List, [], ◌∷◌, ◌++◌, map}
use Rattle.std.proofs.Common.{length, slice_get, get_or, Option, Some, None, if◌then◌else◌, refl, sym, ap, subst, ◌∙◌}
use Rattle.std.proofs.Common.{arith}
use Rattle.std.specs.List.{All, Contains}
use Rattle.std.proofs.lemmas.Option.{get_or_from_slice_get, slice_get_within}
use Rattle.sq_num.specs.declared.RedOp.{RedOp}
use Rattle.sq_leaf.specs.declared.shape.Shape.{Shape}
use Rattle.sq_blocks.specs.declared.argument.Argument.{Argument}
use Rattle.sq_ir.specs.declared.plan.PlanNode.{PlanNode}
use Rattle.sq_form_laws.proofs.AnswerHold.{forms_callers_first}
use Rattle.sq_form_laws.proofs.RanHold.{as_many_forms}
use Rattle.sq_spec.specs.declared.statement.CallInstance.{CallInstance}
use Rattle.sq_spec.specs.declared.body.FormBody.{FormBody}
use Rattle.sq_spec.specs.declared.resolved.Resolved.{Resolved}
use Rattle.sq_placed.specs.declared.home.Home.{Home}
use Rattle.sq_placed.specs.declared.home.Home.TheVariants.{InPlace, Own, Held, Twin}
use Rattle.sq_placed.specs.declared.home.Homes.{Homes}
use Rattle.sq_placed.specs.Placed.{Placed, PlacedArg, PlacedLocal, PlacedCall}
use Rattle.sq_placed.specs.Tables.{no_shape, placed_args, locals_of, placed_call, leaves_loop, leaving_args}
use Rattle.sq_placed.specs.Tables.{held_arg}
use Rattle.sq_program_laws.specs.PlanLaws.Calling.{shapes_of}
use Rattle.sq_program_laws.specs.PlanLaws.Codes.{bytes_in}
use Rattle.sq_program_laws.proofs.PlanLaws.PlacedLists.{same_some}
use Rattle.sq_term.specs.Terms.{body_in, homes_in}
use Rattle.sq_program_laws.specs.PlanLaws.Buffers.{home_buffer, opened_buffer, HasBuffer, OpensBuffer, HoldsBuffer, Opens}
use Rattle.sq_program_laws.specs.PlanLaws.Buffers.{IsAmong, CallOwns, HoldOwns, buffer_in, opened_in, array_buffers, HasInSet, OpensInSet, IsTwice, PipeOwns}
use Rattle.sq_program_laws.proofs.PlanLaws.Live.{opens_has}
use Rattle.sq_program_laws.specs.Sizes.{IsSized}
use Rattle.sq_program_laws.proofs.Shapes.{mapped_at, at_mapped}
use Rattle.sq_program_laws.proofs.Whole.{arrays_are_sized}
use Rattle.sq_program_laws.proofs.Carried.{leaves_by, left_at}
use Rattle.sq_homes.specs.Chosen.declared.choice.Choice.{Choice}
use Rattle.sq_homes.specs.Chosen.Forms.{bodies_of, choice_in}
use Rattle.sq_homes.specs.Drafts.{homes_of}
use Rattle.sq_draft_laws.specs.Choosing.{Walked, MayBeChosen, setting_of}
use Rattle.sq_draft_laws.proofs.Hoisting.{at_index, bodies_many}
use Rattle.sq_draft_laws.proofs.Programs.{bodies_are_tables}
use Rattle.sq_draft_laws.proofs.Standing.{map_length}
use Rattle.sq_draft_laws.proofs.Forms.{past_or}
use Rattle.sq_draft_laws.proofs.Numbers.{first_of, form_from}
use Rattle.sq_draft_laws.proofs.Lists.{Split, front, behind, split}
use Rattle.sq_draft_laws.proofs.Callers.{walk, RowIs}
use Rattle.sq_draft_laws.proofs.ArrayPlaces.{HomeIs, stays, owns, owns_two, leaves, home_by, others_some}
use Rattle.sq_draft_laws.proofs.Hoisted.{IsForm, is_form, param_is, params_many}
use Rattle.sq_draft_laws.proofs.Arrays.{args_many, arg_at, HasNumber, param_number, second_number, held_number, held_less, local_number}
use Rattle.sq_draft_laws.proofs.Arrays.{same_array, form_is, fits, local_shape}

-- ---- what a set brings into scope it has

opened_has : (k : ℕ) (h : Home) (n : ℕ) → opened_in k h ≡ Some n → buffer_in k h ≡ Some n
opened_has zero InPlace n e = e
opened_has zero (Own b) n e = e
opened_has zero (Held b loops) n e = absurd (cc e)
opened_has zero (Twin b c) n e = e
opened_has (suc k) InPlace n e = e
opened_has (suc k) (Own b) n e = e
opened_has (suc k) (Held b loops) n e = absurd (cc e)
opened_has (suc k) (Twin b c) n e = e

front_in : (ps : List PlacedArg) (rest : List (Option ℕ)) (k i n : ℕ)
    → slice_get (map (λ (p : PlacedArg). opened_in k p.home) ps ++ rest) i ≡ Some (Some n)
    → slice_get (map (λ (p : PlacedArg). buffer_in k p.home) ps ++ rest) i ≡ Some (Some n)
front_in [] rest k i n e = e
front_in (p ∷ ps) rest k zero n e = ap Some (opened_has k p.home n (same_some e))
front_in (p ∷ ps) rest k (suc i) n e = front_in ps rest k i n e

pub opens_in : (c : PlacedCall) (k i n : ℕ) → OpensInSet c k i n → HasInSet c k i n
opens_in c k i n e = front_in c.args (map (λ (l : PlacedLocal). Some l.buffer) c.locals) k i n e

past_none : {A : Type 0} (xs : List A) (i : ℕ) → slice_get xs i ≡ None → i < length xs → ⊥
past_none [] i e l = omega (arith, l)
past_none (x ∷ xs) zero e l = cc e
past_none (x ∷ xs) (suc i) e l = past_none xs i e (omega (arith, l))

-- ---- the arguments that leave a loop, in order

left_behind : (l : ℕ) (hs : List Home) (i : ℕ) (args : List Argument) (m : ℕ) (q : ℕ × Argument)
    → slice_get (leaving_args l hs (suc i) args) m ≡ Some q → q.0 ≡ i → ⊥
left_behind l hs i args m q e same =
    let x = left_at l hs (suc i) args m q e in
    let z = x.1 in
    omega (arith, z, same)

-- each position stands once
pub left_once : (l : ℕ) (hs : List Home) (i : ℕ) (args : List Argument) (m n : ℕ) (p q : ℕ × Argument)
    → slice_get (leaving_args l hs i args) m ≡ Some p → slice_get (leaving_args l hs i args) n ≡ Some q → p.0 ≡ q.0
    → m ≡ n
left_once l hs i [] m n p q g h same = absurd (cc g)
left_once l hs i (a ∷ args) m n p q g h same =
    go (leaves_loop l (get_or hs i InPlace)) (λ j k x y. left_once l hs (suc i) args j k p q x y same) m n g h
  where
    rest : List (ℕ × Argument)
    rest = leaving_args l hs (suc i) args

    go : (t : Bool) → ((j k : ℕ) → slice_get rest j ≡ Some p → slice_get rest k ≡ Some q → j ≡ k)
        → (j k : ℕ) → slice_get (if t then (i, a) ∷ rest else rest) j ≡ Some p
        → slice_get (if t then (i, a) ∷ rest else rest) k ≡ Some q → j ≡ k
    go true ih zero zero x y = refl
    go true ih zero (suc k) x y =
        let is = ap (λ (z : ℕ × Argument). z.0) (same_some x) in
        absurd (left_behind l hs i args k q y (sym same ∙ sym is))
    go true ih (suc j) zero x y =
        let is = ap (λ (z : ℕ × Argument). z.0) (same_some y) in
        absurd (left_behind l hs i args j p x (same ∙ sym is))
    go true ih (suc j) (suc k) x y = ap suc (ih j k x y)
    go false ih j k x y = ih j k x y

module _ (r : Resolved) (w : Walked r) (choices : List Choice) (are : MayBeChosen r choices) where
  abbrev fb : ℕ → FormBody
  fb = body_in (bodies_of r)

  abbrev fh : ℕ → Homes
  fh = homes_in (homes_of r choices)

  -- the form of a buffer
  abbrev pub of_form : ℕ → ℕ
  of_form n = form_from choices 0 (bodies_of r) n

  pub sized : (k n : ℕ) (x : Shape) → slice_get (fb k).arrays n ≡ Some x → IsSized x.extents
  sized k n x h =
      arrays_are_sized r.typed.now r.machine.now.levels r.mapping.now w.faultless w.read (walk r w) w.through k n x
      (ap (λ (y : FormBody). slice_get y.arrays n) (sym (bodies_are_tables as_many_forms r k)) ∙ h)

  -- ---- a call that a row of a form's tables makes

  pub record IsCalled (k : ℕ) (q : CallInstance) : Type 0 where
    pub body : FormBody
    pub form : IsForm r choices are q.form body
    pub later : k < q.form
    pub args : length q.args ≡ length (choice_in choices q.form).in_place

  pub is_called : (k : ℕ) (q : CallInstance) → RowIs r w k q → IsCalled k q
  is_called k q x =
      let less = forms_callers_first r.typed.now.tasks r.mapping.now (walk r w) w.through q.form x.form x.caller x.there
      x.called in
      let m = bodies_many r choices in
      let l = slice_get_within r.forms q.form x.form x.there in
      let b = at_index (bodies_of r) q.form (omega (arith, m, l)) in
      record {
        body = b.0;
        form = is_form r choices are q.form b.0 b.1;
        later = subst (λ (n : ℕ). n < q.form) x.from less;
        args = sym x.flags ∙ sym (are.each q.form x.form x.there).flags;
      }

  module _ (k : ℕ) (q : CallInstance) (is : IsCalled k q) where
    abbrev flags : List Bool
    flags = (choice_in choices q.form).in_place

    abbrev HasIt : ℕ → ℕ → Type 0
    HasIt i n = HasNumber r w choices are q.form is.body is.form i n

    -- what leaves loops has a buffer of the callee's
    pub held_form : (i n m : ℕ) → get_or (fh q.form).params i InPlace ≡ Held n m → of_form n ≡ q.form
    held_form i n m e = form_is r w choices are q.form is.body is.form i n
        (held_number r w choices are q.form is.body is.form i n m e)

    -- and no other one has it
    pub held_once : (i j n m l : ℕ) → get_or (fh q.form).params i InPlace ≡ Held n m
        → get_or (fh q.form).params j InPlace ≡ Held n l → i ≡ j
    held_once i j n m l g h = same_array r w choices are q.form is.body is.form i j n
        (held_number r w choices are q.form is.body is.form i n m g)
        (held_number r w choices are q.form is.body is.form j n l h)

    module _ (op : Option RedOp) (lower : Bool) where
      abbrev c : PlacedCall
      c = placed_call fb fh op lower q

      abbrev args : List PlacedArg
      args = placed_args op (fb q.form).arrays (fh q.form).params 0 q.args

      abbrev locals : List PlacedLocal
      locals = locals_of (fb q.form) (fh q.form)

      many_args : length args ≡ length flags
      many_args = args_many op (fb q.form).arrays (fh q.form).params 0 q.args ∙ is.args

      kept_number : (j n : ℕ) → slice_get (map (λ (x : PlacedLocal). Some x.buffer) locals) j ≡ Some (Some n)
          → HasIt (length args + j) n
      kept_number j n h =
          let m = mapped_at (λ (x : PlacedLocal). Some x.buffer) locals j (Some n) h in
          let buffer : m.of.buffer ≡ n = let e = m.is in cc e in
          subst (λ (l : ℕ). HasIt (l + j) n) (sym many_args)
          (local_number r w choices are q.form is.body is.form j n
          (at_mapped (λ (x : PlacedLocal). x.buffer) locals j m.of m.there ∙ ap (λ z. Some z) buffer))

      abbrev outside : (Home → Option ℕ) → List (Option ℕ)
      outside buffer = map (λ (p : PlacedArg). buffer p.home) args

      abbrev inside : List (Option ℕ)
      inside = map (λ (x : PlacedLocal). Some x.buffer) locals

      -- of its arguments some buffer, and of its locals theirs
      number_by : (buffer : Home → Option ℕ)
          → ((i n : ℕ) → buffer (get_or (fh q.form).params i InPlace) ≡ Some n → HasIt i n) → (i n : ℕ)
          → slice_get (array_buffers buffer c) i ≡ Some (Some n) → HasIt i n
      number_by buffer given i n h = by (split (outside buffer) inside i (Some n) h)
        where
          by : Split (outside buffer) inside i (Some n) → HasIt i n
          by (front e) =
              let m = mapped_at (λ (p : PlacedArg). buffer p.home) args i (Some n) e in
              let a = arg_at op (fb q.form).arrays (fh q.form).params q.args i m.of m.there in
              given i n (sym (ap buffer a.home) ∙ m.is)
          by (behind j m e) =
              let l = map_length (λ (p : PlacedArg). buffer p.home) args in
              let at : length args + j ≡ i = omega (arith, l, m) in
              subst (λ (x : ℕ). HasIt x n) at (kept_number j n e)

      its_number : (i n : ℕ) → HasBuffer c i n → HasIt i n
      its_number = number_by home_buffer (param_number r w choices are q.form is.body is.form)

      -- in one of two sets
      set_number : (k i n : ℕ) → HasInSet c k i n → HasIt i n
      set_number k = number_by (buffer_in k) (λ i n. by k i n (get_or (fh q.form).params i InPlace) refl)
        where
          by : (k i n : ℕ) (h : Home) → get_or (fh q.form).params i InPlace ≡ h
              → buffer_in k h ≡ Some n → HasIt i n
          by zero i n InPlace e g = absurd (let z = g in cc z)
          by zero i n (Own x) e g = param_number r w choices are q.form is.body is.form i n (ap home_buffer e ∙ g)
          by zero i n (Held x l) e g = param_number r w choices are q.form is.body is.form i n (ap home_buffer e ∙ g)
          by zero i n (Twin x y) e g = param_number r w choices are q.form is.body is.form i n (ap home_buffer e ∙ g)
          by (suc k) i n InPlace e g = absurd (let z = g in cc z)
          by (suc k) i n (Own x) e g = param_number r w choices are q.form is.body is.form i n (ap home_buffer e ∙ g)
          by (suc k) i n (Held x l) e g = param_number r w choices are q.form is.body is.form i n (ap home_buffer e ∙ g)
          by (suc k) i n (Twin x y) e g =
              let z : y ≡ n = let f = g in cc f in
              second_number r w choices are q.form is.body is.form i x n (e ∙ ap (Twin x) z)

      its_shape : (i : ℕ) (x : Shape) → slice_get (shapes_of c) i ≡ Some x → x ≡ get_or is.body.arrays i no_shape
      its_shape i x h
          = by (split (map (λ (p : PlacedArg). p.shape) args) (map (λ (l : PlacedLocal). l.shape) locals) i x h)
        where
          by : Split (map (λ (p : PlacedArg). p.shape) args) (map (λ (l : PlacedLocal). l.shape) locals) i x
              → x ≡ get_or is.body.arrays i no_shape
          by (front e) =
              let m = mapped_at (λ (p : PlacedArg). p.shape) args i x e in
              let a = arg_at op (fb q.form).arrays (fh q.form).params q.args i m.of m.there in
              sym m.is ∙ a.shape ∙ ap (λ (y : FormBody). get_or y.arrays i no_shape) is.form.body
          by (behind j m e) =
              let l = map_length (λ (p : PlacedArg). p.shape) args in
              let n = many_args in
              let at : i ≡ length flags + j = omega (arith, l, m, n) in
              let f = mapped_at (λ (y : PlacedLocal). y.shape) locals j x e in
              sym f.is
              ∙ sym (get_or_from_slice_get is.body.arrays (length flags + j) f.of.shape no_shape
              (local_shape r w choices are q.form is.body is.form j f.of f.there))
              ∙ ap (λ z. get_or is.body.arrays z no_shape) (sym at)

      pub its_form : (i n : ℕ) → HasBuffer c i n → of_form n ≡ q.form
      its_form i n h = form_is r w choices are q.form is.body is.form i n (its_number i n h)

      pub set_form : (k i n : ℕ) → HasInSet c k i n → of_form n ≡ q.form
      set_form k i n h = form_is r w choices are q.form is.body is.form i n (set_number k i n h)

      its_locals : (j : ℕ) (l : PlacedLocal) → slice_get locals j ≡ Some l → All (λ n. 0 < n) l.shape.extents
      its_locals j l h =
          (sized q.form (length flags + j) l.shape
          (ap (λ (y : FormBody). slice_get y.arrays (length flags + j)) is.form.body
          ∙ local_shape r w choices are q.form is.body is.form j l h)).some

      -- what the call brings into scope leaves no loop
      not_left : (opens : Home → Option ℕ) → ((i n m : ℕ) → opens (Held n m) ≡ None)
          → ((j n : ℕ) → slice_get (array_buffers opens c) j ≡ Some (Some n) → HasIt j n) → (i j n m : ℕ)
          → slice_get (array_buffers opens c) j ≡ Some (Some n) → get_or (fh q.form).params i InPlace ≡ Held n m → ⊥
      not_left opens none number i j n m o e = by (split (outside opens) inside j (Some n) o)
        where
          same : i ≡ j
          same = same_array r w choices are q.form is.body is.form i j n
              (held_number r w choices are q.form is.body is.form i n m e) (number j n o)

          by : Split (outside opens) inside j (Some n) → ⊥
          by (front g) =
              let x = mapped_at (λ (p : PlacedArg). opens p.home) args j (Some n) g in
              let a = arg_at op (fb q.form).arrays (fh q.form).params q.args j x.of x.there in
              let home : x.of.home ≡ Held n m = a.home
              ∙ (ap (λ l. get_or (fh q.form).params l InPlace) (sym same) ∙ e) in
              let z : None ≡ Some n = sym (ap opens home ∙ none i n m) ∙ x.is in
              cc z
          by (behind l g h) =
              let less = held_less r w choices are q.form is.body is.form i n m e in
              let long = map_length (λ (p : PlacedArg). opens p.home) args in
              let many = many_args in
              omega (arith, less, long, many, g, same)

      pub not_held : (i j n m : ℕ) → OpensBuffer c j n → get_or (fh q.form).params i InPlace ≡ Held n m → ⊥
      not_held = not_left opened_buffer (λ i n m. refl) (λ j n o. its_number j n (opens_has c j n o))

      pub not_held_in : (k i j n m : ℕ) → OpensInSet c k j n → get_or (fh q.form).params i InPlace ≡ Held n m → ⊥
      not_held_in zero = not_left (opened_in 0) (λ i n m. refl) (λ j n o. set_number 0 j n (opens_in c 0 j n o))
      not_held_in (suc k)
          = not_left (opened_in (suc k)) (λ i n m. refl) (λ j n o. set_number (suc k) j n (opens_in c (suc k) j n o))

      -- ---- the call owns its buffers, in loops that hold these

      module _ (one : (choice_in choices q.form).overlaps ≡ false) (held : List ℕ)
          (covered : (i n m : ℕ) → get_or (fh q.form).params i InPlace ≡ Held n m → (lower ≡ true) × Contains held n)
        where
          its_homes : (i : ℕ) (p : PlacedArg) → slice_get args i ≡ Some p → IsAmong lower held p.home
          its_homes i p h =
              let a = arg_at op (fb q.form).arrays (fh q.form).params q.args i p h in
              subst (IsAmong lower held) (sym a.home) (by (slice_get (fh q.form).params i) refl)
            where
              of : {x y : Home} → x ≡ y → get_or (fh q.form).params i InPlace ≡ y
                  → HomeIs (choice_in choices q.form) is.form.chosen.moved
                  (first_of r choices q.form) i x
                  → IsAmong lower held y
              of e at (stays f l) = subst (IsAmong lower held) e tt
              of e at (owns f l o) = subst (IsAmong lower held) e tt
              of e at (owns_two f l o) = let no : true ≡ false = sym o ∙ one in absurd (cc no)
              of e at (leaves n f l) = subst (IsAmong lower held) e (covered i _ (suc n) (at ∙ sym e))

              by : (o : Option Home) → slice_get (fh q.form).params i ≡ o
                  → IsAmong lower held (get_or (fh q.form).params i InPlace)
              by None g = subst (IsAmong lower held) (sym (past_or (fh q.form).params i InPlace g)) tt
              by (Some y) g =
                  let at = get_or_from_slice_get (fh q.form).params i y InPlace g in
                  subst (IsAmong lower held) (sym at)
                  (of (param_is r choices are q.form is.body is.form i y g).is at
                  (home_by (choice_in choices q.form) is.form.chosen.moved
                  (first_of r choices q.form) i))

          pub call_owns : (nodes : List PlanNode) (offset : ℕ → ℕ) (x : Placed)
              → ((n : ℕ) → Opens x n → q.form < of_form n)
              → CallOwns (setting_of r choices nodes offset) held c x
          call_owns nodes offset x further = record {
            homes = its_homes;
            distinct = λ i j n g h.
                same_array r w choices are q.form is.body is.form i j n (its_number i n g) (its_number j n h);
            inner = λ i n g h. let a = its_form i n g in let f = further n h in omega (arith, a, f);
            sizes = λ i n y g h.
                fits r w choices are q.form is.body is.form i n y (its_number i n g) (its_shape i y h);
            some = its_locals;
          }

      -- ---- the call of a loop that overlaps its transfers owns both sets

      module _ (two : (choice_in choices q.form).overlaps ≡ true) (held : List ℕ)
          (covered : (i n m : ℕ) → get_or (fh q.form).params i InPlace ≡ Held n m → Contains held n) where
        twice : (i : ℕ) (p : PlacedArg) → slice_get args i ≡ Some p → IsTwice held p.home
        twice i p h =
            let a = arg_at op (fb q.form).arrays (fh q.form).params q.args i p h in
            subst (IsTwice held) (sym a.home) (by (slice_get (fh q.form).params i) refl)
          where
            less : i < length (choice_in choices q.form).in_place
            less =
                let l = slice_get_within args i p h in
                let m = many_args in
                omega (arith, l, m)

            of : {x y : Home} → x ≡ y → get_or (fh q.form).params i InPlace ≡ y
                → HomeIs (choice_in choices q.form) is.form.chosen.moved (first_of r choices q.form) i x
                → IsTwice held y
            of e at (stays f l) = let no : true ≡ false = sym f ∙ are.doubled q.form two i in absurd (cc no)
            of e at (owns f l o) = let no : true ≡ false = sym two ∙ o in absurd (cc no)
            of e at (owns_two f l o) =
                let some = others_some (choice_in choices q.form) is.form.chosen.moved is.body i less f l in
                subst (IsTwice held) e (λ g. omega (arith, g, some))
            of e at (leaves n f l) = subst (IsTwice held) e (covered i _ (suc n) (at ∙ sym e))

            by : (o : Option Home) → slice_get (fh q.form).params i ≡ o
                → IsTwice held (get_or (fh q.form).params i InPlace)
            by None g =
                let m = params_many r choices are q.form is.body is.form in
                absurd (past_none (fh q.form).params i g (omega (arith, less, m)))
            by (Some y) g =
                let at = get_or_from_slice_get (fh q.form).params i y InPlace g in
                subst (IsTwice held) (sym at)
                (of (param_is r choices are q.form is.body is.form i y g).is at
                (home_by (choice_in choices q.form) is.form.chosen.moved (first_of r choices q.form) i))

        pub pipe_owns : (nodes : List PlanNode) (offset : ℕ → ℕ) (x : Placed)
            → ((n : ℕ) → Opens x n → q.form < of_form n)
            → PipeOwns (setting_of r choices nodes offset) held c x
        pipe_owns nodes offset x further = record {
          homes = twice;
          distinct = λ k l i j n g h.
              same_array r w choices are q.form is.body is.form i j n (set_number k i n g) (set_number l j n h);
          inner = λ k i n g h. let a = set_form k i n g in let f = further n h in omega (arith, a, f);
          sizes = λ k i n y g h.
              fits r w choices are q.form is.body is.form i n y (set_number k i n g) (its_shape i y h);
          some = its_locals;
        }

    -- ---- the arguments that leave a loop, with their blocks in this row

    module _ (loops : ℕ) (row : Option CallInstance) where
      abbrev pub leaving : List (ℕ × Argument)
      leaving = leaving_args loops (fh q.form).params 0 q.args

      abbrev pub brought : ℕ × Argument → PlacedArg
      brought = held_arg (fb q.form) (fh q.form) row

      -- the i-th of them has this buffer
      pub record IsLeft (i n : ℕ) : Type 0 where
        pub of : ℕ × Argument
        pub there : slice_get leaving i ≡ Some of
        pub held : get_or (fh q.form).params of.0 InPlace ≡ Held n loops

      left_is : (i n : ℕ) (p : ℕ × Argument) → slice_get leaving i ≡ Some p
          → home_buffer (get_or (fh q.form).params p.0 InPlace) ≡ Some n → IsLeft i n
      left_is i n p e h =
          let x = left_at loops (fh q.form).params 0 q.args i p e in
          let y = leaves_by loops (get_or (fh q.form).params p.0 InPlace) x.3 in
          let z : y.0 ≡ n = same_some (sym (ap home_buffer y.1) ∙ h) in
          record { of = p; there = e; held = y.1 ∙ ap (λ b. Held b loops) z }

      pub left_has : (i n : ℕ) → HoldsBuffer (map brought leaving) i n → IsLeft i n
      left_has i n h =
          let m = mapped_at (λ (p : PlacedArg). home_buffer p.home) (map brought leaving) i (Some n) h in
          let x = mapped_at brought leaving i m.of m.there in
          left_is i n x.of x.there (ap (λ (p : PlacedArg). home_buffer p.home) x.is ∙ m.is)

      its_size : (nodes : List PlanNode) (offset : ℕ → ℕ) (i n l : ℕ) (p : PlacedArg)
          → slice_get (map brought leaving) i ≡ Some p → p.home ≡ Held n l
          → bytes_in p.shape ≤ (setting_of r choices nodes offset).size n
      its_size nodes offset i n l p e h =
          let x = mapped_at brought leaving i p e in
          fits r w choices are q.form is.body is.form x.of.0 n p.shape
          (held_number r w choices are q.form is.body is.form x.of.0 n l (ap (λ (y : PlacedArg). y.home) x.is ∙ h))
          (sym (ap (λ (y : PlacedArg). y.shape) x.is)
          ∙ ap (λ (y : FormBody). get_or y.arrays x.of.0 no_shape) is.form.body)

      -- what is opened in the loop and leaves loops leaves fewer
      pub hold_owns : (nodes : List PlanNode) (offset : ℕ → ℕ) (x : Placed)
          → ((n : ℕ) → Opens x n → (i m : ℕ) → get_or (fh q.form).params i InPlace ≡ Held n m → m < loops)
          → HoldOwns (setting_of r choices nodes offset) (map brought leaving) x
      hold_owns nodes offset x shallow = record {
        distinct = λ i j n g h.
            let y = left_has i n g in
            let z = left_has j n h in
            left_once loops (fh q.form).params 0 q.args i j y.of z.of y.there z.there
            (held_once y.of.0 z.of.0 n loops loops y.held z.held);
        inner = λ i n g h. let y = left_has i n g in
            let l = shallow n h y.of.0 loops y.held in
            omega (arith, l);
        sizes = its_size nodes offset;
      }
