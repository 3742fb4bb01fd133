-- The entry's arrays have buffers of their own.
use Rattle.std.proofs.Common.{◌≡◌, ◌⊎◌, inl, inr, ℕ, zero, suc, ◌+◌, ◌≤◌, List, [], ◌∷◌, map}
use Rattle.std.proofs.Common.{length, take, slice_get, get_or, Option, Some, None, refl, sym, ap, subst, ◌∙◌}
use Rattle.std.proofs.Common.{arith}
use Rattle.std.proofs.lemmas.Option.{get_or_from_slice_get, slice_get_within}
use Rattle.sq_leaf.specs.declared.shape.Shape.{Shape}
use Rattle.sq_ir.specs.declared.plan.PlanNode.{PlanNode}
use Rattle.sq_spec.specs.declared.body.FormBody.{FormBody}
use Rattle.sq_spec.specs.declared.resolved.Resolved.{Resolved}
use Rattle.sq_placed.specs.declared.home.Home.TheVariants.{InPlace}
use Rattle.sq_placed.specs.declared.home.Homes.{Homes}
use Rattle.sq_placed.specs.Placed.{PlacedArg, PlacedLocal, PlacedCall}
use Rattle.sq_placed.specs.Tables.{no_shape, placed_args, locals_of, entry_call_placed, placed_of}
use Rattle.sq_program_laws.specs.PlanLaws.Calling.{shapes_of}
use Rattle.sq_term.specs.Terms.{buffer_or, body_in, homes_in}
use Rattle.sq_program_laws.specs.PlanLaws.Buffers.{home_buffer, HasBuffer, OpensBuffer, Opens, IsAmong, CallOwns}
use Rattle.sq_program_laws.specs.PlanLaws.Rooms.{EntryOwns}
use Rattle.sq_program_laws.proofs.PlanLaws.Live.{opens_has}
use Rattle.sq_program_laws.specs.Entry.{entry_shapes}
use Rattle.sq_program_laws.proofs.Shapes.{mapped_at, at_mapped}
use Rattle.sq_homes.specs.Chosen.declared.choice.Choice.{Choice}
use Rattle.sq_homes.specs.Chosen.Forms.{bodies_of, choice_in}
use Rattle.sq_homes.specs.Drafts.{homes_of, args_of, entry_of}
use Rattle.sq_draft_laws.specs.Choosing.{Walked, MayBeChosen, setting_of}
use Rattle.sq_draft_laws.proofs.Standing.{map_length}
use Rattle.sq_draft_laws.specs.Owned.{draft_placed, DraftsOwn}
use Rattle.sq_draft_laws.proofs.Entry.{entry, form, entries_are_whole, entries_have_buffers}
use Rattle.sq_draft_laws.proofs.Forms.{body_at, body_there}
use Rattle.sq_draft_laws.proofs.Lists.{Split, front, behind, split}
use Rattle.sq_draft_laws.proofs.Hoisted.{IsForm, is_form, params_many}
use Rattle.sq_draft_laws.proofs.Arrays.{args_many, arg_at, HasNumber, param_number, local_number, same_array, form_is}
use Rattle.sq_draft_laws.proofs.Arrays.{fits, local_shape}
use Rattle.sq_draft_laws.proofs.Owned.{of_form, sized}
use Rattle.sq_draft_laws.proofs.EachOwned.{form_owned}

-- ---- lists

take_there : {A : Type 0} (n : ℕ) (xs : List A) (i : ℕ) (x : A) → slice_get (take n xs) i ≡ Some x → slice_get xs i
    ≡ Some x
take_there zero xs i x h = absurd (cc h)
take_there (suc n) [] i x h = absurd (cc h)
take_there (suc n) (y ∷ xs) zero x h = h
take_there (suc n) (y ∷ xs) (suc i) x h = take_there n xs i x h

take_many : {A : Type 0} (n : ℕ) (xs : List A) → n ≤ length xs → length (take n xs) ≡ n
take_many zero xs h = refl
take_many (suc n) [] h = absurd (omega (arith, h))
take_many (suc n) (x ∷ xs) h = ap suc (take_many n xs (omega (arith, h)))

module _ (r : Resolved) (w : Walked r) (choices : List Choice) (are : MayBeChosen r choices) where
  abbrev fb : ℕ → FormBody
  fb = body_in (bodies_of r)

  abbrev fh : ℕ → Homes
  fh = homes_in (homes_of r choices)

  abbrev params : ℕ
  params = length (choice_in choices 0).in_place

  -- what is known of the entry
  record EntryIs : Type 0 where
    body : FormBody
    form : IsForm r choices are 0 body
    args : length (args_of r) ≡ params
    many : length (fh 0).params ≡ params
    long : params ≤ length body.arrays

  entry_is : EntryIs
  entry_is =
      let facts = entries_are_whole r w choices are in
      let b = body_at r 0 in
      let f = is_form r choices are 0 b (body_there r w 0 (form r) (entry r).found) in
      let many = params_many r choices are 0 b f in
      let locals = facts.locals in
      let all : length (fb 0).arrays ≡ length b.arrays = ap (λ (x : FormBody). length x.arrays) f.body in
      record {
        body = b;
        form = f;
        args = facts.many ∙ many;
        many = many;
        long = omega (arith, many, locals, all);
      }

  abbrev args : List PlacedArg
  args = placed_args None (fb 0).arrays [] 0 (args_of r)

  abbrev locals : List PlacedLocal
  locals = locals_of (fb 0) (fh 0)

  abbrev c : PlacedCall
  c = entry_call_placed (fb 0) (fh 0) (args_of r)

  abbrev outside : List (Option ℕ)
  outside = map (λ (p : PlacedArg). home_buffer p.home) args

  abbrev inside : List (Option ℕ)
  inside = map (λ (x : PlacedLocal). Some x.buffer) locals

  module _ (is : EntryIs) where
    abbrev HasIt : ℕ → ℕ → Type 0
    HasIt i n = HasNumber r w choices are 0 is.body is.form i n

    many_args : length args ≡ params
    many_args = args_many None (fb 0).arrays [] 0 (args_of r) ∙ is.args

    -- a call's buffer is that of a local
    record IsLocal (i n : ℕ) : Type 0 where
      local : ℕ
      at : i ≡ params + local
      has : HasIt i n

    its_local : (i n : ℕ) → HasBuffer c i n → IsLocal i n
    its_local i n h = by (split outside inside i (Some n) h)
      where
        by : Split outside inside i (Some n) → IsLocal i n
        by (front e) =
            let m = mapped_at (λ (p : PlacedArg). home_buffer p.home) args i (Some n) e in
            let a = arg_at None (fb 0).arrays [] (args_of r) i m.of m.there in
            let z : None ≡ Some n = sym (ap home_buffer a.home) ∙ m.is in
            absurd (cc z)
        by (behind j e g) =
            let l = map_length (λ (p : PlacedArg). home_buffer p.home) args in
            let long = many_args in
            let at : params + j ≡ i = omega (arith, l, e, long) in
            let m = mapped_at (λ (x : PlacedLocal). Some x.buffer) locals j (Some n) g in
            let buffer : m.of.buffer ≡ n = let k = m.is in cc k in
            record {
              local = j;
              at = sym at;
              has = subst (λ (x : ℕ). HasIt x n) at
                  (local_number r w choices are 0 is.body is.form j n
                  (at_mapped (λ (x : PlacedLocal). x.buffer) locals j m.of m.there ∙ ap (λ z. Some z) buffer));
            }

    its_shape : (i n : ℕ) (x : Shape) → IsLocal i n → slice_get (shapes_of c) i ≡ Some x
        → x ≡ get_or is.body.arrays i no_shape
    its_shape i n x known h
        = by (split (map (λ (p : PlacedArg). p.shape) args) (map (λ (l : PlacedLocal). l.shape) locals) i x h)
      where
        by : Split (map (λ (p : PlacedArg). p.shape) args) (map (λ (l : PlacedLocal). l.shape) locals) i x
            → x ≡ get_or is.body.arrays i no_shape
        by (front e) =
            let m = mapped_at (λ (p : PlacedArg). p.shape) args i x e in
            let l = slice_get_within args i m.of m.there in
            let long = many_args in
            let at = known.at in
            absurd (omega (arith, l, long, at))
        by (behind j m e) =
            let l = map_length (λ (p : PlacedArg). p.shape) args in
            let n = many_args in
            let at : i ≡ params + j = omega (arith, l, m, n) in
            let f = mapped_at (λ (y : PlacedLocal). y.shape) locals j x e in
            sym f.is
            ∙ sym (get_or_from_slice_get is.body.arrays (params + j) f.of.shape no_shape
            (local_shape r w choices are 0 is.body is.form j f.of f.there))
            ∙ ap (λ z. get_or is.body.arrays z no_shape) (sym at)

    its_form : (i n : ℕ) → HasIt i n → of_form r w choices are n ≡ 0
    its_form i n h = form_is r w choices are 0 is.body is.form i n h

    -- nothing that is placed of the entry's form opens a buffer of the entry's
    not_opened : (nodes : List PlanNode) (offset : ℕ → ℕ) (d i n : ℕ) → HasIt i n → Opens (placed_of fb fh d 0) n → ⊥
    not_opened nodes offset d i n h o =
        let a = its_form i n h in
        let f = (form_owned r w choices are nodes offset d 0).further n o in
        omega (arith, a, f)

    call_owns : (nodes : List PlanNode) (offset : ℕ → ℕ) (d : ℕ)
        → CallOwns (setting_of r choices nodes offset) [] c (placed_of fb fh d 0)
    call_owns nodes offset d = record {
      homes = λ i p h.
          let a = arg_at None (fb 0).arrays [] (args_of r) i p h in
          subst (IsAmong c.lower []) (sym a.home) tt;
      distinct = λ i j n g h.
          same_array r w choices are 0 is.body is.form i j n (its_local i n g).has (its_local j n h).has;
      inner = λ i n g h. not_opened nodes offset d i n (its_local i n g).has h;
      sizes = λ i n x g h.
          fits r w choices are 0 is.body is.form i n x (its_local i n g).has (its_shape i n x (its_local i n g) h);
      some = λ j l h.
          (sized r w choices are 0 (params + j) l.shape
          (ap (λ (y : FormBody). slice_get y.arrays (params + j)) is.form.body
          ∙ local_shape r w choices are 0 is.body is.form j l h)).some;
    }

    -- ---- the entry's own

    abbrev shapes : List Shape
    shapes = entry_shapes fb (args_of r)

    entry_number : (i n : ℕ) → slice_get (entry_of r choices) i ≡ Some n → HasIt i n
    entry_number i n e =
        let m = mapped_at buffer_or (fh 0).params i n e in
        let own = entries_have_buffers r w choices are i m.of m.there in
        let at = get_or_from_slice_get (fh 0).params i m.of InPlace m.there in
        let buffer : own.buffer ≡ n = sym (ap buffer_or own.is) ∙ m.is in
        param_number r w choices are 0 is.body is.form i n
        (ap home_buffer (at ∙ own.is) ∙ ap (λ z. Some z) buffer)

    entry_many : length (entry_of r choices) ≡ params
    entry_many = map_length buffer_or (fh 0).params ∙ is.many

    shape_at : (i : ℕ) (x : Shape) → slice_get shapes i ≡ Some x → slice_get (fb 0).arrays i ≡ Some x
    shape_at i x h = take_there (length (args_of r)) (fb 0).arrays i x h

    not_named : (nodes : List PlanNode) (offset : ℕ → ℕ) (d i n : ℕ) → slice_get (entry_of r choices) i ≡ Some n
        → ((j : ℕ) × OpensBuffer c j n) ⊎ Opens (placed_of fb fh d 0) n
        → ⊥
    not_named nodes offset d i n h (inl a) =
        let l = its_local a.0 n (opens_has c a.0 n a.1) in
        let e = same_array r w choices are 0 is.body is.form i a.0 n (entry_number i n h) l.has in
        let at = l.at in
        let less = slice_get_within (entry_of r choices) i n h in
        let many = entry_many in
        omega (arith, e, at, less, many)
    not_named nodes offset d i n h (inr b) = not_opened nodes offset d i n (entry_number i n h) b

    entry_owns : (nodes : List PlanNode) (offset : ℕ → ℕ)
        → EntryOwns (setting_of r choices nodes offset) shapes (entry_of r choices) (draft_placed r choices)
    entry_owns nodes offset = record {
      many =
          let long : length (args_of r) ≤ length (fb 0).arrays =
          (let a = is.args in let l = is.long in
          let e : length (fb 0).arrays ≡ length is.body.arrays = ap (λ (x : FormBody). length x.arrays) is.form.body in
          omega (arith, a, l, e)) in
          entry_many ∙ sym is.args ∙ sym (take_many (length (args_of r)) (fb 0).arrays long);
      dims = λ n x h. (sized r w choices are 0 n x (shape_at n x h)).dims;
      distinct = λ i j n g h.
          same_array r w choices are 0 is.body is.form i j n (entry_number i n g) (entry_number j n h);
      inner = λ i n g h. not_named nodes offset (length (bodies_of r)) i n g h;
      sizes = λ i n x g h.
          fits r w choices are 0 is.body is.form i n x (entry_number i n g)
          (sym (get_or_from_slice_get (fb 0).arrays i x no_shape (shape_at i x h))
          ∙ ap (λ (y : FormBody). get_or y.arrays i no_shape) is.form.body);
    }

pub drafts_own : DraftsOwn
drafts_own r w choices are nodes offset =
    let is = entry_is r w choices are in
    record {
      owns = (
        call_owns r w choices are is nodes offset (length (bodies_of r)),
        (form_owned r w choices are nodes offset (length (bodies_of r)) 0).owns,
      );
      entry = entry_owns r w choices are is nodes offset;
    }
