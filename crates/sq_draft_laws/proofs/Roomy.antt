-- Arrays fit into the buffers of their homes, and blocks lie inside arrays.
use Rattle.std.proofs.Common.{◌≡◌, ℕ, zero, suc, ◌+◌, ◌-◌, ◌*◌, Bool, List, [], ◌∷◌, length, map}
use Rattle.std.proofs.Common.{take, drop, get_or, Option, Some, None, option_map, refl, sym, ap, ◌∙◌, subst, arith}
use Rattle.std.proofs.Common.{length-drop}
use Rattle.std.specs.Prelude.{slice_get}
use Rattle.std.specs.List.{range_with_len}
use Rattle.std.specs.Option.{option_map_or}
use Rattle.std.proofs.Math.Path.{fun_ext}
use Rattle.std.proofs.lemmas.Option.{slice_get_within, get_or_from_slice_get, slice_get-map}
use Rattle.sq_text.specs.Names.{Bytes}
use Rattle.sq_num.specs.Elements.{width}
use Rattle.sq_rect.specs.Extents.{product}
use Rattle.sq_ast.specs.declared.program.Body.{Body as Text}
use Rattle.sq_ast.specs.declared.program.Body.TheVariants as text
use Rattle.sq_ast.specs.declared.stmt.Call.{Call}
use Rattle.sq_ast.specs.declared.stmt.Stmt.{Stmt}
use Rattle.sq_leaf.specs.declared.shape.Shape.{Shape}
use Rattle.sq_blocks.specs.declared.argument.Argument.{Argument}
use Rattle.sq_forms.specs.declared.form.Found.{Found}
use Rattle.sq_forms.specs.Resolving.{frame_in}
use Rattle.sq_forms.specs.Steps.{Key}
use Rattle.sq_form_laws.specs.Reached.{body_calls, calls_in, steps_of}
use Rattle.sq_ir.specs.Written.{Setting}
use Rattle.sq_ir.specs.declared.plan.Buffer.{Buffer}
use Rattle.sq_ir.specs.declared.plan.PlanNode.{PlanNode}
use Rattle.sq_ir.proofs.Counting.{small}
use Rattle.sq_spec.specs.declared.body.Body.{Body}
use Rattle.sq_spec.specs.declared.body.FormBody.{FormBody}
use Rattle.sq_spec.specs.declared.resolved.Resolved.{Resolved}
use Rattle.sq_spec.specs.declared.statement.CallInstance.{CallInstance}
use Rattle.sq_spec.specs.Bodies.{no_body, what_runs}
use Rattle.sq_spec.specs.Statements.{tables, elems_of}
use Rattle.sq_homes.specs.SpecLaws.TableRows.{Table, tables_in, RowIsReached}
use Rattle.sq_homes.proofs.SpecLaws.TableRowsHold.{rows_are_reached}
use Rattle.sq_placed.specs.declared.home.Home.{Home}
use Rattle.sq_placed.specs.declared.home.Home.TheVariants.{InPlace, Own, Held, Twin}
use Rattle.sq_placed.specs.declared.home.Homes.{Homes}
use Rattle.sq_placed.specs.Tables.{no_shape}
use Rattle.sq_term.specs.Terms.{no_homes, homes_in, buffer_or, entry_row}
use Rattle.sq_term.specs.Stands.{Each, none, more}
use Rattle.sq_program_laws.specs.TermLaws.Roomy.{FitsInto, HomeFits, ArgFits, reached_of, RowFits, RowsFit, AreRoomy}
use Rattle.sq_program_laws.specs.TermLaws.Roomy.{EntryFits}
use Rattle.sq_program_laws.specs.TermLaws.Leaves.{BodyLeaves, arrays_in, TakeSame, BodySame}
use Rattle.sq_program_laws.specs.Homes.{AreHomes}
use Rattle.sq_program_laws.proofs.RowsHold.{body_is, arg_facts, many_args}
use Rattle.sq_program_laws.specs.PlanLaws.Buffers.{home_buffer}
use Rattle.sq_homes.specs.Chosen.declared.choice.Choice.{Choice}
use Rattle.sq_homes.specs.Chosen.Forms.{choice_in}
use Rattle.sq_homes.specs.Drafts.{homes_of, buffers_of, buffer_at, args_of}
use Rattle.sq_homes.specs.Chosen.Arrays.{standing, locals_count, shape_size}
use Rattle.sq_homes.specs.Numbering.{local_base}
use Rattle.sq_draft_laws.specs.Choosing.{Walked, left_in, MayBeChosen, setting_of}
use Rattle.sq_draft_laws.proofs.Hoisting.{no_homes_at}
use Rattle.sq_draft_laws.specs.Drafts.{DraftsAreRoomy}
use Rattle.sq_draft_laws.specs.HomesFit.{HasOwn}
use Rattle.sq_draft_laws.proofs.Args.{fit_by_facts, fit_whole, all_fit}
use Rattle.sq_draft_laws.proofs.Buffers.{all_small}
use Rattle.sq_draft_laws.proofs.Entry.{entry, form, args_many, whole_at, entries_have_buffers}
use Rattle.sq_draft_laws.proofs.Fitting.{homes_fit}
use Rattle.sq_draft_laws.proofs.Forms.{tasks, instances, resolving, body_at, bodies_are, run_of, sized, body_there}
use Rattle.sq_draft_laws.proofs.Forms.{no_body_at, no_body_there}
use Rattle.sq_draft_laws.proofs.Forms.{past_or}
use Rattle.sq_draft_laws.proofs.Hoisted.{IsForm, is_form, params_many, param_is}
use Rattle.sq_draft_laws.proofs.Numbers.{first_of}
use Rattle.sq_draft_laws.proofs.ArrayPlaces.{StandsAt, param_stands, second_stands, local_stands}
use Rattle.sq_draft_laws.proofs.SameArrays.{named_all, arrays_are, calls_same}
use Rattle.sq_draft_laws.proofs.Rows.{rows_fit}
use Rattle.sq_draft_laws.proofs.Sizes.{rounded_up, are_whole}

-- ---- lists

dropped : {A : Type 0} (n : ℕ) (xs : List A) (j : ℕ) → slice_get (drop n xs) j ≡ slice_get xs (n + j)
dropped zero xs j = let e : j ≡ 0 + j = omega arith in ap (slice_get xs) e
dropped (suc n) [] j = refl
dropped (suc n) (x ∷ xs) j = let e : suc (n + j) ≡ suc n + j = omega arith in dropped n xs j ∙ ap (slice_get (x ∷ xs)) e

of_taken : {A : Type 0} (n : ℕ) (xs : List A) (i : ℕ) (x : A) → slice_get (take n xs) i ≡ Some x → slice_get xs i
    ≡ Some x
of_taken zero xs i x h = absurd (cc h)
of_taken (suc n) [] i x h = absurd (cc h)
of_taken (suc n) (y ∷ xs) zero x h = h
of_taken (suc n) (y ∷ xs) (suc i) x h = of_taken n xs i x h

-- ---- homes

module _ (s : Setting) where
  fits_home : (h : Home) (x : Shape) → ((n : ℕ) → home_buffer h ≡ Some n → FitsInto s n x)
      → ((m n : ℕ) → h ≡ Twin m n → FitsInto s n x) → HomeFits s h x
  fits_home InPlace x f g = tt
  fits_home (Own n) x f g = f n refl
  fits_home (Held n loops) x f g = f n refl
  fits_home (Twin n m) x f g = (f n refl, g n m refl)

  each_local : (base n : ℕ) (xs : List Shape) → length xs ≡ n
      → ((j : ℕ) (x : Shape) → slice_get xs j ≡ Some x → FitsInto s (base + j) x)
      → Each (FitsInto s) (range_with_len base n) xs
  each_local base zero [] long h = none
  each_local base zero (x ∷ xs) long h = absurd (omega (arith, long))
  each_local base (suc n) [] long h = absurd (omega (arith, long))
  each_local base (suc n) (x ∷ xs) long h =
      let z : base + 0 ≡ base = omega arith in
      more (subst (λ (b : ℕ). FitsInto s b x) z (h 0 x refl))
      (each_local (base + 1) n xs (omega (arith, long))
      (λ j y e. let next : base + suc j ≡ base + 1 + j = omega arith in
      subst (λ (b : ℕ). FitsInto s b y) next (h (suc j) y e)))

  entry_fits : (hs : List Home) (xs : List Shape)
      → ((i : ℕ) (h : Home) (x : Shape) → slice_get hs i ≡ Some h → slice_get xs i ≡ Some x
      → FitsInto s (buffer_or h) x)
      → EntryFits s hs xs
  entry_fits [] xs f = tt
  entry_fits (h ∷ hs) [] f = tt
  entry_fits (h ∷ hs) (x ∷ xs) f = (f 0 h x refl refl, entry_fits hs xs (λ i g y e d. f (suc i) g y e d))

  own_into : (h : Home) (x : Shape) → HasOwn h → HomeFits s h x → FitsInto s (buffer_or h) x
  own_into h x own fits =
      subst (λ (g : Home). FitsInto s (buffer_or g) x) (sym own.is) (subst (λ (g : Home). HomeFits s g x) own.is fits)

module _ (r : Resolved) (w : Walked r) (choices : List Choice) (are : MayBeChosen r choices) (nodes : List PlanNode)
    (offset : ℕ → ℕ) where
  abbrev s : Setting
  s = setting_of r choices nodes offset

  abbrev homes : ℕ → Homes
  homes = homes_in (homes_of r choices)

  fit : (k : ℕ) (f : Key × Found) → slice_get r.found.entries k ≡ Some f
      → AreHomes f.1 (body_at r k).arrays (homes k)
  fit = homes_fit r w choices are

  -- ---- one form

  module _ (k : ℕ) (f : Key × Found) (there : slice_get r.found.entries k ≡ Some f) where
    abbrev arrays : List Shape
    arrays = (body_at r k).arrays

    abbrev its : IsForm r choices are k (body_at r k)
    its = is_form r choices are k (body_at r k) (body_there r w k f there)

    abbrev c : Choice
    c = choice_in choices k

    abbrev first : ℕ
    first = first_of r choices k

    -- the buffer of an array is as large as the array
    fits_at : (i n : ℕ) (x : Shape)
        → StandsAt c its.chosen.moved (body_at r k) first i n → slice_get arrays i ≡ Some x
        → FitsInto s n x
    fits_at i n x at is =
        let all = standing (body_at r k) c in
        let less = slice_get_within all at.place i at.stands in
        let buffer : slice_get (buffers_of r choices) n ≡ Some (buffer_at r k (body_at r k) i)
        = ap (slice_get (buffers_of r choices)) at.number ∙ its.at.buffers at.place less
        ∙ (slice_get-map (buffer_at r k (body_at r k)) all at.place
        ∙ ap (λ (o : Option ℕ). option_map (buffer_at r k (body_at r k)) o) at.stands) in
        let size : s.size n ≡ shape_size x
        = ap (λ (o : Option Buffer). option_map_or (λ (b : Buffer). b.size) o 0) buffer
        ∙ ap shape_size (get_or_from_slice_get arrays i x no_shape is) in
        let up = rounded_up (width x.elem * product x.extents) in
        omega (arith, size, up)

    param_fits : (i : ℕ) (x : Shape) → slice_get arrays i ≡ Some x → (o : Option Home)
        → slice_get (homes k).params i ≡ o
        → HomeFits s (get_or (homes k).params i InPlace) x
    param_fits i x is None e = subst (λ (h : Home). HomeFits s h x) (sym (past_or (homes k).params i InPlace e)) tt
    param_fits i x is (Some h) e =
        let p = param_is r choices are k (body_at r k) its i h e in
        subst (λ (g : Home). HomeFits s g x) (sym (get_or_from_slice_get (homes k).params i h InPlace e))
        (fits_home s h x
        (λ n g. fits_at i n x
        (param_stands c its.chosen.moved (body_at r k) first i n p.less (ap home_buffer p.is ∙ g)) is)
        (λ m n g. fits_at i n x (second_stands c its.chosen.moved (body_at r k) first i m n p.less (p.is ∙ g)) is))

    locals_fit_from : (m : ℕ) → m ≡ length c.in_place
        → Each (FitsInto s) (range_with_len (local_base first c) (locals_count arrays c)) (drop m arrays)
    locals_fit_from m many = each_local s (local_base first c) (locals_count arrays c) (drop m arrays)
        (length-drop m arrays ∙ ap (λ (n : ℕ). length arrays - n) many)
        (λ j x e.
        let at : slice_get arrays (length c.in_place + j) ≡ Some x
        = ap (λ (n : ℕ). slice_get arrays (n + j)) (sym many) ∙ (sym (dropped m arrays j) ∙ e) in
        let less = slice_get_within arrays (length c.in_place + j) x at in
        fits_at (length c.in_place + j) (local_base first c + j) x
        (local_stands c its.chosen.moved (body_at r k) first j (omega (arith, less))) at)

    locals_fit : Each (FitsInto s) (homes k).locals (drop (length (homes k).params) arrays)
    locals_fit =
        subst (λ (l : List ℕ). Each (FitsInto s) l (drop (length (homes k).params) arrays)) (sym its.locals)
        (locals_fit_from (length (homes k).params) (params_many r choices are k (body_at r k) its))

    -- ---- its rows

    row_fits : (list : List Stmt) → (run_of r w k f there).fits.variant.body ≡ text.Inner list → (i : ℕ) (t : Table)
        → slice_get (tables_in (tables r.found.entries
        (frame_in (tasks r) (instances r) (run_of r w k f there).fits.instance k f.1)
        (run_of r w k f there).ran.scope.names
        (elems_of (run_of r w k f there).fits.variant (run_of r w k f there).ran.scope)
        (run_of r w k f there).ran.scope.numbers list) None) i ≡ Some t
        → (j : ℕ) (q : CallInstance) → slice_get t.times j ≡ Some q → RowFits (body_at r) homes arrays q
    row_fits list inner i t at j q e =
        let run = run_of r w k f there in
        let o = rows_are_reached (tasks r) r.mapping.now (resolving r) w.through k f run.fits.instance run.fits.variant
        run.fits.begun there run.fits.there run.fits.runs run.fits.binds run.ran list inner i t at in
        let many = many_args r.typed.now r.machine.now.levels r.mapping.now w.faultless w.read (resolving r) w.through
        w.formed homes fit k f there run list inner i t o.pair o.there o.reached.sum q
        (o.reached.rows j q e) in
        subst (λ (n : ℕ). Each (ArgFits arrays) q.args (take n (body_at r q.form).arrays))
        many
        (all_fit arrays q.args (body_at r q.form).arrays
        (λ l a g. fit_by_facts arrays (body_at r q.form).arrays l a (sized r w k) (sized r w q.form)
        (arg_facts r.typed.now r.machine.now.levels r.mapping.now w.faultless w.read (resolving r) w.through w.formed
        homes fit k f there run list inner i t o.pair o.there o.reached.sum q (o.reached.rows j q e) l a g)))

    text_fits : (b : Text) → (run_of r w k f there).fits.variant.body ≡ b
        → RowsFit (body_at r) homes arrays
        (reached_of (what_runs r.found.entries
        (frame_in (tasks r) (instances r) (run_of r w k f there).fits.instance k f.1)
        (run_of r w k f there).fits.variant b (run_of r w k f there).ran.scope))
    text_fits (text.Leaf list) e = tt
    text_fits (text.Inner list) e =
        let run = run_of r w k f there in
        rows_fit (body_at r) homes arrays
        (tables r.found.entries (frame_in (tasks r) (instances r) run.fits.instance k f.1) run.ran.scope.names
        (elems_of run.fits.variant run.ran.scope) run.ran.scope.numbers list) (row_fits list e)

    -- the rows of a call take the same arrays
    rows_same : (list : List Stmt) → (run_of r w k f there).fits.variant.body ≡ text.Inner list → (i : ℕ) (t : Table)
        → slice_get (tables_in (tables r.found.entries
        (frame_in (tasks r) (instances r) (run_of r w k f there).fits.instance k f.1)
        (run_of r w k f there).ran.scope.names
        (elems_of (run_of r w k f there).fits.variant (run_of r w k f there).ran.scope)
        (run_of r w k f there).ran.scope.numbers list) None) i ≡ Some t
        → TakeSame t.times
    rows_same list inner i t at =
        let run = run_of r w k f there in
        let o = rows_are_reached (tasks r) r.mapping.now (resolving r) w.through k f run.fits.instance run.fits.variant
        run.fits.begun there run.fits.there run.fits.runs run.fits.binds run.ran list inner i t at in
        record {
          same = λ j q x e g. row_arrays o.pair.0 o.pair.1 t.lower x (o.reached.rows j x g)
              ∙ sym (row_arrays o.pair.0 o.pair.1 t.lower q (o.reached.rows 0 q e));
        }
      where
        row_arrays : (reduced : Option Bytes) (call : Call) (lower : Bool) (q : CallInstance)
            → RowIsReached (frame_in (tasks r) (instances r) (run_of r w k f there).fits.instance k f.1)
            (run_of r w k f there).ran.scope.names (body_calls (run_of r w k f there).fits.variant.body)
            (calls_in (steps_of (tasks r) (instances r) (run_of r w k f there).fits.instance
            (run_of r w k f there).fits.variant k f.1 (run_of r w k f there).ran.scope))
            r.found.entries reduced call lower q
            → arrays_in q ≡ named_all (run_of r w k f there).ran.scope.names call.args
        row_arrays reduced call lower q h =
            ap (map (λ (x : Argument). x.array)) h.args
            ∙ (arrays_are (run_of r w k f there).ran.scope.names h.reached.numbers h.reached.site.reduced
            h.reached.callee.params 0 h.reached.call.args h.reached.arguments h.reached.examined
            ∙ ap (λ (x : Call). named_all (run_of r w k f there).ran.scope.names x.args) h.stmt)

    text_same : (b : Text) → (run_of r w k f there).fits.variant.body ≡ b
        → BodySame (what_runs r.found.entries
        (frame_in (tasks r) (instances r) (run_of r w k f there).fits.instance k f.1)
        (run_of r w k f there).fits.variant b (run_of r w k f there).ran.scope)
    text_same (text.Leaf list) e = tt
    text_same (text.Inner list) e =
        let run = run_of r w k f there in
        calls_same
        (tables r.found.entries (frame_in (tasks r) (instances r) run.fits.instance k f.1) run.ran.scope.names
        (elems_of run.fits.variant run.ran.scope) run.ran.scope.numbers list) (rows_same list e)

    abbrev what : Body
    what = what_runs r.found.entries (frame_in (tasks r) (instances r) (run_of r w k f there).fits.instance k f.1)
        (run_of r w k f there).fits.variant (run_of r w k f there).fits.variant.body (run_of r w k f there).ran.scope

    body_of_it : (body_at r k).body ≡ what
    body_of_it = ap (λ (b : FormBody). b.body)
        (body_is r.typed.now r.machine.now.levels r.mapping.now w.faultless w.read (resolving r) w.through k f there
        (run_of r w k f there))

    form_rows : RowsFit (body_at r) homes arrays (reached_of (body_at r k).body)
    form_rows = subst (λ b. RowsFit (body_at r) homes arrays (reached_of b)) (sym body_of_it)
        (text_fits (run_of r w k f there).fits.variant.body refl)

    form_same : BodySame (body_at r k).body
    form_same = subst BodySame (sym body_of_it) (text_same (run_of r w k f there).fits.variant.body refl)

  -- ---- all forms

  no_homes_there : (k : ℕ) → slice_get r.found.entries k ≡ None → homes k ≡ no_homes
  no_homes_there k e = no_homes_at r choices k (no_body_there r w k e)

  params_of : (k : ℕ) (o : Option (Key × Found)) → slice_get r.found.entries k ≡ o → (i : ℕ) (x : Shape)
      → slice_get (body_at r k).arrays i ≡ Some x → HomeFits s (get_or (homes k).params i InPlace) x
  params_of k None e i x is = subst (λ (h : Homes). HomeFits s (get_or h.params i InPlace) x)
      (sym (no_homes_there k e)) tt
  params_of k (Some f) e i x is = param_fits k f e i x is (slice_get (homes k).params i) refl

  locals_of : (k : ℕ) (o : Option (Key × Found)) → slice_get r.found.entries k ≡ o
      → Each (FitsInto s) (homes k).locals (drop (length (homes k).params) (body_at r k).arrays)
  locals_of k None e =
      subst (λ (b : FormBody). Each (FitsInto s) (homes k).locals (drop (length (homes k).params) b.arrays))
      (sym (no_body_at r w k e))
      (subst (λ (h : Homes). Each (FitsInto s) h.locals (drop (length h.params) no_body.arrays))
      (sym (no_homes_there k e)) none)
  locals_of k (Some f) e = locals_fit k f e

  rows_of : (k : ℕ) (o : Option (Key × Found)) → slice_get r.found.entries k ≡ o
      → RowsFit (body_at r) homes (body_at r k).arrays (reached_of (body_at r k).body)
  rows_of k None e = subst (λ (b : FormBody). RowsFit (body_at r) homes b.arrays (reached_of b.body))
      (sym (no_body_at r w k e)) tt
  rows_of k (Some f) e = form_rows k f e

  same_of : (k : ℕ) (o : Option (Key × Found)) → slice_get r.found.entries k ≡ o → BodySame (body_at r k).body
  same_of k None e = subst (λ (b : FormBody). BodySame b.body) (sym (no_body_at r w k e)) tt
  same_of k (Some f) e = form_same k f e

  roomy : AreRoomy s (body_at r) homes
  roomy = record {
    sizes = record { each = λ b. small (s.size b) (all_small r w choices b) };
    whole = λ k. are_whole (body_at r k).arrays (sized r w k);
    params = λ k. params_of k (slice_get r.found.entries k) refl;
    locals = λ k. locals_of k (slice_get r.found.entries k) refl;
    rows = λ k. rows_of k (slice_get r.found.entries k) refl;
    leaves = λ k. subst (λ (b : FormBody). BodyLeaves (left_in r choices) b.body) (bodies_are r w k) (are.loops k);
    same = λ k. same_of k (slice_get r.found.entries k) refl;
  }

  -- ---- the entry

  entry_roomy : EntryFits s (homes 0).params (take (length (homes 0).params) (body_at r 0).arrays)
  entry_roomy = entry_fits s (homes 0).params (take (length (homes 0).params) (body_at r 0).arrays) (λ i h x e g.
      own_into s h x (entries_have_buffers r w choices are i h e)
      (subst (λ (y : Home). HomeFits s y x) (get_or_from_slice_get (homes 0).params i h InPlace e)
      (params_of 0 (slice_get r.found.entries 0) refl i x
      (of_taken (length (homes 0).params) (body_at r 0).arrays i x g))))

  entry_args : RowFits (body_at r) homes (take (length (homes 0).params) (body_at r 0).arrays) (entry_row (args_of r))
  entry_args =
      let n = length (homes 0).params in
      let h = fit 0 (form r) (entry r).found in
      let many : length (args_of r) ≡ n = args_many r w ∙ sym h.params in
      subst (λ (m : ℕ). Each (ArgFits (take n (body_at r 0).arrays)) (args_of r) (take m (body_at r 0).arrays)) many
      (all_fit (take n (body_at r 0).arrays) (args_of r) (body_at r 0).arrays (λ j a e.
      let less = slice_get_within (args_of r) j a e in
      fit_whole n (body_at r 0).arrays j a (omega (arith, less, many)) (sized r w 0) (whole_at r w j a e)))

-- of bodies given as a function
record RoomyBy (r : Resolved) (choices : List Choice) (s : Setting) (b : ℕ → FormBody) : Type 0 where
  roomy : AreRoomy s b (homes_in (homes_of r choices))
  entry : EntryFits s (homes_in (homes_of r choices) 0).params
      (take (length (homes_in (homes_of r choices) 0).params) (b 0).arrays)
  row : RowFits b (homes_in (homes_of r choices))
      (take (length (homes_in (homes_of r choices) 0).params) (b 0).arrays) (entry_row (args_of r))

pub drafts_are_roomy : DraftsAreRoomy
drafts_are_roomy r w choices are nodes offset =
    let all = subst (RoomyBy r choices (setting_of r choices nodes offset)) (sym (fun_ext (bodies_are r w)))
    (record {
      roomy = roomy r w choices are nodes offset;
      entry = entry_roomy r w choices are nodes offset;
      row = entry_args r w choices are nodes offset;
    }) in
    record { roomy = all.roomy; entry = all.entry; row = all.row }
