-- The entry is called with its arrays, whole, and each has a buffer.
use Rattle.std.proofs.Common.{◌≡◌, ℕ, zero, suc, ◌+◌, true, false, List, [], ◌∷◌, length}
use Rattle.std.proofs.Common.{get_or, Option, Some, refl, sym, ap, ◌∙◌, subst, arith}
use Rattle.std.specs.Prelude.{slice_get}
use Rattle.std.proofs.lemmas.Option.{slice_get_within, slice_get-get_or, get_or_from_slice_get}
use Rattle.sq_ast.specs.Modes.{is_written}
use Rattle.sq_ast.specs.declared.program.Param.{Param}
use Rattle.sq_leaf.specs.declared.shape.Shape.{Shape}
use Rattle.sq_blocks.specs.declared.argument.Argument.{Argument}
use Rattle.sq_forms.specs.declared.form.Found.{Found}
use Rattle.sq_forms.specs.declared.form.Form.{Form}
use Rattle.sq_forms.specs.Resolving.{entry_params, entry_form, with_locals}
use Rattle.sq_forms.specs.Resolving as resolving_of
use Rattle.sq_forms.specs.Steps.{Key}
use Rattle.sq_form_laws.specs.Served.{FormRuns}
use Rattle.sq_form_laws.proofs.FitHold.{some_same}
use Rattle.sq_spec.specs.declared.body.FormBody.{FormBody}
use Rattle.sq_spec.specs.declared.resolved.Resolved.{Resolved}
use Rattle.sq_spec.specs.Entry.{IsEntry}
use Rattle.sq_spec.specs.Works.{entry_arguments, extents_at, whole}
use Rattle.sq_spec.proofs.EntryHolds.{entry_is_first}
use Rattle.sq_placed.specs.declared.home.Home.{Home}
use Rattle.sq_placed.specs.declared.home.Home.TheVariants.{InPlace}
use Rattle.sq_placed.specs.declared.home.Homes.{Homes}
use Rattle.sq_program_laws.specs.Entry.{IsWhole, EntryFacts}
use Rattle.sq_term.specs.Terms.{body_in, homes_in}
use Rattle.sq_program_laws.specs.TermLaws.Leaves.{loops_left}
use Rattle.sq_program_laws.specs.Homes.{params_at, may_write, mays_of}
use Rattle.sq_program_laws.proofs.RowsHold.{arrays_are, params_are, mays_are}
use Rattle.sq_program_laws.proofs.Shapes.{param_shape}
use Rattle.sq_homes.specs.Chosen.declared.choice.Choice.{Choice}
use Rattle.sq_homes.specs.Chosen.Forms.{bodies_of, choice_in}
use Rattle.sq_homes.specs.Drafts.{homes_of, args_of, extents_by}
use Rattle.sq_draft_laws.specs.Choosing.{Walked, MayBeChosen}
use Rattle.sq_draft_laws.specs.HomesFit.{EntriesAreWhole, HasOwn, EntriesHaveBuffers}
use Rattle.sq_draft_laws.proofs.Forms.{tasks, instances, resolving, body_at, run_of, sized, bodies_are}
use Rattle.sq_draft_laws.proofs.Forms.{body_there}
use Rattle.sq_draft_laws.proofs.Fitting.{homes_fit}
use Rattle.sq_draft_laws.proofs.Numbers.{first_of}
use Rattle.sq_draft_laws.proofs.Hoisted.{IsForm, is_form, param_is}
use Rattle.sq_draft_laws.proofs.ArrayPlaces.{own_number, HomeIs, stays, owns, owns_two, leaves, home_by}

-- ---- the arguments of the entry

args_long : (ps : List Param) (n : ℕ) (es : List (List ℕ)) → length (entry_arguments ps n es) ≡ length ps
args_long [] n es = refl
args_long (p ∷ ps) n es = ap suc (args_long ps (n + 1) es)

-- the argument for the i-th parameter, all of the array with this number
pub record IsEntryArg (ps : List Param) (es : List (List ℕ)) (i array : ℕ) (a : Argument) : Type 0 where
  pub param : Param
  pub there : slice_get ps i ≡ Some param
  pub mode : a.mode ≡ param.mode
  pub reduced : a.is_reduced ≡ false
  pub array_is : a.array ≡ array
  pub rect : a.rect ≡ whole (extents_at (slice_get es array))

entry_arg : (ps : List Param) (n : ℕ) (es : List (List ℕ)) (i : ℕ) (a : Argument)
    → slice_get (entry_arguments ps n es) i ≡ Some a → IsEntryArg ps es i (n + i) a
entry_arg [] n es i a h = absurd (cc h)
entry_arg (p ∷ ps) n es zero a h =
    let made : Argument
    = record { mode = p.mode; is_reduced = false; array = n; rect = whole (extents_at (slice_get es n)) } in
    let is : made ≡ a = cc h in
    let z : n ≡ n + 0 = omega arith in
    subst (λ (m : ℕ). IsEntryArg (p ∷ ps) es 0 m a) z
    (subst (λ (b : Argument). IsEntryArg (p ∷ ps) es 0 n b) is
    (record { param = p; there = refl; mode = refl; reduced = refl; array_is = refl; rect = refl }))
entry_arg (p ∷ ps) n es (suc i) a h =
    let z : n + 1 + i ≡ n + suc i = omega arith in
    let t = entry_arg ps (n + 1) es i a h in
    subst (λ (m : ℕ). IsEntryArg (p ∷ ps) es (suc i) m a) z
    (record {
      param = t.param;
      there = t.there;
      mode = t.mode;
      reduced = t.reduced;
      array_is = t.array_is;
      rect = t.rect;
    })

may_param : (ps : List Param) (i : ℕ) (p : Param) → slice_get ps i ≡ Some p → may_write ps i ≡ is_written p.mode
may_param [] i p h = absurd (cc h)
may_param (q ∷ ps) zero p h = let e : q ≡ p = cc h in ap (λ (x : Param). is_written x.mode) e
may_param (q ∷ ps) (suc i) p h = may_param ps i p h

pub none_flagged : (extents : List (List ℕ)) (i : ℕ) → slice_get (resolving_of.none_in_place extents) i ≡ Some true → ⊥
none_flagged [] i h = absurd (cc h)
none_flagged (e ∷ extents) zero h = absurd (cc h)
none_flagged (e ∷ extents) (suc i) h = none_flagged extents i h

abbrev pub entry : (r : Resolved) → IsEntry r
entry r = entry_is_first r

abbrev pub extents : Resolved → List (List ℕ)
extents r = (entry r).extents

abbrev pub form : Resolved → Key × Found
form r = ([], entry_form r.mapping.now.entry (extents r))

abbrev pub params : Resolved → List Param
params r = entry_params (tasks r) (slice_get (instances r) r.mapping.now.entry)

module _ (r : Resolved) (w : Walked r) where
  abbrev run : FormRuns r.typed.now r.mapping.now (resolving r) 0 (form r).1
  run = run_of r w 0 (form r) (entry r).found

  pub args_are : args_of r ≡ entry_arguments (params r) 0 (extents r)
  args_are = ap (λ (o : Option Form). entry_arguments (params r) 0 (extents_by o)) run.ran.kept

  params_of_run : params r ≡ run.fits.variant.params
  params_of_run =
      sym (ap (params_at (tasks r) (instances r)) (entry r).found)
      ∙ params_are r.typed.now r.machine.now.levels r.mapping.now w.faultless w.read (resolving r) w.through 0 (form r)
      (entry r).found run

  pub params_many : length (params r) ≡ length (extents r)
  params_many = ap length params_of_run ∙ sym run.fits.many

  pub args_many : length (args_of r) ≡ length (extents r)
  args_many = ap length args_are ∙ (args_long (params r) 0 (extents r) ∙ params_many)

  pub arg_at : (i : ℕ) (a : Argument) → slice_get (args_of r) i ≡ Some a → IsEntryArg (params r) (extents r) i i a
  arg_at i a e =
      let z : 0 + i ≡ i = omega arith in
      subst (λ (m : ℕ). IsEntryArg (params r) (extents r) i m a) z
      (entry_arg (params r) 0 (extents r) i a (ap (λ l. slice_get l i) (sym args_are) ∙ e))

  -- all of its array
  pub whole_at : (i : ℕ) (a : Argument) → slice_get (args_of r) i ≡ Some a → IsWhole (body_at r 0).arrays i a
  whole_at i a e =
      let t = arg_at i a e in
      let many = params_many in
      let less = slice_get_within (params r) i t.param t.there in
      let es : slice_get (extents r) i ≡ Some (get_or (extents r) i [])
      = slice_get-get_or (extents r) i [] (omega (arith, less, many)) in
      let to = param_shape run.fits.variant (form r).1 run.ran.scope i t.param (get_or (extents r) i [])
      (ap (λ l. slice_get l i) (sym params_of_run) ∙ t.there) es in
      record {
        array = t.array_is;
        shape = to.to;
        there = ap (λ l. slice_get l i)
            (arrays_are r.typed.now r.machine.now.levels r.mapping.now w.faultless w.read (resolving r) w.through 0
            (form r) (entry r).found run)
            ∙ to.there;
        rect = t.rect ∙ (ap (λ o. whole (extents_at o)) es ∙ ap whole (sym to.extents));
      }

  pub mode_at : (i : ℕ) (a : Argument) → slice_get (args_of r) i ≡ Some a
      → mays_of (tasks r) (instances r) r.found.entries 0 i ≡ true
      → is_written a.mode ≡ true
  mode_at i a e may =
      let t = arg_at i a e in
      ap is_written t.mode
      ∙ (sym (may_param run.fits.variant.params i t.param (ap (λ l. slice_get l i) (sym params_of_run) ∙ t.there))
      ∙ (sym
      (mays_are r.typed.now r.machine.now.levels r.mapping.now w.faultless w.read (resolving r) w.through 0 (form r)
      (entry r).found run i)
      ∙ may))

  module _ (choices : List Choice) (are : MayBeChosen r choices) where
    abbrev homes : Homes
    homes = homes_in (homes_of r choices) 0

    facts_with : (b : ℕ → FormBody) → (b 0 ≡ body_at r 0)
        → EntryFacts b (homes_in (homes_of r choices)) (mays_of (tasks r) (instances r) r.found.entries 0) (args_of r)
    facts_with b is =
        let h = homes_fit r w choices are 0 (form r) (entry r).found in
        let arrays : (b 0).arrays ≡ (body_at r 0).arrays = ap (λ (x : FormBody). x.arrays) is in
        record {
          many = args_many ∙ sym h.params;
          locals = ap length arrays ∙ h.locals;
          each = λ i a e. subst (λ (xs : List Shape). IsWhole xs i a) (sym arrays) (whole_at i a e);
          reduced = λ i a e. (arg_at i a e).reduced;
          modes = mode_at;
          dims = λ n sh e. (sized r w 0 n sh (ap (λ (xs : List Shape). slice_get xs n) (sym arrays) ∙ e)).dims;
          some = λ n sh e. (sized r w 0 n sh (ap (λ (xs : List Shape). slice_get xs n) (sym arrays) ∙ e)).some;
        }

    abbrev its : IsForm r choices are 0 (body_at r 0)
    its = is_form r choices are 0 (body_at r 0) (body_there r w 0 (form r) (entry r).found)

    abbrev c : Choice
    c = choice_in choices 0

    pub none_in_place : (i : ℕ) → get_or c.in_place i false ≡ true → ⊥
    none_in_place i e =
        let same : its.form ≡ with_locals (form r).1 run.ran.scope.locals = some_same _ _ (sym its.there ∙ run.ran.kept)
        in
        none_flagged (extents r) i
        (ap (λ (x : Form). slice_get x.in_place i) (sym same) ∙ its.chosen.in_place i e)

    own_home : (i : ℕ) (h : Home) → slice_get homes.params i ≡ Some h → HasOwn h
    own_home i h e =
        let p = param_is r choices are 0 (body_at r 0) its i h e in
        by p.is (home_by c its.chosen.moved (first_of r choices 0) i)
      where
        left : loops_left h ≡ 0
        left = ap loops_left (sym (get_or_from_slice_get homes.params i h InPlace e)) ∙ are.entry i

        by : {x : Home} → x ≡ h → HomeIs c its.chosen.moved (first_of r choices 0) i x → HasOwn h
        by is (stays f l) = absurd (none_in_place i f)
        by is (owns f l o) = record {
          buffer = own_number c its.chosen.moved (first_of r choices 0) i;
          is = sym is;
        }
        by is (owns_two f l o) = let no : true ≡ false = sym o ∙ are.first in absurd (cc no)
        by is (leaves n f l) =
            let z : suc n ≡ 0 = ap loops_left is ∙ left in
            absurd (omega (arith, z))

pub entries_are_whole : EntriesAreWhole
entries_are_whole r w choices are = facts_with r w choices are (body_in (bodies_of r)) (bodies_are r w 0)

pub entries_have_buffers : EntriesHaveBuffers
entries_have_buffers r w choices are = own_home r w choices are
