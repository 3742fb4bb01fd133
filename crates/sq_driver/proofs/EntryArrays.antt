-- The arrays of a program's entry, as a list with the buffers of a plan.
use Rattle.std.proofs.Common.{◌≡◌, ℕ, zero, suc, ◌+◌, ◌^◌, ◌≤◌, Bool, true, false, List, [], ◌∷◌, ◌++◌, length, map, get_or, slice_get, Option, Some, None, Ok, if◌then◌else◌, refl, sym, ◌∙◌, ap, ap₂, subst, arith}
use Rattle.std.specs.List.{All}
use Rattle.std.specs.Option.{option_map}
use Rattle.std.proofs.lemmas.List.Elements.{All-nil, All-cons, All-head, All-tail}
use Rattle.sq_num.specs.Elements.{values_in}
use Rattle.sq_rect.specs.Extents.{product}
use Rattle.sq_ast.specs.declared.program.Param.{Param}
use Rattle.sq_ast.specs.Modes.{is_read, is_written}
use Rattle.sq_arrays.specs.Arrays.{Wanted}
use Rattle.sq_arrays.specs.Targets.{name_at}
use Rattle.sq_arrays.specs.Written.{array_text}
use Rattle.sq_forms.specs.Decls.{most_elements}
use Rattle.sq_forms.specs.Resolving.{entry_extents}
use Rattle.sq_ir.specs.declared.plan.Plan.{Plan}
use Rattle.sq_leaf.specs.declared.shape.Shape.{Shape}
use Rattle.sq_spec.specs.Works.{extents_at, param_shapes}
use Rattle.sq_spec.specs.declared.resolved.Resolved.{Resolved}
use Rattle.sq_flat.specs.Held.{extents_in}
use Rattle.sq_root.specs.declared.place.Place.{Place}
use Rattle.sq_root.specs.Flagged.{flagged}
use Rattle.sq_root.specs.Places.{parts, Fits}
use Rattle.sq_compile.specs.Compiled.{IsPlanOf}
use Rattle.sq_compiled_laws.specs.Meant.Laws.{HasPlaces, PlacesFit}
use Rattle.sq_compiled_laws.specs.Meant.Places.{shapes_of, place_of as shape_place, places_in}
use Rattle.sq_ir.specs.Plans.{node_at}
use Rattle.sq_planfile.specs.File.{entry_arrays}
use Rattle.sq_planfile.specs.declared.entry.EntryArray.{EntryArray}
use Rattle.sq_launch.specs.Arrays.{AreSmall, want_of as array_want, those_read, wants_of as array_wants, places_of, read_places, root_text}
use Rattle.sq_launch.specs.Launching.{fault_args, args_at}
use Rattle.sq_launch.specs.Starts.{HaveRoom}
use Rattle.sq_launch.proofs.Placing.{flags_of, picked as read_picked}
use Rattle.sq_driver.specs.Data.{args_for}
use Rattle.sq_driver.specs.Entry.{params_of, want_of, wants_of}
use Rattle.sq_driver.specs.Outputs.{stored_output, stored_texts}
use Rattle.sq_driver.specs.Roots.{places_for, read_flags}
use Rattle.sq_driver.proofs.Entries.{entry_long, entry_small}

-- ---- the arguments of faults

-- those of the array of that number
pub args_are : (ws : List Wanted) (array : Option ℕ) → args_at (fault_args ws) array ≡ args_for (name_at ws array)
args_are ws None = refl
args_are ws (Some array) = by ws array
  where
    by : (ws : List Wanted) (array : ℕ) → get_or (fault_args ws) array [] ≡ args_for
        (option_map (λ (w : Wanted). w.name) (slice_get ws array))
    by [] array = refl
    by (w ∷ ws) zero = refl
    by (w ∷ ws) (suc array) = by ws array

-- ---- as many as there are parameters

pub many_shapes : (ps : List Param) (i : ℕ) (e : List (List ℕ)) → length (param_shapes ps i e) ≡ length ps
many_shapes [] i e = refl
many_shapes (p ∷ ps) i e = ap suc (many_shapes ps (i + 1) e)

module _ (fit : PlacesFit) (r : Resolved) (plan : Plan) (its : IsPlanOf r plan) (ps : List Param)
    (dims : List (List ℕ)) (params_are : ps ≡ params_of r.typed.now r.mapping.now)
    (dims_fit : entry_extents r.mapping.now.sizes (params_of r.typed.now r.mapping.now) ≡ Ok dims)
    (found : extents_in (slice_get r.found.entries 0) ≡ dims) where
  abbrev its_params : List Param
  its_params = params_of r.typed.now r.mapping.now

  has : HasPlaces r plan
  has = fit r plan its.placed

  pub shapes_are : shapes_of r ≡ param_shapes its_params 0 dims
  shapes_are = ap (λ (e : List (List ℕ)). param_shapes its_params 0 e) found

  one_each : length (shapes_of r) ≡ length ps
  one_each = ap (λ (l : List Shape). length l) shapes_are
      ∙ (many_shapes its_params 0 dims ∙ ap (λ (l : List Param). length l) (sym params_are))

  pub many_extents : length dims ≡ length ps
  many_extents = entry_long r.mapping.now.sizes its_params dims dims_fit ∙ ap (λ (l : List Param). length l)
      (sym params_are)

  pub many_buffers : length plan.draft.entry ≡ length ps
  many_buffers = has.buffers ∙ one_each

-- ---- what the list says

-- the extents of these parameters stand from there on in the list of all
abbrev Stand : List (List ℕ) → ℕ → List (List ℕ) → Type 0
Stand extents i all = (k : ℕ) → slice_get extents k ≡ slice_get all (i + k)

first_stands : (e : List ℕ) (extents all : List (List ℕ)) (i : ℕ) → Stand (e ∷ extents) i all
    → extents_at (slice_get all i) ≡ e
first_stands e extents all i stand =
    let same : i + 0 ≡ i = omega arith in
    ap extents_at (ap (λ (k : ℕ). slice_get all k) (sym same) ∙ sym (stand 0))

rest_stand : (e : List ℕ) (extents all : List (List ℕ)) (i : ℕ) → Stand (e ∷ extents) i all → Stand extents (i + 1) all
rest_stand e extents all i stand = λ k.
    let same : i + suc k ≡ (i + 1) + k = omega arith in
    stand (suc k) ∙ ap (λ (n : ℕ). slice_get all n) same

pub all_stand : (all : List (List ℕ)) → Stand all 0 all
all_stand all = λ k. let same : k ≡ 0 + k = omega arith in ap (λ (n : ℕ). slice_get all n) same

no_more : {A : Type 0} (n : ℕ) → 0 ≡ suc n → A
no_more n is = absurd (omega (arith, is))

-- they stand where the shapes of the parameters do
pub places_same : (plan : Plan) (ps : List Param) (extents : List (List ℕ)) (bs : List ℕ) (i : ℕ)
    (all : List (List ℕ)) → Stand extents i all → length extents ≡ length ps → length bs ≡ length ps
    → places_of plan (entry_arrays ps extents bs) ≡ places_in plan bs (param_shapes ps i all)
places_same plan [] extents [] i all stand many buffers = refl
places_same plan [] extents (b ∷ bs) i all stand many buffers = refl
places_same plan (p ∷ ps) [] bs i all stand many buffers = no_more (length ps) many
places_same plan (p ∷ ps) (e ∷ extents) [] i all stand many buffers = no_more (length ps) buffers
places_same plan (p ∷ ps) (e ∷ extents) (b ∷ bs) i all stand many buffers =
    ap₂ (λ (q : Place) (qs : List Place). q ∷ qs)
    (ap (λ (ds : List ℕ). shape_place plan b (record { elem = p.elem; extents = ds }))
    (sym (first_stands e extents all i stand)))
    (places_same plan ps extents bs (i + 1) all (rest_stand e extents all i stand) (omega (arith, many))
    (omega (arith, buffers)))

one_want : (b : Bool) (a : EntryArray) (arrays : List EntryArray) (w : Wanted) (ws : List Wanted) → array_want a ≡ w
    → map array_want arrays ≡ ws
    → map array_want (if b then a ∷ arrays else arrays) ≡ (if b then w ∷ ws else ws)
one_want true a arrays w ws first rest = ap₂ (λ (x : Wanted) (xs : List Wanted). x ∷ xs) first rest
one_want false a arrays w ws first rest = rest

-- the data gives what it gives for the parameters
pub wants_same : (ps : List Param) (extents : List (List ℕ)) (bs : List ℕ) (i : ℕ) (all : List (List ℕ))
    → Stand extents i all → length extents ≡ length ps → length bs ≡ length ps
    → array_wants (entry_arrays ps extents bs) ≡ wants_of is_read ps i all
wants_same [] extents bs i all stand many buffers = refl
wants_same (p ∷ ps) [] bs i all stand many buffers = no_more (length ps) many
wants_same (p ∷ ps) (e ∷ extents) [] i all stand many buffers = no_more (length ps) buffers
wants_same (p ∷ ps) (e ∷ extents) (b ∷ bs) i all stand many buffers =
    one_want (is_read p.mode)
    (record { mode = p.mode; elem = p.elem; name = p.name; extents = e; buffer = b })
    (those_read (entry_arrays ps extents bs)) (want_of p i all) (wants_of is_read ps (i + 1) all)
    (ap (λ (ds : List ℕ). record { name = p.name; elem = p.elem; extents = ds })
    (sym (first_stands e extents all i stand)))
    (wants_same ps extents bs (i + 1) all (rest_stand e extents all i stand) (omega (arith, many))
    (omega (arith, buffers)))

flags_same : (ps : List Param) (extents : List (List ℕ)) (bs : List ℕ) → length extents ≡ length ps
    → length bs ≡ length ps → flags_of (entry_arrays ps extents bs) ≡ read_flags ps
flags_same [] extents bs many buffers = refl
flags_same (p ∷ ps) [] bs many buffers = no_more (length ps) many
flags_same (p ∷ ps) (e ∷ extents) [] many buffers = no_more (length ps) buffers
flags_same (p ∷ ps) (e ∷ extents) (b ∷ bs) many buffers =
    ap (λ (fs : List Bool). is_read p.mode ∷ fs) (flags_same ps extents bs (omega (arith, many)) (omega (arith, buffers)))

-- the bytes of these places stand from there on in the list of all
abbrev StandParts : List Place → (root : List ℕ) → ℕ → List (List ℕ) → Type 0
StandParts places root i list = (k : ℕ) → get_or (parts places root) k [] ≡ get_or list (i + k) []

-- they have the texts of the parameters
pub texts_same : (plan : Plan) (ps : List Param) (extents : List (List ℕ)) (bs : List ℕ) (i : ℕ)
    (all : List (List ℕ)) (root : List ℕ) (list : List (List ℕ)) → Stand extents i all
    → StandParts (places_of plan (entry_arrays ps extents bs)) root i list → length extents ≡ length ps
    → length bs ≡ length ps
    → root_text plan (entry_arrays ps extents bs) root ≡ stored_texts ps i all list
texts_same plan [] extents bs i all root list stand there many buffers = refl
texts_same plan (p ∷ ps) [] bs i all root list stand there many buffers = no_more (length ps) many
texts_same plan (p ∷ ps) (e ∷ extents) [] i all root list stand there many buffers = no_more (length ps) buffers
texts_same plan (p ∷ ps) (e ∷ extents) (b ∷ bs) i all root list stand there many buffers =
    let same : i + 0 ≡ i = omega arith in
    let here = ap (λ (k : ℕ). get_or list k []) same in
    ap₂ (λ (first rest : List ℕ). first ++ rest)
    (text_same (is_written p.mode) (record { name = p.name; elem = p.elem; extents = e }) _
    (record { name = p.name; elem = p.elem; extents = extents_at (slice_get all i) }) _
    (ap (λ (ds : List ℕ). record { name = p.name; elem = p.elem; extents = ds })
    (sym (first_stands e extents all i stand)))
    (there 0 ∙ here))
    (texts_same plan ps extents bs (i + 1) all root list (rest_stand e extents all i stand)
    (λ k. let next : i + suc k ≡ (i + 1) + k = omega arith in
    there (suc k) ∙ ap (λ (n : ℕ). get_or list n []) next)
    (omega (arith, many)) (omega (arith, buffers)))
  where
    text_same : (b : Bool) (w : Wanted) (x : List ℕ) (v : Wanted) (y : List ℕ) → w ≡ v → x ≡ y
        → (if b then array_text w (values_in w.elem (product w.extents) x) else [])
        ≡ stored_output b v y
    text_same true w x v y wants bytes =
        ap₂ (λ (u : Wanted) (z : List ℕ). array_text u (values_in u.elem (product u.extents) z)) wants bytes
    text_same false w x v y wants bytes = refl

-- ---- room

few_elements : (n : ℕ) → n ≤ most_elements → n ≤ 2 ^ 26
unfolding most_elements
few_elements n few = few

pub arrays_small : (ps : List Param) (extents : List (List ℕ)) (bs : List ℕ)
    → All (λ ds. product ds ≤ most_elements) extents → AreSmall (entry_arrays ps extents bs)
arrays_small [] extents bs small = All-nil (λ (a : EntryArray). product a.extents ≤ 2 ^ 26)
arrays_small (p ∷ ps) [] bs small = All-nil (λ (a : EntryArray). product a.extents ≤ 2 ^ 26)
arrays_small (p ∷ ps) (e ∷ extents) [] small = All-nil (λ (a : EntryArray). product a.extents ≤ 2 ^ 26)
arrays_small (p ∷ ps) (e ∷ extents) (b ∷ bs) small =
    All-cons (λ (a : EntryArray). product a.extents ≤ 2 ^ 26)
    (record { mode = p.mode; elem = p.elem; name = p.name; extents = e; buffer = b }) (entry_arrays ps extents bs)
    (few_elements (product e) (All-head (λ (ds : List ℕ). product ds ≤ most_elements) e extents small))
    (arrays_small ps extents bs (All-tail (λ (ds : List ℕ). product ds ≤ most_elements) e extents small))

-- ---- of a program

module _ (fit : PlacesFit) (r : Resolved) (plan : Plan) (its : IsPlanOf r plan) (dims : List (List ℕ))
    (dims_fit : entry_extents r.mapping.now.sizes (params_of r.typed.now r.mapping.now) ≡ Ok dims)
    (found : extents_in (slice_get r.found.entries 0) ≡ dims) where
  abbrev ps : List Param
  ps = params_of r.typed.now r.mapping.now

  abbrev pub its_arrays : List EntryArray
  its_arrays = entry_arrays ps dims plan.draft.entry

  extents_many : length dims ≡ length ps
  extents_many = many_extents fit r plan its ps dims refl dims_fit found

  buffers_many : length plan.draft.entry ≡ length ps
  buffers_many = many_buffers fit r plan its ps dims refl dims_fit found

  pub their_places : places_of plan its_arrays ≡ places_for plan ps dims
  their_places = places_same plan ps dims plan.draft.entry 0 dims (all_stand dims) extents_many buffers_many

  pub their_wants : array_wants its_arrays ≡ wants_of is_read ps 0 dims
  their_wants = wants_same ps dims plan.draft.entry 0 dims (all_stand dims) extents_many buffers_many

  pub their_text : (root : List ℕ) → root_text plan its_arrays root ≡ stored_texts ps 0 dims
      (parts (places_for plan ps dims) root)
  their_text root = texts_same plan ps dims plan.draft.entry 0 dims root (parts (places_for plan ps dims) root)
      (all_stand dims)
      (λ k. let same : k ≡ 0 + k = omega arith in
      ap (λ (qs : List Place). get_or (parts qs root) k []) their_places
      ∙ ap (λ (n : ℕ). get_or (parts (places_for plan ps dims) root) n []) same)
      extents_many buffers_many

  pub their_reads : read_places plan its_arrays ≡ flagged (read_flags ps) (places_for plan ps dims)
  their_reads = read_picked plan its_arrays
      ∙ ap₂ (λ (fs : List Bool) (qs : List Place). flagged fs qs)
      (flags_same ps dims plan.draft.entry extents_many buffers_many) their_places

  pub shapes_same : shapes_of r ≡ param_shapes ps 0 dims
  shapes_same = shapes_are fit r plan its ps dims refl dims_fit found

  pub places_many : length (places_for plan ps dims) ≡ length ps
  places_many = subst (λ (y : List Shape). length (places_in plan plan.draft.entry y) ≡ length y) shapes_same
      (fit r plan its.placed).many ∙ many_shapes ps 0 dims

  pub places_fit : Fits (places_for plan ps dims) (node_at plan.nodes 0).capacity
  places_fit = subst (λ (y : List Shape). Fits (places_in plan plan.draft.entry y) (node_at plan.nodes 0).capacity)
      shapes_same (fit r plan its.placed).fit

  pub they_have_room : HaveRoom plan its_arrays
  they_have_room = record {
    small = arrays_small ps dims plan.draft.entry (entry_small r.mapping.now.sizes ps dims dims_fit);
    fit = subst (λ (qs : List Place). Fits qs (node_at plan.nodes 0).capacity) (sym their_places) places_fit;
  }
