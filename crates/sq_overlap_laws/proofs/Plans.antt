-- What the nodes need for the program's draft is the greatest end of a form that runs there.
use Rattle.std.proofs.Common.{◌≡◌, ◌⊎◌, inl, inr, ℕ, zero, suc, ◌+◌, ◌<◌, ◌≤◌, ◌&&◌, Bool, true, false, List, []}
use Rattle.std.proofs.Common.{◌∷◌, map, length, get_or, slice_get, Option, Some, None, refl, sym, ap, subst, ◌∙◌}
use Rattle.std.proofs.Common.{arith, if◌then◌else◌}
use Rattle.std.specs.Option.{option_map_or}
use Rattle.std.proofs.lemmas.Option.{slice_get_within}
use Rattle.sq_machfile.specs.Machines.{WithinLimits}
use Rattle.sq_ir.specs.declared.plan.Buffer.{Buffer}
use Rattle.sq_ir.specs.declared.plan.Draft.{Draft}
use Rattle.sq_forms.specs.declared.form.Caller.{Caller}
use Rattle.sq_forms.specs.declared.form.Form.{Form}
use Rattle.sq_forms.specs.declared.form.Found.{Found}
use Rattle.sq_forms.specs.Steps.{Key}
use Rattle.sq_spec.proofs.FormLaws.AnswerHold.{forms_are_found, forms_callers_first}
use Rattle.sq_spec.specs.declared.body.FormBody.{FormBody}
use Rattle.sq_spec.specs.declared.resolved.Resolved.{Resolved}
use Rattle.sq_nests.specs.Drafts.{nested_sum}
use Rattle.sq_pass_laws.specs.Hoist.Choices.{hoisted, choices_from, choice_of, find_leaves, sites_of}
use Rattle.sq_pass_laws.specs.Pipe.Greedy.{taken_of, with_overlap, overlaps_from, overlapped}
use Rattle.sq_pass_laws.specs.Pipe.Greedy.{sizes_of as bytes_in}
use Rattle.sq_pass_laws.proofs.PipePrograms.{overlaps_may_be_chosen}
use Rattle.sq_plan_good.specs.DraftLaws.Choosing.{Walked, MayBeChosen}
use Rattle.sq_plan_good.specs.DraftLaws.Memories.{plan_node}
use Rattle.sq_plan_good.specs.Homes.Chosen.declared.choice.Choice.{Choice}
use Rattle.sq_plan_good.specs.Homes.Chosen.Arrays.{left_by, array_size, others, standing}
use Rattle.sq_plan_good.specs.Homes.Chosen.Forms.{choice_in, no_choice}
use Rattle.sq_plan_good.specs.Homes.Drafts.{IsDraftOf, buffers_of, buffer_at}
use Rattle.sq_plan_good.specs.Room.{machine_setting, sizes_of, callers_top, level_top, FormsEnd}
use Rattle.sq_plan_good.proofs.DraftLaws.Forms.{body_at, body_there, resolving}
use Rattle.sq_plan_good.proofs.DraftLaws.Hoisted.{IsForm, is_form}
use Rattle.sq_plan_good.proofs.DraftLaws.Numbers.{first_of}
use Rattle.sq_plan_good.proofs.DraftLaws.ArrayPlaces.{StandsAt, param_stands, second_stands, local_stands}
use Rattle.sq_plan_good.proofs.DraftLaws.Hoisting.{at_index}
use Rattle.sq_plan_good.proofs.Drafts.{sums_are_of_loops}
use Rattle.sq_plan_good.proofs.Fitting.{sums_fit}
use Rattle.sq_plan_good.proofs.Counting.{loops_are_busy}
use Rattle.sq_plan_good.proofs.Tops.{ends_are_tops}
use Rattle.sq_overlap_laws.specs.Taken.{is_taken, form_size, EndsAt, IsEnd, NodeNeeds}
use Rattle.sq_overlap_laws.specs.Plans.{SumsAreTakenNeeds}
use Rattle.sq_overlap_laws.proofs.Beneath.{sized, Known, ends_within}
use Rattle.sq_overlap_laws.proofs.Bytes.{HasSizes}
use Rattle.sq_overlap_laws.proofs.Called.{at_level}
use Rattle.sq_overlap_laws.proofs.Enough.{overlaps_have_enough}
use Rattle.sq_overlap_laws.proofs.Sizes.{in_place_is, arrays_many, hoisted_overlaps, form_owns, form_doubles}
use Rattle.sq_pipe.proofs.Standing.{standing_bytes}
use Rattle.sq_pass_laws.specs.Pipe.Sums.{single_bytes}
use Rattle.sq_overlap_laws.proofs.Ends.{ends_one, ends_called, ends_first, end_there, need_there}

some_same : {A : Type 0} (x y : A) → Some x ≡ Some y → x ≡ y
some_same x y h = cc h

map_get : {A B : Type 0} (f : A → B) (xs : List A) (i : ℕ) (x : A) → slice_get xs i ≡ Some x
    → slice_get (map f xs) i ≡ Some (f x)
map_get f [] i x h = absurd (cc h)
map_get f (y ∷ xs) zero x h = let e : y ≡ x = cc h in ap (λ z. Some (f z)) e
map_get f (y ∷ xs) (suc i) x h = map_get f xs i x h

-- ---- which forms overlap

choice_there : (found : ℕ → Option (List ℕ)) (k : ℕ) (fs : List Form) (j : ℕ) (f : Form) → slice_get fs j ≡ Some f
    → (c : Choice) × (slice_get (choices_from found k fs) j ≡ Some c)
choice_there found k [] j f h = absurd (cc h)
choice_there found k (g ∷ fs) zero f h = (choice_of (found k) g, refl)
choice_there found k (g ∷ fs) (suc j) f h = choice_there found (suc k) fs j f h

overlapped_in : (taken : List Bool) (k : ℕ) (cs : List Choice) (j : ℕ) (c : Choice) → slice_get cs j ≡ Some c
    → get_or (overlaps_from taken k cs) j no_choice
    ≡ with_overlap (get_or cs j no_choice) (get_or taken (k + j) false)
overlapped_in taken k [] j c h = absurd (cc h)
overlapped_in taken k (d ∷ cs) zero c h =
    let z : k ≡ k + 0 = omega arith in ap (λ n. with_overlap d (get_or taken n false)) z
overlapped_in taken k (d ∷ cs) (suc j) c h =
    let z : k + 1 + j ≡ k + suc j = omega arith in
    overlapped_in taken (k + 1) cs j c h ∙ ap (λ n. with_overlap (get_or cs j no_choice) (get_or taken n false)) z

overlapped_is : (r : Resolved) (k : ℕ) (f : Form) → slice_get r.forms k ≡ Some f
    → choice_in (overlapped r) k ≡ with_overlap (choice_in (hoisted r) k) (is_taken (taken_of r) k)
overlapped_is r k f there =
    let c = choice_there (find_leaves (sites_of r)) 0 r.forms k f there in
    let z : 0 + k ≡ k = omega arith in
    overlapped_in (taken_of r) 0 (hoisted r) k c.0 c.1
    ∙ ap (λ n. with_overlap (choice_in (hoisted r) k) (get_or (taken_of r) n false)) z

overlaps_taken : (r : Resolved) (k : ℕ) (f : Form) → slice_get r.forms k ≡ Some f
    → (choice_in (overlapped r) k).overlaps ≡ is_taken (taken_of r) k
overlaps_taken r k f there = ap (λ (c : Choice). c.overlaps) (overlapped_is r k f there)

same_sizes : (b : FormBody) (is : List ℕ) → sizes_of b is ≡ bytes_in b is
same_sizes b [] = refl
same_sizes b (i ∷ is) = ap (λ n. array_size b i + n) (same_sizes b is)

-- all buffers of a form, both sets of a loop's
form_bytes : (r : Resolved) (w : Walked r) (k : ℕ) (f : Form) → slice_get r.forms k ≡ Some f
    → sizes_of (body_at r k) (standing (body_at r k) (choice_in (overlapped r) k)) ≡ form_size r (taken_of r) k f
form_bytes r w k f there =
    let e = forms_are_found r.typed.now.tasks r.mapping.now (resolving r) w.through k f there in
    let b = body_at r k in
    let c = choice_in (hoisted r) k in
    let t = is_taken (taken_of r) k in
    let m = ap length (in_place_is r w k e.found e.there) in
    let all = arrays_many r w k e.found e.there in
    let single = standing_bytes b c (omega (arith, m, all)) in
    let none : (if c.overlaps then bytes_in b (others c) else 0) ≡ 0 =
    ap (λ u. if u then bytes_in b (others c) else 0) (hoisted_overlaps r k f there) in
    let double : single_bytes b c + (if t then bytes_in b (others c) else 0) ≡ bytes_in b (standing b (with_overlap c t)) =
    standing_bytes b (with_overlap c t) (omega (arith, m, all)) in
    let own = form_owns r w k f there in
    let more = ap (λ n. if t then n else 0) (form_doubles r w k f there) in
    let is : sizes_of b (standing b (choice_in (overlapped r) k)) ≡ bytes_in b (standing b (with_overlap c t)) =
    same_sizes b (standing b (choice_in (overlapped r) k))
    ∙ ap (λ (x : Choice). bytes_in b (standing b x)) (overlapped_is r k f there) in
    omega (arith, single, none, double, own, more, is)

-- ---- the sizes of a draft's buffers

module _ (r : Resolved) (w : Walked r) where
  abbrev pub may : MayBeChosen r (overlapped r)
  may = overlaps_may_be_chosen r w

  abbrev size : ℕ → ℕ
  size = (machine_setting r (overlapped r)).size

  module _ (k : ℕ) (e : Key × Found) (there : slice_get r.found.entries k ≡ Some e) where
    abbrev b : FormBody
    b = body_at r k

    abbrev c : Choice
    c = choice_in (overlapped r) k

    abbrev first : ℕ
    first = first_of r (overlapped r) k

    abbrev form : IsForm r (overlapped r) may k b
    form = is_form r (overlapped r) may k b (body_there r w k e there)

    abbrev moved : (i : ℕ) → 0 < left_by c i → get_or c.in_place i false ≡ false
    moved = form.chosen.moved

    size_at : (i n : ℕ) → StandsAt c moved b first i n → size n ≡ array_size b i
    size_at i n at =
        let less = slice_get_within (standing b c) at.place i at.stands in
        let buffer : slice_get (buffers_of r (overlapped r)) (first + at.place) ≡ Some (buffer_at r k b i) =
        form.at.buffers at.place less ∙ map_get (buffer_at r k b) (standing b c) at.place i at.stands in
        ap size at.number ∙ ap (λ (o : Option Buffer). option_map_or (λ (y : Buffer). y.size) o 0) buffer

    has_sizes : HasSizes r (sized r size) true k
    has_sizes = record {
      param = λ i n less h. size_at i n (param_stands c moved b first i n less h);
      second = λ i m n less h. size_at i n (second_stands c moved b first i m n less h);
      local = λ j less. size_at (length c.in_place + j) _ (local_stands c moved b first j less);
    }

  and_true : (x : Bool) → x ≡ (x && true)
  and_true true = refl
  and_true false = refl

  known : Known r size true (taken_of r)
  known = record {
    sizes = λ k e there. has_sizes k e there;
    taking = λ k f there. sym (overlaps_taken r k f there) ∙ and_true (choice_in (overlapped r) k).overlaps;
  }

  -- no end is beyond the sum
  module _ (limits : WithinLimits r.machine.now) (d : Draft) (its : IsDraftOf r (overlapped r) d) (node : ℕ) where
    pub low : (end : ℕ) → IsEnd r (taken_of r) node end → end ≤ nested_sum d (map plan_node r.machine.now.nodes) node
    low end i =
        let is = sums_are_of_loops r w (overlapped r) may d its (map plan_node r.machine.now.nodes) node in
        let h = ends_within r w limits size true (taken_of r) known node i.form end i.runs i.ends in
        omega (arith, is, h)

-- ---- where forms end

module _ (r : Resolved) (w : Walked r) where
  top_by : (k : ℕ) (o : Option Form) → slice_get r.forms k ≡ o → ℕ
  top_by k None e = 0
  top_by k (Some f) e = (end_there r (taken_of r) w k f e).0

  top : ℕ → ℕ
  top k = top_by k (slice_get r.forms k) refl

  top_ends : (k : ℕ) (f : Form) → slice_get r.forms k ≡ Some f → EndsAt r (taken_of r) k (top k)
  unfolding top_by top
  top_ends k f there = by (slice_get r.forms k) refl there
    where
      by : (o : Option Form) (e : slice_get r.forms k ≡ o) → o ≡ Some f → EndsAt r (taken_of r) k (top_by k o e)
      by None e h = absurd (cc h)
      by (Some g) e h = (end_there r (taken_of r) w k g e).1

  form_end : (k : ℕ) (f : Form) → slice_get r.forms k ≡ Some f
      → callers_top r.forms top f.level f.caller + form_size r (taken_of r) k f ≡ top k
  form_end k f there = by f.caller refl
    where
      by : (o : Option Caller) → f.caller ≡ o → callers_top r.forms top f.level o + form_size r (taken_of r) k f ≡ top k
      by None none = ends_one r (taken_of r) (ends_first r (taken_of r) k f there none) (top_ends k f there)
      by (Some c) e =
          let low = forms_callers_first r.typed.now.tasks r.mapping.now (resolving r) w.through k f c there e in
          let long = slice_get_within r.forms k f there in
          let from = at_index r.forms c.form (omega (arith, low, long)) in
          ap (λ (o : Option Form). level_top f.level (top c.form) o + form_size r (taken_of r) k f) from.1
          ∙ ends_one r (taken_of r) (ends_called r (taken_of r) k (top c.form) f from.0 c there e from.1
          (top_ends c.form from.0 from.1)) (top_ends k f there)

  forms_end : FormsEnd r (overlapped r) top
  forms_end k f b there own =
      let e = forms_are_found r.typed.now.tasks r.mapping.now (resolving r) w.through k f there in
      let same : body_at r k ≡ b = some_same (body_at r k) b (sym (body_there r w k e.found e.there) ∙ own) in
      let bytes = form_bytes r w k f there in
      let its = ap (λ (x : FormBody). sizes_of x (standing x (choice_in (overlapped r) k))) same in
      let end = form_end k f there in
      omega (arith, bytes, its, end)

  module _ (limits : WithinLimits r.machine.now) (d : Draft) (its : IsDraftOf r (overlapped r) d) (node : ℕ) where
    high : (need : ℕ) → ((end : ℕ) → IsEnd r (taken_of r) node end → end ≤ need)
        → nested_sum d (map plan_node r.machine.now.nodes) node ≤ need
    high need all =
        sums_fit r w limits (overlapped r) (may r w) d its top
        (ends_are_tops r w (overlapped r) (may r w) top forms_end)
        (loops_are_busy r w (overlapped r) (may r w) (overlaps_have_enough r w limits)) node need
        (λ k runs. let at = at_level r w limits k node runs in
        all (top k) (record { form = k; runs = runs; ends = top_ends k at.form at.form_there }))

    sum_is : NodeNeeds r (taken_of r) node (nested_sum d (map plan_node r.machine.now.nodes) node)
    sum_is =
        let n = need_there r (taken_of r) w limits node in
        let up = high n.0 n.1.greatest in
        let down = by n.0 n.1.is in
        let same : n.0 ≡ nested_sum d (map plan_node r.machine.now.nodes) node = omega (arith, up, down) in
        subst (NodeNeeds r (taken_of r) node) same n.1
      where
        by : (need : ℕ) → (need ≡ 0) ⊎ IsEnd r (taken_of r) node need
            → need ≤ nested_sum d (map plan_node r.machine.now.nodes) node
        by need (inl z) = omega (arith, z)
        by need (inr i) = low r w limits d its node need i

pub sums_are_taken_needs : SumsAreTakenNeeds
sums_are_taken_needs r w limits d its node = sum_is r w limits d its node
