-- Of programs with equal forms the plan is one.
use Rattle.std.proofs.Common.{◌≡◌, ℕ, suc, ◌+◌, Bool, List, [], ◌∷◌, ◌++◌, Option, Some, None, refl, sym, ◌∙◌}
use Rattle.std.proofs.Common.{ap, ap₂, length, slice_get, get_or}
use Rattle.std.specs.Prelude.{true, false, map, take, drop, slice_set, ◌==◌, if◌then◌else◌}
use Rattle.std.specs.List.{range_with_len}
use Rattle.sq_ast.specs.declared.program.Program.{Program}
use Rattle.sq_machfile.specs.Machines.{Hierarchy}
use Rattle.sq_forms.specs.Mappings.declared.mapping.Mapping.{Mapping}
use Rattle.sq_forms.specs.Mappings.declared.mapping.Instance.{Instance}
use Rattle.sq_forms.specs.declared.form.Form.{Form}
use Rattle.sq_forms.specs.declared.form.Caller.{Caller}
use Rattle.sq_forms.specs.Resolving.{entry_params}
use Rattle.sq_forms.specs.Steps.{Forms}
use Rattle.sq_ir.specs.declared.term.Term.{Term}
use Rattle.sq_ir.specs.declared.plan.Buffer.{Buffer}
use Rattle.sq_ir.specs.declared.plan.Leaf.{Leaf}
use Rattle.sq_ir.specs.declared.plan.Draft.{Draft}
use Rattle.sq_ir.specs.declared.plan.Note.{Note}
use Rattle.sq_ir.specs.declared.plan.Note.TheVariants.{Overlap}
use Rattle.sq_ir.specs.declared.plan.Plan.{Plan}
use Rattle.sq_ir.specs.declared.plan.PlanNode.{PlanNode}
use Rattle.sq_spec.specs.Bodies.{body_of}
use Rattle.sq_spec.specs.Works.{entry_arguments}
use Rattle.sq_spec.specs.declared.body.FormBody.{FormBody}
use Rattle.sq_spec.specs.declared.resolved.Resolved.{Resolved}
use Rattle.sq_spec_laws.specs.Needs.{variant_for}
use Rattle.sq_plan_good.specs.Term.Terms.{homes_in, buffer_or}
use Rattle.sq_store.specs.Walk.{offsets_of}
use Rattle.sq_plan_good.specs.Homes.Chosen.declared.choice.Choice.{Choice}
use Rattle.sq_plan_good.specs.Homes.Placed.declared.home.Homes.{Homes}
use Rattle.sq_plan_good.specs.Homes.Chosen.Arrays.{standing, others, array_size}
use Rattle.sq_plan_good.specs.Homes.Numbering.{form_homes}
use Rattle.sq_plan_good.specs.Homes.Chosen.Forms.{bodies_of, choice_in, instance_at, instance_by, level_by, rule_by}
use Rattle.sq_plan_good.specs.Homes.Chosen.Forms.{name_by}
use Rattle.sq_plan_good.specs.Homes.Drafts.{names_by, codes_in, homes_from, homes_of, buffer_at, buffers_from}
use Rattle.sq_plan_good.specs.Homes.Drafts.{buffers_of, leaves_in, leaves_from, leaves_of, extents_by, args_of}
use Rattle.sq_plan_good.specs.Homes.Drafts.{term_with, program_term, entry_of, IsDraftOf}
use Rattle.sq_pass_laws.specs.Hoist.declared.sites.Site.{Site}
use Rattle.sq_pass_laws.specs.Hoist.Choices.{choices_from, find_leaves, sites_from, sites_of, hoisted}
use Rattle.sq_pass_laws.specs.Hoist.Notes.{param_name, notes_in, site_notes}
use Rattle.sq_pass_laws.specs.Pipe.declared.candidate.Candidate.{Candidate}
use Rattle.sq_pass_laws.specs.Pipe.declared.room.Room.{Room}
use Rattle.sq_pass_laws.specs.Pipe.Runs.{Marks, flags_of, mark_below, unmarked, marks_called, marks_by, marks_from, marks_of, least_room, most_children, no_bound}
use Rattle.sq_pass_laws.specs.Pipe.Greedy.{sizes_of, room_of, rooms_by, rooms_of, have_room, taken_from, candidates_in, candidates_by, candidates_of, none_taken, taken_of, overlaps_from, overlapped}
use Rattle.sq_pass_laws.specs.Pipe.Notes.{overlap_notes, before_site, merged, notes_of}
use Rattle.sq_plan_good.specs.DraftLaws.Memories.{plan_node}
use Rattle.sq_plan_good.specs.Planned.{memories_of, IsPlacedFor}
use Rattle.sq_compile.specs.Compiled.{PlansAreOne}

ap₃ : {A B C D : Type 0} (f : A → B → C → D) {a a' : A} {b b' : B} {c c' : C} → a ≡ a' → b ≡ b' → c ≡ c'
    → f a b c ≡ f a' b' c'
ap₃ f {a} {a'} {b} {b'} {c} {c'} one two three =
    ap (λ x. f x b c) one ∙ (ap (λ x. f a' x c) two ∙ ap (λ x. f a' b' x) three)

module _ (r s : Resolved) (trees : r.typed.now ≡ s.typed.now) (maps : r.mapping.now ≡ s.mapping.now)
    (machines : r.machine.now ≡ s.machine.now) (forms : r.forms ≡ s.forms) (found : r.found.entries ≡ s.found.entries)
  where
    -- what is made of the parts is the same
    alike : {A : Type 0} (f : Program → Mapping → Hierarchy → List Form → Forms → A)
        → f r.typed.now r.mapping.now r.machine.now r.forms r.found.entries
        ≡ f s.typed.now s.mapping.now s.machine.now s.forms s.found.entries
    alike f =
        ap (λ t. f t r.mapping.now r.machine.now r.forms r.found.entries) trees
        ∙ (ap (λ m. f s.typed.now m r.machine.now r.forms r.found.entries) maps
        ∙ (ap (λ h. f s.typed.now s.mapping.now h r.forms r.found.entries) machines
        ∙ (ap (λ fs. f s.typed.now s.mapping.now s.machine.now fs r.found.entries) forms
        ∙ ap (λ e. f s.typed.now s.mapping.now s.machine.now s.forms e) found)))

    instance_alike : (k : ℕ) → instance_at r k ≡ instance_at s k
    instance_alike k = alike (λ t m h fs e. instance_by m.instances (slice_get fs k))

    bodies_alike : bodies_of r ≡ bodies_of s
    bodies_alike = alike (λ t m h fs e. map (body_of t.tasks m.instances e) (range_with_len 0 (length fs)))

    -- ---- hoisting

    sites_alike : sites_of r ≡ sites_of s
    sites_alike = ap (sites_from 0) bodies_alike

    hoisted_alike : hoisted r ≡ hoisted s
    hoisted_alike = ap₂ (λ sites fs. choices_from (find_leaves sites) 0 fs) sites_alike forms

    -- ---- the nodes at which forms run

    called_alike : (k level g : ℕ) (at : Marks) → marks_called r k level g at ≡ marks_called s k level g at
    called_alike k level g at = alike (λ t m h fs e. if level_by (slice_get fs g) == level then at
        else mark_below (λ children. flags_of (rule_by (instance_by m.instances (slice_get fs g))) children (length fs)
        (body_of t.tasks m.instances e g).body) k at 0 h.nodes (unmarked h.nodes))

    by_alike : (k level : ℕ) (caller : Option Caller) (known : List Marks)
        → marks_by r k level caller known ≡ marks_by s k level caller known
    by_alike k level None known = alike (λ t m h fs e. slice_set (unmarked h.nodes) 0 true)
    by_alike k level (Some c) known = called_alike k level c.form (get_or known c.form [])

    from_alike : (k : ℕ) (fs : List Form) (known : List Marks) → marks_from r k fs known ≡ marks_from s k fs known
    from_alike k [] known = refl
    from_alike k (f ∷ fs) known =
        from_alike (k + 1) fs (known ++ marks_by r k f.level f.caller known ∷ [])
        ∙ ap (λ (x : Marks). marks_from s (k + 1) fs (known ++ x ∷ [])) (by_alike k f.level f.caller known)

    marks_alike : marks_of r ≡ marks_of s
    marks_alike = from_alike 0 r.forms [] ∙ ap (λ fs. marks_from s 0 fs []) forms

    -- ---- overlapping

    room_alike : (b : FormBody) (c : Choice) (marks : Marks) → room_of r b c marks ≡ room_of s b c marks
    room_alike b c marks = ap (λ (h : Hierarchy). record {
      own = sizes_of b (standing b c);
      more = sizes_of b (others c);
      room = least_room marks 0 h.nodes no_bound;
    }) machines

    rooms_by_alike : (choices : List Choice) (k : ℕ) (bs : List FormBody) (marks : List Marks)
        → rooms_by r choices k bs marks ≡ rooms_by s choices k bs marks
    rooms_by_alike choices k [] marks = refl
    rooms_by_alike choices k (b ∷ bs) marks = ap₂ (λ (x : Room) (xs : List Room). x ∷ xs)
        (room_alike b (choice_in choices k) (get_or marks k [])) (rooms_by_alike choices (k + 1) bs marks)

    rooms_alike : rooms_of r ≡ rooms_of s
    rooms_alike = rooms_by_alike (hoisted r) 0 (bodies_of r) (marks_of r)
        ∙ ap₃ (λ choices bs marks. rooms_by s choices 0 bs marks) hoisted_alike bodies_alike marks_alike

    candidates_by_alike : (choices : List Choice) (k : ℕ) (bs : List FormBody) (marks : List Marks)
        → candidates_by r choices k bs marks ≡ candidates_by s choices k bs marks
    candidates_by_alike choices k [] marks = refl
    candidates_by_alike choices k (b ∷ bs) marks = ap₂ (λ (xs ys : List Candidate). xs ++ ys)
        (ap (λ (h : Hierarchy). candidates_in (λ f. (choice_in choices f).leaves)
        (most_children (get_or marks k []) 0 h.nodes 0) k b.body) machines)
        (candidates_by_alike choices (k + 1) bs marks)

    candidates_alike : candidates_of r ≡ candidates_of s
    candidates_alike = candidates_by_alike (hoisted r) 0 (bodies_of r) (marks_of r)
        ∙ ap₃ (λ choices bs marks. candidates_by s choices 0 bs marks) hoisted_alike bodies_alike marks_alike

    taken_alike : taken_of r ≡ taken_of s
    taken_alike = ap₃ (λ fs rooms cs. taken_from (λ taken. have_room taken 0 fs rooms []) (none_taken fs) cs)
        forms rooms_alike candidates_alike

    overlapped_alike : overlapped r ≡ overlapped s
    overlapped_alike = ap₂ (λ taken choices. overlaps_from taken 0 choices) taken_alike hoisted_alike

    -- ---- notes

    overlap_notes_alike : (taken : List Bool) (cs : List Candidate) → overlap_notes r taken cs ≡ overlap_notes s taken cs
    overlap_notes_alike taken [] = refl
    overlap_notes_alike taken (c ∷ cs) = ap₂ (λ (x : Option Instance) (xs : List Note).
        if get_or taken c.form false then Overlap c.place (name_by x) ∷ xs else xs)
        (instance_alike c.caller) (overlap_notes_alike taken cs)

    site_notes_alike : (x : Site) → site_notes r x ≡ site_notes s x
    site_notes_alike x = alike (λ t m h fs e. notes_in (name_by (instance_by m.instances (slice_get fs x.caller)))
        (λ i. param_name (slice_get (entry_params t.tasks (instance_by m.instances (slice_get fs x.form))) i)) x)

    merged_alike : (taken : List Bool) (sites : List Site) (cs : List Candidate)
        → merged r taken sites cs ≡ merged s taken sites cs
    merged_alike taken [] cs = overlap_notes_alike taken cs
    merged_alike taken (x ∷ xs) cs = ap₃ (λ (a b c : List Note). a ++ (b ++ c))
        (overlap_notes_alike taken (take (before_site x cs) cs)) (site_notes_alike x)
        (merged_alike taken xs (drop (before_site x cs) cs))

    notes_alike : notes_of r ≡ notes_of s
    notes_alike = merged_alike (taken_of r) (sites_of r) (candidates_of r)
        ∙ ap₃ (λ taken sites cs. merged s taken sites cs) taken_alike sites_alike candidates_alike

    -- ---- the draft

    homes_from_alike : (choices : List Choice) (k base code : ℕ) (bs : List FormBody)
        → homes_from r choices k base code bs ≡ homes_from s choices k base code bs
    homes_from_alike choices k base code [] = refl
    homes_from_alike choices k base code (b ∷ bs) = ap₂ (λ (x : Option Instance) (xs : List Homes).
        form_homes base (rule_by x) code b (choice_in choices k) ∷ xs)
        (instance_alike k)
        (homes_from_alike choices (suc k) (base + length (standing b (choice_in choices k))) (code + codes_in b.body) bs)

    homes_alike : homes_of r (overlapped r) ≡ homes_of s (overlapped s)
    homes_alike = homes_from_alike (overlapped r) 0 0 0 (bodies_of r)
        ∙ ap₂ (λ choices bs. homes_from s choices 0 0 0 bs) overlapped_alike bodies_alike

    buffer_alike : (k : ℕ) (b : FormBody) (is : List ℕ) → map (buffer_at r k b) is ≡ map (buffer_at s k b) is
    buffer_alike k b is = alike (λ t m h fs e. map (λ i. record {
      level = level_by (slice_get fs k);
      size = array_size b i;
      instance = name_by (instance_by m.instances (slice_get fs k));
      array = get_or (names_by (variant_for t.tasks (instance_by m.instances (slice_get fs k)))) i [];
    }) is)

    buffers_from_alike : (choices : List Choice) (k : ℕ) (bs : List FormBody)
        → buffers_from r choices k bs ≡ buffers_from s choices k bs
    buffers_from_alike choices k [] = refl
    buffers_from_alike choices k (b ∷ bs) = ap₂ (λ (xs ys : List Buffer). xs ++ ys)
        (buffer_alike k b (standing b (choice_in choices k))) (buffers_from_alike choices (suc k) bs)

    buffers_alike : buffers_of r (overlapped r) ≡ buffers_of s (overlapped s)
    buffers_alike = buffers_from_alike (overlapped r) 0 (bodies_of r)
        ∙ ap₂ (λ choices bs. buffers_from s choices 0 bs) overlapped_alike bodies_alike

    leaves_from_alike : (k : ℕ) (bs : List FormBody) → leaves_from r k bs ≡ leaves_from s k bs
    leaves_from_alike k [] = refl
    leaves_from_alike k (b ∷ bs) = ap₂ (λ (x : Option Instance) (xs : List Leaf). leaves_in (name_by x) b.body ++ xs)
        (instance_alike k) (leaves_from_alike (suc k) bs)

    leaves_alike : leaves_of r ≡ leaves_of s
    leaves_alike = leaves_from_alike 0 (bodies_of r) ∙ ap (leaves_from s 0) bodies_alike

    args_alike : args_of r ≡ args_of s
    args_alike = alike (λ t m h fs e. entry_arguments (entry_params t.tasks (slice_get m.instances m.entry)) 0
        (extents_by (slice_get fs 0)))

    term_alike : program_term r (overlapped r) ≡ program_term s (overlapped s)
    term_alike = ap₃ term_with bodies_alike homes_alike args_alike

    entry_alike : entry_of r (overlapped r) ≡ entry_of s (overlapped s)
    entry_alike = ap (λ (homes : List Homes). map buffer_or (homes_in homes 0).params) homes_alike

    drafts_alike : (d e : Draft) → IsDraftOf r (overlapped r) d → d.notes ≡ notes_of r → IsDraftOf s (overlapped s) e
        → e.notes ≡ notes_of s → d ≡ e
    drafts_alike d e its d_notes that e_notes =
        let term : d.term ≡ e.term = its.term ∙ (term_alike ∙ sym that.term) in
        let buffers : d.buffers ≡ e.buffers = its.buffers ∙ (buffers_alike ∙ sym that.buffers) in
        let leaves : d.leaves ≡ e.leaves = its.leaves ∙ (leaves_alike ∙ sym that.leaves) in
        let entry : d.entry ≡ e.entry = its.entry ∙ (entry_alike ∙ sym that.entry) in
        let notes : d.notes ≡ e.notes = d_notes ∙ (notes_alike ∙ sym e_notes) in
        ap (λ (x : Term). record d { term = x }) term
        ∙ (ap (λ (x : List Buffer). record e { buffers = x; leaves = d.leaves; entry = d.entry; notes = d.notes }) buffers
        ∙ (ap (λ (x : List Leaf). record e { leaves = x; entry = d.entry; notes = d.notes }) leaves
        ∙ (ap (λ (x : List ℕ). record e { entry = x; notes = d.notes }) entry
        ∙ ap (λ (x : List Note). record e { notes = x }) notes)))

    memories_alike : memories_of r ≡ memories_of s
    memories_alike = ap (λ (h : Hierarchy). map plan_node h.nodes) machines

    plans_alike : (p q : Plan) → IsPlacedFor r p → IsPlacedFor s q → p ≡ q
    plans_alike p q its that =
        its.placed.is
        ∙ (ap₂ (λ (d : Draft) (nodes : List PlanNode). record { draft = d; offsets = offsets_of d; nodes = nodes })
        (drafts_alike p.draft q.draft its.its its.notes that.its that.notes) memories_alike
        ∙ sym that.placed.is)

pub plans_are_one : PlansAreOne
plans_are_one r s trees maps machines forms found p q its that =
    plans_alike r s trees maps machines forms found p q its.placed that.placed
