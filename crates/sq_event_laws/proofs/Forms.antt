-- The leaf calls of forms, by their tables and by the source.
use Rattle.std.proofs.Common.{◌≡◌, ℕ, zero, suc, List, [], ◌∷◌, length, slice_get, Option, Some, None, Ok, Err}
use Rattle.std.proofs.Common.{refl, sym, ap, ap₂, ◌∙◌, subst}
use Rattle.std.proofs.Math.Logic.{∥∥₁_elim}
use Rattle.std.specs.Coded.{Coded-set, coded_ℕ}
use Rattle.sq_ast.specs.declared.program.Body.{Body as Text}
use Rattle.sq_ast.specs.declared.program.Body.TheVariants as text
use Rattle.sq_ast.specs.declared.program.Variant.{Variant}
use Rattle.sq_form_laws.specs.Mappings.declared.mapping.Instance.{Instance}
use Rattle.sq_form_laws.specs.Mappings.declared.mapping.Mapping.{Mapping}
use Rattle.sq_form_laws.specs.Forms.declared.form.Found.{Found}
use Rattle.sq_form_laws.specs.Forms.Faults.{Value}
use Rattle.sq_form_laws.specs.Forms.Steps.{Forms, Key, Called, key_number}
use Rattle.sq_form_laws.specs.Forms.Tables.{variant_of}
use Rattle.sq_form_laws.specs.Forms.Stmts.{stmts_steps}
use Rattle.sq_form_laws.specs.Forms.Decls.{Scope, empty_scope, params_from, all_declared}
use Rattle.sq_form_laws.specs.Forms.Resolving.{Resolving, resolution, frame_in, start, body_steps}
use Rattle.sq_form_laws.specs.Reached.{calls_in, form_number, or_zero, CalleeIs, Ran, steps_of}
use Rattle.sq_form_laws.proofs.RanHold.{forms_ran}
use Rattle.sq_spec.specs.declared.body.FormBody.{FormBody}
use Rattle.sq_spec.specs.Statements.{number_or, elems_of}
use Rattle.sq_spec.specs.Bodies.{what_runs, declared_body, scope_body, variant_body, instance_body, found_body, body_of}
use Rattle.sq_spec.specs.Works as works
use Rattle.sq_spec.specs.Works.{form_work, declared_work, scope_work, variant_work, instance_work, work_of}
use Rattle.sq_work.specs.Work.{Work}
use Rattle.sq_plan_good.specs.ProgramLaws.LeafCalls.{FormWeight, body_calls, form_calls}
use Rattle.sq_event_laws.specs.SourceCalls.{work_calls, TablesCountLeafCalls}
use Rattle.sq_event_laws.proofs.Statements.{Suits, suit_each, list_counts}

same_number : (o : Option ℕ) → number_or o ≡ or_zero o
same_number None = refl
same_number (Some n) = refl

module _ (weight : FormWeight) (variants : List Variant) (mapping : Mapping) (r : Resolving)
    (through : resolution variants mapping ≡ Ok r) where
  abbrev bodies : ℕ → FormBody
  bodies = body_of variants mapping.instances r.found

  abbrev done : ℕ → FormWeight
  done = form_calls bodies weight

  -- a form that differs from the one of this number at most in the maps and forms round it has its leaf calls
  abbrev Agree : ℕ → Type 0
  Agree n = (k : ℕ) (e : Key × Found) → slice_get r.found k ≡ Some e → (f : Found) → f.instance ≡ e.1.instance
      → f.extents ≡ e.1.extents → (path : List ℕ)
      → work_calls weight k (form_work variants mapping.instances r.found n k f) path ≡ done n k path

  callee_suits : (n : ℕ) → Agree n → (c : Called) → CalleeIs r.found c (form_number r.found c.key)
      → Suits weight (done n) r.found (form_work variants mapping.instances r.found n) c
  callee_suits n agree c its f instance extents =
      let there : slice_get r.found (number_or (key_number r.found c.key)) ≡ Some its.form =
      subst (λ i. slice_get r.found i ≡ Some its.form) (sym (same_number (key_number r.found c.key))) its.there in
      agree (number_or (key_number r.found c.key)) its.form there f (instance ∙ sym its.is.instance)
      (extents ∙ sym its.is.extents)

  module _ (n : ℕ) (agree : Agree n) (k : ℕ) (e : Key × Found) (there : slice_get r.found k ≡ Some e) (f : Found)
      (path : List ℕ) where
    -- a form of the same instance and extents
    abbrev its : Found
    its = record {
      instance = e.1.instance;
      level = f.level;
      extents = e.1.extents;
      in_place = f.in_place;
      caller = f.caller;
      maps = f.maps;
      depth = f.depth;
    }

    abbrev callees : ℕ → Found → Work
    callees = form_work variants mapping.instances r.found n

    abbrev counted : FormBody → ℕ
    counted b = body_calls weight (done n) k b.body path

    at_body : (x : Instance) (v : Variant) (begun scope : Scope) → slice_get mapping.instances e.1.instance ≡ Some x
        → variant_of variants x.task x.kind ≡ Some v → params_from empty_scope v.params 0 e.1.extents ≡ Some begun
        → all_declared x.tunings begun v.decls ≡ Ok scope → (b : Text) → v.body ≡ b
        → work_calls weight k
        (works.body_work r.found callees v b its (frame_in variants mapping.instances x k its) scope) path
        ≡ body_calls weight (done n) k (what_runs r.found (frame_in variants mapping.instances x k e.1) v b scope) path
    at_body x v begun scope x_is v_is begun_is scope_is (text.Leaf list) b = refl
    at_body x v begun scope x_is v_is begun_is scope_is (text.Inner list) b =
        let ran : Ran variants mapping.instances r k e.1 x v begun
        = forms_ran variants mapping r through k e x v begun there x_is v_is begun_is in
        let frame = frame_in variants mapping.instances x k e.1 in
        let same : ran.scope ≡ scope = let z : Ok ran.scope ≡ Ok scope = sym ran.declared ∙ scope_is in cc z in
        let reached : (i : ℕ) (c : Called)
        → slice_get (calls_in (stmts_steps list frame scope.names start scope.numbers [])) i ≡ Some c
        → CalleeIs r.found c (form_number r.found c.key) =
        λ i c at. ran.callees i c
        (subst (λ (z : Scope). slice_get (calls_in (steps_of variants mapping.instances x v k e.1 z)) i ≡ Some c)
        (sym same) (subst (λ (t : Text). slice_get (calls_in (body_steps t frame scope)) i ≡ Some c) (sym b) at)) in
        list_counts weight (done n) r.found callees (elems_of v scope) frame f.maps f.depth k scope.names scope.numbers
        list (suit_each weight (done n) r.found callees (stmts_steps list frame scope.names start scope.numbers [])
        (λ i c at. callee_suits n agree c (reached i c at))) path

    at_declared : (x : Instance) (v : Variant) (begun : Scope) → slice_get mapping.instances e.1.instance ≡ Some x
        → variant_of variants x.task x.kind ≡ Some v → params_from empty_scope v.params 0 e.1.extents ≡ Some begun
        → (o : Value Scope) → all_declared x.tunings begun v.decls ≡ o
        → work_calls weight k (declared_work r.found callees (frame_in variants mapping.instances x k its) v its o) path
        ≡ counted (declared_body r.found (frame_in variants mapping.instances x k e.1) v e.1 o)
    at_declared x v begun x_is v_is begun_is (Err fault) o = refl
    at_declared x v begun x_is v_is begun_is (Ok scope) o
        = at_body x v begun scope x_is v_is begun_is o v.body refl

    at_scope : (x : Instance) (v : Variant) → slice_get mapping.instances e.1.instance ≡ Some x
        → variant_of variants x.task x.kind ≡ Some v
        → (o : Option Scope) → params_from empty_scope v.params 0 e.1.extents ≡ o
        → work_calls weight k (scope_work r.found callees (frame_in variants mapping.instances x k its) x v its o) path
        ≡ counted (scope_body r.found (frame_in variants mapping.instances x k e.1) x v e.1 o)
    at_scope x v x_is v_is None o = refl
    at_scope x v x_is v_is (Some begun) o
        = at_declared x v begun x_is v_is o (all_declared x.tunings begun v.decls) refl

    at_variant : (x : Instance) → slice_get mapping.instances e.1.instance ≡ Some x
        → (o : Option Variant) → variant_of variants x.task x.kind ≡ o
        → work_calls weight k (variant_work r.found callees variants mapping.instances x k its o) path
        ≡ counted (variant_body r.found variants mapping.instances x k e.1 o)
    at_variant x x_is None o = refl
    at_variant x x_is (Some v) o = at_scope x v x_is o (params_from empty_scope v.params 0 e.1.extents) refl

    at_instance : (o : Option Instance) → slice_get mapping.instances e.1.instance ≡ o
        → work_calls weight k (instance_work r.found callees variants mapping.instances k its o) path
        ≡ counted (instance_body r.found variants mapping.instances k e.1 o)
    at_instance None o = refl
    at_instance (Some x) o = at_variant x o (variant_of variants x.task x.kind) refl

  forms_agree : (n : ℕ) → Agree n
  forms_agree zero k e there f instance extents path = refl
  forms_agree (suc n) k e there f instance extents path =
      let made : ℕ → List (List ℕ) → Found = λ i x. record {
        instance = i;
        level = f.level;
        extents = x;
        in_place = f.in_place;
        caller = f.caller;
        maps = f.maps;
        depth = f.depth;
      } in
      let same : f ≡ its n (forms_agree n) k e there f path = ap₂ made instance extents in
      ap (λ g. work_calls weight k (form_work variants mapping.instances r.found (suc n) k g) path) same
      ∙ (at_instance n (forms_agree n) k e there f path (slice_get mapping.instances e.1.instance) refl
      ∙ sym (ap (λ o. body_calls weight (done n) k (found_body r.found variants mapping.instances k o).body path)
      there))

-- the entry
entry_counts : (weight : FormWeight) (variants : List Variant) (mapping : Mapping) (r : Resolving)
    → resolution variants mapping ≡ Ok r → (forms : Forms) → r.found ≡ forms
    → form_calls (body_of variants mapping.instances forms) weight (length forms) 0 []
    ≡ work_calls weight 0 (work_of variants mapping forms) []
entry_counts weight variants mapping r through [] is = refl
entry_counts weight variants mapping r through (e ∷ rest) is =
    let there : slice_get r.found 0 ≡ Some e = ap (λ (l : Forms). slice_get l 0) is in
    sym (subst (λ (l : Forms).
    work_calls weight 0 (form_work variants mapping.instances l (length l) 0 e.1) []
    ≡ form_calls (body_of variants mapping.instances l) weight (length l) 0 []) is
    (forms_agree weight variants mapping r through (length r.found) 0 e there e.1 refl refl []))

pub tables_count : TablesCountLeafCalls
tables_count r weight = ∥∥₁_elim r.walked (Coded-set coded_ℕ _ _)
    (λ w. entry_counts weight r.typed.now.tasks r.mapping.now
    (record { found = r.found.entries; forms = r.forms; uses = r.uses }) w.through r.found.entries refl)
