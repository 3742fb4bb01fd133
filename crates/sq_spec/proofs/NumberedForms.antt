-- A program without a race means what its forms do by their tables.
use Rattle.std.proofs.Common.{◌≡◌, ℕ, zero, suc, Bool, List, [], length, slice_get, Option, Some, None, Ok, Err, refl, sym, ap, ◌∙◌, subst}
use Rattle.std.proofs.Math.Logic.{∥∥₁_elim}
use Rattle.std.specs.Coded.{Coded-set, coded_list, coded×, coded_ℕ}
use Rattle.sq_ast.specs.declared.program.Body.{Body as Text}
use Rattle.sq_ast.specs.declared.program.Body.TheVariants as text
use Rattle.sq_ast.specs.declared.program.Variant.{Variant}
use Rattle.sq_form_laws.specs.Mappings.declared.mapping.Instance.{Instance}
use Rattle.sq_form_laws.specs.Mappings.declared.mapping.Mapping.{Mapping}
use Rattle.sq_work.specs.Leaf.Source.{Arrays}
use Rattle.sq_form_laws.specs.Forms.declared.form.Found.{Found}
use Rattle.sq_form_laws.specs.Forms.Faults.{Value}
use Rattle.sq_form_laws.specs.Forms.Steps.{Forms, Key, Called, key_number}
use Rattle.sq_form_laws.specs.Forms.Tables.{variant_of}
use Rattle.sq_form_laws.specs.Forms.Stmts.{stmts_steps}
use Rattle.sq_form_laws.specs.Forms.Decls.{Scope, empty_scope, params_from, all_declared}
use Rattle.sq_form_laws.specs.Forms.Resolving.{Resolving, resolution, frame_in, start, entry_params}
use Rattle.sq_form_laws.specs.Reached.{calls_in, form_number, or_zero, CalleeIs, Ran, steps_of}
use Rattle.sq_spec.specs.Statements.{number_or, elems_of}
use Rattle.sq_spec.specs.declared.body.FormBody.{FormBody}
use Rattle.sq_spec.specs.Bodies.{no_body, declared_body, scope_body, variant_body, instance_body, found_body, body_of, running, body_work, numbered_work}
use Rattle.sq_work.specs.Meaning.{Outcome, and_then, at_entry, at_return, meaning}
use Rattle.sq_work.specs.InTurn.{IsRaceFree, serial}
use Rattle.sq_spec.specs.Works as works
use Rattle.sq_spec.specs.Works.{shapes_of, stmts_work, form_work, declared_work, scope_work, variant_work, instance_work, entry_work, entry_arguments, work_of, found_in, flat}
use Rattle.sq_spec.specs.declared.resolved.Resolved.{Resolved}
use Rattle.sq_form_laws.specs.Forms.contracts.form.Found as row
use Rattle.sq_spec.specs.Walked.{IsWalked}
use Rattle.sq_spec.specs.Numbered.{called_entry, entry_call, TablesMeanProgram, TablesAreRaceFree}
use Rattle.sq_form_laws.proofs.RanHold.{forms_ran}
use Rattle.sq_spec.proofs.TablesMean.{list_agrees}
use Rattle.sq_work.proofs.Serial.{race_free_is_serial}
use Rattle.sq_spec.proofs.Numbered.{RunAlike, run_itself, between, Suits, suit_each, list_serves}

same_number : (o : Option ℕ) → number_or o ≡ or_zero o
same_number None = refl
same_number (Some n) = refl

module _ (variants : List Variant) (mapping : Mapping) (r : Resolving) (through : resolution variants mapping ≡ Ok r) where
  abbrev bodies : ℕ → FormBody
  bodies = body_of variants mapping.instances r.found

  -- a form that differs from the one of this number at most in the maps and forms round it does the same
  abbrev Agree : ℕ → Type 0
  Agree n = (k : ℕ) (e : Key × Found) → slice_get r.found k ≡ Some e → (f : Found) → f.instance ≡ e.1.instance → f.extents ≡ e.1.extents
      → RunAlike (form_work variants mapping.instances r.found n k f) (numbered_work bodies n k)

  callee_suits : (n : ℕ) → Agree n → (c : Called) → CalleeIs r.found c (form_number r.found c.key)
      → Suits r.found (form_work variants mapping.instances r.found n) (numbered_work bodies n) c
  callee_suits n agree c its f instance extents =
      let there : slice_get r.found (number_or (key_number r.found c.key)) ≡ Some its.form =
      subst (λ i. slice_get r.found i ≡ Some its.form) (sym (same_number (key_number r.found c.key))) its.there in
      agree (number_or (key_number r.found c.key)) its.form there f (instance ∙ sym its.is.instance) (extents ∙ sym its.is.extents)

  module _ (n : ℕ) (agree : Agree n) (k : ℕ) (e : Key × Found) (there : slice_get r.found k ≡ Some e) (f : Found) where
    -- a form of the same instance and extents
    abbrev its : Found
    its = record { instance = e.1.instance; level = f.level; extents = e.1.extents; in_place = f.in_place; caller = f.caller; maps = f.maps; depth = f.depth }

    at_body : (x : Instance) (v : Variant) (begun scope : Scope) → slice_get mapping.instances e.1.instance ≡ Some x → variant_of variants x.task x.kind ≡ Some v
        → params_from empty_scope v.params 0 e.1.extents ≡ Some begun → all_declared x.tunings begun v.decls ≡ Ok scope → (b : Text) → v.body ≡ b
        → RunAlike (works.body_work r.found (form_work variants mapping.instances r.found n) v b its (frame_in variants mapping.instances x k its) scope)
        (running (numbered_work bodies n) (shapes_of v e.1 scope) (Rattle.sq_spec.specs.Bodies.what_runs r.found (frame_in variants mapping.instances x k e.1) v b scope))
    at_body x v begun scope x_is v_is begun_is scope_is (text.Leaf list) b = run_itself _
    at_body x v begun scope x_is v_is begun_is scope_is (text.Inner list) b =
        let ran : Ran variants mapping.instances r k e.1 x v begun = forms_ran variants mapping r through k e x v begun there x_is v_is begun_is in
        let frame = frame_in variants mapping.instances x k e.1 in
        let same : ran.scope ≡ scope = let z : Ok ran.scope ≡ Ok scope = sym ran.declared ∙ scope_is in cc z in
        let callees : (i : ℕ) (c : Called) → slice_get (calls_in (stmts_steps list frame scope.names start scope.numbers [])) i ≡ Some c
        → CalleeIs r.found c (form_number r.found c.key) =
        λ i c at. ran.callees i c (subst (λ (z : Scope). slice_get (calls_in (steps_of variants mapping.instances x v k e.1 z)) i ≡ Some c) (sym same)
        (subst (λ (t : Text). slice_get (calls_in (Rattle.sq_form_laws.specs.Forms.Resolving.body_steps t frame scope)) i ≡ Some c) (sym b) at)) in
        let served = list_serves r.found (form_work variants mapping.instances r.found n) (numbered_work bodies n) (elems_of v scope) frame f.maps f.depth list
        scope.names scope.numbers
        (suit_each r.found (form_work variants mapping.instances r.found n) (numbered_work bodies n) (stmts_steps list frame scope.names start scope.numbers [])
        (λ i c at. callee_suits n agree c (callees i c at))) in
        let table_of = list_agrees r.found frame scope.names (elems_of v scope) scope.numbers (numbered_work bodies n) list in
        record {
          at = λ s. served.at s ∙ sym (ap (λ (run : Arrays → Outcome). run s) table_of.runs);
          written = λ i cs. served.written i cs ∙ sym (ap (λ (f : ℕ → List ℕ → Bool). f i cs) table_of.written);
          touched = λ i cs. served.touched i cs ∙ sym (ap (λ (f : ℕ → List ℕ → Bool). f i cs) table_of.touched);
          free = λ h. table_of.free (served.free h);
        }

    at_declared : (x : Instance) (v : Variant) (begun : Scope) → slice_get mapping.instances e.1.instance ≡ Some x → variant_of variants x.task x.kind ≡ Some v
        → params_from empty_scope v.params 0 e.1.extents ≡ Some begun → (o : Value Scope) → all_declared x.tunings begun v.decls ≡ o
        → RunAlike (declared_work r.found (form_work variants mapping.instances r.found n) (frame_in variants mapping.instances x k its) v its o)
        (body_work (numbered_work bodies n) (declared_body r.found (frame_in variants mapping.instances x k e.1) v e.1 o))
    at_declared x v begun x_is v_is begun_is (Err fault) o = run_itself _
    at_declared x v begun x_is v_is begun_is (Ok scope) o = at_body x v begun scope x_is v_is begun_is o v.body refl

    at_scope : (x : Instance) (v : Variant) → slice_get mapping.instances e.1.instance ≡ Some x → variant_of variants x.task x.kind ≡ Some v
        → (o : Option Scope) → params_from empty_scope v.params 0 e.1.extents ≡ o
        → RunAlike (scope_work r.found (form_work variants mapping.instances r.found n) (frame_in variants mapping.instances x k its) x v its o)
        (body_work (numbered_work bodies n) (scope_body r.found (frame_in variants mapping.instances x k e.1) x v e.1 o))
    at_scope x v x_is v_is None o = run_itself _
    at_scope x v x_is v_is (Some begun) o = at_declared x v begun x_is v_is o (all_declared x.tunings begun v.decls) refl

    at_variant : (x : Instance) → slice_get mapping.instances e.1.instance ≡ Some x → (o : Option Variant) → variant_of variants x.task x.kind ≡ o
        → RunAlike (variant_work r.found (form_work variants mapping.instances r.found n) variants mapping.instances x k its o)
        (body_work (numbered_work bodies n) (variant_body r.found variants mapping.instances x k e.1 o))
    at_variant x x_is None o = run_itself _
    at_variant x x_is (Some v) o = at_scope x v x_is o (params_from empty_scope v.params 0 e.1.extents) refl

    at_instance : (o : Option Instance) → slice_get mapping.instances e.1.instance ≡ o
        → RunAlike (instance_work r.found (form_work variants mapping.instances r.found n) variants mapping.instances k its o)
        (body_work (numbered_work bodies n) (instance_body r.found variants mapping.instances k e.1 o))
    at_instance None o = run_itself _
    at_instance (Some x) o = at_variant x o (variant_of variants x.task x.kind) refl

  forms_agree : (n : ℕ) → Agree n
  forms_agree zero k e there f instance extents = run_itself _
  forms_agree (suc n) k e there f instance extents =
      let same : f ≡ its n (forms_agree n) k e there f =
      ap (λ i. record { instance = i; level = f.level; extents = f.extents; in_place = f.in_place; caller = f.caller; maps = f.maps; depth = f.depth }) instance
      ∙ ap (λ (x : List (List ℕ)). record { instance = e.1.instance; level = f.level; extents = x; in_place = f.in_place; caller = f.caller; maps = f.maps; depth = f.depth }) extents in
      between (ap (form_work variants mapping.instances r.found (suc n) k) same)
      (ap (λ o. body_work (numbered_work bodies n) (found_body r.found variants mapping.instances k o)) there)
      (at_instance n (forms_agree n) k e there f (slice_get mapping.instances e.1.instance) refl)

-- the entry
module _ (variants : List Variant) (mapping : Mapping) (r : Resolving) (through : resolution variants mapping ≡ Ok r) where
  entry_agrees : (o : Option (Key × Found)) → slice_get r.found 0 ≡ o → RunAlike (entry_work variants mapping r.found o) (called_entry variants mapping r.found o)
  entry_agrees None o = run_itself _
  entry_agrees (Some e) o =
      let args = entry_arguments (entry_params variants (slice_get mapping.instances mapping.entry)) 0 e.1.extents in
      record {
        at = λ s. ap (λ (x : Outcome). and_then x (λ inner. Ok (at_return 0 args inner s)))
            ((forms_agree variants mapping r through (length r.found) 0 e o e.1 refl refl).at (at_entry args s));
        written = λ n cs. refl;
        touched = λ n cs. refl;
        free = (forms_agree variants mapping r through (length r.found) 0 e o e.1 refl refl).free;
      }

  pub tables_mean : IsRaceFree (work_of variants mapping r.found) → (s : Arrays)
      → meaning (work_of variants mapping r.found) s ≡ serial (entry_call variants mapping r.found) s
  tables_mean free s = race_free_is_serial (work_of variants mapping r.found) free s ∙ (entry_agrees (slice_get r.found 0) refl).at s

  pub tables_free : IsRaceFree (work_of variants mapping r.found) → IsRaceFree (entry_call variants mapping r.found)
  tables_free h = (entry_agrees (slice_get r.found 0) refl).free h

-- of a program that was resolved
module _ (r : Resolved) where
  through_it : (w : IsWalked r.typed.now r.machine.now.levels r.mapping.now r.found.entries r.forms r.uses) → resolution r.typed.now.tasks r.mapping.now
      ≡ Ok (record { found = r.found.entries; forms = r.forms; uses = r.uses })
  through_it w = w.through

  abbrev Means : Forms → Type 0
  Means found = IsRaceFree (work_of r.typed.now.tasks r.mapping.now found) → (s : Arrays)
      → flat r.typed.now r.mapping.now s ≡ serial (entry_call r.typed.now.tasks r.mapping.now found) s

  found_by : (o : Value Resolving) → resolution r.typed.now.tasks r.mapping.now ≡ o → Means r.found.entries
  found_by (Err f) e = absurd (∥∥₁_elim r.walked (λ x y. absurd x) (λ w. let z : Err f ≡ Ok (record { found = r.found.entries; forms = r.forms; uses = r.uses }) =
      sym e ∙ through_it w in cc z))
  found_by (Ok its) e =
      let same : its.found ≡ r.found.entries = ∥∥₁_elim r.walked (Coded-set (coded_list (coded× (coded_list coded_ℕ) row.the_row.coded)) _ _)
      (λ w. let z : Ok its ≡ Ok (record { found = r.found.entries; forms = r.forms; uses = r.uses }) = sym e ∙ through_it w in ap found_in z) in
      subst Means same (λ free s. ap (λ o. meaning (work_of r.typed.now.tasks r.mapping.now (found_in o)) s) e
      ∙ tables_mean r.typed.now.tasks r.mapping.now its e free s)

  abbrev Free : Forms → Type 0
  Free found = IsRaceFree (work_of r.typed.now.tasks r.mapping.now found) → IsRaceFree (entry_call r.typed.now.tasks r.mapping.now found)

  free_by : (o : Value Resolving) → resolution r.typed.now.tasks r.mapping.now ≡ o → Free r.found.entries
  free_by (Err f) e = absurd (∥∥₁_elim r.walked (λ x y. absurd x) (λ w. let z : Err f ≡ Ok (record { found = r.found.entries; forms = r.forms; uses = r.uses }) =
      sym e ∙ through_it w in cc z))
  free_by (Ok its) e =
      let same : its.found ≡ r.found.entries = ∥∥₁_elim r.walked (Coded-set (coded_list (coded× (coded_list coded_ℕ) row.the_row.coded)) _ _)
      (λ w. let z : Ok its ≡ Ok (record { found = r.found.entries; forms = r.forms; uses = r.uses }) = sym e ∙ through_it w in ap found_in z) in
      subst Free same (tables_free r.typed.now.tasks r.mapping.now its e)

pub tables_are_race_free : TablesAreRaceFree
tables_are_race_free r = free_by r (resolution r.typed.now.tasks r.mapping.now) refl

pub tables_mean_program : TablesMeanProgram
tables_mean_program r = found_by r (resolution r.typed.now.tasks r.mapping.now) refl
