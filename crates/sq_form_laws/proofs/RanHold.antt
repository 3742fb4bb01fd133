-- Each form of the answer, its accesses and its callees.
use Rattle.std.proofs.Common.{◌≡◌, ℕ, zero, suc, ◌+◌, ◌≤◌, ◌⊎◌, inl, inr, List, [], ◌∷◌, ◌++◌, length, Option, Some, None, Ok, Err, refl, sym, ◌∙◌, ap, subst, arith, length-append}
use Rattle.std.specs.Prelude.{slice_get, ◌==◌}
use Rattle.sq_text.specs.Names.{Bytes}
use Rattle.sq_ast.specs.declared.stmt.Call.{Call}
use Rattle.sq_ast.specs.declared.program.Variant.{Variant}
use Rattle.sq_forms.specs.Mappings.declared.mapping.Instance.{Instance}
use Rattle.sq_forms.specs.Mappings.declared.mapping.Mapping.{Mapping}
use Rattle.sq_blocks.specs.declared.argument.Argument.{Argument}
use Rattle.sq_forms.specs.declared.form.Found.{Found}
use Rattle.sq_forms.specs.Faults.{Value, and_then}
use Rattle.sq_forms.specs.Steps.{State, Called, Forms, Key, run, most_forms}
use Rattle.sq_forms.specs.Args.{Names}
use Rattle.sq_forms.specs.Tables.{variant_of, route_of}
use Rattle.sq_forms.specs.Worlds.{Frame, Callee, callee_of, callee_at, served_by, as_callee}
use Rattle.sq_forms.specs.Calls.{CallSite, key_of, call_of, flags, extents_of}
use Rattle.sq_forms.specs.Decls.{Scope, empty_scope, params_from, all_declared}
use Rattle.sq_forms.specs.Resolving.{Outcome, Resolving, with_locals, outcome_of, more, frame_in, body_steps, walk_of, walked_in, walked_by, walked_with, walked_at, next_walked, walk_from, resolution, with_entry, entry_extents, entry_params}
use Rattle.sq_form_laws.specs.Reached.{IsReached, IsCallee, FormsRan, AsManyForms, form_number, or_zero, steps_of, body_calls}
use Rattle.sq_forms.proofs.AllForms.{forms_limit}
use Rattle.sq_form_laws.proofs.AllHold.{Adding, InEachForm, all_hold, within_list}
use Rattle.sq_form_laws.proofs.FormsHold.{each_walked, walked_keeps}
use Rattle.sq_form_laws.proofs.KeysFound.{Numbered, goes, form_there}
use Rattle.sq_form_laws.proofs.KeysHold.{key_is_form}
use Rattle.sq_form_laws.proofs.Passing.{at_each, of_each, calls_are_reached}

some_same : {A : Type 0} (x y : A) → Some x ≡ Some y → x ≡ y
some_same x y h = cc h

-- ---- no more forms are found than there may be

few_added : Adding (λ forms. length forms ≤ most_forms) (λ k c. Unit {0})
few_added k forms c p less few holds = omega (arith, few, length-append forms ((c.key, c.form) ∷ []))

pub nothing_asked : (variants : List Variant) (instances : List Instance) → InEachForm variants instances (λ k c. Unit {0})
nothing_asked variants instances x v k f scope s t there runs h = of_each (λ c. Unit {0}) (steps_of variants instances x v k f scope) (λ i c g. tt)

pub few_found : (variants : List Variant) (mapping : Mapping) (r : Resolving) → resolution variants mapping ≡ Ok r → length r.found ≤ most_forms
few_found variants mapping r h =
    all_hold variants mapping (λ forms. length forms ≤ most_forms) (λ k c. Unit {0}) few_added (nothing_asked variants mapping.instances) (λ extents e. omega (arith, forms_limit)) r h

-- ---- as many are found as are walked

module _ (variants : List Variant) (instances : List Instance) where
  abbrev NoMore : ℕ → ℕ → Resolving → Type 0
  NoMore n k s = (t : Resolving) → length t.forms ≤ k + 1 → length t.forms ≤ length t.found → walk_from variants instances n (k + 1) t ≡ Ok s → length s.forms ≤ length s.found

  no_more_next : (n k : ℕ) (r s : Resolving) (form : Key × Found) → length r.forms ≤ k → length r.forms ≤ length r.found → slice_get r.found k ≡ Some form
      → NoMore n k s
      → (v : Value Outcome) → walk_of variants instances k form.1 r.found ≡ v
      → and_then (and_then v (λ o. Ok (more r form.1 o))) (λ t. walk_from variants instances n (k + 1) t) ≡ Ok s → length s.forms ≤ length s.found
  no_more_next n k r s form few less there rest (Ok o) e h =
      let grown = walked_keeps variants instances k form.1 r.found o e in
      let here = within_list r.found k form there in
      let longer : length o.forms ≡ length (r.found ++ grown.rest) = ap length grown.same in
      rest (more r form.1 o) (omega (arith, few, length-append r.forms (with_locals form.1 o.locals ∷ [])))
      (omega (arith, few, here, longer, length-append r.found grown.rest, length-append r.forms (with_locals form.1 o.locals ∷ []))) h
  no_more_next n k r s form few less there rest (Err x) e h = absurd (cc h)

  no_more_found : (n k : ℕ) (r s : Resolving) → length r.forms ≤ k → length r.forms ≤ length r.found → NoMore n k s
      → (o : Option (Key × Found)) → slice_get r.found k ≡ o
      → and_then (next_walked variants instances k r o) (λ t. walk_from variants instances n (k + 1) t) ≡ Ok s
      → length s.forms ≤ length s.found
  no_more_found n k r s few less rest None there h = rest r (omega (arith, few)) less h
  no_more_found n k r s few less rest (Some form) there h = no_more_next n k r s form few less there rest (walk_of variants instances k form.1 r.found) refl h

  no_more_from : (n k : ℕ) (r s : Resolving) → length r.forms ≤ k → length r.forms ≤ length r.found → walk_from variants instances n k r ≡ Ok s
      → length s.forms ≤ length s.found
  no_more_from zero k r s few less h = let e : r ≡ s = cc h in subst (λ (t : Resolving). length t.forms ≤ length t.found) e less
  no_more_from (suc n) k r s few less h = no_more_found n k r s few less (λ t f l g. no_more_from n (k + 1) t s f l g) (slice_get r.found k) refl h

no_more_begun : (variants : List Variant) (mapping : Mapping) (r : Resolving) (v : Value (List (List ℕ)))
    → and_then v (λ extents. walk_from variants mapping.instances most_forms 0 (with_entry mapping.entry extents)) ≡ Ok r → length r.forms ≤ length r.found
no_more_begun variants mapping r (Err x) h = absurd (cc h)
no_more_begun variants mapping r (Ok extents) h = no_more_from variants mapping.instances most_forms 0 (with_entry mapping.entry extents) r (omega arith) (omega arith) h

last_there : {A : Type 0} (xs : List A) (n : ℕ) → length xs ≡ suc n → (x : A) × (slice_get xs n ≡ Some x)
last_there [] n h = absurd (omega (arith, h))
last_there (x ∷ []) zero h = (x, refl)
last_there (x ∷ []) (suc n) h = absurd (omega (arith, h))
last_there (x ∷ y ∷ xs) zero h = absurd (omega (arith, h))
last_there (x ∷ y ∷ xs) (suc n) h = last_there (y ∷ xs) n (omega (arith, h))

no_fewer : (variants : List Variant) (mapping : Mapping) (r : Resolving) → resolution variants mapping ≡ Ok r → (n : ℕ) → length r.found ≡ n
    → length r.found ≤ length r.forms
no_fewer variants mapping r h zero e = omega (arith, e)
no_fewer variants mapping r h (suc n) e =
    let last = last_there r.found n e in
    let w = each_walked variants mapping r h n last.0 (omega (arith, e, few_found variants mapping r h)) last.1 in
    let there = within_list r.forms n (with_locals last.0.1 w.done.locals) w.kept in
    omega (arith, e, there)

pub as_many_forms : AsManyForms
as_many_forms variants mapping r h =
    let a = no_fewer variants mapping r h (length r.found) refl in
    let b = no_more_begun variants mapping r (entry_extents mapping.sizes (entry_params variants (slice_get mapping.instances mapping.entry))) h in
    omega (arith, a, b)

-- ---- the instance that serves a call

pub record Serving (frame : Frame) (task : Bytes) (callee : Callee) : Type 0 where
  pub route : route_of frame.routes task ≡ Some callee.instance
  pub instance : Instance
  pub there : slice_get frame.instances callee.instance ≡ Some instance
  pub level : callee.level ≡ instance.level
  pub variant : Variant
  pub runs : variant_of frame.variants instance.task instance.kind ≡ Some variant
  pub params : callee.params ≡ variant.params

module _ (frame : Frame) (task : Bytes) (callee : Callee) where
  by_variant : (number : ℕ) (x : Instance) → route_of frame.routes task ≡ Some number → slice_get frame.instances number ≡ Some x
      → (o : Option Variant) → variant_of frame.variants x.task x.kind ≡ o → as_callee number x o ≡ Some callee → Serving frame task callee
  by_variant number x r there None e h = absurd (cc h)
  by_variant number x r there (Some v) e h =
      let made : Callee = record { instance = number; level = x.level; params = v.params } in
      let is : made ≡ callee = cc h in
      subst (Serving frame task) is (record { route = r; instance = x; there = there; level = refl; variant = v; runs = e; params = refl })

  by_instance : (number : ℕ) → route_of frame.routes task ≡ Some number → (o : Option Instance) → slice_get frame.instances number ≡ o
      → served_by frame number o ≡ Some callee → Serving frame task callee
  by_instance number r None e h = absurd (cc h)
  by_instance number r (Some x) e h = by_variant number x r e (variant_of frame.variants x.task x.kind) refl h

  by_route : (o : Option ℕ) → route_of frame.routes task ≡ o → callee_at frame o ≡ Some callee → Serving frame task callee
  by_route None e h = absurd (cc h)
  by_route (Some number) e h = by_instance number e (slice_get frame.instances number) refl h

pub serving : (frame : Frame) (task : Bytes) (callee : Callee) → callee_of frame task ≡ Some callee → Serving frame task callee
serving frame task callee h = by_route frame task callee (route_of frame.routes task) refl h

-- ---- forms and their keys

-- the key is that of the form
pub record HasKey (instances : List Instance) (e : Key × Found) : Type 0 where
  pub form : ℕ
  pub call : ℕ
  pub caller : e.1.caller ≡ Some (record { form = form; call = call })
  pub key : e.0 ≡ key_of form call e.1.instance e.1.in_place e.1.extents
  pub instance : Instance
  pub there : slice_get instances e.1.instance ≡ Some instance
  pub level : e.1.level ≡ instance.level

record AllKeyed (instances : List Instance) (forms : Forms) : Type 0 where
  each : (i : ℕ) (e : Key × Found) → slice_get forms i ≡ Some e → (e.0 ≡ []) ⊎ HasKey instances e

abbrev entry_of : Called → Key × Found
entry_of c = (c.key, c.form)

abbrev pub Keyed : List Instance → ℕ → Called → Type 0
Keyed instances k c = HasKey instances (entry_of c)

found_in : (forms : Forms) (e f : Key × Found) (i : ℕ) → slice_get (forms ++ e ∷ []) i ≡ Some f → (slice_get forms i ≡ Some f) ⊎ (e ≡ f)
found_in [] e f zero h = inr (cc h)
found_in [] e f (suc i) h = absurd (cc h)
found_in (g ∷ forms) e f zero h = inl h
found_in (g ∷ forms) e f (suc i) h = found_in forms e f i h

key_added : (instances : List Instance) → Adding (AllKeyed instances) (Keyed instances)
key_added instances k forms c p less few holds = record {
  each = λ i f there. elim (found_in forms (entry_of c) f i there) [
    | inl old ↦ holds.each i f old
    | inr new ↦ inr (subst (HasKey instances) new p)
  ];
}

key_called : (frame : Frame) (callee : Callee) (site : CallSite) (call : Call) (xs : List Argument) → callee_of frame call.task ≡ Some callee
    → HasKey frame.instances (entry_of (call_of frame callee site call xs))
key_called frame callee site call xs h =
    let sv = serving frame call.task callee h in
    record { form = frame.form; call = site.call; caller = refl; key = refl; instance = sv.instance; there = sv.there; level = sv.level }

key_reached : (frame : Frame) (names : Names) (text : List Call) (c : Called) → IsReached frame names text c → HasKey frame.instances (entry_of c)
key_reached frame names text c h =
    subst (λ (d : Called). HasKey frame.instances (entry_of d)) (sym h.is) (key_called frame h.callee h.site h.call h.arguments h.serves)

pub keys_reached : (variants : List Variant) (instances : List Instance) → InEachForm variants instances (Keyed instances)
keys_reached variants instances x v k f scope s t there runs h =
    of_each (λ c. HasKey instances (entry_of c)) (steps_of variants instances x v k f scope)
    (λ i c g. key_reached (frame_in variants instances x k f) scope.names (body_calls v.body) c (calls_are_reached v.body (frame_in variants instances x k f) scope s t h i c g))

entry_keyed : (instances : List Instance) (instance : ℕ) (extents : List (List ℕ)) (i : ℕ) (e : Key × Found)
    → slice_get (with_entry instance extents).found i ≡ Some e → (e.0 ≡ []) ⊎ HasKey instances e
entry_keyed instances instance extents zero e h = inl (ap (λ (f : Key × Found). f.0) (sym (some_same _ e h)))
entry_keyed instances instance extents (suc i) e h = absurd (cc h)

all_keyed : (variants : List Variant) (mapping : Mapping) (r : Resolving) → resolution variants mapping ≡ Ok r → AllKeyed mapping.instances r.found
all_keyed variants mapping r h =
    all_hold variants mapping (AllKeyed mapping.instances) (Keyed mapping.instances) (key_added mapping.instances) (keys_reached variants mapping.instances)
    (λ extents e. record { each = entry_keyed mapping.instances mapping.entry extents }) r h

same_instance : (instances : List Instance) (a b : ℕ) (x y : Instance) → a ≡ b → slice_get instances a ≡ Some x → slice_get instances b ≡ Some y → x ≡ y
same_instance instances a b x y e p q = some_same x y (sym p ∙ (ap (slice_get instances) e ∙ q))

-- the form with the key of a call is its callee
callee_by_key : (frame : Frame) (names : Names) (text : List Call) (c : Called) (e : Key × Found) → IsReached frame names text c → e.0 ≡ c.key
    → (e.0 ≡ []) ⊎ HasKey frame.instances e → IsCallee c e
callee_by_key frame names text c e h k (inl none) =
    let empty : [] ≡ c.key = sym none ∙ k in
    let made : [] ≡ key_of frame.form h.site.call h.callee.instance (flags (h.callee.level == frame.level) h.arguments) (extents_of h.arguments) = empty ∙ ap (λ (d : Called). d.key) h.is in
    absurd (cc made)
callee_by_key frame names text c e h k (inr own) =
    let bs = flags (h.callee.level == frame.level) h.arguments in
    let es = extents_of h.arguments in
    let keys : key_of own.form own.call e.1.instance e.1.in_place e.1.extents ≡ key_of frame.form h.site.call h.callee.instance bs es =
    sym own.key ∙ (k ∙ ap (λ (d : Called). d.key) h.is) in
    let same = key_is_form own.form frame.form own.call h.site.call e.1.instance h.callee.instance e.1.in_place bs e.1.extents es keys in
    let sv = serving frame h.call.task h.callee h.serves in
    let there = same_instance frame.instances e.1.instance h.callee.instance own.instance sv.instance same.instance own.there sv.there in
    let caller : e.1.caller ≡ Some (record { form = frame.form; call = h.site.call }) = own.caller ∙ (λ i. Some (record { form = same.form i; call = same.call i })) in record {
      key = k;
      caller = caller ∙ sym (ap (λ (d : Called). d.form.caller) h.is);
      instance = same.instance ∙ sym (ap (λ (d : Called). d.form.instance) h.is);
      level = own.level ∙ (ap (λ (y : Instance). y.level) there ∙ (sym sv.level ∙ sym (ap (λ (d : Called). d.form.level) h.is)));
      in_place = same.flags ∙ sym (ap (λ (d : Called). d.form.in_place) h.is);
      extents = same.extents ∙ sym (ap (λ (d : Called). d.form.extents) h.is);
    }

-- ---- a form that was walked

abbrev pub begun_state : Forms → State
begun_state forms = record { left = 0; forms = forms; uses = [] }

-- its declarations and its statements went through
pub record Opened (frame : Frame) (x : Instance) (v : Variant) (forms : Forms) (start : Scope) (done : Outcome) : Type 0 where
  pub scope : Scope
  pub declared : all_declared x.tunings start v.decls ≡ Ok scope
  pub state : State
  pub ran : run (begun_state forms) (body_steps v.body frame scope) ≡ Ok state
  pub is : done ≡ outcome_of scope state

module _ (frame : Frame) (x : Instance) (v : Variant) (forms : Forms) (start : Scope) (done : Outcome) where
  by_run : (scope : Scope) → all_declared x.tunings start v.decls ≡ Ok scope → (r : Value State) → run (begun_state forms) (body_steps v.body frame scope) ≡ r
      → and_then r (λ t. Ok (outcome_of scope t)) ≡ Ok done → Opened frame x v forms start done
  by_run scope d (Ok t) e h = let same : outcome_of scope t ≡ done = cc h in record { scope = scope; declared = d; state = t; ran = e; is = sym same }
  by_run scope d (Err f) e h = absurd (cc h)

  by_decls : (d : Value Scope) → all_declared x.tunings start v.decls ≡ d
      → and_then d (λ s. and_then (run (begun_state forms) (body_steps v.body frame s)) (λ t. Ok (outcome_of s t))) ≡ Ok done
      → Opened frame x v forms start done
  by_decls (Ok scope) e h = by_run scope e (run (begun_state forms) (body_steps v.body frame scope)) refl h
  by_decls (Err f) e h = absurd (cc h)

  opened : walked_at frame x v forms start ≡ Ok done → Opened frame x v forms start done
  opened h = by_decls (all_declared x.tunings start v.decls) refl h

module _ (variants : List Variant) (instances : List Instance) (k : ℕ) (f : Found) (forms : Forms) (x : Instance) (v : Variant) (start : Scope) (done : Outcome) where
  pub walk_opened : slice_get instances f.instance ≡ Some x → variant_of variants x.task x.kind ≡ Some v → params_from empty_scope v.params 0 f.extents ≡ Some start
      → walk_of variants instances k f forms ≡ Ok done → Opened (frame_in variants instances x k f) x v forms start done
  walk_opened there runs binds h =
      let a : walked_by variants instances x k f forms (variant_of variants x.task x.kind) ≡ Ok done = subst (λ (o : Option Instance). walked_in variants instances k f forms o ≡ Ok done) there h in
      let b : walked_with variants instances x v k f forms (params_from empty_scope v.params 0 f.extents) ≡ Ok done = subst (λ (o : Option Variant). walked_by variants instances x k f forms o ≡ Ok done) runs a in
      let c : walked_at (frame_in variants instances x k f) x v forms start ≡ Ok done = subst (λ (o : Option Scope). walked_with variants instances x v k f forms o ≡ Ok done) binds b in
      opened (frame_in variants instances x k f) x v forms start done c

pub forms_ran : FormsRan
forms_ran variants mapping r h k form x v start at there runs binds =
    let instances = mapping.instances in
    let f = form.1 in
    let less = within_list r.found k form at in
    let w = each_walked variants mapping r h k form (omega (arith, less, few_found variants mapping r h)) at in
    let o = walk_opened variants instances k f w.before x v start w.done there runs binds w.walked in
    let steps = steps_of variants instances x v k f o.scope in
    let behind : r.found ≡ o.state.forms ++ w.later = w.behind ∙ ap (λ (d : Outcome). d.forms ++ w.later) o.is in
    let after = goes steps (begun_state w.before) o.state r.found (record { rest = w.later; same = behind }) o.ran in
    let reached = calls_are_reached v.body (frame_in variants instances x k f) o.scope (begun_state w.before) o.state o.ran in
    let keyed = all_keyed variants mapping r h in record {
      scope = o.scope;
      declared = o.declared;
      kept = w.kept ∙ ap (λ (d : Outcome). Some (with_locals f d.locals)) o.is;
      uses = w.uses ∙ (ap (λ (d : Outcome). Some d.uses) o.is ∙ ap Some after.uses);
      reached = reached;
      callees = λ i c g.
          let n = at_each (Numbered r.found) steps after.numbered i c g in
          let e = form_there r.found c.key n.0 n.1 in
          let number : n.0 ≡ form_number r.found c.key = sym (ap or_zero n.1) in record {
            form = e.0;
            there = ap (slice_get r.found) (sym number) ∙ e.1;
            is = callee_by_key (frame_in variants instances x k f) o.scope.names (body_calls v.body) c e.0 (reached i c g) e.2 (keyed.each n.0 e.0 e.1);
          };
    }
