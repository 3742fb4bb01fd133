-- What the tests of leaves tell, and the first fault of leaves.
use Rattle.std.proofs.Common.{◌≡◌, Result, Ok, Err, IfOk, Bool, true, false, ◌&&◌, if◌then◌else◌, List, [], ◌∷◌, ◌++◌, map, Option, Some, None, option_map, Decides, All, refl, sym, ap, ◌∙◌, subst}
use Rattle.std.specs.List.{list_all, AllByRecursion}
use Rattle.std.proofs.lemmas.Bool.{and_parts, and_from}
use Rattle.sq_text.specs.declared.code.Code.TheVariants as code
use Rattle.sq_text.specs.declared.code.Phase.TheVariants.{Plan}
use Rattle.sq_text.specs.declared.fault.Fault.{Fault}
use Rattle.sq_text.specs.First.{HoldsIn}
use Rattle.sq_text.specs.Faults.{fault_place, fault_number, IsFirst}
use Rattle.sq_text.specs.Found.{at_name, fault_by, firsts, nothing_found, BreaksAt}
use Rattle.sq_text.specs.Names.{Bytes}
use Rattle.sq_text.specs.declared.place.Place.{Place}
use Rattle.sq_text.proofs.Firsts.{first_same}
use Rattle.sq_text.proofs.Breaches.{first_breach}
use Rattle.sq_ast.specs.declared.program.Param.{Param}
use Rattle.sq_ast.specs.declared.program.Variant.{Variant}
use Rattle.sq_ast.specs.declared.program.Program.{Program}
use Rattle.sq_types.specs.Sites.{TypeFault}
use Rattle.sq_types.specs.Sound.{is_sound}
use Rattle.sq_types.proofs.Soundness.{sound_without_fault, unsound_with_fault}
use Rattle.sq_blocks.specs.Names.{Numbers}
use Rattle.sq_leaf.specs.Leaf.{Leaf as Code_of, is_leaf_body}
use Rattle.sq_plantext.specs.declared.text.Binding.{Binding}
use Rattle.sq_plantext.specs.declared.text.LeafText.{LeafText}
use Rattle.sq_plantext.specs.declared.text.PlanText.{PlanText}
use Rattle.sq_planfile.specs.Files.{leaf_of}
use Rattle.sq_planfile.specs.Written.{names_in}
use Rattle.sq_planfile.specs.Sound.{AreBound, AreExtentsOf, extent_value, IsLocal, IsLeafText}
use Rattle.sq_planfile.specs.Faults.{named, LeafFault}
use Rattle.sq_planheads.specs.Leaves.{with_bindings, are_names_bound, with_names, are_wanted, param_fits, decl_fits, arrays_fit, suits, suiting, program_of, checked, code_of, leaf_code, leaf_breach, leaf_by, leaves_by}
use Rattle.sq_planheads.proofs.ExtentsTell.{param_tells, decl_tells}
use Rattle.sq_planheads.proofs.NameTables.{pairs, given, once_sound, once_complete, bound_tells, all_tell}
use Rattle.sq_planheads.proofs.FirstFaults.{some_site, site_at, none_broken}

differ : (b : Bool) → b ≡ true → b ≡ false → ⊥
differ true t f = cc
differ false t f = cc

-- ---- what the tests tell of a leaf

record Suits (bs : List Binding) (v : Variant) : Type 0 where
  bound : AreBound (names_in v) (given bs)
  params : All (λ (p : Param). AreExtentsOf (map (extent_value (pairs bs)) p.extents)) v.params
  locals : All (IsLocal (pairs bs)) v.decls

params_tell : (numbers : Numbers) (v : Variant) → Decides (list_all (param_fits numbers) v.params) (All (λ (p : Param). AreExtentsOf (map (extent_value numbers) p.extents)) v.params)
params_tell numbers v = all_tell (param_fits numbers) (λ (p : Param). AreExtentsOf (map (extent_value numbers) p.extents)) (param_tells numbers) v.params

decls_tell : (numbers : Numbers) (v : Variant) → Decides (list_all (decl_fits numbers []) v.decls) (All (IsLocal numbers) v.decls)
decls_tell numbers v = all_tell (decl_fits numbers []) (IsLocal numbers) (decl_tells numbers) v.decls

module _ (bs : List Binding) (v : Variant) where
  suits_sound : (numbers : Numbers) → with_bindings [] bs ≡ Some numbers → suits numbers bs v ≡ true → (numbers ≡ pairs bs) × Suits bs v
  suits_sound numbers e h =
      let b = once_sound bs numbers e in
      let t : suits (pairs bs) bs v ≡ true = ap (λ n. suits n bs v) (sym b.is) ∙ h in
      let p = and_parts (are_names_bound (pairs bs) v) (are_wanted (with_names [] (names_in v)) bs && arrays_fit (pairs bs) v) t in
      let q = and_parts (are_wanted (with_names [] (names_in v)) bs) (arrays_fit (pairs bs) v) p.1 in
      let r = and_parts _ _ q.1 in
      (b.is, record { bound = (bound_tells bs v b.once).0 (and_from _ _ p.0 q.0); params = (params_tell (pairs bs) v).0 r.0; locals = (decls_tell (pairs bs) v).0 r.1 })

  suits_complete : Suits bs v → (with_bindings [] bs ≡ Some (pairs bs)) × (suits (pairs bs) bs v ≡ true)
  suits_complete h =
      let once = h.bound.once in
      let b = (bound_tells bs v once).1 h.bound in
      let p = and_parts (are_names_bound (pairs bs) v) (are_wanted (with_names [] (names_in v)) bs) b in
      (once_complete bs once, and_from _ _ p.0 (and_from _ _ p.1 (and_from _ _ ((params_tell (pairs bs) v).1 h.params) ((decls_tell (pairs bs) v).1 h.locals))))

abbrev code_in : LeafText → Code_of
code_in l = record { variant = l.task; numbers = pairs l.numbers }

leaf_sound : (l : LeafText) (c : Code_of) → code_of l.numbers l.task ≡ Some c → IsLeafText l × (c ≡ code_in l)
leaf_sound l c e = by (with_bindings [] l.numbers) refl e
  where
    checked_by : (numbers : Numbers) (t : Bool) → is_sound (program_of l.task) ≡ t → (numbers ≡ pairs l.numbers) → Suits l.numbers l.task
        → (if t then Some (record { variant = l.task; numbers = numbers }) else None) ≡ Some c → IsLeafText l × (c ≡ code_in l)
    checked_by numbers false s is suit e = absurd (cc)
    checked_by numbers true s is suit e =
        let same : record { variant = l.task; numbers = numbers } ≡ c = cc in (
          record {
            checked = λ f fault. differ (is_sound (program_of l.task)) s (unsound_with_fault (program_of l.task) f fault);
            bound = suit.bound;
            params = suit.params;
            locals = suit.locals;
          },
          sym same ∙ ap {B = Code_of} (λ n. record { variant = l.task; numbers = n }) is,
        )

    suits_by : (numbers : Numbers) → with_bindings [] l.numbers ≡ Some numbers → (t : Bool) → suits numbers l.numbers l.task ≡ t
        → checked l.task (if t then Some numbers else None) ≡ Some c → IsLeafText l × (c ≡ code_in l)
    suits_by numbers b false s e = absurd (cc)
    suits_by numbers b true s e =
        let h = suits_sound l.numbers l.task numbers b s in
        checked_by numbers (is_sound (program_of l.task)) refl h.0 h.1 e

    by : (o : Option Numbers) → with_bindings [] l.numbers ≡ o → checked l.task (suiting o l.numbers l.task) ≡ Some c → IsLeafText l × (c ≡ code_in l)
    by None b e = absurd (cc)
    by (Some numbers) b e = suits_by numbers b (suits numbers l.numbers l.task) refl e

leaf_complete : (l : LeafText) → IsLeafText l → code_of l.numbers l.task ≡ Some (code_in l)
leaf_complete l h =
    let s = suits_complete l.numbers l.task (record { bound = h.bound; params = h.params; locals = h.locals }) in
    let sound : is_sound (program_of l.task) ≡ true = sound_without_fault (program_of l.task) h.checked in
    ap (λ o. checked l.task (suiting o l.numbers l.task)) s.0
    ∙ ap (λ t. checked l.task (if t then Some (pairs l.numbers) else None)) s.1
    ∙ ap (λ t. if t then Some (code_in l) else None) sound

-- ---- the first fault

leaf_fault : (place : Place) (instance : Bytes) (o : Option Code_of) (f : Fault) → option_map (fault_by Plan) (at_name (leaf_code o) place instance) ≡ Some f
    → (o ≡ None) × (f ≡ named code.BadLeaf place instance)
leaf_fault place instance None f h = let same : named code.BadLeaf place instance ≡ f = cc in (refl, sym same)
leaf_fault place instance (Some c) f h = absurd (cc)

module _ (x : PlanText) where
  leaf_faults : (f : Fault) → HoldsIn (BreaksAt leaf_breach Plan) x.leaves f → LeafFault x f
  leaf_faults f h =
      let s = some_site leaf_breach x.leaves f h in
      let p = leaf_fault s.site.place s.site.instance (code_of s.site.numbers s.site.task) f s.broken in
      record {
        index = s.index;
        leaf = s.site;
        there = s.there;
        bad = λ sound. let e : code_of s.site.numbers s.site.task ≡ Some (code_in s.site) = leaf_complete s.site sound in let none = p.0 in absurd (cc);
        is = p.1;
      }

  faults_leaf : (f : Fault) → LeafFault x f → HoldsIn (BreaksAt leaf_breach Plan) x.leaves f
  faults_leaf f h = site_at leaf_breach x.leaves f h.index h.leaf h.there (by (code_of h.leaf.numbers h.leaf.task) refl)
    where
      by : (o : Option Code_of) → code_of h.leaf.numbers h.leaf.task ≡ o → option_map (fault_by Plan) (leaf_breach h.leaf) ≡ Some f
      by None e = ap (λ o. option_map (fault_by Plan) (at_name (leaf_code o) h.leaf.place h.leaf.instance)) e ∙ ap (λ f. Some f) (sym h.is)
      by (Some c) e = absurd (h.bad (leaf_sound h.leaf c e).0)

  pub first_leaf : IsFirst (LeafFault x) (firsts leaf_breach (nothing_found Plan) x.leaves).fault
  first_leaf = first_same fault_place fault_number (firsts leaf_breach (nothing_found Plan) x.leaves).fault leaf_faults faults_leaf (first_breach leaf_breach Plan x.leaves)

  leaf_by_code : (l : LeafText) → leaf_breach l ≡ None → IsLeafText l
  leaf_by_code l e = by (code_of l.numbers l.task) refl e
    where
      by : (o : Option Code_of) → code_of l.numbers l.task ≡ o → at_name (leaf_code o) l.place l.instance ≡ None → IsLeafText l
      by None c e = absurd (cc)
      by (Some code) c e = (leaf_sound l code c).0

  pub sound_leaves : ((f : Fault) → LeafFault x f → ⊥) → AllByRecursion IsLeafText x.leaves
  sound_leaves h = none_broken leaf_breach IsLeafText leaf_by_code x.leaves (λ f k. h f (leaf_faults f k))

-- sound leaves are all compiled
pub all_compiled : (ls : List LeafText) → AllByRecursion IsLeafText ls → leaves_by ls ≡ map leaf_of ls
all_compiled [] h = refl
all_compiled (l ∷ ls) h =
    ap (λ o. leaf_by l.instance o ++ leaves_by ls) (leaf_complete l h.0) ∙ ap (λ ms. leaf_of l ∷ ms) (all_compiled ls h.1)

-- ---- the code of a checked task

pub checked_code : {E : Type 0} (v : Variant) (numbers : Numbers) (p : Program) (r : Result (Option Code_of) E) → p ≡ program_of v → ((f : Fault) → TypeFault p f → ⊥) → is_leaf_body v.body ≡ true
    → ((w : Variant) → p ≡ program_of w → is_leaf_body w.body ≡ true → IfOk r (λ code. code ≡ Some (record { variant = w; numbers = numbers })))
    → IfOk r (λ code. code ≡ checked v (Some numbers))
checked_code {E = E} v numbers p r is none leaf made = by r (made v is leaf)
  where
    sound : is_sound (program_of v) ≡ true
    sound = sound_without_fault (program_of v) (subst (λ p. (f : Fault) → TypeFault p f → ⊥) is none)

    by : (r : Result (Option Code_of) E) → IfOk r (λ code. code ≡ Some (record { variant = v; numbers = numbers })) → IfOk r (λ code. code ≡ checked v (Some numbers))
    by (Ok code) h = h ∙ sym (ap {B = Option Code_of} (λ t. if t then Some (record { variant = v; numbers = numbers }) else None) sound)
    by (Err e) h = tt
