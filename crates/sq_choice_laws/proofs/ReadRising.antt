-- The maps of each form of a program that was read stand at rising places.
use Rattle.std.proofs.Common.{◌≡◌, ◌==◌, ℕ, ◌&&◌, ◌||◌, nat_lt, Bool, true, false, List, [], ◌∷◌, map, slice_get}
use Rattle.std.proofs.Common.{length, Option, Some, None}
use Rattle.std.proofs.Common.{Ok, Err, inl, inr, refl, sym, ap, ap₂, ◌∙◌, subst, arith}
use Rattle.std.proofs.lemmas.Bool.Decides.{nat_tests}
use Rattle.std.specs.List.{AllByRecursion, range_with_len}
use Rattle.sq_text.specs.declared.place.Place.{Place}
use Rattle.sq_text.specs.Places.{IsBefore, is_before}
use Rattle.sq_ast.specs.declared.program.Body.{Body as Text}
use Rattle.sq_ast.specs.declared.program.Body.TheVariants as t
use Rattle.sq_ast.specs.declared.program.Variant.{Variant}
use Rattle.sq_form_laws.specs.Mappings.declared.mapping.Instance.{Instance}
use Rattle.sq_form_laws.specs.Forms.declared.form.Found.{Found}
use Rattle.sq_form_laws.specs.Forms.Faults.{Value}
use Rattle.sq_form_laws.specs.Forms.Steps.{Forms, Key}
use Rattle.sq_form_laws.specs.Forms.Tables.{variant_of}
use Rattle.sq_form_laws.specs.Forms.Worlds.{Frame}
use Rattle.sq_form_laws.specs.Forms.Decls.{Scope, empty_scope, params_from, all_declared}
use Rattle.sq_form_laws.specs.Forms.Resolving.{frame_in}
use Rattle.sq_form_laws.proofs.FitHold.{of_program}
use Rattle.sq_spec.specs.declared.body.FormBody.{FormBody}
use Rattle.sq_spec.specs.Statements.{elems_of}
use Rattle.sq_spec.specs.Bodies.{what_runs, declared_body, scope_body, variant_body, instance_body, found_body, body_of}
use Rattle.sq_draft_laws.specs.TermLaws.Orders.{EachOf}
use Rattle.sq_rise_laws.specs.Rising as text
use Rattle.sq_rise_laws.proofs.Rising.{variant_rises}
use Rattle.sq_choice_laws.specs.Noted.{body_places, AreRising}
use Rattle.sq_choice_laws.specs.ReadNotes.{MapsOfReadProgramsRise}
use Rattle.sq_choice_laws.proofs.TablesKeep.{tables_kept}

-- ---- what stands before, by its test

test_of : (p q : Place) → IsBefore p q → is_before p q ≡ true
test_of p q (inl l) =
    let e : nat_lt p.line q.line ≡ true = grind (arith, nat_tests, l) in
    ap (λ b. b || (p.line == q.line && nat_lt p.col q.col)) e
test_of p q (inr h) =
    let s = h.0 in
    let l = h.1 in
    let e : (p.line == q.line) ≡ true = grind (arith, nat_tests, s) in
    let f : nat_lt p.col q.col ≡ true = grind (arith, nat_tests, l) in
    ap₂ (λ a b. nat_lt p.line q.line || (a && b)) e f ∙ or_true (nat_lt p.line q.line)
  where
    or_true : (b : Bool) → (b || true) ≡ true
    or_true true = refl
    or_true false = refl

each_test : (p : Place) (ps : List Place) → AllByRecursion (IsBefore p) ps → EachOf (λ q. is_before p q ≡ true) ps
each_test p [] h = tt
each_test p (q ∷ qs) h = (test_of p q h.0, each_test p qs h.1)

rising : (ps : List Place) → text.AreRising ps → AreRising ps
rising [] h = tt
rising (p ∷ ps) h = (each_test p ps h.0, rising ps h.1)

-- ---- forms

module _ (variants : List Variant) (rise : text.AreRising (text.variants_places variants)) (forms : Forms)
    (instances : List Instance) where
  abbrev Rises : FormBody → Type 0
  Rises b = AreRising (body_places b.body)

  at_body : (frame : Frame) (v : Variant) (scope : Scope) (b : Text) → text.AreRising (text.body_places b)
      → AreRising (body_places (what_runs forms frame v b scope))
  at_body frame v scope (t.Leaf list) h = tt
  at_body frame v scope (t.Inner list) h =
      subst AreRising (sym (tables_kept forms frame scope.names (elems_of v scope) scope.numbers list))
      (rising (text.stmts_places list) h)

  at_declared : (frame : Frame) (v : Variant) (f : Found) (o : Value Scope) → text.AreRising (text.body_places v.body)
      → Rises (declared_body forms frame v f o)
  at_declared frame v f (Ok scope) h = at_body frame v scope v.body h
  at_declared frame v f (Err fault) h = tt

  at_scope : (frame : Frame) (x : Instance) (v : Variant) (f : Found) (o : Option Scope)
      → text.AreRising (text.body_places v.body) → Rises (scope_body forms frame x v f o)
  at_scope frame x v f None h = tt
  at_scope frame x v f (Some scope) h = at_declared frame v f (all_declared x.tunings scope v.decls) h

  at_variant : (x : Instance) (k : ℕ) (f : Found) (o : Option Variant) → variant_of variants x.task x.kind ≡ o
      → Rises (variant_body forms variants instances x k f o)
  at_variant x k f None is = tt
  at_variant x k f (Some v) is =
      let one = of_program variants x.task x.kind v is in
      at_scope (frame_in variants instances x k f) x v f (params_from empty_scope v.params 0 f.extents)
      (variant_rises variants one.index v rise one.there)

  at_instance : (k : ℕ) (f : Found) (o : Option Instance) → Rises (instance_body forms variants instances k f o)
  at_instance k f None = tt
  at_instance k f (Some x) = at_variant x k f (variant_of variants x.task x.kind) refl

  at_found : (k : ℕ) (o : Option (Key × Found)) → Rises (found_body forms variants instances k o)
  at_found k None = tt
  at_found k (Some form) = at_instance k form.1 (slice_get instances form.1.instance)

  pub form_rises : (k : ℕ) → Rises (body_of variants instances forms k)
  form_rises k = at_found k (slice_get forms k)

each_form : (P : FormBody → Type 0) (f : ℕ → FormBody) → ((k : ℕ) → P (f k)) → (ks : List ℕ) → EachOf P (map f ks)
each_form P f h [] = tt
each_form P f h (k ∷ ks) = (h k, each_form P f h ks)

pub maps_rise : text.MapsOfTextsRise → MapsOfReadProgramsRise
maps_rise law r given =
    each_form (λ (b : FormBody). AreRising (body_places b.body))
    (body_of r.typed.now.tasks r.mapping.now.instances r.found.entries)
    (form_rises r.typed.now.tasks (law r.typed.now given) r.found.entries r.mapping.now.instances)
    (range_with_len 0 (length r.forms))
