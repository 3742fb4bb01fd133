-- Each form that was found has a flag for each list of extents, and the level of its instance.
use Rattle.std.proofs.Common.{◌≡◌, ℕ, zero, suc, ◌+◌, ◌==◌, ◌⊎◌, inl, inr, Bool, List, [], ◌∷◌, ◌++◌}
use Rattle.std.proofs.Common.{length, Some, Ok, refl, sym, ap, subst}
use Rattle.std.specs.Prelude.{slice_get}
use Rattle.sq_ast.specs.declared.program.Program.{Program}
use Rattle.sq_ast.specs.declared.program.Variant.{Variant}
use Rattle.sq_machfile.specs.declared.level.Level.{Level}
use Rattle.sq_mapping.specs.declared.mapping.Instance.{Instance}
use Rattle.sq_mapping.specs.declared.mapping.Mapping.{Mapping}
use Rattle.sq_mapping.specs.Sound.{Sound}
use Rattle.sq_blocks.specs.declared.argument.Argument.{Argument}
use Rattle.sq_forms.specs.declared.form.Found.{Found}
use Rattle.sq_forms.specs.Args.{Names}
use Rattle.sq_forms.specs.Calls.{flags_from, extents_of}
use Rattle.sq_forms.specs.Resolving.{Resolving, resolution, frame_in, none_in_place, with_entry}
use Rattle.sq_forms.specs.Steps.{Called, Forms, Key}
use Rattle.sq_form_laws.specs.Reached.{IsReached, body_calls, steps_of}
use Rattle.sq_form_laws.proofs.AllHold.{Adding, InEachForm, all_hold}
use Rattle.sq_form_laws.proofs.FitHold.{some_same}
use Rattle.sq_form_laws.proofs.Passing.{of_each, calls_are_reached}
use Rattle.sq_form_laws.proofs.RanHold.{serving}

-- ---- a flag for each argument

flags_long : (same : Bool) (all : List Argument) (k : ℕ) (xs : List Argument) → length (flags_from same all k xs)
    ≡ length (extents_of xs)
flags_long same all k [] = refl
flags_long same all k (x ∷ xs) = ap suc (flags_long same all (k + 1) xs)

none_long : (extents : List (List ℕ)) → length (none_in_place extents) ≡ length extents
none_long [] = refl
none_long (e ∷ extents) = ap suc (none_long extents)

pub record IsPlain (instances : List Instance) (f : Found) : Type 0 where
  pub flags : length f.in_place ≡ length f.extents
  pub instance : Instance
  pub there : slice_get instances f.instance ≡ Some instance
  pub level : f.level ≡ instance.level

module _ (program : Program) (levels : List Level) (mapping : Mapping) (sound : Sound program levels mapping) where
  record AllPlain (forms : Forms) : Type 0 where
    each : (i : ℕ) (e : Key × Found) → slice_get forms i ≡ Some e → IsPlain mapping.instances e.1

  abbrev Plain : ℕ → Called → Type 0
  Plain k c = IsPlain mapping.instances c.form

  last_or : (forms : Forms) (e f : Key × Found) (i : ℕ) → slice_get (forms ++ e ∷ []) i ≡ Some f
      → (slice_get forms i ≡ Some f) ⊎ (e ≡ f)
  last_or [] e f zero h = inr (cc h)
  last_or [] e f (suc i) h = absurd (cc h)
  last_or (g ∷ forms) e f zero h = inl h
  last_or (g ∷ forms) e f (suc i) h = last_or forms e f i h

  plain_added : Adding AllPlain Plain
  plain_added k forms c p less few holds = record {
    each = λ i f there. elim (last_or forms (c.key, c.form) f i there) [
      | inl old ↦ holds.each i f old
      | inr new ↦ subst (λ (e : Key × Found). IsPlain mapping.instances e.1) new p
    ];
  }

  called_plain : (x : Instance) (v : Variant) (k : ℕ) (f : Found) (names : Names) (c : Called)
      → IsReached (frame_in program.tasks mapping.instances x k f) names (body_calls v.body) c
      → IsPlain mapping.instances c.form
  called_plain x v k f names c h =
      let frame = frame_in program.tasks mapping.instances x k f in
      let s = serving frame h.call.task h.callee h.serves in
      subst (λ (d : Called). IsPlain mapping.instances d.form) (sym h.is)
      (record {
        flags = flags_long (h.callee.level == frame.level) h.arguments 0 h.arguments;
        instance = s.instance;
        there = s.there;
        level = s.level;
      })

  plain_each : InEachForm program.tasks mapping.instances Plain
  plain_each x v k f scope t u there runs h =
      of_each (λ c. IsPlain mapping.instances c.form) (steps_of program.tasks mapping.instances x v k f scope)
      (λ i c g. called_plain x v k f scope.names c
      (calls_are_reached v.body (frame_in program.tasks mapping.instances x k f) scope t u h i c g))

  entry_plain : (extents : List (List ℕ)) (i : ℕ) (e : Key × Found)
      → slice_get (with_entry mapping.entry extents).found i ≡ Some e → IsPlain mapping.instances e.1
  entry_plain extents zero e g =
      subst (λ (d : Key × Found). IsPlain mapping.instances d.1) (some_same _ e g)
      (record {
        flags = none_long extents;
        instance = sound.entry.entry;
        there = sound.entry.there;
        level = sym sound.entry.root;
      })
  entry_plain extents (suc i) e g = absurd (cc g)

  all_plain : (r : Resolving) → resolution program.tasks mapping ≡ Ok r → AllPlain r.found
  all_plain r h = all_hold program.tasks mapping AllPlain Plain plain_added plain_each
      (λ extents e. record { each = entry_plain extents }) r h

  pub found_plain : (r : Resolving) → resolution program.tasks mapping ≡ Ok r → (k : ℕ) (form : Key × Found)
      → slice_get r.found k ≡ Some form → IsPlain mapping.instances form.1
  found_plain r h = (all_plain r h).each
