-- What holds of the entry, and with a form of each that its calls reach, holds of all forms of a program.
use Rattle.std.proofs.Common.{◌≡◌, ℕ, zero, suc, ◌+◌, ◌≤◌, Bool, true, false, List, [], ◌∷◌, ◌++◌, length, Option, Some}
use Rattle.std.proofs.Common.{None, is_some, Ok, Err, refl, sym, ap, ◌∙◌, subst, arith}
use Rattle.std.specs.Prelude.{slice_get, if◌then◌else◌}
use Rattle.sq_text.specs.declared.place.Place.{Place}
use Rattle.sq_text.specs.declared.fault.Fault.{Fault}
use Rattle.sq_ast.specs.declared.program.Program.{Program}
use Rattle.sq_ast.specs.declared.program.Variant.{Variant}
use Rattle.sq_machfile.specs.declared.level.Level.{Level}
use Rattle.sq_mapping.specs.declared.mapping.Instance.{Instance}
use Rattle.sq_mapping.specs.declared.mapping.Mapping.{Mapping}
use Rattle.sq_mapping.specs.Sound.{Sound}
use Rattle.sq_types.specs.Sound.{is_sound}
use Rattle.sq_forms.specs.declared.form.Found.{Found}
use Rattle.sq_forms.specs.Faults.{Value, and_then}
use Rattle.sq_forms.specs.Decls.{Scope}
use Rattle.sq_forms.specs.Resolving.{Outcome, Resolving, resolution, more, next_walked, walk_of, walk_from, with_locals}
use Rattle.sq_forms.specs.Resolving.{with_entry, entry_extents, entry_params, entry_form}
use Rattle.sq_forms.specs.Steps.{Step, State, Called, Forms, Key, Opens, Counts, Tests, Calls, run, after_count}
use Rattle.sq_forms.specs.Steps.{after_test, after_entry, number_of, with_form, key_number, most_forms}
use Rattle.sq_form_laws.specs.Reached.{calls_in, steps_of}
use Rattle.sq_form_laws.specs.Served.{FormRuns}
use Rattle.sq_form_laws.proofs.FitHold.{some_same, forms_run}
use Rattle.sq_form_laws.proofs.FormsHold.{went}
use Rattle.sq_form_laws.proofs.Passing.{Everywhere, of_each}
use Rattle.sq_form_laws.proofs.RanHold.{begun_state, walk_opened}

front_at : {A : Type 0} (front later : List A) (i : ℕ) (e : A) → slice_get front i ≡ Some e
    → slice_get (front ++ later) i ≡ Some e
front_at [] later i e h = absurd (cc h)
front_at (x ∷ front) later zero e h = h
front_at (x ∷ front) later (suc i) e h = front_at front later i e h

beyond : {A : Type 0} (xs : List A) (k : ℕ) → length xs ≤ k → slice_get xs k ≡ None
beyond [] k h = refl
beyond (x ∷ xs) zero h = absurd (omega (arith, h))
beyond (x ∷ xs) (suc k) h = beyond xs k (omega (arith, h))

behind : {A : Type 0} (xs : List A) (k : ℕ) → slice_get xs k ≡ None → length xs ≤ k
behind [] k h = omega arith
behind (x ∷ xs) zero h = absurd (cc h)
behind (x ∷ xs) (suc k) h = let e = behind xs k h in omega (arith, e)

more_long : {A : Type 0} (xs : List A) (x : A) → length (xs ++ x ∷ []) ≡ length xs + 1
more_long [] x = refl
more_long (y ∷ xs) x = let e = more_long xs x in omega (arith, e)

abbrev okay : Scope → Value Scope
okay s = Ok s

same_ok : {x y : Scope} → okay x ≡ Ok y → x ≡ y
same_ok e = cc e

module _ (program : Program) (levels : List Level) (mapping : Mapping) (sound : is_sound program ≡ true)
    (read : Sound program levels mapping) (r : Resolving) (through : resolution program.tasks mapping ≡ Ok r)
    (Good : Found → Type 0) where
  abbrev tasks : List Variant
  tasks = program.tasks

  abbrev instances : List Instance
  instances = mapping.instances

  -- a form that is good calls good forms
  abbrev pub Reaches : Type 0
  Reaches = (k : ℕ) (form : Key × Found) → slice_get r.found k ≡ Some form
      → (run : FormRuns program mapping r k form.1) → Good form.1 → (i : ℕ) (c : Called)
      → slice_get (calls_in (steps_of tasks instances run.fits.instance run.fits.variant k form.1 run.ran.scope)) i
      ≡ Some c → Good c.form

  abbrev pub Begins : Type 0
  Begins = (extents : List (List ℕ))
      → entry_extents mapping.sizes (entry_params tasks (slice_get instances mapping.entry)) ≡ Ok extents
      → Good (entry_form mapping.entry extents)

  abbrev AllGood : Forms → Type 0
  AllGood forms = (i : ℕ) (e : Key × Found) → slice_get forms i ≡ Some e → Good e.1

  abbrev GoodCall : Called → Type 0
  GoodCall c = Good c.form

  added : (forms : Forms) (key : Key) (f : Found) → AllGood forms → Good f → AllGood (forms ++ (key, f) ∷ [])
  added [] key f all h zero e g = subst (λ (d : Key × Found). Good d.1) (some_same (key, f) e g) h
  added [] key f all h (suc i) e g = absurd (cc g)
  added (x ∷ forms) key f all h zero e g = all 0 e g
  added (x ∷ forms) key f all h (suc i) e g = added forms key f (λ j d k. all (suc j) d k) h i e g

  with_one : (forms : Forms) (c : Called) → AllGood forms → GoodCall c → AllGood (with_form forms c.key c.form)
  with_one forms c all h = go (is_some (key_number forms c.key))
    where
      go : (b : Bool) → AllGood (if b then forms else forms ++ (c.key, c.form) ∷ [])
      go true = all
      go false = added forms c.key c.form all h

  -- what is left to be shown of the steps behind
  abbrev Behind : State → List Step → Type 0
  Behind t rest = (u : State) → AllGood u.forms → run u rest ≡ Ok t → AllGood t.forms

  counted : (s t : State) (place : Place) (rest : List Step) → Behind t rest → AllGood s.forms → (n : ℕ)
      → and_then (after_count s place n) (λ u. run u rest) ≡ Ok t → AllGood t.forms
  counted s t place rest next all zero g = absurd (cc g)
  counted s t place rest next all (suc n) g = next (record { left = n; forms = s.forms; uses = s.uses }) all g

  tested : (s t : State) (rest : List Step) → Behind t rest → AllGood s.forms → (o : Option Fault)
      → and_then (after_test s o) (λ u. run u rest) ≡ Ok t → AllGood t.forms
  tested s t rest next all None g = next s all g
  tested s t rest next all (Some f) g = absurd (cc g)

  entered : (s t : State) (c : Called) (rest : List Step) → Behind t rest → AllGood s.forms → GoodCall c
      → (o : Option ℕ) → and_then (after_entry s c o) (λ u. run u rest) ≡ Ok t → AllGood t.forms
  entered s t c rest next all h None g = absurd (cc g)
  entered s t c rest next all h (Some n) g =
      next (record { left = s.left; forms = with_form s.forms c.key c.form; uses = s.uses ++ c.uses n })
      (with_one s.forms c all h) g

  run_good : (steps : List Step) (s t : State) → Everywhere GoodCall steps → AllGood s.forms → run s steps ≡ Ok t
      → AllGood t.forms
  run_good [] s t of all h = let e : s ≡ t = cc h in subst (λ (u : State). AllGood u.forms) e all
  run_good (Opens ∷ rest) s t of all h = run_good rest _ t of all h
  run_good (Counts place ∷ rest) s t of all h
      = counted s t place rest (λ u a g. run_good rest u t of a g) all s.left h
  run_good (Tests o ∷ rest) s t of all h = tested s t rest (λ u a g. run_good rest u t of a g) all o h
  run_good (Calls c ∷ rest) s t of all h
      = entered s t c rest (λ u a g. run_good rest u t of.1 a g) all of.0 (number_of s.forms c.key) h

  module _ (reaches : Reaches) (begins : Begins) where
    -- one form more
    form_good : (k : ℕ) (form : Key × Found) → slice_get r.found k ≡ Some form → (forms : Forms) (o : Outcome)
        → Good form.1 → AllGood forms → walk_of tasks instances k form.1 forms ≡ Ok o → AllGood o.forms
    form_good k form there forms o here all h =
        let ran = forms_run program levels mapping sound read r through k form there in
        let w = walk_opened tasks instances k form.1 forms ran.fits.instance ran.fits.variant ran.fits.begun o
        ran.fits.there ran.fits.runs ran.fits.binds h in
        let scope : ran.ran.scope ≡ w.scope = same_ok (sym ran.ran.declared ∙ w.declared) in
        let calls = subst (λ (s : Scope). Everywhere GoodCall
        (steps_of tasks instances ran.fits.instance ran.fits.variant k form.1 s)) scope
        (of_each GoodCall (steps_of tasks instances ran.fits.instance ran.fits.variant k form.1 ran.ran.scope)
        (reaches k form there ran here)) in
        subst (λ (d : Outcome). AllGood d.forms) (sym w.is)
        (run_good (steps_of tasks instances ran.fits.instance ran.fits.variant k form.1 w.scope) (begun_state forms)
        w.state calls all w.ran)

    past_good : (n k : ℕ) (s : Resolving) → length s.found ≤ k → AllGood s.found → walk_from tasks instances n k s
        ≡ Ok r → AllGood r.found
    past_good zero k s far all h = let e : s ≡ r = cc h in subst (λ (q : Resolving). AllGood q.found) e all
    past_good (suc n) k s far all h =
        past_good n (k + 1) s (omega (arith, far)) all
        (sym (ap (λ (o : Option (Key × Found)). and_then (next_walked tasks instances k s o)
        (λ q. walk_from tasks instances n (k + 1) q)) (beyond s.found k far)) ∙ h)

    -- what is left to be shown of the forms behind
    abbrev Goes : (n k : ℕ) → Type 0
    Goes n k = (s : Resolving) → length s.uses ≡ k → length s.forms ≡ k → AllGood s.found
        → walk_from tasks instances n k s ≡ Ok r → AllGood r.found

    form_walked : (n k : ℕ) (s : Resolving) → Goes n (k + 1) → length s.uses ≡ k → length s.forms ≡ k
        → AllGood s.found → (form : Key × Found) → slice_get s.found k ≡ Some form → slice_get r.found k ≡ Some form
        → (v : Value Outcome) → walk_of tasks instances k form.1 s.found ≡ v
        → and_then (and_then v (λ o. Ok (more s form.1 o))) (λ q. walk_from tasks instances n (k + 1) q) ≡ Ok r
        → AllGood r.found
    form_walked n k s rest lu lf all form here there (Err x) w g = absurd (cc g)
    form_walked n k s rest lu lf all form here there (Ok o) w g =
        rest (more s form.1 o) (more_long s.uses o.uses ∙ ap (λ m. m + 1) lu)
        (more_long s.forms (with_locals form.1 o.locals) ∙ ap (λ m. m + 1) lf)
        (form_good k form there s.found o (all k form here) all w) g

    next_good : (n k : ℕ) (s : Resolving) → Goes n (k + 1) → length s.uses ≡ k → length s.forms ≡ k
        → AllGood s.found → walk_from tasks instances (suc n) k s ≡ Ok r
        → (o : Option (Key × Found)) → slice_get s.found k ≡ o
        → and_then (next_walked tasks instances k s o) (λ q. walk_from tasks instances n (k + 1) q) ≡ Ok r
        → AllGood r.found
    next_good n k s rest lu lf all h None e g = past_good (suc n) k s (behind s.found k e) all h
    next_good n k s rest lu lf all h (Some form) e g =
        let w = went tasks instances (suc n) k s r lu lf h in
        form_walked n k s rest lu lf all form e
        (ap (λ l. slice_get l k) w.found.same ∙ front_at s.found w.found.rest k form e)
        (walk_of tasks instances k form.1 s.found) refl g

    walk_good : (n k : ℕ) → Goes n k
    walk_good zero k s lu lf all h = let e : s ≡ r = cc h in subst (λ (q : Resolving). AllGood q.found) e all
    walk_good (suc n) k s lu lf all h
        = next_good n k s (λ q a b c g. walk_good n (k + 1) q a b c g) lu lf all h (slice_get s.found k) refl h

    pub each_good : (k : ℕ) (form : Key × Found) → slice_get r.found k ≡ Some form → Good form.1
    each_good = go (entry_extents mapping.sizes (entry_params tasks (slice_get instances mapping.entry))) refl through
      where
        alone : (extents : List (List ℕ)) → Good (entry_form mapping.entry extents)
            → AllGood (with_entry mapping.entry extents).found
        alone extents s zero e g = subst (λ (d : Key × Found). Good d.1) (some_same _ e g) s
        alone extents s (suc i) e g = absurd (cc g)

        go : (v : Value (List (List ℕ)))
            → entry_extents mapping.sizes (entry_params tasks (slice_get instances mapping.entry)) ≡ v
            → and_then v (λ extents. walk_from tasks instances most_forms 0 (with_entry mapping.entry extents)) ≡ Ok r
            → AllGood r.found
        go (Err x) e h = absurd (cc h)
        go (Ok extents) e h = walk_good most_forms 0 (with_entry mapping.entry extents) refl refl
            (alone extents (begins extents e)) h
