-- What is chosen where loops overlap their transfers: what hoisting chooses, but for the loops that were taken.
use Rattle.std.proofs.Common.{◌≡◌, ◌⊎◌, inl, inr, ℕ, zero, suc, ◌+◌, ◌==◌, ◌<◌, Bool, true, false, List, [], ◌∷◌}
use Rattle.std.proofs.Common.{map, length, get_or, slice_get, Option, Some, None, refl, sym, ap, subst, ◌∙◌, arith}
use Rattle.std.proofs.Common.{if◌then◌else◌}
use Rattle.std.specs.Prelude.{nat_lt}
use Rattle.std.specs.List.{range_with_len}
use Rattle.std.proofs.lemmas.Option.{get_or_from_slice_get}
use Rattle.sq_forms.specs.declared.form.Form.{Form}
use Rattle.sq_spec.specs.declared.body.FormBody.{FormBody}
use Rattle.sq_spec.specs.declared.resolved.Resolved.{Resolved}
use Rattle.sq_placed.specs.declared.home.Home.{Home}
use Rattle.sq_placed.specs.declared.home.Home.TheVariants.{InPlace, Own, Held, Twin}
use Rattle.sq_placed.specs.declared.home.Homes.{Homes}
use Rattle.sq_cells.specs.Work.{Buffer}
use Rattle.sq_draft_laws.specs.PlanLaws.Calling.{place_of}
use Rattle.sq_draft_laws.specs.Term.Terms.{no_homes, homes_in}
use Rattle.sq_draft_laws.specs.ProgramLaws.Piped.{IsDoubled}
use Rattle.sq_draft_laws.specs.Homes.Chosen.declared.choice.Choice.{Choice}
use Rattle.sq_draft_laws.specs.Homes.Chosen.Arrays.{left_by, hoisted as left_first, others}
use Rattle.sq_draft_laws.specs.Homes.Numbering.{home_of, position, form_homes}
use Rattle.sq_draft_laws.specs.Homes.Chosen.Forms.{bodies_of, choice_in, no_choice, instance_at, rule_by}
use Rattle.sq_draft_laws.specs.Homes.Drafts.{homes_of}
use Rattle.sq_draft_laws.proofs.Hoisting.{no_homes_at, overlaps_are}
use Rattle.sq_draft_laws.proofs.Standing.{forms_stand}
use Rattle.sq_pipe.specs.Hoist.Choices.{hoisted}
use Rattle.sq_pass_laws.proofs.Nests.{same_number}
use Rattle.sq_pipe.specs.Candidates.{is_held}
use Rattle.sq_pipe.specs.Greedy.{have_room, rooms_of, none_taken, taken_of, candidates_of, overlaps_from, overlapped}
use Rattle.sq_pass_laws.proofs.Candidates.{IsIn, taken_in}

-- ---- choices

same_leaves : (taken : List Bool) (k : ℕ) (cs : List Choice) (j : ℕ)
    → (get_or (overlaps_from taken k cs) j no_choice).leaves ≡ (get_or cs j no_choice).leaves
same_leaves taken k [] j = refl
same_leaves taken k (c ∷ cs) zero = refl
same_leaves taken k (c ∷ cs) (suc j) = same_leaves taken (k + 1) cs j

same_flags : (taken : List Bool) (k : ℕ) (cs : List Choice) (j : ℕ)
    → (get_or (overlaps_from taken k cs) j no_choice).in_place ≡ (get_or cs j no_choice).in_place
same_flags taken k [] j = refl
same_flags taken k (c ∷ cs) zero = refl
same_flags taken k (c ∷ cs) (suc j) = same_flags taken (k + 1) cs j

only_taken : (taken : List Bool) (k : ℕ) (cs : List Choice) (j : ℕ)
    → (get_or (overlaps_from taken k cs) j no_choice).overlaps ≡ true → get_or taken (k + j) false ≡ true
only_taken taken k [] j e = absurd (let z : ◌≡◌ {A = Bool} false true = e in cc z)
only_taken taken k (c ∷ cs) zero e =
    let z : k ≡ k + 0 = omega arith in subst (λ n. get_or taken n false ≡ true) z e
only_taken taken k (c ∷ cs) (suc j) e =
    let z : k + 1 + j ≡ k + suc j = omega arith in
    subst (λ n. get_or taken n false ≡ true) z (only_taken taken (k + 1) cs j e)

none_flag : (forms : List Form) (k : ℕ) → get_or (none_taken forms) k false ≡ false
none_flag [] k = refl
none_flag (f ∷ forms) zero = refl
none_flag (f ∷ forms) (suc k) = none_flag forms k

module _ (r : Resolved) where
  pub leaves_as : (k : ℕ) → (choice_in (overlapped r) k).leaves ≡ (choice_in (hoisted r) k).leaves
  leaves_as k = same_leaves (taken_of r) 0 (hoisted r) k

  pub left_as : (k i : ℕ) → left_by (choice_in (overlapped r) k) i ≡ left_by (choice_in (hoisted r) k) i
  left_as k i = ap (λ (ls : List ℕ). get_or ls i 0) (leaves_as k)

  pub flags_as : (k : ℕ) → (choice_in (overlapped r) k).in_place ≡ (choice_in (hoisted r) k).in_place
  flags_as k = same_flags (taken_of r) 0 (hoisted r) k

  -- a form that was chosen to overlap its transfers is that of a candidate
  pub chosen_in : (k : ℕ) → (choice_in (overlapped r) k).overlaps ≡ true → IsIn k (candidates_of r)
  chosen_in k e =
      let z : 0 + k ≡ k = omega arith in
      by (taken_in (λ taken. have_room taken 0 r.forms (rooms_of r) []) (none_taken r.forms) (candidates_of r) k
      (subst (λ n. get_or (taken_of r) n false ≡ true) z (only_taken (taken_of r) 0 (hoisted r) k e)))
    where
      by : (get_or (none_taken r.forms) k false ≡ true) ⊎ IsIn k (candidates_of r) → IsIn k (candidates_of r)
      by (inl h) = absurd (let f = none_flag r.forms k in cc (sym f ∙ h))
      by (inr h) = h

-- ---- homes

mapped : {A : Type 0} (f : ℕ → A) (d : A) (a n i : ℕ) → i < n → get_or (map f (range_with_len a n)) i d ≡ f (a + i)
mapped f d a zero i lt = absurd (omega (arith, lt))
mapped f d a (suc n) zero lt = ap f (omega arith)
mapped f d a (suc n) (suc i) lt =
    let z : a + 1 + i ≡ a + suc i = omega arith in mapped f d (a + 1) n i (omega (arith, lt)) ∙ ap f z

home_doubled : (base : ℕ) (c : Choice) (i : ℕ) → get_or c.in_place i false ≡ false → c.overlaps ≡ true
    → IsDoubled (home_of base c i)
home_doubled base c i = by (get_or c.in_place i false) (left_by c i == 0) c.overlaps
  where
    first : ℕ
    first = base + length (left_first c) + position i (others c)

    by : (in_place stays twice : Bool) → in_place ≡ false → twice ≡ true → IsDoubled (if in_place then InPlace
        else (if stays then (if twice then Twin first (first + length (others c)) else Own first)
        else Held (base + position i (left_first c)) (left_by c i)))
    by true stays twice e o = absurd (cc e)
    by false true true e o = tt
    by false true false e o = absurd (cc o)
    by false false twice e o = tt

home_moved : (base : ℕ) (c : Choice) (i : ℕ) → place_of (home_of base c i) ≡ Buffer → left_by c i ≡ 0
home_moved base c i = by (get_or c.in_place i false) (left_by c i == 0) c.overlaps refl
  where
    first : ℕ
    first = base + length (left_first c) + position i (others c)

    by : (in_place stays twice : Bool) → (left_by c i == 0) ≡ stays → place_of (if in_place then InPlace
        else (if stays then (if twice then Twin first (first + length (others c)) else Own first)
        else Held (base + position i (left_first c)) (left_by c i)))
        ≡ Buffer → left_by c i ≡ 0
    by true stays twice e h = absurd (cc h)
    by false true twice e h = same_number (left_by c i) 0 e
    by false false twice e h = absurd (cc h)

params_moved : (f : ℕ → Home) (P : ℕ → Type 0) → ((i : ℕ) → place_of (f i) ≡ Buffer → P i) → (a n i : ℕ)
    → place_of (get_or (map f (range_with_len a n)) i InPlace) ≡ Buffer → P (a + i)
params_moved f P h a zero i e = absurd (no_place i e)
  where
    no_place : (i : ℕ) → place_of (get_or [] i InPlace) ≡ Buffer → ⊥
    no_place zero e = absurd (cc e)
    no_place (suc i) e = absurd (cc e)
params_moved f P h a (suc n) zero e = let z : a ≡ a + 0 = omega arith in subst P z (h a e)
params_moved f P h a (suc n) (suc i) e =
    let z : a + 1 + i ≡ a + suc i = omega arith in subst P z (params_moved f P h (a + 1) n i e)

module _ (r : Resolved) where
  abbrev pub homes : ℕ → Homes
  homes = homes_in (homes_of r (overlapped r))

  homes_are : (k : ℕ) (b : FormBody) → slice_get (bodies_of r) k ≡ Some b → (first : ℕ)
      × ((homes k).params
      ≡ map (home_of first (choice_in (overlapped r) k)) (range_with_len 0
      (length (choice_in (overlapped r) k).in_place)))
  homes_are k b h =
      let at = forms_stand r (overlapped r) k b h in (
        at.first,
        ap (λ (x : Homes). x.params) (get_or_from_slice_get (homes_of r (overlapped r)) k
            (form_homes at.first (rule_by (instance_at r k)) at.code b (choice_in (overlapped r) k)) no_homes at.homes),
      )

  -- a form that overlaps its transfers is there, and was chosen
  pub record IsThere (k : ℕ) : Type 0 where
    pub body : FormBody
    pub there : slice_get (bodies_of r) k ≡ Some body
    pub chosen : (choice_in (overlapped r) k).overlaps ≡ true

  pub overlaps_there : (k : ℕ) → (homes k).overlaps ≡ true → IsThere k
  overlaps_there k e = by (slice_get (bodies_of r) k) refl
    where
      by : (o : Option FormBody) → slice_get (bodies_of r) k ≡ o → IsThere k
      by None h = absurd (let z = ap (λ (x : Homes). x.overlaps) (no_homes_at r (overlapped r) k h) in cc (sym z ∙ e))
      by (Some b) h = record { body = b; there = h; chosen = sym (overlaps_are r (overlapped r) k b h) ∙ e }

  pub doubled_at : (k : ℕ) → (homes k).overlaps ≡ true → (i : ℕ) → i < length (choice_in (overlapped r) k).in_place
      → get_or (choice_in (overlapped r) k).in_place i false ≡ false → IsDoubled (get_or (homes k).params i InPlace)
  doubled_at k e i lt flag =
      let t = overlaps_there k e in
      let p = homes_are k t.body t.there in
      let c = choice_in (overlapped r) k in
      let z : 0 + i ≡ i = omega arith in
      let is = ap (λ (hs : List Home). get_or hs i InPlace) p.1
      ∙ mapped (home_of p.0 c) InPlace 0 (length c.in_place) i lt ∙ ap (home_of p.0 c) z in
      subst IsDoubled (sym is) (home_doubled p.0 c i flag t.chosen)

  pub moved_at : (k i : ℕ) → place_of (get_or (homes k).params i InPlace) ≡ Buffer
      → is_held (choice_in (hoisted r) k).leaves i ≡ false
  moved_at k i e = by (slice_get (bodies_of r) k) refl
    where
      no_place : (i : ℕ) → place_of (get_or [] i InPlace) ≡ Buffer → ⊥
      no_place zero e = absurd (cc e)
      no_place (suc i) e = absurd (cc e)

      held : left_by (choice_in (overlapped r) k) i ≡ 0 → is_held (choice_in (hoisted r) k).leaves i ≡ false
      held z = ap (nat_lt 0) (sym (left_as r k i) ∙ z)

      by : (o : Option FormBody) → slice_get (bodies_of r) k ≡ o → is_held (choice_in (hoisted r) k).leaves i ≡ false
      by None h = absurd (no_place i
          (sym (ap (λ (x : Homes). place_of (get_or x.params i InPlace)) (no_homes_at r (overlapped r) k h)) ∙ e))
      by (Some b) h =
          let p = homes_are k b h in
          let c = choice_in (overlapped r) k in
          let z : 0 + i ≡ i = omega arith in
          held (subst (λ n. left_by c n ≡ 0) z
          (params_moved (home_of p.0 c) (λ n. left_by c n ≡ 0) (home_moved p.0 c) 0 (length c.in_place) i
          (sym (ap (λ (hs : List Home). place_of (get_or hs i InPlace)) p.1) ∙ e)))
