-- What is chosen for the forms of a program is what their calls allow.
use Rattle.std.proofs.Common.{◌≡◌, inl, inr, ℕ, zero, suc, ◌+◌, ◌==◌, ◌<◌, ◌≤◌, Bool, true, false, List, [], ◌∷◌}
use Rattle.std.proofs.Common.{◌++◌, map, length, get_or, slice_get, Option, Some, None, refl, sym, ap, subst, ◌∙◌}
use Rattle.std.proofs.Common.{arith}
use Rattle.std.proofs.Common.{if◌then◌else◌}
use Rattle.std.proofs.lemmas.Bool.Decides.{nat_tests}
use Rattle.std.proofs.lemmas.Option.{get_or_from_slice_get}
use Rattle.std.specs.List.{range_with_len}
use Rattle.sq_forms.specs.declared.form.Form.{Form}
use Rattle.sq_form_laws.proofs.RanHold.{as_many_forms}
use Rattle.sq_spec.specs.declared.statement.CallInstance.{CallInstance}
use Rattle.sq_spec.specs.declared.statement.Statement.{Statement}
use Rattle.sq_spec.specs.declared.body.Body.{Body}
use Rattle.sq_spec.specs.declared.body.Body.TheVariants as body
use Rattle.sq_spec.specs.declared.body.FormBody.{FormBody}
use Rattle.sq_spec.specs.declared.resolved.Resolved.{Resolved}
use Rattle.sq_spec.specs.Bodies.{no_body, body_of}
use Rattle.sq_spec_laws.specs.TableRows.{Table, tables_in}
use Rattle.sq_placed.specs.declared.home.Home.{Home}
use Rattle.sq_placed.specs.declared.home.Home.TheVariants.{InPlace, Own, Held, Twin}
use Rattle.sq_placed.specs.declared.home.Homes.{Homes}
use Rattle.sq_placed.specs.Pipes.{NonePiped}
use Rattle.sq_placed.proofs.Pipes.{none_stand}
use Rattle.sq_draft_laws.specs.Term.Terms.{no_homes, body_in, homes_in}
use Rattle.sq_draft_laws.specs.TermLaws.Leaves.{loops_left, left_of, BodyLeaves}
use Rattle.sq_draft_laws.specs.TermLaws.Orders.{EachOf, rounds_of}
use Rattle.sq_draft_laws.specs.TermLaws.Held.{AreHeldRows}
use Rattle.sq_draft_laws.specs.TermLaws.Overlapping.{IsSuited, OverlapsStand}
use Rattle.sq_draft_laws.proofs.TermLaws.Overlaps.{none_overlap}
use Rattle.sq_draft_laws.specs.ProgramLaws.Held.{loops_of, LoopHolds, HoldsFit}
use Rattle.sq_draft_laws.specs.Homes.Chosen.declared.choice.Choice.{Choice}
use Rattle.sq_draft_laws.specs.Homes.Chosen.Arrays.{left_by, hoisted as left_first, others}
use Rattle.sq_draft_laws.specs.Homes.Numbering.{home_of, position, form_homes}
use Rattle.sq_draft_laws.specs.Homes.Chosen.Forms.{bodies_of, choice_in, no_choice, instance_at, rule_by}
use Rattle.sq_draft_laws.specs.Homes.Drafts.{homes_of}
use Rattle.sq_draft_laws.specs.Choosing.{Walked, IsChosenFor, left_in, MayBeChosen, NoneOverlaps}
use Rattle.sq_draft_laws.proofs.Hoisting.{no_item, no_homes_at, left_within, none_pipes}
use Rattle.sq_draft_laws.proofs.Programs.{bodies_are_tables}
use Rattle.sq_draft_laws.proofs.Standing.{forms_stand}
use Rattle.sq_pipe.specs.Hoist.declared.sites.Site.{Site}
use Rattle.sq_pipe.specs.Hoist.Loops.{sites}
use Rattle.sq_pipe.specs.Hoist.Choices.{body_sites, sites_from, sites_of, find_leaves, leaves_or, choice_of, choices_from}
use Rattle.sq_pipe.specs.Hoist.Choices.{hoisted}
use Rattle.sq_pass_laws.specs.HoistLaws.{HoistedOverlapNothing}
use Rattle.sq_pass_laws.specs.Times.{BodyIsBegun}
use Rattle.sq_pass_laws.proofs.Staying.{AreAlike}
use Rattle.sq_pass_laws.proofs.Sites.{Leaves, From, HasNumber, IsWithin, LowersSo, SitesSo, found_front}
use Rattle.sq_pass_laws.proofs.Sites.{found_back, not_found, found_so, all_have, AreLocal}
use Rattle.sq_pass_laws.proofs.Holding.{HeldAt}
use Rattle.sq_pass_laws.proofs.Chosen.{chosen, AreChosen, IsFine, list_leaves, list_rounds, list_loops, list_fine}
use Rattle.sq_pass_laws.proofs.Tables.{caller_of, number_of, IsFlat, RowIs, ListIs, BodyIs, bodies_are}
use Rattle.sq_draft_laws.proofs.ProgramLaws.Loops.{each_both, each_from, each_map}
use Rattle.sq_pass_laws.proofs.HoistLists.{each_two}

-- ---- lists

from_each : (P : ℕ → CallInstance → Type 0) (lo : ℕ) (ts : List Table)
    → ((i : ℕ) (t : Table) → slice_get ts i ≡ Some t → EachOf (P (lo + i)) t.times) → From P lo ts
from_each P lo [] h = tt
from_each P lo (t ∷ ts) h =
    let z : lo + 0 ≡ lo = omega arith in (
      subst (λ n. EachOf (P n) t.times) z (h 0 t refl),
      from_each P (suc lo) ts (λ i u e.
          let y : lo + suc i ≡ suc lo + i = omega arith in subst (λ n. EachOf (P n) u.times) y (h (suc i) u e)),
    )

-- ---- the sites of all forms

-- what holds of lower calls of a form
abbrev pub BodySo : (ℕ → Type 0) → Body → Type 0
BodySo Q (body.Leaf code) = Unit {0}
BodySo Q (body.Inner list) = LowersSo Q (tables_in list None)

module _ (Q : ℕ → Type 0) where
  body_have : (k : ℕ) (b : Body) → BodySo Q b → SitesSo Q (body_sites k b)
  body_have k (body.Leaf code) h = tt
  body_have k (body.Inner list) h = all_have Q k list None h

  forms_have : (at : ℕ) (bs : List FormBody)
      → ((j : ℕ) (b : FormBody) → slice_get bs j ≡ Some b → BodySo Q b.body) → SitesSo Q (sites_from at bs)
  forms_have at [] h = tt
  forms_have at (b ∷ bs) h =
      each_both (λ (s : Site). Q s.form) (body_sites at b.body) (sites_from (suc at) bs)
      (body_have at b.body (h 0 b refl)) (forms_have (suc at) bs (λ j c e. h (suc j) c e))

module _ (caller : ℕ → ℕ) where
  -- the calls of a form are its own
  abbrev pub IsOwn : ℕ → CallInstance → Type 0
  IsOwn k q = caller q.form ≡ k

  abbrev pub AreOwn : ℕ → Body → Type 0
  AreOwn k (body.Leaf code) = Unit {0}
  AreOwn k (body.Inner list) = EachOf (λ (t : Table). EachOf (IsOwn k) t.times) (tables_in list None)

  pub own_within : (k : ℕ) (ts : List Table) → EachOf (λ (t : Table). EachOf (IsOwn k) t.times) ts → (lo hi : ℕ)
      → lo ≤ k → k < hi → LowersSo (IsWithin caller lo hi) ts
  own_within k ts h lo hi down up =
      each_map (λ (t : Table). EachOf (IsOwn k) t.times)
      (λ (t : Table). t.lower ≡ true → EachOf (λ (q : CallInstance). IsWithin caller lo hi q.form) t.times) ts
      (λ t g low. each_map (IsOwn k) (λ (q : CallInstance). IsWithin caller lo hi q.form) t.times
      (λ q is. record { low = omega (arith, is, down); high = omega (arith, is, up) }) g) h

  pub body_within : (k : ℕ) (b : Body) → AreOwn k b → (lo hi : ℕ) → lo ≤ k → k < hi → BodySo (IsWithin caller lo hi) b
  body_within k (body.Leaf code) h lo hi down up = tt
  body_within k (body.Inner list) h lo hi down up = own_within k (tables_in list None) h lo hi down up

  abbrev pub AllOwn : ℕ → List FormBody → Type 0
  AllOwn at bs = (j : ℕ) (b : FormBody) → slice_get bs j ≡ Some b → AreOwn (at + j) b.body

  pub next_own : (at : ℕ) (b : FormBody) (bs : List FormBody) → AllOwn at (b ∷ bs) → AllOwn (suc at) bs
  next_own at b bs h j c e =
      let z : at + suc j ≡ suc at + j = omega arith in subst (λ n. AreOwn n c.body) z (h (suc j) c e)

  pub first_own : (at : ℕ) (b : FormBody) (bs : List FormBody) → AllOwn at (b ∷ bs) → AreOwn at b.body
  first_own at b bs h = let z : at + 0 ≡ at = omega arith in subst (λ n. AreOwn n b.body) z (h 0 b refl)

  within_length : {A : Type 0} (xs : List A) (j : ℕ) (x : A) → slice_get xs j ≡ Some x → j < length xs
  within_length [] j x e = absurd (cc e)
  within_length (y ∷ xs) zero x e = omega arith
  within_length (y ∷ xs) (suc j) x e = let l = within_length xs j x e in omega (arith, l)

  pub all_within : (at : ℕ) (bs : List FormBody) → AllOwn at bs
      → SitesSo (IsWithin caller at (at + length bs)) (sites_from at bs)
  all_within at bs h =
      forms_have (IsWithin caller at (at + length bs)) at bs (λ j b e.
      let l = within_length bs j b e in
      body_within (at + j) b.body (h j b e) at (at + length bs) (omega arith) (omega (arith, l)))

  module _ (look : ℕ → Leaves) where
    abbrev IsFound : List Site → CallInstance → Type 0
    IsFound ss q = look q.form ≡ find_leaves ss q.form

    narrow : (ss us : List Site) (k : ℕ) (ts : List Table) → EachOf (λ (t : Table). EachOf (IsOwn k) t.times) ts
        → ((q : CallInstance) → IsOwn k q → IsFound ss q → IsFound us q) → AreLocal look ss ts → AreLocal look us ts
    narrow ss us k [] own f h = tt
    narrow ss us k (t ∷ ts) own f h = (
      each_two (IsOwn k) (IsFound ss) (IsFound us) t.times f own.0 h.0,
      narrow ss us k ts own.1 f h.1,
    )

    -- what is found at the calls of a form is found at its own sites
    form_local : (at : ℕ) (bs : List FormBody) → AllOwn at bs → (j : ℕ) (b : FormBody) (list : List Statement)
        → slice_get bs j ≡ Some b → b.body ≡ body.Inner list → AreLocal look (sites_from at bs) (tables_in list None)
        → AreLocal look (sites (at + j) list) (tables_in list None)
    form_local at [] own j b list e is h = absurd (cc e)
    form_local at (c ∷ bs) own zero b list e is h =
        let same : c ≡ b = cc e in
        let body_is : c.body ≡ body.Inner list = ap (λ (x : FormBody). x.body) same ∙ is in
        let here = subst (AreOwn at) body_is (first_own at c bs own) in
        let rest = sites_from (suc at) bs in
        let w = all_within (suc at) bs (next_own at c bs own) in
        let z : at ≡ at + 0 = omega arith in
        subst (λ n. AreLocal look (sites n list) (tables_in list None)) z
        (narrow (body_sites at (body.Inner list) ++ rest) (sites at list) at (tables_in list None) here
        (λ q o g. g ∙ found_front (sites at list) rest q.form
        (not_found caller (suc at) (suc at + length bs) rest w q.form (inl (omega (arith, o)))))
        (subst (λ (x : Body). AreLocal look (body_sites at x ++ rest) (tables_in list None)) body_is h))
    form_local at (c ∷ bs) own (suc j) b list e is h =
        let front = body_sites at c.body in
        let rest = sites_from (suc at) bs in
        let w = body_have (IsWithin caller at (suc at)) at c.body
        (body_within at c.body (first_own at c bs own) at (suc at) (omega arith) (omega arith)) in
        let here = subst (AreOwn (at + suc j)) is (own (suc j) b e) in
        let z : suc at + j ≡ at + suc j = omega arith in
        subst (λ n. AreLocal look (sites n list) (tables_in list None)) z
        (form_local (suc at) bs (next_own at c bs own) j b list e is
        (narrow (front ++ rest) rest (at + suc j) (tables_in list None) here
        (λ q o g. g ∙ found_back front rest q.form
        (not_found caller at (suc at) front w q.form (inr (omega (arith, o))))) h))

-- ---- homes

pub home_held : (base : ℕ) (c : Choice) (i b n : ℕ) → home_of base c i ≡ Held b n → (0 < n) × (n ≡ left_by c i)
home_held base c i b n e = by (get_or c.in_place i false) (left_by c i == 0) c.overlaps refl e
  where
    first : ℕ
    first = base + length (left_first c) + position i (others c)

    some : (left_by c i == 0) ≡ false → 0 < left_by c i
    some e = grind (arith, nat_tests)

    by : (in_place none twice : Bool) → (left_by c i == 0) ≡ none → (if in_place then InPlace
        else (if none then (if twice then Twin first (first + length (others c)) else Own first)
        else Held (base + position i (left_first c)) (left_by c i)))
        ≡ Held b n → (0 < n) × (n ≡ left_by c i)
    by true none twice e h = absurd (cc h)
    by false true true e h = absurd (cc h)
    by false true false e h = absurd (cc h)
    by false false twice e h =
        let same : left_by c i ≡ n = cc h in
        let l = some e in
        (omega (arith, same, l), sym same)

pub params_held : (f : ℕ → Home) (P : ℕ → ℕ → ℕ → Type 0) → ((i b n : ℕ) → f i ≡ Held b n → P i b n) → (a m i b n : ℕ)
    → get_or (map f (range_with_len a m)) i InPlace ≡ Held b n → P (a + i) b n
params_held f P h a zero zero b n e = absurd (cc e)
params_held f P h a zero (suc i) b n e = absurd (cc e)
params_held f P h a (suc m) zero b n e = let z : a ≡ a + 0 = omega arith in subst (λ k. P k b n) z (h a b n e)
params_held f P h a (suc m) (suc i) b n e =
    let z : a + 1 + i ≡ a + suc i = omega arith in subst (λ k. P k b n) z (params_held f P h (a + 1) m i b n e)

module _ (r : Resolved) (choices : List Choice) where
  -- a parameter leaves as many loops as are chosen
  pub held_chosen : (f i b n : ℕ) → HeldAt (homes_in (homes_of r choices)) f i b n
      → (0 < n) × (n ≡ left_by (choice_in choices f) i)
  held_chosen f i b n e = by (slice_get (bodies_of r) f) refl
    where
      none : {A : Type 0} → (j : ℕ) → get_or [] j InPlace ≡ Held b n → A
      none zero h = absurd (cc h)
      none (suc j) h = absurd (cc h)

      by : (o : Option FormBody) → slice_get (bodies_of r) f ≡ o → (0 < n) × (n ≡ left_by (choice_in choices f) i)
      by None h =
          none i (sym (ap (λ (x : Homes). get_or x.params i InPlace) (no_homes_at r choices f h)) ∙ e)
      by (Some x) h =
          let at = forms_stand r choices f x h in
          let c = choice_in choices f in
          let own = get_or_from_slice_get (homes_of r choices) f
          (form_homes at.first (rule_by (instance_at r f)) at.code x c) no_homes at.homes in
          let z : 0 + i ≡ i = omega arith in
          subst (λ j. (0 < n) × (n ≡ left_by c j)) z
          (params_held (home_of at.first c) (λ j b n. (0 < n) × (n ≡ left_by c j)) (home_held at.first c) 0
          (length c.in_place) i b n (sym (ap (λ (x : Homes). get_or x.params i InPlace) own) ∙ e))

-- ---- homes of one set

suited_home : (base : ℕ) (c : Choice) → c.overlaps ≡ false → (i : ℕ) → IsSuited false (home_of base c i)
suited_home base c none i = by (get_or c.in_place i false) (left_by c i == 0) c.overlaps none
  where
    first : ℕ
    first = base + length (left_first c) + position i (others c)

    by : (in_place stays twice : Bool) → twice ≡ false → IsSuited false (if in_place then InPlace
        else (if stays then (if twice then Twin first (first + length (others c)) else Own first)
        else Held (base + position i (left_first c)) (left_by c i)))
    by true stays twice e = tt
    by false true true e = absurd (cc e)
    by false true false e = refl
    by false false twice e = tt

each_suited : (base : ℕ) (c : Choice) → c.overlaps ≡ false → (is : List ℕ)
    → EachOf (IsSuited false) (map (home_of base c) is)
each_suited base c none [] = tt
each_suited base c none (i ∷ is) = (suited_home base c none i, each_suited base c none is)

-- where no loop was chosen to overlap its transfers
pub params_suited : (r : Resolved) (choices : List Choice) → NoneOverlaps choices → (k : ℕ)
    → EachOf (IsSuited false) (homes_in (homes_of r choices) k).params
params_suited r choices none k = by (slice_get (bodies_of r) k) refl
  where
    Suited : Homes → Type 0
    Suited h = EachOf (IsSuited false) h.params

    by : (o : Option FormBody) → slice_get (bodies_of r) k ≡ o → Suited (homes_in (homes_of r choices) k)
    by None h = subst Suited (sym (no_homes_at r choices k h)) tt
    by (Some b) h =
        let at = forms_stand r choices k b h in
        let c = choice_in choices k in
        subst Suited (sym (get_or_from_slice_get (homes_of r choices) k
        (form_homes at.first (rule_by (instance_at r k)) at.code b c) no_homes at.homes))
        (each_suited at.first c (none k) (range_with_len 0 (length c.in_place)))

-- ---- choices

choices_at : (look : ℕ → Leaves) (k : ℕ) (fs : List Form) (j : ℕ) (f : Form) → slice_get fs j ≡ Some f
    → get_or (choices_from look k fs) j no_choice ≡ choice_of (look (k + j)) f
choices_at look k [] j f e = absurd (cc e)
choices_at look k (g ∷ fs) zero f e =
    let same : g ≡ f = cc e in
    let z : k ≡ k + 0 = omega arith in
    ap (λ (g : Form). choice_of (look k) g) same ∙ ap (λ n. choice_of (look n) f) z
choices_at look k (g ∷ fs) (suc j) f e =
    let z : suc k + j ≡ k + suc j = omega arith in
    choices_at look (suc k) fs j f e ∙ ap (λ n. choice_of (look n) f) z

choices_past : (look : ℕ → Leaves) (k : ℕ) (fs : List Form) (j : ℕ) → slice_get fs j ≡ None
    → get_or (choices_from look k fs) j no_choice ≡ no_choice
choices_past look k [] j e = refl
choices_past look k (g ∷ fs) zero e = absurd (cc e)
choices_past look k (g ∷ fs) (suc j) e = choices_past look (suc k) fs j e

-- no loop overlaps its transfers
overlaps_nothing : (look : ℕ → Leaves) (k : ℕ) (fs : List Form) (j : ℕ)
    → (get_or (choices_from look k fs) j no_choice).overlaps ≡ false
overlaps_nothing look k [] j = refl
overlaps_nothing look k (f ∷ fs) zero = refl
overlaps_nothing look k (f ∷ fs) (suc j) = overlaps_nothing look (suc k) fs j

pub hoisted_overlap_nothing : HoistedOverlapNothing
hoisted_overlap_nothing r k = overlaps_nothing (find_leaves (sites_of r)) 0 r.forms k

pub flag_there : (xs : List Bool) (i : ℕ) → get_or xs i false ≡ true → slice_get xs i ≡ Some true
flag_there [] zero e = absurd (cc e)
flag_there [] (suc i) e = absurd (cc e)
flag_there (x ∷ xs) zero e = ap Some e
flag_there (x ∷ xs) (suc i) e = flag_there xs i e

-- ---- a program

module _ (r : Resolved) (w : Walked r) where
  abbrev pub look : ℕ → Leaves
  look = find_leaves (sites_of r)

  abbrev pub bodies : ℕ → FormBody
  bodies = body_of r.typed.now.tasks r.mapping.now.instances r.found.entries

  pub choice_is : (k : ℕ) (f : Form) → slice_get r.forms k ≡ Some f → choice_in (hoisted r) k ≡ choice_of (look k) f
  choice_is k f e =
      let z : 0 + k ≡ k = omega arith in choices_at look 0 r.forms k f e ∙ ap (λ n. choice_of (look n) f) z

  -- what isn't a form has no choice
  pub no_choice_is : (k : ℕ) → slice_get r.forms k ≡ None → choice_in (hoisted r) k ≡ no_choice
  no_choice_is k e = choices_past look 0 r.forms k e

  left_found : (k i : ℕ) → 0 < left_by (choice_in (hoisted r) k) i
      → left_by (choice_in (hoisted r) k) i ≡ chosen look k i
  left_found k i some = by (slice_get r.forms k) refl
    where
      empty : (i : ℕ) → ◌≡◌ {A = ℕ} (left_by no_choice i) 0
      empty zero = refl
      empty (suc i) = refl

      by : (o : Option Form) → slice_get r.forms k ≡ o → left_by (choice_in (hoisted r) k) i ≡ chosen look k i
      by (Some f) e = ap (λ (c : Choice). left_by c i) (choice_is k f e)
      by None e =
          let z = ap (λ (c : Choice). left_by c i) (no_choice_is k e) ∙ empty i in
          absurd (omega (arith, some, z))

  -- ---- the bodies of all forms

  pub body_at : (j : ℕ) (b : FormBody) → slice_get (bodies_of r) j ≡ Some b → bodies j ≡ b
  body_at j b e = sym (bodies_are_tables as_many_forms r j) ∙ get_or_from_slice_get (bodies_of r) j b no_body e

  abbrev pub its : (k : ℕ) → BodyIs r w k (bodies k).body
  its k = bodies_are r w k

  rows_so : (P : CallInstance → Type 0) (k : ℕ) (list : List Statement) → ListIs r w k list
      → ((i : ℕ) (lower : Bool) (q : CallInstance) → RowIs r w k i lower q → P q)
      → EachOf (λ (t : Table). EachOf P t.times) (tables_in list None)
  rows_so P k list l f = each_from (λ (t : Table). EachOf P t.times) (tables_in list None) (λ i t e.
      each_map (RowIs r w k i t.lower) P t.times (λ q row. f i t.lower q row) (l.tables i t e).rows)

  pub list_numbered : (k : ℕ) (list : List Statement) → ListIs r w k list
      → From (HasNumber (number_of r w)) 0 (tables_in list None)
  list_numbered k list h = from_each (HasNumber (number_of r w)) 0 (tables_in list None) (λ i t g.
      let y : i ≡ 0 + i = omega arith in
      subst (λ n. EachOf (HasNumber (number_of r w) n) t.times) y
      (each_map (RowIs r w k i t.lower) (HasNumber (number_of r w) i) t.times (λ q row. row.number)
      (h.tables i t g).rows))

  own_by : (k : ℕ) (b : Body) → BodyIs r w k b → AreOwn (caller_of r w) k b
  own_by k (body.Leaf code) h = tt
  own_by k (body.Inner list) h = rows_so (IsOwn (caller_of r w) k) k list h (λ i lower q row. row.caller)

  pub all_own : AllOwn (caller_of r w) 0 (bodies_of r)
  all_own j b e =
      let z : j ≡ 0 + j = omega arith in
      subst (λ n. AreOwn (caller_of r w) n b.body) z
      (own_by j b.body (subst (λ (x : FormBody). BodyIs r w j x.body) (body_at j b e) (its j)))

  -- what holds of all rows of lower calls
  lowers_by : (Q : ℕ → Type 0) → ((k i : ℕ) (q : CallInstance) → RowIs r w k i true q → Q q.form) → (k : ℕ) (b : Body)
      → BodyIs r w k b → BodySo Q b
  lowers_by Q f k (body.Leaf code) h = tt
  lowers_by Q f k (body.Inner list) h =
      each_from (λ (t : Table). t.lower ≡ true → EachOf (λ (q : CallInstance). Q q.form) t.times) (tables_in list None)
      (λ i t e low. each_map (RowIs r w k i t.lower) (λ (q : CallInstance). Q q.form) t.times
      (λ q row. f k i q (subst (λ l. RowIs r w k i l q) low row)) (h.tables i t e).rows)

  pub bodies_so : (Q : ℕ → Type 0) → ((k i : ℕ) (q : CallInstance) → RowIs r w k i true q → Q q.form)
      → (j : ℕ) (b : FormBody) → slice_get (bodies_of r) j ≡ Some b → BodySo Q b.body
  bodies_so Q f j b e =
      lowers_by Q f j b.body (subst (λ (x : FormBody). BodyIs r w j x.body) (body_at j b e) (its j))

  sites_so : (Q : ℕ → Type 0) → ((k i : ℕ) (q : CallInstance) → RowIs r w k i true q → Q q.form)
      → SitesSo Q (sites_of r)
  sites_so Q f = forms_have Q 0 (bodies_of r) (bodies_so Q f)

  none_at_entry : (i : ℕ) → chosen look 0 i ≡ 0
  none_at_entry i = by (look 0) refl i
    where
      by : (o : Leaves) → look 0 ≡ o → (i : ℕ) → get_or (leaves_or o) i 0 ≡ 0
      by (Some ls) is i =
          absurd (found_so (λ f. f ≡ 0 → ⊥) (sites_of r)
          (sites_so (λ f. f ≡ 0 → ⊥) (λ k i q row. row.not_entry)) 0 ls is refl)
      by None is zero = refl
      by None is (suc i) = refl

  body_times : (k : ℕ) (b : Body) → BodyIs r w k b → BodyIsBegun b
  body_times k (body.Leaf code) h = tt
  body_times k (body.Inner list) h = h.begun

  pub tables_have_times : (k : ℕ) → BodyIsBegun (bodies k).body
  tables_have_times k = body_times k (bodies k).body (its k)

  -- ---- choices by which as much leaves loops as by hoisting

  module _ (choices : List Choice)
      (same : (k i : ℕ) → left_by (choice_in choices k) i ≡ left_by (choice_in (hoisted r) k) i) where
    abbrev homes : ℕ → Homes
    homes = homes_in (homes_of r choices)

    are_chosen : AreChosen homes look
    are_chosen = record {
      some = λ f i b n e. (held_chosen r choices f i b n e).0;
      is = λ f i b n e.
          let h = held_chosen r choices f i b n e in
          let l = h.0 in
          let m = h.1 in
          let s = same f i in
          h.1 ∙ s ∙ left_found f i (omega (arith, l, m, s));
    }

    list_is_fine : (k : ℕ) (b : FormBody) (list : List Statement) → slice_get (bodies_of r) k ≡ Some b
        → b.body ≡ body.Inner list → ListIs r w k list → EachOf (IsFine homes look are_chosen) list
    list_is_fine k b list e is h =
        let z : 0 + k ≡ k = omega arith in
        let local = form_local (caller_of r w) look 0 (bodies_of r) all_own k b list e is
        (each_from (λ (t : Table). EachOf (λ (q : CallInstance). look q.form ≡ find_leaves (sites_of r) q.form) t.times)
        (tables_in list None) (λ i t g. each_from
        (λ (q : CallInstance). look q.form ≡ find_leaves (sites_of r) q.form) t.times (λ j q d. refl))) in
        list_fine homes look are_chosen (number_of r w) k list None 0 (list_numbered k list h)
        (each_from (λ (t : Table). AreAlike t.times) (tables_in list None) (λ i t g. (h.tables i t g).alike))
        (subst (λ n. AreLocal look (sites n list) (tables_in list None)) z local)

    -- what is asked of a form
    record IsGood (b : Body) : Type 0 where
      leaves : BodyLeaves (left_of homes) b
      rounds : EachOf (AreHeldRows homes) (rounds_of b)
      loops : EachOf (LoopHolds homes) (loops_of b)

    nothing_good : IsGood (body.Inner [])
    nothing_good = record { leaves = tt; rounds = tt; loops = tt }

    body_good : (k : ℕ) (b : FormBody) → slice_get (bodies_of r) k ≡ Some b → (x : Body) → b.body ≡ x → BodyIs r w k x
        → IsGood x
    body_good k b e (body.Leaf code) is h = record { leaves = tt; rounds = tt; loops = tt }
    body_good k b e (body.Inner list) is h =
        let f = list_is_fine k b list e is h in record {
          leaves = list_leaves homes look are_chosen list f 1 h.begun [];
          rounds = list_rounds homes look are_chosen list f;
          loops = list_loops homes look are_chosen list f 1 0 h.begun (omega arith);
        }

    form_good : (k : ℕ) → IsGood (bodies k).body
    form_good k = by (slice_get (bodies_of r) k) refl
      where
        by : (o : Option FormBody) → slice_get (bodies_of r) k ≡ o → IsGood (bodies k).body
        by (Some b) e =
            subst (λ (x : FormBody). IsGood x.body) (sym (body_at k b e))
            (body_good k b e b.body refl (subst (λ (x : FormBody). BodyIs r w k x.body) (body_at k b e) (its k)))
        by None e =
            subst (λ (x : FormBody). IsGood x.body)
            (sym (no_item (bodies_of r) k no_body e) ∙ bodies_are_tables as_many_forms r k) nothing_good

    pub entry_stays : (i : ℕ) → left_in r choices 0 i ≡ 0
    entry_stays i = by (slice_get (bodies_of r) 0) refl
      where
        bound : (n : ℕ) → left_in r choices 0 i ≡ n → left_in r choices 0 i ≤ left_by (choice_in choices 0) i → n ≡ 0
        bound zero e l = refl
        bound (suc n) e l =
            let s = same 0 i in
            let some : 0 < left_by (choice_in (hoisted r) 0) i = omega (arith, e, l, s) in
            let is = left_found 0 i some in
            let none = none_at_entry i in
            absurd (omega (arith, some, is, none))

        empty : (i : ℕ) → loops_left (get_or [] i InPlace) ≡ 0
        empty zero = refl
        empty (suc i) = refl

        by : (o : Option FormBody) → slice_get (bodies_of r) 0 ≡ o → left_in r choices 0 i ≡ 0
        by None e = ap (λ (x : Homes). loops_left (get_or x.params i InPlace)) (no_homes_at r choices 0 e) ∙ empty i
        by (Some b) e = bound (left_in r choices 0 i) refl (left_within r choices 0 i b e)

    pub loops_may_be_left : (k : ℕ) → BodyLeaves (left_in r choices) (body_in (bodies_of r) k).body
    loops_may_be_left k = subst (λ (x : FormBody). BodyLeaves (left_of homes) x.body)
        (sym (bodies_are_tables as_many_forms r k)) (form_good k).leaves

    pub they_hold : HoldsFit bodies homes
    they_hold = record { rounds = λ f. (form_good f).rounds; loops = λ k. (form_good k).loops }

  -- ---- the choices

  abbrev hoisted_homes : ℕ → Homes
  hoisted_homes = homes_in (homes_of r (hoisted r))

  is_hoisted : (k : ℕ) (f : Form) → slice_get r.forms k ≡ Some f → IsChosenFor f (choice_of (look k) f)
  is_hoisted k f e = record {
    flags = refl;
    in_place = λ i h. flag_there f.in_place i h;
    moved = λ i h. by (look k) refl i h;
  }
    where
      flat_at : (ls : List ℕ) → look k ≡ Some ls → IsFlat r w k
      flat_at ls is = found_so (IsFlat r w) (sites_of r)
          (sites_so (IsFlat r w) (λ k i q row. row.flat refl)) k ls is

      by : (o : Leaves) → look k ≡ o → (i : ℕ) → 0 < get_or (leaves_or o) i 0 → get_or f.in_place i false ≡ false
      by (Some ls) is i h = flat_at ls is f e i
      by None is zero h = absurd (omega (arith, h))
      by None is (suc i) h = absurd (omega (arith, h))

  none_piped : NonePiped hoisted_homes
  none_piped = none_pipes r (hoisted r) (hoisted_overlap_nothing r)

  none_stand_so : OverlapsStand (body_in (bodies_of r)) hoisted_homes
  none_stand_so = none_overlap (body_in (bodies_of r)) hoisted_homes none_piped
      (params_suited r (hoisted r) (hoisted_overlap_nothing r))

  pub choices_are_hoisted : MayBeChosen r (hoisted r)
  choices_are_hoisted = record {
    each = λ k f e. subst (IsChosenFor f) (sym (choice_is k f e)) (is_hoisted k f e);
    entry = entry_stays (hoisted r) (λ k i. refl);
    loops = loops_may_be_left (hoisted r) (λ k i. refl);
    first = hoisted_overlap_nothing r 0;
    calls = none_stand_so.calls;
    stand = none_stand (body_in (bodies_of r)) hoisted_homes none_piped;
    doubled = λ k e i. let f = hoisted_overlap_nothing r k in absurd (cc (sym f ∙ e));
  }

  pub choices_hold : HoldsFit bodies hoisted_homes
  choices_hold = they_hold (hoisted r) (λ k i. refl)
