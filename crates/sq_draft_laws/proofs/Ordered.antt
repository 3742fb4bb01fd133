-- The buffers of each form stand in order, and each form but the entry has one caller.
use Rattle.std.proofs.Common.{◌≡◌, ◌⊎◌, inl, inr, ℕ, zero, suc, ◌+◌, ◌==◌, ◌<◌, ◌≤◌, Bool, false, List, []}
use Rattle.std.proofs.Common.{◌∷◌, ◌++◌, length, map, drop, slice_get, get_or, Option, Some, None, refl, sym, ap, ap₂}
use Rattle.std.proofs.Common.{subst, ◌∙◌, arith, length-append, if◌then◌else◌}
use Rattle.std.specs.List.{range_with_len}
use Rattle.std.proofs.lemmas.Bool.Decides.{nat_tests}
use Rattle.std.proofs.lemmas.List.FromFn.{length-range_with_len}
use Rattle.sq_leaf.specs.declared.shape.Shape.{Shape}
use Rattle.sq_ir.specs.declared.plan.Buffer.{Buffer}
use Rattle.sq_forms.specs.declared.form.Caller.{Caller}
use Rattle.sq_forms.specs.declared.form.Form.{Form}
use Rattle.sq_form_laws.proofs.AllHold.{within_list}
use Rattle.sq_form_laws.proofs.AnswerHold.{forms_callers_first}
use Rattle.sq_spec.specs.declared.statement.CallInstance.{CallInstance}
use Rattle.sq_spec.specs.declared.body.FormBody.{FormBody}
use Rattle.sq_spec.specs.declared.resolved.Resolved.{Resolved}
use Rattle.sq_placed.specs.declared.home.Home.{Home}
use Rattle.sq_placed.specs.declared.home.Home.TheVariants.{InPlace, Own, Held, Twin}
use Rattle.sq_placed.specs.declared.home.Homes.{Homes}
use Rattle.sq_placed.specs.Trees.{local_buffers}
use Rattle.sq_placed.specs.Tables.{placed_locals, locals_of}
use Rattle.sq_term.specs.Terms.{body_in, homes_in}
use Rattle.sq_program_laws.specs.TermLaws.Leaves.{loops_left}
use Rattle.sq_program_laws.specs.TermLaws.Orders.{EachOf, Round, rounds_of, held_at, held_over, params_of, round_held}
use Rattle.sq_program_laws.specs.TermLaws.Callers.{home_buffers, home_set, Numbering, own, IsRowOf, AreRowsOf, AreNumbered}
use Rattle.sq_homes.specs.Chosen.declared.choice.Choice.{Choice}
use Rattle.sq_homes.specs.Chosen.Arrays.{deepest, hoisted, others, again, locals_count}
use Rattle.sq_homes.specs.Numbering.{local_base}
use Rattle.sq_homes.specs.Chosen.Forms.{bodies_of, choice_in}
use Rattle.sq_homes.specs.Drafts.{homes_of, buffers_of}
use Rattle.sq_draft_laws.specs.Choosing.{Walked, left_in, MayBeChosen}
use Rattle.sq_draft_laws.proofs.Hoisting.{at_index, bodies_many, no_homes_at, left_within}
use Rattle.sq_draft_laws.specs.Numbers.{BuffersAreNumbered}
use Rattle.sq_draft_laws.proofs.Numbers.{many, first_of, form_from, index_from}
use Rattle.sq_draft_laws.proofs.Numbered.{drop_many, range_joined, in_range, caller_by, caller_of}
use Rattle.sq_draft_laws.proofs.Rounds.{each_of, one_of, rounds_so}
use Rattle.sq_draft_laws.proofs.Callers.{walk, RowIs, rows_are}
use Rattle.sq_draft_laws.proofs.ArrayPlaces.{held_first, deep, held_are, others_are}
use Rattle.sq_draft_laws.proofs.Leaving.{RowIsIn, RoundIsIn, rounds_are_in}
use Rattle.sq_draft_laws.proofs.Hoisted.{IsForm, is_form, no_body_at, params_many}

-- ---- the buffers of what leaves loops, where none leaves more than so many

-- the home of none of the parameters leaves more loops
abbrev AreWithin : List Home → ℕ → Type 0
AreWithin hs n = (i : ℕ) → loops_left (get_or hs i InPlace) ≤ n

not_left : (n m : ℕ) → n < m → (n == m) ≡ false
not_left n m l = grind (arith, nat_tests, l)

none_at : (l n : ℕ) (hs : List Home) → n < l → AreWithin hs n → held_at l hs ≡ []
none_at l n [] less h = refl
none_at l n (InPlace ∷ hs) less h = none_at l n hs less (λ i. h (suc i))
none_at l n (Own b ∷ hs) less h = none_at l n hs less (λ i. h (suc i))
none_at l n (Held b m ∷ hs) less h =
    let own = h 0 in
    ap (λ (t : Bool). if t then b ∷ held_at l hs else held_at l hs) (not_left m l (omega (arith, own, less)))
    ∙ none_at l n hs less (λ i. h (suc i))
none_at l n (Twin b c ∷ hs) less h = none_at l n hs less (λ i. h (suc i))

more : (k n : ℕ) (hs : List Home) → AreWithin hs n → held_over (n + k) 0 hs ≡ held_over n 0 hs
more zero n hs h = let z : n + 0 ≡ n = omega arith in ap (λ m. held_over m 0 hs) z
more (suc k) n hs h =
    let z : n + suc k ≡ suc (n + k) = omega arith in
    ap (λ m. held_over m 0 hs) z ∙ held_first (n + k) 0 hs
    ∙ ap (λ (l : List ℕ). l ++ held_over (n + k) 0 hs) (none_at (0 + suc (n + k)) n hs (omega arith) h)
    ∙ more k n hs h

held_same : (n m : ℕ) (hs : List Home) → AreWithin hs n → AreWithin hs m → held_over n 0 hs ≡ held_over m 0 hs
held_same n m hs g h =
    let z : n + m ≡ m + n = omega arith in
    sym (more m n hs g) ∙ ap (λ k. held_over k 0 hs) z ∙ more n m hs h

-- how many loops a home leaves at most
abbrev most_left : List Home → ℕ
most_left hs = deepest (map loops_left hs)

within_most : (hs : List Home) → AreWithin hs (most_left hs)
within_most [] i = omega arith
within_most (h ∷ hs) zero = omega arith
within_most (h ∷ hs) (suc i) = let l = within_most hs i in omega (arith, l)

none_left : (hs : List Home) → ((i : ℕ) → loops_left (get_or hs i InPlace) ≡ 0) → most_left hs ≡ 0
none_left [] h = refl
none_left (x ∷ hs) h =
    let own = h 0 in
    let rest = none_left hs (λ i. h (suc i)) in
    omega (arith, own, rest)

-- one leaves a loop, or none does
some_left : (hs : List Home) → ((i : ℕ) × (0 < loops_left (get_or hs i InPlace)))
    ⊎ ((i : ℕ) → loops_left (get_or hs i InPlace) ≡ 0)
some_left [] = inr (λ i. refl)
some_left (h ∷ hs) = by (loops_left h) refl (some_left hs)
  where
    all : loops_left h ≡ 0 → ((i : ℕ) → loops_left (get_or hs i InPlace) ≡ 0)
        → (i : ℕ) → loops_left (get_or (h ∷ hs) i InPlace) ≡ 0
    all e f zero = e
    all e f (suc i) = f i

    by : (n : ℕ) → loops_left h ≡ n
        → ((i : ℕ) × (0 < loops_left (get_or hs i InPlace))) ⊎ ((i : ℕ) → loops_left (get_or hs i InPlace) ≡ 0)
        → ((i : ℕ) × (0 < loops_left (get_or (h ∷ hs) i InPlace)))
        ⊎ ((i : ℕ) → loops_left (get_or (h ∷ hs) i InPlace) ≡ 0)
    by (suc n) e rest = inl (0, omega (arith, e))
    by zero e (inl x) = inl (suc x.0, x.1)
    by zero e (inr f) = inr (all e f)

-- ---- lists

nothing_at : {A : Type 0} (i : ℕ) (x : A) → slice_get [] i ≡ Some x → ⊥
nothing_at i x h = cc h

first_there : {A : Type 0} (xs : List A) (j : ℕ) (x : A) → slice_get xs j ≡ Some x → (y : A) × (slice_get xs 0 ≡ Some y)
first_there [] j x e = absurd (nothing_at j x e)
first_there (y ∷ xs) j x e = (y, refl)

locals_by : (shapes : List Shape) (n : ℕ)
    → local_buffers (placed_locals shapes (range_with_len n (length shapes))) ≡ range_with_len n (length shapes)
locals_by [] n = refl
locals_by (x ∷ shapes) n = ap (λ l. n ∷ l) (locals_by shapes (n + 1))

-- ---- forms

module _ (r : Resolved) (w : Walked r) (choices : List Choice) (are : MayBeChosen r choices) where
  abbrev bodies : ℕ → FormBody
  bodies = body_in (bodies_of r)

  abbrev homes : ℕ → Homes
  homes = homes_in (homes_of r choices)

  abbrev pub numbering : Numbering
  numbering = record {
    form = form_from choices 0 (bodies_of r);
    index = index_from choices 0 (bodies_of r);
    caller = λ k. caller_of (slice_get r.forms k);
    loops = λ k. most_left (homes k).params;
  }

  abbrev buffers : List Buffer
  buffers = buffers_of r choices

  module _ (k : ℕ) (b : FormBody) (f : IsForm r choices are k b) where
    abbrev c : Choice
    c = choice_in choices k

    abbrev first : ℕ
    first = first_of r choices k

    abbrev kept : ℕ
    kept = locals_count b.arrays c

    held_here : held_over (most_left (homes k).params) 0 (homes k).params ≡ range_with_len first (length (hoisted c))
    held_here =
        held_same (most_left (homes k).params) (deepest c.leaves) (homes k).params (within_most (homes k).params) (λ i.
        let l = left_within r choices k i b f.at_body in
        let m = deep c f.chosen.moved c.leaves i in
        omega (arith, l, m))
        ∙ ap (held_over (deepest c.leaves) 0) f.params ∙ held_are c f.chosen.moved first

    pub locals_are : local_buffers (locals_of (bodies k) (homes k)) ≡ range_with_len (local_base first c) kept
    locals_are =
        let n = local_base first c in
        let shapes = drop (length c.in_place) b.arrays in
        let m : kept ≡ length shapes = sym (drop_many (length c.in_place) b.arrays) in
        ap₂ (λ (x : FormBody) (l : ℕ). local_buffers (placed_locals (drop l x.arrays) (homes k).locals)) f.body
        (params_many r choices are k b f)
        ∙ ap (λ (l : List ℕ). local_buffers (placed_locals shapes l)) (f.locals ∙ ap (range_with_len n) m)
        ∙ locals_by shapes n ∙ ap (range_with_len n) (sym m)

    many_is : many choices k b ≡ length (hoisted c) + (length (others c) + (length (again c) + kept))
    many_is =
        let locals = range_with_len (length c.in_place) kept in
        let x = length-append (hoisted c) (others c ++ (again c ++ locals)) in
        let y = length-append (others c) (again c ++ locals) in
        let z = length-append (again c) locals in
        let l = length-range_with_len (length c.in_place) kept in
        omega (arith, x, y, z, l)

    own_are : own buffers bodies homes numbering k ≡ range_with_len first (many choices k b)
    own_are =
        let h = length (hoisted c) in
        let rest = length (others c) + (length (again c) + kept) in
        ap₂ (λ (xs ys : List ℕ). xs ++ ys) held_here
        (ap (λ (hs : List Home). home_buffers hs ++ (home_set 0 hs ++ (home_set 1 hs
        ++ local_buffers (locals_of (bodies k) (homes k))))) f.params
        ∙ others_are c f.chosen.moved first (local_buffers (locals_of (bodies k) (homes k))) kept locals_are)
        ∙ range_joined first h rest ∙ ap (range_with_len first) (sym many_is)

  none_own : (k : ℕ) → slice_get (bodies_of r) k ≡ None → own buffers bodies homes numbering k ≡ []
  none_own k h =
      ap₂ (λ (x : FormBody) (y : Homes). held_over (most_left y.params) 0 y.params
      ++ (home_buffers y.params ++ (home_set 0 y.params ++ (home_set 1 y.params ++ local_buffers (locals_of x y)))))
      (no_body_at r choices are k h)
      (no_homes_at r choices k h)

  places : (k i n : ℕ) → slice_get (own buffers bodies homes numbering k) i ≡ Some n
      → (numbering.form n ≡ k) × (numbering.index n ≡ i)
  places k i n e = by (slice_get (bodies_of r) k) refl
    where
      by : (o : Option FormBody) → slice_get (bodies_of r) k ≡ o → (numbering.form n ≡ k) × (numbering.index n ≡ i)
      by None h = absurd (nothing_at i n (ap (λ (l : List ℕ). slice_get l i) (sym (none_own k h)) ∙ e))
      by (Some b) h =
          let f = is_form r choices are k b h in
          let g = in_range (first_of r choices k) (many choices k b) i n
          (ap (λ (l : List ℕ). slice_get l i) (sym (own_are k b f)) ∙ e) in
          (ap numbering.form g.is ∙ f.at.form i g.less, ap numbering.index g.is ∙ f.at.index i g.less)

  callers : (k : ℕ) → 0 < k → numbering.caller k < k
  callers k h = by (slice_get r.forms k) refl
    where
      called : (f : Form) → slice_get r.forms k ≡ Some f → (o : Option Caller) → f.caller ≡ o → caller_by o < k
      called f e None g = h
      called f e (Some c) g
          = forms_callers_first r.typed.now.tasks r.mapping.now (walk r w) w.through k f c e g

      by : (o : Option Form) → slice_get r.forms k ≡ o → caller_of o < k
      by None e = h
      by (Some f) e = called f e f.caller refl

  -- ---- the rows of a call

  module _ (q : Round) (rows : EachOf (RowIsIn (left_in r choices) q) q.rows) where
    same_held : (j : ℕ) (x : CallInstance) → slice_get q.rows j ≡ Some x
        → round_held homes q ≡ held_over (numbering.loops x.form) 0 (homes x.form).params
    same_held j x e =
        let y = first_there q.rows j x e in
        ap (λ (o : Option CallInstance). held_over q.loops 0 (params_of homes o)) y.1
        ∙ by y.0 (one_of (RowIsIn (left_in r choices) q) q.rows rows 0 y.0 y.1) y.1
        (some_left (homes y.0.form).params) (some_left (homes x.form).params)
      where
        its : RowIsIn (left_in r choices) q x
        its = one_of (RowIsIn (left_in r choices) q) q.rows rows j x e

        nothing : (n : ℕ) (hs : List Home) → AreWithin hs n → ((i : ℕ) → loops_left (get_or hs i InPlace) ≡ 0)
            → held_over n 0 hs ≡ []
        nothing n hs h none = held_same n 0 hs h (λ i. let z = none i in omega (arith, z))

        by : (y : CallInstance) → RowIsIn (left_in r choices) q y → slice_get q.rows 0 ≡ Some y
            → ((i : ℕ) × (0 < loops_left (get_or (homes y.form).params i InPlace)))
            ⊎ ((i : ℕ) → loops_left (get_or (homes y.form).params i InPlace) ≡ 0)
            → ((i : ℕ) × (0 < loops_left (get_or (homes x.form).params i InPlace)))
            ⊎ ((i : ℕ) → loops_left (get_or (homes x.form).params i InPlace) ≡ 0)
            → held_over q.loops 0 (homes y.form).params
            ≡ held_over (numbering.loops x.form) 0 (homes x.form).params
        by y at_first at (inl l) o =
            held_same q.loops (most_left (homes y.form).params) (homes y.form).params at_first.round
            (within_most (homes y.form).params)
            ∙ ap (λ (f : ℕ). held_over (numbering.loops f) 0 (homes f).params) (sym (at_first.one l.0 l.1 j x e))
        by y at_first at (inr none) (inl l) =
            let is : y.form ≡ x.form = its.one l.0 l.1 0 y at in
            let z = subst (λ (f : ℕ). loops_left (get_or (homes f).params l.0 InPlace) ≡ 0) is (none l.0) in
            let m = l.1 in
            absurd (omega (arith, z, m))
        by y at_first at (inr none) (inr out) =
            nothing q.loops (homes y.form).params at_first.round none
            ∙ sym (nothing (numbering.loops x.form) (homes x.form).params (within_most (homes x.form).params) out)

  row_is : (k : ℕ) (held : List ℕ) (q : CallInstance)
      → held ≡ held_over (numbering.loops q.form) 0 (homes q.form).params → RowIs r w k q
      → IsRowOf buffers bodies homes numbering k held q
  row_is k held q same x =
      let less = forms_callers_first r.typed.now.tasks r.mapping.now (walk r w) w.through q.form x.form x.caller x.there
      x.called in
      let m = bodies_many r choices in
      let l = within_list r.forms q.form x.form x.there in
      let b = at_index (bodies_of r) q.form (omega (arith, m, l)) in
      let f = is_form r choices are q.form b.0 b.1 in
      record {
        caller_is = ap caller_of x.there ∙ ap caller_by x.called ∙ x.from;
        later = subst (λ (n : ℕ). n < q.form) x.from less;
        arguments = sym x.flags ∙ sym (are.each q.form x.form x.there).flags
            ∙ sym (params_many r choices are q.form b.0 f);
        same = same;
      }

  round_is : (k : ℕ) (q : Round) → EachOf (RowIs r w k) q.rows → RoundIsIn (left_in r choices) q
      → AreRowsOf buffers bodies homes numbering k q
  round_is k q rows in_it =
      each_of (IsRowOf buffers bodies homes numbering k (round_held homes q)) q.rows (λ j x e.
      row_is k (round_held homes q) x (same_held q in_it j x e) (one_of (RowIs r w k) q.rows rows j x e))

  pub are_numbered : AreNumbered buffers bodies homes numbering
  are_numbered = record {
    places = places;
    callers = callers;
    rows = λ k.
        let rows = rounds_so (RowIs r w k) (bodies k).body (rows_are r w k) in
        let in_it = rounds_are_in (left_in r choices) (bodies k).body (are.loops k) in
        each_of (AreRowsOf buffers bodies homes numbering k) (rounds_of (bodies k).body) (λ i q e.
        round_is k q (one_of (λ (x : Round). EachOf (RowIs r w k) x.rows) (rounds_of (bodies k).body) rows i q e)
        (one_of (RoundIsIn (left_in r choices)) (rounds_of (bodies k).body) in_it i q e));
    root = none_left (homes 0).params are.entry;
  }

pub buffers_are_numbered : BuffersAreNumbered
buffers_are_numbered r w choices are = record {
  numbering = numbering r w choices are;
  are = are_numbered r w choices are;
}
