-- An argument leaves as many loops as it may.
use Rattle.std.proofs.Common.{◌≡◌, ℕ, zero, suc, ◌+◌, ◌<◌, ◌≤◌, Bool, true, false, List, [], ◌∷◌}
use Rattle.std.proofs.Common.{length, get_or, slice_get, Option, Some, None, refl, sym, ◌∙◌, ap, subst, arith}
use Rattle.std.proofs.Common.{nat_le}
use Rattle.std.proofs.lemmas.Bool.Decides.{nat_tests}
use Rattle.sq_forms.specs.declared.form.Form.{Form}
use Rattle.sq_form_laws.proofs.RanHold.{as_many_forms}
use Rattle.sq_spec.specs.declared.statement.CallInstance.{CallInstance}
use Rattle.sq_spec.specs.declared.statement.Statement.{Statement}
use Rattle.sq_spec.specs.declared.body.Body.TheVariants as body
use Rattle.sq_spec.specs.declared.body.FormBody.{FormBody}
use Rattle.sq_spec.specs.declared.resolved.Resolved.{Resolved}
use Rattle.sq_spec.specs.Bodies.{no_body}
use Rattle.sq_spec_laws.specs.TableRows.{Table, tables_in}
use Rattle.sq_draft_laws.specs.TermLaws.Orders.{EachOf}
use Rattle.sq_draft_laws.specs.Choosing.{Walked}
use Rattle.sq_draft_laws.proofs.Hoisting.{no_item}
use Rattle.sq_draft_laws.proofs.Programs.{bodies_are_tables}
use Rattle.sq_draft_laws.proofs.ProgramLaws.Loops.{each_at, each_from}
use Rattle.sq_draft_laws.specs.Homes.Chosen.declared.choice.Choice.{Choice}
use Rattle.sq_draft_laws.specs.Homes.Chosen.Arrays.{left_by}
use Rattle.sq_draft_laws.specs.Homes.Chosen.Forms.{bodies_of}
use Rattle.sq_pipe.specs.Hoist.Loops.{Nest, sites}
use Rattle.sq_pipe.specs.Hoist.Choices.{sites_of, find_leaves, leaves_or}
use Rattle.sq_pass_laws.proofs.Nests.{nest_of, Follows}
use Rattle.sq_pass_laws.proofs.HoistLists.{each_two}
use Rattle.sq_pass_laws.proofs.Staying.{words}
use Rattle.sq_pass_laws.proofs.Alone.{is_alone}
use Rattle.sq_pass_laws.proofs.Sites.{Leaves, AreLocal}
use Rattle.sq_pass_laws.proofs.Holding.{TablesSo}
use Rattle.sq_pass_laws.proofs.Chosen.{chosen}
use Rattle.sq_pass_laws.proofs.Tables.{caller_of, number_of, RowIs, ListIs, BodyIs}
use Rattle.sq_pass_laws.proofs.HoistPrograms.{look, bodies, body_at, its, list_numbered, all_own, choice_is}
use Rattle.sq_pass_laws.proofs.HoistPrograms.{no_choice_is}
use Rattle.sq_choice_laws.specs.Leaving.{StandsIn, MayLeave, MayLeaveIn, left_of, HoistedIsOutermost}
use Rattle.sq_choice_laws.proofs.Clears.{IsProper}
use Rattle.sq_choice_laws.proofs.Stays.{IsRow}
use Rattle.sq_choice_laws.proofs.Reached.{HasReached, BodyReached, AllReached, BodyProper, Proper, bodies_proper}
use Rattle.sq_choice_laws.proofs.Reached.{bodies_reached}
use Rattle.sq_choice_laws.proofs.Wholes.{is_whole, nest_there, leaves_all, may_some}
use Rattle.sq_choice_laws.proofs.Inside.{nothing_in, stands_inside}
use Rattle.sq_choice_laws.proofs.Descends.{AreRows, AllRows, AllKnown, local_list, facts_of, known_inside}
use Rattle.sq_choice_laws.proofs.Locals.{form_local}
use Rattle.sq_choice_laws.proofs.Founds.{Found, forms_found}

-- where arguments of a call leave as many loops as all that stand round it, they leave as many or more in the whole
at_least : (left : ℕ → ℕ) (n : Nest) → Follows left n → (i : ℕ) → get_or n.leaves i 0 ≡ length n.loops
    → length n.loops ≤ left i
at_least left n h i all = by (nat_le (length n.loops) (left i)) refl
  where
    by : (t : Bool) → nat_le (length n.loops) (left i) ≡ t → length n.loops ≤ left i
    by true e = grind (arith, nat_tests)
    by false e =
        let few : suc (left i) ≤ length n.loops = grind (arith, nat_tests) in
        let l = h.low i (omega (arith, few)) in
        absurd (omega (arith, l, all, few))

first_real : (Real : CallInstance → Type 0) (form : ℕ) (rows : List CallInstance) → 0 < length rows
    → EachOf (λ (q : CallInstance). q.form ≡ form) rows → EachOf Real rows
    → (q : CallInstance) × (q.form ≡ form) × Real q
first_real Real form [] some_ same real = absurd (omega (arith, some_))
first_real Real form (q ∷ rows) some_ same real = (q, same.0, real.0)

none_at : (i : ℕ) → ◌≡◌ {A = ℕ} (get_or [] i 0) 0
none_at zero = refl
none_at (suc i) = refl

module _ (r : Resolved) (w : Walked r) where
  abbrev number : ℕ → ℕ
  number = number_of r w

  abbrev its_look : ℕ → Leaves
  its_look = look r w

  record IsReal (q : CallInstance) : Type 0 where
    form : Form
    there : slice_get r.forms q.form ≡ Some form
    not_entry : q.form ≡ 0 → ⊥

  abbrev Real : CallInstance → Type 0
  Real = IsReal

  abbrev KnownIn : (k : ℕ) → List Statement → Type 0
  KnownIn k = AllKnown number its_look k Real

  -- ---- the statements of a form

  all_rows : (k : ℕ) (list : List Statement) → ListIs r w k list → Proper (tables_in list None)
      → AllReached r (tables_in list None) → AllRows number its_look k Real (tables_in list None)
  all_rows k list h proper reached =
      each_from (λ (t : Table). AreRows number its_look k Real t.times) (tables_in list None) (λ i t g.
      let alike = (h.tables i t g).alike in record {
        those = alike.those;
        each = each_two (λ (q : CallInstance). words q ≡ alike.those) IsProper (IsRow alike.those) t.times
            (λ q a p. record { alike = a; proper = p }) alike.each
            (each_at (λ (t : Table). EachOf IsProper t.times) (tables_in list None) i t proper g);
        real = each_two (RowIs r w k i t.lower) (HasReached r) Real t.times
            (λ q row h. record { form = h.form; there = h.there; not_entry = row.not_entry }) (h.tables i t g).rows
            (each_at (λ (t : Table). EachOf (HasReached r) t.times) (tables_in list None) i t reached g);
      })

  -- of a form's body
  pub record FormFacts (k : ℕ) (list : List Statement) : Type 0 where
    pub tables : ListIs r w k list
    pub proper : Proper (tables_in list None)
    pub reached : AllReached r (tables_in list None)
    pub local : AreLocal its_look (sites k list) (tables_in list None)

  pub form_facts : (k : ℕ) (b : FormBody) (list : List Statement) → slice_get (bodies_of r) k ≡ Some b
      → b.body ≡ body.Inner list → FormFacts k list
  form_facts k b list there is =
      let whole : (bodies r w k).body ≡ body.Inner list = ap (λ (x : FormBody). x.body) (body_at r w k b there) ∙ is in
      let z : 0 + k ≡ k = omega arith in
      let local = form_local (caller_of r w) its_look 0 (bodies_of r) (all_own r w) k b list there is
      (each_from (λ (t : Table). EachOf (λ (q : CallInstance). its_look q.form ≡ find_leaves (sites_of r) q.form) t.times)
      (tables_in list None) (λ i t g. each_from
      (λ (q : CallInstance). its_look q.form ≡ find_leaves (sites_of r) q.form) t.times (λ j q d. refl))) in record {
        tables = subst (BodyIs r w k) whole (its r w k);
        proper = subst BodyProper whole (bodies_proper r w k);
        reached = subst (BodyReached r) whole (bodies_reached r w k);
        local = subst (λ n. AreLocal its_look (sites n list) (tables_in list None)) z local;
      }

  form_known : (k : ℕ) (b : FormBody) (list : List Statement) → slice_get (bodies_of r) k ≡ Some b
      → b.body ≡ body.Inner list → KnownIn k list
  form_known k b list there is =
      let f = form_facts k b list there is in
      local_list None 0 1 (list_numbered r w k list f.tables) (all_rows k list f.tables f.proper f.reached)
      f.tables.begun f.local

  list_known : (k : ℕ) (list : List Statement) → (bodies r w k).body ≡ body.Inner list → (x : Statement)
      → StandsIn x list → KnownIn k list
  list_known k list is x stands = by (slice_get (bodies_of r) k) refl
    where
      by : (o : Option FormBody) → slice_get (bodies_of r) k ≡ o → KnownIn k list
      by (Some b) there =
          form_known k b list there (ap (λ (x : FormBody). x.body) (sym (body_at r w k b there)) ∙ is)
      by None e =
          let none : body.Inner [] ≡ body.Inner list =
          ap (λ (x : FormBody). x.body) (sym (no_item (bodies_of r) k no_body e) ∙ bodies_are_tables as_many_forms r k)
          ∙ is in
          absurd (nothing_in stands (let e = sym none in cc e))

  -- ---- what is chosen

  pub left_is : (f i : ℕ) (g : Form) → slice_get r.forms f ≡ Some g → left_of r f i ≡ chosen its_look f i
  left_is f i g e = ap (λ (c : Choice). left_by c i) (choice_is r w f g e)

  left_none : (f i : ℕ) → slice_get r.forms f ≡ None → left_of r f i ≡ 0
  left_none f i e = ap (λ (c : Choice). left_by c i) (no_choice_is r w f e) ∙ none_at i

  -- a row of a call in plain loops
  real_row : (k : ℕ) (list : List Statement) → (bodies r w k).body ≡ body.Inner list → (x : Statement)
      → StandsIn x list → (n : Nest) → nest_of k x ≡ Some n → (q : CallInstance) × (q.form ≡ n.form) × Real q
  real_row k list is x stands n e =
      let known = known_inside number its_look k Real stands (list_known k list is x stands) in
      let facts = facts_of number its_look k Real x known n e in
      let a = is_alone k x n e in
      first_real Real n.form a.rows a.some a.form (subst (TablesSo Real) (a.table None).1 (facts.real None)).0

  calls_none : (k : ℕ) (list : List Statement) → (bodies r w k).body ≡ body.Inner list → (x : Statement)
      → StandsIn x list → (n : Nest) → nest_of k x ≡ Some n → n.form ≡ 0 → ⊥
  calls_none k list is x stands n e none =
      let q = real_row k list is x stands n e in absurd (q.2.not_entry (q.1 ∙ none))

  most : (f i m : ℕ) → MayLeaveIn r f i m → m ≤ left_of r f i
  most f i m h =
      let k = h.caller in
      let n = nest_there k f i h.leaves in
      let known = known_inside number its_look k Real h.stands (list_known k h.list h.is h.loop h.stands) in
      let facts = facts_of number its_look k Real h.loop known n.nest n.is in
      let all = leaves_all k f i facts.those h.leaves facts.rows facts.many facts.begun in
      let least = at_least (chosen its_look n.nest.form) n.nest facts.follows i all.all in
      let q = real_row k h.list h.is h.loop h.stands n.nest n.is in
      let real = q.2 in
      let e = left_is q.0.form i real.form real.there in
      let here : left_of r f i ≡ chosen its_look f i =
      subst (λ g. left_of r g i ≡ chosen its_look g i) (q.1 ∙ n.form) e in
      let to : length n.nest.loops ≤ chosen its_look f i = subst (λ g. length n.nest.loops ≤ chosen its_look g i) n.form
      least in
      let loops = n.loops in
      omega (arith, loops, to, here)

  found_leaves : (f i : ℕ) (ls : List ℕ) → its_look f ≡ Some ls → 0 < get_or ls i 0 → MayLeaveIn r f i (get_or ls i 0)
  found_leaves f i ls e some_ =
      let h = forms_found f ls 0 (bodies_of r) e in
      let z : 0 + h.index ≡ h.index = omega arith in
      let k = h.index in
      let found = subst (λ j. Found f ls j h.list) z h.found in
      let known = known_inside number its_look k Real found.stands (form_known k h.form_body h.list h.there h.inner) in
      let facts = facts_of number its_look k Real found.loop known found.nest found.is in
      let same : get_or found.nest.leaves i 0 ≡ get_or ls i 0 = ap (λ (l : List ℕ). get_or l i 0) found.leaves in
      let most = may_some k i facts.those (is_whole k found.loop found.nest found.is) facts.rows facts.many facts.begun
      (subst (λ m. 0 < m) (sym same) some_) in record {
        caller = k;
        list = h.list;
        is = ap (λ (x : FormBody). x.body) (body_at r w k h.form_body h.there) ∙ h.inner;
        loop = most.loop;
        stands = stands_inside {x = most.loop} most.stands found.stands;
        leaves = subst (λ m. MayLeave f i m most.loop) same
            (subst (λ g. MayLeave g i (get_or found.nest.leaves i 0) most.loop) found.form most.leaves);
      }

  holds : (f i : ℕ) → 0 < left_of r f i → MayLeaveIn r f i (left_of r f i)
  holds f i some_ = by (slice_get r.forms f) refl
    where
      by_look : (o : Leaves) → its_look f ≡ o → left_of r f i ≡ get_or (leaves_or o) i 0
          → MayLeaveIn r f i (left_of r f i)
      by_look None e is = let z = none_at i in absurd (omega (arith, some_, is, z))
      by_look (Some ls) e is =
          subst (MayLeaveIn r f i) (sym is) (found_leaves f i ls e (subst (λ m. 0 < m) is some_))

      by : (o : Option Form) → slice_get r.forms f ≡ o → MayLeaveIn r f i (left_of r f i)
      by None e = let z = left_none f i e in absurd (omega (arith, some_, z))
      by (Some g) e = by_look (its_look f) refl (left_is f i g e)

  -- the entry's arguments leave nothing, since no call reaches it
  pub entry_leaves : (i : ℕ) → left_of r 0 i ≡ 0
  entry_leaves i = entry_stays_by (left_of r 0 i) refl
    where
      none_by : (h : MayLeaveIn r 0 i (left_of r 0 i)) → ⊥
      none_by h =
          let k = h.caller in
          let n = nest_there k 0 i h.leaves in
          absurd (calls_none k h.list h.is h.loop h.stands n.nest n.is n.form)

      entry_stays_by : (m : ℕ) → left_of r 0 i ≡ m → m ≡ 0
      entry_stays_by zero e = refl
      entry_stays_by (suc m) e = absurd (none_by (holds 0 i (omega (arith, e))))

pub hoisted_is_outermost : HoistedIsOutermost
hoisted_is_outermost r w f i = record { holds = holds r w f i; most = most r w f i }
