-- No form that runs at a node ends beyond what stands there within one another in the program's draft.
use Rattle.std.proofs.Common.{◌≡◌, ◌⊎◌, inl, inr, ℕ, zero, suc, ◌+◌, ◌<◌, ◌≤◌, ◌==◌, Bool, true, false, List, []}
use Rattle.std.proofs.Common.{◌∷◌, length, get_or, slice_get, Some, refl, sym, ap, ap₂, subst, ◌∙◌}
use Rattle.std.proofs.Common.{arith, if◌then◌else◌}
use Rattle.std.specs.List.{filter, range_with_len}
use Rattle.std.proofs.lemmas.Bool.Decides.{nat_tests}
use Rattle.sq_text.specs.declared.spread.SpreadRule.{SpreadRule}
use Rattle.sq_text.specs.Spreading.{child_of, iterations_at}
use Rattle.sq_text.proofs.Spreads.{spreads}
use Rattle.sq_ir.specs.Written.{Setting}
use Rattle.sq_ir.specs.Blocks.declared.argument.Argument.{Argument}
use Rattle.sq_spec.specs.declared.body.FormBody.{FormBody}
use Rattle.sq_spec.specs.declared.statement.CallInstance.{CallInstance}
use Rattle.sq_spec_laws.specs.Needs.{turn_in}
use Rattle.sq_nests.specs.Stacks.{total}
use Rattle.sq_nests.proofs.Chains.{total_append}
use Rattle.sq_placed.specs.declared.home.Home.{Home}
use Rattle.sq_placed.specs.declared.home.Home.TheVariants.{InPlace, Own, Held, Twin}
use Rattle.sq_placed.specs.declared.home.Homes.{Homes}
use Rattle.sq_placed.specs.Tables.{row_form, locals_of}
use Rattle.sq_placed.specs.Trees.{callee_node, local_buffers}
use Rattle.sq_pass_laws.specs.Term.Terms.{row_args}
use Rattle.sq_pass_laws.specs.TermLaws.Orders.{EachOf}
use Rattle.sq_pass_laws.specs.TermLaws.Overlapping.{IsSuited}
use Rattle.sq_plan_good.specs.Homes.Begun.{Begun, child_in}
use Rattle.sq_plan_good.specs.Loops.{BegunLoop, Starts, Once, Lanes, standing, standing_from, brought_by, lane_worth}
use Rattle.sq_plan_good.specs.Loops.{starts_worth}
use Rattle.sq_plan_good.specs.Sums.{greatest, either_buffer, params_from, brought, here}
use Rattle.sq_plan_good.proofs.Turning.{Among, IsTurn}
use Rattle.sq_overlap_laws.proofs.Covered.{IsCovered, alone, lane, Covered}

some_same : {A : Type 0} (x y : A) → Some x ≡ Some y → x ≡ y
some_same x y h = cc h

-- ---- numbers

same_number : (m n : ℕ) → (m == n) ≡ true → m ≡ n
same_number m n h = grind (arith, nat_tests, h)

is_same_number : (m n : ℕ) → m ≡ n → (m == n) ≡ true
is_same_number m n h = grind (arith, nat_tests, h)

-- ---- lists

greatest_has : {A : Type 0} (f : A → ℕ) (xs : List A) (a : A) → Among a xs → f a ≤ greatest f xs
greatest_has {A = A} f xs a h = go xs h.0 h.1
  where
    go : (ys : List A) (i : ℕ) → slice_get ys i ≡ Some a → f a ≤ greatest f ys
    go [] i e = absurd (cc e)
    go (y ∷ ys) zero e = let z : y ≡ a = cc e in let g = ap f z in omega (arith, g)
    go (y ∷ ys) (suc i) e = let g = go ys i e in omega (arith, g)

range_at : (a n i : ℕ) → i < n → slice_get (range_with_len a n) i ≡ Some (a + i)
range_at a zero i h = absurd (omega (arith, h))
range_at a (suc n) zero h = let z : a ≡ a + 0 = omega arith in ap Some z
range_at a (suc n) (suc i) h =
    let z : a + 1 + i ≡ a + suc i = omega arith in range_at (a + 1) n i (omega (arith, h)) ∙ ap Some z

in_range : (n i : ℕ) → i < n → Among i (range_with_len 0 n)
in_range n i h = let z : 0 + i ≡ i = omega arith in (i, range_at 0 n i h ∙ ap Some z)

some_kept : (p : ℕ → Bool) (xs : List ℕ) (t : ℕ) → Among t xs → p t ≡ true → 0 < length (filter p xs)
some_kept p xs t h g = go xs h.0 h.1
  where
    go : (ys : List ℕ) (i : ℕ) → slice_get ys i ≡ Some t → 0 < length (filter p ys)
    go [] i e = absurd (cc e)
    go (y ∷ ys) zero e =
        let z : y ≡ t = cc e in
        let keep : p y ≡ true = ap p z ∙ g in
        subst (λ (v : Bool). 0 < length (if v then y ∷ filter p ys else filter p ys)) (sym keep) (omega arith)
    go (y ∷ ys) (suc i) e = by (p y) (go ys i e)
      where
        by : (v : Bool) → 0 < length (filter p ys) → 0 < length (if v then y ∷ filter p ys else filter p ys)
        by true h = omega arith
        by false h = h

-- ---- what calls bring

suited_at : (o : Bool) (hs : List Home) → EachOf (IsSuited o) hs → (i : ℕ) → IsSuited o (get_or hs i InPlace)
suited_at o [] h i = tt
suited_at o (x ∷ hs) h zero = h.0
suited_at o (x ∷ hs) h (suc i) = suited_at o hs h.1 i

module _ (size : ℕ → ℕ) (o : Bool) where
  one_same : (h : Home) → IsSuited o h → (xs ys : List ℕ) → total size xs ≡ total size ys
      → total size (either_buffer h xs) ≡ total size (standing o h ys)
  one_same h suited xs ys e = by o h suited
    where
      by : (v : Bool) (g : Home) → IsSuited v g → total size (either_buffer g xs) ≡ total size (standing v g ys)
      by v InPlace suits = e
      by true (Own n) suits = absurd (let z : ◌≡◌ {A = Bool} true false = suits in cc z)
      by false (Own n) suits = omega (arith, e)
      by v (Held n l) suits = omega (arith, e)
      by true (Twin m n) suits = omega (arith, e)
      by false (Twin m n) suits = absurd (let z : ◌≡◌ {A = Bool} false true = suits in cc z)

  params_same : (hs : List Home) → EachOf (IsSuited o) hs → (i : ℕ) (xs ys : List Argument) → length xs ≡ length ys
      → total size (params_from hs i xs) ≡ total size (standing_from o hs i ys)
  params_same hs suited i [] [] e = refl
  params_same hs suited i [] (y ∷ ys) e = absurd (omega (arith, e))
  params_same hs suited i (x ∷ xs) [] e = absurd (omega (arith, e))
  params_same hs suited i (x ∷ xs) (y ∷ ys) e =
      one_same (get_or hs i InPlace) (suited_at o hs suited i) (params_from hs (suc i) xs)
      (standing_from o hs (suc i) ys) (params_same hs suited (suc i) xs ys (omega (arith, e)))

  brought_same : (bodies : ℕ → FormBody) (homes : ℕ → Homes) (form : ℕ) (args : List Argument) (row : CallInstance)
      → EachOf (IsSuited o) (homes row.form).params → row.form ≡ form → length row.args ≡ length args
      → total size (brought bodies homes row) ≡ total size (brought_by bodies homes o form args)
  brought_same bodies homes form args row suited is many =
      let ends : ℕ → List ℕ = λ f. local_buffers (locals_of (bodies f) (homes f)) in
      let same = ap (λ (f : ℕ). total size (brought_by bodies homes o f args)) is in
      let p = total_append size (standing_from o (homes row.form).params 0 args) (ends row.form) in
      let q = total_append size (params_from (homes row.form).params 0 row.args) (ends row.form) in
      let l = params_same (homes row.form).params suited 0 row.args args many in
      omega (arith, same, p, q, l)

-- ---- what is begun weighs as much as each of its calls

module _ (s : Setting) (bodies : ℕ → FormBody) (homes : ℕ → Homes) (x : ℕ)
    (suits : (f : ℕ) → EachOf (IsSuited (homes f).overlaps) (homes f).params) (inside : ℕ → ℕ → ℕ) (rule : SpreadRule)
    (y : ℕ) where
  abbrev goes_to : Begun → ℕ
  goes_to d = callee_node s d.lower y (child_in rule (s.children y) d.turn)

  abbrev weight : Begun → ℕ
  weight d = here (goes_to d) x (total s.size (brought bodies homes d.row)) + inside d.row.form (goes_to d)

  suits_as : (f : ℕ) (o : Bool) → (homes f).overlaps ≡ o → EachOf (IsSuited o) (homes f).params
  suits_as f o e = subst (λ (v : Bool). EachOf (IsSuited v) (homes f).params) e (suits f)

  once_weighs : (d : Begun) → (homes d.row.form).overlaps ≡ false
      → weight d ≡ starts_worth s bodies homes x inside rule y (Once d)
  once_weighs d e =
      ap (λ (n : ℕ). here (goes_to d) x n + inside d.row.form (goes_to d))
      (brought_same s.size false bodies homes d.row.form d.row.args d.row (suits_as d.row.form false e) refl refl)

  -- some iterations at the node to which one of them goes
  lane_weighs : (l : BegunLoop) (t node many : ℕ) (d : Begun) → IsTurn l t d → (homes d.row.form).overlaps ≡ true
      → goes_to d ≡ node → 0 < many → weight d ≡ lane_worth s bodies homes x inside l.row node many
  lane_weighs l t node zero d its e at some = absurd (omega (arith, some))
  lane_weighs l t node (suc n) d its e at some =
      ap₂ (λ (m b : ℕ). here m x b + inside d.row.form m) at
      (brought_same s.size true bodies homes (row_form l.row) (row_args l.row) d.row (suits_as d.row.form true e) its.form
      its.many)
      ∙ ap (λ (f : ℕ). here node x (total s.size (brought_by bodies homes true (row_form l.row) (row_args l.row)))
      + inside f node) its.form

  turn_goes : (l : BegunLoop) (t c : ℕ) (d : Begun) → IsTurn l t d
      → child_in rule (s.children y) (turn_in l.spread l.turn l.count t) ≡ c → goes_to d ≡ callee_node s true y c
  turn_goes l t c d its at =
      ap₂ (λ (o : Bool) (n : ℕ). callee_node s o y n) its.lower (ap (child_in rule (s.children y)) its.turn ∙ at)

  loop_weighs : (l : BegunLoop) (t : ℕ) (d : Begun) → t < l.count → IsTurn l t d → (homes d.row.form).overlaps ≡ true
      → 0 < s.children y → weight d ≤ starts_worth s bodies homes x inside rule y (Lanes l)
  loop_weighs l t d less its e some = by l.spread refl
    where
      lanes : ℕ → ℕ
      lanes c = lane_worth s bodies homes x inside l.row (s.child y c) (length (iterations_at rule l.count (s.children y) c))

      spread_to : l.spread ≡ true
          → weight d ≤ greatest (λ c. lane_worth s bodies homes x inside l.row (s.child y c)
          (length (iterations_at rule l.count (s.children y) c))) (range_with_len 0 (s.children y))
      spread_to v =
          let c = child_of rule l.count (s.children y) t in
          let few = (spreads rule l.count (s.children y) some).below t less in
          let many = some_kept (λ u. child_of rule l.count (s.children y) u == c) (range_with_len 0 l.count) t
          (in_range l.count t less) (is_same_number c c refl) in
          let goes = turn_goes l t c d its (ap (λ (o : Bool). child_in rule (s.children y) (turn_in o l.turn l.count t)) v) in
          let same = lane_weighs l t (s.child y c) (length (iterations_at rule l.count (s.children y) c)) d its e goes many in
          let has = greatest_has (λ c. lane_worth s bodies homes x inside l.row (s.child y c)
          (length (iterations_at rule l.count (s.children y) c))) (range_with_len 0 (s.children y)) c
          (in_range (s.children y) c few) in
          omega (arith, same, has)

      by : (v : Bool) → l.spread ≡ v
          → weight d ≤ (if v
          then greatest (λ c. lane_worth s bodies homes x inside l.row (s.child y c)
          (length (iterations_at rule l.count (s.children y) c))) (range_with_len 0 (s.children y))
          else lane_worth s bodies homes x inside l.row
          (callee_node s true y (child_in rule (s.children y) l.turn)) l.count)
      by true v = spread_to v
      by false v =
          let goes = turn_goes l t (child_in rule (s.children y) l.turn) d its
          (ap (λ (o : Bool). child_in rule (s.children y) (turn_in o l.turn l.count t)) v) in
          let same = lane_weighs l t (callee_node s true y (child_in rule (s.children y) l.turn)) l.count d its e goes
          (omega (arith, less)) in
          omega (arith, same)

  pub call_weighs : (d : Begun) (zs : List Starts) → Covered homes d zs → 0 < s.children y ⊎ (d.lower ≡ false)
      → here (callee_node s d.lower y (child_in rule (s.children y) d.turn)) x (total s.size (brought bodies homes d.row))
      + inside d.row.form (callee_node s d.lower y (child_in rule (s.children y) d.turn))
      ≤ greatest (starts_worth s bodies homes x inside rule y) zs
  call_weighs d zs h some =
      let has = greatest_has (starts_worth s bodies homes x inside rule y) zs h.0 h.1 in
      let own = by h.0 h.2 some in
      omega (arith, has, own)
    where
      by : (z : Starts) → IsCovered homes d z → 0 < s.children y ⊎ (d.lower ≡ false)
          → weight d ≤ starts_worth s bodies homes x inside rule y z
      by z (alone e) g = let same = once_weighs d e in omega (arith, same)
      by z (lane {l} t less its e) (inl g) = loop_weighs l t d less its e g
      by z (lane {l} t less its e) (inr g) = absurd (let no : true ≡ false = sym its.lower ∙ g in cc no)
