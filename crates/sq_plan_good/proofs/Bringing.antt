-- A call brings no more than all buffers of its form.
use Rattle.std.proofs.Common.{◌≡◌, ℕ, zero, suc, ◌+◌, ◌<◌, ◌≤◌, ◌==◌, Bool, true, false, not, ◌&&◌, List, [], ◌∷◌, ◌++◌}
use Rattle.std.proofs.Common.{map, length, get_or, slice_get, drop, Option, Some, refl, sym, ap, ap₂, ◌∙◌}
use Rattle.std.proofs.Common.{arith, if◌then◌else◌}
use Rattle.std.specs.Prelude.{nat_lt, nat_le}
use Rattle.std.specs.Option.{option_map_or}
use Rattle.std.specs.List.{filter, range_with_len}
use Rattle.std.proofs.lemmas.Bool.Decides.{nat_tests}
use Rattle.sq_leaf.specs.declared.shape.Shape.{Shape}
use Rattle.sq_blocks.specs.declared.argument.Argument.{Argument}
use Rattle.sq_ir.specs.declared.plan.Buffer.{Buffer}
use Rattle.sq_ir.specs.declared.plan.PlanNode.{PlanNode}
use Rattle.sq_spec.specs.declared.body.FormBody.{FormBody}
use Rattle.sq_spec.specs.declared.statement.CallInstance.{CallInstance}
use Rattle.sq_spec.specs.declared.resolved.Resolved.{Resolved}
use Rattle.sq_nests.specs.Stacks.{total}
use Rattle.sq_nests.proofs.Chains.{total_append}
use Rattle.sq_placed.specs.declared.home.Home.{Home}
use Rattle.sq_placed.specs.declared.home.Home.TheVariants.{InPlace, Own, Held, Twin}
use Rattle.sq_placed.specs.Tables.{placed_locals, locals_of}
use Rattle.sq_placed.specs.Trees.{local_buffers}
use Rattle.sq_term.specs.Terms.{body_in, homes_in, buffer_or}
use Rattle.sq_draft_laws.specs.PlanLaws.Buffers.{home_buffer}
use Rattle.sq_draft_laws.specs.Homes.Chosen.declared.choice.Choice.{Choice}
use Rattle.sq_draft_laws.specs.Homes.Chosen.Arrays.{deepest, left_by, is_moved, hoisted_from, hoisted, others, again, locals_count}
use Rattle.sq_draft_laws.specs.Homes.Chosen.Arrays.{standing, array_size}
use Rattle.sq_draft_laws.specs.Homes.Numbering.{local_base, home_of}
use Rattle.sq_draft_laws.specs.Homes.Chosen.Forms.{bodies_of, choice_in}
use Rattle.sq_draft_laws.specs.Homes.Drafts.{homes_of, buffers_of, buffer_at}
use Rattle.sq_draft_laws.specs.Choosing.{MayBeChosen, setting_of}
use Rattle.sq_draft_laws.specs.HomesFit.{HasOwn}
use Rattle.sq_draft_laws.proofs.Forms.{map_range_at}
use Rattle.sq_draft_laws.proofs.Hoisted.{IsForm, is_form, param_or, param_past}
use Rattle.sq_draft_laws.proofs.Numbers.{first_of}
use Rattle.sq_draft_laws.proofs.ArrayPlaces.{HomeIs, stays, owns, owns_two, leaves, home_by, deep, StandsAt, param_stands}
use Rattle.sq_draft_laws.proofs.ArrayPlaces.{second_stands, local_stands}
use Rattle.sq_plan_good.specs.Sums.{either_buffer, params_from, brought}
use Rattle.sq_plan_good.specs.Room.{sizes_of, CallsBring}

within : {A : Type 0} (xs : List A) (i : ℕ) (x : A) → slice_get xs i ≡ Some x → i < length xs
within [] i x e = cc
within (y ∷ xs) zero x e = omega arith
within (y ∷ xs) (suc i) x e = let z = within xs i x e in omega (arith, z)

map_get : {A B : Type 0} (f : A → B) (xs : List A) (i : ℕ) (x : A) → slice_get xs i ≡ Some x
    → slice_get (map f xs) i ≡ Some (f x)
map_get f [] i x h = cc
map_get f (y ∷ xs) zero x h = let e : y ≡ x = cc h in ap (λ z. Some (f z)) e
map_get f (y ∷ xs) (suc i) x h = map_get f xs i x h

-- ---- sums over arrays that pass a test

module _ (b : FormBody) where
  sizes_append : (xs ys : List ℕ) → sizes_of b (xs ++ ys) ≡ sizes_of b xs + sizes_of b ys
  sizes_append [] ys = omega arith
  sizes_append (x ∷ xs) ys = let ih = sizes_append xs ys in omega (arith, ih)

  abbrev if_so : Bool → ℕ → ℕ
  if_so v n = if v then n else 0

  abbrev passing : (ℕ → Bool) → (a n : ℕ) → ℕ
  passing p a zero = 0
  passing p a (suc n) = if_so (p a) (array_size b a) + passing p (a + 1) n

  filtered : (p : ℕ → Bool) (a n : ℕ) → sizes_of b (filter p (range_with_len a n)) ≡ passing p a n
  filtered p a zero = refl
  filtered p a (suc n) = by (p a) (filtered p (a + 1) n)
    where
      by : (v : Bool) → sizes_of b (filter p (range_with_len (a + 1) n)) ≡ passing p (a + 1) n
          → sizes_of b (if v then a ∷ filter p (range_with_len (a + 1) n) else filter p (range_with_len (a + 1) n))
          ≡ if_so v (array_size b a) + passing p (a + 1) n
      by true ih = omega (arith, ih)
      by false ih = omega (arith, ih)

  passing_less : (f : ℕ → ℕ) (total_of : (a n : ℕ) → ℕ) → ((a : ℕ) → total_of a 0 ≡ 0)
      → ((a n : ℕ) → total_of a (suc n) ≡ f a + total_of (a + 1) n)
      → (p q : ℕ → Bool) → ((i : ℕ) → f i ≤ if_so (p i) (array_size b i) + if_so (q i) (array_size b i))
      → (a n : ℕ) → total_of a n ≤ passing p a n + passing q a n
  passing_less f total_of none more p q h a zero = let z = none a in omega (arith, z)
  passing_less f total_of none more p q h a (suc n) =
      let z = more a n in
      let l = h a in
      let ih = passing_less f total_of none more p q h (a + 1) n in
      omega (arith, z, l, ih)

  module _ (c : Choice) where
    -- leaves loops, so many at most
    abbrev is_deep : ℕ → ℕ → Bool
    is_deep d i = nat_lt 0 (left_by c i) && nat_le (left_by c i) d

    one_more : (d l n : ℕ) → if_so (nat_lt 0 l && nat_le l (suc d)) n
        ≤ if_so (l == suc d) n + if_so (nat_lt 0 l && nat_le l d) n
    one_more d l n = by (l == suc d) refl (nat_lt 0 l) refl (nat_le l d) refl (nat_le l (suc d)) refl
      where
        by : (s : Bool) → (l == suc d) ≡ s → (t : Bool) → nat_lt 0 l ≡ t → (u : Bool) → nat_le l d ≡ u
            → (v : Bool) → nat_le l (suc d) ≡ v
            → if_so (t && v) n ≤ if_so s n + if_so (t && u) n
        by true e t f u g v h = at_most (t && v) (if_so (t && u) n)
          where
            at_most : (w : Bool) (m : ℕ) → if_so w n ≤ n + m
            at_most true m = omega arith
            at_most false m = omega arith
        by false e false f u g v h = omega arith
        by false e true f true g true h = omega arith
        by false e true f true g false h = omega arith
        by false e true f false g false h = omega arith
        by false e true f false g true h = absurd (grind (arith, nat_tests, e, g, h))

    deep_sum : (d : ℕ) → passing (is_deep d) 0 (length c.in_place) ≤ sizes_of b (hoisted_from d c)
    deep_sum zero = none_passes 0 (length c.in_place)
      where
        not_deep : (l : ℕ) → (nat_lt 0 l && nat_le l 0) ≡ false
        not_deep zero = refl
        not_deep (suc l) = ap (λ (v : Bool). nat_lt 0 (suc l) && v) (grind (arith, nat_tests)) ∙ both (nat_lt 0 (suc l))
          where
            both : (t : Bool) → (t && false) ≡ false
            both true = refl
            both false = refl

        none_passes : (a n : ℕ) → passing (is_deep 0) a n ≤ 0
        none_passes a zero = omega arith
        none_passes a (suc n) =
            let z = ap (λ (v : Bool). if_so v (array_size b a)) (not_deep (left_by c a)) in
            let ih = none_passes (a + 1) n in
            omega (arith, z, ih)
    deep_sum (suc d) =
        let one = filtered (λ i. left_by c i == suc d) 0 (length c.in_place) in
        let ih = deep_sum d in
        let all = sizes_append (filter (λ i. left_by c i == suc d) (range_with_len 0 (length c.in_place)))
        (hoisted_from d c) in
        let both = passing_less (λ i. if_so (is_deep (suc d) i) (array_size b i)) (passing (is_deep (suc d)))
        (λ a. refl) (λ a n. refl) (λ i. left_by c i == suc d) (is_deep d)
        (λ i. one_more d (left_by c i) (array_size b i)) 0 (length c.in_place) in
        omega (arith, one, ih, all, both)

-- ---- a form

module _ (r : Resolved) (choices : List Choice) (are : MayBeChosen r choices) (nodes : List PlanNode)
    (offset : ℕ → ℕ) (k : ℕ) (b : FormBody) (there : slice_get (bodies_of r) k ≡ Some b) where
  abbrev size : ℕ → ℕ
  size = (setting_of r choices nodes offset).size

  abbrev c : Choice
  c = choice_in choices k

  abbrev first : ℕ
  first = first_of r choices k

  form : IsForm r choices are k b
  form = is_form r choices are k b there

  moved : (i : ℕ) → 0 < left_by (choice_in choices k) i → get_or (choice_in choices k).in_place i false ≡ false
  moved = form.chosen.moved

  size_at : (i n : ℕ) → StandsAt c moved b first i n → size n ≡ array_size b i
  size_at i n at =
      let less = within (standing b c) at.place i at.stands in
      let buffer : slice_get (buffers_of r choices) (first + at.place) ≡ Some (buffer_at r k b i) =
      form.at.buffers at.place less ∙ map_get (buffer_at r k b) (standing b c) at.place i at.stands in
      ap size at.number ∙ ap (λ (o : Option Buffer). option_map_or (λ (y : Buffer). y.size) o 0) buffer

  -- of a parameter
  abbrev bytes : ℕ → ℕ
  bytes i = total size (either_buffer (home_of first c i) [])

  abbrev bytes_from : (a n : ℕ) → ℕ
  bytes_from a zero = 0
  bytes_from a (suc n) = bytes a + bytes_from (a + 1) n

  either_more : (h : Home) (ms : List ℕ)
      → total size (either_buffer h ms) ≡ total size (either_buffer h []) + total size ms
  either_more InPlace ms = omega arith
  either_more (Own n) ms = omega arith
  either_more (Held n l) ms = omega arith
  either_more (Twin m n) ms = omega arith

  abbrev params : List Home
  params = map (home_of first c) (range_with_len 0 (length c.in_place))

  past_all : (i : ℕ) (args : List Argument) → length c.in_place ≤ i → total size (params_from params i args) ≡ 0
  past_all i [] l = refl
  past_all i (a ∷ args) l =
      ap (λ (h : Home). total size (either_buffer h (params_from params (suc i) args)))
      (param_past (home_of first c) 0 (length c.in_place) i l)
      ∙ past_all (suc i) args (omega (arith, l))

  params_less : (i n : ℕ) (args : List Argument) → i + n ≡ length c.in_place
      → total size (params_from params i args) ≤ bytes_from i n
  params_less i n [] e = omega arith
  params_less i zero (a ∷ args) e = let z = past_all i (a ∷ args) (omega (arith, e)) in omega (arith, z)
  params_less i (suc n) (a ∷ args) e =
      let z : 0 + i ≡ i = omega arith in
      let y : suc i ≡ i + 1 = omega arith in
      let at = ap (λ (h : Home). total size (either_buffer h (params_from params (suc i) args)))
      (param_or (home_of first c) 0 (length c.in_place) i (omega (arith, e)) ∙ ap (home_of first c) z) in
      let one = either_more (home_of first c i) (params_from params (suc i) args) in
      let rest = params_less (suc i) n args (omega (arith, e)) in
      let same = ap (λ (j : ℕ). bytes_from j n) y in
      omega (arith, at, one, rest, same)

  -- ---- each parameter by what it is

  abbrev so : Bool → ℕ → ℕ
  so v n = if v then n else 0

  abbrev bound : ℕ → ℕ
  bound i =
      so (is_deep b c (deepest c.leaves) i) (array_size b i)
      + (so (is_moved c i) (array_size b i) + so (c.overlaps && is_moved c i) (array_size b i))

  bytes_less : (i : ℕ) → i < length c.in_place → bytes i ≤ bound i
  bytes_less i less = by (home_by c moved first i) refl
    where
      a : ℕ
      a = array_size b i

      param : (n : ℕ) → home_buffer (home_of first c i) ≡ Some n → size n ≡ array_size b i
      param n e = size_at i n (param_stands c moved b first i n less e)

      by : {h : Home} → HomeIs c moved first i h → home_of first c i ≡ h → total size (either_buffer h []) ≤ bound i
      by (stays f l) e = omega arith
      by (owns f l o) e =
          let own = param _ (ap home_buffer e) in
          let m : so (is_moved c i) (array_size b i) ≡ array_size b i
          = ap₂ (λ (t : Bool) (n : ℕ). so (not t && (n == 0)) (array_size b i)) f l in
          omega (arith, own, m)
      by (owns_two f l o) e =
          let own = param _ (ap home_buffer e) in
          let two = size_at i _ (second_stands c moved b first i _ _ less e) in
          let m : so (is_moved c i) (array_size b i) ≡ array_size b i
          = ap₂ (λ (t : Bool) (n : ℕ). so (not t && (n == 0)) (array_size b i)) f l in
          let twice : so (c.overlaps && is_moved c i) (array_size b i) ≡ array_size b i
          = ap (λ (v : Bool). so (v && is_moved c i) (array_size b i)) o ∙ m in
          omega (arith, own, two, m, twice)
      by (leaves n f l) e =
          let own = param _ (ap home_buffer e) in
          let most = deep c moved c.leaves i in
          let down : so (is_deep b c (deepest c.leaves) i) (array_size b i) ≡ array_size b i
          = ap (λ (v : Bool). so v (array_size b i)) (there_too (left_by c i) (deepest c.leaves) n l most) in
          omega (arith, own, down)
        where
          there_too : (m d n : ℕ) → m ≡ suc n → m ≤ d → (nat_lt 0 m && nat_le m d) ≡ true
          there_too m d n g k =
              let p : nat_lt 0 m ≡ true = grind (arith, nat_tests, g) in
              let q : nat_le m d ≡ true = grind (arith, nat_tests, k) in
              ap₂ (λ (u v : Bool). u && v) p q

  all_less : (a n : ℕ) → a + n ≤ length c.in_place
      → bytes_from a n ≤ passing b (is_deep b c (deepest c.leaves)) a n
      + (passing b (is_moved c) a n + passing b (λ i. c.overlaps && is_moved c i) a n)
  all_less a zero l = omega arith
  all_less a (suc n) l =
      let one = bytes_less a (omega (arith, l)) in
      let ih = all_less (a + 1) n (omega (arith, l)) in
      omega (arith, one, ih)

  no_more : (a n : ℕ) → passing b (λ i. false && is_moved c i) a n ≡ 0
  no_more a zero = refl
  no_more a (suc n) = let ih = no_more (a + 1) n in omega (arith, ih)

  again_sum : passing b (λ i. c.overlaps && is_moved c i) 0 (length c.in_place) ≡ sizes_of b (again c)
  again_sum = by c.overlaps
    where
      by : (v : Bool) → passing b (λ i. v && is_moved c i) 0 (length c.in_place)
          ≡ sizes_of b (if v then others c else [])
      by true = sym (filtered b (is_moved c) 0 (length c.in_place))
      by false = no_more 0 (length c.in_place)

  locals_less : (shapes : List Shape) (base a n : ℕ)
      → ((j : ℕ) → j < n → size (base + j) ≡ array_size b (a + j))
      → total size (local_buffers (placed_locals shapes (range_with_len base n))) ≤ sizes_of b (range_with_len a n)
  locals_less [] base a n h = omega arith
  locals_less (x ∷ shapes) base a zero h = omega arith
  locals_less (x ∷ shapes) base a (suc n) h =
      let z : base + 0 ≡ base = omega arith in
      let y : a + 0 ≡ a = omega arith in
      let one : size base ≡ array_size b a = sym (ap size z) ∙ h 0 (omega arith) ∙ ap (array_size b) y in
      let rest = locals_less shapes (base + 1) (a + 1) n (λ j l.
      let u : base + 1 + j ≡ base + suc j = omega arith in
      let v : a + suc j ≡ a + 1 + j = omega arith in
      ap size u ∙ h (suc j) (omega (arith, l)) ∙ ap (array_size b) v) in
      omega (arith, one, rest)

  abbrev ends : List ℕ
  ends = local_buffers (locals_of (body_in (bodies_of r) k) (homes_in (homes_of r choices) k))

  -- parameters of no more bytes, with the locals
  whole_fits : (n : ℕ) → n ≤ bytes_from 0 (length c.in_place)
      → n + total size (local_buffers (locals_of (body_in (bodies_of r) k) (homes_in (homes_of r choices) k)))
      ≤ sizes_of b (standing b c)
  whole_fits n front =
      let h = homes_in (homes_of r choices) k in
      let all = all_less 0 (length c.in_place) (omega arith) in
      let held = deep_sum b c (deepest c.leaves) in
      let moving = filtered b (is_moved c) 0 (length c.in_place) in
      let twice = again_sum in
      let places = ap (λ (y : FormBody). total size (local_buffers (placed_locals (drop (length h.params) y.arrays)
      h.locals))) form.body
      ∙ ap (λ (bs : List ℕ). total size (local_buffers (placed_locals (drop (length h.params) b.arrays) bs)))
      form.locals in
      let back = locals_less (drop (length h.params) b.arrays) (local_base first c) (length c.in_place)
      (locals_count b.arrays c)
      (λ j l. size_at (length c.in_place + j) (local_base first c + j) (local_stands c moved b first j l)) in
      let locals = range_with_len (length c.in_place) (locals_count b.arrays c) in
      let p = sizes_append b (hoisted c) (others c ++ (again c ++ locals)) in
      let q = sizes_append b (others c) (again c ++ locals) in
      let t = sizes_append b (again c) locals in
      omega (arith, front, all, held, moving, twice, places, back, p, q, t)

  pub brought_fits : (row : CallInstance) → row.form ≡ k
      → total size (brought (body_in (bodies_of r)) (homes_in (homes_of r choices)) row) ≤ sizes_of b (standing b c)
  brought_fits row is =
      let same = ap (λ (f : ℕ). total size (params_from (homes_in (homes_of r choices) f).params 0 row.args
      ++ local_buffers (locals_of (body_in (bodies_of r) f) (homes_in (homes_of r choices) f)))) is in
      let split = total_append size (params_from (homes_in (homes_of r choices) k).params 0 row.args) ends in
      let own = ap (λ (hs : List Home). total size (params_from hs 0 row.args)) form.params in
      let z : 0 + length c.in_place ≡ length c.in_place = omega arith in
      let front = params_less 0 (length c.in_place) row.args z in
      let whole = whole_fits (total size (params_from params 0 row.args)) front in
      omega (arith, same, split, own, whole)

  -- where each parameter has a buffer of its own
  owned_less : (a n : ℕ) → ((i : ℕ) → a ≤ i → i < a + n → HasOwn (home_of first c i))
      → total size (map buffer_or (map (home_of first c) (range_with_len a n))) ≤ bytes_from a n
  owned_less a zero h = omega arith
  owned_less a (suc n) h =
      let o = h a (omega arith) (omega arith) in
      let own = ap (λ (x : Home). size (buffer_or x)) o.is in
      let all = ap (λ (x : Home). total size (either_buffer x [])) o.is in
      let rest = owned_less (a + 1) n (λ i l u. h i (omega (arith, l)) (omega (arith, u))) in
      omega (arith, own, all, rest)

  pub owned_fits : ((i : ℕ) (h : Home) → slice_get (homes_in (homes_of r choices) k).params i ≡ Some h → HasOwn h)
      → total size (map buffer_or (homes_in (homes_of r choices) k).params
      ++ local_buffers (locals_of (body_in (bodies_of r) k) (homes_in (homes_of r choices) k)))
      ≤ sizes_of b (standing b c)
  owned_fits own =
      let split = total_append size (map buffer_or (homes_in (homes_of r choices) k).params) ends in
      let same = ap (λ (hs : List Home). total size (map buffer_or hs)) form.params in
      let front = owned_less 0 (length c.in_place) (λ i l u.
      let z : 0 + i ≡ i = omega arith in
      own i (home_of first c i) (ap (λ (hs : List Home). slice_get hs i) form.params
      ∙ map_range_at (home_of first c) 0 (length c.in_place) i (omega (arith, u))
      ∙ ap (λ (j : ℕ). Some (home_of first c j)) z)) in
      let whole = whole_fits (total size (map buffer_or params)) front in
      omega (arith, split, same, whole)

pub calls_bring : CallsBring
calls_bring r choices are nodes offset row b there =
    brought_fits r choices are nodes offset row.form b there row refl
