-- The ways that are term_layout of a part lead to its scopes: at each node, what is reached is worth what comes up
-- there.
use Rattle.std.proofs.Common.{◌≡◌, ℕ, zero, suc, ◌+◌, ◌≤◌, max, Bool, true, false, List, [], ◌∷◌, ◌++◌, map, length}
use Rattle.std.proofs.Common.{Option, Some, None, ℤ, pos, negsuc, refl, sym, ap, ap₂, ◌∙◌, subst, arith}
use Rattle.std.specs.Prelude.{◌==◌, ◌||◌, ◌&&◌, not, nat_lt, slice_get, if◌then◌else◌}
use Rattle.std.proofs.lemmas.Bool.{lt-ltb, ltb-true}
use Rattle.std.proofs.Common.{length-append, append_assoc}
use Rattle.sq_ir.specs.declared.num.Num.{Num}
use Rattle.sq_ir.specs.declared.term.Term.{Term, roll-Term}
use Rattle.sq_ir.specs.declared.term.Term.TheVariants as t
use Rattle.sq_ir.specs.declared.term.Term.TheOpen.{Term-F}
use Rattle.sq_ir.specs.declared.term.Term.TheFolds.{ind-Term, map-Term}
use Rattle.sq_ir.specs.declared.plan.PlanNode.{PlanNode}
use Rattle.sq_term_nums.specs.Words.{nat_part, value, count}
use Rattle.sq_nests.specs.Nests.{Nest, End, Both, Open}
use Rattle.sq_nests.specs.Stacks.{capped}
use Rattle.sq_sums.specs.declared.region.Region.{Region}
use Rattle.sq_sums.specs.declared.route.Route.{Route}
use Rattle.sq_sums.specs.declared.route.Route.TheVariants as r
use Rattle.sq_sums.specs.Parts.{all_parts, each_turn, arm_of, arm_at, greatest}
use Rattle.sq_sums.specs.Tops.{Stand, TopsAt, at_turn, with_more, open_scope, env_at, child_at, at_child, scope_tops}
use Rattle.sq_sums.specs.Tops.{tops, highest, held_at, has_scope}
use Rattle.sq_sums.specs.Regions.{join, join_all, case_region, loop_region, scope_region, is_closed, names_children}
use Rattle.sq_sums.specs.Regions.{names_no_loop_outside, region_of}
use Rattle.sq_sums.specs.Sites.{Site}
use Rattle.sq_sums.specs.Routes.{Layout, layout, no_layout, list_layout, loop_layout, own_layout, joint_layout}
use Rattle.sq_sums.specs.Routes.{scope_layout, within_layout, top_of, into, scope_and, all_sites, all_routes, Position}
use Rattle.sq_sums.specs.Routes.{Arrival, Arrivals, ArrivalsAt, next_position, env_on_way, to_child, scope_arrivals}
use Rattle.sq_sums.specs.Routes.{arrivals}
use Rattle.sq_sums.specs.Sums.{node_by, fan_at}
use Rattle.sq_sums.proofs.TopForms.{top_skip, top_act, top_seq, top_par, top_loop, top_spread, top_case, top_within}
use Rattle.sq_sums.proofs.RegionForms.{region_skip, region_act, region_seq, region_par, region_loop, region_spread}
use Rattle.sq_sums.proofs.RegionForms.{region_case, region_within}
use Rattle.sq_sums.proofs.LayoutForms.{layout_skip, layout_act, layout_seq, layout_par, layout_loop, layout_spread}
use Rattle.sq_sums.proofs.LayoutForms.{layout_case, layout_within}
use Rattle.sq_sums.proofs.RouteForms.{route_nothing, route_parts, route_each, route_arm, route_scope, route_inside}
use Rattle.sq_sums.proofs.Closed.{value_apart, closed_steady}
use Rattle.sq_sums.proofs.Flats.{IsFlat, flat_turns, are_flat}

-- ---- small things

and_left : (u v : Bool) → (u && v) ≡ true → u ≡ true
and_left true v h = refl
and_left false v h = absurd (let z = h in cc)

and_right : (u v : Bool) → (u && v) ≡ true → v ≡ true
and_right true v h = h
and_right false v h = absurd (let z = h in cc)

not_true : (u : Bool) → not u ≡ true → u ≡ false
not_true true h = absurd (let z = h in cc)
not_true false h = refl

or_other : (u v : Bool) → u ≡ false → (u || v) ≡ true → v ≡ true
or_other true v e h = absurd (let z = e in cc)
or_other false v e h = h

pub if_is : {X : Type 0} (v : Bool) (a b : X) → v ≡ true → (if v then a else b) ≡ a
if_is true a b e = refl
if_is false a b e = absurd (let z = e in cc)

pub if_not : {X : Type 0} (v : Bool) (a b : X) → v ≡ false → (if v then a else b) ≡ b
if_not false a b e = refl
if_not true a b e = absurd (let z = e in cc)

flat_none : {S : Type 0} (f : S → ℕ) (x : Nest S) → IsFlat x → greatest f x ≡ 0
flat_none f End h = refl
flat_none f (Both a b) h = let p = flat_none f a h.0 in let q = flat_none f b h.1 in omega (arith, p, q)
flat_none f (Open s a) h = absurd h

here_in : {X : Type 0} (before : List X) (x : X) (later : List X) → slice_get (before ++ (x ∷ later)) (length before)
    ≡ Some x
here_in [] x later = refl
here_in (y ∷ before) x later = here_in before x later

first_only : (a b : ℕ) → a ≡ b → max a 0 ≡ b
first_only a b e = omega (arith, e)

-- ---- what is reached is worth

module _ (ns : List PlanNode) (w : List ℕ → ℕ) (m : ℕ) where
  -- in a scope's body
  abbrev pub inner_worth : Site → ℕ → ℕ
  inner_worth s n = if s.own then highest m (tops ns w s.body (record { turns = []; node = n; held = s.top })) else 0

  abbrev pub worth_of : Option Site → ℕ → ℕ
  worth_of None n = 0
  worth_of (Some s) n = max (if n == m then s.top else 0) (inner_worth s n)

  module _ (n : ℕ) where
    abbrev fan : ℕ
    fan = fan_at ns n

    -- of a scope among these to which a way of the node leads
    abbrev pub arrival_worth : List Site → Arrival → ℕ
    arrival_worth sites a = if nat_lt a.way (suc fan) then worth_of (slice_get sites a.number) (node_by ns n a.way) else
        0

    -- where a part stands
    abbrev stand : Position → ℕ → Stand
    stand g h = record { turns = g.turns; node = node_by ns n g.way; held = h }

    abbrev Fits : ℕ → Region → Type 0
    Fits zero q = q.routed ≡ true
    Fits (suc c) q = q.stays ≡ true

    abbrev Leads : Layout → TopsAt → Region → Type 0
    Leads b f q = (h first : ℕ) (g : Position) (before later : List Site) → first ≡ length before → Fits g.way q → g.way
        ≤ fan
        → greatest (arrival_worth (before ++ (b.sites h ++ later))) (arrivals fan (b.route h first) g)
        ≡ highest m (f (stand g h))

    abbrev LeadAll : List Layout → List TopsAt → List Region → Type 0
    LeadAll bs fs qs = (h first : ℕ) (g : Position) (before later : List Site) → first ≡ length before
        → Fits g.way (join_all qs) → g.way ≤ fan
        → greatest (arrival_worth (before ++ (all_sites bs h ++ later)))
        (all_parts (map (arrivals fan) (all_routes bs h first)) g) ≡ highest m (all_parts fs (stand g h))

    fits_left : (way : ℕ) (a b : Region) → Fits way (join a b) → Fits way a
    fits_left zero a b h = and_left a.routed b.routed h
    fits_left (suc c) a b h = and_left a.stays b.stays h

    fits_right : (way : ℕ) (a b : Region) → Fits way (join a b) → Fits way b
    fits_right zero a b h = and_right a.routed b.routed h
    fits_right (suc c) a b h = and_right a.stays b.stays h

    fits_picked : (way : ℕ) (k : Num) (a : Region) → Fits way (case_region k a) → Fits way a
    fits_picked zero k a h = h
    fits_picked (suc c) k a h = and_right (not (names_children k)) a.stays h

    fits_turned : (way : ℕ) (k : Num) (a : Region) → Fits way (loop_region k a) → Fits way a
    fits_turned zero k a h = h
    fits_turned (suc c) k a h = and_right (not (names_children k)) a.stays h

    -- numbers at the node in force are those with the part's number of children
    number_here : (k : Num) (l : ℕ) (s v : Bool) (g : Position) (h : ℕ)
        → Fits g.way (record { loops = l; stays = not (names_children k) && s; routed = v })
        → value k (env_on_way fan g) ≡ value k (env_at ns (stand g h))
    number_here k l s v g h z = by g.way z
      where
        by : (way : ℕ) → Fits way (record { loops = l; stays = not (names_children k) && s; routed = v })
            → value k (record { turns = g.turns; children = fan })
            ≡ value k (record { turns = g.turns; children = fan_at ns (node_by ns n way) })
        by zero e = refl
        by (suc c) e = value_apart g.turns fan (fan_at ns (child_at ns n c)) k
            (not_true (names_children k) (and_left (not (names_children k)) s e))

    -- one more part in front
    sites_after : (before a b later : List Site) → before ++ ((a ++ b) ++ later) ≡ (before ++ a) ++ (b ++ later)
    sites_after before a b later = ap (λ z. before ++ z) (append_assoc a b later)
        ∙ sym (append_assoc before a (b ++ later))

    lead_next : (b : Layout) (f : TopsAt) (q : Region) (bs : List Layout) (fs : List TopsAt) (qs : List Region)
        → Leads b f q → LeadAll bs fs qs → LeadAll (b ∷ bs) (f ∷ fs) (q ∷ qs)
    lead_next b f q bs fs qs one all h first g before later e z l =
        let a = b.sites h in
        ap₂ max
        (ap (λ s. greatest (arrival_worth (before ++ s)) (arrivals fan (b.route h first) g))
        (append_assoc a (all_sites bs h) later)
        ∙ one h first g before (all_sites bs h ++ later) e (fits_left g.way q (join_all qs) z) l)
        (ap (λ s. greatest (arrival_worth s) (all_parts (map (arrivals fan) (all_routes bs h (first + length a))) g))
        (sites_after before a (all_sites bs h) later)
        ∙ all h (first + length a) g (before ++ a) later (ap (λ k. k + length a) e ∙ sym (length-append before a))
        (fits_right g.way q (join_all qs) z) l)

    -- ---- scopes

    -- a scope that is reached
    reached : (s : Site) (before later : List Site) (first way : ℕ) → first ≡ length before → way ≤ fan
        → arrival_worth (before ++ (s ∷ later)) (record { number = first; way = way })
        ≡ worth_of (Some s) (node_by ns n way)
    reached s before later first way e l =
        if_is (nat_lt way (suc fan)) (worth_of (slice_get (before ++ (s ∷ later)) first) (node_by ns n way)) 0
        (lt-ltb way (suc fan) (omega (arith, l)))
        ∙ ap (λ k. worth_of (slice_get (before ++ (s ∷ later)) k) (node_by ns n way)) e
        ∙ ap (λ o. worth_of o (node_by ns n way)) (here_in before s later)

    -- ---- terms

    abbrev Routed : Term → Type 0
    Routed x = Leads (layout w x) (tops ns w x) (region_of x)

    abbrev R : Type 0
    R = (x : Term) × Routed x

    abbrev terms : List R → List Term
    terms xs = map (λ x. x.0) xs

    -- the parts of a list
    all_lead : (xs : List R) → LeadAll (map (layout w) (terms xs)) (map (tops ns w) (terms xs))
        (map region_of (terms xs))
    all_lead [] h first g before later e z l = refl
    all_lead (x ∷ xs) h first g before later e z l
        = lead_next (layout w x.0) (tops ns w x.0) (region_of x.0) (map (layout w) (terms xs))
        (map (tops ns w) (terms xs)) (map region_of (terms xs)) x.1 (all_lead xs) h first g before later e z l

    list_lead : (xs : List R) → Leads (list_layout r.Parts (map (layout w) (terms xs)))
        (all_parts (map (tops ns w) (terms xs))) (join_all (map region_of (terms xs)))
    list_lead xs h first g before later e z l =
        let bs = map (layout w) (terms xs) in
        ap (λ (f : ArrivalsAt). greatest (arrival_worth (before ++ (all_sites bs h ++ later))) (f g))
        (route_parts fan (all_routes bs h first))
        ∙ all_lead xs h first g before later e z l

    -- arms
    arm_lead : (xs : List R) (i : ℕ) (h first : ℕ) (g : Position) (before later : List Site) → first ≡ length before
        → Fits g.way (join_all (map region_of (terms xs))) → g.way ≤ fan
        → greatest (arrival_worth (before ++ (all_sites (map (layout w) (terms xs)) h ++ later)))
        (arm_of (map (arrivals fan) (all_routes (map (layout w) (terms xs)) h first)) i g)
        ≡ highest m (arm_of (map (tops ns w) (terms xs)) i (stand g h))
    arm_lead [] i h first g before later e z l = refl
    arm_lead (x ∷ xs) zero h first g before later e z l =
        let rest = all_sites (map (layout w) (terms xs)) h in
        ap (λ s. greatest (arrival_worth (before ++ s)) (arrivals fan ((layout w x.0).route h first) g))
        (append_assoc ((layout w x.0).sites h) rest later)
        ∙ x.1 h first g before (rest ++ later) e
        (fits_left g.way (region_of x.0) (join_all (map region_of (terms xs))) z) l
    arm_lead (x ∷ xs) (suc i) h first g before later e z l =
        let a = (layout w x.0).sites h in
        ap (λ s. greatest (arrival_worth s)
        (arm_of (map (arrivals fan) (all_routes (map (layout w) (terms xs)) h (first + length a))) i g))
        (sites_after before a (all_sites (map (layout w) (terms xs)) h) later)
        ∙ arm_lead xs i h (first + length a) g (before ++ a) later
        (ap (λ k. k + length a) e ∙ sym (length-append before a))
        (fits_right g.way (region_of x.0) (join_all (map region_of (terms xs))) z) l

    at_lead : (xs : List R) (k : ℤ) (h first : ℕ) (g : Position) (before later : List Site) → first ≡ length before
        → Fits g.way (join_all (map region_of (terms xs))) → g.way ≤ fan
        → greatest (arrival_worth (before ++ (all_sites (map (layout w) (terms xs)) h ++ later)))
        (arm_at (map (arrivals fan) (all_routes (map (layout w) (terms xs)) h first)) k g)
        ≡ highest m (arm_at (map (tops ns w) (terms xs)) k (stand g h))
    at_lead xs (pos i) h first g before later e z l = arm_lead xs i h first g before later e z l
    at_lead xs (negsuc i) h first g before later e z l = refl

    case_lead : (k : Num) (xs : List R)
        → Leads (list_layout (r.Arm k) (map (layout w) (terms xs)))
        (λ p. arm_at (map (tops ns w) (terms xs)) (value k (env_at ns p)) p)
        (case_region k (join_all (map region_of (terms xs))))
    case_lead k xs h first g before later e z l =
        let bs = map (layout w) (terms xs) in
        let q = join_all (map region_of (terms xs)) in
        ap (λ (f : ArrivalsAt). greatest (arrival_worth (before ++ (all_sites bs h ++ later))) (f g))
        (route_arm fan k (all_routes bs h first))
        ∙ ap (λ c. greatest (arrival_worth (before ++ (all_sites bs h ++ later)))
        (arm_at (map (arrivals fan) (all_routes bs h first)) c g))
        (number_here k (case_region k q).loops q.stays q.routed g h z)
        ∙ at_lead xs (value k (env_at ns (stand g h))) h first g before later e (fits_picked g.way k q z) l

    -- turns
    turns_lead : (x : R) (c i h first : ℕ) (g : Position) (before later : List Site) → first ≡ length before
        → Fits g.way (region_of x.0) → g.way ≤ fan
        → greatest (arrival_worth (before ++ ((layout w x.0).sites h ++ later)))
        (each_turn c (λ j. arrivals fan ((layout w x.0).route h first) (next_position g j)) i)
        ≡ highest m (each_turn c (λ j. tops ns w x.0 (at_turn (stand g h) j)) i)
    unfolding each_turn
    turns_lead x zero i h first g before later e z l = refl
    turns_lead x (suc c) i h first g before later e z l
        = ap₂ max (x.1 h first (next_position g i) before later e z l)
        (turns_lead x c (i + 1) h first g before later e z l)

    loop_lead : (k : Num) (x : R) → Leads (loop_layout k x.0 (layout w x.0))
        (λ p. each_turn (count k (env_at ns p)) (λ j. tops ns w x.0 (at_turn p j)) 0) (loop_region k (region_of x.0))
    loop_lead k x h first g before later e z l = by (has_scope x.0) refl
      where
        b : Layout
        b = layout w x.0

        by : (v : Bool) → has_scope x.0 ≡ v
            → greatest (arrival_worth (before ++
            ((if v then record { route = λ held first. r.Each k (b.route held first); sites = b.sites } else
            no_layout).sites h ++ later)))
            (arrivals fan ((if v then record { route = λ held first. r.Each k (b.route held first); sites = b.sites }
            else no_layout).route h first) g)
            ≡ highest m (each_turn (count k (env_at ns (stand g h))) (λ j. tops ns w x.0 (at_turn (stand g h) j)) 0)
        by true s =
            ap (λ (f : ArrivalsAt). greatest (arrival_worth (before ++ (b.sites h ++ later))) (f g))
            (route_each fan k (b.route h first))
            ∙ ap (λ c. greatest (arrival_worth (before ++ (b.sites h ++ later)))
            (each_turn (nat_part c) (λ j. arrivals fan (b.route h first) (next_position g j)) 0))
            (number_here k (loop_region k (region_of x.0)).loops (region_of x.0).stays (region_of x.0).routed g h z)
            ∙ turns_lead x (count k (env_at ns (stand g h))) 0 h first g before later e
            (fits_turned g.way k (region_of x.0) z) l
        by false s =
            ap (λ (f : ArrivalsAt). greatest (arrival_worth (before ++ later)) (f g)) (route_nothing fan)
            ∙ sym (flat_none (held_at m) (each_turn (count k (env_at ns (stand g h)))
            (λ j. tops ns w x.0 (at_turn (stand g h) j)) 0)
            (flat_turns (λ j. tops ns w x.0 (at_turn (stand g h) j)) (count k (env_at ns (stand g h))) 0
            (λ j. are_flat ns w x.0 s (at_turn (stand g h) j))))

    -- ---- a scope whose body is gone through on its own

    closed_worth : (x : Term) (top : ℕ) (g : Position) (way : ℕ) → names_no_loop_outside x ≡ true
        → worth_of (Some (record { body = x; top = top; own = true })) (node_by ns n way)
        ≡ highest m (open_scope (tops ns w x) (record { turns = g.turns; node = node_by ns n way; held = top }))
    closed_worth x top g way c = ap (λ z. max (if node_by ns n way == m then top else 0) (highest m z))
        (closed_steady ns w x [] g.turns (node_by ns n way) top c)

    -- what comes up with a scope
    abbrev within_tops : Option Num → (weight : ℕ) → Term → TopsAt
    within_tops None weight x p = open_scope (tops ns w x) (with_more weight p)
    within_tops (Some c) weight x p = at_child ns (count c (env_at ns p)) weight (tops ns w x) p

    -- from the part's node to a child
    child_lead : (c : Num) (weight : ℕ) (x : Term) (q : Region) (g : Position) (h : ℕ) (sites : List Site)
        (f : ℕ → Arrivals) → Fits g.way (scope_region (Some c) q)
        → ((k : ℕ) → suc k ≤ fan → (is_closed q || q.stays) ≡ true → greatest (arrival_worth sites) (f (suc k))
        ≡ highest m (open_scope (tops ns w x) (record { turns = g.turns; node = child_at ns n k; held = weight })))
        → greatest (arrival_worth sites) (to_child fan (count c (env_on_way fan g)) f g.way)
        ≡ highest m (at_child ns (count c (env_at ns (stand g h))) weight (tops ns w x) (stand g h))
    child_lead c weight x q g h sites f z one = by g.way z
      where
        by : (way : ℕ) → Fits way (scope_region (Some c) q)
            → greatest (arrival_worth sites) (to_child fan (count c (record { turns = g.turns; children = fan })) f way)
            ≡ highest m (at_child ns (count c (record { turns = g.turns; children = fan_at ns (node_by ns n way) }))
            weight (tops ns w x) (record { turns = g.turns; node = node_by ns n way; held = h }))
        by zero e = here (count c (record { turns = g.turns; children = fan }))
            (nat_lt (count c (record { turns = g.turns; children = fan })) fan) refl
          where
            here : (k : ℕ) (v : Bool) → nat_lt k fan ≡ v
                → greatest (arrival_worth sites) (if v then f (suc k) else End)
                ≡ highest m (if v then open_scope (tops ns w x)
                (record { turns = g.turns; node = child_at ns n k; held = weight }) else End)
            here k true t = let i = ltb-true k fan t in one k (omega (arith, i)) e
            here k false t = refl
        by (suc j) e = absurd (let d = e in cc)

    closed_lead : (c : Option Num) (x : Term) (q : Region) (weight h first : ℕ) (g : Position)
        (before later : List Site) → names_no_loop_outside x ≡ true → first ≡ length before
        → Fits g.way (scope_region c q) → g.way ≤ fan
        → greatest (arrival_worth (before ++ (record { body = x; top = top_of c h weight; own = true } ∷ later)))
        (arrivals fan (r.Scope c first) g) ≡ highest m (within_tops c weight x (stand g h))
    closed_lead None x q weight h first g before later o e z l =
        let s : Site = record { body = x; top = capped (h + weight); own = true } in
        ap (λ (f : ArrivalsAt). greatest (arrival_worth (before ++ (s ∷ later))) (f g)) (route_scope fan None first)
        ∙ first_only (arrival_worth (before ++ (s ∷ later)) (record { number = first; way = g.way }))
        (highest m (open_scope (tops ns w x) (record { turns = g.turns; node = node_by ns n g.way; held = s.top })))
        (reached s before later first g.way e l ∙ closed_worth x s.top g g.way o)
    closed_lead (Some c) x q weight h first g before later o e z l =
        let s : Site = record { body = x; top = weight; own = true } in
        ap (λ (f : ArrivalsAt). greatest (arrival_worth (before ++ (s ∷ later))) (f g)) (route_scope fan (Some c) first)
        ∙ child_lead c weight x q g h (before ++ (s ∷ later)) (λ i. Open (record { number = first; way = i }) End) z
        (λ k few u.
        first_only (arrival_worth (before ++ (s ∷ later)) (record { number = first; way = suc k }))
        (highest m (open_scope (tops ns w x) (record { turns = g.turns; node = child_at ns n k; held = weight })))
        (reached s before later first (suc k) e few ∙ closed_worth x weight g (suc k) o))

    -- ---- a scope whose body is gone through with the part

    mark_worth : (x : Term) (top way : ℕ)
        → worth_of (Some (record { body = x; top = top; own = false })) (node_by ns n way)
        ≡ (if node_by ns n way == m then top else 0)
    mark_worth x top way = max_none (if node_by ns n way == m then top else 0)
      where
        max_none : (a : ℕ) → max a 0 ≡ a
        max_none a = omega arith

    both_of : (a b c d : ℕ) → a ≡ c → b ≡ d → max (max a 0) (max b 0) ≡ max c d
    both_of a b c d e f = omega (arith, e, f)

    -- the scope, and what is inside
    parts_are : (c : Option Num) (first : ℕ) (y : Route) (g : Position) (sites : List Site)
        → greatest (arrival_worth sites) (arrivals fan (scope_and c first y) g)
        ≡ max (greatest (arrival_worth sites) (scope_arrivals fan c first g))
        (max (greatest (arrival_worth sites) (arrivals fan (into c y) g)) 0)
    parts_are c first y g sites =
        ap (λ (f : ArrivalsAt). greatest (arrival_worth sites) (f g))
        (route_parts fan (r.Scope c first ∷ into c y ∷ []))
        ∙ ap (λ (f : ArrivalsAt). max (greatest (arrival_worth sites) (f g))
        (max (greatest (arrival_worth sites) (arrivals fan (into c y) g)) 0)) (route_scope fan c first)

    next_in : (before : List Site) (s : Site) (a later : List Site) → before ++ (s ∷ (a ++ later))
        ≡ (before ++ (s ∷ [])) ++ (a ++ later)
    next_in before s a later = sym (append_assoc before (s ∷ []) (a ++ later))

    longer : (before : List Site) (s : Site) (first : ℕ) → first ≡ length before → suc first
        ≡ length (before ++ (s ∷ []))
    longer before s first e = let k = length-append before (s ∷ []) in omega (arith, e, k)

    fits_none : (way : ℕ) (q : Region) → is_closed q ≡ false → Fits way (scope_region None q) → Fits way q
    fits_none zero q c h = or_other (is_closed q) q.routed c h
    fits_none (suc k) q c h = or_other (is_closed q) q.stays c h

    open_lead : (c : Option Num) (x : R) (weight h first : ℕ) (g : Position) (before later : List Site)
        → names_no_loop_outside x.0 ≡ false → first ≡ length before → Fits g.way (scope_region c (region_of x.0))
        → g.way ≤ fan
        → greatest (arrival_worth (before ++
        (record { body = x.0; top = top_of c h weight; own = false }
        ∷ ((layout w x.0).sites (top_of c h weight) ++ later))))
        (arrivals fan (scope_and c first ((layout w x.0).route (top_of c h weight) (suc first))) g)
        ≡ highest m (within_tops c weight x.0 (stand g h))
    open_lead None x weight h first g before later o e z l =
        let top = capped (h + weight) in
        let b = layout w x.0 in
        let s : Site = record { body = x.0; top = top; own = false } in
        let sites = before ++ (s ∷ (b.sites top ++ later)) in
        parts_are None first (b.route top (suc first)) g sites
        ∙ both_of (arrival_worth sites (record { number = first; way = g.way }))
        (greatest (arrival_worth sites) (arrivals fan (b.route top (suc first)) g))
        (if node_by ns n g.way == m then top else 0) (highest m (tops ns w x.0 (stand g top)))
        (reached s before (b.sites top ++ later) first g.way e l ∙ mark_worth x.0 top g.way)
        (ap (λ t. greatest (arrival_worth t) (arrivals fan (b.route top (suc first)) g))
        (next_in before s (b.sites top) later)
        ∙ x.1 top (suc first) g (before ++ (s ∷ [])) later (longer before s first e)
        (fits_none g.way (region_of x.0) o z) l)
    open_lead (Some c) x weight h first g before later o e z l =
        let b = layout w x.0 in
        let s : Site = record { body = x.0; top = weight; own = false } in
        let sites = before ++ (s ∷ (b.sites weight ++ later)) in
        parts_are (Some c) first (b.route weight (suc first)) g sites
        ∙ ap (λ (f : ArrivalsAt). max (greatest (arrival_worth sites) (scope_arrivals fan (Some c) first g))
        (max (greatest (arrival_worth sites) (f g)) 0)) (route_inside fan c (b.route weight (suc first)))
        ∙ merge g.way
        ∙ child_lead c weight x.0 (region_of x.0) g h sites
        (λ i. Both (Open (record { number = first; way = i }) End)
        (Both (arrivals fan (b.route weight (suc first)) (record { turns = g.turns; way = i })) End)) z (λ k few u.
        both_of (arrival_worth sites (record { number = first; way = suc k }))
        (greatest (arrival_worth sites)
        (arrivals fan (b.route weight (suc first)) (record { turns = g.turns; way = suc k })))
        (if child_at ns n k == m then weight else 0)
        (highest m (tops ns w x.0 (record { turns = g.turns; node = child_at ns n k; held = weight })))
        (reached s before (b.sites weight ++ later) first (suc k) e few ∙ mark_worth x.0 weight (suc k))
        (ap (λ t. greatest (arrival_worth t)
        (arrivals fan (b.route weight (suc first)) (record { turns = g.turns; way = suc k })))
        (next_in before s (b.sites weight) later)
        ∙ x.1 weight (suc first) (record { turns = g.turns; way = suc k }) (before ++ (s ∷ [])) later
        (longer before s first e) (or_other (is_closed (region_of x.0)) (region_of x.0).stays o u) few))
      where
        b : Layout
        b = layout w x.0

        sites : List Site
        sites = before ++ (record { body = x.0; top = weight; own = false } ∷ (b.sites weight ++ later))

        f : ℕ → Arrivals
        f i = Open (record { number = first; way = i }) End

        k : ℕ → Arrivals
        k i = arrivals fan (b.route weight (suc first)) (record { turns = g.turns; way = i })

        -- both go to the same child
        merge : (way : ℕ) → max (greatest (arrival_worth sites) (to_child fan (count c (env_on_way fan g)) f way))
            (max (greatest (arrival_worth sites) (to_child fan (count c (env_on_way fan g)) k way)) 0)
            ≡ greatest (arrival_worth sites)
            (to_child fan (count c (env_on_way fan g)) (λ i. Both (f i) (Both (k i) End)) way)
        merge way = by (way == 0) (nat_lt (count c (env_on_way fan g)) fan)
          where
            by : (u v : Bool) → max (greatest (arrival_worth sites)
                (if u then (if v then f (suc (count c (env_on_way fan g))) else End) else End))
                (max (greatest (arrival_worth sites)
                (if u then (if v then k (suc (count c (env_on_way fan g))) else End) else End)) 0)
                ≡ greatest (arrival_worth sites)
                (if u then (if v then Both (f (suc (count c (env_on_way fan g))))
                (Both (k (suc (count c (env_on_way fan g)))) End) else End) else End)
            by true true = refl
            by true false = refl
            by false v = refl

    within_lead : (c : Option Num) (bs : List ℕ) (x : R)
        → Leads (within_layout (capped (w bs)) c x.0 (layout w x.0)) (scope_tops ns w c bs (tops ns w x.0))
        (scope_region c (region_of x.0))
    within_lead c bs x h first g before later e z l = by (names_no_loop_outside x.0) refl ∙ scope_is c
      where
        b : Layout
        b = layout w x.0

        weight : ℕ
        weight = capped (w bs)

        scope_is : (c : Option Num) → highest m (within_tops c weight x.0 (stand g h))
            ≡ highest m (scope_tops ns w c bs (tops ns w x.0) (stand g h))
        scope_is None = refl
        scope_is (Some c) = refl

        Comes : Layout → Type 0
        Comes z = greatest (arrival_worth (before ++ (z.sites (top_of c h weight) ++ later)))
            (arrivals fan (z.route (top_of c h weight) first) g) ≡ highest m (within_tops c weight x.0 (stand g h))

        by : (v : Bool) → names_no_loop_outside x.0 ≡ v → Comes (scope_layout c x.0 b)
        by true o = subst Comes (sym
            (if_is {X = Layout} (names_no_loop_outside x.0) (own_layout c x.0) (joint_layout c x.0 b) o))
            (closed_lead c x.0 (region_of x.0) weight h first g before later o e z l)
        by false o = subst Comes (sym
            (if_not {X = Layout} (names_no_loop_outside x.0) (own_layout c x.0) (joint_layout c x.0 b) o))
            (open_lead c x weight h first g before later o e z l)

    -- ---- all terms

    nothing_leads : (f : TopsAt) (q : Region) → ((p : Stand) → f p ≡ End) → Leads no_layout f q
    nothing_leads f q none h first g before later e z l =
        ap (λ (f : ArrivalsAt). greatest (arrival_worth (before ++ later)) (f g)) (route_nothing fan)
        ∙ sym (ap (highest m) (none (stand g h)))

    along : (x : Term) (b : Layout) (f : TopsAt) (q : Region) → layout w x ≡ b → tops ns w x ≡ f → region_of x ≡ q
        → Leads b f q → Routed x
    along x b f q d e o p =
        subst (λ (z : Layout). Leads z (tops ns w x) (region_of x)) (sym d)
        (subst (λ (z : TopsAt). Leads b z (region_of x)) (sym e) (subst (λ (z : Region). Leads b f z) (sym o) p))

    routed_step : (y : Term-F R) → Routed (roll-Term (map-Term R Term (λ x. x.0) y))
    routed_step Term-F.Skip = subst Routed (sym t.rolls-Skip)
        (along _ _ _ _ (layout_skip w) (top_skip ns w) region_skip (nothing_leads (λ p. End) _ (λ p. refl)))
    routed_step (Term-F.Act a) = subst Routed (sym (t.rolls-Act a))
        (along _ _ _ _ (layout_act w a) (top_act ns w a) (region_act a) (nothing_leads (λ p. End) _ (λ p. refl)))
    routed_step (Term-F.Seq xs) = subst Routed (sym (t.rolls-Seq (terms xs)))
        (along _ _ _ _ (layout_seq w (terms xs)) (top_seq ns w (terms xs)) (region_seq (terms xs)) (list_lead xs))
    routed_step (Term-F.Par xs) = subst Routed (sym (t.rolls-Par (terms xs)))
        (along _ _ _ _ (layout_par w (terms xs)) (top_par ns w (terms xs)) (region_par (terms xs)) (list_lead xs))
    routed_step (Term-F.Loop c x) = subst Routed (sym (t.rolls-Loop c x.0))
        (along _ _ _ _ (layout_loop w c x.0) (top_loop ns w c x.0) (region_loop c x.0) (loop_lead c x))
    routed_step (Term-F.Spread c u x)
        = subst Routed (sym (t.rolls-Spread c u x.0))
        (along _ _ _ _ (layout_spread w c u x.0) (top_spread ns w c u x.0) (region_spread c u x.0) (loop_lead c x))
    routed_step (Term-F.Case k xs) = subst Routed (sym (t.rolls-Case k (terms xs)))
        (along _ _ _ _ (layout_case w k (terms xs)) (top_case ns w k (terms xs)) (region_case k (terms xs))
        (case_lead k xs))
    routed_step (Term-F.Within c bs x)
        = subst Routed (sym (t.rolls-Within c bs x.0))
        (along _ _ _ _ (layout_within w c bs x.0) (top_within ns w c bs x.0) (region_within c bs x.0)
        (within_lead c bs x))

    pub routes_lead : (x : Term) → Routed x
    routes_lead = ind-Term Routed (λ x y is. subst (λ z. Routed (roll-Term z)) is (routed_step y))
