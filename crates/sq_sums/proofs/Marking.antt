-- The marks of a part tell what its ways lead to.
use Rattle.std.proofs.Common.{◌≡◌, ◌≢◌, ℕ, zero, suc, ◌+◌, ◌<◌, ◌≤◌, max, Bool, true, false, List, [], ◌∷◌, ◌++◌}
use Rattle.std.proofs.Common.{length, get_or, set, replicate, Some, None, refl, sym, ap, ap₂, ◌∙◌, subst, arith}
use Rattle.std.proofs.Common.{append-nil, append_assoc, length-append}
use Rattle.std.specs.Prelude.{◌==◌, nat_lt, slice_get, if◌then◌else◌}
use Rattle.std.proofs.lemmas.Bool.{lt-ltb, ltb-true, ltb-false, le-ltb, eqb-true, eqb-false}
use Rattle.std.proofs.lemmas.List.{get_or-set_same, get_or-set_other, length-set, length-replicate}
use Rattle.sq_ir.specs.declared.plan.PlanNode.{PlanNode}
use Rattle.sq_ir.specs.declared.term.Term.{Term}
use Rattle.sq_nests.specs.Nests.{End, Both, Open}
use Rattle.sq_sums.specs.declared.route.Route.{Route}
use Rattle.sq_sums.specs.declared.walk.Ground.{Ground}
use Rattle.sq_sums.specs.Parts.{greatest, through}
use Rattle.sq_sums.specs.Grounds.{weight_on}
use Rattle.sq_sums.specs.Regions.{region_of}
use Rattle.sq_sums.specs.Sites.{Site}
use Rattle.sq_sums.specs.Routes.{Arrival, Arrivals, layout, arrivals, mark, no_marks, marks}
use Rattle.sq_sums.specs.Sums.{node_by, fan_at, way_nodes, row_nodes, site_nodes, worth_all, site_worth, body_worth}
use Rattle.sq_sums.specs.Sums.{sites_worth_from, sites_worth}
use Rattle.sq_sums.proofs.Routing.{worth_of, arrival_worth, routes_lead, if_is, if_not}

-- ---- the greatest of so many numbers

abbrev range_max : (count : ℕ) → (ℕ → ℕ) → (i : ℕ) → ℕ
range_max zero g i = 0
range_max (suc k) g i = max (g i) (range_max k g (suc i))

range_same : (k : ℕ) (g h : ℕ → ℕ) (i : ℕ) → ((j : ℕ) → i ≤ j → j < i + k → g j ≡ h j) → range_max k g i
    ≡ range_max k h i
range_same zero g h i e = refl
range_same (suc k) g h i e = ap₂ max (e i (omega arith) (omega arith))
    (range_same k g h (suc i) (λ j l u. e j (omega (arith, l)) (omega (arith, u))))

range_none : (k : ℕ) (g : ℕ → ℕ) (i : ℕ) → ((j : ℕ) → g j ≡ 0) → range_max k g i ≡ 0
range_none zero g i e = refl
range_none (suc k) g i e = let p = e i in let q = range_none k g (suc i) e in omega (arith, p, q)

-- one of them becomes greater
range_raise : (k : ℕ) (g h : ℕ → ℕ) (i at x : ℕ) → i ≤ at → at < i + k → h at ≡ max (g at) x
    → ((j : ℕ) → j ≢ at → h j ≡ g j) → range_max k h i ≡ max (range_max k g i) x
range_raise zero g h i at x l u e o = absurd (omega (arith, l, u))
range_raise (suc k) g h i at x l u e o
    = by (i == at) refl (λ n. range_raise k g h (suc i) at x (omega (arith, l, n)) (omega (arith, u)) e o)
  where
    by : (v : Bool) → (i == at) ≡ v → (i ≢ at → range_max k h (suc i) ≡ max (range_max k g (suc i)) x)
        → max (h i) (range_max k h (suc i)) ≡ max (max (g i) (range_max k g (suc i))) x
    by true n f =
        let z = eqb-true i at n in
        let p : h i ≡ max (g i) x = subst (λ j. h j ≡ max (g j) x) (sym z) e in
        let q = range_same k h g (suc i) (λ j a b. o j (λ d. absurd (omega (arith, a, d, z)))) in
        omega (arith, p, q)
    by false n f =
        let z = eqb-false i at n in
        let p = o i z in
        let q = f z in
        omega (arith, p, q)

-- ---- marks

abbrev bit : List (List Bool) → (j w : ℕ) → Bool
bit rows j w = get_or (get_or rows j []) w false

abbrev bit_worth : Bool → ℕ → ℕ
bit_worth v x = if v then x else 0

module _ (worth : Arrival → ℕ) (f d : ℕ) where
  abbrev row_worth : List (List Bool) → ℕ → ℕ
  row_worth rows j = range_max (suc f) (λ w. bit_worth (bit rows j w) (worth (record { number = j; way = w }))) 0

  abbrev rows_worth : List (List Bool) → ℕ
  rows_worth rows = range_max d (row_worth rows) 0

  -- as many rows as scopes, and in each as many marks as ways
  pub record IsShaped (rows : List (List Bool)) : Type 0 where
    pub rows_ : length rows ≡ d
    pub ways : (j : ℕ) → j < d → length (get_or rows j []) ≡ suc f

  -- what isn't there is worth nothing
  pub record IsBounded : Type 0 where
    pub number : (j w : ℕ) → d ≤ j → worth (record { number = j; way = w }) ≡ 0
    pub way : (j w : ℕ) → f < w → worth (record { number = j; way = w }) ≡ 0

  module _ (j w : ℕ) (rows : List (List Bool)) (shaped : IsShaped rows) where
    abbrev new : List (List Bool)
    new = mark (record { number = j; way = w }) rows

    other_row : (i : ℕ) → i ≢ j → get_or new i [] ≡ get_or rows i []
    other_row i n = get_or-set_other rows j i (set (get_or rows j []) w true) [] n

    this_row : j < d → get_or new j [] ≡ set (get_or rows j []) w true
    this_row l = let z = shaped.rows_ in get_or-set_same rows j (set (get_or rows j []) w true) [] (omega (arith, z, l))

    shaped_new : IsShaped new
    shaped_new = record {
      rows_ = length-set rows j (set (get_or rows j []) w true) ∙ shaped.rows_;
      ways = λ i l. by i l (i == j) refl;
    }
      where
        by : (i : ℕ) → i < d → (v : Bool) → (i == j) ≡ v → length (get_or new i []) ≡ suc f
        by i l true e =
            let z = eqb-true i j e in
            subst (λ k. length (get_or new k []) ≡ suc f) (sym z)
            (ap length (this_row (subst (λ k. k < d) z l)) ∙ length-set (get_or rows j []) w true
            ∙ shaped.ways j (subst (λ k. k < d) z l))
        by i l false e = ap length (other_row i (eqb-false i j e)) ∙ shaped.ways i l

    -- another way of the same scope
    other_way : (v : ℕ) → j < d → v ≢ w → bit new j v ≡ bit rows j v
    other_way v l n = ap (λ r. get_or r v false) (this_row l) ∙ get_or-set_other (get_or rows j []) w v true false n

    this_way : j < d → w < suc f → bit new j w ≡ true
    this_way l u = let z = shaped.ways j l in ap (λ r. get_or r w false) (this_row l)
        ∙ get_or-set_same (get_or rows j []) w true false (omega (arith, z, u))

    row_other : (i : ℕ) → i ≢ j → row_worth new i ≡ row_worth rows i
    row_other i n = ap (λ r. range_max (suc f)
        (λ v. bit_worth (get_or r v false) (worth (record { number = i; way = v }))) 0) (other_row i n)

    row_raised : j < d → w < suc f → row_worth new j ≡ max (row_worth rows j) (worth (record { number = j; way = w }))
    row_raised l u = range_raise (suc f) (λ v. bit_worth (bit rows j v) (worth (record { number = j; way = v })))
        (λ v. bit_worth (bit new j v) (worth (record { number = j; way = v })))
        0 w (worth (record { number = j; way = w })) (omega arith) (omega (arith, u))
        (at (bit rows j w) ∙ ap (λ b. max (bit_worth b x) x) refl)
        (λ v n. ap (λ b. bit_worth b (worth (record { number = j; way = v }))) (other_way v l n))
      where
        x : ℕ
        x = worth (record { number = j; way = w })

        at : (b : Bool) → bit_worth (bit new j w) x ≡ max (bit_worth b x) x
        at true = ap (λ c. bit_worth c x) (this_way l u) ∙ twice x
          where
            twice : (a : ℕ) → a ≡ max a a
            twice a = omega arith
        at false = ap (λ c. bit_worth c x) (this_way l u) ∙ alone x
          where
            alone : (a : ℕ) → a ≡ max 0 a
            alone a = omega arith

    -- a way that isn't there
    row_past : j < d → suc f ≤ w → row_worth new j ≡ row_worth rows j
    row_past l u = range_same (suc f) (λ v. bit_worth (bit new j v) (worth (record { number = j; way = v })))
        (λ v. bit_worth (bit rows j v) (worth (record { number = j; way = v }))) 0
        (λ v a b. ap (λ c. bit_worth c (worth (record { number = j; way = v })))
        (other_way v l (λ e. absurd (omega (arith, b, e, u)))))

    mark_raises : IsBounded → rows_worth new ≡ max (rows_worth rows) (worth (record { number = j; way = w }))
    mark_raises b = by_number (nat_lt j d) refl (nat_lt w (suc f)) refl
      where
        zero_more : (a x : ℕ) → x ≡ 0 → a ≡ max a x
        zero_more a x e = omega (arith, e)

        by_number : (v : Bool) → nat_lt j d ≡ v → (u : Bool) → nat_lt w (suc f) ≡ u → rows_worth new
            ≡ max (rows_worth rows) (worth (record { number = j; way = w }))
        by_number true e true g =
            let l = ltb-true j d e in
            let u = ltb-true w (suc f) g in
            range_raise d (row_worth rows) (row_worth new) 0 j (worth (record { number = j; way = w })) (omega arith)
            (omega (arith, l)) (row_raised l u) row_other
        by_number true e false g =
            let l = ltb-true j d e in
            let u = ltb-false w (suc f) g in
            range_same d (row_worth new) (row_worth rows) 0 (λ i p q. this i (i == j) refl l u)
            ∙ zero_more (rows_worth rows) (worth (record { number = j; way = w })) (b.way j w (omega (arith, u)))
          where
            this : (i : ℕ) (v : Bool) → (i == j) ≡ v → j < d → suc f ≤ w → row_worth new i ≡ row_worth rows i
            this i true e l u = let z = eqb-true i j e in subst (λ k. row_worth new k ≡ row_worth rows k) (sym z)
                (row_past l u)
            this i false e l u = row_other i (eqb-false i j e)
        by_number false e u g =
            let l = ltb-false j d e in
            range_same d (row_worth new) (row_worth rows) 0
            (λ i p q. row_other i (λ z. absurd (omega (arith, q, z, l))))
            ∙ zero_more (rows_worth rows) (worth (record { number = j; way = w })) (b.number j w l)

  pub record Marked (x : Arrivals) (rows : List (List Bool)) : Type 0 where
    pub shaped : IsShaped (through mark x rows)
    pub worth_ : rows_worth (through mark x rows) ≡ max (rows_worth rows) (greatest worth x)

  marked : (x : Arrivals) (rows : List (List Bool)) → IsBounded → IsShaped rows → Marked x rows
  marked End rows b s = record { shaped = s; worth_ = none (rows_worth rows) }
    where
      none : (a : ℕ) → a ≡ max a 0
      none a = omega arith
  marked (Both x y) rows b s =
      let p = marked x rows b s in
      let q = marked y (through mark x rows) b p.shaped in
      record {
        shaped = q.shaped;
        worth_
            = both (rows_worth (through mark y (through mark x rows))) (rows_worth (through mark x rows))
            (rows_worth rows) (greatest worth x) (greatest worth y) q.worth_ p.worth_;
      }
    where
      both : (c b a x y : ℕ) → c ≡ max b y → b ≡ max a x → c ≡ max a (max x y)
      both c b a x y e g = omega (arith, e, g)
  marked (Open a x) rows b s =
      let q = marked x (mark a rows) b (shaped_new a.number a.way rows s) in
      let p = mark_raises a.number a.way rows s b in
      record {
        shaped = q.shaped;
        worth_
            = both (rows_worth (through mark x (mark a rows))) (rows_worth (mark a rows)) (rows_worth rows) (worth a)
            (greatest worth x) q.worth_ p;
      }
    where
      both : (c b a x y : ℕ) → c ≡ max b y → b ≡ max a x → c ≡ max a (max x y)
      both c b a x y e g = omega (arith, e, g)

  -- at first nothing is marked
  get_same : {X : Type 0} (k : ℕ) (x e : X) (i : ℕ) → i < k → get_or (replicate k x) i e ≡ x
  get_same zero x e i l = absurd (omega (arith, l))
  get_same (suc k) x e zero l = refl
  get_same (suc k) x e (suc i) l = get_same k x e i (omega (arith, l))

  no_bit : (k : ℕ) (w : ℕ) → get_or (replicate k false) w false ≡ false
  no_bit zero w = refl
  no_bit (suc k) zero = refl
  no_bit (suc k) (suc w) = no_bit k w

  no_bits : (k : ℕ) (j w : ℕ) → bit (replicate k (replicate (suc f) false)) j w ≡ false
  no_bits zero j w = refl
  no_bits (suc k) zero w = no_bit (suc f) w
  no_bits (suc k) (suc j) w = no_bits k j w

  shaped_none : IsShaped (no_marks d f)
  shaped_none = record {
    rows_ = length-replicate d (replicate (suc f) false);
    ways = λ j l. ap length (get_same d (replicate (suc f) false) [] j l) ∙ length-replicate (suc f) false;
  }

  none_worth : rows_worth (no_marks d f) ≡ 0
  none_worth = range_none d (row_worth (no_marks d f)) 0
      (λ j. range_none (suc f) (λ w. bit_worth (bit (no_marks d f) j w) (worth (record { number = j; way = w }))) 0
      (λ w. ap (λ b. bit_worth b (worth (record { number = j; way = w }))) (no_bits d j w)))

  marks_worth : (x : Route) → IsBounded → rows_worth (marks f d x)
      ≡ greatest worth (arrivals f x (record { turns = []; way = 0 }))
  marks_worth x b =
      let y = arrivals f x (record { turns = []; way = 0 }) in
      let p = (marked y (no_marks d f) b shaped_none).worth_ in
      let z = none_worth in
      only (rows_worth (marks f d x)) (rows_worth (no_marks d f)) (greatest worth y) p z
    where
      only : (c b a : ℕ) → c ≡ max b a → b ≡ 0 → c ≡ a
      only c b a e g = omega (arith, e, g)

pub marks_long : (f d : ℕ) (x : Route) → length (marks f d x) ≡ d
marks_long f d x =
    (marked (λ a. 0) f d (arrivals f x (record { turns = []; way = 0 })) (no_marks d f)
    (record { number = λ j w l. refl; way = λ j w l. refl }) (shaped_none (λ a. 0) f d)).shaped.rows_

-- ---- the nodes of scopes

worth_append : (g : ℕ → ℕ) (a b : List ℕ) → worth_all g (a ++ b) ≡ max (worth_all g a) (worth_all g b)
worth_append g [] b = first (worth_all g b)
  where
    first : (a : ℕ) → a ≡ max 0 a
    first a = omega arith
worth_append g (n ∷ a) b = ap (max (g n)) (worth_append g a b) ∙ max_assoc (g n) (worth_all g a) (worth_all g b)
  where
    max_assoc : (a b c : ℕ) → max a (max b c) ≡ max (max a b) c
    max_assoc a b c = omega arith

pub worth_max : (g h : ℕ → ℕ) (at : List ℕ) → worth_all (λ n. max (g n) (h n)) at
    ≡ max (worth_all g at) (worth_all h at)
worth_max g h [] = refl
worth_max g h (n ∷ at) = let e = worth_max g h at in swap (g n) (h n) (worth_all (λ n. max (g n) (h n)) at)
    (worth_all g at) (worth_all h at) e
  where
    swap : (a b c d e : ℕ) → c ≡ max d e → max (max a b) c ≡ max (max a d) (max b e)
    swap a b c d e z = omega (arith, z)

pub worth_same : (g h : ℕ → ℕ) (at : List ℕ) → ((n : ℕ) → g n ≡ h n) → worth_all g at ≡ worth_all h at
worth_same g h [] e = refl
worth_same g h (n ∷ at) e = ap₂ max (e n) (worth_same g h at e)

worth_none : (at : List ℕ) → worth_all (λ n. 0) at ≡ 0
worth_none [] = refl
worth_none (n ∷ at) = let e = worth_none at in omega (arith, e)

module _ (ns : List PlanNode) (g : ℕ → ℕ) where
  marked_worth : (row : List Bool) (n k w : ℕ) → worth_all g (way_nodes ns row n k w)
      ≡ range_max k (λ v. bit_worth (get_or row v false) (g (node_by ns n v))) w
  marked_worth row n zero w = refl
  marked_worth row n (suc k) w = by (get_or row w false)
      (ap (λ v. worth_all g (way_nodes ns row n k v)) next ∙ marked_worth row n k (suc w))
    where
      next : w + 1 ≡ suc w
      next = omega arith

      by : (v : Bool) → worth_all g (way_nodes ns row n k (w + 1))
          ≡ range_max k (λ v. bit_worth (get_or row v false) (g (node_by ns n v))) (suc w)
          → worth_all g (if v then node_by ns n w ∷ way_nodes ns row n k (w + 1) else way_nodes ns row n k (w + 1))
          ≡ max (bit_worth v (g (node_by ns n w)))
          (range_max k (λ v. bit_worth (get_or row v false) (g (node_by ns n v))) (suc w))
      by true e = ap (max (g (node_by ns n w))) e
      by false e = none (worth_all g (way_nodes ns row n k (w + 1)))
          (range_max k (λ v. bit_worth (get_or row v false) (g (node_by ns n v))) (suc w)) e
        where
          none : (a b : ℕ) → a ≡ b → a ≡ max 0 b
          none a b e = omega (arith, e)

  nodes_worth : (x : Route) (d j : ℕ) (at : List ℕ) → worth_all g (site_nodes ns x d j at)
      ≡ worth_all (λ n. range_max (suc (fan_at ns n))
      (λ w. bit_worth (bit (marks (fan_at ns n) d x) j w) (g (node_by ns n w))) 0) at
  nodes_worth x d j [] = refl
  nodes_worth x d j (n ∷ at) =
      worth_append g (row_nodes ns (get_or (marks (fan_at ns n) d x) j []) n) (site_nodes ns x d j at)
      ∙ ap₂ max (marked_worth (get_or (marks (fan_at ns n) d x) j []) n (suc (fan_at ns n)) 0) (nodes_worth x d j at)

-- ---- a part's scopes

there : {X : Type 0} (before : List X) (x : X) (later : List X) → slice_get (before ++ (x ∷ later)) (length before)
    ≡ Some x
there [] x later = refl
there (y ∷ before) x later = there before x later

past_end : {X : Type 0} (xs : List X) (j : ℕ) → length xs ≤ j → slice_get xs j ≡ None
past_end [] j l = refl
past_end (x ∷ xs) zero l = absurd (omega (arith, l))
past_end (x ∷ xs) (suc j) l = past_end xs j (omega (arith, l))

module _ (g : Ground) (m : ℕ) (x : Route) (sites : List Site) where
  abbrev ns : List PlanNode
  ns = g.nodes.now

  abbrev worth : (n : ℕ) → Arrival → ℕ
  worth n = arrival_worth ns (weight_on g) m n sites

  abbrev d : ℕ
  d = length sites

  abbrev of_row : (n j : ℕ) → ℕ
  of_row n j = row_worth (worth n) (fan_at ns n) d (marks (fan_at ns n) d x) j

  -- a scope of the list, at the nodes where it stands
  site_row : (before : List Site) (s : Site) (later : List Site) (n : ℕ) → sites ≡ before ++ (s ∷ later)
      → range_max (suc (fan_at ns n))
      (λ w. bit_worth (bit (marks (fan_at ns n) d x) (length before) w) (site_worth g m s (node_by ns n w))) 0
      ≡ of_row n (length before)
  site_row before s later n e = range_same (suc (fan_at ns n))
      (λ w. bit_worth (bit (marks (fan_at ns n) d x) (length before) w) (site_worth g m s (node_by ns n w)))
      (λ w. bit_worth (bit (marks (fan_at ns n) d x) (length before) w)
      (worth n (record { number = length before; way = w }))) 0
      (λ w a b. ap (bit_worth (bit (marks (fan_at ns n) d x) (length before) w)) (sym (
      if_is (nat_lt w (suc (fan_at ns n))) _ 0 (lt-ltb w (suc (fan_at ns n)) (omega (arith, b)))
      ∙ ap (λ o. worth_of ns (weight_on g) m o (node_by ns n w))
      (ap (λ l. slice_get l (length before)) e ∙ there before s later))))

  sites_rows : (before ss : List Site) (j : ℕ) (at : List ℕ) → j ≡ length before → sites ≡ before ++ ss
      → sites_worth_from g m x d j ss at ≡ worth_all (λ n. range_max (length ss) (of_row n) j) at
  sites_rows before [] j at e h = sym (worth_none at)
  sites_rows before (s ∷ ss) j at e h =
      ap₂ max
      (nodes_worth ns (site_worth g m s) x d j at
      ∙ worth_same (λ n. range_max (suc (fan_at ns n))
      (λ w. bit_worth (bit (marks (fan_at ns n) d x) j w) (site_worth g m s (node_by ns n w))) 0) (λ n. of_row n j) at
      (λ n. subst (λ k. range_max (suc (fan_at ns n))
      (λ w. bit_worth (bit (marks (fan_at ns n) d x) k w) (site_worth g m s (node_by ns n w))) 0 ≡ of_row n k)
      (sym e) (site_row before s ss n h)))
      (sites_rows (before ++ (s ∷ [])) ss (suc j) at (let k = length-append before (s ∷ []) in omega (arith, e, k))
      (h ∙ sym (append_assoc before (s ∷ []) ss)))
      ∙ sym (worth_max (λ n. of_row n j) (λ n. range_max (length ss) (of_row n) (suc j)) at)

  bounded : (n : ℕ) → IsBounded (worth n) (fan_at ns n) d
  bounded n = record {
    number = λ j w l. by (nat_lt w (suc (fan_at ns n))) j w l;
    way = λ j w l. if_not (nat_lt w (suc (fan_at ns n))) _ 0 (le-ltb w (suc (fan_at ns n)) (omega (arith, l)));
  }
    where
      by : (v : Bool) (j w : ℕ) → d ≤ j
          → (if v then worth_of ns (weight_on g) m (slice_get sites j) (node_by ns n w) else 0) ≡ 0
      by true j w l = ap (λ o. worth_of ns (weight_on g) m o (node_by ns n w)) (past_end sites j l)
      by false j w l = refl

  part_worth : (at : List ℕ) → sites_worth g m x sites at
      ≡ worth_all (λ n. greatest (worth n) (arrivals (fan_at ns n) x (record { turns = []; way = 0 }))) at
  part_worth at = sites_rows [] sites 0 at refl refl
      ∙ worth_same (λ n. rows_worth (worth n) (fan_at ns n) d (marks (fan_at ns n) d x))
      (λ n. greatest (worth n) (arrivals (fan_at ns n) x (record { turns = []; way = 0 }))) at
      (λ n. marks_worth (worth n) (fan_at ns n) d x (bounded n))

-- The scopes of a part, each at the nodes to which the marks lead, are worth what comes up in the part.
pub routed_worth : (g : Ground) (m : ℕ) (body : Term) (top : ℕ) (at : List ℕ) → (region_of body).routed ≡ true
    → sites_worth g m ((layout (weight_on g) body).route top 0) ((layout (weight_on g) body).sites top) at
    ≡ worth_all (body_worth g m body top) at
routed_worth g m body top at z =
    let b = layout (weight_on g) body in
    let ns = g.nodes.now in
    part_worth g m (b.route top 0) (b.sites top) at
    ∙ worth_same (λ n. greatest (arrival_worth ns (weight_on g) m n (b.sites top))
    (arrivals (fan_at ns n) (b.route top 0) (record { turns = []; way = 0 }))) (body_worth g m body top) at (λ n.
    ap (λ s. greatest (arrival_worth ns (weight_on g) m n s)
    (arrivals (fan_at ns n) (b.route top 0) (record { turns = []; way = 0 }))) (sym (append-nil (b.sites top)))
    ∙ routes_lead ns (weight_on g) m n body top 0 (record { turns = []; way = 0 }) [] [] refl z (omega arith))
