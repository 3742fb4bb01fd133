-- A lane whose transfers are overlapped: beside the work of one iteration stand what goes back of the one before and
-- what comes in of the one after.
use Rattle.std.proofs.Common.{◌≡◌, ◌≢◌, ℕ, zero, suc, ◌<◌, ◌≤◌, Bool, true, false, cond, eqb, Option, Some, None, refl}
use Rattle.std.proofs.Common.{sym, ap, ap₂, ◌∙◌, subst, arith, List, ◌⊎◌, inl, inr, ⊎_elim, eqb-true, eq-eqb}
use Rattle.sq_cells.specs.Cells.{State}
use Rattle.sq_ir.specs.Runs.{least}
use Rattle.sq_cells.specs.Tree.{Trap, Tree, Empty, Seq, Par, After, go_on, run}
use Rattle.sq_cells.specs.Work.{first_of, first_trap}
use Rattle.sq_cells.specs.Lowered.{pick, beside, Stand, NoneYet, First, More, next_stand, stand, stage_of, staged}
use Rattle.sq_cells.specs.Lowered.{last_of, piped, Comes}
use Rattle.sq_cells.proofs.Access.{end_or_below}
use Rattle.sq_cells.proofs.Stands.{Has, has, least_none, last_two, last_next}
use Rattle.sq_cells.proofs.Lanes.{only, leasts, first_of_none, go_keeps, beside_keep}

first_none' : (o : Option Trap) → first_of o None ≡ o
first_none' None = refl
first_none' (Some x) = refl

module _ (path : List ℕ) (n : ℕ) (q : ℕ → Bool) (come work back : ℕ → Tree) (trap : ℕ → Option Trap)
    (Before Loaded Ran Done : ℕ → State → Type 0)
    (comes : (t : ℕ) → t < n → (m : State) → Before t m → ((run (come t) m).trap ≡ None)
    × Loaded t (run (come t) m).mem)
    (works : (t : ℕ) → t < n → (m : State) → Loaded t m → ((run (work t) m).trap ≡ trap t)
    × (trap t ≡ None → Ran t (run (work t) m).mem))
    (backs : (t : ℕ) → t < n → (m : State) → Ran t m → ((run (back t) m).trap ≡ None) × Done t (run (back t) m).mem)
    (before_kept : (a b : ℕ) → a < n → b < n → a ≢ b → (m : State) → Before b m → Before b (run (come a) m).mem
    × Before b (run (work a) m).mem × Before b (run (back a) m).mem)
    (done_kept : (a b : ℕ) → a < n → b < n → a ≢ b → (m : State) → Done b m → Done b (run (come a) m).mem
    × Done b (run (work a) m).mem × Done b (run (back a) m).mem)
    (ran_kept : (p t : ℕ) → Comes q p t → t < n → (m : State) → Ran p m → Ran p (run (come t) m).mem
    × Ran p (run (work t) m).mem)
    (ran_kept_back : (p t : ℕ) → Comes q p t → t < n → (m : State) → Ran t m → Ran t (run (back p) m).mem)
  where
    -- what holds when the first j numbers are passed and none trapped
    abbrev Holds : Stand → ℕ → State → Type 0
    Holds NoneYet j m = Unit {0}
    Holds (First t) j m = Loaded t m
    Holds (More p t) j m = Ran p m × Loaded t m × ((u : ℕ) → u < p → q u ≡ true → Done u m)

    -- the trap so far: of those that worked
    abbrev so_far : Stand → Option Trap
    so_far NoneYet = None
    so_far (First t) = None
    so_far (More p t) = first_trap t (only path q trap)

    abbrev Passed : ℕ → Stand → After → Type 0
    Passed j d r = (r.trap ≡ so_far d) × (so_far d ≡ None → Holds d j r.mem)

    -- the first trap below j, t being the last of the lane
    first_upto : (t j : ℕ) → t < j → q t ≡ true → ((u : ℕ) → t < u → u < j → q u ≡ true → ⊥)
        → first_trap j (only path q trap) ≡ first_of (first_trap t (only path q trap)) (trap t)
    first_upto t zero lt y none = absurd (omega arith)
    first_upto t (suc j) lt y none = ⊎_elim last
        (λ l. before l (first_upto t j l y (λ u tu uj. none u tu (omega arith))) (q j) refl) (end_or_below t j lt)
      where
        last : t ≡ j → first_of (first_trap j (only path q trap)) (pick (q j) (trap j) None)
            ≡ first_of (first_trap t (only path q trap)) (trap t)
        last e = subst (λ x. first_of (first_trap x (only path q trap)) (pick (q x) (trap x) None)
            ≡ first_of (first_trap t (only path q trap)) (trap t)) e
            (ap (λ b. first_of (first_trap t (only path q trap)) (pick b (trap t) None)) y)

        before : t < j → first_trap j (only path q trap) ≡ first_of (first_trap t (only path q trap)) (trap t)
            → (b : Bool) → q j ≡ b → first_of (first_trap j (only path q trap)) (pick (q j) (trap j) None)
            ≡ first_of (first_trap t (only path q trap)) (trap t)
        before l e true b = absurd (none j l (omega arith) b)
        before l e false b = ap (λ x. first_of (first_trap j (only path q trap)) (pick x (trap j) None)) b
            ∙ first_none' (first_trap j (only path q trap)) ∙ e

    none_before : (t : ℕ) → ((u : ℕ) → u < t → q u ≡ true → ⊥) → first_trap t (only path q trap) ≡ None
    none_before t h = first_of_none path t (only path q trap) (λ u lt. go u (q u) (λ y. h u lt y))
      where
        go : (u : ℕ) (b : Bool) → (b ≡ true → ⊥) → pick b (trap u) None ≡ None
        go u true k = absurd (k refl)
        go u false k = refl

    -- one stage beside the work of t
    module _ (p t u : ℕ) (fp : Comes q p t) (fu : Comes q t u) (lp : p < t) (lt : t < u) (lu : u < n) (m : State)
        (ran : Ran p m) (loaded : Loaded t m) (wait : Before u m) where
      m1 : State
      m1 = (run (work t) m).mem

      m2 : State
      m2 = (run (back p) (run (work t) m).mem).mem

      stage_back : ((run (back p) (run (work t) m).mem).trap ≡ None) × Done p (run (back p) (run (work t) m).mem).mem
      stage_back = backs p (omega arith) (run (work t) m).mem (ran_kept p t fp (omega arith) m ran).1

      stage_wait : Before u (run (back p) (run (work t) m).mem).mem
      stage_wait = (before_kept p u (omega arith) lu (λ e. bar e) (run (work t) m).mem
          (before_kept t u (omega arith) lu (λ e. bar' e) m wait).1).2
        where
          bar : p ≡ u → ⊥
          bar e = omega arith

          bar' : t ≡ u → ⊥
          bar' e = omega arith

      stage_trap : (run (Par (work t) (Seq (back p) (come u))) m).trap ≡ trap t
      stage_trap =
          ap (λ o. least (run (work t) m).trap (go_on o (run (back p) (run (work t) m).mem).mem (run (come u))).trap)
          stage_back.0
          ∙ ap (least (run (work t) m).trap) (comes u lu (run (back p) (run (work t) m).mem).mem stage_wait).0
          ∙ least_none (run (work t) m).trap ∙ (works t (omega arith) m loaded).0

      stage_mem : (run (Par (work t) (Seq (back p) (come u))) m).mem
          ≡ (run (come u) (run (back p) (run (work t) m).mem).mem).mem
      stage_mem = ap (λ o. (go_on o (run (back p) (run (work t) m).mem).mem (run (come u))).mem) stage_back.0

      stage_holds : trap t ≡ None → ((v : ℕ) → v < p → q v ≡ true → Done v m)
          → ((v : ℕ) → v < u → q v ≡ true → (v < p) ⊎ ((v ≡ p) ⊎ (v ≡ t)))
          → Holds (More t u) (suc u) (run (come u) (run (back p) (run (work t) m).mem).mem).mem
      stage_holds quiet done all = (
        (ran_kept t u fu lu (run (back p) (run (work t) m).mem).mem
            (ran_kept_back p t fp (omega arith) (run (work t) m).mem ((works t (omega arith) m loaded).1 quiet))).0,
        (comes u lu (run (back p) (run (work t) m).mem).mem stage_wait).1,
        λ v lv y. finish v lv y (all v (omega arith) y),
      )
        where
          keep : (v : ℕ) → v < u → Done v (run (back p) (run (work t) m).mem).mem
              → Done v (run (come u) (run (back p) (run (work t) m).mem).mem).mem
          keep v lv d = (done_kept u v lu (omega arith) (λ e. bar e) (run (back p) (run (work t) m).mem).mem d).0
            where
              bar : u ≡ v → ⊥
              bar e = omega arith

          finish : (v : ℕ) → v < t → q v ≡ true → (v < p) ⊎ ((v ≡ p) ⊎ (v ≡ t))
              → Done v (run (come u) (run (back p) (run (work t) m).mem).mem).mem
          finish v lv y (inl a) = keep v (omega arith)
              (done_kept p v (omega arith) (omega arith) (λ e. bar e) (run (work t) m).mem
              (done_kept t v (omega arith) (omega arith) (λ e. bar' e) m (done v a y)).1).2
            where
              bar : p ≡ v → ⊥
              bar e = omega arith

              bar' : t ≡ v → ⊥
              bar' e = omega arith
          finish v lv y (inr (inl e)) = keep v (omega arith)
              (subst (λ x. Done x (run (back p) (run (work t) m).mem).mem) (sym e) stage_back.1)
          finish v lv y (inr (inr e)) = absurd (omega arith)

    -- a fact that each part of the lane's iterations keeps
    module _ (k : ℕ) (R : State → Type 0)
        (kept : (a : ℕ) → a < k → q a ≡ true → (m : State) → R m → R (run (come a) m).mem × R (run (work a) m).mem
        × R (run (back a) m).mem) where
      stage_keeps : (d : Stand) (u : ℕ) → u < k → q u ≡ true → Has q d u → (m : State) → R m
          → R (run (stage_of come work back d u) m).mem
      stage_keeps NoneYet u lu y h m r = (kept u lu y m r).0
      stage_keeps (First t) u lu y h m r = (kept u lu y _ (kept t (omega (arith, h.0)) h.1 m r).1).0
      stage_keeps (More p t) u lu y h m r
          = go_keeps R (run (back p) (run (work t) m).mem).trap (run (back p) (run (work t) m).mem).mem (run (come u))
          (kept p (omega (arith, h.0, h.2)) h.3 _ (kept t (omega (arith, h.0)) h.1 m r).1).2
          (λ m' r'. (kept u lu y m' r').0)

      staged_keeps : (j : ℕ) → j ≤ k → (m : State) → R m → R (run (staged come work back q j) m).mem
      staged_keeps zero le m r = r
      staged_keeps (suc j) le m r = go_keeps R (run (staged come work back q j) m).trap
          (run (staged come work back q j) m).mem (run (pick (q j) (stage_of come work back (stand q j) j) Empty))
          (staged_keeps j (omega arith) m r) (λ m' r'. go (q j) refl m' r')
        where
          go : (b : Bool) → q j ≡ b → (m' : State) → R m'
              → R (run (pick b (stage_of come work back (stand q j) j) Empty) m').mem
          go true y m' r' = stage_keeps (stand q j) j (omega arith) y (has q j) m' r'
          go false y m' r' = r'

      last_keeps : (d : Stand) → Has q d k → (m : State) → R m → R (run (last_of work back d) m).mem
      last_keeps NoneYet h m r = r
      last_keeps (First t) h m r = go_keeps R (run (Par (work t) Empty) m).trap (run (Par (work t) Empty) m).mem
          (run (back t)) (kept t h.0 h.1 m r).1 (λ m' r'. (kept t h.0 h.1 m' r').2)
      last_keeps (More p t) h m r = go_keeps R (run (Par (work t) (back p)) m).trap (run (Par (work t) (back p)) m).mem
          (run (back t)) (kept p (omega (arith, h.0, h.2)) h.3 _ (kept t h.0 h.1 m r).1).2
          (λ m' r'. (kept t h.0 h.1 m' r').2)

      pub piped_keeps : (m : State) → R m → R (run (piped come work back q k) m).mem
      piped_keeps m r = go_keeps R (run (staged come work back q k) m).trap (run (staged come work back q k) m).mem
          (run (last_of work back (stand q k))) (staged_keeps k (omega arith) m r)
          (λ m' r'. last_keeps (stand q k) (has q k) m' r')

    -- the stage in which j comes in, the lane standing at d
    one_more : (d : Stand) (j : ℕ) → j < n → q j ≡ true → Has q d j → (r : After) → Before j r.mem → Passed j d r
        → Passed (suc j) (next_stand d j) (go_on r.trap r.mem (run (stage_of come work back d j)))
    one_more NoneYet j lt y h r b f =
        let e : go_on r.trap r.mem (run (come j)) ≡ run (come j) r.mem = ap (λ o. go_on o r.mem (run (come j))) f.0 in
        let c = comes j lt r.mem b in
        subst (Passed (suc j) (First j)) (sym e) (c.0, λ none. c.1)
    one_more (First t) j lt y h r b f =
        let lt' : t < n = omega (arith, h.0) in
        let loaded = f.1 refl in
        let w = works t lt' r.mem loaded in
        let c = comes j lt (run (work t) r.mem).mem (before_kept t j lt' lt (λ e. bar e) r.mem b).1 in
        let trap_is : (run (Par (work t) (Seq Empty (come j))) r.mem).trap ≡ trap t
        = ap (least (run (work t) r.mem).trap) c.0 ∙ least_none (run (work t) r.mem).trap ∙ w.0 in
        let first : first_trap j (only path q trap) ≡ trap t
        = first_upto t j h.0 h.1 (λ u tu uj z. apart u tu (h.2 u uj z))
        ∙ ap (λ o. first_of o (trap t)) (none_before t (λ u lu z. apart' u lu (h.2 u (omega (arith, h.0)) z))) in
        let e : go_on r.trap r.mem (run (Par (work t) (Seq Empty (come j))))
        ≡ run (Par (work t) (Seq Empty (come j))) r.mem
        = ap (λ o. go_on o r.mem (run (Par (work t) (Seq Empty (come j))))) f.0 in
        subst (Passed (suc j) (More t j)) (sym e) (
          trap_is ∙ sym first,
          λ none. (
            (ran_kept t j (h.0, h.1, y, λ u tu uj z. apart u tu (h.2 u uj z)) lt (run (work t) r.mem).mem
                (w.1 (sym first ∙ none))).0,
            c.1,
            λ u lu z. absurd (apart' u lu (h.2 u (omega (arith, h.0)) z)),
          ),
        )
      where
        bar : t ≡ j → ⊥
        bar e = let l = h.0 in omega arith

        apart : (u : ℕ) → t < u → u ≡ t → ⊥
        apart u l e = omega arith

        apart' : (u : ℕ) → u < t → u ≡ t → ⊥
        apart' u l e = omega arith
    one_more (More p t) j lt y h r b f = go (first_trap t (only path q trap)) refl
      where
        fp : Comes q p t
        fp = last_two q p t j h

        fj : Comes q t j
        fj = last_next q p t j h y

        first : first_trap j (only path q trap) ≡ first_of (first_trap t (only path q trap)) (trap t)
        first = first_upto t j h.0 h.1
            (λ u tu uj z. ⊎_elim (λ a. bar u tu a) (λ a. ⊎_elim (λ c. bar' u tu c) (λ c. bar'' u tu c) a) (h.4 u uj z))
          where
            bar : (u : ℕ) → t < u → u < p → ⊥
            bar u l a = let lp = h.2 in omega arith

            bar' : (u : ℕ) → t < u → u ≡ p → ⊥
            bar' u l a = let lp = h.2 in omega arith

            bar'' : (u : ℕ) → t < u → u ≡ t → ⊥
            bar'' u l a = omega arith

        go : (o : Option Trap) → first_trap t (only path q trap) ≡ o
            → Passed (suc j) (More t j) (go_on r.trap r.mem (run (Par (work t) (Seq (back p) (come j)))))
        go (Some x) e =
            let z : go_on r.trap r.mem (run (Par (work t) (Seq (back p) (come j))))
            ≡ record { mem = r.mem; trap = Some x }
            = ap (λ o. go_on o r.mem (run (Par (work t) (Seq (back p) (come j))))) (f.0 ∙ e) in
            let w : first_trap j (only path q trap) ≡ Some x = first ∙ ap (λ o. first_of o (trap t)) e in
            subst (Passed (suc j) (More t j)) (sym z) (sym w, λ none. absurd (let v = sym w ∙ none in cc))
        go None e =
            let z : go_on r.trap r.mem (run (Par (work t) (Seq (back p) (come j))))
            ≡ run (Par (work t) (Seq (back p) (come j))) r.mem
            = ap (λ o. go_on o r.mem (run (Par (work t) (Seq (back p) (come j))))) (f.0 ∙ e) in
            let w : first_trap j (only path q trap) ≡ trap t = first ∙ ap (λ o. first_of o (trap t)) e in
            let g = f.1 e in
            subst (Passed (suc j) (More t j)) (sym z) (
              stage_trap p t j fp fj h.2 h.0 lt r.mem g.0 g.1 b
                  ∙ sym w,
              λ none. subst (Holds (More t j) (suc j)) (sym (stage_mem p t j fp fj h.2 h.0 lt r.mem g.0 g.1 b))
                  (stage_holds p t j fp fj h.2 h.0 lt r.mem g.0 g.1 b (sym w ∙ none) g.2 h.4),
            )

    passed : (j : ℕ) → j ≤ n → (m : State) → ((t : ℕ) → t < n → q t ≡ true → Before t m)
        → Passed j (stand q j) (run (staged come work back q j) m)
    passed zero le m before = (refl, λ none. tt)
    passed (suc j) le m before = go (q j) refl (passed j (omega arith) m before)
      where
        go : (b : Bool) → q j ≡ b → Passed j (stand q j) (run (staged come work back q j) m)
            → Passed (suc j) (cond (q j) (next_stand (stand q j) j) (stand q j))
            (go_on (run (staged come work back q j) m).trap (run (staged come work back q j) m).mem
            (run (pick (q j) (stage_of come work back (stand q j) j) Empty)))
        go true y f =
            rw y (one_more (stand q j) j (omega arith) y (has q j) (run (staged come work back q j) m)
            (staged_to j (omega arith) y) f)
          where
            staged_to : (u : ℕ) → u < n → q u ≡ true → Before u (run (staged come work back q u) m).mem
            staged_to u lu z = staged_keeps u (Before u)
                (λ a la w m' x. before_kept a u (omega arith) lu (λ e. bar a la e) m' x) u (omega arith) m
                (before u lu z)
              where
                bar : (a : ℕ) → a < u → a ≡ u → ⊥
                bar a l e = omega arith
        go false y f = rw y (stay (run (staged come work back q j) m) (so_far (stand q j)) refl f)
          where
            stay : (r : After) (o : Option Trap) → so_far (stand q j) ≡ o → Passed j (stand q j) r
                → Passed (suc j) (stand q j) (go_on r.trap r.mem (run Empty))
            stay r o e f = grow (subst (λ x. Passed j (stand q j) x) (quiet r r.trap refl) f)
              where
                quiet : (r : After) (o : Option Trap) → r.trap ≡ o → r ≡ go_on r.trap r.mem (run Empty)
                quiet r None e = ap (λ o. record { mem = r.mem; trap = o }) e
                    ∙ sym (ap (λ o. go_on o r.mem (run Empty)) e)
                quiet r (Some x) e = ap (λ o. record { mem = r.mem; trap = o }) e
                    ∙ sym (ap (λ o. go_on o r.mem (run Empty)) e)

                grow : Passed j (stand q j) (go_on r.trap r.mem (run Empty))
                    → Passed (suc j) (stand q j) (go_on r.trap r.mem (run Empty))
                grow f = same_holds (stand q j) f
                  where
                    same_holds : (d : Stand) → Passed j d (go_on r.trap r.mem (run Empty))
                        → Passed (suc j) d (go_on r.trap r.mem (run Empty))
                    same_holds NoneYet f = f
                    same_holds (First t) f = f
                    same_holds (More p t) f = f

    -- the whole lane
    pub pipe_goes : (m : State) → ((t : ℕ) → t < n → q t ≡ true → Before t m)
        → ((run (piped come work back q n) m).trap ≡ first_trap n (only path q trap))
        × (((t : ℕ) → t < n → trap t ≡ None) → (t : ℕ) → t < n → q t ≡ true
        → Done t (run (piped come work back q n) m).mem)
    pipe_goes m before = end (stand q n) (has q n) (run (staged come work back q n) m) (passed n (omega arith) m before)
      where
        end : (d : Stand) → Has q d n → (r : After) → Passed n d r
            → ((go_on r.trap r.mem (run (last_of work back d))).trap ≡ first_trap n (only path q trap))
            × (((t : ℕ) → t < n → trap t ≡ None) → (t : ℕ) → t < n → q t ≡ true
            → Done t (go_on r.trap r.mem (run (last_of work back d))).mem)
        end NoneYet h r f =
            let e : go_on r.trap r.mem (run Empty) ≡ record { mem = r.mem; trap = None }
            = ap (λ o. go_on o r.mem (run Empty)) f.0 in
            (ap (λ x. x.trap) e ∙ sym (none_before n h), λ all t lt y. absurd (h t lt y))
        end (First t) h r f = one (trap t) refl
          where
            w : ((run (work t) r.mem).trap ≡ trap t) × (trap t ≡ None → Ran t (run (work t) r.mem).mem)
            w = works t h.0 r.mem (f.1 refl)

            start : go_on r.trap r.mem (run (Seq (Par (work t) Empty) (back t)))
                ≡ go_on (trap t) (run (work t) r.mem).mem (run (back t))
            start = ap (λ o. go_on o r.mem (run (Seq (Par (work t) Empty) (back t)))) f.0
                ∙ ap (λ o. go_on o (run (work t) r.mem).mem (run (back t))) (least_none (run (work t) r.mem).trap ∙ w.0)

            first : first_trap n (only path q trap) ≡ trap t
            first = first_upto t n h.0 h.1 (λ u tu un z. apart u tu (h.2 u un z))
                ∙ ap (λ o. first_of o (trap t)) (none_before t (λ u lu z. apart' u lu (h.2 u (omega (arith, h.0)) z)))
              where
                apart : (u : ℕ) → t < u → u ≡ t → ⊥
                apart u l e = omega arith

                apart' : (u : ℕ) → u < t → u ≡ t → ⊥
                apart' u l e = omega arith

            one : (o : Option Trap) → trap t ≡ o
                → ((go_on r.trap r.mem (run (Seq (Par (work t) Empty) (back t)))).trap
                ≡ first_trap n (only path q trap))
                × (((t : ℕ) → t < n → trap t ≡ None) → (u : ℕ) → u < n → q u ≡ true
                → Done u (go_on r.trap r.mem (run (Seq (Par (work t) Empty) (back t)))).mem)
            one (Some x) e = (
              ap (λ z. z.trap) start
                  ∙ ap (λ o. (go_on o (run (work t) r.mem).mem (run (back t))).trap) e ∙ sym e
                  ∙ sym first,
              λ all u lu y. absurd (let z = all t h.0 in let v : Some x ≡ None = sym e ∙ z in cc),
            )
            one None e =
                let b = backs t h.0 (run (work t) r.mem).mem (w.1 e) in
                let z = start ∙ ap (λ o. go_on o (run (work t) r.mem).mem (run (back t))) e in (
                  ap (λ v. v.trap) z ∙ b.0 ∙ sym e
                      ∙ sym first,
                  λ all u lu y. subst
                      (λ x. Done x (go_on r.trap r.mem (run (Seq (Par (work t) Empty) (back t)))).mem) (sym (h.2 u lu y))
                      (subst (λ v. Done t v.mem) (sym z) b.1),
                )
        end (More p t) h r f = prefix (first_trap t (only path q trap)) refl
          where
            fp : Comes q p t
            fp = last_two q p t n h

            first : first_trap n (only path q trap) ≡ first_of (first_trap t (only path q trap)) (trap t)
            first = first_upto t n h.0 h.1
                (λ u tu un z. ⊎_elim (λ a. bar u tu a) (λ a. ⊎_elim (λ c. bar' u tu c) (λ c. bar'' u tu c) a)
                (h.4 u un z))
              where
                bar : (u : ℕ) → t < u → u < p → ⊥
                bar u l a = let lp = h.2 in omega arith

                bar' : (u : ℕ) → t < u → u ≡ p → ⊥
                bar' u l a = let lp = h.2 in omega arith

                bar'' : (u : ℕ) → t < u → u ≡ t → ⊥
                bar'' u l a = omega arith

            prefix : (o : Option Trap) → first_trap t (only path q trap) ≡ o
                → ((go_on r.trap r.mem (run (Seq (Par (work t) (back p)) (back t)))).trap
                ≡ first_trap n (only path q trap))
                × (((t : ℕ) → t < n → trap t ≡ None) → (u : ℕ) → u < n → q u ≡ true
                → Done u (go_on r.trap r.mem (run (Seq (Par (work t) (back p)) (back t)))).mem)
            prefix (Some x) e = (
              ap (λ o. (go_on o r.mem (run (Seq (Par (work t) (back p)) (back t)))).trap) (f.0 ∙ e)
                  ∙ sym (first ∙ ap (λ o. first_of o (trap t)) e),
              λ all u lu y. absurd
                  (let z = first_of_none path t (only path q trap)
                  (λ v lv. quiet (q v) (trap v) (all v (omega (arith, h.0)))) in let v : Some x ≡ None = sym e ∙ z in cc),
            )
              where
                quiet : (b : Bool) (o : Option Trap) → o ≡ None → pick b o None ≡ None
                quiet true o e = e
                quiet false o e = refl
            prefix None e = one (trap t) refl
              where
                g : Ran p r.mem × Loaded t r.mem × ((u : ℕ) → u < p → q u ≡ true → Done u r.mem)
                g = f.1 e

                w : ((run (work t) r.mem).trap ≡ trap t) × (trap t ≡ None → Ran t (run (work t) r.mem).mem)
                w = works t h.0 r.mem g.1

                b : ((run (back p) (run (work t) r.mem).mem).trap ≡ None)
                    × Done p (run (back p) (run (work t) r.mem).mem).mem
                b = backs p (omega (arith, h.0, h.2)) (run (work t) r.mem).mem (ran_kept p t fp h.0 r.mem g.0).1

                start : go_on r.trap r.mem (run (Seq (Par (work t) (back p)) (back t)))
                    ≡ go_on (trap t) (run (back p) (run (work t) r.mem).mem).mem (run (back t))
                start =
                    ap (λ o. go_on o r.mem (run (Seq (Par (work t) (back p)) (back t)))) (f.0 ∙ e)
                    ∙ ap (λ o. go_on o (run (back p) (run (work t) r.mem).mem).mem (run (back t)))
                    (ap (least (run (work t) r.mem).trap) b.0 ∙ least_none (run (work t) r.mem).trap ∙ w.0)

                one : (o : Option Trap) → trap t ≡ o
                    → ((go_on r.trap r.mem (run (Seq (Par (work t) (back p)) (back t)))).trap
                    ≡ first_trap n (only path q trap))
                    × (((t : ℕ) → t < n → trap t ≡ None) → (u : ℕ) → u < n → q u ≡ true
                    → Done u (go_on r.trap r.mem (run (Seq (Par (work t) (back p)) (back t)))).mem)
                one (Some x) e' = (
                  ap (λ z. z.trap) start
                      ∙ ap (λ o. (go_on o (run (back p) (run (work t) r.mem).mem).mem (run (back t))).trap) e' ∙ sym e'
                      ∙ sym (first ∙ ap (λ o. first_of o (trap t)) e),
                  λ all u lu y. absurd
                      (let z = all t h.0 in let v : Some x ≡ None = sym e' ∙ z in cc),
                )
                one None e' =
                    let ran = ran_kept_back p t fp h.0 (run (work t) r.mem).mem (w.1 e') in
                    let d = backs t h.0 (run (back p) (run (work t) r.mem).mem).mem ran in
                    let z = start ∙ ap (λ o. go_on o (run (back p) (run (work t) r.mem).mem).mem (run (back t))) e' in (
                      ap (λ v. v.trap) z ∙ d.0 ∙ sym e'
                          ∙ sym (first ∙ ap (λ o. first_of o (trap t)) e),
                      λ all u lu y. subst (λ v. Done u v.mem) (sym z)
                          (finish u lu y (h.4 u lu y)),
                    )
                  where
                    keep : (u : ℕ) → u < n → t ≢ u → Done u (run (back p) (run (work t) r.mem).mem).mem
                        → Done u (run (back t) (run (back p) (run (work t) r.mem).mem).mem).mem
                    keep u lu ne x = (done_kept t u h.0 lu ne (run (back p) (run (work t) r.mem).mem).mem x).2

                    finish : (u : ℕ) → u < n → q u ≡ true → (u < p) ⊎ ((u ≡ p) ⊎ (u ≡ t))
                        → Done u (run (back t) (run (back p) (run (work t) r.mem).mem).mem).mem
                    finish u lu y (inl a) = keep u lu (λ e. bar e)
                        (done_kept p u (omega (arith, h.0, h.2)) lu (λ e. bar' e) (run (work t) r.mem).mem
                        (done_kept t u h.0 lu (λ e. bar e) r.mem (g.2 u a y)).1).2
                      where
                        bar : t ≡ u → ⊥
                        bar e = let lp = h.2 in omega arith

                        bar' : p ≡ u → ⊥
                        bar' e = omega arith
                    finish u lu y (inr (inl a)) = keep u lu (λ e. bar e)
                        (subst (λ x. Done x (run (back p) (run (work t) r.mem).mem).mem) (sym a) b.1)
                      where
                        bar : t ≡ u → ⊥
                        bar e = let lp = h.2 in omega arith
                    finish u lu y (inr (inr a)) = subst
                        (λ x. Done x (run (back t) (run (back p) (run (work t) r.mem).mem).mem).mem) (sym a)
                        (backs t h.0 (run (back p) (run (work t) r.mem).mem).mem
                        (ran_kept_back p t fp h.0 (run (work t) r.mem).mem (w.1 e'))).1

-- lanes beside one another, each with overlapped transfers
module _ (path : List ℕ) (n : ℕ) (lane : ℕ → ℕ) (come work back : ℕ → Tree) (trap : ℕ → Option Trap)
    (Before Loaded Ran Done : ℕ → State → Type 0)
    (comes : (t : ℕ) → t < n → (m : State) → Before t m → ((run (come t) m).trap ≡ None)
    × Loaded t (run (come t) m).mem)
    (works : (t : ℕ) → t < n → (m : State) → Loaded t m → ((run (work t) m).trap ≡ trap t)
    × (trap t ≡ None → Ran t (run (work t) m).mem))
    (backs : (t : ℕ) → t < n → (m : State) → Ran t m → ((run (back t) m).trap ≡ None) × Done t (run (back t) m).mem)
    (before_kept : (a b : ℕ) → a < n → b < n → a ≢ b → (m : State) → Before b m → Before b (run (come a) m).mem
    × Before b (run (work a) m).mem × Before b (run (back a) m).mem)
    (done_kept : (a b : ℕ) → a < n → b < n → a ≢ b → (m : State) → Done b m → Done b (run (come a) m).mem
    × Done b (run (work a) m).mem × Done b (run (back a) m).mem)
    (ran_kept : (c p t : ℕ) → Comes (λ t. eqb (lane t) c) p t → t < n → (m : State) → Ran p m
    → Ran p (run (come t) m).mem × Ran p (run (work t) m).mem)
    (ran_kept_back : (c p t : ℕ) → Comes (λ t. eqb (lane t) c) p t → t < n → (m : State) → Ran t m
    → Ran t (run (back p) m).mem)
  where
    abbrev one_pipe : ℕ → Tree
    one_pipe c = piped come work back (λ t. eqb (lane t) c) n

    pub pipes_go : (c : ℕ) (m : State) → ((t : ℕ) → t < n → Before t m)
        → ((run (beside c one_pipe) m).trap ≡ leasts path c (λ d. first_trap n (only path (λ t. eqb (lane t) d) trap)))
        × (((t : ℕ) → t < n → trap t ≡ None) → (t : ℕ) → t < n → lane t < c → Done t (run (beside c one_pipe) m).mem)
    pipes_go zero m before = (refl, λ all t l y. absurd (omega arith))
    pipes_go (suc c) m before =
        let rec = pipes_go c m before in
        let m1 = (run (beside c one_pipe) m).mem in
        let last = pipe_goes path n (λ t. eqb (lane t) c) come work back trap Before Loaded Ran Done comes works backs
        before_kept done_kept (ran_kept c) (ran_kept_back c) m1
        (λ t l y. beside_keep (Before t) c one_pipe
        (λ d ld m' b. piped_keeps path n (λ t. eqb (lane t) d) come work back trap Before Loaded Ran Done comes
        works backs before_kept done_kept (ran_kept d) (ran_kept_back d) n (Before t)
        (λ a la z m'' x. before_kept a t la l
        (λ w. other t a d ld (eqb-true (lane t) c y) (eqb-true (lane a) d z) w) m'' x) m' b) m (before t l)) in (
          ap₂ least rec.0 last.0,
          λ all t l y. ⊎_elim (λ i. last.1 all t l (eq-eqb (lane t) c i))
              (λ i. piped_keeps path n (λ t. eqb (lane t) c) come work back trap Before Loaded Ran Done comes works backs
              before_kept done_kept (ran_kept c) (ran_kept_back c) n (Done t)
              (λ a la z m' x. done_kept a t la l (λ w. later t a i (eqb-true (lane a) c z) w) m' x) m1 (rec.1 all t l i))
              (end_or_below (lane t) c y),
        )
      where
        other : (t a d : ℕ) → d < c → lane t ≡ c → lane a ≡ d → a ≡ t → ⊥
        other t a d lt e f w = let g : lane a ≡ lane t = ap lane w in omega arith

        later : (t a : ℕ) → lane t < c → lane a ≡ c → a ≡ t → ⊥
        later t a lt f w = let g : lane a ≡ lane t = ap lane w in omega arith
