-- A call of a taken loop in its three parts: what comes in, the work, what goes back.
use Rattle.std.proofs.Common.{◌≡◌, ◌≢◌, ℕ, zero, suc, ◌<◌, ◌≤◌, Bool, true, false, eqb, Option, Some, None, refl, sym}
use Rattle.std.proofs.Common.{ap, ◌∙◌, subst, arith, List, ◌⊎◌, inl, inr, ⊎_elim, eqb-true, eq-eqb}
use Rattle.sq_cells.specs.Cells.{Spot, spot, State, find, put_at, put_if}
use Rattle.sq_cells.specs.Tree.{Tree, Empty, Seq, run, Writes}
use Rattle.sq_cells.specs.Machine.{Form, Node, child_of}
use Rattle.sq_cells.specs.Work.{Mode, Input, Output, Both, Local, Reduced, Buffer, Held, Array, Work, Call, returned}
use Rattle.sq_cells.specs.Work.{reads, is_reduced, start_of, entry_of, come_back, meaning}
use Rattle.sq_cells.specs.Lowered.{Layout, pick, stays, in_place, held, bring, clear, beside, outs, comes, starts}
use Rattle.sq_cells.specs.Lowered.{works, IsIn, TwiceCell, Sets, CallFits, CallPlaced}
use Rattle.sq_cells.specs.Correct.{Follows, Meets}
use Rattle.sq_cells.proofs.Cells.{found}
use Rattle.sq_cells.proofs.Trees.{run_frame}
use Rattle.sq_cells.proofs.Access.{end_or_below, local_cases}
use Rattle.sq_cells.proofs.Stands.{of_pick, of_other}
use Rattle.sq_cells.proofs.Footprint.{bring_writes, held_true}
use Rattle.sq_cells.proofs.Parts.{writes_of, lay, place_two, buffer_one, lay_own, CopiedOut, in_needs, come_puts}
use Rattle.sq_cells.proofs.Parts.{come_adds, back_puts, back_adds}
use Rattle.sq_cells.proofs.Calls.{beside_none, seq_run, bring_none, bring_value, clear_none, give_none, to_src, cleared}
use Rattle.sq_cells.proofs.Calls.{gone_back, all_back}

start_reads : (m : Mode) (k v : ℕ) → reads m ≡ true → start_of m k v ≡ v
start_reads Input k v e = refl
start_reads Output k v e = cc
start_reads Both k v e = refl
start_reads Local k v e = cc
start_reads (Reduced op) k v e = cc

-- two callees with the same values in the blocks that have an element
pub come_back_same : (n : ℕ) (arrays : ℕ → Array) (f g x : State) (l : Spot)
    → ((i k : ℕ) → i < n → k < (arrays i).size → returned (arrays i).mode ≡ true → (arrays i).block k ≡ l → f (spot i k)
    ≡ g (spot i k)) → come_back n arrays f x l ≡ come_back n arrays g x l
come_back_same zero arrays f g x l h = refl
come_back_same (suc n) arrays f g x l h
    = one (returned (arrays n).mode) refl
    (come_back_same n arrays f g x l (λ i k li lk r e. h i k (omega arith) lk r e))
  where
    at_find : (o : Option ℕ) → find (arrays n).size (arrays n).block l ≡ o → (returned (arrays n).mode ≡ true)
        → (a b : ℕ) → a ≡ b → put_at o (λ k. f (spot n k)) a ≡ put_at o (λ k. g (spot n k)) b
    at_find None e r a b ab = ab
    at_find (Some k) e r a b ab = let y = found (arrays n).size (arrays n).block l k e in h n k (omega arith) y.0 r y.1

    one : (b : Bool) → returned (arrays n).mode ≡ b → come_back n arrays f x l ≡ come_back n arrays g x l
        → put_if (returned (arrays n).mode) (arrays n).size (arrays n).block (λ k. f (spot n k))
        (come_back n arrays f x) l ≡ put_if (returned (arrays n).mode) (arrays n).size (arrays n).block
        (λ k. g (spot n k)) (come_back n arrays g x) l
    one true e rec = rw e (at_find (find (arrays n).size (arrays n).block l) refl e (come_back n arrays f x l)
        (come_back n arrays g x l) rec)
    one false e rec = rw e rec

module _ (key : Form) (c : ℕ) (arrays : ℕ → Array) (w : Work) (node : Node) (kid : ℕ) (at : Layout)
    (fits : CallFits c arrays w (child_of node kid)) (low : (i : ℕ) → i < c → in_place (arrays i).place ≡ false)
    (plain : (i : ℕ) → i < c → is_reduced (arrays i).mode ≡ false) where
  abbrev pub cells : Layout
  cells = lay key c arrays w node kid at fits low plain

  abbrev pub elem : Layout
  elem l = (arrays l.area).block l.index

  abbrev pub in_tree : Tree
  in_tree = comes c arrays at cells

  abbrev pub work_tree : Tree → Tree
  work_tree body = works c arrays at cells body

  abbrev pub out_tree : Tree
  out_tree = outs c arrays at cells

  abbrev clears : Tree
  clears = beside c (λ i. clear (arrays i).mode (arrays i).size (λ k. cells (spot i k)))

  abbrev one_come : ℕ → Tree
  one_come i = pick (held (arrays i).place) Empty
      (bring (arrays i).mode (stays (arrays i).place) (arrays i).size (λ k. at ((arrays i).block k))
      (λ k. cells (spot i k)))

  abbrev one_start : ℕ → Tree
  one_start i = pick (held (arrays i).place)
      (bring (arrays i).mode (stays (arrays i).place) (arrays i).size (λ k. at ((arrays i).block k))
      (λ k. cells (spot i k))) Empty

  -- what the parts write
  pub in_writes : (p : Spot) → Writes in_tree p → TwiceCell (child_of node kid) key c arrays p
  in_writes p h = ⊎_elim (λ x. come_puts key c arrays w node kid at fits low plain p x)
      (λ x. absurd (come_adds key c arrays w node kid at fits low plain x.0 p x.1)) (writes_of in_tree p h)

  pub out_writes : (p : Spot) → Writes out_tree p → CopiedOut key c arrays w node kid at fits low plain p
  out_writes p h = ⊎_elim (λ x. back_puts key c arrays w node kid at fits low plain p x)
      (λ x. absurd (back_adds key c arrays w node kid at fits low plain x.0 p x.1)) (writes_of out_tree p h)

  -- and that they don't trap
  pub in_none : (m : State) → (run in_tree m).trap ≡ None
  in_none m = beside_none c one_come (λ i li m'. go i (held (arrays i).place) m') m
    where
      go : (i : ℕ) (b : Bool) (m' : State)
          → (run (pick b Empty (bring (arrays i).mode (stays (arrays i).place) (arrays i).size
          (λ k. at ((arrays i).block k)) (λ k. cells (spot i k)))) m').trap ≡ None
      go i true m' = refl
      go i false m' = bring_none (arrays i).mode (stays (arrays i).place) (arrays i).size _ _ m'

  start_none : (m : State) → (run (starts c arrays at cells) m).trap ≡ None
  start_none m = beside_none c one_start (λ i li m'. go i (held (arrays i).place) m') m
    where
      go : (i : ℕ) (b : Bool) (m' : State)
          → (run (pick b (bring (arrays i).mode (stays (arrays i).place) (arrays i).size (λ k. at ((arrays i).block k))
          (λ k. cells (spot i k))) Empty) m').trap ≡ None
      go i true m' = bring_none (arrays i).mode (stays (arrays i).place) (arrays i).size _ _ m'
      go i false m' = refl

  pub out_none : (m : State) → (run out_tree m).trap ≡ None
  out_none m = beside_none c _ (λ i li m'. give_none (arrays i).mode (stays (arrays i).place) (arrays i).size _ _ m') m

  module _ (placed : CallPlaced (child_of node kid) key c arrays w) where
    -- each cell has one name
    pub cell_one : (l l' : Spot) → IsIn c arrays l → IsIn c arrays l' → cells l ≡ cells l' → l ≡ l'
    cell_one l l' i i' e = placed.separate l l' i i' (low l.area i.0) (low l'.area i'.0)
        (sym (lay_own key c arrays w node kid at fits low plain l i.0) ∙ e
        ∙ lay_own key c arrays w node kid at fits low plain l' i'.0)

    module _ (R : Spot → Spot → Type 0) (meets : Meets R (Call key true c arrays w) node kid at) where
      -- a source of a copy in is none of the call's cells
      pub source_apart : (q l : Spot) → IsIn c arrays q → (arrays q.area).place ≡ Buffer → reads (arrays q.area).mode
          ≡ true → IsIn c arrays l → (arrays l.area).place ≡ Buffer → cells l ≡ at (elem q) → ⊥
      source_apart q l i b r i' b' e = meets.apart (elem q) (at (elem q))
          (inl (meets.cover (elem q) (at (elem q))
          (in_needs key c arrays w node kid at fits low plain (at (elem q)) (q, i, b, r, refl))))
          (inl (l, i', b', sym (lay_own key c arrays w node kid at fits low plain l i'.0) ∙ e))

      module _ (s : State) where
        record Come (j : ℕ) (m : State) : Type 0 where
          settled : (l : Spot) → IsIn c arrays l → (arrays l.area).place ≡ Buffer → l.area < j
              → (arrays l.area).mode ≢ Local → m (cells l) ≡ entry_of arrays s l
          waiting : (l : Spot) → IsIn c arrays l → (arrays l.area).place ≡ Buffer → reads (arrays l.area).mode ≡ true
              → m (at (elem l)) ≡ s (elem l)

        come_step : (j : ℕ) → j < c → (m : State) → Come j m → Come (suc j) (run (one_come j) m).mem
        come_step j lt m d = record {
          settled = λ l i b la ne. ⊎_elim (λ e. here l i b ne e)
              (λ la'. frame l i (λ e. never l e la') ∙ d.settled l i b la' ne) (end_or_below l.area j la);
          waiting = λ l i b r. run_frame (one_come j) m (at (elem l))
              (λ h. let g = writes (at (elem l)) h in source_apart l (spot j g.0) i b r (lt, g.1) g.2 g.3)
              ∙ d.waiting l i b r;
        }
          where
            never : (l : Spot) → l.area ≡ j → l.area < j → ⊥
            never l e h = omega arith

            writes : (p : Spot) → Writes (one_come j) p → (k : ℕ) × (k < (arrays j).size) × ((arrays j).place ≡ Buffer)
                × (cells (spot j k) ≡ p)
            writes p h =
                let a = of_other Writes (λ p h. h) (λ a b p h. h) (λ a b p h. h) (held (arrays j).place) _ p h in
                let g = bring_writes (arrays j).mode (stays (arrays j).place) (arrays j).size _ _ p a.1 in
                (g.0, g.1, buffer_one key c arrays w node kid at fits low plain j lt a.0, g.2)

            frame : (l : Spot) → IsIn c arrays l → l.area ≢ j → (run (one_come j) m).mem (cells l) ≡ m (cells l)
            frame l i ne = run_frame (one_come j) m (cells l)
                (λ h. let g = writes (cells l) h in ne
                (sym (ap (λ (v : Spot). v.area) (cell_one (spot j g.0) l (lt, g.1) i g.3))))

            here : (l : Spot) → IsIn c arrays l → (arrays l.area).place ≡ Buffer → (arrays l.area).mode ≢ Local → l.area
                ≡ j → (run (one_come j) m).mem (cells l) ≡ entry_of arrays s l
            here l i b ne e =
                subst (λ x. (run (one_come x) m).mem (cells l) ≡ entry_of arrays s l) e
                (subst (λ x. (run (pick x Empty
                (bring (arrays l.area).mode (stays (arrays l.area).place) (arrays l.area).size
                (λ k. at ((arrays l.area).block k)) (λ k. cells (spot l.area k)))) m).mem (cells l)
                ≡ entry_of arrays s l) (sym (ap held b))
                (bring_value (arrays l.area).mode (stays (arrays l.area).place) (arrays l.area).size
                (λ k. at ((arrays l.area).block k)) (λ k. cells (spot l.area k)) m l.index (s (elem l)) i.1 ne
                (λ pr. ap stays b)
                (λ r x. absurd (let z : stays (arrays l.area).place ≡ false = ap stays b in cc))
                (λ r x. d.waiting l i b r)
                (λ may k lk f. ap (λ (v : Spot). v.index) (cell_one (spot l.area k) l (i.0, lk) i f))))

        came_all : (j : ℕ) → j ≤ c → (m : State) → Come 0 m → Come j (run (beside j one_come) m).mem
        came_all zero le m d = d
        came_all (suc j) le m d = come_step j (omega arith) (run (beside j one_come) m).mem
            (came_all j (omega arith) m d)

        -- what comes in
        pub came_in : (m : State) → ((l : Spot) → IsIn c arrays l → (arrays l.area).place ≡ Buffer → reads
            (arrays l.area).mode ≡ true → m (at (elem l)) ≡ s (elem l)) → (l : Spot) → IsIn c arrays l
            → (arrays l.area).place ≡ Buffer → (arrays l.area).mode ≢ Local → (run in_tree m).mem (cells l)
            ≡ entry_of arrays s l
        came_in m h l i b ne = (came_all c (omega arith) m
            (record { settled = λ l i b la ne. absurd (omega arith); waiting = h })).settled l i b i.0 ne

        -- the held `out` arrays are filled
        abbrev Start : ℕ → State → Type 0
        Start j m = (l : Spot) → IsIn c arrays l → (arrays l.area).mode ≢ Local
            → (((arrays l.area).place ≡ Buffer) ⊎ (reads (arrays l.area).mode ≡ true)) ⊎ (l.area < j) → m (cells l)
            ≡ entry_of arrays s l

        start_step : (j : ℕ) → j < c → (m : State) → Start j m → Start (suc j) (run (one_start j) m).mem
        start_step j lt m d l i ne h = go (eqb l.area j) refl
          where
            writes : (p : Spot) → Writes (one_start j) p → (k : ℕ) × (k < (arrays j).size) × (cells (spot j k) ≡ p)
            writes p h =
                let a = of_pick Writes (λ p h. h) (λ a b p h. h) (λ a b p h. h) (held (arrays j).place) _ p h in
                let g = bring_writes (arrays j).mode (stays (arrays j).place) (arrays j).size _ _ p a.1 in
                (g.0, g.1, g.2)

            less : l.area < suc j → l.area ≢ j → l.area < j
            less a b = ⊎_elim (λ e. absurd (b e)) (λ e. e) (end_or_below l.area j a)

            start_there : l.area ≡ j → (b : Bool) → held (arrays l.area).place ≡ b
                → (run (pick b (bring (arrays l.area).mode (stays (arrays l.area).place) (arrays l.area).size
                (λ k. at ((arrays l.area).block k)) (λ k. cells (spot l.area k))) Empty) m).mem (cells l)
                ≡ entry_of arrays s l
            start_there e false b = d l i ne
                (inl (inl (buffer_one key c arrays w node kid at fits low plain l.area i.0 b)))
            start_there e true b =
                bring_value (arrays l.area).mode (stays (arrays l.area).place) (arrays l.area).size
                (λ k. at ((arrays l.area).block k)) (λ k. cells (spot l.area k)) m l.index (s (elem l)) i.1 ne
                (λ pr. ap stays (fits.private_own l.area i.0 pr))
                (λ r x. d l i ne (inl (inr r)) ∙ start_reads (arrays l.area).mode l.index (s (elem l)) r)
                (λ r x. absurd (let z : stays (arrays l.area).place ≡ true
                = ap stays (held_true (arrays l.area).place b) in cc))
                (λ may k lk f. ap (λ (v : Spot). v.index) (cell_one (spot l.area k) l (i.0, lk) i f))

            go : (b : Bool) → eqb l.area j ≡ b → (run (one_start j) m).mem (cells l) ≡ entry_of arrays s l
            go true e = let z = eqb-true l.area j e in subst
                (λ x. (run (one_start x) m).mem (cells l) ≡ entry_of arrays s l) z
                (start_there z (held (arrays l.area).place) refl)
            go false e =
                let other : l.area ≢ j = λ z. (let y = eq-eqb l.area j z in cc) in
                run_frame (one_start j) m (cells l)
                (λ x. let g = writes (cells l) x in other
                (sym (ap (λ (v : Spot). v.area) (cell_one (spot j g.0) l (lt, g.1) i g.2))))
                ∙ d l i ne (⊎_elim (λ x. inl x) (λ x. inr (less x other)) h)

        start_all : (j : ℕ) → j ≤ c → (m : State) → Start 0 m → Start j (run (beside j one_start) m).mem
        start_all zero le m d = d
        start_all (suc j) le m d = start_step j (omega arith) (run (beside j one_start) m).mem
            (start_all j (omega arith) m d)

        -- the work
        pub work_follows : (path : List ℕ) (body : Tree)
            → ((s' m' : State) → ((l p : Spot) → IsIn c arrays l × (cells l ≡ p) → m' p ≡ s' l)
            → Follows (λ l p. (IsIn c arrays l × (cells l ≡ p)) ⊎ Sets w (child_of node kid) 0 cells l p) path
            (meaning w s') (run body m')) →
            (m : State) → ((l : Spot) → IsIn c arrays l → (arrays l.area).place ≡ Buffer → (arrays l.area).mode ≢ Local
            → m (cells l) ≡ entry_of arrays s l)
            → ((l : Spot) → IsIn c arrays l → (arrays l.area).place ≡ Held → reads (arrays l.area).mode ≡ true
            → m (cells l) ≡ s (elem l)) →
            Follows (λ l p. (IsIn c arrays l × (cells l ≡ p)) ⊎ Sets w (child_of node kid) 0 cells l p) path
            (meaning w (entry_of arrays s)) (run (work_tree body) m)
        work_follows path body ih m loaded holds =
            subst (Follows (λ l p. (IsIn c arrays l × (cells l ≡ p)) ⊎ Sets w (child_of node kid) 0 cells l p) path
            (meaning w (entry_of arrays s))) (sym whole)
            (ih (entry_of arrays s) m2 (λ l p h. ap m2 (sym h.1) ∙ entered l h.0))
          where
            m1 : State
            m1 = (run (starts c arrays at cells) m).mem

            m2 : State
            m2 = (run clears (run (starts c arrays at cells) m).mem).mem

            whole : run (work_tree body) m ≡ run body m2
            whole =
                seq_run (starts c arrays at cells) (Seq clears body) m (start_none m)
                ∙ seq_run clears body m1 (beside_none c _ (λ i li m'. clear_none (arrays i).mode (arrays i).size _ m')
                m1)

            first : Start 0 m
            first l i ne h = ⊎_elim (λ x. ⊎_elim (λ b. loaded l i b ne)
                (λ r. ⊎_elim (λ b. loaded l i b ne)
                (λ b. holds l i b r ∙ sym (start_reads (arrays l.area).mode l.index (s (elem l)) r))
                (place_two key c arrays w node kid at fits low plain l.area i.0)) x) (λ x. absurd (omega arith)) h

            entered : (l : Spot) → IsIn c arrays l → m2 (cells l) ≡ entry_of arrays s l
            entered l i =
                let d = cleared key c true arrays w node kid at R fits placed meets s c (omega arith) m1
                (record {
                  params = λ l i ne. start_all c (omega arith) m first l i ne (inr i.0);
                  locals
                      = λ l i la lo. absurd (omega arith);
                }) in
                ⊎_elim (λ lo. d.locals l i i.0 lo) (λ ne. d.params l i ne) (local_cases (arrays l.area).mode)

        -- what goes back; the held elements aside
        pub went_back : (after m : State)
            → ((l p : Spot) → R l p → ((i k : ℕ) → i < c → k < (arrays i).size → returned (arrays i).mode ≡ true →
            (arrays i).block k ≡ l → ⊥) → m p ≡ s l)
            → ((l : Spot) → IsIn c arrays l → (arrays l.area).place ≡ Buffer → returned (arrays l.area).mode ≡ true
            → m (cells l) ≡ after l) →
            (l p : Spot) → R l p ⊎ Sets (Call key true c arrays w) node kid at l p
            → ((q : Spot) → IsIn c arrays q → (arrays q.area).place ≡ Held → returned (arrays q.area).mode ≡ true
            → elem q ≡ l → ⊥) → (run out_tree m).mem p ≡ come_back c arrays after s l
        went_back after m other ran l p h aside =
            all_back key c true arrays w node kid at R fits placed meets s (λ q. m (cells q)) (run out_tree m).mem
            (gone_back key c true arrays w node kid at R fits placed meets s (λ q. m (cells q)) c (omega arith) m
            (record {
              given = λ i k li lk r h. ⊎_elim (λ z. absurd (omega arith))
                  (λ t. ap m (sym (to_src key c true arrays w node kid at R fits placed meets (spot i k) t))) h;
              other = other;
              kept = λ l i b. refl;
            })) l p h
            ∙ come_back_same c arrays (λ q. m (cells q)) after s l
            (λ i k li lk r e. ⊎_elim (λ b. ran (spot i k) (li, lk) b r) (λ b. absurd (aside (spot i k) (li, lk) b r e))
            (place_two key c arrays w node kid at fits low plain i li))
