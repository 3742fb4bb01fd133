-- A taken loop: transfers of the iterations before and after stand beside the work, and two sets of buffers are used in
-- turn.
use Rattle.std.proofs.Common.{◌≡◌, ◌≢◌, ℕ, zero, suc, ◌<◌, ◌≤◌, Bool, true, false, eqb, Some, None, refl, sym, ap, ap₂}
use Rattle.std.proofs.Common.{◌∙◌, subst, arith, List, [], ◌∷◌, ◌++◌, append_assoc, ◌⊎◌, inl, inr, ⊎_elim, eqb-true}
use Rattle.std.proofs.Common.{eq-eqb}
use Rattle.sq_cells.specs.Cells.{Spot, spot, State}
use Rattle.sq_ir.specs.Runs.{least}
use Rattle.sq_cells.specs.Tree.{Trap, Tree, Empty, Seq, Par, After, go_on, run, Writes}
use Rattle.sq_cells.specs.Machine.{Form, Node, child_of}
use Rattle.sq_cells.specs.Work.{Local, Buffer, Held, Array, Work, Call, Piped, Outcome, Ends, Traps, and_then, front}
use Rattle.sq_cells.specs.Work.{numbered, in_turn, returned, reads, entry_of, come_back, returns_to, meaning}
use Rattle.sq_cells.specs.Lowered.{Layout, own, held, layout, every, mates, Stand, First, More, next_stand, stand}
use Rattle.sq_cells.specs.Lowered.{stage_of, staged, last_of, piped, set_of, piped_come, piped_work, piped_back, tree}
use Rattle.sq_cells.specs.Lowered.{IsIn, BufferCell, Comes, TwiceCell, Scratch, Needs, Sets, CallFits, CallPlaced}
use Rattle.sq_cells.specs.Lowered.{Sound}
use Rattle.sq_cells.specs.Correct.{under, Follows, Meets}
use Rattle.sq_cells.proofs.Trees.{run_frame}
use Rattle.sq_cells.proofs.Access.{end_or_below, bool_cases, returned_not_local, reads_not_local}
use Rattle.sq_cells.proofs.Stands.{least_none}
use Rattle.sq_cells.proofs.Parts.{writes_of, place_two, lay_own, source_held, source_buffer, out_sets, work_puts}
use Rattle.sq_cells.proofs.Parts.{work_adds, closed_of, tree_puts, tree_adds}
use Rattle.sq_cells.proofs.Calls.{seq_run, come_back_in, come_back_out}
use Rattle.sq_cells.proofs.Holds.{IsBack, is_back}
use Rattle.sq_cells.proofs.Transfers.{in_writes, out_writes, in_none, out_none, came_in, work_follows, went_back}

-- a list that has every iteration
abbrev earlier : (ℕ → Tree) → ℕ → Tree
earlier back zero = Empty
earlier back (suc t) = back t

abbrev begun : (come work back : ℕ → Tree) → ℕ → Tree
begun come work back zero = Seq Empty (come 0)
begun come work back (suc j) = Seq (begun come work back j) (Par (work j) (Seq (earlier back j) (come (suc j))))

abbrev line : ℕ → Stand
line zero = First 0
line (suc i) = More i (suc i)

line_next : (i : ℕ) → next_stand (line i) (suc i) ≡ line (suc i)
line_next zero = refl
line_next (suc i) = refl

line_is : (j : ℕ) → stand every (suc j) ≡ line j
line_is zero = refl
line_is (suc i) = ap (λ d. next_stand d (suc i)) (line_is i) ∙ line_next i

line_stage : (come work back : ℕ → Tree) (i : ℕ) → stage_of come work back (line i) (suc i)
    ≡ Par (work i) (Seq (earlier back i) (come (suc i)))
line_stage come work back zero = refl
line_stage come work back (suc i) = refl

line_last : (work back : ℕ → Tree) (i : ℕ) → last_of work back (line i) ≡ Seq (Par (work i) (earlier back i)) (back i)
line_last work back zero = refl
line_last work back (suc i) = refl

staged_line : (come work back : ℕ → Tree) (j : ℕ) → staged come work back every (suc j) ≡ begun come work back j
staged_line come work back zero = refl
staged_line come work back (suc i)
    = ap₂ Seq (staged_line come work back i)
    (ap (λ d. stage_of come work back d (suc i)) (line_is i) ∙ line_stage come work back i)

piped_line : (come work back : ℕ → Tree) (k : ℕ) → piped come work back every (suc k)
    ≡ Seq (begun come work back k) (Seq (Par (work k) (earlier back k)) (back k))
piped_line come work back k = ap₂ Seq (staged_line come work back k)
    (ap (last_of work back) (line_is k) ∙ line_last work back k)

module _ (n : ℕ) (form second : Form) (c : ℕ) (arrays : ℕ → ℕ → Array) (w : ℕ → Work) (node : Node) (kid : ℕ)
    (at : Layout) (path : List ℕ) (R : Spot → Spot → Type 0)
    (sound : Sound (Piped None n form second c arrays w) node kid)
    (meets : Meets R (Piped None n form second c arrays w) node kid at) where
  abbrev key : ℕ → Form
  key t = set_of None node n form second t

  abbrev call : ℕ → Work
  call t = Call (key t) true c (arrays t) (w t)

  abbrev lay : ℕ → Layout
  lay t = layout (child_of node kid) (key t) (arrays t) at

  abbrev body : ℕ → Tree
  body t = tree (w t) (child_of node kid) 0 (lay t) (path ++ t ∷ [])

  abbrev come : ℕ → Tree
  come = piped_come None node kid n form second c arrays at

  abbrev work : ℕ → Tree
  work = piped_work None node kid n form second c arrays at body

  abbrev back : ℕ → Tree
  back = piped_back None node kid n form second c arrays at

  abbrev elem : ℕ → Layout
  elem t l = (arrays t l.area).block l.index

  fit : (t : ℕ) → t < n → CallFits c (arrays t) (w t) (child_of node kid)
  fit t lt = (sound.3 t lt).0

  plc : (t : ℕ) → t < n → CallPlaced (child_of node kid) (key t) c (arrays t) (w t)
  plc t lt = (sound.3 t lt).1

  two : (t : ℕ) → t < n → (i : ℕ) → i < c → ((arrays t i).place ≡ Buffer) ⊎ ((arrays t i).place ≡ Held)
  two t lt i li = place_two (key t) c (arrays t) (w t) node kid at (fit t lt) (λ i li. sound.0.lower t i lt li)
      (λ i li. sound.0.plain t i lt li) i li

  at_own : (t : ℕ) → t < n → (l : Spot) → l.area < c → lay t l ≡ own (child_of node kid) (key t) l
  at_own t lt l la = lay_own (key t) c (arrays t) (w t) node kid at (fit t lt) (λ i li. sound.0.lower t i lt li)
      (λ i li. sound.0.plain t i lt li) l la

  -- what is held before iteration j
  abbrev pub Before : ℕ → Spot → Spot → Type 0
  Before j l p = R l p ⊎ ((t : ℕ) × (t < j) × Sets (call t) node kid at l p)

  grown_up : (j : ℕ) → j ≤ n → (l p : Spot) → Before j l p → R l p
      ⊎ Sets (Piped None n form second c arrays w) node kid at l p
  grown_up j le l p (inl h) = inl h
  grown_up j le l p (inr h) = inr (h.0, omega (arith, h.1), h.2)

  both_up : (j : ℕ) → j < n → (l p : Spot) → Before j l p ⊎ Sets (call j) node kid at l p → R l p
      ⊎ Sets (Piped None n form second c arrays w) node kid at l p
  both_up j lt l p (inl h) = grown_up j (omega arith) l p h
  both_up j lt l p (inr h) = inr (j, lt, h)

  pub call_meets : (t : ℕ) → t < n → Meets (Before t) (call t) node kid at
  call_meets t lt = record {
    cover = λ l p h. inl (meets.cover l p (t, lt, h));
    one = λ l p p' h h'. meets.one l p p' (t, lt, h) (both_up t lt l p' h');
    clear = λ l l' p h h'. meets.clear l l' p (t, lt, h) (both_up t lt l' p h');
    apart = λ l p h x. meets.apart l p (both_up t lt l p h) (t, lt, x);
    aside = λ l l' p h x. meets.aside l l' p (both_up t lt l p h) (t, lt, x);
    sums = λ l l' p h h'. meets.sums l l' p (t, lt, h) (t, lt, h');
    sum_apart = λ l p h x. meets.sum_apart l p (t, lt, h) (t, lt, x);
  }

  -- a held array is that of each iteration
  kept_at : (t u : ℕ) → t < n → u < n → (l : Spot) → IsBack c (arrays t) l → IsBack c (arrays u) l
  kept_at t u lt lu l h =
      let q = h.0 in
      let g = sound.1.held_same t u q.area lt lu h.1.0 h.2 in (
        q,
        (h.1.0, subst (λ x. q.index < x) (sym g.2) h.1.1),
        g.0,
        ap returned g.1
            ∙ h.3,
        sound.1.steady t u q.area q.index lt lu h.1.0 h.1.1 h.2 ∙ h.4,
      )

  pub differs : (t u i j : ℕ) → t < n → u < n → i < c → (arrays t i).place ≡ Held → (arrays u j).place ≡ Buffer → i ≢ j
  differs t u i j lt lu li h b e = let g = sound.1.held_same t u i lt lu li h in let z : (arrays u i).place ≡ Buffer
      = subst (λ x. (arrays u x).place ≡ Buffer) (sym e) b in let y : held (arrays u i).place ≡ true = ap held g.0 in cc

  -- an argument with buffers has no element of a returned array that is held, and the other way round
  pub not_kept : (u : ℕ) → u < n → (q : Spot) → IsIn c (arrays u) q → (arrays u q.area).place ≡ Buffer
      → (arrays u q.area).mode ≢ Local → (t : ℕ) → t < n → IsBack c (arrays t) (elem u q) → ⊥
  not_kept u lu q i b ne t lt h = sound.1.held_apart t u h.0.area q.area h.0.index q.index lt lu h.1.0 i.0
      (differs t u h.0.area q.area lt lu h.1.0 h.2 b) h.1.1 i.1 h.2 ne (inl h.3) h.4

  -- an element of a held array that does not come back is written nowhere
  held_unwritten : (t u : ℕ) → t < n → u < n → (q : Spot) → IsIn c (arrays t) q → (arrays t q.area).place ≡ Held
      → returned (arrays t q.area).mode ≡ false → (j k : ℕ) → j < c → k < (arrays u j).size → returned (arrays u j).mode
      ≡ true → (arrays u j).block k ≡ elem t q → ⊥
  held_unwritten t u lt lu q i h f j k lj lk r e = go (eqb q.area j) refl
    where
      go : (b : Bool) → eqb q.area j ≡ b → ⊥
      go true z = let x : returned (arrays u q.area).mode ≡ true
          = subst (λ x. returned (arrays u x).mode ≡ true) (sym (eqb-true q.area j z)) r in let y
          = ap returned (sound.1.held_same t u q.area lt lu i.0 h).1 in cc
      go false z = sound.1.held_apart t u q.area j q.index k lt lu i.0 lj (λ y. let v = eq-eqb q.area j y in cc) i.1 lk
          h (returned_not_local (arrays u j).mode r) (inr r) (sym e)

  -- the place of a held cell
  held_sets : (t : ℕ) → t < n → (q : Spot) → IsIn c (arrays t) q → (arrays t q.area).place ≡ Held
      → returned (arrays t q.area).mode ≡ true → Sets (call t) node kid at (elem t q) (lay t q)
  held_sets t lt q i h r = (
    q,
    i,
    r,
    refl,
    source_held (key t) c (arrays t) (w t) node kid at (fit t lt)
        (λ i li. sound.0.lower t i lt li) (λ i li. sound.0.plain t i lt li) q h ∙ sym (at_own t lt q i.0),
  )

  held_needs : (t : ℕ) → t < n → (q : Spot) → IsIn c (arrays t) q → (arrays t q.area).place ≡ Held
      → reads (arrays t q.area).mode ≡ true → Needs (call t) node kid at (elem t q) (lay t q)
  held_needs t lt q i h r = (
    q,
    i,
    r,
    refl,
    source_held (key t) c (arrays t) (w t) node kid at (fit t lt)
        (λ i li. sound.0.lower t i lt li) (λ i li. sound.0.plain t i lt li) q h ∙ sym (at_own t lt q i.0),
  )

  in_needs' : (t : ℕ) → t < n → (q : Spot) → IsIn c (arrays t) q → (arrays t q.area).place ≡ Buffer
      → reads (arrays t q.area).mode ≡ true → R (elem t q) (at (elem t q))
  in_needs' t lt q i b r = meets.cover _ _ (
    t,
    lt,
    (
      q,
      i,
      r,
      refl,
      source_buffer (key t) c (arrays t) (w t) node kid at (fit t lt)
          (λ i li. sound.0.lower t i lt li) (λ i li. sound.0.plain t i lt li) q b,
    ),
  )

  own_cell : (t : ℕ) → t < n → (l : Spot) → IsIn c (arrays t) l → (arrays t l.area).place ≡ Buffer
      → BufferCell (child_of node kid) (key t) c (arrays t) (lay t l)
  own_cell t lt l i b = (l, i, b, sym (at_own t lt l i.0))

  twice_cell : (t : ℕ) → t < n → (l : Spot) → IsIn c (arrays t) l → (arrays t l.area).place ≡ Buffer
      → (arrays t l.area).mode ≢ Local → TwiceCell (child_of node kid) (key t) c (arrays t) (lay t l)
  twice_cell t lt l i b ne = (l, i, b, ne, sym (at_own t lt l i.0))

  follow : (p : ℕ) → Comes (mates None node n p) p (suc p)
  follow p = (omega arith, refl, refl, λ u a b y. omega arith)

  -- what the parts write
  come_at : (t : ℕ) → t < n → (p : Spot) → Writes (come t) p → TwiceCell (child_of node kid) (key t) c (arrays t) p
  come_at t lt p h = in_writes (key t) c (arrays t) (w t) node kid at (fit t lt) (λ i li. sound.0.lower t i lt li)
      (λ i li. sound.0.plain t i lt li) p h

  twice_scratch : (t : ℕ) → t < n → (p : Spot) → TwiceCell (child_of node kid) (key t) c (arrays t) p
      → Scratch (Piped None n form second c arrays w) node kid p
  twice_scratch t lt p h = (t, lt, inl (h.0, h.1, h.2, h.4))

  abbrev HeldBackAt : ℕ → Spot → Type 0
  HeldBackAt t p = (q : Spot) × IsIn c (arrays t) q × ((arrays t q.area).place ≡ Held)
      × (returned (arrays t q.area).mode ≡ true) × (own (child_of node kid) (key t) q ≡ p)

  held_back_sets : (t : ℕ) → t < n → (p : Spot) → (h : HeldBackAt t p) → Sets (call t) node kid at (elem t h.0) p
  held_back_sets t lt p h = subst (λ x. Sets (call t) node kid at (elem t h.0) x) (at_own t lt h.0 h.1.0 ∙ h.4)
      (held_sets t lt h.0 h.1 h.2 h.3)

  work_at : (t : ℕ) → t < n → (p : Spot) → Writes (work t) p → Scratch (call t) node kid p ⊎ HeldBackAt t p
  work_at t lt p h =
      ⊎_elim
      (λ x. work_puts (key t) c (arrays t) (w t) node kid at (fit t lt) (λ i li. sound.0.lower t i lt li)
      (λ i li. sound.0.plain t i lt li) (body t)
      (λ q g. tree_puts (w t) (child_of node kid) 0 (lay t) (path ++ t ∷ []) q (sound.3 t lt).2 g) p x)
      (λ x. work_adds (key t) c (arrays t) (w t) node kid at (fit t lt) (λ i li. sound.0.lower t i lt li)
      (λ i li. sound.0.plain t i lt li) (body t) x.0
      (λ q g. tree_adds (w t) (child_of node kid) 0 (lay t) (path ++ t ∷ []) x.0 q (sound.3 t lt).2 g)
      (λ q g. closed_of (fit t lt) (lay t) x.0 q g) p x.1)
      (writes_of (work t) p h)

  back_at : (t : ℕ) → t < n → (p : Spot) → Writes (back t) p → (q : Spot) × IsIn c (arrays t) q
      × ((arrays t q.area).place ≡ Buffer) × (returned (arrays t q.area).mode ≡ true)
      × Sets (call t) node kid at (elem t q) p
  back_at t lt p h =
      let g = out_writes (key t) c (arrays t) (w t) node kid at (fit t lt) (λ i li. sound.0.lower t i lt li)
      (λ i li. sound.0.plain t i lt li) p h in (
        g.0,
        g.1,
        g.2,
        g.3,
        out_sets (key t) c (arrays t) (w t) node kid at (fit t lt) (λ i li. sound.0.lower t i lt li)
            (λ i li. sound.0.plain t i lt li) p g,
      )

  -- what holds between the stages
  abbrev Parent : ℕ → State → State → Type 0
  Parent j s m = (l p : Spot) → Before j l p → (IsBack c (arrays 0) l → ⊥) → m p ≡ s l

  abbrev Loaded : ℕ → State → State → Type 0
  Loaded t s m = (l : Spot) → IsIn c (arrays t) l → (arrays t l.area).place ≡ Buffer → (arrays t l.area).mode ≢ Local
      → m (lay t l) ≡ entry_of (arrays t) s l

  abbrev Holds : ℕ → State → State → Type 0
  Holds t s m = (l : Spot) → IsIn c (arrays t) l → (arrays t l.area).place ≡ Held → reads (arrays t l.area).mode ≡ true
      → m (lay t l) ≡ s (elem t l)

  abbrev Ran : ℕ → State → State → Type 0
  Ran t after m = (l : Spot) → IsIn c (arrays t) l → returned (arrays t l.area).mode ≡ true → m (lay t l) ≡ after l

  -- frames
  parent_work : (j t : ℕ) → j ≤ n → t < n → (s m : State) → Parent j s m → Parent j s (run (work t) m).mem
  parent_work j t le lt s m h l p g out =
      run_frame (work t) m p (λ x. ⊎_elim
      (λ y. meets.apart l p (grown_up j le l p g) (t, lt, y))
      (λ y. out (kept_at t 0 lt (omega arith) l
      (y.0, y.1, y.2, y.3, meets.clear (elem t y.0) l p (t, lt, held_back_sets t lt p y) (grown_up j le l p g))))
      (work_at t lt p x))
      ∙ h l p g out

  parent_come : (j t : ℕ) → j ≤ n → t < n → (s m : State) → Parent j s m → Parent j s (run (come t) m).mem
  parent_come j t le lt s m h l p g out
      = run_frame (come t) m p (λ x. meets.apart l p (grown_up j le l p g) (twice_scratch t lt p (come_at t lt p x)))
      ∙ h l p g out

  -- the result of an iteration stays through the work of the next, as far as it has buffers
  ran_work : (t : ℕ) → suc t < n → (m : State) (l : Spot) → IsIn c (arrays t) l → (arrays t l.area).place ≡ Buffer
      → returned (arrays t l.area).mode ≡ true → (run (work (suc t)) m).mem (lay t l) ≡ m (lay t l)
  ran_work t ls m l i b r =
      run_frame (work (suc t)) m (lay t l) (λ x. ⊎_elim
      (λ y. sound.2.later t (suc t) (follow t) ls (lay t l)
      (twice_cell t (omega arith) l i b (returned_not_local (arrays t l.area).mode r)) y)
      (λ y. meets.apart (elem (suc t) y.0) (lay t l) (inr (suc t, ls, held_back_sets (suc t) ls (lay t l) y))
      (t, omega arith, inl (own_cell t (omega arith) l i b)))
      (work_at (suc t) ls (lay t l) x))

  ran_come : (t : ℕ) → suc t < n → (after m : State) → Ran t after m → Ran t after (run (come (suc t)) m).mem
  ran_come t ls after m h l i r =
      run_frame (come (suc t)) m (lay t l) (λ x. ⊎_elim
      (λ b. sound.2.sooner t (suc t) (follow t) ls (lay t l) (come_at (suc t) ls (lay t l) x)
      (inl (own_cell t (omega arith) l i b)))
      (λ b. meets.apart (elem t l) (lay t l) (inr (t, omega arith, held_sets t (omega arith) l i b r))
      (twice_scratch (suc t) ls (lay t l) (come_at (suc t) ls (lay t l) x)))
      (two t (omega arith) l.area i.0))
      ∙ h l i r

  ran_back : (u t : ℕ) → u < n → t < n → (after m : State) → Ran t after m → Ran t after (run (back u) m).mem
  ran_back u t lu lt after m h l i r
      = run_frame (back u) m (lay t l) (λ x. bar (back_at u lu (lay t l) x) (two t lt l.area i.0)) ∙ h l i r
    where
      bar : ((q : Spot) × IsIn c (arrays u) q × ((arrays u q.area).place ≡ Buffer)
          × (returned (arrays u q.area).mode ≡ true) × Sets (call u) node kid at (elem u q) (lay t l))
          → ((arrays t l.area).place ≡ Buffer) ⊎ ((arrays t l.area).place ≡ Held) → ⊥
      bar g (inl b) = meets.apart (elem u g.0) (lay t l) (inr (u, lu, g.4)) (t, lt, inl (own_cell t lt l i b))
      bar g (inr b) = not_kept u lu g.0 g.1 g.2 (returned_not_local (arrays u g.0.area).mode g.3) t lt (
        l,
        i,
        b,
        r,
        sym (meets.clear (elem u g.0) (elem t l) (lay t l) (u, lu, g.4)
            (inr (t, lt, held_sets t lt l i b r))),
      )

  -- values that come back
  back_value : (t : ℕ) → (lt : t < n) → (after before : State) (l : Spot) → IsIn c (arrays t) l
      → returned (arrays t l.area).mode ≡ true → come_back c (arrays t) after before (elem t l) ≡ after l
  back_value t lt after before l i r
      = come_back_in c (arrays t) after before l.area l.index i.0 i.1 r
      (λ k' lk' f. (fit t lt).distinct l.area k' l.index i.0 lk' i.1 f)
      (λ j k' lj ne lk' r' f. (fit t lt).no_alias j l.area k' l.index lj i.0 ne lk' i.1 r' r f)

  abbrev one : ℕ → State → Outcome
  one t s = returns_to (meaning (w t) (entry_of (arrays t) s)) c (arrays t) s

  -- before stage j, s being the state after j iterations
  abbrev Stage : ℕ → State → State → Type 0
  Stage zero s m = Parent 0 s m × Loaded 0 s m × Holds 0 s m
  Stage (suc i) s m = (before after : State) × (s ≡ come_back c (arrays i) after before) × Parent i before m
      × Ran i after m × Loaded (suc i) s m

  loaded_at : (j : ℕ) (s m : State) → Stage j s m → Loaded j s m
  loaded_at zero s m g = g.1
  loaded_at (suc i) s m g = g.5

  holds_at : (j : ℕ) (s m : State) → j < n → Stage j s m → Holds j s m
  holds_at zero s m lt g l il h rd = g.2 l il h rd
  holds_at (suc i) s m lt g l il h rd = go (bool_cases (returned (arrays (suc i) l.area).mode))
    where
      same : ((arrays i l.area).place ≡ Held) × ((arrays i l.area).mode ≡ (arrays (suc i) l.area).mode)
          × ((arrays i l.area).size ≡ (arrays (suc i) l.area).size)
      same = sound.1.held_same (suc i) i l.area lt (omega arith) il.0 h

      il' : IsIn c (arrays i) l
      il' = (il.0, subst (λ x. l.index < x) (sym same.2) il.1)

      block : elem i l ≡ elem (suc i) l
      block = sound.1.steady (suc i) i l.area l.index lt (omega arith) il.0 il.1 h

      go : (returned (arrays (suc i) l.area).mode ≡ true) ⊎ (returned (arrays (suc i) l.area).mode ≡ false)
          → m (lay (suc i) l) ≡ s (elem (suc i) l)
      go (inl r) =
          let r' : returned (arrays i l.area).mode ≡ true = ap returned same.1 ∙ r in
          let there : lay (suc i) l ≡ lay i l
          = meets.one (elem (suc i) l) (lay (suc i) l) (lay i l) (suc i, lt, held_sets (suc i) lt l il h r)
          (inr (
            i,
            omega arith,
            subst (λ x. Sets (call i) node kid at x (lay i l)) block
                (held_sets i (omega arith) l il' same.0 r'),
          )) in
          ap m there ∙ g.4 l il' r' ∙ sym (back_value i (omega arith) g.1 g.0 l il' r')
          ∙ ap (come_back c (arrays i) g.1 g.0) block ∙ ap (λ f. f (elem (suc i) l)) (sym g.2)
      go (inr f) =
          g.3 (elem (suc i) l) (lay (suc i) l) (inl (meets.cover _ _ (suc i, lt, held_needs (suc i) lt l il h rd)))
          (λ b. held_unwritten (suc i) 0 lt (omega arith) l il h f b.0.area b.0.index b.1.0 b.1.1 b.3 b.4)
          ∙ sym (come_back_out c (arrays i) g.1 g.0 (elem (suc i) l)
          (λ j k lj lk r e. held_unwritten (suc i) i lt (omega arith) l il h f j k lj lk r e))
          ∙ ap (λ f. f (elem (suc i) l)) (sym g.2)

  earlier_none : (j : ℕ) (m : State) → j ≤ n → (run (earlier back j) m).trap ≡ None
  earlier_none zero m le = refl
  earlier_none (suc t) m le = out_none (key t) c (arrays t) (w t) node kid at (fit t (omega arith))
      (λ i li. sound.0.lower t i (omega arith) li) (λ i li. sound.0.plain t i (omega arith) li) m

  -- what the iteration before gives back
  gone : (t : ℕ) → (lt : t < n) → (before after m : State) → Parent t before m
      → ((l : Spot) → IsIn c (arrays t) l → (arrays t l.area).place ≡ Buffer → returned (arrays t l.area).mode ≡ true
      → m (lay t l) ≡ after l) → Parent (suc t) (come_back c (arrays t) after before) (run (back t) m).mem
  gone t lt before after m h ran l p g out =
      went_back (key t) c (arrays t) (w t) node kid at (fit t lt) (λ i li. sound.0.lower t i lt li)
      (λ i li. sound.0.plain t i lt li) (plc t lt) (Before t) (call_meets t lt) before after m
      (λ l p x alone. h l p x (λ b. let b' = kept_at 0 t (omega arith) lt l b in alone b'.0.area b'.0.index b'.1.0
      b'.1.1 b'.3 b'.4))
      ran l p (split g) (λ q i b r e. out (kept_at t 0 lt (omega arith) l (q, i, b, r, e)))
    where
      split : Before (suc t) l p → Before t l p ⊎ Sets (call t) node kid at l p
      split (inl x) = inl (inl x)
      split (inr x) = ⊎_elim (λ e. inr (subst (λ y. Sets (call y) node kid at l p) e x.2))
          (λ e. inl (inr (x.0, e, x.2))) (end_or_below x.0 t x.1)

  earlier_gives : (j : ℕ) → j < n → (s m : State) → Stage j s m
      → Parent j s (run (earlier back j) (run (work j) m).mem).mem
  earlier_gives zero lt s m g = parent_work 0 0 (omega arith) lt s m g.0
  earlier_gives (suc i) lt s m g =
      subst (λ x. Parent (suc i) x (run (back i) (run (work (suc i)) m).mem).mem) (sym g.2)
      (gone i (omega arith) g.0 g.1 (run (work (suc i)) m).mem (parent_work i (suc i) (omega arith) lt g.0 m g.3)
      (λ l il b r. ran_work i lt m l il b r ∙ g.4 l il r))

  ran_earlier : (j : ℕ) → j < n → (after m : State) → Ran j after m → Ran j after (run (earlier back j) m).mem
  ran_earlier zero lt after m h = h
  ran_earlier (suc i) lt after m h = ran_back i (suc i) (omega arith) lt after m h

  come_none : (t : ℕ) → (lt : t < n) → (m : State) → (run (come t) m).trap ≡ None
  come_none t lt m = in_none (key t) c (arrays t) (w t) node kid at (fit t lt) (λ i li. sound.0.lower t i lt li)
      (λ i li. sound.0.plain t i lt li) m

  comes_in : (t : ℕ) → (lt : t < n) → (s m : State)
      → ((l : Spot) → IsIn c (arrays t) l → (arrays t l.area).place ≡ Buffer → reads (arrays t l.area).mode ≡ true
      → m (at (elem t l)) ≡ s (elem t l)) → Loaded t s (run (come t) m).mem
  comes_in t lt s m h = came_in (key t) c (arrays t) (w t) node kid at (fit t lt) (λ i li. sound.0.lower t i lt li)
      (λ i li. sound.0.plain t i lt li) (plc t lt) (Before t) (call_meets t lt) s m h

  -- how the first stages end
  abbrev Stages : ℕ → Outcome → After → Type 0
  Stages j (Ends s) r = (r.trap ≡ None) × Stage j s r.mem
  Stages j (Traps x) r = r.trap ≡ Some (under path x)

  module _ (ih : (t : ℕ) → t < n → (s m : State) → ((l p : Spot) → IsIn c (arrays t) l × (lay t l ≡ p) → m p ≡ s l)
      → Follows (λ l p. (IsIn c (arrays t) l × (lay t l ≡ p)) ⊎ Sets (w t) (child_of node kid) 0 (lay t) l p)
      (path ++ t ∷ []) (meaning (w t) s) (run (body t) m)) where
    abbrev Worked : ℕ → Outcome → After → Type 0
    Worked j o r = Follows (λ l p. (IsIn c (arrays j) l × (lay j l ≡ p)) ⊎ Sets (w j) (child_of node kid) 0 (lay j) l p)
        (path ++ j ∷ []) o r

    worked : (j : ℕ) → j < n → (s m : State) → Stage j s m
        → Worked j (meaning (w j) (entry_of (arrays j) s)) (run (work j) m)
    worked j lt s m g =
        work_follows (key j) c (arrays j) (w j) node kid at (fit j lt) (λ i li. sound.0.lower j i lt li)
        (λ i li. sound.0.plain j i lt li) (plc j lt) (Before j) (call_meets j lt) s (path ++ j ∷ []) (body j)
        (ih j lt) m (loaded_at j s m g) (holds_at j s m lt g)

    trap_path : (j : ℕ) (x : Trap) → Some (under (path ++ j ∷ []) x) ≡ Some (under path (front j x))
    trap_path j x = ap (λ p. Some (record { path = p; cause = x.cause })) (append_assoc path (j ∷ []) x.path)

    -- one stage
    stage : (j : ℕ) → suc j < n → (s m : State) → Stage j s m
        → Stages (suc j) (numbered j (one j s)) (run (Par (work j) (Seq (earlier back j) (come (suc j)))) m)
    stage j ls s m g = go (meaning (w j) (entry_of (arrays j) s)) (worked j (omega arith) s m g)
      where
        m1 : State
        m1 = (run (work j) m).mem

        m2 : State
        m2 = (run (earlier back j) (run (work j) m).mem).mem

        right : run (Seq (earlier back j) (come (suc j))) m1 ≡ run (come (suc j)) m2
        right = seq_run (earlier back j) (come (suc j)) m1 (earlier_none j m1 (omega arith))

        trap_is : (run (Par (work j) (Seq (earlier back j) (come (suc j)))) m).trap ≡ (run (work j) m).trap
        trap_is = ap (λ r. least (run (work j) m).trap r.trap) right
            ∙ ap (least (run (work j) m).trap) (come_none (suc j) ls m2) ∙ least_none (run (work j) m).trap

        parent : Parent j s m2
        parent = earlier_gives j (omega arith) s m g

        go : (o : Outcome) → Worked j o (run (work j) m)
            → Stages (suc j) (numbered j (returns_to o c (arrays j) s))
            (run (Par (work j) (Seq (earlier back j) (come (suc j)))) m)
        go (Traps x) f = trap_is ∙ f ∙ trap_path j x
        go (Ends after) f = (
          trap_is ∙ f.0,
          subst (λ r. Stage (suc j) (come_back c (arrays j) after s) r.mem) (sym right) (
            s,
            after,
            refl,
            parent_come j (suc j) (omega arith) ls s m2 parent,
            ran_come j ls after m2 (ran_earlier j (omega arith) after m1 (λ l i r. f.1 l (lay j l) (inl (i, refl)))),
            comes_in (suc j) ls (come_back c (arrays j) after s) m2 (λ l i b r. source l i b r),
          ),
        )
          where
            source : (l : Spot) → IsIn c (arrays (suc j)) l → (arrays (suc j) l.area).place ≡ Buffer
                → reads (arrays (suc j) l.area).mode ≡ true → m2 (at (elem (suc j) l))
                ≡ come_back c (arrays j) after s (elem (suc j) l)
            source l i b r =
                let ne = reads_not_local (arrays (suc j) l.area).mode r in
                parent (elem (suc j) l) (at (elem (suc j) l)) (inl (in_needs' (suc j) ls l i b r))
                (λ x. not_kept (suc j) ls l i b ne 0 (omega arith) x)
                ∙ sym (come_back_out c (arrays j) after s (elem (suc j) l)
                (λ i' k li lk r' e. ⊎_elim (λ b'. sound.1.ahead j i' l.area k l.index ls li i.0 lk i.1 b' b r' ne e)
                (λ h. not_kept (suc j) ls l i b ne j (omega arith) (spot i' k, (li, lk), h, r', e))
                (two j (omega arith) i' li)))

    more : (j : ℕ) (o : Outcome) (r : After) (f : State → Outcome) (t : Tree) → Stages j o r
        → ((s m : State) → Stage j s m → Stages (suc j) (numbered j (f s)) (run t m))
        → Stages (suc j) (and_then o (λ s. numbered j (f s))) (go_on r.trap r.mem (run t))
    more j (Ends s) r f t h k = subst (λ o. Stages (suc j) (numbered j (f s)) (go_on o r.mem (run t))) (sym h.0)
        (k s r.mem h.1)
    more j (Traps x) r f t h k = ap (λ o. (go_on o r.mem (run t)).trap) h

    start : 0 < n → (s m : State) → ((l p : Spot) → R l p → m p ≡ s l) → Stage 0 s (run (come 0) m).mem
    start lt s m agree = (
      parent_come 0 0 (omega arith) lt s m
          (λ l p g out. ⊎_elim (λ r. agree l p r) (λ x. absurd (omega (arith, x.1))) g),
      comes_in 0 lt s m (λ l i b r. agree _ _ (in_needs' 0 lt l i b r)),
      λ l i h r. run_frame (come 0) m (lay 0 l)
          (λ x. meets.apart (elem 0 l) (lay 0 l) (inl (meets.cover _ _ (0, lt, held_needs 0 lt l i h r)))
          (twice_scratch 0 lt (lay 0 l) (come_at 0 lt (lay 0 l) x)))
          ∙ agree _ _ (meets.cover _ _ (0, lt, held_needs 0 lt l i h r)),
    )

    stages : (j : ℕ) → j < n → (s m : State) → ((l p : Spot) → R l p → m p ≡ s l)
        → Stages j (in_turn j one s) (run (begun come work back j) m)
    stages zero lt s m agree = (come_none 0 lt m, start lt s m agree)
    stages (suc j) lt s m agree = more j (in_turn j one s) (run (begun come work back j) m) (one j)
        (Par (work j) (Seq (earlier back j) (come (suc j)))) (stages j (omega arith) s m agree)
        (λ s' m' g. stage j lt s' m' g)

    -- the last work, and what goes back at the end
    abbrev Whole : ℕ → Spot → Spot → Type 0
    Whole k = Before (suc k)

    finish : (k : ℕ) → k < n → (s m : State) → Stage k s m
        → Follows (Whole k) path (numbered k (one k s)) (run (Seq (Par (work k) (earlier back k)) (back k)) m)
    finish k lt s m g = go (meaning (w k) (entry_of (arrays k) s)) (worked k lt s m g)
      where
        m1 : State
        m1 = (run (work k) m).mem

        m2 : State
        m2 = (run (earlier back k) (run (work k) m).mem).mem

        trap_is : (run (Par (work k) (earlier back k)) m).trap ≡ (run (work k) m).trap
        trap_is = ap (least (run (work k) m).trap) (earlier_none k m1 (omega arith)) ∙ least_none (run (work k) m).trap

        go : (o : Outcome) → Worked k o (run (work k) m)
            → Follows (Whole k) path (numbered k (returns_to o c (arrays k) s))
            (run (Seq (Par (work k) (earlier back k)) (back k)) m)
        go (Traps x) f = ap (λ o. (go_on o m2 (run (back k))).trap) (trap_is ∙ f) ∙ trap_path k x
        go (Ends after) f = subst (Follows (Whole k) path (Ends (come_back c (arrays k) after s))) (sym last)
            (earlier_none (suc k) m2 (omega arith), λ l p h. value l p h (is_back c (arrays 0) l))
          where
            last : run (Seq (Par (work k) (earlier back k)) (back k)) m ≡ run (back k) m2
            last = ap (λ o. go_on o m2 (run (back k))) (trap_is ∙ f.0)

            ran : Ran k after m2
            ran = ran_earlier k lt after m1 (λ l i r. f.1 l (lay k l) (inl (i, refl)))

            value : (l p : Spot) → Whole k l p → IsBack c (arrays 0) l ⊎ (IsBack c (arrays 0) l → ⊥)
                → (run (back k) m2).mem p ≡ come_back c (arrays k) after s l
            value l p h (inr out) = gone k lt s after m2 (earlier_gives k lt s m g) (λ l i b r. ran l i r) l p h out
            value l p h (inl b) =
                let b' = kept_at 0 k (omega arith) lt l b in
                let q = b'.0 in
                let place : lay k q ≡ p = meets.one l (lay k q) p
                (k, lt, subst (λ x. Sets (call k) node kid at x (lay k q)) b'.4 (held_sets k lt q b'.1 b'.2 b'.3))
                (grown_up (suc k) (omega arith) l p h) in
                ap (run (back k) m2).mem (sym place) ∙ ran_back k k lt lt after m2 ran q b'.1 b'.3
                ∙ sym (back_value k lt after s q b'.1 b'.3) ∙ ap (come_back c (arrays k) after s) b'.4

    ends : (k : ℕ) (o : Outcome) (r : After) (t : Tree) → Stages k o r
        → ((s m : State) → Stage k s m → Follows (Whole k) path (numbered k (one k s)) (run t m))
        → Follows (Whole k) path (and_then o (λ s. numbered k (one k s))) (go_on r.trap r.mem (run t))
    ends k (Ends s) r t h f = subst (λ o. Follows (Whole k) path (numbered k (one k s)) (go_on o r.mem (run t)))
        (sym h.0) (f s r.mem h.1)
    ends k (Traps x) r t h f = ap (λ o. (go_on o r.mem (run t)).trap) h

    whole : (j : ℕ) → j ≤ n → (s m : State) → ((l p : Spot) → R l p → m p ≡ s l)
        → Follows (Before j) path (in_turn j one s) (run (piped come work back every j) m)
    whole zero le s m agree = (refl, λ l p h. ⊎_elim (λ r. agree l p r) (λ x. absurd (omega (arith, x.1))) h)
    whole (suc k) le s m agree =
        subst (λ t. Follows (Before (suc k)) path (in_turn (suc k) one s) (run t m)) (sym (piped_line come work back k))
        (ends k (in_turn k one s) (run (begun come work back k) m) (Seq (Par (work k) (earlier back k)) (back k))
        (stages k (omega arith) s m agree) (λ s' m' g. finish k (omega arith) s' m' g))

    pub loop_follows : (s m : State) → ((l p : Spot) → R l p → m p ≡ s l)
        → Follows (λ l p. R l p ⊎ Sets (Piped None n form second c arrays w) node kid at l p) path (in_turn n one s)
        (run (piped come work back every n) m)
    loop_follows s m agree = whole n (omega arith) s m agree
