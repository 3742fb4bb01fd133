-- Events of the lowered tree that are unordered are independent.
use Rattle.std.proofs.Common.{ap₂, ◌≡◌, ◌≢◌, ℕ, zero, suc, ◌<◌, ◌≤◌, Bool, true, false, eqb, refl, sym, ap, ◌∙◌, subst}
use Rattle.std.proofs.Common.{arith, List, [], ◌∷◌, ◌++◌, ◌⊎◌, inl, inr, ⊎_elim, eqb-true, Option, Some, None}
use Rattle.sq_cells.specs.Tree.{Target, Tree, Empty, Seq, Puts, Adds, Takes, IsApart, Independent}
use Rattle.sq_cells.specs.Lowered.{GathersAt, Gathers, GathersOf, Layout, node_of, own, layout, pick, stays, held}
use Rattle.sq_cells.specs.Lowered.{comes, works, mates, Stand, NoneYet, First, More, stand, stage_of, staged, last_of}
use Rattle.sq_cells.specs.Lowered.{piped, set_of, Comes, TwiceCell, PipeFits, SetsPlaced, bring, clear, give_back}
use Rattle.sq_cells.specs.Lowered.{take_one, leave_one, beside, turns, outs, call_tree, takes, leaves, every, tree}
use Rattle.sq_cells.specs.Lowered.{lane_kid, IsIn, HeldCell, Scratch, Needs, Sets, IsRaceFree, CallFits, CallPlaced}
use Rattle.sq_cells.specs.Lowered.{HoldFits, Sound}
use Rattle.sq_cells.proofs.Parts.{gathers_at, puts_beside, puts_turns, takes_beside, takes_turns, adds_beside}
use Rattle.sq_cells.proofs.Parts.{adds_turns, bring_puts, bring_adds, bring_takes, clear_puts, clear_adds, clear_takes}
use Rattle.sq_cells.proofs.Parts.{give_puts, give_adds, give_takes, take_puts, take_adds, take_takes, leave_puts}
use Rattle.sq_cells.proofs.Parts.{leave_adds, leave_takes, Mods, Touch, closed_of, gathers_of, HeldAt, HeldBack}
use Rattle.sq_cells.proofs.Parts.{source_held, in_needs, out_sets, come_puts, come_adds, come_takes, work_puts}
use Rattle.sq_cells.proofs.Parts.{work_adds, work_takes, back_puts, back_adds, back_takes, list_puts, list_adds}
use Rattle.sq_cells.proofs.Parts.{list_takes, tree_puts, tree_adds, tree_takes}
use Rattle.sq_cells.specs.Cells.{Spot, spot}
use Rattle.sq_cells.specs.Work.{Mode, Input, Output, Both, Local, Reduced, Buffer, Held, Array, Work, Nothing, Then}
use Rattle.sq_cells.specs.Work.{Each, AtOnce, Call, Hold, Reduce, Piped, Leaf, returned, reads, is_reduced}
use Rattle.sq_cells.specs.Machine.{Form, Node, child_of, fan_of, lane_of, Rule}
use Rattle.sq_cells.specs.Correct.{Meets, AnyOrder}
use Rattle.sq_cells.proofs.Access.{private_true, reads_not_local, returned_not_local, reads_or_returned, place_cases}
use Rattle.sq_cells.proofs.Footprint.{Brought, held_true, buffer_from, stays_public}
use Rattle.sq_cells.proofs.Lanes.{turns_same}
use Rattle.sq_cells.proofs.Calls.{to, to_src, to_own, src_at, sets_block, own_apart, blocks_alias, alias, back_at}
use Rattle.sq_cells.proofs.Calls.{one_in, one_clear, one_back, inner_meets, Inside}
use Rattle.sq_cells.proofs.Holds.{Within, within_meets, one_take, one_leave}
use Rattle.sq_cells.proofs.Stands.{beside_same, Has, has, first_next, last_two, last_next}
use Rattle.sq_cells.proofs.Loops.{differs}
use Rattle.sq_cells.proofs.Spreads.{at_once_meets, lane_same, follow, nothing_held}
use Rattle.sq_cells.proofs.Runs.{Rest, rest_meets}

target_path : (a b : Target) → a.op ≡ b.op → a.head ≡ b.head → a ≡ b
target_path a b e f = ap₂ (λ x y. record { op = x; head = y }) e f

beside_independent : (n : ℕ) (f : ℕ → Tree) → ((i : ℕ) → i < n → Independent (f i))
    → ((i j : ℕ) → i < n → j < n → i ≢ j → IsApart (f i) (f j)) → Independent (beside n f)
beside_independent zero f each apart = tt
beside_independent (suc n) f each apart = (
  beside_independent n f (λ i li. each i (omega arith)) (λ i j li lj ne. apart i j (omega arith) (omega arith) ne),
  each n (omega arith),
  record {
    puts_puts = λ p a b. let h = puts_beside n f p a in (pair h.0 h.1).puts_puts p h.2 b;
    puts_takes = λ p a b. let h = puts_beside n f p a in (pair h.0 h.1).puts_takes p h.2 b;
    takes_puts = λ p a b. let h = takes_beside n f p a in (pair h.0 h.1).takes_puts p h.2 b;
    puts_adds = λ o p a b. let h = puts_beside n f p a in (pair h.0 h.1).puts_adds o p h.2 b;
    adds_puts = λ o p a b. let h = adds_beside o n f p a in (pair h.0 h.1).adds_puts o p h.2 b;
    takes_adds = λ o p a b. let h = takes_beside n f p a in (pair h.0 h.1).takes_adds o p h.2 b;
    adds_takes = λ o p a b. let h = adds_beside o n f p a in (pair h.0 h.1).adds_takes o p h.2 b;
    adds_adds = λ o o' p a b. let h = adds_beside o n f p a in (pair h.0 h.1).adds_adds o o' p h.2 b;
  },
)
  where
    never : (i : ℕ) → i < n → i ≡ n → ⊥
    never i lt e = omega arith

    pair : (i : ℕ) → i < n → IsApart (f i) (f n)
    pair i lt = apart i n (omega arith) (omega arith) (λ e. never i lt e)

turns_independent : (q : ℕ → Bool) (n : ℕ) (f : ℕ → Tree) → ((t : ℕ) → t < n → q t ≡ true → Independent (f t))
    → Independent (turns q n f)
turns_independent q zero f h = tt
turns_independent q (suc n) f h = (turns_independent q n f (λ t lt. h t (omega arith)), last (q n) (h n (omega arith)))
  where
    last : (b : Bool) → (b ≡ true → Independent (f n)) → Independent (pick b (f n) Empty)
    last true k = k refl
    last false k = tt

empty_apart : (a : Tree) → IsApart Empty a
empty_apart a = record {
  puts_puts = λ p x y. x;
  puts_takes = λ p x y. x;
  takes_puts = λ p x y. x;
  puts_adds = λ o p x
      y. x;
  adds_puts = λ o p x y. x;
  takes_adds = λ o p x y. x;
  adds_takes = λ o p x y. x;
  adds_adds
      = λ o o' p x y. absurd x;
}

apart_empty : (a : Tree) → IsApart a Empty
apart_empty a = record {
  puts_puts = λ p x y. y;
  puts_takes = λ p x y. y;
  takes_puts = λ p x y. y;
  puts_adds = λ o p x
      y. y;
  adds_puts = λ o p x y. y;
  takes_adds = λ o p x y. y;
  adds_takes = λ o p x y. y;
  adds_adds
      = λ o o' p x y. absurd y;
}

apart_seq : (a b c : Tree) → IsApart a b → IsApart a c → IsApart a (Seq b c)
apart_seq a b c h k = record {
  puts_puts = λ p x y. ⊎_elim (λ z. h.puts_puts p x z) (λ z. k.puts_puts p x z) y;
  puts_takes = λ p x y. ⊎_elim (λ z. h.puts_takes p x z) (λ z. k.puts_takes p x z) y;
  takes_puts = λ p x y. ⊎_elim (λ z. h.takes_puts p x z) (λ z. k.takes_puts p x z) y;
  puts_adds = λ o p x y. ⊎_elim (λ z. h.puts_adds o p x z) (λ z. k.puts_adds o p x z) y;
  adds_puts = λ o p x y. ⊎_elim (λ z. h.adds_puts o p x z) (λ z. k.adds_puts o p x z) y;
  takes_adds = λ o p x y. ⊎_elim (λ z. h.takes_adds o p x z) (λ z. k.takes_adds o p x z) y;
  adds_takes = λ o p x y. ⊎_elim (λ z. h.adds_takes o p x z) (λ z. k.adds_takes o p x z) y;
  adds_adds = λ o o' p x y. ⊎_elim (λ z. h.adds_adds o o' p x z) (λ z. k.adds_adds o o' p x z) y;
}

pick_apart : (b b' : Bool) (x y : Tree) → IsApart x y → IsApart (pick b x Empty) (pick b' y Empty)
pick_apart true true x y h = h
pick_apart true false x y h = apart_empty x
pick_apart false b' x y h = empty_apart (pick b' y Empty)

other_apart : (b b' : Bool) (x y : Tree) → IsApart x y → IsApart (pick b Empty x) (pick b' Empty y)
other_apart false false x y h = h
other_apart false true x y h = apart_empty x
other_apart true b' x y h = empty_apart (pick b' Empty y)

pick_independent : (b : Bool) (x : Tree) → Independent x → Independent (pick b x Empty)
pick_independent true x h = h
pick_independent false x h = tt

other_independent : (b : Bool) (x : Tree) → Independent x → Independent (pick b Empty x)
other_independent true x h = tt
other_independent false x h = h

-- a list with overlapped transfers
module _ (come work back : ℕ → Tree) (q : ℕ → Bool) (n : ℕ)
    (come_ind : (t : ℕ) → t < n → Independent (come t)) (work_ind : (t : ℕ) → t < n → Independent (work t))
    (back_ind : (t : ℕ) → t < n → Independent (back t))
    (next : (p t : ℕ) → Comes q p t → t < n → IsApart (work p) (come t))
    (before : (p t : ℕ) → Comes q p t → t < n → IsApart (work t) (back p))
  where
    stage_independent : (d : Stand) (j : ℕ) → j < n → Has q d j → q j ≡ true → Independent (stage_of come work back d j)
    stage_independent NoneYet j lt h y = come_ind j lt
    stage_independent (First t) j lt h y
        = (
          work_ind t (omega (arith, h.0)),
          (tt, come_ind j lt),
          apart_seq (work t) Empty (come j)
              (apart_empty (work t)) (next t j (first_next q t j h y) lt),
        )
    stage_independent (More p t) j lt h y = (
      work_ind t (omega (arith, h.0)),
      (back_ind p (omega (arith, h.0, h.2)), come_ind j lt),
      apart_seq (work t) (back p) (come j) (before p t (last_two q p t j h) (omega (arith, h.0)))
          (next t j (last_next q p t j h y) lt),
    )

    staged_independent : (j : ℕ) → j ≤ n → Independent (staged come work back q j)
    staged_independent zero le = tt
    staged_independent (suc j) le = (staged_independent j (omega arith), go (q j) refl)
      where
        go : (b : Bool) → q j ≡ b → Independent (pick b (stage_of come work back (stand q j) j) Empty)
        go true y = stage_independent (stand q j) j (omega arith) (has q j) y
        go false y = tt

    last_independent : (d : Stand) → Has q d n → Independent (last_of work back d)
    last_independent NoneYet h = tt
    last_independent (First t) h = ((work_ind t h.0, tt, apart_empty (work t)), back_ind t h.0)
    last_independent (More p t) h =
        ((work_ind t h.0, back_ind p (omega (arith, h.0, h.2)), before p t (last_two q p t n h) h.0), back_ind t h.0)

    piped_independent : Independent (piped come work back q n)
    piped_independent = (staged_independent n (omega arith), last_independent (stand q n) (has q n))

bring_independent : (m : Mode) (b : Bool) (n : ℕ) (source into : ℕ → Spot) → Independent (bring m b n source into)
bring_independent Input true n source into = tt
bring_independent Input false n source into = tt
bring_independent Output b n source into = tt
bring_independent Both true n source into = tt
bring_independent Both false n source into = tt
bring_independent Local b n source into = tt
bring_independent (Reduced op) true n source into = tt
bring_independent (Reduced op) false n source into = tt

clear_independent : (m : Mode) (n : ℕ) (into : ℕ → Spot) → Independent (clear m n into)
clear_independent Input n into = tt
clear_independent Output n into = tt
clear_independent Both n into = tt
clear_independent Local n into = tt
clear_independent (Reduced op) n into = tt

give_independent : (m : Mode) (b : Bool) (n : ℕ) (source into : ℕ → Spot) → Independent (give_back m b n source into)
give_independent Input b n source into = tt
give_independent Output true n source into = tt
give_independent Output false n source into = tt
give_independent Both true n source into = tt
give_independent Both false n source into = tt
give_independent Local b n source into = tt
give_independent (Reduced op) true n source into = tt
give_independent (Reduced op) false n source into = tt

take_independent : (m : Mode) (b : Bool) (n : ℕ) (source into : ℕ → Spot) → Independent (take_one m b n source into)
take_independent m false n source into = tt
take_independent Input true n source into = tt
take_independent Output true n source into = tt
take_independent Both true n source into = tt
take_independent Local true n source into = tt
take_independent (Reduced op) true n source into = tt

leave_independent : (m : Mode) (b : Bool) (n : ℕ) (source into : ℕ → Spot) → Independent (leave_one m b n source into)
leave_independent m false n source into = tt
leave_independent Input true n source into = tt
leave_independent Output true n source into = tt
leave_independent Both true n source into = tt
leave_independent Local true n source into = tt
leave_independent (Reduced op) true n source into = tt

module _ (form : Form) (n : ℕ) (lower : Bool) (arrays : ℕ → Array) (w : Work) (node : Node) (kid : ℕ) (at : Layout)
    (R : Spot → Spot → Type 0) (fits : CallFits n arrays w (node_of lower node kid))
    (placed : CallPlaced (node_of lower node kid) form n arrays w)
    (meets : Meets R (Call form lower n arrays w) node kid at) where
  abbrev tos : Layout
  tos = to form n lower arrays w node kid at R fits placed meets

  abbrev W : Work
  W = Call form lower n arrays w

  abbrev comings : ℕ → Tree
  comings = one_in form n lower arrays w node kid at R fits placed meets

  abbrev clears : ℕ → Tree
  clears = one_clear form n lower arrays w node kid at R fits placed meets

  abbrev backs : ℕ → Tree
  backs = one_back form n lower arrays w node kid at R fits placed meets

  -- what comes into one array is not what another's comes from
  source_apart : (i j k k' : ℕ) → i < n → j < n → i ≢ j → k < (arrays i).size → k' < (arrays j).size
      → Brought (arrays i).mode (stays (arrays i).place) → reads (arrays j).mode ≡ true → stays (arrays j).place ≡ false
      → tos (spot i k) ≡ at ((arrays j).block k') → ⊥
  source_apart i j k k' li lj ne lk lk' may rd b e = go may (place_cases (arrays i).place)
    where
      mine : R ((arrays j).block k') (at ((arrays j).block k'))
      mine = meets.cover _ _ (
        spot j k',
        (lj, lk'),
        rd,
        refl,
        src_at form n lower arrays w node kid at R fits placed
            meets (spot j k') (buffer_from (arrays j).place b),
      )

      go : Brought (arrays i).mode (stays (arrays i).place) → ((arrays i).place ≡ Buffer)
          ⊎ (stays (arrays i).place ≡ true) → ⊥
      go may (inl f) = own_apart form n lower arrays w node kid at R fits placed meets (spot i k) _ _ (li, lk) f
          (inl mine) e
      go (inl f) (inr t) = cc
      go (inr r) (inr t) =
          ne (ap (λ q. q.area) (blocks_alias form n lower arrays w node kid at R fits placed meets i j k k' li lj lk lk'
          t (reads_not_local (arrays j).mode rd) r
          (meets.clear _ _ (at ((arrays j).block k'))
          (subst (λ p. Sets W node kid at ((arrays i).block k) p)
          (sym (to_src form n lower arrays w node kid at R fits placed meets (spot i k) t) ∙ e)
          (sets_block form n lower arrays w node kid at R fits placed meets (spot i k) (li, lk) r)) (inl mine))))

  target_apart : (i j k k' : ℕ) → i < n → j < n → i ≢ j → k < (arrays i).size → k' < (arrays j).size
      → Brought (arrays i).mode (stays (arrays i).place) → tos (spot i k) ≡ tos (spot j k') → ⊥
  target_apart i j k k' li lj ne lk lk' may e
      = ne (ap (λ q. q.area) (alias form n lower arrays w node kid at R fits placed meets (spot i k) (spot j k')
      (li, lk) (lj, lk') may e))

  in_adds : (i : ℕ) (o : Target) (p : Spot) → Adds (comings i) o p → ⊥
  in_adds i o p h = bring_adds (arrays i).mode (stays (arrays i).place) (arrays i).size _ _ o p h

  ins_apart : (i j : ℕ) → i < n → j < n → i ≢ j → IsApart (comings i) (comings j)
  ins_apart i j li lj ne = record {
    puts_puts = λ p a b. let x = bring_puts (arrays i).mode (stays (arrays i).place) (arrays i).size _ _ p a in let y
        = bring_puts (arrays j).mode (stays (arrays j).place) (arrays j).size _ _ p b in target_apart i j x.0 y.0 li lj
        ne x.1 y.1 x.3 (x.2 ∙ sym y.2);
    puts_takes = λ p a b. let x = bring_puts (arrays i).mode (stays (arrays i).place) (arrays i).size _ _ p a in let y
        = bring_takes (arrays j).mode (stays (arrays j).place) (arrays j).size _ _ p b in source_apart i j x.0 y.0 li lj
        ne x.1 y.1 x.3 y.3 y.4 (x.2 ∙ sym y.2);
    takes_puts = λ p a b. let x = bring_takes (arrays i).mode (stays (arrays i).place) (arrays i).size _ _ p a in let y
        = bring_puts (arrays j).mode (stays (arrays j).place) (arrays j).size _ _ p b in source_apart j i y.0 x.0 lj li
        (λ e. ne (sym e)) y.1 x.1 y.3 x.3 x.4 (y.2 ∙ sym x.2);
    puts_adds = λ o p a b. in_adds j o p b;
    adds_puts = λ o p a b. in_adds i o p a;
    takes_adds = λ o p a b. in_adds j o p b;
    adds_takes = λ o p a b. in_adds i o p a;
    adds_adds = λ o o' p a b. absurd (in_adds i o p a);
  }

  clears_apart : (i j : ℕ) → i < n → j < n → i ≢ j → IsApart (clears i) (clears j)
  clears_apart i j li lj ne = record {
    puts_puts = λ p a b. let x = clear_puts (arrays i).mode (arrays i).size _ p a in let y
        = clear_puts (arrays j).mode (arrays j).size _ p b in target_apart i j x.0 y.0 li lj ne x.1 y.1
        (inl (ap stays (fits.private_own i li (private_true (arrays i).mode (inl x.3))))) (x.2 ∙ sym y.2);
    puts_takes = λ p a b. clear_takes (arrays j).mode (arrays j).size _ p b;
    takes_puts = λ p a b. clear_takes (arrays i).mode (arrays i).size _ p a;
    puts_adds = λ o p a b. clear_adds (arrays j).mode (arrays j).size _ o p b;
    adds_puts = λ o p a b. clear_adds (arrays i).mode (arrays i).size _ o p a;
    takes_adds = λ o p a b. clear_adds (arrays j).mode (arrays j).size _ o p b;
    adds_takes = λ o p a b. clear_adds (arrays i).mode (arrays i).size _ o p a;
    adds_adds = λ o o' p a b. absurd (clear_adds (arrays i).mode (arrays i).size _ o p a);
  }

  back_put : (i : ℕ) → i < n → (p : Spot) → Puts (backs i) p → (k : ℕ) × (k < (arrays i).size)
      × (returned (arrays i).mode ≡ true) × (stays (arrays i).place ≡ false) × (at ((arrays i).block k) ≡ p)
  back_put i li p h = let x = give_puts (arrays i).mode (stays (arrays i).place) (arrays i).size _ _ p h in
      (x.0, x.1, x.3, x.4, x.2)

  put_sets : (i k : ℕ) (p : Spot) → i < n → k < (arrays i).size → returned (arrays i).mode ≡ true
      → stays (arrays i).place ≡ false → at ((arrays i).block k) ≡ p → Sets W node kid at ((arrays i).block k) p
  put_sets i k p li lk r b e = subst (λ q. Sets W node kid at ((arrays i).block k) q) e
      (back_at form n lower arrays w node kid at R fits placed meets (λ q. 0) i k li lk r b)

  take_own : (i : ℕ) → i < n → (p : Spot) → Takes (backs i) p → Scratch W node kid p
  take_own i li p h = let x = give_takes (arrays i).mode (stays (arrays i).place) (arrays i).size _ _ p h in let b
      = buffer_from (arrays i).place x.3 in inl (
        spot i x.0,
        (li, x.1),
        b,
        sym (to_own form n lower arrays w node kid at R fits placed meets (spot i x.0) b)
            ∙ x.2,
      )

  add_gathers : (i : ℕ) (o : Target) → i < n → (p : Spot) → Adds (backs i) o p
      → ((l : Spot) × Gathers W node kid at l p) × (is_reduced (arrays i).mode ≡ true)
  add_gathers i o li p h = let x = give_adds (arrays i).mode (stays (arrays i).place) (arrays i).size _ _ o p h in
      (((arrays i).block x.0, (spot i x.0, (li, x.1), ap is_reduced x.3, refl, x.2)), ap is_reduced x.3)

  backs_apart : (i j : ℕ) → i < n → j < n → i ≢ j → IsApart (backs i) (backs j)
  backs_apart i j li lj ne = record {
    puts_puts = λ p a b. let x = back_put i li p a in let y
        = back_put j lj p b in fits.no_alias i j x.0 y.0 li lj ne x.1 y.1 x.2 y.2
        (meets.clear _ _ p (put_sets i x.0 p li x.1 x.2 x.3 x.4) (inr (put_sets j y.0 p lj y.1 y.2 y.3 y.4)));
    puts_takes = λ p a b. let x = back_put i li p a in meets.apart _ p (inr (put_sets i x.0 p li x.1 x.2 x.3 x.4))
        (take_own j lj p b);
    takes_puts = λ p a b. let y = back_put j lj p b in meets.apart _ p (inr (put_sets j y.0 p lj y.1 y.2 y.3 y.4))
        (take_own i li p a);
    puts_adds = λ o p a b. let x = back_put i li p a in let y
        = add_gathers j o lj p b in meets.aside _ y.0.0 p (inr (put_sets i x.0 p li x.1 x.2 x.3 x.4)) y.0.1;
    adds_puts = λ o p a b. let x = add_gathers i o li p a in let y
        = back_put j lj p b in meets.aside _ x.0.0 p (inr (put_sets j y.0 p lj y.1 y.2 y.3 y.4)) x.0.1;
    takes_adds = λ o p a b. let y = add_gathers j o lj p b in meets.sum_apart y.0.0 p y.0.1 (take_own i li p a);
    adds_takes = λ o p a b. let x = add_gathers i o li p a in meets.sum_apart x.0.0 p x.0.1 (take_own j lj p b);
    adds_adds = λ o o' p a b. absurd
        (ne (fits.one_sum i j li lj (add_gathers i o li p a).1 (add_gathers j o' lj p b).1));
  }

  pub call_independent : (body : Tree) → Independent body → Independent (call_tree n arrays at tos body)
  call_independent body h = (
    beside_independent n comings (λ i li. bring_independent (arrays i).mode (stays (arrays i).place) (arrays i).size _
        _) ins_apart,
    (
      (beside_independent n clears (λ i li. clear_independent (arrays i).mode (arrays i).size _) clears_apart, h),
      beside_independent n backs (λ i li. give_independent (arrays i).mode (stays (arrays i).place) (arrays i).size _ _)
          backs_apart,
    ),
  )

  -- the parts of a taken loop
  pub come_independent : Independent (comes n arrays at tos)
  come_independent = beside_independent n _
      (λ i li. other_independent (held (arrays i).place) (comings i)
      (bring_independent (arrays i).mode (stays (arrays i).place) (arrays i).size _ _))
      (λ i j li lj ne. other_apart (held (arrays i).place) (held (arrays j).place) (comings i) (comings j)
      (ins_apart i j li lj ne))

  pub work_independent : (body : Tree) → Independent body → Independent (works n arrays at tos body)
  work_independent body h = (
    beside_independent n _ (λ i li. pick_independent (held (arrays i).place) (comings i)
        (bring_independent (arrays i).mode (stays (arrays i).place) (arrays i).size _ _))
        (λ i j li lj ne. pick_apart (held (arrays i).place) (held (arrays j).place) (comings i) (comings j)
        (ins_apart i j li lj ne)),
    (beside_independent n clears (λ i li. clear_independent (arrays i).mode (arrays i).size _) clears_apart, h),
  )

  pub back_independent : Independent (outs n arrays at tos)
  back_independent = beside_independent n backs
      (λ i li. give_independent (arrays i).mode (stays (arrays i).place) (arrays i).size _ _) backs_apart

-- the lists of a taken loop or spread map
module _ (spread : Option Rule) (n : ℕ) (form second : Form) (c : ℕ) (arrays : ℕ → ℕ → Array) (w : ℕ → Work)
    (node : Node) (kid : ℕ) (at : Layout) (path : List ℕ) (R : Spot → Spot → Type 0)
    (meets : Meets R (Piped spread n form second c arrays w) node kid at) (pipe : PipeFits n c arrays)
    (sets : SetsPlaced spread node kid n form second c arrays w)
    (fits : (t : ℕ) → t < n → CallFits c (arrays t) (w t) (child_of node (lane_kid spread node kid n t)))
    (placed : (t : ℕ) → t < n → CallPlaced (child_of node (lane_kid spread node kid n t))
    (set_of spread node n form second t) c (arrays t) (w t))
    (below : (t : ℕ) → t < n → Sound (w t) (child_of node (lane_kid spread node kid n t)) 0)
    (held_apart : (t u : ℕ) → t < n → u < n → (q l : Spot) → IsIn c (arrays t) q → (arrays t q.area).place ≡ Held
    → IsIn c (arrays u) l → (arrays u l.area).place ≡ Buffer → (arrays u l.area).mode ≢ Local
    → (returned (arrays t q.area).mode ≡ true) ⊎ (returned (arrays u l.area).mode ≡ true)
    → (arrays t q.area).block q.index ≡ (arrays u l.area).block l.index → ⊥)
  where
    abbrev key : ℕ → Form
    key t = set_of spread node n form second t

    abbrev kid_at : ℕ → ℕ
    kid_at t = lane_kid spread node kid n t

    abbrev lay : ℕ → Layout
    lay t = layout (child_of node (kid_at t)) (key t) (arrays t) at

    abbrev call : ℕ → Work
    call t = Call (key t) true c (arrays t) (w t)

    abbrev body : ℕ → Tree
    body t = tree (w t) (child_of node (kid_at t)) 0 (lay t) (path ++ t ∷ [])

    abbrev come : ℕ → Tree
    come t = comes c (arrays t) at (lay t)

    abbrev work : ℕ → Tree
    work t = works c (arrays t) at (lay t) (body t)

    abbrev back : ℕ → Tree
    back t = outs c (arrays t) at (lay t)

    abbrev HeldPut : ℕ → Spot → Type 0
    HeldPut t p = (q : Spot) × IsIn c (arrays t) q × ((arrays t q.area).place ≡ Held)
        × (returned (arrays t q.area).mode ≡ true)
        × Sets (call t) node (kid_at t) at ((arrays t q.area).block q.index) p

    abbrev HeldTouch : ℕ → Spot → Type 0
    HeldTouch t p = (q : Spot) × IsIn c (arrays t) q × ((arrays t q.area).place ≡ Held)
        × (Needs (call t) node (kid_at t) at ((arrays t q.area).block q.index) p
        ⊎ Sets (call t) node (kid_at t) at ((arrays t q.area).block q.index) p)

    abbrev InAt : ℕ → Spot → Type 0
    InAt t p = (l : Spot) × IsIn c (arrays t) l × ((arrays t l.area).place ≡ Buffer)
        × (reads (arrays t l.area).mode ≡ true) × Needs (call t) node (kid_at t) at ((arrays t l.area).block l.index) p

    abbrev OutAt : ℕ → Spot → Type 0
    OutAt t p = (l : Spot) × IsIn c (arrays t) l × ((arrays t l.area).place ≡ Buffer)
        × (returned (arrays t l.area).mode ≡ true)
        × Sets (call t) node (kid_at t) at ((arrays t l.area).block l.index) p

    abbrev TwiceAt : ℕ → Spot → Type 0
    TwiceAt t p = TwiceCell (child_of node (kid_at t)) (key t) c (arrays t) p

    held_put : (t : ℕ) → (lt : t < n) → (p : Spot)
        → HeldBack (key t) c (arrays t) (w t) node (kid_at t) at (fits t lt) (λ i li. pipe.lower t i lt li)
        (λ i li. pipe.plain t i lt li) p → HeldPut t p
    held_put t lt p h = (
      h.0,
      h.1,
      h.2,
      h.3,
      (
        h.0,
        h.1,
        h.3,
        refl,
        source_held (key t) c (arrays t) (w t) node (kid_at t) at (fits t lt)
            (λ i li. pipe.lower t i lt li) (λ i li. pipe.plain t i lt li) h.0 h.2 ∙ h.4,
      ),
    )

    works_put : (t : ℕ) → t < n → (p : Spot) → Puts (work t) p → Scratch (call t) node (kid_at t) p ⊎ HeldPut t p
    works_put t lt p h = ⊎_elim (λ x. inl x) (λ x. inr (held_put t lt p x))
        (work_puts (key t) c (arrays t) (w t) node (kid_at t) at (fits t lt) (λ i li. pipe.lower t i lt li)
        (λ i li. pipe.plain t i lt li) (body t)
        (λ q g. tree_puts (w t) (child_of node (kid_at t)) 0 (lay t) (path ++ t ∷ []) q (below t lt) g) p h)

    works_add : (t : ℕ) → t < n → (o : Target) (p : Spot) → Adds (work t) o p → Scratch (call t) node (kid_at t) p
        ⊎ HeldPut t p
    works_add t lt o p h = ⊎_elim (λ x. inl x) (λ x. inr (held_put t lt p x))
        (work_adds (key t) c (arrays t) (w t) node (kid_at t) at (fits t lt) (λ i li. pipe.lower t i lt li)
        (λ i li. pipe.plain t i lt li) (body t) o
        (λ q g. tree_adds (w t) (child_of node (kid_at t)) 0 (lay t) (path ++ t ∷ []) o q (below t lt) g)
        (λ q g. closed_of (fits t lt) (lay t) o q g) p h)

    works_take : (t : ℕ) → t < n → (p : Spot) → Takes (work t) p → Scratch (call t) node (kid_at t) p ⊎ HeldTouch t p
    works_take t lt p h = ⊎_elim (λ x. inl x) (λ x. inr (touched x))
        (work_takes (key t) c (arrays t) (w t) node (kid_at t) at (fits t lt) (λ i li. pipe.lower t i lt li)
        (λ i li. pipe.plain t i lt li) (body t)
        (λ q g. tree_takes (w t) (child_of node (kid_at t)) 0 (lay t) (path ++ t ∷ []) q (below t lt) g) p h)
      where
        touched : HeldAt (key t) c (arrays t) (w t) node (kid_at t) at (fits t lt) (λ i li. pipe.lower t i lt li)
            (λ i li. pipe.plain t i lt li) p → HeldTouch t p
        touched x =
            let e = source_held (key t) c (arrays t) (w t) node (kid_at t) at (fits t lt) (λ i li. pipe.lower t i lt li)
            (λ i li. pipe.plain t i lt li) x.0 x.2 ∙ x.3 in (
              x.0,
              x.1,
              x.2,
              ⊎_elim (λ r. inl (x.0, x.1, r, refl, e)) (λ r. inr (x.0, x.1, r, refl, e))
                  (reads_or_returned (arrays t x.0.area).mode
                  (stays_public (key t) c true (arrays t) (w t) node (kid_at t) at (fits t lt) x.0 x.1.0 (ap stays x.2))),
            )

    comes_put : (t : ℕ) → t < n → (p : Spot) → Puts (come t) p → TwiceAt t p
    comes_put t lt p h = come_puts (key t) c (arrays t) (w t) node (kid_at t) at (fits t lt)
        (λ i li. pipe.lower t i lt li) (λ i li. pipe.plain t i lt li) p h

    comes_add : (t : ℕ) → t < n → (o : Target) (p : Spot) → Adds (come t) o p → ⊥
    comes_add t lt o p h = come_adds (key t) c (arrays t) (w t) node (kid_at t) at (fits t lt)
        (λ i li. pipe.lower t i lt li) (λ i li. pipe.plain t i lt li) o p h

    comes_take : (t : ℕ) → t < n → (p : Spot) → Takes (come t) p → InAt t p
    comes_take t lt p h = let g = come_takes (key t) c (arrays t) (w t) node (kid_at t) at (fits t lt)
        (λ i li. pipe.lower t i lt li) (λ i li. pipe.plain t i lt li) p h in (
          g.0,
          g.1,
          g.2,
          g.3,
          in_needs (key t) c (arrays t) (w t) node (kid_at t) at (fits t lt)
              (λ i li. pipe.lower t i lt li) (λ i li. pipe.plain t i lt li) p g,
        )

    backs_put : (t : ℕ) → t < n → (p : Spot) → Puts (back t) p → OutAt t p
    backs_put t lt p h = let g = back_puts (key t) c (arrays t) (w t) node (kid_at t) at (fits t lt)
        (λ i li. pipe.lower t i lt li) (λ i li. pipe.plain t i lt li) p h in (
          g.0,
          g.1,
          g.2,
          g.3,
          out_sets (key t) c (arrays t) (w t) node (kid_at t) at (fits t lt)
              (λ i li. pipe.lower t i lt li) (λ i li. pipe.plain t i lt li) p g,
        )

    backs_add : (t : ℕ) → t < n → (o : Target) (p : Spot) → Adds (back t) o p → ⊥
    backs_add t lt o p h = back_adds (key t) c (arrays t) (w t) node (kid_at t) at (fits t lt)
        (λ i li. pipe.lower t i lt li) (λ i li. pipe.plain t i lt li) o p h

    backs_take : (t : ℕ) → t < n → (p : Spot) → Takes (back t) p → TwiceAt t p
    backs_take t lt p h = back_takes (key t) c (arrays t) (w t) node (kid_at t) at (fits t lt)
        (λ i li. pipe.lower t i lt li) (λ i li. pipe.plain t i lt li) p h

    up : (t : ℕ) → t < n → (l p : Spot) → Needs (call t) node (kid_at t) at l p ⊎ Sets (call t) node (kid_at t) at l p
        → R l p ⊎ Sets (Piped spread n form second c arrays w) node kid at l p
    up t lt l p h = ⊎_elim (λ x. inl (meets.cover l p (t, lt, x))) (λ x. inr (t, lt, x)) h

    in_apart : (t u : ℕ) → t < n → u < n → (l p : Spot) → Needs (call t) node (kid_at t) at l p
        ⊎ Sets (call t) node (kid_at t) at l p → Scratch (call u) node (kid_at u) p → ⊥
    in_apart t u lt lu l p h x = meets.apart l p (up t lt l p h) (u, lu, x)

    twice_in : (t : ℕ) (p : Spot) → TwiceAt t p → Scratch (call t) node (kid_at t) p
    twice_in t p h = inl (h.0, h.1, h.2, h.4)

    module _ (q : ℕ → Bool) (mate : (p t : ℕ) → Comes q p t → Comes (mates spread node n p) p t) where
      -- what the work of p changes is nothing that comes in for the next
      change_come : (p t : ℕ) → (f : Comes q p t) → (lp : p < n) → (lt : t < n) → (x : Spot)
          → Scratch (call p) node (kid_at p) x ⊎ HeldPut p x → TwiceAt t x ⊎ InAt t x → ⊥
      change_come p t f lp lt x (inl a) (inl b) = sets.sooner p t (mate p t f) lt x b a
      change_come p t f lp lt x (inl a) (inr b) = in_apart t p lt lp _ x (inl b.4) a
      change_come p t f lp lt x (inr a) (inl b) = in_apart p t lp lt _ x (inr a.4) (twice_in t x b)
      change_come p t f lp lt x (inr a) (inr b)
          = held_apart p t lp lt a.0 b.0 a.1 a.2 b.1 b.2 (reads_not_local (arrays t b.0.area).mode b.3) (inl a.3)
          (meets.clear _ _ x (p, lp, a.4) (up t lt _ x (inl b.4)))

      next_apart : (p t : ℕ) → Comes q p t → t < n → IsApart (work p) (come t)
      next_apart p t f lt = record {
        puts_puts = λ x a b. change_come p t f lp lt x (works_put p lp x a) (inl (comes_put t lt x b));
        puts_takes = λ x a b. change_come p t f lp lt x (works_put p lp x a) (inr (comes_take t lt x b));
        takes_puts = λ x a b. take x (works_take p lp x a) (comes_put t lt x b);
        puts_adds = λ o x a b. comes_add t lt o x b;
        adds_puts = λ o x a b. change_come p t f lp lt x (works_add p lp o x a) (inl (comes_put t lt x b));
        takes_adds = λ o x a b. comes_add t lt o x b;
        adds_takes = λ o x a b. change_come p t f lp lt x (works_add p lp o x a) (inr (comes_take t lt x b));
        adds_adds = λ o o' x a b. absurd (comes_add t lt o' x b);
      }
        where
          lp : p < n
          lp = omega (arith, f.0)

          take : (x : Spot) → Scratch (call p) node (kid_at p) x ⊎ HeldTouch p x → TwiceAt t x → ⊥
          take x (inl a) b = sets.sooner p t (mate p t f) lt x b a
          take x (inr a) b = in_apart p t lp lt _ x a.3 (twice_in t x b)

      -- what the work of t changes is nothing that goes back for the one before
      change_back : (p t : ℕ) → (f : Comes q p t) → (lp : p < n) → (lt : t < n) → (x : Spot)
          → Scratch (call t) node (kid_at t) x ⊎ HeldPut t x → OutAt p x ⊎ TwiceAt p x → ⊥
      change_back p t f lp lt x (inl a) (inl b) = in_apart p t lp lt _ x (inr b.4) a
      change_back p t f lp lt x (inl a) (inr b) = sets.later p t (mate p t f) lt x b a
      change_back p t f lp lt x (inr a) (inl b)
          = held_apart t p lt lp a.0 b.0 a.1 a.2 b.1 b.2 (returned_not_local (arrays p b.0.area).mode b.3) (inl a.3)
          (meets.clear _ _ x (t, lt, a.4) (up p lp _ x (inr b.4)))
      change_back p t f lp lt x (inr a) (inr b) = in_apart t p lt lp _ x (inr a.4) (twice_in p x b)

      before_apart : (p t : ℕ) → Comes q p t → t < n → IsApart (work t) (back p)
      before_apart p t f lt = record {
        puts_puts = λ x a b. change_back p t f lp lt x (works_put t lt x a) (inl (backs_put p lp x b));
        puts_takes = λ x a b. change_back p t f lp lt x (works_put t lt x a) (inr (backs_take p lp x b));
        takes_puts = λ x a b. take x (works_take t lt x a) (backs_put p lp x b);
        puts_adds = λ o x a b. backs_add p lp o x b;
        adds_puts = λ o x a b. change_back p t f lp lt x (works_add t lt o x a) (inl (backs_put p lp x b));
        takes_adds = λ o x a b. backs_add p lp o x b;
        adds_takes = λ o x a b. change_back p t f lp lt x (works_add t lt o x a) (inr (backs_take p lp x b));
        adds_adds = λ o o' x a b. absurd (backs_add p lp o' x b);
      }
        where
          lp : p < n
          lp = omega (arith, f.0)

          take : (x : Spot) → Scratch (call t) node (kid_at t) x ⊎ HeldTouch t x → OutAt p x → ⊥
          take x (inl a) b = in_apart p t lp lt _ x (inr b.4) a
          take x (inr a) b = held_apart t p lt lp a.0 b.0 a.1 a.2 b.1 b.2
              (returned_not_local (arrays p b.0.area).mode b.3) (inr b.3)
              (sym (meets.clear _ _ x (p, lp, b.4) (up t lt _ x a.3)))

      call_meets' : (t : ℕ) → t < n → Meets R (call t) node (kid_at t) at
      call_meets' t lt = record {
        cover = λ l p h. meets.cover l p (t, lt, h);
        one = λ l p p' h h'. meets.one l p p' (t, lt, h) (⊎_elim (λ r. inl r) (λ x. inr (t, lt, x)) h');
        clear = λ l l' p h h'. meets.clear l l' p (t, lt, h) (⊎_elim (λ r. inl r) (λ x. inr (t, lt, x)) h');
        apart = λ l p h x. meets.apart l p (⊎_elim (λ r. inl r) (λ x. inr (t, lt, x)) h) (t, lt, x);
        aside = λ l l' p h x. meets.aside l l' p (⊎_elim (λ r. inl r) (λ x. inr (t, lt, x)) h) (t, lt, x);
        sums = λ l l' p h h'. meets.sums l l' p (t, lt, h) (t, lt, h');
        sum_apart = λ l p h x. meets.sum_apart l p (t, lt, h) (t, lt, x);
      }

      list_independent : ((t : ℕ) → t < n
          → ((R' : Spot → Spot → Type 0) → Meets R' (w t) (child_of node (kid_at t)) 0 (lay t) → Independent (body t)))
          → Independent (piped come work back q n)
      list_independent ih =
          piped_independent come work back q n
          (λ t lt. come_independent (key t) c true (arrays t) (w t) node (kid_at t) at R (fits t lt) (placed t lt)
          (call_meets' t lt))
          (λ t lt. work_independent (key t) c true (arrays t) (w t) node (kid_at t) at R (fits t lt) (placed t lt)
          (call_meets' t lt) (body t) (ih t lt (λ l p. IsIn c (arrays t) l × (lay t l ≡ p))
          (inner_meets (key t) c true (arrays t) (w t) node (kid_at t) at R (fits t lt) (placed t lt)
          (call_meets' t lt))))
          (λ t lt. back_independent (key t) c true (arrays t) (w t) node (kid_at t) at R (fits t lt) (placed t lt)
          (call_meets' t lt))
          next_apart before_apart

-- a loop that holds arrays
module _ (form : Form) (n : ℕ) (arrays : ℕ → Array) (w : Work) (node : Node) (kid : ℕ) (at : Layout)
    (R : Spot → Spot → Type 0) (fits : HoldFits form n arrays w node kid)
    (meets : Meets R (Hold form n arrays w) node kid at) where
  abbrev W' : Work
  W' = Hold form n arrays w

  abbrev takings : ℕ → Tree
  takings = one_take form n arrays w node kid at R fits meets

  abbrev leavings : ℕ → Tree
  leavings = one_leave form n arrays w node kid at R fits meets

  taken_cell : (i : ℕ) → i < n → (p : Spot) → Puts (takings i) p → (q : Spot) × (q.area ≡ i) × IsIn n arrays q
      × ((arrays q.area).place ≡ Held) × (own (child_of node kid) form q ≡ p)
  taken_cell i li p h = let x = take_puts (arrays i).mode (held (arrays i).place) (arrays i).size _ _ p h in
      (spot i x.0, refl, (li, x.1), held_true (arrays i).place x.3, x.2)

  taken_from : (i : ℕ) → i < n → (p : Spot) → Takes (takings i) p → (l : Spot) × R l p
  taken_from i li p h = let x = take_takes (arrays i).mode (held (arrays i).place) (arrays i).size _ _ p h in (
    (arrays i).block x.0,
    meets.cover _ p
        (inr (spot i x.0, (li, x.1), held_true (arrays i).place x.4, x.3, refl, x.2)),
  )

  takes_apart : (i j : ℕ) → i < n → j < n → i ≢ j → IsApart (takings i) (takings j)
  takes_apart i j li lj ne = record {
    puts_puts = λ p a b. let x = taken_cell i li p a in let y
        = taken_cell j lj p b in ne (sym x.1 ∙ ap (λ q. q.area) (fits.separate x.0 y.0 x.2 y.2 x.3 y.3 (x.4 ∙ sym y.4))
        ∙ y.1);
    puts_takes = λ p a b. let x = taken_cell i li p a in let y
        = taken_from j lj p b in meets.apart y.0 p (inl y.1) (inl (x.0, x.2, x.3, x.4));
    takes_puts = λ p a b. let x = taken_from i li p a in let y
        = taken_cell j lj p b in meets.apart x.0 p (inl x.1) (inl (y.0, y.2, y.3, y.4));
    puts_adds = λ o p a b. take_adds (arrays j).mode (held (arrays j).place) (arrays j).size _ _ o p b;
    adds_puts = λ o p a b. take_adds (arrays i).mode (held (arrays i).place) (arrays i).size _ _ o p a;
    takes_adds = λ o p a b. take_adds (arrays j).mode (held (arrays j).place) (arrays j).size _ _ o p b;
    adds_takes = λ o p a b. take_adds (arrays i).mode (held (arrays i).place) (arrays i).size _ _ o p a;
    adds_adds = λ o o' p a b. absurd (take_adds (arrays i).mode (held (arrays i).place) (arrays i).size _ _ o p a);
  }

  left_at : (i : ℕ) → i < n → (p : Spot) → Puts (leavings i) p → (q : Spot) × (q.area ≡ i) × IsIn n arrays q
      × ((arrays q.area).place ≡ Held) × (returned (arrays q.area).mode ≡ true)
      × Sets W' node kid at ((arrays q.area).block q.index) p
  left_at i li p h = let x = leave_puts (arrays i).mode (held (arrays i).place) (arrays i).size _ _ p h in let e
      = held_true (arrays i).place x.4 in
      (spot i x.0, refl, (li, x.1), e, x.3, inr (spot i x.0, (li, x.1), e, x.3, refl, x.2))

  left_from : (i : ℕ) → i < n → (p : Spot) → Takes (leavings i) p → HeldCell (child_of node kid) form n arrays p
  left_from i li p h = let x = leave_takes (arrays i).mode (held (arrays i).place) (arrays i).size _ _ p h in
      (spot i x.0, (li, x.1), held_true (arrays i).place x.3, x.2)

  leaves_apart : (i j : ℕ) → i < n → j < n → i ≢ j → IsApart (leavings i) (leavings j)
  leaves_apart i j li lj ne = record {
    puts_puts = λ p a b. let x = left_at i li p a in let y
        = left_at j lj p b in ne (sym x.1 ∙ ap (λ q. q.area)
        (fits.distinct x.0 y.0 x.2 y.2 x.3 y.3 x.4 (meets.clear _ _ p x.5 (inr y.5))) ∙ y.1);
    puts_takes = λ p a b. let x = left_at i li p a in meets.apart _ p (inr x.5) (inl (left_from j lj p b));
    takes_puts = λ p a b. let y = left_at j lj p b in meets.apart _ p (inr y.5) (inl (left_from i li p a));
    puts_adds = λ o p a b. leave_adds (arrays j).mode (held (arrays j).place) (arrays j).size _ _ o p b;
    adds_puts = λ o p a b. leave_adds (arrays i).mode (held (arrays i).place) (arrays i).size _ _ o p a;
    takes_adds = λ o p a b. leave_adds (arrays j).mode (held (arrays j).place) (arrays j).size _ _ o p b;
    adds_takes = λ o p a b. leave_adds (arrays i).mode (held (arrays i).place) (arrays i).size _ _ o p a;
    adds_adds = λ o o' p a b. absurd (leave_adds (arrays i).mode (held (arrays i).place) (arrays i).size _ _ o p a);
  }

  pub hold_independent : (body : Tree) → Independent body
      → Independent (Seq (takes (child_of node kid) form n arrays at)
      (Seq body (leaves (child_of node kid) form n arrays at)))
  hold_independent body h = (
    beside_independent n takings (λ i li. take_independent (arrays i).mode (held (arrays i).place) (arrays i).size _ _)
        takes_apart,
    (
      h,
      beside_independent n leavings
          (λ i li. leave_independent (arrays i).mode (held (arrays i).place) (arrays i).size _ _) leaves_apart,
    ),
  )

-- lanes of iterations that never share an element that one of them writes; what a lane does to a cell, one of its
-- iterations does
module _ (rule : Rule) (n : ℕ) (w : ℕ → Work) (node : Node) (kid : ℕ) (at : Layout) (R : Spot → Spot → Type 0)
    (free : IsRaceFree n w node (λ t. lane_of rule node n t)) (meets : Meets R (AtOnce (Some rule) n w) node kid at)
    (lane_tree : ℕ → Tree)
    (puts : (c : ℕ) (p : Spot) → Puts (lane_tree c) p → (t : ℕ) × (t < n) × (eqb (lane_of rule node n t) c ≡ true)
    × Mods (w t) node (lane_of rule node n t) at p)
    (adds : (c : ℕ) (o : Target) (p : Spot) → Adds (lane_tree c) o p → (t : ℕ) × (t < n)
    × (eqb (lane_of rule node n t) c ≡ true) × (GathersAt (w t) at o p ⊎ Mods (w t) node (lane_of rule node n t) at p))
    (takings : (c : ℕ) (p : Spot) → Takes (lane_tree c) p → (t : ℕ) × (t < n) × (eqb (lane_of rule node n t) c ≡ true)
    × Touch (w t) node (lane_of rule node n t) at p)
  where
    abbrev ln : ℕ → ℕ
    ln t = lane_of rule node n t

    upper : (t : ℕ) → t < n → (l p : Spot) → Needs (w t) node (ln t) at l p ⊎ Sets (w t) node (ln t) at l p → R l p
        ⊎ Sets (AtOnce (Some rule) n w) node kid at l p
    upper t lt l p h = ⊎_elim (λ x. inl (meets.cover l p (t, lt, x))) (λ x. inr (t, lt, x)) h

    mods_touch : (a b : ℕ) → a < n → b < n → ln a ≢ ln b → (p : Spot) → Mods (w a) node (ln a) at p
        → Touch (w b) node (ln b) at p → ⊥
    mods_touch a b la lb ne p (inl x) (inl y) = let z
        = meets.clear x.0 y.0 p (a, la, x.1) (upper b lb y.0 p y.1) in free.apart a b la lb (λ e. ne (ap ln e)) at y.0 p
        p (subst (λ l. Sets (w a) node (ln a) at l p) z x.1) y.1
    mods_touch a b la lb ne p (inl x) (inr y) = meets.apart x.0 p (inr (a, la, x.1)) (b, lb, y)
    mods_touch a b la lb ne p (inr x) (inl y) = meets.apart y.0 p (upper b lb y.0 p y.1) (a, la, x)
    mods_touch a b la lb ne p (inr x) (inr y) = free.lanes a b la lb ne p x y

    touch_of : (b : ℕ) (p : Spot) → Mods (w b) node (ln b) at p → Touch (w b) node (ln b) at p
    touch_of b p (inl x) = inl (x.0, inr x.1)
    touch_of b p (inr x) = inr x

    abbrev Gives : ℕ → Target → Spot → Type 0
    Gives t o p = GathersAt (w t) at o p ⊎ Mods (w t) node (ln t) at p

    adds_touch : (a b : ℕ) → a < n → b < n → ln a ≢ ln b → (o : Target) (p : Spot) → Gives a o p
        → Touch (w b) node (ln b) at p → ⊥
    adds_touch a b la lb ne o p (inl x) (inl y) = let g
        = gathers_at (w a) node (ln a) at o p x in meets.aside y.0 g.0 p (upper b lb y.0 p y.1) (a, la, g.1)
    adds_touch a b la lb ne o p (inl x) (inr y) = let g
        = gathers_at (w a) node (ln a) at o p x in meets.sum_apart g.0 p (a, la, g.1) (b, lb, y)
    adds_touch a b la lb ne o p (inr x) y = mods_touch a b la lb ne p x y

    differ : (a b c d : ℕ) → c ≢ d → eqb (ln a) c ≡ true → eqb (ln b) d ≡ true → ln a ≢ ln b
    differ a b c d ne x y e = ne (sym (eqb-true (ln a) c x) ∙ e ∙ eqb-true (ln b) d y)

    other : (a b c d : ℕ) → c ≢ d → eqb (ln a) c ≡ true → eqb (ln b) d ≡ true → ln b ≢ ln a
    other a b c d ne x y e = differ a b c d ne x y (sym e)

    lanes_apart : (c d : ℕ) → c ≢ d → IsApart (lane_tree c) (lane_tree d)
    lanes_apart c d ne = record {
      puts_puts = λ p a b. let x = puts c p a in let y
          = puts d p b in mods_touch x.0 y.0 x.1 y.1 (differ x.0 y.0 c d ne x.2 y.2) p x.3 (touch_of y.0 p y.3);
      puts_takes = λ p a b. let x = puts c p a in let y
          = takings d p b in mods_touch x.0 y.0 x.1 y.1 (differ x.0 y.0 c d ne x.2 y.2) p x.3 y.3;
      takes_puts = λ p a b. let x = takings c p a in let y
          = puts d p b in mods_touch y.0 x.0 y.1 x.1 (other x.0 y.0 c d ne x.2 y.2) p y.3 x.3;
      puts_adds = λ o p a b. let x = puts c p a in let y
          = adds d o p b in adds_touch y.0 x.0 y.1 x.1 (other x.0 y.0 c d ne x.2 y.2) o p y.3 (touch_of x.0 p x.3);
      adds_puts = λ o p a b. let x = adds c o p a in let y
          = puts d p b in adds_touch x.0 y.0 x.1 y.1 (differ x.0 y.0 c d ne x.2 y.2) o p x.3 (touch_of y.0 p y.3);
      takes_adds = λ o p a b. let x = takings c p a in let y
          = adds d o p b in adds_touch y.0 x.0 y.1 x.1 (other x.0 y.0 c d ne x.2 y.2) o p y.3 x.3;
      adds_takes = λ o p a b. let x = adds c o p a in let y
          = takings d p b in adds_touch x.0 y.0 x.1 y.1 (differ x.0 y.0 c d ne x.2 y.2) o p x.3 y.3;
      adds_adds = λ o o' p a b. let x = adds c o p a in let y
          = adds d o' p b in both x.0 y.0 x.1 y.1 (differ x.0 y.0 c d ne x.2 y.2) (other x.0 y.0 c d ne x.2 y.2) o o' p
          x.3 y.3;
    }
      where
        both : (a b : ℕ) → (la : a < n) → (lb : b < n) → ln a ≢ ln b → ln b ≢ ln a → (o o' : Target) (p : Spot)
            → Gives a o p → Gives b o' p → o ≡ o'
        both a b la lb ne ne' o o' p (inl g) (inl h) =
            let x = gathers_of (w a) node (ln a) at o.op g.1 g.0 g.2 in
            let y = gathers_of (w b) node (ln b) at o'.op h.1 h.0 h.2 in
            let same : g.0 ≡ h.0 = meets.sums g.0 h.0 p (a, la, subst (λ z. Gathers (w a) node (ln a) at g.0 z) g.3 x)
            (b, lb, subst (λ z. Gathers (w b) node (ln b) at h.0 z) h.3 y) in
            let one = free.one_op a b la lb o.op o'.op g.1 h.1 h.0 (subst (λ z. GathersOf (w a) o.op g.1 z) same g.2)
            h.2 in
            target_path o o' one.0 (sym g.4 ∙ ap at one.1 ∙ h.4)
        both a b la lb ne ne' o o' p (inl g) (inr h) = absurd (adds_touch a b la lb ne o p (inl g) (touch_of b p h))
        both a b la lb ne ne' o o' p (inr g) h = absurd (adds_touch b a lb la ne' o' p h (touch_of a p g))

    pub lanes_independent : ((c : ℕ) → Independent (lane_tree c)) → Independent (beside (fan_of node) lane_tree)
    lanes_independent each = beside_independent (fan_of node) lane_tree (λ c lc. each c)
        (λ c d lc ld ne. lanes_apart c d ne)

-- lanes of iterations one after another
lanes_in_turn : (rule : Rule) (n : ℕ) (w : ℕ → Work) (node : Node) (kid : ℕ) (at : Layout) (R : Spot → Spot → Type 0)
    → IsRaceFree n w node (λ t. lane_of rule node n t) → Meets R (AtOnce (Some rule) n w) node kid at → (one : ℕ → Tree)
    →
    ((t : ℕ) → t < n → (p : Spot) → Puts (one t) p → Mods (w t) node (lane_of rule node n t) at p) →
    ((t : ℕ) → t < n → (o : Target) (p : Spot) → Adds (one t) o p → GathersAt (w t) at o p
    ⊎ Mods (w t) node (lane_of rule node n t) at p) →
    ((t : ℕ) → t < n → (p : Spot) → Takes (one t) p → Touch (w t) node (lane_of rule node n t) at p) →
    ((t : ℕ) → t < n → Independent (one t))
    → Independent (beside (fan_of node) (λ c. turns (λ t. eqb (lane_of rule node n t) c) n one))
lanes_in_turn rule n w node kid at R free meets one puts adds takings each =
    lanes_independent rule n w node kid at R free meets (λ c. turns (λ t. eqb (lane_of rule node n t) c) n one)
    (λ c p h. let x = puts_turns (λ t. eqb (lane_of rule node n t) c) n one p h in (x.0, x.1, x.2, puts x.0 x.1 p x.3))
    (λ c o p h. let x = adds_turns o (λ t. eqb (lane_of rule node n t) c) n one p h in
    (x.0, x.1, x.2, adds x.0 x.1 o p x.3))
    (λ c p h. let x = takes_turns (λ t. eqb (lane_of rule node n t) c) n one p h in
    (x.0, x.1, x.2, takings x.0 x.1 p x.3))
    (λ c. turns_independent (λ t. eqb (lane_of rule node n t) c) n one (λ t lt y. each t lt))

-- an iteration of a map
pub turn_of : (spread : Option Rule) (n : ℕ) (w : ℕ → Work) (node : Node) (kid : ℕ) (at : Layout)
    (R : Spot → Spot → Type 0) → Meets R (AtOnce spread n w) node kid at → (t : ℕ) → t < n
    → Meets R (w t) node (lane_kid spread node kid n t) at
turn_of spread n w node kid at R meets t lt = record {
  cover = λ l p h. meets.cover l p (t, lt, h);
  one = λ l p p' h h'. meets.one l p p' (t, lt, h) (⊎_elim (λ r. inl r) (λ x. inr (t, lt, x)) h');
  clear = λ l l' p h h'. meets.clear l l' p (t, lt, h) (⊎_elim (λ r. inl r) (λ x. inr (t, lt, x)) h');
  apart = λ l p h x. meets.apart l p (⊎_elim (λ r. inl r) (λ x. inr (t, lt, x)) h) (t, lt, x);
  aside = λ l l' p h x. meets.aside l l' p (⊎_elim (λ r. inl r) (λ x. inr (t, lt, x)) h) (t, lt, x);
  sums = λ l l' p h h'. meets.sums l l' p (t, lt, h) (t, lt, h');
  sum_apart = λ l p h x. meets.sum_apart l p (t, lt, h) (t, lt, x);
}

-- the theorem
pub unordered : AnyOrder → (w : Work) (node : Node) (kid : ℕ) (at : Layout) (path : List ℕ) (R : Spot → Spot → Type 0)
    → Sound w node kid → Meets R w node kid at → Independent (tree w node kid at path)
unordered any Nothing node kid at path R sound meets = tt
unordered any (Then a b) node kid at path R sound meets = (
  unordered any a node kid at path R sound.0 (record {
    cover = λ l p h. meets.cover l p (inl h);
    one = λ l p p' h h'. meets.one l p p' (inl h) (⊎_elim (λ r. inl r) (λ x. inr (inl x)) h');
    clear = λ l l' p h h'. meets.clear l l' p (inl h) (⊎_elim (λ r. inl r) (λ x. inr (inl x)) h');
    apart = λ l p h x. meets.apart l p (⊎_elim (λ r. inl r) (λ x. inr (inl x)) h) (inl x);
    aside = λ l l' p h x. meets.aside l l' p (⊎_elim (λ r. inl r) (λ x. inr (inl x)) h) (inl x);
    sums = λ l l' p h h'. meets.sums l l' p (inl h) (inl h');
    sum_apart = λ l p h x. meets.sum_apart l p (inl h) (inl x);
  }),
  unordered any b node kid at path R sound.1 (record {
    cover = λ l p h. meets.cover l p (inr h);
    one = λ l p p' h h'. meets.one l p p' (inr h) (⊎_elim (λ r. inl r) (λ x. inr (inr x)) h');
    clear = λ l l' p h h'. meets.clear l l' p (inr h) (⊎_elim (λ r. inl r) (λ x. inr (inr x)) h');
    apart = λ l p h x. meets.apart l p (⊎_elim (λ r. inl r) (λ x. inr (inr x)) h) (inr x);
    aside = λ l l' p h x. meets.aside l l' p (⊎_elim (λ r. inl r) (λ x. inr (inr x)) h) (inr x);
    sums = λ l l' p h h'. meets.sums l l' p (inr h) (inr h');
    sum_apart = λ l p h x. meets.sum_apart l p (inr h) (inr x);
  }),
)
unordered any (Each n w) node kid at path R sound meets =
    turns_independent every n _ (λ t lt y. unordered any (w t) node kid at (path ++ t ∷ []) R (sound t lt) (record {
      cover = λ l p h. meets.cover l p (t, lt, h);
      one = λ l p p' h h'. meets.one l p p' (t, lt, h) (⊎_elim (λ r. inl r) (λ x. inr (t, lt, x)) h');
      clear = λ l l' p h h'. meets.clear l l' p (t, lt, h) (⊎_elim (λ r. inl r) (λ x. inr (t, lt, x)) h');
      apart = λ l p h x. meets.apart l p (⊎_elim (λ r. inl r) (λ x. inr (t, lt, x)) h) (t, lt, x);
      aside = λ l l' p h x. meets.aside l l' p (⊎_elim (λ r. inl r) (λ x. inr (t, lt, x)) h) (t, lt, x);
      sums = λ l l' p h h'. meets.sums l l' p (t, lt, h) (t, lt, h');
      sum_apart = λ l p h x. meets.sum_apart l p (t, lt, h) (t, lt, x);
    }))
unordered any (AtOnce None n w) node kid at path R sound meets =
    turns_independent every n _ (λ t lt y. unordered any (w t) node kid at (path ++ t ∷ []) R (sound.1 t lt).1
    (turn_of None n w node kid at R meets t lt))
unordered any (AtOnce (Some rule) n w) node kid at path R sound meets =
    let same : tree (AtOnce (Some rule) n w) node kid at path
    ≡ beside (fan_of node) (λ c. turns (λ t. eqb (lane_of rule node n t) c) n
    (λ t. tree (w t) node (lane_of rule node n t) at (path ++ t ∷ []))) =
    beside_same (fan_of node) _ _ (λ c. turns_same (λ t. eqb (lane_of rule node n t) c) n _ _
    (λ t e. ap (λ k. tree (w t) node k at (path ++ t ∷ [])) (sym (eqb-true (lane_of rule node n t) c e)))) in
    subst Independent (sym same)
    (lanes_in_turn rule n w node kid at R sound.0 meets
    (λ t. tree (w t) node (lane_of rule node n t) at (path ++ t ∷ []))
    (λ t lt p h. tree_puts (w t) node (lane_of rule node n t) at (path ++ t ∷ []) p (sound.1 t lt).1 h)
    (λ t lt o p h. tree_adds (w t) node (lane_of rule node n t) at (path ++ t ∷ []) o p (sound.1 t lt).1 h)
    (λ t lt p h. tree_takes (w t) node (lane_of rule node n t) at (path ++ t ∷ []) p (sound.1 t lt).1 h)
    (λ t lt. unordered any (w t) node (lane_of rule node n t) at (path ++ t ∷ []) R (sound.1 t lt).1
    (turn_of (Some rule) n w node kid at R meets t lt)))
unordered any (Call form lower n arrays w) node kid at path R sound meets =
    call_independent form n lower arrays w node kid at R sound.0 sound.1 meets _
    (unordered any w (node_of lower node kid) 0 (layout (node_of lower node kid) form arrays at) path
    (Inside form n lower arrays w node kid at R sound.0 sound.1 meets) sound.2
    (inner_meets form n lower arrays w node kid at R sound.0 sound.1 meets))
unordered any (Hold form n arrays w) node kid at path R sound meets =
    hold_independent form n arrays w node kid at R sound.0 meets _
    (unordered any w node kid at path (Within form n arrays w node kid at R sound.0 meets) sound.1
    (within_meets form n arrays w node kid at R sound.0 meets))
unordered any (Reduce op size block which None n form lower c arrays w) node kid at path R sound meets =
    turns_independent every n (λ t. call_tree (c t) (arrays t) at
    (layout (node_of lower node kid) (form t) (arrays t) at)
    (tree (w t) (node_of lower node kid) 0 (layout (node_of lower node kid) (form t) (arrays t) at)
    (path ++ t ∷ []))) (λ t lt y. call_independent (form t) (c t) lower (arrays t) (w t) node kid at
    (Rest any op size block which None n form lower c arrays w node kid at path R sound meets (λ q. 0))
    (sound.1.1 t lt).1.0 (sound.1.1 t lt).1.1
    (turn_of None n (λ t. Call (form t) lower (c t) (arrays t) (w t)) node kid at
    (Rest any op size block which None n form lower c arrays w node kid at path R sound meets (λ q. 0))
    (rest_meets any op size block which None n form lower c arrays w node kid at path R sound meets (λ q. 0)) t lt)
    (tree (w t) (node_of lower node kid) 0 (layout (node_of lower node kid) (form t) (arrays t) at)
    (path ++ t ∷ [])) (unordered any (w t) (node_of lower node kid) 0
    (layout (node_of lower node kid) (form t) (arrays t) at) (path ++ t ∷ [])
    (Inside (form t) (c t) lower (arrays t) (w t) node kid at
    (Rest any op size block which None n form lower c arrays w node kid at path R sound meets (λ q. 0))
    (sound.1.1 t lt).1.0 (sound.1.1 t lt).1.1
    (turn_of None n (λ t. Call (form t) lower (c t) (arrays t) (w t)) node kid at
    (Rest any op size block which None n form lower c arrays w node kid at path R sound meets (λ q. 0))
    (rest_meets any op size block which None n form lower c arrays w node kid at path R sound meets (λ q. 0)) t lt))
    (sound.1.1 t lt).1.2 (inner_meets (form t) (c t) lower (arrays t) (w t) node kid at
    (Rest any op size block which None n form lower c arrays w node kid at path R sound meets (λ q. 0))
    (sound.1.1 t lt).1.0 (sound.1.1 t lt).1.1
    (turn_of None n (λ t. Call (form t) lower (c t) (arrays t) (w t)) node kid at
    (Rest any op size block which None n form lower c arrays w node kid at path R sound meets (λ q. 0))
    (rest_meets any op size block which None n form lower c arrays w node kid at path R sound meets (λ q. 0)) t
    lt))))
unordered any (Reduce op size block which (Some rule) n form lower c arrays w) node kid at path R sound meets =
    let same : tree (AtOnce (Some rule) n (λ t. Call (form t) lower (c t) (arrays t) (w t))) node kid at path
    ≡ beside (fan_of node) (λ d. turns (λ t. eqb (lane_of rule node n t) d) n
    (λ t. tree (Call (form t) lower (c t) (arrays t) (w t)) node (lane_of rule node n t) at (path ++ t ∷ []))) =
    beside_same (fan_of node) _ _ (λ d. turns_same (λ t. eqb (lane_of rule node n t) d) n _ _
    (λ t e. ap (λ k. tree (Call (form t) lower (c t) (arrays t) (w t)) node k at (path ++ t ∷ []))
    (sym (eqb-true (lane_of rule node n t) d e)))) in
    subst Independent (sym same)
    (lanes_in_turn rule n (λ t. Call (form t) lower (c t) (arrays t) (w t)) node kid at
    (Rest any op size block which (Some rule) n form lower c arrays w node kid at path R sound meets (λ q. 0)) sound.1.0
    (rest_meets any op size block which (Some rule) n form lower c arrays w node kid at path R sound meets (λ q. 0))
    (λ t. tree (Call (form t) lower (c t) (arrays t) (w t)) node (lane_of rule node n t) at (path ++ t ∷ []))
    (λ t lt p h. tree_puts (Call (form t) lower (c t) (arrays t) (w t)) node (lane_of rule node n t) at (path ++ t ∷ [])
    p (sound.1.1 t lt).1 h)
    (λ t lt o p h. tree_adds (Call (form t) lower (c t) (arrays t) (w t)) node (lane_of rule node n t) at
    (path ++ t ∷ []) o p (sound.1.1 t lt).1 h)
    (λ t lt p h. tree_takes (Call (form t) lower (c t) (arrays t) (w t)) node (lane_of rule node n t) at
    (path ++ t ∷ []) p (sound.1.1 t lt).1 h)
    (λ t lt. call_independent (form t) (c t) lower (arrays t) (w t) node (lane_of rule node n t) at
    (Rest any op size block which (Some rule) n form lower c arrays w node kid at path R sound meets (λ q. 0))
    (sound.1.1 t lt).1.0 (sound.1.1 t lt).1.1
    (turn_of (Some rule) n (λ t. Call (form t) lower (c t) (arrays t) (w t)) node kid at
    (Rest any op size block which (Some rule) n form lower c arrays w node kid at path R sound meets (λ q. 0))
    (rest_meets any op size block which (Some rule) n form lower c arrays w node kid at path R sound meets (λ q. 0)) t
    lt) (tree (w t) (node_of lower node (lane_of rule node n t)) 0
    (layout (node_of lower node (lane_of rule node n t)) (form t) (arrays t) at) (path ++ t ∷ []))
    (unordered any (w t) (node_of lower node (lane_of rule node n t)) 0
    (layout (node_of lower node (lane_of rule node n t)) (form t) (arrays t) at) (path ++ t ∷ [])
    (Inside (form t) (c t) lower (arrays t) (w t) node (lane_of rule node n t) at
    (Rest any op size block which (Some rule) n form lower c arrays w node kid at path R sound meets (λ q. 0))
    (sound.1.1 t lt).1.0 (sound.1.1 t lt).1.1
    (turn_of (Some rule) n (λ t. Call (form t) lower (c t) (arrays t) (w t)) node kid at
    (Rest any op size block which (Some rule) n form lower c arrays w node kid at path R sound meets (λ q. 0))
    (rest_meets any op size block which (Some rule) n form lower c arrays w node kid at path R sound meets (λ q. 0)) t
    lt)) (sound.1.1 t lt).1.2 (inner_meets (form t) (c t) lower (arrays t) (w t) node (lane_of rule node n t) at
    (Rest any op size block which (Some rule) n form lower c arrays w node kid at path R sound meets (λ q. 0))
    (sound.1.1 t lt).1.0 (sound.1.1 t lt).1.1
    (turn_of (Some rule) n (λ t. Call (form t) lower (c t) (arrays t) (w t)) node kid at
    (Rest any op size block which (Some rule) n form lower c arrays w node kid at path R sound meets (λ q. 0))
    (rest_meets any op size block which (Some rule) n form lower c arrays w node kid at path R sound meets (λ q. 0)) t
    lt)))))
unordered any (Piped None n form second c arrays w) node kid at path R sound meets =
    list_independent None n form second c arrays w node kid at path R meets sound.0 sound.2 (λ t lt. (sound.3 t lt).0)
    (λ t lt. (sound.3 t lt).1) (λ t lt. (sound.3 t lt).2)
    (λ t u lt lu q l i h i' b ne r e. sound.1.held_apart t u q.area l.area q.index l.index lt lu i.0 i'.0
    (differs n form second c arrays w node kid at path R sound meets t u q.area l.area lt lu i.0 h b) i.1 i'.1 h ne r e)
    every (λ p t f. f) (λ t lt R' m. unordered any (w t) (child_of node kid) 0
    (layout (child_of node kid) (set_of None node n form second t) (arrays t) at) (path ++ t ∷ []) R'
    (sound.3 t lt).2 m)
unordered any (Piped (Some rule) n form second c arrays w) node kid at path R sound meets =
    lanes_independent rule n (λ t. Call (set_of (Some rule) node n form second t) true c (arrays t) (w t)) node kid at R
    sound.3.0 (at_once_meets rule n form second c arrays w node kid at path R sound meets) _
    (λ d p h. list_puts (Some rule) n form second c arrays w node kid at path sound.0 (λ t lt. (sound.3.1 t lt).1.0) d
    (λ t. eqb (lane_of rule node n t) d) (λ t y. eqb-true _ _ y)
    (λ t lt p h. tree_puts (w t) (child_of node (lane_of rule node n t)) 0
    (layout (child_of node (lane_of rule node n t)) (set_of (Some rule) node n form second t) (arrays t) at)
    (path ++ t ∷ []) p (sound.3.1 t lt).1.2 h) p h)
    (λ d o p h. let a = list_adds (Some rule) n form second c arrays w node kid at path sound.0
    (λ t lt. (sound.3.1 t lt).1.0) d (λ t. eqb (lane_of rule node n t) d) (λ t y. eqb-true _ _ y)
    (λ t lt o p h. tree_adds (w t) (child_of node (lane_of rule node n t)) 0
    (layout (child_of node (lane_of rule node n t)) (set_of (Some rule) node n form second t) (arrays t) at)
    (path ++ t ∷ []) o p (sound.3.1 t lt).1.2 h) o p h in (a.0, a.1, a.2, inr a.3))
    (λ d p h. list_takes (Some rule) n form second c arrays w node kid at path sound.0 (λ t lt. (sound.3.1 t lt).1.0) d
    (λ t. eqb (lane_of rule node n t) d) (λ t y. eqb-true _ _ y)
    (λ t lt p h. tree_takes (w t) (child_of node (lane_of rule node n t)) 0
    (layout (child_of node (lane_of rule node n t)) (set_of (Some rule) node n form second t) (arrays t) at)
    (path ++ t ∷ []) p (sound.3.1 t lt).1.2 h) p h)
    (λ d. subst Independent (sym (lane_same rule n form second c arrays w node kid at path R sound meets d))
    (list_independent (Some rule) n form second c arrays w node kid at path R meets sound.0 sound.2
    (λ t lt. (sound.3.1 t lt).1.0) (λ t lt. (sound.3.1 t lt).1.1) (λ t lt. (sound.3.1 t lt).1.2)
    (λ t u lt lu q l i h i' b ne r e. nothing_held rule n form second c arrays w node kid at path R sound meets t q.area
    lt i.0 h)
    (λ t. eqb (lane_of rule node n t) d)
    (λ p t f. follow rule n form second c arrays w node kid at path R sound meets d p t f)
    (λ t lt R' m. unordered any (w t) (child_of node (lane_of rule node n t)) 0
    (layout (child_of node (lane_of rule node n t)) (set_of (Some rule) node n form second t) (arrays t) at)
    (path ++ t ∷ []) R' (sound.3.1 t lt).1.2 m)))
unordered any (Leaf code n size writes) node kid at path R sound meets = tt
