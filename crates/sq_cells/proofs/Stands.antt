-- Where a list of iterations stands, and what the tree of its overlapped transfers is made of.
use Rattle.std.proofs.Common.{◌≡◌, ℕ, zero, suc, ◌<◌, Bool, true, false, cond, Option, Some, None, refl, sym, ap, ap₂}
use Rattle.std.proofs.Common.{subst, arith, ◌⊎◌, inl, inr, ⊎_elim}
use Rattle.sq_cells.specs.Cells.{Spot}
use Rattle.sq_ir.specs.Runs.{least}
use Rattle.sq_cells.specs.Tree.{Trap, Tree, Empty, Seq, Par}
use Rattle.sq_cells.specs.Lowered.{pick, beside, turns, Stand, NoneYet, First, More, next_stand, stand, stage_of}
use Rattle.sq_cells.specs.Lowered.{staged, last_of, piped, how_many, Comes}
use Rattle.sq_cells.proofs.Access.{end_or_below}

pub least_none : (o : Option Trap) → least o None ≡ o
least_none None = refl
least_none (Some x) = refl

pub beside_same : (n : ℕ) (f g : ℕ → Tree) → ((i : ℕ) → f i ≡ g i) → beside n f ≡ beside n g
beside_same zero f g h = refl
beside_same (suc n) f g h = ap₂ Par (beside_same n f g h) (h n)

module _ (q : ℕ → Bool) where
  -- a list's last iteration, or none
  abbrev pub Has : Stand → ℕ → Type 0
  Has NoneYet j = (t : ℕ) → t < j → q t ≡ true → ⊥
  Has (First t) j = (t < j) × (q t ≡ true) × ((u : ℕ) → u < j → q u ≡ true → u ≡ t)
  Has (More p t) j = (t < j) × (q t ≡ true) × (p < t) × (q p ≡ true)
      × ((u : ℕ) → u < j → q u ≡ true → (u < p) ⊎ ((u ≡ p) ⊎ (u ≡ t)))

  -- where it stands
  pub has : (j : ℕ) → Has (stand q j) j
  has zero = λ t lt y. omega arith
  has (suc j) = go (q j) refl (stand q j) (has j)
    where
      same : (d : Stand) → Has d j → q j ≡ false → Has d (suc j)
      same NoneYet h y = λ t lt z. ⊎_elim (λ e. let w : q j ≡ true = subst (λ x. q x ≡ true) e z in cc) (λ l. h t l z)
          (end_or_below t j lt)
      same (First t) h y = (
        omega (arith, h.0),
        h.1,
        λ u lt z. ⊎_elim
            (λ e. absurd (let w : q j ≡ true = subst (λ x. q x ≡ true) e z in cc)) (λ l. h.2 u l z) (end_or_below u j lt),
      )
      same (More p t) h y = (
        omega (arith, h.0),
        h.1,
        h.2,
        h.3,
        λ u lt z. ⊎_elim
            (λ e. absurd (let w : q j ≡ true = subst (λ x. q x ≡ true) e z in cc)) (λ l. h.4 u l z) (end_or_below u j lt),
      )

      next : (d : Stand) → Has d j → q j ≡ true → Has (next_stand d j) (suc j)
      next NoneYet h y = (omega arith, y, λ u lt z. ⊎_elim (λ e. e) (λ l. absurd (h u l z)) (end_or_below u j lt))
      next (First t) h y = (
        omega arith,
        y,
        h.0,
        h.1,
        λ u lt z. ⊎_elim (λ e. inr (inr e)) (λ l. inr (inl (h.2 u l z)))
            (end_or_below u j lt),
      )
      next (More p t) h y = (
        omega arith,
        y,
        h.0,
        h.1,
        λ u lt z. ⊎_elim (λ e. inr (inr e))
            (λ l. ⊎_elim (λ a. inl (omega (arith, a, h.2)))
            (λ a. ⊎_elim (λ b. inl (omega (arith, b, h.2))) (λ b. inr (inl b)) a) (h.4 u l z)) (end_or_below u j lt),
      )

      go : (b : Bool) → q j ≡ b → (d : Stand) → Has d j → Has (cond (q j) (next_stand d j) d) (suc j)
      go true y d h = subst (λ b. Has (cond b (next_stand d j) d) (suc j)) (sym y) (next d h y)
      go false y d h = subst (λ b. Has (cond b (next_stand d j) d) (suc j)) (sym y) (same d h y)

  -- who follows whom
  pub first_next : (t j : ℕ) → Has (First t) j → q j ≡ true → Comes q t j
  first_next t j h y = (h.0, h.1, y, λ u tu uj z. apart u tu (h.2 u uj z))
    where
      apart : (u : ℕ) → t < u → u ≡ t → ⊥
      apart u l e = omega arith

  pub last_two : (p t j : ℕ) → Has (More p t) j → Comes q p t
  last_two p t j h = (
    h.2,
    h.3,
    h.1,
    λ u pu ut z. ⊎_elim (λ a. less u pu a)
        (λ a. ⊎_elim (λ c. equal u pu c) (λ c. last u ut c) a) (h.4 u (omega (arith, h.0)) z),
  )
    where
      less : (u : ℕ) → p < u → u < p → ⊥
      less u l a = omega arith

      equal : (u : ℕ) → p < u → u ≡ p → ⊥
      equal u l a = omega arith

      last : (u : ℕ) → u < t → u ≡ t → ⊥
      last u l a = omega arith

  pub last_next : (p t j : ℕ) → Has (More p t) j → q j ≡ true → Comes q t j
  last_next p t j h y = (
    h.0,
    h.1,
    y,
    λ u tu uj z. ⊎_elim (λ a. less u tu a)
        (λ a. ⊎_elim (λ c. equal u tu c) (λ c. last u tu c) a) (h.4 u uj z),
  )
    where
      less : (u : ℕ) → t < u → u < p → ⊥
      less u l a = let lp = h.2 in omega arith

      equal : (u : ℕ) → t < u → u ≡ p → ⊥
      equal u l a = let lp = h.2 in omega arith

      last : (u : ℕ) → t < u → u ≡ t → ⊥
      last u l a = omega arith

  -- so the sets of two that follow one another differ
  none_between : (p j : ℕ) → p < j → ((u : ℕ) → p < u → u < j → q u ≡ true → ⊥) → q p ≡ true → how_many q j
      ≡ suc (how_many q p)
  none_between p zero lt none y = absurd (omega arith)
  none_between p (suc j) lt none y
      = ⊎_elim last (λ l. before l (none_between p j l (λ u pu uj. none u pu (omega arith)) y) (q j) refl)
      (end_or_below p j lt)
    where
      last : p ≡ j → cond (q j) (suc (how_many q j)) (how_many q j) ≡ suc (how_many q p)
      last e = subst (λ x. cond (q x) (suc (how_many q x)) (how_many q x) ≡ suc (how_many q p)) e (rw y refl)

      before : p < j → how_many q j ≡ suc (how_many q p) → (b : Bool) → q j ≡ b
          → cond (q j) (suc (how_many q j)) (how_many q j) ≡ suc (how_many q p)
      before l e true b = absurd (none j l (omega arith) b)
      before l e false b = rw b e

  pub next_turn : (p t : ℕ) → Comes q p t → how_many q t ≡ suc (how_many q p)
  next_turn p t c = none_between p t c.0 c.3 c.1

  -- the same parts make the same tree
  module _ (come work back come' work' back' : ℕ → Tree)
      (same : (t : ℕ) → q t ≡ true → (come t ≡ come' t) × (work t ≡ work' t) × (back t ≡ back' t)) where
    stage_same : (d : Stand) (j : ℕ) → Has d j → q j ≡ true → stage_of come work back d j
        ≡ stage_of come' work' back' d j
    stage_same NoneYet j h y = (same j y).0
    stage_same (First t) j h y = ap₂ Par (same t h.1).1 (ap (Seq Empty) (same j y).0)
    stage_same (More p t) j h y = ap₂ Par (same t h.1).1 (ap₂ Seq (same p h.3).2 (same j y).0)

    staged_same : (n : ℕ) → staged come work back q n ≡ staged come' work' back' q n
    staged_same zero = refl
    staged_same (suc n) = ap₂ Seq (staged_same n) (go (q n) refl)
      where
        go : (b : Bool) → q n ≡ b → pick b (stage_of come work back (stand q n) n) Empty
            ≡ pick b (stage_of come' work' back' (stand q n) n) Empty
        go true y = stage_same (stand q n) n (has n) y
        go false y = refl

    last_same : (d : Stand) (n : ℕ) → Has d n → last_of work back d ≡ last_of work' back' d
    last_same NoneYet n h = refl
    last_same (First t) n h = ap₂ Seq (ap (λ x. Par x Empty) (same t h.1).1) (same t h.1).2
    last_same (More p t) n h = ap₂ Seq (ap₂ Par (same t h.1).1 (same p h.3).2) (same t h.1).2

    pub piped_same : (n : ℕ) → piped come work back q n ≡ piped come' work' back' q n
    piped_same n = ap₂ Seq (staged_same n) (last_same (stand q n) n (has n))

-- a way to look at a tree, by its parts
module _ (Of : Tree → Spot → Type 0) (empty : (p : Spot) → Of Empty p → ⊥)
    (seq : (a b : Tree) (p : Spot) → Of (Seq a b) p → Of a p ⊎ Of b p)
    (par : (a b : Tree) (p : Spot) → Of (Par a b) p → Of a p ⊎ Of b p) where
  pub of_beside : (n : ℕ) (f : ℕ → Tree) (p : Spot) → Of (beside n f) p → (i : ℕ) × (i < n) × Of (f i) p
  of_beside zero f p h = absurd (empty p h)
  of_beside (suc n) f p h = ⊎_elim (λ a. let g = of_beside n f p a in (g.0, omega (arith, g.1), g.2))
      (λ b. (n, omega arith, b)) (par (beside n f) (f n) p h)

  pub of_pick : (b : Bool) (t : Tree) (p : Spot) → Of (pick b t Empty) p → (b ≡ true) × Of t p
  of_pick true t p h = (refl, h)
  of_pick false t p h = absurd (empty p h)

  pub of_other : (b : Bool) (t : Tree) (p : Spot) → Of (pick b Empty t) p → (b ≡ false) × Of t p
  of_other true t p h = absurd (empty p h)
  of_other false t p h = (refl, h)

  pub of_turns : (q : ℕ → Bool) (n : ℕ) (f : ℕ → Tree) (p : Spot) → Of (turns q n f) p → (t : ℕ) × (t < n)
      × (q t ≡ true) × Of (f t) p
  of_turns q zero f p h = absurd (empty p h)
  of_turns q (suc n) f p h = ⊎_elim (λ a. let g = of_turns q n f p a in (g.0, omega (arith, g.1), g.2, g.3))
      (λ b. let g = of_pick (q n) (f n) p b in (n, omega arith, g.0, g.1))
      (seq (turns q n f) (pick (q n) (f n) Empty) p h)

  module _ (come work back : ℕ → Tree) (q : ℕ → Bool) where
    abbrev pub OfOne : ℕ → Spot → Type 0
    OfOne n p = (t : ℕ) × (t < n) × (q t ≡ true) × (Of (come t) p ⊎ (Of (work t) p ⊎ Of (back t) p))

    of_stage : (d : Stand) (n : ℕ) (p : Spot) → Has q d n → q n ≡ true → Of (stage_of come work back d n) p
        → OfOne (suc n) p
    of_stage NoneYet n p h y x = (n, omega arith, y, inl x)
    of_stage (First t) n p h y x = ⊎_elim (λ a. (t, omega (arith, h.0), h.1, inr (inl a)))
        (λ a. ⊎_elim (λ b. absurd (empty p b)) (λ b. (n, omega arith, y, inl b)) (seq Empty (come n) p a))
        (par (work t) (Seq Empty (come n)) p x)
    of_stage (More s t) n p h y x = ⊎_elim (λ a. (t, omega (arith, h.0), h.1, inr (inl a)))
        (λ a. ⊎_elim (λ b. (s, omega (arith, h.0, h.2), h.3, inr (inr b))) (λ b. (n, omega arith, y, inl b))
        (seq (back s) (come n) p a)) (par (work t) (Seq (back s) (come n)) p x)

    of_staged : (n : ℕ) (p : Spot) → Of (staged come work back q n) p → OfOne n p
    of_staged zero p h = absurd (empty p h)
    of_staged (suc n) p h = ⊎_elim (λ a. let g = of_staged n p a in (g.0, omega (arith, g.1), g.2, g.3))
        (λ b. let g = of_pick (q n) (stage_of come work back (stand q n) n) p b in of_stage (stand q n) n p (has q n)
        g.0 g.1) (seq (staged come work back q n) (pick (q n) (stage_of come work back (stand q n) n) Empty) p h)

    of_last : (d : Stand) (n : ℕ) (p : Spot) → Has q d n → Of (last_of work back d) p → OfOne n p
    of_last NoneYet n p h x = absurd (empty p x)
    of_last (First t) n p h x = ⊎_elim
        (λ a. ⊎_elim (λ b. (t, h.0, h.1, inr (inl b))) (λ b. absurd (empty p b)) (par (work t) Empty p a))
        (λ a. (t, h.0, h.1, inr (inr a))) (seq (Par (work t) Empty) (back t) p x)
    of_last (More s t) n p h x = ⊎_elim
        (λ a. ⊎_elim (λ b. (t, h.0, h.1, inr (inl b))) (λ b. (s, omega (arith, h.0, h.2), h.3, inr (inr b)))
        (par (work t) (back s) p a)) (λ a. (t, h.0, h.1, inr (inr a))) (seq (Par (work t) (back s)) (back t) p x)

    pub of_piped : (n : ℕ) (p : Spot) → Of (piped come work back q n) p → OfOne n p
    of_piped n p h = ⊎_elim (λ a. of_staged n p a) (λ a. of_last (stand q n) n p (has q n) a)
        (seq (staged come work back q n) (last_of work back (stand q n)) p h)
