-- The iterations of a map: one after another, or at once.
use Rattle.std.proofs.Common.{◌≡◌, ◌≢◌, ℕ, zero, suc, ◌<◌, Bool, true, false, cond, ◌||◌, eqb, Option, Some, None, refl}
use Rattle.std.proofs.Common.{sym, ap, ◌∙◌, subst, arith, List, [], ◌∷◌, ◌++◌, append_assoc, ◌⊎◌, inl, inr, ⊎_elim}
use Rattle.sq_cells.specs.Cells.{Spot, State}
use Rattle.sq_cells.specs.Tree.{Trap, Tree, After, go_on, run, Writes}
use Rattle.sq_cells.specs.Work.{Work, AtOnce, Outcome, Ends, Traps, and_then, front, numbered, trap_of, state_or}
use Rattle.sq_cells.specs.Work.{in_turn, first_of, first_trap, merged, ends_unless, at_once, any_below, written}
use Rattle.sq_cells.specs.Work.{meaning}
use Rattle.sq_cells.specs.Machine.{Node, fan_of, lane_of, Rule}
use Rattle.sq_cells.specs.Lowered.{Layout, beside, turns, every, tree, lane_kid, Needs, Sets, Sound}
use Rattle.sq_cells.specs.Correct.{under, Follows, Meets}
use Rattle.sq_cells.proofs.Trees.{run_frame}
use Rattle.sq_cells.proofs.Access.{end_or_below, written_sets, sets_written}
use Rattle.sq_cells.proofs.Footprint.{Changes}
use Rattle.sq_cells.proofs.Parts.{tree_writes}
use Rattle.sq_cells.proofs.Lanes.{IsOf, all_lanes, lane_goes, lanes_go}

abbrev pub Agrees : (Spot → Spot → Type 0) → State → State → Type 0
Agrees R s m = (l p : Spot) → R l p → m p ≡ s l

-- what a work holds afterwards
abbrev pub After' : (Spot → Spot → Type 0) → Work → (node : Node) (kid : ℕ) → Layout → Spot → Spot → Type 0
After' R w node kid at l p = R l p ⊎ Sets w node kid at l p

pub fewer : (R Q : Spot → Spot → Type 0) (path : List ℕ) (o : Outcome) (r : After) → ((l p : Spot) → Q l p → R l p)
    → Follows R path o r → Follows Q path o r
fewer R Q path (Ends s) r h f = (f.0, λ l p q. f.1 l p (h l p q))
fewer R Q path (Traps x) r h f = f

pub seq_follows : (R Q : Spot → Spot → Type 0) (path : List ℕ) (o : Outcome) (r : After) (next : State → Outcome)
    (go : State → After) → Follows R path o r → ((s m : State) → Agrees R s m → Follows Q path (next s) (go m))
    → Follows Q path (and_then o next) (go_on r.trap r.mem go)
seq_follows R Q path (Ends s) r next go f k
    = subst (λ o. Follows Q path (next s) (go_on o r.mem go)) (sym f.0) (k s r.mem f.1)
seq_follows R Q path (Traps x) r next go f k = ap (λ o. (go_on o r.mem go).trap) f

pub turn_follows : (R : Spot → Spot → Type 0) (path : List ℕ) (t : ℕ) (o : Outcome) (r : After)
    → Follows R (path ++ t ∷ []) o r → Follows R path (numbered t o) r
turn_follows R path t (Ends s) r f = f
turn_follows R path t (Traps x) r f = f
    ∙ ap (λ p. Some (record { path = p; cause = x.cause })) (append_assoc path (t ∷ []) x.path)

-- one after another: what is held grows by what each sets
pub each_follows : (Rs : ℕ → Spot → Spot → Type 0) (path : List ℕ) (n : ℕ) (f : ℕ → State → Outcome) (g : ℕ → Tree)
    → ((t : ℕ) → t < n → (s m : State) → Agrees (Rs t) s m
    → Follows (Rs (suc t)) (path ++ t ∷ []) (f t s) (run (g t) m)) → (s m : State) → Agrees (Rs 0) s m
    → Follows (Rs n) path (in_turn n f s) (run (turns every n g) m)
each_follows Rs path zero f g h s m a = (refl, a)
each_follows Rs path (suc n) f g h s m a =
    seq_follows (Rs n) (Rs (suc n)) path (in_turn n f s) (run (turns every n g) m) _ _
    (each_follows Rs path n f g (λ t lt. h t (omega arith)) s m a)
    (λ s' m' a'. turn_follows (Rs (suc n)) path n (f n s') _ (h n (omega arith) s' m' a'))

pub merged_one : (n : ℕ) (writes : ℕ → Spot → Bool) (f : ℕ → State) (s : State) (l : Spot)
    → any_below n (λ t. writes t l) ≡ true → (t : ℕ) × (t < n) × (writes t l ≡ true) × (merged n writes f s l ≡ f t l)
merged_one zero writes f s l e = cc
merged_one (suc n) writes f s l e = go (writes n l) refl (λ e'. merged_one n writes f s l e') e
  where
    go : (b : Bool) → writes n l ≡ b
        → (any_below n (λ t. writes t l) ≡ true → (t : ℕ) × (t < n) × (writes t l ≡ true)
        × (merged n writes f s l ≡ f t l)) → (b || any_below n (λ t. writes t l)) ≡ true → (t : ℕ) × (t < suc n)
        × (writes t l ≡ true) × (cond (writes n l) (f n l) (merged n writes f s l) ≡ f t l)
    go true b rec e = (n, omega arith, b, ap (λ x. cond x (f n l) (merged n writes f s l)) b)
    go false b rec e = let h = rec e in
        (h.0, omega (arith, h.1), h.2, ap (λ x. cond x (f n l) (merged n writes f s l)) b ∙ h.3)

pub merged_none : (n : ℕ) (writes : ℕ → Spot → Bool) (f : ℕ → State) (s : State) (l : Spot)
    → any_below n (λ t. writes t l) ≡ false → merged n writes f s l ≡ s l
merged_none zero writes f s l e = refl
merged_none (suc n) writes f s l e = go (writes n l) refl (merged_none n writes f s l) e
  where
    go : (b : Bool) → writes n l ≡ b → (any_below n (λ t. writes t l) ≡ false → merged n writes f s l ≡ s l)
        → (b || any_below n (λ t. writes t l)) ≡ false → cond (writes n l) (f n l) (merged n writes f s l) ≡ s l
    go true b rec e = cc
    go false b rec e = ap (λ x. cond x (f n l) (merged n writes f s l)) b ∙ rec e

abbrev pub below : List ℕ → Option Trap → Option Trap
below path None = None
below path (Some x) = Some (under path x)

pub first_below : (path : List ℕ) (n : ℕ) (f : ℕ → Option Trap) → first_trap n (λ t. below path (f t))
    ≡ below path (first_trap n f)
first_below path zero f = refl
first_below path (suc n) f = ap (λ o. first_of o (below path (f n))) (first_below path n f) ∙ go (first_trap n f) (f n)
  where
    go : (a b : Option Trap) → first_of (below path a) (below path b) ≡ below path (first_of a b)
    go None b = refl
    go (Some x) b = refl

pub first_each : (n : ℕ) (f : ℕ → Option Trap) → first_trap n f ≡ None → (t : ℕ) → t < n → f t ≡ None
first_each zero f e t lt = absurd (omega arith)
first_each (suc n) f e t lt = go (first_trap n f) refl (f n) refl e (λ e' lt'. first_each n f e' t lt')
  where
    go : (a : Option Trap) → first_trap n f ≡ a → (b : Option Trap) → f n ≡ b → first_of a b ≡ None
        → (first_trap n f ≡ None → t < n → f t ≡ None) → f t ≡ None
    go (Some x) e b e' z rec = cc
    go None e (Some y) e' z rec = cc
    go None e None e' z rec = ⊎_elim (λ i. ap f i ∙ e') (λ i. rec e i) (end_or_below t n lt)

-- iterations at once
module _ (R : Spot → Spot → Type 0) (spread : Option Rule) (n : ℕ) (w : ℕ → Work) (node : Node) (kid : ℕ) (at : Layout)
    (path : List ℕ) (sound : Sound (AtOnce spread n w) node kid) (meets : Meets R (AtOnce spread n w) node kid at)
    (s : State) where
  abbrev pub ends : ℕ → Outcome
  ends t = meaning (w t) s

  abbrev pub trap : ℕ → Option Trap
  trap t = below path (trap_of (numbered t (ends t)))

  abbrev pub its : ℕ → ℕ
  its t = lane_kid spread node kid n t

  abbrev pub Before : ℕ → State → Type 0
  Before t m = (l p : Spot) → Needs (w t) node (its t) at l p → m p ≡ s l

  abbrev pub Touched : ℕ → Spot → Spot → Type 0
  Touched t l p = Needs (w t) node (its t) at l p ⊎ Sets (w t) node (its t) at l p

  abbrev pub Done : ℕ → State → Type 0
  Done t m = (l p : Spot) → Touched t l p → m p ≡ state_or s (ends t) l

  abbrev pub All : Spot → Spot → Type 0
  All l p = R l p ⊎ Sets (AtOnce spread n w) node kid at l p

  pub trap_is : (t : ℕ) (x : Trap) → trap t ≡ Some x → IsOf path t x
  trap_is t x e = go (ends t) e
    where
      go : (o : Outcome) → below path (trap_of (numbered t o)) ≡ Some x → IsOf path t x
      go (Ends s') e = cc
      go (Traps y) e = record { rest = y.path; is = some_path (sym e) }
        where
          some_path : Some x ≡ Some (under path (front t y)) → x.path ≡ path ++ t ∷ y.path
          some_path q = let z : x ≡ under path (front t y) = cc in ap (λ r. r.path) z

  pub step_from : (t : ℕ) (r : After) → Follows (Touched t) (path ++ t ∷ []) (ends t) r → (r.trap ≡ trap t)
      × (trap t ≡ None → Done t r.mem)
  step_from t r f = go (ends t) f
    where
      go : (o : Outcome) → Follows (Touched t) (path ++ t ∷ []) o r → (r.trap ≡ below path (trap_of (numbered t o)))
          × (below path (trap_of (numbered t o)) ≡ None → (l p : Spot) → Touched t l p → r.mem p ≡ state_or s o l)
      go (Ends s') f = (f.0, λ e. f.1)
      go (Traps x) f = (turn_follows (Touched t) path t (Traps x) r f, λ e. cc)

  pub at_once_follows : (r : After) → r.trap ≡ first_trap n trap
      → (((t : ℕ) → t < n → trap t ≡ None) → (t : ℕ) → t < n → Done t r.mem)
      → ((l p : Spot) → R l p → any_below n (λ t. written (w t) l) ≡ false → r.mem p ≡ s l)
      → Follows All path (at_once n (λ t. written (w t)) ends s) r
  at_once_follows r e all still = go (first_trap n (λ t. trap_of (numbered t (ends t)))) refl
    where
      go : (o : Option Trap) → first_trap n (λ t. trap_of (numbered t (ends t))) ≡ o
          → Follows All path (ends_unless (first_trap n (λ t. trap_of (numbered t (ends t))))
          (merged n (λ t. written (w t)) (λ t. state_or s (ends t)) s)) r
      go (Some x) f = subst (λ o. Follows All path
          (ends_unless o (merged n (λ t. written (w t)) (λ t. state_or s (ends t)) s)) r) (sym f)
          (e ∙ first_below path n (λ t. trap_of (numbered t (ends t))) ∙ ap (below path) f)
      go None f =
          subst (λ o. Follows All path (ends_unless o (merged n (λ t. written (w t)) (λ t. state_or s (ends t)) s)) r)
          (sym f) (
            e ∙ first_below path n (λ t. trap_of (numbered t (ends t))) ∙ ap (below path) f,
            λ l p h. value l p h (any_below n (λ t. written (w t) l)) refl,
          )
        where
          each : (t : ℕ) → t < n → trap t ≡ None
          each t lt = ap (below path) (first_each n (λ t. trap_of (numbered t (ends t))) f t lt)

          value : (l p : Spot) → All l p → (b : Bool) → any_below n (λ t. written (w t) l) ≡ b → r.mem p
              ≡ merged n (λ t. written (w t)) (λ t. state_or s (ends t)) s l
          value l p h false b = ⊎_elim (λ d. still l p d b ∙ sym
              (merged_none n (λ t. written (w t)) (λ t. state_or s (ends t)) s l b))
              (λ d. absurd (let z = sets_written (AtOnce spread n w) node kid at l p sound d in cc)) h
          value l p h true b =
              let g = merged_one n (λ t. written (w t)) (λ t. state_or s (ends t)) s l b in
              let x = written_sets (w g.0) node (its g.0) at l (sound.1 g.0 g.1).1 g.2 in
              ap r.mem (sym (meets.one l x.0 p (g.0, g.1, x.1) h)) ∙ all each g.0 g.1 l x.0 (inr x.1) ∙ sym g.3

  abbrev pub turn : ℕ → Tree
  turn t = tree (w t) node (its t) at (path ++ t ∷ [])

  pub touched_all : (t : ℕ) → t < n → (l p : Spot) → Touched t l p → All l p
  touched_all t lt l p h = ⊎_elim (λ g. inl (meets.cover l p (t, lt, g))) (λ g. inr (t, lt, g)) h

  pub turn_meets : (t : ℕ) → t < n → Meets (λ l p. Needs (w t) node (its t) at l p) (w t) node (its t) at
  turn_meets t lt = record {
    cover = λ l p h. h;
    one = λ l p p' h h'. meets.one l p p' (t, lt, h) (touched_all t lt l p' h');
    clear = λ l l' p h h'. meets.clear l l' p (t, lt, h) (touched_all t lt l' p h');
    apart = λ l p h x. meets.apart l p (touched_all t lt l p h) (t, lt, x);
    aside = λ l l' p h x. meets.aside l l' p (touched_all t lt l p h) (t, lt, x);
    sums = λ l l' p h h'. meets.sums l l' p (t, lt, h) (t, lt, h');
    sum_apart = λ l p h x. meets.sum_apart l p (t, lt, h) (t, lt, x);
  }

  pub turn_frame : (a t : ℕ) → a < n → t < n → a ≢ t → (m : State) (l p : Spot) → Touched t l p → (run (turn a) m).mem p
      ≡ m p
  turn_frame a t la lt ne m l p h =
      run_frame (turn a) m p (λ c. ⊎_elim
      (λ g. let z = meets.clear g.0 l p (a, la, g.1) (touched_all t lt l p h) in sound.0.apart a t la lt ne at g.0 p
      p g.1 (subst (λ x. Touched t x p) (sym z) h))
      (λ g. ⊎_elim (λ x. meets.aside l x.0 p (touched_all t lt l p h) (a, la, x.1))
      (λ x. meets.apart l p (touched_all t lt l p h) (a, la, x)) g)
      (tree_writes (w a) node (its a) at (path ++ a ∷ []) p (sound.1 a la).1 c))

  module _ (m : State) (agree : Agrees R s m) where
    pub still : (t : Tree) → ((p : Spot) → Writes t p → Changes (AtOnce spread n w) node kid at p) → (l p : Spot)
        → R l p → any_below n (λ t. written (w t) l) ≡ false → (run t m).mem p ≡ s l
    still t foot l p d e =
        run_frame t m p (λ c. ⊎_elim (λ g. let z : any_below n (λ t. written (w t) l) ≡ true = subst
        (λ q. any_below n (λ t. written (w t) q) ≡ true) (meets.clear g.0 l p g.1 (inl d))
        (sets_written (AtOnce spread n w) node kid at g.0 p sound g.1) in cc)
        (λ g. ⊎_elim (λ x. meets.aside l x.0 p (inl d) x.1) (λ x. meets.apart l p (inl d) x) g) (foot p c))
        ∙ agree l p d

  module _ (ih : (t : ℕ) → t < n → (m : State) → Agrees (λ l p. Needs (w t) node (its t) at l p) s m
      → Follows (Touched t) (path ++ t ∷ []) (meaning (w t) s) (run (turn t) m)) (m : State) (agree : Agrees R s m)
    where
      pub keep_before : (a b : ℕ) → a < n → b < n → a ≢ b → (m' : State) → Before b m' → Before b (run (turn a) m').mem
      keep_before a b la lb ne m' f l p h = turn_frame a b la lb ne m' l p (inl h) ∙ f l p h

      pub keep_done : (a b : ℕ) → a < n → b < n → a ≢ b → (m' : State) → Done b m' → Done b (run (turn a) m').mem
      keep_done a b la lb ne m' f l p h = turn_frame a b la lb ne m' l p h ∙ f l p h

      pub one_lane : ((p : Spot) → Writes (turns every n turn) p → Changes (AtOnce spread n w) node kid at p)
          → Follows All path (at_once n (λ t. written (w t)) (λ t. meaning (w t) s) s) (run (turns every n turn) m)
      one_lane foot =
          let h = lane_goes path n turn trap Before Done (λ t lt m' b. step_from t (run (turn t) m') (ih t lt m' b))
          keep_before keep_done every n (omega arith) m (λ t lt y l p h. agree l p (meets.cover l p (t, lt, h))) in
          at_once_follows (run (turns every n turn) m) h.0 (λ all t lt. h.1 all t lt refl)
          (still m agree (turns every n turn) foot)

      pub many_lanes : (rule : Rule) → ((t : ℕ) → t < n → lane_of rule node n t < fan_of node)
          → ((p : Spot) → Writes (beside (fan_of node) (λ c. turns (λ t. eqb (lane_of rule node n t) c) n turn)) p
          → Changes (AtOnce spread n w) node kid at p)
          → Follows All path (at_once n (λ t. written (w t)) (λ t. meaning (w t) s) s)
          (run (beside (fan_of node) (λ c. turns (λ t. eqb (lane_of rule node n t) c) n turn)) m)
      many_lanes rule there foot =
          let h = lanes_go path n turn trap Before Done (λ t lt m' b. step_from t (run (turn t) m') (ih t lt m' b))
          keep_before keep_done (lane_of rule node n) (fan_of node) m
          (λ t lt l p h. agree l p (meets.cover l p (t, lt, h))) in
          at_once_follows (run (beside (fan_of node) (λ c. turns (λ t. eqb (lane_of rule node n t) c) n turn)) m)
          (h.0 ∙ all_lanes path n (fan_of node) (lane_of rule node n) trap trap_is there)
          (λ all t lt. h.1 all t lt (there t lt))
          (still m agree (beside (fan_of node) (λ c. turns (λ t. eqb (lane_of rule node n t) c) n turn)) foot)
