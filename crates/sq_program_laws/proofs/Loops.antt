-- The loops round a call, and what they begin.
use Rattle.std.proofs.Common.{◌≡◌, ℕ, zero, suc, ◌+◌, ◌<◌, ◌≤◌, Bool, true, false, ◌&&◌, is_some, List, [], ◌∷◌, ◌++◌}
use Rattle.std.proofs.Common.{map, get_or, refl, sym, ap, ◌∙◌, subst, arith, ⊎_elim}
use Rattle.std.specs.Prelude.{Option, Some, None, slice_get}
use Rattle.sq_text.specs.declared.place.Place.{Place}
use Rattle.sq_spec.specs.declared.statement.LoopKind.{LoopKind}
use Rattle.sq_spec.specs.declared.statement.LoopKind.TheVariants as loop_kind
use Rattle.sq_spec.specs.declared.statement.CallInstance.{CallInstance}
use Rattle.sq_spec.specs.declared.statement.Statement.{Statement, roll-Statement}
use Rattle.sq_spec.specs.declared.statement.Statement.TheVariants as b
use Rattle.sq_spec.specs.declared.statement.Statement.TheOpen.{Statement-F}
use Rattle.sq_spec.specs.declared.statement.Statement.TheFolds.{fold-Statement, ind-Statement, map-Statement}
use Rattle.sq_spec.specs.declared.statement.Statement.TheFolds.{fold-roll-Statement}
use Rattle.sq_spec.specs.Statements.{over}
use Rattle.sq_spec_laws.specs.Filled.{all_below, all_filled, filled_step}
use Rattle.sq_placed.specs.declared.home.Home.TheVariants.{InPlace, Held}
use Rattle.sq_placed.specs.declared.home.Homes.{Homes}
use Rattle.sq_placed.specs.Tables.{Chain, one_more, chain_of, call_chain, first_of}
use Rattle.sq_cells.proofs.Access.{end_or_below}
use Rattle.sq_plan_laws.proofs.PlacedLists.{same_some}
use Rattle.sq_term_laws.specs.Orders.{EachOf, params_of}
use Rattle.sq_program_laws.specs.Held as held
use Rattle.sq_program_laws.specs.Held.{BegunLoop, Begun, row_list, loop_list, begun_step, begun, LoopHolds}

-- ---- tests

pub left_true : (x y : Bool) → (x && y) ≡ true → x ≡ true
left_true true y e = refl
left_true false y e = cc

pub right_true : (x y : Bool) → (x && y) ≡ true → y ≡ true
right_true true y e = e
right_true false y e = cc

pub below_true : (n : ℕ) (f : ℕ → Bool) (t : ℕ) → all_below n f ≡ true → t < n → f t ≡ true
below_true zero f t e lt = absurd (omega (arith, lt))
below_true (suc n) f t e lt = ⊎_elim (λ s. subst (λ i. f i ≡ true) (sym s) (left_true (f n) (all_below n f) e))
    (λ l. below_true n f t (right_true (f n) (all_below n f) e) l) (end_or_below t n lt)

pub some_of : {A : Type 0} (o : Option A) → is_some o ≡ true → (x : A) × (o ≡ Some x)
some_of None e = cc
some_of (Some x) e = (x, refl)

-- ---- lists

pub front_at : {A : Type 0} (xs ys : List A) (i : ℕ) (x : A) → slice_get xs i ≡ Some x → slice_get (xs ++ ys) i ≡ Some x
front_at [] ys i x e = cc
front_at (y ∷ xs) ys zero x e = e
front_at (y ∷ xs) ys (suc i) x e = front_at xs ys i x e

pub nothing_more : {A : Type 0} (xs : List A) → xs ++ [] ≡ xs
nothing_more [] = refl
nothing_more (x ∷ xs) = ap (λ l. x ∷ l) (nothing_more xs)

pub each_left : {A : Type 0} (P : A → Type 0) (xs ys : List A) → EachOf P (xs ++ ys) → EachOf P xs
each_left P [] ys h = tt
each_left P (x ∷ xs) ys h = (h.0, each_left P xs ys h.1)

pub each_right : {A : Type 0} (P : A → Type 0) (xs ys : List A) → EachOf P (xs ++ ys) → EachOf P ys
each_right P [] ys h = h
each_right P (x ∷ xs) ys h = each_right P xs ys h.1

pub each_both : {A : Type 0} (P : A → Type 0) (xs ys : List A) → EachOf P xs → EachOf P ys → EachOf P (xs ++ ys)
each_both P [] ys h k = k
each_both P (x ∷ xs) ys h k = (h.0, each_both P xs ys h.1 k)

pub each_at : {A : Type 0} (P : A → Type 0) (xs : List A) (i : ℕ) (x : A) → EachOf P xs → slice_get xs i ≡ Some x → P x
each_at P [] i x h e = cc
each_at P (y ∷ xs) zero x h e = subst P (same_some e) h.0
each_at P (y ∷ xs) (suc i) x h e = each_at P xs i x h.1 e

pub each_from : {A : Type 0} (P : A → Type 0) (xs : List A) → ((i : ℕ) (x : A) → slice_get xs i ≡ Some x → P x)
    → EachOf P xs
each_from P [] h = tt
each_from P (x ∷ xs) h = (h 0 x refl, each_from P xs (λ i y e. h (suc i) y e))

pub each_map : {A : Type 0} (P Q : A → Type 0) (xs : List A) → ((x : A) → P x → Q x) → EachOf P xs → EachOf Q xs
each_map P Q [] f h = tt
each_map P Q (x ∷ xs) f h = (f x h.0, each_map P Q xs f h.1)

-- of all turns from the a-th on
turn_from : {A : Type 0} (P : A → Type 0) (a n : ℕ) (f : ℕ → List A) → EachOf P (over a n f) → (t : ℕ) → t < n
    → EachOf P (f (a + t))
turn_from P a zero f h t lt = absurd (omega (arith, lt))
turn_from P a (suc n) f h zero lt =
    let z : a ≡ a + 0 = omega arith in
    subst (λ i. EachOf P (f i)) z (each_left P (f a) (over (a + 1) n f) h)
turn_from P a (suc n) f h (suc t) lt =
    let z : a + 1 + t ≡ a + suc t = omega arith in
    subst (λ i. EachOf P (f i)) z
    (turn_from P (a + 1) n f (each_right P (f a) (over (a + 1) n f) h) t (omega (arith, lt)))

pub each_turn : {A : Type 0} (P : A → Type 0) (n : ℕ) (f : ℕ → List A) → EachOf P (over 0 n f) → (t : ℕ) → t < n
    → EachOf P (f t)
each_turn P n f h t lt = let z : 0 + t ≡ t = omega arith in subst (λ i. EachOf P (f i)) z (turn_from P 0 n f h t lt)

turns_from : {A : Type 0} (P : A → Type 0) (a n : ℕ) (f : ℕ → List A) → ((t : ℕ) → t < n → EachOf P (f (a + t)))
    → EachOf P (over a n f)
turns_from P a zero f h = tt
turns_from P a (suc n) f h =
    let z : a + 0 ≡ a = omega arith in
    each_both P (f a) (over (a + 1) n f) (subst (λ i. EachOf P (f i)) z (h 0 (omega arith)))
    (turns_from P (a + 1) n f (λ t lt.
    let y : a + suc t ≡ a + 1 + t = omega arith in
    subst (λ i. EachOf P (f i)) y (h (suc t) (omega (arith, lt)))))

pub all_turns : {A : Type 0} (P : A → Type 0) (n : ℕ) (f : ℕ → List A) → ((t : ℕ) → t < n → EachOf P (f t))
    → EachOf P (over 0 n f)
all_turns P n f h = turns_from P 0 n f (λ t lt. let z : t ≡ 0 + t = omega arith in subst (λ i. EachOf P (f i)) z (h t lt))

first_turn : {A : Type 0} (n : ℕ) (f : ℕ → List A) (x : A) → 0 < n → slice_get (f 0) 0 ≡ Some x
    → slice_get (over 0 n f) 0 ≡ Some x
first_turn zero f x lt e = absurd (omega (arith, lt))
first_turn (suc n) f x lt e = front_at (f 0) (over (0 + 1) n f) 0 x e

-- ---- what a statement begins

pub begun_call : (lower : Bool) (rows : List CallInstance) → begun (b.Call lower rows)
    ≡ begun_step (Statement-F.Call lower rows)
begun_call lower rows = ap begun (sym (b.rolls-Call lower rows))
    ∙ fold-roll-Statement Begun begun_step (Statement-F.Call lower rows)

pub begun_map : (p : Place) (m : LoopKind) (counts starts : List ℕ) (xs : List Statement)
    → begun (b.Map p m counts starts xs) ≡ begun_step (Statement-F.Map p m counts starts (map begun xs))
begun_map p m counts starts xs = ap begun (sym (b.rolls-Map p m counts starts xs))
    ∙ fold-roll-Statement Begun begun_step (Statement-F.Map p m counts starts xs)

-- ---- a lower call that is all that stands in loops

pub data Nest : Type 0 where
  a_call : List CallInstance → Nest
  a_loop : Place → (counts starts : List ℕ) → Nest → Nest

abbrev pub as_statement : Nest → Statement
as_statement (a_call rows) = b.Call true rows
as_statement (a_loop place counts starts c) = b.Map place loop_kind.Sequential counts starts (as_statement c ∷ [])

module _ (A : Type 0) (step : Statement-F A → A) where
  abbrev pub nest_fold : Nest → A
  nest_fold (a_call rows) = step (Statement-F.Call true rows)
  nest_fold (a_loop place counts starts c)
      = step (Statement-F.Map place loop_kind.Sequential counts starts (nest_fold c ∷ []))

  pub nest_is : (c : Nest) → fold-Statement A step (as_statement c) ≡ nest_fold c
  nest_is (a_call rows) = ap (fold-Statement A step) (sym (b.rolls-Call true rows))
      ∙ fold-roll-Statement A step (Statement-F.Call true rows)
  nest_is (a_loop place counts starts c) =
      ap (fold-Statement A step)
      (sym (b.rolls-Map place loop_kind.Sequential counts starts (as_statement c ∷ [])))
      ∙ (fold-roll-Statement A step
      (Statement-F.Map place loop_kind.Sequential counts starts (as_statement c ∷ []))
      ∙ ap (λ (x : A). step (Statement-F.Map place loop_kind.Sequential counts starts (x ∷ []))) (nest_is c))

abbrev pub chain : Nest → Chain ℕ
chain (a_call rows) = record { loops = 0; instances = rows; first = λ x. x }
chain (a_loop place counts starts c) = record {
  loops = suc (chain c).loops;
  instances = (chain c).instances;
  first = λ x. (chain c).first (first_of starts x);
}

abbrev pub nest_begun : Nest → Begun
nest_begun = nest_fold Begun begun_step

pub chain_is : (c : Nest) → (nest_begun c).chain ≡ Some (chain c)
chain_is (a_call rows) = refl
chain_is (a_loop place counts starts c) = ap (one_more first_of starts) (chain_is c)

-- the calls that it begins when it is begun for the k-th time
abbrev pub calls : Nest → ℕ → List CallInstance
calls c k = (nest_begun c).calls k

abbrev IsNest : Statement → Type 0
IsNest x = (h : Chain ℕ) → (begun x).chain ≡ Some h → (c : Nest) × (x ≡ as_statement c)

abbrev Known : Type 0
Known = (x : Statement) × IsNest x

nest_step : (y : Statement-F Known) → IsNest (roll-Statement (map-Statement Known Statement (λ p. p.0) y))
nest_step (Statement-F.Call lower rows) = subst IsNest (sym (b.rolls-Call lower rows))
    (λ h e. by lower h (ap (λ (z : Begun). z.chain) (sym (begun_call lower rows)) ∙ e))
  where
    by : (low : Bool) (h : Chain ℕ) → call_chain low rows ≡ Some h → (c : Nest) × (b.Call low rows ≡ as_statement c)
    by true h e = (a_call rows, refl)
    by false h e = cc
nest_step (Statement-F.Map place m counts starts xs)
    = subst IsNest (sym (b.rolls-Map place m counts starts (map (λ p. p.0) xs))) (λ h e.
    by m xs h (ap (λ (z : Begun). z.chain) (sym (begun_map place m counts starts (map (λ p. p.0) xs))) ∙ e))
  where
    alone : (x : Known) (o : Option (Chain ℕ)) → (begun x.0).chain ≡ o → (h : Chain ℕ)
        → one_more first_of starts o ≡ Some h
        → (c : Nest) × (b.Map place loop_kind.Sequential counts starts (x.0 ∷ []) ≡ as_statement c)
    alone x None f h e = cc
    alone x (Some g) f h e =
        let q = x.1 g f in (
          a_loop place counts starts q.0,
          ap (λ (z : Statement). b.Map place loop_kind.Sequential counts starts (z ∷ [])) q.1,
        )

    by : (k : LoopKind) (ys : List Known) (h : Chain ℕ)
        → chain_of first_of k starts (held.chains (map begun (map (λ p. p.0) ys))) ≡ Some h
        → (c : Nest) × (b.Map place k counts starts (map (λ p. p.0) ys) ≡ as_statement c)
    by loop_kind.Sequential [] h e = cc
    by loop_kind.Sequential (x ∷ []) h e = alone x (begun x.0).chain refl h e
    by loop_kind.Sequential (x ∷ y ∷ ys) h e = cc
    by loop_kind.Parallel ys h e = cc
    by (loop_kind.Reduction r) ys h e = cc

-- a statement in which a lower call is all that stands
pub nest_of : (x : Statement) (h : Chain ℕ) → (begun x).chain ≡ Some h → (c : Nest) × (x ≡ as_statement c)
nest_of = ind-Statement IsNest (λ x y is. subst (λ z. IsNest (roll-Statement z)) is (nest_step y))

-- ---- its calls

abbrev pub InRows : List CallInstance → CallInstance → Type 0
InRows rows r = (i : ℕ) × (slice_get rows i ≡ Some r)

-- each is a row of its table
pub calls_there : (c : Nest) (k : ℕ) → EachOf (InRows (chain c).instances) (calls c k)
calls_there (a_call rows) k = go (slice_get rows k) refl
  where
    go : (o : Option CallInstance) → slice_get rows k ≡ o → EachOf (InRows rows) (row_list o)
    go None e = tt
    go (Some r) e = ((k, e), tt)
calls_there (a_loop place counts starts c) k = all_turns (InRows (chain c).instances) (get_or counts k 0)
    (λ t. held.all_calls (nest_begun c ∷ []) (get_or starts k 0 + t)) (λ t lt.
    each_both (InRows (chain c).instances) (calls c (get_or starts k 0 + t)) []
    (calls_there c (get_or starts k 0 + t)) tt)

-- and those of an iteration are among them
pub in_turn : (P : CallInstance → Type 0) (place : Place) (counts starts : List ℕ) (c : Nest) (k : ℕ)
    → EachOf P (calls (a_loop place counts starts c) k) → (t : ℕ) → t < get_or counts k 0
    → EachOf P (calls c (get_or starts k 0 + t))
in_turn P place counts starts c k h t lt = each_left P (calls c (get_or starts k 0 + t)) []
    (each_turn P (get_or counts k 0) (λ t. held.all_calls (nest_begun c ∷ []) (get_or starts k 0 + t)) h t lt)

-- a call is begun, in the first iteration of each loop
abbrev pub Goes : Nest → ℕ → Type 0
Goes (a_call rows) k = (r : CallInstance) × (slice_get rows k ≡ Some r)
Goes (a_loop place counts starts c) k = (0 < get_or counts k 0) × Goes c (get_or starts k 0 + 0)

pub record FirstCall (c : Nest) (k : ℕ) : Type 0 where
  pub row : CallInstance
  pub begun : slice_get (calls c k) 0 ≡ Some row
  pub there : slice_get (chain c).instances ((chain c).first k) ≡ Some row

pub first_call : (c : Nest) (k : ℕ) → Goes c k → FirstCall c k
first_call (a_call rows) k g = record { row = g.0; begun = ap (λ o. slice_get (row_list o) 0) g.1; there = g.1 }
first_call (a_loop place counts starts c) k g =
    let h = first_call c (get_or starts k 0 + 0) g.1 in
    let z : get_or starts k 0 ≡ get_or starts k 0 + 0 = omega arith in
    record {
      row = h.row;
      begun = first_turn (get_or counts k 0) (λ t. held.all_calls (nest_begun c ∷ []) (get_or starts k 0 + t)) h.row
          g.0 (front_at (calls c (get_or starts k 0 + 0)) [] 0 h.row h.begun);
      there = ap (λ i. slice_get (chain c).instances ((chain c).first i)) z ∙ h.there;
    }

-- ---- its loops

abbrev pub nest_filled : Nest → ℕ → Bool
nest_filled = nest_fold (ℕ → Bool) filled_step

pub filled_in : (place : Place) (counts starts : List ℕ) (c : Nest) (k : ℕ)
    → nest_filled (a_loop place counts starts c) k ≡ true
    → (t : ℕ) → t < get_or counts k 0 → nest_filled c (get_or starts k 0 + t) ≡ true
filled_in place counts starts c k full t lt = left_true (nest_filled c (get_or starts k 0 + t)) true
    (below_true (get_or counts k 0) (λ t. all_filled (nest_filled c ∷ []) (get_or starts k 0 + t)) t full lt)

module _ (homes : ℕ → Homes) where
  -- what is asked of the loop that it is and of those inside it, as they are begun
  abbrev pub LoopsHold : Nest → ℕ → Type 0
  LoopsHold (a_call rows) k = Unit {0}
  LoopsHold (a_loop place counts starts c) k =
      LoopHolds homes (record {
        chain = chain (a_loop place counts starts c);
        count = get_or counts k 0;
        calls = calls (a_loop place counts starts c) k;
      })
      × ((t : ℕ) → t < get_or counts k 0 → LoopsHold c (get_or starts k 0 + t))

  pub loops_hold : (c : Nest) (k : ℕ) → EachOf (LoopHolds homes) ((nest_begun c).loops k) → LoopsHold c k
  loops_hold (a_call rows) k h = tt
  loops_hold (a_loop place counts starts c) k h =
      let n = get_or counts k 0 in
      let o = (nest_begun (a_loop place counts starts c)).chain in
      let cs = calls (a_loop place counts starts c) k in
      let deeper : ℕ → List BegunLoop = λ t. held.all_loops (nest_begun c ∷ []) (get_or starts k 0 + t) in
      let own : EachOf (LoopHolds homes) (loop_list (Some (chain (a_loop place counts starts c))) n cs)
      = subst (λ o. EachOf (LoopHolds homes) (loop_list o n cs)) (chain_is (a_loop place counts starts c))
      (each_left (LoopHolds homes) (loop_list o n cs) (over 0 n deeper) h) in (
        own.0,
        λ t lt. loops_hold c (get_or starts k 0 + t)
            (each_left (LoopHolds homes) ((nest_begun c).loops (get_or starts k 0 + t)) []
            (each_turn (LoopHolds homes) n deeper (each_right (LoopHolds homes) (loop_list o n cs) (over 0 n deeper) h)
            t lt)),
      )

  -- where an argument of its call leaves it, each loop has an iteration
  pub goes : (c : Nest) (k : ℕ) → nest_filled c k ≡ true → LoopsHold c k → (i u n : ℕ)
      → get_or (params_of homes (slice_get (chain c).instances 0)) i InPlace ≡ Held u n → (chain c).loops ≤ n
      → Goes c k
  goes (a_call rows) k full h i u n e le = some_of (slice_get rows k) full
  goes (a_loop place counts starts c) k full h i u n e le =
      let some = h.0.some i u n e le in (
        some,
        goes c (get_or starts k 0 + 0) (filled_in place counts starts c k full 0 some) (h.1 0 some) i u n e
            (omega (arith, le)),
      )
