-- The flaws of a plan that was written out: too many events, two events that clash, and buffers without room.
use Rattle.std.specs.Prelude.{◌≡◌, ℕ, ◌+◌, ◌<◌, ◌≤◌, ◌⊎◌, Bool, true, false, Some, List, ◌∷◌}
use Rattle.std.specs.List.{Contains}
use Rattle.sq_ir.specs.Tree.{Tree, Skip, Act, Stuck, Seq, Par, Within, waiting}
use Rattle.sq_ir.specs.Unordered.{event_in, IsUnordered}
use Rattle.sq_ir.specs.Scopes.{Scope}
use Rattle.sq_ir.specs.Events.{Event, Leaves, AreIndependent}
use Rattle.sq_ir.specs.Written.{Setting, PlanTree}
use Rattle.sq_ir.specs.Plans.{HasByte}

-- ---- events

-- A plan file has at most so many events.
abbrev pub most_events : ℕ
most_events = 65536

abbrev pub HasTooMany : PlanTree → Type 0
HasTooMany t = most_events < waiting t

-- the number of the event at a place: how many events stand to the left of it
-- in `Seq (Par (Act a) (Act b)) (Act c)` the place of c, which is true, has number 2
abbrev pub number_at : {E S : Type 0} → Tree E S → (place : List Bool) → ℕ
number_at (Seq a b) (false ∷ p) = number_at a p
number_at (Seq a b) (true ∷ p) = waiting a + number_at b p
number_at (Par a b) (false ∷ p) = number_at a p
number_at (Par a b) (true ∷ p) = waiting a + number_at b p
number_at (Within s a) p = number_at a p
number_at t p = 0

-- The events of two numbers clash: they are unordered and not independent, as two copies to one byte, or two leaf calls
-- of one path.
pub record Clashes {C : Type 0} (leaves : Leaves C) (t : PlanTree) (earlier later : ℕ) : Type 0 where
  pub first : List Bool
  pub second : List Bool
  pub e : Event
  pub f : Event
  pub first_is : event_in t first ≡ Some e
  pub second_is : event_in t second ≡ Some f
  pub earlier_is : number_at t first ≡ earlier
  pub later_is : number_at t second ≡ later
  pub before : earlier < later
  pub unordered : IsUnordered t first second
  pub dependent : ¬ AreIndependent leaves e f

-- by the later event, and then by the earlier one
pub record IsFirstClash {C : Type 0} (leaves : Leaves C) (t : PlanTree) (earlier later : ℕ) : Type 0 where
  pub clash : Clashes leaves t earlier later
  pub first : (i j : ℕ) → Clashes leaves t i j → (later < j) ⊎ ((later ≡ j) × (earlier ≤ i))

-- ---- scopes

abbrev pub HasScope : {E S : Type 0} → Tree E S → S → Type 0
HasScope Skip x = ⊥
HasScope (Act e) x = ⊥
HasScope (Stuck e) x = ⊥
HasScope (Seq a b) x = HasScope a x ⊎ HasScope b x
HasScope (Par a b) x = HasScope a x ⊎ HasScope b x
HasScope (Within s a) x = (s ≡ x) ⊎ HasScope a x

-- Two scopes may be open at once: they are one, or one stands in the other, or they stand in two parts of one `Par`.
abbrev pub AreTogether : {E S : Type 0} → Tree E S → S → S → Type 0
AreTogether Skip x y = ⊥
AreTogether (Act e) x y = ⊥
AreTogether (Stuck e) x y = ⊥
AreTogether (Seq a b) x y = AreTogether a x y ⊎ AreTogether b x y
AreTogether (Par a b) x y =
    (AreTogether a x y ⊎ AreTogether b x y) ⊎ ((HasScope a x × HasScope b y) ⊎ (HasScope b x × HasScope a y))
AreTogether (Within s a) x y =
    ((s ≡ x) × (s ≡ y)) ⊎ (((s ≡ x) × HasScope a y) ⊎ ((HasScope a x × (s ≡ y)) ⊎ AreTogether a x y))

-- Two buffers meet at a node: scopes that may be open at once name them there, and they share a byte.
pub record Meet (s : Setting) (t : PlanTree) (node b c : ℕ) : Type 0 where
  pub one : Scope
  pub other : Scope
  pub together : AreTogether t one other
  pub one_at : one.node ≡ node
  pub other_at : other.node ≡ node
  pub one_names : Contains one.buffers b
  pub other_names : Contains other.buffers c
  pub byte : ℕ
  pub of_one : HasByte s b byte
  pub of_other : HasByte s c byte

-- A buffer passes the capacity of a node at which a scope names it.
pub record Passes (s : Setting) (t : PlanTree) (node b : ℕ) : Type 0 where
  pub scope : Scope
  pub there : HasScope t scope
  pub at : scope.node ≡ node
  pub names : Contains scope.buffers b
  pub past : s.capacity node < s.offset b + s.size b

-- two buffers that meet, or a buffer that passes the capacity, as a pair with itself
abbrev pub LackRoom : Setting → PlanTree → (node earlier later : ℕ) → Type 0
LackRoom s t node earlier later = ((earlier < later) × Meet s t node earlier later) ⊎ ((earlier ≡ later) × Passes s t node later)

-- by the node, then by the later buffer, and then by the earlier one
pub record IsFirstLack (s : Setting) (t : PlanTree) (node earlier later : ℕ) : Type 0 where
  pub lack : LackRoom s t node earlier later
  pub first : (n b c : ℕ) → LackRoom s t n b c → (node < n) ⊎ ((node ≡ n) × ((later < c) ⊎ ((later ≡ c) × (earlier ≤ b))))
