-- Events of rows: what the tests tell of them.
use Rattle.std.proofs.Common.{◌≡◌, ℕ, zero, suc, ◌+◌, ◌*◌, ◌<◌, ◌≤◌, ◌&&◌, ◌||◌, Bool, true, false, pos, List, [], ◌∷◌, refl, sym, ap, ap₂, subst, ◌∙◌, ◌⊎◌, inl, inr, arith}
use Rattle.std.specs.Prelude.{◌≤ℤ◌, not, nat_eq, nat_le, nat_lt}
use Rattle.std.specs.List.{All, slice_get}
use Rattle.std.specs.Option.{option_map_or}
use Rattle.std.proofs.lemmas.Bool.Decides.{nat_tests}
use Rattle.std.proofs.lemmas.Int.{ints}
use Rattle.sq_num.specs.declared.Elem.{Elem}
use Rattle.sq_num.specs.declared.Elem.TheVariants.{Long}
use Rattle.sq_num.specs.declared.RedOp.{RedOp}
use Rattle.sq_num.specs.Elements.{least, greatest, IsValue, width}
use Rattle.sq_ir.specs.Events.{Spot, in_row, ShareNothing}
use Rattle.sq_ir.specs.Written.{Setting, Env, spot_of}
use Rattle.sq_ir.specs.Plans.{IsCount, IsRow, IsInside, setting_of}
use Rattle.sq_ir.specs.declared.plan.PlanNode.{PlanNode}
use Rattle.sq_ir.proofs.Counting.{has_const}
use Rattle.sq_ir.proofs.Equations.{value_const}
use Rattle.sq_plantext.specs.declared.text.BufferLine.{BufferLine}
use Rattle.sq_plantext.specs.declared.text.SlotText.{SlotText}
use Rattle.sq_plantext.specs.declared.text.EventText.TheVariants as event
use Rattle.sq_plantext.specs.declared.text.PlanText.{PlanText}
use Rattle.sq_planfile.specs.Files.{constant, slot_of, nodes_of, plan_of}
use Rattle.sq_planfile.specs.Sound.{IsBufferLine, IsEventText}
use Rattle.sq_planfile.proofs.WellFormed.{counted}
use Rattle.sq_planevents.specs.First.{Decides}
use Rattle.sq_planevents.specs.Lines.{room_of, room_in}
use Rattle.sq_planevents.specs.Standing.{node_in, env_of, has}
use Rattle.sq_planevents.specs.Rows.{place_of, node_of, capacity_of, is_row, are_apart, is_move}
use Rattle.sq_planevents.proofs.Standings.{level_is, size_is, offset_is, and_both, both_and, or_either, decides, has_contains, contains_has}

small : (k : ℕ) → k < 4294967296 → IsValue Long (pos k)
unfolding least greatest
small k h = record { low = omega (arith, ints, h); high = omega (arith, ints, h) }

pub is_count : (s : Setting) (k : ℕ) (env : Env) → k < 4294967296 → IsCount s env (constant k)
is_count s k env h = record {
  has = subst (λ (f : Env → Type 0). f env) (sym (has_const s (pos k))) (small k h);
  natural = subst (λ z. pos 0 ≤ℤ z) (sym (ap (λ (f : Env → _). f env) (value_const s (pos k)))) (omega (arith, ints));
}

room_small : (nodes : List PlanNode) (bs : List BufferLine) (b : ℕ) → All (IsBufferLine nodes) bs
    → (option_map_or room_in (slice_get bs b) (record { level = 0; offset = 0; size = 0 })).offset + (option_map_or room_in (slice_get bs b) (record { level = 0; offset = 0; size = 0 })).size ≤ 1073741824
room_small nodes [] b h = omega arith
room_small nodes (l ∷ bs) zero h = (h 0 l (omega arith)).within
room_small nodes (l ∷ bs) (suc b) h = room_small nodes bs b (λ k d q. h (suc k) d (omega (arith, q)))

module _ (x : PlanText) (nodes scopes : List ℕ) (lines : All (IsBufferLine (nodes_of x)) x.buffers) where
  abbrev S : Setting
  S = setting_of (plan_of x)

  abbrev env : Env
  env = env_of nodes

  -- the room of a buffer ends within 2^30 bytes
  pub room : (b : ℕ) → (room_of x b).offset + (room_of x b).size ≤ 1073741824
  room b = room_small (nodes_of x) x.buffers b lines

  pub node_is : (slot : SlotText) → (spot_of S env (slot_of slot)).node ≡ node_of x nodes slot
  node_is slot = ap (node_in nodes) (level_is x slot.buffer)

  pub place_is : (slot : SlotText) → (spot_of S env (slot_of slot)).at ≡ place_of x slot
  place_is slot = ap₂ (λ o k. o + k) (offset_is x slot.buffer) (counted S slot.at env)

  -- a row that lies in its buffer, which is in scope, and in its node
  abbrev IsPlaced : SlotText → ℕ → Type 0
  IsPlaced slot bytes = IsRow S env scopes (slot_of slot) bytes × IsInside S.capacity (spot_of S env (slot_of slot)) bytes

  pub row_placed : (slot : SlotText) (bytes : ℕ) → is_row x nodes scopes slot bytes ≡ true → IsPlaced slot bytes
  row_placed slot bytes h =
      let a = and_both (has scopes slot.buffer && nat_le (slot.at + bytes) (room_of x slot.buffer).size) (nat_le (place_of x slot + bytes) (capacity_of x (node_of x nodes slot))) h in
      let b = and_both (has scopes slot.buffer) (nat_le (slot.at + bytes) (room_of x slot.buffer).size) a.0 in
      let inside : slot.at + bytes ≤ (room_of x slot.buffer).size = grind (arith, nat_tests, b.1) in
      let whole : place_of x slot + bytes ≤ capacity_of x (node_of x nodes slot) = grind (arith, nat_tests, a.1) in
      let r = room slot.buffer in
      let n = counted S slot.at env in
      let s = size_is x slot.buffer in (
        record { scope = has_contains scopes slot.buffer b.0; at = is_count S slot.at env (omega (arith, inside, r)); inside = omega (arith, inside, n, s) },
        subst (λ p. p + bytes ≤ S.capacity (spot_of S env (slot_of slot)).node) (sym (place_is slot)) (subst (λ m. place_of x slot + bytes ≤ S.capacity m) (sym (node_is slot)) whole),
      )

  pub placed_row : (slot : SlotText) (bytes : ℕ) → IsPlaced slot bytes → is_row x nodes scopes slot bytes ≡ true
  placed_row slot bytes p =
      let q = p.0.inside in
      let n = counted S slot.at env in
      let s = size_is x slot.buffer in
      let inside : slot.at + bytes ≤ (room_of x slot.buffer).size = omega (arith, q, n, s) in
      let whole : place_of x slot + bytes ≤ capacity_of x (node_of x nodes slot) = subst (λ m. place_of x slot + bytes ≤ S.capacity m) (node_is slot) (subst (λ p. p + bytes ≤ S.capacity (spot_of S env (slot_of slot)).node) (place_is slot) p.1) in
      both_and (has scopes slot.buffer && nat_le (slot.at + bytes) (room_of x slot.buffer).size) (nat_le (place_of x slot + bytes) (capacity_of x (node_of x nodes slot)))
      (both_and (has scopes slot.buffer) (nat_le (slot.at + bytes) (room_of x slot.buffer).size) (contains_has scopes slot.buffer p.0.scope) (grind (arith, nat_tests, inside)))
      (grind (arith, nat_tests, whole))

-- ---- two rows

within : (n p len : ℕ) (s : Spot) → in_row n p len s ≡ true → (s.node ≡ n) × (p ≤ s.at) × (s.at < p + len)
within n p len s h =
    let a = and_both (nat_eq s.node n && nat_le p s.at) (nat_lt s.at (p + len)) h in
    let b = and_both (nat_eq s.node n) (nat_le p s.at) a.0 in
    (grind (arith, nat_tests, b.0), grind (arith, nat_tests, b.1), grind (arith, nat_tests, a.1))

row_has : (n p len k : ℕ) → p ≤ k → k < p + len → in_row n p len (record { node = n; at = k }) ≡ true
row_has n p len k l h =
    let e : nat_eq n n ≡ true = grind (arith, nat_tests) in
    both_and (nat_eq n n && nat_le p k) (nat_lt k (p + len)) (both_and (nat_eq n n) (nat_le p k) e (grind (arith, nat_tests, l))) (grind (arith, nat_tests, h))

abbrev apart : (n m p q len : ℕ) → Bool
apart n m p q len = not (nat_eq n m) || nat_le (p + len) q || nat_le (q + len) p

apart_none : (n m p q len : ℕ) → apart n m p q len ≡ true → ShareNothing n p len m q len
apart_none n m p q len h s a = by (in_row m q len s) refl
  where
    w : (s.node ≡ n) × (p ≤ s.at) × (s.at < p + len)
    w = within n p len s a

    clash : (s.node ≡ m) × (q ≤ s.at) × (s.at < q + len) → ⊥
    clash v = case (or_either (not (nat_eq n m) || nat_le (p + len) q) (nat_le (q + len) p) h)
      where
        low : p ≤ s.at
        low = w.1

        high : s.at < p + len
        high = w.2

        from : q ≤ s.at
        from = v.1

        to : s.at < q + len
        to = v.2

        first : (not (nat_eq n m) ≡ true) ⊎ (nat_le (p + len) q ≡ true) → ⊥
        first (inl e) =
            let same : n ≡ m = sym w.0 ∙ v.0 in
            let t : nat_eq n m ≡ true = grind (arith, nat_tests, same) in
            let f : false ≡ true = ap not (sym t) ∙ e in
            cc
        first (inr e) = let l : p + len ≤ q = grind (arith, nat_tests, e) in absurd (omega (arith, l, high, from))

        case : (not (nat_eq n m) || nat_le (p + len) q ≡ true) ⊎ (nat_le (q + len) p ≡ true) → ⊥
        case (inl e) = first (or_either (not (nat_eq n m)) (nat_le (p + len) q) e)
        case (inr e) = let l : q + len ≤ p = grind (arith, nat_tests, e) in absurd (omega (arith, l, to, low))

    by : (b : Bool) → in_row m q len s ≡ b → b ≡ false
    by true e = absurd (clash (within m q len s e))
    by false e = refl

none_apart : (n m p q len : ℕ) → ShareNothing n p len m q len → apart n m p q len ≡ true
none_apart n m p q len h = by (nat_eq n m) refl (nat_le (p + len) q) refl (nat_le (q + len) p) refl
  where
    meet : n ≡ m → q < p + len → p < q + len → ⊥
    meet e a b = at (nat_le p q) refl
      where
        no : (k : ℕ) → p ≤ k → k < p + len → q ≤ k → k < q + len → ⊥
        no k x y z w =
            let f = h (record { node = n; at = k }) (row_has n p len k x y) in
            let t : in_row m q len (record { node = n; at = k }) ≡ true = subst (λ z. in_row z q len (record { node = n; at = k }) ≡ true) e (row_has n q len k z w) in
            let g : true ≡ false = sym t ∙ f in
            cc

        at : (b : Bool) → nat_le p q ≡ b → ⊥
        at true g = let l : p ≤ q = grind (arith, nat_tests, g) in no q l a (omega arith) (omega (arith, a, b, l))
        at false g = let l : q < p = grind (arith, nat_tests, g) in no p (omega arith) (omega (arith, a, b, l)) (omega (arith, l)) b

    by : (a : Bool) → nat_eq n m ≡ a → (b : Bool) → nat_le (p + len) q ≡ b → (c : Bool) → nat_le (q + len) p ≡ c → (not a || b || c) ≡ true
    by false e b f c g = refl
    by true e true f c g = refl
    by true e false f true g = refl
    by true e false f false g = absurd (meet (grind (arith, nat_tests, e)) (grind (arith, nat_tests, f)) (grind (arith, nat_tests, g)))

module _ (x : PlanText) (nodes scopes : List ℕ) (lines : All (IsBufferLine (nodes_of x)) x.buffers) where
  abbrev Here : Setting
  Here = setting_of (plan_of x)

  abbrev Sunk : SlotText → Spot
  Sunk slot = spot_of Here (env_of nodes) (slot_of slot)

  abbrev Nothing : (from to : SlotText) (bytes : ℕ) → Type 0
  Nothing from to bytes = ShareNothing (Sunk from).node (Sunk from).at bytes (Sunk to).node (Sunk to).at bytes

  spots_apart : (from to : SlotText) (bytes : ℕ) → apart (Sunk from).node (Sunk to).node (Sunk from).at (Sunk to).at bytes ≡ are_apart x nodes from to bytes
  spots_apart from to bytes =
      ap₂ (λ n m. apart n m (Sunk from).at (Sunk to).at bytes) (node_is x nodes scopes lines from) (node_is x nodes scopes lines to)
      ∙ ap₂ (λ p q. apart (node_of x nodes from) (node_of x nodes to) p q bytes) (place_is x nodes scopes lines from) (place_is x nodes scopes lines to)

  abbrev IsMoved : (from to : SlotText) (bytes : ℕ) → Type 0
  IsMoved from to bytes = IsPlaced x nodes scopes lines from bytes × IsPlaced x nodes scopes lines to bytes × Nothing from to bytes

  move_moved : (from to : SlotText) (bytes : ℕ) → is_move x nodes scopes from to bytes ≡ true → IsMoved from to bytes
  move_moved from to bytes h =
      let a = and_both (is_row x nodes scopes from bytes && is_row x nodes scopes to bytes) (are_apart x nodes from to bytes) h in
      let b = and_both (is_row x nodes scopes from bytes) (is_row x nodes scopes to bytes) a.0 in
      (row_placed x nodes scopes lines from bytes b.0, row_placed x nodes scopes lines to bytes b.1, apart_none _ _ _ _ bytes (spots_apart from to bytes ∙ a.1))

  moved_move : (from to : SlotText) (bytes : ℕ) → IsMoved from to bytes → is_move x nodes scopes from to bytes ≡ true
  moved_move from to bytes m =
      both_and (is_row x nodes scopes from bytes && is_row x nodes scopes to bytes) (are_apart x nodes from to bytes)
      (both_and (is_row x nodes scopes from bytes) (is_row x nodes scopes to bytes) (placed_row x nodes scopes lines from bytes m.0) (placed_row x nodes scopes lines to bytes m.1))
      (sym (spots_apart from to bytes) ∙ none_apart _ _ _ _ bytes m.2)

  pub copy_decides : (from to : SlotText) (bytes : ℕ) (told : Bool) → told ≡ is_move x nodes scopes from to bytes → Decides told (IsEventText x (env_of nodes) scopes (event.Copy from to bytes))
  copy_decides from to bytes told e = decides told _
      (λ h. let m = move_moved from to bytes (sym e ∙ h) in record { views = tt; allowed = record { inside = (m.0.0, m.1.0); event = (m.0.1, m.1.1, m.2) } })
      (λ s. let a = s.allowed.inside in let b = s.allowed.event in e ∙ moved_move from to bytes ((a.0, b.0), (a.1, b.1), b.2))

  pub fill_decides : (to : SlotText) (el : Elem) (count : ℕ) (value : _) (bytes : ℕ) (told : Bool) → bytes ≡ count * width el → told ≡ is_row x nodes scopes to bytes → Decides told (IsEventText x (env_of nodes) scopes (event.Fill to el count value))
  fill_decides to el count value bytes told b e = decides told _
      (λ h. let m = row_placed x nodes scopes lines to (count * width el) (sym (e ∙ ap (is_row x nodes scopes to) b) ∙ h) in record { views = tt; allowed = record { inside = m.0; event = m.1 } })
      (λ s. e ∙ (ap (is_row x nodes scopes to) b ∙ placed_row x nodes scopes lines to (count * width el) (s.allowed.inside, s.allowed.event)))

  pub acc_decides : (op : RedOp) (el : Elem) (from to : SlotText) (count bytes : ℕ) (told : Bool) → bytes ≡ count * width el → told ≡ is_move x nodes scopes from to bytes → Decides told (IsEventText x (env_of nodes) scopes (event.Acc op el from to count))
  acc_decides op el from to count bytes told b e = decides told _
      (λ h. let m = move_moved from to (count * width el) (sym (e ∙ ap (is_move x nodes scopes from to) b) ∙ h) in record { views = tt; allowed = record { inside = (m.0.0, m.1.0); event = (m.0.1, m.1.1, m.2) } })
      (λ s. let a = s.allowed.inside in let c = s.allowed.event in e ∙ (ap (is_move x nodes scopes from to) b ∙ moved_move from to (count * width el) ((a.0, c.0), (a.1, c.1), c.2)))
