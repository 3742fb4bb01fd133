-- Scopes that may be open in some state are scopes that may be open at once, so buffers that don't lack room have room
-- in each state.
use Rattle.std.proofs.Common.{◌≡◌, ◌≢◌, ℕ, zero, suc, ◌+◌, ◌<◌, ◌≤◌, Bool, true, false, List, [], refl, sym, ap, subst, ◌⊎◌, inl, inr, arith}
use Rattle.std.specs.Prelude.{if◌then◌else◌}
use Rattle.std.specs.List.{Contains}
use Rattle.std.proofs.lemmas.List.{append-nil}
use Rattle.sq_ir.specs.Tree.{Tree, Skip, Act, Stuck, Seq, Par, Within, is_done, seq, par, within}
use Rattle.sq_ir.specs.Scopes.{Scope, MayBeOpen, InEachState}
use Rattle.sq_ir.specs.Written.{Setting, PlanTree}
use Rattle.sq_ir.specs.Plans.{HasByte, HaveRoom}
use Rattle.sq_ir.proofs.OpenScopes.{contains-first, contains-append, contains-none}
use Rattle.sq_ir.proofs.Open.{each-state}
use Rattle.sq_check_laws.specs.Whole.{trimmed}
use Rattle.sq_check_laws.specs.Flaws.{HasScope, AreTogether, LackRoom}

module _ {E S : Type 0} where
  -- ---- what may be open without the empty parts may be open

  none_open : (t : Tree E S) → MayBeOpen t []
  none_open Skip = refl
  none_open (Act e) = refl
  none_open (Stuck e) = refl
  none_open (Seq a b) = inl (none_open a)
  none_open (Par a b) = ([], [], none_open a, none_open b, refl)
  none_open (Within s a) = inl refl

  seq_open : (a b x y : Tree E S) (l : List S) → (MayBeOpen x l → MayBeOpen a l) → (MayBeOpen y l → MayBeOpen b l) → MayBeOpen (seq x y) l → MayBeOpen (Seq a b) l
  seq_open a b x y l f g = go (is_done x) (is_done y)
    where
      go : (u v : Bool) → MayBeOpen (if u then y else (if v then x else Seq x y)) l → MayBeOpen (Seq a b) l
      go true v h = inr (g h)
      go false true h = inl (f h)
      go false false (inl h) = inl (f h)
      go false false (inr h) = inr (g h)

  par_open : (a b x y : Tree E S) (l : List S) → ((k : List S) → MayBeOpen x k → MayBeOpen a k) → ((k : List S) → MayBeOpen y k → MayBeOpen b k) → MayBeOpen (par x y) l → MayBeOpen (Par a b) l
  par_open a b x y l f g = go (is_done x) (is_done y)
    where
      go : (u v : Bool) → MayBeOpen (if u then y else (if v then x else Par x y)) l → MayBeOpen (Par a b) l
      go true v h = ([], l, none_open a, g l h, refl)
      go false true h = (l, [], f l h, none_open b, sym (append-nil l))
      go false false h = (h.0, h.1, f h.0 h.2, g h.1 h.3, h.4)

  within_open : (s : S) (a x : Tree E S) (l : List S) → ((k : List S) → MayBeOpen x k → MayBeOpen a k) → MayBeOpen (within s x) l → MayBeOpen (Within s a) l
  within_open s a x l f = go (is_done x)
    where
      go : (u : Bool) → MayBeOpen (if u then Skip else Within s x) l → MayBeOpen (Within s a) l
      go true h = inl h
      go false (inl h) = inl h
      go false (inr h) = inr (h.0, f h.0 h.1, h.2)

  trimmed_open : (t : Tree E S) (l : List S) → MayBeOpen (trimmed t) l → MayBeOpen t l
  trimmed_open Skip l h = h
  trimmed_open (Act e) l h = h
  trimmed_open (Stuck e) l h = h
  trimmed_open (Seq a b) l h = seq_open a b (trimmed a) (trimmed b) l (trimmed_open a l) (trimmed_open b l) h
  trimmed_open (Par a b) l h = par_open a b (trimmed a) (trimmed b) l (trimmed_open a) (trimmed_open b) h
  trimmed_open (Within s a) l h = within_open s a (trimmed a) l (trimmed_open a) h

  -- ---- scopes that are open together

  open_there : (t : Tree E S) (l : List S) (x : S) → MayBeOpen t l → Contains l x → HasScope t x
  open_there Skip l x h c = contains-none x (subst (λ z. Contains z x) h c)
  open_there (Act e) l x h c = contains-none x (subst (λ z. Contains z x) h c)
  open_there (Stuck e) l x h c = contains-none x (subst (λ z. Contains z x) h c)
  open_there (Seq a b) l x (inl h) c = inl (open_there a l x h c)
  open_there (Seq a b) l x (inr h) c = inr (open_there b l x h c)
  open_there (Par a b) l x h c = by (contains-append h.0 h.1 x (subst (λ z. Contains z x) h.4 c)) (open_there a h.0 x h.2) (open_there b h.1 x h.3)
    where
      by : Contains h.0 x ⊎ Contains h.1 x → (Contains h.0 x → HasScope a x) → (Contains h.1 x → HasScope b x) → HasScope (Par a b) x
      by (inl z) f g = inl (f z)
      by (inr z) f g = inr (g z)
  open_there (Within s a) l x (inl h) c = absurd (contains-none x (subst (λ z. Contains z x) h c))
  open_there (Within s a) l x (inr h) c = by (contains-first s h.0 x (subst (λ z. Contains z x) h.2 c)) (open_there a h.0 x h.1)
    where
      by : (s ≡ x) ⊎ Contains h.0 x → (Contains h.0 x → HasScope a x) → HasScope (Within s a) x
      by (inl e) f = inl e
      by (inr z) f = inr (f z)

  open_together : (t : Tree E S) (l : List S) (x y : S) → MayBeOpen t l → Contains l x → Contains l y → AreTogether t x y
  open_together Skip l x y h c d = contains-none x (subst (λ z. Contains z x) h c)
  open_together (Act e) l x y h c d = contains-none x (subst (λ z. Contains z x) h c)
  open_together (Stuck e) l x y h c d = contains-none x (subst (λ z. Contains z x) h c)
  open_together (Seq a b) l x y (inl h) c d = inl (open_together a l x y h c d)
  open_together (Seq a b) l x y (inr h) c d = inr (open_together b l x y h c d)
  open_together (Par a b) l x y h c d =
      by (contains-append h.0 h.1 x (subst (λ z. Contains z x) h.4 c)) (contains-append h.0 h.1 y (subst (λ z. Contains z y) h.4 d)) (open_together a h.0 x y h.2) (open_together b h.1 x y h.3)
    where
      by : Contains h.0 x ⊎ Contains h.1 x → Contains h.0 y ⊎ Contains h.1 y → (Contains h.0 x → Contains h.0 y → AreTogether a x y) → (Contains h.1 x → Contains h.1 y → AreTogether b x y) → AreTogether (Par a b) x y
      by (inl p) (inl q) f g = inl (inl (f p q))
      by (inl p) (inr q) f g = inr (inl (open_there a h.0 x h.2 p, open_there b h.1 y h.3 q))
      by (inr p) (inl q) f g = inr (inr (open_there b h.1 x h.3 p, open_there a h.0 y h.2 q))
      by (inr p) (inr q) f g = inl (inr (g p q))
  open_together (Within s a) l x y (inl h) c d = absurd (contains-none x (subst (λ z. Contains z x) h c))
  open_together (Within s a) l x y (inr h) c d =
      by (contains-first s h.0 x (subst (λ z. Contains z x) h.2 c)) (contains-first s h.0 y (subst (λ z. Contains z y) h.2 d)) (open_together a h.0 x y h.1)
    where
      by : (s ≡ x) ⊎ Contains h.0 x → (s ≡ y) ⊎ Contains h.0 y → (Contains h.0 x → Contains h.0 y → AreTogether a x y) → AreTogether (Within s a) x y
      by (inl p) (inl q) f = inl (p, q)
      by (inl p) (inr q) f = inr (inl (p, open_there a h.0 y h.1 q))
      by (inr p) (inl q) f = inr (inr (inl (open_there a h.0 x h.1 p, q)))
      by (inr p) (inr q) f = inr (inr (inr (f p q)))

  together_sym : (t : Tree E S) (x y : S) → AreTogether t x y → AreTogether t y x
  together_sym Skip x y h = h
  together_sym (Act e) x y h = h
  together_sym (Stuck e) x y h = h
  together_sym (Seq a b) x y (inl h) = inl (together_sym a x y h)
  together_sym (Seq a b) x y (inr h) = inr (together_sym b x y h)
  together_sym (Par a b) x y (inl (inl h)) = inl (inl (together_sym a x y h))
  together_sym (Par a b) x y (inl (inr h)) = inl (inr (together_sym b x y h))
  together_sym (Par a b) x y (inr (inl h)) = inr (inr (h.1, h.0))
  together_sym (Par a b) x y (inr (inr h)) = inr (inl (h.1, h.0))
  together_sym (Within s a) x y (inl h) = inl (h.1, h.0)
  together_sym (Within s a) x y (inr (inl h)) = inr (inr (inl (h.1, h.0)))
  together_sym (Within s a) x y (inr (inr (inl h))) = inr (inl (h.1, h.0))
  together_sym (Within s a) x y (inr (inr (inr h))) = inr (inr (inr (together_sym a x y h)))

-- ---- room

-- of two different numbers one is less
differ : (b c : ℕ) → b ≢ c → (b < c) ⊎ (c < b)
differ zero zero n = absurd (n refl)
differ zero (suc c) n = inl (omega arith)
differ (suc b) zero n = inr (omega arith)
differ (suc b) (suc c) n = by (differ b c (λ e. n (ap suc e)))
  where
    by : (b < c) ⊎ (c < b) → (suc b < suc c) ⊎ (suc c < suc b)
    by (inl l) = inl (omega (arith, l))
    by (inr l) = inr (omega (arith, l))

at_most_or : (a b : ℕ) → (a ≤ b) ⊎ (b < a)
at_most_or zero b = inl (omega arith)
at_most_or (suc a) zero = inr (omega arith)
at_most_or (suc a) (suc b) = by (at_most_or a b)
  where
    by : (a ≤ b) ⊎ (b < a) → (suc a ≤ suc b) ⊎ (suc b < suc a)
    by (inl l) = inl (omega (arith, l))
    by (inr l) = inr (omega (arith, l))

module _ (s : Setting) (t : PlanTree) (no : (node b c : ℕ) → ¬ LackRoom s t node b c) where
  pub no_meeting : (node b c k : ℕ) (x y : Scope) → b ≢ c → AreTogether t x y → x.node ≡ node → y.node ≡ node → Contains x.buffers b → Contains y.buffers c → HasByte s b k → HasByte s c k → ⊥
  no_meeting node b c k x y n g p q i j hb hc = by (differ b c n)
    where
      by : (b < c) ⊎ (c < b) → ⊥
      by (inl l) = no node b c (inl (l, record { one = x; other = y; together = g; one_at = p; other_at = q; one_names = i; other_names = j; byte = k; of_one = hb; of_other = hc }))
      by (inr l) = no node c b (inl (l, record { one = y; other = x; together = together_sym t x y g; one_at = q; other_at = p; one_names = j; other_names = i; byte = k; of_one = hc; of_other = hb }))

  pub fits : (node b : ℕ) (x : Scope) → HasScope t x → x.node ≡ node → Contains x.buffers b → s.offset b + s.size b ≤ s.capacity node
  fits node b x h p i = by (at_most_or (s.offset b + s.size b) (s.capacity node))
    where
      by : (s.offset b + s.size b ≤ s.capacity node) ⊎ (s.capacity node < s.offset b + s.size b) → s.offset b + s.size b ≤ s.capacity node
      by (inl l) = l
      by (inr l) = absurd (no node b b (inr (refl, record { scope = x; there = h; at = p; names = i; past = l })))

  -- scopes that may be open have room
  pub open_have_room : (l : List Scope) → MayBeOpen t l → HaveRoom s l
  open_have_room l h = record {
    below = λ node b live. fits node b live.scope (open_there t l live.scope h live.open_) live.at live.names;
    apart = λ node b c k one other n p q. no_meeting node b c k one.scope other.scope n (open_together t l one.scope other.scope h one.open_ other.open_) one.at other.at one.names other.names p q;
  }

  pub states_have_room : (tree : PlanTree) → trimmed t ≡ tree → InEachState (HaveRoom s) tree
  states_have_room tree e = each-state (HaveRoom s) tree (λ l h. open_have_room l (trimmed_open t l (subst (λ z. MayBeOpen z l) (sym e) h)))
