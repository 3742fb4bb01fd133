-- A good plan in which each scope stands round an event has no flaw.
use Rattle.std.proofs.Common.{◌≡◌, ◌≢◌, ℕ, ◌+◌, ◌<◌, ◌≤◌, Bool, true, false, List, [], ◌∷◌, Some, None, refl, sym, ◌∙◌, ap, subst, ◌⊎◌, inl, inr, arith}
use Rattle.std.specs.Prelude.{if◌then◌else◌}
use Rattle.std.specs.List.{Contains}
use Rattle.sq_ir.specs.Tree.{Tree, Within, is_done, IsNormal, waiting}
use Rattle.sq_ir.specs.Unordered.{EachUnordered, AllUnordered, IsFresh}
use Rattle.sq_ir.specs.Scopes.{Scope, open_scopes}
use Rattle.sq_ir.specs.Closed.{without}
use Rattle.sq_ir.specs.Events.{Event, Leaves, AreIndependent}
use Rattle.sq_ir.specs.Written.{Setting, PlanTree, at_root}
use Rattle.sq_ir.specs.Plans.{setting_of, tree_of, HaveRoom, HasByte, IsGood}
use Rattle.sq_ir.specs.PlanLaws.{HaveRoomAlways}
use Rattle.sq_ir.specs.declared.plan.Plan.{Plan}
use Rattle.sq_ir.proofs.Fresh.{normal-entry, fresh-entry}
use Rattle.sq_ir.proofs.Places.{each-unordered, unordered-each}
use Rattle.sq_ir.proofs.Reordering.{independent-sym}
use Rattle.sq_check_laws.specs.Whole.{whole, whole_of, enclosed, trimmed}
use Rattle.sq_check_laws.specs.Flaws.{HasTooMany, Clashes, HasScope, AreTogether, Meet, Passes, LackRoom}
use Rattle.sq_check_laws.specs.First.{AreFew, NoneClash, AllHaveRoom, IsFirstFlaw}
use Rattle.sq_check_laws.proofs.Trimming.{trees_are_trimmed}
use Rattle.sq_filed_laws.proofs.Trimmed.{IsFull, unordered_there, has_trimmed, together_trimmed, together_has, has_event}
use Rattle.sq_filed_laws.proofs.Reached.{here, opens, opens_both}

-- ---- room

module _ (s : Setting) (scopes : List Scope) (room : HaveRoom s scopes) where
  no_meeting : (x y : Scope) → Contains scopes x → Contains scopes y → (node b c k : ℕ) → b < c → x.node ≡ node → y.node ≡ node
      → Contains x.buffers b → Contains y.buffers c → HasByte s b k → HasByte s c k → ⊥
  no_meeting x y one other node b c k lt p q i j hb hc = room.apart node b c k
      (record { scope = x; open_ = one; at = p; names = i })
      (record { scope = y; open_ = other; at = q; names = j })
      (λ e. omega (arith, lt, e)) hb hc

  no_passing : (x : Scope) → Contains scopes x → (node b : ℕ) → x.node ≡ node → Contains x.buffers b
      → s.capacity node < s.offset b + s.size b → ⊥
  no_passing x there node b p i past =
      let below = room.below node b (record { scope = x; open_ = there; at = p; names = i }) in omega (arith, past, below)

-- buffers that lack room do so in scopes that may be open at once
module _ (s : Setting) (t : PlanTree)
    (one : (x : Scope) → HasScope t x → (scopes : List Scope) × HaveRoom s scopes × Contains scopes x)
    (two : (x y : Scope) → AreTogether t x y → (scopes : List Scope) × HaveRoom s scopes × Contains scopes x × Contains scopes y) where
  none_lacks : (node b c : ℕ) → LackRoom s t node b c → ⊥
  none_lacks node b c (inl (lt, m)) =
      let r = two m.one m.other m.together in
      no_meeting s r.0 r.1 m.one m.other r.2 r.3 node b c m.byte lt m.one_at m.other_at m.one_names m.other_names m.of_one m.of_other
  none_lacks node b c (inr (e, m)) =
      let r = one m.scope m.there in no_passing s r.0 r.1 m.scope r.2 node c m.at m.names m.past

-- ---- the entry's scope, where no event stands

module _ (s : Setting) (entry : List ℕ) (body : PlanTree) (room : HaveRoom s (record { node = 0; buffers = entry } ∷ [])) (full : IsFull body) (done : is_done body ≡ true) where
  no_scope : (x : Scope) → HasScope body x → ⊥
  no_scope x h = let no : true ≡ false = sym done ∙ has_event body full x h in cc

  empty_lacks : (node b c : ℕ) → LackRoom s (enclosed 0 entry body) node b c → ⊥
  empty_lacks = by entry room
    where
      by : (bs : List ℕ) → HaveRoom s (record { node = 0; buffers = bs } ∷ []) → (node b c : ℕ) → LackRoom s (enclosed 0 bs body) node b c → ⊥
      by [] r = none_lacks s body (λ x h. absurd (no_scope x h)) (λ x y h. absurd (no_scope x (together_has body x y h)))
      by (b ∷ bs) r = none_lacks s (Within scope body) one two
        where
          scope : Scope
          scope = record { node = 0; buffers = b ∷ bs }

          named : (x : Scope) → scope ≡ x → Contains (scope ∷ []) x
          named x e = subst (λ y. Contains (scope ∷ []) y) e (here scope [])

          one : (x : Scope) → HasScope (Within scope body) x → (scopes : List Scope) × HaveRoom s scopes × Contains scopes x
          one x (inl e) = (scope ∷ [], r, named x e)
          one x (inr h) = absurd (no_scope x h)

          two : (x y : Scope) → AreTogether (Within scope body) x y → (scopes : List Scope) × HaveRoom s scopes × Contains scopes x × Contains scopes y
          two x y (inl h) = (scope ∷ [], r, named x h.0, named y h.1)
          two x y (inr (inl h)) = absurd (no_scope y h.1)
          two x y (inr (inr (inl h))) = absurd (no_scope x h.0)
          two x y (inr (inr (inr h))) = absurd (no_scope x (together_has body x y h))

-- ---- a plan

module _ {C : Type 0} (leaves : Leaves C) (p : Plan) (good : IsGood leaves p) (full : IsFull (whole (setting_of p) p.draft.term at_root)) where
  abbrev s : Setting
  s = setting_of p

  abbrev body : PlanTree
  body = whole s p.draft.term at_root

  same : trimmed (whole_of p) ≡ tree_of p
  same = trees_are_trimmed p

  none_clash : NoneClash leaves p
  none_clash i j h =
      let there : AllUnordered (AreIndependent leaves) (trimmed (whole_of p)) =
      subst (AllUnordered (AreIndependent leaves)) (sym same) (each-unordered (AreIndependent leaves) (tree_of p) good.independent) in
      let each : EachUnordered (AreIndependent leaves) (whole_of p) =
      unordered-each (AreIndependent leaves) (whole_of p) (independent-sym leaves) (unordered_there (AreIndependent leaves) (whole_of p) there) in
      h.dependent (each h.first h.second h.e h.f h.first_is h.second_is h.unordered)

  module _ (rooms : HaveRoomAlways C) where
    enclosed_full : (bs : List ℕ) → is_done body ≡ false → IsFull (enclosed 0 bs body)
    enclosed_full [] left = full
    enclosed_full (b ∷ bs) left = (left, full)

    normal : IsNormal (tree_of p)
    normal = normal-entry s p.draft.entry p.draft.term at_root

    fresh : IsFresh (tree_of p)
    fresh = fresh-entry s p.draft.entry p.draft.term at_root

    lacks_none : (left : Bool) → is_done body ≡ left → AllHaveRoom p
    lacks_none true is = empty_lacks s p.draft.entry body good.entry full is
    lacks_none false is = none_lacks s (whole_of p)
        (λ x h.
        let o = opens (tree_of p) normal fresh x (subst (λ t. HasScope t x) same (has_trimmed (whole_of p) (enclosed_full p.draft.entry is) x h)) in
        (open_scopes (without (tree_of p) o.finished), rooms leaves p good o.finished o.closed, o.open_))
        (λ x y h.
        let o = opens_both (tree_of p) normal fresh x y (subst (λ t. AreTogether t x y) same (together_trimmed (whole_of p) (enclosed_full p.draft.entry is) x y h)) in
        (open_scopes (without (tree_of p) o.finished), rooms leaves p good o.finished o.closed, o.one, o.other))

    -- and where it hasn't too many events
    pub flawless : AreFew p → IsFirstFlaw leaves p None
    flawless few = (few, none_clash, lacks_none (is_done body) refl)
