-- Where parts of a term stand: their environments, and the buffers in scope.
use Rattle.std.proofs.Common.{◌≡◌, ℕ, zero, suc, ◌+◌, ◌-◌, ◌<◌, ◌≤◌, ◌==◌, ◌&&◌, ◌||◌, Bool, true, false, if◌then◌else◌, Some, None, List, [], ◌∷◌, ◌++◌, map, length, refl, sym, ap, ap₂, subst, ◌∙◌, ◌⊎◌, inl, inr, arith}
use Rattle.std.specs.Prelude.{nat_lt, nat_le, nat_eq, get_or}
use Rattle.std.specs.List.{All, Contains, slice_get}
use Rattle.std.specs.Option.{option_map_or}
use Rattle.std.proofs.lemmas.Bool.Decides.{nat_tests}
use mathlib.Core.Path.{fun_ext}
use Rattle.sq_ir.specs.Written.{Env, at_root, inside_of}
use Rattle.sq_ir.specs.Plans.{IsBuffer, node_at, of_buffer, setting_of}
use Rattle.sq_plantext.specs.declared.text.BufferLine.{BufferLine}
use Rattle.sq_plantext.specs.declared.text.PlanText.{PlanText}
use Rattle.sq_planfile.specs.Files as Files
use Rattle.sq_plantext.specs.declared.text.NodeLine.{NodeLine}
use Rattle.sq_planfile.specs.Files.{constant, child_at, buffer_of, nodes_of, plan_of}
use Rattle.sq_planfile.specs.Sound.{IsScope, inside}
use Rattle.sq_planfile.proofs.WellFormed.{counted}
use Rattle.sq_planevents.specs.First.{Decides}
use Rattle.sq_planevents.specs.Lines.{room_of, room_in, is_at}
use Rattle.sq_planevents.specs.Standing.{node_in, env_of, node_here, has, HaveSame}
use Rattle.sq_planevents.specs.Scoped.{is_child, level_within, are_at, is_scope, first_or, inside_nodes}

-- ---- buffers

level_there : (bs : List BufferLine) (b : ℕ) → of_buffer (map buffer_of bs) (λ b. b.level) b ≡ (option_map_or room_in (slice_get bs b) (record { level = 0; offset = 0; size = 0 })).level
level_there [] b = refl
level_there (l ∷ bs) zero = refl
level_there (l ∷ bs) (suc b) = level_there bs b

size_there : (bs : List BufferLine) (b : ℕ) → of_buffer (map buffer_of bs) (λ b. b.size) b ≡ (option_map_or room_in (slice_get bs b) (record { level = 0; offset = 0; size = 0 })).size
size_there [] b = refl
size_there (l ∷ bs) zero = refl
size_there (l ∷ bs) (suc b) = size_there bs b

offset_there : (bs : List BufferLine) (b : ℕ) → get_or (map (λ l. l.offset) bs) b 0 ≡ (option_map_or room_in (slice_get bs b) (record { level = 0; offset = 0; size = 0 })).offset
offset_there [] b = refl
offset_there (l ∷ bs) zero = refl
offset_there (l ∷ bs) (suc b) = offset_there bs b

module _ (x : PlanText) (b : ℕ) where
  pub level_is : (setting_of (plan_of x)).level b ≡ (room_of x b).level
  level_is = level_there x.buffers b

  pub size_is : (setting_of (plan_of x)).size b ≡ (room_of x b).size
  size_is = size_there x.buffers b

  pub offset_is : (setting_of (plan_of x)).offset b ≡ (room_of x b).offset
  offset_is = offset_there x.buffers b

pub no_node : (xs : List NodeLine) (n : ℕ) → slice_get xs n ≡ None → record { level = 0; capacity = 0; first_child = 0; children = 0 } ≡ node_at (map Files.node_of xs) n
no_node [] n e = refl
no_node (x ∷ xs) zero e = cc
no_node (x ∷ xs) (suc n) e = no_node xs n e

-- ---- tests

pub and_both : (a b : Bool) → (a && b) ≡ true → (a ≡ true) × (b ≡ true)
and_both true b h = (refl, h)
and_both false b h = cc

pub both_and : (a b : Bool) → a ≡ true → b ≡ true → (a && b) ≡ true
both_and true b h g = g
both_and false b h g = cc

pub or_either : (a b : Bool) → (a || b) ≡ true → (a ≡ true) ⊎ (b ≡ true)
or_either true b h = inl refl
or_either false b h = inr h

pub or_left : (a b : Bool) → a ≡ true → (a || b) ≡ true
or_left true b h = refl
or_left false b h = cc

pub or_right : (a b : Bool) → b ≡ true → (a || b) ≡ true
or_right true b h = refl
or_right false b h = h

pub not_both : (a : Bool) → a ≡ true → a ≡ false → ⊥
not_both true h g = cc
not_both false h g = cc

-- a test that is true exactly where something holds
pub decides : (told : Bool) (P : Type 0) → (told ≡ true → P) → (P → told ≡ true) → Decides told P
decides told P forth back = record { yes = forth; none = λ e p. not_both told (back p) e }

-- ---- nodes

past_here : (nodes : List ℕ) (c m : ℕ) → m ≡ length nodes → get_or (nodes ++ c ∷ []) m 0 ≡ c
past_here [] c m e = ap (λ i. get_or (c ∷ []) i 0) e
past_here (n ∷ nodes) c zero e = absurd (omega (arith, e))
past_here (n ∷ nodes) c (suc m) e = past_here nodes c m (omega (arith, e))

past_there : (nodes : List ℕ) (c m : ℕ) → (m ≡ length nodes → ⊥) → get_or (nodes ++ c ∷ []) m 0 ≡ get_or nodes m 0
past_there [] c zero n = absurd (n refl)
past_there [] c (suc m) n = refl
past_there (k ∷ nodes) c zero n = refl
past_there (k ∷ nodes) c (suc m) n = past_there nodes c m (λ e. n (ap suc e))

child_node : (nodes : List ℕ) (c l : ℕ) → node_in (nodes ++ c ∷ []) l ≡ (if l == suc (length nodes) then c else node_in nodes l)
child_node nodes c l = by (l == 0) refl (l == suc (length nodes)) refl
  where
    by : (a : Bool) → (l == 0) ≡ a → (b : Bool) → (l == suc (length nodes)) ≡ b
        → (if a then 0 else get_or (nodes ++ c ∷ []) (l - 1) 0) ≡ (if b then c else (if a then 0 else get_or nodes (l - 1) 0))
    by true e true f =
        let x : l ≡ 0 = grind (arith, nat_tests, e) in
        let y : l ≡ suc (length nodes) = grind (arith, nat_tests, f) in
        absurd (omega (arith, x, y))
    by true e false f = refl
    by false e true f = let y : l ≡ suc (length nodes) = grind (arith, nat_tests, f) in past_here nodes c (l - 1) (omega (arith, y))
    by false e false f = past_there nodes c (l - 1) (λ z.
        let x : 0 < l = grind (arith, nat_tests, e) in
        let w : l ≡ suc (length nodes) = omega (arith, x, z) in
        let t : (l == suc (length nodes)) ≡ true = grind (arith, nat_tests, w) in
        let g : true ≡ false = sym t ∙ f in
        cc)

append_length : (nodes : List ℕ) (c : ℕ) → length (nodes ++ c ∷ []) ≡ suc (length nodes)
append_length [] c = refl
append_length (n ∷ nodes) c = ap suc (append_length nodes c)

env_child : (nodes : List ℕ) (c : ℕ) → record { turns = []; level = suc (length nodes); nodes = λ l. if l == suc (length nodes) then c else node_in nodes l } ≡ env_of (nodes ++ c ∷ [])
env_child nodes c = ap₂ (λ l f. record { turns = []; level = l; nodes = f }) (sym (append_length nodes c)) (fun_ext (λ l. sym (child_node nodes c l)))

first_is : (first node : ℕ) → first + (node - first) ≡ first_or first node
first_is first node = by (nat_lt node first) refl
  where
    by : (b : Bool) → nat_lt node first ≡ b → first + (node - first) ≡ (if b then first else node)
    by true e = let l : node < first = grind (arith, nat_tests, e) in omega (arith, l)
    by false e = let l : first ≤ node = grind (arith, nat_tests, e) in omega (arith, l)

pub root_is : env_of [] ≡ at_root
root_is = ap (λ f. record { turns = []; level = 0; nodes = f }) (fun_ext none)
  where
    same : (n : ℕ) (b : Bool) → (if b then n else n) ≡ n
    same n true = refl
    same n false = refl

    none : (l : ℕ) → node_in [] l ≡ 0
    none l = same 0 (l == 0)

eq_comm : (m n : ℕ) → (m == n) ≡ (n == m)
eq_comm m n = by (m == n) refl (n == m) refl
  where
    by : (a : Bool) → (m == n) ≡ a → (b : Bool) → (n == m) ≡ b → a ≡ b
    by true e true f = refl
    by false e false f = refl
    by true e false f = let x : m ≡ n = grind (arith, nat_tests, e) in let y : (n == m) ≡ true = grind (arith, nat_tests, x) in sym y ∙ f
    by false e true f = let x : n ≡ m = grind (arith, nat_tests, f) in let y : (m == n) ≡ true = grind (arith, nat_tests, x) in sym e ∙ y

module _ (x : PlanText) (nodes : List ℕ) (node : ℕ) where
  abbrev here : ℕ
  here = node_here nodes

  abbrev first : ℕ
  first = (node_at (nodes_of x) here).first_child

  -- the body of a scope stands where the code takes it
  pub inside_is : inside x (env_of nodes) node ≡ env_of (inside_nodes x nodes node)
  inside_is = by (here == node) refl (node == here) refl
    where
      by : (a : Bool) → (here == node) ≡ a → (b : Bool) → (node == here) ≡ b
          → inside_of (setting_of (plan_of x)) (env_of nodes) (if a then None else Some (constant (node - first))) ≡ env_of (if b then nodes else nodes ++ first_or first node ∷ [])
      by true e true f = refl
      by false e false f =
          ap (λ c. record { turns = []; level = suc (length nodes); nodes = λ l. if l == suc (length nodes) then first + c else node_in nodes l }) (counted (setting_of (plan_of x)) (node - first) (env_of nodes))
          ∙ (ap (λ c. record { turns = []; level = suc (length nodes); nodes = λ l. if l == suc (length nodes) then c else node_in nodes l }) (first_is first node) ∙ env_child nodes (first_or first node))
      by true e false f = let g : true ≡ false = sym e ∙ eq_comm here node ∙ f in absurd (cc)
      by false e true f = let g : false ≡ true = sym e ∙ eq_comm here node ∙ f in absurd (cc)

  pub level_inside : (inside x (env_of nodes) node).level ≡ level_within nodes node
  level_inside = ap (λ (e : Env). e.level) inside_is ∙ by (node == here)
    where
      by : (b : Bool) → length (if b then nodes else nodes ++ first_or first node ∷ []) ≡ (if b then length nodes else length nodes + 1)
      by true = refl
      by false = append_length nodes (first_or first node) ∙ omega arith

  -- ---- scopes

  at_there : (bs : List BufferLine) (level b : ℕ) → option_map_or (λ (l : BufferLine). nat_eq l.level level) (slice_get bs b) false ≡ true → (b < length (map buffer_of bs)) × (of_buffer (map buffer_of bs) (λ b. b.level) b ≡ level)
  at_there [] level b h = cc
  at_there (l ∷ bs) level zero h = (omega arith, grind (arith, nat_tests, h))
  at_there (l ∷ bs) level (suc b) h = let r = at_there bs level b h in (omega (arith, r.0), r.1)

  there_at : (bs : List BufferLine) (level b : ℕ) → b < length (map buffer_of bs) → of_buffer (map buffer_of bs) (λ b. b.level) b ≡ level → option_map_or (λ (l : BufferLine). nat_eq l.level level) (slice_get bs b) false ≡ true
  there_at [] level b l e = absurd (omega (arith, l))
  there_at (l ∷ bs) level zero lt e = grind (arith, nat_tests, e)
  there_at (l ∷ bs) level (suc b) lt e = there_at bs level b (omega (arith, lt)) e

  named_at : (level : ℕ) (bs : List ℕ) → are_at x level bs ≡ true → All (IsBuffer (setting_of (plan_of x)) level) bs
  named_at level [] h k d lt = absurd (omega (arith, lt))
  named_at level (b ∷ bs) h zero d lt = let p = and_both (is_at x level b) (are_at x level bs) h in let r = at_there x.buffers level b p.0 in record { there = r.0; level = r.1 }
  named_at level (b ∷ bs) h (suc k) d lt = let p = and_both (is_at x level b) (are_at x level bs) h in named_at level bs p.1 k d (omega (arith, lt))

  at_named : (level : ℕ) (bs : List ℕ) → All (IsBuffer (setting_of (plan_of x)) level) bs → are_at x level bs ≡ true
  at_named level [] h = refl
  at_named level (b ∷ bs) h = let f = h 0 b (omega arith) in both_and (is_at x level b) (are_at x level bs) (there_at x.buffers level b f.there f.level) (at_named level bs (λ k d l. h (suc k) d (omega (arith, l))))

  abbrev children : ℕ
  children = (node_at (nodes_of x) here).children

  abbrev At : Type 0
  At = (node ≡ here) ⊎ ((first ≤ node) × (node < first + children))

  told_at : (node == here || is_child x here node) ≡ true → At
  told_at h = by (or_either (node == here) (is_child x here node) h)
    where
      by : ((node == here) ≡ true) ⊎ (is_child x here node ≡ true) → At
      by (inl e) = inl (grind (arith, nat_tests, e))
      by (inr c) =
          let p = and_both (nat_le first node) (nat_lt (node - first) children) c in
          let a : first ≤ node = grind (arith, nat_tests, p.0) in
          let b : node - first < children = grind (arith, nat_tests, p.1) in
          inr (a, omega (arith, a, b))

  at_told : At → (node == here || is_child x here node) ≡ true
  at_told (inl e) = or_left (node == here) (is_child x here node) (grind (arith, nat_tests, e))
  at_told (inr (a, b)) =
      let c : node - first < children = omega (arith, a, b) in
      or_right (node == here) (is_child x here node) (both_and (nat_le first node) (nat_lt (node - first) children) (grind (arith, nat_tests, a)) (grind (arith, nat_tests, c)))

  pub scope_decides : (buffers : List ℕ) (told : Bool) → told ≡ is_scope x nodes node buffers → Decides told (IsScope x (env_of nodes) node buffers)
  scope_decides buffers told e = decides told (IsScope x (env_of nodes) node buffers) yes back
    where
      yes : told ≡ true → IsScope x (env_of nodes) node buffers
      yes h =
          let p = and_both (node == here || is_child x here node) (are_at x (level_within nodes node) buffers) (sym e ∙ h) in
          record { at = told_at p.0; names = subst (λ l. All (IsBuffer (setting_of (plan_of x)) l) buffers) (sym level_inside) (named_at (level_within nodes node) buffers p.1) }

      back : IsScope x (env_of nodes) node buffers → told ≡ true
      back s = e ∙ both_and (node == here || is_child x here node) (are_at x (level_within nodes node) buffers) (at_told s.at)
          (at_named (level_within nodes node) buffers (subst (λ l. All (IsBuffer (setting_of (plan_of x)) l) buffers) level_inside s.names))

-- ---- what is in scope

pub has_append : (bs cs : List ℕ) (b : ℕ) → has (bs ++ cs) b ≡ (has bs b || has cs b)
has_append [] cs b = refl
has_append (c ∷ bs) cs b = ap (λ z. nat_eq c b || z) (has_append bs cs b) ∙ assoc (nat_eq c b) (has bs b) (has cs b)
  where
    assoc : (u v w : Bool) → (u || (v || w)) ≡ ((u || v) || w)
    assoc true v w = refl
    assoc false v w = refl

or_comm : (u v : Bool) → (u || v) ≡ (v || u)
or_comm true true = refl
or_comm true false = refl
or_comm false true = refl
or_comm false false = refl

pub same_within : (bs cs names : List ℕ) → HaveSame bs cs → HaveSame (bs ++ names) (names ++ cs)
same_within bs cs names h = record { same = λ b. has_append bs names b ∙ (ap (λ u. u || has names b) (h.same b) ∙ (or_comm (has cs b) (has names b) ∙ sym (has_append names cs b))) }

pub same_self : (bs : List ℕ) → HaveSame bs bs
same_self bs = record { same = λ b. refl }

same_back : (bs cs : List ℕ) → HaveSame bs cs → HaveSame cs bs
same_back bs cs h = record { same = λ b. sym (h.same b) }

pub has_contains : (bs : List ℕ) (b : ℕ) → has bs b ≡ true → Contains bs b
has_contains [] b h = cc
has_contains (c ∷ bs) b h = by (or_either (nat_eq c b) (has bs b) h) (has_contains bs b)
  where
    by : (nat_eq c b ≡ true) ⊎ (has bs b ≡ true) → (has bs b ≡ true → Contains bs b) → Contains (c ∷ bs) b
    by (inl e) f = (0, omega arith, grind (arith, nat_tests, e))
    by (inr i) f = let r = f i in (suc r.0, omega (arith, r.1), r.2)

pub contains_has : (bs : List ℕ) (b : ℕ) → Contains bs b → has bs b ≡ true
contains_has [] b (i, l, e) = absurd (omega (arith, l))
contains_has (c ∷ bs) b (zero, l, e) = or_left (nat_eq c b) (has bs b) (grind (arith, nat_tests, e))
contains_has (c ∷ bs) b (suc i, l, e) = or_right (nat_eq c b) (has bs b) (contains_has bs b (i, omega (arith, l), e))

pub contains_same : (bs cs : List ℕ) (b : ℕ) → HaveSame bs cs → Contains bs b → Contains cs b
contains_same bs cs b h c = has_contains cs b (sym (h.same b) ∙ contains_has bs b c)
