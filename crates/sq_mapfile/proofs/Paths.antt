-- Routes of the mapping are calls of the text, so that a path of routes back to its start is a cycle of calls.
use Rattle.std.proofs.Common.{◌≡◌, ℕ, zero, suc, ◌+◌, ◌^◌, ◌<◌, Bool, false, if◌then◌else◌, inl, inr, List, [], ◌∷◌, map, length, Option, Some, refl, sym, ◌∙◌, ap, subst, arith}
use Rattle.std.specs.List.{slice_get}
use Rattle.sq_text.specs.declared.code.Code.TheVariants as code
use Rattle.sq_text.specs.declared.fault.Fault.{Fault}
use Rattle.sq_text.specs.First.{HoldsIn}
use Rattle.sq_machfile.specs.declared.level.Level.{Level}
use Rattle.sq_text.specs.declared.word.Word.{Word}
use Rattle.sq_ast.specs.declared.program.Program.{Program}
use Rattle.sq_mapping.specs.declared.mapping.Route.{Route}
use Rattle.sq_mapping.specs.declared.mapping.Instance.{Instance}
use Rattle.sq_mapfile.specs.declared.text.ItemText.{ItemText}
use Rattle.sq_mapfile.specs.declared.text.ItemText.TheVariants.{Call, Tunable, Spread}
use Rattle.sq_mapfile.specs.declared.text.InstanceText.{InstanceText}
use Rattle.sq_mapfile.specs.declared.text.MappingText.{MappingText}
use Rattle.sq_mapfile.specs.Names.{stands_before, index_of, call_index}
use Rattle.sq_mapfile.specs.Faults.{Scope, Inside, inside, scope}
use Rattle.sq_mapfile.specs.Cycles.{CallText, Calls, Leads, here, further, IsOnCycle, CycleFault, cycle_at}
use Rattle.sq_mapfile.specs.Graph.{call_to, items_calls, calls_from, gathered}
use Rattle.sq_mapfile.proofs.Listed.{gathered_listed}
use Rattle.sq_mapfile.specs.Resolving.{or_zero, routes_of, instance_with}
use Rattle.sq_mapping.specs.Sound as sound
use Rattle.sq_mapping.specs.Sound.{LeadsTo}
use Rattle.sq_mapfile.proofs.Kept.{unbroken, ItemsKeep, InstancesKeep}
use Rattle.sq_mapfile.proofs.Resolved.{instance_index}

-- ---- calls of an instance

behind : {c : CallText} {calls : List CallText} {a b : ℕ} → Calls calls a b → Calls (c ∷ calls) a b
behind h = record { index = suc h.index; call = h.call; there = h.there; caller = h.caller; callee = h.callee }

-- past an item of a name that none before it has
past : (again other : List CallText) (is_again : Bool) {a b : ℕ} → is_again ≡ false → Calls other a b → Calls (if is_again then again else other) a b
past again other is_again e h = rw e h

abbrev call_text : ℕ → ℕ → Word → CallText
call_text i callee name = record { caller = i; callee = callee; name = name }

past_call : (again later : List CallText) (i callee : ℕ) (index : Option ℕ) (name : Word) (is_again : Bool) {a b : ℕ} → is_again ≡ false → index ≡ Some callee
    → Calls (call_text i callee name ∷ later) a b → Calls (if is_again then again else call_to i index name later) a b
past_call again later i callee index name is_again fresh e h = rw fresh (rw e h)

module _ (n : Inside) (fit : length n.scope.instances < 2 ^ 32) (i : ℕ) (later : List CallText) where
  abbrev item_list : ℕ → List ItemText → List CallText
  item_list k items = items_calls n.scope.instances i n.items k items later

  calls_later : (k : ℕ) (items : List ItemText) {a b : ℕ} → ItemsKeep n k items → Calls later a b → Calls (item_list k items) a b
  calls_later k [] h c = c
  calls_later k (Tunable name values ∷ rest) h c = calls_later (suc k) rest h.1 c
  calls_later k (Spread word rule ∷ rest) h c = calls_later (suc k) rest h.1 c
  calls_later k (Call task name ∷ rest) h c =
      let index = index_of n.scope.instances name.name in
      past_call (item_list (suc k) rest) (item_list (suc k) rest) i (or_zero index) index name (stands_before (call_index n.items task.name) k)
      (unbroken code.DupItem task (stands_before (call_index n.items task.name) k) h.0.again) (instance_index n.scope.instances name fit h.0.there)
      (behind (calls_later (suc k) rest h.1 c))

  calls_there : (k : ℕ) (items : List ItemText) → ItemsKeep n k items → (j : ℕ) (route : Route) → slice_get (routes_of n.scope.instances items) j ≡ Some route
      → Calls (item_list k items) i route.instance
  calls_there k [] h j route at = absurd (cc)
  calls_there k (Tunable name values ∷ rest) h j route at = calls_there (suc k) rest h.1 j route at
  calls_there k (Spread word rule ∷ rest) h j route at = calls_there (suc k) rest h.1 j route at
  calls_there k (Call task name ∷ rest) h zero route at =
      let index = index_of n.scope.instances name.name in
      let the_route : Route = record { task = task.name; instance = or_zero index } in
      let is : the_route ≡ route = cc in
      past_call (item_list (suc k) rest) (item_list (suc k) rest) i (or_zero index) index name (stands_before (call_index n.items task.name) k)
      (unbroken code.DupItem task (stands_before (call_index n.items task.name) k) h.0.again) (instance_index n.scope.instances name fit h.0.there)
      (record { index = 0; call = call_text i (or_zero index) name; there = refl; caller = refl; callee = ap (λ (r : Route). r.instance) is })
  calls_there k (Call task name ∷ rest) h (suc j) route at =
      let index = index_of n.scope.instances name.name in
      past_call (item_list (suc k) rest) (item_list (suc k) rest) i (or_zero index) index name (stands_before (call_index n.items task.name) k)
      (unbroken code.DupItem task (stands_before (call_index n.items task.name) k) h.0.again) (instance_index n.scope.instances name fit h.0.there)
      (behind (calls_there (suc k) rest h.1 j route at))

-- ---- calls of all instances

all_calls : (s : Scope) (i : ℕ) (xs : List InstanceText) → length s.instances < 2 ^ 32 → InstancesKeep s i xs
    → (k : ℕ) (caller : Instance) → slice_get (map (instance_with s.levels s.instances) xs) k ≡ Some caller → (j : ℕ) (route : Route) → slice_get caller.routes j ≡ Some route
    → (a : ℕ) → a ≡ i + k → Calls (calls_from s.instances i xs) a route.instance
all_calls s i [] fit h k caller at j route among a e = absurd (cc)
all_calls s i (x ∷ rest) fit h zero caller at j route among a e =
    let later = calls_from s.instances (suc i) rest in
    let fresh = unbroken code.DupInstance x.name (stands_before (index_of s.instances x.name.name) i) h.0.again in
    let is : instance_with s.levels s.instances x ≡ caller = cc in
    let there = ap (λ (c : Instance). slice_get c.routes j) is ∙ among in
    let found = calls_there (inside s x) fit i later 0 x.items h.0.items j route there in
    let same_at : i ≡ a = omega (arith, e) in
    let calls = items_calls s.instances i x.items 0 x.items later in
    past later calls (stands_before (index_of s.instances x.name.name) i) fresh (subst (λ a. Calls calls a route.instance) same_at found)
all_calls s i (x ∷ rest) fit h (suc k) caller at j route among a e =
    let later = calls_from s.instances (suc i) rest in
    let fresh = unbroken code.DupInstance x.name (stands_before (index_of s.instances x.name.name) i) h.0.again in
    let more = all_calls s (suc i) rest fit h.1 k caller at j route among a (omega (arith, e)) in
    past later (items_calls s.instances i x.items 0 x.items later) (stands_before (index_of s.instances x.name.name) i) fresh
    (calls_later (inside s x) fit i later 0 x.items h.0.items more)

-- ---- paths

holds_at : {S F : Type 0} (At : S → F → Type 0) (sites : List S) (k : ℕ) (site : S) (f : F) → slice_get sites k ≡ Some site → At site f → HoldsIn At sites f
holds_at At [] k site f at h = absurd (cc)
holds_at At (first ∷ rest) zero site f at h = let is : first ≡ site = cc in inl (subst (λ s. At s f) (sym is) h)
holds_at At (first ∷ rest) (suc k) site f at h = inr (holds_at At rest k site f at h)

closed : (calls : List CallText) (a b : ℕ) → Leads calls a b → Calls calls b a → ((f : Fault) → HoldsIn (IsOnCycle calls) calls f → ⊥) → ⊥
closed calls a b path c none =
    let fault = cycle_at c.call in
    let back = subst (λ x. Leads calls x c.call.caller) (sym c.callee) (subst (λ y. Leads calls a y) (sym c.caller) path) in
    none fault (holds_at (IsOnCycle calls) calls c.index c.call fault c.there (record { back = back; is = refl }))

module _ (program : Program) (levels : List Level) (m : MappingText) (fit : length m.instances < 2 ^ 32) (kept : InstancesKeep (scope program levels m) 0 m.instances) where
  call_of : (a b : ℕ) → sound.Calls (map (instance_with levels m.instances) m.instances) a b → Calls (gathered m.instances) a b
  call_of a b c =
      let found = all_calls (scope program levels m) 0 m.instances fit kept a c.caller c.there c.index c.route c.among a (omega arith) in
      subst (λ b. Calls (gathered m.instances) a b) c.to found

  leads_of : (a b : ℕ) → LeadsTo (map (instance_with levels m.instances) m.instances) a b → Leads (gathered m.instances) a b
  leads_of a b (sound.by_call c) = further here (call_of a b c)
  leads_of a b (sound.further {b = between} p c) = further (leads_of a between p) (call_of between b c)

  -- the same of what is gathered
  none_gathered : ((f : Fault) → CycleFault m f → ⊥) → (f : Fault) → HoldsIn (IsOnCycle (gathered m.instances)) (gathered m.instances) f → ⊥
  none_gathered none f h = none f (subst (λ calls. HoldsIn (IsOnCycle calls) calls f) (gathered_listed m.instances) h)

  pub no_cycle : ((f : Fault) → CycleFault m f → ⊥) → (a : ℕ) → LeadsTo (map (instance_with levels m.instances) m.instances) a a → ⊥
  no_cycle none a (sound.by_call c) = closed (gathered m.instances) a a here (call_of a a c) (none_gathered none)
  no_cycle none a (sound.further {b = between} p c) = closed (gathered m.instances) a between (leads_of a between p) (call_of between a c) (none_gathered none)
