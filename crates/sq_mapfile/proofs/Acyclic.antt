-- A text whose mapping calls nothing in a circle has no call on a cycle.
use Rattle.std.proofs.Common.{◌≡◌, ℕ, zero, suc, ◌+◌, Bool, true, false, if◌then◌else◌, inl, inr, List, [], ◌∷◌, Option, Some, None, refl, sym, ◌∙◌, ap, subst, arith}
use Rattle.std.specs.List.{slice_get}
use Rattle.sq_text.specs.declared.fault.Fault.{Fault}
use Rattle.sq_text.specs.declared.word.Word.{Word}
use Rattle.sq_text.specs.First.{HoldsIn}
use Rattle.sq_machfile.specs.declared.level.Level.{Level}
use Rattle.sq_mapping.specs.declared.mapping.Mapping.{Mapping}
use Rattle.sq_mapfile.specs.declared.text.ItemText.{ItemText}
use Rattle.sq_mapfile.specs.declared.text.ItemText.TheVariants.{Tunable, Call, Spread}
use Rattle.sq_mapfile.specs.declared.text.InstanceText.{InstanceText}
use Rattle.sq_mapfile.specs.declared.text.MappingText.{MappingText}
use Rattle.sq_mapfile.specs.Names.{stands_before, index_of, call_index}
use Rattle.sq_mapfile.specs.Cycles.{CallText, Calls, Leads, here, further, IsOnCycle, CycleFault}
use Rattle.sq_mapfile.specs.Graph.{call_to, items_calls, calls_from, gathered}
use Rattle.sq_mapfile.proofs.Listed.{gathered_listed}
use Rattle.sq_mapfile.specs.Mappings.{Resolves}
use Rattle.sq_mapping.specs.Sound as sound
use Rattle.sq_mapping.specs.Sound.{LeadsTo}
use Rattle.sq_mapfile.proofs.Converse.{made_at, route_at}

-- where a call comes from: an item, or what stands behind
data Origin (instances : List InstanceText) (caller : ℕ) (items : List ItemText) (later : List CallText) (c : CallText) : Type 0 where
  of_item : (k : ℕ) (task name : Word) → slice_get items k ≡ Some (Call task name) → index_of instances name.name ≡ Some c.callee → c.caller ≡ caller → Origin instances caller items later c
  of_later : (j : ℕ) → slice_get later j ≡ Some c → Origin instances caller items later c

one_on : {instances : List InstanceText} {caller : ℕ} {rest : List ItemText} {later : List CallText} {c : CallText} (y : ItemText)
    → Origin instances caller rest later c → Origin instances caller (y ∷ rest) later c
one_on y (of_item k task name there to is) = of_item (suc k) task name there to is
one_on y (of_later j there) = of_later j there

abbrev call_text : ℕ → ℕ → Word → CallText
call_text i callee name = record { caller = i; callee = callee; name = name }

origin : (instances : List InstanceText) (caller : ℕ) (items : List ItemText) (k : ℕ) (rest : List ItemText) (later : List CallText) (j : ℕ) (c : CallText)
    → slice_get (items_calls instances caller items k rest later) j ≡ Some c → Origin instances caller rest later c
origin instances caller items k [] later j c h = of_later j h
origin instances caller items k (Tunable name values ∷ rest) later j c h = one_on (Tunable name values) (origin instances caller items (suc k) rest later j c h)
origin instances caller items k (Spread word rule ∷ rest) later j c h = one_on (Spread word rule) (origin instances caller items (suc k) rest later j c h)
origin instances caller items k (Call task name ∷ rest) later j c h =
    go (λ j h. one_on (Call task name) (origin instances caller items (suc k) rest later j c h)) (stands_before (call_index items task.name) k) (index_of instances name.name) refl j h
  where
    go : ((j : ℕ) → slice_get (items_calls instances caller items (suc k) rest later) j ≡ Some c → Origin instances caller (Call task name ∷ rest) later c) → (b : Bool) (o : Option ℕ) → index_of instances name.name ≡ o
        → (j : ℕ) → slice_get (if b then items_calls instances caller items (suc k) rest later else call_to caller o name (items_calls instances caller items (suc k) rest later)) j ≡ Some c → Origin instances caller (Call task name ∷ rest) later c
    go again true o e j h = again j h
    go again false None e j h = again j h
    go again false (Some callee) e zero h =
        let is : call_text caller callee name ≡ c = cc in
        of_item 0 task name refl (e ∙ ap (λ (c : CallText). Some c.callee) is) (sym (ap (λ (c : CallText). c.caller) is))
    go again false (Some callee) e (suc j) h = again j h

-- the instance and the item that a call is of
record OfInstance (instances : List InstanceText) (i : ℕ) (xs : List InstanceText) (c : CallText) : Type 0 where
  index : ℕ
  text : InstanceText
  there : slice_get xs index ≡ Some text
  caller : c.caller ≡ i + index
  item : ℕ
  task : Word
  name : Word
  item_there : slice_get text.items item ≡ Some (Call task name)
  to : index_of instances name.name ≡ Some c.callee

all_of : (instances : List InstanceText) (i : ℕ) (xs : List InstanceText) (j : ℕ) (c : CallText) → slice_get (calls_from instances i xs) j ≡ Some c → OfInstance instances i xs c
all_of instances i [] j c h = absurd (cc)
all_of instances i (x ∷ rest) j c h = go (λ j h. shift (all_of instances (suc i) rest j c h)) (stands_before (index_of instances x.name.name) i) h
  where
    shift : OfInstance instances (suc i) rest c → OfInstance instances i (x ∷ rest) c
    shift o = record { index = suc o.index; text = o.text; there = o.there; caller = let e = o.caller in omega (arith, e); item = o.item; task = o.task; name = o.name; item_there = o.item_there; to = o.to }

    from : ((j : ℕ) → slice_get (calls_from instances (suc i) rest) j ≡ Some c → OfInstance instances i (x ∷ rest) c) → Origin instances i x.items (calls_from instances (suc i) rest) c → OfInstance instances i (x ∷ rest) c
    from again (of_item k task name there to is) =
        record { index = 0; text = x; there = refl; caller = omega (arith, is); item = k; task = task; name = name; item_there = there; to = to }
    from again (of_later j there) = again j there

    go : ((j : ℕ) → slice_get (calls_from instances (suc i) rest) j ≡ Some c → OfInstance instances i (x ∷ rest) c) → (b : Bool)
        → slice_get (if b then calls_from instances (suc i) rest else items_calls instances i x.items 0 x.items (calls_from instances (suc i) rest)) j ≡ Some c → OfInstance instances i (x ∷ rest) c
    go again true h = again j h
    go again false h = from again (origin instances i x.items 0 x.items (calls_from instances (suc i) rest) j c h)

record HeldAt {S : Type 0} (At : S → Fault → Type 0) (sites : List S) (f : Fault) : Type 0 where
  index : ℕ
  site : S
  there : slice_get sites index ≡ Some site
  holds : At site f

held_at : {S : Type 0} (At : S → Fault → Type 0) (sites : List S) (f : Fault) → HoldsIn At sites f → HeldAt At sites f
held_at At [] f h = absurd h
held_at At (s ∷ sites) f (inl h) = record { index = 0; site = s; there = refl; holds = h }
held_at At (s ∷ sites) f (inr h) = let r = held_at At sites f h in record { index = suc r.index; site = r.site; there = r.there; holds = r.holds }

module _ (levels : List Level) (m : MappingText) (mapping : Mapping) (resolves : Resolves levels m mapping) where
  call_of : (a b : ℕ) → Calls (gathered m.instances) a b → sound.Calls mapping.instances a b
  call_of a b c =
      let o = all_of m.instances 0 m.instances c.index c.call c.there in
      let made = made_at resolves.instances o.index o.text o.there in
      let to = route_at made.is.routes o.item o.task o.name o.item_there in
      let caller : o.index ≡ a = let e = o.caller in let f = c.caller in omega (arith, e, f) in
      let same_index : Some to.route.instance ≡ Some c.call.callee = sym to.to ∙ o.to in
      let callee : to.route.instance ≡ b = cc in
      record {
        caller = made.instance;
        there = ap (slice_get mapping.instances) (sym caller) ∙ made.there;
        index = to.index;
        route = to.route;
        among = to.there;
        to = callee;
      }

  go_on : (a b c : ℕ) → LeadsTo mapping.instances a b → Leads (gathered m.instances) b c → LeadsTo mapping.instances a c
  go_on a b c p here = p
  go_on a b c p (further {b = between} q call) = sound.further (go_on a b between p q) (call_of between c call)

  pub no_cycle_fault : ((a : ℕ) → LeadsTo mapping.instances a a → ⊥) → (g : Fault) → CycleFault m g → ⊥
  no_cycle_fault none g h =
      let at = held_at (IsOnCycle (gathered m.instances)) (gathered m.instances) g (subst (λ calls. HoldsIn (IsOnCycle calls) calls g) (sym (gathered_listed m.instances)) h) in
      let call = call_of at.site.caller at.site.callee (record { index = at.index; call = at.site; there = at.there; caller = refl; callee = refl }) in
      none at.site.caller (go_on at.site.caller at.site.callee at.site.caller (sound.by_call call) at.holds.back)
