-- What is given of the plan of a program, and what its runs do.
use Rattle.std.proofs.Common.{◌≡◌, ℕ, zero, suc, ◌<◌, ◌≤◌, List, [], ◌∷◌, length, map, take, get_or, Some}
use Rattle.std.proofs.Common.{refl, sym, ap, ◌∙◌, subst, Result, replicate}
use Rattle.std.specs.Prelude.{slice_get}
use Rattle.sq_leaf.specs.declared.shape.Shape.{Shape}
use Rattle.sq_leaf.specs.declared.trap.Trap.{Trap}
use Rattle.sq_leaf.specs.Source.{Arrays}
use Rattle.sq_spec.specs.declared.resolved.Resolved.{Resolved}
use Rattle.sq_spec.specs.Works.{flat}
use Rattle.sq_ir.specs.Runs.{State, exec}
use Rattle.sq_ir.specs.Events.{Bytes, Event, meaning}
use Rattle.sq_ir.specs.Scopes.{Scope}
use Rattle.sq_ir.specs.Plans.{setting_of, tree_of, node_at, placed, HaveRoom}
use Rattle.sq_ir.specs.PlanLaws.{EndByForm, HaveRuns, Ends}
use Rattle.sq_ir.specs.declared.plan.Buffer.{Buffer}
use Rattle.sq_ir.specs.declared.plan.Plan.{Plan}
use Rattle.sq_ir.specs.declared.plan.PlanNode.{PlanNode}
use Rattle.sq_tree.specs.declared.runs.RunEnd.{RunEnd}
use Rattle.sq_tree.specs.Bank.{BankSeen, bytes_at, bytes_in, leaves_in, IsPrepared}
use Rattle.sq_tree.specs.Runs.{TellsFirst}
use Rattle.sq_root.specs.Places.{Fits}
use Rattle.sq_plan_laws.specs.Codes as codes
use Rattle.sq_plan_laws.specs.Entry.{EndsSo}
use Rattle.sq_plan_good.specs.Homes.Chosen.Forms.{bodies_of}
use Rattle.sq_plan_good.specs.Homes.Drafts.{args_of, buffers_of, entry_of, IsDraftOf}
use Rattle.sq_plan_good.specs.Term.Terms.{body_in}
use Rattle.sq_plan_good.specs.Homes.Chosen.declared.choice.Choice.{Choice}
use Rattle.sq_plan_good.specs.DraftLaws.Choosing.{MayBeChosen}
use Rattle.sq_plan_good.specs.DraftLaws.HomesFit.{EntriesAreWhole}
use Rattle.sq_plan_good.specs.DraftLaws.Owned.{DraftsOwn}
use Rattle.sq_plan_good.specs.DraftLaws.Opened.{WalkedIsThere}
use Rattle.sq_plan_good.specs.Good.{shapes_in, IsInput}
use Rattle.sq_plan_good.specs.Planned.{IsGoodPlan}
use Rattle.sq_meant.specs.Places.{shapes_of, places_of}
use Rattle.sq_meant.specs.Ends.{stored_in, EndsOnBank}
use Rattle.sq_meant.specs.Laws.{HasPlaces, PlacesFit, BanksHavePlaces, InputsAreHeld, RunsEndAsMeant}
use Rattle.sq_meant.proofs.Fitting.{some_bytes, many_placed, AreHoused, housed_fit}
use Rattle.sq_meant.proofs.Holding.{from_parts}
use Rattle.sq_meant.proofs.Ends.{ends_on_bank}
use Rattle.sq_meant.proofs.Shapes.{shapes_agree}

-- the shapes that plans speak of are those that arrays are stored in
agree : WalkedIsThere → (r : Resolved) → shapes_in r ≡ shapes_of r
agree walked r = shapes_agree r (walked r)

-- ---- places

-- in the front of a list stands what stands in the list
in_front : {A : Type 0} (n : ℕ) (xs : List A) (i : ℕ) (x : A) → slice_get (take n xs) i ≡ Some x
    → slice_get xs i ≡ Some x
in_front zero xs i x h = absurd (cc h)
in_front (suc n) [] i x h = absurd (cc h)
in_front (suc n) (y ∷ xs) zero x h = h
in_front (suc n) (y ∷ xs) (suc i) x h = in_front n xs i x h

-- what is known of the buffers of the entry's arrays
record OwnBuffers (buffers : List Buffer) (entry : List ℕ) (shapes : List Shape) (nodes : List PlanNode)
    (offset : ℕ → ℕ) : Type 0 where
  many : length entry ≡ length shapes
  distinct : (i j b : ℕ) → slice_get entry i ≡ Some b → slice_get entry j ≡ Some b → i ≡ j
  sizes : (i b : ℕ) (sh : Shape) → slice_get entry i ≡ Some b → slice_get shapes i ≡ Some sh
      → codes.bytes_in sh ≤ (placed buffers nodes offset).size b

module _ (walked : WalkedIsThere) (whole : EntriesAreWhole) (own : DraftsOwn)
    (r : Resolved) (p : Plan) (choices : List Choice) (may : MayBeChosen r choices) (its : IsDraftOf r choices p.draft)
    (room : HaveRoom (setting_of p) (record { node = 0; buffers = p.draft.entry } ∷ [])) where
  abbrev offset : ℕ → ℕ
  offset b = get_or p.offsets b 0

  drawn : OwnBuffers (buffers_of r choices) (entry_of r choices) (shapes_in r) p.nodes offset
  drawn =
      let e = (own r (walked r) choices may p.nodes offset).entry in
      record { many = e.many; distinct = e.distinct; sizes = e.sizes }

  of_entry : OwnBuffers (buffers_of r choices) p.draft.entry (shapes_in r) p.nodes offset
  of_entry = subst (λ (es : List ℕ). OwnBuffers (buffers_of r choices) es (shapes_in r) p.nodes offset)
      (sym its.entry) drawn

  of_plan : OwnBuffers p.draft.buffers p.draft.entry (shapes_in r) p.nodes offset
  of_plan = subst (λ (bs : List Buffer). OwnBuffers bs p.draft.entry (shapes_in r) p.nodes offset)
      (sym its.buffers) of_entry

  some : (i : ℕ) (sh : Shape) → slice_get (shapes_in r) i ≡ Some sh → 0 < codes.bytes_in sh
  some i sh e =
      some_bytes sh ((whole r (walked r) choices may).some i sh
      (in_front (length (args_of r)) (body_in (bodies_of r) 0).arrays i sh e))

  housed_in : AreHoused p (shapes_in r)
  housed_in = record { many = of_plan.many; distinct = of_plan.distinct; sizes = of_plan.sizes; some = some }

  housed : AreHoused p (shapes_of r)
  housed = subst (AreHoused p) (agree walked r) housed_in

  pub has_places : HasPlaces r p
  has_places = record {
    buffers = housed.many;
    many = many_placed p p.draft.entry (shapes_of r) housed.many;
    fit = housed_fit p (shapes_of r) housed room;
  }

pub places_fit : WalkedIsThere → EntriesAreWhole → DraftsOwn → PlacesFit
places_fit walked whole own r p its = has_places walked whole own r p _ its.may its.its its.placed.room.entry

-- the first of the nodes has its capacity
first_capacity : (xs : List (List ℕ)) (ns : List PlanNode) → map length xs ≡ map (λ (n : PlanNode). n.capacity) ns
    → length (bytes_at xs 0) ≡ (node_at ns 0).capacity
first_capacity [] [] e = refl
first_capacity [] (n ∷ ns) e = absurd (cc e)
first_capacity (x ∷ xs) [] e = absurd (cc e)
first_capacity (x ∷ xs) (n ∷ ns) e = cc e

pub banks_have_places : WalkedIsThere → EntriesAreWhole → DraftsOwn → BanksHavePlaces
banks_have_places walked whole own r p seen its prepared =
    subst (Fits (places_of p (shapes_of r))) (sym (first_capacity seen.nodes p.nodes prepared.sizes))
    (places_fit walked whole own r p its).fit

-- ---- inputs

pub inputs_are_held : WalkedIsThere → InputsAreHeld
inputs_are_held walked r p a nodes many fit holds = record {
  read = λ n x sh cs arg reads there inner.
      from_parts p (shapes_of r) nodes many fit a holds n sh cs
      (ap (λ (l : List Shape). slice_get l n) (sym (agree walked r)) ∙ there) inner;
}

-- ---- runs

-- the first of some lists, by the lengths of all
first_size : (xs ys : List (List ℕ)) → map length xs ≡ map length ys → length (bytes_at xs 0) ≡ length (bytes_at ys 0)
first_size [] [] e = refl
first_size [] (y ∷ ys) e = absurd (cc e)
first_size (x ∷ xs) [] e = absurd (cc e)
first_size (x ∷ xs) (y ∷ ys) e = cc e

module _ (walked : WalkedIsThere) (whole : EntriesAreWhole) (own : DraftsOwn)
    (have : HaveRuns Trap)
    (by_form : EndByForm Trap) (r : Resolved) (p : Plan) (good : IsGoodPlan r p)
    (a : Arrays) (old now : BankSeen) where
  abbrev m : Bytes
  m = bytes_in old.nodes

  stand : HasPlaces r p
  stand = has_places walked whole own r p _ good.may good.draft_ good.good.entry

  ends : IsInput r p a m → (result : Result (Unit {0}) RunEnd)
      → (zeros : ℕ) (events : List Event) (last : State Event Scope Bytes Trap)
      → Ends (leaves_in p) p m (replicate zeros 0) events last
      → TellsFirst p m (bytes_in now.nodes) result
      → Fits (places_of p (shapes_of r)) (length (bytes_at now.nodes 0))
      → EndsOnBank (shapes_of r) (stored_in p (shapes_of r) now) result (flat r.typed.now r.mapping.now a)
  ends input result zeros events last over tells fit =
      ends_on_bank p (shapes_of r) now stand.buffers fit result (flat r.typed.now r.mapping.now a) last
      (exec (meaning (leaves_in p)) (tree_of p) m)
      (by_form (leaves_in p) p m good.good (replicate zeros 0) events last over)
      (subst (λ (shapes : List Shape). EndsSo (setting_of p) shapes p.draft.entry (flat r.typed.now r.mapping.now a)
      (exec (meaning (leaves_in p)) (tree_of p) m)) (agree walked r) (good.ends a m input))
      (tells.tells last (record { zeros = zeros; events = events; ends = over }))

  pub run_ends : IsPrepared p old → map length now.nodes ≡ map length old.nodes → IsInput r p a m
      → (result : Result (Unit {0}) RunEnd) → TellsFirst p m (bytes_in now.nodes) result
      → EndsOnBank (shapes_of r) (stored_in p (shapes_of r) now) result (flat r.typed.now r.mapping.now a)
  run_ends prepared sizes input result tells =
      let long : length (bytes_at now.nodes 0) ≡ (node_at p.nodes 0).capacity
      = first_size now.nodes old.nodes sizes ∙ first_capacity old.nodes p.nodes prepared.sizes in
      let run = have (leaves_in p) p m in
      ends input result run.0 run.1 run.2 run.3 tells (subst (Fits (places_of p (shapes_of r))) (sym long) stand.fit)

pub runs_end_as_meant : WalkedIsThere → EntriesAreWhole → DraftsOwn → HaveRuns Trap → EndByForm Trap → RunsEndAsMeant
runs_end_as_meant walked whole own have by_form r p good a old now prepared sizes input result tells =
    run_ends walked whole own have by_form r p good a old now prepared sizes input result tells
