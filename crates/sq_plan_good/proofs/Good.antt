-- The plan of a draft is good, part by part.
use Rattle.std.proofs.Common.{◌≡◌, ℕ, zero, suc, ◌<◌, ◌≤◌, ◌^◌, Bool, true, List, [], ◌∷◌, length, map}
use Rattle.std.proofs.Common.{Some, None, get_or, take, refl, sym, ap, ◌∙◌, subst, arith}
use Rattle.std.specs.Prelude.{slice_get}
use Rattle.std.specs.List.{All}
use Rattle.sq_ast.specs.Modes.{is_read}
use Rattle.sq_machfile.specs.declared.level.Level.{Level}
use Rattle.sq_leaf.specs.declared.shape.Shape.{Shape}
use Rattle.sq_leaf.specs.Source.{Arrays}
use Rattle.sq_blocks.specs.declared.argument.Argument.{Argument}
use Rattle.sq_forms.specs.Steps.{most_uses}
use Rattle.sq_work.specs.InTurn.{IsRaceFree}
use Rattle.sq_work.specs.Meaning.{Outcome, meaning}
use Rattle.sq_spec.specs.declared.resolved.Resolved.{Resolved}
use Rattle.sq_spec.specs.declared.body.FormBody.{FormBody}
use Rattle.sq_spec.specs.Works.{flat}
use Rattle.sq_spec.specs.Numbered.{entry_call}
use Rattle.sq_ir.specs.Tree.{IsNormal}
use Rattle.sq_ir.specs.Unordered.{IsFresh, EachUnordered, AllEvents}
use Rattle.sq_ir.specs.Scopes.{InEachState}
use Rattle.sq_ir.specs.Runs.{exec}
use Rattle.sq_ir.specs.Events as events
use Rattle.sq_ir.specs.Events.{Bytes, Leaves, AreIndependent}
use Rattle.sq_ir.specs.Written.{Setting, PlanTree, at_root, written, scoped}
use Rattle.sq_ir.specs.Plans as plans
use Rattle.sq_ir.specs.Plans.{IsBuffer, IsAllowed, IsWellFormed, IsGood, Meets, HaveRoom, node_at, tree_of}
use Rattle.sq_ir.specs.DraftLeaves as leaf
use Rattle.sq_ir.specs.declared.term.Term.{Term}
use Rattle.sq_ir.specs.declared.plan.Draft.{Draft}
use Rattle.sq_ir.specs.declared.plan.Note.{Note}
use Rattle.sq_ir.specs.declared.plan.Plan.{Plan}
use Rattle.sq_ir.specs.declared.plan.PlanNode.{PlanNode}
use Rattle.sq_ir.proofs.Equations.{written_within}
use Rattle.sq_ir.proofs.Meeting.{meets_within}
use Rattle.sq_ir.proofs.Fresh.{normal-entry, fresh-entry}
use Rattle.sq_cells.specs.Tree.{Cause}
use Rattle.sq_cells.specs.Alike.{leaf_count, MayRun}
use Rattle.sq_nests.specs.Stacks.{AreAside}
use Rattle.sq_nests.specs.Drafts.{whole, IsPlaceable, KeepsRoom}
use Rattle.sq_placed.specs.declared.home.Homes.{Homes}
use Rattle.sq_placed.specs.Placed.{Placed, PlacedArg, PlacedCall, plain}
use Rattle.sq_placed.specs.Tables.{placed_args, placed_of, entry_placed, entry_call_placed}
use Rattle.sq_draft_laws.specs.PlanLaws.PlacedEntry.{EntryStowed}
use Rattle.sq_draft_laws.specs.PlanLaws.LeafLaws.{codes_of}
use Rattle.sq_draft_laws.specs.PlanLaws.OnBytes.{work}
use Rattle.sq_term.specs.Terms.{body_in, homes_in, entry_term, buffer_or}
use Rattle.sq_term.specs.Stands.{AreLeveled}
use Rattle.sq_draft_laws.specs.TermLaws.Fits.{AreTabled}
use Rattle.sq_draft_laws.specs.PlanLaws.Seated.{at_node}
use Rattle.sq_draft_laws.specs.PlanLaws.Entry.{plan_tree, form_at, held_in, IsPlan, EndsSo}
use Rattle.sq_draft_laws.specs.PlanLaws.Room.{IsRoomy, HasRoom}
use Rattle.sq_draft_laws.specs.TermLaws.Held.{AreHeldInside}
use Rattle.sq_draft_laws.specs.ProgramLaws.Rows.{FormsFit}
use Rattle.sq_draft_laws.proofs.ProgramLaws.Facts.{passed_at}
use Rattle.sq_draft_laws.specs.ProgramLaws.Homes as fit
use Rattle.sq_draft_laws.specs.ProgramLaws.Homes.{mays_of}
use Rattle.sq_draft_laws.specs.PlanLaws.Rooms as rooms
use Rattle.sq_draft_laws.specs.ProgramLaws.Entry.{EntryFacts, ReadCodes, AreWhole, IsWhole}
use Rattle.sq_draft_laws.specs.ProgramLaws.Entry.{entry_shapes, anything}
use Rattle.sq_draft_laws.specs.AtLevels.{IsAtLevel}
use Rattle.sq_draft_laws.specs.Laws.{HasPath}
use Rattle.sq_draft_laws.specs.Opened.{WalkedIsThere}
use Rattle.sq_draft_laws.specs.Scope.{HomesAreNear}
use Rattle.sq_store.specs.Laws.{OffsetsAre, OffsetsAreAsMany}
use Rattle.sq_draft_laws.specs.Homes.Chosen.declared.choice.Choice.{Choice}
use Rattle.sq_draft_laws.specs.Homes.Chosen.Forms.{bodies_of}
use Rattle.sq_draft_laws.specs.Homes.Drafts.{homes_of, args_of, buffers_of, leaves_of, entry_of, program_term, IsDraftOf}
use Rattle.sq_draft_laws.specs.Given.{level_at}
use Rattle.sq_work.specs.Work.{Work}
use Rattle.sq_placed.specs.SameWorks.{IsSameWork}
use Rattle.sq_draft_laws.specs.Choosing.{Walked, MayBeChosen, AreMemories, setting_of}
use Rattle.sq_draft_laws.specs.Levels.{BeginsAtRoot}
use Rattle.sq_draft_laws.specs.Drafts.{limits, IsRoomyDraft}
use Rattle.sq_draft_laws.specs.Owned.{OwnsItsBuffers}
use Rattle.sq_draft_laws.specs.Placeable.{DraftsAreStackedByForms}
use Rattle.sq_draft_laws.specs.Lanes.{IsDraftMachine}
use Rattle.sq_draft_laws.specs.Short.{AreShort, round_of}
use Rattle.sq_plan_good.specs.Parts.{Placing, Laws}
use Rattle.sq_plan_good.specs.Good.{HasNoRace, IsInput, EndsAsMeant, HasLeafCalls, LeavesAreAtHome}
use Rattle.sq_plan_good.specs.Good.{IsGoodFor, WithRoomAreGood, StandsByForms, PlacedStandByForms}
use Rattle.sq_plan_good.specs.Good.{MayLeave, MayOverlap, DraftsCanBePlaced, PlacedAreGood}

-- ---- the last level

record Last (levels : List Level) : Type 0 where
  last : ℕ
  is : length levels ≡ suc last

last_of : (levels : List Level) (nodes : List PlanNode) → AreMemories levels nodes → Last levels
last_of levels nodes m = by_many (length levels) refl
  where
    by_many : (n : ℕ) → length levels ≡ n → Last levels
    by_many (suc n) e = record { last = n; is = e }
    by_many zero e = by_first nodes m
      where
        by_first : (ns : List PlanNode) → AreMemories levels ns → Last levels
        by_first [] q = absurd (cc q.are.arranged.levels)
        by_first (x ∷ ns) q =
            let low = (q.are.each 0 x refl).level in
            let many = q.many in absurd (omega (arith, low, many, e))

-- ---- lists

taken_at : {A : Type 0} (n : ℕ) (xs : List A) (i : ℕ) → i < n → slice_get (take n xs) i ≡ slice_get xs i
taken_at zero xs i lt = absurd (omega (arith, lt))
taken_at (suc n) [] i lt = refl
taken_at (suc n) (x ∷ xs) zero lt = refl
taken_at (suc n) (x ∷ xs) (suc i) lt = taken_at n xs i (omega (arith, lt))

below : {A : Type 0} (xs : List A) (i : ℕ) (x : A) → slice_get xs i ≡ Some x → i < length xs
below [] i x h = absurd (cc h)
below (y ∷ xs) zero x h = omega arith
below (y ∷ xs) (suc i) x h = let e = below xs i x h in omega (arith, e)

as_many_args : (shapes : List Shape) (i : ℕ) (args : List Argument)
    → length (placed_args None shapes [] i args) ≡ length args
as_many_args shapes i [] = refl
as_many_args shapes i (a ∷ args) = ap suc (as_many_args shapes (suc i) args)

-- a node of at most 2^30 bytes, or none
small_at : (ns : List PlanNode) → ((i : ℕ) (n : PlanNode) → slice_get ns i ≡ Some n → n.capacity ≤ 2 ^ 30)
    → (i : ℕ) → (node_at ns i).capacity ≤ 2 ^ 32
small_at [] h i = omega arith
small_at (n ∷ ns) h zero = let a = h 0 n refl in omega (arith, a)
small_at (n ∷ ns) h (suc i) = small_at ns (λ j m e. h (suc j) m e) i

-- ---- a draft, by its parts

abbrev drawn : Resolved → List Choice → List Note → Draft
drawn r choices notes = record {
  term = program_term r choices;
  buffers = buffers_of r choices;
  leaves = leaves_of r;
  entry = entry_of r choices;
  notes = notes;
}

drawn_is : (r : Resolved) (choices : List Choice) (d : Draft) → IsDraftOf r choices d → d ≡ drawn r choices d.notes
drawn_is r choices d of = λ i. record {
  term = of.term i;
  buffers = of.buffers i;
  leaves = of.leaves i;
  entry = of.entry i;
  notes = d.notes;
}

module _ (placing : Placing) (r : Resolved) (choices : List Choice) (may : MayBeChosen r choices) (notes : List Note)
    (nodes : List PlanNode) (memories : AreMemories r.machine.now.levels nodes) where
  w : Walked r
  w = placing.walked r

  abbrev d : Draft
  d = drawn r choices notes

  is_draft : IsDraftOf r choices d
  is_draft = record { term = refl; buffers = refl; leaves = refl; entry = refl }

  placeable : IsPlaceable d nodes
  placeable = placing.placeable r w choices may d is_draft nodes memories

  module _ (laws : Laws) (race_free : HasNoRace r) (leave : MayLeave r choices) (overlap : MayOverlap r choices)
      (offsets : List ℕ) (many : length offsets ≡ length d.buffers)
      (room : KeepsRoom (record { draft = d; offsets = offsets; nodes = nodes }))
    where
      last : Last r.machine.now.levels
      last = last_of r.machine.now.levels nodes memories

      begins : BeginsAtRoot r choices
      begins = laws.begins r w choices may

      abbrev bodies : ℕ → FormBody
      bodies = body_in (bodies_of r)

      abbrev homes : ℕ → Homes
      homes = homes_in (homes_of r choices)

      abbrev n : ℕ
      n = length (bodies_of r)

      abbrev args : List Argument
      args = args_of r

      abbrev entry : List ℕ
      entry = entry_of r choices

      abbrev outer : List Shape
      outer = entry_shapes bodies args

      abbrev x : Placed
      x = entry_placed bodies homes n args

      abbrev c : PlacedCall
      c = entry_call_placed (bodies 0) (homes 0) args

      abbrev term : Term
      term = entry_term bodies homes n args

      abbrev mays : ℕ → ℕ → Bool
      mays = mays_of r.typed.now.tasks r.mapping.now.instances r.found.entries

      abbrev p : Plan
      p = record { draft = d; offsets = offsets; nodes = nodes }

      abbrev offset : ℕ → ℕ
      offset = λ b. get_or offsets b 0

      abbrev s : Setting
      s = setting_of r choices nodes offset

      abbrev leaves : Leaves Cause
      leaves = leaf.leaves_of d

      -- ---- what is known of tables and homes

      leveled : AreLeveled s bodies homes (level_at r)
      leveled = laws.leveled r choices s (λ b. refl)

      bodies_are : bodies ≡ fit.bodies_of r.typed.now r.mapping.now r.found.entries
      bodies_are = λ i k. laws.tables r k i

      forms_fit : FormsFit leaves bodies homes mays
      forms_fit = subst (λ (b : ℕ → FormBody). FormsFit leaves b homes mays) (sym bodies_are)
          (laws.fits r.typed.now r.machine.now.levels r.mapping.now w.formed w.faultless w.read
          (record { found = r.found.entries; forms = r.forms; uses = r.uses }) w.through leaves homes
          (laws.homes r w choices may) leave overlap (laws.stand r w choices d is_draft))

      facts : EntryFacts bodies homes (mays 0) args
      facts = laws.entries r w choices may

      tabled : AreTabled s limits last.last bodies homes (level_at r)
      tabled = laws.tabled r w choices may last.last last.is nodes offset

      roomy : IsRoomyDraft r choices s
      roomy = laws.roomy r w choices may nodes offset

      own : OwnsItsBuffers r choices s
      own = laws.own r w choices may nodes offset

      machine : IsDraftMachine s nodes last.last
      machine = laws.machines r.machine.now.levels nodes memories last.last last.is (buffers_of r choices) offset

      -- ---- the tree

      term_is : program_term r choices ≡ term
      term_is = laws.term (bodies_of r) (homes_of r choices) args

      tree_is : tree_of p ≡ plan_tree s x outer entry
      tree_is = ap (λ (t : Term). scoped 0 entry (written s t at_root)) term_is
          ∙ laws.writes s bodies homes (level_at r) leveled may.stand begins.entry begins.buffer n args facts.many

      whole_is : written s (whole d) at_root ≡ tree_of p
      whole_is = ap (λ (f : Rattle.sq_ir.specs.Written.Part). f at_root) (written_within s None entry (program_term r choices))

      owned : rooms.IsOwned s leaves outer entry x
      owned = record {
        entry = own.entry;
        sits = laws.sit leaves bodies homes mays forms_fit n args facts;
        owns = own.owns;
        lanes = laws.lanes r w choices may nodes memories offset;
        aside = subst AreAside (whole_is ∙ tree_is) (placeable.aside offset);
        normal = subst IsNormal tree_is (normal-entry s entry (program_term r choices) at_root);
        fresh = subst IsFresh tree_is (fresh-entry s entry (program_term r choices) at_root);
      }

      keeps : rooms.KeepsRoom s outer entry x
      keeps = record {
        states = subst (InEachState (HaveRoom s)) tree_is room.states;
        entry = room.entry;
      }

      stowed : EntryStowed (at_node s 0) (form_at s entry) outer (work (codes_of leaves) s.offset x outer)
          × HasRoom s leaves outer entry x s.capacity
      stowed = laws.stowed s leaves outer entry x owned keeps

      -- ---- the plan

      abbrev called : Work
      called = entry_call r.typed.now.tasks r.mapping.now r.found.entries

      program_is : IsSameWork (plain x) called
      program_is = laws.program r homes may.stand

      tables_free : IsRaceFree called
      tables_free = laws.race_free r race_free

      mapped : {A B : Type 0} (f : A → B) (xs : List A) → length (map f xs) ≡ length xs
      mapped f [] = refl
      mapped f (y ∷ ys) = ap suc (mapped f ys)

      is_plan : IsPlan s leaves outer entry anything x
      is_plan = laws.plans s leaves bodies homes mays forms_fit n args facts entry
          (mapped buffer_or (homes 0).params ∙ sym facts.many) (laws.works_race (plain x) called program_is tables_free) stowed.0

      safe : EachUnordered (AreIndependent leaves) (plan_tree s x outer entry)
          × AllEvents (MayRun leaves) (plan_tree s x outer entry)
      safe = laws.safe s leaves outer entry anything x is_plan

      inside : AllEvents (IsRoomy s.capacity) (plan_tree s x outer entry)
      inside = laws.inside s leaves outer entry anything x is_plan s.capacity stowed.1

      short : AreShort r
      short = laws.short r w

      few_uses : limits.uses ≤ 2 ^ 32
      unfolding most_uses
      few_uses = omega arith

      paths : AllEvents HasPath (plan_tree s x outer entry)
      paths = laws.paths s leaves outer entry anything bodies homes n args is_plan limits few_uses last.last (level_at r)
          tabled.body (round_of r) short.paths

      near : HomesAreNear bodies homes
      near = laws.near leaves bodies homes mays forms_fit
          (subst (λ (b : ℕ → FormBody). AreHeldInside b homes) (sym bodies_are) leave.rounds)
          (laws.chosen r choices may) may.stand

      small : (node : ℕ) → s.capacity node ≤ 2 ^ 32
      small = small_at nodes (λ i q e. (memories.are.each i q e).capacity)

      formed : Meets s (IsAllowed leaves s) term at_root entry
      formed = laws.formed s leaves limits machine.bounds last.last (length nodes) (λ k. (node_at nodes k).level)
          machine.machine bodies homes (level_at r) leveled tabled roomy.roomy near begins.entry begins.buffer
          machine.root roomy.entry short.small small n args facts.many roomy.row safe.1 inside paths

      entry_there : All (IsBuffer s 0) entry
      entry_there = (subst (λ (f : plans.AskedOfTerms). f at_root []) (meets_within s _ None entry (program_term r choices))
          (placeable.term offset)).1

      well_formed : IsWellFormed leaves p
      well_formed = record {
        nodes = memories.are;
        offsets = many;
        entry = entry_there;
        term = subst (λ (t : Term). Meets s (IsAllowed leaves s) t at_root entry) (sym term_is) formed;
      }

      good : IsGood leaves p
      good = record {
        well_formed = well_formed;
        independent = subst (EachUnordered (AreIndependent leaves)) (sym tree_is) safe.0;
        room = room.states;
        entry = room.entry;
      }

      -- ---- how it ends

      arg_at : (i : ℕ) (q : PlacedArg) → slice_get c.args i ≡ Some q → (a : Argument) × (slice_get args i ≡ Some a)
          × (q.argument ≡ a)
      arg_at i q e =
          let h = passed_at None (bodies 0).arrays [] 0 args i q e in (h.0, h.1, ap (λ (z : PlacedArg). z.argument) h.2)

      are_whole : AreWhole outer c.args
      are_whole i q e =
          let h = arg_at i q e in
          subst (IsWhole outer i) (sym h.2) (whole_taken i h.0 h.1)
        where
          whole_taken : (i : ℕ) (a : Argument) → slice_get args i ≡ Some a → IsWhole outer i a
          whole_taken i a e =
              let z = facts.each i a e in
              record {
                array = z.array;
                shape = z.shape;
                there = taken_at (length args) (bodies 0).arrays i (below args i a e) ∙ z.there;
                rect = z.rect;
              }

      reads : (a : Arrays) (m : Bytes) → IsInput r p a m → ReadCodes outer c.args a (held_in s entry m)
      reads a m input = record {
        at = λ k q sh cs e read there inner.
            let h = arg_at k q e in
            input.read k h.0 sh cs h.1 (subst (λ (z : Argument). is_read z.mode ≡ true) h.2 read) there inner;
      }

      meant : (a : Arrays) → meaning (plain x) a ≡ flat r.typed.now r.mapping.now a
      meant a = laws.works_mean (plain x) called program_is a
          ∙ (laws.serial called tables_free a ∙ sym (laws.means r race_free a))

      many_args : length c.args ≡ length outer
      many_args =
          as_many_args (bodies 0).arrays 0 args
          ∙ (facts.many ∙ (sym (mapped buffer_or (homes 0).params) ∙ is_plan.many))

      ends : EndsAsMeant r p
      ends a m input = subst (λ (o : Outcome). EndsSo s outer entry o (exec (events.meaning leaves) (tree_of p) m)) (meant a)
          (subst (λ (t : PlanTree). EndsSo s outer entry (meaning (plain x) a) (exec (events.meaning leaves) t m)) (sym tree_is)
          (laws.follow s leaves outer entry anything c (placed_of bodies homes n 0) is_plan are_whole many_args a m
          (reads a m input)))

      -- ---- its leaf calls

      calls : HasLeafCalls r choices p
      calls f = ap (leaf_count f) tree_is ∙ (laws.counted s leaves outer entry anything x is_plan f
          ∙ laws.calls bodies homes f n 0 [])

      at_home : LeavesAreAtHome r choices p
      at_home = subst (λ (t : Term). AllEvents (IsAtLevel bodies homes (level_at r) (λ k. (node_at nodes k).level))
          (scoped 0 entry (written s t at_root))) (sym term_is)
          (laws.at_levels s limits machine.bounds last.last (length nodes) (λ k. (node_at nodes k).level) machine.machine
          bodies homes (level_at r) leveled tabled roomy.roomy near begins.entry begins.buffer machine.root n args
          roomy.row)

      all_good : IsGoodFor r choices nodes p
      all_good = record {
        may = may;
        draft_ = is_draft;
        nodes_ = refl;
        good = good;
        ends = ends;
        written_out = tree_is;
        calls = calls;
        at_home = at_home;
      }

-- ---- any draft

pub drafts_can_be_placed : Placing → DraftsCanBePlaced
drafts_can_be_placed placing r choices may d of nodes memories =
    subst (λ (x : Draft). IsPlaceable x nodes) (sym (drawn_is r choices d of))
    (placeable placing r choices may d.notes nodes memories)

-- with offsets at which it has room
good_with : Placing → Laws → (r : Resolved) → HasNoRace r → (choices : List Choice) → MayBeChosen r choices
    → MayLeave r choices → MayOverlap r choices → (notes : List Note) (nodes : List PlanNode)
    → AreMemories r.machine.now.levels nodes → (d : Draft) → drawn r choices notes ≡ d → (offsets : List ℕ)
    → length offsets ≡ length d.buffers → KeepsRoom (record { draft = d; offsets = offsets; nodes = nodes })
    → IsGoodFor r choices nodes (record { draft = d; offsets = offsets; nodes = nodes })
good_with placing laws r race_free choices may leave overlap notes nodes memories d is offsets =
    subst (λ (x : Draft). length offsets ≡ length x.buffers
    → KeepsRoom (record { draft = x; offsets = offsets; nodes = nodes })
    → IsGoodFor r choices nodes (record { draft = x; offsets = offsets; nodes = nodes })) is
    (λ many room. all_good placing r choices may notes nodes memories laws race_free leave overlap offsets many room)

pub with_room_are_good : Placing → Laws → WithRoomAreGood
with_room_are_good placing laws r race_free choices may leave overlap d of nodes memories p has =
    let is : p ≡ record { draft = d; offsets = p.offsets; nodes = nodes } = λ i. record {
      draft = has.draft_ i;
      offsets = p.offsets;
      nodes = has.nodes_ i;
    } in
    subst (IsGoodFor r choices nodes) (sym is)
    (good_with placing laws r race_free choices may leave overlap d.notes nodes memories d (sym (drawn_is r choices d of))
    p.offsets has.many (subst KeepsRoom is has.room))

pub placed_are_good : WithRoomAreGood → OffsetsAreAsMany → PlacedAreGood
placed_are_good good many r race_free choices may leave overlap d of nodes memories p placed =
    good r race_free choices may leave overlap d of nodes memories p (record {
      draft_ = ap (λ (q : Plan). q.draft) placed.is;
      many = ap (λ (q : Plan). length q.offsets) placed.is ∙ many d;
      nodes_ = ap (λ (q : Plan). q.nodes) placed.is;
      room = placed.room;
    })

pub placed_stand_by_forms : WalkedIsThere → DraftsAreStackedByForms → OffsetsAre → PlacedStandByForms
placed_stand_by_forms walked stacked offsets r choices may d of nodes memories p placed =
    let s = stacked r (walked r) choices may d of nodes memories in
    subst (StandsByForms r choices) (sym placed.is) (record { numbers = s.numbers; each = offsets d _ s.stacks })
