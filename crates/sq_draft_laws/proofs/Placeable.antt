-- A draft can be placed.
use Rattle.std.proofs.Common.{◌≡◌, ℕ, suc, ◌-◌, List, [], ◌∷◌, ◌++◌, map, length}
use Rattle.std.proofs.Common.{slice_get, Some, None, refl, sym, ap, subst, ◌∙◌, arith}
use Rattle.std.specs.List.{All}
use Rattle.std.proofs.lemmas.List.Elements.{All-nil, All-cons}
use Rattle.sq_ir.specs.Written.{Setting, at_root}
use Rattle.sq_ir.specs.Plans.{AskedOfTerms, IsBuffer, Meets, of_buffer, node_at, placed}
use Rattle.sq_ir.specs.declared.term.Term.{Term}
use Rattle.sq_ir.specs.declared.plan.Buffer.{Buffer}
use Rattle.sq_ir.specs.declared.plan.Draft.{Draft}
use Rattle.sq_ir.specs.declared.plan.PlanNode.{PlanNode}
use Rattle.sq_ir.proofs.Meeting.{meets_within}
use Rattle.sq_form_laws.proofs.RanHold.{as_many_forms}
use Rattle.sq_spec.specs.declared.body.FormBody.{FormBody}
use Rattle.sq_spec.specs.declared.resolved.Resolved.{Resolved}
use Rattle.sq_placed.specs.declared.home.Home.{Home}
use Rattle.sq_placed.specs.declared.home.Homes.{Homes}
use Rattle.sq_placed.specs.Trees.{buffer_of}
use Rattle.sq_term.specs.Terms.{buffer_or, entry_term, body_in, homes_in}
use Rattle.sq_term.specs.Stands.{IsOf, AreOf, AreLeveled}
use Rattle.sq_program_laws.specs.TermLaws.Fits.{IsThere, AreThere, AreTabled}
use Rattle.sq_program_laws.proofs.TermLaws.Meeting.{entry_is_fine}
use Rattle.sq_nests.specs.Drafts.{Nothing, IsPlaceable}
use Rattle.sq_program_laws.specs.TermLaws.Callers.{home_buffers, Numbering, AreNumbered}
use Rattle.sq_program_laws.specs.TermLaws.Lowered.{IsLowered, HasNumbers}
use Rattle.sq_program_laws.proofs.TermLaws.Lowered.{are_stacked, lowered_is_placeable}
use Rattle.sq_homes.specs.Chosen.declared.choice.Choice.{Choice}
use Rattle.sq_homes.specs.Chosen.Forms.{bodies_of}
use Rattle.sq_homes.specs.Drafts.{homes_of, args_of, IsDraftOf}
use Rattle.sq_draft_laws.specs.Given.{level_at}
use Rattle.sq_draft_laws.specs.Choosing.{Walked, MayBeChosen, AreMemories}
use Rattle.sq_draft_laws.proofs.Descending.{calls_descend}
use Rattle.sq_draft_laws.proofs.Hoisting.{chosen_stand}
use Rattle.sq_draft_laws.proofs.Leveled.{homes_are_leveled}
use Rattle.sq_draft_laws.proofs.Programs.{term_is_entrys}
use Rattle.sq_draft_laws.specs.Drafts.{limits}
use Rattle.sq_draft_laws.specs.Levels.{BeginsAtRoot}
use Rattle.sq_draft_laws.proofs.Levels.{levels_are_there, drafts_begin_at_root}
use Rattle.sq_draft_laws.proofs.Tabled.{drafts_are_tabled}
use Rattle.sq_draft_laws.specs.Placeable.{DraftsArePlaceable, IsStackedByForms, DraftsAreStackedByForms}
use Rattle.sq_draft_laws.specs.HomesFit.{HasOwn}
use Rattle.sq_draft_laws.proofs.Entry.{entries_have_buffers}
use Rattle.sq_draft_laws.proofs.Ordered.{numbering, are_numbered}
use Rattle.sq_draft_laws.proofs.Machines.{machines_are_machines}

-- ---- the entry's buffers, each of its arrays having one

abbrev HaveOwn : List Home → Type 0
HaveOwn hs = (i : ℕ) (h : Home) → slice_get hs i ≡ Some h → HasOwn h

own_buffers : (hs : List Home) → HaveOwn hs → map buffer_or hs ≡ home_buffers hs
own_buffers [] own = refl
own_buffers (h ∷ hs) own =
    let its = own 0 h refl in
    subst (λ (x : Home). buffer_or x ∷ map buffer_or hs ≡ buffer_of x (home_buffers hs)) (sym its.is)
    (ap (λ l. its.buffer ∷ l) (own_buffers hs (λ i x e. own (suc i) x e)))

one_there : (s : Setting) (at : ℕ) (h : Home) → HasOwn h → IsOf s at h → IsThere s h → IsBuffer s at (buffer_or h)
one_there s at h own l t =
    subst (λ (x : Home). IsBuffer s at (buffer_or x)) (sym own.is)
    (record { there = subst (IsThere s) own.is t; level = subst (IsOf s at) own.is l })

all_there : (s : Setting) (at : ℕ) (hs : List Home) → HaveOwn hs → AreOf s at hs → AreThere s hs
    → All (IsBuffer s at) (map buffer_or hs)
all_there s at [] own l t = All-nil (IsBuffer s at)
all_there s at (h ∷ hs) own l t =
    All-cons (IsBuffer s at) (buffer_or h) (map buffer_or hs) (one_there s at h (own 0 h refl) l.0 t.0)
    (all_there s at hs (λ i x e. own (suc i) x e) l.1 t.1)

module _ (r : Resolved) (w : Walked r) (choices : List Choice) (hoisted : MayBeChosen r choices) (d : Draft)
    (is : IsDraftOf r choices d) (nodes : List PlanNode) (are : AreMemories r.machine.now.levels nodes) where
  abbrev fb : ℕ → FormBody
  fb = body_in (bodies_of r)

  abbrev fh : ℕ → Homes
  fh = homes_in (homes_of r choices)

  abbrev own : Numbering
  own = numbering r w choices hoisted

  abbrev count : ℕ
  count = length (bodies_of r)

  have_own : HaveOwn (fh 0).params
  have_own = entries_have_buffers r w choices hoisted

  term_is : d.term ≡ entry_term fb fh count (args_of r)
  term_is = is.term ∙ term_is_entrys (bodies_of r) (homes_of r choices) (args_of r)

  leveled : (offset : ℕ → ℕ) → AreLeveled (placed d.buffers nodes offset) fb fh (level_at r)
  leveled offset = homes_are_leveled (calls_descend as_many_forms) r choices (placed d.buffers nodes offset)
      (λ b. ap (λ (l : List Buffer). of_buffer l (λ x. x.level) b) is.buffers)

  begins : BeginsAtRoot r choices
  begins = drafts_begin_at_root r w choices hoisted

  lowered : IsLowered d nodes fb fh count (args_of r) (level_at r) own
  lowered = record {
    machine = are.are;
    term = term_is;
    entry = is.entry ∙ own_buffers (fh 0).params have_own;
    numbered = subst (λ (l : List Buffer). AreNumbered l fb fh own) (sym is.buffers) (are_numbered r w choices hoisted);
    leveled = leveled;
    root = begins.entry;
    first = ap (λ (l : List Buffer). of_buffer l (λ x. x.level) 0) is.buffers ∙ begins.buffer;
    few = λ k. let l = levels_are_there r w k in let m = are.many in omega (arith, l, m);
    pipes = hoisted.stand;
    overlaps = chosen_stand r choices hoisted;
  }

  have_numbers : (last : ℕ) → length r.machine.now.levels ≡ suc last → HasNumbers d nodes
  have_numbers last long offset =
      let s = placed d.buffers nodes offset in
      let m = machines_are_machines r.machine.now.levels nodes are last long d.buffers offset in
      let tabled : AreTabled s limits last fb fh (level_at r) =
      subst (λ (l : List Buffer). AreTabled (placed l nodes offset) limits last fb fh (level_at r))
      (sym is.buffers) (drafts_are_tabled r w choices hoisted last long nodes offset) in
      let its = leveled offset in
      let there : All (IsBuffer s 0) d.entry = subst (All (IsBuffer s 0)) (sym is.entry)
      (all_there s 0 (fh 0).params have_own
      (subst (λ (l : ℕ). AreOf s l (fh 0).params) begins.entry (its.params 0)) (tabled.params 0)) in
      subst (λ (f : AskedOfTerms). f at_root []) (sym (meets_within s Nothing None d.entry d.term)) (
        tt,
        there,
        subst (λ (x : Term). Meets s Nothing x at_root (d.entry ++ [])) (sym term_is)
            (entry_is_fine s limits m.bounds last (length nodes) (λ n. (node_at nodes n).level) m.machine fb fh
            (level_at r) its tabled hoisted.stand begins.entry m.root count (args_of r) (d.entry ++ [])),
      )

  placeable : IsPlaceable d nodes
  placeable =
      let l = levels_are_there r w 0 in
      let long : length r.machine.now.levels ≡ suc (length r.machine.now.levels - 1) = omega (arith, l) in
      lowered_is_placeable d nodes fb fh count (args_of r) (level_at r) own lowered
      (have_numbers (length r.machine.now.levels - 1) long)

  stacked : IsStackedByForms r choices d
  stacked = record {
    numbers = record { numbering = own; are = are_numbered r w choices hoisted };
    stacks = are_stacked d nodes fb fh count (args_of r) (level_at r) own lowered;
  }

pub drafts_are_placeable : DraftsArePlaceable
drafts_are_placeable r w choices hoisted d is nodes are = placeable r w choices hoisted d is nodes are

pub drafts_are_stacked_by_forms : DraftsAreStackedByForms
drafts_are_stacked_by_forms r w choices hoisted d is nodes are = stacked r w choices hoisted d is nodes are
