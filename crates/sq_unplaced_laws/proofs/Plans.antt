-- Lines that differ in their places alone stand for one plan but for its leaves' places, and these plans are good alike.
use Rattle.std.proofs.Common.{◌≡◌, ℕ, List, [], ◌∷◌, map, length, get_or, refl, sym, ap, ap₂, ◌∙◌, subst, subst₂}
use Rattle.std.specs.List.{All}
use Rattle.sq_ir.specs.declared.plan.Buffer.{Buffer}
use Rattle.sq_ir.specs.declared.plan.PlanNode.{PlanNode}
use Rattle.sq_ir.specs.declared.plan.Plan.{Plan}
use Rattle.sq_ir.specs.declared.term.Term.{Term}
use Rattle.sq_ir.specs.Scopes.{InEachState}
use Rattle.sq_ir.specs.Unordered.{EachUnordered}
use Rattle.sq_ir.specs.Events.{AreIndependent}
use Rattle.sq_ir.specs.Machines.{AreNodes}
use Rattle.sq_ir.specs.DraftLeaves.{leaves_of}
use Rattle.sq_ir.specs.Written.{Setting, PlanTree, at_root, scoped, written}
use Rattle.sq_ir.specs.Plans.{IsBuffer, IsAllowed, Meets, HaveRoom, placed, setting_of, tree_of, IsGood}
use Rattle.sq_plantext.specs.declared.text.BufferLine.{BufferLine}
use Rattle.sq_plantext.specs.declared.text.LeafText.{LeafText}
use Rattle.sq_plantext.specs.declared.text.PlanText.{PlanText}
use Rattle.sq_planfile.specs.Files.{node_of, buffer_of, numbers_of, leaf_of, array_of, nodes_of, term_of, plan_of}
use Rattle.sq_planfile.specs.Sound.{IsLeafText, IsBufferLine, IsSound, AreEvents}
use Rattle.sq_written_laws.specs.Moved.{AreMoved}
use Rattle.sq_unplaced_laws.specs.Unplaced.{unplaced_buffer, unplaced_leaf, unplaced_array, unplaced_term, AreSame}
use Rattle.sq_unplaced_laws.specs.Laws.{IsMovedPlan}
use Rattle.sq_unplaced_laws.proofs.Lists.{map_across, heads, tails, all_across}
use Rattle.sq_unplaced_laws.proofs.Terms.{same_term}
use Rattle.sq_unplaced_laws.proofs.Looks.{LookAlike, moved_look, allowed, independent}
use Rattle.sq_unplaced_laws.proofs.Asking.{asks_less}
use Rattle.sq_unplaced_laws.proofs.Leaves.{leaf_across}
use Rattle.sq_unplaced_laws.proofs.Heads.{buffer_across, same_buffers, arrays_across}
use Rattle.sq_unplaced_laws.proofs.Events.{AskAlike, events_across}

-- ---- the plan of lines

moved_leaves : (ls ks : List LeafText) → map unplaced_leaf ls ≡ map unplaced_leaf ks → AreMoved (map leaf_of ls) (map leaf_of ks)
moved_leaves [] [] e = tt
moved_leaves [] (k ∷ ks) e = absurd (cc)
moved_leaves (l ∷ ls) [] e = absurd (cc)
moved_leaves (l ∷ ls) (k ∷ ks) e =
    let same = heads unplaced_leaf l k ls ks e in (
      record {
        instance = ap (λ (x : LeafText). x.instance) same;
        variant = ap (λ (x : LeafText). x.task) same;
        numbers = ap (λ (x : LeafText). numbers_of x) same;
      },
      moved_leaves ls ks (tails unplaced_leaf l k ls ks e),
    )

module _ (x y : PlanText) (same : AreSame x y) where
  same_nodes : nodes_of x ≡ nodes_of y
  same_nodes = ap (λ (z : PlanText). map node_of z.nodes) same

  same_lines : map unplaced_buffer x.buffers ≡ map unplaced_buffer y.buffers
  same_lines = ap (λ (z : PlanText). z.buffers) same

  same_leaves : map unplaced_leaf x.leaves ≡ map unplaced_leaf y.leaves
  same_leaves = ap (λ (z : PlanText). z.leaves) same

  same_arrays : map unplaced_array x.arrays ≡ map unplaced_array y.arrays
  same_arrays = ap (λ (z : PlanText). z.arrays) same

  same_text : unplaced_term x.term ≡ unplaced_term y.term
  same_text = ap (λ (z : PlanText). z.term) same

  pub moved_plan : IsMovedPlan (plan_of x) (plan_of y)
  moved_plan = record {
    term = ap (λ (ns : List PlanNode). term_of ns x.term) same_nodes ∙ same_term (nodes_of y) x.term y.term same_text;
    buffers = map_across unplaced_buffer buffer_of buffer_of (λ b. refl) x.buffers y.buffers same_lines;
    leaves = moved_leaves x.leaves y.leaves same_leaves;
    entry = same_buffers x.arrays y.arrays same_arrays;
    offsets = map_across unplaced_buffer (λ (b : BufferLine). b.offset) (λ (b : BufferLine). b.offset) (λ b. refl) x.buffers y.buffers same_lines;
    nodes = same_nodes;
  }

  pub moved_arrays : map array_of x.arrays ≡ map array_of y.arrays
  moved_arrays = map_across unplaced_array array_of array_of (λ a. refl) x.arrays y.arrays same_arrays

-- ---- a plan whose leaves' texts stand elsewhere

module _ (p q : Plan) (moved : IsMovedPlan p q) where
  pub moved_setting : setting_of p ≡ setting_of q
  moved_setting =
      ap₂ (λ (bs : List Buffer) (ns : List PlanNode). placed bs ns (λ b. get_or p.offsets b 0)) moved.buffers moved.nodes
      ∙ ap (λ (os : List ℕ). placed q.draft.buffers q.nodes (λ b. get_or os b 0)) moved.offsets

  moved_tree : tree_of p ≡ tree_of q
  moved_tree =
      ap₂ (λ (s : Setting) (x : Term). scoped 0 p.draft.entry (written s x at_root)) moved_setting moved.term
      ∙ ap (λ (bs : List ℕ). scoped 0 bs (written (setting_of q) q.draft.term at_root)) moved.entry

  pub moved_looks : LookAlike (leaves_of p.draft) (leaves_of q.draft)
  moved_looks = moved_look p.draft q.draft moved.leaves

  moved_term : Meets (setting_of p) (IsAllowed (leaves_of p.draft) (setting_of p)) p.draft.term at_root p.draft.entry
      → Meets (setting_of q) (IsAllowed (leaves_of q.draft) (setting_of q)) q.draft.term at_root q.draft.entry
  moved_term h =
      let l = leaves_of p.draft in
      let k = leaves_of q.draft in
      let s = setting_of p in
      subst (λ (bs : List ℕ). Meets (setting_of q) (IsAllowed k (setting_of q)) q.draft.term at_root bs) moved.entry
      (subst₂ (λ (r : Setting) (x : Term). Meets r (IsAllowed k r) x at_root p.draft.entry) moved_setting moved.term
      (asks_less s (IsAllowed l s) (IsAllowed k s) (allowed l k moved_looks s) p.draft.term at_root p.draft.entry h))

  pub moved_good : IsGood (leaves_of p.draft) p → IsGood (leaves_of q.draft) q
  moved_good h = record {
    well_formed = record {
      nodes = subst AreNodes moved.nodes h.well_formed.nodes;
      offsets = sym (ap length moved.offsets) ∙ h.well_formed.offsets ∙ ap length moved.buffers;
      entry = subst₂ (λ (s : Setting) (bs : List ℕ). All (IsBuffer s 0) bs) moved_setting moved.entry h.well_formed.entry;
      term = moved_term h.well_formed.term;
    };
    independent =
        subst (λ (t : PlanTree). EachUnordered (AreIndependent (leaves_of q.draft)) t) moved_tree
        (λ a b e f is are apart. independent (leaves_of p.draft) (leaves_of q.draft) moved_looks e f (h.independent a b e f is are apart));
    room = subst₂ (λ (s : Setting) (t : PlanTree). InEachState (HaveRoom s) t) moved_setting moved_tree h.room;
    entry = subst₂ (λ (s : Setting) (bs : List ℕ). HaveRoom s (record { node = 0; buffers = bs } ∷ [])) moved_setting moved.entry h.entry;
  }

-- ---- sound lines

pub same_sound_lines : (x y : PlanText) → AreSame x y → IsSound x → IsSound y
same_sound_lines x y same h =
    let moved = moved_plan x y same in
    let alike : AskAlike x y = record {
      nodes = moved.nodes;
      setting = moved_setting (plan_of x) (plan_of y) moved;
      looks = moved_looks (plan_of x) (plan_of y) moved;
    } in
    record {
      nodes = subst AreNodes moved.nodes h.nodes;
      leaves = all_across unplaced_leaf IsLeafText leaf_across x.leaves y.leaves (same_leaves x y same) h.leaves;
      buffers =
          subst (λ (ns : List PlanNode). All (IsBufferLine ns) y.buffers) moved.nodes
          (all_across unplaced_buffer (IsBufferLine (nodes_of x)) (buffer_across (nodes_of x)) x.buffers y.buffers (same_lines x y same) h.buffers);
      arrays = arrays_across x.buffers y.buffers (same_lines x y same) [] [] refl x.arrays y.arrays (same_arrays x y same) h.arrays;
      events =
          subst (λ (bs : List ℕ). AreEvents y y.term at_root bs) moved.entry
          (events_across x y alike x.term y.term (same_text x y same) at_root (map (λ a. a.buffer) x.arrays) h.events);
    }
