-- The plan of the lines that a file is written out as is the plan itself, but for how its events are grouped.
use Rattle.std.specs.Prelude.{◌^◌}
use Rattle.std.proofs.Common.{◌≡◌, ℕ, zero, suc, ◌+◌, ◌<◌, ◌≤◌, List, [], ◌∷◌, ◌++◌, map, length, get_or, refl, sym, ap, ◌∙◌, subst, arith, append_assoc}
use Rattle.std.specs.List.{All}
use Rattle.sq_ir.specs.declared.plan.Buffer.{Buffer}
use Rattle.sq_ir.specs.declared.plan.Leaf.{Leaf}
use Rattle.sq_ir.specs.declared.plan.Note.{Note}
use Rattle.sq_ir.specs.declared.plan.PlanNode.{PlanNode}
use Rattle.sq_ir.specs.declared.plan.Plan.{Plan}
use Rattle.sq_ir.specs.declared.term.Term.{Term}
use Rattle.sq_ir.specs.Scopes.{Turn, InEachState, open_scopes, after_turns}
use Rattle.sq_ir.specs.Events.{Leaves, AreIndependent}
use Rattle.sq_ir.specs.Unordered.{EachUnordered, AllUnordered}
use Rattle.sq_ir.specs.Written.{Setting, PlanTree, at_root, scoped, written as tree_written}
use Rattle.sq_ir.specs.DraftLeaves.{leaves_of}
use Rattle.sq_ir.specs.Plans.{IsAllowed, HaveRoom, of_buffer, setting_of, tree_of, IsWellFormed, IsGood}
use Rattle.sq_leaf.specs.declared.trap.Trap.{Trap}
use Rattle.sq_ir.proofs.Fresh.{normal-entry}
use Rattle.sq_ir.proofs.StateLaws.{independent_by_form}
use Rattle.sq_sched.specs.Words.{root}
use Rattle.sq_sched.proofs.Agreeing.{agree-root}
use Rattle.sq_planfile.specs.declared.entry.EntryArray.{EntryArray}
use Rattle.sq_planfile.specs.File.{PlanFile}
use Rattle.sq_planfile.specs.Files.{node_of, buffer_of, leaf_of, numbers_of, nodes_of, term_of, plan_of}
use Rattle.sq_planfile.specs.declared.left.Left.{Left}
use Rattle.sq_planfile.specs.Left.{whole}
use Rattle.sq_planfile.specs.Sound.{IsBufferLine, AreEvents, IsSound}
use Rattle.sq_planfile.proofs.WellFormed.{sound_is_well_formed}
use Rattle.sq_plantext.specs.Grammar.{buffer_line}
use Rattle.sq_ast.specs.Unplaced.{nowhere}
use Rattle.sq_ir.specs.Machines.{AreNodes}
use Rattle.sq_planfile.specs.Written.{left_of, line_of, buffer_lines, text_of, array_of, written}
use Rattle.sq_written_laws.specs.Alike.{straight, AreAlike}
use Rattle.sq_written_laws.specs.Again.{again, IsInOrder, IsSamePlan, RunsSo, HasSoundHeads}
use Rattle.sq_written_laws.proofs.Straight.{alike_within}
use Rattle.sq_written_laws.proofs.Running.{run_alike}
use Rattle.sq_written_laws.proofs.Ending.{alike_ends, alike_unordered}
use Rattle.sq_written_laws.proofs.Rows.{bare, left_tree, whole_tree}
use Rattle.sq_written_laws.proofs.Terms.{terms_alike}
use Rattle.sq_written_laws.proofs.Lines.{whole_sound, terms_sound}

-- ---- lists of lines

nodes_back : (ns : List PlanNode) → map node_of (map line_of ns) ≡ ns
nodes_back [] = refl
nodes_back (n ∷ ns) = ap (λ ms. n ∷ ms) (nodes_back ns)

buffers_back : (n : ℕ) (os : List ℕ) (bs : List Buffer) → map buffer_of (buffer_lines n os bs) ≡ bs
buffers_back n os [] = refl
buffers_back n os (b ∷ bs) = ap (λ cs. b ∷ cs) (buffers_back (suc n) os bs)

get_behind : (before : List ℕ) (o : ℕ) (os : List ℕ) → get_or (before ++ o ∷ os) (length before) 0 ≡ o
get_behind [] o os = refl
get_behind (p ∷ before) o os = get_behind before o os

length_more : (before : List ℕ) (o : ℕ) → length (before ++ o ∷ []) ≡ suc (length before)
length_more [] o = refl
length_more (p ∷ before) o = ap suc (length_more before o)

offsets_back : (before os : List ℕ) (bs : List Buffer) → length os ≡ length bs → map (λ b. b.offset) (buffer_lines (length before) (before ++ os) bs) ≡ os
offsets_back before [] [] e = refl
offsets_back before [] (b ∷ bs) e = absurd (cc)
offsets_back before (o ∷ os) [] e = absurd (cc)
offsets_back before (o ∷ os) (b ∷ bs) e =
    let more = before ++ o ∷ [] in
    let rest = λ (n : ℕ). λ (l : List ℕ). map (λ b. b.offset) (buffer_lines n l bs) in
    ap (λ m. m ∷ rest (suc (length before)) (before ++ o ∷ os)) (get_behind before o os)
    ∙ ap (λ ms. o ∷ ms) (ap (λ n. rest n (before ++ o ∷ os)) (sym (length_more before o))
    ∙ ap (rest (length more)) (sym (append_assoc before (o ∷ []) os)) ∙ offsets_back more os bs (let h = e in omega (arith, h)))

leaves_back : (ls : List Leaf) → All (λ l. numbers_of (text_of l) ≡ l.code.numbers) ls → map leaf_of (map text_of ls) ≡ ls
leaves_back [] h = refl
leaves_back (l ∷ ls) h =
    ap (λ ns. record { instance = l.instance; code = record { variant = l.code.variant; numbers = ns } } ∷ map leaf_of (map text_of ls)) (h 0 l (omega arith))
    ∙ ap (λ ks. l ∷ ks) (leaves_back ls (λ k d lt. h (suc k) d (omega arith)))

entry_back : (xs : List EntryArray) → map (λ a. a.buffer) (map array_of xs) ≡ map (λ a. a.buffer) xs
entry_back [] = refl
entry_back (a ∷ xs) = ap (λ bs. a.buffer ∷ bs) (entry_back xs)

-- ---- the plan

abbrev made : Term → List Buffer → List Leaf → (entry offsets : List ℕ) → List PlanNode → Plan
made t bs ls entry offsets nodes = record {
  draft = record { term = t; buffers = bs; leaves = ls; entry = entry; notes = [] };
  offsets = offsets;
  nodes = nodes;
}

plans_same : (t u : Term) (b c : List Buffer) (l k : List Leaf) (e d o q : List ℕ) (n m : List PlanNode) → t ≡ u → b ≡ c → l ≡ k → e ≡ d → o ≡ q → n ≡ m
    → made t b l e o n ≡ made u c k d q m
plans_same t u b c l k e d o q n m x y z w v s = cc

module _ (f : PlanFile) (order : IsInOrder f) (formed : IsWellFormed (leaves_of f.plan.draft) f.plan) where
  abbrev p : Plan
  p = f.plan

  abbrev lines : Left
  lines = left_of (setting_of p) p.draft.term at_root

  abbrev read : Plan
  read = made (term_of p.nodes (whole lines)) p.draft.buffers p.draft.leaves p.draft.entry p.offsets p.nodes

  pub again_is : again f ≡ read
  again_is =
      let nodes = nodes_back p.nodes in
      plans_same _ (term_of p.nodes (whole lines)) _ p.draft.buffers _ p.draft.leaves _ p.draft.entry _ p.offsets _ p.nodes
      (ap (λ ns. term_of ns (whole lines)) nodes) (buffers_back 0 p.offsets p.draft.buffers) (leaves_back p.draft.leaves order.numbers)
      (entry_back f.arrays ∙ order.entry) (offsets_back [] p.offsets p.draft.buffers formed.offsets) nodes

  scoped_alike : (bs : List ℕ) (t u : PlanTree) → AreAlike t u → AreAlike (scoped 0 bs t) (scoped 0 bs u)
  scoped_alike [] t u h = h
  scoped_alike (b ∷ bs) t u h = alike_within (record { node = 0; buffers = b ∷ bs }) t u h

  read_alike : AreAlike (tree_of read) (tree_of p)
  read_alike =
      let asked = IsAllowed (leaves_of p.draft) (setting_of p) in
      scoped_alike p.draft.entry (tree_written (setting_of p) (term_of p.nodes (whole lines)) at_root) (tree_written (setting_of p) p.draft.term at_root)
      (ap straight (whole_tree p lines at_root) ∙ sym (terms_alike p formed.nodes asked p.draft.term at_root (root p) p.draft.entry (agree-root p formed.nodes) formed.term))

  pub same_plan : IsSamePlan (again f) p
  same_plan = record {
    setting = ap setting_of again_is;
    leaves = ap (λ q. leaves_of q.draft) again_is;
    entry = ap (λ q. q.draft.entry) again_is;
    nodes = ap (λ q. q.nodes) again_is;
    tree = ap (λ q. straight (tree_of q)) again_is ∙ read_alike;
  }

  pub runs_so : RunsSo (again f) p
  runs_so =
      let q = again f in
      let tree = same_plan.tree in
      record {
        states = run_alike (tree_of q) (tree_of p) (normal-entry (setting_of q) q.draft.entry q.draft.term at_root) (normal-entry (setting_of p) p.draft.entry p.draft.term at_root) tree;
        ends = λ w m. alike_ends w (tree_of q) (tree_of p) m tree;
      }

good_again : (f : PlanFile) → IsInOrder f → IsGood (leaves_of f.plan.draft) f.plan
    → IsWellFormed (leaves_of (again f).draft) (again f) → IsGood (leaves_of (again f).draft) (again f)
good_again f order good formed =
    let p = f.plan in
    let q = again f in
    let same = same_plan f order good.well_formed in
    let runs = runs_so f order good.well_formed in
    let apart = (independent_by_form Trap (leaves_of p.draft) (tree_of p)).there good.independent in
    let there = alike_unordered (AreIndependent (leaves_of p.draft)) (tree_of p) (tree_of q) (sym same.tree) apart in
    record {
      well_formed = formed;
      independent = (independent_by_form Trap (leaves_of q.draft) (tree_of q)).back (subst (λ l. AllUnordered (AreIndependent l) (tree_of q)) (sym same.leaves) there);
      room = λ turns. subst (λ s. HaveRoom s (open_scopes (after_turns (tree_of q) turns))) (sym same.setting) (subst (HaveRoom (setting_of p)) (sym (runs.states turns).scopes) (good.room turns));
      entry = subst (λ s. HaveRoom s (record { node = 0; buffers = q.draft.entry } ∷ [])) (sym same.setting) (subst (λ bs. HaveRoom (setting_of p) (record { node = 0; buffers = bs } ∷ [])) (sym same.entry) good.entry);
    }

-- ---- sound lines

small_sizes : (ns : List PlanNode) (n : ℕ) (os : List ℕ) (bs : List Buffer) → All (IsBufferLine ns) (buffer_lines n os bs)
    → (b : ℕ) → of_buffer bs (λ b. b.size) b ≤ 2 ^ 30
small_sizes ns n os [] h b = omega arith
small_sizes ns n os (x ∷ bs) h zero = let one = (h 0 (buffer_line nowhere x.level (get_or os n 0) x.size x.instance x.array) (omega arith)).within in omega (arith, one)
small_sizes ns n os (x ∷ bs) h (suc b) = small_sizes ns (suc n) os bs (λ k d lt. h (suc k) d (omega (arith, lt))) b

pub written_sound : (f : PlanFile) → IsInOrder f → IsWellFormed (leaves_of f.plan.draft) f.plan → HasSoundHeads f → IsSound (written f)
written_sound f order formed heads =
    let p = f.plan in
    let x = written f in
    let same = same_plan f order formed in
    let sizes = small_sizes (nodes_of x) 0 p.offsets p.draft.buffers heads.buffers in
    let a = terms_sound p x formed.nodes same.nodes same.setting same.leaves sizes p.draft.term at_root (root p) p.draft.entry (agree-root p formed.nodes) heads.views in
    record {
      nodes = subst AreNodes (sym same.nodes) formed.nodes;
      leaves = heads.leaves;
      buffers = heads.buffers;
      arrays = heads.arrays;
      events = subst (AreEvents x x.term at_root) (sym same.entry) (whole_sound p x (left_of (setting_of p) p.draft.term at_root) at_root p.draft.entry a);
    }

pub written_good : (f : PlanFile) → IsInOrder f → IsGood (leaves_of f.plan.draft) f.plan → HasSoundHeads f
    → IsGood (leaves_of (again f).draft) (again f)
written_good f order good heads = good_again f order good (sound_is_well_formed (written f) (written_sound f order good.well_formed heads))
