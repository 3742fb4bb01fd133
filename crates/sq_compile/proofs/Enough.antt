-- The loops that were taken have iterations for the nodes of their forms.
use Rattle.std.proofs.Common.{◌≡◌, ℕ, zero, suc, ◌+◌, ◌<◌, ◌≤◌, max, Bool, true, false, ◌&&◌, List, [], ◌∷◌, map}
use Rattle.std.proofs.Common.{length, get_or, nat_le, nat_lt, refl, sym, subst, if◌then◌else◌, arith}
use Rattle.std.proofs.lemmas.Bool.Decides.{nat_tests}
use Rattle.std.specs.List.{list_all}
use Rattle.sq_machfile.specs.declared.node.Node.{Node}
use Rattle.sq_spec.proofs.FormLaws.RanHold.{as_many_forms}
use Rattle.sq_ir.specs.Plans.{node_at}
use Rattle.sq_spec.specs.declared.statement.LoopKind.{LoopKind}
use Rattle.sq_spec.specs.declared.statement.LoopKind.TheVariants as loop_kind
use Rattle.sq_spec.specs.declared.statement.CallInstance.{CallInstance}
use Rattle.sq_spec.specs.declared.body.FormBody.{FormBody}
use Rattle.sq_spec.specs.declared.resolved.Resolved.{Resolved}
use Rattle.sq_plan_good.specs.Homes.Placed.Pipes.{CallLoop, call_loops_of}
use Rattle.sq_pass_laws.specs.Term.Terms.{body_in}
use Rattle.sq_pass_laws.specs.TermLaws.Orders.{EachOf}
use Rattle.sq_plan_good.proofs.ProgramLaws.Loops.{each_at, left_true, right_true}
use Rattle.sq_plan_good.specs.Homes.Chosen.Forms.{bodies_of}
use Rattle.sq_plan_good.specs.DraftLaws.Choosing.{Walked}
use Rattle.sq_plan_good.proofs.DraftLaws.Programs.{bodies_are_tables}
use Rattle.sq_plan_good.specs.DraftLaws.Memories.{plan_node}
use Rattle.sq_pass_laws.specs.Hoist.Counts.{total}
use Rattle.sq_plan_good.specs.Room.{machine_setting, IsEnough, HasEnough}
use Rattle.sq_pass_laws.specs.Pipe.Runs.{Marks, is_marked, marks_of, most_children}
use Rattle.sq_pass_laws.specs.Pipe.Candidates.{may_overlap, have_one_form}
use Rattle.sq_pass_laws.specs.Pipe.Greedy.{overlapped}
use Rattle.sq_pass_laws.proofs.Candidates.{one_form}
use Rattle.sq_pass_laws.proofs.Choices.{homes}
use Rattle.sq_pass_laws.proofs.Loops.{LoopMay}
use Rattle.sq_pass_laws.proofs.PipePrograms.{MayAt, loops_may}
use Rattle.sq_pass_laws.proofs.PipePrograms as programs
use Rattle.sq_compile.specs.Room.{RunsAreMarked, OverlapsHaveEnough}

-- ---- how many children a marked node has

not_less : (marks : Marks) (n : ℕ) (nodes : List Node) (least : ℕ) → least ≤ most_children marks n nodes least
not_less marks n [] least = omega arith
not_less marks n (node ∷ nodes) least =
    let first = by (is_marked marks n) in
    let rest = not_less marks (n + 1) nodes (if is_marked marks n then max node.children least else least) in
    omega (arith, first, rest)
  where
    by : (t : Bool) → least ≤ (if t then max node.children least else least)
    by true = omega arith
    by false = omega arith

-- no more than there are at most
few_children : (marks : Marks) (n : ℕ) (nodes : List Node) (least i : ℕ) → is_marked marks (n + i) ≡ true
    → (node_at (map plan_node nodes) i).children ≤ most_children marks n nodes least
few_children marks n [] least zero e = omega arith
few_children marks n [] least (suc i) e = omega arith
few_children marks n (node ∷ nodes) least zero e =
    let z : n + 0 ≡ n = omega arith in
    let rest = not_less marks (n + 1) nodes (if is_marked marks n then max node.children least else least) in
    let first = by (is_marked marks n) (subst (λ k. is_marked marks k ≡ true) z e) in
    omega (arith, first, rest)
  where
    by : (t : Bool) → t ≡ true → node.children ≤ (if t then max node.children least else least)
    by true e = omega arith
    by false e = absurd (cc e)
few_children marks n (node ∷ nodes) least (suc i) e =
    let z : n + suc i ≡ n + 1 + i = omega arith in
    few_children marks (n + 1) nodes (if is_marked marks n then max node.children least else least) i
    (subst (λ k. is_marked marks k ≡ true) z e)

-- ---- how many iterations a loop has that may overlap

all_at : (p : ℕ → Bool) (ns : List ℕ) → list_all p ns ≡ true → (i : ℕ) → i < length ns → p (get_or ns i 0) ≡ true
all_at p [] h i lt = absurd (omega (arith, lt))
all_at p (n ∷ ns) h zero lt = left_true (p n) (list_all p ns) h
all_at p (n ∷ ns) h (suc i) lt = all_at p ns (right_true (p n) (list_all p ns) h) i (omega (arith, lt))

two_are : (n : ℕ) → nat_le 2 n ≡ true → 0 < n
two_are n e = grind (arith, nat_tests, e)

more_are : (m n : ℕ) → nat_lt m n ≡ true → m < n
more_are m n e = grind (arith, nat_tests, e)

some_counts : (rows : List CallInstance) (counts : List ℕ) → have_one_form rows ≡ true → length rows ≡ total counts
    → 0 < length counts
some_counts [] counts e many = absurd (cc e)
some_counts (q ∷ rows) [] e many = absurd (omega (arith, many))
some_counts (q ∷ rows) (n ∷ counts) e many = omega arith

module _ (leaves : ℕ → List ℕ) (most children : ℕ) (few : children ≤ most) where
  each_enough : (m : LoopKind) (spread : Bool) (counts : List ℕ) (rows : List CallInstance)
      → may_overlap leaves most m spread counts rows ≡ true → (i : ℕ) → i < length counts
      → IsEnough m children (get_or counts i 0)
  each_enough loop_kind.Sequential spread counts rows e i lt =
      two_are (get_or counts i 0) (all_at (λ n. nat_le 2 n) counts (second (have_one_form rows) _ _ e) i lt)
    where
      second : (x y z : Bool) → (x && y && z) ≡ true → y ≡ true
      second true true z e = refl
      second true false z e = absurd (cc e)
      second false true z e = absurd (cc e)
      second false false z e = absurd (cc e)
  each_enough loop_kind.Parallel spread counts rows e i lt =
      let more = more_are most (get_or counts i 0)
      (all_at (λ n. nat_lt most n) counts (third spread (have_one_form rows) _ e) i lt) in
      omega (arith, few, more)
    where
      third : (x y z : Bool) → (x && y && z) ≡ true → z ≡ true
      third true true z e = e
      third true false z e = absurd (cc e)
      third false true z e = absurd (cc e)
      third false false z e = absurd (cc e)
  each_enough (loop_kind.Reduction s) spread counts rows e i lt = tt

-- ---- a program

module _ (r : Resolved) (w : Walked r) where
  abbrev leaves : ℕ → List ℕ
  leaves = programs.leaves r (marks_of r)

  abbrev most : ℕ → ℕ
  most = programs.children r (marks_of r)

  all_may : (k : ℕ) → EachOf (MayAt r w k) (call_loops_of (body_in (bodies_of r) k).body)
  all_may k = subst (λ (x : FormBody). EachOf (MayAt r w k) (call_loops_of x.body))
      (sym (bodies_are_tables as_many_forms r k)) (loops_may r w k)

  enough : (k node : ℕ) → is_marked (get_or (marks_of r) k []) node ≡ true → (l : CallLoop)
      → LoopMay (homes r) leaves (most k) l → HasEnough ((machine_setting r (overlapped r)).children node) l
  enough k node marked l may =
      let z : node ≡ 0 + node = omega arith in
      let marks = get_or (marks_of r) k [] in
      let few = few_children marks 0 r.machine.now.nodes 0 node (subst (λ n. is_marked marks n ≡ true) z marked) in
      record {
        some = some_counts l.rows l.counts (one_form leaves (most k) l.kind may.spread l.counts l.rows may.may)
            may.many;
        each = each_enough leaves (most k) ((machine_setting r (overlapped r)).children node) few l.kind may.spread
            l.counts l.rows may.may;
      }

pub overlaps_have_enough : RunsAreMarked → OverlapsHaveEnough
overlaps_have_enough marked r w limits k node i l runs at o =
    enough r w k node (marked r w limits k node runs) l
    (each_at (MayAt r w k) (call_loops_of (body_in (bodies_of r) k).body) i l (all_may r w k) at o)
