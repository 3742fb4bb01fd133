-- Whole files, from their end: leaves, then buffers and nodes before them.
use Rattle.std.proofs.Common.{◌≡◌, ℕ, ◌+◌, ◌≤◌, List, [], ◌∷◌, ◌++◌, map, refl, sym, ap, arith, codes}
use Rattle.std.specs.List.{All}
use Rattle.std.proofs.lemmas.List.Elements.{All-head, All-tail}
use Rattle.sq_text.specs.declared.place.Place.{Place}
use Rattle.sq_text.specs.Places.{start}
use Rattle.sq_lexer.specs.declared.token.Sign.TheVariants as g
use Rattle.sq_lexer.specs.Tokens.{a_number}
use Rattle.sq_ast.specs.Unplaced.{nowhere}
use Rattle.sq_ast.specs.Canonical.{all_of, listed, spell_variant}
use Rattle.sq_ast.proofs.ReadBack.{places_in, are_placed}
use Rattle.sq_plantext.specs.Grammar.{most_levels, number, tokens_of, leaf_text, plan_text, Leveled, Leaves, APlan, Derives, no_leaves, one_more_leaf, a_plan}
use Rattle.sq_plantext.specs.Layout.{spell_node, spell_buffer, spell_binding, spell_leaf, spell_array, spell_term, laid, laid_out}
use Rattle.sq_plantext.specs.declared.text.NodeLine.{NodeLine}
use Rattle.sq_plantext.specs.declared.text.BufferLine.{BufferLine}
use Rattle.sq_plantext.specs.declared.text.LeafText.{LeafText}
use Rattle.sq_plantext.specs.declared.text.ArrayLine.{ArrayLine}
use Rattle.sq_plantext.specs.declared.text.TermText.{TermText}
use Rattle.sq_plantext.specs.declared.text.PlanText.{PlanText}
use Rattle.sq_planfile.specs.Limits.{depth}
use Rattle.sq_unplaced_laws.specs.Unplaced.{unplaced_buffer, unplaced_leaf, unplaced_array, unplaced_term, AreSame}
use Rattle.sq_layout_laws.specs.Readable.{IsReadableLeaf, IsReadable}
use Rattle.sq_layout_laws.specs.ReadBack.{LaidOutReadBack}
use Rattle.sq_layout_laws.proofs.Backwards.{a_token, are_tokens}
use Rattle.sq_layout_laws.proofs.Fronted.{Ready, Spelled, nothing, space, line, worded, shut}
use Rattle.sq_layout_laws.proofs.Events.{ended}
use Rattle.sq_layout_laws.proofs.Lines.{cons_same, nodes_told, buffers_told, bindings_told, arrays_told}
use Rattle.sq_layout_laws.proofs.Terms.{term_told}
use Rattle.sq_layout_laws.proofs.LeafTasks.{task_told}

one_level : 1 ≤ most_levels
unfolding most_levels
one_level = omega arith

module _ (placing : List ℕ → Place) where
  pub leaves_told : (ls : List LeafText) → All IsReadableLeaf ls → (rest : List ℕ) → (r : Ready placing most_levels rest)
      → Spelled placing most_levels (map unplaced_leaf) Leaves (map unplaced_leaf ls) (all_of (map spell_leaf ls) rest) r.from
  leaves_told [] h rest r = record { tree = []; same = refl; ready = r; derived = no_leaves }
  leaves_told (l ∷ ls) h rest r =
      let up : 0 ≤ most_levels = omega arith in
      let is = All-head IsReadableLeaf l ls h in
      let a = leaves_told ls (All-tail IsReadableLeaf l ls h) rest r in
      let others : List ℕ = all_of (map spell_leaf ls) rest in
      let b = task_told placing l.task is.task is.leaf others a.ready in
      let text : List ℕ = spell_variant l.task others in
      let after : Ready placing most_levels text = record { from = b.task ++ a.ready.from; within = b.within; reads = b.reads } in
      let close = shut placing most_levels g.ParenClose refl 0 up (codes "\n" ++ text) (line placing most_levels text after) in
      let c = bindings_told placing most_levels one_level l.numbers is.numbers (codes ")\n" ++ text) refl close in
      let inside : List ℕ = listed (map spell_binding l.numbers) (codes ")\n" ++ text) in
      let open_ = shut placing most_levels g.ParenOpen refl 1 one_level inside c.ready in
      let owner = worded placing most_levels l.instance 0 up is.instance (codes " (" ++ inside) refl (space placing most_levels (codes "(" ++ inside) open_) in
      let head : List ℕ = l.instance ++ (codes " (" ++ inside) in
      record {
        tree = leaf_text (placing (codes "leaf " ++ head)) l.instance l.numbers b.variant ∷ a.tree;
        same = cons_same {y = unplaced_leaf l} {xs = map unplaced_leaf a.tree} {ys = map unplaced_leaf ls} (ap (λ v. leaf_text nowhere l.instance l.numbers v) b.same) a.same;
        ready = worded placing most_levels (codes "leaf") 0 up (record { letter = refl; inside = refl }) (codes " " ++ head) refl (space placing most_levels head owner);
        derived = one_more_leaf b.task c.derived b.derived b.leaf a.derived;
      }

  -- `plan 1;`
  abbrev headed : (rest : List ℕ) → Ready placing most_levels rest → Ready placing most_levels (codes "1;\n" ++ rest)
  headed rest r =
      let end = ended placing most_levels 0 (omega arith) rest r in
      record {
        from = number 1 (placing (codes "1;\n" ++ rest)) 0 ∷ end.from;
        within = (omega arith, end.within);
        reads = a_token {front = codes "1"} (a_number refl refl refl (omega arith)) end.reads;
      }

all_same : (ns : List NodeLine) (bs cs : List BufferLine) (ls ks : List LeafText) (xs ys : List ArrayLine) (x y : TermText) → map unplaced_buffer bs ≡ map unplaced_buffer cs
    → map unplaced_leaf ls ≡ map unplaced_leaf ks → map unplaced_array xs ≡ map unplaced_array ys → unplaced_term x ≡ unplaced_term y
    → AreSame (plan_text ns bs ls xs x) (plan_text ns cs ks ys y)
all_same ns bs cs ls ks xs ys x y p q r s = cc

-- ---- files

-- the text of the lines, read from its end
record IsTold (placing : List ℕ → Place) (x : PlanText) (text : List ℕ) (left : List Leveled) : Type 0 where
  lines : PlanText
  same : AreSame x lines
  ready : Ready placing most_levels text
  derived : Derives (APlan lines) ready.from left

laid_told : (placing : List ℕ → Place) (x : PlanText) → IsReadable x → (rest : List ℕ) → (r : Ready placing most_levels rest) → IsTold placing x (laid x rest) r.from
laid_told placing x h rest r =
    let deep : 0 + depth x.term ≤ most_levels = let le = h.deep in omega (arith, le) in
    let term = term_told placing most_levels x.term 0 deep h.term rest r in
    let fifth : List ℕ = spell_term x.term rest in
    let arrays = arrays_told placing most_levels one_level x.arrays h.arrays fifth term.ready in
    let fourth : List ℕ = all_of (map spell_array x.arrays) fifth in
    let leaves = leaves_told placing x.leaves h.leaves fourth arrays.ready in
    let third : List ℕ = all_of (map spell_leaf x.leaves) fourth in
    let buffers = buffers_told placing most_levels x.buffers h.buffers third leaves.ready in
    let second : List ℕ = all_of (map spell_buffer x.buffers) third in
    let nodes = nodes_told placing most_levels x.nodes h.nodes second buffers.ready in
    let first : List ℕ = all_of (map spell_node x.nodes) second in
    let head = headed placing first nodes.ready in
    record {
      lines = plan_text x.nodes buffers.tree leaves.tree arrays.tree term.tree;
      same = all_same x.nodes x.buffers buffers.tree x.leaves leaves.tree x.arrays arrays.tree x.term term.tree (sym buffers.same) (sym leaves.same) (sym arrays.same) (sym term.same);
      ready = worded placing most_levels (codes "plan") 0 (omega arith) (record { letter = refl; inside = refl }) (codes " 1;\n" ++ first) refl (space placing most_levels (codes "1;\n" ++ first) head);
      derived = a_plan nodes.derived buffers.derived leaves.derived arrays.derived term.derived;
    }

pub read_back : LaidOutReadBack
read_back x h fits =
    let text : List ℕ = laid_out x in
    let placing : List ℕ → Place = places_in text in
    let a = laid_told placing x h [] (nothing placing most_levels) in
    record {
      lines = a.lines;
      writes = record {
        tokens = tokens_of a.ready.from;
        tokens_of = are_tokens a.ready.reads start (are_placed text);
        fits = fits;
        grammar = record { leveled = a.ready.from; tokens = refl; within = a.ready.within; text = (placing [], a.derived) };
      };
      same = a.same;
    }
