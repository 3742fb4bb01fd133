-- A machine of which no fault holds keeps the limits.
use Rattle.std.proofs.Common.{◌≡◌, ℕ, zero, suc, ◌+◌, ◌≤◌, List, [], ◌∷◌, length, map, refl, ap, subst, arith, length-append, lit≤}
use Rattle.std.proofs.lemmas.List.{length-replicate}
use Rattle.std.specs.List.{flat_map}
use Rattle.sq_text.specs.declared.fault.Fault.{Fault}
use Rattle.sq_machfile.specs.declared.node.Node.{Node}
use Rattle.sq_machfile.specs.declared.text.LevelText.{LevelText}
use Rattle.sq_machfile.specs.declared.text.Below.{Below}
use Rattle.sq_machfile.specs.declared.text.LevelsText.{LevelsText}
use Rattle.sq_machfile.specs.declared.text.NodesText.{NodesText}
use Rattle.sq_machfile.specs.declared.text.MachineText.TheVariants.{Levels, Nodes}
use Rattle.sq_machfile.specs.Nodes.{total, children_of, below, AreArranged, linked}
use Rattle.sq_machfile.specs.Nesting.{nested}
use Rattle.sq_machfile.specs.Faults.{LimitFault}
use Rattle.sq_text.specs.Limits.{most_levels, most_nodes, most_children}
use Rattle.sq_machfile.proofs.Before.{all_clear}
use Rattle.sq_machfile.specs.Walk.{Count, at_root, uncut, no_names, before_nodes, after_level, after_children, all_node_rules}
use Rattle.sq_machfile.specs.Tallies.{FewChildren}
use Rattle.sq_machfile.specs.Machines.{WithinLimits, HasLevels, levels_of, even_nodes, even_machine, by_level, uneven_machine}
use Rattle.sq_machfile.proofs.Arranged.{same_in, total_linked}
use Rattle.sq_machfile.proofs.Clear.{Kept, NamesKept, NodesKept, levels_are_kept, names_are_kept, nodes_are_kept}
use Rattle.sq_machfile.proofs.EvenLimits.{small_fan, even_limits}
use Rattle.sq_machfile.proofs.EvenWhole.{within_even}
use Rattle.sq_machfile.proofs.Depths.{Rooted}
use Rattle.sq_machfile.proofs.UnevenWhole.{within_uneven, has_levels, words_few}

length_map : {X Y : Type 0} (f : X → Y) (xs : List X) → length (map f xs) ≡ length xs
length_map f [] = refl
length_map f (x ∷ xs) = ap suc (length_map f xs)

length_flat : (ns : List Node) → length (flat_map below ns) ≡ total children_of ns
length_flat [] = refl
length_flat (n ∷ ns) = let own : length (below n) ≡ n.children = length-replicate n.children (suc n.level) in omega (arith, length-append (below n) (flat_map below ns), own, length_flat ns)

-- every node but the root is a child
pub children_are : (ns : List Node) → AreArranged ns → length ns ≡ 1 + total children_of ns
children_are ns h =
    let same : length (map (λ (n : Node). n.level) ns) ≡ suc (length (flat_map below ns)) = ap length h.children in
    omega (arith, same, length_map (λ (n : Node). n.level) ns, length_flat ns)

small_total : (ns : List Node) → AreArranged (linked 1 ns) → length (linked 1 ns) ≤ most_nodes → total children_of ns ≤ most_nodes
small_total ns h le = omega (arith, children_are (linked 1 ns) h, total_linked children_of (λ n first. refl) 1 ns, le)

-- ---- version 1

kept_levels_of : (text : LevelsText) → ((f : Fault) → LimitFault (Levels text) f → ⊥) → Kept 0 at_root text.root text.below
kept_levels_of text none = levels_are_kept 0 at_root text.root text.below (all_clear (Levels text) none)

pub even_within_limits : (text : LevelsText) → ((f : Fault) → LimitFault (Levels text) f → ⊥) → WithinLimits (even_machine text)
even_within_limits text none = within_even text (even_limits text (kept_levels_of text none))

few_children : (i : ℕ) (c : Count) (l : LevelText) (rest : List Below) → Kept i c l rest → FewChildren rest
few_children i c l [] h zero b e = absurd (cc)
few_children i c l [] h (suc k) b e = absurd (cc)
few_children i c l (x ∷ rest) h zero b e = subst (λ (b : Below). b.children.value ≤ most_children) (same_in x b e) (small_fan x.children.value h.1.fan).1
few_children i c l (x ∷ rest) h (suc k) b e = few_children (suc i) (after_children uncut (after_level uncut c l) x.children) x.level rest h.2 k b e

pub even_few : (text : LevelsText) → ((f : Fault) → LimitFault (Levels text) f → ⊥) → FewChildren text.below
even_few text none = few_children 0 at_root text.root text.below (kept_levels_of text none)

pub even_small : (text : LevelsText) → ((f : Fault) → LimitFault (Levels text) f → ⊥) → total children_of (even_nodes 0 1 (levels_of text)) ≤ most_nodes
even_small text none = let w = even_within_limits text none in small_total (even_nodes 0 1 (levels_of text)) w.arranged w.nodes

-- ---- version 2

module _ (text : NodesText) (none : (f : Fault) → LimitFault (Nodes text) f → ⊥) where
  kept_names_of : NamesKept 0 no_names text.names
  kept_names_of = (names_are_kept 0 no_names text.names (all_node_rules uncut (length text.names) 0 before_nodes (nested text.nodes)) (all_clear (Nodes text) none)).0

  kept_nodes_of : NodesKept (length text.names) 0 before_nodes (nested text.nodes)
  kept_nodes_of = nodes_are_kept (length text.names) 0 before_nodes (nested text.nodes)
      (names_are_kept 0 no_names text.names (all_node_rules uncut (length text.names) 0 before_nodes (nested text.nodes)) (all_clear (Nodes text) none)).1

  pub uneven_within_limits : 1 ≤ length text.names → Rooted text.nodes → WithinLimits (uneven_machine text)
  uneven_within_limits some r = within_uneven text some r kept_names_of kept_nodes_of

  pub uneven_has_levels : HasLevels (Nodes text)
  uneven_has_levels = has_levels text kept_nodes_of

  pub uneven_few : length text.names ≤ most_levels
  uneven_few = let f : 0 + length text.names ≤ most_levels = words_few 0 no_names text.names kept_names_of (lit≤ tt) in omega arith

  pub uneven_small : 1 ≤ length text.names → Rooted text.nodes → total children_of (by_level 0 (length text.names) (nested text.nodes)) ≤ most_nodes
  uneven_small some r = let w = uneven_within_limits some r in small_total (by_level 0 (length text.names) (nested text.nodes)) w.arranged w.nodes
