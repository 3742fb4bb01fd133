-- The first fault of a plan file's heads, group by group, and what its events add.
use Rattle.std.proofs.Common.{◌≡◌, inl, inr, ℕ, Bool, true, false, List, [], ◌∷◌, ◌++◌, append_assoc, append-nil, Option, Some, None, Result, Ok, Err, refl, sym, ap, ◌∙◌, subst, arith}
use Rattle.std.proofs.lemmas.List.Elements.{All-from_recursion, recursion_from_All}
use Rattle.sq_text.specs.declared.code.Code.TheVariants as code
use Rattle.sq_text.specs.declared.code.Phase.TheVariants.{Plan}
use Rattle.sq_text.specs.declared.fault.Fault.{Fault}
use Rattle.sq_text.specs.declared.fault.Stop.{Stop}
use Rattle.sq_text.specs.declared.fault.Stop.TheVariants.{Refused, NoMemory}
use Rattle.sq_text.specs.First.{AtOrBefore, InTurn, in_turn}
use Rattle.sq_text.specs.Faults.{fault_place, fault_number, IsFirst}
use Rattle.sq_text.specs.Found.{firsts, nothing_found}
use Rattle.sq_text.proofs.Firsts.{first_in_turn}
use Rattle.sq_ir.specs.Machines.{AreNodes}
use Rattle.sq_ir.specs.declared.plan.Leaf.{Leaf}
use Rattle.sq_plantext.specs.declared.text.BufferLine.{BufferLine}
use Rattle.sq_plantext.specs.declared.text.ArrayLine.{ArrayLine}
use Rattle.sq_plantext.specs.declared.text.PlanText.{PlanText}
use Rattle.sq_planfile.specs.Files.{nodes_of}
use Rattle.sq_planfile.specs.Limits.{no_place}
use Rattle.sq_planfile.specs.Sound.{IsLeafText, IsBufferLine, IsArrayLine, AreArrays}
use Rattle.sq_planfile.specs.Faults.{NodeFault, LeafFault, BufferFault, ArrayFault, EventFault, LineFault}
use Rattle.sq_planheads.specs.Nodes.{deepest, are_nodes}
use Rattle.sq_planheads.specs.Buffers.{buffer_breach}
use Rattle.sq_planheads.specs.Arrays.{sites, array_breach}
use Rattle.sq_planheads.specs.Leaves.{leaf_breach, CompilesTo}
use Rattle.sq_planheads.specs.Heads.{AreHeads, HeadFault, Compiles, Behind, line_fault}
use Rattle.sq_planheads.proofs.Members.{all_at}
use Rattle.sq_planheads.proofs.NodesTell.{nodes_tell}
use Rattle.sq_planheads.proofs.FirstFaults.{first_buffer, sound_buffers, first_array, sound_arrays}
use Rattle.sq_planheads.proofs.LeavesTell.{first_leaf, sound_leaves, all_compiled}

-- a fault is at or before itself
at_itself : (f g : Fault) → g ≡ f → AtOrBefore fault_place fault_number f g
at_itself f g e = inr (ap fault_place (sym e), let n : fault_number f ≡ fault_number g = ap fault_number (sym e) in omega arith)

differ : (b : Bool) → b ≡ true → b ≡ false → ⊥
differ true t f = cc
differ false t f = cc

-- ---- sound heads have no fault

array_at : (buffers : List BufferLine) (before between : List ArrayLine) (a : ArrayLine) (later : List ArrayLine) → AreArrays buffers before (between ++ a ∷ later) → IsArrayLine buffers (before ++ between) a
array_at buffers before [] a later h = subst (λ before. IsArrayLine buffers before a) (sym (append-nil before)) h.0
array_at buffers before (b ∷ between) a later h =
    subst (λ before. IsArrayLine buffers before a) (append_assoc before (b ∷ []) between) (array_at buffers (before ++ b ∷ []) between a later h.1)

module _ (x : PlanText) (are : AreHeads x) where
  no_node : (f : Fault) → NodeFault x f → ⊥
  no_node f h = h.0 are.nodes

  no_leaf : (f : Fault) → LeafFault x f → ⊥
  no_leaf f h = h.bad (all_at IsLeafText x.leaves (recursion_from_All IsLeafText x.leaves are.leaves) h.index h.leaf h.there)

  no_buffer : (f : Fault) → BufferFault x f → ⊥
  no_buffer f h = h.bad (all_at (IsBufferLine (nodes_of x)) x.buffers (recursion_from_All (IsBufferLine (nodes_of x)) x.buffers are.buffers) h.index h.buffer h.there)

  no_array : (f : Fault) → ArrayFault x f → ⊥
  no_array f h = h.bad (array_at x.buffers [] h.before h.array h.later (subst (AreArrays x.buffers []) h.there are.arrays))

  -- sound heads have no fault
  pub no_head_fault : IsFirst (HeadFault x) None
  no_head_fault f (inl h) = no_node f h
  no_head_fault f (inr (n, inl h)) = no_leaf f h
  no_head_fault f (inr (n, inr (l, inl h))) = no_buffer f h
  no_head_fault f (inr (n, inr (l, inr (b, h)))) = no_array f h

  -- of lines with sound heads the first fault is that of the events
  pub first_of_events : (o : Option Fault) → IsFirst (EventFault x) o → IsFirst (LineFault x) o
  first_of_events o h =
      first_in_turn fault_place fault_number (NodeFault x) _ None o no_node
      (λ u. first_in_turn fault_place fault_number (LeafFault x) _ None o no_leaf
      (λ v. first_in_turn fault_place fault_number (BufferFault x) _ None o no_buffer
      (λ w. first_in_turn fault_place fault_number (ArrayFault x) (EventFault x) None o no_array (λ z. h))))

-- the first fault of the heads is the first of the lines
module _ (x : PlanText) where
  line_of_head : (f : Fault) → HeadFault x f → LineFault x f
  line_of_head f (inl h) = inl h
  line_of_head f (inr (n, inl h)) = inr (n, inl h)
  line_of_head f (inr (n, inr (l, inl h))) = inr (n, inr (l, inl h))
  line_of_head f (inr (n, inr (l, inr (b, h)))) = inr (n, inr (l, inr (b, inl h)))

  head_of_line : (f g : Fault) → HeadFault x f → LineFault x g → HeadFault x g
  head_of_line f g h (inl k) = inl k
  head_of_line f g h (inr (n, inl k)) = inr (n, inl k)
  head_of_line f g h (inr (n, inr (l, inl k))) = inr (n, inr (l, inl k))
  head_of_line f g h (inr (n, inr (l, inr (b, inl k)))) = inr (n, inr (l, inr (b, k)))
  head_of_line f g h (inr (n, inr (l, inr (b, inr (a, k))))) = absurd (nothing h)
    where
      nothing : HeadFault x f → ⊥
      nothing (inl h) = n f h
      nothing (inr (u, inl h)) = l f h
      nothing (inr (u, inr (v, inl h))) = b f h
      nothing (inr (u, inr (v, inr (w, h)))) = a f h

  pub first_of_heads : (f : Fault) → IsFirst (HeadFault x) (Some f) → IsFirst (LineFault x) (Some f)
  first_of_heads f h = (line_of_head f h.0, λ g k. h.1 g (head_of_line f g h.0 k))

-- ---- what is answered

module _ (x : PlanText) where
  abbrev last : ℕ
  last = deepest 0 x.nodes

  pub bad_nodes : are_nodes last x.nodes ≡ false → IsFirst (HeadFault x) (Some (no_place code.BadNode))
  bad_nodes e =
      let bad : AreNodes (nodes_of x) → ⊥ = λ are. differ (are_nodes last x.nodes) ((nodes_tell x.nodes).1 are) e in
      first_in_turn fault_place fault_number (NodeFault x) _ (Some (no_place code.BadNode)) None
      ((bad, refl), λ g h. at_itself (no_place code.BadNode) g h.1) (λ u. absurd (cc))

  module _ (tested : are_nodes last x.nodes ≡ true) where
    are_sound : AreNodes (nodes_of x)
    are_sound = (nodes_tell x.nodes).0 tested

    not_nodes : (f : Fault) → NodeFault x f → ⊥
    not_nodes f h = h.0 are_sound

    first_line : IsFirst (InTurn (BufferFault x) (ArrayFault x)) (line_fault last x.buffers x.arrays)
    first_line = first_in_turn fault_place fault_number (BufferFault x) (ArrayFault x) (firsts (buffer_breach last) (nothing_found Plan) x.buffers).fault
        (firsts (array_breach x.buffers) (nothing_found Plan) (sites [] [] x.arrays)).fault (first_buffer x are_sound) (λ u. first_array x)

    first_head : IsFirst (HeadFault x) (in_turn (firsts leaf_breach (nothing_found Plan) x.leaves).fault (line_fault last x.buffers x.arrays))
    first_head = first_in_turn fault_place fault_number (NodeFault x) _ None (in_turn (firsts leaf_breach (nothing_found Plan) x.leaves).fault (line_fault last x.buffers x.arrays)) not_nodes
        (λ u. first_in_turn fault_place fault_number (LeafFault x) _ (firsts leaf_breach (nothing_found Plan) x.leaves).fault (line_fault last x.buffers x.arrays) (first_leaf x) (λ v. first_line))

    pub leaf_stop : (stop : Stop) → CompilesTo x.leaves (Err stop) → Compiles x (Err stop)
    leaf_stop NoMemory h = tt
    leaf_stop (Refused f) h = subst (λ o. IsFirst (HeadFault x) (in_turn o (line_fault last x.buffers x.arrays))) h first_head

    module _ (made : List Leaf) (compiled : CompilesTo x.leaves (Ok made)) where
      first_behind : IsFirst (HeadFault x) (line_fault last x.buffers x.arrays)
      first_behind = subst (λ o. IsFirst (HeadFault x) (in_turn o (line_fault last x.buffers x.arrays))) compiled.0 first_head

      line_stop : (f : Fault) → line_fault last x.buffers x.arrays ≡ Some f → Compiles x (Err (Refused f))
      line_stop f e = subst (IsFirst (HeadFault x)) e first_behind

      all_sound : line_fault last x.buffers x.arrays ≡ None → Compiles x (Ok made)
      all_sound e =
          let none : IsFirst (HeadFault x) None = subst (IsFirst (HeadFault x)) e first_behind in
          let no_leaf : IsFirst (LeafFault x) None = subst (IsFirst (LeafFault x)) compiled.0 (first_leaf x) in
          let no_buffer : (f : Fault) → BufferFault x f → ⊥ = λ f h. none f (inr (not_nodes, inr (no_leaf, inl h))) in
          let no_array : (f : Fault) → ArrayFault x f → ⊥ = λ f h. none f (inr (not_nodes, inr (no_leaf, inr (no_buffer, h)))) in
          let leaves = sound_leaves x no_leaf in (
            record { nodes = are_sound; leaves = All-from_recursion IsLeafText x.leaves leaves; buffers = sound_buffers x are_sound no_buffer; arrays = sound_arrays x no_array },
            compiled.1 ∙ all_compiled x.leaves leaves,
          )

      pub with_all : (result : Result (List Leaf) Stop) → Behind made (line_fault last x.buffers x.arrays) result → Compiles x result
      with_all (Ok leaves) h = let all = all_sound h.0 in (all.0, h.1 ∙ all.1)
      with_all (Err (Refused f)) h = line_stop f h
      with_all (Err NoMemory) h = tt
