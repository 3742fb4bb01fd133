-- Where the tables of a program's forms bring each buffer to some node, all buffers of its plan end within 2^30 bytes.
use Rattle.std.proofs.Common.{◌≡◌, ℕ, zero, suc, ◌+◌, ◌<◌, ◌≤◌, ◌^◌, List, [], ◌∷◌, length, get_or, slice_get, Some, None, sym, ap, ap₂, ◌∙◌, subst, arith}
use Rattle.sq_machfile.specs.Machines.{WithinLimits}
use Rattle.sq_ir.specs.Written.{Setting, at_root}
use Rattle.sq_ir.specs.Plans.{placed}
use Rattle.sq_ir.specs.declared.term.Term.{Term}
use Rattle.sq_ir.specs.declared.term.Term.TheVariants as term
use Rattle.sq_ir.specs.declared.plan.Buffer.{Buffer}
use Rattle.sq_ir.specs.declared.plan.Draft.{Draft}
use Rattle.sq_ir.specs.declared.plan.Plan.{Plan}
use Rattle.sq_ir.specs.declared.plan.PlanNode.{PlanNode}
use Rattle.sq_nests.specs.Drafts.{whole, IsPlaceable}
use Rattle.sq_nests.specs.Nests.{scopes_of}
use Rattle.sq_nests.specs.Stacks.{total, sum_at}
use Rattle.sq_store.specs.Place.{IsPlaced}
use Rattle.sq_store.specs.Walk.{offsets_of}
use Rattle.sq_store.proofs.Walks.{all_laid}
use Rattle.sq_spec.specs.declared.resolved.Resolved.{Resolved}
use Rattle.sq_meant.specs.PlanGood.DraftLaws.Choosing.{Walked, MayBeChosen}
use Rattle.sq_meant.specs.PlanGood.DraftLaws.Drafts.{limits}
use Rattle.sq_meant.specs.PlanGood.DraftLaws.Given.{level_at}
use Rattle.sq_meant.specs.PlanGood.Homes.Chosen.declared.choice.Choice.{Choice}
use Rattle.sq_meant.specs.PlanGood.Homes.Chosen.Forms.{bodies_of}
use Rattle.sq_meant.specs.PlanGood.Homes.Drafts.{homes_of, args_of, entry_of, IsDraftOf}
use Rattle.sq_meant.specs.PlanGood.Loops.{entry_stand}
use Rattle.sq_meant.specs.PlanGood.Planned.{memories_of}
use Rattle.sq_meant.specs.PlanGood.Term.Terms.{body_in, homes_in}
use Rattle.sq_meant.proofs.PlanGood.Drafts.{last, laid, whole_sum}
use Rattle.sq_meant.proofs.PlanGood.DraftLaws.Memories.{nodes_are_memories}
use Rattle.sq_meant.proofs.PlanGood.DraftLaws.Placeable.{drafts_are_placeable}
use Rattle.sq_meant.proofs.PlanGood.DraftLaws.Programs.{term_is_entrys}
use Rattle.sq_compiled_laws.proofs.BufferLines.{EndWithin}
use Rattle.sq_compiled_laws.proofs.BufferRoom.{one, seen, seen_ends}
use Rattle.sq_compiled_laws.proofs.EntryArrays.{of_there}

below : {A : Type 0} (xs : List A) (i : ℕ) (x : A) → slice_get xs i ≡ Some x → i < length xs
below [] i x e = absurd (cc e)
below (y ∷ xs) zero x e = omega arith
below (y ∷ xs) (suc i) x e = let l = below xs i x e in omega (arith, l)

-- what the tables of these choices bring to a node, where the buffer alone has a size
abbrev pub brings : Resolved → List Choice → Setting → (b node : ℕ) → ℕ
brings r choices s b node =
    entry_stand (seen s b) (body_in (bodies_of r)) (homes_in (homes_of r choices)) node (length (bodies_of r)) (entry_of r choices)

-- Each buffer of a draft is brought to some node: by the entry, or by a call or a loop that is begun.
pub record AreBrought (r : Resolved) (choices : List Choice) (d : Draft) : Type 0 where
  pub each : (offset : ℕ → ℕ) (b : ℕ) → b < length d.buffers
      → (node : ℕ) × (1 ≤ brings r choices (placed d.buffers (memories_of r) offset) b node)

module _ (r : Resolved) (w : Walked r) (limited : WithinLimits r.machine.now) (choices : List Choice) (may : MayBeChosen r choices)
    (p : Plan) (its : IsDraftOf r choices p.draft) (is_placed : IsPlaced p.draft (memories_of r) p) (brought : AreBrought r choices p.draft) where
  abbrev d : Draft
  d = p.draft

  abbrev nodes : List PlanNode
  nodes = memories_of r

  can : IsPlaceable d nodes
  can = drafts_are_placeable r w choices may d its nodes (nodes_are_memories r.machine.now limited)

  abbrev s : Setting
  s = placed d.buffers nodes (λ b. get_or (offsets_of d) b 0)

  -- what is brought is what the scopes of the term written out name
  sum_is : (b node : ℕ) → sum_at (total (one b)) node (scopes_of (seen s b) (whole d) at_root) ≡ brings r choices s b node
  sum_is b node =
      ap₂ (λ (e : List ℕ) (y : Term). sum_at (total (one b)) node (scopes_of (seen s b) (term.Within None e y) at_root)) its.entry
      (its.term ∙ term_is_entrys (bodies_of r) (homes_of r choices) (args_of r))
      ∙ whole_sum (seen s b) node (body_in (bodies_of r)) (homes_in (homes_of r choices)) limits (last r w choices may nodes) (level_at r)
      (laid r w choices may nodes) (length (bodies_of r)) (args_of r) (entry_of r choices)

  ends_at : (b : ℕ) → b < length d.buffers → get_or (offsets_of d) b 0 + s.size b ≤ 2 ^ 30
  ends_at b lt =
      let h = brought.each (λ c. get_or (offsets_of d) c 0) b lt in
      seen_ends d nodes (offsets_of d) can (all_laid d can.before can.stacks) is_placed.space b h.0
      (subst (λ (n : ℕ). 1 ≤ n) (sym (sum_is b h.0)) h.1)

  pub ends_within : EndWithin (2 ^ 30) p
  ends_within = record {
    ends = λ b x e.
        let end = ends_at b (below d.buffers b x e) in
        let size = of_there d.buffers (λ (c : Buffer). c.size) b x e in
        let offset = ap (λ (q : Plan). get_or q.offsets b 0) is_placed.is in
        omega (arith, end, size, offset);
  }
