-- Each buffer of a program's draft is the entry's or named by a scope, which is opened at some node.
use Rattle.std.proofs.Common.{◌≡◌, ◌⊎◌, ℕ, ◌<◌, ◌≤◌, List, length, None, sym, ◌∙◌, ap₂, subst}
use Rattle.std.specs.List.{Contains}
use Rattle.sq_machfile.specs.Machines.{WithinLimits}
use Rattle.sq_ir.specs.Scopes.{Scope}
use Rattle.sq_ir.specs.Written.{Setting, at_root}
use Rattle.sq_ir.specs.Plans.{placed}
use Rattle.sq_ir.specs.declared.term.Term.{Term}
use Rattle.sq_ir.specs.declared.term.Term.TheVariants as term
use Rattle.sq_ir.specs.declared.plan.Draft.{Draft}
use Rattle.sq_ir.specs.declared.plan.PlanNode.{PlanNode}
use Rattle.sq_nests.specs.Drafts.{whole, scopes}
use Rattle.sq_nests.specs.Nests.{Named, Scopes, named_in, scopes_of}
use Rattle.sq_nests.specs.Stacks.{total, sum_at}
use Rattle.sq_nests.proofs.Equations.{named_within}
use Rattle.sq_spec.specs.declared.resolved.Resolved.{Resolved}
use Rattle.sq_meant.specs.PlanGood.DraftLaws.Choosing.{Walked, MayBeChosen}
use Rattle.sq_meant.specs.PlanGood.DraftLaws.Drafts.{limits}
use Rattle.sq_meant.specs.PlanGood.DraftLaws.Given.{level_at}
use Rattle.sq_meant.specs.PlanGood.Homes.Chosen.declared.choice.Choice.{Choice}
use Rattle.sq_meant.specs.PlanGood.Homes.Chosen.Forms.{bodies_of}
use Rattle.sq_meant.specs.PlanGood.Homes.Drafts.{homes_of, args_of, entry_of, IsDraftOf}
use Rattle.sq_meant.specs.PlanGood.Planned.{memories_of}
use Rattle.sq_meant.specs.PlanGood.Term.Terms.{body_in, homes_in}
use Rattle.sq_meant.proofs.PlanGood.Drafts.{last, laid, whole_sum}
use Rattle.sq_meant.proofs.PlanGood.DraftLaws.Programs.{term_is_entrys}
use Rattle.sq_meant.proofs.PlanGood.DraftLaws.WalkedHolds.{walked_is_there}
use Rattle.sq_compiled_laws.specs.Buffers.{Somewhere, BuffersAreNamed, BuffersAreOpened}
use Rattle.sq_compiled_laws.proofs.BufferEnds.{brings, AreBrought}
use Rattle.sq_compiled_laws.proofs.BufferRoom.{one, seen, seen_scopes}
use Rattle.sq_compiled_laws.proofs.Scoped.{stands, is_named}
use Rattle.sq_compiled_laws.proofs.Started.{are_brought}
use Rattle.sq_compiled_laws.proofs.Starting.{are_started}

module _ (r : Resolved) (limited : WithinLimits r.machine.now) (choices : List Choice) (may : MayBeChosen r choices)
    (d : Draft) (its : IsDraftOf r choices d) where
  abbrev w : Walked r
  w = walked_is_there r

  abbrev nodes : List PlanNode
  nodes = memories_of r

  abbrev s : Setting
  s = placed d.buffers nodes (λ b. 0)

  -- what is brought is what the scopes of the term written out name
  sum_is : (b node : ℕ) → sum_at (total (one b)) node (scopes_of (seen s b) (whole d) at_root)
      ≡ brings r choices s b node
  sum_is b node =
      ap₂ (λ (e : List ℕ) (y : Term). sum_at (total (one b)) node (scopes_of (seen s b) (term.Within None e y) at_root))
      its.entry (its.term ∙ term_is_entrys (bodies_of r) (homes_of r choices) (args_of r))
      ∙ whole_sum (seen s b) node (body_in (bodies_of r)) (homes_in (homes_of r choices)) limits
      (last r w choices may nodes) (level_at r) (laid r w choices may nodes) (length (bodies_of r)) (args_of r)
      (entry_of r choices)

  brought : AreBrought r choices d
  brought = are_brought r w choices may (are_started r w limited choices may) d its

  opened : (b : ℕ) → b < length d.buffers → Somewhere (λ (z : Scope). Contains z.buffers b) (scopes d nodes)
  opened b lt =
      let h = brought.each (λ b. 0) b lt in
      stands b h.0 (scopes d nodes)
      (subst (λ (z : Scopes). 1 ≤ sum_at (total (one b)) h.0 z) (sym (seen_scopes s b (whole d) at_root))
      (subst (λ (n : ℕ). 1 ≤ n) (sym (sum_is b h.0)) h.1))

  named : (b : ℕ) → b < length d.buffers
      → Contains d.entry b ⊎ Somewhere (λ names. Contains names b) (named_in d.term)
  named b lt =
      subst (λ (n : Named). Somewhere (λ names. Contains names b) n) (named_within None d.entry d.term)
      (is_named s b (whole d) at_root (opened b lt))

pub buffers_are_opened : BuffersAreOpened
buffers_are_opened r limited choices may d its b lt = opened r limited choices may d its b lt

pub buffers_are_named : BuffersAreNamed
buffers_are_named r limited choices may d its b lt = named r limited choices may d its b lt
