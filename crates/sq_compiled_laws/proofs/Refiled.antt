-- The text of a program's plan file is read again, and what it stands for runs as the program.
use Rattle.std.proofs.Common.{◌≡◌, ℕ, List, Option, Some, None, Ok, Err, refl, sym, ◌∙◌, ap, subst}
use Rattle.sq_text.specs.declared.fault.Fault.{Fault}
use Rattle.sq_leaf.specs.declared.trap.Trap.{Trap as LeafTrap}
use Rattle.sq_leaf.specs.Source.{Arrays}
use Rattle.sq_work.specs.Meaning.{Outcome}
use Rattle.sq_ir.specs.Runs.{Trap as Ending, End, exec}
use Rattle.sq_ir.specs.Events.{Bytes, meaning}
use Rattle.sq_ir.specs.DraftLeaves.{leaves_of}
use Rattle.sq_ir.specs.Plans.{setting_of, tree_of}
use Rattle.sq_spec.specs.Works.{flat}
use Rattle.sq_spec.specs.declared.resolved.Resolved.{Resolved}
use Rattle.sq_meant.specs.PlanGood.DraftLaws.PlanLaws.Codes.{Codes}
use Rattle.sq_meant.specs.PlanGood.DraftLaws.PlanLaws.Entry.{held_in, EndsSo}
use Rattle.sq_meant.specs.PlanGood.Good.{shapes_in}
use Rattle.sq_planfile.specs.File.{PlanFile}
use Rattle.sq_planfile.specs.Limits.{TextFault}
use Rattle.sq_filed_laws.specs.WrittenLaws.Moved.{TrapAlike}
use Rattle.sq_filed_laws.specs.Filed.{IsSameFile, GoodAreFiled}
use Rattle.sq_filed_laws.proofs.Filed.{few_levels, short}
use Rattle.sq_compiled_laws.specs.Compiled.{IsCompiled, CompiledAreInOrder, CompiledHaveSoundHeads, CompiledAreReadable}
use Rattle.sq_compiled_laws.specs.Refiled.{EndsLike, IsRefiled}

no_trap : (o : Option (Ending LeafTrap)) → TrapAlike o None → o ≡ None
no_trap None h = refl
no_trap (Some t) h = absurd h

same_trap : (o : Option (Ending LeafTrap)) (path : List ℕ) (trap : LeafTrap)
    → TrapAlike o (Some (record { path = path; cause = trap }))
    → (its : LeafTrap) × (o ≡ Some (record { path = path; cause = its })) × (its.kind ≡ trap.kind)
same_trap None path trap h = absurd h
same_trap (Some t) path trap h = (t.cause, ap (λ q. Some (record { path = q; cause = t.cause })) h.0, h.1)

module _ (r : Resolved) (f g : PlanFile) (same : IsSameFile f g) (m : Bytes) where
  abbrev ours : End Bytes LeafTrap
  ours = exec (meaning (leaves_of f.plan.draft)) (tree_of f.plan) m

  abbrev theirs : End Bytes LeafTrap
  theirs = exec (meaning (leaves_of g.plan.draft)) (tree_of g.plan) m

  ended : (after : Arrays) → EndsSo (setting_of f.plan) (shapes_in r) f.plan.draft.entry (Ok after) ours
      → EndsSo (setting_of f.plan) (shapes_in r) f.plan.draft.entry (Ok after) theirs
  ended after so =
      let alike = same.ends m in (
        no_trap theirs.trap (subst (λ o. TrapAlike theirs.trap o) so.0 alike.trap),
        alike.finished ∙ so.1,
        subst (λ (b : Bytes). Codes (shapes_in r) after (held_in (setting_of f.plan) f.plan.draft.entry b)) (sym alike.bytes)
            so.2,
      )

  like : (o : Outcome) → EndsSo (setting_of f.plan) (shapes_in r) f.plan.draft.entry o ours
      → EndsLike (setting_of g.plan) (shapes_in r) g.plan.draft.entry o theirs
  like (Ok after) so =
      subst (λ s. EndsSo s (shapes_in r) g.plan.draft.entry (Ok after) theirs) (sym same.setting)
      (subst (λ (bs : List ℕ). EndsSo (setting_of f.plan) (shapes_in r) bs (Ok after) theirs) (sym same.entry)
      (ended after so))
  like (Err x) so = same_trap theirs.trap x.path x.trap (subst (λ o. TrapAlike theirs.trap o) so (same.ends m).trap)

module _ (orders : CompiledAreInOrder) (heads : CompiledHaveSoundHeads) (readable : CompiledAreReadable)
    (files : GoodAreFiled) where
  pub refiled : (r : Resolved) (f : PlanFile) → IsCompiled r f → ((its : Fault) → TextFault f its → ⊥) → IsRefiled r f
  refiled r f its kept =
      let read = files f its.good.good (orders r f its) (heads r f its)
      (readable r f its (few_levels f kept) (short f kept)) kept in
      record {
        read = read;
        meant = λ a m input. like r f read.file read.same m (flat r.typed.now r.mapping.now a) (its.good.ends a m input);
      }
