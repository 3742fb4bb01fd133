-- The plan file of a program's plan stays the same plan when it is written out, its lines are sound, and can be read.
use Rattle.std.proofs.Common.{◌≡◌, ℕ, ◌<◌, ◌≤◌, ◌^◌, List, [], ◌∷◌, length, refl, sym, subst}
use Rattle.sq_text.specs.declared.code.Phase.TheVariants.{Plan as PlanPhase}
use Rattle.sq_lexer.specs.Faults.{FitsFile}
use Rattle.sq_ast.specs.Grammar as grammar
use Rattle.sq_mapping.specs.declared.mapping.Instance.{Instance}
use Rattle.sq_ir.specs.declared.plan.Buffer.{Buffer}
use Rattle.sq_ir.specs.declared.plan.Leaf.{Leaf}
use Rattle.sq_ir.specs.declared.plan.PlanNode.{PlanNode}
use Rattle.sq_ir.specs.Machines.{AreNodes}
use Rattle.sq_ir.specs.Plans.{IsBuffer, setting_of}
use Rattle.sq_spec.specs.declared.resolved.Resolved.{Resolved}
use Rattle.sq_meant.specs.PlanGood.DraftLaws.Choosing.{Walked, MayBeChosen}
use Rattle.sq_meant.specs.PlanGood.Homes.Chosen.declared.choice.Choice.{Choice}
use Rattle.sq_meant.specs.PlanGood.Homes.Drafts.{IsDraftOf}
use Rattle.sq_meant.proofs.PlanGood.DraftLaws.Memories.{nodes_are_memories}
use Rattle.sq_meant.proofs.PlanGood.DraftLaws.WalkedHolds.{walked_is_there}
use Rattle.sq_plantext.specs.Grammar.{most_levels}
use Rattle.sq_plantext.specs.Layout.{laid_out}
use Rattle.sq_planfile.specs.File.{PlanFile}
use Rattle.sq_planfile.specs.Limits.{depth}
use Rattle.sq_planfile.specs.Written.{written}
use Rattle.sq_filed_laws.specs.LayoutLaws.Readable.{IsWord, IsReadable}
use Rattle.sq_filed_laws.specs.WrittenLaws.Again.{IsInOrder, HasSoundHeads}
use Rattle.sq_compiled_laws.specs.Compiled.{IsCompiled, HasSoundLeaves}
use Rattle.sq_compiled_laws.proofs.Each.{Each, each}
use Rattle.sq_compiled_laws.proofs.BufferEnds.{ends_within}
use Rattle.sq_compiled_laws.proofs.BufferLines.{EndWithin, buffers_leveled, lines_sound, lines_readable, small_sizes, few_leaves}
use Rattle.sq_compiled_laws.proofs.BufferNames.{IsNamed, buffers_named}
use Rattle.sq_compiled_laws.proofs.EntryLines.{entry_is, arrays_sound, arrays_can_be_read}
use Rattle.sq_compiled_laws.proofs.MappingWords.{instance_words}
use Rattle.sq_compiled_laws.proofs.Nodes.{nodes_readable}
use Rattle.sq_compiled_laws.proofs.ParamNames.{names_once}
use Rattle.sq_compiled_laws.proofs.ProgramWords.{HasWords, program_words}
use Rattle.sq_compiled_laws.proofs.ReadableTerms.{term_readable}
use Rattle.sq_compiled_laws.proofs.Started.{are_brought}
use Rattle.sq_compiled_laws.proofs.Starting.{are_started}
use Rattle.sq_compiled_laws.proofs.TextLengths.{few_buffers}
use Rattle.sq_compiled_laws.proofs.Views.{are_asked, view_texts}

-- the nodes of a plan, with the machine's levels
record HasNodes (nodes : List PlanNode) (levels : ℕ) : Type 0 where
  are : AreNodes nodes
  many : are.levels ≡ levels

module _ (r : Resolved) (f : PlanFile) (c : IsCompiled r f) (leaves : HasSoundLeaves f) where
  abbrev w : Walked r
  w = walked_is_there r

  pub in_order : IsInOrder f
  in_order = record { entry = entry_is r w _ c.placed.may f c.placed.its c.file; numbers = leaves.numbers }

  tasks_named : Each HasWords r.typed.now.tasks
  tasks_named = program_words grammar.most_levels c.read.program.text c.read.program.tokens r.typed.now c.read.program.read c.read.program.stand

  instances_named : Each (λ (x : Instance). IsWord x.name) r.mapping.now.instances
  instances_named = instance_words r.machine.now.levels c.read.mapping_text r.mapping.now c.read.mapping

  has_nodes : HasNodes f.plan.nodes (length r.machine.now.levels)
  has_nodes =
      let m = nodes_are_memories r.machine.now c.read.within in
      subst (λ (ns : List PlanNode). HasNodes ns (length r.machine.now.levels)) (sym c.good.nodes_) (record { are = m.are; many = m.many })

  leveled : (choices : List Choice) → IsDraftOf r choices f.plan.draft → Each (λ (b : Buffer). b.level < length r.machine.now.levels) f.plan.draft.buffers
  leveled choices its = subst (Each (λ (b : Buffer). b.level < length r.machine.now.levels)) (sym its.buffers) (buffers_leveled r w choices)

  named : (choices : List Choice) → MayBeChosen r choices → IsDraftOf r choices f.plan.draft → Each IsNamed f.plan.draft.buffers
  named choices may its = subst (Each IsNamed) (sym its.buffers) (buffers_named r w choices may tasks_named instances_named)

  leaves_few : (choices : List Choice) → IsDraftOf r choices f.plan.draft → length f.plan.draft.leaves < 2 ^ 63
  leaves_few choices its = subst (λ (ls : List Leaf). length ls < 2 ^ 63) (sym its.leaves) (few_leaves r w choices)

  entry_there : (bs : List ℕ) → Each (IsBuffer (setting_of f.plan) 0) bs → Each (λ b. b < length f.plan.draft.buffers) bs
  entry_there [] h = tt
  entry_there (b ∷ bs) h = (h.0.there, entry_there bs h.1)

  -- each buffer is brought to a node by a form that runs, and so has room
  within : EndWithin (2 ^ 30) f.plan
  within =
      ends_within r w c.read.within _ c.placed.may f.plan c.placed.its c.placed.placed
      (are_brought r w _ c.placed.may (are_started r w c.read.within _ c.placed.may) f.plan.draft c.placed.its)

  pub heads : HasSoundHeads f
  heads = record {
    leaves = leaves.sound;
    buffers = lines_sound f.plan (length r.machine.now.levels) has_nodes.are has_nodes.many (leveled _ c.placed.its) within;
    arrays = arrays_sound r w _ c.placed.may f c.placed.its c.file c.good.good.well_formed.entry (names_once r.typed.now w.faultless);
    views = view_texts f leaves r c;
  }

  pub readable : depth (written f).term ≤ most_levels → FitsFile PlanPhase (laid_out (written f)) → IsReadable (written f)
  readable deep fits =
      let p = f.plan in
      let few = few_buffers (written f) 0 p.offsets p.draft.buffers refl fits in
      record {
        nodes = nodes_readable p.nodes has_nodes.are;
        buffers = lines_readable p (length r.machine.now.levels) has_nodes.are has_nodes.many (leveled _ c.placed.its) within (named _ c.placed.may c.placed.its);
        leaves = leaves.readable;
        arrays = arrays_can_be_read r w _ c.placed.may f c.placed.its c.file c.good.good.well_formed.entry tasks_named few;
        term = term_readable p (small_sizes p within) few (leaves_few _ c.placed.its) has_nodes.are p.draft.entry
            (entry_there p.draft.entry (each (IsBuffer (setting_of p) 0) p.draft.entry c.good.good.well_formed.entry)) p.draft.term (are_asked f leaves r c);
        deep = deep;
      }
