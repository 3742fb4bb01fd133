-- The acts of entries, one for each.
use Rattle.std.specs.Prelude.{◌≡◌, ℕ, List, length, slice_get, Some}
use Rattle.sq_ir.specs.DraftLeaves.{leaves_of}
use Rattle.sq_ir.specs.declared.plan.Plan.{Plan}
use Rattle.sq_touches.specs.Acts.{AreNear}
use Rattle.sq_touches.specs.ActLaws.{Shows}
use Rattle.sq_touches.specs.declared.act.Act.{Act}
use Rattle.sq_plan_check.specs.Walked.{seen_deed}
use Rattle.sq_plan_check.specs.Shown.{HaveViews, HaveWords}
use Rattle.sq_plan_check.specs.declared.entry.Entry.{Entry}

pub record AllHaveViews (entries : List Entry) : Type 0 where
  pub views : (i : ℕ) (e : Entry) → slice_get entries i ≡ Some e → HaveViews e.deed

-- each of the first so many acts shows the event of its entry
pub record AreActsTo (plan : Plan) (entries : List Entry) (count : ℕ) (acts : List Act) : Type 0 where
  pub all : length acts ≡ count
  pub shows : (i : ℕ) (a : Act) (e : Entry) → slice_get acts i ≡ Some a → slice_get entries i ≡ Some e → Shows (leaves_of plan.draft) a (seen_deed e.deed)
  pub near : (i : ℕ) (a : Act) (e : Entry) → slice_get acts i ≡ Some a → slice_get entries i ≡ Some e → HaveWords e.deed → AreNear a.touches

abbrev pub AreActs : Plan → List Entry → List Act → Type 0
AreActs plan entries acts = AreActsTo plan entries (length entries) acts
