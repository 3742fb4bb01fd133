-- The laws of which the plan of a program's draft is good.
use Rattle.sq_work.specs.InTurn.{RaceFreeIsSerial}
use Rattle.sq_spec.specs.Numbered.{TablesMeanProgram, TablesAreRaceFree}
use Rattle.sq_draft_laws.specs.PlanLaws.Entry.{PlansAreSafe}
use Rattle.sq_draft_laws.specs.PlanLaws.LeafCalls.{PlansCount}
use Rattle.sq_draft_laws.specs.PlanLaws.Room.{PlansInside}
use Rattle.sq_draft_laws.specs.ProgramLaws.Laws.{ProgramsFit}
use Rattle.sq_draft_laws.specs.PlanLaws.Rooms.{RoomIsStowed}
use Rattle.sq_draft_laws.specs.ProgramLaws.Entry.{EntriesSit, EntriesArePlans, EntriesFollow}
use Rattle.sq_draft_laws.specs.ProgramLaws.LeafCalls.{CallsAreOfTables}
use Rattle.sq_draft_laws.specs.ProgramLaws.Written.{PlansAreWritten}
use Rattle.sq_draft_laws.specs.AtLevels.{LeavesAreAtLevels}
use Rattle.sq_draft_laws.specs.Laws.{FormsAreNear, PathsAreShort, PlansAreWellFormed}
use Rattle.sq_draft_laws.specs.Given.{HomesAreLeveled}
use Rattle.sq_placed.specs.SameWorks.{SameWorksMean, SameWorksRace}
use Rattle.sq_draft_laws.specs.Choosing.{ChosenStand}
use Rattle.sq_draft_laws.specs.Programs.{BodiesAreTables, PlacedIsProgram, TermIsEntrys}
use Rattle.sq_draft_laws.specs.HomesFit.{HomesFitForms, EntriesAreWhole}
use Rattle.sq_draft_laws.specs.Levels.{DraftsBeginAtRoot}
use Rattle.sq_draft_laws.specs.Drafts.{DraftsAreTabled, DraftsAreRoomy}
use Rattle.sq_draft_laws.specs.Owned.{DraftsOwn}
use Rattle.sq_draft_laws.specs.Lanes.{MachinesAreMachines, LanesAreThere}
use Rattle.sq_draft_laws.specs.Placeable.{DraftsArePlaceable}
use Rattle.sq_draft_laws.specs.Leaves.{LeavesOfDraftsStand}
use Rattle.sq_draft_laws.specs.Opened.{WalkedIsThere}
use Rattle.sq_draft_laws.specs.Short.{LeavesAreShort}

-- the laws by which a draft can be placed
pub record Placing : Type 0 where
  pub walked : WalkedIsThere
  pub placeable : DraftsArePlaceable

-- and those by which its plan is good: of a draft's bodies, homes and leaves, of plans, and of works
pub record Laws : Type 0 where
  pub leveled : HomesAreLeveled
  pub tables : BodiesAreTables
  pub program : PlacedIsProgram
  pub chosen : ChosenStand
  pub works_mean : SameWorksMean
  pub works_race : SameWorksRace
  pub term : TermIsEntrys
  pub homes : HomesFitForms
  pub entries : EntriesAreWhole
  pub begins : DraftsBeginAtRoot
  pub tabled : DraftsAreTabled
  pub roomy : DraftsAreRoomy
  pub own : DraftsOwn
  pub machines : MachinesAreMachines
  pub lanes : LanesAreThere
  pub stand : LeavesOfDraftsStand
  pub short : LeavesAreShort
  pub fits : ProgramsFit
  pub sit : EntriesSit
  pub plans : EntriesArePlans
  pub follow : EntriesFollow
  pub calls : CallsAreOfTables
  pub writes : PlansAreWritten
  pub stowed : RoomIsStowed
  pub safe : PlansAreSafe
  pub inside : PlansInside
  pub counted : PlansCount
  pub near : FormsAreNear
  pub paths : PathsAreShort
  pub formed : PlansAreWellFormed
  pub at_levels : LeavesAreAtLevels
  pub serial : RaceFreeIsSerial
  pub means : TablesMeanProgram
  pub race_free : TablesAreRaceFree
