-- How a command stops, and what counts of faults allow that.
use Rattle.std.specs.Prelude.{◌≡◌, ℕ, ◌≤◌, List, [], Result, Ok, Err, codes}
use Rattle.sq_port.specs.Ports.{Rose}
use Rattle.sq_driver.specs.declared.outside.status.Status.{Status}
use Rattle.sq_driver.specs.declared.outside.status.Status.TheVariants.{Done as DoneStatus, Refused as RefusedStatus, Trapped as TrappedStatus, Usage as UsageStatus, FileFault as FileFaultStatus, SinkFault as SinkFaultStatus, NoMemory as NoMemoryStatus, Absent as AbsentStatus}
use Rattle.sq_driver.specs.declared.outside.end.End.{End}
use Rattle.sq_driver.specs.declared.outside.end.End.TheVariants.{Usage, Absent, FileFault, Refused, Trapped, NoMemory, SinkFault}
use Rattle.sq_report.specs.Answers.{named_line, fault_line, trap_line}
use Rattle.sq_driver.specs.Texts.{usage_line}

abbrev pub status_of : End → Status
status_of Usage = UsageStatus
status_of (Absent name) = AbsentStatus
status_of (FileFault name) = FileFaultStatus
status_of (Refused fault) = RefusedStatus
status_of (Trapped trap) = TrappedStatus
status_of NoMemory = NoMemoryStatus
status_of SinkFault = SinkFaultStatus

-- the status of a phase that goes on is Done
abbrev pub ending : {T : Type 0} → Result T End → Status
ending (Ok value) = DoneStatus
ending (Err end) = status_of end

-- the line of an end
abbrev pub end_text : End → List ℕ
end_text Usage = usage_line
end_text (Absent name) = named_line (codes "absent ") name.now
end_text (FileFault name) = named_line (codes "fault ") name.now
end_text (Refused fault) = fault_line fault
end_text (Trapped trap) = trap_line trap
end_text NoMemory = codes "no memory\n"
end_text SinkFault = []

-- the statuses that are not about a file
abbrev pub IsQuiet : Status → Type 0
IsQuiet AbsentStatus = ⊥
IsQuiet FileFaultStatus = ⊥
IsQuiet status = Unit {0}

-- the counts of the files don't fall; Absent and FileFault have their own that rose and leave the other, and every
-- other end comes only where none rose
pub record FileCauses (faults now_faults misses now_misses : ℕ) (status : Status) : Type 0 where
  pub faults_later : faults ≤ now_faults
  pub misses_later : misses ≤ now_misses
  pub absent : status ≡ AbsentStatus → Rose misses now_misses × (now_faults ≡ faults)
  pub fault : status ≡ FileFaultStatus → Rose faults now_faults × (now_misses ≡ misses)
  pub quiet : IsQuiet status → (now_faults ≡ faults) × (now_misses ≡ misses)
