-- The traffic of a plan.
use Rattle.std.specs.Prelude.{ℕ, ◌+◌}
use Rattle.std.specs.List.{sum_by}
use Rattle.sq_machfile.specs.Machines.{Hierarchy}
use Rattle.sq_ir.specs.declared.plan.Plan.{Plan}
use Rattle.sq_ir.specs.declared.traffic.Carried.{Carried}
use Rattle.sq_nests.specs.Stacks.{capped}
use Rattle.sq_report.specs.Figures.{edges_of}

-- down and up
abbrev pub both_ways : Carried → ℕ
both_ways c = c.down + c.up

-- the bytes that all edges between levels of the machine carry; 2^64 - 1 stands for all that passes it
abbrev pub traffic_of : Hierarchy → Plan → ℕ
traffic_of m p = capped (sum_by both_ways (edges_of m p))
