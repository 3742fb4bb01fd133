use Rattle.std.proofs.Common.{◌≡◌, ◌-◌, ℕ, List}
use Rattle.sq_arrays.specs.Window.{IsTold, Stands, Passed, left}
use Rattle.sq_arrays.proofs.runs.pass.Given as goal

abbrev pub invariant-windows : goal.invariant-windows
invariant-windows g l = record {
  content : g.F.Files.content l.files ≡ g.F.Files.content l.initial.files;
  stands : Stands (g.F.Files.content l.files) l.name l.window;
  passed : (bytes : List ℕ) → IsTold (g.F.Files.content l.initial.files) l.name bytes → Passed g.J.Observer.step l.blank l.initial.window.spot.place l.window.spot.place (left l.initial.window bytes) (left l.window bytes) l.initial.observer l.observer;
  faults : g.F.Files.faults l.files ≡ g.F.Files.faults l.initial.files;
  misses : g.F.Files.misses l.files ≡ g.F.Files.misses l.initial.files;
}

abbrev pub decreases-windows : goal.decreases-windows
decreases-windows g l = 268435456 - l.window.spot.at
