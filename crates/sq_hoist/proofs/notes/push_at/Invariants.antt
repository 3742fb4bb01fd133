use Rattle.std.proofs.Common.{◌≡◌, ◌++◌, drop}
use Rattle.sq_chosen.specs.Forms.{instance_at, name_by}
use Rattle.sq_hoist.specs.Notes.{notes_at, param_at}
use Rattle.sq_hoist.proofs.notes.push_at.Given as goal

abbrev pub invariant-loop-i : goal.invariant-loop-i
invariant-loop-i l =
    l.out ++ notes_at (name_by (instance_at l.r l.site.caller)) (param_at l.r l.site.form) l.place l.loops l.i
    (drop l.i l.site.leaves)
    ≡ l.fn.out ++ notes_at (name_by (instance_at l.r l.site.caller)) (param_at l.r l.site.form) l.place l.loops 0
    l.site.leaves
