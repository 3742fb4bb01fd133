use Rattle.std.proofs.Common.{◌≡◌, ◌++◌, List, map, length, drop}
use Rattle.std.specs.List.{range_with_len}
use Rattle.sq_spec.specs.declared.body.FormBody.{FormBody}
use Rattle.sq_spec.specs.Bodies.{body_of}
use Rattle.sq_hoist.specs.Chosen.Forms.{bodies_of}
use Rattle.sq_pipe.specs.Greedy as spec
use Rattle.sq_pipe.proofs.greedy.known_of.Given as goal

abbrev pub invariant-loop-form : goal.invariant-loop-form
invariant-loop-form l =
    let left : List FormBody = map (body_of l.r.typed.now.tasks l.r.mapping.now.instances l.r.found.entries)
    (range_with_len l.form (length (drop l.form l.r.forms))) in
    record {
      rooms : l.rooms ++ spec.rooms_by l.r l.chosen.choices.now l.form left l.chosen.marks.now
          ≡ spec.rooms_by l.r l.chosen.choices.now 0 (bodies_of l.r) l.chosen.marks.now;
      candidates : l.candidates ++ spec.candidates_by l.r l.chosen.choices.now l.form left l.chosen.marks.now
          ≡ spec.candidates_by l.r l.chosen.choices.now 0 (bodies_of l.r) l.chosen.marks.now;
    }
