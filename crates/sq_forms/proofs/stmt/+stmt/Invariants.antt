use Rattle.std.proofs.Common.{◌≡◌, ◌≤◌, ◌+◌, ◌-◌, ◌∷◌, ◌++◌, List, [], true, is_some, drop, map}
use Rattle.std.specs.Option.{option_copied}
use Rattle.sq_forms.specs.Steps.{Step, run, state_of}
use Rattle.sq_forms.specs.Args.{names_of}
use Rattle.sq_forms.specs.Worlds.{frame_of}
use Rattle.sq_forms.specs.Stmts as spec
use Rattle.sq_forms.proofs.stmt.+stmt.Given as goal

abbrev pub invariant-iterations-loop-t : goal.invariant-iterations-loop-t
invariant-iterations-loop-t l =
    let part = spec.iteration_steps l.outer (λ t. spec.site_at l.inside (l.fn.path ++ t ∷ [])) l.ranges (spec.stmts_steps l.body) l.bounds (frame_of l.frame) (names_of l.known) l.fn.numbers in
    record {
      steps : (later : List Step) → run (state_of l.fn.walk) (spec.each 0 (spec.times l.bounds) part later) ≡ run (state_of l.walk) (spec.each l.t (spec.times l.bounds - l.t) part later);
      numbers : l.numbers ≡ l.fn.numbers;
      path : l.path ≡ l.fn.path;
      left : l.walk.left + l.t ≤ l.fn.walk.left;
    }

abbrev pub invariant-stmts-loop-s : goal.invariant-stmts-loop-s
invariant-stmts-loop-s l = record {
  steps : (later : List Step) → run (state_of l.fn.walk) (spec.stmts_steps l.list (frame_of l.frame) (names_of l.known) (spec.site_at l.at l.fn.path) l.fn.numbers later)
      ≡ run (state_of l.walk) (spec.stmts_steps (drop l.s-index l.list) (frame_of l.frame) (names_of l.known) (record { call = l.call; outer = l.at.outer; reduced = option_copied l.at.reduced; iterations = l.fn.path }) l.fn.numbers later);
  maps : spec.Begins (spec.maps_of (map spec.portion (drop l.s-index l.list))) l.maps;
  numbers : l.numbers ≡ l.fn.numbers;
  path : l.path ≡ l.fn.path;
  left : is_some l.at.outer ≡ true → l.walk.left ≤ l.fn.walk.left;
}
