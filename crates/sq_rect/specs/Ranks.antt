-- How many dimensions the arrays of a call have.
use Rattle.std.specs.Prelude.{◌<◌, ◌≤◌, List, length}
use Rattle.std.specs.List.{All}
use Rattle.sq_rect.specs.declared.view.View.{View}

-- each has one at least
abbrev pub HaveDimensions : List View → Type 0
HaveDimensions views = All (λ v. 0 < length v.extents) views

-- each has three at most
abbrev pub HaveFewDimensions : List View → Type 0
HaveFewDimensions views = All (λ v. length v.extents ≤ 3) views
