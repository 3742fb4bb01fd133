use Rattle.std.proofs.Common.{◌≡◌, true, ◌&&◌, sym, ◌∙◌}
use Rattle.fixture_plans.proofs.Items.{first-part, second-part}
use Rattle.fixture_plans.proofs.leaf.are_squares.Goals as goal

pub returns : goal.returns
returns c = λ h numbers.
    let all : ((c.is_square-first.result && c.is_square-second.result) && c.is_square-third.result) ≡ true
    = sym c.all_three.ensures ∙ h in
    let two = first-part (c.is_square-first.result && c.is_square-second.result) c.is_square-third.result all in
    record {
      first = c.is_square-first.ensures (first-part c.is_square-first.result c.is_square-second.result two) numbers;
      second = c.is_square-second.ensures (second-part c.is_square-first.result c.is_square-second.result two) numbers;
      third = c.is_square-third.ensures
          (second-part (c.is_square-first.result && c.is_square-second.result) c.is_square-third.result all) numbers;
    }
