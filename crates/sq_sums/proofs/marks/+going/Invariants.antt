use Rattle.std.proofs.Common.{◌≡◌, ◌-◌, drop, map}
use Rattle.sq_sums.specs.Parts.{all_parts, each_turn, through}
use Rattle.sq_sums.specs.Routes.{position_of, next_position, arrivals, mark}
use Rattle.sq_sums.proofs.marks.+going.Given as goal

abbrev pub invariant-go_all-loop-part : goal.invariant-go_all-loop-part
invariant-go_all-loop-part l = through mark
    (all_parts (map (arrivals l.at.fan) (drop l.part-index l.parts)) (position_of l.at)) l.marks.items
    ≡ through mark (all_parts (map (arrivals l.at.fan) l.parts) (position_of l.at)) l.fn.marks.items

abbrev pub invariant-go_each-loop-i : goal.invariant-go_each-loop-i
invariant-go_each-loop-i l = through mark
    (each_turn (l.n - l.i) (λ t. arrivals l.at.fan l.inside (next_position (position_of l.at) t)) l.i) l.marks.items
    ≡ through mark (each_turn l.n (λ t. arrivals l.at.fan l.inside (next_position (position_of l.at) t)) 0)
    l.fn.marks.items
