use Rattle.std.proofs.Common.{rules, ◌≡◌, ◌∙◌, ◌<◌, length, refl, sym, subst, ap}
use Rattle.sq_num.specs.declared.Elem.{Elem}
use Rattle.sq_deeds.specs.Deeds.{IsRoomy}
use Rattle.sq_deeds.specs.Loops.{in_turn, next_turn}
use Rattle.sq_deeds.proofs.Carrying.{next_room, next_carries}
use Rattle.sq_deeds.proofs.carry.carry_along.Goals as goal

pub chain-requires-clause-room : goal.chain-requires-clause-room
chain-requires-clause-room c =
    let some : 0 < c.args.turns = search rules in
    let elem : c.args.from.elem ≡ c.args.to.elem = c.if-is_next.ensures.elem refl in
    next_room c.args.turns (length c.args.bytes.now) c.args.from.elem c.args.to.rise c.args.from.rise
    (subst (λ (e : Elem). IsRoomy c.args.turns (length c.args.bytes.now) e c.args.to.rise) (sym elem) c.requires.to) c.requires.read some (c.if-is_next.ensures.at refl) (c.if-is_next.ensures.step refl)

pub returns-then-is_next : goal.returns-then-is_next
returns-then-is_next c =
    let elem : c.args.from.elem ≡ c.args.to.elem = c.if-is_next.ensures.elem refl in
    c.chain.ensures
    ∙ (ap (λ (e : Elem). in_turn (next_turn c.args.columns.now e c.args.from.rise c.args.links.now) c.args.turns 0 c.args.bytes.now) elem
    ∙ next_carries c.args.columns.now c.args.to.elem c.args.op c.args.to.rise c.args.from.elem c.args.from.rise c.args.links.now elem (c.if-is_next.ensures.op refl) (c.if-is_next.ensures.at refl)
    (c.if-is_next.ensures.step refl) c.args.turns 0 c.args.bytes.now)
