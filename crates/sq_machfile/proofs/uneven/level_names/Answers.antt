use Rattle.std.proofs.Common.{◌≡◌, ◌+◌, ◌<◌, ◌∷◌, suc, length, drop, ap, sym, ◌∙◌, arith}
use Rattle.std.proofs.lemmas.List.{at_drop_more}
use Rattle.sq_text.specs.Found.{firsts}
use Rattle.sq_machfile.specs.Faults.{judge}
use Rattle.sq_machfile.specs.Walk.{names_rules, with_name}
use Rattle.sq_machfile.specs.Tallies.{names_in}
use Rattle.sq_machfile.proofs.uneven.level_names.Goals as goal

pub loop-i-init : goal.loop-i-init
loop-i-init c = λ later. ap (λ names. firsts judge c.args.first.now (names_rules 0 (names_in names) c.args.words.now later)) c.new-names.ensures

pub loop-i-preserved : goal.loop-i-preserved
loop-i-preserved c = λ later.
    let within : c.loop-i.i < length c.args.words.now = omega (arith, c.loop-i-test.true) in
    let here : drop c.loop-i.i c.args.words.now ≡ c.index-words-i.result ∷ drop (c.loop-i.i + 1) c.args.words.now =
    at_drop_more (λ words. words) c.args.words.now c.loop-i.i c.index-words-i.result within
    ∙ ap (λ word. word ∷ drop (c.loop-i.i + 1) c.args.words.now) (sym c.index-words-i.is) in
    let next : c.loop-i.i + 1 ≡ suc c.loop-i.i = omega arith in
    ap (λ names. firsts judge c.level_name.new.first (names_rules (c.loop-i.i + 1) names (drop (c.loop-i.i + 1) c.args.words.now) later)) c.in_ok-level_name.ensures.names
    ∙ ap (λ index. firsts judge c.level_name.new.first (names_rules index (with_name c.index-words-i.result.name (names_in c.loop-i.names)) (drop (c.loop-i.i + 1) c.args.words.now) later)) next
    ∙ c.in_ok-level_name.ensures.found (names_rules (suc c.loop-i.i) (with_name c.index-words-i.result.name (names_in c.loop-i.names)) (drop (c.loop-i.i + 1) c.args.words.now) later)
    ∙ sym (ap (λ words. firsts judge c.loop-i.first (names_rules c.loop-i.i (names_in c.loop-i.names) words later)) here)
    ∙ c.loop-i.invariant later
