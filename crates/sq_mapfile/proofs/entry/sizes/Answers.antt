use Rattle.std.proofs.Common.{◌≡◌, ◌+◌, ◌<◌, ◌∷◌, ℕ, List, suc, length, drop, ap, sym, ◌∙◌, arith}
use Rattle.std.proofs.lemmas.List.{at_drop_more}
use Rattle.std.specs.Option.{option_copied}
use Rattle.sq_text.specs.Found.{firsts}
use Rattle.sq_mapfile.specs.declared.text.SizeText.{SizeText}
use Rattle.sq_mapfile.specs.Faults.{Rule, breach_of}
use Rattle.sq_mapfile.specs.Notes.{sizes_rules}
use Rattle.sq_mapfile.proofs.entry.sizes.Goals as goal

pub loop-i-preserved : goal.loop-i-preserved
loop-i-preserved c = λ later.
    let list : List SizeText = c.args.table.now.sizes.now in
    let rules : ℕ → List SizeText → List Rule = λ index rest. sizes_rules (option_copied c.args.required) list index rest later in
    let within : c.loop-i.i < length list = omega (arith, c.loop-i-test.true) in
    let here : drop c.loop-i.i list ≡ c.x-item.result ∷ drop (c.loop-i.i + 1) list =
    at_drop_more (λ rest. rest) list c.loop-i.i c.x-item.result within ∙ ap (λ size. size ∷ drop (c.loop-i.i + 1) list) (sym c.x-item.is) in
    let next : c.loop-i.i + 1 ≡ suc c.loop-i.i = omega arith in
    ap (λ index. firsts breach_of c.size.new.found (rules index (drop (c.loop-i.i + 1) list))) next
    ∙ c.in_ok-size.ensures (rules (suc c.loop-i.i) (drop (c.loop-i.i + 1) list))
    ∙ sym (ap (λ rest. firsts breach_of c.loop-i.found (rules c.loop-i.i rest)) here)
    ∙ c.loop-i.invariant later
