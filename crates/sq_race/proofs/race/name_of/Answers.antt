use Rattle.std.proofs.Common.{◌≡◌, ◌∙◌, [], None, slice_get, ap, subst, sym, IfOk, List, ℕ}
use Rattle.std.specs.Option.{option_copied}
use Rattle.sq_race.specs.Race as spec
use Rattle.sq_race.proofs.Firsts.{get_or_none}
use Rattle.sq_race.proofs.race.name_of.Goals as goal

pub returns-in-None : goal.returns-in-None
returns-in-None c =
    let absent : slice_get (spec.array_names (option_copied c.args.variant)) c.args.number ≡ None = sym c.array_name.ensures ∙ ap option_copied c.in-None.is in
    subst (λ (x : List ℕ). IfOk c.new.result (λ n. n ≡ x)) (sym (get_or_none (spec.array_names (option_copied c.args.variant)) c.args.number [] absent)) c.new.ensures
