use Rattle.std.proofs.Common.{rules, arith, ◌≡◌, ◌∙◌, sym, subst, ◌+◌, ◌<◌, ◌++◌, ◌∷◌, [], ℕ, List, length, Some}
use Rattle.sq_spec.specs.Bodies.{body_of}
use Rattle.sq_flat.specs.declared.form.FormCode.{FormCode}
use Rattle.sq_flat.specs.Works.{body_in, bodies_of}
use Rattle.sq_flat.proofs.Coded.{more_many, more_bodies, all_bodies, as_many}
use Rattle.sq_flat.proofs.codes.codes_of.Goals as goal

pub loop-k-preserved : goal.loop-k-preserved
loop-k-preserved c =
    let body = body_of c.args.r.now.typed.now.tasks c.args.r.now.mapping.now.instances c.args.r.now.found.entries in
    let pushed : c.push.new.self ≡ c.loop-k.codes ++ c.in-Some.code ∷ [] = search rules in
    let coded : body_in (Some c.in-Some.code) ≡ c.in_ok-body.body = search rules in
    let made : c.in_ok-body.body ≡ body c.loop-k.k = search rules in
    record {
      many = subst (λ (l : List FormCode). length l ≡ c.loop-k.k + 1) (sym pushed) (more_many c.loop-k.codes c.in-Some.code c.loop-k.k c.loop-k.invariant.many);
      bodies = subst (λ (l : List FormCode). (i : ℕ) → i < c.loop-k.k + 1 → bodies_of l i ≡ body i) (sym pushed)
          (more_bodies c.loop-k.codes c.in-Some.code c.loop-k.k body c.loop-k.invariant.many c.loop-k.invariant.bodies (coded ∙ made));
    }

pub returns : goal.returns
returns c =
    let tasks = c.args.r.now.typed.now.tasks in
    let instances = c.args.r.now.mapping.now.instances in
    let found = c.args.r.now.found.entries in
    let many = as_many c.args.r.now c.forms_are_those_found.ensures.many in
    let counted : c.in-Ok.count ≡ length c.args.r.now.forms = search rules in
    let all : length c.loop-k.codes ≡ length found = omega (arith, c.loop-k.invariant.many, c.loop-k-test.false, c.loop-k.auto.k-end, counted, many) in
    all_bodies tasks instances found c.loop-k.codes all (λ i below. c.loop-k.invariant.bodies i (omega (arith, below, c.loop-k.invariant.many)))
