-- What a case and a scope add to the scopes of a part.
use Rattle.std.proofs.Common.{◌≡◌, ℕ, List, map, Option, sym, ap, subst, ◌∙◌}
use Rattle.std.specs.Prelude.{Result, Ok, Err, IfOk}
use Rattle.sq_ir.specs.declared.num.Num.{Num}
use Rattle.sq_ir.specs.declared.term.Term.{Term}
use Rattle.sq_ir.specs.declared.term.Term.TheVariants as t
use Rattle.sq_nests.specs.Stacks.{capped}
use Rattle.sq_sums.specs.declared.route.Route.{Route}
use Rattle.sq_sums.specs.declared.route.Route.TheVariants as r
use Rattle.sq_sums.specs.Sites.{Site}
use Rattle.sq_sums.specs.Routes.{Layout, layout, list_layout, scope_layout, top_of, AddsOne, AddsAll}
use Rattle.sq_sums.proofs.LayoutForms.{layout_case, layout_within}

pub case_adds : (w : List ℕ → ℕ) (x : Term) (pick : Num) (arms given : List Term) (held : ℕ) (old new : List Site)
    (rs : List Route) → x ≡ t.Case pick arms → given ≡ arms
    → AddsAll (map (layout w) given) held old new rs → AddsOne (layout w x) held old new (r.Arm pick rs)
case_adds w x pick arms given held old new rs e g a =
    subst (λ (b : Layout). AddsOne b held old new (r.Arm pick rs))
    (sym (ap (layout w) e ∙ layout_case w pick arms
    ∙ ap (λ l. list_layout (r.Arm pick) (map (layout w) l)) (sym g)))
    (record { route = ap (r.Arm pick) a.routes; sites = a.sites })

one_within : (w : List ℕ → ℕ) (x body : Term) (c : Option Num) (bs : List ℕ) (held top : ℕ) (old new : List Site)
    (y : Route) → x ≡ t.Within c bs body → top ≡ top_of c held (capped (w bs))
    → AddsOne (scope_layout c body (layout w body)) top old new y → AddsOne (layout w x) held old new y
one_within w x body c bs held top old new y e g a =
    subst (λ (b : Layout). AddsOne b held old new y) (sym (ap (layout w) e ∙ layout_within w c bs body))
    (let z = subst (λ k. AddsOne (scope_layout c body (layout w body)) k old new y) g a in record
    { route = z.route; sites = z.sites })

pub within_adds : {E : Type 0} (w : List ℕ → ℕ) (x body given : Term) (c : Option Num) (bs named : List ℕ)
    (held top weight : ℕ) (old new : List Site) (y : Result Route E)
    → x ≡ t.Within c bs body → given ≡ body → named ≡ bs → weight ≡ capped (w named) → top ≡ top_of c held weight
    → IfOk y (AddsOne (scope_layout c given (layout w given)) top old new) → IfOk y (AddsOne (layout w x) held old new)
within_adds w x body given c bs named held top weight old new (Ok y) e g n k l a =
    one_within w x body c bs held top old new y e (l ∙ ap (top_of c held) (k ∙ ap (λ z. capped (w z)) n))
    (subst (λ (z : Term). AddsOne (scope_layout c z (layout w z)) top old new y) g a)
within_adds w x body given c bs named held top weight old new (Err y) e g n k l a = a
