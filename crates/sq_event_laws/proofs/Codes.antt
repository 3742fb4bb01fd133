-- A form that is a leaf has its code under a number of its own.
use Rattle.std.proofs.Common.{◌≡◌, ℕ, zero, suc, ◌+◌, ◌<◌, ◌⊎◌, inl, inr, List, [], ◌∷◌, ◌++◌, slice_get, Some}
use Rattle.std.proofs.Common.{length, ◌∙◌, ap, arith}
use Rattle.std.proofs.lemmas.Bool.{cases_order}
use Rattle.sq_text.specs.Names.{Bytes}
use Rattle.sq_spec.specs.declared.body.Body.{Body}
use Rattle.sq_spec.specs.declared.body.Body.TheVariants as body
use Rattle.sq_spec.specs.declared.body.FormBody.{FormBody}
use Rattle.sq_spec.specs.declared.resolved.Resolved.{Resolved}
use Rattle.sq_ir.specs.Leaf.Leaf.{Leaf as LeafSource}
use Rattle.sq_ir.specs.declared.plan.Leaf.{Leaf}
use Rattle.sq_plan_good.specs.Term.Terms.{body_in, homes_in}
use Rattle.sq_plan_good.specs.Homes.Chosen.declared.choice.Choice.{Choice}
use Rattle.sq_plan_good.specs.Homes.Chosen.Arrays.{standing}
use Rattle.sq_plan_good.specs.Homes.Chosen.Forms.{bodies_of, choice_in, instance_at, name_by}
use Rattle.sq_plan_good.specs.Homes.Drafts.{homes_from, codes_in, leaves_in}
use Rattle.sq_plan_good.specs.Homes.Drafts.{leaves_from}
use Rattle.sq_event_laws.specs.LeafEvents.{CodesAreApart}

-- how many of the forms before the i-th are leaves
abbrev pub leaves_before : List FormBody → ℕ → ℕ
leaves_before [] i = 0
leaves_before (b ∷ bs) zero = 0
leaves_before (b ∷ bs) (suc i) = codes_in b.body + leaves_before bs i

abbrev pub IsLeafAt : List FormBody → ℕ → LeafSource → Type 0
IsLeafAt bs i code = (body_in bs i).body ≡ body.Leaf code

pub number_is : (r : Resolved) (choices : List Choice) (k base first : ℕ) (bs : List FormBody) (i : ℕ)
    (code : LeafSource) → IsLeafAt bs i code
    → (homes_in (homes_from r choices k base first bs) i).code ≡ first + leaves_before bs i
number_is r choices k base first [] i code h = absurd (cc h)
number_is r choices k base first (b ∷ bs) zero code h = omega arith
number_is r choices k base first (b ∷ bs) (suc i) code h =
    let rest = number_is r choices (suc k) (base + length (standing b (choice_in choices k))) (first + codes_in b.body)
    bs i code h in
    let sum : first + codes_in b.body + leaves_before bs i ≡ first + (codes_in b.body + leaves_before bs i)
    = omega arith in
    rest ∙ sum

past_codes : (name : Bytes) (b : Body) (rest : List Leaf) (n : ℕ)
    → slice_get (leaves_in name b ++ rest) (codes_in b + n) ≡ slice_get rest n
past_codes name (body.Leaf code) rest n =
    let e : 1 + n ≡ suc n = omega arith in ap (slice_get (record { instance = name; code = code } ∷ rest)) e
past_codes name (body.Inner list) rest n = let e : 0 + n ≡ n = omega arith in ap (slice_get rest) e

-- of the forms from the k-th on: under this number stands its code, with the name of its instance
pub leaf_there : (r : Resolved) (k : ℕ) (bs : List FormBody) (i : ℕ) (code : LeafSource) → IsLeafAt bs i code
    → slice_get (leaves_from r k bs) (leaves_before bs i)
    ≡ Some (record { instance = name_by (instance_at r (k + i)); code = code })
leaf_there r k [] i code h = absurd (cc h)
leaf_there r k (b ∷ bs) zero code h =
    let at : k ≡ k + 0 = omega arith in
    ap (λ (x : Body). slice_get (leaves_in (name_by (instance_at r k)) x ++ leaves_from r (suc k) bs) 0) h
    ∙ ap (λ n. Some (record { instance = name_by (instance_at r n); code = code })) at
leaf_there r k (b ∷ bs) (suc i) code h =
    let at : suc k + i ≡ k + suc i = omega arith in
    past_codes (name_by (instance_at r k)) b.body (leaves_from r (suc k) bs) (leaves_before bs i)
    ∙ (leaf_there r (suc k) bs i code h
    ∙ ap (λ n. Some (record { instance = name_by (instance_at r n); code = code })) at)

leaf_counts : (b : Body) (code : LeafSource) → b ≡ body.Leaf code → codes_in b ≡ 1
leaf_counts b code h = ap codes_in h

more_before : (bs : List FormBody) (i j : ℕ) (code : LeafSource) → IsLeafAt bs i code → (its : LeafSource)
    → IsLeafAt bs j its → i < j → leaves_before bs i < leaves_before bs j
more_before [] i j code h its g less = absurd (cc h)
more_before (b ∷ bs) i zero code h its g less = absurd (omega (arith, less))
more_before (b ∷ bs) zero (suc j) code h its g less = let one = leaf_counts b.body code h in omega (arith, one)
more_before (b ∷ bs) (suc i) (suc j) code h its g less =
    let rest = more_before bs i j code h its g (omega (arith, less)) in omega (arith, rest)

pub codes_are_apart : CodesAreApart
codes_are_apart r choices form other code its h g same = by (cases_order form other)
  where
    one : leaves_before (bodies_of r) form ≡ leaves_before (bodies_of r) other
    one =
        let a = number_is r choices 0 0 0 (bodies_of r) form code h in
        let b = number_is r choices 0 0 0 (bodies_of r) other its g in
        omega (arith, a, b, same)

    by : (form ≡ other) ⊎ ((form < other) ⊎ (other < form)) → form ≡ other
    by (inl e) = e
    by (inr (inl less)) =
        let l = more_before (bodies_of r) form other code h its g less in absurd (omega (arith, l, one))
    by (inr (inr more)) =
        let l = more_before (bodies_of r) other form its g code h more in absurd (omega (arith, l, one))
