-- The code of each form that is a leaf stands among a draft's leaves under the number that the form's homes give.
use Rattle.std.proofs.Common.{◌≡◌, ℕ, zero, suc, ◌+◌, List, [], ◌∷◌, ◌++◌, length, Some, ap, ◌∙◌, arith}
use Rattle.std.specs.Prelude.{slice_get}
use Rattle.sq_text.specs.Names.{Bytes}
use Rattle.sq_leaf.specs.Leaf.{Leaf as LeafSource}
use Rattle.sq_ir.specs.declared.plan.Leaf.{Leaf}
use Rattle.sq_spec.specs.declared.body.Body.{Body}
use Rattle.sq_spec.specs.declared.body.Body.TheVariants as body
use Rattle.sq_spec.specs.declared.body.FormBody.{FormBody}
use Rattle.sq_spec.specs.declared.resolved.Resolved.{Resolved}
use Rattle.sq_term.specs.Terms.{body_in, homes_in}
use Rattle.sq_homes.specs.Chosen.declared.choice.Choice.{Choice}
use Rattle.sq_homes.specs.Chosen.Arrays.{standing}
use Rattle.sq_homes.specs.Chosen.Forms.{name_by, instance_at, choice_in}
use Rattle.sq_homes.specs.Drafts.{homes_from, leaves_from, leaves_in, codes_in}

-- of the forms from the k-th on, before which so many are leaves
pub record IsCoded (r : Resolved) (choices : List Choice) (k base code : ℕ) (bs : List FormBody) (i : ℕ)
    (leaf : LeafSource) : Type 0 where
  pub before : ℕ
  pub code_is : (homes_in (homes_from r choices k base code bs) i).code ≡ code + before
  pub name : Bytes
  pub there : slice_get (leaves_from r k bs) before ≡ Some (record { instance = name; code = leaf })

past_codes : (name : Bytes) (b : Body) (rest : List Leaf) (n : ℕ) → slice_get (leaves_in name b ++ rest)
    (codes_in b + n) ≡ slice_get rest n
past_codes name (body.Leaf leaf) rest n = let e : 1 + n ≡ suc n
    = omega arith in ap (slice_get (record { instance = name; code = leaf } ∷ rest)) e
past_codes name (body.Inner list) rest n = let e : 0 + n ≡ n = omega arith in ap (slice_get rest) e

pub coded : (r : Resolved) (choices : List Choice) (k base code : ℕ) (bs : List FormBody) (i : ℕ) (leaf : LeafSource)
    → (body_in bs i).body ≡ body.Leaf leaf → IsCoded r choices k base code bs i leaf
coded r choices k base code [] i leaf h = absurd (cc h)
coded r choices k base code (b ∷ bs) zero leaf h = record {
  before = 0;
  code_is = omega arith;
  name = name_by (instance_at r k);
  there = ap (λ (x : Body). slice_get (leaves_in (name_by (instance_at r k)) x ++ leaves_from r (suc k) bs) 0) h;
}
coded r choices k base code (b ∷ bs) (suc i) leaf h =
    let rest = coded r choices (suc k) (base + length (standing b (choice_in choices k))) (code + codes_in b.body) bs i
    leaf h in
    let sum : code + codes_in b.body + rest.before ≡ code + (codes_in b.body + rest.before) = omega arith in
    record {
      before = codes_in b.body + rest.before;
      code_is = rest.code_is ∙ sum;
      name = rest.name;
      there = past_codes (name_by (instance_at r k)) b.body (leaves_from r (suc k) bs) rest.before ∙ rest.there;
    }
