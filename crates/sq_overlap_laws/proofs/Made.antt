-- The marks of a form are made of those of its caller; and the children to which iterations go.
use Rattle.std.proofs.Common.{◌≡◌, ℕ, zero, suc, ◌+◌, ◌<◌, ◌==◌, Bool, true, false, List, [], ◌∷◌, ◌++◌, length}
use Rattle.std.proofs.Common.{get_or, slice_get, Option, Some, None, refl, sym, ap, subst, ◌∙◌, arith, eq-eqb}
use Rattle.std.proofs.lemmas.Bool.Decides.{nat_tests}
use Rattle.std.proofs.lemmas.List.{length-append, get_or_append_left}
use Rattle.std.proofs.Math.Seq.{get_or-append_seam}
use Rattle.sq_text.specs.declared.spread.SpreadRule.{SpreadRule}
use Rattle.sq_text.proofs.Spreads.{spreads}
use Rattle.sq_machfile.specs.declared.node.Node.{Node}
use Rattle.sq_forms.specs.declared.form.Form.{Form}
use Rattle.sq_spec.specs.declared.resolved.Resolved.{Resolved}
use Rattle.sq_spec_laws.specs.Needs.{Turn, child_for}
use Rattle.sq_plan_good.specs.Homes.Begun.{child_in}
use Rattle.sq_pass_laws.specs.Pipe.Runs.{Marks, marks_by, marks_from, marks_of}

-- an iteration is one of its loop's
abbrev pub IsIteration : Option Turn → Type 0
IsIteration None = Unit {0}
IsIteration (Some u) = u.t < u.count

-- ---- the marks of a form

-- made of the marks of the forms before it
pub record Made (r : Resolved) (all : List Marks) (k : ℕ) (f : Form) : Type 0 where
  pub known : List Marks
  pub before : (i : ℕ) → i < k → get_or known i [] ≡ get_or all i []
  pub is : get_or all k [] ≡ marks_by r k f.level f.caller known

one_longer : (known : List Marks) (x : Marks) → length (known ++ x ∷ []) ≡ length known + 1
one_longer known x = length-append known (x ∷ [])

-- earlier marks stay
from_keep : (r : Resolved) (k : ℕ) (fs : List Form) (known : List Marks) (i : ℕ) → i < length known
    → get_or (marks_from r k fs known) i [] ≡ get_or known i []
from_keep r k [] known i h = refl
from_keep r k (f ∷ fs) known i h =
    let x = marks_by r k f.level f.caller known in
    let long : length (known ++ x ∷ []) ≡ length known + 1 = one_longer known x in
    from_keep r (k + 1) fs (known ++ x ∷ []) i (omega (arith, h, long))
    ∙ get_or_append_left known (x ∷ []) [] i h

made_from : (r : Resolved) (k : ℕ) (fs : List Form) (known : List Marks) (j : ℕ) (f : Form) → length known ≡ k
    → slice_get fs j ≡ Some f → Made r (marks_from r k fs known) (k + j) f
made_from r k [] known j f many e = absurd (cc e)
made_from r k (g ∷ fs) known zero f many e =
    let same : g ≡ f = cc e in
    let z : k + 0 ≡ k = omega arith in
    let x = marks_by r k g.level g.caller known in
    let long : length (known ++ x ∷ []) ≡ length known + 1 = one_longer known x in
    let all = marks_from r (k + 1) fs (known ++ x ∷ []) in
    let own : get_or all k [] ≡ x = from_keep r (k + 1) fs (known ++ x ∷ []) k (omega (arith, many, long))
    ∙ ap (λ (n : ℕ). get_or (known ++ x ∷ []) n []) (sym many) ∙ get_or-append_seam known x [] [] in
    subst (λ (n : ℕ). Made r all n f) (sym z)
    (subst (λ (h : Form). Made r all k h) same
    (record {
      known = known;
      before = λ i less. sym (from_keep r k (g ∷ fs) known i (omega (arith, less, many)));
      is = own;
    }))
made_from r k (g ∷ fs) known (suc j) f many e =
    let z : k + suc j ≡ k + 1 + j = omega arith in
    let x = marks_by r k g.level g.caller known in
    let long : length (known ++ x ∷ []) ≡ length known + 1 = one_longer known x in
    subst (λ (n : ℕ). Made r (marks_from r (k + 1) fs (known ++ x ∷ [])) n f) (sym z)
    (made_from r (k + 1) fs (known ++ x ∷ []) j f (omega (arith, many, long)) e)

pub made : (r : Resolved) (k : ℕ) (f : Form) → slice_get r.forms k ≡ Some f → Made r (marks_of r) k f
made r k f there =
    let z : 0 + k ≡ k = omega arith in
    subst (λ (n : ℕ). Made r (marks_of r) n f) z (made_from r 0 r.forms [] k f refl there)

-- ---- levels

pub same_level : (m n : ℕ) → m ≡ n → (m == n) ≡ true
same_level m n e = eq-eqb m n e

pub next_level : (m n : ℕ) → n ≡ suc m → (m == n) ≡ false
next_level m n e = by (m == n) refl
  where
    by : (v : Bool) → (m == n) ≡ v → v ≡ false
    by true h = let z : (m == n) ≡ true = h in absurd (grind (arith, nat_tests, z, e))
    by false h = refl

-- ---- children

pub child_same : (rule : SpreadRule) (n : Node) (t : Option Turn) → child_in rule n.children t ≡ child_for rule n t
child_same rule n None = refl
child_same rule n (Some u) = refl

pub child_within : (rule : SpreadRule) (children : ℕ) (turn : Option Turn) → 0 < children → IsIteration turn
    → child_in rule children turn < children
child_within rule children None some is = some
child_within rule children (Some u) some is = (spreads rule u.count children some).below u.t is
