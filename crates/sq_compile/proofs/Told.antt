-- The node that is told is one, and that of every program with these forms.
use Rattle.std.proofs.Common.{◌≡◌, ℕ, ◌<◌, ◌≤◌, Bool, true, false, List, Some, refl}
use Rattle.std.proofs.Common.{sym, ap, subst, ◌∙◌, arith}
use Rattle.std.specs.Prelude.{slice_get, nat_lt}
use Rattle.std.proofs.lemmas.Bool.Decides.{nat_tests}
use Rattle.sq_ast.specs.declared.program.Program.{Program}
use Rattle.sq_machfile.specs.declared.node.Node.{Node}
use Rattle.sq_machfile.specs.Machines.{Hierarchy}
use Rattle.sq_forms.specs.Mappings.declared.mapping.Mapping.{Mapping}
use Rattle.sq_forms.specs.declared.form.Form.{Form}
use Rattle.sq_spec.specs.declared.resolved.Resolved.{Resolved}
use Rattle.sq_spec_laws.specs.Needs.{Needs}
use Rattle.sq_spec_laws.proofs.NeedsHold.{need_is_one}
use Rattle.sq_compile.specs.Capacity.{NodeNeeds, Lacks, IsFirstLack, LacksAreOne, FirstLacksAreOne, FirstLackIsOne}

pub lacks_are_one : LacksAreOne
lacks_are_one r s typed mapping machine forms node need capacity level h = record {
  its = h.its;
  there = subst (λ (m : Hierarchy). slice_get m.nodes node ≡ Some h.its) machine h.there;
  needs =
      subst (λ (p : Program). Needs p.tasks s.mapping.now.instances s.machine.now.nodes s.forms node need) typed
      (subst (λ (m : Mapping). Needs r.typed.now.tasks m.instances s.machine.now.nodes s.forms node need) mapping
      (subst (λ (m : Hierarchy). Needs r.typed.now.tasks r.mapping.now.instances m.nodes s.forms node need) machine
      (subst (λ (fs : List Form). Needs r.typed.now.tasks r.mapping.now.instances r.machine.now.nodes fs node need)
      forms h.needs)));
  capacity_is = h.capacity_is;
  level_is = h.level_is;
  short = h.short;
}

pub first_lacks_are_one : FirstLacksAreOne
first_lacks_are_one r s typed mapping machine forms node need capacity h =
    let back : (m n c l : ℕ) → Lacks s m n c l → Lacks r m n c l =
    lacks_are_one s r (sym typed) (sym mapping) (sym machine) (sym forms) in
    record {
      level = h.level;
      lacks = lacks_are_one r s typed mapping machine forms node need capacity h.level h.lacks;
      upmost = λ m n c l g. h.upmost m n c l (back m n c l g);
      greatest = λ m n c g. h.greatest m n c (back m n c h.level g);
      first = λ m n c g less. h.first m n c (back m n c h.level g) less;
    }

-- ---- one node

some_same : (x y : Node) → Some x ≡ Some y → x ≡ y
some_same x y h = cc h

two_at_most : (a b : ℕ) → a ≤ b → b ≤ a → a ≡ b
two_at_most a b h g = omega (arith, h, g)

module _ (r : Resolved) (node need capacity m n c : ℕ) (h : IsFirstLack r node need capacity)
    (g : IsFirstLack r m n c) where
  level_same : g.level ≡ h.level
  level_same = two_at_most g.level h.level (g.upmost node need capacity h.level h.lacks) (h.upmost m n c g.level g.lacks)

  -- each lacks at the other's level
  that : Lacks r m n c h.level
  that = subst (λ (l : ℕ). Lacks r m n c l) level_same g.lacks

  this : Lacks r node need capacity g.level
  this = subst (λ (l : ℕ). Lacks r node need capacity l) (sym level_same) h.lacks

  node_same : node ≡ m
  node_same =
      two_at_most node m (not_behind m node (λ less.
      let a = h.first m n c that less in
      let b = g.greatest node need capacity this in
      omega (arith, a, b))) (not_behind node m (λ less.
      let a = g.first node need capacity this less in
      let b = h.greatest m n c that in
      omega (arith, a, b)))
    where
      not_behind : (a b : ℕ) → (a < b → ⊥) → b ≤ a
      not_behind a b f = by (nat_lt a b) refl
        where
          by : (v : Bool) → nat_lt a b ≡ v → b ≤ a
          by true e = absurd (f (grind (arith, nat_tests, e)))
          by false e = grind (arith, nat_tests, e)

  need_same : need ≡ n
  need_same =
      need_is_one r.typed.now.tasks r.mapping.now.instances r.machine.now.nodes r.forms m need n
      (subst (λ (k : ℕ). NodeNeeds r k need) node_same h.lacks.needs) g.lacks.needs

  capacity_same : capacity ≡ c
  capacity_same =
      let there = ap (slice_get r.machine.now.nodes) node_same in
      let its = some_same h.lacks.its g.lacks.its (sym h.lacks.there ∙ there ∙ g.lacks.there) in
      h.lacks.capacity_is ∙ ap (λ (x : Node). x.capacity) its ∙ sym g.lacks.capacity_is

pub first_lack_is_one : FirstLackIsOne
first_lack_is_one r node need capacity m n c h g =
    (node_same r node need capacity m n c h g, need_same r node need capacity m n c h g, capacity_same r node need capacity m n c h g)
