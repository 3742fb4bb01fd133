-- Numbers of loops whose transfers overlap: they have their values in 64 bits.
use Rattle.std.proofs.Common.{◌≡◌, ℕ, suc, ◌+◌, ◌-◌, ◌*◌, ◌/◌, ◌<◌, ◌≤◌, pos, ◌-ℤ◌, List, ◌∷◌, length, get_or}
use Rattle.std.proofs.Common.{sym, ap, ap₂, subst, ◌∙◌, arith}
use Rattle.std.proofs.Math.Nat.{le-div_iff_mul-le, div-lt_iff_lt-mul, div-mul-le_self}
use Rattle.sq_num.specs.declared.Elem.TheVariants.{Long}
use Rattle.sq_num.specs.Elements.{IsValue}
use Rattle.sq_text.specs.declared.spread.SpreadRule.{SpreadRule}
use Rattle.sq_text.specs.declared.spread.SpreadRule.TheVariants.{Cyclic, Blocked}
use Rattle.sq_ir.specs.Lifting.{lift}
use Rattle.sq_ir.specs.Written.{Setting, Env, value_of}
use Rattle.sq_ir.specs.Plans.{HasValue}
use Rattle.sq_ir.specs.declared.num.Num.{Num}
use Rattle.sq_ir.specs.declared.num.Num.TheVariants as n
use Rattle.sq_ir.proofs.Counting.{has_index, has_sub, has_min}
use Rattle.sq_ir.proofs.Equations.{value_sub}
use Rattle.sq_term.specs.declared.context.Context.{Context}
use Rattle.sq_term.specs.declared.context.Lane.{Lane}
use Rattle.sq_term.specs.Terms.{numbers, count_num, lift_lane, whole_lane, lane_start, lane_at, iteration}
use Rattle.sq_term.proofs.Numbers.{const_is, index_is, mul_is, div_is, lifted_is, constant, sum, picked}
use Rattle.sq_term.proofs.Numbers.{minus}
use Rattle.sq_term.proofs.Numbers as numbers_of
use Rattle.sq_term.proofs.Lanes.{lane_below}
use Rattle.sq_term_laws.specs.Fits.{Bounds, AreBounds, HaveCounts}
use Rattle.sq_term_laws.specs.Roomy.{IsCounted}
use Rattle.sq_term_laws.proofs.Fine.{less_fits, zero_fits, const_has, add_has, mul_has, div_has, pick_has, counts_has}
use Rattle.sq_term_laws.proofs.Fine.{has_lifted}
use Rattle.sq_term_laws.proofs.Fitting.{times_le}
use Rattle.sq_term_laws.proofs.Rooming.{eight_fits}

pub one_fits_long : IsValue Long (pos 1)
one_fits_long = less_fits 1 8 (omega arith) eight_fits

pub two_fits_long : IsValue Long (pos 2)
two_fits_long = less_fits 2 8 (omega arith) eight_fits

-- ---- values

pub min_has : (s : Setting) (env : Env) (x : Num) → HasValue s x env → HasValue s (n.Min x (n.Const (pos 1))) env
min_has s env x h = subst (λ f. f env) (sym (has_min s x (n.Const (pos 1)))) (h, const_has s env (pos 1) one_fits_long)

-- ---- numbers with their values, whatever the node in force

module _ (s : Setting) (turns : List ℕ) where
  abbrev at : ℕ → (ℕ → ℕ) → Env
  at l nodes = record { turns = turns; level = l; nodes = nodes }

  pub const_counted : (k : ℕ) → IsValue Long (pos k) → IsCounted s turns (n.Const (pos k)) k
  const_counted k h = record {
    number = constant s turns k;
    has = record { has = λ l nodes. const_has s (at l nodes) (pos k) h };
  }

  pub index_counted : (d : ℕ) → d < length turns → IsValue Long (pos (get_or turns d 0))
      → IsCounted s turns (n.Index d) (get_or turns d 0)
  index_counted d l h = record {
    number = record { value = λ m nodes. index_is s (at m nodes) d };
    has = record { has = λ m nodes. subst (λ f. f (at m nodes)) (sym (has_index s d)) (l, h) };
  }

  pub add_counted : (a b : Num) (x y : ℕ) → IsCounted s turns a x → IsCounted s turns b y
      → IsValue Long (pos (x + y)) → IsCounted s turns (n.Add a b) (x + y)
  add_counted a b x y g h f = record {
    number = sum s turns a b x y g.number h.number;
    has = record {
      has = λ l nodes. add_has s (at l nodes) a b x y (g.number.value l nodes) (h.number.value l nodes)
          (g.has.has l nodes) (h.has.has l nodes) f;
    };
  }

  pub mul_counted : (a b : Num) (x y : ℕ) → IsCounted s turns a x → IsCounted s turns b y
      → IsValue Long (pos (x * y)) → IsCounted s turns (n.Mul a b) (x * y)
  mul_counted a b x y g h f = record {
    number = record {
      value = λ l nodes. mul_is s (at l nodes) a b x y (g.number.value l nodes) (h.number.value l nodes);
    };
    has = record {
      has = λ l nodes. mul_has s (at l nodes) a b x y (g.number.value l nodes) (h.number.value l nodes)
          (g.has.has l nodes) (h.has.has l nodes) f;
    };
  }

  pub div_counted : (a b : Num) (x y : ℕ) → IsCounted s turns a x → IsCounted s turns b y → 1 ≤ y
      → IsValue Long (pos (x / y)) → IsCounted s turns (n.Div a b) (x / y)
  div_counted a b x y g h some f = record {
    number = record {
      value = λ l nodes. div_is s (at l nodes) a b x y (g.number.value l nodes) (h.number.value l nodes);
    };
    has = record {
      has = λ l nodes. div_has s (at l nodes) a b x y (g.number.value l nodes) (h.number.value l nodes)
          (g.has.has l nodes) (h.has.has l nodes) some f;
    };
  }

  pub sub_counted : (a b : Num) (x y z : ℕ) → y + z ≡ x → IsCounted s turns a x → IsCounted s turns b y
      → IsValue Long (pos x) → IsCounted s turns (n.Sub a b) z
  sub_counted a b x y z e g h f = record {
    number = record { value = λ l nodes. is l nodes };
    has = record {
      has = λ l nodes. subst (λ u. u (at l nodes)) (sym (has_sub s a b)) (
        g.has.has l nodes,
        h.has.has l nodes,
        subst (IsValue Long) (sym (less l nodes)) (less_fits z x (omega (arith, e)) f),
      );
    };
  }
    where
      less : (l : ℕ) (nodes : ℕ → ℕ) → value_of s a (at l nodes) -ℤ value_of s b (at l nodes) ≡ pos z
      less l nodes = ap₂ (λ u v. u -ℤ v) (g.number.value l nodes) (h.number.value l nodes) ∙ minus x y z e

      is : (l : ℕ) (nodes : ℕ → ℕ) → value_of s (n.Sub a b) (at l nodes) ≡ pos z
      is l nodes = ap (λ u. u (at l nodes)) (value_sub s a b) ∙ less l nodes

  pub pick_counted : (ns : List ℕ) (a : Num) (x : ℕ) → IsCounted s turns a x → x < length ns
      → IsValue Long (pos (get_or ns x 0)) → IsCounted s turns (n.Pick (numbers ns) a) (get_or ns x 0)
  pick_counted ns a x g l f = record {
    number = picked s turns ns a x g.number;
    has = record {
      has = λ m nodes. pick_has s (at m nodes) ns a x (g.number.value m nodes) (g.has.has m nodes) l f;
    };
  }

  pub lift_counted : (x : Num) (k t : ℕ) → IsCounted s turns x k → IsCounted s (t ∷ turns) (lift 1 x) k
  lift_counted x k t g
      = record { number = lifted_is s turns x k t g.number; has = has_lifted s turns x t g.has }

  -- how many iterations a map has
  pub count_counted : (counts : List ℕ) (c : Context) (times k : ℕ) → IsCounted s turns c.ordinal k
      → HaveCounts counts times → k < times → IsValue Long (pos (get_or counts k 0))
      → IsCounted s turns (count_num counts c) (get_or counts k 0)
  count_counted counts c times k g there l f = record {
    number = record { value = λ m nodes. numbers_of.count_is s (at m nodes) counts c k (g.number.value m nodes) };
    has = record {
      has = λ m nodes. counts_has s (at m nodes) counts c times k (g.number.value m nodes) (g.has.has m nodes) there l
          f;
    };
  }

-- ---- lanes

-- so many iterations of a loop of count, each so far behind the one before it
pub record IsLane (s : Setting) (turns : List ℕ) (l : Lane) (count first step many : ℕ) : Type 0 where
  pub first_is : IsCounted s turns l.first first
  pub step_is : IsCounted s turns l.step step
  pub many_is : IsCounted s turns l.many many
  pub inside : (p : ℕ) → p < many → first + step * p < count
  pub fits : IsValue Long (pos many)

pub lift_lane_is : (s : Setting) (turns : List ℕ) (l : Lane) (count first step many t : ℕ)
    → IsLane s turns l count first step many → IsLane s (t ∷ turns) (lift_lane l) count first step many
lift_lane_is s turns l count first step many t h = record {
  first_is = lift_counted s turns l.first first t h.first_is;
  step_is = lift_counted s turns l.step step t h.step_is;
  many_is = lift_counted s turns l.many many t h.many_is;
  inside = h.inside;
  fits = h.fits;
}

pub whole_lane_is : (s : Setting) (turns : List ℕ) (x : Num) (count : ℕ) → IsCounted s turns x count
    → IsValue Long (pos count) → IsLane s turns (whole_lane x) count 0 1 count
whole_lane_is s turns x count h fits = record {
  first_is = const_counted s turns 0 zero_fits;
  step_is = const_counted s turns 1 one_fits_long;
  many_is = h;
  inside = λ p l. omega (arith, l);
  fits = fits;
}

pub iteration_is : (s : Setting) (turns : List ℕ) (l : Lane) (count first step many : ℕ)
    → IsLane s turns l count first step many → IsValue Long (pos count) → (x : Num) (p : ℕ) → IsCounted s turns x p
    → p < many → IsCounted s turns (iteration l x) (first + step * p)
iteration_is s turns l count first step many h fits x p g lt =
    let i = h.inside p lt in
    add_counted s turns l.first (n.Mul l.step x) first (step * p) h.first_is
    (mul_counted s turns l.step x step p h.step_is g (less_fits (step * p) count (omega (arith, i)) fits))
    (less_fits (first + step * p) count (omega (arith, i)) fits)

-- ---- those of a child

module _ (most : Bounds) (bounds : AreBounds most) (count f c : ℕ) (few : count ≤ most.uses) (kids : f ≤ most.children)
    (child : c < f) where
  abbrev all : ℕ
  all = suc most.uses * suc most.children

  flat : most.uses + most.children ≤ all
  flat = let e : all ≡ most.uses * most.children + most.uses + most.children + 1 = omega arith in omega (arith, e)

  -- rounded up
  wide : (x : ℕ) → x ≤ f → x * count + (f - 1) ≤ all
  wide x l =
      let g = times_le x count most.children most.uses (omega (arith, l, kids)) few in
      let e : all ≡ most.children * most.uses + most.uses + most.children + 1 = omega arith in
      omega (arith, g, e, kids, child)

  abbrev start : ℕ → ℕ
  start x = (x * count + (f - 1)) / f

  some : 0 < f
  some = omega (arith, child)

  start_ends : (x : ℕ) → x ≤ f → start x ≤ count
  start_ends x l =
      let g = times_le x count f count l (omega arith) in
      let e : suc count * f ≡ f * count + f = omega arith in
      let b = (div-lt_iff_lt-mul {x = x * count + (f - 1)} {y = suc count} some).1 (omega (arith, g, e, child)) in
      omega (arith, b)

  start_rises : start c ≤ start (c + 1)
  start_rises =
      let g = div-mul-le_self (c * count + (f - 1)) f in
      let e : (c + 1) * count ≡ c * count + count = omega arith in
      (le-div_iff_mul-le {x = start c} {y = (c + 1) * count + (f - 1)} some).1 (omega (arith, g, e))

  module _ (s : Setting) (turns : List ℕ) (x y z : Num) (count_is : IsCounted s turns x count)
      (kids_is : IsCounted s turns y f) (child_is : IsCounted s turns z c) where
    one : IsCounted s turns (n.Const (pos 1)) 1
    one = const_counted s turns 1 one_fits_long

    below : IsCounted s turns (n.Sub y (n.Const (pos 1))) (f - 1)
    below = sub_counted s turns y (n.Const (pos 1)) f 1 (f - 1) (omega (arith, child)) kids_is one
        (less_fits f all (let g = flat in omega (arith, g, kids)) bounds.fits)

    start_is : (w : Num) (k : ℕ) → IsCounted s turns w k → k ≤ f → IsCounted s turns (lane_start x y w) (start k)
    start_is w k h l =
        let g = wide k l in
        div_counted s turns (n.Add (n.Mul w x) (n.Sub y (n.Const (pos 1)))) y (k * count + (f - 1)) f
        (add_counted s turns (n.Mul w x) (n.Sub y (n.Const (pos 1))) (k * count) (f - 1)
        (mul_counted s turns w x k count h count_is (less_fits (k * count) all (omega (arith, g)) bounds.fits)) below
        (less_fits (k * count + (f - 1)) all g bounds.fits)) kids_is some
        (less_fits (start k) count (start_ends k l) (less_fits count all (let d = flat in omega (arith, d, few))
        bounds.fits))

    count_fits : IsValue Long (pos count)
    count_fits = less_fits count all (let g = flat in omega (arith, g, few)) bounds.fits

    -- by either rule
    pub record HasLane (rule : SpreadRule) : Type 0 where
      pub first : ℕ
      pub step : ℕ
      pub many : ℕ
      pub is : IsLane s turns (lane_at rule x y z) count first step many

    pub has_lane : (rule : SpreadRule) → HasLane rule
    has_lane Cyclic =
        let sum = count + (f - 1) in
        let m = (sum - c) / f in
        let most_fits = less_fits sum all (let g = flat in omega (arith, g, few, kids)) bounds.fits in
        let less = less_fits (sum - c) sum (omega arith) most_fits in
        let fits : IsValue Long (pos m) = less_fits m (sum - c) (part (sum - c)) less in
        record {
          first = c;
          step = f;
          many = m;
          is = record {
            first_is = child_is;
            step_is = kids_is;
            many_is = div_counted s turns (n.Sub (n.Add x (n.Sub y (n.Const (pos 1)))) z) y (sum - c) f
                (sub_counted s turns (n.Add x (n.Sub y (n.Const (pos 1)))) z sum c (sum - c) (omega (arith, child))
                (add_counted s turns x (n.Sub y (n.Const (pos 1))) count (f - 1) count_is below most_fits) child_is
                most_fits) kids_is some fits;
            inside = λ p. lane_below Cyclic count f c p child;
            fits = fits;
          };
        }
      where
        part : (a : ℕ) → a / f ≤ a
        part a =
            let g = div-mul-le_self a f in
            let h = times_le (a / f) 1 (a / f) f (omega arith) some in
            omega (arith, g, h)
    has_lane Blocked =
        let m = start (c + 1) - start c in
        let rises = start_rises in
        let ends = start_ends (c + 1) (omega (arith, child)) in
        let next = add_counted s turns z (n.Const (pos 1)) c 1 child_is one
        (less_fits (c + 1) all (let g = flat in omega (arith, g, kids, child)) bounds.fits) in
        let fits = less_fits (start (c + 1)) count ends count_fits in
        record {
          first = start c;
          step = 1;
          many = m;
          is = record {
            first_is = start_is z c child_is (omega (arith, child));
            step_is = one;
            many_is = sub_counted s turns (lane_start x y (n.Add z (n.Const (pos 1)))) (lane_start x y z)
                (start (c + 1)) (start c) m (omega (arith, rises))
                (start_is (n.Add z (n.Const (pos 1))) (c + 1) next (omega (arith, child)))
                (start_is z c child_is (omega (arith, child))) fits;
            inside = λ p. lane_below Blocked count f c p child;
            fits = less_fits m (start (c + 1)) (omega arith) fits;
          };
        }
