-- The first of what is found part by part.
use Rattle.std.proofs.Common.{◌≡◌, ℕ, zero, suc, ◌<◌, ◌==◌, ◌&&◌, ◌||◌, Bool, true, false, Option, Some, None, refl, sym, ap, ap₂, subst, ◌∙◌, ◌⊎◌, inl, inr, arith}
use Rattle.std.specs.Prelude.{nat_lt}
use Rattle.std.proofs.lemmas.Bool.Decides.{nat_tests}
use Rattle.sq_text.specs.declared.place.Place.{Place}
use Rattle.sq_text.specs.Places.{IsBefore, is_before}
use Rattle.sq_planevents.specs.First.{IsAtOrBefore, comes_first, IsFoundBy, Judges}
use Rattle.sq_planevents.specs.Walked.{JudgesOne}

-- ---- places

line_or : (x y : ℕ) → (x < y) ⊎ ((x ≡ y) ⊎ (y < x))
line_or zero zero = inr (inl refl)
line_or zero (suc y) = inl (omega arith)
line_or (suc x) zero = inr (inr (omega arith))
line_or (suc x) (suc y) = lift (line_or x y)
  where
    lift : (x < y) ⊎ ((x ≡ y) ⊎ (y < x)) → (suc x < suc y) ⊎ ((suc x ≡ suc y) ⊎ (suc y < suc x))
    lift (inl l) = inl (omega (arith, l))
    lift (inr (inl e)) = inr (inl (ap suc e))
    lift (inr (inr l)) = inr (inr (omega (arith, l)))

same_place : (p q : Place) → p.line ≡ q.line → p.col ≡ q.col → p ≡ q
same_place p q e f = ap₂ (λ l c. record { line = l; col = c }) e f

before_on : (p q r : Place) → IsBefore p q → IsBefore q r → IsBefore p r
before_on p q r (inl l) (inl m) = inl (omega (arith, l, m))
before_on p q r (inl l) (inr m) = let e = m.0 in inl (omega (arith, l, e))
before_on p q r (inr l) (inl m) = let e = l.0 in inl (omega (arith, m, e))
before_on p q r (inr l) (inr m) = let a = l.1 in let b = m.1 in inr (l.0 ∙ m.0, omega (arith, a, b))

pub at_or_before_on : (p q r : Place) → IsAtOrBefore p q → IsAtOrBefore q r → IsAtOrBefore p r
at_or_before_on p q r (inl l) (inl m) = inl (before_on p q r l m)
at_or_before_on p q r (inl l) (inr e) = inl (subst (IsBefore p) e l)
at_or_before_on p q r (inr e) m = subst (λ z. IsAtOrBefore z r) (sym e) m

told_before : (p q : Place) → is_before p q ≡ true → IsBefore p q
told_before p q h = by (nat_lt p.line q.line) refl h
  where
    by : (b : Bool) → nat_lt p.line q.line ≡ b → (b || (p.line == q.line && nat_lt p.col q.col)) ≡ true → IsBefore p q
    by true e h = inl (grind (arith, nat_tests, e))
    by false e h = col (p.line == q.line) refl h
      where
        col : (b : Bool) → (p.line == q.line) ≡ b → (b && nat_lt p.col q.col) ≡ true → IsBefore p q
        col true f h = inr (grind (arith, nat_tests, f), grind (arith, nat_tests, h))
        col false f h = cc

told_not : (p q : Place) → is_before p q ≡ false → IsAtOrBefore q p
told_not p q h = by (line_or p.line q.line) (line_or p.col q.col)
  where
    first : p.line < q.line → ⊥
    first l = let e : nat_lt p.line q.line ≡ true = grind (arith, nat_tests, l) in let f : (true || (p.line == q.line && nat_lt p.col q.col)) ≡ false = subst (λ b. (b || (p.line == q.line && nat_lt p.col q.col)) ≡ false) e h in cc

    second : p.line ≡ q.line → p.col < q.col → ⊥
    second s l =
        let e : (p.line == q.line) ≡ true = grind (arith, nat_tests, s) in
        let f : nat_lt p.col q.col ≡ true = grind (arith, nat_tests, l) in
        let g : nat_lt p.line q.line ≡ false = grind (arith, nat_tests, s) in
        let i : (false || (true && true)) ≡ false = sym (ap₂ (λ u v. u || v) g (ap₂ (λ u v. u && v) e f)) ∙ h in
        cc

    by : (p.line < q.line) ⊎ ((p.line ≡ q.line) ⊎ (q.line < p.line)) → (p.col < q.col) ⊎ ((p.col ≡ q.col) ⊎ (q.col < p.col)) → IsAtOrBefore q p
    by (inl l) c = absurd (first l)
    by (inr (inr l)) c = inl (inl l)
    by (inr (inl e)) (inl c) = absurd (second e c)
    by (inr (inl e)) (inr (inl f)) = inr (same_place q p (sym e) (sym f))
    by (inr (inl e)) (inr (inr c)) = inl (inr (sym e, c))

-- ---- one thing

some_not : (A : Type 0) (p : Place) (o : Option Place) → o ≡ Some p → o ≡ None → A
some_not A p o e f = let g : Some p ≡ None = sym e ∙ f in absurd (cc)

one_some : (p q : Place) → Some p ≡ Some q → p ≡ q
one_some p q e = cc

found_there : (o : Option Place) (p : Place) → o ≡ Some p → IsFoundBy o p
found_there o p e = subst (λ z. IsFoundBy z p) (sym e) (inr refl)

-- what was found comes before it
pub passed_over : (Good : Type 0) (place : Place) (old : Option Place) → comes_first old place ≡ false → JudgesOne Good place old old
passed_over Good place None h = cc
passed_over Good place (Some q) h = record {
  good = λ e. some_not ((Some q ≡ None) × Good) q (Some q) refl e;
  bad = λ p e. inl e;
  first = first;
}
  where
    first : (p : Place) → (Some q ≡ Some p) ⊎ ((Good → ⊥) × (p ≡ place)) → IsAtOrBefore q p
    first p (inl e) = inr (one_some q p e)
    first p (inr b) = subst (IsAtOrBefore q) (sym b.1) (told_not place q h)

pub found_good : (Good : Type 0) (place : Place) (old : Option Place) → Good → JudgesOne Good place old old
found_good Good place old g = record {
  good = λ e. (e, g);
  bad = λ p e. inl e;
  first = first;
}
  where
    first : (p : Place) → (old ≡ Some p) ⊎ ((Good → ⊥) × (p ≡ place)) → IsFoundBy old p
    first p (inl e) = found_there old p e
    first p (inr b) = absurd (b.0 g)

pub found_bad : (Good : Type 0) (place : Place) (old : Option Place) → comes_first old place ≡ true → (Good → ⊥) → JudgesOne Good place old (Some place)
found_bad Good place old h n = record {
  good = λ e. some_not ((old ≡ None) × Good) place (Some place) refl e;
  bad = λ p e. inr (n, sym (one_some place p e));
  first = first old h;
}
  where
    first : (o : Option Place) → comes_first o place ≡ true → (p : Place) → (o ≡ Some p) ⊎ ((Good → ⊥) × (p ≡ place)) → IsAtOrBefore place p
    first None h p (inl e) = some_not (IsAtOrBefore place p) p None e refl
    first (Some q) h p (inl e) = inl (subst (IsBefore place) (one_some q p e) (told_before place q h))
    first o h p (inr b) = inr (sym b.1)

-- ---- several things

pub nothing : (Bad : Place → Type 0) (old : Option Place) → ((p : Place) → Bad p → ⊥) → Judges (Unit {0}) Bad old old
nothing Bad old n = record { good = λ e. (e, tt); bad = λ p e. inl e; first = first }
  where
    first : (p : Place) → (old ≡ Some p) ⊎ Bad p → IsFoundBy old p
    first p (inl e) = found_there old p e
    first p (inr b) = absurd (n p b)

module _ (G H : Type 0) (A B : Place → Type 0) (old mid new : Option Place) where
  found_on : (o : Option Place) → mid ≡ o → Judges H B mid new → (p : Place) → IsFoundBy o p → IsFoundBy new p
  found_on None e k p f = absurd f
  found_on (Some q) e k p f = further new (k.first q (inl e))
    where
      further : (n : Option Place) → IsFoundBy n q → IsFoundBy n p
      further None i = i
      further (Some r) i = at_or_before_on r q p i f

  pub and_then : Judges G A old mid → Judges H B mid new → Judges (G × H) (λ p. A p ⊎ B p) old new
  and_then j k = record {
    good = λ e. let m = k.good e in let g = j.good m.0 in (g.0, (g.1, m.1));
    bad = λ p e. from p (k.bad p e);
    first = first;
  }
    where
      from : (p : Place) → (mid ≡ Some p) ⊎ B p → (old ≡ Some p) ⊎ (A p ⊎ B p)
      from p (inr b) = inr (inr b)
      from p (inl e) = by (j.bad p e)
        where
          by : (old ≡ Some p) ⊎ A p → (old ≡ Some p) ⊎ (A p ⊎ B p)
          by (inl e) = inl e
          by (inr a) = inr (inl a)

      first : (p : Place) → (old ≡ Some p) ⊎ (A p ⊎ B p) → IsFoundBy new p
      first p (inl e) = found_on mid refl k p (j.first p (inl e))
      first p (inr (inl a)) = found_on mid refl k p (j.first p (inr a))
      first p (inr (inr b)) = k.first p (inr b)

-- the same under other words
pub as_well : (G H : Type 0) (A B : Place → Type 0) (old new : Option Place) → (G → H) → ((p : Place) → A p → B p) → ((p : Place) → B p → A p) → Judges G A old new → Judges H B old new
as_well G H A B old new g to back j = record {
  good = λ e. let m = j.good e in (m.0, g m.1);
  bad = λ p e. by p (j.bad p e);
  first = first;
}
  where
    by : (p : Place) → (old ≡ Some p) ⊎ A p → (old ≡ Some p) ⊎ B p
    by p (inl e) = inl e
    by p (inr a) = inr (to p a)

    first : (p : Place) → (old ≡ Some p) ⊎ B p → IsFoundBy new p
    first p (inl e) = j.first p (inl e)
    first p (inr b) = j.first p (inr (back p b))
