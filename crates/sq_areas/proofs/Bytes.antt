-- Where turns begin and end.
use Rattle.std.proofs.Common.{◌≡◌, ℕ, zero, suc, ◌+◌, ◌-◌, ◌*◌, ◌/◌, ◌<◌, ◌≤◌, List, [], ◌∷◌, arith, ◌⊎◌, inl, inr, subst, sym, ap, ◌∙◌}
use Rattle.std.specs.Prelude.{max, min}
use Rattle.std.proofs.Math.Nat.{mul-le-mul_right, div-mul-le_self, div-lt_iff_lt-mul}
use Rattle.sq_areas.specs.Areas.{HasByte, reach_of, MeetRun, Share, EndsBefore, BeginsBehind, HaveAll}
use Rattle.sq_areas.specs.declared.areas.Step.{Step}
use Rattle.sq_areas.specs.declared.areas.Area.{Area}

at_most_or : (a b : ℕ) → (a ≤ b) ⊎ (b < a)
at_most_or zero b = inl (omega arith)
at_most_or (suc a) zero = inr (omega arith)
at_most_or (suc a) (suc b) = by (at_most_or a b)
  where
    by : (a ≤ b) ⊎ (b < a) → (suc a ≤ suc b) ⊎ (suc b < suc a)
    by (inl l) = inl (omega (arith, l))
    by (inr l) = inr (omega (arith, l))

pub turn_inside : (t count step : ℕ) → t < count → t * step ≤ count * step
turn_inside t count step l = mul-le-mul_right step (omega (arith, l))

pub ends_none : (d : Step) (end lo : ℕ) → EndsBefore d end lo 0
ends_none d end lo = record { before = λ t l. absurd (omega (arith, l)) }

pub ends_before : (d : Step) (end lo : ℕ) → end ≤ lo → EndsBefore d end lo ((lo - end) / d.step + 1)
ends_before d end lo h =
    record {
      before = λ t l.
          let a : t * d.step ≤ (lo - end) / d.step * d.step = mul-le-mul_right d.step (omega (arith, l)) in
          let b = div-mul-le_self (lo - end) d.step in
          omega (arith, a, b, h);
    }

pub none_behind : (d : Step) (at hi : ℕ) → hi ≤ at → BeginsBehind d at hi 0
none_behind d at hi h = record { behind = λ t l k. omega (arith, h) }

pub all_behind : (d : Step) (at hi : ℕ) → BeginsBehind d at hi d.count
all_behind d at hi = record { behind = λ t l k. absurd (omega (arith, l, k)) }

pub begins_behind : (d : Step) (at hi : ℕ) → at < hi → 0 < d.step → BeginsBehind d at hi ((hi - at - 1) / d.step + 1)
begins_behind d at hi h pos =
    record {
      behind = λ t l k.
          let a = (div-lt_iff_lt-mul {k = d.step} {x = hi - at - 1} {y = t} pos).0 (omega (arith, l)) in
          omega (arith, a, h);
    }

-- the bytes of runs lie in what they reach over
pub byte_inside : (ds : List Step) (at run k : ℕ) → HasByte ds at run k → (at ≤ k) × (k < at + reach_of ds run)
byte_inside [] at run k h = h
byte_inside (d ∷ ds) at run k h =
    let r = byte_inside ds (at + h.0 * d.step) run k h.2 in
    let a : h.0 * d.step ≤ d.count * d.step = mul-le-mul_right d.step (omega (arith, h.1)) in
    (omega (arith, r.0), omega (arith, r.1, a))

-- ---- what is met

pub all_turns : (d : Step) (at reach lo hi : ℕ) → HaveAll d at reach lo hi 0 d.count
all_turns d at reach lo hi = record { all = λ t l p q. (omega arith, l) }

pub some_turns : (d : Step) (at reach lo hi from to : ℕ) → EndsBefore d (at + reach) lo from → BeginsBehind d at hi to → HaveAll d at reach lo hi from to
some_turns d at reach lo hi from to e b =
    record { all = λ t l p q. (early t p (at_most_or from t), late t l q (at_most_or to t)) }
  where
    early : (t : ℕ) → lo < at + t * d.step + reach → (from ≤ t) ⊎ (t < from) → from ≤ t
    early t p (inl l) = l
    early t p (inr l) = let z = e.before t l in absurd (omega (arith, z, p))

    late : (t : ℕ) → t < d.count → at + t * d.step < hi → (to ≤ t) ⊎ (t < to) → t < to
    late t l q (inl k) = let z = b.behind t k l in absurd (omega (arith, z, q))
    late t l q (inr k) = k

pub run_yes : (lo hi at run : ℕ) → max lo at < min hi (at + run) → MeetRun lo hi at run []
run_yes lo hi at run h = (max lo at, omega arith, omega (arith, h), (omega arith, omega (arith, h)))

pub run_none : (lo hi at run : ℕ) → min hi (at + run) ≤ max lo at → ¬ MeetRun lo hi at run []
run_none lo hi at run h m = let p = m.1 in let q = m.2 in let r = m.3.0 in let s = m.3.1 in absurd (omega (arith, h, p, q, r, s))

-- none of these turns has a byte from lo up to hi
pub record NoRun (lo hi at run : ℕ) (d : Step) (rest : List Step) (from to : ℕ) : Type 0 where
  pub none : (t : ℕ) → from ≤ t → t < to → ¬ MeetRun lo hi (at + t * d.step) run rest

pub runs_start : (lo hi at run : ℕ) (d : Step) (rest : List Step) (from : ℕ) → NoRun lo hi at run d rest from from
runs_start lo hi at run d rest from = record { none = λ t l k m. omega (arith, l, k) }

pub runs_more : (lo hi at run : ℕ) (d : Step) (rest : List Step) (from to begin : ℕ) → NoRun lo hi at run d rest from to → begin ≡ at + to * d.step → ¬ MeetRun lo hi begin run rest → NoRun lo hi at run d rest from (to + 1)
runs_more lo hi at run d rest from to begin h e n = record { none = λ t l k m. by t l m (at_most_or to t) k }
  where
    by : (t : ℕ) → from ≤ t → MeetRun lo hi (at + t * d.step) run rest → (to ≤ t) ⊎ (t < to) → t < to + 1 → ⊥
    by t l m (inr k) j = h.none t l k m
    by t l m (inl k) j = let z : t ≡ to = omega (arith, k, j) in n (subst (λ b. MeetRun lo hi b run rest) (ap (λ u. at + u * d.step) z ∙ sym e) m)

pub runs_yes : (lo hi at run : ℕ) (steps : List Step) (d : Step) (rest : List Step) (t begin : ℕ) → steps ≡ d ∷ rest → t < d.count → begin ≡ at + t * d.step → MeetRun lo hi begin run rest → MeetRun lo hi at run steps
runs_yes lo hi at run steps d rest t begin s l e m = subst (λ x. MeetRun lo hi at run x) (sym s) (m.0, m.1, m.2, (t, l, subst (λ b. HasByte rest b run m.0) e m.3))

pub runs_none : (lo hi at run : ℕ) (steps : List Step) (d : Step) (rest : List Step) (reach from to n : ℕ) → steps ≡ d ∷ rest → reach ≡ reach_of rest run → HaveAll d at reach lo hi from to → to ≤ n → NoRun lo hi at run d rest from n → ¬ MeetRun lo hi at run steps
runs_none lo hi at run steps d rest reach from to last s r h most n m = go (subst (λ x. MeetRun lo hi at run x) s m)
  where
    go : MeetRun lo hi at run (d ∷ rest) → ⊥
    go z =
        let t = z.3.0 in
        let i = byte_inside rest (at + t * d.step) run z.0 z.3.2 in
        let p = z.1 in
        let q = z.2 in
        let u = h.all t z.3.1 (omega (arith, i.1, p, r)) (omega (arith, i.0, q)) in
        n.none t u.0 (omega (arith, u.1, most)) (z.0, z.1, z.2, z.3.2)

-- ---- two areas

pub area_run_yes : (at run : ℕ) (a : Area) → MeetRun at (at + run) a.at a.run a.steps → Share at run [] a
area_run_yes at run a m = (m.0, (m.1, m.2), m.3)

pub area_run_none : (at run : ℕ) (a : Area) → ¬ MeetRun at (at + run) a.at a.run a.steps → ¬ Share at run [] a
area_run_none at run a n s = n (s.0, s.1.0, s.1.1, s.2)

pub record NoShare (at run : ℕ) (d : Step) (rest : List Step) (a : Area) (from to : ℕ) : Type 0 where
  pub none : (t : ℕ) → from ≤ t → t < to → ¬ Share (at + t * d.step) run rest a

pub shares_start : (at run : ℕ) (d : Step) (rest : List Step) (a : Area) (from : ℕ) → NoShare at run d rest a from from
shares_start at run d rest a from = record { none = λ t l k m. omega (arith, l, k) }

pub shares_more : (at run : ℕ) (d : Step) (rest : List Step) (a : Area) (from to begin : ℕ) → NoShare at run d rest a from to → begin ≡ at + to * d.step → ¬ Share begin run rest a → NoShare at run d rest a from (to + 1)
shares_more at run d rest a from to begin h e n = record { none = λ t l k m. by t l m (at_most_or to t) k }
  where
    by : (t : ℕ) → from ≤ t → Share (at + t * d.step) run rest a → (to ≤ t) ⊎ (t < to) → t < to + 1 → ⊥
    by t l m (inr k) j = h.none t l k m
    by t l m (inl k) j = let z : t ≡ to = omega (arith, k, j) in n (subst (λ b. Share b run rest a) (ap (λ u. at + u * d.step) z ∙ sym e) m)

pub shares_yes : (at run : ℕ) (steps : List Step) (a : Area) (d : Step) (rest : List Step) (t begin : ℕ) → steps ≡ d ∷ rest → t < d.count → begin ≡ at + t * d.step → Share begin run rest a → Share at run steps a
shares_yes at run steps a d rest t begin s l e m = subst (λ x. Share at run x a) (sym s) (m.0, (t, l, subst (λ b. HasByte rest b run m.0) e m.1), m.2)

pub shares_none : (at run : ℕ) (steps : List Step) (a : Area) (d : Step) (rest : List Step) (reach end from to n : ℕ) → steps ≡ d ∷ rest → reach ≡ reach_of rest run → end ≡ a.at + reach_of a.steps a.run → HaveAll d at reach a.at end from to → to ≤ n → NoShare at run d rest a from n → ¬ Share at run steps a
shares_none at run steps a d rest reach end from to last s r f h most n m = go (subst (λ x. Share at run x a) s m)
  where
    go : Share at run (d ∷ rest) a → ⊥
    go z =
        let t = z.1.0 in
        let i = byte_inside rest (at + t * d.step) run z.0 z.1.2 in
        let j = byte_inside a.steps a.at a.run z.0 z.2 in
        let u = h.all t z.1.1 (omega (arith, i.1, j.0, r)) (omega (arith, i.0, j.1, f)) in
        n.none t u.0 (omega (arith, u.1, most)) (z.0, z.1.2, z.2)

pub end_is : (x at run : ℕ) (xs ys : List Step) → x ≡ reach_of xs run → xs ≡ ys → at + x ≡ at + reach_of ys run
end_is x at run xs ys p q = ap (λ z. at + z) (p ∙ ap (λ z. reach_of z run) q)
