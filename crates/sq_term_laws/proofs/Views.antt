-- Each byte of a roomy view lies inside its buffer.
use Rattle.std.proofs.Common.{◌≡◌, ℕ, zero, suc, ◌+◌, ◌-◌, ◌*◌, ◌<◌, ◌≤◌, inl, inr, List, [], ◌∷◌, map, refl, sym, ap}
use Rattle.std.proofs.Common.{subst, ◌∙◌, arith, Contains}
use Rattle.std.specs.Prelude.{nat_abs}
use Rattle.std.specs.List.{flat_map, range_with_len}
use Rattle.std.proofs.lemmas.List.Elements.{Contains-append_cases}
use Rattle.sq_num.specs.Elements.{width}
use Rattle.sq_rect.specs.Placing.{offset, place_of}
use Rattle.sq_ir.specs.Leaf.declared.shape.Shape.{Shape}
use Rattle.sq_ir.specs.Events.{coordinates, places}
use Rattle.sq_ir.specs.Written.{Setting, Env, count_of, view_of}
use Rattle.sq_ir.specs.declared.term.LeafView.{LeafView}
use Rattle.sq_term_laws.specs.Roomy.{IsRoomy, IsBelow, no_more, in_each}
use Rattle.sq_term_laws.proofs.Fitting.{times_le}
use Rattle.sq_term_laws.proofs.Blocks.{offsets_in}

later : {X : Type 0} (e x : X) (xs : List X) → Contains xs x → Contains (e ∷ xs) x
later e x xs (k, h, is) = (suc k, omega (arith, h), is)

contains_flat : {X Y : Type 0} (f : X → List Y) (xs : List X) (y : Y) → Contains (flat_map f xs) y → (x : X)
    × Contains xs x × Contains (f x) y
contains_flat f [] y (k, h, is) = absurd (omega (arith, h))
contains_flat f (x ∷ xs) y h = elim (Contains-append_cases (f x) (flat_map f xs) y h) [
  | inl g ↦ (x, (0, omega arith, refl), g)
  | inr g ↦ let r = contains_flat f xs y g in (r.0, later x r.0 xs r.1, r.2)
]

in_range : (a n k : ℕ) → Contains (range_with_len a n) k → (a ≤ k) × (k < a + n)
in_range a zero k (j, h, is) = absurd (omega (arith, h))
in_range a (suc n) k (zero, h, is) = let g : a ≡ k = is in (omega (arith, g), omega (arith, g))
in_range a (suc n) k (suc j, h, is) = let r = in_range (a + 1) n k (j, omega (arith, h), is) in let l = r.0 in let u
    = r.1 in (omega (arith, l), omega (arith, u))

contains_map : (x : ℕ) (cs : List (List ℕ)) (c : List ℕ) → Contains (map (λ (d : List ℕ). x ∷ d) cs) c → (d : List ℕ)
    × (c ≡ x ∷ d) × Contains cs d
contains_map x [] c (k, h, is) = absurd (omega (arith, h))
contains_map x (d ∷ cs) c (zero, h, is) = (d, sym is, (0, omega arith, refl))
contains_map x (d ∷ cs) c (suc k, h, is) = let rest
    = contains_map x cs c (k, omega (arith, h), is) in (rest.0, rest.1, later d rest.0 cs rest.2)

-- a coordinate is at most the last one
below_tops : (tops c : List ℕ) → Contains (coordinates (map suc tops)) c → (zs : List ℕ) × IsBelow c zs tops
below_tops [] c (zero, h, is) = subst (λ (z : List ℕ). (zs : List ℕ) × IsBelow z zs []) is ([], no_more)
below_tops [] c (suc k, h, is) = absurd (omega (arith, h))
below_tops (t ∷ tops) c h =
    let rest = coordinates (map suc tops) in
    let f = contains_flat (λ (x : ℕ). map (λ (d : List ℕ). x ∷ d) rest) (range_with_len 0 (suc t - 0)) c h in
    let m = contains_map f.0 rest c f.2 in
    let r = below_tops tops m.0 m.2 in
    let i = (in_range 0 (suc t - 0) f.0 f.1).1 in
    subst (λ (z : List ℕ). (zs : List ℕ) × IsBelow z zs (t ∷ tops)) (sym m.1) (0 ∷ r.0, in_each (omega (arith, i)) r.1)

pub view_inside : (s : Setting) (env : Env) (v : LeafView) (x : Shape) → IsRoomy s env.turns v x → (k : ℕ)
    → Contains (places (view_of s env v)) k
    → (s.offset v.slot.buffer ≤ k) × (k < s.offset v.slot.buffer + s.size v.slot.buffer)
view_inside s env v x h k there =
    let f = contains_flat (λ (c : List ℕ). range_with_len (place_of (view_of s env v) c) (width v.elem))
    (coordinates v.extents) k there in
    let b = below_tops h.tops f.0 (subst (λ (z : List ℕ). Contains (coordinates z) f.0) (h.extents ∙ h.shaped.last) f.1)
    in
    let o = offsets_in v.strides h.tops f.0 b.0 h.lined b.1 in
    let r = in_range (place_of (view_of s env v) f.0) (width v.elem) k f.2 in
    let low = r.0 in
    let high = r.1 in
    let e : count_of s v.slot.at env ≡ h.bytes = ap nat_abs (h.number.value env.level env.nodes) in
    let g = times_le (width v.elem) (suc (offset v.strides f.0)) (width v.elem) (suc (offset v.strides h.tops))
    (omega arith) (omega (arith, o)) in
    let u : width v.elem * suc (offset v.strides f.0) ≡ width v.elem * offset v.strides f.0 + width v.elem
    = omega arith in
    let i = h.inside in
    (omega (arith, low), omega (arith, high, e, g, u, i))
