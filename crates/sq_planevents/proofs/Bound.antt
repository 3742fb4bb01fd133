-- Numbers of a leaf, each of which is given once.
use Rattle.std.proofs.Common.{◌≡◌, suc, Bool, true, false, if◌then◌else◌, Option, Some, None, is_some, ℤ, List, [], ◌∷◌, ◌++◌, map, refl, sym, ap, ◌∙◌, arith, append_assoc, append-nil}
use Rattle.std.specs.List.{Contains}
use Rattle.std.specs.Map.{lookup}
use Rattle.std.proofs.lemmas.Slice.Eq.{bytes_eq-Decides}
use Rattle.sq_text.specs.Names.{Bytes, same_name}
use Rattle.sq_blocks.specs.Names.{Numbers, with_number}
use Rattle.sq_plantext.specs.declared.text.Binding.{Binding}
use Rattle.sq_planfile.specs.Sound.{Once}
use Rattle.sq_planevents.specs.Shapes.{pairs, bound}

-- no number has this name
IsFresh : Numbers → Bytes → Type 0
IsFresh [] n = Unit {0}
IsFresh (m ∷ ns) n = (n ≡ m.0 → ⊥) × IsFresh ns n

AreFresh : Numbers → List Binding → Type 0
AreFresh ns [] = Unit {0}
AreFresh ns (b ∷ bs) = IsFresh ns b.name × AreFresh ns bs

no_lookup : (ns : Numbers) (n : Bytes) → IsFresh ns n → lookup (same_name n) ns ≡ None
unfolding IsFresh
no_lookup [] n h = refl
no_lookup (m ∷ ns) n h = by (same_name n m.0) refl (no_lookup ns n h.1)
  where
    by : (b : Bool) → same_name n m.0 ≡ b → lookup (same_name n) ns ≡ None → (if b then Some m.1 else lookup (same_name n) ns) ≡ None
    by true e f = absurd (h.0 ((bytes_eq-Decides n m.0).0 e))
    by false e f = f

fresh_more : (ns : Numbers) (n m : Bytes) (v : ℤ) → IsFresh ns n → (n ≡ m → ⊥) → IsFresh (ns ++ (m, v) ∷ []) n
unfolding IsFresh
fresh_more [] n m v h d = (d, tt)
fresh_more (o ∷ ns) n m v h d = (h.0, fresh_more ns n m v h.1 d)

all_more : (ns : Numbers) (bs : List Binding) (m : Bytes) (v : ℤ) → AreFresh ns bs → (¬ Contains (map (λ b. b.name) bs) m) → AreFresh (ns ++ (m, v) ∷ []) bs
unfolding AreFresh
all_more ns [] m v h d = tt
all_more ns (b ∷ bs) m v h d = (fresh_more ns b.name m v h.0 (λ e. d (0, omega arith, e)), all_more ns bs m v h.1 (λ c. d (suc c.0, let l = c.1 in omega (arith, l), c.2)))

bound_are : (ns : Numbers) (bs : List Binding) → Once (map (λ b. b.name) bs) → AreFresh ns bs → bound ns bs ≡ ns ++ pairs bs
unfolding AreFresh
bound_are ns [] o h = sym (append-nil ns)
bound_are ns (b ∷ bs) o h =
    let new : Numbers = ns ++ (b.name, b.value) ∷ [] in
    let is : with_number ns b.name b.value ≡ new = ap (λ (l : Option ℤ). if is_some l then ns else new) (no_lookup ns b.name h.0) in
    ap (λ z. bound z bs) is ∙ (bound_are new bs o.1 (all_more ns bs b.name b.value h.1 o.0) ∙ append_assoc ns ((b.name, b.value) ∷ []) (pairs bs))

none_fresh : (bs : List Binding) → AreFresh [] bs
unfolding AreFresh IsFresh
none_fresh [] = tt
none_fresh (b ∷ bs) = (tt, none_fresh bs)

pub bound_once : (numbers : Numbers) (bs : List Binding) → Once (map (λ b. b.name) bs) → numbers ≡ bound [] bs → numbers ≡ pairs bs
bound_once numbers bs o e = e ∙ bound_are [] bs o (none_fresh bs)
