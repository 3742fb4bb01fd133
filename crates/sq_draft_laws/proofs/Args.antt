-- The arguments of rows fit the parameters of their forms.
use Rattle.std.proofs.Common.{◌≡◌, ℕ, zero, suc, ◌<◌, List, [], ◌∷◌, length, take}
use Rattle.std.proofs.Common.{Some, refl, sym, ap, ◌∙◌, subst, arith}
use Rattle.std.specs.Prelude.{slice_get}
use Rattle.sq_text.specs.declared.place.Span.{Span}
use Rattle.sq_leaf.specs.declared.shape.Shape.{Shape}
use Rattle.sq_blocks.specs.Arguments.{lengths}
use Rattle.sq_blocks.specs.declared.argument.Argument.{Argument}
use Rattle.sq_placed.specs.Seats.{firsts}
use Rattle.sq_program_laws.specs.PlanLaws.Coordinates.{Fits}
use Rattle.sq_program_laws.specs.PlanLaws.Fitting.{whole}
use Rattle.sq_program_laws.specs.Facts.{ArgFacts}
use Rattle.sq_program_laws.specs.Entry.{IsWhole}
use Rattle.sq_term.specs.Stands.{Each, none, more}
use Rattle.sq_program_laws.specs.TermLaws.Roomy.{ArgFits, IsBelow, no_more, in_each}
use Rattle.sq_program_laws.specs.Sizes.{IsSized}
use Rattle.sq_draft_laws.proofs.Sizes.{tops_of, tops_are, shaped}

-- ---- blocks end inside their arrays

below_of : (rect : List Span) (ns : List ℕ) → Fits rect ns → IsBelow (firsts rect) (tops_of (lengths rect)) (tops_of ns)
below_of [] [] h = no_more
below_of [] (n ∷ ns) h = absurd h
below_of (x ∷ rect) [] h = absurd h
below_of (x ∷ rect) (n ∷ ns) h =
    let a = h.0 in
    let c = h.1 in
    in_each (omega (arith, a, c)) (below_of rect ns h.2)

whole_below : (ns : List ℕ) → IsBelow (firsts (whole ns)) (tops_of ns) (tops_of ns)
whole_below [] = no_more
whole_below (n ∷ ns) = in_each (omega arith) (whole_below ns)

-- ---- arguments

-- the j-th argument fits the j-th of these shapes
pub record Fit (outer shapes : List Shape) (j : ℕ) (a : Argument) : Type 0 where
  pub shape : Shape
  pub there : slice_get shapes j ≡ Some shape
  pub fits : ArgFits outer a shape

pub fit_by_facts : (outer inner : List Shape) (j : ℕ) (a : Argument)
    → ((n : ℕ) (x : Shape) → slice_get outer n ≡ Some x → IsSized x.extents)
    → ((n : ℕ) (x : Shape) → slice_get inner n ≡ Some x → IsSized x.extents)
    → ArgFacts outer inner j a → Fit outer inner j a
fit_by_facts outer inner j a outers inners f =
    let of = outers a.array f.of f.there in
    let to = inners j f.to f.param in
    record {
      shape = f.to;
      there = f.param;
      fits = record {
        x = f.of;
        there = f.there;
        elem = sym f.elem;
        tops = tops_of f.of.extents;
        whole = tops_are f.of.extents of.some;
        lasts = tops_of f.to.extents;
        block = shaped f.to to;
        below = subst (λ (ns : List ℕ). IsBelow (firsts a.rect) (tops_of ns) (tops_of f.of.extents)) (sym f.extents)
            (below_of a.rect f.of.extents f.inside);
      };
    }

taken : {A : Type 0} (n : ℕ) (xs : List A) (i : ℕ) → i < n → slice_get (take n xs) i ≡ slice_get xs i
taken zero xs i h = absurd (omega (arith, h))
taken (suc n) [] i h = refl
taken (suc n) (x ∷ xs) zero h = refl
taken (suc n) (x ∷ xs) (suc i) h = taken n xs i (omega (arith, h))

-- an argument that is all of its array, of which the first n are there
pub fit_whole : (n : ℕ) (outer : List Shape) (j : ℕ) (a : Argument) → j < n
    → ((i : ℕ) (x : Shape) → slice_get outer i ≡ Some x → IsSized x.extents)
    → IsWhole outer j a → Fit (take n outer) outer j a
fit_whole n outer j a less sized w =
    let own = sized j w.shape w.there in
    record {
      shape = w.shape;
      there = w.there;
      fits = record {
        x = w.shape;
        there = ap (slice_get (take n outer)) w.array ∙ (taken n outer j less ∙ w.there);
        elem = refl;
        tops = tops_of w.shape.extents;
        whole = tops_are w.shape.extents own.some;
        lasts = tops_of w.shape.extents;
        block = shaped w.shape own;
        below = subst (λ (rect : List Span). IsBelow (firsts rect) (tops_of w.shape.extents) (tops_of w.shape.extents))
            (sym w.rect) (whole_below w.shape.extents);
      };
    }

-- where each argument fits, all do
pub all_fit : (outer : List Shape) (args : List Argument) (shapes : List Shape)
    → ((j : ℕ) (a : Argument) → slice_get args j ≡ Some a → Fit outer shapes j a)
    → Each (ArgFits outer) args (take (length args) shapes)
all_fit outer [] shapes h = none
all_fit outer (a ∷ args) [] h = let f = h 0 a refl in absurd (no_shape f.shape f.there)
  where
    no_shape : (x : Shape) → slice_get [] 0 ≡ Some x → ⊥
    no_shape x e = absurd (cc e)
all_fit outer (a ∷ args) (y ∷ shapes) h =
    let f = h 0 a refl in
    let is : f.shape ≡ y = same f.shape f.there in
    more (subst (ArgFits outer a) is f.fits)
    (all_fit outer args shapes
    (λ j c e. let g = h (suc j) c e in record { shape = g.shape; there = g.there; fits = g.fits }))
  where
    same : (x : Shape) → slice_get (y ∷ shapes) 0 ≡ Some x → x ≡ y
    same x e = let z : y ≡ x = cc e in sym z
