-- The arrays of a call, by their numbers: arguments and then locals.
use Rattle.std.proofs.Common.{◌≡◌, ℕ, zero, suc, ◌+◌, ◌<◌, List, [], ◌∷◌, ◌++◌, map, length, get_or, slice_get, Some}
use Rattle.std.proofs.Common.{None, refl, sym, ap, ap₂, ◌∙◌, subst, arith, ◌⊎◌, inl, inr, ⊎_elim}
use Rattle.sq_leaf.specs.declared.shape.Shape.{Shape}
use Rattle.sq_blocks.specs.Arguments.{lengths}
use Rattle.sq_ir.specs.Written.{Setting}
use Rattle.sq_placed.specs.Placed.{PlacedArg, PlacedLocal, PlacedCall}
use Rattle.sq_placed.specs.Seats.{Seat, SeatedArg, seat_arg, seated_args, cons_some, own_of, local_seat}
use Rattle.sq_cells.specs.Lowered.{Layout}
use Rattle.sq_plan_laws.specs.Coordinates.{Fits}
use Rattle.sq_plan_laws.specs.Calling.{PassedFits, shapes_of}
use Rattle.sq_plan_laws.proofs.PlacedLists.{mapped_from}
use Rattle.sq_plan_laws.specs.Seated.{shape_of, IsSeated}
use Rattle.sq_plan_laws.proofs.Arguments.{own_shape}

-- ---- lists

pub below_there : {A : Type 0} (xs : List A) (i : ℕ) → i < length xs → (x : A) × (slice_get xs i ≡ Some x)
below_there [] i lt = absurd (omega arith)
below_there (y ∷ xs) zero lt = (y, refl)
below_there (y ∷ xs) (suc i) lt = below_there xs i (omega arith)

pub nothing_there : {A : Type 0} (xs : List A) (j : ℕ) → slice_get xs (length xs + j) ≡ None
nothing_there [] j = refl
nothing_there (y ∷ xs) j = let e : length (y ∷ xs) + j ≡ suc (length xs + j) = omega arith in ap (slice_get (y ∷ xs)) e
    ∙ nothing_there xs j

pub behind : {A : Type 0} (xs ys : List A) (j : ℕ) → slice_get (xs ++ ys) (length xs + j) ≡ slice_get ys j
behind [] ys j = let e : zero + j ≡ j = omega arith in ap (slice_get ys) e
behind (x ∷ xs) ys j = let e : length (x ∷ xs) + j ≡ suc (length xs + j)
    = omega arith in ap (slice_get (x ∷ (xs ++ ys))) e ∙ behind xs ys j

pub get_behind : {A : Type 0} (xs ys : List A) (j : ℕ) (d : A) → get_or (xs ++ ys) (length xs + j) d ≡ get_or ys j d
get_behind [] ys j d = let e : zero + j ≡ j = omega arith in ap (λ i. get_or ys i d) e
get_behind (x ∷ xs) ys j d = let e : length (x ∷ xs) + j ≡ suc (length xs + j)
    = omega arith in ap (λ i. get_or (x ∷ (xs ++ ys)) i d) e ∙ get_behind xs ys j d

pub get_front : {A B : Type 0} (f : A → B) (xs : List A) (ys : List B) (i : ℕ) (x : A) (d : B) → slice_get xs i ≡ Some x
    → get_or (map f xs ++ ys) i d ≡ f x
get_front f [] ys i x d e = cc
get_front f (y ∷ xs) ys zero x d e = let z : y ≡ x = cc in ap f z
get_front f (y ∷ xs) ys (suc i) x d e = get_front f xs ys i x d e

pub get_mapped : {A B : Type 0} (f : A → B) (xs : List A) (i : ℕ) (x : A) (d : B) → slice_get xs i ≡ Some x
    → get_or (map f xs) i d ≡ f x
get_mapped f [] i x d e = cc
get_mapped f (y ∷ xs) zero x d e = let z : y ≡ x = cc in ap f z
get_mapped f (y ∷ xs) (suc i) x d e = get_mapped f xs i x d e

pub joined : {A : Type 0} (xs ys : List A) (n : ℕ) (z : A) → slice_get (xs ++ ys) n ≡ Some z → (slice_get xs n ≡ Some z)
    ⊎ ((j : ℕ) × (n ≡ length xs + j) × (slice_get ys j ≡ Some z))
joined [] ys n z e = inr (n, omega arith, e)
joined (x ∷ xs) ys zero z e = inl e
joined (x ∷ xs) ys (suc n) z e = ⊎_elim (λ h. inl h) (λ h. inr (h.0, omega (arith, h.1), h.2)) (joined xs ys n z e)

pub length-mapped : {A B : Type 0} (f : A → B) (xs : List A) → length (map f xs) ≡ length xs
length-mapped f [] = refl
length-mapped f (x ∷ xs) = ap suc (length-mapped f xs)

pub length-joined : {A : Type 0} (xs ys : List A) → length (xs ++ ys) ≡ length xs + length ys
length-joined [] ys = omega arith
length-joined (x ∷ xs) ys = let h = length-joined xs ys in omega (arith, h)

map-joined : {A B : Type 0} (f : A → B) (xs ys : List A) → map f (xs ++ ys) ≡ map f xs ++ map f ys
map-joined f [] ys = refl
map-joined f (x ∷ xs) ys = ap (λ l. f x ∷ l) (map-joined f xs ys)

-- ---- arguments

module _ (s : Setting) (outer : List Shape) (seats : List Seat) (at : Layout) (seated : IsSeated outer seats at)
    (inside : ℕ) where
  -- an argument with the seat of its array
  pub record ArgIs (p : PlacedArg) : Type 0 where
    pub seat : Seat
    pub there : slice_get seats p.argument.array ≡ Some seat
    pub known : slice_get outer p.argument.array ≡ Some (shape_of seat)
    pub fit : Fits p.argument.rect seat.view.extents
    pub elem : p.shape.elem ≡ seat.view.elem
    pub ext : p.shape.extents ≡ lengths p.argument.rect

  pub arg_is : (p : PlacedArg) → PassedFits outer p → ArgIs p
  arg_is p f =
      let m = mapped_from shape_of seats p.argument.array f.of
      (subst (λ o. slice_get o p.argument.array ≡ Some f.of) (sym seated.shapes) f.there) in
      record {
        seat = m.0;
        there = m.1;
        known = f.there ∙ ap Some m.2;
        fit = subst (λ (o : Shape). Fits p.argument.rect o.extents) m.2 f.fits;
        elem = f.elem ∙ ap (λ (o : Shape). o.elem) m.2;
        ext = f.extents;
      }

  -- of the laid arguments each one
  pub record LaidIs (args : List PlacedArg) (i : ℕ) (x : SeatedArg) : Type 0 where
    pub passed : PlacedArg
    pub at_i : slice_get args i ≡ Some passed
    pub arg : ArgIs passed
    pub is : x ≡ seat_arg s inside passed arg.seat

  abbrev pub AllFit : List PlacedArg → Type 0
  AllFit args = (k : ℕ) (p : PlacedArg) → slice_get args k ≡ Some p → PassedFits outer p

  pub laid_is : (args : List PlacedArg) → AllFit args → (i : ℕ) (x : SeatedArg)
      → slice_get (seated_args s inside seats args) i ≡ Some x → LaidIs args i x
  laid_is [] fits i x e = cc
  laid_is (p ∷ ps) fits i x e = by (arg_is p (fits 0 p refl)) (laid_is ps (λ k r y. fits (suc k) r y)) i e
    where
      by : ArgIs p → ((i : ℕ) (x : SeatedArg) → slice_get (seated_args s inside seats ps) i ≡ Some x → LaidIs ps i x)
          → (i : ℕ) → slice_get (cons_some (seat_arg s inside p) (slice_get seats p.argument.array)
          (seated_args s inside seats ps)) i ≡ Some x → LaidIs (p ∷ ps) i x
      by a rec i e = go i (subst (λ o. slice_get (cons_some (seat_arg s inside p) o (seated_args s inside seats ps)) i ≡
          Some x) a.there e)
        where
          go : (i : ℕ) → slice_get (seat_arg s inside p a.seat ∷ seated_args s inside seats ps) i ≡ Some x
              → LaidIs (p ∷ ps) i x
          go zero f = let z : seat_arg s inside p a.seat ≡ x
              = cc in record { passed = p; at_i = refl; arg = a; is = sym z }
          go (suc i) f = let r = rec i x f in record { passed = r.passed; at_i = r.at_i; arg = r.arg; is = r.is }

  pub length_laid : (args : List PlacedArg) → AllFit args → length (seated_args s inside seats args) ≡ length args
  length_laid [] fits = refl
  length_laid (p ∷ ps) fits =
      ap (λ o. length (cons_some (seat_arg s inside p) o (seated_args s inside seats ps)))
      (arg_is p (fits 0 p refl)).there ∙ ap suc (length_laid ps (λ k r y. fits (suc k) r y))

  pub laid_shapes : (args : List PlacedArg) → AllFit args → map shape_of (map own_of (seated_args s inside seats args))
      ≡ map (λ (p : PlacedArg). p.shape) args
  laid_shapes [] fits = refl
  laid_shapes (p ∷ ps) fits =
      let a = arg_is p (fits 0 p refl) in
      ap (λ o. map shape_of (map own_of (cons_some (seat_arg s inside p) o (seated_args s inside seats ps)))) a.there
      ∙ ap₂ (λ x xs. x ∷ xs) (own_shape s outer seats at seated p a.seat a.there a.known a.fit a.elem a.ext inside)
      (laid_shapes ps (λ k r y. fits (suc k) r y))

  pub kept_shapes : (ks : List PlacedLocal) → map shape_of (map (local_seat s inside) ks)
      ≡ map (λ (k : PlacedLocal). k.shape) ks
  kept_shapes [] = refl
  kept_shapes (k ∷ ks) = ap (λ l. k.shape ∷ l) (kept_shapes ks)

  pub callee_shapes : (c : PlacedCall) → AllFit c.args
      → map shape_of (map own_of (seated_args s inside seats c.args) ++ map (local_seat s inside) c.locals)
      ≡ shapes_of c
  callee_shapes c fits = map-joined shape_of (map own_of (seated_args s inside seats c.args))
      (map (local_seat s inside) c.locals) ∙ ap₂ (λ x y. x ++ y) (laid_shapes c.args fits) (kept_shapes c.locals)
