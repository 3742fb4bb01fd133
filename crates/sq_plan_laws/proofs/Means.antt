-- A placed source means on bytes what it means on numbers.
use Rattle.std.proofs.Common.{◌≡◌, ◌≢◌, ℕ, zero, suc, ◌+◌, ◌*◌, ◌<◌, Bool, true, false, ◌&&◌, ◌||◌, is_some, List, refl}
use Rattle.std.proofs.Common.{sym, ap, ap₂, ◌∙◌, subst, arith}
use Rattle.std.specs.Prelude.{Option, Some, None, Ok, Err, slice_get, nat_eq}
use Rattle.std.specs.List.{list_any}
use Rattle.std.proofs.lemmas.Bool.Decides.{nat_tests}
use Rattle.sq_num.specs.Elements.{width}
use Rattle.sq_text.specs.declared.place.Place as text
use Rattle.sq_text.specs.declared.spread.SpreadRule.{SpreadRule}
use Rattle.sq_rect.specs.Placing.{IsIn}
use Rattle.sq_leaf.specs.declared.shape.Shape.{Shape}
use Rattle.sq_leaf.specs.Source.{Arrays}
use Rattle.sq_leaf.specs.Leaf.{leaf_value}
use Rattle.sq_work.specs.declared.reduction.Reduction.{Reduction}
use Rattle.sq_ast.specs.Modes.{is_written}
use Rattle.sq_work.specs.Work as work
use Rattle.sq_work.specs.Meaning as source
use Rattle.sq_work.specs.Meaning.{Outcome, has, at_entry, at_return, writes, meaning, leaf_outcome}
use Rattle.sq_placed.specs.Placed.{Placed, PlacedCall, arguments, plain_call, plain, Nothing, Then, Each, AtOnce}
use Rattle.sq_placed.specs.Placed.{Gathers, Call, Hold, Piped, Leaf}
use Rattle.sq_cells.specs.Cells.{Spot, spot, State, find}
use Rattle.sq_cells.specs.Work as bytes
use Rattle.sq_cells.specs.Work.{Ends, Traps, entry_of, come_back, any_block, any_below}
use Rattle.sq_cells.proofs.Cells.{finds_none}
use Rattle.sq_cells.proofs.Access.{found_some}
use Rattle.sq_plan_laws.specs.Coordinates.{number}
use Rattle.sq_plan_laws.specs.Codes.{Codes, SameOutcome}
use Rattle.sq_plan_laws.specs.Calling.{shapes_of, arrays_of}
use Rattle.sq_plan_laws.specs.OnBytes.{Codings, size_in, arity_of, which_of, OneCall, call_or_none, op_of}
use Rattle.sq_plan_laws.specs.OnBytes.{reduce_work, leaf_work, share}
use Rattle.sq_plan_laws.specs.OnBytes as on
use Rattle.sq_plan_laws.specs.Fitting.{IsPlain, IsSum, IsOne, NoLeaf, Fitting}
use Rattle.sq_plan_laws.proofs.Coordinates.{byte_below}
use Rattle.sq_plan_laws.proofs.Entered.{plain_param, entry_codes}
use Rattle.sq_plan_laws.proofs.Returned.{back_codes, wrote_same}
use Rattle.sq_plan_laws.proofs.Outcomes.{then_same, turns_same, SameWritten, apart_same}
use Rattle.sq_plan_laws.proofs.Gathered.{OwnSame, turn_same, others_written, gather_turns, gathered_same}

or_false : (x : Bool) → (x || false) ≡ x
or_false true = refl
or_false false = refl

any_same : (n : ℕ) (f g : ℕ → Bool) → ((t : ℕ) → t < n → f t ≡ g t) → source.any_below n f ≡ any_below n g
any_same zero f g h = refl
any_same (suc n) f g h = ap₂ (λ x y. x || y) (h n (omega arith)) (any_same n f g (λ t lt. h t (omega (arith, lt))))

any_true : (n : ℕ) (f : ℕ → Bool) → f n ≡ true → source.any_below (suc n) f ≡ true
any_true n f e = ap (λ x. x || source.any_below n f) e

-- ---- a call that is not of a `mapreduce`

pub plain_entry : (outer : List Shape) (c : PlacedCall) → IsPlain outer c → (s : Arrays) (s' : State) → Codes outer s s'
    → Codes (shapes_of c) (at_entry (arguments c.args) s) (entry_of (arrays_of outer c) s')
plain_entry outer c is s s' codes = entry_codes outer c s s' (λ k p cs e at.
    let fits = is.args.each k p e in
    plain_param p fits.of (slice_get outer p.argument.array) s s' cs fits.there
    (λ ds inn. codes.at p.argument.array fits.of ds fits.there inn) fits.fits fits.elem fits.extents (is.none k p e)
    at)

pub plain_back : (outer : List Shape) (c : PlacedCall) → IsPlain outer c → (s inner : Arrays) (s' inner' : State)
    → Codes outer s s' → Codes (shapes_of c) inner inner'
    → Codes outer (at_return 0 (arguments c.args) inner s) (come_back (arity_of c) (arrays_of outer c) inner' s')
plain_back outer c is s inner s' inner' codes coded = record {
  at = λ m sh cs there at. back_codes outer c is.args is.no_alias m sh cs there at (λ k p e same. is.none k p e) inner s
      inner' s' coded (codes.at m sh cs there at);
}

pub plain_written : (outer : List Shape) (c : PlacedCall) → IsPlain outer c
    → SameWritten outer (λ m cs. list_any (λ a. is_written a.mode && has m cs a) (arguments c.args))
    (any_block (arity_of c) (arrays_of outer c))
plain_written outer c is m sh cs b there at lb
    = wrote_same outer c is.args is.no_alias m sh cs there at (λ k p e same. is.none k p e) b lb

pub call_same : (outer : List Shape) (c : PlacedCall) → IsPlain outer c → (w : work.Work) (w' : bytes.Work)
    → ((a : Arrays) (a' : State) → Codes (shapes_of c) a a'
    → SameOutcome (shapes_of c) (meaning w a) (bytes.meaning w' a'))
    → (s : Arrays) (s' : State) → Codes outer s s'
    → SameOutcome outer (meaning (plain_call c w) s)
    (bytes.returns_to (bytes.meaning w' (entry_of (arrays_of outer c) s')) (arity_of c) (arrays_of outer c) s')
call_same outer c is w w' body s s' codes
    = go (meaning w (at_entry (arguments c.args) s)) (bytes.meaning w' (entry_of (arrays_of outer c) s'))
    (body _ _ (plain_entry outer c is s s' codes))
  where
    go : (o : Outcome) (o' : bytes.Outcome) → SameOutcome (shapes_of c) o o'
        → SameOutcome outer (source.and_then o (λ inner. Ok (at_return 0 (arguments c.args) inner s)))
        (bytes.returns_to o' (arity_of c) (arrays_of outer c) s')
    go (Ok inner) (Ends inner') h = plain_back outer c is s inner s' inner' codes h
    go (Ok inner) (Traps y) h = absurd h
    go (Err x) (Ends inner') h = absurd h
    go (Err x) (Traps y) h = h

-- one call, and then nothing
one_same : (outer : List Shape) (o : Outcome) (o' : bytes.Outcome) → SameOutcome outer o o'
    → SameOutcome outer (source.and_then o (λ a. Ok a)) o'
one_same outer (Ok s) (Ends s') h = h
one_same outer (Ok s) (Traps y) h = absurd h
one_same outer (Err x) (Ends s') h = absurd h
one_same outer (Err x) (Traps y) h = h

module _ (coding : Codings) (offset : ℕ → ℕ) where
  abbrev on_bytes : Placed → List Shape → bytes.Work
  on_bytes p outer = on.work coding offset p outer

  abbrev pub Means : Placed → Type 0
  Means p = (outer : List Shape) → Fitting coding p None outer → (s : Arrays) (s' : State) → Codes outer s s'
      → SameOutcome outer (meaning (plain p) s) (bytes.meaning (on_bytes p outer) s')

  -- the meaning of the body of the call that it begins with
  abbrev pub Inside : Placed → Type 0
  Inside Nothing = Unit {0}
  Inside (Then a b) = Inside a
  Inside (Each n w) = Unit {0}
  Inside (AtOnce place spread n w) = Unit {0}
  Inside (Gathers r place spread n w) = Unit {0}
  Inside (Call c w) = Means w
  Inside (Hold args w) = Unit {0}
  Inside (Piped spread n calls w) = Unit {0}
  Inside (Leaf number leaf shapes) = Unit {0}

  -- ---- a `mapreduce`

  -- its iterations are calls
  abbrev pub Turns : Reduction → List Shape → ℕ → (ℕ → Placed) → ℕ → Type 0
  Turns r outer n w which = (t : ℕ) → t < n → (one : IsOne (w t)) × (which_of one.called.args ≡ which)
      × Fitting coding (w t) (Some r) outer

  module _ (r : Reduction) (outer : List Shape) (n : ℕ) (w : ℕ → Placed) (which : ℕ) (turns : Turns r outer n w which)
    where
      abbrev call_at : ℕ → OneCall
      call_at t = call_or_none (share coding offset (w t) outer).call

      abbrev pub TurnIs : ℕ → Type 0
      TurnIs t = (c : PlacedCall) × (v : Placed) × (w t ≡ Then (Call c v) Nothing) × IsSum outer r c
          × Fitting coding v None (shapes_of c) × (which_of c.args ≡ which)
          × (call_at t ≡ record { called = c; body = on_bytes v (shapes_of c) })

      pub turn_is : (t : ℕ) → t < n → TurnIs t
      turn_is t lt =
          let h = turns t lt in
          let fit : Fitting coding (Then (Call h.0.called h.0.body) Nothing) (Some r) outer
          = subst (λ p. Fitting coding p (Some r) outer) h.0.is h.2 in (
            h.0.called,
            h.0.body,
            h.0.is,
            fit.0.0,
            fit.0.1,
            h.1,
            ap (λ p. call_or_none (share coding offset p outer).call)
                h.0.is,
          )

      -- of the call as the work has it
      pub sum_at : (t : ℕ) → t < n → IsSum outer r (call_at t).called
      sum_at t lt = let h = turn_is t lt in subst (λ (z : OneCall). IsSum outer r z.called) (sym h.6) h.3

      pub which_at : (t : ℕ) → t < n → which_of (call_at t).called.args ≡ which
      which_at t lt = let h = turn_is t lt in ap (λ (z : OneCall). which_of z.called.args) h.6 ∙ h.5

      pub plain_at : (t : ℕ) → t < n → (v : Placed)
          × (plain (w t) ≡ work.Then (plain_call (call_at t).called (plain v)) work.Nothing)
          × Fitting coding v None (shapes_of (call_at t).called)
          × ((call_at t).body ≡ on_bytes v (shapes_of (call_at t).called)) × (Inside (w t) → Means v)
      plain_at t lt =
          let h = turn_is t lt in
          let called : (call_at t).called ≡ h.0 = ap (λ (z : OneCall). z.called) h.6 in (
            h.1,
            ap plain h.2 ∙ ap (λ c. work.Then (plain_call c (plain h.1)) work.Nothing) (sym called),
            subst (λ (c : PlacedCall). Fitting coding h.1 None (shapes_of c)) (sym called) h.4,
            ap (λ (z : OneCall). z.body) h.6 ∙ ap (λ c. on_bytes h.1 (shapes_of c)) (sym called),
            λ i. subst Inside h.2 i,
          )

  -- the shape of the array that is reduced into
  sum_shape : (r : Reduction) (outer : List Shape) (c : PlacedCall) → IsSum outer r c → (of : Shape)
      × (slice_get outer r.array ≡ Some of) × (of.elem ≡ r.elem)
  sum_shape r outer c sums = let fits
      = sums.args.each (which_of c.args) sums.sum sums.there in
      (fits.of, ap (slice_get outer) (sym sums.array) ∙ fits.there, sym fits.elem ∙ sums.elem)

  gathers_mean : (r : Reduction) (place : text.Place) (spread : Option SpreadRule) (n : ℕ) (w : ℕ → Placed)
      → ((t : ℕ) → Inside (w t)) → Means (Gathers r place spread n w)
  gathers_mean r place spread zero w inside outer fit s s' codes = codes
  gathers_mean r place spread (suc n) w inside outer fit s s' codes =
      gathered_same outer r of there which' s' ends elem (suc n) (size_in (slice_get outer r.array)) (ap size_in there)
      _ _ _
      (gather_turns outer r of there which' s' ends elem (suc n) (λ t. (call t).called)
      (λ t lt. sum_at r outer (suc n) w fit.0 fit.1 t lt)
      (λ t lt. which_at r outer (suc n) w fit.0 fit.1 t lt ∙ first_which) (λ t. writes (plain (w t)))
      (λ t lt m sh cs b is at ne lb. written t lt m sh cs b is at ne lb) s codes
      (λ t. meaning (plain (w t)) (source.with_identity r s)) (λ t lt. own t lt))
    where
      call : ℕ → OneCall
      call t = call_or_none (share coding offset (w t) outer).call

      of : Shape
      of = (sum_shape r outer (call 0).called (sum_at r outer (suc n) w fit.0 fit.1 0 (omega arith))).0

      there : slice_get outer r.array ≡ Some of
      there = (sum_shape r outer (call 0).called (sum_at r outer (suc n) w fit.0 fit.1 0 (omega arith))).1

      elem : of.elem ≡ r.elem
      elem = (sum_shape r outer (call 0).called (sum_at r outer (suc n) w fit.0 fit.1 0 (omega arith))).2

      which' : ℕ
      which' = which_of (call 0).called.args

      first_which : fit.0 ≡ which'
      first_which = sym (which_at r outer (suc n) w fit.0 fit.1 0 (omega arith))

      ends : ℕ → bytes.Outcome
      ends t = bytes.meaning (call t).body (entry_of (arrays_of outer (call t).called) s')

      written : (t : ℕ) (lt : t < suc n) (m : ℕ) (sh : Shape) (cs : List ℕ) (b : ℕ) → slice_get outer m ≡ Some sh
          → IsIn sh.extents cs → m ≢ r.array → b < width sh.elem
          → writes (plain (w t)) m cs ≡ any_block (arity_of (call t).called) (arrays_of outer (call t).called)
          (spot m (number sh.extents cs * width sh.elem + b))
      written t lt m sh cs b is at ne lb =
          let h = plain_at r outer (suc n) w fit.0 fit.1 t lt in
          ap (λ x. writes x m cs) h.1 ∙ or_false
          (list_any (λ a. is_written a.mode && has m cs a) (arguments (call t).called.args))
          ∙ others_written outer r (call t).called (sum_at r outer (suc n) w fit.0 fit.1 t lt) of there m sh cs b is at
          ne lb

      own : (t : ℕ) (lt : t < suc n) → OwnSame outer r (call t).called (sum_at r outer (suc n) w fit.0 fit.1 t lt) of
          there s' (meaning (plain (w t)) (source.with_identity r s)) (ends t)
      own t lt =
          let h = plain_at r outer (suc n) w fit.0 fit.1 t lt in
          subst (λ x. OwnSame outer r (call t).called (sum_at r outer (suc n) w fit.0 fit.1 t lt) of there s'
          (meaning x (source.with_identity r s)) (ends t)) (sym h.1)
          (turn_same outer r (call t).called (sum_at r outer (suc n) w fit.0 fit.1 t lt) of there (plain h.0)
          (call t).body s s' codes
          (λ a a' c. subst (λ (z : bytes.Work). SameOutcome (shapes_of (call t).called) (meaning (plain h.0) a)
          (bytes.meaning z a')) (sym h.3) (h.4 (inside t) (shapes_of (call t).called) h.2 a a' c)))

  gathers_written : (r : Reduction) (place : text.Place) (spread : Option SpreadRule) (n : ℕ) (w : ℕ → Placed)
      (outer : List Shape) → Fitting coding (Gathers r place spread n w) None outer
      → SameWritten outer (writes (plain (Gathers r place spread n w)))
      (bytes.written (on_bytes (Gathers r place spread n w) outer))
  gathers_written r place spread zero w outer fit m sh cs b is at lb = refl
  gathers_written r place spread (suc n) w outer fit m sh cs b is at lb = go (nat_eq m r.array) refl
    where
      call : ℕ → OneCall
      call t = call_or_none (share coding offset (w t) outer).call

      p : Spot
      p = spot m (number sh.extents cs * width sh.elem + b)

      zero_sum : IsSum outer r (call 0).called
      zero_sum = sum_at r outer (suc n) w fit.0 fit.1 0 (omega arith)

      here : m ≡ r.array → is_some (find (size_in (slice_get outer r.array)) (spot r.array) p) ≡ true
      here e =
          found_some (size_in (slice_get outer r.array)) (spot r.array) p (number sh.extents cs * width sh.elem + b)
          (subst (λ (o : Option Shape). number sh.extents cs * width sh.elem + b < size_in o)
          (sym (ap (slice_get outer) (sym e) ∙ is)) (byte_below sh.extents cs (width sh.elem) b at lb))
          (ap (λ i. spot i (number sh.extents cs * width sh.elem + b)) (sym e))

      area_of : (q q' : Spot) → q ≡ q' → q.area ≡ q'.area
      area_of q q' e = ap (λ (v : Spot). v.area) e

      not_here : m ≢ r.array → is_some (find (size_in (slice_get outer r.array)) (spot r.array) p) ≡ false
      not_here ne = ap is_some (finds_none (size_in (slice_get outer r.array)) (spot r.array) p
          (λ k lk e. ne (sym (area_of _ _ e))))

      turn_written : (t : ℕ) → t < suc n → m ≢ r.array → (nat_eq m r.array || writes (plain (w t)) m cs)
          ≡ any_block (arity_of (call t).called) (arrays_of outer (call t).called) p
      turn_written t lt ne =
          let h = plain_at r outer (suc n) w fit.0 fit.1 t lt in
          let sums = sum_at r outer (suc n) w fit.0 fit.1 t lt in
          let shape = sum_shape r outer (call t).called sums in
          let no : nat_eq m r.array ≡ false = grind (arith, nat_tests, ne) in
          ap (λ x. x || writes (plain (w t)) m cs) no
          ∙ (ap (λ x. writes x m cs) h.1 ∙ or_false
          (list_any (λ a. is_written a.mode && has m cs a) (arguments (call t).called.args))
          ∙ others_written outer r (call t).called sums shape.0 shape.1 m sh cs b is at ne lb)

      go : (x : Bool) → nat_eq m r.array ≡ x → writes (plain (Gathers r place spread (suc n) w)) m cs
          ≡ (is_some (find (size_in (slice_get outer r.array)) (spot r.array) p)
          || any_below (suc n) (λ t. any_block (arity_of (call t).called) (arrays_of outer (call t).called) p))
      go true e =
          let same : m ≡ r.array = grind (arith, nat_tests, e) in
          any_true n (λ t. nat_eq m r.array || writes (plain (w t)) m cs) (ap (λ x. x || writes (plain (w n)) m cs) e)
          ∙ sym (ap (λ x. x || any_below (suc n)
          (λ t. any_block (arity_of (call t).called) (arrays_of outer (call t).called) p)) (here same))
      go false e =
          let ne : m ≢ r.array = grind (arith, nat_tests, e) in
          any_same (suc n) _ _ (λ t lt. turn_written t lt ne)
          ∙ sym (ap (λ x. x || any_below (suc n)
          (λ t. any_block (arity_of (call t).called) (arrays_of outer (call t).called) p)) (not_here ne))

  -- ---- which elements are written

  pub written_same : (p : Placed) (outer : List Shape) → Fitting coding p None outer → NoLeaf p
      → SameWritten outer (writes (plain p)) (bytes.written (on_bytes p outer))
  written_same Nothing outer fit none m sh cs b is at lb = refl
  written_same (Then x y) outer fit none m sh cs b is at lb
      = ap₂ (λ u v. u || v) (written_same x outer fit.0 none.0 m sh cs b is at lb)
      (written_same y outer fit.1 none.1 m sh cs b is at lb)
  written_same (Each n w) outer fit none m sh cs b is at lb
      = any_same n _ _ (λ t lt. written_same (w t) outer (fit t lt) (none t lt) m sh cs b is at lb)
  written_same (AtOnce place spread n w) outer fit none m sh cs b is at lb
      = any_same n _ _ (λ t lt. written_same (w t) outer (fit t lt).1 (none t lt) m sh cs b is at lb)
  written_same (Gathers r place spread n w) outer fit none m sh cs b is at lb
      = gathers_written r place spread n w outer fit m sh cs b is at lb
  written_same (Call c w) outer fit none m sh cs b is at lb = plain_written outer c fit.0 m sh cs b is at lb
  written_same (Hold args w) outer fit none m sh cs b is at lb = written_same w outer fit none m sh cs b is at lb
  written_same (Piped None n calls w) outer fit none m sh cs b is at lb = any_same n _ _ (λ t lt.
      or_false (list_any (λ a. is_written a.mode && has m cs a) (arguments (calls t).args))
      ∙ plain_written outer (calls t) (fit t lt).0 m sh cs b is at lb
      ∙ ap (λ k. any_block k (arrays_of outer (calls t)) (spot m (number sh.extents cs * width sh.elem + b)))
      (fit t lt).1)
  written_same (Piped (Some q) n calls w) outer fit none m sh cs b is at lb = any_same n _ _ (λ t lt.
      or_false (list_any (λ a. is_written a.mode && has m cs a) (arguments (calls t).args))
      ∙ plain_written outer (calls t) (fit t lt).0 m sh cs b is at lb
      ∙ ap (λ k. any_block k (arrays_of outer (calls t)) (spot m (number sh.extents cs * width sh.elem + b)))
      (fit t lt).1)
  written_same (Leaf number leaf shapes) outer fit none m sh cs b is at lb = absurd none

  -- ---- the meaning

  -- an iteration of a taken loop
  piped_turn : (outer : List Shape) (c : PlacedCall) (k : ℕ) → IsPlain outer c → arity_of c ≡ k → (v : Placed) → Means v
      → Fitting coding v None (shapes_of c) → (s : Arrays) (s' : State) → Codes outer s s'
      → SameOutcome outer (meaning (work.Then (plain_call c (plain v)) work.Nothing) s)
      (bytes.returns_to (bytes.meaning (on_bytes v (shapes_of c)) (entry_of (arrays_of outer c) s')) k
      (arrays_of outer c) s')
  piped_turn outer c k is many v means fit s s' codes =
      subst (λ z. SameOutcome outer (meaning (work.Then (plain_call c (plain v)) work.Nothing) s)
      (bytes.returns_to (bytes.meaning (on_bytes v (shapes_of c)) (entry_of (arrays_of outer c) s')) z
      (arrays_of outer c) s')) many
      (one_same outer _ _ (call_same outer c is (plain v) (on_bytes v (shapes_of c))
      (λ a a' h. means (shapes_of c) fit a a' h) s s' codes))

  pub all : (p : Placed) → Means p × Inside p
  all Nothing = (λ outer fit s s' codes. codes, tt)
  all (Then a b) = (
    λ outer fit s s' codes. then_same outer _ _ (meaning (plain b)) (bytes.meaning (on_bytes b outer))
        ((all a).0 outer fit.0 s s' codes) (λ x x' c. (all b).0 outer fit.1 x x' c),
    (all a).1,
  )
  all (Each n w) = (
    λ outer fit s s' codes. turns_same outer n (λ t. meaning (plain (w t)))
        (λ t. bytes.meaning (on_bytes (w t) outer)) (λ t lt x x' c. (all (w t)).0 outer (fit t lt) x x' c) s s' codes,
    tt,
  )
  all (AtOnce place spread n w) = (
    λ outer fit s s' codes. apart_same outer n (λ t. writes (plain (w t))) (λ t. bytes.written (on_bytes (w t) outer))
        (λ t. meaning (plain (w t)) s) (λ t. bytes.meaning (on_bytes (w t) outer) s') s s'
        (λ t lt. written_same (w t) outer (fit t lt).1 (fit t lt).0)
        (λ t lt. (all (w t)).0 outer (fit t lt).1 s s' codes) codes,
    tt,
  )
  all (Gathers r place spread n w) = (gathers_mean r place spread n w (λ t. (all (w t)).1), tt)
  all (Call c w) = (
    λ outer fit s s' codes. call_same outer c fit.0 (plain w) (on_bytes w (shapes_of c))
        (λ a a' h. (all w).0 (shapes_of c) fit.1 a a' h) s s' codes,
    (all w).0,
  )
  all (Hold args w) = ((all w).0, tt)
  all (Piped None n calls w) = (
    λ outer fit s s' codes. turns_same outer n _ _
        (λ t lt x x' c. piped_turn outer (calls t) (arity_of (calls 0)) (fit t lt).0 (fit t lt).1 (w t) (all (w t)).0
        (fit t lt).2 x x' c) s s' codes,
    tt,
  )
  all (Piped (Some q) n calls w) = (
    λ outer fit s s' codes. apart_same outer n
        (λ t. writes (work.Then (plain_call (calls t) (plain (w t))) work.Nothing))
        (λ t l. any_block (arity_of (calls 0)) (arrays_of outer (calls t)) l) _ _ s s'
        (λ t lt m sh cs b is at lb. or_false
        (list_any (λ a. is_written a.mode && has m cs a) (arguments (calls t).args))
        ∙ plain_written outer (calls t) (fit t lt).0 m sh cs b is at lb
        ∙ ap (λ k. any_block k (arrays_of outer (calls t)) (spot m (number sh.extents cs * width sh.elem + b)))
        (fit t lt).1)
        (λ t lt. piped_turn outer (calls t) (arity_of (calls 0)) (fit t lt).0 (fit t lt).1 (w t) (all (w t)).0
        (fit t lt).2 s s' codes) codes,
    tt,
  )
  all (Leaf number leaf shapes) = (
    λ outer fit s s' codes. subst
        (λ l. SameOutcome l (leaf_outcome (leaf_value leaf shapes s))
        (bytes.meaning (leaf_work coding number leaf shapes) s')) fit.0
        (fit.1 s s' (subst (λ l. Codes l s s') (sym fit.0) codes)),
    tt,
  )

  pub means_same : (p : Placed) → Means p
  means_same p = (all p).0
