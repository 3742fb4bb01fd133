-- What is placed of a program's entry is a plan.
use Rattle.std.proofs.Common.{◌≡◌, ℕ, zero, suc, ◌+◌, ◌<◌, ◌≤◌, Bool, true, false, List, [], ◌∷◌, length}
use Rattle.std.proofs.Common.{take, drop, map, get_or, Option, Some, None, refl, sym, ap, ◌∙◌, subst, arith}
use Rattle.std.specs.Prelude.{slice_get}
use Rattle.std.specs.List.{All}
use Rattle.sq_num.specs.declared.RedOp.{RedOp}
use Rattle.sq_text.specs.declared.place.Span.{Span}
use Rattle.sq_leaf.specs.declared.shape.Shape.{Shape}
use Rattle.sq_blocks.specs.Arguments.{lengths}
use Rattle.sq_blocks.specs.declared.argument.Argument.{Argument}
use Rattle.sq_form_laws.specs.Laws.{NoAlias, Apart}
use Rattle.sq_work.specs.InTurn.{IsRaceFree}
use Rattle.sq_spec.specs.declared.body.FormBody.{FormBody}
use Rattle.sq_ir.specs.Events.{Leaves}
use Rattle.sq_ir.specs.Written.{Setting}
use Rattle.sq_placed.specs.declared.home.Home.TheVariants.{InPlace}
use Rattle.sq_placed.specs.declared.home.Homes.{Homes}
use Rattle.sq_placed.specs.Placed.{PlacedArg, PlacedLocal, PlacedCall, arguments, plain}
use Rattle.sq_placed.specs.Tables.{no_shape, placed_of, entry_call_placed, entry_placed}
use Rattle.sq_placed.proofs.Plain.{plain_args}
use Rattle.sq_cells.specs.Tree.{Cause}
use Rattle.sq_plan_laws.specs.Coordinates.{Fits}
use Rattle.sq_cells.specs.Lowered.{held}
use Rattle.sq_plan_laws.specs.Calling.{place_of, PassedFits, ArgsFit, shapes_of}
use Rattle.sq_plan_laws.specs.OnBytes.{work}
use Rattle.sq_plan_laws.specs.Fitting.{IsPlain, whole, Fitting}
use Rattle.sq_plan_laws.specs.Keeping.{CallKeeps, may_by, may_of}
use Rattle.sq_plan_laws.specs.PlacedEntry.{EntryStowed}
use Rattle.sq_plan_laws.specs.LeafLaws.{codes_of}
use Rattle.sq_plan_laws.proofs.Gathered.{lengths_whole}
use Rattle.sq_plan_laws.specs.Seated.{CallSits, IsNear, IsOwned, Sits, at_node}
use Rattle.sq_plan_laws.specs.Entry.{form_at, IsPlan}
use Rattle.sq_program_laws.specs.Rows.{FormsFit, IsFit}
use Rattle.sq_program_laws.proofs.Nested.{keeping_more}
use Rattle.sq_program_laws.proofs.Rows.{tables_fit}
use Rattle.sq_program_laws.proofs.Facts.{passed, passed_at, passed_there, passed_none, passed_shapes, shape_at}
use Rattle.sq_program_laws.proofs.Facts.{kept_shapes, drop_length, kept_at, drop_at}
use Rattle.sq_program_laws.specs.Entry.{EntryFacts, entry_shapes, anything, EntriesSit, EntriesArePlans}

-- ---- lists

taken_at : {A : Type 0} (n : ℕ) (xs : List A) (i : ℕ) → i < n → slice_get (take n xs) i ≡ slice_get xs i
taken_at zero xs i lt = absurd (omega (arith, lt))
taken_at (suc n) [] i lt = refl
taken_at (suc n) (x ∷ xs) zero lt = refl
taken_at (suc n) (x ∷ xs) (suc i) lt = taken_at n xs i (omega (arith, lt))

taken_long : {A : Type 0} (n : ℕ) (xs : List A) → n ≤ length xs → length (take n xs) ≡ n
taken_long zero xs h = refl
taken_long (suc n) [] h = absurd (omega (arith, h))
taken_long (suc n) (x ∷ xs) h = let e = taken_long n xs (omega (arith, h)) in omega (arith, e)

taken_there : {A : Type 0} (n : ℕ) (xs : List A) (i : ℕ) (x : A) → slice_get (take n xs) i ≡ Some x → slice_get xs i
    ≡ Some x
taken_there zero xs i x h = absurd (cc h)
taken_there (suc n) [] i x h = absurd (cc h)
taken_there (suc n) (y ∷ xs) zero x h = h
taken_there (suc n) (y ∷ xs) (suc i) x h = taken_there n xs i x h

below : {A : Type 0} (xs : List A) (i : ℕ) (x : A) → slice_get xs i ≡ Some x → i < length xs
below [] i x h = absurd (cc h)
below (y ∷ xs) zero x h = omega arith
below (y ∷ xs) (suc i) x h = let e = below xs i x h in omega (arith, e)

-- a whole array fits
whole_fits : (ns : List ℕ) → All (λ k. 0 < k) ns → Fits (whole ns) ns
whole_fits [] h = tt
whole_fits (n ∷ ns) h = (h 0 0 (omega arith), omega arith, whole_fits ns (λ k d lt. h (suc k) d (omega (arith, lt))))

module _ (leaves : Leaves Cause) (bodies : ℕ → FormBody) (homes : ℕ → Homes) (mays : ℕ → ℕ → Bool)
    (fit : FormsFit leaves bodies homes mays)
    (n : ℕ) (args : List Argument) (facts : EntryFacts bodies homes (mays 0) args) where
  abbrev inner : List Shape
  inner = (bodies 0).arrays

  abbrev outer : List Shape
  outer = entry_shapes bodies args

  abbrev c : PlacedCall
  c = entry_call_placed (bodies 0) (homes 0) args

  abbrev here : ℕ → Argument → PlacedArg
  here i a = passed None inner [] i a

  arg_at : (i : ℕ) (p : PlacedArg) → slice_get c.args i ≡ Some p → (a : Argument) × (slice_get args i ≡ Some a)
      × (p ≡ here i a)
  arg_at i p e =
      let h = passed_at None inner [] 0 args i p e in
      let z : 0 + i ≡ i = omega arith in
      (h.0, h.1, h.2 ∙ ap (λ j. here j h.0) z)

  -- whichever it is, it isn't reduced into, and stands in place
  home_is : (i : ℕ) (a : Argument) → (here i a).home ≡ InPlace
  home_is i a = refl

  gathers_is : (i : ℕ) (a : Argument) → (here i a).gathers ≡ None
  gathers_is i a = go a.is_reduced
    where
      go : (v : Bool) → (passed None inner [] i
          (record { mode = a.mode; is_reduced = v; array = a.array; rect = a.rect })).gathers ≡ None
      go true = refl
      go false = refl

  outer_at : (i : ℕ) (a : Argument) → slice_get args i ≡ Some a → slice_get outer i ≡ slice_get inner i
  outer_at i a e = taken_at (length args) inner i (below args i a e)

  fits_at : (i : ℕ) (a : Argument) → slice_get args i ≡ Some a → PassedFits outer (here i a)
  fits_at i a e =
      let w = facts.each i a e in
      let shape : get_or inner i no_shape ≡ w.shape = shape_at inner i w.shape w.there in
      record {
        of = w.shape;
        there = ap (slice_get outer) w.array ∙ (outer_at i a e ∙ w.there);
        fits = subst (λ (r : List Span). Fits r w.shape.extents) (sym w.rect)
            (whole_fits w.shape.extents (facts.some i w.shape w.there));
        elem = ap (λ (x : Shape). x.elem) shape;
        extents = ap (λ (x : Shape). x.extents) shape ∙ (sym (lengths_whole w.shape.extents) ∙ ap lengths (sym w.rect));
      }

  args_fit : ArgsFit outer c.args
  args_fit = record { each = λ i p e. let h = arg_at i p e in subst (PassedFits outer) (sym h.2) (fits_at i h.0 h.1) }

  args_are : arguments c.args ≡ args
  args_are = plain_args None inner [] 0 args

  distinct : (i j : ℕ) (x y : Argument) → slice_get args i ≡ Some x → slice_get args j ≡ Some y → x.array ≡ y.array → i
      ≡ j
  distinct i j x y ex ey e = sym (facts.each i x ex).array ∙ (e ∙ (facts.each j y ey).array)

  no_alias : NoAlias (arguments c.args)
  no_alias = subst NoAlias (sym args_are)
      (λ i j x y lt ex ey wx wy sh. let e = distinct j i y x ey ex sh.array in omega (arith, e, lt))

  apart : (k : ℕ) → Apart (arguments c.args) k
  apart k = subst (λ (l : List Argument). Apart l k) (sym args_are) (record {
    others = λ j x y ne ex ey sh. absurd (ne (sym (distinct k j x y ex ey sh.array)));
    whole = λ x ex. facts.reduced k x ex;
  })

  is_plain : IsPlain outer c
  is_plain = record {
    args = args_fit;
    no_alias = no_alias;
    none = λ i p e. let h = arg_at i p e in ap (λ (q : PlacedArg). q.gathers) h.2 ∙ gathers_is i h.0;
  }

  keeps : CallKeeps c anything
  keeps = record {
    base = record {
      apart = λ k p e st. apart k;
      permitted = λ k p e w. refl;
      sum_home = λ k p e ne. let h = arg_at k p e in absurd
          (ne (ap (λ (q : PlacedArg). q.gathers) h.2 ∙ gathers_is k h.0));
    };
    not_held = λ k p e. let h = arg_at k p e in ap (λ (q : PlacedArg). held (place_of q.home)) h.2;
  }

  shapes : shapes_of c ≡ inner
  shapes =
      let long : length (drop (length (homes 0).params) inner) ≡ length (homes 0).locals
      = drop_length (length (homes 0).params) inner (length (homes 0).locals) facts.locals in
      let rest : map (λ (q : PlacedLocal). q.shape) c.locals ≡ drop (length (homes 0).params) inner
      = kept_shapes (drop (length (homes 0).params) inner) (homes 0).locals long in
      let as_many : length (homes 0).params ≡ 0 + length args = omega (arith, facts.many) in
      passed_shapes None inner [] 0 args (map (λ (q : PlacedLocal). q.shape) c.locals)
      (omega (arith, facts.many, facts.locals)) (rest ∙ ap (λ j. drop j inner) as_many)

  sits : CallSits outer c
  sits = record {
    args = args_fit;
    owned = λ i p e. let h = arg_at i p e in subst (λ (o : Option RedOp). IsOwned o p.home)
        (sym (ap (λ (q : PlacedArg). q.gathers) h.2 ∙ gathers_is i h.0)) tt;
    near = λ i p e. let h = arg_at i p e in subst (λ (q : PlacedArg). IsNear false q.home) (sym h.2) refl;
    locals = λ i l e. facts.dims (length (homes 0).params + i) l.shape
        (drop_at (length (homes 0).params) inner i l.shape
        (kept_at (drop (length (homes 0).params) inner) (homes 0).locals i l e));
  }

  body : IsFit leaves bodies homes mays 0 (placed_of bodies homes n 0)
  body = tables_fit leaves bodies homes mays fit n 0

  may : (i : ℕ) → mays 0 i ≡ true → may_of c i ≡ true
  may i e = go (slice_get args i) refl
    where
      go : (o : Option Argument) → slice_get args i ≡ o → may_of c i ≡ true
      go None f = ap may_by (passed_none None inner [] 0 args i f)
      go (Some a) f = ap may_by (passed_there None inner [] 0 args i a f) ∙ facts.modes i a f e

  all_sit : Sits leaves (entry_placed bodies homes n args) outer
  all_sit = (sits, subst (λ (l : List Shape). Sits leaves (placed_of bodies homes n 0) l) (sym shapes) body.sits)

  is_plan : (s : Setting) (buffers : List ℕ) → length buffers ≡ length args
      → IsRaceFree (plain (entry_placed bodies homes n args))
      → EntryStowed (at_node s 0) (form_at s buffers) outer
      (work (codes_of leaves) s.offset (entry_placed bodies homes n args) outer)
      → IsPlan s leaves outer buffers anything (entry_placed bodies homes n args)
  is_plan s buffers many race_free stowed = record {
    many = many ∙ sym (taken_long (length args) inner (omega (arith, facts.many, facts.locals)));
    dims = λ k sh e. facts.dims k sh (taken_there (length args) inner k sh e);
    sits = all_sit;
    ready = record {
      fitting = (
        is_plain,
        subst (λ (l : List Shape). Fitting (codes_of leaves) (placed_of bodies homes n 0) None l)
            (sym shapes) body.fitting,
      );
      keeping = (keeps, keeping_more (placed_of bodies homes n 0) (mays 0) (may_of c) may body.keeping);
      race_free = race_free;
      stowed = stowed;
    };
  }

pub entries_are_plans : EntriesArePlans
entries_are_plans s leaves bodies homes mays fit n args facts buffers many race_free stowed
    = is_plan leaves bodies homes mays fit n args facts s buffers many race_free stowed

pub entries_sit : EntriesSit
entries_sit leaves bodies homes mays fit n args facts
    = all_sit leaves bodies homes mays fit n args facts
