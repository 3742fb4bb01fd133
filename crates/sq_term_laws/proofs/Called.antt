-- Where forms have one caller each and buffers are numbered, buffers are in order.
use Rattle.std.proofs.Common.{◌≡◌, ℕ, zero, suc, ◌<◌, Bool, true, false, List, [], ◌∷◌, ◌++◌, take, slice_get, Option}
use Rattle.std.proofs.Common.{Some, None, refl, sym, ap, ap₂, subst, ◌∙◌, arith}
use Rattle.std.specs.Prelude.{◌==◌, if◌then◌else◌}
use Rattle.std.specs.Option.{option_map_or}
use Rattle.std.proofs.lemmas.Bool.{eqb-true, eqb-false}
use Rattle.sq_ir.specs.declared.plan.Buffer.{Buffer}
use Rattle.sq_ir.specs.Plans.{of_buffer}
use Rattle.sq_blocks.specs.declared.argument.Argument.{Argument}
use Rattle.sq_spec.specs.declared.statement.CallInstance.{CallInstance}
use Rattle.sq_spec.specs.declared.body.FormBody.{FormBody}
use Rattle.sq_placed.specs.declared.home.Homes.{Homes}
use Rattle.sq_placed.specs.Trees.{local_buffers}
use Rattle.sq_placed.specs.Tables.{locals_of}
use Rattle.sq_nests.specs.Stacks.{is_at, of_level, those, OnStack}
use Rattle.sq_term_laws.specs.Orders.{EachOf, Round, rounds_of, held_over, params_of, round_held, arguments_of, own_locals}
use Rattle.sq_term_laws.specs.Orders.{IsNext, IsBehind}
use Rattle.sq_term_laws.specs.Overlapping.{IsSuited, OverlapsStand}
use Rattle.sq_term_laws.specs.Callers.{home_buffers, home_set, Numbering, own, stack, outer, above, before, IsRowOf}
use Rattle.sq_term_laws.specs.Callers.{AreRowsOf}
use Rattle.sq_term_laws.specs.Callers.{AreNumbered, AreOrdered, NumberedAreOrdered}
use Rattle.sq_term_laws.proofs.Numbered.{append_assoc, those_append, on_stack, left_of, right_of, none_held}
use Rattle.sq_term_laws.proofs.Numbered.{moved_buffers, with_more, same_moved, moved_once}

-- an item of those that pass stands somewhere among all
record IsAt (here : ℕ → Bool) (xs : List ℕ) (j b : ℕ) : Type 0 where
  place : ℕ
  there : slice_get xs place ≡ Some b
  front : those here (take place xs) ≡ take j (those here xs)
  passes : here b ≡ true

place_of : (here : ℕ → Bool) (xs : List ℕ) (j b : ℕ) → slice_get (those here xs) j ≡ Some b → IsAt here xs j b
place_of here [] j b h = absurd (let z = h in cc)
place_of here (x ∷ xs) j b h = by (here x) refl j h (λ i. place_of here xs i b)
  where
    later : (v : Bool) → here x ≡ v → (i : ℕ) → (w : IsAt here xs i b) → those here (take (suc w.place) (x ∷ xs))
        ≡ (if v then x ∷ take i (those here xs) else take i (those here xs))
    later v e i w = ap (λ (u : Bool). if u then x ∷ those here (take w.place xs) else those here (take w.place xs)) e
        ∙ ap (λ l. if v then x ∷ l else l) w.front

    by : (v : Bool) → here x ≡ v → (j : ℕ) → slice_get (if v then x ∷ those here xs else those here xs) j ≡ Some b
        → ((i : ℕ) → slice_get (those here xs) i ≡ Some b → IsAt here xs i b)
        → IsAt here (x ∷ xs) j b
    by true e zero h f = let z : x ≡ b
        = cc in record { place = 0; there = h; front = refl; passes = subst (λ y. here y ≡ true) z e }
    by true e (suc i) h f = let w = f i h in record {
      place = suc w.place;
      there = w.there;
      front = later true e i w
          ∙ ap (λ (u : Bool). take (suc i) (if u then x ∷ those here xs else those here xs)) (sym e);
      passes = w.passes;
    }
    by false e j h f = let w = f j h in record {
      place = suc w.place;
      there = w.there;
      front = later false e j w
          ∙ ap (λ (u : Bool). take j (if u then x ∷ those here xs else those here xs)) (sym e);
      passes = w.passes;
    }

-- a buffer of a level has it
level_is : (level : ℕ) (o : Option Buffer) → is_at level o ≡ true → (f : Option Buffer → ℕ)
    → ((b : Buffer) → f (Some b) ≡ b.level) → f o ≡ level
level_is level None h f g = absurd (let z = h in cc)
level_is level (Some b) h f g = g b ∙ eqb-true b.level level h

module _ (buffers : List Buffer) (bodies : ℕ → FormBody) (homes : ℕ → Homes) (k : Numbering)
    (are : AreNumbered buffers bodies homes k) (level : ℕ) where
  abbrev here : ℕ → Bool
  here = of_level buffers level

  abbrev Own : ℕ → List ℕ
  Own = own buffers bodies homes k

  abbrev Stack : ℕ → ℕ → List ℕ
  Stack = stack buffers bodies homes k here

  abbrev Outer : ℕ → List ℕ
  Outer = outer buffers bodies homes k here

  abbrev Above : ℕ → List ℕ
  Above = above buffers bodies homes k here

  abbrev Before : ℕ → List ℕ
  Before = before buffers bodies homes k

  abbrev mine : ℕ → List ℕ
  mine f = those here (Own f)

  -- fuel doesn't matter
  same_stack : (n m f : ℕ) → f < n → f < m → Stack n f ≡ Stack m f
  same_stack zero m f h l = absurd (omega (arith, h))
  same_stack (suc n) zero f h l = absurd (omega (arith, l))
  same_stack (suc n) (suc m) f h l
      = ap (λ z. z ++ mine f) (by (f == 0) refl
      (λ z. same_stack n m (k.caller f) (let c = are.callers f z in omega (arith, c, h))
      (let c = are.callers f z in omega (arith, c, l))))
    where
      by : (v : Bool) → (f == 0) ≡ v → (0 < f → Stack n (k.caller f) ≡ Stack m (k.caller f))
          → (if v then [] else Stack n (k.caller f)) ≡ (if v then [] else Stack m (k.caller f))
      by true e f = refl
      by false e g = g (let z = eqb-false f 0 e in omega (arith, z))

  -- what stands above a called form
  above_is : (g : ℕ) → 0 < g → Above g ≡ Outer (k.caller g)
  above_is g h = by (g == 0) refl
    where
      by : (v : Bool) → (g == 0) ≡ v → (if v then [] else Stack g (k.caller g)) ≡ Outer (k.caller g)
      by true e = let z = eqb-true g 0 e in absurd (omega (arith, h, z))
      by false e = same_stack g (suc (k.caller g)) (k.caller g) (are.callers g h) (omega arith)

  -- a buffer's place
  placed : (f j b : ℕ) → slice_get (mine f) j ≡ Some b → Before b ≡ Above f ++ take j (mine f)
  placed f j b h =
      let w = place_of here (Own f) j b h in
      let p = are.places f w.place b w.there in
      let l : of_buffer buffers (λ x. x.level) b ≡ level
      = level_is level (slice_get buffers b) w.passes (λ o. option_map_or (λ (x : Buffer). x.level) o 0) (λ x. refl)
      in
      ap₂ (λ m x. above buffers bodies homes k (of_level buffers m) x
      ++ those (of_level buffers m) (take (k.index b) (Own x))) l p.0
      ∙ ap (λ i. Above f ++ those here (take i (Own f))) p.1 ∙ ap (λ z. Above f ++ z) w.front

  abbrev Next : List ℕ → CallInstance → Type 0
  Next = IsNext here Before Outer bodies homes

  abbrev As : CallInstance → List ℕ
  As = arguments_of here Before Outer bodies homes

  abbrev Ls : CallInstance → List ℕ
  Ls = own_locals here Before Outer bodies homes

  abbrev Held : ℕ → List ℕ
  Held g = those here (held_over (k.loops g) 0 (homes g).params)

  -- all of a called form
  parts_are : (f : ℕ) (held : List ℕ) (r : CallInstance) → IsRowOf buffers bodies homes k f held r → mine r.form
      ≡ Held r.form ++ (As r ++ Ls r)
  parts_are f held r h =
      let g = r.form in
      let rest = moved_buffers (homes g).params in
      let ls = local_buffers (locals_of (bodies g) (homes g)) in
      ap (λ z. those here (held_over (k.loops g) 0 (homes g).params ++ z)) (with_more (homes g).params ls)
      ∙ those_append here (held_over (k.loops g) 0 (homes g).params) (rest ++ ls)
      ∙ ap (λ z. Held g ++ z) (those_append here rest ls ∙ ap (λ z. those here z ++ Ls r)
      (sym (same_moved (homes g).params r.args h.arguments)))

  up : (f : ℕ) (held : List ℕ) (r : CallInstance) → IsRowOf buffers bodies homes k f held r → Above r.form ≡ Outer f
  up f held r h = above_is r.form (let l = h.later in omega (arith, l)) ∙ ap Outer h.caller_is

  stands : (f : ℕ) (held : List ℕ) (r : CallInstance) → IsRowOf buffers bodies homes k f held r
      → OnStack Before (Outer f) (Held r.form ++ (As r ++ Ls r))
  stands f held r h = subst (OnStack Before (Outer f)) (parts_are f held r h)
      (on_stack Before (Outer f) (mine r.form)
      (λ i b e. placed r.form i b e ∙ ap (λ z. z ++ take i (mine r.form)) (up f held r h)))

  row_next : (f : ℕ) (held : List ℕ) (r : CallInstance) → IsRowOf buffers bodies homes k f held r
      → Next (Outer f ++ those here held) r
  row_next f held r h = subst (λ (z : List ℕ). Next (Outer f ++ those here z) r) (sym h.same) (
      let s = right_of Before (Outer f) (Held r.form) (As r ++ Ls r) (stands f held r h) in
      let o = Outer f ++ Held r.form in
      record {
        count = h.arguments;
        arguments = left_of Before o (As r) (Ls r) s;
        locals = right_of Before o (As r) (Ls r) s;
        callee = ap₂ (λ x y. x ++ y) (up f held r h) (parts_are f held r h)
            ∙ sym (append_assoc (Outer f) (Held r.form) (As r ++ Ls r)) ∙ sym (append_assoc o (As r) (Ls r));
      })

  rows_next : (f : ℕ) (held : List ℕ) (rows : List CallInstance) → EachOf (IsRowOf buffers bodies homes k f held) rows
      → EachOf (Next (Outer f ++ those here held)) rows
  rows_next f held [] h = tt
  rows_next f held (r ∷ rest) h = (row_next f held r h.0, rows_next f held rest h.1)

  held_stand : (f n : ℕ) (rows : List CallInstance)
      → EachOf (IsRowOf buffers bodies homes k f (held_over n 0 (params_of homes (slice_get rows 0)))) rows
      → OnStack Before (Outer f) (those here (held_over n 0 (params_of homes (slice_get rows 0))))
  held_stand f n [] h = subst (λ (z : List ℕ). OnStack Before (Outer f) (those here z)) (sym (none_held n 0)) tt
  held_stand f n (r ∷ rest) h =
      let held = held_over n 0 (homes r.form).params in
      subst (λ (z : List ℕ). OnStack Before (Outer f) (those here z)) (sym h.0.same)
      (left_of Before (Outer f) (Held r.form) (As r ++ Ls r) (stands f held r h.0))

  rounds_next : (f : ℕ) (qs : List Round) → EachOf (AreRowsOf buffers bodies homes k f) qs
      → EachOf (IsBehind here Before Outer bodies homes f) qs
  rounds_next f [] h = tt
  rounds_next f (q ∷ qs) h = (
    record
        { held = held_stand f q.loops q.rows h.0; rows = rows_next f (round_held homes q) q.rows h.0 },
    rounds_next f qs
        h.1,
  )

  abbrev params : List ℕ
  params = home_buffers (homes 0).params

  abbrev locals : List ℕ
  locals = local_buffers (locals_of (bodies 0) (homes 0))

  entry_stack : OnStack Before [] (mine 0)
  entry_stack = on_stack Before [] (mine 0) (λ j b h. placed 0 j b h)

  -- no argument of the entry leaves a loop, and none stands twice
  entry_all : OverlapsStand bodies homes → mine 0 ≡ those here params ++ those here locals
  entry_all o = ap (λ (n : ℕ). those here (held_over n 0 (homes 0).params ++ (home_buffers (homes 0).params
      ++ (home_set 0 (homes 0).params ++ (home_set 1 (homes 0).params ++ locals))))) are.root
      ∙ ap (those here) (with_more (homes 0).params locals)
      ∙ ap (λ (z : List ℕ). those here (z ++ locals)) (moved_once (homes 0).params
      (subst (λ (v : Bool). EachOf (IsSuited v) (homes 0).params) o.entry (o.params 0)))
      ∙ those_append here params locals

  ordered : OverlapsStand bodies homes → (args : List Argument) → AreOrdered buffers bodies homes k level args
  ordered o args =
      let s = subst (OnStack Before []) (entry_all o) entry_stack in
      record {
        forms = λ f. rounds_next f (rounds_of (bodies f).body) (are.rows f);
        entry = left_of Before [] (those here params) (those here locals) s;
        locals = right_of Before [] (those here params) (those here locals) s;
        round = entry_all o;
      }

pub numbered_are_ordered : NumberedAreOrdered
numbered_are_ordered buffers bodies homes k are overlaps level args = ordered buffers bodies homes k are level overlaps
    args
