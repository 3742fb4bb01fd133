-- The arguments that leave loops round a call, as the calls of these loops have them.
use Rattle.std.proofs.Common.{◌≡◌, ℕ, zero, suc, ◌+◌, ◌<◌, ◌==◌, Bool, true, false, List, [], ◌∷◌, ◌++◌, length}
use Rattle.std.proofs.Common.{map, get_or, refl, sym, ap, ap₂, ◌∙◌, subst, arith, ◌⊎◌, inl, inr, ⊎_elim}
use Rattle.std.specs.Prelude.{Option, Some, None, slice_get, if◌then◌else◌}
use Rattle.std.proofs.lemmas.Bool.Decides.{nat_tests}
use Rattle.sq_num.specs.declared.RedOp.{RedOp}
use Rattle.sq_text.specs.declared.place.Span.{Span}
use Rattle.sq_blocks.specs.declared.argument.Argument.{Argument}
use Rattle.sq_spec.specs.declared.statement.CallInstance.{CallInstance}
use Rattle.sq_spec.specs.declared.body.FormBody.{FormBody}
use Rattle.sq_placed.specs.declared.home.Home.{Home}
use Rattle.sq_placed.specs.declared.home.Home.TheVariants as home
use Rattle.sq_placed.specs.declared.home.Home.TheVariants.{InPlace}
use Rattle.sq_placed.specs.declared.home.Homes.{Homes}
use Rattle.sq_placed.specs.Placed.{PlacedArg}
use Rattle.sq_placed.specs.Tables.{no_shape, placed_args, leaves_loop, leaving_args, row_rect}
use Rattle.sq_placed.specs.Tables.{with_rect, held_arg}
use Rattle.sq_cells.proofs.Access.{end_or_below}
use Rattle.sq_cells.specs.Work.{Held}
use Rattle.sq_plan_laws.specs.Calling.{place_of}
use Rattle.sq_plan_laws.proofs.PlacedLists.{same_some}
use Rattle.sq_term_laws.specs.Orders.{EachOf}
use Rattle.sq_program_laws.specs.Held.{StandsApart, Stays}
use Rattle.sq_program_laws.specs.Rows.{without_block}
use Rattle.sq_program_laws.proofs.Facts.{passed, passed_at, passed_there, passed_home}
use Rattle.sq_program_laws.proofs.Loops.{each_at, each_from, each_map}
use Rattle.sq_program_laws.proofs.Shapes.{mapped_at, at_mapped}

-- ---- homes

-- a parameter with this home leaves more than so many loops
abbrev pub Beyond : ℕ → Home → Type 0
Beyond l home.InPlace = ⊥
Beyond l (home.Own u) = ⊥
Beyond l (home.Held u n) = l < n
Beyond l (home.Twin u v) = ⊥

pub beyond_less : (l : ℕ) (h : Home) → Beyond (suc l) h → Beyond l h
beyond_less l home.InPlace x = x
beyond_less l (home.Own u) x = x
beyond_less l (home.Held u n) x = omega (arith, x)
beyond_less l (home.Twin u v) x = x

pub beyond_held : (l : ℕ) (h : Home) → Beyond l h → place_of h ≡ Held
beyond_held l home.InPlace x = absurd x
beyond_held l (home.Own u) x = absurd x
beyond_held l (home.Held u n) x = refl
beyond_held l (home.Twin u v) x = absurd x

-- it leaves more loops, or one more
beyond_or : (l : ℕ) (h : Home) → Beyond l h → Beyond (suc l) h ⊎ ((u : ℕ) × (h ≡ home.Held u (suc l)))
beyond_or l home.InPlace x = absurd x
beyond_or l (home.Own u) x = absurd x
beyond_or l (home.Held u n) x = ⊎_elim (λ e. inr (u, ap (home.Held u) (sym e))) (λ lt. inl lt)
    (end_or_below (suc l) n (omega (arith, x)))
beyond_or l (home.Twin u v) x = absurd x

same_number : (m n : ℕ) → (m == n) ≡ true → m ≡ n
same_number m n e = grind (arith, nat_tests)

number_same : (n : ℕ) → (n == n) ≡ true
number_same n = grind (arith, nat_tests)

pub leaves_by : (l : ℕ) (h : Home) → leaves_loop l h ≡ true → (u : ℕ) × (h ≡ home.Held u l)
leaves_by l home.InPlace e = cc
leaves_by l (home.Own u) e = cc
leaves_by l (home.Held u n) e = (u, ap (home.Held u) (same_number n l e))
leaves_by l (home.Twin u v) e = cc

pub held_leaves : (l u : ℕ) (h : Home) → h ≡ home.Held u l → leaves_loop l h ≡ true
held_leaves l u h e = ap (leaves_loop l) e ∙ number_same l

-- ---- the arguments that leave a loop

-- one of them
abbrev pub Left : (l : ℕ) → List Home → (i : ℕ) → List Argument → ℕ × Argument → Type 0
Left l hs i args q = (j : ℕ) × (q.0 ≡ i + j) × (slice_get args j ≡ Some q.1)
    × (leaves_loop l (get_or hs q.0 InPlace) ≡ true)

pub left_at : (l : ℕ) (hs : List Home) (i : ℕ) (args : List Argument) (m : ℕ) (q : ℕ × Argument)
    → slice_get (leaving_args l hs i args) m ≡ Some q → Left l hs i args q
left_at l hs i [] m q e = cc
left_at l hs i (a ∷ args) m q e
    = go (leaves_loop l (get_or hs i InPlace)) refl m e (λ n g. left_at l hs (suc i) args n q g)
  where
    next : Left l hs (suc i) args q → Left l hs i (a ∷ args) q
    next h = let x = h.1 in (suc h.0, omega (arith, x), h.2, h.3)

    go : (v : Bool) → leaves_loop l (get_or hs i InPlace) ≡ v → (m : ℕ)
        → slice_get (if v then (i, a) ∷ leaving_args l hs (suc i) args else leaving_args l hs (suc i) args) m ≡ Some q
        → ((n : ℕ) → slice_get (leaving_args l hs (suc i) args) n ≡ Some q → Left l hs (suc i) args q)
        → Left l hs i (a ∷ args) q
    go true f zero g rest = let z : i ≡ i + 0 = omega arith in subst (Left l hs i (a ∷ args)) (same_some g)
        (0, z, refl, f)
    go true f (suc m) g rest = next (rest m g)
    go false f m g rest = next (rest m g)

pub left_there : (l : ℕ) (hs : List Home) (i : ℕ) (args : List Argument) (j : ℕ) (a : Argument) → slice_get args j ≡ Some a
    → leaves_loop l (get_or hs (i + j) InPlace) ≡ true
    → (m : ℕ) × (slice_get (leaving_args l hs i args) m ≡ Some (i + j, a))
left_there l hs i [] j a e f = cc
left_there l hs i (x ∷ args) zero a e f = (0, here)
  where
    z : i + 0 ≡ i
    z = omega arith

    here : slice_get (leaving_args l hs i (x ∷ args)) 0 ≡ Some (i + 0, a)
    here =
        ap (λ v. slice_get (if v then (i, x) ∷ leaving_args l hs (suc i) args else leaving_args l hs (suc i) args) 0)
        (ap (λ n. leaves_loop l (get_or hs n InPlace)) (sym z) ∙ f)
        ∙ ap₂ (λ (n : ℕ) (y : Argument). Some (n, y)) (sym z) (same_some e)
left_there l hs i (x ∷ args) (suc j) a e f =
    let z : suc i + j ≡ i + suc j = omega arith in
    go (leaves_loop l (get_or hs i InPlace)) refl z
    (left_there l hs (suc i) args j a e (ap (λ n. leaves_loop l (get_or hs n InPlace)) z ∙ f))
  where
    go : (v : Bool) → leaves_loop l (get_or hs i InPlace) ≡ v → suc i + j ≡ i + suc j
        → (m : ℕ) × (slice_get (leaving_args l hs (suc i) args) m ≡ Some (suc i + j, a))
        → (m : ℕ) × (slice_get (if v then (i, x) ∷ leaving_args l hs (suc i) args else leaving_args l hs (suc i) args) m
        ≡ Some (i + suc j, a))
    go true g z h = (suc h.0, h.1 ∙ ap (λ (n : ℕ). Some (n, a)) z)
    go false g z h = (h.0, h.1 ∙ ap (λ (n : ℕ). Some (n, a)) z)

-- its home
pub left_held : (l : ℕ) (hs : List Home) (args : List Argument) (m : ℕ) (q : ℕ × Argument)
    → slice_get (leaving_args l hs 0 args) m ≡ Some q → (u : ℕ) × (get_or hs q.0 InPlace ≡ home.Held u l)
left_held l hs args m q e = let h = left_at l hs 0 args m q e in leaves_by l (get_or hs q.0 InPlace) h.3

-- no two of them stand in one position
left_once : (l : ℕ) (hs : List Home) (i : ℕ) (args : List Argument) (m n : ℕ) (q p : ℕ × Argument)
    → slice_get (leaving_args l hs i args) m ≡ Some q → slice_get (leaving_args l hs i args) n ≡ Some p
    → q.0 ≡ p.0 → m ≡ n
left_once l hs i [] m n q p e f s = cc
left_once l hs i (a ∷ args) m n q p e f s
    = go (leaves_loop l (get_or hs i InPlace)) m n e f (λ x y g h. left_once l hs (suc i) args x y q p g h s)
  where
    first : {x : ℕ × Argument} → Some (i, a) ≡ Some x → x.0 ≡ i
    first g = ap (λ (y : ℕ × Argument). y.0) (sym (same_some g))

    later : (k : ℕ) (x : ℕ × Argument) → slice_get (leaving_args l hs (suc i) args) k ≡ Some x → i < x.0
    later k x g = let h = left_at l hs (suc i) args k x g in let z = h.1 in omega (arith, z)

    go : (v : Bool) (m n : ℕ)
        → slice_get (if v then (i, a) ∷ leaving_args l hs (suc i) args else leaving_args l hs (suc i) args) m ≡ Some q
        → slice_get (if v then (i, a) ∷ leaving_args l hs (suc i) args else leaving_args l hs (suc i) args) n ≡ Some p
        → ((x y : ℕ) → slice_get (leaving_args l hs (suc i) args) x ≡ Some q
        → slice_get (leaving_args l hs (suc i) args) y ≡ Some p → x ≡ y) → m ≡ n
    go true zero zero g h rest = refl
    go true zero (suc n) g h rest = let x = first g in let y = later n p h in absurd (omega (arith, x, y, s))
    go true (suc m) zero g h rest = let x = first h in let y = later m q g in absurd (omega (arith, x, y, s))
    go true (suc m) (suc n) g h rest = ap suc (rest m n g h)
    go false m n g h rest = rest m n g h

-- ---- the arguments that are carried round calls

module _ (bodies : ℕ → FormBody) (homes : ℕ → Homes) where
  -- the arguments of a row, as a call in loops has them
  abbrev pub row_args : CallInstance → List PlacedArg
  row_args r = placed_args None (bodies r.form).arrays (homes r.form).params 0 r.args

  abbrev by_none : Bool → Option RedOp
  by_none v = if v then None else None

  no_op : (v : Bool) → by_none v ≡ None
  no_op true = refl
  no_op false = refl

  -- the argument at a position
  pub record At (r : CallInstance) (i : ℕ) (p : PlacedArg) : Type 0 where
    pub argument : Argument
    pub there : slice_get r.args i ≡ Some argument
    pub is : p ≡ passed None (bodies r.form).arrays (homes r.form).params i argument

  pub arg_at : (r : CallInstance) (i : ℕ) (p : PlacedArg) → slice_get (row_args r) i ≡ Some p → At r i p
  arg_at r i p e =
      let h = passed_at None (bodies r.form).arrays (homes r.form).params 0 r.args i p e in
      let z : 0 + i ≡ i = omega arith in
      record {
        argument = h.0;
        there = h.1;
        is = h.2 ∙ ap (λ j. passed None (bodies r.form).arrays (homes r.form).params j h.0) z;
      }

  pub home_there : (r : CallInstance) (i : ℕ) (p : PlacedArg) → slice_get (row_args r) i ≡ Some p
      → get_or (homes r.form).params i InPlace ≡ p.home
  home_there r i p e = passed_home None (bodies r.form).arrays (homes r.form).params r.args i p e

  pub argument_there : (r : CallInstance) (i : ℕ) (p : PlacedArg) → slice_get (row_args r) i ≡ Some p
      → slice_get r.args i ≡ Some p.argument
  argument_there r i p e = let h = arg_at r i p e in h.there
      ∙ ap (λ (q : PlacedArg). Some q.argument) (sym h.is)

  -- In all of these calls the arguments H stand in positions of their own, and those are all that leave more than so
  -- many loops; each is apart from the others of its call.
  pub record Carries (l : ℕ) (calls : List CallInstance) (H : List PlacedArg) : Type 0 where
    pub at : ℕ → ℕ
    pub distinct : (i j : ℕ) (x y : PlacedArg) → slice_get H i ≡ Some x → slice_get H j ≡ Some y → at i ≡ at j → i ≡ j
    pub beyond : (j : ℕ) (p : PlacedArg) → slice_get H j ≡ Some p → Beyond l p.home
    pub each : (j : ℕ) (p : PlacedArg) → slice_get H j ≡ Some p
        → EachOf (λ r. slice_get (row_args r) (at j) ≡ Some p) calls
    pub all : EachOf (λ r. (i : ℕ) (p : PlacedArg) → slice_get (row_args r) i ≡ Some p → Beyond l p.home → (j : ℕ)
        × (slice_get H j ≡ Some p) × (at j ≡ i)) calls
    pub clear : EachOf (λ r. (i : ℕ) (p : PlacedArg) → slice_get (row_args r) i ≡ Some p → Beyond l p.home
        → StandsApart r.args i) calls

  -- among fewer calls
  pub carries_in : (l : ℕ) (calls few : List CallInstance) (H : List PlacedArg)
      → ((P : CallInstance → Type 0) → EachOf P calls → EachOf P few) → Carries l calls H → Carries l few H
  carries_in l calls few H f c = record {
    at = c.at;
    distinct = c.distinct;
    beyond = c.beyond;
    each = λ j p e. f (λ r. slice_get (row_args r) (c.at j) ≡ Some p) (c.each j p e);
    all = f _ c.all;
    clear = f _ c.clear;
  }

  -- where no argument leaves more loops
  pub carries_none : (l : ℕ) (calls : List CallInstance)
      → EachOf (λ r. (i : ℕ) (p : PlacedArg) → slice_get (row_args r) i ≡ Some p → Beyond l p.home → ⊥) calls
      → Carries l calls []
  carries_none l calls h = record {
    at = λ j. j;
    distinct = λ i j x y ex ey e. e;
    beyond = λ j p e. cc;
    each = λ j p e. cc;
    all = each_map _ _ calls (λ r f i p e x. absurd (f i p e x)) h;
    clear = each_map _ _ calls (λ r f i p e x. absurd (f i p e x)) h;
  }

  -- where those that leave as many loops leave one more
  pub carries_less : (l : ℕ) (calls : List CallInstance) (H : List PlacedArg)
      → ((k : ℕ) (r : CallInstance) → slice_get calls k ≡ Some r → (i : ℕ) (p : PlacedArg)
      → slice_get (row_args r) i ≡ Some p → Beyond l p.home → Beyond (suc l) p.home)
      → Carries (suc l) calls H → Carries l calls H
  carries_less l calls H more c = record {
    at = c.at;
    distinct = c.distinct;
    beyond = λ j p e. beyond_less l p.home (c.beyond j p e);
    each = c.each;
    all = each_from _ calls (λ k r at i p e x. each_at _ calls k r c.all at i p e (more k r at i p e x));
    clear = each_from _ calls (λ k r at i p e x. each_at _ calls k r c.clear at i p e (more k r at i p e x));
  }

  -- what is known of calls of one table, whose first row is r0
  pub record OfTable (r0 : CallInstance) (calls : List CallInstance) : Type 0 where
    -- where an argument leaves loops, they have one form
    pub one : EachOf (λ r. (i u n : ℕ) → get_or (homes r.form).params i InPlace ≡ home.Held u n → r.form ≡ r0.form)
        calls
    pub alike : EachOf (λ r. map without_block r.args ≡ map without_block r0.args) calls

  module _ (l : ℕ) (r0 : CallInstance) (calls : List CallInstance) (table : OfTable r0 calls) (H : List PlacedArg)
      (carried : Carries (suc l) calls H) where
    -- the arguments that leave the loop, by the first row
    abbrev leaving : List (ℕ × Argument)
    leaving = leaving_args (suc l) (homes r0.form).params 0 r0.args

    -- an argument of any row that leaves it as the outermost one is among them
    among : (k : ℕ) (r : CallInstance) → slice_get calls k ≡ Some r → (i : ℕ) (p : PlacedArg)
        → slice_get (row_args r) i ≡ Some p
        → (u : ℕ) → p.home ≡ home.Held u (suc l)
        → (a : Argument) × (m : ℕ) × (slice_get leaving m ≡ Some (0 + i, a))
    among k r at i p e u is =
        let h = arg_at r i p e in
        let f : get_or (homes r.form).params i InPlace ≡ home.Held u (suc l) = home_there r i p e ∙ is in
        let form = each_at _ calls k r table.one at i u (suc l) f in
        let m = mapped_at without_block r0.args i (without_block h.argument)
        (ap (λ (xs : List Argument). slice_get xs i) (sym (each_at _ calls k r table.alike at))
        ∙ at_mapped without_block r.args i h.argument h.there) in
        let z : 0 + i ≡ i = omega arith in
        let t = left_there (suc l) (homes r0.form).params 0 r0.args i m.of m.there
        (held_leaves (suc l) u (get_or (homes r0.form).params (0 + i) InPlace)
        (ap (λ n. get_or (homes r0.form).params n InPlace) z
        ∙ (ap (λ g. get_or (homes g).params i InPlace) (sym form) ∙ f))) in
        (m.of, t.0, t.1)

    -- nothing leaves it
    pub carries_same : leaving ≡ [] → Carries l calls H
    carries_same none = carries_less l calls H more carried
      where
        more : (k : ℕ) (r : CallInstance) → slice_get calls k ≡ Some r → (i : ℕ) (p : PlacedArg)
            → slice_get (row_args r) i ≡ Some p
            → Beyond l p.home → Beyond (suc l) p.home
        more k r at i p e x = ⊎_elim (λ y. y)
            (λ w. let q = among k r at i p e w.0 w.1 in
            let no : None ≡ Some (0 + i, q.0) = ap (λ (xs : List (ℕ × Argument)). slice_get xs q.1) (sym none) ∙ q.2 in
            absurd (cc no)) (beyond_or l p.home x)

    -- these leave it: r1 is the row of its first iteration
    module _ (r1 : CallInstance) (begun : slice_get calls 0 ≡ Some r1)
        (forms : EachOf (λ r. r.form ≡ r0.form) calls)
        (stays : (i u : ℕ) → get_or (homes r0.form).params i InPlace ≡ home.Held u (suc l) → Stays i calls) where
      abbrev as_held : ℕ × Argument → PlacedArg
      as_held = held_arg (bodies r0.form) (homes r0.form) (Some r1)

      -- where one of them stands in each call
      abbrev place_at : List (ℕ × Argument) → (ℕ → ℕ) → ℕ → ℕ
      place_at [] g j = g j
      place_at (q ∷ qs) g zero = q.0
      place_at (q ∷ qs) g (suc j) = place_at qs g j

      abbrev Split : List (ℕ × Argument) → ℕ → PlacedArg → Type 0
      Split qs j p =
          ((q : ℕ × Argument) × (slice_get qs j ≡ Some q) × (p ≡ as_held q) × (place_at qs carried.at j ≡ q.0))
          ⊎ ((i : ℕ) × (slice_get H i ≡ Some p) × (place_at qs carried.at j ≡ carried.at i) × (j ≡ length qs + i))

      split : (qs : List (ℕ × Argument)) (j : ℕ) (p : PlacedArg) → slice_get (map as_held qs ++ H) j ≡ Some p
          → Split qs j p
      split [] j p e = let z : j ≡ 0 + j = omega arith in inr (j, e, refl, z)
      split (q ∷ qs) zero p e = inl (q, refl, sym (same_some e), refl)
      split (q ∷ qs) (suc j) p e = ⊎_elim (λ h. inl h)
          (λ h. let z = h.3 in let w : suc j ≡ length (q ∷ qs) + h.0 = omega (arith, z) in inr (h.0, h.1, h.2, w))
          (split qs j p e)

      -- one of them is Held, and stays
      held_by : (m : ℕ) (q : ℕ × Argument) → slice_get leaving m ≡ Some q → (u : ℕ)
          × (get_or (homes r0.form).params q.0 InPlace ≡ home.Held u (suc l))
      held_by m q e = left_held (suc l) (homes r0.form).params r0.args m q e

      -- an argument that differs from another in its block alone
      rebuilt : (a c : Argument) → without_block a ≡ without_block c → a ≡ with_rect c a.rect
      rebuilt a c e = ap (λ (x : Argument). with_rect x a.rect) e

      as_passed : (g i : ℕ) (a : Argument) → g ≡ r0.form
          → passed None (bodies g).arrays (homes g).params i a
          ≡ record {
            argument = a;
            gathers = None;
            shape = get_or (bodies r0.form).arrays i no_shape;
            home = get_or (homes r0.form).params i InPlace;
          }
      as_passed g i a e =
          ap (λ (o : Option RedOp). record {
            argument = a;
            gathers = o;
            shape = get_or (bodies g).arrays i no_shape;
            home = get_or (homes g).params i InPlace;
          }) (no_op a.is_reduced)
          ∙ ap (λ f. record {
            argument = a;
            gathers = None;
            shape = get_or (bodies f).arrays i no_shape;
            home = get_or (homes f).params i InPlace;
          }) e

      -- each call has it as the first one has
      has : (m : ℕ) (q : ℕ × Argument) → slice_get leaving m ≡ Some q → (k : ℕ) (r : CallInstance)
          → slice_get calls k ≡ Some r
          → slice_get (row_args r) q.0 ≡ Some (as_held q)
      has m q e k r at =
          let h = left_at (suc l) (homes r0.form).params 0 r0.args m q e in
          let w = held_by m q e in
          let s = stays q.0 w.0 w.1 in
          let place : h.0 ≡ q.0 = let x = h.1 in omega (arith, x) in
          let there : slice_get r0.args q.0 ≡ Some q.1 = ap (slice_get r0.args) (sym place) ∙ h.2 in
          let a = mapped_at without_block r.args q.0 (without_block q.1)
          (ap (λ (xs : List Argument). slice_get xs q.0) (each_at _ calls k r table.alike at)
          ∙ at_mapped without_block r0.args q.0 q.1 there) in
          let block : a.of.rect ≡ row_rect (Some r1) q.0 =
          ap (λ o. rect_of o) (sym a.there)
          ∙ (each_at _ calls k r s.same at ∙ sym (each_at _ calls 0 r1 s.same begun)) in
          let same : a.of ≡ with_rect q.1 (row_rect (Some r1) q.0)
          = rebuilt a.of q.1 a.is ∙ ap (with_rect q.1) block in
          let z : 0 + q.0 ≡ q.0 = omega arith in
          passed_there None (bodies r.form).arrays (homes r.form).params 0 r.args q.0 a.of a.there
          ∙ (ap (λ j. Some (passed None (bodies r.form).arrays (homes r.form).params j a.of)) z
          ∙ (ap Some (as_passed r.form q.0 a.of (each_at _ calls k r forms at))
          ∙ ap (λ (x : Argument). Some (record {
            argument = x;
            gathers = None;
            shape = get_or (bodies r0.form).arrays q.0 no_shape;
            home = get_or (homes r0.form).params q.0 InPlace;
          })) same))
        where
          rect_of : Option Argument → List Span
          rect_of None = []
          rect_of (Some x) = x.rect

      -- with those that leave it
      pub carries_more : Carries l calls (map as_held leaving ++ H)
      carries_more = record {
        at = place_at leaving carried.at;
        distinct = λ i j x y ex ey s. ⊎_elim
            (λ a. ⊎_elim
            (λ c. left_once (suc l) (homes r0.form).params 0 r0.args i j a.0 c.0 a.1 c.1 (sym a.3 ∙ (s ∙ c.3)))
            (λ c. absurd (apart i a.0 a.1 c.0 y c.1 (sym a.3 ∙ (s ∙ c.2))))
            (split leaving j y ey))
            (λ a. ⊎_elim
            (λ c. absurd (apart j c.0 c.1 a.0 x a.1 (sym c.3 ∙ (sym s ∙ a.2))))
            (λ c. let z = carried.distinct a.0 c.0 x y a.1 c.1 (sym a.2 ∙ (s ∙ c.2)) in
            let v = a.3 in let w = c.3 in omega (arith, z, v, w))
            (split leaving j y ey))
            (split leaving i x ex);
        beyond = λ j p e. ⊎_elim
            (λ a. let w = held_by j a.0 a.1 in
            subst (Beyond l) (sym (ap (λ (q : PlacedArg). q.home) a.2 ∙ w.1)) (less l))
            (λ a. beyond_less l p.home (carried.beyond a.0 p a.1)) (split leaving j p e);
        each = λ j p e. ⊎_elim
            (λ a. each_from _ calls (λ k r at. ap (slice_get (row_args r)) a.3
            ∙ (has j a.0 a.1 k r at ∙ ap Some (sym a.2))))
            (λ a. each_map _ _ calls (λ r f. ap (slice_get (row_args r)) a.2 ∙ f) (carried.each a.0 p a.1))
            (split leaving j p e);
        all = each_from _ calls (λ k r at i p e x. ⊎_elim
            (λ y. let h = each_at _ calls k r carried.all at i p e y in
            let b = behind leaving h.0 p h.1 in (b.0, b.1, b.2 ∙ h.2))
            (λ w. let q = among k r at i p e w.0 w.1 in
            let z : i ≡ 0 + i = omega arith in
            let is : p ≡ as_held (0 + i, q.0) = same_some (sym e
            ∙ (ap (slice_get (row_args r)) z ∙ has q.1 (0 + i, q.0) q.2 k r at)) in (
              q.1,
              in_front (map as_held leaving) q.1 (as_held (0 + i, q.0)) (at_mapped as_held leaving q.1 (0 + i, q.0) q.2)
                  ∙ ap Some (sym is),
              place_there leaving q.1 (0 + i, q.0) q.2 ∙ sym z,
            )) (beyond_or l p.home x));
        clear = each_from _ calls (λ k r at i p e x. ⊎_elim
            (λ y. each_at _ calls k r carried.clear at i p e y)
            (λ w. let f : get_or (homes r.form).params i InPlace ≡ home.Held w.0 (suc l) = home_there r i p e ∙ w.1 in
            let s = stays i w.0 (ap (λ g. get_or (homes g).params i InPlace)
            (sym (each_at _ calls k r forms at)) ∙ f) in
            each_at _ calls k r s.apart at) (beyond_or l p.home x));
      }
        where
          less : (n : ℕ) → n < suc n
          less n = omega arith

          -- one that leaves it stands where none does that leaves more
          apart : (m : ℕ) (q : ℕ × Argument) → slice_get leaving m ≡ Some q → (i : ℕ) (p : PlacedArg)
              → slice_get H i ≡ Some p → q.0 ≡ carried.at i → ⊥
          apart m q e i p f s =
              let w = held_by m q e in
              let one : Some (as_held q) ≡ Some p =
              sym (has m q e 0 r1 begun) ∙ (ap (slice_get (row_args r1)) s
              ∙ each_at _ calls 0 r1 (carried.each i p f) begun) in
              let bey : Beyond (suc l) (home.Held w.0 (suc l)) =
              subst (Beyond (suc l)) (sym (ap (λ (x : PlacedArg). x.home) (same_some one)) ∙ w.1)
              (carried.beyond i p f) in
              omega (arith, bey)

          in_front : (xs : List PlacedArg) (i : ℕ) (x : PlacedArg) → slice_get xs i ≡ Some x → slice_get (xs ++ H) i
              ≡ Some x
          in_front [] i x e = cc
          in_front (y ∷ xs) zero x e = e
          in_front (y ∷ xs) (suc i) x e = in_front xs i x e

          behind : (qs : List (ℕ × Argument)) (i : ℕ) (x : PlacedArg) → slice_get H i ≡ Some x → (j : ℕ)
              × (slice_get (map as_held qs ++ H) j ≡ Some x) × (place_at qs carried.at j ≡ carried.at i)
          behind [] i x e = (i, e, refl)
          behind (y ∷ qs) i x e = let h = behind qs i x e in (suc h.0, h.1, h.2)

          place_there : (qs : List (ℕ × Argument)) (m : ℕ) (q : ℕ × Argument) → slice_get qs m ≡ Some q
              → place_at qs carried.at m ≡ q.0
          place_there [] m q e = cc
          place_there (y ∷ qs) zero q e = ap (λ (z : ℕ × Argument). z.0) (same_some e)
          place_there (y ∷ qs) (suc m) q e = place_there qs m q e
