-- Live buffers, and the rows of an argument.
use Rattle.std.proofs.Common.{ℕ, ◌≡◌, ◌≢◌, zero, suc, ◌+◌, ◌-◌, ◌*◌, ◌<◌, Bool, true, false, List, [], ◌∷◌, ◌++◌}
use Rattle.std.proofs.Common.{length, map, Some, refl, sym, ap, ◌∙◌, subst, arith, ◌⊎◌, inl, inr, eqb, eqb-true, Option}
use Rattle.std.proofs.Common.{None}
use Rattle.std.specs.Prelude.{slice_get, ℤ, pos, if◌then◌else◌}
use Rattle.std.specs.List.{All, Contains}
use Rattle.std.proofs.lemmas.Bool.Decides.{nat_tests}
use Rattle.sq_num.specs.declared.RedOp.{RedOp}
use Rattle.sq_num.specs.Reductions.{identity}
use Rattle.sq_rect.specs.Extents.{rows_of}
use Rattle.sq_ast.specs.declared.program.Mode.{Mode}
use Rattle.sq_ast.specs.declared.program.Mode.TheVariants.{Input, Output, Both}
use Rattle.sq_text.specs.declared.place.Span.{Span}
use Rattle.sq_leaf.specs.declared.shape.Shape.{Shape}
use Rattle.sq_blocks.specs.Arguments.{lengths}
use Rattle.sq_ir.specs.Tree.{Skip}
use Rattle.sq_ir.specs.Scopes.{Scope}
use Rattle.sq_ir.specs.Plans.{IsLive, HaveRoom}
use Rattle.sq_ir.specs.Plans as plans
use Rattle.sq_ir.specs.Written.{Setting, PlanTree}
use Rattle.sq_placed.specs.declared.home.Home.{Home}
use Rattle.sq_placed.specs.declared.home.Home.TheVariants.{InPlace, Own, Held, Twin}
use Rattle.sq_placed.specs.Placed.{PlacedArg, PlacedLocal, PlacedCall}
use Rattle.sq_placed.specs.Seats.{Seat, SeatedArg, seated_args, own_seat, block_seat}
use Rattle.sq_placed.specs.Trees.{par_all, copy_rows, fill_rows, is_moved, bring_by, bring}
use Rattle.sq_cells.specs.Lowered.{Layout}
use Rattle.sq_plan_laws.specs.Coordinates.{Fits}
use Rattle.sq_plan_laws.specs.Calling.{PassedFits}
use Rattle.sq_plan_laws.specs.Seated.{IsSeated}
use Rattle.sq_plan_laws.proofs.Places.{below_there, behind, length-mapped, laid_is, length_laid}
use Rattle.sq_plan_laws.specs.Around.{IsAround}
use Rattle.sq_plan_laws.specs.Buffers.{home_buffer, opened_buffer, HasBuffer, OpensBuffer}
use Rattle.sq_plan_laws.proofs.Openings.{contains_left, contains_right}
use Rattle.sq_plan_laws.proofs.Grown.{par_left, par_right, scope_list, in_seq_of}

-- ---- lists

pub some_same : {A : Type 0} {x y : A} → Some x ≡ Some y → x ≡ y
some_same h = cc h

pub front_at : {A B : Type 0} (f : A → B) (xs : List A) (ys : List B) (i : ℕ) (x : A) → slice_get xs i ≡ Some x
    → slice_get (map f xs ++ ys) i ≡ Some (f x)
front_at f [] ys i x h = absurd (cc h)
front_at f (y ∷ xs) ys zero x h = ap (λ z. Some (f z)) (some_same h)
front_at f (y ∷ xs) ys (suc i) x h = front_at f xs ys i x h

pub mapped : {A B : Type 0} (f : A → B) (xs : List A) (i : ℕ) (x : A) → slice_get xs i ≡ Some x → slice_get (map f xs) i
    ≡ Some (f x)
mapped f [] i x h = absurd (cc h)
mapped f (y ∷ xs) zero x h = ap (λ z. Some (f z)) (some_same h)
mapped f (y ∷ xs) (suc i) x h = mapped f xs i x h

pub back_at : {A B C : Type 0} (f : A → C) (g : B → C) (xs : List A) (ys : List B) (j : ℕ) (y : B)
    → slice_get ys j ≡ Some y → slice_get (map f xs ++ map g ys) (length xs + j) ≡ Some (g y)
back_at f g xs ys j y h =
    ap (λ n. slice_get (map f xs ++ map g ys) (n + j)) (sym (length-mapped f xs))
    ∙ (behind (map f xs) (map g ys) j ∙ mapped g ys j y h)

pub inside_list : {A : Type 0} (xs : List A) (i : ℕ) (x : A) → slice_get xs i ≡ Some x → i < length xs
inside_list [] i x h = absurd (cc h)
inside_list (y ∷ xs) zero x h = omega arith
inside_list (y ∷ xs) (suc i) x h = let e = inside_list xs i x h in omega (arith, e)

pub contains_at : {A : Type 0} (xs : List A) (i : ℕ) (x : A) → slice_get xs i ≡ Some x → Contains xs x
contains_at [] i x h = absurd (cc h)
contains_at (y ∷ xs) zero x h = (0, omega arith, some_same h)
contains_at (y ∷ xs) (suc i) x h = let r = contains_at xs i x h in (suc r.0, let l = r.1 in omega (arith, l), r.2)

-- ---- rows

times_some : (a b : ℕ) → 0 < a → 0 < b → 0 < a * b
times_some zero b h g = absurd (omega (arith, h))
times_some (suc a) b h g = let z : suc a * b ≡ b + a * b = omega arith in omega (arith, z, g)

pub rows_some : (ns : List ℕ) → All (λ k. 0 < k) ns → 0 < rows_of ns
rows_some [] h = omega arith
rows_some (n ∷ []) h = omega arith
rows_some (n ∷ m ∷ ns) h = times_some n (rows_of (m ∷ ns)) (h 0 0 (omega arith))
    (rows_some (m ∷ ns) (λ k d lt. h (suc k) d (omega (arith, lt))))

block_some : (rect : List Span) (ns : List ℕ) → Fits rect ns → All (λ k. 0 < k) (lengths rect)
block_some [] [] h = λ k d lt. absurd (omega (arith, lt))
block_some [] (n ∷ ns) h = absurd h
block_some (s ∷ rect) [] h = absurd h
block_some (s ∷ rect) (n ∷ ns) h = more (let a = h.0 in omega (arith, a)) (block_some rect ns h.2)
  where
    more : 0 < s.hi - s.lo → All (λ k. 0 < k) (lengths rect) → All (λ k. 0 < k) (lengths (s ∷ rect))
    more a f zero d lt = a
    more a f (suc k) d lt = f k d (omega (arith, lt))

pub fill_event : (v : ℤ) (q : Seat) → 0 < rows_of q.view.extents → IsAround (fill_rows v q) []
fill_event v q h = in_seq_of (rows_of q.view.extents) 0 _ 0 [] h refl

pub copy_event : (q from to : Seat) → 0 < rows_of q.view.extents → IsAround (copy_rows q from to) []
copy_event q from to h = in_seq_of (rows_of q.view.extents) 0 _ 0 [] h refl

-- an argument with a buffer of the call's own is brought in
pub bring_event : (b : ℕ) (l : SeatedArg) → l.passed.home ≡ Own b → 0 < rows_of l.own.view.extents
    → IsAround (bring l) []
bring_event b l home some = by l.passed.gathers l.passed.argument.mode
  where
    moved : {A : Type 0} (x y : A) → (if is_moved l.passed.home then x else y) ≡ x
    moved x y = ap (λ h. if is_moved h then x else y) home

    copied : IsAround (if is_moved l.passed.home then copy_rows l.own l.outside l.own else Skip) []
    copied = subst (λ t. IsAround t []) (sym (moved (copy_rows l.own l.outside l.own) Skip))
        (copy_event l.own l.outside l.own some)

    by : (g : Option RedOp) (m : Mode) → IsAround (bring_by g m l) []
    by (Some op) m = fill_event (identity op l.own.view.elem) l.own some
    by None Input = copied
    by None Output = fill_event (pos 0) l.own some
    by None Both = copied

pub in_par_all : (ts : List PlanTree) (i : ℕ) (t : PlanTree) (l : List Scope) → slice_get ts i ≡ Some t → IsAround t l
    → IsAround (par_all ts) l
in_par_all [] i t l e h = absurd (cc e)
in_par_all (u ∷ ts) zero t l e h = let z : u ≡ t
    = some_same e in par_left u (par_all ts) l (subst (λ x. IsAround x l) (sym z) h)
in_par_all (u ∷ ts) (suc i) t l e h = par_right u (par_all ts) l (in_par_all ts i t l e h)

-- ---- live buffers

-- an open scope of this node names the buffer
pub record IsNamed (l : List Scope) (node b : ℕ) : Type 0 where
  pub scope : Scope
  pub there : Contains l scope
  pub at : scope.node ≡ node
  pub names : Contains scope.buffers b

pub named_left : (l m : List Scope) (node b : ℕ) → IsNamed l node b → IsNamed (l ++ m) node b
named_left l m node b h = record
    { scope = h.scope; there = contains_left l m h.scope h.there; at = h.at; names = h.names }

pub named_right : (l m : List Scope) (node b : ℕ) → IsNamed m node b → IsNamed (l ++ m) node b
named_right l m node b h = record
    { scope = h.scope; there = contains_right l m h.scope h.there; at = h.at; names = h.names }

pub named_in : (node : ℕ) (bs : List ℕ) (b : ℕ) → Contains bs b → IsNamed (scope_list node bs) node b
named_in node [] b c = let l = c.1 in absurd (omega (arith, l))
named_in node (x ∷ bs) b c = record
    { scope = record { node = node; buffers = x ∷ bs }; there = (0, omega arith, refl); at = refl; names = c }

pub is_live : (l : List Scope) (node b : ℕ) → IsNamed l node b → IsLive l node b
is_live l node b h = record { scope = h.scope; open_ = h.there; at = h.at; names = h.names }

decide : (m n : ℕ) → (m ≡ n) ⊎ (m ≢ n)
decide m n = go (eqb m n) refl
  where
    go : (v : Bool) → eqb m n ≡ v → (m ≡ n) ⊎ (m ≢ n)
    go true e = inl (eqb-true m n e)
    go false e = inr (λ z. grind (arith, nat_tests))

-- a byte of two live buffers is of one
pub one_buffer : (s : Setting) (l : List Scope) → HaveRoom s l → (node b c k : ℕ) → IsNamed l node b → IsNamed l node c
    → plans.HasByte s b k → plans.HasByte s c k → b ≡ c
one_buffer s l room node b c k hb hc xb xc = go (decide b c)
  where
    go : (b ≡ c) ⊎ (b ≢ c) → b ≡ c
    go (inl e) = e
    go (inr ne) = absurd (room.apart node b c k (is_live l node b hb) (is_live l node c hc) ne xb xc)

-- the buffers that loops hold are in scope, and there is room for all scopes where one is held
pub record Holding (s : Setting) (pre : List Scope) (node : ℕ) (held : List ℕ) : Type 0 where
  pub named : (b : ℕ) → Contains held b → IsNamed pre node b
  pub room : (b : ℕ) → Contains held b → HaveRoom s pre

pub none_held : (s : Setting) (pre : List Scope) (node : ℕ) → Holding s pre node []
none_held s pre node = record {
  named = λ b c. let l = c.1 in absurd (omega (arith, l));
  room = λ b c. let l = c.1 in absurd (omega (arith, l));
}

-- ---- an argument as it is seated

module _ (s : Setting) (outer : List Shape) (seats : List Seat) (at : Layout) (seated : IsSeated outer seats at)
    (inside : ℕ) where
  -- it has rows
  pub record HasRows (args : List PlacedArg) (i : ℕ) (p : PlacedArg) : Type 0 where
    pub arg : SeatedArg
    pub there : slice_get (seated_args s inside seats args) i ≡ Some arg
    pub passed : arg.passed ≡ p
    pub some : 0 < rows_of arg.own.view.extents

  own_extents : (p : PlacedArg) (h : Home) (q : Seat) → (own_seat s inside p.shape h (block_seat p q)).view.extents
      ≡ p.shape.extents
  own_extents p InPlace q = refl
  own_extents p (Own b) q = refl
  own_extents p (Held b n) q = refl
  own_extents p (Twin b c) q = refl

  pub has_rows : (args : List PlacedArg) → ((k : ℕ) (p : PlacedArg) → slice_get args k ≡ Some p → PassedFits outer p)
      → (i : ℕ) (p : PlacedArg) → slice_get args i ≡ Some p → HasRows args i p
  has_rows args fits i p e =
      let long = length_laid s outer seats at seated inside args fits in
      let x = below_there (seated_args s inside seats args) i
      (let l = inside_list args i p e in omega (arith, l, long)) in
      let laid = laid_is s outer seats at seated inside args fits i x.0 x.1 in
      let extents = own_extents laid.passed laid.passed.home laid.arg.seat in
      let own_is : x.0.own.view.extents ≡ lengths laid.passed.argument.rect
      = ap (λ (y : SeatedArg). y.own.view.extents) laid.is ∙ (extents ∙ laid.arg.ext) in
      record {
        arg = x.0;
        there = x.1;
        passed = ap (λ (y : SeatedArg). y.passed) laid.is ∙ some_same (sym laid.at_i ∙ e);
        some = subst (λ ns. 0 < rows_of ns) (sym own_is)
            (rows_some (lengths laid.passed.argument.rect)
            (block_some laid.passed.argument.rect laid.arg.seat.view.extents laid.arg.fit));
      }

-- ---- what a call brings into scope is a buffer of its arrays

opened_has : (h : Home) (b : ℕ) → Some (opened_buffer h) ≡ Some (Some b) → Some (home_buffer h) ≡ Some (Some b)
opened_has InPlace b e = e
opened_has (Own x) b e = e
opened_has (Held x n) b e = absurd (cc e)
opened_has (Twin x y) b e = e

front_has : (args : List PlacedArg) (more : List (Option ℕ)) (i b : ℕ)
    → slice_get (map (λ (p : PlacedArg). opened_buffer p.home) args ++ more) i ≡ Some (Some b)
    → slice_get (map (λ (p : PlacedArg). home_buffer p.home) args ++ more) i ≡ Some (Some b)
front_has [] more i b e = e
front_has (p ∷ args) more zero b e = opened_has p.home b e
front_has (p ∷ args) more (suc i) b e = front_has args more i b e

pub opens_has : (c : PlacedCall) (i b : ℕ) → OpensBuffer c i b → HasBuffer c i b
opens_has c i b e = front_has c.args (map (λ (k : PlacedLocal). Some k.buffer) c.locals) i b e
