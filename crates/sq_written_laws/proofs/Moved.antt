-- A run whose leaves' texts stand elsewhere ends alike.
use Rattle.std.proofs.Common.{◌≡◌, ℕ, zero, suc, Bool, true, false, if◌then◌else◌, List, [], ◌∷◌, map, Option, Some, None, Result, Ok, Err, slice_get, refl, sym, ap, ap₂, ◌∙◌, subst}
use Rattle.std.specs.Prelude.{is_none}
use Rattle.std.specs.Option.{option_map, option_map_or}
use Rattle.sq_ast.specs.Unplaced.{bare_variant}
use Rattle.sq_blocks.specs.Names.{Numbers}
use Rattle.sq_leaf.specs.Rect.declared.view.View.{View}
use Rattle.sq_leaf.specs.Rect.Paths.{is_before}
use Rattle.sq_leaf.specs.declared.trap.Trap.{Trap}
use Rattle.sq_leaf.specs.Leaf.{Leaf as LeafSource, written_of, leaf_value}
use Rattle.sq_leaf.specs.Source.{Arrays}
use Rattle.sq_ir.specs.Tree.{Skip, Act, Stuck, Seq, Par, Within}
use Rattle.sq_ir.specs.Runs.{Trap as Ending, End, least, joined, beside, in_turn, exec}
use Rattle.sq_ir.specs.Events as events
use Rattle.sq_ir.specs.Events.{Event, Bytes, Spot, Shape, Array, LeafEnd, Finishes, Traps, Leaves, seen, put_end, written_views, chosen, trap_end, after_event, trap_event, meaning}
use Rattle.sq_ir.specs.Written.{PlanTree}
use Rattle.sq_ir.specs.DraftLeaves.{end_by, leaf_shape, shape_in, arrays_of, leaf_end, leaves_of}
use Rattle.sq_ir.specs.declared.plan.Draft.{Draft}
use Rattle.sq_ir.specs.declared.plan.Leaf.{Leaf}
use Rattle.sq_written_laws.specs.Places.{EndAlike}
use Rattle.sq_written_laws.specs.Moved.{IsMoved, AreMoved, TrapAlike, EndsAlike}
use Rattle.sq_written_laws.proofs.Places.{leaves_mean}
use Rattle.sq_written_laws.proofs.Worths.{written_same}

-- ---- leaves

abbrev LeafAlike : LeafEnd Trap → LeafEnd Trap → Type 0
LeafAlike (Finishes a) (Finishes b) = a ≡ b
LeafAlike (Finishes a) (Traps u) = ⊥
LeafAlike (Traps t) (Finishes b) = ⊥
LeafAlike (Traps t) (Traps u) = t.kind ≡ u.kind

record ActAlike (l k : Leaves Trap) : Type 0 where
  written : (code : ℕ) → l.written code ≡ k.written code
  ends : (code : ℕ) (xs : List Array) → LeafAlike (l.ends code xs) (k.ends code xs)

leaf_alike : (ws : List Bool) (ss : List Shape) (r q : Result Arrays Trap) → EndAlike r q → LeafAlike (end_by ws ss r) (end_by ws ss q)
leaf_alike ws ss (Ok a) (Ok b) h = ap (λ z. Rattle.sq_ir.specs.DraftLeaves.written_bytes 0 ws ss z) h
leaf_alike ws ss (Ok a) (Err u) h = absurd h
leaf_alike ws ss (Err t) (Ok b) h = absurd h
leaf_alike ws ss (Err t) (Err u) h = h

code_alike : (l k : LeafSource) → bare_variant l.variant ≡ bare_variant k.variant → l.numbers ≡ k.numbers → (xs : List Array) → LeafAlike (leaf_end l xs) (leaf_end k xs)
code_alike l k same numbers xs =
    let shapes = map leaf_shape (map shape_in xs) in
    subst (λ ns. LeafAlike (leaf_end l xs) (leaf_end (record { variant = k.variant; numbers = ns }) xs)) numbers
    (subst (λ ws. LeafAlike (leaf_end l xs) (end_by ws (map shape_in xs) (leaf_value (record { variant = k.variant; numbers = l.numbers }) shapes (arrays_of xs)))) (written_same l.variant k.variant same)
    (leaf_alike (written_of l.variant) (map shape_in xs) (leaf_value l shapes (arrays_of xs)) (leaf_value (record { variant = k.variant; numbers = l.numbers }) shapes (arrays_of xs))
    (leaves_mean l.variant k.variant same l.numbers shapes (arrays_of xs))))

pub flags_at : (ls ks : List Leaf) → AreMoved ls ks → (code : ℕ)
    → option_map_or (λ (l : LeafSource). written_of l.variant) (option_map (λ (l : Leaf). l.code) (slice_get ls code)) []
    ≡ option_map_or (λ (l : LeafSource). written_of l.variant) (option_map (λ (l : Leaf). l.code) (slice_get ks code)) []
flags_at [] [] h code = refl
flags_at [] (k ∷ ks) h code = absurd h
flags_at (l ∷ ls) [] h code = absurd h
flags_at (l ∷ ls) (k ∷ ks) h zero = written_same l.code.variant k.code.variant h.0.variant
flags_at (l ∷ ls) (k ∷ ks) h (suc code) = flags_at ls ks h.1 code

ends_at : (ls ks : List Leaf) → AreMoved ls ks → (code : ℕ) (xs : List Array)
    → LeafAlike (option_map_or (λ (l : LeafSource). leaf_end l xs) (option_map (λ (l : Leaf). l.code) (slice_get ls code)) (Finishes []))
    (option_map_or (λ (l : LeafSource). leaf_end l xs) (option_map (λ (l : Leaf). l.code) (slice_get ks code)) (Finishes []))
ends_at [] [] h code xs = refl
ends_at [] (k ∷ ks) h code xs = absurd h
ends_at (l ∷ ls) [] h code xs = absurd h
ends_at (l ∷ ls) (k ∷ ks) h zero xs = code_alike l.code k.code h.0.variant h.0.numbers xs
ends_at (l ∷ ls) (k ∷ ks) h (suc code) xs = ends_at ls ks h.1 code xs

drafts_alike : (d e : Draft) → AreMoved d.leaves e.leaves → ActAlike (leaves_of d) (leaves_of e)
drafts_alike d e h = record { written = λ code. flags_at d.leaves e.leaves h code; ends = λ code xs. ends_at d.leaves e.leaves h code xs }

-- ---- traps

least_alike : (a b c d : Option (Ending Trap)) → TrapAlike a c → TrapAlike b d → TrapAlike (least a b) (least c d)
least_alike None b None d h k = k
least_alike None b (Some z) d h k = absurd h
least_alike (Some x) b None d h k = absurd h
least_alike (Some x) None (Some z) None h k = h
least_alike (Some x) None (Some z) (Some w) h k = absurd k
least_alike (Some x) (Some y) (Some z) None h k = absurd k
least_alike (Some x) (Some y) (Some z) (Some w) h k =
    subst (λ v. TrapAlike (least (Some x) (Some y)) (if v then Some w else Some z)) (ap₂ is_before k.0 h.0) (by (is_before y.path x.path))
  where
    by : (v : Bool) → TrapAlike (if v then Some y else Some x) (if v then Some w else Some z)
    by true = k
    by false = h

end_alike : (path : List ℕ) (x y : LeafEnd Trap) → LeafAlike x y → TrapAlike (trap_end path x) (trap_end path y)
end_alike path (Finishes a) (Finishes b) h = tt
end_alike path (Finishes a) (Traps u) h = absurd h
end_alike path (Traps t) (Finishes b) h = absurd h
end_alike path (Traps t) (Traps u) h = (refl, h)

none_alike : (a b : Option (Ending Trap)) → TrapAlike a b → is_none a ≡ is_none b
none_alike None None h = refl
none_alike None (Some y) h = absurd h
none_alike (Some x) None h = absurd h
none_alike (Some x) (Some y) h = refl

-- ---- events

put_alike : (node : ℕ) (ws : List View) (x y : LeafEnd Trap) (m : Bytes) → LeafAlike x y
    → ◌≡◌ {A = Bytes} (λ a. put_end node ws x a (m a)) (λ a. put_end node ws y a (m a))
put_alike node ws (Finishes a) (Finishes b) m h = ap (λ (o : List (List ℕ)). λ (s : Spot). put_end {C = Trap} node ws (Finishes o) s (m s)) h
put_alike node ws (Finishes a) (Traps u) m h = absurd h
put_alike node ws (Traps t) (Finishes b) m h = absurd h
put_alike node ws (Traps t) (Traps u) m h = refl

module _ (l k : Leaves Trap) (same : ActAlike l k) where
  after_alike : (e : Event) (m : Bytes) → after_event l e m ≡ after_event k e m
  after_alike (events.Copy from to bytes) m = refl
  after_alike (events.Fill to e n v) m = refl
  after_alike (events.Accumulate o e from to n) m = refl
  after_alike (events.Leaf node code vs path) m =
      put_alike node (written_views l code vs) (l.ends code (map (seen node m) vs)) (k.ends code (map (seen node m) vs)) m (same.ends code (map (seen node m) vs))
      ∙ ap (λ (ws : List Bool). λ (s : Spot). put_end node (chosen ws vs) (k.ends code (map (seen node m) vs)) s (m s)) (same.written code)

  trap_alike : (e : Event) (m : Bytes) → TrapAlike (trap_event l e m) (trap_event k e m)
  trap_alike (events.Copy from to bytes) m = tt
  trap_alike (events.Fill to e n v) m = tt
  trap_alike (events.Accumulate o e from to n) m = tt
  trap_alike (events.Leaf node code vs path) m = end_alike path (l.ends code (map (seen node m) vs)) (k.ends code (map (seen node m) vs)) (same.ends code (map (seen node m) vs))

  -- ---- trees

  joined_alike : (r s q p : End Bytes Trap) → EndsAlike r s → EndsAlike q p → EndsAlike (joined r q) (joined s p)
  joined_alike r s q p h g = record {
    bytes = g.bytes;
    finished = ap (λ v. if v then q.finished else false) h.finished ∙ ap (λ v. if s.finished then v else false) g.finished;
    trap = least_alike r.trap q.trap s.trap p.trap h.trap g.trap;
  }

  beside_alike : (r s : End Bytes Trap) (f g : Bytes → End Bytes Trap) → EndsAlike r s → ((m : Bytes) → EndsAlike (f m) (g m)) → EndsAlike (beside r f) (beside s g)
  beside_alike r s f g h each = joined_alike r s (f r.bytes) (g s.bytes) h (subst (λ m. EndsAlike (f r.bytes) (g m)) h.bytes (each r.bytes))

  turn_alike : (r s : End Bytes Trap) (f g : Bytes → End Bytes Trap) → EndsAlike r s → ((m : Bytes) → EndsAlike (f m) (g m)) → EndsAlike (in_turn r f) (in_turn s g)
  turn_alike r s f g h each = subst (λ v. EndsAlike (in_turn r f) (if v then beside s g else s)) h.finished (by r.finished)
    where
      by : (v : Bool) → EndsAlike (if v then beside r f else r) (if v then beside s g else s)
      by true = beside_alike r s f g h each
      by false = h

  exec_alike : (t : PlanTree) (m : Bytes) → EndsAlike (exec (meaning l) t m) (exec (meaning k) t m)
  exec_alike Skip m = record { bytes = refl; finished = refl; trap = tt }
  exec_alike (Act e) m = record {
    bytes = after_alike e m;
    finished = none_alike (trap_event l e m) (trap_event k e m) (trap_alike e m);
    trap = trap_alike e m;
  }
  exec_alike (Stuck e) m = record { bytes = refl; finished = refl; trap = tt }
  exec_alike (Seq a b) m = turn_alike (exec (meaning l) a m) (exec (meaning k) a m) (λ x. exec (meaning l) b x) (λ x. exec (meaning k) b x) (exec_alike a m) (λ x. exec_alike b x)
  exec_alike (Par a b) m = beside_alike (exec (meaning l) a m) (exec (meaning k) a m) (λ x. exec (meaning l) b x) (λ x. exec (meaning k) b x) (exec_alike a m) (λ x. exec_alike b x)
  exec_alike (Within s a) m = exec_alike a m

pub moved_ends : (d e : Draft) → AreMoved d.leaves e.leaves → (t : PlanTree) (m : Bytes) → EndsAlike (exec (meaning (leaves_of d)) t m) (exec (meaning (leaves_of e)) t m)
moved_ends d e h t m = exec_alike (leaves_of d) (leaves_of e) (drafts_alike d e h) t m
