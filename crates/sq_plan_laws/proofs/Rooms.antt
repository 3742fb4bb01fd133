-- A plan whose live buffers have room in each state.
use Rattle.std.proofs.Common.{◌≡◌, ℕ, zero, suc, ◌+◌, ◌<◌, List, [], ◌∷◌, ◌++◌, length, get_or, Some, refl, sym}
use Rattle.std.proofs.Common.{ap, subst, arith}
use Rattle.std.specs.Prelude.{slice_get}
use Rattle.std.specs.List.{Contains}
use Rattle.sq_leaf.specs.declared.shape.Shape.{Shape}
use Rattle.sq_ir.specs.Scopes.{Scope}
use Rattle.sq_ir.specs.Events.{Event, Leaves}
use Rattle.sq_ir.specs.Plans.{IsLive, HaveRoom}
use Rattle.sq_ir.specs.Plans as plans
use Rattle.sq_ir.specs.Written.{Setting, PlanTree}
use Rattle.sq_placed.specs.Placed.{Placed}
use Rattle.sq_placed.specs.Seats.{Seat}
use Rattle.sq_placed.specs.Trees.{tree}
use Rattle.sq_cells.specs.Machine.{offset_of}
use Rattle.sq_cells.specs.Cells.{Spot}
use Rattle.sq_cells.specs.Tree.{Cause}
use Rattle.sq_cells.specs.Lowered.{own, IsIn, Scratch}
use Rattle.sq_cells.proofs.Cells.{spot_path}
use Rattle.sq_plan_laws.specs.Codes.{bytes_in}
use Rattle.sq_plan_laws.specs.Calling.{local_of}
use Rattle.sq_plan_laws.specs.PlacedEntry.{EntryStowed, entry_arrays}
use Rattle.sq_plan_laws.specs.Seated.{IsSeated, at_node}
use Rattle.sq_plan_laws.specs.Entry.{seats_at, form_at, plan_tree}
use Rattle.sq_plan_laws.specs.Room.{HasRoom}
use Rattle.sq_plan_laws.proofs.Entry.{entry_seated}
use Rattle.sq_plan_laws.proofs.Places.{below_there}
use Rattle.sq_plan_laws.specs.Around.{IsAround}
use Rattle.sq_plan_laws.specs.Rooms.{IsOwned, KeepsRoom, RoomIsStowed}
use Rattle.sq_plan_laws.proofs.Openings.{scopes_open}
use Rattle.sq_plan_laws.proofs.Grown.{scope_list, in_scoped, aside_scoped}
use Rattle.sq_plan_laws.proofs.Live.{IsNamed, named_left, named_right, named_in, is_live, one_buffer, none_held}
use Rattle.sq_plan_laws.proofs.Found.{Found, on_bytes}
use Rattle.sq_plan_laws.proofs.Stowing.{scratch, stowed}

-- where more is open there is room for less
fewer : (s : Setting) (big small : List Scope) → HaveRoom s big → ((x : Scope) → Contains small x → Contains big x)
    → HaveRoom s small
fewer s big small room in_ = record {
  below = λ node b h. room.below node b (live node b h);
  apart = λ node b c k h g. room.apart node b c k (live node b h) (live node c g);
}
  where
    live : (node b : ℕ) → IsLive small node b → IsLive big node b
    live node b h = record { scope = h.scope; open_ = in_ h.scope h.open_; at = h.at; names = h.names }

there_is : (xs : List ℕ) (i d : ℕ) → i < length xs → slice_get xs i ≡ Some (get_or xs i d)
there_is [] i d lt = absurd (omega (arith, lt))
there_is (x ∷ xs) zero d lt = refl
there_is (x ∷ xs) (suc i) d lt = there_is xs i d (omega (arith, lt))

in_list : (xs : List ℕ) (i x : ℕ) → slice_get xs i ≡ Some x → Contains xs x
in_list [] i x h = absurd (cc h)
in_list (y ∷ xs) zero x h = (0, omega arith, cc h)
in_list (y ∷ xs) (suc i) x h = let r = in_list xs i x h in (suc r.0, let l = r.1 in omega (arith, l), r.2)

module _ (s : Setting) (leaves : Leaves Cause) (outer : List Shape) (buffers : List ℕ) (p : Placed)
    (owned : IsOwned s leaves outer buffers p) (keeps : KeepsRoom s outer buffers p) where
  abbrev seats : List Seat
  seats = seats_at s outer buffers

  abbrev at : Spot → Spot
  at = own (at_node s 0) (form_at s buffers)

  abbrev inner_tree : PlanTree
  inner_tree = tree s p 0 0 seats []

  abbrev round : List Scope
  round = scope_list 0 buffers

  seated : IsSeated outer seats at
  seated = entry_seated s outer buffers owned.entry.many owned.entry.dims

  room : (l : List Scope) → IsAround inner_tree l → HaveRoom s (round ++ l)
  room l h =
      let z = scopes_open Event Scope (plan_tree s p outer buffers) owned.normal owned.fresh (round ++ l)
      (in_scoped 0 buffers inner_tree l h) in
      fewer s _ (round ++ l) (keeps.states z.turns) z.open_

  found : (x : Spot) → Scratch (on_bytes s leaves p outer) (at_node s 0) 0 x → Found s inner_tree p x
  found x h = scratch s leaves p 0 0 outer seats at [] [] owned.sits seated owned.owns owned.lanes x h

  -- ---- the entry's arrays

  record Cell (l : Spot) : Type 0 where
    buffer : ℕ
    there : slice_get buffers l.area ≡ Some buffer
    is : form_at s buffers l.area ≡ s.offset buffer
    byte : plans.HasByte s buffer (form_at s buffers l.area + l.index)

  cell_of : (l : Spot) → IsIn (length outer) (entry_arrays outer) l → Cell l
  cell_of l inn =
      let many = owned.entry.many in
      let b = get_or buffers l.area 0 in
      let lt = inn.0 in
      let there = there_is buffers l.area 0 (omega (arith, many, lt)) in
      let sh = below_there outer l.area inn.0 in
      let fit = owned.entry.sizes l.area b sh.0 there sh.1 in
      let in_size : l.index < bytes_in sh.0 = subst (λ o. l.index < (local_of o).size) sh.1 inn.1 in
      record {
        buffer = b;
        there = there;
        is = refl;
        byte
            = record { from = omega arith; below = omega (arith, in_size, fit) };
      }

  named : (b i : ℕ) → slice_get buffers i ≡ Some b → IsNamed round 0 b
  named b i h = named_in 0 buffers b (in_list buffers i b h)

  named_entry : (b i : ℕ) → slice_get buffers i ≡ Some b → IsNamed (record { node = 0; buffers = buffers } ∷ []) 0 b
  named_entry b i h = record {
    scope = record { node = 0; buffers = buffers };
    there = (0, omega arith, refl);
    at =
        refl;
    names = in_list buffers i b h;
  }

  entry_apart : (l m : Spot) → IsIn (length outer) (entry_arrays outer) l → IsIn (length outer) (entry_arrays outer) m
      → at l ≡ at m → l ≡ m
  unfolding offset_of
  entry_apart l m il im e =
      let x = cell_of l il in
      let y = cell_of m im in
      let same : form_at s buffers l.area + l.index ≡ form_at s buffers m.area + m.index
      = ap (λ (z : Spot). z.index) e in
      let one = one_buffer s (record { node = 0; buffers = buffers } ∷ []) keeps.entry 0 x.buffer y.buffer
      (form_at s buffers l.area + l.index) (named_entry x.buffer l.area x.there)
      (named_entry y.buffer m.area y.there)
      x.byte (subst (λ k. plans.HasByte s y.buffer k) (sym same) y.byte) in
      let area : l.area ≡ m.area = owned.entry.distinct l.area m.area y.buffer
      (subst (λ b. slice_get buffers l.area ≡ Some b) one x.there) y.there in
      let index : l.index ≡ m.index = let f = ap (form_at s buffers) area in omega (arith, same, f) in
      spot_path l m area index

  entry_below : (l : Spot) → IsIn (length outer) (entry_arrays outer) l → Found s inner_tree p (at l) → ⊥
  unfolding offset_of
  entry_below l il f =
      let x = cell_of l il in
      let one = one_buffer s (round ++ f.scopes) (room f.scopes f.around) 0 x.buffer f.buffer
      (form_at s buffers l.area + l.index) (named_left round f.scopes 0 x.buffer (named x.buffer l.area x.there))
      (named_right round f.scopes 0 f.buffer f.named) x.byte f.byte in
      owned.entry.inner l.area f.buffer (subst (λ b. slice_get buffers l.area ≡ Some b) one x.there) f.opens

  entry_stowed : EntryStowed (at_node s 0) (form_at s buffers) outer (on_bytes s leaves p outer)
  entry_stowed = record {
    stowed = stowed s leaves p 0 0 outer seats at [] [] owned.sits seated owned.owns owned.lanes
        (aside_scoped 0 buffers inner_tree (λ d. owned.aside)) round room (none_held s round (s.child 0 0));
    separate = entry_apart;
    below = λ l il h. entry_below l il (found (at l) h);
  }

  -- ---- inside the nodes

  entry_room : (l : Spot) → IsIn (length outer) (entry_arrays outer) l → (at l).index < s.capacity 0
  unfolding offset_of
  entry_room l il =
      let x = cell_of l il in
      let b = x.byte.below in
      let top = keeps.entry.below 0 x.buffer
      (is_live (record { node = 0; buffers = buffers } ∷ []) 0 x.buffer (named_entry x.buffer l.area x.there)) in
      omega (arith, b, top)

  inner_room : (x : Spot) → Found s inner_tree p x → x.index < s.capacity x.area
  inner_room x f =
      let b = f.byte.below in
      let top = (room f.scopes f.around).below x.area f.buffer
      (is_live (round ++ f.scopes) x.area f.buffer (named_right round f.scopes x.area f.buffer f.named)) in
      omega (arith, b, top)

  has_room : HasRoom s leaves outer buffers p s.capacity
  has_room = record { entry = entry_room; inner = λ x h. inner_room x (found x h) }

pub room_is_stowed : RoomIsStowed
room_is_stowed s leaves outer buffers p owned keeps
    = (entry_stowed s leaves outer buffers p owned keeps, has_room s leaves outer buffers p owned keeps)
