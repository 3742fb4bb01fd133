-- Blocks, buffers and calls.
use Rattle.std.proofs.Common.{◌≡◌, ℕ, zero, suc, ◌+◌, ◌*◌, ◌≤◌, ◌==◌, Bool, true, false, not, ◌&&◌, List, [], ◌∷◌, map}
use Rattle.std.proofs.Common.{get_or, slice_get, Option, Some, None, refl, sym, ap, ap₂, subst, ◌∙◌, arith}
use Rattle.std.proofs.Common.{if◌then◌else◌}
use Rattle.std.proofs.lemmas.Bool.Decides.{nat_tests}
use Rattle.std.specs.Prelude.{nat_abs}
use Rattle.std.specs.List.{list_all}
use Rattle.sq_num.specs.declared.RedOp.{RedOp}
use Rattle.sq_num.specs.Elements.{width}
use Rattle.sq_ir.specs.Rect.Extents.{row_major}
use Rattle.sq_ir.specs.Rect.Placing.{offset}
use Rattle.sq_ir.specs.Leaf.declared.shape.Shape.{Shape}
use Rattle.sq_ir.specs.Tree as tree
use Rattle.sq_ir.specs.Tree.{seq}
use Rattle.sq_ir.specs.Written.{Setting, Env, PlanTree, written, count_of, inside_of, node_of, seq_parts, par_parts}
use Rattle.sq_ir.specs.Written.{scoped}
use Rattle.sq_ir.specs.declared.num.Num.{Num}
use Rattle.sq_ir.specs.declared.num.Num.TheVariants as n
use Rattle.sq_ir.specs.declared.term.LeafView.{LeafView}
use Rattle.sq_ir.specs.declared.term.Term.{Term}
use Rattle.sq_ir.specs.declared.term.Term.TheVariants as term
use Rattle.sq_ir.proofs.Equations.{written_within, written_seq, written_par}
use Rattle.sq_ir.specs.Blocks.declared.argument.Argument.{Argument}
use Rattle.sq_placed.specs.Spec.declared.statement.CallInstance.{CallInstance}
use Rattle.sq_placed.specs.declared.home.Home.{Home}
use Rattle.sq_placed.specs.declared.home.Home.TheVariants.{InPlace, Own, Held, Twin}
use Rattle.sq_term.specs.declared.context.Context.{Context}
use Rattle.sq_term.specs.declared.context.Move.{Move}
use Rattle.sq_placed.specs.Placed.{PlacedArg, PlacedLocal}
use Rattle.sq_placed.specs.Seats.{Seat, SeatedArg, firsts, buffer_seat, block_seat, own_seat, seat_arg, seated_args}
use Rattle.sq_placed.specs.Seats.{local_seat, cons_some}
use Rattle.sq_placed.specs.Trees.{seq_all, par_all, clear, bring, give_back, buffer_of, call_buffers, local_buffers}
use Rattle.sq_placed.specs.Trees.{callee_node, callee_tree}
use Rattle.sq_placed.specs.Tables.{no_shape, placed_args, placed_locals}
use Rattle.sq_term.specs.Terms.{numbers, buffer_view, local_view, bytes_in, bytes_of, bytes_at, unless_zero, offsets}
use Rattle.sq_term.specs.Terms.{with_table, block_view, own_view, reduces, move_of, moves_from, buffers_from}
use Rattle.sq_term.specs.Terms.{clear_term, bring_term, back_term, callee_term, call_parts}
use Rattle.sq_term.specs.Stands.{Each, none, more, IsNumber, IsSeat, IsSeated, Goes, to_child, entered, IsOf, AreOf}
use Rattle.sq_term.specs.Stands.{LocalsOf, below}
use Rattle.sq_term.proofs.Numbers.{constant, sum, picked}
use Rattle.sq_term.proofs.Turns.{pars, map_map, AtBoth, neither, two, at_both}
use Rattle.sq_term.proofs.Rows.{clear_is, bring_is, back_is}
use Rattle.sq_term.proofs.Arms.{IsHead}

-- ---- where a callee runs

pub record Entered (s : Setting) (env in_env : Env) (level : ℕ) (lower : Bool) (node child : ℕ) : Type 0 where
  pub turns : in_env.turns ≡ env.turns
  pub nodes : (l : ℕ) → l ≤ level → in_env.nodes l ≡ env.nodes l
  pub level_is : in_env.level ≡ below lower level
  pub node_is : in_env.nodes (below lower level) ≡ callee_node s lower node child

pub enters : (s : Setting) (env : Env) (level node child : ℕ) (lower inside : Bool) {o : Option Num} → env.nodes level
    ≡ node → Goes s env level node child inside (not lower) o
    → Entered s env (inside_of s env (if lower then o else None)) level lower node child
enters s env level node child false inside here (to_child k is v)
    = record { turns = refl; nodes = λ l m. refl; level_is = is; node_is = here }
enters s env level node child false inside here (entered is there i same) = cc
enters s env level node child true inside here (entered is there i same)
    = record { turns = refl; nodes = λ l m. refl; level_is = is; node_is = there }
enters s env level node child true inside here (to_child k is v)
    = record { turns = refl; nodes = other; level_is = ap suc is; node_is = at_it }
  where
    other : (l : ℕ) → l ≤ level → (if l == suc env.level then s.child (node_of env) (count_of s k env) else env.nodes l)
        ≡ env.nodes l
    other l m = go (l == suc env.level) refl
      where
        go : (b : Bool) → (l == suc env.level) ≡ b
            → (if b then s.child (node_of env) (count_of s k env) else env.nodes l) ≡ env.nodes l
        go false e = refl
        go true e = absurd (grind (arith, nat_tests, e, m, is))

    at_it : (if suc level == suc env.level then s.child (node_of env) (count_of s k env) else env.nodes (suc level))
        ≡ s.child node child
    at_it = go (suc level == suc env.level) refl
      where
        go : (b : Bool) → (suc level == suc env.level) ≡ b
            → (if b then s.child (node_of env) (count_of s k env) else env.nodes (suc level)) ≡ s.child node child
        go true e = ap₂ s.child (ap env.nodes is ∙ here) (ap nat_abs v)
        go false e = absurd (grind (arith, nat_tests, e, is))

below_is : (lower : Bool) (level : ℕ) → level ≤ below lower level
below_is false level = omega arith
below_is true level = omega arith

pub seat_inside : (s : Setting) (env in_env : Env) (level : ℕ) (lower : Bool) (node child : ℕ)
    → Entered s env in_env level lower node child → (v : LeafView) (q : Seat)
    → IsSeat s env level v q → IsSeat s in_env (below lower level) v q
seat_inside s env in_env level lower node child i v q h = record {
  bytes = h.bytes;
  number = subst (λ ts. IsNumber s ts v.slot.at h.bytes) (sym i.turns) h.number;
  is = h.is ∙ ap (λ (k : ℕ). record {
    node = k;
    view = record {
      at = s.offset v.slot.buffer + h.bytes;
      elem = v.elem;
      extents = v.extents;
      strides =
          v.strides;
    };
  }) (sym (i.nodes (s.level v.slot.buffer) h.above));
  above = let b = below_is lower level in omega (arith, h.above, b);
}

-- ---- offsets

pub get_map : {A B : Type 0} (f : A → B) (xs : List A) (k : ℕ) (x : A) (d : B) → slice_get xs k ≡ Some x
    → get_or (map f xs) k d ≡ f x
get_map f [] k x d h = cc
get_map f (y ∷ ys) zero x d h = let g : y ≡ x = cc in ap f g
get_map f (y ∷ ys) (suc k) x d h = get_map f ys k x d h

all_zero : (ns : List ℕ) (k : ℕ) → list_all (λ n. n == 0) ns ≡ true → get_or ns k 0 ≡ 0
all_zero [] k h = refl
all_zero (n ∷ ns) k h = go (n == 0) refl k h (λ j. all_zero ns j)
  where
    go : (b : Bool) → (n == 0) ≡ b → (j : ℕ) → (b && list_all (λ m. m == 0) ns) ≡ true
        → ((i : ℕ) → list_all (λ m. m == 0) ns ≡ true → get_or ns i 0 ≡ 0) → get_or (n ∷ ns) j 0 ≡ 0
    go true e zero g f = grind (arith, nat_tests, e)
    go true e (suc j) g f = f j g
    go false e j g f = cc

-- a number behind another by what a table has
pub shifted_is : (s : Setting) (turns ns : List ℕ) (ordinal at : Num) (k bytes : ℕ) → IsNumber s turns ordinal k
    → IsNumber s turns at bytes
    → IsNumber s turns (with_table (unless_zero ns) ordinal at) (bytes + get_or ns k 0)
shifted_is s turns ns ordinal at k bytes h g = go (list_all (λ n. n == 0) ns) refl
  where
    go : (b : Bool) → list_all (λ n. n == 0) ns ≡ b
        → IsNumber s turns (with_table (if b then None else Some (numbers ns)) ordinal at) (bytes + get_or ns k 0)
    go true e = let z = all_zero ns k e in let y : bytes ≡ bytes + get_or ns k 0
        = omega (arith, z) in subst (IsNumber s turns at) y g
    go false e = sum s turns at (n.Pick (numbers ns) ordinal) bytes (get_or ns k 0) g (picked s turns ns ordinal k h)

-- ---- buffers

module _ (s : Setting) (env : Env) (level inside : ℕ) (here : env.nodes level ≡ inside) where
  pub buffer_is : (b : ℕ) (x : Shape) → s.level b ≡ level
      → IsSeat s env level (buffer_view b x) (buffer_seat s inside b x)
  buffer_is b x l = record {
    bytes = 0;
    number = constant s env.turns 0;
    is = let z : s.offset b ≡ s.offset b + 0 = omega arith in
        ap₂ (λ (k at : ℕ). record {
          node = k;
          view = record
              { at = at; elem = x.elem; extents = x.extents; strides = row_major x.extents };
        })
        (sym here ∙ ap env.nodes (sym l)) z;
    above = omega (arith, l);
  }

  pub kept_are : (shapes : List Shape) (bs : List ℕ) → LocalsOf s level bs
      → Each (IsSeat s env level) (map local_view (placed_locals shapes bs))
      (map (local_seat s inside) (placed_locals shapes bs))
  kept_are [] bs h = none
  kept_are (x ∷ shapes) [] h = none
  kept_are (x ∷ shapes) (b ∷ bs) h = more (buffer_is b x h.0) (kept_are shapes bs h.1)

  pub own_is : (shape : Shape) (h : Home) (v : LeafView) (q : Seat) → IsOf s level h → IsSeat s env level v q
      → IsSeat s env level (own_view shape h v) (own_seat s inside shape h q)
  own_is shape InPlace v q o is = is
  own_is shape (Own b) v q o is = buffer_is b shape o
  own_is shape (Held b loops) v q o is = buffer_is b shape o
  own_is shape (Twin b d) v q o is = buffer_is b shape o.0

  pub home_of : (hs : List Home) → AreOf s level hs → (i : ℕ) → IsOf s level (get_or hs i InPlace)
  home_of [] o i = tt
  home_of (h ∷ hs) o zero = o.0
  home_of (h ∷ hs) o (suc i) = home_of hs o.1 i

  -- ---- arguments

  module _ (c : Context) (instances : List CallInstance) (k : ℕ) (r : CallInstance)
      (at_time : slice_get instances k ≡ Some r) (counted : IsNumber s env.turns c.ordinal k) where
    block_is : (i : ℕ) (p : PlacedArg) (v : LeafView) (q : Seat) → slice_get r.args i ≡ Some p.argument
        → slice_get c.views p.argument.array ≡ Some v → IsSeat s env level v q
        → IsSeat s env level (block_view (offsets c.views instances i) c.ordinal p.shape.extents v) (block_seat p q)
    block_is i p v q arg view h =
        let far = width v.elem * offset v.strides (firsts p.argument.rect) in
        let row : get_or (map (bytes_at c.views i) instances) k 0 ≡ far =
        get_map (bytes_at c.views i) instances k r 0 at_time ∙ ap (bytes_of c.views) arg
        ∙ ap (λ (o : Option LeafView). bytes_in o p.argument) view in
        let sums : s.offset v.slot.buffer + h.bytes + far ≡ s.offset v.slot.buffer + (h.bytes + far) = omega arith in
        record {
          bytes = h.bytes + far;
          number = subst (λ (z : ℕ). IsNumber s env.turns (with_table (offsets c.views instances i) c.ordinal v.slot.at)
              (h.bytes + z)) row
              (shifted_is s env.turns (map (bytes_at c.views i) instances) c.ordinal v.slot.at k h.bytes counted
              h.number);
          is = ap (block_seat p) h.is
              ∙ ap (λ (z : ℕ). record {
                node = env.nodes (s.level v.slot.buffer);
                view = record
                    { at = z; elem = v.elem; extents = p.shape.extents; strides = v.strides };
              }) sums;
          above = h.above;
        }

    moved_is : (op : Option RedOp) (i : ℕ) (p : PlacedArg) (a : Argument) (v : LeafView) (q : Seat) → p.gathers
        ≡ reduces op p.argument → IsHead p.argument a → IsOf s level p.home
        → slice_get r.args i ≡ Some p.argument → slice_get c.views p.argument.array ≡ Some v → IsSeat s env level v q
        → IsSeated s env level (move_of op p.shape p.home a (offsets c.views instances i) c.ordinal v)
        (seat_arg s inside p q)
    moved_is op i p a v q g head o arg view h = record {
      mode = sym head.mode;
      gathers = ap (λ (b : Bool). if b then op else None) (sym head.is_reduced) ∙ sym g;
      home = refl;
      outside = block_is i p v q arg view h;
      own = own_is p.shape p.home _ _ o (block_is i p v q arg view h);
    }

    pub moves_are : (seats : List Seat) → Each (IsSeat s env level) c.views seats
        → (op : Option RedOp) (shapes : List Shape) (hs : List Home) → AreOf s level hs
        → (i : ℕ) {xs ys : List Argument} → Each IsHead xs ys
        → ((j : ℕ) (y : Argument) → slice_get xs j ≡ Some y → slice_get r.args (i + j) ≡ Some y)
        → Each (IsSeated s env level) (moves_from op shapes hs c instances i ys)
        (seated_args s inside seats (placed_args op shapes hs i xs))
    moves_are seats g op shapes hs o i none at = none
    moves_are seats g op shapes hs o i (more {x = x} {y = y} {xs = xs} {ys = ys} head heads) at =
        subst (λ (a : ℕ). Each (IsSeated s env level)
        (cons_some (λ v. move_of op (get_or shapes i no_shape) (get_or hs i InPlace) y (offsets c.views instances i)
        c.ordinal v) (slice_get c.views a)
        (moves_from op shapes hs c instances (suc i) ys))
        (cons_some (seat_arg s inside p) (slice_get seats x.array)
        (seated_args s inside seats (placed_args op shapes hs (suc i) xs)))) head.array
        (go refl (at_both g x.array)
        (moves_are seats g op shapes hs o (suc i) heads
        (λ j z e. let m : suc i + j ≡ i + suc j = omega arith in ap (slice_get r.args) m ∙ at (suc j) z e)))
      where
        p : PlacedArg
        p = record {
          argument = x;
          gathers = reduces op x;
          shape = get_or shapes i no_shape;
          home
              = get_or hs i InPlace;
        }

        go : {v : Option LeafView} {u : Option Seat} → slice_get c.views x.array ≡ v → AtBoth (IsSeat s env level) v u
            → {ms : List Move} {ls : List SeatedArg} → Each (IsSeated s env level) ms ls
            → Each (IsSeated s env level) (cons_some
            (λ w. move_of op (get_or shapes i no_shape) (get_or hs i InPlace) y (offsets c.views instances i) c.ordinal
            w) v ms) (cons_some (seat_arg s inside p) u ls)
        go e neither rest = rest
        go e (two v q is) rest =
            more (moved_is op i p y v q refl head (home_of hs o i)
            (let m : i ≡ i + 0 = omega arith in ap (slice_get r.args) m ∙ at 0 x refl) e is) rest

pub buffers_are : (op : Option RedOp) (shapes : List Shape) (hs : List Home) (i : ℕ) {xs ys : List Argument}
    → Each IsHead xs ys → buffers_from hs i ys ≡ call_buffers (placed_args op shapes hs i xs)
buffers_are op shapes hs i none = refl
buffers_are op shapes hs i (more head heads)
    = ap (buffer_of (get_or hs i InPlace)) (buffers_are op shapes hs (suc i) heads)

-- ---- the parts of a call, where they stand

module _ (s : Setting) (env : Env) (level : ℕ) (level_is : env.level ≡ level) (inside : ℕ)
    (here : env.nodes level ≡ inside) where
  node_here : node_of env ≡ inside
  node_here = ap env.nodes level_is ∙ here

  pub callee_is : (shapes : List Shape) (bs : List ℕ) (x : Term) (w : PlanTree) → LocalsOf s level bs → written s x env
      ≡ w
      → written s (callee_term (placed_locals shapes bs) x) env
      ≡ callee_tree inside (placed_locals shapes bs) (map (local_seat s inside) (placed_locals shapes bs)) w
  callee_is shapes bs x w own same =
      ap (λ f. f env) (written_within s None (local_buffers ks)
      (term.Seq (term.Par (map (λ k. clear_term (local_view k)) ks) ∷ x ∷ [])))
      ∙ ap (scoped (node_of env) (local_buffers ks))
      (ap (λ f. f env) (written_seq s _) ∙ ap₂ seq fills (ap (λ y. seq y tree.Skip) same))
      ∙ ap (λ (k : ℕ). scoped k (local_buffers ks)
      (seq_all (par_all (map clear (map (local_seat s inside) ks)) ∷ w ∷ []))) node_here
    where
      ks : List PlacedLocal
      ks = placed_locals shapes bs

      fills : written s (term.Par (map (λ k. clear_term (local_view k)) ks)) env
          ≡ par_all (map clear (map (local_seat s inside) ks))
      fills = ap (λ f. f env) (written_par s _)
          ∙ ap (λ l. par_parts (map (written s) l) env) (sym (map_map clear_term local_view ks))
          ∙ pars s env clear_term clear (clear_is s env level) (kept_are s env level inside here shapes bs own)

  parts_are : (shapes : List Shape) (bs : List ℕ) (ms : List Move) (ls : List SeatedArg) (x : Term) (w : PlanTree)
      → LocalsOf s level bs → Each (IsSeated s env level) ms ls → written s x env ≡ w
      → seq_parts (map (written s) (call_parts ms (placed_locals shapes bs) x)) env
      ≡ seq_all (par_all (map bring ls)
      ∷ callee_tree inside (placed_locals shapes bs) (map (local_seat s inside) (placed_locals shapes bs)) w
      ∷ par_all (map give_back ls) ∷ [])
  parts_are shapes bs ms ls x w own each same
      = ap₂ seq ins (ap₂ seq (callee_is shapes bs x w own same) (ap (λ y. seq y tree.Skip) outs))
    where
      ins : written s (term.Par (map bring_term ms)) env ≡ par_all (map bring ls)
      ins = ap (λ f. f env) (written_par s _) ∙ pars s env bring_term bring (bring_is s env level) each

      outs : written s (term.Par (map back_term ms)) env ≡ par_all (map give_back ls)
      outs = ap (λ f. f env) (written_par s _) ∙ pars s env back_term give_back (back_is s env level) each

  pub inside_is : (buffers : List ℕ) (shapes : List Shape) (bs : List ℕ) (ms : List Move) (ls : List SeatedArg)
      (x : Term) (w : PlanTree) → LocalsOf s level bs → Each (IsSeated s env level) ms ls → written s x env ≡ w
      → scoped (node_of env) buffers (written s (term.Seq (call_parts ms (placed_locals shapes bs) x)) env)
      ≡ scoped inside buffers (seq_all
      (par_all (map bring ls) ∷ callee_tree inside (placed_locals shapes bs)
      (map (local_seat s inside) (placed_locals shapes bs)) w ∷ par_all (map give_back ls) ∷ []))
  inside_is buffers shapes bs ms ls x w own each same =
      ap (scoped (node_of env) buffers)
      (ap (λ f. f env) (written_seq s _) ∙ parts_are shapes bs ms ls x w own each same)
      ∙ ap (λ (k : ℕ). scoped k buffers
      (seq_all (par_all (map bring ls)
      ∷ callee_tree inside (placed_locals shapes bs) (map (local_seat s inside) (placed_locals shapes bs)) w
      ∷ par_all (map give_back ls) ∷ []))) node_here
