-- Loops that arguments leave, written out.
use Rattle.std.proofs.Common.{◌≡◌, ℕ, zero, suc, ◌+◌, ◌*◌, ◌≤◌, Bool, true, false, not, ◌||◌, List, [], ◌∷◌, ◌++◌, map}
use Rattle.std.proofs.Common.{◌==◌, ◌&&◌, if◌then◌else◌, get_or, slice_get, Option, Some, None, refl, sym, ap, ap₂}
use Rattle.std.proofs.Common.{subst, ◌∙◌, arith}
use Rattle.sq_num.specs.Elements.{width}
use Rattle.sq_text.specs.declared.spread.SpreadRule.{SpreadRule}
use Rattle.sq_ir.specs.Rect.Placing.{offset}
use Rattle.sq_ir.specs.Tree as tree
use Rattle.sq_ir.specs.Tree.{seq}
use Rattle.sq_ir.specs.Written.{Setting, Env, inside_of, written, scoped}
use Rattle.sq_ir.specs.declared.num.Num.{Num}
use Rattle.sq_ir.specs.declared.num.Num.TheVariants as n
use Rattle.sq_ir.specs.declared.term.LeafView.{LeafView}
use Rattle.sq_ir.specs.declared.term.Term.{Term}
use Rattle.sq_ir.specs.declared.term.Term.TheVariants as term
use Rattle.sq_ir.proofs.Equations.{written_within, written_seq, written_par}
use Rattle.sq_ir.specs.Blocks.declared.argument.Argument.{Argument}
use Rattle.sq_placed.specs.Spec.declared.statement.LoopKind.{LoopKind}
use Rattle.sq_placed.specs.Spec.declared.statement.LoopKind.TheVariants as loop_kind
use Rattle.sq_placed.specs.Spec.declared.statement.CallInstance.{CallInstance}
use Rattle.sq_placed.specs.Spec.declared.body.FormBody.{FormBody}
use Rattle.sq_placed.specs.declared.home.Home.TheVariants.{InPlace}
use Rattle.sq_placed.specs.declared.home.Homes.{Homes}
use Rattle.sq_term.specs.declared.context.Context.{Context}
use Rattle.sq_term.specs.declared.context.Move.{Move}
use Rattle.sq_placed.specs.Placed.{Placed}
use Rattle.sq_placed.specs.Seats.{Seat, SeatedArg, firsts, cons_some, seat_arg, seated_args, block_seat}
use Rattle.sq_placed.specs.Trees as trees
use Rattle.sq_placed.specs.Trees.{seq_all, par_all, hold_in, hold_out, held_of, held_buffers, hold_tree}
use Rattle.sq_placed.specs.Tables.{no_shape, Chain, one_more, chain_of, call_chain, first_of, leaving_row}
use Rattle.sq_placed.specs.Tables.{leaving_chain, row_rect, held_arg, chain_form, row_form, chain_row, hold_placed}
use Rattle.sq_placed.specs.Tables.{holds, overlapped, lanes_of, pipe_by, pipe_of}
use Rattle.sq_term.specs.Terms.{numbers, unless_zero, with_table, first_num, held_bytes, held_view, held_move}
use Rattle.sq_term.specs.Terms.{held_moves, leaving_buffers, hold_in_term, hold_out_term, at_child_already, chain_times}
use Rattle.sq_term.specs.Terms.{chain_num, hold_term}
use Rattle.sq_term.specs.Stands.{Each, none, more, IsNumber, IsSeat, IsSeated, Goes, entered, Stands, AreOf, below}
use Rattle.sq_term.specs.Stands.{calls_in_rows, AreLevel, AreLeveled}
use Rattle.sq_term.proofs.Numbers.{picked}
use Rattle.sq_term.proofs.Turns.{pars, each_weaken, AtBoth, neither, two, at_both}
use Rattle.sq_term.proofs.Rows.{no_dims, hold_in_is, hold_out_is}
use Rattle.sq_term.proofs.Calls.{Entered, enters, shifted_is, own_is, home_of}

-- ---- chains

pub data SameChain (s : Setting) : Option (Chain Num) → Option (Chain ℕ) → Type 0 where
  no_chain : SameChain s None None
  a_chain : (h : Chain Num) (u : Chain ℕ) → h.loops ≡ u.loops → h.instances ≡ u.instances
      → ((turns : List ℕ) (x : Num) (k : ℕ) → IsNumber s turns x k → IsNumber s turns (h.first x) (u.first k))
      → SameChain s (Some h) (Some u)

pub call_chains : (s : Setting) (lower : Bool) (instances : List CallInstance)
    → SameChain s (call_chain lower instances) (call_chain lower instances)
call_chains s true instances = a_chain _ _ refl refl (λ turns x k h. h)
call_chains s false instances = no_chain

more_chains : (s : Setting) (starts : List ℕ) {o : Option (Chain Num)} {u : Option (Chain ℕ)} → SameChain s o u
    → SameChain s (one_more first_num starts o) (one_more first_of starts u)
more_chains s starts no_chain = no_chain
more_chains s starts (a_chain h u l t f) =
    a_chain _ _ (ap suc l) t (λ turns x k g. f turns (n.Pick (numbers starts) x) (get_or starts k 0)
    (picked s turns starts x k g))

pub map_chains : (s : Setting) (m : LoopKind) (starts : List ℕ) {hs : List (Option (Chain Num))}
    {us : List (Option (Chain ℕ))} → Each (SameChain s) hs us
    → SameChain s (chain_of first_num m starts hs) (chain_of first_of m starts us)
map_chains s loop_kind.Sequential starts none = no_chain
map_chains s loop_kind.Sequential starts (more c none) = more_chains s starts c
map_chains s loop_kind.Sequential starts (more c (more d e)) = no_chain
map_chains s loop_kind.Parallel starts none = no_chain
map_chains s loop_kind.Parallel starts (more c e) = no_chain
map_chains s (loop_kind.Reduction r) starts none = no_chain
map_chains s (loop_kind.Reduction r) starts (more c e) = no_chain

overlapped_same : (s : Setting) (homes : ℕ → Homes) {o : Option (Chain Num)} {u : Option (Chain ℕ)} → SameChain s o u
    → overlapped homes o ≡ overlapped homes u
overlapped_same s homes no_chain = refl
overlapped_same s homes (a_chain h u l t f) = ap₂ (λ (n : ℕ) (ts : List CallInstance).
    if n == 0 && (homes (row_form (slice_get ts 0))).overlaps then Some ts else None) l t

-- a loop is taken in both
pub same_pipe : (s : Setting) (homes : ℕ → Homes) (m : LoopKind) (spread : Option SpreadRule)
    {hs : List (Option (Chain Num))} {us : List (Option (Chain ℕ))} → Each (SameChain s) hs us
    → pipe_of homes m spread hs ≡ pipe_of homes m spread us
same_pipe s homes m spread none = refl
same_pipe s homes m spread (more c none) = ap (pipe_by (lanes_of m spread)) (overlapped_same s homes c)
same_pipe s homes m spread (more c (more d e)) = refl

-- the statement of a chain has no same-level call, and its rows' forms stand at the next level
abbrev pub IsAlone : (level : ℕ → ℕ) → (at : ℕ) → Option (Chain ℕ) → (same : Bool) → List (Bool × ℕ) → Type 0
IsAlone level at None same calls = Unit {0}
IsAlone level at (Some h) same calls = (same ≡ false)
    × (AreLevel level at calls → AreLevel level at (calls_in_rows true h.instances))

pub call_alone : (level : ℕ → ℕ) (at : ℕ) (lower : Bool) (instances : List CallInstance)
    → IsAlone level at (call_chain lower instances) (not lower) (calls_in_rows lower instances)
call_alone level at true instances = (refl, λ d. d)
call_alone level at false instances = tt

pub level_first : (level : ℕ → ℕ) (at : ℕ) (xs ys : List (Bool × ℕ)) → AreLevel level at (xs ++ ys)
    → AreLevel level at xs
level_first level at [] ys h = tt
level_first level at (x ∷ xs) ys h = (h.0, level_first level at xs ys h.1)

pub or_none : (a : Bool) → a ≡ false → (a || false) ≡ false
or_none true h = cc
or_none false h = refl

pub one_alone : (level : ℕ → ℕ) (at : ℕ) (starts : List ℕ) (o : Option (Chain ℕ)) (same : Bool)
    (calls : List (Bool × ℕ)) → IsAlone level at o same calls
    → IsAlone level at (one_more first_of starts o) (same || false) (calls ++ [])
one_alone level at starts None same calls h = tt
one_alone level at starts (Some u) same calls h = (or_none same h.0, λ d. h.1 (level_first level at calls [] d))

pub row_level : (level : ℕ → ℕ) (at : ℕ) (lower : Bool) (instances : List CallInstance) (k : ℕ) (r : CallInstance)
    → AreLevel level at (calls_in_rows lower instances) → slice_get instances k ≡ Some r → level r.form ≡ below lower at
row_level level at lower [] k r h e = cc
row_level level at lower (x ∷ instances) zero r h e = let g : x ≡ r
    = cc in subst (λ (y : CallInstance). level y.form ≡ below lower at) g h.0
row_level level at lower (x ∷ instances) (suc k) r h e = row_level level at lower instances k r h.1 e

-- ---- blocks of the first iteration

bytes_are : (v : LeafView) (i : ℕ) (instances : List CallInstance) (j : ℕ) → get_or (map (held_bytes v i) instances) j 0
    ≡ width v.elem * offset v.strides (firsts (row_rect (slice_get instances j) i))
bytes_are v i [] j = let z = no_dims v.strides in let e : width v.elem * 0 ≡ 0 = omega arith in sym e
    ∙ ap (λ (x : ℕ). width v.elem * x) z
bytes_are v i (r ∷ instances) zero = refl
bytes_are v i (r ∷ instances) (suc j) = bytes_are v i instances j

module _ (s : Setting) (env : Env) (level inside : ℕ) (here : env.nodes level ≡ inside) (b : FormBody) (h : Homes)
    (own : AreOf s level h.params) (instances : List CallInstance) (number : Num) (j : ℕ)
    (counted : IsNumber s env.turns number j) where
  held_block : (p : ℕ × Argument) (v : LeafView) (q : Seat) → IsSeat s env level v q
      → IsSeat s env level (held_view (get_or b.arrays p.0 no_shape) (get_or h.params p.0 InPlace) instances number p.0
      v) (block_seat (held_arg b h (slice_get instances j) p) q)
  held_block p v q is =
      let far = width v.elem * offset v.strides (firsts (row_rect (slice_get instances j) p.0)) in
      let sums : s.offset v.slot.buffer + is.bytes + far ≡ s.offset v.slot.buffer + (is.bytes + far) = omega arith in
      record {
        bytes = is.bytes + far;
        number = subst (λ (z : ℕ). IsNumber s env.turns
            (with_table (unless_zero (map (held_bytes v p.0) instances)) number v.slot.at) (is.bytes + z))
            (bytes_are v p.0 instances j)
            (shifted_is s env.turns (map (held_bytes v p.0) instances) number v.slot.at j is.bytes counted is.number);
        is = ap (block_seat (held_arg b h (slice_get instances j) p)) is.is
            ∙ ap (λ (z : ℕ). record {
              node = env.nodes (s.level v.slot.buffer);
              view = record
                  { at = z; elem = v.elem; extents = (get_or b.arrays p.0 no_shape).extents; strides = v.strides };
            }) sums;
        above = is.above;
      }

  pub held_are : (views : List LeafView) (seats : List Seat) → Each (IsSeat s env level) views seats
      → (ps : List (ℕ × Argument))
      → Each (IsSeated s env level) (held_moves b.arrays h.params views instances number ps)
      (seated_args s inside seats (map (held_arg b h (slice_get instances j)) ps))
  held_are views seats g [] = none
  held_are views seats g (p ∷ ps) = go (at_both g p.1.array) (held_are views seats g ps)
    where
      go : {v : Option LeafView} {u : Option Seat} → AtBoth (IsSeat s env level) v u
          → {ms : List Move} {ls : List SeatedArg} → Each (IsSeated s env level) ms ls
          → Each (IsSeated s env level) (cons_some
          (held_move (get_or b.arrays p.0 no_shape) (get_or h.params p.0 InPlace) instances number p.0 p.1) v ms)
          (cons_some (seat_arg s inside (held_arg b h (slice_get instances j) p)) u ls)
      go neither rest = rest
      go (two v q is) rest = more (record {
        mode = refl;
        gathers = refl;
        home = refl;
        outside = held_block p v q is;
        own = own_is s env level inside here (get_or b.arrays p.0 no_shape) (get_or h.params p.0 InPlace) _ _
            (home_of s env level inside here h.params own p.0) (held_block p v q is);
      }) rest

held_buffers_are : (b : FormBody) (h : Homes) (row : Option CallInstance) (ps : List (ℕ × Argument))
    → leaving_buffers h.params ps ≡ held_buffers (map (held_arg b h row) ps)
held_buffers_are b h row [] = refl
held_buffers_are b h row (p ∷ ps) = ap (held_of (get_or h.params p.0 InPlace)) (held_buffers_are b h row ps)

-- ---- the loop

keep_seat : (s : Setting) (env in_env : Env) (level : ℕ) → in_env.turns ≡ env.turns
    → ((l : ℕ) → l ≤ level → in_env.nodes l ≡ env.nodes l) → (v : LeafView) (q : Seat) → IsSeat s env level v q
    → IsSeat s in_env level v q
keep_seat s env in_env level ts ns v q h = record {
  bytes = h.bytes;
  number = subst (λ (t : List ℕ). IsNumber s t v.slot.at h.bytes) (sym ts) h.number;
  is = h.is ∙ ap (λ (k : ℕ). record {
    node = k;
    view = record {
      at = s.offset v.slot.buffer + h.bytes;
      elem = v.elem;
      extents = v.extents;
      strides =
          v.strides;
    };
  }) (sym (ns (s.level v.slot.buffer) h.above));
  above = h.above;
}

deeper_seat : (s : Setting) (env : Env) (level : ℕ) (v : LeafView) (q : Seat) → IsSeat s env level v q
    → IsSeat s env (suc level) v q
deeper_seat s env level v q h = record { bytes = h.bytes; number = h.number; is = h.is; above = omega (arith, h.above) }

or_nothing : (a : Bool) → (a || false) ≡ a
or_nothing true = refl
or_nothing false = refl

or_so : (a : Bool) → (a || true) ≡ true
or_so true = refl
or_so false = refl

module _ (s : Setting) (bodies : ℕ → FormBody) (homes : ℕ → Homes) (level : ℕ → ℕ)
    (leveled : AreLeveled s bodies homes level) (at : ℕ) where
  pub hold_same : {o : Option (Chain Num)} {u : Option (Chain ℕ)} → SameChain s o u
      → (same : Bool) (calls : List (Bool × ℕ)) → IsAlone level at u same calls → AreLevel level at calls
      → (k : ℕ) (c : Context) (env : Env) (inside : Bool) (node child : ℕ) (seats : List Seat) (path : List ℕ)
      → Stands s env at c inside same k node child seats path
      → (made : Bool → Context → Term) (loop : Bool → Placed)
      → ((within_it : Bool) (d : Context) (in_env : Env) → Stands s in_env at d within_it same k node child seats path
      → written s (made within_it d) in_env ≡ trees.tree s (loop within_it) node child seats path)
      → written s (hold_term (bodies (chain_form o)).arrays (homes (chain_form o)).params (chain_times o)
      (chain_num o c.ordinal) (leaving_chain homes o) inside c made) env
      ≡ trees.tree s (hold_placed (leaving_chain homes u)
      (held_arg (bodies (chain_form u)) (homes (chain_form u)) (chain_row u k))
      (loop (inside || holds (leaving_chain homes u)))) node child seats path
  hold_same no_chain same calls alone deep k c env inside node child seats path h made loop is =
      is inside c env h ∙ ap (λ (z : Bool). trees.tree s (loop z) node child seats path) (sym (or_nothing inside))
  hold_same (a_chain o u loops instances first) same calls alone deep k c env inside node child seats path h made loop
      is =
      ap₂ (λ (l : ℕ) (t : List CallInstance). written s
      (hold_term (bodies (row_form (slice_get t 0))).arrays (homes (row_form (slice_get t 0))).params t
      (o.first c.ordinal) (leaving_row homes l (slice_get t 0)) inside c made) env) loops instances
      ∙ go (slice_get u.instances 0) refl
    where
      row : Option CallInstance
      row = slice_get u.instances (u.first k)

      number : Num
      number = o.first c.ordinal

      -- nothing leaves it
      plainly : written s (made inside c) env ≡ trees.tree s (loop (inside || false)) node child seats path
      plainly = is inside c env h ∙ ap (λ (z : Bool). trees.tree s (loop z) node child seats path)
          (sym (or_nothing inside))

      held : (f : ℕ) → level f ≡ suc at → (p : ℕ × Argument) (ps : List (ℕ × Argument))
          → written s (hold_term (bodies f).arrays (homes f).params u.instances number (p ∷ ps) inside c made) env
          ≡ hold_tree (s.child node child) (map (held_arg (bodies f) (homes f) row) (p ∷ ps))
          (seated_args s (s.child node child) seats (map (held_arg (bodies f) (homes f) row) (p ∷ ps)))
          (trees.tree s (loop (inside || true)) node child seats path)
      held f to p ps =
          ap (λ g. g env) (written_within s c.child (leaving_buffers (homes f).params (p ∷ ps)) _)
          ∙ ap₂ (λ (z : ℕ) (bs : List ℕ). scoped z bs
          (written s (term.Seq (term.Par (map hold_in_term ms) ∷ made true (at_child_already c)
          ∷ term.Par (map hold_out_term ms) ∷ [])) in_env))
          (ap in_env.nodes ent.level_is ∙ ent.node_is) (held_buffers_are (bodies f) (homes f) row (p ∷ ps))
          ∙ ap (scoped (s.child node child) (held_buffers (map (held_arg (bodies f) (homes f) row) (p ∷ ps))))
          (ap (λ g. g in_env) (written_seq s _) ∙ ap₂ seq ins (ap₂ seq middle (ap (λ y. seq y tree.Skip) outs)))
        where
          in_env : Env
          in_env = inside_of s env c.child

          ms : List Move
          ms = held_moves (bodies f).arrays (homes f).params c.views u.instances number (p ∷ ps)

          ls : List SeatedArg
          ls = seated_args s (s.child node child) seats (map (held_arg (bodies f) (homes f) row) (p ∷ ps))

          ent : Entered s env in_env at true node child
          ent = enters s env at node child true inside h.node_is
              (subst (λ (z : Bool). Goes s env at node child inside z c.child) alone.0 h.goes)

          kept : Each (IsSeat s in_env at) c.views seats
          kept = each_weaken (IsSeat s env at) (IsSeat s in_env at) (keep_seat s env in_env at ent.turns ent.nodes)
              h.views

          each : Each (IsSeated s in_env (suc at)) ms ls
          each = held_are s in_env (suc at) (s.child node child) ent.node_is (bodies f) (homes f)
              (subst (λ (l : ℕ). AreOf s l (homes f).params) to (leveled.params f)) u.instances number (u.first k)
              (subst (λ (t : List ℕ). IsNumber s t number (u.first k)) (sym ent.turns)
              (first env.turns c.ordinal k h.ordinal)) c.views seats
              (each_weaken (IsSeat s in_env at) (IsSeat s in_env (suc at)) (deeper_seat s in_env at) kept) (p ∷ ps)

          ins : written s (term.Par (map hold_in_term ms)) in_env ≡ par_all (map hold_in ls)
          ins = ap (λ g. g in_env) (written_par s _)
              ∙ pars s in_env hold_in_term hold_in (hold_in_is s in_env (suc at)) each

          outs : written s (term.Par (map hold_out_term ms)) in_env ≡ par_all (map hold_out ls)
          outs = ap (λ g. g in_env) (written_par s _)
              ∙ pars s in_env hold_out_term hold_out (hold_out_is s in_env (suc at)) each

          middle : written s (made true (at_child_already c)) in_env
              ≡ trees.tree s (loop (inside || true)) node child seats path
          middle = is true (at_child_already c) in_env (record {
            ordinal = subst (λ (t : List ℕ). IsNumber s t c.ordinal k) (sym ent.turns) h.ordinal;
            goes = entered ent.level_is ent.node_is refl alone.0;
            node_is = ent.nodes at (omega arith) ∙ h.node_is;
            views = kept;
            numbers = subst (λ (t : List ℕ). Each (IsNumber s t) c.path path) (sym ent.turns) h.numbers;
          }) ∙ ap (λ (z : Bool). trees.tree s (loop z) node child seats path) (sym (or_so inside))

      lists : (f : ℕ) → level f ≡ suc at → (ps : List (ℕ × Argument))
          → written s (hold_term (bodies f).arrays (homes f).params u.instances number ps inside c made) env
          ≡ trees.tree s (hold_placed ps (held_arg (bodies f) (homes f) row) (loop (inside || holds ps))) node child
          seats path
      lists f to [] = plainly
      lists f to (p ∷ ps) = held f to p ps

      go : (r : Option CallInstance) → slice_get u.instances 0 ≡ r
          → written s (hold_term (bodies (row_form r)).arrays (homes (row_form r)).params u.instances number
          (leaving_row homes u.loops r) inside c made) env
          ≡ trees.tree s (hold_placed (leaving_row homes u.loops r)
          (held_arg (bodies (row_form r)) (homes (row_form r)) row)
          (loop (inside || holds (leaving_row homes u.loops r)))) node child seats path
      go None e = plainly
      go (Some r) e = lists r.form (row_level level at true u.instances 0 r (alone.1 deep) e)
          (leaving_row homes u.loops (Some r))
