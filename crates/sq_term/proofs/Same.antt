-- Written out, the term of a form is the tree of what was placed.
use Rattle.std.proofs.Common.{◌≡◌, ℕ, zero, suc, ◌+◌, pos, Bool, true, false, not, ◌||◌, is_some, List, [], ◌∷◌, ◌++◌}
use Rattle.std.proofs.Common.{map, get_or, slice_get, drop, length, Option, Some, None, refl, sym, ap, ap₂, subst, ◌∙◌}
use Rattle.std.proofs.Common.{arith}
use Rattle.std.specs.Prelude.{nat_abs}
use Rattle.sq_num.specs.declared.RedOp.{RedOp}
use Rattle.sq_text.specs.declared.place.Place.{Place}
use Rattle.sq_text.specs.declared.spread.SpreadRule.{SpreadRule}
use Rattle.sq_ir.specs.Leaf.declared.shape.Shape.{Shape}
use Rattle.sq_ir.specs.Tree as tree
use Rattle.sq_ir.specs.Tree.{seq}
use Rattle.sq_ir.specs.Events.{Leaf as LeafEvent}
use Rattle.sq_ir.specs.Written.{Setting, Env, Part as WrittenPart, value_of, count_of, view_of, at_turn, node_of}
use Rattle.sq_ir.specs.Written.{inside_of, written, seq_parts, arm_of, arm_at, scoped}
use Rattle.sq_ir.specs.declared.num.Num.{Num}
use Rattle.sq_ir.specs.declared.num.Num.TheVariants as n
use Rattle.sq_ir.specs.declared.term.Action.TheVariants as action
use Rattle.sq_ir.specs.declared.term.Term.{Term}
use Rattle.sq_ir.specs.declared.term.Term.TheVariants as term
use Rattle.sq_ir.proofs.Equations.{written_skip, written_act, written_seq, written_case, written_within}
use Rattle.sq_placed.specs.Spec.declared.statement.LoopKind.{LoopKind}
use Rattle.sq_placed.specs.Spec.declared.statement.LoopKind.TheVariants as loop_kind
use Rattle.sq_placed.specs.Spec.declared.statement.CallInstance.{CallInstance}
use Rattle.sq_placed.specs.Spec.declared.statement.Statement.{Statement, roll-Statement}
use Rattle.sq_placed.specs.Spec.declared.statement.Statement.TheVariants as b
use Rattle.sq_placed.specs.Spec.declared.statement.Statement.TheOpen.{Statement-F}
use Rattle.sq_placed.specs.Spec.declared.statement.Statement.TheFolds.{ind-Statement, map-Statement}
use Rattle.sq_placed.specs.Spec.declared.body.Body.{Body}
use Rattle.sq_placed.specs.Spec.declared.body.Body.TheVariants as body
use Rattle.sq_placed.specs.Spec.declared.body.FormBody.{FormBody}
use Rattle.sq_placed.specs.declared.home.Home.{Home}
use Rattle.sq_placed.specs.declared.home.Homes.{Homes}
use Rattle.sq_term.specs.declared.context.Context.{Context}
use Rattle.sq_term.specs.declared.context.Move.{Move}
use Rattle.sq_placed.specs.Placed as placed
use Rattle.sq_placed.specs.Placed.{Placed, PlacedCall}
use Rattle.sq_placed.specs.Seats.{Seat, SeatedArg, seated_args, own_of, local_seat}
use Rattle.sq_placed.specs.Trees as trees
use Rattle.sq_placed.specs.Trees.{seq_all, par_all, callee_node, callee_seats, call_buffers}
use Rattle.sq_placed.specs.Tables as tables
use Rattle.sq_placed.specs.Tables.{placed_args, locals_of, op_of, spread_of, map_placed, Chain, call_chain, chain_of}
use Rattle.sq_placed.specs.Tables.{first_of, Pipe, pipe_of, pipe_placed, PlacedPart, all_placed, row_placed}
use Rattle.sq_placed.specs.Tables.{placed_step, statement_placed, body_placed, placed_of}
use Rattle.sq_placed.specs.Pipes.{all_loops, loop_round, call_loops, call_loops_of, LoopsStand, PipesStand}
use Rattle.sq_term.specs.Terms as terms
use Rattle.sq_term.specs.Terms.{numbers, local_view, moves_from, buffers_from, in_callee, call_parts, call_child}
use Rattle.sq_term.specs.Terms.{call_term, arms_of, arm_number, picks, TermPart, all_terms, in_map, map_term, arm_term}
use Rattle.sq_term.specs.Terms.{arm_of_form, rows_term, count_num, term_step, statement_term, first_num, body_term}
use Rattle.sq_term.specs.Terms.{pipe_term, term_of}
use Rattle.sq_term.specs.Stands.{Each, none, more, IsNumber, IsSeat, IsSeated, Goes, to_child, entered, Stands, AreOf}
use Rattle.sq_term.specs.Stands.{LocalsOf, below, calls_in_rows, all_calls, calls_in, calls_in_all, calls_of, AreLevel}
use Rattle.sq_term.specs.Stands.{AreLeveled}
use Rattle.sq_term.proofs.Numbers.{const_is, table_is, count_is, constant}
use Rattle.sq_term.proofs.Turns.{each_map, each_append, each_equal, each_is, each_weaken}
use Rattle.sq_term.proofs.Arms.{IsHead, arm_of_row, pick_of, picks_are}
use Rattle.sq_term.proofs.Calls.{Entered, enters, seat_inside, kept_are, moves_are, buffers_are, inside_is}
use Rattle.sq_term.proofs.Maps.{MayBe, may_be, child_at, in_turn, narrow, tree_map, map_is}
use Rattle.sq_term.proofs.Holds.{SameChain, call_chains, map_chains, IsAlone, call_alone, one_alone, row_level}
use Rattle.sq_term.proofs.Holds.{same_pipe, hold_same}
use Rattle.sq_term.proofs.Piped.{AreSame, lanes_same}
use Rattle.sq_placed.proofs.Opened.{part_call, part_map}
use Rattle.sq_placed.proofs.Pipes.{loops_left, loops_right, IsTaken, taken, loop_of, piped, map_loops, chains_placed}
use Rattle.sq_term.proofs.Opened.{built_call, built_map, calls_call, calls_map}

-- ---- arms

arm_there : {A : Type 0} (g : Term → WrittenPart) (f : A → Term) (qs : List A) (k : ℕ) (q : A) (env : Env)
    → slice_get qs k ≡ Some q → arm_of (map g (map f qs)) k env ≡ g (f q) env
arm_there g f [] k q env h = cc
arm_there g f (x ∷ qs) zero q env h = let e : x ≡ q = cc in ap (λ y. g (f y) env) e
arm_there g f (x ∷ qs) (suc k) q env h = arm_there g f qs k q env h

pub level_left : (level : ℕ → ℕ) (at : ℕ) (xs ys : List (Bool × ℕ)) → AreLevel level at (xs ++ ys)
    → AreLevel level at xs
level_left level at [] ys h = tt
level_left level at (x ∷ xs) ys h = (h.0, level_left level at xs ys h.1)

pub level_right : (level : ℕ → ℕ) (at : ℕ) (xs ys : List (Bool × ℕ)) → AreLevel level at (xs ++ ys)
    → AreLevel level at ys
level_right level at [] ys h = h
level_right level at (x ∷ xs) ys h = level_right level at xs ys h.1

pub or_left : (a b : Bool) → (a || b) ≡ false → a ≡ false
or_left true b h = cc
or_left false b h = refl

pub or_rest : (a b : Bool) → (a || b) ≡ false → b ≡ false
or_rest true b h = cc
or_rest false b h = h

module _ (s : Setting) (bodies : ℕ → FormBody) (homes : ℕ → Homes) (level : ℕ → ℕ) where
  module _ (made : ℕ → Context → Term) (laid_out : ℕ → Placed)
      (callees : AreSame s bodies homes level made laid_out) where
    abbrev called_with : List Home → Option RedOp → Bool → CallInstance → PlacedCall
    called_with params op lower r = record {
      form = r.form;
      lower = lower;
      args = placed_args op (bodies r.form).arrays params 0 r.args;
      locals = locals_of (bodies r.form) (homes r.form);
    }

    -- one arm, where it serves this row
    pub arm_same : (params : List Home) (op : Option RedOp) (lower : Bool) (instances : List CallInstance) (k : ℕ)
        (r : CallInstance) (ys : List ℕ) (c : Context) (env : Env) (at : ℕ) (inside : Bool) (node child : ℕ)
        (seats : List Seat) (path : List ℕ)
        → AreOf s (below lower at) params → LocalsOf s (below lower at) (homes r.form).locals → level r.form
        ≡ below lower at
        → slice_get instances k ≡ Some r → (arm : CallInstance) → r.form ≡ arm.form → Each IsHead r.args arm.args
        → Stands s env at c inside (not lower) k node child seats path
        → written s (arm_term bodies homes made params op lower c instances arm) env
        ≡ trees.tree s (placed.Call (called_with params op lower r) (laid_out r.form)) node child seats path
    arm_same params op lower instances k r ys c env at inside node child seats path own locals deep at_time arm form
        heads h =
        ap (λ (f : ℕ). written s (arm_term bodies homes made params op lower c instances
        (record { form = f; args = arm.args })) env) (sym form)
        ∙ ap (λ f. f env) (written_within s (call_child lower c) (buffers_from params 0 arm.args) _)
        ∙ ap (λ (bs : List ℕ). scoped (node_of below_env) bs
        (written s (term.Seq (call_parts ms (locals_of (bodies r.form) (homes r.form)) x)) below_env))
        (buffers_are op shapes params 0 heads)
        ∙ inside_is s below_env deeper ent.level_is at_node ent.node_is
        (call_buffers (placed_args op shapes params 0 r.args)) rest (homes r.form).locals ms ls x _ locals each
        (callees r.form (in_callee c ms (locals_of (bodies r.form) (homes r.form))) below_env at_node _ path
        (subst (λ (l : ℕ). Stands s below_env l (in_callee c ms (locals_of (bodies r.form) (homes r.form))) false true 0
        at_node 0
        (callee_seats ls (map (local_seat s at_node) (locals_of (bodies r.form) (homes r.form)))) path) (sym deep)
        stands))
      where
        below_env : Env
        below_env = inside_of s env (call_child lower c)

        deeper : ℕ
        deeper = below lower at

        at_node : ℕ
        at_node = callee_node s lower node child

        shapes : List Shape
        shapes = (bodies r.form).arrays

        rest : List Shape
        rest = drop (length (homes r.form).params) (bodies r.form).arrays

        ms : List Move
        ms = moves_from op (bodies r.form).arrays params c instances 0 arm.args

        ls : List SeatedArg
        ls = seated_args s at_node seats (placed_args op (bodies r.form).arrays params 0 r.args)

        x : Term
        x = made r.form (in_callee c ms (locals_of (bodies r.form) (homes r.form)))

        ent : Entered s env below_env at lower node child
        ent = enters s env at node child lower inside h.node_is h.goes

        each : Each (IsSeated s below_env deeper) ms ls
        each = moves_are s below_env deeper at_node ent.node_is c instances k r at_time
            (subst (λ ts. IsNumber s ts c.ordinal k) (sym ent.turns) h.ordinal) seats
            (each_weaken (IsSeat s env at) (IsSeat s below_env deeper)
            (seat_inside s env below_env at lower node child ent) h.views)
            op (bodies r.form).arrays params own 0 heads
            (λ j y e. let m : 0 + j ≡ j = omega arith in ap (slice_get r.args) m ∙ e)

        stands : Stands s below_env deeper (in_callee c ms (locals_of (bodies r.form) (homes r.form))) false true 0
            at_node 0 (callee_seats ls (map (local_seat s at_node) (locals_of (bodies r.form) (homes r.form)))) path
        stands = record {
          ordinal = constant s below_env.turns 0;
          goes = to_child (n.Const (pos 0)) ent.level_is (const_is s below_env (pos 0));
          node_is = ent.node_is;
          views = each_append (IsSeat s below_env deeper)
              (each_map (IsSeated s below_env deeper) (IsSeat s below_env deeper) (λ m. m.own) own_of (λ m l g. g.own)
              each)
              (kept_are s below_env deeper at_node ent.node_is rest (homes r.form).locals locals);
          numbers = subst (λ ts. Each (IsNumber s ts) c.path path) (sym ent.turns) h.numbers;
        }

    module _ (leveled : AreLeveled s bodies homes level) (at : ℕ) where
      -- a call written out
      rows_same : (op : Option RedOp) (lower : Bool) (instances : List CallInstance) (k : ℕ) (c : Context) (env : Env)
          (inside : Bool) (node child : ℕ) (seats : List Seat) (path : List ℕ)
          → AreLevel level at (calls_in_rows lower instances)
          → Stands s env at c inside (not lower) k node child seats path
          → written s (rows_term bodies homes made op lower c instances) env
          ≡ trees.tree s (row_placed bodies homes laid_out op lower (slice_get instances k)) node child seats path
      rows_same op lower instances k c env inside node child seats path deep h =
          ap (λ f. f env) (written_case s (n.Pick (numbers (picks (arms_of instances) instances)) c.ordinal)
          (term.Skip ∷ map arm (arms_of instances)))
          ∙ ap (λ z. arm_at (map (written s) (term.Skip ∷ map arm (arms_of instances))) z env)
          (table_is s env (picks (arms_of instances) instances) c.ordinal k (h.ordinal.value env.level env.nodes)
          ∙ ap pos (picks_are (arms_of instances) instances k))
          ∙ go (slice_get instances k) refl
        where
          arm : CallInstance → Term
          arm = arm_of_form bodies homes made op lower c instances

          go : (o : Option CallInstance) → slice_get instances k ≡ o
              → arm_of (map (written s) (term.Skip ∷ map arm (arms_of instances))) (pick_of (arms_of instances) o) env
              ≡ trees.tree s (row_placed bodies homes laid_out op lower o) node child seats path
          go None e = ap (λ f. f env) (written_skip s)
          go (Some r) e =
              let has = arm_of_row instances k r e in
              let to = row_level level at lower instances k r deep e in
              arm_there (written s) arm (arms_of instances) (arm_number (arms_of instances) r) has.arm env has.there
              ∙ ap (λ (f : ℕ). written s (arm_term bodies homes made (homes f).params op lower c instances has.arm) env)
              (sym has.form)
              ∙ arm_same (homes r.form).params op lower instances k r [] c env at inside node child seats path
              (subst (λ (l : ℕ). AreOf s l (homes r.form).params) to (leveled.params r.form))
              (subst (λ (l : ℕ). LocalsOf s l (homes r.form).locals) to (leveled.locals r.form)) to e has.arm has.form
              has.heads h

      module _ (rule : SpreadRule) where
        abbrev part : Statement → PlacedPart
        part = statement_placed bodies homes laid_out rule

        abbrev built : Statement → TermPart
        built = statement_term bodies homes made rule

        record Agrees (x : Statement) : Type 0 where
          lower : (built x).lower ≡ (part x).lower
          same : (built x).same ≡ (part x).same
          chain : SameChain s (built x).chain (part x).chain
          alone : IsAlone level at (part x).chain (part x).same (calls_in x)
          is : (op : Option RedOp) (k : ℕ) (c : Context) (env : Env) (inside : Bool) (node child : ℕ)
              (seats : List Seat) (path : List ℕ)
              → AreLevel level at (calls_in x) → LoopsStand homes (call_loops x).loops
              → Stands s env at c inside (part x).same k node child seats path
              → written s ((built x).build op inside c) env
              ≡ trees.tree s ((part x).placed op inside k) node child seats path

        abbrev Known : Type 0
        Known = (x : Statement) × Agrees x

        abbrev begun : List Known → List Statement
        begun = map (λ q. q.0)

        lowers : (xs : List Known) → terms.any_lower (map built (begun xs)) ≡ tables.any_lower (map part (begun xs))
        lowers [] = refl
        lowers (x ∷ xs) = ap₂ (λ u v. u || v) x.1.lower (lowers xs)

        sames : (xs : List Known) → terms.any_same (map built (begun xs)) ≡ tables.any_same (map part (begun xs))
        sames [] = refl
        sames (x ∷ xs) = ap₂ (λ u v. u || v) x.1.same (sames xs)

        chains : (xs : List Known) → Each (SameChain s) (terms.chains (map built (begun xs)))
            (tables.chains (map part (begun xs)))
        chains [] = none
        chains (x ∷ xs) = more x.1.chain (chains xs)

        alones : (m : LoopKind) (starts : List ℕ) (xs : List Known)
            → IsAlone level at (chain_of first_of m starts (tables.chains (map part (begun xs))))
            (tables.any_same (map part (begun xs))) (all_calls (map calls_in (begun xs)))
        alones loop_kind.Sequential starts [] = tt
        alones loop_kind.Sequential starts (x ∷ [])
            = one_alone level at starts (part x.0).chain (part x.0).same (calls_in x.0) x.1.alone
        alones loop_kind.Sequential starts (x ∷ y ∷ xs) = tt
        alones loop_kind.Parallel starts [] = tt
        alones loop_kind.Parallel starts (x ∷ xs) = tt
        alones (loop_kind.Reduction r) starts [] = tt
        alones (loop_kind.Reduction r) starts (x ∷ xs) = tt

        all_same : (xs : List Known) (op : Option RedOp) (k : ℕ) (c : Context) (env : Env) (inside : Bool)
            (node child : ℕ) (seats : List Seat) (path : List ℕ)
            → AreLevel level at (all_calls (map calls_in (begun xs)))
            → LoopsStand homes (all_loops (map call_loops (begun xs)))
            → Stands s env at c inside (tables.any_same (map part (begun xs))) k node child seats path
            → seq_parts (map (written s) (all_terms (map built (begun xs)) op inside c)) env
            ≡ trees.tree s (all_placed (map part (begun xs)) op inside k) node child seats path
        all_same [] op k c env inside node child seats path deep loops h = refl
        all_same (x ∷ xs) op k c env inside node child seats path deep loops h =
            let more_same = tables.any_same (map part (begun xs)) in
            ap₂ seq
            (x.1.is op k c env inside node child seats path
            (level_left level at (calls_in x.0) (all_calls (map calls_in (begun xs))) deep)
            (loops_left homes (call_loops x.0).loops (all_loops (map call_loops (begun xs))) loops)
            (narrow s env at c inside _ (part x.0).same k node child seats path (or_left (part x.0).same more_same) h))
            (all_same xs op k c env inside node child seats path
            (level_right level at (calls_in x.0) (all_calls (map calls_in (begun xs))) deep)
            (loops_right homes (call_loops x.0).loops (all_loops (map call_loops (begun xs))) loops)
            (narrow s env at c inside _ more_same k node child seats path (or_rest (part x.0).same more_same) h))

        map_same : (place : Place) (m : LoopKind) (counts starts : List ℕ) (xs : List Known) (k : ℕ) (c : Context)
            (env : Env) (inside : Bool) (node child : ℕ) (seats : List Seat) (path : List ℕ)
            → AreLevel level at (all_calls (map calls_in (begun xs)))
            → LoopsStand homes (all_loops (map call_loops (begun xs)))
            → Stands s env at c inside (tables.any_same (map part (begun xs))) k node child seats path
            → (spread : Option SpreadRule) → spread
            ≡ spread_of rule m inside (tables.any_lower (map part (begun xs))) (tables.any_same (map part (begun xs)))
            → written s (map_term spread (count_num counts c)
            (term.Seq (all_terms (map built (begun xs)) (op_of m) (inside || is_some spread)
            (in_map spread (count_num counts c) starts c)))) env
            ≡ trees.tree s (map_placed m place
            (spread_of rule m inside (tables.any_lower (map part (begun xs)))
            (tables.any_same (map part (begun xs)))) (get_or counts k 0)
            (λ t. all_placed (map part (begun xs)) (op_of m)
            (inside || is_some (spread_of rule m inside (tables.any_lower (map part (begun xs)))
            (tables.any_same (map part (begun xs))))) (get_or starts k 0 + t))) node child seats path
        map_same place m counts starts xs k c env inside node child seats path deep loops h spread e =
            ap (λ (o : Option SpreadRule). written s
            (map_term o count (term.Seq (all_terms (map built (begun xs)) (op_of m) (inside || is_some o)
            (in_map o count starts c)))) env) e
            ∙ map_is s env at node child inside any h.node_is count (get_or counts k 0) counted chosen may h.goes _ _
            (λ t.
            ap (λ f. f (at_turn env t)) (written_seq s _)
            ∙ all_same xs (op_of m) (get_or starts k 0 + t) (in_map chosen count starts c) (at_turn env t)
            (inside || is_some chosen) node (child_at chosen (get_or counts k 0) (s.children node) child t) seats
            (path ++ t ∷ []) deep loops
            (in_turn s env at c inside any k node child seats path chosen may count (get_or counts k 0) counted starts t
            h))
            ∙ sym (tree_map s rule m inside (tables.any_lower (map part (begun xs))) any place (get_or counts k 0)
            (λ t. all_placed (map part (begun xs)) (op_of m) (inside || is_some chosen) (get_or starts k 0 + t)) node
            child seats path)
          where
            any : Bool
            any = tables.any_same (map part (begun xs))

            chosen : Option SpreadRule
            chosen = spread_of rule m inside (tables.any_lower (map part (begun xs)))
                (tables.any_same (map part (begun xs)))

            count : Num
            count = count_num counts c

            may : MayBe chosen inside
            may = may_be rule m inside (tables.any_lower (map part (begun xs))) (tables.any_same (map part (begun xs)))

            counted : value_of s count env ≡ pos (get_or counts k 0)
            counted = count_is s env counts c k (h.ordinal.value env.level env.nodes)

        -- a loop whose transfers overlap
        piped_same : (place : Place) (m : LoopKind) (counts starts : List ℕ) (xs : List Statement) (k : ℕ) (c : Context)
            (env : Env) (inside : Bool) (node child : ℕ) (seats : List Seat) (path : List ℕ)
            → AreLevel level at (all_calls (map calls_in xs))
            → LoopsStand homes (loop_round m counts starts (map call_loops xs))
            → Stands s env at c inside (tables.any_same (map part xs)) k node child seats path
            → (spread : Option SpreadRule) → MayBe spread inside → (p : Pipe) → IsTaken homes m spread xs p
            → (loop : Term) (w : Placed)
            → written s (pipe_term bodies homes made (Some p) counts starts c loop) env
            ≡ trees.tree s (pipe_placed bodies homes laid_out (Some p) place (get_or counts k 0) (get_or starts k 0) w)
            node child seats path
        piped_same place m counts starts xs k c env inside node child seats path deep loops h spread may p is loop w =
            lanes_same s bodies homes level made laid_out callees leveled at (loop_of m counts starts p)
            (piped homes m spread xs p is counts starts loops)
            (subst (AreLevel level at) (calls_call true p.rows)
            (level_left level at (calls_in (b.Call true p.rows)) []
            (subst (λ (ys : List Statement). AreLevel level at (all_calls (map calls_in ys))) is.one deep)))
            k seats path place m spread p.spread is.lanes c env inside node child
            (λ r e. on_level (may.free r e) h.goes)
            (subst (λ (z : Bool). Stands s env at c inside z k node child seats path)
            (ap (λ (ys : List Statement). tables.any_same (map part ys)) is.one
            ∙ ap (λ (q : PlacedPart). q.same || false) (part_call bodies homes laid_out rule true p.rows)) h)
          where
            on_level : {z : Bool} {o : Option Num} → inside ≡ false → Goes s env at node child inside z o
                → env.level ≡ at
            on_level e (to_child x l v) = l
            on_level e (entered l there i alone) = let f : ⊥ = cc in absurd f

        run_same : (place : Place) (m : LoopKind) (counts starts : List ℕ) (xs : List Known) (k : ℕ) (c : Context)
            (env : Env) (inside : Bool) (node child : ℕ) (seats : List Seat) (path : List ℕ)
            → AreLevel level at (all_calls (map calls_in (begun xs)))
            → LoopsStand homes (loop_round m counts starts (map call_loops (begun xs)))
            → LoopsStand homes (all_loops (map call_loops (begun xs)))
            → Stands s env at c inside (tables.any_same (map part (begun xs))) k node child seats path
            → (spread : Option SpreadRule) → spread
            ≡ spread_of rule m inside (tables.any_lower (map part (begun xs))) (tables.any_same (map part (begun xs)))
            → written s (pipe_term bodies homes made
            (pipe_of homes m spread (terms.chains (map built (begun xs))))
            counts starts c (map_term spread (count_num counts c)
            (term.Seq (all_terms (map built (begun xs)) (op_of m) (inside || is_some spread)
            (in_map spread (count_num counts c) starts c))))) env
            ≡ trees.tree s (pipe_placed bodies homes laid_out (pipe_of homes m
            (spread_of rule m inside (tables.any_lower (map part (begun xs))) (tables.any_same (map part (begun xs))))
            (tables.chains (map part (begun xs)))) place (get_or counts k 0) (get_or starts k 0) (map_placed m place
            (spread_of rule m inside (tables.any_lower (map part (begun xs)))
            (tables.any_same (map part (begun xs)))) (get_or counts k 0)
            (λ t. all_placed (map part (begun xs)) (op_of m)
            (inside || is_some (spread_of rule m inside (tables.any_lower (map part (begun xs)))
            (tables.any_same (map part (begun xs))))) (get_or starts k 0 + t)))) node child seats path
        run_same place m counts starts xs k c env inside node child seats path deep round loops h spread e =
            ap (λ (o : Option Pipe). written s (pipe_term bodies homes made o counts starts c (loop_by spread)) env)
            (ap (λ (o : Option SpreadRule). pipe_of homes m o (terms.chains (map built (begun xs)))) e
            ∙ same_pipe s homes m chosen (chains xs))
            ∙ go (pipe_of homes m chosen (tables.chains (map part (begun xs)))) refl
          where
            chosen : Option SpreadRule
            chosen = spread_of rule m inside (tables.any_lower (map part (begun xs)))
                (tables.any_same (map part (begun xs)))

            loop_by : Option SpreadRule → Term
            loop_by o = map_term o (count_num counts c)
                (term.Seq (all_terms (map built (begun xs)) (op_of m) (inside || is_some o)
                (in_map o (count_num counts c) starts c)))

            loop : Placed
            loop = map_placed m place chosen (get_or counts k 0)
                (λ t. all_placed (map part (begun xs)) (op_of m) (inside || is_some chosen) (get_or starts k 0 + t))

            go : (o : Option Pipe) → pipe_of homes m chosen (tables.chains (map part (begun xs))) ≡ o
                → written s (pipe_term bodies homes made o counts starts c (loop_by spread)) env
                ≡ trees.tree s (pipe_placed bodies homes laid_out o place (get_or counts k 0) (get_or starts k 0) loop)
                node child seats path
            go None f = map_same place m counts starts xs k c env inside node child seats path deep loops h spread e
            go (Some p) f = piped_same place m counts starts (begun xs) k c env inside node child seats path deep round
                h chosen
                (may_be rule m inside (tables.any_lower (map part (begun xs)))
                (tables.any_same (map part (begun xs)))) p
                (taken homes m chosen (chains_placed bodies homes laid_out rule (begun xs)) p f) (loop_by spread) loop

        held_same : (place : Place) (m : LoopKind) (counts starts : List ℕ) (xs : List Known) (op : Option RedOp)
            (k : ℕ) (c : Context) (env : Env) (inside : Bool) (node child : ℕ) (seats : List Seat) (path : List ℕ)
            → AreLevel level at (all_calls (map calls_in (begun xs)))
            → LoopsStand homes (loop_round m counts starts (map call_loops (begun xs)))
            → LoopsStand homes (all_loops (map call_loops (begun xs)))
            → Stands s env at c inside (tables.any_same (map part (begun xs))) k node child seats path
            → written s ((term_step bodies homes made rule
            (Statement-F.Map place m counts starts (map built (begun xs)))).build op inside c) env
            ≡ trees.tree s ((placed_step bodies homes laid_out rule
            (Statement-F.Map place m counts starts (map part (begun xs)))).placed op inside k) node child seats path
        held_same place m counts starts xs op k c env inside node child seats path deep round loops h =
            hold_same s bodies homes level leveled at (map_chains s m starts (chains xs))
            (tables.any_same (map part (begun xs))) (all_calls (map calls_in (begun xs))) (alones m starts xs) deep
            k c env inside node child seats path h _
            (λ within_it. pipe_placed bodies homes laid_out (pipe_of homes m
            (spread_of rule m within_it (tables.any_lower (map part (begun xs)))
            (tables.any_same (map part (begun xs)))) (tables.chains (map part (begun xs)))) place (get_or counts k 0)
            (get_or starts k 0) (map_placed m place
            (spread_of rule m within_it (tables.any_lower (map part (begun xs)))
            (tables.any_same (map part (begun xs)))) (get_or counts k 0)
            (λ t. all_placed (map part (begun xs)) (op_of m)
            (within_it || is_some (spread_of rule m within_it (tables.any_lower (map part (begun xs)))
            (tables.any_same (map part (begun xs))))) (get_or starts k 0 + t))))
            (λ within_it d in_env g. run_same place m counts starts xs k d in_env within_it node child seats path deep
            round loops g _ (ap₂ (spread_of rule m within_it) (lowers xs) (sames xs)))

        agrees_step : (y : Statement-F Known) → Agrees (roll-Statement (map-Statement Known Statement (λ p. p.0) y))
        agrees_step (Statement-F.Call lower instances) = subst Agrees (sym (b.rolls-Call lower instances)) (record {
          lower = ap (λ (p : TermPart). p.lower) (built_call bodies homes made rule lower instances)
              ∙ sym (ap (λ (p : PlacedPart). p.lower) (part_call bodies homes laid_out rule lower instances));
          same = ap (λ (p : TermPart). p.same) (built_call bodies homes made rule lower instances)
              ∙ sym (ap (λ (p : PlacedPart). p.same) (part_call bodies homes laid_out rule lower instances));
          chain = subst (λ (o : Option (Chain Num)). SameChain s o (part (b.Call lower instances)).chain)
              (sym (ap (λ (p : TermPart). p.chain) (built_call bodies homes made rule lower instances)))
              (subst (λ (o : Option (Chain ℕ)). SameChain s (call_chain lower instances) o)
              (sym (ap (λ (p : PlacedPart). p.chain) (part_call bodies homes laid_out rule lower instances)))
              (call_chains s lower instances));
          alone = subst (λ (p : PlacedPart). IsAlone level at p.chain p.same (calls_in (b.Call lower instances)))
              (sym (part_call bodies homes laid_out rule lower instances))
              (subst (IsAlone level at (call_chain lower instances) (not lower)) (sym (calls_call lower instances))
              (call_alone level at lower instances));
          is = λ op k c env inside node child seats path deep loops h.
              ap (λ (p : TermPart). written s (p.build op inside c) env)
              (built_call bodies homes made rule lower instances)
              ∙ rows_same op lower instances k c env inside node child seats path
              (subst (AreLevel level at) (calls_call lower instances) deep)
              (subst (λ (z : Bool). Stands s env at c inside z k node child seats path)
              (ap (λ (p : PlacedPart). p.same) (part_call bodies homes laid_out rule lower instances)) h)
              ∙ sym (ap (λ (p : PlacedPart). trees.tree s (p.placed op inside k) node child seats path)
              (part_call bodies homes laid_out rule lower instances));
        })
        agrees_step (Statement-F.Map place m counts starts xs)
            = subst Agrees (sym (b.rolls-Map place m counts starts (begun xs))) (record {
              lower = ap (λ (p : TermPart). p.lower) (built_map bodies homes made rule place m counts starts (begun xs))
                  ∙ lowers xs ∙ sym (ap (λ (p : PlacedPart). p.lower)
                  (part_map bodies homes laid_out rule place m counts starts (begun xs)));
              same = ap (λ (p : TermPart). p.same) (built_map bodies homes made rule place m counts starts (begun xs))
                  ∙ sames xs ∙ sym (ap (λ (p : PlacedPart). p.same)
                  (part_map bodies homes laid_out rule place m counts starts (begun xs)));
              chain = subst (λ (o : Option (Chain Num)). SameChain s o
                  (part (b.Map place m counts starts (begun xs))).chain)
                  (sym (ap (λ (p : TermPart). p.chain)
                  (built_map bodies homes made rule place m counts starts (begun xs))))
                  (subst (λ (o : Option (Chain ℕ)). SameChain s
                  (chain_of first_num m starts (terms.chains (map built (begun xs)))) o)
                  (sym (ap (λ (p : PlacedPart). p.chain)
                  (part_map bodies homes laid_out rule place m counts starts (begun xs))))
                  (map_chains s m starts (chains xs)));
              alone = subst (λ (p : PlacedPart). IsAlone level at p.chain p.same
                  (calls_in (b.Map place m counts starts (begun xs))))
                  (sym (part_map bodies homes laid_out rule place m counts starts (begun xs)))
                  (subst (IsAlone level at (chain_of first_of m starts (tables.chains (map part (begun xs))))
                  (tables.any_same (map part (begun xs)))) (sym (calls_map place m counts starts (begun xs)))
                  (alones m starts xs));
              is = λ op k c env inside node child seats path deep loops h.
                  let both = map_loops homes place m counts starts (begun xs) loops in
                  ap (λ (p : TermPart). written s (p.build op inside c) env)
                  (built_map bodies homes made rule place m counts starts (begun xs))
                  ∙ held_same place m counts starts xs op k c env inside node child seats path
                  (subst (AreLevel level at) (calls_map place m counts starts (begun xs)) deep) both.0 both.1
                  (subst (λ (z : Bool). Stands s env at c inside z k node child seats path)
                  (ap (λ (p : PlacedPart). p.same)
                  (part_map bodies homes laid_out rule place m counts starts (begun xs)))
                  h)
                  ∙ sym (ap (λ (p : PlacedPart). trees.tree s (p.placed op inside k) node child seats path)
                  (part_map bodies homes laid_out rule place m counts starts (begun xs)));
            })

        agrees : (x : Statement) → Agrees x
        agrees = ind-Statement Agrees (λ x y is. subst (λ z. Agrees (roll-Statement z)) is (agrees_step y))

        abbrev known : List Statement → List Known
        known [] = []
        known (x ∷ xs) = (x, agrees x) ∷ known xs

        known_are : (xs : List Statement) → begun (known xs) ≡ xs
        known_are [] = refl
        known_are (x ∷ xs) = ap (λ ys. x ∷ ys) (known_are xs)

        calls_joined : (xs : List Statement) → calls_in_all xs ≡ all_calls (map calls_in xs)
        calls_joined [] = refl
        calls_joined (x ∷ xs) = ap (λ l. calls_in x ++ l) (calls_joined xs)

        list_same : (list : List Statement) (c : Context) (env : Env) (node : ℕ) (seats : List Seat) (path : List ℕ)
            → AreLevel level at (calls_in_all list) → LoopsStand homes (all_loops (map call_loops list))
            → Stands s env at c false true 0 node 0 seats path
            → written s (term.Seq (all_terms (map built list) None false c)) env
            ≡ trees.tree s (all_placed (map part list) None false 0) node 0 seats path
        list_same list c env node seats path deep loops h =
            ap (λ f. f env) (written_seq s _)
            ∙ subst (λ (xs : List Statement). AreLevel level at (calls_in_all xs)
            → LoopsStand homes (all_loops (map call_loops xs))
            → seq_parts (map (written s) (all_terms (map built xs) None false c)) env
            ≡ trees.tree s (all_placed (map part xs) None false 0) node 0 seats path)
            (known_are list)
            (λ d g. all_same (known list) None 0 c env false node 0 seats path
            (subst (AreLevel level at) (calls_joined (begun (known list))) d) g
            (narrow s env at c false true _ 0 node 0 seats path (λ e. absurd (cc)) h)) deep loops

      body_same : (h : Homes) (bd : FormBody) (c : Context) (env : Env) (node : ℕ) (seats : List Seat) (path : List ℕ)
          → AreLevel level at (calls_of bd.body) → LoopsStand homes (call_loops_of bd.body)
          → Stands s env at c false true 0 node 0 seats path
          → written s (body_term bodies homes made h bd.body c) env
          ≡ trees.tree s (body_placed bodies homes laid_out h bd.arrays bd.body) node 0 seats path
      body_same h bd c env node seats path deep loops g = go bd.body deep loops
        where
          on_node : {o : Option Num} → Goes s env at node 0 false true o → node_of env ≡ node
          on_node (to_child k is v) = ap env.nodes is ∙ g.node_is
          on_node (entered is there i alone) = cc

          go : (x : Body) → AreLevel level at (calls_of x) → LoopsStand homes (call_loops_of x)
              → written s (body_term bodies homes made h x c) env
              ≡ trees.tree s (body_placed bodies homes laid_out h bd.arrays x) node 0 seats path
          go (body.Inner list) d ls = list_same h.rule list c env node seats path d ls g
          go (body.Leaf code) d ls =
              ap (λ f. f env) (written_act s (action.Leaf h.code c.views c.path))
              ∙ ap₂ (λ v p. tree.Act (LeafEvent (node_of env) h.code v p)) views numbers_are
              ∙ ap (λ (z : ℕ). tree.Act (LeafEvent z h.code (map (λ q. q.view) seats) path)) (on_node g.goes)
            where
              views : map (view_of s env) c.views ≡ map (λ (q : Seat). q.view) seats
              views = each_equal (IsSeat s env at) (view_of s env) (λ q. q.view) (λ v q i.
                  ap (λ z. record {
                    at = s.offset v.slot.buffer + nat_abs z;
                    elem = v.elem;
                    extents = v.extents;
                    strides
                        = v.strides;
                  }) (i.number.value env.level env.nodes)
                  ∙ ap (λ (z : Seat). z.view) (sym i.is)) g.views

              numbers_are : map (λ k. count_of s k env) c.path ≡ path
              numbers_are = each_is (IsNumber s env.turns) (λ k. count_of s k env)
                  (λ x k i. ap nat_abs (i.value env.level env.nodes)) g.numbers

pub forms_same : (s : Setting) (bodies : ℕ → FormBody) (homes : ℕ → Homes) (level : ℕ → ℕ)
    → AreLeveled s bodies homes level → PipesStand bodies homes → (d : ℕ)
    → AreSame s bodies homes level (term_of bodies homes d) (placed_of bodies homes d)
forms_same s bodies homes level leveled stand zero f c env node seats path h = ap (λ x. x env) (written_skip s)
forms_same s bodies homes level leveled stand (suc d) f c env node seats path h =
    body_same s bodies homes level (term_of bodies homes d) (placed_of bodies homes d)
    (forms_same s bodies homes level leveled stand d) leveled (level f) (homes f) (bodies f) c env node seats path
    (leveled.calls f) (stand.each f) h
