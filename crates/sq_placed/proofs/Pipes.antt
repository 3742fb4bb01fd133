-- Loops whose transfers overlap.
use Rattle.std.proofs.Common.{◌≡◌, ℕ, suc, ◌==◌, Bool, true, false, ◌&&◌, List, [], ◌∷◌, ◌++◌, map, slice_get}
use Rattle.std.proofs.Common.{Option, Some, None, refl, sym, ap, subst, ◌∙◌, arith, if◌then◌else◌}
use Rattle.std.proofs.lemmas.Bool.Decides.{nat_tests}
use Rattle.sq_text.specs.declared.place.Place.{Place}
use Rattle.sq_text.specs.declared.spread.SpreadRule.{SpreadRule}
use Rattle.sq_spec.specs.declared.statement.LoopKind.{LoopKind}
use Rattle.sq_spec.specs.declared.statement.LoopKind.TheVariants as loop_kind
use Rattle.sq_spec.specs.declared.statement.CallInstance.{CallInstance}
use Rattle.sq_spec.specs.declared.statement.Statement.{Statement, roll-Statement}
use Rattle.sq_spec.specs.declared.statement.Statement.TheVariants as b
use Rattle.sq_spec.specs.declared.statement.Statement.TheOpen.{Statement-F}
use Rattle.sq_spec.specs.declared.statement.Statement.TheFolds.{fold-roll-Statement, ind-Statement, map-Statement}
use Rattle.sq_spec.specs.declared.body.FormBody.{FormBody}
use Rattle.sq_placed.specs.declared.home.Homes.{Homes}
use Rattle.sq_placed.specs.Placed.{Placed}
use Rattle.sq_placed.specs.Tables.{Chain, one_more, chain_of, call_chain, first_of, row_form, chain_form, overlapped}
use Rattle.sq_placed.specs.Tables.{overlapped_in, lanes_of, Pipe, pipe_by, pipe_of, PlacedPart, statement_placed}
use Rattle.sq_placed.specs.Tables.{chains}
use Rattle.sq_placed.specs.Pipes.{CallLoop, CallLoops, all_loops, loop_round, call_loops_step, call_loops}
use Rattle.sq_placed.specs.Pipes.{call_loops_of, IsPiped, LoopStands, LoopsStand, PipesStand, NonePiped}
use Rattle.sq_placed.proofs.Opened.{part_call, part_map}

-- ---- the loops of lower calls, one equation for each variant

pub loops_call : (lower : Bool) (instances : List CallInstance) → call_loops (b.Call lower instances)
    ≡ call_loops_step (Statement-F.Call lower instances)
loops_call lower instances = ap call_loops (sym (b.rolls-Call lower instances))
    ∙ fold-roll-Statement CallLoops call_loops_step (Statement-F.Call lower instances)

pub loops_map : (place : Place) (m : LoopKind) (counts starts : List ℕ) (body : List Statement)
    → call_loops (b.Map place m counts starts body)
    ≡ call_loops_step (Statement-F.Map place m counts starts (map call_loops body))
loops_map place m counts starts body =
    ap call_loops (sym (b.rolls-Map place m counts starts body))
    ∙ fold-roll-Statement CallLoops call_loops_step (Statement-F.Map place m counts starts body)

pub loops_left : (homes : ℕ → Homes) (xs ys : List CallLoop) → LoopsStand homes (xs ++ ys) → LoopsStand homes xs
loops_left homes [] ys h = tt
loops_left homes (x ∷ xs) ys h = (h.0, loops_left homes xs ys h.1)

pub loops_right : (homes : ℕ → Homes) (xs ys : List CallLoop) → LoopsStand homes (xs ++ ys) → LoopsStand homes ys
loops_right homes [] ys h = h
loops_right homes (x ∷ xs) ys h = loops_right homes xs ys h.1

-- ---- chains of statements

-- A statement has this chain: where no loop stands round its call, it is that call.
pub record IsChain {X : Type 0} (x : Statement) (o : Option (Chain X)) : Type 0 where
  pub call : (h : Chain X) → o ≡ Some h → h.loops ≡ 0 → x ≡ b.Call true h.instances

pub data AreChains {X : Type 0} : List Statement → List (Option (Chain X)) → Type 0 where
  no_chains : AreChains [] []
  more_chains : {x : Statement} {o : Option (Chain X)} {xs : List Statement} {os : List (Option (Chain X))}
      → IsChain x o → AreChains xs os → AreChains (x ∷ xs) (o ∷ os)

pub chain_of_call : {X : Type 0} (lower : Bool) (instances : List CallInstance)
    → IsChain {X = X} (b.Call lower instances) (call_chain lower instances)
chain_of_call {X} true instances
    = record { call = λ h e l. ap (λ (o : Option (Chain X)). b.Call true (rows_of o)) e }
  where
    rows_of : Option (Chain X) → List CallInstance
    rows_of None = []
    rows_of (Some h) = h.instances
chain_of_call false instances = record { call = λ h e l. absurd (cc) }

no_loops : {X : Type 0} (pick : List ℕ → X → X) (starts : List ℕ) (o : Option (Chain X)) (h : Chain X)
    → one_more pick starts o ≡ Some h → h.loops ≡ 0 → ⊥
no_loops pick starts None h e l = cc
no_loops {X} pick starts (Some u) h e l = let f : suc u.loops ≡ h.loops = ap (λ (o : Option (Chain X)). loops_in o) e in
    omega (arith, f, l)
  where
    loops_in : Option (Chain X) → ℕ
    loops_in None = 0
    loops_in (Some u) = u.loops

-- a loop has at least one loop round its call
pub chain_of_map : {X : Type 0} (pick : List ℕ → X → X) (x : Statement) (m : LoopKind) (starts : List ℕ)
    (hs : List (Option (Chain X))) → IsChain x (chain_of pick m starts hs)
chain_of_map pick x loop_kind.Sequential starts [] = record { call = λ h e l. absurd (cc) }
chain_of_map pick x loop_kind.Sequential starts (o ∷ [])
    = record { call = λ h e l. absurd (no_loops pick starts o h e l) }
chain_of_map pick x loop_kind.Sequential starts (o ∷ u ∷ hs) = record { call = λ h e l. absurd (cc) }
chain_of_map pick x loop_kind.Parallel starts [] = record { call = λ h e l. absurd (cc) }
chain_of_map pick x loop_kind.Parallel starts (o ∷ hs) = record { call = λ h e l. absurd (cc) }
chain_of_map pick x (loop_kind.Reduction r) starts [] = record { call = λ h e l. absurd (cc) }
chain_of_map pick x (loop_kind.Reduction r) starts (o ∷ hs) = record { call = λ h e l. absurd (cc) }

-- ---- loops that overlap their transfers

-- the loop round these statements is taken: its body is one lower call, whose form overlaps
pub record IsTaken (homes : ℕ → Homes) (m : LoopKind) (spread : Option SpreadRule) (xs : List Statement) (p : Pipe)
    : Type 0 where
  pub one : xs ≡ b.Call true p.rows ∷ []
  pub lanes : lanes_of m spread ≡ Some p.spread
  pub overlaps : (homes (row_form (slice_get p.rows 0))).overlaps ≡ true

-- what a loop is made of
abbrev spread_in : Option Pipe → Option (Option SpreadRule)
spread_in None = None
spread_in (Some p) = Some p.spread

abbrev rows_in : Option Pipe → Option (List CallInstance)
rows_in None = None
rows_in (Some p) = Some p.rows

parts_of : (o : Option (Option SpreadRule)) (r : Option (List CallInstance)) (p : Pipe) → pipe_by o r ≡ Some p
    → (o ≡ Some p.spread) × (r ≡ Some p.rows)
parts_of None r p e = cc
parts_of (Some spread) None p e = cc
parts_of (Some spread) (Some rows) p e = (ap spread_in e, ap rows_in e)

abbrev rows_or : Option (List CallInstance) → List CallInstance
rows_or None = []
rows_or (Some rows) = rows

-- these statements are one lower call with these rows, whose form overlaps
pub record IsOneCall (homes : ℕ → Homes) (xs : List Statement) (rows : List CallInstance) : Type 0 where
  pub one : xs ≡ b.Call true rows ∷ []
  pub overlaps : (homes (row_form (slice_get rows 0))).overlaps ≡ true

pub one_call : {X : Type 0} (homes : ℕ → Homes) {xs : List Statement} {hs : List (Option (Chain X))} → AreChains xs hs
    → (rows : List CallInstance) → overlapped_in homes hs ≡ Some rows → IsOneCall homes xs rows
one_call homes no_chains rows e = cc
one_call homes (more_chains c (more_chains d f)) rows e = cc
one_call homes (more_chains {x = x} {o = None} c no_chains) rows e = cc
one_call homes (more_chains {x = x} {o = Some h} c no_chains) rows e =
    go (h.loops == 0) (homes (row_form (slice_get h.instances 0))).overlaps refl refl e
  where
    is_none : (n : ℕ) → (n == 0) ≡ true → n ≡ 0
    is_none n g = grind (arith, nat_tests, g)

    go : (a z : Bool) → (h.loops == 0) ≡ a → (homes (row_form (slice_get h.instances 0))).overlaps ≡ z
        → (if a && z then Some h.instances else None) ≡ Some rows → IsOneCall homes (x ∷ []) rows
    go false z g f k = cc
    go true false g f k = cc
    go true true g f k =
        let same : h.instances ≡ rows = ap rows_or k in
        record {
          one = ap (λ (y : Statement). y ∷ []) (c.call h refl (is_none h.loops g) ∙ ap (b.Call true) same);
          overlaps = subst (λ (ts : List CallInstance). (homes (row_form (slice_get ts 0))).overlaps ≡ true) same f;
        }

-- Where a loop over statements with these chains is taken, it is the loop of its one call.
pub taken : {X : Type 0} (homes : ℕ → Homes) (m : LoopKind) (spread : Option SpreadRule) {xs : List Statement}
    {hs : List (Option (Chain X))} → AreChains xs hs → (p : Pipe) → pipe_of homes m spread hs ≡ Some p
    → IsTaken homes m spread xs p
taken homes m spread {xs = xs} {hs = hs} c p e =
    let of_it = parts_of (lanes_of m spread) (overlapped_in homes hs) p e in
    let one = one_call homes c p.rows of_it.1 in
    record { one = one.one; lanes = of_it.0; overlaps = one.overlaps }

-- that loop, among those of the statement
abbrev pub loop_of : LoopKind → (counts starts : List ℕ) → Pipe → CallLoop
loop_of m counts starts p = record { kind = m; rows = p.rows; counts = counts; starts = starts }

-- what is asked of it holds of a taken loop
pub piped : (homes : ℕ → Homes) (m : LoopKind) (spread : Option SpreadRule) (xs : List Statement) (p : Pipe)
    → IsTaken homes m spread xs p → (counts starts : List ℕ)
    → LoopsStand homes (loop_round m counts starts (map call_loops xs)) → IsPiped (loop_of m counts starts p)
piped homes m spread xs p h counts starts stands =
    (subst (λ (ls : List CallLoops). LoopsStand homes (loop_round m counts starts ls))
    (ap (map call_loops) h.one ∙ ap (λ (l : CallLoops). l ∷ []) (loops_call true p.rows)) stands).0 h.overlaps

-- of the loops of a map's statement
pub map_loops : (homes : ℕ → Homes) (place : Place) (m : LoopKind) (counts starts : List ℕ) (xs : List Statement)
    → LoopsStand homes (call_loops (b.Map place m counts starts xs)).loops
    → LoopsStand homes (loop_round m counts starts (map call_loops xs))
    × LoopsStand homes (all_loops (map call_loops xs))
map_loops homes place m counts starts xs h =
    let both = subst (λ (l : CallLoops). LoopsStand homes l.loops) (loops_map place m counts starts xs) h in (
      loops_left homes (loop_round m counts starts (map call_loops xs)) (all_loops (map call_loops xs)) both,
      loops_right homes (loop_round m counts starts (map call_loops xs)) (all_loops (map call_loops xs)) both,
    )

-- ---- the chains of placed statements

module _ (bodies : ℕ → FormBody) (homes : ℕ → Homes) (callee : ℕ → Placed) (rule : SpreadRule) where
  abbrev Chained : Statement → Type 0
  Chained x = IsChain x (statement_placed bodies homes callee rule x).chain

  chained_step : (y : Statement-F ((x : Statement) × Chained x))
      → Chained (roll-Statement (map-Statement ((x : Statement) × Chained x) Statement (λ p. p.0) y))
  chained_step (Statement-F.Call lower instances) = subst Chained (sym (b.rolls-Call lower instances))
      (subst (λ (p : PlacedPart). IsChain (b.Call lower instances) p.chain)
      (sym (part_call bodies homes callee rule lower instances)) (chain_of_call lower instances))
  chained_step (Statement-F.Map place m counts starts xs) =
      let ys = map (λ (q : (x : Statement) × Chained x). q.0) xs in
      subst Chained (sym (b.rolls-Map place m counts starts ys))
      (subst (λ (p : PlacedPart). IsChain (b.Map place m counts starts ys) p.chain)
      (sym (part_map bodies homes callee rule place m counts starts ys))
      (chain_of_map first_of (b.Map place m counts starts ys) m starts
      (chains (map (statement_placed bodies homes callee rule) ys))))

  pub chain_placed : (x : Statement) → IsChain x (statement_placed bodies homes callee rule x).chain
  chain_placed = ind-Statement Chained (λ x y is. subst (λ z. Chained (roll-Statement z)) is (chained_step y))

  pub chains_placed : (xs : List Statement) → AreChains xs (chains (map (statement_placed bodies homes callee rule) xs))
  chains_placed [] = no_chains
  chains_placed (x ∷ xs) = more_chains (chain_placed x) (chains_placed xs)

-- ---- where nothing overlaps

no_rows : (o : Option (Option SpreadRule)) → pipe_by o None ≡ None
no_rows None = refl
no_rows (Some spread) = refl

module _ {X : Type 0} (homes : ℕ → Homes) (free : NonePiped homes) where
  none_overlapped : (h : Option (Chain X)) → overlapped homes h ≡ None
  none_overlapped None = refl
  none_overlapped (Some h) = go (h.loops == 0) (homes (chain_form (Some h))).overlaps (free (chain_form (Some h)))
    where
      go : (a b : Bool) → b ≡ false → (if a && b then Some h.instances else None) ≡ None
      go true true e = cc
      go true false e = refl
      go false b e = refl

  none_in : (hs : List (Option (Chain X))) → overlapped_in homes hs ≡ None
  none_in [] = refl
  none_in (h ∷ []) = none_overlapped h
  none_in (h ∷ k ∷ hs) = refl

  pub none_piped : (m : LoopKind) (spread : Option SpreadRule) (hs : List (Option (Chain X)))
      → pipe_of homes m spread hs ≡ None
  none_piped m spread hs = ap (pipe_by (lanes_of m spread)) (none_in hs) ∙ no_rows (lanes_of m spread)

stands_so : (homes : ℕ → Homes) → NonePiped homes → (l : CallLoop) → LoopStands homes l
stands_so homes free l e = let f = free (row_form (slice_get l.rows 0)) in absurd (cc)

all_stand : (homes : ℕ → Homes) → NonePiped homes → (ls : List CallLoop) → LoopsStand homes ls
all_stand homes free [] = tt
all_stand homes free (l ∷ ls) = (stands_so homes free l, all_stand homes free ls)

pub none_stand : (bodies : ℕ → FormBody) (homes : ℕ → Homes) → NonePiped homes → PipesStand bodies homes
none_stand bodies homes free = record { each = λ f. all_stand homes free (call_loops_of (bodies f).body) }
