-- Chains: lower calls that are all that stands in so many plain loops, and the rows of their first iterations.
use Rattle.std.proofs.Common.{◌≡◌, ℕ, suc, ◌+◌, ◌<◌, ◌≤◌, pos, Bool, true, false, not, ◌||◌, List, [], ◌∷◌}
use Rattle.std.proofs.Common.{◌++◌, map, length, get_or, slice_get, Option, Some, None, refl, sym, ap, subst, ◌∙◌, arith}
use Rattle.std.proofs.Common.{inl, inr}
use Rattle.std.proofs.lemmas.Bool.Decides.{nat_tests}
use Rattle.std.proofs.Math.Path.{fun_ext}
use Rattle.sq_num.specs.declared.Elem.TheVariants.{Long}
use Rattle.sq_num.specs.Elements.{IsValue}
use Rattle.sq_text.specs.declared.place.Place.{Place}
use Rattle.sq_text.specs.declared.spread.SpreadRule.{SpreadRule}
use Rattle.sq_ir.specs.Written.{Setting}
use Rattle.sq_ir.specs.declared.num.Num.{Num}
use Rattle.sq_ir.specs.declared.num.Num.TheVariants as n
use Rattle.sq_ir.specs.declared.term.Term.{Term}
use Rattle.sq_spec.specs.declared.statement.LoopKind.{LoopKind}
use Rattle.sq_spec.specs.declared.statement.LoopKind.TheVariants as loop_kind
use Rattle.sq_spec.specs.declared.statement.CallInstance.{CallInstance}
use Rattle.sq_spec.specs.declared.statement.Statement.{Statement, roll-Statement}
use Rattle.sq_spec.specs.declared.statement.Statement.TheVariants as b
use Rattle.sq_spec.specs.declared.statement.Statement.TheOpen.{Statement-F}
use Rattle.sq_spec.specs.declared.statement.Statement.TheFolds.{ind-Statement, map-Statement, fold-roll-Statement}
use Rattle.sq_spec.specs.declared.statement.Statement.TheFolds.{rec-roll-Statement}
use Rattle.sq_spec.specs.declared.body.FormBody.{FormBody}
use Rattle.sq_placed.specs.declared.home.Homes.{Homes}
use Rattle.sq_placed.specs.Tables.{Chain, call_chain, chain_of, one_more}
use Rattle.sq_term.specs.declared.context.Context.{Context}
use Rattle.sq_term.specs.Terms.{numbers, TermPart, any_lower, any_same, chains, statement_term, first_num}
use Rattle.sq_term.specs.Stands.{IsNumber, calls_in_rows, all_calls, calls_in, AreLevel}
use Rattle.sq_term.proofs.Numbers.{picked}
use Rattle.sq_term.proofs.Holds.{level_first, or_none}
use Rattle.sq_term.proofs.Opened.{built_call, built_map, calls_call, calls_map}
use Rattle.sq_term_laws.specs.Fits.{Bounds, AskedOfStatement, HaveCounts, all_parts, tabled_step, Tabled, Has}
use Rattle.sq_term_laws.specs.Leaves.{Left, HasTurns, AskedInLoops, each_in, loops_in, leaves_step, Leaves, joined_calls}
use Rattle.sq_term_laws.specs.Leaves.{by_call_step, by_call}
use Rattle.sq_term_laws.specs.Roomy.{joined_rows, reached_step, reached_in}
use Rattle.sq_term_laws.proofs.Fine.{pick_has}

-- ---- the equations of what is asked of statements, and of their rows

parts_same : {X : Type 0} (v : X → Statement) (k : Statement → AskedOfStatement) (xs : List X)
    → all_parts (λ p. k (v p)) xs ≡ all_parts k (map v xs)
parts_same v k [] = refl
parts_same v k (x ∷ xs) = ap (λ (f : AskedOfStatement). λ n. k (v x) n × f n) (parts_same v k xs)

module _ (most : Bounds) (last level : ℕ) where
  natural : (X : Type 0) (v : X → Statement) (k : Statement → AskedOfStatement) (x : Statement-F X)
      → tabled_step most last level X v (λ p. k (v p)) x
      ≡ tabled_step most last level Statement (λ y. y) k (map-Statement X Statement v x)
  natural X v k (Statement-F.Call lower times) = refl
  natural X v k (Statement-F.Map place m counts starts parts) = ap (λ (f : AskedOfStatement). λ n.
      HaveCounts counts n × ((k t : ℕ) → k < n → t < get_or counts k 0 → k < length starts) × (inner : ℕ)
      × (inner ≤ most.uses)
      × ((k t : ℕ) → k < n → t < get_or counts k 0 → get_or starts k 0 + t < inner) × f inner) (parts_same v k parts)

  abbrev step : Statement-F Statement → AskedOfStatement
  step = tabled_step most last level Statement (λ y. y) (Tabled most last level)

  pub tabled_call : (lower : Bool) (times : List CallInstance) → Tabled most last level (b.Call lower times)
      ≡ step (Statement-F.Call lower times)
  tabled_call lower times = ap (Tabled most last level) (sym (b.rolls-Call lower times))
      ∙ rec-roll-Statement AskedOfStatement (tabled_step most last level) natural (Statement-F.Call lower times)

  pub tabled_map : (place : Place) (m : LoopKind) (counts starts : List ℕ) (parts : List Statement)
      → Tabled most last level (b.Map place m counts starts parts) ≡ step (Statement-F.Map place m counts starts parts)
  tabled_map place m counts starts parts = ap (Tabled most last level) (sym (b.rolls-Map place m counts starts parts))
      ∙ rec-roll-Statement AskedOfStatement (tabled_step most last level) natural
      (Statement-F.Map place m counts starts parts)

each_same : {X : Type 0} (v : X → Statement) (k : Statement → AskedInLoops) (xs : List X)
    → each_in (λ p. k (v p)) xs ≡ each_in k (map v xs)
each_same v k [] = refl
each_same v k (x ∷ xs) = ap (λ (f : AskedInLoops). λ outer. k (v x) outer × f outer) (each_same v k xs)

loops_same : {X : Type 0} (v : X → Statement) (m : LoopKind) (xs : List X) (counts : List ℕ) (outer : List (List ℕ))
    → loops_in m xs counts outer ≡ loops_in m (map v xs) counts outer
loops_same v loop_kind.Sequential [] counts outer = refl
loops_same v loop_kind.Sequential (x ∷ []) counts outer = refl
loops_same v loop_kind.Sequential (x ∷ y ∷ xs) counts outer = refl
loops_same v loop_kind.Parallel xs counts outer = refl
loops_same v (loop_kind.Reduction r) xs counts outer = refl

module _ (left : Left) where
  leaving : (X : Type 0) (v : X → Statement) (k : Statement → AskedInLoops) (x : Statement-F X)
      → leaves_step left X v (λ p. k (v p)) x
      ≡ leaves_step left Statement (λ y. y) k (map-Statement X Statement v x)
  leaving X v k (Statement-F.Call lower times) = refl
  leaving X v k (Statement-F.Map place m counts starts parts) =
      ap (λ (f : AskedInLoops). λ outer. f (loops_in m parts counts outer)) (each_same v k parts)
      ∙ ap (λ (g : List (List ℕ) → List (List ℕ)). λ outer. each_in k (map v parts) (g outer))
      (fun_ext (loops_same v m parts counts))

  abbrev in_loops : Statement-F Statement → AskedInLoops
  in_loops = leaves_step left Statement (λ y. y) (Leaves left)

  pub leaves_call : (lower : Bool) (times : List CallInstance) → Leaves left (b.Call lower times)
      ≡ in_loops (Statement-F.Call lower times)
  leaves_call lower times = ap (Leaves left) (sym (b.rolls-Call lower times))
      ∙ rec-roll-Statement AskedInLoops (leaves_step left) leaving (Statement-F.Call lower times)

  pub leaves_map : (place : Place) (m : LoopKind) (counts starts : List ℕ) (parts : List Statement)
      → Leaves left (b.Map place m counts starts parts) ≡ in_loops (Statement-F.Map place m counts starts parts)
  leaves_map place m counts starts parts = ap (Leaves left) (sym (b.rolls-Map place m counts starts parts))
      ∙ rec-roll-Statement AskedInLoops (leaves_step left) leaving (Statement-F.Map place m counts starts parts)

pub reached_call : (lower : Bool) (times : List CallInstance) → reached_in (b.Call lower times) ≡ times
reached_call lower times = ap reached_in (sym (b.rolls-Call lower times))
    ∙ fold-roll-Statement (List CallInstance) reached_step (Statement-F.Call lower times)

pub reached_map : (place : Place) (m : LoopKind) (counts starts : List ℕ) (parts : List Statement)
    → reached_in (b.Map place m counts starts parts) ≡ joined_rows (map reached_in parts)
reached_map place m counts starts parts = ap reached_in (sym (b.rolls-Map place m counts starts parts))
    ∙ fold-roll-Statement (List CallInstance) reached_step (Statement-F.Map place m counts starts parts)

pub by_call_call : (lower : Bool) (times : List CallInstance) → by_call (b.Call lower times) ≡ times ∷ []
by_call_call lower times = ap by_call (sym (b.rolls-Call lower times))
    ∙ fold-roll-Statement (List (List CallInstance)) by_call_step (Statement-F.Call lower times)

pub by_call_map : (place : Place) (m : LoopKind) (counts starts : List ℕ) (parts : List Statement)
    → by_call (b.Map place m counts starts parts) ≡ joined_calls (map by_call parts)
by_call_map place m counts starts parts = ap by_call (sym (b.rolls-Map place m counts starts parts))
    ∙ fold-roll-Statement (List (List CallInstance)) by_call_step (Statement-F.Map place m counts starts parts)

-- ---- chains: no same-level call, a lower one, and the level of their rows

abbrev pub Alone : (level : ℕ → ℕ) → (at : ℕ) → Option (Chain Num) → (lower same : Bool) → List (Bool × ℕ) → Type 0
Alone level at None lower same calls = Unit {0}
Alone level at (Some h) lower same calls = (lower ≡ true) × (same ≡ false)
    × (AreLevel level at calls → AreLevel level at (calls_in_rows true h.instances))

call_alone : (level : ℕ → ℕ) (at : ℕ) (lower : Bool) (times : List CallInstance)
    → Alone level at (call_chain lower times) lower (not lower) (calls_in_rows lower times)
call_alone level at true times = (refl, refl, λ d. d)
call_alone level at false times = tt

or_true : (a : Bool) → a ≡ true → (a || false) ≡ true
or_true true h = refl
or_true false h = cc

one_alone : (level : ℕ → ℕ) (at : ℕ) (starts : List ℕ) (o : Option (Chain Num)) (lower same : Bool)
    (calls : List (Bool × ℕ)) → Alone level at o lower same calls
    → Alone level at (one_more first_num starts o) (lower || false) (same || false) (calls ++ [])
one_alone level at starts None lower same calls h = tt
one_alone level at starts (Some u) lower same calls h
    = (or_true lower h.0, or_none same h.1, λ d. h.2 (level_first level at calls [] d))

module _ (level : ℕ → ℕ) (at : ℕ) (bodies : ℕ → FormBody) (homes : ℕ → Homes) (made : ℕ → Context → Term)
    (rule : SpreadRule) where
  abbrev built : Statement → TermPart
  built = statement_term bodies homes made rule

  abbrev IsAlone : Statement → Type 0
  IsAlone x = Alone level at (built x).chain (built x).lower (built x).same (calls_in x)

  abbrev Known : Type 0
  Known = (x : Statement) × IsAlone x

  abbrev these : List Known → List Statement
  these = map (λ (q : Known). q.0)

  alones : (m : LoopKind) (starts : List ℕ) (xs : List Known)
      → Alone level at (chain_of first_num m starts (chains (map built (these xs)))) (any_lower (map built (these xs)))
      (any_same (map built (these xs))) (all_calls (map calls_in (these xs)))
  alones loop_kind.Sequential starts [] = tt
  alones loop_kind.Sequential starts (x ∷ [])
      = one_alone level at starts (built x.0).chain (built x.0).lower (built x.0).same (calls_in x.0) x.1
  alones loop_kind.Sequential starts (x ∷ y ∷ xs) = tt
  alones loop_kind.Parallel starts xs = tt
  alones (loop_kind.Reduction r) starts xs = tt

  alone_step : (y : Statement-F Known) → IsAlone (roll-Statement (map-Statement Known Statement (λ q. q.0) y))
  alone_step (Statement-F.Call lower times) = subst IsAlone (sym (b.rolls-Call lower times))
      (subst (λ (p : TermPart). Alone level at p.chain p.lower p.same (calls_in (b.Call lower times)))
      (sym (built_call bodies homes made rule lower times))
      (subst (Alone level at (call_chain lower times) lower (not lower)) (sym (calls_call lower times))
      (call_alone level at lower times)))
  alone_step (Statement-F.Map place m counts starts xs) =
      subst IsAlone (sym (b.rolls-Map place m counts starts (these xs)))
      (subst (λ (p : TermPart). Alone level at p.chain p.lower p.same (calls_in (b.Map place m counts starts (these xs))))
      (sym (built_map bodies homes made rule place m counts starts (these xs)))
      (subst (Alone level at (chain_of first_num m starts (chains (map built (these xs))))
      (any_lower (map built (these xs))) (any_same (map built (these xs))))
      (sym (calls_map place m counts starts (these xs))) (alones m starts xs)))

  pub alone_in : (x : Statement) → IsAlone x
  alone_in = ind-Statement IsAlone (λ x y is. subst (λ z. IsAlone (roll-Statement z)) is (alone_step y))

  -- of a map
  pub map_alone : (place : Place) (m : LoopKind) (counts starts : List ℕ) (parts : List Statement)
      → Alone level at (chain_of first_num m starts (chains (map built parts))) (any_lower (map built parts))
      (any_same (map built parts)) (calls_in (b.Map place m counts starts parts))
  map_alone place m counts starts parts =
      subst (λ (p : TermPart). Alone level at p.chain p.lower p.same (calls_in (b.Map place m counts starts parts)))
      (built_map bodies homes made rule place m counts starts parts) (alone_in (b.Map place m counts starts parts))

-- ---- the row of a chain's first iteration

-- what is begun under this number begins with this row
pub record IsFirst (s : Setting) (turns : List ℕ) (h : Chain Num) (x : Num) : Type 0 where
  pub row : ℕ
  pub number : IsNumber s turns (h.first x) row
  pub has : Has s turns (h.first x)
  pub below : row < length h.instances

-- Of the chain of a statement: its rows are those of the statement, and of one form where an argument leaves a loop;
-- loops round it that an argument leaves have iterations; and each time that it is begun it has a first row.
pub record IsLed (s : Setting) (left : Left) (h : Chain Num) (reached : List CallInstance)
    (calls : List (List CallInstance)) (asked : AskedOfStatement) (leaves : AskedInLoops) : Type 0 where
  pub rows : reached ≡ h.instances
  pub alone : calls ≡ h.instances ∷ []
  pub one : (outer : List (List ℕ)) → leaves outer → (r : CallInstance) → slice_get h.instances 0 ≡ Some r → (i : ℕ)
      → 0 < left r.form i → (k : ℕ) (q : CallInstance) → slice_get h.instances k ≡ Some q → q.form ≡ r.form
  pub turns : (outer : List (List ℕ)) → leaves outer → (r : CallInstance) → slice_get h.instances 0 ≡ Some r
      → (i j : ℕ) → h.loops + j < left r.form i → HasTurns (get_or outer j [])
  pub first : (outer : List (List ℕ)) → leaves outer → (r : CallInstance) → slice_get h.instances 0 ≡ Some r
      → (i : ℕ) → h.loops ≤ left r.form i → (n k : ℕ) → asked n → k < n
      → (turns : List ℕ) (x : Num) → IsNumber s turns x k → Has s turns x → IsFirst s turns h x

module _ (s : Setting) (left : Left) where
  abbrev pub Led : Option (Chain Num) → List CallInstance → List (List CallInstance) → AskedOfStatement → AskedInLoops
      → Type 0
  Led None reached calls asked leaves = Unit {0}
  Led (Some h) reached calls asked leaves = IsLed s left h reached calls asked leaves

  module _ (most : Bounds) (fits : (k : ℕ) → k ≤ most.uses → IsValue Long (pos k)) (last level : ℕ) where
    call_led : (lower : Bool) (times : List CallInstance)
        → Led (call_chain lower times) times (times ∷ [])
        (tabled_step most last level Statement (λ y. y) (Tabled most last level) (Statement-F.Call lower times))
        (leaves_step left Statement (λ y. y) (Leaves left) (Statement-F.Call lower times))
    call_led false times = tt
    call_led true times = record {
      rows = refl;
      alone = refl;
      one = λ outer l r e i. (l 0 r e).one i;
      turns = λ outer l r e i j m. (l 0 r e).turns i j (omega (arith, m));
      first = λ outer l r e i m n k a g turns x number has. let many = a.0 in record {
        row = k;
        number = number;
        has = has;
        below = omega (arith, g, many);
      };
    }

    -- how often a loop has iterations
    some_turns : (counts : List ℕ) (n k : ℕ) → HasTurns counts → HaveCounts counts n → k < n → 1 ≤ get_or counts k 0
    some_turns counts n k t (inl z) l = let e = t.some in absurd (grind (arith, nat_tests, z, e))
    some_turns counts n k t (inr m) l = t.each k (omega (arith, l, m))

    one_led : (m : LoopKind) (counts starts : List ℕ) (x : Statement) (o : Option (Chain Num))
        → Led o (reached_in x) (by_call x) (Tabled most last level x) (Leaves left x)
        → Led (one_more first_num starts o) (reached_in x ++ []) (by_call x ++ [])
        (λ n. HaveCounts counts n × ((k t : ℕ) → k < n → t < get_or counts k 0 → k < length starts) × (inner : ℕ)
        × (inner ≤ most.uses)
        × ((k t : ℕ) → k < n → t < get_or counts k 0 → get_or starts k 0 + t < inner)
        × all_parts (Tabled most last level) (x ∷ []) inner)
        (λ outer. each_in (Leaves left) (x ∷ []) (counts ∷ outer))
    one_led m counts starts x None h = tt
    one_led m counts starts x (Some u) h = record {
      rows = behind (reached_in x) ∙ h.rows;
      alone = behind (by_call x) ∙ h.alone;
      one = λ outer l. h.one (counts ∷ outer) l.0;
      turns = λ outer l r e i j g. h.turns (counts ∷ outer) l.0 r e i (suc j) (omega (arith, g));
      first = λ outer l r e i g times k a below turns y number has.
          let some = some_turns counts times k (h.turns (counts ∷ outer) l.0 r e i 0 (omega (arith, g))) a.0 below in
          let within = a.1 k 0 below (omega (arith, some)) in
          let sum = a.4 k 0 below (omega (arith, some)) in
          let few = a.3 in
          let its = h.first (counts ∷ outer) l.0 r e i (omega (arith, g)) a.2 (get_or starts k 0) a.5.0
          (omega (arith, sum)) turns (n.Pick (numbers starts) y) (picked s turns starts y k number)
          (record {
            has = λ at nodes.
                pick_has s (record { turns = turns; level = at; nodes = nodes }) starts y k (number.value at nodes)
                (has.has at nodes) within (fits (get_or starts k 0) (omega (arith, sum, few)));
          }) in
          record { row = its.row; number = its.number; has = its.has; below = its.below };
    }
      where
        behind : {A : Type 0} (xs : List A) → xs ++ [] ≡ xs
        behind [] = refl
        behind (y ∷ xs) = ap (λ l. y ∷ l) (behind xs)

    module _ (bodies : ℕ → FormBody) (homes : ℕ → Homes) (made : ℕ → Context → Term) (rule : SpreadRule) where
      abbrev term_of_it : Statement → TermPart
      term_of_it = statement_term bodies homes made rule

      abbrev IsLedBy : Option (Chain Num) → Statement → Type 0
      IsLedBy o x = Led o (reached_in x) (by_call x) (Tabled most last level x) (Leaves left x)

      abbrev IsLedWell : Statement → Type 0
      IsLedWell x = IsLedBy (term_of_it x).chain x

      abbrev KnownLed : Type 0
      KnownLed = (x : Statement) × IsLedWell x

      abbrev those : List KnownLed → List Statement
      those = map (λ (q : KnownLed). q.0)

      map_led : (place : Place) (m : LoopKind) (counts starts : List ℕ) (xs : List KnownLed)
          → Led (chain_of first_num m starts (chains (map term_of_it (those xs))))
          (joined_rows (map reached_in (those xs))) (joined_calls (map by_call (those xs)))
          (tabled_step most last level Statement (λ y. y) (Tabled most last level)
          (Statement-F.Map place m counts starts (those xs)))
          (leaves_step left Statement (λ y. y) (Leaves left) (Statement-F.Map place m counts starts (those xs)))
      map_led place loop_kind.Sequential counts starts [] = tt
      map_led place loop_kind.Sequential counts starts (x ∷ []) =
          one_led loop_kind.Sequential counts starts x.0 (term_of_it x.0).chain x.1
      map_led place loop_kind.Sequential counts starts (x ∷ y ∷ xs) = tt
      map_led place loop_kind.Parallel counts starts xs = tt
      map_led place (loop_kind.Reduction r) counts starts xs = tt

      led_step : (y : Statement-F KnownLed) → IsLedWell (roll-Statement (map-Statement KnownLed Statement (λ q. q.0) y))
      led_step (Statement-F.Call lower times) =
          subst IsLedWell (sym (b.rolls-Call lower times))
          (subst (λ (p : TermPart). IsLedBy p.chain (b.Call lower times))
          (sym (built_call bodies homes made rule lower times))
          (subst (λ (rows : List CallInstance). Led (call_chain lower times) rows (by_call (b.Call lower times))
          (Tabled most last level (b.Call lower times)) (Leaves left (b.Call lower times))) (sym (reached_call lower times))
          (subst (λ (rows : List (List CallInstance)). Led (call_chain lower times) times rows
          (Tabled most last level (b.Call lower times)) (Leaves left (b.Call lower times))) (sym (by_call_call lower times))
          (subst (λ (a : AskedOfStatement). Led (call_chain lower times) times (times ∷ []) a
          (Leaves left (b.Call lower times))) (sym (tabled_call most last level lower times))
          (subst (λ (l : AskedInLoops). Led (call_chain lower times) times (times ∷ [])
          (tabled_step most last level Statement (λ y. y) (Tabled most last level) (Statement-F.Call lower times)) l)
          (sym (leaves_call left lower times)) (call_led lower times))))))
      led_step (Statement-F.Map place m counts starts xs) =
          let x = b.Map place m counts starts (those xs) in
          let o = chain_of first_num m starts (chains (map term_of_it (those xs))) in
          let rows = joined_rows (map reached_in (those xs)) in
          let calls = joined_calls (map by_call (those xs)) in
          subst IsLedWell (sym (b.rolls-Map place m counts starts (those xs)))
          (subst (λ (p : TermPart). IsLedBy p.chain x)
          (sym (built_map bodies homes made rule place m counts starts (those xs)))
          (subst (λ (l : List CallInstance). Led o l (by_call x) (Tabled most last level x) (Leaves left x))
          (sym (reached_map place m counts starts (those xs)))
          (subst (λ (l : List (List CallInstance)). Led o rows l (Tabled most last level x) (Leaves left x))
          (sym (by_call_map place m counts starts (those xs)))
          (subst (λ (a : AskedOfStatement). Led o rows calls a (Leaves left x))
          (sym (tabled_map most last level place m counts starts (those xs)))
          (subst (λ (l : AskedInLoops). Led o rows calls
          (tabled_step most last level Statement (λ y. y) (Tabled most last level)
          (Statement-F.Map place m counts starts (those xs))) l)
          (sym (leaves_map left place m counts starts (those xs))) (map_led place m counts starts xs))))))

      led_in : (x : Statement) → IsLedWell x
      led_in = ind-Statement IsLedWell (λ x y is. subst (λ z. IsLedWell (roll-Statement z)) is (led_step y))

      -- of a map
      pub map_is_led : (place : Place) (m : LoopKind) (counts starts : List ℕ) (parts : List Statement)
          → IsLedBy (chain_of first_num m starts (chains (map term_of_it parts))) (b.Map place m counts starts parts)
      map_is_led place m counts starts parts =
          subst (λ (p : TermPart). IsLedBy p.chain (b.Map place m counts starts parts))
          (built_map bodies homes made rule place m counts starts parts) (led_in (b.Map place m counts starts parts))
