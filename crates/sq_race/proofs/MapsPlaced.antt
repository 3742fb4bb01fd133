-- The maps of a variant stand at tokens of the text, in the order of their numbers.
use Rattle.std.proofs.Common.{◌≡◌, ℕ, zero, suc, ◌+◌, List, [], ◌∷◌, map, slice_get, Some, sym, subst}
use Rattle.sq_text.specs.declared.place.Place.{Place}
use Rattle.sq_text.specs.declared.place.Span.{Span}
use Rattle.sq_ast.specs.declared.keyword.Keyword.TheVariants as k
use Rattle.sq_ast.specs.declared.stmt.Call.{Call as CallTree}
use Rattle.sq_ast.specs.declared.stmt.Range.{Range}
use Rattle.sq_ast.specs.declared.stmt.MapKind.{MapKind}
use Rattle.sq_ast.specs.declared.stmt.MapKind.TheVariants.{Par, Seq, Reduce}
use Rattle.sq_ast.specs.declared.stmt.Stmt as stmt
use Rattle.sq_ast.specs.declared.stmt.Stmt.TheVariants as s
use Rattle.sq_ast.specs.declared.program.Variant.{Variant}
use Rattle.sq_ast.specs.Symbols.{Symbol, Key, place_at}
use Rattle.sq_ast.specs.Grammar.{Item, Value, Stmt, Task, Named, Leveled, at, Count, Phrase, One, Many, Otherwise, Derives, no_more, one_more, a_void_task, a_task, an_inner, a_leaf, a_call_stmt, a_map, a_reduction}
use Rattle.sq_race.specs.Table.{Portion, portion, maps_of, calls_of, row_of, with_row, map_maps}
use Rattle.sq_race.specs.Race.{maps_by}
use Rattle.sq_race.specs.declared.map.Map.{Map}
use Rattle.sq_race.proofs.Opened.{portion_call, portion_map}
use Rattle.sq_race.proofs.Ends.{Ends, whole, past, both, past_two, past_six, ends}
use Rattle.sq_race.proofs.Rising.{Among, none, skip, keep}

abbrev pub places : List Map → List Place
places ms = map (λ m. m.place) ms

-- where tokens stand
abbrev pub spots : List Leveled → List Place
spots ts = map (λ t. place_at t.kind) ts

-- the maps stand at some of the tokens, in their order
abbrev pub Stand : List Map → List Leveled → Type 0
Stand ms ts = Among (places ms) (spots ts)

earlier : {i l : List Leveled} → Ends i l → (ms : List Map) → Stand ms l → Stand ms i
earlier whole ms h = h
earlier (past e) ms h = skip (earlier e ms h)

-- A part's maps stand at its tokens: before maps that stand at what is left, they and these stand at the whole.
record Puts (maps : ℕ → ℕ → List Map → List Map) (i l : List Leveled) : Type 0 where
  all : (depth first : ℕ) (later : List Map) → Stand later l → Stand (maps depth first later) i

-- the row of a map stands at its keyword
row_stands : (t : Symbol) (d : ℕ) (kind : MapKind) (body : List Portion) (depth : ℕ) (calls : Span) (ms : List Map) (i : List Leveled)
    → Stand ms i → Stand (with_row (row_of (place_at t) kind body depth calls) ms) (at t d ∷ i)
row_stands t d Par body depth calls ms i h = keep h
row_stands t d Seq body depth calls ms i h = skip h
row_stands t d (Reduce op array) body depth calls ms i h = keep h

-- its keyword, its ranges, its statements, and its end
map_puts : (t : Symbol) (d : ℕ) (kind : MapKind) (body : List Portion) {i j l m : List Leveled}
    → Ends i j → Puts (maps_of body) j l → Ends l m → Puts (map_maps (place_at t) kind body) (at t d ∷ i) m
map_puts t d kind body {i = i} before inside after = record {
  all = λ depth first later h.
      let list = maps_of body (depth + 1) first later in
      let calls : Span = record { lo = first; hi = first + calls_of body } in
      row_stands t d kind body depth calls list i (earlier before list (inside.all (depth + 1) first later (earlier after later h)));
}

-- ---- parts

-- a task's own maps stand at its tokens
abbrev Part : (x : Item) → Value x → List Leveled → List Leveled → Type 0
Part Stmt x i l = Puts (portion x).maps i l
Part Task v i l = Stand (maps_by (Some v)) i
Part Named v i l = Stand (maps_by (Some v)) i
Part _ v i l = Unit {0}

abbrev Parts : (x : Item) → List (Value x) → List Leveled → List Leveled → Type 0
Parts Stmt xs i l = Puts (maps_of (map portion xs)) i l
Parts Task vs i l = (n : ℕ) (v : Variant) → slice_get vs n ≡ Some v → Stand (maps_by (Some v)) i
Parts _ vs i l = Unit {0}

abbrev Placed : Phrase → List Leveled → List Leveled → Type 0
Placed (One x d v) i l = Part x v i l
Placed (Many x count d vs) i l = Parts x vs i l
Placed (Otherwise d xs) i l = Unit {0}

no_parts : (x : Item) (i : List Leveled) → Parts x [] i i
no_parts Stmt i = record { all = λ depth first later h. h }
no_parts Task i = λ n v is. absurd (cc)
no_parts _ i = tt

statement_first : (x : stmt.Stmt) (xs : List stmt.Stmt) {i j l : List Leveled}
    → Puts (portion x).maps i j → Puts (maps_of (map portion xs)) j l → Puts (maps_of (map portion (x ∷ xs))) i l
statement_first x xs one more = record {
  all = λ depth first later h.
      let next = first + (portion x).calls in
      one.all depth first (maps_of (map portion xs) depth next later) (more.all depth next later h);
}

task_first : (v : Variant) (vs : List Variant) {i j : List Leveled} → Ends i j → Stand (maps_by (Some v)) i
    → ((n : ℕ) (w : Variant) → slice_get vs n ≡ Some w → Stand (maps_by (Some w)) j)
    → (n : ℕ) (w : Variant) → slice_get (v ∷ vs) n ≡ Some w → Stand (maps_by (Some w)) i
task_first v vs {i = i} e one more zero w is = let same : v ≡ w = cc in subst (λ x. Stand (maps_by (Some x)) i) same one
task_first v vs e one more (suc n) w is = earlier e (maps_by (Some w)) (more n w is)

more_parts : (x : Item) (v : Value x) (vs : List (Value x)) {i j : List Leveled} (l : List Leveled)
    → Ends i j → Part x v i j → Parts x vs j l → Parts x (v ∷ vs) i l
more_parts Stmt x xs l e one more = statement_first x xs one more
more_parts Task v vs l e one more = task_first v vs e one more
more_parts _ v vs l e one more = tt

call_puts : (c : CallTree) {i l : List Leveled} → Ends i l → Puts (portion (s.Call c)).maps i l
call_puts c {i = i} {l = l} e =
    subst (λ (p : Portion). Puts p.maps i l) (sym (portion_call c)) (record { all = λ depth first later h. earlier e later h })

a_map_puts : (t : Symbol) (d : ℕ) (kind : MapKind) (rs : List Range) (xs : List stmt.Stmt) {i j l m : List Leveled}
    → Ends i j → Puts (maps_of (map portion xs)) j l → Ends l m → Puts (portion (s.Map (place_at t) kind rs xs)).maps (at t d ∷ i) m
a_map_puts t d kind rs xs {i = i} {m = m} before inside after =
    subst (λ (p : Portion). Puts p.maps (at t d ∷ i) m) (sym (portion_map (place_at t) kind rs xs)) (map_puts t d kind (map portion xs) before inside after)

-- ---- the induction

placed : {P : Phrase} {i l : List Leveled} → Derives P i l → Placed P i l
placed (no_more {x = x} {i = i}) = no_parts x i
placed (one_more {x = x} {v = v} {vs = vs} {l = l} f r t) = more_parts x v vs l (ends r) (placed r) (placed t)
placed (a_void_task r) = skip (placed r)
placed (a_task r) = placed r
placed (an_inner r t u) = skip (skip (skip (skip (earlier (ends r) _ (skip (earlier (ends t) _ ((placed u).all 0 0 [] none)))))))
placed (a_leaf r t u) = none
placed (a_call_stmt {x = x} r) = call_puts x (both (ends r) (past whole))
placed (a_map {d = d} {t = t} {kind = kind} {rs = rs} {xs = xs} e r u) =
    a_map_puts t d kind rs xs (both (ends r) (past whole)) (placed u) (past whole)
placed (a_reduction {d = d} {op = op} {array = array} {rs = rs} {x = x} {p = p} r e u) =
    let one = statement_first (s.Call x) [] (call_puts x (ends u)) (no_parts Stmt _) in
    a_map_puts (Key p k.Mapreduce) d (Reduce op array) rs (s.Call x ∷ []) (both (ends r) (past (past_six whole))) one (past_two whole)
placed _ = tt

-- the maps of each variant stand at tokens of the program
pub maps_placed : {ts l : List Leveled} (tasks : List Variant) (count : Count) (d : ℕ) → Derives (Many Task count d tasks) ts l
    → (n : ℕ) (v : Variant) → slice_get tasks n ≡ Some v → Stand (maps_by (Some v)) ts
maps_placed tasks count d text = placed text
