-- The paths of leaf calls are short: calls whose path is longer, or has a greater number, count nothing.
use Rattle.std.proofs.Common.{◌≡◌, ℕ, zero, suc, ◌+◌, ◌<◌, ◌≤◌, ◌^◌, Bool, true, false, List, [], ◌∷◌, ◌++◌, map}
use Rattle.std.proofs.Common.{length, get_or, slice_get, Option, Some, None, refl, sym, ap, subst, ◌∙◌, arith, All}
use Rattle.std.proofs.Common.{nat_lt}
use Rattle.std.proofs.Common.{ltb-true, lt-ltb}
use Rattle.sq_text.specs.declared.place.Place.{Place}
use Rattle.sq_ir.specs.Tree.{Skip, Act, Stuck, Seq, Par, Within}
use Rattle.sq_ir.specs.Unordered.{AllEvents}
use Rattle.sq_ir.specs.Events.{Event, Copy, Fill, Accumulate, Leaf}
use Rattle.sq_ir.specs.Written.{PlanTree}
use Rattle.sq_spec.specs.declared.statement.LoopKind.{LoopKind}
use Rattle.sq_spec.specs.declared.statement.CallInstance.{CallInstance}
use Rattle.sq_spec.specs.declared.statement.Statement.{Statement, roll-Statement}
use Rattle.sq_spec.specs.declared.statement.Statement.TheVariants as b
use Rattle.sq_spec.specs.declared.statement.Statement.TheOpen.{Statement-F}
use Rattle.sq_spec.specs.declared.statement.Statement.TheFolds.{ind-Statement, map-Statement, fold-roll-Statement}
use Rattle.sq_spec.specs.declared.body.Body.{Body}
use Rattle.sq_spec.specs.declared.body.Body.TheVariants as body
use Rattle.sq_spec.specs.declared.body.FormBody.{FormBody}
use Rattle.sq_cells.specs.Leaves.{sum_below}
use Rattle.sq_cells.specs.Alike.{Weight, event_count, leaf_count}
use Rattle.sq_program_laws.specs.TermLaws.Fits.{Bounds, AskedOfStatement, HaveCounts, all_parts, Tabled, TabledBody}
use Rattle.sq_program_laws.proofs.TermLaws.Chains.{tabled_map}
use Rattle.sq_placed.specs.Tables.{entry_placed}
use Rattle.sq_program_laws.specs.PlanLaws.Entry.{plan_tree}
use Rattle.sq_program_laws.proofs.PlanLaws.LeafCalls.{plans_count}
use Rattle.sq_program_laws.specs.LeafCalls.{FormWeight, row_calls, all_calls, calls_step, statement_calls, body_calls}
use Rattle.sq_program_laws.specs.LeafCalls.{form_calls}
use Rattle.sq_program_laws.proofs.LeafCalls.{calls_are_of_tables}
use Rattle.sq_draft_laws.specs.Paths.{Nested, all_nested, nested_step, nested_in, nested_of, PathsFit}
use Rattle.sq_draft_laws.specs.Laws.{HasPath, PathsAreShort}
use Rattle.sq_draft_laws.proofs.Every.{Every, every_append, every_left, every_right, every_at, every_by, every_all}

-- ---- how much too long a path is

abbrev past : Bool → ℕ
past true = 0
past false = 1

abbrev great : (word : ℕ) → List ℕ → ℕ
great word [] = 0
great word (k ∷ ks) = past (nat_lt k word) + great word ks

abbrev excess : (word : ℕ) → Weight
excess word code path = past (nat_lt (length path) 65) + great word path

is_below : (k n : ℕ) → past (nat_lt k n) ≡ 0 → k < n
is_below k n e = go (nat_lt k n) refl e
  where
    go : (b : Bool) → nat_lt k n ≡ b → past b ≡ 0 → k < n
    go true f g = ltb-true k n f
    go false f g = absurd (omega (arith, g))

below_is : (k n : ℕ) → k < n → past (nat_lt k n) ≡ 0
below_is k n l = ap past (lt-ltb k n l)

small : (word : ℕ) (path : List ℕ) → great word path ≡ 0 → Every (λ k. k < word) path
small word [] e = tt
small word (k ∷ ks) e =
    let f : past (nat_lt k word) ≡ 0 = omega (arith, e) in
    let g : great word ks ≡ 0 = omega (arith, e) in
    (is_below k word f, small word ks g)

none_great : (word : ℕ) (path : List ℕ) → Every (λ k. k < word) path → great word path ≡ 0
none_great word [] h = refl
none_great word (k ∷ ks) h = let f = below_is k word h.0 in let g = none_great word ks h.1 in omega (arith, f, g)

none_past : (word code : ℕ) (path : List ℕ) → length path ≤ 64 → Every (λ k. k < word) path → excess word code path ≡ 0
none_past word code path l h =
    let f = below_is (length path) 65 (omega (arith, l)) in
    let g = none_great word path h in
    omega (arith, f, g)

-- ---- a tree that counts nothing has no such event

has_path : (e : Event) → event_count (excess (2 ^ 32)) e ≡ 0 → HasPath e
has_path (Copy from to bytes) h = tt
has_path (Fill to elem count v) h = tt
has_path (Accumulate op elem from to count) h = tt
has_path (Leaf node code vs path) h = let p = go (2 ^ 32) h in record { short = p.0; words = p.1 }
  where
    go : (word : ℕ) → excess word code path ≡ 0 → (length path ≤ 64) × All (λ k. k < word) path
    go word e =
        let f : past (nat_lt (length path) 65) ≡ 0 = omega (arith, e) in
        let g : great word path ≡ 0 = omega (arith, e) in
        let l = is_below (length path) 65 f in
        (omega (arith, l), every_all (λ k. k < word) path (small word path g))

left : (m n : ℕ) → m + n ≡ 0 → m ≡ 0
left m n e = omega (arith, e)

right : (m n : ℕ) → m + n ≡ 0 → n ≡ 0
right m n e = omega (arith, e)

none_counted : (t : PlanTree) → leaf_count (excess (2 ^ 32)) t ≡ 0 → AllEvents HasPath t
none_counted Skip h = tt
none_counted (Act e) h = has_path e h
none_counted (Stuck e) h = has_path e h
none_counted (Seq x y) h = (none_counted x (left _ _ h), none_counted y (right _ _ h))
none_counted (Par x y) h = (none_counted x (left _ _ h), none_counted y (right _ _ h))
none_counted (Within s x) h = none_counted x h

-- ---- the equations of calls

calls_call : (callee : FormWeight) (lower : Bool) (instances : List CallInstance)
    → statement_calls callee (b.Call lower instances) ≡ calls_step callee (Statement-F.Call lower instances)
calls_call callee lower instances = ap (statement_calls callee) (sym (b.rolls-Call lower instances))
    ∙ fold-roll-Statement (ℕ → List ℕ → ℕ) (calls_step callee) (Statement-F.Call lower instances)

calls_map : (callee : FormWeight) (p : Place) (m : LoopKind) (counts starts : List ℕ) (xs : List Statement)
    → statement_calls callee (b.Map p m counts starts xs)
    ≡ calls_step callee (Statement-F.Map p m counts starts (map (statement_calls callee) xs))
calls_map callee p m counts starts xs = ap (statement_calls callee) (sym (b.rolls-Map p m counts starts xs))
    ∙ fold-roll-Statement (ℕ → List ℕ → ℕ) (calls_step callee) (Statement-F.Map p m counts starts xs)

pub nested_call : (lower : Bool) (times : List CallInstance) → nested_in (b.Call lower times)
    ≡ nested_step (Statement-F.Call lower times)
nested_call lower times = ap nested_in (sym (b.rolls-Call lower times))
    ∙ fold-roll-Statement (ℕ → List Nested) nested_step (Statement-F.Call lower times)

pub nested_map : (p : Place) (m : LoopKind) (counts starts : List ℕ) (xs : List Statement)
    → nested_in (b.Map p m counts starts xs) ≡ nested_step (Statement-F.Map p m counts starts (map nested_in xs))
nested_map p m counts starts xs = ap nested_in (sym (b.rolls-Map p m counts starts xs))
    ∙ fold-roll-Statement (ℕ → List Nested) nested_step (Statement-F.Map p m counts starts xs)

-- ---- no call of a form counts anything

none_below : (n : ℕ) (f : ℕ → ℕ) → ((t : ℕ) → t < n → f t ≡ 0) → sum_below n f ≡ 0
none_below zero f h = refl
none_below (suc n) f h =
    let x = none_below n f (λ t l. h t (omega (arith, l))) in
    let y = h n (omega arith) in
    omega (arith, x, y)

one_longer : (path : List ℕ) (t : ℕ) → length (path ++ t ∷ []) ≡ suc (length path)
one_longer [] t = refl
one_longer (k ∷ path) t = ap suc (one_longer path t)

-- round the rows of a call of a form, round which so many maps stand, there are no more than round their forms
abbrev pub RowsFit : (round : ℕ → ℕ) → (outside : ℕ) → Nested → Type 0
RowsFit round outside t = Every (λ (r : CallInstance). outside + t.loops ≤ round r.form) t.times

module _ (word : ℕ) (most : Bounds) (fits : most.uses ≤ word) (last : ℕ) (round : ℕ → ℕ) where
  -- round a path's call stand no more maps than so many
  record Stands (path : List ℕ) (loops : ℕ) : Type 0 where
    short : length path ≤ loops
    words : Every (λ k. k < word) path

  module _ (callee : FormWeight) (callees : (f : ℕ) (path : List ℕ) → Stands path (round f) → callee f path ≡ 0)
      (level outside : ℕ) where
    abbrev Fits : Nested → Type 0
    Fits t = RowsFit round outside t

    abbrev Asked : Statement → AskedOfStatement
    Asked = Tabled most last level

    abbrev None_counted : Statement → Type 0
    None_counted x = (times k loops : ℕ) (path : List ℕ) → Asked x times → k < times → Every Fits (nested_in x loops)
        → Stands path (outside + loops) → statement_calls callee x k path ≡ 0

    abbrev Known : Type 0
    Known = (x : Statement) × None_counted x

    abbrev begun : List Known → List Statement
    begun = map (λ q. q.0)

    row_none : (o : Option CallInstance) (path : List ℕ)
        → ((r : CallInstance) → o ≡ Some r → Stands path (round r.form)) → row_calls callee o path ≡ 0
    row_none None path h = refl
    row_none (Some r) path h = callees r.form path (h r refl)

    all_none : (xs : List Known) (times k loops : ℕ) (path : List ℕ) → all_parts Asked (begun xs) times → k < times
        → Every Fits (all_nested (map nested_in (begun xs)) loops) → Stands path (outside + loops)
        → all_calls (map (statement_calls callee) (begun xs)) k path ≡ 0
    all_none [] times k loops path asked l close h = refl
    all_none (x ∷ xs) times k loops path asked l close h =
        let more = all_nested (map nested_in (begun xs)) loops in
        let one = x.1 times k loops path asked.0 l (every_left Fits (nested_in x.0 loops) more close) h in
        let rest = all_none xs times k loops path asked.1 l (every_right Fits (nested_in x.0 loops) more close) h in
        omega (arith, one, rest)

    map_none : (counts starts : List ℕ) (xs : List Known) (times k loops : ℕ) (path : List ℕ)
        → HaveCounts counts times × ((k t : ℕ) → k < times → t < get_or counts k 0 → k < length starts) × (inner : ℕ)
        × (inner ≤ most.uses)
        × ((k t : ℕ) → k < times → t < get_or counts k 0 → get_or starts k 0 + t < inner)
        × all_parts Asked (begun xs) inner
        → k < times → Every Fits (all_nested (map nested_in (begun xs)) (suc loops)) → Stands path (outside + loops)
        → sum_below (get_or counts k 0)
        (λ t. all_calls (map (statement_calls callee) (begun xs)) (get_or starts k 0 + t) (path ++ t ∷ [])) ≡ 0
    map_none counts starts xs times k loops path asked l close h =
        none_below (get_or counts k 0)
        (λ t. all_calls (map (statement_calls callee) (begun xs)) (get_or starts k 0 + t) (path ++ t ∷ []))
        (λ t turned.
        let below = asked.4 k t l turned in
        let few = asked.3 in
        all_none xs asked.2 (get_or starts k 0 + t) (suc loops) (path ++ t ∷ []) asked.5 below close (record {
          short = let e = one_longer path t in let s = h.short in omega (arith, e, s);
          words = every_append (λ k. k < word) path (t ∷ []) h.words (omega (arith, below, few, fits), tt);
        }))

    step : (y : Statement-F Known) → None_counted (roll-Statement (map-Statement Known Statement (λ q. q.0) y))
    step (Statement-F.Call lower instances) = subst None_counted (sym (b.rolls-Call lower instances))
        (λ times k loops path asked l close h.
        let near = subst (λ (f : ℕ → List Nested). Every Fits (f loops)) (nested_call lower instances) close in
        ap (λ (f : ℕ → List ℕ → ℕ). f k path) (calls_call callee lower instances)
        ∙ row_none (slice_get instances k) path (λ r e. record {
          short =
              let s = h.short in
              let g = every_at (λ (r : CallInstance). outside + loops ≤ round r.form) instances k r near.0 e in
              omega (arith, s, g);
          words = h.words;
        }))
    step (Statement-F.Map place m counts starts xs)
        = subst None_counted (sym (b.rolls-Map place m counts starts (begun xs)))
        (λ times k loops path asked l close h.
        ap (λ (f : ℕ → List ℕ → ℕ). f k path) (calls_map callee place m counts starts (begun xs))
        ∙ map_none counts starts xs times k loops path
        (subst (λ (f : AskedOfStatement). f times) (tabled_map most last level place m counts starts (begun xs)) asked)
        l
        (subst (λ (f : ℕ → List Nested). Every Fits (f loops)) (nested_map place m counts starts (begun xs)) close) h)

    counts_none : (x : Statement) → None_counted x
    counts_none = ind-Statement None_counted (λ x y is. subst (λ z. None_counted (roll-Statement z)) is (step y))

    abbrev known : List Statement → List Known
    known [] = []
    known (x ∷ xs) = (x, counts_none x) ∷ known xs

    known_are : (xs : List Statement) → begun (known xs) ≡ xs
    known_are [] = refl
    known_are (x ∷ xs) = ap (λ ys. x ∷ ys) (known_are xs)

    list_none : (list : List Statement) (path : List ℕ) → all_parts Asked list 1
        → Every Fits (all_nested (map nested_in list) 0) → Stands path (outside + 0)
        → all_calls (map (statement_calls callee) list) 0 path ≡ 0
    list_none list path asked close h =
        subst (λ (xs : List Statement). all_parts Asked xs 1 → Every Fits (all_nested (map nested_in xs) 0)
        → all_calls (map (statement_calls callee) xs) 0 path ≡ 0) (known_are list)
        (λ a c. all_none (known list) 1 0 0 path a (omega arith) c h) asked close

  module _ (bodies : ℕ → FormBody) (level : ℕ → ℕ) (tabled : (f : ℕ) → TabledBody most last (level f) (bodies f).body)
      (paths : PathsFit bodies round) (code : ℕ → ℕ) where
    abbrev weight : FormWeight
    weight form path = excess word (code form) path

    body_none : (callee : FormWeight) → ((f : ℕ) (path : List ℕ) → Stands path (round f) → callee f path ≡ 0) → (f : ℕ)
        (x : Body) → (bodies f).body ≡ x → TabledBody most last (level f) x
        → Every (RowsFit round (round f)) (nested_of x) → (path : List ℕ)
        → Stands path (round f) → body_calls weight callee f x path ≡ 0
    body_none callee callees f (body.Leaf leaf) e asked close path h =
        none_past word (code f) path (let s = h.short in let g = paths.short f leaf e in omega (arith, s, g)) h.words
    body_none callee callees f (body.Inner list) e asked close path h =
        list_none callee callees (level f) (round f) list path asked close (record {
          short = let s = h.short in omega (arith, s);
          words = h.words;
        })

    form_none : (n k : ℕ) (path : List ℕ) → Stands path (round k) → form_calls bodies weight n k path ≡ 0
    form_none zero k path h = refl
    form_none (suc n) k path h =
        body_none (form_calls bodies weight n) (λ f p g. form_none n f p g) k (bodies k).body refl (tabled k)
        (every_by (RowsFit round (round k)) (nested_of (bodies k).body) (λ i t e.
        every_by (λ (r : CallInstance). round k + t.loops ≤ round r.form) t.times (λ j r g. paths.calls k i t e j r g)))
        path h

pub paths_are_short : PathsAreShort
paths_are_short s leaves outer buffers may bodies homes n args plan most fits last level tabled round paths =
    none_counted (plan_tree s (entry_placed bodies homes n args) outer buffers)
    (plans_count s leaves outer buffers may (entry_placed bodies homes n args) plan (excess (2 ^ 32))
    ∙ calls_are_of_tables bodies homes (excess (2 ^ 32)) n 0 []
    ∙ form_none (2 ^ 32) most fits last round bodies level tabled paths (λ form. (homes form).code) n 0 []
    (record { short = omega arith; words = tt }))
