-- What leaves a loop of a call in plain loops, and what the loops begin.
use Rattle.std.proofs.Common.{◌≡◌, ℕ, zero, suc, ◌+◌, ◌==◌, ◌<◌, ◌≤◌, true, nat_le, List, [], ◌∷◌, ◌++◌}
use Rattle.std.proofs.Common.{length, get_or, slice_get, Option, Some, None, refl, sym, ◌∙◌, ap, subst, arith}
use Rattle.std.proofs.lemmas.Bool.Decides.{nat_tests}
use Rattle.std.specs.List.{list_all}
use Rattle.sq_text.specs.declared.place.Place.{Place}
use Rattle.sq_work.specs.declared.reduction.Reduction.{Reduction}
use Rattle.sq_blocks.specs.declared.argument.Argument.{Argument}
use Rattle.sq_spec.specs.declared.statement.LoopKind.TheVariants as loop_kind
use Rattle.sq_spec.specs.declared.statement.CallInstance.{CallInstance}
use Rattle.sq_spec.specs.declared.statement.Statement.{Statement}
use Rattle.sq_spec.specs.declared.statement.Statement.TheVariants as b
use Rattle.sq_spec.specs.declared.statement.Statement.TheOpen.{Statement-F}
use Rattle.sq_spec.specs.Statements.{over, starts_from}
use Rattle.sq_spec_laws.specs.TableRows.{Table, tables_of}
use Rattle.sq_spec_laws.proofs.TableRowsHold.{tables_call, tables_map}
use Rattle.sq_placed.specs.declared.home.Home.TheVariants.{InPlace, Held}
use Rattle.sq_placed.specs.declared.home.Homes.{Homes}
use Rattle.sq_placed.specs.Tables.{Chain, one_more, first_of}
use Rattle.sq_draft_laws.specs.TermLaws.Fits.{AskedOfStatement, all_parts}
use Rattle.sq_draft_laws.specs.TermLaws.Leaves as term
use Rattle.sq_draft_laws.specs.TermLaws.Leaves.{Left, HasTurns, AskedInLoops, RowLeaves}
use Rattle.sq_draft_laws.proofs.TermLaws.Chains.{leaves_call, leaves_map}
use Rattle.sq_draft_laws.specs.TermLaws.Orders.{EachOf, params_of}
use Rattle.sq_draft_laws.specs.ProgramLaws.Held.{Begun, BegunLoop, row_list, loop_list, begun_step, begun, Stays}
use Rattle.sq_draft_laws.specs.ProgramLaws.Held.{LoopHolds}
use Rattle.sq_draft_laws.proofs.ProgramLaws.Loops.{begun_call, begun_map, all_turns, each_at, each_both, each_map}
use Rattle.sq_pipe.specs.Hoist.Counts.{total}
use Rattle.sq_pipe.specs.Hoist.Loops.{Nest, looped, stays}
use Rattle.sq_pass_laws.specs.Times.{AreCounts, IsBegun}
use Rattle.sq_pass_laws.proofs.Nests.{nest_of, IsCall, Climbs, climb, both, IsBound, bounds_climb, Follows}
use Rattle.sq_pass_laws.proofs.Nests.{follows_inside, stays_at, same_number, longer, loop_whole}
use Rattle.sq_pass_laws.proofs.Begins.{calls_at, times_map, IsListed, counts_there, times_climb, each_time}
use Rattle.sq_pass_laws.proofs.Staying.{words, stays_is}
use Rattle.sq_pass_laws.proofs.Alone.{IsAlone, is_alone, one_more_is}
use Rattle.sq_pass_laws.proofs.HoistLists.{all_each}

-- ---- the counts of a plain loop

pub some_turns : (counts : List ℕ) → list_all (λ c. nat_le 1 c) counts ≡ true → (k : ℕ) → k < length counts
    → 1 ≤ get_or counts k 0
some_turns [] h k lt = absurd (omega (arith, lt))
some_turns (c ∷ counts) h zero lt =
    let t = (both (nat_le 1 c) (list_all (λ c. nat_le 1 c) counts) h).0 in grind (arith, nat_tests)
some_turns (c ∷ counts) h (suc k) lt =
    some_turns counts (both (nat_le 1 c) (list_all (λ c. nat_le 1 c) counts) h).1 k (omega (arith, lt))

-- the iterations of a loop are numbered below how often its body is begun
start_below : (n : ℕ) (counts : List ℕ) (k t : ℕ) → t < get_or counts k 0
    → get_or (starts_from n counts) k 0 + t < n + total counts
start_below n [] zero t lt = absurd (omega (arith, lt))
start_below n [] (suc k) t lt = absurd (omega (arith, lt))
start_below n (c ∷ counts) zero t lt = omega (arith, lt)
start_below n (c ∷ counts) (suc k) t lt = let l = start_below (n + c) counts k t lt in omega (arith, l)

pub body_below : (counts starts : List ℕ) → starts ≡ starts_from 0 counts → (k t : ℕ) → t < get_or counts k 0
    → get_or starts k 0 + t < total counts
body_below counts starts is k t lt =
    let l = start_below 0 counts k t lt in
    let m : get_or (starts_from 0 counts) k 0 + t < total counts = omega (arith, l) in
    subst (λ ss. get_or ss k 0 + t < total counts) (sym is) m

-- ---- rows of calls

-- of each row of these tables
abbrev pub TablesSo : (CallInstance → Type 0) → List Table → Type 0
TablesSo Q ts = EachOf (λ (t : Table). EachOf Q t.times) ts

abbrev pub RowsSo : (CallInstance → Type 0) → Statement → Type 0
RowsSo Q x = (red : Option Reduction) → TablesSo Q (tables_of x red)

-- of what alone stands in a loop
pub rows_inside : (caller : ℕ) (Q : CallInstance → Type 0) (place : Place) (counts starts : List ℕ) (x : Statement)
    (n : Nest) → nest_of caller x ≡ Some n
    → RowsSo Q (b.Map place loop_kind.Sequential counts starts (x ∷ [])) → RowsSo Q x
rows_inside caller Q place counts starts x n is h red =
    let a = is_alone caller x n is in
    let t = a.table None in
    let u = a.table red in
    let whole : TablesSo Q (tables_of x None ++ []) =
    subst (λ (f : Option Reduction → List Table). TablesSo Q (f None))
    (tables_map place loop_kind.Sequential counts starts (x ∷ [])) (h None) in
    let one = subst (λ (ts : List Table). TablesSo Q (ts ++ [])) t.1 whole in
    subst (TablesSo Q) (sym u.1) (one.0, tt)

row_so : (Q : CallInstance → Type 0) (rows : List CallInstance) (o : Option CallInstance) (k : ℕ)
    → slice_get rows k ≡ o → EachOf Q rows → EachOf Q (row_list o)
row_so Q rows None k e h = tt
row_so Q rows (Some r) k e h = (each_at Q rows k r h e, tt)

calls_climb : (caller : ℕ) (Q : CallInstance → Type 0)
    → Climbs caller (λ x n. RowsSo Q x → (k : ℕ) → EachOf Q (calls_at x k))
calls_climb caller Q = record {
  call = λ lower rows n c h k.
      let own = subst (λ (f : Option Reduction → List Table). TablesSo Q (f None)) (tables_call lower rows) (h None) in
      subst (λ (p : Begun). EachOf Q (p.calls k)) (sym (begun_call lower rows))
      (row_so Q rows (slice_get rows k) k refl own.0);
  loop = λ place counts starts x n is some g h k.
      let inner = rows_inside caller Q place counts starts x n is h in
      subst (λ (p : Begun). EachOf Q (p.calls k)) (sym (begun_map place loop_kind.Sequential counts starts (x ∷ [])))
      (all_turns Q (get_or counts k 0) (λ t. calls_at x (get_or starts k 0 + t) ++ [])
      (λ t lt. each_both Q (calls_at x (get_or starts k 0 + t)) [] (g inner (get_or starts k 0 + t)) tt));
}

pub each_call : (caller : ℕ) (Q : CallInstance → Type 0) (x : Statement) (n : Nest) → nest_of caller x ≡ Some n
    → RowsSo Q x → (k : ℕ) → EachOf Q (calls_at x k)
each_call caller Q = climb caller (λ x n. RowsSo Q x → (k : ℕ) → EachOf Q (calls_at x k)) (calls_climb caller Q)

-- ---- loops that are left have iterations

module _ (caller : ℕ) (left : Left) where
  -- where the loops round it have that are left too
  abbrev LeavesInside : Statement → Nest → Type 0
  LeavesInside x n = (k : ℕ) → IsBegun x k → (outer : List (List ℕ))
      → ((i j : ℕ) → length n.loops + j < left n.form i → HasTurns (get_or outer j [])) → term.Leaves left x outer

  leaves_rows : (rows : List CallInstance) (form : ℕ) → EachOf (λ (q : CallInstance). q.form ≡ form) rows
      → (outer : List (List ℕ)) → ((i j : ℕ) → j < left form i → HasTurns (get_or outer j []))
      → (k : ℕ) (r : CallInstance) → slice_get rows k ≡ Some r → RowLeaves left outer rows r
  leaves_rows rows form same outer h k r e =
      let is : r.form ≡ form = each_at (λ (q : CallInstance). q.form ≡ form) rows k r same e in record {
        turns = λ i j less. h i j (subst (λ f. j < left f i) is less);
        one = λ i some m q g. each_at (λ (q : CallInstance). q.form ≡ form) rows m q same g ∙ sym is;
      }

  call_leaves : (rows : List CallInstance) (n : Nest) → IsCall true rows n → LeavesInside (b.Call true rows) n
  call_leaves rows n c k begun_ outer h =
      let none : length n.loops ≡ 0 = ap length c.loops in
      subst (λ (f : AskedInLoops). f outer) (sym (leaves_call left true rows))
      (leaves_rows rows n.form (each_map (λ (q : CallInstance). (q.form == n.form) ≡ true)
      (λ (q : CallInstance). q.form ≡ n.form) rows
      (λ q e. same_number q.form n.form e)
      (all_each (λ (q : CallInstance). q.form == n.form) rows c.form)) outer
      (λ i j less. h i j (omega (arith, none, less))))

  has_turns : (counts : List ℕ) (n : ℕ) → list_all (λ c. nat_le 1 c) counts ≡ true → length counts ≡ n → 0 < n
      → HasTurns counts
  has_turns counts n h e less = record { some = omega (arith, e, less); each = λ k lt. some_turns counts h k lt }

  loop_leaves : (place : Place) (counts starts : List ℕ) (x : Statement) (n : Nest) → nest_of caller x ≡ Some n
      → list_all (λ c. nat_le 1 c) counts ≡ true → LeavesInside x n
      → LeavesInside (b.Map place loop_kind.Sequential counts starts (x ∷ [])) (looped place counts n)
  loop_leaves place counts starts x n is some_ g k h outer turns =
      let asked = subst (λ (f : AskedOfStatement). f k)
      (times_map place loop_kind.Sequential counts starts (x ∷ [])) h in
      let inner = climb caller (λ x m. (n : ℕ) → IsBegun x n → IsListed x m n) (times_climb caller) x n is
      (total counts) asked.2.0 in
      let many = counts_there counts k asked.0 inner.some in
      let own = has_turns counts k some_ many.0 many.1 in
      subst (λ (f : AskedInLoops). f outer)
      (sym (leaves_map left place loop_kind.Sequential counts starts (x ∷ [])))
      (g (total counts) asked.2.0 (counts ∷ outer) (all own), tt)
    where
      all : HasTurns counts → (i j : ℕ) → length n.loops + j < left n.form i → HasTurns (get_or (counts ∷ outer) j [])
      all own i zero less = own
      all own i (suc j) less =
          let e = longer n.loops place in turns i j (omega (arith, e, less))

  leaves_climb : Climbs caller LeavesInside
  leaves_climb = record {
    call = λ lower rows n c. subst (λ l. LeavesInside (b.Call l rows) n) (sym c.is_lower)
        (call_leaves rows n (subst (λ l. IsCall l rows n) c.is_lower c));
    loop = loop_leaves;
  }

  -- what leaves no more loops than these leaves loops that have iterations
  pub nest_leaves : (x : Statement) (n : Nest) → nest_of caller x ≡ Some n → (k : ℕ) → IsBegun x k
      → ((i : ℕ) → left n.form i ≤ length n.loops) → (outer : List (List ℕ)) → term.Leaves left x outer
  nest_leaves x n is k h few outer =
      climb caller LeavesInside leaves_climb x n is k h outer
      (λ i j less. let l = few i in absurd (omega (arith, l, less)))

-- ---- loops that are begun

no_params : (i b n : ℕ) → get_or [] i InPlace ≡ Held b n → ⊥
no_params zero b n e = absurd (cc e)
no_params (suc i) b n e = absurd (cc e)

module _ (homes : ℕ → Homes) where
  abbrev pub HeldAt : ℕ → (i b n : ℕ) → Type 0
  HeldAt form i b n = get_or (homes form).params i InPlace ≡ Held b n

  -- what leaves loops of a call is held by the form of its rows
  pub held_by : (form : ℕ) (rows : List CallInstance) → EachOf (λ (q : CallInstance). q.form ≡ form) rows
      → (i b n : ℕ) → get_or (params_of homes (slice_get rows 0)) i InPlace ≡ Held b n → HeldAt form i b n
  held_by form [] same i b n e = absurd (no_params i b n e)
  held_by form (r ∷ rows) same i b n e = subst (λ f. HeldAt f i b n) same.0 e

  module _ (caller : ℕ) (left : ℕ → ℕ) (those : List Argument) where
    abbrev HoldsInside : Statement → Nest → Type 0
    HoldsInside x n = Follows left n → ((i b m : ℕ) → HeldAt n.form i b m → left i ≡ m)
        → RowsSo (λ (q : CallInstance). words q ≡ those) x
        → (m k : ℕ) → IsBegun x m → k < m → EachOf (LoopHolds homes) ((begun x).loops k)

    loop_holds : (place : Place) (counts starts : List ℕ) (x : Statement) (n : Nest) → nest_of caller x ≡ Some n
        → list_all (λ c. nat_le 1 c) counts ≡ true → HoldsInside x n
        → HoldsInside (b.Map place loop_kind.Sequential counts starts (x ∷ [])) (looped place counts n)
    loop_holds place counts starts x n is some_ g follows held alike m k h lt =
        subst (λ (p : Begun). EachOf (LoopHolds homes) (p.loops k)) (sym opened)
        (subst (λ o. EachOf (LoopHolds homes) (loop_list o count calls ++ rest)) (sym its)
        (own, all_turns (LoopHolds homes) count (λ t. (begun x).loops (get_or starts k 0 + t) ++ []) inside))
      where
        y : Statement
        y = b.Map place loop_kind.Sequential counts starts (x ∷ [])

        opened : begun y ≡ begun_step (Statement-F.Map place loop_kind.Sequential counts starts (begun x ∷ []))
        opened = begun_map place loop_kind.Sequential counts starts (x ∷ [])

        count : ℕ
        count = get_or counts k 0

        calls : List CallInstance
        calls = over 0 (get_or counts k 0) (λ t. calls_at x (get_or starts k 0 + t) ++ [])

        rest : List BegunLoop
        rest = over 0 (get_or counts k 0) (λ t. (begun x).loops (get_or starts k 0 + t) ++ [])

        a : IsAlone x n
        a = is_alone caller x n is

        chain : Chain ℕ
        chain = record {
          loops = suc a.chain.chain.loops;
          instances = a.chain.chain.instances;
          first = λ j. a.chain.chain.first (first_of starts j);
        }

        its : one_more first_of starts (begun x).chain ≡ Some chain
        its = one_more_is starts (begun x).chain a.chain.chain a.chain.is

        bound : IsBound n
        bound = climb caller (λ x n. IsBound n) (bounds_climb caller) x n is

        asked : AreCounts counts m × (starts ≡ starts_from 0 counts) × all_parts IsBegun (x ∷ []) (total counts)
        asked = subst (λ (f : AskedOfStatement). f m) (times_map place loop_kind.Sequential counts starts (x ∷ [])) h

        listed : IsListed x n (total counts)
        listed = climb caller (λ x m. (n : ℕ) → IsBegun x n → IsListed x m n) (times_climb caller) x n is
            (total counts) asked.2.0

        many : (length counts ≡ m) × (0 < m)
        many = counts_there counts m asked.0 listed.some

        to_form : (i b' j : ℕ) → get_or (params_of homes (slice_get chain.instances 0)) i InPlace ≡ Held b' j
            → HeldAt n.form i b' j
        to_form = held_by n.form chain.instances
            (subst (λ rows. EachOf (λ (q : CallInstance). q.form ≡ n.form) rows) (sym a.chain.rows) a.form)

        in_it : calls_at y k ≡ calls
        in_it = ap (λ (p : Begun). p.calls k) opened

        stay : (i b' : ℕ) → get_or (params_of homes (slice_get chain.instances 0)) i InPlace ≡ Held b' chain.loops
            → Stays i calls
        stay i b' e =
            let loops = a.chain.loops in
            let out = held i b' chain.loops (to_form i b' chain.loops e) in
            let all = stays_at left place counts n bound follows i (omega (arith, out, loops)) in
            let y_is = loop_whole caller place counts starts x n is some_ in
            subst (Stays i) in_it
            (stays_is i (calls_at y k) (each_time caller y (looped place counts n) y_is m h (stays i) all k lt)
            (record {
              those = those;
              each = each_call caller (λ (q : CallInstance). words q ≡ those) y (looped place counts n) y_is alike k;
            }))

        own : LoopHolds homes (record { chain = chain; count = count; calls = calls })
        own = record {
          some = λ i b' j e more. let l = some_turns counts some_ k (let z = many.0 in omega (arith, z, lt)) in
              omega (arith, l);
          stays = λ i b' e. stay i b' e;
        }

        inside : (t : ℕ) → t < count → EachOf (LoopHolds homes) ((begun x).loops (get_or starts k 0 + t) ++ [])
        inside t less =
            each_both (LoopHolds homes) ((begun x).loops (get_or starts k 0 + t)) []
            (g (follows_inside left place counts n bound follows) held
            (rows_inside caller (λ (q : CallInstance). words q ≡ those) place counts starts x n is alike)
            (total counts) (get_or starts k 0 + t) asked.2.0 (body_below counts starts asked.1 k t less)) tt

    holds_climb : Climbs caller HoldsInside
    holds_climb = record {
      call = λ lower rows n c follows held alike m k h lt.
          subst (λ (p : Begun). EachOf (LoopHolds homes) (p.loops k)) (sym (begun_call lower rows)) tt;
      loop = loop_holds;
    }

    pub nest_holds : (x : Statement) (n : Nest) → nest_of caller x ≡ Some n → HoldsInside x n
    nest_holds = climb caller HoldsInside holds_climb
