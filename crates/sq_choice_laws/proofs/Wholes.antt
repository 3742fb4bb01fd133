-- Calls in plain loops, by how they are built; and which arguments leave all of these.
use Rattle.std.proofs.Common.{◌≡◌, ◌==◌, ℕ, zero, suc, ◌+◌, ◌<◌, Bool, true, false, ◌&&◌, nat_le, List, [], ◌∷◌}
use Rattle.std.proofs.Common.{length, map, get_or, slice_get, Option, Some, None, refl, sym, ◌∙◌, ap, subst, arith}
use Rattle.std.proofs.Common.{if◌then◌else◌}
use Rattle.std.specs.List.{list_all}
use Rattle.sq_text.specs.declared.place.Place.{Place}
use Rattle.sq_blocks.specs.declared.argument.Argument.{Argument}
use Rattle.sq_work.specs.declared.reduction.Reduction.{Reduction}
use Rattle.sq_spec.specs.declared.statement.LoopKind.{LoopKind}
use Rattle.sq_spec.specs.declared.statement.LoopKind.TheVariants as loop_kind
use Rattle.sq_spec.specs.declared.statement.CallInstance.{CallInstance}
use Rattle.sq_spec.specs.declared.statement.Statement.{Statement, roll-Statement}
use Rattle.sq_spec.specs.declared.statement.Statement.TheVariants as b
use Rattle.sq_spec.specs.declared.statement.Statement.TheOpen.{Statement-F}
use Rattle.sq_spec.specs.declared.statement.Statement.TheFolds.{ind-Statement, map-Statement}
use Rattle.sq_spec.specs.Statements.{starts_from}
use Rattle.sq_spec_laws.specs.TableRows.{Table}
use Rattle.sq_spec_laws.proofs.TableRowsHold.{tables_call}
use Rattle.sq_draft_laws.specs.TermLaws.Fits.{AskedOfStatement, all_parts}
use Rattle.sq_draft_laws.specs.TermLaws.Orders.{EachOf}
use Rattle.sq_draft_laws.specs.ProgramLaws.Held.{Stays}
use Rattle.sq_draft_laws.proofs.ProgramLaws.Loops.{each_map}
use Rattle.sq_pipe.specs.Hoist.Counts.{total}
use Rattle.sq_pipe.specs.Hoist.Loops.{Nest, seen, nests, stays, in_times, leaving, looped, call_nest}
use Rattle.sq_pipe.proofs.Hoist.Opened.{nest_call, nest_map}
use Rattle.sq_pass_laws.specs.Times.{AreCounts, IsBegun}
use Rattle.sq_pass_laws.proofs.Nests.{nest_of, loop_whole, IsLoop, loop_is, some_is, if_true, climb, longer, Left, out, kept}
use Rattle.sq_pass_laws.proofs.Nests.{left_at, IsBound, bounds_climb, same_number}
use Rattle.sq_pass_laws.proofs.Begins.{calls_at, listed, times_map, IsListed, counts_there, times_climb, each_time}
use Rattle.sq_pass_laws.proofs.Staying.{words, word, equal_is, stays_is}
use Rattle.sq_pass_laws.proofs.HoistLists.{all_each}
use Rattle.sq_pass_laws.proofs.Holding.{RowsSo, TablesSo, rows_inside, each_call}
use Rattle.sq_choice_laws.specs.Leaving.{HasForm, HasArgument, StandsIn, at_front, in_map, MayLeave}
use Rattle.sq_choice_laws.specs.Leaving.{the_call, a_loop}
use Rattle.sq_choice_laws.proofs.Clears.{both_true}
use Rattle.sq_choice_laws.proofs.Turns.{turns_are, turns_all}
use Rattle.sq_choice_laws.proofs.Stays.{IsRow, Item, word_there, in_words, stays_all}

-- ---- how a nest is built

abbrev pub one_of : CallInstance → List CallInstance → Nest
one_of r rows = record {
  form = r.form;
  times = map (λ q. q ∷ []) (r ∷ rows);
  loops = [];
  leaves = map (λ a. 0) r.args;
}

pub data Whole (caller : ℕ) : Statement → Nest → Type 0 where
  whole_call : (r : CallInstance) (rows : List CallInstance)
      → EachOf (λ (q : CallInstance). q.form ≡ r.form) (r ∷ rows)
      → Whole caller (b.Call true (r ∷ rows)) (one_of r rows)
  whole_loop : (place : Place) (counts starts : List ℕ) {x : Statement} {n : Nest} → nest_of caller x ≡ Some n
      → list_all (λ c. nat_le 1 c) counts ≡ true → Whole caller x n
      → Whole caller (b.Map place loop_kind.Sequential counts starts (x ∷ [])) (looped place counts n)

zeros : (args : List Argument) (i : ℕ) → ◌≡◌ {A = ℕ} (get_or (map {A = Argument} {B = ℕ} (λ a. 0) args) i 0) 0
zeros [] zero = refl
zeros [] (suc i) = refl
zeros (a ∷ args) zero = refl
zeros (a ∷ args) (suc i) = zeros args i

many_zeros : (args : List Argument) → length (map {A = Argument} {B = ℕ} (λ a. 0) args) ≡ length args
many_zeros [] = refl
many_zeros (a ∷ args) = ap suc (many_zeros args)

module _ (caller : ℕ) where
  abbrev IsWhole : Statement → Type 0
  IsWhole x = (n : Nest) → nest_of caller x ≡ Some n → Whole caller x n

  abbrev Known : Type 0
  Known = (x : Statement) × IsWhole x

  abbrev these : List Known → List Statement
  these = map (λ (q : Known). q.0)

  one_call : (r : CallInstance) (rows : List CallInstance) (n : Nest) (t : Bool)
      → list_all (λ (q : CallInstance). q.form == r.form) rows ≡ t
      → (if t then Some (one_of r rows) else None) ≡ Some n → Whole caller (b.Call true (r ∷ rows)) n
  one_call r rows n false same e = absurd (cc e)
  one_call r rows n true same e =
      subst (Whole caller (b.Call true (r ∷ rows))) (some_is (one_of r rows) n e) (whole_call r rows (
        refl,
        each_map (λ (q : CallInstance). (q.form == r.form) ≡ true) (λ (q : CallInstance). q.form ≡ r.form) rows
            (λ q e. same_number q.form r.form e) (all_each (λ (q : CallInstance). q.form == r.form) rows same),
      ))

  a_call : (lower : Bool) (rows : List CallInstance) (n : Nest) → call_nest lower rows ≡ Some n
      → Whole caller (b.Call lower rows) n
  a_call false rows n e = absurd (cc e)
  a_call true [] n e = absurd (cc e)
  a_call true (r ∷ rows) n e = one_call r rows n (list_all (λ q. q.form == r.form) rows) refl e

  loop_by : (place : Place) (counts starts : List ℕ) (xs : List Known) (n m : Nest)
      → nests (map (seen caller) (these xs)) ≡ Some m ∷ [] → list_all (λ c. nat_le 1 c) counts ≡ true
      → looped place counts m ≡ n → Whole caller (b.Map place loop_kind.Sequential counts starts (these xs)) n
  loop_by place counts starts [] n m alone some_ is = absurd (cc alone)
  loop_by place counts starts (x ∷ []) n m alone some_ is =
      let its : nest_of caller x.0 ≡ Some m = cc alone in
      subst (Whole caller (b.Map place loop_kind.Sequential counts starts (x.0 ∷ []))) is
      (whole_loop place counts starts its some_ (x.1 m its))
  loop_by place counts starts (x ∷ y ∷ xs) n m alone some_ is = absurd (cc alone)

  map_by : (place : Place) (kind : LoopKind) (counts starts : List ℕ) (xs : List Known) (n : Nest)
      → IsLoop place kind counts (nests (map (seen caller) (these xs))) n
      → Whole caller (b.Map place kind counts starts (these xs)) n
  map_by place kind counts starts xs n l =
      subst (λ k. Whole caller (b.Map place k counts starts (these xs)) n) (sym l.in_turn)
      (loop_by place counts starts xs n l.inner l.alone l.some l.is)

  step : (y : Statement-F Known) → IsWhole (roll-Statement (map-Statement Known Statement (λ p. p.0) y))
  step (Statement-F.Call lower rows) = subst IsWhole (sym (b.rolls-Call lower rows)) (λ n e.
      a_call lower rows n (sym (nest_call caller lower rows) ∙ e))
  step (Statement-F.Map place kind counts starts xs) =
      subst IsWhole (sym (b.rolls-Map place kind counts starts (these xs))) (λ n e.
      map_by place kind counts starts xs n (loop_is place kind counts (nests (map (seen caller) (these xs))) n
      (sym (nest_map caller place kind counts starts (these xs)) ∙ e)))

  pub is_whole : (x : Statement) → IsWhole x
  is_whole = ind-Statement IsWhole (λ x y is. subst (λ z. IsWhole (roll-Statement z)) is (step y))

-- ---- numbers of loops

many_leaving : (inside : ℕ) (times : List (List CallInstance)) (j : ℕ) (ls : List ℕ)
    → length (leaving inside times j ls) ≡ length ls
many_leaving inside times j [] = refl
many_leaving inside times j (l ∷ ls) = ap suc (many_leaving inside times (suc j) ls)

leaves_out : (inside : ℕ) (times : List (List CallInstance)) (j i : ℕ) (ls : List ℕ) → i < length ls
    → get_or ls i 0 ≡ inside → list_all (stays (j + i)) times ≡ true
    → get_or (leaving inside times j ls) i 0 ≡ suc inside
leaves_out inside times j i [] lt e all = absurd (omega (arith, lt))
leaves_out inside times j zero (l ∷ ls) lt e all =
    let z : j + 0 ≡ j = omega arith in
    if_true (l == inside && list_all (stays j) times) (suc inside) l
    (both_true (l == inside) (list_all (stays j) times) (equal_is l inside e)
    (subst (λ m. list_all (stays m) times ≡ true) z all))
leaves_out inside times j (suc i) (l ∷ ls) lt e all =
    let z : j + suc i ≡ suc j + i = omega arith in
    leaves_out inside times (suc j) i ls (omega (arith, lt)) e (subst (λ m. list_all (stays m) times ≡ true) z all)

all_listed : {A : Type 0} (p : A → Bool) (f : ℕ → A) (a n : ℕ) → ((t : ℕ) → t < n → p (f (a + t)) ≡ true)
    → list_all p (listed f a n) ≡ true
all_listed p f a zero h = refl
all_listed p f a (suc n) h =
    let z : a + 0 ≡ a = omega arith in
    both_true (p (f a)) (list_all p (listed f (suc a) n)) (subst (λ m. p (f m) ≡ true) z (h 0 (omega arith)))
    (all_listed p f (suc a) n (λ t lt.
    let w : a + suc t ≡ suc a + t = omega arith in
    subst (λ m. p (f m) ≡ true) w (h (suc t) (omega (arith, lt)))))

-- ---- where an argument may leave loops, these are plain

within_length : {A : Type 0} (xs : List A) (j : ℕ) (x : A) → slice_get xs j ≡ Some x → j < length xs
within_length [] j x e = absurd (cc e)
within_length (y ∷ xs) zero x e = omega arith
within_length (y ∷ xs) (suc j) x e = let l = within_length xs j x e in omega (arith, l)

item_in : (xs : List Argument) (i : ℕ) → i < length xs → Item xs i
item_in [] i lt = absurd (omega (arith, lt))
item_in (x ∷ xs) zero lt = record { it = x; there = refl }
item_in (x ∷ xs) (suc i) lt = let h = item_in xs i (omega (arith, lt)) in record { it = h.it; there = h.there }

-- the words of a call's rows
first_row : (Q : CallInstance → Type 0) (r : CallInstance) (rows : List CallInstance)
    → RowsSo Q (b.Call true (r ∷ rows)) → EachOf Q (r ∷ rows)
first_row Q r rows h =
    (subst (λ (f : Option Reduction → List Table). TablesSo Q (f None)) (tables_call true (r ∷ rows)) (h None)).0

module _ (caller f i : ℕ) where
  pub record NestIs (x : Statement) (m : ℕ) : Type 0 where
    pub nest : Nest
    pub is : nest_of caller x ≡ Some nest
    pub form : nest.form ≡ f
    pub loops : length nest.loops ≡ m

  same_form : (form : ℕ) (rows : List CallInstance) → EachOf (λ (q : CallInstance). q.form ≡ form) rows
      → list_all (λ (q : CallInstance). q.form == form) rows ≡ true
  same_form form [] h = refl
  same_form form (q ∷ rows) h =
      both_true (q.form == form) (list_all (λ (q : CallInstance). q.form == form) rows) (equal_is q.form form h.0)
      (same_form form rows h.1)

  call_there : (rows : List CallInstance) → HasForm f rows → NestIs (b.Call true rows) 0
  call_there [] h = let l = h.some in absurd (omega (arith, l))
  call_there (r ∷ rows) h = record {
    nest = one_of r rows;
    is = nest_call caller true (r ∷ rows)
        ∙ if_true (list_all (λ (q : CallInstance). q.form == r.form) rows) (Some (one_of r rows)) None
        (same_form r.form rows (each_map (λ (q : CallInstance). q.form ≡ f) (λ (q : CallInstance). q.form ≡ r.form) rows
        (λ q e. e ∙ sym h.each.0) h.each.1));
    form = h.each.0;
    loops = refl;
  }

  pub nest_there : {m : ℕ} {x : Statement} → MayLeave f i m x → NestIs x m
  nest_there (the_call rows form args) = call_there rows form
  nest_there (a_loop place counts starts {x = x} turns h stay) =
      let n = nest_there h in record {
        nest = looped place counts n.nest;
        is = loop_whole caller place counts starts x n.nest n.is (turns_all 1 counts turns);
        form = n.form;
        loops = longer n.nest.loops place ∙ ap suc n.loops;
      }

  -- and it leaves all of them
  pub record LeavesAll (those : List Argument) (n : Nest) : Type 0 where
    pub all : get_or n.leaves i 0 ≡ length n.loops
    pub there : i < length n.leaves
    pub item : Item those i

  call_leaves : (those : List Argument) (rows : List CallInstance) (h : HasForm f rows) → EachOf (HasArgument i) rows
      → RowsSo (IsRow those) (b.Call true rows) → LeavesAll those (call_there rows h).nest
  unfolding call_there
  call_leaves those [] h args rows = let l = h.some in absurd (omega (arith, l))
  call_leaves those (r ∷ rest) h args rows =
      let z : length (map {A = Argument} {B = ℕ} (λ a. 0) r.args) ≡ length r.args = many_zeros r.args in
      let l = within_length r.args i args.0.argument args.0.there in record {
        all = zeros r.args i;
        there = omega (arith, z, l);
        item = in_words r.args those i (first_row (IsRow those) r rest rows).0.alike
            (record { it = args.0.argument; there = args.0.there });
      }

  pub leaves_all : (those : List Argument) {m : ℕ} {x : Statement} (h : MayLeave f i m x) → RowsSo (IsRow those) x
      → (k : ℕ) → IsBegun x k → LeavesAll those (nest_there h).nest
  unfolding nest_there
  leaves_all those (the_call rows form args) is k begun_ = call_leaves those rows form args is
  leaves_all those (a_loop place counts starts {x = x} turns h stay) is k begun_ =
      let y = b.Map place loop_kind.Sequential counts starts (x ∷ []) in
      let n = nest_there h in
      let some_ = turns_all 1 counts turns in
      let whole = loop_whole caller place counts starts x n.nest n.is some_ in
      let asked = subst (λ (f : AskedOfStatement). f k)
      (times_map place loop_kind.Sequential counts starts (x ∷ [])) begun_ in
      let inner = leaves_all those h (rows_inside caller (IsRow those) place counts starts x n.nest n.is is)
      (total counts) asked.2.0 in
      let times = climb caller (λ x m. (n : ℕ) → IsBegun x n → IsListed x m n) (times_climb caller) in
      let many = counts_there counts k asked.0 (times x n.nest n.is (total counts) asked.2.0).some in
      let all : list_all (stays i) (looped place counts n.nest).times ≡ true =
      subst (λ ts. list_all (stays i) ts ≡ true) (sym (times y (looped place counts n.nest) whole k begun_).times)
      (all_listed (stays i) (calls_at y) 0 k (λ t lt.
      let z : t ≡ 0 + t = omega arith in
      let c = many.0 in
      subst (λ t. stays i (calls_at y t) ≡ true) z
      (stays_all those i inner.item (calls_at y t)
      (each_call caller (IsRow those) y (looped place counts n.nest) whole is t)
      (stay t (omega (arith, c, lt)))))) in
      let few = many_leaving (length n.nest.loops) (in_times counts n.nest.times) 0 n.nest.leaves in
      let l = inner.there in
      let o : i ≡ 0 + i = omega arith in record {
        all = leaves_out (length n.nest.loops) (in_times counts n.nest.times) 0 i n.nest.leaves inner.there inner.all
            (subst (λ m. list_all (stays m) (in_times counts n.nest.times) ≡ true) o all)
            ∙ sym (longer n.nest.loops place);
        there = omega (arith, few, l);
        item = inner.item;
      }

-- ---- and what leaves loops may leave them

module _ (caller i : ℕ) (those : List Argument) where
  pub many_leaves : {x : Statement} {n : Nest} → Whole caller x n → RowsSo (IsRow those) x
      → length n.leaves ≡ length those
  many_leaves (whole_call r rows same) is =
      let z : length (map {A = Argument} {B = ℕ} (λ a. 0) r.args) ≡ length r.args = many_zeros r.args in
      let w = ap length (first_row (IsRow those) r rows is).0.alike in
      let m = many_words r.args in
      z ∙ sym m ∙ w
    where
      many_words : (xs : List Argument) → length (map word xs) ≡ length xs
      many_words [] = refl
      many_words (x ∷ xs) = ap suc (many_words xs)
  many_leaves (whole_loop place counts starts {x = x} {n = n} is some_ h) rows =
      many_leaving (length n.loops) (in_times counts n.times) 0 n.leaves
      ∙ many_leaves h (rows_inside caller (IsRow those) place counts starts x n is rows)

  each_has : (rows : List CallInstance) → EachOf (IsRow those) rows → Item those i → EachOf (HasArgument i) rows
  each_has rows are item = each_map (IsRow those) (HasArgument i) rows (λ q row.
      let its = word_there q.args those i row.alike item in record { argument = its.it; there = its.there }) are

  bound_of : (x : Statement) (n : Nest) → nest_of caller x ≡ Some n → IsBound n
  bound_of = climb caller (λ x n. IsBound n) (bounds_climb caller)

  pub may_full : {x : Statement} {n : Nest} → Whole caller x n → RowsSo (IsRow those) x → (k : ℕ) → IsBegun x k
      → Item those i → get_or n.leaves i 0 ≡ length n.loops → MayLeave n.form i (length n.loops) x
  may_full (whole_call r rows same) is k begun_ item e =
      the_call (r ∷ rows) (record { some = omega arith; each = same })
      (each_has (r ∷ rows) (first_row (IsRow those) r rows is) item)
  may_full (whole_loop place counts starts {x = x} {n = n} is some_ h) rows k begun_ item e =
      by (λ m begun_ p. may_full h (rows_inside caller (IsRow those) place counts starts x n is rows) m begun_ item p)
      (left_at place counts n i) refl
    where
      y : Statement
      y = b.Map place loop_kind.Sequential counts starts (x ∷ [])

      whole : nest_of caller y ≡ Some (looped place counts n)
      whole = loop_whole caller place counts starts x n is some_

      asked : AreCounts counts k × (starts ≡ starts_from 0 counts) × all_parts IsBegun (x ∷ []) (total counts)
      asked = subst (λ (f : AskedOfStatement). f k) (times_map place loop_kind.Sequential counts starts (x ∷ [])) begun_

      many : (length counts ≡ k) × (0 < k)
      many = counts_there counts k asked.0
          (climb caller (λ x m. (n : ℕ) → IsBegun x n → IsListed x m n) (times_climb caller) x n is (total counts)
          asked.2.0).some

      stay : list_all (stays i) (looped place counts n).times ≡ true → (t : ℕ) → t < length counts
          → Stays i (calls_at y t)
      stay all t lt =
          let c = many.0 in
          stays_is i (calls_at y t)
          (each_time caller y (looped place counts n) whole k begun_ (stays i) all t (omega (arith, c, lt)))
          (record {
            those = those;
            each = each_map (IsRow those) (λ (q : CallInstance). words q ≡ those) (calls_at y t) (λ q row. row.alike)
                (each_call caller (IsRow those) y (looped place counts n) whole rows t);
          })

      by : {all : Bool}
          → ((m : ℕ) → IsBegun x m → get_or n.leaves i 0 ≡ length n.loops → MayLeave n.form i (length n.loops) x)
          → Left (length n.loops) (get_or n.leaves i 0) (get_or (looped place counts n).leaves i 0) all
          → list_all (stays i) (looped place counts n).times ≡ all
          → MayLeave n.form i (length (looped place counts n).loops) y
      by inner (out p q o) is_all =
          subst (λ m. MayLeave n.form i m y) (sym (longer n.loops place))
          (a_loop place counts starts (turns_are 1 counts some_)
          (inner (total counts) asked.2.0 p)
          (λ t lt. stay (is_all ∙ q) t lt))
      by inner (kept o) is_all =
          let l = (bound_of x n is).bound i in
          let m = longer n.loops place in
          absurd (omega (arith, l, m, o, e))

  -- a loop in the statement, out of which it may go
  pub record Outmost (x : Statement) (n : Nest) : Type 0 where
    pub loop : Statement
    pub stands : StandsIn loop (x ∷ [])
    pub leaves : MayLeave n.form i (get_or n.leaves i 0) loop

  pub may_some : {x : Statement} {n : Nest} → Whole caller x n → RowsSo (IsRow those) x → (k : ℕ) → IsBegun x k
      → 0 < get_or n.leaves i 0 → Outmost x n
  may_some (whole_call r rows same) is k begun_ lt = let z = zeros r.args i in absurd (omega (arith, lt, z))
  may_some (whole_loop place counts starts {x = x} {n = n} is some_ h) rows k begun_ lt =
      by (λ m begun_ less. may_some h (rows_inside caller (IsRow those) place counts starts x n is rows) m begun_ less)
      (left_at place counts n i)
    where
      y : Statement
      y = b.Map place loop_kind.Sequential counts starts (x ∷ [])

      below : {A : Type 0} (f : A → Bool) (ls : List ℕ) (j : ℕ) → 0 < get_or ls j 0 → j < length ls
      below f [] zero less = absurd (omega (arith, less))
      below f [] (suc j) less = absurd (omega (arith, less))
      below f (l ∷ ls) zero less = omega arith
      below f (l ∷ ls) (suc j) less = let m = below f ls j less in omega (arith, m)

      whole : Whole caller y (looped place counts n)
      whole = whole_loop place counts starts is some_ h

      item : Item those i
      item =
          let m = many_leaves whole rows in
          let j = below (λ (a : ℕ). true) (looped place counts n).leaves i lt in
          item_in those i (omega (arith, m, j))

      asked : AreCounts counts k × (starts ≡ starts_from 0 counts) × all_parts IsBegun (x ∷ []) (total counts)
      asked = subst (λ (f : AskedOfStatement). f k) (times_map place loop_kind.Sequential counts starts (x ∷ [])) begun_

      by : ((m : ℕ) → IsBegun x m → 0 < get_or n.leaves i 0 → Outmost x n)
          → Left (length n.loops) (get_or n.leaves i 0) (get_or (looped place counts n).leaves i 0)
          (list_all (stays i) (looped place counts n).times) → Outmost y (looped place counts n)
      by inner (out p q o) =
          let e : get_or (looped place counts n).leaves i 0 ≡ length (looped place counts n).loops =
          o ∙ sym (longer n.loops place) in record {
            loop = y;
            stands = at_front [];
            leaves = subst (λ m. MayLeave n.form i m y) (sym e) (may_full whole rows k begun_ item e);
          }
      by inner (kept o) =
          let its = inner (total counts) asked.2.0 (subst (λ m. 0 < m) o lt) in record {
            loop = its.loop;
            stands = in_map place loop_kind.Sequential counts starts [] its.stands;
            leaves = subst (λ m. MayLeave n.form i m its.loop) (sym o) its.leaves;
          }
