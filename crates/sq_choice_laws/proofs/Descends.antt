-- What is known of all statements of a form is known of each that stands in it: how many loops its call was found to
-- leave, and its rows.
use Rattle.std.proofs.Common.{◌≡◌, ℕ, zero, suc, ◌+◌, ◌==◌, ◌<◌, List, [], ◌∷◌, map, length}
use Rattle.std.proofs.Common.{get_or, Option, Some, None, refl, sym, ◌∙◌, ap, subst, arith}
use Rattle.sq_text.specs.declared.place.Place.{Place}
use Rattle.sq_blocks.specs.declared.argument.Argument.{Argument}
use Rattle.sq_work.specs.declared.reduction.Reduction.{Reduction}
use Rattle.sq_spec.specs.declared.statement.LoopKind.{LoopKind}
use Rattle.sq_spec.specs.declared.statement.LoopKind.TheVariants as loop_kind
use Rattle.sq_spec.specs.declared.statement.CallInstance.{CallInstance}
use Rattle.sq_spec.specs.declared.statement.Statement.{Statement}
use Rattle.sq_spec.specs.declared.statement.Statement.TheVariants as b
use Rattle.sq_spec.specs.Statements.{starts_from}
use Rattle.sq_spec_laws.specs.TableRows.{Table, red_of, all_tables, tables_of}
use Rattle.sq_spec_laws.proofs.TableRowsHold.{tables_map}
use Rattle.sq_draft_laws.specs.TermLaws.Fits.{AskedOfStatement, all_parts}
use Rattle.sq_draft_laws.specs.TermLaws.Orders.{EachOf}
use Rattle.sq_draft_laws.proofs.ProgramLaws.Loops.{each_left, each_right}
use Rattle.sq_pipe.specs.Hoist.Counts.{total}
use Rattle.sq_pipe.specs.Hoist.Loops.{Nest, seen, nests, looped, sites_by, sites_in, all_sites}
use Rattle.sq_pipe.specs.Hoist.Choices.{find_leaves, leaves_or}
use Rattle.sq_pipe.proofs.Hoist.Opened.{nest_map, inner_map}
use Rattle.sq_pass_laws.specs.Times.{AreCounts, IsBegun}
use Rattle.sq_pass_laws.proofs.Nests.{nest_of, climb, IsBound, bounds_climb, Follows, follows_all, follows_inside, itself}
use Rattle.sq_pass_laws.proofs.Nests.{if_true, some_is, IsLoop, loop_is}
use Rattle.sq_pass_laws.proofs.Begins.{times_map}
use Rattle.sq_pass_laws.proofs.Alone.{is_alone}
use Rattle.sq_pass_laws.proofs.Sites.{Leaves, from_left, from_right, HasNumber, Numbered, sites_of_one, AreLocal}
use Rattle.sq_pass_laws.proofs.Sites.{first_local, others_local}
use Rattle.sq_pass_laws.proofs.Holding.{RowsSo, TablesSo, rows_inside}
use Rattle.sq_pass_laws.proofs.Chosen.{chosen}
use Rattle.sq_choice_laws.specs.Leaving.{StandsIn, at_front, further, in_map}
use Rattle.sq_choice_laws.proofs.Stays.{IsRow}

-- ---- what was found

nothing : (look : ℕ → Leaves) (form i : ℕ) → look form ≡ None → chosen look form i ≡ 0
nothing look form i e = ap (λ (o : Leaves). get_or (leaves_or o) i 0) e ∙ empty i
  where
    empty : (i : ℕ) → ◌≡◌ {A = ℕ} (get_or [] i 0) 0
    empty zero = refl
    empty (suc i) = refl

found_at : (caller : ℕ) (look : ℕ → Leaves) (n : Nest) (loops : List Place) → loops ≡ n.loops → IsBound n
    → look n.form ≡ find_leaves (sites_in caller n loops) n.form → (i : ℕ) → chosen look n.form i ≡ get_or n.leaves i 0
found_at caller look n [] none bound e i =
    let l = bound.bound i in
    let z = ap length none in
    let own : get_or n.leaves i 0 ≡ 0 = omega (arith, l, z) in
    nothing look n.form i e ∙ sym own
found_at caller look n (place ∷ loops) some bound e i =
    ap (λ (o : Leaves). get_or (leaves_or o) i 0)
    (e ∙ if_true (n.form == n.form) (Some n.leaves) None (itself n.form))

-- ---- a form's statements

-- Real: what is known of each row beside
module _ (number : ℕ → ℕ) (look : ℕ → Leaves) (caller : ℕ) (Real : CallInstance → Type 0) where
  pub record AreRows (rows : List CallInstance) : Type 0 where
    pub those : List Argument
    pub each : EachOf (IsRow those) rows
    pub real : EachOf Real rows

  abbrev pub AllRows : List Table → Type 0
  AllRows ts = EachOf (λ (t : Table). AreRows t.times) ts

  pub record NestFacts (x : Statement) (n : Nest) : Type 0 where
    pub follows : Follows (chosen look n.form) n
    pub many : ℕ
    pub begun : IsBegun x many
    pub those : List Argument
    pub rows : RowsSo (IsRow those) x
    pub real : RowsSo Real x

  -- of a statement: what was found at its calls is found at its own, or it is a call in plain loops
  pub data Known (x : Statement) : Type 0 where
    local_one : (red : Option Reduction) (lo m : ℕ) → Numbered number lo (tables_of x red) → AllRows (tables_of x red)
        → IsBegun x m → AreLocal look (sites_of_one caller x) (tables_of x red) → Known x
    nest_one : (n : Nest) → nest_of caller x ≡ Some n → NestFacts x n → Known x

  pub data AllKnown (xs : List Statement) : Type 0 where
    local_list : (red : Option Reduction) (lo m : ℕ) → Numbered number lo (all_tables (map tables_of xs) red)
        → AllRows (all_tables (map tables_of xs) red) → all_parts IsBegun xs m
        → AreLocal look (all_sites caller (map (seen caller) xs)) (all_tables (map tables_of xs) red) → AllKnown xs
    nest_list : (x : Statement) (n : Nest) → nest_of caller x ≡ Some n → NestFacts x n → xs ≡ x ∷ [] → AllKnown xs

  bound_of : (x : Statement) (n : Nest) → nest_of caller x ≡ Some n → IsBound n
  bound_of = climb caller (λ x n. IsBound n) (bounds_climb caller)

  abbrev IsFound : Nest → CallInstance → Type 0
  IsFound n q = look q.form ≡ find_leaves (sites_in caller n n.loops) q.form

  first_found : (n : Nest) (rows : List CallInstance) → 0 < length rows
      → EachOf (λ (q : CallInstance). q.form ≡ n.form) rows → EachOf (IsFound n) rows
      → look n.form ≡ find_leaves (sites_in caller n n.loops) n.form
  first_found n [] some_ same local = absurd (omega (arith, some_))
  first_found n (q ∷ rows) some_ same local =
      subst (λ f. look f ≡ find_leaves (sites_in caller n n.loops) f) same.0 local.0

  pub facts_of : (x : Statement) → Known x → (n : Nest) → nest_of caller x ≡ Some n → NestFacts x n
  facts_of x (nest_one m is facts) n e = subst (NestFacts x) (some_is m n (sym is ∙ e)) facts
  facts_of x (local_one red lo m numbered all begun_ local) n e =
      let a = is_alone caller x n e in
      let rows : AreRows a.rows = (subst AllRows (a.table red).1 all).0 in
      let own = subst (λ o. AreLocal look (sites_by caller o (seen caller x).inner) (tables_of x red)) e local in
      let its = (subst (AreLocal look (sites_in caller n n.loops)) (a.table red).1 own).0 in record {
        follows = follows_all (chosen look n.form) n
            (found_at caller look n n.loops refl (bound_of x n e) (first_found n a.rows a.some a.form its))
            (bound_of x n e);
        many = m;
        begun = begun_;
        those = rows.those;
        rows = λ by. subst (TablesSo (IsRow rows.those)) (sym (a.table by).1) (rows.each, tt);
        real = λ by. subst (TablesSo Real) (sym (a.table by).1) (rows.real, tt);
      }

  head_of : (x : Statement) (xs : List Statement) → AllKnown (x ∷ xs) → Known x
  head_of x xs (local_list red lo m numbered all begun_ local) =
      let ts = tables_of x red in
      let us = all_tables (map tables_of xs) red in
      local_one red lo m (from_left (HasNumber number) lo ts us numbered)
      (each_left (λ (t : Table). AreRows t.times) ts us all) begun_.0
      (first_local number look caller x xs red lo numbered local)
  head_of x xs (nest_list y n is facts e) = let same : y ≡ x = cc e in subst Known same (nest_one n is facts)

  tail_of : (x : Statement) (xs : List Statement) → AllKnown (x ∷ xs) → AllKnown xs
  tail_of x xs (local_list red lo m numbered all begun_ local) =
      let ts = tables_of x red in
      let us = all_tables (map tables_of xs) red in
      local_list red (lo + length ts) m (from_right (HasNumber number) lo ts us numbered)
      (each_right (λ (t : Table). AreRows t.times) ts us all) begun_.1
      (others_local number look caller x xs red lo numbered local)
  tail_of x xs (nest_list y n is facts e) =
      let none : [] ≡ xs = cc e in subst AllKnown none (local_list None 0 0 tt tt tt tt)

  -- ---- what stands in a map

  nest_inside : (place : Place) (counts starts : List ℕ) (y : Statement) (n : Nest) → nest_of caller y ≡ Some n
      → NestFacts (b.Map place loop_kind.Sequential counts starts (y ∷ [])) (looped place counts n) → NestFacts y n
  nest_inside place counts starts y n is facts =
      let asked : AreCounts counts facts.many × (starts ≡ starts_from 0 counts)
      × all_parts IsBegun (y ∷ []) (total counts)
      = subst (λ (f : AskedOfStatement). f facts.many) (times_map place loop_kind.Sequential counts starts (y ∷ []))
      facts.begun in record {
        follows = follows_inside (chosen look n.form) place counts n (bound_of y n is) facts.follows;
        many = total counts;
        begun = asked.2.0;
        those = facts.those;
        rows = rows_inside caller (IsRow facts.those) place counts starts y n is facts.rows;
        real = rows_inside caller Real place counts starts y n is facts.real;
      }

  nest_parts : (place : Place) (m : LoopKind) (counts starts : List ℕ) (xs : List Statement) (n : Nest)
      → IsLoop place m counts (nests (map (seen caller) xs)) n → NestFacts (b.Map place m counts starts xs) n
      → AllKnown xs
  nest_parts place m counts starts [] n l facts = absurd (let e = l.alone in cc e)
  nest_parts place m counts starts (y ∷ []) n l facts =
      let its : nest_of caller y ≡ Some l.inner = (let e = l.alone in cc e) in
      nest_list y l.inner its
      (nest_inside place counts starts y l.inner its
      (subst (λ k. NestFacts (b.Map place k counts starts (y ∷ [])) (looped place counts l.inner)) l.in_turn
      (subst (NestFacts (b.Map place m counts starts (y ∷ []))) (sym l.is) facts))) refl
  nest_parts place m counts starts (y ∷ z ∷ xs) n l facts = absurd (let e = l.alone in cc e)

  local_parts : (place : Place) (m : LoopKind) (counts starts : List ℕ) (xs : List Statement)
      → nest_of caller (b.Map place m counts starts xs) ≡ None → Known (b.Map place m counts starts xs) → AllKnown xs
  local_parts place m counts starts xs none (nest_one n is facts) = absurd (cc (sym is ∙ none))
  local_parts place m counts starts xs none (local_one red lo k numbered all begun_ local) =
      let x = b.Map place m counts starts xs in
      let is = tables_map place m counts starts xs in
      local_list (red_of m) lo (total counts)
      (subst (λ (f : Option Reduction → List Table). Numbered number lo (f red)) is numbered)
      (subst (λ (f : Option Reduction → List Table). AllRows (f red)) is all)
      (subst (λ (f : AskedOfStatement). f k) (times_map place m counts starts xs) begun_).2
      (subst (λ (f : Option Reduction → List Table). AreLocal look (all_sites caller (map (seen caller) xs)) (f red)) is
      (subst (λ ss. AreLocal look ss (tables_of x red)) (inner_map caller place m counts starts xs)
      (subst (λ o. AreLocal look (sites_by caller o (seen caller x).inner) (tables_of x red)) none local)))

  parts_of : (place : Place) (m : LoopKind) (counts starts : List ℕ) (xs : List Statement)
      → Known (b.Map place m counts starts xs) → AllKnown xs
  parts_of place m counts starts xs h = by (nest_of caller (b.Map place m counts starts xs)) refl
    where
      by : (o : Option Nest) → nest_of caller (b.Map place m counts starts xs) ≡ o → AllKnown xs
      by None e = local_parts place m counts starts xs e h
      by (Some n) e =
          nest_parts place m counts starts xs n
          (loop_is place m counts (nests (map (seen caller) xs)) n (sym (nest_map caller place m counts starts xs) ∙ e))
          (facts_of (b.Map place m counts starts xs) h n e)

  -- ---- what stands in any of them

  pub known_inside : {x : Statement} {xs : List Statement} → StandsIn x xs → AllKnown xs → Known x
  known_inside {x = x} (at_front xs) l = head_of x xs l
  known_inside (further y {xs = xs} h) l = known_inside h (tail_of y xs l)
  known_inside (in_map place m counts starts {parts = parts} xs h) l =
      known_inside h (parts_of place m counts starts parts (head_of (b.Map place m counts starts parts) xs l))
