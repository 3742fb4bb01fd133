-- What is written out is joined already.
use Rattle.std.proofs.Common.{◌≡◌, ℕ, zero, suc, ◌+◌, ◌==◌, Bool, true, false, Some, if◌then◌else◌, ℤ, pos, negsuc, List, [], ◌∷◌, ◌++◌, map, refl, sym, ap, ap₂, ◌∙◌, subst, get_or}
use Rattle.std.specs.Map.{lookup}
use Rattle.std.proofs.lemmas.Bool.{eqb-true}
use Rattle.std.proofs.lemmas.Slice.Eq.{bytes_eq-Decides}
use Rattle.sq_text.specs.Names.{Bytes, same_name}
use Rattle.sq_text.specs.Spreading.{child_of}
use Rattle.sq_ast.specs.Unplaced.{nowhere}
use Rattle.sq_blocks.specs.Names.{Numbers, or_zero, number_of}
use Rattle.sq_ir.specs.declared.term.Term.{Term, roll-Term}
use Rattle.sq_ir.specs.declared.term.Term.TheOpen.{Term-F}
use Rattle.sq_ir.specs.declared.term.Term.TheFolds.{fold-roll-Term, ind-Term, map-Term}
use Rattle.sq_ir.specs.Written.{Setting, Env, at_root, node_of, at_turn, value_of, count_of, inside_of}
use Rattle.sq_ir.specs.Plans.{setting_of}
use Rattle.sq_ir.specs.declared.plan.Buffer.{Buffer}
use Rattle.sq_ir.specs.declared.plan.Leaf.{Leaf}
use Rattle.sq_plantext.specs.declared.text.Binding.{Binding}
use Rattle.sq_plantext.specs.declared.text.TermText.{TermText}
use Rattle.sq_plantext.specs.declared.text.TermText.TheVariants as t
use Rattle.sq_plantext.specs.Grammar.{name_at, binding, buffer_line, leaf_text, array_line}
use Rattle.sq_planfile.specs.declared.entry.EntryArray.{EntryArray}
use Rattle.sq_planfile.specs.declared.left.Left.{Left}
use Rattle.sq_planfile.specs.declared.left.Left.TheVariants.{Nothing, Alone}
use Rattle.sq_planfile.specs.Left.{in_turn, beside, then_seq, then_par, whole, lines_of, scope}
use Rattle.sq_planfile.specs.File.{PlanFile}
use Rattle.sq_planfile.specs.Written.{Reading, reading_of, seq_parts, par_parts, seq_of, par_of, arm_of, arm_at, turn_at, event_text, left_step, left_of, names_in, firsts, buffer_lines, text_of, array_of, written}
use Rattle.sq_planfile.specs.Joined.{joined, bare_buffer, bare_leaf, bare_array, StaysWritten}
use Rattle.sq_planfile.proofs.Again.{joined_seq, joined_par, joined_at, joined_act, lines_same}
use Rattle.sq_planfile.proofs.Joins.{IsSome, turns, besides, alone, Shown, none, some, shown, seq_is, par_is, seq_nothing, par_nothing, seq_assoc, par_assoc}

-- ---- lists of lines

seq_append : (here : ℕ) (xs ys : List TermText) → seq_parts (map joined (xs ++ ys)) here ≡ then_seq (seq_parts (map joined xs) here) (seq_parts (map joined ys) here)
seq_append here [] ys = refl
seq_append here (x ∷ xs) ys = ap (then_seq (joined x here)) (seq_append here xs ys)
    ∙ sym (seq_assoc (joined x here) (seq_parts (map joined xs) here) (seq_parts (map joined ys) here))

par_append : (here : ℕ) (xs ys : List TermText) → par_parts (map joined (xs ++ ys)) here ≡ then_par (par_parts (map joined xs) here) (par_parts (map joined ys) here)
par_append here [] ys = refl
par_append here (x ∷ xs) ys = ap (then_par (joined x here)) (par_append here xs ys)
    ∙ sym (par_assoc (joined x here) (par_parts (map joined xs) here) (par_parts (map joined ys) here))

-- ---- what is joined stays, where a node is in force

pub record Stays (here : ℕ) (a : Left) : Type 0 where
  pub is : joined (whole a) here ≡ a

module _ (here : ℕ) where
  nothing : Stays here Nothing
  nothing = record { is = ap (λ f. f here) (joined_seq []) }

  as_seq : {a : Left} → IsSome a → Stays here a → seq_parts (map joined (in_turn a)) here ≡ a
  as_seq (turns {ts = ts}) h = sym (ap (λ f. f here) (joined_seq ts)) ∙ h.is
  as_seq (besides {ts = ts}) h = seq_nothing (joined (t.Par ts) here) ∙ h.is
  as_seq (alone {y = y}) h = seq_nothing (joined y here) ∙ h.is

  as_par : {a : Left} → IsSome a → Stays here a → par_parts (map joined (beside a)) here ≡ a
  as_par (turns {ts = ts}) h = par_nothing (joined (t.Seq ts) here) ∙ h.is
  as_par (besides {ts = ts}) h = sym (ap (λ f. f here) (joined_par ts)) ∙ h.is
  as_par (alone {y = y}) h = par_nothing (joined y here) ∙ h.is

  seq_stays : (a b : Left) → Shown a → Shown b → Stays here a → Stays here b → Stays here (then_seq a b)
  seq_stays a b (none e) y h g = subst (λ a. Stays here (then_seq a b)) (sym e) g
  seq_stays a b (some x) (none e) h g = subst (λ b. Stays here (then_seq a b)) (sym e) (subst (Stays here) (sym (seq_nothing a)) h)
  seq_stays a b (some x) (some y) h g = subst (Stays here) (sym (seq_is x y)) (record {
    is = ap (λ f. f here) (joined_seq (in_turn a ++ in_turn b)) ∙ seq_append here (in_turn a) (in_turn b)
        ∙ ap (λ l. then_seq l (seq_parts (map joined (in_turn b)) here)) (as_seq x h) ∙ ap (then_seq a) (as_seq y g) ∙ seq_is x y;
  })

  par_stays : (a b : Left) → Shown a → Shown b → Stays here a → Stays here b → Stays here (then_par a b)
  par_stays a b (none e) y h g = subst (λ a. Stays here (then_par a b)) (sym e) g
  par_stays a b (some x) (none e) h g = subst (λ b. Stays here (then_par a b)) (sym e) (subst (Stays here) (sym (par_nothing a)) h)
  par_stays a b (some x) (some y) h g = subst (Stays here) (sym (par_is x y)) (record {
    is = ap (λ f. f here) (joined_par (beside a ++ beside b)) ∙ par_append here (beside a) (beside b)
        ∙ ap (λ l. then_par l (par_parts (map joined (beside b)) here)) (as_par x h) ∙ ap (then_par a) (as_par y g) ∙ par_is x y;
  })

  lines_are : (node : ℕ) (bs : List ℕ) {a : Left} → IsSome a → lines_of node bs a ≡ Alone (t.At nowhere node bs (whole a))
  lines_are node bs turns = refl
  lines_are node bs besides = refl
  lines_are node bs alone = refl

  -- lines that are those of the scope where the node is in force
  lines_stay : (node : ℕ) (bs : List ℕ) (a : Left) → Shown a → Stays node a → scope here node bs a ≡ lines_of node bs a → Stays here (lines_of node bs a)
  lines_stay node bs a (none e) h k = subst (λ a. Stays here (lines_of node bs a)) (sym e) nothing
  lines_stay node bs a (some x) h k = subst (Stays here) (sym (lines_are node bs x)) (record {
    is = ap (λ f. f here) (joined_at nowhere node bs (whole a)) ∙ ap (scope here node bs) h.is ∙ k ∙ lines_are node bs x;
  })

  scope_stays : (node : ℕ) (bs : List ℕ) (a : Left) → Stays node a → Stays here (scope here node bs a)
  scope_stays node (b ∷ bs) a h = lines_stay node (b ∷ bs) a (shown a) h refl
  scope_stays node [] a h = by (here == node) refl
    where
      by : (v : Bool) → (here == node) ≡ v → Stays here (if v then a else lines_of node [] a)
      by true e = subst (λ n. Stays n a) (sym (eqb-true here node e)) h
      by false e = lines_stay node [] a (shown a) h (ap (λ v. if v then a else lines_of node [] a) e)

-- ---- terms

module _ (here : ℕ) where
  seq_of_stays : (n : ℕ) (f : ℕ → Left) (k : ℕ) → ((k : ℕ) → Stays here (f k)) → Stays here (seq_of n f k)
  unfolding seq_of
  seq_of_stays zero f k h = nothing here
  seq_of_stays (suc n) f k h = seq_stays here (f k) (seq_of n f (k + 1)) (shown _) (shown _) (h k) (seq_of_stays n f (k + 1) h)

  par_of_stays : (n : ℕ) (f : ℕ → Left) (k : ℕ) → ((k : ℕ) → Stays here (f k)) → Stays here (par_of n f k)
  unfolding par_of
  par_of_stays zero f k h = nothing here
  par_of_stays (suc n) f k h = par_stays here (f k) (par_of n f (k + 1)) (shown _) (shown _) (h k) (par_of_stays n f (k + 1) h)

  either : (b : Bool) (a : Left) → Stays here a → Stays here (if b then a else Nothing)
  either true a h = h
  either false a h = nothing here

module _ (s : Setting) where
  abbrev r : Reading Env
  r = reading_of s

  abbrev Holds : Term → Type 0
  Holds x = (env : Env) → Stays (node_of env) (left_of s x env)

  abbrev M : Type 0
  M = (x : Term) × Holds x

  abbrev terms : List M → List Term
  terms xs = map (λ m. m.0) xs

  seq_parts_stay : (xs : List M) (env : Env) → Stays (node_of env) (seq_parts (map (left_of s) (terms xs)) env)
  seq_parts_stay [] env = nothing (node_of env)
  seq_parts_stay (m ∷ xs) env = seq_stays (node_of env) (left_of s m.0 env) (seq_parts (map (left_of s) (terms xs)) env) (shown _) (shown _) (m.1 env) (seq_parts_stay xs env)

  par_parts_stay : (xs : List M) (env : Env) → Stays (node_of env) (par_parts (map (left_of s) (terms xs)) env)
  par_parts_stay [] env = nothing (node_of env)
  par_parts_stay (m ∷ xs) env = par_stays (node_of env) (left_of s m.0 env) (par_parts (map (left_of s) (terms xs)) env) (shown _) (shown _) (m.1 env) (par_parts_stay xs env)

  arm_stays : (xs : List M) (k : ℕ) (env : Env) → Stays (node_of env) (arm_of (map (left_of s) (terms xs)) k env)
  arm_stays [] k env = nothing (node_of env)
  arm_stays (m ∷ xs) zero env = m.1 env
  arm_stays (m ∷ xs) (suc k) env = arm_stays xs k env

  arm_at_stays : (xs : List M) (z : ℤ) (env : Env) → Stays (node_of env) (arm_at (map (left_of s) (terms xs)) z env)
  arm_at_stays xs (pos k) env = arm_stays xs k env
  arm_at_stays xs (negsuc k) env = nothing (node_of env)

  -- of one level
  level : (y : Term-F M) (env : Env) → Stays (node_of env) (left_step r (map-Term Term (Env → Left) (left_of s) (map-Term M Term (λ m. m.0) y)) env)
  level Term-F.Skip env = nothing (node_of env)
  level (Term-F.Act a) env = record { is = ap (λ f. f (node_of env)) (joined_act nowhere (event_text (λ n. count_of s n env) a)) }
  level (Term-F.Seq xs) env = seq_parts_stay xs env
  level (Term-F.Par xs) env = par_parts_stay xs env
  level (Term-F.Loop n m) env = seq_of_stays (node_of env) (count_of s n env) (λ k. left_of s m.0 (at_turn env k)) 0 (λ k. m.1 (at_turn env k))
  level (Term-F.Spread n rule m) env =
      let k = count_of s n env in
      let c = s.children (node_of env) in
      par_of_stays (node_of env) c (λ i. seq_of k (turn_at r rule k c (left_of s m.0) env i) 0) 0
      (λ i. seq_of_stays (node_of env) k (turn_at r rule k c (left_of s m.0) env i) 0 (λ u. either (node_of env) (child_of rule k c u == i) (left_of s m.0 (at_turn env u)) (m.1 (at_turn env u))))
  level (Term-F.Case n xs) env = arm_at_stays xs (value_of s n env) env
  level (Term-F.Within c bs m) env = scope_stays (node_of env) (node_of (inside_of s env c)) bs (left_of s m.0 (inside_of s env c)) (m.1 (inside_of s env c))

  step : (y : Term-F M) → Holds (roll-Term (map-Term M Term (λ m. m.0) y))
  step y env = subst (λ f. Stays (node_of env) (f env)) (sym (fold-roll-Term (Env → Left) (left_step r) (map-Term M Term (λ m. m.0) y))) (level y env)

  pub all_stay : (x : Term) → Holds x
  all_stay = ind-Term Holds (λ x y is. subst (λ z. Holds (roll-Term z)) is (step y))

-- what a file is written out as is joined already
stays_written : (f : PlanFile) → joined (written f).term 0 ≡ left_of (setting_of f.plan) f.plan.draft.term at_root
stays_written f = (all_stay (setting_of f.plan) f.plan.draft.term at_root).is

buffers_bare : (n : ℕ) (os : List ℕ) (bs : List Buffer) → map bare_buffer (buffer_lines n os bs) ≡ buffer_lines n os bs
buffers_bare n os [] = refl
buffers_bare n os (b ∷ bs) = ap (λ ls. buffer_line nowhere b.level (get_or os n 0) b.size b.instance b.array ∷ ls) (buffers_bare (suc n) os bs)

-- ---- leaves

same_only : (a b : Bytes) → same_name a b ≡ true → a ≡ b
same_only a b e = (bytes_eq-Decides a b).0 e

same_itself : (a : Bytes) → same_name a a ≡ true
same_itself a = (bytes_eq-Decides a a).1 refl

data In (n : Bytes) : List Bytes → Type 0 where
  first : {m : Bytes} {ms : List Bytes} → m ≡ n → In n (m ∷ ms)
  later : {m : Bytes} {ms : List Bytes} → In n ms → In n (m ∷ ms)

module _ (f : Bytes → ℤ) where
  abbrev bound : List Bytes → List Binding
  bound ns = map (λ n. binding n (f n)) ns

  abbrev pairs : List Bytes → Numbers
  pairs ns = map (λ b. (b.name, b.value)) (bound ns)

  -- a name that is bound has its number
  found : (ns : List Bytes) (n : Bytes) → In n ns → number_of (pairs ns) n ≡ f n
  found [] n at = elim at [ ]
  found (m ∷ ms) n at = by (same_name n m) refl at (found ms n)
    where
      by : (v : Bool) → same_name n m ≡ v → In n (m ∷ ms) → (In n ms → number_of (pairs ms) n ≡ f n)
          → or_zero (if v then Some (f m) else lookup (same_name n) (pairs ms)) ≡ f n
      by true e h rest = ap f (sym (same_only n m e))
      by false e (first d) rest = let z : true ≡ false = sym (same_itself n) ∙ ap (same_name n) (sym d) ∙ e in absurd (cc)
      by false e (later h) rest = rest h

  bound_again : (ns ms : List Bytes) → ((n : Bytes) → In n ns → In n ms) → map (λ n. binding n (number_of (pairs ms) n)) ns ≡ bound ns
  bound_again [] ms h = refl
  bound_again (n ∷ ns) ms h = ap₂ (λ k bs. binding n k ∷ bs) (found ms n (h n (first refl))) (bound_again ns ms (λ m d. h m (later d)))

leaves_bare : (ls : List Leaf) → map bare_leaf (map text_of ls) ≡ map text_of ls
leaves_bare [] = refl
leaves_bare (l ∷ ls) =
    let names = firsts [] (names_in l.code.variant) in
    ap₂ (λ bs ms. leaf_text nowhere l.instance bs l.code.variant ∷ ms) (bound_again (number_of l.code.numbers) names names (λ n d. d)) (leaves_bare ls)

arrays_bare : (xs : List EntryArray) → map bare_array (map array_of xs) ≡ map array_of xs
arrays_bare [] = refl
arrays_bare (a ∷ xs) = ap (λ ys. array_line a.mode a.elem (name_at nowhere a.name) a.extents a.buffer ∷ ys) (arrays_bare xs)

-- what a file is written out as, read and written out again, stays
pub written_again : (f : PlanFile) → StaysWritten f
written_again f = lines_same (written f).nodes (written f).nodes _ (written f).buffers _ (written f).leaves _ (written f).arrays _ (written f).term
    refl (buffers_bare 0 f.plan.offsets f.plan.draft.buffers) (leaves_bare f.plan.draft.leaves) (arrays_bare f.arrays) (ap whole (stays_written f))
