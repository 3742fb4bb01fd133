-- The plan of parts beside one another is well formed.
use Rattle.std.proofs.Common.{◌≡◌, ℕ, zero, suc, ◌+◌, ◌*◌, ◌<◌, ◌≤◌, pos, ℤ, List, [], ◌∷◌, Some, get_or, length, refl, sym, ap, ◌∙◌, subst, arith}
use Rattle.std.specs.Prelude.{nat_abs, ◌≤ℤ◌}
use Rattle.std.specs.List.{All}
use Rattle.std.proofs.lemmas.Int.{ints}
use Rattle.std.proofs.lemmas.List.Elements.{All-nil, All-cons}
use Rattle.sq_num.specs.declared.Elem.TheVariants.{Byte, Long}
use Rattle.sq_num.specs.Elements.{least, greatest, IsValue}
use Rattle.sq_rect.specs.declared.view.View.{View}
use Rattle.sq_text.specs.declared.spread.SpreadRule.{SpreadRule}
use Rattle.sq_ir.specs.Events.{Leaves, Finishes, places}
use Rattle.sq_ir.specs.Machines.{AreNodes}
use Rattle.sq_ir.specs.Written.{Setting, Env, at_root, at_turn, node_of, count_of}
use Rattle.sq_ir.specs.Plans.{HasValue, IsCount, IsBuffer, IsView, IsAllowed, Meets, this_arm, setting_of, IsWellFormed}
use Rattle.sq_ir.specs.Examples.{nodes, slot}
use Rattle.sq_ir.specs.declared.num.Num.{Num}
use Rattle.sq_ir.specs.declared.num.Num.TheVariants as n
use Rattle.sq_ir.specs.declared.term.Action.TheVariants as action
use Rattle.sq_ir.specs.declared.term.Term.{Term}
use Rattle.sq_ir.specs.declared.term.Term.TheVariants as t
use Rattle.sq_ir.specs.declared.plan.Plan.{Plan}
use Rattle.sq_ir.proofs.Counting.{has_const, has_index}
use Rattle.sq_ir.proofs.Meeting.{meets_skip, meets_act, meets_seq, meets_par, meets_loop, meets_spread, meets_case}
use Rattle.sq_ir.proofs.ExampleTrees.{const_is, index_is}
use Rattle.sq_ir.proofs.ExampleTerms.{are-nodes}
use Rattle.fixture_plans.specs.Mixed.{fill, first_fill, call, calls, choice, spread, turn, turns, parts, over, mixed}

long : (k : ℕ) → k < 9223372036854775808 → IsValue Long (pos k)
unfolding least greatest
long k h = record { low = omega (arith, ints); high = omega (arith, ints, h) }

module _ (s : Setting) (env : Env) where
  has : (k : ℕ) → k < 9223372036854775808 → HasValue s (n.Const (pos k)) env
  has k h = subst (λ (f : Env → Type 0). f env) (sym (has_const s (pos k))) (long k h)

  pub is-count : (k : ℕ) → k < 9223372036854775808 → IsCount s env (n.Const (pos k))
  is-count k h = record { has = has k h; natural = subst (λ z. pos 0 ≤ℤ z) (sym (const_is s (pos k) env)) (omega (arith, ints)) }

  count-const : (k : ℕ) → count_of s (n.Const (pos k)) env ≡ k
  count-const k = ap nat_abs (const_is s (pos k) env)

  -- the number of the innermost loop
  turn-count : (i : ℕ) (ts : List ℕ) → env.turns ≡ i ∷ ts → i < 9223372036854775808 → IsCount s env (n.Index 0)
  turn-count i ts e h =
      let v = index_is s env ∙ ap (λ l. pos (get_or l 0 0)) e in
      record {
        has = subst (λ (f : Env → Type 0). f env) (sym (has_index s 0)) (subst (λ l. (0 < length l) × IsValue Long (pos (get_or l 0 0))) (sym e) (omega arith, long i h));
        natural = subst (λ z. pos 0 ≤ℤ z) (sym v) (omega (arith, ints));
      }

  count-turn : (i : ℕ) (ts : List ℕ) → env.turns ≡ i ∷ ts → count_of s (n.Index 0) env ≡ i
  count-turn i ts e = ap nat_abs (index_is s env ∙ ap (λ l. pos (get_or l 0 0)) e)

-- leaves that take no arrays
abbrev pub idle : (C : Type 0) → Leaves C
idle C = record { shapes = λ code. Some []; written = λ code. []; ends = λ code arrays. Finishes [] }

module _ (C : Type 0) (term : Term) (room : 16 ≤ (setting_of (over term)).capacity 0) where
  abbrev s : Setting
  s = setting_of (over term)

  abbrev Met : Term → Env → Type 0
  Met x env = Meets s (IsAllowed (idle C) s) x env (0 ∷ [])

  fill-met : (env : Env) (at : Num) (value : ℤ) → env.nodes 0 ≡ 0 → IsCount s env at → count_of s at env ≤ 12 → Met (fill at value) env
  fill-met env at value e h le =
      let fits : 0 + count_of s at env + 4 * 1 ≤ s.capacity 0 = omega (arith, le, room) in
      subst (λ (f : Env → List ℕ → Type 0). f env (0 ∷ [])) (sym (meets_act s (IsAllowed (idle C) s) (action.FillRow (slot 0 at) Byte 4 value))) (record {
        inside = record { scope = (0, omega arith, refl); at = h; inside = omega (arith, le) };
        event = subst (λ node. 0 + count_of s at env + 4 * 1 ≤ s.capacity node) (sym e) fits;
      })

  const-met : (env : Env) (value : ℤ) → env.nodes 0 ≡ 0 → Met (first_fill value) env
  const-met env value e = let c = count-const s env 0 in fill-met env (n.Const (pos 0)) value e (is-count s env 0 (omega arith)) (omega (arith, c))

  turn-met : (env : Env) (value : ℤ) (i : ℕ) → env.nodes 0 ≡ 0 → i ≤ 12 → Met (fill (n.Index 0) value) (at_turn env i)
  turn-met env value i e le = let c = count-turn s (at_turn env i) i env.turns refl in fill-met (at_turn env i) (n.Index 0) value e (turn-count s (at_turn env i) i env.turns refl (omega (arith, le))) (omega (arith, c, le))

  call-met : (path : ℕ) → path < 4294967296 → Met (call path) at_root
  call-met path h =
      let c = count-const s at_root path in
      let number = is-count s at_root path (omega (arith, h)) in
      let words : All (λ k. k < 4294967296) (count_of s (n.Const (pos path)) at_root ∷ []) = All-cons (λ k. k < 4294967296) (count_of s (n.Const (pos path)) at_root) [] (omega (arith, c, h)) (All-nil (λ k. k < 4294967296)) in
      subst (λ (f : Env → List ℕ → Type 0). f at_root (0 ∷ [])) (sym (meets_act s (IsAllowed (idle C) s) (action.Leaf 0 [] (n.Const (pos path) ∷ [])))) (record {
        inside = (All-nil (IsView s at_root (0 ∷ [])), All-cons (IsCount s at_root) (n.Const (pos path)) [] number (All-nil (IsCount s at_root)));
        event = record {
          shapes = refl;
          strides = All-nil (λ (v : View). length v.strides ≡ length v.extents);
          some = All-nil (λ (v : View). All (λ n. 0 < n) v.extents);
          inside = All-nil (λ (v : View). All (λ k. k < s.capacity (node_of at_root)) (places v));
          apart = record { once = λ i v w g. cc; apart = λ i j v u k ne w g. cc };
          few = omega arith;
          near = All-nil (λ (v : View). v.at < 4294967296);
          short = omega arith;
          words = words;
        };
      })

  calls-met : (first second : ℕ) → first < 4294967296 → second < 4294967296 → Met (calls first second) at_root
  calls-met first second h k =
      let asked = IsAllowed (idle C) s in
      let both = call first ∷ call second ∷ [] in
      let par = subst (λ (f : Env → List ℕ → Type 0). f at_root (0 ∷ [])) (sym (meets_par s asked both)) (call-met first h, (call-met second k, tt)) in
      subst (λ (f : Env → List ℕ → Type 0). f at_root (0 ∷ [])) (sym (meets_seq s asked (t.Par both ∷ first_fill (pos 5) ∷ []))) (par, (const-met at_root (pos 5) refl, tt))

  arm : (first second : ℕ) → first < 4294967296 → second < 4294967296 → (k : ℕ) → this_arm (Meets s (IsAllowed (idle C) s)) (first_fill (pos 1) ∷ first_fill (pos 2) ∷ calls first second ∷ []) (pos k) at_root (0 ∷ [])
  arm first second h g zero = const-met at_root (pos 1) refl
  arm first second h g (suc zero) = const-met at_root (pos 2) refl
  arm first second h g (suc (suc zero)) = calls-met first second h g
  arm first second h g (suc (suc (suc k))) = tt

  choice-met : (pick first second : ℕ) → pick < 4294967296 → first < 4294967296 → second < 4294967296 → Met (choice pick first second) at_root
  choice-met pick first second p h g =
      let asked = IsAllowed (idle C) s in
      let arms = first_fill (pos 1) ∷ first_fill (pos 2) ∷ calls first second ∷ [] in
      subst (λ (f : Env → List ℕ → Type 0). f at_root (0 ∷ [])) (sym (meets_case s asked (n.Const (pos pick)) arms)) (has s at_root pick (omega (arith, p)), subst (λ z. this_arm (Meets s asked) arms z at_root (0 ∷ [])) (sym (const_is s (pos pick) at_root)) (arm first second h g pick))

  spread-met : (rule : SpreadRule) (count : ℕ) → count ≤ 13 → Met (spread rule count) at_root
  spread-met rule count few =
      let c = count-const s at_root count in
      subst (λ (f : Env → List ℕ → Type 0). f at_root (0 ∷ [])) (sym (meets_spread s (IsAllowed (idle C) s) (n.Const (pos count)) rule (fill (n.Index 0) (pos 3)))) (is-count s at_root count (omega (arith, few)), omega arith, λ i lt. turn-met at_root (pos 3) i refl (omega (arith, lt, c, few)))

  turns-met : (count : ℕ) → count ≤ 13 → Met (turns count) at_root
  turns-met count few =
      let asked = IsAllowed (idle C) s in
      let c = count-const s at_root count in
      let each : (i : ℕ) → i ≤ 12 → Met turn (at_turn at_root i) = λ i le. subst (λ (f : Env → List ℕ → Type 0). f (at_turn at_root i) (0 ∷ [])) (sym (meets_seq s asked (t.Skip ∷ fill (n.Index 0) (pos 4) ∷ []))) (subst (λ (f : Env → List ℕ → Type 0). f (at_turn at_root i) (0 ∷ [])) (sym (meets_skip s asked)) tt, (turn-met at_root (pos 4) i refl le, tt)) in
      subst (λ (f : Env → List ℕ → Type 0). f at_root (0 ∷ [])) (sym (meets_loop s asked (n.Const (pos count)) turn)) (is-count s at_root count (omega (arith, few)), λ i lt. each i (omega (arith, lt, c, few)))

pub mixed-formed : (C : Type 0) (rule : SpreadRule) (pick count times first second : ℕ) → pick < 4294967296 → count ≤ 13 → times ≤ 13 → first < 4294967296 → second < 4294967296 → IsWellFormed (idle C) (mixed rule pick count times first second)
mixed-formed C rule pick count times first second p few some h g =
    let all = parts rule pick count times first second in
    let term = t.Par all in
    let s = setting_of (over term) in
    let room : 16 ≤ 16 = omega arith in
    record {
      nodes = are-nodes;
      offsets = refl;
      entry = All-cons (IsBuffer s 0) 0 [] (record { there = omega arith; level = refl }) (All-nil (IsBuffer s 0));
      term = subst (λ (f : Env → List ℕ → Type 0). f at_root (0 ∷ [])) (sym (meets_par s (IsAllowed (idle C) s) all)) (choice-met C term room pick first second p h g, (spread-met C term room rule count few, (turns-met C term room times some, tt)));
    }
