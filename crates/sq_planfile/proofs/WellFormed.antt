-- Lines that are sound stand for a plan that is well formed.
use Rattle.std.proofs.Common.{◌≡◌, ℕ, zero, suc, ◌+◌, ◌-◌, ◌<◌, ◌≤◌, ◌==◌, ◌⊎◌, Bool, true, false, if◌then◌else◌, List, [], ◌∷◌, ◌++◌, map, length, pos, Some, None, inl, inr, refl, sym, ap, ◌∙◌, subst, arith}
use Rattle.std.specs.Prelude.{nat_abs}
use Rattle.std.specs.Prelude.{◌≤ℤ◌}
use Rattle.std.proofs.lemmas.Bool.{eqb-true}
use Rattle.std.proofs.lemmas.Bool.Decides.{eqb_tells}
use Rattle.std.proofs.lemmas.Int.{ints}
use Rattle.std.specs.List.{All, slice_get}
use Rattle.sq_num.specs.declared.Elem.TheVariants.{Long}
use Rattle.sq_num.specs.Elements.{least, greatest, IsValue}
use Rattle.sq_text.specs.declared.place.Place.{Place}
use Rattle.sq_ir.specs.declared.term.Term.TheVariants as term
use Rattle.sq_ir.specs.declared.plan.PlanNode.{PlanNode}
use Rattle.sq_ir.specs.Machines.{AreNodes}
use Rattle.sq_ir.specs.DraftLeaves.{leaves_of}
use Rattle.sq_ir.specs.Written.{Setting, Env, at_root, node_of, value_of, count_of, inside_of}
use Rattle.sq_ir.specs.Plans.{IsCount, IsChild, IsBuffer, IsAllowed, AskedOfActions, AskedOfTerms, each_part, Meets, node_at, of_buffer, setting_of, IsWellFormed}
use Rattle.sq_plantext.specs.declared.text.BufferLine.{BufferLine}
use Rattle.sq_plantext.specs.declared.text.ArrayLine.{ArrayLine}
use Rattle.sq_plantext.specs.declared.text.TermText.{TermText, roll-TermText}
use Rattle.sq_plantext.specs.declared.text.TermText.TheVariants as t
use Rattle.sq_plantext.specs.declared.text.TermText.TheOpen.{TermText-F}
use Rattle.sq_plantext.specs.declared.text.TermText.TheFolds.{ind-TermText, map-TermText}
use Rattle.sq_plantext.specs.declared.text.PlanText.{PlanText}
use Rattle.sq_planfile.specs.Files.{Below, each_below, buffer_of, constant, child_at, nodes_of, draft_of, plan_of, action_of}
use Rattle.sq_planfile.specs.Sound.{AskedOfTexts, AreEvents, IsScope, IsArrayLine, AreArrays, IsSound}
use Rattle.sq_planfile.specs.Sound as sound
use Rattle.sq_ir.proofs.Meeting.{meets_seq, meets_par, meets_act, meets_within}
use Rattle.sq_ir.proofs.Counting.{has_const}
use Rattle.sq_ir.proofs.Equations.{value_const}
use Rattle.sq_planfile.proofs.Equations.{below, below_seq, below_par, below_at, below_act, sound_seq, sound_par, sound_at, sound_act}

-- ---- constants

small : (k : ℕ) → k < 4294967296 → IsValue Long (pos k)
unfolding least greatest
small k h = record { low = omega (arith, ints, h); high = omega (arith, ints, h) }

module _ (s : Setting) where
  worth : (k : ℕ) (env : Env) → value_of s (constant k) env ≡ pos k
  worth k env = ap (λ f. f env) (value_const s (pos k))

  pub counted : (k : ℕ) (env : Env) → count_of s (constant k) env ≡ k
  counted k env = ap nat_abs (worth k env)

  is_count : (k : ℕ) (env : Env) → k < 4294967296 → IsCount s env (constant k)
  is_count k env h = record {
    has = subst (λ (f : Env → Type 0). f env) (sym (has_const s (pos k))) (small k h);
    natural = subst (λ z. pos 0 ≤ℤ z) (sym (worth k env)) (omega (arith, ints));
  }

-- ---- nodes and buffers

itself : (n : ℕ) → (n == n) ≡ true
itself n = elim (eqb_tells n n) [ inl h ↦ h.0 | inr h ↦ absurd (h.1 refl) ]

few_children : (nodes : List PlanNode) → ((i : ℕ) (m : PlanNode) → slice_get nodes i ≡ Some m → m.children ≤ 64) → (i : ℕ) → (node_at nodes i).children ≤ 64
few_children [] h i = omega arith
few_children (m ∷ nodes) h zero = h 0 m refl
few_children (m ∷ nodes) h (suc i) = few_children nodes (λ j k e. h (suc j) k e) i

-- a buffer that is there is one of the plan's, with its level
there : (bs : List BufferLine) (i : ℕ) (b : BufferLine) → slice_get bs i ≡ Some b → (i < length (map buffer_of bs)) × (of_buffer (map buffer_of bs) (λ b. b.level) i ≡ b.level)
there [] i b e = absurd (cc)
there (y ∷ bs) zero b e = let same : y ≡ b = cc in (omega arith, ap (λ (b : BufferLine). b.level) same)
there (y ∷ bs) (suc i) b e = let h = there bs i b e in (omega (arith, h.0), h.1)

same_length : {A B C : Type 0} (f : A → B) (g : A → C) (xs : List A) → length (map f xs) ≡ length (map g xs)
same_length f g [] = refl
same_length f g (x ∷ xs) = ap suc (same_length f g xs)

module _ (x : PlanText) where
  abbrev S : Setting
  S = setting_of (plan_of x)

  abbrev asked : AskedOfActions
  asked = IsAllowed (leaves_of (draft_of x)) S

  entry_of : (before arrays : List ArrayLine) → AreArrays x.buffers before arrays → All (IsBuffer S 0) (map (λ a. a.buffer) arrays)
  entry_of before [] h k d lt = absurd (omega (arith, lt))
  entry_of before (a ∷ later) h zero d lt = let y = there x.buffers a.buffer h.0.buffer h.0.there in record { there = y.0; level = y.1 ∙ h.0.root }
  entry_of before (a ∷ later) h (suc k) d lt = entry_of (before ++ a ∷ []) later h.1 k d (omega (arith, lt))

  module _ (sound_nodes : AreNodes (nodes_of x)) where
    pub few : (i : ℕ) → (node_at (nodes_of x) i).children ≤ 64
    few = few_children (nodes_of x) (λ i m e. (sound_nodes.each i m e).few)

    -- the body of a scope runs at its node
    pub at_node : (env : Env) (node : ℕ) (bs : List ℕ) → IsScope x env node bs → (b : Bool) → (node_of env == node) ≡ b
        → IsChild S env (if b then None else Some (constant (node - (node_at (nodes_of x) (node_of env)).first_child)))
        × (node_of (inside_of S env (if b then None else Some (constant (node - (node_at (nodes_of x) (node_of env)).first_child)))) ≡ node)
    at_node env node bs h true e = (tt, eqb-true (node_of env) node e)
    at_node env node bs h false e = other h.at
      where
        c : ℕ
        c = node - (node_at (nodes_of x) (node_of env)).first_child

        other : (node ≡ node_of env) ⊎ (((node_at (nodes_of x) (node_of env)).first_child ≤ node) × (node < (node_at (nodes_of x) (node_of env)).first_child + (node_at (nodes_of x) (node_of env)).children))
            → IsChild S env (Some (constant (node - (node_at (nodes_of x) (node_of env)).first_child)))
            × (node_of (inside_of S env (Some (constant (node - (node_at (nodes_of x) (node_of env)).first_child)))) ≡ node)
        other (inl same) = let both : true ≡ false = sym (itself (node_of env)) ∙ ap (λ n. node_of env == n) (sym same) ∙ e in absurd (cc)
        other (inr (low, high)) =
            let k = node - (node_at (nodes_of x) (node_of env)).first_child in
            let below_children : k < (node_at (nodes_of x) (node_of env)).children = omega (arith, low, high) in
            let n_is : count_of S (constant k) env ≡ k = counted S k env in (
              (is_count S k env (omega (arith, below_children, few (node_of env))), subst (λ n. n < (node_at (nodes_of x) (node_of env)).children) (sym n_is) below_children),
              ap (λ b. if b then (node_at (nodes_of x) (node_of env)).first_child + count_of S (constant k) env else env.nodes (suc env.level)) (itself (suc env.level))
                  ∙ ap (λ n. (node_at (nodes_of x) (node_of env)).first_child + n) n_is ∙ omega (arith, low),
            )

    -- ---- terms

    abbrev Holds : TermText → Type 0
    Holds y = (env : Env) (bs : List ℕ) → AreEvents x y env bs → Meets S asked (below (nodes_of x) y (node_of env)) env bs

    abbrev M : Type 0
    M = (y : TermText) × Holds y

    abbrev texts : List M → List TermText
    texts xs = map (λ m. m.0) xs

    parts_met : (xs : List M) (env : Env) (bs : List ℕ) → sound.each_part (AreEvents x) (texts xs) env bs → each_part (Meets S asked) (each_below (map (below (nodes_of x)) (texts xs)) (node_of env)) env bs
    parts_met [] env bs h = tt
    parts_met (m ∷ xs) env bs h = (m.1 env bs h.0, parts_met xs env bs h.1)

    by_equations : (y : TermText) (asks : AskedOfTexts) (b : Below) → AreEvents x y ≡ asks → below (nodes_of x) y ≡ b → ((env : Env) (bs : List ℕ) → asks env bs → Meets S asked (b (node_of env)) env bs) → Holds y
    by_equations y asks b e q h env bs s = subst (λ (f : Below). Meets S asked (f (node_of env)) env bs) (sym q) (h env bs (subst (λ (f : AskedOfTexts). f env bs) e s))

    scope_met : (p : Place) (node : ℕ) (buffers : List ℕ) (m : M) (env : Env) (bs : List ℕ) → IsScope x env node buffers → AreEvents x m.0 (sound.inside x env node) (buffers ++ bs)
        → Meets S asked (term.Within (child_at (nodes_of x) (node_of env) node) buffers (below (nodes_of x) m.0 node)) env bs
    scope_met p node buffers m env bs h g =
        let at = at_node env node buffers h (node_of env == node) refl in
        subst (λ (f : AskedOfTerms). f env bs) (sym (meets_within S asked (child_at (nodes_of x) (node_of env) node) buffers (below (nodes_of x) m.0 node)))
        (at.0, h.names, subst (λ k. Meets S asked (below (nodes_of x) m.0 k) (sound.inside x env node) (buffers ++ bs)) at.1 (m.1 (sound.inside x env node) (buffers ++ bs) g))

    step : (y : TermText-F M) → Holds (roll-TermText (map-TermText M TermText (λ m. m.0) y))
    step (TermText-F.Seq xs) = subst Holds (sym (t.rolls-Seq (texts xs))) (by_equations (t.Seq (texts xs)) _ _ (sound_seq x (texts xs)) (below_seq (nodes_of x) (texts xs))
        (λ env bs h. subst (λ (f : AskedOfTerms). f env bs) (sym (meets_seq S asked (each_below (map (below (nodes_of x)) (texts xs)) (node_of env)))) (parts_met xs env bs h)))
    step (TermText-F.Par xs) = subst Holds (sym (t.rolls-Par (texts xs))) (by_equations (t.Par (texts xs)) _ _ (sound_par x (texts xs)) (below_par (nodes_of x) (texts xs))
        (λ env bs h. subst (λ (f : AskedOfTerms). f env bs) (sym (meets_par S asked (each_below (map (below (nodes_of x)) (texts xs)) (node_of env)))) (parts_met xs env bs h)))
    step (TermText-F.At p node buffers m) = subst Holds (sym (t.rolls-At p node buffers m.0)) (by_equations (t.At p node buffers m.0) _ _ (sound_at x p node buffers m.0) (below_at (nodes_of x) p node buffers m.0)
        (λ env bs h. scope_met p node buffers m env bs h.0 h.1))
    step (TermText-F.Act p e) = subst Holds (sym (t.rolls-Act p e)) (by_equations (t.Act p e) _ _ (sound_act x p e) (below_act (nodes_of x) p e)
        (λ env bs h. subst (λ (f : AskedOfTerms). f env bs) (sym (meets_act S asked (action_of e))) h.allowed))

    all_met : (y : TermText) → Holds y
    all_met = ind-TermText Holds (λ y z is. subst (λ w. Holds (roll-TermText w)) is (step z))

  -- the plan of sound lines is well formed
  pub sound_is_well_formed : IsSound x → IsWellFormed (leaves_of (draft_of x)) (plan_of x)
  sound_is_well_formed s = record {
    nodes = s.nodes;
    offsets = same_length (λ b. b.offset) buffer_of x.buffers;
    entry = entry_of [] x.arrays s.arrays;
    term = all_met s.nodes x.term at_root (map (λ a. a.buffer) x.arrays) s.events;
  }
