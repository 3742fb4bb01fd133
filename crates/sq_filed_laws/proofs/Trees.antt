-- The tree of a plan file's term: its scopes stand round events where its lines do, and it has as many events.
use Rattle.std.proofs.Common.{◌≡◌, ℕ, zero, suc, ◌+◌, Bool, true, false, Option, List, [], ◌∷◌, map, refl, sym, ◌∙◌, ap, ap₂, subst}
use Rattle.sq_ir.specs.Tree.{Seq, Par, Within, is_done, waiting}
use Rattle.sq_ir.specs.Written.{Setting, Env, PlanTree, Part, at_root, node_of, inside_of}
use Rattle.sq_ir.specs.declared.num.Num.{Num}
use Rattle.sq_ir.specs.declared.term.Term.{Term}
use Rattle.sq_ir.specs.declared.term.Term.TheVariants as term
use Rattle.sq_ir.specs.declared.plan.PlanNode.{PlanNode}
use Rattle.sq_plantext.specs.declared.text.TermText.{TermText, roll-TermText}
use Rattle.sq_plantext.specs.declared.text.TermText.TheVariants as text
use Rattle.sq_plantext.specs.declared.text.TermText.TheOpen.{TermText-F}
use Rattle.sq_plantext.specs.declared.text.TermText.TheFolds.{ind-TermText, map-TermText}
use Rattle.sq_planfile.specs.Files.{child_at, action_of, each_below}
use Rattle.sq_planfile.specs.Limits.{sum, size}
use Rattle.sq_planfile.proofs.Equations.{below, below_seq, below_par, below_at, below_act}
use Rattle.sq_planfile.proofs.Sizes.{size_seq, size_par, size_at, size_act}
use Rattle.sq_check_laws.specs.Whole.{in_turn, beside, enclosed, whole}
use Rattle.sq_check_laws.proofs.Equations.{whole_seq, whole_par, whole_within, whole_act}
use Rattle.sq_filed_laws.proofs.Trimmed.{IsFull}
use Rattle.sq_filed_laws.proofs.Full.{HasEvents, is_there, each, full_seq, full_par, full_at}

along : {P Q : Type 0} → P ≡ Q → P → Q
along e h = subst (λ (t : Type 0). t) e h

module _ (s : Setting) (nodes : List PlanNode) where
  -- the tree of a term of lines, where this node is in force
  abbrev pub tree : TermText → (here : ℕ) → Part
  tree t here = whole s (below nodes t here)

  pub tree_seq : (xs : List TermText) (here : ℕ) (env : Env) → tree (text.Seq xs) here env ≡ in_turn (map (whole s) (each_below (map (below nodes) xs) here)) env
  tree_seq xs here env =
      ap (λ f. whole s (f here) env) (below_seq nodes xs)
      ∙ ap (λ (f : Part). f env) (whole_seq s (each_below (map (below nodes) xs) here))

  tree_par : (xs : List TermText) (here : ℕ) (env : Env) → tree (text.Par xs) here env ≡ beside (map (whole s) (each_below (map (below nodes) xs) here)) env
  tree_par xs here env =
      ap (λ f. whole s (f here) env) (below_par nodes xs)
      ∙ ap (λ (f : Part). f env) (whole_par s (each_below (map (below nodes) xs) here))

  tree_at : (p : _) (node : ℕ) (bs : List ℕ) (x : TermText) (here : ℕ) (env : Env)
      → tree (text.At p node bs x) here env
      ≡ enclosed (node_of (inside_of s env (child_at nodes here node))) bs (tree x node (inside_of s env (child_at nodes here node)))
  tree_at p node bs x here env =
      ap (λ f. whole s (f here) env) (below_at nodes p node bs x)
      ∙ ap (λ (f : Part). f env) (whole_within s (child_at nodes here node) bs (below nodes x node))

  tree_act : (p : _) (e : _) (here : ℕ) (env : Env) → tree (text.Act p e) here env ≡ whole s (term.Act (action_of e)) env
  tree_act p e here env = ap (λ f. whole s (f here) env) (below_act nodes p e)

  -- ---- as many events

  abbrev Counts : TermText → Type 0
  Counts t = (here : ℕ) (env : Env) → waiting (tree t here env) ≡ size t

  abbrev K : Type 0
  K = (t : TermText) × Counts t

  abbrev texts : List K → List TermText
  texts ks = map (λ k. k.0) ks

  turns_count : (ks : List K) (here : ℕ) (env : Env) → waiting (in_turn (map (whole s) (each_below (map (below nodes) (texts ks)) here)) env) ≡ sum (map size (texts ks))
  turns_count [] here env = refl
  turns_count (k ∷ ks) here env = ap₂ (λ a b. a + b) (k.1 here env) (turns_count ks here env)

  lanes_count : (ks : List K) (here : ℕ) (env : Env) → waiting (beside (map (whole s) (each_below (map (below nodes) (texts ks)) here)) env) ≡ sum (map size (texts ks))
  lanes_count [] here env = refl
  lanes_count (k ∷ ks) here env = ap₂ (λ a b. a + b) (k.1 here env) (lanes_count ks here env)

  pub enclosed_count : (node : ℕ) (bs : List ℕ) (a : PlanTree) → waiting (enclosed node bs a) ≡ waiting a
  enclosed_count node [] a = refl
  enclosed_count node (b ∷ bs) a = refl

  count_step : (y : TermText-F K) → Counts (roll-TermText (map-TermText K TermText (λ k. k.0) y))
  count_step (TermText-F.Seq ks) = subst Counts (sym (text.rolls-Seq (texts ks)))
      (λ here env. ap waiting (tree_seq (texts ks) here env) ∙ (turns_count ks here env ∙ sym (size_seq (texts ks))))
  count_step (TermText-F.Par ks) = subst Counts (sym (text.rolls-Par (texts ks)))
      (λ here env. ap waiting (tree_par (texts ks) here env) ∙ (lanes_count ks here env ∙ sym (size_par (texts ks))))
  count_step (TermText-F.At p node bs k) = subst Counts (sym (text.rolls-At p node bs k.0))
      (λ here env.
      let inner = inside_of s env (child_at nodes here node) in
      ap waiting (tree_at p node bs k.0 here env) ∙ (enclosed_count (node_of inner) bs (tree k.0 node inner) ∙ (k.1 node inner ∙ sym (size_at p node bs k.0))))
  count_step (TermText-F.Act p e) = subst Counts (sym (text.rolls-Act p e))
      (λ here env. ap waiting (tree_act p e here env) ∙ (ap (λ (f : Part). waiting (f env)) (whole_act s (action_of e)) ∙ sym (size_act p e)))

  pub as_many : (t : TermText) (here : ℕ) (env : Env) → waiting (tree t here env) ≡ size t
  as_many = ind-TermText Counts (λ x y is. subst (λ z. Counts (roll-TermText z)) is (count_step y))

  -- ---- scopes round events

  abbrev IsFullTree : PlanTree → Type 0
  IsFullTree t = (is_done t ≡ false) × IsFull t

  abbrev Fills : TermText → Type 0
  Fills t = HasEvents t → (here : ℕ) (env : Env) → IsFullTree (tree t here env)

  abbrev F : Type 0
  F = (t : TermText) × Fills t

  abbrev parts : List F → List TermText
  parts fs = map (λ f. f.0) fs

  first_left : (a b : PlanTree) → is_done a ≡ false → is_done (Seq a b) ≡ false
  first_left a b p = rw p refl

  one_left : (a b : PlanTree) → is_done a ≡ false → is_done (Par a b) ≡ false
  one_left a b p = rw p refl

  turns_full : (fs : List F) → each HasEvents (parts fs) → (here : ℕ) (env : Env) → IsFull (in_turn (map (whole s) (each_below (map (below nodes) (parts fs)) here)) env)
  turns_full [] h here env = tt
  turns_full (f ∷ fs) h here env = ((f.1 h.0 here env).1, turns_full fs h.1 here env)

  lanes_full : (fs : List F) → each HasEvents (parts fs) → (here : ℕ) (env : Env) → IsFull (beside (map (whole s) (each_below (map (below nodes) (parts fs)) here)) env)
  lanes_full [] h here env = tt
  lanes_full (f ∷ fs) h here env = ((f.1 h.0 here env).1, lanes_full fs h.1 here env)

  turns_left : (fs : List F) → is_there (parts fs) → each HasEvents (parts fs) → (here : ℕ) (env : Env)
      → is_done (in_turn (map (whole s) (each_below (map (below nodes) (parts fs)) here)) env) ≡ false
  turns_left [] there h here env = absurd there
  turns_left (f ∷ fs) there h here env = first_left (tree f.0 here env) (in_turn (map (whole s) (each_below (map (below nodes) (parts fs)) here)) env) (f.1 h.0 here env).0

  lanes_left : (fs : List F) → is_there (parts fs) → each HasEvents (parts fs) → (here : ℕ) (env : Env)
      → is_done (beside (map (whole s) (each_below (map (below nodes) (parts fs)) here)) env) ≡ false
  lanes_left [] there h here env = absurd there
  lanes_left (f ∷ fs) there h here env = one_left (tree f.0 here env) (beside (map (whole s) (each_below (map (below nodes) (parts fs)) here)) env) (f.1 h.0 here env).0

  enclosed_full : (node : ℕ) (bs : List ℕ) (a : PlanTree) → IsFullTree a → IsFullTree (enclosed node bs a)
  enclosed_full node [] a h = h
  enclosed_full node (b ∷ bs) a h = (h.0, (h.0, h.1))

  full_step : (y : TermText-F F) → Fills (roll-TermText (map-TermText F TermText (λ k. k.0) y))
  full_step (TermText-F.Seq fs) = subst Fills (sym (text.rolls-Seq (parts fs)))
      (λ h here env.
      let k = along (full_seq (parts fs)) h in
      subst IsFullTree (sym (tree_seq (parts fs) here env)) (turns_left fs k.0 k.1 here env, turns_full fs k.1 here env))
  full_step (TermText-F.Par fs) = subst Fills (sym (text.rolls-Par (parts fs)))
      (λ h here env.
      let k = along (full_par (parts fs)) h in
      subst IsFullTree (sym (tree_par (parts fs) here env)) (lanes_left fs k.0 k.1 here env, lanes_full fs k.1 here env))
  full_step (TermText-F.At p node bs f) = subst Fills (sym (text.rolls-At p node bs f.0))
      (λ h here env.
      let inner = inside_of s env (child_at nodes here node) in
      subst IsFullTree (sym (tree_at p node bs f.0 here env))
      (enclosed_full (node_of inner) bs (tree f.0 node inner) (f.1 (along (full_at p node bs f.0) h) node inner)))
  full_step (TermText-F.Act p e) = subst Fills (sym (text.rolls-Act p e))
      (λ h here env. subst IsFullTree (sym (tree_act p e here env ∙ ap (λ (f : Part). f env) (whole_act s (action_of e)))) (refl, tt))

  pub fills : (t : TermText) → HasEvents t → (here : ℕ) (env : Env) → IsFullTree (tree t here env)
  fills = ind-TermText Fills (λ x y is. subst (λ z. Fills (roll-TermText z)) is (full_step y))
