-- A file that was read is written out as its lines were.
use Rattle.std.proofs.Common.{◌≡◌, ℕ, suc, ◌==◌, List, [], ◌∷◌, ◌++◌, map, length, get_or, refl, sym, ap, ◌∙◌, subst, append_assoc}
use Rattle.sq_text.specs.declared.place.Place.{Place}
use Rattle.sq_ast.specs.Unplaced.{nowhere}
use Rattle.sq_ir.specs.declared.term.Term.TheVariants as term
use Rattle.sq_ir.specs.declared.num.Num.{Num}
use Rattle.sq_ir.specs.Machines.{AreNodes}
use Rattle.sq_ir.specs.Written.{Setting, Env, at_root, node_of, count_of}
use Rattle.sq_ir.specs.Plans.{setting_of}
use Rattle.sq_plantext.specs.Grammar.{plan_text}
use Rattle.sq_plantext.specs.declared.text.NodeLine.{NodeLine}
use Rattle.sq_plantext.specs.declared.text.BufferLine.{BufferLine}
use Rattle.sq_plantext.specs.declared.text.LeafText.{LeafText}
use Rattle.sq_plantext.specs.declared.text.ArrayLine.{ArrayLine}
use Rattle.sq_plantext.specs.declared.text.SlotText.{SlotText}
use Rattle.sq_plantext.specs.declared.text.ViewText.{ViewText}
use Rattle.sq_plantext.specs.declared.text.EventText.{EventText}
use Rattle.sq_plantext.specs.declared.text.EventText.TheVariants as event
use Rattle.sq_plantext.specs.declared.text.TermText.{TermText, roll-TermText}
use Rattle.sq_plantext.specs.declared.text.TermText.TheVariants as t
use Rattle.sq_plantext.specs.declared.text.TermText.TheOpen.{TermText-F}
use Rattle.sq_plantext.specs.declared.text.TermText.TheFolds.{fold-roll-TermText, ind-TermText, map-TermText}
use Rattle.sq_plantext.specs.declared.text.PlanText.{PlanText}
use Rattle.sq_planfile.specs.Files.{Below, each_below, node_of as plan_node, buffer_of, leaf_of, array_of as entry_of, constant, child_at, nodes_of, plan_of, action_of, slot_of, view_of}
use Rattle.sq_planfile.specs.declared.left.Left.{Left}
use Rattle.sq_planfile.specs.declared.left.Left.TheVariants.{Alone}
use Rattle.sq_planfile.specs.Left.{then_seq, then_par, scope, whole}
use Rattle.sq_planfile.specs.Written.{slot_text, view_text, event_text, seq_parts, par_parts, reading_of, left_of, line_of, buffer_lines, text_of, array_of}
use Rattle.sq_planfile.specs.Joined.{joined_step, joined, bare_buffer, bare_leaf, bare_array, ReadsBack}
use Rattle.sq_planfile.specs.Sound.{AskedOfTexts, AreEvents, IsScope, IsSound}
use Rattle.sq_planfile.specs.Sound as sound
use Rattle.sq_planfile.proofs.Equations.{below, below_seq, below_par, below_at, below_act, sound_seq, sound_par, sound_at, sound_act}
use Rattle.sq_planfile.proofs.Forms.{left_act, left_seq, left_par, left_within}
use Rattle.sq_planfile.proofs.WellFormed.{counted, at_node}

-- ---- events

module _ (s : Setting) (env : Env) where
  abbrev counts : Num → ℕ
  counts n = count_of s n env

  slot_again : (x : SlotText) → slot_text counts (slot_of x) ≡ x
  slot_again x = ap (λ n. record { buffer = x.buffer; at = n }) (counted s x.at env)

  views_again : (vs : List ViewText) → map (view_text counts) (map view_of vs) ≡ vs
  views_again [] = refl
  views_again (v ∷ vs) = ap (λ y. record { slot = y; elem = v.elem; extents = v.extents; strides = v.strides } ∷ map (view_text counts) (map view_of vs)) (slot_again v.slot)
      ∙ ap (λ vs. v ∷ vs) (views_again vs)

  path_again : (ks : List ℕ) → map counts (map constant ks) ≡ ks
  path_again [] = refl
  path_again (k ∷ ks) = ap (λ n. n ∷ map counts (map constant ks)) (counted s k env) ∙ ap (λ ks. k ∷ ks) (path_again ks)

  event_again : (e : EventText) → event_text counts (action_of e) ≡ e
  event_again (event.Copy from to bytes) = ap (λ a. event.Copy a (slot_text counts (slot_of to)) bytes) (slot_again from) ∙ ap (λ b. event.Copy from b bytes) (slot_again to)
  event_again (event.Fill to e count value) = ap (λ b. event.Fill b e count value) (slot_again to)
  event_again (event.Acc op e from to count) = ap (λ a. event.Acc op e a (slot_text counts (slot_of to)) count) (slot_again from) ∙ ap (λ b. event.Acc op e from b count) (slot_again to)
  event_again (event.Run leaf views path) =
      ap (λ vs. event.Run leaf vs (map counts (map constant path))) (views_again views) ∙ ap (λ ks. event.Run leaf views ks) (path_again path)

-- ---- the equations of what is joined

pub joined_seq : (xs : List TermText) → joined (t.Seq xs) ≡ joined_step (TermText-F.Seq (map joined xs))
joined_seq xs = ap joined (sym (t.rolls-Seq xs)) ∙ fold-roll-TermText (ℕ → Left) joined_step (TermText-F.Seq xs)

pub joined_par : (xs : List TermText) → joined (t.Par xs) ≡ joined_step (TermText-F.Par (map joined xs))
joined_par xs = ap joined (sym (t.rolls-Par xs)) ∙ fold-roll-TermText (ℕ → Left) joined_step (TermText-F.Par xs)

pub joined_at : (p : Place) (node : ℕ) (bs : List ℕ) (x : TermText) → joined (t.At p node bs x) ≡ joined_step (TermText-F.At p node bs (joined x))
joined_at p node bs x = ap joined (sym (t.rolls-At p node bs x)) ∙ fold-roll-TermText (ℕ → Left) joined_step (TermText-F.At p node bs x)

pub joined_act : (p : Place) (e : EventText) → joined (t.Act p e) ≡ joined_step (TermText-F.Act p e)
joined_act p e = ap joined (sym (t.rolls-Act p e)) ∙ fold-roll-TermText (ℕ → Left) joined_step (TermText-F.Act p e)

-- ---- lists of lines

nodes_again : (ns : List NodeLine) → map line_of (map plan_node ns) ≡ ns
nodes_again [] = refl
nodes_again (n ∷ ns) = ap (λ ms. n ∷ ms) (nodes_again ns)

get_behind : (pre : List ℕ) (o : ℕ) (os : List ℕ) → get_or (pre ++ o ∷ os) (length pre) 0 ≡ o
get_behind [] o os = refl
get_behind (p ∷ pre) o os = get_behind pre o os

length_more : (pre : List ℕ) (o : ℕ) → length (pre ++ o ∷ []) ≡ suc (length pre)
length_more [] o = refl
length_more (p ∷ pre) o = ap suc (length_more pre o)

buffers_again : (pre : List ℕ) (bs : List BufferLine) → buffer_lines (length pre) (pre ++ map (λ b. b.offset) bs) (map buffer_of bs) ≡ map bare_buffer bs
buffers_again pre [] = refl
buffers_again pre (b ∷ bs) =
    ap (λ o. record { place = nowhere; level = b.level; offset = o; size = b.size; instance = b.instance; array = b.array } ∷ buffer_lines (suc (length pre)) (pre ++ b.offset ∷ map (λ b. b.offset) bs) (map buffer_of bs))
    (get_behind pre b.offset (map (λ b. b.offset) bs))
    ∙ ap (λ bs. bare_buffer b ∷ bs) (ap (λ n. buffer_lines n (pre ++ b.offset ∷ map (λ b. b.offset) bs) (map buffer_of bs)) (sym (length_more pre b.offset))
    ∙ ap (λ os. buffer_lines (length (pre ++ b.offset ∷ [])) os (map buffer_of bs)) (sym (append_assoc pre (b.offset ∷ []) (map (λ b. b.offset) bs))) ∙ buffers_again (pre ++ b.offset ∷ []) bs)

leaves_again : (ls : List LeafText) → map text_of (map leaf_of ls) ≡ map bare_leaf ls
leaves_again [] = refl
leaves_again (l ∷ ls) = ap (λ ls. bare_leaf l ∷ ls) (leaves_again ls)

arrays_again : (xs : List ArrayLine) → map array_of (map entry_of xs) ≡ map bare_array xs
arrays_again [] = refl
arrays_again (a ∷ xs) = ap (λ xs. bare_array a ∷ xs) (arrays_again xs)

-- ---- terms

module _ (x : PlanText) (nodes : AreNodes (nodes_of x)) where
  abbrev S : Setting
  S = setting_of (plan_of x)

  abbrev Same : TermText → Type 0
  Same y = (env : Env) (bs : List ℕ) → AreEvents x y env bs → left_of S (below (nodes_of x) y (node_of env)) env ≡ joined y (node_of env)

  abbrev M : Type 0
  M = (y : TermText) × Same y

  abbrev texts : List M → List TermText
  texts xs = map (λ m. m.0) xs

  seq_same : (xs : List M) (env : Env) (bs : List ℕ) → sound.each_part (AreEvents x) (texts xs) env bs → seq_parts (map (left_of S) (each_below (map (below (nodes_of x)) (texts xs)) (node_of env))) env ≡ seq_parts (map joined (texts xs)) (node_of env)
  seq_same [] env bs h = refl
  seq_same (m ∷ xs) env bs h = ap (λ a. then_seq a (seq_parts (map (left_of S) (each_below (map (below (nodes_of x)) (texts xs)) (node_of env))) env)) (m.1 env bs h.0) ∙ ap (λ b. then_seq (joined m.0 (node_of env)) b) (seq_same xs env bs h.1)

  par_same : (xs : List M) (env : Env) (bs : List ℕ) → sound.each_part (AreEvents x) (texts xs) env bs → par_parts (map (left_of S) (each_below (map (below (nodes_of x)) (texts xs)) (node_of env))) env ≡ par_parts (map joined (texts xs)) (node_of env)
  par_same [] env bs h = refl
  par_same (m ∷ xs) env bs h = ap (λ a. then_par a (par_parts (map (left_of S) (each_below (map (below (nodes_of x)) (texts xs)) (node_of env))) env)) (m.1 env bs h.0) ∙ ap (λ b. then_par (joined m.0 (node_of env)) b) (par_same xs env bs h.1)

  by_equations : (y : TermText) (asks : AskedOfTexts) (b : Below) (j : ℕ → Left) → AreEvents x y ≡ asks → below (nodes_of x) y ≡ b → joined y ≡ j → ((env : Env) (bs : List ℕ) → asks env bs → left_of S (b (node_of env)) env ≡ j (node_of env)) → Same y
  by_equations y asks b j e q r h env bs s = ap (λ f. left_of S (f (node_of env)) env) q ∙ h env bs (subst (λ (f : AskedOfTexts). f env bs) e s) ∙ sym (ap (λ f. f (node_of env)) r)

  scope_same : (node : ℕ) (buffers : List ℕ) (m : M) (env : Env) (bs : List ℕ) → IsScope x env node buffers → AreEvents x m.0 (sound.inside x env node) (buffers ++ bs)
      → left_of S (term.Within (child_at (nodes_of x) (node_of env) node) buffers (below (nodes_of x) m.0 node)) env ≡ scope (node_of env) node buffers (joined m.0 node)
  scope_same node buffers m env bs h g =
      let inner = sound.inside x env node in
      let at : node_of inner ≡ node = (at_node x nodes env node buffers h (node_of env == node) refl).1 in
      ap (λ f. f env) (left_within (reading_of S) (child_at (nodes_of x) (node_of env) node) buffers (below (nodes_of x) m.0 node))
      ∙ ap (λ k. scope (node_of env) k buffers (left_of S (below (nodes_of x) m.0 node) inner)) at
      ∙ ap (λ k. scope (node_of env) node buffers (left_of S (below (nodes_of x) m.0 k) inner)) (sym at) ∙ ap (scope (node_of env) node buffers) (m.1 inner (buffers ++ bs) g ∙ ap (joined m.0) at)

  step : (y : TermText-F M) → Same (roll-TermText (map-TermText M TermText (λ m. m.0) y))
  step (TermText-F.Seq xs) = subst Same (sym (t.rolls-Seq (texts xs))) (by_equations (t.Seq (texts xs)) _ _ _ (sound_seq x (texts xs)) (below_seq (nodes_of x) (texts xs)) (joined_seq (texts xs))
      (λ env bs h. ap (λ f. f env) (left_seq (reading_of S) (each_below (map (below (nodes_of x)) (texts xs)) (node_of env))) ∙ seq_same xs env bs h))
  step (TermText-F.Par xs) = subst Same (sym (t.rolls-Par (texts xs))) (by_equations (t.Par (texts xs)) _ _ _ (sound_par x (texts xs)) (below_par (nodes_of x) (texts xs)) (joined_par (texts xs))
      (λ env bs h. ap (λ f. f env) (left_par (reading_of S) (each_below (map (below (nodes_of x)) (texts xs)) (node_of env))) ∙ par_same xs env bs h))
  step (TermText-F.At p node buffers m) = subst Same (sym (t.rolls-At p node buffers m.0)) (by_equations (t.At p node buffers m.0) _ _ _ (sound_at x p node buffers m.0) (below_at (nodes_of x) p node buffers m.0) (joined_at p node buffers m.0)
      (λ env bs h. scope_same node buffers m env bs h.0 h.1))
  step (TermText-F.Act p e) = subst Same (sym (t.rolls-Act p e)) (by_equations (t.Act p e) _ _ _ (sound_act x p e) (below_act (nodes_of x) p e) (joined_act p e)
      (λ env bs h. ap (λ f. f env) (left_act (reading_of S) (action_of e)) ∙ ap (λ e. Alone (t.Act nowhere e)) (event_again S env e)))

  term_same : (y : TermText) → Same y
  term_same = ind-TermText Same (λ y z is. subst (λ w. Same (roll-TermText w)) is (step z))

pub lines_same : (n m : List NodeLine) (b c : List BufferLine) (l k : List LeafText) (a e : List ArrayLine) (y z : TermText) → n ≡ m → b ≡ c → l ≡ k → a ≡ e → y ≡ z → plan_text n b l a y ≡ plan_text m c k e z
lines_same n m b c l k a e y z p q r s t = cc

-- a file that was read is written out as its lines were
pub reads_back : (x : PlanText) → ReadsBack x
reads_back x s = lines_same _ x.nodes _ (map bare_buffer x.buffers) _ (map bare_leaf x.leaves) _ (map bare_array x.arrays) _ (whole (joined x.term 0))
    (nodes_again x.nodes) (buffers_again [] x.buffers) (leaves_again x.leaves) (arrays_again x.arrays)
    (ap whole (term_same x s.nodes x.term at_root (map (λ a. a.buffer) x.arrays) s.events))
