-- Of sound lines every number fits: the file that is made is the file that they stand for.
use Rattle.std.proofs.Common.{◌≡◌, ℕ, zero, suc, ◌-◌, ◌*◌, ◌^◌, ◌<◌, ◌≤◌, ◌==◌, true, false, List, [], ◌∷◌, ◌++◌, map, length, option_map, pos, Some, refl, sym, ap, ◌∙◌, subst, arith, inl, inr}
use Rattle.std.proofs.lemmas.Bool.Decides.{eqb_tells}
use Rattle.std.proofs.lemmas.Int.{ints}
use Rattle.std.proofs.lemmas.Option.{slice_get_within}
use Rattle.std.proofs.lemmas.List.Elements.{All-contains}
use Rattle.std.specs.List.{All, slice_get}
use Rattle.sq_num.specs.declared.Elem.{Elem}
use Rattle.sq_num.specs.declared.Elem.TheVariants.{Long as long_elem}
use Rattle.sq_num.specs.Elements.{greatest, IsValue, width}
use Rattle.sq_ir.specs.declared.term.Action.TheVariants as action
use Rattle.sq_ir.specs.declared.term.Term.{Term}
use Rattle.sq_ir.specs.declared.term.Term.TheVariants as term
use Rattle.sq_ir.specs.declared.plan.Leaf.{Leaf}
use Rattle.sq_ir.specs.declared.plan.PlanNode.{PlanNode}
use Rattle.sq_ir.specs.Events.{Shape}
use Rattle.sq_ir.specs.DraftLeaves.{shapes_of}
use Rattle.sq_ir.specs.Written.{Setting, Env, at_root, node_of}
use Rattle.sq_ir.specs.Plans.{IsCount, IsBuffer, IsRow, IsView, node_at, setting_of}
use Rattle.sq_ir.proofs.Counting.{has_const}
use Rattle.sq_plantext.specs.declared.text.ArrayLine.{ArrayLine}
use Rattle.sq_plantext.specs.declared.text.BufferLine.{BufferLine}
use Rattle.sq_plantext.specs.declared.text.SlotText.{SlotText}
use Rattle.sq_plantext.specs.declared.text.ViewText.{ViewText}
use Rattle.sq_plantext.specs.declared.text.EventText.{EventText}
use Rattle.sq_plantext.specs.declared.text.EventText.TheVariants as event
use Rattle.sq_plantext.specs.declared.text.TermText.{TermText, roll-TermText}
use Rattle.sq_plantext.specs.declared.text.TermText.TheVariants as t
use Rattle.sq_plantext.specs.declared.text.TermText.TheOpen.{TermText-F}
use Rattle.sq_plantext.specs.declared.text.TermText.TheFolds.{ind-TermText, map-TermText}
use Rattle.sq_plantext.specs.declared.text.PlanText.{PlanText}
use Rattle.sq_planfile.specs.Files as files
use Rattle.sq_planfile.specs.Files.{Below, each_below}
use Rattle.sq_planfile.specs.Sound as sound
use Rattle.sq_planfile.specs.Sound.{AskedOfTexts, AreEvents, IsEventText, IsScope, IsViewText, IsArrayLine, AreArrays, IsLeafText, IsSound}
use Rattle.sq_planfile.proofs.Equations.{below, below_seq, below_par, below_at, below_act, sound_seq, sound_par, sound_at, sound_act}
use Rattle.sq_planfile.proofs.WellFormed.{at_node, few}
use Rattle.sq_planlines.specs.Narrow as narrow
use Rattle.sq_planlines.specs.Narrow.{word}
use Rattle.sq_planlines.proofs.Forms.{form_seq, form_par, form_at, form_act}
use Rattle.sq_planlines.proofs.Fitting.{Word, Long, word_same, words_same, dims_same, constant_same, slot_same, view_same, count_below, child_same}
use Rattle.sq_planlines.proofs.Nodes.{nodes_same, buffers_same, sizes_fit, map_length, found_below}

-- ---- arrays

extents_fit : (ns : List ℕ) → All (λ n. (1 ≤ n) × (n ≤ 2 ^ 24)) ns → All (λ n. Word n) ns
extents_fit ns h k d lt = let le = (h k d lt).1 in omega (arith, le)

module _ (buffers : List BufferLine) (few_buffers : length buffers < 4294967296) where
  its_buffer : (before : List ArrayLine) (a : ArrayLine) → IsArrayLine buffers before a → Word a.buffer
  its_buffer before a h = let lt = slice_get_within buffers a.buffer h.buffer h.there in omega (arith, lt, few_buffers)

  arrays_same : (before arrays : List ArrayLine) → AreArrays buffers before arrays → map narrow.array_of arrays ≡ map files.array_of arrays
  arrays_same before [] h = refl
  arrays_same before (a ∷ later) h =
      let dims = dims_same a.extents h.0.extents.some h.0.extents.few (extents_fit a.extents h.0.extents.each) in
      let buffer = word_same a.buffer (its_buffer before a h.0) in
      let here : narrow.array_of a ≡ files.array_of a = λ i. record { mode = a.mode; elem = a.elem; name = a.name.name; extents = dims i; buffer = buffer i } in
      ap (λ x. x ∷ map narrow.array_of later) here ∙ ap (λ xs. files.array_of a ∷ xs) (arrays_same (before ++ a ∷ []) later h.1)

  entry_same : (before arrays : List ArrayLine) → AreArrays buffers before arrays → map (λ a. word a.buffer) arrays ≡ map (λ a. a.buffer) arrays
  entry_same before [] h = refl
  entry_same before (a ∷ later) h =
      ap (λ n. n ∷ map (λ a. word a.buffer) later) (word_same a.buffer (its_buffer before a h.0)) ∙ ap (λ ns. a.buffer ∷ ns) (entry_same (before ++ a ∷ []) later h.1)

  entry_fits : (before arrays : List ArrayLine) → AreArrays buffers before arrays → All (λ n. Word n) (map (λ a. a.buffer) arrays)
  entry_fits before [] h k d lt = absurd (omega (arith, lt))
  entry_fits before (a ∷ later) h zero d lt = its_buffer before a h.0
  entry_fits before (a ∷ later) h (suc k) d lt = entry_fits (before ++ a ∷ []) later h.1 k d (omega (arith, lt))

-- ---- events and terms

at_fits : (n : ℕ) → IsValue long_elem (pos n) → Long n
unfolding greatest
at_fits n h = let high = h.high in omega (arith, ints, high)

all_of_both : (bs cs : List ℕ) → All (λ n. Word n) bs → All (λ n. Word n) cs → All (λ n. Word n) (bs ++ cs)
all_of_both [] cs h g k d lt = g k d lt
all_of_both (b ∷ bs) cs h g zero d lt = h 0 b (omega arith)
all_of_both (b ∷ bs) cs h g (suc k) d lt = all_of_both bs cs (λ k d lt. h (suc k) d (omega (arith, lt))) g k d (omega (arith, lt))

module _ (x : PlanText) (s : IsSound x) (few_leaves : length x.leaves < 4294967296) (few_buffers : length x.buffers < 4294967296) where
  abbrev S : Setting
  S = setting_of (files.plan_of x)

  abbrev nodes : List PlanNode
  nodes = files.nodes_of x

  counted : (n : ℕ) (env : Env) → IsCount S env (files.constant n) → Long n
  counted n env h = at_fits n (subst (λ (f : Env → Type 0). f env) (has_const S (pos n)) h.has)

  size_fits : (b : ℕ) → S.size b ≤ 1073741824
  size_fits b = sizes_fit nodes x.buffers s.buffers b

  leaf_fits : (leaf : ℕ) (z : List Shape) → option_map shapes_of (option_map (λ (l : Leaf). l.code) (slice_get (map files.leaf_of x.leaves) leaf)) ≡ Some z → word leaf ≡ leaf
  leaf_fits leaf z e =
      let lt = found_below (λ (l : Leaf). l.code) shapes_of (map files.leaf_of x.leaves) leaf z e in
      let same = map_length files.leaf_of x.leaves in
      word_same leaf (omega (arith, lt, same, few_leaves))

  module _ (env : Env) (bs : List ℕ) (known : All (λ n. Word n) bs) where
    row_slot : (a : SlotText) (n : ℕ) → IsRow S env bs (files.slot_of a) n → narrow.slot_of a ≡ files.slot_of a
    row_slot a n h = slot_same a (All-contains (λ n. Word n) bs a.buffer known h.scope) (counted a.at env h.at)

    row_bytes : (a : SlotText) (n : ℕ) → IsRow S env bs (files.slot_of a) n → n ≤ 1073741824
    row_bytes a n h = let in_it = h.inside in let most = size_fits a.buffer in omega (arith, in_it, most)

    bytes_same : (a : SlotText) (n : ℕ) → IsRow S env bs (files.slot_of a) n → word n ≡ n
    bytes_same a n h = let le = row_bytes a n h in word_same n (omega (arith, le))

    count_same : (a : SlotText) (n : ℕ) (e : Elem) → IsRow S env bs (files.slot_of a) (n * width e) → word n ≡ n
    count_same a n e h = let le = row_bytes a (n * width e) h in let less = count_below n e in word_same n (omega (arith, le, less))

    views_same : (vs : List ViewText) → All IsViewText vs → All (IsView S env bs) (map files.view_of vs) → map narrow.view_of vs ≡ map files.view_of vs
    views_same [] h g = refl
    views_same (v ∷ vs) h g =
        let is = g 0 (files.view_of v) (omega arith) in
        ap (λ w. w ∷ map narrow.view_of vs) (view_same v (h 0 v (omega arith)) (All-contains (λ n. Word n) bs v.slot.buffer known is.scope) (counted v.slot.at env is.at))
        ∙ ap (λ ws. files.view_of v ∷ ws) (views_same vs (λ k d lt. h (suc k) d (omega (arith, lt))) (λ k d lt. g (suc k) d (omega (arith, lt))))

    path_same : (ns : List ℕ) → All (IsCount S env) (map files.constant ns) → map narrow.constant ns ≡ map files.constant ns
    path_same [] h = refl
    path_same (n ∷ ns) h =
        ap (λ c. c ∷ map narrow.constant ns) (constant_same n (counted n env (h 0 (files.constant n) (omega arith))))
        ∙ ap (λ cs. files.constant n ∷ cs) (path_same ns (λ k d lt. h (suc k) d (omega (arith, lt))))

    action_same : (e : EventText) → IsEventText x env bs e → narrow.action_of e ≡ files.action_of e
    action_same (event.Copy from to bytes) h =
        let a = row_slot from bytes h.allowed.inside.0 in
        let b = row_slot to bytes h.allowed.inside.1 in
        let n = bytes_same from bytes h.allowed.inside.0 in
        λ i. action.CopyRow (a i) (b i) (n i)
    action_same (event.Fill to e count value) h =
        let a = row_slot to (count * width e) h.allowed.inside in
        let n = count_same to count e h.allowed.inside in
        λ i. action.FillRow (a i) e (n i) value
    action_same (event.Acc op e from to count) h =
        let a = row_slot from (count * width e) h.allowed.inside.0 in
        let b = row_slot to (count * width e) h.allowed.inside.1 in
        let n = count_same from count e h.allowed.inside.0 in
        λ i. action.AccRow op e (a i) (b i) (n i)
    action_same (event.Run leaf views path) h =
        let code = leaf_fits leaf _ h.allowed.event.shapes in
        let vs = views_same views h.views h.allowed.inside.0 in
        let ps = path_same path h.allowed.inside.1 in
        λ i. action.Leaf (code i) (vs i) (ps i)

  -- ---- terms

  abbrev Same : TermText → Type 0
  Same y = (env : Env) (bs : List ℕ) → All (λ n. Word n) bs → AreEvents x y env bs → narrow.term_of nodes y (node_of env) ≡ below nodes y (node_of env)

  abbrev M : Type 0
  M = (y : TermText) × Same y

  abbrev texts : List M → List TermText
  texts xs = map (λ m. m.0) xs

  parts_same : (xs : List M) (env : Env) (bs : List ℕ) → All (λ n. Word n) bs → sound.each_part (AreEvents x) (texts xs) env bs
      → each_below (map (narrow.term_of nodes) (texts xs)) (node_of env) ≡ each_below (map (below nodes) (texts xs)) (node_of env)
  parts_same [] env bs known h = refl
  parts_same (m ∷ xs) env bs known h =
      ap (λ (y : Term). y ∷ each_below (map (narrow.term_of nodes) (texts xs)) (node_of env)) (m.1 env bs known h.0)
      ∙ ap (λ ys. below nodes m.0 (node_of env) ∷ ys) (parts_same xs env bs known h.1)

  by_equations : (y : TermText) (asks : AskedOfTexts) (a b : Below) → AreEvents x y ≡ asks → narrow.term_of nodes y ≡ a → below nodes y ≡ b
      → ((env : Env) (bs : List ℕ) → All (λ n. Word n) bs → asks env bs → a (node_of env) ≡ b (node_of env)) → Same y
  by_equations y asks a b e p q h env bs known g =
      ap (λ (f : Below). f (node_of env)) p ∙ h env bs known (subst (λ (f : AskedOfTexts). f env bs) e g) ∙ sym (ap (λ (f : Below). f (node_of env)) q)

  itself : (n : ℕ) → (n == n) ≡ true
  itself n = elim (eqb_tells n n) [ inl h ↦ h.0 | inr h ↦ absurd (h.1 refl) ]

  below_children : (env : Env) (node : ℕ) (bs : List ℕ) → IsScope x env node bs → (node_of env == node) ≡ false → node - (node_at nodes (node_of env)).first_child < (node_at nodes (node_of env)).children
  below_children env node bs h e = elim h.at [
    | inl same ↦ (let both : true ≡ false = sym (itself (node_of env)) ∙ ap (λ n. node_of env == n) (sym same) ∙ e in absurd (cc))
    | inr range ↦ (let low = range.0 in let high = range.1 in omega (arith, low, high))
  ]

  names_fit : (at : ℕ) (bs : List ℕ) → All (IsBuffer S at) bs → All (λ n. Word n) bs
  names_fit at bs h k d lt =
      let there = (h k d lt).there in
      let same = map_length files.buffer_of x.buffers in
      omega (arith, there, same, few_buffers)

  scope_same : (node : ℕ) (buffers : List ℕ) (m : M) (env : Env) (bs : List ℕ) → All (λ n. Word n) bs → IsScope x env node buffers → AreEvents x m.0 (sound.inside x env node) (buffers ++ bs)
      → term.Within (narrow.child_at nodes (node_of env) node) (map word buffers) (narrow.term_of nodes m.0 node)
      ≡ term.Within (files.child_at nodes (node_of env) node) buffers (below nodes m.0 node)
  scope_same node buffers m env bs known h g =
      let here = node_of env in
      let child = child_same here node (node_at nodes here).first_child (node_at nodes here).children (here == node) (below_children env node buffers h) (few x s.nodes here) in
      let names = names_fit _ buffers h.names in
      let at = at_node x s.nodes env node buffers h (here == node) refl in
      let body = subst (λ k. narrow.term_of nodes m.0 k ≡ below nodes m.0 k) at.1 (m.1 (sound.inside x env node) (buffers ++ bs) (all_of_both buffers bs names known) g) in
      let own = words_same buffers names in
      λ i. term.Within (child i) (own i) (body i)

  step : (y : TermText-F M) → Same (roll-TermText (map-TermText M TermText (λ m. m.0) y))
  step (TermText-F.Seq xs) = subst Same (sym (t.rolls-Seq (texts xs))) (by_equations (t.Seq (texts xs)) _ _ _ (sound_seq x (texts xs)) (form_seq nodes (texts xs)) (below_seq nodes (texts xs))
      (λ env bs known h. ap term.Seq (parts_same xs env bs known h)))
  step (TermText-F.Par xs) = subst Same (sym (t.rolls-Par (texts xs))) (by_equations (t.Par (texts xs)) _ _ _ (sound_par x (texts xs)) (form_par nodes (texts xs)) (below_par nodes (texts xs))
      (λ env bs known h. ap term.Par (parts_same xs env bs known h)))
  step (TermText-F.At p node buffers m) = subst Same (sym (t.rolls-At p node buffers m.0)) (by_equations (t.At p node buffers m.0) _ _ _ (sound_at x p node buffers m.0) (form_at nodes p node buffers m.0) (below_at nodes p node buffers m.0)
      (λ env bs known h. scope_same node buffers m env bs known h.0 h.1))
  step (TermText-F.Act p e) = subst Same (sym (t.rolls-Act p e)) (by_equations (t.Act p e) _ _ _ (sound_act x p e) (form_act nodes p e) (below_act nodes p e)
      (λ env bs known h. ap term.Act (action_same env bs known e h)))

  all_same : (y : TermText) → Same y
  all_same = ind-TermText Same (λ y z is. subst (λ w. Same (roll-TermText w)) is (step z))

  -- ---- the file

  pub file_same : narrow.file_of x (map files.leaf_of x.leaves) ≡ files.file_of x
  file_same =
      let ns = nodes_same x.nodes s.nodes in
      let bs = buffers_same nodes s.nodes x.buffers s.buffers in
      let entry = entry_same x.buffers few_buffers [] x.arrays s.arrays in
      let arrays = arrays_same x.buffers few_buffers [] x.arrays s.arrays in
      let root = ap (λ ms. narrow.term_of ms x.term 0) ns
      ∙ all_same x.term at_root (map (λ a. a.buffer) x.arrays) (entry_fits x.buffers few_buffers [] x.arrays s.arrays) s.events in
      λ i. record {
        plan = record {
          draft = record { term = root i; buffers = bs i; leaves = map files.leaf_of x.leaves; entry = entry i; notes = [] };
          offsets = map (λ b. b.offset) x.buffers;
          nodes = ns i;
        };
        arrays = arrays i;
      }
