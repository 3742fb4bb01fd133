-- Whether the lines of buffers and arrays are sound doesn't depend on their places.
use Rattle.std.proofs.Common.{◌≡◌, ℕ, ◌+◌, ◌*◌, ◌≤◌, List, [], ◌∷◌, ◌++◌, map, Some, slice_get, refl, sym, ap, ap₂, ◌∙◌, subst}
use Rattle.std.specs.Prelude.{◌^◌}
use Rattle.std.specs.List.{Contains}
use Rattle.std.proofs.lemmas.List.{map_push}
use Rattle.sq_types.specs.Num.Elements.{width}
use Rattle.sq_types.specs.Text.Names.{Bytes}
use Rattle.sq_ir.specs.declared.plan.PlanNode.{PlanNode}
use Rattle.sq_plantext.specs.declared.text.BufferLine.{BufferLine}
use Rattle.sq_plantext.specs.declared.text.ArrayLine.{ArrayLine}
use Rattle.sq_planfile.specs.Sound.{product, AreExtents, IsBufferLine, IsArrayLine, AreArrays}
use Rattle.sq_unplaced_laws.specs.Unplaced.{unplaced_buffer, unplaced_array}
use Rattle.sq_unplaced_laws.proofs.Lists.{map_across, heads, tails, get_across}

-- ---- buffers

pub buffer_across : (nodes : List PlanNode) (a b : BufferLine) → unplaced_buffer a ≡ unplaced_buffer b → IsBufferLine nodes a
    → IsBufferLine nodes b
buffer_across nodes a b e h = record {
  node = h.node;
  there = h.there;
  level = h.level ∙ ap (λ (x : BufferLine). x.level) e;
  within = subst (λ (n : ℕ). n ≤ 2 ^ 30) (ap (λ (x : BufferLine). x.offset + x.size) e) h.within;
}

-- ---- arrays

abbrev names : List ArrayLine → List Bytes
names arrays = map (λ (a : ArrayLine). a.name.name) arrays

abbrev buffers : List ArrayLine → List ℕ
buffers arrays = map (λ (a : ArrayLine). a.buffer) arrays

pub same_buffers : (xs ys : List ArrayLine) → map unplaced_array xs ≡ map unplaced_array ys → buffers xs ≡ buffers ys
same_buffers xs ys e = map_across unplaced_array (λ (a : ArrayLine). a.buffer) (λ (a : ArrayLine). a.buffer) (λ a. refl) xs ys e

module _ (bs cs : List BufferLine) (same : map unplaced_buffer bs ≡ map unplaced_buffer cs) where
  array_across : (before prior : List ArrayLine) → map unplaced_array before ≡ map unplaced_array prior → (a b : ArrayLine)
      → unplaced_array a ≡ unplaced_array b → IsArrayLine bs before a → IsArrayLine cs prior b
  array_across before prior past a b e h =
      let found = get_across unplaced_buffer bs cs same a.buffer h.buffer h.there in
      let number : a.buffer ≡ b.buffer = ap (λ (x : ArrayLine). x.buffer) e in
      let elem = ap (λ (x : ArrayLine). x.elem) e in
      let extents : a.extents ≡ b.extents = ap (λ (x : ArrayLine). x.extents) e in
      let known : names before ≡ names prior =
      map_across unplaced_array (λ (x : ArrayLine). x.name.name) (λ (x : ArrayLine). x.name.name) (λ x. refl) before prior past in
      record {
        name = λ c. h.name (subst (λ (ns : List Bytes). Contains ns a.name.name) (sym known)
            (subst (λ (n : Bytes). Contains (names prior) n) (sym (ap (λ (x : ArrayLine). x.name.name) e)) c));
        mine = λ c. h.mine (subst (λ (ns : List ℕ). Contains ns a.buffer) (sym (same_buffers before prior past))
            (subst (λ (n : ℕ). Contains (buffers prior) n) (sym number) c));
        buffer = found.item;
        there = subst (λ (i : ℕ). slice_get cs i ≡ Some found.item) number found.there;
        root = sym (ap (λ (x : BufferLine). x.level) found.same) ∙ h.root;
        extents = subst AreExtents extents h.extents;
        room = subst (λ (n : ℕ). width b.elem * product b.extents ≤ n) (ap (λ (x : BufferLine). x.size) found.same)
            (subst (λ (n : ℕ). n ≤ h.buffer.size) (ap₂ (λ t ns. width t * product ns) elem extents) h.room);
      }

  pub arrays_across : (before prior : List ArrayLine) → map unplaced_array before ≡ map unplaced_array prior → (xs ys : List ArrayLine)
      → map unplaced_array xs ≡ map unplaced_array ys → AreArrays bs before xs → AreArrays cs prior ys
  arrays_across before prior past xs [] e h = tt
  arrays_across before prior past [] (b ∷ ys) e h = absurd (cc)
  arrays_across before prior past (a ∷ xs) (b ∷ ys) e h =
      let first = heads unplaced_array a b xs ys e in (
        array_across before prior past a b first h.0,
        arrays_across (before ++ a ∷ []) (prior ++ b ∷ [])
            (map_push unplaced_array before a ∙ ap₂ (λ (ls : List ArrayLine) (l : ArrayLine). ls ++ l ∷ []) past first
            ∙ sym (map_push unplaced_array prior b))
            xs ys (tails unplaced_array a b xs ys e) h.1,
      )
