-- The lines of nodes, buffers and arrays, and the numbers of a leaf, before what is read already.
use Rattle.std.proofs.Common.{◌≡◌, ℕ, ◌≤◌, List, [], ◌∷◌, ◌++◌, map, Some, refl, arith, codes}
use Rattle.std.specs.List.{All}
use Rattle.std.proofs.lemmas.List.Elements.{All-head, All-tail}
use Rattle.sq_text.specs.declared.place.Place.{Place}
use Rattle.sq_lexer.specs.declared.token.Kind.TheVariants as t
use Rattle.sq_lexer.specs.declared.token.Sign.TheVariants as g
use Rattle.sq_ast.specs.declared.program.Mode.{Mode}
use Rattle.sq_ast.specs.declared.program.Mode.TheVariants.{Input, Output, Both}
use Rattle.sq_ast.specs.Symbols.{keyword_of}
use Rattle.sq_ast.specs.Canonical.{all_of, further, listed, elem_text, mode_text}
use Rattle.sq_ast.proofs.Alone.{alone}
use Rattle.sq_ast.proofs.Fronts.{Ends}
use Rattle.sq_plantext.specs.Grammar.{mode_of, name_at, buffer_line, array_line, Nodes, Buffers, ABinding, MoreBindings, SomeBindings, Arrays, no_nodes, one_more_node, no_buffers, one_more_buffer, a_binding, no_more_bindings, one_more_binding, no_bindings, some_bindings, no_arrays, one_more_array}
use Rattle.sq_plantext.specs.Layout.{spell_list, spell_value, field, spell_node, spell_buffer, spell_binding, spell_array}
use Rattle.sq_plantext.specs.declared.text.NodeLine.{NodeLine}
use Rattle.sq_plantext.specs.declared.text.BufferLine.{BufferLine}
use Rattle.sq_plantext.specs.declared.text.Binding.{Binding}
use Rattle.sq_plantext.specs.declared.text.ArrayLine.{ArrayLine}
use Rattle.sq_unplaced_laws.specs.Unplaced.{unplaced_buffer, unplaced_array}
use Rattle.sq_layout_laws.specs.Readable.{IsWord, IsShort, IsReadableNode, IsReadableBuffer, IsReadableBinding, IsReadableArray}
use Rattle.sq_layout_laws.proofs.Fronted.{Ready, Told, Spelled, space, worded, marked, shut}
use Rattle.sq_layout_laws.proofs.Lists.{elem_word, elem_known, ends_further, list_told, value_told}
use Rattle.sq_layout_laws.proofs.Events.{ended, fielded}

pub cons_same : {A : Type 0} {x y : A} {xs ys : List A} → x ≡ y → xs ≡ ys → (x ∷ xs) ≡ (y ∷ ys)
cons_same p q = cc

mode_word : (m : Mode) → IsWord (mode_text m)
mode_word Input = record { letter = refl; inside = refl }
mode_word Output = record { letter = refl; inside = refl }
mode_word Both = record { letter = refl; inside = refl }

mode_known : (m : Mode) → mode_of (t.Word (mode_text m)) ≡ Some m
unfolding keyword_of
mode_known Input = refl
mode_known Output = refl
mode_known Both = refl

module _ (placing : List ℕ → Place) (most : ℕ) where
  -- ---- nodes

  pub nodes_told : (ns : List NodeLine) → All IsReadableNode ns → (rest : List ℕ) → (r : Ready placing most rest)
      → Told placing most (Nodes ns) (all_of (map spell_node ns) rest) r.from
  nodes_told [] h rest r = record { ready = r; derived = no_nodes }
  nodes_told (n ∷ ns) h rest r =
      let up : 0 ≤ most = omega arith in
      let is = All-head IsReadableNode n ns h in
      let behind = All-tail IsShort n.level (n.capacity ∷ n.first_child ∷ n.children ∷ []) is in
      let two = All-tail IsShort n.capacity (n.first_child ∷ n.children ∷ []) behind in
      let one = All-tail IsShort n.first_child (n.children ∷ []) two in
      let a = nodes_told ns (All-tail IsReadableNode n ns h) rest r in
      let others : List ℕ = codes ";\n" ++ all_of (map spell_node ns) rest in
      let end = ended placing most 0 up (all_of (map spell_node ns) rest) a.ready in
      let fourth = fielded placing most n.children 0 up (All-head IsShort n.children [] one) others refl end in
      let third = fielded placing most n.first_child 0 up (All-head IsShort n.first_child (n.children ∷ []) two) (field n.children others) refl fourth in
      let second = fielded placing most n.capacity 0 up (All-head IsShort n.capacity (n.first_child ∷ n.children ∷ []) behind)
      (field n.first_child (field n.children others)) refl third in
      let first = fielded placing most n.level 0 up (All-head IsShort n.level (n.capacity ∷ n.first_child ∷ n.children ∷ []) is)
      (field n.capacity (field n.first_child (field n.children others))) refl second in
      record {
        ready = worded placing most (codes "node") 0 up (record { letter = refl; inside = refl })
            (field n.level (field n.capacity (field n.first_child (field n.children others)))) refl first;
        derived = one_more_node a.derived;
      }

  -- ---- buffers

  pub buffers_told : (bs : List BufferLine) → All IsReadableBuffer bs → (rest : List ℕ) → (r : Ready placing most rest)
      → Spelled placing most (map unplaced_buffer) Buffers (map unplaced_buffer bs) (all_of (map spell_buffer bs) rest) r.from
  buffers_told [] h rest r = record { tree = []; same = refl; ready = r; derived = no_buffers }
  buffers_told (b ∷ bs) h rest r =
      let up : 0 ≤ most = omega arith in
      let is = All-head IsReadableBuffer b bs h in
      let two = All-tail IsShort b.level (b.offset ∷ b.size ∷ []) is.numbers in
      let one = All-tail IsShort b.offset (b.size ∷ []) two in
      let a = buffers_told bs (All-tail IsReadableBuffer b bs h) rest r in
      let others : List ℕ = codes ";\n" ++ all_of (map spell_buffer bs) rest in
      let end = ended placing most 0 up (all_of (map spell_buffer bs) rest) a.ready in
      let array_ = worded placing most b.array 0 up is.array others refl end in
      let owner = worded placing most b.instance 0 up is.instance (codes " " ++ (b.array ++ others)) refl (space placing most (b.array ++ others) array_) in
      let names : List ℕ = codes " " ++ (b.instance ++ (codes " " ++ (b.array ++ others))) in
      let third = fielded placing most b.size 0 up (All-head IsShort b.size [] one) names refl (space placing most (b.instance ++ (codes " " ++ (b.array ++ others))) owner) in
      let second = fielded placing most b.offset 0 up (All-head IsShort b.offset (b.size ∷ []) two) (field b.size names) refl third in
      let first = fielded placing most b.level 0 up (All-head IsShort b.level (b.offset ∷ b.size ∷ []) is.numbers) (field b.offset (field b.size names)) refl second in
      let p : Place = placing (codes "buffer" ++ field b.level (field b.offset (field b.size names))) in
      record {
        tree = buffer_line p b.level b.offset b.size b.instance b.array ∷ a.tree;
        same = cons_same {x = unplaced_buffer b} {xs = map unplaced_buffer a.tree} {ys = map unplaced_buffer bs} refl a.same;
        ready = worded placing most (codes "buffer") 0 up (record { letter = refl; inside = refl }) (field b.level (field b.offset (field b.size names))) refl first;
        derived = one_more_buffer a.derived;
      }

  -- ---- the numbers of a leaf

  binding_told : 1 ≤ most → (b : Binding) → IsReadableBinding b → (rest : List ℕ) → Ends rest → (r : Ready placing most rest)
      → Told placing most (ABinding b) (spell_binding b rest) r.from
  binding_told up b h rest ends r =
      let a = value_told placing most 1 up b.value h.value rest ends r in
      let text : List ℕ = spell_value b.value rest in
      let set = marked placing most g.Set 1 up (codes " " ++ text) (alone g.Set 32 text refl) (space placing most text a.ready) in
      record {
        ready = worded placing most b.name 1 up h.name (codes " = " ++ text) refl (space placing most (codes "= " ++ text) set);
        derived = a_binding a.derived;
      }

  more_bindings_told : 1 ≤ most → (bs : List Binding) → All IsReadableBinding bs → (rest : List ℕ) → Ends rest → (r : Ready placing most rest)
      → Told placing most (MoreBindings bs) (further (map spell_binding bs) rest) r.from
  more_bindings_told up [] h rest ends r = record { ready = r; derived = no_more_bindings }
  more_bindings_told up (b ∷ bs) h rest ends r =
      let a = more_bindings_told up bs (All-tail IsReadableBinding b bs h) rest ends r in
      let others : List ℕ = further (map spell_binding bs) rest in
      let first = binding_told up b (All-head IsReadableBinding b bs h) others (ends_further placing most spell_binding bs rest ends) a.ready in
      record {
        ready = shut placing most g.Comma refl 1 up (codes " " ++ spell_binding b others) (space placing most (spell_binding b others) first.ready);
        derived = one_more_binding first.derived a.derived;
      }

  pub bindings_told : 1 ≤ most → (bs : List Binding) → All IsReadableBinding bs → (rest : List ℕ) → Ends rest → (r : Ready placing most rest)
      → Told placing most (SomeBindings bs) (listed (map spell_binding bs) rest) r.from
  bindings_told up [] h rest ends r = record { ready = r; derived = no_bindings }
  bindings_told up (b ∷ bs) h rest ends r =
      let a = more_bindings_told up bs (All-tail IsReadableBinding b bs h) rest ends r in
      let others : List ℕ = further (map spell_binding bs) rest in
      let first = binding_told up b (All-head IsReadableBinding b bs h) others (ends_further placing most spell_binding bs rest ends) a.ready in
      record { ready = first.ready; derived = some_bindings first.derived a.derived }

  -- ---- arrays

  pub arrays_told : 1 ≤ most → (xs : List ArrayLine) → All IsReadableArray xs → (rest : List ℕ) → (r : Ready placing most rest)
      → Spelled placing most (map unplaced_array) Arrays (map unplaced_array xs) (all_of (map spell_array xs) rest) r.from
  arrays_told deep [] h rest r = record { tree = []; same = refl; ready = r; derived = no_arrays }
  arrays_told deep (x ∷ xs) h rest r =
      let up : 0 ≤ most = omega arith in
      let is = All-head IsReadableArray x xs h in
      let a = arrays_told deep xs (All-tail IsReadableArray x xs h) rest r in
      let others : List ℕ = codes ";\n" ++ all_of (map spell_array xs) rest in
      let end = ended placing most 0 up (all_of (map spell_array xs) rest) a.ready in
      let last = fielded placing most x.buffer 0 up is.buffer others refl end in
      let list = list_told placing most 0 deep x.extents is.extents (field x.buffer others) last in
      let extents : List ℕ = spell_list x.extents (field x.buffer others) in
      let name = worded placing most x.name.name 0 up is.name (codes " " ++ extents) refl (space placing most extents list.ready) in
      let named : List ℕ = x.name.name ++ (codes " " ++ extents) in
      let type = worded placing most (elem_text x.elem) 0 up (elem_word x.elem) (codes " " ++ named) refl (space placing most named name) in
      let typed : List ℕ = elem_text x.elem ++ (codes " " ++ named) in
      let mode = worded placing most (mode_text x.mode) 0 up (mode_word x.mode) (codes " " ++ typed) refl (space placing most typed type) in
      let text : List ℕ = mode_text x.mode ++ (codes " " ++ typed) in
      record {
        tree = array_line x.mode x.elem (name_at (placing named) x.name.name) x.extents x.buffer ∷ a.tree;
        same = cons_same {x = unplaced_array x} {xs = map unplaced_array a.tree} {ys = map unplaced_array xs} refl a.same;
        ready = worded placing most (codes "array") 0 up (record { letter = refl; inside = refl }) (codes " " ++ text) refl (space placing most text mode);
        derived = one_more_array (mode_known x.mode) (elem_known x.elem) list.derived a.derived;
      }
