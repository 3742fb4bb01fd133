-- Views of buffers and of blocks end inside their buffers, and rows that are copied, filled and accumulated lie inside.
use Rattle.std.proofs.Common.{◌≡◌, ℕ, suc, ◌+◌, ◌*◌, ◌<◌, ◌≤◌, ◌==◌, ℤ, pos, Bool, true, false, List, [], ◌∷◌, map}
use Rattle.std.proofs.Common.{length, get_or, Option, Some, None, refl, sym, subst, ◌∙◌, arith, if◌then◌else◌}
use Rattle.std.specs.List.{list_all}
use Rattle.sq_num.specs.declared.Elem.TheVariants.{Long}
use Rattle.sq_num.specs.declared.RedOp.{RedOp}
use Rattle.sq_num.specs.Elements.{width, IsValue}
use Rattle.sq_num.specs.Reductions.{identity}
use Rattle.sq_rect.specs.Extents.{last_of, rows_of, product, row_major}
use Rattle.sq_rect.specs.Placing.{offset}
use Rattle.sq_ast.specs.declared.program.Mode.{Mode}
use Rattle.sq_ast.specs.declared.program.Mode.TheVariants.{Input, Output, Both}
use Rattle.sq_ir.specs.Leaf.declared.shape.Shape.{Shape}
use Rattle.sq_ir.specs.Written.{Setting, Env, at_turn}
use Rattle.sq_ir.specs.Plans.{Meets}
use Rattle.sq_ir.specs.declared.num.Num.{Num}
use Rattle.sq_ir.specs.declared.num.Num.TheVariants as n
use Rattle.sq_ir.specs.declared.term.LeafView.{LeafView}
use Rattle.sq_ir.specs.declared.term.Action.{Action}
use Rattle.sq_ir.specs.declared.term.Term.{Term}
use Rattle.sq_ir.specs.declared.term.Term.TheVariants as term
use Rattle.sq_term.specs.declared.context.Move.{Move}
use Rattle.sq_placed.specs.Trees.{is_moved, is_held}
use Rattle.sq_term.specs.Terms.{numbers, row_slot, lift_view, by_rows, copy_term, fill_term, add_term, copy_in_term}
use Rattle.sq_term.specs.Terms.{copy_out_term, bring_term_by, bring_term, back_term_by, back_term, hold_in_term_by}
use Rattle.sq_term.specs.Terms.{hold_in_term, hold_out_term_by, hold_out_term, buffer_view, with_table}
use Rattle.sq_term.specs.Terms.{unless_zero, block_view, come_in_term, fill_held_term}
use Rattle.sq_term.specs.Stands.{IsNumber}
use Rattle.sq_term_laws.specs.Fits.{Has}
use Rattle.sq_term_laws.specs.Roomy.{InRow, RowsInside, IsLined, one, two, three, AreSmall, IsShaped, IsRoomy}
use Rattle.sq_term_laws.specs.Roomy.{IsRoomyMove, IsBelow, no_more, in_each, AreDims, HaveSizes}
use Rattle.sq_term.proofs.Numbers.{const_is, lifted_is, constant, picked}
use Rattle.sq_term.proofs.Calls.{shifted_is}
use Rattle.sq_term_laws.proofs.Fine.{less_fits, zero_fits, const_has, add_has, pick_has, has_lifted, fine_skip, fine_act}
use Rattle.sq_term_laws.proofs.Fine.{fine_loop}
use Rattle.sq_term_laws.proofs.Fitting.{times_le}
use Rattle.sq_term_laws.proofs.Rooming.{row_inside}

-- ---- under one more loop

pub roomy_turn : (s : Setting) (turns : List ℕ) (t : ℕ) (v : LeafView) (x : Shape) → IsRoomy s turns v x
    → IsRoomy s (t ∷ turns) (lift_view v) x
roomy_turn s turns t v x h = record {
  elem = h.elem;
  extents = h.extents;
  tops = h.tops;
  shaped = h.shaped;
  lined = h.lined;
  strides = h.strides;
  bytes = h.bytes;
  number = lifted_is s turns v.slot.at h.bytes t h.number;
  has = has_lifted s turns v.slot.at t h.has;
  inside = h.inside;
}

-- ---- an array that fills a buffer

lined_major : (tops : List ℕ) → AreDims tops → IsLined (row_major (map suc tops)) tops
lined_major [] h = absurd h
lined_major (a ∷ []) h = one a
lined_major (a ∷ b ∷ []) h = two _ a b
lined_major (a ∷ b ∷ c ∷ []) h = three _ _ a b c
lined_major (a ∷ b ∷ c ∷ d ∷ ns) h = absurd h

small_major : (tops : List ℕ) → IsValue Long (pos (product (map suc tops))) → AreSmall (row_major (map suc tops))
small_major [] h = tt
small_major (t ∷ tops) h =
    let g = times_le 1 (product (map suc tops)) (suc t) (product (map suc tops)) (omega arith) (omega arith) in
    let rest = less_fits (product (map suc tops)) _ (omega (arith, g)) h in
    (rest, small_major tops rest)

last_major : (tops : List ℕ) → suc (offset (row_major (map suc tops)) tops) ≤ product (map suc tops)
last_major [] = omega arith
last_major (t ∷ tops) = let g = last_major tops in omega (arith, g)

pub roomy_buffer : (s : Setting) (sizes : HaveSizes s) (turns : List ℕ) (b : ℕ) (x : Shape) (tops : List ℕ)
    → IsShaped x tops → AreDims tops → width x.elem * product x.extents ≤ s.size b
    → IsValue Long (pos (product x.extents)) → IsRoomy s turns (buffer_view b x) x
roomy_buffer s sizes turns b x tops shaped dims fits small = record {
  elem = refl;
  extents = refl;
  tops = tops;
  shaped = shaped;
  lined = subst (λ (z : List ℕ). IsLined (row_major z) tops) (sym shaped.last) (lined_major tops dims);
  strides = subst (λ (z : List ℕ). AreSmall (row_major z)) (sym shaped.last)
      (small_major tops (subst (λ (z : List ℕ). IsValue Long (pos (product z))) shaped.last small));
  bytes = 0;
  number = constant s turns 0;
  has = record { has = λ l nodes. const_has s (record { turns = turns; level = l; nodes = nodes }) (pos 0) zero_fits };
  inside = let g : suc (offset (row_major x.extents) tops) ≤ product x.extents
      = subst (λ (z : List ℕ). suc (offset (row_major z) tops) ≤ product z) (sym shaped.last) (last_major tops) in
      let r = times_le (width x.elem) (suc (offset (row_major x.extents) tops)) (width x.elem) (product x.extents)
      (omega arith) g in omega (arith, r, fits);
}

-- ---- a block of an array

lined_block : (ss tops lows lasts : List ℕ) → IsLined ss tops → IsBelow lows lasts tops → IsLined ss lasts
lined_block ss tops lows lasts (one a) (in_each e no_more) = one _
lined_block ss tops lows lasts (two x a b) (in_each e (in_each f no_more)) = two x _ _
lined_block ss tops lows lasts (three x y a b c) (in_each e (in_each f (in_each g no_more))) = three x y _ _ _

scaled : (l i t x : ℕ) → l + i ≤ t → l * x + i * x ≤ t * x
scaled l i t x h = let g = times_le (l + i) x t x h (omega arith) in let e : (l + i) * x ≡ l * x + i * x
    = omega arith in omega (arith, g, e)

pub offsets_in : (ss tops lows lasts : List ℕ) → IsLined ss tops → IsBelow lows lasts tops → offset ss lows
    + offset ss lasts ≤ offset ss tops
offsets_in ss tops lows lasts (one a) (in_each e no_more) = omega (arith, e)
offsets_in ss tops lows lasts (two x a b) (in_each {l = l} {i = i} e (in_each f no_more)) = let g
    = scaled l i a x e in omega (arith, g, f)
offsets_in ss tops lows lasts (three x y a b c)
    (in_each {l = l} {i = i} e (in_each {l = k} {i = j} f (in_each h no_more))) = let g = scaled l i a x e in let m
    = scaled k j b y f in omega (arith, g, m, h)

shifted_has : (s : Setting) (turns ns : List ℕ) (ordinal at : Num) (k bytes : ℕ) → IsNumber s turns ordinal k
    → Has s turns ordinal → k < length ns → IsNumber s turns at bytes → Has s turns at
    → IsValue Long (pos (bytes + get_or ns k 0)) → Has s turns (with_table (unless_zero ns) ordinal at)
shifted_has s turns ns ordinal at k bytes h has l g its fits = go (list_all (λ n. n == 0) ns)
  where
    go : (b : Bool) → Has s turns (with_table (if b then None else Some (numbers ns)) ordinal at)
    go true = its
    go false = record {
      has = λ level nodes.
          let e : Env = record { turns = turns; level = level; nodes = nodes } in
          add_has s e at (n.Pick (numbers ns) ordinal) bytes (get_or ns k 0) (g.value level nodes)
          ((picked s turns ns ordinal k h).value level nodes) (its.has level nodes)
          (pick_has s e ns ordinal k (h.value level nodes) (has.has level nodes) l
          (less_fits (get_or ns k 0) (bytes + get_or ns k 0) (omega arith) fits)) fits;
    }

pub roomy_block : (s : Setting) (sizes : HaveSizes s) (turns ns : List ℕ) (ordinal : Num) (k : ℕ)
    → IsNumber s turns ordinal k → Has s turns ordinal → k < length ns
    → (v : LeafView) (x y : Shape) (h : IsRoomy s turns v x) (lows lasts : List ℕ) → IsShaped y lasts → x.elem ≡ y.elem
    → IsBelow lows lasts h.tops
    → get_or ns k 0 ≡ width v.elem * offset v.strides lows
    → IsRoomy s turns (block_view (unless_zero ns) ordinal y.extents v) y
roomy_block s sizes turns ns ordinal k number has l v x y h lows lasts shaped same low far = record {
  elem = h.elem ∙ same;
  extents = refl;
  tops = lasts;
  shaped = shaped;
  lined = lined_block v.strides h.tops lows lasts h.lined low;
  strides = h.strides;
  bytes = h.bytes + get_or ns k 0;
  number = shifted_is s turns ns ordinal v.slot.at k h.bytes number h.number;
  has = shifted_has s turns ns ordinal v.slot.at k h.bytes number has l h.number h.has
      (less_fits (h.bytes + get_or ns k 0) (s.size v.slot.buffer) (omega (arith, ends)) (sizes.each v.slot.buffer));
  inside = ends;
}
  where
    ends : h.bytes + get_or ns k 0 + width v.elem * suc (offset v.strides lasts) ≤ s.size v.slot.buffer
    ends =
        let o = offsets_in v.strides h.tops lows lasts h.lined low in
        let g = times_le (width v.elem) (offset v.strides lows + suc (offset v.strides lasts)) (width v.elem)
        (suc (offset v.strides h.tops)) (omega arith) (omega (arith, o)) in
        let e : width v.elem * (offset v.strides lows + suc (offset v.strides lasts))
        ≡ width v.elem * offset v.strides lows + width v.elem * suc (offset v.strides lasts) = omega arith in
        let i = h.inside in omega (arith, g, e, i, far)

-- ---- rows that are copied, filled and accumulated

module _ (s : Setting) (sizes : HaveSizes s) (eight : IsValue Long (pos 8)) (env : Env) (bs : List ℕ) (x : Shape) where
  abbrev Good : Term → Type 0
  Good y = Meets s (RowsInside s) y env bs

  row_as : (v u : LeafView) → IsRoomy s env.turns v x → IsRoomy s env.turns u x → (r : ℕ) → r < rows_of v.extents
      → InRow s (at_turn env r) (row_slot u) (width v.elem * last_of v.extents)
  row_as v u h g r l =
      let e = g.extents ∙ sym h.extents in let w = g.elem ∙ sym h.elem in
      subst (λ z. InRow s (at_turn env r) (row_slot u) (width z * last_of v.extents)) w
      (subst (λ (z : List ℕ). InRow s (at_turn env r) (row_slot u) (width u.elem * last_of z)) e
      (row_inside s sizes env u x g eight r (subst (λ (z : List ℕ). r < rows_of z) (sym e) l)))

  row_turned : (v u : LeafView) → IsRoomy s env.turns v x → IsRoomy s env.turns u x → (r : ℕ) → r < rows_of v.extents
      → InRow s (at_turn env r) (row_slot u) (last_of v.extents * width v.elem)
  row_turned v u h g r l = let e : width v.elem * last_of v.extents ≡ last_of v.extents * width v.elem
      = omega arith in subst (λ (z : ℕ). InRow s (at_turn env r) (row_slot u) z) e (row_as v u h g r l)

  by_good : (v : LeafView) (a : Action) → IsRoomy s env.turns v x
      → ((r : ℕ) → r < rows_of v.extents → RowsInside s (at_turn env r) bs a) → Good (by_rows v.extents a)
  by_good v a h f = fine_loop s (RowsInside s) env bs (n.Const (pos (rows_of v.extents))) (rows_of v.extents)
      (term.Act a) (const_is s env (pos (rows_of v.extents)))
      (const_has s env (pos (rows_of v.extents))
      (subst (λ (z : List ℕ). IsValue Long (pos (rows_of z))) (sym h.extents) h.shaped.rows))
      (λ r l. fine_act s (RowsInside s) (at_turn env r) bs a (f r l))

  pub copy_good : (v a b : LeafView) → IsRoomy s env.turns v x → IsRoomy s env.turns a x → IsRoomy s env.turns b x
      → Good (copy_term v a b)
  copy_good v a b h g i = by_good v _ h (λ r l. (row_as v a h g r l, row_as v b h i r l))

  pub fill_good : (k : ℤ) (v : LeafView) → IsRoomy s env.turns v x → Good (fill_term k v)
  fill_good k v h = by_good v _ h (λ r l. row_turned v v h h r l)

  pub add_good : (op : RedOp) (v a b : LeafView) → IsRoomy s env.turns v x → IsRoomy s env.turns a x
      → IsRoomy s env.turns b x → Good (add_term op v a b)
  add_good op v a b h g i = by_good v _ h (λ r l. (row_turned v a h g r l, row_turned v b h i r l))

  if_good : (b : Bool) (y : Term) → Good y → Good (if b then y else term.Skip)
  if_good true y h = h
  if_good false y h = fine_skip s (RowsInside s) env bs

  module _ (m : Move) (h : IsRoomyMove s env.turns m x) where
    come : Good (copy_in_term m)
    come = copy_good m.own m.outside m.own h.own h.outside h.own

    back : Good (copy_out_term m)
    back = copy_good m.own m.own m.outside h.own h.own h.outside

    pub bring_good : Good (bring_term m)
    bring_good = go m.gathers m.mode
      where
        go : (o : Option RedOp) (k : Mode) → Good (bring_term_by o k m)
        go (Some op) k = fill_good (identity op m.own.elem) m.own h.own
        go None Input = if_good (is_moved m.home) (copy_in_term m) come
        go None Output = fill_good (pos 0) m.own h.own
        go None Both = if_good (is_moved m.home) (copy_in_term m) come

    pub come_good : Good (come_in_term m)
    come_good = go (is_held m.home)
      where
        go : (b : Bool) → Good (if b then term.Skip else bring_term m)
        go true = fine_skip s (RowsInside s) env bs
        go false = bring_good

    pub begin_good : Good (fill_held_term m)
    begin_good = if_good (is_held m.home) (bring_term m) bring_good

    pub back_good : Good (back_term m)
    back_good = go m.gathers m.mode
      where
        go : (o : Option RedOp) (k : Mode) → Good (back_term_by o k m)
        go (Some op) k = add_good op m.own m.own m.outside h.own h.own h.outside
        go None Input = fine_skip s (RowsInside s) env bs
        go None Output = if_good (is_moved m.home) (copy_out_term m) back
        go None Both = if_good (is_moved m.home) (copy_out_term m) back

    pub hold_in_good : Good (hold_in_term m)
    hold_in_good = go m.mode
      where
        go : (k : Mode) → Good (hold_in_term_by k m)
        go Input = come
        go Output = fine_skip s (RowsInside s) env bs
        go Both = come

    pub hold_out_good : Good (hold_out_term m)
    hold_out_good = go m.mode
      where
        go : (k : Mode) → Good (hold_out_term_by k m)
        go Input = fine_skip s (RowsInside s) env bs
        go Output = back
        go Both = back
