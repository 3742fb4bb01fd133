use Rattle.std.proofs.Common.{◌≡◌, ◌*◌, ◌++◌, ℕ, List, ◌∙◌, ap, sym, arith}
use Rattle.sq_num.specs.Elements.{values_in}
use Rattle.sq_rect.specs.Extents.{product, rows_of, last_of}
use Rattle.sq_rect.proofs.Extents.{product-rows}
use Rattle.sq_arrays.specs.Arrays.{Wanted}
use Rattle.sq_arrays.specs.Written.{array_text, head_text, rows_text}
use Rattle.sq_arrays.proofs.Writing.{wrote_same}
use Rattle.sq_arrays.proofs.write.write_array.Goals as goal

same_size : (n r l w : ℕ) (ns : List ℕ) → r ≡ rows_of ns → l ≡ last_of ns → n ≡ product ns * w → n ≡ r * l * w
same_size n r l w ns p q is =
    is ∙ ap (λ (k : ℕ). k * w) (product-rows ns) ∙ ap (λ (k : ℕ). k * last_of ns * w) (sym p) ∙ ap (λ (k : ℕ). r * k * w) (sym q)

same_text : (w : Wanted) (r l : ℕ) (bytes : List ℕ) → r ≡ rows_of w.extents → l ≡ last_of w.extents
    → head_text w ++ rows_text r l (values_in w.elem (r * l) bytes) ≡ array_text w (values_in w.elem (product w.extents) bytes)
unfolding array_text
same_text w r l bytes p q =
    ap (λ (k : ℕ). head_text w ++ rows_text k l (values_in w.elem (k * l) bytes)) p
    ∙ ap (λ (k : ℕ). head_text w ++ rows_text (rows_of w.extents) k (values_in w.elem (rows_of w.extents * k) bytes)) q
    ∙ ap (λ (k : ℕ). head_text w ++ rows_text (rows_of w.extents) (last_of w.extents) (values_in w.elem k bytes)) (sym (product-rows w.extents))

pub put_rows-requires : goal.put_rows-requires
put_rows-requires g c = same_size _ _ _ _ _ c.rows-rows.ensures c.last-last.ensures c.requires

pub returns : goal.returns
returns g c = record {
  later = omega (arith, c.put_head.ensures.later, c.put_rows.ensures.later, c.put.ensures.later);
  wrote = wrote_same (same_text _ _ _ c.args.bytes.now c.rows-rows.ensures c.last-last.ensures)
      (c.put.ensures.wrote _ _ _ (c.put_rows.ensures.gathers _ _ _ (c.put_head.ensures.gathers _ _ _ (c.new-line.ensures.begins _ _))));
}
