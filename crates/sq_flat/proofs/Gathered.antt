-- The memory in a reduction shows the arrays that are meant.
use Rattle.std.proofs.Common.{arith, ◌≡◌, ◌∙◌, sym, ap, ap₂, subst, refl, ℕ, ℤ, Bool, true, false, nat_eq, if◌then◌else◌, List, map, length, replicate, slice_get, Some}
use Rattle.std.proofs.lemmas.Bool.Decides.{nat_tests}
use Rattle.sq_num.specs.declared.Elem.{Elem}
use Rattle.sq_num.specs.declared.RedOp.{RedOp}
use Rattle.sq_num.specs.Elements.{width, value, cell}
use Rattle.sq_num.specs.Reductions.{red, identity}
use Rattle.sq_num.proofs.Cutting.{value-cell, cut-value}
use Rattle.sq_num.proofs.Reducing.{unit_fits, are-laws}
use Rattle.sq_kern.specs.Rows.{cells, reduced}
use Rattle.sq_kern.proofs.Blocks.{length-reduced}
use Rattle.sq_rect.specs.declared.view.View.{View}
use Rattle.sq_rect.specs.Extents.{product}
use Rattle.sq_rect.specs.Placing.{IsIn}
use Rattle.sq_leaf.specs.declared.shape.Shape.{Shape}
use Rattle.sq_leaf.specs.Source.{Arrays}
use Rattle.sq_leaf.specs.Spots.{load}
use Rattle.sq_leaf.specs.Views.{Shows, spot_of, shape_of}
use Rattle.sq_work.specs.declared.reduction.Reduction.{Reduction}
use Rattle.sq_work.specs.Meaning.{with_identity}
use Rattle.sq_work.specs.InTurn.{with_combined}
use Rattle.sq_flat.specs.Blocks.{element}
use Rattle.sq_flat.specs.Memory.{lined, size, bytes_of, ArePlaced, put_array, cleared_bytes, combined_bytes}
use Rattle.sq_flat.specs.Ready.{IsLine}
use Rattle.sq_flat.proofs.Cells.{filled_length, filled_element, reduced_element}
use Rattle.sq_flat.proofs.Standing.{length_bytes, loaded}
use Rattle.sq_flat.proofs.Returned.{put_same, put_other, put_length}
use Rattle.sq_flat.proofs.Fitting.{same_some, placed_still}

-- ---- one array replaced in a memory that shows arrays

module _ (shapes : List Shape) (bytes array : List ℕ) (k : ℕ) (v : View) (s : Arrays) (placed : ArePlaced (lined 0 shapes) bytes) (there : slice_get (lined 0 shapes) k ≡ Some v)
    (long : length array ≡ size v) (shows : Shows (lined 0 shapes) bytes s) where
  still : ArePlaced (lined 0 shapes) (put_array v array bytes)
  still = placed_still (lined 0 shapes) bytes (put_array v array bytes) (put_length v array bytes (placed.each k v there) long) placed

  here : (cs : List ℕ) → IsIn v.extents cs → load (spot_of v cs) (put_array v array bytes) ≡ value v.elem (element (width v.elem) v.extents cs array)
  here cs at =
      loaded v (put_array v array bytes) cs (still.each k v there) at
      ∙ ap (λ (b : List ℕ). value v.elem (element (width v.elem) v.extents cs b)) (put_same v array bytes (placed.each k v there) long)

  other : (n : ℕ) (u : View) (cs : List ℕ) → slice_get (lined 0 shapes) n ≡ Some u → nat_eq n k ≡ false → IsIn u.extents cs → load (spot_of u cs) (put_array v array bytes) ≡ s n cs
  other n u cs is apart at =
      loaded u (put_array v array bytes) cs (still.each n u is) at
      ∙ (ap (λ (b : List ℕ). value u.elem (element (width u.elem) u.extents cs b)) (put_other shapes bytes array n k u v placed is there apart long)
      ∙ (sym (loaded u bytes cs (placed.each n u is) at) ∙ shows.shown n u cs is at))

  by_number : (new : List ℕ → ℤ) → ((cs : List ℕ) → IsIn v.extents cs → value v.elem (element (width v.elem) v.extents cs array) ≡ new cs) → (same : Bool) (n : ℕ) (u : View) (cs : List ℕ)
      → nat_eq n k ≡ same → slice_get (lined 0 shapes) n ≡ Some u → IsIn u.extents cs → load (spot_of u cs) (put_array v array bytes) ≡ (if same then new cs else s n cs)
  by_number new is false n u cs e at_n at = other n u cs at_n e at
  by_number new is true n u cs e at_n at =
      let number : n ≡ k = grind (arith, nat_tests, e) in
      let same : v ≡ u = same_some v u (sym there ∙ subst (λ (i : ℕ). slice_get (lined 0 shapes) i ≡ Some u) number at_n) in
      let at_v : IsIn v.extents cs = subst (λ (w : View). IsIn w.extents cs) (sym same) at in
      subst (λ (w : View). load (spot_of w cs) (put_array v array bytes) ≡ new cs) same (here cs at_v ∙ is cs at_v)

-- ---- the identity

identity_value : (op : RedOp) (e : Elem) → value e (cell e (identity op e)) ≡ identity op e
identity_value op e = value-cell e (identity op e) ∙ cut-value e (identity op e) (unit_fits op e)

cleared_line : (shapes : List Shape) (bytes : List ℕ) (v : View) (r : Reduction) (s : Arrays) → ArePlaced (lined 0 shapes) bytes → slice_get (lined 0 shapes) r.array ≡ Some v → r.elem ≡ v.elem
    → Shows (lined 0 shapes) bytes s → Shows (lined 0 shapes) (cleared_bytes r.op v bytes) (with_identity r s)
cleared_line shapes bytes v r s placed there same shows =
    let array : List ℕ = cells v.elem (replicate (product v.extents) (identity r.op v.elem)) in
    record {
      shown = λ n u cs at_n at.
          by_number shapes bytes array r.array v s placed there (filled_length v.elem (product v.extents) (identity r.op v.elem)) shows (λ ds. identity r.op r.elem)
          (λ ds inside. ap (value v.elem) (filled_element v.elem v.extents ds (identity r.op v.elem) inside) ∙ (identity_value r.op v.elem ∙ ap (identity r.op) (sym same)))
          (nat_eq n r.array) n u cs refl at_n at;
    }

pub cleared_shows : (vs : List View) (bytes : List ℕ) (v : View) (r : Reduction) (s : Arrays) → IsLine vs → ArePlaced vs bytes → slice_get vs r.array ≡ Some v → r.elem ≡ v.elem
    → Shows vs bytes s → Shows vs (cleared_bytes r.op v bytes) (with_identity r s)
cleared_shows vs bytes v r s line placed there same shows =
    subst (λ (us : List View). Shows us (cleared_bytes r.op v bytes) (with_identity r s)) (sym line.lined)
    (cleared_line (map shape_of vs) bytes v r s (subst (λ (us : List View). ArePlaced us bytes) line.lined placed)
    (subst (λ (us : List View). slice_get us r.array ≡ Some v) line.lined there) same (subst (λ (us : List View). Shows us bytes s) line.lined shows))

-- ---- the values combined

red_value : (op : RedOp) (e : Elem) (a b : ℤ) → value e (cell e (red op e a b)) ≡ red op e a b
red_value op e a b = value-cell e (red op e a b) ∙ cut-value e (red op e a b) ((are-laws op e).closed a b)

-- the array as it was before, of a memory that showed s
record Kept (v : View) (k : ℕ) (before : List ℕ) (s : Arrays) : Type 0 where
  long : length before ≡ size v
  shown : (cs : List ℕ) → IsIn v.extents cs → value v.elem (element (width v.elem) v.extents cs before) ≡ s k cs

combined_line : (shapes : List Shape) (bytes before : List ℕ) (v : View) (r : Reduction) (s own : Arrays) → ArePlaced (lined 0 shapes) bytes → slice_get (lined 0 shapes) r.array ≡ Some v → r.elem ≡ v.elem
    → Kept v r.array before s → Shows (lined 0 shapes) bytes own → Shows (lined 0 shapes) (combined_bytes r.op v before bytes) (with_combined r s own)
combined_line shapes bytes before v r s own placed there same kept shows =
    let from : List ℕ = bytes_of v bytes in
    let from_long : length from ≡ size v = length_bytes v bytes (placed.each r.array v there) in
    let array : List ℕ = reduced r.op v.elem (product v.extents) from before in
    let long : length array ≡ size v = length-reduced r.op v.elem (product v.extents) from before in
    record {
      shown = λ n u cs at_n at.
          by_number shapes bytes array r.array v own placed there long shows (λ ds. red r.op r.elem (s r.array ds) (own r.array ds))
          (λ ds inside.
          ap (value v.elem) (reduced_element r.op v.elem v.extents ds from before inside from_long kept.long long)
          ∙ (red_value r.op v.elem (value v.elem (element (width v.elem) v.extents ds before)) (value v.elem (element (width v.elem) v.extents ds from))
          ∙ (ap₂ (red r.op v.elem) (kept.shown ds inside) (sym (loaded v bytes ds (placed.each r.array v there) inside) ∙ shows.shown r.array v ds there inside)
          ∙ ap (λ (e : Elem). red r.op e (s r.array ds) (own r.array ds)) (sym same))))
          (nat_eq n r.array) n u cs refl at_n at
          ∙ number_case (nat_eq n r.array) n cs refl;
    }
  where
    number_case : (same : Bool) (n : ℕ) (cs : List ℕ) → nat_eq n r.array ≡ same
        → (if same then red r.op r.elem (s r.array cs) (own r.array cs) else own n cs) ≡ (if same then red r.op r.elem (s n cs) (own n cs) else own n cs)
    number_case false n cs e = refl
    number_case true n cs e = let number : r.array ≡ n = grind (arith, nat_tests, e) in ap (λ (i : ℕ). red r.op r.elem (s i cs) (own i cs)) number

kept_of : (v : View) (k : ℕ) (bytes : List ℕ) (s : Arrays) (vs : List View) → ArePlaced vs bytes → slice_get vs k ≡ Some v → Shows vs bytes s → Kept v k (bytes_of v bytes) s
kept_of v k bytes s vs placed there shows = record {
  long = length_bytes v bytes (placed.each k v there);
  shown = λ cs at. sym (loaded v bytes cs (placed.each k v there) at) ∙ shows.shown k v cs there at;
}

pub combined_shows : (vs : List View) (old bytes : List ℕ) (v : View) (r : Reduction) (s own : Arrays) → IsLine vs → ArePlaced vs old → ArePlaced vs bytes → slice_get vs r.array ≡ Some v → r.elem ≡ v.elem
    → Shows vs old s → Shows vs bytes own → Shows vs (combined_bytes r.op v (bytes_of v old) bytes) (with_combined r s own)
combined_shows vs old bytes v r s own line was placed there same before shows =
    subst (λ (us : List View). Shows us (combined_bytes r.op v (bytes_of v old) bytes) (with_combined r s own)) (sym line.lined)
    (combined_line (map shape_of vs) bytes (bytes_of v old) v r s own (subst (λ (us : List View). ArePlaced us bytes) line.lined placed)
    (subst (λ (us : List View). slice_get us r.array ≡ Some v) line.lined there) same (kept_of v r.array old s vs was there before) (subst (λ (us : List View). Shows us bytes own) line.lined shows))
