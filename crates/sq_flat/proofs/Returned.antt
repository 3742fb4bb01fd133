-- A caller's memory at its callee's end shows the arrays that are meant.
use Rattle.std.proofs.Common.{arith, ◌≡◌, ◌∙◌, ◌⊎◌, inl, inr, sym, ap, subst, refl, ℕ, zero, suc, ◌+◌, ◌*◌, ◌<◌, ◌≤◌, Bool, true, false, nat_eq, ◌&&◌, if◌then◌else◌, List, [], ◌∷◌, ◌++◌, length, take, drop, slice_get, Option, Some}
use Rattle.std.proofs.lemmas.List.{length-take-le, drop-take}
use Rattle.std.proofs.lemmas.Slice.{take-put_mid_below, drop-put_mid}
use Rattle.std.proofs.lemmas.Bool.Decides.{nat_tests}
use Rattle.std.proofs.Math.Seq.{take-append_seam, drop-append_seam}
use borrow.Rule.Slice.PartMut.{same_len_mid}
use Rattle.sq_num.specs.declared.Elem.{Elem}
use Rattle.sq_num.specs.Elements.{width, value}
use Rattle.sq_rect.specs.declared.view.View.{View}
use Rattle.sq_rect.specs.Extents.{product, row_major}
use Rattle.sq_rect.specs.Placing.{IsIn}
use Rattle.sq_text.specs.declared.place.Span.{Span}
use Rattle.sq_leaf.specs.declared.shape.Shape.{Shape}
use Rattle.sq_leaf.specs.Source.{Arrays}
use Rattle.sq_leaf.specs.Spots.{load}
use Rattle.sq_leaf.specs.Views.{Shows, spot_of}
use Rattle.sq_blocks.specs.declared.argument.Argument.{Argument}
use Rattle.sq_ast.specs.Modes.{is_written}
use Rattle.sq_blocks.specs.Arguments.{lengths}
use Rattle.sq_work.specs.Meaning.{covers, in_block, with_block, at_return}
use Rattle.sq_flat.specs.Blocks.{Fits, element, with_bytes}
use Rattle.sq_flat.specs.Memory.{size_of, lined, size, bytes_of, IsPlaced, ArePlaced, ArgFits, FitFrom, put_array, put_param, end_bytes}
use Rattle.sq_flat.proofs.Replaced.{element_in, element_out, length_with}
use Rattle.sq_flat.proofs.Standing.{length_bytes, loaded}
use Rattle.sq_flat.proofs.Fitting.{same_some, fit_later, fit_first}
use Rattle.sq_flat.proofs.Entered.{line_ends}

-- ---- one array replaced

pub put_same : (v : View) (array bytes : List ℕ) → IsPlaced v bytes → length array ≡ size v → bytes_of v (put_array v array bytes) ≡ array
put_same v array bytes placed long =
    let before : List ℕ = take v.at bytes in
    let behind : List ℕ = drop (size v) (drop v.at bytes) in
    let there : length before ≡ v.at = length-take-le v.at bytes (omega (arith, placed.ends)) in
    ap (take (size v)) (ap (λ (z : ℕ). drop z (before ++ (array ++ behind))) (sym there) ∙ drop-append_seam before (array ++ behind))
    ∙ (ap (λ (z : ℕ). take z (array ++ behind)) (sym long) ∙ take-append_seam array behind)

pub put_length : (v : View) (array bytes : List ℕ) → IsPlaced v bytes → length array ≡ size v → length (put_array v array bytes) ≡ length bytes
put_length v array bytes placed long = same_len_mid v.at (size v) bytes array (long ∙ sym (length_bytes v bytes placed))

-- the arrays before it and those behind it stay
pub put_before : (u v : View) (array bytes : List ℕ) → IsPlaced v bytes → u.at + size u ≤ v.at → bytes_of u (put_array v array bytes) ≡ bytes_of u bytes
put_before u v array bytes placed before =
    sym (drop-take u.at (size u) (put_array v array bytes))
    ∙ (ap (drop u.at) (take-put_mid_below v.at (size v) bytes array (u.at + size u) before (omega (arith, placed.ends)))
    ∙ drop-take u.at (size u) bytes)

pub put_behind : (u v : View) (array bytes : List ℕ) → IsPlaced v bytes → length array ≡ size v → v.at + size v ≤ u.at → bytes_of u (put_array v array bytes) ≡ bytes_of u bytes
put_behind u v array bytes placed long behind = ap (take (size u)) (drop-put_mid v.at (size v) bytes array u.at behind (omega (arith, placed.ends)) long)

-- in line the arrays before one end before it
pub line_apart : (shapes : List Shape) (at n m : ℕ) (u v : View) → slice_get (lined at shapes) n ≡ Some u → slice_get (lined at shapes) m ≡ Some v → n < m → u.at + size u ≤ v.at
line_apart [] at n m u v first second below = cc
line_apart (s ∷ shapes) at n zero u v first second below = absurd (omega (arith, below))
line_apart (s ∷ shapes) at zero (suc m) u v first second below =
    let w : View = record { at = at; elem = s.elem; extents = s.extents; strides = row_major s.extents } in
    let next = line_ends shapes (at + size_of s) m v second in
    subst (λ (z : View). z.at + size z ≤ v.at) (same_some w u first) (omega (arith, next.1))
line_apart (s ∷ shapes) at (suc n) (suc m) u v first second below = line_apart shapes (at + size_of s) n m u v first second (omega (arith, below))

sides : (n m : ℕ) → nat_eq n m ≡ false → (n < m) ⊎ (m < n)
sides zero zero e = absurd (grind (arith, nat_tests, e))
sides zero (suc m) e = inl (omega arith)
sides (suc n) zero e = inr (omega arith)
sides (suc n) (suc m) e = side (sides n m (grind (arith, nat_tests, e)))
  where
    side : (n < m) ⊎ (m < n) → (suc n < suc m) ⊎ (suc m < suc n)
    side (inl h) = inl (omega (arith, h))
    side (inr h) = inr (omega (arith, h))

pub put_other : (shapes : List Shape) (bytes array : List ℕ) (n m : ℕ) (u v : View) → ArePlaced (lined 0 shapes) bytes → slice_get (lined 0 shapes) n ≡ Some u → slice_get (lined 0 shapes) m ≡ Some v
    → nat_eq n m ≡ false → length array ≡ size v → bytes_of u (put_array v array bytes) ≡ bytes_of u bytes
put_other shapes bytes array n m u v placed first second apart long = by (sides n m apart)
  where
    by : (n < m) ⊎ (m < n) → bytes_of u (put_array v array bytes) ≡ bytes_of u bytes
    by (inl h) = put_before u v array bytes (placed.each m v second) (line_apart shapes 0 n m u v first second h)
    by (inr h) = put_behind u v array bytes (placed.each m v second) long (line_apart shapes 0 m n v u second first h)

-- ---- one parameter put back

-- a coordinate of the array in the block is one of the block
block_in : (spans : List Span) (ns cs : List ℕ) → Fits spans ns → IsIn ns cs → covers spans cs ≡ true → IsIn (lengths spans) (in_block spans cs)
block_in [] [] [] fits at within = tt
block_in [] [] (c ∷ cs) fits at within = absurd at
block_in [] (n ∷ ns) cs fits at within = absurd fits
block_in (s ∷ spans) [] cs fits at within = absurd fits
block_in (s ∷ spans) (n ∷ ns) [] fits at within = absurd at
block_in (s ∷ spans) (n ∷ ns) (c ∷ cs) fits at within =
    let from : s.lo ≤ c = grind (arith, nat_tests, within) in
    let below : c < s.hi = grind (arith, nat_tests, within) in
    let rest : covers spans cs ≡ true = grind (arith, nat_tests, within) in
    (omega (arith, from, below), block_in spans ns cs fits.2 at.1 rest)

-- the block's array with the parameter's values
abbrev new_array : Argument → View → View → List ℕ → List ℕ → List ℕ
new_array a of to memory bytes = with_bytes (width of.elem) a.rect of.extents (bytes_of to memory) (bytes_of of bytes)

-- what is known where a parameter is put back
record Putting (shapes : List Shape) (inner : List View) (k : ℕ) (a : Argument) (memory bytes : List ℕ) (t s : Arrays) : Type 0 where
  outer_placed : ArePlaced (lined 0 shapes) bytes
  inner_placed : ArePlaced inner memory
  fit : ArgFits (lined 0 shapes) inner k a
  outer_shows : Shows (lined 0 shapes) bytes s
  inner_shows : Shows inner memory t

module _ (shapes : List Shape) (inner : List View) (k : ℕ) (a : Argument) (memory bytes : List ℕ) (t s : Arrays) (p : Putting shapes inner k a memory bytes t s) where
  of_placed : IsPlaced p.fit.of bytes
  of_placed = p.outer_placed.each a.array p.fit.of p.fit.of_is

  to_placed : IsPlaced p.fit.to memory
  to_placed = p.inner_placed.each k p.fit.to p.fit.to_is

  block_length : length (bytes_of p.fit.to memory) ≡ width p.fit.of.elem * product (lengths a.rect)
  block_length =
      length_bytes p.fit.to memory to_placed
      ∙ (ap (λ (e : Elem). width e * product p.fit.to.extents) p.fit.elem ∙ ap (λ (ns : List ℕ). width p.fit.of.elem * product ns) p.fit.extents)

  new_length : length (new_array a p.fit.of p.fit.to memory bytes) ≡ size p.fit.of
  new_length =
      length_with (width p.fit.of.elem) a.rect p.fit.of.extents (bytes_of p.fit.to memory) (bytes_of p.fit.of bytes) p.fit.fits block_length (length_bytes p.fit.of bytes of_placed)
      ∙ length_bytes p.fit.of bytes of_placed

  abbrev new_bytes : List ℕ
  new_bytes = put_array p.fit.of (new_array a p.fit.of p.fit.to memory bytes) bytes

  new_placed : ArePlaced (lined 0 shapes) new_bytes
  new_placed = record {
    each = λ n v there.
        let was = p.outer_placed.each n v there in
        record { strides = was.strides; ends = subst (λ (z : ℕ). v.at + size v ≤ z) (sym (put_length p.fit.of (new_array a p.fit.of p.fit.to memory bytes) bytes of_placed new_length)) was.ends };
  }

  in_it : (cs : List ℕ) → IsIn p.fit.of.extents cs → covers a.rect cs ≡ true → load (spot_of p.fit.of cs) new_bytes ≡ t k (in_block a.rect cs)
  in_it cs at within =
      let w : ℕ = width p.fit.of.elem in
      let inside = block_in a.rect p.fit.of.extents cs p.fit.fits at within in
      let inside_to : IsIn p.fit.to.extents (in_block a.rect cs) = subst (λ (ns : List ℕ). IsIn ns (in_block a.rect cs)) (sym p.fit.extents) inside in
      loaded p.fit.of new_bytes cs (new_placed.each a.array p.fit.of p.fit.of_is) at
      ∙ (ap (λ (b : List ℕ). value p.fit.of.elem (element w p.fit.of.extents cs b)) (put_same p.fit.of (new_array a p.fit.of p.fit.to memory bytes) bytes of_placed new_length)
      ∙ (ap (value p.fit.of.elem) (element_in w a.rect p.fit.of.extents (bytes_of p.fit.to memory) (bytes_of p.fit.of bytes) cs p.fit.fits block_length (length_bytes p.fit.of bytes of_placed) at within)
      ∙ (ap (λ (e : Elem). value e (element (width e) (lengths a.rect) (in_block a.rect cs) (bytes_of p.fit.to memory))) (sym p.fit.elem)
      ∙ (ap (λ (ns : List ℕ). value p.fit.to.elem (element (width p.fit.to.elem) ns (in_block a.rect cs) (bytes_of p.fit.to memory))) (sym p.fit.extents)
      ∙ (sym (loaded p.fit.to memory (in_block a.rect cs) to_placed inside_to)
      ∙ p.inner_shows.shown k p.fit.to (in_block a.rect cs) p.fit.to_is inside_to)))))

  out_of_it : (cs : List ℕ) → IsIn p.fit.of.extents cs → covers a.rect cs ≡ false → load (spot_of p.fit.of cs) new_bytes ≡ s a.array cs
  out_of_it cs at without =
      let w : ℕ = width p.fit.of.elem in
      loaded p.fit.of new_bytes cs (new_placed.each a.array p.fit.of p.fit.of_is) at
      ∙ (ap (λ (b : List ℕ). value p.fit.of.elem (element w p.fit.of.extents cs b)) (put_same p.fit.of (new_array a p.fit.of p.fit.to memory bytes) bytes of_placed new_length)
      ∙ (ap (value p.fit.of.elem) (element_out w a.rect p.fit.of.extents (bytes_of p.fit.to memory) (bytes_of p.fit.of bytes) cs p.fit.fits block_length (length_bytes p.fit.of bytes of_placed) at without)
      ∙ (sym (loaded p.fit.of bytes cs of_placed at)
      ∙ p.outer_shows.shown a.array p.fit.of cs p.fit.of_is at)))

  elsewhere : (n : ℕ) (v : View) (cs : List ℕ) → slice_get (lined 0 shapes) n ≡ Some v → nat_eq n a.array ≡ false → IsIn v.extents cs → load (spot_of v cs) new_bytes ≡ s n cs
  elsewhere n v cs there apart at =
      loaded v new_bytes cs (new_placed.each n v there) at
      ∙ (ap (λ (b : List ℕ). value v.elem (element (width v.elem) v.extents cs b)) (put_other shapes bytes (new_array a p.fit.of p.fit.to memory bytes) n a.array v p.fit.of p.outer_placed there p.fit.of_is apart new_length)
      ∙ (sym (loaded v bytes cs (p.outer_placed.each n v there) at)
      ∙ p.outer_shows.shown n v cs there at))

  by_block : (same within : Bool) (n : ℕ) (v : View) (cs : List ℕ) → nat_eq n a.array ≡ same → covers a.rect cs ≡ within → slice_get (lined 0 shapes) n ≡ Some v → IsIn v.extents cs
      → load (spot_of v cs) new_bytes ≡ (if same && within then t k (in_block a.rect cs) else s n cs)
  by_block false within n v cs e w there at = elsewhere n v cs there e at
  by_block true true n v cs e w there at =
      let number : n ≡ a.array = grind (arith, nat_tests, e) in
      let same : p.fit.of ≡ v = same_some p.fit.of v (sym p.fit.of_is ∙ subst (λ (i : ℕ). slice_get (lined 0 shapes) i ≡ Some v) number there) in
      subst (λ (u : View). load (spot_of u cs) new_bytes ≡ t k (in_block a.rect cs)) same (in_it cs (subst (λ (u : View). IsIn u.extents cs) (sym same) at) w)
  by_block true false n v cs e w there at =
      let number : n ≡ a.array = grind (arith, nat_tests, e) in
      let same : p.fit.of ≡ v = same_some p.fit.of v (sym p.fit.of_is ∙ subst (λ (i : ℕ). slice_get (lined 0 shapes) i ≡ Some v) number there) in
      subst (λ (u : View). load (spot_of u cs) new_bytes ≡ s a.array cs) same (out_of_it cs (subst (λ (u : View). IsIn u.extents cs) (sym same) at) w)
      ∙ ap (λ (i : ℕ). s i cs) (sym number)

  -- the memory after it shows the arrays after it
  written_shown : is_written a.mode ≡ true → Shows (lined 0 shapes) new_bytes (with_block a (t k) s)
  written_shown written = record {
    shown = λ n v cs there at.
        by_block (nat_eq n a.array) (covers a.rect cs) n v cs refl refl there at
        ∙ ap (λ (b : Bool). if b && (nat_eq n a.array && covers a.rect cs) then t k (in_block a.rect cs) else s n cs) (sym written);
  }

  unwritten_shown : is_written a.mode ≡ false → Shows (lined 0 shapes) bytes (with_block a (t k) s)
  unwritten_shown unwritten = record {
    shown = λ n v cs there at.
        p.outer_shows.shown n v cs there at
        ∙ ap (λ (b : Bool). if b && (nat_eq n a.array && covers a.rect cs) then t k (in_block a.rect cs) else s n cs) (sym unwritten);
  }

  put_is : put_param a (slice_get (lined 0 shapes) a.array) (slice_get inner k) memory bytes ≡ new_bytes
  put_is =
      ap (λ (o : Option View). put_param a o (slice_get inner k) memory bytes) p.fit.of_is
      ∙ ap (λ (o : Option View). put_param a (Some p.fit.of) o memory bytes) p.fit.to_is

-- a parameter is put back, or is none that is written
pub record IsPut (shapes : List Shape) (bytes new : List ℕ) (s : Arrays) : Type 0 where
  pub placed : ArePlaced (lined 0 shapes) new
  pub long : length new ≡ length bytes
  pub shows : Shows (lined 0 shapes) new s

one_put : (written : Bool) (shapes : List Shape) (inner : List View) (k : ℕ) (a : Argument) (memory bytes : List ℕ) (t s : Arrays) → Putting shapes inner k a memory bytes t s → is_written a.mode ≡ written
    → IsPut shapes bytes (if written then put_param a (slice_get (lined 0 shapes) a.array) (slice_get inner k) memory bytes else bytes) (with_block a (t k) s)
one_put true shapes inner k a memory bytes t s p e =
    subst (λ (b : List ℕ). IsPut shapes bytes b (with_block a (t k) s)) (sym (put_is shapes inner k a memory bytes t s p))
    (record {
      placed = new_placed shapes inner k a memory bytes t s p;
      long = put_length p.fit.of (new_array a p.fit.of p.fit.to memory bytes) bytes (of_placed shapes inner k a memory bytes t s p) (new_length shapes inner k a memory bytes t s p);
      shows = written_shown shapes inner k a memory bytes t s p e;
    })
one_put false shapes inner k a memory bytes t s p e = record { placed = p.outer_placed; long = refl; shows = unwritten_shown shapes inner k a memory bytes t s p e }

-- ---- all of them

pub end_shown : (shapes : List Shape) (inner : List View) (k : ℕ) (args : List Argument) (memory bytes : List ℕ) (t s : Arrays) → ArePlaced (lined 0 shapes) bytes → ArePlaced inner memory
    → FitFrom (lined 0 shapes) inner k args → Shows (lined 0 shapes) bytes s → Shows inner memory t
    → IsPut shapes bytes (end_bytes (lined 0 shapes) inner memory k args bytes) (at_return k args t s)
end_shown shapes inner k [] memory bytes t s outer_placed inner_placed fit outer_shows inner_shows = record { placed = outer_placed; long = refl; shows = outer_shows }
end_shown shapes inner k (a ∷ args) memory bytes t s outer_placed inner_placed fit outer_shows inner_shows =
    let next : suc k ≡ k + 1 = omega arith in
    let later = end_shown shapes inner (k + 1) args memory bytes t s outer_placed inner_placed (fit_later (lined 0 shapes) inner k (a ∷ args) a args refl fit) outer_shows inner_shows in
    let this : ArgFits (lined 0 shapes) inner k a = fit_first (lined 0 shapes) inner k (a ∷ args) a args refl fit in
    let put = one_put (is_written a.mode) shapes inner k a memory (end_bytes (lined 0 shapes) inner memory (k + 1) args bytes) t (at_return (k + 1) args t s)
    (record { outer_placed = later.placed; inner_placed = inner_placed; fit = this; outer_shows = later.shows; inner_shows = inner_shows }) refl in
    record {
      placed = put.placed;
      long = put.long ∙ later.long;
      shows = subst (λ (j : ℕ). Shows (lined 0 shapes) (end_bytes (lined 0 shapes) inner memory k (a ∷ args) bytes) (with_block a (t k) (at_return j args t s))) (sym next) put.shows;
    }
