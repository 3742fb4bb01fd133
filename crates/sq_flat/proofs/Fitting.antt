-- What the conditions on arguments and views give.
use Rattle.std.proofs.Common.{arith, suc, ◌+◌, ◌*◌, [], ◌∷◌, ◌≤◌, ◌≡◌, ◌∙◌, sym, ap, subst, ℕ, ◌<◌, List, length, get_or, Some, slice_get}
use Rattle.std.proofs.lemmas.Option.{slice_get-get_or}
use Rattle.std.proofs.lemmas.List.{get_or_past}
use Rattle.sq_rect.specs.declared.view.View.{View}
use Rattle.sq_blocks.specs.declared.argument.Argument.{Argument}
use Rattle.sq_flat.specs.Blocks.{Fits}
use Rattle.sq_num.specs.declared.Elem.{Elem}
use Rattle.sq_num.specs.Elements.{width}
use Rattle.sq_rect.specs.Extents.{product}
use Rattle.sq_blocks.specs.Arguments.{lengths}
use Rattle.sq_flat.specs.Memory.{ArgFits, FitFrom, ArePlaced, size, bytes_of}
use Rattle.sq_flat.proofs.Standing.{length_bytes}

pub same_some : {A : Type 0} (x y : A) → Some x ≡ Some y → x ≡ y
same_some x y e = cc

pub fits_of : (outer inner : List View) (k : ℕ) (a : Argument) (v : View) → ArgFits outer inner k a → slice_get outer a.array ≡ Some v → Fits a.rect v.extents
fits_of outer inner k a v fit there = subst (λ (u : View). Fits a.rect u.extents) (same_some fit.of v (sym fit.of_is ∙ there)) fit.fits

pub read : {A : Type 0} (xs : List A) (i : ℕ) (x : A) → i < length xs → x ≡ get_or xs i x → slice_get xs i ≡ Some x
read xs i x below is = slice_get-get_or xs i x below ∙ ap Some (sym is)

pub block_fills : (outer inner : List View) (k : ℕ) (a : Argument) (of to : View) (memory : List ℕ) → ArgFits outer inner k a → ArePlaced inner memory
    → slice_get outer a.array ≡ Some of → slice_get inner k ≡ Some to → length (bytes_of to memory) ≡ width of.elem * product (lengths a.rect)
block_fills outer inner k a of to memory fit placed there here =
    let same_of : fit.of ≡ of = same_some fit.of of (sym fit.of_is ∙ there) in
    let same_to : fit.to ≡ to = same_some fit.to to (sym fit.to_is ∙ here) in
    subst (λ (u : View). length (bytes_of u memory) ≡ width of.elem * product (lengths a.rect)) same_to
    (subst (λ (u : View). length (bytes_of fit.to memory) ≡ width u.elem * product (lengths a.rect)) same_of
    (length_bytes fit.to memory (placed.each k fit.to fit.to_is)
    ∙ (ap (λ (e : Elem). width e * product fit.to.extents) fit.elem ∙ ap (λ (ns : List ℕ). width fit.of.elem * product ns) fit.extents)))

pub fit_later : (outer inner : List View) (k : ℕ) (all : List Argument) (a : Argument) (args : List Argument) → all ≡ a ∷ args → FitFrom outer inner k all → FitFrom outer inner (k + 1) args
fit_later outer inner k all a args is fit = record {
  each = λ i x there. subst (λ (j : ℕ). ArgFits outer inner j x) (omega arith) (fit.each (suc i) x (ap (λ (l : List Argument). slice_get l (suc i)) is ∙ there));
}

pub fit_first : (outer inner : List View) (k : ℕ) (all : List Argument) (a : Argument) (args : List Argument) → all ≡ a ∷ args → FitFrom outer inner k all → ArgFits outer inner k a
fit_first outer inner k all a args is fit = subst (λ (j : ℕ). ArgFits outer inner j a) (omega arith) (fit.each 0 a (ap (λ (l : List Argument). slice_get l 0) is))

-- whether views are placed depends on the memory's size alone
pub placed_still : (vs : List View) (old new : List ℕ) → length new ≡ length old → ArePlaced vs old → ArePlaced vs new
placed_still vs old new same placed = record {
  each = λ n v there.
      let was = placed.each n v there in
      record { strides = was.strides; ends = subst (λ (z : ℕ). v.at + size v ≤ z) (sym same) was.ends };
}

pub zero_past : (xs : List ℕ) (i : ℕ) → length xs ≤ i → 0 ≡ get_or xs i 0
zero_past xs i past = sym (get_or_past xs i 0 past)

pub some_there : {A : Type 0} (xs : List A) (x : A) → slice_get xs 0 ≡ Some x → length xs ≡ 0 → ⊥
some_there [] x there none = cc
some_there (y ∷ xs) x there none = omega (arith, none)
