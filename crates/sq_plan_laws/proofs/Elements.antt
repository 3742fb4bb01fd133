-- Elements as lists of bytes with the last byte first, combined.
use Rattle.std.proofs.Common.{◌≡◌, ℕ, zero, suc, ◌+◌, ◌*◌, List, [], ◌∷◌, ◌++◌, get_or, reverse, refl, sym, ap, ◌∙◌, ℤ}
use Rattle.std.proofs.lemmas.List.{reverse-append}
use Rattle.sq_num.specs.declared.Elem.{Elem}
use Rattle.sq_num.specs.Elements.{width, value, cell}
use Rattle.sq_num.specs.Reductions.{red}
use Rattle.sq_num.proofs.Cutting.{value-cell, cut-value, length-cell}
use Rattle.sq_num.proofs.Reducing.{are-laws}
use Rattle.sq_cells.specs.Machine.{Op}
use Rattle.sq_cells.specs.Cells.{table}
use Rattle.sq_cells.specs.Tree.{red_of, width_of, combined, element, byte_in}
use Rattle.sq_cells.specs.Work.{folded, always}
use Rattle.sq_cells.proofs.Cells.{byte_table}
use Rattle.sq_plan_laws.specs.Codes.{listed}
use Rattle.sq_plan_laws.proofs.PlacedLists.{listed_same, listed_all}

-- one more at the end
listed_end : (n : ℕ) (f : ℕ → ℕ) → listed (suc n) f ≡ listed n f ++ (f n ∷ [])
listed_end zero f = refl
listed_end (suc n) f = ap (λ (l : List ℕ). f 0 ∷ l) (listed_end n (λ k. f (suc k)))

pub table_listed : (n : ℕ) (f : ℕ → ℕ) → reverse (table n f) ≡ listed n f
table_listed zero f = refl
table_listed (suc n) f = reverse-append (f n ∷ []) (table n f)
    ∙ (ap (λ (l : List ℕ). l ++ (f n ∷ [])) (table_listed n f) ∙ sym (listed_end n f))

-- the value of such a list
abbrev pub held : Elem → List ℕ → ℤ
held e l = value e (reverse l)

pub held_table : (e : Elem) (f : ℕ → ℕ) → held e (table (width e) f) ≡ value e (listed (width e) f)
held_table e f = ap (value e) (table_listed (width e) f)

-- the bytes of a list of this kind, one by one
pub record IsTable (n : ℕ) (l : List ℕ) : Type 0 where
  pub f : ℕ → ℕ
  pub is : l ≡ table n f

pub bytes_held : (e : Elem) (l : List ℕ) → IsTable (width e) l → value e (listed (width e) (byte_in (width e) l))
    ≡ held e l
bytes_held e l t =
    ap (value e) (ap (λ x. listed (width e) (byte_in (width e) x)) t.is
    ∙ listed_same (width e) (byte_in (width e) (table (width e) t.f)) t.f (λ b lb. byte_table (width e) t.f b lb))
    ∙ sym (held_table e t.f) ∙ ap (held e) (sym t.is)

module _ (op : Op) where
  abbrev e : Elem
  e = op.elem

  pub combined_table : (xs ys : List ℕ) → IsTable (width e) (combined op xs ys)
  unfolding width_of
  combined_table xs ys = record { f = red_of op xs ys; is = refl }

  pub combined_held : (xs ys : List ℕ) → held e (combined op xs ys) ≡ red op.red e (held e xs) (held e ys)
  unfolding width_of red_of
  combined_held xs ys =
      let v : ℤ = red op.red e (held e xs) (held e ys) in
      held_table e (λ b. get_or (cell e v) b 0)
      ∙ ap (value e) (listed_all (cell e v) (width e) (length-cell e v))
      ∙ value-cell e v ∙ cut-value e v ((are-laws op.red e).closed (held e xs) (held e ys))

  pub element_table : (x : ℕ → ℕ) (k : ℕ) → IsTable (width e) (element (width_of op) x k)
  unfolding width_of
  element_table x k = record { f = λ b. x (k * width e + b); is = refl }

  pub element_held : (x : ℕ → ℕ) (k : ℕ) → held e (element (width_of op) x k)
      ≡ value e (listed (width e) (λ b. x (k * width e + b)))
  unfolding width_of
  element_held x k = held_table e (λ b. x (k * width e + b))

  pub folded_table : (x : ℕ → List ℕ) (n : ℕ) (v : List ℕ) → IsTable (width e) v
      → IsTable (width e) (folded op always x n v)
  folded_table x zero v t = t
  folded_table x (suc n) v t = combined_table (folded op always x n v) (x n)

  pub width_is : width_of op ≡ width e
  unfolding width_of
  width_is = refl
