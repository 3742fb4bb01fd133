-- Flags that are made once, and those that are found.
use Rattle.std.proofs.Common.{◌≡◌, ℕ, ◌==◌, Bool, true, false, List, [], ◌∷◌, ◌++◌, Some, None, ap, ◌∙◌}
use Rattle.std.proofs.Common.{refl, subst, zero, suc, slice_get, get_or}
use Rattle.std.proofs.lemmas.Bool.{eqb-true}
use Rattle.std.specs.Prelude.{if◌then◌else◌}
use Rattle.sq_pipe.specs.declared.marks.Flags.{Flags}
use Rattle.sq_pipe.specs.Runs.{AreFlags, find_flags}

pub flags_more : (flags : ℕ → List Bool) (xs : List Flags) (x : Flags) → AreFlags flags xs → x.list ≡ flags x.children
    → AreFlags flags (xs ++ x ∷ [])
flags_more flags [] x are is = (is, tt)
flags_more flags (y ∷ xs) x are is = (are.0, flags_more flags xs x are.1 is)

some_is : (xs ys : List Bool) → Some xs ≡ Some ys → ys ≡ xs
some_is xs ys e = cc e

none_is : (ys : List Bool) → None ≡ Some ys → ⊥
none_is ys e = cc e

pub flags_found : (flags : ℕ → List Bool) (xs : List Flags) (children : ℕ) (list : List Bool) → AreFlags flags xs
    → find_flags children xs ≡ Some list → list ≡ flags children
flags_found flags [] children list are found = absurd (none_is list found)
flags_found flags (x ∷ xs) children list are found =
    by (x.children == children) refl (flags_found flags xs children list are.1)
  where
    by : (b : Bool) → (x.children == children) ≡ b → (find_flags children xs ≡ Some list → list ≡ flags children)
        → list ≡ flags children
    by true e rest =
        some_is x.list list (subst (λ b. (if b then Some x.list else find_flags children xs) ≡ Some list) e found)
        ∙ are.0 ∙ ap flags (eqb-true x.children children e)
    by false e rest = rest (subst (λ b. (if b then Some x.list else find_flags children xs) ≡ Some list) e found)

-- ---- the nodes of a form that is known, or of none

pub known_none : (known : List (List Bool)) (k : ℕ) → slice_get known k ≡ None → [] ≡ get_or known k []
known_none [] k e = refl
known_none (x ∷ known) zero e = cc e
known_none (x ∷ known) (suc k) e = known_none known k e

pub known_some : (known : List (List Bool)) (k : ℕ) (x : List Bool) → slice_get known k ≡ Some x → x ≡ get_or known k []
known_some [] k x e = cc e
known_some (y ∷ known) zero x e = cc e
known_some (y ∷ known) (suc k) x e = known_some known k x e
