-- Works that are the same in all iterations that there are mean the same, and have races or none together.
use Rattle.std.proofs.Common.{◌≡◌, ℕ, zero, suc, ◌<◌, Bool, true, ◌||◌, List, refl, sym, ap, ap₂, subst, ◌∙◌, arith}
use Rattle.std.specs.Prelude.{nat_eq, ◌&&◌, Result, Ok}
use Rattle.std.specs.List.{list_any}
use mathlib.Core.Path.{fun_ext}
use Rattle.sq_ir.specs.Leaf.declared.trap.Trap.{Trap}
use Rattle.sq_ir.specs.Leaf.Source.{Arrays}
use Rattle.sq_ir.specs.Ast.Modes.{is_written}
use Rattle.sq_ir.specs.Blocks.declared.argument.Argument.{Argument}
use Rattle.sq_spec.specs.Work.declared.reduction.Reduction.{Reduction}
use Rattle.sq_spec.specs.Work.Work.{Work, Nothing, Then, Each, AtOnce, Gathers, Call, Leaf}
use Rattle.sq_spec.specs.Work.Meaning.{Outcome, and_then, at_entry, at_return, has, any_below, accesses, writes}
use Rattle.sq_spec.specs.Work.Meaning.{in_turn, with_turn, apart, with_writes, with_reduced, with_identity, leaf_outcome}
use Rattle.sq_spec.specs.Work.Meaning.{meaning}
use Rattle.sq_spec.specs.Work.InTurn.{AreApart, none_aside, its_array}
use Rattle.sq_placed.specs.SameWorks.{IsSameWork, SameWorksMean, SameWorksRace}

-- ---- what they access

any_same : (n : ℕ) (f g : ℕ → Bool) → ((t : ℕ) → t < n → f t ≡ g t) → any_below n f ≡ any_below n g
any_same zero f g h = refl
any_same (suc n) f g h = ap₂ (λ x y. x || y) (h n (omega arith)) (any_same n f g (λ t l. h t (omega (arith, l))))

pub same_accesses : (which : Argument → Bool) (w v : Work) → IsSameWork w v → (n : ℕ) (cs : List ℕ)
    → accesses which w n cs ≡ accesses which v n cs
same_accesses which Nothing Nothing h n cs = refl
same_accesses which (Then a b) (Then c d) h n cs
    = ap₂ (λ x y. x || y) (same_accesses which a c h.0 n cs) (same_accesses which b d h.1 n cs)
same_accesses which (Each k w) (Each m v) h n cs =
    any_same k _ _ (λ t l. same_accesses which (w t) (v t) (h.1 t l) n cs)
    ∙ ap (λ (j : ℕ). any_below j (λ t. accesses which (v t) n cs)) h.0
same_accesses which (AtOnce p k w) (AtOnce q m v) h n cs =
    any_same k _ _ (λ t l. same_accesses which (w t) (v t) (h.2 t l) n cs)
    ∙ ap (λ (j : ℕ). any_below j (λ t. accesses which (v t) n cs)) h.1
same_accesses which (Gathers r p k w) (Gathers o q m v) h n cs =
    any_same k _ _ (λ t l. ap (λ (b : Bool). nat_eq n r.array || b)
    (same_accesses which (w t) (v t) (h.3 t l) n cs))
    ∙ ap₂ (λ (j : ℕ) (x : Reduction). any_below j (λ t. nat_eq n x.array || accesses which (v t) n cs)) h.2 h.0
same_accesses which (Call f l xs w) (Call g k ys v) h n cs
    = ap (λ (zs : List Argument). list_any (λ a. which a && has n cs a) zs) h.2
same_accesses which (Leaf a) (Leaf b) h n cs = refl
same_accesses which _ _ h n cs = absurd h

pub same_writes : (w v : Work) → IsSameWork w v → writes w ≡ writes v
same_writes w v h = fun_ext (λ n. fun_ext (λ cs. same_accesses (λ a. is_written a.mode) w v h n cs))

-- ---- what they mean

turns_same : (n : ℕ) (f g : ℕ → Arrays → Outcome) → ((t : ℕ) → t < n → f t ≡ g t) → (s : Arrays)
    → in_turn n f s ≡ in_turn n g s
turns_same zero f g h s = refl
turns_same (suc n) f g h s =
    ap₂ and_then (turns_same n f g (λ t l. h t (omega (arith, l))) s)
    (ap (λ (z : Arrays → Outcome). λ before. with_turn n (z before)) (h n (omega arith)))

apart_same : (n : ℕ) (join over : ℕ → Arrays → Arrays → Arrays) (f g : ℕ → Outcome)
    → ((t : ℕ) → t < n → join t ≡ over t) → ((t : ℕ) → t < n → f t ≡ g t) → (s : Arrays)
    → apart n join f s ≡ apart n over g s
apart_same zero join over f g k h s = refl
apart_same (suc n) join over f g k h s =
    ap₂ and_then
    (apart_same n join over f g (λ t l. k t (omega (arith, l))) (λ t l. h t (omega (arith, l))) s)
    (ap₂ (λ (o : Outcome) (j : Arrays → Arrays → Arrays). λ below. and_then (with_turn n o)
    (λ own. Ok (j own below))) (h n (omega arith)) (k n (omega arith)))

pub same_works_mean : SameWorksMean
same_works_mean Nothing Nothing h s = refl
same_works_mean (Then a b) (Then c d) h s
    = ap₂ and_then (same_works_mean a c h.0 s) (fun_ext (λ t. same_works_mean b d h.1 t))
same_works_mean (Each n w) (Each m v) h s =
    turns_same n _ _ (λ t l. fun_ext (λ x. same_works_mean (w t) (v t) (h.1 t l) x)) s
    ∙ ap (λ (j : ℕ). in_turn j (λ t. meaning (v t)) s) h.0
same_works_mean (AtOnce p n w) (AtOnce q m v) h s =
    apart_same n _ _ _ _ (λ t l. ap with_writes (same_writes (w t) (v t) (h.2 t l)))
    (λ t l. same_works_mean (w t) (v t) (h.2 t l) s) s
    ∙ ap (λ (j : ℕ). apart j (λ t. with_writes (writes (v t))) (λ t. meaning (v t) s) s) h.1
same_works_mean (Gathers r p n w) (Gathers o q m v) h s =
    apart_same n _ _ _ _ (λ t l. ap (with_reduced r) (same_writes (w t) (v t) (h.3 t l)))
    (λ t l. same_works_mean (w t) (v t) (h.3 t l) (with_identity r s)) s
    ∙ ap₂ (λ (j : ℕ) (x : Reduction). apart j (λ t. with_reduced x (writes (v t)))
    (λ t. meaning (v t) (with_identity x s)) s) h.2 h.0
same_works_mean (Call f l xs w) (Call g k ys v) h s =
    ap (λ (o : Outcome). and_then o (λ inner. Ok (at_return 0 xs inner s)))
    (same_works_mean w v h.3 (at_entry xs s))
    ∙ ap (λ (zs : List Argument). and_then (meaning v (at_entry zs s)) (λ inner. Ok (at_return 0 zs inner s))) h.2
same_works_mean (Leaf a) (Leaf b) h s = ap (λ (code : Arrays → Result Arrays Trap). leaf_outcome (code s)) h
same_works_mean _ _ h s = absurd h

-- ---- their races

pub apart_alike : (n : ℕ) (w v : ℕ → Work) (aside : ℕ → Bool) → ((t : ℕ) → t < n → IsSameWork (w t) (v t))
    → AreApart n v aside → AreApart n w aside
apart_alike n w v aside h k = record {
  at = λ a b x cs la lb differ free written touched.
      k.at a b x cs la lb differ free (sym (same_accesses (λ a. is_written a.mode) (w a) (v a) (h a la) x cs) ∙ written)
      (sym (same_accesses (λ a. true) (w b) (v b) (h b lb) x cs) ∙ touched);
}

pub same_works_race : SameWorksRace
same_works_race Nothing Nothing h k = tt
same_works_race (Then a b) (Then c d) h k = (same_works_race a c h.0 k.0, same_works_race b d h.1 k.1)
same_works_race (Each n w) (Each m v) h k
    = λ t l. same_works_race (w t) (v t) (h.1 t l) (k t (subst (λ (j : ℕ). t < j) h.0 l))
same_works_race (AtOnce p n w) (AtOnce q m v) h k = (
  apart_alike n w v none_aside h.2 (subst (λ (j : ℕ). AreApart j v none_aside) (sym h.1) k.0),
  λ t l. same_works_race (w t) (v t) (h.2 t l) (k.1 t (subst (λ (j : ℕ). t < j) h.1 l)),
)
same_works_race (Gathers r p n w) (Gathers o q m v) h k = (
  apart_alike n w v (its_array r) h.3
      (subst (λ (x : Reduction). AreApart n v (its_array x)) (sym h.0)
      (subst (λ (j : ℕ). AreApart j v (its_array o)) (sym h.2) k.0)),
  λ t l. same_works_race (w t) (v t) (h.3 t l) (k.1 t (subst (λ (j : ℕ). t < j) h.2 l)),
)
same_works_race (Call f l xs w) (Call g k ys v) h r = same_works_race w v h.3 r
same_works_race (Leaf a) (Leaf b) h k = tt
same_works_race _ _ h k = absurd h
