-- The texts of arrays, put one after another.
use Rattle.std.proofs.Common.{◌≡◌, ℕ, List, [], ◌∷◌, ◌++◌, Option, Some, Result, Ok, Err, refl, ◌∙◌, ap, subst}
use Rattle.sq_num.specs.declared.Elem.TheVariants.{Int}
use Rattle.sq_num.specs.Elements.{values_in}
use Rattle.sq_rect.specs.Extents.{product}
use Rattle.sq_port.specs.Ports.{Rose, Wrote}
use Rattle.sq_port.specs.declared.sink.Failed.{Failed}
use Rattle.sq_port.proofs.Gained.{gains_both, prefix_behind, wrote_no_more}
use Rattle.sq_arrays.specs.Written.{array_text}
use Rattle.sq_demo.specs.Data.{matrix_text}

pub wrote_matrix : (start now : Option (List ℕ)) (faults now_faults : ℕ) (name bytes extents : List ℕ)
    (result : Result (Unit {0}) Failed) → extents ≡ 128 ∷ 128 ∷ []
    → Wrote start now faults now_faults (array_text (record { name = name; elem = Int; extents = extents })
    (values_in Int (product extents) bytes)) result → Wrote start now faults now_faults (matrix_text name bytes) result
unfolding matrix_text
wrote_matrix start now faults now_faults name bytes extents result is wrote =
    subst (λ (ns : List ℕ). Wrote start now faults now_faults
    (array_text (record { name = name; elem = Int; extents = ns }) (values_in Int (product ns) bytes)) result) is wrote

-- a text behind one that was put whole
pub wrote_behind : (start mid now : Option (List ℕ)) (faults mid_faults now_faults : ℕ) (text piece : List ℕ)
    (so_far result : Result (Unit {0}) Failed) → so_far ≡ Ok tt → Wrote start mid faults mid_faults text so_far
    → Wrote mid now mid_faults now_faults piece result → Wrote start now faults now_faults (text ++ piece) result
wrote_behind start mid now faults mid_faults now_faults text piece so_far (Ok tt) is first second =
    let before = subst (λ (r : Result (Unit {0}) Failed). Wrote start mid faults mid_faults text r) is first in
    record { ok = (gains_both before.ok.0 second.ok.0, second.ok.1 ∙ before.ok.1); failed = tt }
wrote_behind start mid now faults mid_faults now_faults text piece so_far (Err failed) is first second =
    let before = subst (λ (r : Result (Unit {0}) Failed). Wrote start mid faults mid_faults text r) is first in
    record {
      ok = tt;
      failed =
          (prefix_behind before.ok.0 second.failed.0, subst (λ (f : ℕ). Rose f now_faults) before.ok.1 second.failed.1);
    }

-- and behind one that failed
pub wrote_none : (start now : Option (List ℕ)) (faults now_faults : ℕ) (text piece : List ℕ)
    (so_far : Result (Unit {0}) Failed) (failed : Failed) → so_far ≡ Err failed
    → Wrote start now faults now_faults text so_far → Wrote start now faults now_faults (text ++ piece) (Err failed)
wrote_none start now faults now_faults text piece so_far failed is first = wrote_no_more start now faults now_faults
    text piece failed (subst (λ (r : Result (Unit {0}) Failed). Wrote start now faults now_faults text r) is first)

some_same : (a b : List ℕ) → Some a ≡ Some b → a ≡ b
some_same a b is = cc

-- what a sink in memory got, from nothing on
pub wrote_all : (was now text : List ℕ) (faults now_faults : ℕ) (put : Result (Unit {0}) Failed) → was ≡ []
    → put ≡ Ok tt → Wrote (Some was) (Some now) faults now_faults text put → now ≡ text
wrote_all was now text faults now_faults put none is wrote =
    let whole = subst (λ (r : Result (Unit {0}) Failed). Wrote (Some was) (Some now) faults now_faults text r) is wrote
    in
    some_same now text (whole.ok.0.told was refl ∙ ap (λ (l : List ℕ). Some (l ++ text)) none)
