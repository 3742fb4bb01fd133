-- The texts of arrays, put one after another.
use Rattle.std.proofs.Common.{◌≡◌, ℕ, zero, suc, ◌+◌, ◌≤◌, List, [], ◌∷◌, ◌++◌, append_assoc, take, drop, length, get_or, Option, Result, Ok, Err, refl, sym, ◌∙◌, ap, ap₂, subst, arith}
use Rattle.std.proofs.lemmas.List.Elements.{All-head, All-tail}
use Rattle.sq_num.specs.Elements.{values_in}
use Rattle.sq_port.specs.Ports.{Rose, Wrote}
use Rattle.sq_port.proofs.Gained.{gains_both, prefix_behind, wrote_no_more}
use Rattle.sq_port.specs.declared.sink.Failed.{Failed}
use Rattle.sq_rect.specs.Extents.{product}
use Rattle.sq_arrays.specs.Arrays.{Wanted}
use Rattle.sq_arrays.specs.Written.{array_text}
use Rattle.sq_ir.specs.Events.{Bytes, row}
use Rattle.sq_ir.specs.declared.plan.Plan.{Plan}
use Rattle.sq_tree.specs.Bank.{bytes_at, bytes_in, size_in}
use Rattle.sq_root.specs.declared.place.Place.{Place}
use Rattle.sq_root.specs.Places.{part, IsWithin}
use Rattle.sq_planfile.specs.declared.entry.EntryArray.{EntryArray}
use Rattle.sq_launch.specs.Arrays.{place_of, places_of, stored_text, root_text}
use Rattle.sq_launch.specs.Starts.{RootsAreTexts}

-- the array that is written is this one
pub wrote_want : (start now : Option (List ℕ)) (faults now_faults : ℕ) (w v : Wanted) (bytes : List ℕ)
    (result : Result (Unit {0}) Failed) → w ≡ v
    → Wrote start now faults now_faults (array_text w (values_in w.elem (product w.extents) bytes)) result
    → Wrote start now faults now_faults (array_text v (values_in v.elem (product v.extents) bytes)) result
wrote_want start now faults now_faults w v bytes result same wrote = subst
    (λ (x : Wanted). Wrote start now faults now_faults (array_text x (values_in x.elem (product x.extents) bytes)) result)
    same wrote

pub text_step : (p : Plan) (a : EntryArray) (arrays : List EntryArray) (root bytes text all : List ℕ)
    → bytes ≡ part (place_of p a) root → text ++ root_text p (a ∷ arrays) root ≡ all
    → (text ++ stored_text a bytes) ++ root_text p arrays root ≡ all
text_step p a arrays root bytes text all is before =
    append_assoc text (stored_text a bytes) (root_text p arrays root)
    ∙ (ap (λ (b : List ℕ). text ++ (stored_text a b ++ root_text p arrays root)) is ∙ before)

-- ---- the texts of the root's bytes

-- so many bytes from there on
abbrev cells : (ℕ → ℕ) → (at size : ℕ) → List ℕ
cells m at zero = []
cells m at (suc size) = m at ∷ cells m (suc at) size

moved : (m : ℕ → ℕ) (at size : ℕ) → cells m (suc at) size ≡ cells (λ k. m (suc k)) at size
moved m at zero = refl
moved m at (suc size) = ap (λ (xs : List ℕ). m (suc at) ∷ xs) (moved m (suc at) size)

cells_row : (m : Bytes) (at size : ℕ) → cells (λ k. m (record { node = 0; at = k })) at size ≡ row m 0 at size
cells_row m at zero = refl
cells_row m at (suc size) =
    let next : suc at ≡ at + 1 = omega arith in
    ap (λ (xs : List ℕ). m (record { node = 0; at = at }) ∷ xs)
    (cells_row m (suc at) size ∙ ap (λ (k : ℕ). row m 0 k size) next)

piece : (bytes : List ℕ) (at size : ℕ) → at + size ≤ length bytes → (m : ℕ → ℕ)
    → ((k : ℕ) → m k ≡ get_or bytes k 0) → take size (drop at bytes) ≡ cells m at size
piece bytes at zero within m is = refl
piece [] zero (suc size) within m is = absurd (omega (arith, within))
piece [] (suc at) (suc size) within m is = absurd (omega (arith, within))
piece (b ∷ bytes) zero (suc size) within m is =
    ap₂ (λ (x : ℕ) (xs : List ℕ). x ∷ xs) (sym (is 0))
    (piece bytes 0 size (omega (arith, within)) (λ k. m (suc k)) (λ k. is (suc k)) ∙ sym (moved m 0 size))
piece (b ∷ bytes) (suc at) (suc size) within m is =
    piece bytes at (suc size) (omega (arith, within)) (λ k. m (suc k)) (λ k. is (suc k)) ∙ sym (moved m at (suc size))

row_piece : (nodes : List (List ℕ)) (q : Place) → IsWithin (size_in nodes 0) q
    → part q (bytes_at nodes 0) ≡ row (bytes_in nodes) 0 q.at q.size
row_piece nodes q within =
    piece (bytes_at nodes 0) q.at q.size within (λ k. bytes_in nodes (record { node = 0; at = k })) (λ k. refl)
    ∙ cells_row (bytes_in nodes) q.at q.size

pub roots_are_texts : RootsAreTexts
roots_are_texts p [] nodes within = refl
roots_are_texts p (a ∷ arrays) nodes within =
    ap₂ (λ (bytes rest : List ℕ). stored_text a bytes ++ rest)
    (row_piece nodes (place_of p a) (All-head (IsWithin (size_in nodes 0)) (place_of p a) (places_of p arrays) within))
    (roots_are_texts p arrays nodes (All-tail (IsWithin (size_in nodes 0)) (place_of p a) (places_of p arrays) within))

-- ---- one text behind another

-- a text behind one that was put whole
pub wrote_behind : (start mid now : Option (List ℕ)) (faults mid_faults now_faults : ℕ) (text piece : List ℕ)
    (so_far result : Result (Unit {0}) Failed) → so_far ≡ Ok tt → Wrote start mid faults mid_faults text so_far
    → Wrote mid now mid_faults now_faults piece result → Wrote start now faults now_faults (text ++ piece) result
wrote_behind start mid now faults mid_faults now_faults text piece so_far (Ok tt) is first second =
    let before = subst (λ (r : Result (Unit {0}) Failed). Wrote start mid faults mid_faults text r) is first in
    record { ok = (gains_both before.ok.0 second.ok.0, second.ok.1 ∙ before.ok.1); failed = tt }
wrote_behind start mid now faults mid_faults now_faults text piece so_far (Err failed) is first second =
    let before = subst (λ (r : Result (Unit {0}) Failed). Wrote start mid faults mid_faults text r) is first in
    record {
      ok = tt;
      failed =
          (prefix_behind before.ok.0 second.failed.0, subst (λ (f : ℕ). Rose f now_faults) before.ok.1 second.failed.1);
    }

-- and behind one that failed
pub wrote_none : (start now : Option (List ℕ)) (faults now_faults : ℕ) (text piece : List ℕ)
    (so_far : Result (Unit {0}) Failed) (failed : Failed) → so_far ≡ Err failed
    → Wrote start now faults now_faults text so_far → Wrote start now faults now_faults (text ++ piece) (Err failed)
wrote_none start now faults now_faults text piece so_far failed is first = wrote_no_more start now faults now_faults
    text piece failed (subst (λ (r : Result (Unit {0}) Failed). Wrote start now faults now_faults text r) is first)
