-- One put after another, and texts of items one behind another.
use Rattle.std.proofs.Common.{◌≡◌, ℕ, suc, ◌+◌, ◌<◌, List, ◌∷◌, ◌++◌, length, get_or, drop, append_assoc, Option, Result, Ok, Err, sym, ap, ◌∙◌, subst, add-one}
use Rattle.std.proofs.Math.Seq.{drop-cons}
use Rattle.sq_port.specs.declared.sink.Failed.{Failed}
use Rattle.sq_port.specs.Ports.{Rose, Wrote}
use Rattle.sq_port.proofs.Gained.{gains_both, prefix_behind, wrote_no_more}
use Rattle.sq_report.specs.Reports.{numbered}

-- a text that was put whole, and what became of the next one
pub wrote_both : (start mid now : Option (List ℕ)) (faults mid_faults now_faults : ℕ) (text piece : List ℕ) (result : Result (Unit {0}) Failed)
    → Wrote start mid faults mid_faults text (Ok tt) → Wrote mid now mid_faults now_faults piece result → Wrote start now faults now_faults (text ++ piece) result
wrote_both start mid now faults mid_faults now_faults text piece (Ok value) x y = record { ok = (gains_both x.ok.0 y.ok.0, y.ok.1 ∙ x.ok.1); failed = tt }
wrote_both start mid now faults mid_faults now_faults text piece (Err end) x y = record {
  ok = tt;
  failed = (prefix_behind x.ok.0 y.failed.0, subst (λ (f : ℕ). Rose f now_faults) x.ok.1 y.failed.1);
}

-- a text of which a put failed, as the front of a longer one
pub wrote_front : (start now : Option (List ℕ)) (faults now_faults : ℕ) (text piece whole : List ℕ) (failed : Failed) → text ++ piece ≡ whole
    → Wrote start now faults now_faults text (Err failed) → Wrote start now faults now_faults whole (Err failed)
wrote_front start now faults now_faults text piece whole failed e x = subst (λ t. Wrote start now faults now_faults t (Err failed)) e (wrote_no_more start now faults now_faults text piece failed x)

-- the same text in other words
pub wrote_as : {start now : Option (List ℕ)} {faults now_faults : ℕ} {text other : List ℕ} {result : Result (Unit {0}) Failed} → text ≡ other
    → Wrote start now faults now_faults text result → Wrote start now faults now_faults other result
wrote_as {start} {now} {faults} {now_faults} {text} {other} {result} e x = subst (λ t. Wrote start now faults now_faults t result) e x

-- the text of one item more
pub one_more : {X : Type 0} (f : ℕ → X → List ℕ) (done : List ℕ) (xs : List X) (i : ℕ) (x : X) → i < length xs → x ≡ get_or xs i x
    → done ++ numbered f i (drop i xs) ≡ numbered f 0 xs → (done ++ f i x) ++ numbered f (i + 1) (drop (i + 1) xs) ≡ numbered f 0 xs
one_more f done xs i x lt is inv =
    let front : drop i xs ≡ x ∷ drop (suc i) xs = drop-cons xs i x lt ∙ ap (λ y. y ∷ drop (suc i) xs) (sym is) in
    ap (λ n. (done ++ f i x) ++ numbered f n (drop n xs)) (add-one i)
    ∙ append_assoc done (f i x) (numbered f (suc i) (drop (suc i) xs)) ∙ ap (λ t. done ++ numbered f i t) (sym front) ∙ inv
