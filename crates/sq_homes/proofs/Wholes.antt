-- The spans of a whole array.
use Rattle.std.proofs.Common.{◌≡◌, ℕ, nat_lt, Bool, true, false, List, [], ◌∷◌, Option, Some, None, refl, ap, ◌∙◌}
use Rattle.std.proofs.Common.{if◌then◌else◌}
use Rattle.sq_text.specs.declared.place.Span.{Span}
use Rattle.sq_ir.specs.Blocks.Spans.{with_front, wholes}
use Rattle.sq_chosen.specs.SpecLaws.Spec.Works.{whole}

same_some : {A : Type 0} (x y : A) → Some x ≡ Some y → x ≡ y
same_some x y h = cc

whole_by : (n : ℕ) (ns : List ℕ) (spans : List Span) (b : Bool) (o : Option (List Span))
    → with_front (if b then Some (record { lo = 0; hi = n }) else None) o ≡ Some spans
    → ((rest : List Span) → o ≡ Some rest → whole ns ≡ rest) → whole (n ∷ ns) ≡ spans
whole_by n ns spans true (Some rest) is next =
    let all : record { lo = 0; hi = n } ∷ rest ≡ spans = same_some (record { lo = 0; hi = n } ∷ rest) spans is in
    ap (λ (l : List Span). record { lo = 0; hi = n } ∷ l) (next rest refl) ∙ all
whole_by n ns spans true None is next = cc
whole_by n ns spans false o is next = cc

pub whole_is : (extents : List ℕ) (spans : List Span) → wholes extents ≡ Some spans → whole extents ≡ spans
whole_is [] spans is = same_some [] spans is
whole_is (n ∷ ns) spans is = whole_by n ns spans (nat_lt 0 n) (wholes ns) is (λ rest there. whole_is ns rest there)
