-- Texts of several pieces.
use Rattle.std.proofs.Common.{◌≡◌, ℕ, List, ◌++◌, append_assoc, ap, ◌∙◌, subst, Option}
use Rattle.sq_port.specs.Lines.{Gathered, Gathers}

five : (t a b c d e : List ℕ) → t ++ a ++ b ++ c ++ d ++ e ≡ t ++ (a ++ b ++ c ++ d ++ e)
five t a b c d e =
    ap (λ x. x ++ c ++ d ++ e) (append_assoc t a b)
    ∙ ap (λ x. x ++ d ++ e) (append_assoc t (a ++ b) c)
    ∙ ap (λ x. x ++ e) (append_assoc t (a ++ b ++ c) d)
    ∙ append_assoc t (a ++ b ++ c ++ d) e

pub gathered : (start now : Option (List ℕ)) (faults now_faults : ℕ) (t a b c d e : List ℕ) (line : Gathered)
    → Gathers start now faults now_faults (t ++ a ++ b ++ c ++ d ++ e) line
    → Gathers start now faults now_faults (t ++ (a ++ b ++ c ++ d ++ e)) line
gathered start now faults now_faults t a b c d e line h =
    subst (λ x. Gathers start now faults now_faults x line) (five t a b c d e) h
