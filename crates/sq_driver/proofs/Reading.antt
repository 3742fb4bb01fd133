-- Texts that fit a phase, and those that are too long for it.
use Rattle.std.proofs.Common.{◌≡◌, ℕ, ◌<◌, ◌≤◌, List, length, Some, IfSome, IsSomeAnd, sym, subst}
use Rattle.sq_text.specs.declared.code.Phase.{Phase}
use Rattle.sq_text.specs.declared.code.Phase.TheVariants.{Plan}
use Rattle.sq_lexer.specs.Faults.{most_bytes, most_plan_bytes, file_limit, FitsFile, IsTooLong}

pub fits_file : (phase : Phase) (text : List ℕ) → file_limit phase ≡ Some most_bytes → length text ≤ 1048576 → FitsFile phase text
unfolding most_bytes
fits_file phase text limit few = subst (λ o. IfSome o (λ most. length text ≤ most)) (sym limit) few

pub too_long : (phase : Phase) (text : List ℕ) → file_limit phase ≡ Some most_bytes → 1048576 < length text → IsTooLong phase text
unfolding most_bytes
too_long phase text limit more = subst (λ o. IsSomeAnd o (λ most. most < length text)) (sym limit) more

-- ---- of plan files

pub fits_plan : (text : List ℕ) → length text ≤ 16777216 → FitsFile Plan text
unfolding most_plan_bytes
fits_plan text few = few

pub too_long_plan : (text : List ℕ) → 16777216 < length text → IsTooLong Plan text
unfolding most_plan_bytes
too_long_plan text more = more
