-- Numbers that are chosen between in place.
use Rattle.std.proofs.Common.{◌≡◌, ◌⊎◌, inl, inr, ℕ, ◌+◌, ◌<◌, ◌≤◌, List, drop, get_or, length, slice_set, ℤ, pos, refl, sym, subst, ◌∙◌, ap, arith}
use Rattle.std.proofs.lemmas.Bool.{cases_lt}
use Rattle.std.proofs.lemmas.List.{get_or-set_same, get_or-set_other, get_or-drop}
use Rattle.sq_columns.specs.declared.line.Line.{Line}
use Rattle.sq_columns.specs.declared.line.Line.TheVariants.{Same, Ramp, Column}
use Rattle.sq_columns.specs.Lines.{line_at}
use Rattle.sq_deeds.specs.declared.deeds.Numbers.{Numbers}
use Rattle.sq_deeds.specs.Deeds.{number_at}
use Rattle.sq_deeds.specs.Loops.{chosen, IsReadFirst}

own_stays : (l : Line) (from i j : ℕ) (columns : List ℤ) (v : ℤ) → j < i → line_at l (drop from (slice_set columns (from + j) v)) i ≡ line_at l (drop from columns) i
own_stays (Same x) from i j columns v less = refl
own_stays (Ramp a d) from i j columns v less = refl
own_stays Column from i j columns v less =
    get_or-drop from (slice_set columns (from + j) v) i (pos 0)
    ∙ (get_or-set_other columns (from + j) (from + i) v (pos 0) (λ e. absurd (omega (arith, e))) ∙ sym (get_or-drop from columns i (pos 0)))

-- what is put in the place of a turn's own number
pub own_first : (x : Numbers) → IsReadFirst x.from x
own_first x = record { stays = λ columns v i j less few. own_stays x.line x.from i j columns v less }

-- the same numbers where their line is known
pub first_as : (at : ℕ) (x : Numbers) (l : Line) → x.line ≡ l → IsReadFirst at x → IsReadFirst at (record { line = l; from = x.from })
first_as at x l is h = subst (λ (m : Line). IsReadFirst at (record { line = m; from = x.from })) is h

pub next_stays : (at : ℕ) (x : Numbers) (old now : List ℤ) (v : ℤ) (j : ℕ) → IsReadFirst at x → ((i : ℕ) → j ≤ i → i < 256 → number_at now x i ≡ number_at old x i)
    → (i : ℕ) → j + 1 ≤ i → i < 256 → number_at (slice_set now (at + j) v) x i ≡ number_at old x i
next_stays at x old now v j first left i past few = first.stays now v i j (omega (arith, past)) few ∙ left i (omega (arith, past)) few

pub next_chosen : (at j : ℕ) (f : ℕ → ℤ) (now : List ℤ) (v : ℤ) → at + j < length now → v ≡ f j → ((i : ℕ) → i < j → get_or now (at + i) (pos 0) ≡ f i)
    → (i : ℕ) → i < j + 1 → get_or (slice_set now (at + j) v) (at + i) (pos 0) ≡ f i
next_chosen at j f now v inside is done i below = go (cases_lt i j)
  where
    go : (i < j) ⊎ (j ≤ i) → get_or (slice_set now (at + j) v) (at + i) (pos 0) ≡ f i
    go (inl before) = get_or-set_other now (at + j) (at + i) v (pos 0) (λ e. absurd (omega (arith, e, before))) ∙ done i before
    go (inr here) =
        let same : i ≡ j = omega (arith, here, below) in
        ap (λ (m : ℕ). get_or (slice_set now (at + j) v) (at + m) (pos 0)) same ∙ (get_or-set_same now (at + j) v (pos 0) inside ∙ (is ∙ ap f (sym same)))

pub chosen_same : (a b c x y z : ℤ) → a ≡ x → b ≡ y → c ≡ z → chosen a b c ≡ chosen x y z
chosen_same a b c x y z p q r = λ i. chosen (p i) (q i) (r i)
