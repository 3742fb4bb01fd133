-- Values, one after the other.
use Rattle.std.proofs.Common.{◌≡◌, ℕ, suc, ◌+◌, ◌-◌, ◌*◌, ◌<◌, ◌≤◌, List, [], ◌∷◌, ◌++◌, length, take, refl, sym, ◌∙◌, ap, arith, append_assoc, Result, Ok, Err, ℤ}
use Rattle.std.proofs.lemmas.List.{append-nil, take_all}
use Rattle.std.proofs.lemmas.Slice.{take-put_mid}
use Rattle.std.proofs.lemmas.Grind.{flat_map-append}
use Rattle.std.specs.List.{flat_map}
use borrow.Rule.Slice.PartMut.{put_mid}
use Rattle.sq_arrays.specs.declared.refusal.InputEnd.{InputEnd}
use Rattle.sq_arrays.specs.declared.refusal.InputEnd.TheVariants.{Refused, Failed, Absent}
use Rattle.sq_arrays.specs.Steps.{Fails}
use Rattle.sq_num.specs.Elements.{cell}
use Rattle.sq_num.specs.declared.Elem.{Elem}
use Rattle.sq_arrays.specs.ArrayText.{Fault, Rest, next_value, next_values, ◌>>=◌}

-- values that came before
abbrev pub with_front : List ℤ → Result (List ℤ × Rest) Fault → Result (List ℤ × Rest) Fault
with_front vs read = read >>= λ x. Ok (vs ++ x.0, x.1)

pub front_none : (read : Result (List ℤ × Rest) Fault) → with_front [] read ≡ read
front_none (Ok x) = refl
front_none (Err f) = refl

one_front : (vs : List ℤ) (v : ℤ) (read : Result (List ℤ × Rest) Fault) → with_front vs (read >>= λ x. Ok (v ∷ x.0, x.1)) ≡ with_front (vs ++ v ∷ []) read
one_front vs v (Ok x) = ap (λ (l : List ℤ). Ok (l, x.1)) (sym (append_assoc vs (v ∷ []) x.0))
one_front vs v (Err f) = refl

pub front_step : (e : Elem) (vs : List ℤ) (v : ℤ) (k n : ℕ) (r now : Rest) → n ≡ suc k → next_value e r ≡ Ok (v, now) → with_front vs (next_values n e r) ≡ with_front (vs ++ v ∷ []) (next_values k e now)
front_step e vs v k n r now size is =
    ap (λ (m : ℕ). with_front vs (next_values m e r)) size
    ∙ ap (λ (q : Result (ℤ × Rest) Fault). with_front vs (q >>= λ v. (next_values k e v.1 >>= λ x. Ok (v.0 ∷ x.0, x.1)))) is
    ∙ one_front vs v (next_values k e now)

pub front_err : (e : Elem) (vs : List ℤ) (k n : ℕ) (r : Rest) (f : Fault) → n ≡ suc k → next_value e r ≡ Err f → with_front vs (next_values n e r) ≡ Err f
front_err e vs k n r f size is =
    ap (λ (m : ℕ). with_front vs (next_values m e r)) size
    ∙ ap (λ (q : Result (ℤ × Rest) Fault). with_front vs (q >>= λ v. (next_values k e v.1 >>= λ x. Ok (v.0 ∷ x.0, x.1)))) is

pub front_end : (e : Elem) (vs : List ℤ) (n : ℕ) (r : Rest) → n ≡ 0 → with_front vs (next_values n e r) ≡ Ok (vs, r)
front_end e vs n r size = ap (λ (m : ℕ). with_front vs (next_values m e r)) size ∙ ap (λ (l : List ℤ). Ok (l, r)) (append-nil vs)

-- a value that failed
pub fails_values : (end : InputEnd) (e : Elem) (vs : List ℤ) (k n : ℕ) (r : Rest) (whole : Result (List ℤ × Rest) Fault) → n ≡ suc k → Fails end (next_value e r) → with_front vs (next_values n e r) ≡ whole → Fails end whole
fails_values (Refused code place) e vs k n r whole size fails so_far = sym so_far ∙ front_err e vs k n r (record { code = code; place = place }) size fails
fails_values Failed e vs k n r whole size fails so_far = tt
fails_values Absent e vs k n r whole size fails so_far = tt

-- one cell more stands in the bytes
pub one_cell : (e : Elem) (vs : List ℤ) (v : ℤ) (i w k : ℕ) (into new : List ℕ) → i * w + w ≤ length into → length new ≡ w → new ≡ cell e v → take (i * w) into ≡ flat_map (cell e) vs
    → take ((i + 1) * w) (put_mid (i * w) k into new) ≡ flat_map (cell e) (vs ++ v ∷ [])
one_cell e vs v i w k into new fits size is so_far =
    take-put_mid (i * w) k into new ((i + 1) * w) (grind (arith, size)) (omega arith)
    ∙ ap (λ (l : List ℕ). l ++ new) so_far ∙ ap (λ (l : List ℕ). flat_map (cell e) vs ++ l) (is ∙ sym (append-nil (cell e v))) ∙ sym (flat_map-append (cell e) vs (v ∷ []))

pub more_fits : (i count w all : ℕ) → i < count → count * w ≤ all → i * w + w ≤ all
more_fits i count w all low fits = grind arith

pub none_taken : (w : ℕ) (into : List ℕ) → take (0 * w) into ≡ []
none_taken w into = let e : 0 * w ≡ 0 = omega arith in rw e refl

pub first_values : (e : Elem) (count : ℕ) (r : Rest) → with_front [] (next_values (count - 0) e r) ≡ next_values count e r
first_values e count r = let s : count - 0 ≡ count = omega arith in rw s (front_none (next_values count e r))

pub all_taken : (i count w : ℕ) (into : List ℕ) → i ≡ count → count * w ≡ length into → take (i * w) into ≡ into
all_taken i count w into is whole = take_all (i * w) into (omega (arith, ap (λ (k : ℕ). k * w) is, whole))
