-- The settings of a choice, told while its number is taken apart, are those of its mapping.
use Rattle.std.proofs.Common.{◌≡◌, ℕ, suc, ◌+◌, ◌<◌, ◌≤◌, Bool, if◌then◌else◌, List, [], ◌∷◌, ◌++◌, length, drop, get_or, slice_get, refl, sym, ◌∙◌, ap, ap₂, append_assoc, add-one, arith}
use Rattle.std.proofs.Math.Seq.{drop-cons}
use Rattle.std.proofs.lemmas.List.{append-nil, drop_all}
use Rattle.sq_mapping.specs.declared.mapping.Instance.{Instance}
use Rattle.sq_mapfile.specs.declared.tunings.Ways.{Ways}
use Rattle.sq_mapfile.specs.declared.digits.Digits.{Digits}
use Rattle.sq_mapfile.specs.declared.choices.Choices.{Choices}
use Rattle.sq_mapfile.specs.Digits.{past}
use Rattle.sq_mapfile.specs.Chosen.{is_varied, more_than_one, listed, tuning_at, tunings_at, all_past, instances_at}
use Rattle.sq_report.specs.Reports.{numbered}
use Rattle.sq_tune_text.specs.Text.{told_text, instance_text, settings_text}
use Rattle.sq_tune_text.specs.Walk.{way_text, ways_text, walk_text}

-- ---- loops

pub next_way : (name : List ℕ) (d left : Digits) (ws : List Ways) (k : ℕ) (w : Ways) (done : List ℕ) → k < length ws → w ≡ get_or ws k w
    → done ++ ways_text name left (drop k ws) ≡ ways_text name d ws
    → (done ++ way_text name left w) ++ ways_text name (past left w.values) (drop (k + 1) ws) ≡ ways_text name d ws
next_way name d left ws k w done lt is so_far =
    let front : drop k ws ≡ w ∷ drop (suc k) ws = drop-cons ws k w lt ∙ ap (λ y. y ∷ drop (suc k) ws) (sym is) in
    ap (λ n. (done ++ way_text name left w) ++ ways_text name (past left w.values) (drop n ws)) (add-one k)
    ∙ append_assoc done (way_text name left w) (ways_text name (past left w.values) (drop (suc k) ws))
    ∙ ap (λ t. done ++ ways_text name left t) (sym front) ∙ so_far

pub all_ways : (name : List ℕ) (d left : Digits) (ws : List Ways) (k : ℕ) (done : List ℕ) → length ws ≤ k
    → done ++ ways_text name left (drop k ws) ≡ ways_text name d ws → done ≡ ways_text name d ws
all_ways name d left ws k done le so_far = sym (append-nil done) ∙ ap (λ t. done ++ ways_text name left t) (sym (drop_all k ws le)) ∙ so_far

pub next_instance : (all : List (List Ways)) (d left : Digits) (xs : List Instance) (k : ℕ) (x : Instance) (done : List ℕ) → k < length xs → x ≡ get_or xs k x
    → done ++ walk_text all left k (drop k xs) ≡ walk_text all d 0 xs
    → (done ++ ways_text x.name left (listed (slice_get all k))) ++ walk_text all (all_past left (listed (slice_get all k))) (k + 1) (drop (k + 1) xs) ≡ walk_text all d 0 xs
next_instance all d left xs k x done lt is so_far =
    let front : drop k xs ≡ x ∷ drop (suc k) xs = drop-cons xs k x lt ∙ ap (λ y. y ∷ drop (suc k) xs) (sym is) in
    let ws = listed (slice_get all k) in
    ap (λ n. (done ++ ways_text x.name left ws) ++ walk_text all (all_past left ws) n (drop n xs)) (add-one k)
    ∙ append_assoc done (ways_text x.name left ws) (walk_text all (all_past left ws) (suc k) (drop (suc k) xs))
    ∙ ap (λ t. done ++ walk_text all left k t) (sym front) ∙ so_far

pub all_instances : (all : List (List Ways)) (d left : Digits) (xs : List Instance) (k : ℕ) (done : List ℕ) → length xs ≤ k
    → done ++ walk_text all left k (drop k xs) ≡ walk_text all d 0 xs → done ≡ walk_text all d 0 xs
all_instances all d left xs k done le so_far = sym (append-nil done) ∙ ap (λ t. done ++ walk_text all left k t) (sym (drop_all k xs le)) ∙ so_far

-- ---- the walk tells the mapping of the choice

-- these tunables are those from number j on
tuned : (varied : ℕ → Bool) (name : List ℕ) (d : Digits) (ws : List Ways) (j : ℕ) → ((k : ℕ) → varied (j + k) ≡ more_than_one (slice_get ws k))
    → ways_text name d ws ≡ numbered (λ k t. if varied k then told_text name t else []) j (tunings_at d ws)
tuned varied name d [] j h = refl
tuned varied name d (w ∷ ws) j h =
    let here : varied j ≡ more_than_one (slice_get (w ∷ ws) 0) = ap varied (let e : j ≡ j + 0 = omega arith in e) ∙ h 0 in
    let rest = tuned varied name (past d w.values) ws (suc j) (λ k. ap varied (let e : suc j + k ≡ j + suc k = omega arith in e) ∙ h (suc k)) in
    ap₂ (λ x y. x ++ y) (ap (λ b. if b then told_text name (tuning_at d w) else []) (sym here)) rest

walked : (all : List (List Ways)) (d : Digits) (i : ℕ) (xs : List Instance) → walk_text all d i xs ≡ numbered (instance_text all) i (instances_at all d i xs)
walked all d i [] = refl
walked all d i (x ∷ xs) =
    let ws = listed (slice_get all i) in
    ap₂ (λ a b. a ++ b) (tuned (is_varied all i) x.name d ws 0 (λ k. ap (is_varied all i) (let e : 0 + k ≡ k = omega arith in e))) (walked all (all_past d ws) (suc i) xs)

pub settings_are : (choices : Choices) (n : ℕ) → walk_text choices.tunables (record { number = n; choices = choices.number }) 0 choices.first.instances ≡ settings_text choices n
settings_are choices n = walked choices.tunables (record { number = n; choices = choices.number }) 0 choices.first.instances
