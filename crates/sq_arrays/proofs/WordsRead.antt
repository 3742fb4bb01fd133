-- A word that was passed is the next word.
use Rattle.std.proofs.Common.{◌≡◌, ℕ, ◌<◌, Bool, true, false, cond, List, [], ◌∷◌, ◌++◌, length, refl, sym, ◌∙◌, ap, arith, Ok, Err}
use Rattle.sq_text.specs.declared.place.Place.{Place}
use Rattle.sq_arrays.specs.declared.window.Ahead.{Ahead}
use Rattle.sq_arrays.specs.declared.window.Ahead.TheVariants.{Bytes}
use Rattle.sq_arrays.specs.declared.refusal.InputCode.TheVariants.{LimitFile, Short}
use Rattle.sq_arrays.specs.Words.{is_in, along, run, behind}
use Rattle.sq_arrays.specs.Window.{AreIn, Stops, PassedRun}
use Rattle.sq_arrays.specs.ArrayText.{Rest, past, ended, word_of, word_at, next_word}

run_none : (blank : Bool) (text : List ℕ) → Stops blank text → (run blank text ≡ []) × (behind blank text ≡ text)
run_none blank [] stops = (refl, refl)
run_none blank (b ∷ bs) stops = (rw stops refl, rw stops refl)

pub run_is : (blank : Bool) (done text : List ℕ) → AreIn blank done → Stops blank text → (run blank (done ++ text) ≡ done) × (behind blank (done ++ text) ≡ text)
run_is blank [] text each stops = run_none blank text stops
run_is blank (b ∷ done) text each stops =
    let more = run_is blank done text each.1 stops in
    (rw each.0 (ap (λ (l : List ℕ). b ∷ l) more.0), rw each.0 more.1)

-- what is behind a run
pub run_done : {J : Type 0} {next : J → ℕ → J} {blank : Bool} {from to : Place} {text now : List ℕ} {before after : J} {a : Ahead} {over : Bool}
    → (r : PassedRun next blank from to text now before after a over) → run blank text ≡ r.passed.done
run_done {blank = blank} {now = now} r = ap (run blank) r.passed.whole ∙ (run_is blank r.passed.done now r.passed.each r.stops).0

pub past_done : {J : Type 0} {next : J → ℕ → J} {blank : Bool} {from to : Place} {text now : List ℕ} {before after : J} {a : Ahead} {over : Bool}
    → PassedRun next blank from to text now before after a over → past blank (record { place = from; text = text; over = over }) ≡ record { place = to; text = now; over = over }
past_done {blank = blank} {from = from} {to = to} {text = text} {now = now} {over = over} r =
    let place : along from (run blank text) ≡ to = ap (along from) (run_done r) ∙ sym r.passed.place in
    let rest : behind blank text ≡ now = ap (behind blank) r.passed.whole ∙ (run_is blank r.passed.done now r.passed.each r.stops).1 in
    ap (λ (p : Place). record { place = p; text = behind blank text; over = over }) place ∙ ap (λ (l : List ℕ). record { place = to; text = l; over = over }) rest

pub word_is : (r s n : Rest) (done : List ℕ) → past true r ≡ s → run false s.text ≡ done → past false s ≡ n → next_word r ≡ word_of s.place done n
unfolding next_word
word_is r s n done skipped is rest = ap word_at skipped ∙ ap (λ (d : List ℕ). word_of s.place d (past false s)) is ∙ ap (word_of s.place done) rest

-- no byte is left where a word is needed
pub no_word : {J : Type 0} {next : J → ℕ → J} {from to : Place} {text now : List ℕ} {before after : J} {a : Ahead} {over : Bool}
    → PassedRun next true from to text now before after a over → now ≡ [] → next_word (record { place = from; text = text; over = over }) ≡ Err (record { code = cond over LimitFile Short; place = to })
no_word {from = from} {to = to} {text = text} {over = over} r none =
    word_is (record { place = from; text = text; over = over }) (record { place = to; text = []; over = over }) (record { place = to; text = []; over = over }) []
    (past_done r ∙ ap (λ (l : List ℕ). record { place = to; text = l; over = over }) none) refl refl

word_starts : (text : List ℕ) → Stops true text → 0 < length text → (b : ℕ) × (bs : List ℕ) × (run false text ≡ b ∷ bs)
word_starts [] stops some = absurd (omega arith)
word_starts (b ∷ bs) stops some = let e : is_in false b ≡ true = rw stops refl in (b, run false bs, rw e refl)

pub begun : (place : Place) (done : List ℕ) (b : ℕ) (bs : List ℕ) (n : Rest) (v : Bool) → done ≡ b ∷ bs → ended n.text n.over ≡ v
    → word_of place done n ≡ cond v (Ok (record { place = place; bytes = done; rest = n })) (Err (record { code = LimitFile; place = n.place }))
begun place done b bs n v is e = rw is (ap (λ (w : Bool). cond w (Ok (record { place = place; bytes = b ∷ bs; rest = n })) (Err (record { code = LimitFile; place = n.place }))) e)

-- a word that is ended, or not
pub word_read : {I J : Type 0} {skip : I → ℕ → I} {next : J → ℕ → J} {from mid to : Place} {text mid_text now : List ℕ} {idle idled : I} {before after : J} {a : Ahead} {over v : Bool}
    → PassedRun skip true from mid text mid_text idle idled Bytes over → (r : PassedRun next false mid to mid_text now before after a over) → ended now over ≡ v
    → next_word (record { place = from; text = text; over = over })
    ≡ cond v (Ok (record { place = mid; bytes = r.passed.done; rest = record { place = to; text = now; over = over } })) (Err (record { code = LimitFile; place = to }))
word_read {from = from} {mid = mid} {to = to} {text = text} {mid_text = mid_text} {now = now} {over = over} {v = v} first r e =
    let starts = word_starts mid_text first.stops first.ahead in
    word_is (record { place = from; text = text; over = over }) (record { place = mid; text = mid_text; over = over }) (record { place = to; text = now; over = over }) r.passed.done (past_done first) (run_done r) (past_done r)
    ∙ begun mid r.passed.done starts.0 starts.1 (record { place = to; text = now; over = over }) v (sym (run_done r) ∙ starts.2) e

pub ended_here : (text : List ℕ) (over : Bool) → 0 < length text → ended text over ≡ true
ended_here [] over some = absurd (omega arith)
ended_here (b ∷ bs) over some = refl
