-- The file's end.
use Rattle.std.proofs.Common.{◌≡◌, ℕ, ◌<◌, Bool, true, cond, List, [], ◌∷◌, length, refl, ◌∙◌, ap, arith, Ok, Err}
use Rattle.sq_text.specs.declared.place.Place.{Place}
use Rattle.sq_arrays.specs.declared.window.Ahead.{Ahead}
use Rattle.sq_arrays.specs.declared.refusal.InputCode.TheVariants.{LimitFile, Extra}
use Rattle.sq_arrays.specs.Window.{PassedRun}
use Rattle.sq_arrays.specs.ArrayText.{Rest, past, finish_at, finished}
use Rattle.sq_arrays.proofs.WordsRead.{past_done}

finished_is : (r s : Rest) → past true r ≡ s → finished r ≡ finish_at s.text s
unfolding finished
finished_is r s is = ap (λ (q : Rest). finish_at q.text q) is

finish_some : (text : List ℕ) (r : Rest) → 0 < length text → finish_at text r ≡ Err (record { code = Extra; place = r.place })
finish_some [] r some = absurd (omega arith)
finish_some (b ∷ bs) r some = refl

pub more_left : {J : Type 0} {next : J → ℕ → J} {from to : Place} {text now : List ℕ} {before after : J} {a : Ahead} {over : Bool}
    → PassedRun next true from to text now before after a over → 0 < length now → finished (record { place = from; text = text; over = over }) ≡ Err (record { code = Extra; place = to })
more_left {from = from} {to = to} {text = text} {now = now} {over = over} r some =
    finished_is (record { place = from; text = text; over = over }) (record { place = to; text = now; over = over }) (past_done r) ∙ finish_some now (record { place = to; text = now; over = over }) some

pub none_left : {J : Type 0} {next : J → ℕ → J} {from to : Place} {text now : List ℕ} {before after : J} {a : Ahead} {over : Bool} (v : Bool)
    → PassedRun next true from to text now before after a over → now ≡ [] → over ≡ v
    → finished (record { place = from; text = text; over = over }) ≡ cond v (Err (record { code = LimitFile; place = to })) (Ok tt)
none_left {from = from} {to = to} {text = text} {now = now} {over = over} v r none is =
    finished_is (record { place = from; text = text; over = over }) (record { place = to; text = now; over = over }) (past_done r)
    ∙ ap (λ (l : List ℕ). finish_at l (record { place = to; text = l; over = over })) none ∙ ap (λ (w : Bool). cond w (Err (record { code = LimitFile; place = to })) (Ok tt)) is
