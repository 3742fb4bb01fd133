-- How runs are passed from window to window.
use Rattle.std.proofs.Common.{◌≡◌, ℕ, ◌+◌, ◌-◌, ◌<◌, Bool, List, [], ◌∷◌, ◌++◌, length, take, drop, Option, refl, sym, ◌∙◌, ap, subst, arith, append_assoc, length-append}
use Rattle.std.proofs.lemmas.List.{drop_at, drop-drop}
use Rattle.std.proofs.lemmas.List.Sums.{fold-append}
use Rattle.std.specs.List.{fold}
use Rattle.sq_text.specs.declared.place.Place.{Place}
use Rattle.sq_arrays.specs.declared.window.Window.{Window}
use Rattle.sq_arrays.specs.declared.window.Ahead.TheVariants.{Bytes}
use Rattle.sq_port.specs.Ports.{Content}
use Rattle.sq_text.specs.Places.{place_after}
use Rattle.sq_arrays.specs.Words.{along, within}
use Rattle.sq_arrays.specs.Window.{Stops, Passed, PassedRun, IsTold, Stands, held, left}
use Rattle.sq_arrays.proofs.Passing.{are_in_both}

pub passed_none : {J : Type 0} (next : J → ℕ → J) (blank : Bool) (from : Place) (text : List ℕ) (observer : J) → Passed next blank from from text text observer observer
passed_none next blank from text observer = record { done = []; whole = refl; each = tt; place = refl; observer = refl }

pub passed_both : {J : Type 0} {next : J → ℕ → J} {blank : Bool} {from mid to : Place} {text mid_text now_text : List ℕ} {before between after : J}
    → Passed next blank from mid text mid_text before between → Passed next blank mid to mid_text now_text between after → Passed next blank from to text now_text before after
passed_both {next = next} {blank = blank} {from = from} {now_text = now_text} {before = before} first second = record {
  done = first.done ++ second.done;
  whole = first.whole ∙ ap (λ (l : List ℕ). first.done ++ l) second.whole ∙ sym (append_assoc first.done second.done now_text);
  each = are_in_both blank first.done second.done first.each second.each;
  place = second.place ∙ ap (λ (p : Place). along p second.done) first.place ∙ sym (fold-append place_after from first.done second.done);
  observer = second.observer ∙ ap (λ s. fold next s second.done) first.observer ∙ sym (fold-append next before first.done second.done);
}

-- what stands at the later position
later : (text held now more done : List ℕ) (at now_at : ℕ) → drop at text ≡ held ++ more → held ≡ done ++ now → now_at + length now ≡ at + length held → drop now_at text ≡ now ++ more
later text held now more done at now_at is whole count =
    let e : now_at ≡ at + length done = omega (arith, ap length whole, length-append done now) in
    ap (λ (k : ℕ). drop k text) e ∙ sym (drop-drop (length done) at text) ∙ ap (drop (length done)) (is ∙ ap (λ (l : List ℕ). l ++ more) whole ∙ append_assoc done now more)
    ∙ drop_at done (now ++ more) (length done) refl

-- what is passed in the window is passed in the file
pub passed_left : {J : Type 0} {next : J → ℕ → J} {blank : Bool} {from to : Place} {before after : J} (text held now more : List ℕ) (at now_at : ℕ)
    → drop at text ≡ held ++ more → now_at + length now ≡ at + length held → Passed next blank from to held now before after
    → Passed next blank from to (drop at text) (drop now_at text) before after
passed_left text held now more at now_at is count passed = record {
  done = passed.done;
  whole = is ∙ ap (λ (l : List ℕ). l ++ more) passed.whole ∙ append_assoc passed.done now more ∙ ap (λ (l : List ℕ). passed.done ++ l) (sym (later text held now more passed.done at now_at is passed.whole count));
  each = passed.each;
  place = passed.place;
  observer = passed.observer;
}

-- the window still holds what stands at its position
pub stands_later : {J : Type 0} {next : J → ℕ → J} {blank : Bool} {from to : Place} {before after : J} (told : Option Content) (name : List ℕ) (w now : Window)
    → Stands told name w → now.spot.at + length (held now) ≡ w.spot.at + length (held w) → Passed next blank from to (held w) (held now) before after → Stands told name now
stands_later told name w now stands count passed = record {
  front = λ bytes t. let f = stands.front bytes t in (f.0, later (within bytes) (held w) (held now) f.0 passed.done w.spot.at now.spot.at f.1 passed.whole count);
  there = λ some. stands.there (omega (arith, ap length passed.whole, length-append passed.done (held now)));
}

pub stops_more : (blank : Bool) (xs ys : List ℕ) → 0 < length xs → Stops blank xs → Stops blank (xs ++ ys)
stops_more blank [] ys some stops = absurd (omega arith)
stops_more blank (x ∷ xs) ys some stops = stops

pub run_none : (blank : Bool) (text : List ℕ) → text ≡ [] → Stops blank text
run_none blank text none = rw none tt

-- one window more
pub run_step : {J : Type 0} {next : J → ℕ → J} {blank : Bool} {before between after : J} (told now_told : Option Content) (name : List ℕ) (first w seen now : Window) (bytes : List ℕ)
    → IsTold told name bytes → now_told ≡ told → seen.spot.at ≡ w.spot.at → seen.spot.place ≡ w.spot.place → Stands now_told name seen
    → now.spot.at + length (held now) ≡ seen.spot.at + length (held seen)
    → Passed next blank first.spot.place w.spot.place (left first bytes) (left w bytes) before between
    → Passed next blank seen.spot.place now.spot.place (held seen) (held now) between after
    → Passed next blank first.spot.place now.spot.place (left first bytes) (left now bytes) before after
run_step {next = next} {blank = blank} {between = between} {after = after} told now_told name first w seen now bytes t same at place stands count so_far more =
    let f = stands.front bytes (subst (λ (k : Option Content). IsTold k name bytes) (sym same) t) in
    let here : Passed next blank seen.spot.place now.spot.place (left seen bytes) (left now bytes) between after = passed_left (within bytes) (held seen) (held now) f.0 seen.spot.at now.spot.at f.1 count more in
    passed_both so_far (subst (λ (p : Place). Passed next blank p now.spot.place (left w bytes) (left now bytes) between after) place
    (subst (λ (k : ℕ). Passed next blank seen.spot.place now.spot.place (drop k (within bytes)) (left now bytes) between after) at here))

-- the run ends in the window
pub run_ends : {J : Type 0} {next : J → ℕ → J} {blank : Bool} {from : Place} {before after : J} (told now_told : Option Content) (name text : List ℕ) (now : Window) (bytes : List ℕ) (over : Bool)
    → IsTold told name bytes → now_told ≡ told → Stands now_told name now → 0 < length (held now) → Stops blank (held now)
    → Passed next blank from now.spot.place text (left now bytes) before after → PassedRun next blank from now.spot.place text (left now bytes) before after Bytes over
run_ends {blank = blank} told now_told name text now bytes over t same stands some stops passed =
    let f = stands.front bytes (subst (λ (k : Option Content). IsTold k name bytes) (sym same) t) in
    record {
      passed = passed;
      stops = subst (λ (l : List ℕ). Stops blank l) (sym f.1) (stops_more blank (held now) f.0 some stops);
      ahead = rw f.1 (omega (arith, length-append (held now) f.0));
    }

-- an empty window holds nothing that could be wrong
pub empty_stands : (w : Window) → w.spot.end ≡ w.spot.start → (told : Option Content) (name : List ℕ) → Stands told name w
empty_stands w empty told name =
    let size : w.spot.end - w.spot.start ≡ 0 = omega arith in
    let none : held w ≡ [] = ap (λ (n : ℕ). take n (drop w.spot.start w.bytes)) size in
    record {
      front = λ bytes t. (left w bytes, ap (λ (l : List ℕ). l ++ left w bytes) (sym none));
      there = λ some. absurd (omega (arith, ap length none));
    }
