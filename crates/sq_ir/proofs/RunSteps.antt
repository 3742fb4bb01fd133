-- What one event does to a plan; a run goes on at its end, and what a run without a trap comes to.
use Rattle.std.proofs.Common.{◌≡◌, ℕ, ◌-◌, ◌%◌, ◌<◌, Bool, true, false, List, [], ◌∷◌, ◌++◌, None, refl, sym, ap, ap₂, ◌∙◌, subst, arith}
use Rattle.std.specs.Prelude.{if◌then◌else◌, nat_lt, is_some}
use Rattle.std.specs.List.Sorted.{IsPermutation}
use Rattle.std.proofs.lemmas.Bool.{ltb-true, ltb-false}
use Rattle.std.proofs.lemmas.List.{append-nil}
use Rattle.sq_ir.specs.Tree.{Tree, Skip, Act, Stuck, Seq, Par, Within, is_done, seq, par, within, ready, rest_at, waiting_events, IsNormal}
use Rattle.sq_ir.specs.Unordered.{IsFresh}
use Rattle.sq_ir.specs.Runs.{Meaning, State, start}
use Rattle.sq_ir.specs.Footprints.{Footprint, CanPerform, CanRun}
use Rattle.sq_ir.specs.Ready.{place_at}
use Rattle.sq_ir.specs.Closed.{without}
use Rattle.sq_ir.specs.RunSteps.{is_place, stuck_at, FinishOne, TrapOne, GrowAtTheEnd, WaitLess, PerformAll}
use Rattle.sq_ir.proofs.Counts.{rest-waiting, run-moves}
use Rattle.sq_ir.proofs.First.{seq-same, par-same}
use Rattle.sq_ir.proofs.FreeRuns.{stuck-rest, both_none}
use Rattle.sq_ir.proofs.Normal.{normal-done, normal-rest}
use Rattle.sq_ir.proofs.Reaching.{untouched}

-- ---- one event

module _ {E S : Type 0} where
  -- the other part stays
  other : (t : Tree E S) → IsNormal t → t ≡ without t (λ p. false)
  other t n = sym (untouched t (λ p. false) n (λ p e i. refl))

  below : (a b : Tree E S) (k : ℕ) → is_done a ≡ false → k < (if is_done a then ready b else ready a) → k < ready a
  below a b k d h = subst (λ v. k < (if v then ready b else ready a)) d h

  pub finish-one : (t : Tree E S) → IsNormal t → (k : ℕ) → k < ready t → rest_at t k false ≡ without t (is_place (place_at t k))
  finish-one Skip n k h = absurd (omega arith)
  finish-one (Act e) n k h = refl
  finish-one (Stuck e) n k h = absurd (omega arith)
  finish-one (Seq a b) n k h =
      ap (λ v. if v then rest_at b k false else seq (rest_at a k false) b) n.2
      ∙ ap₂ seq (finish-one a n.0 k (below a b k n.2 h)) (other b n.1)
      ∙ sym (ap (λ v. without (Seq a b) (is_place (if v then true ∷ place_at b k else false ∷ place_at a k))) n.2)
  finish-one (Par a b) n k h =
      by (nat_lt k (ready a)) refl (λ l. finish-one a n.0 k l) (λ l. finish-one b n.1 (k - ready a) l)
    where
      by : (v : Bool) → nat_lt k (ready a) ≡ v
          → (k < ready a → rest_at a k false ≡ without a (is_place (place_at a k)))
          → (k - ready a < ready b → rest_at b (k - ready a) false ≡ without b (is_place (place_at b (k - ready a))))
          → (if v then par (rest_at a k false) b else par a (rest_at b (k - ready a) false))
          ≡ without (Par a b) (is_place (if v then false ∷ place_at a k else true ∷ place_at b (k - ready a)))
      by true i f g = ap₂ par (f (ltb-true k (ready a) i)) (other b n.1)
      by false i f g = let le = ltb-false k (ready a) i in ap₂ par (other a n.0) (g (omega arith))
  finish-one (Within s a) n k h = ap (within s) (finish-one a n.0 k h)

  -- and a tree in which an event has trapped is not done
  pub trap-one : (t : Tree E S) → IsNormal t → (k : ℕ) → k < ready t
      → (rest_at t k true ≡ stuck_at t (place_at t k)) × (is_done (rest_at t k true) ≡ false)
  trap-one Skip n k h = absurd (omega arith)
  trap-one (Act e) n k h = (refl, refl)
  trap-one (Stuck e) n k h = absurd (omega arith)
  trap-one (Seq a b) n k h =
      let x = trap-one a n.0 k (below a b k n.2 h) in
      let e = ap (λ v. if v then rest_at b k true else seq (rest_at a k true) b) n.2 ∙ seq-same (rest_at a k true) b x.1 n.3 in (
        e ∙ ap (λ y. Seq y b) x.0
            ∙ sym (ap (λ v. stuck_at (Seq a b) (if v then true ∷ place_at b k else false ∷ place_at a k)) n.2),
        ap is_done e ∙ ap (λ v. if v then is_done b else false) x.1,
      )
  trap-one (Par a b) n k h =
      by (nat_lt k (ready a)) refl (λ l. trap-one a n.0 k l) (λ l. trap-one b n.1 (k - ready a) l)
    where
      by : (v : Bool) → nat_lt k (ready a) ≡ v
          → (k < ready a → (rest_at a k true ≡ stuck_at a (place_at a k)) × (is_done (rest_at a k true) ≡ false))
          → (k - ready a < ready b
          → (rest_at b (k - ready a) true ≡ stuck_at b (place_at b (k - ready a))) × (is_done (rest_at b (k - ready a) true) ≡ false))
          → ((if v then par (rest_at a k true) b else par a (rest_at b (k - ready a) true))
          ≡ stuck_at (Par a b) (if v then false ∷ place_at a k else true ∷ place_at b (k - ready a)))
          × (is_done (if v then par (rest_at a k true) b else par a (rest_at b (k - ready a) true)) ≡ false)
      by true i f g =
          let x = f (ltb-true k (ready a) i) in
          let e = par-same (rest_at a k true) b x.1 n.3 in
          (e ∙ ap (λ y. Par y b) x.0, ap is_done e ∙ ap (λ v. if v then is_done b else false) x.1)
      by false i f g =
          let le = ltb-false k (ready a) i in
          let x = g (omega arith) in
          let e = par-same a (rest_at b (k - ready a) true) n.2 x.1 in (
            e ∙ ap (λ y. Par a y) x.0,
            ap is_done e ∙ ap (λ v. if v then is_done (rest_at b (k - ready a) true) else false) n.2,
          )
  trap-one (Within s a) n k h =
      let x = trap-one a n.0 k h in
      let e : within s (rest_at a k true) ≡ Within s (rest_at a k true) =
      ap (λ v. if v then Skip else Within s (rest_at a k true)) x.1 in
      (e ∙ ap (λ y. Within s y) x.0, ap is_done e ∙ x.1)

  -- where nothing is ready and nothing has trapped, nothing is left
  pub none-left : (t : Tree E S) → IsNormal t → IsFresh t → ready t ≡ 0 → is_done t ≡ true
  none-left Skip n z h = refl
  none-left (Act e) n z h = absurd (omega (arith, h))
  none-left (Stuck e) n z h = absurd z
  none-left (Seq a b) n z h =
      let d = none-left a n.0 z.0 (sym (ap (λ v. if v then ready b else ready a) n.2) ∙ h) in
      let f = sym n.2 ∙ d in
      cc
  none-left (Par a b) n z h =
      let d = none-left a n.0 z.0 (omega (arith, h)) in
      let f = sym n.2 ∙ d in
      cc
  none-left (Within s a) n z h = none-left a n.0 z h

pub finishes_one : (E S : Type 0) → FinishOne E S
finishes_one E S t n k h = finish-one t n k h

pub traps_one : (E S : Type 0) → TrapOne E S
traps_one E S t n k h = (trap-one t n k h).0

pub runs_wait_less : (E S : Type 0) → WaitLess E S
runs_wait_less E S t k o e h = rest-waiting t k o e h

-- ---- runs

module _ {E S A C : Type 0} (w : Meaning E (A → ℕ) C) (f : Footprint E A) where
  pub run-end : (s t u : State E S (A → ℕ) C) (ps : List ℕ) (es : List E) (p : ℕ) (e : E)
      → CanRun w f s ps es t → CanPerform w f t (p % ready t.rest) e u
      → CanRun w f s (ps ++ p ∷ []) (es ++ e ∷ []) u
  run-end s t u [] [] p e h c = (u, subst (λ x. CanPerform w f x (p % ready x.rest) e u) h c, refl)
  run-end s t u [] (x ∷ es) p e h c = absurd h
  run-end s t u (q ∷ ps) [] p e h c = absurd h
  run-end s t u (q ∷ ps) (x ∷ es) p e h c = (h.0, h.1, run-end h.0 t u ps es p e h.2 c)

  run-none : (ps : List ℕ) (es : List E) (s t : State E S (A → ℕ) C) → CanRun w f s ps es t → t.ended ≡ None → s.ended ≡ None
  run-none [] [] s t h z = sym (ap (λ x. x.ended) h) ∙ z
  run-none [] (e ∷ es) s t h z = absurd h
  run-none (p ∷ ps) [] s t h z = absurd h
  run-none (p ∷ ps) (e ∷ es) s t h z =
      (both_none s.ended (w.trap e s.bytes) (sym h.1.ended ∙ run-none ps es h.0 t h.2 z)).0

  -- without a trap nothing gets stuck
  run-fresh : (ps : List ℕ) (es : List E) (s t : State E S (A → ℕ) C) → CanRun w f s ps es t → t.ended ≡ None
      → IsFresh s.rest → IsFresh t.rest
  run-fresh [] [] s t h z c = subst (λ x. IsFresh x.rest) (sym h) c
  run-fresh [] (e ∷ es) s t h z c = absurd h
  run-fresh (p ∷ ps) [] s t h z c = absurd h
  run-fresh (p ∷ ps) (e ∷ es) s t h z c =
      let k = p % ready s.rest in
      let o = (both_none s.ended (w.trap e s.bytes) (sym h.1.ended ∙ run-none ps es h.0 t h.2 z)).1 in
      let r = h.1.rest ∙ ap (λ x. rest_at s.rest k (is_some x)) o in
      run-fresh ps es h.0 t h.2 z (subst IsFresh (sym r) (stuck-rest (λ x. ⊥) s.rest k c))

  run-normal : (ps : List ℕ) (es : List E) (s t : State E S (A → ℕ) C) → CanRun w f s ps es t → IsNormal s.rest → IsNormal t.rest
  run-normal [] [] s t h n = subst (λ x. IsNormal x.rest) (sym h) n
  run-normal [] (e ∷ es) s t h n = absurd h
  run-normal (p ∷ ps) [] s t h n = absurd h
  run-normal (p ∷ ps) (e ∷ es) s t h n =
      let k = p % ready s.rest in
      let o = is_some (w.trap e s.bytes) in
      run-normal ps es h.0 t h.2 (subst IsNormal (sym h.1.rest) (normal-rest s.rest k o n))

pub runs_grow : (E S A C : Type 0) → GrowAtTheEnd E S A C
runs_grow E S A C w f s t u ps es p e h c = run-end w f s t u ps es p e h c

pub runs_perform_all : (E S A C : Type 0) → PerformAll E S A C
runs_perform_all E S A C w f plan m n z ps es last h none =
    let s = start plan m in
    let n2 = run-normal w f ps es s last h.run n in
    let z2 = run-fresh w f ps es s last h.run none z in
    let done = normal-done last.rest n2 (none-left last.rest n2 z2 h.over) in
    let all = run-moves w f ps es s last h.run in
    let empty : es ++ waiting_events last.rest ≡ es = ap (λ x. es ++ waiting_events x) done ∙ append-nil es in
    (done, subst (λ l. IsPermutation l (waiting_events plan)) empty all)
