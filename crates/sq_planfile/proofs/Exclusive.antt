-- Sound lines have no fault.
use Rattle.std.proofs.Common.{◌≡◌, ℕ, zero, suc, List, [], ◌∷◌, ◌++◌, map, Some, ◌⊎◌, inl, inr, arith, sym, subst, append_assoc, append-nil}
use Rattle.std.specs.List.{All, slice_get}
use Rattle.sq_text.specs.declared.place.Place.{Place}
use Rattle.sq_text.specs.declared.fault.Fault.{Fault}
use Rattle.sq_ir.specs.Written.{Env}
use Rattle.sq_plantext.specs.declared.text.BufferLine.{BufferLine}
use Rattle.sq_plantext.specs.declared.text.ArrayLine.{ArrayLine}
use Rattle.sq_plantext.specs.declared.text.TermText.{TermText, roll-TermText}
use Rattle.sq_plantext.specs.declared.text.TermText.TheVariants as t
use Rattle.sq_plantext.specs.declared.text.TermText.TheOpen.{TermText-F}
use Rattle.sq_plantext.specs.declared.text.TermText.TheFolds.{ind-TermText, map-TermText}
use Rattle.sq_plantext.specs.declared.text.PlanText.{PlanText}
use Rattle.sq_planfile.specs.Sound.{AskedOfTexts, each_part, AreEvents, IsScope, inside, AreArrays, IsArrayLine, IsLeafText, IsBufferLine, IsSound}
use Rattle.sq_planfile.specs.Files.{nodes_of}
use Rattle.sq_planfile.specs.Faults.{BadAt, some_part, IsBadIn, NodeFault, LeafFault, BufferFault, ArrayFault, EventFault, LineFault}
use Rattle.sq_planfile.proofs.Equations.{sound_seq, sound_par, sound_at, sound_act, bad_seq, bad_par, bad_at, bad_act}

all_at : {A : Type 0} (P : A → Type 0) (xs : List A) (i : ℕ) (x : A) → All P xs → slice_get xs i ≡ Some x → P x
all_at P [] i x h e = absurd (cc)
all_at P (y ∷ xs) zero x h e = let same : y ≡ x = cc in subst P same (h zero x (omega arith))
all_at P (y ∷ xs) (suc i) x h e = all_at P xs i x (λ k d lt. h (suc k) d (omega (arith, lt))) e

array_at : (bs : List BufferLine) (done before : List ArrayLine) (a : ArrayLine) (later : List ArrayLine) → AreArrays bs done (before ++ a ∷ later) → IsArrayLine bs (done ++ before) a
array_at bs done [] a later h = subst (λ ds. IsArrayLine bs ds a) (sym (append-nil done)) h.0
array_at bs done (b ∷ before) a later h = subst (λ ds. IsArrayLine bs ds a) (append_assoc done (b ∷ []) before) (array_at bs (done ++ b ∷ []) before a later h.1)

module _ (x : PlanText) where
  abbrev Clear : TermText → Type 0
  Clear y = (env : Env) (bs : List ℕ) (p : Place) → AreEvents x y env bs → IsBadIn x y env bs p → ⊥

  abbrev M : Type 0
  M = (y : TermText) × Clear y

  abbrev terms : List M → List TermText
  terms xs = map (λ m. m.0) xs

  clear_parts : (xs : List M) (env : Env) (bs : List ℕ) (p : Place) → each_part (AreEvents x) (terms xs) env bs → some_part (IsBadIn x) (terms xs) env bs p → ⊥
  clear_parts [] env bs p h b = b
  clear_parts (m ∷ xs) env bs p h (inl b) = m.1 env bs p h.0 b
  clear_parts (m ∷ xs) env bs p h (inr b) = clear_parts xs env bs p h.1 b

  by_equations : (y : TermText) (asks : AskedOfTexts) (bad : BadAt) → AreEvents x y ≡ asks → IsBadIn x y ≡ bad → ((env : Env) (bs : List ℕ) (p : Place) → asks env bs → bad env bs p → ⊥) → Clear y
  by_equations y asks bad e q h env bs p s b = h env bs p (subst (λ (f : AskedOfTexts). f env bs) e s) (subst (λ (f : BadAt). f env bs p) q b)

  scope_clear : (p : Place) (n : ℕ) (bs : List ℕ) (m : M) (env : Env) (cs : List ℕ) (q : Place) → IsScope x env n bs → AreEvents x m.0 (inside x env n) (bs ++ cs)
      → ((IsScope x env n bs → ⊥) × (q ≡ p)) ⊎ IsBadIn x m.0 (inside x env n) (bs ++ cs) q → ⊥
  scope_clear p n bs m env cs q h g (inl b) = b.0 h
  scope_clear p n bs m env cs q h g (inr b) = m.1 (inside x env n) (bs ++ cs) q g b

  clear_step : (y : TermText-F M) → Clear (roll-TermText (map-TermText M TermText (λ m. m.0) y))
  clear_step (TermText-F.Seq xs) = subst Clear (sym (t.rolls-Seq (terms xs))) (by_equations (t.Seq (terms xs)) _ _ (sound_seq x (terms xs)) (bad_seq x (terms xs)) (clear_parts xs))
  clear_step (TermText-F.Par xs) = subst Clear (sym (t.rolls-Par (terms xs))) (by_equations (t.Par (terms xs)) _ _ (sound_par x (terms xs)) (bad_par x (terms xs)) (clear_parts xs))
  clear_step (TermText-F.At p n bs m) = subst Clear (sym (t.rolls-At p n bs m.0)) (by_equations (t.At p n bs m.0) _ _ (sound_at x p n bs m.0) (bad_at x p n bs m.0) (λ env cs q h b. scope_clear p n bs m env cs q h.0 h.1 b))
  clear_step (TermText-F.Act p e) = subst Clear (sym (t.rolls-Act p e)) (by_equations (t.Act p e) _ _ (sound_act x p e) (bad_act x p e) (λ env bs q h b. b.0 h))

  pub all_clear : (y : TermText) → Clear y
  all_clear = ind-TermText Clear (λ y z is. subst (λ w. Clear (roll-TermText w)) is (clear_step z))

  no_node : (f : Fault) → IsSound x → NodeFault x f → ⊥
  no_node f s b = b.0 s.nodes

  no_leaf : (f : Fault) → IsSound x → LeafFault x f → ⊥
  no_leaf f s b = b.bad (all_at IsLeafText x.leaves b.index b.leaf s.leaves b.there)

  no_buffer : (f : Fault) → IsSound x → BufferFault x f → ⊥
  no_buffer f s b = b.bad (all_at (IsBufferLine (nodes_of x)) x.buffers b.index b.buffer s.buffers b.there)

  no_array : (f : Fault) → IsSound x → ArrayFault x f → ⊥
  no_array f s b = b.bad (array_at x.buffers [] b.before b.array b.later (subst (AreArrays x.buffers []) b.there s.arrays))

  no_event : (f : Fault) → IsSound x → EventFault x f → ⊥
  no_event f s b = all_clear x.term _ _ b.place s.events b.bad

  -- lines that stand for a plan file have no fault
  pub sound_is_faultless : (f : Fault) → IsSound x → LineFault x f → ⊥
  sound_is_faultless f s (inl b) = no_node f s b
  sound_is_faultless f s (inr (h, inl b)) = no_leaf f s b
  sound_is_faultless f s (inr (h, inr (g, inl b))) = no_buffer f s b
  sound_is_faultless f s (inr (h, inr (g, inr (k, inl b)))) = no_array f s b
  sound_is_faultless f s (inr (h, inr (g, inr (k, inr (l, b))))) = no_event f s b
