-- The walk over a term.
use Rattle.std.proofs.Common.{◌≡◌, ℕ, zero, suc, ◌+◌, ◌<◌, ◌≤◌, Bool, true, false, Option, Some, None, List, [], ◌∷◌, ◌++◌, drop, length, take, refl, sym, ap, ap₂, subst, ◌∙◌, ◌⊎◌, inl, inr, arith}
use Rattle.std.specs.List.{slice_get}
use Rattle.sq_text.specs.declared.place.Place.{Place}
use Rattle.sq_ir.specs.Written.{Env, at_root}
use Rattle.sq_ir.specs.Plans.{IsRow, IsView, setting_of}
use Rattle.sq_ir.specs.declared.term.LeafView.{LeafView}
use Rattle.sq_plantext.specs.declared.text.EventText.{EventText}
use Rattle.sq_plantext.specs.declared.text.EventText.TheVariants as event
use Rattle.sq_plantext.specs.declared.text.TermText.{TermText}
use Rattle.sq_plantext.specs.declared.text.TermText.TheVariants as t
use Rattle.sq_plantext.specs.declared.text.PlanText.{PlanText}
use Rattle.sq_planfile.specs.Files.{plan_of}
use Rattle.sq_planfile.specs.Sound.{AskedOfTexts, each_part, IsEventText, AreEvents, inside}
use Rattle.sq_planfile.specs.Faults.{BadAt, some_part, IsBadIn}
use Rattle.sq_planfile.proofs.Equations.{sound_seq, sound_par, sound_at, sound_act, bad_seq, bad_par, bad_at, bad_act}
use Rattle.sq_planevents.specs.First.{IsFirstBad, Judges, entry_of}
use Rattle.std.specs.Prelude.{◌==◌, if◌then◌else◌, get_or, Result, Ok, Err, OnOk}
use Rattle.sq_ir.specs.Plans.{node_at}
use Rattle.sq_planfile.specs.Files.{nodes_of}
use Rattle.sq_planevents.specs.Standing.{env_of, node_here, HaveSame}
use Rattle.sq_planevents.specs.Scoped.{inside_nodes, first_or}
use Rattle.sq_planevents.specs.Walked.{JudgesEvent, JudgesScope, JudgesTerm, JudgesTerms}
use Rattle.sq_planevents.specs.declared.standing.Standing.{Standing}
use Rattle.sq_planevents.proofs.Judging.{and_then, as_well, nothing}
use Rattle.sq_planevents.proofs.Standings.{inside_is, root_is, contains_same, same_within, same_self}

same_back : (bs cs : List ℕ) → HaveSame bs cs → HaveSame cs bs
same_back bs cs h = record { same = λ b. sym (h.same b) }

-- ---- the same buffers in scope

module _ (x : PlanText) (env : Env) (bs cs : List ℕ) (h : HaveSame bs cs) where
  row_same : (slot : _) (bytes : ℕ) → IsRow (setting_of (plan_of x)) env bs slot bytes → IsRow (setting_of (plan_of x)) env cs slot bytes
  row_same slot bytes r = record { scope = contains_same bs cs slot.buffer h r.scope; at = r.at; inside = r.inside }

  view_same : (v : LeafView) → IsView (setting_of (plan_of x)) env bs v → IsView (setting_of (plan_of x)) env cs v
  view_same v r = record { scope = contains_same bs cs v.slot.buffer h r.scope; at = r.at; level = r.level; inside = r.inside }

  event_same : (e : EventText) → IsEventText x env bs e → IsEventText x env cs e
  event_same (event.Copy from to bytes) g = record { views = g.views; allowed = record { inside = (row_same _ bytes g.allowed.inside.0, row_same _ bytes g.allowed.inside.1); event = g.allowed.event } }
  event_same (event.Fill to el count value) g = record { views = g.views; allowed = record { inside = row_same _ _ g.allowed.inside; event = g.allowed.event } }
  event_same (event.Acc op el from to count) g = record { views = g.views; allowed = record { inside = (row_same _ _ g.allowed.inside.0, row_same _ _ g.allowed.inside.1); event = g.allowed.event } }
  event_same (event.Run leaf views path) g = record { views = g.views; allowed = record { inside = ((λ k d l. view_same _ (g.allowed.inside.0 k d l)), g.allowed.inside.1); event = g.allowed.event } }

-- ---- events and scopes

module _ (x : PlanText) where
  -- along the equations of a term
  by_equations : (y : TermText) (asks : AskedOfTexts) (bad : BadAt) (env : Env) (bs : List ℕ) (old new : Option Place) → AreEvents x y ≡ asks → IsBadIn x y ≡ bad → Judges (asks env bs) (bad env bs) old new
      → Judges (AreEvents x y env bs) (IsBadIn x y env bs) old new
  by_equations y asks bad env bs old new e f j =
      subst (λ (a : AskedOfTexts). Judges (a env bs) (IsBadIn x y env bs) old new) (sym e) (subst (λ (b : BadAt). Judges (asks env bs) (b env bs) old new) (sym f) j)

  pub act_judged : (place : Place) (e : EventText) (at : Standing) (old new : Option Place) → JudgesEvent x at.nodes at.scopes e place old new → JudgesTerm x (t.Act place e) at old new
  act_judged place e at old new j = record {
    judged = λ bs h. by_equations (t.Act place e) _ _ (env_of at.nodes) bs old new (sound_act x place e) (bad_act x place e)
        (as_well _ _ _ _ old new (event_same x (env_of at.nodes) at.scopes bs h e)
        (λ p b. ((λ g. b.0 (event_same x (env_of at.nodes) bs at.scopes (same_back at.scopes bs h) e g)), b.1))
        (λ p b. ((λ g. b.0 (event_same x (env_of at.nodes) at.scopes bs h e g)), b.1)) j);
  }

  pub seq_judged : (ts : List TermText) (at : Standing) (old new : Option Place) → JudgesTerms x ts at old new → JudgesTerm x (t.Seq ts) at old new
  seq_judged ts at old new j = record { judged = λ bs h. by_equations (t.Seq ts) _ _ (env_of at.nodes) bs old new (sound_seq x ts) (bad_seq x ts) (j.judged bs h) }

  pub par_judged : (ts : List TermText) (at : Standing) (old new : Option Place) → JudgesTerms x ts at old new → JudgesTerm x (t.Par ts) at old new
  par_judged ts at old new j = record { judged = λ bs h. by_equations (t.Par ts) _ _ (env_of at.nodes) bs old new (sound_par x ts) (bad_par x ts) (j.judged bs h) }

  pub at_judged : (place : Place) (node : ℕ) (buffers : List ℕ) (body : TermText) (at in_ : Standing) (old mid new : Option Place) → in_ ≡ record { nodes = inside_nodes x at.nodes node; scopes = at.scopes ++ buffers }
      → JudgesScope x at.nodes node buffers place old mid → JudgesTerm x body in_ mid new → JudgesTerm x (t.At place node buffers body) at old new
  at_judged place node buffers body at in_ old mid new e s j = record {
    judged = λ bs h.
        let k : JudgesTerm x body (record { nodes = inside_nodes x at.nodes node; scopes = at.scopes ++ buffers }) mid new = subst (λ i. JudgesTerm x body i mid new) e j in
        let l = k.judged (buffers ++ bs) (same_within at.scopes bs buffers h) in
        let m : Judges (AreEvents x body (inside x (env_of at.nodes) node) (buffers ++ bs)) (IsBadIn x body (inside x (env_of at.nodes) node) (buffers ++ bs)) mid new =
        subst (λ v. Judges (AreEvents x body v (buffers ++ bs)) (IsBadIn x body v (buffers ++ bs)) mid new) (sym (inside_is x at.nodes node)) l in
        by_equations (t.At place node buffers body) _ _ (env_of at.nodes) bs old new (sound_at x place node buffers body) (bad_at x place node buffers body)
        (and_then _ _ _ _ old mid new s m);
  }

  pub left_again : (at in_ out : Standing) (node : ℕ) (buffers : List ℕ) (depth count : ℕ) → in_ ≡ record { nodes = inside_nodes x at.nodes node; scopes = at.scopes ++ buffers }
      → depth ≡ length at.nodes → count ≡ length at.scopes → out ≡ record { nodes = take depth in_.nodes; scopes = take count in_.scopes } → out ≡ at
  left_again at in_ out node buffers depth count e d c o =
      o ∙ ap₂ (λ n s. record { nodes = n; scopes = s })
      (ap₂ (λ k (i : Standing). take k i.nodes) d e ∙ nodes_back (node == node_here at.nodes))
      (ap₂ (λ k (i : Standing). take k i.scopes) c e ∙ take_front at.scopes buffers)
    where
      take_front : (xs ys : List ℕ) → take (length xs) (xs ++ ys) ≡ xs
      take_front [] ys = refl
      take_front (z ∷ xs) ys = ap (λ l. z ∷ l) (take_front xs ys)

      take_whole : (xs : List ℕ) → take (length xs) xs ≡ xs
      take_whole [] = refl
      take_whole (z ∷ xs) = ap (λ l. z ∷ l) (take_whole xs)

      nodes_back : (b : Bool) → take (length at.nodes) (if b then at.nodes else at.nodes ++ first_or (node_at (nodes_of x) (node_here at.nodes)).first_child node ∷ []) ≡ at.nodes
      nodes_back true = take_whole at.nodes
      nodes_back false = take_front at.nodes _

  -- ---- several

  -- what is left of a list of terms
  pub record Rest (ts : List TermText) (turn : ℕ) (at : Standing) (old now : Option Place) : Type 0 where
    pub rest : (bs : List ℕ) → HaveSame at.scopes bs → (new : Option Place) → Judges (each_part (AreEvents x) (drop turn ts) (env_of at.nodes) bs) (some_part (IsBadIn x) (drop turn ts) (env_of at.nodes) bs) now new
        → Judges (each_part (AreEvents x) ts (env_of at.nodes) bs) (some_part (IsBadIn x) ts (env_of at.nodes) bs) old new

  pub rest_start : (ts : List TermText) (at : Standing) (old : Option Place) → Rest ts 0 at old old
  rest_start ts at old = record { rest = λ bs h new j. j }

  drop_next : (ts : List TermText) (i : ℕ) (y : TermText) → slice_get ts i ≡ Some y → drop i ts ≡ y ∷ drop (i + 1) ts
  drop_next [] i y e = cc
  drop_next (z ∷ ts) zero y e = let g : z ≡ y = cc in ap (λ w. w ∷ ts) g
  drop_next (z ∷ ts) (suc i) y e = let f : suc i + 1 ≡ suc (i + 1) = omega arith in drop_next ts i y e ∙ ap (λ l. y ∷ l) (sym (ap (λ n. drop n (z ∷ ts)) f))

  pub rest_more : (ts : List TermText) (i : ℕ) (y : TermText) (at : Standing) (old mid now : Option Place) → slice_get ts i ≡ Some y → Rest ts i at old mid → JudgesTerm x y at mid now → Rest ts (i + 1) at old now
  rest_more ts i y at old mid now e r j = record {
    rest = λ bs h new k. r.rest bs h new
        (subst (λ l. Judges (each_part (AreEvents x) l (env_of at.nodes) bs) (some_part (IsBadIn x) l (env_of at.nodes) bs) mid new) (sym (drop_next ts i y e))
        (and_then _ _ _ _ mid now new (j.judged bs h) k));
  }

  drop_past : (ts : List TermText) (i : ℕ) → length ts ≤ i → drop i ts ≡ []
  drop_past [] zero l = refl
  drop_past [] (suc i) l = refl
  drop_past (y ∷ ts) zero l = absurd (omega (arith, l))
  drop_past (y ∷ ts) (suc i) l = drop_past ts i (omega (arith, l))

  pub rest_end : (ts : List TermText) (i : ℕ) (at : Standing) (old now : Option Place) → length ts ≤ i → Rest ts i at old now → JudgesTerms x ts at old now
  rest_end ts i at old now l r = record {
    judged = λ bs h. r.rest bs h now
        (subst (λ l. Judges (each_part (AreEvents x) l (env_of at.nodes) bs) (some_part (IsBadIn x) l (env_of at.nodes) bs) now now) (sym (drop_past ts i l)) (nothing _ now (λ p b. b)));
  }

  -- ---- the whole

  pub first_bad : (at : Standing) (old found : Option Place) → at ≡ record { nodes = []; scopes = entry_of x } → old ≡ None → JudgesTerm x x.term at old found → IsFirstBad x found
  first_bad at old found e n j = by found (subst (λ v. Judges (AreEvents x x.term v (entry_of x)) (IsBadIn x x.term v (entry_of x)) None found) root_is (k.judged (entry_of x) (same_self (entry_of x))))
    where
      k : JudgesTerm x x.term (record { nodes = []; scopes = entry_of x }) None found
      k = subst (λ i. JudgesTerm x x.term i None found) e (subst (λ o. JudgesTerm x x.term at o found) n j)

      by : (o : Option Place) → Judges (AreEvents x x.term at_root (entry_of x)) (IsBadIn x x.term at_root (entry_of x)) None o → IsFirstBad x o
      by None j = (j.good refl).1
      by (Some p) j = (bad (j.bad p refl), λ q b. j.first q (inr b))
        where
          bad : (None ≡ Some p) ⊎ IsBadIn x x.term at_root (entry_of x) p → IsBadIn x x.term at_root (entry_of x) p
          bad (inl f) = cc
          bad (inr b) = b

-- ---- how calls end

pub on_ok : {A E : Type 0} (r : Result A E) (P Q : Type 0) → (P → Q) → OnOk r P → OnOk r Q
on_ok (Ok a) P Q f h = f h
on_ok (Err e) P Q f h = tt

pub there_at : (ts : List TermText) (i : ℕ) (y : TermText) → i < length ts → y ≡ get_or ts i y → slice_get ts i ≡ Some y
there_at [] i y l e = absurd (omega (arith, l))
there_at (z ∷ ts) zero y l e = ap Some (sym e)
there_at (z ∷ ts) (suc i) y l e = there_at ts i y (omega (arith, l)) e

module _ (x : PlanText) (term : TermText) (at : Standing) (old new : Option Place) {A E : Type 0} (r : Result A E) where
  pub seq_ends : (ts ps : List TermText) → term ≡ t.Seq ps → ts ≡ ps → OnOk r (JudgesTerms x ts at old new) → OnOk r (JudgesTerm x term at old new)
  seq_ends ts ps e f h = on_ok r _ _ (λ j. subst (λ y. JudgesTerm x y at old new) (sym (e ∙ ap t.Seq (sym f))) (seq_judged x ts at old new j)) h

  pub par_ends : (ts ps : List TermText) → term ≡ t.Par ps → ts ≡ ps → OnOk r (JudgesTerms x ts at old new) → OnOk r (JudgesTerm x term at old new)
  par_ends ts ps e f h = on_ok r _ _ (λ j. subst (λ y. JudgesTerm x y at old new) (sym (e ∙ ap t.Par (sym f))) (par_judged x ts at old new j)) h

  pub act_ends : (place : Place) (v : EventText) → term ≡ t.Act place v → OnOk r (JudgesEvent x at.nodes at.scopes v place old new) → OnOk r (JudgesTerm x term at old new)
  act_ends place v e h = on_ok r _ _ (λ j. subst (λ y. JudgesTerm x y at old new) (sym e) (act_judged x place v at old new j)) h

pub at_ends : (x : PlanText) (term : TermText) (at in_ : Standing) (old mid new : Option Place) (place : Place) (node : ℕ) (bs names : List ℕ) (body inner : TermText) → term ≡ t.At place node bs body → names ≡ bs → inner ≡ body
    → in_ ≡ record { nodes = inside_nodes x at.nodes node; scopes = at.scopes ++ names } → JudgesScope x at.nodes node names place old mid → JudgesTerm x inner in_ mid new → JudgesTerm x term at old new
at_ends x term at in_ old mid new place node bs names body inner e n b i s j =
    subst (λ y. JudgesTerm x y at old new) (sym (e ∙ ap₂ (λ l y. t.At place node l y) (sym n) (sym b))) (at_judged x place node names inner at in_ old mid new i s j)
