-- A part whose counts stay as they were: no frame of the whole has to be written.
use Rattle.std.proofs.Common.{◌≡◌, ℕ, ◌+◌, ◌*◌, ◌-◌, ◌<◌, ◌≢◌, Bool, true, false, List, [], ◌∷◌, length, map, Option, refl, sym, ap, ◌∙◌, subst, arith, inl}
use Rattle.std.specs.Prelude.{if◌then◌else◌, slice_set, nat_eq}
use Rattle.std.proofs.lemmas.Bool.{eqb-true, eqb-false}
use Rattle.std.proofs.lemmas.List.{set-get_or}
use Rattle.sq_ir.specs.Tree.{is_done, ready, rest_at, within}
use Rattle.sq_ir.specs.Scopes.{Scope}
use Rattle.sq_ir.specs.Events.{Event}
use Rattle.sq_ir.specs.declared.num.Num.{Num}
use Rattle.sq_ir.specs.declared.term.Term.{Term}
use Rattle.sq_ir.specs.declared.term.Term.TheVariants as t
use Rattle.sq_ir.specs.declared.plan.Plan.{Plan}
use Rattle.sq_ir.proofs.Normal.{ready-within, done-within, rest-within}
use Rattle.sq_text.specs.declared.spread.SpreadRule.{SpreadRule}
use Rattle.sq_sched.specs.declared.frame.Frame.{Frame}
use Rattle.sq_sched.specs.declared.frame.Mark.{Mark}
use Rattle.sq_sched.specs.Ends.{SameCounts}
use Rattle.sq_sched.specs.Shapes.{Shape, Run, Beside, Scoped, IsCounted, Fits, frame_in, IsKept, HasStepped, PartStands, written, rest_of, IsRight, part_rest, PartIsLive, live, unmarked, IsMarked}
use Rattle.sq_sched.specs.Words.{Env, value, node_here, children_at, count, first}
use Rattle.sq_term_nums.specs.Words.{nat_part}
use Rattle.sq_sched.specs.Forms.{has_arm, inside, most_frames, stop, frames, frames_at, total, before, scope_form, made, sizes_of, items_of, turns_of, InPart, InItems}
use Rattle.sq_sched.specs.Children as children
use Rattle.sq_sched.proofs.Strands.{ready-live, strand-ready, strand-done, if-true}
use Rattle.sq_sched.proofs.Sames.{written-normal, rest-normal, right-counted, mark-same}
use Rattle.sq_sched.proofs.Steps.{marked, items_stay, part_in, beside_step, others_kept, beside_into, run_into}
use Rattle.sq_sched.proofs.Made.{made-Seq, made-Par, made-Loop, made-Spread, made-Case, made-Within, times-next}
use Rattle.sq_sched.proofs.Begins.{par_fits, length_made, before_more}
use Rattle.sq_sched.proofs.Performs.{beside_counts, here, place_of, spread_fits}

-- ---- one active part

module _ {E S : Type 0} where
  pub run_quiet : (n : ℕ) (item : ℕ → Shape E S) (es fs : ℕ → Frame) (o k : ℕ) (v : Bool) → IsRight (Run n item) es o
      → k < ready (rest_of (Run n item) es o) → HasStepped (item (es o).at) es fs (o + 1) k v → fs o ≡ es o
      → SameCounts (es (o + 1)) (fs (o + 1)) → HasStepped (Run n item) es fs o k v
  run_quiet n item es fs o k v r h s kept same =
      let i = (es o).at in
      let x = run_into n item es o k r h in
      let inner = right-counted (item i) es (o + 1) x.1.right in
      let after = right-counted (item i) fs (o + 1) s.right in
      let busy = ready-live (rest_of (item i) es (o + 1)) k (rest-normal (item i) es (o + 1)) x.1.there in
      let going : is_done (rest_of (item i) fs (o + 1)) ≡ false = sym after.done ∙ same.done ∙ inner.done ∙ busy in
      let st = items_stay n i item es fs (o + 1) k v x.0 x.1.there s (λ m. going) in
      let l = r.1 x.0 in
      let now = rest_of (item i) fs (o + 1) in
      let old = rest_of (item i) es (o + 1) in
      let same_at : (fs o).at ≡ i = ap (λ f. f.at) kept in
      let was = strand-ready i n (λ u. written (item u)) old (λ u. written-normal (item u)) (rest-normal (item i) es (o + 1)) x.0 l.1 in
      let is = strand-ready i n (λ u. written (item u)) now (λ u. written-normal (item u)) (rest-normal (item i) fs (o + 1)) x.0 (λ m. going) in
      let was_done = strand-done i n (λ u. written (item u)) old x.0 l.1 in
      let is_done_now = strand-done i n (λ u. written (item u)) now x.0 (λ m. going) in
      let counted : IsCounted (fs o) (part_rest n item fs (o + 1) i) = record {
        ready = ap (λ f. f.ready) kept ∙ r.0.ready ∙ was ∙ sym inner.ready ∙ sym same.ready ∙ after.ready ∙ sym is;
        done = ap (λ f. f.done) kept ∙ r.0.done ∙ was_done ∙ sym inner.done ∙ sym same.done ∙ after.done ∙ sym is_done_now;
      } in
      record {
        rest = ap (λ j. part_rest n item fs (o + 1) j) same_at ∙ st.rest;
        right = subst (λ j. IsCounted (fs o) (part_rest n item fs (o + 1) j) × PartIsLive n item fs (o + 1) j) (sym same_at) (counted, st.live);
      }

  pub scoped_quiet : (sc : S) (b : Shape E S) (es fs : ℕ → Frame) (o k : ℕ) (v : Bool) → IsRight (Scoped sc b) es o
      → HasStepped b es fs (o + 1) k v → fs o ≡ es o → SameCounts (es (o + 1)) (fs (o + 1)) → HasStepped (Scoped sc b) es fs o k v
  scoped_quiet sc b es fs o k v r s kept same =
      let inner = right-counted b es (o + 1) r.1 in
      let after = right-counted b fs (o + 1) s.right in
      let old = rest_of b es (o + 1) in
      let now = rest_of b fs (o + 1) in
      let m = rest-normal b fs (o + 1) in
      record {
        rest = ap (within sc) s.rest ∙ sym (rest-within sc old k v (rest-normal b es (o + 1)));
        right = (
          record {
            ready = ap (λ f. f.ready) kept ∙ r.0.ready ∙ ready-within sc old (rest-normal b es (o + 1)) ∙ sym inner.ready ∙ sym same.ready ∙ after.ready ∙ sym (ready-within sc now m);
            done = ap (λ f. f.done) kept ∙ r.0.done ∙ done-within sc old ∙ sym inner.done ∙ sym same.done ∙ after.done ∙ sym (done-within sc now);
          },
          s.right,
        );
      }

pub scope_quiet : (node : ℕ) (bs : List ℕ) (f : Shape Event Scope) (es fs : ℕ → Frame) (o k : ℕ) (v : Bool) → IsRight (scope_form node bs f) es o
    → k < ready (rest_of (scope_form node bs f) es o) → HasStepped f es fs (o + 1) k v → fs o ≡ es o → SameCounts (es (o + 1)) (fs (o + 1))
    → HasStepped (scope_form node bs f) es fs o k v
scope_quiet node [] f es fs o k v r h s kept same = run_quiet 1 (λ t. f) es fs o k v r h s kept same
scope_quiet node (b ∷ bs) f es fs o k v r h s kept same = scoped_quiet (record { node = node; buffers = b ∷ bs }) f es fs o k v r s kept same

-- ---- parts beside one another

same_frame : (a u r : ℕ) (d : Bool) (m : Mark) (f : Frame) → a ≡ f.at → u ≡ f.turn → r ≡ f.ready → d ≡ f.done → m ≡ f.mark → marked a u r d m ≡ f
same_frame a u r d m f ea eu er ed em =
    ap (λ x. marked x u r d m) ea ∙ ap (λ x. marked f.at x r d m) eu ∙ ap (λ x. marked f.at f.turn x d m) er ∙ ap (λ x. marked f.at f.turn f.ready x m) ed
    ∙ ap (λ x. marked f.at f.turn f.ready f.done x) em

pub beside_quiet : (n : ℕ) (place steps : ℕ → ℕ) (item : ℕ → ℕ → Shape Event Scope) (es fs : List Frame) (o w k c j : ℕ) (v : Bool) → o < length fs
    → Fits (Beside n place steps item) w → IsRight (Beside n place steps item) (frame_in es) o → k < ready (rest_of (Beside n place steps item) (frame_in es) o)
    → InPart n place (frame_in es) o k c j → IsKept es fs (o + place c) (place (c + 1) - place c)
    → PartStands (steps c) (item c) (frame_in fs) (o + place c) (rest_at (part_rest (steps c) (item c) (frame_in es) (o + place c) (frame_in es (o + place c)).turn) j v)
    → SameCounts (frame_in es (o + place c)) (frame_in fs (o + place c)) → HasStepped (Beside n place steps item) (frame_in es) (frame_in fs) o k v
beside_quiet n place steps item es fs o w k c j v lo fit r h f kept new same =
    let p = o + place c in
    let form = Beside n place steps item in
    let gz = (fit.1 c f.part).0 in
    let whole : frame_in fs o ≡ frame_in es o = kept o (inl (omega (arith, gz))) in
    let q = beside_counts n place steps item (frame_in es) o w c fit r f.part in
    let into = (beside_into n place steps item (frame_in es) o c j k f.part f.there f.passed r).1 in
    let x = item c (frame_in es p).turn in
    let part = right-counted x (frame_in es) p into.right in
    let busy : (frame_in es p).done ≡ false = part.done ∙ ready-live (rest_of x (frame_in es) p) j (rest-normal x (frame_in es) p) into.there in
    let all : (frame_in es o).done ≡ false = r.0.done ∙ ready-live (rest_of form (frame_in es) o) k (rest-normal form (frame_in es) o) h in
    let one : live (frame_in es p).done ≡ 1 = ap live busy in
    let q2 = q.live in
    let sr = same.ready in
    let sl = ap live same.done in
    let g = frame_in es o in
    let others = others_kept n place steps item es fs o w c fit f.part kept in
    let readies : (i : ℕ) → i < n → (frame_in es (o + place i)).ready ≡ (frame_in fs (o + place i)).ready = λ i l. one_ready i l others (nat_eq i c) refl in
    let mark = mark-same n place (frame_in es) (frame_in fs) o g.mark readies r.3 in
    let s = beside_step n place steps item es fs o w c j k g.at (frame_in fs o).turn g.ready v g.done g.mark lo fit f.part f.there f.passed r kept new (omega (arith, sr)) (omega (arith, sl)) (λ z. absurd (omega (arith, z, one, q2))) (λ z. all) mark in
    let e : marked g.at (frame_in fs o).turn g.ready g.done g.mark ≡ frame_in fs o =
    same_frame g.at (frame_in fs o).turn g.ready g.done g.mark (frame_in fs o) (ap (λ y. y.at) (sym whole)) refl (ap (λ y. y.ready) (sym whole)) (ap (λ y. y.done) (sym whole)) (ap (λ y. y.mark) (sym whole)) in
    subst (λ gs. HasStepped form (frame_in es) (frame_in gs) o k v) (ap (slice_set fs o) e ∙ set-get_or fs o (record { at = 0; turn = 0; ready = 0; done = false; mark = unmarked })) s
  where
    one_ready : (i : ℕ) → i < n → ((i : ℕ) → i < n → i ≢ c → frame_in es (o + place i) ≡ frame_in fs (o + place i)) → (v : Bool) → nat_eq i c ≡ v
        → (frame_in es (o + place i)).ready ≡ (frame_in fs (o + place i)).ready
    one_ready i l others true e = subst (λ i. (frame_in es (o + place i)).ready ≡ (frame_in fs (o + place i)).ready) (sym (eqb-true i c e)) (sym same.ready)
    one_ready i l others false e = ap (λ g. g.ready) (others i l (eqb-false i c e))

-- ---- the forms of terms

module _ (plan : Plan) (env : Env) (o k : ℕ) (v : Bool) where
  pub seq_quiet : (ts : List Term) (es fs : ℕ → Frame) → IsRight ((made plan (t.Seq ts)).form env) es o
      → k < ready (rest_of ((made plan (t.Seq ts)).form env) es o) → HasStepped (items_of plan ts env (es o).at) es fs (o + 1) k v → fs o ≡ es o
      → SameCounts (es (o + 1)) (fs (o + 1)) → HasStepped ((made plan (t.Seq ts)).form env) es fs o k v
  seq_quiet ts es fs r h s kept same =
      let e = made-Seq plan ts in
      subst (λ m. HasStepped (m.form env) es fs o k v) (sym e) (run_quiet (length (map (made plan) ts)) (items_of plan ts env) es fs o k v (subst (λ m. IsRight (m.form env) es o) e r) (subst (λ m. k < ready (rest_of (m.form env) es o)) e h) s kept same)

  pub loop_quiet : (n : Num) (b : Term) (es fs : ℕ → Frame) → IsRight ((made plan (t.Loop n b)).form env) es o
      → k < ready (rest_of ((made plan (t.Loop n b)).form env) es o) → HasStepped (turns_of plan b env (es o).at) es fs (o + 1) k v → fs o ≡ es o
      → SameCounts (es (o + 1)) (fs (o + 1)) → HasStepped ((made plan (t.Loop n b)).form env) es fs o k v
  loop_quiet n b es fs r h s kept same =
      let e = made-Loop plan n b in
      subst (λ m. HasStepped (m.form env) es fs o k v) (sym e) (run_quiet (nat_part (value plan n env)) (turns_of plan b env) es fs o k v (subst (λ m. IsRight (m.form env) es o) e r) (subst (λ m. k < ready (rest_of (m.form env) es o)) e h) s kept same)

  pub within_quiet : (child : Option Num) (bs : List ℕ) (b : Term) (es fs : ℕ → Frame) → IsRight ((made plan (t.Within child bs b)).form env) es o
      → k < ready (rest_of ((made plan (t.Within child bs b)).form env) es o) → HasStepped ((made plan b).form (inside plan child env)) es fs (o + 1) k v
      → fs o ≡ es o → SameCounts (es (o + 1)) (fs (o + 1)) → HasStepped ((made plan (t.Within child bs b)).form env) es fs o k v
  within_quiet child bs b es fs r h s kept same =
      let e = made-Within plan child bs b in
      let inner = inside plan child env in
      subst (λ m. HasStepped (m.form env) es fs o k v) (sym e) (scope_quiet (node_here inner) bs ((made plan b).form inner) es fs o k v (subst (λ m. IsRight (m.form env) es o) e r) (subst (λ m. k < ready (rest_of (m.form env) es o)) e h) s kept same)

  pub case_quiet : (pick : Num) (ts : List Term) (i : ℕ) (es fs : ℕ → Frame) → i ≡ (if has_arm (value plan pick env) (length ts) then nat_part (value plan pick env) else length ts)
      → IsRight ((made plan (t.Case pick ts)).form env) es o → k < ready (rest_of ((made plan (t.Case pick ts)).form env) es o)
      → HasStepped (items_of plan ts env i) es fs (o + 1) k v → fs o ≡ es o → SameCounts (es (o + 1)) (fs (o + 1))
      → HasStepped ((made plan (t.Case pick ts)).form env) es fs o k v
  case_quiet pick ts i es fs ei r h s kept same =
      let z = value plan pick env in
      let e = made-Case plan pick ts in
      let n = length_made plan ts in
      let item : ℕ → Shape Event Scope = λ u. items_of plan ts env (nat_part z) in
      let m : ℕ = if has_arm z (length (map (made plan) ts)) then 1 else 0 in
      let r2 = subst (λ y. IsRight (y.form env) es o) e r in
      let h2 = subst (λ y. k < ready (rest_of (y.form env) es o)) e h in
      let x = run_into m item es o k r2 h2 in
      let a = arm (has_arm z (length (map (made plan) ts))) (es o).at x.0 in
      let b = subst (λ j. has_arm z j ≡ true) n a in
      let ii : i ≡ nat_part z = ei ∙ if-true (has_arm z (length ts)) (nat_part z) (length ts) b in
      let s2 = subst (λ j. HasStepped (items_of plan ts env j) es fs (o + 1) k v) ii s in
      subst (λ y. HasStepped (y.form env) es fs o k v) (sym e) (run_quiet m item es fs o k v r2 h2 s2 kept same)
    where
      arm : (w : Bool) (u : ℕ) → u < (if w then 1 else 0) → w ≡ true
      arm true u l = refl
      arm false u l = absurd (omega arith)

pub par_quiet : (plan : Plan) (env : Env) (ts : List Term) (es fs : List Frame) (o k c j : ℕ) (v : Bool) → o < length fs
    → stop (1 + total (sizes_of plan env.fans ts)) < most_frames → IsRight ((made plan (t.Par ts)).form env) (frame_in es) o
    → k < ready (rest_of ((made plan (t.Par ts)).form env) (frame_in es) o) → InItems (sizes_of plan env.fans ts) (frame_in es) o k c j → c < length ts
    → HasStepped (items_of plan ts env c) (frame_in es) (frame_in fs) (o + (1 + before (sizes_of plan env.fans ts) c)) j v
    → (frame_in fs (o + (1 + before (sizes_of plan env.fans ts) c))).turn ≡ (frame_in es (o + (1 + before (sizes_of plan env.fans ts) c))).turn
    → IsKept es fs (o + (1 + before (sizes_of plan env.fans ts) c)) (frames_at (sizes_of plan env.fans ts) c)
    → SameCounts (frame_in es (o + (1 + before (sizes_of plan env.fans ts) c))) (frame_in fs (o + (1 + before (sizes_of plan env.fans ts) c)))
    → HasStepped ((made plan (t.Par ts)).form env) (frame_in es) (frame_in fs) o k v
par_quiet plan env ts es fs o k c j v lo small r h f lt s turn kept same =
    let e = made-Par plan ts in
    let ms = map (made plan) ts in
    let ss = sizes_of plan env.fans ts in
    let n = length_made plan ts in
    let item : ℕ → ℕ → Shape Event Scope = λ c u. items_of plan ts env c in
    let place : ℕ → ℕ = λ c. 1 + before ss c in
    let p = o + place c in
    let r2 = subst (λ m. IsRight (m.form env) (frame_in es) o) e r in
    let h2 = subst (λ m. k < ready (rest_of (m.form env) (frame_in es) o)) e h in
    let f2 : InPart (length ms) place (frame_in es) o k c j = record { part = omega (arith, lt, n); there = f.there; passed = f.passed } in
    let into = beside_into (length ms) place (λ c. 1) item (frame_in es) o c j k f2.part f.there f.passed r2 in
    let b = before_more env.fans plan ts c lt in
    let d : place (c + 1) - place c ≡ frames_at ss c = omega (arith, b) in
    let t0 = (frame_in es p).turn in
    let tl = into.0 in
    let new = part_in 1 t0 (item c) (frame_in fs) p (rest_at (part_rest 1 (item c) (frame_in es) p t0) j v) tl turn (items_stay 1 t0 (item c) (frame_in es) (frame_in fs) p j v tl into.1.there s (λ l. absurd (omega arith))) in
    let kept2 = subst (λ x. IsKept es fs p x) (sym d) kept in
    subst (λ m. HasStepped (m.form env) (frame_in es) (frame_in fs) o k v) (sym e) (beside_quiet (length ms) place (λ c. 1) item es fs o (stop (1 + total ss)) k c j v lo (par_fits plan env ts small) r2 h2 f2 kept2 new same)

pub spread_quiet : (plan : Plan) (env : Env) (n : Num) (rule : SpreadRule) (b : Term) (es hs : List Frame) (o k c j : ℕ) (v : Bool) → o < length hs
    → stop (1 + stop (frames ((made plan b).sizes env.fans) * first env.fans)) < most_frames → IsRight ((made plan (t.Spread n rule b)).form env) (frame_in es) o
    → k < ready (rest_of ((made plan (t.Spread n rule b)).form env) (frame_in es) o) → InPart (children_at plan env) (place_of plan env n rule b) (frame_in es) o k c j
    → PartStands (count plan n env) (children.items (here plan env n rule b) (made plan b).form env c) (frame_in hs) (o + place_of plan env n rule b c) (rest_at (part_rest (count plan n env) (children.items (here plan env n rule b) (made plan b).form env c) (frame_in es) (o + place_of plan env n rule b c) (frame_in es (o + place_of plan env n rule b c)).turn) j v)
    → IsKept es hs (o + place_of plan env n rule b c) (frames ((made plan b).sizes env.fans))
    → SameCounts (frame_in es (o + place_of plan env n rule b c)) (frame_in hs (o + place_of plan env n rule b c))
    → HasStepped ((made plan (t.Spread n rule b)).form env) (frame_in es) (frame_in hs) o k v
spread_quiet plan env n rule b es hs o k c j v lo small r h f new kept same =
    let e = made-Spread plan n rule b in
    let x = here plan env n rule b in
    let place = place_of plan env n rule b in
    let p = o + place c in
    let nx = times-next c (frames ((made plan b).sizes env.fans)) in
    let d : frames ((made plan b).sizes env.fans) ≡ place (c + 1) - place c = omega (arith, nx) in
    subst (λ m. HasStepped (m.form env) (frame_in es) (frame_in hs) o k v) (sym e) (beside_quiet x.children place (λ c. x.turns) (children.items x (made plan b).form env) es hs o (stop (1 + stop (frames ((made plan b).sizes env.fans) * first env.fans))) k c j v lo (spread_fits plan env n rule b small) (subst (λ m. IsRight (m.form env) (frame_in es) o) e r) (subst (λ m. k < ready (rest_of (m.form env) (frame_in es) o)) e h) f (subst (λ z. IsKept es hs p z) d kept) new same)
