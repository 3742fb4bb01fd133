-- Where a walk goes down among parts beside one another, and what it leaves behind: what is known of it as one record.
use Rattle.std.proofs.Common.{◌≡◌, ℕ, ◌+◌, ◌*◌, ◌<◌, ◌≤◌, Bool, false, List, length, refl, sym, ap, ◌∙◌, subst, arith}
use Rattle.std.specs.Prelude.{slice_set}
use Rattle.sq_ir.specs.Tree.{ready, rest_at}
use Rattle.sq_ir.specs.declared.num.Num.{Num}
use Rattle.sq_ir.specs.declared.term.Term.{Term}
use Rattle.sq_ir.specs.declared.term.Term.TheVariants as t
use Rattle.sq_ir.specs.declared.plan.Plan.{Plan}
use Rattle.sq_text.specs.declared.spread.SpreadRule.{SpreadRule}
use Rattle.sq_sched.specs.declared.frame.Frame.{Frame}
use Rattle.sq_sched.specs.declared.frame.Mark.{Mark}
use Rattle.sq_sched.specs.declared.sizes.Sizes.{Sizes}
use Rattle.sq_sched.specs.Ends.{SameCounts}
use Rattle.sq_sched.specs.Shapes.{frame_in, IsKept, HasStepped, PartStands, rest_of, IsRight, part_rest, live}
use Rattle.sq_sched.specs.Words.{Env, count, children_at, first}
use Rattle.sq_sched.specs.Forms.{most_frames, stop, frames, frames_at, total, before, made, sizes_of, items_of, turns_of, tallied, mark_at, InPart, InItems}
use Rattle.sq_sched.specs.Children as children
use Rattle.sq_sched.specs.Children.{Moves}
use Rattle.sq_sched.proofs.Strands.{ready-live}
use Rattle.sq_sched.proofs.Sames.{rest-normal, right-counted}
use Rattle.sq_sched.proofs.Steps.{Into}
use Rattle.sq_sched.proofs.Made.{fan-at}
use Rattle.sq_sched.proofs.Begins.{child_room}
use Rattle.sq_sched.proofs.Performs.{Bounds, here, place_of, par_into, par_counts, par_steps, part_room, spread_into, spread_counts, spread_moved, spread_few, spread_steps}
use Rattle.sq_sched.proofs.Quiet.{par_quiet, spread_quiet}

-- ---- the counts of the whole, before a part's are counted anew

module _ (n w : ℕ) (es fs : List Frame) (o p : ℕ) (was : Frame) (counts : Bounds n w (frame_in es p) (frame_in es o)) (is : was ≡ frame_in es p) (whole : frame_in fs o ≡ frame_in es o) where
  pub tally_ready : was.ready ≤ (frame_in fs o).ready
  tally_ready = let a = ap (λ f. f.ready) is in let b = ap (λ f. f.ready) whole in let q = counts.ready in omega (arith, a, b, q)

  pub tally_number : live was.done ≤ (frame_in fs o).at
  tally_number = let a = ap (λ f. live f.done) is in let b = ap (λ f. f.at) whole in let q = counts.live in omega (arith, a, b, q)

  pub tally_few : (frame_in fs o).at ≤ n
  tally_few = let b = ap (λ f. f.at) whole in let q = counts.parts in omega (arith, b, q)

  pub tally_most : (frame_in fs o).ready ≤ w
  tally_most = let b = ap (λ f. f.ready) whole in let q = counts.few in omega (arith, b, q)

-- ---- parts of a list

-- event k of the whole is event j of this part, whose frames begin at p
pub record InPar (plan : Plan) (env : Env) (ts : List Term) (es : List Frame) (o k part j p : ℕ) : Type 0 where
  pub there : part < length ts
  pub found : InItems (sizes_of plan env.fans ts) (frame_in es) o k part j
  pub place : p ≡ o + (1 + before (sizes_of plan env.fans ts) part)
  pub into : Into (rest_of ((made plan (t.Par ts)).form env) (frame_in es) o) (rest_of (items_of plan ts env part) (frame_in es) p) k j (IsRight (items_of plan ts env part) (frame_in es) p)
  pub low : o < p
  pub room : p + frames_at (sizes_of plan env.fans ts) part ≤ o + stop (1 + total (sizes_of plan env.fans ts))
  pub small : stop (1 + total (sizes_of plan env.fans ts)) < most_frames
  pub counts : Bounds (length ts) (stop (1 + total (sizes_of plan env.fans ts))) (frame_in es p) (frame_in es o)

pub in_par : (plan : Plan) (env : Env) (ts : List Term) (ss : List Sizes) (es : List Frame) (o k part j p : ℕ) → ss ≡ sizes_of plan env.fans ts
    → stop (1 + total ss) < most_frames → IsRight ((made plan (t.Par ts)).form env) (frame_in es) o → InItems ss (frame_in es) o k part j
    → p ≡ o + (1 + before ss part) → InPar plan env ts es o k part j p
in_par plan env ts ss es o k part j p e small0 r found0 place0 =
    let sz = sizes_of plan env.fans ts in
    let tight = subst (λ ss. stop (1 + total ss) < most_frames) e small0 in
    let f = subst (λ ss. InItems ss (frame_in es) o k part j) e found0 in
    let x = par_into plan env o k ts (frame_in es) part j r f in
    let pl : p ≡ o + (1 + before sz part) = place0 ∙ ap (λ ss. o + (1 + before ss part)) e in
    let fit = part_room env.fans plan ts sz part refl x.0 tight in
    let q = par_counts plan env ts (frame_in es) o part r tight x.0 in
    record {
      there = x.0;
      found = f;
      place = pl;
      into = subst (λ z. Into (rest_of ((made plan (t.Par ts)).form env) (frame_in es) o) (rest_of (items_of plan ts env part) (frame_in es) z) k j (IsRight (items_of plan ts env part) (frame_in es) z)) (sym pl) x.1;
      low = omega (arith, pl);
      room = omega (arith, pl, fit);
      small = tight;
      counts = subst (λ z. Bounds (length ts) (stop (1 + total sz)) (frame_in es z) (frame_in es o)) (sym pl) q;
    }

module _ (plan : Plan) (env : Env) (ts : List Term) (es fs : List Frame) (o k part j p : ℕ) (v : Bool) (x : InPar plan env ts es o k part j p) (lo : o < length fs) (r : IsRight ((made plan (t.Par ts)).form env) (frame_in es) o) (s : HasStepped (items_of plan ts env part) (frame_in es) (frame_in fs) p j v) (same_turn : (frame_in fs p).turn ≡ (frame_in es p).turn) (kept : IsKept es fs p (frames_at (sizes_of plan env.fans ts) part)) where
  abbrev at_place : ℕ
  at_place = o + (1 + before (sizes_of plan env.fans ts) part)

  -- the part's counts are counted anew
  pub par_moves : (was : Frame) (mark : Mark) → was ≡ frame_in es p → mark ≡ mark_at o p k j part
      → HasStepped ((made plan (t.Par ts)).form env) (frame_in es) (frame_in (slice_set fs o (tallied fs o p was mark))) o k v
  par_moves was mark is at =
      let pl = x.place in
      let y = par_steps plan env ts es fs o k part j v lo x.small r x.found x.there (subst (λ z. HasStepped (items_of plan ts env part) (frame_in es) (frame_in fs) z j v) pl s) (subst (λ z. (frame_in fs z).turn ≡ (frame_in es z).turn) pl same_turn) (subst (λ z. IsKept es fs z (frames_at (sizes_of plan env.fans ts) part)) pl kept) in
      let e : tallied fs o p was mark ≡ tallied fs o at_place (frame_in es at_place) (mark_at o at_place k j part) =
      ap (λ z. tallied fs o z was mark) pl ∙ ap (λ z. tallied fs o at_place z mark) (is ∙ ap (frame_in es) pl) ∙ ap (tallied fs o at_place (frame_in es at_place)) (at ∙ ap (λ z. mark_at o z k j part) pl) in
      subst (λ f. HasStepped ((made plan (t.Par ts)).form env) (frame_in es) (frame_in (slice_set fs o f)) o k v) (sym e) y

  -- they are as they were
  pub par_stays : k < ready (rest_of ((made plan (t.Par ts)).form env) (frame_in es) o) → SameCounts (frame_in es p) (frame_in fs p)
      → HasStepped ((made plan (t.Par ts)).form env) (frame_in es) (frame_in fs) o k v
  par_stays h same =
      let pl = x.place in
      par_quiet plan env ts es fs o k part j v lo x.small r h x.found x.there (subst (λ z. HasStepped (items_of plan ts env part) (frame_in es) (frame_in fs) z j v) pl s) (subst (λ z. (frame_in fs z).turn ≡ (frame_in es z).turn) pl same_turn) (subst (λ z. IsKept es fs z (frames_at (sizes_of plan env.fans ts) part)) pl kept) (subst (λ z. SameCounts (frame_in es z) (frame_in fs z)) pl same)

-- ---- the children of a spread

-- event k of the spread is event j of the iteration that is active at this child, whose frames begin at p
pub record InSpread (plan : Plan) (env : Env) (n : Num) (rule : SpreadRule) (b : Term) (es : List Frame) (o k part j p : ℕ) : Type 0 where
  pub found : InPart (children_at plan env) (place_of plan env n rule b) (frame_in es) o k part j
  pub place : p ≡ o + place_of plan env n rule b part
  pub turn : (frame_in es p).turn < count plan n env
  pub into : Into (rest_of ((made plan (t.Spread n rule b)).form env) (frame_in es) o) (rest_of (turns_of plan b env (frame_in es p).turn) (frame_in es) p) k j (IsRight (turns_of plan b env (frame_in es p).turn) (frame_in es) p)
  pub low : o < p
  pub room : p + frames ((made plan b).sizes env.fans) ≤ o + stop (1 + stop (frames ((made plan b).sizes env.fans) * first env.fans))
  pub small : stop (1 + stop (frames ((made plan b).sizes env.fans) * first env.fans)) < most_frames
  pub counts : Bounds (children_at plan env) (stop (1 + stop (frames ((made plan b).sizes env.fans) * first env.fans))) (frame_in es p) (frame_in es o)

pub in_spread : (plan : Plan) (env : Env) (n : Num) (rule : SpreadRule) (b : Term) (ss : Sizes) (es : List Frame) (o k m part j p : ℕ)
    → ss ≡ (made plan b).sizes env.fans → m ≡ children_at plan env → stop (1 + stop (frames ss * first env.fans)) < most_frames
    → IsRight ((made plan (t.Spread n rule b)).form env) (frame_in es) o → InPart m (λ c. 1 + c * frames ss) (frame_in es) o k part j
    → p ≡ o + (1 + part * frames ss) → InSpread plan env n rule b es o k part j p
in_spread plan env n rule b ss es o k m part j p e em small0 r found0 place0 =
    let ev = ap frames e in
    let v = frames ((made plan b).sizes env.fans) in
    let at_place = place_of plan env n rule b in
    let tight = subst (λ z. stop (1 + stop (z * first env.fans)) < most_frames) ev small0 in
    let f = subst (λ x. InPart x at_place (frame_in es) o k part j) em (subst (λ z. InPart m (λ i. 1 + i * z) (frame_in es) o k part j) ev found0) in
    let pl : p ≡ o + at_place part = place0 ∙ ap (λ z. o + (1 + part * z)) ev in
    let x = spread_into plan env n rule b (frame_in es) o k part j r f in
    let fp = f.part in
    let fit = child_room v (children_at plan env) (first env.fans) part fp (fan-at plan env) tight in
    let q = spread_counts plan env n rule b (frame_in es) o part r tight fp in
    record {
      found = f;
      place = pl;
      turn = subst (λ z. (frame_in es z).turn < count plan n env) (sym pl) x.turn;
      into = subst (λ z. Into (rest_of ((made plan (t.Spread n rule b)).form env) (frame_in es) o) (rest_of (turns_of plan b env (frame_in es z).turn) (frame_in es) z) k j (IsRight (turns_of plan b env (frame_in es z).turn) (frame_in es) z)) (sym pl) x.into;
      low = omega (arith, pl);
      room = omega (arith, pl, fit);
      small = tight;
      counts = subst (λ z. Bounds (children_at plan env) (stop (1 + stop (v * first env.fans))) (frame_in es z) (frame_in es o)) (sym pl) q;
    }

module _ (plan : Plan) (env : Env) (n : Num) (rule : SpreadRule) (b : Term) (es : List Frame) (o k part j p : ℕ) (v : Bool) (x : InSpread plan env n rule b es o k part j p) (r : IsRight ((made plan (t.Spread n rule b)).form env) (frame_in es) o) where
  abbrev at_child : ℕ
  at_child = o + place_of plan env n rule b part

  -- the child has moved on: what it has is right
  abbrev pub ChildStands : (hs : List Frame) (q : ℕ) → Type 0
  ChildStands hs q =
      PartStands (count plan n env) (children.items (here plan env n rule b) (made plan b).form env part) (frame_in hs) q (rest_at (part_rest (count plan n env) (children.items (here plan env n rule b) (made plan b).form env part) (frame_in es) q (frame_in es q).turn) j v)

  pub child_moves : (fs hs : List Frame) → HasStepped (turns_of plan b env (frame_in es p).turn) (frame_in es) (frame_in fs) p j v
      → (frame_in fs p).turn ≡ (frame_in es p).turn
      → Moves (count plan n env) (children.items (here plan env n rule b) (made plan b).form env part) fs hs p (frame_in es p).turn → ChildStands hs p
  child_moves fs hs =
      subst (λ z. HasStepped (turns_of plan b env (frame_in es z).turn) (frame_in es) (frame_in fs) z j v → (frame_in fs z).turn ≡ (frame_in es z).turn
      → Moves (count plan n env) (children.items (here plan env n rule b) (made plan b).form env part) fs hs z (frame_in es z).turn → ChildStands hs z) (sym x.place) (λ s same_turn g. spread_moved plan env n rule b es fs hs o k part j v r x.found s same_turn g)

  pub child_stays : (fs : List Frame) → HasStepped (turns_of plan b env (frame_in es p).turn) (frame_in es) (frame_in fs) p j v
      → (frame_in fs p).turn ≡ (frame_in es p).turn → SameCounts (frame_in es p) (frame_in fs p) → ChildStands fs p
  child_stays fs s same_turn same =
      let y = turns_of plan b env (frame_in es p).turn in
      let c = right-counted y (frame_in es) p x.into.right in
      let busy = ready-live (rest_of y (frame_in es) p) j (rest-normal y (frame_in es) p) x.into.there in
      let going : (frame_in fs p).done ≡ false = same.done ∙ c.done ∙ busy in
      let g : Moves (count plan n env) (children.items (here plan env n rule b) (made plan b).form env part) fs fs p (frame_in es p).turn =
      record { stays = λ d. refl; moves = λ d. let z = sym going ∙ d in absurd (cc) } in
      child_moves fs fs s same_turn g

  -- it has no more ready events than frames
  pub child_few : (hs : List Frame) → ChildStands hs p → (frame_in hs p).ready ≤ frames ((made plan b).sizes env.fans)
  child_few hs =
      subst (λ z. ChildStands hs z → (frame_in hs z).ready ≤ frames ((made plan b).sizes env.fans)) (sym x.place) (λ new. spread_few plan env n rule b (frame_in hs) o part _ x.small x.found.part new)

  pub spread_moves : (hs : List Frame) → o < length hs → ChildStands hs p → IsKept es hs p (frames ((made plan b).sizes env.fans)) → (was : Frame) (mark : Mark)
      → was ≡ frame_in es p → mark ≡ mark_at o p k j part → HasStepped ((made plan (t.Spread n rule b)).form env) (frame_in es) (frame_in (slice_set hs o (tallied hs o p was mark))) o k v
  spread_moves hs lo new kept was mark is at =
      let pl = x.place in
      let y = spread_steps plan env n rule b es hs o k part j v lo x.small r x.found (subst (λ z. ChildStands hs z) pl new) (subst (λ z. IsKept es hs z (frames ((made plan b).sizes env.fans))) pl kept) in
      let e : tallied hs o p was mark ≡ tallied hs o at_child (frame_in es at_child) (mark_at o at_child k j part) =
      ap (λ z. tallied hs o z was mark) pl ∙ ap (λ z. tallied hs o at_child z mark) (is ∙ ap (frame_in es) pl) ∙ ap (tallied hs o at_child (frame_in es at_child)) (at ∙ ap (λ z. mark_at o z k j part) pl) in
      subst (λ f. HasStepped ((made plan (t.Spread n rule b)).form env) (frame_in es) (frame_in (slice_set hs o f)) o k v) (sym e) y

  pub spread_stays : (hs : List Frame) → o < length hs → ChildStands hs p → IsKept es hs p (frames ((made plan b).sizes env.fans))
      → k < ready (rest_of ((made plan (t.Spread n rule b)).form env) (frame_in es) o) → SameCounts (frame_in es p) (frame_in hs p)
      → HasStepped ((made plan (t.Spread n rule b)).form env) (frame_in es) (frame_in hs) o k v
  spread_stays hs lo new kept h same =
      let pl = x.place in
      spread_quiet plan env n rule b es hs o k part j v lo x.small r h x.found (subst (λ z. ChildStands hs z) pl new) (subst (λ z. IsKept es hs z (frames ((made plan b).sizes env.fans))) pl kept) (subst (λ z. SameCounts (frame_in es z) (frame_in hs z)) pl same)
