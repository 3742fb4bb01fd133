-- Acts of entries, one more at a time.
use Rattle.std.proofs.Common.{◌≡◌, ℕ, zero, suc, ◌+◌, ◌<◌, ◌⊎◌, inl, inr, List, [], ◌∷◌, ◌++◌, length, slice_get, Some, refl, sym, ap, subst, ◌∙◌, arith}
use Rattle.sq_ir.specs.DraftLeaves.{leaves_of}
use Rattle.sq_ir.specs.declared.plan.Plan.{Plan}
use Rattle.sq_touches.specs.Acts.{AreNear}
use Rattle.sq_touches.specs.ActLaws.{Shows}
use Rattle.sq_touches.specs.declared.act.Act.{Act}
use Rattle.sq_plan_check.specs.Walked.{seen_deed}
use Rattle.sq_plan_check.specs.Shown.{HaveWords}
use Rattle.sq_plan_check.specs.Acted.{AreActsTo, AreActs}
use Rattle.sq_plan_check.specs.declared.entry.Entry.{Entry}
use Rattle.sq_plan_check.proofs.Sweeping.{last_of, front_of, length_more, below_or}

inside : {X : Type 0} (xs : List X) (i : ℕ) (x : X) → slice_get xs i ≡ Some x → i < length xs
inside [] i x h = cc
inside (y ∷ xs) zero x h = omega arith
inside (y ∷ xs) (suc i) x h = let l = inside xs i x h in omega (arith, l)

one-item : {X : Type 0} (x y : X) → Some x ≡ Some y → x ≡ y
one-item x y h = cc

pub acts_none : (plan : Plan) (entries : List Entry) (acts : List Act) → acts ≡ [] → AreActsTo plan entries 0 acts
acts_none plan entries acts e = subst (AreActsTo plan entries 0) (sym e) (record { all = refl; shows = λ i a x h k. cc; near = λ i a x h k w. cc })

module _ (plan : Plan) (entries : List Entry) (n : ℕ) (acts : List Act) (new : List Act) (act : Act) (entry : Entry) (so_far : AreActsTo plan entries n acts) (at : slice_get entries n ≡ Some entry)
    (pushed : new ≡ acts ++ act ∷ []) (shown : Shows (leaves_of plan.draft) act (seen_deed entry.deed)) (near : HaveWords entry.deed → AreNear act.touches) where
  abbrev Which : ℕ → Act → Entry → Type 0
  Which i a e = (slice_get acts i ≡ Some a) ⊎ ((a ≡ act) × (e ≡ entry))

  which : (i : ℕ) (a : Act) (e : Entry) → slice_get new i ≡ Some a → slice_get entries i ≡ Some e → Which i a e
  which i a e h k = by (below_or i n (omega (arith, l, m, so_far.all)))
    where
      g : slice_get (acts ++ act ∷ []) i ≡ Some a
      g = sym (ap (λ l. slice_get l i) pushed) ∙ h

      l : i < length (acts ++ act ∷ [])
      l = inside (acts ++ act ∷ []) i a g

      m : length (acts ++ act ∷ []) ≡ suc (length acts)
      m = length_more acts act

      by : (i < n) ⊎ (i ≡ n) → Which i a e
      by (inl x) = inl (sym (front_of acts act i (omega (arith, x, so_far.all))) ∙ g)
      by (inr x) = inr (sym (last_of acts act a i g (omega (arith, x, so_far.all))), sym (one-item entry e (sym at ∙ ap (slice_get entries) (sym x) ∙ k)))

  pub acts_more : AreActsTo plan entries (n + 1) new
  acts_more = record {
    all = let m = length_more acts act in let e = ap length pushed in let z = so_far.all in omega (arith, m, e, z);
    shows = λ i a e h k. shows i a e k (which i a e h k);
    near = λ i a e h k w. nears i a e k w (which i a e h k);
  }
    where
      shows : (i : ℕ) (a : Act) (e : Entry) → slice_get entries i ≡ Some e → Which i a e → Shows (leaves_of plan.draft) a (seen_deed e.deed)
      shows i a e k (inl h) = so_far.shows i a e h k
      shows i a e k (inr p) = subst (λ z. Shows (leaves_of plan.draft) z (seen_deed e.deed)) (sym p.0) (subst (λ z. Shows (leaves_of plan.draft) act (seen_deed z.deed)) (sym p.1) shown)

      nears : (i : ℕ) (a : Act) (e : Entry) → slice_get entries i ≡ Some e → HaveWords e.deed → Which i a e → AreNear a.touches
      nears i a e k w (inl h) = so_far.near i a e h k w
      nears i a e k w (inr p) = subst (λ z. AreNear z.touches) (sym p.0) (near (subst (λ z. HaveWords z.deed) p.1 w))

pub acts_all : (plan : Plan) (entries : List Entry) (n : ℕ) (acts : List Act) → AreActsTo plan entries n acts → n ≡ length entries → AreActs plan entries acts
acts_all plan entries n acts h e = subst (λ m. AreActsTo plan entries m acts) e h
