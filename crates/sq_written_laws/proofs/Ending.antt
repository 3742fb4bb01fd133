-- Trees that are alike end alike under the first order, and have the same unordered events.
use Rattle.std.proofs.Common.{◌≡◌, Bool, true, false, List, [], ◌∷◌, ◌++◌, refl, sym, ap, ◌∙◌, subst, append_assoc}
use Rattle.std.specs.Prelude.{if◌then◌else◌}
use Rattle.sq_ir.specs.Tree.{Tree, Skip, Act, Stuck, Seq, Par, Within}
use Rattle.sq_ir.specs.Runs.{Meaning, End, least, joined, beside, in_turn, exec}
use Rattle.sq_ir.specs.Unordered.{AllEvents, AllUnordered}
use Rattle.sq_ir.proofs.Least.{least_assoc}
use Rattle.sq_ir.proofs.Exec.{all-map}
use Rattle.sq_ir.specs.StateLaws.{AreOne}
use Rattle.sq_written_laws.specs.Alike.{seq_right, par_right, straight, AreAlike}
use Rattle.sq_written_laws.proofs.Straight.{and_assoc}

-- ---- how parts end

module _ {M C : Type 0} where
  joined_groups : (r s q : End M C) → joined (joined r s) q ≡ joined r (joined s q)
  joined_groups r s q =
      ap (λ v. record { bytes = q.bytes; finished = v; trap = least (least r.trap s.trap) q.trap }) (and_assoc r.finished s.finished q.finished)
      ∙ ap (λ t. record { bytes = q.bytes; finished = if r.finished then (if s.finished then q.finished else false) else false; trap = t }) (least_assoc r.trap s.trap q.trap)

  in_turn_groups : (r : End M C) (f g : M → End M C) → in_turn (in_turn r f) g ≡ in_turn r (λ x. in_turn (f x) g)
  in_turn_groups r f g = by r.finished refl
    where
      s : End M C
      s = f r.bytes

      both : (v : Bool) → (if v then joined (joined r s) (g s.bytes) else joined r s) ≡ joined r (if v then joined s (g s.bytes) else s)
      both true = joined_groups r s (g s.bytes)
      both false = refl

      by : (v : Bool) → r.finished ≡ v → in_turn (if v then joined r s else r) g ≡ (if v then joined r (in_turn s g) else r)
      by true e = ap (λ v. if (if v then s.finished else false) then joined (joined r s) (g s.bytes) else joined r s) e ∙ both s.finished
      by false e = ap (λ v. if v then joined r (g r.bytes) else r) e

  in_turn_same : (r : End M C) (f g : M → End M C) → ((x : M) → f x ≡ g x) → in_turn r f ≡ in_turn r g
  in_turn_same r f g h = by r.finished
    where
      by : (v : Bool) → (if v then joined r (f r.bytes) else r) ≡ (if v then joined r (g r.bytes) else r)
      by true = ap (joined r) (h r.bytes)
      by false = refl

module _ {E S M C : Type 0} (w : Meaning E M C) where
  seq_ends : (a b : Tree E S) (m : M) → exec w (seq_right a b) m ≡ in_turn (exec w a m) (λ x. exec w b x)
  seq_ends Skip b m = refl
  seq_ends (Act e) b m = refl
  seq_ends (Stuck e) b m = refl
  seq_ends (Seq x y) b m =
      in_turn_same (exec w x m) (λ z. exec w (seq_right y b) z) (λ z. in_turn (exec w y z) (λ z. exec w b z)) (λ z. seq_ends y b z)
      ∙ sym (in_turn_groups (exec w x m) (λ z. exec w y z) (λ z. exec w b z))
  seq_ends (Par x y) b m = refl
  seq_ends (Within s x) b m = refl

  par_ends : (a b : Tree E S) (m : M) → exec w (par_right a b) m ≡ beside (exec w a m) (λ x. exec w b x)
  par_ends Skip b m = refl
  par_ends (Act e) b m = refl
  par_ends (Stuck e) b m = refl
  par_ends (Seq x y) b m = refl
  par_ends (Par x y) b m =
      ap (joined (exec w x m)) (par_ends y b (exec w x m).bytes)
      ∙ sym (joined_groups (exec w x m) (exec w y (exec w x m).bytes) (exec w b (exec w y (exec w x m).bytes).bytes))
  par_ends (Within s x) b m = refl

  pub straight_ends : (t : Tree E S) (m : M) → exec w (straight t) m ≡ exec w t m
  straight_ends Skip m = refl
  straight_ends (Act e) m = refl
  straight_ends (Stuck e) m = refl
  straight_ends (Seq a b) m =
      seq_ends (straight a) (straight b) m ∙ ap (λ r. in_turn r (λ x. exec w (straight b) x)) (straight_ends a m)
      ∙ in_turn_same (exec w a m) (λ x. exec w (straight b) x) (λ x. exec w b x) (λ x. straight_ends b x)
  straight_ends (Par a b) m =
      par_ends (straight a) (straight b) m ∙ ap (λ r. beside r (λ x. exec w (straight b) x)) (straight_ends a m)
      ∙ ap (joined (exec w a m)) (straight_ends b (exec w a m).bytes)
  straight_ends (Within s a) m = straight_ends a m

  pub alike_ends : (t u : Tree E S) (m : M) → AreAlike t u → exec w t m ≡ exec w u m
  alike_ends t u m h = sym (straight_ends t m) ∙ ap (λ x. exec w x m) h ∙ straight_ends u m

-- ---- unordered events

module _ {E S : Type 0} where
  module _ (P : E → Type 0) where
    seq_all : (a b : Tree E S) → AreOne (AllEvents P (seq_right a b)) (AllEvents P a × AllEvents P b)
    seq_all Skip b = record { there = λ h. h; back = λ h. h }
    seq_all (Act e) b = record { there = λ h. h; back = λ h. h }
    seq_all (Stuck e) b = record { there = λ h. h; back = λ h. h }
    seq_all (Seq x y) b = let k = seq_all y b in record { there = λ h. ((h.0, (k.there h.1).0), (k.there h.1).1); back = λ h. (h.0.0, k.back (h.0.1, h.1)) }
    seq_all (Par x y) b = record { there = λ h. h; back = λ h. h }
    seq_all (Within s x) b = record { there = λ h. h; back = λ h. h }

    par_all : (a b : Tree E S) → AreOne (AllEvents P (par_right a b)) (AllEvents P a × AllEvents P b)
    par_all Skip b = record { there = λ h. h; back = λ h. h }
    par_all (Act e) b = record { there = λ h. h; back = λ h. h }
    par_all (Stuck e) b = record { there = λ h. h; back = λ h. h }
    par_all (Seq x y) b = record { there = λ h. h; back = λ h. h }
    par_all (Par x y) b = let k = par_all y b in record { there = λ h. ((h.0, (k.there h.1).0), (k.there h.1).1); back = λ h. (h.0.0, k.back (h.0.1, h.1)) }
    par_all (Within s x) b = record { there = λ h. h; back = λ h. h }

    pub straight_all : (t : Tree E S) → AreOne (AllEvents P (straight t)) (AllEvents P t)
    straight_all Skip = record { there = λ h. h; back = λ h. h }
    straight_all (Act e) = record { there = λ h. h; back = λ h. h }
    straight_all (Stuck e) = record { there = λ h. h; back = λ h. h }
    straight_all (Seq a b) =
        let k = seq_all (straight a) (straight b) in
        let x = straight_all a in
        let y = straight_all b in
        record { there = λ h. (x.there (k.there h).0, y.there (k.there h).1); back = λ h. k.back (x.back h.0, y.back h.1) }
    straight_all (Par a b) =
        let k = par_all (straight a) (straight b) in
        let x = straight_all a in
        let y = straight_all b in
        record { there = λ h. (x.there (k.there h).0, y.there (k.there h).1); back = λ h. k.back (x.back h.0, y.back h.1) }
    straight_all (Within s a) = straight_all a

  both_all : (P Q : E → Type 0) (t : Tree E S) → AllEvents P t → AllEvents Q t → AllEvents (λ e. P e × Q e) t
  both_all P Q Skip h k = tt
  both_all P Q (Act e) h k = (h, k)
  both_all P Q (Stuck e) h k = (h, k)
  both_all P Q (Seq a b) h k = (both_all P Q a h.0 k.0, both_all P Q b h.1 k.1)
  both_all P Q (Par a b) h k = (both_all P Q a h.0 k.0, both_all P Q b h.1 k.1)
  both_all P Q (Within s a) h k = both_all P Q a h k

  module _ (R : E → E → Type 0) where
    -- each event of the one beside each of the other
    abbrev Across : Tree E S → Tree E S → Type 0
    Across a b = AllEvents (λ e. AllEvents (R e) b) a

    seq_unordered : (a b : Tree E S) → AreOne (AllUnordered R (seq_right a b)) (AllUnordered R a × AllUnordered R b)
    seq_unordered Skip b = record { there = λ h. h; back = λ h. h }
    seq_unordered (Act e) b = record { there = λ h. h; back = λ h. h }
    seq_unordered (Stuck e) b = record { there = λ h. h; back = λ h. h }
    seq_unordered (Seq x y) b = let k = seq_unordered y b in record { there = λ h. ((h.0, (k.there h.1).0), (k.there h.1).1); back = λ h. (h.0.0, k.back (h.0.1, h.1)) }
    seq_unordered (Par x y) b = record { there = λ h. h; back = λ h. h }
    seq_unordered (Within s x) b = record { there = λ h. h; back = λ h. h }

    par_unordered : (a b : Tree E S) → AreOne (AllUnordered R (par_right a b)) (AllUnordered R a × AllUnordered R b × Across a b)
    par_unordered Skip b = record { there = λ h. h; back = λ h. h }
    par_unordered (Act e) b = record { there = λ h. h; back = λ h. h }
    par_unordered (Stuck e) b = record { there = λ h. h; back = λ h. h }
    par_unordered (Seq x y) b = record { there = λ h. h; back = λ h. h }
    par_unordered (Par x y) b =
        let k = par_unordered y b in
        record {
          there = λ h.
              let later = k.there h.1 in
              let across = all-map (λ e. AllEvents (R e) (par_right y b)) (λ e. AllEvents (R e) y × AllEvents (R e) b) x (λ e. (par_all (R e) y b).there) h.2 in (
                (h.0, later.0, all-map (λ e. AllEvents (R e) y × AllEvents (R e) b) (λ e. AllEvents (R e) y) x (λ e z. z.0) across),
                later.1,
                (all-map (λ e. AllEvents (R e) y × AllEvents (R e) b) (λ e. AllEvents (R e) b) x (λ e z. z.1) across, later.2),
              );
          back = λ h. (
            h.0.0,
            k.back (h.0.1, h.1, h.2.1),
            all-map (λ e. AllEvents (R e) y × AllEvents (R e) b) (λ e. AllEvents (R e) (par_right y b)) x (λ e. (par_all (R e) y b).back)
                (both_all (λ e. AllEvents (R e) y) (λ e. AllEvents (R e) b) x h.0.2 h.2.0),
          );
        }
    par_unordered (Within s x) b = record { there = λ h. h; back = λ h. h }

    straight_across : (a b : Tree E S) → AreOne (Across (straight a) (straight b)) (Across a b)
    straight_across a b = record {
      there = λ h. all-map (λ e. AllEvents (R e) (straight b)) (λ e. AllEvents (R e) b) a (λ e. (straight_all (R e) b).there) ((straight_all (λ e. AllEvents (R e) (straight b)) a).there h);
      back = λ h. (straight_all (λ e. AllEvents (R e) (straight b)) a).back (all-map (λ e. AllEvents (R e) b) (λ e. AllEvents (R e) (straight b)) a (λ e. (straight_all (R e) b).back) h);
    }

    pub straight_unordered : (t : Tree E S) → AreOne (AllUnordered R (straight t)) (AllUnordered R t)
    straight_unordered Skip = record { there = λ h. h; back = λ h. h }
    straight_unordered (Act e) = record { there = λ h. h; back = λ h. h }
    straight_unordered (Stuck e) = record { there = λ h. h; back = λ h. h }
    straight_unordered (Seq a b) =
        let k = seq_unordered (straight a) (straight b) in
        let x = straight_unordered a in
        let y = straight_unordered b in
        record { there = λ h. (x.there (k.there h).0, y.there (k.there h).1); back = λ h. k.back (x.back h.0, y.back h.1) }
    straight_unordered (Par a b) =
        let k = par_unordered (straight a) (straight b) in
        let x = straight_unordered a in
        let y = straight_unordered b in
        let z = straight_across a b in
        record { there = λ h. (x.there (k.there h).0, y.there (k.there h).1, z.there (k.there h).2); back = λ h. k.back (x.back h.0, y.back h.1, z.back h.2) }
    straight_unordered (Within s a) = straight_unordered a

    pub alike_unordered : (t u : Tree E S) → AreAlike t u → AllUnordered R t → AllUnordered R u
    alike_unordered t u h all = (straight_unordered u).there (subst (AllUnordered R) h ((straight_unordered t).back all))
