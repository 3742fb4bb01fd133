-- Following a meaning step by step.
use Rattle.std.proofs.Common.{arith, ◌≡◌, ◌⊎◌, inl, inr, sym, subst, refl, ℕ, zero, suc, ◌<◌, ◌≤◌, List, Ok, Err}
use Rattle.std.proofs.lemmas.Bool.{cases_lt}
use Rattle.sq_rect.specs.declared.view.View.{View}
use Rattle.sq_leaf.specs.Source.{Arrays}
use Rattle.sq_leaf.specs.Views.{Shows}
use Rattle.sq_work.specs.Meaning.{Outcome, and_then, in_turn, with_turn}
use Rattle.sq_flat.specs.declared.form.End.{End}
use Rattle.sq_flat.specs.declared.form.End.TheVariants.{Trapped, NoMemory}
use Rattle.sq_flat.specs.Works.{Follows}

-- the state that a step ends in
pub record Reached (vs : List View) (bytes : List ℕ) (o : Outcome) : Type 0 where
  pub state : Arrays
  pub is : o ≡ Ok state
  pub shows : Shows vs bytes state

pub reached : (vs : List View) (bytes : List ℕ) (x : Unit {0}) (o : Outcome) → Follows vs bytes (Ok x) o → Reached vs bytes o
reached vs bytes x (Ok s) f = record { state = s; is = refl; shows = f }
reached vs bytes x (Err y) f = absurd f

-- what traps, traps whatever comes behind it
pub trapped_first : (vs : List View) (bytes : List ℕ) (end : End) (o : Outcome) (next : Arrays → Outcome) → Follows vs bytes (Err end) o → Follows vs bytes (Err end) (and_then o next)
trapped_first vs bytes NoMemory o next f = tt
trapped_first vs bytes (Trapped x) (Ok s) next f = absurd f
trapped_first vs bytes (Trapped x) (Err y) next f = f

-- the views don't matter to it
pub elsewhere : (vs us : List View) (old new : List ℕ) (end : End) (o : Outcome) → Follows vs old (Err end) o → Follows us new (Err end) o
elsewhere vs us old new NoMemory o f = tt
elsewhere vs us old new (Trapped x) (Ok s) f = absurd f
elsewhere vs us old new (Trapped x) (Err y) f = f

stays_by : (vs : List View) (bytes : List ℕ) (end : End) (f : ℕ → Arrays → Outcome) (a b : Arrays) (t n : ℕ) → t < suc n → in_turn t f a ≡ Ok b → Follows vs bytes (Err end) (with_turn t (f t b))
    → (t < n) ⊎ (n ≤ t) → (t < n → Follows vs bytes (Err end) (in_turn n f a)) → Follows vs bytes (Err end) (in_turn (suc n) f a)
stays_by vs bytes end f a b t n below before trapped (inl less) next = trapped_first vs bytes end (in_turn n f a) (λ before. with_turn n (f n before)) (next less)
stays_by vs bytes end f a b t n below before trapped (inr least) next =
    let same : t ≡ n = omega (arith, below, least) in
    subst (λ (m : ℕ). Follows vs bytes (Err end) (and_then (in_turn m f a) (λ before. with_turn m (f m before)))) same
    (subst (λ (o : Outcome). Follows vs bytes (Err end) (and_then o (λ before. with_turn t (f t before)))) (sym before) trapped)

-- an iteration that traps, after some that don't
pub trap_stays : (vs : List View) (bytes : List ℕ) (end : End) (f : ℕ → Arrays → Outcome) (a b : Arrays) (t n : ℕ) → t < n → in_turn t f a ≡ Ok b → Follows vs bytes (Err end) (with_turn t (f t b))
    → Follows vs bytes (Err end) (in_turn n f a)
trap_stays vs bytes end f a b t zero below before trapped = absurd (omega (arith, below))
trap_stays vs bytes end f a b t (suc n) below before trapped = stays_by vs bytes end f a b t n below before trapped (cases_lt t n) (λ less. trap_stays vs bytes end f a b t n less before trapped)
