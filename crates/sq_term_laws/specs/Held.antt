-- Which homes of a form's parameters may leave loops: those of a lower call that is all that stands in so many loops.
use Rattle.std.specs.Prelude.{◌≡◌, ℕ, ◌<◌, ◌≤◌, get_or, slice_get, Some}
use Rattle.sq_spec.specs.declared.statement.CallInstance.{CallInstance}
use Rattle.sq_spec.specs.declared.body.FormBody.{FormBody}
use Rattle.sq_placed.specs.declared.home.Home.TheVariants.{InPlace, Held}
use Rattle.sq_placed.specs.declared.home.Homes.{Homes}
use Rattle.sq_term_laws.specs.Orders.{EachOf, Round, rounds_of}

-- a parameter that leaves loops leaves one at least and no more than stand round the call, which has one form
pub record IsHeldRow (homes : ℕ → Homes) (q : Round) (r : CallInstance) : Type 0 where
  pub some : (i b n : ℕ) → get_or (homes r.form).params i InPlace ≡ Held b n → 0 < n
  pub round : (i b n : ℕ) → get_or (homes r.form).params i InPlace ≡ Held b n → n ≤ q.loops
  pub one : (i b n : ℕ) → get_or (homes r.form).params i InPlace ≡ Held b n
      → (j : ℕ) (x : CallInstance) → slice_get q.rows j ≡ Some x → x.form ≡ r.form

abbrev pub AreHeldRows : (ℕ → Homes) → Round → Type 0
AreHeldRows homes q = EachOf (IsHeldRow homes q) q.rows

abbrev pub AreHeldInside : (ℕ → FormBody) → (ℕ → Homes) → Type 0
AreHeldInside bodies homes = (f : ℕ) → EachOf (AreHeldRows homes) (rounds_of (bodies f).body)
