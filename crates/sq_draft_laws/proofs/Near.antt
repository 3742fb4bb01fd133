-- In tables that fit no lower call has a parameter in the caller's array.
use Rattle.std.proofs.Common.{◌≡◌, ℕ, zero, suc, ◌+◌, ◌<◌, Bool, List, [], ◌∷◌, length, get_or, slice_get, Some, refl}
use Rattle.std.proofs.Common.{subst, arith}
use Rattle.sq_ir.specs.Events.{Leaves}
use Rattle.sq_blocks.specs.declared.argument.Argument.{Argument}
use Rattle.sq_spec.specs.declared.statement.CallInstance.{CallInstance}
use Rattle.sq_spec.specs.declared.body.Body.{Body}
use Rattle.sq_spec.specs.declared.body.FormBody.{FormBody}
use Rattle.sq_homes.specs.SpecLaws.TableRows.{Table}
use Rattle.sq_placed.specs.declared.home.Home.TheVariants.{InPlace}
use Rattle.sq_placed.specs.declared.home.Homes.{Homes}
use Rattle.sq_cells.specs.Tree.{Cause}
use Rattle.sq_program_laws.specs.PlanLaws.Seated.{IsNear}
use Rattle.sq_program_laws.specs.Rows.{operator_of, RowFits, BodyFits}
use Rattle.sq_program_laws.proofs.Facts.{passed, passed_there}
use Rattle.sq_draft_laws.specs.Laws.{FormsAreNear}

there : (xs : List Argument) (k : ℕ) → k < length xs → (a : Argument) × (slice_get xs k ≡ Some a)
there [] k l = absurd (omega (arith, l))
there (x ∷ xs) zero l = (x, refl)
there (x ∷ xs) (suc k) l = there xs k (omega (arith, l))

near_row : (leaves : Leaves Cause) (bodies : ℕ → FormBody) (homes : ℕ → Homes) (mays : ℕ → ℕ → Bool) (f : ℕ) (t : Table)
    (r : CallInstance) → RowFits leaves bodies homes mays f t r → (k : ℕ) → k < length r.args
    → IsNear t.lower (get_or (homes r.form).params k InPlace)
near_row leaves bodies homes mays f t r fits k l =
    let a = there r.args k l in
    let e : 0 + k ≡ k = omega arith in
    subst (λ (z : ℕ). IsNear t.lower (get_or (homes r.form).params z InPlace)) e
    (fits.sits.near k
    (passed (operator_of t.red) (bodies r.form).arrays (homes r.form).params (0 + k) a.0)
    (passed_there (operator_of t.red) (bodies r.form).arrays (homes r.form).params 0 r.args k a.0 a.1))

pub forms_are_near : FormsAreNear
forms_are_near leaves bodies homes mays fit held overlaps stand = record {
  near = λ f list e i t g j r h k l.
      let list_fits = subst (λ (x : Body). BodyFits leaves bodies homes mays f x) e (fit f) in
      near_row leaves bodies homes mays f t r ((list_fits.tables i t g).rows j r h) k l;
  held = held;
  overlaps = overlaps;
  stand = stand;
}
