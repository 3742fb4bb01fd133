-- Tables and homes that are as asked where a loop overlaps its transfers: a `mapseq` of two lower calls, whose argument
-- has two buffers.
use Rattle.std.proofs.Common.{◌≡◌, ℕ, zero, suc, true, false, [], ◌∷◌, slice_get, Some, refl, sym, subst}
use Rattle.sq_text.specs.declared.place.Place.{Place}
use Rattle.sq_text.specs.declared.spread.SpreadRule.TheVariants.{Cyclic}
use Rattle.sq_spec.specs.declared.statement.LoopKind.TheVariants as loop_kind
use Rattle.sq_spec.specs.declared.statement.CallInstance.{CallInstance}
use Rattle.sq_spec.specs.declared.statement.Statement.{Statement}
use Rattle.sq_spec.specs.declared.statement.Statement.TheVariants as b
use Rattle.sq_spec.specs.declared.body.Body.TheVariants as body
use Rattle.sq_spec.specs.declared.body.FormBody.{FormBody}
use Rattle.sq_placed.specs.declared.home.Home.TheVariants.{Twin}
use Rattle.sq_placed.specs.declared.home.Homes.{Homes}
use Rattle.sq_term_laws.specs.Orders.{EachOf}
use Rattle.sq_term_laws.specs.Overlapping.{IsSuited, AskedInMaps, RowOverlaps, BodyOverlaps, OverlapsStand}
use Rattle.sq_term_laws.proofs.Overlaps.{overlaps_call, overlaps_map}

abbrev row : CallInstance
row = record { form = 1; args = [] }

abbrev call : Statement
call = b.Call true (row ∷ row ∷ [])

abbrev homes : ℕ → Homes
homes zero = record { rule = Cyclic; code = 0; params = []; locals = []; overlaps = false }
homes (suc f) = record { rule = Cyclic; code = 0; params = Twin 1 2 ∷ []; locals = []; overlaps = true }

abbrev bodies : Place → ℕ → FormBody
bodies place zero =
    record { arrays = []; body = body.Inner (b.Map place loop_kind.Sequential (2 ∷ []) (0 ∷ []) (call ∷ []) ∷ []) }
bodies place (suc f) = record { arrays = []; body = body.Inner [] }

row_is : (k : ℕ) (q : CallInstance) → slice_get (row ∷ row ∷ []) k ≡ Some q → q.form ≡ 1
row_is zero q e = let z : row ≡ q = cc e in subst (λ (x : CallInstance). x.form ≡ 1) z refl
row_is (suc zero) q e = let z : row ≡ q = cc e in subst (λ (x : CallInstance). x.form ≡ 1) z refl
row_is (suc (suc k)) q e = absurd (cc e)

overlaps : RowOverlaps homes true true (row ∷ row ∷ []) row
overlaps = record { lower_is = λ o. refl; alone_is = λ o. refl; one = λ o. row_is }

calls : (place : Place) (f : ℕ) → BodyOverlaps homes (bodies place f).body
calls place zero = (
  subst (λ (f : AskedInMaps). f false false)
      (sym (overlaps_map homes place loop_kind.Sequential (2 ∷ []) (0 ∷ []) (call ∷ []))) (
        subst (λ (f : AskedInMaps). f false true) (sym (overlaps_call homes true (row ∷ row ∷ [])))
            (overlaps, (overlaps, tt)),
        tt,
      ),
  tt,
)
calls place (suc f) = tt

params : (f : ℕ) → EachOf (IsSuited (homes f).overlaps) (homes f).params
params zero = tt
params (suc f) = (refl, tt)

all_stand : (place : Place) → OverlapsStand (bodies place) homes
all_stand place = record { entry = refl; params = params; calls = calls place }
