-- Which forms may overlap their transfers: those whose calls stand each alone in a loop that can.
use Rattle.std.specs.Prelude.{◌≡◌, ℕ, Bool, true, false, ◌||◌, List, [], ◌∷◌, slice_get, Some}
use Rattle.sq_spec.specs.declared.statement.LoopKind.{LoopKind}
use Rattle.sq_spec.specs.declared.statement.LoopKind.TheVariants as loop_kind
use Rattle.sq_spec.specs.declared.statement.CallInstance.{CallInstance}
use Rattle.sq_spec.specs.declared.statement.Statement.{Statement}
use Rattle.sq_spec.specs.declared.statement.Statement.TheOpen.{Statement-F}
use Rattle.sq_spec.specs.declared.statement.Statement.TheFolds.{rec-Statement}
use Rattle.sq_spec.specs.declared.body.Body.{Body}
use Rattle.sq_spec.specs.declared.body.Body.TheVariants as body
use Rattle.sq_spec.specs.declared.body.FormBody.{FormBody}
use Rattle.sq_spec.specs.Spreads.{is_spread, lower_in, same_in}
use Rattle.sq_placed.specs.declared.home.Home.{Home}
use Rattle.sq_placed.specs.declared.home.Home.TheVariants.{InPlace, Own, Held, Twin}
use Rattle.sq_placed.specs.declared.home.Homes.{Homes}
use Rattle.sq_term_laws.specs.Orders.{EachOf}

-- ---- the homes of a form

-- of a form whose transfers overlap, or don't
abbrev pub IsSuited : (overlaps : Bool) → Home → Type 0
IsSuited overlaps InPlace = Unit {0}
IsSuited overlaps (Own b) = overlaps ≡ false
IsSuited overlaps (Held b loops) = Unit {0}
IsSuited overlaps (Twin b c) = overlaps ≡ true

-- ---- its calls

-- what is asked of a statement round which a spread map stands or doesn't, and which is all that stands in a loop that
-- can overlap its transfers or isn't
abbrev pub AskedInMaps : Type 1
AskedInMaps = (inside alone : Bool) → Type 0

abbrev pub each_in_maps : {X : Type 0} → (X → AskedInMaps) → List X → AskedInMaps
each_in_maps asked [] inside alone = Unit {0}
each_in_maps asked (x ∷ xs) inside alone = asked x inside alone × each_in_maps asked xs inside alone

abbrev pub any_by : {X : Type 0} → (X → Bool) → List X → Bool
any_by test [] = false
any_by test (x ∷ xs) = test x || any_by test xs

-- a `mapseq`, or a spread `mappar`, in which one statement stands
abbrev pub can_overlap : {X : Type 0} → LoopKind → (spread : Bool) → List X → Bool
can_overlap loop_kind.Sequential spread (x ∷ []) = true
can_overlap loop_kind.Parallel spread (x ∷ []) = spread
can_overlap m spread xs = false

-- Of a row of a call with these rows: if its form's transfers overlap, the call is a lower one, alone in such a loop,
-- and all rows have this form.
pub record RowOverlaps (homes : ℕ → Homes) (lower alone : Bool) (times : List CallInstance) (r : CallInstance) : Type 0
  where
    pub lower_is : (homes r.form).overlaps ≡ true → lower ≡ true
    pub alone_is : (homes r.form).overlaps ≡ true → alone ≡ true
    pub one : (homes r.form).overlaps ≡ true → (k : ℕ) (q : CallInstance) → slice_get times k ≡ Some q
        → q.form ≡ r.form

abbrev pub overlaps_step : (ℕ → Homes) → (X : Type 0) → (X → Statement) → (X → AskedInMaps) → Statement-F X
    → AskedInMaps
overlaps_step homes X begun asked (Statement-F.Call lower times) inside alone =
    EachOf (RowOverlaps homes lower alone times) times
overlaps_step homes X begun asked (Statement-F.Map place m counts starts parts) inside alone =
    let spread =
    is_spread m inside (any_by (λ x. lower_in (begun x)) parts) (any_by (λ x. same_in (begun x)) parts) in
    each_in_maps asked parts (inside || spread) (can_overlap m spread parts)

abbrev pub Overlaps : (ℕ → Homes) → Statement → AskedInMaps
Overlaps homes = rec-Statement AskedInMaps (overlaps_step homes)

abbrev pub BodyOverlaps : (ℕ → Homes) → Body → Type 0
BodyOverlaps homes (body.Leaf code) = Unit {0}
BodyOverlaps homes (body.Inner list) = each_in_maps (Overlaps homes) list false false

-- so it is of all forms; there is no loop round the entry
pub record OverlapsStand (bodies : ℕ → FormBody) (homes : ℕ → Homes) : Type 0 where
  pub entry : (homes 0).overlaps ≡ false
  pub params : (f : ℕ) → EachOf (IsSuited (homes f).overlaps) (homes f).params
  pub calls : (f : ℕ) → BodyOverlaps homes (bodies f).body
