-- The scopes round an event of a tree.
use Rattle.std.specs.Prelude.{◌≡◌, ◌⊎◌, List, [], ◌∷◌}
use Rattle.std.specs.List.{Contains}
use Rattle.sq_ir.specs.Tree.{Tree, Skip, Act, Stuck, Seq, Par, Within, IsNormal}
use Rattle.sq_ir.specs.Unordered.{IsFresh}
use Rattle.sq_ir.specs.Scopes.{Turn, open_scopes, after_turns}

-- These are all scopes round one of the events, the outermost first: of `Within s (Seq (Act a) (Within t (Act b)))`
-- they are s, or s and t.
abbrev pub IsAround : {E S : Type 0} → Tree E S → List S → Type 0
IsAround Skip l = ⊥
IsAround (Act e) l = l ≡ []
IsAround (Stuck e) l = l ≡ []
IsAround (Seq a b) l = IsAround a l ⊎ IsAround b l
IsAround (Par a b) l = IsAround a l ⊎ IsAround b l
IsAround {E} {S} (Within s a) l = (x : List S) × IsAround a x × (l ≡ s ∷ x)

-- all of these are open in one state
pub record AreOpen {E S : Type 0} (t : Tree E S) (l : List S) : Type 0 where
  pub turns : List Turn
  pub open_ : (s : S) → Contains l s → Contains (open_scopes (after_turns t turns)) s

-- The scopes round an event are open together in some state.
abbrev pub ScopesOpen : (E S : Type 0) → Type 0
ScopesOpen E S = (t : Tree E S) → IsNormal t → IsFresh t → (l : List S) → IsAround t l → AreOpen t l
