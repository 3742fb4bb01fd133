-- Blocks of turns of a loop.
use Rattle.std.specs.Prelude.{◌≡◌, ℕ, suc, ◌+◌, ◌*◌, ◌<◌, ◌≤◌, Bool, true, false, List, [], ◌∷◌, ◌++◌, length, get_or, ℤ}
use Rattle.sq_num.specs.declared.Elem.{Elem}
use Rattle.sq_num.specs.Elements.{width}
use Rattle.sq_rect.specs.declared.view.View.{View}
use Rattle.sq_leaf.specs.Places.{reach}
use Rattle.sq_leaf.specs.Running.{Ran, Goes, repeats, ActionRun}
use Rattle.sq_turns.specs.declared.block.Write.{Write}
use Rattle.sq_turns.specs.declared.block.Block.{Block}

-- by what is known of an assignment no turn before turn j writes byte k there
pub data IsClearOf (w : Write) (j k : ℕ) : Type 0 where
  Below : k < w.low → IsClearOf w j k
  Above : w.high ≤ k → IsClearOf w j k
  Ahead : w.front + w.step * j ≤ k → IsClearOf w j k

abbrev pub AllClear : List Write → ℕ → ℕ → Type 0
AllClear [] j k = Unit
AllClear (w ∷ ws) j k = IsClearOf w j k × AllClear ws j k

-- by what is known of the block no turn before turn j writes byte k
pub record IsClear (t : Block) (j k : ℕ) : Type 0 where
  pub each : AllClear t.writes.items j k

-- the element of each of n turns from this byte on is written by no turn before it there
pub record AreClearOf (w : Write) (n : ℕ) (e : Elem) (s : ℕ → ℕ) : Type 0 where
  pub each : (j k : ℕ) → j < n → s j ≤ k → k < s j + width e → IsClearOf w j k

abbrev pub AreClearOfEach : List Write → ℕ → Elem → (ℕ → ℕ) → Type 0
AreClearOfEach [] n e s = Unit
AreClearOfEach (w ∷ ws) n e s = AreClearOf w n e s × AreClearOfEach ws n e s

-- the element of each turn from this byte on is written by no turn before it
pub record AreClear (t : Block) (e : Elem) (s : ℕ → ℕ) : Type 0 where
  pub each : (j k : ℕ) → j < t.turns → s j ≤ k → k < s j + width e → IsClear t j k

-- where turn j may put an element
pub record MayPut (w : Write) (e : Elem) (j at : ℕ) : Type 0 where
  pub low : w.low ≤ at
  pub high : at + width e ≤ w.high
  pub ahead : at + width e ≤ w.front + w.step * suc j

-- less is written
pub record IsNarrower (v w : Write) : Type 0 where
  pub low : v.low ≤ w.low
  pub high : w.high ≤ v.high

-- c may be what turn j meets, where the block began with b
pub record IsMet (t : Block) (j : ℕ) (b c : List ℕ) : Type 0 where
  pub size : length c ≡ length b
  pub same : (k : ℕ) → IsClear t j k → get_or c k 0 ≡ get_or b k 0

-- the byte behind the last element of a view
abbrev pub end_of : View → ℕ
end_of v = v.at + width v.elem * (reach v.extents v.strides + 1)

-- ---- loops

-- the turns of a loop with this body, or nothing
abbrev pub block_or_nothing : Bool → ℕ → ℤ → ActionRun → List View → List ℤ → List ℕ → Ran
block_or_nothing true n i f vs ks b = repeats n i (λ k. f vs (ks ++ k ∷ [])) b
block_or_nothing false n i f vs ks b = Goes b
