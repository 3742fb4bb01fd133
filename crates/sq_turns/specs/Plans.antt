-- What the statements of a loop's body do at the turns of a block, and where they may write.
use Rattle.std.specs.Prelude.{◌≡◌, ℕ, zero, suc, ◌+◌, ◌<◌, ◌≤◌, List, [], ◌∷◌, length, Option, Some, None, ℤ, Ok, if◌then◌else◌}
use Rattle.std.specs.List.{All}
use Rattle.sq_num.specs.declared.Elem.{Elem}
use Rattle.sq_leaf.specs.declared.code.Code.{Code}
use Rattle.sq_leaf.specs.Numbers.{is_zero}
use Rattle.sq_leaf.specs.Running.{Goes, ActionRun, CellRun, once, run_code, run_each}
use Rattle.sq_turns.specs.declared.block.Write.{Write}
use Rattle.sq_turns.specs.declared.block.Block.{Block}
use Rattle.sq_deeds.specs.declared.rise.Rise.{Rise}
use Rattle.sq_turns.specs.declared.setting.Setting.{Setting}
use Rattle.sq_deeds.specs.declared.deeds.Put.{Put}
use Rattle.sq_deeds.specs.declared.deeds.Deed.{Deed}
use Rattle.sq_deeds.specs.declared.deeds.Deed.TheVariants.{Always, Choice}
use Rattle.sq_turns.specs.Blocks.{IsMet, MayPut}
use Rattle.sq_turns.specs.Settings.{AtTurns, at_turn}
use Rattle.sq_deeds.specs.Deeds.{byte_at, put_at_turn, put_or_not, done, all_done, PutFits, MayFit, DeedFits}

-- ---- writes that a turn has behind it

-- the same where the turn's own write is done
abbrev pub passed : Write → Write
passed w = record { low = w.low; high = w.high; front = w.front + w.step; step = w.step }

-- the first k are done
abbrev pub past : ℕ → List Write → List Write
past zero ws = ws
past (suc k) [] = []
past (suc k) (w ∷ ws) = passed w ∷ past k ws

abbrev pub block_past : Block → ℕ → Block
block_past t k = record { from = t.from; turns = t.turns; writes = record { items = past k t.writes.items } }

-- ---- statements

-- one list or the other, by the test
abbrev pub chooses : Code → List ActionRun → List ActionRun → ActionRun
chooses test taken other vs ks b = once (run_code test vs ks b) b (λ x. if is_zero x then run_each other vs ks b else run_each taken vs ks b)

-- this gives the element of this type that goes up so
pub record AimsAt (t : Setting) (f : CellRun) (e : Elem) (r : Rise) : Type 0 where
  pub each : AtTurns t (λ j c. at_turn f t j c ≡ Ok (record { elem = e; at = byte_at r j }))

-- n turns put their elements where this write has them
pub record StaysIn (w : Write) (n : ℕ) (e : Elem) (r : Rise) : Type 0 where
  pub each : (j : ℕ) → j < n → MayPut w e j (byte_at r j)

abbrev pub MayStay : Write → ℕ → Option Put → Type 0
MayStay w n (Some p) = StaysIn w n p.elem p.to
MayStay w n None = Unit

abbrev pub DeedStays : Write → Write → ℕ → Deed → Type 0
DeedStays v w n (Always p) = StaysIn v n p.elem p.to
DeedStays v w n (Choice x taken other) = MayStay v n taken × MayStay w n other

-- an assignment puts this, in this write, by numbers before a free one that is none of
-- the first
pub record IsPut (t : Setting) (w : Write) (f : ActionRun) (columns : List ℤ) (next free : ℕ) (p : Put) : Type 0 where
  pub turn : AtTurns t (λ j c. at_turn f t j c ≡ Goes (put_at_turn columns p j c))
  pub stays : StaysIn w t.block.now.turns p.elem p.to
  pub fits : PutFits t.block.now.turns free (length t.bytes.now) p
  pub after : next ≤ free
  pub within : free ≤ length columns

-- the same of at most one assignment
pub record IsBranch (t : Setting) (w : Write) (fs : List ActionRun) (columns : List ℤ) (next free : ℕ) (o : Option Put) : Type 0 where
  pub turn : AtTurns t (λ j c. at_turn (run_each fs) t j c ≡ Goes (put_or_not columns o j c))
  pub stays : MayStay w t.block.now.turns o
  pub fits : MayFit t.block.now.turns free (length t.bytes.now) o
  pub after : next ≤ free
  pub within : free ≤ length columns

-- the same of a statement
pub record IsDeed (t : Setting) (v w : Write) (f : ActionRun) (columns : List ℤ) (next free : ℕ) (d : Deed) : Type 0 where
  pub turn : AtTurns t (λ j c. at_turn f t j c ≡ Goes (done columns d j c))
  pub stays : DeedStays v w t.block.now.turns d
  pub fits : DeedFits t.block.now.turns free (length t.bytes.now) d
  pub after : next ≤ free
  pub within : free ≤ length columns

-- the same of the statement that has the writes k and k + 1, where those before it are done
pub record IsNext (t : Setting) (k : ℕ) (f : ActionRun) (columns : List ℤ) (next free : ℕ) (d : Deed) : Type 0 where
  pub turn : (j : ℕ) (c : List ℕ) → j < t.block.now.turns → IsMet (block_past t.block.now k) j t.bytes.now c → at_turn f t j c ≡ Goes (done columns d j c)
  pub met : (j : ℕ) (c : List ℕ) → j < t.block.now.turns → IsMet (block_past t.block.now k) j t.bytes.now c → IsMet (block_past t.block.now (k + 2)) j t.bytes.now (done columns d j c)
  pub fits : DeedFits t.block.now.turns free (length t.bytes.now) d
  pub after : next ≤ free
  pub within : free ≤ length columns

-- the same of statements one after another, which have the first k writes
pub record AreDeeds (t : Setting) (k : ℕ) (fs : List ActionRun) (columns : List ℤ) (free : ℕ) (ds : List Deed) : Type 0 where
  pub turn : AtTurns t (λ j c. at_turn (run_each fs) t j c ≡ Goes (all_done columns ds j c))
  pub met : AtTurns t (λ j c. IsMet (block_past t.block.now k) j t.bytes.now (all_done columns ds j c))
  pub fits : All (DeedFits t.block.now.turns free (length t.bytes.now)) ds
  pub within : free ≤ length columns
