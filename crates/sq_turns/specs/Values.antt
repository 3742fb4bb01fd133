-- What an expression gives at the turns of a block.
use Rattle.std.specs.Prelude.{◌≡◌, ℕ, ◌≤◌, Bool, true, false, List, ◌++◌, [], ◌∷◌, length, Ok, ℤ}
use Rattle.std.specs.List.{All}
use Rattle.sq_ast.specs.declared.expr.UnOp.{UnOp}
use Rattle.sq_columns.specs.declared.line.Line.{Line}
use Rattle.sq_columns.specs.Lines.{line_at}
use Rattle.sq_leaf.specs.Numbers.{unary}
use Rattle.sq_leaf.specs.Outcome.{and_then}
use Rattle.sq_leaf.specs.Spots.{load}
use Rattle.sq_leaf.specs.Running.{CodeRun, StepRun}
use Rattle.sq_turns.specs.declared.setting.Setting.{Setting}
use Rattle.sq_deeds.specs.declared.deeds.Numbers.{Numbers}
use Rattle.sq_deeds.specs.declared.deeds.Link.{Link}
use Rattle.sq_deeds.specs.declared.deeds.Link.TheVariants.{Least, Most}
use Rattle.sq_deeds.specs.declared.deeds.Value.{Value}
use Rattle.sq_turns.specs.declared.values.Hole.{Hole}
use Rattle.sq_turns.specs.Settings.{AtTurns, at_turn, extreme_of}
use Rattle.sq_deeds.specs.Deeds.{number_at, byte_at, along_links, value_at, IsRoomy, LinkFits}

-- this gives the number
pub record AreNumbers (t : Setting) (f : CodeRun) (columns : List ℤ) (x : Numbers) : Type 0 where
  pub each : AtTurns t (λ j c. at_turn f t j c ≡ Ok (number_at columns x j))

-- the same of a value, which may look at what the turn meets
pub record IsValue (t : Setting) (f : CodeRun) (columns : List ℤ) (v : Value) : Type 0 where
  pub each : AtTurns t (λ j c. at_turn f t j c ≡ Ok (value_at columns v j c))

-- ---- paths: an element that a turn reads as it meets it, and the operators behind it

abbrev pub path_at : List ℤ → Hole → List Link → ℕ → List ℕ → ℤ
path_at columns h links j c = along_links columns links j (load (record { elem = h.elem; at = byte_at h.read j }) c)

-- this gives what the path leads to
pub record IsCarried (t : Setting) (f : CodeRun) (columns : List ℤ) (h : Hole) (links : List Link) : Type 0 where
  pub each : AtTurns t (λ j c. at_turn f t j c ≡ Ok (path_at columns h links j c))

-- f of what the first path leads to is what g gives of the second's
pub record Leads (t : Setting) (f g : StepRun) (columns : List ℤ) (h : Hole) (links : List Link) (before : List ℤ) (first : Hole) (few : List Link) : Type 0 where
  pub each : AtTurns t (λ j c. at_turn f t j c (path_at columns h links j c) ≡ at_turn g t j c (path_at before first few j c))

-- f of what the path leads to is what g gives of the line's number
pub record Starts (t : Setting) (f g : StepRun) (columns : List ℤ) (h : Hole) (links : List Link) (x : Line) (xs : List ℤ) : Type 0 where
  pub each : AtTurns t (λ j c. at_turn f t j c (path_at columns h links j c) ≡ at_turn g t j c (line_at x xs j))

-- the elements lie in the memory, and the numbers of the operators in the columns before a free one, which
-- is none of the first
pub record IsPath (t : Setting) (next : ℕ) (columns : List ℤ) (h : Hole) (links : List Link) : Type 0 where
  pub room : IsRoomy t.block.now.turns (length t.bytes.now) h.elem h.read
  pub fit : All (LinkFits h.free) links
  pub after : next ≤ h.free
  pub within : h.free ≤ length columns

-- the same element with one more operator behind the path, whose number lies in columns of so many numbers
pub record IsLonger (size : ℕ) (l : Link) (h : Hole) (links : List Link) (new : Hole) (more : List Link) : Type 0 where
  pub elem : new.elem ≡ h.elem
  pub read : new.read ≡ h.read
  pub items : more ≡ links ++ l ∷ []
  pub before : h.free ≤ new.free
  pub fits : LinkFits new.free l
  pub within : new.free ≤ size

abbrev pub extreme_link : Bool → Numbers → Link
extreme_link true y = Most y
extreme_link false y = Least y

-- an operator of one side
abbrev pub unary_of : UnOp → StepRun
unary_of op vs ks c x = Ok (unary op x)

-- the lesser or the greater of two numbers that are read
abbrev pub extreme_read : Bool → CodeRun → CodeRun → CodeRun
extreme_read most f g vs ks c = and_then (f vs ks c) (extreme_of most g vs ks c)
