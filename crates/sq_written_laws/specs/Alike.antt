-- Trees that are the same but for how their parts are grouped.
use Rattle.std.specs.Prelude.{◌≡◌, ℕ, Bool, Option, List}
use Rattle.sq_ir.specs.Tree.{Tree, Skip, Act, Stuck, Seq, Par, Within, ready, event_at, IsNormal}
use Rattle.sq_ir.specs.Scopes.{Turn, open_scopes, after_turns}

-- `Seq a b` and `Par a b`, where a is grouped to the right, grouped to the right
abbrev pub seq_right : {E S : Type 0} → Tree E S → Tree E S → Tree E S
seq_right Skip b = Seq Skip b
seq_right (Act e) b = Seq (Act e) b
seq_right (Stuck e) b = Seq (Stuck e) b
seq_right (Seq x y) b = Seq x (seq_right y b)
seq_right (Par x y) b = Seq (Par x y) b
seq_right (Within s x) b = Seq (Within s x) b

abbrev pub par_right : {E S : Type 0} → Tree E S → Tree E S → Tree E S
par_right Skip b = Par Skip b
par_right (Act e) b = Par (Act e) b
par_right (Stuck e) b = Par (Stuck e) b
par_right (Seq x y) b = Par (Seq x y) b
par_right (Par x y) b = Par x (par_right y b)
par_right (Within s x) b = Par (Within s x) b

-- the tree with all sequences, and all parts beside one another, grouped to the right
-- of `Seq (Seq a b) c` it is `Seq a (Seq b c)`
abbrev pub straight : {E S : Type 0} → Tree E S → Tree E S
straight Skip = Skip
straight (Act e) = Act e
straight (Stuck e) = Stuck e
straight (Seq a b) = seq_right (straight a) (straight b)
straight (Par a b) = par_right (straight a) (straight b)
straight (Within s a) = Within s (straight a)

-- two trees are the same but for how their parts are grouped
abbrev pub AreAlike : {E S : Type 0} → Tree E S → Tree E S → Type 0
AreAlike t u = straight t ≡ straight u

-- after the same turns the same events are ready, under the same numbers, and the same scopes are open
pub record RunAlike {E S : Type 0} (t u : Tree E S) (turns : List Turn) : Type 0 where
  pub ready_ : ready (after_turns t turns) ≡ ready (after_turns u turns)
  pub event_ : (k : ℕ) → event_at (after_turns t turns) k ≡ event_at (after_turns u turns) k
  pub scopes : open_scopes (after_turns t turns) ≡ open_scopes (after_turns u turns)

-- trees that are alike run alike
abbrev pub AlikeRunAlike : (E S : Type 0) → Type 0
AlikeRunAlike E S = (t u : Tree E S) → IsNormal t → IsNormal u → AreAlike t u → (turns : List Turn) → RunAlike t u turns
