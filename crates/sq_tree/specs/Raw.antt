-- What is done to the memories of nodes, and what is seen of a bank over them.
use Rattle.std.specs.Prelude.{◌≡◌, ℕ, ◌*◌, List, length, take, drop, set, Option, Some, None, []}
use Rattle.sq_num.specs.Elements.{width}
use Rattle.sq_kern.specs.Rows.{reduced, count}
use Rattle.sq_ir.specs.Traffic.{no_counts}
use Rattle.sq_tree.specs.declared.rows.Way.{Way}
use Rattle.sq_tree.specs.declared.rows.Way.TheVariants.{Copy, Add}
use Rattle.sq_tree.specs.declared.raw.Opened.{Opened}
use Rattle.sq_tree.specs.declared.raw.RawBank.{RawBank}
use Rattle.sq_tree.specs.Bank.{BankSeen, bytes_at, put_at}

-- so many bytes from that place on
abbrev pub piece_at : ℕ → ℕ → List ℕ → List ℕ
piece_at at len bytes = take len (drop at bytes)

-- what becomes of a row to which another is taken in this way
abbrev pub taken : Way → (from into : List ℕ) → List ℕ
taken Copy from into = from
taken (Add op e) from into = reduced op e (count e (length into)) from into

-- so many bytes are whole elements
abbrev pub IsWhole : Way → ℕ → Type 0
IsWhole Copy n = Unit {0}
IsWhole (Add op e) n = width e * count e n ≡ n

-- the row of so many bytes at `to` after the row at `from` was taken to it
abbrev pub taken_to : Way → (from to len : ℕ) → (source target : List ℕ) → List ℕ
taken_to way from to len source target =
    put_at to (taken way (piece_at from len source) (piece_at to len target)) target

-- the same in the memories of nodes
abbrev pub taken_in : Way → (from_node from to_node to len : ℕ) → List (List ℕ) → List (List ℕ)
taken_in way m from n to len nodes = set nodes n (taken_to way from to len (bytes_at nodes m) (bytes_at nodes n))

-- a bank by how often it was opened, and what it holds since; it tells no events
abbrev pub opened_seen : ℕ → Option Opened → BankSeen
opened_seen openings None =
    record { openings = openings; plan = None; nodes = []; events = None; counts = no_counts; edges = [] }
opened_seen openings (Some o) =
    record {
      openings = openings;
      plan = Some o.plan.value;
      nodes = o.nodes.items;
      events = None;
      counts = o.counts;
      edges = o.edges.items;
    }

abbrev pub raw_seen : RawBank → BankSeen
raw_seen bank = opened_seen bank.openings bank.opened
