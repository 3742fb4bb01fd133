-- A variable that becomes known goes last, so what was known before can be had back.
use Rattle.std.proofs.Common.{◌≡◌, ℕ, zero, suc, ℤ, pos, ◌+◌, ◌≤◌, ◌%◌, Bool, true, false, is_some, if◌then◌else◌, List, [], ◌∷◌, ◌++◌, length, take, refl, ◌∙◌, arith, length-append}
use Rattle.std.specs.Prelude.{slice_get}
use Rattle.std.specs.Map.{lookup}
use Rattle.std.proofs.lemmas.List.{take-append-le}
use Rattle.std.proofs.Math.Seq.{take-length}
use Rattle.sq_ast.specs.declared.stmt.Range.{Range}
use Rattle.sq_text.specs.Names.{Bytes, same_name}
use Rattle.sq_blocks.specs.Names.{Numbers}
use Rattle.sq_forms.specs.Stmts.{Turned, bind_variable, turned_from, in_iteration, count_or_none}

longer : (b : Bool) (numbers : Numbers) (name : Bytes) (n : ℤ) → length numbers ≤ length (if b then numbers else numbers ++ (name, n) ∷ [])
longer true numbers name n = omega arith
longer false numbers name n = omega (arith, length-append numbers ((name, n) ∷ []))

same_front : (b : Bool) (m : ℕ) (numbers : Numbers) (name : Bytes) (n : ℤ) → m ≤ length numbers → take m (if b then numbers else numbers ++ (name, n) ∷ []) ≡ take m numbers
same_front true m numbers name n h = refl
same_front false m numbers name n h = rw take-append-le refl

pub record Extends (m : ℕ) (old new : Numbers) : Type 0 where
  pub length : m ≤ length new
  pub front : take m new ≡ take m old

turned_extends : (m : ℕ) (old : Numbers) (name : Bytes) (n : ℕ) (t : Turned) → Extends m old t.numbers → Extends m old (bind_variable name n t).numbers
turned_extends m old name zero t h = h
turned_extends m old name (suc n) t h =
    let b = is_some (lookup (same_name name) t.numbers) in
    record {
      length = omega (arith, h.length, longer b t.numbers name (pos (t.left % suc n)));
      front = same_front b m t.numbers name (pos (t.left % suc n)) h.length ∙ h.front;
    }

all_extend : (m : ℕ) (ranges : List Range) (i : ℕ) (ns : List ℤ) (t : ℕ) (old : Numbers) → m ≤ length old → Extends m old (turned_from ranges i ns t old).numbers
all_extend m [] i ns t old h = record { length = h; front = refl }
all_extend m (r ∷ rs) i ns t old h = turned_extends m old r.name (count_or_none (slice_get ns i)) (turned_from rs (i + 1) ns t old) (all_extend m rs (i + 1) ns t old h)

-- what is known again once an iteration is left
pub left_behind : (ranges : List Range) (ns : List ℤ) (t outside : ℕ) (old new : Numbers) → outside ≡ length old → new ≡ in_iteration ranges ns t old → take outside new ≡ old
left_behind ranges ns t outside old new count is =
    (λ i. take (count i) (is i)) ∙ ((all_extend (length old) ranges 0 ns t old (omega arith)).front ∙ take-length old)
