-- Banks that are open stay so.
use Rattle.std.proofs.Common.{◌≡◌, ℕ, zero, suc, ◌+◌, ◌≤◌, List, [], ◌∷◌, ◌++◌, length, map, take, drop, replicate, length-append, length-take, length-drop, refl, ap, ap₂, ◌∙◌, arith}
use Rattle.sq_ir.specs.declared.plan.PlanNode.{PlanNode}
use Rattle.sq_tree.specs.Bank.{zeros, put_at, put_first, size_in}
use Rattle.sq_tree.specs.Prepared.{OpenedArePrepared, PutsKeepPrepared}

so-many : (n : ℕ) → length {A = ℕ} (replicate n 0) ≡ n
so-many zero = refl
so-many (suc n) = ap suc (so-many n)

sizes : (nodes : List PlanNode) → map length (zeros nodes) ≡ map (λ n. n.capacity) nodes
sizes [] = refl
sizes (n ∷ ns) = ap₂ (λ x xs. x ∷ xs) (so-many n.capacity) (sizes ns)

pub opened : OpenedArePrepared
opened p old now h = record { plan = h.plan; sizes = ap (map length) h.nodes ∙ sizes p.nodes }

put-size : (at : ℕ) (from bytes : List ℕ) → at + length from ≤ length bytes → length (put_at at from bytes) ≡ length bytes
put-size at from bytes h =
    let first = length-append (take at bytes) (from ++ drop (at + length from) bytes) in
    let second = length-append from (drop (at + length from) bytes) in
    let front = length-take at bytes in
    let back = length-drop (at + length from) bytes in
    omega (arith, h, first, second, front, back)

first-sizes : (at : ℕ) (from : List ℕ) (nodes : List (List ℕ)) → at + length from ≤ size_in nodes 0 → map length (put_first (put_at at from) nodes) ≡ map length nodes
first-sizes at from [] h = refl
first-sizes at from (bytes ∷ rest) h = ap (λ n. n ∷ map length rest) (put-size at from bytes h)

pub puts : PutsKeepPrepared
puts p at from old now h put is =
    record {
      plan = put.plan ∙ is.plan;
      sizes = ap (map length) put.nodes ∙ first-sizes at from old.nodes h ∙ is.sizes;
    }
