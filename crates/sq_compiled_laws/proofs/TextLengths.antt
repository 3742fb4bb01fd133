-- A text has no fewer bytes than lines of buffers.
use Rattle.std.proofs.Common.{◌≡◌, ℕ, suc, ◌+◌, ◌<◌, ◌≤◌, ◌^◌, List, [], ◌∷◌, ◌++◌, map, length, codes, decimal, refl, ap, arith, length-append, le_trans}
use Rattle.sq_text.specs.declared.code.Phase.TheVariants.{Plan as PlanPhase}
use Rattle.sq_lexer.specs.Faults.{FitsFile, most_plan_bytes}
use Rattle.sq_ast.specs.Canonical.{Spelling, all_of}
use Rattle.sq_ir.specs.declared.plan.Buffer.{Buffer}
use Rattle.sq_plantext.specs.declared.text.NodeLine.{NodeLine}
use Rattle.sq_plantext.specs.declared.text.BufferLine.{BufferLine}
use Rattle.sq_plantext.specs.declared.text.PlanText.{PlanText}
use Rattle.sq_plantext.specs.Layout.{field, spell_node, spell_buffer, spell_leaf, spell_array, spell_term, laid_out}
use Rattle.sq_planfile.specs.Written.{buffer_lines}

behind : (a b : List ℕ) → length b ≤ length (a ++ b)
behind a b = let e = length-append a b in omega (arith, e)

-- two parts, and a third
two : (a b c : List ℕ) → length c ≤ length (a ++ (b ++ c))
two a b c = le_trans (behind b c) (behind a (b ++ c))

field_grows : (n : ℕ) (later : List ℕ) → length later ≤ length (field n later)
field_grows n later = two (codes " ") (decimal n) later

more : (n : ℕ) → suc n ≤ suc (suc n)
more n = omega arith

ends : (later : List ℕ) → suc (length later) ≤ length (codes ";\n" ++ later)
ends later = more (length later)

node_grows : (n : NodeLine) (later : List ℕ) → suc (length later) ≤ length (spell_node n later)
node_grows n later =
    let a = codes ";\n" ++ later in
    let b = field n.children a in
    let c = field n.first_child b in
    let d = field n.capacity c in
    let e = field n.level d in
    le_trans (ends later) (le_trans (field_grows n.children a) (le_trans (field_grows n.first_child b)
    (le_trans (field_grows n.capacity c) (le_trans (field_grows n.level d) (behind (codes "node") e)))))

buffer_grows : (x : BufferLine) (later : List ℕ) → suc (length later) ≤ length (spell_buffer x later)
buffer_grows x later =
    let a = codes ";\n" ++ later in
    let b = codes " " ++ (x.array ++ a) in
    let c = codes " " ++ (x.instance ++ b) in
    let d = field x.size c in
    let e = field x.offset d in
    let f = field x.level e in
    le_trans (ends later) (le_trans (two (codes " ") x.array a) (le_trans (two (codes " ") x.instance b)
    (le_trans (field_grows x.size c) (le_trans (field_grows x.offset d) (le_trans (field_grows x.level e) (behind (codes "buffer") f))))))

all_grow : {X : Type 0} (f : X → Spelling) → ((x : X) (later : List ℕ) → suc (length later) ≤ length (f x later))
    → (xs : List X) (later : List ℕ) → length xs + length later ≤ length (all_of (map f xs) later)
all_grow f each [] later = omega arith
all_grow f each (x ∷ xs) later =
    let a = each x (all_of (map f xs) later) in
    let b = all_grow f each xs later in
    omega (arith, a, b)

buffers_short : (x : PlanText) → length x.buffers ≤ length (laid_out x)
buffers_short x =
    let rest = all_of (map spell_leaf x.leaves) (all_of (map spell_array x.arrays) (spell_term x.term [])) in
    let a = all_of (map spell_buffer x.buffers) rest in
    let b = all_of (map spell_node x.nodes) a in
    let f = all_grow spell_buffer buffer_grows x.buffers rest in
    let g = all_grow spell_node node_grows x.nodes a in
    let h = behind (codes "plan 1;\n") b in
    omega (arith, f, g, h)

fits : (text : List ℕ) → FitsFile PlanPhase text → length text < 2 ^ 63
unfolding most_plan_bytes
fits text h = omega (arith, h)

many_lines : (n : ℕ) (os : List ℕ) (bs : List Buffer) → length (buffer_lines n os bs) ≡ length bs
many_lines n os [] = refl
many_lines n os (b ∷ bs) = ap suc (many_lines (suc n) os bs)

pub few_buffers : (x : PlanText) (n : ℕ) (os : List ℕ) (bs : List Buffer) → x.buffers ≡ buffer_lines n os bs
    → FitsFile PlanPhase (laid_out x) → length bs < 2 ^ 63
few_buffers x n os bs is h =
    let a = buffers_short x in
    let b = fits (laid_out x) h in
    let c = ap length is in
    let d = many_lines n os bs in
    omega (arith, a, b, c, d)
