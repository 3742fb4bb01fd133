-- A leaf's line tells its numbers, each with its name, in their order.
use Rattle.std.proofs.Common.{◌≡◌, Bool, true, false, cond, ℤ, Some, List, [], ◌∷◌, map, refl, sym, ap, ap₂, ◌∙◌}
use Rattle.std.proofs.Common.{subst}
use Rattle.std.specs.List.{Contains}
use Rattle.std.specs.Map.{lookup}
use Rattle.sq_text.specs.Names.{Bytes, same_name}
use Rattle.sq_ast.specs.declared.program.Variant.{Variant}
use Rattle.sq_blocks.specs.Names.{Numbers, or_zero, number_of}
use Rattle.sq_mapping.proofs.Same.{same, itself}
use Rattle.sq_plantext.specs.declared.text.Binding.{Binding}
use Rattle.sq_plantext.specs.Grammar.{binding}
use Rattle.sq_planfile.specs.Sound.{Once, AreBound}
use Rattle.sq_planfile.specs.Written.{names_in, firsts, bindings_of}
use Rattle.sq_compiled_laws.proofs.LeafNames.{here, later, firsts_once, firsts_bind}
use Rattle.sq_compiled_laws.proofs.LeafMade.{names_of}

abbrev numbered : Numbers → Bytes → Bytes × ℤ
numbered numbers n = (n, number_of numbers n)

number_past : (e : Bytes × ℤ) (es : Numbers) (n : Bytes) → same_name n e.0 ≡ false → number_of (e ∷ es) n
    ≡ number_of es n
number_past e es n h = ap (λ b. or_zero (cond b (Some e.1) (lookup (same_name n) es))) h

apart : (e n : Bytes) (ns : List Bytes) → (Contains (n ∷ ns) e → ⊥) → same_name n e ≡ false
apart e n ns h = by (same_name n e) refl
  where
    by : (b : Bool) → same_name n e ≡ b → b ≡ false
    by true g = absurd (h (subst (Contains (n ∷ ns)) (same n e g) (here n ns)))
    by false g = refl

all_past : (e : Bytes × ℤ) (es : Numbers) (ns : List Bytes) → (Contains ns e.0 → ⊥)
    → map (numbered (e ∷ es)) ns ≡ map (numbered es) ns
all_past e es [] h = refl
all_past e es (n ∷ ns) h =
    ap₂ (λ (x : Bytes × ℤ) l. x ∷ l) (ap (λ z. (n, z)) (number_past e es n (apart e.0 n ns h)))
    (all_past e es ns (λ c. h (later n ns e.0 c)))

own_number : (e : Bytes × ℤ) (es : Numbers) → numbered (e ∷ es) e.0 ≡ e
own_number e es = ap (λ b. (e.0, or_zero (cond b (Some e.1) (lookup (same_name e.0) es)))) (itself e.0)

-- numbers with names that stand once are told by their names
each_own : (numbers : Numbers) → Once (names_of numbers) → map (numbered numbers) (names_of numbers) ≡ numbers
each_own [] o = refl
each_own (e ∷ es) o =
    ap₂ (λ (x : Bytes × ℤ) l. x ∷ l) (own_number e es) (all_past e es (names_of es) o.0 ∙ each_own es o.1)

bindings_tell : (ns : List Bytes) (numbers : Numbers)
    → map (λ (b : Binding). (b.name, b.value)) (map (λ n. binding n (number_of numbers n)) ns)
    ≡ map (numbered numbers) ns
bindings_tell [] numbers = refl
bindings_tell (n ∷ ns) numbers = ap (λ l. numbered numbers n ∷ l) (bindings_tell ns numbers)

bindings_named : (ns : List Bytes) (numbers : Numbers)
    → map (λ (b : Binding). b.name) (map (λ n. binding n (number_of numbers n)) ns) ≡ ns
bindings_named [] numbers = refl
bindings_named (n ∷ ns) numbers = ap (λ l. n ∷ l) (bindings_named ns numbers)

pub numbers_told : (v : Variant) (numbers : Numbers) → names_of numbers ≡ firsts [] (names_in v)
    → map (λ (b : Binding). (b.name, b.value)) (bindings_of v numbers) ≡ numbers
numbers_told v numbers h =
    bindings_tell (firsts [] (names_in v)) numbers
    ∙ (ap (map (numbered numbers)) (sym h)
    ∙ each_own numbers (subst Once (sym h) (firsts_once [] (names_in v) tt)))

pub names_bound : (v : Variant) (numbers : Numbers)
    → AreBound (names_in v) (map (λ (b : Binding). b.name) (bindings_of v numbers))
names_bound v numbers =
    subst (AreBound (names_in v)) (sym (bindings_named (firsts [] (names_in v)) numbers)) (firsts_bind (names_in v))
