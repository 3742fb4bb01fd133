-- Where no fault of choices holds they are counted right: as many as the text has, and no more than there may be.
use Rattle.std.proofs.Common.{◌≡◌, ◌⊎◌, inl, inr, ℕ, suc, ◌+◌, ◌*◌, ◌<◌, ◌≤◌, min, nat_le, nat_lt, true, false, ◌&&◌, List, [], ◌∷◌, length, Option, None, refl, sym, ◌∙◌, ap, arith}
use Rattle.std.proofs.Math.Nat.{mul_assoc, mul-suc, min-eq_left, le-min}
use Rattle.std.proofs.lemmas.Bool.Decides.{leb_tells}
use Rattle.sq_text.specs.declared.code.Code.TheVariants as code
use Rattle.sq_text.specs.declared.fault.Fault.{Fault}
use Rattle.sq_text.specs.declared.word.Word.{Word}
use Rattle.sq_text.specs.Found.{at_word}
use Rattle.sq_ast.specs.declared.program.Program.{Program}
use Rattle.sq_machfile.specs.declared.level.Level.{Level}
use Rattle.sq_mapping.specs.declared.mapping.Setting.{Setting}
use Rattle.sq_mapfile.specs.declared.text.Alternatives.{Alternatives}
use Rattle.sq_mapfile.specs.declared.text.ItemText.{ItemText}
use Rattle.sq_mapfile.specs.declared.text.ItemText.TheVariants.{Tunable, Call, Spread}
use Rattle.sq_mapfile.specs.declared.text.InstanceText.{InstanceText}
use Rattle.sq_mapfile.specs.declared.text.MappingText.{MappingText}
use Rattle.sq_mapfile.specs.Grammar.{values}
use Rattle.sq_mapping.specs.Required.{Required}
use Rattle.sq_mapfile.specs.Faults.{Rule, Scope, scope, required_of}
use Rattle.sq_mapfile.specs.Choices.{each, item_choices, with_items, instance_choices, with_instances, choices_of, most_choices, times, passes, kind_rules, items_rules, items_count, instances_rules, instances_count, choice_rules, BreaksChoices}
use Rattle.sq_mapfile.proofs.Kept.{AllNone, all_none, unbroken}
use Rattle.sq_mapfile.proofs.Products.{as_many, length_map}
use Rattle.sq_mapfile.proofs.Picks.{some_choices}

-- ---- one step

not_over : (before through : ℕ) → before ≤ most_choices → passes before through ≡ false → through ≤ most_choices
not_over before through few e = elim (leb_tells before most_choices) [
  | inl low ↦ (elim (leb_tells (suc most_choices) through) [
    | inl over ↦ absurd (true_not_false (sym (both low.0 over.0) ∙ e))
    | inr under ↦ (let h = under.1 in omega (arith, h))
  ])
  | inr high ↦ (let h = high.1 in absurd (omega (arith, h, few)))
]
  where
    both : nat_le before most_choices ≡ true → nat_lt most_choices through ≡ true → passes before through ≡ true
    both p q = ap (λ b. b && nat_lt most_choices through) p ∙ ap (λ b. true && b) q

    true_not_false : true ≡ false → ⊥
    true_not_false h = cc

small_min : (x k : ℕ) → min x (suc k) ≤ k → min x (suc k) ≡ x
small_min x k le = elim (leb_tells x (suc k)) [
  | inl low ↦ min-eq_left low.1
  | inr high ↦ (let h = high.1 in let all : suc k ≤ min x (suc k) = least_is x (suc k) (omega (arith, h)) in absurd (omega (arith, all, le)))
]
  where
    least_is : (a b : ℕ) → b ≤ a → b ≤ min a b
    least_is a b h = le-min h (omega arith)

-- what is counted, where it isn't over
pub record Counts (before through ways : ℕ) : Type 0 where
  pub few : through ≤ most_choices
  pub is : through ≡ before * ways

more_ways : (a b : ℕ) → a * suc b ≡ a + a * b
more_ways a b = let e = mul-suc a b in omega (arith, e)

-- one more in front
next_count : (count a b w r all : ℕ) → a ≡ count * w → b ≡ a * r → all ≡ w * r → b ≡ count * all
next_count count a b w r all p q l = q ∙ ap (λ n. n * r) p ∙ mul_assoc count w r ∙ ap (λ n. count * n) (sym l)

module _ (required : Option Required) where
  tunable_counts : (count : ℕ) (name : Word) (its : Alternatives) → count ≤ most_choices
      → at_word code.LimitChoices name (passes count (times count (length its.others))) ≡ None → Counts count (times count (length its.others)) (suc (length its.others))
  tunable_counts count name its few none =
      let le : times count (length its.others) ≤ most_choices =
      not_over count (times count (length its.others)) few (unbroken code.LimitChoices name (passes count (times count (length its.others))) none) in
      let is : times count (length its.others) ≡ count + count * length its.others = small_min (count + count * length its.others) most_choices le in
      record { few = le; is = is ∙ sym (more_ways count (length its.others)) }

  rest_of_kinds : (name : Word) (others : List Setting) (later : List Rule) → AllNone (kind_rules required name others later) → AllNone later
  rest_of_kinds name [] later h = h
  rest_of_kinds name (setting ∷ rest) later h = rest_of_kinds name rest later h.1

  items_counts : (count : ℕ) (items : List ItemText) (later : List Rule) → count ≤ most_choices → AllNone (items_rules required count items later)
      → Counts count (items_count count items) (length (each item_choices items)) × AllNone later
  items_counts count [] later few h = let e : count ≡ count * 1 = omega arith in (record { few = few; is = e }, h)
  items_counts count (Tunable name its ∷ rest) later few h =
      let one = tunable_counts count name its few h.0 in
      let more = items_counts (times count (length its.others)) rest later one.few
      (rest_of_kinds name its.others (items_rules required (times count (length its.others)) rest later) h.1) in
      let ways : length (item_choices (Tunable name its)) ≡ suc (length its.others) = length_map (λ setting. Tunable name (values setting [])) (its.first ∷ its.others) in
      let all = as_many (each item_choices rest) (item_choices (Tunable name its)) ∙ ap (λ n. n * length (each item_choices rest)) ways in (
        record {
          few = more.0.few;
          is = next_count count (times count (length its.others)) (items_count (times count (length its.others)) rest) (suc (length its.others))
              (length (each item_choices rest)) (length (each item_choices (Tunable name its ∷ rest))) one.is more.0.is all;
        },
        more.1,
      )
  items_counts count (Call task name ∷ rest) later few h = plain count (Call task name) rest later refl (items_counts count rest later few h)
    where
      plain : (count : ℕ) (x : ItemText) (rest : List ItemText) (later : List Rule) → length (item_choices x) ≡ 1
          → Counts count (items_count count rest) (length (each item_choices rest)) × AllNone later
          → Counts count (items_count count rest) (length (each item_choices (x ∷ rest))) × AllNone later
      plain count x rest later one h =
          let same : count ≡ count * 1 = omega arith in
          let all = as_many (each item_choices rest) (item_choices x) ∙ ap (λ n. n * length (each item_choices rest)) one in
          (record { few = h.0.few; is = next_count count count (items_count count rest) 1 (length (each item_choices rest)) (length (each item_choices (x ∷ rest))) same h.0.is all }, h.1)
  items_counts count (Spread word rule ∷ rest) later few h = plain count (Spread word rule) rest later refl (items_counts count rest later few h)
    where
      plain : (count : ℕ) (x : ItemText) (rest : List ItemText) (later : List Rule) → length (item_choices x) ≡ 1
          → Counts count (items_count count rest) (length (each item_choices rest)) × AllNone later
          → Counts count (items_count count rest) (length (each item_choices (x ∷ rest))) × AllNone later
      plain count x rest later one h =
          let same : count ≡ count * 1 = omega arith in
          let all = as_many (each item_choices rest) (item_choices x) ∙ ap (λ n. n * length (each item_choices rest)) one in
          (record { few = h.0.few; is = next_count count count (items_count count rest) 1 (length (each item_choices rest)) (length (each item_choices (x ∷ rest))) same h.0.is all }, h.1)

instances_counts : (s : Scope) (count : ℕ) (xs : List InstanceText) (later : List Rule) → count ≤ most_choices → AllNone (instances_rules s count xs later)
    → Counts count (instances_count count xs) (length (each instance_choices xs))
instances_counts s count [] later few h = let e : count ≡ count * 1 = omega arith in record { few = few; is = e }
instances_counts s count (x ∷ rest) later few h =
    let one = items_counts (required_of s x) count x.items (instances_rules s (items_count count x.items) rest later) few h in
    let more = instances_counts s (items_count count x.items) rest later one.0.few one.1 in
    let ways : length (instance_choices x) ≡ length (each item_choices x.items) = length_map (with_items x) (each item_choices x.items) in
    let all = as_many (each instance_choices rest) (instance_choices x) ∙ ap (λ n. n * length (each instance_choices rest)) ways in
    record {
      few = more.few;
      is = next_count count (items_count count x.items) (instances_count (items_count count x.items) rest) (length (each item_choices x.items))
          (length (each instance_choices rest)) (length (each instance_choices (x ∷ rest))) one.0.is more.is all;
    }

one_is_few : 1 ≤ most_choices
unfolding most_choices
one_is_few = omega arith

module _ (program : Program) (levels : List Level) (m : MappingText) (none : (g : Fault) → BreaksChoices program levels m g → ⊥) where
  counts : Counts 1 (instances_count 1 m.instances) (length (each instance_choices m.instances))
  counts = instances_counts (scope program levels m) 1 m.instances [] one_is_few (all_none (choice_rules program levels m) (λ g h. none g (inr h)))

  -- there are no more than there may be
  pub few_choices : instances_count 1 m.instances ≤ most_choices
  few_choices = counts.few

  -- and they are those of the text
  pub all_counted : instances_count 1 m.instances ≡ length (choices_of m)
  all_counted =
      let one : 1 * length (each instance_choices m.instances) ≡ length (each instance_choices m.instances) = omega arith in
      counts.is ∙ one ∙ sym (length_map (with_instances m) (each instance_choices m.instances))

  pub one_counted : 1 ≤ instances_count 1 m.instances
  one_counted = let some = some_choices m in let is = all_counted in omega (arith, some, is)
