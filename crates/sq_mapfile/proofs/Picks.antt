-- The text of a choice: what its number picks, item by item and instance by instance.
use Rattle.std.proofs.Common.{◌≡◌, ◌⊎◌, inl, inr, ℕ, zero, suc, ◌+◌, ◌-◌, ◌*◌, ◌/◌, ◌%◌, ◌==◌, ◌<◌, ◌≤◌, max, false, if◌then◌else◌, List, [], ◌∷◌, length, map, Option, Some, None, slice_get, get_or, option_map, refl, sym, ◌∙◌, ap, subst, arith}
use Rattle.std.proofs.Math.Nat.{mul-div_cancel_left}
use Rattle.std.proofs.lemmas.Nat.{div-mul-add, mod-mul-add}
use Rattle.std.proofs.lemmas.Bool.Decides.{eqb_tells}
use Rattle.std.proofs.lemmas.Option.{slice_get-map, slice_get-get_or, slice_get_within}
use Rattle.std.proofs.lemmas.Grind.{common_steps}
use Rattle.sq_text.specs.declared.word.Word.{Word}
use Rattle.sq_mapping.specs.declared.mapping.Setting.{Setting}
use Rattle.sq_mapfile.specs.declared.text.Alternatives.{Alternatives}
use Rattle.sq_mapfile.specs.declared.text.ItemText.{ItemText}
use Rattle.sq_mapfile.specs.declared.text.ItemText.TheVariants.{Tunable, Call, Spread}
use Rattle.sq_mapfile.specs.declared.text.InstanceText.{InstanceText}
use Rattle.sq_mapfile.specs.declared.text.MappingText.{MappingText}
use Rattle.sq_mapfile.specs.declared.digits.Digits.{Digits}
use Rattle.sq_mapfile.specs.Grammar.{values}
use Rattle.sq_mapfile.specs.Digits.{behind, setting_or, alternative, pick, past}
use Rattle.sq_mapfile.specs.Choices.{each, item_choices, with_items, instance_choices, with_instances, choices_of}
use Rattle.sq_mapfile.proofs.Products.{digits, same_digits, picked, left, Takes, length_map, only_one, only_behind, takes_all}

abbrev pub item_at : Digits → ItemText → ItemText
item_at d (Tunable name its) = Tunable name (values (pick d its) [])
item_at d x = x

abbrev pub item_past : Digits → ItemText → Digits
item_past d (Tunable name its) = past d its
item_past d x = d

abbrev pub items_at : Digits → List ItemText → List ItemText
items_at = picked item_at item_past

abbrev pub items_past : Digits → List ItemText → Digits
items_past = left item_at item_past

abbrev pub instance_at : Digits → InstanceText → InstanceText
instance_at d x = with_items x (items_at d x.items)

abbrev pub instance_past : Digits → InstanceText → Digits
instance_past d x = items_past d x.items

abbrev pub instances_at : Digits → List InstanceText → List InstanceText
instances_at = picked instance_at instance_past

abbrev pub text_at : MappingText → Digits → MappingText
text_at m d = with_instances m (instances_at d m.instances)

-- ---- a tunable

abbrev settings_of : Alternatives → List Setting
settings_of its = its.first ∷ its.others

abbrev with_setting : Word → Setting → ItemText
with_setting name setting = Tunable name (values setting [])

not_zero : (p : ℕ) → (suc p == 0) ≡ false
not_zero p = elim (eqb_tells (suc p) 0) [ inl h ↦ (let e = h.1 in absurd (omega (arith, e))) | inr h ↦ h.0 ]

one_less : (p : ℕ) → suc p - 1 ≡ p
one_less p = omega arith

alternative_at : (its : Alternatives) (q : ℕ) → q < length (settings_of its) → slice_get (settings_of its) q ≡ Some (alternative its q)
alternative_at its zero few = refl
alternative_at its (suc p) few =
    let there : slice_get its.others p ≡ Some (get_or its.others p its.first) = slice_get-get_or its.others p its.first (omega (arith, few)) in
    let is : alternative its (suc p) ≡ setting_or its.first (slice_get its.others p) =
    ap (λ b. if b then its.first else setting_or its.first (slice_get its.others (suc p - 1))) (not_zero p) ∙ ap (λ k. setting_or its.first (slice_get its.others k)) (one_less p) in
    there ∙ sym (ap Some (is ∙ ap (setting_or its.first) there))

most_one : (n : ℕ) → 0 < n → max n 1 ≡ n
most_one n some = grind (arith, common_steps)

-- behind a tunable of w ways, of w parts of b choices, are b
behind_is : (others w b : ℕ) → w ≡ suc others → 0 < b → behind (w * b) others ≡ b
behind_is others w b is some =
    let e : others + 1 ≡ w = omega (arith, is) in
    let ways : 0 < w = omega (arith, is) in
    ap (λ n. max (w * b / n) 1) e ∙ ap (λ n. max n 1) (mul-div_cancel_left b ways) ∙ most_one b some

takes_tunable : (name : Word) (its : Alternatives) → Takes item_choices item_at item_past (Tunable name its)
takes_tunable name its = record {
  some = subst (λ n. 0 < n) (sym count) (omega arith);
  item = λ q s b lt few.
      (let few : q < length (settings_of its) = subst (λ n. q < n) count few in
      slice_get-map (with_setting name) (settings_of its) q
      ∙ ap (option_map (with_setting name)) (alternative_at its q few)
      ∙ ap (λ k. Some (with_setting name (alternative its k))) (sym (picks q s b lt)));
  rest = λ q s b lt few.
      same_digits ((q * b + s) % behind (length (item_choices (Tunable name its)) * b) (length its.others)) s (behind (length (item_choices (Tunable name its)) * b) (length its.others)) b
      (ap (λ n. (q * b + s) % n) (parts s b lt) ∙ mod-mul-add q b s lt) (parts s b lt);
}
  where
    count : length (item_choices (Tunable name its)) ≡ suc (length its.others)
    count = length_map (with_setting name) (settings_of its)

    parts : (s b : ℕ) → s < b → behind (length (item_choices (Tunable name its)) * b) (length its.others) ≡ b
    parts s b lt = behind_is (length its.others) (length (item_choices (Tunable name its))) b count (omega (arith, lt))

    picks : (q s b : ℕ) → s < b → (q * b + s) / behind (length (item_choices (Tunable name its)) * b) (length its.others) ≡ q
    picks q s b lt = ap (λ n. (q * b + s) / n) (parts s b lt) ∙ div-mul-add q b s lt

takes_item : (x : ItemText) → Takes item_choices item_at item_past x
takes_item (Tunable name its) = takes_tunable name its
takes_item (Call task name) = record { some = omega arith; item = λ q s b lt few. only_one (Call task name) q few; rest = λ q s b lt few. only_behind q s b few }
takes_item (Spread word rule) = record { some = omega arith; item = λ q s b lt few. only_one (Spread word rule) q few; rest = λ q s b lt few. only_behind q s b few }

takes_instance : (x : InstanceText) → Takes instance_choices instance_at instance_past x
takes_instance x = record {
  some = subst (λ n. 0 < n) (sym count) inner.some;
  item = λ q s b lt few.
      slice_get-map (with_items x) (each item_choices x.items) q
      ∙ ap (option_map (with_items x)) (inner.item q s b lt (subst (λ n. q < n) count few))
      ∙ ap (λ n. Some (with_items x (items_at (digits (q * b + s) (n * b)) x.items))) (sym count);
  rest = λ q s b lt few.
      ap (λ n. items_past (digits (q * b + s) (n * b)) x.items) count ∙ inner.rest q s b lt (subst (λ n. q < n) count few);
}
  where
    inner : Takes (each item_choices) items_at items_past x.items
    inner = takes_all item_choices item_at item_past takes_item x.items

    count : length (instance_choices x) ≡ length (each item_choices x.items)
    count = length_map (with_items x) (each item_choices x.items)

-- ---- the whole

pub some_choices : (m : MappingText) → 0 < length (choices_of m)
some_choices m =
    let whole = takes_all instance_choices instance_at instance_past takes_instance m.instances in
    subst (λ n. 0 < n) (sym (length_map (with_instances m) (each instance_choices m.instances))) whole.some

-- the choice of this number has the text that the number picks
pub choice_is : (m : MappingText) (n : ℕ) (chosen : MappingText) → slice_get (choices_of m) n ≡ Some chosen
    → chosen ≡ text_at m (digits n (length (choices_of m)))
choice_is m n chosen there =
    let count : length (choices_of m) ≡ length (each instance_choices m.instances) = length_map (with_instances m) (each instance_choices m.instances) in
    let below = slice_get_within (choices_of m) n chosen there in
    let few : n < length (each instance_choices m.instances) = omega (arith, count, below) in
    let whole = takes_all instance_choices instance_at instance_past takes_instance m.instances in
    let item = whole.item n 0 1 (omega arith) few in
    let is : slice_get (choices_of m) n ≡ Some (text_at m (digits (n * 1 + 0) (length (each instance_choices m.instances) * 1))) =
    slice_get-map (with_instances m) (each instance_choices m.instances) n ∙ ap (option_map (with_instances m)) item in
    let same : digits (n * 1 + 0) (length (each instance_choices m.instances) * 1) ≡ digits n (length (choices_of m)) =
    same_digits (n * 1 + 0) n (length (each instance_choices m.instances) * 1) (length (choices_of m)) (omega arith) (omega (arith, count)) in
    ap (text_or chosen) (sym there ∙ is ∙ ap (λ d. Some (text_at m d)) same)
  where
    text_or : MappingText → Option MappingText → MappingText
    text_or x None = x
    text_or x (Some y) = y
