-- What a form brings where loops overlap their transfers: its bytes, and those that it has twice.
use Rattle.std.proofs.Common.{◌≡◌, ◌⊎◌, inr, ℕ, zero, suc, ◌+◌, ◌≤◌, ◌==◌, Bool, true, false, List, [], ◌∷◌}
use Rattle.std.proofs.Common.{◌++◌, length, get_or, refl, sym, ap, ap₂, subst, ◌∙◌, arith, if◌then◌else◌}
use Rattle.std.specs.List.{range_with_len}
use Rattle.sq_forms.specs.declared.form.Form.{Form}
use Rattle.sq_spec.specs.declared.body.FormBody.{FormBody}
use Rattle.sq_spec.specs.declared.resolved.Resolved.{Resolved}
use Rattle.sq_plan_good.specs.Homes.Chosen.declared.choice.Choice.{Choice}
use Rattle.sq_plan_good.specs.Homes.Chosen.Arrays.{deepest, left_by, params_where, hoisted_from, hoisted as left_first}
use Rattle.sq_plan_good.specs.Homes.Chosen.Arrays.{others, again}
use Rattle.sq_plan_good.specs.Homes.Chosen.Arrays.{locals_count, standing, array_size}
use Rattle.sq_plan_good.specs.Homes.Chosen.Forms.{no_choice}
use Rattle.sq_plan_good.specs.Room.{sizes_of}
use Rattle.sq_pass_laws.specs.Pipe.declared.candidate.Candidate.{Candidate}
use Rattle.sq_pass_laws.specs.Pipe.Runs.{Marks}
use Rattle.sq_pass_laws.specs.Pipe.Greedy.{sizes_of as bytes_in, room_of, bytes_of, with_form, taken_from, none_taken}
use Rattle.sq_pass_laws.specs.Pipe.Greedy.{with_overlap, overlaps_from}

-- ---- bytes

module _ (b : FormBody) where
  same_sizes : (is : List ℕ) → sizes_of b is ≡ bytes_in b is
  same_sizes [] = refl
  same_sizes (i ∷ is) = ap (λ n. array_size b i + n) (same_sizes is)

  sizes_append : (is js : List ℕ) → sizes_of b (is ++ js) ≡ sizes_of b is + sizes_of b js
  sizes_append [] js = omega arith
  sizes_append (i ∷ is) js = let h = sizes_append is js in omega (arith, h)

  abbrev four : (is js ks ls : List ℕ) → ℕ
  four is js ks ls = sizes_of b is + (sizes_of b js + (sizes_of b ks + sizes_of b ls))

  sizes_of_four : (is js ks ls : List ℕ) → sizes_of b (is ++ (js ++ (ks ++ ls))) ≡ four is js ks ls
  sizes_of_four is js ks ls =
      let first = sizes_append is (js ++ (ks ++ ls)) in
      let second = sizes_append js (ks ++ ls) in
      let third = sizes_append ks ls in
      omega (arith, first, second, third)

  module _ (c : Choice) where
    left_kept : (t : Bool) (d : ℕ) → hoisted_from d (with_overlap c t) ≡ hoisted_from d c
    left_kept t zero = refl
    left_kept t (suc d) = ap (λ (is : List ℕ). params_where (λ i. left_by c i == suc d) c ++ is) (left_kept t d)

    abbrev locals : List ℕ
    locals = range_with_len (length c.in_place) (locals_count b.arrays c)

    abbrev twice : Bool → List ℕ
    twice t = if t then others c else []

    standing_is : sizes_of b (standing b c) ≡ four (left_first c) (others c) (again c) locals
    standing_is = sizes_of_four (left_first c) (others c) (again c) locals

    standing_with : (t : Bool)
        → sizes_of b (standing b (with_overlap c t)) ≡ four (left_first c) (others c) (twice t) locals
    standing_with t =
        ap (λ (is : List ℕ). sizes_of b (is ++ (others c ++ (twice t ++ locals)))) (left_kept t (deepest c.leaves))
        ∙ sizes_of_four (left_first c) (others c) (twice t) locals

    -- once, and where the loop that calls the form was taken its others once more
    pub brought_with : (r : Resolved) (marks : Marks) (t u : Bool) → (t ≡ true → u ≡ true)
        → sizes_of b (standing b (with_overlap c t)) ≤ bytes_of (room_of r b c marks) u
    brought_with r marks t u h = by t u h (standing_with t)
      where
        own : sizes_of b (standing b c) ≡ bytes_in b (standing b c)
        own = same_sizes (standing b c)

        more : sizes_of b (others c) ≡ bytes_in b (others c)
        more = same_sizes (others c)

        by : (t u : Bool) → (t ≡ true → u ≡ true)
            → sizes_of b (standing b (with_overlap c t)) ≡ four (left_first c) (others c) (twice t) locals
            → sizes_of b (standing b (with_overlap c t))
            ≤ bytes_in b (standing b c) + (if u then bytes_in b (others c) else 0)
        by false u h e = let s = standing_is in omega (arith, e, s, own)
        by true false h e = absurd (let z : false ≡ true = h refl in cc z)
        by true true h e = let s = standing_is in omega (arith, e, s, own, more)

    pub brought_once : (r : Resolved) (marks : Marks) (u : Bool)
        → sizes_of b (standing b c) ≤ bytes_of (room_of r b c marks) u
    brought_once r marks u = let own = same_sizes (standing b c) in omega (arith, own)

-- ---- choices

-- what was chosen, with its loop taken only where that is so
pub record Taking (taken : List Bool) (k : ℕ) (before after : Choice) : Type 0 where
  pub overlaps : Bool
  pub is : after ≡ with_overlap before overlaps
  pub taking : overlaps ≡ true → get_or taken k false ≡ true

pub chosen_with : (taken : List Bool) (k : ℕ) (cs : List Choice) (j m : ℕ) → m ≡ k + j
    → Taking taken m (get_or cs j no_choice) (get_or (overlaps_from taken k cs) j no_choice)
chosen_with taken k [] j m e = record {
  overlaps = false;
  is = refl;
  taking = λ no. absurd (let z : ◌≡◌ {A = Bool} false true = no in cc z);
}
chosen_with taken k (c ∷ cs) zero m e =
    let at : k ≡ m = omega (arith, e) in
    record {
      overlaps = get_or taken k false;
      is = refl;
      taking = λ yes. subst (λ n. get_or taken n false ≡ true) at yes;
    }
chosen_with taken k (c ∷ cs) (suc j) m e = chosen_with taken (k + 1) cs j m (omega (arith, e))

-- ---- where none was taken

pub none_flag : (forms : List Form) (k : ℕ) → get_or (none_taken forms) k false ≡ false
none_flag [] k = refl
none_flag (f ∷ forms) zero = refl
none_flag (f ∷ forms) (suc k) = none_flag forms k

pub none_chosen : (taken : List Bool) → ((k : ℕ) → get_or taken k false ≡ false) → (k : ℕ) (cs : List Choice)
    → ((j : ℕ) → (get_or cs j no_choice).overlaps ≡ false) → overlaps_from taken k cs ≡ cs
none_chosen taken none k [] h = refl
none_chosen taken none k (c ∷ cs) h =
    ap₂ (λ (d : Choice) (ds : List Choice). d ∷ ds) (ap (with_overlap c) (none k ∙ sym (h zero)))
    (none_chosen taken none (k + 1) cs (λ j. h (suc j)))

-- Either none was taken, or all nodes have room for those that were.
pub taken_fits : (fits : List Bool → Bool) (first taken : List Bool) (cs : List Candidate)
    → (taken ≡ first) ⊎ (fits taken ≡ true)
    → (taken_from fits taken cs ≡ first) ⊎ (fits (taken_from fits taken cs) ≡ true)
taken_fits fits first taken [] h = h
taken_fits fits first taken (c ∷ cs) h =
    taken_fits fits first (if fits (with_form taken c.form) then with_form taken c.form else taken) cs
    (by (fits (with_form taken c.form)) refl)
  where
    by : (t : Bool) → fits (with_form taken c.form) ≡ t
        → ((if t then with_form taken c.form else taken) ≡ first)
        ⊎ (fits (if t then with_form taken c.form else taken) ≡ true)
    by true e = inr e
    by false e = h
